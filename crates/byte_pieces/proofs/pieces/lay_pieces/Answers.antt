use Rattle.std.proofs.Common.{◌≡◌, ◌∙◌, ℕ, List, Vec, length, take, drop, min, ◌-◌, ◌<◌, ap, sym, arith, get_or}
use Rattle.std.proofs.lemmas.List.{take_at, take_rest}
use Rattle.std.specs.Vec.{with_items}
use Rattle.std.specs.declared.alloc.Global.{Global}
use Rattle.byte_pieces.specs.Laid.{lay}
use Rattle.byte_pieces.proofs.Laying.{length_lay}
use Rattle.byte_pieces.proofs.Parts.{lay_step}
use Rattle.byte_pieces.proofs.pieces.lay_pieces.Goals as goal

pub loop-piece-preserved : goal.loop-piece-preserved
loop-piece-preserved c =
    let bytes = c.args.bytes.now in
    let count = c.loop-piece.done in
    let skip = c.loop-piece.skip in
    let v = c.piece-item.result in
    let rest = take_rest bytes count in
    let seen : c.deref_mut.result.now ≡ v.items = c.deref_mut.ensures.value ∙ ap (λ (x : Vec ℕ Global). x.items) (sym c.piece-item.is) in
    let laid : c.lay_part-done.new.piece ≡ lay v.items skip (drop count bytes) = c.lay_part-done.ensures.laid ∙ ap (λ (l : List ℕ). lay l skip (take (length bytes - count) (drop count bytes))) seen ∙ ap (λ (l : List ℕ). lay v.items skip l) rest in
    let put : c.lay_part-done.result ≡ min (length (drop count bytes)) (length v.items - skip) = c.lay_part-done.ensures.count ∙ ap (λ (l : List ℕ). min (length l) (length c.deref_mut.result.now - skip)) rest ∙ ap (λ (l : List ℕ). min (length (drop count bytes)) (length l - skip)) seen in
    let in_range : c.loop-piece.piece-index < length c.loop-piece.pieces = omega arith in
    let size : length c.lay_part-done.new.piece ≡ length c.deref_mut.result.now = ap (length {A = ℕ}) c.lay_part-done.ensures.laid ∙ length_lay c.deref_mut.result.now skip (take (length bytes - count) (drop count bytes)) in
    let old = get_or c.loop-piece.pieces c.loop-piece.piece-index v in
    let end = c.lay_part-done.new.piece in
    let ok = v.ok in
    let autos = c.deref_mut.ensures.len in
    let whole : (with_items old end).items ≡ end = take_at end (drop (length end) old.items) old.len (omega arith) in
    let sizes = ap (length {A = ℕ}) whole in
    lay_step c.loop-piece.pieces c.args.pieces.now c.args.place bytes c.loop-piece.piece-index skip count v (with_items old end) c.lay_part-done.result c.saturating_sub-skip.result c.loop-piece.invariant in_range c.piece-item.is (whole ∙ laid) put (omega arith)
