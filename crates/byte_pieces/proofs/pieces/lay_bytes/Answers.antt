use Rattle.std.proofs.Common.{◌≡◌, ◌∙◌, ◌-◌, ◌++◌, ℕ, List, Vec, length, take, drop, min, ap, arith, length-append}
use Rattle.std.proofs.lemmas.List.{take_at, take_rest}
use Rattle.std.specs.declared.alloc.Global.{Global}
use Rattle.byte_pieces.specs.Joined.{joined, all_bytes}
use Rattle.byte_pieces.specs.Laid.{lay}
use Rattle.byte_pieces.proofs.Parts.{lay_last}
use Rattle.byte_pieces.proofs.Laying.{length_lay}
use Rattle.byte_pieces.proofs.pieces.lay_bytes.Goals as goal

pub bytes_before-requires : goal.bytes_before-requires
bytes_before-requires c =
    let full = c.args.full.now.items in
    let new = c.lay_pieces-done.new.pieces in
    let e = c.deref_mut.ensures in
    let ok = c.args.full.now.ok in
    let size = c.lay_pieces-done.auto.pieces in
    let whole : take c.args.full.now.len (new ++ drop (length new) full) ≡ new = take_at new (drop (length new) full) c.args.full.now.len (omega arith) in
    let same : joined c.deref.result.now ≡ lay (joined full) c.args.place c.args.bytes.now =
    ap joined (c.deref.ensures.value ∙ whole) ∙ c.lay_pieces-done.ensures.laid ∙ ap (λ (l : List (Vec ℕ Global)). lay (joined l) c.args.place c.args.bytes.now) e.value in
    omega (arith, ap (length {A = ℕ}) same, length_lay (joined full) c.args.place c.args.bytes.now, length-append (joined full) c.args.last.now.items, c.requires.small)

pub returns-clause-laid : goal.returns-clause-laid
returns-clause-laid c =
    let full = c.args.full.now.items in
    let last = c.args.last.now.items in
    let bytes = c.args.bytes.now in
    let new = c.lay_pieces-done.new.pieces in
    let end = c.lay_part.new.piece in
    let count = c.lay_pieces-done.result in
    let skip = c.saturating_sub-skip.result in
    let e = c.deref_mut.ensures in
    let f = c.deref_mut-2.ensures in
    let ok = c.args.full.now.ok in
    let ok_last = c.args.last.now.ok in
    let size = c.lay_pieces-done.auto.pieces in
    let size_last = c.lay_part.auto.piece in
    let whole : take c.args.full.now.len (new ++ drop (length new) full) ≡ new = take_at new (drop (length new) full) c.args.full.now.len (omega arith) in
    let whole_last : take c.args.last.now.len (end ++ drop (length end) last) ≡ end = take_at end (drop (length end) last) c.args.last.now.len (omega arith) in
    let front : joined new ≡ lay (joined full) c.args.place bytes = c.lay_pieces-done.ensures.laid ∙ ap (λ (l : List (Vec ℕ Global)). lay (joined l) c.args.place bytes) e.value in
    let so_far : count ≡ min (length bytes) (length (joined full) - c.args.place) = c.lay_pieces-done.ensures.count ∙ ap (λ (l : List (Vec ℕ Global)). min (length bytes) (length (joined l) - c.args.place)) e.value in
    let before : c.bytes_before.result ≡ length (joined full) =
    c.bytes_before.ensures ∙ ap (λ (l : List (Vec ℕ Global)). length (joined l)) (c.deref.ensures.value ∙ whole) ∙ ap (length {A = ℕ}) front ∙ length_lay (joined full) c.args.place bytes in
    let to_skip : skip ≡ c.args.place - length (joined full) = c.saturating_sub-skip.ensures ∙ ap (λ (n : ℕ). c.args.place - n) before in
    let laid : end ≡ lay last skip (drop count bytes) =
    c.lay_part.ensures.laid ∙ ap (λ (l : List ℕ). lay l skip (take (length bytes - count) (drop count bytes))) f.value ∙ ap (λ (l : List ℕ). lay last skip l) (take_rest bytes count) in
    ap (λ (l : List (Vec ℕ Global)). all_bytes l (take c.args.last.now.len (end ++ drop (length end) last))) whole
    ∙ ap (λ (l : List ℕ). all_bytes new l) whole_last
    ∙ lay_last full new last end c.args.place bytes skip count front so_far to_skip laid c.requires.within
