use Rattle.std.proofs.Common.{◌≡◌, ◌∙◌, ℕ, List, ◌++◌, length, take, drop, min, ◌-◌, ap, arith}
use Rattle.std.proofs.lemmas.List.{take_rest}
use Rattle.byte_pieces.proofs.Parts.{read_step, put_end}
use Rattle.byte_pieces.proofs.pieces.read_pieces.Goals as goal

pub loop-piece-preserved : goal.loop-piece-preserved
loop-piece-preserved c =
    let buf = c.loop-piece.buf in
    let count = c.loop-piece.done in
    let skip = c.loop-piece.skip in
    let v = c.piece-item.result in
    let tail = c.read_part-done.new.buf in
    let n = c.read_part-done.result in
    let rest = take_rest buf count in
    let seen : c.deref.result.now ≡ v.items = c.deref.ensures.value in
    let left = take (length buf - count) (drop count buf) in
    let read : tail ≡ take n (drop skip v.items) ++ drop n (drop count buf) = c.read_part-done.ensures.read ∙ ap (λ (l : List ℕ). take n (drop skip l) ++ drop n left) seen ∙ ap (λ (l : List ℕ). take n (drop skip v.items) ++ drop n l) rest in
    let put : n ≡ min (length (drop count buf)) (length v.items - skip) = c.read_part-done.ensures.count ∙ ap (λ (l : List ℕ). min (length left) (length l - skip)) seen ∙ ap (λ (l : List ℕ). min (length l) (length v.items - skip)) rest in
    let ok = v.ok in
    let autos = c.deref.ensures.len in
    read_step c.args.pieces.now c.args.place buf _ tail c.loop-piece.piece-index skip count n c.saturating_sub-skip.result v c.loop-piece.invariant c.loop-piece-test.true c.piece-item.is (put_end count buf tail) read put (omega arith)
