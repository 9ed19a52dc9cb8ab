use Rattle.std.proofs.Common.{◌≡◌, ◌∙◌, ◌-◌, ◌++◌, ℕ, List, length, take, drop, min, ap, arith}
use Rattle.std.proofs.lemmas.List.{take_rest}
use Rattle.byte_pieces.specs.Joined.{joined, all_bytes}
use Rattle.byte_pieces.proofs.Parts.{read_last, put_end}
use Rattle.byte_pieces.proofs.pieces.read_bytes.Goals as goal

pub returns : goal.returns
returns c =
    let full = c.args.full.now in
    let last = c.args.last.now in
    let buf = c.read_pieces-done.new.buf in
    let tail = c.read_part.new.buf in
    let count = c.read_pieces-done.result in
    let skip = c.saturating_sub-skip.result in
    let n = c.read_part.result in
    let same : length buf ≡ length c.args.buf.now = c.read_pieces-done.auto.buf in
    let rest = take_rest buf count in
    let so_far : count ≡ min (length buf) (length (joined full) - c.args.place) = omega (arith, c.read_pieces-done.ensures.count) in
    let to_skip : skip ≡ c.args.place - length (joined full) = c.saturating_sub-skip.ensures ∙ ap (λ (k : ℕ). c.args.place - k) c.bytes_before.ensures in
    let left = take (length buf - count) (drop count buf) in
    let read : tail ≡ take n (drop skip last) ++ drop n (drop count buf) = c.read_part.ensures.read ∙ ap (λ (l : List ℕ). take n (drop skip last) ++ drop n l) rest in
    let put : n ≡ min (length (drop count buf)) (length last - skip) = c.read_part.ensures.count ∙ ap (λ (l : List ℕ). min (length l) (length last - skip)) rest in
    read_last (joined full) last buf _ tail c.args.place skip count n c.read_pieces-done.ensures.read so_far to_skip (put_end count buf tail) read put (omega arith)
    ∙ ap (λ (k : ℕ). take k (drop c.args.place (all_bytes full last))) same
