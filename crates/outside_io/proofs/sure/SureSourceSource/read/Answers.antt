use Rattle.std.proofs.Common.{◌≡◌, Some, List, ℕ, drop, take, sym, ap, ◌∙◌, arith}
use Rattle.std.proofs.lemmas.List.{take_rest, length-append, length-drop}
use Rattle.outside_io.proofs.Copies.{copied}
use Rattle.outside_io.proofs.sure.SureSourceSource.read.Goals as goal

pub returns-clause-took : goal.returns-clause-took
returns-clause-took c =
    let bytes : List ℕ = c.self.inside.bytes.items in
    let at : ℕ = c.self.inside.at in
    let n : ℕ = c.min-count.result in
    let front : List ℕ = c.copy_from_slice.new.self in
    let is : front ≡ take n (drop at bytes) = rw (c.as_slice.ensures.value, take_rest bytes at) at c.copy_from_slice.ensures.after in
    let least = rw (c.as_slice.ensures.value, take_rest bytes at) at c.min-count.ensures in
    let split = sym c.self.view_is ∙ copied bytes c.args.buf.now front at n is (omega arith) in
    (omega arith, omega (arith, length-append front (drop n c.args.buf.now), length-drop n c.args.buf.now), ap (λ (x : List ℕ). Some x) split)
