-- Bytes that are added one part after another.
use Rattle.std.proofs.Common.{◌≡◌, ℕ, ◌≤◌, List, ◌++◌, length, take, Result, Ok, Err, sym, ap, subst, ◌∙◌, append_assoc, arith}
use Rattle.std.proofs.Math.Seq.{take-append_seam, take-length}
use Rattle.std.proofs.lemmas.List.{length-append, take-take}
use Rattle.std.specs.Prelude.{OnOk, OnErr}
use Rattle.std.specs.declared.alloc.AllocError.{AllocError}
use Rattle.command_fields.specs.Adding.{Adds}
use Rattle.command_fields.specs.Tables.{Table, IsCommand}

-- a front of a front
kept : (old front new : List ℕ) → take (length (old ++ front)) new ≡ old ++ front → take (length old) new ≡ old
kept old front new e =
    let n : length old ≤ length (old ++ front) = omega (arith, length-append old front) in
    sym (take-take (length old) (length (old ++ front)) new n) ∙ ap (take (length old)) e ∙ take-append_seam old front

-- a part, and then others behind it
pub adds_more : (r : Result (Unit {0}) AllocError) (old mid new front bytes : List ℕ) → mid ≡ old ++ front → Adds r mid new bytes → Adds r old new (front ++ bytes)
adds_more (Ok u) old mid new front bytes is added = added ∙ ap (λ (m : List ℕ). m ++ bytes) is ∙ append_assoc old front bytes
adds_more (Err e) old mid new front bytes is added = kept old front new (ap (λ (m : List ℕ). take (length m) new) (sym is) ∙ added ∙ is)

-- a part that is added whole or not at all
pub adds_whole : (r : Result (Unit {0}) AllocError) (old new bytes : List ℕ) → OnOk r (new ≡ old ++ bytes) → OnErr r (new ≡ old) → Adds r old new bytes
adds_whole (Ok u) old new bytes ok err = ok
adds_whole (Err e) old new bytes ok err = ap (take (length old)) err ∙ take-length old

-- ---- a command that is known by its parts

pub command_as : {C K : Type 0} (table : Table C K) {c d : C} → c ≡ d → IsCommand table c → IsCommand table d
command_as table is fits = subst (IsCommand table) is fits

-- its fields were added
pub fields_added : {C K : Type 0} (table : Table C K) {c d : C} (r : Result (Unit {0}) AllocError) (new old : List ℕ) → c ≡ d → Adds r old new ((table.layout_of (table.key d)).format.spell (table.fields d))
    → Adds r old new ((table.layout_of (table.key c)).format.spell (table.fields c))
fields_added {C} table r new old is added = subst (λ (x : C). Adds r old new ((table.layout_of (table.key x)).format.spell (table.fields x))) (sym is) added
