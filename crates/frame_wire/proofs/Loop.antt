-- Reading items one after another, as a loop does.
use Rattle.std.proofs.Common.{◌≡◌, ℕ, suc, ◌-◌, ◌+◌, ◌≤◌, ◌<◌, List, [], ◌∷◌, ◌++◌, Result, Ok, Err, refl, sym, ap, ◌∙◌, append_assoc, arith}
use Rattle.std.proofs.lemmas.List.{append-nil}
use Rattle.frame_wire.specs.declared.fault.FieldFault.{FieldFault}
use Rattle.frame_wire.specs.declared.fault.ReadError.{ReadError}
use Rattle.frame_wire.specs.declared.fault.ReadError.TheVariants.{Fault, Memory}
use Rattle.frame_wire.specs.Reading.{Spot}
use Rattle.frame_wire.specs.Joins.{◌>>=◌, items_at}
use Rattle.frame_wire.specs.Items.{FailsAs}

-- what was read before, and what is still read
abbrev pub with_front : {A : Type 0} → List A → Result (List A × Spot) FieldFault → Result (List A × Spot) FieldFault
with_front front read = read >>= λ x. Ok (front ++ x.0, x.1)

regroup : {A : Type 0} (front : List A) (n : A) (read : Result (List A × Spot) FieldFault) → with_front front (read >>= λ x. Ok (n ∷ x.0, x.1)) ≡ with_front (front ++ n ∷ []) read
regroup {A} front n (Ok x) = ap (λ (ns : List A). Ok (ns, x.1)) (simp append_assoc)
regroup front n (Err f) = refl

pub goes_on : {A : Type 0} (read : Spot → Result (A × Spot) FieldFault) (front : List A) (count i : ℕ) (s : Spot) (n : A) (t : Spot) (total : Result (List A × Spot) FieldFault) → i < count → read s ≡ Ok (n, t)
    → with_front front (items_at read (count - i) s) ≡ total → with_front (front ++ n ∷ []) (items_at read (count - (i + 1)) t) ≡ total
unfolding items_at
goes_on read front count i s n t total lt h so_far =
    let k : count - i ≡ suc (count - (i + 1)) = omega arith in
    let one : with_front front (items_at read (count - i) s) ≡ with_front (front ++ n ∷ []) (items_at read (count - (i + 1)) t) = rw (k, h) (regroup front n (items_at read (count - (i + 1)) t)) in
    sym one ∙ so_far

pub ends : {A : Type 0} (read : Spot → Result (A × Spot) FieldFault) (e : ReadError) (front : List A) (count i : ℕ) (s : Spot) (total : Result (List A × Spot) FieldFault) → i < count → FailsAs e (read s)
    → with_front front (items_at read (count - i) s) ≡ total → FailsAs e total
unfolding items_at
ends read Memory front count i s total lt h so_far = tt
ends read (Fault f) front count i s total lt h so_far =
    let k : count - i ≡ suc (count - (i + 1)) = omega arith in
    let one : with_front front (items_at read (count - i) s) ≡ Err f = rw (k, h) refl in
    sym so_far ∙ one

pub is_done : {A : Type 0} (read : Spot → Result (A × Spot) FieldFault) (front : List A) (count i : ℕ) (s : Spot) (total : Result (List A × Spot) FieldFault) → count ≤ i → with_front front (items_at read (count - i) s) ≡ total → total ≡ Ok (front, s)
unfolding items_at
is_done {A} read front count i s total le so_far =
    let k : count - i ≡ 0 = omega arith in
    let one : with_front front (items_at read (count - i) s) ≡ Ok (front, s) = rw k (ap (λ (ns : List A). Ok (ns, s)) (append-nil front)) in
    sym so_far ∙ one
