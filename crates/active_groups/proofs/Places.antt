-- The first item that passes: its place, and the list once it is changed.
use Rattle.std.proofs.Common.{◌≡◌, ◌≤◌, ◌<◌, ℕ, zero, suc, Bool, true, false, List, [], ◌∷◌, length, Some, None, position, slice_set, slice_index_or, refl, sym, ap, ◌∙◌, arith}
use Rattle.std.specs.List.{list_any, find, position_or_len}
use Rattle.std.proofs.lemmas.Grind.{common_steps}
use Rattle.active_groups.specs.Changes.{at_place, at_first}

pub there : {A : Type 0} (p : A → Bool) (xs : List A) (i : ℕ) → position p xs ≡ Some i → (position_or_len p xs ≡ i) × (i < length xs)
there p xs i h = (grind arith, grind arith)

pub nowhere : {A : Type 0} (p : A → Bool) (xs : List A) → position p xs ≡ None → length xs ≤ position_or_len p xs
nowhere p xs h = grind arith

-- ---- an item at its place

pub set_there : {A : Type 0} (f : A → A) (xs : List A) (i : ℕ) (x : A) → i < length xs → x ≡ slice_index_or xs i x → slice_set xs i (f x) ≡ at_place i f xs
set_there f [] i x lt is = absurd (omega arith)
set_there f (y ∷ xs) zero x lt is = grind (arith, common_steps)
set_there f (y ∷ xs) (suc i) x lt is = grind (arith, common_steps, set_there f xs i x)

first_there : {A : Type 0} (p : A → Bool) (f : A → A) (xs : List A) → position_or_len p xs < length xs → at_place (position_or_len p xs) f xs ≡ at_first p f xs
first_there p f [] lt = absurd (omega arith)
first_there p f (y ∷ xs) lt = grind (arith, common_steps, first_there p f xs)

first_nowhere : {A : Type 0} (p : A → Bool) (f : A → A) (xs : List A) → length xs ≤ position_or_len p xs → at_first p f xs ≡ xs
first_nowhere p f [] le = refl
first_nowhere p f (y ∷ xs) le = grind (arith, common_steps, first_nowhere p f xs)

found_there : {A : Type 0} (p : A → Bool) (xs : List A) (x : A) → position_or_len p xs < length xs → x ≡ slice_index_or xs (position_or_len p xs) x → find p xs ≡ Some x
found_there p [] x lt is = absurd (omega arith)
found_there p (y ∷ xs) x lt is = grind (arith, common_steps, found_there p xs x)

found_nowhere : {A : Type 0} (p : A → Bool) (xs : List A) → length xs ≤ position_or_len p xs → find p xs ≡ None
found_nowhere p [] le = refl
found_nowhere p (y ∷ xs) le = grind (arith, common_steps, found_nowhere p xs)

any_there : {A : Type 0} (p : A → Bool) (xs : List A) → position_or_len p xs < length xs → list_any p xs ≡ true
any_there p [] lt = absurd (omega arith)
any_there p (y ∷ xs) lt = grind (arith, common_steps, any_there p xs)

any_nowhere : {A : Type 0} (p : A → Bool) (xs : List A) → length xs ≤ position_or_len p xs → list_any p xs ≡ false
any_nowhere p [] le = refl
any_nowhere p (y ∷ xs) le = grind (arith, common_steps, any_nowhere p xs)

-- ---- by the answer of `position`

pub changed : {A : Type 0} (p : A → Bool) (f : A → A) (xs : List A) (i : ℕ) (x : A) → position p xs ≡ Some i → x ≡ slice_index_or xs i x → slice_set xs i (f x) ≡ at_first p f xs
changed p f xs i x h is =
    let at = there p xs i h in
    set_there f xs i x at.1 is ∙ ap (λ k. at_place k f xs) (sym at.0) ∙ first_there p f xs (rw at.0 at.1)

pub unchanged : {A : Type 0} (p : A → Bool) (f : A → A) (xs : List A) → position p xs ≡ None → at_first p f xs ≡ xs
unchanged p f xs h = first_nowhere p f xs (nowhere p xs h)

pub found : {A : Type 0} (p : A → Bool) (xs : List A) (i : ℕ) (x : A) → position p xs ≡ Some i → x ≡ slice_index_or xs i x → find p xs ≡ Some x
found p xs i x h is = let at = there p xs i h in found_there p xs x (rw at.0 at.1) (rw at.0 is)

pub missing : {A : Type 0} (p : A → Bool) (xs : List A) → position p xs ≡ None → find p xs ≡ None
missing p xs h = found_nowhere p xs (nowhere p xs h)

pub any : {A : Type 0} (p : A → Bool) (xs : List A) (i : ℕ) → position p xs ≡ Some i → list_any p xs ≡ true
any p xs i h = let at = there p xs i h in any_there p xs (rw at.0 at.1)

pub none : {A : Type 0} (p : A → Bool) (xs : List A) → position p xs ≡ None → list_any p xs ≡ false
none p xs h = any_nowhere p xs (nowhere p xs h)
