-- Loops over the items of a row.
use Rattle.std.proofs.Common.{◌≡◌, ℕ, suc, ◌+◌, ◌<◌, ◌≤◌, List, [], ◌∷◌, ◌++◌, length, get_or, drop, refl, sym, ap, subst, ◌∙◌, append_assoc, arith}
use Rattle.std.specs.Prelude.{map, All}
use Rattle.std.specs.List.{AllByRecursion}
use Rattle.std.proofs.Math.Seq.{drop-cons}
use Rattle.std.proofs.lemmas.List.{drop_all, append-nil}
use Rattle.std.proofs.lemmas.List.Elements.{All-from_recursion}
use Rattle.command_fields.specs.Codes.{number_of_code}
use Rattle.command_fields.specs.declared.response.ResponseCode.{ResponseCode}
use Rattle.command_data.specs.declared.item.Refusal.{Refusal}
use Rattle.command_data.specs.declared.item.Tagged.{Tagged}
use Rattle.session_tables.specs.Spelling.{refusal_of}

-- the items from a place on
ahead : {A : Type 0} (xs : List A) (i : ℕ) (x : A) → x ≡ get_or xs i x → i < length xs → drop i xs ≡ x ∷ drop (i + 1) xs
ahead {A} xs i x is lt =
    let next : suc i ≡ i + 1 = omega arith in
    drop-cons xs i x lt ∙ ap (λ (y : A). y ∷ drop (suc i) xs) (sym is) ∙ ap (λ (n : ℕ). x ∷ drop n xs) next

-- the row is made of the items before this place
abbrev pub MadeSo : {A B : Type 0} → (A → B) → List A → ℕ → List B → Type 0
MadeSo f xs i row = row ++ map f (drop i xs) ≡ map f xs

pub made_more : {A B : Type 0} (f : A → B) (xs : List A) (i : ℕ) (row row1 : List B) (x : A) (y : B) → MadeSo f xs i row → x ≡ get_or xs i x → i < length xs → y ≡ f x → row1 ≡ row ++ y ∷ [] → MadeSo f xs (i + 1) row1
made_more {A} {B} f xs i row row1 x y so is lt made wrote =
    ap (λ (r : List B). r ++ map f (drop (i + 1) xs)) (wrote ∙ ap (λ (z : B). row ++ z ∷ []) made) ∙ append_assoc row (f x ∷ []) (map f (drop (i + 1) xs)) ∙ ap (λ (ys : List A). row ++ map f ys) (sym (ahead xs i x is lt)) ∙ so

pub made_all : {A B : Type 0} (f : A → B) (xs : List A) (i : ℕ) (row : List B) → MadeSo f xs i row → length xs ≤ i → row ≡ map f xs
made_all {A} {B} f xs i row so le = sym (append-nil row) ∙ ap (λ (ys : List A). row ++ map f ys) (sym (drop_all i xs le)) ∙ so

-- where it holds of the items from a place on, it holds of all
abbrev pub SeenSo : {A : Type 0} → (A → Type 0) → List A → ℕ → Type 0
SeenSo P xs i = AllByRecursion P (drop i xs) → AllByRecursion P xs

pub seen_more : {A : Type 0} (P : A → Type 0) (xs : List A) (i : ℕ) (x : A) → SeenSo P xs i → x ≡ get_or xs i x → i < length xs → P x → SeenSo P xs (i + 1)
seen_more {A} P xs i x so is lt holds rest = so (subst (λ (ys : List A). AllByRecursion P ys) (sym (ahead xs i x is lt)) (holds, rest))

pub seen_all : {A : Type 0} (P : A → Type 0) (xs : List A) (i : ℕ) → SeenSo P xs i → length xs ≤ i → All P xs
seen_all {A} P xs i so le = All-from_recursion P xs (so (subst (λ (ys : List A). AllByRecursion P ys) (sym (drop_all i xs le)) tt))

snoc : {A : Type 0} (P : A → Type 0) (row : List A) (y : A) → AllByRecursion P row → P y → AllByRecursion P (row ++ y ∷ [])
snoc P [] y all holds = (holds, tt)
snoc P (x ∷ row) y all holds = (all.0, snoc P row y all.1 holds)

pub one_more : {A : Type 0} (P : A → Type 0) (row row1 : List A) (y : A) → AllByRecursion P row → P y → row1 ≡ row ++ y ∷ [] → AllByRecursion P row1
one_more {A} P row row1 y all holds wrote = subst (λ (r : List A). AllByRecursion P r) (sym wrote) (snoc P row y all holds)

abbrev refused_with : ℕ → ℕ → Refusal
refused_with id code = record { id = id; code = code }

pub refused_so : (item : Tagged) (c : ResponseCode) (n : ℕ) (r : Refusal) → n ≡ number_of_code c → r ≡ record { id = item.id; code = n } → r ≡ refusal_of c item
refused_so item c n r is made = made ∙ ap (refused_with item.id) is
