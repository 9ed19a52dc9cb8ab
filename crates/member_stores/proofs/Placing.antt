-- What is there of each member, where places are added and set.
use Rattle.std.proofs.Common.{◌≡◌, ◌≢◌, ◌<◌, ◌≤◌, ℕ, zero, suc, Bool, true, ◌==◌, ◌&&◌, List, [], ◌∷◌, ◌++◌, length, Option, Some, None, slice_set, slice_index_or, refl, sym, ap, ◌∙◌, arith}
use Rattle.std.proofs.lemmas.List.{get_or-set_same, get_or-set_other}
use Rattle.segment_store.specs.Receipts.{JobDone}
use Rattle.member_stores.specs.declared.shelf.Shelf.{Shelf}
use Rattle.member_stores.specs.Shelves.{shelf_of, is_receipt_of, OthersStay}

-- a place more with nothing in it shows the same
pub more : (member : ℕ) (xs : List (Option Shelf)) → shelf_of member (xs ++ None ∷ []) ≡ shelf_of member xs
more zero [] = refl
more (suc zero) [] = refl
more (suc (suc m)) [] = refl
more zero (x ∷ xs) = refl
more (suc m) (x ∷ xs) = more m xs

-- behind the places there is nothing
pub behind : (member : ℕ) (xs : List (Option Shelf)) → length xs ≤ member → shelf_of member xs ≡ None
behind zero [] le = refl
behind (suc m) [] le = refl
behind zero (x ∷ xs) le = absurd (omega arith)
behind (suc m) (x ∷ xs) le = behind m xs (omega arith)

pub own : (member : ℕ) (xs : List (Option Shelf)) (x : Option Shelf) → member < length xs → shelf_of member (slice_set xs member x) ≡ x
own member xs x lt = get_or-set_same xs member x None lt

pub others : (member : ℕ) (xs : List (Option Shelf)) (x : Option Shelf) → OthersStay member xs (slice_set xs member x)
others member xs x = λ other apart. get_or-set_other xs member other x None apart

-- what stands at a place that is there
pub at_place : (member len n : ℕ) (xs now : List (Option Shelf)) (x : Option Shelf) → now ≡ xs → member < len → len ≡ n → n ≡ length xs → x ≡ slice_index_or xs member x → shelf_of member now ≡ x
at_place member len n xs now x is lt len_is n_is at = ap (shelf_of member) is ∙ sym (at ∙ other_default member xs x None (omega (arith, lt, len_is, n_is)))
  where
    other_default : (i : ℕ) (ys : List (Option Shelf)) (d e : Option Shelf) → i < length ys → slice_index_or ys i d ≡ slice_index_or ys i e
    other_default i [] d e lt = absurd (omega arith)
    other_default zero (y ∷ ys) d e lt = refl
    other_default (suc i) (y ∷ ys) d e lt = other_default i ys d e (omega arith)

-- a store is put at a place that was made
pub put_own : (member : ℕ) (xs ys zs : List (Option Shelf)) (x : Option Shelf) → member < length ys → zs ≡ slice_set ys member x → shelf_of member zs ≡ x
put_own member xs ys zs x lt is = ap (shelf_of member) is ∙ own member ys x lt

pub put_others : (member : ℕ) (xs ys zs : List (Option Shelf)) (x : Option Shelf) → ((m : ℕ) → shelf_of m ys ≡ shelf_of m xs) → zs ≡ slice_set ys member x → OthersStay member xs zs
put_others member xs ys zs x same is = λ other apart. ap (shelf_of other) is ∙ others member ys x other apart ∙ same other

-- a receipt of a job is that job's
pub is_of : (stream member number : ℕ) (r : JobDone) → is_receipt_of stream member number r ≡ true → r ≡ record { stream = stream; member = member; number = number }
is_of stream member number r h = grind arith
