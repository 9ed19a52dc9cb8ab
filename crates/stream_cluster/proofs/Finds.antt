-- What was found on a disk.
use Rattle.std.proofs.Common.{◌≡◌, ◌≤◌, ◌<◌, ◌+◌, ◌==◌, ℕ, zero, suc, Bool, true, false, List, [], ◌∷◌, ◌++◌, length, take, drop, slice_index_or, refl, sym, ap, ◌∙◌, arith, length-append}
use Rattle.std.specs.Prelude.{IsTrue, ◌↔◌}
use Rattle.std.proofs.lemmas.List.{take_all, append-nil}
use Rattle.chunk_format.specs.declared.chunk.Chunk.{Chunk}
use Rattle.chunk_format.specs.Logs.{GoesOn}
use Rattle.cluster_core.specs.Fronts.{Differ}

same_number : (a b : ℕ) → (a == b) ≡ true → a ≡ b
same_number a b h = grind arith

less_than : (a b : ℕ) → a ≤ b → (a == b) ≡ false → a < b
less_than a b le ne = grind arith

take_drop : {A : Type 0} (n : ℕ) (xs : List A) → xs ≡ take n xs ++ drop n xs
take_drop zero xs = refl
take_drop (suc n) [] = refl
take_drop {A} (suc n) (x ∷ xs) = ap (λ (z : List A). x ∷ z) (take_drop n xs)

pub record Item {A : Type 0} (xs : List A) (i : ℕ) : Type 0 where
  pub item : A
  pub is : item ≡ slice_index_or xs i item

pub item_at : {A : Type 0} (xs : List A) (i : ℕ) → i < length xs → Item xs i
item_at [] i lt = absurd (omega (arith, lt))
item_at (x ∷ xs) zero lt = record { item = x; is = refl }
item_at (x ∷ xs) (suc i) lt = let n = item_at xs i (omega (arith, lt)) in record { item = n.item; is = n.is }

in_front : {A : Type 0} (xs more : List A) (i : ℕ) (x : A) → i < length xs → x ≡ slice_index_or xs i x → x ≡ slice_index_or (xs ++ more) i x
in_front [] more i x lt is = absurd (omega (arith, lt))
in_front (y ∷ xs) more zero x lt is = is
in_front (y ∷ xs) more (suc i) x lt is = in_front xs more i x (omega (arith, lt)) is

-- ---- a list begins another one

module _ (one other : List Chunk) (n : ℕ) (front : take n one ≡ take n other) (within : n ≤ length one) (within_other : n ≤ length other) (differ : Differ one other n) where
  begins_to : (n == length one) ≡ true → GoesOn one other
  begins_to h =
      let whole : take n one ≡ one = ap (λ (k : ℕ). take k one) (same_number n (length one) h) ∙ take_all (length one) one (omega arith) in
      (drop n other, take_drop n other ∙ ap (λ (l : List Chunk). l ++ drop n other) (sym front ∙ whole))

  begins_back : GoesOn one other → (n == length one) ≡ true
  begins_back g = by (n == length one) refl
    where
      by : (b : Bool) → (n == length one) ≡ b → b ≡ true
      by true is = refl
      by false is =
          let lt = less_than n (length one) within is in
          let x = item_at one n lt in
          let count = ap length g.1 ∙ length-append one g.0 in
          let there : x.item ≡ slice_index_or other n x.item = in_front one g.0 n x.item lt x.is ∙ sym (ap (λ (l : List Chunk). slice_index_or l n x.item) g.1) in
          absurd (differ x.item x.item lt (omega (arith, lt, count)) x.is there refl)

  pub begins_is : IsTrue (n == length one) ↔ GoesOn one other
  begins_is = (begins_to, begins_back)

-- ---- the same list, or with one chunk more

none_more : (one other : List Chunk) → length one ≡ length other → GoesOn one other → other ≡ one
none_more one other same g = by g.0 g.1
  where
    by : (more : List Chunk) → other ≡ one ++ more → other ≡ one
    by [] e = e ∙ append-nil one
    by (c ∷ more) e = let n = ap length e ∙ length-append one (c ∷ more) in absurd (omega (arith, n, same))

pub same_list : (one other : List Chunk) (b : Bool) → length one ≡ length other → (IsTrue b ↔ GoesOn one other) → (IsTrue b ↔ (other ≡ one))
same_list one other b same h = (λ t. none_more one other same (h.0 t), λ e. h.1 ([], e ∙ sym (append-nil one)))

pub unlike : (one other : List Chunk) → (length one ≡ length other → ⊥) → (IsTrue false ↔ (other ≡ one))
unlike one other ne = (λ t. absurd (cc t), λ e. absurd (ne (sym (ap length e))))

last_of : (log found : List Chunk) (x c : Chunk) → GoesOn log found → length found ≡ length log + 1 → x ≡ slice_index_or found (length log) x → x ≡ c → found ≡ log ++ c ∷ []
last_of log found x c g n is e = by g.0 g.1
  where
    at_end : (l : List Chunk) (d : Chunk) → slice_index_or (l ++ d ∷ []) (length l) x ≡ d
    at_end [] d = refl
    at_end (y ∷ l) d = at_end l d

    by : (more : List Chunk) → found ≡ log ++ more → found ≡ log ++ c ∷ []
    by [] f = let k = ap length f ∙ length-append log [] in absurd (omega (arith, k, n))
    by (d ∷ []) f = f ∙ ap (λ (z : Chunk). log ++ z ∷ []) (sym (at_end log d) ∙ sym (ap (λ (l : List Chunk). slice_index_or l (length log) x) f) ∙ sym is ∙ e)
    by (d ∷ b ∷ more) f = let k = ap length f ∙ length-append log (d ∷ b ∷ more) in absurd (omega (arith, k, n))

item_last : (log found : List Chunk) (x c : Chunk) → x ≡ slice_index_or found (length log) x → found ≡ log ++ c ∷ [] → x ≡ c
item_last log found x c is e = is ∙ ap (λ (l : List Chunk). slice_index_or l (length log) x) e ∙ at_end log
  where
    at_end : (l : List Chunk) → slice_index_or (l ++ c ∷ []) (length l) x ≡ c
    at_end [] = refl
    at_end (y ∷ l) = at_end l

pub with_one : (log found : List Chunk) (x c : Chunk) (b : Bool) → length found ≡ length log + 1 → x ≡ slice_index_or found (length log) x → x ≡ c → (IsTrue b ↔ GoesOn log found) → (IsTrue b ↔ (found ≡ log ++ c ∷ []))
with_one log found x c b n is same h = (λ t. last_of log found x c (h.0 t) n is same, λ e. h.1 (c ∷ [], e))

pub not_with : (log found : List Chunk) (x c : Chunk) → x ≡ slice_index_or found (length log) x → (x ≡ c → ⊥) → (IsTrue false ↔ (found ≡ log ++ c ∷ []))
not_with log found x c is ne = (λ t. absurd (cc t), λ e. absurd (ne (item_last log found x c is e)))

pub other_count : (log found : List Chunk) (c : Chunk) → (length found ≡ length log + 1 → ⊥) → (IsTrue false ↔ (found ≡ log ++ c ∷ []))
other_count log found c ne = (λ t. absurd (cc t), λ e. absurd (ne (let k = ap length e ∙ length-append log (c ∷ []) in omega (arith, k))))
