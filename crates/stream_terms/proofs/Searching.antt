-- A search that halves what is left.
use Rattle.std.proofs.Common.{◌≡◌, ℕ, zero, suc, ◌+◌, ◌-◌, ◌*◌, ◌^◌, ◌≤◌, ◌<◌, Bool, true, false, not, cond, nat_lt, List, [], ◌∷◌, length, get_or, refl, sym, ap, subst, ◌∙◌, arith}
use Rattle.std.specs.Prelude.{slice_index}
use Rattle.std.specs.List.{position_or_len}
use Rattle.std.specs.List.Sorted.{IsStrictlyIncreasing}
use Rattle.std.proofs.lemmas.List.Elements.{All-from_recursion}
use Rattle.std.proofs.Math.Nat.{mul-add, mul-le-mul_left, two-pow-succ}
use Rattle.chunk_format.proofs.NameLaws.{Rises, rises_from}

-- the place of the first end above an offset
abbrev pub place_of : ℕ → List ℕ → ℕ
place_of offset ends = position_or_len (nat_lt offset) ends

within_by : (b : Bool) (p n : ℕ) → p ≤ n → cond (not b) (1 + p) 0 ≤ suc n
within_by true p n h = omega arith
within_by false p n h = omega (arith, h)

pub place_within : (offset : ℕ) (ends : List ℕ) → place_of offset ends ≤ length ends
place_within offset [] = omega arith
place_within offset (x ∷ xs) = within_by (nat_lt offset x) (place_of offset xs) (length xs) (place_within offset xs)

zero_by : (b : Bool) (p : ℕ) → b ≡ true → cond (not b) (1 + p) 0 ≡ 0
zero_by true p e = refl
zero_by false p e = absurd cc

more_by : (b : Bool) (p : ℕ) → b ≡ false → cond (not b) (1 + p) 0 ≡ 1 + p
more_by true p e = absurd cc
more_by false p e = refl

-- it is not behind an end that is above the offset
pub above_at : (offset : ℕ) (ends : List ℕ) (k : ℕ) → k < length ends → nat_lt offset (slice_index ends k) ≡ true → place_of offset ends ≤ k
above_at offset [] k lt e = absurd (omega (arith, lt))
above_at offset (x ∷ xs) zero lt e = let none = zero_by (nat_lt offset x) (place_of offset xs) e in omega (arith, none)
above_at offset (x ∷ xs) (suc k) lt e = within_by (nat_lt offset x) (place_of offset xs) k (above_at offset xs k (omega (arith, lt)) e)

head_below : (offset x y : ℕ) → x < y → nat_lt offset y ≡ false → nat_lt offset x ≡ false
head_below offset x y lt e = grind (arith, lt, e)

below_from : (offset : ℕ) (ends : List ℕ) (k : ℕ) → Rises ends → k < length ends → nat_lt offset (slice_index ends k) ≡ false → k < place_of offset ends
below_from offset [] k r lt e = absurd (omega (arith, lt))
below_from offset (x ∷ xs) zero r lt e = let more = more_by (nat_lt offset x) (place_of offset xs) e in omega (arith, more)
below_from offset (x ∷ xs) (suc k) r lt e =
    let inside : k < length xs = omega (arith, lt) in
    let above : x < get_or xs k 0 = All-from_recursion (λ y. x < y) xs r.0 k 0 inside in
    let here = head_below offset x (get_or xs k 0) above e in
    let more = more_by (nat_lt offset x) (place_of offset xs) here in
    let rest = below_from offset xs k r.1 inside e in
    omega (arith, more, rest)

-- it is behind an end that is not
pub below_at : (offset : ℕ) (ends : List ℕ) (k : ℕ) → IsStrictlyIncreasing ends → k < length ends → nat_lt offset (slice_index ends k) ≡ false → k < place_of offset ends
below_at offset ends k rises lt e = below_from offset ends k (rises_from ends rises) lt e

-- The place is among those that are left, and with so many steps so few are left.
pub record Searching (ends : List ℕ) (offset before steps low left : ℕ) : Type 0 where
  pub within : low + left ≤ length ends
  pub from : low ≤ place_of offset ends
  pub to : place_of offset ends ≤ low + left
  pub began : before ≤ steps
  pub power : 2 ^ (steps - before) * left ≤ length ends
  pub bound : 2 ^ (steps - before) ≤ 2 * length ends + 1

pub starts : (ends : List ℕ) (offset before left : ℕ) → left ≡ length ends → Searching ends offset before before 0 left
starts ends offset before left is =
    let none : before - before ≡ 0 = omega arith in
    let one : 2 ^ (before - before) ≡ 1 = ap (λ (n : ℕ). 2 ^ n) none in
    let whole = place_within offset ends in
    record {
      within = omega (arith, is);
      from = omega arith;
      to = omega (arith, whole, is);
      began = omega arith;
      power = let times : 2 ^ (before - before) * left ≡ 1 * left = ap (λ (n : ℕ). n * left) one in omega (arith, times, is);
      bound = omega (arith, one);
    }

record Halved (p n less : ℕ) : Type 0 where
  pub power : (p + p) * less ≤ n
  pub bound : p + p ≤ 2 * n + 1

halved : (p n left less : ℕ) → less + less ≤ left → 1 ≤ left → p * left ≤ n → Halved p n less
halved p n left less half some power =
    let scaled = mul-le-mul_left p half in
    let parts = mul-add p less less in
    let one = mul-le-mul_left p some in
    record { power = omega (arith, scaled, parts, power); bound = omega (arith, one, power) }

-- one step of the search: the upper half is left, or the lower one
pub turns : (ends : List ℕ) (offset before steps low left next from less : ℕ) → Searching ends offset before steps low left → next ≡ steps + 1 → 1 ≤ left → less + less ≤ left
    → from + less ≤ length ends → from ≤ place_of offset ends → place_of offset ends ≤ from + less → Searching ends offset before next from less
turns ends offset before steps low left next from less s is some half within at_least at_most =
    let began = s.began in
    let more : next - before ≡ suc (steps - before) = omega (arith, is, began) in
    let twice : 2 ^ (next - before) ≡ 2 ^ (steps - before) + 2 ^ (steps - before) = ap (λ (n : ℕ). 2 ^ n) more ∙ two-pow-succ (steps - before) in
    let now = halved (2 ^ (steps - before)) (length ends) left less half some s.power in
    record {
      within = within;
      from = at_least;
      to = at_most;
      began = omega (arith, is, began);
      power = subst (λ (n : ℕ). n * less ≤ length ends) (sym twice) now.power;
      bound = subst (λ (n : ℕ). n ≤ 2 * length ends + 1) (sym twice) now.bound;
    }
