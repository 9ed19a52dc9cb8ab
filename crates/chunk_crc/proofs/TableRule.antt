-- Each table has what one zero byte makes of the entries of the table before; the first, of each byte.
use Rattle.std.proofs.Common.{◌≡◌, ℕ, zero, suc, ◌+◌, ◌<◌, Bool, true, false, ◌&&◌, eqb, List, [], ◌∷◌, length, get_or, refl, ap, ◌∙◌, zero-add, arith}
use Rattle.std.specs.List.{range_with_len}
use Rattle.std.proofs.lemmas.Bool.{eqb-true}
use Rattle.std.proofs.lemmas.List.FromFn.{length-range_with_len, get_or-range_with_len}
use Rattle.chunk_crc.specs.declared.tables.TheConstants.{TABLES}
use Rattle.chunk_crc.specs.Crc.{bit_step, eight_steps, zero_bytes}

-- each entry is eight steps behind the one before
abbrev follows : List ℕ → List ℕ → Bool
follows [] [] = true
follows [] (y ∷ ys) = false
follows (x ∷ xs) [] = false
follows (x ∷ xs) (y ∷ ys) = eqb y (eight_steps x) && follows xs ys

abbrev follow : List ℕ → List (List ℕ) → Bool
follow before [] = true
follow before (table ∷ tables) = follows before table && follow table tables

and_left : (a b : Bool) → (a && b) ≡ true → a ≡ true
and_left true b h = refl
and_left false b h = h

and_right : (a b : Bool) → (a && b) ≡ true → b ≡ true
and_right true b h = h
and_right false b h = absurd cc

same_length : (xs ys : List ℕ) → follows xs ys ≡ true → length xs ≡ length ys
same_length [] [] h = refl
same_length [] (y ∷ ys) h = absurd cc
same_length (x ∷ xs) [] h = absurd cc
same_length (x ∷ xs) (y ∷ ys) h = ap suc (same_length xs ys (and_right (eqb y (eight_steps x)) (follows xs ys) h))

entry : (xs ys : List ℕ) (i : ℕ) → follows xs ys ≡ true → i < length xs → get_or ys i 0 ≡ eight_steps (get_or xs i 0)
entry [] ys i h lt = absurd (omega arith)
entry (x ∷ xs) [] i h lt = absurd cc
entry (x ∷ xs) (y ∷ ys) zero h lt = eqb-true y (eight_steps x) (and_left _ _ h)
entry (x ∷ xs) (y ∷ ys) (suc i) h lt = entry xs ys i (and_right (eqb y (eight_steps x)) (follows xs ys) h) (omega arith)

entry_of : (tables : List (List ℕ)) (before : List ℕ) (n i : ℕ) → follow before tables ≡ true → n < length tables → i < length before → get_or (get_or tables n []) i 0 ≡ zero_bytes (suc n) (get_or before i 0)
unfolding zero_bytes
entry_of [] before n i h some lt = absurd (omega arith)
entry_of (table ∷ tables) before zero i h some lt = entry before table i (and_left _ _ h) lt
entry_of (table ∷ tables) before (suc n) i h some lt =
    let first : follows before table ≡ true = and_left _ _ h in
    let long : i < length table = omega (arith, same_length before table first) in
    entry_of tables table n i (and_right (follows before table) (follow table tables) h) (omega arith) long
    ∙ ap (zero_bytes (suc n)) (entry before table i first lt)

tables_follow : follow (range_with_len 0 256) TABLES ≡ true
unfolding eight_steps bit_step
tables_follow = refl

pub table_rule : (n i : ℕ) → n < 16 → i < 256 → get_or (get_or TABLES n []) i 0 ≡ zero_bytes (n + 1) i
table_rule n i some lt =
    let next : suc n ≡ n + 1 = omega arith in
    let long : i < length (range_with_len 0 256) = omega (arith, length-range_with_len 0 256) in
    entry_of TABLES (range_with_len 0 256) n i tables_follow some long
    ∙ ap (zero_bytes (suc n)) (get_or-range_with_len 0 256 i 0 lt ∙ zero-add i) ∙ ap (λ k. zero_bytes k i) next
