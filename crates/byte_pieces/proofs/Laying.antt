-- Bytes put over others.
use Rattle.std.proofs.Common.{◌≡◌, ℕ, zero, suc, ◌+◌, ◌-◌, ◌≤◌, min, List, [], ◌∷◌, ◌++◌, length, take, drop, refl, sym, ◌∙◌, ap, arith}
use Rattle.byte_pieces.specs.Laid.{lay}

pub length_lay : (xs : List ℕ) (s : ℕ) (bytes : List ℕ) → length (lay xs s bytes) ≡ length xs
length_lay [] s bytes = refl
length_lay (x ∷ xs) zero [] = refl
length_lay (x ∷ xs) zero (b ∷ bytes) = ap suc (length_lay xs zero bytes)
length_lay (x ∷ xs) (suc s) bytes = ap suc (length_lay xs s bytes)

lay_none : (xs : List ℕ) (s : ℕ) → lay xs s [] ≡ xs
lay_none [] s = refl
lay_none (x ∷ xs) zero = refl
lay_none (x ∷ xs) (suc s) = ap (λ (l : List ℕ). x ∷ l) (lay_none xs s)

pub lay_past : (xs : List ℕ) (s : ℕ) (bytes : List ℕ) → length xs ≤ s → lay xs s bytes ≡ xs
lay_past [] s bytes le = refl
lay_past (x ∷ xs) zero bytes le = absurd (omega arith)
lay_past (x ∷ xs) (suc s) bytes le = ap (λ (l : List ℕ). x ∷ l) (lay_past xs s bytes (omega arith))

lay_front : (xs bytes : List ℕ) (c : ℕ) → c ≡ min (length bytes) (length xs) → lay xs zero bytes ≡ take c bytes ++ drop c xs
lay_front [] bytes zero is = refl
lay_front [] bytes (suc c) is = absurd (omega arith)
lay_front (x ∷ xs) [] zero is = refl
lay_front (x ∷ xs) [] (suc c) is = absurd (omega arith)
lay_front (x ∷ xs) (b ∷ bytes) zero is = absurd (omega arith)
lay_front (x ∷ xs) (b ∷ bytes) (suc c) is = ap (λ (l : List ℕ). b ∷ l) (lay_front xs bytes c (omega arith))

-- the bytes before, those that are put there, and those after
pub lay_mid : (xs : List ℕ) (s : ℕ) (bytes : List ℕ) (c : ℕ) → s ≤ length xs → c ≡ min (length bytes) (length xs - s) → lay xs s bytes ≡ take s xs ++ (take c bytes ++ drop (s + c) xs)
lay_mid xs zero bytes c le is =
    let e : c ≡ 0 + c = omega arith in
    lay_front xs bytes c (omega arith) ∙ ap (λ (k : ℕ). take c bytes ++ drop k xs) e
lay_mid [] (suc s) bytes c le is = absurd (omega arith)
lay_mid (x ∷ xs) (suc s) bytes c le is =
    let e : suc (s + c) ≡ suc s + c = omega arith in
    ap (λ (l : List ℕ). x ∷ l) (lay_mid xs s bytes c (omega arith) (omega arith)) ∙ ap (λ (k : ℕ). x ∷ (take s xs ++ (take c bytes ++ drop k (x ∷ xs)))) e

drop_none : (k : ℕ) → drop k (let none : List ℕ = [] in none) ≡ []
drop_none zero = refl
drop_none (suc k) = refl

pub lay_append : (xs ys : List ℕ) (s : ℕ) (bytes : List ℕ) → lay (xs ++ ys) s bytes ≡ lay xs s bytes ++ lay ys (s - length xs) (drop (length xs - s) bytes)
lay_append [] ys s bytes =
    let e : s ≡ s - length (let none : List ℕ = [] in none) = omega arith in
    let f : 0 ≡ length (let none : List ℕ = [] in none) - s = omega arith in
    ap (λ (k : ℕ). lay ys k bytes) e ∙ ap (λ (k : ℕ). lay ys (s - length (let none : List ℕ = [] in none)) (drop k bytes)) f
lay_append (x ∷ xs) ys zero [] =
    let far = length (x ∷ xs) - 0 in
    let off = 0 - length (x ∷ xs) in
    ap (λ (l : List ℕ). x ∷ (xs ++ l)) (sym (lay_none ys off) ∙ ap (λ (b : List ℕ). lay ys off b) (sym (drop_none far)))
lay_append (x ∷ xs) ys zero (b ∷ bytes) =
    let e : 0 - length xs ≡ 0 - length (x ∷ xs) = omega arith in
    let f : suc (length xs - 0) ≡ length (x ∷ xs) - 0 = omega arith in
    ap (λ (l : List ℕ). b ∷ l) (lay_append xs ys zero bytes)
    ∙ ap (λ (k : ℕ). b ∷ (lay xs zero bytes ++ lay ys k (drop (length xs - 0) bytes))) e
    ∙ ap (λ (k : ℕ). b ∷ (lay xs zero bytes ++ lay ys (0 - length (x ∷ xs)) (drop k (b ∷ bytes)))) f
lay_append (x ∷ xs) ys (suc s) bytes =
    let e : s - length xs ≡ suc s - length (x ∷ xs) = omega arith in
    let f : length xs - s ≡ length (x ∷ xs) - suc s = omega arith in
    ap (λ (l : List ℕ). x ∷ l) (lay_append xs ys s bytes)
    ∙ ap (λ (k : ℕ). x ∷ (lay xs s bytes ++ lay ys k (drop (length xs - s) bytes))) e
    ∙ ap (λ (k : ℕ). x ∷ (lay xs s bytes ++ lay ys (suc s - length (x ∷ xs)) (drop k bytes))) f
