-- How pairs are spelled in each form: lengths, one pair more, and words from bytes.
use Rattle.std.proofs.Common.{◌≡◌, ℕ, ◌+◌, ◌*◌, ◌<◌, ◌^◌, List, [], ◌∷◌, ◌++◌, length, get_or, take, drop, refl, ◌∙◌, ap, arith, append_assoc, length-append, length-drop, take-append-drop}
use Rattle.std.proofs.lemmas.List.{take_all, get_or_past, get_or-take, get_or-drop, length-take}
use Rattle.std.proofs.lemmas.Nat.{from_be_bytes-to_be_bytes_8, be_bytes_8}
use Rattle.std.specs.Int.{w64, to_be_bytes, from_be_bytes}
use Rattle.gated_words.specs.declared.record.Form.{Form}
use Rattle.gated_words.specs.declared.record.Form.TheVariants as form
use Rattle.gated_words.specs.Words.{header, width, gate, words, shut, records, spelled, pair_at, AllFit}

pub length-words : (pair : ℕ × ℕ) → length (words pair) ≡ 16
unfolding words
length-words pair = refl

pub length-shut : (f : Form) (pair : ℕ × ℕ) → length (shut f pair) + 1 ≡ width f
unfolding words
length-shut form.First pair = refl
length-shut form.Second pair = refl

pub length-records : (f : Form) (pairs : List (ℕ × ℕ)) → length (records f pairs) ≡ width f * length pairs
length-records f [] = omega arith
length-records f (pair ∷ pairs) = omega (arith, length-append (shut f pair) (gate ∷ records f pairs), length-shut f pair, length-records f pairs)

pub length-header : (f : Form) → length (header f) ≡ 8
length-header form.First = refl
length-header form.Second = refl

pub length-spelled : (f : Form) (pairs : List (ℕ × ℕ)) → length (spelled f pairs) ≡ 8 + width f * length pairs
unfolding spelled
length-spelled f pairs = omega (arith, length-append (header f) (records f pairs), length-header f, length-records f pairs)

pub records-push : (f : Form) (pairs : List (ℕ × ℕ)) (pair : ℕ × ℕ) → records f (pairs ++ pair ∷ []) ≡ records f pairs ++ shut f pair ++ gate ∷ []
records-push f [] pair = refl
records-push f (first ∷ pairs) pair = ap (λ (l : List ℕ). shut f first ++ gate ∷ l) (records-push f pairs pair) ∙ simp append_assoc

pub spelled-push : (f : Form) (pairs : List (ℕ × ℕ)) (pair : ℕ × ℕ) → spelled f (pairs ++ pair ∷ []) ≡ (spelled f pairs ++ shut f pair) ++ gate ∷ []
unfolding spelled
spelled-push f pairs pair = ap (λ (l : List ℕ). header f ++ l) (records-push f pairs pair) ∙ simp append_assoc

pub AllFit-push : (pairs : List (ℕ × ℕ)) (pair : ℕ × ℕ) → AllFit pairs → pair.0 < 2 ^ 64 → pair.1 < 2 ^ 64 → AllFit (pairs ++ pair ∷ [])
AllFit-push [] pair fit a b = (a, b, tt)
AllFit-push (first ∷ pairs) pair fit a b = (fit.0, fit.1, AllFit-push pairs pair fit.2 a b)

-- what a pair's words spell is read back
pub pair_at-words : (pair : ℕ × ℕ) (rest : List ℕ) → pair.0 < 2 ^ 64 → pair.1 < 2 ^ 64 → pair_at (words pair ++ rest) ≡ pair
unfolding words pair_at
pair_at-words pair rest a b = λ i. (from_be_bytes-to_be_bytes_8 pair.0 a i, from_be_bytes-to_be_bytes_8 pair.1 b i)

-- and what is read of 16 bytes is spelled by them
pub words-pair_at : (bytes : List ℕ) (pair : ℕ × ℕ) → length bytes ≡ 16 → ((i : ℕ) → get_or bytes i 0 < 256) → pair ≡ pair_at bytes → words pair ≡ bytes
unfolding words pair_at
words-pair_at bytes pair len small is =
    let low : take 8 (drop 8 bytes) ≡ drop 8 bytes = take_all 8 (drop 8 bytes) (omega (arith, length-drop 8 bytes)) in
    let front : to_be_bytes w64 pair.0 ≡ take 8 bytes = be_bytes_8 (take 8 bytes) pair.0 (omega (arith, length-take 8 bytes)) (λ i. small_front i) (λ i. (is i).0) in
    let back : to_be_bytes w64 pair.1 ≡ drop 8 bytes = be_bytes_8 (drop 8 bytes) pair.1 (omega (arith, length-drop 8 bytes)) (λ i. small_back i) ((λ i. (is i).1) ∙ ap (λ (l : List ℕ). from_be_bytes w64 l) low) in
    (λ i. front i ++ back i) ∙ take-append-drop 8 bytes
  where
    small_front : (i : ℕ) → get_or (take 8 bytes) i 0 < 256
    small_front i = grind (arith, get_or-take 8 bytes i 0, get_or_past (take 8 bytes) i 0, length-take 8 bytes, small i)

    small_back : (i : ℕ) → get_or (drop 8 bytes) i 0 < 256
    small_back i = omega (arith, get_or-drop 8 bytes i 0, small (8 + i))
