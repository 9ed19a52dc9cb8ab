-- What is read of records, and where reading stops.
use Rattle.std.proofs.Common.{◌≡◌, inl, inr, ℕ, zero, suc, ◌+◌, ◌-◌, ◌*◌, ◌≤◌, ◌<◌, ◌^◌, true, false, List, [], ◌∷◌, ◌++◌, length, get_or, take, drop, refl, sym, ◌∙◌, ap, subst, arith, append_assoc, eq-eqb, length-append, take-append-drop}
use Rattle.std.proofs.lemmas.List.{append-nil, drop_at, drop_more, drop_all, get_or_past, take_at}
use Rattle.std.proofs.lemmas.Bool.{cases_eq, cases_lt, and_parts, and_from, eqb-true, false_from_ne_true}
use Rattle.std.proofs.lemmas.Grind.{common_steps}
use Rattle.std.specs.Prelude.{IsTrue, ◌==◌}
use Rattle.std.specs.Int.{w64, from_be_bytes}
use Rattle.gated_words.specs.declared.record.Form.{Form}
use Rattle.gated_words.specs.declared.record.Form.TheVariants as form
use Rattle.gated_words.specs.Words.{header, width, gate, words, check, xor_of, shut, records, spelled, pair_at, is_checked, is_record, pairs_behind, pairs_in, AllFit, HasGate, HasNoGate, GivenUp, NoneLeaves}
use Rattle.gated_words.specs.Looking.{HasPairs, StartsWith}
use Rattle.gated_words.proofs.Spelling.{length-shut, length-header, length-spelled, pair_at-words}

pub behind-drop : (f : Form) (k : ℕ) (bytes : List ℕ) → pairs_behind f k bytes ≡ pairs_behind f zero (drop k bytes)
behind-drop f zero bytes = refl
behind-drop f (suc k) [] = refl
behind-drop f (suc k) (byte ∷ bytes) = behind-drop f k bytes

-- the width of a record as one more
pub width_more : (f : Form) (byte : ℕ) (bytes : List ℕ) → drop (width f) (byte ∷ bytes) ≡ drop (width f - 1) bytes
width_more form.First byte bytes = refl
width_more form.Second byte bytes = refl

-- a record in front is read
pub behind_step : (f : Form) (bytes : List ℕ) → is_record f bytes ≡ true → pairs_behind f zero bytes ≡ pair_at bytes ∷ pairs_behind f zero (drop (width f) bytes)
behind_step f [] is = cc
behind_step f (byte ∷ bytes) is =
    let rest : pairs_behind f (width f - 1) bytes ≡ pairs_behind f zero (drop (width f) (byte ∷ bytes)) = behind-drop f (width f - 1) bytes ∙ ap (λ (l : List ℕ). pairs_behind f zero l) (sym (width_more f byte bytes)) in
    let step : pairs_behind f zero (byte ∷ bytes) ≡ pair_at (byte ∷ bytes) ∷ pairs_behind f (width f - 1) bytes = rw is refl in
    step ∙ ap (λ (l : List (ℕ × ℕ)). pair_at (byte ∷ bytes) ∷ l) rest

-- what is no record ends them
pub behind_stop : (f : Form) (bytes : List ℕ) → is_record f bytes ≡ false → pairs_behind f zero bytes ≡ []
behind_stop f [] is = refl
behind_stop f (byte ∷ bytes) is = rw is refl

-- a record that is spelled is one
spelled_record : (f : Form) (pair : ℕ × ℕ) (rest : List ℕ) → is_record f (shut f pair ++ gate ∷ rest) ≡ true
unfolding words
spelled_record form.First pair rest = refl
spelled_record form.Second pair rest = eq-eqb (xor_of (words pair)) (xor_of (words pair)) refl

behind-record : (f : Form) (pair : ℕ × ℕ) (rest : List ℕ) → pair.0 < 2 ^ 64 → pair.1 < 2 ^ 64 → pairs_behind f zero (shut f pair ++ gate ∷ rest) ≡ pair ∷ pairs_behind f zero rest
behind-record f pair rest a b =
    let bytes = shut f pair ++ gate ∷ rest in
    let read : pair_at bytes ≡ pair = ap (λ (l : List ℕ). pair_at l) (append_assoc (words pair) (check f (words pair)) (gate ∷ rest)) ∙ pair_at-words pair (check f (words pair) ++ gate ∷ rest) a b in
    let next : drop (width f) bytes ≡ rest = ap (λ (l : List ℕ). drop (width f) l) (sym (append_assoc (shut f pair) (gate ∷ []) rest)) ∙ drop_at (shut f pair ++ gate ∷ []) rest (width f) (omega (arith, length-shut f pair, length-append (shut f pair) (gate ∷ []))) in
    behind_step f bytes (spelled_record f pair rest) ∙ (λ i. read i ∷ pairs_behind f zero (next i))

behind-records : (f : Form) (pairs : List (ℕ × ℕ)) (rest : List ℕ) → AllFit pairs → pairs_behind f zero (records f pairs ++ rest) ≡ pairs ++ pairs_behind f zero rest
behind-records f [] rest fit = refl
behind-records f (pair ∷ pairs) rest fit =
    ap (λ (l : List ℕ). pairs_behind f zero l) (append_assoc (shut f pair) (gate ∷ records f pairs) rest)
    ∙ behind-record f pair (records f pairs ++ rest) fit.0 fit.1
    ∙ ap (λ (l : List (ℕ × ℕ)). pair ∷ l) (behind-records f pairs rest fit.2)

pub pairs_in-spelled : (f : Form) (pairs : List (ℕ × ℕ)) (rest : List ℕ) → AllFit pairs → pairs_in f (spelled f pairs ++ rest) ≡ pairs ++ pairs_behind f zero rest
unfolding spelled
pairs_in-spelled f pairs rest fit =
    let behind : drop 8 ((header f ++ records f pairs) ++ rest) ≡ records f pairs ++ rest = ap (λ (l : List ℕ). drop 8 l) (append_assoc (header f) (records f pairs) rest) ∙ drop_at (header f) (records f pairs ++ rest) 8 (omega (arith, length-header f)) in
    behind-drop f 8 ((header f ++ records f pairs) ++ rest) ∙ ap (λ (l : List ℕ). pairs_behind f zero l) behind ∙ behind-records f pairs rest fit

-- a byte that is the gate is there
whole : (f : Form) (bytes : List ℕ) (k : ℕ) → suc k ≡ width f → get_or bytes k 0 ≡ gate → width f ≤ length bytes
whole f bytes k is here = elim (cases_lt (length bytes) (width f)) [
  | inl lt ↦ absurd (omega (arith, get_or_past bytes k 0 (omega arith)))
  | inr ge ↦ ge
]

more : (f : Form) → suc (width f - 1) ≡ width f
more form.First = refl
more form.Second = refl

is_record_parts : (f : Form) (bytes : List ℕ) → is_record f bytes ≡ true → HasGate f bytes × IsTrue (is_checked f bytes)
is_record_parts f bytes is =
    let both = and_parts (get_or bytes (width f - 1) 0 == gate) (is_checked f bytes) is in
    let here : get_or bytes (width f - 1) 0 ≡ gate = eqb-true (get_or bytes (width f - 1) 0) gate both.0 in
    ((whole f bytes (width f - 1) (more f) here, here), both.1)

-- what is not given up is left by no crash
pub not_given_up : (f : Form) (rest : List ℕ) → (GivenUp f rest → ⊥) → NoneLeaves f rest
not_given_up f rest never = elim (cases_lt (width f) (length rest)) [
  | inl long ↦ inl long
  | inr short ↦ elim (cases_eq (get_or rest (width f - 1) 0) gate) [
    | inl here ↦ inr (whole f rest (width f - 1) (more f) here, here)
    | inr other ↦ absurd (never (short, inr other))
  ]
]

pub behind_none : (f : Form) (bytes : List ℕ) → (HasGate f bytes → IsTrue (is_checked f bytes) → ⊥) → pairs_behind f zero bytes ≡ []
behind_none f bytes never = behind_stop f bytes (false_from_ne_true (is_record f bytes) (λ is. let parts = is_record_parts f bytes is in never parts.0 parts.1))

pub behind_no_gate : (f : Form) (rest : List ℕ) → HasNoGate f rest → pairs_behind f zero rest ≡ []
behind_no_gate f rest (inl short) = behind_none f rest (λ has checked. omega arith)
behind_no_gate f rest (inr shut) = behind_none f rest (λ has checked. shut has.1)

pub no_pairs : (f : Form) (bytes : List ℕ) → length bytes ≤ 8 → pairs_in f bytes ≡ []
no_pairs f bytes le = behind-drop f 8 bytes ∙ ap (λ (l : List ℕ). pairs_behind f zero l) (drop_all 8 bytes le)

pub pairs_in-whole : (f : Form) (pairs : List (ℕ × ℕ)) (rest : List ℕ) → AllFit pairs → pairs_behind f zero rest ≡ [] → pairs_in f (spelled f pairs ++ rest) ≡ pairs
pairs_in-whole f pairs rest fit none = pairs_in-spelled f pairs rest fit ∙ ap (λ (l : List (ℕ × ℕ)). pairs ++ l) none ∙ append-nil pairs

-- a file with few bytes has no pairs
pub short_has : (f : Form) (bytes : List ℕ) → length bytes ≤ 8 → HasPairs f [] bytes
short_has f bytes le = record { opens = inl le; are = no_pairs f bytes le }

pub spelled_front : (f : Form) (pairs : List (ℕ × ℕ)) (rest : List ℕ) → take 8 (spelled f pairs ++ rest) ≡ header f
unfolding spelled
spelled_front f pairs rest = ap (λ (l : List ℕ). take 8 l) (append_assoc (header f) (records f pairs) rest) ∙ take_at (header f) (records f pairs ++ rest) 8 (omega (arith, length-header f))

-- a file of pairs with what is given up behind them has these
pub given_up_has : (f : Form) (pairs : List (ℕ × ℕ)) (rest : List ℕ) → AllFit pairs → GivenUp f rest → HasPairs f pairs (spelled f pairs ++ rest)
given_up_has f pairs rest fit gives =
    let bytes = spelled f pairs ++ rest in
    let are : pairs_in f bytes ≡ pairs = pairs_in-whole f pairs rest fit (behind_no_gate f rest gives.1) in
    let end : 8 + width f * length (pairs_in f bytes) ≡ length (spelled f pairs) = ap (λ (l : List (ℕ × ℕ)). 8 + width f * length l) are ∙ sym (length-spelled f pairs) in
    let behind : drop (8 + width f * length (pairs_in f bytes)) bytes ≡ rest = drop_at (spelled f pairs) rest (8 + width f * length (pairs_in f bytes)) (omega (arith, end)) in
    record { opens = inr (spelled_front f pairs rest, subst (GivenUp f) (sym behind) gives); are = are }

pub nothing_given_up : (f : Form) → GivenUp f []
nothing_given_up form.First = (omega arith, inl (omega arith))
nothing_given_up form.Second = (omega arith, inl (omega arith))

pub whole_has : (f : Form) (pairs : List (ℕ × ℕ)) → AllFit pairs → HasPairs f pairs (spelled f pairs)
whole_has f pairs fit = subst (HasPairs f pairs) (append-nil (spelled f pairs)) (given_up_has f pairs [] fit (nothing_given_up f))

-- the words, their check and the gate of a record that begins the bytes
front_words : (f : Form) (bytes : List ℕ) → HasGate f bytes → IsTrue (is_checked f bytes) → bytes ≡ (take 16 bytes ++ check f (take 16 bytes)) ++ gate ∷ drop (width f) bytes
front_words form.First bytes has checked =
    let gated : drop 16 bytes ≡ gate ∷ drop 17 bytes = drop_more bytes 16 0 (omega (arith, has.0)) ∙ ap (λ (n : ℕ). n ∷ drop 17 bytes) has.1 in
    sym (take-append-drop 16 bytes) ∙ ap (λ (l : List ℕ). take 16 bytes ++ l) gated ∙ ap (λ (l : List ℕ). l ++ gate ∷ drop 17 bytes) (sym (append-nil (take 16 bytes)))
front_words form.Second bytes has checked =
    let summed : get_or bytes 16 0 ≡ xor_of (take 16 bytes) = eqb-true (get_or bytes 16 0) (xor_of (take 16 bytes)) checked in
    let gated : drop 17 bytes ≡ gate ∷ drop 18 bytes = drop_more bytes 17 0 (omega (arith, has.0)) ∙ ap (λ (n : ℕ). n ∷ drop 18 bytes) has.1 in
    let behind : drop 16 bytes ≡ xor_of (take 16 bytes) ∷ gate ∷ drop 18 bytes = drop_more bytes 16 0 (omega (arith, has.0)) ∙ (λ i. summed i ∷ gated i) in
    sym (take-append-drop 16 bytes) ∙ ap (λ (l : List ℕ). take 16 bytes ++ l) behind ∙ sym (append_assoc (take 16 bytes) (xor_of (take 16 bytes) ∷ []) (gate ∷ drop 18 bytes))

pair_at-front : (bytes : List ℕ) → pair_at bytes ≡ pair_at (take 16 bytes)
unfolding pair_at
pair_at-front bytes = λ i. (from_be_bytes w64 (high i), from_be_bytes w64 (low i))
  where
    high : take 8 bytes ≡ take 8 (take 16 bytes)
    high = grind (arith, common_steps)

    low : take 8 (drop 8 bytes) ≡ take 8 (drop 8 (take 16 bytes))
    low = grind (arith, common_steps)

-- a record that begins the bytes is that of the pair that its words give
pub starts_with : (f : Form) (pair : ℕ × ℕ) (bytes front : List ℕ) → HasGate f bytes → IsTrue (is_checked f bytes) → front ≡ take 16 bytes → pair ≡ pair_at front → words pair ≡ front → AllFit (pair ∷ []) → StartsWith f pair bytes
starts_with f pair bytes front has checked cut is spelt fit =
    let same : words pair ≡ take 16 bytes = spelt ∙ cut in
    let read : pair_at bytes ≡ pair = pair_at-front bytes ∙ ap (λ (l : List ℕ). pair_at l) (sym cut) ∙ sym is in
    record {
      pairs = behind_step f bytes (and_from (get_or bytes (width f - 1) 0 == gate) (is_checked f bytes) (eq-eqb (get_or bytes (width f - 1) 0) gate has.1) checked) ∙ ap (λ (p : ℕ × ℕ). p ∷ pairs_behind f zero (drop (width f) bytes)) read;
      split = front_words f bytes has checked ∙ ap (λ (l : List ℕ). (l ++ check f l) ++ gate ∷ drop (width f) bytes) (sym same);
      first = fit.0;
      second = fit.1;
    }

pub starts_length : (f : Form) (pair : ℕ × ℕ) (bytes : List ℕ) → StartsWith f pair bytes → width f ≤ length bytes
starts_length f pair bytes starts = omega (arith, ap length starts.split, length-append (shut f pair) (gate ∷ drop (width f) bytes), length-shut f pair)
