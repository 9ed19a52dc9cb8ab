-- The words of streams.
use Rattle.std.proofs.Common.{◌≡◌, ℕ, zero, suc, ◌-◌, ◌<◌, ◌≤◌, List, [], ◌∷◌, ◌++◌, length, take, get_or, Bool, refl, sym, ◌∙◌, ap, arith, ◌==◌, if◌then◌else◌}
use Rattle.std.proofs.lemmas.Bool.{eq-eqb, ne_eqb}
use Rattle.segment_store.specs.Words.{word_from, word_of}

word_push : (stream word : ℕ) (pairs : List (ℕ × ℕ)) (pair : ℕ × ℕ) → word_from stream word (pairs ++ pair ∷ []) ≡ (if pair.0 == stream then pair.1 else word_from stream word pairs)
word_push stream word [] pair = refl
word_push stream word (p ∷ pairs) pair = word_push stream (if p.0 == stream then p.1 else word) pairs pair

take_more : (k : ℕ) (pairs : List (ℕ × ℕ)) (d : ℕ × ℕ) → k < length pairs → take (suc k) pairs ≡ take k pairs ++ get_or pairs k d ∷ []
take_more k [] d lt = absurd (omega (arith, lt))
take_more zero (p ∷ pairs) d lt = refl
take_more (suc k) (p ∷ pairs) d lt = ap (λ (l : List (ℕ × ℕ)). p ∷ l) (take_more k pairs d (omega (arith, lt)))

pub word_step : (stream k : ℕ) (pairs : List (ℕ × ℕ)) (d pair : ℕ × ℕ) → k < length pairs → pair ≡ get_or pairs k d → word_of stream (take (suc k) pairs) ≡ (if pair.0 == stream then pair.1 else word_of stream (take k pairs))
word_step stream k pairs d pair lt is =
    ap (λ (l : List (ℕ × ℕ)). word_of stream l) (take_more k pairs d lt)
    ∙ word_push stream 0 (take k pairs) (get_or pairs k d)
    ∙ ap (λ (p : ℕ × ℕ). if p.0 == stream then p.1 else word_of stream (take k pairs)) (sym is)

pub word_added : (stream word : ℕ) (pairs : List (ℕ × ℕ)) → word_of stream (pairs ++ (stream, word) ∷ []) ≡ word
word_added stream word pairs = word_push stream 0 pairs (stream, word) ∙ ap (λ (b : Bool). if b then word else word_of stream pairs) (eq-eqb stream stream refl)

pub word_last : (stream word : ℕ) (pairs : List (ℕ × ℕ)) → ((front : List (ℕ × ℕ)) × (pairs ≡ front ++ (stream, word) ∷ [])) → word_of stream pairs ≡ word
word_last stream word pairs (front, is) = ap (λ (l : List (ℕ × ℕ)). word_of stream l) is ∙ word_added stream word front

-- the last of the first so many pairs
step_back : (stream at : ℕ) (pairs : List (ℕ × ℕ)) → 0 < at → at ≤ length pairs → word_of stream (take at pairs) ≡ (if (get_or pairs (at - 1) (0, 0)).0 == stream then (get_or pairs (at - 1) (0, 0)).1 else word_of stream (take (at - 1) pairs))
step_back stream at pairs some le =
    let same : at ≡ suc (at - 1) = omega (arith, some) in
    ap (λ (k : ℕ). word_of stream (take k pairs)) same ∙ word_step stream (at - 1) pairs (0, 0) (get_or pairs (at - 1) (0, 0)) (omega (arith, some, le)) refl

pub word_found : (stream at : ℕ) (pairs : List (ℕ × ℕ)) → 0 < at → at ≤ length pairs → word_of stream (take at pairs) ≡ word_of stream pairs → (get_or pairs (at - 1) (0, 0)).0 ≡ stream → (get_or pairs (at - 1) (0, 0)).1 ≡ word_of stream pairs
word_found stream at pairs some le inv is =
    let p = get_or pairs (at - 1) (0, 0) in
    sym (step_back stream at pairs some le ∙ ap (λ (b : Bool). if b then p.1 else word_of stream (take (at - 1) pairs)) (eq-eqb p.0 stream is)) ∙ inv

pub word_missed : (stream at : ℕ) (pairs : List (ℕ × ℕ)) → 0 < at → at ≤ length pairs → word_of stream (take at pairs) ≡ word_of stream pairs → ((get_or pairs (at - 1) (0, 0)).0 ≡ stream → ⊥) → word_of stream (take (at - 1) pairs) ≡ word_of stream pairs
word_missed stream at pairs some le inv ne =
    let p = get_or pairs (at - 1) (0, 0) in
    sym (step_back stream at pairs some le ∙ ap (λ (b : Bool). if b then p.1 else word_of stream (take (at - 1) pairs)) (ne_eqb p.0 stream ne)) ∙ inv
