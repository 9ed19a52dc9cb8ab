-- A file of the second form with a torn end has these pairs.
use Rattle.std.proofs.Common.{◌≡◌, ◌≢◌, ◌⊎◌, inl, inr, ℕ, ◌+◌, ◌-◌, ◌*◌, ◌≤◌, ◌<◌, ◌^◌, List, [], ◌∷◌, ◌++◌, length, get_or, take, Some, sym, ◌∙◌, ap, subst, arith, append_assoc, length-append}
use Rattle.std.proofs.lemmas.List.{append-nil, take_at, take_all, length-take}
use Rattle.std.proofs.lemmas.Bool.{cases_eq, cases_lt}
use Rattle.std.proofs.Math.Seq.{take-append-add}
use Rattle.disk_calls.specs.Disk.{Image, Longer, Shorter, bytes_of}
use Rattle.gated_words.specs.declared.record.Form.TheVariants as form
use Rattle.gated_words.specs.Words.{gate, words, shut, spelled, AllFit, GivenUp}
use Rattle.gated_words.specs.Looking.{HasPairs, Splits}
use Rattle.gated_words.proofs.Spelling.{length-shut, length-spelled, spelled-push, AllFit-push}
use Rattle.gated_words.proofs.Reading.{given_up_has, whole_has}

file_has : (pairs : List (ℕ × ℕ)) (c : Image) (bytes : List ℕ) → c ≡ Some bytes → HasPairs form.Second pairs bytes → HasPairs form.Second pairs (bytes_of c)
file_has pairs c bytes is has = subst (λ (file : Image). HasPairs form.Second pairs (bytes_of file)) (sym is) has

-- at most the words and the check of one pair more
pub words_torn : (pairs : List (ℕ × ℕ)) (c : Image) (n : ℕ) → AllFit pairs → n ≤ 17 → Longer (spelled form.Second pairs) n c → HasPairs form.Second pairs (bytes_of c)
words_torn pairs c n fit le (rest, is, short) = file_has pairs c (spelled form.Second pairs ++ rest) is (given_up_has form.Second pairs rest fit (omega arith, inl (omega arith)))

shut_at : (pair : ℕ × ℕ) (g : ℕ) → g ≢ gate → get_or (shut form.Second pair ++ g ∷ []) 17 0 ≢ gate
unfolding words
shut_at pair g other = other

-- these, and at most one byte behind them
pub gate_torn : (pairs : List (ℕ × ℕ)) (pair : ℕ × ℕ) (c : Image) → AllFit pairs → pair.0 < 2 ^ 64 → pair.1 < 2 ^ 64 → Longer (spelled form.Second pairs ++ shut form.Second pair) 1 c → HasPairs form.Second pairs (bytes_of c) ⊎ HasPairs form.Second (pairs ++ pair ∷ []) (bytes_of c)
gate_torn pairs pair c fit a b ([], is, short) =
    inl (words_torn pairs c 17 fit (omega arith) (shut form.Second pair, is ∙ ap Some (append-nil (spelled form.Second pairs ++ shut form.Second pair)), omega (arith, length-shut form.Second pair)))
gate_torn pairs pair c fit a b (g ∷ [], is, short) = elim (cases_eq g gate) [
  | inl closed ↦
      let more = pairs ++ pair ∷ [] in
      let full : c ≡ Some (spelled form.Second more) = is ∙ ap (λ (n : ℕ). Some ((spelled form.Second pairs ++ shut form.Second pair) ++ n ∷ [])) closed ∙ ap Some (sym (spelled-push form.Second pairs pair)) in
      inr (file_has more c (spelled form.Second more) full (whole_has form.Second more (AllFit-push pairs pair fit a b)))
  | inr open_gate ↦
      let rest = shut form.Second pair ++ g ∷ [] in
      let same : c ≡ Some (spelled form.Second pairs ++ rest) = is ∙ ap Some (append_assoc (spelled form.Second pairs) (shut form.Second pair) (g ∷ [])) in
      let size : length rest ≡ 18 = length-append (shut form.Second pair) (g ∷ []) ∙ length-shut form.Second pair in
      inl (file_has pairs c (spelled form.Second pairs ++ rest) same (given_up_has form.Second pairs rest fit (omega (arith, size), inr (shut_at pair g open_gate))))
]
gate_torn pairs pair c fit a b (g ∷ h ∷ e, is, short) = absurd (omega arith)

-- the front of what is given up is given up too
front_given_up : (n : ℕ) (rest : List ℕ) → GivenUp form.Second rest → GivenUp form.Second (take n rest)
front_given_up n rest gives = elim (cases_lt n 18) [
  | inl lt ↦ (omega (arith, length-take n rest), inl (omega (arith, length-take n rest)))
  | inr ge ↦ subst (GivenUp form.Second) (sym (take_all n rest (omega (arith, gives.0)))) gives
]

take_past : (xs ys : List ℕ) (m n : ℕ) → m ≡ length xs + n → take m (xs ++ ys) ≡ xs ++ take n ys
take_past xs ys m n is = ap (λ (k : ℕ). take k (xs ++ ys)) is ∙ take-append-add xs ys n

-- a cut behind the records leaves the pairs
pub cut_stays : (bytes : List ℕ) (pairs : List (ℕ × ℕ)) (end : ℕ) (c : Image) → Splits form.Second bytes pairs → AllFit pairs → end ≡ 8 + 18 * length pairs → Shorter bytes end c → HasPairs form.Second pairs (bytes_of c)
cut_stays bytes pairs end c f fit ends (k, is, past) =
    let n = k - end in
    let rest = take n f.rest in
    let same : c ≡ Some (spelled form.Second pairs ++ rest) = is ∙ ap (λ (l : List ℕ). Some (take k l)) f.split ∙ ap Some (take_past (spelled form.Second pairs) f.rest k n (omega (arith, ends, length-spelled form.Second pairs))) in
    file_has pairs c (spelled form.Second pairs ++ rest) same (given_up_has form.Second pairs rest fit (front_given_up n f.rest f.given_up))

pub cut_done : (bytes : List ℕ) (pairs : List (ℕ × ℕ)) (end : ℕ) → Splits form.Second bytes pairs → end ≡ 8 + 18 * length pairs → take end bytes ≡ spelled form.Second pairs
cut_done bytes pairs end f ends = ap (λ (l : List ℕ). take end l) f.split ∙ take_at (spelled form.Second pairs) f.rest end (omega (arith, ends, length-spelled form.Second pairs))
