-- What loops over the records have read or spelled so far.
use Rattle.std.proofs.Common.{◌≡◌, ℕ, zero, ◌+◌, ◌<◌, get_or, List, [], ◌∷◌, ◌++◌, length, take, drop, sym, ◌∙◌, ap, subst, append_assoc}
use Rattle.std.proofs.lemmas.List.{append-nil, take_more}
use Rattle.gated_words.specs.declared.record.Form.{Form}
use Rattle.gated_words.specs.declared.record.Form.TheVariants as form
use Rattle.gated_words.specs.Words.{header, width, gate, shut, records, spelled, pairs_behind, pairs_in, AllFit}
use Rattle.gated_words.specs.Looking.{StartsWith, HasRead}
use Rattle.gated_words.proofs.Spelling.{records-push, spelled-push, AllFit-push}
use Rattle.gated_words.proofs.Reading.{behind-drop}

-- what a loop over the records has read of a file
pub record ReadsTo (f : Form) (bytes : List ℕ) (pairs : List (ℕ × ℕ)) (rest : List ℕ) : Type 0 where
  pub split : drop 8 bytes ≡ records f pairs ++ rest
  pub fit : AllFit pairs
  pub all : pairs ++ pairs_behind f zero rest ≡ pairs_in f bytes

pub read_none : (f : Form) (bytes rest : List ℕ) → rest ≡ drop 8 bytes → ReadsTo f bytes [] rest
read_none f bytes rest is = record { split = sym is; fit = tt; all = ap (λ (l : List ℕ). pairs_behind f zero l) is ∙ sym (behind-drop f 8 bytes) }

-- one pair more is read
read_next : (f : Form) (bytes : List ℕ) (pairs : List (ℕ × ℕ)) (pair : ℕ × ℕ) (rest : List ℕ) → StartsWith f pair rest → ReadsTo f bytes pairs rest → ReadsTo f bytes (pairs ++ pair ∷ []) (drop (width f) rest)
read_next f bytes pairs pair rest starts read = record {
  split = read.split ∙ ap (λ (l : List ℕ). records f pairs ++ l) starts.split ∙ sym (ap (λ (l : List ℕ). l ++ drop (width f) rest) (records-push f pairs pair) ∙ simp append_assoc);
  fit = AllFit-push pairs pair read.fit starts.first starts.second;
  all = append_assoc pairs (pair ∷ []) (pairs_behind f zero (drop (width f) rest)) ∙ ap (λ (l : List (ℕ × ℕ)). pairs ++ l) (sym starts.pairs) ∙ read.all;
}

pub read_more : (f : Form) (bytes : List ℕ) (pairs more : List (ℕ × ℕ)) (pair : ℕ × ℕ) (rest next : List ℕ) → more ≡ pairs ++ pair ∷ [] → next ≡ drop (width f) rest → StartsWith f pair rest → ReadsTo f bytes pairs rest → ReadsTo f bytes more next
read_more f bytes pairs more pair rest next more_is next_is starts read =
    let P : List (ℕ × ℕ) → Type 0 = λ m. ReadsTo f bytes m (drop (width f) rest) in
    subst (ReadsTo f bytes more) (sym next_is) (subst P (sym more_is) (read_next f bytes pairs pair rest starts read))

-- the end of the loop
pub read_all : (f : Form) (bytes : List ℕ) (pairs : List (ℕ × ℕ)) (rest : List ℕ) → ReadsTo f bytes pairs rest → pairs_behind f zero rest ≡ [] → HasRead f bytes pairs
read_all f bytes pairs rest read none = record {
  are = sym read.all ∙ ap (λ (l : List (ℕ × ℕ)). pairs ++ l) none ∙ append-nil pairs;
  fit = read.fit;
  rest = rest;
  split = read.split;
}

-- what a loop over pairs has spelled of a file
pub spell_none : (bytes start front : List ℕ) → bytes ≡ start ++ front → start ≡ [] → front ≡ header form.Second → bytes ≡ spelled form.Second []
unfolding spelled
spell_none bytes start front is none head = is ∙ (λ i. none i ++ head i)

pub spell_more : (pairs : List (ℕ × ℕ)) (i : ℕ) (bytes more one : List ℕ) → i < length pairs → bytes ≡ spelled form.Second (take i pairs) → more ≡ bytes ++ one → one ≡ shut form.Second (get_or pairs i (0, 0)) ++ gate ∷ [] → more ≡ spelled form.Second (take (i + 1) pairs)
spell_more pairs i bytes more one lt so_far is record_is =
    let pair = get_or pairs i (0, 0) in
    is ∙ (λ k. so_far k ++ record_is k) ∙ sym (append_assoc (spelled form.Second (take i pairs)) (shut form.Second pair) (gate ∷ []))
    ∙ sym (spelled-push form.Second (take i pairs) pair) ∙ ap (λ (l : List (ℕ × ℕ)). spelled form.Second l) (sym (take_more pairs i (0, 0) lt))
