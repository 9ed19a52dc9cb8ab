-- Lines of output that were cut off.
use Rattle.std.proofs.Common.{◌≡◌, ◌≢◌, ℕ, ◌/◌, ◌%◌, ◌^◌, ◌<◌, ◌⊎◌, List, [], ◌∷◌, ◌++◌, length, get_or, drop, All, refl, sym, ap, subst, ◌∙◌, append_assoc, length-append, arith, inl, inr}
use Rattle.std.specs.List.{AllByRecursion}
use Rattle.std.specs.Fmt.{decimal}
use Rattle.std.proofs.lemmas.Bool.{cases_lt}
use Rattle.std.proofs.lemmas.List.{append-nil, get_or_past}
use Rattle.std.proofs.lemmas.List.Elements.{All-head, All-tail, All-append, All-nil, All-from_recursion}
use Rattle.hex.specs.Hex.{encode_lower, encode_with, lower_digits}
use Rattle.script_text.specs.Words.{line_feed, space, Lacks}
use Rattle.script_text.specs.declared.output.OutputLine.{OutputLine}
use Rattle.script_text.specs.declared.output.OutputLine.TheVariants.{Committed, Sent}
use Rattle.script_text.specs.Outputs.{output_words, output_bytes}
use Rattle.replay_node.specs.Replays.{outputs_bytes, Begins}
use Rattle.script_text.proofs.Splits.{decimal_lacks}

abbrev pub OtherByte : ℕ → Type 0
OtherByte b = b ≢ line_feed

-- one byte before others
pub lacks_more : (b : ℕ) (bytes : List ℕ) → b ≢ line_feed → Lacks line_feed bytes → Lacks line_feed (b ∷ bytes)
lacks_more b bytes other rest = All-append OtherByte (b ∷ []) bytes (All-from_recursion OtherByte (b ∷ []) (other, tt)) rest

digits_lack : All OtherByte lower_digits
digits_lack = All-from_recursion OtherByte lower_digits ((λ e. absurd (omega arith)), ((λ e. absurd (omega arith)), ((λ e. absurd (omega arith)), ((λ e. absurd (omega arith)), ((λ e. absurd (omega arith)), ((λ e. absurd (omega arith)), ((λ e. absurd (omega arith)), ((λ e. absurd (omega arith)), ((λ e. absurd (omega arith)), ((λ e. absurd (omega arith)), ((λ e. absurd (omega arith)), ((λ e. absurd (omega arith)), ((λ e. absurd (omega arith)), ((λ e. absurd (omega arith)), ((λ e. absurd (omega arith)), ((λ e. absurd (omega arith)), tt))))))))))))))))

digit_other : (i : ℕ) → get_or lower_digits i 0 ≢ line_feed
digit_other i = elim (cases_lt i 16) [ inl lt ↦ digits_lack i 0 lt | inr le ↦ (λ e. let z = get_or_past lower_digits i 0 le in absurd (omega (arith, z, e))) ]

hex_lacks : (bytes : List ℕ) → Lacks line_feed (encode_lower bytes)
unfolding encode_with
hex_lacks [] = All-nil OtherByte
hex_lacks (b ∷ bytes) =
    let high : ℕ = get_or lower_digits (b / 16) 0 in
    let low : ℕ = get_or lower_digits (b % 16) 0 in
    lacks_more high (low ∷ encode_lower bytes) (digit_other (b / 16)) (lacks_more low (encode_lower bytes) (digit_other (b % 16)) (hex_lacks bytes))

pub number_lacks : (n : ℕ) → n < 2 ^ 64 → Lacks line_feed (decimal n)
number_lacks n fits = decimal_lacks line_feed n fits (λ digit. absurd (omega arith))

-- the words of an output line: a letter, a number, and bytes as hexadecimal text
words_lack : (letter number : ℕ) (bytes : List ℕ) → letter ≢ line_feed → number < 2 ^ 64 → Lacks line_feed (letter ∷ space ∷ (decimal number ++ space ∷ encode_lower bytes))
words_lack letter number bytes other fits =
    let no_space : space ≢ line_feed = λ e. absurd (omega arith) in
    let behind = lacks_more space (encode_lower bytes) no_space (hex_lacks bytes) in
    let numbered = All-append OtherByte (decimal number) (space ∷ encode_lower bytes) (number_lacks number fits) behind in
    lacks_more letter (space ∷ (decimal number ++ space ∷ encode_lower bytes)) other (lacks_more space (decimal number ++ space ∷ encode_lower bytes) no_space numbered)

-- a chunk or a frame, whose number fits 64 bits
abbrev pub HasNumber : OutputLine → Type 0
HasNumber (Committed stream chunk) = stream < 2 ^ 64
HasNumber (Sent connection frame) = connection < 2 ^ 64
HasNumber other = ⊥

-- a line: a text without a line feed, and one
abbrev pub IsOneLine : List ℕ → Type 0
IsOneLine line = (text : List ℕ) × (line ≡ text ++ line_feed ∷ []) × Lacks line_feed text

pub output_is_line : (o : OutputLine) → HasNumber o → IsOneLine (output_bytes o)
output_is_line (Committed stream chunk) fits = (output_words (Committed stream chunk), refl, words_lack 107 stream chunk (λ e. absurd (omega arith)) fits)
output_is_line (Sent connection frame) fits = (output_words (Sent connection frame), refl, words_lack 62 connection frame (λ e. absurd (omega arith)) fits)
output_is_line other fits = absurd fits

head_same : (c d : ℕ) (x y : List ℕ) → c ∷ x ≡ d ∷ y → c ≡ d
head_same c d x y e = ap (λ (l : List ℕ). get_or l 0 0) e

-- the first bytes of a line are all of it, or have no line feed
cut_text : (text front more : List ℕ) → Lacks line_feed text → text ++ line_feed ∷ [] ≡ front ++ more → Lacks line_feed front ⊎ (front ≡ text ++ line_feed ∷ [])
cut_text text [] more lacks e = inl (All-nil OtherByte)
cut_text [] (x ∷ []) more lacks e = inr (ap (λ (b : ℕ). b ∷ []) (sym (head_same line_feed x [] more e)))
cut_text [] (x ∷ y ∷ front) more lacks e = let len = ap length e in absurd (omega arith)
cut_text (t ∷ text) (x ∷ front) more lacks e =
    let first : t ≡ x = head_same t x (text ++ line_feed ∷ []) (front ++ more) e in
    let other : t ≢ line_feed = All-head OtherByte t text lacks in
    elim (cut_text text front more (All-tail OtherByte t text lacks) (ap (drop 1) e)) [
      | inl none ↦ inl (lacks_more x front (subst OtherByte first other) none)
      | inr all ↦ inr (ap (λ (l : List ℕ). x ∷ l) all ∙ ap (λ (b : ℕ). b ∷ text ++ line_feed ∷ []) (sym first))
    ]

pub cut_line : (line front : List ℕ) → IsOneLine line → Begins front line → Lacks line_feed front ⊎ (front ≡ line)
cut_line line front one begins =
    elim (cut_text one.0 front begins.0 one.2 (sym one.1 ∙ begins.1)) [ inl none ↦ inl none | inr all ↦ inr (all ∙ sym one.1) ]

-- where the first of two cuts of one list ends
split_two : (front more a b : List ℕ) → front ++ more ≡ a ++ b → ((c : List ℕ) × (a ≡ front ++ c)) ⊎ ((c : List ℕ) × (front ≡ a ++ c) × (b ≡ c ++ more))
split_two [] more a b e = inl (a, refl)
split_two (x ∷ front) more [] b e = inr (x ∷ front, refl, sym e)
split_two (x ∷ front) more (y ∷ a) b e =
    let first : x ≡ y = head_same x y (front ++ more) (a ++ b) e in
    elim (split_two front more a b (ap (drop 1) e)) [
      | inl p ↦ inl (p.0, ap (λ (l : List ℕ). y ∷ l) p.1 ∙ ap (λ (z : ℕ). z ∷ front ++ p.0) (sym first))
      | inr p ↦ inr (p.0, ap (λ (l : List ℕ). x ∷ l) p.1 ∙ ap (λ (z : ℕ). z ∷ a ++ p.0) first, p.2)
    ]

-- The first bytes of several output lines are some whole ones and a rest without a line feed.
pub record IsCut (outputs : List OutputLine) (front : List ℕ) : Type 0 where
  pub whole : List OutputLine
  pub more : List OutputLine
  pub part : List ℕ
  pub parts : outputs ≡ whole ++ more
  pub is : front ≡ outputs_bytes whole ++ part
  pub lacks : Lacks line_feed part

cut_none : (front more : List ℕ) → [] ≡ front ++ more → Lacks line_feed front
cut_none front more e k d lt = let len = ap length e in absurd (omega (arith, len, length-append front more))

cut_first : (o : OutputLine) (os : List OutputLine) (front : List ℕ) → Lacks line_feed front ⊎ (front ≡ output_bytes o) → IsCut (o ∷ os) front
cut_first o os front (inl none) = record { whole = []; more = o ∷ os; part = front; parts = refl; is = refl; lacks = none }
cut_first o os front (inr all) = record { whole = o ∷ []; more = os; part = []; parts = refl; is = all ∙ sym (append-nil (outputs_bytes (o ∷ [])) ∙ append-nil (output_bytes o)); lacks = All-nil OtherByte }

cut_more : (o : OutputLine) (os : List OutputLine) (front rest : List ℕ) → front ≡ output_bytes o ++ rest → IsCut os rest → IsCut (o ∷ os) front
cut_more o os front rest e cut = record {
  whole = o ∷ cut.whole;
  more = cut.more;
  part = cut.part;
  parts = ap (λ (l : List OutputLine). o ∷ l) cut.parts;
  is = e ∙ ap (λ (l : List ℕ). output_bytes o ++ l) cut.is ∙ sym (append_assoc (output_bytes o) (outputs_bytes cut.whole) cut.part);
  lacks = cut.lacks;
}

pub cut_outputs : (outputs : List OutputLine) (front : List ℕ) → AllByRecursion HasNumber outputs → Begins front (outputs_bytes outputs) → IsCut outputs front
cut_outputs [] front fits begins = record { whole = []; more = []; part = front; parts = refl; is = refl; lacks = cut_none front begins.0 begins.1 }
cut_outputs (o ∷ os) front fits begins =
    elim (split_two front begins.0 (output_bytes o) (outputs_bytes os) (sym begins.1)) [
      | inl p ↦ cut_first o os front (cut_line (output_bytes o) front (output_is_line o fits.0) p)
      | inr p ↦ cut_more o os front p.0 p.1 (cut_outputs os p.0 fits.1 (begins.0, p.2))
    ]
