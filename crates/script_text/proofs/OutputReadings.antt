-- Which line that a node gives some words are: a line is told by its first word, and the words behind it have one reading.
use Rattle.std.proofs.Common.{◌≡◌, ◌≢◌, ◌⊎◌, ℕ, ◌+◌, ◌*◌, ◌^◌, ◌<◌, ◌≤◌, List, [], ◌∷◌, ◌++◌, length, get_or, drop, All, Option, Some, None, MatchOption, refl, sym, ap, subst, ◌∙◌, length-append, codes, arith, inl, inr}
use Rattle.std.specs.Fmt.{decimal}
use Rattle.hex.specs.Hex.{encode_lower}
use Rattle.frame_wire.specs.Fields.{u16_bytes}
use Rattle.script_text.specs.declared.output.Ending.{Ending}
use Rattle.script_text.specs.declared.output.Ending.TheVariants.{PeerEnded, ClosedByPeer, ClosedByUs, Silent}
use Rattle.script_text.specs.declared.output.MessageKind.{MessageKind}
use Rattle.script_text.specs.declared.output.MessageKind.TheVariants as kinds
use Rattle.script_text.specs.declared.output.OutputLine.{OutputLine}
use Rattle.script_text.specs.declared.output.OutputLine.TheVariants.{Sent, Bye, Committed, Message, Later, Down, Up, CoordinatorUp, Log, LogDown, Refused, End, Bad}
use Rattle.script_text.specs.declared.output_word.FirstWord.{FirstWord}
use Rattle.script_text.specs.declared.output_word.FirstWord.TheVariants as firsts
use Rattle.script_text.specs.Words.{space, line_feed, Lacks, SplitsAt, IsGiven, code_word}
use Rattle.script_text.specs.Script.{numbers}
use Rattle.script_text.specs.Outputs.{kind_word, ending_words, output_words, IsOutput, IsEnding, Writes}
use Rattle.script_text.specs.OutputReading.{first_word, ReadsOutput}
use Rattle.script_text.proofs.Decimals.{IsNoNumber}
use Rattle.script_text.proofs.HexText.{IsNoHex}
use Rattle.script_text.proofs.Splits.{cut_same, lacks_it_not}
use Rattle.script_text.proofs.Readings.{same_word}
use Rattle.script_text.proofs.OneOutput.{lead, lead_is, no_space, two_bytes, hex_same, kind_lacks, before_feed, ending_first, ending_first_is}

-- ---- first words

pub no_first : (word : List ℕ)
    → (word ≡ first_word firsts.Sent → ⊥) × (word ≡ first_word firsts.Committed → ⊥) × (word ≡ first_word firsts.Message → ⊥) × (word ≡ first_word firsts.Log → ⊥)
    → (word ≡ first_word firsts.Bye → ⊥) × (word ≡ first_word firsts.Later → ⊥) × (word ≡ first_word firsts.Down → ⊥) × (word ≡ first_word firsts.Up → ⊥) × (word ≡ first_word firsts.Refused → ⊥) × (word ≡ first_word firsts.Bad → ⊥)
    → (first : FirstWord) → word ≡ first_word first → ⊥
no_first word short long firsts.Sent e = short.0 e
no_first word short long firsts.Committed e = short.1 e
no_first word short long firsts.Message e = short.2 e
no_first word short long firsts.Log e = short.3 e
no_first word short long firsts.Bye e = long.0 e
no_first word short long firsts.Later e = long.1 e
no_first word short long firsts.Down e = long.2 e
no_first word short long firsts.Up e = long.3 e
no_first word short long firsts.Refused e = long.4 e
no_first word short long firsts.Bad e = long.5 e

first_lacks : (first : FirstWord) → Lacks space (first_word first)
first_lacks firsts.Sent = no_space (codes ">") (omega arith, tt)
first_lacks firsts.Bye = no_space (codes "bye") (omega arith, (omega arith, (omega arith, tt)))
first_lacks firsts.Committed = no_space (codes "k") (omega arith, tt)
first_lacks firsts.Message = no_space (codes "m") (omega arith, tt)
first_lacks firsts.Later = no_space (codes "later") (omega arith, (omega arith, (omega arith, (omega arith, (omega arith, tt)))))
first_lacks firsts.Down = no_space (codes "down") (omega arith, (omega arith, (omega arith, (omega arith, tt))))
first_lacks firsts.Up = no_space (codes "up") (omega arith, (omega arith, tt))
first_lacks firsts.Log = no_space (codes "l") (omega arith, tt)
first_lacks firsts.Refused = no_space (codes "no") (omega arith, (omega arith, tt))
first_lacks firsts.Bad = no_space (codes "bad") (omega arith, (omega arith, (omega arith, tt)))

-- the words of a line: a first word and others, or one word alone
data Parts (words : List ℕ) : Type 0 where
  alone : words ≡ codes "end" → Parts words
  headed : (word : FirstWord) (rest : List ℕ) → words ≡ first_word word ++ space ∷ rest → Parts words

parts_of : (line : OutputLine) → Parts (output_words line)
parts_of (Sent connection frame) = headed firsts.Sent (drop 2 (output_words (Sent connection frame))) refl
parts_of (Bye connection how) = headed firsts.Bye (drop 4 (output_words (Bye connection how))) refl
parts_of (Committed stream chunk) = headed firsts.Committed (drop 2 (output_words (Committed stream chunk))) refl
parts_of (Message stream number receiver kind epoch) = headed firsts.Message (drop 2 (output_words (Message stream number receiver kind epoch))) refl
parts_of (Later stream member) = headed firsts.Later (drop 6 (output_words (Later stream member))) refl
parts_of (Down stream member) = headed firsts.Down (drop 5 (output_words (Down stream member))) refl
parts_of (Up stream member count end) = headed firsts.Up (drop 3 (output_words (Up stream member count end))) refl
parts_of (CoordinatorUp stream epoch) = headed firsts.Up (drop 3 (output_words (CoordinatorUp stream epoch))) refl
parts_of (Log stream member count end) = headed firsts.Log (drop 2 (output_words (Log stream member count end))) refl
parts_of (LogDown stream member) = headed firsts.Log (drop 2 (output_words (LogDown stream member))) refl
parts_of (Refused code) = headed firsts.Refused (drop 3 (output_words (Refused code))) refl
parts_of End = alone refl
parts_of (Bad number) = headed firsts.Bad (drop 4 (output_words (Bad number))) refl

alone_lacks : Lacks space (codes "end")
alone_lacks = no_space (codes "end") (omega arith, (omega arith, (omega arith, tt)))

one_alone : (text words : List ℕ) → Lacks space text → (text ≡ codes "end" → ⊥) → Parts words → text ≡ words → ⊥
one_alone text words lacks other (alone is) e = other (e ∙ is)
one_alone text words lacks other (headed word rest is) e = lacks_it_not space (first_word word) rest (subst (Lacks space) (e ∙ is) lacks)

-- one word that is no line
pub none_alone : (text : List ℕ) → Lacks space text → (text ≡ codes "end" → ⊥) → ReadsOutput text None
none_alone text lacks other line good e = one_alone text (output_words line) lacks other (parts_of line) e

other_parts : (text word rest words : List ℕ) → SplitsAt space text word rest → ((first : FirstWord) → word ≡ first_word first → ⊥) → Parts words → text ≡ words → ⊥
other_parts text word rest words split other (alone is) e = lacks_it_not space word rest (subst (Lacks space) (sym (e ∙ is) ∙ split.0) alone_lacks)
other_parts text word rest words split other (headed here behind is) e = other here (cut_same space word (first_word here) rest behind split.1 (first_lacks here) (sym split.0 ∙ (e ∙ is))).0

-- a first word that no line has
pub none_other : (text word rest : List ℕ) → SplitsAt space text word rest → ((first : FirstWord) → word ≡ first_word first → ⊥) → ReadsOutput text None
none_other text word rest split other line good e = other_parts text word rest (output_words line) split other (parts_of line) e

pub at_front : (text word rest : List ℕ) (first : FirstWord) (found : Option OutputLine) → SplitsAt space text word rest → word ≡ first_word first → ReadsOutput (first_word first ++ space ∷ rest) found → ReadsOutput text found
at_front text word rest first found split is reads = subst (λ (t : List ℕ). ReadsOutput t found) (sym (split.0 ∙ ap (λ (w : List ℕ). w ++ space ∷ rest) is)) reads

-- ---- words behind a first word that are no line

lead_by : List ℕ → ℕ
lead_by words = get_or words 0 0 * 256 + get_or words 1 0

other_lead : (here : ℕ) (words : List ℕ) (line : OutputLine) → lead_by words ≡ here → (here ≡ lead line → ⊥) → words ≡ output_words line → ⊥
unfolding lead_by
other_lead here words line is other e = other (sym is ∙ ap lead_by e ∙ lead_is line)

pub none_sent : (words : List ℕ) → ((n : ℕ) (bytes : List ℕ) → n < 2 ^ 64 → IsGiven bytes → words ≡ decimal n ++ space ∷ encode_lower bytes → ⊥) → ReadsOutput (codes "> " ++ words) None
unfolding lead lead_by
none_sent words other (Sent n bytes) good e = other n bytes good.0 good.1 (ap (drop 2) e)
none_sent words other line good e = other_lead (62 * 256 + 32) (codes "> " ++ words) line refl (λ same. absurd (omega (arith, same))) e

pub none_committed : (words : List ℕ) → ((n : ℕ) (bytes : List ℕ) → n < 2 ^ 64 → IsGiven bytes → words ≡ decimal n ++ space ∷ encode_lower bytes → ⊥) → ReadsOutput (codes "k " ++ words) None
unfolding lead lead_by
none_committed words other (Committed n bytes) good e = other n bytes good.0 good.1 (ap (drop 2) e)
none_committed words other line good e = other_lead (107 * 256 + 32) (codes "k " ++ words) line refl (λ same. absurd (omega (arith, same))) e

pub none_bye : (words : List ℕ) → ((n : ℕ) (how : Ending) → n < 2 ^ 64 → IsEnding how → words ≡ decimal n ++ space ∷ ending_words how → ⊥) → ReadsOutput (codes "bye " ++ words) None
unfolding lead lead_by
none_bye words other (Bye n how) good e = other n how good.0 good.1 (ap (drop 4) e)
none_bye words other line good e = other_lead (98 * 256 + 121) (codes "bye " ++ words) line refl (λ same. absurd (omega (arith, same))) e

pub none_message : (words : List ℕ)
    → ((s n r a : ℕ) (k : MessageKind) → s < 2 ^ 64 → n < 2 ^ 64 → r < 2 ^ 64 → a < 2 ^ 64 → words ≡ decimal s ++ space ∷ (decimal n ++ space ∷ (decimal r ++ space ∷ (kind_word k ++ space ∷ decimal a))) → ⊥)
    → ReadsOutput (codes "m " ++ words) None
unfolding lead lead_by
none_message words other (Message s n r k a) good e = other s n r a k good.0 good.1 good.2 good.3 (ap (drop 2) e)
none_message words other line good e = other_lead (109 * 256 + 32) (codes "m " ++ words) line refl (λ same. absurd (omega (arith, same))) e

pub none_later : (words : List ℕ) → ((a b : ℕ) → a < 2 ^ 64 → b < 2 ^ 64 → words ≡ numbers a (b ∷ []) → ⊥) → ReadsOutput (codes "later " ++ words) None
unfolding lead lead_by
none_later words other (Later s m) good e = other s m good.0 good.1 (ap (drop 6) e)
none_later words other line good e = other_lead (108 * 256 + 97) (codes "later " ++ words) line refl (λ same. absurd (omega (arith, same))) e

pub none_down : (words : List ℕ) → ((a b : ℕ) → a < 2 ^ 64 → b < 2 ^ 64 → words ≡ numbers a (b ∷ []) → ⊥) → ReadsOutput (codes "down " ++ words) None
unfolding lead lead_by
none_down words other (Down s m) good e = other s m good.0 good.1 (ap (drop 5) e)
none_down words other line good e = other_lead (100 * 256 + 111) (codes "down " ++ words) line refl (λ same. absurd (omega (arith, same))) e

none_up : (words : List ℕ) → ((s m c d : ℕ) → s < 2 ^ 64 → m < 2 ^ 64 → 1 ≤ m → c < 2 ^ 64 → d < 2 ^ 64 → words ≡ numbers s (m ∷ c ∷ d ∷ []) → ⊥) → ((s a : ℕ) → s < 2 ^ 64 → a < 2 ^ 64 → words ≡ numbers s (0 ∷ a ∷ []) → ⊥)
    → ReadsOutput (codes "up " ++ words) None
unfolding lead lead_by
none_up words member coordinator (Up s m c d) good e = member s m c d good.0 good.1.0 good.1.1 good.2 good.3 (ap (drop 3) e)
none_up words member coordinator (CoordinatorUp s a) good e = coordinator s a good.0 good.1 (ap (drop 3) e)
none_up words member coordinator line good e = other_lead (117 * 256 + 112) (codes "up " ++ words) line refl (λ same. absurd (omega (arith, same))) e

none_log : (words : List ℕ) → ((s m c d : ℕ) → s < 2 ^ 64 → m < 2 ^ 64 → 1 ≤ m → c < 2 ^ 64 → d < 2 ^ 64 → words ≡ numbers s (m ∷ c ∷ d ∷ []) → ⊥)
    → ((s m : ℕ) → s < 2 ^ 64 → m < 2 ^ 64 → 1 ≤ m → words ≡ decimal s ++ space ∷ (decimal m ++ codes " -") → ⊥) → ReadsOutput (codes "l " ++ words) None
unfolding lead lead_by
none_log words up down (Log s m c d) good e = up s m c d good.0 good.1.0 good.1.1 good.2 good.3 (ap (drop 2) e)
none_log words up down (LogDown s m) good e = down s m good.0 good.1.0 good.1.1 (ap (drop 2) e)
none_log words up down line good e = other_lead (108 * 256 + 32) (codes "l " ++ words) line refl (λ same. absurd (omega (arith, same))) e

pub none_refused : (word : List ℕ) → ((code : ℕ) → code < 2 ^ 16 → word ≡ code_word code → ⊥) → ReadsOutput (codes "no " ++ word) None
unfolding lead lead_by
none_refused word other (Refused code) good e = other code good (ap (drop 3) e)
none_refused word other line good e = other_lead (110 * 256 + 111) (codes "no " ++ word) line refl (λ same. absurd (omega (arith, same))) e

pub none_bad : (word : List ℕ) → IsNoNumber word → ReadsOutput (codes "bad " ++ word) None
unfolding lead lead_by
none_bad word other (Bad n) good e = other n good (ap (drop 4) e)
none_bad word other line good e = other_lead (98 * 256 + 97) (codes "bad " ++ word) line refl (λ same. absurd (omega (arith, same))) e

-- ---- words behind numbers

-- no two numbers and other words
abbrev pub IsNoThree : List ℕ → Type 0
IsNoThree words = (a b : ℕ) (rest : List ℕ) → a < 2 ^ 64 → b < 2 ^ 64 → words ≡ decimal a ++ space ∷ (decimal b ++ space ∷ rest) → ⊥

abbrev IsPair : List ℕ → ℕ → ℕ → List ℕ → Type 0
IsPair words a b rest = (a < 2 ^ 64) × (b < 2 ^ 64) × (words ≡ decimal a ++ space ∷ (decimal b ++ space ∷ rest))

same_two : (words rest other : List ℕ) (a b c d : ℕ) → IsPair words a b rest → c < 2 ^ 64 → d < 2 ^ 64 → words ≡ decimal c ++ space ∷ (decimal d ++ space ∷ other) → (a ≡ c) × (b ≡ d) × (rest ≡ other)
same_two words rest other a b c d p fc fd f =
    let one = same_word words (decimal b ++ space ∷ rest) (decimal d ++ space ∷ other) a c p.0 fc p.2 f in
    let two = same_word (decimal b ++ space ∷ rest) rest other b d p.1 fd refl one.1 in
    (one.0, two.0, two.1)

pub no_three_behind : (words behind : List ℕ) (n : ℕ) → n < 2 ^ 64 → words ≡ decimal n ++ space ∷ behind → ((b : ℕ) (rest : List ℕ) → b < 2 ^ 64 → behind ≡ decimal b ++ space ∷ rest → ⊥) → IsNoThree words
no_three_behind words behind n fits e none a b rest fa fb f = none b rest fb (same_word words behind (decimal b ++ space ∷ rest) n a fits fa e f).1

pub no_hex_behind : (words word : List ℕ) (n : ℕ) → n < 2 ^ 64 → words ≡ decimal n ++ space ∷ word → IsNoHex word
    → (m : ℕ) (bytes : List ℕ) → m < 2 ^ 64 → IsGiven bytes → words ≡ decimal m ++ space ∷ encode_lower bytes → ⊥
no_hex_behind words word n fits e none m bytes fm given f = none bytes given (same_word words word (encode_lower bytes) n m fits fm e f).1

pub no_ending : (words word : List ℕ) (n : ℕ) → n < 2 ^ 64 → words ≡ decimal n ++ space ∷ word → ((how : Ending) → IsEnding how → word ≡ ending_words how → ⊥) → ReadsOutput (codes "bye " ++ words) None
no_ending words word n fits e none = none_bye words (λ m how fm is f. none how is (same_word words word (ending_words how) n m fits fm e f).1)

pub no_coordinator : (words rest : List ℕ) (s m : ℕ) → IsPair words s m rest → m ≡ 0 → IsNoNumber rest → ReadsOutput (codes "up " ++ words) None
no_coordinator words rest s m p zero none =
    none_up words
    (λ t n c d ft fn some fc fd f. let same = same_two words rest (numbers c (d ∷ [])) s m t n p ft fn f in let is = same.1 in absurd (omega (arith, is, zero, some)))
    (λ t a ft fa f. none a fa (same_two words rest (decimal a) s m t 0 p ft (omega arith) f).2)

abbrev IsNoTwo : List ℕ → Type 0
IsNoTwo words = (a b : ℕ) → a < 2 ^ 64 → b < 2 ^ 64 → words ≡ numbers a (b ∷ []) → ⊥

pub no_member_up : (words rest : List ℕ) (s m : ℕ) → IsPair words s m rest → (m ≡ 0 → ⊥) → IsNoTwo rest → ReadsOutput (codes "up " ++ words) None
no_member_up words rest s m p some none =
    none_up words (λ t n c d ft fn _ fc fd f. none c d fc fd (same_two words rest (numbers c (d ∷ [])) s m t n p ft fn f).2)
    (λ t a ft fa f. some (same_two words rest (decimal a) s m t 0 p ft (omega arith) f).1)

pub no_up : (words : List ℕ) → IsNoThree words → ReadsOutput (codes "up " ++ words) None
no_up words none = none_up words (λ s m c d fs fm _ fc fd f. none s m (numbers c (d ∷ [])) fs fm f) (λ s a fs fa f. none s 0 (decimal a) fs (omega arith) f)

pub no_log : (words : List ℕ) → IsNoThree words → ReadsOutput (codes "l " ++ words) None
no_log words none = none_log words (λ s m c d fs fm _ fc fd f. none s m (numbers c (d ∷ [])) fs fm f) (λ s m fs fm _ f. none s m (codes "-") fs fm f)

pub no_log_of_none : (words rest : List ℕ) (s m : ℕ) → IsPair words s m rest → m ≡ 0 → ReadsOutput (codes "l " ++ words) None
no_log_of_none words rest s m p zero =
    none_log words
    (λ t n c d ft fn some fc fd f. let is = (same_two words rest (numbers c (d ∷ [])) s m t n p ft fn f).1 in absurd (omega (arith, is, zero, some)))
    (λ t n ft fn some f. let is = (same_two words rest (codes "-") s m t n p ft fn f).1 in absurd (omega (arith, is, zero, some)))

pub no_member_log : (words rest : List ℕ) (s m : ℕ) → IsPair words s m rest → (rest ≡ codes "-" → ⊥) → IsNoTwo rest → ReadsOutput (codes "l " ++ words) None
no_member_log words rest s m p other none =
    none_log words (λ t n c d ft fn _ fc fd f. none c d fc fd (same_two words rest (numbers c (d ∷ [])) s m t n p ft fn f).2)
    (λ t n ft fn _ f. other (same_two words rest (codes "-") s m t n p ft fn f).2)

pub no_message : (words : List ℕ) → IsNoThree words → ReadsOutput (codes "m " ++ words) None
no_message words none = none_message words (λ s n r a k fs fn fr fa f. none s n (decimal r ++ space ∷ (kind_word k ++ space ∷ decimal a)) fs fn f)

pub no_receiver : (words rest : List ℕ) (s n : ℕ) → IsPair words s n rest → ((b : ℕ) (more : List ℕ) → b < 2 ^ 64 → rest ≡ decimal b ++ space ∷ more → ⊥) → ReadsOutput (codes "m " ++ words) None
no_receiver words rest s n p none =
    none_message words (λ t m r a k ft fm fr fa f.
    let more : List ℕ = kind_word k ++ space ∷ decimal a in
    none r more fr (same_two words rest (decimal r ++ space ∷ more) s n t m p ft fm f).2)

-- no kind and number
abbrev pub IsNoKind : List ℕ → Type 0
IsNoKind words = (kind : MessageKind) (n : ℕ) → n < 2 ^ 64 → words ≡ kind_word kind ++ space ∷ decimal n → ⊥

pub no_kind_behind : (words rest more : List ℕ) (s n r : ℕ) → IsPair words s n rest → r < 2 ^ 64 → rest ≡ decimal r ++ space ∷ more → IsNoKind more → ReadsOutput (codes "m " ++ words) None
no_kind_behind words rest more s n r p fr is none =
    none_message words (λ t m q a k ft fm fq fa f.
    let last : List ℕ = kind_word k ++ space ∷ decimal a in
    let here = same_two words rest (decimal q ++ space ∷ last) s n t m p ft fm f in
    none k a fa (same_word rest more last r q fr fq is here.2).1)

-- ---- kinds, codes and ends

pub no_kind : (word : List ℕ)
    → (word ≡ kind_word kinds.Stop → ⊥) × (word ≡ kind_word kinds.Stopped → ⊥) × (word ≡ kind_word kinds.Open → ⊥) × (word ≡ kind_word kinds.Follow → ⊥) → (word ≡ kind_word kinds.Shape → ⊥) → (word ≡ kind_word kinds.Ask → ⊥)
    → (word ≡ kind_word kinds.Append → ⊥) → (kind : MessageKind) → word ≡ kind_word kind → ⊥
no_kind word four shape ask append kinds.Stop e = four.0 e
no_kind word four shape ask append kinds.Stopped e = four.1 e
no_kind word four shape ask append kinds.Open e = four.2 e
no_kind word four shape ask append kinds.Follow e = four.3 e
no_kind word four shape ask append kinds.Shape e = shape e
no_kind word four shape ask append kinds.Ask e = ask e
no_kind word four shape ask append kinds.Append e = append e

pub one_word_kind : (words : List ℕ) → Lacks space words → IsNoKind words
one_word_kind words lacks kind n fits e = lacks_it_not space (kind_word kind) (decimal n) (subst (Lacks space) e lacks)

same_kind_part : (words word rest : List ℕ) (kind : MessageKind) (n : ℕ) → SplitsAt space words word rest → words ≡ kind_word kind ++ space ∷ decimal n → (word ≡ kind_word kind) × (rest ≡ decimal n)
same_kind_part words word rest kind n split e = cut_same space word (kind_word kind) rest (decimal n) split.1 (kind_lacks kind) (sym split.0 ∙ e)

pub other_kind : (words word rest : List ℕ) → SplitsAt space words word rest → ((kind : MessageKind) → word ≡ kind_word kind → ⊥) → IsNoKind words
other_kind words word rest split none kind n fits e = none kind (same_kind_part words word rest kind n split e).0

pub kind_without_number : (words word rest : List ℕ) → SplitsAt space words word rest → IsNoNumber rest → IsNoKind words
kind_without_number words word rest split none kind n fits e = none n fits (same_kind_part words word rest kind n split e).1

-- no code is spelled so
abbrev pub IsNoCode : List ℕ → Type 0
IsNoCode word = (code : ℕ) → code < 2 ^ 16 → word ≡ code_word code → ⊥

pub no_hex_no_code : (word : List ℕ) → IsNoHex word → IsNoCode word
no_hex_no_code word none code fits e = none (u16_bytes code) (two_bytes code fits) e

pub other_bytes : (word bytes : List ℕ) → IsGiven bytes → word ≡ encode_lower bytes → ((code : ℕ) → code < 2 ^ 16 → bytes ≡ u16_bytes code → ⊥) → IsNoCode word
other_bytes word bytes given is none code fits e = none code fits (hex_same bytes (u16_bytes code) given (two_bytes code fits) (sym is ∙ e))

pub code_found : (word bytes : List ℕ) (found : Option ℕ) → IsGiven bytes × (word ≡ encode_lower bytes) → MatchOption found ((code : ℕ) → code < 2 ^ 16 → bytes ≡ u16_bytes code → ⊥) (λ code. bytes ≡ u16_bytes code)
    → MatchOption found (IsNoCode word) (λ code. word ≡ code_word code)
code_found word bytes None is none = other_bytes word bytes is.0 is.1 none
code_found word bytes (Some code) is e = is.1 ∙ ap encode_lower e

pub no_end_so : (words : List ℕ) → (words ≡ codes "ended" → ⊥) → (words ≡ codes "closed" → ⊥) → (words ≡ codes "silent" → ⊥) → ((code : ℕ) → code < 2 ^ 16 → words ≡ ending_words (ClosedByUs code) → ⊥)
    → (how : Ending) → IsEnding how → words ≡ ending_words how → ⊥
no_end_so words ended closed silent us PeerEnded is e = ended e
no_end_so words ended closed silent us ClosedByPeer is e = closed e
no_end_so words ended closed silent us (ClosedByUs code) is e = us code is e
no_end_so words ended closed silent us Silent is e = silent e

-- ---- lines

pub no_feed : (line : List ℕ) → ((text : List ℕ) → line ≡ text ++ line_feed ∷ [] → ⊥) → (other : OutputLine) → Writes line other → ⊥
no_feed line none other writes = none (output_words other) writes.spelled

pub no_output : (line text : List ℕ) → line ≡ text ++ line_feed ∷ [] → ReadsOutput text None → (other : OutputLine) → Writes line other → ⊥
no_output line text e none other writes = none other writes.valid (before_feed text (output_words other) (sym e ∙ writes.spelled))

pub is_output : (line text : List ℕ) (found : OutputLine) → line ≡ text ++ line_feed ∷ [] → ReadsOutput text (Some found) → Writes line found
is_output line text found e reads = record { spelled = e ∙ ap (λ (t : List ℕ). t ++ line_feed ∷ []) reads.1; valid = reads.0 }
