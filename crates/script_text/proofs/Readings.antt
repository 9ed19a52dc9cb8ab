-- The letter of a line tells its kind, and the words behind it have one reading.
use Rattle.std.proofs.Common.{◌≡◌, ℕ, ◌^◌, ◌<◌, ◌≤◌, List, [], ◌∷◌, ◌++◌, length, get_or, drop, Some, None, refl, sym, ap, subst, ◌∙◌, length-append, arith}
use Rattle.std.specs.Fmt.{decimal}
use Rattle.std.proofs.lemmas.Fmt.{decimal_injective}
use Rattle.hex.specs.Hex.{encode_lower}
use Rattle.frame_wire.proofs.FieldLaws.{same_front}
use Rattle.script_text.specs.declared.script.ScriptLine.{ScriptLine}
use Rattle.script_text.specs.declared.script.ScriptLine.TheVariants.{Create, Connect, Prepare, Give, Poll, Leave, Tick, Elect, Deliver, Lose, Perform, Stop, Restart, Fail, Settle, Inspect, StopAll}
use Rattle.script_text.specs.Words.{space, line_feed, IsName, IsGiven}
use Rattle.script_text.specs.Script.{numbers, words_of, HasGoodWords, Spells, ReadsWords}
use Rattle.script_text.proofs.HexText.{IsNoHex, reads_back, one_reading}
use Rattle.script_text.proofs.Decimals.{IsNoNumber}
use Rattle.script_text.proofs.Splits.{cut_same, decimal_has_no_space}

pub letter_of : ScriptLine → ℕ
letter_of (Create name) = 110
letter_of (Connect connection) = 97
letter_of (Prepare connection name) = 98
letter_of (Give connection bytes) = 99
letter_of (Poll connection) = 112
letter_of (Leave connection) = 113
letter_of (Tick moment) = 116
letter_of (Elect stream) = 101
letter_of (Deliver stream message) = 100
letter_of (Lose stream message) = 117
letter_of (Perform stream member) = 119
letter_of (Stop stream member calls image) = 120
letter_of (Restart stream member) = 114
letter_of (Fail stream member call) = 102
letter_of (Settle stream) = 115
letter_of (Inspect stream) = 105
letter_of (StopAll calls image) = 122

letter_is : (line : ScriptLine) → get_or (words_of line) 0 0 ≡ letter_of line
unfolding letter_of
letter_is (Create name) = refl
letter_is (Connect connection) = refl
letter_is (Prepare connection name) = refl
letter_is (Give connection bytes) = refl
letter_is (Poll connection) = refl
letter_is (Leave connection) = refl
letter_is (Tick moment) = refl
letter_is (Elect stream) = refl
letter_is (Deliver stream message) = refl
letter_is (Lose stream message) = refl
letter_is (Perform stream member) = refl
letter_is (Stop stream member calls image) = refl
letter_is (Restart stream member) = refl
letter_is (Fail stream member call) = refl
letter_is (Settle stream) = refl
letter_is (Inspect stream) = refl
letter_is (StopAll calls image) = refl

space_is : (line : ScriptLine) → words_of line ≡ letter_of line ∷ space ∷ drop 2 (words_of line)
unfolding letter_of
space_is (Create name) = refl
space_is (Connect connection) = refl
space_is (Prepare connection name) = refl
space_is (Give connection bytes) = refl
space_is (Poll connection) = refl
space_is (Leave connection) = refl
space_is (Tick moment) = refl
space_is (Elect stream) = refl
space_is (Deliver stream message) = refl
space_is (Lose stream message) = refl
space_is (Perform stream member) = refl
space_is (Stop stream member calls image) = refl
space_is (Restart stream member) = refl
space_is (Fail stream member call) = refl
space_is (Settle stream) = refl
space_is (Inspect stream) = refl
space_is (StopAll calls image) = refl

other_letter : (letter : ℕ) (words : List ℕ) (line : ScriptLine) → (letter ≡ letter_of line → ⊥) → letter ∷ space ∷ words ≡ words_of line → ⊥
other_letter letter words line other e = other (ap (λ (l : List ℕ). get_or l 0 0) e ∙ letter_is line)

-- ---- words behind a letter that are no line

pub none_create : (words : List ℕ) → ((name : List ℕ) → IsName name → words ≡ name → ⊥) → ReadsWords (110 ∷ space ∷ words) None
unfolding letter_of
none_create words other (Create name) good e = other name good (ap (drop 2) e)
none_create words other line good e = other_letter 110 words line (λ same. absurd (omega (arith, same))) e

pub none_connect : (words : List ℕ) → ((a : ℕ) → a < 2 ^ 64 → words ≡ numbers a [] → ⊥) → ReadsWords (97 ∷ space ∷ words) None
unfolding letter_of
none_connect words other (Connect connection) good e = other connection good (ap (drop 2) e)
none_connect words other line good e = other_letter 97 words line (λ same. absurd (omega (arith, same))) e

pub none_prepare : (words : List ℕ) → ((n : ℕ) (name : List ℕ) → n < 2 ^ 64 → IsName name → words ≡ decimal n ++ space ∷ name → ⊥) → ReadsWords (98 ∷ space ∷ words) None
unfolding letter_of
none_prepare words other (Prepare connection name) good e = other connection name good.0 good.1 (ap (drop 2) e)
none_prepare words other line good e = other_letter 98 words line (λ same. absurd (omega (arith, same))) e

pub none_give : (words : List ℕ) → ((n : ℕ) (bytes : List ℕ) → n < 2 ^ 64 → IsGiven bytes → words ≡ decimal n ++ space ∷ encode_lower bytes → ⊥) → ReadsWords (99 ∷ space ∷ words) None
unfolding letter_of
none_give words other (Give connection bytes) good e = other connection bytes good.0 good.1 (ap (drop 2) e)
none_give words other line good e = other_letter 99 words line (λ same. absurd (omega (arith, same))) e

pub none_poll : (words : List ℕ) → ((a : ℕ) → a < 2 ^ 64 → words ≡ numbers a [] → ⊥) → ReadsWords (112 ∷ space ∷ words) None
unfolding letter_of
none_poll words other (Poll connection) good e = other connection good (ap (drop 2) e)
none_poll words other line good e = other_letter 112 words line (λ same. absurd (omega (arith, same))) e

pub none_leave : (words : List ℕ) → ((a : ℕ) → a < 2 ^ 64 → words ≡ numbers a [] → ⊥) → ReadsWords (113 ∷ space ∷ words) None
unfolding letter_of
none_leave words other (Leave connection) good e = other connection good (ap (drop 2) e)
none_leave words other line good e = other_letter 113 words line (λ same. absurd (omega (arith, same))) e

pub none_tick : (words : List ℕ) → ((a : ℕ) → a < 2 ^ 64 → words ≡ numbers a [] → ⊥) → ReadsWords (116 ∷ space ∷ words) None
unfolding letter_of
none_tick words other (Tick moment) good e = other moment good (ap (drop 2) e)
none_tick words other line good e = other_letter 116 words line (λ same. absurd (omega (arith, same))) e

pub none_elect : (words : List ℕ) → ((a : ℕ) → a < 2 ^ 64 → words ≡ numbers a [] → ⊥) → ReadsWords (101 ∷ space ∷ words) None
unfolding letter_of
none_elect words other (Elect stream) good e = other stream good (ap (drop 2) e)
none_elect words other line good e = other_letter 101 words line (λ same. absurd (omega (arith, same))) e

pub none_deliver : (words : List ℕ) → ((a b : ℕ) → a < 2 ^ 64 → b < 2 ^ 64 → words ≡ numbers a (b ∷ []) → ⊥) → ReadsWords (100 ∷ space ∷ words) None
unfolding letter_of
none_deliver words other (Deliver stream message) good e = other stream message good.0 good.1 (ap (drop 2) e)
none_deliver words other line good e = other_letter 100 words line (λ same. absurd (omega (arith, same))) e

pub none_lose : (words : List ℕ) → ((a b : ℕ) → a < 2 ^ 64 → b < 2 ^ 64 → words ≡ numbers a (b ∷ []) → ⊥) → ReadsWords (117 ∷ space ∷ words) None
unfolding letter_of
none_lose words other (Lose stream message) good e = other stream message good.0 good.1 (ap (drop 2) e)
none_lose words other line good e = other_letter 117 words line (λ same. absurd (omega (arith, same))) e

pub none_perform : (words : List ℕ) → ((a b : ℕ) → a < 2 ^ 64 → b < 2 ^ 64 → words ≡ numbers a (b ∷ []) → ⊥) → ReadsWords (119 ∷ space ∷ words) None
unfolding letter_of
none_perform words other (Perform stream member) good e = other stream member good.0 good.1 (ap (drop 2) e)
none_perform words other line good e = other_letter 119 words line (λ same. absurd (omega (arith, same))) e

pub none_stop : (words : List ℕ) → ((a b c d : ℕ) → a < 2 ^ 64 → b < 2 ^ 64 → c < 2 ^ 64 → d < 4 → words ≡ numbers a (b ∷ c ∷ d ∷ []) → ⊥) → ReadsWords (120 ∷ space ∷ words) None
unfolding letter_of
none_stop words other (Stop stream member calls image) good e = other stream member calls image good.0 good.1 good.2 good.3 (ap (drop 2) e)
none_stop words other line good e = other_letter 120 words line (λ same. absurd (omega (arith, same))) e

pub none_restart : (words : List ℕ) → ((a b : ℕ) → a < 2 ^ 64 → b < 2 ^ 64 → words ≡ numbers a (b ∷ []) → ⊥) → ReadsWords (114 ∷ space ∷ words) None
unfolding letter_of
none_restart words other (Restart stream member) good e = other stream member good.0 good.1 (ap (drop 2) e)
none_restart words other line good e = other_letter 114 words line (λ same. absurd (omega (arith, same))) e

pub none_fail : (words : List ℕ) → ((a b c : ℕ) → a < 2 ^ 64 → b < 2 ^ 64 → c < 2 ^ 64 → 1 ≤ c → words ≡ numbers a (b ∷ c ∷ []) → ⊥) → ReadsWords (102 ∷ space ∷ words) None
unfolding letter_of
none_fail words other (Fail stream member call) good e = other stream member call good.0 good.1 good.2 good.3 (ap (drop 2) e)
none_fail words other line good e = other_letter 102 words line (λ same. absurd (omega (arith, same))) e

pub none_settle : (words : List ℕ) → ((a : ℕ) → a < 2 ^ 64 → words ≡ numbers a [] → ⊥) → ReadsWords (115 ∷ space ∷ words) None
unfolding letter_of
none_settle words other (Settle stream) good e = other stream good (ap (drop 2) e)
none_settle words other line good e = other_letter 115 words line (λ same. absurd (omega (arith, same))) e

pub none_inspect : (words : List ℕ) → ((a : ℕ) → a < 2 ^ 64 → words ≡ numbers a [] → ⊥) → ReadsWords (105 ∷ space ∷ words) None
unfolding letter_of
none_inspect words other (Inspect stream) good e = other stream good (ap (drop 2) e)
none_inspect words other line good e = other_letter 105 words line (λ same. absurd (omega (arith, same))) e

pub none_stop_all : (words : List ℕ) → ((a b : ℕ) → a < 2 ^ 64 → b < 4 → words ≡ numbers a (b ∷ []) → ⊥) → ReadsWords (122 ∷ space ∷ words) None
unfolding letter_of
none_stop_all words other (StopAll calls image) good e = other calls image good.0 good.1 (ap (drop 2) e)
none_stop_all words other line good e = other_letter 122 words line (λ same. absurd (omega (arith, same))) e

pub no_letter : (letter : ℕ) (words : List ℕ) → ((line : ScriptLine) → letter ≡ letter_of line → ⊥) → ReadsWords (letter ∷ space ∷ words) None
no_letter letter words other line good e = other_letter letter words line (other line) e

-- ---- words behind a number

pub same_word : (words word other : List ℕ) (n m : ℕ) → n < 2 ^ 64 → m < 2 ^ 64 → words ≡ decimal n ++ space ∷ word → words ≡ decimal m ++ space ∷ other → (n ≡ m) × (word ≡ other)
same_word words word other n m n_fits m_fits e f =
    let both = cut_same space (decimal n) (decimal m) word other (decimal_has_no_space n n_fits) (decimal_has_no_space m m_fits) (sym e ∙ f) in
    (decimal_injective n m n_fits m_fits both.0, both.1)

pub no_two : (words rest : List ℕ) (n : ℕ) → n < 2 ^ 64 → words ≡ decimal n ++ space ∷ rest → IsNoNumber rest → (a b : ℕ) → a < 2 ^ 64 → b < 2 ^ 64 → words ≡ numbers a (b ∷ []) → ⊥
no_two words rest n fits e none a b fa fb f = none b fb (same_word words rest (decimal b) n a fits fa e f).1

pub no_three : (words rest : List ℕ) (n : ℕ) → n < 2 ^ 64 → words ≡ decimal n ++ space ∷ rest → ((b c : ℕ) → b < 2 ^ 64 → c < 2 ^ 64 → rest ≡ numbers b (c ∷ []) → ⊥)
    → (a b c : ℕ) → a < 2 ^ 64 → b < 2 ^ 64 → c < 2 ^ 64 → words ≡ numbers a (b ∷ c ∷ []) → ⊥
no_three words rest n fits e none a b c fa fb fc f = none b c fb fc (same_word words rest (numbers b (c ∷ [])) n a fits fa e f).1

pub no_four : (words rest : List ℕ) (n : ℕ) → n < 2 ^ 64 → words ≡ decimal n ++ space ∷ rest → ((b c d : ℕ) → b < 2 ^ 64 → c < 2 ^ 64 → d < 2 ^ 64 → rest ≡ numbers b (c ∷ d ∷ []) → ⊥)
    → (a b c d : ℕ) → a < 2 ^ 64 → b < 2 ^ 64 → c < 2 ^ 64 → d < 2 ^ 64 → words ≡ numbers a (b ∷ c ∷ d ∷ []) → ⊥
no_four words rest n fits e none a b c d fa fb fc fd f = none b c d fb fc fd (same_word words rest (numbers b (c ∷ d ∷ [])) n a fits fa e f).1

last_of_two : (words : List ℕ) (a b c d : ℕ) → a < 2 ^ 64 → b < 2 ^ 64 → c < 2 ^ 64 → d < 2 ^ 64 → words ≡ numbers a (b ∷ []) → words ≡ numbers c (d ∷ []) → b ≡ d
last_of_two words a b c d fa fb fc fd e f = decimal_injective b d fb fd (same_word words (decimal b) (decimal d) a c fa fc e f).1

-- a call is counted from 1
pub no_call : (words : List ℕ) (s m n : ℕ) → s < 2 ^ 64 → m < 2 ^ 64 → n < 2 ^ 64 → words ≡ numbers s (m ∷ n ∷ []) → n ≡ 0 → ReadsWords (102 ∷ space ∷ words) None
no_call words s m n fs fm fn e zero = none_fail words (λ a b c fa fb fc some f.
    let one = same_word words (numbers m (n ∷ [])) (numbers b (c ∷ [])) s a fs fa e f in
    let last = last_of_two (numbers m (n ∷ [])) m n b c fm fn fb fc refl one.1 in
    absurd (omega (arith, last, zero, some)))

-- there are four images
pub no_image : (words : List ℕ) (n i : ℕ) → n < 2 ^ 64 → i < 2 ^ 64 → words ≡ numbers n (i ∷ []) → 4 ≤ i → ReadsWords (122 ∷ space ∷ words) None
no_image words n i fn fi e large = none_stop_all words (λ a b fa small f.
    let last = last_of_two words n i a b fn fi fa (omega (arith, small)) e f in
    absurd (omega (arith, last, large, small)))

pub no_image_left : (words : List ℕ) (s m n i : ℕ) → s < 2 ^ 64 → m < 2 ^ 64 → n < 2 ^ 64 → i < 2 ^ 64 → words ≡ numbers s (m ∷ n ∷ i ∷ []) → 4 ≤ i → ReadsWords (120 ∷ space ∷ words) None
no_image_left words s m n i fs fm fn fi e large = none_stop words (λ a b c d fa fb fc small f.
    let one = same_word words (numbers m (n ∷ i ∷ [])) (numbers b (c ∷ d ∷ [])) s a fs fa e f in
    let two = same_word (numbers m (n ∷ i ∷ [])) (numbers n (i ∷ [])) (numbers c (d ∷ [])) m b fm fb refl one.1 in
    let last = last_of_two (numbers n (i ∷ [])) n i c d fn fi fc (omega (arith, small)) refl two.1 in
    absurd (omega (arith, last, large, small)))

pub no_name : (words word : List ℕ) (n : ℕ) → n < 2 ^ 64 → words ≡ decimal n ++ space ∷ word → (IsName word → ⊥) → ReadsWords (98 ∷ space ∷ words) None
no_name words word n fits e bad = none_prepare words (λ m other small is f. bad (subst IsName (sym (same_word words word other n m fits small e f).1) is))

pub no_hex : (words word : List ℕ) (n : ℕ) → n < 2 ^ 64 → words ≡ decimal n ++ space ∷ word → IsNoHex word → ReadsWords (99 ∷ space ∷ words) None
no_hex words word n fits e bad = none_give words (λ m bytes small given f. bad bytes given (same_word words word (encode_lower bytes) n m fits small e f).1)

-- ---- lines

-- the text before the line feed, read from the whole line
text_same : (line text : List ℕ) (other : ScriptLine) → line ≡ text ++ line_feed ∷ [] → Spells line other → text ≡ words_of other
text_same line text other e spells =
    let whole : text ++ line_feed ∷ [] ≡ words_of other ++ line_feed ∷ [] = sym e ∙ spells.spelled in
    let lengths = ap length whole in
    let len : length text ≡ length (words_of other) = omega (arith, lengths, length-append text (line_feed ∷ []), length-append (words_of other) (line_feed ∷ [])) in
    (same_front text (words_of other) (line_feed ∷ []) (line_feed ∷ []) len whole).0

pub line_without_text : (line : List ℕ) → ((text : List ℕ) → length text ≤ 4194304 → line ≡ text ++ line_feed ∷ [] → ⊥) → (other : ScriptLine) → Spells line other → ⊥
line_without_text line none other spells = none (words_of other) spells.valid.short spells.spelled

pub line_without_letter : (line text : List ℕ) → line ≡ text ++ line_feed ∷ [] → ((letter : ℕ) (words : List ℕ) → text ≡ letter ∷ space ∷ words → ⊥) → (other : ScriptLine) → Spells line other → ⊥
line_without_letter line text e none other spells = none (letter_of other) (drop 2 (words_of other)) (text_same line text other e spells ∙ space_is other)

pub line_of_no_kind : (line text words : List ℕ) (letter : ℕ) → line ≡ text ++ line_feed ∷ [] → text ≡ letter ∷ space ∷ words → ReadsWords (letter ∷ space ∷ words) None → (other : ScriptLine) → Spells line other → ⊥
line_of_no_kind line text words letter e f none other spells = none other spells.valid.words (sym f ∙ text_same line text other e spells)

pub line_read : (line text words : List ℕ) (letter : ℕ) (found : ScriptLine) → line ≡ text ++ line_feed ∷ [] → length text ≤ 4194304 → text ≡ letter ∷ space ∷ words
    → ReadsWords (letter ∷ space ∷ words) (Some found) → Spells line found
line_read line text words letter found e short f reads =
    let is : text ≡ words_of found = f ∙ reads.1 in
    record { spelled = e ∙ ap (λ (t : List ℕ). t ++ line_feed ∷ []) is; valid = record { words = reads.0; short = subst (λ (t : List ℕ). length t ≤ 4194304) is short } }

-- ---- a line has one spelling

same_words : (l m : ScriptLine) → HasGoodWords l → HasGoodWords m → words_of l ≡ words_of m → l ≡ m
unfolding letter_of
same_words (Create name) (Create other) p q e = ap Create (ap (drop 2) e)
same_words (Connect a1) (Connect b1) p q e = ap Connect (decimal_injective a1 b1 p q (ap (drop 2) e))
same_words (Prepare n name) (Prepare m other) p q e =
    let both = same_word (decimal n ++ space ∷ name) name other n m p.0 q.0 refl (ap (drop 2) e) in
    ap (λ (x : ℕ). Prepare x name) both.0 ∙ ap (Prepare m) both.1
same_words (Give n bytes) (Give m other) p q e =
    let both = same_word (decimal n ++ space ∷ encode_lower bytes) (encode_lower bytes) (encode_lower other) n m p.0 q.0 refl (ap (drop 2) e) in
    let back = reads_back (encode_lower bytes) bytes p.1 refl in
    ap (λ (x : ℕ). Give x bytes) both.0 ∙ ap (Give m) (sym (one_reading (encode_lower bytes) bytes other back q.1 both.1))
same_words (Poll a1) (Poll b1) p q e = ap Poll (decimal_injective a1 b1 p q (ap (drop 2) e))
same_words (Leave a1) (Leave b1) p q e = ap Leave (decimal_injective a1 b1 p q (ap (drop 2) e))
same_words (Tick a1) (Tick b1) p q e = ap Tick (decimal_injective a1 b1 p q (ap (drop 2) e))
same_words (Elect a1) (Elect b1) p q e = ap Elect (decimal_injective a1 b1 p q (ap (drop 2) e))
same_words (Deliver a1 a2) (Deliver b1 b2) p q e =
    let w1 = same_word (decimal a1 ++ space ∷ (numbers a2 [])) (numbers a2 []) (numbers b2 []) a1 b1 p.0 q.0 refl (ap (drop 2) e) in
    let last = decimal_injective a2 b2 p.1 q.1 w1.1 in
    ap (λ (x : ℕ). Deliver x a2) w1.0 ∙ ap (λ (x : ℕ). Deliver b1 x) last
same_words (Lose a1 a2) (Lose b1 b2) p q e =
    let w1 = same_word (decimal a1 ++ space ∷ (numbers a2 [])) (numbers a2 []) (numbers b2 []) a1 b1 p.0 q.0 refl (ap (drop 2) e) in
    let last = decimal_injective a2 b2 p.1 q.1 w1.1 in
    ap (λ (x : ℕ). Lose x a2) w1.0 ∙ ap (λ (x : ℕ). Lose b1 x) last
same_words (Perform a1 a2) (Perform b1 b2) p q e =
    let w1 = same_word (decimal a1 ++ space ∷ (numbers a2 [])) (numbers a2 []) (numbers b2 []) a1 b1 p.0 q.0 refl (ap (drop 2) e) in
    let last = decimal_injective a2 b2 p.1 q.1 w1.1 in
    ap (λ (x : ℕ). Perform x a2) w1.0 ∙ ap (λ (x : ℕ). Perform b1 x) last
same_words (Stop a1 a2 a3 a4) (Stop b1 b2 b3 b4) p q e =
    let w1 = same_word (decimal a1 ++ space ∷ (numbers a2 (a3 ∷ a4 ∷ []))) (numbers a2 (a3 ∷ a4 ∷ [])) (numbers b2 (b3 ∷ b4 ∷ [])) a1 b1 p.0 q.0 refl (ap (drop 2) e) in
    let w2 = same_word (decimal a2 ++ space ∷ (numbers a3 (a4 ∷ []))) (numbers a3 (a4 ∷ [])) (numbers b3 (b4 ∷ [])) a2 b2 p.1 q.1 refl w1.1 in
    let w3 = same_word (decimal a3 ++ space ∷ (numbers a4 [])) (numbers a4 []) (numbers b4 []) a3 b3 p.2 q.2 refl w2.1 in
    let last = decimal_injective a4 b4 (omega (arith, p.3)) (omega (arith, q.3)) w3.1 in
    ap (λ (x : ℕ). Stop x a2 a3 a4) w1.0 ∙ ap (λ (x : ℕ). Stop b1 x a3 a4) w2.0 ∙ ap (λ (x : ℕ). Stop b1 b2 x a4) w3.0 ∙ ap (λ (x : ℕ). Stop b1 b2 b3 x) last
same_words (Restart a1 a2) (Restart b1 b2) p q e =
    let w1 = same_word (decimal a1 ++ space ∷ (numbers a2 [])) (numbers a2 []) (numbers b2 []) a1 b1 p.0 q.0 refl (ap (drop 2) e) in
    let last = decimal_injective a2 b2 p.1 q.1 w1.1 in
    ap (λ (x : ℕ). Restart x a2) w1.0 ∙ ap (λ (x : ℕ). Restart b1 x) last
same_words (Fail a1 a2 a3) (Fail b1 b2 b3) p q e =
    let w1 = same_word (decimal a1 ++ space ∷ (numbers a2 (a3 ∷ []))) (numbers a2 (a3 ∷ [])) (numbers b2 (b3 ∷ [])) a1 b1 p.0 q.0 refl (ap (drop 2) e) in
    let w2 = same_word (decimal a2 ++ space ∷ (numbers a3 [])) (numbers a3 []) (numbers b3 []) a2 b2 p.1 q.1 refl w1.1 in
    let last = decimal_injective a3 b3 p.2 q.2 w2.1 in
    ap (λ (x : ℕ). Fail x a2 a3) w1.0 ∙ ap (λ (x : ℕ). Fail b1 x a3) w2.0 ∙ ap (λ (x : ℕ). Fail b1 b2 x) last
same_words (Settle a1) (Settle b1) p q e = ap Settle (decimal_injective a1 b1 p q (ap (drop 2) e))
same_words (Inspect a1) (Inspect b1) p q e = ap Inspect (decimal_injective a1 b1 p q (ap (drop 2) e))
same_words (StopAll a1 a2) (StopAll b1 b2) p q e =
    let w1 = same_word (decimal a1 ++ space ∷ (numbers a2 [])) (numbers a2 []) (numbers b2 []) a1 b1 p.0 q.0 refl (ap (drop 2) e) in
    let last = decimal_injective a2 b2 (omega (arith, p.1)) (omega (arith, q.1)) w1.1 in
    ap (λ (x : ℕ). StopAll x a2) w1.0 ∙ ap (λ (x : ℕ). StopAll b1 x) last
same_words l m p q e = let letters : letter_of l ≡ letter_of m = sym (letter_is l) ∙ ap (λ (x : List ℕ). get_or x 0 0) e ∙ letter_is m in absurd (omega (arith, letters))

pub one_line : (bytes : List ℕ) (l m : ScriptLine) → Spells bytes l → Spells bytes m → l ≡ m
one_line bytes l m p q = same_words l m p.valid.words q.valid.words (text_same bytes (words_of l) m p.spelled q)
