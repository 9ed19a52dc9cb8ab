-- A line that a node gives has one spelling.
use Rattle.std.proofs.Common.{◌≡◌, ◌≢◌, ℕ, ◌+◌, ◌*◌, ◌^◌, ◌<◌, ◌≤◌, List, [], ◌∷◌, ◌++◌, length, get_or, drop, refl, sym, ap, subst, ◌∙◌, length-append, codes, arith}
use Rattle.std.specs.Fmt.{decimal}
use Rattle.std.proofs.lemmas.Fmt.{decimal_injective}
use Rattle.std.specs.List.{AllByRecursion}
use Rattle.std.proofs.lemmas.List.Elements.{All-from_recursion}
use Rattle.hex.specs.Hex.{encode_lower}
use Rattle.frame_wire.specs.Fields.{u16_bytes}
use Rattle.frame_wire.proofs.FieldLaws.{same_front, u16_same}
use Rattle.script_text.specs.declared.output.Ending.{Ending}
use Rattle.script_text.specs.declared.output.Ending.TheVariants.{PeerEnded, ClosedByPeer, ClosedByUs, Silent}
use Rattle.script_text.specs.declared.output.MessageKind.{MessageKind}
use Rattle.script_text.specs.declared.output.MessageKind.TheVariants as kinds
use Rattle.script_text.specs.declared.output.OutputLine.{OutputLine}
use Rattle.script_text.specs.declared.output.OutputLine.TheVariants.{Sent, Bye, Committed, Message, Later, Down, Up, CoordinatorUp, Log, LogDown, Refused, End, Bad}
use Rattle.script_text.specs.Words.{space, line_feed, Lacks, IsGiven, code_word}
use Rattle.script_text.specs.Script.{numbers}
use Rattle.script_text.specs.Outputs.{kind_word, ending_words, output_words, IsOutput, IsEnding, Writes}
use Rattle.script_text.proofs.HexText.{reads_back, one_reading}
use Rattle.script_text.proofs.Splits.{cut_same, lacks_it_not}
use Rattle.script_text.proofs.Readings.{same_word}

-- ---- words

-- bytes that are spelled as one text are one
pub hex_same : (a b : List ℕ) → IsGiven a → IsGiven b → encode_lower a ≡ encode_lower b → a ≡ b
hex_same a b p q e = sym (one_reading (encode_lower a) a b (reads_back (encode_lower a) a p refl) q e)

pub two_bytes : (n : ℕ) → n < 2 ^ 16 → IsGiven (u16_bytes n)
unfolding u16_bytes
two_bytes n fits = (omega arith, All-from_recursion (λ (b : ℕ). b < 2 ^ 8) (u16_bytes n) (omega arith, (omega arith, tt)))

code_same : (a b : ℕ) → a < 2 ^ 16 → b < 2 ^ 16 → code_word a ≡ code_word b → a ≡ b
code_same a b p q e =
    let bytes : u16_bytes a ≡ u16_bytes b = hex_same (u16_bytes a) (u16_bytes b) (two_bytes a p) (two_bytes b q) e in
    (u16_same a b [] [] p q (ap (λ (l : List ℕ). l ++ []) bytes)).0

kind_size : MessageKind → ℕ
kind_size kinds.Stop = 4
kind_size kinds.Stopped = 7
kind_size kinds.Open = 4
kind_size kinds.Follow = 6
kind_size kinds.Shape = 5
kind_size kinds.Ask = 3
kind_size kinds.Append = 6

kind_size_is : (kind : MessageKind) → length (kind_word kind) ≡ kind_size kind
unfolding kind_size
kind_size_is kinds.Stop = refl
kind_size_is kinds.Stopped = refl
kind_size_is kinds.Open = refl
kind_size_is kinds.Follow = refl
kind_size_is kinds.Shape = refl
kind_size_is kinds.Ask = refl
kind_size_is kinds.Append = refl

kind_first : MessageKind → ℕ
kind_first kinds.Stop = 115
kind_first kinds.Stopped = 115
kind_first kinds.Open = 111
kind_first kinds.Follow = 102
kind_first kinds.Shape = 115
kind_first kinds.Ask = 97
kind_first kinds.Append = 97

kind_first_is : (kind : MessageKind) → get_or (kind_word kind) 0 0 ≡ kind_first kind
unfolding kind_first
kind_first_is kinds.Stop = refl
kind_first_is kinds.Stopped = refl
kind_first_is kinds.Open = refl
kind_first_is kinds.Follow = refl
kind_first_is kinds.Shape = refl
kind_first_is kinds.Ask = refl
kind_first_is kinds.Append = refl

kind_by : (a b : MessageKind) → kind_size a ≡ kind_size b → kind_first a ≡ kind_first b → a ≡ b
unfolding kind_size kind_first
kind_by kinds.Stop kinds.Stop e f = refl
kind_by kinds.Stopped kinds.Stopped e f = refl
kind_by kinds.Open kinds.Open e f = refl
kind_by kinds.Follow kinds.Follow e f = refl
kind_by kinds.Shape kinds.Shape e f = refl
kind_by kinds.Ask kinds.Ask e f = refl
kind_by kinds.Append kinds.Append e f = refl
kind_by a b e f = absurd (omega (arith, e, f))

kind_same : (a b : MessageKind) → kind_word a ≡ kind_word b → a ≡ b
kind_same a b e =
    kind_by a b (sym (kind_size_is a) ∙ ap length e ∙ kind_size_is b) (sym (kind_first_is a) ∙ ap (λ (l : List ℕ). get_or l 0 0) e ∙ kind_first_is b)

pub no_space : (word : List ℕ) → AllByRecursion (λ (b : ℕ). b ≢ space) word → Lacks space word
no_space word all = All-from_recursion (λ (b : ℕ). b ≢ space) word all

pub kind_lacks : (kind : MessageKind) → Lacks space (kind_word kind)
kind_lacks kinds.Stop = no_space (codes "stop") (omega arith, (omega arith, (omega arith, (omega arith, tt))))
kind_lacks kinds.Stopped = no_space (codes "stopped") (omega arith, (omega arith, (omega arith, (omega arith, (omega arith, (omega arith, (omega arith, tt)))))))
kind_lacks kinds.Open = no_space (codes "open") (omega arith, (omega arith, (omega arith, (omega arith, tt))))
kind_lacks kinds.Follow = no_space (codes "follow") (omega arith, (omega arith, (omega arith, (omega arith, (omega arith, (omega arith, tt))))))
kind_lacks kinds.Shape = no_space (codes "shape") (omega arith, (omega arith, (omega arith, (omega arith, (omega arith, tt)))))
kind_lacks kinds.Ask = no_space (codes "ask") (omega arith, (omega arith, (omega arith, tt)))
kind_lacks kinds.Append = no_space (codes "append") (omega arith, (omega arith, (omega arith, (omega arith, (omega arith, (omega arith, tt))))))

pub ending_first : Ending → ℕ
ending_first PeerEnded = 101
ending_first ClosedByPeer = 99
ending_first (ClosedByUs code) = 117
ending_first Silent = 115

pub ending_first_is : (how : Ending) → get_or (ending_words how) 0 0 ≡ ending_first how
unfolding ending_first
ending_first_is PeerEnded = refl
ending_first_is ClosedByPeer = refl
ending_first_is (ClosedByUs code) = refl
ending_first_is Silent = refl

ending_same : (a b : Ending) → IsEnding a → IsEnding b → ending_words a ≡ ending_words b → a ≡ b
unfolding ending_first
ending_same PeerEnded PeerEnded p q e = refl
ending_same ClosedByPeer ClosedByPeer p q e = refl
ending_same (ClosedByUs a) (ClosedByUs b) p q e = ap ClosedByUs (code_same a b p q (ap (drop 3) e))
ending_same Silent Silent p q e = refl
ending_same a b p q e = let first : ending_first a ≡ ending_first b = sym (ending_first_is a) ∙ ap (λ (l : List ℕ). get_or l 0 0) e ∙ ending_first_is b in absurd (omega (arith, first))

-- ---- numbers behind each other

two_same : (a b c d : ℕ) → a < 2 ^ 64 → b < 2 ^ 64 → c < 2 ^ 64 → d < 2 ^ 64 → numbers a (b ∷ []) ≡ numbers c (d ∷ []) → (a ≡ c) × (b ≡ d)
two_same a b c d fa fb fc fd e =
    let one = same_word (numbers a (b ∷ [])) (decimal b) (decimal d) a c fa fc refl e in
    (one.0, decimal_injective b d fb fd one.1)

four_same : (a b c d a' b' c' d' : ℕ) → a < 2 ^ 64 → b < 2 ^ 64 → c < 2 ^ 64 → d < 2 ^ 64 → a' < 2 ^ 64 → b' < 2 ^ 64 → c' < 2 ^ 64 → d' < 2 ^ 64
    → numbers a (b ∷ c ∷ d ∷ []) ≡ numbers a' (b' ∷ c' ∷ d' ∷ []) → (a ≡ a') × (b ≡ b') × (c ≡ c') × (d ≡ d')
four_same a b c d a' b' c' d' fa fb fc fd fa' fb' fc' fd' e =
    let one = same_word (numbers a (b ∷ c ∷ d ∷ [])) (numbers b (c ∷ d ∷ [])) (numbers b' (c' ∷ d' ∷ [])) a a' fa fa' refl e in
    let two = same_word (numbers b (c ∷ d ∷ [])) (numbers c (d ∷ [])) (numbers c' (d' ∷ [])) b b' fb fb' refl one.1 in
    let rest = two_same c d c' d' fc fd fc' fd' two.1 in
    (one.0, two.0, rest.0, rest.1)

-- a member's line is not the coordinator's
not_coordinator : (s m c e t n : ℕ) → s < 2 ^ 64 → m < 2 ^ 64 → 1 ≤ m → t < 2 ^ 64 → numbers s (m ∷ c ∷ e ∷ []) ≡ numbers t (0 ∷ n ∷ []) → ⊥
not_coordinator s m c e t n fs fm some ft h =
    let one = same_word (numbers s (m ∷ c ∷ e ∷ [])) (numbers m (c ∷ e ∷ [])) (numbers 0 (n ∷ [])) s t fs ft refl h in
    let two = same_word (numbers m (c ∷ e ∷ [])) (numbers c (e ∷ [])) (decimal n) m 0 fm (omega arith) refl one.1 in
    let zero = two.0 in absurd (omega (arith, zero, some))

-- a log's line is not one of a member that is down
not_down : (s m c e t n : ℕ) → s < 2 ^ 64 → m < 2 ^ 64 → t < 2 ^ 64 → n < 2 ^ 64 → numbers s (m ∷ c ∷ e ∷ []) ≡ decimal t ++ space ∷ (decimal n ++ codes " -") → ⊥
not_down s m c e t n fs fm ft fn h =
    let one = same_word (numbers s (m ∷ c ∷ e ∷ [])) (numbers m (c ∷ e ∷ [])) (decimal n ++ codes " -") s t fs ft refl h in
    let two = same_word (numbers m (c ∷ e ∷ [])) (numbers c (e ∷ [])) (codes "-") m n fm fn refl one.1 in
    lacks_it_not space (decimal c) (decimal e) (subst (Lacks space) (sym two.1) (no_space (codes "-") (omega arith, tt)))

down_same : (s m t n : ℕ) → s < 2 ^ 64 → m < 2 ^ 64 → t < 2 ^ 64 → n < 2 ^ 64 → decimal s ++ space ∷ (decimal m ++ codes " -") ≡ decimal t ++ space ∷ (decimal n ++ codes " -") → (s ≡ t) × (m ≡ n)
down_same s m t n fs fm ft fn h =
    let one = same_word (decimal s ++ space ∷ (decimal m ++ codes " -")) (decimal m ++ codes " -") (decimal n ++ codes " -") s t fs ft refl h in
    let two = same_word (decimal m ++ codes " -") (codes "-") (codes "-") m n fm fn refl one.1 in
    (one.0, two.0)

-- ---- lines

-- the first two bytes of a line
unfoldable pub lead : OutputLine → ℕ
lead (Sent connection frame) = 62 * 256 + 32
lead (Bye connection how) = 98 * 256 + 121
lead (Committed stream chunk) = 107 * 256 + 32
lead (Message stream number receiver kind epoch) = 109 * 256 + 32
lead (Later stream member) = 108 * 256 + 97
lead (Down stream member) = 100 * 256 + 111
lead (Up stream member count end) = 117 * 256 + 112
lead (CoordinatorUp stream epoch) = 117 * 256 + 112
lead (Log stream member count end) = 108 * 256 + 32
lead (LogDown stream member) = 108 * 256 + 32
lead (Refused code) = 110 * 256 + 111
lead End = 101 * 256 + 110
lead (Bad number) = 98 * 256 + 97

pub lead_is : (line : OutputLine) → get_or (output_words line) 0 0 * 256 + get_or (output_words line) 1 0 ≡ lead line
unfolding lead
lead_is (Sent connection frame) = refl
lead_is (Bye connection how) = refl
lead_is (Committed stream chunk) = refl
lead_is (Message stream number receiver kind epoch) = refl
lead_is (Later stream member) = refl
lead_is (Down stream member) = refl
lead_is (Up stream member count end) = refl
lead_is (CoordinatorUp stream epoch) = refl
lead_is (Log stream member count end) = refl
lead_is (LogDown stream member) = refl
lead_is (Refused code) = refl
lead_is End = refl
lead_is (Bad number) = refl

message_same : (s n r t m q a b : ℕ) (k j : MessageKind) → s < 2 ^ 64 → n < 2 ^ 64 → r < 2 ^ 64 → a < 2 ^ 64 → t < 2 ^ 64 → m < 2 ^ 64 → q < 2 ^ 64 → b < 2 ^ 64
    → decimal s ++ space ∷ (decimal n ++ space ∷ (decimal r ++ space ∷ (kind_word k ++ space ∷ decimal a))) ≡ decimal t ++ space ∷ (decimal m ++ space ∷ (decimal q ++ space ∷ (kind_word j ++ space ∷ decimal b)))
    → Message s n r k a ≡ Message t m q j b
message_same s n r t m q a b k j fs fn fr fa ft fm fq fb e =
    let kx : List ℕ = kind_word k ++ space ∷ decimal a in
    let ky : List ℕ = kind_word j ++ space ∷ decimal b in
    let rx : List ℕ = decimal r ++ space ∷ kx in
    let ry : List ℕ = decimal q ++ space ∷ ky in
    let nx : List ℕ = decimal n ++ space ∷ rx in
    let ny : List ℕ = decimal m ++ space ∷ ry in
    let one = same_word (decimal s ++ space ∷ nx) nx ny s t fs ft refl e in
    let two = same_word nx rx ry n m fn fm refl one.1 in
    let three = same_word rx kx ky r q fr fq refl two.1 in
    let four = cut_same space (kind_word k) (kind_word j) (decimal a) (decimal b) (kind_lacks k) (kind_lacks j) three.1 in
    ap (λ (z : ℕ). Message z n r k a) one.0 ∙ ap (λ (z : ℕ). Message t z r k a) two.0 ∙ ap (λ (z : ℕ). Message t m z k a) three.0
    ∙ ap (λ (z : MessageKind). Message t m q z a) (kind_same k j four.0) ∙ ap (λ (z : ℕ). Message t m q j z) (decimal_injective a b fa fb four.1)

same_lines : (l m : OutputLine) → IsOutput l → IsOutput m → output_words l ≡ output_words m → l ≡ m
unfolding lead
same_lines (Sent n f) (Sent m g) p q e =
    let both = same_word (decimal n ++ space ∷ encode_lower f) (encode_lower f) (encode_lower g) n m p.0 q.0 refl (ap (drop 2) e) in
    ap (λ (x : ℕ). Sent x f) both.0 ∙ ap (Sent m) (hex_same f g p.1 q.1 both.1)
same_lines (Committed n f) (Committed m g) p q e =
    let both = same_word (decimal n ++ space ∷ encode_lower f) (encode_lower f) (encode_lower g) n m p.0 q.0 refl (ap (drop 2) e) in
    ap (λ (x : ℕ). Committed x f) both.0 ∙ ap (Committed m) (hex_same f g p.1 q.1 both.1)
same_lines (Bye n a) (Bye m b) p q e =
    let both = same_word (decimal n ++ space ∷ ending_words a) (ending_words a) (ending_words b) n m p.0 q.0 refl (ap (drop 4) e) in
    ap (λ (x : ℕ). Bye x a) both.0 ∙ ap (Bye m) (ending_same a b p.1 q.1 both.1)
same_lines (Message s n r k a) (Message t m u j b) p q e = message_same s n r t m u a b k j p.0 p.1 p.2 p.3 q.0 q.1 q.2 q.3 (ap (drop 2) e)
same_lines (Later s m) (Later t n) p q e = let both = two_same s m t n p.0 p.1 q.0 q.1 (ap (drop 6) e) in ap (λ (x : ℕ). Later x m) both.0 ∙ ap (Later t) both.1
same_lines (Down s m) (Down t n) p q e = let both = two_same s m t n p.0 p.1 q.0 q.1 (ap (drop 5) e) in ap (λ (x : ℕ). Down x m) both.0 ∙ ap (Down t) both.1
same_lines (Up s m c d) (Up t n f g) p q e =
    let all = four_same s m c d t n f g p.0 p.1.0 p.2 p.3 q.0 q.1.0 q.2 q.3 (ap (drop 3) e) in
    ap (λ (x : ℕ). Up x m c d) all.0 ∙ ap (λ (x : ℕ). Up t x c d) all.1 ∙ ap (λ (x : ℕ). Up t n x d) all.2 ∙ ap (Up t n f) all.3
same_lines (Up s m c d) (CoordinatorUp t n) p q e = absurd (not_coordinator s m c d t n p.0 p.1.0 p.1.1 q.0 (ap (drop 3) e))
same_lines (CoordinatorUp t n) (Up s m c d) p q e = absurd (not_coordinator s m c d t n q.0 q.1.0 q.1.1 p.0 (sym (ap (drop 3) e)))
same_lines (CoordinatorUp s m) (CoordinatorUp t n) p q e =
    let one = same_word (numbers s (0 ∷ m ∷ [])) (numbers 0 (m ∷ [])) (numbers 0 (n ∷ [])) s t p.0 q.0 refl (ap (drop 3) e) in
    let two = two_same 0 m 0 n (omega arith) p.1 (omega arith) q.1 one.1 in
    ap (λ (x : ℕ). CoordinatorUp x m) one.0 ∙ ap (CoordinatorUp t) two.1
same_lines (Log s m c d) (Log t n f g) p q e =
    let all = four_same s m c d t n f g p.0 p.1.0 p.2 p.3 q.0 q.1.0 q.2 q.3 (ap (drop 2) e) in
    ap (λ (x : ℕ). Log x m c d) all.0 ∙ ap (λ (x : ℕ). Log t x c d) all.1 ∙ ap (λ (x : ℕ). Log t n x d) all.2 ∙ ap (Log t n f) all.3
same_lines (Log s m c d) (LogDown t n) p q e = absurd (not_down s m c d t n p.0 p.1.0 q.0 q.1.0 (ap (drop 2) e))
same_lines (LogDown t n) (Log s m c d) p q e = absurd (not_down s m c d t n q.0 q.1.0 p.0 p.1.0 (sym (ap (drop 2) e)))
same_lines (LogDown s m) (LogDown t n) p q e = let both = down_same s m t n p.0 p.1.0 q.0 q.1.0 (ap (drop 2) e) in ap (λ (x : ℕ). LogDown x m) both.0 ∙ ap (LogDown t) both.1
same_lines (Refused a) (Refused b) p q e = ap Refused (code_same a b p q (ap (drop 3) e))
same_lines End End p q e = refl
same_lines (Bad n) (Bad m) p q e = ap Bad (decimal_injective n m p q (ap (drop 4) e))
same_lines l m p q e =
    let leads : lead l ≡ lead m = sym (lead_is l) ∙ ap (λ (x : List ℕ). get_or x 0 0 * 256 + get_or x 1 0) e ∙ lead_is m in absurd (omega (arith, leads))

pub before_feed : (a b : List ℕ) → a ++ line_feed ∷ [] ≡ b ++ line_feed ∷ [] → a ≡ b
before_feed a b e =
    let lengths = ap length e in
    let len : length a ≡ length b = omega (arith, lengths, length-append a (line_feed ∷ []), length-append b (line_feed ∷ [])) in
    (same_front a b (line_feed ∷ []) (line_feed ∷ []) len e).0

pub one_output : (bytes : List ℕ) (l m : OutputLine) → Writes bytes l → Writes bytes m → l ≡ m
one_output bytes l m p q = same_lines l m p.valid q.valid (before_feed (output_words l) (output_words m) (sym p.spelled ∙ q.spelled))
