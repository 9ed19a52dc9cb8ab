-- What is sent, piece by piece.
use Rattle.std.proofs.Common.{◌≡◌, ◌≢◌, ◌≤◌, ℕ, List, [], ◌∷◌, ◌++◌, take, drop, Option, None, Some, refl, sym, ap, subst, ◌∙◌, append_assoc, arith}
use Rattle.std.specs.List.{AllByRecursion}
use Rattle.std.proofs.lemmas.List.{append-nil, take-append-drop}
use Rattle.outside_io.specs.Causes.{HasCause, Rose}
use Rattle.outside_io.specs.Known.{after_known}
use Rattle.command_all.specs.Commands.{frame_of}
use Rattle.session_core.specs.declared.unasked.Unasked.{Unasked}
use Rattle.session_core.specs.Outgoing.{command_of, IsSayableUnasked}
use Rattle.session_link.specs.declared.sending.Went.{Went}
use Rattle.session_link.specs.declared.sending.Went.TheVariants as went
use Rattle.session_link.specs.Sending.{frames_said, Leaves, SentFront, PutBy, SentBy}

pub after_none : (s : Option (List ℕ)) → after_known s [] ≡ s
after_none None = refl
after_none (Some told) = ap Some (append-nil told)

pub after_joins : (s : Option (List ℕ)) (a b : List ℕ) → after_known (after_known s a) b ≡ after_known s (a ++ b)
after_joins None a b = refl
after_joins (Some told) a b = ap Some (append_assoc told a b)

-- nothing was sent
pub leaves_all : (s new : Option (List ℕ)) (due left : List ℕ) → new ≡ s → left ≡ due → Leaves s due new left
leaves_all s new due left same all = record { gone = []; sent = same ∙ sym (after_none s); split = all }

-- of what was left a front was sent too
pub leaves_on : (s s1 s2 : Option (List ℕ)) (all due left : List ℕ) → Leaves s all s1 due → Leaves s1 due s2 left → Leaves s all s2 left
leaves_on s s1 s2 all due left a b = record {
  gone = a.gone ++ b.gone;
  sent = b.sent ∙ ap (λ (o : Option (List ℕ)). after_known o b.gone) a.sent ∙ after_joins s a.gone b.gone;
  split = append_assoc a.gone b.gone left ∙ ap (λ (x : List ℕ). a.gone ++ x) b.split ∙ a.split;
}

-- more is due behind
pub leaves_more : (s s1 : Option (List ℕ)) (due left more : List ℕ) → Leaves s due s1 left → Leaves s (due ++ more) s1 (left ++ more)
leaves_more s s1 due left more a = record { gone = a.gone; sent = a.sent; split = sym (append_assoc a.gone left more) ∙ ap (λ (x : List ℕ). x ++ more) a.split }

front_more : (s s1 : Option (List ℕ)) (due more : List ℕ) → SentFront s due s1 → SentFront s (due ++ more) s1
front_more s s1 due more f = (f.0 ++ more, leaves_more s s1 due f.0 more f.1)

-- all that was left was sent
pub leaves_none : (s new : Option (List ℕ)) (due left : List ℕ) → Leaves s due new left → left ≡ [] → new ≡ after_known s due
leaves_none s new due left l none = l.sent ∙ ap (after_known s) (sym (append-nil l.gone) ∙ ap (λ (x : List ℕ). l.gone ++ x) (sym none) ∙ l.split)

pub sent_leaves : (s new : Option (List ℕ)) (due : List ℕ) → new ≡ after_known s due → Leaves s due new []
sent_leaves s new due is = record { gone = due; sent = is; split = append-nil due }

pub taken_front : (s new : Option (List ℕ)) (k : ℕ) (due : List ℕ) → new ≡ after_known s (take k due) → SentFront s due new
taken_front s new k due is = (drop k due, record { gone = take k due; sent = is; split = take-append-drop k due })

-- ---- one piece

pub joins_it : (s : Option (List ℕ)) (joined bytes new : List ℕ) → new ≡ joined ++ bytes → PutBy s joined bytes went.Sent s new
joins_it s joined bytes new is = leaves_all s s (joined ++ bytes) new refl is

pub joins_none : (s : Option (List ℕ)) (joined bytes new : List ℕ) → PutBy s joined bytes went.Memory s new
joins_none s joined bytes new = (joined ++ bytes, leaves_all s s (joined ++ bytes) (joined ++ bytes) refl refl)

goes_alone_by : (s new : Option (List ℕ)) (bytes : List ℕ) (w : Went) → SentBy s bytes w new → PutBy s [] bytes w new []
goes_alone_by s new bytes went.Sent by = sent_leaves s new bytes by
goes_alone_by s new bytes went.Failed by = by
goes_alone_by s new bytes went.Memory by = by

-- behind nothing it goes alone
pub goes_alone : (s new : Option (List ℕ)) (joined bytes : List ℕ) (w : Went) → joined ≡ [] → SentBy s bytes w new → PutBy s joined bytes w new joined
goes_alone s new joined bytes w none by = subst (λ (j : List ℕ). PutBy s j bytes w new j) (sym none) (goes_alone_by s new bytes w by)

behind_by : (s s1 s2 : Option (List ℕ)) (joined joined1 joined2 bytes : List ℕ) (w : Went) → Leaves s (joined ++ bytes) s1 (joined1 ++ bytes) → PutBy s1 joined1 bytes w s2 joined2 → PutBy s joined bytes w s2 joined2
behind_by s s1 s2 joined joined1 joined2 bytes went.Sent before by = leaves_on s s1 s2 (joined ++ bytes) (joined1 ++ bytes) joined2 before by
behind_by s s1 s2 joined joined1 joined2 bytes went.Failed before by = (by.0, leaves_on s s1 s2 (joined ++ bytes) (joined1 ++ bytes) by.0 before by.1)
behind_by s s1 s2 joined joined1 joined2 bytes went.Memory before by = (by.0, leaves_on s s1 s2 (joined ++ bytes) (joined1 ++ bytes) by.0 before by.1)

-- what was joined was sent first
pub goes_behind : (s s1 s2 : Option (List ℕ)) (joined joined1 joined2 bytes : List ℕ) (w : Went) → s1 ≡ after_known s joined → joined1 ≡ [] → PutBy s1 joined1 bytes w s2 joined2 → PutBy s joined bytes w s2 joined2
goes_behind s s1 s2 joined joined1 joined2 bytes w sent none by =
    behind_by s s1 s2 joined joined1 joined2 bytes w
    (subst (λ (j : List ℕ). Leaves s (joined ++ bytes) s1 (j ++ bytes)) (sym none) (leaves_more s s1 joined [] bytes (sent_leaves s s1 joined sent))) by

-- what was joined was not sent
pub flush_stops : (s s1 : Option (List ℕ)) (joined joined1 bytes : List ℕ) (w : Went) → w ≢ went.Sent → SentBy s joined w s1 → PutBy s joined bytes w s1 joined1
flush_stops s s1 joined joined1 bytes went.Sent not by = absurd (not refl)
flush_stops s s1 joined joined1 bytes went.Failed not by = front_more s s1 joined bytes by
flush_stops s s1 joined joined1 bytes went.Memory not by = front_more s s1 joined bytes by

-- ---- pieces behind each other

two_due : (s s1 : Option (List ℕ)) (joined joined1 a b : List ℕ) → Leaves s (joined ++ a) s1 joined1 → Leaves s (joined ++ (a ++ b)) s1 (joined1 ++ b)
two_due s s1 joined joined1 a b first = subst (λ (d : List ℕ). Leaves s d s1 (joined1 ++ b)) (append_assoc joined a b) (leaves_more s s1 (joined ++ a) joined1 b first)

-- a piece that was put, and then what came of the next
pub put_then : (s s1 s2 : Option (List ℕ)) (joined joined1 joined2 a b : List ℕ) (w : Went) → PutBy s joined a went.Sent s1 joined1 → PutBy s1 joined1 b w s2 joined2 → PutBy s joined (a ++ b) w s2 joined2
put_then s s1 s2 joined joined1 joined2 a b went.Sent first second = leaves_on s s1 s2 (joined ++ (a ++ b)) (joined1 ++ b) joined2 (two_due s s1 joined joined1 a b first) second
put_then s s1 s2 joined joined1 joined2 a b went.Failed first second = (second.0, leaves_on s s1 s2 (joined ++ (a ++ b)) (joined1 ++ b) second.0 (two_due s s1 joined joined1 a b first) second.1)
put_then s s1 s2 joined joined1 joined2 a b went.Memory first second = (second.0, leaves_on s s1 s2 (joined ++ (a ++ b)) (joined1 ++ b) second.0 (two_due s s1 joined joined1 a b first) second.1)

-- the same of pieces by other names
pub put_two : (s s1 s2 : Option (List ℕ)) (joined joined1 joined2 a a1 b b1 : List ℕ) (w : Went) → a ≡ a1 → b ≡ b1 → PutBy s joined a went.Sent s1 joined1 → PutBy s1 joined1 b w s2 joined2 → PutBy s joined (a1 ++ b1) w s2 joined2
put_two s s1 s2 joined joined1 joined2 a a1 b b1 w same_a same_b first second =
    put_then s s1 s2 joined joined1 joined2 a1 b1 w
    (subst (λ (x : List ℕ). PutBy s joined x went.Sent s1 joined1) same_a first) (subst (λ (x : List ℕ). PutBy s1 joined1 x w s2 joined2) same_b second)

front_of_two : (s s1 : Option (List ℕ)) (joined a b : List ℕ) → SentFront s (joined ++ a) s1 → SentFront s (joined ++ (a ++ b)) s1
front_of_two s s1 joined a b f = subst (λ (d : List ℕ). SentFront s d s1) (append_assoc joined a b) (front_more s s1 (joined ++ a) b f)

-- a piece that was not put
pub put_stops : (s s1 : Option (List ℕ)) (joined joined1 joined2 a a1 b : List ℕ) (w : Went) → w ≢ went.Sent → a ≡ a1 → PutBy s joined a w s1 joined1 → PutBy s joined (a1 ++ b) w s1 joined2
put_stops s s1 joined joined1 joined2 a a1 b went.Sent not same by = absurd (not refl)
put_stops s s1 joined joined1 joined2 a a1 b went.Failed not same by = front_of_two s s1 joined a1 b (subst (λ (x : List ℕ). SentFront s (joined ++ x) s1) same by)
put_stops s s1 joined joined1 joined2 a a1 b went.Memory not same by = front_of_two s s1 joined a1 b (subst (λ (x : List ℕ). SentFront s (joined ++ x) s1) same by)

-- all pieces were put, and then what is joined was sent or not
pub then_flushed : (s s1 s2 : Option (List ℕ)) (joined joined1 bytes : List ℕ) (w : Went) → PutBy s joined bytes went.Sent s1 joined1 → SentBy s1 joined1 w s2 → SentBy s (joined ++ bytes) w s2
then_flushed s s1 s2 joined joined1 bytes went.Sent put by = leaves_none s s2 (joined ++ bytes) [] (leaves_on s s1 s2 (joined ++ bytes) joined1 [] put (sent_leaves s1 s2 joined1 by)) refl
then_flushed s s1 s2 joined joined1 bytes went.Failed put by = (by.0, leaves_on s s1 s2 (joined ++ bytes) joined1 by.0 put by.1)
then_flushed s s1 s2 joined joined1 bytes went.Memory put by = (by.0, leaves_on s s1 s2 (joined ++ bytes) joined1 by.0 put by.1)

pub not_flushed : (s s1 : Option (List ℕ)) (joined joined1 bytes : List ℕ) (w : Went) → w ≢ went.Sent → PutBy s joined bytes w s1 joined1 → SentBy s (joined ++ bytes) w s1
not_flushed s s1 joined joined1 bytes went.Sent not by = absurd (not refl)
not_flushed s s1 joined joined1 bytes went.Failed not by = by
not_flushed s s1 joined joined1 bytes went.Memory not by = by

-- one piece was put, and then others and what is joined were sent or not
pub then_sent : (s s1 s2 : Option (List ℕ)) (joined joined1 a b : List ℕ) (w : Went) → PutBy s joined a went.Sent s1 joined1 → SentBy s1 (joined1 ++ b) w s2 → SentBy s ((joined ++ a) ++ b) w s2
then_sent s s1 s2 joined joined1 a b went.Sent put by = leaves_none s s2 ((joined ++ a) ++ b) [] (leaves_on s s1 s2 ((joined ++ a) ++ b) (joined1 ++ b) [] (leaves_more s s1 (joined ++ a) joined1 b put) (sent_leaves s1 s2 (joined1 ++ b) by)) refl
then_sent s s1 s2 joined joined1 a b went.Failed put by = (by.0, leaves_on s s1 s2 ((joined ++ a) ++ b) (joined1 ++ b) by.0 (leaves_more s s1 (joined ++ a) joined1 b put) by.1)
then_sent s s1 s2 joined joined1 a b went.Memory put by = (by.0, leaves_on s s1 s2 ((joined ++ a) ++ b) (joined1 ++ b) by.0 (leaves_more s s1 (joined ++ a) joined1 b put) by.1)

pub then_sent_as : (s s1 s2 : Option (List ℕ)) (joined joined1 a a1 b : List ℕ) (w : Went) → a ≡ a1 → PutBy s joined a went.Sent s1 joined1 → SentBy s1 (joined1 ++ b) w s2 → SentBy s ((joined ++ a1) ++ b) w s2
then_sent_as s s1 s2 joined joined1 a a1 b w same put by = then_sent s s1 s2 joined joined1 a1 b w (subst (λ (x : List ℕ). PutBy s joined x went.Sent s1 joined1) same put) by

pub none_sent : (s s1 : Option (List ℕ)) (joined joined1 a a1 b : List ℕ) (w : Went) → w ≢ went.Sent → a ≡ a1 → PutBy s joined a w s1 joined1 → SentBy s ((joined ++ a1) ++ b) w s1
none_sent s s1 joined joined1 a a1 b went.Sent not same by = absurd (not refl)
none_sent s s1 joined joined1 a a1 b went.Failed not same by = front_more s s1 (joined ++ a1) b (subst (λ (x : List ℕ). SentFront s (joined ++ x) s1) same by)
none_sent s s1 joined joined1 a a1 b went.Memory not same by = front_more s s1 (joined ++ a1) b (subst (λ (x : List ℕ). SentFront s (joined ++ x) s1) same by)

-- ---- all that is said

-- of what is said these are left, and all of them can be spelled
pub record Putting (s0 : Option (List ℕ)) (joined0 : List ℕ) (all : List Unasked) (s : Option (List ℕ)) (joined : List ℕ) (left : List Unasked) : Type 0 where
  pub so : Leaves s0 (joined0 ++ frames_said all) s (joined ++ frames_said left)
  pub sayable : AllByRecursion IsSayableUnasked left

pub putting_all : (s : Option (List ℕ)) (joined : List ℕ) (all left : List Unasked) → left ≡ all → AllByRecursion IsSayableUnasked all → Putting s joined all s joined left
putting_all s joined all left same sayable = record {
  so = leaves_all s s (joined ++ frames_said all) (joined ++ frames_said left) refl (ap (λ (x : List Unasked). joined ++ frames_said x) same);
  sayable = subst (AllByRecursion IsSayableUnasked) (sym same) sayable;
}

pub first_sayable : (s0 : Option (List ℕ)) (joined0 : List ℕ) (all : List Unasked) (s : Option (List ℕ)) (joined : List ℕ) (left rest : List Unasked) (u : Unasked) → Putting s0 joined0 all s joined left → left ≡ u ∷ rest → IsSayableUnasked u × AllByRecursion IsSayableUnasked rest
first_sayable s0 joined0 all s joined left rest u p is = subst (AllByRecursion IsSayableUnasked) is p.sayable

first_left : (s0 : Option (List ℕ)) (joined0 : List ℕ) (all : List Unasked) (s : Option (List ℕ)) (joined : List ℕ) (left rest : List Unasked) (u : Unasked) → Putting s0 joined0 all s joined left → left ≡ u ∷ rest
    → Leaves s0 (joined0 ++ frames_said all) s ((joined ++ frame_of (command_of u)) ++ frames_said rest)
first_left s0 joined0 all s joined left rest u p is =
    subst (λ (x : List ℕ). Leaves s0 (joined0 ++ frames_said all) s x) (ap (λ (x : List Unasked). joined ++ frames_said x) is ∙ sym (append_assoc joined (frame_of (command_of u)) (frames_said rest))) p.so

goes_first : (s0 s s1 : Option (List ℕ)) (all due more left : List ℕ) → Leaves s0 all s (due ++ more) → Leaves s due s1 left → Leaves s0 all s1 (left ++ more)
goes_first s0 s s1 all due more left before one = leaves_on s0 s s1 all (due ++ more) (left ++ more) before (leaves_more s s1 due left more one)

pub putting_next : (s0 : Option (List ℕ)) (joined0 : List ℕ) (all : List Unasked) (s s1 : Option (List ℕ)) (joined joined1 : List ℕ) (left rest : List Unasked) (u : Unasked)
    → Putting s0 joined0 all s joined left → left ≡ u ∷ rest → PutBy s joined (frame_of (command_of u)) went.Sent s1 joined1 → Putting s0 joined0 all s1 joined1 rest
putting_next s0 joined0 all s s1 joined joined1 left rest u p is by = record {
  so = goes_first s0 s s1 (joined0 ++ frames_said all) (joined ++ frame_of (command_of u)) (frames_said rest) joined1 (first_left s0 joined0 all s joined left rest u p is) by;
  sayable = (first_sayable s0 joined0 all s joined left rest u p is).1;
}

pub putting_stops : (s0 : Option (List ℕ)) (joined0 : List ℕ) (all : List Unasked) (s s1 : Option (List ℕ)) (joined joined1 joined2 : List ℕ) (left rest : List Unasked) (u : Unasked) (w : Went)
    → Putting s0 joined0 all s joined left → left ≡ u ∷ rest → w ≢ went.Sent → PutBy s joined (frame_of (command_of u)) w s1 joined1 → PutBy s0 joined0 (frames_said all) w s1 joined2
putting_stops s0 joined0 all s s1 joined joined1 joined2 left rest u went.Sent p is not by = absurd (not refl)
putting_stops s0 joined0 all s s1 joined joined1 joined2 left rest u went.Failed p is not by =
    (by.0 ++ frames_said rest, goes_first s0 s s1 (joined0 ++ frames_said all) (joined ++ frame_of (command_of u)) (frames_said rest) by.0 (first_left s0 joined0 all s joined left rest u p is) by.1)
putting_stops s0 joined0 all s s1 joined joined1 joined2 left rest u went.Memory p is not by =
    (by.0 ++ frames_said rest, goes_first s0 s s1 (joined0 ++ frames_said all) (joined ++ frame_of (command_of u)) (frames_said rest) by.0 (first_left s0 joined0 all s joined left rest u p is) by.1)

pub putting_done : (s0 : Option (List ℕ)) (joined0 : List ℕ) (all : List Unasked) (s : Option (List ℕ)) (joined : List ℕ) (left : List Unasked) → Putting s0 joined0 all s joined left → left ≡ [] → PutBy s0 joined0 (frames_said all) went.Sent s joined
putting_done s0 joined0 all s joined left p none =
    subst (λ (x : List ℕ). Leaves s0 (joined0 ++ frames_said all) s x) (ap (λ (x : List Unasked). joined ++ frames_said x) none ∙ append-nil joined) p.so

-- ---- counts of failures

rose_more : (a b c : ℕ) → a ≤ b → Rose b c → Rose a c
rose_more a b c more rose = omega (arith, more, rose)

-- a call after others, in which no count fell
pub cause_more : (a b c : ℕ) (Failed : Type 0) → a ≤ b → HasCause b c Failed → HasCause a c Failed
cause_more a b c Failed more cause = record { later = let l = cause.later in omega (arith, more, l); failed = λ f. rose_more a b c more (cause.failed f) }
