-- What a member does with a message leaves a sound state sound.
use Rattle.std.proofs.Common.{◌≡◌, ℕ, ◌<◌, ◌≤◌, ◌⊎◌, ◌≢◌, List, [], ◌∷◌, ◌++◌, length, refl, sym, ap, ◌∙◌, subst, inl, inr, arith, Option, Some, None, Bool, true, false, cond, not, zero, suc}
use Rattle.std.specs.Prelude.{◌&&◌, ◌||◌, ◌==◌, nat_lt, nat_le, if◌then◌else◌, slice_index}
use Rattle.std.specs.Int.{w64}
use Rattle.std.specs.Int.RustNames.{FitsSigned}
use Rattle.std.proofs.lemmas.Int.{fits_signed_from_abs}
use Rattle.std.proofs.lemmas.Bool.{cases_eq}
use Rattle.std.proofs.lemmas.List.{append-nil}
use Rattle.chunk_format.specs.declared.chunk.Chunk.{Chunk}
use Rattle.chunk_format.specs.Logs.{GoesOn, end_of, epoch_from, last_epoch, IsLog, HasRun, snapshot_body, opening_chunk}
use Rattle.chunk_format.proofs.LinkLaws.{linked_each}
use Rattle.chunk_format.proofs.SnapshotLaws.{opening_right}
use Rattle.epoch_coordinator.specs.declared.tail.Tail.{Tail}
use Rattle.epoch_coordinator.specs.declared.tail.Run.{Run}
use Rattle.epoch_coordinator.specs.declared.message.Job.{Job}
use Rattle.epoch_coordinator.specs.declared.message.Job.TheVariants.{Write, Cut, Promise, Epoch}
use Rattle.epoch_coordinator.specs.declared.message.Message.{Message}
use Rattle.epoch_coordinator.specs.declared.message.Message.TheVariants as messages
use Rattle.epoch_coordinator.specs.Tails.{tail_of, same_tail, runs_of, contains}
use Rattle.epoch_coordinator.specs.Members.{Leading, MemberRole, MemberState, Stopped, Follower, Leader, is_stopped, job_chunks, role_chunks, sequence_of}
use Rattle.epoch_coordinator.specs.MemberSteps.{Took, silent, mail, says, says_stopped, asks, epoch_of, is_another, names_another, after_stop, has_epoch, can_open, new_leading, stamp_at, after_open, after_follow, chunk_from, raise, acknowledge, send_next, ask_of_leader, after_ask, ends_in, kept_end, after_shape, is_true_after, goes_on, after_append, heard, is_later_stop, taken}
use Rattle.replication_laws.specs.Cluster.{ClusterState, seat, member, IsMember, put, send, last_number, HoldsBy, Holds, is_opened}
use Rattle.replication_laws.specs.Soundness.{Tree, Follows, LeadsEpoch, HasReign, AskHolds, AskElects, AppendHolds, IsQuiet, MessageHolds, acked, LeaderHolds, RoleHolds, LeaderLine, LineHolds, JobHolds, Sound, TailMark}
use Rattle.replication_laws.proofs.Logs.{same_begins, run_front, same_tail_is}
use Rattle.replication_laws.proofs.Frame.{append_on, message_on, elects_on}
use Rattle.replication_laws.proofs.Carry.{self_mark}
use Rattle.replication_laws.proofs.Sounds.{After}
use Rattle.replication_laws.proofs.Followers.{is_up, mark_reached, reign_run, tail_mark, asked_as, stopped_as, take_stop, take_follow, append_same, take_append, take_shape}
use Rattle.replication_laws.proofs.Walks.{or_cases, contained, runs_to, found_at, kept_at}
use Rattle.replication_laws.proofs.Leaders.{take_open, ask_sends, max_either, raised_here, raised_else, raised_count, take_ask}
use Rattle.replication_laws.proofs.Moves.{Stays, Opens, Did, put_next, sequence_as, log_begins, falls, adopts, still_sound, silent_sound}

-- ---- tests

pub choose : (g : Tree) (w : ClusterState) (o k : ℕ) (b : Bool) (x y : Took) → (b ≡ true → Did g w o k x) → (b ≡ false → Did g w o k y) → Did g w o k (if b then x else y)
choose g w o k true x y p q = p refl
choose g w o k false x y p q = q refl

pub both_are : (a b : Bool) → (a && b) ≡ true → (a ≡ true) × (b ≡ true)
both_are true b h = (refl, h)
both_are false b h = absurd cc

pub stopped_role : (r : MemberRole) → is_stopped r ≡ true → r ≡ Stopped
stopped_role Stopped h = refl
stopped_role (Follower l) h = absurd cc
stopped_role (Leader l) h = absurd cc

pub eq_is : (a b : ℕ) → (a == b) ≡ true → a ≡ b
eq_is a b h = grind arith

pub eq_made : (a b : ℕ) → a ≡ b → (a == b) ≡ true
eq_made a b h = grind arith

lt_is : (a b : ℕ) → nat_lt a b ≡ true → a < b
lt_is a b h = grind arith

-- the message is of the epoch that was promised
own_epoch : (e p : ℕ) → ((e == p) || false) ≡ true → e ≡ p
own_epoch e p h = elim (or_cases (e == p) false h) [ inl x ↦ eq_is e p x | inr x ↦ absurd cc ]

-- ---- what a member tells, at any moment

-- a leader's or a follower's log begins each log that its disk may have, where it ends in the promise's epoch
pub long_held : (g : Tree) (w : ClusterState) (o k : ℕ) → Sound g o w → last_epoch (member w k).log ≡ (member w k).promise → (x : List Chunk) → Holds (member w k) x → GoesOn (member w k).log x
long_held g w o k s te x y = go m.job (s.each_member k).job y
  where
    m : MemberState
    m = member w k

    go : (j : Option Job) → JobHolds g w k m.promise m.log j → HoldsBy j m.log x → GoesOn m.log x
    go None jh y = same_begins m.log x (sym y)
    go (Some (Promise e)) jh y = same_begins m.log x (sym y)
    go (Some (Epoch e)) jh y = absurd jh
    go (Some (Write c)) jh (inl y) = same_begins m.log x (sym y)
    go (Some (Write c)) jh (inr y) = (c ∷ [], y)
    go (Some (Cut to)) jh y = absurd (jh.3 te)

pub ask_again : (g : Tree) (w : ClusterState) (o k l : ℕ) → Sound g o w → IsMember w k → (member w k).role ≡ Follower l → MessageHolds g w l (messages.Ask (member w k).promise (member w k).number (tail_of (member w k).log))
ask_again g w o k l s lt role =
    let m = member w k in
    let h = s.each_member k in
    let rh : LeadsEpoch w m.promise l × (k ≢ l) = rw role at h.role in
    let has : HasReign w m.promise = (rh.0.0, rh.0.1) in
    asked_as g w l m.promise k m.number (tail_of m.log) (s.named k lt).0 (
      λ te. (
        record {
          has_reign = has;
          promised = omega arith;
          mark = rw te at (self_mark g m.log h.rooted (reign_run g w o m.promise m.log s.tree has te));
          stands = λ at mark le. inl (λ x y. run_front m.log x m.promise at (long_held g w o k s te x y) (mark_reached g w o m.promise at m.log s.tree h.rooted te le mark));
        },
        λ at q r mark le is later elector. let x = (s.each_reign q r is).promised k elector in absurd (omega arith),
      ),
      has,
      tail_mark g m.log h.rooted,
    )

pub stopped_again : (g : Tree) (w : ClusterState) (o k : ℕ) → Sound g o w → IsMember w k → (seat w k).up ≡ true → (member w k).role ≡ Stopped → MessageHolds g w 0 (messages.Stopped (member w k).promise (member w k).number (tail_of (member w k).log))
stopped_again g w o k s lt up role =
    let m = member w k in
    let lh : IsQuiet m.job = rw role at ((s.each_member k).line up) in
    stopped_as g w 0 m.promise k m.number (tail_of m.log) (s.named k lt).0 (omega arith, inr (inr (refl, (lh, rw role tt), refl)))

-- one message that holds is sent, and the member stays
pub says_sound : (g : Tree) (w : ClusterState) (o k to : ℕ) (m : Message) → Sound g o w → IsMember w k → (seat w k).up ≡ true → MessageHolds g w to m
    → Did g w o k (record { state = member w k; sent = mail to m ∷ [] })
says_sound g w o k to m s lt up h =
    still_sound g w o k (mail to m ∷ []) s lt up (λ w' same a. (message_on g g w w' s.tree.logs a (λ e j n. elects_on g g w w' e j n s.tree.logs a same) to m h, tt))

-- ---- Stop

taken_stop : (g : Tree) (w : ClusterState) (o k to e : ℕ) → Sound g o w → IsMember w k → (seat w k).up ≡ true → (member w k).job ≡ None → MessageHolds g w to (messages.Stop e) → Did g w o k (after_stop e (member w k))
taken_stop g w o k to e s lt up job h =
    let m = member w k in
    let n : MemberState = record m { role = Stopped; job = Some (Promise e) } in
    choose g w o k (nat_lt m.promise e) (silent n) (if (e == m.promise) && is_stopped m.role then says_stopped m else silent m)
    (λ t. put_next o w g g k (is_up n) [] lt (take_stop g w o k e s lt job (lt_is m.promise e t) h)
    (falls g.canon m n m.log refl (append-nil m.log) (log_begins m)))
    (λ f. choose g w o k ((e == m.promise) && is_stopped m.role) (says_stopped m) (silent m)
    (λ t. says_sound g w o k 0 (messages.Stopped m.promise m.number (tail_of m.log)) s lt up (stopped_again g w o k s lt up (stopped_role m.role (both_are (e == m.promise) (is_stopped m.role) t).1)))
    (λ f. silent_sound g w o k s lt up))

-- ---- Open

or_none : (a b : Bool) → (a || b) ≡ false → (a ≡ false) × (b ≡ false)
or_none true b h = absurd cc
or_none false b h = (refl, h)

-- a log without a chunk of an epoch doesn't end in it
without_last : (e d : ℕ) (log : List Chunk) → (d ≡ e → ⊥) → has_epoch e log ≡ false → epoch_from d log ≡ e → ⊥
without_last e d [] ne h same = ne same
without_last e d (c ∷ log) ne h same =
    let parts = or_none (c.epoch == e) (has_epoch e log) h in
    without_last e c.epoch log (λ x. let both : true ≡ false = sym (eq_made c.epoch e x) ∙ parts.0 in absurd cc) parts.1 same

-- what `can_open` looks at
record CanOpen (e : ℕ) (log : List Chunk) : Type 0 where
  pub new : has_epoch e log ≡ false
  pub room : end_of log < 18446744073709551615
  pub fits : length (snapshot_body log) ≤ 2147483647

opens_by : (a : Bool) (n m : ℕ) → (not a && nat_lt n 18446744073709551615 && nat_le m 2147483647) ≡ true → (a ≡ false) × ((n < 18446744073709551615) × (m ≤ 2147483647))
opens_by true n m h = absurd cc
opens_by false n m h = (refl, (room n m h, fits n m h))
  where
    room : (n m : ℕ) → (nat_lt n 18446744073709551615 && nat_le m 2147483647) ≡ true → n < 18446744073709551615
    room n m h = grind arith

    fits : (n m : ℕ) → (nat_lt n 18446744073709551615 && nat_le m 2147483647) ≡ true → m ≤ 2147483647
    fits n m h = grind arith

can_open_is : (e : ℕ) (log : List Chunk) → can_open e log ≡ true → CanOpen e log
can_open_is e log h =
    let x = opens_by (has_epoch e log) (end_of log) (length (snapshot_body log)) h in
    record { new = x.0; room = x.1.0; fits = x.1.1 }

abbrev stamp_number : ℕ → ℕ
stamp_number now = if nat_lt 9223372036854775807 now then 9223372036854775807 else now

stamp_small : (now : ℕ) → stamp_number now ≤ 9223372036854775807
stamp_small now = go (nat_lt 9223372036854775807 now) refl
  where
    less : (a b : ℕ) → nat_lt a b ≡ false → b ≤ a
    less a b h = grind arith

    go : (b : Bool) → nat_lt 9223372036854775807 now ≡ b → cond b 9223372036854775807 now ≤ 9223372036854775807
    go true e = omega arith
    go false e = less 9223372036854775807 now e

pub stamp_fits : (now : ℕ) → FitsSigned w64 (stamp_at now)
stamp_fits now = fits_signed_from_abs w64 (stamp_at now) (let small = stamp_small now in omega (arith, small))

-- the chunk that opens an epoch goes on from the log
pub opening_follows : (epoch now : ℕ) (log : List Chunk) → IsLog log → last_epoch log ≤ epoch → epoch ≤ last_number → can_open epoch log ≡ true → Follows log (opening_chunk epoch (stamp_at now) log)
opening_follows epoch now log is le fits h =
    let x = can_open_is epoch log h in
    record {
      begins = refl;
      not_before = le;
      is = opening_right epoch (stamp_at now) log (linked_each 0 0 log is) (stamp_fits now) (omega (arith, fits)) (omega (arith, x.room)) (omega (arith, x.fits));
      behind = tt;
    }

taken_open : (g : Tree) (w : ClusterState) (o k now : ℕ) → Sound g o w → IsMember w k → (seat w k).up ≡ true → (member w k).job ≡ None → LeadsEpoch w (member w k).promise k → Did g w o k (after_open now (member w k))
taken_open g w o k now s lt up job leads =
    let m = member w k in
    let h = s.each_member k in
    let c = opening_chunk m.promise (stamp_at now) m.log in
    let n : MemberState = record m { role = Leader (new_leading m.members); job = Some (Write c) } in
    choose g w o k (is_stopped m.role && can_open m.promise m.log) (silent n) (silent m)
    (λ t.
    let tests = both_are (is_stopped m.role) (can_open m.promise m.log) t in
    let role = stopped_role m.role tests.0 in
    let late = s.tree.reigns_later m.promise (leads.0, leads.1) in
    let new : last_epoch m.log ≢ m.promise = without_last m.promise 0 m.log (λ e. absurd (omega (arith, late, e))) (can_open_is m.promise m.log tests.1).new in
    let ahead = h.not_ahead in
    let fits = s.coordinator.fits in
    let follows = opening_follows m.promise now m.log h.is_log h.below (omega (arith, ahead, fits)) tests.1 in
    let same : sequence_of m ≡ m.log = sequence_as m None Stopped job role ∙ append-nil m.log in
    put_next o w g g k (is_up n) [] lt (take_open g w o k c s lt job role follows refl new leads)
    (Opens m.promise (stamp_at now) refl (subst IsLog (sym same) h.is_log) (ap (λ (l : List Chunk). l ++ opening_chunk m.promise (stamp_at now) l ∷ []) (sym same))))
    (λ f. silent_sound g w o k s lt up)

-- ---- Follow

taken_follow : (g : Tree) (w : ClusterState) (o k l : ℕ) → Sound g o w → IsMember w k → (seat w k).up ≡ true → (member w k).job ≡ None → LeadsEpoch w (member w k).promise l → (k ≢ l) → Did g w o k (after_follow l (member w k))
taken_follow g w o k l s lt up job leads ne =
    let m = member w k in
    let n : MemberState = record m { role = Follower l } in
    choose g w o k (is_stopped m.role) (asks l n) (silent m)
    (λ t. put_next o w g g k (is_up n) (mail l (messages.Ask m.promise m.number (tail_of m.log)) ∷ []) lt (take_follow g w o k m.promise l s lt job (stopped_role m.role t) refl leads ne)
    (falls g.canon m n m.log refl (sequence_as n None (Follower l) job refl ∙ append-nil m.log) (log_begins m)))
    (λ f. silent_sound g w o k s lt up)

-- ---- Shape

-- a log whose last chunk isn't of an epoch doesn't end in it
not_ends : (e : ℕ) (log : List Chunk) → 0 < e → ends_in e log ≡ false → last_epoch log ≡ e → ⊥
not_ends e [] late h same = absurd (omega (arith, late, same))
not_ends e (c ∷ []) late h same = let both : true ≡ false = sym (eq_made c.epoch e same) ∙ h in absurd cc
not_ends e (c ∷ d ∷ log) late h same = not_ends e (d ∷ log) late h same

taken_shape : (g : Tree) (w : ClusterState) (o k to : ℕ) (runs : List Run) → Sound g o w → IsMember w k → (seat w k).up ≡ true → (member w k).job ≡ None → MessageHolds g w to (messages.Shape (member w k).promise runs)
    → (r : MemberRole) → (member w k).role ≡ r → Did g w o k (after_shape r runs (member w k))
taken_shape g w o k to runs s lt up job h Stopped role = silent_sound g w o k s lt up
taken_shape g w o k to runs s lt up job h (Leader l) role = silent_sound g w o k s lt up
taken_shape g w o k to runs s lt up job h (Follower l) role =
    let m = member w k in
    let mh = s.each_member k in
    let late = s.tree.reigns_later m.promise h.0 in
    let at = kept_at runs m.log mh.is_log in
    let n : MemberState = record m { job = Some (Cut (kept_end runs m.log)) } in
    choose g w o k (ends_in m.promise m.log) (silent m) (if nat_lt (kept_end runs m.log) (end_of m.log) then silent n else asks l m)
    (λ t. silent_sound g w o k s lt up)
    (λ f. choose g w o k (nat_lt (kept_end runs m.log) (end_of m.log)) (silent n) (asks l m)
    (λ t. put_next o w g g k (is_up n) [] lt
    (subst (λ (x : ℕ). After g o w g (send (put w k (is_up (record m { job = Some (Cut x) }))) [])) at.end_is
    (take_shape g w o k m.promise l h.0.0 runs at.front s lt job role refl (λ e. not_ends m.promise m.log (omega (arith, late)) f e) h.0.1 h.1 at.begins at.longest))
    (falls g.canon m n m.log (ap is_opened role) (sequence_as n (Some (Cut (kept_end runs m.log))) (Follower l) refl role ∙ append-nil m.log) (log_begins m)))
    (λ f. says_sound g w o k l (messages.Ask m.promise m.number (tail_of m.log)) s lt up (ask_again g w o k l s lt role)))

-- ---- Append

same_epoch : (a b : Tail) → same_tail a b ≡ true → a.epoch ≡ b.epoch
same_epoch a b h = grind arith

same_at : (a b : Tail) → same_tail a b ≡ true → a.end ≡ b.end
same_at a b h = grind arith

first_test : (a b c d e : Bool) → (a && b && c && d && e) ≡ true → a ≡ true
first_test true b c d e h = refl
first_test false b c d e h = absurd cc

taken_append : (g : Tree) (w : ClusterState) (o k to : ℕ) (previous : Tail) (c : Chunk) → Sound g o w → IsMember w k → (seat w k).up ≡ true → (member w k).job ≡ None → MessageHolds g w to (messages.Append (member w k).promise previous c)
    → (r : MemberRole) → (member w k).role ≡ r → Did g w o k (after_append r previous c (member w k))
taken_append g w o k to previous c s lt up job h Stopped role = silent_sound g w o k s lt up
taken_append g w o k to previous c s lt up job h (Leader l) role = silent_sound g w o k s lt up
taken_append g w o k to previous c s lt up job h (Follower l) role =
    let m = member w k in
    let n : MemberState = record m { job = Some (Write c) } in
    choose g w o k (goes_on m.promise previous c m.log) (silent n) (silent m)
    (λ t.
    let tails = first_test (same_tail previous (tail_of m.log)) (c.first == previous.end) (nat_le previous.epoch c.epoch) (nat_le c.epoch m.promise) (is_true_after m.log c.kind c) t in
    let same : previous ≡ tail_of m.log = same_tail_is previous (tail_of m.log) (same_epoch previous (tail_of m.log) tails) (same_at previous (tail_of m.log) tails) in
    let app : AppendHolds g w m.promise (tail_of m.log) c = subst (λ (x : Tail). AppendHolds g w m.promise x c) same h in
    let from : m.log ++ c ∷ [] ≡ app.before ++ c ∷ [] = ap (λ (l : List Chunk). l ++ c ∷ []) (sym (append_same g w o k m.promise c s app)) in
    put_next o w g g k (is_up n) [] lt (take_append g w o k m.promise l c s lt job role refl app)
    (adopts g.canon m n (m.log ++ c ∷ []) c.epoch (ap is_opened role) (sequence_as n (Some (Write c)) (Follower l) refl role)
    (subst (λ (x : List Chunk). GoesOn x (g.canon c.epoch)) (sym from) app.begins)))
    (λ f. silent_sound g w o k s lt up)

-- ---- Ask

-- the leader counts, or not, and sends what comes next
counts_and_sends : (g : Tree) (w : ClusterState) (o k from : ℕ) (tail : Tail) (l : Leading) (acks : List ℕ) → Sound g o w → IsMember w k → (seat w k).up ≡ true → (member w k).role ≡ Leader l → l.opened ≡ true
    → length acks ≡ length l.acknowledged → acked acks k ≡ acked l.acknowledged k
    → ((j : ℕ) → 0 < acked acks j → (acked acks j ≡ acked l.acknowledged j) ⊎ (AskHolds g w (member w k).promise j (acked acks j) × AskElects g w (member w k).promise j (acked acks j)))
    → (tail ≡ tail_of []) ⊎ HasRun (member w k).log tail.epoch tail.end → TailMark g tail
    → Did g w o k (send_next (chunk_from tail.end (member w k).log) from tail (record (member w k) { role = Leader (record l { acknowledged = acks }) }))
counts_and_sends g w o k from tail l acks s lt up role opened count own counted has mark = go (chunk_from tail.end m.log) refl
  where
    m : MemberState
    m = member w k

    n : MemberState
    n = record m { role = Leader (record l { acknowledged = acks }) }

    same : sequence_of n ≡ sequence_of m
    same = sym (ap (λ (r : MemberRole). m.log ++ (job_chunks m.job ++ role_chunks r)) role)

    rh : LeaderHolds g w k m.promise l
    rh = subst (RoleHolds g w k m.promise) role (s.each_member k).role

    lh : LeaderLine m.promise m.log m.job l
    lh = subst (LineHolds m.promise m.log m.job) role ((s.each_member k).line up)

    sends : (c : Chunk) → chunk_from tail.end m.log ≡ Some c → AppendHolds g w m.promise tail c
    sends c e = let x = found_at tail.end m.log c e in ask_sends g w o k from tail s rh.leads (lh.is_open opened) has mark x.front x.rest c x.parts x.first

    go : (x : Option Chunk) → chunk_from tail.end m.log ≡ x → Did g w o k (send_next x from tail n)
    go None e = put_next o w g g k (is_up n) [] lt (take_ask g w o k l acks [] s lt up role count own counted (λ w' sr a. tt)) (Stays same)
    go (Some c) e =
        put_next o w g g k (is_up n) (mail from (messages.Append m.promise tail c) ∷ []) lt
        (take_ask g w o k l acks (mail from (messages.Append m.promise tail c) ∷ []) s lt up role count own counted (λ w' sr a. (append_on g g w w' m.promise tail c a (sends c e), tt))) (Stays same)

another : (members me number : ℕ) → is_another members me number ≡ true → (0 < number) × (number ≤ members) × (number ≢ me)
another members me number h = (above members me number h, low members me number h, ne members me number h)
  where
    above : (members me number : ℕ) → is_another members me number ≡ true → 0 < number
    above members me number h = grind arith

    low : (members me number : ℕ) → is_another members me number ≡ true → number ≤ members
    low members me number h = grind arith

    ne : (members me number : ℕ) → is_another members me number ≡ true → number ≡ me → ⊥
    ne members me number h e = grind arith

taken_ask : (g : Tree) (w : ClusterState) (o k to from : ℕ) (tail : Tail) → Sound g o w → IsMember w k → (seat w k).up ≡ true → is_another (member w k).members (member w k).number from ≡ true
    → MessageHolds g w to (messages.Ask (member w k).promise from tail)
    → (r : MemberRole) → (member w k).role ≡ r → Did g w o k (after_ask r from tail (member w k))
taken_ask g w o k to from tail s lt up names h Stopped role = silent_sound g w o k s lt up
taken_ask g w o k to from tail s lt up names h (Follower l) role = silent_sound g w o k s lt up
taken_ask g w o k to zero tail s lt up names h (Leader l) role = absurd (omega (arith, (another (member w k).members (member w k).number 0 names).0))
taken_ask g w o k to (suc i) tail s lt up names h (Leader l) role =
    choose g w o k l.opened (ask_of_leader l from tail m) (silent m)
    (λ opened. choose g w o k (contains (runs_of m.log) tail) (send_next (chunk_from tail.end m.log) from tail (record m { role = Leader (acknowledge m.promise from tail l) })) (says from (messages.Shape m.promise l.kept) m)
    (λ t. count opened (reached t) (tail.epoch == m.promise) refl)
    (λ f. says_sound g w o k from (messages.Shape m.promise l.kept) s lt up ((rh.leads.0, rh.leads.1), rh.kept opened)))
    (λ f. silent_sound g w o k s lt up)
  where
    from : ℕ
    from = suc i

    m : MemberState
    m = member w k

    rh : LeaderHolds g w k m.promise l
    rh = subst (RoleHolds g w k m.promise) role (s.each_member k).role

    other : from ≢ k
    other = λ e. (another m.members m.number from names).2 (e ∙ sym (s.named k lt).0)

    place : i < length l.acknowledged
    place = let low = (another m.members m.number from names).1 in omega (arith, low, (s.named k lt).1, rh.places)

    reached : contains (runs_of m.log) tail ≡ true → (tail ≡ tail_of []) ⊎ HasRun m.log tail.epoch tail.end
    reached t = elim (contained (runs_of m.log) tail t) [
      | inl e ↦ inl (same_tail_is tail (tail_of []) e.0 e.1)
      | inr x ↦ inr (runs_to tail 0 0 m.log (s.each_member k).is_log x)
    ]

    acks : List ℕ
    acks = raise from tail.end l.acknowledged

    counted : tail.epoch ≡ m.promise → (j : ℕ) → 0 < acked acks j → (acked acks j ≡ acked l.acknowledged j) ⊎ (AskHolds g w m.promise j (acked acks j) × AskElects g w m.promise j (acked acks j))
    counted e j some = elim (cases_eq j from) [
      | inr ne ↦ inl (raised_else l.acknowledged i tail.end j ne)
      | inl eq ↦ subst (λ (x : ℕ). (acked acks x ≡ acked l.acknowledged x) ⊎ (AskHolds g w m.promise x (acked acks x) × AskElects g w m.promise x (acked acks x))) (sym eq)
          (elim (max_either tail.end (slice_index l.acknowledged i)) [
            | inl top ↦ inr (subst (λ (n : ℕ). AskHolds g w m.promise from n × AskElects g w m.promise from n) (sym (raised_here l.acknowledged i tail.end place ∙ top)) (h.0 e))
            | inr old ↦ inl (raised_here l.acknowledged i tail.end place ∙ old)
          ])
    ]

    count : l.opened ≡ true → (tail ≡ tail_of []) ⊎ HasRun m.log tail.epoch tail.end → (b : Bool) → (tail.epoch == m.promise) ≡ b
        → Did g w o k (send_next (chunk_from tail.end m.log) from tail (record m { role = Leader (cond b (record l { acknowledged = acks }) l) }))
    count opened has true e =
        counts_and_sends g w o k from tail l acks s lt up role opened (raised_count from tail.end l.acknowledged) (raised_else l.acknowledged i tail.end k (λ x. other (sym x))) (counted (eq_is tail.epoch m.promise e)) has h.2
    count opened has false e =
        counts_and_sends g w o k from tail l l.acknowledged s lt up role opened refl refl (λ j some. inl refl) has h.2

-- ---- any message

heard_sound : (g : Tree) (w : ClusterState) (o k now : ℕ) (message : Message) → Sound g o w → IsMember w k → (seat w k).up ≡ true → (member w k).job ≡ None → MessageHolds g w k message
    → names_another (member w k).members (member w k).number message ≡ true → ((epoch_of message == (member w k).promise) || is_later_stop (member w k).promise message) ≡ true
    → Did g w o k (heard now message (member w k))
heard_sound g w o k now (messages.Stop e) s lt up job h names own = taken_stop g w o k k e s lt up job h
heard_sound g w o k now (messages.Stopped e from t) s lt up job h names own = silent_sound g w o k s lt up
heard_sound g w o k now (messages.Open e) s lt up job h names own =
    let same = own_epoch e (member w k).promise own in
    taken_open g w o k now s lt up job (subst (λ (x : ℕ). LeadsEpoch w x k) same h)
heard_sound g w o k now (messages.Follow e l) s lt up job h names own =
    let same = own_epoch e (member w k).promise own in
    taken_follow g w o k l s lt up job (subst (λ (x : ℕ). LeadsEpoch w x l) same h.0) h.1
heard_sound g w o k now (messages.Shape e runs) s lt up job h names own =
    let same = own_epoch e (member w k).promise own in
    taken_shape g w o k k runs s lt up job (subst (λ (x : ℕ). MessageHolds g w k (messages.Shape x runs)) same h) (member w k).role refl
heard_sound g w o k now (messages.Ask e from t) s lt up job h names own =
    let same = own_epoch e (member w k).promise own in
    taken_ask g w o k k from t s lt up names (subst (λ (x : ℕ). MessageHolds g w k (messages.Ask x from t)) same h) (member w k).role refl
heard_sound g w o k now (messages.Append e t c) s lt up job h names own =
    let same = own_epoch e (member w k).promise own in
    taken_append g w o k k t c s lt up job (subst (λ (x : ℕ). MessageHolds g w k (messages.Append x t c)) same h) (member w k).role refl

pub taken_sound : (g : Tree) (w : ClusterState) (o k now : ℕ) (message : Message) → Sound g o w → IsMember w k → (seat w k).up ≡ true → (member w k).job ≡ None → MessageHolds g w k message
    → Did g w o k (taken now message (member w k))
taken_sound g w o k now message s lt up job h =
    let m = member w k in
    let a = names_another m.members m.number message in
    let b = (epoch_of message == m.promise) || is_later_stop m.promise message in
    choose g w o k (a && b) (heard now message m) (silent m)
    (λ t. let x = both_are a b t in heard_sound g w o k now message s lt up job h x.0 x.1)
    (λ f. silent_sound g w o k s lt up)
