-- What is committed at a member, by the chunks that stand ahead of the committed list.
use Rattle.std.proofs.Common.{◌≡◌, ◌≤◌, ℕ, Bool, true, false, cond, ◌&&◌, ◌||◌, ◌==◌, List, [], ◌∷◌, ◌++◌, length, drop, nat_lt, Option, Some, None, is_some, refl, sym, ap, subst, ◌∙◌, arith}
use Rattle.std.specs.List.{before_first}
use Rattle.std.proofs.lemmas.List.{append-nil}
use Rattle.chunk_format.specs.declared.chunk.Chunk.{Chunk}
use Rattle.chunk_format.specs.Logs.{GoesOn, IsLog, end_of, opening_chunk}
use Rattle.epoch_coordinator.specs.declared.tail.Run.{Run}
use Rattle.epoch_coordinator.specs.declared.tail.Tail.{Tail}
use Rattle.epoch_coordinator.specs.declared.message.Job.{Job}
use Rattle.epoch_coordinator.specs.declared.message.Job.TheVariants.{Write, Cut, Promise, Epoch}
use Rattle.epoch_coordinator.specs.declared.message.Message.{Message}
use Rattle.epoch_coordinator.specs.declared.message.Message.TheVariants as messages
use Rattle.epoch_coordinator.specs.Tails.{runs_of, contains}
use Rattle.epoch_coordinator.specs.Members.{MemberRole, MemberState, Stopped, Follower, Leader, job_chunks, is_stopped}
use Rattle.epoch_coordinator.specs.MemberSteps.{Took, silent, says, says_stopped, asks, names_another, epoch_of, is_later_stop, after_stop, after_open, can_open, new_leading, stamp_at, after_follow, chunk_from, acknowledge, send_next, ask_of_leader, after_ask, ends_in, kept_end, after_shape, goes_on, after_append, heard, taken, cut_at, asks_by, wrote, finished_by, commit_by, commit_end}
use Rattle.replication_laws.specs.Events.{committed_by}
use Rattle.replication_laws.specs.Soundness.{IsOfLeader}
use Rattle.cluster_core.specs.Parts.{ahead_of, ends_behind, extended}
use Rattle.cluster_core.proofs.Lists.{cut_extends}

-- a leader has no other job than a Write
abbrev pub WritesBy : MemberRole → Option Job → Type 0
WritesBy Stopped job = Unit {0}
WritesBy (Follower leader) job = Unit {0}
WritesBy (Leader l) job = IsOfLeader job

either : (b : Bool) (x y : Took) (log : List Chunk) → x.state.log ≡ log → y.state.log ≡ log → (cond {A = Took} b x y).state.log ≡ log
either true x y log h k = h
either false x y log h k = k

next_log : (c : Option Chunk) (from : ℕ) (tail : Tail) (m : MemberState) → (send_next c from tail m).state.log ≡ m.log
next_log None from tail m = refl
next_log (Some c) from tail m = refl

shape_log : (r : MemberRole) (runs : List Run) (m : MemberState) → (after_shape r runs m).state.log ≡ m.log
shape_log Stopped runs m = refl
shape_log (Leader l) runs m = refl
shape_log (Follower leader) runs m =
    let cut = silent (record m { job = Some (Cut (kept_end runs m.log)) }) in
    let shorter = nat_lt (kept_end runs m.log) (end_of m.log) in
    either (ends_in m.promise m.log) (silent m) (cond {A = Took} shorter cut (asks leader m)) m.log refl (either shorter cut (asks leader m) m.log refl refl)

ask_log : (r : MemberRole) (from : ℕ) (tail : Tail) (m : MemberState) → (after_ask r from tail m).state.log ≡ m.log
ask_log Stopped from tail m = refl
ask_log (Follower leader) from tail m = refl
ask_log (Leader l) from tail m =
    let heard_it : MemberState = record m { role = Leader (acknowledge m.promise from tail l) } in
    let next = send_next (chunk_from tail.end m.log) from tail heard_it in
    let shape = says from (messages.Shape m.promise l.kept) m in
    either l.opened (ask_of_leader l from tail m) (silent m) m.log (either (contains (runs_of m.log) tail) next shape m.log (next_log (chunk_from tail.end m.log) from tail heard_it) refl) refl

append_log : (r : MemberRole) (previous : Tail) (c : Chunk) (m : MemberState) → (after_append r previous c m).state.log ≡ m.log
append_log Stopped previous c m = refl
append_log (Leader l) previous c m = refl
append_log (Follower leader) previous c m = either (goes_on m.promise previous c m.log) (silent (record m { job = Some (Write c) })) (silent m) m.log refl refl

stop_log : (epoch : ℕ) (m : MemberState) → (after_stop epoch m).state.log ≡ m.log
stop_log epoch m =
    let again = (epoch == m.promise) && is_stopped m.role in
    let stops = silent (record m { role = Stopped; job = Some (Promise epoch) }) in
    either (nat_lt m.promise epoch) stops (cond {A = Took} again (says_stopped m) (silent m)) m.log refl (either again (says_stopped m) (silent m) m.log refl refl)

open_log : (now : ℕ) (m : MemberState) → (after_open now m).state.log ≡ m.log
open_log now m =
    either (is_stopped m.role && can_open m.promise m.log) (silent (record m { role = Leader (new_leading m.members); job = Some (Write (opening_chunk m.promise (stamp_at now) m.log)) })) (silent m) m.log refl refl

follow_log : (leader : ℕ) (m : MemberState) → (after_follow leader m).state.log ≡ m.log
follow_log leader m = either (is_stopped m.role) (asks leader (record m { role = Follower leader })) (silent m) m.log refl refl

heard_log : (now : ℕ) (message : Message) (m : MemberState) → (heard now message m).state.log ≡ m.log
heard_log now (messages.Stop epoch) m = stop_log epoch m
heard_log now (messages.Stopped epoch from tail) m = refl
heard_log now (messages.Open epoch) m = open_log now m
heard_log now (messages.Follow epoch leader) m = follow_log leader m
heard_log now (messages.Shape epoch runs) m = shape_log m.role runs m
heard_log now (messages.Ask epoch from tail) m = ask_log m.role from tail m
heard_log now (messages.Append epoch previous chunk) m = append_log m.role previous chunk m

-- a message changes no log
pub taken_log : (now : ℕ) (message : Message) (m : MemberState) → (taken now message m).state.log ≡ m.log
taken_log now message m =
    either (names_another m.members m.number message && ((epoch_of message == m.promise) || is_later_stop m.promise message)) (heard now message m) (silent m) m.log (heard_log now message m) refl

-- a list that goes on by what stands ahead is the one that is committed
pub extended_is : (list ahead : List Chunk) (m : MemberState) → IsLog m.log → GoesOn list (committed_by list m)
    → (nat_lt (end_of list) (commit_end m) ≡ true → ahead ≡ drop (length list) m.log) → extended list ahead (commit_end m) ≡ committed_by list m
extended_is list ahead m l goes is = by (nat_lt (end_of list) (commit_end m)) refl
  where
    less : (a b : ℕ) → nat_lt a b ≡ true → a ≤ b
    less a b h = grind arith

    by : (b : Bool) → nat_lt (end_of list) (commit_end m) ≡ b → extended list ahead (commit_end m) ≡ committed_by list m
    by true h =
        ap (λ (b : Bool). cond {A = List Chunk} b (list ++ before_first (ends_behind (commit_end m)) ahead) list) h
        ∙ cut_extends list m.log ahead (commit_end m) l (subst (λ (b : Bool). GoesOn list (cond {A = List Chunk} b (cut_at (commit_end m) m.log) list)) h goes) (is h) (less (end_of list) (commit_end m) h)
        ∙ sym (ap (λ (b : Bool). cond {A = List Chunk} b (cut_at (commit_end m) m.log) list) h)
    by false h =
        ap (λ (b : Bool). cond {A = List Chunk} b (list ++ before_first (ends_behind (commit_end m)) ahead) list) h
        ∙ sym (ap (λ (b : Bool). cond {A = List Chunk} b (cut_at (commit_end m) m.log) list) h)

-- what stands ahead of a member that takes a message
pub taken_ahead : (now count : ℕ) (message : Message) (m : MemberState) → is_some m.job ≡ false → ahead_of count m ≡ drop count (taken now message m).state.log
taken_ahead now count message m idle =
    ap (λ (x : List Chunk). drop count (m.log ++ x)) (none m.job idle) ∙ ap (drop count) (append-nil m.log ∙ sym (taken_log now message m))
  where
    none : (j : Option Job) → is_some j ≡ false → job_chunks j ≡ []
    none None h = refl
    none (Some j) h = absurd (cc h)

-- what is cut is committed at no leader
cut_role : (r : MemberRole) (m : MemberState) → (asks_by r m).state ≡ m
cut_role Stopped m = refl
cut_role (Follower leader) m = refl
cut_role (Leader l) m = refl

no_commit : (r : MemberRole) (m : MemberState) (end : ℕ) → WritesBy r (Some (Cut end)) → commit_by r m ≡ 0
no_commit Stopped m end h = refl
no_commit (Follower leader) m end h = refl
no_commit (Leader l) m end h = absurd h

never : (a : ℕ) → nat_lt a 0 ≡ false
never a = grind arith

-- what stands ahead of a member whose job is done
pub finished_ahead : (count end : ℕ) (m : MemberState) (job : Option Job) → WritesBy m.role job → nat_lt end (commit_end (finished_by job m).state) ≡ true → drop count (m.log ++ job_chunks job) ≡ drop count (finished_by job m).state.log
finished_ahead count end m None w h = ap (drop count) (append-nil m.log)
finished_ahead count end m (Some (Write c)) w h = ap (drop count) (sym (wrote_log m.role c m))
  where
    wrote_log : (r : MemberRole) (c : Chunk) (m : MemberState) → (wrote r c m).state.log ≡ m.log ++ c ∷ []
    wrote_log Stopped c m = refl
    wrote_log (Follower leader) c m = refl
    wrote_log (Leader l) c m = refl
finished_ahead count end m (Some (Cut at)) w h =
    let done = record m { log = cut_at at m.log; job = None } in
    let nothing : commit_end (asks_by m.role done).state ≡ 0 = ap commit_end (cut_role m.role done) ∙ no_commit m.role done at w in
    absurd (differ (sym h ∙ ap (nat_lt end) nothing ∙ never end))
  where
    differ : true ≡ false → ⊥
    differ e = cc e
finished_ahead count end m (Some (Promise epoch)) w h = ap (drop count) (append-nil m.log)
finished_ahead count end m (Some (Epoch epoch)) w h = ap (drop count) (append-nil m.log)
