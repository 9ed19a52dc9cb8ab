-- What a member sends, what it commits, and what it shares before.
use Rattle.std.proofs.Common.{◌≡◌, ◌≤◌, ◌<◌, ◌+◌, ℕ, zero, suc, Bool, true, false, cond, not, ◌&&◌, ◌||◌, ◌==◌, nat_lt, nat_le, List, [], ◌∷◌, ◌++◌, length, Option, Some, None, refl, sym, ap, ◌∙◌, arith}
use Rattle.std.specs.List.{filter, before_first}
use Rattle.std.proofs.lemmas.Grind.{common_steps}
use Rattle.std.proofs.lemmas.List.{get_or-set_same, length-map}
use Rattle.chunk_format.specs.declared.chunk.Chunk.{Chunk}
use Rattle.chunk_format.specs.Chunks.{end_of_chunk}
use Rattle.chunk_format.specs.Logs.{end_of, snapshot_body, opening_chunk}
use Rattle.epoch_coordinator.specs.declared.tail.Run.{Run}
use Rattle.epoch_coordinator.specs.declared.tail.Tail.{Tail}
use Rattle.epoch_coordinator.specs.declared.message.Job.{Job}
use Rattle.epoch_coordinator.specs.declared.message.Job.TheVariants.{Write, Cut, Promise, Epoch}
use Rattle.epoch_coordinator.specs.declared.message.Message.{Message}
use Rattle.epoch_coordinator.specs.declared.message.Message.TheVariants as messages
use Rattle.epoch_coordinator.specs.Tails.{tail_of, runs_of, contains}
use Rattle.epoch_coordinator.specs.Members.{Leading, MemberRole, MemberState, Stopped, Follower, Leader, is_stopped}
use Rattle.epoch_coordinator.specs.MemberSteps.{Took, silent, says, says_stopped, asks, names_another, epoch_of, is_later_stop, after_stop, has_epoch, can_open, new_leading, stamp_at, after_open, after_follow, chunk_from, acknowledge, send_next, ask_of_leader, after_ask, ends_in, kept_end, after_shape, goes_on, after_append, heard, taken, numbers_from, all_members, other_members, mail, asks_by, wrote, finished_by, finished, majority_has, commit_from, commit_by, commit_end}
use Rattle.replication_laws.specs.Cluster.{ClusterState, Seat, member, nobody, put, send}
use Rattle.replication_laws.specs.Events.{took, committed_by}
use Rattle.cluster_core.specs.Parts.{ahead_of, ends_behind, extended}
use Rattle.cluster_core.specs.States.{is_leader}
use Rattle.cluster_core.specs.Kept.{ahead_at, took_ahead}

-- ---- how many messages

few_of : (b : Bool) (x y : Took) → length x.sent ≤ 1 → length y.sent ≤ 1 → length (cond {A = Took} b x y).sent ≤ 1
few_of true x y h k = h
few_of false x y h k = k

none_sent : 0 ≤ 1
none_sent = omega arith

one_sent : 1 ≤ 1
one_sent = omega arith

next_few : (c : Option Chunk) (from : ℕ) (tail : Tail) (m : MemberState) → length (send_next c from tail m).sent ≤ 1
next_few None from tail m = none_sent
next_few (Some c) from tail m = one_sent

shape_few : (r : MemberRole) (runs : List Run) (m : MemberState) → length (after_shape r runs m).sent ≤ 1
shape_few Stopped runs m = none_sent
shape_few (Leader l) runs m = none_sent
shape_few (Follower leader) runs m =
    let cut = silent (record m { job = Some (Cut (kept_end runs m.log)) }) in
    let shorter = nat_lt (kept_end runs m.log) (end_of m.log) in
    few_of (ends_in m.promise m.log) (silent m) (cond {A = Took} shorter cut (asks leader m)) none_sent (few_of shorter cut (asks leader m) none_sent one_sent)

ask_few : (r : MemberRole) (from : ℕ) (tail : Tail) (m : MemberState) → length (after_ask r from tail m).sent ≤ 1
ask_few Stopped from tail m = none_sent
ask_few (Follower leader) from tail m = none_sent
ask_few (Leader l) from tail m =
    let next = send_next (chunk_from tail.end m.log) from tail (record m { role = Leader (acknowledge m.promise from tail l) }) in
    let shape = says from (messages.Shape m.promise l.kept) m in
    few_of l.opened (ask_of_leader l from tail m) (silent m) (few_of (contains (runs_of m.log) tail) next shape (next_few (chunk_from tail.end m.log) from tail (record m { role = Leader (acknowledge m.promise from tail l) })) one_sent) none_sent

append_few : (r : MemberRole) (previous : Tail) (c : Chunk) (m : MemberState) → length (after_append r previous c m).sent ≤ 1
append_few Stopped previous c m = none_sent
append_few (Leader l) previous c m = none_sent
append_few (Follower leader) previous c m = few_of (goes_on m.promise previous c m.log) (silent (record m { job = Some (Write c) })) (silent m) none_sent none_sent

stop_few : (epoch : ℕ) (m : MemberState) → length (after_stop epoch m).sent ≤ 1
stop_few epoch m =
    let again = (epoch == m.promise) && is_stopped m.role in
    let stops = silent (record m { role = Stopped; job = Some (Promise epoch) }) in
    few_of (nat_lt m.promise epoch) stops (cond {A = Took} again (says_stopped m) (silent m)) none_sent (few_of again (says_stopped m) (silent m) one_sent none_sent)

open_few : (now : ℕ) (m : MemberState) → length (after_open now m).sent ≤ 1
open_few now m = few_of (is_stopped m.role && can_open m.promise m.log) _ (silent m) none_sent none_sent

follow_few : (leader : ℕ) (m : MemberState) → length (after_follow leader m).sent ≤ 1
follow_few leader m = few_of (is_stopped m.role) (asks leader (record m { role = Follower leader })) (silent m) one_sent none_sent

heard_few : (now : ℕ) (message : Message) (m : MemberState) → length (heard now message m).sent ≤ 1
heard_few now (messages.Stop epoch) m = stop_few epoch m
heard_few now (messages.Stopped epoch from tail) m = none_sent
heard_few now (messages.Open epoch) m = open_few now m
heard_few now (messages.Follow epoch leader) m = follow_few leader m
heard_few now (messages.Shape epoch runs) m = shape_few m.role runs m
heard_few now (messages.Ask epoch from tail) m = ask_few m.role from tail m
heard_few now (messages.Append epoch previous chunk) m = append_few m.role previous chunk m

-- a message is answered by one message at most
pub taken_few : (now : ℕ) (message : Message) (m : MemberState) → length (taken now message m).sent ≤ 1
taken_few now message m =
    few_of (names_another m.members m.number message && ((epoch_of message == m.promise) || is_later_stop m.promise message)) (heard now message m) (silent m) (heard_few now message m) none_sent

numbers_count : (first n : ℕ) → length (numbers_from first n) ≡ n
numbers_count first zero = refl
numbers_count first (suc n) = ap suc (numbers_count (first + 1) n)

filter_count : {A : Type 0} (p : A → Bool) (xs : List A) → length (filter p xs) ≤ length xs
filter_count p [] = omega arith
filter_count p (x ∷ xs) = grind (arith, common_steps, filter_count p xs)

others_count : (members me : ℕ) → length (other_members members me) ≤ members
others_count members me = (let f = filter_count (λ (k : ℕ). not (k == me)) (all_members members) in let n = numbers_count 1 members in omega (arith, f, n))

wrote_few : (r : MemberRole) (c : Chunk) (m : MemberState) → m.members ≤ 7 → length (wrote r c m).sent ≤ 7
wrote_few Stopped c m few = omega arith
wrote_few (Follower leader) c m few = omega arith
wrote_few (Leader l) c m few =
    let n = others_count m.members m.number in
    let same = length-map (other_members m.members m.number) (λ (k : ℕ). mail k (messages.Append m.promise (tail_of m.log) c)) in
    omega (arith, n, few, same)

asks_few : (r : MemberRole) (m : MemberState) → length (asks_by r m).sent ≤ 7
asks_few Stopped m = omega arith
asks_few (Follower leader) m = omega arith
asks_few (Leader l) m = omega arith

finished_few_by : (job : Option Job) (m : MemberState) → m.members ≤ 7 → length (finished_by job m).sent ≤ 7
finished_few_by None m few = omega arith
finished_few_by (Some (Write c)) m few = wrote_few m.role c m few
finished_few_by (Some (Cut end)) m few = asks_few m.role _
finished_few_by (Some (Promise epoch)) m few = omega arith
finished_few_by (Some (Epoch epoch)) m few = omega arith

-- a job that is done tells at most each other member
pub finished_few : (m : MemberState) → m.members ≤ 7 → length (finished m).sent ≤ 7
finished_few m few = finished_few_by m.job m few

-- ---- who doesn't lead commits nothing

zero_of : (b : Bool) (x y : Took) → commit_end x.state ≡ 0 → commit_end y.state ≡ 0 → commit_end (cond {A = Took} b x y).state ≡ 0
zero_of true x y h k = h
zero_of false x y h k = k

split_not : (a b : Bool) → (a || b) ≡ false → (a ≡ false) × (b ≡ false)
split_not false b h = (refl, h)
split_not true b h = absurd (cc h)

without_epoch : (m : MemberState) (l : Leading) (log : List Chunk) → has_epoch m.promise log ≡ false → commit_from 0 m l log ≡ 0
without_epoch m l [] h = refl
without_epoch m l (c ∷ log) h =
    let p = split_not (c.epoch == m.promise) (has_epoch m.promise log) h in
    ap (λ (b : Bool). commit_from (cond {A = ℕ} (b && majority_has m.members (end_of_chunk c) l) (end_of_chunk c) 0) m l log) p.0 ∙ without_epoch m l log p.1

first_of3 : (a b c : Bool) → (not a && b && c) ≡ true → a ≡ false
first_of3 false b c h = refl
first_of3 true b c h = absurd (cc h)

second_of : (a b : Bool) → (a && b) ≡ true → b ≡ true
second_of true b h = h
second_of false b h = absurd (cc h)

opening_zero : (now : ℕ) (m : MemberState) → commit_by m.role m ≡ 0 → commit_end (after_open now m).state ≡ 0
opening_zero now m none = by (is_stopped m.role && can_open m.promise m.log) refl
  where
    by : (b : Bool) → (is_stopped m.role && can_open m.promise m.log) ≡ b → commit_end (after_open now m).state ≡ 0
    by true is =
        let e = first_of3 (has_epoch m.promise m.log) (nat_lt (end_of m.log) 18446744073709551615) (nat_le (length (snapshot_body m.log)) 2147483647) (second_of (is_stopped m.role) (can_open m.promise m.log) is) in
        let opened : Took = silent (record m { role = Leader (new_leading m.members); job = Some (Write (opening_chunk m.promise (stamp_at now) m.log)) }) in
        ap (λ (b : Bool). commit_end (cond {A = Took} b opened (silent m)).state) is ∙ without_epoch opened.state (new_leading m.members) m.log e
    by false is =
        let opened : Took = silent (record m { role = Leader (new_leading m.members); job = Some (Write (opening_chunk m.promise (stamp_at now) m.log)) }) in
        ap (λ (b : Bool). commit_end (cond {A = Took} b opened (silent m)).state) is ∙ none

stopping_zero : (epoch : ℕ) (m : MemberState) → commit_by m.role m ≡ 0 → commit_end (after_stop epoch m).state ≡ 0
stopping_zero epoch m none =
    let again = (epoch == m.promise) && is_stopped m.role in
    let stops = silent (record m { role = Stopped; job = Some (Promise epoch) }) in
    zero_of (nat_lt m.promise epoch) stops (cond {A = Took} again (says_stopped m) (silent m)) refl (zero_of again (says_stopped m) (silent m) none none)

following_zero : (leader : ℕ) (m : MemberState) → commit_by m.role m ≡ 0 → commit_end (after_follow leader m).state ≡ 0
following_zero leader m none = zero_of (is_stopped m.role) (asks leader (record m { role = Follower leader })) (silent m) refl none

shaping_zero : (r : MemberRole) (runs : List Run) (m : MemberState) → m.role ≡ r → is_leader r ≡ false → commit_end (after_shape r runs m).state ≡ 0
shaping_zero Stopped runs m is h = ap (λ (x : MemberRole). commit_by x m) is
shaping_zero (Leader l) runs m is h = absurd (cc h)
shaping_zero (Follower leader) runs m is h =
    let cut_state : MemberState = record m { job = Some (Cut (kept_end runs m.log)) } in
    let cut = silent cut_state in
    let shorter = nat_lt (kept_end runs m.log) (end_of m.log) in
    let none : commit_by m.role m ≡ 0 = ap (λ (x : MemberRole). commit_by x m) is in
    let cuts : commit_by m.role cut_state ≡ 0 = ap (λ (x : MemberRole). commit_by x cut_state) is in
    zero_of (ends_in m.promise m.log) (silent m) (cond {A = Took} shorter cut (asks leader m)) none (zero_of shorter cut (asks leader m) cuts none)

asking_zero : (r : MemberRole) (from : ℕ) (tail : Tail) (m : MemberState) → m.role ≡ r → is_leader r ≡ false → commit_end (after_ask r from tail m).state ≡ 0
asking_zero Stopped from tail m is h = ap (λ (x : MemberRole). commit_by x m) is
asking_zero (Follower leader) from tail m is h = ap (λ (x : MemberRole). commit_by x m) is
asking_zero (Leader l) from tail m is h = absurd (cc h)

appending_zero : (r : MemberRole) (previous : Tail) (c : Chunk) (m : MemberState) → m.role ≡ r → is_leader r ≡ false → commit_end (after_append r previous c m).state ≡ 0
appending_zero Stopped previous c m is h = ap (λ (x : MemberRole). commit_by x m) is
appending_zero (Leader l) previous c m is h = absurd (cc h)
appending_zero (Follower leader) previous c m is h =
    let writes : MemberState = record m { job = Some (Write c) } in
    zero_of (goes_on m.promise previous c m.log) (silent writes) (silent m) (ap (λ (x : MemberRole). commit_by x writes) is) (ap (λ (x : MemberRole). commit_by x m) is)

none_by : (r : MemberRole) (m : MemberState) → is_leader r ≡ false → commit_by r m ≡ 0
none_by Stopped m h = refl
none_by (Follower leader) m h = refl
none_by (Leader l) m h = absurd (cc h)

hearing_zero : (now : ℕ) (message : Message) (m : MemberState) → is_leader m.role ≡ false → commit_end (heard now message m).state ≡ 0
hearing_zero now (messages.Stop epoch) m h = stopping_zero epoch m (none_by m.role m h)
hearing_zero now (messages.Stopped epoch from tail) m h = none_by m.role m h
hearing_zero now (messages.Open epoch) m h = opening_zero now m (none_by m.role m h)
hearing_zero now (messages.Follow epoch leader) m h = following_zero leader m (none_by m.role m h)
hearing_zero now (messages.Shape epoch runs) m h = shaping_zero m.role runs m refl h
hearing_zero now (messages.Ask epoch from tail) m h = asking_zero m.role from tail m refl h
hearing_zero now (messages.Append epoch previous chunk) m h = appending_zero m.role previous chunk m refl h

pub taking_zero : (now : ℕ) (message : Message) (m : MemberState) → is_leader m.role ≡ false → commit_end (taken now message m).state ≡ 0
taking_zero now message m h =
    zero_of (names_another m.members m.number message && ((epoch_of message == m.promise) || is_later_stop m.promise message)) (heard now message m) (silent m) (hearing_zero now message m h) (none_by m.role m h)

finishing_at : (number members promise : ℕ) (role : MemberRole) (log : List Chunk) (job : Option Job) → is_leader role ≡ false
    → commit_end (finished (record { number = number; members = members; promise = promise; role = role; log = log; job = job })).state ≡ 0
finishing_at n k p (Leader l) log job h = absurd (cc h)
finishing_at n k p Stopped log None h = refl
finishing_at n k p Stopped log (Some (Write c)) h = refl
finishing_at n k p Stopped log (Some (Cut end)) h = refl
finishing_at n k p Stopped log (Some (Promise epoch)) h = refl
finishing_at n k p Stopped log (Some (Epoch epoch)) h = refl
finishing_at n k p (Follower leader) log None h = refl
finishing_at n k p (Follower leader) log (Some (Write c)) h = refl
finishing_at n k p (Follower leader) log (Some (Cut end)) h = refl
finishing_at n k p (Follower leader) log (Some (Promise epoch)) h = refl
finishing_at n k p (Follower leader) log (Some (Epoch epoch)) h = refl

pub finishing_zero : (m : MemberState) → is_leader m.role ≡ false → commit_end (finished m).state ≡ 0
finishing_zero m h = finishing_at m.number m.members m.promise m.role m.log m.job h

-- ---- what is shared is enough

never : (a : ℕ) → nat_lt a 0 ≡ false
never a = grind arith

nothing_on : (list ahead : List Chunk) → extended list ahead 0 ≡ list
nothing_on list ahead = ap (λ (b : Bool). cond {A = List Chunk} b (list ++ before_first (ends_behind 0) ahead) list) (never (end_of list))

pub shared_enough : (list : List Chunk) (count end : ℕ) (m : MemberState) → (is_leader m.role ≡ false → end ≡ 0) → extended list (ahead_at count m) end ≡ extended list (ahead_of count m) end
shared_enough list count end m none = by (is_leader m.role) refl
  where
    by : (b : Bool) → is_leader m.role ≡ b → extended list (ahead_at count m) end ≡ extended list (ahead_of count m) end
    by true is = ap (λ (b : Bool). extended list (cond {A = List Chunk} b (ahead_of count m) []) end) is
    by false is =
        let zero_end = none is in
        ap (λ (n : ℕ). extended list (ahead_at count m) n) zero_end ∙ nothing_on list (ahead_at count m) ∙ sym (ap (λ (n : ℕ). extended list (ahead_of count m) n) zero_end ∙ nothing_on list (ahead_of count m))

-- a member that is there is what was put at its place
put_there : (w : ClusterState) (i : ℕ) (s : Seat) → i < length w.seats → member (put w (suc i) s) (suc i) ≡ s.state
put_there w i s lt = ap (λ (x : Seat). x.state) (get_or-set_same w.seats i s nobody lt)

-- so the list goes on as the member commits
pub took_is : (i : ℕ) (t : Took) (w : ClusterState) → i < length w.seats → extended w.committed (ahead_at (length w.committed) (member w (suc i))) (commit_end t.state) ≡ committed_by w.committed t.state → took_ahead (suc i) t w ≡ took (suc i) t w
took_is i t w lt e =
    let w1 : ClusterState = send (put w (suc i) (record { up = true; state = t.state })) t.sent in
    ap (λ (l : List Chunk). record w1 { committed = l }) (e ∙ ap (committed_by w.committed) (sym (put_there w i (record { up = true; state = t.state }) lt)))
