-- Jobs are done, and messages come to their receivers.
use Rattle.std.proofs.Common.{◌≡◌, ◌≤◌, ◌+◌, ℕ, zero, suc, Bool, true, false, List, [], ◌++◌, length, Option, Some, None, is_some, slice_set, slice_index_or, add-one, refl, sym, ap, subst, ◌∙◌, arith}
use Rattle.std.specs.Prelude.{unwrap_or}
use Rattle.std.proofs.lemmas.List.{length-map}
use Rattle.chunk_format.specs.declared.chunk.Chunk.{Chunk}
use Rattle.epoch_coordinator.specs.declared.message.Message.TheVariants as messages
use Rattle.epoch_coordinator.specs.declared.message.Sent.{Sent}
use Rattle.epoch_coordinator.specs.MemberSteps.{finished, commit_end, all_members, numbers_from}
use Rattle.epoch_coordinator.specs.MemberSteps.{mail as mail_to}
use Rattle.epoch_coordinator.specs.Coordinators.{CoordinatorState, begun, stop_all}
use Rattle.replication_laws.specs.Cluster.{ClusterState, Seat, Letter, nobody, member, numbered}
use Rattle.replication_laws.specs.Events.{begins}
use Rattle.cluster_core.specs.declared.mail.Numbered.{Numbered}
use Rattle.cluster_core.specs.Parts.{lettered, extended}
use Rattle.cluster_core.specs.Up.{is_up}
use Rattle.cluster_core.specs.States.{ReplicaState, IsStream, reigned, cluster_of, state_of, coordinator_of, counted_on}
use Rattle.cluster_core.specs.Kept.{ahead_at, after_done}
use Rattle.cluster_core.proofs.Deliveries.{finished_is, few_of_stream}
use Rattle.cluster_core.proofs.Moves.{finished_few}
use Rattle.stream_cluster.specs.Seats.{in_seat}

-- a stream of these parts
abbrev pub parts : List Seat → Bool → CoordinatorState → List Letter → ℕ → List Chunk → List ℕ → ReplicaState
parts seats up c mail last committed numbers =
    record { cluster = record { seats = seats; coordinator_up = up; coordinator = c; reigns = []; mail = mail; last = last; committed = committed }; numbers = numbers }

-- a stream without reigns, and the numbers of its jobs
abbrev pub of_cluster : List ℕ → ClusterState → ReplicaState
of_cluster numbers w = record { cluster = reigned [] w; numbers = numbers }

abbrev pub with_cluster : List ℕ → ClusterState → ReplicaState
with_cluster numbers w = record { cluster = w; numbers = numbers }

pub same_parts : (seats seats' : List Seat) (up : Bool) (c : CoordinatorState) (mail mail' : List Letter) (last last' : ℕ) (committed committed' : List Chunk) (numbers numbers' : List ℕ)
    → seats ≡ seats' → mail ≡ mail' → last ≡ last' → committed ≡ committed' → numbers ≡ numbers' → parts seats up c mail last committed numbers ≡ parts seats' up c mail' last' committed' numbers'
same_parts seats seats' up c mail mail' last last' committed committed' numbers numbers' a b d e f =
    ap (λ (x : List Seat). parts x up c mail last committed numbers) a
    ∙ ap (λ (x : List Letter). parts seats' up c x last committed numbers) b
    ∙ ap (λ (x : ℕ). parts seats' up c mail' x committed numbers) d
    ∙ ap (λ (x : List Chunk). parts seats' up c mail' last' x numbers) e
    ∙ ap (λ (x : List ℕ). parts seats' up c mail' last' committed' x) f

-- ---- a member's job is done

-- what it sends has room
pub sends_few : (seats : List Seat) (up : Bool) (c : CoordinatorState) (mail : List Numbered) (last : ℕ) (committed : List Chunk) (i : ℕ)
    → IsStream (cluster_of seats up c mail last committed) → is_up (cluster_of seats up c mail last committed) (suc i) ≡ true → length (finished (slice_index_or seats i nobody).state).sent ≤ 7
sends_few seats up c mail last committed i h u = let w = cluster_of seats up c mail last committed in finished_few (member w (suc i)) (few_of_stream i w h u)

pub finished_at : (seats seats' : List Seat) (up : Bool) (c : CoordinatorState) (mail mail' : List Numbered) (last last' : ℕ) (committed committed' ahead : List Chunk) (numbers numbers' : List ℕ) (i end : ℕ) (sent : List Sent)
    → IsStream (cluster_of seats up c mail last committed) → is_up (cluster_of seats up c mail last committed) (suc i) ≡ true
    → seats' ≡ slice_set seats i (in_seat (finished (slice_index_or seats i nobody).state).state)
    → sent ≡ (finished (slice_index_or seats i nobody).state).sent
    → end ≡ commit_end (finished (slice_index_or seats i nobody).state).state
    → ahead ≡ ahead_at (length committed) (slice_index_or seats i nobody).state
    → committed' ≡ extended committed ahead end
    → lettered mail' ≡ lettered mail ++ numbered last sent
    → last' ≡ last + length (numbered last sent)
    → numbers' ≡ counted_on (suc i) numbers
    → state_of seats' up c mail' last' committed' numbers' ≡ after_done (suc i) (state_of seats up c mail last committed numbers)
finished_at seats seats' up c mail mail' last last' committed committed' ahead numbers numbers' i end sent h u seats_are sent_is end_is ahead_is committed_is mail_is last_is numbers_are =
    let w = cluster_of seats up c mail last committed in
    let t = finished (member w (suc i)) in
    same_parts seats' (slice_set seats i (in_seat t.state)) up (coordinator_of up c) (lettered mail') (lettered mail ++ numbered last t.sent) last' (last + length (numbered last t.sent)) committed' (extended committed (ahead_at (length committed) (member w (suc i))) (commit_end t.state)) numbers' (counted_on (suc i) numbers)
    seats_are
    (mail_is ∙ ap (λ (s : List Sent). lettered mail ++ numbered last s) sent_is)
    (last_is ∙ ap (λ (s : List Sent). last + length (numbered last s)) sent_is)
    (committed_is ∙ ap (λ (a : List Chunk). extended committed a end) ahead_is ∙ ap (λ (e : ℕ). extended committed (ahead_at (length committed) (member w (suc i))) e) end_is)
    numbers_are
    ∙ ap (of_cluster (counted_on (suc i) numbers)) (finished_is i w h u)

-- ---- the coordinator's epoch is durable

some_is : (j : Option ℕ) (d : ℕ) → is_some j ≡ true → (e : ℕ) × (j ≡ Some e)
some_is (Some e) d h = (e, refl)
some_is None d h = absurd (cc h)

stops_count : (first n : ℕ) → length (numbers_from first n) ≡ n
stops_count first zero = refl
stops_count first (suc n) = ap suc (stops_count (first + 1) n)

stop_count : (c : CoordinatorState) → length (stop_all c) ≡ c.members
stop_count c = length-map (all_members c.members) (λ (k : ℕ). mail_to k (messages.Stop c.epoch)) ∙ stops_count 1 c.members

pub stops_few : (seats : List Seat) (up : Bool) (c new : CoordinatorState) (mail : List Numbered) (last epoch : ℕ) (committed : List Chunk) (sent : List Sent)
    → IsStream (cluster_of seats up c mail last committed) → new ≡ begun epoch c → sent ≡ stop_all new → length sent ≤ 7
stops_few seats up c new mail last epoch committed sent h new_is sent_is =
    let n = ap length sent_is ∙ stop_count new in
    let m = ap (λ (x : CoordinatorState). x.members) new_is in
    let count = h.sound.sound.coordinator.count in
    let few = h.few in
    omega (arith, n, m, count, few)

pub begun_at : (seats : List Seat) (up : Bool) (c new : CoordinatorState) (mail mail' : List Numbered) (last last' : ℕ) (committed : List Chunk) (numbers numbers' : List ℕ) (sent : List Sent)
    → up ≡ true → is_some c.job ≡ true → new ≡ begun (unwrap_or c.job 0) c → sent ≡ stop_all new
    → lettered mail' ≡ lettered mail ++ numbered last sent → last' ≡ last + length (numbered last sent) → numbers' ≡ counted_on 0 numbers
    → state_of seats up new mail' last' committed numbers' ≡ after_done 0 (state_of seats up c mail last committed numbers)
begun_at seats false c new mail mail' last last' committed numbers numbers' sent u job new_is sent_is mail_is last_is numbers_are = absurd (cc u)
begun_at seats true c new mail mail' last last' committed numbers numbers' sent u job new_is sent_is mail_is last_is numbers_are =
    let e = some_is c.job 0 job in
    let b = begun e.0 c in
    let begins_so : new ≡ b = new_is ∙ ap (λ (o : Option ℕ). begun (unwrap_or o 0) c) e.1 in
    let sends_so : sent ≡ stop_all b = sent_is ∙ ap stop_all begins_so in
    let w = cluster_of seats true c mail last committed in
    ap (λ (x : CoordinatorState). state_of seats true x mail' last' committed numbers') begins_so
    ∙ same_parts seats seats true b (lettered mail') (lettered mail ++ numbered last (stop_all b)) last' (last + length (numbered last (stop_all b))) committed committed numbers' (counted_on 0 numbers)
    refl (mail_is ∙ ap (λ (s : List Sent). lettered mail ++ numbered last s) sends_so) (last_is ∙ ap (λ (s : List Sent). last + length (numbered last s)) sends_so) refl numbers_are
    ∙ sym (ap (λ (o : Option ℕ). of_cluster (counted_on 0 numbers) (begins o w)) e.1)

-- the same, in the words of the calls that do it
pub finished_there : (seats slice seats' : List Seat) (up : Bool) (c : CoordinatorState) (mail held mail' : List Numbered) (last last' : ℕ) (committed kept committed' ahead : List Chunk) (numbers numbers' : List ℕ) (i count end : ℕ) (sent : List Sent) (r : ReplicaState)
    → state_of seats up c mail last committed numbers ≡ r → IsStream r.cluster → is_up r.cluster (suc i) ≡ true
    → slice ≡ seats → count ≡ length committed → kept ≡ committed → held ≡ mail
    → seats' ≡ slice_set seats i (in_seat (finished (slice_index_or seats i nobody).state).state)
    → sent ≡ (finished (slice_index_or seats i nobody).state).sent
    → end ≡ commit_end (finished (slice_index_or seats i nobody).state).state
    → ahead ≡ ahead_at count (slice_index_or slice i nobody).state
    → committed' ≡ extended kept ahead end
    → lettered mail' ≡ lettered held ++ numbered last sent
    → last' ≡ last + length (numbered last sent)
    → numbers' ≡ counted_on (i + 1) numbers
    → state_of seats' up c mail' last' committed' numbers' ≡ after_done (suc i) r
finished_there seats slice seats' up c mail held mail' last last' committed kept committed' ahead numbers numbers' i count end sent r view h u slice_is count_is kept_is held_is seats_are sent_is end_is ahead_is committed_is mail_is last_is numbers_are =
    let stream = subst (λ (x : ReplicaState). IsStream x.cluster) (sym view) h in
    let is_there = subst (λ (x : ReplicaState). is_up x.cluster (suc i) ≡ true) (sym view) u in
    finished_at seats seats' up c mail mail' last last' committed committed' ahead numbers numbers' i end sent stream is_there seats_are sent_is end_is
    (ahead_is ∙ ap (λ (l : List Seat). ahead_at count (slice_index_or l i nobody).state) slice_is ∙ ap (λ (n : ℕ). ahead_at n (slice_index_or seats i nobody).state) count_is)
    (committed_is ∙ ap (λ (l : List Chunk). extended l ahead end) kept_is)
    (mail_is ∙ ap (λ (m : List Numbered). lettered m ++ numbered last sent) held_is)
    last_is
    (numbers_are ∙ ap (λ (k : ℕ). counted_on k numbers) (add-one i))
    ∙ ap (after_done (suc i)) view
