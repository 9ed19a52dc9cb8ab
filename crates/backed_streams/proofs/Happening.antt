-- Events that touch no disk.
use Rattle.std.proofs.Common.{◌≡◌, ◌≢◌, ℕ, zero, suc, Bool, true, false, cond, not, ◌&&◌, List, Option, Some, None, is_some, refl, sym, subst, arith}
use Rattle.disk_calls.specs.Disk.{DiskState}
use Rattle.chunk_format.specs.declared.chunk.Chunk.{Chunk}
use Rattle.epoch_coordinator.specs.declared.message.Message.{Message}
use Rattle.epoch_coordinator.specs.declared.message.Message.TheVariants as messages
use Rattle.epoch_coordinator.specs.declared.message.Sent.{Sent}
use Rattle.epoch_coordinator.specs.Members.{Stopped, sequence_of}
use Rattle.epoch_coordinator.specs.MemberSteps.{taken, stamp_at}
use Rattle.epoch_coordinator.specs.Coordinators.{elect, stopped}
use Rattle.epoch_coordinator.specs.Offers.{offered_chunks, stored_chunks}
use Rattle.replication_laws.specs.Cluster.{Seat, Letter, ClusterState, seat, member, IsMember, put, letter_in, marked}
use Rattle.replication_laws.specs.Events.{comes, to_coordinator, goes_down, all_offered, gets, OfferStep, Offer, StoreOffset}
use Rattle.cluster_core.specs.declared.outcome.Outcome.{Outcome}
use Rattle.cluster_core.specs.declared.outcome.Outcome.TheVariants.{Did, Nothing, Later, Last, Differs, Memory}
use Rattle.cluster_core.specs.Up.{is_up, has_job}
use Rattle.cluster_core.specs.States.{ReplicaState, Gives, elect_due, deliver_by, deliver_due, lose_due, stop_due}
use Rattle.cluster_core.specs.Kept.{after_elect, after_deliver, after_lose, after_forget, after_nudge, after_stop, delivered_by}
use Rattle.segment_store.specs.Stores.{StoreInHand}
use Rattle.backed_streams.specs.Backing.{IsInHand, Backed, AllInHand, OthersStay}
use Rattle.backed_streams.specs.Doing.{QuietEvent, Elects, Delivers, Loses, Forgets, Nudges, Stops}
use Rattle.backed_streams.proofs.Widening.{Widens, widens_role, taken_widens, all_widen, elect_widens, stopped_widens}
use Rattle.backed_streams.proofs.Disks.{states, member_widens, in_hand_widens, epoch_widens, backed_put, backed_first, in_hand_put}

-- ---- what comes of an event

-- either it happened as it was due, or nothing changed
pub by_gives : (P : ReplicaState → Type 0) (due came : Outcome) (old new after : ReplicaState) → Gives due came old new after → P old → (due ≡ Did → P after) → P new
by_gives P due Did old new after g h k = subst P (sym g.1) (k g.0)
by_gives P due Nothing old new after g h k = subst P (sym g.1) h
by_gives P due (Later n) old new after g h k = subst P (sym g.1) h
by_gives P due (Last epoch) old new after g h k = subst P (sym g.1) h
by_gives P due (Differs a b) old new after g h k = subst P (sym g.1) h
by_gives P due Memory old new after g h k = subst P (sym g) h

stays : {A : Type 0} (k : ℕ) (xs : ℕ → A) → OthersStay k xs xs
stays k xs j ne = refl

-- ---- a member widens where it is

pub backed_widens : {D : Type 0} (state : D → DiskState) (stream i : ℕ) (w : ClusterState) (x : Seat) (disks : ℕ → D) → Widens (member w (suc i)) x.state → Backed stream w (states state disks) → Backed stream (put w (suc i) x) (states state disks)
backed_widens state stream i w x disks wide b = backed_put state stream (suc i) w x disks disks (omega arith) (stays (suc i) disks) (λ there. member_widens stream (member w (suc i)) x.state (state (disks (suc i))) wide (b.members (suc i) there.0 there.1)) b

pub hand_widens : {D : Type 0} (state : D → DiskState) (stream i : ℕ) (w : ClusterState) (x : Seat) (stores : ℕ → StoreInHand) (disks : ℕ → D) → (x.up ≡ true → (seat w (suc i)).up ≡ true) → Widens (member w (suc i)) x.state → AllInHand stream w stores (states state disks) → AllInHand stream (put w (suc i) x) stores (states state disks)
hand_widens state stream i w x stores disks was wide all =
    in_hand_put state stream (suc i) w x stores stores disks disks (stays (suc i) disks) (stays (suc i) stores) (λ there up. in_hand_widens stream (member w (suc i)) x.state (stores (suc i)) (state (disks (suc i))) wide (all (suc i) there (was up))) (λ j ne. all j)

-- ---- a stop

pub down_backed : {D : Type 0} (state : D → DiskState) (stream k : ℕ) (w : ClusterState) (disks : ℕ → D) → Backed stream w (states state disks) → Backed stream (goes_down k w) (states state disks)
down_backed state stream zero w disks b = record { members = b.members; epoch = b.epoch }
down_backed state stream (suc i) w disks b = backed_widens state stream i w (record { up = false; state = record (member w (suc i)) { role = Stopped } }) disks (widens_role (member w (suc i)) Stopped) b

-- the store of who stops is in hand no more
pub down_in_hand : {D : Type 0} (state : D → DiskState) (stream k : ℕ) (w : ClusterState) (stores : ℕ → StoreInHand) (disks : ℕ → D) → ((j : ℕ) → j ≢ k → IsMember w j → (seat w j).up ≡ true → IsInHand stream (member w j) (stores j) (state (disks j)))
    → AllInHand stream (goes_down k w) stores (states state disks)
down_in_hand state stream zero w stores disks rest = λ j lt up. rest j (λ e. omega (arith, lt.0, e)) lt up
down_in_hand state stream (suc i) w stores disks rest =
    in_hand_put state stream (suc i) w (record { up = false; state = record (member w (suc i)) { role = Stopped } }) stores stores disks disks (stays (suc i) disks) (stays (suc i) stores) (λ there up. absurd (cc up)) rest

-- ---- a message

told_backed : {D : Type 0} (state : D → DiskState) (stream : ℕ) (message : Message) (w : ClusterState) (disks : ℕ → D) → Backed stream w (states state disks) → Backed stream (to_coordinator message w) (states state disks)
told_backed state stream (messages.Stopped epoch from tail) w disks b = backed_first state stream w (stopped epoch from tail w.coordinator).state disks disks (stays 0 disks) (epoch_widens stream w.coordinator (stopped epoch from tail w.coordinator).state (state (disks 0)) (stopped_widens epoch from tail w.coordinator) b.epoch) b
told_backed state stream (messages.Stop epoch) w disks b = b
told_backed state stream (messages.Open epoch) w disks b = b
told_backed state stream (messages.Follow epoch leader) w disks b = b
told_backed state stream (messages.Shape epoch runs) w disks b = b
told_backed state stream (messages.Ask epoch from tail) w disks b = b
told_backed state stream (messages.Append epoch previous chunk) w disks b = b

told_in_hand : {D : Type 0} (state : D → DiskState) (stream : ℕ) (message : Message) (w : ClusterState) (stores : ℕ → StoreInHand) (disks : ℕ → D) → AllInHand stream w stores (states state disks) → AllInHand stream (to_coordinator message w) stores (states state disks)
told_in_hand state stream (messages.Stopped epoch from tail) w stores disks all = all
told_in_hand state stream (messages.Stop epoch) w stores disks all = all
told_in_hand state stream (messages.Open epoch) w stores disks all = all
told_in_hand state stream (messages.Follow epoch leader) w stores disks all = all
told_in_hand state stream (messages.Shape epoch runs) w stores disks all = all
told_in_hand state stream (messages.Ask epoch from tail) w stores disks all = all
told_in_hand state stream (messages.Append epoch previous chunk) w stores disks all = all

no_job : {A : Type 0} (o : Option A) → is_some o ≡ false → o ≡ None
no_job None h = refl
no_job (Some x) h = absurd (cc h)

comes_backed : {D : Type 0} (state : D → DiskState) (stream now to : ℕ) (message : Message) (mail : List Letter) (w : ClusterState) (disks : ℕ → D) → has_job w to ≡ false → Backed stream w (states state disks) → Backed stream (comes now to message (record w { mail = mail })) (states state disks)
comes_backed state stream now zero message mail w disks free b = told_backed state stream message (record w { mail = mail }) disks b
comes_backed state stream now (suc i) message mail w disks free b =
    let m = member w (suc i) in
    backed_widens state stream i w (record { up = true; state = (taken now message m).state }) disks (taken_widens now message m (no_job m.job free)) b

up_there : (a b : Bool) → (a && b) ≡ true → b ≡ true
up_there true b h = h
up_there false b h = absurd (cc h)

comes_in_hand : {D : Type 0} (state : D → DiskState) (stream now to : ℕ) (message : Message) (mail : List Letter) (w : ClusterState) (stores : ℕ → StoreInHand) (disks : ℕ → D) → is_up w to ≡ true → has_job w to ≡ false → AllInHand stream w stores (states state disks)
    → AllInHand stream (comes now to message (record w { mail = mail })) stores (states state disks)
comes_in_hand state stream now zero message mail w stores disks up free all = told_in_hand state stream message (record w { mail = mail }) stores disks all
comes_in_hand state stream now (suc i) message mail w stores disks up free all =
    let m = member w (suc i) in
    hand_widens state stream i w (record { up = true; state = (taken now message m).state }) stores disks (λ _. up_there _ (seat w (suc i)).up up) (taken_widens now message m (no_job m.job free)) all

-- a message that is due comes to who is up and has no job
due_free : (a b : Bool) (to : ℕ) → cond {A = Outcome} (not a) Nothing (cond {A = Outcome} b (Later to) Did) ≡ Did → (a ≡ true) × (b ≡ false)
due_free true true to h = absurd (cc h)
due_free true false to h = (refl, refl)
due_free false b to h = absurd (cc h)

delivered_backed : {D : Type 0} (state : D → DiskState) (stream now number : ℕ) (x : Option Sent) (w : ClusterState) (disks : ℕ → D) → deliver_by x w ≡ Did → Backed stream w (states state disks) → Backed stream (delivered_by x number now w) (states state disks)
delivered_backed state stream now number None w disks due b = b
delivered_backed state stream now number (Some s) w disks due b = comes_backed state stream now s.to s.message (marked number w.mail) w disks (due_free (is_up w s.to) (has_job w s.to) s.to due).1 b

delivered_in_hand : {D : Type 0} (state : D → DiskState) (stream now number : ℕ) (x : Option Sent) (w : ClusterState) (stores : ℕ → StoreInHand) (disks : ℕ → D) → deliver_by x w ≡ Did → AllInHand stream w stores (states state disks) → AllInHand stream (delivered_by x number now w) stores (states state disks)
delivered_in_hand state stream now number None w stores disks due all = all
delivered_in_hand state stream now number (Some s) w stores disks due all =
    let free = due_free (is_up w s.to) (has_job w s.to) s.to due in
    comes_in_hand state stream now s.to s.message (marked number w.mail) w stores disks free.0 free.1 all

-- ---- all of them

abbrev Backs : {D : Type 0} → (D → DiskState) → ℕ → (ℕ → D) → ReplicaState → Type 0
Backs state stream disks r = Backed stream r.cluster (states state disks)

abbrev Hands : {D : Type 0} → (D → DiskState) → ℕ → (ℕ → StoreInHand) → (ℕ → D) → ReplicaState → Type 0
Hands state stream stores disks r = AllInHand stream r.cluster stores (states state disks)

pub quiet_backed : {D : Type 0} (state : D → DiskState) (stream now : ℕ) (r r' : ReplicaState) (disks : ℕ → D) → QuietEvent now r r' → Backed stream r.cluster (states state disks) → Backed stream r'.cluster (states state disks)
quiet_backed state stream now r r' disks (Elects came g) b =
    by_gives (Backs state stream disks) (elect_due r.cluster) came r r' (after_elect r) g b
    (λ due. backed_first state stream r.cluster (elect r.cluster.coordinator).state disks disks (stays 0 disks) (epoch_widens stream r.cluster.coordinator (elect r.cluster.coordinator).state (state (disks 0)) (elect_widens r.cluster.coordinator) b.epoch) b)
quiet_backed state stream now r r' disks (Delivers number came g) b =
    by_gives (Backs state stream disks) (deliver_due number r.cluster) came r r' (after_deliver number now r) g b (λ due. delivered_backed state stream now number (letter_in number r.cluster.mail) r.cluster disks due b)
quiet_backed state stream now r r' disks (Loses number came g) b = by_gives (Backs state stream disks) (lose_due number r.cluster) came r r' (after_lose number r) g b (λ due. b)
quiet_backed state stream now r r' disks (Forgets came g) b = by_gives (Backs state stream disks) Did came r r' (after_forget r) g b (λ due. b)
quiet_backed state stream now r r' disks (Nudges came g) b = by_gives (Backs state stream disks) Did came r r' (after_nudge r) g b (λ due. b)
quiet_backed state stream now r r' disks (Stops k came g) b = by_gives (Backs state stream disks) (stop_due k r.cluster) came r r' (after_stop k r) g b (λ due. down_backed state stream k r.cluster disks b)

pub quiet_in_hand : {D : Type 0} (state : D → DiskState) (stream now : ℕ) (r r' : ReplicaState) (stores : ℕ → StoreInHand) (disks : ℕ → D) → QuietEvent now r r' → AllInHand stream r.cluster stores (states state disks) → AllInHand stream r'.cluster stores (states state disks)
quiet_in_hand state stream now r r' stores disks (Elects came g) all = by_gives (Hands state stream stores disks) (elect_due r.cluster) came r r' (after_elect r) g all (λ due. all)
quiet_in_hand state stream now r r' stores disks (Delivers number came g) all =
    by_gives (Hands state stream stores disks) (deliver_due number r.cluster) came r r' (after_deliver number now r) g all (λ due. delivered_in_hand state stream now number (letter_in number r.cluster.mail) r.cluster stores disks due all)
quiet_in_hand state stream now r r' stores disks (Loses number came g) all = by_gives (Hands state stream stores disks) (lose_due number r.cluster) came r r' (after_lose number r) g all (λ due. all)
quiet_in_hand state stream now r r' stores disks (Forgets came g) all = by_gives (Hands state stream stores disks) Did came r r' (after_forget r) g all (λ due. all)
quiet_in_hand state stream now r r' stores disks (Nudges came g) all = by_gives (Hands state stream stores disks) Did came r r' (after_nudge r) g all (λ due. all)
quiet_in_hand state stream now r r' stores disks (Stops k came g) all = by_gives (Hands state stream stores disks) (stop_due k r.cluster) came r r' (after_stop k r) g all (λ due. down_in_hand state stream k r.cluster stores disks (λ j ne. all j))

-- ---- offers

gets_backed : {D : Type 0} (state : D → DiskState) (stream k : ℕ) (chunks : List Chunk) (w : ClusterState) (disks : ℕ → D) → Backed stream w (states state disks) → Backed stream (gets k chunks w) (states state disks)
gets_backed state stream zero chunks w disks b = record { members = b.members; epoch = b.epoch }
gets_backed state stream (suc i) chunks w disks b = backed_widens state stream i w (record { up = true; state = all_offered chunks (member w (suc i)) }) disks (all_widen chunks (member w (suc i))) b

gets_in_hand : {D : Type 0} (state : D → DiskState) (stream k : ℕ) (chunks : List Chunk) (w : ClusterState) (stores : ℕ → StoreInHand) (disks : ℕ → D) → (seat w k).up ≡ true → AllInHand stream w stores (states state disks) → AllInHand stream (gets k chunks w) stores (states state disks)
gets_in_hand state stream zero chunks w stores disks up all = all
gets_in_hand state stream (suc i) chunks w stores disks up all = hand_widens state stream i w (record { up = true; state = all_offered chunks (member w (suc i)) }) stores disks (λ _. up) (all_widen chunks (member w (suc i))) all

pub offer_backed : {D : Type 0} (state : D → DiskState) (stream now : ℕ) (w w' : ClusterState) (disks : ℕ → D) → OfferStep now w w' → Backed stream w (states state disks) → Backed stream w' (states state disks)
offer_backed state stream now w w' disks (Offer epoch k name items runs right all eq) b = subst (λ (x : ClusterState). Backed stream x (states state disks)) (sym eq) (gets_backed state stream k (offered_chunks epoch (stamp_at now) name (sequence_of (member w k)) items) w disks b)
offer_backed state stream now w w' disks (StoreOffset epoch k name offset runs all eq) b = subst (λ (x : ClusterState). Backed stream x (states state disks)) (sym eq) (gets_backed state stream k (stored_chunks epoch (stamp_at now) name offset (sequence_of (member w k))) w disks b)

pub offer_in_hand : {D : Type 0} (state : D → DiskState) (stream now : ℕ) (w w' : ClusterState) (stores : ℕ → StoreInHand) (disks : ℕ → D) → OfferStep now w w' → AllInHand stream w stores (states state disks) → AllInHand stream w' stores (states state disks)
offer_in_hand state stream now w w' stores disks (Offer epoch k name items runs right each eq) all = subst (λ (x : ClusterState). AllInHand stream x stores (states state disks)) (sym eq) (gets_in_hand state stream k (offered_chunks epoch (stamp_at now) name (sequence_of (member w k)) items) w stores disks runs.leader_up all)
offer_in_hand state stream now w w' stores disks (StoreOffset epoch k name offset runs each eq) all = subst (λ (x : ClusterState). AllInHand stream x stores (states state disks)) (sym eq) (gets_in_hand state stream k (stored_chunks epoch (stamp_at now) name offset (sequence_of (member w k))) w stores disks runs.leader_up all)
