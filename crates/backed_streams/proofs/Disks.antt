-- All disks of a stream, of which one changes.
use Rattle.std.proofs.Common.{◌≡◌, ◌≢◌, inl, inr, ℕ, ◌<◌, ◌≤◌, true, List, length, sym, ap, subst, ◌∙◌, arith}
use Rattle.std.proofs.lemmas.Bool.{cases_eq}
use Rattle.disk_calls.specs.Disk.{DiskState}
use Rattle.chunk_format.specs.declared.chunk.Chunk.{Chunk}
use Rattle.epoch_coordinator.specs.Members.{MemberState}
use Rattle.epoch_coordinator.specs.Coordinators.{CoordinatorState}
use Rattle.replication_laws.specs.Cluster.{Seat, ClusterState, seat, member, IsMember, placed, put}
use Rattle.replication_laws.proofs.Sounds.{seat_put, seat_else, member_put, member_else, count_put}
use Rattle.segment_store.specs.Stores.{StoreInHand, BackedStore}
use Rattle.backed_streams.specs.Backing.{BackedMember, BackedEpoch, IsInHand, Backed, BackedBy, AllInHand, OthersStay}
use Rattle.backed_streams.proofs.Widening.{Widens, WidensEpoch}

-- the states of disks
abbrev pub states : {D : Type 0} → (D → DiskState) → (ℕ → D) → ℕ → DiskState
states state disks k = state (disks k)

-- ---- a state of a member that widens

pub member_widens : (stream : ℕ) (m n : MemberState) (s : DiskState) → Widens m n → BackedMember stream m s → BackedMember stream n s
member_widens stream m n s x b = record { log = λ F pick picks. x.held _ (b.log F pick picks); promise = λ files left. x.may _ (b.promise files left) }

pub in_hand_widens : (stream : ℕ) (m n : MemberState) (store : StoreInHand) (s : DiskState) → Widens m n → IsInHand stream m store s → IsInHand stream n store s
in_hand_widens stream m n store s x h = record {
  stream_is = h.stream_is;
  member_is = h.member_is ∙ sym x.number_is;
  backed = subst (λ (l : List Chunk). BackedStore store l s) (sym x.log_is) h.backed;
  promised = h.promised ∙ sym x.promise_is;
}

pub epoch_widens : (stream : ℕ) (c d : CoordinatorState) (s : DiskState) → WidensEpoch c d → BackedEpoch stream c s → BackedEpoch stream d s
epoch_widens stream c d s x b files left = x _ (b files left)

-- ---- one disk and its member change

pub backed_put : {D : Type 0} (state : D → DiskState) (stream k : ℕ) (w : ClusterState) (x : Seat) (disks after : ℕ → D) → 0 < k → OthersStay k disks after → (IsMember w k → BackedMember stream x.state (state (after k)))
    → Backed stream w (states state disks) → Backed stream (put w k x) (states state after)
backed_put {D} state stream k w x disks after some others here b = record { members = each; epoch = subst (λ (d : D). BackedEpoch stream w.coordinator (state d)) (sym (others 0 (λ e. omega (arith, some, e)))) b.epoch }
  where
    within : (j : ℕ) → j ≤ length (placed k x w.seats) → j ≤ length w.seats
    within j high = (let e = count_put k x w.seats in omega (arith, high, e))

    each : (j : ℕ) → 0 < j → j ≤ length (placed k x w.seats) → BackedMember stream (member (put w k x) j) (state (after j))
    each j low high = elim (cases_eq j k) [
      | inl eq ↦
          let there : IsMember w k = (some, (let e = within j high in omega (arith, e, eq))) in
          subst (λ (i : ℕ). BackedMember stream (member (put w k x) i) (state (after i))) (sym eq) (subst (λ (m : MemberState). BackedMember stream m (state (after k))) (sym (member_put w k x there)) (here there))
      | inr ne ↦ subst (λ (m : MemberState). BackedMember stream m (state (after j))) (sym (member_else w k j x ne)) (subst (λ (d : D). BackedMember stream (member w j) (state d)) (sym (others j ne)) (b.members j low (within j high)))
    ]

-- the coordinator changes, with its disk
pub backed_first : {D : Type 0} (state : D → DiskState) (stream : ℕ) (w : ClusterState) (c : CoordinatorState) (disks after : ℕ → D) → OthersStay 0 disks after → BackedEpoch stream c (state (after 0))
    → Backed stream w (states state disks) → BackedBy stream w.seats c (states state after)
backed_first {D} state stream w c disks after others here b = record {
  members = λ j low high. subst (λ (d : D). BackedMember stream (member w j) (state d)) (sym (others j (λ e. omega (arith, low, e)))) (b.members j low high);
  epoch = here;
}

-- one disk changes
pub backed_at : {D : Type 0} (state : D → DiskState) (stream k : ℕ) (w : ClusterState) (disks after : ℕ → D) → OthersStay k disks after → (IsMember w k → BackedMember stream (member w k) (state (after k))) → (k ≡ 0 → BackedEpoch stream w.coordinator (state (after k)))
    → Backed stream w (states state disks) → Backed stream w (states state after)
backed_at {D} state stream k w disks after others here first b = record { members = each; epoch = zeroth }
  where
    each : (j : ℕ) → 0 < j → j ≤ length w.seats → BackedMember stream (member w j) (state (after j))
    each j low high = elim (cases_eq j k) [
      | inl eq ↦ subst (λ (i : ℕ). BackedMember stream (member w i) (state (after i))) (sym eq) (here (omega (arith, low, eq), omega (arith, high, eq)))
      | inr ne ↦ subst (λ (d : D). BackedMember stream (member w j) (state d)) (sym (others j ne)) (b.members j low high)
    ]

    zeroth : BackedEpoch stream w.coordinator (state (after 0))
    zeroth = elim (cases_eq 0 k) [
      | inl eq ↦ subst (λ (i : ℕ). BackedEpoch stream w.coordinator (state (after i))) (sym eq) (first (sym eq))
      | inr ne ↦ subst (λ (d : D). BackedEpoch stream w.coordinator (state d)) (sym (others 0 ne)) b.epoch
    ]

-- ---- and its store

pub in_hand_put : {D : Type 0} (state : D → DiskState) (stream k : ℕ) (w : ClusterState) (x : Seat) (stores now : ℕ → StoreInHand) (disks after : ℕ → D) → OthersStay k disks after → OthersStay k stores now
    → (IsMember w k → x.up ≡ true → IsInHand stream x.state (now k) (state (after k)))
    → ((j : ℕ) → j ≢ k → IsMember w j → (seat w j).up ≡ true → IsInHand stream (member w j) (stores j) (state (disks j)))
    → AllInHand stream (put w k x) now (states state after)
in_hand_put {D} state stream k w x stores now disks after others same here rest j lt up = elim (cases_eq j k) [
  | inl eq ↦
      let there : IsMember w k = subst (IsMember w) eq old in
      let is : seat (put w k x) j ≡ x = ap (seat (put w k x)) eq ∙ seat_put w k x there in
      subst (λ (i : ℕ). IsInHand stream (member (put w k x) i) (now i) (state (after i))) (sym eq) (subst (λ (m : MemberState). IsInHand stream m (now k) (state (after k))) (sym (member_put w k x there)) (here there (ap (λ (s : Seat). s.up) (sym is) ∙ up)))
  | inr ne ↦
      let b = rest j ne old (ap (λ (s : Seat). s.up) (sym (seat_else w k j x ne)) ∙ up) in
      subst (λ (m : MemberState). IsInHand stream m (now j) (state (after j))) (sym (member_else w k j x ne))
      (subst (λ (d : D). IsInHand stream (member w j) (now j) (state d)) (sym (others j ne)) (subst (λ (store : StoreInHand). IsInHand stream (member w j) store (state (disks j))) (sym (same j ne)) b))
]
  where
    old : IsMember w j
    old = (lt.0, (let e = count_put k x w.seats in omega (arith, lt.1, e)))

-- only the coordinator's disk changes
pub in_hand_first : {D : Type 0} (state : D → DiskState) (stream : ℕ) (w : ClusterState) (stores : ℕ → StoreInHand) (disks after : ℕ → D) → OthersStay 0 disks after → AllInHand stream w stores (states state disks) → AllInHand stream w stores (states state after)
in_hand_first {D} state stream w stores disks after others all j lt up = subst (λ (d : D). IsInHand stream (member w j) (stores j) (state d)) (sym (others j (λ e. omega (arith, lt.0, e)))) (all j lt up)
