-- Properties of logs stay, along each step.
use Rattle.std.proofs.Common.{ℕ, List, [], ◌∷◌, ◌++◌, length, sym, subst, inl, inr}
use Rattle.std.proofs.lemmas.Bool.{cases_eq}
use Rattle.chunk_format.specs.declared.chunk.Chunk.{Chunk}
use Rattle.chunk_format.specs.Logs.{GoesOn}
use Rattle.epoch_coordinator.specs.Tails.{tail_of}
use Rattle.epoch_coordinator.specs.Members.{MemberState, sequence_of}
use Rattle.epoch_coordinator.specs.MemberSteps.{stamp_at}
use Rattle.replication_laws.specs.Cluster.{ClusterState, seat, member, Holds}
use Rattle.replication_laws.specs.Events.{ClusterStep, OfferStep, Offer, StoreOffset, AnyStep, Happens, Takes}
use Rattle.replication_laws.specs.Soundness.{AppendHolds, MessageHolds, IsSound}
use Rattle.replication_laws.specs.Properties.{IsLogProperty, IsKeptByOffers, KeepsAt, SoundWith, AllHave}
use Rattle.replication_laws.proofs.Meetings.{majorities}
use Rattle.replication_laws.proofs.Carry.{holds_log}
use Rattle.replication_laws.proofs.Sounds.{SentHolds}
use Rattle.replication_laws.proofs.Followers.{append_same}
use Rattle.replication_laws.proofs.Moves.{MoveOf, Stays, Opens, Falls_back, Adopts, held_begins}
use Rattle.replication_laws.proofs.Happenings.{letter_holds, event_goes}
use Rattle.replication_laws.proofs.Offerings.{OfferGoes, offer_chunks}

moved_has : (Q : List Chunk → Type 0) (canon : ℕ → List Chunk) (m n : MemberState) → IsLogProperty Q → ((e : ℕ) → Q (canon e)) → Q (sequence_of m) → MoveOf canon m n → Q (sequence_of n)
moved_has Q canon m n p all h (Stays e) = subst Q (sym e) h
moved_has Q canon m n p all h (Opens epoch stamp closed is e) = subst Q (sym e) (p.openings epoch stamp (sequence_of m) is h)
moved_has Q canon m n p all h (Falls_back closed q) = p.beginnings (sequence_of n) (sequence_of m) q h
moved_has Q canon m n p all h (Adopts e closed q) = p.beginnings (sequence_of n) (canon e) q (all e)

pub event_with : (Q : List Chunk → Type 0) (o now : ℕ) (w w' : ClusterState) → IsLogProperty Q → SoundWith Q o w → ClusterStep now w w' → SoundWith Q o w'
event_with Q o now w w' p h step =
    let x = event_goes h.tree o now w w' h.sound step in
    let n = x.next in
    let all : (e : ℕ) → Q (n.tree.canon e) = λ e. elim (n.after.sources e) [
      | inl q ↦ p.beginnings (n.tree.canon e) (h.tree.canon e) q (h.canon e)
      | inr q ↦ p.beginnings (n.tree.canon e) (sequence_of (member w q.0)) q.1 (h.each q.0)
    ] in
    record {
      tree = n.tree;
      sound = n.after.sound;
      reached = x.reached h.reached;
      canon = all;
      each = λ k. moved_has Q n.tree.canon (member w k) (member w' k) p all (h.each k) (n.moves k);
    }

offer_by : (Q : List Chunk → Type 0) (o : ℕ) (w w' : ClusterState) (h : SoundWith Q o w) (x : OfferGoes h.tree o w w') → (Q (sequence_of (member w x.leader)) → Q (sequence_of (member w x.leader) ++ x.chunks)) → SoundWith Q o w'
offer_by Q o w w' h x keeps = record {
  tree = h.tree;
  sound = x.after.sound;
  reached = x.reached h.reached;
  canon = h.canon;
  each = λ k. elim (cases_eq k x.leader) [
    | inl eq ↦ subst (λ (i : ℕ). Q (sequence_of (member w' i))) (sym eq) (subst Q (sym x.sequence) (keeps (h.each x.leader)))
    | inr ne ↦ subst (λ (m : MemberState). Q (sequence_of m)) (sym (x.others k ne)) (h.each k)
  ];
}

pub offer_with : (Q : List Chunk → Type 0) (o now : ℕ) (w w' : ClusterState) → SoundWith Q o w → (step : OfferStep now w w') → KeepsAt Q step → SoundWith Q o w'
offer_with Q o now w w' h step keeps = (let x = offer_chunks h.tree o now w w' h.sound step Q keeps in offer_by Q o w w' h x.0 x.1)

-- where each offer keeps it
pub kept_at : (Q : List Chunk → Type 0) {now : ℕ} {w w' : ClusterState} → IsKeptByOffers Q → (step : OfferStep now w w') → KeepsAt Q step
kept_at Q {now = now} {w = w} p (Offer epoch k name items runs right all eq) = p.offers epoch (stamp_at now) name (sequence_of (member w k)) items right all
kept_at Q {now = now} {w = w} p (StoreOffset epoch k name offset runs all eq) = p.offsets epoch (stamp_at now) name offset (sequence_of (member w k)) all

pub all_have : (Q : List Chunk → Type 0) (o : ℕ) (w : ClusterState) → IsLogProperty Q → SoundWith Q o w → AllHave Q w
all_have Q o w p h =
    let s = h.sound in
    let held : (k : ℕ) (x : List Chunk) → Holds (member w k) x → Q x = λ k x y. p.beginnings x (sequence_of (member w k)) (held_begins (member w k) x y) (h.each k) in
    let c = s.committed in
    let j = majorities (length w.seats) c.voters c.voters c.most c.most in
    let log = (member w j.0).log in
    let there = holds_log h.tree w j.0 (seat w j.0) (s.each_member j.0) in
    record {
      held = held;
      sequences = h.each;
      committed = p.beginnings w.committed log (c.held j.0 j.1 log there) (held j.0 log there);
      appends = λ k n e c m is same.
          let there : MessageHolds h.tree w m.to m.message = letter_holds (SentHolds h.tree w) n w.mail m s.each_letter is in
          let app : AppendHolds h.tree w e (tail_of (member w k).log) c = subst (MessageHolds h.tree w m.to) same there in
          let q : GoesOn ((member w k).log ++ c ∷ []) (h.tree.canon c.epoch) = subst (λ (x : List Chunk). GoesOn (x ++ c ∷ []) (h.tree.canon c.epoch)) (append_same h.tree w o k e c s app) app.begins in
          p.beginnings ((member w k).log ++ c ∷ []) (h.tree.canon c.epoch) q (h.canon c.epoch);
    }

pub with_sound : (Q : List Chunk → Type 0) (o : ℕ) (w : ClusterState) → SoundWith Q o w → IsSound o w
with_sound Q o w h = record { tree = h.tree; sound = h.sound; reached = h.reached }

-- any step, for a property that every offer keeps
pub step_with : (Q : List Chunk → Type 0) (o : ℕ) (w w' : ClusterState) → IsLogProperty Q → IsKeptByOffers Q → SoundWith Q o w → AnyStep w w' → SoundWith Q o w'
step_with Q o w w' p q h (Happens now step) = event_with Q o now w w' p h step
step_with Q o w w' p q h (Takes now step) = offer_with Q o now w w' h step (kept_at Q q step)
