-- What a stream does by itself, as those that use it see it.
use Rattle.std.proofs.Common.{◌≡◌, ℕ, List, ◌++◌, length, drop, Option, Some, refl, sym, ap, append_assoc, ◌∙◌}
use Rattle.chunk_format.specs.declared.chunk.Chunk.{Chunk}
use Rattle.chunk_format.specs.Logs.{Truthful}
use Rattle.epoch_coordinator.specs.Members.{sequence_of}
use Rattle.replication_laws.specs.Cluster.{ClusterState, Reign, member, RunsWith}
use Rattle.replication_laws.specs.Events.{Happens}
use Rattle.replication_laws.proofs.Claims.{sequence_stays, committed_in}
use Rattle.replication_laws.proofs.Joined.{step_sound}
use Rattle.replication_laws.proofs.Properties.{with_sound}
use Rattle.stream_terms.specs.declared.terms.Given.{Given}
use Rattle.stream_terms.specs.declared.terms.Waits.{Waits}
use Rattle.stream_terms.specs.Steps.{MoveStep}
use Rattle.cluster_core.specs.Up.{running, leader_by}
use Rattle.cluster_core.specs.States.{IsStream, Happened, reigned}
use Rattle.cluster_core.specs.Seen.{queue_by, seen, seen_after}
use Rattle.cluster_core.proofs.Running.{runs}
use Rattle.cluster_core.proofs.Lists.{drop_front}

runs_reigned : (rs : List Reign) (w : ClusterState) (epoch leader : ℕ) → RunsWith w epoch leader → RunsWith (reigned rs w) epoch leader
runs_reigned rs w epoch leader r = record {
  coordinated = r.coordinated;
  phase = r.phase;
  epoch_is = r.epoch_is;
  is_member = r.is_member;
  leader_up = r.leader_up;
  promised = r.promised;
  is_open = r.is_open;
}

-- the rest of a sequence, of which more is committed
in_parts : (committed more rest behind sequence after : List Chunk) → sequence ≡ committed ++ rest → after ≡ (committed ++ more) ++ behind → after ≡ sequence → drop (length committed) sequence ≡ more ++ drop (length (committed ++ more)) after
in_parts committed more rest behind sequence after p q e =
    ap (drop (length committed)) (sym e ∙ q ∙ append_assoc committed more behind)
    ∙ drop_front committed (more ++ behind)
    ∙ ap (λ (z : List Chunk). more ++ z) (sym (ap (drop (length (committed ++ more))) q ∙ drop_front (committed ++ more) behind))

queue_moves : (now epoch : ℕ) (w w' : ClusterState) (more : List Chunk) → IsStream w → Happened now w w' → w'.committed ≡ w.committed ++ more → running w ≡ Some epoch → running w' ≡ Some epoch → queue_by (Some epoch) w ≡ more ++ queue_by (Some epoch) w'
queue_moves now epoch w w' more h step grown before after =
    let s = step h.reigns in
    let old = reigned h.reigns w in
    let new = reigned (s.0 ++ h.reigns) w' in
    let k = leader_by w.coordinator.phase in
    let l = leader_by w'.coordinator.phase in
    let sound = with_sound Truthful h.opened old h.sound in
    let r = runs_reigned h.reigns w epoch k (runs w epoch before) in
    let r' = runs_reigned (s.0 ++ h.reigns) w' epoch l (runs w' epoch after) in
    let same = sequence_stays h.opened now epoch k l old new sound s.1 r r' in
    let front = committed_in h.opened epoch k old sound r in
    let front' = committed_in h.opened epoch l new (step_sound h.opened old new sound (Happens now s.1)) r' in
    in_parts w.committed more front.0 front'.0 (sequence_of (member w k)) (sequence_of (member w' l)) front.1 (front'.1 ∙ ap (λ (z : List Chunk). z ++ front'.0) grown) same.1
    ∙ ap (λ (n : ℕ). more ++ drop n (sequence_of (member w' l))) (sym (ap length grown))

pub moves : (now number : ℕ) (w w' : ClusterState) (more : List Chunk) (passes : List Given) (waiting ready : List Waits) → IsStream w → Happened now w w' → w'.committed ≡ w.committed ++ more
    → MoveStep (seen number w passes waiting ready) more (seen_after number w' passes waiting ready)
moves now number w w' more passes waiting ready h step grown = record {
  number = refl;
  chunks = grown;
  in_order = λ epoch before after.
      ap (λ (r : Option ℕ). queue_by r w) before ∙ queue_moves now epoch w w' more h step grown before after ∙ ap (λ (z : List Chunk). more ++ z) (sym (ap (λ (r : Option ℕ). queue_by r w') after));
  passes = refl;
  ready = refl;
  waiting = refl;
}
