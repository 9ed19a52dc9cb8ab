-- A stream over its members, as those that use it see it.
use Rattle.std.specs.Prelude.{ℕ, List, [], ◌++◌, length, drop, Option, Some, None}
use Rattle.std.specs.List.{filter}
use Rattle.chunk_format.specs.declared.chunk.Chunk.{Chunk}
use Rattle.epoch_coordinator.specs.Members.{sequence_of}
use Rattle.replication_laws.specs.Cluster.{ClusterState, member}
use Rattle.stream_terms.specs.declared.terms.Given.{Given}
use Rattle.stream_terms.specs.declared.terms.Waits.{Waits}
use Rattle.stream_terms.specs.Views.{StreamView}
use Rattle.stream_terms.specs.Steps.{is_reached, still_waits}
use Rattle.cluster_core.specs.Up.{running, leader_by}

-- behind the committed list stands the rest of the sequence of the leader, while an epoch runs
abbrev pub queue_by : Option ℕ → ClusterState → List Chunk
queue_by None w = []
queue_by (Some epoch) w = drop (length w.committed) (sequence_of (member w (leader_by w.coordinator.phase)))

abbrev pub seen : ℕ → ClusterState → List Given → List Waits → List Waits → StreamView
seen number w passes waiting ready = record {
  number = number;
  chunks = w.committed;
  queue = queue_by (running w) w;
  running = running w;
  passes = passes;
  waiting = waiting;
  ready = ready;
}

-- what the list now reaches is ready, and of the rest what is of the running epoch waits on
abbrev pub seen_after : ℕ → ClusterState → List Given → List Waits → List Waits → StreamView
seen_after number w passes waiting ready = seen number w passes (filter (still_waits w.committed (running w)) waiting) (ready ++ filter (is_reached w.committed) waiting)
