-- A stream with what it does for those that use it: the passes that it gave, and the offers that wait for confirms.
use Rattle.std.specs.Prelude.{◌≡◌, ℕ, List, [], ◌++◌}
use Rattle.std.specs.List.{AllByRecursion}
use Rattle.frame_wire.specs.declared.limits.Limits.{Limits}
use Rattle.chunk_format.specs.declared.chunk.Chunk.{Chunk}
use Rattle.replication_laws.specs.Cluster.{ClusterState}
use Rattle.replication_laws.specs.Confirms.{Awaits}
use Rattle.replication_laws.specs.Confirms as claims
use Rattle.stream_terms.specs.declared.terms.Given.{Given}
use Rattle.stream_terms.specs.declared.terms.Waits.{Waits}
use Rattle.stream_terms.specs.Views.{StreamView, StreamHolds}
use Rattle.stream_terms.specs.Steps.{MoveStep}
use Rattle.stream_passes.specs.Parts.{PassesState, parts}
use Rattle.cluster_core.specs.Seen.{seen}
use Rattle.cluster_core.specs.States.{ReplicaState, IsStream}
use Rattle.stream_cluster.specs.Happens.{StreamState, numbered_state}

pub record ServedState : Type 0 where
  pub number : ℕ
  -- the limits of what its leader takes
  pub limits : Limits
  pub state : ReplicaState
  -- the passes that were given
  pub passes : List Given
  -- offers whose ends the committed list doesn't reach
  pub waiting : List Waits
  -- those that it reaches, and that are to be confirmed
  pub ready : List Waits

abbrev pub served : Limits → ReplicaState → PassesState → ServedState
served limits state p = record { number = p.number; limits = limits; state = state; passes = p.passes; waiting = p.waiting; ready = p.ready }

-- no pass was given
abbrev pub served_first : ℕ → Limits → ReplicaState → ServedState
served_first number limits state = served limits state (parts number [] [] [])

abbrev pub parts_of : ServedState → PassesState
parts_of s = parts s.number s.passes s.waiting s.ready

-- as those that use it see it
abbrev pub view_of : ServedState → StreamView
view_of s = seen s.number s.state.cluster s.passes s.waiting s.ready

-- its number and its members alone
abbrev pub members_of : ServedState → StreamState
members_of s = numbered_state s.number s.state

-- ---- what holds of it

-- what the confirm of an offer claims of the list
abbrev pub claim_of : Waits → List Chunk → Type 0
claim_of x = claims.Caused x.given.name x.ids x.entries x.from x.end

-- an offer waits: the epoch of its pass runs with an open leader, and its claim stands in that leader's sequence, past the committed list
abbrev pub OfferAwaits : ClusterState → Waits → Type 0
OfferAwaits w x = Awaits (claim_of x) x.given.pass.epoch x.end w

pub record IsServed (s : ServedState) : Type 0 where
  pub stream : IsStream s.state.cluster
  pub holds : StreamHolds (view_of s) []
  pub awaits : AllByRecursion (OfferAwaits s.state.cluster) s.waiting

-- ---- what an event does

-- The list goes on by some chunks, and for those that use the stream that is a move.
pub record Moves (old new : ServedState) : Type 0 where
  pub more : List Chunk
  pub grown : new.state.cluster.committed ≡ old.state.cluster.committed ++ more
  pub step : MoveStep (view_of old) more (view_of new)
  pub limits : new.limits ≡ old.limits
