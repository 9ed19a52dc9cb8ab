-- What objects in memory whose listed calls fail are seen as.
use Rattle.std.specs.Prelude.{◌≡◌, ℕ, Bool, List}
use Rattle.std.specs.List.{Contains}
use Rattle.outside_io.specs.Causes.{next_count}
use Rattle.outside_io.specs.declared.source.Took.{Took}
use Rattle.outside_io.specs.declared.source.Took.TheVariants as took
use Rattle.outside_io.specs.declared.link.Hearing.{Hearing}

-- the numbers, from 1, of the calls that fail, the calls so far, and how many of them failed
pub record PlanState : Type 0 where
  pub fails : List ℕ
  pub calls : ℕ
  pub faults : ℕ

-- a source: the bytes left, and the calls that fail, all calls and the failures as above
pub record SourceState : Type 0 where
  pub left : List ℕ
  pub fails : List ℕ
  pub calls : ℕ
  pub faults : ℕ

-- a sink: the bytes written, and the calls that fail, all calls and the failures as above
pub record SinkState : Type 0 where
  pub written : List ℕ
  pub fails : List ℕ
  pub calls : ℕ
  pub faults : ℕ

-- a link: the bytes that are still to come, the receives that answer Quiet, and those that fail; the answers so far, and
-- whether Ended was one; the bytes sent, and the sends that fail
pub record LinkState : Type 0 where
  pub left : List ℕ
  pub quiets : List ℕ
  pub receives : PlanState
  pub heard : List Hearing
  pub has_ended : Bool
  pub sends : SinkState

-- a listener: the links that it is still to hand out, whether it has answered Ended, and the accepts that fail
pub record ListenerState (L : Type 0) : Type 0 where
  pub links : List L
  pub has_ended : Bool
  pub accepts : PlanState

-- a spawner: the one that it starts through, and the starts that fail
pub record SpawnerState (P : Type 0) : Type 0 where
  pub inner : P
  pub starts : PlanState

-- after this many calls, the next is one of those that fail
abbrev pub FailsNext : List ℕ → ℕ → Type 0
FailsNext fails calls = Contains fails (next_count calls)

-- a call: it was counted, and so was its failure, if it failed
pub record Counts (old new : PlanState) (Failed : Type 0) : Type 0 where
  pub fails : new.fails ≡ old.fails
  pub calls : new.calls ≡ next_count old.calls
  pub faulted : Failed → new.faults ≡ next_count old.faults
  pub unfaulted : ¬ Failed → new.faults ≡ old.faults

-- how many bytes a read gave
abbrev pub count_of : Took → ℕ
count_of (took.Got n) = n
count_of took.End = 0
count_of took.Failed = 0
