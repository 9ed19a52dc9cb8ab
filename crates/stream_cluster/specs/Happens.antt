-- What an event does to a stream.
use Rattle.std.specs.Prelude.{ℕ, ◌==◌, if◌then◌else◌}
use Rattle.segment_store.specs.Receipts.{JobDone}
use Rattle.cluster_core.specs.declared.outcome.Outcome.{Outcome}
use Rattle.cluster_core.specs.declared.outcome.Outcome.TheVariants.{Did, Nothing}
use Rattle.cluster_core.specs.States.{ReplicaState, Gives, elect_due, deliver_due, lose_due, done_due, stop_due, reopen_due}
use Rattle.cluster_core.specs.Kept.{after_elect, after_deliver, after_lose, after_forget, after_nudge, after_done, after_stop, after_reopen}
use Rattle.stream_cluster.specs.declared.event.Event.{Event}
use Rattle.stream_cluster.specs.declared.event.Event.TheVariants as events
use Rattle.stream_cluster.specs.Restarts.{RestartGives}

-- a stream by its number, and its members
pub record StreamState : Type 0 where
  pub number : ℕ
  pub state : ReplicaState

-- a receipt of another stream is of no job here
abbrev pub receipt_due : JobDone → StreamState → Outcome
receipt_due r s = if r.stream == s.number then done_due r.member r.number s.state else Nothing

-- what an event does, and what comes of it
abbrev pub EventGives : Event → ℕ → Outcome → StreamState → ReplicaState → Type 0
EventGives events.Elect now result old new = Gives (elect_due old.state.cluster) result old.state new (after_elect old.state)
EventGives (events.Deliver number) now result old new = Gives (deliver_due number old.state.cluster) result old.state new (after_deliver number now old.state)
EventGives (events.Lose number) now result old new = Gives (lose_due number old.state.cluster) result old.state new (after_lose number old.state)
EventGives events.Forget now result old new = Gives Did result old.state new (after_forget old.state)
EventGives events.Nudge now result old new = Gives Did result old.state new (after_nudge old.state)
EventGives (events.Done receipt) now result old new = Gives (receipt_due receipt old) result old.state new (after_done receipt.member old.state)
EventGives (events.Stop member) now result old new = Gives (stop_due member old.state.cluster) result old.state new (after_stop member old.state)
EventGives (events.Restart found) now result old new = RestartGives found.member found.promise found.chunks result old.state new
EventGives (events.Reopen epoch) now result old new = Gives (reopen_due epoch old.state.cluster) result old.state new (after_reopen epoch old.state)

-- a stream of a number, with these members
abbrev pub numbered_state : ℕ → ReplicaState → StreamState
numbered_state number state = record { number = number; state = state }
