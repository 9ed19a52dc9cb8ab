-- How a session beats and ends.
use Rattle.std.specs.Prelude.{◌≡◌, ℕ, List, [], ◌∷◌, Option, Some, None}
use Rattle.hub_terms.specs.Calls.{Leaving}
use Rattle.hub_terms.specs.Meaning.{HubMeaning}
use Rattle.hub_terms.specs.Programs.{Program, asking}
use Rattle.session_tables.specs.Beating.{seen_at, ticked, beats}
use Rattle.session_tables.specs.Opening.{Outcome, says, silent}
use Rattle.session_tables.specs.declared.moments.Pulse.{Pulse}
use Rattle.session_tables.specs.declared.moments.Pulse.TheVariants as pulses
use Rattle.session_tables.specs.declared.reply.Reply.TheVariants as say
use Rattle.session_tables.specs.declared.tables.SessionEnd.{SessionEnd}
use Rattle.session_tables.specs.declared.tables.SessionEnd.TheVariants as ends
use Rattle.session_tables.specs.declared.tables.Subscription.{Subscription}
use Rattle.session_tables.specs.declared.tables.Tables.{Tables}
use Rattle.session_core.specs.Consuming.{consumer}
use Rattle.session_core.specs.Ends.{is_quiet}

-- ---- a tick

abbrev pub by_pulse : Tables → Pulse → Outcome
by_pulse t pulses.Still = silent t
by_pulse t pulses.Beat = says t say.Heartbeat
by_pulse t pulses.Silent = silent (record t { ended = Some ends.Silent })

abbrev pub tick_of : ℕ → Tables → Option SessionEnd → Outcome
tick_of now t None = by_pulse (record t { moments = ticked now t.moments }) (beats (seen_at now t.moments))
tick_of now t (Some how) = silent t

-- a session that has ended does nothing
abbrev pub at_tick : ℕ → Tables → Outcome
at_tick now t = tick_of now t t.ended

-- ---- the end

-- once it has ended it stays so
abbrev pub ends_if : SessionEnd → Tables → Option SessionEnd → Tables
ends_if how t None = record t { ended = Some how }
ends_if how t (Some first) = t

abbrev pub ends_by : SessionEnd → Tables → Tables
ends_by how t = ends_if how t t.ended

-- what leaving a group does, where there is one to leave
abbrev pub Left : {S : Type 0} → HubMeaning S → Tables → Option ℕ → S → S → Type 0
Left m t None old new = new ≡ old
Left m t (Some serial) old new = m.does (Leaving (consumer t serial)) old tt new

-- this consumer leaves its group, if there is one, and then the others
abbrev pub leaves_then : Tables → Option ℕ → Program Outcome → Program Outcome
leaves_then t None rest = rest
leaves_then t (Some serial) rest = asking (Leaving (consumer t serial)) (λ (u : Unit {0}). rest)

abbrev pub single_of : Option Subscription → Option ℕ
single_of None = None
single_of (Some s) = s.single

abbrev pub all_leave : Tables → List (Option Subscription) → Program Outcome
all_leave t [] = is_quiet (ends_by ends.PeerEnded t)
all_leave t (s ∷ more) = leaves_then t (single_of s) (all_leave t more)

-- the link ended: each consumer of the session leaves its group
abbrev pub link_ended_row : Tables → Program Outcome
link_ended_row t = all_leave t t.subscriptions
