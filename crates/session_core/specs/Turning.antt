-- The turns of consumers: each change of its group is asked of a consumer.
use Rattle.std.specs.Prelude.{ℕ, zero, suc, Bool, false, List, [], ◌∷◌, ◌++◌, position, Option, None, Some}
use Rattle.active_groups.specs.declared.consumer.Change.{Change}
use Rattle.hub_terms.specs.Calls.{Changing}
use Rattle.hub_terms.specs.Programs.{Program, done, asking}
use Rattle.session_tables.specs.Opening.{next_asked}
use Rattle.session_tables.specs.Subscribing.{asked_by, slot, put_slot}
use Rattle.session_tables.specs.declared.tables.Subscription.{Subscription}
use Rattle.session_tables.specs.declared.tables.Tables.{Tables}
use Rattle.session_core.specs.declared.unasked.Unasked.{Unasked}
use Rattle.session_core.specs.declared.unasked.Unasked.TheVariants as say
use Rattle.session_core.specs.Speaking.{Spoken, spoken}

-- the subscription whose consumer has this serial
abbrev pub is_consumer : ℕ → Option Subscription → Bool
is_consumer serial None = false
is_consumer serial (Some s) = asked_by serial s.single

-- its update of this correlation waits for an answer
abbrev pub asked_slot : ℕ → Option Subscription → Option Subscription
asked_slot corr None = None
asked_slot corr (Some s) = Some (record s { update = Some corr })

-- the subscription of an id is asked to be active, or to stop, with the server's next correlation
abbrev pub asks : Tables → List Unasked → Bool → ℕ → Spoken
asks t said active id =
    spoken (said ++ say.Update (next_asked t.asked) id active ∷ []) (put_slot id (asked_slot (next_asked t.asked) (slot id t)) (record t { asked = next_asked t.asked }))

abbrev pub turned_at : Tables → List Unasked → Bool → Option ℕ → Spoken
turned_at t said active None = spoken said t
turned_at t said active (Some id) = asks t said active id

abbrev pub turned : Tables → List Unasked → Change → Spoken
turned t said change = turned_at t said change.active (position (is_consumer change.consumer.serial) t.subscriptions)

abbrev pub turn_by : (Tables → List Unasked → Program Spoken) → Tables → List Unasked → Option Change → Program Spoken
turn_by more t said None = done (spoken said t)
turn_by more t said (Some change) = more (turned t said change).tables (turned t said change).said

-- change after change, up to this many
unfoldable pub turns_row : ℕ → Tables → List Unasked → Program Spoken
turns_row zero t said = done (spoken said t)
turns_row (suc n) t said = asking (Changing t.number) (turn_by (turns_row n) t said)
