-- Why a poll tells that an epoch ended, and asks a consumer to turn.
use Rattle.std.specs.Prelude.{◌≡◌, ℕ, Bool, true, List, ◌++◌, Some}
use Rattle.std.specs.List.{AllByRecursion}
use Rattle.active_groups.specs.declared.consumer.Change.{Change}
use Rattle.stream_terms.specs.Views.{name_of}
use Rattle.hub_terms.specs.declared.terms.Found.{Found}
use Rattle.hub_terms.specs.Calls.{Words, Finding, Changing}
use Rattle.hub_terms.specs.Meaning.{HubMeaning}
use Rattle.hub_terms.specs.Programs.{Runs}
use Rattle.session_tables.specs.Subscribing.{slot}
use Rattle.session_tables.specs.declared.tables.Subscription.{Subscription}
use Rattle.session_tables.specs.declared.tables.Tables.{Tables}
use Rattle.session_core.specs.declared.unasked.Unasked.{Unasked}
use Rattle.session_core.specs.declared.unasked.Unasked.TheVariants as say
use Rattle.session_core.specs.Ending.{running_on, has_over}
use Rattle.session_core.specs.Speaking.{spoken}
use Rattle.session_core.specs.Polling.{poll_row}

-- Some publisher or subscription that the session had is on a stream of this name, and of another epoch than the one that runs there, as the hub said on
-- the way.
pub record EpochEnded {S : Type 0} (m : HubMeaning S) (t : Tables) (name : Words) (h0 h1 : S) : Type 0 where
  pub stream : ℕ
  pub found : Found
  pub before : S
  pub after : S
  pub asked : m.does (Finding (name_of name)) before found after
  pub over : has_over stream (running_on stream found) t ≡ true
  pub since : m.seen.later h0 before
  pub until : m.seen.later after h1

-- The hub handed out this change on the way, of the consumer of the subscription that the session had under this id.
pub record TurnCame {S : Type 0} (m : HubMeaning S) (t : Tables) (id : ℕ) (active : Bool) (h0 h1 : S) : Type 0 where
  pub change : Change
  pub before : S
  pub after : S
  pub subscription : Subscription
  pub handed : m.does (Changing t.number) before (Some change) after
  pub same : change.active ≡ active
  pub there : slot id t ≡ Some subscription
  pub of_it : subscription.single ≡ Some change.consumer.serial
  pub since : m.seen.later h0 before
  pub until : m.seen.later after h1

abbrev pub IsCalledFor : {S : Type 0} → HubMeaning S → Tables → S → S → Unasked → Type 0
IsCalledFor m t h0 h1 (say.MetadataUpdate name) = EpochEnded m t name h0 h1
IsCalledFor m t h0 h1 (say.Update corr id active) = TurnCame m t id active h0 h1
IsCalledFor m t h0 h1 (say.Confirm id ids) = Unit {0}
IsCalledFor m t h0 h1 (say.Deliver id committed c) = Unit {0}

-- what a poll adds is called for
abbrev pub SaidIsCalledFor : {S : Type 0} → HubMeaning S → Type 0
SaidIsCalledFor {S} m =
    (t new : Tables) (out out1 : List Unasked) (h0 h1 : S) → Runs m (poll_row t out) h0 (spoken out1 new) h1
    → (said : List Unasked) × (out1 ≡ out ++ said) × AllByRecursion (IsCalledFor m t h0 h1) said
