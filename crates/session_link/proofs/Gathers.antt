-- What is due in a turn.
use Rattle.std.proofs.Common.{◌≡◌, List, [], Bool, true, false, if◌then◌else◌, refl, sym, ap, subst}
use Rattle.std.specs.List.{AllByRecursion}
use Rattle.hub_terms.specs.Meaning.{HubMeaning}
use Rattle.hub_terms.specs.Programs.{Runs, done}
use Rattle.session_tables.specs.declared.tables.Tables.{Tables}
use Rattle.session_core.specs.declared.unasked.Unasked.{Unasked}
use Rattle.session_core.specs.Delivered.{PollAdds}
use Rattle.session_core.specs.Outgoing.{IsSayableUnasked}
use Rattle.session_core.specs.Polling.{is_open, open_row}
use Rattle.session_core.specs.Sessions.{SessionState, PollGives}
use Rattle.session_core.specs.Speaking.{Spoken, spoken}
use Rattle.session_core.proofs.Sayable.{poll_sayable}

-- a poll of a session that isn't open says nothing
closed_said : {S : Type 0} (m : HubMeaning S) (t new : Tables) (said : List Unasked) (h0 h1 : S) (is : Bool) → Runs m (if is then open_row t [] else done (spoken [] t)) h0 (spoken said new) h1 → is ≡ false → said ≡ []
closed_said m t new said h0 h1 true run shut = absurd cc
closed_said m t new said h0 h1 false run shut = ap (λ (s : Spoken). s.said) run.0

sayable_by : {S : Type 0} (m : HubMeaning S) (old new : SessionState) (said : List Unasked) (h0 h1 : S) (is : Bool) → is_open old.tables.ended old.tables.stage ≡ is
    → PollGives m old said new h0 h1 → (is_open old.tables.ended old.tables.stage ≡ true → PollAdds m old.tables new.tables [] said h0 h1) → AllByRecursion IsSayableUnasked said
sayable_by m old new said h0 h1 true e gives adds = let a = adds e in subst (AllByRecursion IsSayableUnasked) (sym a.wrote) (poll_sayable m.seen old.tables h1 a.said a.causes)
sayable_by m old new said h0 h1 false e gives adds = subst (AllByRecursion IsSayableUnasked) (sym (closed_said m old.tables gives.polled said h0 h1 (is_open old.tables.ended old.tables.stage) gives.run e)) tt

-- what a poll says can be spelled
pub said_sayable : {S : Type 0} (m : HubMeaning S) (old new : SessionState) (said : List Unasked) (h0 h1 : S)
    → PollGives m old said new h0 h1 → (is_open old.tables.ended old.tables.stage ≡ true → PollAdds m old.tables new.tables [] said h0 h1) → AllByRecursion IsSayableUnasked said
said_sayable m old new said h0 h1 gives adds = sayable_by m old new said h0 h1 (is_open old.tables.ended old.tables.stage) refl gives adds
