-- What a session says unasked.
use Rattle.std.specs.Prelude.{List, Option, None, Some, Bool, true, false, if◌then◌else◌}
use Rattle.hub_terms.specs.Programs.{Program, done}
use Rattle.session_tables.specs.declared.tables.SessionEnd.{SessionEnd}
use Rattle.session_tables.specs.declared.tables.Stage.{Stage}
use Rattle.session_tables.specs.declared.tables.Stage.TheVariants as stages
use Rattle.session_tables.specs.declared.tables.Tables.{Tables}
use Rattle.session_core.specs.declared.unasked.Unasked.{Unasked}
use Rattle.session_core.specs.Speaking.{Spoken, spoken, goes_on}
use Rattle.session_core.specs.Confirming.{confirms_row}
use Rattle.session_core.specs.Ending.{streams_row}
use Rattle.session_core.specs.Turning.{turns_row}
use Rattle.session_core.specs.Delivering.{slots_row}

-- the connection is open, and the session hasn't ended
abbrev pub is_open : Option SessionEnd → Stage → Bool
is_open None stages.Open = true
is_open None other = false
is_open (Some how) stage = false

-- the confirms; then the epochs that ended; then the turns of consumers; then the deliveries
abbrev pub open_row : Tables → List Unasked → Program Spoken
open_row t said =
    goes_on (confirms_row t said) (λ a.
    goes_on (streams_row a.tables.streams a.tables a.said) (λ b.
    goes_on (turns_row 256 b.tables b.said) (λ c.
    slots_row 256 0 c.tables c.said)))

abbrev pub poll_row : Tables → List Unasked → Program Spoken
poll_row t said = if is_open t.ended t.stage then open_row t said else done (spoken said t)
