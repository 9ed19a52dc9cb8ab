-- What a session says unasked, and conversations with a hub one after the other.
use Rattle.std.specs.Prelude.{List}
use Rattle.hub_terms.specs.Programs.{Program, done, asking, lost}
use Rattle.session_tables.specs.declared.tables.Tables.{Tables}
use Rattle.session_core.specs.declared.unasked.Unasked.{Unasked}

-- what was said so far, and what is kept then
pub record Spoken : Type 0 where
  pub said : List Unasked
  pub tables : Tables

abbrev pub spoken : List Unasked → Tables → Spoken
spoken said t = record { said = said; tables = t }

-- a conversation, and with what came of it the next one
abbrev pub goes_on : {A B : Type 0} → Program A → (A → Program B) → Program B
goes_on (done a) next = next a
goes_on (asking c k) next = asking c (λ r. goes_on (k r) next)
goes_on lost next = lost
