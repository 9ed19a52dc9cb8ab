-- What an accepted declaration's words are.
use Rattle.std.proofs.Common.{◌≡◌, ℕ, List, Option, Some, None, false, arith}
use Rattle.stream_terms.specs.Views.{name_of}
use Rattle.hub_terms.specs.Meaning.{IsShortName}
use Rattle.session_tables.specs.Publishing.{is_refused}
use Rattle.session_tables.specs.declared.publishers.Publisher.{Publisher}

pub short_reference : (id stream : ℕ) (reference : Option (List ℕ)) (ps : List Publisher) → is_refused id stream (name_of reference) ps ≡ false → IsShortName reference
short_reference id stream None ps e = tt
short_reference id stream (Some name) ps e = grind arith
