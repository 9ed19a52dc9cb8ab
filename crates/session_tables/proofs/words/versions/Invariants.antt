use Rattle.session_tables.specs.Spelling.{version_of}
use Rattle.session_tables.proofs.Rows.{MadeSo}
use Rattle.session_tables.proofs.words.versions.Given as goal

abbrev pub invariant-keys : goal.invariant-keys
invariant-keys l = MadeSo version_of l.fn.keys l.key-index l.row
