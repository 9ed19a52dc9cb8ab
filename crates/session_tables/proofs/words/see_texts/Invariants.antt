use Rattle.frame_wire.specs.Fields.{IsText}
use Rattle.session_tables.proofs.Rows.{SeenSo}
use Rattle.session_tables.proofs.words.see_texts.Given as goal

abbrev pub invariant-names : goal.invariant-names
invariant-names l = SeenSo IsText l.fn.names l.name-index
