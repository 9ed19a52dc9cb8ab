use Rattle.chunk_format.proofs.NameLaws.{seen_push}
use Rattle.chunk_format.proofs.laws.names_stand_where_they_are_first.Goals as goal

pub returns : goal.returns
returns c = seen_push
