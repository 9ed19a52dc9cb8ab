use Rattle.chunk_format.proofs.BareLaws.{bare_in_stays, tally_join}
use Rattle.chunk_format.proofs.laws.entries_without_a_tag_stay.Goals as goal

pub returns : goal.returns
returns c = record { stays = bare_in_stays; counted = tally_join }
