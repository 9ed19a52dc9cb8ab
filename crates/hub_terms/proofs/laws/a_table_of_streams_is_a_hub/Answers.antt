use Rattle.hub_terms.proofs.TableLaws.{table_laws}
use Rattle.hub_terms.proofs.laws.a_table_of_streams_is_a_hub.Goals as goal

pub returns : goal.returns
returns c = table_laws
