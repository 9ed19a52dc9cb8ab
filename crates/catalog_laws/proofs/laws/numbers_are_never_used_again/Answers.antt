use Rattle.catalog_laws.proofs.NumberLaws.{all_rise, gone_all}
use Rattle.catalog_laws.proofs.laws.numbers_are_never_used_again.Goals as goal

pub returns : goal.returns
returns c = record { rise = all_rise; gone = gone_all }
