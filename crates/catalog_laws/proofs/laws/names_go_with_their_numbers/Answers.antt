use Rattle.catalog_laws.proofs.Going.{own_gone, each_gone, others_stay, none_stays}
use Rattle.catalog_laws.proofs.laws.names_go_with_their_numbers.Goals as goal

pub returns : goal.returns
returns c = record { own = own_gone; each = each_gone; others = others_stay; none = none_stays }
