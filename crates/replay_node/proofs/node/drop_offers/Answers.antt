use Rattle.std.proofs.Common.{◌==◌, not, rules}
use Rattle.std.proofs.lemmas.Fn.{filter_same}
use Rattle.replay_node.specs.declared.session.Offer.{Offer}
use Rattle.replay_node.proofs.node.drop_offers.Goals as goal

pub returns : goal.returns
returns c = filter_same _ (λ (offer : Offer). not (offer.connection == c.args.connection)) _ (λ x b f h. (search rules, search rules)) _ _ c.retain.ensures.filtered
