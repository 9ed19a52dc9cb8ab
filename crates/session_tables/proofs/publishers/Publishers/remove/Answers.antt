use Rattle.std.proofs.Common.{◌≡◌, ◌∙◌, ap, rules}
use Rattle.std.proofs.lemmas.Fn.{filter_same}
use Rattle.session_tables.specs.Publishing.{without_publisher}
use Rattle.session_tables.proofs.publishers.Publishers.remove.Goals as goal

pub returns : goal.returns
returns c =
    let kept : c.retain.new.self.items ≡ without_publisher c.args.id c.self.inside.list.items = filter_same _ _ _ (λ x b f' k. search rules) _ _ c.retain.ensures.filtered in
    kept ∙ ap (without_publisher c.args.id) c.self.view_is
