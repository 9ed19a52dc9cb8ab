use Rattle.std.proofs.Common.{◌≡◌, ◌∙◌, ap, rules}
use Rattle.std.proofs.lemmas.Fn.{filter_same}
use Rattle.session_tables.specs.Publishing.{without_ended}
use Rattle.session_tables.proofs.publishers.Publishers.end.Goals as goal

pub returns : goal.returns
returns c =
    let kept : c.retain.new.self.items ≡ without_ended c.args.stream c.args.running c.self.inside.list.items = filter_same _ _ _ (λ x b f' k. search rules) _ _ c.retain.ensures.filtered in
    kept ∙ ap (without_ended c.args.stream c.args.running) c.self.view_is
