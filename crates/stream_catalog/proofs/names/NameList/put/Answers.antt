use Rattle.std.proofs.Common.{◌∙◌, ◌≡◌, ap, ◌++◌, ◌∷◌, [], None, List, ℕ}
use Rattle.stream_catalog.specs.Names.{Names, holder_of}
use Rattle.stream_catalog.proofs.Entries.{pairs, put_behind}
use Rattle.stream_catalog.proofs.names.NameList.put.Goals as goal

pub returns-clause-list : goal.returns-clause-list
returns-clause-list c =
    let none : holder_of c.in_ok-key.key.items (record { list = pairs c.self.inside.held.entries; last = c.self.inside.last }) ≡ None =
    ap (λ (name : List ℕ). holder_of name (record { list = pairs c.self.inside.held.entries; last = c.self.inside.last })) c.in_ok-key.ensures.items ∙ ap (λ (n : Names). holder_of c.args.name.now n) c.self.view_is ∙ c.requires in
    ap pairs c.in_ok-insert.ensures.entries
    ∙ put_behind c.in_ok-key.key c.args.holder c.self.inside.held.entries none
    ∙ ap (λ (name : List ℕ). pairs c.self.inside.held.entries ++ (name, c.args.holder) ∷ []) c.in_ok-key.ensures.items
    ∙ ap (λ (n : Names). n.list ++ (c.args.name.now, c.args.holder) ∷ []) c.self.view_is
