use Rattle.std.proofs.Common.{◌∙◌, ap, sym, List, ℕ}
use Rattle.indexmap.specs.IndexMap.{insert_entry}
use Rattle.chunk_format.specs.ByName.{same_name}
use Rattle.tracking_state.proofs.Pairs.{pairs, put_there, put_new}
use Rattle.tracking_state.proofs.named.Named.put.Goals as goal

pub returns-in-Some-clause-ok : goal.returns-in-Some-clause-ok
returns-in-Some-clause-ok g c =
    put_there c.args.name.now c.args.value c.self.inside.values.entries c.in-Some.index (sym c.in-Some.ensures.index)
    ∙ ap (λ l. insert_entry same_name l c.args.name.now c.args.value) c.self.view_is

pub returns-clause-ok : goal.returns-clause-ok
returns-clause-ok g c =
    ap pairs c.in_ok-insert.ensures.entries
    ∙ put_new c.in_ok-key.key c.args.value c.self.inside.values.entries
    ∙ ap (λ (n : List ℕ). insert_entry same_name (pairs c.self.inside.values.entries) n c.args.value) c.in_ok-key.ensures.items
    ∙ ap (λ l. insert_entry same_name l c.args.name.now c.args.value) c.self.view_is
