use Rattle.std.proofs.Common.{◌≡◌, ◌∙◌, ◌++◌, ◌∷◌, ◌==◌, [], ap, sym, None, ℕ, List}
use Rattle.std.specs.Map.{lookup}
use Rattle.indexmap.proofs.MapLemmas.{absent_from_lookup, insert_entry-absent}
use Rattle.stream_catalog.proofs.Numbers.{Pairs, firsts, firsts_append}
use Rattle.stream_catalog.proofs.live.Live.push.Goals as goal

pub returns-clause-ok : goal.returns-clause-ok
returns-clause-ok c =
    let none : lookup (λ n. c.args.number == n) c.self.inside.places.entries ≡ None = ap (λ (l : Pairs). lookup (λ n. c.args.number == n) l) c.self.view_is ∙ c.requires in
    c.in_default.ensures.entries ∙ insert_entry-absent _ c.args.number c.args.place c.self.inside.places.entries (absent_from_lookup (λ n. c.args.number == n) c.self.inside.places.entries none)
    ∙ ap (λ (l : Pairs). l ++ (c.args.number, c.args.place) ∷ []) c.self.view_is

pub invariant_of-self-in_default : goal.invariant_of-self-in_default
invariant_of-self-in_default c =
    let none : lookup (λ n. c.args.number == n) c.self.inside.places.entries ≡ None = ap (λ (l : Pairs). lookup (λ n. c.args.number == n) l) c.self.view_is ∙ c.requires in
    c.in_ok-push.ensures.items ∙ ap (λ (l : List ℕ). l ++ c.args.number ∷ []) c.self.invariant ∙ sym (firsts_append c.self.inside.places.entries ((c.args.number, c.args.place) ∷ []))
    ∙ ap firsts (sym (c.in_default.ensures.entries ∙ insert_entry-absent _ c.args.number c.args.place c.self.inside.places.entries (absent_from_lookup (λ n. c.args.number == n) c.self.inside.places.entries none)))
