use Rattle.std.proofs.Common.{◌∙◌, ap, sym, not, filter, rules, ℕ, List}
use Rattle.std.proofs.lemmas.Fn.{filter_same}
use Rattle.indexmap.proofs.CallerLemmas.{filter-RetainsPairs}
use Rattle.stream_catalog.specs.Rules.{is_among}
use Rattle.stream_catalog.proofs.Numbers.{Pairs, firsts, firsts_filter}
use Rattle.stream_catalog.proofs.live.Live.remove.Goals as goal

pub returns : goal.returns
returns c =
    filter-RetainsPairs _ (λ e. not (is_among c.args.first c.args.count e.0)) _ (λ k v b w g call. search rules) _ _ c.retain-2.ensures.filtered
    ∙ ap (λ (l : Pairs). filter (λ p. not (is_among c.args.first c.args.count p.0)) l) c.self.view_is

pub invariant_of-self : goal.invariant_of-self
invariant_of-self c =
    filter_same _ (λ n. not (is_among c.args.first c.args.count n)) _ (λ x b f' k. search rules) _ _ c.retain.ensures.filtered
    ∙ ap (λ (l : List ℕ). filter (λ n. not (is_among c.args.first c.args.count n)) l) c.self.invariant
    ∙ sym (firsts_filter (λ n. not (is_among c.args.first c.args.count n)) c.self.inside.places.entries)
    ∙ ap firsts (sym (filter-RetainsPairs _ (λ e. not (is_among c.args.first c.args.count e.0)) _ (λ k v b w g call. search rules) _ _ c.retain-2.ensures.filtered))
