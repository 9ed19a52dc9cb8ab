use Rattle.std.proofs.Common.{◌∙◌, ap, rules, not}
use Rattle.indexmap.proofs.CallerLemmas.{filter-RetainsPairs}
use Rattle.stream_catalog.specs.Names.{Names}
use Rattle.stream_catalog.specs.Rules.{without, is_among, first_of}
use Rattle.stream_catalog.proofs.Entries.{pairs, filter_pairs}
use Rattle.stream_catalog.proofs.names.NameList.remove.Goals as goal

pub returns-clause-list : goal.returns-clause-list
returns-clause-list c =
    ap pairs (filter-RetainsPairs _ (λ e. not (is_among c.args.first c.args.count (first_of e.1))) _ (λ k v b w g call. search rules) _ _ c.retain.ensures.filtered)
    ∙ filter_pairs (λ holder. not (is_among c.args.first c.args.count (first_of holder))) c.self.inside.held.entries
    ∙ ap (λ (n : Names). without c.args.first c.args.count n.list) c.self.view_is
