use Rattle.std.proofs.Common.{List, ℕ, ◌∙◌, ap}
use Rattle.gated_words.specs.declared.record.Form.TheVariants as form
use Rattle.gated_words.specs.Words.{spelled}
use Rattle.gated_words.proofs.Opening.{seen_leaves, moves_keep}
use Rattle.gated_words.proofs.open_file.open_first.Goals as goal

pub returns-in-Failed-clause-images : goal.returns-in-Failed-clause-images
returns-in-Failed-clause-images g c = λ told.
    let seen = seen_leaves c.args.id _ (λ f. g.met.D.Disk.reads_image c.args.disk.now f told) in
    let spelt = c.deref-2.ensures.value ∙ c.in_ok-spelled.ensures ∙ ap (λ (l : List (ℕ × ℕ)). spelled form.Second l) c.deref.ensures.value in
    moves_keep _ _ _ _ _ _ seen (c.requires.settled told) c.in_ok-pairs.ensures.reads spelt (c.migrate.ensures.images told _ (c.requires.settled told))

pub returns-clause-images : goal.returns-clause-images
returns-clause-images g c = λ told.
    let seen = seen_leaves c.args.id _ (λ f. g.met.D.Disk.reads_image c.args.disk.now f told) in
    let spelt = c.deref-2.ensures.value ∙ c.in_ok-spelled.ensures ∙ ap (λ (l : List (ℕ × ℕ)). spelled form.Second l) c.deref.ensures.value in
    moves_keep _ _ _ _ _ _ seen (c.requires.settled told) c.in_ok-pairs.ensures.reads spelt (c.migrate.ensures.images told _ (c.requires.settled told))
