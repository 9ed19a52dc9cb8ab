use Rattle.gated_words.proofs.Opening.{seen_leaves, tidy_leaves}
use Rattle.gated_words.proofs.open_file.open_second.Goals as goal

pub returns-in-Failed-clause-images : goal.returns-in-Failed-clause-images
returns-in-Failed-clause-images g c = λ told.
    let seen = seen_leaves c.args.id _ (λ f. g.met.D.Disk.reads_image c.args.disk.now f told) in
    tidy_leaves c.args.id _ _ _ _ _ _ _ _ c.second_file.ensures c.deref.ensures.value c.deref-3.ensures.value (c.requires.second told) seen (c.requires.missing told) (c.in_ok-bytes.ensures.looks told) c.in_ok-bytes.ensures.gone (c.in_ok-bytes.ensures.found told)
    c.in_ok-pairs.ensures.reads c.tidy.ensures.others (c.tidy.ensures.images told)

pub returns-clause-images : goal.returns-clause-images
returns-clause-images g c = λ told.
    let seen = seen_leaves c.args.id _ (λ f. g.met.D.Disk.reads_image c.args.disk.now f told) in
    tidy_leaves c.args.id _ _ _ _ _ _ _ _ c.second_file.ensures c.deref.ensures.value c.deref-3.ensures.value (c.requires.second told) seen (c.requires.missing told) (c.in_ok-bytes.ensures.looks told) c.in_ok-bytes.ensures.gone (c.in_ok-bytes.ensures.found told)
    c.in_ok-pairs.ensures.reads c.tidy.ensures.others (c.tidy.ensures.images told)
