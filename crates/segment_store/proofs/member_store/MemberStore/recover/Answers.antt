use Rattle.std.proofs.Common.{refl, sym, ◌∙◌, ap, ℕ, List}
use Rattle.segment_store.specs.Words.{word_of}
use Rattle.segment_store.proofs.Storing.{outside_streams}
use Rattle.segment_store.proofs.Returning.{log_keeps, both_keep, both_streams, back_damages, back_opens, on_opens, pairs_same, recovered_backed, recovered_only, err_same}
use Rattle.segment_store.proofs.Keeping.{opened_recoverable, outside_recoverable}
use Rattle.segment_store.proofs.member_store.MemberStore.recover.Goals as goal

pub returns-in_err-found-clause-images : goal.returns-in_err-found-clause-images
returns-in_err-found-clause-images g c = λ told. log_keeps _ _ _ (c.recover_log.ensures.images told) c.recover_log.ensures.others

pub returns-in_err-found-clause-others : goal.returns-in_err-found-clause-others
returns-in_err-found-clause-others g c = outside_streams _ _ _ _ refl c.recover_log.ensures.others

pub returns-in_err-found-clause-damaged : goal.returns-in_err-found-clause-damaged
returns-in_err-found-clause-damaged g c = λ told F segment at is. c.in_err-found.ensures.damaged told F segment at (err_same c.from_residual.result _ _ c.from_residual.ensures.1 is)

pub returns-in_err-promises-clause-images : goal.returns-in_err-promises-clause-images
returns-in_err-promises-clause-images g c = λ told.
    both_keep _ _ _ _ (λ f. g.met.D.Disk.reads_image c.recover_log.new.disk f told) (c.recover_log.ensures.images told) c.recover_log.ensures.others (c.open_promises.ensures.images told) c.open_promises.ensures.others

pub returns-in_err-promises-clause-others : goal.returns-in_err-promises-clause-others
returns-in_err-promises-clause-others g c = both_streams _ _ _ _ c.recover_log.ensures.others c.open_promises.ensures.others

pub returns-in_err-promises-clause-damaged_words : goal.returns-in_err-promises-clause-damaged_words
returns-in_err-promises-clause-damaged_words g c = λ told place is. back_damages _ place _ _ c.recover_log.ensures.others (c.in_err-promises.ensures.damaged told place (err_same c.from_residual-in_err-promises.result _ _ c.from_residual-in_err-promises.ensures.1 is))

pub returns-in_err-promises-clause-never_words : goal.returns-in_err-promises-clause-never_words
returns-in_err-promises-clause-never_words g c = λ told opens place is. c.in_err-promises.ensures.undamaged told (on_opens _ _ _ c.recover_log.ensures.others opens) place (err_same c.from_residual-in_err-promises.result _ _ c.from_residual-in_err-promises.ensures.1 is)

pub returns-in_err-chunks-clause-images : goal.returns-in_err-chunks-clause-images
returns-in_err-chunks-clause-images g c = λ told.
    both_keep _ _ _ _ (λ f. g.met.D.Disk.reads_image c.recover_log.new.disk f told) (c.recover_log.ensures.images told) c.recover_log.ensures.others (c.open_promises.ensures.images told) c.open_promises.ensures.others

pub returns-in_err-chunks-clause-others : goal.returns-in_err-chunks-clause-others
returns-in_err-chunks-clause-others g c = both_streams _ _ _ _ c.recover_log.ensures.others c.open_promises.ensures.others

pub returns-clause-images : goal.returns-clause-images
returns-clause-images g c = λ told.
    both_keep _ _ _ _ (λ f. g.met.D.Disk.reads_image c.recover_log.new.disk f told) (c.recover_log.ensures.images told) c.recover_log.ensures.others (c.open_promises.ensures.images told) c.open_promises.ensures.others

pub returns-clause-others : goal.returns-clause-others
returns-clause-others g c = both_streams _ _ _ _ c.recover_log.ensures.others c.open_promises.ensures.others

pub returns-clause-backed : goal.returns-clause-backed
returns-clause-backed g c = λ told.
    recovered_backed c.args.stream c.args.member _ _ _ _ _ _ _ c.in_ok-found.ensures.stream (c.in_ok-found.ensures.recovers told) (c.in_ok-chunks.ensures ∙ c.deref.ensures.value) c.in_ok-promises.ensures.sure.0 c.in_ok-promises.ensures.sure.1 (c.in_ok-promises.ensures.backs told) c.open_promises.ensures.others

pub returns-clause-only : goal.returns-clause-only
returns-clause-only g c = λ told.
    recovered_only _ c.args.stream _ _ _ refl (ap (λ (l : List (ℕ × ℕ)). word_of c.args.stream l) (sym c.pairs.ensures) ∙ sym c.last_word-promise.ensures)
    (recovered_backed c.args.stream c.args.member _ _ _ _ _ _ _ c.in_ok-found.ensures.stream (c.in_ok-found.ensures.recovers told) (c.in_ok-chunks.ensures ∙ c.deref.ensures.value) c.in_ok-promises.ensures.sure.0 c.in_ok-promises.ensures.sure.1 (c.in_ok-promises.ensures.backs told) c.open_promises.ensures.others)

pub returns-clause-log : goal.returns-clause-log
returns-clause-log g c = λ told F. (c.in_ok-found.ensures.recovers told).was F ∙ sym (c.in_ok-chunks.ensures ∙ c.deref.ensures.value)

pub returns-clause-promise : goal.returns-clause-promise
returns-clause-promise g c = λ told.
    c.last_word-promise.ensures ∙ ap (λ (l : List (ℕ × ℕ)). word_of c.args.stream l) (c.pairs.ensures ∙ c.in_ok-promises.ensures.pairs told ∙ pairs_same _ _ _ c.recover_log.ensures.others)

pub returns-clause-sound_words : goal.returns-clause-sound_words
returns-clause-sound_words g c = λ told. back_opens _ _ _ c.recover_log.ensures.others (c.in_ok-promises.ensures.opens told)

pub returns-in_err-found-clause-recoverable : goal.returns-in_err-found-clause-recoverable
returns-in_err-found-clause-recoverable g c = λ told. outside_recoverable _ _ _ c.recover_log.ensures.others (c.recover_log.ensures.recoverable told)

pub returns-in_err-promises-clause-recoverable : goal.returns-in_err-promises-clause-recoverable
returns-in_err-promises-clause-recoverable g c = λ told. opened_recoverable _ _ _ _ (λ f. g.met.D.Disk.reads_image c.recover_log.new.disk f told) c.recover_log.ensures.others (c.recover_log.ensures.recoverable told) (c.open_promises.ensures.images told) c.open_promises.ensures.others

pub returns-in_err-chunks-clause-recoverable : goal.returns-in_err-chunks-clause-recoverable
returns-in_err-chunks-clause-recoverable g c = λ told. opened_recoverable _ _ _ _ (λ f. g.met.D.Disk.reads_image c.recover_log.new.disk f told) c.recover_log.ensures.others (c.recover_log.ensures.recoverable told) (c.open_promises.ensures.images told) c.open_promises.ensures.others

pub returns-clause-recoverable : goal.returns-clause-recoverable
returns-clause-recoverable g c = λ told. opened_recoverable _ _ _ _ (λ f. g.met.D.Disk.reads_image c.recover_log.new.disk f told) c.recover_log.ensures.others (c.recover_log.ensures.recoverable told) (c.open_promises.ensures.images told) c.open_promises.ensures.others
