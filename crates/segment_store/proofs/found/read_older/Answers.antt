use Rattle.std.proofs.Common.{rules, sym, ◌∙◌}
use Rattle.std.proofs.lemmas.Bool.{false≢true}
use Rattle.segment_store.proofs.RecoveryLast.{headless_broken, reads_add, reads_broken}
use Rattle.segment_store.proofs.found.read_older.Goals as goal

pub returns-then-not-is_even-clause-damaged : goal.returns-then-not-is_even-clause-damaged
returns-then-not-is_even-clause-damaged g c = λ told segment at is.
    reads_broken c.args.stream c.args.number segment at _ _ _ _ _ c.into_vec-chunks.result.items _ _ (g.D.Disk.state c.look_at.new.disk) (rw c.in-Chunks.is at (c.in_ok-look_at.ensures.shows told)) (λ one two. false≢true (sym c.if-not-is_even.true ∙ c.is_even.ensures.1 (one, two))) (search rules) c.into_vec-chunks.ensures is

pub returns-in-Headless-clause-damaged : goal.returns-in-Headless-clause-damaged
returns-in-Headless-clause-damaged g c = λ told segment at is. headless_broken c.args.stream c.args.number segment at _ (g.D.Disk.state c.look_at.new.disk) (rw c.in-Headless.is at (c.in_ok-look_at.ensures.shows told)) is

pub returns-in_ok-add-in-Chunks-clause-adds : goal.returns-in_ok-add-in-Chunks-clause-adds
returns-in_ok-add-in-Chunks-clause-adds g c = λ told.
    let even = c.is_even.ensures.0 c.if-not-is_even.false in
    reads_add c.args.stream c.args.number _ _ _ _ c.into_vec-chunks.result.items _ _ _ _ _ _ (g.D.Disk.state c.look_at.new.disk) (rw c.in-Chunks.is at (c.in_ok-look_at.ensures.shows told)) even.0 even.1 c.into_vec-chunks.ensures (λ chain. c.in_ok-add-in-Chunks.ensures.rows chain) c.in_ok-add-in-Chunks.ensures.chunks
