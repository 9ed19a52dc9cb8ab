use Rattle.segment_store.proofs.RecoveryLast.{gone_or_before}
use Rattle.std.proofs.Common.{◌≡◌, ℕ, None, sym, subst, arith}
use Rattle.disk_calls.specs.Disk.{Only}
use Rattle.segment_pairs.specs.Held.{segment_file}
use Rattle.segment_pairs.specs.Left.{EachLeft}
use Rattle.segment_pairs.proofs.Making.{none_short}
use Rattle.segment_pairs.proofs.Moving.{did_done}
use Rattle.segment_store.proofs.recover.restart.Goals as goal

pub returns-in-Failed-clause-images : goal.returns-in-Failed-clause-images
returns-in-Failed-clause-images g c = λ told. gone_or_before c.args.stream c.args.number (g.D.Disk.state c.args.disk.now) (g.D.Disk.state c.remove_pair.new.disk) c.remove_pair.ensures.images

pub returns-then-number-gt0-clause-images : goal.returns-then-number-gt0-clause-images
returns-then-number-gt0-clause-images g c = λ told. gone_or_before c.args.stream c.args.number (g.D.Disk.state c.args.disk.now) (g.D.Disk.state c.remove_pair.new.disk) c.remove_pair.ensures.images

pub returns-clause-left : goal.returns-clause-left
returns-clause-left g c = λ told left.
    let first : c.args.number ≡ 0 = omega (arith, c.if-number-gt0.false) in
    let gone = c.remove_pair.ensures.gone (did_done _ c.in_default.not-Failed) in
    subst (λ (k : ℕ). EachLeft c.args.stream k (g.D.Disk.state c.begin_pair.new.disk)) (sym first) (c.begin_pair.ensures.left told (λ image there. none_short image (subst (λ (k : ℕ). Only None ((g.D.Disk.state c.remove_pair.new.disk).images (segment_file c.args.stream k))) first gone image there)))
