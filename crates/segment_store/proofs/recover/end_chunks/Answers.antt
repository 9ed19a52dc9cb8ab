use Rattle.std.proofs.Common.{arith, rules}
use Rattle.segment_store.proofs.RecoveryFound.{read_enough, read_torn}
use Rattle.segment_store.proofs.RecoveryLast.{each_or_before, reads_damaged, reads_end, some_chunks}
use Rattle.segment_store.proofs.recover.end_chunks.Goals as goal

pub returns-then-saturating_sub-gt-RECORD-clause-damaged : goal.returns-then-saturating_sub-gt-RECORD-clause-damaged
returns-then-saturating_sub-gt-RECORD-clause-damaged g c = λ told segment at is.
    reads_damaged c.args.stream c.args.number segment at _ _ _ _ _ c.into_vec-chunks.result.items _ _ (g.D.Disk.state c.args.disk.now) (c.requires told) (omega (arith, c.saturating_sub.ensures, c.if-saturating_sub-gt-RECORD.true)) (search rules) c.into_vec-chunks.ensures is

pub returns-then-is_leftover-clause-sound : goal.returns-then-is_leftover-clause-sound
returns-then-is_leftover-clause-sound g c = λ told. read_enough c.args.stream c.args.number _ _ _ _ _ _ (g.D.Disk.state c.args.disk.now) (c.requires told) (omega (arith, c.saturating_sub.ensures, c.if-saturating_sub-gt-RECORD.false))

pub settle-requires : goal.settle-requires
settle-requires g c = λ told.
    let torn = read_torn c.args.stream c.args.number _ _ _ _ _ _ (g.D.Disk.state c.args.disk.now) (c.requires told) (omega (arith, c.saturating_sub.ensures, c.if-saturating_sub-gt-RECORD.false)) in
    (c.args.walk.chunks, torn.0, torn.1, torn.2)

pub returns-in-Failed-settle-clause-images : goal.returns-in-Failed-settle-clause-images
returns-in-Failed-settle-clause-images g c = λ told.
    let torn = read_torn c.args.stream c.args.number _ _ _ _ _ _ (g.D.Disk.state c.args.disk.now) (c.requires told) (omega (arith, c.saturating_sub.ensures, c.if-saturating_sub-gt-RECORD.false)) in
    each_or_before c.args.stream c.args.number c.args.walk.chunks (g.D.Disk.state c.args.disk.now) (g.D.Disk.state c.settle.new.disk) (c.settle.ensures.images told c.args.walk.chunks torn.0)

pub returns-clause-images : goal.returns-clause-images
returns-clause-images g c = λ told.
    let torn = read_torn c.args.stream c.args.number _ _ _ _ _ _ (g.D.Disk.state c.args.disk.now) (c.requires told) (omega (arith, c.saturating_sub.ensures, c.if-saturating_sub-gt-RECORD.false)) in
    each_or_before c.args.stream c.args.number c.args.walk.chunks (g.D.Disk.state c.args.disk.now) (g.D.Disk.state c.settle.new.disk) (c.settle.ensures.images told c.args.walk.chunks torn.0)

pub returns-clause-ends : goal.returns-clause-ends
returns-clause-ends g c = λ told.
    let torn = read_torn c.args.stream c.args.number _ _ _ _ _ _ (g.D.Disk.state c.args.disk.now) (c.requires told) (omega (arith, c.saturating_sub.ensures, c.if-saturating_sub-gt-RECORD.false)) in
    reads_end c.args.stream c.args.number _ _ _ c.args.walk.chunks c.into_vec-chunks.result.items _ _ _ _ _ _ (g.D.Disk.state c.args.disk.now) (g.D.Disk.state c.settle.new.disk) (c.requires told) c.into_vec-chunks.ensures
    (some_chunks c.args.number _ c.into_vec-chunks.result.items _ c.is_leftover.ensures c.if-is_leftover.false (search rules)) (c.settle.ensures.done told (search rules) c.args.walk.chunks torn.0 torn.1 torn.2) (λ chain. c.in_ok-add.ensures.rows chain) c.in_ok-add.ensures.chunks

pub returns-clause-sound : goal.returns-clause-sound
returns-clause-sound g c = λ told. read_enough c.args.stream c.args.number _ _ _ _ _ _ (g.D.Disk.state c.args.disk.now) (c.requires told) (omega (arith, c.saturating_sub.ensures, c.if-saturating_sub-gt-RECORD.false))

pub returns-in-Failed-settle-clause-left : goal.returns-in-Failed-settle-clause-left
returns-in-Failed-settle-clause-left g c = λ told left.
    let torn = read_torn c.args.stream c.args.number _ _ _ _ _ _ (g.D.Disk.state c.args.disk.now) (c.requires told) (omega (arith, c.saturating_sub.ensures, c.if-saturating_sub-gt-RECORD.false)) in
    c.settle.ensures.left told c.args.walk.chunks torn.0

pub returns-clause-left : goal.returns-clause-left
returns-clause-left g c = λ told left.
    let torn = read_torn c.args.stream c.args.number _ _ _ _ _ _ (g.D.Disk.state c.args.disk.now) (c.requires told) (omega (arith, c.saturating_sub.ensures, c.if-saturating_sub-gt-RECORD.false)) in
    c.settle.ensures.left told c.args.walk.chunks torn.0
