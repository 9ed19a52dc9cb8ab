use Rattle.std.proofs.Common.{◌+◌, subst, List, take}
use Rattle.chunk_format.specs.declared.chunk.Chunk.{Chunk}
use Rattle.member_core.specs.Kept.{IsKnown}
use Rattle.member_core.proofs.Keeping.{parts}
use Rattle.member_core.proofs.TakingBack.{withdraw_keeps, withdraw_shows, withdraw_falls}
use Rattle.member_core.proofs.member_log.MemberLog.withdraw.Goals as goal

pub invariant_of-self : goal.invariant_of-self
invariant_of-self c =
    let i = c.self.inside in
    let n = c.args.counted in
    let known = subst (λ (l : List Chunk). IsKnown (take (i.written + c.args.count) l) c.shorten.new.self.count c.shorten.new.self.tracking) c.as_slice.ensures.value c.shorten.ensures in
    withdraw_keeps c.args.self.now i.chunks.items c.truncate.new.self.items i.written i.runs.items i.counted.bytes i.counted.since i.counted.waiting i.known.count n.bytes n.since n.waiting c.shorten.new.self.count i.known.tracking c.shorten.new.self.tracking c.args.count
    c.self.view_is c.requires.within c.requires.counted known c.truncate.ensures.items c.self.invariant

pub returns-clause-is : goal.returns-clause-is
returns-clause-is c =
    let i = c.self.inside in
    withdraw_shows c.args.self.now i.chunks.items c.truncate.new.self.items i.written c.args.count c.self.view_is c.truncate.ensures.items

pub returns-clause-epoch : goal.returns-clause-epoch
returns-clause-epoch c =
    let i = c.self.inside in
    withdraw_falls c.args.self.now (parts i.written c.truncate.new.self.items) i.chunks.items i.written c.args.count c.self.view_is c.self.invariant.0.is_log (withdraw_shows c.args.self.now i.chunks.items c.truncate.new.self.items i.written c.args.count c.self.view_is c.truncate.ensures.items)
