use Rattle.std.proofs.Common.{◌≤◌, ◌∙◌, ap, subst, List, [], length, take}
use Rattle.chunk_format.specs.declared.chunk.Chunk.{Chunk}
use Rattle.epoch_coordinator.specs.Tails.{runs_of}
use Rattle.member_core.specs.Kept.{ended, AreCounted}
use Rattle.member_core.proofs.Keeping.{front_keeps, cut_shows, cut_falls}
use Rattle.member_core.proofs.member_log.MemberLog.cut.Goals as goal

pub invariant_of-self : goal.invariant_of-self
invariant_of-self c =
    let i = c.self.inside in
    let n = c.in_ok-counted.counted in
    let kept = c.ended-kept.result in
    let within = subst (λ (l : List Chunk). kept ≤ length l) c.as_slice.ensures.value c.ended-kept.ensures.within in
    let runs = c.in_ok-runs.ensures ∙ ap (λ (l : List Chunk). runs_of (take kept l)) c.deref.ensures.value in
    let counted = subst (λ (l : List Chunk). AreCounted (take kept l) [] n.bytes n.since n.waiting) c.deref-2.ensures.value c.in_ok-counted.ensures in
    front_keeps i.chunks.items c.truncate.new.self.items kept c.in_ok-runs.runs.items n.bytes n.since n.waiting c.nothing.result.count c.nothing.result.tracking within c.self.invariant.0.is_log c.self.invariant.0.truthful
    c.truncate.ensures.items runs counted c.nothing.ensures.count c.nothing.ensures.tracks

pub returns-clause-ok : goal.returns-clause-ok
returns-clause-ok c =
    let i = c.self.inside in
    let kept = c.ended-kept.result in
    let within = subst (λ (l : List Chunk). kept ≤ length l) c.as_slice.ensures.value c.ended-kept.ensures.within in
    let place = c.ended-kept.ensures.is ∙ ap (ended c.args.end) c.as_slice.ensures.value in
    cut_shows c.args.self.now i.chunks.items c.truncate.new.self.items i.written c.args.end kept c.self.view_is c.requires c.self.invariant.0.is_log within place c.truncate.ensures.items

pub returns-clause-epoch : goal.returns-clause-epoch
returns-clause-epoch c =
    let i = c.self.inside in
    let kept = c.ended-kept.result in
    let within = subst (λ (l : List Chunk). kept ≤ length l) c.as_slice.ensures.value c.ended-kept.ensures.within in
    cut_falls c.args.self.now i.chunks.items c.truncate.new.self.items i.written kept c.self.view_is c.requires c.self.invariant.0.is_log within c.truncate.ensures.items
