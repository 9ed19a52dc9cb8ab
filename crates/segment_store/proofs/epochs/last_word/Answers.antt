use Rattle.std.proofs.Common.{arith}
use Rattle.segment_store.proofs.Wording.{word_found, word_missed}
use Rattle.segment_store.proofs.epochs.last_word.Goals as goal

pub returns-then-of-stream : goal.returns-then-of-stream
returns-then-of-stream c = word_found c.args.stream c.loop-at.at c.args.pairs.now (omega arith) c.loop-at.invariant.within c.loop-at.invariant.word (omega arith)

pub loop-at-preserved : goal.loop-at-preserved
loop-at-preserved c = record {
  within = omega (arith, c.loop-at.invariant.within);
  word = word_missed c.args.stream c.loop-at.at c.args.pairs.now (omega arith) c.loop-at.invariant.within c.loop-at.invariant.word (λ is. absurd (omega (arith, is)));
}
