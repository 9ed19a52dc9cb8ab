use Rattle.std.proofs.Common.{Bor, List, ℕ}
use Rattle.serve_words.proofs.Texts.{not_a_text, text_more, texts_all}
use Rattle.serve_words.proofs.words.read_texts.Goals as goal

pub returns-in_default-clause-usage : goal.returns-in_default-clause-usage
returns-in_default-clause-usage c e = not_a_text c.args.words.now c.loop-word.word-index c.word-item.result c.as_slice.result.now c.word-item.is c.loop-word-test.true c.as_slice.ensures c.in_default.ensures.cases.0

pub loop-word-preserved : goal.loop-word-preserved
loop-word-preserved c = text_more (λ (t : Bor (List ℕ)). t.now) c.args.words.now c.loop-word.texts.items c.push.new.self.items c.loop-word.word-index c.word-item.result c.as_slice.result.now c.in-Ok.text c.loop-word.invariant c.word-item.is c.loop-word-test.true c.as_slice.ensures c.in-Ok.ensures.cases.0 c.in-Ok.ensures.cases.1 c.in-Ok-push.ensures.items

pub returns-clause-ok : goal.returns-clause-ok
returns-clause-ok c = texts_all c.args.words.now _ c.loop-word.word-index c.loop-word.invariant c.loop-word-test.false
