use Rattle.serve_words.proofs.Addresses.{no_count, other_count, never}
use Rattle.serve_words.proofs.words.read_count.Goals as goal

pub returns-in_default : goal.returns-in_default
returns-in_default c = no_count c.args.word.now c.in_default.ensures

pub returns-then-not-is_group_size : goal.returns-then-not-is_group_size
returns-then-not-is_group_size c = other_count c.args.word.now c.in-Some.number c.in-Some.ensures.0 c.in-Some.ensures.1 (never c.is_group_size.result c.if-not-is_group_size.true c.is_group_size.ensures.1)
