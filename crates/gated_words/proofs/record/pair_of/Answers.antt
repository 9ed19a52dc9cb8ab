use Rattle.std.proofs.Common.{◌≡◌, rules, arith}
use Rattle.gated_words.specs.Words.{pair_at}
use Rattle.gated_words.proofs.Spelling.{words-pair_at}
use Rattle.gated_words.proofs.record.pair_of.Goals as goal

pub returns-clause-spelled : goal.returns-clause-spelled
unfolding pair_at
returns-clause-spelled c =
    let read : (c.from_be_bytes.result, c.from_be_bytes-2.result) ≡ pair_at c.args.bytes.now = search rules in
    words-pair_at c.args.bytes.now _ c.requires (λ i. omega (arith, c.type_inv.bytes i)) read
