use Rattle.std.proofs.Common.{◌≡◌, ◌+◌, ◌*◌, ℕ, drop, length, sym, ◌∙◌, ap, subst, arith}
use Rattle.std.proofs.lemmas.Bool.{false≢true}
use Rattle.gated_words.specs.Words.{width, GivenUp, NoneLeaves}
use Rattle.gated_words.proofs.Reading.{not_given_up}
use Rattle.gated_words.proofs.Opening.{end_at, read_within, reads_damage, reads_short, reads_whole}
use Rattle.gated_words.proofs.open_file.read.Goals as goal

pub returns-then-bytes-le-HEADER_SIZE-clause-reads : goal.returns-then-bytes-le-HEADER_SIZE-clause-reads
returns-then-bytes-le-HEADER_SIZE-clause-reads c = reads_short _ _ _ (omega arith) c.new.ensures.items

pub skip-requires : goal.skip-requires
skip-requires c =
    let within = read_within _ _ _ c.in_ok-pairs.ensures (c.has_header.ensures.0 c.if-not-has_header.false) in
    let count : c.len.result ≡ length c.in_ok-pairs.pairs.items = omega arith in
    omega (arith, within, end_at c.args.form c.in_ok-pairs.pairs.items _ _ c.width.ensures count)

pub returns-then-not-is_given_up-clause-damaged : goal.returns-then-not-is_given_up-clause-damaged
returns-then-not-is_given_up-clause-damaged c = λ place told.
    let count : c.len.result ≡ length c.in_ok-pairs.pairs.items = omega arith in
    let end = end_at c.args.form c.in_ok-pairs.pairs.items _ _ c.width.ensures count in
    let rest : c.skip.result.now ≡ drop (8 + width c.args.form * length c.in_ok-pairs.pairs.items) c.args.bytes.now = c.skip.ensures ∙ ap (λ (n : ℕ). drop n c.args.bytes.now) end in
    let never : GivenUp c.args.form c.skip.result.now → ⊥ = λ gives. false≢true (sym c.if-not-is_given_up.true ∙ c.is_given_up.ensures.1 gives) in
    let wrong = subst (NoneLeaves c.args.form) rest (not_given_up c.args.form c.skip.result.now never) in
    let at : place ≡ 8 + c.width.result * c.len.result = cc in
    reads_damage _ _ _ place (omega arith) c.in_ok-pairs.ensures (c.has_header.ensures.0 c.if-not-has_header.false) wrong (at ∙ end)

pub returns-clause-reads : goal.returns-clause-reads
returns-clause-reads c =
    let count : c.len.result ≡ length c.in_ok-pairs.pairs.items = omega arith in
    let end = end_at c.args.form c.in_ok-pairs.pairs.items _ _ c.width.ensures count in
    let rest : c.skip.result.now ≡ drop (8 + width c.args.form * length c.in_ok-pairs.pairs.items) c.args.bytes.now = c.skip.ensures ∙ ap (λ (n : ℕ). drop n c.args.bytes.now) end in
    reads_whole _ _ _ c.in_ok-pairs.ensures (c.has_header.ensures.0 c.if-not-has_header.false) (subst (GivenUp c.args.form) rest (c.is_given_up.ensures.0 c.if-not-is_given_up.false))
