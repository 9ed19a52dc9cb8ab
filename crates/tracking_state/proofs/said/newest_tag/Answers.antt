use Rattle.std.proofs.Common.{◌≡◌, ◌-◌, max, length, take, drop, refl, arith}
use Rattle.chunk_format.specs.Parts.{tag_of}
use Rattle.tracking_state.proofs.Reading.{newest_first, newest_more, newest_all, tag_left, tags_there}
use Rattle.tracking_state.proofs.said.newest_tag.Goals as goal
use Rattle.tracking_state.proofs.said.newest_tag.Goals.{then-id-tag, else-id-tag}

pub returns-in_err-first-clause-some : goal.returns-in_err-first-clause-some
returns-in_err-first-clause-some c n tags some spells = absurd (tags_there n c.args.trailer.now tags some spells c.in_err-first.ensures)

pub tags-init : goal.tags-init
tags-init c =
    let split = c.in_ok-first.ensures in
    newest_first c.args.trailer.now (tag_of c.in_ok-first.first) c.in_ok-first.len split.0 split.1 split.2

pub returns-in_default-clause-some : goal.returns-in_default-clause-some
returns-in_default-clause-some c n tags some spells =
    let trailer = c.args.trailer.now in
    tag_left trailer c.tags.at c.tags.id (tag_of c.in_ok-first.first) c.tags.invariant c.tags-test.true n tags spells (take (length trailer - c.tags.at) (drop c.tags.at trailer)) refl c.in_default.ensures

pub tags-preserved : goal.tags-preserved
tags-preserved c =
    let split = c.in-Some.ensures in
    let greatest : c.if-id-tag.id ≡ max c.tags.id c.in-Some.tag.id = elim c.if-id-tag.branch [
      | then-id-tag w ↦ let more = w.if-id-tag.true in let is = w.id-is in omega arith
      | else-id-tag w ↦ let less = w.if-id-tag.false in let is = w.id-is in omega arith
    ] in
    newest_more c.args.trailer.now c.tags.at c.tags.id (tag_of c.in_ok-first.first) c.tags.invariant (tag_of c.in-Some.tag) c.in-Some.len _ refl split.0 split.1 split.2 c.if-id-tag.id greatest

pub returns-clause-some : goal.returns-clause-some
returns-clause-some c n tags some spells = newest_all c.args.trailer.now c.tags.at c.tags.id (tag_of c.in_ok-first.first) c.tags.invariant c.tags-test.false n tags spells
