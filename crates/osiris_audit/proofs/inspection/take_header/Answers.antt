use Rattle.std.proofs.Common.{sym, ap, take, ◌∙◌}
use Rattle.osiris_audit.proofs.Heading.{takes_short, takes_wrong, told_as}
use Rattle.osiris_audit.proofs.Truncated.{never_is}
use Rattle.osiris_audit.proofs.inspection.take_header.Goals as goal

pub returns-in-Ok-false-clause-takes : goal.returns-in-Ok-false-clause-takes
returns-in-Ok-false-clause-takes g c = takes_short c.args.header.now _ _ c.args.window.now c.need.new.self c.requires.len c.requires.new (told_as _ _ _ _ _ _ _ c.in-Ok-false.field-0-test c.in-Ok-false.ensures.grew)

pub returns-then-not-same_bytes-clause-takes : goal.returns-then-not-same_bytes-clause-takes
returns-then-not-same_bytes-clause-takes g c =
    takes_wrong c.args.header.now _ _ c.args.window.now c.need.new.self c.requires.len c.requires.new (told_as _ _ _ _ _ _ _ c.in-Ok-true.field-0-test c.in-Ok-true.ensures.grew)
    (λ e. never_is _ _ c.same_bytes.ensures c.if-not-same_bytes.true (e ∙ ap (take 8) (sym c.rest.ensures)))
