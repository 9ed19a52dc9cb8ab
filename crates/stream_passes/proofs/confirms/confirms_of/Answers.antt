use Rattle.std.proofs.Common.{map}
use Rattle.std.specs.List.{filter}
use Rattle.stream_terms.specs.Steps.{is_of, confirm_of}
use Rattle.stream_passes.proofs.Waiting.{more_confirms}
use Rattle.stream_passes.proofs.confirms.confirms_of.Goals as goal

pub ready-preserved : goal.ready-preserved
ready-preserved c =
    more_confirms c.args.session c.ready.out c.add_confirm.new.out (map confirm_of (filter (is_of c.args.session) c.args.ready.now)) c.in-Some.waits.now c.ready.rest.now c.in-Some.more.now c.in_ok-add_confirm.ensures c.in-Some.ensures.cases.0 c.ready.invariant
