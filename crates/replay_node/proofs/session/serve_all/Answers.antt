use Rattle.std.proofs.Common.{◌≡◌, [], ◌∙◌, List, Bool, length, ap, sym, subst, arith}
use Rattle.std.specs.Vec.Iter.{into_iter_items}
use Rattle.command_data.specs.declared.command.DataCommand.{DataCommand}
use Rattle.replay_node.specs.Sessions.{ServesOne, serve}
use Rattle.replay_node.proofs.Serving.{ServesRest, rest_more, rest_stops, rest_end, nothing_left}
use Rattle.replay_node.proofs.session.serve_all.Goals as goal

pub loop-command-preserved : goal.loop-command-preserved
loop-command-preserved c =
    let steps = c.in-Some.ensures.steps.0 in
    let gone = c.in-Some.ensures.steps.1 in
    let was = c.loop-command.invariant.left in
    let short = ap length steps in
    let done : ServesOne _ (serve c.args.connection c.args.stream.now c.loop-command.served.publishers c.in-Some.command) c.loop-command.served c.serve.new.served =
    subst (λ (b : Bool). ServesOne b (serve c.args.connection c.args.stream.now c.loop-command.served.publishers c.in-Some.command) c.loop-command.served c.serve.new.served) c.if-not-branch.false c.in_ok-serve.ensures in
    record {
      so_far = rest_more c.args.connection c.args.stream.now c.args.publishers.now c.args.commands c.loop-command.served c.serve.new.served c.in-Some.command (into_iter_items c.next.new.self)
          (subst (λ (l : List DataCommand). ServesRest c.args.connection c.args.stream.now c.args.publishers.now c.args.commands c.loop-command.served l) steps c.loop-command.invariant.so_far) done;
      left = omega (arith, gone, was, short);
    }

pub returns-then-not-branch : goal.returns-then-not-branch
returns-then-not-branch c =
    let steps = c.in-Some.ensures.steps.0 in
    let done : ServesOne _ (serve c.args.connection c.args.stream.now c.loop-command.served.publishers c.in-Some.command) c.loop-command.served c.serve.new.served =
    subst (λ (b : Bool). ServesOne b (serve c.args.connection c.args.stream.now c.loop-command.served.publishers c.in-Some.command) c.loop-command.served c.serve.new.served) c.if-not-branch.true c.in_ok-serve.ensures in
    sym (rest_stops c.args.connection c.args.stream.now c.args.publishers.now c.args.commands c.loop-command.served c.serve.new.served c.in-Some.command (into_iter_items c.next.new.self)
    (subst (λ (l : List DataCommand). ServesRest c.args.connection c.args.stream.now c.args.publishers.now c.args.commands c.loop-command.served l) steps c.loop-command.invariant.so_far) done)

pub returns : goal.returns
returns c =
    let none : into_iter_items c.loop-command.command-iterator ≡ [] = nothing_left _ (c.loop-command.invariant.left ∙ c.in-None.ensures.steps.0) in
    sym (rest_end c.args.connection c.args.stream.now c.args.publishers.now c.args.commands c.loop-command.served
    (subst (λ (l : List DataCommand). ServesRest c.args.connection c.args.stream.now c.args.publishers.now c.args.commands c.loop-command.served l) none c.loop-command.invariant.so_far))
