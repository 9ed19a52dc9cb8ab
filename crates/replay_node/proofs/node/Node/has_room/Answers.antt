use Rattle.std.proofs.Common.{◌≡◌, ◌∙◌, ◌<◌, List, length, ap, subst, arith}
use Rattle.replay_node.specs.declared.session.Link.{Link}
use Rattle.std.specs.Prelude.{IsTrue, ◌↔◌, None}
use Rattle.replay_node.specs.NodeState.{NodeState, find_link}
use Rattle.replay_node.proofs.NodeSteps.{none_told}
use Rattle.replay_node.proofs.node.Node.has_room.Goals as goal

pub returns-then-len-lt-MOST_CONNECTIONS : goal.returns-then-len-lt-MOST_CONNECTIONS
returns-then-len-lt-MOST_CONNECTIONS c =
    let links = c.as_slice.ensures.value ∙ ap (λ (s : NodeState). s.links) c.self.view_is in
    let told = subst (λ (l : List Link). IsTrue c.is_none.result ↔ (find_link c.args.connection l ≡ None)) links (none_told c.place_of.result c.is_none.result c.args.connection c.as_slice.result.now c.is_none.ensures c.place_of.ensures) in
    let size = ap length links in
    let few : length c.args.self.now.links < 16 = let len = c.len.ensures in let small = c.if-len-lt-MOST_CONNECTIONS.true in let held = c.as_slice.ensures.len in omega (arith, len, small, held, size) in
    (λ t. (told.0 t, few), λ both. told.1 both.0)
