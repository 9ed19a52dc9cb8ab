-- What the fields of a node stand for.
use Rattle.std.specs.Prelude.{◌≡◌, ℕ, ◌<◌, ◌+◌, List, [], ◌∷◌, ◌++◌, length, take, drop, None, All}
use Rattle.replay_node.specs.declared.node.Node.TheInside.{Inside}
use Rattle.replay_node.specs.declared.session.Link.{Link}
use Rattle.replay_node.specs.declared.output.Commits.{Commits}
use Rattle.replay_node.specs.Sessions.{IsOffer}
use Rattle.replay_node.specs.NodeState.{NodeState, end_of_list, queued_chunks, find_link}

abbrev pub node_of : Inside → NodeState
node_of n = record {
  stream = n.stream;
  links = n.links.items;
  chunks = n.chunks.items;
  queued = n.queued.items;
  unconfirmed = n.unconfirmed.items;
}

pub record IsNode (n : Inside) : Type 0 where
  pub end : n.end ≡ end_of_list n.chunks.items
  pub queued : All IsOffer n.queued.items
  pub unconfirmed : All IsOffer n.unconfirmed.items

-- the connection of a number stands at this place, and none of that number before it
pub record IsPlace (k number : ℕ) (links : List Link) : Type 0 where
  pub link : Link
  pub at : links ≡ take k links ++ link ∷ drop (k + 1) links
  pub within : k < length links
  pub is_it : link.number ≡ number
  pub first : find_link number (take k links) ≡ None

-- these chunks are those of the queued offers
pub record CommitsQueue (node : NodeState) (commits : Commits) : Type 0 where
  pub chunks : commits.chunks.items ≡ queued_chunks node
  pub end : commits.end ≡ end_of_list (node.chunks ++ queued_chunks node)

-- the node with the queued offers committed
abbrev pub after_commit : NodeState → NodeState
after_commit node = record node {
  chunks = node.chunks ++ queued_chunks node;
  queued = [];
  unconfirmed = node.unconfirmed ++ node.queued;
}
