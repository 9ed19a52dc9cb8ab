use Rattle.std.proofs.Common.{◌≡◌, ◌∙◌, ◌++◌, [], List, All, ap, sym, subst}
use Rattle.std.specs.Result.{is_ok}
use Rattle.std.proofs.lemmas.List.Elements.{All-append, All-nil}
use Rattle.chunk_format.specs.declared.chunk.Chunk.{Chunk}
use Rattle.replay_node.specs.Sessions.{IsOffer}
use Rattle.replay_node.specs.NodeState.{NodeState, end_of_list, queued_chunks}
use Rattle.replay_node.proofs.NodeSteps.{either_fit}
use Rattle.replay_node.proofs.node.Node.commit.Goals as goal

pub invariant_of-self-2 : goal.invariant_of-self-2
invariant_of-self-2 c =
    let chunks : c.append.new.self.items ≡ c.args.self.now.chunks ++ queued_chunks c.args.self.now =
    c.in_ok-append.ensures.items ∙ ap (λ (l : List Chunk). l ++ c.args.commits.chunks.items) (ap (λ (s : NodeState). s.chunks) c.self.view_is) ∙ ap (λ (l : List Chunk). c.args.self.now.chunks ++ l) c.requires.chunks in
    let kept = subst (All IsOffer) (sym c.in_ok-reserve.ensures.items) c.self.invariant.unconfirmed in
    record {
      end = c.requires.end ∙ ap end_of_list (sym chunks);
      queued = either_fit (is_ok c.append-2.result) [] c.self.inside.queued.items c.append-2.new.other.items c.append-2.ensures.other_items (All-nil IsOffer) c.self.invariant.queued;
      unconfirmed = either_fit (is_ok c.append-2.result) (c.reserve.new.self.items ++ c.self.inside.queued.items) c.reserve.new.self.items c.append-2.new.self.items c.append-2.ensures.items
          (All-append IsOffer c.reserve.new.self.items c.self.inside.queued.items kept c.self.invariant.queued) kept;
    }
