use Rattle.std.proofs.Common.{ap, sym, ◌∙◌, subst, ◌++◌, List}
use Rattle.chunk_format.specs.declared.chunk.Chunk.{Chunk}
use Rattle.list_machine.specs.Joining.{AllSent}
use Rattle.list_machine.proofs.ViewMoves.{commits_all}
use Rattle.list_machine.proofs.joining.moves_are_commits.Goals as goal

pub returns-clause-goes_on : goal.returns-clause-goes_on
returns-clause-goes_on c = λ stream old new more is_live same step all.
    commits_all stream more is_live (subst (AllSent stream) (step.chunks ∙ ap (λ (l : List Chunk). l ++ more) (sym same)) all)

pub returns-clause-past : goal.returns-clause-past
returns-clause-past c = λ stream view is_live on all. (on.0, on.1, commits_all stream on.0 is_live (subst (AllSent stream) on.1 all))
