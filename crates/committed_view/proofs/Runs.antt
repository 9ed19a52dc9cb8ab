-- What a pass polls goes on from all that it polled and learnt before.
use Rattle.std.proofs.Common.{List, [], ◌∷◌, ◌++◌, subst}
use Rattle.chunk_format.specs.Logs.{GoesOn}
use Rattle.committed_view.specs.Published.{Chunks, Known, newest, Polls, PollFails, Learns, Act, Learnt, Polled, Failed, Run, BeginsWithEach, GoesOnFromAll}
use Rattle.committed_view.proofs.Lists.{goes_trans, begins_later, begins_front}

-- what the list that is polled last goes on from
record Owed (old : Known) (acts : List Act) (list : Chunks) : Type 0 where
  pub newest : GoesOn (newest old.published) list
  pub told : BeginsWithEach old.told list
  pub past : GoesOnFromAll acts list

learnt : (old next : Known) (told list : Chunks) (acts : List Act) → Learns old told next → Owed next acts list → Owed old (Learnt told ∷ acts) list
learnt old next told list acts does owed =
    let each = begins_front old.told told list (subst (λ (t : List Chunks). BeginsWithEach t list) does.1 owed.told) in record {
      newest = subst (λ (p : List Chunks). GoesOn (newest p) list) does.0 owed.newest;
      told = each.0;
      past = (each.1, owed.past);
    }

polled : (old next : Known) (before list : Chunks) (acts : List Act) → Polls old before next → Owed next acts list → Owed old (Polled before ∷ acts) list
polled old next before list acts does owed =
    let goes : GoesOn before list = subst (λ (l : Chunks). GoesOn l list) does.whole owed.newest in record {
      newest = goes_trans (newest old.published) before list does.before goes;
      told = begins_later old.told before list does.told goes;
      past = (goes, owed.past);
    }

failed : (old next : Known) (list : Chunks) (acts : List Act) → PollFails old next → Owed next acts list → Owed old (Failed ∷ acts) list
failed old next list acts does owed = record {
  newest = goes_trans (newest old.published) (newest next.published) list does.before owed.newest;
  told = subst (λ (t : List Chunks). BeginsWithEach t list) does.told owed.told;
  past = owed.past;
}

owed : (old new : Known) (acts : List Act) (list : Chunks) → Run old (acts ++ Polled list ∷ []) new → Owed old acts list
owed old new [] list run = record { newest = run.1.before; told = run.1.told; past = tt }
owed old new (Learnt told ∷ acts) list run = learnt old run.0 told list acts run.1 (owed run.0 new acts list run.2)
owed old new (Polled before ∷ acts) list run = polled old run.0 before list acts run.1 (owed run.0 new acts list run.2)
owed old new (Failed ∷ acts) list run = failed old run.0 list acts run.1 (owed run.0 new acts list run.2)

pub polls_go_on : (old new : Known) (acts : List Act) (list : Chunks) → Run old (acts ++ Polled list ∷ []) new → GoesOnFromAll acts list
polls_go_on old new acts list run = (owed old new acts list run).past
