-- The lines that a piece completes.
use Rattle.std.proofs.Common.{◌≡◌, ◌≢◌, ℕ, ◌+◌, ◌<◌, ◌≤◌, List, [], ◌∷◌, ◌++◌, length, take, drop, Option, refl, sym, ap, subst, ◌∙◌, append_assoc, length-append, arith, inl, inr}
use Rattle.std.proofs.lemmas.List.{append-nil, take-append-drop, take_at, length-take}
use Rattle.std.proofs.lemmas.List.Elements.{All-append, All-nil}
use Rattle.outside_io.specs.Known.{after_known}
use Rattle.outside_io.specs.Causes.{HasCause}
use Rattle.outside_io.specs.declared.sink.Gave.TheVariants as gave
use Rattle.outside_io.proofs.KnownLaws.{added_none, added_more}
use Rattle.replay_node.specs.declared.player.ReplayEnd.{ReplayEnd}
use Rattle.replay_node.specs.declared.player.ReplayEnd.TheVariants.{Done, Bad, ReadFault, WriteFault, Memory, TooLong}
use Rattle.script_text.specs.Words.{line_feed, Lacks, SplitsAt}
use Rattle.script_text.specs.Script.{line_bytes, longest_line}
use Rattle.replay_node.specs.NodeState.{NodeState}
use Rattle.replay_node.specs.Replays.{IsOpen, IsComplete, IsBadNext, IsNextGiven, Plays, outputs_bytes}
use Rattle.replay_node.specs.Plays.{Cuts, AnswersOne, SoFar, StopsAt, PiecePlays, IsLineEnd}
use Rattle.replay_node.proofs.Playing.{plays_none, plays_line, plays_then, plays_more, no_feed_is_bad}

pub cut_one : (old new : Option (List ℕ)) (bytes : List ℕ) (k : ℕ) → new ≡ after_known old (take k bytes) → Cuts gave.Failed bytes old new
cut_one old new bytes k e = (take k bytes, (drop k bytes, sym (take-append-drop k bytes)), e)

-- nothing was answered
pub stopped_at_once : (end : ReplayEnd) (node new : NodeState) (stream line tail : List ℕ) (n : ℕ) (old_written new_written : Option (List ℕ)) → new_written ≡ after_known old_written tail → StopsAt end node line stream tail
    → (end ≡ Done → new ≡ node) → PiecePlays end node new stream line n n old_written new_written
stopped_at_once end node new stream line tail n old_written new_written wrote stops same = record {
  rest = stream;
  tail = tail;
  given = [];
  answered = 0;
  node = node;
  plays = plays_none node stream;
  count = omega arith;
  gave = wrote;
  ending = stops;
  same = same;
}

nothing_written : (old new : Option (List ℕ)) → new ≡ old → new ≡ after_known old []
nothing_written old new e = e ∙ added_none old

whole_line : (line part : List ℕ) → IsOpen line → IsLineEnd part → IsComplete (line ++ part)
whole_line line part begun ends =
    inl (line ++ ends.0, ap (λ (l : List ℕ). line ++ l) ends.1 ∙ sym (append_assoc line ends.0 (line_feed ∷ [])), All-append (λ b. b ≢ line_feed) line ends.0 begun.lacks ends.2)

-- a line that stopped it
pub line_stopped : (end : ReplayEnd) (old new : NodeState) (line part pushed next_line : List ℕ) (n : ℕ) (w w' : Option (List ℕ)) → pushed ≡ line ++ part → (end ≡ Done → ⊥) → IsOpen line → IsLineEnd part
    → AnswersOne end old pushed new w w' → PiecePlays end old new (line ++ part) next_line n n w w'
line_stopped Done old new line part pushed next_line n w w' is not_done begun ends a = absurd (not_done refl)
line_stopped Bad old new line part pushed next_line n w w' is not_done begun ends a =
    let bad : IsBadNext old (line ++ part) = record {
      line = line ++ part;
      more = [];
      parts = sym (append-nil (line ++ part));
      complete = whole_line line part begun ends;
      bad = rw is at a.0;
    } in
    stopped_at_once Bad old new (line ++ part) next_line [] n w w' (nothing_written w w' a.2) (bad, refl) (λ e. absurd cc)
line_stopped ReadFault old new line part pushed next_line n w w' is not_done begun ends a = absurd a
line_stopped WriteFault old new line part pushed next_line n w w' is not_done begun ends a =
    let given : IsNextGiven old (line ++ part) (outputs_bytes a.2) = record {
      line = a.0;
      more = [];
      parts = sym is ∙ a.1.spelled ∙ sym (append-nil (line_bytes a.0));
      valid = a.1.valid;
      outputs = a.2;
      after = new;
      gives = a.3;
      is = refl;
    } in
    stopped_at_once WriteFault old new (line ++ part) next_line a.4 n w w' a.6 (outputs_bytes a.2, given, a.5) (λ e. absurd cc)
line_stopped Memory old new line part pushed next_line n w w' is not_done begun ends a =
    stopped_at_once Memory old new (line ++ part) next_line [] n w w' (nothing_written w w' a.1) refl (λ e. absurd cc)
line_stopped TooLong old new line part pushed next_line n w w' is not_done begun ends a = absurd a

-- a line that was answered
pub line_done : (old new : NodeState) (line part pushed next_line : List ℕ) (n : ℕ) (w w' : Option (List ℕ)) → pushed ≡ line ++ part → next_line ≡ [] → AnswersOne Done old pushed new w w'
    → PiecePlays Done old new (line ++ part) next_line n (n + 1) w w'
line_done old new line part pushed next_line n w w' is fresh a = record {
  rest = [];
  tail = [];
  given = outputs_bytes a.2;
  answered = 1;
  node = new;
  plays = subst (λ (s : List ℕ). Plays old new s [] (outputs_bytes a.2) 1) is (plays_line old new pushed a.0 a.2 a.1 a.3);
  count = refl;
  gave = a.4 ∙ ap (after_known w) (sym (append-nil (outputs_bytes a.2)));
  ending = (record { lacks = All-nil (λ b. b ≢ line_feed); short = omega arith }, fresh, refl);
  same = λ e. refl;
}

-- no memory for the end of a line
pub no_memory : (node : NodeState) (stream line : List ℕ) (n : ℕ) (w : Option (List ℕ)) → PiecePlays Memory node node stream line n n w w
no_memory node stream line n w = stopped_at_once Memory node node stream line [] n w w (added_none w) refl (λ e. refl)

-- the part of a piece up to its first line feed
pub line_end : (rest part : List ℕ) (k : ℕ) → k < length rest → SplitsAt line_feed rest (take k rest) (drop (k + 1) rest) → part ≡ take (k + 1) rest → IsLineEnd part × (rest ≡ part ++ drop (k + 1) rest)
line_end rest part k lt split is =
    let text : List ℕ = take k rest in
    let front : List ℕ = text ++ line_feed ∷ [] in
    let whole : rest ≡ front ++ drop (k + 1) rest = split.0 ∙ sym (append_assoc text (line_feed ∷ []) (drop (k + 1) rest)) in
    let len : length front ≡ k + 1 = omega (arith, length-append text (line_feed ∷ []), length-take k rest) in
    let taken : take (k + 1) rest ≡ front = ap (take (k + 1)) whole ∙ take_at front (drop (k + 1) rest) (k + 1) len in
    ((text, is ∙ taken, split.1), whole ∙ ap (λ (l : List ℕ). l ++ drop (k + 1) rest) (sym (is ∙ taken)))

-- at the start of a piece
pub so_far_none : (node : NodeState) (stream : List ℕ) (n : ℕ) (w : Option (List ℕ)) → SoFar node node stream stream n n w w
so_far_none node stream n w = record { given = []; answered = 0; plays = plays_none node stream; count = omega arith; gave = added_none w }

regroup : (line part rest more : List ℕ) → rest ≡ part ++ more → (line ++ part) ++ more ≡ line ++ rest
regroup line part rest more e = append_assoc line part more ∙ ap (λ (l : List ℕ). line ++ l) (sym e)

-- a line more
pub so_far_line : (a b c : NodeState) (stream line rest part more next_line : List ℕ) (n m k : ℕ) (w w1 w2 : Option (List ℕ)) → SoFar a b stream (line ++ rest) n m w w1 → PiecePlays Done b c (line ++ part) next_line m k w1 w2
    → rest ≡ part ++ more → SoFar a c stream (next_line ++ more) n k w w2
so_far_line a b c stream line rest part more next_line n m k w w1 w2 p q e =
    let one : Plays b q.node (line ++ rest) (q.rest ++ more) q.given q.answered =
    subst (λ (s : List ℕ). Plays b q.node s (q.rest ++ more) q.given q.answered) (regroup line part rest more e) (plays_more b q.node (line ++ part) q.rest q.given more q.answered q.plays) in
    let here : Plays b c (line ++ rest) (next_line ++ more) q.given q.answered =
    subst (λ (s : List ℕ). Plays b c (line ++ rest) (s ++ more) q.given q.answered) (sym q.ending.1)
    (subst (λ (x : NodeState). Plays b x (line ++ rest) (q.rest ++ more) q.given q.answered) (sym (q.same refl)) one) in
    record {
      given = p.given ++ q.given;
      answered = p.answered + q.answered;
      plays = plays_then a b c stream (line ++ rest) (next_line ++ more) p.given q.given p.answered q.answered p.plays here;
      count = let e1 = p.count in let e2 = q.count in omega arith;
      gave = added_more w w1 w2 p.given q.given p.gave (q.gave ∙ ap (λ (t : List ℕ). after_known w1 (q.given ++ t)) q.ending.2 ∙ ap (after_known w1) (append-nil q.given));
    }

stops_more : (end : ReplayEnd) (node : NodeState) (line rest tail more : List ℕ) → (end ≡ Done → ⊥) → StopsAt end node line rest tail → StopsAt end node line (rest ++ more) tail
stops_more Done node line rest tail more not_done s = absurd (not_done refl)
stops_more Bad node line rest tail more not_done s =
    let b = s.0 in
    (record { line = b.line; more = b.more ++ more; parts = ap (λ (l : List ℕ). l ++ more) b.parts ∙ append_assoc b.line b.more more; complete = b.complete; bad = b.bad }, s.1)
stops_more ReadFault node line rest tail more not_done s = absurd s
stops_more WriteFault node line rest tail more not_done s =
    let b = s.1 in (
      s.0,
      record {
        line = b.line;
        more = b.more ++ more;
        parts = ap (λ (l : List ℕ). l ++ more) b.parts ∙ append_assoc (line_bytes b.line) b.more more;
        valid = b.valid;
        outputs = b.outputs;
        after = b.after;
        gives = b.gives;
        is = b.is;
      },
      s.2,
    )
stops_more Memory node line rest tail more not_done s = s
stops_more TooLong node line rest tail more not_done s = absurd s

-- a line stopped it
pub so_far_stopped : (end : ReplayEnd) (a b c : NodeState) (stream line rest part more next_line : List ℕ) (n m k : ℕ) (w w1 w2 : Option (List ℕ)) → (end ≡ Done → ⊥) → SoFar a b stream (line ++ rest) n m w w1
    → PiecePlays end b c (line ++ part) next_line m k w1 w2 → rest ≡ part ++ more → PiecePlays end a c stream next_line n k w w2
so_far_stopped end a b c stream line rest part more next_line n m k w w1 w2 not_done p q e =
    let one : Plays b q.node (line ++ rest) (q.rest ++ more) q.given q.answered =
    subst (λ (s : List ℕ). Plays b q.node s (q.rest ++ more) q.given q.answered) (regroup line part rest more e) (plays_more b q.node (line ++ part) q.rest q.given more q.answered q.plays) in
    record {
      rest = q.rest ++ more;
      tail = q.tail;
      given = p.given ++ q.given;
      answered = p.answered + q.answered;
      node = q.node;
      plays = plays_then a b q.node stream (line ++ rest) (q.rest ++ more) p.given q.given p.answered q.answered p.plays one;
      count = let e1 = p.count in let e2 = q.count in omega arith;
      gave = added_more w w1 w2 p.given (q.given ++ q.tail) p.gave q.gave ∙ ap (after_known w) (sym (append_assoc p.given q.given q.tail));
      ending = stops_more end q.node next_line q.rest q.tail more not_done q.ending;
      same = λ done. absurd (not_done done);
    }

-- the piece has no line feed any more
pub so_far_end : (end : ReplayEnd) (a b : NodeState) (stream line rest next_line : List ℕ) (n m : ℕ) (w w1 : Option (List ℕ)) → SoFar a b stream (line ++ rest) n m w w1 → StopsAt end b next_line (line ++ rest) []
    → PiecePlays end a b stream next_line n m w w1
so_far_end end a b stream line rest next_line n m w w1 p stops = record {
  rest = line ++ rest;
  tail = [];
  given = p.given;
  answered = p.answered;
  node = b;
  plays = p.plays;
  count = p.count;
  gave = p.gave ∙ ap (after_known w) (sym (append-nil p.given));
  ending = stops;
  same = λ e. refl;
}

pub still_begun : (line rest next_line : List ℕ) → IsOpen line → Lacks line_feed rest → next_line ≡ line ++ rest → length next_line ≤ longest_line → IsOpen (line ++ rest)
still_begun line rest next_line begun lacks is short = record { lacks = All-append (λ b. b ≢ line_feed) line rest begun.lacks lacks; short = subst (λ (l : List ℕ). length l ≤ longest_line) is short }

pub grew_too_long : (node : NodeState) (line rest next_line : List ℕ) → IsOpen line → Lacks line_feed rest → next_line ≡ line ++ rest → longest_line < length next_line → IsBadNext node (line ++ rest)
grew_too_long node line rest next_line begun lacks is long =
    let all : Lacks line_feed (line ++ rest) = All-append (λ b. b ≢ line_feed) line rest begun.lacks lacks in
    record {
      line = line ++ rest;
      more = [];
      parts = sym (append-nil (line ++ rest));
      complete = inr (all, subst (λ (l : List ℕ). longest_line < length l) is long);
      bad = no_feed_is_bad node (line ++ rest) all;
    }

-- a cause is one over the calls before, too
pub cause_since : (before mid now : ℕ) (Failed : Type 0) → before ≤ mid → HasCause mid now Failed → HasCause before now Failed
cause_since before mid now Failed le cause = record {
  later = let later = cause.later in omega arith;
  failed = λ failed. let rose = cause.failed failed in omega (arith, rose);
}

pub open_none : (line : List ℕ) → line ≡ [] → IsOpen line
open_none line none = subst IsOpen (sym none) (record { lacks = All-nil (λ b. b ≢ line_feed); short = omega arith })
