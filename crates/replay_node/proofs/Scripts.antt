-- A script that is read in pieces.
use Rattle.std.proofs.Common.{◌≡◌, ℕ, ◌+◌, ◌<◌, ◌≤◌, List, [], ◌++◌, length, Option, refl, sym, ap, subst, ◌∙◌, append_assoc, length-append, arith, inl, inr}
use Rattle.std.proofs.lemmas.List.{append-nil}
use Rattle.outside_io.specs.Known.{before_known, after_known, IsEmptyKnown}
use Rattle.outside_io.proofs.KnownLaws.{added_none, added_more, taken_none, taken_more}
use Rattle.replay_node.specs.declared.player.ReplayEnd.{ReplayEnd}
use Rattle.replay_node.specs.declared.player.ReplayEnd.TheVariants.{Done, Bad, ReadFault, WriteFault, Memory, TooLong}
use Rattle.replay_node.specs.NodeState.{NodeState, new_node}
use Rattle.replay_node.specs.Replays.{most_bytes, IsOpen, IsWithin, Plays}
use Rattle.replay_node.specs.Plays.{StopsAt, PiecePlays, ScriptSoFar, ScriptPlays, Stops}
use Rattle.replay_node.proofs.Playing.{plays_none, plays_then, plays_more, no_feed_is_bad}

-- at the start
pub script_start : (left written : Option (List ℕ)) (node : NodeState) (line : List ℕ) (count : ℕ) → node ≡ new_node → line ≡ [] → count ≡ 0 → ScriptSoFar left left node line count 0 written written
script_start left written node line count is none zero =
    let at_start : ScriptSoFar left left new_node [] 0 0 written written = record { taken = []; given = []; took = taken_none left; plays = plays_none new_node []; gave = added_none written; size = refl } in
    subst (λ (n : NodeState). ScriptSoFar left left n line count 0 written written) (sym is)
    (subst (λ (l : List ℕ). ScriptSoFar left left new_node l count 0 written written) (sym none) (subst (λ (k : ℕ). ScriptSoFar left left new_node [] k 0 written written) (sym zero) at_start))

-- what a piece adds
piece_more : (end : ReplayEnd) (l0 l1 : Option (List ℕ)) (node new : NodeState) (line piece next_line : List ℕ) (n m t : ℕ) (w0 w1 w2 : Option (List ℕ)) (p : ScriptSoFar l0 l1 node line n t w0 w1)
    (q : PiecePlays end node new (line ++ piece) next_line n m w1 w2) → Plays new_node q.node (p.taken ++ piece) q.rest (p.given ++ q.given) m
piece_more end l0 l1 node new line piece next_line n m t w0 w1 w2 p q =
    subst (λ (k : ℕ). Plays new_node q.node (p.taken ++ piece) q.rest (p.given ++ q.given) k) (sym q.count)
    (plays_then new_node node q.node (p.taken ++ piece) (line ++ piece) q.rest p.given q.given n q.answered (plays_more new_node node p.taken line p.given piece n p.plays) q.plays)

pub script_piece : (l0 l1 l2 : Option (List ℕ)) (node new : NodeState) (line piece next_line : List ℕ) (n m t k : ℕ) (w0 w1 w2 : Option (List ℕ)) → ScriptSoFar l0 l1 node line n t w0 w1 → l1 ≡ before_known piece l2
    → length piece ≡ k → PiecePlays Done node new (line ++ piece) next_line n m w1 w2 → ScriptSoFar l0 l2 new next_line m (t + k) w0 w2 × IsOpen next_line
script_piece l0 l1 l2 node new line piece next_line n m t k w0 w1 w2 p took is q =
    let stops = q.ending in
    let more = piece_more Done l0 l1 node new line piece next_line n m t w0 w1 w2 p q in (
      record {
        taken = p.taken ++ piece;
        given = p.given ++ q.given;
        took = taken_more l0 l1 l2 p.taken piece p.took took;
        plays = subst (λ (l : List ℕ). Plays new_node new (p.taken ++ piece) l (p.given ++ q.given) m) (sym stops.1)
            (subst (λ (x : NodeState). Plays new_node x (p.taken ++ piece) q.rest (p.given ++ q.given) m) (sym (q.same refl)) more);
        gave = added_more w0 w1 w2 p.given q.given p.gave (q.gave ∙ ap (λ (x : List ℕ). after_known w1 (q.given ++ x)) stops.2 ∙ ap (after_known w1) (append-nil q.given));
        size = length-append p.taken piece ∙ ap (λ (x : ℕ). x + length piece) p.size ∙ ap (λ (x : ℕ). t + x) is;
      },
      subst IsOpen (sym stops.1) stops.0,
    )

stopped_as : (end : ReplayEnd) (left : Option (List ℕ)) (taken line rest tail : List ℕ) (node : NodeState) → (end ≡ Done → ⊥) → StopsAt end node line rest tail → Stops end left taken node rest tail
stopped_as Done left taken line rest tail node not_done s = absurd (not_done refl)
stopped_as Bad left taken line rest tail node not_done s = (inl s.0, s.1)
stopped_as ReadFault left taken line rest tail node not_done s = absurd s
stopped_as WriteFault left taken line rest tail node not_done s = s
stopped_as Memory left taken line rest tail node not_done s = s
stopped_as TooLong left taken line rest tail node not_done s = absurd s

within : (end : ReplayEnd) (left : Option (List ℕ)) (line rest tail : List ℕ) (node : NodeState) (size : ℕ) → size ≤ most_bytes → StopsAt end node line rest tail → IsWithin end size
within Done left line rest tail node size le s = le
within Bad left line rest tail node size le s = le
within ReadFault left line rest tail node size le s = le
within WriteFault left line rest tail node size le s = le
within Memory left line rest tail node size le s = le
within TooLong left line rest tail node size le s = absurd s

pub script_stopped : (end : ReplayEnd) (l0 l1 l2 : Option (List ℕ)) (node new : NodeState) (line piece next_line : List ℕ) (n m t k : ℕ) (w0 w1 w2 : Option (List ℕ)) → (end ≡ Done → ⊥) → ScriptSoFar l0 l1 node line n t w0 w1
    → l1 ≡ before_known piece l2 → length piece ≡ k → t + k ≤ most_bytes → PiecePlays end node new (line ++ piece) next_line n m w1 w2 → ScriptPlays end l0 l2 m w0 w2
script_stopped end l0 l1 l2 node new line piece next_line n m t k w0 w1 w2 not_done p took is le q = record {
  taken = p.taken ++ piece;
  given = p.given ++ q.given;
  rest = q.rest;
  tail = q.tail;
  node = q.node;
  took = taken_more l0 l1 l2 p.taken piece p.took took;
  plays = piece_more end l0 l1 node new line piece next_line n m t w0 w1 w2 p q;
  gave = added_more w0 w1 w2 p.given (q.given ++ q.tail) p.gave q.gave ∙ ap (after_known w0) (sym (append_assoc p.given q.given q.tail));
  ending = stopped_as end l2 (p.taken ++ piece) next_line q.rest q.tail q.node not_done q.ending;
  limit = within end l2 next_line q.rest q.tail q.node (length (p.taken ++ piece)) (let size = p.size in omega (arith, length-append p.taken piece)) q.ending;
}

-- nothing more was read
script_at : (end : ReplayEnd) (l0 l1 l2 : Option (List ℕ)) (node : NodeState) (line : List ℕ) (n t : ℕ) (w0 w1 : Option (List ℕ)) (p : ScriptSoFar l0 l1 node line n t w0 w1) → l2 ≡ l1
    → Stops end l2 p.taken node line [] → IsWithin end t → ScriptPlays end l0 l2 n w0 w1
script_at end l0 l1 l2 node line n t w0 w1 p same stops limit = record {
  taken = p.taken;
  given = p.given;
  rest = line;
  tail = [];
  node = node;
  took = p.took ∙ ap (before_known p.taken) (sym same);
  plays = p.plays;
  gave = p.gave ∙ ap (after_known w0) (sym (append-nil p.given));
  ending = stops;
  limit = subst (IsWithin end) (sym p.size) limit;
}

pub script_read_fault : (l0 l1 l2 : Option (List ℕ)) (node : NodeState) (line : List ℕ) (n t : ℕ) (w0 w1 : Option (List ℕ)) → ScriptSoFar l0 l1 node line n t w0 w1 → l2 ≡ l1 → IsOpen line → t ≤ most_bytes
    → ScriptPlays ReadFault l0 l2 n w0 w1
script_read_fault l0 l1 l2 node line n t w0 w1 p same begun le = script_at ReadFault l0 l1 l2 node line n t w0 w1 p same (begun, refl) le

ended : (end : ReplayEnd) (left : Option (List ℕ)) (taken line : List ℕ) (node : NodeState) → IsEmptyKnown left → IsOpen line → (end ≡ Done → line ≡ []) → ((end ≡ Done → ⊥) → (end ≡ Bad) × (1 ≤ length line))
    → Stops end left taken node line []
ended Done left taken line node none begun done bad = (done refl, none, refl)
ended Bad left taken line node none begun done bad =
    (inr (record { some = (bad (λ e. absurd cc)).1; lacks = begun.lacks; ended = none; bad = no_feed_is_bad node line begun.lacks }), refl)
ended ReadFault left taken line node none begun done bad = let wrong = (bad (λ e. absurd cc)).0 in absurd cc
ended WriteFault left taken line node none begun done bad = let wrong = (bad (λ e. absurd cc)).0 in absurd cc
ended Memory left taken line node none begun done bad = let wrong = (bad (λ e. absurd cc)).0 in absurd cc
ended TooLong left taken line node none begun done bad = let wrong = (bad (λ e. absurd cc)).0 in absurd cc

ended_within : (end : ReplayEnd) (line : List ℕ) (t : ℕ) → t ≤ most_bytes → ((end ≡ Done → ⊥) → (end ≡ Bad) × (1 ≤ length line)) → IsWithin end t
ended_within Done line t le bad = le
ended_within Bad line t le bad = le
ended_within ReadFault line t le bad = le
ended_within WriteFault line t le bad = le
ended_within Memory line t le bad = le
ended_within TooLong line t le bad = let wrong = (bad (λ e. absurd cc)).0 in absurd cc

pub script_ended : (end : ReplayEnd) (l0 l1 l2 : Option (List ℕ)) (node : NodeState) (line : List ℕ) (n t : ℕ) (w0 w1 : Option (List ℕ)) → ScriptSoFar l0 l1 node line n t w0 w1 → IsEmptyKnown l1 → l2 ≡ l1 → IsOpen line → t ≤ most_bytes
    → (end ≡ Done → line ≡ []) → ((end ≡ Done → ⊥) → (end ≡ Bad) × (1 ≤ length line)) → ScriptPlays end l0 l2 n w0 w1
script_ended end l0 l1 l2 node line n t w0 w1 p none same begun le done bad =
    script_at end l0 l1 l2 node line n t w0 w1 p same (ended end l2 p.taken line node (subst IsEmptyKnown (sym same) none) begun done bad) (ended_within end line t le bad)

pub script_too_long : (l0 l1 l2 : Option (List ℕ)) (node : NodeState) (line piece : List ℕ) (n t k : ℕ) (w0 w1 : Option (List ℕ)) → ScriptSoFar l0 l1 node line n t w0 w1 → l1 ≡ before_known piece l2 → length piece ≡ k → t ≤ most_bytes
    → most_bytes < t + k → IsOpen line → ScriptPlays TooLong l0 l2 n w0 w1
script_too_long l0 l1 l2 node line piece n t k w0 w1 p took is le long begun = record {
  taken = p.taken ++ piece;
  given = p.given;
  rest = line ++ piece;
  tail = [];
  node = node;
  took = taken_more l0 l1 l2 p.taken piece p.took took;
  plays = plays_more new_node node p.taken line p.given piece n p.plays;
  gave = p.gave ∙ ap (after_known w0) (sym (append-nil p.given));
  ending = (p.taken, line, piece, refl, subst (λ (x : ℕ). x ≤ most_bytes) (sym p.size) le, refl, begun, refl);
  limit = let size = p.size in omega (arith, length-append p.taken piece);
}

pub not_read_fault : (end : ReplayEnd) (old new : NodeState) (stream line : List ℕ) (n m : ℕ) (w w' : Option (List ℕ)) → PiecePlays end old new stream line n m w w' → end ≡ ReadFault → ⊥
not_read_fault end old new stream line n m w w' q e = subst (λ (x : ReplayEnd). StopsAt x q.node line q.rest q.tail) e q.ending
