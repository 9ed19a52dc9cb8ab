-- The last line of a replay, and its status.
use Rattle.std.proofs.Common.{◌≡◌, ◌≢◌, ℕ, ◌+◌, List, [], ◌++◌, length, Option, refl, sym, ap, subst, ◌∙◌, arith, inl, inr}
use Rattle.std.proofs.lemmas.List.{append-nil}
use Rattle.outside_io.specs.Causes.{HasCause, Rose}
use Rattle.outside_io.specs.Known.{after_known}
use Rattle.outside_io.proofs.KnownLaws.{added_none, added_more, taken_none}
use Rattle.replay_node.specs.declared.player.ReplayEnd.{ReplayEnd}
use Rattle.replay_node.specs.declared.player.ReplayEnd.TheVariants.{Done, Bad, ReadFault, WriteFault, Memory, TooLong}
use Rattle.replay_node.specs.NodeState.{new_node}
use Rattle.replay_node.specs.Replays.{status_of, Replays, Ends, IsWithin, end_line, bad_line}
use Rattle.replay_node.specs.Plays.{ScriptPlays, Closes}
use Rattle.replay_node.proofs.Playing.{plays_none}

-- a replay that ended so, with this tail in place of the one before
closed_as : (end other : ReplayEnd) (l0 l1 : Option (List ℕ)) (count : ℕ) (w0 w1 w2 : Option (List ℕ)) (p : ScriptPlays end l0 l1 count w0 w1) (tail : List ℕ) → w2 ≡ after_known w0 (p.given ++ tail)
    → Ends other l1 p.taken p.node count p.rest tail → IsWithin other (length p.taken) → Replays other l0 l1 w0 w2
closed_as end other l0 l1 count w0 w1 w2 p tail gave ending limit = record {
  taken = p.taken;
  given = p.given;
  rest = p.rest;
  tail = tail;
  node = p.node;
  answered = count;
  took = p.took;
  plays = p.plays;
  gave = gave;
  ending = ending;
  limit = limit;
}

-- nothing stood behind the outputs, and then the last line came
after_outputs : (w0 w1 w2 : Option (List ℕ)) (given tail last : List ℕ) → tail ≡ [] → w1 ≡ after_known w0 (given ++ tail) → w2 ≡ after_known w1 last → w2 ≡ after_known w0 (given ++ last)
after_outputs w0 w1 w2 given tail last none p q =
    added_more w0 w1 w2 (given ++ tail) last p q ∙ ap (λ (l : List ℕ). after_known w0 ((given ++ l) ++ last)) none ∙ ap (λ (l : List ℕ). after_known w0 (l ++ last)) (append-nil given)

pub closed : (end other : ReplayEnd) (l0 l1 : Option (List ℕ)) (count : ℕ) (w0 w1 w2 : Option (List ℕ)) → ScriptPlays end l0 l1 count w0 w1 → Closes end count other w1 w2 → Replays other l0 l1 w0 w2
closed Done Done l0 l1 count w0 w1 w2 p c = let s = p.ending in closed_as Done Done l0 l1 count w0 w1 w2 p end_line (after_outputs w0 w1 w2 p.given p.tail end_line s.2 p.gave c) (s.0, s.1, refl) p.limit
closed Done WriteFault l0 l1 count w0 w1 w2 p c =
    let s = p.ending in
    closed_as Done WriteFault l0 l1 count w0 w1 w2 p c.0 (after_outputs w0 w1 w2 p.given p.tail c.0 s.2 p.gave c.2) (end_line, inr (inr (s.0, s.1, refl)), c.1) p.limit
closed Bad Bad l0 l1 count w0 w1 w2 p c =
    let s = p.ending in
    closed_as Bad Bad l0 l1 count w0 w1 w2 p (bad_line (count + 1)) (after_outputs w0 w1 w2 p.given p.tail (bad_line (count + 1)) s.1 p.gave c) (s.0, refl) p.limit
closed Bad WriteFault l0 l1 count w0 w1 w2 p c =
    let s = p.ending in
    closed_as Bad WriteFault l0 l1 count w0 w1 w2 p c.0 (after_outputs w0 w1 w2 p.given p.tail c.0 s.1 p.gave c.2) (bad_line (count + 1), inr (inl (s.0, refl)), c.1) p.limit
closed Bad Memory l0 l1 count w0 w1 w2 p c = let s = p.ending in closed_as Bad Memory l0 l1 count w0 w1 w2 p p.tail (c ∙ p.gave) s.1 p.limit
closed ReadFault ReadFault l0 l1 count w0 w1 w2 p c = closed_as ReadFault ReadFault l0 l1 count w0 w1 w2 p p.tail (c ∙ p.gave) p.ending p.limit
closed WriteFault WriteFault l0 l1 count w0 w1 w2 p c =
    let s = p.ending in
    closed_as WriteFault WriteFault l0 l1 count w0 w1 w2 p p.tail (c ∙ p.gave) (s.0, inl s.1, s.2) p.limit
closed Memory Memory l0 l1 count w0 w1 w2 p c = closed_as Memory Memory l0 l1 count w0 w1 w2 p p.tail (c ∙ p.gave) p.ending p.limit
closed TooLong TooLong l0 l1 count w0 w1 w2 p c = closed_as TooLong TooLong l0 l1 count w0 w1 w2 p p.tail (c ∙ p.gave) p.ending p.limit
closed end other l0 l1 count w0 w1 w2 p c = absurd c

-- no memory for a node
pub closed_at_once : (l w : Option (List ℕ)) → Replays Memory l l w w
closed_at_once l w = record {
  taken = [];
  given = [];
  rest = [];
  tail = [];
  node = new_node;
  answered = 0;
  took = taken_none l;
  plays = plays_none new_node [];
  gave = added_none w;
  ending = refl;
  limit = omega arith;
}

read_status : (end : ReplayEnd) → status_of end ≡ 4 → end ≡ ReadFault
read_status Done e = absurd (omega arith)
read_status Bad e = absurd (omega arith)
read_status ReadFault e = refl
read_status WriteFault e = absurd (omega arith)
read_status Memory e = absurd (omega arith)
read_status TooLong e = absurd (omega arith)

write_status : (end : ReplayEnd) → status_of end ≡ 5 → end ≡ WriteFault
write_status Done e = absurd (omega arith)
write_status Bad e = absurd (omega arith)
write_status ReadFault e = absurd (omega arith)
write_status WriteFault e = refl
write_status Memory e = absurd (omega arith)
write_status TooLong e = absurd (omega arith)

closed_read : (end : ReplayEnd) (count : ℕ) (w w' : Option (List ℕ)) → Closes end count ReadFault w w' → end ≡ ReadFault
closed_read ReadFault count w w' c = refl
closed_read Done count w w' c = absurd c
closed_read Bad count w w' c = absurd c
closed_read WriteFault count w w' c = absurd c
closed_read Memory count w w' c = absurd c
closed_read TooLong count w w' c = absurd c

-- the source's count rose where the status is 4
pub read_cause : (end other : ReplayEnd) (count status before now : ℕ) (w w' : Option (List ℕ)) → status ≡ status_of other → Closes end count other w w' → HasCause before now (end ≡ ReadFault) → status ≡ 4 → Rose before now
read_cause end other count status before now w w' is c cause four =
    let other_is : other ≡ ReadFault = read_status other (sym is ∙ four) in
    cause.failed (closed_read end count w w' (subst (λ (x : ReplayEnd). Closes end count x w w') other_is c))

closed_write : (end other : ReplayEnd) (before mid now : ℕ) → other ≡ WriteFault → HasCause before mid (end ≡ WriteFault) → HasCause mid now ((other ≡ WriteFault) × (end ≢ WriteFault)) → Rose before now
closed_write WriteFault other before mid now is p q = let rose = p.failed refl in let later = q.later in omega (arith, rose)
closed_write Done other before mid now is p q = let rose = q.failed (is, λ e. absurd cc) in let later = p.later in omega (arith, rose)
closed_write Bad other before mid now is p q = let rose = q.failed (is, λ e. absurd cc) in let later = p.later in omega (arith, rose)
closed_write ReadFault other before mid now is p q = let rose = q.failed (is, λ e. absurd cc) in let later = p.later in omega (arith, rose)
closed_write Memory other before mid now is p q = let rose = q.failed (is, λ e. absurd cc) in let later = p.later in omega (arith, rose)
closed_write TooLong other before mid now is p q = let rose = q.failed (is, λ e. absurd cc) in let later = p.later in omega (arith, rose)

-- the sink's count rose where the status is 5
pub write_cause : (end other : ReplayEnd) (status before mid now : ℕ) → status ≡ status_of other → HasCause before mid (end ≡ WriteFault) → HasCause mid now ((other ≡ WriteFault) × (end ≢ WriteFault)) → status ≡ 5 → Rose before now
write_cause end other status before mid now is p q five = closed_write end other before mid now (write_status other (sym is ∙ five)) p q
