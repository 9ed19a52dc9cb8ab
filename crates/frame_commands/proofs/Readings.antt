-- The commands of a stream: one reading, piece by piece or at once.
use Rattle.std.proofs.Common.{◌≡◌, ℕ, ◌^◌, ◌<◌, List, [], ◌∷◌, ◌++◌, All, true, refl, sym, ap, subst, ◌∙◌, append_assoc, arith, inl}
use Rattle.std.specs.List.{flat_map}
use Rattle.std.proofs.lemmas.List.{append-nil, append_cancel_left}
use Rattle.std.proofs.lemmas.List.Elements.{All-nil}
use Rattle.frame_wire.specs.declared.stream.StreamEnd.TheVariants as ends
use Rattle.frame_wire.specs.Frames.{frame, IsPartial, IsTooLarge, IsBody, stream_of, Frames, TooBig}
use Rattle.frame_wire.proofs.Streams.{one_cut, one_more, each_more, cuts_then}
use Rattle.command_fields.proofs.TableLaws.{table_apart}
use Rattle.command_data.specs.declared.command.DataCommand.{DataCommand}
use Rattle.command_data.specs.Commands.{DataSpells, data_table}
use Rattle.command_data.proofs.DataLaws.{data_lawful}
use Rattle.frame_commands.specs.Fronts.{Adds}
use Rattle.frame_commands.specs.Given.{AreSpelled, CommandsOf}
use Rattle.frame_commands.specs.Laws.{OneReading, Joins, Splits, InTwo}
use Rattle.frame_commands.proofs.Cuts.{two_parts}

-- ---- what bodies spell

spelled_once : (bodies : List (List ℕ)) (cs ds : List DataCommand) → AreSpelled bodies cs → AreSpelled bodies ds → cs ≡ ds
spelled_once [] [] [] p q = refl
spelled_once [] [] (d ∷ ds) p q = absurd q
spelled_once [] (c ∷ cs) ds p q = absurd p
spelled_once (body ∷ bodies) [] ds p q = absurd p
spelled_once (body ∷ bodies) (c ∷ cs) [] p q = absurd q
spelled_once (body ∷ bodies) (c ∷ cs) (d ∷ ds) p q =
    ap (λ (x : DataCommand). x ∷ cs) (table_apart data_table data_lawful c d body p.0 q.0) ∙ ap (λ (xs : List DataCommand). d ∷ xs) (spelled_once bodies cs ds p.1 q.1)

spelled_both : (xs ys : List (List ℕ)) (cs ds : List DataCommand) → AreSpelled xs cs → AreSpelled ys ds → AreSpelled (xs ++ ys) (cs ++ ds)
spelled_both [] ys [] ds p q = q
spelled_both [] ys (c ∷ cs) ds p q = absurd p
spelled_both (x ∷ xs) ys [] ds p q = absurd p
spelled_both (x ∷ xs) ys (c ∷ cs) ds p q = (p.0, spelled_both xs ys cs ds p.1 q)

record Apart (xs ys : List (List ℕ)) (es : List DataCommand) : Type 0 where
  before : List DataCommand
  behind : List DataCommand
  of_first : AreSpelled xs before
  of_second : AreSpelled ys behind
  joined : es ≡ before ++ behind

spelled_apart : (xs ys : List (List ℕ)) (es : List DataCommand) → AreSpelled (xs ++ ys) es → Apart xs ys es
spelled_apart [] ys es p = record { before = []; behind = es; of_first = tt; of_second = p; joined = refl }
spelled_apart (x ∷ xs) ys [] p = absurd p
spelled_apart (x ∷ xs) ys (e ∷ es) p =
    let a = spelled_apart xs ys es p.1 in
    record { before = e ∷ a.before; behind = a.behind; of_first = (p.0, a.of_first); of_second = a.of_second; joined = ap (λ (cs : List DataCommand). e ∷ cs) a.joined }

-- ---- the laws

pub one_reading : OneReading
one_reading max stream cs ds r q small one other =
    let same = (one_cut max small stream one.bodies other.bodies r q ends.Open ends.Open one.framed other.framed).0 in
    let spelled : AreSpelled one.bodies ds = subst (λ (xs : List (List ℕ)). AreSpelled xs ds) (sym same) other.spelled in
    let rests : stream_of one.bodies r ≡ stream_of one.bodies q = sym one.framed.whole ∙ other.framed.whole ∙ ap (λ (xs : List (List ℕ)). stream_of xs q) (sym same) in
    (spelled_once one.bodies cs ds one.spelled spelled, append_cancel_left (flat_map frame one.bodies) r q rests)

pub joins : Joins
joins max held x y cs ds r q one other =
    let framed : Frames max ((held ++ x) ++ y) (one.bodies ++ other.bodies) q = cuts_then max (held ++ x) y one.bodies other.bodies r q ends.Open one.framed other.framed in
    record {
      bodies = one.bodies ++ other.bodies;
      framed = subst (λ (s : List ℕ). Frames max s (one.bodies ++ other.bodies) q) (append_assoc held x y) framed;
      spelled = spelled_both one.bodies other.bodies cs ds one.spelled other.spelled;
    }

in_two : (max : ℕ) → max < 2 ^ 32 → (a b : List ℕ) (es : List DataCommand) (q : List ℕ) → CommandsOf max (a ++ b) es q → InTwo max a b es q
in_two max small a b es q all =
    let p = two_parts max small a b all.bodies q all.framed in
    let s = spelled_apart p.before p.behind es (subst (λ (xs : List (List ℕ)). AreSpelled xs es) p.joined all.spelled) in
    record {
      before = s.before;
      left = p.left;
      behind = s.behind;
      of_first = record { bodies = p.before; framed = p.of_first; spelled = s.of_first };
      of_second = record { bodies = p.behind; framed = p.of_second; spelled = s.of_second };
      joined = s.joined;
    }

pub splits : Splits
splits max held x y es q small all = in_two max small (held ++ x) y es q (subst (λ (s : List ℕ). CommandsOf max s es q) (sym (append_assoc held x y)) all)

-- ---- frame by frame

-- the frames so far spell these commands, and this is left
pub record SoFar (max : ℕ) (stream : List ℕ) (commands : List DataCommand) (left : List ℕ) : Type 0 where
  pub bodies : List (List ℕ)
  pub whole : stream ≡ stream_of bodies left
  pub each : All (IsBody max) bodies
  pub spelled : AreSpelled bodies commands

pub none_yet : (max : ℕ) (stream : List ℕ) → SoFar max stream [] stream
none_yet max stream = record { bodies = []; whole = refl; each = All-nil (IsBody max); spelled = tt }

pub next_read : (max : ℕ) (stream : List ℕ) (commands : List DataCommand) (left body behind : List ℕ) (more : List DataCommand) → SoFar max stream commands left → left ≡ frame body ++ behind → IsBody max body
    → Adds body commands more true → SoFar max stream more behind
next_read max stream commands left body behind more f is le adds = record {
  bodies = f.bodies ++ body ∷ [];
  whole = one_more stream f.bodies left body behind f.whole is;
  each = each_more max f.bodies body f.each le;
  spelled = subst (AreSpelled (f.bodies ++ body ∷ [])) (sym adds.1) (spelled_both f.bodies (body ∷ []) commands (adds.0 ∷ []) f.spelled (adds.2, tt));
}

pub all_read : (max : ℕ) (stream : List ℕ) (commands : List DataCommand) (left : List ℕ) → SoFar max stream commands left → IsPartial max left → CommandsOf max stream commands left
all_read max stream commands left f partial = record { bodies = f.bodies; framed = record { whole = f.whole; each = f.each; partial = partial }; spelled = f.spelled }

-- ---- bytes that spell no commands

-- no commands, and no rest, are those of the stream
abbrev pub NoneOf : ℕ → List ℕ → Type 0
NoneOf max stream = (commands : List DataCommand) (rest : List ℕ) → CommandsOf max stream commands rest → ⊥

pub too_large : (max : ℕ) → max < 2 ^ 32 → (stream : List ℕ) (commands : List DataCommand) (left : List ℕ) (size : ℕ) → SoFar max stream commands left → IsTooLarge max left size → NoneOf max stream
too_large max small stream commands left size f large others rest all =
    let big : TooBig max stream f.bodies left size = record { whole = f.whole; each = f.each; large = large } in
    let same = one_cut max small stream all.bodies f.bodies rest left ends.Open (ends.TooLarge size) all.framed big in
    absurd (cc same.1)

-- a body that stands in the frames of commands spells one of them
last_spelled : (xs : List (List ℕ)) (body : List ℕ) (cs : List DataCommand) → AreSpelled (xs ++ body ∷ []) cs → (c : DataCommand) × DataSpells c body
last_spelled [] body [] p = absurd p
last_spelled [] body (c ∷ cs) p = (c, p.0)
last_spelled (x ∷ xs) body [] p = absurd p
last_spelled (x ∷ xs) body (c ∷ cs) p = last_spelled xs body cs p.1

pub unspelt : (max : ℕ) → max < 2 ^ 32 → (stream : List ℕ) (commands : List DataCommand) (left body behind : List ℕ) → SoFar max stream commands left → left ≡ frame body ++ behind → IsBody max body
    → ((c : DataCommand) → DataSpells c body → ⊥) → NoneOf max stream
unspelt max small stream commands left body behind f is le none others rest all =
    let xs = f.bodies ++ body ∷ [] in
    let front = flat_map frame xs in
    let whole : stream ≡ front ++ behind = one_more stream f.bodies left body behind f.whole is in
    let two = in_two max small front behind others rest (subst (λ (s : List ℕ). CommandsOf max s others rest) whole all) in
    let mine : Frames max front xs [] = record { whole = sym (append-nil front); each = each_more max f.bodies body f.each le; partial = inl (omega arith) } in
    let first = two.of_first in
    let same = (one_cut max small front first.bodies xs two.left [] ends.Open ends.Open first.framed mine).0 in
    let found = last_spelled f.bodies body two.before (subst (λ (ys : List (List ℕ)). AreSpelled ys two.before) same first.spelled) in
    none found.0 found.1
