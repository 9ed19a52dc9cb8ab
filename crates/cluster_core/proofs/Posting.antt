-- Messages are numbered on, one after the other.
use Rattle.std.proofs.Common.{◌≡◌, ◌<◌, ◌+◌, ◌-◌, ◌/◌, ◌%◌, ℕ, suc, Bool, true, false, not, cond, ◌&&◌, ◌==◌, List, [], ◌∷◌, ◌++◌, map, length, Option, refl, sym, ap, append_assoc, length-append, ◌∙◌, arith}
use Rattle.epoch_coordinator.specs.declared.tail.Tail.{Tail}
use Rattle.epoch_coordinator.specs.declared.message.Message.{Message}
use Rattle.epoch_coordinator.specs.declared.message.Sent.{Sent}
use Rattle.epoch_coordinator.specs.Coordinators.{is_told, others_from, to_each, electors_of}
use Rattle.replication_laws.specs.Majorities.{flags_of}
use Rattle.replication_laws.specs.Cluster.{Letter, numbered}
use Rattle.replication_laws.proofs.Meetings.{flags_are}
use Rattle.cluster_core.specs.Parts.{flagged, flagged_from}
use Rattle.cluster_core.proofs.Letters.{numbered_on}

-- ---- who is told to follow

follow_by : (b : Bool) (message : Message) (number : ℕ) (rest : List ℕ) → to_each message (cond {A = List ℕ} b (number ∷ rest) rest) ≡ to_each message (cond {A = List ℕ} b (number ∷ []) []) ++ to_each message rest
follow_by true message number rest = refl
follow_by false message number rest = refl

-- the next flag, and those behind it
follow_next : (message : Message) (number leader n bits : ℕ) → to_each message (flagged_from number leader (flags_of (suc n) bits)) ≡ to_each message (flagged number leader bits) ++ to_each message (flagged_from (number + 1) leader (flags_of n (bits / 2)))
follow_next message number leader n bits = follow_by ((bits % 2 == 1) && not (number == leader)) message number (flagged_from (number + 1) leader (flags_of n (bits / 2)))

-- what is numbered on, in two parts
posted_parts : (last last' : ℕ) (box box' whole : List Letter) (a b : List Sent) → box' ≡ box ++ numbered last a → last' ≡ last + length (numbered last a) → box ++ numbered last (a ++ b) ≡ whole → box' ++ numbered last' b ≡ whole
posted_parts last last' box box' whole a b e l w =
    ap (λ (x : List Letter). x ++ numbered last' b) e
    ∙ ap (λ (n : ℕ). (box ++ numbered last a) ++ numbered n b) l
    ∙ append_assoc box (numbered last a) (numbered (last + length (numbered last a)) b)
    ∙ ap (λ (x : List Letter). box ++ x) (sym (numbered_on last a b))
    ∙ w

posted_count : (last last' end : ℕ) (a b : List Sent) → last' ≡ last + length (numbered last a) → last + length (numbered last (a ++ b)) ≡ end → last' + length (numbered last' b) ≡ end
posted_count last last' end a b l w =
    let n = ap length (numbered_on last a b) ∙ length-append (numbered last a) (numbered (last + length (numbered last a)) b) in
    let m = ap (λ (k : ℕ). length (numbered k b)) l in
    omega (arith, n, m, l, w)

pub one_and_more : (last next : ℕ) (box box1 box2 : List Letter) (one : Sent) (more : List Sent) → box1 ≡ box ++ numbered last (one ∷ []) → next ≡ last + length (numbered last (one ∷ [])) → box2 ≡ box1 ++ numbered next more
    → box2 ≡ box ++ numbered last (one ∷ more)
one_and_more last next box box1 box2 one more e l b = b ∙ posted_parts last next box box1 (box ++ numbered last (one ∷ more)) (one ∷ []) more e l refl

pub one_and_last : (last next end : ℕ) (one : Sent) (more : List Sent) → next ≡ last + length (numbered last (one ∷ [])) → end ≡ next + length (numbered next more) → end ≡ last + length (numbered last (one ∷ more))
one_and_last last next end one more l e = e ∙ posted_count last next (last + length (numbered last (one ∷ more))) (one ∷ []) more l refl

left_more : (members place : ℕ) → place < members → members - place ≡ suc (members - (place + 1))
left_more members place lt = omega (arith, lt)

pub follow_mail : (message : Message) (place leader members bits last last' : ℕ) (box box' whole : List Letter) → place < members → box' ≡ box ++ numbered last (to_each message (flagged (place + 1) leader bits))
    → last' ≡ last + length (numbered last (to_each message (flagged (place + 1) leader bits))) → box ++ numbered last (to_each message (flagged_from (place + 1) leader (flags_of (members - place) bits))) ≡ whole
    → box' ++ numbered last' (to_each message (flagged_from (place + 1 + 1) leader (flags_of (members - (place + 1)) (bits / 2)))) ≡ whole
follow_mail message place leader members bits last last' box box' whole lt e l w =
    posted_parts last last' box box' whole (to_each message (flagged (place + 1) leader bits)) (to_each message (flagged_from (place + 1 + 1) leader (flags_of (members - (place + 1)) (bits / 2)))) e l
    (ap (λ (x : List Sent). box ++ numbered last x) (sym (follow_next message (place + 1) leader (members - (place + 1)) bits) ∙ ap (λ (n : ℕ). to_each message (flagged_from (place + 1) leader (flags_of n bits))) (sym (left_more members place lt))) ∙ w)

pub follow_last : (message : Message) (place leader members bits last last' end : ℕ) → place < members → last' ≡ last + length (numbered last (to_each message (flagged (place + 1) leader bits)))
    → last + length (numbered last (to_each message (flagged_from (place + 1) leader (flags_of (members - place) bits)))) ≡ end
    → last' + length (numbered last' (to_each message (flagged_from (place + 1 + 1) leader (flags_of (members - (place + 1)) (bits / 2))))) ≡ end
follow_last message place leader members bits last last' end lt l w =
    posted_count last last' end (to_each message (flagged (place + 1) leader bits)) (to_each message (flagged_from (place + 1 + 1) leader (flags_of (members - (place + 1)) (bits / 2)))) l
    (ap (λ (x : List Sent). last + length (numbered last x)) (sym (follow_next message (place + 1) leader (members - (place + 1)) bits) ∙ ap (λ (n : ℕ). to_each message (flagged_from (place + 1) leader (flags_of n bits))) (sym (left_more members place lt))) ∙ w)

pub others_are : (number leader : ℕ) (told : List (Option Tail)) → flagged_from number leader (map is_told told) ≡ others_from number leader told
others_are number leader [] = refl
others_are number leader (x ∷ xs) =
    ap (λ (l : List ℕ). cond {A = List ℕ} (is_told x && not (number == leader)) (number ∷ l) l) (others_are (number + 1) leader xs)

-- the bits of the electors are those that told
pub electors_follow : (leader members : ℕ) (told : List (Option Tail)) → length told ≡ members → flagged_from 1 leader (flags_of members (electors_of told)) ≡ others_from 1 leader told
electors_follow leader members told e =
    ap (λ (n : ℕ). flagged_from 1 leader (flags_of n (electors_of told))) (sym e) ∙ ap (flagged_from 1 leader) (flags_are told) ∙ others_are 1 leader told
