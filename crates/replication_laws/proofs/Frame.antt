-- What the clauses rest on in the other members, and how what is known of a message is carried along a step.
use Rattle.std.proofs.Common.{◌≡◌, ℕ, ◌<◌, ◌≤◌, ◌⊎◌, List, [], ◌∷◌, ◌++◌, length, sym, ◌∙◌, inl, inr, arith, Some}
use Rattle.chunk_format.specs.declared.chunk.Chunk.{Chunk}
use Rattle.chunk_format.specs.Logs.{GoesOn, last_epoch, IsLog}
use Rattle.chunk_format.proofs.BeginLaws.{goes_on, goes_either, log_front, same_end}
use Rattle.epoch_coordinator.specs.declared.tail.Tail.{Tail}
use Rattle.epoch_coordinator.specs.declared.tail.Run.{Run}
use Rattle.epoch_coordinator.specs.declared.message.Message.{Message}
use Rattle.epoch_coordinator.specs.declared.message.Message.TheVariants as messages
use Rattle.epoch_coordinator.specs.Tails.{tail_of}
use Rattle.epoch_coordinator.specs.Members.{MemberState, sequence_of}
use Rattle.replication_laws.specs.Cluster.{Letter, Reign, ClusterState, member, durable, reign, Holds}
use Rattle.replication_laws.specs.Soundness.{Tree, IsMark, Lacks, AllReach, LeadsEpoch, HasReign, AskHolds, AskElects, AppendHolds, IsCalm, ReplyHolds, MessageHolds, LetterHolds, ShapeHolds, TailMark}

-- a log held now begins one held before, or the longest log of a reign's epoch, or goes on from where a reign began
abbrev pub Fits : Tree → ClusterState → MemberState → MemberState → Type 0
Fits g w m n = (h : List Chunk) → Holds n h → ((b : List Chunk) × Holds m b × GoesOn h b)
    ⊎ ((q : ℕ) × HasReign w q × (last_epoch h ≤ q) × (GoesOn h (g.canon q) ⊎ GoesOn (g.base q) h))

-- a longest log is one of before, or begins what a member was about to write
abbrev pub Sources : Tree → ClusterState → Tree → Type 0
Sources g w g' = (e : ℕ) → GoesOn (g'.canon e) (g.canon e) ⊎ ((k : ℕ) × GoesOn (g'.canon e) (sequence_of (member w k)))

-- what any step leaves for the others to rest on
pub record Advance (g : Tree) (w : ClusterState) (g' : Tree) (w' : ClusterState) : Type 0 where
  pub grows : (e : ℕ) → GoesOn (g.canon e) (g'.canon e)
  pub bases : (e : ℕ) → HasReign w e → g'.base e ≡ g.base e
  pub reigns : (e : ℕ) (r : Reign) → reign w e ≡ Some r → reign w' e ≡ Some r
  pub sources : Sources g w g'
  pub count : length w'.seats ≡ length w.seats
  pub not_back : durable w ≤ durable w'
  pub promises : (k : ℕ) → (member w k).promise ≤ (member w' k).promise
  pub keeps : (k e m : ℕ) → IsMark g.canon e m → AllReach (member w k) e m → AllReach (member w' k) e m ⊎ Lacks w'.reigns e m (member w' k).promise
  pub fits : (k : ℕ) → Fits g' w (member w k) (member w' k)
  pub calm : (k : ℕ) → IsCalm (member w k) → HasReign w' (member w k).promise ⊎ (((member w k).promise < (member w' k).promise)
      ⊎ (((member w' k).promise ≡ (member w k).promise) × IsCalm (member w' k) × (tail_of (member w' k).log ≡ tail_of (member w k).log)))

-- a mark below a mark of the log before stands in the log before
pub mark_back : (g g' : Tree) (e m n : ℕ) → ((e : ℕ) → GoesOn (g.canon e) (g'.canon e)) → IsLog (g'.canon e)
    → IsMark g.canon e n → IsMark g'.canon e m → m ≤ n → IsMark g.canon e m
mark_back g g' e m n grows l a b h =
    let q : GoesOn a.upto (g'.canon e) = goes_on a.upto (g.canon e) (g'.canon e) a.begins (grows e) in
    elim (goes_either b.upto a.upto (g'.canon e) b.begins q) [
      | inl p ↦ record { upto = b.upto; begins = goes_on b.upto a.upto (g.canon e) p a.begins; epoch_is = b.epoch_is; end_is = b.end_is; run = b.run }
      | inr p ↦
          let k : IsLog b.upto = log_front b.upto (g'.canon e) b.begins l in
          let same : a.upto ≡ b.upto = sym (same_end a.upto b.upto p k (omega (arith, a.end_is, b.end_is))) in
          record { upto = a.upto; begins = a.begins; epoch_is = a.epoch_is; end_is = rw same b.end_is; run = rw same b.run }
    ]

pub mark_on : (g g' : Tree) (e m : ℕ) → ((e : ℕ) → GoesOn (g.canon e) (g'.canon e)) → IsMark g.canon e m → IsMark g'.canon e m
mark_on g g' e m grows a =
    record { upto = a.upto; begins = goes_on a.upto (g.canon e) (g'.canon e) a.begins (grows e); epoch_is = a.epoch_is; end_is = a.end_is; run = a.run }

pub has_reign_on : (g g' : Tree) (w w' : ClusterState) (e : ℕ) → Advance g w g' w' → HasReign w e → HasReign w' e
has_reign_on g g' w w' e a h = (h.0, a.reigns e h.0 h.1)

pub leads_on : (g g' : Tree) (w w' : ClusterState) (e k : ℕ) → Advance g w g' w' → LeadsEpoch w e k → LeadsEpoch w' e k
leads_on g g' w w' e k a h = (h.0, a.reigns e h.0 h.1, h.2)

pub lacks_on : (g g' : Tree) (w w' : ClusterState) (e m p q : ℕ) → Advance g w g' w' → p ≤ q → Lacks w.reigns e m p → Lacks w'.reigns e m q
lacks_on g g' w w' e m p q a h l =
    record { at = l.at; by = l.by; is_reign = a.reigns l.at l.by l.is_reign; later = l.later; not_after = omega (arith, l.not_after); lacks = l.lacks }

pub ask_on : (g g' : Tree) (w w' : ClusterState) (e j n : ℕ) → ((e : ℕ) → IsLog (g'.canon e)) → Advance g w g' w' → AskHolds g w e j n → AskHolds g' w' e j n
ask_on g g' w w' e j n logs a h = record {
  has_reign = has_reign_on g g' w w' e a h.has_reign;
  promised = omega (arith, h.promised, a.promises j);
  mark = mark_on g g' e n a.grows h.mark;
  stands = λ m mark le.
      let mark' : IsMark g.canon e m = mark_back g g' e m n a.grows (logs e) h.mark mark le in
      elim (h.stands m mark' le) [
        | inl all ↦ a.keeps j e m mark' all
        | inr l ↦ inr (lacks_on g g' w w' e m (member w j).promise (member w' j).promise a (a.promises j) l)
      ];
}

-- where no reign is added
pub elects_on : (g g' : Tree) (w w' : ClusterState) (e j n : ℕ) → ((e : ℕ) → IsLog (g'.canon e)) → Advance g w g' w' → w'.reigns ≡ w.reigns
    → AskHolds g w e j n → AskElects g w e j n → AskElects g' w' e j n
elects_on g g' w w' e j n logs a same h f m s r mark le is later elector =
    elim (f m s r (mark_back g g' e m n a.grows (logs e) h.mark mark le) le (rw same at is) later elector) [
      | inl x ↦ inl x
      | inr x ↦ inr (x.0, x.1, lacks_on g g' w w' e m x.0 x.0 a (omega arith) x.2)
    ]

pub append_on : (g g' : Tree) (w w' : ClusterState) (e : ℕ) (t : Tail) (c : Chunk) → Advance g w g' w' → AppendHolds g w e t c → AppendHolds g' w' e t c
append_on g g' w w' e t c a h = record {
  has_reign = has_reign_on g g' w w' e a h.has_reign;
  before = h.before;
  tail_is = h.tail_is;
  begins = goes_on (h.before ++ c ∷ []) (g.canon c.epoch) (g'.canon c.epoch) h.begins (a.grows c.epoch);
  sent_from = goes_on (h.before ++ c ∷ []) (g.canon e) (g'.canon e) h.sent_from (a.grows e);
  not_above = h.not_above;
}

pub reply_on : (g g' : Tree) (w w' : ClusterState) (e j : ℕ) (t : Tail) → Advance g w g' w' → ReplyHolds w e j t → ReplyHolds w' e j t
reply_on g g' w w' e j t a (inl h) = inl (omega (arith, h, a.promises j))
reply_on g g' w w' e j t a (inr (inl h)) = inr (inl (has_reign_on g g' w w' e a h))
reply_on g g' w w' e j t a (inr (inr h)) =
    elim (a.calm j h.1) [
      | inl r ↦ inr (inl (rw (← h.0) r))
      | inr (inl p) ↦ inl (omega (arith, h.0))
      | inr (inr k) ↦ inr (inr (k.0 ∙ h.0, k.1, k.2 ∙ h.2))
    ]

pub shape_on : (g g' : Tree) (w w' : ClusterState) (e : ℕ) (runs : List Run) → Advance g w g' w' → HasReign w e → ShapeHolds g e runs → ShapeHolds g' e runs
shape_on g g' w w' e runs a has h = let b = a.bases e has in rw b h

pub tail_mark_on : (g g' : Tree) (t : Tail) → ((e : ℕ) → GoesOn (g.canon e) (g'.canon e)) → TailMark g t → TailMark g' t
tail_mark_on g g' t grows h = elim h [ inl e ↦ inl e | inr m ↦ inr (mark_on g g' t.epoch t.end grows m) ]

-- what `AskElects` becomes
abbrev pub ElectsOn : Tree → ClusterState → Tree → ClusterState → Type 0
ElectsOn g w g' w' = (e j n : ℕ) → AskHolds g w e j n → AskElects g w e j n → AskElects g' w' e j n

pub message_on : (g g' : Tree) (w w' : ClusterState) (logs : (e : ℕ) → IsLog (g'.canon e)) (a : Advance g w g' w') → ElectsOn g w g' w'
    → (to : ℕ) (m : Message) → MessageHolds g w to m → MessageHolds g' w' to m
message_on g g' w w' logs a elects to (messages.Stop e) h = omega (arith, h, a.not_back)
message_on g g' w w' logs a elects to (messages.Stopped e from t) h = (omega (arith, h.0, a.promises from), reply_on g g' w w' e from t a h.1)
message_on g g' w w' logs a elects to (messages.Open e) h = leads_on g g' w w' e to a h
message_on g g' w w' logs a elects to (messages.Follow e leader) h = (leads_on g g' w w' e leader a h.0, h.1)
message_on g g' w w' logs a elects to (messages.Shape e runs) h = (has_reign_on g g' w w' e a h.0, shape_on g g' w w' e runs a h.0 h.1)
message_on g g' w w' logs a elects to (messages.Ask e from t) h =
    (λ same. let k = h.0 same in (ask_on g g' w w' e from t.end logs a k.0, elects e from t.end k.0 k.1), has_reign_on g g' w w' e a h.1, tail_mark_on g g' t a.grows h.2)
message_on g g' w w' logs a elects to (messages.Append e t c) h = append_on g g' w w' e t c a h

pub letter_on : (g g' : Tree) (w w' : ClusterState) (logs : (e : ℕ) → IsLog (g'.canon e)) (a : Advance g w g' w') → ElectsOn g w g' w' → (l : Letter) → LetterHolds g w l → LetterHolds g' w' l
letter_on g g' w w' logs a elects l h = message_on g g' w w' logs a elects l.sent.to l.sent.message h
