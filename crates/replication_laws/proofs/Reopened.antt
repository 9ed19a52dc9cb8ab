-- What a sound stream leaves on its disks may be opened again.
use Rattle.std.proofs.Common.{◌≡◌, ℕ, ◌+◌, ◌*◌, ◌<◌, ◌≤◌, ◌⊎◌, List, [], ◌∷◌, ◌++◌, length, refl, sym, ap, ◌∙◌, subst, append_assoc, inl, inr, arith, Option, Some, None, Bool, true, false, zero, suc}
use Rattle.std.specs.Prelude.{◌==◌}
use Rattle.std.proofs.lemmas.Bool.{cases_lt}
use Rattle.std.proofs.lemmas.List.{append_cancel_left, get_or_past}
use Rattle.chunk_format.specs.declared.chunk.Chunk.{Chunk}
use Rattle.chunk_format.specs.Chunks.{end_of_chunk}
use Rattle.chunk_format.specs.Logs.{GoesOn, end_of, last_epoch, Linked, IsLog}
use Rattle.chunk_format.proofs.LinkLaws.{epoch_push, linked_front, linked_behind, epoch_join, epoch_past}
use Rattle.chunk_format.proofs.BeginLaws.{goes_on, goes_either, goes_push_cases, log_front}
use Rattle.epoch_coordinator.specs.declared.message.Job.{Job}
use Rattle.epoch_coordinator.specs.declared.message.Job.TheVariants.{Write, Cut, Promise, Epoch}
use Rattle.epoch_coordinator.specs.Members.{MemberState}
use Rattle.epoch_coordinator.specs.MemberSteps.{has_epoch}
use Rattle.replication_laws.specs.Majorities.{votes, is_voter}
use Rattle.replication_laws.specs.Cluster.{Seat, ClusterState, nobody, seat, member, durable, last_number, HoldsBy, Holds}
use Rattle.replication_laws.specs.Openings.{upto, Start, start_at, opened_cluster, IsWhole, Agrees, Diverges, IsRecovered}
use Rattle.replication_laws.specs.Soundness.{Tree, IsRooted, LeadsEpoch, LeadsWith, JobHolds, Kept, Sound, IsSound}
use Rattle.replication_laws.specs.Properties.{IsLogProperty, SoundWith}
use Rattle.replication_laws.proofs.Logs.{goes_none, goes_empty, goes_one, same_begins, begins_as, none_begins, front_epoch, rooted_front}
use Rattle.replication_laws.proofs.Carry.{is_tree, held_log, held_below}
use Rattle.replication_laws.proofs.Followers.{leads_unique}
use Rattle.replication_laws.proofs.Takings.{eq_is}
use Rattle.replication_laws.proofs.Walks.{or_cases, or_right}
use Rattle.replication_laws.proofs.Starts.{upto_front, in_upto, upto_epoch, start_count, start_there, agrees_at, AgreeAt, AllAgree, log_at, past_log, SeatOf, Of_start, Of_nobody, seat_of, start_agreed, start_with}
use Rattle.replication_laws.proofs.Properties.{all_have}

-- the beginning up to e of a log that a disk may have: it begins the longest log of e, or has the chunk that the leader of e was writing
abbrev UptoKind : Tree → ClusterState → ℕ → ℕ → List Chunk → Type 0
UptoKind g w k e h = GoesOn (upto e h) (g.canon e) ⊎ ((c : Chunk) × (upto e h ≡ (member w k).log ++ c ∷ []) × ((member w k).promise ≡ e) × LeadsEpoch w e k × ((member w k).job ≡ Some (Write c)))

upto_kind : (g : Tree) (w : ClusterState) (o k e : ℕ) (h : List Chunk) → Sound g o w → Holds (member w k) h → last_epoch (upto e h) ≡ e → UptoKind g w k e h
upto_kind g w o k e h s x te = go (member w k).job refl (s.each_member k).job x
  where
    m : MemberState
    m = member w k

    as_epoch : (xs : List Chunk) → last_epoch xs ≡ e → IsRooted g.canon xs → GoesOn xs (g.canon e)
    as_epoch xs t r = subst (λ (n : ℕ). GoesOn xs (g.canon n)) t r

    plain : IsRooted g.canon h → UptoKind g w k e h
    plain r = inl (as_epoch (upto e h) te (rooted_front g.canon (upto e h) h (is_tree g w o s.tree) r (upto_front e h)))

    log : IsRooted g.canon m.log
    log = (s.each_member k).rooted

    go : (j : Option Job) → m.job ≡ j → JobHolds g w k m.promise m.log j → HoldsBy j m.log h → UptoKind g w k e h
    go None job jh q = plain (rw q log)
    go (Some (Promise p)) job jh q = plain (rw q log)
    go (Some (Epoch p)) job jh q = absurd jh
    go (Some (Cut to)) job jh q = plain (rooted_front g.canon h m.log (is_tree g w o s.tree) log q.0)
    go (Some (Write c)) job jh (inl q) = plain (rw q log)
    go (Some (Write c)) job jh (inr q) = elim jh.3 [
      | inr y ↦ plain (rw q y.1)
      | inl y ↦
          let front : GoesOn (upto e h) (m.log ++ c ∷ []) = begins_as (upto e h) h (m.log ++ c ∷ []) q (upto_front e h) in
          elim (goes_push_cases (upto e h) m.log c front) [
            | inl p ↦ inl (as_epoch (upto e h) te (rooted_front g.canon (upto e h) m.log (is_tree g w o s.tree) log p))
            | inr p ↦
                let ends : c.epoch ≡ e = sym (epoch_push m.log c) ∙ (ap last_epoch (sym p) ∙ te) in
                let same : m.promise ≡ e = sym y.0 ∙ ends in
                inr (c, p, same, subst (λ (n : ℕ). LeadsEpoch w n k) same y.1, job)
          ]
    ]

-- a longest log begins what its leader is writing
pub under : (g : Tree) (w : ClusterState) (o k e : ℕ) (c : Chunk) (xs : List Chunk) → Sound g o w → (member w k).promise ≡ e → LeadsEpoch w e k → GoesOn xs (g.canon e) → GoesOn xs ((member w k).log ++ c ∷ [])
under g w o k e c xs s pe leads p =
    let m = member w k in
    let lead : LeadsWith g e m.log = subst (λ (n : ℕ). LeadsWith g n m.log) pe ((s.each_member k).leads (subst (λ (n : ℕ). LeadsEpoch w n k) (sym pe) leads)) in
    elim lead [
      | inl x ↦ goes_empty xs (m.log ++ c ∷ []) (none_begins xs (begins_as xs (g.canon e) [] x.0 p))
      | inr x ↦ goes_on xs m.log (m.log ++ c ∷ []) (begins_as xs (g.canon e) m.log (sym x.0) p) (goes_one m.log c)
    ]

-- of two logs that disks may have, one begins the other up to each epoch that both have
pub held_agree : (g : Tree) (w : ClusterState) (o a b e : ℕ) (ha hb : List Chunk) → Sound g o w → Holds (member w a) ha → Holds (member w b) hb → AgreeAt e ha hb
held_agree g w o a b e ha hb s xa xb ta tb =
    elim (upto_kind g w o a e ha s xa ta) [
      | inl p ↦ elim (upto_kind g w o b e hb s xb tb) [
        | inl q ↦ goes_either (upto e ha) (upto e hb) (g.canon e) p q
        | inr y ↦ inl (begins_as (upto e ha) ((member w b).log ++ y.0 ∷ []) (upto e hb) (sym y.1) (under g w o b e y.0 (upto e ha) s y.2 y.3 p))
      ]
      | inr x ↦ elim (upto_kind g w o b e hb s xb tb) [
        | inl q ↦ inr (begins_as (upto e hb) ((member w a).log ++ x.0 ∷ []) (upto e ha) (sym x.1) (under g w o a e x.0 (upto e hb) s x.2 x.3 q))
        | inr y ↦
            let same = leads_unique w e a b x.3 y.3 in
            let job : (member w a).job ≡ Some (Write y.0) = ap (λ (n : ℕ). (member w n).job) same ∙ y.4 in
            let first = x.4 in
            let chunk : x.0 ≡ y.0 = cc (first, job) in
            inl (same_begins (upto e ha) (upto e hb) (x.1 ∙ (ap (λ (d : Chunk). (member w a).log ++ d ∷ []) chunk ∙ (ap (λ (n : ℕ). (member w n).log ++ y.0 ∷ []) same ∙ sym y.1))))
      ]
    ]

pub recovered_agree : (g : Tree) (w : ClusterState) (o epoch : ℕ) (ss : List Start) → Sound g o w → IsRecovered w ss epoch → AllAgree ss
recovered_agree g w o epoch ss s r i j e ti tj = elim (cases_lt i (length ss)) [
  | inr ge ↦ inl (subst (λ (l : List Chunk). GoesOn (upto e l) (upto e (log_at ss j))) (sym (past_log ss i ge)) (goes_none (upto e (log_at ss j))))
  | inl li ↦ elim (cases_lt j (length ss)) [
    | inr ge ↦ inr (subst (λ (l : List Chunk). GoesOn (upto e l) (upto e (log_at ss i))) (sym (past_log ss j ge)) (goes_none (upto e (log_at ss i))))
    | inl lj ↦ held_agree g w o (i + 1) (j + 1) e (log_at ss i) (log_at ss j) s (r.held i li) (r.held j lj) ti tj
  ]
]

pub recovered_epoch : (g : Tree) (w : ClusterState) (o epoch : ℕ) (ss : List Start) → Sound g o w → IsRecovered w ss epoch → (durable w ≤ epoch) × (epoch ≤ last_number)
recovered_epoch g w o epoch ss s r = elim r.begins [
  | inl e ↦ (omega (arith, e), omega (arith, e, s.coordinator.fits))
  | inr j ↦ (let n = s.coordinator.next epoch j in (omega (arith, n.0), n.1))
]

pub recovered_whole : (g : Tree) (w : ClusterState) (o epoch i : ℕ) (ss : List Start) → Sound g o w → IsRecovered w ss epoch → i < length ss → IsWhole epoch (start_at ss i)
recovered_whole g w o epoch i ss s r lt =
    let k = i + 1 in
    let m = member w k in
    let h = s.each_member k in
    let log = log_at ss i in
    let held = r.held i lt in
    let low = held_below g w k (seat w k) h log held in
    let up = (recovered_epoch g w o epoch ss s r).0 in
    let ahead = h.not_ahead in
    elim (r.promises i lt) [
      | inl p ↦ record { is_log = held_log g w k (seat w k) h log held; below = omega (arith, p, low); not_ahead = omega (arith, p, ahead, up) }
      | inr j ↦ (let jh : JobHolds g w k m.promise m.log (Some (Promise (start_at ss i).promise)) = rw j at h.job in
          record { is_log = held_log g w k (seat w k) h log held; below = omega (arith, jh.0, low); not_ahead = omega (arith, jh.1, up) })
    ]

some_members : (g : Tree) (w : ClusterState) (o epoch : ℕ) (ss : List Start) → Sound g o w → IsRecovered w ss epoch → 0 < length ss
some_members g w o epoch ss s r = (let m = s.committed.most.most in let e = s.committed.most.each in let c = r.count in by s.committed.voters m e c)
  where
    by : (voters : List Bool) → length w.seats < 2 * votes voters → length voters ≡ length w.seats → length ss ≡ length w.seats → 0 < length ss
    by [] m e c = absurd (omega (arith, m))
    by (v ∷ vs) m e c = omega (arith, e, c)

-- what is opened again is sound, keeps every kept list, and has each property of logs
pub reopened_sound : (w : ClusterState) (o epoch : ℕ) (ss : List Start) → IsSound o w → IsRecovered w ss epoch → IsSound epoch (opened_cluster epoch ss)
reopened_sound w o epoch ss s r =
    start_agreed epoch ss (some_members s.tree w o epoch ss s.sound r) (recovered_epoch s.tree w o epoch ss s.sound r).1 (λ i lt. recovered_whole s.tree w o epoch i ss s.sound r lt) (recovered_agree s.tree w o epoch ss s.sound r)

pub reopened_with : (Q : List Chunk → Type 0) (w : ClusterState) (o epoch : ℕ) (ss : List Start) → IsLogProperty Q → SoundWith Q o w → IsRecovered w ss epoch → SoundWith Q epoch (opened_cluster epoch ss)
reopened_with Q w o epoch ss p s r =
    start_with Q epoch ss p (some_members s.tree w o epoch ss s.sound r) (recovered_epoch s.tree w o epoch ss s.sound r).1 (λ i lt. recovered_whole s.tree w o epoch i ss s.sound r lt) (recovered_agree s.tree w o epoch ss s.sound r)
    (λ i lt. (all_have Q o w p s).held (i + 1) (log_at ss i) (r.held i lt))

pub reopened_kept : (w : ClusterState) (epoch : ℕ) (ss : List Start) (l : List Chunk) → IsRecovered w ss epoch → Kept w l → Kept (opened_cluster epoch ss) l
reopened_kept w epoch ss l r h = record {
  voters = h.voters;
  most = (let c = start_count (length ss) 1 ss ∙ r.count in rw c h.most);
  held = λ k v x y. held k v x y (seat_of epoch ss k);
  later = λ k x y lt. later k x y lt (seat_of epoch ss k);
  reigns = λ e q is lt. (let z : None ≡ Some q = is in absurd cc);
}
  where
    there : (k i : ℕ) (x : List Chunk) → k ≡ suc i → i < length ss → x ≡ log_at ss i → Holds (member w k) x
    there k i x e lt same = subst (Holds (member w k)) (sym same) (let at : i + 1 ≡ k = omega (arith, e) in subst (λ (n : ℕ). Holds (member w n) (log_at ss i)) at (r.held i lt))

    held : (k : ℕ) → is_voter h.voters k ≡ true → (x : List Chunk) → Holds (member (opened_cluster epoch ss) k) x → SeatOf epoch ss k → GoesOn l x
    held k v x y (Of_start i e lt at) = h.held k v x (there k i x e lt (subst (λ (s : Seat). Holds s.state x) at y))
    held zero v x y (Of_nobody at) = absurd cc
    held (suc i) v x y (Of_nobody at) = elim (cases_lt i (length ss)) [
      | inl lt ↦ absurd (let up : true ≡ false = ap (λ (s : Seat). s.up) (sym (start_there epoch ss i lt) ∙ at) in cc)
      | inr ge ↦
          let none : x ≡ [] = subst (λ (s : Seat). Holds s.state x) at y in
          let past : length w.seats ≤ i = omega (arith, ge, r.count) in
          h.held (suc i) v x (let q : seat w (suc i) ≡ nobody = get_or_past w.seats i nobody past in subst (λ (s : Seat). Holds s.state x) (sym q) none)
    ]

    later : (k : ℕ) (x : List Chunk) → Holds (member (opened_cluster epoch ss) k) x → last_epoch l < last_epoch x → SeatOf epoch ss k → GoesOn l x
    later k x y lt (Of_start i e less at) = h.later k x (there k i x e less (subst (λ (s : Seat). Holds s.state x) at y)) lt
    later k x y lt (Of_nobody at) = absurd (let none : x ≡ [] = subst (λ (s : Seat). Holds s.state x) at y in let z = ap last_epoch none in omega (arith, z, lt))

-- ---- logs that agree don't diverge

-- a chunk of an epoch stands somewhere
pub record Stands (e : ℕ) (log : List Chunk) : Type 0 where
  pub front : List Chunk
  pub chunk : Chunk
  pub rest : List Chunk
  pub parts : log ≡ (front ++ chunk ∷ []) ++ rest
  pub epoch_is : chunk.epoch ≡ e

pub stands_by : (e : ℕ) (log : List Chunk) → has_epoch e log ≡ true → Stands e log
stands_by e [] h = absurd cc
stands_by e (c ∷ cs) h = go (or_cases (c.epoch == e) (has_epoch e cs) h) (stands_by e cs)
  where
    go : ((c.epoch == e) ≡ true) ⊎ (has_epoch e cs ≡ true) → (has_epoch e cs ≡ true → Stands e cs) → Stands e (c ∷ cs)
    go (inl x) on = record { front = []; chunk = c; rest = cs; parts = refl; epoch_is = eq_is c.epoch e x }
    go (inr x) on = (let r = on x in record { front = c ∷ r.front; chunk = r.chunk; rest = r.rest; parts = ap (λ (l : List Chunk). c ∷ l) r.parts; epoch_is = r.epoch_is })

-- a log with a chunk of e ends in e up to it
pub upto_ends : (e : ℕ) (log : List Chunk) → IsLog log → has_epoch e log ≡ true → last_epoch (upto e log) ≡ e
upto_ends e log is h =
    let x = stands_by e log h in
    let p = x.front ++ x.chunk ∷ [] in
    let begins : GoesOn p log = (x.rest, x.parts) in
    let last : last_epoch p ≡ e = epoch_push x.front x.chunk ∙ x.epoch_is in
    let inside = in_upto e p log begins is (omega (arith, last)) in
    let low = front_epoch p (upto e log) inside (log_front (upto e log) log (upto_front e log) is) in
    let up = upto_epoch e log in
    omega (arith, last, low, up)

-- the first chunk of a log isn't of a later epoch than another
first_low : (at d : ℕ) (front : List Chunk) (c : Chunk) (rest : List Chunk) (x : Chunk) (xs : List Chunk) → x ∷ xs ≡ (front ++ c ∷ []) ++ rest → Linked at d (x ∷ xs) → x.epoch ≤ c.epoch
first_low at d [] c rest x xs e l = (let same : x ≡ c = cc in let n = ap (λ (z : Chunk). z.epoch) same in omega (arith, n))
first_low at d (y ∷ ys) c rest x xs e l =
    let tails : xs ≡ (ys ++ c ∷ []) ++ rest = cc in
    let b : Linked (end_of_chunk x) x.epoch ((ys ++ c ∷ []) ++ rest) = subst (Linked (end_of_chunk x) x.epoch) tails l.behind in
    let p = epoch_past (end_of_chunk x) x.epoch (ys ++ c ∷ []) (linked_front (end_of_chunk x) x.epoch (ys ++ c ∷ []) rest b) in
    let j = epoch_join x.epoch ys (c ∷ []) in
    omega (arith, p, j)

-- where the rest of a log has a chunk of e, the log up to the rest's first chunk stands up to e
first_inside : (e : ℕ) (log front : List Chunk) (x : Chunk) (xs : List Chunk) → IsLog log → log ≡ front ++ x ∷ xs → has_epoch e (x ∷ xs) ≡ true → GoesOn (front ++ x ∷ []) (upto e log)
first_inside e log front x xs is parts h =
    let whole : log ≡ (front ++ x ∷ []) ++ xs = parts ∙ sym (append_assoc front (x ∷ []) xs) in
    let r = stands_by e (x ∷ xs) h in
    let l : Linked (end_of front) (last_epoch front) (x ∷ xs) = linked_behind 0 0 front (x ∷ xs) (subst IsLog parts is) in
    let low = first_low (end_of front) (last_epoch front) r.front r.chunk r.rest x xs r.parts l in
    let last = epoch_push front x in
    in_upto e (front ++ x ∷ []) log (xs, whole) is (omega (arith, last, low, r.epoch_is))

has_behind : (e : ℕ) (front more : List Chunk) → has_epoch e more ≡ true → has_epoch e (front ++ more) ≡ true
has_behind e [] more h = h
has_behind e (c ∷ cs) more h = or_right (c.epoch == e) (has_epoch e (cs ++ more)) (has_behind e cs more h)

-- two lists with one front begin one list: so what comes next is the same
same_next : (front z : List Chunk) (x y : Chunk) → GoesOn (front ++ x ∷ []) z → GoesOn (front ++ y ∷ []) z → x ≡ y
same_next front z x y p q =
    let a : z ≡ front ++ x ∷ p.0 = p.1 ∙ append_assoc front (x ∷ []) p.0 in
    let b : z ≡ front ++ y ∷ q.0 = q.1 ∙ append_assoc front (y ∷ []) q.0 in
    let c : x ∷ p.0 ≡ y ∷ q.0 = append_cancel_left front (x ∷ p.0) (y ∷ q.0) (sym a ∙ b) in
    cc

pub no_divergence : (a b : List Chunk) (offset : ℕ) → IsLog a → IsLog b → ((e : ℕ) → AgreeAt e a b) → Diverges a b offset → ⊥
no_divergence a b offset la lb agree d =
    let e = d.epoch in
    let ta = upto_ends e a la (subst (λ (l : List Chunk). has_epoch e l ≡ true) (sym d.a_is) (has_behind e d.front (d.x ∷ d.xs) d.in_a)) in
    let tb = upto_ends e b lb (subst (λ (l : List Chunk). has_epoch e l ≡ true) (sym d.b_is) (has_behind e d.front (d.y ∷ d.ys) d.in_b)) in
    let pa = first_inside e a d.front d.x d.xs la d.a_is d.in_a in
    let pb = first_inside e b d.front d.y d.ys lb d.b_is d.in_b in
    elim (agree e ta tb) [
      | inl p ↦ d.differ (same_next d.front (upto e b) d.x d.y (goes_on (d.front ++ d.x ∷ []) (upto e a) (upto e b) pa p) pb)
      | inr p ↦ d.differ (same_next d.front (upto e a) d.x d.y pa (goes_on (d.front ++ d.y ∷ []) (upto e b) (upto e a) pb p))
    ]

-- logs that agree don't diverge, and those that a sound stream leaves neither
pub agreed_dont : (a b : List Chunk) (offset : ℕ) → IsLog a → IsLog b → Agrees a b → Diverges a b offset → ⊥
agreed_dont a b offset la lb h d = no_divergence a b offset la lb (λ e. agrees_at e a b la lb h) d

pub recovered_dont : (o epoch i j offset : ℕ) (w : ClusterState) (ss : List Start) → IsSound o w → IsRecovered w ss epoch → i < length ss → j < length ss → Diverges (start_at ss i).log (start_at ss j).log offset → ⊥
recovered_dont o epoch i j offset w ss s r li lj d =
    no_divergence (log_at ss i) (log_at ss j) offset (recovered_whole s.tree w o epoch i ss s.sound r li).is_log (recovered_whole s.tree w o epoch j ss s.sound r lj).is_log
    (λ e. recovered_agree s.tree w o epoch ss s.sound r i j e) d

pub recovered_passes : (o epoch i : ℕ) (w : ClusterState) (ss : List Start) → IsSound o w → IsRecovered w ss epoch → i < length ss → IsWhole epoch (start_at ss i)
recovered_passes o epoch i w ss s r lt = recovered_whole s.tree w o epoch i ss s.sound r lt

pub reopened_stays : (o epoch : ℕ) (w : ClusterState) (ss : List Start) (list : List Chunk) → IsSound o w → IsRecovered w ss epoch → Kept w list → Kept (opened_cluster epoch ss) list
reopened_stays o epoch w ss list s r h = reopened_kept w epoch ss list r h
