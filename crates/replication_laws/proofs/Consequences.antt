-- The clauses of soundness without a tree follow from it.
use Rattle.std.proofs.Common.{◌≡◌, ℕ, ◌<◌, ◌≤◌, ◌⊎◌, ◌↔◌, List, [], ◌∷◌, ◌++◌, refl, sym, ap, ◌∙◌, subst, append_assoc, inl, inr, arith, Option, Some, None}
use Rattle.std.specs.List.{AllByRecursion}
use Rattle.std.proofs.lemmas.List.{append-nil, append_cancel_left}
use Rattle.chunk_format.specs.declared.chunk.Chunk.{Chunk}
use Rattle.chunk_format.specs.Chunks.{end_of_chunk}
use Rattle.chunk_format.specs.Logs.{GoesOn, last_epoch, IsLog, HasRun}
use Rattle.chunk_format.proofs.LinkLaws.{end_push, epoch_push, chunk_goes_on, run_left, run_parts, run_tail}
use Rattle.chunk_format.proofs.BeginLaws.{goes_on, goes_either, log_front, goes_push_cases}
use Rattle.epoch_coordinator.specs.declared.tail.Tail.{Tail}
use Rattle.epoch_coordinator.specs.declared.message.Job.{Job}
use Rattle.epoch_coordinator.specs.declared.message.Job.TheVariants.{Write, Cut, Promise, Epoch}
use Rattle.epoch_coordinator.specs.declared.message.Message.{Message}
use Rattle.epoch_coordinator.specs.declared.message.Message.TheVariants as messages
use Rattle.epoch_coordinator.specs.declared.coordinator.Phase.TheVariants.{Electing}
use Rattle.epoch_coordinator.specs.Tails.{tail_of}
use Rattle.epoch_coordinator.specs.Members.{MemberState}
use Rattle.epoch_coordinator.specs.MemberSteps.{epoch_of}
use Rattle.replication_laws.specs.Cluster.{Reign, ClusterState, seat, member, durable, reign, InRuns, HoldsBy, Holds}
use Rattle.replication_laws.specs.Soundness.{Tree, OwnBehind, IsRooted, IsMark, Follows, HasReign, LeadsEpoch, AskHolds, AskElects, AppendHolds, IsCalm, ReplyHolds, LeadsWith, MessageHolds, JobHolds, acked, LeaderHolds, RoleHolds, ElectingHolds, PhaseHolds, Sound, IsSound}
use Rattle.replication_laws.specs.Clauses.{Occurs, In_holding, In_append, IsOnItsWay, Asked, On_its_way, Counted, Bounded, OccurrencesAgree, OpensBehind, EpochsOpen, LeadersLead, ElectionsAreStill, AsksAreTrue}
use Rattle.replication_laws.proofs.Logs.{goes_one, begins_as, same_begins, none_begins, front_end, front_epoch, log_push, push_follows, same_ends, rooted_front}
use Rattle.replication_laws.proofs.Carry.{is_tree, held_log, held_below}
use Rattle.replication_laws.proofs.Sounds.{SentHolds}
use Rattle.replication_laws.proofs.Followers.{leads_unique}
use Rattle.replication_laws.proofs.Leaders.{own_log}
use Rattle.replication_laws.proofs.Happenings.{letter_holds}
use Rattle.replication_laws.proofs.Reopened.{under, held_agree, upto_ends, Stands, stands_by}

-- ---- where a chunk occurs

-- the leader of the epoch is writing, and this is its log with the chunk
record Own (w : ClusterState) (e : ℕ) (xs : List Chunk) : Type 0 where
  pub leader : ℕ
  pub chunk : Chunk
  pub job : (member w leader).job ≡ Some (Write chunk)
  pub promise : (member w leader).promise ≡ e
  pub leads : LeadsEpoch w e leader
  pub is : xs ≡ (member w leader).log ++ chunk ∷ []

record Located (g : Tree) (w : ClusterState) (c : Chunk) (t : Tail) : Type 0 where
  pub before : List Chunk
  pub tail_is : tail_of before ≡ t
  pub place : GoesOn (before ++ c ∷ []) (g.canon c.epoch) ⊎ Own w c.epoch (before ++ c ∷ [])

on_its_way : (g : Tree) (w : ClusterState) (o to : ℕ) (m : Message) → Sound g o w → IsOnItsWay w to m → MessageHolds g w to m
on_its_way g w o to m s x =
    let h : SentHolds g w x.1 = letter_holds (SentHolds g w) x.0 w.mail x.1 s.each_letter x.2 in
    subst (λ (k : ℕ). MessageHolds g w k m) x.3 (subst (MessageHolds g w x.1.to) x.4 h)

-- of a held log each beginning is in the tree, or is the leader's own with the chunk that it is writing
placed_in : (g : Tree) (w : ClusterState) (o k : ℕ) (h p : List Chunk) (c : Chunk) → Sound g o w → Holds (member w k) h → GoesOn (p ++ c ∷ []) h → GoesOn (p ++ c ∷ []) (g.canon c.epoch) ⊎ Own w c.epoch (p ++ c ∷ [])
placed_in g w o k h p c s held front = go (member w k).job refl (s.each_member k).job held
  where
    m : MemberState
    m = member w k

    xs : List Chunk
    xs = p ++ c ∷ []

    plain : (z : List Chunk) → IsRooted g.canon z → GoesOn xs z → GoesOn xs (g.canon c.epoch) ⊎ Own w c.epoch xs
    plain z r f = inl (subst (λ (e : ℕ). GoesOn xs (g.canon e)) (epoch_push p c) (rooted_front g.canon xs z (is_tree g w o s.tree) r f))

    go : (j : Option Job) → m.job ≡ j → JobHolds g w k m.promise m.log j → HoldsBy j m.log h → GoesOn xs (g.canon c.epoch) ⊎ Own w c.epoch xs
    go None e jh x = plain m.log (s.each_member k).rooted (begins_as xs h m.log x front)
    go (Some (Promise n)) e jh x = plain m.log (s.each_member k).rooted (begins_as xs h m.log x front)
    go (Some (Epoch n)) e jh x = absurd jh
    go (Some (Cut to)) e jh x = plain m.log (s.each_member k).rooted (goes_on xs h m.log front x.0)
    go (Some (Write d)) e jh (inl x) = plain m.log (s.each_member k).rooted (begins_as xs h m.log x front)
    go (Some (Write d)) e jh (inr x) =
        let long : GoesOn xs (m.log ++ d ∷ []) = begins_as xs h (m.log ++ d ∷ []) x front in
        elim jh.3 [
          | inr y ↦ plain (m.log ++ d ∷ []) y.1 long
          | inl y ↦ elim (goes_push_cases xs m.log d long) [
            | inl z ↦ plain m.log (s.each_member k).rooted z
            | inr z ↦
                let same : c.epoch ≡ m.promise = sym (epoch_push p c) ∙ (ap last_epoch z ∙ (epoch_push m.log d ∙ y.0)) in
                inr (record { leader = k; chunk = d; job = e; promise = sym same; leads = subst (λ (n : ℕ). LeadsEpoch w n k) (sym same) y.1; is = z })
          ]
        ]

located : (g : Tree) (w : ClusterState) (o : ℕ) (c : Chunk) (t : Tail) → Sound g o w → Occurs w c t → Located g w c t
located g w o c t s (In_append n e m is same) =
    let app : AppendHolds g w e t c = on_its_way g w o m.to (messages.Append e t c) s (n, m, is, refl, same) in
    record { before = app.before; tail_is = app.tail_is; place = inl app.begins }
located g w o c t s (In_holding k h p q held split te) = record { before = p; tail_is = te; place = placed_in g w o k h p c s held (q, split) }

-- ---- bounds

pub bounded : (o : ℕ) (w : ClusterState) → IsSound o w → Bounded w
bounded o w is =
    let g = is.tree in
    let s = is.sound in
    let low : (e : ℕ) → HasReign w e → e ≤ durable w = λ e r. (s.each_reign e r.0 r.1).not_ahead in
    record {
      holdings = λ k h x. (held_log g w k (seat w k) (s.each_member k) h x, held_below g w k (seat w k) (s.each_member k) h x);
      promises = λ k. (s.each_member k).not_ahead;
      jobs = λ k e job. (let jh : JobHolds g w k (member w k).promise (member w k).log (Some (Promise e)) = subst (JobHolds g w k (member w k).promise (member w k).log) job (s.each_member k).job in jh.1);
      mail = λ to m x. below g w to m low s (on_its_way g w o to m s x);
      electors = λ e k r is v. (s.each_reign e r is).promised k v;
    }
  where
    below : (g : Tree) (w : ClusterState) (to : ℕ) (m : Message) → ((e : ℕ) → HasReign w e → e ≤ durable w) → Sound g o w → MessageHolds g w to m → epoch_of m ≤ durable w
    below g w to (messages.Stop e) low s h = h
    below g w to (messages.Stopped e from t) low s h = (let a = h.0 in let b = (s.each_member from).not_ahead in omega (arith, a, b))
    below g w to (messages.Open e) low s h = low e (h.0, h.1)
    below g w to (messages.Follow e l) low s h = low e (h.0.0, h.0.1)
    below g w to (messages.Shape e runs) low s h = low e h.0
    below g w to (messages.Ask e from t) low s h = low e h.1
    below g w to (messages.Append e t c) low s h = low e h.has_reign

-- ---- occurrences

push_same : (p : List Chunk) (a b : Chunk) → p ++ a ∷ [] ≡ p ++ b ∷ [] → a ≡ b
push_same [] a b e = cc
push_same (x ∷ xs) a b e = (let tails : xs ++ a ∷ [] ≡ xs ++ b ∷ [] = cc in push_same xs a b tails)

in_one : (zs p q : List Chunk) (a b : Chunk) → IsLog zs → GoesOn (p ++ a ∷ []) zs → GoesOn (q ++ b ∷ []) zs → a.first ≡ b.first → (a ≡ b) × (p ≡ q)
in_one zs p q a b l f h e =
    let pa = push_follows p a (log_front (p ++ a ∷ []) zs f l) in
    let qb = push_follows q b (log_front (q ++ b ∷ []) zs h l) in
    let pp = goes_on p (p ++ a ∷ []) zs (goes_one p a) f in
    let qq = goes_on q (q ++ b ∷ []) zs (goes_one q b) h in
    let pf = pa.begins in
    let qf = qb.begins in
    let same : p ≡ q = same_ends p q zs pp qq l (omega (arith, pf, qf, e)) in
    let h' : GoesOn (p ++ b ∷ []) zs = subst (λ (x : List Chunk). GoesOn (x ++ b ∷ []) zs) (sym same) h in
    let x : zs ≡ p ++ (a ∷ f.0) = f.1 ∙ append_assoc p (a ∷ []) f.0 in
    let y : zs ≡ p ++ (b ∷ h'.0) = h'.1 ∙ append_assoc p (b ∷ []) h'.0 in
    let rest : a ∷ f.0 ≡ b ∷ h'.0 = append_cancel_left p (a ∷ f.0) (b ∷ h'.0) (sym x ∙ y) in
    (cc, same)

own_is_log : (g : Tree) (w : ClusterState) (o e : ℕ) (xs : List Chunk) → Sound g o w → (y : Own w e xs) → IsLog ((member w y.leader).log ++ y.chunk ∷ [])
own_is_log g w o e xs s y =
    let h = s.each_member y.leader in
    let jh : JobHolds g w y.leader (member w y.leader).promise (member w y.leader).log (Some (Write y.chunk)) = subst (JobHolds g w y.leader (member w y.leader).promise (member w y.leader).log) y.job h.job in
    log_push (member w y.leader).log y.chunk h.is_log jh.0

pub occurrences_agree : (o : ℕ) (w : ClusterState) → IsSound o w → OccurrencesAgree w
occurrences_agree o w is a b t u x y e f =
    let g = is.tree in
    let s = is.sound in
    let p = located g w o a t s x in
    let q = located g w o b u s y in
    let xs = p.before ++ a ∷ [] in
    let ys = q.before ++ b ∷ [] in
    let done : (a ≡ b) × (p.before ≡ q.before) → (a ≡ b) × (t ≡ u) = λ r. (r.0, sym p.tail_is ∙ (ap tail_of r.1 ∙ q.tail_is)) in
    elim p.place [
      | inl i ↦ elim q.place [
        | inl j ↦ done (in_one (g.canon a.epoch) p.before q.before a b (s.tree.logs a.epoch) i (subst (λ (n : ℕ). GoesOn ys (g.canon n)) (sym e) j) f)
        | inr j ↦
            let i' : GoesOn xs (g.canon b.epoch) = subst (λ (n : ℕ). GoesOn xs (g.canon n)) e i in
            done (in_one ((member w j.leader).log ++ j.chunk ∷ []) p.before q.before a b (own_is_log g w o b.epoch ys s j) (under g w o j.leader b.epoch j.chunk xs s j.promise j.leads i') (same_begins ys ((member w j.leader).log ++ j.chunk ∷ []) j.is) f)
      ]
      | inr i ↦ elim q.place [
        | inl j ↦
            let j' : GoesOn ys (g.canon a.epoch) = subst (λ (n : ℕ). GoesOn ys (g.canon n)) (sym e) j in
            done (in_one ((member w i.leader).log ++ i.chunk ∷ []) p.before q.before a b (own_is_log g w o a.epoch xs s i) (same_begins xs ((member w i.leader).log ++ i.chunk ∷ []) i.is) (under g w o i.leader a.epoch i.chunk ys s i.promise i.leads j') f)
        | inr j ↦
            let k : i.leader ≡ j.leader = leads_unique w a.epoch i.leader j.leader i.leads (subst (λ (n : ℕ). LeadsEpoch w n j.leader) (sym e) j.leads) in
            let job : (member w i.leader).job ≡ Some (Write j.chunk) = ap (λ (n : ℕ). (member w n).job) k ∙ j.job in
            let same : i.chunk ≡ j.chunk = cc (i.job, job) in
            let z = (member w i.leader).log ++ i.chunk ∷ [] in
            let j' : ys ≡ z = j.is ∙ (ap (λ (n : ℕ). (member w n).log ++ j.chunk ∷ []) (sym k) ∙ ap (λ (d : Chunk). (member w i.leader).log ++ d ∷ []) (sym same)) in
            done (in_one z p.before q.before a b (own_is_log g w o a.epoch xs s i) (same_begins xs z i.is) (same_begins ys z j') f)
      ]
    ]

-- ---- epochs

-- what goes on from where a reign began by chunks of the epoch alone, and ends in the epoch
opens_by : (g : Tree) (w : ClusterState) (o e : ℕ) (r : Reign) (xs z own more h : List Chunk) → Sound g o w → reign w e ≡ Some r → z ≡ g.base e ++ own → AllByRecursion (λ (c : Chunk). c.epoch ≡ e) own
    → GoesOn xs z → last_epoch xs ≡ e → h ≡ xs ++ more → OpensBehind r.runs e h
opens_by g w o e r xs z own more h s is parts es begins last hs =
    let rh = s.each_reign e r is in
    let base = g.base e in
    let low = rh.base_below in
    elim (goes_either xs base z begins (own, parts)) [
      | inl p ↦ absurd (let x = front_epoch xs base p rh.base_log in omega (arith, x, last, low))
      | inr p ↦ by rh.runs low p.0 p.1
    ]
  where
    by : ((d m : ℕ) → InRuns r.runs d m ↔ HasRun (g.base e) d m) → last_epoch (g.base e) < e → (rest : List Chunk) → xs ≡ g.base e ++ rest → OpensBehind r.runs e h
    by runs low [] q = absurd (let x = ap last_epoch q in let y = ap last_epoch (append-nil (g.base e)) in omega (arith, x, y, last, low))
    by runs low (c ∷ rest) q =
        let own_is : own ≡ c ∷ (rest ++ begins.0) =
        append_cancel_left (g.base e) own (c ∷ (rest ++ begins.0)) (sym parts ∙ (begins.1 ∙ (ap (λ (l : List Chunk). l ++ begins.0) q ∙ append_assoc (g.base e) (c ∷ rest) begins.0))) in
        let all : AllByRecursion (λ (d : Chunk). d.epoch ≡ e) (c ∷ (rest ++ begins.0)) = subst (AllByRecursion (λ (d : Chunk). d.epoch ≡ e)) own_is es in
        record {
          front = g.base e;
          first = c;
          rest = rest ++ more;
          parts = hs ∙ (ap (λ (l : List Chunk). l ++ more) q ∙ append_assoc (g.base e) (c ∷ rest) more);
          epoch_is = all.0;
          earlier = low;
          exact = runs;
        }

-- a list with a chunk isn't empty
not_none : (p : List Chunk) (c : Chunk) → p ++ c ∷ [] ≡ [] → ⊥
not_none [] c e = cc
not_none (x ∷ p) c e = cc

-- the leader that is writing has the log of its reign, and writes in its epoch
own_lead : (g : Tree) (w : ClusterState) (o e : ℕ) (xs : List Chunk) → Sound g o w → (y : Own w e xs) → LeadsWith g e (member w y.leader).log × (y.chunk.epoch ≡ e) × Follows (member w y.leader).log y.chunk
own_lead g w o e xs s y =
    let m = member w y.leader in
    let h = s.each_member y.leader in
    let at : LeadsEpoch w m.promise y.leader = subst (λ (n : ℕ). LeadsEpoch w n y.leader) (sym y.promise) y.leads in
    let jh : JobHolds g w y.leader m.promise m.log (Some (Write y.chunk)) = subst (JobHolds g w y.leader m.promise m.log) y.job h.job in (
      subst (λ (n : ℕ). LeadsWith g n m.log) y.promise (h.leads at),
      elim jh.3 [ inl x ↦ x.0 ∙ y.promise | inr x ↦ absurd (x.0 at) ],
      jh.0,
    )

pub epochs_open : (o : ℕ) (w : ClusterState) → IsSound o w → EpochsOpen o w
epochs_open o w is =
    let g = is.tree in
    let s = is.sound in
    record {
      held = λ e k r h has held stands. held_opens g s e k r h has held (stands_by e h stands);
      agree = λ e a b ha hb xa xb ta tb.
          held_agree g w o a b e ha hb s xa xb (upto_ends e ha (held_log g w a (seat w a) (s.each_member a) ha xa) ta) (upto_ends e hb (held_log g w b (seat w b) (s.each_member b) hb xb) tb);
      known = λ c t x. (let p = located g w o c t s x in elim p.place [
        | inl q ↦ elim (s.tree.known c.epoch) [
          | inl nil ↦ absurd (not_none p.before c (none_begins (p.before ++ c ∷ []) (begins_as (p.before ++ c ∷ []) (g.canon c.epoch) [] nil q)))
          | inr y ↦ y
        ]
        | inr y ↦ inr (y.leads.0, y.leads.1)
      ]);
    }
  where
    held_opens : (g : Tree) → Sound g o w → (e k : ℕ) (r : Reign) (h : List Chunk) → reign w e ≡ Some r → Holds (member w k) h → Stands e h → OpensBehind r.runs e h
    held_opens g s e k r h has held x =
        let xs = x.front ++ x.chunk ∷ [] in
        let last : last_epoch xs ≡ e = epoch_push x.front x.chunk ∙ x.epoch_is in
        let rh = s.each_reign e r has in
        elim (placed_in g w o k h x.front x.chunk s held (x.rest, x.parts)) [
          | inl p ↦
              let q : GoesOn xs (g.canon e) = subst (λ (n : ℕ). GoesOn xs (g.canon n)) x.epoch_is p in
              elim rh.begins [
                | inl nil ↦ absurd (not_none x.front x.chunk (none_begins xs (begins_as xs (g.canon e) [] nil q)))
                | inr y ↦ opens_by g w o e r xs (g.canon e) y.0 x.rest h s has y.1 y.2 q last x.parts
              ]
          | inr y0 ↦
              let y : Own w e xs = subst (λ (n : ℕ). Own w n xs) x.epoch_is y0 in
              let l = own_lead g w o e xs s y in
              let z = own_log g e (member w y.leader).log y.chunk l.0 rh.begins l.1 in
              opens_by g w o e r xs ((member w y.leader).log ++ y.chunk ∷ []) z.0 x.rest h s has z.1 z.2 (same_begins xs ((member w y.leader).log ++ y.chunk ∷ []) y.is) last x.parts
        ]

-- ---- leaders

push_last : (p q : List Chunk) (a b : Chunk) → p ++ a ∷ [] ≡ q ++ b ∷ [] → (p ≡ q) × (a ≡ b)
push_last [] [] a b e = (refl, cc)
push_last [] (y ∷ q) a b e = absurd (let t : [] ≡ q ++ b ∷ [] = cc in not_none q b (sym t))
push_last (x ∷ p) [] a b e = absurd (let t : p ++ a ∷ [] ≡ [] = cc in not_none p a t)
push_last (x ∷ p) (y ∷ q) a b e =
    let tails : p ++ a ∷ [] ≡ q ++ b ∷ [] = cc in
    let heads : x ≡ y = cc in
    let r = push_last p q a b tails in
    (ap (λ (z : Chunk). z ∷ p) heads ∙ ap (λ (l : List Chunk). y ∷ l) r.0, r.1)

-- what begins the longest log of an epoch with a chunk stands in the log of its leader
in_leader : (g : Tree) (w : ClusterState) (o e k : ℕ) (before : List Chunk) (c : Chunk) (t : Tail) → Sound g o w → LeadsEpoch w e k → (member w k).promise ≡ e → GoesOn (before ++ c ∷ []) (g.canon e) → tail_of before ≡ t
    → (front : List Chunk) × (rest : List Chunk) × ((member w k).log ≡ (front ++ c ∷ []) ++ rest) × (tail_of front ≡ t)
in_leader g w o e k before c t s leads pe p tail =
    let m = member w k in
    let lw : LeadsWith g e m.log = subst (λ (n : ℕ). LeadsWith g n m.log) pe ((s.each_member k).leads (subst (λ (n : ℕ). LeadsEpoch w n k) (sym pe) leads)) in
    elim lw [
      | inl x ↦ absurd (not_none before c (none_begins (before ++ c ∷ []) (begins_as (before ++ c ∷ []) (g.canon e) [] x.0 p)))
      | inr x ↦ (before, p.0, x.0 ∙ p.1, tail)
    ]

-- chunks of one epoch have no run of another
no_run : (e d m : ℕ) (own : List Chunk) → AllByRecursion (λ (c : Chunk). c.epoch ≡ e) own → d < e → HasRun own d m → ⊥
no_run e d m [] es lt h = h
no_run e d m (c ∷ own) es lt (inl h) = omega (arith, es.0, lt, h.0)
no_run e d m (c ∷ own) es lt (inr h) = no_run e d m own es.1 lt h

-- a log that goes on from where a reign began by chunks of the epoch alone has the reign's runs below it
runs_below : (g : Tree) (w : ClusterState) (o e d m : ℕ) (r : Reign) (h own : List Chunk) → Sound g o w → reign w e ≡ Some r → h ≡ g.base e ++ own → AllByRecursion (λ (c : Chunk). c.epoch ≡ e) own → d < e → HasRun h d m ↔ InRuns r.runs d m
runs_below g w o e d m r h own s is parts es lt =
    let rh = s.each_reign e r is in (
      λ x. elim (run_parts (g.base e) own d m (subst (λ (l : List Chunk). HasRun l d m) parts x)) [
        | inl y ↦ (rh.runs d m).1 y
        | inr y ↦ absurd (no_run e d m own es lt y)
      ],
      λ x. subst (λ (l : List Chunk). HasRun l d m) (sym parts) (run_left (g.base e) own d m ((rh.runs d m).0 x)),
    )

-- each log that the disk of a leader may have goes on so
leader_parts : (g : Tree) (w : ClusterState) (o k : ℕ) (h : List Chunk) → Sound g o w → LeadsEpoch w (member w k).promise k → Holds (member w k) h
    → (own : List Chunk) × (h ≡ g.base (member w k).promise ++ own) × AllByRecursion (λ (c : Chunk). c.epoch ≡ (member w k).promise) own
leader_parts g w o k h s leads held = go m.job (s.each_member k).job held
  where
    m : MemberState
    m = member w k

    lw : LeadsWith g m.promise m.log
    lw = (s.each_member k).leads leads

    own : OwnBehind g m.promise
    own = (s.each_reign m.promise leads.0 leads.1).begins

    of_log : LeadsWith g m.promise m.log → OwnBehind g m.promise → (own : List Chunk) × (m.log ≡ g.base m.promise ++ own) × AllByRecursion (λ (c : Chunk). c.epoch ≡ m.promise) own
    of_log (inl x) o = ([], x.1 ∙ sym (append-nil (g.base m.promise)), tt)
    of_log (inr x) (inl nil) =
        let none : m.log ≡ [] = x.0 ∙ nil in
        let base : g.base m.promise ≡ [] = none_begins (g.base m.promise) (begins_as (g.base m.promise) m.log [] none x.1) in
        ([], none ∙ (sym base ∙ sym (append-nil (g.base m.promise))), tt)
    of_log (inr x) (inr y) = (y.0, x.0 ∙ y.1, y.2)

    plain : h ≡ m.log → (own : List Chunk) × (h ≡ g.base m.promise ++ own) × AllByRecursion (λ (c : Chunk). c.epoch ≡ m.promise) own
    plain e = (let x = of_log lw own in (x.0, e ∙ x.1, x.2))

    go : (j : Option Job) → JobHolds g w k m.promise m.log j → HoldsBy j m.log h → (own : List Chunk) × (h ≡ g.base m.promise ++ own) × AllByRecursion (λ (c : Chunk). c.epoch ≡ m.promise) own
    go None jh x = plain x
    go (Some (Promise n)) jh x = plain x
    go (Some (Epoch n)) jh x = absurd jh
    go (Some (Cut to)) jh x = absurd (jh.1 leads)
    go (Some (Write c)) jh (inl x) = plain x
    go (Some (Write c)) jh (inr x) = elim jh.3 [
      | inl y ↦ (let z = own_log g m.promise m.log c lw own y.0 in (z.0, x ∙ z.1, z.2))
      | inr y ↦ absurd (y.0 leads)
    ]

pub leaders_lead : (o : ℕ) (w : ClusterState) → IsSound o w → LeadersLead w
leaders_lead o w is =
    let g = is.tree in
    let s = is.sound in
    record {
      told_open = λ e to x. on_its_way g w o to (messages.Open e) s x;
      told_follow = λ e l to x. on_its_way g w o to (messages.Follow e l) s x;
      told_shape = λ e to runs x. (let h = on_its_way g w o to (messages.Shape e runs) s x in let rh = s.each_reign e h.0.0 h.0.1 in
          (h.0.0, h.0.1, λ d m. (λ y. (rh.runs d m).1 ((h.1 d m).0 y), λ y. (h.1 d m).1 ((rh.runs d m).0 y))));
      sent = λ e to k t c x leads pe. (let app : AppendHolds g w e t c = on_its_way g w o to (messages.Append e t c) s x in in_leader g w o e k app.before c t s leads pe app.sent_from app.tail_is);
      leads = λ k l role. (let rh : LeaderHolds g w k (member w k).promise l = subst (RoleHolds g w k (member w k).promise) role (s.each_member k).role in rh.leads);
      held = λ k d n r h leads is x lt. (let p = leader_parts g w o k h s leads x in runs_below g w o (member w k).promise d n r h p.0 s is p.1 p.2 lt);
      stands = λ k c t leads x ce. (let p = located g w o c t s x in elim p.place [
        | inl q ↦ inl (in_leader g w o (member w k).promise k p.before c t s leads refl (subst (λ (n : ℕ). GoesOn (p.before ++ c ∷ []) (g.canon n)) ce q) p.tail_is)
        | inr y ↦
            let same : y.leader ≡ k = leads_unique w c.epoch y.leader k y.leads (subst (λ (n : ℕ). LeadsEpoch w n k) (sym ce) leads) in
            let chunk : c ≡ y.chunk = (push_last p.before (member w y.leader).log c y.chunk y.is).1 in
            inr (ap (λ (n : ℕ). (member w n).job) (sym same) ∙ (y.job ∙ ap (λ (d : Chunk). Some (Write d)) (sym chunk)))
      ]);
    }

-- ---- elections

pub elections_are_still : (o : ℕ) (w : ClusterState) → IsSound o w → ElectionsAreStill w
elections_are_still o w is =
    let g = is.tree in
    let s = is.sound in
    let eh : w.coordinator.phase ≡ Electing → ElectingHolds o w w.coordinator.told = λ e. subst (PhaseHolds o w w.coordinator.told) e s.coordinator.phase in
    record {
      new = λ e. (eh e).new;
      alone = λ to m e x same. alone g w to m (eh e).new same (on_its_way g w o to m s x);
      replies = λ to from t e x. elim x [
        | inl y ↦ (let h = on_its_way g w o to (messages.Stopped (durable w) from t) s y in reply g s from t (eh e).new h.1)
        | inr y ↦ reply g s from t (eh e).new ((eh e).replies from t y).2
      ];
    }
  where
    never : (e : ℕ) → reign w (durable w) ≡ None → e ≡ durable w → HasReign w e → ⊥
    never e none same h = (let x : reign w (durable w) ≡ Some h.0 = subst (λ (n : ℕ). reign w n ≡ Some h.0) same h.1 in let both : None ≡ Some h.0 = sym none ∙ x in cc)

    reply : (g : Tree) → Sound g o w → (from : ℕ) (t : Tail) → reign w (durable w) ≡ None → ReplyHolds w (durable w) from t → ((member w from).promise ≡ durable w) × IsCalm (member w from) × (tail_of (member w from).log ≡ t)
    reply g s from t none (inl z) = absurd (let low = (s.each_member from).not_ahead in omega (arith, z, low))
    reply g s from t none (inr (inl z)) = absurd (never (durable w) none refl z)
    reply g s from t none (inr (inr z)) = z

    alone : (g : Tree) (w' : ClusterState) (to : ℕ) (m : Message) → reign w (durable w) ≡ None → epoch_of m ≡ durable w → MessageHolds g w to m → (m ≡ messages.Stop (durable w)) ⊎ ((from : ℕ) × (t : Tail) × (m ≡ messages.Stopped (durable w) from t))
    alone g w' to (messages.Stop e) none same h = inl (ap messages.Stop same)
    alone g w' to (messages.Stopped e from t) none same h = inr (from, t, ap (λ (n : ℕ). messages.Stopped n from t) same)
    alone g w' to (messages.Open e) none same h = absurd (never e none same (h.0, h.1))
    alone g w' to (messages.Follow e l) none same h = absurd (never e none same (h.0.0, h.0.1))
    alone g w' to (messages.Shape e runs) none same h = absurd (never e none same h.0)
    alone g w' to (messages.Ask e from t) none same h = absurd (never e none same h.1)
    alone g w' to (messages.Append e t c) none same h = absurd (never e none same h.has_reign)

-- ---- asks

asked_holds : (g : Tree) (w : ClusterState) (o e j n : ℕ) → Sound g o w → Asked w e j n → AskHolds g w e j n × AskElects g w e j n
asked_holds g w o e j n s (On_its_way to t x te tn) =
    let h = on_its_way g w o to (messages.Ask e j t) s x in
    subst (λ (m : ℕ). AskHolds g w e j m × AskElects g w e j m) tn (h.0 te)
asked_holds g w o e j n s (Counted k l role pe some at) =
    let rh : LeaderHolds g w k (member w k).promise l = subst (RoleHolds g w k (member w k).promise) role (s.each_member k).role in
    subst (λ (m : ℕ). AskHolds g w e j m × AskElects g w e j m) at (subst (λ (p : ℕ). AskHolds g w p j (acked l.acknowledged j) × AskElects g w p j (acked l.acknowledged j)) pe (rh.asked j some))

-- the end of a chunk that occurs, up to a mark of its epoch, is a mark
chunk_mark : (g : Tree) (w : ClusterState) (o e n : ℕ) (c : Chunk) (t : Tail) → Sound g o w → IsMark g.canon e n → Occurs w c t → c.epoch ≡ e → end_of_chunk c ≤ n → IsMark g.canon e (end_of_chunk c)
chunk_mark g w o e n c t s mark x ce le =
    let p = located g w o c t s x in
    let xs = p.before ++ c ∷ [] in
    elim p.place [
      | inl q ↦ record {
        upto = xs;
        begins = subst (λ (m : ℕ). GoesOn xs (g.canon m)) ce q;
        epoch_is = epoch_push p.before c ∙ ce;
        end_is = end_push p.before c;
        run = subst (λ (m : ℕ). HasRun xs m (end_of_chunk c)) ce (run_tail p.before c);
      }
      | inr y0 ↦
          let y : Own w e xs = subst (λ (m : ℕ). Own w m xs) ce y0 in
          let l = own_lead g w o e xs s y in
          let log = (member w y.leader).log in
          let chunk : c ≡ y.chunk = (push_last p.before log c y.chunk y.is).1 in
          let ends = ap end_of_chunk chunk in
          let goes = chunk_goes_on y.chunk l.2.is in
          let first = l.2.begins in
          elim l.0 [
            | inl z ↦ absurd (let nil = none_begins mark.upto (begins_as mark.upto (g.canon e) [] z.0 mark.begins) in subst (λ (xs : List Chunk). HasRun xs e n) nil mark.run)
            | inr z ↦ absurd (let low = front_end mark.upto log (begins_as mark.upto (g.canon e) log (sym z.0) mark.begins) (s.each_member y.leader).is_log in let at = mark.end_is in omega (arith, low, at, goes, first, ends, le))
          ]
    ]

pub asks_are_true : (o : ℕ) (w : ClusterState) → IsSound o w → AsksAreTrue w
asks_are_true o w is =
    let g = is.tree in
    let s = is.sound in
    record {
      held = λ e j n c t a x ce le. (let h = asked_holds g w o e j n s a in h.0.stands (end_of_chunk c) (chunk_mark g w o e n c t s h.0.mark x ce le) le);
      elected = λ e j n later c t r a x ce le is lt v. (let h = asked_holds g w o e j n s a in h.1 (end_of_chunk c) later r (chunk_mark g w o e n c t s h.0.mark x ce le) le is lt v);
    }
