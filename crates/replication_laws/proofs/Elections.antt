-- An election: an epoch gets its reign.
use Rattle.std.proofs.Common.{◌≡◌, ℕ, ◌<◌, ◌≤◌, ◌⊎◌, ◌≢◌, List, [], ◌∷◌, length, refl, sym, ap, ◌∙◌, subst, inl, inr, arith, Option, Some, None, Bool, true, cond, eqb, ◌↔◌}
use Rattle.std.proofs.lemmas.Bool.{cases_eq, cases_lt, eq-eqb, ne_eqb}
use Rattle.std.specs.List.{AllByRecursion}
use Rattle.chunk_format.specs.declared.chunk.Chunk.{Chunk}
use Rattle.chunk_format.specs.Logs.{GoesOn, end_of, last_epoch, HasRun}
use Rattle.chunk_format.proofs.BeginLaws.{goes_same, goes_either}
use Rattle.epoch_coordinator.specs.declared.tail.Tail.{Tail}
use Rattle.epoch_coordinator.specs.declared.message.Job.{Job}
use Rattle.epoch_coordinator.specs.declared.message.Job.TheVariants.{Write, Cut, Promise, Epoch}
use Rattle.epoch_coordinator.specs.declared.message.Message.TheVariants as messages
use Rattle.epoch_coordinator.specs.declared.message.Sent.{Sent}
use Rattle.epoch_coordinator.specs.declared.coordinator.Phase.TheVariants.{Running}
use Rattle.epoch_coordinator.specs.Tails.{tail_of}
use Rattle.epoch_coordinator.specs.MemberSteps.{mail}
use Rattle.epoch_coordinator.specs.Coordinators.{CoordinatorState}
use Rattle.replication_laws.specs.Majorities.{IsMajority, is_voter}
use Rattle.replication_laws.specs.Cluster.{Reign, ClusterState, seat, member, durable, reign, InRuns, numbered, send}
use Rattle.replication_laws.specs.Soundness.{Tree, IsMark, Lacks, LeadsEpoch, HasReign, IsCalm, LetterHolds, JobHolds, MemberHolds, ReignHolds, Kept, Sound}
use Rattle.replication_laws.proofs.Meetings.{majorities}
use Rattle.replication_laws.proofs.Logs.{none_begins, front_below, run_front, run_epoch, run_end, nil_or}
use Rattle.replication_laws.proofs.Frame.{Advance, ElectsOn, lacks_on, letter_on}
use Rattle.replication_laws.proofs.Carry.{role_on, member_on, reign_on, holds_log, self_mark, kept_rooted}
use Rattle.replication_laws.proofs.Sounds.{all_weaker, all_join, all_numbered, After, SentHolds}
use Rattle.replication_laws.proofs.Followers.{mark_reached, runs_either}

-- a tail is at most another
abbrev pub IsAtMost : Tail → Tail → Type 0
IsAtMost t u = (t.epoch < u.epoch) ⊎ ((t.epoch ≡ u.epoch) × (t.end ≤ u.end))

-- the members that elect: each is calm in the epoch, and the leader is one of them and has the greatest tail
pub record Chooses (w : ClusterState) (l : ℕ) (electors : List Bool) : Type 0 where
  pub most : IsMajority (length w.seats) electors
  pub calm : (k : ℕ) → is_voter electors k ≡ true → ((member w k).promise ≡ durable w) × IsCalm (member w k)
  pub leader : is_voter electors l ≡ true
  pub greatest : (k : ℕ) → is_voter electors k ≡ true → IsAtMost (tail_of (member w k).log) (tail_of (member w l).log)

-- the coordinator after an election: the epoch runs
pub record Ran (w : ClusterState) (co : CoordinatorState) (l : ℕ) : Type 0 where
  pub count : co.members ≡ length w.seats
  pub places : length co.told ≡ length w.seats
  pub epoch_is : co.epoch ≡ durable w
  pub phase_is : co.phase ≡ Running l
  pub job_is : co.job ≡ None

abbrev pub reign_made : ClusterState → Reign → CoordinatorState → List Sent → ClusterState
reign_made w r co ms = send (record w { coordinator = co; reigns = r ∷ w.reigns }) ms

abbrev pub based : Tree → ℕ → List Chunk → Tree
based g e l = record { canon = g.canon; base = λ x. cond (eqb x e) l (g.base x) }

-- what an elector reaches the leader reaches, or its log ends in a later epoch
leader_reaches : (g : Tree) (w : ClusterState) (o e m k l : ℕ) → Sound g o w
    → IsAtMost (tail_of (member w k).log) (tail_of (member w l).log)
    → IsMark g.canon e m → HasRun (member w k).log e m
    → HasRun (member w l).log e m ⊎ (e < last_epoch (member w l).log)
leader_reaches g w o e m k l s most mark run =
    let a = s.each_member k in
    let b = s.each_member l in
    let low = run_epoch (member w k).log e m a.is_log run in
    let end = run_end (member w k).log e m a.is_log run in
    elim (cases_lt e (last_epoch (member w l).log)) [
      | inl lt ↦ inr lt
      | inr ge ↦ inl (mark_reached g w o e m (member w l).log s.tree b.rooted (omega (arith, low, ge, most)) (omega (arith, low, ge, most, end)) mark)
    ]

job_empty : (g g' : Tree) (w w' : ClusterState) (k p : ℕ) (log : List Chunk) → (HasReign w p → ⊥) → durable w ≤ durable w' → (j : Option Job) → JobHolds g w k p log j → JobHolds g' w' k p log j
job_empty g g' w w' k p log never le None h = tt
job_empty g g' w w' k p log never le (Some (Promise e)) h = (h.0, omega (arith, h.1, le))
job_empty g g' w w' k p log never le (Some (Epoch e)) h = absurd h
job_empty g g' w w' k p log never le (Some (Write c)) h = absurd (never h.2)
job_empty g g' w w' k p log never le (Some (Cut to)) h = absurd (never h.0)

pub elect_reign : (g : Tree) (w : ClusterState) (o l : ℕ) (r : Reign) (co : CoordinatorState) (ms : List Sent) → Sound g o w
    → reign w (durable w) ≡ None → o < durable w → Chooses w l r.electors → Ran w co l
    → r.epoch ≡ durable w → r.leader ≡ l
    → ((e m : ℕ) → InRuns r.runs e m ↔ HasRun (member w l).log e m)
    → AllByRecursion (λ (x : Sent). (x ≡ mail l (messages.Open (durable w))) ⊎ ((k : ℕ) × (k ≢ l) × (x ≡ mail k (messages.Follow (durable w) l)))) ms
    → (g' : Tree) × After g o w g' (reign_made w r co ms)
elect_reign g w o l r co ms s none late elects ran re rl exact sent =
    let c = durable w in
    let log = (member w l).log in
    let w' = reign_made w r co ms in
    let g' = based g c log in
    let dur : durable w' ≡ c = ran.epoch_is in
    let new : reign w' c ≡ Some r = rw (eq-eqb r.epoch c re) refl in
    let ne_of : (e : ℕ) → HasReign w e → e ≡ c → ⊥ = λ e h eq. (let x : reign w c ≡ Some h.0 = rw eq at h.1 in cc (none, x)) in
    let old : (e : ℕ) → (e ≡ c → ⊥) → reign w' e ≡ reign w e = λ e ne. rw (ne_eqb r.epoch e (λ q. ne (sym q ∙ re))) refl in
    let empty : g.canon c ≡ [] = elim (s.tree.known c) [ inl x ↦ x | inr (inl x) ↦ absurd (omega (arith, x)) | inr (inr x) ↦ absurd (ne_of c x refl) ] in
    let ml = s.each_member l in
    let low : last_epoch log < c = elim (cases_eq (last_epoch log) c) [
      | inl eq ↦ (let p : GoesOn log (g.canon c) = rw eq at ml.rooted in
          let nil : log ≡ [] = none_begins log (rw empty at p) in
          let z : 0 ≡ c = ap last_epoch (sym nil) ∙ eq in absurd (omega arith))
      | inr ne ↦ omega (arith, ml.below, (elects.calm l elects.leader).0)
    ] in
    let a : Advance g w g' w' = record {
      grows = λ e. goes_same (g.canon e);
      bases = λ e h. rw (ne_eqb e c (ne_of e h)) refl;
      sources = λ e. inl (goes_same (g.canon e));
      reigns = λ e q is. old e (ne_of e (q, is)) ∙ is;
      count = refl;
      not_back = omega (arith, dur);
      promises = λ k. omega arith;
      keeps = λ k e m mark all. inl all;
      fits = λ k h x. inl (h, x, goes_same h);
      calm = λ k q. inr (inr (refl, q, refl));
    } in
    -- the leader's log ends in a later epoch: it reaches (e, m), or that epoch's reign lacks it
    let through : (e m : ℕ) → HasReign w e → e < last_epoch log → HasRun log e m ⊎ Lacks w.reigns e m (last_epoch log) =
    λ e m has lt.
    let d = last_epoch log in
    let some : (g.canon d ≡ []) → ⊥ = λ nil. (let n : log ≡ [] = none_begins log (rw nil at ml.rooted) in let z : 0 ≡ d = ap last_epoch (sym n) in absurd (omega arith)) in
    let later = s.tree.reigns_later e has in
    elim (s.tree.known d) [
      | inl nil ↦ absurd (some nil)
      | inr (inl early) ↦ absurd (omega arith)
      | inr (inr rd) ↦
          let rh = s.each_reign d rd.0 rd.1 in
          elim (runs_either rd.0.runs e m) [
            | inl reached ↦
                let p : GoesOn (g.base d) (g.canon d) = elim rh.begins [ inl nil ↦ absurd (some nil) | inr p ↦ (p.0, p.1) ] in
                elim (goes_either (g.base d) log (g.canon d) p ml.rooted) [
                  | inl q ↦ inl (run_front (g.base d) log e m q ((rh.runs e m).0 reached))
                  | inr q ↦ (let y = front_below log (g.base d) (last_epoch (g.base d)) q rh.base_log (omega arith) in absurd (omega (arith, rh.base_below, y)))
                ]
            | inr never ↦ inr (record { at = d; by = rd.0; is_reign = rd.1; later = lt; not_after = omega arith; lacks = never })
          ]
    ] in
    let elects_new : ElectsOn g w g' w' = λ e j n ask f m q r0 mark le is later elector.
    elim (cases_eq q c) [
      | inr ne ↦ (elim (f m q r0 mark le (sym (old q ne) ∙ is) later elector) [
        | inl x ↦ inl x
        | inr x ↦ inr (x.0, x.1, lacks_on g g' w w' e m x.0 x.0 a (omega arith) x.2)
      ])
      | inl eq ↦
          let is' : Some r ≡ Some r0 = sym new ∙ (rw eq at is) in
          let same : r ≡ r0 = cc is' in
          let el : is_voter r.electors j ≡ true = subst (λ (y : Reign). is_voter y.electors j ≡ true) (sym same) elector in
          let good : HasRun log e m → InRuns r0.runs e m = λ h. subst (λ (y : Reign). InRuns y.runs e m) same ((exact e m).1 h) in
          let lacking : (p : ℕ) → p ≤ c → Lacks w.reigns e m p → (y : ℕ) × (y < q) × Lacks w'.reigns e m y =
          λ p le l. (
            l.at,
            (let ne = ne_of l.at (l.by, l.is_reign) in omega (arith, l.not_after, le, eq, ne)),
            record { at = l.at; by = l.by; is_reign = old l.at (ne_of l.at (l.by, l.is_reign)) ∙ l.is_reign; later = l.later; not_after = omega arith; lacks = l.lacks },
          ) in
          elim (ask.stands m mark le) [
            | inr l ↦ inr (lacking (member w j).promise (omega (arith, (elects.calm j el).0)) l)
            | inl all ↦
                elim (leader_reaches g w o e m j l s (elects.greatest j el) mark (all (member w j).log (holds_log g w j (seat w j) (s.each_member j)))) [
                  | inl h ↦ inl (good h)
                  | inr lt ↦ elim (through e m ask.has_reign lt) [
                    | inl h ↦ inl (good h)
                    | inr l ↦ inr (lacking (last_epoch log) (omega (arith, low)) l)
                  ]
                ]
          ]
    ] in
    let members : (k : ℕ) → MemberHolds g' w' k (seat w k) = λ k.
    let m = member w k in
    let h = s.each_member k in
    elim (cases_eq m.promise c) [
      | inr ne ↦ member_on g g' w w' k (seat w k) s.tree.logs a elects_new (λ ld. (ld.0, sym (old m.promise ne) ∙ ld.1, ld.2))
          (λ ld. rw (ne_eqb m.promise c ne) (h.leads (ld.0, sym (old m.promise ne) ∙ ld.1, ld.2))) h
      | inl eq ↦ record {
        is_log = h.is_log;
        below = h.below;
        not_ahead = omega (arith, h.not_ahead, dur);
        rooted = h.rooted;
        job = job_empty g g' w w' k m.promise m.log (λ x. ne_of m.promise x eq) (omega (arith, dur)) m.job h.job;
        role = role_on g g' w w' k m.promise s.tree.logs a elects_new m.role h.role;
        leads = λ ld.
            let is' : Some r ≡ Some ld.0 = sym new ∙ (rw eq at ld.1) in
            let same : r ≡ ld.0 = cc is' in
            let at : l ≡ k = sym rl ∙ (ap (λ (y : Reign). y.leader) same ∙ ld.2) in
            let logs : m.log ≡ log = ap (λ (x : ℕ). (member w x).log) (sym at) in
            subst (λ (p : ℕ). ((g.canon p ≡ []) × (m.log ≡ g'.base p)) ⊎ ((m.log ≡ g.canon p) × GoesOn (g'.base p) m.log)) (sym eq)
            (inl (empty, logs ∙ (rw (eq-eqb c c refl) refl)));
        line = h.line;
      }
    ] in
    let ours : ReignHolds g' w' c r = record {
      not_ahead = omega (arith, dur);
      elected = elects.most;
      promised = λ k el. omega (arith, (elects.calm k el).0);
      led = rw rl (omega (arith, (elects.calm l elects.leader).0));
      runs = rw (eq-eqb c c refl) exact;
      base_log = rw (eq-eqb c c refl) ml.is_log;
      base_rooted = rw (eq-eqb c c refl) ml.rooted;
      base_below = rw (eq-eqb c c refl) low;
      begins = inl empty;
    } in
    let reigns : (e : ℕ) (q : Reign) → reign w' e ≡ Some q → ReignHolds g' w' e q = λ e q is.
    elim (cases_eq e c) [
      | inr ne ↦ (let is' : reign w e ≡ Some q = sym (old e ne) ∙ is in
          reign_on g g' w w' e q a is' (rw (ne_eqb e c ne) ((s.each_reign e q is').begins)) (s.each_reign e q is'))
      | inl eq ↦ (let is' : Some r ≡ Some q = sym new ∙ (rw eq at is) in
          let same : r ≡ q = cc is' in
          subst (λ (x : ℕ). ReignHolds g' w' x q) (sym eq) (subst (λ (y : Reign). ReignHolds g' w' c y) same ours))
    ] in
    let kept_new : (list : List Chunk) → Kept w list → Kept w' list = λ list h. record {
      voters = h.voters;
      most = h.most;
      held = h.held;
      later = h.later;
      reigns = λ e q is le. elim (cases_eq e c) [
        | inr ne ↦ h.reigns e q (sym (old e ne) ∙ is) le
        | inl eq ↦
            let is' : Some r ≡ Some q = sym new ∙ (rw eq at is) in
            let same : r ≡ q = cc is' in
            elim (nil_or list) [
              | inl nil ↦ inl nil
              | inr run ↦
                  let e0 = last_epoch list in
                  let n = end_of list in
                  let good : HasRun log e0 n → InRuns q.runs e0 n = λ z. subst (λ (y : Reign). InRuns y.runs e0 n) same ((exact e0 n).1 z) in
                  let j = majorities (length w.seats) h.voters r.electors h.most elects.most in
                  let held = h.held j.0 j.1 (member w j.0).log (holds_log g w j.0 (seat w j.0) (s.each_member j.0)) in
                  inr (elim (leader_reaches g w o e0 n j.0 l s (elects.greatest j.0 j.2) (self_mark g list (kept_rooted g w o list s.tree s.each_member h).0 run) (run_front list (member w j.0).log e0 n held run)) [
                    | inl z ↦ good z
                    | inr lt ↦ good (run_front list log e0 n (h.later l log (holds_log g w l (seat w l) ml) lt) run)
                  ])
            ]
      ];
    } in
    let led : LeadsEpoch w' c l = (r, new, rl) in (
      g',
      record {
        kept = kept_new;
        sources = a.sources;
        reigns = a.reigns;
        sound = record {
          tree = record {
            logs = s.tree.logs;
            rooted = s.tree.rooted;
            ends = s.tree.ends;
            known = λ e. elim (s.tree.known e) [ inl x ↦ inl x | inr (inl x) ↦ inr (inl x) | inr (inr x) ↦ inr (inr (x.0, old e (ne_of e x) ∙ x.1)) ];
            reigns_later = λ e x. elim (cases_eq e c) [ inl eq ↦ omega (arith, eq) | inr ne ↦ s.tree.reigns_later e (x.0, sym (old e ne) ∙ x.1) ];
            not_ahead = omega (arith, s.tree.not_ahead, dur);
          };
          each_member = members;
          named = s.named;
          each_reign = reigns;
          each_letter = all_join (LetterHolds g' w') w.mail (numbered w.last ms)
              (all_weaker (LetterHolds g w) (LetterHolds g' w') (letter_on g g' w w' s.tree.logs a elects_new) w.mail s.each_letter)
              (all_numbered (SentHolds g' w') w.last ms
              (all_weaker (λ (x : Sent). (x ≡ mail l (messages.Open (durable w))) ⊎ ((k : ℕ) × (k ≢ l) × (x ≡ mail k (messages.Follow (durable w) l)))) (SentHolds g' w')
              (λ x y. elim y [ inl eq ↦ rw eq led | inr z ↦ rw z.2 (led, z.1) ]) ms sent));
          coordinator = record {
            count = ran.count;
            places = ran.places;
            fits = (let f = s.coordinator.fits in omega (arith, f, dur));
            next = λ epoch is. let z : None ≡ Some epoch = sym ran.job_is ∙ is in absurd cc;
            phase = rw (ran.phase_is, dur) led;
          };
          committed = kept_new w.committed s.committed;
        };
      },
    )
