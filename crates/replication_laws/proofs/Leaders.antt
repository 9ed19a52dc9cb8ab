-- What a leader does: it opens, takes chunks, answers Asks, and writes its own chunks, by which the longest log of its epoch grows.
use Rattle.std.proofs.Common.{◌≡◌, ℕ, ◌-◌, ◌<◌, ◌≤◌, ◌⊎◌, ◌≢◌, List, [], ◌∷◌, ◌++◌, length, refl, sym, ap, subst, ◌∙◌, append_assoc, inl, inr, arith, Option, Some, None, true, false, cond, eqb, max, zero, suc}
use Rattle.std.specs.Prelude.{slice_index}
use Rattle.std.proofs.lemmas.Bool.{cases_eq, cases_lt, eq-eqb, ne_eqb}
use Rattle.std.proofs.lemmas.List.{get_or-set_same, get_or-set_other, length-set}
use Rattle.std.specs.List.{AllByRecursion}
use Rattle.chunk_format.specs.declared.chunk.Chunk.{Chunk}
use Rattle.chunk_format.specs.Logs.{GoesOn, end_from, end_of, epoch_from, last_epoch, Linked, IsLog, HasRun}
use Rattle.chunk_format.proofs.LinkLaws.{end_join, epoch_join, end_push, epoch_push, linked_join}
use Rattle.chunk_format.proofs.BeginLaws.{goes_same, goes_on, goes_push_cases}
use Rattle.epoch_coordinator.specs.declared.tail.Tail.{Tail}
use Rattle.epoch_coordinator.specs.declared.message.Job.{Job}
use Rattle.epoch_coordinator.specs.declared.message.Job.TheVariants.{Write}
use Rattle.epoch_coordinator.specs.declared.message.Message.TheVariants as messages
use Rattle.epoch_coordinator.specs.declared.message.Sent.{Sent}
use Rattle.epoch_coordinator.specs.Tails.{tail_of}
use Rattle.epoch_coordinator.specs.Members.{Leading, MemberRole, MemberState, Stopped, Leader, job_chunks, role_chunks, sequence_of}
use Rattle.epoch_coordinator.specs.MemberSteps.{mail, zeros, new_leading, raise, next_job, behind_first}
use Rattle.replication_laws.specs.Cluster.{Seat, ClusterState, seat, member, IsMember, put, send, HoldsBy, Holds}
use Rattle.replication_laws.specs.Soundness.{Tree, IsRooted, Follows, LeadsEpoch, HasReign, AskHolds, AskElects, AppendHolds, IsRest, IsQuiet, LeadsWith, JobHolds, acked, LeaderHolds, RoleHolds, LeaderLine, LineHolds, MemberHolds, OwnBehind, TreeHolds, Sound, TailMark}
use Rattle.replication_laws.proofs.Logs.{none_begins, goes_none, goes_one, same_begins, begins_as, front_below, same_ends, same_tail_is, log_push, front_follows, run_front, rooted_front, run_gives}
use Rattle.replication_laws.proofs.Frame.{Advance, elects_on}
use Rattle.replication_laws.proofs.Carry.{is_tree, rooted_on, job_on, role_on, holds_log, base_of, coordinator_on}
use Rattle.replication_laws.proofs.Sounds.{all_weaker, all_join, all_numbered, seat_put, seat_else, member_put, member_else, count_put, named_put, After, SentHolds, sound_on, keeps_by_cover, put_sound}
use Rattle.replication_laws.proofs.Followers.{leads_unique, is_up}

-- ---- a leader that begins

zeros_are : (n j : ℕ) → acked (zeros n) j ≡ 0
zeros_are n zero = refl
zeros_are zero (suc i) = refl
zeros_are (suc n) (suc zero) = refl
zeros_are (suc n) (suc (suc i)) = zeros_are n (suc i)

zeros_count : (n : ℕ) → length (zeros n) ≡ n
zeros_count zero = refl
zeros_count (suc n) = ap suc (zeros_count n)

-- a leader's chunk may be on its disk: its log with it goes on from where its reign began
own_fits : (g : Tree) (w : ClusterState) (k : ℕ) (c : Chunk) → MemberHolds g w k (seat w k) → LeadsEpoch w (member w k).promise k → c.epoch ≡ (member w k).promise
    → (x : List Chunk) → x ≡ (member w k).log ++ c ∷ []
    → ((b : List Chunk) × Holds (member w k) b × GoesOn x b) ⊎ ((q : ℕ) × HasReign w q × (last_epoch x ≤ q) × (GoesOn x (g.canon q) ⊎ GoesOn (g.base q) x))
own_fits g w k c h leads ce x z =
    let m = member w k in
    let last : last_epoch x ≡ m.promise = ap last_epoch z ∙ (epoch_push m.log c ∙ ce) in
    let on : GoesOn (g.base m.promise) (m.log ++ c ∷ []) = goes_on (g.base m.promise) m.log (m.log ++ c ∷ []) (base_of g m.promise m.log (h.leads leads)) (goes_one m.log c) in
    inr (m.promise, (leads.0, leads.1), omega (arith, last), inr (begins_as (g.base m.promise) (m.log ++ c ∷ []) x (sym z) on))

written_covers : (g : Tree) (w : ClusterState) (k : ℕ) (c : Chunk) → MemberHolds g w k (seat w k) → (x : List Chunk) → HoldsBy (Some (Write c)) (member w k).log x → (b : List Chunk) × Holds (member w k) b × GoesOn b x
written_covers g w k c h x (inl z) = ((member w k).log, holds_log g w k (seat w k) h, same_begins (member w k).log x (sym z))
written_covers g w k c h x (inr z) = ((member w k).log, holds_log g w k (seat w k) h, (c ∷ [], z))

written_fits : (g : Tree) (w : ClusterState) (k : ℕ) (c : Chunk) → MemberHolds g w k (seat w k) → LeadsEpoch w (member w k).promise k → c.epoch ≡ (member w k).promise
    → (x : List Chunk) → HoldsBy (Some (Write c)) (member w k).log x
    → ((b : List Chunk) × Holds (member w k) b × GoesOn x b) ⊎ ((q : ℕ) × HasReign w q × (last_epoch x ≤ q) × (GoesOn x (g.canon q) ⊎ GoesOn (g.base q) x))
written_fits g w k c h leads ce x (inl z) = inl ((member w k).log, holds_log g w k (seat w k) h, same_begins x (member w k).log z)
written_fits g w k c h leads ce x (inr z) = own_fits g w k c h leads ce x z

-- Open at a stopped member with no chunk of the epoch
pub take_open : (g : Tree) (w : ClusterState) (o k : ℕ) (c : Chunk) → Sound g o w → IsMember w k → (member w k).job ≡ None → (member w k).role ≡ Stopped
    → Follows (member w k).log c → c.epoch ≡ (member w k).promise → last_epoch (member w k).log ≢ (member w k).promise → LeadsEpoch w (member w k).promise k
    → After g o w g (send (put w k (is_up (record (member w k) { role = Leader (new_leading (member w k).members); job = Some (Write c) }))) [])
take_open g w o k c s lt job role follows ce new leads =
    let m = member w k in
    let l = new_leading m.members in
    let n : MemberState = record m { role = Leader l; job = Some (Write c) } in
    let h = s.each_member k in
    put_sound g w o k (is_up n) [] s lt (refl, refl) (omega arith)
    (keeps_by_cover g w m n (written_covers g w k c h))
    (written_fits g w k c h leads ce)
    (λ q. inl (leads.0, leads.1))
    (λ a. record {
      is_log = h.is_log;
      below = h.below;
      not_ahead = h.not_ahead;
      rooted = h.rooted;
      job = (follows, omega (arith, ce), (leads.0, leads.1), inl (ce, leads));
      role = record {
        leads = leads;
        asked = λ j p. (let z = zeros_are m.members j in absurd (omega (arith, p, z)));
        places = zeros_count m.members ∙ ((s.named k lt).1 ∙ sym a.count);
        own = zeros_are m.members k;
        kept = λ z. absurd cc;
      };
      leads = h.leads;
      line = λ _. record { writes = tt; goes_on = tt; own_epoch = tt; behind = tt; is_open = λ z. absurd cc; is_new = λ z. (new, (c, refl)) };
    })
    (λ a. tt)

-- ---- a leader takes a chunk

-- the role's clause, carried along where the longest logs stay
role_put : (g : Tree) (w : ClusterState) (k : ℕ) (s : Seat) (ms : List Sent) (p : ℕ) {o : ℕ} → Sound g o w → Advance g w g (send (put w k s) ms)
    → (r : MemberRole) → RoleHolds g w k p r → RoleHolds g (send (put w k s) ms) k p r
role_put g w k s ms p so a r h = role_on g g w (send (put w k s) ms) k p so.tree.logs a (λ e j q. elects_on g g w (send (put w k s) ms) e j q so.tree.logs a refl) r h

-- an opened leader with no job: the chunk is its next job
pub take_offer : (g : Tree) (w : ClusterState) (o k : ℕ) (c : Chunk) (l : Leading) → Sound g o w → IsMember w k → (seat w k).up ≡ true
    → (member w k).job ≡ None → (member w k).role ≡ Leader l → l.opened ≡ true
    → Follows (member w k).log c → c.epoch ≡ (member w k).promise
    → After g o w g (send (put w k (is_up (record (member w k) { job = Some (Write c) }))) [])
take_offer g w o k c l s lt up job role opened follows ce =
    let m = member w k in
    let n : MemberState = record m { job = Some (Write c) } in
    let h = s.each_member k in
    let rh : LeaderHolds g w k m.promise l = subst (RoleHolds g w k m.promise) role h.role in
    let lh : LeaderLine m.promise m.log None l = rw (role, job) at (h.line up) in
    put_sound g w o k (is_up n) [] s lt (refl, refl) (omega arith)
    (keeps_by_cover g w m n (written_covers g w k c h))
    (written_fits g w k c h rh.leads ce)
    (λ q. let z : IsRest (Leader l) = rw role at q.1 in absurd z)
    (λ a. record {
      is_log = h.is_log;
      below = h.below;
      not_ahead = h.not_ahead;
      rooted = h.rooted;
      job = (follows, omega (arith, ce), (rh.leads.0, rh.leads.1), inl (ce, rh.leads));
      role = role_put g w k (is_up n) [] m.promise s a m.role h.role;
      leads = h.leads;
      line = λ _. subst (LineHolds m.promise m.log (Some (Write c))) (sym role) (record {
        writes = tt;
        goes_on = subst (Linked (end_of (m.log ++ c ∷ [])) (last_epoch (m.log ++ c ∷ []))) (sym lh.behind) tt;
        own_epoch = lh.own_epoch;
        behind = tt;
        is_open = lh.is_open;
        is_new = λ z. let both : true ≡ false = sym opened ∙ z in absurd cc;
      });
    })
    (λ a. tt)

-- an opened leader with a job: the chunk waits in its queue
pub take_more : (g : Tree) (w : ClusterState) (o k : ℕ) (c d : Chunk) (l : Leading) → Sound g o w → IsMember w k → (seat w k).up ≡ true
    → (member w k).job ≡ Some (Write d) → (member w k).role ≡ Leader l → l.opened ≡ true
    → Follows ((member w k).log ++ (d ∷ [] ++ l.queue)) c → c.epoch ≡ (member w k).promise
    → After g o w g (send (put w k (is_up (record (member w k) { role = Leader (record l { queue = l.queue ++ c ∷ [] }) }))) [])
take_more g w o k c d l s lt up job role opened follows ce =
    let m = member w k in
    let l' : Leading = record l { queue = l.queue ++ c ∷ [] } in
    let n : MemberState = record m { role = Leader l' } in
    let h = s.each_member k in
    let rh : LeaderHolds g w k m.promise l = subst (RoleHolds g w k m.promise) role h.role in
    let lh : LeaderLine m.promise m.log (Some (Write d)) l = rw (role, job) at (h.line up) in
    let x = m.log ++ d ∷ [] in
    let on : Follows (x ++ l.queue) c = subst (λ (y : List Chunk). Follows y c) (sym (append_assoc m.log (d ∷ []) l.queue)) follows in
    let next : Linked (end_from (end_of x) l.queue) (epoch_from (last_epoch x) l.queue) (c ∷ []) =
    subst (λ (e : ℕ). Linked (end_from (end_of x) l.queue) e (c ∷ [])) (epoch_join 0 x l.queue) (subst (λ (n : ℕ). Linked n (last_epoch (x ++ l.queue)) (c ∷ [])) (end_join 0 x l.queue) on) in
    put_sound g w o k (is_up n) [] s lt (refl, refl) (omega arith)
    (keeps_by_cover g w m n (λ x y. (x, y, goes_same x)))
    (λ x y. inl (x, y, goes_same x))
    (λ q. let z : IsRest (Leader l) = rw role at q.1 in absurd z)
    (λ a. record {
      is_log = h.is_log;
      below = h.below;
      not_ahead = h.not_ahead;
      rooted = h.rooted;
      job = job_on g g w (send (put w k (is_up n)) []) k m.promise m.log a (λ l. l) m.job h.job;
      role = role_put g w k (is_up n) [] m.promise s a (Leader l') (record { leads = rh.leads; asked = rh.asked; places = rh.places; own = rh.own; kept = rh.kept });
      leads = h.leads;
      line = λ _. subst (λ (j : Option Job). LineHolds m.promise m.log j (Leader l')) (sym job) (record {
        writes = tt;
        goes_on = linked_join (end_of x) (last_epoch x) l.queue (c ∷ []) lh.goes_on next;
        own_epoch = all_join (λ (y : Chunk). y.epoch ≡ m.promise) l.queue (c ∷ []) lh.own_epoch (ce, tt);
        behind = tt;
        is_open = lh.is_open;
        is_new = λ z. let both : true ≡ false = sym opened ∙ z in absurd cc;
      });
    })
    (λ a. tt)

-- ---- a leader is asked

-- the chunk that is sent to one whose tail the leader's log contains
pub ask_sends : (g : Tree) (w : ClusterState) (o k j : ℕ) (t : Tail) → Sound g o w → LeadsEpoch w (member w k).promise k → last_epoch (member w k).log ≡ (member w k).promise
    → (t ≡ tail_of []) ⊎ HasRun (member w k).log t.epoch t.end → TailMark g t → (p q : List Chunk) (c : Chunk) → (member w k).log ≡ (p ++ c ∷ []) ++ q → c.first ≡ t.end
    → AppendHolds g w (member w k).promise t c
ask_sends g w o k j t s leads whole has mark p q c split at =
    let m = member w k in
    let h = s.each_member k in
    let tree = is_tree g w o s.tree in
    let front : GoesOn (p ++ c ∷ []) m.log = (q, split) in
    let pre : GoesOn p m.log = goes_on p (p ++ c ∷ []) m.log (goes_one p c) front in
    let next : Follows p c = front_follows p q m.log c split h.is_log in
    -- the asker's tail is that of a beginning of the leader's log, which ends where p ends
    let found : (u : List Chunk) × GoesOn u m.log × (tail_of u ≡ t) = elim mark [
      | inl e ↦ ([], goes_none m.log, sym e)
      | inr x ↦ elim has [
        | inl e ↦ ([], goes_none m.log, sym e)
        | inr run ↦ (
          x.upto,
          run_gives g.canon x.upto m.log tree (s.tree.rooted t.epoch x.upto x.begins) h.rooted (rw (x.epoch_is, x.end_is) run),
          same_tail_is (tail_of x.upto) t x.epoch_is x.end_is,
        )
      ]
    ] in
    let ends : end_of found.0 ≡ end_of p = ap (λ (x : Tail). x.end) found.2 ∙ (sym at ∙ next.begins) in
    let same : found.0 ≡ p = same_ends found.0 p m.log found.1 pre h.is_log ends in
    let rooted : IsRooted g.canon (p ++ c ∷ []) = rooted_front g.canon (p ++ c ∷ []) m.log tree h.rooted front in
    let last : last_epoch (p ++ c ∷ []) ≡ c.epoch = epoch_push p c in
    record {
      has_reign = (leads.0, leads.1);
      before = p;
      tail_is = ap tail_of (sym same) ∙ found.2;
      begins = subst (λ (n : ℕ). GoesOn (p ++ c ∷ []) (g.canon n)) last rooted;
      sent_from = goes_on (p ++ c ∷ []) m.log (g.canon m.promise) front (subst (λ (n : ℕ). GoesOn m.log (g.canon n)) whole h.rooted);
      not_above = (let low = front_below (p ++ c ∷ []) m.log m.promise front h.is_log h.below in omega (arith, last, low));
    }

pub max_either : (a b : ℕ) → (max a b ≡ a) ⊎ (max a b ≡ b)
max_either a b = elim (cases_lt a b) [ inl lt ↦ inr (omega (arith, lt)) | inr ge ↦ inl (omega (arith, ge)) ]

-- the acknowledged end of a member rises to this one
pub raised_here : (acks : List ℕ) (i n : ℕ) → i < length acks → acked (raise (suc i) n acks) (suc i) ≡ max n (slice_index acks i)
raised_here acks i n lt = let e : suc i - 1 ≡ i = omega arith in rw e (get_or-set_same acks i (max n (slice_index acks i)) 0 lt)

pub raised_else : (acks : List ℕ) (i n j : ℕ) → (j ≡ suc i → ⊥) → acked (raise (suc i) n acks) j ≡ acked acks j
raised_else acks i n zero ne = refl
raised_else acks i n (suc l) ne = let e : suc i - 1 ≡ i = omega arith in rw e (get_or-set_other acks i l (max n (slice_index acks i)) 0 (λ x. ne (ap suc x)))

pub raised_count : (k n : ℕ) (acks : List ℕ) → length (raise k n acks) ≡ length acks
raised_count k n acks = length-set acks (k - 1) (max n (slice_index acks (k - 1)))

-- a leader that counts an acknowledgement, or none, and sends
pub take_ask : (g : Tree) (w : ClusterState) (o k : ℕ) (l : Leading) (acks : List ℕ) (ms : List Sent) → Sound g o w → IsMember w k → (seat w k).up ≡ true
    → (member w k).role ≡ Leader l
    → length acks ≡ length l.acknowledged → acked acks k ≡ acked l.acknowledged k
    → ((j : ℕ) → 0 < acked acks j → (acked acks j ≡ acked l.acknowledged j) ⊎ (AskHolds g w (member w k).promise j (acked acks j) × AskElects g w (member w k).promise j (acked acks j)))
    → ((w' : ClusterState) → w'.reigns ≡ w.reigns → Advance g w g w' → AllByRecursion (SentHolds g w') ms)
    → After g o w g (send (put w k (is_up (record (member w k) { role = Leader (record l { acknowledged = acks }) }))) ms)
take_ask g w o k l acks ms s lt up role count own counted sent =
    let m = member w k in
    let l' : Leading = record l { acknowledged = acks } in
    let n : MemberState = record m { role = Leader l' } in
    let w' = send (put w k (is_up n)) ms in
    let h = s.each_member k in
    let rh : LeaderHolds g w k m.promise l = subst (RoleHolds g w k m.promise) role h.role in
    let lh : LeaderLine m.promise m.log m.job l = rw role at (h.line up) in
    put_sound g w o k (is_up n) ms s lt (refl, refl) (omega arith)
    (keeps_by_cover g w m n (λ u y. (u, y, goes_same u)))
    (λ u y. inl (u, y, goes_same u))
    (λ q. let z : IsRest (Leader l) = rw role at q.1 in absurd z)
    (λ a. record {
      is_log = h.is_log;
      below = h.below;
      not_ahead = h.not_ahead;
      rooted = h.rooted;
      job = job_on g g w w' k m.promise m.log a (λ l. l) m.job h.job;
      role = role_put g w k (is_up n) ms m.promise s a (Leader l') (record {
        leads = rh.leads;
        asked = λ j pos. elim (counted j pos) [
          | inl e ↦ subst (λ (x : ℕ). AskHolds g w m.promise j x × AskElects g w m.promise j x) (sym e) (rh.asked j (omega (arith, pos, e)))
          | inr z ↦ z
        ];
        places = count ∙ rh.places;
        own = own ∙ rh.own;
        kept = rh.kept;
      });
      leads = h.leads;
      line = λ _. record { writes = lh.writes; goes_on = lh.goes_on; own_epoch = lh.own_epoch; behind = lh.behind; is_open = lh.is_open; is_new = lh.is_new };
    })
    (λ a. sent w' refl a)

-- ---- the longest log of an epoch grows

abbrev pub grown : Tree → ℕ → List Chunk → Tree
grown g e l = record { canon = λ x. cond (eqb x e) l (g.canon x); base = g.base }

grown_grows : (g : Tree) (e : ℕ) (l : List Chunk) → GoesOn (g.canon e) l → (x : ℕ) → GoesOn (g.canon x) ((grown g e l).canon x)
grown_grows g e l p x = elim (cases_eq x e) [
  | inl eq ↦ rw (eq, eq-eqb e e refl) p
  | inr ne ↦ rw (ne_eqb x e ne) (goes_same (g.canon x))
]

-- the next of a queue as a job
pub next_holds : (q l x : List Chunk) (p : ℕ) → AllByRecursion (λ (c : Chunk). c.epoch ≡ p) q → HoldsBy (next_job q) l x → GoesOn l x × ((x ≡ l) ⊎ (last_epoch x ≡ p))
next_holds [] l x p es h = (same_begins l x (sym h), inl h)
next_holds (c ∷ cs) l x p es (inl h) = (same_begins l x (sym h), inl h)
next_holds (c ∷ cs) l x p es (inr h) = ((c ∷ [], h), inr (ap last_epoch h ∙ (epoch_push l c ∙ es.0)))

pub next_job_holds : (g : Tree) (w : ClusterState) (k p : ℕ) (log q : List Chunk) → LeadsEpoch w p k → Linked (end_of log) (last_epoch log) q → AllByRecursion (λ (c : Chunk). c.epoch ≡ p) q → JobHolds g w k p log (next_job q)
next_job_holds g w k p log [] l on es = tt
next_job_holds g w k p log (c ∷ cs) l on es = (record { begins = on.begins; not_before = on.not_before; is = on.is; behind = tt }, omega (arith, es.0), (l.0, l.1), inl (es.0, l))

pub next_line_holds : (p : ℕ) (log q : List Chunk) (l : Leading) → Linked (end_of log) (last_epoch log) q → AllByRecursion (λ (c : Chunk). c.epoch ≡ p) q → last_epoch log ≡ p
    → l.queue ≡ behind_first q → l.opened ≡ true → LineHolds p log (next_job q) (Leader l)
next_line_holds p log [] l on es te queue opened = record {
  writes = tt;
  goes_on = subst (Linked (end_of (log ++ [])) (last_epoch (log ++ []))) (sym queue) tt;
  own_epoch = subst (AllByRecursion (λ (c : Chunk). c.epoch ≡ p)) (sym queue) tt;
  behind = queue;
  is_open = λ z. te;
  is_new = λ z. let both : true ≡ false = sym opened ∙ z in absurd cc;
}
next_line_holds p log (c ∷ cs) l on es te queue opened = record {
  writes = tt;
  goes_on = subst (Linked (end_of (log ++ c ∷ [])) (last_epoch (log ++ c ∷ []))) (sym queue) (rw (end_push log c, epoch_push log c) on.behind);
  own_epoch = subst (AllByRecursion (λ (c : Chunk). c.epoch ≡ p)) (sym queue) es.1;
  behind = tt;
  is_open = λ z. te;
  is_new = λ z. let both : true ≡ false = sym opened ∙ z in absurd cc;
}

-- a leader's log with its chunk goes on from where its reign began by chunks of the epoch alone
pub own_log : (g : Tree) (e : ℕ) (log : List Chunk) (c : Chunk) → LeadsWith g e log → OwnBehind g e → c.epoch ≡ e → (own : List Chunk) × (log ++ c ∷ [] ≡ g.base e ++ own) × AllByRecursion (λ (d : Chunk). d.epoch ≡ e) own
own_log g e log c (inl x) own ce = (c ∷ [], ap (λ (l : List Chunk). l ++ c ∷ []) x.1, (ce, tt))
own_log g e log c (inr x) (inl nil) ce =
    let none : log ≡ [] = x.0 ∙ nil in
    let base : g.base e ≡ [] = none_begins (g.base e) (begins_as (g.base e) log [] none x.1) in
    (c ∷ [], ap (λ (l : List Chunk). l ++ c ∷ []) (none ∙ sym base), (ce, tt))
own_log g e log c (inr x) (inr y) ce =
    (y.0 ++ c ∷ [], ap (λ (l : List Chunk). l ++ c ∷ []) (x.0 ∙ y.1) ∙ append_assoc (g.base e) y.0 (c ∷ []), all_join (λ (d : Chunk). d.epoch ≡ e) y.0 (c ∷ []) y.2 (ce, tt))

-- a leader's chunk is on its disk: after its job, or after a restart; another may be its next job
pub own_written : (g : Tree) (w : ClusterState) (o k : ℕ) (c : Chunk) (job' : Option Job) (role : MemberRole) (ms : List Sent) → Sound g o w → IsMember w k
    → (member w k).job ≡ Some (Write c) → LeadsEpoch w (member w k).promise k
    → ((x : List Chunk) → HoldsBy job' ((member w k).log ++ c ∷ []) x → GoesOn ((member w k).log ++ c ∷ []) x × ((x ≡ (member w k).log ++ c ∷ []) ⊎ (last_epoch x ≡ (member w k).promise)))
    → ((g' : Tree) (w' : ClusterState) → w'.reigns ≡ w.reigns → JobHolds g' w' k (member w k).promise ((member w k).log ++ c ∷ []) job')
    → LineHolds (member w k).promise ((member w k).log ++ c ∷ []) job' role
    → ((g' : Tree) (w' : ClusterState) → w'.reigns ≡ w.reigns → ((e : ℕ) → IsLog (g'.canon e)) → Advance g w g' w' → RoleHolds g' w' k (member w k).promise role)
    → AllByRecursion (λ (x : Sent). (to : ℕ) × (x ≡ mail to (messages.Append (member w k).promise (tail_of (member w k).log) c))) ms
    → (g' : Tree) × After g o w g' (send (put w k (is_up (record (member w k) { log = (member w k).log ++ c ∷ []; job = job'; role = role }))) ms)
own_written g w o k c job' role ms s lt job leads holds jobs line roles appends =
    let m = member w k in
    let e = m.promise in
    let l = m.log ++ c ∷ [] in
    let g' = grown g e l in
    let n : MemberState = record m { log = l; job = job'; role = role } in
    let w' = send (put w k (is_up n)) ms in
    let h = s.each_member k in
    let jh : JobHolds g w k m.promise m.log (Some (Write c)) = rw job at h.job in
    let ce : c.epoch ≡ e = elim jh.3 [ inl x ↦ x.0 | inr x ↦ absurd (x.0 leads) ] in
    let last : last_epoch l ≡ c.epoch = epoch_push m.log c in
    let is_log : IsLog l = log_push m.log c h.is_log jh.0 in
    let lw : LeadsWith g e m.log = h.leads leads in
    let up : GoesOn (g.canon e) l = elim lw [
      | inl x ↦ subst (λ (q : List Chunk). GoesOn q l) (sym x.0) (goes_none l)
      | inr x ↦ subst (λ (q : List Chunk). GoesOn q l) x.0 (goes_one m.log c)
    ] in
    let grows = grown_grows g e l up in
    let base : GoesOn (g.base e) l = goes_on (g.base e) m.log l (base_of g e m.log lw) (goes_one m.log c) in
    let own_behind : (own : List Chunk) × (l ≡ g.base e ++ own) × AllByRecursion (λ (d : Chunk). d.epoch ≡ e) own = own_log g e m.log c lw ((s.each_reign e leads.0 leads.1).begins) ce in
    let logs : (x : ℕ) → IsLog (g'.canon x) = λ x. elim (cases_eq x e) [
      | inl eq ↦ rw (eq, eq-eqb e e refl) is_log
      | inr ne ↦ rw (ne_eqb x e ne) (s.tree.logs x)
    ] in
    let here : GoesOn l (g'.canon c.epoch) = subst (λ (x : ℕ). GoesOn l (g'.canon x)) (sym ce) (rw (eq-eqb e e refl) (goes_same l)) in
    let calm_never : IsQuiet m.job → ⊥ = λ q. let z : IsQuiet (Some (Write c)) = rw job at q in z in
    let own_line : GoesOn l (sequence_of m) = (role_chunks m.role, ap (λ (j : Option Job). m.log ++ (job_chunks j ++ role_chunks m.role)) job ∙ sym (append_assoc m.log (c ∷ []) (role_chunks m.role))) in
    let rooted_l : IsRooted g'.canon l = subst (λ (x : ℕ). GoesOn l (g'.canon x)) (sym last) here in
    let tree' : TreeHolds g' w' o = record {
      logs = logs;
      rooted = λ x xs p. elim (cases_eq x e) [
        | inl eq ↦ elim (goes_push_cases xs m.log c (rw (eq, eq-eqb e e refl) at p)) [
          | inl q ↦ rooted_on g g' xs grows (rooted_front g.canon xs m.log (is_tree g w o s.tree) h.rooted q)
          | inr q ↦ rw q rooted_l
        ]
        | inr ne ↦ rooted_on g g' xs grows (s.tree.rooted x xs (rw (ne_eqb x e ne) at p))
      ];
      ends = λ x. elim (cases_eq x e) [
        | inl eq ↦ inr (rw (eq, eq-eqb e e refl) (last ∙ ce))
        | inr ne ↦ rw (ne_eqb x e ne) (s.tree.ends x)
      ];
      known = λ x. elim (cases_eq x e) [
        | inl eq ↦ inr (inr (rw eq (leads.0, leads.1)))
        | inr ne ↦ rw (ne_eqb x e ne) (s.tree.known x)
      ];
      reigns_later = s.tree.reigns_later;
      not_ahead = s.tree.not_ahead;
    } in
    let a : Advance g w g' w' = record {
      grows = grows;
      bases = λ x y. refl;
      sources = λ x. elim (cases_eq x e) [
        | inl eq ↦ inr (k, rw (eq, eq-eqb e e refl) own_line)
        | inr ne ↦ inl (rw (ne_eqb x e ne) (goes_same (g.canon x)))
      ];
      reigns = λ x r is. is;
      count = count_put k (is_up n) w.seats;
      not_back = omega arith;
      promises = λ j. elim (cases_eq j k) [
        | inl eq ↦ rw (eq, member_put w k (is_up n) lt) (omega arith)
        | inr ne ↦ rw (member_else w k j (is_up n) ne) (omega arith)
      ];
      keeps = λ j d at mark all. elim (cases_eq j k) [
        | inl eq ↦ rw (eq, member_put w k (is_up n) lt) (inl (λ x y. run_front m.log x d at (goes_on m.log l x (goes_one m.log c) (holds x y).0) ((rw eq at all) m.log (holds_log g w k (seat w k) h))))
        | inr ne ↦ rw (member_else w k j (is_up n) ne) (inl all)
      ];
      fits = λ j. elim (cases_eq j k) [
        | inl eq ↦ rw (eq, member_put w k (is_up n) lt) (λ x y. let z = holds x y in elim z.1 [
          | inl eq' ↦ inl (l, rw job (inr refl), same_begins x l eq')
          | inr te ↦ inr (e, (leads.0, leads.1), omega (arith, te), inr (goes_on (g.base e) l x base z.0))
        ])
        | inr ne ↦ rw (member_else w k j (is_up n) ne) (λ x y. inl (x, y, goes_same x))
      ];
      calm = λ j q. elim (cases_eq j k) [
        | inl eq ↦ absurd (calm_never (rw eq at q.0))
        | inr ne ↦ rw (member_else w k j (is_up n) ne) (inr (inr (refl, q, refl)))
      ];
    } in (
      g',
      sound_on g g' w w' o k s a
          (λ j ne. seat_else w k j (is_up n) ne)
          refl
          (λ a. coordinator_on g g' w w' o a refl refl s.coordinator)
          (λ kept. kept w.committed s.committed)
          tree'
          (λ j ne ld x. let other : ((member w j).promise ≡ e → ⊥) = (λ eq. ne (leads_unique w e j k (rw eq at ld) leads)) in
          rw (ne_eqb (member w j).promise e other) x)
          (λ x r is. elim (cases_eq x e) [
            | inl eq ↦ rw (eq, eq-eqb e e refl) (inr own_behind)
            | inr ne ↦ rw (ne_eqb x e ne) ((s.each_reign x r is).begins)
          ])
          (rw (seat_put w k (is_up n) lt) (record {
            is_log = is_log;
            below = (let le = jh.1 in omega (arith, last, le));
            not_ahead = h.not_ahead;
            rooted = rooted_l;
            job = jobs g' w' refl;
            role = roles g' w' refl logs a;
            leads = λ x. rw (eq-eqb e e refl) (inr (refl, base));
            line = λ _. line;
          }))
          (named_put g w o k (is_up n) ms s lt (refl, refl))
          (λ old. all_join _ w.mail _ old (all_numbered (SentHolds g' w') w.last ms
          (all_weaker (λ (x : Sent). (to : ℕ) × (x ≡ mail to (messages.Append e (tail_of m.log) c))) (SentHolds g' w')
          (λ x y. rw y.1 (record { has_reign = (leads.0, leads.1); before = m.log; tail_is = refl; begins = here; sent_from = rw (eq-eqb e e refl) (goes_same l); not_above = omega (arith, ce) })) ms appends))),
    )
