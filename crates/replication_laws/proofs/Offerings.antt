-- What a leader is offered leaves a sound state sound, and goes behind its sequence.
use Rattle.std.proofs.Common.{◌≡◌, ℕ, ◌≤◌, List, [], ◌∷◌, ◌++◌, length, refl, sym, ap, ◌∙◌, subst, append_assoc, inl, inr, arith, Option, Some, None, Bool, true, false, cond, zero, suc, take, drop}
use Rattle.std.specs.Prelude.{ℤ, ◌==◌, ◌&&◌, if◌then◌else◌}
use Rattle.std.specs.List.{AllByRecursion, All}
use Rattle.std.proofs.lemmas.Bool.{cases_eq}
use Rattle.std.proofs.lemmas.List.{append-nil, set-set}
use Rattle.std.proofs.lemmas.List.Elements.{recursion_from_All}
use Rattle.chunk_format.specs.declared.chunk.Chunk.{Chunk}
use Rattle.chunk_format.specs.Chunks.{IsChunk, end_of_chunk}
use Rattle.chunk_format.specs.Logs.{end_from, end_of, epoch_from, last_epoch, Linked, opening_chunk}
use Rattle.chunk_format.proofs.LinkLaws.{end_join, epoch_join, end_push, epoch_push, linked_join}
use Rattle.chunk_format.proofs.BeginLaws.{goes_same}
use Rattle.epoch_coordinator.specs.declared.message.Job.{Job}
use Rattle.epoch_coordinator.specs.declared.message.Job.TheVariants.{Write, Cut, Promise, Epoch}
use Rattle.epoch_coordinator.specs.Members.{Leading, MemberRole, MemberState, Stopped, Follower, Leader, job_chunks, role_chunks, sequence_of}
use Rattle.epoch_coordinator.specs.MemberSteps.{offered, offered_by, queued_by, majority_has, commit_from, commit_by, commit_end, stamp_at}
use Rattle.epoch_coordinator.specs.Offers.{Item, user_chunk, offset_chunk, accepted, since_snapshot, snapshot_every, with_snapshot, most_entries, laid, chunk_count, offered_chunks, stored_chunks}
use Rattle.replication_laws.specs.Cluster.{Seat, ClusterState, seat, member, IsMember, placed, put, is_opened, RunsWith}
use Rattle.replication_laws.specs.Events.{all_offered, gets, OfferStep, Offer, StoreOffset}
use Rattle.replication_laws.specs.Properties.{KeepsAt}
use Rattle.replication_laws.specs.Soundness.{Tree, Follows, JobHolds, LeaderLine, LineHolds, Sound, IsCommitted}
use Rattle.replication_laws.proofs.Sounds.{all_join, seat_put, seat_else, member_put, member_else, count_put, After}
use Rattle.replication_laws.proofs.Followers.{is_up}
use Rattle.replication_laws.proofs.Leaders.{take_offer, take_more}
use Rattle.replication_laws.proofs.Moves.{sequence_as, still_after}
use Rattle.replication_laws.proofs.Coordinating.{send_none}

-- ---- one chunk, then the others

-- a member that took chunks
pub record TookAll (g : Tree) (o : ℕ) (w : ClusterState) (k : ℕ) (m : MemberState) (chunks : List Chunk) (n : MemberState) : Type 0 where
  pub after : After g o w g (put w k (is_up n))
  pub sequence : sequence_of n ≡ sequence_of m ++ chunks
  pub promise_is : n.promise ≡ m.promise
  pub opened : is_opened n.role ≡ true
  pub commit : commit_end n ≡ commit_end m

pub opened_leader : (r : MemberRole) → is_opened r ≡ true → (l : Leading) × (r ≡ Leader l) × (l.opened ≡ true)
opened_leader Stopped h = absurd cc
opened_leader (Follower l) h = absurd cc
opened_leader (Leader l) h = (l, refl, h)

-- a queue and a job change no commit end
commit_same : (m : MemberState) (l : Leading) (job : Option Job) (role : MemberRole) (queue : List Chunk) (end : ℕ) (log : List Chunk)
    → commit_from end (record m { job = job; role = role }) (record l { queue = queue }) log ≡ commit_from end m l log
commit_same m l job role queue end [] = refl
commit_same m l job role queue end (c ∷ log) =
    commit_same m l job role queue (if (c.epoch == m.promise) && majority_has m.members (end_of_chunk c) l then end_of_chunk c else end) log

took_one : (g : Tree) (w : ClusterState) (o k : ℕ) (c : Chunk) (l : Leading) → Sound g o w → IsMember w k → (seat w k).up ≡ true
    → (member w k).role ≡ Leader l → l.opened ≡ true → Follows (sequence_of (member w k)) c → c.epoch ≡ (member w k).promise
    → (j : Option Job) → (member w k).job ≡ j → TookAll g o w k (member w k) (c ∷ []) (queued_by j c l (member w k))
took_one g w o k c l s lt up role opened follows ce None job =
    let m = member w k in
    let n : MemberState = record m { job = Some (Write c) } in
    let lh : LeaderLine m.promise m.log None l = subst (λ (j : Option Job). LineHolds m.promise m.log j (Leader l)) job (subst (LineHolds m.promise m.log m.job) role ((s.each_member k).line up)) in
    let same : sequence_of m ≡ m.log = sequence_as m None (Leader l) job role ∙ (ap (λ (q : List Chunk). m.log ++ q) lh.behind ∙ append-nil m.log) in
    let on : Follows m.log c = subst (λ (x : List Chunk). Follows x c) same follows in
    record {
      after = subst (After g o w g) (send_none (put w k (is_up n))) (take_offer g w o k c l s lt up job role opened on ce);
      sequence = sequence_as n (Some (Write c)) (Leader l) refl role ∙ (ap (λ (q : List Chunk). m.log ++ (c ∷ q)) lh.behind ∙ ap (λ (x : List Chunk). x ++ c ∷ []) (sym same));
      promise_is = refl;
      opened = ap is_opened role ∙ opened;
      commit = ap (λ (r : MemberRole). commit_by r n) role ∙ (commit_same m l (Some (Write c)) m.role l.queue 0 m.log ∙ ap (λ (r : MemberRole). commit_by r m) (sym role));
    }
took_one g w o k c l s lt up role opened follows ce (Some (Write d)) job =
    let m = member w k in
    let l' : Leading = record l { queue = l.queue ++ c ∷ [] } in
    let n : MemberState = record m { role = Leader l' } in
    let same : sequence_of m ≡ m.log ++ (d ∷ l.queue) = sequence_as m (Some (Write d)) (Leader l) job role in
    let on : Follows (m.log ++ (d ∷ l.queue)) c = subst (λ (x : List Chunk). Follows x c) same follows in
    record {
      after = subst (After g o w g) (send_none (put w k (is_up n))) (take_more g w o k c d l s lt up job role opened on ce);
      sequence = sequence_as n (Some (Write d)) (Leader l') job refl ∙ (sym (append_assoc m.log (d ∷ l.queue) (c ∷ [])) ∙ ap (λ (x : List Chunk). x ++ c ∷ []) (sym same));
      promise_is = refl;
      opened = opened;
      commit = commit_same m l m.job (Leader l') (l.queue ++ c ∷ []) 0 m.log ∙ ap (λ (r : MemberRole). commit_by r m) (sym role);
    }
took_one g w o k c l s lt up role opened follows ce (Some (Cut end)) job = (let lh : LeaderLine (member w k).promise (member w k).log (Some (Cut end)) l = rw (role, job) at ((s.each_member k).line up) in absurd lh.writes)
took_one g w o k c l s lt up role opened follows ce (Some (Promise e)) job = (let lh : LeaderLine (member w k).promise (member w k).log (Some (Promise e)) l = rw (role, job) at ((s.each_member k).line up) in absurd lh.writes)
took_one g w o k c l s lt up role opened follows ce (Some (Epoch e)) job = (let lh : LeaderLine (member w k).promise (member w k).log (Some (Epoch e)) l = rw (role, job) at ((s.each_member k).line up) in absurd lh.writes)

offered_one : (g : Tree) (w : ClusterState) (o k : ℕ) (c : Chunk) → Sound g o w → IsMember w k → (seat w k).up ≡ true
    → is_opened (member w k).role ≡ true → Follows (sequence_of (member w k)) c → c.epoch ≡ (member w k).promise
    → TookAll g o w k (member w k) (c ∷ []) (offered c (member w k))
offered_one g w o k c s lt up opens follows ce =
    let m = member w k in
    let x = opened_leader m.role opens in
    let same : queued_by m.job c x.0 m ≡ offered c m = ap (λ (r : MemberRole). offered_by r c m) (sym x.1) in
    subst (TookAll g o w k m (c ∷ [])) same (took_one g w o k c x.0 s lt up x.1 x.2 follows ce m.job refl)

placed_twice : (k : ℕ) (s t : Seat) (seats : List Seat) → placed k t (placed k s seats) ≡ placed k t seats
placed_twice zero s t seats = refl
placed_twice (suc i) s t seats = set-set seats i s t

-- one after the other
pub took_all : (g : Tree) (o k : ℕ) (chunks : List Chunk) (w : ClusterState) → Sound g o w → IsMember w k → (seat w k).up ≡ true
    → is_opened (member w k).role ≡ true → Linked (end_of (sequence_of (member w k))) (last_epoch (sequence_of (member w k))) chunks → AllByRecursion (λ (c : Chunk). c.epoch ≡ (member w k).promise) chunks
    → TookAll g o w k (member w k) chunks (all_offered chunks (member w k))
took_all g o k [] w s lt up opens linked es =
    let m = member w k in
    record {
      after = subst (After g o w g) (send_none (put w k (is_up m))) (still_after g w o k [] s lt up (λ w' same a. tt));
      sequence = sym (append-nil (sequence_of m));
      promise_is = refl;
      opened = opens;
      commit = refl;
    }
took_all g o k (c ∷ cs) w s lt up opens linked es =
    let m = member w k in
    let n = offered c m in
    let follows : Follows (sequence_of m) c = record { begins = linked.begins; not_before = linked.not_before; is = linked.is; behind = tt } in
    let one = offered_one g w o k c s lt up opens follows es.0 in
    let w1 = put w k (is_up n) in
    let here : seat w1 k ≡ is_up n = seat_put w k (is_up n) lt in
    let at : member w1 k ≡ n = member_put w k (is_up n) lt in
    let there : IsMember w1 k = (lt.0, (let e = count_put k (is_up n) w.seats in omega (arith, lt.1, e))) in
    let ends : end_of (sequence_of (member w1 k)) ≡ end_of_chunk c = ap (λ (x : MemberState). end_of (sequence_of x)) at ∙ (ap end_of one.sequence ∙ end_push (sequence_of m) c) in
    let last : last_epoch (sequence_of (member w1 k)) ≡ c.epoch = ap (λ (x : MemberState). last_epoch (sequence_of x)) at ∙ (ap last_epoch one.sequence ∙ epoch_push (sequence_of m) c) in
    let promise : (member w1 k).promise ≡ m.promise = ap (λ (x : MemberState). x.promise) at ∙ one.promise_is in
    let more = took_all g o k cs w1 one.after.sound there (ap (λ (x : Seat). x.up) here) (ap (λ (x : MemberState). is_opened x.role) at ∙ one.opened)
    (subst (λ (e : ℕ). Linked (end_of (sequence_of (member w1 k))) e cs) (sym last) (subst (λ (e : ℕ). Linked e c.epoch cs) (sym ends) linked.behind))
    (subst (λ (p : ℕ). AllByRecursion (λ (x : Chunk). x.epoch ≡ p) cs) (sym promise) es.1) in
    let rest : TookAll g o w1 k n cs (all_offered cs n) = subst (λ (x : MemberState). TookAll g o w1 k x cs (all_offered cs x)) at more in
    let same : put w1 k (is_up (all_offered cs n)) ≡ put w k (is_up (all_offered cs n)) = ap (λ (ss : List Seat). record w { seats = ss }) (placed_twice k (is_up n) (is_up (all_offered cs n)) w.seats) in
    let a : After g o w1 g (put w k (is_up (all_offered cs n))) = subst (After g o w1 g) same rest.after in
    record {
      after = record { sound = a.sound; kept = λ l h. a.kept l (one.after.kept l h); sources = λ e. inl (goes_same (g.canon e)); reigns = λ e r is. a.reigns e r (one.after.reigns e r is) };
      sequence = rest.sequence ∙ (ap (λ (x : List Chunk). x ++ cs) one.sequence ∙ append_assoc (sequence_of m) (c ∷ []) cs);
      promise_is = rest.promise_is ∙ one.promise_is;
      opened = rest.opened;
      commit = rest.commit ∙ one.commit;
    }

-- ---- the chunks of an offer go on from the sequence

each_left : {X : Type 0} (P : X → Type 0) (xs ys : List X) → AllByRecursion P (xs ++ ys) → AllByRecursion P xs
each_left P [] ys h = tt
each_left P (x ∷ xs) ys h = (h.0, each_left P xs ys h.1)

each_right : {X : Type 0} (P : X → Type 0) (xs ys : List X) → AllByRecursion P (xs ++ ys) → AllByRecursion P ys
each_right P [] ys h = h
each_right P (x ∷ xs) ys h = each_right P xs ys h.1

-- chunks that go on from a list, all of one epoch
pub record GoOnIn (epoch : ℕ) (list chunks : List Chunk) : Type 0 where
  pub linked : Linked (end_of list) (last_epoch list) chunks
  pub each : AllByRecursion (λ (c : Chunk). c.epoch ≡ epoch) chunks

joined : (epoch : ℕ) (list a b : List Chunk) → GoOnIn epoch list a → GoOnIn epoch (list ++ a) b → GoOnIn epoch list (a ++ b)
joined epoch list a b p q = record {
  linked = linked_join (end_of list) (last_epoch list) a b p.linked
      (subst (λ (e : ℕ). Linked (end_from (end_of list) a) e b) (epoch_join 0 list a) (subst (λ (e : ℕ). Linked e (last_epoch (list ++ a)) b) (end_join 0 list a) q.linked));
  each = all_join (λ (c : Chunk). c.epoch ≡ epoch) a b p.each q.each;
}

with_goes : (list : List Chunk) (c : Chunk) → c.first ≡ end_of list → last_epoch list ≤ c.epoch → AllByRecursion IsChunk (with_snapshot list c) → GoOnIn c.epoch list (with_snapshot list c)
with_goes list c first le all = go (since_snapshot (list ++ c ∷ []) == snapshot_every) all
  where
    snapshot : Chunk
    snapshot = opening_chunk c.epoch c.stamp (list ++ c ∷ [])

    go : (b : Bool) → AllByRecursion IsChunk (cond b (c ∷ snapshot ∷ []) (c ∷ [])) → GoOnIn c.epoch list (cond b (c ∷ snapshot ∷ []) (c ∷ []))
    go false all = record { linked = record { begins = first; not_before = le; is = all.0; behind = tt }; each = (refl, tt) }
    go true all = record {
      linked = record { begins = first; not_before = le; is = all.0; behind = record { begins = end_push list c; not_before = omega arith; is = all.1.0; behind = tt } };
      each = (refl, (refl, tt));
    }

-- what goes on ends in the epoch, or is nothing
last_of : (epoch : ℕ) (list chunks : List Chunk) → last_epoch list ≤ epoch → AllByRecursion (λ (c : Chunk). c.epoch ≡ epoch) chunks → last_epoch (list ++ chunks) ≤ epoch
last_of epoch list chunks le es = (let j = epoch_join 0 list chunks in let x = from (last_epoch list) chunks le es in omega (arith, j, x))
  where
    from : (d : ℕ) (chunks : List Chunk) → d ≤ epoch → AllByRecursion (λ (c : Chunk). c.epoch ≡ epoch) chunks → epoch_from d chunks ≤ epoch
    from d [] le es = le
    from d (c ∷ cs) le es = from c.epoch cs (omega (arith, es.0)) es.1

laid_goes : (n epoch : ℕ) (stamp : ℤ) (name : List ℕ) (list : List Chunk) (items : List Item) → last_epoch list ≤ epoch → AllByRecursion IsChunk (laid n epoch stamp name list items) → GoOnIn epoch list (laid n epoch stamp name list items)
laid_goes zero epoch stamp name list items le all = record { linked = tt; each = tt }
laid_goes (suc n) epoch stamp name list items le all =
    let c = user_chunk epoch stamp name (end_of list) (take most_entries items) in
    let chunks = with_snapshot list c in
    let more = laid n epoch stamp name (list ++ chunks) (drop most_entries items) in
    let first = with_goes list c refl le (each_left IsChunk chunks more all) in
    joined epoch list chunks more first
    (laid_goes n epoch stamp name (list ++ chunks) (drop most_entries items) (last_of epoch list chunks le first.each) (each_right IsChunk chunks more all))

pub offered_goes : (epoch : ℕ) (stamp : ℤ) (name : List ℕ) (list : List Chunk) (items : List Item) → last_epoch list ≤ epoch → All IsChunk (offered_chunks epoch stamp name list items) → GoOnIn epoch list (offered_chunks epoch stamp name list items)
offered_goes epoch stamp name list items le all =
    let taken = accepted name list items in
    laid_goes (chunk_count (length taken)) epoch stamp name list taken le (recursion_from_All IsChunk (offered_chunks epoch stamp name list items) all)

pub stored_goes : (epoch : ℕ) (stamp : ℤ) (name : List ℕ) (offset : ℕ) (list : List Chunk) → last_epoch list ≤ epoch → All IsChunk (stored_chunks epoch stamp name offset list) → GoOnIn epoch list (stored_chunks epoch stamp name offset list)
stored_goes epoch stamp name offset list le all =
    with_goes list (offset_chunk epoch stamp name offset (end_of list)) refl le (recursion_from_All IsChunk (stored_chunks epoch stamp name offset list) all)

-- ---- an offer

-- an open leader took chunks behind its sequence, and nothing else changed
pub record OfferGoes (g : Tree) (o : ℕ) (w w' : ClusterState) : Type 0 where
  pub leader : ℕ
  pub epoch : ℕ
  pub chunks : List Chunk
  pub runs : RunsWith w epoch leader
  pub still_runs : RunsWith w' epoch leader
  pub after : After g o w g w'
  pub others : (i : ℕ) → (i ≡ leader → ⊥) → member w' i ≡ member w i
  pub sequence : sequence_of (member w' leader) ≡ sequence_of (member w leader) ++ chunks
  pub go_on : GoOnIn epoch (sequence_of (member w leader)) chunks
  pub committed_is : w'.committed ≡ w.committed
  pub reached : IsCommitted w → IsCommitted w'

-- a log with the chunk that is being written doesn't end above the promise
job_below : (g : Tree) (w : ClusterState) (k p : ℕ) (log : List Chunk) → last_epoch log ≤ p → (j : Option Job) → JobHolds g w k p log j → last_epoch (log ++ job_chunks j) ≤ p
job_below g w k p log le None jh = subst (λ (x : List Chunk). last_epoch x ≤ p) (sym (append-nil log)) le
job_below g w k p log le (Some (Promise e)) jh = subst (λ (x : List Chunk). last_epoch x ≤ p) (sym (append-nil log)) le
job_below g w k p log le (Some (Epoch e)) jh = absurd jh
job_below g w k p log le (Some (Cut e)) jh = subst (λ (x : List Chunk). last_epoch x ≤ p) (sym (append-nil log)) le
job_below g w k p log le (Some (Write c)) jh = (let e = epoch_push log c in let low = jh.1 in omega (arith, e, low))

-- an opened leader's sequence doesn't end above its promise
pub leader_line : (g : Tree) (w : ClusterState) (o k : ℕ) → Sound g o w → (seat w k).up ≡ true → is_opened (member w k).role ≡ true → last_epoch (sequence_of (member w k)) ≤ (member w k).promise
leader_line g w o k s up opens =
    let m = member w k in
    let h = s.each_member k in
    let x = opened_leader m.role opens in
    let l = x.0 in
    let lh : LeaderLine m.promise m.log m.job l = subst (LineHolds m.promise m.log m.job) x.1 (h.line up) in
    let same : sequence_of m ≡ m.log ++ (job_chunks m.job ++ l.queue) = ap (λ (r : MemberRole). m.log ++ (job_chunks m.job ++ role_chunks r)) x.1 in
    let parted : sequence_of m ≡ (m.log ++ job_chunks m.job) ++ l.queue = same ∙ sym (append_assoc m.log (job_chunks m.job) l.queue) in
    let low = job_below g w k m.promise m.log h.below m.job h.job in
    let all = last_of m.promise (m.log ++ job_chunks m.job) l.queue low lh.own_epoch in
    let e = ap last_epoch parted in
    omega (arith, e, all)

abbrev gets_goes : (g : Tree) (w : ClusterState) (o epoch k : ℕ) (chunks : List Chunk) → Sound g o w → RunsWith w epoch k → GoOnIn epoch (sequence_of (member w k)) chunks → OfferGoes g o w (gets k chunks w)
gets_goes g w o epoch k chunks s runs on =
    let lt = runs.is_member in
    let t = took_all g o k chunks w s lt runs.leader_up runs.is_open on.linked (subst (λ (p : ℕ). AllByRecursion (λ (c : Chunk). c.epoch ≡ p) chunks) (sym runs.promised) on.each) in
    let n = all_offered chunks (member w k) in
    let w' = gets k chunks w in
    let at : member w' k ≡ n = member_put w k (is_up n) lt in
    let here : seat w' k ≡ is_up n = seat_put w k (is_up n) lt in
    record {
      leader = k;
      epoch = epoch;
      chunks = chunks;
      runs = runs;
      still_runs = record {
        coordinated = runs.coordinated;
        phase = runs.phase;
        epoch_is = runs.epoch_is;
        is_member = (lt.0, (let c = count_put k (is_up n) w.seats in omega (arith, lt.1, c)));
        leader_up = ap (λ (x : Seat). x.up) here;
        promised = ap (λ (x : MemberState). x.promise) at ∙ (t.promise_is ∙ runs.promised);
        is_open = ap (λ (x : MemberState). is_opened x.role) at ∙ t.opened;
      };
      after = t.after;
      others = λ i ne. member_else w k i (is_up n) ne;
      sequence = ap sequence_of at ∙ t.sequence;
      go_on = on;
      committed_is = refl;
      reached = λ old i is up. elim (cases_eq i k) [
        | inl eq ↦
            let e : commit_end (member w' i) ≡ commit_end (member w k) = ap (λ (x : ℕ). commit_end (member w' x)) eq ∙ (ap commit_end at ∙ t.commit) in
            let le = old k lt runs.leader_up in
            omega (arith, e, le)
        | inr ne ↦
            let same = seat_else w k i (is_up n) ne in
            let le = old i (is.0, (let c = count_put k (is_up n) w.seats in omega (arith, is.1, c))) (ap (λ (x : Seat). x.up) (sym same) ∙ up) in
            let e : commit_end (member w' i) ≡ commit_end (member w i) = ap (λ (x : Seat). commit_end x.state) same in
            omega (arith, e, le)
      ];
    }

pub gets_sequence : (g : Tree) (w : ClusterState) (o epoch k : ℕ) (chunks : List Chunk) → Sound g o w → RunsWith w epoch k → GoOnIn epoch (sequence_of (member w k)) chunks → sequence_of (member (gets k chunks w) k) ≡ sequence_of (member w k) ++ chunks
gets_sequence g w o epoch k chunks s runs on = (gets_goes g w o epoch k chunks s runs on).sequence

pub offer_goes : (g : Tree) (o now : ℕ) (w w' : ClusterState) → Sound g o w → OfferStep now w w' → OfferGoes g o w w'
offer_goes g o now w w' s (Offer epoch k name items runs right all eq) =
    let low = leader_line g w o k s runs.leader_up runs.is_open in
    subst (OfferGoes g o w) (sym eq) (gets_goes g w o epoch k _ s runs (offered_goes epoch (stamp_at now) name (sequence_of (member w k)) items (omega (arith, low, runs.promised)) all))
offer_goes g o now w w' s (StoreOffset epoch k name offset runs all eq) =
    let low = leader_line g w o k s runs.leader_up runs.is_open in
    subst (OfferGoes g o w) (sym eq) (gets_goes g w o epoch k _ s runs (stored_goes epoch (stamp_at now) name offset (sequence_of (member w k)) (omega (arith, low, runs.promised)) all))

-- the same, with a property that the leader's sequence keeps
pub offer_chunks : (g : Tree) (o now : ℕ) (w w' : ClusterState) → Sound g o w → (step : OfferStep now w w') → (Q : List Chunk → Type 0) → KeepsAt Q step
    → (x : OfferGoes g o w w') × (Q (sequence_of (member w x.leader)) → Q (sequence_of (member w x.leader) ++ x.chunks))
offer_chunks g o now w w' s (Offer epoch k name items runs right all eq) Q keeps =
    let low = leader_line g w o k s runs.leader_up runs.is_open in
    let x = gets_goes g w o epoch k (offered_chunks epoch (stamp_at now) name (sequence_of (member w k)) items) s runs (offered_goes epoch (stamp_at now) name (sequence_of (member w k)) items (omega (arith, low, runs.promised)) all) in
    subst (λ (y : ClusterState). (x : OfferGoes g o w y) × (Q (sequence_of (member w x.leader)) → Q (sequence_of (member w x.leader) ++ x.chunks))) (sym eq) (x, keeps)
offer_chunks g o now w w' s (StoreOffset epoch k name offset runs all eq) Q keeps =
    let low = leader_line g w o k s runs.leader_up runs.is_open in
    let x = gets_goes g w o epoch k (stored_chunks epoch (stamp_at now) name offset (sequence_of (member w k))) s runs (stored_goes epoch (stamp_at now) name offset (sequence_of (member w k)) (omega (arith, low, runs.promised)) all) in
    subst (λ (y : ClusterState). (x : OfferGoes g o w y) × (Q (sequence_of (member w x.leader)) → Q (sequence_of (member w x.leader) ++ x.chunks))) (sym eq) (x, keeps)
