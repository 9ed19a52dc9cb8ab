-- A leader that is open goes on as one.
use Rattle.std.proofs.Common.{◌≡◌, true, List, [], ◌∷◌, ◌++◌, take, Option, Some, None, refl, sym, ap, subst, ◌∙◌, append_assoc}
use Rattle.std.proofs.lemmas.List.{append-nil}
use Rattle.chunk_format.specs.declared.chunk.Chunk.{Chunk}
use Rattle.epoch_coordinator.specs.declared.message.Job.{Job}
use Rattle.epoch_coordinator.specs.declared.message.Job.TheVariants as jobs
use Rattle.epoch_coordinator.specs.Members.{Leading, MemberRole, MemberState, Stopped, Follower, Leader, job_chunks, role_chunks, sequence_of}
use Rattle.epoch_coordinator.specs.MemberSteps.{behind_first, next_job, offered, offered_by, queued_by}
use Rattle.member_core.specs.declared.back.Mark.{Mark}
use Rattle.member_core.specs.States.{IsOpen, offered_all, waiting_of, queued_as, with_waiting, taken_back}
use Rattle.leader_offers.specs.Leads.{IsLine, Leads, Behind, SomeBehind}

-- ---- a mark says that a leader is one

line_of : (q : List Chunk) (job : Option Job) (l : Leading) → job ≡ next_job q → Leader l ≡ queued_as (behind_first q) (Leader l) → IsLine job l.queue
line_of [] job l is role = subst (λ (j : Option Job). IsLine j l.queue) (sym is) (ap role_chunks role)
line_of (c ∷ q) job l is role = subst (λ (j : Option Job). IsLine j l.queue) (sym is) tt

leads_by : (m : MemberState) (q : List Chunk) (role : MemberRole) → m.role ≡ role → IsOpen role → with_waiting q m ≡ m → Leads m
leads_by m q Stopped is opens same = absurd opens
leads_by m q (Follower leader) is opens same = absurd opens
leads_by m q (Leader l) is opens same =
    let job : m.job ≡ next_job q = sym (ap (λ (x : MemberState). x.job) same) in
    let queue : Leader l ≡ queued_as (behind_first q) (Leader l) = sym is ∙ sym (ap (λ (x : MemberState). x.role) same) ∙ ap (queued_as (behind_first q)) is in
    record { leading = l; role_is = is; opened = opens; line = line_of q m.job l job queue }

pub marked_leads : (m : MemberState) (mark : Mark) → IsOpen m.role → ((chunks : List Chunk) → taken_back mark (offered_all chunks m) ≡ m) → Leads m
marked_leads m mark opens back = leads_by m (take mark.count (waiting_of m)) m.role refl opens (back [])

pub leads_open : (m : MemberState) → Leads m → IsOpen m.role
leads_open m l = subst IsOpen (sym l.role_is) l.opened

-- ---- one chunk more

one_by : (m : MemberState) (c : Chunk) (l : Leading) (job : Option Job) → m.role ≡ Leader l → l.opened ≡ true → m.job ≡ job → IsLine job l.queue → Behind m (c ∷ []) (queued_by job c l m) → Behind m (c ∷ []) (offered c m)
one_by m c l job role opened job_is line b =
    let same : queued_by job c l m ≡ offered c m = ap (λ (j : Option Job). queued_by j c l m) (sym job_is) ∙ ap (λ (r : MemberRole). offered_by r c m) (sym role) in
    subst (Behind m (c ∷ [])) same b

queued_one : (m : MemberState) (c : Chunk) (l : Leading) (job : Option Job) → m.role ≡ Leader l → l.opened ≡ true → m.job ≡ job → IsLine job l.queue → Behind m (c ∷ []) (queued_by job c l m)
queued_one m c l None role opened job line =
    let waits : waiting_of m ≡ [] = ap (λ (j : Option Job). job_chunks j ++ role_chunks m.role) job ∙ ap role_chunks role ∙ line in
    let after : waiting_of (queued_by None c l m) ≡ c ∷ [] = ap (λ (r : MemberRole). c ∷ role_chunks r) role ∙ ap (λ (q : List Chunk). c ∷ q) line in
    let joined : waiting_of (queued_by None c l m) ≡ waiting_of m ++ c ∷ [] = after ∙ ap (λ (x : List Chunk). x ++ c ∷ []) (sym waits) in
    record {
      state = ap (λ (j : Option Job). queued_by j c l m) (sym job) ∙ ap (λ (r : MemberRole). offered_by r c m) (sym role);
      sequence = ap (λ (x : List Chunk). m.log ++ x) joined ∙ sym (append_assoc m.log (waiting_of m) (c ∷ []));
      waiting = joined;
      leads = record { leading = l; role_is = role; opened = opened; line = tt };
      promise_is = refl;
    }
queued_one m c l (Some (jobs.Write d)) role opened job line =
    let now : waiting_of m ≡ d ∷ l.queue = ap (λ (j : Option Job). job_chunks j ++ role_chunks m.role) job ∙ ap (λ (r : MemberRole). d ∷ role_chunks r) role in
    let after : waiting_of (queued_by (Some (jobs.Write d)) c l m) ≡ d ∷ (l.queue ++ c ∷ []) = ap (λ (j : Option Job). job_chunks j ++ (l.queue ++ c ∷ [])) job in
    let joined : waiting_of (queued_by (Some (jobs.Write d)) c l m) ≡ waiting_of m ++ c ∷ [] = after ∙ ap (λ (x : List Chunk). x ++ c ∷ []) (sym now) in
    record {
      state = ap (λ (j : Option Job). queued_by j c l m) (sym job) ∙ ap (λ (r : MemberRole). offered_by r c m) (sym role);
      sequence = ap (λ (x : List Chunk). m.log ++ x) joined ∙ sym (append_assoc m.log (waiting_of m) (c ∷ []));
      waiting = joined;
      leads = record { leading = record l { queue = l.queue ++ c ∷ [] }; role_is = refl; opened = opened; line = subst (λ (j : Option Job). IsLine j (l.queue ++ c ∷ [])) (sym job) tt };
      promise_is = refl;
    }
queued_one m c l (Some (jobs.Cut end)) role opened job line = absurd line
queued_one m c l (Some (jobs.Promise epoch)) role opened job line = absurd line
queued_one m c l (Some (jobs.Epoch epoch)) role opened job line = absurd line

pub one_behind : (m : MemberState) (c : Chunk) → Leads m → Behind m (c ∷ []) (offered c m)
one_behind m c l = one_by m c l.leading m.job l.role_is l.opened refl l.line (queued_one m c l.leading m.job l.role_is l.opened refl l.line)

-- ---- several

pub none_behind : (m : MemberState) → Leads m → Behind m [] m
none_behind m l = record { state = refl; sequence = sym (append-nil (sequence_of m)); waiting = sym (append-nil (waiting_of m)); leads = l; promise_is = refl }

offered_join : (a b : List Chunk) (m : MemberState) → offered_all (a ++ b) m ≡ offered_all b (offered_all a m)
offered_join [] b m = refl
offered_join (c ∷ a) b m = offered_join a b (offered c m)

pub both_behind : (m n o : MemberState) (a b : List Chunk) → Behind m a n → Behind n b o → Behind m (a ++ b) o
both_behind m n o a b p q = record {
  state = q.state ∙ ap (offered_all b) p.state ∙ sym (offered_join a b m);
  sequence = q.sequence ∙ ap (λ (x : List Chunk). x ++ b) p.sequence ∙ append_assoc (sequence_of m) a b;
  waiting = q.waiting ∙ ap (λ (x : List Chunk). x ++ b) p.waiting ∙ append_assoc (waiting_of m) a b;
  leads = q.leads;
  promise_is = q.promise_is ∙ p.promise_is;
}

pub some_join : (m n o : MemberState) (a : List Chunk) → Behind m a n → SomeBehind n o → SomeBehind m o
some_join m n o a p q = (a ++ q.0, both_behind m n o a q.0 p q.1)

pub some_same : (m n : MemberState) → Leads m → n ≡ m → SomeBehind m n
some_same m n l is = ([], subst (Behind m []) (sym is) (none_behind m l))

-- what was taken is taken back
pub taken_back_is : (m n : MemberState) (mark : Mark) → ((chunks : List Chunk) → taken_back mark (offered_all chunks m) ≡ m) → SomeBehind m n → taken_back mark n ≡ m
taken_back_is m n mark back b = ap (taken_back mark) b.1.state ∙ back b.0
