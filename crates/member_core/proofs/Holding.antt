-- What a member keeps stays right, and shows the member after a step.
use Rattle.std.proofs.Common.{◌≡◌, ℕ, zero, suc, ◌≤◌, Bool, true, false, List, [], ◌∷◌, ◌++◌, take, Option, Some, None, Result, Ok, Err, OnOk, OnErr, is_some, refl, sym, ap, subst, ◌∙◌, append_assoc, arith}
use Rattle.std.specs.Prelude.{◌&&◌, if◌then◌else◌, ℤ}
use Rattle.std.proofs.lemmas.List.{append-nil}
use Rattle.chunk_format.specs.declared.chunk.Chunk.{Chunk}
use Rattle.chunk_format.specs.Logs.{last_epoch, opening_chunk}
use Rattle.chunk_format.proofs.LinkLaws.{epoch_push}
use Rattle.epoch_coordinator.specs.declared.tail.Run.{Run}
use Rattle.epoch_coordinator.specs.declared.tail.Tail.{Tail}
use Rattle.epoch_coordinator.specs.declared.message.Message.TheVariants as messages
use Rattle.epoch_coordinator.specs.declared.message.Sent.{Sent}
use Rattle.epoch_coordinator.specs.declared.message.Job.{Job}
use Rattle.epoch_coordinator.specs.declared.message.Job.TheVariants as jobs
use Rattle.epoch_coordinator.specs.Members.{MemberRole, MemberState, Stopped, Follower, Leader, is_stopped}
use Rattle.epoch_coordinator.specs.MemberSteps.{mail, Took, silent, behind_first, cut_at, wrote, zeros, stamp_at, can_open, after_open}
use Rattle.member_core.specs.Kept.{LogState, whole, only, with_chunk}
use Rattle.member_core.proofs.EndLaws.{tail_push}
use Rattle.member_core.specs.declared.duty.Lead.{Lead}
use Rattle.member_core.specs.declared.duty.Duty.{Duty}
use Rattle.member_core.specs.declared.duty.Duty.TheVariants as duties
use Rattle.member_core.specs.States.{role_of, WaitsFor, Queues, Leads, IsMember, IsOpen, followed, wrote_mail}

-- the member that is seen
abbrev pub shown : ℕ → ℕ → ℕ → Duty → LogState → Option Job → MemberState
shown number members promise duty log job = record { number = number; members = members; promise = promise; role = role_of members duty log.ahead; log = log.log; job = job }

pub queues_none : (duty : Duty) (ahead : List Chunk) → behind_first ahead ≡ [] → Queues duty ahead
queues_none duties.Stopped ahead is = is
queues_none (duties.Follower leader) ahead is = is
queues_none (duties.Leader lead) ahead is = tt

pub leads_write : (duty : Duty) (c : Chunk) → Leads duty (Some (jobs.Write c))
leads_write duties.Stopped c = tt
leads_write (duties.Follower leader) c = tt
leads_write (duties.Leader lead) c = tt

pub leads_none : (duty : Duty) → Leads duty None
leads_none duties.Stopped = tt
leads_none (duties.Follower leader) = tt
leads_none (duties.Leader lead) = tt

-- who follows doesn't lead
pub leads_follower : (members leader : ℕ) (duty : Duty) (ahead : List Chunk) (job : Option Job) → Some leader ≡ followed (role_of members duty ahead) → Leads duty job
leads_follower members leader duties.Stopped ahead job is = tt
leads_follower members leader (duties.Follower l) ahead job is = tt
leads_follower members leader (duties.Leader lead) ahead job is = absurd (other is)
  where
    other : Some leader ≡ None → ⊥
    other e = cc

idle : (job : Option Job) (ahead : List Chunk) → job ≡ None → WaitsFor job ahead → ahead ≡ []
idle job ahead none waits = subst (λ (j : Option Job). WaitsFor j ahead) none waits

-- a chunk is to be written, where nothing waits
pub put_idle : (members promise : ℕ) (duty new_duty : Duty) (log before new : LogState) (job : Option Job) (c kept shared : Chunk) → IsMember members promise duty log job → job ≡ None → before ≡ log → new ≡ with_chunk kept before → kept ≡ c → shared ≡ c → c.epoch ≤ promise
    → IsMember members promise new_duty new (Some (jobs.Write shared))
put_idle members promise duty new_duty log before new job c kept shared is none same put kept_is shared_is low =
    let nothing = idle job log.ahead none is.waits in
    let one : LogState = record { log = log.log; ahead = c ∷ [] } in
    let now : new ≡ one = put ∙ ap (with_chunk kept) same ∙ ap (λ (x : Chunk). with_chunk x log) kept_is ∙ ap (λ (x : List Chunk). record { log = log.log; ahead = x ++ c ∷ [] }) nothing in
    let held : IsMember members promise new_duty one (Some (jobs.Write c)) =
    record { some = is.some; few = is.few; waits = refl; queues = queues_none new_duty (c ∷ []) refl; leads = leads_write new_duty c; promised = subst (λ (n : ℕ). n ≤ promise) (sym (epoch_push log.log c)) low; next = tt } in
    subst (λ (l : LogState). IsMember members promise new_duty l (Some (jobs.Write shared))) (sym now) (subst (λ (x : Chunk). IsMember members promise new_duty one (Some (jobs.Write x))) (sym shared_is) held)

-- a chunk more waits behind what a leader writes
pub put_busy : (members promise : ℕ) (lead : Lead) (log new : LogState) (job : Option Job) (c : Chunk) → IsMember members promise (duties.Leader lead) log job → (job ≡ None → ⊥) → new ≡ with_chunk c log → c.epoch ≤ promise → IsMember members promise (duties.Leader lead) new job
put_busy members promise lead log new None c is some put low = absurd (some refl)
put_busy members promise lead log new (Some (jobs.Write d)) c is some put low =
    let now : new.ahead ≡ d ∷ (behind_first log.ahead ++ c ∷ []) = ap (λ (l : LogState). l.ahead) put ∙ ap (λ (x : List Chunk). x ++ c ∷ []) is.waits in
    let all : whole new ≡ whole log ++ c ∷ [] = ap whole put ∙ sym (append_assoc log.log log.ahead (c ∷ [])) in
    record {
      some = is.some;
      few = is.few;
      waits = now ∙ ap (λ (x : List Chunk). d ∷ x) (sym (ap behind_first now));
      queues = tt;
      leads = tt;
      promised = subst (λ (n : ℕ). n ≤ promise) (sym (ap last_epoch all ∙ epoch_push (whole log) c)) low;
      next = tt;
    }
put_busy members promise lead log new (Some (jobs.Cut end)) c is some put low = absurd is.leads
put_busy members promise lead log new (Some (jobs.Promise epoch)) c is some put low = absurd is.leads
put_busy members promise lead log new (Some (jobs.Epoch epoch)) c is some put low = absurd is.leads

-- ---- a leader begins

zeros_from : (n m : ℕ) → n ≤ m → take n (zeros m) ≡ zeros n
zeros_from zero m few = refl
zeros_from (suc n) zero few = absurd (omega arith)
zeros_from (suc n) (suc m) few = ap (λ (l : List ℕ). 0 ∷ l) (zeros_from n m (omega arith))

abbrev either : Bool → Took → Took → Took
either b x y = if b then x else y

-- a member that begins to lead, by its parts
abbrev begun : ℕ → ℕ → ℕ → List Run → List ℕ → List Chunk → List Chunk → Chunk → MemberState
begun number members promise kept acknowledged queue log c = record { number = number; members = members; promise = promise; role = Leader (record { opened = false; kept = kept; acknowledged = acknowledged; queue = queue }); log = log; job = Some (jobs.Write c) }

begins : (number members promise : ℕ) (duty : Duty) (log new : LogState) (job : Option Job) (chunk shared : Chunk) (now : ℕ) (stamp : ℤ) (b : Bool) (kept : List Run) → members ≤ 7 → log.ahead ≡ [] → b ≡ (is_stopped (role_of members duty log.ahead) && can_open promise log.log) → b ≡ true → stamp ≡ stamp_at now
    → chunk ≡ opening_chunk promise stamp (whole log) → shared ≡ chunk → new ≡ with_chunk chunk log → kept ≡ []
    → begun number members promise kept (take members (zeros 7)) (behind_first new.ahead) new.log shared ≡ (after_open now (shown number members promise duty log job)).state
begins number members promise duty log new job chunk shared now stamp b kept few nothing may yes' stamp_is chunk_is shared_is put kept_is =
    let m = shown number members promise duty log job in
    let all : whole log ≡ log.log = ap (λ (x : List Chunk). log.log ++ x) nothing ∙ append-nil log.log in
    let c : shared ≡ opening_chunk promise (stamp_at now) log.log = shared_is ∙ chunk_is ∙ ap (λ (s : ℤ). opening_chunk promise s (whole log)) stamp_is ∙ ap (opening_chunk promise (stamp_at now)) all in
    let queue : behind_first new.ahead ≡ [] = ap (λ (l : LogState). behind_first l.ahead) put ∙ ap (λ (x : List Chunk). behind_first (x ++ chunk ∷ [])) nothing in
    let same_log : new.log ≡ log.log = ap (λ (l : LogState). l.log) put in
    ap (λ (k : List Run). begun number members promise k (take members (zeros 7)) (behind_first new.ahead) new.log shared) kept_is
    ∙ ap (λ (a : List ℕ). begun number members promise [] a (behind_first new.ahead) new.log shared) (zeros_from members 7 few)
    ∙ ap (λ (q : List Chunk). begun number members promise [] (zeros members) q new.log shared) queue
    ∙ ap (λ (l : List Chunk). begun number members promise [] (zeros members) [] l shared) same_log
    ∙ ap (begun number members promise [] (zeros members) [] log.log) c
    ∙ ap (λ (x : Bool). (either x (silent (begun number members promise [] (zeros members) [] log.log (opening_chunk promise (stamp_at now) log.log))) (silent m)).state) (sym (sym may ∙ yes'))

pub open_shows : (number members promise : ℕ) (duty : Duty) (log before new : LogState) (job : Option Job) (m : MemberState) (chunk shared : Chunk) (now : ℕ) (stamp made : ℤ) (b : Bool) (kept : List Run) → shown number members promise duty log job ≡ m → IsMember members promise duty log job → job ≡ None
    → b ≡ (is_stopped m.role && can_open m.promise m.log) → b ≡ true → made ≡ stamp → stamp ≡ stamp_at now → chunk ≡ opening_chunk promise made (whole log) → shared ≡ chunk → before ≡ log → new ≡ with_chunk chunk before → kept ≡ []
    → shown number members promise (duties.Leader (record { opened = false; kept = kept; acknowledged = zeros 7 })) new (Some (jobs.Write shared)) ≡ (after_open now m).state
open_shows number members promise duty log before new job m chunk shared now stamp made b kept view is none may yes' made_is stamp_is chunk_is shared_is same put kept_is =
    let may_it = subst (λ (x : MemberState). b ≡ (is_stopped x.role && can_open x.promise x.log)) (sym view) may in
    begins number members promise duty log new job chunk shared now made b kept is.few (idle job log.ahead none is.waits) may_it yes' (made_is ∙ stamp_is) chunk_is shared_is (put ∙ ap (with_chunk chunk) same) kept_is
    ∙ ap (λ (x : MemberState). (after_open now x).state) view

-- ---- an offer

pub some_job : (job : Option Job) (b : Bool) → b ≡ is_some job → b ≡ true → job ≡ None → ⊥
some_job job b is there none = not_true (sym there ∙ is ∙ ap is_some none)
  where
    not_true : true ≡ false → ⊥
    not_true e = cc

pub no_job : (job : Option Job) (b : Bool) → b ≡ is_some job → b ≡ false → job ≡ None
no_job None b is there = refl
no_job (Some j) b is there = absurd (not_false (sym is ∙ there))
  where
    not_false : true ≡ false → ⊥
    not_false e = cc

-- an opened leader takes a chunk behind its job, or nothing changes
pub put_open : {E : Type 0} (r : Result (Unit {0}) E) (members promise : ℕ) (duty : Duty) (log new : LogState) (job : Option Job) (c : Chunk) → IsMember members promise duty log job → IsOpen (role_of members duty log.ahead) → (job ≡ None → ⊥) → OnOk r (new ≡ with_chunk c log) → OnErr r (new ≡ log) → c.epoch ≤ promise
    → IsMember members promise duty new job
put_open r members promise duties.Stopped log new job c is led some ok err low = absurd led
put_open r members promise (duties.Follower leader) log new job c is led some ok err low = absurd led
put_open (Ok u) members promise (duties.Leader lead) log new job c is led some ok err low = put_busy members promise lead log new job c is some ok low
put_open (Err e) members promise (duties.Leader lead) log new job c is led some ok err low = subst (λ (l : LogState). IsMember members promise (duties.Leader lead) l job) (sym err) is

-- ---- a finished job

pub cut_holds : (members promise : ℕ) (duty : Duty) (log new : LogState) (job : Option Job) (end : ℕ) → IsMember members promise duty log job → job ≡ Some (jobs.Cut end) → new ≡ only (cut_at end log.log) → last_epoch new.log ≤ last_epoch log.log → IsMember members promise duty new None
cut_holds members promise duty log new job end is cut new_is falls =
    let nothing : log.ahead ≡ [] = subst (λ (j : Option Job). WaitsFor j log.ahead) cut is.waits in
    let left : new.ahead ≡ [] = ap (λ (l : LogState). l.ahead) new_is in
    let before : last_epoch (whole log) ≡ last_epoch log.log = ap last_epoch (ap (λ (x : List Chunk). log.log ++ x) nothing ∙ append-nil log.log) in
    let after : last_epoch (whole new) ≡ last_epoch new.log = ap last_epoch (ap (λ (x : List Chunk). new.log ++ x) left ∙ append-nil new.log) in
    let low = is.promised in
    record { some = is.some; few = is.few; waits = left; queues = queues_none duty new.ahead (ap behind_first left); leads = leads_none duty; promised = omega (arith, before, after, falls, low); next = tt }

-- what is sent when a chunk is written
wrote_by : (role : MemberRole) (c : Chunk) (m : MemberState) → wrote_mail role c m ≡ (wrote role c m).sent
wrote_by Stopped c m = refl
wrote_by (Follower leader) c m = ap (λ (t : Tail). mail leader (messages.Ask m.promise m.number t) ∷ []) (sym (tail_push m.log c))
wrote_by (Leader leading) c m = refl

pub wrote_sends : (sent : List Sent) (c : Chunk) (before m : MemberState) → before ≡ m → sent ≡ wrote_mail before.role c before → sent ≡ (wrote m.role c m).sent
wrote_sends sent c before m same is = is ∙ ap (λ (x : MemberState). wrote_mail x.role c x) same ∙ wrote_by m.role c m
