-- Chunks that wait are taken back.
use Rattle.std.proofs.Common.{◌≡◌, ℕ, zero, suc, ◌+◌, ◌≤◌, List, [], ◌∷◌, ◌++◌, length, take, drop, Option, Some, None, refl, sym, ap, subst, ◌∙◌, append_assoc, arith, length-append, length-drop}
use Rattle.std.proofs.lemmas.List.{take_all, length-take-le, take-append-le, take-append-drop, append-nil, drop-take}
use Rattle.std.proofs.Math.Seq.{take-add}
use Rattle.chunk_format.specs.declared.chunk.Chunk.{Chunk}
use Rattle.chunk_format.specs.Logs.{IsLog, Truthful, last_epoch}
use Rattle.chunk_format.proofs.LinkLaws.{linked_front, epoch_grows}
use Rattle.chunk_format.proofs.TruthLaws.{truthful_front}
use Rattle.tracking_state.specs.Tracked.{Tracked, tracked_of}
use Rattle.epoch_coordinator.specs.declared.tail.Run.{Run}
use Rattle.epoch_coordinator.specs.declared.message.Job.{Job}
use Rattle.epoch_coordinator.specs.declared.message.Job.TheVariants as jobs
use Rattle.epoch_coordinator.specs.Tails.{runs_of}
use Rattle.epoch_coordinator.specs.Members.{Leading, MemberState, Leader}
use Rattle.epoch_coordinator.specs.MemberSteps.{behind_first, next_job, offered}
use Rattle.member_core.specs.Kept.{LogState, whole, withdrawn, AreCounted, IsKnown}
use Rattle.member_core.specs.declared.back.Mark.{Mark}
use Rattle.member_core.specs.declared.duty.Lead.{Lead}
use Rattle.member_core.specs.declared.duty.Duty.{Duty}
use Rattle.member_core.specs.declared.duty.Duty.TheVariants as duties
use Rattle.member_core.specs.States.{leading_of, role_of, IsMember, IsOpen, offered_all, waiting_of, with_waiting, taken_back, Marks}
use Rattle.member_core.proofs.Keeping.{parts, whole_parts, Keeps}
use Rattle.member_core.proofs.Holding.{shown}

-- ---- a shorter list

take_sum : (a b : ℕ) (xs : List Chunk) → take (a + b) xs ≡ take a xs ++ take b (drop a xs)
take_sum a b xs = take-add a b xs

drop_take : (a b : ℕ) (xs : List Chunk) → drop a (take (a + b) xs) ≡ take b (drop a xs)
drop_take a b xs = drop-take a b xs

take_both : (a b : ℕ) (xs : List Chunk) → a ≤ b → take a (take b xs) ≡ take a xs
take_both zero b xs le = refl
take_both (suc a) zero xs le = absurd (omega arith)
take_both (suc a) (suc b) [] le = refl
take_both (suc a) (suc b) (x ∷ xs) le = ap (λ (l : List Chunk). x ∷ l) (take_both a b xs (omega arith))

take_take : (a b : ℕ) (xs : List Chunk) → take a (take (a + b) xs) ≡ take a xs
take_take a b xs = take_both a (a + b) xs (omega arith)

pub known_less : (chunks : List Chunk) (len count : ℕ) (tracking : Tracked) → len ≤ length chunks → count ≤ len → IsKnown chunks count tracking → IsKnown (take len chunks) count tracking
known_less chunks len count tracking within less is =
    let long : length (take len chunks) ≡ len = length-take-le len chunks within in
    record { within = omega (arith, long, less); tracks = is.tracks ∙ ap tracked_of (sym (take_both count len chunks less)) }

pub known_nothing : (chunks : List Chunk) (tracking : Tracked) → tracking ≡ tracked_of [] → IsKnown chunks 0 tracking
known_nothing chunks tracking is = record { within = omega arith; tracks = is }

pub len_within : (l : LogState) (chunks : List Chunk) (written count : ℕ) → parts written chunks ≡ l → written ≤ length chunks → count ≤ length l.ahead → written + count ≤ length chunks
len_within l chunks written count view within few =
    let longer = length-drop written chunks in
    let same = ap (λ (x : LogState). length x.ahead) view in
    omega arith

pub withdraw_keeps : (l : LogState) (chunks new : List Chunk) (written : ℕ) (runs : List Run) (bytes since waiting count less_bytes less_since less_waiting less_count : ℕ) (tracking less_tracking : Tracked) (n : ℕ) → parts written chunks ≡ l → n ≤ length l.ahead
    → AreCounted (whole (withdrawn n l)) (take n l.ahead) less_bytes less_since less_waiting → IsKnown (take (written + n) chunks) less_count less_tracking → new ≡ take (written + n) chunks
    → Keeps chunks written runs bytes since waiting count tracking → Keeps new written runs less_bytes less_since less_waiting less_count less_tracking
withdraw_keeps l chunks new written runs bytes since waiting count less_bytes less_since less_waiting less_count tracking less_tracking n view few counted known is keeps =
    let within = len_within l chunks written n view keeps.0.within few in
    let front = take (written + n) chunks in
    let long : length front ≡ written + n = length-take-le (written + n) chunks within in
    let split : front ++ drop (written + n) chunks ≡ chunks = take-append-drop (written + n) chunks in
    let all : whole (withdrawn n l) ≡ front = ap (λ (x : LogState). x.log ++ take n x.ahead) (sym view) ∙ sym (take_sum written n chunks) in
    let left : take n l.ahead ≡ drop written front = ap (λ (x : LogState). take n x.ahead) (sym view) ∙ sym (drop_take written n chunks) in
    let kept : Keeps front written runs less_bytes less_since less_waiting less_count less_tracking = (
      record {
        is_log = linked_front 0 0 front (drop (written + n) chunks) (subst IsLog (sym split) keeps.0.is_log);
        truthful = truthful_front front (drop (written + n) chunks) (subst Truthful (sym split) keeps.0.truthful);
        within = omega (arith, long);
        runs_are = keeps.0.runs_are ∙ ap runs_of (sym (take_take written n chunks));
      },
      subst (λ (x : List Chunk). AreCounted front x less_bytes less_since less_waiting) left (subst (λ (x : List Chunk). AreCounted x (take n l.ahead) less_bytes less_since less_waiting) all counted),
      known,
    ) in
    subst (λ (x : List Chunk). Keeps x written runs less_bytes less_since less_waiting less_count less_tracking) (sym is) kept

pub withdraw_shows : (l : LogState) (chunks new : List Chunk) (written n : ℕ) → parts written chunks ≡ l → new ≡ take (written + n) chunks → parts written new ≡ withdrawn n l
withdraw_shows l chunks new written n view is =
    ap (parts written) is
    ∙ ap (λ (x : List Chunk). record { log = x; ahead = drop written (take (written + n) chunks) }) (take_take written n chunks)
    ∙ ap (λ (x : List Chunk). record { log = take written chunks; ahead = x }) (drop_take written n chunks)
    ∙ ap (withdrawn n) view

-- a front ends in no later epoch
pub withdraw_falls : (l new : LogState) (chunks : List Chunk) (written n : ℕ) → parts written chunks ≡ l → IsLog chunks → new ≡ withdrawn n l → last_epoch (whole new) ≤ last_epoch (whole l)
withdraw_falls l new chunks written n view log is =
    let all : (l.log ++ take n l.ahead) ++ drop n l.ahead ≡ whole l = append_assoc l.log (take n l.ahead) (drop n l.ahead) ∙ ap (λ (x : List Chunk). l.log ++ x) (take-append-drop n l.ahead) in
    let grows = epoch_grows (l.log ++ take n l.ahead) (drop n l.ahead) (subst IsLog (sym (all ∙ whole_parts written chunks l view)) log) in
    let before : last_epoch ((l.log ++ take n l.ahead) ++ drop n l.ahead) ≡ last_epoch (whole l) = ap last_epoch all in
    let after : last_epoch (whole new) ≡ last_epoch (l.log ++ take n l.ahead) = ap (λ (x : LogState). last_epoch (whole x)) is in
    omega (arith, grows, before, after)

pub counted_shows : (l : LogState) (chunks : List Chunk) (written bytes since waiting : ℕ) → parts written chunks ≡ l → AreCounted chunks (drop written chunks) bytes since waiting → AreCounted (whole l) l.ahead bytes since waiting
counted_shows l chunks written bytes since waiting view is =
    subst (λ (x : LogState). AreCounted (whole x) x.ahead bytes since waiting) view (subst (λ (x : List Chunk). AreCounted x (drop written chunks) bytes since waiting) (sym (take-append-drop written chunks)) is)

-- ---- a leader by the chunks that are not in its log

abbrev pub leader_as : ℕ → ℕ → ℕ → Leading → List Chunk → List Chunk → MemberState
leader_as number members promise leading log waiting = record { number = number; members = members; promise = promise; role = Leader (record leading { queue = behind_first waiting }); log = log; job = next_job waiting }

takes_one : (number members promise : ℕ) (leading : Leading) (log waiting : List Chunk) (c : Chunk) → offered c (leader_as number members promise leading log waiting) ≡ leader_as number members promise leading log (waiting ++ c ∷ [])
takes_one number members promise leading log [] c = refl
takes_one number members promise leading log (d ∷ waiting) c = refl

takes_all : (number members promise : ℕ) (leading : Leading) (log waiting chunks : List Chunk) → offered_all chunks (leader_as number members promise leading log waiting) ≡ leader_as number members promise leading log (waiting ++ chunks)
takes_all number members promise leading log waiting [] = ap (leader_as number members promise leading log) (sym (append-nil waiting))
takes_all number members promise leading log waiting (c ∷ chunks) =
    ap (offered_all chunks) (takes_one number members promise leading log waiting c)
    ∙ takes_all number members promise leading log (waiting ++ c ∷ []) chunks
    ∙ ap (leader_as number members promise leading log) (append_assoc waiting (c ∷ []) chunks)

waits_so : (number members promise : ℕ) (leading : Leading) (log waiting : List Chunk) → waiting_of (leader_as number members promise leading log waiting) ≡ waiting
waits_so number members promise leading log [] = refl
waits_so number members promise leading log (d ∷ waiting) = refl

-- an opened leader is such a one
pub record Stands (m : MemberState) (log ahead : List Chunk) : Type 0 where
  pub leading : Leading
  pub is : m ≡ leader_as m.number m.members m.promise leading log ahead

leads_so : (number members promise : ℕ) (lead : Lead) (log : LogState) (job : Option Job) → IsMember members promise (duties.Leader lead) log job → Stands (shown number members promise (duties.Leader lead) log job) log.log log.ahead
leads_so number members promise lead log None is = record {
  leading = leading_of members lead log.ahead;
  is = ap (λ (j : Option Job). record { number = number; members = members; promise = promise; role = Leader (leading_of members lead log.ahead); log = log.log; job = j }) (sym (ap next_job is.waits));
}
leads_so number members promise lead log (Some (jobs.Write c)) is = record {
  leading = leading_of members lead log.ahead;
  is = ap (λ (j : Option Job). record { number = number; members = members; promise = promise; role = Leader (leading_of members lead log.ahead); log = log.log; job = j }) (sym (ap next_job is.waits));
}
leads_so number members promise lead log (Some (jobs.Cut end)) is = absurd is.leads
leads_so number members promise lead log (Some (jobs.Promise epoch)) is = absurd is.leads
leads_so number members promise lead log (Some (jobs.Epoch epoch)) is = absurd is.leads

pub stands_so : (number members promise : ℕ) (duty : Duty) (log : LogState) (job : Option Job) → IsMember members promise duty log job → IsOpen (role_of members duty log.ahead) → Stands (shown number members promise duty log job) log.log log.ahead
stands_so number members promise duties.Stopped log job is led = absurd led
stands_so number members promise (duties.Follower leader) log job is led = absurd led
stands_so number members promise (duties.Leader lead) log job is led = leads_so number members promise lead log job is

-- ---- a mark

front_of : (a b : List Chunk) → take (length a) (a ++ b) ≡ a
front_of a b = take-append-le (length a) a b (omega arith) ∙ take_all (length a) a (omega arith)

marked_as : (number members promise : ℕ) (leading : Leading) (log ahead chunks : List Chunk) (mark : Mark) → mark.count ≡ length ahead → AreCounted (log ++ ahead) ahead mark.counted.bytes mark.counted.since mark.counted.waiting
    → Marks mark (leader_as number members promise leading log (ahead ++ chunks))
marked_as number members promise leading log ahead chunks mark count counted =
    let waits = waits_so number members promise leading log (ahead ++ chunks) in
    let front : ahead ≡ take mark.count (waiting_of (leader_as number members promise leading log (ahead ++ chunks))) = sym (front_of ahead chunks) ∙ ap (λ (n : ℕ). take n (ahead ++ chunks)) (sym count) ∙ ap (take mark.count) (sym waits) in
    let long : length (waiting_of (leader_as number members promise leading log (ahead ++ chunks))) ≡ length ahead + length chunks = ap length waits ∙ length-append ahead chunks in
    record {
      within = omega (arith, count, long);
      counted = subst (λ (x : List Chunk). AreCounted (log ++ x) x mark.counted.bytes mark.counted.since mark.counted.waiting) front counted;
    }

back_as : (number members promise : ℕ) (leading : Leading) (log ahead chunks : List Chunk) (mark : Mark) → mark.count ≡ length ahead → taken_back mark (leader_as number members promise leading log (ahead ++ chunks)) ≡ leader_as number members promise leading log ahead
back_as number members promise leading log ahead chunks mark count =
    ap (leader_as number members promise leading log) (ap (take mark.count) (waits_so number members promise leading log (ahead ++ chunks)) ∙ ap (λ (n : ℕ). take n (ahead ++ chunks)) count ∙ front_of ahead chunks)

pub marks : (m : MemberState) (log ahead chunks : List Chunk) (mark : Mark) → Stands m log ahead → mark.count ≡ length ahead → AreCounted (log ++ ahead) ahead mark.counted.bytes mark.counted.since mark.counted.waiting → Marks mark (offered_all chunks m)
marks m log ahead chunks mark so count counted =
    let all : leader_as m.number m.members m.promise so.leading log (ahead ++ chunks) ≡ offered_all chunks m = sym (ap (offered_all chunks) so.is ∙ takes_all m.number m.members m.promise so.leading log ahead chunks) in
    subst (Marks mark) all (marked_as m.number m.members m.promise so.leading log ahead chunks mark count counted)

pub goes_back : (m : MemberState) (log ahead chunks : List Chunk) (mark : Mark) → Stands m log ahead → mark.count ≡ length ahead → taken_back mark (offered_all chunks m) ≡ m
goes_back m log ahead chunks mark so count =
    ap (λ (x : MemberState). taken_back mark (offered_all chunks x)) so.is
    ∙ ap (taken_back mark) (takes_all m.number m.members m.promise so.leading log ahead chunks)
    ∙ back_as m.number m.members m.promise so.leading log ahead chunks mark count
    ∙ sym so.is

-- ---- what is left of a leader

-- what is to be known of a mark where chunks are taken back
pub marks_here : (m : MemberState) (log ahead : List Chunk) (mark : Mark) → Stands m log ahead → Marks mark m → (mark.count ≤ length ahead) × AreCounted (log ++ take mark.count ahead) (take mark.count ahead) mark.counted.bytes mark.counted.since mark.counted.waiting
marks_here m log ahead mark so is =
    let here = leader_as m.number m.members m.promise so.leading log ahead in
    let same : Marks mark here = subst (Marks mark) so.is is in
    let waits : waiting_of here ≡ ahead = waits_so m.number m.members m.promise so.leading log ahead in
    (subst (λ (x : List Chunk). mark.count ≤ length x) waits same.within, subst (λ (x : List Chunk). AreCounted (log ++ take mark.count x) (take mark.count x) mark.counted.bytes mark.counted.since mark.counted.waiting) waits same.counted)

pub none_left : (members promise : ℕ) (duty : Duty) (log new : LogState) (job : Option Job) (n : ℕ) → IsMember members promise duty log job → IsOpen (role_of members duty log.ahead) → new ≡ withdrawn n log → last_epoch (whole new) ≤ last_epoch (whole log) → n ≡ 0 → IsMember members promise duty new None
none_left members promise duties.Stopped log new job n is led taken falls none = absurd led
none_left members promise (duties.Follower leader) log new job n is led taken falls none = absurd led
none_left members promise (duties.Leader lead) log new job n is led taken falls none =
    let low = is.promised in
    let nothing : new.ahead ≡ [] = ap (λ (l : LogState). l.ahead) taken ∙ ap (λ (k : ℕ). take k log.ahead) none in
    record { some = is.some; few = is.few; waits = nothing; queues = tt; leads = tt; promised = omega (arith, low, falls); next = tt }

first_stays : (n : ℕ) (c : Chunk) (ahead : List Chunk) → ahead ≡ c ∷ behind_first ahead → (n ≡ 0 → ⊥) → take n ahead ≡ c ∷ behind_first (take n ahead)
first_stays zero c ahead is some = absurd (some refl)
first_stays (suc n) c ahead is some = ap (take (suc n)) is ∙ ap (λ (x : List Chunk). c ∷ behind_first x) (ap (take (suc n)) (sym is))

pub some_left : (members promise : ℕ) (duty : Duty) (log new : LogState) (job : Option Job) (n : ℕ) → IsMember members promise duty log job → IsOpen (role_of members duty log.ahead) → n ≤ length log.ahead → new ≡ withdrawn n log → last_epoch (whole new) ≤ last_epoch (whole log) → (n ≡ 0 → ⊥) → IsMember members promise duty new job
some_left members promise duties.Stopped log new job n is led few taken falls some = absurd led
some_left members promise (duties.Follower leader) log new job n is led few taken falls some = absurd led
some_left members promise (duties.Leader lead) log new None n is led few taken falls some = absurd (some (nothing (ap length is.waits) few))
  where
    nothing : {a b : ℕ} → a ≡ 0 → b ≤ a → b ≡ 0
    nothing e l = omega arith
some_left members promise (duties.Leader lead) log new (Some (jobs.Write c)) n is led few taken falls some =
    let low = is.promised in
    let now : new.ahead ≡ take n log.ahead = ap (λ (l : LogState). l.ahead) taken in
    record { some = is.some; few = is.few; waits = now ∙ first_stays n c log.ahead is.waits some ∙ ap (λ (x : List Chunk). c ∷ behind_first x) (sym now); queues = tt; leads = tt; promised = omega (arith, low, falls); next = tt }
some_left members promise (duties.Leader lead) log new (Some (jobs.Cut end)) n is led few taken falls some = absurd is.leads
some_left members promise (duties.Leader lead) log new (Some (jobs.Promise epoch)) n is led few taken falls some = absurd is.leads
some_left members promise (duties.Leader lead) log new (Some (jobs.Epoch epoch)) n is led few taken falls some = absurd is.leads

-- what is seen then
back_by : (number members promise : ℕ) (lead : Lead) (log : LogState) (job left : Option Job) (mark : Mark) → IsMember members promise (duties.Leader lead) log job → left ≡ next_job (take mark.count log.ahead)
    → shown number members promise (duties.Leader lead) (withdrawn mark.count log) left ≡ taken_back mark (shown number members promise (duties.Leader lead) log job)
back_by number members promise lead log job left mark is left_is =
    let so = leads_so number members promise lead log job is in
    let waits : waiting_of (shown number members promise (duties.Leader lead) log job) ≡ log.ahead = ap waiting_of so.is ∙ waits_so number members promise so.leading log.log log.ahead in
    ap (λ (j : Option Job). shown number members promise (duties.Leader lead) (withdrawn mark.count log) j) left_is
    ∙ ap (λ (x : List Chunk). with_waiting (take mark.count x) (shown number members promise (duties.Leader lead) log job)) (sym waits)

pub back_shows : (number members promise : ℕ) (duty : Duty) (log new : LogState) (job left : Option Job) (mark : Mark) → IsMember members promise duty log job → IsOpen (role_of members duty log.ahead) → new ≡ withdrawn mark.count log → left ≡ next_job (take mark.count log.ahead)
    → shown number members promise duty new left ≡ taken_back mark (shown number members promise duty log job)
back_shows number members promise duties.Stopped log new job left mark is led taken left_is = absurd led
back_shows number members promise (duties.Follower leader) log new job left mark is led taken left_is = absurd led
back_shows number members promise (duties.Leader lead) log new job left mark is led taken left_is =
    ap (λ (l : LogState). shown number members promise (duties.Leader lead) l left) taken ∙ back_by number members promise lead log job left mark is left_is

pub job_none : (n : ℕ) (ahead : List Chunk) → n ≡ 0 → None ≡ next_job (take n ahead)
job_none n ahead is = ap (λ (k : ℕ). next_job (take k ahead)) (sym is)

pub job_stays : (members promise : ℕ) (duty : Duty) (log : LogState) (job : Option Job) (n : ℕ) → IsMember members promise duty log job → IsOpen (role_of members duty log.ahead) → (n ≡ 0 → ⊥) → job ≡ next_job (take n log.ahead)
job_stays members promise duties.Stopped log job n is led some = absurd led
job_stays members promise (duties.Follower leader) log job n is led some = absurd led
job_stays members promise (duties.Leader lead) log None n is led some = ap next_job (sym (ap (take n) is.waits ∙ take_nothing n))
  where
    take_nothing : (k : ℕ) → take {A = Chunk} k [] ≡ []
    take_nothing zero = refl
    take_nothing (suc k) = refl
job_stays members promise (duties.Leader lead) log (Some (jobs.Write c)) n is led some = ap next_job (sym (first_stays n c log.ahead is.waits some))
job_stays members promise (duties.Leader lead) log (Some (jobs.Cut end)) n is led some = absurd is.leads
job_stays members promise (duties.Leader lead) log (Some (jobs.Promise epoch)) n is led some = absurd is.leads
job_stays members promise (duties.Leader lead) log (Some (jobs.Epoch epoch)) n is led some = absurd is.leads
