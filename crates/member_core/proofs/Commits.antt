-- The greatest end that a majority has, by its place in the log.
use Rattle.std.proofs.Common.{◌≡◌, ℕ, zero, suc, ◌+◌, ◌-◌, ◌*◌, ◌/◌, ◌≤◌, ◌<◌, Bool, true, false, List, [], ◌∷◌, ◌++◌, length, take, drop, get_or, Option, refl, sym, ap, subst, ◌∙◌, arith}
use Rattle.std.specs.Prelude.{◌&&◌, ◌==◌, if◌then◌else◌, nat_le, nat_lt}
use Rattle.std.specs.List.{AllWithin}
use Rattle.std.specs.List.Sorted.{IsPartitionedBy, IsPartitionPoint}
use Rattle.std.proofs.lemmas.List.{take_more, take-append-drop}
use Rattle.chunk_format.specs.declared.chunk.Chunk.{Chunk}
use Rattle.chunk_format.specs.Chunks.{end_of_chunk}
use Rattle.chunk_format.specs.Logs.{Linked, IsLog, epoch_from, last_epoch}
use Rattle.chunk_format.proofs.LinkLaws.{epoch_past, epoch_grows, epoch_push, linked_front}
use Rattle.epoch_coordinator.specs.Members.{Leading, MemberState}
use Rattle.epoch_coordinator.specs.MemberSteps.{reaching, is_majority, commit_from, commit_end}
use Rattle.member_core.proofs.EndLaws.{ends_rise}
use Rattle.epoch_coordinator.specs.declared.message.Job.{Job}
use Rattle.member_core.specs.Kept.{LogState, whole}
use Rattle.member_core.specs.declared.duty.Lead.{Lead}
use Rattle.member_core.specs.declared.duty.Duty.{Duty}
use Rattle.member_core.specs.declared.duty.Duty.TheVariants as duties
use Rattle.member_core.specs.States.{has_majority, commit_over, leading_of}
use Rattle.member_core.proofs.Holding.{shown}

-- ---- what ends later is had by fewer

reaching_less : (less end : ℕ) (ends : List ℕ) → less ≤ end → reaching end ends ≤ reaching less ends
reaching_less less end [] le = omega arith
reaching_less less end (x ∷ xs) le = let more = reaching_less less end xs le in step less end x (reaching less xs) (reaching end xs) le more
  where
    step : (less end x a b : ℕ) → less ≤ end → b ≤ a → (if nat_le end x then 1 else 0) + b ≤ (if nat_le less x then 1 else 0) + a
    step less end x a b le more = grind arith

pub half : (members n : ℕ) → nat_le (members / 2) n ≡ is_majority members (1 + n)
half members n = grind arith

still : (members less end : ℕ) (acknowledged : List ℕ) → less ≤ end → has_majority members acknowledged end ≡ true → has_majority members acknowledged less ≡ true
still members less end acknowledged le has = more members (reaching less acknowledged) (reaching end acknowledged) (reaching_less less end acknowledged le) has
  where
    more : (members a b : ℕ) → b ≤ a → nat_lt members (2 * (1 + b)) ≡ true → nat_lt members (2 * (1 + a)) ≡ true
    more members a b le has = grind arith

pub parted : (members : ℕ) (acknowledged : List ℕ) (log : List Chunk) → IsLog log → IsPartitionedBy (λ c. has_majority members acknowledged (end_of_chunk c)) log
parted members acknowledged log l i j d le in' has = still members (end_of_chunk (get_or log i d)) (end_of_chunk (get_or log j d)) acknowledged (ends_rise log l i j d le in') has

-- ---- the walk over the whole log

over_join : (epoch members : ℕ) (acknowledged : List ℕ) (end : ℕ) (a b : List Chunk) → commit_over epoch members acknowledged end (a ++ b) ≡ commit_over epoch members acknowledged (commit_over epoch members acknowledged end a) b
over_join epoch members acknowledged end [] b = refl
over_join epoch members acknowledged end (c ∷ a) b = over_join epoch members acknowledged (if (c.epoch == epoch) && has_majority members acknowledged (end_of_chunk c) then end_of_chunk c else end) a b

-- nobody has the rest
over_none : (epoch members : ℕ) (acknowledged : List ℕ) (end : ℕ) (b : List Chunk) → AllWithin (λ c. has_majority members acknowledged (end_of_chunk c) ≡ false) b 0 (length b) → commit_over epoch members acknowledged end b ≡ end
over_none epoch members acknowledged end [] none = refl
over_none epoch members acknowledged end (c ∷ b) none =
    let first = none zero c (omega arith) (omega arith) in
    let passed : (if (c.epoch == epoch) && has_majority members acknowledged (end_of_chunk c) then end_of_chunk c else end) ≡ end = not_counted (c.epoch == epoch) (has_majority members acknowledged (end_of_chunk c)) first in
    ap (λ (n : ℕ). commit_over epoch members acknowledged n b) passed ∙ over_none epoch members acknowledged end b (λ k d low high. none (suc k) d (omega arith) (omega arith))
  where
    not_counted : (x y : Bool) → y ≡ false → (if x && y then end_of_chunk c else end) ≡ end
    not_counted true y is = ap (λ (b : Bool). if b then end_of_chunk c else end) is
    not_counted false y is = refl

-- earlier epochs don't count
over_earlier : (at from epoch members : ℕ) (acknowledged : List ℕ) (end : ℕ) (a : List Chunk) → Linked at from a → epoch_from from a < epoch → commit_over epoch members acknowledged end a ≡ end
over_earlier at from epoch members acknowledged end [] l less = refl
over_earlier at from epoch members acknowledged end (c ∷ a) l less =
    let past = epoch_past (end_of_chunk c) c.epoch a l.behind in
    let other : (c.epoch == epoch) ≡ false = differs c.epoch epoch (omega arith) in
    ap (λ (b : Bool). commit_over epoch members acknowledged (if b && has_majority members acknowledged (end_of_chunk c) then end_of_chunk c else end) a) other ∙ over_earlier (end_of_chunk c) c.epoch epoch members acknowledged end a l.behind less
  where
    differs : (a b : ℕ) → a < b → (a == b) ≡ false
    differs a b less = grind arith

-- ---- by the place

-- the rest behind a place
rest_none : (p : Chunk → Bool) (log : List Chunk) (k : ℕ) → AllWithin (λ c. p c ≡ false) log k (length log) → AllWithin (λ c. p c ≡ false) (drop k log) 0 (length (drop k log))
rest_none p log zero none = none
rest_none p [] (suc k) none = λ i d low high. absurd (omega arith)
rest_none p (c ∷ log) (suc k) none = rest_none p log k (λ i d low high. none (suc i) d (omega arith) (omega arith))

at_end : (epoch members : ℕ) (acknowledged : List ℕ) (log : List Chunk) (k : ℕ) → AllWithin (λ c. has_majority members acknowledged (end_of_chunk c) ≡ false) log k (length log) → commit_over epoch members acknowledged 0 log ≡ commit_over epoch members acknowledged 0 (take k log)
at_end epoch members acknowledged log k none =
    ap (commit_over epoch members acknowledged 0) (sym (take-append-drop k log)) ∙ over_join epoch members acknowledged 0 (take k log) (drop k log)
    ∙ over_none epoch members acknowledged (commit_over epoch members acknowledged 0 (take k log)) (drop k log) (rest_none (λ c. has_majority members acknowledged (end_of_chunk c)) log k none)

last_of : (log : List Chunk) (k : ℕ) (c : Chunk) → 0 < k → k ≤ length log → c ≡ get_or log (k - 1) c → take k log ≡ take (k - 1) log ++ c ∷ []
last_of log k c some within is =
    let before : k - 1 + 1 ≡ k = omega arith in
    ap (λ (n : ℕ). take n log) (sym before) ∙ take_more log (k - 1) c (omega arith) ∙ ap (λ (x : Chunk). take (k - 1) log ++ x ∷ []) (sym is)

abbrev Point : ℕ → List ℕ → List Chunk → ℕ → Type 0
Point members acknowledged log k = IsPartitionPoint (λ c. has_majority members acknowledged (end_of_chunk c) ≡ true) (λ c. has_majority members acknowledged (end_of_chunk c) ≡ false) log k

pub commit_none : (epoch members : ℕ) (acknowledged : List ℕ) (log : List Chunk) (k : ℕ) → Point members acknowledged log k → k ≡ 0 → 0 ≡ commit_over epoch members acknowledged 0 log
commit_none epoch members acknowledged log k point none = sym (at_end epoch members acknowledged log k point.1 ∙ ap (λ (n : ℕ). commit_over epoch members acknowledged 0 (take n log)) none)

pub commit_here : (epoch members : ℕ) (acknowledged : List ℕ) (log : List Chunk) (k : ℕ) (c : Chunk) → Point members acknowledged log k → 0 < k → k ≤ length log → c ≡ get_or log (k - 1) c → c.epoch ≡ epoch → end_of_chunk c ≡ commit_over epoch members acknowledged 0 log
commit_here epoch members acknowledged log k c point some within is same =
    let has : has_majority members acknowledged (end_of_chunk c) ≡ true = subst (λ (x : Chunk). has_majority members acknowledged (end_of_chunk x) ≡ true) (sym is) (point.0 (k - 1) c (omega arith) (omega arith)) in
    sym (at_end epoch members acknowledged log k point.1 ∙ ap (commit_over epoch members acknowledged 0) (last_of log k c some within is) ∙ over_join epoch members acknowledged 0 (take (k - 1) log) (c ∷ [])
    ∙ counted (c.epoch == epoch) (has_majority members acknowledged (end_of_chunk c)) (commit_over epoch members acknowledged 0 (take (k - 1) log)) (equal c.epoch epoch same) has)
  where
    equal : (a b : ℕ) → a ≡ b → (a == b) ≡ true
    equal a b is = grind arith

    counted : (x y : Bool) (n : ℕ) → x ≡ true → y ≡ true → (if x && y then end_of_chunk c else n) ≡ end_of_chunk c
    counted x y n p q = ap (λ (b : Bool). if b && y then end_of_chunk c else n) p ∙ ap (λ (b : Bool). if b then end_of_chunk c else n) q

pub commit_earlier : (epoch members : ℕ) (acknowledged : List ℕ) (log : List Chunk) (k : ℕ) (c : Chunk) → Point members acknowledged log k → IsLog log → last_epoch log ≤ epoch → 0 < k → k ≤ length log → c ≡ get_or log (k - 1) c → (c.epoch ≡ epoch → ⊥) → 0 ≡ commit_over epoch members acknowledged 0 log
commit_earlier epoch members acknowledged log k c point l low some within is other =
    let front = take k log in
    let split : front ++ drop k log ≡ log = take-append-drop k log in
    let whole_log : IsLog (front ++ drop k log) = subst IsLog (sym split) l in
    let grows = epoch_grows front (drop k log) whole_log in
    let last : last_epoch front ≡ c.epoch = ap last_epoch (last_of log k c some within is) ∙ epoch_push (take (k - 1) log) c in
    let all : last_epoch (front ++ drop k log) ≡ last_epoch log = ap last_epoch split in
    sym (at_end epoch members acknowledged log k point.1 ∙ over_earlier 0 0 epoch members acknowledged 0 front (linked_front 0 0 front (drop k log) whole_log) (omega (arith, grows, last, all, low, other)))

-- the walk of the rules is this one
pub commit_same : (m : MemberState) (leading : Leading) (end : ℕ) (log : List Chunk) → commit_from end m leading log ≡ commit_over m.promise m.members leading.acknowledged end log
commit_same m leading end [] = refl
commit_same m leading end (c ∷ log) = commit_same m leading (if (c.epoch == m.promise) && has_majority m.members leading.acknowledged (end_of_chunk c) then end_of_chunk c else end) log

pub commit_shows : (number members promise : ℕ) (duty : Duty) (log : LogState) (job : Option Job) (m : MemberState) (lead : Lead) (lent : List Chunk) (r : ℕ) → shown number members promise duty log job ≡ m → duty ≡ duties.Leader lead → lent ≡ log.log → r ≡ commit_over promise members (take members lead.acknowledged) 0 lent → r ≡ commit_end m
commit_shows number members promise duty log job m lead lent r view led same is =
    let n = shown number members promise (duties.Leader lead) log job in
    is ∙ ap (commit_over promise members (take members lead.acknowledged) 0) same ∙ sym (commit_same n (leading_of members lead log.ahead) 0 log.log)
    ∙ ap (λ (d : Duty). commit_end (shown number members promise d log job)) (sym led) ∙ ap commit_end view

pub log_is : (log : LogState) (lent : List Chunk) → IsLog (whole log) → lent ≡ log.log → IsLog lent
log_is log lent l same = subst IsLog (sym same) (linked_front 0 0 log.log log.ahead l)

pub log_below : (log : LogState) (lent : List Chunk) (promise : ℕ) → IsLog (whole log) → lent ≡ log.log → last_epoch (whole log) ≤ promise → last_epoch lent ≤ promise
log_below log lent promise l same low =
    let grows = epoch_grows log.log log.ahead l in
    let here = ap last_epoch same in
    omega (arith, grows, here, low)
