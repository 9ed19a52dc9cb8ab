-- What the coordinator sends, by the bits of the electors.
use Rattle.std.proofs.Common.{◌≡◌, ◌-◌, ℕ, Bool, true, false, not, cond, ◌==◌, nat_lt, List, ◌∷◌, length, length-set, slice_index_or, Option, Some, None, refl, ap, ◌∙◌}
use Rattle.epoch_coordinator.specs.declared.tail.Tail.{Tail}
use Rattle.epoch_coordinator.specs.declared.message.Message.TheVariants as messages
use Rattle.epoch_coordinator.specs.declared.coordinator.Phase.{Phase}
use Rattle.epoch_coordinator.specs.declared.coordinator.Phase.TheVariants.{Idle, Electing, Running}
use Rattle.epoch_coordinator.specs.declared.coordinator.StoppedDid.TheVariants as did
use Rattle.epoch_coordinator.specs.Coordinators.{CoordinatorState, Hears, hears, first_of, tell, repliers, leader_of, electors_of, counted, told_in_epoch, told_before, stopped_by, stopped, to_each}
use Rattle.epoch_coordinator.specs.MemberSteps.{mail, is_another, is_majority}
use Rattle.epoch_coordinator.specs.Scripts.{opened}
use Rattle.cluster_core.specs.Parts.{did_mail}
use Rattle.cluster_core.proofs.Posting.{electors_follow}

abbrev MailIs : ℕ → Hears → Type 0
MailIs members h = did_mail members h.answer ≡ opened h.state h.answer

either : (b : Bool) (members : ℕ) (x y : Hears) → MailIs members x → MailIs members y → MailIs members (cond {A = Hears} b x y)
either true members x y h k = h
either false members x y h k = k

counted_mail : (c : CoordinatorState) → length c.told ≡ c.members → MailIs c.members (counted c)
counted_mail c e =
    let leader = leader_of c.told in
    either (is_majority c.members (repliers c.told)) c.members (hears (record c { phase = Running leader }) (did.Opened c.epoch leader (electors_of c.told))) (hears c did.Nothing)
    (ap (λ (l : List ℕ). mail leader (messages.Open c.epoch) ∷ to_each (messages.Follow c.epoch leader) l) (electors_follow leader c.members c.told e)) refl

told_mail : (phase : Phase) (from : ℕ) (tail : Tail) (c : CoordinatorState) → length c.told ≡ c.members → MailIs c.members (told_in_epoch phase from tail c)
told_mail Idle from tail c e = refl
told_mail Electing from tail c e = counted_mail (record c { told = tell from tail c.told }) (length-set c.told (from - 1) (first_of (slice_index_or c.told (from - 1) None) tail) ∙ e)
told_mail (Running leader) from tail c e = refl

before_mail : (phase : Phase) (from : ℕ) (c : CoordinatorState) → MailIs c.members (told_before phase from c)
before_mail Idle from c = refl
before_mail Electing from c = refl
before_mail (Running leader) from c = refl

by_job : (job : Option ℕ) (epoch from : ℕ) (tail : Tail) (c : CoordinatorState) → length c.told ≡ c.members → MailIs c.members (stopped_by job epoch from tail c)
by_job (Some next) epoch from tail c e = refl
by_job None epoch from tail c e =
    let none = hears c did.Nothing in
    let inside = cond {A = Hears} (epoch == c.epoch) (told_in_epoch c.phase from tail c) none in
    let later = cond {A = Hears} (nat_lt epoch c.epoch) (told_before c.phase from c) inside in
    either (not (is_another c.members 0 from)) c.members none later refl
    (either (nat_lt epoch c.epoch) c.members (told_before c.phase from c) inside (before_mail c.phase from c) (either (epoch == c.epoch) c.members (told_in_epoch c.phase from tail c) none (told_mail c.phase from tail c e) refl))

pub electors_told : (epoch from : ℕ) (tail : Tail) (c : CoordinatorState) → length c.told ≡ c.members → did_mail c.members (stopped epoch from tail c).answer ≡ opened (stopped epoch from tail c).state (stopped epoch from tail c).answer
electors_told epoch from tail c e = by_job c.job epoch from tail c e
