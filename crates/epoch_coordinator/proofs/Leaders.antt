-- The leader that is chosen is the right one.
use Rattle.std.proofs.Common.{◌≡◌, ℕ, ◌+◌, ◌≤◌, ◌<◌, Bool, true, false, cond, ◌⊎◌, inl, inr, List, [], ◌∷◌, Option, Some, None, refl, sym, ap, subst, ◌∙◌, arith}
use Rattle.epoch_coordinator.specs.declared.tail.Tail.{Tail}
use Rattle.epoch_coordinator.specs.declared.election.Candidate.{Candidate}
use Rattle.std.specs.Prelude.{◌*◌, not, nat_lt, ◌==◌, if◌then◌else◌}
use Rattle.epoch_coordinator.specs.declared.coordinator.Phase.{Phase}
use Rattle.epoch_coordinator.specs.declared.coordinator.Phase.TheVariants.{Idle, Electing, Running}
use Rattle.epoch_coordinator.specs.declared.coordinator.StoppedDid.TheVariants as did
use Rattle.epoch_coordinator.specs.MemberSteps.{is_another, is_majority}
use Rattle.epoch_coordinator.specs.Tails.{is_behind, same_tail}
use Rattle.epoch_coordinator.specs.Coordinators.{CoordinatorState, Hears, hears, better, best_from, number_of, leader_of, repliers, electors_of, tell, counted, told_in_epoch, told_before, stopped_by, stopped, Told, GoesBefore, IsLeader, OpensRightly, IfOpened}

goes_through : (n m k : ℕ) (a b c : Tail) → GoesBefore n a m b → GoesBefore m b k c → GoesBefore n a k c
goes_through n m k a b c p q = record { greatest = not_behind a b c p.greatest q.greatest; least = λ same. least_of n m k a b c p.greatest q.greatest p.least q.least same }
  where
    not_behind : (a b c : Tail) → is_behind a b ≡ false → is_behind b c ≡ false → is_behind a c ≡ false
    not_behind a b c p q = grind arith

    least_of : (n m k : ℕ) (a b c : Tail) → is_behind a b ≡ false → is_behind b c ≡ false → (same_tail a b ≡ true → n ≤ m) → (same_tail b c ≡ true → m ≤ k) → same_tail a c ≡ true → n ≤ k
    least_of n m k a b c p q f g same = grind arith

goes_itself : (n : ℕ) (a : Tail) → GoesBefore n a n a
goes_itself n a = record { greatest = not_behind a; least = λ same. omega arith }
  where
    not_behind : (a : Tail) → is_behind a a ≡ false
    not_behind a = grind arith

-- a later member goes behind one whose tail isn't less
goes_first : (n k : ℕ) (a b : Tail) → n < k → is_behind a b ≡ false → GoesBefore n a k b
goes_first n k a b less not = record { greatest = not; least = λ same. omega (arith, less) }

-- a greater tail goes before, whatever the numbers are
goes_over : (n k : ℕ) (a b : Tail) → is_behind a b ≡ true → GoesBefore n b k a
goes_over n k a b less = record { greatest = not_behind a b less; least = λ same. absurd (not_same a b less same) }
  where
    not_behind : (a b : Tail) → is_behind a b ≡ true → is_behind b a ≡ false
    not_behind a b less = grind arith

    not_same : (a b : Tail) → is_behind a b ≡ true → same_tail b a ≡ true → ⊥
    not_same a b less same = grind arith

some_is : (c d : Candidate) → Some c ≡ Some d → c ≡ d
some_is c d e = cc

none_told : (tail : Tail) → None ≡ Some tail → ⊥
none_told tail e = cc

-- the best is earlier than the members that are looked at
abbrev Earlier : ℕ → Option Candidate → Type 0
Earlier first best = (d : Candidate) → best ≡ Some d → d.number < first

-- a candidate is the best from before or one of those that told, and goes before all of them
record Wins (first : ℕ) (best : Option Candidate) (told : List (Option Tail)) (c : Candidate) : Type 0 where
  pub from : (best ≡ Some c) ⊎ Told first told c.number c.tail
  pub over_best : (d : Candidate) → best ≡ Some d → GoesBefore c.number c.tail d.number d.tail
  pub over_told : (k : ℕ) (t : Tail) → Told first told k t → GoesBefore c.number c.tail k t

abbrev member : ℕ → Tail → Candidate
member first tail = record { number = first; tail = tail }

-- the first of those that told
told_first : (first : ℕ) (tail : Tail) (more : List (Option Tail)) (c : Candidate) → member first tail ≡ c → Told first (Some tail ∷ more) c.number c.tail
told_first first tail more c is = inl (ap (λ (x : Candidate). x.number) (sym is), ap (λ (x : Candidate). Some x.tail) is)

later : (first : ℕ) (best : Option Candidate) → Earlier first best → Earlier (first + 1) best
later first best early d is = omega (arith, early d is)

new_earlier : (first : ℕ) (tail : Tail) → Earlier (first + 1) (Some (member first tail))
new_earlier first tail d is = let number = ap (λ (x : Candidate). x.number) (some_is (member first tail) d is) in omega (arith, number)

-- who goes before the first goes before whom stands first
at_first : (c : Candidate) (first : ℕ) (tail : Tail) (k : ℕ) (t : Tail) → GoesBefore c.number c.tail first tail → (k ≡ first) × (Some tail ≡ Some t) → GoesBefore c.number c.tail k t
at_first c first tail k t over p =
    subst (λ (x : Tail). GoesBefore c.number c.tail k x) (tail_is tail t p.1) (subst (λ (n : ℕ). GoesBefore c.number c.tail n tail) (sym p.0) over)
  where
    tail_is : (a b : Tail) → Some a ≡ Some b → a ≡ b
    tail_is a b e = cc

-- where the first is told and becomes the best, what wins behind it wins with it
takes : (first : ℕ) (best : Option Candidate) (tail : Tail) (more : List (Option Tail)) (c : Candidate) → ((d : Candidate) → best ≡ Some d → is_behind d.tail tail ≡ true) → Wins (first + 1) (Some (member first tail)) more c → Wins first best (Some tail ∷ more) c
takes first best tail more c behind w =
    let over_new = w.over_best (member first tail) refl in
    record {
      from = inr (told w.from);
      over_best = λ d is. goes_through c.number first d.number c.tail tail d.tail over_new (goes_over first d.number d.tail tail (behind d is));
      over_told = λ k t h. elim h as (λ _. GoesBefore c.number c.tail k t) [
        | inl p ↦ here k t p
        | inr q ↦ w.over_told k t q
      ];
    }
  where
    told : ((Some (member first tail) ≡ Some c) ⊎ Told (first + 1) more c.number c.tail) → Told first (Some tail ∷ more) c.number c.tail
    told h = elim h as (λ _. Told first (Some tail ∷ more) c.number c.tail) [
      | inl is ↦ told_first first tail more c (some_is (member first tail) c is)
      | inr q ↦ inr q
    ]

    here : (k : ℕ) (t : Tail) → (k ≡ first) × (Some tail ≡ Some t) → GoesBefore c.number c.tail k t
    here k t p = at_first c first tail k t (w.over_best (member first tail) refl) p

-- where the first is told and isn't greater than the best, what wins behind it wins with it
passes : (first : ℕ) (d : Candidate) (tail : Tail) (more : List (Option Tail)) (c : Candidate) → d.number < first → is_behind d.tail tail ≡ false → Wins (first + 1) (Some d) more c → Wins first (Some d) (Some tail ∷ more) c
passes first d tail more c early behind w =
    let over = goes_through c.number d.number first c.tail d.tail tail (w.over_best d refl) (goes_first d.number first d.tail tail early behind) in
    record {
      from = elim w.from as (λ _. (Some d ≡ Some c) ⊎ Told first (Some tail ∷ more) c.number c.tail) [ inl is ↦ inl is | inr q ↦ inr (inr q) ];
      over_best = w.over_best;
      over_told = λ k t h. elim h as (λ _. GoesBefore c.number c.tail k t) [ inl p ↦ at_first c first tail k t over p | inr q ↦ w.over_told k t q ];
    }

-- where the first isn't told, what wins behind it wins with it
skips : (first : ℕ) (best : Option Candidate) (more : List (Option Tail)) (c : Candidate) → Wins (first + 1) best more c → Wins first best (None ∷ more) c
skips first best more c w =
    record {
      from = elim w.from as (λ _. (best ≡ Some c) ⊎ Told first (None ∷ more) c.number c.tail) [ inl is ↦ inl is | inr q ↦ inr (inr q) ];
      over_best = w.over_best;
      over_told = λ k t h. elim h as (λ _. GoesBefore c.number c.tail k t) [ inl p ↦ absurd (none_told t p.1) | inr q ↦ w.over_told k t q ];
    }

none_before : (tail : Tail) (d : Candidate) → None ≡ Some d → is_behind d.tail tail ≡ true
none_before tail d is = absurd (not_some d is)
  where
    not_some : (d : Candidate) → None ≡ Some d → ⊥
    not_some d is = cc

chosen : (b : Bool) (first : ℕ) (d : Candidate) (tail : Tail) → is_behind d.tail tail ≡ b → better (Some d) first (Some tail) ≡ cond b (Some (member first tail)) (Some d)
chosen b first d tail is = ap (λ (x : Bool). cond x (Some (member first tail)) (Some d)) is

by_choice : (b : Bool) (first : ℕ) (d : Candidate) (tail : Tail) (more : List (Option Tail)) (c : Candidate) → is_behind d.tail tail ≡ b → d.number < first → best_from (first + 1) (better (Some d) first (Some tail)) more ≡ Some c → ((best : Option Candidate) → Earlier (first + 1) best → best_from (first + 1) best more ≡ Some c → Wins (first + 1) best more c) → Wins first (Some d) (Some tail ∷ more) c
by_choice true first d tail more c behind early is ih =
    takes first (Some d) tail more c (λ e was. subst (λ (x : Candidate). is_behind x.tail tail ≡ true) (some_is d e was) behind)
    (ih (Some (member first tail)) (new_earlier first tail) (sym (ap (λ (x : Option Candidate). best_from (first + 1) x more) (chosen true first d tail behind)) ∙ is))
by_choice false first d tail more c behind early is ih =
    passes first d tail more c early behind
    (ih (Some d) (λ e was. still_earlier e was) (sym (ap (λ (x : Option Candidate). best_from (first + 1) x more) (chosen false first d tail behind)) ∙ is))
  where
    still_earlier : (e : Candidate) → Some d ≡ Some e → e.number < first + 1
    still_earlier e was = let number = ap (λ (x : Candidate). x.number) (some_is d e was) in omega (arith, number, early)

none_is : (d : Candidate) → None ≡ Some d → ⊥
none_is d is = cc

some_not_none : (c : Candidate) → Some c ≡ None → ⊥
some_not_none c is = cc

-- a best from before, or one that told, leaves a best
stays_some : (told : List (Option Tail)) (first : ℕ) (d : Candidate) → (c : Candidate) × (best_from first (Some d) told ≡ Some c)
stays_some [] first d = (d, refl)
stays_some (None ∷ more) first d = stays_some more (first + 1) d
stays_some (Some tail ∷ more) first d = stays_by (is_behind d.tail tail) refl (stays_some more (first + 1) d) (stays_some more (first + 1) (member first tail))
  where
    stays_by : (b : Bool) → is_behind d.tail tail ≡ b → ((c : Candidate) × (best_from (first + 1) (Some d) more ≡ Some c)) → ((c : Candidate) × (best_from (first + 1) (Some (member first tail)) more ≡ Some c)) → (c : Candidate) × (best_from first (Some d) (Some tail ∷ more) ≡ Some c)
    stays_by true is old new = (new.0, ap (λ (x : Option Candidate). best_from (first + 1) x more) (chosen true first d tail is) ∙ new.1)
    stays_by false is old new = (old.0, ap (λ (x : Option Candidate). best_from (first + 1) x more) (chosen false first d tail is) ∙ old.1)

-- where there is no best, nobody told
nobody : (told : List (Option Tail)) (first : ℕ) → best_from first None told ≡ None → (k : ℕ) (t : Tail) → Told first told k t → ⊥
nobody [] first is k t h = h
nobody (None ∷ more) first is k t h = elim h as (λ _. ⊥) [ inl p ↦ none_told t p.1 | inr q ↦ nobody more (first + 1) is k t q ]
nobody (Some tail ∷ more) first is k t h =
    let some = stays_some more (first + 1) (member first tail) in some_not_none some.0 (sym some.1 ∙ is)

-- the best of those that told, and of one from before that is earlier than they
wins : (told : List (Option Tail)) (first : ℕ) (best : Option Candidate) (c : Candidate) → Earlier first best → best_from first best told ≡ Some c → Wins first best told c
wins [] first best c early is = record {
  from = inl is;
  over_best = λ d was. same_candidate c d (some_is c d (sym is ∙ was));
  over_told = λ k t h. absurd h;
}
  where
    same_candidate : (c d : Candidate) → c ≡ d → GoesBefore c.number c.tail d.number d.tail
    same_candidate c d same = subst (λ (x : Candidate). GoesBefore c.number c.tail x.number x.tail) same (goes_itself c.number c.tail)
wins (None ∷ more) first best c early is = skips first best more c (wins more (first + 1) best c (later first best early) is)
wins (Some tail ∷ more) first None c early is =
    takes first None tail more c (none_before tail) (wins more (first + 1) (Some (member first tail)) c (new_earlier first tail) is)
wins (Some tail ∷ more) first (Some d) c early is =
    by_choice (is_behind d.tail tail) first d tail more c refl (early d refl) is (λ best e q. wins more (first + 1) best c e q)

-- a candidate, where there is one, is the leader
leader_by : (told : List (Option Tail)) (best : Option Candidate) → best_from 1 None told ≡ best → (k : ℕ) (t : Tail) → Told 1 told k t → IsLeader told (number_of best)
leader_by told None is k t h = absurd (nobody told 1 is k t h)
leader_by told (Some c) is k t h =
    let w = wins told 1 None c (λ d was. absurd (none_is d was)) is in
    record { tail = c.tail; told_it = elim w.from as (λ _. Told 1 told c.number c.tail) [ inl was ↦ absurd (none_is c was) | inr q ↦ q ]; first = w.over_told }

-- where a member told its tail, the leader is right
pub is_leader : (told : List (Option Tail)) (k : ℕ) (t : Tail) → Told 1 told k t → IsLeader told (leader_of told)
is_leader told k t h = leader_by told (best_from 1 None told) refl k t h

-- where members told, one of them did
some_told : (told : List (Option Tail)) (first : ℕ) → 0 < repliers told → (k : ℕ) × (t : Tail) × Told first told k t
some_told [] first some = absurd (omega (arith, some))
some_told (None ∷ more) first some = let it = some_told more (first + 1) (omega (arith, some)) in (it.0, it.1, inr it.2)
some_told (Some tail ∷ more) first some = (first, tail, inl (refl, refl))

-- what holds of the answer
abbrev Rightly : Hears → Type 0
Rightly h = IfOpened h.state h.answer

either : (b : Bool) (x y : Hears) → (b ≡ true → Rightly x) → Rightly y → Rightly (if b then x else y)
either true x y p q = p refl
either false x y p q = q

many_are : (members n : ℕ) → is_majority members n ≡ true → members < 2 * n
many_are members n many = grind arith

counts : (c : CoordinatorState) → Rightly (counted c)
counts c = either (is_majority c.members (repliers c.told)) (hears (record c { phase = Running (leader_of c.told) }) (did.Opened c.epoch (leader_of c.told) (electors_of c.told))) (hears c did.Nothing) (λ many. opens (majority many)) tt
  where
    majority : is_majority c.members (repliers c.told) ≡ true → c.members < 2 * repliers c.told
    majority many = many_are c.members (repliers c.told) many

    opens : c.members < 2 * repliers c.told → OpensRightly (record c { phase = Running (leader_of c.told) }) c.epoch (leader_of c.told) (electors_of c.told)
    opens many =
        let it = some_told c.told 1 (omega (arith, many)) in
        record { epoch_is = refl; chosen = is_leader c.told it.0 it.1 it.2; majority = many; electors_are = refl }

in_epoch : (phase : Phase) (from : ℕ) (tail : Tail) (c : CoordinatorState) → Rightly (told_in_epoch phase from tail c)
in_epoch Idle from tail c = tt
in_epoch Electing from tail c = counts (record c { told = tell from tail c.told })
in_epoch (Running leader) from tail c = tt

before : (phase : Phase) (from : ℕ) (c : CoordinatorState) → Rightly (told_before phase from c)
before Idle from c = tt
before Electing from c = tt
before (Running leader) from c = tt

abbrev of_now : ℕ → ℕ → Tail → CoordinatorState → Hears
of_now epoch from tail c = if epoch == c.epoch then told_in_epoch c.phase from tail c else hears c did.Nothing

abbrev not_ignored : ℕ → ℕ → Tail → CoordinatorState → Hears
not_ignored epoch from tail c = if nat_lt epoch c.epoch then told_before c.phase from c else of_now epoch from tail c

rightly_by : (job : Option ℕ) (epoch from : ℕ) (tail : Tail) (c : CoordinatorState) → Rightly (stopped_by job epoch from tail c)
rightly_by (Some next) epoch from tail c = tt
rightly_by None epoch from tail c =
    either (not (is_another c.members 0 from)) (hears c did.Nothing) (not_ignored epoch from tail c) (λ _. tt)
    (either (nat_lt epoch c.epoch) (told_before c.phase from c) (of_now epoch from tail c) (λ _. before c.phase from c)
    (either (epoch == c.epoch) (told_in_epoch c.phase from tail c) (hears c did.Nothing) (λ _. in_epoch c.phase from tail c) tt))

-- an epoch is opened rightly, whenever one is
pub rightly : (epoch from : ℕ) (tail : Tail) (c : CoordinatorState) → IfOpened (stopped epoch from tail c).state (stopped epoch from tail c).answer
rightly epoch from tail c = rightly_by c.job epoch from tail c
