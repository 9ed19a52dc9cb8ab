-- What the code does to a group, as the events of a stream.
use Rattle.std.proofs.Common.{◌≡◌, ◌≤◌, ◌<◌, ◌&&◌, ◌==◌, ℕ, zero, suc, Bool, true, false, cond, nat_lt, List, [], ◌∷◌, length, Some, None, is_some, slice_set, slice_index_or, refl, sym, ap, subst, ◌∙◌, arith}
use Rattle.chunk_format.specs.declared.chunk.Chunk.{Chunk}
use Rattle.epoch_coordinator.specs.Members.{Stopped}
use Rattle.epoch_coordinator.specs.Coordinators.{CoordinatorState, elect}
use Rattle.replication_laws.specs.Cluster.{ClusterState, Seat, nobody, last_number, letter_in, without, Letter}
use Rattle.cluster_core.specs.declared.mail.Numbered.{Numbered}
use Rattle.cluster_core.specs.declared.outcome.Outcome.{Outcome}
use Rattle.cluster_core.specs.declared.outcome.Outcome.TheVariants.{Did, Nothing, Later, Last}
use Rattle.cluster_core.specs.Parts.{lettered}
use Rattle.cluster_core.specs.Up.{is_up}
use Rattle.cluster_core.specs.States.{ReplicaState, Gives, cluster_of, state_of, elect_due, lose_by, lose_due, stop_due}
use Rattle.cluster_core.specs.Kept.{after_elect, after_lose, after_stop}

-- ---- an election

no_number : (a b : ℕ) → (a ≡ b → ⊥) → (a == b) ≡ false
no_number a b ne = grind arith

is_number : (a b : ℕ) → a ≡ b → (a == b) ≡ true
is_number a b e = grind arith

did_by : (job last : Bool) (e : ℕ) → job ≡ false → last ≡ false → cond {A = Outcome} job (Later 0) (cond {A = Outcome} last (Last e) Did) ≡ Did
did_by false false e p q = refl
did_by false true e p q = absurd (cc q)
did_by true last e p q = absurd (cc p)

last_by : (job last : Bool) (e : ℕ) → job ≡ false → last ≡ true → cond {A = Outcome} job (Later 0) (cond {A = Outcome} last (Last e) Did) ≡ Last e
last_by false true e p q = refl
last_by false false e p q = absurd (cc q)
last_by true last e p q = absurd (cc p)

later_by : (job : Bool) (other : Outcome) → job ≡ true → cond {A = Outcome} job (Later 0) other ≡ Later 0
later_by true other p = refl
later_by false other p = absurd (cc p)

pub elect_down : (seats : List Seat) (up : Bool) (c : CoordinatorState) (mail : List Numbered) (last : ℕ) (committed : List Chunk) → up ≡ false → elect_due (cluster_of seats up c mail last committed) ≡ Nothing
elect_down seats false c mail last committed u = refl
elect_down seats true c mail last committed u = absurd (cc u)

pub elect_busy : (seats : List Seat) (up : Bool) (c : CoordinatorState) (mail : List Numbered) (last : ℕ) (committed : List Chunk) → up ≡ true → is_some c.job ≡ true → elect_due (cluster_of seats up c mail last committed) ≡ Later 0
elect_busy seats false c mail last committed u j = absurd (cc u)
elect_busy seats true c mail last committed u j = later_by (is_some c.job) (cond {A = Outcome} (c.epoch == last_number) (Last c.epoch) Did) j

pub elect_last : (seats : List Seat) (up : Bool) (c : CoordinatorState) (mail : List Numbered) (last : ℕ) (committed : List Chunk) → up ≡ true → is_some c.job ≡ false → c.epoch ≡ last_number → elect_due (cluster_of seats up c mail last committed) ≡ Last c.epoch
elect_last seats false c mail last committed u j e = absurd (cc u)
elect_last seats true c mail last committed u j e = last_by (is_some c.job) (c.epoch == last_number) c.epoch j (is_number c.epoch last_number e)

pub elect_did : (seats : List Seat) (up : Bool) (c c' : CoordinatorState) (mail : List Numbered) (last : ℕ) (committed : List Chunk) (numbers : List ℕ) → up ≡ true → is_some c.job ≡ false → (c.epoch ≡ last_number → ⊥) → c' ≡ (elect c).state
    → (elect_due (cluster_of seats up c mail last committed) ≡ Did) × (state_of seats up c' mail last committed numbers ≡ after_elect (state_of seats up c mail last committed numbers))
elect_did seats false c c' mail last committed numbers u j ne e = absurd (cc u)
elect_did seats true c c' mail last committed numbers u j ne e =
    (did_by (is_some c.job) (c.epoch == last_number) c.epoch j (no_number c.epoch last_number ne), ap (λ (x : CoordinatorState). state_of seats true x mail last committed numbers) e)

-- ---- a loss

pub lose_none : (number : ℕ) (w : ClusterState) → letter_in number w.mail ≡ None → lose_due number w ≡ Nothing
lose_none number w e = ap lose_by e

pub lose_did : (number : ℕ) (seats : List Seat) (up : Bool) (c : CoordinatorState) (mail mail' : List Numbered) (last : ℕ) (committed : List Chunk) (numbers : List ℕ) (n : Numbered) → letter_in number (lettered mail) ≡ Some n.sent → lettered mail' ≡ without number (lettered mail)
    → (lose_due number (cluster_of seats up c mail last committed) ≡ Did) × (state_of seats up c mail' last committed numbers ≡ after_lose number (state_of seats up c mail last committed numbers))
lose_did number seats up c mail mail' last committed numbers n there e =
    (ap lose_by there, ap (λ (m : List Letter). record { cluster = record (cluster_of seats up c mail last committed) { mail = m }; numbers = numbers }) e)

-- ---- stops

same_item : {A : Type 0} (xs : List A) (at : ℕ) (x d : A) → at < length xs → x ≡ slice_index_or xs at x → slice_index_or xs at d ≡ x
same_item [] at x d lt e = absurd (omega (arith, lt))
same_item (y ∷ xs) zero x d lt e = sym e
same_item (y ∷ xs) (suc at) x d lt e = same_item xs at x d (omega (arith, lt)) e

is_less : (a b : ℕ) → a < b → nat_lt a b ≡ true
is_less a b lt = grind arith

not_less : (a b : ℕ) → b ≤ a → nat_lt a b ≡ false
not_less a b le = grind arith

both : (a b : Bool) → a ≡ true → b ≡ true → (a && b) ≡ true
both a b p q = rw p q

first_false : (a b : Bool) → a ≡ false → (a && b) ≡ false
first_false a b p = rw p

second_false : (a b : Bool) → b ≡ false → (a && b) ≡ false
second_false true b p = p
second_false false b p = refl

due_of : (b : Bool) → b ≡ true → cond {A = Outcome} b Did Nothing ≡ Did
due_of b p = rw p

none_of : (b : Bool) → b ≡ false → cond {A = Outcome} b Did Nothing ≡ Nothing
none_of b p = rw p

pub stop_out : (w : ClusterState) (at : ℕ) → length w.seats ≤ at → stop_due (suc at) w ≡ Nothing
stop_out w at le = none_of (is_up w (suc at)) (first_false (nat_lt at (length w.seats)) (slice_index_or w.seats at nobody).up (not_less at (length w.seats) le))

pub stop_down : (w : ClusterState) (at : ℕ) (x : Seat) → at < length w.seats → x ≡ slice_index_or w.seats at x → x.up ≡ false → stop_due (suc at) w ≡ Nothing
stop_down w at x lt e down =
    none_of (is_up w (suc at)) (second_false (nat_lt at (length w.seats)) (slice_index_or w.seats at nobody).up (ap (λ (s : Seat). s.up) (same_item w.seats at x nobody lt e) ∙ down))

pub stop_did : (seats : List Seat) (up : Bool) (c : CoordinatorState) (mail : List Numbered) (last : ℕ) (committed : List Chunk) (numbers : List ℕ) (at : ℕ) (x : Seat) → at < length seats → x ≡ slice_index_or seats at x → x.up ≡ true
    → (stop_due (suc at) (cluster_of seats up c mail last committed) ≡ Did)
    × (state_of (slice_set seats at (record { up = false; state = record x.state { role = Stopped } })) up c mail last committed numbers ≡ after_stop (suc at) (state_of seats up c mail last committed numbers))
stop_did seats up c mail last committed numbers at x lt e is_up_there =
    let same = same_item seats at x nobody lt e in
    let w = cluster_of seats up c mail last committed in (
      due_of (is_up w (suc at)) (both (nat_lt at (length seats)) (slice_index_or seats at nobody).up (is_less at (length seats) lt) (ap (λ (s : Seat). s.up) same ∙ is_up_there)),
      ap (λ (s : Seat). state_of (slice_set seats at (record { up = false; state = record s.state { role = Stopped } })) up c mail last committed numbers) (sym same),
    )

pub stop_first : (seats : List Seat) (up : Bool) (c : CoordinatorState) (mail : List Numbered) (last : ℕ) (committed : List Chunk) (numbers : List ℕ) → up ≡ true
    → (stop_due 0 (cluster_of seats up c mail last committed) ≡ Did) × (state_of seats false c mail last committed numbers ≡ after_stop 0 (state_of seats up c mail last committed numbers))
stop_first seats up c mail last committed numbers u = (due_of up u, refl)

pub stop_none : (seats : List Seat) (up : Bool) (c : CoordinatorState) (mail : List Numbered) (last : ℕ) (committed : List Chunk) → up ≡ false → stop_due 0 (cluster_of seats up c mail last committed) ≡ Nothing
stop_none seats up c mail last committed u = none_of up u

-- the same for another number of a member
pub at_number : (j k : ℕ) (result : Outcome) (old new : ReplicaState) → j ≡ k → Gives (stop_due j old.cluster) result old new (after_stop j old) → Gives (stop_due k old.cluster) result old new (after_stop k old)
at_number j k result old new e g = subst (λ (n : ℕ). Gives (stop_due n old.cluster) result old new (after_stop n old)) e g
