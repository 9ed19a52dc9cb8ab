-- Runs on literals, and what three other rules would lose.
use Rattle.std.proofs.Common.{◌≡◌, ℕ, ◌<◌, ◌≤◌, ◌⊎◌, List, [], ◌∷◌, length, length-append, refl, sym, ap, subst, inl, inr, arith, Option, Some, None, Bool, true, false, zero, suc}
use Rattle.std.specs.Prelude.{◌&&◌, nat_lt, is_none}
use Rattle.chunk_format.specs.declared.chunk.Chunk.{Chunk}
use Rattle.chunk_format.specs.Logs.{GoesOn, end_of, last_epoch}
use Rattle.chunk_format.proofs.BeginLaws.{goes_same}
use Rattle.frame_wire.specs.Fields as fields
use Rattle.epoch_coordinator.specs.declared.message.Sent.{Sent}
use Rattle.epoch_coordinator.specs.declared.message.Message.TheVariants as messages
use Rattle.epoch_coordinator.specs.MemberSteps.{mail}
use Rattle.epoch_coordinator.specs.Scripts.{Act, Elects, Does, Delivers, Restarts}
use Rattle.replication_laws.specs.Majorities.{IsMajority, is_voter}
use Rattle.replication_laws.specs.Cluster.{ClusterState, seat, member, last_number, letter_in}
use Rattle.replication_laws.specs.Events.{IsUp, IsFree, Elect, Deliver, Done}
use Rattle.replication_laws.specs.Openings.{start_at, Begins, IsWhole}
use Rattle.replication_laws.specs.Soundness.{Kept, IsSound}
use Rattle.replication_laws.specs.Literals.{acts, acted, is_up, has_no_job, is_due, is_due_by, all_due, delivered, first_chunk, first_start, three, wrote_alone, commits_alone, sent_older, older_tail, commits_older, caught_up, told_runs, cut_by}
use Rattle.replication_laws.proofs.Logs.{log_push}
use Rattle.replication_laws.proofs.Takings.{both_are, opening_follows}
use Rattle.replication_laws.proofs.Starts.{start_sound}
use Rattle.replication_laws.proofs.Joined.{event_sound}

lt_is : (a b : ℕ) → nat_lt a b ≡ true → a < b
lt_is a b h = grind arith

none_is : {A : Type 0} (o : Option A) → is_none o ≡ true → o ≡ None
none_is None h = refl
none_is (Some x) h = absurd cc

up_is : (w : ClusterState) (k : ℕ) → is_up w k ≡ true → IsUp w k
up_is w zero h = h
up_is w (suc i) h =
    let x = both_are (nat_lt i (length w.seats)) (seat w (suc i)).up h in
    let lt = lt_is i (length w.seats) x.0 in
    ((omega arith, omega (arith, lt)), x.1)

free_is : (w : ClusterState) (k : ℕ) → is_up w k ≡ true → has_no_job w k ≡ true → IsFree w k
free_is w zero h j = (h, none_is w.coordinator.job j)
free_is w (suc i) h j = (up_is w (suc i) h, none_is (member w (suc i)).job j)

act_sound : (o : ℕ) (w : ClusterState) (act : Act) → IsSound o w → is_due act w ≡ true → IsSound o (acts act w)
act_sound o w Elects s h =
    let x = both_are (is_up w 0 && has_no_job w 0) (nat_lt w.coordinator.epoch last_number) h in
    let y = both_are (is_up w 0) (has_no_job w 0) x.0 in
    event_sound o 0 w (acts Elects w) s (Elect (free_is w 0 y.0 y.1) (lt_is w.coordinator.epoch last_number x.1) refl)
act_sound o w (Does k) s h = event_sound o 0 w (acts (Does k) w) s (Done k (up_is w k h) refl)
act_sound o w (Delivers n) s h = go (letter_in n w.mail) refl h
  where
    go : (x : Option Sent) → letter_in n w.mail ≡ x → is_due_by x w ≡ true → IsSound o (delivered n x w)
    go None e t = absurd cc
    go (Some x) e t = (let y = both_are (is_up w x.to) (has_no_job w x.to) t in event_sound o 0 w (delivered n (Some x) w) s (Deliver n x e (free_is w x.to y.0 y.1) refl))
act_sound o w (Restarts k) s h = absurd cc

acted_sound : (o : ℕ) (w : ClusterState) (script : List Act) → IsSound o w → all_due script w ≡ true → IsSound o (acted script w)
acted_sound o w [] s h = s
acted_sound o w (act ∷ more) s h = (let x = both_are (is_due act w) (all_due more (acts act w)) h in acted_sound o (acts act w) more (act_sound o w act s x.0) x.1)

-- ---- the first state

first_whole : IsWhole 1 first_start
first_whole = record { is_log = log_push [] first_chunk tt (opening_follows 1 0 [] tt (omega arith) (omega arith) refl); below = omega arith; not_ahead = omega arith }

each_whole : (i : ℕ) → i < 3 → IsWhole 1 (start_at (first_start ∷ first_start ∷ first_start ∷ []) i)
each_whole zero lt = first_whole
each_whole (suc zero) lt = first_whole
each_whole (suc (suc zero)) lt = first_whole
each_whole (suc (suc (suc i))) lt = absurd (omega (arith, lt))

same_logs : (i : ℕ) → i < 3 → (start_at (first_start ∷ first_start ∷ first_start ∷ []) i).log ≡ first_chunk ∷ []
same_logs zero lt = refl
same_logs (suc zero) lt = refl
same_logs (suc (suc zero)) lt = refl
same_logs (suc (suc (suc i))) lt = absurd (omega (arith, lt))

three_sound : IsSound 1 three
three_sound =
    start_sound 1 (first_start ∷ first_start ∷ first_start ∷ []) (record {
      some = omega arith;
      fits = omega arith;
      whole = each_whole;
      agree = λ i j lt lj. Begins (subst (λ (l : List Chunk). GoesOn l (start_at (first_start ∷ first_start ∷ first_start ∷ []) j).log) (sym (same_logs i (omega (arith, lt, lj)))) (subst (GoesOn (first_chunk ∷ [])) (sym (same_logs j lj)) (goes_same (first_chunk ∷ []))));
    })

pub alone_sound : IsSound 1 (acted wrote_alone three)
alone_sound = acted_sound 1 three wrote_alone three_sound refl

pub older_sound : IsSound 1 (acted sent_older three)
unfolding fields.u32_bytes
older_sound = acted_sound 1 three sent_older three_sound refl

pub caught_sound : IsSound 1 (acted caught_up three)
unfolding fields.u32_bytes
caught_sound = acted_sound 1 three caught_up three_sound refl

-- ---- what would be lost

-- of three flags a majority has one of each two
record TwoOfThree (voters : List Bool) : Type 0 where
  pub second_or_third : (is_voter voters 2 ≡ true) ⊎ (is_voter voters 3 ≡ true)
  pub first_or_third : (is_voter voters 1 ≡ true) ⊎ (is_voter voters 3 ≡ true)

two_of_three : (voters : List Bool) → IsMajority 3 voters → TwoOfThree voters
two_of_three [] m = absurd (let e = m.each in omega (arith, e))
two_of_three (a ∷ []) m = absurd (let e = m.each in omega (arith, e))
two_of_three (a ∷ b ∷ []) m = absurd (let e = m.each in omega (arith, e))
two_of_three (a ∷ b ∷ c ∷ d ∷ more) m = absurd (let e = m.each in omega (arith, e))
two_of_three (a ∷ b ∷ true ∷ []) m = record { second_or_third = inr refl; first_or_third = inr refl }
two_of_three (true ∷ true ∷ false ∷ []) m = record { second_or_third = inl refl; first_or_third = inl refl }
two_of_three (true ∷ false ∷ false ∷ []) m = absurd (let e = m.most in omega (arith, e))
two_of_three (false ∷ true ∷ false ∷ []) m = absurd (let e = m.most in omega (arith, e))
two_of_three (false ∷ false ∷ false ∷ []) m = absurd (let e = m.most in omega (arith, e))

-- two chunks don't begin one
too_long : (a b : List Chunk) → length a ≡ 2 → length b ≡ 1 → GoesOn a b → ⊥
too_long a b two one p = (let e = ap length p.1 in let n = length-append a p.0 in omega (arith, e, n, two, one))

abbrev second_epoch : List Chunk → ℕ
second_epoch [] = 0
second_epoch (x ∷ []) = 0
second_epoch (x ∷ y ∷ l) = y.epoch

-- two chunks don't begin a list whose second chunk is of another epoch
other_epoch : (a b : List Chunk) → second_epoch a ≡ 2 → second_epoch b ≡ 3 → GoesOn a b → ⊥
other_epoch [] b two three p = absurd (omega (arith, two))
other_epoch (x ∷ []) b two three p = absurd (omega (arith, two))
other_epoch (x ∷ y ∷ l) b two three p = (let e : second_epoch b ≡ y.epoch = ap second_epoch p.1 in omega (arith, e, two, three))

abbrev behind_one : List Chunk → List Chunk
behind_one [] = []
behind_one (x ∷ l) = l

pub alone_lost : Kept (acted wrote_alone three) (commits_alone (member (acted wrote_alone three) 1)) → ⊥
alone_lost h =
    let list = commits_alone (member (acted wrote_alone three) 1) in
    elim (two_of_three h.voters h.most).second_or_third [
      | inl v ↦ too_long list (first_chunk ∷ []) refl refl (h.held 2 v (first_chunk ∷ []) refl)
      | inr v ↦ too_long list (first_chunk ∷ []) refl refl (h.held 3 v (first_chunk ∷ []) refl)
    ]

less_by : (n m : ℕ) → n ≡ 2 → m ≡ 3 → n < m
less_by n m p q = omega (arith, p, q)

pub older_lost : Kept (acted sent_older three) (commits_older 3 older_tail (member (acted sent_older three) 1)) → ⊥
unfolding fields.u32_bytes
older_lost h =
    let list = commits_older 3 older_tail (member (acted sent_older three) 1) in
    let log = (member (acted sent_older three) 2).log in
    other_epoch list log refl refl (h.later 2 log refl (less_by (last_epoch list) (last_epoch log) refl refl))

pub older_ask : letter_in 30 (acted sent_older three).mail ≡ Some (mail 1 (messages.Ask 4 3 older_tail))
unfolding fields.u32_bytes
older_ask = refl

pub late_shape : letter_in 22 (acted caught_up three).mail ≡ Some (mail 1 (messages.Shape 3 told_runs))
unfolding fields.u32_bytes
late_shape = refl

at_least : (n : ℕ) → n ≡ 1 → 1 ≤ n
at_least n e = omega (arith, e)

pub shape_lost : Kept (cut_by told_runs (acted caught_up three)) (acted caught_up three).committed → ⊥
unfolding fields.u32_bytes
shape_lost h =
    let list = (acted caught_up three).committed in
    elim (two_of_three h.voters h.most).first_or_third [
      | inl v ↦ too_long list (first_chunk ∷ []) refl refl (h.held 1 v (first_chunk ∷ []) ((behind_one (member (acted caught_up three) 1).log, refl), at_least (end_of (first_chunk ∷ [])) refl))
      | inr v ↦ too_long list (first_chunk ∷ []) refl refl (h.held 3 v (first_chunk ∷ []) refl)
    ]
