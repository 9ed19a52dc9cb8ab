-- What the walks over a log find: its runs, the chunk at an offset, the place of a cut, and the end of a commit.
use Rattle.std.proofs.Common.{◌≡◌, ℕ, ◌≤◌, ◌<◌, ◌⊎◌, List, [], ◌∷◌, ◌++◌, refl, sym, ap, subst, ◌∙◌, append_assoc, inl, inr, arith, Some, Bool, true, false, cond}
use Rattle.std.specs.Prelude.{◌&&◌, ◌||◌, ◌==◌, nat_le}
use Rattle.std.proofs.lemmas.List.{append-nil}
use Rattle.std.proofs.lemmas.List.Elements.{filter-append}
use Rattle.chunk_format.specs.declared.chunk.Chunk.{Chunk}
use Rattle.chunk_format.specs.Chunks.{end_of_chunk}
use Rattle.chunk_format.specs.Logs.{GoesOn, end_from, end_of, last_epoch, Linked, IsLog, HasRun}
use Rattle.chunk_format.proofs.LinkLaws.{end_push, epoch_push, linked_front, linked_behind, chunk_goes_on, end_past}
use Rattle.chunk_format.proofs.BeginLaws.{goes_same, goes_push, goes_push_cases}
use Rattle.epoch_coordinator.specs.declared.tail.Tail.{Tail}
use Rattle.epoch_coordinator.specs.declared.tail.Run.{Run}
use Rattle.epoch_coordinator.specs.Tails.{before_runs, runs_of, has_run, contains}
use Rattle.epoch_coordinator.specs.Members.{Leading, MemberState}
use Rattle.epoch_coordinator.specs.MemberSteps.{chunk_from, tail_after, kept_from, kept_end, cut_at, majority_has, commit_from}
use Rattle.replication_laws.specs.Cluster.{InRuns}
use Rattle.replication_laws.proofs.Logs.{goes_none, front_end}

-- ---- tests

pub or_cases : (a b : Bool) → (a || b) ≡ true → (a ≡ true) ⊎ (b ≡ true)
or_cases true b h = inl refl
or_cases false b h = inr h

pub or_left : (a b : Bool) → a ≡ true → (a || b) ≡ true
or_left true b h = refl
or_left false b h = absurd cc

pub or_right : (a b : Bool) → b ≡ true → (a || b) ≡ true
or_right true b h = refl
or_right false b h = h

-- a run reaches a tail
abbrev pub reaches_tail : Run → Tail → Bool
reaches_tail run tail = (run.epoch == tail.epoch) && nat_le tail.end run.end

reach_epoch : (run : Run) (tail : Tail) → reaches_tail run tail ≡ true → run.epoch ≡ tail.epoch
reach_epoch run tail h = grind arith

reach_end : (run : Run) (tail : Tail) → reaches_tail run tail ≡ true → tail.end ≤ run.end
reach_end run tail h = grind arith

reach_made : (run : Run) (tail : Tail) → run.epoch ≡ tail.epoch → tail.end ≤ run.end → reaches_tail run tail ≡ true
reach_made run tail e h = grind arith

-- ---- runs

-- the first run ends at an offset or later
abbrev FirstEnds : ℕ → List Run → Type 0
FirstEnds at [] = Unit {0}
FirstEnds at (r ∷ rs) = at ≤ r.end

first_ends : (at epoch : ℕ) (log : List Chunk) → Linked at epoch log → FirstEnds at (runs_of log)
first_ends at epoch [] l = tt
first_ends at epoch (c ∷ log) l = go (runs_of log) (first_ends (end_of_chunk c) c.epoch log l.behind)
  where
    run : Run
    run = record { epoch = c.epoch; end = end_of_chunk c }

    up : at ≤ end_of_chunk c
    up = let b = l.begins in let g = chunk_goes_on c l.is in omega arith

    go : (rs : List Run) → FirstEnds (end_of_chunk c) rs → FirstEnds at (before_runs run rs)
    go [] h = up
    go (next ∷ more) h = by (run.epoch == next.epoch)
      where
        by : (b : Bool) → FirstEnds at (cond b (next ∷ more) (run ∷ next ∷ more))
        by true = omega (arith, h, up)
        by false = up

-- one run more
before_to : (run : Run) (rs : List Run) (t : Tail) → has_run (before_runs run rs) t ≡ true → (reaches_tail run t ≡ true) ⊎ (has_run rs t ≡ true)
before_to run [] t h = or_cases (reaches_tail run t) false h
before_to run (next ∷ more) t h = by (run.epoch == next.epoch) h
  where
    by : (b : Bool) → has_run (cond b (next ∷ more) (run ∷ next ∷ more)) t ≡ true → (reaches_tail run t ≡ true) ⊎ (has_run (next ∷ more) t ≡ true)
    by true x = inr x
    by false x = or_cases (reaches_tail run t) (has_run (next ∷ more) t) x

eq_by : (a b : ℕ) → (a == b) ≡ true → a ≡ b
eq_by a b h = grind arith

before_from : (run : Run) (rs : List Run) (t : Tail) → FirstEnds run.end rs → (reaches_tail run t ≡ true) ⊎ (has_run rs t ≡ true) → has_run (before_runs run rs) t ≡ true
before_from run [] t f (inl h) = or_left (reaches_tail run t) false h
before_from run [] t f (inr h) = absurd cc
before_from run (next ∷ more) t f h = by (run.epoch == next.epoch) refl h
  where
    by : (b : Bool) → (run.epoch == next.epoch) ≡ b → (reaches_tail run t ≡ true) ⊎ (has_run (next ∷ more) t ≡ true) → has_run (cond b (next ∷ more) (run ∷ next ∷ more)) t ≡ true
    by true e (inl x) =
        let same = eq_by run.epoch next.epoch e in
        let at = reach_epoch run t x in
        let low = reach_end run t x in
        or_left (reaches_tail next t) (has_run more t) (reach_made next t (omega (arith, same, at)) (omega (arith, low, f)))
    by true e (inr x) = x
    by false e (inl x) = or_left (reaches_tail run t) (has_run (next ∷ more) t) x
    by false e (inr x) = or_right (reaches_tail run t) (has_run (next ∷ more) t) x

-- the runs of a log are what it reaches
pub runs_to : (t : Tail) (at epoch : ℕ) (log : List Chunk) → Linked at epoch log → has_run (runs_of log) t ≡ true → HasRun log t.epoch t.end
runs_to t at epoch [] l h = absurd cc
runs_to t at epoch (c ∷ log) l h =
    let run : Run = record { epoch = c.epoch; end = end_of_chunk c } in
    elim (before_to run (runs_of log) t h) [
      | inl x ↦ inl (reach_epoch run t x, reach_end run t x)
      | inr x ↦ inr (runs_to t (end_of_chunk c) c.epoch log l.behind x)
    ]

pub runs_from : (t : Tail) (at epoch : ℕ) (log : List Chunk) → Linked at epoch log → HasRun log t.epoch t.end → has_run (runs_of log) t ≡ true
runs_from t at epoch [] l h = absurd h
runs_from t at epoch (c ∷ log) l (inl h) =
    let run : Run = record { epoch = c.epoch; end = end_of_chunk c } in
    before_from run (runs_of log) t (first_ends (end_of_chunk c) c.epoch log l.behind) (inl (reach_made run t h.0 h.1))
runs_from t at epoch (c ∷ log) l (inr h) =
    let run : Run = record { epoch = c.epoch; end = end_of_chunk c } in
    before_from run (runs_of log) t (first_ends (end_of_chunk c) c.epoch log l.behind) (inr (runs_from t (end_of_chunk c) c.epoch log l.behind h))

-- runs contain a tail that they reach, or that of no chunks
pub contained : (runs : List Run) (t : Tail) → contains runs t ≡ true → ((t.epoch ≡ 0) × (t.end ≡ 0)) ⊎ InRuns runs t.epoch t.end
contained runs t h = elim (or_cases ((t.epoch == 0) && (t.end == 0)) (has_run runs t) h) [
  | inl x ↦ inl (zero_epoch t x, zero_end t x)
  | inr x ↦ inr x
]
  where
    zero_epoch : (t : Tail) → ((t.epoch == 0) && (t.end == 0)) ≡ true → t.epoch ≡ 0
    zero_epoch t x = grind arith

    zero_end : (t : Tail) → ((t.epoch == 0) && (t.end == 0)) ≡ true → t.end ≡ 0
    zero_end t x = grind arith

-- ---- the chunk at an offset

pub record At (offset : ℕ) (log : List Chunk) (c : Chunk) : Type 0 where
  pub front : List Chunk
  pub rest : List Chunk
  pub parts : log ≡ (front ++ c ∷ []) ++ rest
  pub first : c.first ≡ offset

pub found_at : (offset : ℕ) (log : List Chunk) (c : Chunk) → chunk_from offset log ≡ Some c → At offset log c
found_at offset [] c h = absurd cc
found_at offset (d ∷ log) c h = by (d.first == offset) refl h (found_at offset log c)
  where
    by : (b : Bool) → (d.first == offset) ≡ b → cond b (Some d) (chunk_from offset log) ≡ Some c → (chunk_from offset log ≡ Some c → At offset log c) → At offset (d ∷ log) c
    by true e x on = let same : d ≡ c = cc in record { front = []; rest = log; parts = ap (λ (z : Chunk). z ∷ log) same; first = ap (λ (z : Chunk). z.first) (sym same) ∙ eq_by d.first offset e }
    by false e x on = let more = on x in record { front = d ∷ more.front; rest = more.rest; parts = ap (λ (l : List Chunk). d ∷ l) more.parts; first = more.first }

-- ---- the place of a cut

-- a beginning that ends at this offset, and no longer one has a tail that the runs contain
pub record KeptAt (runs : List Run) (log : List Chunk) (end : ℕ) : Type 0 where
  pub front : List Chunk
  pub begins : GoesOn front log
  pub end_is : end_of front ≡ end
  pub longest : (q : List Chunk) → GoesOn q log → InRuns runs (last_epoch q) (end_of q) → end_of q ≤ end_of front

kept_by : (runs : List Run) (rest done best : List Chunk) → IsLog (done ++ rest) → GoesOn best done
    → ((q : List Chunk) → GoesOn q done → InRuns runs (last_epoch q) (end_of q) → end_of q ≤ end_of best)
    → KeptAt runs (done ++ rest) (kept_from (end_of best) runs rest)
kept_by runs [] done best is p long = record {
  front = best;
  begins = subst (GoesOn best) (sym (append-nil done)) p;
  end_is = refl;
  longest = λ q x. long q (subst (GoesOn q) (append-nil done) x);
}
kept_by runs (c ∷ cs) done best is p long = by (contains runs (tail_after c)) refl (λ front l q far. kept_by runs cs (done ++ c ∷ []) front l q far)
  where
    next : List Chunk
    next = done ++ c ∷ []

    same : next ++ cs ≡ done ++ c ∷ cs
    same = append_assoc done (c ∷ []) cs

    whole : IsLog (next ++ cs)
    whole = subst IsLog (sym same) is

    is_next : IsLog next
    is_next = linked_front 0 0 next cs whole

    end : end_of next ≡ end_of_chunk c
    end = end_push done c

    last : last_epoch next ≡ c.epoch
    last = epoch_push done c

    reached : InRuns runs (last_epoch next) (end_of next) → contains runs (tail_after c) ≡ true
    reached x = or_right ((c.epoch == 0) && (end_of_chunk c == 0)) (has_run runs (tail_after c)) (rw (last, end) at x)

    by : (b : Bool) → contains runs (tail_after c) ≡ b
        → ((front : List Chunk) → IsLog ((done ++ c ∷ []) ++ cs) → GoesOn front (done ++ c ∷ [])
        → ((q : List Chunk) → GoesOn q (done ++ c ∷ []) → InRuns runs (last_epoch q) (end_of q) → end_of q ≤ end_of front)
        → KeptAt runs ((done ++ c ∷ []) ++ cs) (kept_from (end_of front) runs cs))
        → KeptAt runs (done ++ c ∷ cs) (kept_from (cond b (end_of_chunk c) (end_of best)) runs cs)
    by true e again =
        subst (λ (l : List Chunk). KeptAt runs l (kept_from (end_of_chunk c) runs cs)) same
        (subst (λ (n : ℕ). KeptAt runs (next ++ cs) (kept_from n runs cs)) end
        (again next whole (goes_same next) (λ q x y. front_end q next x is_next)))
    by false e again =
        subst (λ (l : List Chunk). KeptAt runs l (kept_from (end_of best) runs cs)) same
        (again best whole (goes_push best done c p) (λ q x y. elim (goes_push_cases q done c x) [
          | inl z ↦ long q z y
          | inr z ↦ (let at : InRuns runs (last_epoch next) (end_of next) = subst (λ (l : List Chunk). InRuns runs (last_epoch l) (end_of l)) z y in
              let both : true ≡ false = sym (reached at) ∙ e in absurd cc)
        ]))

pub kept_at : (runs : List Run) (log : List Chunk) → IsLog log → KeptAt runs log (kept_end runs log)
kept_at runs log is = kept_by runs log [] [] is (goes_none []) (λ q x y. front_end q [] x tt)

-- ---- a cut

le_by : (a b : ℕ) → a ≤ b → nat_le a b ≡ true
le_by a b h = grind arith

gt_by : (a b : ℕ) → b < a → nat_le a b ≡ false
gt_by a b h = grind arith

within : (n at epoch : ℕ) (p : List Chunk) → Linked at epoch p → end_from at p ≤ n → cut_at n p ≡ p
within n at epoch [] l h = refl
within n at epoch (c ∷ cs) l h =
    let past = end_past (end_of_chunk c) c.epoch cs l.behind in
    let more = within n (end_of_chunk c) c.epoch cs l.behind h in
    ap (λ (b : Bool). cond b (c ∷ cut_at n cs) (cut_at n cs)) (le_by (end_of_chunk c) n (omega (arith, past, h))) ∙ ap (λ (l : List Chunk). c ∷ l) more

beyond : (n at epoch : ℕ) (q : List Chunk) → Linked at epoch q → n ≤ at → cut_at n q ≡ []
beyond n at epoch [] l h = refl
beyond n at epoch (c ∷ cs) l h =
    let b = l.begins in
    let goes = chunk_goes_on c l.is in
    let more = beyond n (end_of_chunk c) c.epoch cs l.behind (omega (arith, b, goes, h)) in
    ap (λ (b : Bool). cond b (c ∷ cut_at n cs) (cut_at n cs)) (gt_by (end_of_chunk c) n (omega (arith, b, goes, h))) ∙ more

-- a log is cut at the end of a beginning to that beginning
pub cut_front : (front log : List Chunk) → GoesOn front log → IsLog log → cut_at (end_of front) log ≡ front
cut_front front log p is =
    let l : IsLog (front ++ p.0) = subst IsLog p.1 is in
    ap (cut_at (end_of front)) p.1
    ∙ filter-append (λ (c : Chunk). nat_le (end_of_chunk c) (end_of front)) front p.0
    ∙ ap (λ (x : List Chunk). x ++ cut_at (end_of front) p.0) (within (end_of front) 0 0 front (linked_front 0 0 front p.0 l) (omega arith))
    ∙ ap (λ (x : List Chunk). front ++ x) (beyond (end_of front) (end_of front) (last_epoch front) p.0 (linked_behind 0 0 front p.0 l) (omega arith))
    ∙ append-nil front

-- ---- the end of a commit

-- a beginning that ends there: it has no chunks, or its last one is of the leader's epoch and a majority has it
pub record CommitAt (m : MemberState) (l : Leading) (log : List Chunk) (end : ℕ) : Type 0 where
  pub front : List Chunk
  pub begins : GoesOn front log
  pub end_is : end_of front ≡ end
  pub due : (front ≡ []) ⊎ ((last_epoch front ≡ m.promise) × (majority_has m.members (end_of front) l ≡ true))

both_first : (a b : Bool) → (a && b) ≡ true → a ≡ true
both_first true b h = refl
both_first false b h = absurd cc

both_second : (a b : Bool) → (a && b) ≡ true → b ≡ true
both_second true b h = h
both_second false b h = absurd cc

commit_by_chunks : (m : MemberState) (l : Leading) (rest done : List Chunk) (front : List Chunk) → IsLog (done ++ rest) → GoesOn front done
    → (front ≡ []) ⊎ ((last_epoch front ≡ m.promise) × (majority_has m.members (end_of front) l ≡ true))
    → CommitAt m l (done ++ rest) (commit_from (end_of front) m l rest)
commit_by_chunks m l [] done front is p due = record { front = front; begins = subst (GoesOn front) (sym (append-nil done)) p; end_is = refl; due = due }
commit_by_chunks m l (c ∷ cs) done front is p due = by ((c.epoch == m.promise) && majority_has m.members (end_of_chunk c) l) refl (λ best whole q d. commit_by_chunks m l cs (done ++ c ∷ []) best whole q d)
  where
    next : List Chunk
    next = done ++ c ∷ []

    same : next ++ cs ≡ done ++ c ∷ cs
    same = append_assoc done (c ∷ []) cs

    whole : IsLog (next ++ cs)
    whole = subst IsLog (sym same) is

    end : end_of next ≡ end_of_chunk c
    end = end_push done c

    by : (b : Bool) → ((c.epoch == m.promise) && majority_has m.members (end_of_chunk c) l) ≡ b
        → ((best : List Chunk) → IsLog ((done ++ c ∷ []) ++ cs) → GoesOn best (done ++ c ∷ [])
        → (best ≡ []) ⊎ ((last_epoch best ≡ m.promise) × (majority_has m.members (end_of best) l ≡ true))
        → CommitAt m l ((done ++ c ∷ []) ++ cs) (commit_from (end_of best) m l cs))
        → CommitAt m l (done ++ c ∷ cs) (commit_from (cond b (end_of_chunk c) (end_of front)) m l cs)
    by true e again =
        subst (λ (x : List Chunk). CommitAt m l x (commit_from (end_of_chunk c) m l cs)) same
        (subst (λ (n : ℕ). CommitAt m l (next ++ cs) (commit_from n m l cs)) end
        (again next whole (goes_same next)
        (inr (
          epoch_push done c ∙ eq_by c.epoch m.promise (both_first (c.epoch == m.promise) (majority_has m.members (end_of_chunk c) l) e),
          subst (λ (n : ℕ). majority_has m.members n l ≡ true) (sym end) (both_second (c.epoch == m.promise) (majority_has m.members (end_of_chunk c) l) e),
        ))))
    by false e again =
        subst (λ (x : List Chunk). CommitAt m l x (commit_from (end_of front) m l cs)) same
        (again front whole (goes_push front done c p) due)

pub commit_at : (m : MemberState) (l : Leading) → IsLog m.log → CommitAt m l m.log (commit_from 0 m l m.log)
commit_at m l is = commit_by_chunks m l m.log [] [] is (goes_none []) (inl refl)
