-- Runs of a list with one chunk more.
use Rattle.std.proofs.Common.{◌≡◌, ℕ, suc, zero, ◌+◌, ◌-◌, ◌<◌, ◌≤◌, Bool, true, false, List, [], ◌∷◌, ◌++◌, length, take, get_or, set, refl, sym, ap, ◌∙◌, arith}
use Rattle.std.specs.Prelude.{◌&&◌, ◌||◌, ◌==◌}
use Rattle.std.specs.List.{list_any}
use Rattle.std.proofs.lemmas.List.{take_more}
use Rattle.chunk_format.specs.declared.chunk.Chunk.{Chunk}
use Rattle.chunk_format.specs.Chunks.{end_of_chunk}
use Rattle.epoch_coordinator.specs.declared.tail.Run.{Run}
use Rattle.epoch_coordinator.specs.declared.tail.Tail.{Tail}
use Rattle.epoch_coordinator.specs.Tails.{before_runs, runs_of, has_run, contains}
use Rattle.member_core.specs.Kept.{with_run, reaches}

-- the run of one chunk
abbrev pub run_of : Chunk → Run
run_of c = record { epoch = c.epoch; end = end_of_chunk c }

before_with : (first : Run) (runs : List Run) (run : Run) → before_runs first (with_run runs run) ≡ with_run (before_runs first runs) run
before_with first [] run = grind arith
before_with first (x ∷ []) run = by (first.epoch == x.epoch) (x.epoch == run.epoch) refl refl
  where
    by : (a b : Bool) → first.epoch == x.epoch ≡ a → x.epoch == run.epoch ≡ b → before_runs first (with_run (x ∷ []) run) ≡ with_run (before_runs first (x ∷ [])) run
    by a b p q = grind arith
before_with first (x ∷ y ∷ more) run = by (first.epoch == x.epoch) refl
  where
    by : (a : Bool) → first.epoch == x.epoch ≡ a → before_runs first (x ∷ with_run (y ∷ more) run) ≡ with_run (before_runs first (x ∷ y ∷ more)) run
    by true p = rw p refl
    by false p = rw p refl

-- a chunk more adds its run
pub runs_push : (chunks : List Chunk) (c : Chunk) → runs_of (chunks ++ c ∷ []) ≡ with_run (runs_of chunks) (run_of c)
runs_push [] c = refl
runs_push (d ∷ chunks) c = ap (before_runs (run_of d)) (runs_push chunks c) ∙ before_with (run_of d) (runs_of chunks) (run_of c)

pub runs_more : (chunks : List Chunk) (k : ℕ) (c : Chunk) (runs new : List Run) (run : Run) → k < length chunks → c ≡ get_or chunks k c → run.epoch ≡ c.epoch → run.end ≡ end_of_chunk c → runs ≡ runs_of (take k chunks) → new ≡ with_run runs run → new ≡ runs_of (take (k + 1) chunks)
runs_more chunks k c runs new run within is epoch end old added =
    let same : run ≡ run_of c = is_run run c.epoch (end_of_chunk c) epoch end in
    added ∙ ap (λ (r : List Run). with_run r run) old ∙ ap (with_run (runs_of (take k chunks))) same ∙ sym (runs_push (take k chunks) c)
    ∙ ap (λ (x : Chunk). runs_of (take k chunks ++ x ∷ [])) is
    ∙ ap runs_of (sym (take_more chunks k c within))
  where
    is_run : (run : Run) (epoch end : ℕ) → run.epoch ≡ epoch → run.end ≡ end → run ≡ record { epoch = epoch; end = end }
    is_run run epoch end e f = ap (λ (n : ℕ). record run { epoch = n }) e ∙ ap (λ (n : ℕ). record { epoch = epoch; end = n }) f

-- the last run has the epoch of the new one, which takes its place
same_epoch : (runs : List Run) (run d : Run) (n : ℕ) → n + 1 ≡ length runs → (get_or runs n d).epoch ≡ run.epoch → set runs n run ≡ with_run runs run
same_epoch [] run d n len is = absurd (omega arith)
same_epoch (x ∷ []) run d zero len is = replaced x is
  where
    replaced : (x : Run) → x.epoch ≡ run.epoch → set (x ∷ []) zero run ≡ with_run (x ∷ []) run
    replaced x is = grind (arith, is)
same_epoch (x ∷ []) run d (suc n) len is = absurd (omega arith)
same_epoch (x ∷ y ∷ more) run d zero len is = absurd (omega arith)
same_epoch (x ∷ y ∷ more) run d (suc n) len is = ap (λ (l : List Run). x ∷ l) (same_epoch (y ∷ more) run d n (omega arith) is)

-- it has another epoch
other_epoch : (runs : List Run) (run d : Run) (n : ℕ) → n + 1 ≡ length runs → ((get_or runs n d).epoch ≡ run.epoch → ⊥) → runs ++ run ∷ [] ≡ with_run runs run
other_epoch [] run d n len other = refl
other_epoch (x ∷ []) run d zero len other = behind x other
  where
    behind : (x : Run) → (x.epoch ≡ run.epoch → ⊥) → x ∷ run ∷ [] ≡ with_run (x ∷ []) run
    behind x other = grind (arith, other)
other_epoch (x ∷ []) run d (suc n) len other = absurd (omega arith)
other_epoch (x ∷ y ∷ more) run d zero len other = absurd (omega arith)
other_epoch (x ∷ y ∷ more) run d (suc n) len other = ap (λ (l : List Run). x ∷ l) (other_epoch (y ∷ more) run d n (omega arith) other)

pub same_epoch_at : (runs : List Run) (run last : Run) (n : ℕ) → n ≡ length runs → 0 < n → last ≡ get_or runs (n - 1) last → last.epoch ≡ run.epoch → set runs (n - 1) run ≡ with_run runs run
same_epoch_at runs run last n len some is same = same_epoch runs run last (n - 1) (omega arith) (ap (λ (r : Run). r.epoch) (sym is) ∙ same)

pub other_epoch_at : (runs : List Run) (run last : Run) (n : ℕ) → n ≡ length runs → 0 < n → last ≡ get_or runs (n - 1) last → (last.epoch ≡ run.epoch → ⊥) → runs ++ run ∷ [] ≡ with_run runs run
other_epoch_at runs run last n len some is other = other_epoch runs run last (n - 1) (omega arith) (λ same. other (ap (λ (r : Run). r.epoch) is ∙ same))

pub no_epoch_at : (runs : List Run) (run : Run) (n : ℕ) → n ≡ length runs → n ≤ 0 → runs ++ run ∷ [] ≡ with_run runs run
no_epoch_at [] run n len none = refl
no_epoch_at (x ∷ more) run n len none = absurd (omega arith)

-- some run of a list reaches a tail
pub has_run_any : (runs : List Run) (tail : Tail) → has_run runs tail ≡ list_any (reaches tail) runs
has_run_any [] tail = refl
has_run_any (run ∷ more) tail = ap (λ (b : Bool). reaches tail run || b) (has_run_any more tail)

pub contains_by : (runs : List Run) (tail : Tail) (b : Bool) → b ≡ ((tail.epoch == 0) && (tail.end == 0)) → b ≡ true → true ≡ contains runs tail
contains_by runs tail b is yes' = sym (ap (λ (x : Bool). x || has_run runs tail) (sym is ∙ yes'))

pub contains_else : (runs : List Run) (tail : Tail) (b found : Bool) → b ≡ ((tail.epoch == 0) && (tail.end == 0)) → b ≡ false → found ≡ list_any (reaches tail) runs → found ≡ contains runs tail
contains_else runs tail b found is none has = has ∙ sym (has_run_any runs tail) ∙ sym (ap (λ (x : Bool). x || has_run runs tail) (sym is ∙ none))
