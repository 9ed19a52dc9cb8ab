-- The user chunks above an offset, of two parts and along a log.
use Rattle.std.proofs.Common.{◌≡◌, ℕ, ◌≤◌, ◌<◌, Bool, true, false, cond, ◌&&◌, nat_lt, List, [], ◌∷◌, ◌++◌, Option, Some, None, refl, sym, ap, ◌∙◌, subst, arith}
use Rattle.std.specs.List.{find}
use Rattle.std.specs.Option.{option_or}
use Rattle.std.proofs.lemmas.List.Elements.{filter-append}
use Rattle.std.proofs.lemmas.List.Folds.{find-append}
use Rattle.chunk_format.specs.declared.chunk.Chunk.{Chunk}
use Rattle.chunk_format.specs.Chunks.{end_of_chunk}
use Rattle.chunk_format.specs.Logs.{end_from, Linked, is_user, is_above, users_above, next_above}
use Rattle.chunk_format.proofs.LinkLaws.{chunk_goes_on, end_past}

pub users_join : (from : ℕ) (a b : List Chunk) → users_above from (a ++ b) ≡ users_above from a ++ users_above from b
users_join from a b = filter-append (is_above from) a b

pub next_join : (from : ℕ) (a b : List Chunk) → next_above from (a ++ b) ≡ option_or (next_above from a) (next_above from b)
next_join from a b = find-append (is_above from) a b

pub next_stays : (from : ℕ) (a b : List Chunk) (c : Chunk) → next_above from a ≡ Some c → next_above from (a ++ b) ≡ Some c
next_stays from a b c is = next_join from a b ∙ ap (λ (o : Option Chunk). option_or o (next_above from b)) is

pub next_later : (from : ℕ) (a b : List Chunk) → next_above from a ≡ None → next_above from (a ++ b) ≡ next_above from b
next_later from a b none = next_join from a b ∙ ap (λ (o : Option Chunk). option_or o (next_above from b)) none

-- what is found passes, and is the first of those that pass
pub found_passes : {A : Type 0} (p : A → Bool) (xs : List A) (x : A) → find p xs ≡ Some x → p x ≡ true
found_passes p [] x is = absurd cc
found_passes {A} p (y ∷ ys) x is =
    elim (p y) as (λ b. p y ≡ b → cond b (Some y) (find p ys) ≡ Some x → p x ≡ true) [
      | true ↦ λ e f. let same : y ≡ x = cc in subst (λ (z : A). p z ≡ true) same e
      | false ↦ λ e f. found_passes p ys x f
    ] refl is

first_by : (b : Bool) (c : Chunk) (rest : List Chunk) (o : Option Chunk) → cond b (c ∷ rest) rest ≡ [] → (rest ≡ [] → o ≡ None) → cond b (Some c) o ≡ None
first_by true c rest o none more = absurd cc
first_by false c rest o none more = more none

-- none is next where there are none
pub none_next : (from : ℕ) (chunks : List Chunk) → users_above from chunks ≡ [] → next_above from chunks ≡ None
none_next from [] none = refl
none_next from (c ∷ cs) none = first_by (is_above from c) c (users_above from cs) (next_above from cs) none (none_next from cs)

-- ---- along a log

within_by : (u : Bool) (from end : ℕ) → end ≤ from → (u && nat_lt from end) ≡ false
within_by true from end h = grind arith
within_by false from end h = refl

beyond_by : (u : Bool) (from other end : ℕ) → from < end → other < end → (u && nat_lt from end) ≡ (u && nat_lt other end)
beyond_by true from other end h k = grind arith
beyond_by false from other end h k = refl

-- there are none above the end
pub none_above : (from at epoch : ℕ) (chunks : List Chunk) → Linked at epoch chunks → end_from at chunks ≤ from → users_above from chunks ≡ []
none_above from at epoch [] l h = refl
none_above from at epoch (c ∷ cs) l h =
    let past = end_past (end_of_chunk c) c.epoch cs l.behind in
    ap (λ (b : Bool). cond b (c ∷ users_above from cs) (users_above from cs)) (within_by (is_user c.kind) from (end_of_chunk c) (omega (arith, past, h)))
    ∙ none_above from (end_of_chunk c) c.epoch cs l.behind h

-- behind both offsets they are the same
pub same_above : (from other at epoch : ℕ) (chunks : List Chunk) → Linked at epoch chunks → from ≤ at → other ≤ at → users_above from chunks ≡ users_above other chunks
same_above from other at epoch [] l h k = refl
same_above from other at epoch (c ∷ cs) l h k =
    let goes = chunk_goes_on c l.is in
    let begins = l.begins in
    let test : is_above from c ≡ is_above other c = beyond_by (is_user c.kind) from other (end_of_chunk c) (omega (arith, goes, begins, h)) (omega (arith, goes, begins, k)) in
    ap (λ (b : Bool). cond b (c ∷ users_above from cs) (users_above from cs)) test
    ∙ ap (λ (l : List Chunk). cond (is_above other c) (c ∷ l) l) (same_above from other (end_of_chunk c) c.epoch cs l.behind (omega (arith, goes, begins, h)) (omega (arith, goes, begins, k)))

less_by : (u : Bool) (from other end : ℕ) → (u && nat_lt from end) ≡ false → from ≤ other → (u && nat_lt other end) ≡ false
less_by true from other end h k = grind arith
less_by false from other end h k = refl

above_by : (u : Bool) (from end : ℕ) → (u && nat_lt from end) ≡ true → from < end
above_by true from end h = grind arith
above_by false from end h = absurd cc

-- the first is followed by those above its end
pub users_step : (from at epoch : ℕ) (chunks : List Chunk) (c : Chunk) → Linked at epoch chunks → next_above from chunks ≡ Some c → users_above from chunks ≡ c ∷ users_above (end_of_chunk c) chunks
users_step from at epoch [] c l is = absurd cc
users_step from at epoch (d ∷ ds) c l is =
    let passes = found_passes (is_above from) (d ∷ ds) c is in
    let above : from < end_of_chunk c = above_by (is_user c.kind) from (end_of_chunk c) passes in
    elim (is_above from d) as (λ b. is_above from d ≡ b → cond b (Some d) (next_above from ds) ≡ Some c → cond b (d ∷ users_above from ds) (users_above from ds) ≡ c ∷ users_above (end_of_chunk c) (d ∷ ds)) [
      | true ↦ λ e f.
          let same : d ≡ c = cc in
          let reached : from < end_of_chunk d = above_by (is_user d.kind) from (end_of_chunk d) e in
          let rest : users_above from ds ≡ users_above (end_of_chunk d) ds = same_above from (end_of_chunk d) (end_of_chunk d) d.epoch ds l.behind (omega (arith, reached)) (omega arith) in
          let skip : users_above (end_of_chunk d) (d ∷ ds) ≡ users_above (end_of_chunk d) ds =
          ap (λ (b : Bool). cond b (d ∷ users_above (end_of_chunk d) ds) (users_above (end_of_chunk d) ds)) (within_by (is_user d.kind) (end_of_chunk d) (end_of_chunk d) (omega arith)) in
          ap (λ (l : List Chunk). d ∷ l) (rest ∙ sym skip) ∙ ap (λ (x : Chunk). x ∷ users_above (end_of_chunk x) (d ∷ ds)) same
      | false ↦ λ e f.
          let skip : users_above (end_of_chunk c) (d ∷ ds) ≡ users_above (end_of_chunk c) ds =
          ap (λ (b : Bool). cond b (d ∷ users_above (end_of_chunk c) ds) (users_above (end_of_chunk c) ds)) (less_by (is_user d.kind) from (end_of_chunk c) (end_of_chunk d) e (omega (arith, above))) in
          users_step from (end_of_chunk d) d.epoch ds c l.behind f ∙ ap (λ (l : List Chunk). c ∷ l) (sym skip)
    ] refl is
