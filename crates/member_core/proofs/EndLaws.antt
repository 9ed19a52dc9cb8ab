-- Places in a log by the ends of its chunks, which rise.
use Rattle.std.proofs.Common.{◌≡◌, ℕ, zero, suc, ◌+◌, ◌-◌, ◌≤◌, ◌<◌, Bool, true, false, List, [], ◌∷◌, ◌++◌, length, take, drop, get_or, refl, sym, ap, ◌∙◌, arith, Option, Some, None}
use Rattle.std.specs.Prelude.{◌==◌, ◌||◌, if◌then◌else◌, nat_le}
use Rattle.std.specs.List.{AllWithin}
use Rattle.std.specs.List.Sorted.{IsNonDecreasingBy}
use Rattle.std.proofs.lemmas.List.{take_more, take_all, drop_all}
use Rattle.std.proofs.Math.Seq.{drop-cons}
use Rattle.chunk_format.specs.declared.chunk.Chunk.{Chunk}
use Rattle.chunk_format.specs.Chunks.{end_of_chunk}
use Rattle.chunk_format.specs.Logs.{Linked, IsLog, end_of, epoch_from, last_epoch}
use Rattle.chunk_format.proofs.LinkLaws.{chunk_goes_on, end_push, epoch_push, epoch_past}
use Rattle.epoch_coordinator.specs.declared.tail.Run.{Run}
use Rattle.epoch_coordinator.specs.Tails.{contains, tail_of}
use Rattle.epoch_coordinator.specs.MemberSteps.{cut_at, chunk_from, tail_after, kept_from, kept_end, ends_in, has_epoch}
use Rattle.member_core.specs.Kept.{ended}

-- ---- ends rise

past : (at epoch : ℕ) (chunks : List Chunk) → Linked at epoch chunks → (j : ℕ) (d : Chunk) → j < length chunks → at < end_of_chunk (get_or chunks j d)
past at epoch [] l j d in' = absurd (omega arith)
past at epoch (c ∷ cs) l zero d in' = let goes = chunk_goes_on c l.is in let begins = l.begins in omega arith
past at epoch (c ∷ cs) l (suc j) d in' =
    let goes = chunk_goes_on c l.is in
    let begins = l.begins in
    let more = past (end_of_chunk c) c.epoch cs l.behind j d (omega arith) in
    omega arith

rises_from : (at epoch : ℕ) (chunks : List Chunk) → Linked at epoch chunks → (i j : ℕ) (d : Chunk) → i ≤ j → j < length chunks → end_of_chunk (get_or chunks i d) ≤ end_of_chunk (get_or chunks j d)
rises_from at epoch [] l i j d le in' = absurd (omega arith)
rises_from at epoch (c ∷ cs) l zero zero d le in' = omega arith
rises_from at epoch (c ∷ cs) l zero (suc j) d le in' = let more = past (end_of_chunk c) c.epoch cs l.behind j d (omega arith) in omega arith
rises_from at epoch (c ∷ cs) l (suc i) zero d le in' = absurd (omega arith)
rises_from at epoch (c ∷ cs) l (suc i) (suc j) d le in' = rises_from (end_of_chunk c) c.epoch cs l.behind i j d (omega arith) (omega arith)

pub ends_rise : (chunks : List Chunk) → IsLog chunks → IsNonDecreasingBy end_of_chunk chunks
ends_rise chunks l i j d le in' = rises_from 0 0 chunks l i j d le in'

-- ---- the place behind the chunks that end at an offset or before it

pub ended_at : (end : ℕ) (chunks : List Chunk) (i : ℕ) → i ≤ length chunks → AllWithin (λ c. nat_le (end_of_chunk c) end ≡ true) chunks 0 i → AllWithin (λ c. nat_le (end_of_chunk c) end ≡ false) chunks i (length chunks) → i ≡ ended end chunks
ended_at end [] zero le all none = refl
ended_at end [] (suc i) le all none = absurd (omega arith)
ended_at end (c ∷ cs) zero le all none = let first = none zero c (omega arith) (omega arith) in rw first refl
ended_at end (c ∷ cs) (suc i) le all none =
    let first = all zero c (omega arith) (omega arith) in
    let more = ended_at end cs i (omega arith) (λ k d low high. all (suc k) d (omega arith) (omega arith)) (λ k d low high. none (suc k) d (omega arith) (omega arith)) in
    rw first (omega (arith, more))

pub ended_within : (end : ℕ) (chunks : List Chunk) → ended end chunks ≤ length chunks
ended_within end [] = omega arith
ended_within end (c ∷ cs) = by (nat_le (end_of_chunk c) end) refl (ended_within end cs)
  where
    by : (b : Bool) → nat_le (end_of_chunk c) end ≡ b → ended end cs ≤ length cs → ended end (c ∷ cs) ≤ length (c ∷ cs)
    by true is more = rw is (omega (arith, more))
    by false is more = rw is (omega arith)

above : (at epoch end : ℕ) (chunks : List Chunk) → Linked at epoch chunks → end ≤ at → cut_at end chunks ≡ []
above at epoch end [] l le = refl
above at epoch end (c ∷ cs) l le =
    let goes = chunk_goes_on c l.is in
    let begins = l.begins in
    let no' : nat_le (end_of_chunk c) end ≡ false = over (end_of_chunk c) end (omega arith) in
    rw no' (above (end_of_chunk c) c.epoch end cs l.behind (omega arith))
  where
    over : (a b : ℕ) → b < a → nat_le a b ≡ false
    over a b less = grind arith

cut_from : (at epoch end : ℕ) (chunks : List Chunk) → Linked at epoch chunks → cut_at end chunks ≡ take (ended end chunks) chunks
cut_from at epoch end [] l = refl
cut_from at epoch end (c ∷ cs) l = by (nat_le (end_of_chunk c) end) refl (cut_from (end_of_chunk c) c.epoch end cs l.behind)
  where
    over : (a b : ℕ) → nat_le a b ≡ false → b ≤ a
    over a b less = grind arith

    one_more : (n : ℕ) → take (n + 1) (c ∷ cs) ≡ c ∷ take n cs
    one_more n = let next : n + 1 ≡ suc n = omega arith in ap (λ (k : ℕ). take k (c ∷ cs)) next

    by : (b : Bool) → nat_le (end_of_chunk c) end ≡ b → cut_at end cs ≡ take (ended end cs) cs → cut_at end (c ∷ cs) ≡ take (ended end (c ∷ cs)) (c ∷ cs)
    by true is more = rw is (ap (λ (x : List Chunk). c ∷ x) more ∙ sym (one_more (ended end cs)))
    by false is more = rw is (above (end_of_chunk c) c.epoch end cs l.behind (over (end_of_chunk c) end is))

-- the chunks that end at an offset or before it are those up to the place
pub cut_is : (end : ℕ) (chunks : List Chunk) → IsLog chunks → cut_at end chunks ≡ take (ended end chunks) chunks
cut_is end chunks l = cut_from 0 0 end chunks l

-- ---- the chunk at an offset

-- the first chunk, where it begins at the offset
abbrev pub begins_at : ℕ → List Chunk → Option Chunk
begins_at offset [] = None
begins_at offset (c ∷ chunks) = if c.first == offset then Some c else None

nothing_from : (at epoch offset : ℕ) (chunks : List Chunk) → Linked at epoch chunks → offset < at → chunk_from offset chunks ≡ None
nothing_from at epoch offset [] l less = refl
nothing_from at epoch offset (c ∷ cs) l less =
    let goes = chunk_goes_on c l.is in
    let begins = l.begins in
    let other : (c.first == offset) ≡ false = differs c.first offset (omega arith) in
    rw other (nothing_from (end_of_chunk c) c.epoch offset cs l.behind (omega arith))
  where
    differs : (a b : ℕ) → b < a → (a == b) ≡ false
    differs a b less = grind arith

found_from : (at epoch offset : ℕ) (chunks : List Chunk) → Linked at epoch chunks → chunk_from offset chunks ≡ begins_at offset (drop (ended offset chunks) chunks)
found_from at epoch offset [] l = refl
found_from at epoch offset (c ∷ cs) l = by (nat_le (end_of_chunk c) offset) refl (found_from (end_of_chunk c) c.epoch offset cs l.behind)
  where
    reached : (a b : ℕ) → nat_le a b ≡ true → a ≤ b
    reached a b is = grind arith

    over : (a b : ℕ) → nat_le a b ≡ false → b < a
    over a b is = grind arith

    differs : (a b : ℕ) → a < b → (a == b) ≡ false
    differs a b less = grind arith

    one_more : (n : ℕ) → drop (n + 1) (c ∷ cs) ≡ drop n cs
    one_more n = let next : n + 1 ≡ suc n = omega arith in ap (λ (k : ℕ). drop k (c ∷ cs)) next

    at_first : (b : Bool) → (c.first == offset) ≡ b → offset < end_of_chunk c → chunk_from offset (c ∷ cs) ≡ begins_at offset (c ∷ cs)
    at_first true is less = rw is refl
    at_first false is less = rw is (nothing_from (end_of_chunk c) c.epoch offset cs l.behind less)

    by : (b : Bool) → nat_le (end_of_chunk c) offset ≡ b → chunk_from offset cs ≡ begins_at offset (drop (ended offset cs) cs) → chunk_from offset (c ∷ cs) ≡ begins_at offset (drop (ended offset (c ∷ cs)) (c ∷ cs))
    by true is more =
        let goes = chunk_goes_on c l.is in
        let less = reached (end_of_chunk c) offset is in
        let other : (c.first == offset) ≡ false = differs c.first offset (omega arith) in
        rw is (rw other (more ∙ ap (begins_at offset) (sym (one_more (ended offset cs)))))
    by false is more = rw is (at_first (c.first == offset) refl (over (end_of_chunk c) offset is))

-- the chunk that begins at an offset stands at the place behind those that end there or before it
pub from_is : (offset : ℕ) (chunks : List Chunk) → IsLog chunks → chunk_from offset chunks ≡ begins_at offset (drop (ended offset chunks) chunks)
from_is offset chunks l = found_from 0 0 offset chunks l

-- ---- the longest beginning that runs contain

kept_push : (end : ℕ) (runs : List Run) (chunks : List Chunk) (c : Chunk) → kept_from end runs (chunks ++ c ∷ []) ≡ (if contains runs (tail_after c) then end_of_chunk c else kept_from end runs chunks)
kept_push end runs [] c = refl
kept_push end runs (d ∷ chunks) c = kept_push (if contains runs (tail_after d) then end_of_chunk d else end) runs chunks c

last_of : (chunks : List Chunk) (k : ℕ) (c : Chunk) → k < length chunks → c ≡ get_or chunks k c → take (k + 1) chunks ≡ take k chunks ++ c ∷ []
last_of chunks k c within is = take_more chunks k c within ∙ ap (λ (x : Chunk). take k chunks ++ x ∷ []) (sym is)

pub kept_here : (runs : List Run) (chunks : List Chunk) (place : ℕ) (c : Chunk) → 0 < place → place ≤ length chunks → c ≡ get_or chunks (place - 1) c → contains runs (tail_after c) ≡ true → kept_end runs (take place chunks) ≡ end_of_chunk c
kept_here runs chunks place c some within is here =
    let before : place - 1 + 1 ≡ place = omega arith in
    ap (λ (k : ℕ). kept_end runs (take k chunks)) (sym before) ∙ ap (kept_end runs) (last_of chunks (place - 1) c (omega arith) is) ∙ kept_push 0 runs (take (place - 1) chunks) c
    ∙ ap (λ (b : Bool). if b then end_of_chunk c else kept_from 0 runs (take (place - 1) chunks)) here

pub kept_before : (runs : List Run) (chunks : List Chunk) (place : ℕ) (c : Chunk) → 0 < place → place ≤ length chunks → c ≡ get_or chunks (place - 1) c → contains runs (tail_after c) ≡ false → kept_end runs (take place chunks) ≡ kept_end runs (take (place - 1) chunks)
kept_before runs chunks place c some within is there =
    let before : place - 1 + 1 ≡ place = omega arith in
    ap (λ (k : ℕ). kept_end runs (take k chunks)) (sym before) ∙ ap (kept_end runs) (last_of chunks (place - 1) c (omega arith) is) ∙ kept_push 0 runs (take (place - 1) chunks) c
    ∙ ap (λ (b : Bool). if b then end_of_chunk c else kept_from 0 runs (take (place - 1) chunks)) there

-- ---- the tail

pub tail_push : (chunks : List Chunk) (c : Chunk) → tail_of (chunks ++ c ∷ []) ≡ tail_after c
tail_push chunks c = ap (λ (n : ℕ). record { epoch = n; end = end_of (chunks ++ c ∷ []) }) (epoch_push chunks c) ∙ ap (λ (n : ℕ). record { epoch = c.epoch; end = n }) (end_push chunks c)

pub tail_last : (chunks : List Chunk) (c : Chunk) → (length chunks ≡ 0 → ⊥) → c ≡ get_or chunks (length chunks - 1) c → tail_after c ≡ tail_of chunks
tail_last chunks c some is =
    let n = length chunks in
    let before : n - 1 + 1 ≡ n = omega (arith, some) in
    let all : take (n - 1) chunks ++ c ∷ [] ≡ chunks = sym (last_of chunks (n - 1) c (omega (arith, some)) is) ∙ ap (λ (k : ℕ). take k chunks) before ∙ take_all n chunks (omega arith) in
    sym (tail_push (take (n - 1) chunks) c) ∙ ap tail_of all

-- ---- the chunk at an offset, by its place

pub from_none : (offset place : ℕ) (chunks : List Chunk) → IsLog chunks → place ≡ ended offset chunks → place ≡ length chunks → None ≡ chunk_from offset chunks
from_none offset place chunks l is all =
    sym (from_is offset chunks l ∙ ap (λ (k : ℕ). begins_at offset (drop k chunks)) (sym is) ∙ ap (begins_at offset) (drop_all place chunks (omega arith)))

at_place : (offset place : ℕ) (chunks : List Chunk) (c : Chunk) → IsLog chunks → place ≡ ended offset chunks → place < length chunks → c ≡ get_or chunks place c → chunk_from offset chunks ≡ begins_at offset (c ∷ drop (suc place) chunks)
at_place offset place chunks c l is within at =
    from_is offset chunks l ∙ ap (λ (k : ℕ). begins_at offset (drop k chunks)) (sym is) ∙ ap (begins_at offset) (drop-cons chunks place c within ∙ ap (λ (x : Chunk). x ∷ drop (suc place) chunks) (sym at))

pub from_other : (offset place : ℕ) (chunks : List Chunk) (c : Chunk) → IsLog chunks → place ≡ ended offset chunks → place < length chunks → c ≡ get_or chunks place c → (c.first ≡ offset → ⊥) → None ≡ chunk_from offset chunks
from_other offset place chunks c l is within at other = sym (at_place offset place chunks c l is within at ∙ none c other)
  where
    none : (c : Chunk) → (c.first ≡ offset → ⊥) → begins_at offset (c ∷ drop (suc place) chunks) ≡ None
    none c other = grind (arith, other)

pub from_here : (offset place : ℕ) (chunks : List Chunk) (c shared : Chunk) → IsLog chunks → place ≡ ended offset chunks → place < length chunks → c ≡ get_or chunks place c → c.first ≡ offset → shared ≡ c → Some shared ≡ chunk_from offset chunks
from_here offset place chunks c shared l is within at here same = sym (at_place offset place chunks c l is within at ∙ some c here ∙ ap Some (sym same))
  where
    some : (c : Chunk) → c.first ≡ offset → begins_at offset (c ∷ drop (suc place) chunks) ≡ Some c
    some c here = grind (arith, here)

-- ---- the epoch of the last chunk

ends_push : (epoch : ℕ) (chunks : List Chunk) (c : Chunk) → ends_in epoch (chunks ++ c ∷ []) ≡ (c.epoch == epoch)
ends_push epoch [] c = refl
ends_push epoch (d ∷ []) c = refl
ends_push epoch (d ∷ e ∷ more) c = ends_push epoch (e ∷ more) c

pub ends_last : (epoch : ℕ) (chunks : List Chunk) (c : Chunk) → (length chunks ≡ 0 → ⊥) → c ≡ get_or chunks (length chunks - 1) c → (c.epoch == epoch) ≡ ends_in epoch chunks
ends_last epoch chunks c some is =
    let n = length chunks in
    let before : n - 1 + 1 ≡ n = omega (arith, some) in
    let all : take (n - 1) chunks ++ c ∷ [] ≡ chunks = sym (last_of chunks (n - 1) c (omega (arith, some)) is) ∙ ap (λ (k : ℕ). take k chunks) before ∙ take_all n chunks (omega arith) in
    sym (ends_push epoch (take (n - 1) chunks) c) ∙ ap (ends_in epoch) all

-- ---- an epoch that none is above

first_has : (b more : Bool) → (b ≡ true → more ≡ true) → (b || more) ≡ more
first_has true more f = sym (f refl)
first_has false more f = refl

has_from : (at from epoch : ℕ) (chunks : List Chunk) → Linked at from chunks → epoch_from from chunks ≤ epoch → has_epoch epoch chunks ≡ ends_in epoch chunks
has_from at from epoch [] l above = refl
has_from at from epoch (c ∷ []) l above = first_has_none (c.epoch == epoch)
  where
    first_has_none : (b : Bool) → (b || false) ≡ b
    first_has_none true = refl
    first_has_none false = refl
has_from at from epoch (c ∷ d ∷ more) l above =
    let past = epoch_past (end_of_chunk d) d.epoch more l.behind.behind in
    let not_before = l.behind.not_before in
    let later : (c.epoch == epoch) ≡ true → has_epoch epoch (d ∷ more) ≡ true = λ is. second c.epoch d.epoch epoch (epoch_from d.epoch more) is not_before past above in
    first_has (c.epoch == epoch) (has_epoch epoch (d ∷ more)) later ∙ has_from (end_of_chunk c) c.epoch epoch (d ∷ more) l.behind above
  where
    both : (a b e f : ℕ) → (a == e) ≡ true → a ≤ b → b ≤ f → f ≤ e → (b == e) ≡ true
    both a b e f is ab bf fe = grind arith

    second : (a b e f : ℕ) → (a == e) ≡ true → a ≤ b → b ≤ f → f ≤ e → ((b == e) || has_epoch e more) ≡ true
    second a b e f is ab bf fe = ap (λ (x : Bool). x || has_epoch e more) (both a b e f is ab bf fe)

pub has_is : (epoch : ℕ) (chunks : List Chunk) (b : Bool) → IsLog chunks → last_epoch chunks ≤ epoch → b ≡ ends_in epoch chunks → b ≡ has_epoch epoch chunks
has_is epoch chunks b l above is = is ∙ sym (has_from 0 0 epoch chunks l above)
