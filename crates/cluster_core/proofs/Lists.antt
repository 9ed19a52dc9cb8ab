-- A committed list goes on by the chunks that stand ahead of it.
use Rattle.std.proofs.Common.{◌≡◌, ◌≤◌, ◌<◌, ℕ, Bool, true, false, cond, List, [], ◌∷◌, ◌++◌, length, drop, take, nat_lt, nat_le, refl, sym, ap, append_assoc, ◌∙◌, arith}
use Rattle.std.specs.List.{before_first, position_or_len}
use Rattle.std.proofs.lemmas.Grind.{common_steps}
use Rattle.chunk_format.specs.declared.chunk.Chunk.{Chunk}
use Rattle.chunk_format.specs.Chunks.{end_of_chunk}
use Rattle.chunk_format.specs.Logs.{GoesOn, IsLog, Linked, end_from, end_of}
use Rattle.chunk_format.proofs.LinkLaws.{chunk_goes_on, end_past}
use Rattle.chunk_format.proofs.BeginLaws.{log_front}
use Rattle.epoch_coordinator.specs.MemberSteps.{cut_at}
use Rattle.cluster_core.specs.Parts.{ends_behind}

over : (a b : ℕ) → b < a → nat_le a b ≡ false
over a b less = grind arith

not_over : (a b : ℕ) → nat_le a b ≡ false → b < a
not_over a b less = grind arith

not_behind : (a b : ℕ) → nat_le a b ≡ true → nat_lt b a ≡ false
not_behind a b le = grind arith

is_behind : (a b : ℕ) → nat_le a b ≡ false → nat_lt b a ≡ true
is_behind a b le = grind arith

-- no chunk behind an end ends before it
pub none_within : (at epoch end : ℕ) (log : List Chunk) → Linked at epoch log → end ≤ at → cut_at end log ≡ []
none_within at epoch end [] l le = refl
none_within at epoch end (c ∷ log) l le =
    let goes = chunk_goes_on c l.is in
    let begins = l.begins in
    rw (over (end_of_chunk c) end (omega (arith, goes, begins, le))) (none_within (end_of_chunk c) c.epoch end log l.behind (omega (arith, goes, begins, le)))

before_over : (end : ℕ) (c : Chunk) (log : List Chunk) → ends_behind end c ≡ true → before_first (ends_behind end) (c ∷ log) ≡ []
before_over end c log h = grind (arith, common_steps)

pub before_within : (end : ℕ) (c : Chunk) (log : List Chunk) → ends_behind end c ≡ false → before_first (ends_behind end) (c ∷ log) ≡ c ∷ before_first (ends_behind end) log
before_within end c log h = grind (arith, common_steps)

-- what is cut at an end is what comes before the first chunk behind it
pub cut_first : (at epoch end : ℕ) (log : List Chunk) → Linked at epoch log → cut_at end log ≡ before_first (ends_behind end) log
cut_first at epoch end [] l = refl
cut_first at epoch end (c ∷ log) l = by (nat_le (end_of_chunk c) end) refl (cut_first (end_of_chunk c) c.epoch end log l.behind)
  where
    by : (b : Bool) → nat_le (end_of_chunk c) end ≡ b → cut_at end log ≡ before_first (ends_behind end) log → cut_at end (c ∷ log) ≡ before_first (ends_behind end) (c ∷ log)
    by true is rest =
        ap (λ (b : Bool). cond {A = List Chunk} b (c ∷ cut_at end log) (cut_at end log)) is
        ∙ ap (λ (x : List Chunk). c ∷ x) rest
        ∙ sym (before_within end c log (not_behind (end_of_chunk c) end is))
    by false is rest =
        ap (λ (b : Bool). cond {A = List Chunk} b (c ∷ cut_at end log) (cut_at end log)) is
        ∙ none_within (end_of_chunk c) c.epoch end log l.behind (let h = not_over (end_of_chunk c) end is in omega (arith, h))
        ∙ sym (before_over end c log (is_behind (end_of_chunk c) end is))

-- chunks up to an end come first
pub before_join : (at epoch end : ℕ) (front rest : List Chunk) → Linked at epoch front → end_from at front ≤ end → before_first (ends_behind end) (front ++ rest) ≡ front ++ before_first (ends_behind end) rest
before_join at epoch end [] rest l le = refl
before_join at epoch end (c ∷ front) rest l le =
    let past = end_past (end_of_chunk c) c.epoch front l.behind in
    before_within end c (front ++ rest) (low (end_of_chunk c) end (omega (arith, past, le)))
    ∙ ap (λ (x : List Chunk). c ∷ x) (before_join (end_of_chunk c) c.epoch end front rest l.behind le)
  where
    low : (a b : ℕ) → a ≤ b → nat_lt b a ≡ false
    low a b h = grind arith

pub take_drop : {A : Type 0} (n : ℕ) (xs : List A) → xs ≡ take n xs ++ drop n xs
take_drop n xs = grind (arith, common_steps)

pub drop_front : {A : Type 0} (front rest : List A) → drop (length front) (front ++ rest) ≡ rest
drop_front front rest = grind (arith, common_steps)

-- a list that begins what is cut goes on to it by the chunks ahead of it
pub cut_extends : (list log ahead : List Chunk) (end : ℕ) → IsLog log → GoesOn list (cut_at end log) → ahead ≡ drop (length list) log → end_of list ≤ end → list ++ before_first (ends_behind end) ahead ≡ cut_at end log
cut_extends list log ahead end l goes is le =
    let first = cut_first 0 0 end log l in
    let n = position_or_len (ends_behind end) log in
    let whole : log ≡ list ++ (goes.0 ++ drop n log) =
    take_drop n log ∙ ap (λ (x : List Chunk). x ++ drop n log) (sym first ∙ goes.1) ∙ append_assoc list goes.0 (drop n log) in
    let rest : ahead ≡ goes.0 ++ drop n log = is ∙ ap (drop (length list)) whole ∙ drop_front list (goes.0 ++ drop n log) in
    let front : IsLog list = log_front list log (goes.0 ++ drop n log, whole) l in
    ap (λ (x : List Chunk). list ++ before_first (ends_behind end) x) rest
    ∙ sym (before_join 0 0 end list (goes.0 ++ drop n log) front le)
    ∙ ap (before_first (ends_behind end)) (sym whole)
    ∙ sym first
