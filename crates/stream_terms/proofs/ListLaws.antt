-- The end of a list, its last user chunk, and the chunk that a search finds.
use Rattle.std.proofs.Common.{◌≡◌, ℕ, suc, ◌+◌, ◌-◌, ◌≤◌, ◌<◌, Bool, true, false, not, ◌&&◌, cond, nat_lt, List, [], ◌∷◌, ◌++◌, map, length, Option, Some, None, Result, Ok, Err, refl, sym, ap, ◌∙◌, arith}
use Rattle.std.specs.Prelude.{option_map, filter, find, take, drop, IfOk}
use Rattle.std.specs.declared.alloc.AllocError.{AllocError}
use Rattle.std.specs.List.{last_or, AllByRecursion}
use Rattle.std.specs.List.Sorted.{IsStrictlyIncreasing}
use Rattle.std.proofs.lemmas.List.{append-nil, take_rest}
use Rattle.std.proofs.lemmas.List.Elements.{filter-append}
use Rattle.chunk_format.specs.declared.chunk.Chunk.{Chunk}
use Rattle.chunk_format.specs.Chunks.{end_of_chunk}
use Rattle.chunk_format.specs.Logs.{Linked, IsLog, end_of, is_user, is_above, last_user, next_above}
use Rattle.chunk_format.proofs.LinkLaws.{end_push, chunk_goes_on}
use Rattle.chunk_format.proofs.NameLaws.{Rises, increases_from, each_map}
use Rattle.stream_terms.specs.Lists.{last_first}
use Rattle.stream_terms.proofs.Searching.{place_of}

-- ---- the last chunk

pub end_last : (chunks : List Chunk) (c : Chunk) (rest : List Chunk) → chunks ≡ rest ++ c ∷ [] → end_of chunks ≡ end_of_chunk c
end_last chunks c rest is = ap end_of is ∙ end_push rest c

last_pushed : (o : Option Chunk) (xs : List Chunk) (c : Chunk) → last_or o (xs ++ c ∷ []) ≡ Some c
last_pushed o [] c = refl
last_pushed o (x ∷ xs) c = last_pushed (Some x) xs c

pub first_last : (chunks : List Chunk) (c : Chunk) (rest : List Chunk) → chunks ≡ rest ++ c ∷ [] → last_first chunks ≡ Some c.first
first_last chunks c rest is = ap last_first is ∙ ap (option_map (λ (x : Chunk). x.first)) (last_pushed None rest c)

users_pushed : (rest : List Chunk) (c : Chunk) (b : Bool) → is_user c.kind ≡ b → filter (λ (x : Chunk). is_user x.kind) (rest ++ c ∷ []) ≡ filter (λ (x : Chunk). is_user x.kind) rest ++ cond b (c ∷ []) []
users_pushed rest c b is = filter-append (λ (x : Chunk). is_user x.kind) rest (c ∷ []) ∙ ap (λ (t : Bool). filter (λ (x : Chunk). is_user x.kind) rest ++ cond t (c ∷ []) []) is

pub user_last : (chunks : List Chunk) (c : Chunk) (rest : List Chunk) → chunks ≡ rest ++ c ∷ [] → is_user c.kind ≡ true → last_user chunks ≡ Some c.first
user_last chunks c rest parts is =
    ap last_user parts ∙ ap (λ (l : List Chunk). option_map (λ (x : Chunk). x.first) (last_or None l)) (users_pushed rest c true is) ∙ ap (option_map (λ (x : Chunk). x.first)) (last_pushed None (filter (λ (x : Chunk). is_user x.kind) rest) c)

pub user_before : (chunks : List Chunk) (c : Chunk) (rest : List Chunk) → chunks ≡ rest ++ c ∷ [] → is_user c.kind ≡ false → last_user chunks ≡ last_user rest
user_before chunks c rest parts is =
    ap last_user parts ∙ ap (λ (l : List Chunk). option_map (λ (x : Chunk). x.first) (last_or None l)) (users_pushed rest c false is ∙ append-nil (filter (λ (x : Chunk). is_user x.kind) rest))

-- ---- ends rise

below_more : (low at : ℕ) (ends : List ℕ) → low ≤ at → AllByRecursion (λ y. at < y) ends → AllByRecursion (λ y. low < y) ends
below_more low at ends le all = each_map (λ y. at < y) (λ y. low < y) (λ y lt. omega (arith, lt, le)) ends all

above_start : (at epoch : ℕ) (chunks : List Chunk) → Linked at epoch chunks → AllByRecursion (λ y. at < y) (map end_of_chunk chunks)
above_start at epoch [] l = tt
above_start at epoch (c ∷ cs) l =
    let goes = chunk_goes_on c l.is in
    let begins = l.begins in
    let here : at < end_of_chunk c = omega (arith, goes, begins) in
    (here, below_more at (end_of_chunk c) (map end_of_chunk cs) (omega (arith, here)) (above_start (end_of_chunk c) c.epoch cs l.behind))

ends_rise : (at epoch : ℕ) (chunks : List Chunk) → Linked at epoch chunks → Rises (map end_of_chunk chunks)
ends_rise at epoch [] l = tt
ends_rise at epoch (c ∷ cs) l = (above_start (end_of_chunk c) c.epoch cs l.behind, ends_rise (end_of_chunk c) c.epoch cs l.behind)

pub ends_increase : (chunks : List Chunk) → IsLog chunks → IsStrictlyIncreasing (map end_of_chunk chunks)
ends_increase chunks l = increases_from (map end_of_chunk chunks) (ends_rise 0 0 chunks l)

-- ---- the chunk that is found

passed : (from : ℕ) (c : Chunk) (cs : List Chunk) → find (is_above from) cs ≡ find (is_above from) (drop (place_of from (map end_of_chunk cs)) cs) → is_above from c ≡ false
    → cond (is_above from c) (Some c) (find (is_above from) cs) ≡ find (is_above from) (drop (1 + place_of from (map end_of_chunk cs)) (c ∷ cs))
passed from c cs more is =
    let one : suc (place_of from (map end_of_chunk cs)) ≡ 1 + place_of from (map end_of_chunk cs) = omega arith in
    ap (λ (t : Bool). cond t (Some c) (find (is_above from) cs)) is ∙ more ∙ ap (λ (n : ℕ). find (is_above from) (drop n (c ∷ cs))) one

skip_by : (u b : Bool) (from : ℕ) (c : Chunk) (cs : List Chunk) → find (is_above from) cs ≡ find (is_above from) (drop (place_of from (map end_of_chunk cs)) cs) → is_above from c ≡ (u && b)
    → cond (is_above from c) (Some c) (find (is_above from) cs) ≡ find (is_above from) (drop (cond (not b) (1 + place_of from (map end_of_chunk cs)) 0) (c ∷ cs))
skip_by u true from c cs more is = refl
skip_by true false from c cs more is = passed from c cs more is
skip_by false false from c cs more is = passed from c cs more is

-- no chunk before the place passes
found_behind : (from : ℕ) (chunks : List Chunk) → next_above from chunks ≡ find (is_above from) (drop (place_of from (map end_of_chunk chunks)) chunks)
found_behind from [] = refl
found_behind from (c ∷ cs) = skip_by (is_user c.kind) (nat_lt from (end_of_chunk c)) from c cs (found_behind from cs) refl

found_at : (from place : ℕ) (chunks : List Chunk) (next : Option Chunk) → place ≡ place_of from (map end_of_chunk chunks) → next ≡ find (is_above from) (take (length chunks - place) (drop place chunks)) → next ≡ next_above from chunks
found_at from place chunks next is found =
    found ∙ ap (find (is_above from)) (take_rest chunks place) ∙ ap (λ (n : ℕ). find (is_above from) (drop n chunks)) is ∙ sym (found_behind from chunks)

pub is_next : (from place : ℕ) (chunks : List Chunk) (r : Result (Option Chunk) AllocError) → place ≡ place_of from (map end_of_chunk chunks)
    → IfOk r (λ next. next ≡ find (is_above from) (take (length chunks - place) (drop place chunks))) → IfOk r (λ next. next ≡ next_above from chunks)
is_next from place chunks (Ok next) is found = found_at from place chunks next is found
is_next from place chunks (Err e) is found = tt
