-- Pieces that are full.
use Rattle.std.proofs.Common.{◌≡◌, ℕ, zero, suc, ◌+◌, ◌*◌, ◌-◌, ◌<◌, ◌≤◌, List, [], ◌∷◌, ◌++◌, length, take, set, get_or, Vec, refl, sym, ◌∙◌, ap, subst, arith, length-append}
use Rattle.std.proofs.lemmas.List.{take-append-le, append-nil}
use Rattle.std.proofs.lemmas.List.Concat.{flat_map-append}
use Rattle.std.specs.declared.alloc.Global.{Global}
use Rattle.byte_pieces.specs.Joined.{items_of, joined, all_bytes, AllFull, InPieces}

-- one piece more
pub joined_more : (xs more : List (Vec ℕ Global)) (v : Vec ℕ Global) → more ≡ xs ++ v ∷ [] → joined more ≡ joined xs ++ v.items
joined_more xs more v is = ap joined is ∙ flat_map-append items_of xs (v ∷ []) ∙ ap (λ (l : List ℕ). joined xs ++ l) (append-nil v.items)

pub take_plus : (xs ys : List ℕ) (n : ℕ) → take (length xs + n) (xs ++ ys) ≡ xs ++ take n ys
take_plus [] ys n = ap (λ (k : ℕ). take k ys) (let e : length (let none : List ℕ = [] in none) + n ≡ n = omega arith in e)
take_plus (x ∷ xs) ys n =
    let e : length (x ∷ xs) + n ≡ suc (length xs + n) = omega arith in
    ap (λ (k : ℕ). take k (x ∷ (xs ++ ys))) e ∙ ap (λ (l : List ℕ). x ∷ l) (take_plus xs ys n)

pub full_push : (xs : List (Vec ℕ Global)) (v : Vec ℕ Global) → AllFull xs → length v.items ≡ 1048576 → AllFull (xs ++ v ∷ [])
full_push [] v full size = (size, tt)
full_push (x ∷ xs) v full size = (full.0, full_push xs v full.1 size)

pub full_pop : (xs : List (Vec ℕ Global)) (v : Vec ℕ Global) → AllFull (xs ++ v ∷ []) → AllFull xs × (length v.items ≡ 1048576)
full_pop [] v full = (tt, full.0)
full_pop (x ∷ xs) v full = let rest = full_pop xs v full.1 in ((full.0, rest.0), rest.1)

pub full_set : (xs : List (Vec ℕ Global)) (i : ℕ) (v w : Vec ℕ Global) → AllFull xs → i < length xs → v ≡ get_or xs i v → length w.items ≡ length v.items → AllFull (set xs i w)
full_set [] i v w full lt at same = absurd (omega arith)
full_set (x ∷ xs) zero v w full lt at same = (same ∙ ap (λ (p : Vec ℕ Global). length p.items) at ∙ full.0, full.1)
full_set (x ∷ xs) (suc i) v w full lt at same = (full.0, full_set xs i v w full.1 (omega arith) at same)

pub full_length : (xs : List (Vec ℕ Global)) → AllFull xs → length (joined xs) ≡ length xs * 1048576
full_length [] full = refl
full_length (x ∷ xs) full = omega (arith, length-append x.items (joined xs), full.0, full_length xs full.1)

-- one piece fewer
pub popped : (old new : List (Vec ℕ Global)) (v : Vec ℕ Global) (last : List ℕ) → old ≡ new ++ v ∷ [] → InPieces old last → InPieces new v.items
popped old new v last is pieces =
    let parts = full_pop new v (subst AllFull is pieces.whole) in
    record { whole = parts.0; no_more = omega (arith, parts.1) }

-- how many pieces there are
pub piece_count : (full : List (Vec ℕ Global)) (last : List ℕ) → InPieces full last → (length full * 1048576 ≤ length (all_bytes full last)) × (length (all_bytes full last) ≤ (length full + 1) * 1048576)
piece_count full last pieces =
    let size : length (all_bytes full last) ≡ length (joined full) + length last = length-append (joined full) last in
    let all : length (joined full) ≡ length full * 1048576 = full_length full pieces.whole in
    (omega (arith, size, all), omega (arith, size, all, pieces.no_more))

-- one piece fewer of the bytes that are to stay
pub cut_step : (old new : List (Vec ℕ Global)) (v : Vec ℕ Global) (last all : List ℕ) (size before : ℕ) → old ≡ new ++ v ∷ [] → before ≡ length (joined old) → size < before → take size (all_bytes old last) ≡ take size all → (before - length v.items ≡ length (joined new)) × (take size (all_bytes new v.items) ≡ take size all)
cut_step old new v last all size before is end less so_far =
    let more : joined old ≡ joined new ++ v.items = joined_more new old v is in (
      omega (arith, end, ap length more, length-append (joined new) v.items),
      ap (λ (l : List ℕ). take size l) (sym more) ∙ sym (take-append-le size (joined old) last (omega arith)) ∙ so_far,
    )

pub cut_end : (full : List (Vec ℕ Global)) (last end all : List ℕ) (size before : ℕ) → before ≡ length (joined full) → before ≤ size → end ≡ take (size - before) last → take size (all_bytes full last) ≡ take size all → all_bytes full end ≡ take size all
cut_end full last end all size before is le cut so_far =
    let split : size ≡ length (joined full) + (size - before) = omega (arith, is) in
    ap (λ (l : List ℕ). joined full ++ l) cut ∙ sym (take_plus (joined full) last (size - before)) ∙ ap (λ (k : ℕ). take k (all_bytes full last)) (sym split) ∙ so_far

pub no_pieces : (full : List (Vec ℕ Global)) (size before : ℕ) → before ≡ length (joined full) → size < before → length full ≡ 0 → ⊥
no_pieces [] size before is less none = omega (arith, is)
no_pieces (p ∷ ps) size before is less none = omega (arith, none)

-- one piece more, of a last one that has no room
pub pushed : (old new : List (Vec ℕ Global)) (last piece : Vec ℕ Global) (left : List ℕ) → new ≡ old ++ piece ∷ [] → piece ≡ last → 1048576 ≤ length last.items → left ≡ [] → InPieces old last.items → InPieces new left
pushed old new last piece left is same enough none pieces = record {
  whole = subst AllFull (sym is) (full_push old piece pieces.whole (omega (arith, ap (λ (v : Vec ℕ Global). length v.items) same, enough, pieces.no_more)));
  no_more = omega (arith, ap length none);
}
