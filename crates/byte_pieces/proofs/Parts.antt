-- Loops over pieces.
use Rattle.std.proofs.Common.{◌≡◌, inl, inr, ℕ, zero, suc, ◌+◌, ◌-◌, ◌≤◌, ◌<◌, min, List, [], ◌∷◌, ◌++◌, length, take, drop, set, get_or, Vec, sym, ◌∙◌, ap, arith, length-append, length-drop, take-append-drop, append_assoc}
use Rattle.std.proofs.lemmas.List.{take_all, drop_all, drop_at, drop-drop, take_at, length-take, append-nil, drop_min, take-append-le, take_more, drop_more, take_more_set, drop-set-lt}
use Rattle.std.proofs.lemmas.List.Concat.{flat_map-append}
use Rattle.std.proofs.lemmas.Bool.{cases_lt}
use borrow.Rule.Slice.PartMut.{put_mid}
use Rattle.std.specs.declared.alloc.Global.{Global}
use Rattle.byte_pieces.specs.Over.{over}
use Rattle.byte_pieces.specs.Joined.{items_of, joined, all_bytes, AllFull}
use Rattle.byte_pieces.proofs.Full.{full_set, joined_more, take_plus}
use Rattle.byte_pieces.specs.Laid.{lay}
use Rattle.byte_pieces.proofs.Laying.{lay_append, lay_mid, length_lay}

-- a slice of which a part was written
pub put_flat : (a k : ℕ) (xs ys : List ℕ) → put_mid a k xs ys ≡ take a xs ++ (ys ++ drop (a + k) xs)
put_flat a k xs ys = ap (λ (l : List ℕ). take a xs ++ (ys ++ l)) (drop-drop k a xs)

pub put_end : (a : ℕ) (xs ys : List ℕ) → put_mid a (length xs - a) xs ys ≡ take a xs ++ ys
put_end a xs ys = put_flat a (length xs - a) xs ys ∙ ap (λ (l : List ℕ). take a xs ++ (ys ++ l)) (drop_all (a + (length xs - a)) xs (omega arith)) ∙ ap (λ (l : List ℕ). take a xs ++ l) (append-nil ys)

drop_count : (bytes : List ℕ) (n d : ℕ) → d ≡ min (length bytes) n → drop d bytes ≡ drop n bytes
drop_count bytes n d is = ap (λ (k : ℕ). drop k bytes) (let e : d ≡ min n (length bytes) = omega arith in e) ∙ drop_min n bytes

pub more_at : (xs : List (Vec ℕ Global)) (i : ℕ) (v : Vec ℕ Global) → i < length xs → v ≡ get_or xs i v → take (i + 1) xs ≡ take i xs ++ v ∷ []
more_at xs i v lt at = take_more xs i v lt ∙ ap (λ (x : Vec ℕ Global). take i xs ++ x ∷ []) (sym at)

rest_at : (xs : List (Vec ℕ Global)) (i : ℕ) (v : Vec ℕ Global) → i < length xs → v ≡ get_or xs i v → drop i xs ≡ v ∷ drop (i + 1) xs
rest_at xs i v lt at = drop_more xs i v lt ∙ ap (λ (x : Vec ℕ Global). x ∷ drop (i + 1) xs) (sym at)

from_drop_suc : (xs : List (Vec ℕ Global)) (i : ℕ) (v : Vec ℕ Global) (ys : List (Vec ℕ Global)) → drop i xs ≡ v ∷ ys → (take (suc i) xs ≡ take i xs ++ v ∷ []) × (drop (suc i) xs ≡ ys)
from_drop_suc [] zero v ys is = cc
from_drop_suc [] (suc i) v ys is = cc
from_drop_suc (x ∷ xs) zero v ys is = let same : x ≡ v = cc in let rest : xs ≡ ys = cc in (ap (λ (y : Vec ℕ Global). y ∷ []) same, rest)
from_drop_suc (x ∷ xs) (suc i) v ys is = let found = from_drop_suc xs i v ys is in (ap (λ (l : List (Vec ℕ Global)). x ∷ l) found.0, found.1)

from_drop : (xs : List (Vec ℕ Global)) (i : ℕ) (v : Vec ℕ Global) (ys : List (Vec ℕ Global)) → drop i xs ≡ v ∷ ys → (take (i + 1) xs ≡ take i xs ++ v ∷ []) × (drop (i + 1) xs ≡ ys)
from_drop xs i v ys is = let found = from_drop_suc xs i v ys is in let e : i + 1 ≡ suc i = omega arith in (ap (λ (k : ℕ). take k xs) e ∙ found.0, ap (λ (k : ℕ). drop k xs) e ∙ found.1)

-- the pieces up to one and this one are no longer than all
pub piece_fits : (xs : List (Vec ℕ Global)) (i : ℕ) (v : Vec ℕ Global) → i < length xs → v ≡ get_or xs i v → length (joined (take i xs)) + length v.items ≤ length (joined xs)
piece_fits xs i v lt at =
    let parts : joined xs ≡ joined (take (i + 1) xs) ++ joined (drop (i + 1) xs) = ap joined (sym (take-append-drop (i + 1) xs)) ∙ flat_map-append items_of (take (i + 1) xs) (drop (i + 1) xs) in
    let one : joined (take (i + 1) xs) ≡ joined (take i xs) ++ v.items = joined_more (take i xs) (take (i + 1) xs) v (more_at xs i v lt at) in
    omega (arith, ap length parts, length-append (joined (take (i + 1) xs)) (joined (drop (i + 1) xs)), ap length one, length-append (joined (take i xs)) v.items)

-- a loop that puts bytes over those of pieces
pub record LayLoop (now start : List (Vec ℕ Global)) (place : ℕ) (bytes : List ℕ) (i skip count : ℕ) : Type 0 where
  pub front : joined (take i now) ≡ lay (joined (take i start)) place bytes
  pub rest : drop i now ≡ drop i start
  pub to_skip : skip ≡ place - length (joined (take i start))
  pub so_far : count ≡ min (length bytes) (length (joined (take i start)) - place)
  pub full : AllFull start → AllFull now

pub lay_step : (now start : List (Vec ℕ Global)) (place : ℕ) (bytes : List ℕ) (i skip count : ℕ) (v w : Vec ℕ Global) (n after : ℕ)
    → LayLoop now start place bytes i skip count
    → i < length now
    → v ≡ get_or now i v
    → w.items ≡ lay v.items skip (drop count bytes)
    → n ≡ min (length (drop count bytes)) (length v.items - skip)
    → after ≡ skip - length w.items
    → LayLoop (set now i w) start place bytes (i + 1) after (count + n)
lay_step now start place bytes i skip count v w n after loop lt at laid put skipped =
    let J = joined (take i start) in
    let here : drop i now ≡ v ∷ drop (i + 1) now = rest_at now i v lt at in
    let there : drop i start ≡ v ∷ drop (i + 1) now = sym loop.rest ∙ here in
    let found = from_drop start i v (drop (i + 1) now) there in
    let whole : joined (take (i + 1) start) ≡ J ++ v.items = joined_more (take i start) (take (i + 1) start) v found.0 in
    let size : length (joined (take (i + 1) start)) ≡ length J + length v.items = ap length whole ∙ length-append J v.items in
    let item : w.items ≡ lay v.items (place - length J) (drop (length J - place) bytes) =
    laid ∙ ap (λ (k : ℕ). lay v.items k (drop count bytes)) loop.to_skip ∙ ap (λ (l : List ℕ). lay v.items (place - length J) l) (drop_count bytes (length J - place) count loop.so_far) in
    let same_size : length w.items ≡ length v.items = ap length laid ∙ length_lay v.items skip (drop count bytes) in
    record {
      front = joined_more (take i now) (take (i + 1) (set now i w)) w (take_more_set now i w lt)
          ∙ ap (λ (l : List ℕ). l ++ w.items) loop.front
          ∙ ap (λ (l : List ℕ). lay J place bytes ++ l) item
          ∙ sym (lay_append J v.items place bytes)
          ∙ ap (λ (l : List ℕ). lay l place bytes) (sym whole);
      rest = drop-set-lt (i + 1) now i w (omega arith) ∙ sym found.1;
      to_skip = omega (arith, loop.to_skip, size, skipped, same_size);
      so_far = omega (arith, loop.to_skip, loop.so_far, size, put, length-drop count bytes);
      full = λ whole. full_set now i v w (loop.full whole) lt at same_size;
    }

-- all pieces, and the last one
pub lay_last : (full new : List (Vec ℕ Global)) (last end : List ℕ) (place : ℕ) (bytes : List ℕ) (skip count : ℕ)
    → joined new ≡ lay (joined full) place bytes
    → count ≡ min (length bytes) (length (joined full) - place)
    → skip ≡ place - length (joined full)
    → end ≡ lay last skip (drop count bytes)
    → place + length bytes ≤ length (all_bytes full last)
    → all_bytes new end ≡ over (all_bytes full last) place bytes
lay_last full new last end place bytes skip count front so_far to_skip laid le =
    let J = joined full in
    let item : end ≡ lay last (place - length J) (drop (length J - place) bytes) =
    laid ∙ ap (λ (k : ℕ). lay last k (drop count bytes)) to_skip ∙ ap (λ (l : List ℕ). lay last (place - length J) l) (drop_count bytes (length J - place) count so_far) in
    ap (λ (l : List ℕ). l ++ end) front
    ∙ ap (λ (l : List ℕ). lay J place bytes ++ l) item
    ∙ sym (lay_append J last place bytes)
    ∙ lay_mid (J ++ last) place bytes (length bytes) (omega arith) (omega arith)
    ∙ ap (λ (l : List ℕ). take place (J ++ last) ++ (l ++ drop (place + length bytes) (J ++ last))) (take_all (length bytes) bytes (omega arith))
    ∙ simp append_assoc

-- a list that is read from a place on, in two parts
drop_parts : (xs ys : List ℕ) (place : ℕ) → drop place (xs ++ ys) ≡ drop place xs ++ drop (place - length xs) ys
drop_parts [] ys place = ap (λ (k : ℕ). drop k ys) (let e : place ≡ place - length (let none : List ℕ = [] in none) = omega arith in e) ∙ ap (λ (l : List ℕ). l ++ drop (place - length (let none : List ℕ = [] in none)) ys) (sym (drop_all place [] (omega arith)))
drop_parts (x ∷ xs) ys zero = ap (λ (k : ℕ). x ∷ (xs ++ drop k ys)) (let e : 0 ≡ 0 - length (x ∷ xs) = omega arith in e)
drop_parts (x ∷ xs) ys (suc place) = drop_parts xs ys place ∙ ap (λ (k : ℕ). drop place xs ++ drop k ys) (let e : place - length xs ≡ suc place - length (x ∷ xs) = omega arith in e)

pub record ReadLoop (pieces : List (Vec ℕ Global)) (place : ℕ) (buf : List ℕ) (i skip count : ℕ) : Type 0 where
  pub read : take count buf ≡ take count (drop place (joined (take i pieces)))
  pub to_skip : skip ≡ place - length (joined (take i pieces))
  pub so_far : count ≡ min (length buf) (length (joined (take i pieces)) - place)

-- a buffer of which a front was filled from J, and then the rest from p
pub read_parts : (J p buf new tail : List ℕ) (place skip count n : ℕ)
    → take count buf ≡ take count (drop place J)
    → count ≡ min (length buf) (length J - place)
    → skip ≡ place - length J
    → new ≡ take count buf ++ tail
    → tail ≡ take n (drop skip p) ++ drop n (drop count buf)
    → n ≡ min (length (drop count buf)) (length p - skip)
    → take (count + n) new ≡ take (count + n) (drop place (J ++ p))
read_parts J p buf new tail place skip count n read so_far to_skip is rest put =
    let A = drop place J in
    let B = drop skip p in
    let size : length A ≡ length J - place = length-drop place J in
    let left : length (drop count buf) ≡ length buf - count = length-drop count buf in
    let whole : drop place (J ++ p) ≡ A ++ B = drop_parts J p place ∙ ap (λ (k : ℕ). A ++ drop k p) (sym to_skip) in
    let filled : length (take count buf) ≡ count = length-take count buf ∙ (let e : min count (length buf) ≡ count = omega arith in e) in
    elim (cases_lt (length A) (length buf)) [
      | inl more ↦
          let all : count ≡ length A = omega arith in
          let front : take count buf ≡ A = read ∙ take_all count A (omega arith) in
          let got : length (take n B) ≡ n = length-take n B ∙ (let e : min n (length B) ≡ n = omega (arith, length-drop skip p) in e) in
          let left_is : new ≡ A ++ (take n B ++ drop n (drop count buf)) = is ∙ ap (λ (l : List ℕ). l ++ tail) front ∙ ap (λ (l : List ℕ). A ++ l) rest in
          ap (λ (k : ℕ). take (k + n) new) all
          ∙ ap (λ (l : List ℕ). take (length A + n) l) left_is
          ∙ take_plus A (take n B ++ drop n (drop count buf)) n
          ∙ ap (λ (l : List ℕ). A ++ l) (take_at (take n B) (drop n (drop count buf)) n got)
          ∙ sym (take_plus A B n)
          ∙ ap (λ (l : List ℕ). take (length A + n) l) (sym whole)
          ∙ ap (λ (k : ℕ). take (k + n) (drop place (J ++ p))) (sym all)
      | inr full ↦
          let none : count + n ≡ count = omega arith in
          ap (λ (k : ℕ). take k new) none
          ∙ ap (λ (l : List ℕ). take count l) is
          ∙ take_at (take count buf) tail count filled
          ∙ read
          ∙ sym (take-append-le count A B (omega arith))
          ∙ ap (λ (l : List ℕ). take count l) (sym whole)
          ∙ ap (λ (k : ℕ). take k (drop place (J ++ p))) (sym none)
    ]

-- a buffer that was filled from its count on
pub filled_size : (p buf tail : List ℕ) (skip count n : ℕ) → count ≤ length buf → tail ≡ take n (drop skip p) ++ drop n (drop count buf) → n ≡ min (length (drop count buf)) (length p - skip) → length (take count buf ++ tail) ≡ length buf
filled_size p buf tail skip count n le rest put =
    omega (arith, length-append (take count buf) tail, length-take count buf, ap length rest, length-append (take n (drop skip p)) (drop n (drop count buf)), length-take n (drop skip p), length-drop skip p, length-drop n (drop count buf), length-drop count buf)

pub read_step : (pieces : List (Vec ℕ Global)) (place : ℕ) (buf new tail : List ℕ) (i skip count n after : ℕ) (v : Vec ℕ Global)
    → ReadLoop pieces place buf i skip count
    → i < length pieces
    → v ≡ get_or pieces i v
    → new ≡ take count buf ++ tail
    → tail ≡ take n (drop skip v.items) ++ drop n (drop count buf)
    → n ≡ min (length (drop count buf)) (length v.items - skip)
    → after ≡ skip - length v.items
    → ReadLoop pieces place new (i + 1) after (count + n)
read_step pieces place buf new tail i skip count n after v loop lt at is rest put skipped =
    let J = joined (take i pieces) in
    let whole : joined (take (i + 1) pieces) ≡ J ++ v.items = joined_more (take i pieces) (take (i + 1) pieces) v (more_at pieces i v lt at) in
    let size : length (joined (take (i + 1) pieces)) ≡ length J + length v.items = ap length whole ∙ length-append J v.items in
    let same : length new ≡ length buf = ap length is ∙ filled_size v.items buf tail skip count n (omega (arith, loop.so_far)) rest put in
    record {
      read = read_parts J v.items buf new tail place skip count n loop.read loop.so_far loop.to_skip is rest put ∙ ap (λ (l : List ℕ). take (count + n) (drop place l)) (sym whole);
      to_skip = omega (arith, loop.to_skip, size, skipped);
      so_far = omega (arith, loop.to_skip, loop.so_far, size, put, same, length-drop count buf);
    }

pub read_last : (J p buf new tail : List ℕ) (place skip count n : ℕ)
    → take count buf ≡ take count (drop place J)
    → count ≡ min (length buf) (length J - place)
    → skip ≡ place - length J
    → new ≡ take count buf ++ tail
    → tail ≡ take n (drop skip p) ++ drop n (drop count buf)
    → n ≡ min (length (drop count buf)) (length p - skip)
    → place + length buf ≤ length (J ++ p)
    → new ≡ take (length buf) (drop place (J ++ p))
read_last J p buf new tail place skip count n read so_far to_skip is rest put within =
    let same : length new ≡ length buf = ap length is ∙ filled_size p buf tail skip count n (omega arith) rest put in
    let all : count + n ≡ length buf = omega (arith, length-append J p, length-drop count buf) in
    sym (take_all (length buf) new (omega arith))
    ∙ ap (λ (k : ℕ). take k new) (sym all)
    ∙ read_parts J p buf new tail place skip count n read so_far to_skip is rest put
    ∙ ap (λ (k : ℕ). take k (drop place (J ++ p))) all

take_two : (d k : ℕ) (xs : List ℕ) → take (d + k) xs ≡ take d xs ++ take k (drop d xs)
take_two zero k xs = ap (λ (n : ℕ). take n xs) (let e : 0 + k ≡ k = omega arith in e)
take_two (suc d) k [] = take_all (suc d + k) [] (omega arith) ∙ sym (take_all k [] (omega arith))
take_two (suc d) k (x ∷ xs) = ap (λ (n : ℕ). take n (x ∷ xs)) (let e : suc d + k ≡ suc (d + k) = omega arith in e) ∙ ap (λ (l : List ℕ). x ∷ l) (take_two d k xs)

-- bytes that were added, and some more of them
pub added_more : (base now new bytes : List ℕ) (d k : ℕ) → now ≡ base ++ take d bytes → new ≡ now ++ take k (drop d bytes) → new ≡ base ++ take (d + k) bytes
added_more base now new bytes d k so_far more =
    more ∙ ap (λ (l : List ℕ). l ++ take k (drop d bytes)) so_far ∙ append_assoc base (take d bytes) (take k (drop d bytes)) ∙ ap (λ (l : List ℕ). base ++ l) (sym (take_two d k bytes))

-- a write in two parts: what is past the end is added, and then the rest put over what is there
pub over_parts : (base bytes : List ℕ) (place inside : ℕ) → place ≤ length base → inside ≡ min (length base - place) (length bytes) → over (base ++ drop inside bytes) place (take inside bytes) ≡ over base place bytes
over_parts base bytes place inside le is =
    let T = take inside bytes in
    let D = drop inside bytes in
    let size : length T ≡ inside = length-take inside bytes ∙ (let e : min inside (length bytes) ≡ inside = omega arith in e) in
    elim (cases_lt (length base - place) (length bytes)) [
      | inl more ↦
          let end : length base ≡ place + length T = omega arith in
          ap (λ (l : List ℕ). l ++ T ++ drop (place + length T) (base ++ D)) (take-append-le place base D le)
          ∙ ap (λ (l : List ℕ). take place base ++ T ++ l) (drop_at base D (place + length T) end)
          ∙ append_assoc (take place base) T D
          ∙ ap (λ (l : List ℕ). take place base ++ l) (take-append-drop inside bytes)
          ∙ sym (append-nil (take place base ++ bytes))
          ∙ ap (λ (l : List ℕ). take place base ++ bytes ++ l) (sym (drop_all (place + length bytes) base (omega arith)))
      | inr all ↦
          let none : D ≡ [] = drop_all inside bytes (omega arith) in
          let whole : T ≡ bytes = take_all inside bytes (omega arith) in
          ap (λ (l : List ℕ). over (base ++ l) place T) none
          ∙ ap (λ (l : List ℕ). over l place T) (append-nil base)
          ∙ ap (λ (l : List ℕ). over base place l) whole
    ]
