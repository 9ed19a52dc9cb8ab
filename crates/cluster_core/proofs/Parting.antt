-- Where two logs part.
use Rattle.std.proofs.Common.{◌≡◌, ◌≤◌, ◌<◌, ◌+◌, ◌==◌, ◌||◌, ◌⊎◌, ℕ, zero, suc, Bool, true, false, List, [], ◌∷◌, ◌++◌, length, take, drop, slice_index_or, refl, sym, ap, subst, ◌∙◌, inl, inr, arith}
use Rattle.std.specs.Prelude.{IsTrue, ◌↔◌}
use Rattle.std.proofs.lemmas.Grind.{common_steps}
use Rattle.chunk_format.specs.declared.chunk.Chunk.{Chunk}
use Rattle.chunk_format.specs.Chunks.{ChunkSpells, chunk_bytes, end_of_chunk}
use Rattle.chunk_format.specs.Logs.{GoesOn, IsLog, Linked, end_from, epoch_from, end_of}
use Rattle.chunk_format.specs.Faults.{BeginsWith}
use Rattle.chunk_format.proofs.LinkLaws.{linked_behind}
use Rattle.chunk_format.proofs.ReadLaws.{same_begun}
use Rattle.epoch_coordinator.specs.MemberSteps.{has_epoch}
use Rattle.replication_laws.specs.Openings.{Diverges, Agrees, Begins, Is_begun, Parts}
use Rattle.cluster_core.specs.Fronts.{Differ, Shares, SharesNone}

-- ---- one spelling

take_all : {A : Type 0} (xs : List A) → take (length xs) xs ≡ xs
take_all xs = grind (arith, common_steps)

pub whole_spelling : (c : Chunk) (bytes : List ℕ) → ChunkSpells c bytes → BeginsWith c (length bytes) bytes
whole_spelling c bytes p = (omega arith, subst (ChunkSpells c) (sym (take_all bytes)) p)

pub one_spelling : (c d : Chunk) (a b : List ℕ) → ChunkSpells c a → ChunkSpells d b → c ≡ d → a ≡ b
one_spelling c d a b p q e = p.spelled ∙ ap chunk_bytes e ∙ sym q.spelled

-- ---- what is common

next_is : (n : ℕ) → suc n ≡ n + 1
next_is n = omega arith

common_suc : {A : Type 0} (one other : List A) (at : ℕ) (x y : A) → at < length one → at < length other → take at one ≡ take at other → x ≡ slice_index_or one at x → y ≡ slice_index_or other at y → x ≡ y → take (suc at) one ≡ take (suc at) other
common_suc [] other at x y a b t p q e = absurd (omega (arith, a))
common_suc (f ∷ one) [] at x y a b t p q e = absurd (omega (arith, b))
common_suc {A} (f ∷ one) (l ∷ other) zero x y a b t p q e = ap (λ (z : A). z ∷ []) (sym p ∙ e ∙ q)
common_suc {A} (f ∷ one) (l ∷ other) (suc at) x y a b t p q e =
    let head : f ≡ l = cc t in
    let tail : take at one ≡ take at other = cc t in
    ap (λ (z : A). z ∷ take (suc at) one) head ∙ ap (λ (z : List A). l ∷ z) (common_suc one other at x y (omega (arith, a)) (omega (arith, b)) tail p q e)

pub common_next : {A : Type 0} (one other : List A) (at : ℕ) (x y : A) → at < length one → at < length other → take at one ≡ take at other → x ≡ slice_index_or one at x → y ≡ slice_index_or other at y → x ≡ y → take (at + 1) one ≡ take (at + 1) other
common_next one other at x y a b t p q e = subst (λ (n : ℕ). take n one ≡ take n other) (next_is at) (common_suc one other at x y a b t p q e)

take_drop : {A : Type 0} (n : ℕ) (xs : List A) → xs ≡ take n xs ++ drop n xs
take_drop n xs = grind (arith, common_steps)

drop_suc : {A : Type 0} (xs : List A) (at : ℕ) (x : A) → at < length xs → x ≡ slice_index_or xs at x → drop at xs ≡ x ∷ drop (suc at) xs
drop_suc [] at x lt e = absurd (omega (arith, lt))
drop_suc {A} (y ∷ xs) zero x lt e = ap (λ (z : A). z ∷ xs) (sym e)
drop_suc (y ∷ xs) (suc at) x lt e = drop_suc xs at x (omega (arith, lt)) e

drop_at : {A : Type 0} (xs : List A) (at : ℕ) (x : A) → at < length xs → x ≡ slice_index_or xs at x → drop at xs ≡ x ∷ drop (at + 1) xs
drop_at xs at x lt e = drop_suc xs at x lt e ∙ ap (λ (n : ℕ). x ∷ drop n xs) (next_is at)

-- ---- epochs that both have

either_epoch : (a b : Bool) → (a || b) ≡ true → (a ≡ true) ⊎ (b ≡ true)
either_epoch true b h = inl refl
either_epoch false b h = inr h

same_number : (a b : ℕ) → (a == b) ≡ true → a ≡ b
same_number a b h = grind arith

is_same_number : (a b : ℕ) → a ≡ b → (a == b) ≡ true
is_same_number a b h = grind arith

-- no chunk behind is of an earlier epoch
low : (at before epoch : ℕ) (log : List Chunk) → Linked at before log → has_epoch epoch log ≡ true → before ≤ epoch
low at before epoch [] l h = absurd (cc h)
low at before epoch (c ∷ log) l h = elim (either_epoch (c.epoch == epoch) (has_epoch epoch log) h) [
  | inl e ↦ (let s = same_number c.epoch epoch e in let n = l.not_before in omega (arith, s, n))
  | inr e ↦ (let s = low (end_of_chunk c) c.epoch epoch log l.behind e in let n = l.not_before in omega (arith, s, n))
]

rest_linked : (n : ℕ) (log : List Chunk) → IsLog log → Linked (end_from 0 (take n log)) (epoch_from 0 (take n log)) (drop n log)
rest_linked n log l = linked_behind 0 0 (take n log) (drop n log) (subst IsLog (take_drop n log) l)

epoch_or : (a b : Bool) → b ≡ true → (a || b) ≡ true
epoch_or true b h = refl
epoch_or false b h = h

front_or : (a b : Bool) → a ≡ true → (a || b) ≡ true
front_or true b h = refl
front_or false b h = absurd (cc h)

-- two chunks of one epoch
pub share_here : (one other : List Chunk) (i j : ℕ) (x y : Chunk) → i < length one → j < length other → x ≡ slice_index_or one i x → y ≡ slice_index_or other j y → x.epoch ≡ y.epoch → Shares (drop i one) (drop j other)
share_here one other i j x y a b p q e = (
  x.epoch,
  subst (λ (l : List Chunk). has_epoch x.epoch l ≡ true) (sym (drop_at one i x a p)) (front_or (x.epoch == x.epoch) (has_epoch x.epoch (drop (i + 1) one)) (is_same_number x.epoch x.epoch refl)),
  subst (λ (l : List Chunk). has_epoch x.epoch l ≡ true) (sym (drop_at other j y b q)) (front_or (y.epoch == x.epoch) (has_epoch x.epoch (drop (j + 1) other)) (is_same_number y.epoch x.epoch (sym e))),
)

-- what both have, both have behind the smaller of two epochs
pub next_shared : (one other : List Chunk) (i j epoch : ℕ) (x y : Chunk) → IsLog other → i < length one → j < length other → x ≡ slice_index_or one i x → y ≡ slice_index_or other j y → x.epoch < y.epoch
    → has_epoch epoch (drop i one) ≡ true → has_epoch epoch (drop j other) ≡ true → has_epoch epoch (drop (i + 1) one) ≡ true
next_shared one other i j epoch x y l a b p q less h k =
    let here : has_epoch epoch (x ∷ drop (i + 1) one) ≡ true = subst (λ (z : List Chunk). has_epoch epoch z ≡ true) (drop_at one i x a p) h in
    let there : has_epoch epoch (y ∷ drop (j + 1) other) ≡ true = subst (λ (z : List Chunk). has_epoch epoch z ≡ true) (drop_at other j y b q) k in
    let rest : Linked (end_from 0 (take j other)) (epoch_from 0 (take j other)) (y ∷ drop (j + 1) other) = subst (Linked (end_from 0 (take j other)) (epoch_from 0 (take j other))) (drop_at other j y b q) (rest_linked j other l) in
    let least : y.epoch ≤ epoch = elim (either_epoch (y.epoch == epoch) (has_epoch epoch (drop (j + 1) other)) there) [
      | inl e ↦ (let s = same_number y.epoch epoch e in omega (arith, s))
      | inr e ↦ low (end_of_chunk y) y.epoch epoch (drop (j + 1) other) rest.behind e
    ] in
    elim (either_epoch (x.epoch == epoch) (has_epoch epoch (drop (i + 1) one)) here) [
      | inl e ↦ absurd (let s = same_number x.epoch epoch e in omega (arith, s, least, less))
      | inr e ↦ e
    ]

-- so far nothing that both have was passed over
pub record Passed (one other : List Chunk) (at i j : ℕ) : Type 0 where
  pub each : (epoch : ℕ) → has_epoch epoch (drop at one) ≡ true → has_epoch epoch (drop at other) ≡ true → (has_epoch epoch (drop i one) ≡ true) × (has_epoch epoch (drop j other) ≡ true)
  pub from : at ≤ i
  pub other_from : at ≤ j
  pub within : i ≤ length one
  pub other_within : j ≤ length other

drop_past : {A : Type 0} (n : ℕ) (xs : List A) → length xs ≤ n → drop n xs ≡ []
drop_past n xs h = grind (arith, common_steps)

none_past : (n : ℕ) (log : List Chunk) (epoch : ℕ) → length log ≤ n → has_epoch epoch (drop n log) ≡ true → ⊥
none_past n log epoch le h = (let e : has_epoch epoch [] ≡ true = subst (λ (z : List Chunk). has_epoch epoch z ≡ true) (drop_past n log le) h in cc e)

pub none_left : (one other : List Chunk) (at i j : ℕ) → Passed one other at i j → length one ≤ i → SharesNone (drop at one) (drop at other)
none_left one other at i j p le epoch h k = none_past i one epoch le (p.each epoch h k).0

pub none_left_other : (one other : List Chunk) (at i j : ℕ) → Passed one other at i j → length other ≤ j → SharesNone (drop at one) (drop at other)
none_left_other one other at i j p le epoch h k = none_past j other epoch le (p.each epoch h k).1

has_behind : (n m : ℕ) (log : List Chunk) (epoch : ℕ) → n ≤ m → has_epoch epoch (drop m log) ≡ true → has_epoch epoch (drop n log) ≡ true
has_behind zero zero log epoch le h = h
has_behind n m [] epoch le h = absurd (cc (subst (λ (z : List Chunk). has_epoch epoch z ≡ true) (drop_past m [] (omega arith)) h))
has_behind zero (suc m) (c ∷ log) epoch le h = epoch_or (c.epoch == epoch) (has_epoch epoch log) (has_behind zero m log epoch (omega arith) h)
has_behind (suc n) zero (c ∷ log) epoch le h = absurd (omega (arith, le))
has_behind (suc n) (suc m) (c ∷ log) epoch le h = has_behind n m log epoch (omega (arith, le)) h

pub share_back : (one other : List Chunk) (at i j : ℕ) → Passed one other at i j → Shares (drop i one) (drop j other) → Shares (drop at one) (drop at other)
share_back one other at i j p s = (s.0, has_behind at i one s.0 p.from s.1, has_behind at j other s.0 p.other_from s.2)

pub pass_one : (one other : List Chunk) (at i j : ℕ) (x y : Chunk) → Passed one other at i j → IsLog other → i < length one → j < length other → x ≡ slice_index_or one i x → y ≡ slice_index_or other j y → x.epoch < y.epoch → Passed one other at (i + 1) j
pass_one one other at i j x y p l a b q r less = record {
  each = λ epoch h k. (let e = p.each epoch h k in (next_shared one other i j epoch x y l a b q r less e.0 e.1, e.1));
  from = (let z = p.from in omega (arith, z));
  other_from = p.other_from;
  within = omega (arith, a);
  other_within = p.other_within;
}

pub pass_other : (one other : List Chunk) (at i j : ℕ) (x y : Chunk) → Passed one other at i j → IsLog one → i < length one → j < length other → x ≡ slice_index_or one i x → y ≡ slice_index_or other j y → y.epoch < x.epoch → Passed one other at i (j + 1)
pass_other one other at i j x y p l a b q r less = record {
  each = λ epoch h k. (let e = p.each epoch h k in (e.0, next_shared other one j i epoch y x l b a r q less e.1 e.0));
  from = p.from;
  other_from = (let z = p.other_from in omega (arith, z));
  within = p.within;
  other_within = omega (arith, b);
}

-- ---- logs that agree, and logs that diverge

goes_whole : {A : Type 0} (one other : List A) (at : ℕ) → take at one ≡ take at other → length one ≤ at → GoesOn one other
goes_whole {A} one other at t le = (drop at other, take_drop at other ∙ ap (λ (z : List A). z ++ drop at other) (sym t ∙ whole one at le))
  where
    whole : (xs : List A) (n : ℕ) → length xs ≤ n → take n xs ≡ xs
    whole xs n h = grind (arith, common_steps)

pub agree_one : (one other : List Chunk) (at : ℕ) → take at one ≡ take at other → length one ≤ at → Agrees one other
agree_one one other at t le = Begins (goes_whole one other at t le)

pub agree_other : (one other : List Chunk) (at : ℕ) → take at one ≡ take at other → length other ≤ at → Agrees one other
agree_other one other at t le = Is_begun (goes_whole other one at (sym t) le)

parts_one : (list : List Chunk) (at : ℕ) (x : Chunk) → at < length list → x ≡ slice_index_or list at x → list ≡ take at list ++ x ∷ drop (at + 1) list
parts_one list at x lt e = take_drop at list ∙ ap (λ (z : List Chunk). take at list ++ z) (drop_at list at x lt e)

item : (list : List Chunk) (at : ℕ) → at < length list → (x : Chunk) × (x ≡ slice_index_or list at x)
item [] at lt = absurd (omega (arith, lt))
item (c ∷ list) zero lt = (c, refl)
item (c ∷ list) (suc at) lt = item list at (omega (arith, lt))

pub agree_parts : (one other : List Chunk) (at : ℕ) → take at one ≡ take at other → at < length one → at < length other → SharesNone (drop at one) (drop at other) → Agrees one other
agree_parts one other at t a b none =
    let x = item one at a in
    let y = item other at b in
    Parts (take at one) x.0 y.0 (drop (at + 1) one) (drop (at + 1) other) (parts_one one at x.0 a x.1) (parts_one other at y.0 b y.1 ∙ ap (λ (z : List Chunk). z ++ y.0 ∷ drop (at + 1) other) (sym t))
    (λ e h k. none e (subst (λ (z : List Chunk). has_epoch e z ≡ true) (sym (drop_at one at x.0 a x.1)) h) (subst (λ (z : List Chunk). has_epoch e z ≡ true) (sym (drop_at other at y.0 b y.1)) k))

pub diverge : (one other : List Chunk) (at offset : ℕ) (x : Chunk) → IsLog one → take at one ≡ take at other → at < length one → at < length other → Differ one other at → Shares (drop at one) (drop at other) → x ≡ slice_index_or one at x → offset ≡ x.first
    → Diverges one other offset
diverge one other at offset x l t a b differ s p o =
    let y = item other at b in
    let whole = parts_one one at x a p in
    let linked : Linked (end_of (take at one)) (epoch_from 0 (take at one)) (x ∷ drop (at + 1) one) = linked_behind 0 0 (take at one) (x ∷ drop (at + 1) one) (subst IsLog whole l) in
    record {
      front = take at one;
      x = x;
      y = y.0;
      xs = drop (at + 1) one;
      ys = drop (at + 1) other;
      a_is = whole;
      b_is = parts_one other at y.0 b y.1 ∙ ap (λ (z : List Chunk). z ++ y.0 ∷ drop (at + 1) other) (sym t);
      at = sym linked.begins ∙ sym o;
      differ = λ e. differ x y.0 a b p y.1 e;
      epoch = s.0;
      in_a = subst (λ (z : List Chunk). has_epoch s.0 z ≡ true) (drop_at one at x a p) s.1;
      in_b = subst (λ (z : List Chunk). has_epoch s.0 z ≡ true) (drop_at other at y.0 b y.1) s.2;
    }

pub same_spelled : (b : Bool) (c d : Chunk) (x y : List ℕ) → ChunkSpells c x → ChunkSpells d y → (IsTrue b ↔ (x ≡ y)) → IsTrue b ↔ (c ≡ d)
same_spelled b c d x y p q h =
    (λ t. (let e : x ≡ y = h.0 t in (same_begun c d (length x) (length y) y (subst (λ (z : List ℕ). BeginsWith c (length x) z) e (whole_spelling c x p)) (whole_spelling d y q)).0), λ e. h.1 (one_spelling c d x y p q e))
