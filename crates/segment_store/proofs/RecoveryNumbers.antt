-- The numbers of segments, and the pass that removes those without records.
use Rattle.std.proofs.Common.{◌≡◌, ◌≢◌, ◌⊎◌, inl, inr, ℕ, zero, suc, ◌+◌, ◌-◌, ◌≤◌, ◌<◌, ◌^◌, List, [], ◌∷◌, ◌++◌, length, take, drop, get_or, Some, None, slice_get, Bool, false, refl, sym, ◌∙◌, ap, subst, arith, append_assoc, ◌==◌}
use Rattle.std.proofs.lemmas.Bool.{cases_eq, cases_lt}
use Rattle.std.proofs.lemmas.List.{append-nil, take_more, take_all, drop_all, drop_more}
use Rattle.std.proofs.lemmas.List.Elements.{Contains-append_left, Contains-append_right, Contains-append_cases, Contains-push, Contains-push_cases, All-nil, All-push, All-get_or, All-head, All-tail}
use Rattle.std.proofs.lemmas.List.Filters.{All-dedup}
use Rattle.std.proofs.lemmas.List.Kept.{Contains-dedup_nat}
use Rattle.std.proofs.lemmas.List.Sorted.{All-permutation, Contains-permutation}
use Rattle.std.proofs.lemmas.Map.Keys.{IsStrictlyIncreasing-dedup}
use Rattle.std.specs.Prelude.{IsTrue, ◌↔◌}
use Rattle.std.specs.List.{All, Contains, dedup}
use Rattle.std.specs.List.Sorted.{IsPermutation, IsSorted, IsStrictlyIncreasing}
use Rattle.std.specs.Ordering.{nat_cmp}
use Rattle.disk_calls.specs.declared.file_id.FileId.{FileId}
use Rattle.disk_calls.specs.declared.disk.DiskSize.TheVariants as disk_size
use Rattle.disk_calls.specs.Disk.{DiskState, Image, bytes_of, Looks, IsThere, AreNames, Sizes}
use Rattle.segment_pairs.specs.Log.{Pair}
use Rattle.segment_pairs.specs.Held.{segment_file, index_file, files_of, Missing, BesidesPair, KeepsLog, GoneOrBefore}
use Rattle.segment_pairs.proofs.Making.{none_short}
use Rattle.segment_pairs.proofs.Lifting.{missing_stays, other_index}
use Rattle.segment_pairs.proofs.Moving.{apart_back}
use Rattle.segment_store.specs.Recovery.{AddsNumber, AreNumbers, Clears, Covers, HasNumbers, HasRecords, Listed, NoneReturns, Rising, SameOrNone, Sifts, number_of}
use Rattle.segment_store.proofs.Table.{get_behind, get_front}
use Rattle.segment_store.proofs.RecoveryGhosts.{ghost_keeps, keeps_then, looks_keep, none_seen, same_besides, same_keeps, same_looks}

-- ---- rising numbers

pub in_cons : (x n : ℕ) (xs : List ℕ) → Contains (x ∷ xs) n → (x ≡ n) ⊎ Contains xs n
in_cons x n xs has = elim (Contains-append_cases (x ∷ []) xs n has) [
  | inr rest ↦ inr rest
  | inl one ↦ elim (Contains-push_cases [] x n one) [
    | inl none ↦ absurd (omega (arith, none.1))
    | inr is ↦ inl is
  ]
]

pub in_none : (n : ℕ) → Contains [] n → ⊥
in_none n has = omega (arith, has.1)

pub rising_above : (low n : ℕ) (xs : List ℕ) → Rising low xs → Contains xs n → low ≤ n
rising_above low n [] rising has = absurd (in_none n has)
rising_above low n (x ∷ xs) rising has = elim (in_cons x n xs has) [
  | inl is ↦ omega (arith, is, rising.0)
  | inr rest ↦ omega (arith, rising.0, rising_above (x + 1) n xs rising.2 rest)
]

pub rising_low : (low more : ℕ) (xs : List ℕ) → low ≤ more → Rising more xs → Rising low xs
rising_low low more [] le rising = tt
rising_low low more (x ∷ xs) le rising = (omega (arith, le, rising.0), rising.1, rising.2)

-- one is taken away
pub rising_drop : (low n : ℕ) (kept rest : List ℕ) → Rising low (kept ++ n ∷ rest) → Rising low (kept ++ rest)
rising_drop low n [] rest rising = rising_low low (n + 1) rest (omega (arith, rising.0)) rising.2
rising_drop low n (x ∷ kept) rest rising = (rising.0, rising.1, rising_drop (x + 1) n kept rest rising.2)

pub rising_at : (low n : ℕ) (kept rest : List ℕ) → Rising low (kept ++ n ∷ rest) → low ≤ n
rising_at low n [] rest rising = rising.0
rising_at low n (x ∷ kept) rest rising = omega (arith, rising.0, rising_at (x + 1) n kept rest rising.2)

-- this holds of each
abbrev pub Each : (ℕ → Type 0) → List ℕ → Type 0
Each P [] = Unit {0}
Each P (x ∷ xs) = P x × Each P xs

pub each_push : (P : ℕ → Type 0) (xs : List ℕ) (x : ℕ) → Each P xs → P x → Each P (xs ++ x ∷ [])
each_push P [] x each one = (one, tt)
each_push P (y ∷ xs) x each one = (each.0, each_push P xs x each.1 one)

pub each_then : (P Q : ℕ → Type 0) (xs : List ℕ) → ((x : ℕ) → P x → Q x) → Each P xs → Each Q xs
each_then P Q [] step each = tt
each_then P Q (x ∷ xs) step each = (step x each.0, each_then P Q xs step each.1)

-- those before a number keep what other numbers keep
each_before : (P Q : ℕ → Type 0) (low n : ℕ) (kept rest : List ℕ) → Rising low (kept ++ n ∷ rest) → ((x : ℕ) → x ≢ n → P x → Q x) → Each P kept → Each Q kept
each_before P Q low n [] rest rising step each = tt
each_before P Q low n (x ∷ kept) rest rising step each =
    let at = rising_at (x + 1) n kept rest rising.2 in
    (step x (λ e. absurd (omega (arith, e, at))) each.0, each_before P Q (x + 1) n kept rest rising.2 step each.1)

-- the next number of a list
pub next_number : (k : ℕ) (xs : List ℕ) (x : ℕ) → k < length xs → x ≡ get_or xs k 0 → drop k xs ≡ x ∷ drop (k + 1) xs
next_number k xs x lt is = drop_more xs k 0 lt ∙ ap (λ (y : ℕ). y ∷ drop (k + 1) xs) (sym is)

-- ---- the pass

pub record ClearsTo (stream : ℕ) (kept rest : List ℕ) (old now : DiskState) : Type 0 where
  pub rising : Rising 1 (kept ++ rest)
  pub covers : Covers stream (kept ++ rest) now
  pub records : Each (HasRecords stream now) kept
  pub same : (n : ℕ) → SameOrNone stream old now n
  pub keeps : KeepsLog stream old now

pub clears_start : (stream : ℕ) (kept numbers : List ℕ) (s : DiskState) → kept ≡ [] → Rising 1 numbers → Covers stream numbers s → ClearsTo stream kept numbers s s
clears_start stream kept numbers s none rising covers =
    let clears : ClearsTo stream [] numbers s s = record { rising = rising; covers = covers; records = tt; same = λ n. inl refl; keeps = same_keeps stream s } in
    subst (λ (l : List ℕ). ClearsTo stream l numbers s s) (sym none) clears

pub missing_looks : (stream n : ℕ) (s t : DiskState) → Looks s t → Missing stream n s → Missing stream n t
missing_looks stream n s t looks missing = record { segment = looks.seen (segment_file stream n) ∙ missing.segment; index = λ c left. missing.index c (looks.images (index_file stream n) c left) }

records_looks : (stream n : ℕ) (s t : DiskState) → Looks s t → HasRecords stream s n → HasRecords stream t n
records_looks stream n s t looks has = subst (λ (c : Image). 8 < length (bytes_of c)) (sym (looks.seen (index_file stream n))) has

pub covers_looks : (stream : ℕ) (numbers : List ℕ) (s t : DiskState) → Looks s t → Covers stream numbers s → Covers stream numbers t
covers_looks stream numbers s t looks covers n some lt = elim (covers n some lt) [
  | inl has ↦ inl has
  | inr missing ↦ inr (missing_looks stream n s t looks missing)
]

same_or_looks : (stream n : ℕ) (s t u : DiskState) → Looks t u → SameOrNone stream s t n → SameOrNone stream s u n
same_or_looks stream n s t u looks (inl same) = inl (same_looks stream t u n looks ∙ same)
same_or_looks stream n s t u looks (inr none) = inr (none.0, none.1, subst (λ (p : Pair). length p.1 ≤ 8) (sym (same_looks stream t u n looks)) none.2)

pub clears_looks : (stream : ℕ) (kept rest : List ℕ) (s t u : DiskState) → Looks t u → ClearsTo stream kept rest s t → ClearsTo stream kept rest s u
clears_looks stream kept rest s t u looks clears = record {
  rising = clears.rising;
  covers = covers_looks stream (kept ++ rest) t u looks clears.covers;
  records = each_then (HasRecords stream t) (HasRecords stream u) kept (λ n has. records_looks stream n t u looks has) clears.records;
  same = λ n. same_or_looks stream n s t u looks (clears.same n);
  keeps = keeps_then stream s t u clears.keeps (looks_keep stream t u looks);
}

-- a number is kept
pub clears_keep : (stream n : ℕ) (kept rest more : List ℕ) (s t : DiskState) → more ≡ kept ++ n ∷ [] → HasRecords stream t n → ClearsTo stream kept (n ∷ rest) s t → ClearsTo stream more rest s t
clears_keep stream n kept rest more s t is has clears =
    let all : (kept ++ n ∷ []) ++ rest ≡ kept ++ n ∷ rest = append_assoc kept (n ∷ []) rest in
    let next : ClearsTo stream (kept ++ n ∷ []) rest s t =
    record {
      rising = subst (λ (l : List ℕ). Rising 1 l) (sym all) clears.rising;
      covers = subst (λ (l : List ℕ). Covers stream l t) (sym all) clears.covers;
      records = each_push (HasRecords stream t) kept n clears.records has;
      same = clears.same;
      keeps = clears.keeps;
    } in
    subst (λ (l : List ℕ). ClearsTo stream l rest s t) (sym is) next

-- a number is removed
without : (stream n m : ℕ) (kept rest : List ℕ) (t u : DiskState) → BesidesPair stream n t u → Missing stream n u → Contains (kept ++ n ∷ rest) m ⊎ Missing stream m t → Contains (kept ++ rest) m ⊎ Missing stream m u
without stream n m kept rest t u besides gone (inl has) = elim (Contains-append_cases kept (n ∷ rest) m has) [
  | inl front ↦ inl (Contains-append_left kept rest m front)
  | inr behind ↦ elim (in_cons n m rest behind) [
    | inl is ↦ inr (subst (λ (k : ℕ). Missing stream k u) is gone)
    | inr more ↦ inl (Contains-append_right kept rest m more)
  ]
]
without stream n m kept rest t u besides gone (inr missing) = elim (cases_eq m n) [
  | inl is ↦ inr (subst (λ (k : ℕ). Missing stream k u) (sym is) gone)
  | inr ne ↦ inr (missing_stays stream n m t u besides ne missing)
]

was_short : (stream n m : ℕ) (s t : DiskState) → length (bytes_of (t.seen (index_file stream n))) ≤ 8 → m ≡ n → SameOrNone stream s t m → length (files_of stream s.seen m).1 ≤ 8
was_short stream n m s t short is (inl eq) =
    let here : length (bytes_of (t.seen (index_file stream m))) ≤ 8 = subst (λ (k : ℕ). length (bytes_of (t.seen (index_file stream k))) ≤ 8) (sym is) short in
    subst (λ (p : Pair). length p.1 ≤ 8) eq here
was_short stream n m s t short is (inr none) = none.1

same_after : (stream n m : ℕ) (s t u : DiskState) → BesidesPair stream n t u → m ≢ n → SameOrNone stream s t m → SameOrNone stream s u m
same_after stream n m s t u besides ne (inl eq) = inl (same_besides stream n m t u besides ne ∙ eq)
same_after stream n m s t u besides ne (inr none) = inr (none.0, none.1, subst (λ (p : Pair). length p.1 ≤ 8) (sym (same_besides stream n m t u besides ne)) none.2)

none_after : (stream n m : ℕ) (s t u : DiskState) → ((f : FileId) → u.images f (u.seen f)) → 0 < n → length (bytes_of (t.seen (index_file stream n))) ≤ 8 → BesidesPair stream n t u → Missing stream n u → SameOrNone stream s t m → SameOrNone stream s u m
none_after stream n m s t u law some short besides gone same = elim (cases_eq m n) [
  | inl is ↦ inr (
    omega (arith, is, some),
    was_short stream n m s t short is same,
    subst (λ (k : ℕ). length (bytes_of (u.seen (index_file stream k))) ≤ 8) (sym is) (none_short (u.seen (index_file stream n)) (none_seen stream n u law gone)),
  )
  | inr ne ↦ same_after stream n m s t u besides ne same
]

-- the index of another number stays
records_after : (stream n m : ℕ) (t u : DiskState) → BesidesPair stream n t u → m ≢ n → HasRecords stream t m → HasRecords stream u m
records_after stream n m t u besides ne has = subst (λ (c : Image). 8 < length (bytes_of c)) (sym (besides.seen (index_file stream m) (apart_back stream m n) (other_index stream m n ne))) has

pub clears_fail : (stream n : ℕ) (kept rest : List ℕ) (s t u : DiskState) → ((f : FileId) → t.images f (t.seen f)) → (HasRecords stream t n → ⊥) → BesidesPair stream n t u → GoneOrBefore stream n t u → ClearsTo stream kept rest s t → KeepsLog stream s u
clears_fail stream n kept rest s t u law short besides moved clears = keeps_then stream s t u clears.keeps (ghost_keeps stream n t u law besides (at_most short) moved)
  where
    at_most : (HasRecords stream t n → ⊥) → length (bytes_of (t.seen (index_file stream n))) ≤ 8
    at_most none = elim (cases_lt 8 (length (bytes_of (t.seen (index_file stream n))))) [ inl more ↦ absurd (none more) | inr le ↦ le ]

pub clears_drop : (stream n : ℕ) (kept rest : List ℕ) (s t u : DiskState) → ((f : FileId) → t.images f (t.seen f)) → ((f : FileId) → u.images f (u.seen f)) → (HasRecords stream t n → ⊥) → BesidesPair stream n t u → GoneOrBefore stream n t u → Missing stream n u
    → ClearsTo stream kept (n ∷ rest) s t → ClearsTo stream kept rest s u
clears_drop stream n kept rest s t u law law_after none besides moved gone clears =
    let some : 0 < n = omega (arith, rising_at 1 n kept rest clears.rising) in
    let short : length (bytes_of (t.seen (index_file stream n))) ≤ 8 = elim (cases_lt 8 (length (bytes_of (t.seen (index_file stream n))))) [ inl more ↦ absurd (none more) | inr le ↦ le ] in
    record {
      rising = rising_drop 1 n kept rest clears.rising;
      covers = λ m more lt. without stream n m kept rest t u besides gone (clears.covers m more lt);
      records = each_before (HasRecords stream t) (HasRecords stream u) 1 n kept rest clears.rising (λ m ne has. records_after stream n m t u besides ne has) clears.records;
      same = λ m. none_after stream n m s t u law_after some short besides gone (clears.same m);
      keeps = clears_fail stream n kept (n ∷ rest) s t u law none besides moved clears;
    }

-- one that is sifted
pub sift_short : (stream n : ℕ) (t : DiskState) → (HasRecords stream t n → ⊥) → length (bytes_of (t.seen (index_file stream n))) ≤ 8
sift_short stream n t none = elim (cases_lt 8 (length (bytes_of (t.seen (index_file stream n))))) [ inl more ↦ absurd (none more) | inr le ↦ le ]

pub sift_keeps : (stream n : ℕ) (s t u : DiskState) → ((f : FileId) → t.images f (t.seen f)) → Looks s t → (HasRecords stream s n → ⊥) → BesidesPair stream n t u → GoneOrBefore stream n t u → KeepsLog stream s u
sift_keeps stream n s t u law looks none besides moved =
    let short : length (bytes_of (t.seen (index_file stream n))) ≤ 8 = subst (λ (c : Image). length (bytes_of c) ≤ 8) (sym (looks.seen (index_file stream n))) (sift_short stream n s none) in
    keeps_then stream s t u (looks_keep stream s t looks) (ghost_keeps stream n t u law besides short moved)

pub sift_gone : (stream n : ℕ) (s t u : DiskState) (kept : List ℕ) → Looks s t → (HasRecords stream s n → ⊥) → GoneOrBefore stream n t u → Missing stream n u → Sifts stream n kept kept s u
sift_gone stream n s t u kept looks none moved gone =
    inr (
      gone,
      none,
      (λ a b left_a left_b. elim (moved a b left_a left_b) [
        | inl missing ↦ inl missing
        | inr both ↦ inr (looks.images (segment_file stream n) a both.0, looks.images (index_file stream n) b both.1)
      ]),
      refl,
    )

pub sift_kept : (stream n : ℕ) (s t : DiskState) (kept more : List ℕ) → Looks s t → HasRecords stream s n → more ≡ kept ++ n ∷ [] → Sifts stream n kept more s t
sift_kept stream n s t kept more looks has pushed = inl (records_looks stream n s t looks has, looks, pushed)

-- and what it makes of the pass
pub sifts_on : (stream n k : ℕ) (kept more numbers : List ℕ) (s t u : DiskState) → k < length numbers → n ≡ get_or numbers k 0 → ((f : FileId) → t.images f (t.seen f)) → ((f : FileId) → u.images f (u.seen f)) → BesidesPair stream n t u → Sifts stream n kept more t u
    → ClearsTo stream kept (drop k numbers) s t → ClearsTo stream more (drop (k + 1) numbers) s u
sifts_on stream n k kept more numbers s t u lt at law law_after besides sifts clears =
    let here : ClearsTo stream kept (n ∷ drop (k + 1) numbers) s t = subst (λ (l : List ℕ). ClearsTo stream kept l s t) (next_number k numbers n lt at) clears in
    elim sifts [
      | inl has ↦ clears_keep stream n kept (drop (k + 1) numbers) more s u has.2 has.0 (clears_looks stream kept (n ∷ drop (k + 1) numbers) s t u has.1 here)
      | inr gone ↦ subst (λ (l : List ℕ). ClearsTo stream l (drop (k + 1) numbers) s u) (sym gone.3) (clears_drop stream n kept (drop (k + 1) numbers) s t u law law_after gone.1 besides gone.2 gone.0 here)
    ]

-- ---- what is listed then

listed_from : (stream low : ℕ) (numbers : List ℕ) (s : DiskState) → Rising low numbers → Each (HasRecords stream s) numbers → ((n : ℕ) → low ≤ n → n < 2 ^ 64 → Contains numbers n ⊎ Missing stream n s) → Listed stream low numbers s
listed_from stream low [] s rising records covers = λ n ge lt. elim (covers n ge lt) [ inl has ↦ absurd (in_none n has) | inr missing ↦ missing ]
listed_from stream low (x ∷ xs) s rising records covers = record {
  from = rising.0;
  under = rising.1;
  counts = records.0;
  between = λ n ge lt. elim (covers n ge (omega (arith, lt, rising.1))) [
    | inr missing ↦ missing
    | inl has ↦ elim (in_cons x n xs has) [
      | inl is ↦ absurd (omega (arith, is, lt))
      | inr more ↦ absurd (omega (arith, lt, rising_above (x + 1) n xs rising.2 more))
    ]
  ];
  above = listed_from stream (x + 1) xs s rising.2 records.1 (λ n ge lt. elim (covers n (omega (arith, ge, rising.0)) lt) [
    | inr missing ↦ inr missing
    | inl has ↦ elim (in_cons x n xs has) [
      | inl is ↦ absurd (omega (arith, is, ge))
      | inr more ↦ inl more
    ]
  ]);
}

pub clears_all : (stream : ℕ) (kept rest : List ℕ) (s t : DiskState) → rest ≡ [] → ClearsTo stream kept rest s t → Clears stream s t kept
clears_all stream kept rest s t none clears =
    let all : kept ++ rest ≡ kept = ap (λ (l : List ℕ). kept ++ l) none ∙ append-nil kept in
    record {
      listed = listed_from stream 1 kept t (subst (λ (l : List ℕ). Rising 1 l) all clears.rising) clears.records (λ n some lt. subst (λ (l : List ℕ). Contains l n ⊎ Missing stream n t) all (clears.covers n some lt));
      same = clears.same;
    }

pub drop_end : (k : ℕ) (xs : List ℕ) → length xs ≤ k → drop k xs ≡ []
drop_end k xs le = drop_all k xs le

-- ---- the numbers of names

names_one : (names : List FileId) (id f : FileId) (i : ℕ) → slice_get (names ++ id ∷ []) i ≡ Some f → (slice_get names i ≡ Some f) ⊎ (id ≡ f)
names_one names id f i is = elim (cases_lt i (length names)) [
  | inl lt ↦ inl (sym (get_front names (id ∷ []) i lt) ∙ is)
  | inr ge ↦ inr (last (i - length names) (sym (get_behind names (id ∷ []) (i - length names)) ∙ ap (λ (k : ℕ). slice_get (names ++ id ∷ []) k) (omega (arith, ge)) ∙ is))
]
  where
    last : (k : ℕ) → slice_get (id ∷ []) k ≡ Some f → id ≡ f
    last zero same = cc same
    last (suc k) same = absurd (cc same)

-- above 0, and of 64 bits
abbrev pub IsNumber : ℕ → Type 0
IsNumber n = (0 < n) × (n < 2 ^ 64)

names_more : (names : List FileId) (numbers more : List ℕ) (id : FileId) → ((n : ℕ) → Contains numbers n → Contains more n) → All IsNumber more → ((n : ℕ) → number_of id.file ≡ Some n → 0 < n → Contains more n) → HasNumbers names numbers → HasNumbers (names ++ id ∷ []) more
names_more names numbers more id grows above this has = record {
  above = above;
  each = λ i n f at is some. elim (names_one names id f i at) [
    | inl before ↦ grows n (has.each i n f before is some)
    | inr here ↦ this n (ap (λ (x : FileId). number_of x.file) here ∙ is) some
  ];
}

-- one of no number, or of 0
names_skip : (names : List FileId) (k : ℕ) (d : FileId) (numbers : List ℕ) → k < length names → ((n : ℕ) → number_of (get_or names k d).file ≡ Some n → 0 < n → ⊥) → HasNumbers (take k names) numbers → HasNumbers (take (k + 1) names) numbers
names_skip names k d numbers lt none has =
    subst (λ (l : List FileId). HasNumbers l numbers) (sym (take_more names k d lt)) (names_more (take k names) numbers numbers (get_or names k d) (λ n in_. in_) has.above (λ n same some. absurd (none n same some)) has)

names_add : (names : List FileId) (k : ℕ) (d : FileId) (n : ℕ) (numbers more : List ℕ) → k < length names → number_of (get_or names k d).file ≡ Some n → 0 < n → n < 2 ^ 64 → more ≡ numbers ++ n ∷ [] → HasNumbers (take k names) numbers → HasNumbers (take (k + 1) names) more
names_add names k d n numbers more lt number some fits pushed has =
    subst (λ (l : List FileId). HasNumbers l more) (sym (take_more names k d lt))
    (subst (λ (l : List ℕ). HasNumbers (take k names ++ get_or names k d ∷ []) l) (sym pushed)
    (names_more (take k names) numbers (numbers ++ n ∷ []) (get_or names k d) (λ m in_. Contains-append_left numbers (n ∷ []) m in_) (All-push IsNumber numbers n has.above (some, fits))
    (λ m same more_than. subst (λ (j : ℕ). Contains (numbers ++ n ∷ []) j) (cc (sym number ∙ same)) (Contains-push numbers n)) has))

pub names_step : (names : List FileId) (k : ℕ) (d : FileId) (numbers more : List ℕ) → k < length names → AddsNumber (get_or names k d).file numbers more → HasNumbers (take k names) numbers → HasNumbers (take (k + 1) names) more
names_step names k d numbers more lt (inl none) has = subst (λ (l : List ℕ). HasNumbers (take (k + 1) names) l) (sym none.1) (names_skip names k d numbers lt none.0 has)
names_step names k d numbers more lt (inr (n, number, some, fits, pushed)) has = names_add names k d n numbers more lt number some fits pushed has

one_more : (k : ℕ) → suc k + 1 ≡ suc (k + 1)
one_more k = omega arith

rising_from : (low : ℕ) (xs : List ℕ) → IsStrictlyIncreasing xs → All IsNumber xs → (0 < length xs → low ≤ get_or xs 0 0) → Rising low xs
rising_from low [] increasing above first = tt
rising_from low (x ∷ []) increasing above first = (first (omega arith), (All-head IsNumber x [] above).1, tt)
rising_from low (x ∷ y ∷ xs) increasing above first = (first (omega arith), (All-head IsNumber x (y ∷ xs) above).1, rising_from (x + 1) (y ∷ xs) (λ k lt. subst (λ (m : ℕ). get_or (y ∷ xs) k 0 < get_or (x ∷ y ∷ xs) m 0) (one_more k) (increasing (suc k) (omega (arith, lt)))) (All-tail IsNumber x (y ∷ xs) above) (λ some. omega (arith, increasing 0 (omega arith))))

pub rising_numbers : (xs : List ℕ) → IsStrictlyIncreasing xs → All IsNumber xs → Rising 1 xs
rising_numbers xs increasing above = rising_from 1 xs increasing above (λ some. omega (arith, (All-get_or IsNumber xs 0 0 some above).0))

pub names_start : (names : List FileId) (numbers : List ℕ) → numbers ≡ [] → HasNumbers (take 0 names) numbers
names_start names numbers none =
    let has : HasNumbers [] [] = record { above = All-nil IsNumber; each = λ i n f is. absurd (cc is) } in
    subst (λ (l : List ℕ). HasNumbers [] l) (sym none) has

pub names_all : (names : List FileId) (k : ℕ) (numbers : List ℕ) → length names ≤ k → HasNumbers (take k names) numbers → HasNumbers names numbers
names_all names k numbers le has = subst (λ (l : List FileId). HasNumbers l numbers) (take_all k names le) has

-- once they are sorted, each once
pub sorted_numbers : (names : List FileId) (found sorted numbers : List ℕ) → HasNumbers names found → IsPermutation found sorted → IsSorted nat_cmp sorted → numbers ≡ dedup (λ a b. a == b) sorted → AreNumbers names numbers
sorted_numbers names found sorted numbers has moved order is =
    let once : AreNumbers names (dedup (λ a b. a == b) sorted) =
    record {
      rising = rising_numbers (dedup (λ a b. a == b) sorted) (IsStrictlyIncreasing-dedup sorted order) (All-dedup (λ a b. a == b) IsNumber sorted (All-permutation IsNumber found sorted moved has.above));
      each = λ i n f at number some. Contains-dedup_nat sorted n (Contains-permutation found sorted n moved (has.each i n f at number some));
    } in
    subst (λ (l : List ℕ). AreNumbers names l) (sym is) once

-- a stream's names tell all that is there
pub covers_names : (stream : ℕ) (s : DiskState) (names : List FileId) (numbers : List ℕ) → NoneReturns stream s → AreNames stream s.seen names → AreNumbers names numbers → Covers stream numbers s
covers_names stream s names numbers returns are has n some lt = at_segment (s.seen (segment_file stream n)) refl
  where
    there : (f : FileId) (c : Image) → f.stream ≡ stream → s.seen f ≡ c → IsThere c → number_of f.file ≡ Some n → Contains numbers n
    there f c of_stream seen is number =
        let found = are.each f of_stream (subst IsThere (sym seen) is) in
        has.each found.0 n f found.1 number some

    at_index : s.seen (segment_file stream n) ≡ None → (c : Image) → s.seen (index_file stream n) ≡ c → Contains numbers n ⊎ Missing stream n s
    at_index segment None seen = inr (record { segment = segment; index = returns n lt segment seen })
    at_index segment (Some bytes) seen = inl (there (index_file stream n) (Some bytes) refl seen tt refl)

    at_segment : (c : Image) → s.seen (segment_file stream n) ≡ c → Contains numbers n ⊎ Missing stream n s
    at_segment None seen = at_index seen (s.seen (index_file stream n)) refl
    at_segment (Some bytes) seen = inl (there (segment_file stream n) (Some bytes) refl seen tt refl)

-- ---- what a size tells

pub records_sized : (stream n size : ℕ) (s : DiskState) → Sizes (s.seen (index_file stream n)) (disk_size.Size size) → (HasRecords stream s n → 8 < size) × (8 < size → HasRecords stream s n)
records_sized stream n size s told = ((λ has. omega (arith, len, has)), (λ more. omega (arith, len, more)))
  where
    len : length (bytes_of (s.seen (index_file stream n))) ≡ size
    len = ap (λ (c : Image). length (bytes_of c)) told.1 ∙ sym told.2

pub records_missing : (stream n : ℕ) (s : DiskState) → s.seen (index_file stream n) ≡ None → HasRecords stream s n → ⊥
records_missing stream n s none has = omega (arith, has, ap (λ (c : Image). length (bytes_of c)) none)

-- what a test told
pub told_none : (P : Type 0) (b : Bool) → b ≡ false → (IsTrue b ↔ P) → P → ⊥
told_none P b is told p = absurd (cc (sym is ∙ told.1 p))
