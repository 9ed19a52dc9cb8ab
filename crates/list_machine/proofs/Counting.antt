-- What is confirmed of a server is counted: the frames that may be confirmed and those that were count no more than the
-- rows there.
use Rattle.std.proofs.Common.{◌≡◌, ℕ, ◌+◌, ◌<◌, ◌≤◌, Bool, cond, List, [], ◌∷◌, ◌++◌, length, refl, sym, ap, subst, ◌∙◌, inl, inr, append_assoc, arith}
use Rattle.std.specs.Prelude.{nat_le, flat_map}
use Rattle.std.specs.List.{AllByRecursion}
use Rattle.std.proofs.lemmas.List.{append-nil, length-append}
use Rattle.std.proofs.lemmas.Bool.{le-leb, lt-leb}
use Rattle.std.proofs.lemmas.Bool.Decides.{leb_tells}
use Rattle.chunk_format.specs.declared.entry.Entry.{Entry}
use Rattle.chunk_format.specs.LogRows.{LogRow}
use Rattle.chunk_format.specs.Logs.{bare, tally}
use Rattle.chunk_format.proofs.BareLaws.{tally_join}
use Rattle.list_machine.specs.Counting.{Wait, Counter, new_counter, Counts, appends, appends_waiting, commits_more, confirms_one, elects_another, CounterStep, CounterRun}
use Rattle.list_machine.proofs.Lists.{all_weaker, all_append}
use Rattle.list_machine.proofs.Tagging.{bare_append}

-- the entries of the frames that may be confirmed where the list has so many rows
abbrev due : (Entry → Bool) → ℕ → List Wait → ℕ
due counts place [] = 0
due counts place (w ∷ waits) = cond (nat_le w.end place) (tally counts w.entries) 0 + due counts place waits

count_rows : (counts : Entry → Bool) (xs ys : List LogRow) → tally counts (flat_map bare (xs ++ ys)) ≡ tally counts (flat_map bare xs) + tally counts (flat_map bare ys)
count_rows counts xs ys = ap (tally counts) (bare_append xs ys) ∙ tally_join counts (flat_map bare xs) (flat_map bare ys)

-- ---- what is due

due_append : (counts : Entry → Bool) (place : ℕ) (xs ys : List Wait) → due counts place (xs ++ ys) ≡ due counts place xs + due counts place ys
due_append counts place [] ys = omega arith
due_append counts place (w ∷ xs) ys = let rest = due_append counts place xs ys in omega (arith, rest)

is_due : (counts : Entry → Bool) (place : ℕ) (w : Wait) → w.end ≤ place → due counts place (w ∷ []) ≡ tally counts w.entries
is_due counts place w h =
    let e : cond (nat_le w.end place) (tally counts w.entries) 0 ≡ tally counts w.entries = ap (λ (b : Bool). cond b (tally counts w.entries) 0) (le-leb w.end place h) in omega (arith, e)

not_due : (counts : Entry → Bool) (place : ℕ) (w : Wait) → place < w.end → due counts place (w ∷ []) ≡ 0
not_due counts place w h =
    let e : cond (nat_le w.end place) (tally counts w.entries) 0 ≡ 0 = ap (λ (b : Bool). cond b (tally counts w.entries) 0) (lt-leb w.end place h) in omega (arith, e)

-- where all are due, no more are later
due_all : (counts : Entry → Bool) (place more : ℕ) (waits : List Wait) → AllByRecursion (λ (w : Wait). w.end ≤ place) waits → place ≤ more → due counts more waits ≡ due counts place waits
due_all counts place more [] all h = refl
due_all counts place more (w ∷ waits) all h =
    let rest = due_all counts place more waits all.1 h in
    let a : cond (nat_le w.end more) (tally counts w.entries) 0 ≡ tally counts w.entries = ap (λ (b : Bool). cond b (tally counts w.entries) 0) (le-leb w.end more (omega (arith, all.0, h))) in
    let b : cond (nat_le w.end place) (tally counts w.entries) 0 ≡ tally counts w.entries = ap (λ (b : Bool). cond b (tally counts w.entries) 0) (le-leb w.end place all.0) in
    omega (arith, rest, a, b)

-- ---- two splits of one list

-- the shorter front is a front of the longer one
pub record Front (xs ys : List LogRow) : Type 0 where
  pub rest : List LogRow
  pub is : ys ≡ xs ++ rest

front_of : (xs ys us vs : List LogRow) → xs ++ us ≡ ys ++ vs → length xs ≤ length ys → Front xs ys
front_of [] ys us vs e h = record { rest = ys; is = refl }
front_of (x ∷ xs) [] us vs e h = absurd (omega (arith, h))
front_of (x ∷ xs) (y ∷ ys) us vs e h =
    let same : x ≡ y = cc in
    let tails : xs ++ us ≡ ys ++ vs = cc in
    let f = front_of xs ys us vs tails (omega (arith, h)) in
    record { rest = f.rest; is = cc (same, f.is) }

no_rest : (xs ys : List LogRow) → length (xs ++ ys) ≤ length xs → ys ≡ []
no_rest xs [] h = refl
no_rest xs (y ∷ ys) h = let e = length-append xs (y ∷ ys) in absurd (omega (arith, e, h))

-- ---- what holds

pub record Balanced (c : Counter) : Type 0 where
  pub begins : Front c.committed c.sequence
  pub ends : AllByRecursion (λ (w : Wait). w.end ≤ length c.sequence) c.waits
  pub covers : (front rest : List LogRow) (counts : Entry → Bool) → c.sequence ≡ front ++ rest → length c.committed ≤ length front
      → tally counts c.spent + due counts (length front) c.waits ≤ tally counts (flat_map bare front)

-- at the whole sequence
at_end : (c : Counter) (counts : Entry → Bool) → Balanced c → tally counts c.spent + due counts (length c.sequence) c.waits ≤ tally counts (flat_map bare c.sequence)
at_end c counts b =
    let e = length-append c.committed b.begins.rest in
    let f = ap length b.begins.is in
    b.covers c.sequence [] counts (sym (append-nil c.sequence)) (omega (arith, e, f))

front_more : (xs ys more : List LogRow) → Front xs ys → Front xs (ys ++ more)
front_more xs ys more f = record { rest = f.rest ++ more; is = ap (λ (l : List LogRow). l ++ more) f.is ∙ append_assoc xs f.rest more }

ends_more : (old more : List LogRow) (waits : List Wait) → AllByRecursion (λ (w : Wait). w.end ≤ length old) waits → AllByRecursion (λ (w : Wait). w.end ≤ length (old ++ more)) waits
ends_more old more waits all = let e = length-append old more in all_weaker (λ (w : Wait). w.end ≤ length old) (λ (w : Wait). w.end ≤ length (old ++ more)) (λ w h. omega (arith, e, h)) waits all

-- a front of a longer sequence is one of the old sequence, or the old one and some rows
covers_more : (c : Counter) (rows front rest : List LogRow) (counts : Entry → Bool) → Balanced c → c.sequence ++ rows ≡ front ++ rest → length c.committed ≤ length front
    → tally counts c.spent + due counts (length front) c.waits ≤ tally counts (flat_map bare front)
covers_more c rows front rest counts b e h = elim (leb_tells (length front) (length c.sequence)) [
  | inl short ↦ (let f = front_of front c.sequence rest rows (sym e) short.1 in b.covers front f.rest counts f.is h)
  | inr long ↦
      (let f = front_of c.sequence front rows rest e (omega (arith, long.1)) in
      let whole = at_end c counts b in
      let d = due_all counts (length c.sequence) (length front) c.waits b.ends (omega (arith, long.1)) in
      let n : tally counts (flat_map bare front) ≡ tally counts (flat_map bare c.sequence) + tally counts (flat_map bare f.rest) = ap (λ (l : List LogRow). tally counts (flat_map bare l)) f.is ∙ count_rows counts c.sequence f.rest in
      omega (arith, whole, d, n))
]

-- the same with a frame that waits for the end
covers_waiting : (c : Counter) (rows front rest : List LogRow) (counts : Entry → Bool) → Balanced c → c.sequence ++ rows ≡ front ++ rest → length c.committed ≤ length front
    → tally counts c.spent + due counts (length front) (c.waits ++ record { end = length (c.sequence ++ rows); entries = flat_map bare rows } ∷ []) ≤ tally counts (flat_map bare front)
covers_waiting c rows front rest counts b e h =
    let w : Wait = record { end = length (c.sequence ++ rows); entries = flat_map bare rows } in
    let split = due_append counts (length front) c.waits (w ∷ []) in
    elim (leb_tells w.end (length front)) [
      | inl there ↦
          (let f = front_of (c.sequence ++ rows) front [] rest (append-nil (c.sequence ++ rows) ∙ e) there.1 in
          let le : length front ≤ length (c.sequence ++ rows) = (let a = ap length e in let b = length-append front rest in omega (arith, a, b)) in
          let none : f.rest ≡ [] = no_rest (c.sequence ++ rows) f.rest (let a = ap length f.is in omega (arith, a, le)) in
          let whole : front ≡ c.sequence ++ rows = f.is ∙ ap (λ (l : List LogRow). (c.sequence ++ rows) ++ l) none ∙ append-nil (c.sequence ++ rows) in
          let n : tally counts (flat_map bare front) ≡ tally counts (flat_map bare c.sequence) + tally counts (flat_map bare rows) = ap (λ (l : List LogRow). tally counts (flat_map bare l)) whole ∙ count_rows counts c.sequence rows in
          let d = due_all counts (length c.sequence) (length front) c.waits b.ends (let a = length-append c.sequence rows in omega (arith, a, there.1)) in
          let all = at_end c counts b in
          let one = is_due counts (length front) w there.1 in
          omega (arith, split, n, d, all, one))
      | inr early ↦
          (let old = covers_more c rows front rest counts b e h in
          let none = not_due counts (length front) w early.1 in
          omega (arith, split, old, none))
    ]

counter_step : (event : Counts) (old new : Counter) → CounterStep old event new → Balanced old → Balanced new
counter_step (appends rows) old new step b = subst Balanced (sym step) (record {
  begins = front_more old.committed old.sequence rows b.begins;
  ends = ends_more old.sequence rows old.waits b.ends;
  covers = λ front rest counts e h. covers_more old rows front rest counts b e h;
})
counter_step (appends_waiting rows) old new step b = subst Balanced (sym step) (record {
  begins = front_more old.committed old.sequence rows b.begins;
  ends = all_append (λ (w : Wait). w.end ≤ length (old.sequence ++ rows)) old.waits _ (ends_more old.sequence rows old.waits b.ends) (omega arith, tt);
  covers = λ front rest counts e h. covers_waiting old rows front rest counts b e h;
})
counter_step (commits_more rows) old new step b = subst Balanced (sym step.1) (record {
  begins = record { rest = step.0.0; is = step.0.1 };
  ends = b.ends;
  covers = λ front rest counts e h. b.covers front rest counts e (let a = length-append old.committed rows in omega (arith, a, h));
})
counter_step (confirms_one one) old new step b = subst Balanced (sym step.is) (record {
  begins = b.begins;
  ends = all_left (λ (w : Wait). w.end ≤ length old.sequence) step.before one step.after (subst (AllByRecursion (λ (w : Wait). w.end ≤ length old.sequence)) step.waits b.ends);
  covers = λ front rest counts e h.
      (let a = b.covers front rest counts e h in
      let s = tally_join counts old.spent one.entries in
      let d : due counts (length front) old.waits ≡ due counts (length front) (step.before ++ one ∷ step.after) = ap (due counts (length front)) step.waits in
      let x = due_append counts (length front) step.before (one ∷ step.after) in
      let y = due_append counts (length front) (one ∷ []) step.after in
      let z = due_append counts (length front) step.before step.after in
      let o = is_due counts (length front) one (omega (arith, step.reached, h)) in
      omega (arith, a, s, d, x, y, z, o));
})
  where
    all_left : (P : Wait → Type 0) (xs : List Wait) (x : Wait) (ys : List Wait) → AllByRecursion P (xs ++ x ∷ ys) → AllByRecursion P (xs ++ ys)
    all_left P [] x ys h = h.1
    all_left P (z ∷ xs) x ys h = (h.0, all_left P xs x ys h.1)
counter_step (elects_another more) old new step b = subst Balanced (sym step) (record {
  begins = record { rest = more; is = refl };
  ends = tt;
  covers = λ front rest counts e h.
      (let f = front_of old.committed front more rest e h in
      let a = b.covers old.committed b.begins.rest counts b.begins.is (omega arith) in
      let n : tally counts (flat_map bare front) ≡ tally counts (flat_map bare old.committed) + tally counts (flat_map bare f.rest) = ap (λ (l : List LogRow). tally counts (flat_map bare l)) f.is ∙ count_rows counts old.committed f.rest in
      omega (arith, a, n));
})

counter_run : (events : List Counts) (old new : Counter) → CounterRun old events new → Balanced old → Balanced new
counter_run [] old new run b = subst Balanced (sym run) b
counter_run (event ∷ events) old new run b = counter_run events run.0 new run.2 (counter_step event old run.0 run.1 b)

none_balanced : Balanced new_counter
none_balanced = record { begins = record { rest = []; is = refl }; ends = tt; covers = λ front rest counts e h. omega arith }

-- what was confirmed stands in what is committed at least as often
pub counted : (events : List Counts) (new : Counter) (counts : Entry → Bool) → CounterRun new_counter events new → tally counts new.spent ≤ tally counts (flat_map bare new.committed)
counted events new counts run =
    let b = counter_run events new_counter new run none_balanced in
    let a = b.covers new.committed b.begins.rest counts b.begins.is (omega arith) in omega (arith, a)
