-- What is joined by views of lawful formats is lawful.
use Rattle.std.proofs.Common.{◌≡◌, ℕ, ◌+◌, ◌<◌, ◌≤◌, Bool, true, false, cond, ltb, List, [], ◌∷◌, ◌++◌, length, take, drop, Option, Some, None, Result, Ok, Err, refl, sym, ap, subst, ◌∙◌, append_assoc, arith, inl, inr}
use Rattle.std.proofs.lemmas.Bool.{ltb-true, ltb-false, lt-ltb, le-ltb}
use Rattle.std.proofs.lemmas.List.{length-append, take-append-drop, take-append-le, length-take-le}
use Rattle.std.proofs.Math.Seq.{take-length, drop-append_seam}
use Rattle.frame_wire.specs.Reading.{Spot, past}
use Rattle.frame_wire.specs.Formats.{Format, Spelled}
use Rattle.frame_wire.specs.Joins.{◌>>=◌, with_fault}
use Rattle.frame_wire.specs.Laws.{IsBytes, Lawful}
use Rattle.frame_wire.specs.Views.{raw, behind, begins_low, OneOf, Low, High, low_or_high, some_or, viewed, as_one}
use Rattle.frame_wire.proofs.Steps.{rest_bytes, guard_ok, guard_err, ok_is, err_is, no_both}
use Rattle.frame_wire.proofs.JoinLaws.{bind_ok, bind_err, after_ok, after_err}

-- ---- raw bytes

raw_takes : {F : Type 0} (short : ℕ → F) (n : ℕ) (s : Spot) (x : List ℕ) (t : Spot) → IsBytes s.rest → (raw short n).read s ≡ Ok (x, t) → Spelled (raw short n) s x t
raw_takes {F} short n s x t fits e =
    let g = guard_ok (ltb (length s.rest) n) (short s.at) (Ok (take n s.rest, past n s)) (x, t) e in
    let made : List ℕ × Spot = (take n s.rest, past n s) in
    let enough : n ≤ length s.rest = ltb-false (length s.rest) n g.0 in
    let len = length-take-le n s.rest enough in
    let all : Spelled (raw short n) s (take n s.rest) (past n s) = record { fits = len; parts = sym (take-append-drop n s.rest); moved = omega (arith, len) } in
    subst (λ (y : List ℕ × Spot). Spelled (raw short n) s y.0 y.1) (ok_is {F = F} made (x, t) g.1) all

take_front : (n : ℕ) (x more : List ℕ) → length x ≡ n → take n (x ++ more) ≡ x
take_front n x more len = ap (λ (k : ℕ). take k (x ++ more)) (sym len) ∙ take-append-le (length x) x more (omega arith) ∙ take-length x

drop_front : (n : ℕ) (x more : List ℕ) → length x ≡ n → drop n (x ++ more) ≡ more
drop_front n x more len = ap (λ (k : ℕ). drop k (x ++ more)) (sym len) ∙ drop-append_seam x more

raw_again : {F : Type 0} (short : ℕ → F) (n : ℕ) (s : Spot) (x : List ℕ) (t : Spot) → Spelled (raw short n) s x t → (raw short n).read s ≡ Ok (x, t)
raw_again {F} short n s x t all =
    let len : length x ≡ n = all.fits in
    let whole : length s.rest ≡ length x + length t.rest = ap length all.parts ∙ length-append x t.rest in
    let test : ltb (length s.rest) n ≡ false = le-ltb (length s.rest) n (omega (arith, len, whole)) in
    let taken : take n s.rest ≡ x = ap (take n) all.parts ∙ take_front n x t.rest len in
    let left : drop n s.rest ≡ t.rest = ap (drop n) all.parts ∙ drop_front n x t.rest len in
    let place : s.at + n ≡ t.at = omega (arith, len, all.moved) in
    let there : past n s ≡ t = ap (λ (r : List ℕ). record { at = s.at + n; rest = r }) left ∙ ap (λ (a : ℕ). record { at = a; rest = t.rest }) place in
    rw test (ap (λ (r : List ℕ). Ok (r, past n s)) taken ∙ ap (λ (u : Spot). Ok (x, u)) there)

raw_fails : {F : Type 0} (short : ℕ → F) (n : ℕ) (s : Spot) (fault : F) → (raw short n).read s ≡ Err fault → (length s.rest < n) × (fault ≡ short s.at)
raw_fails {F} short n s fault e =
    elim (guard_err (ltb (length s.rest) n) (short s.at) (Ok (take n s.rest, past n s)) fault e) [
      | inl h ↦ (ltb-true (length s.rest) n h.0, sym h.1)
      | inr h ↦ absurd (no_both _ _ h.1)
    ]

raw_refuses : {F : Type 0} (short : ℕ → F) (n : ℕ) (s : Spot) (fault : F) → (length s.rest < n) × (fault ≡ short s.at) → (raw short n).read s ≡ Err fault
raw_refuses short n s fault (few, is) = let test : ltb (length s.rest) n ≡ true = lt-ltb (length s.rest) n few in rw test (ap (λ e. Err e) (sym is))

pub raw_lawful : {F : Type 0} (short : ℕ → F) (n : ℕ) → Lawful (raw short n)
raw_lawful short n = record { takes = raw_takes short n; again = raw_again short n; fails = λ s fault fits e. raw_fails short n s fault e; refuses = raw_refuses short n }

-- ---- several fields as one

one_fault : {A E F : Type 0} (bad : F) (r : Result A E) (x : A) → with_fault (λ fault. bad) r ≡ Ok x → r ≡ Ok x
one_fault bad (Ok y) x e = let same : y ≡ x = cc in ap (λ z. Ok z) same
one_fault bad (Err d) x e = absurd cc

some_fault : {A E F : Type 0} (bad : F) (r : Result A E) (fault : F) → with_fault (λ (e : E). bad) r ≡ Err fault → ((e : E) × (r ≡ Err e)) × (fault ≡ bad)
some_fault bad (Ok y) fault e = absurd cc
some_fault bad (Err d) fault e = ((d, refl), cc)

pub one_lawful : {A E F : Type 0} (bad : ℕ → F) (f : Format A E) → Lawful f → Lawful (as_one bad f)
one_lawful bad f p = record {
  takes = λ s x t fits e.
      let all = p.takes s x t fits (one_fault (bad s.at) (f.read s) (x, t) e) in
      record { fits = all.fits; parts = all.parts; moved = all.moved };
  again = λ s x t all. ap (with_fault (λ fault. bad s.at)) (p.again s x t (record { fits = all.fits; parts = all.parts; moved = all.moved }));
  fails = λ s fault fits e.
      let h = some_fault (bad s.at) (f.read s) fault e in
      ((h.0.0, p.fails s h.0.0 fits h.0.1), h.1);
  refuses = λ s fault wrong. ap (with_fault (λ fault. bad s.at)) (p.refuses s wrong.0.0 wrong.0.1) ∙ ap (λ z. Err z) (sym wrong.1);
}

-- ---- a field that says what follows it

joined : {A B F : Type 0} (f : Format A F) (g : A → Format B F) (s : Spot) (x : A) (m : Spot) (y : B) (t : Spot) → Spelled f s x m → Spelled (g x) m y t → Spelled (behind f g) s (x, y) t
joined f g s x m y t a b = record {
  fits = (a.fits, b.fits);
  parts = a.parts ∙ ap (λ (r : List ℕ). f.spell x ++ r) b.parts ∙ sym (append_assoc (f.spell x) ((g x).spell y) t.rest);
  moved = omega (arith, a.moved, b.moved, length-append (f.spell x) ((g x).spell y));
}

behind_refuses : {A B F : Type 0} (f : Format A F) (g : A → Format B F) → Lawful f → ((x : A) → Lawful (g x)) → (s : Spot) (fault : F) → (behind f g).Wrong s fault → (behind f g).read s ≡ Err fault
behind_refuses f g p q s fault (inl a) = after_err (f.read s) (λ x. (g x.0).read x.1 >>= λ y. Ok ((x.0, y.0), y.1)) fault (p.refuses s fault a)
behind_refuses f g p q s fault (inr (x, t, all, wrong)) =
    after_ok (f.read s) (λ x. (g x.0).read x.1 >>= λ y. Ok ((x.0, y.0), y.1)) (x, t) (p.again s x t all)
    ∙ after_err ((g x).read t) (λ y. Ok ((x, y.0), y.1)) fault ((q x).refuses t fault wrong)

pub behind_lawful : {A B F : Type 0} (f : Format A F) (g : A → Format B F) → Lawful f → ((x : A) → Lawful (g x)) → Lawful (behind f g)
behind_lawful {A} {B} {F} f g p q = record {
  takes = λ s v t fits e.
      let a = bind_ok (f.read s) (λ x. (g x.0).read x.1 >>= λ y. Ok ((x.0, y.0), y.1)) (v, t) e in
      let b = bind_ok ((g a.0.0).read a.0.1) (λ y. Ok ((a.0.0, y.0), y.1)) (v, t) a.2 in
      let first = p.takes s a.0.0 a.0.1 fits a.1 in
      let second = (q a.0.0).takes a.0.1 b.0.0 b.0.1 (rest_bytes f s a.0.0 a.0.1 fits first) b.1 in
      let made : (A × B) × Spot = ((a.0.0, b.0.0), b.0.1) in
      subst (λ (y : (A × B) × Spot). Spelled (behind f g) s y.0 y.1) (ok_is {F = F} made (v, t) b.2) (joined f g s a.0.0 a.0.1 b.0.0 b.0.1 first second);
  again = λ s v t all.
      let m : Spot = record { at = s.at + length (f.spell v.0); rest = (g v.0).spell v.1 ++ t.rest } in
      let first : Spelled f s v.0 m = record { fits = all.fits.0; parts = all.parts ∙ append_assoc (f.spell v.0) ((g v.0).spell v.1) t.rest; moved = refl } in
      let second : Spelled (g v.0) m v.1 t = record { fits = all.fits.1; parts = refl; moved = omega (arith, all.moved, length-append (f.spell v.0) ((g v.0).spell v.1)) } in
      after_ok (f.read s) (λ x. (g x.0).read x.1 >>= λ y. Ok ((x.0, y.0), y.1)) (v.0, m) (p.again s v.0 m first)
      ∙ after_ok ((g v.0).read m) (λ y. Ok ((v.0, y.0), y.1)) (v.1, t) ((q v.0).again m v.1 t second);
  fails = λ s fault fits e.
      elim (bind_err (f.read s) (λ x. (g x.0).read x.1 >>= λ y. Ok ((x.0, y.0), y.1)) fault e) [
        | inl a ↦ inl (p.fails s fault fits a)
        | inr a ↦
            let first = p.takes s a.0.0 a.0.1 fits a.1 in
            elim (bind_err ((g a.0.0).read a.0.1) (λ y. Ok ((a.0.0, y.0), y.1)) fault a.2) [
              | inl b ↦ inr (a.0.0, a.0.1, first, (q a.0.0).fails a.0.1 fault (rest_bytes f s a.0.0 a.0.1 fits first) b)
              | inr b ↦ absurd (no_both _ _ b.2)
            ]
      ];
  refuses = λ s fault wrong. behind_refuses f g p q s fault wrong;
}

-- ---- one of two

-- the first byte of what is spelled is that of its spelling
low_front : (front more : List ℕ) → 0 < length front → begins_low (front ++ more) ≡ begins_low front
low_front (x ∷ front) more some = refl
low_front [] more some = absurd (omega arith)

both_lawful : {A B F : Type 0} (f : Format A F) (g : Format B F) → Lawful f → Lawful g → (s : Spot) (v : OneOf A B) (t : Spot) (b : Bool) → begins_low s.rest ≡ b → IsBytes s.rest
    → cond {A = Result (OneOf A B × Spot) F} b (f.read s >>= λ x. Ok (Low x.0, x.1)) (g.read s >>= λ y. Ok (High y.0, y.1)) ≡ Ok (v, t) → ((x : A) → 0 < length (f.spell x)) → ((y : B) → 0 < length (g.spell y)) → Spelled (low_or_high f g) s v t
both_lawful {A} {B} {F} f g p q s v t true test fits e some_f some_g =
    let a = bind_ok (f.read s) (λ x. Ok (Low x.0, x.1)) (v, t) e in
    let all = p.takes s a.0.0 a.0.1 fits a.1 in
    let low : begins_low (f.spell a.0.0) ≡ true = sym (low_front (f.spell a.0.0) a.0.1.rest (some_f a.0.0)) ∙ ap begins_low (sym all.parts) ∙ test in
    let made : OneOf A B × Spot = (Low a.0.0, a.0.1) in
    let here : Spelled (low_or_high f g) s (Low a.0.0) a.0.1 = record { fits = (all.fits, low); parts = all.parts; moved = all.moved } in
    subst (λ (y : OneOf A B × Spot). Spelled (low_or_high f g) s y.0 y.1) (ok_is {F = F} made (v, t) a.2) here
both_lawful {A} {B} {F} f g p q s v t false test fits e some_f some_g =
    let a = bind_ok (g.read s) (λ y. Ok (High y.0, y.1)) (v, t) e in
    let all = q.takes s a.0.0 a.0.1 fits a.1 in
    let high : begins_low (g.spell a.0.0) ≡ false = sym (low_front (g.spell a.0.0) a.0.1.rest (some_g a.0.0)) ∙ ap begins_low (sym all.parts) ∙ test in
    let made : OneOf A B × Spot = (High a.0.0, a.0.1) in
    let here : Spelled (low_or_high f g) s (High a.0.0) a.0.1 = record { fits = (all.fits, high); parts = all.parts; moved = all.moved } in
    subst (λ (y : OneOf A B × Spot). Spelled (low_or_high f g) s y.0 y.1) (ok_is {F = F} made (v, t) a.2) here

both_again : {A B F : Type 0} (f : Format A F) (g : Format B F) → Lawful f → Lawful g → ((x : A) → 0 < length (f.spell x)) → ((y : B) → 0 < length (g.spell y)) → (s : Spot) (v : OneOf A B) (t : Spot)
    → Spelled (low_or_high f g) s v t → (low_or_high f g).read s ≡ Ok (v, t)
both_again f g p q some_f some_g s (Low x) t all =
    let test : begins_low s.rest ≡ true = ap begins_low all.parts ∙ low_front (f.spell x) t.rest (some_f x) ∙ all.fits.1 in
    let one : Spelled f s x t = record { fits = all.fits.0; parts = all.parts; moved = all.moved } in
    rw test (after_ok (f.read s) (λ x. Ok (Low x.0, x.1)) (x, t) (p.again s x t one))
both_again f g p q some_f some_g s (High y) t all =
    let test : begins_low s.rest ≡ false = ap begins_low all.parts ∙ low_front (g.spell y) t.rest (some_g y) ∙ all.fits.1 in
    let one : Spelled g s y t = record { fits = all.fits.0; parts = all.parts; moved = all.moved } in
    rw test (after_ok (g.read s) (λ y. Ok (High y.0, y.1)) (y, t) (q.again s y t one))

both_fails : {A B F : Type 0} (f : Format A F) (g : Format B F) → Lawful f → Lawful g → (s : Spot) (fault : F) (b : Bool) → begins_low s.rest ≡ b → IsBytes s.rest
    → cond {A = Result (OneOf A B × Spot) F} b (f.read s >>= λ x. Ok (Low x.0, x.1)) (g.read s >>= λ y. Ok (High y.0, y.1)) ≡ Err fault → (low_or_high f g).Wrong s fault
both_fails f g p q s fault true test fits e =
    elim (bind_err (f.read s) (λ x. Ok (Low x.0, x.1)) fault e) [
      | inl a ↦ inl (test, p.fails s fault fits a)
      | inr a ↦ absurd (no_both _ _ a.2)
    ]
both_fails f g p q s fault false test fits e =
    elim (bind_err (g.read s) (λ y. Ok (High y.0, y.1)) fault e) [
      | inl a ↦ inr (test, q.fails s fault fits a)
      | inr a ↦ absurd (no_both _ _ a.2)
    ]

both_refuses : {A B F : Type 0} (f : Format A F) (g : Format B F) → Lawful f → Lawful g → (s : Spot) (fault : F) → (low_or_high f g).Wrong s fault → (low_or_high f g).read s ≡ Err fault
both_refuses f g p q s fault (inl a) = rw a.0 (after_err (f.read s) (λ x. Ok (Low x.0, x.1)) fault (p.refuses s fault a.1))
both_refuses f g p q s fault (inr a) = rw a.0 (after_err (g.read s) (λ y. Ok (High y.0, y.1)) fault (q.refuses s fault a.1))

pub both_are_lawful : {A B F : Type 0} (f : Format A F) (g : Format B F) → Lawful f → Lawful g → ((x : A) → 0 < length (f.spell x)) → ((y : B) → 0 < length (g.spell y)) → Lawful (low_or_high f g)
both_are_lawful f g p q some_f some_g = record {
  takes = λ s v t fits e. both_lawful f g p q s v t (begins_low s.rest) refl fits e some_f some_g;
  again = both_again f g p q some_f some_g;
  fails = λ s fault fits e. both_fails f g p q s fault (begins_low s.rest) refl fits e;
  refuses = both_refuses f g p q;
}

-- ---- only some values

-- which values a view is of
pub record IsView {A B F : Type 0} (f : Format A F) (make : A → Option B) (parts : B → A) (Right : B → Type 0) : Type 0 where
  pub right : (y : B) → Right y → f.Fits (parts y) × (make (parts y) ≡ Some y)
  pub made : (x : A) (y : B) → f.Fits x → make x ≡ Some y → Right y × (parts y ≡ x)

made_some : {B F : Type 0} (fault : F) (u : Spot) (o : Option B) (y : B) (t : Spot) → some_or fault u o ≡ Ok (y, t) → (o ≡ Some y) × (u ≡ t)
made_some {B} {F} fault u (Some z) y t e =
    let same = ok_is {A = B × Spot} {F = F} (z, u) (y, t) e in
    (ap (λ (p : B × Spot). Some p.0) same, ap (λ (p : B × Spot). p.1) same)
made_some fault u None y t e = absurd cc

made_none : {B F : Type 0} (bad : F) (u : Spot) (o : Option B) (fault : F) → some_or bad u o ≡ Err fault → (o ≡ None) × (fault ≡ bad)
made_none bad u (Some z) fault e = absurd cc
made_none {B} bad u None fault e = (refl, sym (err_is {A = B × Spot} bad fault e))

viewed_refuses : {A B F : Type 0} (make : A → Option B) (parts : B → A) (Right : B → Type 0) (bad : ℕ → F) (f : Format A F) → Lawful f → (s : Spot) (fault : F) → (viewed make parts Right bad f).Wrong s fault
    → (viewed make parts Right bad f).read s ≡ Err fault
viewed_refuses make parts Right bad f p s fault (inl a) = after_err (f.read s) (λ x. some_or (bad s.at) x.1 (make x.0)) fault (p.refuses s fault a)
viewed_refuses make parts Right bad f p s fault (inr (x, t, all, none, is)) =
    after_ok (f.read s) (λ x. some_or (bad s.at) x.1 (make x.0)) (x, t) (p.again s x t all)
    ∙ ap (some_or (bad s.at) t) none ∙ ap (λ z. Err z) (sym is)

pub viewed_lawful : {A B F : Type 0} (make : A → Option B) (parts : B → A) (Right : B → Type 0) (bad : ℕ → F) (f : Format A F) → Lawful f → IsView f make parts Right → Lawful (viewed make parts Right bad f)
viewed_lawful {A} {B} {F} make parts Right bad f p view = record {
  takes = λ s y t fits e.
      let a = bind_ok (f.read s) (λ x. some_or (bad s.at) x.1 (make x.0)) (y, t) e in
      let b = made_some (bad s.at) a.0.1 (make a.0.0) y t a.2 in
      let all = p.takes s a.0.0 a.0.1 fits a.1 in
      let is = view.made a.0.0 y all.fits b.0 in
      let same : f.spell a.0.0 ≡ f.spell (parts y) = ap f.spell (sym is.1) in
      let here : Spelled (viewed make parts Right bad f) s y a.0.1 = record { fits = is.0; parts = all.parts ∙ ap (λ (b : List ℕ). b ++ a.0.1.rest) same; moved = all.moved ∙ ap (λ (b : List ℕ). s.at + length b) same } in
      subst (λ (u : Spot). Spelled (viewed make parts Right bad f) s y u) b.1 here;
  again = λ s y t all.
      let is = view.right y all.fits in
      let one : Spelled f s (parts y) t = record { fits = is.0; parts = all.parts; moved = all.moved } in
      after_ok (f.read s) (λ x. some_or (bad s.at) x.1 (make x.0)) (parts y, t) (p.again s (parts y) t one) ∙ ap (some_or (bad s.at) t) is.1;
  fails = λ s fault fits e.
      elim (bind_err (f.read s) (λ x. some_or (bad s.at) x.1 (make x.0)) fault e) [
        | inl a ↦ inl (p.fails s fault fits a)
        | inr a ↦
            let b = made_none (bad s.at) a.0.1 (make a.0.0) fault a.2 in
            inr (a.0.0, a.0.1, p.takes s a.0.0 a.0.1 fits a.1, b.0, b.1)
      ];
  refuses = λ s fault wrong. viewed_refuses make parts Right bad f p s fault wrong;
}
