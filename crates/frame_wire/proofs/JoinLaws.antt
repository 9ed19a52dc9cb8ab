-- What is joined of lawful formats is lawful.
use Rattle.std.proofs.Common.{◌≡◌, ℕ, zero, suc, ◌+◌, ◌<◌, ◌⊎◌, Bool, true, false, cond, eqb, List, [], ◌∷◌, ◌++◌, length, drop, Option, Some, None, Result, Ok, Err, refl, sym, ap, subst, ◌∙◌, append_assoc, arith, inl, inr}
use Rattle.std.specs.List.{flat_map, AllByRecursion}
use Rattle.std.proofs.lemmas.Bool.{eqb-true, eqb-false, ne_eqb}
use Rattle.std.proofs.Math.Seq.{drop-length}
use Rattle.std.proofs.lemmas.List.{append-nil, nil_from_length, length-append}
use Rattle.std.proofs.lemmas.List.Concat.{flat_map-cons}
use Rattle.frame_wire.specs.declared.fault.FieldFault.{FieldFault}
use Rattle.frame_wire.specs.Fields.{count_bytes}
use Rattle.frame_wire.specs.Reading.{Spot, past}
use Rattle.frame_wire.specs.Formats.{Format, Spelled, count_field}
use Rattle.frame_wire.specs.Joins.{◌>>=◌, with_fault, within, mapped, ◌then◌, items_at, WrongItem, list, absent_at, or_absent, to_end, end_of}
use Rattle.frame_wire.specs.Laws.{IsBytes, Lawful, LawfulLast, OneOutcome}
use Rattle.frame_wire.proofs.FieldFormats.{count_lawful}
use Rattle.frame_wire.proofs.Steps.{rest_bytes, chosen, ok_is, err_is, no_both}

-- ---- one outcome

either : {A F : Type 0} (f : Format A F) → Lawful f → (s : Spot) → IsBytes s.rest → (r : Result (A × Spot) F) → f.read s ≡ r → ((x : A) × (t : Spot) × Spelled f s x t) ⊎ ((fault : F) × f.Wrong s fault)
either f p s fits (Ok x) e = inl (x.0, x.1, p.takes s x.0 x.1 fits e)
either f p s fits (Err fault) e = inr (fault, p.fails s fault fits e)

pub one_outcome : {A F : Type 0} (f : Format A F) → Lawful f → OneOutcome f
one_outcome {A} {F} f p = record {
  some = λ s fits. either f p s fits (f.read s) refl;
  value = λ s x y t u a b.
      let same = ok_is {A = A × Spot} {F = F} (x, t) (y, u) (sym (p.again s x t a) ∙ p.again s y u b) in
      (ap (λ (z : A × Spot). z.0) same, ap (λ (z : A × Spot). z.1) same);
  fault = λ s a b wrong other. err_is {A = A × Spot} a b (sym (p.refuses s a wrong) ∙ p.refuses s b other);
  apart = λ s x t fault spelled wrong. no_both _ _ (sym (p.again s x t spelled) ∙ p.refuses s fault wrong);
}

-- ---- steps

-- the value of a step that did not fail
pub bind_ok : {A B F : Type 0} (r : Result A F) (f : A → Result B F) (y : B) → (r >>= f) ≡ Ok y → (x : A) × (r ≡ Ok x) × (f x ≡ Ok y)
bind_ok (Ok x) f y e = (x, refl, e)
bind_ok (Err d) f y e = absurd cc

-- a step that failed, or the next
pub bind_err : {A B F : Type 0} (r : Result A F) (f : A → Result B F) (e : F) → (r >>= f) ≡ Err e → (r ≡ Err e) ⊎ ((x : A) × (r ≡ Ok x) × (f x ≡ Err e))
bind_err (Ok x) f e h = inr (x, refl, h)
bind_err {A} (Err d) f e h = let same : d ≡ e = cc in inl (ap (λ z. Err z) same)

pub after_ok : {A B F : Type 0} (r : Result A F) (f : A → Result B F) (x : A) → r ≡ Ok x → (r >>= f) ≡ f x
after_ok r f x e = ap (λ z. z >>= f) e

pub after_err : {A B F : Type 0} (r : Result A F) (f : A → Result B F) (e : F) → r ≡ Err e → (r >>= f) ≡ Err e
after_err r f e h = ap (λ z. z >>= f) h

fault_ok : {A E F : Type 0} (of : E → F) (r : Result A E) (x : A) → with_fault of r ≡ Ok x → r ≡ Ok x
fault_ok of (Ok y) x e = let same : y ≡ x = cc in ap (λ z. Ok z) same
fault_ok of (Err d) x e = absurd cc

fault_err : {A E F : Type 0} (of : E → F) (r : Result A E) (fault : F) → with_fault of r ≡ Err fault → (e : E) × (r ≡ Err e) × (fault ≡ of e)
fault_err of (Ok y) fault e = absurd cc
fault_err of (Err d) fault e = (d, refl, cc)

-- ---- another kind of fault, other values

pub within_lawful : {A E F : Type 0} (of : E → F) (f : Format A E) → Lawful f → Lawful (within of f)
within_lawful of f p = record {
  takes = λ s x t fits e.
      let spelled = p.takes s x t fits (fault_ok of (f.read s) (x, t) e) in
      record { fits = spelled.fits; parts = spelled.parts; moved = spelled.moved };
  again = λ s x t spelled. ap (with_fault of) (p.again s x t (record { fits = spelled.fits; parts = spelled.parts; moved = spelled.moved }));
  fails = λ s fault fits e.
      let h = fault_err of (f.read s) fault e in
      (h.0, p.fails s h.0 fits h.1, h.2);
  refuses = λ s fault wrong. ap (with_fault of) (p.refuses s wrong.0 wrong.1) ∙ ap (λ z. Err z) (sym wrong.2);
}

-- the value made of what stood there spelled
mapped_spelled : {A B F : Type 0} (make : A → B) (parts : B → A) (f : Format A F) → ((x : A) → parts (make x) ≡ x) → (s : Spot) (x : A) (t : Spot) → Spelled f s x t → Spelled (mapped make parts f) s (make x) t
mapped_spelled {A} make parts f back s x t spelled =
    let same : x ≡ parts (make x) = sym (back x) in
    record {
      fits = subst f.Fits same spelled.fits;
      parts = spelled.parts ∙ ap (λ (z : A). f.spell z ++ t.rest) same;
      moved = spelled.moved ∙ ap (λ (z : A). s.at + length (f.spell z)) same;
    }

pub mapped_lawful : {A B F : Type 0} (make : A → B) (parts : B → A) (f : Format A F) → ((x : A) → parts (make x) ≡ x) → ((y : B) → make (parts y) ≡ y) → Lawful f → Lawful (mapped make parts f)
mapped_lawful {A} {B} {F} make parts f back forth p = record {
  takes = λ s y t fits e.
      let a = bind_ok (f.read s) (λ x. Ok (make x.0, x.1)) (y, t) e in
      let spelled = mapped_spelled make parts f back s a.0.0 a.0.1 (p.takes s a.0.0 a.0.1 fits a.1) in
      let made : B × Spot = (make a.0.0, a.0.1) in
      subst (λ (z : B × Spot). Spelled (mapped make parts f) s z.0 z.1) (ok_is {F = F} made (y, t) a.2) spelled;
  again = λ s y t spelled.
      after_ok (f.read s) (λ x. Ok (make x.0, x.1)) (parts y, t) (p.again s (parts y) t (record { fits = spelled.fits; parts = spelled.parts; moved = spelled.moved }))
      ∙ ap (λ (z : B). Ok (z, t)) (forth y);
  fails = λ s fault fits e.
      elim (bind_err (f.read s) (λ x. Ok (make x.0, x.1)) fault e) [
        | inl a ↦ p.fails s fault fits a
        | inr a ↦ absurd (no_both _ _ a.2)
      ];
  refuses = λ s fault wrong. after_err (f.read s) (λ x. Ok (make x.0, x.1)) fault (p.refuses s fault wrong);
}

-- ---- one after another

then_spelled : {A B F : Type 0} (f : Format A F) (g : Format B F) (s : Spot) (x : A) (m : Spot) (y : B) (t : Spot) → Spelled f s x m → Spelled g m y t → Spelled (f then g) s (x, y) t
then_spelled f g s x m y t a b =
    record {
      fits = (a.fits, b.fits);
      parts = a.parts ∙ ap (λ (r : List ℕ). f.spell x ++ r) b.parts ∙ sym (append_assoc (f.spell x) (g.spell y) t.rest);
      moved = omega (arith, a.moved, b.moved, length-append (f.spell x) (g.spell y));
    }

-- where the second begins
abbrev middle : {A F : Type 0} → Format A F → Spot → A → List ℕ → Spot
middle f s x rest = record { at = s.at + length (f.spell x); rest = rest }

then_first : {A B F : Type 0} (f : Format A F) (g : Format B F) (s : Spot) (p : A × B) (t : Spot) → Spelled (f then g) s p t → Spelled f s p.0 (middle f s p.0 (g.spell p.1 ++ t.rest))
then_first f g s p t both = record { fits = both.fits.0; parts = both.parts ∙ append_assoc (f.spell p.0) (g.spell p.1) t.rest; moved = refl }

then_second : {A B F : Type 0} (f : Format A F) (g : Format B F) (s : Spot) (p : A × B) (t : Spot) → Spelled (f then g) s p t → Spelled g (middle f s p.0 (g.spell p.1 ++ t.rest)) p.1 t
then_second f g s p t both = record { fits = both.fits.1; parts = refl; moved = omega (arith, both.moved, length-append (f.spell p.0) (g.spell p.1)) }

then_takes : {A B F : Type 0} (f : Format A F) (g : Format B F) → ((s : Spot) (x : A) (t : Spot) → IsBytes s.rest → f.read s ≡ Ok (x, t) → Spelled f s x t)
    → ((s : Spot) (y : B) (t : Spot) → IsBytes s.rest → g.read s ≡ Ok (y, t) → Spelled g s y t)
    → (s : Spot) (p : A × B) (t : Spot) → IsBytes s.rest → (f then g).read s ≡ Ok (p, t) → Spelled (f then g) s p t
then_takes {A} {B} {F} f g takes_f takes_g s p t fits e =
    let a = bind_ok (f.read s) (λ x. g.read x.1 >>= λ y. Ok ((x.0, y.0), y.1)) (p, t) e in
    let b = bind_ok (g.read a.0.1) (λ y. Ok ((a.0.0, y.0), y.1)) (p, t) a.2 in
    let first = takes_f s a.0.0 a.0.1 fits a.1 in
    let second = takes_g a.0.1 b.0.0 b.0.1 (rest_bytes f s a.0.0 a.0.1 fits first) b.1 in
    let made : (A × B) × Spot = ((a.0.0, b.0.0), b.0.1) in
    subst (λ (y : (A × B) × Spot). Spelled (f then g) s y.0 y.1) (ok_is {F = F} made (p, t) b.2) (then_spelled f g s a.0.0 a.0.1 b.0.0 b.0.1 first second)

then_again : {A B F : Type 0} (f : Format A F) (g : Format B F) (s : Spot) (p : A × B) (m t : Spot) → f.read s ≡ Ok (p.0, m) → g.read m ≡ Ok (p.1, t) → (f then g).read s ≡ Ok (p, t)
then_again f g s p m t a b =
    after_ok (f.read s) (λ x. g.read x.1 >>= λ y. Ok ((x.0, y.0), y.1)) (p.0, m) a ∙ after_ok (g.read m) (λ y. Ok ((p.0, y.0), y.1)) (p.1, t) b

then_fails : {A B F : Type 0} (f : Format A F) (g : Format B F) → Lawful f → ((s : Spot) (fault : F) → IsBytes s.rest → g.read s ≡ Err fault → g.Wrong s fault)
    → (s : Spot) (fault : F) → IsBytes s.rest → (f then g).read s ≡ Err fault → (f then g).Wrong s fault
then_fails f g p fails_g s fault fits e =
    elim (bind_err (f.read s) (λ x. g.read x.1 >>= λ y. Ok ((x.0, y.0), y.1)) fault e) [
      | inl a ↦ inl (p.fails s fault fits a)
      | inr a ↦
          let first = p.takes s a.0.0 a.0.1 fits a.1 in
          elim (bind_err (g.read a.0.1) (λ y. Ok ((a.0.0, y.0), y.1)) fault a.2) [
            | inl b ↦ inr (a.0.0, a.0.1, first, fails_g a.0.1 fault (rest_bytes f s a.0.0 a.0.1 fits first) b)
            | inr b ↦ absurd (no_both _ _ b.2)
          ]
    ]

then_refuses : {A B F : Type 0} (f : Format A F) (g : Format B F) → Lawful f → ((s : Spot) (fault : F) → g.Wrong s fault → g.read s ≡ Err fault)
    → (s : Spot) (fault : F) → (f then g).Wrong s fault → (f then g).read s ≡ Err fault
then_refuses f g p refuses_g s fault (inl a) = after_err (f.read s) (λ x. g.read x.1 >>= λ y. Ok ((x.0, y.0), y.1)) fault (p.refuses s fault a)
then_refuses f g p refuses_g s fault (inr b) =
    let x = b.0 in
    let t = b.1 in
    after_ok (f.read s) (λ x. g.read x.1 >>= λ y. Ok ((x.0, y.0), y.1)) (x, t) (p.again s x t b.2) ∙ after_err (g.read t) (λ y. Ok ((x, y.0), y.1)) fault (refuses_g t fault b.3)

pub then_lawful : {A B F : Type 0} (f : Format A F) (g : Format B F) → Lawful f → Lawful g → Lawful (f then g)
then_lawful f g p q = record {
  takes = then_takes f g p.takes q.takes;
  again = λ s x t both.
      let m = middle f s x.0 (g.spell x.1 ++ t.rest) in
      then_again f g s x m t (p.again s x.0 m (then_first f g s x t both)) (q.again m x.1 t (then_second f g s x t both));
  fails = then_fails f g p q.fails;
  refuses = then_refuses f g p q.refuses;
}

-- ---- a format that ends a body

pub last_lawful : {A F : Type 0} (f : Format A F) → Lawful f → LawfulLast f
last_lawful f p = record { takes = p.takes; ends = λ s x t spelled ended. p.again s x t spelled; fails = p.fails; refuses = p.refuses }

pub then_last : {A B F : Type 0} (f : Format A F) (g : Format B F) → Lawful f → LawfulLast g → LawfulLast (f then g)
then_last f g p q = record {
  takes = then_takes f g p.takes q.takes;
  ends = λ s x t both ended.
      let m = middle f s x.0 (g.spell x.1 ++ t.rest) in
      then_again f g s x m t (p.again s x.0 m (then_first f g s x t both)) (q.ends m x.1 t (then_second f g s x t both) ended);
  fails = then_fails f g p q.fails;
  refuses = then_refuses f g p q.refuses;
}

pub within_last : {A E F : Type 0} (of : E → F) (f : Format A E) → LawfulLast f → LawfulLast (within of f)
within_last of f p = record {
  takes = λ s x t fits e.
      let spelled = p.takes s x t fits (fault_ok of (f.read s) (x, t) e) in
      record { fits = spelled.fits; parts = spelled.parts; moved = spelled.moved };
  ends = λ s x t spelled ended. ap (with_fault of) (p.ends s x t (record { fits = spelled.fits; parts = spelled.parts; moved = spelled.moved }) ended);
  fails = λ s fault fits e.
      let h = fault_err of (f.read s) fault e in
      (h.0, p.fails s h.0 fits h.1, h.2);
  refuses = λ s fault wrong. ap (with_fault of) (p.refuses s wrong.0 wrong.1) ∙ ap (λ z. Err z) (sym wrong.2);
}

pub mapped_last : {A B F : Type 0} (make : A → B) (parts : B → A) (f : Format A F) → ((x : A) → parts (make x) ≡ x) → ((y : B) → make (parts y) ≡ y) → LawfulLast f → LawfulLast (mapped make parts f)
mapped_last {A} {B} {F} make parts f back forth p = record {
  takes = λ s y t fits e.
      let a = bind_ok (f.read s) (λ x. Ok (make x.0, x.1)) (y, t) e in
      let spelled = mapped_spelled make parts f back s a.0.0 a.0.1 (p.takes s a.0.0 a.0.1 fits a.1) in
      let made : B × Spot = (make a.0.0, a.0.1) in
      subst (λ (z : B × Spot). Spelled (mapped make parts f) s z.0 z.1) (ok_is {F = F} made (y, t) a.2) spelled;
  ends = λ s y t spelled ended.
      after_ok (f.read s) (λ x. Ok (make x.0, x.1)) (parts y, t) (p.ends s (parts y) t (record { fits = spelled.fits; parts = spelled.parts; moved = spelled.moved }) ended)
      ∙ ap (λ (z : B). Ok (z, t)) (forth y);
  fails = λ s fault fits e.
      elim (bind_err (f.read s) (λ x. Ok (make x.0, x.1)) fault e) [
        | inl a ↦ p.fails s fault fits a
        | inr a ↦ absurd (no_both _ _ a.2)
      ];
  refuses = λ s fault wrong. after_err (f.read s) (λ x. Ok (make x.0, x.1)) fault (p.refuses s fault wrong);
}

-- ---- lists

-- so many items, one after another
abbrev pub items : {A F : Type 0} → Format A F → ℕ → Format (List A) F
items f n = record {
  spell = flat_map f.spell;
  Fits = λ xs. (length xs ≡ n) × AllByRecursion f.Fits xs;
  read = items_at f.read n;
  Wrong = WrongItem f n;
}

cons_spelled : {A F : Type 0} (f : Format A F) (n : ℕ) (s : Spot) (x : A) (m : Spot) (xs : List A) (t : Spot) → Spelled f s x m → Spelled (items f n) m xs t → Spelled (items f (suc n)) s (x ∷ xs) t
cons_spelled f n s x m xs t a b =
    record {
      fits = (ap suc b.fits.0, (a.fits, b.fits.1));
      parts = a.parts ∙ ap (λ (r : List ℕ). f.spell x ++ r) b.parts ∙ sym (append_assoc (f.spell x) (flat_map f.spell xs) t.rest) ∙ ap (λ (r : List ℕ). r ++ t.rest) (sym (flat_map-cons f.spell x xs));
      moved = rw flat_map-cons (omega (arith, a.moved, b.moved, length-append (f.spell x) (flat_map f.spell xs)));
    }

head_spelled : {A F : Type 0} (f : Format A F) (n : ℕ) (s : Spot) (x : A) (xs : List A) (t : Spot) → Spelled (items f (suc n)) s (x ∷ xs) t → Spelled f s x (middle f s x (flat_map f.spell xs ++ t.rest))
head_spelled f n s x xs t all =
    record { fits = all.fits.1.0; parts = all.parts ∙ ap (λ (r : List ℕ). r ++ t.rest) (flat_map-cons f.spell x xs) ∙ append_assoc (f.spell x) (flat_map f.spell xs) t.rest; moved = refl }

tail_spelled : {A F : Type 0} (f : Format A F) (n : ℕ) (s : Spot) (x : A) (xs : List A) (t : Spot) → Spelled (items f (suc n)) s (x ∷ xs) t → Spelled (items f n) (middle f s x (flat_map f.spell xs ++ t.rest)) xs t
tail_spelled f n s x xs t all =
    let len : length xs ≡ n = omega (arith, all.fits.0) in
    let whole : length (flat_map f.spell (x ∷ xs)) ≡ length (f.spell x) + length (flat_map f.spell xs) = ap length (flat_map-cons f.spell x xs) ∙ length-append (f.spell x) (flat_map f.spell xs) in
    record { fits = (len, all.fits.1.1); parts = refl; moved = omega (arith, all.moved, whole) }

-- behind nothing a reader stands where it stood
same_spot : (s t : Spot) → s.rest ≡ t.rest → t.at ≡ s.at + 0 → s ≡ t
same_spot s t rest place =
    let at : s.at ≡ t.at = omega arith in
    ap (λ (r : List ℕ). record { at = s.at; rest = r }) rest ∙ ap (λ (a : ℕ). record { at = a; rest = t.rest }) at

items_takes : {A F : Type 0} (f : Format A F) → Lawful f → (n : ℕ) (s : Spot) (x : List A) (t : Spot) → IsBytes s.rest → items_at f.read n s ≡ Ok (x, t) → Spelled (items f n) s x t
unfolding items_at
items_takes {A} {F} f p zero s x t fits e =
    let made : List A × Spot = ([], s) in
    let nothing : Spelled (items f 0) s [] s = record { fits = (refl, tt); parts = refl; moved = omega arith } in
    subst (λ (y : List A × Spot). Spelled (items f 0) s y.0 y.1) (ok_is {F = F} made (x, t) e) nothing
items_takes {A} {F} f p (suc n) s x t fits e =
    let a = bind_ok (f.read s) (λ x. items_at f.read n x.1 >>= λ xs. Ok (x.0 ∷ xs.0, xs.1)) (x, t) e in
    let b = bind_ok (items_at f.read n a.0.1) (λ xs. Ok (a.0.0 ∷ xs.0, xs.1)) (x, t) a.2 in
    let first = p.takes s a.0.0 a.0.1 fits a.1 in
    let second = items_takes f p n a.0.1 b.0.0 b.0.1 (rest_bytes f s a.0.0 a.0.1 fits first) b.1 in
    let made : List A × Spot = (a.0.0 ∷ b.0.0, b.0.1) in
    let same : made ≡ (x, t) = ok_is {F = F} made (x, t) b.2 in
    subst (λ (y : List A × Spot). Spelled (items f (suc n)) s y.0 y.1) {x = made} same (cons_spelled f n s a.0.0 a.0.1 b.0.0 b.0.1 first second)

items_again : {A F : Type 0} (f : Format A F) → Lawful f → (n : ℕ) (s : Spot) (xs : List A) (t : Spot) → Spelled (items f n) s xs t → items_at f.read n s ≡ Ok (xs, t)
unfolding items_at
items_again f p zero s [] t all = ap (λ (u : Spot). Ok ([], u)) (same_spot s t all.parts all.moved)
items_again f p zero s (x ∷ xs) t all = absurd (omega (arith, all.fits.0))
items_again f p (suc n) s [] t all = absurd (omega (arith, all.fits.0))
items_again f p (suc n) s (x ∷ xs) t all =
    let m = middle f s x (flat_map f.spell xs ++ t.rest) in
    after_ok (f.read s) (λ x. items_at f.read n x.1 >>= λ xs. Ok (x.0 ∷ xs.0, xs.1)) (x, m) (p.again s x m (head_spelled f n s x xs t all))
    ∙ after_ok (items_at f.read n m) (λ xs. Ok (x ∷ xs.0, xs.1)) (xs, t) (items_again f p n m xs t (tail_spelled f n s x xs t all))

items_fails : {A F : Type 0} (f : Format A F) → Lawful f → (n : ℕ) (s : Spot) (fault : F) → IsBytes s.rest → items_at f.read n s ≡ Err fault → WrongItem f n s fault
unfolding items_at
items_fails f p zero s fault fits h = absurd (no_both _ _ h)
items_fails f p (suc n) s fault fits h =
    elim (bind_err (f.read s) (λ x. items_at f.read n x.1 >>= λ xs. Ok (x.0 ∷ xs.0, xs.1)) fault h) [
      | inl a ↦ record { front = []; behind = s; fewer = omega arith; fits = tt; parts = refl; moved = omega arith; item = p.fails s fault fits a }
      | inr a ↦
          let first = p.takes s a.0.0 a.0.1 fits a.1 in
          elim (bind_err (items_at f.read n a.0.1) (λ xs. Ok (a.0.0 ∷ xs.0, xs.1)) fault a.2) [
            | inl b ↦
                let w = items_fails f p n a.0.1 fault (rest_bytes f s a.0.0 a.0.1 fits first) b in
                record {
                  front = a.0.0 ∷ w.front;
                  behind = w.behind;
                  fewer = omega (arith, w.fewer);
                  fits = (first.fits, w.fits);
                  parts = first.parts ∙ ap (λ (x : List ℕ). f.spell a.0.0 ++ x) w.parts ∙ sym (append_assoc (f.spell a.0.0) (flat_map f.spell w.front) w.behind.rest) ∙ ap (λ (x : List ℕ). x ++ w.behind.rest) (sym (flat_map-cons f.spell a.0.0 w.front));
                  moved = rw flat_map-cons (omega (arith, w.moved, first.moved, length-append (f.spell a.0.0) (flat_map f.spell w.front)));
                  item = w.item;
                }
            | inr b ↦ absurd (no_both _ _ b.2)
          ]
    ]

wrong_behind : {A F : Type 0} (f : Format A F) → Lawful f → (front : List A) (n : ℕ) (s behind : Spot) (fault : F) → length front < n → AllByRecursion f.Fits front
    → s.rest ≡ flat_map f.spell front ++ behind.rest → behind.at ≡ s.at + length (flat_map f.spell front) → f.Wrong behind fault → items_at f.read n s ≡ Err fault
unfolding items_at
wrong_behind f p front zero s behind fault lt fits parts moved wrong = absurd (omega arith)
wrong_behind f p [] (suc n) s behind fault lt fits parts moved wrong =
    let here : f.read s ≡ Err fault = ap f.read (same_spot s behind parts moved) ∙ p.refuses behind fault wrong in
    after_err (f.read s) (λ x. items_at f.read n x.1 >>= λ xs. Ok (x.0 ∷ xs.0, xs.1)) fault here
wrong_behind f p (x ∷ xs) (suc n) s behind fault lt fits parts moved wrong =
    let m = middle f s x (flat_map f.spell xs ++ behind.rest) in
    let spelled : Spelled f s x m = record { fits = fits.0; parts = parts ∙ ap (λ (r : List ℕ). r ++ behind.rest) (flat_map-cons f.spell x xs) ∙ append_assoc (f.spell x) (flat_map f.spell xs) behind.rest; moved = refl } in
    let whole : length (flat_map f.spell (x ∷ xs)) ≡ length (f.spell x) + length (flat_map f.spell xs) = ap length (flat_map-cons f.spell x xs) ∙ length-append (f.spell x) (flat_map f.spell xs) in
    let rest = wrong_behind f p xs n m behind fault (omega arith) fits.1 refl (omega (arith, moved, whole)) wrong in
    after_ok (f.read s) (λ x. items_at f.read n x.1 >>= λ xs. Ok (x.0 ∷ xs.0, xs.1)) (x, m) (p.again s x m spelled) ∙ after_err (items_at f.read n m) (λ xs. Ok (x ∷ xs.0, xs.1)) fault rest

pub items_lawful : {A F : Type 0} (f : Format A F) → Lawful f → (n : ℕ) → Lawful (items f n)
items_lawful f p n = record {
  takes = items_takes f p n;
  again = items_again f p n;
  fails = items_fails f p n;
  refuses = λ s fault w. wrong_behind f p w.front n s w.behind fault w.fewer w.fits w.parts w.moved w.item;
}

list_spelled : {A F : Type 0} (of : FieldFault → F) (f : Format A F) (s : Spot) (n : ℕ) (m : Spot) (xs : List A) (t : Spot) → Spelled count_field s n m → Spelled (items f n) m xs t → Spelled (list of f) s xs t
list_spelled of f s n m xs t a b =
    let len : n ≡ length xs = sym b.fits.0 in
    record {
      fits = (omega (arith, a.fits, len), b.fits.1);
      parts = a.parts ∙ ap (λ (k : ℕ). count_bytes k ++ m.rest) len ∙ ap (λ (r : List ℕ). count_bytes (length xs) ++ r) b.parts ∙ sym (append_assoc (count_bytes (length xs)) (flat_map f.spell xs) t.rest);
      moved = omega (arith, a.moved, b.moved, ap (λ (k : ℕ). length (count_bytes k)) len, length-append (count_bytes (length xs)) (flat_map f.spell xs));
    }

pub list_lawful : {A F : Type 0} (of : FieldFault → F) (f : Format A F) → Lawful f → Lawful (list of f)
list_lawful {A} {F} of f p = record {
  takes = λ s xs t fits e.
      let a = bind_ok (with_fault of (count_field.read s)) (λ n. items_at f.read n.0 n.1) (xs, t) e in
      let first = count_lawful.takes s a.0.0 a.0.1 fits (fault_ok of (count_field.read s) a.0 a.1) in
      let second = items_takes f p a.0.0 a.0.1 xs t (rest_bytes count_field s a.0.0 a.0.1 fits first) a.2 in
      list_spelled of f s a.0.0 a.0.1 xs t first second;
  again = λ s xs t all.
      let m : Spot = record { at = s.at + length (count_bytes (length xs)); rest = flat_map f.spell xs ++ t.rest } in
      let first : Spelled count_field s (length xs) m = record { fits = all.fits.0; parts = all.parts ∙ append_assoc (count_bytes (length xs)) (flat_map f.spell xs) t.rest; moved = refl } in
      let second : Spelled (items f (length xs)) m xs t = record { fits = (refl, all.fits.1); parts = refl; moved = omega (arith, all.moved, length-append (count_bytes (length xs)) (flat_map f.spell xs)) } in
      let counted : with_fault of (count_field.read s) ≡ Ok (length xs, m) = ap (with_fault of) (count_lawful.again s (length xs) m first) in
      after_ok (with_fault of (count_field.read s)) (λ n. items_at f.read n.0 n.1) (length xs, m) counted ∙ items_again f p (length xs) m xs t second;
  fails = λ s fault fits e.
      elim (bind_err (with_fault of (count_field.read s)) (λ n. items_at f.read n.0 n.1) fault e) [
        | inl a ↦ inl ((within_lawful of count_field count_lawful).fails s fault fits a)
        | inr a ↦
            let first = count_lawful.takes s a.0.0 a.0.1 fits (fault_ok of (count_field.read s) a.0 a.1) in
            inr (a.0.0, a.0.1, first, items_fails f p a.0.0 a.0.1 fault (rest_bytes count_field s a.0.0 a.0.1 fits first) a.2)
      ];
  refuses = λ s fault wrong.
      elim wrong [
        | inl a ↦ after_err (with_fault of (count_field.read s)) (λ n. items_at f.read n.0 n.1) fault ((within_lawful of count_field count_lawful).refuses s fault a)
        | inr b ↦
            let counted : with_fault of (count_field.read s) ≡ Ok (b.0, b.1) = ap (with_fault of) (count_lawful.again s b.0 b.1 b.2) in
            after_ok (with_fault of (count_field.read s)) (λ n. items_at f.read n.0 n.1) (b.0, b.1) counted ∙ (items_lawful f p b.0).refuses b.1 fault b.3
      ];
}

-- ---- a last field that may be absent

absent_takes : {A F : Type 0} (f : Format A F) → LawfulLast f → (b : Bool) (s : Spot) (x : Option A) (t : Spot) → IsBytes s.rest
    → cond {A = Result (Option A × Spot) F} b (Ok (None, s)) (f.read s >>= λ x. Ok (Some x.0, x.1)) ≡ Ok (x, t) → Spelled (or_absent f) s x t
absent_takes {A} {F} f p true s x t fits e =
    let made : Option A × Spot = (None, s) in
    let nothing : Spelled (or_absent f) s None s = record { fits = tt; parts = refl; moved = omega arith } in
    subst (λ (y : Option A × Spot). Spelled (or_absent f) s y.0 y.1) (ok_is {F = F} made (x, t) e) nothing
absent_takes {A} {F} f p false s x t fits e =
    let a = bind_ok (f.read s) (λ x. Ok (Some x.0, x.1)) (x, t) e in
    let got = p.takes s a.0.0 a.0.1 fits a.1 in
    let made : Option A × Spot = (Some a.0.0, a.0.1) in
    let there : Spelled (or_absent f) s (Some a.0.0) a.0.1 = record { fits = got.fits; parts = got.parts; moved = got.moved } in
    subst (λ (y : Option A × Spot). Spelled (or_absent f) s y.0 y.1) (ok_is {F = F} made (x, t) a.2) there

absent_ends : {A F : Type 0} (f : Format A F) → LawfulLast f → ((x : A) → 0 < length (f.spell x)) → (s : Spot) (x : Option A) (t : Spot) → Spelled (or_absent f) s x t → t.rest ≡ [] → absent_at f.read s ≡ Ok (x, t)
absent_ends {A} {F} f p some s None t all ended =
    let none : s.rest ≡ [] = all.parts ∙ ended in
    let test : eqb (length s.rest) 0 ≡ true = rw none refl in
    let same : ◌≡◌ {A = Result (Option A × Spot) F} (Ok (None, s)) (Ok (None, t)) = ap (λ (u : Spot). Ok (None, u)) (same_spot s t all.parts all.moved) in
    rw test same
absent_ends {A} {F} f p some s (Some x) t all ended =
    let long = some x in
    let len : length s.rest ≡ length (f.spell x) + length t.rest = ap length all.parts ∙ length-append (f.spell x) t.rest in
    let test : eqb (length s.rest) 0 ≡ false = ne_eqb (length s.rest) 0 (λ e. omega arith) in
    let read = p.ends s x t (record { fits = all.fits; parts = all.parts; moved = all.moved }) ended in
    let same : (f.read s >>= λ x. Ok (Some x.0, x.1)) ≡ Ok (Some x, t) = after_ok (f.read s) (λ x. Ok (Some x.0, x.1)) (x, t) read in
    rw test same

absent_fails : {A F : Type 0} (f : Format A F) → LawfulLast f → (s : Spot) (fault : F) → IsBytes s.rest → absent_at f.read s ≡ Err fault → (or_absent f).Wrong s fault
absent_fails {A} {F} f p s fault fits e =
    elim (chosen {A = Result (Option A × Spot) F} (eqb (length s.rest) 0) (Ok (None, s)) (f.read s >>= λ x. Ok (Some x.0, x.1)) (Err fault) e) [
      | inl h ↦ absurd (no_both _ _ h.1)
      | inr h ↦
          let other = eqb-false (length s.rest) 0 h.0 in
          elim (bind_err (f.read s) (λ x. Ok (Some x.0, x.1)) fault h.1) [
            | inl a ↦ (grind arith, p.fails s fault fits a)
            | inr a ↦ absurd (no_both _ _ a.2)
          ]
    ]

absent_refuses : {A F : Type 0} (f : Format A F) → LawfulLast f → (s : Spot) (fault : F) → (or_absent f).Wrong s fault → absent_at f.read s ≡ Err fault
absent_refuses {A} {F} f p s fault wrong =
    let some = wrong.0 in
    let test : eqb (length s.rest) 0 ≡ false = ne_eqb (length s.rest) 0 (λ e. omega arith) in
    let same : (f.read s >>= λ x. Ok (Some x.0, x.1)) ≡ Err fault = after_err (f.read s) (λ x. Ok (Some x.0, x.1)) fault (p.refuses s fault wrong.1) in
    rw test same

pub absent_last : {A F : Type 0} (f : Format A F) → LawfulLast f → ((x : A) → 0 < length (f.spell x)) → LawfulLast (or_absent f)
absent_last f p some = record {
  takes = λ s x t fits e. absent_takes f p (eqb (length s.rest) 0) s x t fits e;
  ends = absent_ends f p some;
  fails = absent_fails f p;
  refuses = absent_refuses f p;
}

pub absent_lawful : {A F : Type 0} (f : Format A F) → Lawful f → ((x : A) → 0 < length (f.spell x)) → LawfulLast (or_absent f)
absent_lawful f p some = absent_last f (last_lawful f p) some

-- ---- the end of a body

end_takes : {F : Type 0} (long : ℕ → F) (b : Bool) (s : Spot) (x : Unit {0}) (t : Spot) → cond {A = Result (Unit {0} × Spot) F} b (Ok (tt, s)) (Err (long s.at)) ≡ Ok (x, t) → (b ≡ true) × (s ≡ t)
end_takes {F} long true s x t e = (refl, ap (λ (y : Unit {0} × Spot). y.1) (ok_is {A = Unit {0} × Spot} {F = F} (tt, s) (x, t) e))
end_takes long false s x t e = absurd cc

end_fails : {F : Type 0} (long : ℕ → F) (b : Bool) (s : Spot) (fault : F) → cond {A = Result (Unit {0} × Spot) F} b (Ok (tt, s)) (Err (long s.at)) ≡ Err fault → (b ≡ false) × (fault ≡ long s.at)
end_fails long true s fault e = absurd (no_both _ _ e)
end_fails {F} long false s fault e = (refl, sym (err_is {A = Unit {0} × Spot} (long s.at) fault e))

-- behind the end nothing is left
pub nothing_left : {F : Type 0} (long : ℕ → F) (s : Spot) (x : Unit {0}) (t : Spot) → (end_of long).read s ≡ Ok (x, t) → t.rest ≡ []
nothing_left long s x t e =
    let h = end_takes long (eqb (length s.rest) 0) s x t e in
    ap (λ (u : Spot). u.rest) (sym h.1) ∙ nil_from_length s.rest (eqb-true _ _ h.0)

pub end_lawful : {F : Type 0} (long : ℕ → F) → LawfulLast (end_of long)
end_lawful {F} long = record {
  takes = λ s x t fits e.
      let h = end_takes long (eqb (length s.rest) 0) s x t e in
      let here : Spelled (end_of long) s x s = record { fits = tt; parts = refl; moved = omega arith } in
      subst (λ (u : Spot). Spelled (end_of long) s x u) h.1 here;
  ends = λ s x t all ended.
      let none : s.rest ≡ [] = all.parts ∙ ended in
      let test : eqb (length s.rest) 0 ≡ true = rw none refl in
      let same : ◌≡◌ {A = Result (Unit {0} × Spot) F} (Ok (tt, s)) (Ok (tt, t)) = ap (λ (u : Spot). Ok (tt, u)) (same_spot s t all.parts all.moved) in
      rw test same;
  fails = λ s fault fits e.
      let h = end_fails long (eqb (length s.rest) 0) s fault e in
      let other = eqb-false (length s.rest) 0 h.0 in
      (grind arith, h.1);
  refuses = λ s fault wrong.
      let some = wrong.0 in
      let test : eqb (length s.rest) 0 ≡ false = ne_eqb (length s.rest) 0 (λ e. omega arith) in
      let same : ◌≡◌ {A = Result (Unit {0} × Spot) F} (Err (long s.at)) (Err fault) = ap (λ (f : F). Err f) (sym wrong.1) in
      rw test same;
}

-- ---- a last field to the end

pub to_end_lawful : {F : Type 0} → LawfulLast (to_end {F = F})
to_end_lawful {F} = record {
  takes = λ s x t fits e.
      let made : List ℕ × Spot = (s.rest, past (length s.rest) s) in
      let whole : s.rest ≡ s.rest ++ drop (length s.rest) s.rest = sym (append-nil s.rest) ∙ ap (λ (r : List ℕ). s.rest ++ r) (sym (drop-length s.rest)) in
      let all : Spelled (to_end {F = F}) s s.rest (past (length s.rest) s) = record { fits = tt; parts = whole; moved = refl } in
      subst (λ (y : List ℕ × Spot). Spelled (to_end {F = F}) s y.0 y.1) (ok_is {F = F} made (x, t) e) all;
  ends = λ s x t all ended.
      let is : s.rest ≡ x = all.parts ∙ ap (λ (r : List ℕ). x ++ r) ended ∙ append-nil x in
      let place : s.at + length s.rest ≡ t.at = ap (λ (r : List ℕ). s.at + length r) is ∙ sym all.moved in
      let behind : past (length s.rest) s ≡ t = ap (λ (r : List ℕ). record { at = s.at + length s.rest; rest = r }) (drop-length s.rest ∙ sym ended) ∙ ap (λ (a : ℕ). record { at = a; rest = t.rest }) place in
      ap (λ (r : List ℕ). Ok (r, past (length s.rest) s)) is ∙ ap (λ (u : Spot). Ok (x, u)) behind;
  fails = λ s fault fits e. absurd (no_both _ _ e);
  refuses = λ s fault wrong. absurd wrong;
}
