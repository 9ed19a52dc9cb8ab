-- Passes with serials one after the other.
use Rattle.std.proofs.Common.{◌≡◌, ℕ, zero, suc, ◌+◌, ◌<◌, ◌≤◌, List, [], ◌∷◌, ◌++◌, length, get_or, refl, sym, ap, subst, ◌∙◌, arith}
use Rattle.std.specs.List.{AllByRecursion, Contains}
use Rattle.stream_terms.specs.declared.terms.Given.{Given}
use Rattle.stream_terms.specs.declared.terms.Pass.{Pass}
use Rattle.stream_passes.specs.Keeps.{SerialsFrom, IsShort}

pub serials_push : (n : ℕ) (gs : List Given) (g : Given) → SerialsFrom n gs → g.pass.serial ≡ n + length gs → SerialsFrom n (gs ++ g ∷ [])
serials_push n [] g s is = (omega (arith, is), tt)
serials_push n (x ∷ xs) g s is = (s.0, serials_push (suc n) xs g s.1 (omega (arith, is)))

serials_below : (n : ℕ) (gs : List Given) (limit : ℕ) → SerialsFrom n gs → n + length gs ≤ limit → AllByRecursion (λ (g : Given). g.pass.serial < limit) gs
serials_below n [] limit s le = tt
serials_below n (g ∷ gs) limit s le = let is = s.0 in (omega (arith, is, le), serials_below (suc n) gs limit s.1 (omega (arith, le)))

pub all_below : (gs : List Given) (limit : ℕ) → SerialsFrom 0 gs → length gs ≤ limit → AllByRecursion (λ (g : Given). g.pass.serial < limit) gs
all_below gs limit s le = serials_below 0 gs limit s (omega (arith, le))

serial_from : (n : ℕ) (gs : List Given) (k : ℕ) (d : Given) → SerialsFrom n gs → k < length gs → (get_or gs k d).pass.serial ≡ n + k
serial_from n [] k d s lt = absurd (omega (arith, lt))
serial_from n (g ∷ gs) zero d s lt = let is = s.0 in omega (arith, is)
serial_from n (g ∷ gs) (suc k) d s lt = let rest = serial_from (suc n) gs k d s.1 (omega (arith, lt)) in omega (arith, rest)

pub serial_at : (gs : List Given) (k : ℕ) (d : Given) → SerialsFrom 0 gs → k < length gs → (get_or gs k d).pass.serial ≡ k
serial_at gs k d s lt = let is = serial_from 0 gs k d s lt in omega (arith, is)

-- a pass that was given stands at its serial
pub record StandsAt (gs : List Given) (p : Pass) (d : Given) : Type 0 where
  pub inside : p.serial < length gs
  pub there : (get_or gs p.serial d).pass ≡ p

get_other : (gs : List Given) (k : ℕ) (d e : Given) → k < length gs → get_or gs k d ≡ get_or gs k e
get_other [] k d e lt = absurd (omega (arith, lt))
get_other (g ∷ gs) zero d e lt = refl
get_other (g ∷ gs) (suc k) d e lt = get_other gs k d e (omega (arith, lt))

pub stands : (gs : List Given) (p : Pass) (d g : Given) → SerialsFrom 0 gs → Contains gs g → g.pass ≡ p → StandsAt gs p d
stands gs p d g s c is =
    let serial : g.pass.serial ≡ c.0 = ap (λ (x : Given). x.pass.serial) (sym c.2) ∙ serial_at gs c.0 g s c.1 in
    let same : p.serial ≡ c.0 = ap (λ (x : Pass). x.serial) (sym is) ∙ serial in
    let lt = c.1 in
    record {
      inside = omega (arith, same, lt);
      there = ap (λ (k : ℕ). (get_or gs k d).pass) same ∙ ap (λ (x : Given). x.pass) (get_other gs c.0 d g lt) ∙ ap (λ (x : Given). x.pass) c.2 ∙ is;
    }

copied : (g : Given) (p : Pass) (name : List ℕ) → g.pass ≡ p → name ≡ g.name → g ≡ record { pass = p; name = name }
copied g p name pass is = ap (λ (x : Pass). record { pass = x; name = g.name }) pass ∙ ap (λ (n : List ℕ). record { pass = p; name = n }) (sym is)

each_at : {A : Type 0} (P : A → Type 0) (xs : List A) (x : A) (k : ℕ) → AllByRecursion P xs → k < length xs → get_or xs k x ≡ x → P x
each_at P [] x k all less is = absurd (omega (arith, less))
each_at P (y ∷ ys) x zero all less is = subst P is all.0
each_at P (y ∷ ys) x (suc k) all less is = each_at P ys x k all.1 (omega (arith, less)) is

-- what stands at a pass's serial, copied
pub known_copy : (gs : List Given) (p : Pass) (d g : Given) (name : List ℕ) → SerialsFrom 0 gs → AllByRecursion IsShort gs → Contains gs g → g.pass ≡ p → get_or gs p.serial d ≡ d → name ≡ d.name
    → let result : Given = record { pass = p; name = name } in Contains gs result × IsShort result
known_copy gs p d g name serials short c is here same =
    let s = stands gs p d g serials c is in
    let result : Given = record { pass = p; name = name } in
    let pass : d.pass ≡ p = ap (λ (x : Given). x.pass) (sym here) ∙ s.there in
    let equal : d ≡ result = copied d p name pass same in
    let found : Contains gs d = (p.serial, s.inside, here) in
    (subst (Contains gs) equal found, subst IsShort equal (each_at IsShort gs d p.serial short s.inside here))
