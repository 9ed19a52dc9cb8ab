-- Steps of a reader, and bytes at its front.
use Rattle.std.proofs.Common.{◌≡◌, ℕ, ◌+◌, ◌⊎◌, Bool, true, false, cond, List, ◌++◌, length, take, drop, Result, Ok, Err, refl, sym, ap, subst, ◌∙◌, arith, inl, inr}
use Rattle.std.proofs.lemmas.Bool.{cases_lt}
use Rattle.std.proofs.lemmas.List.{drop_at, length-take, get_or-drop, get_or-take, get_or_past}
use Rattle.frame_wire.specs.Reading.{Spot}
use Rattle.frame_wire.specs.Formats.{Format, Spelled}
use Rattle.frame_wire.specs.Laws.{IsBytes}

pub IsBytes-drop : (n : ℕ) (bytes : List ℕ) → IsBytes bytes → IsBytes (drop n bytes)
IsBytes-drop n bytes h i = rw get_or-drop (h (n + i))

pub IsBytes-take : (n : ℕ) (bytes : List ℕ) → IsBytes bytes → IsBytes (take n bytes)
IsBytes-take n bytes h i =
    elim (cases_lt i n) [
      | inl lt ↦ rw (get_or-take n bytes i 0 lt) (h i)
      | inr le ↦ rw (get_or_past (take n bytes) i 0 (omega (arith, length-take n bytes))) (omega arith)
    ]

-- what is left behind a spelled value are bytes too
pub rest_bytes : {A F : Type 0} (f : Format A F) (s : Spot) (x : A) (t : Spot) → IsBytes s.rest → Spelled f s x t → IsBytes t.rest
rest_bytes f s x t fits spelled =
    let behind : drop (length (f.spell x)) s.rest ≡ t.rest = ap (drop (length (f.spell x))) spelled.parts ∙ drop_at (f.spell x) t.rest (length (f.spell x)) refl in
    subst IsBytes behind (IsBytes-drop (length (f.spell x)) s.rest fits)

-- the value of a test that did not fail
pub guard_ok : {A F : Type 0} (b : Bool) (fault : F) (r : Result A F) (y : A) → cond b (Err fault) r ≡ Ok y → (b ≡ false) × (r ≡ Ok y)
guard_ok true fault r y e = absurd cc
guard_ok false fault r y e = (refl, e)

-- the fault of a test, or of what follows it
pub guard_err : {A F : Type 0} (b : Bool) (fault : F) (r : Result A F) (e : F) → cond b (Err fault) r ≡ Err e → ((b ≡ true) × (fault ≡ e)) ⊎ ((b ≡ false) × (r ≡ Err e))
guard_err {A} true fault r e h = let same : fault ≡ e = cc in inl (refl, same)
guard_err false fault r e h = inr (refl, h)

pub chosen : {A : Type 0} (b : Bool) (x y z : A) → cond b x y ≡ z → ((b ≡ true) × (x ≡ z)) ⊎ ((b ≡ false) × (y ≡ z))
chosen true x y z e = inl (refl, e)
chosen false x y z e = inr (refl, e)

abbrev given : {A F : Type 0} → A → Result A F
given x = Ok x

pub ok_is : {A F : Type 0} (x y : A) → ◌≡◌ {A = Result A F} (Ok x) (Ok y) → x ≡ y
ok_is x y e = cc

pub err_is : {A F : Type 0} (x y : F) → ◌≡◌ {A = Result A F} (Err x) (Err y) → x ≡ y
err_is x y e = cc

pub no_both : {A F : Type 0} (x : A) (e : F) → ◌≡◌ {A = Result A F} (Ok x) (Err e) → ⊥
no_both x e h = absurd cc

-- what is read at a spot that is given by its parts
pub again_at : {A F : Type 0} (f : Format A F) (s : Spot) (x : A) (t : Spot)
    → f.read (record { at = s.at; rest = f.spell x ++ t.rest }) ≡ Ok (x, record { at = s.at + length (f.spell x); rest = t.rest }) → Spelled f s x t → f.read s ≡ Ok (x, t)
again_at f s x t h spelled =
    ap (λ (r : List ℕ). f.read (record { at = s.at; rest = r })) spelled.parts ∙ h ∙ ap (λ (k : ℕ). Ok (x, record { at = k; rest = t.rest })) (sym spelled.moved)
