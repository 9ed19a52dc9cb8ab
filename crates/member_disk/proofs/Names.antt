-- The order of names, and maps by it.
use Rattle.std.proofs.Common.{◌≡◌, ◌≢◌, inl, inr, Bool, true, false, ◌⊎◌, rules, refl, subst}
use Rattle.std.specs.BTreeMap.{is_at}
use Rattle.disk_calls.specs.declared.file_id.FileName.{FileName}
use Rattle.disk_calls.specs.contracts.file_id.FileNameOrd.TheImpl as ordered

pub is_at_name : FileName → FileName → Bool
is_at_name f g = is_at (ordered.ghosts.cmp f) g

pub here : (f : FileName) → is_at (ordered.ghosts.cmp f) f ≡ true
here f = search rules

pub found_same : (f g : FileName) → is_at (ordered.ghosts.cmp f) g ≡ true → f ≡ g
found_same f g h = search rules

pub cases_at : (f g : FileName) → (f ≡ g) ⊎ ((f ≢ g) × (is_at (ordered.ghosts.cmp f) g ≡ false))
cases_at f g =
    let test : (b : Bool) → is_at (ordered.ghosts.cmp f) g ≡ b → (f ≡ g) ⊎ ((f ≢ g) × (is_at (ordered.ghosts.cmp f) g ≡ false)) =
    elim [
      | true ↦ λ is. inl (found_same f g is)
      | false ↦ λ is. inr ((λ e. let no : is_at (ordered.ghosts.cmp f) g ≡ true = subst (λ (x : FileName). is_at (ordered.ghosts.cmp f) x ≡ true) e (here f) in cc), is)
    ] in
    test (is_at (ordered.ghosts.cmp f) g) refl
