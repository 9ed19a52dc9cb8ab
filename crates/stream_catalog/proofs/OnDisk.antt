-- Names that pairs and bytes stand for, as both get longer.
use Rattle.std.proofs.Common.{◌≡◌, ℕ, ◌+◌, ◌≤◌, Bool, true, false, nat_le, List, [], ◌∷◌, ◌++◌, length, take, drop, Option, Some, None, Ok, if◌then◌else◌, refl, ap, ◌∙◌, arith}
use Rattle.std.specs.Option.{option_and_then}
use Rattle.std.proofs.lemmas.List.{take-append-le, drop-append-le, take_all, drop_all, length-append, length-drop}
use Rattle.frame_wire.specs.Joins.{◌>>=◌}
use Rattle.stream_catalog.specs.declared.change.Change.{Change}
use Rattle.stream_catalog.specs.Names.{Names, no_names}
use Rattle.stream_catalog.specs.Rules.{changed}
use Rattle.stream_catalog.specs.ChangeBytes.{IsChange, change_bytes, change_of}
use Rattle.stream_catalog.specs.Files.{fits, fitted, change_at, one_more, or_damaged, names_after, names_in}
use Rattle.stream_catalog.proofs.ChangeLaws.{change_again}

abbrev pub Spans : Type 0
Spans = List (ℕ × ℕ)

-- bytes that are there stay where more come behind them
slice_stays : (base e : List ℕ) (place len : ℕ) → place + len ≤ length base → take len (drop place (base ++ e)) ≡ take len (drop place base)
slice_stays base e place len within =
    let here : place ≤ length base = omega (arith, within) in
    let rest : len ≤ length (drop place base) = omega (arith, within, length-drop place base) in
    ap (take len) (drop-append-le place base e here) ∙ take-append-le len (drop place base) e rest

le_true : (a b : ℕ) → nat_le a b ≡ true → a ≤ b
le_true a b h = grind arith

true_le : (a b : ℕ) → a ≤ b → nat_le a b ≡ true
true_le a b h = grind arith

change_stays : (base e : List ℕ) (pair : ℕ × ℕ) (c : Change) → change_at base pair ≡ Some c → change_at (base ++ e) pair ≡ Some c
change_stays base e pair c is =
    elim (nat_le (pair.0 + pair.1) (length base)) as (λ b. nat_le (pair.0 + pair.1) (length base) ≡ b → (if b then change_of (take pair.1 (drop pair.0 base)) else None) ≡ Some c → change_at (base ++ e) pair ≡ Some c) [
      | false ↦ λ f h. absurd cc
      | true ↦ λ f h.
          let within = le_true (pair.0 + pair.1) (length base) f in
          let longer : nat_le (pair.0 + pair.1) (length (base ++ e)) ≡ true = true_le (pair.0 + pair.1) (length (base ++ e)) (omega (arith, within, length-append base e)) in
          ap (λ (b : Bool). if b then change_of (take pair.1 (drop pair.0 (base ++ e))) else None) longer ∙ ap change_of (slice_stays base e pair.0 pair.1 within) ∙ h
    ] refl is

some_then : {A B : Type 0} (f : A → Option B) (o : Option A) (y : B) → option_and_then f o ≡ Some y → (x : A) × (o ≡ Some x) × (f x ≡ Some y)
some_then f None y h = absurd cc
some_then f (Some x) y h = (x, refl, h)

more_stays : (base e : List ℕ) (pair : ℕ × ℕ) (names more : Names) → one_more base pair names ≡ Some more → one_more (base ++ e) pair names ≡ Some more
more_stays base e pair names more is =
    let s = some_then (fitted names) (change_at base pair) more is in
    ap (option_and_then (fitted names)) (change_stays base e pair s.0 s.1) ∙ s.2

pub after_stays : (base e : List ℕ) (place : ℕ) (pairs : Spans) (names last : Names) → names_after base place pairs names ≡ Ok last → names_after (base ++ e) place pairs names ≡ Ok last
after_stays base e place [] names last is = is
after_stays base e place (pair ∷ pairs) names last is =
    elim (one_more base pair names) as (λ o. one_more base pair names ≡ o → (or_damaged place o >>= λ more. names_after base (place + 18) pairs more) ≡ Ok last → names_after (base ++ e) place (pair ∷ pairs) names ≡ Ok last) [
      | None ↦ λ f h. absurd cc
      | Some more ↦ λ f h.
          ap (λ (o : Option Names). or_damaged place o >>= λ n. names_after (base ++ e) (place + 18) pairs n) (more_stays base e pair names more f) ∙ after_stays base e (place + 18) pairs more last h
    ] refl is

-- more bytes behind those of the changes mean nothing
pub names_stay : (base e : List ℕ) (pairs : Spans) (names : Names) → names_in base pairs ≡ Ok names → names_in (base ++ e) pairs ≡ Ok names
names_stay base e pairs names is = after_stays base e 8 pairs no_names names is

after_more : (bytes : List ℕ) (place : ℕ) (pairs : Spans) (pair : ℕ × ℕ) (names last new : Names) → names_after bytes place pairs names ≡ Ok last → one_more bytes pair last ≡ Some new → names_after bytes place (pairs ++ pair ∷ []) names ≡ Ok new
after_more bytes place [] pair names last new is one =
    let same : names ≡ last = cc in
    ap (λ (n : Names). or_damaged place (one_more bytes pair n) >>= λ m. names_after bytes (place + 18) [] m) same ∙ ap (λ (o : Option Names). or_damaged place o >>= λ m. names_after bytes (place + 18) [] m) one
after_more bytes place (p ∷ pairs) pair names last new is one =
    elim (one_more bytes p names) as (λ o. one_more bytes p names ≡ o → (or_damaged place o >>= λ more. names_after bytes (place + 18) pairs more) ≡ Ok last → names_after bytes place ((p ∷ pairs) ++ pair ∷ []) names ≡ Ok new) [
      | None ↦ λ f h. absurd cc
      | Some more ↦ λ f h.
          ap (λ (o : Option Names). or_damaged place o >>= λ n. names_after bytes (place + 18) (pairs ++ pair ∷ []) n) f ∙ after_more bytes (place + 18) pairs pair more last new h one
    ] refl is

-- the change that stands behind bytes
change_behind : (base : List ℕ) (c : Change) → IsChange c → change_at (base ++ change_bytes c) (length base, length (change_bytes c)) ≡ Some c
change_behind base c is =
    let bytes = change_bytes c in
    let within : nat_le (length base + length bytes) (length (base ++ bytes)) ≡ true = true_le (length base + length bytes) (length (base ++ bytes)) (omega (arith, length-append base bytes)) in
    let there : take (length bytes) (drop (length base) (base ++ bytes)) ≡ bytes =
    ap (take (length bytes)) (drop-append-le (length base) base bytes (omega arith) ∙ ap (λ (l : List ℕ). l ++ bytes) (drop_all (length base) base (omega arith))) ∙ take_all (length bytes) bytes (omega arith) in
    ap (λ (b : Bool). if b then change_of (take (length bytes) (drop (length base) (base ++ bytes))) else None) within ∙ ap change_of there ∙ change_again c is

-- the names after one change more, whose bytes and whose pair stand behind the others
pub names_grow : (base : List ℕ) (pairs : Spans) (names : Names) (c : Change) → names_in base pairs ≡ Ok names → fits c names ≡ true → IsChange c
    → names_in (base ++ change_bytes c) (pairs ++ (length base, length (change_bytes c)) ∷ []) ≡ Ok (changed c names)
names_grow base pairs names c is fit spelled =
    let bytes = base ++ change_bytes c in
    let pair : ℕ × ℕ = (length base, length (change_bytes c)) in
    let one : one_more bytes pair names ≡ Some (changed c names) =
    ap (option_and_then (fitted names)) (change_behind base c spelled) ∙ ap (λ (b : Bool). if b then Some (changed c names) else None) fit in
    after_more bytes 8 pairs pair no_names names (changed c names) (names_stay base (change_bytes c) pairs names is) one
