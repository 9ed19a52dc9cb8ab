-- Items that are spelled one after another, and the first wrong one among them.
use Rattle.std.specs.Prelude.{◌≡◌, ℕ, List, [], ◌∷◌, ◌++◌, length, drop, Option, Some, None}
use Rattle.std.specs.List.{flat_map}

-- an item stands at the front of the bytes
abbrev pub AtFront : {A : Type 0} → (A → List ℕ) → (A → Type 0) → List ℕ → A → Type 0
AtFront spell Right bytes x = Right x × ((more : List ℕ) × (bytes ≡ spell x ++ more))

-- no item stands at the front of the bytes
abbrev pub NoneAtFront : {A : Type 0} → (A → List ℕ) → (A → Type 0) → List ℕ → Type 0
NoneAtFront {A} spell Right bytes = (x : A) (more : List ℕ) → Right x → bytes ≡ spell x ++ more → ⊥

-- the bytes are these items, which are right and whole as a list
pub record AreItems {A : Type 0} (spell : A → List ℕ) (Right Whole : List A → Type 0) (bytes : List ℕ) (items : List A) : Type 0 where
  pub right : Right items
  pub whole : Whole items
  pub spelled : bytes ≡ flat_map spell items

-- Right items stand at the front, and no further one is right; where nothing is left they aren't whole. The place is behind them.
pub record FirstWrong {A : Type 0} (spell : A → List ℕ) (Right Whole : List A → Type 0) (bytes : List ℕ) (place : ℕ) : Type 0 where
  pub front : List A
  pub left : List ℕ
  pub parts : bytes ≡ flat_map spell front ++ left
  pub right : Right front
  pub none : NoneAtFront spell (λ x. Right (front ++ x ∷ [])) left
  pub unfinished : left ≡ [] → Whole front → ⊥
  pub behind : place ≡ length (flat_map spell front)

-- What was split off the front is an item and its length; and nothing was split off exactly where no item stands there.
abbrev pub Splits : {A P : Type 0} → (A → List ℕ) → (A → Type 0) → (P → A) → List ℕ → Option (P × ℕ) → Type 0
Splits spell Right of bytes None = NoneAtFront spell Right bytes
Splits spell Right of bytes (Some parts) =
    Right (of parts.0) × (bytes ≡ spell (of parts.0) ++ drop parts.1 bytes) × (parts.1 ≡ length (spell (of parts.0)))
