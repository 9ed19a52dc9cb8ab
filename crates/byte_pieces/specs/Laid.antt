-- Bytes that are put over others, and make them no longer.
use Rattle.std.specs.Prelude.{ℕ, zero, suc, List, [], ◌∷◌}

abbrev pub lay : List ℕ → ℕ → List ℕ → List ℕ
lay [] place bytes = []
lay (x ∷ xs) zero [] = x ∷ xs
lay (x ∷ xs) zero (b ∷ bytes) = b ∷ lay xs zero bytes
lay (x ∷ xs) (suc place) bytes = x ∷ lay xs place bytes
