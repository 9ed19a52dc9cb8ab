-- Steps of a settle, one behind the other.
use Rattle.std.proofs.Common.{◌≡◌, ℕ, List, [], ◌∷◌, ◌++◌, refl, sym, subst}
use Rattle.settling_laws.specs.Settling.{Turn, SettleStep, Stepping, last_turn, Settling}

pub none_yet : (now : ℕ) (t : Turn) → Settling now t t
none_yet now t = record { turns = []; steps = tt; ends = refl }

one_more : (now : ℕ) (t x y : Turn) (turns : List Turn) → Stepping now t turns → last_turn t turns ≡ x → SettleStep now x y → Stepping now t (turns ++ y ∷ [])
one_more now t x y [] steps e step = (subst (λ (z : Turn). SettleStep now z y) (sym e) step, tt)
one_more now t x y (z ∷ zs) steps e step = (steps.0, one_more now z x y zs steps.1 e step)

last_more : (t y : Turn) (turns : List Turn) → last_turn t (turns ++ y ∷ []) ≡ y
last_more t y [] = refl
last_more t y (z ∷ zs) = last_more z y zs

-- a step behind some
pub and_then : (now : ℕ) (t x y : Turn) → Settling now t x → SettleStep now x y → Settling now t y
and_then now t x y s step = record { turns = s.turns ++ y ∷ []; steps = one_more now t x y s.turns s.steps s.ends step; ends = last_more t y s.turns }
