-- Calls that are to fail.
use Rattle.std.specs.Prelude.{ℕ, ◌-◌, ◌==◌, Bool, not, List, map, filter}
use Rattle.std.specs.List.{list_any}

-- one of these calls is the next
abbrev pub falls_due : List ℕ → Bool
falls_due settings = list_any (λ n. n == 0) settings

-- what is left of them after a call
abbrev pub after_call : List ℕ → List ℕ
after_call settings = map (λ n. n - 1) (filter (λ n. not (n == 0)) settings)
