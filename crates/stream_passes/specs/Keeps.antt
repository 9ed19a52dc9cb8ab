-- How passes and waiting offers are kept.
use Rattle.std.specs.Prelude.{◌≡◌, ℕ, suc, ◌≤◌, List, [], ◌∷◌, length, Option, Some, None}
use Rattle.std.specs.List.{AllByRecursion, Contains, filter}
use Rattle.stream_terms.specs.declared.terms.Pass.{Pass}
use Rattle.stream_terms.specs.declared.terms.Given.{Given}
use Rattle.stream_terms.specs.declared.terms.Waits.{Waits}
use Rattle.stream_passes.specs.Parts.{is_past, is_within}

-- the serials are numbers one after the other
abbrev pub SerialsFrom : ℕ → List Given → Type 0
SerialsFrom n [] = Unit {0}
SerialsFrom n (g ∷ gs) = (g.pass.serial ≡ n) × SerialsFrom (suc n) gs

abbrev pub IsShort : Given → Type 0
IsShort g = length g.name ≤ 255

-- the ends don't fall, from one on
abbrev pub EndsFrom : ℕ → List Waits → Type 0
EndsFrom n [] = Unit {0}
EndsFrom n (w ∷ ws) = (n ≤ w.end) × EndsFrom w.end ws

-- all were offered in one epoch
abbrev pub OfOneEpoch : List Waits → Type 0
OfOneEpoch ws = (epoch : ℕ) × AllByRecursion (λ (w : Waits). w.given.pass.epoch ≡ epoch) ws

pub record Keeps (passes : List Given) (waiting : List Waits) : Type 0 where
  pub serials : SerialsFrom 0 passes
  pub short : AllByRecursion IsShort passes
  pub rise : EndsFrom 0 waiting
  pub one_epoch : OfOneEpoch waiting

-- a pass was given
abbrev pub WasGiven : List Given → Pass → Type 0
WasGiven passes p = (g : Given) × Contains passes g × (g.pass ≡ p)

-- an offer ends at or past all that wait, and is of their epoch
pub record IsLast (waiting : List Waits) (w : Waits) : Type 0 where
  pub ends : AllByRecursion (λ (x : Waits). x.end ≤ w.end) waiting
  pub epochs : AllByRecursion (λ (x : Waits). x.given.pass.epoch ≡ w.given.pass.epoch) waiting

-- the first is taken where the end reaches it; else none is reached
abbrev pub NextReached : ℕ → List Waits → List Waits → Option Waits → Type 0
NextReached end old new None = (new ≡ old) × (filter (is_within end) old ≡ []) × (filter (is_past end) old ≡ old)
NextReached end old new (Some w) = (old ≡ w ∷ new) × (w.end ≤ end)
