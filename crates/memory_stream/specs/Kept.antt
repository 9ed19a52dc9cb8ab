-- What a stream in memory keeps.
use Rattle.std.specs.Prelude.{◌≡◌, ℕ, suc, ◌≤◌, List, [], ◌∷◌, length}
use Rattle.std.specs.List.{AllByRecursion}
use Rattle.chunk_format.specs.declared.chunk.Chunk.{Chunk}
use Rattle.chunk_format.specs.Logs.{end_of, last_epoch}
use Rattle.tracking_state.specs.Tracked.{Tracked, tracked_of}
use Rattle.stream_terms.specs.declared.terms.Given.{Given}

-- the serials are numbers one after the other
abbrev pub SerialsFrom : ℕ → List Given → Type 0
SerialsFrom n [] = Unit {0}
SerialsFrom n (g ∷ gs) = (g.pass.serial ≡ n) × SerialsFrom (suc n) gs

abbrev pub IsShort : Given → Type 0
IsShort g = length g.name ≤ 255

pub record Keeps (end epoch : ℕ) (tracking : Tracked) (chunks : List Chunk) (passes : List Given) : Type 0 where
  pub end_is : end ≡ end_of chunks
  pub in_epoch : last_epoch chunks ≤ epoch
  pub tracks : tracking ≡ tracked_of chunks
  pub serials : SerialsFrom 0 passes
  pub short : AllByRecursion IsShort passes
