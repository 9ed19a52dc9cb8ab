-- A cause stays one while the list goes on.
use Rattle.std.proofs.Common.{ℕ, ◌≤◌, List, [], ◌∷◌, ◌++◌, sym, ◌∙◌, arith}
use Rattle.chunk_format.specs.declared.chunk.Chunk.{Chunk}
use Rattle.chunk_format.specs.Logs.{end_of, IsLog}
use Rattle.chunk_format.specs.ByName.{Greatest, AtMost}
use Rattle.chunk_format.proofs.LinkLaws.{end_grows}
use Rattle.chunk_format.proofs.NameLaws.{each_map, at_most_grows}
use Rattle.chunk_format.proofs.BareLaws.{bare_in_stays}
use Rattle.stream_terms.specs.declared.terms.Waits.{Waits}
use Rattle.stream_terms.specs.Views.{Caused, CausedBy}

caused_by_stays : (name : List ℕ) (w : Waits) (a b : List Chunk) → IsLog (a ++ b) → w.end ≤ end_of a → CausedBy name w a → CausedBy name w (a ++ b)
caused_by_stays [] w a b l h c = c ∙ sym (bare_in_stays w.from w.end a b l h)
caused_by_stays (x ∷ xs) w a b l h c = each_map (λ (id : ℕ). AtMost id (Greatest (x ∷ xs) a)) (λ (id : ℕ). AtMost id (Greatest (x ∷ xs) (a ++ b))) (λ id q. at_most_grows id (x ∷ xs) a b q) w.ids c

pub caused_stays : (a b : List Chunk) → IsLog (a ++ b) → (w : Waits) → Caused a w → Caused (a ++ b) w
caused_stays a b l w c = record {
  reached = let grows = end_grows a b l in let at = c.reached in omega (arith, grows, at);
  by_name = caused_by_stays w.given.name w a b l c.reached c.by_name;
}
