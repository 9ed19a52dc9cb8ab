-- A new log.
use Rattle.std.proofs.Common.{◌≡◌, inl, ℕ, ◌^◌, List, [], ◌∷◌, refl, ◌∙◌, arith}
use Rattle.disk_calls.specs.Disk.{DiskState}
use Rattle.segment_pairs.specs.Held.{MissingFrom, Stands, EachPair, EachLog, BesidesPair}
use Rattle.segment_pairs.proofs.Lifting.{each_log, missing_from_stays}
use Rattle.segment_store.specs.declared.rows.ChunkAt.{ChunkAt}
use Rattle.segment_store.specs.Rows.{LogStands}

pub begun_empty : (stream : ℕ) (s t : DiskState) → MissingFrom stream 0 (2 ^ 64) s → BesidesPair stream 0 s t → EachPair stream 0 (λ l. l ≡ []) t → EachLog stream (λ log. log ≡ []) t
begun_empty stream s t missing besides each F pick picks =
    let all = each_log stream 0 [] (λ l. l ≡ []) t (omega arith) refl (λ i ge less. absurd (omega (arith, less))) (missing_from_stays stream 0 1 (2 ^ 64) s t besides (omega arith) (λ i ge. missing i (omega arith))) each F pick picks in
    all.1 ∙ all.2

pub begun_stands : (stream : ℕ) (rows : List ChunkAt) (s t : DiskState) → rows ≡ [] → MissingFrom stream 0 (2 ^ 64) s → BesidesPair stream 0 s t → Stands stream (record { number = 0; chunks = [] }) t → LogStands stream rows (record { number = 0; chunks = [] } ∷ []) t
begun_stands stream rows s t none missing besides stands = record {
  held = record {
    under = omega arith;
    follows = refl;
    stands = stands;
    above = missing_from_stays stream 0 1 (2 ^ 64) s t besides (omega arith) (λ i ge. missing i (omega arith));
    below = λ i ge less. absurd (omega (arith, less));
  };
  filled = inl refl;
  are = none;
}
