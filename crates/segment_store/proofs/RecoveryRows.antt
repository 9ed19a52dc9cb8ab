-- The rows of the chunks that recovery finds.
use Rattle.std.proofs.Common.{◌≡◌, ℕ, zero, suc, ◌+◌, ◌≤◌, ◌<◌, ◌^◌, List, [], ◌∷◌, ◌++◌, length, take, refl, sym, ◌∙◌, ap, subst, arith, append_assoc, length-append, get_or}
use Rattle.std.proofs.lemmas.List.{append-nil, length-take, take_more, take_all}
use Rattle.chunk_format.specs.declared.chunk.Chunk.{Chunk}
use Rattle.chunk_format.specs.Chunks.{end_of_chunk}
use Rattle.segment_pairs.specs.Log.{spelled, size_of, Chain, flat}
use Rattle.segment_store.specs.declared.rows.ChunkAt.{ChunkAt}
use Rattle.segment_store.specs.Rows.{row_of, rows_at}
use Rattle.segment_store.proofs.Table.{rows-append}
use Rattle.segment_store.proofs.Writing.{chain_few}

-- ---- rows

-- the chunks of a chain stand at places of 32 bits
chain_place : (place end i : ℕ) (cs : List Chunk) → Chain place end cs → i < length cs → place + length (flat (take i cs)) < 2 ^ 32
chain_place place end i [] fit lt = absurd (omega (arith, lt))
chain_place place end zero (c ∷ cs) fit lt = omega (arith, fit.0)
chain_place place end (suc i) (c ∷ cs) fit lt = omega (arith, chain_place (place + size_of c) (end_of_chunk c) i cs fit.3 (omega (arith, lt)), length-append (spelled c) (flat (take i cs)))

-- rows of the first so many chunks
pub record RowsTo (number nth place : ℕ) (old now : List ChunkAt) (chunks : List Chunk) : Type 0 where
  pub rows_are : now ≡ old ++ rows_at number 0 8 chunks
  pub nth_is : nth ≡ length chunks
  pub place_is : place ≡ 8 + length (flat chunks)

flat_push : (front : List Chunk) (c : Chunk) → length (flat (front ++ c ∷ [])) ≡ length (flat front) + size_of c
flat_push [] c = omega (arith, length-append (spelled c) [])
flat_push (d ∷ front) c = omega (arith, length-append (spelled d) (flat (front ++ c ∷ [])), length-append (spelled d) (flat front), flat_push front c)

rows_push : (number nth place : ℕ) (old now more : List ChunkAt) (chunks : List Chunk) (c : Chunk) (row : ChunkAt) → row ≡ row_of number nth place c → more ≡ now ++ row ∷ [] → RowsTo number nth place old now chunks → RowsTo number (nth + 1) (place + size_of c) old more (chunks ++ c ∷ [])
rows_push number nth place old now more chunks c row is pushed to = record {
  rows_are = pushed ∙ (λ i. to.rows_are i ++ is i ∷ []) ∙ append_assoc old (rows_at number 0 8 chunks) (row_of number nth place c ∷ [])
      ∙ ap (λ (l : List ChunkAt). old ++ l) ((λ i. rows_at number 0 8 chunks ++ row_of number (nth_at i) (to.place_is i) c ∷ []) ∙ sym (rows-append number 0 8 chunks (c ∷ [])));
  nth_is = omega (arith, to.nth_is, length-append chunks (c ∷ []));
  place_is = omega (arith, to.place_is, flat_push chunks c);
}
  where
    nth_at : nth ≡ 0 + length chunks
    nth_at = omega (arith, to.nth_is)

pub rows_start : (number : ℕ) (old : List ChunkAt) → RowsTo number 0 8 old old []
rows_start number old = record { rows_are = sym (append-nil old); nth_is = refl; place_is = refl }

pub rows_more : (number nth place k nth_then after : ℕ) (old now more : List ChunkAt) (chunks : List Chunk) (c : Chunk) (row : ChunkAt) → k < length chunks → c ≡ get_or chunks k c → Chain 8 number chunks → (place < 2 ^ 63 → row ≡ row_of number nth place c) → more ≡ now ++ row ∷ [] → after ≡ row.after → (nth < 2 ^ 63 → nth_then ≡ nth + 1)
    → RowsTo number nth place old now (take k chunks) → RowsTo number nth_then after old more (take (k + 1) chunks)
rows_more number nth place k nth_then after old now more chunks c row lt is chain made pushed after_is counted to =
    let small : place < 2 ^ 63 = omega (arith, to.place_is, chain_place 8 number k chunks chain lt) in
    let few : nth < 2 ^ 63 = omega (arith, to.nth_is, length-take k chunks, lt, chain_few 8 number chunks chain) in
    let this : row ≡ row_of number nth place c = made small in
    let end : place + size_of c ≡ after = sym (after_is ∙ ap (λ (r : ChunkAt). r.after) this) in
    let count : nth + 1 ≡ nth_then = sym (counted few) in
    subst (λ (l : List Chunk). RowsTo number nth_then after old more l) (sym (take_more chunks k c lt ∙ ap (λ (x : Chunk). take k chunks ++ x ∷ []) (sym is)))
    (subst (λ (p : ℕ). RowsTo number nth_then p old more (take k chunks ++ c ∷ [])) end
    (subst (λ (p : ℕ). RowsTo number p (place + size_of c) old more (take k chunks ++ c ∷ [])) count (rows_push number nth place old now more (take k chunks) c row this pushed to)))

pub rows_all : (number nth place k : ℕ) (old now : List ChunkAt) (chunks : List Chunk) → length chunks ≤ k → RowsTo number nth place old now (take k chunks) → now ≡ old ++ rows_at number 0 8 chunks
rows_all number nth place k old now chunks le to = to.rows_are ∙ ap (λ (l : List Chunk). old ++ rows_at number 0 8 l) (take_all k chunks le)
