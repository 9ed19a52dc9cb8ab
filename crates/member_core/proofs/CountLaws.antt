-- What is counted of a list with one chunk more.
use Rattle.std.proofs.Common.{◌≡◌, ℕ, ◌+◌, ◌≤◌, ◌<◌, List, [], ◌∷◌, ◌++◌, length, take, get_or, refl, sym, ap, ◌∙◌, arith}
use Rattle.std.proofs.lemmas.List.{take_more, take_all}
use Rattle.chunk_format.specs.declared.chunk.Chunk.{Chunk}
use Rattle.chunk_format.specs.Chunks.{chunk_bytes}
use Rattle.epoch_coordinator.specs.Offers.{counted_by, since_from, since_snapshot}
use Rattle.member_core.specs.Kept.{bytes_of, plain_count, AreCounted}

pub bytes_push : (chunks : List Chunk) (c : Chunk) → bytes_of (chunks ++ c ∷ []) ≡ bytes_of chunks + length (chunk_bytes c)
bytes_push [] c = omega arith
bytes_push (d ∷ chunks) c = let more = bytes_push chunks c in omega (arith, more)

since_from_push : (n : ℕ) (chunks : List Chunk) (c : Chunk) → since_from n (chunks ++ c ∷ []) ≡ counted_by c.kind (since_from n chunks)
since_from_push n [] c = refl
since_from_push n (d ∷ chunks) c = since_from_push (counted_by d.kind n) chunks c

pub since_push : (chunks : List Chunk) (c : Chunk) → since_snapshot (chunks ++ c ∷ []) ≡ counted_by c.kind (since_snapshot chunks)
since_push chunks c = since_from_push 0 chunks c

pub plain_push : (chunks : List Chunk) (c : Chunk) → plain_count (chunks ++ c ∷ []) ≡ plain_count chunks + counted_by c.kind 0
plain_push [] c = omega arith
plain_push (d ∷ chunks) c = let more = plain_push chunks c in omega (arith, more)

-- a chunk more, which waits
pub counted_push : (chunks ahead : List Chunk) (c : Chunk) (bytes since waiting more_bytes more_since more_waiting : ℕ) → AreCounted chunks ahead bytes since waiting → more_bytes ≡ bytes + length (chunk_bytes c) → more_since ≡ counted_by c.kind since → more_waiting ≡ waiting + counted_by c.kind 0
    → AreCounted (chunks ++ c ∷ []) (ahead ++ c ∷ []) more_bytes more_since more_waiting
counted_push chunks ahead c bytes since waiting more_bytes more_since more_waiting is b s w = record {
  bytes_are = b ∙ ap (λ (n : ℕ). n + length (chunk_bytes c)) is.bytes_are ∙ sym (bytes_push chunks c);
  since_is = s ∙ ap (counted_by c.kind) is.since_is ∙ sym (since_push chunks c);
  waiting_is = w ∙ ap (λ (n : ℕ). n + counted_by c.kind 0) is.waiting_is ∙ sym (plain_push ahead c);
}

-- what a loop counted of the first chunks; how many wait is told later
pub record Counts (chunks : List Chunk) (bytes since : ℕ) : Type 0 where
  pub bytes_are : bytes ≡ bytes_of chunks
  pub since_is : since ≡ since_snapshot chunks

pub counts_more : (chunks : List Chunk) (k : ℕ) (c : Chunk) (bytes since more_bytes more_since : ℕ) → k < length chunks → c ≡ get_or chunks k c → Counts (take k chunks) bytes since → more_bytes ≡ bytes + length (chunk_bytes c) → more_since ≡ counted_by c.kind since
    → Counts (take (k + 1) chunks) more_bytes more_since
counts_more chunks k c bytes since more_bytes more_since within is so b s =
    let next : take (k + 1) chunks ≡ take k chunks ++ c ∷ [] = take_more chunks k c within ∙ ap (λ (x : Chunk). take k chunks ++ x ∷ []) (sym is) in
    record {
      bytes_are = b ∙ ap (λ (n : ℕ). n + length (chunk_bytes c)) so.bytes_are ∙ sym (bytes_push (take k chunks) c) ∙ ap bytes_of (sym next);
      since_is = s ∙ ap (counted_by c.kind) so.since_is ∙ sym (since_push (take k chunks) c) ∙ ap since_snapshot (sym next);
    }

-- when all are counted, none of them waits
pub counts_all : (chunks : List Chunk) (k bytes since : ℕ) → length chunks ≤ k → Counts (take k chunks) bytes since → AreCounted chunks [] bytes since 0
counts_all chunks k bytes since all so = record { bytes_are = so.bytes_are ∙ ap bytes_of (take_all k chunks all); since_is = so.since_is ∙ ap since_snapshot (take_all k chunks all); waiting_is = refl }
