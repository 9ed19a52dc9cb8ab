-- Entries that are taken one after the other.
use Rattle.std.proofs.Common.{◌≡◌, ℕ, ◌+◌, ◌-◌, ◌*◌, ◌≤◌, List, [], ◌∷◌, ◌++◌, length, take, drop, refl, sym, ap, subst, ◌∙◌, arith, inl}
use Rattle.std.proofs.lemmas.List.Sums.{sum_by_push}
use Rattle.chunk_format.specs.declared.entry.Entry.{Entry}
use Rattle.chunk_format.specs.declared.chunk.ChunkKind.{ChunkKind}
use Rattle.chunk_format.specs.declared.chunk.ChunkKind.TheVariants.{User}
use Rattle.chunk_format.specs.declared.chunk.Header.{Header}
use Rattle.chunk_format.specs.declared.fault.ChunkFault.TheVariants.{Count}
use Rattle.chunk_format.specs.declared.decode.ChunkError.{ChunkError}
use Rattle.chunk_format.specs.declared.decode.ChunkError.TheVariants.{Fault}
use Rattle.chunk_crc.specs.Crc.{crc_of}
use Rattle.chunk_format.specs.Chunks.{entry_bytes, entry_records, IsEntry, HasRecords, records_of}
use Rattle.chunk_format.specs.Faults.{IsChunkEntry, IsSized, SpellsEntries, WrongEntry, CountWrong, EntryWrong, Counted, TrailerRight, TrackingRight, PartsRight}
use Rattle.chunk_format.proofs.Gone.{Gone, gone_start, gone_more, gone_more_front, gone_whole}
use Rattle.chunk_format.proofs.EntryLaws.{Walked}
use Rattle.chunk_apart.specs.Apart.{FailsParts}

-- these entries were taken so far, so many, up to this place, and they take so many offsets
pub record TakenSo (payload : List ℕ) (count at total : ℕ) (row : List Entry) : Type 0 where
  pub gone : Gone entry_bytes IsChunkEntry payload count at
  pub front : gone.front ≡ row
  pub sum : records_of row ≡ total
  pub small : total ≤ 65535 * count

pub taken_start : (payload : List ℕ) → TakenSo payload 0 0 0 []
unfolding gone_start
taken_start payload = record { gone = gone_start entry_bytes IsChunkEntry payload; front = refl; sum = refl; small = omega arith }

pub as_walked : (payload : List ℕ) (count at total : ℕ) (row : List Entry) → TakenSo payload count at total row → Walked payload count at total
as_walked payload count at total row taken = (taken.gone, ap records_of taken.front ∙ taken.sum, taken.small)

pub taken_more : (payload : List ℕ) (count at total : ℕ) (row : List Entry) → TakenSo payload count at total row → (x : Entry) (len records : ℕ) (left : List ℕ) → left ≡ take (length payload - at) (drop at payload)
    → IsEntry x → left ≡ entry_bytes x ++ drop len left → len ≡ length (entry_bytes x) → records ≡ entry_records x → 1 ≤ records → records ≤ 65535
    → TakenSo payload (count + 1) (at + len) (total + records) (row ++ x ∷ [])
taken_more payload count at total row taken x len records left is right stands long records_is some few =
    let has : HasRecords x = subst (λ (r : ℕ). 1 ≤ r) records_is some in
    let small = taken.small in
    record {
      gone = gone_more entry_bytes IsChunkEntry payload count at taken.gone x len left is (right, has) stands long;
      front = gone_more_front entry_bytes IsChunkEntry payload count at taken.gone x len left is (right, has) stands long ∙ ap (λ (es : List Entry). es ++ x ∷ []) taken.front;
      sum = sum_by_push entry_records row x ∙ ap (λ (t : ℕ). t + entry_records x) taken.sum ∙ ap (λ (r : ℕ). total + r) (sym records_is);
      small = omega (arith, small, few);
    }

pub taken_whole : (payload : List ℕ) (n count at total : ℕ) (row : List Entry) → count ≡ n → TakenSo payload count at total row → length payload ≤ at → SpellsEntries n payload row × (records_of row ≡ total)
taken_whole payload n count at total row all taken past =
    let gone = taken.gone in
    let whole : SpellsEntries n payload gone.front =
    record { right = (gone.each, omega (arith, gone.counted, all)); whole = gone.counted ∙ all; spelled = gone_whole entry_bytes IsChunkEntry payload count at gone past } in
    (subst (SpellsEntries n payload) taken.front whole, taken.sum)

-- an entry that is wrong, as the first check of the payload that fails
pub wrong_here : (h : Header) (payload : List ℕ) (at : ℕ) (error : ChunkError) → IsSized h → WrongEntry h.entries payload at → error ≡ Fault (Count (48 + at)) → FailsParts h payload error
wrong_here h payload at error sized wrong is = subst (FailsParts h payload) (sym is) (EntryWrong sized at wrong refl)

no_trailer : (kind : ChunkKind) (n : ℕ) → kind ≡ User → TrailerRight kind n []
no_trailer kind n is = subst (λ (k : ChunkKind). TrailerRight k n []) (sym is) (inl refl)

no_tracking : (kind : ChunkKind) (entries : List Entry) → kind ≡ User → TrackingRight kind entries
no_tracking kind entries is = subst (λ (k : ChunkKind). TrackingRight k entries) (sym is) tt

-- a user chunk without a trailer has no more checks
pub user_right : (h : Header) (payload : List ℕ) (entries : List Entry) → h.kind ≡ User → Counted h payload entries → crc_of payload ≡ h.crc → PartsRight h payload [] entries
user_right h payload entries is counted crc = record {
  payload_right = (counted, crc);
  trailer_right = no_trailer h.kind h.entries is;
  tracking_right = no_tracking h.kind entries is;
}

-- a count that is wrong
pub count_fails : (h : Header) (payload : List ℕ) (place : ℕ) (error : ChunkError) → error ≡ Fault (Count place) → CountWrong h payload place → FailsParts h payload error
count_fails h payload place error is wrong = subst (FailsParts h payload) (sym is) wrong
