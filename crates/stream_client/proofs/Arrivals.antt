-- Deliveries, and their entries one after the other.
use Rattle.std.proofs.Common.{◌≡◌, ◌<◌, ◌+◌, ◌^◌, ℕ, Bool, true, false, cond, List, [], ◌∷◌, ◌++◌, length, take, Option, Result, Ok, Err, refl, sym, ap, ◌∙◌, append_assoc, arith}
use Rattle.std.specs.Prelude.{nat_lt}
use Rattle.std.proofs.lemmas.List.{take_all}
use Rattle.std.proofs.lemmas.List.Sums.{sum_by-cons}
use Rattle.chunk_format.specs.declared.entry.Entry.{Entry}
use Rattle.chunk_format.specs.declared.chunk.Chunk.{Chunk}
use Rattle.chunk_format.specs.declared.chunk.Header.{Header}
use Rattle.chunk_format.specs.declared.fault.ChunkFault.{ChunkFault}
use Rattle.chunk_format.specs.Chunks.{entry_records, records_of}
use Rattle.chunk_format.specs.Faults.{BeginsWith, ChunkWrong}
use Rattle.chunk_apart.specs.Apart.{ReadsApart}
use Rattle.client_terms.specs.declared.fault.ClientFault.{ClientFault}
use Rattle.client_terms.specs.declared.fault.ClientFault.TheVariants as faults
use Rattle.client_terms.specs.declared.terms.Received.{Received}
use Rattle.client_terms.specs.States.{ClientState}
use Rattle.client_terms.specs.Hearing.{Meaning, delivers, delivered, delivered_bytes, received_at, received_from}
use Rattle.stream_client.specs.Hearings.{Stops, Obeys}
use Rattle.stream_client.specs.Receipts.{IsNoChunk, FailsChunk, ReadsChunk, with_delivery, with_entries}

-- ---- entries

joins : (b : Bool) (one : Received) (more : List Received) → cond b (one ∷ more) more ≡ cond b (one ∷ []) [] ++ more
joins true one more = refl
joins false one more = refl

-- the first of entries, and the others
received_cons : (wanted first : ℕ) (entry : Entry) (entries : List Entry) → received_from wanted first (entry ∷ entries) ≡ received_from wanted first (entry ∷ []) ++ received_from wanted (first + entry_records entry) entries
received_cons wanted first entry entries = joins (nat_lt wanted (first + entry_records entry)) (received_at first entry) (received_from wanted (first + entry_records entry) entries)

-- what stands in front stays there
front_stays : {X : Type 0} (front xs ys : List X) → take (length front) xs ≡ front → take (length front) (xs ++ ys) ≡ front
front_stays [] xs ys is = refl
front_stays (f ∷ front) [] ys is = absurd cc
front_stays (f ∷ front) (x ∷ xs) ys is =
    let head : x ≡ f = cc in
    let rest : take (length front) xs ≡ front = cc in
    ap (λ z. z ∷ take (length front) (xs ++ ys)) head ∙ ap (λ zs. f ∷ zs) (front_stays front xs ys rest)

append_none : {X : Type 0} (xs : List X) → xs ++ [] ≡ xs
append_none [] = refl
append_none (x ∷ xs) = ap (λ l. x ∷ l) (append_none xs)

-- some entries of a delivery were added behind the old ones, and these are left
pub record Arriving (old out : List Received) (wanted first offset : ℕ) (entries left : List Entry) : Type 0 where
  pub kept : out ++ received_from wanted offset left ≡ old ++ received_from wanted first entries
  pub last : offset + records_of left < 2 ^ 64
  pub front : take (length old) out ≡ old

pub arriving_none : (old : List Received) (wanted first : ℕ) (entries left : List Entry) → left ≡ entries → first + records_of entries < 2 ^ 64 → Arriving old old wanted first first entries left
arriving_none old wanted first entries left same last = record {
  kept = ap (λ (es : List Entry). old ++ received_from wanted first es) same;
  last = omega (arith, last, ap records_of same);
  front = take_all (length old) old (omega arith);
}

pub arriving_fits : (old out : List Received) (wanted first offset : ℕ) (entries left rest : List Entry) (entry : Entry) → Arriving old out wanted first offset entries left → left ≡ entry ∷ rest → offset + entry_records entry < 2 ^ 64
arriving_fits old out wanted first offset entries left rest entry a is = let last = a.last in omega (arith, last, ap records_of is, sum_by-cons entry_records entry rest)

pub arriving_next : (old out new : List Received) (wanted first offset end : ℕ) (entries left rest : List Entry) (entry : Entry) → Arriving old out wanted first offset entries left → left ≡ entry ∷ rest
    → new ≡ out ++ received_from wanted offset (entry ∷ []) → end ≡ offset + entry_records entry → Arriving old new wanted first end entries rest
arriving_next old out new wanted first offset end entries left rest entry a is added next =
    let one = received_from wanted offset (entry ∷ []) in
    let more = received_from wanted (offset + entry_records entry) rest in
    let last = a.last in
    record {
      kept = ap (λ (l : List Received). l ++ received_from wanted end rest) added ∙ ap (λ (n : ℕ). (out ++ one) ++ received_from wanted n rest) next ∙ append_assoc out one more
          ∙ ap (λ (l : List Received). out ++ l) (sym (received_cons wanted offset entry rest)) ∙ ap (λ (es : List Entry). out ++ received_from wanted offset es) (sym is) ∙ a.kept;
      last = omega (arith, last, next, ap records_of is, sum_by-cons entry_records entry rest);
      front = ap (λ (l : List Received). take (length old) l) added ∙ front_stays old out one a.front;
    }

pub arriving_all : (old out : List Received) (wanted first offset : ℕ) (entries left : List Entry) → Arriving old out wanted first offset entries left → left ≡ [] → out ≡ old ++ received_from wanted first entries
arriving_all old out wanted first offset entries left a none = sym (append_none out) ∙ ap (λ (es : List Entry). out ++ received_from wanted offset es) (sym none) ∙ a.kept

pub arriving_front : (old out new : List Received) (wanted first offset : ℕ) (entries left : List Entry) → Arriving old out wanted first offset entries left → new ≡ out → take (length old) new ≡ old
arriving_front old out new wanted first offset entries left a same = ap (λ (l : List Received). take (length old) l) same ∙ a.front

-- ---- a chunk

pub opened : (bytes : List ℕ) (chunk : Chunk) → ReadsApart bytes (Ok chunk) → ReadsChunk bytes (Ok chunk)
opened bytes chunk is = is

pub not_opened : (bytes : List ℕ) (fault : ChunkFault) → ChunkWrong bytes fault → IsNoChunk bytes (faults.Chunk fault)
not_opened bytes fault wrong = (fault, wrong, refl)

pub chunk_ends : (bytes : List ℕ) (chunk : Chunk) → ReadsChunk bytes (Ok chunk) → chunk.first + records_of chunk.entries < 2 ^ 64
chunk_ends bytes chunk is = is.1.1.is_chunk.last

pub fails_chunk : (s kept : ClientState) (bytes : List ℕ) (fault : ClientFault) → FailsChunk bytes fault → Stops s (delivers kept bytes) fault s
fails_chunk s kept bytes faults.Memory is = refl
fails_chunk s kept bytes (faults.Chunk fault) is = (is, refl)
fails_chunk s kept bytes (faults.Frame fault) is = absurd is
fails_chunk s kept bytes (faults.TooLarge size) is = absurd is
fails_chunk s kept bytes (faults.Unexpected key) is = absurd is
fails_chunk s kept bytes (faults.Refused key code) is = absurd is
fails_chunk s kept bytes (faults.Closed code) is = absurd is
fails_chunk s kept bytes (faults.StreamLost code) is = absurd is

pub delivers_chunk : (s new : ClientState) (committed : Option ℕ) (credits : ℕ) (header : Header) (payload : List ℕ) (chunk : Chunk) → ReadsChunk (delivered_bytes header payload) (Ok chunk) → credits ≡ s.credits + 1
    → new ≡ with_entries (with_delivery s committed credits) chunk → Obeys s (delivered s committed header payload) (Ok tt) new
delivers_chunk s new committed credits header payload chunk is more same = record {
  chunk = chunk;
  used = is.0;
  begins = is.1;
  is = same ∙ ap (λ (n : ℕ). with_entries (with_delivery s committed n) chunk) more;
}
