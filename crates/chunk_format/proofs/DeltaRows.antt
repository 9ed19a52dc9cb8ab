-- What the delta chunks of a list say.
use Rattle.std.proofs.Common.{◌≡◌, ℕ, ◌+◌, ◌^◌, ◌<◌, Bool, true, false, cond, eqb, List, [], ◌∷◌, ◌++◌, length, get_or, take, drop, refl, sym, ap, subst, ◌∙◌, arith}
use Rattle.std.specs.Int.{w64, from_be_bytes}
use Rattle.std.specs.List.{flat_map, AllByRecursion}
use Rattle.std.proofs.lemmas.List.{append-nil}
use Rattle.frame_wire.specs.Fields.{u64_bytes}
use Rattle.chunk_format.specs.declared.chunk.ChunkKind.{ChunkKind}
use Rattle.chunk_format.specs.declared.chunk.ChunkKind.TheVariants.{User, Delta, Snapshot}
use Rattle.chunk_format.specs.declared.chunk.Chunk.{Chunk}
use Rattle.chunk_format.specs.Tags.{IsName, named_bytes, DeltaEntry, DeltaSequence, DeltaOffset, IsDelta, SpellsDelta}
use Rattle.chunk_format.specs.Chunks.{IsOneSimple, HoldsByKind, IsChunk}
use Rattle.chunk_format.specs.ByName.{same_name, delta_in, delta_by, chunk_deltas, deltas_of, offset_by, offsets_of, stored_name, stored_names}
use Rattle.chunk_format.proofs.NamedRead.{named_read}
use Rattle.chunk_format.proofs.NameLaws.{each_join}

abbrev made : Bool → List ℕ → ℕ → DeltaEntry
made stored name n = cond stored (DeltaOffset name n) (DeltaSequence name n)

read_as : (body : List ℕ) (kind : ℕ) (name : List ℕ) (n : ℕ) → kind < 2 ^ 8 → IsName name → n < 2 ^ 64 → body ≡ named_bytes kind name ++ u64_bytes n → delta_in body ≡ made (eqb kind 1) name n
read_as body kind name n kind_fits is_name n_fits e =
    let read = named_read body kind name n [] kind_fits is_name n_fits (e ∙ sym (append-nil (named_bytes kind name ++ u64_bytes n))) in
    let number : ℕ → ℕ = λ len. from_be_bytes w64 (take 8 (drop (2 + len) body)) in
    ap (λ (k : ℕ). made (eqb k 1) (take (get_or body 1 0) (drop 2 body)) (number (get_or body 1 0))) read.kind_is
    ∙ ap (λ (len : ℕ). made (eqb kind 1) (take len (drop 2 body)) (number len)) read.len_is
    ∙ ap (λ (x : List ℕ). made (eqb kind 1) x (number (length name))) read.name_is
    ∙ ap (λ (m : ℕ). made (eqb kind 1) name m) read.number_is

-- what is read by places is what is spelled
pub delta_back : (body : List ℕ) (delta : DeltaEntry) → SpellsDelta body delta → delta_in body ≡ delta
delta_back body (DeltaSequence name id) spells = read_as body 0 name id (omega arith) spells.0.0 spells.0.1 spells.1
delta_back body (DeltaOffset name offset) spells = read_as body 1 name offset (omega arith) spells.0.0 spells.0.1 spells.1

pub delta_of_chunk : (c : Chunk) (body : List ℕ) (delta : DeltaEntry) → c.kind ≡ Delta → IsOneSimple c.entries body → SpellsDelta body delta → chunk_deltas c ≡ delta ∷ []
delta_of_chunk c body delta kind one spells =
    ap (λ (k : ChunkKind). delta_by k c.entries) kind ∙ ap (delta_by Delta) one ∙ ap (λ (d : DeltaEntry). d ∷ []) (delta_back body delta spells)

pub one_delta : (c : Chunk) → deltas_of (c ∷ []) ≡ chunk_deltas c
one_delta c = append-nil (chunk_deltas c)

-- no offset of any name was stored by a chunk
pub record Unstored (c : Chunk) : Type 0 where
  pub no_names : stored_names (c ∷ []) ≡ []
  pub no_offsets : (name : List ℕ) → offsets_of name (c ∷ []) ≡ []

says_none : (c : Chunk) → chunk_deltas c ≡ [] → Unstored c
says_none c none =
    let deltas : deltas_of (c ∷ []) ≡ [] = one_delta c ∙ none in
    record { no_names = ap (flat_map stored_name) deltas; no_offsets = λ name. ap (flat_map (offset_by name)) deltas }

pub unstored_user : (c : Chunk) → c.kind ≡ User → Unstored c
unstored_user c user = says_none c (ap (λ (k : ChunkKind). delta_by k c.entries) user)

pub unstored_snapshot : (c : Chunk) → c.kind ≡ Snapshot → Unstored c
unstored_snapshot c snapshot = says_none c (ap (λ (k : ChunkKind). delta_by k c.entries) snapshot)

pub unstored_sequence : (c : Chunk) (name : List ℕ) (id : ℕ) → chunk_deltas c ≡ DeltaSequence name id ∷ [] → Unstored c
unstored_sequence c name id is =
    let deltas : deltas_of (c ∷ []) ≡ DeltaSequence name id ∷ [] = one_delta c ∙ is in
    record { no_names = ap (flat_map stored_name) deltas; no_offsets = λ other. ap (flat_map (offset_by other)) deltas }

-- ---- the delta entries of chunks that have a spelling

right_by : (kind : ChunkKind) (c : Chunk) → c.kind ≡ kind → HoldsByKind kind c.entries c.trailer → AllByRecursion IsDelta (chunk_deltas c)
right_by User c kind holds = subst (AllByRecursion IsDelta) (sym (ap (λ (k : ChunkKind). delta_by k c.entries) kind)) tt
right_by Snapshot c kind holds = subst (AllByRecursion IsDelta) (sym (ap (λ (k : ChunkKind). delta_by k c.entries) kind)) tt
right_by Delta c kind (none, (body, delta, one, spells)) = subst (AllByRecursion IsDelta) (sym (delta_of_chunk c body delta kind one spells)) (spells.0, tt)

pub right_deltas : (chunks : List Chunk) → AllByRecursion IsChunk chunks → AllByRecursion IsDelta (deltas_of chunks)
right_deltas [] each = tt
right_deltas (c ∷ cs) each = each_join IsDelta (chunk_deltas c) (deltas_of cs) (right_by c.kind c refl each.0.content) (right_deltas cs each.1)

names_right : (deltas : List DeltaEntry) → AllByRecursion IsDelta deltas → AllByRecursion IsName (flat_map stored_name deltas)
names_right [] each = tt
names_right (DeltaSequence name id ∷ ds) each = names_right ds each.1
names_right (DeltaOffset name offset ∷ ds) each = (each.0.0, names_right ds each.1)

fits_by : (b : Bool) (n : ℕ) → n < 2 ^ 64 → AllByRecursion (λ m. m < 2 ^ 64) (cond b (n ∷ []) [])
fits_by true n fits = (fits, tt)
fits_by false n fits = tt

offsets_right : (name : List ℕ) (deltas : List DeltaEntry) → AllByRecursion IsDelta deltas → AllByRecursion (λ offset. offset < 2 ^ 64) (flat_map (offset_by name) deltas)
offsets_right name [] each = tt
offsets_right name (DeltaSequence other id ∷ ds) each = offsets_right name ds each.1
offsets_right name (DeltaOffset other offset ∷ ds) each =
    each_join (λ n. n < 2 ^ 64) (cond (same_name other name) (offset ∷ []) []) (flat_map (offset_by name) ds) (fits_by (same_name other name) offset each.0.1) (offsets_right name ds each.1)

pub stored_names_right : (chunks : List Chunk) → AllByRecursion IsChunk chunks → AllByRecursion IsName (stored_names chunks)
stored_names_right chunks each = names_right (deltas_of chunks) (right_deltas chunks each)

pub offsets_fit : (name : List ℕ) (chunks : List Chunk) → AllByRecursion IsChunk chunks → AllByRecursion (λ offset. offset < 2 ^ 64) (offsets_of name chunks)
offsets_fit name chunks each = offsets_right name (deltas_of chunks) (right_deltas chunks each)
