-- Payloads and their entries.
use Rattle.std.proofs.Common.{◌≡◌, ℕ, ◌+◌, ◌-◌, ◌*◌, ◌<◌, ◌≤◌, List, [], ◌∷◌, ◌++◌, length, take, drop, refl, sym, ap, subst, ◌∙◌, arith}
use Rattle.std.proofs.lemmas.List.{take_rest}
use Rattle.std.proofs.lemmas.List.Elements.{All-head}
use Rattle.std.proofs.lemmas.List.Sums.{sum_by_push}
use Rattle.chunk_format.specs.declared.entry.Entry.{Entry}
use Rattle.chunk_format.specs.declared.entry.Entry.TheVariants.{Simple, Batch}
use Rattle.chunk_format.specs.Chunks.{entry_bytes, entry_records, IsEntry, HasRecords, records_of, IsOneSimple}
use Rattle.chunk_format.specs.Items.{NoneAtFront}
use Rattle.chunk_format.specs.Tags.{Count}
use Rattle.chunk_format.specs.Faults.{IsChunkEntry, AreEntries, SpellsEntries, WrongEntry, NotOneSimple}
use Rattle.chunk_format.proofs.ItemLaws.{IsCode}
use Rattle.chunk_format.proofs.Codes.{entry_code}
use Rattle.chunk_format.proofs.Gone.{Gone, gone_start, gone_more, gone_more_front, gone_whole, limited_wrong, wrong_within}

pub chunk_entry_code : IsCode entry_bytes IsChunkEntry
chunk_entry_code = record { some = λ x f. entry_code.some x f.0; one = λ x y a b f g e. entry_code.one x y a b f.0 g.0 e }

-- ---- one entry

record One (all : List Entry) (payload : List ℕ) : Type 0 where
  entry : Entry
  is : all ≡ entry ∷ []
  right : IsEntry entry
  spelled : payload ≡ entry_bytes entry ++ []

one_entry : (n : ℕ) (payload : List ℕ) (all : List Entry) → n ≡ 1 → SpellsEntries n payload all → One all payload
one_entry n payload [] one are = let none : 0 ≡ n = are.whole in absurd (omega arith)
one_entry n payload (e ∷ []) one are = record { entry = e; is = refl; right = (All-head IsChunkEntry e [] are.right.0).0; spelled = are.spelled }
one_entry n payload (e ∷ f ∷ more) one are = let many : length (e ∷ f ∷ more) ≡ n = are.whole in absurd (omega arith)

pub one_is_simple : (n len : ℕ) (payload body : List ℕ) (all : List Entry) → n ≡ 1 → IsEntry (Simple body) → payload ≡ entry_bytes (Simple body) ++ drop len payload → SpellsEntries n payload all → IsOneSimple all body
one_is_simple n len payload body all one right stands are =
    let o = one_entry n payload all one are in
    let same = entry_code.one o.entry (Simple body) [] (drop len payload) o.right right (sym o.spelled ∙ stands) in
    o.is ∙ ap (λ (e : Entry). e ∷ []) same.0

pub one_is_batch : (n len : ℕ) (payload : List ℕ) (c s r u : ℕ) (inner : List ℕ) (all : List Entry) → n ≡ 1 → IsEntry (Batch c s r u inner) → payload ≡ entry_bytes (Batch c s r u inner) ++ drop len payload
    → SpellsEntries n payload all → NotOneSimple all
one_is_batch n len payload c s r u inner all one right stands are body simple =
    let o = one_entry n payload all one are in
    let same = entry_code.one o.entry (Batch c s r u inner) [] (drop len payload) o.right right (sym o.spelled ∙ stands) in
    let lists : Batch c s r u inner ∷ [] ≡ Simple body ∷ [] = sym (o.is ∙ ap (λ (e : Entry). e ∷ []) same.0) ∙ simple in
    absurd cc

pub one_is_none : (n : ℕ) (payload : List ℕ) (all : List Entry) → n ≡ 1 → NoneAtFront entry_bytes IsEntry payload → SpellsEntries n payload all → NotOneSimple all
one_is_none n payload all one none are body simple = let o = one_entry n payload all one are in none o.entry [] o.right o.spelled

-- ---- the walk over a payload

-- so many entries were seen, with so many records
abbrev pub Walked : List ℕ → ℕ → ℕ → ℕ → Type 0
Walked payload count at total = (gone : Gone entry_bytes IsChunkEntry payload count at) × (records_of gone.front ≡ total) × (total ≤ 65535 * count)

pub walked_more : (payload : List ℕ) (count at total : ℕ) → Walked payload count at total → (x : Entry) (len records : ℕ) (left : List ℕ) → left ≡ take (length payload - at) (drop at payload)
    → IsEntry x → left ≡ entry_bytes x ++ drop len left → len ≡ length (entry_bytes x) → records ≡ entry_records x → 1 ≤ records → records ≤ 65535 → Walked payload (count + 1) (at + len) (total + records)
walked_more payload count at total walked x len records left is right stands long records_is some few =
    let has : HasRecords x = subst (λ (r : ℕ). 1 ≤ r) records_is some in
    let gone = gone_more entry_bytes IsChunkEntry payload count at walked.0 x len left is (right, has) stands long in
    let front = gone_more_front entry_bytes IsChunkEntry payload count at walked.0 x len left is (right, has) stands long in
    let sum : records_of gone.front ≡ total + records =
    ap records_of front ∙ sum_by_push entry_records walked.0.front x ∙ ap (λ (t : ℕ). t + entry_records x) walked.1 ∙ ap (λ (r : ℕ). total + r) (sym records_is) in
    (gone, sum, omega (arith, walked.2))

-- no entry stands there, or one without records
pub no_entry_there : (payload left : List ℕ) (at : ℕ) → left ≡ take (length payload - at) (drop at payload) → NoneAtFront entry_bytes IsEntry left → NoneAtFront entry_bytes IsChunkEntry (drop at payload)
no_entry_there payload left at is none x more right e = none x more right.0 (is ∙ take_rest payload at ∙ e)

pub no_records_there : (payload left : List ℕ) (at len : ℕ) (entry : Entry) → left ≡ take (length payload - at) (drop at payload) → IsEntry entry → left ≡ entry_bytes entry ++ drop len left → entry_records entry ≡ 0
    → NoneAtFront entry_bytes IsChunkEntry (drop at payload)
no_records_there payload left at len entry is right stands none x more chunk_entry e =
    let same = entry_code.one x entry more (drop len left) chunk_entry.0 right (sym e ∙ sym (is ∙ take_rest payload at) ∙ stands) in
    let has : 1 ≤ entry_records x = chunk_entry.1 in
    omega (arith, ap entry_records same.0)

pub entry_wrong : (payload : List ℕ) (n count at total : ℕ) → Walked payload count at total → count ≤ n → (count < n → NoneAtFront entry_bytes IsChunkEntry (drop at payload)) → (count ≡ n → at < length payload) → WrongEntry n payload at
entry_wrong payload n count at total walked within none left = limited_wrong entry_bytes IsChunkEntry payload n count at walked.0 within none left

pub walked_whole : (payload : List ℕ) (n count at total : ℕ) → count ≡ n → Walked payload count at total → length payload ≤ at → (entries : List Entry) × SpellsEntries n payload entries × (records_of entries ≡ total)
walked_whole payload n count at total all walked past =
    let gone = walked.0 in
    (gone.front, record { right = (gone.each, omega (arith, gone.counted)); whole = gone.counted ∙ all; spelled = gone_whole entry_bytes IsChunkEntry payload count at gone past }, walked.1)

-- ---- places within the bytes

pub entry_within : (n place : ℕ) (payload : List ℕ) → WrongEntry n payload place → place ≤ length payload
entry_within n place payload wrong = wrong_within entry_bytes (AreEntries n) (Count n) payload place wrong

pub walked_start : (payload : List ℕ) → Walked payload 0 0 0
unfolding gone_start
walked_start payload = (gone_start entry_bytes IsChunkEntry payload, refl, omega arith)
