-- A segment without records may be removed wherever it stands.
use Rattle.std.proofs.Common.{◌≡◌, ◌≢◌, ◌⊎◌, inl, inr, ℕ, zero, suc, ◌≤◌, ◌^◌, length, None, Bool, true, false, refl, sym, ◌∙◌, ap, subst, ◌==◌, ◌&&◌, if◌then◌else◌}
use Rattle.std.proofs.lemmas.Bool.{cases_eq, and_from, and_right, and_parts, eq-eqb, ne_eqb, eqb-true, both_ways}
use Rattle.disk_calls.specs.declared.file_id.FileId.{FileId}
use Rattle.disk_calls.specs.declared.file_id.FileName.{FileName}
use Rattle.disk_calls.specs.declared.file_id.FileName.TheVariants as name
use Rattle.disk_calls.specs.Disk.{DiskState, Image, bytes_of, Looks}
use Rattle.segment_pairs.specs.Log.{Finder, Pair, Reading, LogOf, read_pair, read_below}
use Rattle.segment_pairs.specs.Held.{segment_file, index_file, Picks, files_of, Missing, BesidesPair, KeepsLog, GoneOrBefore, seen_log}
use Rattle.segment_pairs.proofs.Many.{read_zero, read_suc, read_none}
use Rattle.segment_pairs.proofs.Making.{none_short}
use Rattle.segment_pairs.proofs.Moving.{apart, apart_back}
use Rattle.segment_pairs.proofs.Lifting.{other_segment, other_index}
use Rattle.segment_store.specs.Recovery.{SameOrNone, log_below}

-- ---- the two files of a number

number_in : ℕ → ℕ → ℕ → FileName → Bool
number_in stream n st (name.Segment k) = (st == stream) && (k == n)
number_in stream n st (name.Index k) = (st == stream) && (k == n)
number_in stream n st name.Promise = false
number_in stream n st name.Epochs = false
number_in stream n st name.CatalogWords = false
number_in stream n st name.CatalogBytes = false
number_in stream n st name.PromiseTwo = false
number_in stream n st name.EpochsTwo = false
number_in stream n st name.CatalogWordsTwo = false

-- what is seen of the two files of a number, and these images of the others
pub mixed : ℕ → ℕ → DiskState → (FileId → Image) → FileId → Image
mixed stream n s pick f = if number_in stream n f.stream f.file then s.seen f else pick f

segment_in : (stream n : ℕ) → number_in stream n stream (name.Segment n) ≡ true
unfolding number_in
segment_in stream n = and_from (stream == stream) (n == n) (eq-eqb stream stream refl) (eq-eqb n n refl)

index_in : (stream n : ℕ) → number_in stream n stream (name.Index n) ≡ true
unfolding number_in
index_in stream n = and_from (stream == stream) (n == n) (eq-eqb stream stream refl) (eq-eqb n n refl)

segment_out : (stream n k : ℕ) → k ≢ n → number_in stream n stream (name.Segment k) ≡ false
unfolding number_in
segment_out stream n k ne = and_right (stream == stream) (k == n) (ne_eqb k n ne)

index_out : (stream n k : ℕ) → k ≢ n → number_in stream n stream (name.Index k) ≡ false
unfolding number_in
index_out stream n k ne = and_right (stream == stream) (k == n) (ne_eqb k n ne)

not_segment : (stream n : ℕ) (f : FileId) → number_in stream n f.stream f.file ≡ false → f ≢ segment_file stream n
not_segment stream n f out e = both_ways (number_in stream n f.stream f.file) out (ap (λ (x : FileId). number_in stream n x.stream x.file) e ∙ segment_in stream n)

not_index : (stream n : ℕ) (f : FileId) → number_in stream n f.stream f.file ≡ false → f ≢ index_file stream n
not_index stream n f out e = both_ways (number_in stream n f.stream f.file) out (ap (λ (x : FileId). number_in stream n x.stream x.file) e ∙ index_in stream n)

-- there are no more than these two
in_one : (P : FileId → Type 0) (stream n st : ℕ) (file : FileName) → number_in stream n st file ≡ true → P (segment_file stream n) → P (index_file stream n) → P (record { stream = st; file = file })
unfolding number_in
in_one P stream n st (name.Segment k) is one two =
    let parts = and_parts (st == stream) (k == n) is in
    let a : st ≡ stream = eqb-true st stream parts.0 in
    let b : k ≡ n = eqb-true k n parts.1 in
    subst P (λ i. record { stream = sym a i; file = name.Segment (sym b i) }) one
in_one P stream n st (name.Index k) is one two =
    let parts = and_parts (st == stream) (k == n) is in
    let a : st ≡ stream = eqb-true st stream parts.0 in
    let b : k ≡ n = eqb-true k n parts.1 in
    subst P (λ i. record { stream = sym a i; file = name.Index (sym b i) }) two
in_one P stream n st name.Promise is one two = absurd (cc is)
in_one P stream n st name.Epochs is one two = absurd (cc is)
in_one P stream n st name.CatalogWords is one two = absurd (cc is)
in_one P stream n st name.CatalogBytes is one two = absurd (cc is)
in_one P stream n st name.PromiseTwo is one two = absurd (cc is)
in_one P stream n st name.EpochsTwo is one two = absurd (cc is)
in_one P stream n st name.CatalogWordsTwo is one two = absurd (cc is)

-- ---- images

mixed_at : (stream n : ℕ) (s t : DiskState) (pick : FileId → Image) → ((f : FileId) → s.images f (s.seen f)) → BesidesPair stream n s t → Picks t pick → (f : FileId) (b : Bool) → number_in stream n f.stream f.file ≡ b → s.images f (if b then s.seen f else pick f)
mixed_at stream n s t pick law besides picks f true is = law f
mixed_at stream n s t pick law besides picks f false is = besides.images f (not_segment stream n f is) (not_index stream n f is) (pick f) (picks f)

pub mixed_picks : (stream n : ℕ) (s t : DiskState) (pick : FileId → Image) → ((f : FileId) → s.images f (s.seen f)) → BesidesPair stream n s t → Picks t pick → Picks s (mixed stream n s pick)
unfolding mixed
mixed_picks stream n s t pick law besides picks f = mixed_at stream n s t pick law besides picks f (number_in stream n f.stream f.file) refl

picks_at : (stream n : ℕ) (s t : DiskState) (pick : FileId → Image) → BesidesPair stream n s t → Picks t pick → s.images (segment_file stream n) (pick (segment_file stream n)) → s.images (index_file stream n) (pick (index_file stream n)) → (f : FileId) (b : Bool) → number_in stream n f.stream f.file ≡ b → s.images f (pick f)
picks_at stream n s t pick besides picks one two f true is = in_one (λ (x : FileId). s.images x (pick x)) stream n f.stream f.file is one two
picks_at stream n s t pick besides picks one two f false is = besides.images f (not_segment stream n f is) (not_index stream n f is) (pick f) (picks f)

pub picks_before : (stream n : ℕ) (s t : DiskState) (pick : FileId → Image) → BesidesPair stream n s t → Picks t pick → s.images (segment_file stream n) (pick (segment_file stream n)) → s.images (index_file stream n) (pick (index_file stream n)) → Picks s pick
picks_before stream n s t pick besides picks one two f = picks_at stream n s t pick besides picks one two f (number_in stream n f.stream f.file) refl

pub mixed_segment : (stream n i : ℕ) (s : DiskState) (pick : FileId → Image) → i ≢ n → mixed stream n s pick (segment_file stream i) ≡ pick (segment_file stream i)
unfolding mixed
mixed_segment stream n i s pick ne = ap (λ (b : Bool). if b then s.seen (segment_file stream i) else pick (segment_file stream i)) (segment_out stream n i ne)

pub mixed_index : (stream n i : ℕ) (s : DiskState) (pick : FileId → Image) → i ≢ n → mixed stream n s pick (index_file stream i) ≡ pick (index_file stream i)
unfolding mixed
mixed_index stream n i s pick ne = ap (λ (b : Bool). if b then s.seen (index_file stream i) else pick (index_file stream i)) (index_out stream n i ne)

pub mixed_here : (stream n : ℕ) (s : DiskState) (pick : FileId → Image) → mixed stream n s pick (index_file stream n) ≡ s.seen (index_file stream n)
unfolding mixed
mixed_here stream n s pick = ap (λ (b : Bool). if b then s.seen (index_file stream n) else pick (index_file stream n)) (index_in stream n)

-- ---- logs

-- files that differ only where both indexes have at most a header
pub read_same : (F : Finder) (m : ℕ) (P Q : ℕ → Pair) → ((i : ℕ) → (P i ≡ Q i) ⊎ ((length (P i).1 ≤ 8) × (length (Q i).1 ≤ 8))) → read_below F m P ≡ read_below F m Q
read_same F zero P Q same = read_zero F P ∙ sym (read_zero F Q)
read_same F (suc m) P Q same =
    let below = read_same F m P Q same in
    elim (same m) [
      | inl is ↦ read_suc F m P ∙ (λ i. read_pair F (is i) (below i)) ∙ sym (read_suc F m Q)
      | inr short ↦
          let p = read_below F m P in
          let q = read_below F m Q in
          read_suc F m P ∙ read_none F (P m) p.chunks p.whole short.0 ∙ below ∙ sym (read_none F (Q m) q.chunks q.whole short.1) ∙ sym (read_suc F m Q)
    ]

log_same : (F : Finder) (P Q : ℕ → Pair) → ((i : ℕ) → (P i ≡ Q i) ⊎ ((length (P i).1 ≤ 8) × (length (Q i).1 ≤ 8))) → LogOf F P ≡ LogOf F Q
unfolding LogOf
log_same F P Q same = ap (λ (r : Reading). r.chunks) (read_same F (2 ^ 64) P Q same)

-- an index without records is removed
pub ghost_keeps : (stream n : ℕ) (s t : DiskState) → ((f : FileId) → s.images f (s.seen f)) → BesidesPair stream n s t → length (bytes_of (s.seen (index_file stream n))) ≤ 8 → GoneOrBefore stream n s t → KeepsLog stream s t
ghost_keeps stream n s t law besides short moved pick picks =
    elim (moved (pick (segment_file stream n)) (pick (index_file stream n)) (picks (segment_file stream n)) (picks (index_file stream n))) [
      | inl none ↦ (
        mixed stream n s pick,
        mixed_picks stream n s t pick law besides picks,
        λ F. log_same F (files_of stream pick) (files_of stream (mixed stream n s pick)) (λ i. elim (cases_eq i n) [
          | inl here ↦ inr (
            subst (λ (k : ℕ). length (bytes_of (pick (index_file stream k))) ≤ 8) (sym here) (none_short (pick (index_file stream n)) none),
            subst (λ (k : ℕ). length (bytes_of (mixed stream n s pick (index_file stream k))) ≤ 8) (sym here) (subst (λ (c : Image). length (bytes_of c) ≤ 8) (sym (mixed_here stream n s pick)) short),
          )
          | inr ne ↦ inl (λ j. (bytes_of (sym (mixed_segment stream n i s pick ne) j), bytes_of (sym (mixed_index stream n i s pick ne) j)))
        ]),
      )
      | inr both ↦ (pick, picks_before stream n s t pick besides picks both.0 both.1, λ F. refl)
    ]

-- ---- what a read gives

pub none_seen : (stream n : ℕ) (s : DiskState) → ((f : FileId) → s.images f (s.seen f)) → Missing stream n s → s.seen (index_file stream n) ≡ None
none_seen stream n s law missing = missing.index (s.seen (index_file stream n)) (law (index_file stream n))

pub same_looks : (stream : ℕ) (s t : DiskState) (n : ℕ) → Looks s t → files_of stream t.seen n ≡ files_of stream s.seen n
same_looks stream s t n looks = λ i. (bytes_of (looks.seen (segment_file stream n) i), bytes_of (looks.seen (index_file stream n) i))

pub same_besides : (stream n i : ℕ) (s t : DiskState) → BesidesPair stream n s t → i ≢ n → files_of stream t.seen i ≡ files_of stream s.seen i
same_besides stream n i s t besides ne = λ j. (bytes_of (besides.seen (segment_file stream i) (other_segment stream i n ne) (apart stream i n) j), bytes_of (besides.seen (index_file stream i) (apart_back stream i n) (other_index stream i n ne) j))

either_short : (stream : ℕ) (s t : DiskState) (n : ℕ) → SameOrNone stream s t n → (files_of stream t.seen n ≡ files_of stream s.seen n) ⊎ ((length (files_of stream t.seen n).1 ≤ 8) × (length (files_of stream s.seen n).1 ≤ 8))
either_short stream s t n (inl same) = inl same
either_short stream s t n (inr none) = inr (none.2, none.1)

pub below_same : (F : Finder) (stream : ℕ) (s t : DiskState) (n : ℕ) → ((i : ℕ) → SameOrNone stream s t i) → log_below F n (files_of stream t.seen) ≡ log_below F n (files_of stream s.seen)
below_same F stream s t n same = ap (λ (r : Reading). r.chunks) (read_same F n (files_of stream t.seen) (files_of stream s.seen) (λ i. either_short stream s t i (same i)))

pub seen_same : (F : Finder) (stream : ℕ) (s t : DiskState) → ((i : ℕ) → SameOrNone stream s t i) → seen_log F stream t ≡ seen_log F stream s
seen_same F stream s t same = log_same F (files_of stream t.seen) (files_of stream s.seen) (λ i. either_short stream s t i (same i))

pub looks_same_log : (F : Finder) (stream : ℕ) (s t : DiskState) → Looks s t → seen_log F stream t ≡ seen_log F stream s
looks_same_log F stream s t looks = seen_same F stream s t (λ i. inl (same_looks stream s t i looks))

-- ---- one call after another

pub keeps_then : (stream : ℕ) (s t u : DiskState) → KeepsLog stream s t → KeepsLog stream t u → KeepsLog stream s u
keeps_then stream s t u a b pick picks =
    let one = b pick picks in
    let two = a one.0 one.1 in
    (two.0, two.1, λ F. one.2 F ∙ two.2 F)

pub looks_keep : (stream : ℕ) (s t : DiskState) → Looks s t → KeepsLog stream s t
looks_keep stream s t looks pick picks = (pick, (λ f. looks.images f (pick f) (picks f)), λ F. refl)

pub same_keeps : (stream : ℕ) (s : DiskState) → KeepsLog stream s s
same_keeps stream s pick picks = (pick, picks, λ F. refl)

pub looks_besides : (stream n : ℕ) (s t : DiskState) → Looks s t → BesidesPair stream n s t
looks_besides stream n s t looks = record { seen = λ f ne ne_two. looks.seen f; images = λ f ne ne_two. looks.images f }

pub besides_then : (stream n : ℕ) (s t u : DiskState) → BesidesPair stream n s t → BesidesPair stream n t u → BesidesPair stream n s u
besides_then stream n s t u a b = record { seen = λ f ne ne_two. b.seen f ne ne_two ∙ a.seen f ne ne_two; images = λ f ne ne_two c left. a.images f ne ne_two c (b.images f ne ne_two c left) }

pub looks_then : (s t u : DiskState) → Looks s t → Looks t u → Looks s u
looks_then s t u a b = record { seen = λ f. b.seen f ∙ a.seen f; images = λ f c left. a.images f c (b.images f c left) }

pub looks_none : (s : DiskState) → Looks s s
looks_none s = record { seen = λ f. refl; images = λ f c left. left }
