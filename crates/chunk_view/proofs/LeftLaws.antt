-- The entries that are left, one by one.
use Rattle.std.proofs.Common.{◌≡◌, ℕ, zero, suc, ◌+◌, ◌-◌, ◌^◌, ◌<◌, List, ◌∷◌, ◌++◌, length, take, drop, refl, sym, ap, subst, ◌∙◌, arith}
use Rattle.std.specs.List.{flat_map}
use Rattle.std.proofs.lemmas.List.{take_at, drop_at, take_rest}
use Rattle.std.proofs.lemmas.List.Elements.{All-head, All-tail}
use Rattle.std.proofs.lemmas.List.Sums.{sum_by-cons}
use Rattle.chunk_format.specs.declared.entry.Entry.{Entry}
use Rattle.chunk_format.specs.Chunks.{entry_bytes, entry_records, IsEntry}
use Rattle.chunk_format.specs.Items.{NoneAtFront}
use Rattle.chunk_format.specs.Faults.{IsChunkEntry}
use Rattle.chunk_format.proofs.Codes.{entry_code}
use Rattle.chunk_format.specs.ReadBack.{first_entry, after_entry, BeginsEntry, entries_at, AreLeft}
use Rattle.chunk_view.specs.Shown.{EntryShown, shown, shown_from, entry_body}

-- an entry that was split off the front is the one that is read there
pub record SplitOff (bytes : List ℕ) (entry : Entry) (len : ℕ) : Type 0 where
  pub same : entry ≡ first_entry bytes
  pub part : take len bytes ≡ entry_bytes (first_entry bytes)

pub split_off : (bytes : List ℕ) (entry : Entry) (len : ℕ) → BeginsEntry bytes → IsEntry entry → bytes ≡ entry_bytes entry ++ drop len bytes → len ≡ length (entry_bytes entry) → SplitOff bytes entry len
split_off bytes entry len begins right stands long =
    let same : entry ≡ first_entry bytes = (entry_code.one entry (first_entry bytes) (drop len bytes) (after_entry bytes) right begins.0 (sym stands ∙ begins.1)).0 in
    record { same = same; part = ap (take len) stands ∙ take_at (entry_bytes entry) (drop len bytes) len (sym long) ∙ ap entry_bytes same }

pub some_begins : (bytes : List ℕ) → BeginsEntry bytes → NoneAtFront entry_bytes IsEntry bytes → ⊥
some_begins bytes begins none = none (first_entry bytes) (after_entry bytes) begins.0 begins.1

-- the first of the entries that are left, and the others
pub record FirstLeft (m first : ℕ) (bytes : List ℕ) : Type 0 where
  pub begins : BeginsEntry bytes
  pub fits : first + entry_records (first_entry bytes) < 2 ^ 64
  pub others : AreLeft m (first + entry_records (first_entry bytes)) (after_entry bytes)

first_of_suc : (m first : ℕ) (bytes : List ℕ) → AreLeft (suc m) first bytes → FirstLeft m first bytes
first_of_suc m first bytes left =
    let entry = first_entry bytes in
    let more = entries_at m (after_entry bytes) in
    let right = All-head IsChunkEntry entry more left.are.right.0 in
    let after : after_entry bytes ≡ flat_map entry_bytes more =
    ap (drop (length (entry_bytes entry))) left.are.spelled ∙ drop_at (entry_bytes entry) (flat_map entry_bytes more) (length (entry_bytes entry)) refl in
    let sum = sum_by-cons entry_records entry more in
    let count : length (entry ∷ more) ≡ suc m = left.are.whole in
    record {
      begins = (right.0, left.are.spelled ∙ ap (λ (l : List ℕ). entry_bytes entry ++ l) (sym after));
      fits = omega (arith, left.last, sum);
      others = record {
        are = record { right = (All-tail IsChunkEntry entry more left.are.right.0, omega (arith, count)); whole = omega (arith, count); spelled = after };
        last = omega (arith, left.last, sum);
      };
    }

one_less : (m : ℕ) → m ≡ suc m - 1
one_less m = omega arith

pub first_left : (n first : ℕ) (bytes : List ℕ) → 0 < n → AreLeft n first bytes → FirstLeft (n - 1) first bytes
first_left zero first bytes some left = absurd (omega arith)
first_left (suc m) first bytes some left = subst (λ (k : ℕ). FirstLeft k first bytes) (one_less m) (first_of_suc m first bytes left)

pub shown_left : (n first : ℕ) (bytes : List ℕ) → 0 < n
    → shown_from first (entries_at n bytes) ≡ shown first (first_entry bytes) ∷ shown_from (first + entry_records (first_entry bytes)) (entries_at (n - 1) (after_entry bytes))
shown_left zero first bytes some = absurd (omega arith)
shown_left (suc m) first bytes some =
    let behind : ℕ = first + entry_records (first_entry bytes) in
    ap (λ (k : ℕ). shown first (first_entry bytes) ∷ shown_from behind (entries_at k (after_entry bytes))) (one_less m)

-- the slices of an entry that was split off the front show it
pub shown_split : (bytes body : List ℕ) (first records len : ℕ) (entry : Entry) → BeginsEntry bytes → IsEntry entry → bytes ≡ entry_bytes entry ++ drop len bytes → len ≡ length (entry_bytes entry)
    → records ≡ entry_records entry → body ≡ entry_body entry
    → (let s : EntryShown = record { first = first; records = records; spelling = take len bytes; body = body } in s ≡ shown first (first_entry bytes))
shown_split bytes body first records len entry begins right stands long records_is body_is =
    let made : ℕ → List ℕ → List ℕ → EntryShown = λ r spelling b. record { first = first; records = r; spelling = spelling; body = b } in
    let off = split_off bytes entry len begins right stands long in
    ap (λ (r : ℕ). made r (take len bytes) body) (records_is ∙ ap entry_records off.same)
    ∙ ap (λ (l : List ℕ). made (entry_records (first_entry bytes)) l body) off.part
    ∙ ap (λ (l : List ℕ). made (entry_records (first_entry bytes)) (entry_bytes (first_entry bytes)) l) (body_is ∙ ap entry_body off.same)

-- a step to the next entry
pub record Stepped (n first records : ℕ) (bytes rest : List ℕ) (s : EntryShown) : Type 0 where
  pub fits : first + records < 2 ^ 64
  pub others : AreLeft (n - 1) (first + records) rest
  pub cons : shown_from first (entries_at n bytes) ≡ s ∷ shown_from (first + records) (entries_at (n - 1) rest)

pub stepped : (n first records len : ℕ) (bytes rest : List ℕ) (s : EntryShown) → 0 < n → AreLeft n first bytes → s ≡ shown first (first_entry bytes) → records ≡ s.records → len ≡ length s.spelling
    → rest ≡ take (length bytes - len) (drop len bytes) → Stepped n first records bytes rest s
stepped n first records len bytes rest s some left is records_is len_is rest_is =
    let front = first_left n first bytes some left in
    let counted : records ≡ entry_records (first_entry bytes) = records_is ∙ ap (λ (x : EntryShown). x.records) is in
    let long : len ≡ length (entry_bytes (first_entry bytes)) = len_is ∙ ap (λ (x : EntryShown). length x.spelling) is in
    let behind : rest ≡ after_entry bytes = rest_is ∙ take_rest bytes len ∙ ap (λ (k : ℕ). drop k bytes) long in
    let others : AreLeft (n - 1) (first + records) (after_entry bytes) = subst (λ (r : ℕ). AreLeft (n - 1) (first + r) (after_entry bytes)) (sym counted) front.others in
    let shows : shown_from first (entries_at n bytes) ≡ s ∷ shown_from (first + records) (entries_at (n - 1) (after_entry bytes)) =
    shown_left n first bytes some ∙ ap (λ (x : EntryShown). x ∷ shown_from (first + entry_records (first_entry bytes)) (entries_at (n - 1) (after_entry bytes))) (sym is)
    ∙ ap (λ (r : ℕ). s ∷ shown_from (first + r) (entries_at (n - 1) (after_entry bytes))) (sym counted) in
    record {
      fits = omega (arith, front.fits, counted);
      others = subst (λ (l : List ℕ). AreLeft (n - 1) (first + records) l) (sym behind) others;
      cons = shows ∙ ap (λ (l : List ℕ). s ∷ shown_from (first + records) (entries_at (n - 1) l)) (sym behind);
    }
