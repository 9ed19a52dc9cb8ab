-- Walks over the entries, to a number and to an offset.
use Rattle.std.proofs.Common.{◌≡◌, ℕ, zero, suc, ◌+◌, ◌<◌, ◌≤◌, Bool, true, false, cond, List, [], ◌∷◌, length, drop, Option, Some, None, refl, sym, ap, ◌∙◌, arith}
use Rattle.std.specs.Prelude.{slice_get}
use Rattle.std.specs.Iterator.{YieldsFirstBy}
use Rattle.std.specs.List.{filter}
use Rattle.std.proofs.lemmas.List.{drop-drop, length-drop}
use Rattle.chunk_format.specs.declared.entry.Entry.{Entry}
use Rattle.chunk_format.specs.Chunks.{entry_records}
use Rattle.chunk_view.specs.declared.entry.EntryView.{EntryView}
use Rattle.chunk_view.specs.Shown.{EntryShown, shown, shown_from, shown_by, ends_above}
use Rattle.chunk_view.proofs.ShownLaws.{length-shown_from}

-- a call of `next` takes the first
pub next_drops : (taken : Option EntryView) (old new : List EntryShown) → YieldsFirstBy shown_by (λ left. left) old taken new → new ≡ drop 1 old
next_drops None old new gives = gives.1 ∙ sym (ap (drop 1) gives.0)
next_drops (Some view) old new gives = sym (ap (drop 1) gives)

-- ---- to a number

pub next_at : (taken : Option EntryView) (old new whole : List EntryShown) (n : ℕ) → old ≡ drop n whole → YieldsFirstBy shown_by (λ left. left) old taken new → new ≡ drop (n + 1) whole
next_at taken old new whole n at gives = next_drops taken old new gives ∙ ap (drop 1) at ∙ drop-drop 1 n whole

first_dropped : (whole : List EntryShown) (k : ℕ) (s : EntryShown) (more : List EntryShown) → drop k whole ≡ s ∷ more → slice_get whole k ≡ Some s
first_dropped [] zero s more e = absurd cc
first_dropped [] (suc k) s more e = absurd cc
first_dropped (x ∷ whole) zero s more e = let same : x ≡ s = cc in ap Some same
first_dropped (x ∷ whole) (suc k) s more e = first_dropped whole k s more e

pub stands_kth : (whole left more : List EntryShown) (n k : ℕ) (s : EntryShown) → left ≡ drop n whole → n ≡ k → left ≡ s ∷ more → slice_get whole k ≡ Some s
stands_kth whole left more n k s at same is = first_dropped whole k s more (ap (λ (m : ℕ). drop m whole) (sym same) ∙ sym at ∙ is)

pub some_left : (first : ℕ) (entries : List Entry) (left : List EntryShown) (n k : ℕ) → left ≡ drop n (shown_from first entries) → n ≤ k → k < length entries → left ≡ [] → ⊥
some_left first entries left n k at within less none = omega (arith, ap length at, ap length none, length-drop n (shown_from first entries), length-shown_from first entries)

-- ---- to an offset

-- a walk that has passed only entries that end before the offset
pub record Passed (offset : ℕ) (whole left : List EntryShown) : Type 0 where
  pub count : ℕ
  pub rest : left ≡ drop count whole
  pub kept : filter (ends_above offset) whole ≡ filter (ends_above offset) left

pub passed_none : (offset : ℕ) (whole : List EntryShown) → Passed offset whole whole
passed_none offset whole = record { count = 0; rest = refl; kept = refl }

ends : (offset : ℕ) (s : EntryShown) → offset < s.first + s.records → ends_above offset s ≡ true
ends offset s less = let last : ℕ = s.first + s.records in grind arith

ends_not : (offset : ℕ) (s : EntryShown) → s.first + s.records ≤ offset → ends_above offset s ≡ false
ends_not offset s more = let last : ℕ = s.first + s.records in grind arith

filter_takes : (offset : ℕ) (s : EntryShown) (more : List EntryShown) → ends_above offset s ≡ true → filter (ends_above offset) (s ∷ more) ≡ s ∷ filter (ends_above offset) more
filter_takes offset s more is = ap (λ (b : Bool). cond b (s ∷ filter (ends_above offset) more) (filter (ends_above offset) more)) is

filter_leaves : (offset : ℕ) (s : EntryShown) (more : List EntryShown) → ends_above offset s ≡ false → filter (ends_above offset) (s ∷ more) ≡ filter (ends_above offset) more
filter_leaves offset s more is = ap (λ (b : Bool). cond b (s ∷ filter (ends_above offset) more) (filter (ends_above offset) more)) is

pub passed_more : (offset : ℕ) (whole left more : List EntryShown) (s : EntryShown) → Passed offset whole left → left ≡ s ∷ more → s.first + s.records ≤ offset → Passed offset whole more
passed_more offset whole left more s passed is below = record {
  count = passed.count + 1;
  rest = sym (ap (drop 1) is) ∙ ap (drop 1) passed.rest ∙ drop-drop 1 passed.count whole;
  kept = passed.kept ∙ ap (filter (ends_above offset)) is ∙ filter_leaves offset s more (ends_not offset s below);
}

pub passed_all : (offset : ℕ) (whole left : List EntryShown) → Passed offset whole left → left ≡ [] → left ≡ filter (ends_above offset) whole
passed_all offset whole left passed none = none ∙ sym (passed.kept ∙ ap (filter (ends_above offset)) none)

-- entries from an offset above on are all kept
all_above : (offset first : ℕ) (entries : List Entry) → offset < first → filter (ends_above offset) (shown_from first entries) ≡ shown_from first entries
all_above offset first [] above = refl
all_above offset first (entry ∷ entries) above =
    filter_takes offset (shown first entry) (shown_from (first + entry_records entry) entries) (ends offset (shown first entry) (omega arith))
    ∙ ap (λ (l : List EntryShown). shown first entry ∷ l) (all_above offset (first + entry_records entry) entries (omega arith))

-- what is left of shown entries is shown entries
record Shows (left : List EntryShown) : Type 0 where
  from : ℕ
  entries : List Entry
  is : left ≡ shown_from from entries

shows_dropped : (first : ℕ) (entries : List Entry) (k : ℕ) → Shows (drop k (shown_from first entries))
shows_dropped first entries zero = record { from = first; entries = entries; is = refl }
shows_dropped first [] (suc k) = record { from = first; entries = []; is = refl }
shows_dropped first (entry ∷ entries) (suc k) = shows_dropped (first + entry_records entry) entries k

front_above : (offset first : ℕ) (entries : List Entry) (s : EntryShown) (more : List EntryShown) → shown_from first entries ≡ s ∷ more → offset < s.first + s.records
    → filter (ends_above offset) (shown_from first entries) ≡ shown_from first entries
front_above offset first [] s more is above = refl
front_above offset first (entry ∷ entries) s more is above =
    let same : shown first entry ≡ s = cc in
    let end : first + entry_records entry ≡ s.first + s.records = ap (λ (x : EntryShown). x.first + x.records) same in
    filter_takes offset (shown first entry) (shown_from (first + entry_records entry) entries) (ends offset (shown first entry) (omega (arith, end)))
    ∙ ap (λ (l : List EntryShown). shown first entry ∷ l) (all_above offset (first + entry_records entry) entries (omega (arith, end)))

pub passed_up_to : (offset first : ℕ) (entries : List Entry) (left more : List EntryShown) (s : EntryShown) → Passed offset (shown_from first entries) left → left ≡ s ∷ more → offset < s.first + s.records
    → left ≡ filter (ends_above offset) (shown_from first entries)
passed_up_to offset first entries left more s passed is above =
    let shows = shows_dropped first entries passed.count in
    let here : left ≡ shown_from shows.from shows.entries = passed.rest ∙ shows.is in
    let all = front_above offset shows.from shows.entries s more (sym here ∙ is) above in
    sym (passed.kept ∙ ap (filter (ends_above offset)) here ∙ all ∙ sym here)
