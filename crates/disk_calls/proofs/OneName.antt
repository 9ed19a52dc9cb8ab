-- A name is that of one file.
use Rattle.std.proofs.Common.{◌≡◌, ◌≢◌, ℕ, ◌+◌, ◌^◌, ◌<◌, List, ◌++◌, length, take, Some, codes, sym, ◌∙◌, ap, arith, length-append}
use Rattle.std.proofs.lemmas.List.{take_at}
use Rattle.std.specs.Str.Parse.{digits_value}
use Rattle.disk_calls.specs.declared.file_id.FileName.{FileName}
use Rattle.disk_calls.specs.declared.file_id.FileName.TheVariants as file
use Rattle.disk_calls.specs.FileNames.{HasOffset, text_of, twenty_digits}
use Rattle.disk_calls.proofs.Digits.{length-twenty, twenty_value}

same_number : (m n : ℕ) (end : List ℕ) → m < 2 ^ 64 → n < 2 ^ 64 → twenty_digits m ++ end ≡ twenty_digits n ++ end → m ≡ n
same_number m n end mlt nlt same =
    let front : twenty_digits m ≡ twenty_digits n = sym (take_at (twenty_digits m) end 20 (length-twenty m mlt)) ∙ ap (λ (l : List ℕ). take 20 l) same ∙ take_at (twenty_digits n) end 20 (length-twenty n nlt) in
    sym (twenty_value m mlt) ∙ ap (digits_value 10) front ∙ twenty_value n nlt

other_length : (n : ℕ) (end text : List ℕ) → n < 2 ^ 64 → 20 + length end ≢ length text → twenty_digits n ++ end ≡ text → ⊥
other_length n end text lt other same = other (omega (arith, ap length same, length-append (twenty_digits n) end, length-twenty n lt))

two_ends : (m n : ℕ) (one two : List ℕ) → m < 2 ^ 64 → n < 2 ^ 64 → length one ≢ length two → twenty_digits m ++ one ≡ twenty_digits n ++ two → ⊥
two_ends m n one two mlt nlt other same = other (omega (arith, ap length same, length-append (twenty_digits m) one, length-append (twenty_digits n) two, length-twenty m mlt, length-twenty n nlt))

pub one_segment : (name : List ℕ) (first : ℕ) → first < 2 ^ 64 → name ≡ twenty_digits first ++ codes ".segment" → (f : FileName) → HasOffset f → name ≡ text_of f → Some (file.Segment first) ≡ Some f
one_segment name first lt is (file.Segment n) offset same = ap (λ (k : ℕ). Some (file.Segment k)) (same_number first n (codes ".segment") lt offset (sym is ∙ same))
one_segment name first lt is (file.Index n) offset same = absurd (two_ends first n (codes ".segment") (codes ".index") lt offset (λ e. omega (arith, e)) (sym is ∙ same))
one_segment name first lt is file.Promise offset same = absurd (other_length first (codes ".segment") (codes "promise.words") lt (λ e. omega (arith, e)) (sym is ∙ same))
one_segment name first lt is file.Epochs offset same = absurd (other_length first (codes ".segment") (codes "epochs.words") lt (λ e. omega (arith, e)) (sym is ∙ same))
one_segment name first lt is file.CatalogWords offset same = absurd (other_length first (codes ".segment") (codes "catalog.words") lt (λ e. omega (arith, e)) (sym is ∙ same))
one_segment name first lt is file.CatalogBytes offset same = absurd (other_length first (codes ".segment") (codes "catalog.bytes") lt (λ e. omega (arith, e)) (sym is ∙ same))
one_segment name first lt is file.PromiseTwo offset same = absurd (other_length first (codes ".segment") (codes "promise.words2") lt (λ e. omega (arith, e)) (sym is ∙ same))
one_segment name first lt is file.EpochsTwo offset same = absurd (other_length first (codes ".segment") (codes "epochs.words2") lt (λ e. omega (arith, e)) (sym is ∙ same))
one_segment name first lt is file.CatalogWordsTwo offset same = absurd (other_length first (codes ".segment") (codes "catalog.words2") lt (λ e. omega (arith, e)) (sym is ∙ same))

pub one_index : (name : List ℕ) (first : ℕ) → first < 2 ^ 64 → name ≡ twenty_digits first ++ codes ".index" → (f : FileName) → HasOffset f → name ≡ text_of f → Some (file.Index first) ≡ Some f
one_index name first lt is (file.Segment n) offset same = absurd (two_ends first n (codes ".index") (codes ".segment") lt offset (λ e. omega (arith, e)) (sym is ∙ same))
one_index name first lt is (file.Index n) offset same = ap (λ (k : ℕ). Some (file.Index k)) (same_number first n (codes ".index") lt offset (sym is ∙ same))
one_index name first lt is file.Promise offset same = absurd (other_length first (codes ".index") (codes "promise.words") lt (λ e. omega (arith, e)) (sym is ∙ same))
one_index name first lt is file.Epochs offset same = absurd (other_length first (codes ".index") (codes "epochs.words") lt (λ e. omega (arith, e)) (sym is ∙ same))
one_index name first lt is file.CatalogWords offset same = absurd (other_length first (codes ".index") (codes "catalog.words") lt (λ e. omega (arith, e)) (sym is ∙ same))
one_index name first lt is file.CatalogBytes offset same = absurd (other_length first (codes ".index") (codes "catalog.bytes") lt (λ e. omega (arith, e)) (sym is ∙ same))
one_index name first lt is file.PromiseTwo offset same = absurd (other_length first (codes ".index") (codes "promise.words2") lt (λ e. omega (arith, e)) (sym is ∙ same))
one_index name first lt is file.EpochsTwo offset same = absurd (other_length first (codes ".index") (codes "epochs.words2") lt (λ e. omega (arith, e)) (sym is ∙ same))
one_index name first lt is file.CatalogWordsTwo offset same = absurd (other_length first (codes ".index") (codes "catalog.words2") lt (λ e. omega (arith, e)) (sym is ∙ same))
