-- Counts of failures over several calls, and statuses by their causes.
use Rattle.std.proofs.Common.{◌≡◌, ◌⊎◌, inl, inr, ℕ, ◌<◌, ◌≤◌, List, ◌++◌, length, Bool, true, false, Option, Some, None, Result, Ok, Err, refl, sym, ap, subst, ◌∙◌, length-append, arith}
use Rattle.outside_io.specs.Known.{before_known}
use Rattle.outside_io.specs.Causes.{Rose, HasCause}
use Rattle.chunk_search.proofs.Finders.{chunk_finder}
use Rattle.osiris_audit.specs.declared.window.Fault.{Fault}
use Rattle.osiris_audit.specs.declared.window.Fault.TheVariants.{Read, Write, Memory, TooLong}
use Rattle.osiris_audit.specs.Windows.{most_bytes, IsOver}
use Rattle.osiris_audit.specs.Writing.{EitherCause, Closes}
use Rattle.osiris_audit.specs.Inspecting.{status_of, Inspects}
use Rattle.osiris_audit.specs.Indexing.{Reindexes}

-- ---- counts

rose_later : (a b c : ℕ) → Rose a b → b ≤ c → Rose a c
rose_later a b c rose le = omega (arith, rose, le)

rose_before : (a b c : ℕ) → a ≤ b → Rose b c → Rose a c
rose_before a b c le rose = omega (arith, rose, le)

either_rose : (a b c x y z : ℕ) → a ≤ b → x ≤ y → Rose b c ⊎ Rose y z → Rose a c ⊎ Rose x z
either_rose a b c x y z le lx (inl rose) = inl (rose_before a b c le rose)
either_rose a b c x y z le lx (inr rose) = inr (rose_before x y z lx rose)

-- behind calls that did not fail
pub either_after : (a b c x y z : ℕ) {P Q : Type 0} → a ≤ b → x ≤ y → EitherCause b c y z P → (Q → P) → EitherCause a c x z Q
either_after a b c x y z le lx e same = record {
  one_later = let later = e.one_later in omega (arith, le, later);
  two_later = let later = e.two_later in omega (arith, lx, later);
  failed = λ q. either_rose a b c x y z le lx (e.failed (same q));
}

-- of one file alone
pub either_one : (a b x : ℕ) {P Q : Type 0} → HasCause a b P → (Q → P) → EitherCause a b x x Q
either_one a b x h same = record { one_later = h.later; two_later = omega arith; failed = λ q. inl (h.failed (same q)) }

pub either_two : (a x y : ℕ) {P Q : Type 0} → HasCause x y P → (Q → P) → EitherCause a a x y Q
either_two a x y h same = record { one_later = omega arith; two_later = h.later; failed = λ q. inr (h.failed (same q)) }

pub either_left : (a b x y : ℕ) {P Q : Type 0} → HasCause a b P → x ≤ y → (Q → P) → EitherCause a b x y Q
either_left a b x y h le same = record { one_later = h.later; two_later = le; failed = λ q. inl (h.failed (same q)) }

pub either_right : (a b x y : ℕ) {P Q : Type 0} → a ≤ b → HasCause x y P → (Q → P) → EitherCause a b x y Q
either_right a b x y le h same = record { one_later = le; two_later = h.later; failed = λ q. inr (h.failed (same q)) }

-- where nothing failed
pub either_never : (a b x y : ℕ) {Q : Type 0} → a ≤ b → x ≤ y → (Q → ⊥) → EitherCause a b x y Q
either_never a b x y le lx never = record { one_later = le; two_later = lx; failed = λ q. absurd (never q) }

pub cause_after : (a b c : ℕ) {P Q : Type 0} → a ≤ b → HasCause b c P → (Q → P) → HasCause a c Q
cause_after a b c le h same = record { later = let later = h.later in omega (arith, le, later); failed = λ q. rose_before a b c le (h.failed (same q)) }

pub cause_never : (a b : ℕ) {Q : Type 0} → a ≤ b → (Q → ⊥) → HasCause a b Q
cause_never a b le never = record { later = le; failed = λ q. absurd (never q) }

-- no read fails by a write
pub over_no_write : (fault : Fault) (size : ℕ) → IsOver fault size → fault ≡ Write → ⊥
over_no_write fault size over is = subst (λ (f : Fault). IsOver f size) is over

-- and no last line by a read
pub closes_no_read : (good : Bool) (line : List ℕ) (outcome : Result Bool Fault) (w w' : Option (List ℕ)) → Closes good line outcome w w' → outcome ≡ Err Read → ⊥
closes_no_read good line outcome w w' closes is = subst (λ (o : Result Bool Fault). Closes good line o w w') is closes

-- ---- statuses

read_status : (outcome : Result Bool Fault) → status_of outcome ≡ 4 → outcome ≡ Err Read
read_status (Ok true) e = absurd (omega arith)
read_status (Ok false) e = absurd (omega arith)
read_status (Err Read) e = refl
read_status (Err Write) e = absurd (omega arith)
read_status (Err Memory) e = absurd (omega arith)
read_status (Err TooLong) e = absurd (omega arith)

write_status : (outcome : Result Bool Fault) → status_of outcome ≡ 5 → outcome ≡ Err Write
write_status (Ok true) e = absurd (omega arith)
write_status (Ok false) e = absurd (omega arith)
write_status (Err Read) e = absurd (omega arith)
write_status (Err Write) e = refl
write_status (Err Memory) e = absurd (omega arith)
write_status (Err TooLong) e = absurd (omega arith)

pub either_read : (outcome : Result Bool Fault) (status a b x y : ℕ) → status ≡ status_of outcome → EitherCause a b x y (outcome ≡ Err Read) → status ≡ 4 → Rose a b ⊎ Rose x y
either_read outcome status a b x y is e four = e.failed (read_status outcome (sym is ∙ four))

pub read_cause : (outcome : Result Bool Fault) (status a b : ℕ) → status ≡ status_of outcome → HasCause a b (outcome ≡ Err Read) → status ≡ 4 → Rose a b
read_cause outcome status a b is h four = h.failed (read_status outcome (sym is ∙ four))

pub write_cause : (outcome : Result Bool Fault) (status a b : ℕ) → status ≡ status_of outcome → HasCause a b (outcome ≡ Err Write) → status ≡ 5 → Rose a b
write_cause outcome status a b is h five = h.failed (write_status outcome (sym is ∙ five))

-- ---- where nothing fails

-- what was taken of told bytes is no longer than these
taken_short : (bytes taken : List ℕ) (left : Option (List ℕ)) → Some bytes ≡ before_known taken left → length taken ≤ length bytes
taken_short bytes taken None took = absurd (cc took)
taken_short bytes taken (Some rest) took = let is : bytes ≡ taken ++ rest = cc took in omega (arith, ap length is, length-append taken rest)

within : (bytes taken : List ℕ) (before left : Option (List ℕ)) → before ≡ Some bytes → before ≡ before_known taken left → length bytes ≤ most_bytes → length taken ≤ most_bytes
within bytes taken before left told took short = omega (arith, taken_short bytes taken left (sym told ∙ took), short)

neither_over : (m n : ℕ) → m ≤ most_bytes → n ≤ most_bytes → (most_bytes < m) ⊎ (most_bytes < n) → ⊥
neither_over m n short index_short (inl over) = omega (arith, short, over)
neither_over m n short index_short (inr over) = omega (arith, index_short, over)

pub inspect_complete : (outcome : Result Bool Fault) (status : ℕ) (s0 s i0 i w0 w : Option (List ℕ)) (a b x y k l : ℕ) → status ≡ status_of outcome → Inspects outcome s0 s i0 i w0 w → EitherCause a b x y (outcome ≡ Err Read) → HasCause k l (outcome ≡ Err Write)
    → (seg idx : List ℕ) → s0 ≡ Some seg → i0 ≡ Some idx → length seg ≤ most_bytes → length idx ≤ most_bytes → (Rose a b → ⊥) → (Rose x y → ⊥) → (Rose k l → ⊥) → (status ≡ 0) ⊎ ((status ≡ 3) ⊎ (status ≡ 6))
inspect_complete (Ok true) status s0 s i0 i w0 w a b x y k l is r e h seg idx told index_told short index_short no_one no_two no_write = inl is
inspect_complete (Ok false) status s0 s i0 i w0 w a b x y k l is r e h seg idx told index_told short index_short no_one no_two no_write = inr (inl is)
inspect_complete (Err Read) status s0 s i0 i w0 w a b x y k l is r e h seg idx told index_told short index_short no_one no_two no_write = elim (e.failed refl) [ inl rose ↦ absurd (no_one rose) | inr rose ↦ absurd (no_two rose) ]
inspect_complete (Err Write) status s0 s i0 i w0 w a b x y k l is r e h seg idx told index_told short index_short no_one no_two no_write = absurd (no_write (h.failed refl))
inspect_complete (Err Memory) status s0 s i0 i w0 w a b x y k l is r e h seg idx told index_told short index_short no_one no_two no_write = inr (inr is)
inspect_complete (Err TooLong) status s0 s i0 i w0 w a b x y k l is r e h seg idx told index_told short index_short no_one no_two no_write =
    absurd (neither_over (length r.segment) (length r.index) (within seg r.segment s0 s told r.took_segment short) (within idx r.index i0 i index_told r.took_index index_short) (r.tells chunk_finder).0)

pub reindex_complete : (outcome : Result Bool Fault) (status : ℕ) (s0 s w0 w : Option (List ℕ)) (a b k l : ℕ) → status ≡ status_of outcome → Reindexes outcome s0 s w0 w → HasCause a b (outcome ≡ Err Read) → HasCause k l (outcome ≡ Err Write)
    → (seg : List ℕ) → s0 ≡ Some seg → length seg ≤ most_bytes → (Rose a b → ⊥) → (Rose k l → ⊥) → (status ≡ 0) ⊎ ((status ≡ 3) ⊎ (status ≡ 6))
reindex_complete (Ok true) status s0 s w0 w a b k l is r e h seg told short no_read no_write = inl is
reindex_complete (Ok false) status s0 s w0 w a b k l is r e h seg told short no_read no_write = inr (inl is)
reindex_complete (Err Read) status s0 s w0 w a b k l is r e h seg told short no_read no_write = absurd (no_read (e.failed refl))
reindex_complete (Err Write) status s0 s w0 w a b k l is r e h seg told short no_read no_write = absurd (no_write (h.failed refl))
reindex_complete (Err Memory) status s0 s w0 w a b k l is r e h seg told short no_read no_write = inr (inr is)
reindex_complete (Err TooLong) status s0 s w0 w a b k l is r e h seg told short no_read no_write =
    let over : most_bytes < length r.segment = (r.makes chunk_finder).0 in absurd (omega (arith, over, within seg r.segment s0 s told r.took short))
