-- Messages by their numbers.
use Rattle.std.proofs.Common.{◌≡◌, ◌≤◌, ◌<◌, ◌+◌, ℕ, zero, suc, Bool, true, false, cond, List, [], ◌∷◌, ◌++◌, length, Some, None, position, remove, slice_set, slice_index_or, nat_lt, refl, sym, ap, ◌∙◌, arith}
use Rattle.std.specs.List.{position_or_len}
use Rattle.std.proofs.lemmas.Grind.{common_steps}
use Rattle.epoch_coordinator.specs.declared.message.Sent.{Sent}
use Rattle.replication_laws.specs.Cluster.{Letter, letter_in, marked, without, numbered, last_number}
use Rattle.cluster_core.specs.declared.mail.Numbered.{Numbered}
use Rattle.cluster_core.specs.Parts.{letter_of, lettered, has_number, delivered_at}

pub there : {A : Type 0} (p : A → Bool) (xs : List A) (i : ℕ) → position p xs ≡ Some i → (position_or_len p xs ≡ i) × (i < length xs)
there p xs i h = (grind arith, grind arith)

pub nowhere : {A : Type 0} (p : A → Bool) (xs : List A) → position p xs ≡ None → length xs ≤ position_or_len p xs
nowhere p xs h = grind arith

letter_by : (number : ℕ) (mail : List Numbered) (n : Numbered) → position_or_len (has_number number) mail < length mail
    → n ≡ slice_index_or mail (position_or_len (has_number number) mail) n → letter_in number (lettered mail) ≡ Some n.sent
letter_by number [] n lt is = absurd (omega arith)
letter_by number (x ∷ mail) n lt is = grind (arith, common_steps, letter_by number mail n)

-- the message at its place
pub letter_at : (number : ℕ) (mail : List Numbered) (i : ℕ) (n : Numbered) → position (has_number number) mail ≡ Some i → n ≡ slice_index_or mail i n → letter_in number (lettered mail) ≡ Some n.sent
letter_at number mail i n at is = let t = there _ mail i at in grind (arith, t.0, t.1, is, letter_by number mail n)

letter_none_by : (number : ℕ) (mail : List Numbered) → length mail ≤ position_or_len (has_number number) mail → letter_in number (lettered mail) ≡ None
letter_none_by number [] le = refl
letter_none_by number (x ∷ mail) le = grind (arith, common_steps, letter_none_by number mail)

pub letter_none : (number : ℕ) (mail : List Numbered) → position (has_number number) mail ≡ None → letter_in number (lettered mail) ≡ None
letter_none number mail at = letter_none_by number mail (nowhere _ mail at)

marked_by : (number : ℕ) (mail : List Numbered) → position_or_len (has_number number) mail < length mail → lettered (delivered_at (position_or_len (has_number number) mail) mail) ≡ marked number (lettered mail)
marked_by number [] lt = absurd (omega arith)
marked_by number (x ∷ mail) lt = grind (arith, common_steps, marked_by number mail)

pub marked_at : (number : ℕ) (mail : List Numbered) (i : ℕ) → position (has_number number) mail ≡ Some i → lettered (delivered_at i mail) ≡ marked number (lettered mail)
marked_at number mail i at = let t = there _ mail i at in grind (arith, t.0, t.1, marked_by number mail)

at_here : {A : Type 0} (p : A → Bool) (x : A) (xs : List A) → p x ≡ true → position_or_len p (x ∷ xs) ≡ 0
at_here p x xs h = grind (arith, common_steps)

at_there : {A : Type 0} (p : A → Bool) (x : A) (xs : List A) → p x ≡ false → position_or_len p (x ∷ xs) ≡ suc (position_or_len p xs)
at_there p x xs h = grind (arith, common_steps)

without_by : (number : ℕ) (mail : List Numbered) → position_or_len (has_number number) mail < length mail → lettered (remove mail (position_or_len (has_number number) mail)) ≡ without number (lettered mail)
without_by number [] lt = absurd (omega arith)
without_by number (x ∷ mail) lt = by (has_number number x) refl (λ h. without_by number mail h)
  where
    by : (b : Bool) → has_number number x ≡ b → (position_or_len (has_number number) mail < length mail → lettered (remove mail (position_or_len (has_number number) mail)) ≡ without number (lettered mail))
        → lettered (remove (x ∷ mail) (position_or_len (has_number number) (x ∷ mail))) ≡ without number (lettered (x ∷ mail))
    by true is rest =
        ap (λ (i : ℕ). lettered (remove (x ∷ mail) i)) (at_here (has_number number) x mail is)
        ∙ sym (ap (λ (b : Bool). cond {A = List Letter} b (lettered mail) (letter_of x ∷ without number (lettered mail))) is)
    by false is rest =
        let at = at_there (has_number number) x mail is in
        ap (λ (i : ℕ). lettered (remove (x ∷ mail) i)) at
        ∙ ap (λ (l : List Letter). letter_of x ∷ l) (rest (omega (arith, at, lt)))
        ∙ sym (ap (λ (b : Bool). cond {A = List Letter} b (lettered mail) (letter_of x ∷ without number (lettered mail))) is)

pub without_at : (number : ℕ) (mail : List Numbered) (i : ℕ) → position (has_number number) mail ≡ Some i → lettered (remove mail i) ≡ without number (lettered mail)
without_at number mail i at = let t = there _ mail i at in grind (arith, t.0, t.1, without_by number mail)

pub set_delivered : (mail : List Numbered) (i : ℕ) (n : Numbered) → i < length mail → n ≡ slice_index_or mail i n → slice_set mail i (record n { delivered = true }) ≡ delivered_at i mail
set_delivered [] i n lt is = absurd (omega arith)
set_delivered (x ∷ mail) zero n lt is = grind (arith, common_steps)
set_delivered (x ∷ mail) (suc i) n lt is = grind (arith, common_steps, set_delivered mail i n)

-- past the greatest number all is lost
all_lost : (last : ℕ) (b : List Sent) → nat_lt last last_number ≡ false → numbered last b ≡ []
all_lost last [] h = refl
all_lost last (s ∷ b) h = ap (λ (x : Bool). cond {A = List Letter} x (record { number = last + 1; delivered = false; sent = s } ∷ numbered (last + 1) b) []) h

-- messages are numbered on behind others
pub numbered_on : (last : ℕ) (a b : List Sent) → numbered last (a ++ b) ≡ numbered last a ++ numbered (last + length (numbered last a)) b
numbered_on last [] b = let n : last ≡ last + 0 = omega arith in ap (λ (k : ℕ). numbered k b) n
numbered_on last (s ∷ a) b = by (nat_lt last last_number) refl (numbered_on (last + 1) a b)
  where
    by : (x : Bool) → nat_lt last last_number ≡ x → numbered (last + 1) (a ++ b) ≡ numbered (last + 1) a ++ numbered (last + 1 + length (numbered (last + 1) a)) b
        → numbered last (s ∷ (a ++ b)) ≡ numbered last (s ∷ a) ++ numbered (last + length (numbered last (s ∷ a))) b
    by true is rest =
        let one : Letter = record { number = last + 1; delivered = false; sent = s } in
        let here : numbered last (s ∷ a) ≡ one ∷ numbered (last + 1) a = ap (λ (x : Bool). cond {A = List Letter} x (one ∷ numbered (last + 1) a) []) is in
        let whole : numbered last (s ∷ (a ++ b)) ≡ one ∷ numbered (last + 1) (a ++ b) = ap (λ (x : Bool). cond {A = List Letter} x (one ∷ numbered (last + 1) (a ++ b)) []) is in
        let count : last + 1 + length (numbered (last + 1) a) ≡ last + length (numbered last (s ∷ a)) = (let n = ap length here in omega (arith, n)) in
        whole
        ∙ ap (λ (l : List Letter). one ∷ l) rest
        ∙ ap (λ (n : ℕ). one ∷ (numbered (last + 1) a ++ numbered n b)) count
        ∙ sym (ap (λ (l : List Letter). l ++ numbered (last + length (numbered last (s ∷ a))) b) here)
    by false is rest =
        let none = all_lost last (s ∷ a) is in
        let count : last + length (numbered last (s ∷ a)) ≡ last = (let n = ap length none in omega (arith, n)) in
        all_lost last (s ∷ (a ++ b)) is
        ∙ sym (ap (λ (l : List Letter). l ++ numbered (last + length (numbered last (s ∷ a))) b) none ∙ ap (λ (n : ℕ). numbered n b) count ∙ all_lost last b is)

pub lettered-append : (a b : List Numbered) → lettered (a ++ b) ≡ lettered a ++ lettered b
lettered-append [] b = refl
lettered-append (x ∷ a) b = ap (λ m. letter_of x ∷ m) (lettered-append a b)

-- ---- places

pub placed : {A : Type 0} (p : A → Bool) (xs : List A) (i : ℕ) → position p xs ≡ Some i → i ≡ position_or_len p xs
placed p xs i h = sym (there p xs i h).0

within : {A : Type 0} (p : A → Bool) (xs : List A) → position_or_len p xs ≤ length xs
within p [] = omega arith
within p (x ∷ xs) = grind (arith, common_steps, within p xs)

pub not_placed : {A : Type 0} (p : A → Bool) (xs : List A) → position p xs ≡ None → length xs ≡ position_or_len p xs
not_placed p xs h = let low = nowhere p xs h in let high = within p xs in omega (arith, low, high)
