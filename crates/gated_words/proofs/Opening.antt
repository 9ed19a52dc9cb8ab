-- What is found when files are opened, and what a crash leaves of them then.
use Rattle.std.proofs.Common.{◌≡◌, ◌≢◌, ◌⊎◌, inl, inr, ℕ, ◌+◌, ◌*◌, ◌≤◌, ◌<◌, false, List, [], ◌∷◌, ◌++◌, length, take, drop, Some, None, refl, sym, ◌∙◌, ap, subst, arith, append_assoc, length-append, take-append-drop}
use Rattle.std.proofs.lemmas.List.{append-nil, drop_at, take_all}
use Rattle.std.proofs.lemmas.Bool.{ne_eqb}
use Rattle.disk_calls.specs.declared.file_id.FileId.{FileId}
use Rattle.disk_calls.specs.Disk.{DiskState, Image, bytes_of, Settled, Looks, Elsewhere, Only}
use Rattle.gated_words.specs.declared.record.Form.{Form}
use Rattle.gated_words.specs.declared.record.Form.TheVariants as form
use Rattle.gated_words.specs.Words.{header, width, gate, words, xor_of, spelled, is_record, pairs_in, end_of, AllFit, HasGate, GivenUp, NoneLeaves, OpensAs, DamagesAs}
use Rattle.gated_words.specs.Files.{Files, HasSecond, Leaves, Opens, PairsOf, counting, form_of, seen_files, second_file}
use Rattle.gated_words.specs.Backing.{EachBoth, KeepsPairs, SamePairs}
use Rattle.gated_words.specs.Looking.{Found, HasPairs, HasRead, Moves, Reads}
use Rattle.gated_words.proofs.Apart.{apart}
use Rattle.gated_words.proofs.Spelling.{length-spelled}
use Rattle.gated_words.proofs.Reading.{behind_stop, no_pairs, pairs_in-whole, spelled_front, nothing_given_up, short_has, whole_has}

spelled_none : (f : Form) → spelled f [] ≡ header f
unfolding spelled
spelled_none f = append-nil (header f)

-- few bytes are read as no pairs
pub reads_short : (f : Form) (bytes : List ℕ) (pairs : List (ℕ × ℕ)) → length bytes ≤ 8 → pairs ≡ [] → Reads f bytes pairs
reads_short f bytes pairs short none = record {
  opens = inl short;
  are = no_pairs f bytes short ∙ sym none;
  fit = subst AllFit (sym none) tt;
  splits = λ front. record {
    rest = [];
    split = sym (take_all 8 bytes short) ∙ front ∙ sym (spelled_none f) ∙ ap (λ (l : List (ℕ × ℕ)). spelled f l) (sym none) ∙ sym (append-nil (spelled f pairs));
    given_up = nothing_given_up f;
  };
}

-- the bytes of a file with a header are its pairs and the rest
read_split : (f : Form) (bytes : List ℕ) (pairs : List (ℕ × ℕ)) (r : HasRead f bytes pairs) → take 8 bytes ≡ header f → bytes ≡ spelled f pairs ++ r.rest
unfolding spelled
read_split f bytes pairs r front = sym (take-append-drop 8 bytes) ∙ (λ i. front i ++ r.split i) ∙ simp append_assoc

-- where the records end, the rest begins
pub read_end : (f : Form) (bytes : List ℕ) (pairs : List (ℕ × ℕ)) (r : HasRead f bytes pairs) → take 8 bytes ≡ header f → drop (8 + width f * length pairs) bytes ≡ r.rest
read_end f bytes pairs r front = ap (λ (l : List ℕ). drop (8 + width f * length pairs) l) (read_split f bytes pairs r front) ∙ drop_at (spelled f pairs) r.rest (8 + width f * length pairs) (omega (arith, length-spelled f pairs))

pub read_within : (f : Form) (bytes : List ℕ) (pairs : List (ℕ × ℕ)) → HasRead f bytes pairs → take 8 bytes ≡ header f → 8 + width f * length pairs ≤ length bytes
read_within f bytes pairs r front = omega (arith, ap length (read_split f bytes pairs r front), length-append (spelled f pairs) r.rest, length-spelled f pairs)

behind_end : (f : Form) (bytes : List ℕ) (pairs : List (ℕ × ℕ)) → pairs_in f bytes ≡ pairs → drop (8 + width f * length pairs) bytes ≡ drop (end_of f bytes) bytes
behind_end f bytes pairs are = ap (λ (l : List (ℕ × ℕ)). drop (8 + width f * length l) bytes) (sym are)

pub end_at : (f : Form) (pairs : List (ℕ × ℕ)) (w n : ℕ) → w ≡ width f → n ≡ length pairs → 8 + w * n ≡ 8 + width f * length pairs
end_at f pairs w n wide count = λ i. 8 + wide i * count i

-- what is given up behind the pairs that were read
pub reads_whole : (f : Form) (bytes : List ℕ) (pairs : List (ℕ × ℕ)) → HasRead f bytes pairs → take 8 bytes ≡ header f → GivenUp f (drop (8 + width f * length pairs) bytes) → Reads f bytes pairs
reads_whole f bytes pairs r front gives = record {
  opens = inr (front, subst (GivenUp f) (behind_end f bytes pairs r.are) gives);
  are = r.are;
  fit = r.fit;
  splits = λ same. record { rest = r.rest; split = read_split f bytes pairs r front; given_up = subst (GivenUp f) (read_end f bytes pairs r front) gives };
}

-- or is not given up
pub reads_damage : (f : Form) (bytes : List ℕ) (pairs : List (ℕ × ℕ)) (place : ℕ) → 8 < length bytes → HasRead f bytes pairs → take 8 bytes ≡ header f → NoneLeaves f (drop (8 + width f * length pairs) bytes) → place ≡ 8 + width f * length pairs → DamagesAs f place bytes
reads_damage f bytes pairs place long r front wrong at = (long, inr (front, subst (NoneLeaves f) (behind_end f bytes pairs r.are) wrong, at ∙ ap (λ (l : List (ℕ × ℕ)). 8 + width f * length l) (sym r.are)))

-- a file that can be opened is not damaged
pub opens_undamaged : (f : Form) (place : ℕ) (bytes : List ℕ) → OpensAs f bytes → DamagesAs f place bytes → ⊥
opens_undamaged f place bytes (inl short) (long, why) = omega arith
opens_undamaged f place bytes (inr (front, gives)) (long, inl (other, at)) = other front
opens_undamaged f place bytes (inr (front, gives)) (long, inr (same, inl far, at)) = omega (arith, gives.0)
opens_undamaged f place bytes (inr (front, gives)) (long, inr (same, inr gated, at)) = elim gives.1 [
  | inl short ↦ omega (arith, gated.0)
  | inr shut_gate ↦ shut_gate gated.1
]

-- a file of the second form without a header has no pairs
pub no_header : (bytes : List ℕ) (pairs : List (ℕ × ℕ)) → Reads form.Second bytes pairs → (take 8 bytes ≡ header form.Second → ⊥) → pairs ≡ []
no_header bytes pairs reads other = elim reads.opens as (λ _. pairs ≡ []) [
  | inl short ↦ sym reads.are ∙ no_pairs form.Second bytes short
  | inr whole ↦ absurd (other whole.0)
]

-- what is left while such a file is made anew
pub made_has : (bytes : List ℕ) (pairs : List (ℕ × ℕ)) (c : Image) → Reads form.Second bytes pairs → (take 8 bytes ≡ header form.Second → ⊥) → length (bytes_of c) ≤ 8 → HasPairs form.Second pairs (bytes_of c)
made_has bytes pairs c reads other short = subst (λ (l : List (ℕ × ℕ)). HasPairs form.Second l (bytes_of c)) (sym (no_header bytes pairs reads other)) (short_has form.Second (bytes_of c) short)

pub made_spelled : (bytes : List ℕ) (pairs : List (ℕ × ℕ)) → Reads form.Second bytes pairs → (take 8 bytes ≡ header form.Second → ⊥) → header form.Second ≡ spelled form.Second pairs
made_spelled bytes pairs reads other = sym (spelled_none form.Second) ∙ ap (λ (l : List (ℕ × ℕ)). spelled form.Second l) (sym (no_header bytes pairs reads other))

-- a file with a header was there
pub found_there : (id : FileId) (bytes : List ℕ) (s : DiskState) → Found id bytes s → take 8 bytes ≡ header form.Second → Settled id bytes s
found_there id bytes s (inr settled) front = settled
found_there id bytes s (inl (missing, none)) front = absurd (omega (arith, ap length (ap (λ (l : List ℕ). take 8 l) (sym none) ∙ front)))

-- what a read gives of both files is one of the images
pub seen_leaves : (id : FileId) (s : DiskState) → ((f : FileId) → s.images f (s.seen f)) → Leaves id s (seen_files id s)
seen_leaves id s seen = record { first = seen id; second = seen (second_file id) }

-- the file that counts, and its pairs
pub record Has (pairs : List (ℕ × ℕ)) (files : Files) : Type 0 where
  pub opens : Opens files
  pub are : PairsOf files ≡ pairs

pub first_has : (files : Files) (pairs : List (ℕ × ℕ)) (bytes : List ℕ) → files.first ≡ Some bytes → HasPairs form.First pairs bytes → Has pairs files
first_has files pairs bytes is has =
    let P : Image → Type 0 = λ c. OpensAs (form_of c) (counting c files.second) × (pairs_in (form_of c) (counting c files.second) ≡ pairs) in
    let both : P files.first = subst P (sym is) (has.opens, has.are) in
    record { opens = both.0; are = both.1 }

pub second_has : (files : Files) (pairs : List (ℕ × ℕ)) → files.first ≡ None → HasPairs form.Second pairs (bytes_of files.second) → Has pairs files
second_has files pairs is has =
    let P : Image → Type 0 = λ c. OpensAs (form_of c) (counting c files.second) × (pairs_in (form_of c) (counting c files.second) ≡ pairs) in
    let both : P files.first = subst P (sym is) (has.opens, has.are) in
    record { opens = both.0; are = both.1 }

has_same : (old new : Files) (pairs : List (ℕ × ℕ)) → PairsOf old ≡ pairs → Has pairs new → SamePairs old new
has_same old new pairs is has = record { pairs = has.are ∙ sym is; opens = λ opens. has.opens }

-- while the pairs of the first file go into the second
pub moves_has : (one : List ℕ) (pairs : List (ℕ × ℕ)) (files : Files) → Reads form.First one pairs → Moves one (spelled form.Second pairs) files → Has pairs files
moves_has one pairs files reads (inl first) = first_has files pairs one first (record { opens = reads.opens; are = reads.are })
moves_has one pairs files reads (inr (gone, second)) = second_has files pairs gone (subst (λ (c : Image). HasPairs form.Second pairs (bytes_of c)) (sym second) (whole_has form.Second pairs reads.fit))

pub moves_keep : (id : FileId) (s t : DiskState) (one two : List ℕ) (pairs : List (ℕ × ℕ)) → Leaves id s (seen_files id s) → Settled id one s → Reads form.First one pairs → two ≡ spelled form.Second pairs → EachBoth id (Moves one two) t → KeepsPairs id s t
moves_keep id s t one two pairs seen settled reads spelt each files left =
    let before = first_has (seen_files id s) pairs one settled.seen (record { opens = reads.opens; are = reads.are }) in
    let moved : Moves one (spelled form.Second pairs) files = subst (λ (l : List ℕ). Moves one l files) spelt (each files left) in
    (seen_files id s, seen, has_same (seen_files id s) files pairs before.are (moves_has one pairs files reads moved))

found_has : (id : FileId) (s n : DiskState) (bytes : List ℕ) → Looks s n → Found id bytes n → bytes ≡ bytes_of (s.seen id)
found_has id s n bytes looks (inl (missing, none)) = none ∙ ap bytes_of (sym missing ∙ looks.seen id)
found_has id s n bytes looks (inr settled) = ap bytes_of (sym settled.seen ∙ looks.seen id)

gone_same : (files : Files) → files.first ≡ None → SamePairs (record { first = None; second = files.second }) files
gone_same files is =
    let P : Image → Type 0 = λ c. SamePairs (record { first = None; second = files.second }) (record { first = c; second = files.second }) in
    subst P (sym is) (record { pairs = refl; opens = λ opens. opens })

-- while the second file is made or cut, the first is gone
pub tidy_keeps : (id : FileId) (s n t : DiskState) (bytes : List ℕ) (pairs : List (ℕ × ℕ)) → HasSecond id → Leaves id s (seen_files id s) → s.seen id ≡ None → Looks s n → Only None (n.images id) → Found (second_file id) bytes n → Reads form.Second bytes pairs → Elsewhere (second_file id) n t
    → ((c : Image) → t.images (second_file id) c → n.images (second_file id) c ⊎ HasPairs form.Second pairs (bytes_of c)) → KeepsPairs id s t
tidy_keeps id s n t bytes pairs second seen missing looks gone found reads others each files left = elim (each files.second left.second) [
  | inl old ↦ (record { first = None; second = files.second }, record { first = still; second = looks.images (second_file id) files.second old }, gone_same files none)
  | inr has ↦ (seen_files id s, seen, has_same (seen_files id s) files pairs before.are (second_has files pairs none has))
]
  where
    none : files.first ≡ None
    none = gone files.first (others.images id (apart id second) files.first left.first)

    still : s.images id None
    still = subst (λ (c : Image). s.images id c) missing seen.first

    before : Has pairs (seen_files id s)
    before = second_has (seen_files id s) pairs missing (subst (HasPairs form.Second pairs) (found_has (second_file id) s n bytes looks found) (record { opens = reads.opens; are = reads.are }))

-- the same, as the code names it
pub tidy_leaves : (id two : FileId) (s n t : DiskState) (bytes lent : List ℕ) (pairs given : List (ℕ × ℕ)) → two ≡ second_file id → lent ≡ bytes → given ≡ pairs → HasSecond id → Leaves id s (seen_files id s) → s.seen id ≡ None → Looks s n → Only None (n.images id) → Found (second_file id) bytes n → Reads form.Second lent pairs → Elsewhere two n t
    → ((c : Image) → t.images two c → n.images two c ⊎ HasPairs form.Second given (bytes_of c)) → KeepsPairs id s t
tidy_leaves id two s n t bytes lent pairs given is same are second seen missing looks gone found reads others each =
    let P : FileId → Type 0 = λ f. Elsewhere f n t → ((c : Image) → t.images f c → n.images f c ⊎ HasPairs form.Second given (bytes_of c)) → KeepsPairs id s t in
    let reads_these : Reads form.Second bytes given = subst (Reads form.Second bytes) (sym are) (subst (λ (l : List ℕ). Reads form.Second l pairs) same reads) in
    subst P (sym is) (λ others_stay each_is. tidy_keeps id s n t bytes given second seen missing looks gone found reads_these others_stay each_is) others each

other_check : (pair : ℕ × ℕ) (x : ℕ) (rest : List ℕ) → x ≢ xor_of (words pair) → is_record form.Second (words pair ++ x ∷ gate ∷ rest) ≡ false
unfolding words
other_check pair x rest other = ne_eqb x (xor_of (words pair)) other

gate_there : (pair : ℕ × ℕ) (x : ℕ) (rest : List ℕ) → HasGate form.Second (words pair ++ x ∷ gate ∷ rest)
unfolding words
gate_there pair x rest = (omega arith, refl)

-- a record with the gate and another xor is damage at its place
pub xor_damages : (pairs : List (ℕ × ℕ)) (pair : ℕ × ℕ) (x : ℕ) (rest : List ℕ) → AllFit pairs → x ≢ xor_of (words pair) → DamagesAs form.Second (8 + 18 * length pairs) (spelled form.Second pairs ++ (words pair ++ x ∷ gate ∷ rest))
xor_damages pairs pair x rest fit other =
    let behind = words pair ++ x ∷ gate ∷ rest in
    let bytes = spelled form.Second pairs ++ behind in
    let are : pairs_in form.Second bytes ≡ pairs = pairs_in-whole form.Second pairs behind fit (behind_stop form.Second behind (other_check pair x rest other)) in
    let place : 8 + 18 * length pairs ≡ end_of form.Second bytes = ap (λ (l : List (ℕ × ℕ)). 8 + 18 * length l) (sym are) in
    let stands : drop (end_of form.Second bytes) bytes ≡ behind = ap (λ (n : ℕ). drop n bytes) (sym place) ∙ drop_at (spelled form.Second pairs) behind (8 + 18 * length pairs) (omega (arith, length-spelled form.Second pairs)) in
    let gated = gate_there pair x rest in
    (omega (arith, gated.0, length-append (spelled form.Second pairs) behind, length-spelled form.Second pairs), inr (spelled_front form.Second pairs behind, inr (subst (HasGate form.Second) (sym stands) gated), place))
