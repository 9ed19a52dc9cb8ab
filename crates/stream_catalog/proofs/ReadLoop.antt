-- One pair after the other.
use Rattle.std.proofs.Common.{◌≡◌, ℕ, ◌+◌, ◌<◌, ◌≤◌, ◌⊎◌, inl, inr, Bool, true, false, cond, filter, List, [], ◌∷◌, ◌++◌, length, drop, get_or, Option, Some, None, Ok, Err, refl, sym, ap, ◌∙◌}
use Rattle.std.proofs.lemmas.List.{drop_more, drop_all, append-nil}
use Rattle.std.specs.List.{AllByRecursion}
use Rattle.frame_wire.specs.Joins.{◌>>=◌}
use Rattle.stream_catalog.specs.Names.{Names, routed, is_key}
use Rattle.stream_catalog.specs.Files.{names_after, one_more, or_damaged}

abbrev pub Spans : Type 0
Spans = List (ℕ × ℕ)

pub span_at : (pairs : Spans) (index : ℕ) (pair : ℕ × ℕ) → index < length pairs → pair ≡ get_or pairs index pair → drop index pairs ≡ pair ∷ drop (index + 1) pairs
span_at pairs index pair lt at = drop_more pairs index pair lt ∙ ap (λ (p : ℕ × ℕ). p ∷ drop (index + 1) pairs) (sym at)

pub next_pair : (bytes : List ℕ) (place : ℕ) (pairs : Spans) (index : ℕ) (pair : ℕ × ℕ) (names more : Names) → drop index pairs ≡ pair ∷ drop (index + 1) pairs → one_more bytes pair names ≡ Some more
    → names_after bytes place (drop index pairs) names ≡ names_after bytes (place + 18) (drop (index + 1) pairs) more
next_pair bytes place pairs index pair names more at took =
    let rest = drop (index + 1) pairs in
    ap (λ (l : Spans). names_after bytes place l names) at ∙ ap (λ (o : Option Names). or_damaged place o >>= λ n. names_after bytes (place + 18) rest n) took

pub bad_pair : (bytes : List ℕ) (place : ℕ) (pairs : Spans) (index : ℕ) (pair : ℕ × ℕ) (names : Names) → drop index pairs ≡ pair ∷ drop (index + 1) pairs → one_more bytes pair names ≡ None
    → names_after bytes place (drop index pairs) names ≡ Err place
bad_pair bytes place pairs index pair names at none =
    let rest = drop (index + 1) pairs in
    ap (λ (l : Spans). names_after bytes place l names) at ∙ ap (λ (o : Option Names). or_damaged place o >>= λ n. names_after bytes (place + 18) rest n) none

pub no_pair : (bytes : List ℕ) (place : ℕ) (pairs : Spans) (index : ℕ) (names : Names) → length pairs ≤ index → names_after bytes place (drop index pairs) names ≡ Ok names
no_pair bytes place pairs index names end = ap (λ (l : Spans). names_after bytes place l names) (drop_all index pairs end)

-- ---- routes

abbrev pub Texts : Type 0
Texts = List (Option (List ℕ))

routed_nothing : (key : List ℕ) (parts : Texts) → routed key parts [] ≡ []
routed_nothing key [] = refl
routed_nothing key (p ∷ ps) = refl

pub route_end : (key : List ℕ) (parts keys row : Texts) (index : ℕ) (all : Texts) → (length parts ≤ index) ⊎ (length keys ≤ index) → row ++ routed key (drop index parts) (drop index keys) ≡ all → row ≡ all
route_end key parts keys row index all (inl end) is =
    sym (append-nil row) ∙ ap (λ (l : Texts). row ++ routed key l (drop index keys)) (sym (drop_all index parts end)) ∙ is
route_end key parts keys row index all (inr end) is =
    sym (append-nil row) ∙ ap (λ (l : Texts). row ++ l) (sym (routed_nothing key (drop index parts))) ∙ ap (λ (l : Texts). row ++ routed key (drop index parts) l) (sym (drop_all index keys end)) ∙ is

route_one : (b : Bool) (row : Texts) (part : Option (List ℕ)) (rest : Texts) → (row ++ cond b (part ∷ []) []) ++ rest ≡ row ++ cond b (part ∷ rest) rest
route_one true [] part rest = refl
route_one false [] part rest = refl
route_one b (r ∷ row) part rest = ap (λ (l : Texts). r ∷ l) (route_one b row part rest)

pub text_at : (texts : Texts) (index : ℕ) (text : Option (List ℕ)) → index < length texts → text ≡ get_or texts index text → drop index texts ≡ text ∷ drop (index + 1) texts
text_at texts index text lt at = drop_more texts index text lt ∙ ap (λ (t : Option (List ℕ)). t ∷ drop (index + 1) texts) (sym at)

pub route_next : (key : List ℕ) (parts keys row new : Texts) (index : ℕ) (part bound : Option (List ℕ)) (all : Texts) → drop index parts ≡ part ∷ drop (index + 1) parts → drop index keys ≡ bound ∷ drop (index + 1) keys
    → new ≡ row ++ cond (is_key key bound) (part ∷ []) [] → row ++ routed key (drop index parts) (drop index keys) ≡ all → new ++ routed key (drop (index + 1) parts) (drop (index + 1) keys) ≡ all
route_next key parts keys row new index part bound all at_part at_key more is =
    let ps = drop (index + 1) parts in
    let ks = drop (index + 1) keys in
    ap (λ (l : Texts). l ++ routed key ps ks) more ∙ route_one (is_key key bound) row part (routed key ps ks)
    ∙ ap (λ (l : Texts). row ++ routed key l (bound ∷ ks)) (sym at_part) ∙ ap (λ (l : Texts). row ++ routed key (drop index parts) l) (sym at_key) ∙ is

-- ---- numbers that are kept

keep_one : (b : Bool) (kept : List ℕ) (n : ℕ) (rest : List ℕ) → (kept ++ cond b (n ∷ []) []) ++ rest ≡ kept ++ cond b (n ∷ rest) rest
keep_one true [] n rest = refl
keep_one false [] n rest = refl
keep_one b (k ∷ kept) n rest = ap (λ (l : List ℕ). k ∷ l) (keep_one b kept n rest)

pub keep_next : (test : ℕ → Bool) (keep : Bool) (numbers kept new : List ℕ) (index n : ℕ) (all : List ℕ) → index < length numbers → n ≡ get_or numbers index n → keep ≡ test n → new ≡ kept ++ cond keep (n ∷ []) []
    → kept ++ filter test (drop index numbers) ≡ all → new ++ filter test (drop (index + 1) numbers) ≡ all
keep_next test keep numbers kept new index n all lt at is more was =
    let rest = drop (index + 1) numbers in
    let here : drop index numbers ≡ n ∷ rest = drop_more numbers index n lt ∙ ap (λ (m : ℕ). m ∷ rest) (sym at) in
    ap (λ (l : List ℕ). l ++ filter test rest) more ∙ keep_one keep kept n (filter test rest) ∙ ap (λ (b : Bool). kept ++ cond b (n ∷ filter test rest) (filter test rest)) is ∙ ap (λ (l : List ℕ). kept ++ filter test l) (sym here) ∙ was

pub keep_end : (test : ℕ → Bool) (numbers kept : List ℕ) (index : ℕ) (all : List ℕ) → length numbers ≤ index → kept ++ filter test (drop index numbers) ≡ all → kept ≡ all
keep_end test numbers kept index all end was = sym (append-nil kept) ∙ ap (λ (l : List ℕ). kept ++ filter test l) (sym (drop_all index numbers end)) ∙ was

pub all_more : {A : Type 0} (P : A → Type 0) (xs : List A) (x : A) → AllByRecursion P xs → P x → AllByRecursion P (xs ++ x ∷ [])
all_more P [] x all one = (one, tt)
all_more P (y ∷ ys) x all one = (all.0, all_more P ys x all.1 one)
