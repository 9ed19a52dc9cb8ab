-- Bytes are one list of items at most, and where they are one nothing is wrong in them.
use Rattle.std.proofs.Common.{◌≡◌, ℕ, ◌<◌, List, [], ◌∷◌, ◌++◌, length, refl, sym, ap, subst, ◌∙◌, append_assoc, arith, length-append}
use Rattle.std.specs.List.{flat_map, All}
use Rattle.std.proofs.lemmas.List.{append-nil}
use Rattle.std.proofs.lemmas.List.Elements.{All-head, All-tail}
use Rattle.chunk_format.specs.Items.{AreItems, FirstWrong, NoneAtFront}

-- no spelling is empty or begins another
pub record IsCode {A : Type 0} (spell : A → List ℕ) (Right : A → Type 0) : Type 0 where
  pub some : (x : A) → Right x → 0 < length (spell x)
  pub one : (x y : A) (a b : List ℕ) → Right x → Right y → spell x ++ a ≡ spell y ++ b → (x ≡ y) × (a ≡ b)

-- a list that is right has right items, and so has each front of it
pub record IsClosed {A : Type 0} (Right : A → Type 0) (Rights : List A → Type 0) : Type 0 where
  pub each : (xs : List A) → Rights xs → All Right xs
  pub front : (xs ys : List A) → Rights (xs ++ ys) → Rights xs

no_item : {A : Type 0} (spell : A → List ℕ) (Right : A → Type 0) → IsCode spell Right → (x : A) (a : List ℕ) → Right x → [] ≡ spell x ++ a → ⊥
no_item spell Right code x a right e = omega (arith, ap length e, length-append (spell x) a, code.some x right)

-- the items behind a front of the bytes
pub behind_front : {A : Type 0} (spell : A → List ℕ) (Right : A → Type 0) → IsCode spell Right → (front items : List A) (left : List ℕ) → All Right front → All Right items
    → flat_map spell items ≡ flat_map spell front ++ left → (back : List A) × (items ≡ front ++ back) × (left ≡ flat_map spell back)
behind_front spell Right code [] items left p q e = (items, refl, sym e)
behind_front spell Right code (x ∷ front) [] left p q e =
    absurd (no_item spell Right code x (flat_map spell front ++ left) (All-head Right x front p) (e ∙ append_assoc (spell x) (flat_map spell front) left))
behind_front spell Right code (x ∷ front) (y ∷ items) left p q e =
    let same = code.one y x (flat_map spell items) (flat_map spell front ++ left) (All-head Right y items q) (All-head Right x front p) (e ∙ append_assoc (spell x) (flat_map spell front) left) in
    let more = behind_front spell Right code front items left (All-tail Right x front p) (All-tail Right y items q) same.1 in
    (more.0, ap (λ z. z ∷ items) same.0 ∙ ap (λ zs. x ∷ zs) more.1, more.2)

-- a list of items that a front of the bytes spells, and one that all of them spell
pub one_list : {A : Type 0} (spell : A → List ℕ) (Right : A → Type 0) → IsCode spell Right → (xs ys : List A) → All Right xs → All Right ys → flat_map spell xs ≡ flat_map spell ys → xs ≡ ys
one_list spell Right code [] [] p q e = refl
one_list spell Right code [] (y ∷ ys) p q e = absurd (no_item spell Right code y (flat_map spell ys) (All-head Right y ys q) e)
one_list spell Right code (x ∷ xs) [] p q e = absurd (no_item spell Right code x (flat_map spell xs) (All-head Right x xs p) (sym e))
one_list spell Right code (x ∷ xs) (y ∷ ys) p q e =
    let same = code.one x y (flat_map spell xs) (flat_map spell ys) (All-head Right x xs p) (All-head Right y ys q) e in
    ap (λ z. z ∷ xs) same.0 ∙ ap (λ zs. y ∷ zs) (one_list spell Right code xs ys (All-tail Right x xs p) (All-tail Right y ys q) same.1)

-- what is left behind right items doesn't begin with one more, where these items are a front of a right list
pub no_more : {A : Type 0} (spell : A → List ℕ) (Rights Whole : List A → Type 0) → ((xs ys : List A) → Rights (xs ++ ys) → Rights xs)
    → (front back : List A) (left : List ℕ) → Rights (front ++ back) → Whole (front ++ back) → left ≡ flat_map spell back
    → NoneAtFront spell (λ x. Rights (front ++ x ∷ [])) left → (left ≡ [] → Whole front → ⊥) → ⊥
no_more spell Rights Whole closed front [] left rights whole e none unfinished = unfinished e (subst Whole (append-nil front) whole)
no_more spell Rights Whole closed front (z ∷ back) left rights whole e none unfinished =
    none z (flat_map spell back) (closed (front ++ z ∷ []) back (subst Rights (sym (append_assoc front (z ∷ []) back)) rights)) e

pub not_wrong : {A : Type 0} (spell : A → List ℕ) (Right : A → Type 0) (Rights Whole : List A → Type 0) → IsCode spell Right → IsClosed Right Rights
    → (bytes : List ℕ) (items : List A) (place : ℕ) → AreItems spell Rights Whole bytes items → FirstWrong spell Rights Whole bytes place → ⊥
not_wrong spell Right Rights Whole code closed bytes items place are wrong =
    let back = behind_front spell Right code wrong.front items wrong.left (closed.each wrong.front wrong.right) (closed.each items are.right) (sym are.spelled ∙ wrong.parts) in
    no_more spell Rights Whole closed.front wrong.front back.0 wrong.left (subst Rights back.1 are.right) (subst Whole back.1 are.whole) back.2 wrong.none wrong.unfinished

pub same_items : {A : Type 0} (spell : A → List ℕ) (Right : A → Type 0) (Rights Whole : List A → Type 0) → IsCode spell Right → IsClosed Right Rights
    → (bytes : List ℕ) (xs ys : List A) → AreItems spell Rights Whole bytes xs → AreItems spell Rights Whole bytes ys → xs ≡ ys
same_items spell Right Rights Whole code closed bytes xs ys p q = one_list spell Right code xs ys (closed.each xs p.right) (closed.each ys q.right) (sym p.spelled ∙ q.spelled)
