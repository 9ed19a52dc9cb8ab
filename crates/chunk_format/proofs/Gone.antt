-- A walk over the items at the front of bytes.
use Rattle.std.proofs.Common.{◌≡◌, ℕ, ◌+◌, ◌-◌, ◌<◌, ◌≤◌, List, [], ◌∷◌, ◌++◌, length, take, drop, refl, sym, ap, subst, ◌∙◌, append_assoc, arith, length-append}
use Rattle.std.specs.List.{flat_map, All}
use Rattle.std.proofs.lemmas.List.{append-nil, nil_from_length, drop-drop, length-drop, take_rest}
use Rattle.std.proofs.lemmas.List.Elements.{All-nil, All-cons, All-push, All-head, All-tail}
use Rattle.std.proofs.lemmas.Grind.{flat_map-append}
use Rattle.chunk_format.specs.Items.{FirstWrong, NoneAtFront}
use Rattle.chunk_format.specs.Tags.{Count, Tag, IsTag, IsTagOf, tag_bytes, AreTags, SpellsTags, WrongTag, DeltaEntry, delta_bytes, IsDelta, SpellsDelta, WrongDelta, AreDeltas, SnapshotEntry, snapshot_bytes, IsSnapshot, SpellsSnapshot, WrongSnapshot, AnyCount}
use Rattle.chunk_format.proofs.ItemLaws.{IsClosed, not_wrong}
use Rattle.chunk_format.proofs.Codes.{tag_code, delta_code, snapshot_code}

-- so many right items stand at the front, and the walk is at the place behind them
pub record Gone {A : Type 0} (spell : A → List ℕ) (Right : A → Type 0) (bytes : List ℕ) (count at : ℕ) : Type 0 where
  pub front : List A
  pub each : All Right front
  pub counted : length front ≡ count
  pub parts : bytes ≡ flat_map spell front ++ drop at bytes
  pub behind : at ≡ length (flat_map spell front)

unfoldable pub gone_start : {A : Type 0} (spell : A → List ℕ) (Right : A → Type 0) (bytes : List ℕ) → Gone spell Right bytes 0 0
gone_start spell Right bytes = record { front = []; each = All-nil Right; counted = refl; parts = refl; behind = refl }

pub gone_fits : {A : Type 0} (spell : A → List ℕ) (Right : A → Type 0) (bytes : List ℕ) (count at : ℕ) → Gone spell Right bytes count at → at ≤ length bytes
gone_fits spell Right bytes count at gone = omega (arith, ap length gone.parts, length-append (flat_map spell gone.front) (drop at bytes), length-drop at bytes, gone.behind)

-- one item more
pub gone_more : {A : Type 0} (spell : A → List ℕ) (Right : A → Type 0) (bytes : List ℕ) (count at : ℕ) → Gone spell Right bytes count at
    → (x : A) (len : ℕ) (left : List ℕ) → left ≡ take (length bytes - at) (drop at bytes) → Right x → left ≡ spell x ++ drop len left → len ≡ length (spell x)
    → Gone spell Right bytes (count + 1) (at + len)
gone_more {A} spell Right bytes count at gone x len left is right stands long =
    let front = gone.front in
    let one : flat_map spell (front ++ x ∷ []) ≡ flat_map spell front ++ spell x =
    flat_map-append spell front (x ∷ []) ∙ ap (λ (l : List ℕ). flat_map spell front ++ l) (append-nil (spell x)) in
    let here : left ≡ drop at bytes = is ∙ take_rest bytes at in
    let rest : drop len left ≡ drop (at + len) bytes = ap (drop len) here ∙ drop-drop len at bytes in
    let whole : drop at bytes ≡ spell x ++ drop (at + len) bytes = sym here ∙ stands ∙ ap (λ (l : List ℕ). spell x ++ l) rest in
    record {
      front = front ++ x ∷ [];
      each = All-push Right front x gone.each right;
      counted = omega (arith, gone.counted, length-append front (x ∷ []));
      parts = gone.parts ∙ ap (λ (l : List ℕ). flat_map spell front ++ l) whole ∙ sym (append_assoc (flat_map spell front) (spell x) (drop (at + len) bytes))
          ∙ ap (λ (l : List ℕ). l ++ drop (at + len) bytes) (sym one);
      behind = omega (arith, gone.behind, ap length one, length-append (flat_map spell front) (spell x), long);
    }

pub gone_more_front : {A : Type 0} (spell : A → List ℕ) (Right : A → Type 0) (bytes : List ℕ) (count at : ℕ) (gone : Gone spell Right bytes count at)
    → (x : A) (len : ℕ) (left : List ℕ) (is : left ≡ take (length bytes - at) (drop at bytes)) (right : Right x) (stands : left ≡ spell x ++ drop len left) (long : len ≡ length (spell x))
    → (gone_more spell Right bytes count at gone x len left is right stands long).front ≡ gone.front ++ x ∷ []
unfolding gone_more
gone_more_front spell Right bytes count at gone x len left is right stands long = refl

-- and it stays within the bytes
pub gone_step : {A : Type 0} (spell : A → List ℕ) (x : A) (bytes left : List ℕ) (at len : ℕ) → at ≤ length bytes → left ≡ take (length bytes - at) (drop at bytes) → left ≡ spell x ++ drop len left → len ≡ length (spell x) → at + len ≤ length bytes
gone_step spell x bytes left at len within is stands long =
    let here : left ≡ drop at bytes = is ∙ take_rest bytes at in
    omega (arith, ap length here, length-drop at bytes, ap length stands, length-append (spell x) (drop len left), length-drop len left)

-- nothing is left
pub gone_whole : {A : Type 0} (spell : A → List ℕ) (Right : A → Type 0) (bytes : List ℕ) (count at : ℕ) (gone : Gone spell Right bytes count at) → length bytes ≤ at → bytes ≡ flat_map spell gone.front
gone_whole spell Right bytes count at gone past =
    let none : drop at bytes ≡ [] = nil_from_length (drop at bytes) (omega (arith, length-drop at bytes)) in
    gone.parts ∙ ap (λ (l : List ℕ). flat_map spell gone.front ++ l) none ∙ append-nil (flat_map spell gone.front)

none_there : {A : Type 0} (spell : A → List ℕ) (Right : A → Type 0) (bytes left : List ℕ) (at : ℕ) → left ≡ take (length bytes - at) (drop at bytes) → NoneAtFront spell Right left → NoneAtFront spell Right (drop at bytes)
none_there spell Right bytes left at is none = subst (NoneAtFront spell Right) (is ∙ take_rest bytes at) none

last_is : {A : Type 0} (Right : A → Type 0) (xs : List A) (x : A) → All Right (xs ++ x ∷ []) → Right x
last_is Right [] x all = All-head Right x [] all
last_is Right (y ∷ xs) x all = last_is Right xs x (All-tail Right y (xs ++ x ∷ []) all)

front_is : {A : Type 0} (Right : A → Type 0) (xs ys : List A) → All Right (xs ++ ys) → All Right xs
front_is Right [] ys all = All-nil Right
front_is Right (x ∷ xs) ys all = All-cons Right x xs (All-head Right x (xs ++ ys) all) (front_is Right xs ys (All-tail Right x (xs ++ ys) all))

-- ---- lists of at most so many items

pub limited_closed : {A : Type 0} (Right : A → Type 0) (n : ℕ) → IsClosed Right (λ (xs : List A). All Right xs × (length xs ≤ n))
limited_closed Right n = record {
  each = λ xs are. are.0;
  front = λ xs ys are. (front_is Right xs ys are.0, omega (arith, are.1, length-append xs ys));
}

pub limited_wrong : {A : Type 0} (spell : A → List ℕ) (Right : A → Type 0) (bytes : List ℕ) (n count at : ℕ) → Gone spell Right bytes count at → count ≤ n
    → (count < n → NoneAtFront spell Right (drop at bytes)) → (count ≡ n → at < length bytes) → FirstWrong spell (λ (xs : List A). All Right xs × (length xs ≤ n)) (Count n) bytes at
limited_wrong spell Right bytes n count at gone within none left = record {
  front = gone.front;
  left = drop at bytes;
  parts = gone.parts;
  right = (gone.each, omega (arith, gone.counted));
  none = λ x more are e. none (omega (arith, gone.counted, are.1, length-append gone.front (x ∷ []))) x more (last_is Right gone.front x are.0) e;
  unfinished = λ nothing all. omega (arith, left (sym gone.counted ∙ all), ap length nothing, length-drop at bytes);
  behind = gone.behind;
}

pub wrong_within : {A : Type 0} (spell : A → List ℕ) (Rights Whole : List A → Type 0) (bytes : List ℕ) (place : ℕ) → FirstWrong spell Rights Whole bytes place → place ≤ length bytes
wrong_within spell Rights Whole bytes place wrong = omega (arith, ap length wrong.parts, length-append (flat_map spell wrong.front) wrong.left, wrong.behind)

-- ---- delta entries

pub delta_not_wrong : (body : List ℕ) (delta : DeltaEntry) (place : ℕ) → SpellsDelta body delta → WrongDelta body place → ⊥
delta_not_wrong body delta place spells wrong =
    not_wrong delta_bytes IsDelta AreDeltas (Count 1) delta_code (limited_closed IsDelta 1) body (delta ∷ []) place
    (record { right = (All-cons IsDelta delta [] spells.0 (All-nil IsDelta), omega arith); whole = refl; spelled = spells.1 ∙ sym (append-nil (delta_bytes delta)) }) wrong

pub no_delta : (body : List ℕ) → NoneAtFront delta_bytes IsDelta body → WrongDelta body 0
no_delta body none = limited_wrong delta_bytes IsDelta body 1 0 0 (gone_start delta_bytes IsDelta body) (omega arith) (λ _. none) (λ e. absurd (omega arith))

pub delta_and_more : (body : List ℕ) (delta : DeltaEntry) (len : ℕ) → IsDelta delta → body ≡ delta_bytes delta ++ drop len body → len ≡ length (delta_bytes delta) → len < length body → WrongDelta body len
delta_and_more body delta len right stands long more =
    limited_wrong delta_bytes IsDelta body 1 1 len
    (record {
      front = delta ∷ [];
      each = All-cons IsDelta delta [] right (All-nil IsDelta);
      counted = refl;
      parts = stands ∙ ap (λ (l : List ℕ). l ++ drop len body) (sym (append-nil (delta_bytes delta)));
      behind = long ∙ sym (ap length (append-nil (delta_bytes delta)));
    })
    (omega arith) (λ lt. absurd (omega arith)) (λ _. more)

pub delta_whole : (body : List ℕ) (delta : DeltaEntry) (len : ℕ) → IsDelta delta → body ≡ delta_bytes delta ++ drop len body → len ≡ length (delta_bytes delta) → length body ≤ len → SpellsDelta body delta
delta_whole body delta len right stands long past =
    let none : drop len body ≡ [] = nil_from_length (drop len body) (omega (arith, length-drop len body)) in
    (right, stands ∙ ap (λ (l : List ℕ). delta_bytes delta ++ l) none ∙ append-nil (delta_bytes delta))

-- ---- snapshot entries

pub snapshot_closed : IsClosed IsSnapshot (All IsSnapshot)
snapshot_closed = record { each = λ xs are. are; front = λ xs ys are. front_is IsSnapshot xs ys are }

pub snapshot_not_wrong : (body : List ℕ) (snapshot : List SnapshotEntry) (place : ℕ) → SpellsSnapshot body snapshot → WrongSnapshot body place → ⊥
snapshot_not_wrong body snapshot place spells wrong =
    not_wrong snapshot_bytes IsSnapshot (All IsSnapshot) AnyCount snapshot_code snapshot_closed body snapshot place (record { right = spells.0; whole = tt; spelled = spells.1 }) wrong

pub snapshot_wrong : (body left : List ℕ) (count at : ℕ) → Gone snapshot_bytes IsSnapshot body count at → at < length body → left ≡ take (length body - at) (drop at body) → NoneAtFront snapshot_bytes IsSnapshot left → WrongSnapshot body at
snapshot_wrong body left count at gone more is none = record {
  front = gone.front;
  left = drop at body;
  parts = gone.parts;
  right = gone.each;
  none = λ x rest are e. none_there snapshot_bytes IsSnapshot body left at is none x rest (last_is IsSnapshot gone.front x are) e;
  unfinished = λ nothing _. omega (arith, ap length nothing, length-drop at body);
  behind = gone.behind;
}

-- ---- tags

pub tags_closed : (n : ℕ) → IsClosed IsTag (AreTags n)
tags_closed n = record {
  each = λ xs are k d lt. (are.0.1 k d lt).1;
  front = λ xs ys are. ((are.0.0, front_is (IsTagOf are.0.0) xs ys are.0.1), omega (arith, are.1, length-append xs ys));
}

pub tags_not_wrong : (n : ℕ) (trailer : List ℕ) (tags : List Tag) (place : ℕ) → SpellsTags n trailer tags → WrongTag n trailer place → ⊥
tags_not_wrong n trailer tags place spells wrong = not_wrong tag_bytes IsTag (AreTags n) (Count n) tag_code (tags_closed n) trailer tags place spells wrong

pub no_tag : (n : ℕ) (trailer : List ℕ) → 0 < length trailer → NoneAtFront tag_bytes IsTag trailer → WrongTag n trailer 0
no_tag n trailer some none = record {
  front = [];
  left = trailer;
  parts = refl;
  right = (([], All-nil (IsTagOf [])), omega arith);
  none = λ x more are e. none x more (last_is (IsTagOf are.0.0) [] x are.0.1).1 e;
  unfinished = λ nothing _. omega (arith, ap length nothing);
  behind = refl;
}

-- a tag that goes on behind tags of the first one's name has that name
goes_on : (name : List ℕ) (first : Tag) (after trailer left more : List ℕ) (front : List Tag) (x : Tag) → IsTagOf name first → trailer ≡ tag_bytes first ++ after → All (IsTagOf name) front
    → trailer ≡ flat_map tag_bytes front ++ left → left ≡ tag_bytes x ++ more → ((other : List ℕ) × All (IsTagOf other) (front ++ x ∷ [])) → IsTagOf name x
goes_on name first after trailer left more [] x is_first begins each parts e are =
    let right = last_is (IsTagOf are.0) [] x are.1 in
    let same = tag_code.one x first more after right.1 is_first.1 (sym e ∙ sym parts ∙ begins) in
    (ap (λ (t : Tag). t.name) same.0 ∙ is_first.0, right.1)
goes_on name first after trailer left more (y ∷ front) x is_first begins each parts e are =
    let right = last_is (IsTagOf are.0) (y ∷ front) x are.1 in
    let mine = All-head (IsTagOf name) y front each in
    let theirs = All-head (IsTagOf are.0) y (front ++ x ∷ []) are.1 in
    (right.0 ∙ sym theirs.0 ∙ mine.0, right.1)

pub tags_wrong : (name : List ℕ) (first : Tag) (after trailer : List ℕ) (n count at : ℕ) → IsTagOf name first → trailer ≡ tag_bytes first ++ after → Gone tag_bytes (IsTagOf name) trailer count at
    → count ≤ n → (count < n → NoneAtFront tag_bytes (IsTagOf name) (drop at trailer)) → (count ≡ n → at < length trailer) → WrongTag n trailer at
tags_wrong name first after trailer n count at is_first begins gone within none left = record {
  front = gone.front;
  left = drop at trailer;
  parts = gone.parts;
  right = ((name, gone.each), omega (arith, gone.counted));
  none = λ x more are e. none (omega (arith, gone.counted, are.1, length-append gone.front (x ∷ []))) x more (goes_on name first after trailer (drop at trailer) more gone.front x is_first begins gone.each gone.parts e are.0) e;
  unfinished = λ nothing all. omega (arith, left (sym gone.counted ∙ all), ap length nothing, length-drop at trailer);
  behind = gone.behind;
}

-- no tag stands there, or one of another name
pub no_tag_there : (name trailer left : List ℕ) (at : ℕ) → left ≡ take (length trailer - at) (drop at trailer) → NoneAtFront tag_bytes IsTag left → NoneAtFront tag_bytes (IsTagOf name) (drop at trailer)
no_tag_there name trailer left at is none = λ x more right e. none_there tag_bytes IsTag trailer left at is none x more right.1 e

pub other_name : (name trailer left after : List ℕ) (at : ℕ) (tag : Tag) → left ≡ take (length trailer - at) (drop at trailer) → IsTag tag → left ≡ tag_bytes tag ++ after → (tag.name ≡ name → ⊥)
    → NoneAtFront tag_bytes (IsTagOf name) (drop at trailer)
other_name name trailer left after at tag is right stands differs = λ x more named e.
    let here : left ≡ drop at trailer = is ∙ take_rest trailer at in
    let same = tag_code.one tag x after more right named.1 (sym stands ∙ here ∙ e) in
    differs (ap (λ (t : Tag). t.name) same.0 ∙ named.0)

pub tags_whole : (name trailer : List ℕ) (n at : ℕ) → Gone tag_bytes (IsTagOf name) trailer n at → length trailer ≤ at → (tags : List Tag) × SpellsTags n trailer tags
tags_whole name trailer n at gone past =
    (gone.front, record { right = ((name, gone.each), omega (arith, gone.counted)); whole = gone.counted; spelled = gone_whole tag_bytes (IsTagOf name) trailer n at gone past })
