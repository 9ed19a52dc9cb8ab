-- The frames of publishers among offers, and lists by number.
use Rattle.std.proofs.Common.{◌≡◌, ℕ, ◌==◌, Bool, true, false, cond, List, [], ◌∷◌, ◌++◌, map, Some, None, refl, sym, ap, ◌∙◌, eq-eqb, arith}
use Rattle.std.specs.Prelude.{◌&&◌}
use Rattle.std.specs.List.{AllByRecursion}
use Rattle.std.proofs.lemmas.List.{map-append}
use Rattle.command_data.specs.declared.item.Tagged.{Tagged}
use Rattle.replay_node.specs.declared.session.Offer.{Offer}
use Rattle.replay_node.specs.declared.session.Link.{Link}
use Rattle.replay_node.specs.Sessions.{is_declared}
use Rattle.replay_node.specs.NodeState.{find_link, put_link}
use Rattle.replay_node.specs.Machine.{PublisherState, ConnectionState, find, put}
use Rattle.replay_node.specs.Shown.{frames_of, publisher_with, publishers_of, connection_of, AreApart, IsPlaced}

-- ---- numbers

pub same_number : (a b : ℕ) → (a == b) ≡ true → a ≡ b
same_number a b e = grind arith

pub turned : (a b : ℕ) → (a == b) ≡ false → (b == a) ≡ false
turned a b e = grind arith

-- ---- values by number

find_put_by : {X : Type 0} (n : ℕ) (x : X) (e : ℕ × X) (es : List (ℕ × X)) (b : Bool) → (n == e.0) ≡ b → (find n es ≡ find n es → find n (put n x es) ≡ Some x) → cond b (Some x) (find n (put n x es)) ≡ Some x
find_put_by n x e es true is f = refl
find_put_by n x e es false is f = f refl

find_put_in : {X : Type 0} (n : ℕ) (s x : X) (e : ℕ × X) (es : List (ℕ × X)) (b : Bool) → (n == e.0) ≡ b → cond b (Some e.1) (find n es) ≡ Some s → (find n es ≡ Some s → find n (put n x es) ≡ Some x)
    → find n (cond b ((n, x) ∷ es) (e ∷ put n x es)) ≡ Some x
find_put_in {X = X} n s x e es true is there f = ap (λ (t : Bool). cond t (Some x) (find n es)) (eq-eqb n n refl)
find_put_in {X = X} n s x e es false is there f = ap (λ (t : Bool). cond t (Some e.1) (find n (put n x es))) is ∙ f there

pub find_put : {X : Type 0} (n : ℕ) (s x : X) (l : List (ℕ × X)) → find n l ≡ Some s → find n (put n x l) ≡ Some x
find_put n s x [] there = absurd cc
find_put n s x (e ∷ es) there = find_put_in n s x e es (n == e.0) refl there (λ rest. find_put n s x es rest)

put_twice_in : {X : Type 0} (n : ℕ) (x y : X) (e : ℕ × X) (es : List (ℕ × X)) (b : Bool) → (n == e.0) ≡ b → put n y (put n x es) ≡ put n y es
    → put n y (cond b ((n, x) ∷ es) (e ∷ put n x es)) ≡ cond b ((n, y) ∷ es) (e ∷ put n y es)
put_twice_in {X = X} n x y e es true is rest = ap (λ (t : Bool). cond t ((n, y) ∷ es) ((n, x) ∷ put n y es)) (eq-eqb n n refl)
put_twice_in {X = X} n x y e es false is rest = ap (λ (t : Bool). cond t ((n, y) ∷ put n x es) (e ∷ put n y (put n x es))) is ∙ ap (λ (l : List (ℕ × X)). e ∷ l) rest

pub put_twice : {X : Type 0} (n : ℕ) (x y : X) (l : List (ℕ × X)) → put n y (put n x l) ≡ put n y l
put_twice n x y [] = refl
put_twice n x y (e ∷ es) = put_twice_in n x y e es (n == e.0) refl (put_twice n x y es)

put_same_in : {X : Type 0} (n : ℕ) (s : X) (e : ℕ × X) (es : List (ℕ × X)) (b : Bool) → (n == e.0) ≡ b → cond b (Some e.1) (find n es) ≡ Some s → (find n es ≡ Some s → put n s es ≡ es) → cond b ((n, s) ∷ es) (e ∷ put n s es) ≡ e ∷ es
put_same_in {X = X} n s e es true is there f =
    let value : e.1 ≡ s = cc in
    let number : n ≡ e.0 = same_number n e.0 is in
    ap (λ (k : ℕ). (k, s) ∷ es) number ∙ ap (λ (v : X). (e.0, v) ∷ es) (sym value)
put_same_in {X = X} n s e es false is there f = ap (λ (l : List (ℕ × X)). e ∷ l) (f there)

pub put_same : {X : Type 0} (n : ℕ) (s : X) (l : List (ℕ × X)) → find n l ≡ Some s → put n s l ≡ l
put_same n s [] there = absurd cc
put_same n s (e ∷ es) there = put_same_in n s e es (n == e.0) refl there (λ rest. put_same n s es rest)

-- ---- declared ids

head_false : (b t : Bool) → cond b true t ≡ false → (b ≡ false) × (t ≡ false)
head_false true t e = absurd cc
head_false false t e = (refl, e)

declared_by : (b s t : Bool) → cond b true s ≡ true → (s ≡ true → t ≡ true) → cond b true t ≡ true
declared_by true s t e f = refl
declared_by false s t e f = f e

pub declared_front : (id : ℕ) (a b : List ℕ) → is_declared id a ≡ true → is_declared id (a ++ b) ≡ true
declared_front id [] b e = absurd cc
declared_front id (n ∷ a) b e = declared_by (n == id) (is_declared id a) (is_declared id (a ++ b)) e (λ rest. declared_front id a b rest)

either_true : (b t : Bool) → t ≡ true → cond b true t ≡ true
either_true true t e = refl
either_true false t e = e

pub declared_last : (id : ℕ) (a : List ℕ) → is_declared id (a ++ id ∷ []) ≡ true
declared_last id [] = ap (λ (b : Bool). cond b true false) (eq-eqb id id refl)
declared_last id (n ∷ a) = either_true (n == id) (is_declared id (a ++ id ∷ [])) (declared_last id a)

undeclared_more : (n id : ℕ) (a : List ℕ) → is_declared n a ≡ false → (id == n) ≡ false → is_declared n (a ++ id ∷ []) ≡ false
undeclared_more n id [] e other = ap (λ (b : Bool). cond b true false) other
undeclared_more n id (m ∷ a) e other =
    let both = head_false (m == n) (is_declared n a) e in
    ap (λ (b : Bool). cond b true (is_declared n (a ++ id ∷ []))) both.0 ∙ undeclared_more n id a both.1 other

pub apart_more : (ids : List ℕ) (id : ℕ) → AreApart ids → is_declared id ids ≡ false → AreApart (ids ++ id ∷ [])
apart_more [] id apart new = (refl, tt)
apart_more (n ∷ ids) id apart new =
    let both = head_false (n == id) (is_declared id ids) new in
    (undeclared_more n id ids apart.0 (turned n id both.0), apart_more ids id apart.1 both.1)

-- an id among others
pub record IsAmong (id : ℕ) (ids : List ℕ) : Type 0 where
  pub before : List ℕ
  pub after : List ℕ
  pub parts : ids ≡ before ++ id ∷ after
  pub not_before : is_declared id before ≡ false
  pub not_after : is_declared id after ≡ false

among_in : (id n : ℕ) (ids : List ℕ) (b : Bool) → (n == id) ≡ b → cond b true (is_declared id ids) ≡ true → is_declared n ids ≡ false → (is_declared id ids ≡ true → IsAmong id ids) → IsAmong id (n ∷ ids)
among_in id n ids true is there apart f =
    let same : n ≡ id = same_number n id is in
    record { before = []; after = ids; parts = ap (λ (k : ℕ). k ∷ ids) same; not_before = refl; not_after = ap (λ (k : ℕ). is_declared k ids) (sym same) ∙ apart }
among_in id n ids false is there apart f =
    let rest = f there in
    record {
      before = n ∷ rest.before;
      after = rest.after;
      parts = ap (λ (l : List ℕ). n ∷ l) rest.parts;
      not_before = ap (λ (t : Bool). cond t true (is_declared id rest.before)) is ∙ rest.not_before;
      not_after = rest.not_after;
    }

pub among : (id : ℕ) (ids : List ℕ) → is_declared id ids ≡ true → AreApart ids → IsAmong id ids
among id [] there apart = absurd cc
among id (n ∷ ids) there apart = among_in id n ids (n == id) refl there apart.0 (λ rest. among id ids rest apart.1)

-- ---- frames among offers

-- the offer is of this publisher of this connection
abbrev pub is_of : ℕ → ℕ → Offer → Bool
is_of c id offer = (offer.connection == c) && (offer.publisher == id)

front_cond : (b : Bool) (x : List Tagged) (r s t : List (List Tagged)) → t ≡ r ++ s → cond b (x ∷ t) t ≡ cond b (x ∷ r) r ++ s
front_cond true x r s t e = ap (λ (l : List (List Tagged)). x ∷ l) e
front_cond false x r s t e = e

pub frames_append : (c id : ℕ) (a b : List Offer) → frames_of c id (a ++ b) ≡ frames_of c id a ++ frames_of c id b
frames_append c id [] b = refl
frames_append c id (o ∷ a) b = front_cond (is_of c id o) o.items (frames_of c id a) (frames_of c id b) (frames_of c id (a ++ b)) (frames_append c id a b)

pub frames_skip : (c id : ℕ) (a b : List Offer) (o : Offer) → is_of c id o ≡ false → frames_of c id (a ++ o ∷ b) ≡ frames_of c id (a ++ b)
frames_skip c id a b o other =
    frames_append c id a (o ∷ b) ∙ ap (λ (t : Bool). frames_of c id a ++ cond t (o.items ∷ frames_of c id b) (frames_of c id b)) other ∙ sym (frames_append c id a b)

pub frames_hit : (c id : ℕ) (a b : List Offer) (o : Offer) → is_of c id o ≡ true → frames_of c id (a ++ o ∷ b) ≡ frames_of c id a ++ o.items ∷ frames_of c id b
frames_hit c id a b o own =
    frames_append c id a (o ∷ b) ∙ ap (λ (t : Bool). frames_of c id a ++ cond t (o.items ∷ frames_of c id b) (frames_of c id b)) own

pub frames_none : (c id : ℕ) (offers : List Offer) → AllByRecursion (λ (o : Offer). is_of c id o ≡ false) offers → frames_of c id offers ≡ []
frames_none c id [] each = refl
frames_none c id (o ∷ offers) each = ap (λ (t : Bool). cond t (o.items ∷ frames_of c id offers) (frames_of c id offers)) each.0 ∙ frames_none c id offers each.1

pub is_own : (c id : ℕ) (o : Offer) → o.connection ≡ c → o.publisher ≡ id → is_of c id o ≡ true
is_own c id o e f = ap (λ (t : Bool). t && (o.publisher == id)) (eq-eqb o.connection c e) ∙ eq-eqb o.publisher id f

and_false : (a b : Bool) → b ≡ false → (a && b) ≡ false
and_false true b e = e
and_false false b e = refl

pub other_publisher : (c id : ℕ) (o : Offer) → (o.publisher == id) ≡ false → is_of c id o ≡ false
other_publisher c id o e = and_false (o.connection == c) (o.publisher == id) e

pub other_connection : (c id : ℕ) (o : Offer) → (o.connection == c) ≡ false → is_of c id o ≡ false
other_connection c id o e = ap (λ (t : Bool). t && (o.publisher == id)) e

-- ---- publishers

pub ids_back : (c : ℕ) (offers : List Offer) (ids : List ℕ) → map (λ (p : PublisherState). p.id) (publishers_of c offers ids) ≡ ids
ids_back c offers [] = refl
ids_back c offers (id ∷ ids) = ap (λ (l : List ℕ). id ∷ l) (ids_back c offers ids)

pub publishers_append : (c : ℕ) (offers : List Offer) (a b : List ℕ) → publishers_of c offers (a ++ b) ≡ publishers_of c offers a ++ publishers_of c offers b
publishers_append c offers a b = map-append (λ (id : ℕ). publisher_with id (frames_of c id offers)) a b

-- the same of ids whose frames are the same
pub publishers_same : (c id : ℕ) (a b : List Offer) (ids : List ℕ) → is_declared id ids ≡ false → ((n : ℕ) → (n == id) ≡ false → frames_of c n a ≡ frames_of c n b) → publishers_of c a ids ≡ publishers_of c b ids
publishers_same c id a b [] none same = refl
publishers_same c id a b (n ∷ ids) none same =
    let both = head_false (n == id) (is_declared id ids) none in
    ap (λ (l : List (List Tagged)). publisher_with n l ∷ publishers_of c a ids) (same n both.0)
    ∙ ap (λ (l : List PublisherState). publisher_with n (frames_of c n b) ∷ l) (publishers_same c id a b ids both.1 same)

pub publishers_all : (c : ℕ) (a b : List Offer) (ids : List ℕ) → ((n : ℕ) → frames_of c n a ≡ frames_of c n b) → publishers_of c a ids ≡ publishers_of c b ids
publishers_all c a b [] same = refl
publishers_all c a b (n ∷ ids) same =
    ap (λ (l : List (List Tagged)). publisher_with n l ∷ publishers_of c a ids) (same n)
    ∙ ap (λ (l : List PublisherState). publisher_with n (frames_of c n b) ∷ l) (publishers_all c a b ids same)

-- publishers with one among them
pub publishers_split : (c id : ℕ) (offers : List Offer) (ids : List ℕ) (at : IsAmong id ids) → publishers_of c offers ids ≡ publishers_of c offers at.before ++ publisher_with id (frames_of c id offers) ∷ publishers_of c offers at.after
publishers_split c id offers ids at = ap (publishers_of c offers) at.parts ∙ publishers_append c offers at.before (id ∷ at.after)

-- where one offer comes or goes, only its publisher's frames change
pub publishers_but_one : (c id : ℕ) (a b : List Offer) (ids : List ℕ) (at : IsAmong id ids) → ((n : ℕ) → (n == id) ≡ false → frames_of c n a ≡ frames_of c n b)
    → publishers_of c b ids ≡ publishers_of c a at.before ++ publisher_with id (frames_of c id b) ∷ publishers_of c a at.after
publishers_but_one c id a b ids at same =
    publishers_split c id b ids at
    ∙ ap (λ (l : List PublisherState). l ++ publisher_with id (frames_of c id b) ∷ publishers_of c b at.after) (sym (publishers_same c id a b at.before at.not_before same))
    ∙ ap (λ (l : List PublisherState). publishers_of c a at.before ++ publisher_with id (frames_of c id b) ∷ l) (sym (publishers_same c id a b at.after at.not_after same))

-- ---- connections

abbrev pub state_of : List Offer → Link → ConnectionState
state_of offers link = record { rest = link.rest; inbox = []; publishers = publishers_of link.number offers link.publishers }

find_map_in : (offers : List Offer) (n : ℕ) (link x : Link) (links : List Link) (b : Bool) → (x.number == n) ≡ b → cond b (Some x) (find_link n links) ≡ Some link
    → (find_link n links ≡ Some link → find n (map (connection_of offers) links) ≡ Some (state_of offers link)) → find n (connection_of offers x ∷ map (connection_of offers) links) ≡ Some (state_of offers link)
find_map_in offers n link x links true is there f =
    let same : x ≡ link = cc in
    ap (λ (t : Bool). cond t (Some (state_of offers x)) (find n (map (connection_of offers) links))) (eq-eqb n x.number (sym (same_number x.number n is))) ∙ ap (λ (l : Link). Some (state_of offers l)) same
find_map_in offers n link x links false is there f =
    ap (λ (t : Bool). cond t (Some (state_of offers x)) (find n (map (connection_of offers) links))) (turned x.number n is) ∙ f there

pub find_map : (offers : List Offer) (n : ℕ) (link : Link) (links : List Link) → find_link n links ≡ Some link → find n (map (connection_of offers) links) ≡ Some (state_of offers link)
find_map offers n link [] there = absurd cc
find_map offers n link (x ∷ links) there = find_map_in offers n link x links (x.number == n) refl there (λ rest. find_map offers n link links rest)

none_map_in : (offers : List Offer) (n : ℕ) (x : Link) (links : List Link) (b : Bool) → (x.number == n) ≡ b → cond b (Some x) (find_link n links) ≡ None
    → (find_link n links ≡ None → find n (map (connection_of offers) links) ≡ None) → find n (connection_of offers x ∷ map (connection_of offers) links) ≡ None
none_map_in offers n x links true is none f = absurd cc
none_map_in offers n x links false is none f =
    ap (λ (t : Bool). cond t (Some (state_of offers x)) (find n (map (connection_of offers) links))) (turned x.number n is) ∙ f none

pub none_map : (offers : List Offer) (n : ℕ) (links : List Link) → find_link n links ≡ None → find n (map (connection_of offers) links) ≡ None
none_map offers n [] none = refl
none_map offers n (x ∷ links) none = none_map_in offers n x links (x.number == n) refl none (λ rest. none_map offers n links rest)

abbrev pub numbers : List Link → List ℕ
numbers links = map (λ (l : Link). l.number) links

-- connections whose numbers are others have the same frames
others_map : (a b : List Offer) (n : ℕ) (links : List Link) → is_declared n (numbers links) ≡ false → ((c id : ℕ) → (c == n) ≡ false → frames_of c id a ≡ frames_of c id b) → map (connection_of a) links ≡ map (connection_of b) links
others_map a b n [] none same = refl
others_map a b n (x ∷ links) none same =
    let both = head_false (x.number == n) (is_declared n (numbers links)) none in
    ap (λ (l : List PublisherState). (x.number, record { rest = x.rest; inbox = []; publishers = l }) ∷ map (connection_of a) links)
    (publishers_all x.number a b x.publishers (λ id. same x.number id both.0))
    ∙ ap (λ (l : List (ℕ × ConnectionState)). connection_of b x ∷ l) (others_map a b n links both.1 same)

put_map_in : (a b : List Offer) (new x : Link) (links : List Link) (t : Bool) → (x.number == new.number) ≡ t → is_declared x.number (numbers links) ≡ false → ((c id : ℕ) → (c == new.number) ≡ false → frames_of c id a ≡ frames_of c id b)
    → put new.number (state_of b new) (map (connection_of a) links) ≡ map (connection_of b) (put_link new links)
    → put new.number (state_of b new) (connection_of a x ∷ map (connection_of a) links) ≡ map (connection_of b) (cond t (new ∷ links) (x ∷ put_link new links))
put_map_in a b new x links true is apart same rest =
    let number : x.number ≡ new.number = same_number x.number new.number is in
    ap (λ (t : Bool). cond t ((new.number, state_of b new) ∷ map (connection_of a) links) (connection_of a x ∷ put new.number (state_of b new) (map (connection_of a) links))) (eq-eqb new.number x.number (sym number))
    ∙ ap (λ (l : List (ℕ × ConnectionState)). connection_of b new ∷ l) (others_map a b new.number links (ap (λ (n : ℕ). is_declared n (numbers links)) (sym number) ∙ apart) same)
put_map_in a b new x links false is apart same rest =
    ap (λ (t : Bool). cond t ((new.number, state_of b new) ∷ map (connection_of a) links) (connection_of a x ∷ put new.number (state_of b new) (map (connection_of a) links))) (turned x.number new.number is)
    ∙ ap (λ (l : List PublisherState). (x.number, record { rest = x.rest; inbox = []; publishers = l }) ∷ put new.number (state_of b new) (map (connection_of a) links))
    (publishers_all x.number a b x.publishers (λ id. same x.number id is))
    ∙ ap (λ (l : List (ℕ × ConnectionState)). connection_of b x ∷ l) rest

-- another state in the place of a connection's, where the offers of the others are the same
pub put_map : (a b : List Offer) (new : Link) (links : List Link) → AreApart (numbers links) → ((c id : ℕ) → (c == new.number) ≡ false → frames_of c id a ≡ frames_of c id b)
    → put new.number (state_of b new) (map (connection_of a) links) ≡ map (connection_of b) (put_link new links)
put_map a b new [] apart same = refl
put_map a b new (x ∷ links) apart same = put_map_in a b new x links (x.number == new.number) refl apart.0 same (put_map a b new links apart.1 same)

-- ---- placed offers

-- the offers of a connection are of its declared publishers
abbrev pub IsLocal : ℕ → List ℕ → Offer → Type 0
IsLocal c ids offer = offer.connection ≡ c → is_declared offer.publisher ids ≡ true

pub local_of : (c : ℕ) (links : List Link) (link : Link) (offers : List Offer) → find_link c links ≡ Some link → AllByRecursion (IsPlaced links) offers → AllByRecursion (IsLocal c link.publishers) offers
local_of c links link [] there placed = tt
local_of c links link (o ∷ offers) there placed = (
  (λ own. let same : placed.0.0 ≡ link = let found = placed.0.1 in let here : find_link o.connection links ≡ Some link = ap (λ (n : ℕ). find_link n links) own ∙ there in cc in
      ap (λ (l : Link). is_declared o.publisher l.publishers) (sym same) ∙ placed.0.2),
  local_of c links link offers there placed.1,
)

pub local_more : (c : ℕ) (ids more : List ℕ) (offers : List Offer) → AllByRecursion (IsLocal c ids) offers → AllByRecursion (IsLocal c (ids ++ more)) offers
local_more c ids more [] each = tt
local_more c ids more (o ∷ offers) each = ((λ own. declared_front o.publisher ids more (each.0 own)), local_more c ids more offers each.1)

not_of : (c id : ℕ) (ids : List ℕ) (o : Offer) (a b : Bool) → (o.connection == c) ≡ a → (o.publisher == id) ≡ b → IsLocal c ids o → is_declared id ids ≡ false → (a && b) ≡ false
not_of c id ids o false b e f local none = refl
not_of c id ids o true false e f local none = refl
not_of c id ids o true true e f local none =
    let declared = local (same_number o.connection c e) in
    let here : is_declared id ids ≡ true = ap (λ (n : ℕ). is_declared n ids) (sym (same_number o.publisher id f)) ∙ declared in
    absurd cc

pub none_of : (c id : ℕ) (ids : List ℕ) (offers : List Offer) → AllByRecursion (IsLocal c ids) offers → is_declared id ids ≡ false → AllByRecursion (λ (o : Offer). is_of c id o ≡ false) offers
none_of c id ids [] local none = tt
none_of c id ids (o ∷ offers) local none = (not_of c id ids o (o.connection == c) (o.publisher == id) refl refl local.0 none, none_of c id ids offers local.1 none)
