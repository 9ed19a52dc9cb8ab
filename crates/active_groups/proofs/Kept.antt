-- Whoever joins, leaves, is told or answers: what holds of all groups still holds.
use Rattle.std.proofs.Common.{◌≡◌, ◌&&◌, ◌==◌, ◌≤◌, ◌<◌, ℕ, zero, suc, ◌+◌, Bool, true, false, not, cond, eqb, List, [], ◌∷◌, ◌++◌, length, Option, Some, None, filter, count_by, sum_by, position, refl, sym, ap, subst, ◌∙◌, arith}
use Rattle.std.specs.List.{All, list_any, find, position_or_len}
use Rattle.std.proofs.lemmas.Grind.{common_steps}
use Rattle.active_groups.specs.declared.consumer.ConsumerId.{ConsumerId}
use Rattle.active_groups.specs.declared.consumer.GroupState.{GroupState}
use Rattle.active_groups.specs.declared.consumer.GroupState.TheVariants.{Waiting, Starting, Active, Stopping}
use Rattle.active_groups.specs.declared.consumer.Seat.{Seat}
use Rattle.active_groups.specs.Seating.{Seating, same_bytes, same_text, is_of, sits, seats_one, same_consumer, state_in, state_at, state_of, is_busy, is_active, is_open, AtMostOne}
use Rattle.active_groups.specs.Changes.{at_place, at_first, wanted, turn_of, change_at, told_as, told, tells, with_state, after_answer, answered_seat, answered}
use Rattle.active_groups.proofs.Places.{there, nowhere}
use Rattle.active_groups.specs.Steps.{with_consumer, new_group, joined, without, has_seats, left, polled, replied, places_of, AreGroups}

-- ---- of each group

cons-All : {A : Type 0} (P : A → Type 0) (x : A) (xs : List A) → P x → All P xs → All P (x ∷ xs)
cons-All P x xs here rest zero d lt = here
cons-All P x xs here rest (suc k) d lt = rest k d (omega arith)

pub head-All : {A : Type 0} (P : A → Type 0) (x : A) (xs : List A) → All P (x ∷ xs) → P x
head-All P x xs all = all zero x (omega arith)

pub tail-All : {A : Type 0} (P : A → Type 0) (x : A) (xs : List A) → All P (x ∷ xs) → All P xs
tail-All P x xs all k d lt = all (suc k) d (omega arith)

first-by : {A : Type 0} (P : A → Type 0) (f : A → A) (x : A) (xs ys : List A) (b : Bool) → P x → P (f x) → All P xs → All P ys → All P (cond b (f x ∷ xs) (x ∷ ys))
first-by P f x xs ys true old new rest more = cons-All P (f x) xs new rest
first-by P f x xs ys false old new rest more = cons-All P x ys old more

first-All : {A : Type 0} (P : A → Type 0) (p : A → Bool) (f : A → A) (xs : List A) → ((x : A) → P x → P (f x)) → All P xs → All P (at_first p f xs)
first-All P p f [] step all = all
first-All P p f (x ∷ xs) step all =
    let here = head-All P x xs all in
    let rest = tail-All P x xs all in
    first-by P f x xs (at_first p f xs) (p x) here (step x here) rest (first-All P p f xs step rest)

filter-by : {A : Type 0} (P : A → Type 0) (x : A) (xs : List A) (b : Bool) → (b ≡ true → P x) → All P xs → All P (cond b (x ∷ xs) xs)
filter-by P x xs true here rest = cons-All P x xs (here refl) rest
filter-by P x xs false here rest = rest

filter-All : {A : Type 0} (P : A → Type 0) (q : A → Bool) (xs : List A) → All P xs → All P (filter q xs)
filter-All P q [] all = all
filter-All P q (x ∷ xs) all = filter-by P x (filter q xs) (q x) (λ e. head-All P x xs all) (filter-All P q xs (tail-All P x xs all))

passing : {A : Type 0} (P : A → Type 0) (q : A → Bool) (xs : List A) → ((x : A) → q x ≡ true → P x) → All P (filter q xs)
passing P q [] step = λ k d lt. absurd (omega arith)
passing P q (x ∷ xs) step = filter-by P x (filter q xs) (q x) (step x) (passing P q xs step)

push-All : {A : Type 0} (P : A → Type 0) (xs : List A) (x : A) → All P xs → P x → All P (xs ++ x ∷ [])
push-All P [] x all here = cons-All P x [] here all
push-All P (y ∷ ys) x all here = cons-All P y (ys ++ x ∷ []) (head-All P y ys all) (push-All P ys x (tail-All P y ys all) here)

-- ---- counts

fewer : {A : Type 0} (p q : A → Bool) (xs : List A) → count_by p (filter q xs) ≤ count_by p xs
fewer p q [] = omega arith
fewer p q (x ∷ xs) = grind (arith, common_steps, fewer p q xs)

one_more : {A : Type 0} (p : A → Bool) (f : A → A) (xs : List A) (i : ℕ) → count_by p (at_place i f xs) ≤ count_by p xs + 1
one_more p f [] i = omega arith
one_more p f (x ∷ xs) zero = grind (arith, common_steps)
one_more p f (x ∷ xs) (suc i) = grind (arith, common_steps, one_more p f xs i)

pub length-at_place : {A : Type 0} (f : A → A) (xs : List A) (i : ℕ) → length (at_place i f xs) ≡ length xs
length-at_place f [] i = refl
length-at_place f (x ∷ xs) zero = refl
length-at_place f (x ∷ xs) (suc i) = ap suc (length-at_place f xs i)

pub length-at_first : {A : Type 0} (p : A → Bool) (f : A → A) (xs : List A) → length (at_first p f xs) ≡ length xs
length-at_first p f [] = refl
length-at_first p f (x ∷ xs) = grind (arith, common_steps, length-at_first p f xs)

-- ---- telling

one_state : (state : GroupState) → is_open state ≡ false → is_busy state ≡ is_active state
one_state Waiting h = refl
one_state Starting h = absurd cc
one_state Active h = refl
one_state Stopping h = absurd cc

active_busy : (state : GroupState) → is_active state ≡ true → is_busy state ≡ true
active_busy Waiting h = absurd cc
active_busy Starting h = refl
active_busy Active h = refl
active_busy Stopping h = refl

quiet : (seats : List Seat) → list_any (λ (s : Seat). is_open s.state) seats ≡ false → count_by (λ (s : Seat). is_busy s.state) seats ≡ count_by (λ (s : Seat). is_active s.state) seats
quiet [] h = refl
quiet (s ∷ seats) h = grind (arith, common_steps, quiet seats, one_state s.state)

pub none_active : {A : Type 0} (p : A → Bool) (xs : List A) → length xs ≤ position_or_len p xs → count_by p xs ≡ 0
none_active p [] h = refl
none_active p (x ∷ xs) h = grind (arith, common_steps, none_active p xs)

in_place : {A : Type 0} (p q : A → Bool) (f : A → A) (xs : List A) → ((x : A) → q x ≡ true → p x ≡ true) → position_or_len q xs < length xs → count_by p (at_place (position_or_len q xs) f xs) ≤ count_by p xs
in_place p q f [] both lt = omega arith
in_place p q f (x ∷ xs) both lt = grind (arith, common_steps, in_place p q f xs both, both x)

abbrev Busy : Seat → Bool
Busy s = is_busy s.state

chosen : (g : Seating) (b : Bool) (p : ℕ × Bool) → AtMostOne g.seats → AtMostOne (told_as g (Some p)).seats → AtMostOne (told_as g (cond b None (Some p))).seats
chosen g true p old new = old
chosen g false p old new = new

turned : (g : Seating) (o : Option ℕ) → position (λ (s : Seat). is_active s.state) g.seats ≡ o → list_any (λ (s : Seat). is_open s.state) g.seats ≡ false → AtMostOne g.seats → AtMostOne (told_as g (turn_of g o)).seats
turned g None e calm one =
    let nobody : count_by Busy g.seats ≡ 0 = quiet g.seats calm ∙ none_active (λ (s : Seat). is_active s.state) g.seats (nowhere (λ (s : Seat). is_active s.state) g.seats e) in
    chosen g (eqb (length g.seats) 0) (wanted g, true) one (omega (arith, one_more Busy (with_state Starting) g.seats (wanted g)))
turned g (Some place) e calm one =
    let at = there (λ (s : Seat). is_active s.state) g.seats place e in
    let less = in_place Busy (λ (s : Seat). is_active s.state) (with_state Stopping) g.seats (λ x. active_busy x.state) (rw at.0 at.1) in
    chosen g (eqb place (wanted g)) (place, false) one (omega (arith, rw at.0 at less))

told_by : (g : Seating) (b : Bool) → list_any (λ (s : Seat). is_open s.state) g.seats ≡ b → AtMostOne g.seats → AtMostOne (told_as g (cond b None (turn_of g (position (λ (s : Seat). is_active s.state) g.seats)))).seats
told_by g true e one = one
told_by g false e one = turned g (position (λ (s : Seat). is_active s.state) g.seats) refl e one

told_seated : (g : Seating) (o : Option (ℕ × Bool)) → 0 < length g.seats → 0 < length (told_as g o).seats
told_seated g None some = some
told_seated g (Some p) some = omega (arith, length-at_place (with_state (cond p.1 Starting Stopping)) g.seats p.0)

told_one : (g : Seating) → AtMostOne g.seats → AtMostOne (told g).seats
told_one g one = told_by g (list_any (λ (s : Seat). is_open s.state) g.seats) refl one

-- ---- joining, leaving, answering

calm : (state : GroupState) → is_busy (after_answer state) ≡ true → is_busy state ≡ true
calm Waiting h = h
calm Starting h = refl
calm Active h = refl
calm Stopping h = refl

calmer : (q : Seat → Bool) (seats : List Seat) → count_by Busy (at_first q answered_seat seats) ≤ count_by Busy seats
calmer q [] = omega arith
calmer q (s ∷ seats) = grind (arith, common_steps, calmer q seats, calm s.state)

push-count : {A : Type 0} (p : A → Bool) (xs : List A) (x : A) → count_by p (xs ++ x ∷ []) ≡ count_by p xs + cond (p x) 1 0
push-count p [] x = grind (arith, common_steps)
push-count p (y ∷ ys) x = grind (arith, common_steps, push-count p ys x)

push-length : {A : Type 0} (xs : List A) (x : A) → 0 < length (xs ++ x ∷ [])
push-length [] x = omega arith
push-length (y ∷ ys) x = omega arith

joined_one : (consumer : ConsumerId) (g : Seating) → AtMostOne g.seats → AtMostOne (with_consumer consumer g).seats
joined_one consumer g one = omega (arith, push-count Busy g.seats (record { consumer = consumer; state = Waiting }))

-- ---- seats of one consumer

same_place : {A : Type 0} (q : A → Bool) (f : A → A) (xs : List A) (i : ℕ) → ((x : A) → q (f x) ≡ q x) → count_by q (at_place i f xs) ≡ count_by q xs
same_place q f [] i same = refl
same_place q f (x ∷ xs) zero same = grind (arith, common_steps, same x)
same_place q f (x ∷ xs) (suc i) same = grind (arith, common_steps, same_place q f xs i same)

pub same_first : {A : Type 0} (q p : A → Bool) (f : A → A) (xs : List A) → ((x : A) → q (f x) ≡ q x) → count_by q (at_first p f xs) ≡ count_by q xs
same_first q p f [] same = refl
same_first q p f (x ∷ xs) same = grind (arith, common_steps, same_first q p f xs same, same x)

told_places : (consumer : ConsumerId) (g : Seating) (o : Option (ℕ × Bool)) → places_of consumer (told_as g o) ≤ places_of consumer g + 0
told_places consumer g None = omega arith
told_places consumer g (Some p) = omega (arith, same_place (seats_one consumer) (with_state (cond p.1 Starting Stopping)) g.seats p.0 (λ x. refl))

answered_places : (one consumer : ConsumerId) (g : Seating) → places_of consumer (answered one g) ≤ places_of consumer g + 0
answered_places one consumer g = omega (arith, same_first (seats_one consumer) (seats_one one) answered_seat g.seats (λ x. refl))

without_places : (one consumer : ConsumerId) (g : Seating) → places_of consumer (without one g) ≤ places_of consumer g + 0
without_places one consumer g = omega (arith, fewer (seats_one consumer) (λ s. not (seats_one one s)) g.seats)

joined_places : (one consumer : ConsumerId) (g : Seating) → places_of consumer (with_consumer one g) ≤ places_of consumer g + cond (same_consumer one consumer) 1 0
joined_places one consumer g = omega (arith, push-count (seats_one consumer) g.seats (record { consumer = one; state = Waiting }))

sum_first : {A : Type 0} (m : A → ℕ) (p : A → Bool) (f : A → A) (n : ℕ) (xs : List A) → ((x : A) → m (f x) ≤ m x + n) → sum_by m (at_first p f xs) ≤ sum_by m xs + n
sum_first m p f n [] more = omega arith
sum_first m p f n (x ∷ xs) more = grind (arith, common_steps, sum_first m p f n xs more, more x)

pub sum_filter : {A : Type 0} (m : A → ℕ) (q : A → Bool) (xs : List A) → sum_by m (filter q xs) ≤ sum_by m xs
sum_filter m q [] = omega arith
sum_filter m q (x ∷ xs) = grind (arith, common_steps, sum_filter m q xs)

push-sum : {A : Type 0} (m : A → ℕ) (xs : List A) (x : A) → sum_by m (xs ++ x ∷ []) ≡ sum_by m xs + m x
push-sum m [] x = grind (arith, common_steps)
push-sum m (y ∷ ys) x = grind (arith, common_steps, push-sum m ys x)

-- ---- one that is in no group

same_one : (a b : ConsumerId) → same_consumer a b ≡ true → a ≡ b
same_one a b h = grind (arith, common_steps)

not_here : (seats : List Seat) (consumer : ConsumerId) → list_any (seats_one consumer) seats ≡ false → count_by (seats_one consumer) seats ≡ 0
not_here [] consumer h = refl
not_here (s ∷ seats) consumer h = grind (arith, common_steps, not_here seats consumer)

here : (seats : List Seat) (consumer : ConsumerId) → state_in seats consumer ≡ None → list_any (seats_one consumer) seats ≡ false
here [] consumer h = refl
here (s ∷ seats) consumer h = grind (arith, common_steps, here seats consumer)

pub not_at : (consumer : ConsumerId) (g : Seating) (gs : List Seating) (b : Bool) → sits consumer g ≡ b → state_at (cond b (Some g) (find (sits consumer) gs)) consumer ≡ None → (b ≡ false) × (state_of gs consumer ≡ None)
not_at consumer g gs true e h = absurd (let no = sym e ∙ here g.seats consumer h in cc)
not_at consumer g gs false e h = (refl, h)

absent : (gs : List Seating) (consumer : ConsumerId) → state_of gs consumer ≡ None → sum_by (places_of consumer) gs ≡ 0
absent [] consumer h = refl
absent (g ∷ gs) consumer h =
    let parts = not_at consumer g gs (sits consumer g) refl h in
    let none : places_of consumer g ≡ 0 = not_here g.seats consumer parts.0 in
    let rest = absent gs consumer parts.1 in
    rw (none, rest) refl

-- ---- one group of each name

same_list : (a b : List ℕ) → same_bytes a b ≡ true → a ≡ b
same_list [] [] h = refl
same_list [] (y ∷ ys) h = absurd cc
same_list (x ∷ xs) [] h = absurd cc
same_list (x ∷ xs) (y ∷ ys) h = grind (arith, common_steps, same_list xs ys)

same_name : (a b : Option (List ℕ)) → same_text a b ≡ true → a ≡ b
same_name None None h = refl
same_name None (Some b) h = absurd cc
same_name (Some a) None h = absurd cc
same_name (Some a) (Some b) h = ap (λ (l : List ℕ). Some l) (same_list a b h)

told_name : (stream : ℕ) (name : Option (List ℕ)) (g : Seating) (o : Option (ℕ × Bool)) → is_of stream name (told_as g o) ≡ is_of stream name g
told_name stream name g None = refl
told_name stream name g (Some p) = refl

pub none_counted : {A : Type 0} (p : A → Bool) (xs : List A) → list_any p xs ≡ false → count_by p xs ≡ 0
none_counted p [] h = refl
none_counted p (x ∷ xs) h = grind (arith, common_steps, none_counted p xs)

same_key : (s t : ℕ) (a b : Option (List ℕ)) → ((s == t) && same_text a b) ≡ true → (s ≡ t) × (a ≡ b)
same_key s t a b h = (grind (arith, common_steps), same_name a b (grind (arith, common_steps)))

new_key : (stream : ℕ) (name : Option (List ℕ)) (s : ℕ) (n : Option (List ℕ)) (gs : List Seating) (b : Bool) → ((stream == s) && same_text name n) ≡ b → list_any (is_of stream name) gs ≡ false → count_by (is_of s n) gs ≤ 1 → count_by (is_of s n) gs + cond b 1 0 ≤ 1
new_key stream name s n gs true e nobody old =
    let key = same_key stream s name n e in
    let none = none_counted (is_of stream name) gs nobody in
    let there : count_by (is_of s n) gs ≡ 0 = ap (λ (v : ℕ). count_by (is_of v n) gs) (sym key.0) ∙ ap (λ (v : Option (List ℕ)). count_by (is_of stream v) gs) (sym key.1) ∙ none in
    omega (arith, there)
new_key stream name s n gs false e nobody old = omega arith

-- ---- all groups

pub polled_are : (session : ℕ) (gs : List Seating) → AreGroups gs → AreGroups (polled session gs)
polled_are session gs are = record {
  one_busy = first-All (λ g. AtMostOne g.seats) (tells session) told gs told_one are.one_busy;
  seated = first-All (λ g. 0 < length g.seats) (tells session) told gs (λ g. told_seated g (change_at g)) are.seated;
  once = λ consumer. omega (arith, sum_first (places_of consumer) (tells session) told 0 gs (λ g. told_places consumer g (change_at g)), are.once consumer);
  one_each = λ stream name. omega (arith, same_first (is_of stream name) (tells session) told gs (λ g. told_name stream name g (change_at g)), are.one_each stream name);
}

pub answered_are : (one : ConsumerId) (gs : List Seating) → AreGroups gs → AreGroups (replied one gs)
answered_are one gs are = record {
  one_busy = first-All (λ g. AtMostOne g.seats) (sits one) (answered one) gs (λ g few. omega (arith, few, calmer (seats_one one) g.seats)) are.one_busy;
  seated = first-All (λ g. 0 < length g.seats) (sits one) (answered one) gs (λ g some. omega (arith, some, length-at_first (seats_one one) answered_seat g.seats)) are.seated;
  once = λ consumer. omega (arith, sum_first (places_of consumer) (sits one) (answered one) 0 gs (answered_places one consumer), are.once consumer);
  one_each = λ stream name. omega (arith, same_first (is_of stream name) (sits one) (answered one) gs (λ g. refl), are.one_each stream name);
}

pub left_are : (one : ConsumerId) (gs : List Seating) → AreGroups gs → AreGroups (left one gs)
left_are one gs are = record {
  one_busy = filter-All (λ g. AtMostOne g.seats) has_seats (at_first (sits one) (without one) gs) (first-All (λ g. AtMostOne g.seats) (sits one) (without one) gs (λ g few. omega (arith, few, fewer Busy (λ s. not (seats_one one s)) g.seats)) are.one_busy);
  seated = passing (λ g. 0 < length g.seats) has_seats (at_first (sits one) (without one) gs) (λ g some. grind (arith, common_steps));
  once = λ consumer. omega (arith, sum_filter (places_of consumer) has_seats (at_first (sits one) (without one) gs), sum_first (places_of consumer) (sits one) (without one) 0 gs (without_places one consumer), are.once consumer);
  one_each = λ stream name. omega (arith, fewer (is_of stream name) has_seats (at_first (sits one) (without one) gs), same_first (is_of stream name) (sits one) (without one) gs (λ g. refl), are.one_each stream name);
}

once_more : (one consumer : ConsumerId) (gs : List Seating) (b : Bool) (n : ℕ) → same_consumer one consumer ≡ b → state_of gs one ≡ None → sum_by (places_of consumer) gs ≤ 1 → n ≤ sum_by (places_of consumer) gs + cond b 1 0 → n ≤ 1
once_more one consumer gs true n e out old more = omega (arith, absent gs consumer (subst (λ c. state_of gs c ≡ None) (same_one one consumer e) out))
once_more one consumer gs false n e out old more = omega arith

joined_in : (stream : ℕ) (name : Option (List ℕ)) (one : ConsumerId) (gs : List Seating) → state_of gs one ≡ None → AreGroups gs → AreGroups (at_first (is_of stream name) (with_consumer one) gs)
joined_in stream name one gs out are = record {
  one_busy = first-All (λ g. AtMostOne g.seats) (is_of stream name) (with_consumer one) gs (joined_one one) are.one_busy;
  seated = first-All (λ g. 0 < length g.seats) (is_of stream name) (with_consumer one) gs (λ g some. push-length g.seats (record { consumer = one; state = Waiting })) are.seated;
  once = λ consumer. once_more one consumer gs (same_consumer one consumer) _ refl out (are.once consumer)
      (sum_first (places_of consumer) (is_of stream name) (with_consumer one) (cond (same_consumer one consumer) 1 0) gs (joined_places one consumer));
  one_each = λ s n. omega (arith, same_first (is_of s n) (is_of stream name) (with_consumer one) gs (λ g. refl), are.one_each s n);
}

pub joined_new : (stream : ℕ) (name : Option (List ℕ)) (index : ℕ) (one : ConsumerId) (gs : List Seating) → list_any (is_of stream name) gs ≡ false → state_of gs one ≡ None → AreGroups gs → AreGroups (gs ++ with_consumer one (new_group stream name index) ∷ [])
joined_new stream name index one gs absent_name out are =
    let g = new_group stream name index in record {
      one_busy = push-All (λ g. AtMostOne g.seats) gs (with_consumer one g) are.one_busy (omega arith);
      seated = push-All (λ g. 0 < length g.seats) gs (with_consumer one g) are.seated (omega arith);
      once = λ consumer. once_more one consumer gs (same_consumer one consumer) _ refl out (are.once consumer)
          (omega (arith, push-sum (places_of consumer) gs (with_consumer one g), joined_places one consumer g));
      one_each = λ s n. omega (arith, push-count (is_of s n) gs (with_consumer one g), new_key stream name s n gs ((stream == s) && same_text name n) refl absent_name (are.one_each s n));
    }

joined_by : (stream : ℕ) (name : Option (List ℕ)) (index : ℕ) (one : ConsumerId) (gs : List Seating) (b : Bool) → list_any (is_of stream name) gs ≡ b → state_of gs one ≡ None → AreGroups gs →
    AreGroups (cond b (at_first (is_of stream name) (with_consumer one) gs) (gs ++ with_consumer one (new_group stream name index) ∷ []))
joined_by stream name index one gs true e out are = joined_in stream name one gs out are
joined_by stream name index one gs false e out are = joined_new stream name index one gs e out are

pub joined_are : (stream : ℕ) (name : Option (List ℕ)) (index : ℕ) (one : ConsumerId) (gs : List Seating) → state_of gs one ≡ None → AreGroups gs → AreGroups (joined stream name index one gs)
joined_are stream name index one gs out are = joined_by stream name index one gs (list_any (is_of stream name) gs) refl out are
