-- What a stream keeps of its subscriptions and confirms is what its moves did.
use Rattle.std.proofs.Common.{◌≡◌, ℕ, ◌==◌, ◌&&◌, ◌+◌, not, Bool, true, false, cond, List, [], ◌∷◌, ◌++◌, refl, sym, ap, subst, ◌∙◌, inl, inr, eq-eqb, append_assoc}
use Rattle.std.specs.Prelude.{filter}
use Rattle.std.specs.List.{AllByRecursion}
use Rattle.std.proofs.lemmas.List.{append-nil}
use Rattle.std.proofs.lemmas.Bool.{and_left, and_right}
use Rattle.std.proofs.lemmas.Bool.Decides.{eqb_tells}
use Rattle.command_data.specs.Starts.{StartOf}
use Rattle.list_machine.specs.Streams.{Confirmed, Subscription, Stream, no_stream}
use Rattle.list_machine.specs.Subscribing.{new_subscription, IsOther, Subscribed, moved}
use Rattle.list_machine.specs.Moves.{Move, begins, finishes, commits, declares, undeclares, publishes, refuses, confirms, subscribes, unsubscribes, asks, starts, rests, grants, delivers, stores, leaves, forgets, MoveStep, StreamRun}
use Rattle.list_machine.specs.Laws.{is_same, Tally, no_tally, tally_of, tally_by, Tallied, confirmed_by, ConfirmedBy}
use Rattle.list_machine.proofs.Lists.{all_weaker, all_append, all_front, all_back, all_turned}

-- ---- no two subscriptions of a stream have one connection and id

abbrev pub Apart : List Subscription → Type 0
Apart [] = Unit {0}
Apart (x ∷ xs) = AllByRecursion (IsOther x.connection x.id) xs × Apart xs

apart_push : (xs : List Subscription) (x : Subscription) → Apart xs → AllByRecursion (IsOther x.connection x.id) xs → Apart (xs ++ x ∷ [])
apart_push [] x a o = (tt, tt)
apart_push (y ∷ xs) x a o = (all_append (IsOther y.connection y.id) xs (x ∷ []) a.0 ((λ c i. o.0 (sym c) (sym i)), tt), apart_push xs x a.1 o.1)

apart_moved : (xs : List Subscription) (x y : Subscription) (ys : List Subscription) → y.connection ≡ x.connection → y.id ≡ x.id → Apart (xs ++ x ∷ ys) → Apart (xs ++ y ∷ ys)
apart_moved [] x y ys c i a = (all_weaker (IsOther x.connection x.id) (IsOther y.connection y.id) (λ s o sc si. o (sc ∙ c) (si ∙ i)) ys a.0, a.1)
apart_moved (z ∷ xs) x y ys c i a = (all_turned (IsOther z.connection z.id) xs x y ys (λ o yc yi. o (sym c ∙ yc) (sym i ∙ yi)) a.0, apart_moved xs x y ys c i a.1)

apart_left : (xs : List Subscription) (x : Subscription) (ys : List Subscription) → Apart (xs ++ x ∷ ys) → Apart (xs ++ ys)
apart_left [] x ys a = a.1
apart_left (z ∷ xs) x ys a =
    (all_append (IsOther z.connection z.id) xs ys (all_front (IsOther z.connection z.id) xs (x ∷ ys) a.0) (all_back (IsOther z.connection z.id) xs (x ∷ ys) a.0).1, apart_left xs x ys a.1)

apart_before : (xs : List Subscription) (x : Subscription) (ys : List Subscription) → Apart (xs ++ x ∷ ys) → AllByRecursion (IsOther x.connection x.id) xs
apart_before [] x ys a = tt
apart_before (z ∷ xs) x ys a = ((λ c i. (all_back (IsOther z.connection z.id) xs (x ∷ ys) a.0).0 (sym c) (sym i)), apart_before xs x ys a.1)

apart_after : (xs : List Subscription) (x : Subscription) (ys : List Subscription) → Apart (xs ++ x ∷ ys) → AllByRecursion (IsOther x.connection x.id) ys
apart_after [] x ys a = a.0
apart_after (z ∷ xs) x ys a = apart_after xs x ys a.1

filter_all : (P : Subscription → Type 0) (p : Subscription → Bool) (xs : List Subscription) → AllByRecursion P xs → AllByRecursion P (filter p xs)
filter_all P p [] h = tt
filter_all P p (x ∷ xs) h = go (p x) (filter_all P p xs h.1)
  where
    go : (b : Bool) → AllByRecursion P (filter p xs) → AllByRecursion P (cond b (x ∷ filter p xs) (filter p xs))
    go true rest = (h.0, rest)
    go false rest = rest

apart_filter : (p : Subscription → Bool) (xs : List Subscription) → Apart xs → Apart (filter p xs)
apart_filter p [] a = tt
apart_filter p (x ∷ xs) a = go (p x) (filter_all (IsOther x.connection x.id) p xs a.0) (apart_filter p xs a.1)
  where
    go : (b : Bool) → AllByRecursion (IsOther x.connection x.id) (filter p xs) → Apart (filter p xs) → Apart (cond b (x ∷ filter p xs) (filter p xs))
    go true o rest = (o, rest)
    go false o rest = rest

-- ---- what was sent and granted

abbrev pub Told : (ℕ → ℕ → Tally) → Subscription → Type 0
Told sent s = tally_of s ≡ sent s.connection s.id

abbrev changed : (ℕ → ℕ → Tally) → ℕ → ℕ → (Tally → Tally) → ℕ → ℕ → Tally
changed sent connection id f c i = cond (is_same connection id c i) (f (sent c i)) (sent c i)

not_same : (connection id : ℕ) (s : Subscription) → IsOther connection id s → is_same connection id s.connection s.id ≡ false
not_same connection id s o = elim (eqb_tells connection s.connection) [
  | inl c ↦ elim (eqb_tells id s.id) [
    | inl i ↦ absurd (o (sym c.1) (sym i.1))
    | inr i ↦ and_right (connection == s.connection) (id == s.id) i.0
  ]
  | inr c ↦ and_left (connection == s.connection) (id == s.id) c.0
]

told_other : (sent : ℕ → ℕ → Tally) (connection id : ℕ) (f : Tally → Tally) (s : Subscription) → IsOther connection id s → Told sent s → Told (changed sent connection id f) s
told_other sent connection id f s o told = told ∙ sym (ap (λ (b : Bool). cond b (f (sent s.connection s.id)) (sent s.connection s.id)) (not_same connection id s o))

told_own : (sent : ℕ → ℕ → Tally) (connection id : ℕ) (f : Tally → Tally) (s : Subscription) → s.connection ≡ connection → s.id ≡ id → tally_of s ≡ f (sent s.connection s.id) → Told (changed sent connection id f) s
told_own sent connection id f s c i told =
    let same : is_same connection id s.connection s.id ≡ true = ap (λ (b : Bool). b && (id == s.id)) (eq-eqb connection s.connection (sym c)) ∙ eq-eqb id s.id (sym i) in
    told ∙ sym (ap (λ (b : Bool). cond b (f (sent s.connection s.id)) (sent s.connection s.id)) same)

all_told : (sent : ℕ → ℕ → Tally) (connection id : ℕ) (f : Tally → Tally) (xs : List Subscription) → AllByRecursion (IsOther connection id) xs → AllByRecursion (Told sent) xs → AllByRecursion (Told (changed sent connection id f)) xs
all_told sent connection id f [] o t = tt
all_told sent connection id f (x ∷ xs) o t = (told_other sent connection id f x o.0 t.0, all_told sent connection id f xs o.1 t.1)

-- what stands of the subscriptions of a stream
pub record Keeps (sent : ℕ → ℕ → Tally) (subscriptions : List Subscription) : Type 0 where
  pub apart : Apart subscriptions
  pub told : AllByRecursion (Told sent) subscriptions

keeps_changed : (sent : ℕ → ℕ → Tally) (f : Tally → Tally) (s : Stream) (connection id : ℕ) (at : Subscribed s connection id) (t : Subscription) → t.connection ≡ at.subscription.connection → t.id ≡ at.subscription.id
    → tally_of t ≡ f (tally_of at.subscription) → Keeps sent s.subscriptions → Keeps (changed sent connection id f) (moved at t)
keeps_changed sent f s connection id at t c i delivered keeps =
    let k = subst (Keeps sent) at.subscribed keeps in
    let own = at.subscription in
    let retell : (x : Subscription) → IsOther own.connection own.id x → IsOther connection id x = λ x o xc xi. o (xc ∙ sym at.of_connection) (xi ∙ sym at.of_id) in
    let before = all_weaker (IsOther own.connection own.id) (IsOther connection id) retell at.before (apart_before at.before own at.after k.apart) in
    let after = all_weaker (IsOther own.connection own.id) (IsOther connection id) retell at.after (apart_after at.before own at.after k.apart) in
    let there = all_back (Told sent) at.before (own ∷ at.after) k.told in
    record {
      apart = apart_moved at.before own t at.after c i k.apart;
      told = all_append (Told (changed sent connection id f)) at.before (t ∷ at.after)
          (all_told sent connection id f at.before before (all_front (Told sent) at.before (own ∷ at.after) k.told)) (
            told_own sent connection id f t (c ∙ at.of_connection) (i ∙ at.of_id) (delivered ∙ ap f (there.0 ∙ ap (λ (n : ℕ). sent n own.id) (sym c) ∙ ap (λ (n : ℕ). sent t.connection n) (sym i))),
            all_told sent connection id f at.after after there.1,
          );
    }

keeps_moved : (sent : ℕ → ℕ → Tally) (s : Stream) (connection id : ℕ) (at : Subscribed s connection id) (t : Subscription) → t.connection ≡ at.subscription.connection → t.id ≡ at.subscription.id
    → tally_of t ≡ tally_of at.subscription → Keeps sent s.subscriptions → Keeps sent (moved at t)
keeps_moved sent s connection id at t c i delivered keeps =
    let k = subst (Keeps sent) at.subscribed keeps in
    let own = at.subscription in
    record {
      apart = apart_moved at.before own t at.after c i k.apart;
      told = all_turned (Told sent) at.before own t at.after (λ told. delivered ∙ told ∙ ap (λ (n : ℕ). sent n own.id) (sym c) ∙ ap (λ (n : ℕ). sent t.connection n) (sym i)) k.told;
    }

keeps_same : (sent : ℕ → ℕ → Tally) (old new other : Stream) → new ≡ other → other.subscriptions ≡ old.subscriptions → Keeps sent old.subscriptions → Keeps sent new.subscriptions
keeps_same sent old new other is same k = subst (Keeps sent) (sym (ap (λ (s : Stream). s.subscriptions) is ∙ same)) k

pub move_keeps : (move : Move) (sent : ℕ → ℕ → Tally) (old new : Stream) → MoveStep old move new → Keeps sent old.subscriptions → Keeps (λ c i. tally_by c i move (sent c i)) new.subscriptions
move_keeps (begins text super) sent old new step k = keeps_same sent old new _ step.is refl k
move_keeps finishes sent old new step k = keeps_same sent old new _ step.1 refl k
move_keeps (commits chunk) sent old new step k = keeps_same sent old new _ step.is refl k
move_keeps (declares connection id name) sent old new step k = keeps_same sent old new _ step.is refl k
move_keeps (undeclares connection id) sent old new step k = keeps_same sent old new _ step.is refl k
move_keeps (publishes connection id items) sent old new step k = keeps_same sent old new _ step.is refl k
move_keeps (refuses connection id) sent old new step k = keeps_same sent old new _ step.is refl k
move_keeps (confirms connection id name items) sent old new step k = keeps_same sent old new _ step.is refl k
move_keeps (stores name offset) sent old new step k = keeps_same sent old new _ step refl k
move_keeps (subscribes connection id group spec credits) sent old new step k =
    let s : Subscription = new_subscription connection id group (StartOf spec old.seen) credits in
    let subscriptions : List Subscription = old.subscriptions ++ s ∷ [] in
    let f : Tally → Tally = λ t. record { delivered = []; sent = 0; granted = credits } in
    let keeps : Keeps (changed sent connection id f) subscriptions = record {
      apart = apart_push old.subscriptions s k.apart step.is_new;
      told = all_append (Told (changed sent connection id f)) old.subscriptions (s ∷ []) (all_told sent connection id f old.subscriptions step.is_new k.told) (told_own sent connection id f s refl refl refl, tt);
    } in
    subst (Keeps (changed sent connection id f)) (sym (ap (λ (s : Stream). s.subscriptions) step.is)) keeps
move_keeps (unsubscribes connection id) sent old new step k =
    let t = subst (Keeps sent) step.at.subscribed k in
    subst (Keeps sent) (sym (ap (λ (s : Stream). s.subscriptions) step.is)) (record {
      apart = apart_left step.at.before step.at.subscription step.at.after t.apart;
      told = all_append (Told sent) step.at.before step.at.after (all_front (Told sent) step.at.before (step.at.subscription ∷ step.at.after) t.told) (all_back (Told sent) step.at.before (step.at.subscription ∷ step.at.after) t.told).1;
    })
move_keeps (asks connection id correlation activate) sent old new step k =
    subst (Keeps sent) (sym (ap (λ (s : Stream). s.subscriptions) step.is)) (keeps_moved sent old connection id step.at _ refl refl refl k)
move_keeps (starts connection id correlation spec) sent old new step k =
    subst (Keeps (changed sent connection id (λ (t : Tally). record t { delivered = [] }))) (sym (ap (λ (s : Stream). s.subscriptions) step.is)) (keeps_changed sent (λ (t : Tally). record t { delivered = [] }) old connection id step.at _ refl refl refl k)
move_keeps (rests connection id correlation) sent old new step k =
    subst (Keeps sent) (sym (ap (λ (s : Stream). s.subscriptions) step.is)) (keeps_moved sent old connection id step.at _ refl refl refl k)
move_keeps (grants connection id credits) sent old new step k =
    subst (Keeps (changed sent connection id (λ (t : Tally). record t { granted = t.granted + credits }))) (sym (ap (λ (s : Stream). s.subscriptions) step.is))
    (keeps_changed sent (λ (t : Tally). record t { granted = t.granted + credits }) old connection id step.at _ refl refl refl k)
move_keeps (delivers connection id chunk) sent old new step k =
    subst (Keeps (changed sent connection id (λ (t : Tally). record { delivered = t.delivered ++ chunk ∷ []; sent = t.sent + 1; granted = t.granted }))) (sym (ap (λ (s : Stream). s.subscriptions) step.is))
    (keeps_changed sent (λ (t : Tally). record { delivered = t.delivered ++ chunk ∷ []; sent = t.sent + 1; granted = t.granted }) old connection id step.at _ refl refl refl k)
move_keeps (leaves connection) sent old new step k =
    let p : Subscription → Bool = λ s. not (s.connection == connection) in
    subst (λ (s : Stream). Keeps sent s.subscriptions) (sym step) (record { apart = apart_filter p old.subscriptions k.apart; told = filter_all (Told sent) p old.subscriptions k.told })
move_keeps forgets sent old new step k = subst (λ (s : Stream). Keeps sent s.subscriptions) (sym step) (record { apart = tt; told = tt })

pub run_keeps : (moves : List Move) (sent : ℕ → ℕ → Tally) (old new : Stream) → StreamRun old moves new → Keeps sent old.subscriptions → Keeps (λ c i. Tallied c i (sent c i) moves) new.subscriptions
run_keeps [] sent old new run k = subst (λ (s : Stream). Keeps sent s.subscriptions) (sym run) k
run_keeps (move ∷ moves) sent old new run k = run_keeps moves (λ c i. tally_by c i move (sent c i)) run.0 new run.2 (move_keeps move sent old run.0 run.1 k)

pub told : (moves : List Move) (new : Stream) → StreamRun no_stream moves new → AllByRecursion (λ (s : Subscription). tally_of s ≡ Tallied s.connection s.id no_tally moves) new.subscriptions
told moves new run = (run_keeps moves (λ c i. no_tally) no_stream new run (record { apart = tt; told = tt })).told

-- ---- what was confirmed

confirmed_same : (old new other : Stream) → new ≡ other → other.confirmed ≡ old.confirmed → new.confirmed ≡ old.confirmed ++ []
confirmed_same old new other is same = ap (λ (s : Stream). s.confirmed) is ∙ same ∙ sym (append-nil old.confirmed)

move_confirmed : (move : Move) (old new : Stream) → MoveStep old move new → new.confirmed ≡ old.confirmed ++ confirmed_by move
move_confirmed (begins text super) old new step = confirmed_same old new _ step.is refl
move_confirmed finishes old new step = confirmed_same old new _ step.1 refl
move_confirmed (commits chunk) old new step = confirmed_same old new _ step.is refl
move_confirmed (declares connection id name) old new step = confirmed_same old new _ step.is refl
move_confirmed (undeclares connection id) old new step = confirmed_same old new _ step.is refl
move_confirmed (publishes connection id items) old new step = confirmed_same old new _ step.is refl
move_confirmed (refuses connection id) old new step = confirmed_same old new _ step.is refl
move_confirmed (confirms connection id name items) old new step = ap (λ (s : Stream). s.confirmed) step.is
move_confirmed (subscribes connection id group spec credits) old new step = confirmed_same old new _ step.is refl
move_confirmed (unsubscribes connection id) old new step = confirmed_same old new _ step.is refl
move_confirmed (asks connection id correlation activate) old new step = confirmed_same old new _ step.is refl
move_confirmed (starts connection id correlation spec) old new step = confirmed_same old new _ step.is refl
move_confirmed (rests connection id correlation) old new step = confirmed_same old new _ step.is refl
move_confirmed (grants connection id credits) old new step = confirmed_same old new _ step.is refl
move_confirmed (delivers connection id chunk) old new step = confirmed_same old new _ step.is refl
move_confirmed (stores name offset) old new step = confirmed_same old new _ step refl
move_confirmed (leaves connection) old new step = confirmed_same old new _ step refl
move_confirmed forgets old new step = confirmed_same old new _ step refl

run_confirmed : (moves : List Move) (old new : Stream) → StreamRun old moves new → new.confirmed ≡ old.confirmed ++ ConfirmedBy moves
run_confirmed [] old new run = ap (λ (s : Stream). s.confirmed) run ∙ sym (append-nil old.confirmed)
run_confirmed (move ∷ moves) old new run =
    run_confirmed moves run.0 new run.2
    ∙ ap (λ (l : List Confirmed). l ++ ConfirmedBy moves) (move_confirmed move old run.0 run.1)
    ∙ append_assoc old.confirmed (confirmed_by move) (ConfirmedBy moves)

pub confirmed_is : (moves : List Move) (new : Stream) → StreamRun no_stream moves new → new.confirmed ≡ ConfirmedBy moves
confirmed_is moves new run = run_confirmed moves no_stream new run
