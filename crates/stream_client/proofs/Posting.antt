-- What the calls of an outbox leave.
use Rattle.std.proofs.Common.{◌≡◌, ◌⊎◌, ◌↔◌, ℕ, zero, suc, ◌+◌, ◌-◌, ◌^◌, ◌<◌, ◌≤◌, List, [], ◌∷◌, ◌++◌, length, take, drop, get_or, Result, Ok, Err, refl, sym, ap, subst, ◌∙◌, inl, inr, append_assoc, arith}
use Rattle.std.specs.Prelude.{IsErrAnd}
use Rattle.std.specs.List.{AllByRecursion}
use Rattle.std.specs.declared.alloc.AllocError.{AllocError}
use Rattle.std.proofs.lemmas.List.{length-append, length-take, length-drop, take-append-drop, take_more, take_all}
use Rattle.confirmed_ids.specs.declared.ranges.Range.{Range}
use Rattle.confirmed_ids.specs.Ids.{Confirms, IsWithin, IsConfirmedIn, AreApart}
use Rattle.client_terms.specs.States.{ClientState, IsConfirmed}
use Rattle.client_terms.specs.Hearing.{IsIn, LearnStep}
use Rattle.stream_client.specs.Outboxes.{Outgoing, posting, IsShort, IsOutgoing, IsNext, LearnsSome}

-- ---- lists

all_push : {X : Type 0} (P : X → Type 0) (xs : List X) (x : X) → AllByRecursion P xs → P x → AllByRecursion P (xs ++ x ∷ [])
all_push P [] x all is = (is, tt)
all_push P (y ∷ ys) x all is = (all.0, all_push P ys x all.1 is)

all_drop : {X : Type 0} (P : X → Type 0) (n : ℕ) (xs : List X) → AllByRecursion P xs → AllByRecursion P (drop n xs)
all_drop P zero xs all = all
all_drop P (suc n) [] all = tt
all_drop P (suc n) (x ∷ xs) all = all_drop P n xs all.1

first_of_drop : {X : Type 0} (P : X → Type 0) (n : ℕ) (xs : List X) (x : X) (more : List X) → AllByRecursion P xs → drop n xs ≡ x ∷ more → P x
first_of_drop P n xs x more all is = (subst (AllByRecursion P) is (all_drop P n xs all)).0

pub next_is : (o : Outgoing) (body : List ℕ) (more : List (List ℕ)) → IsOutgoing o → drop (o.last - o.confirmed) o.queue ≡ body ∷ more → IsNext o (o.last + 1) body
next_is o body more is found =
    let len = length-drop (o.last - o.confirmed) o.queue in
    let some = ap length found in
    record { is_next = refl; given = omega (arith, len, some); short = first_of_drop IsShort (o.last - o.confirmed) o.queue body more is.short found }

-- and there is an id for it
pub next_small : (o : Outgoing) (body : List ℕ) (more : List (List ℕ)) → IsOutgoing o → drop (o.last - o.confirmed) o.queue ≡ body ∷ more → o.last + 1 < 2 ^ 64
next_small o body more is found = let given = (next_is o body more is found).given in let few = is.ids in omega (arith, given, few)

-- ---- what an outbox keeps

pub kept_new : (n : ℕ) → n < 2 ^ 64 → IsOutgoing (record { confirmed = n; above = []; queue = []; last = n })
kept_new n small = record { sent = omega arith; within = λ id w. absurd w; given = omega arith; ids = omega (arith, small); short = tt }

pub kept_push : (o : Outgoing) (body copied : List ℕ) (queue : List (List ℕ)) (id : ℕ) → IsOutgoing o → queue ≡ o.queue ++ copied ∷ [] → copied ≡ body → length body ≤ 1000000 → id ≡ o.confirmed + length o.queue + 1 → id < 2 ^ 64 → IsOutgoing (record o { queue = queue })
kept_push o body copied queue id is pushed same short next small =
    let len = length-append o.queue (copied ∷ []) in
    let all = ap length pushed in
    let given = is.given in
    let one : IsShort copied = subst IsShort (sym same) short in
    record { sent = is.sent; within = is.within; given = omega (arith, all, len, given); ids = omega (arith, all, len, small, next); short = subst (AllByRecursion IsShort) (sym pushed) (all_push IsShort o.queue copied is.short one) }

pub kept_restart : (o : Outgoing) (above : List Range) (last : ℕ) → IsOutgoing o → above ≡ [] → last ≡ o.confirmed → IsOutgoing (record o { above = above; last = last })
kept_restart o above last is none same =
    let few = is.ids in
    record { sent = omega (arith, same); within = λ id w. absurd (subst (λ (a : List Range). IsWithin a id) none w); given = omega (arith, same); ids = few; short = is.short }

pub kept_sent : (o : Outgoing) → IsOutgoing o → o.last < o.confirmed + length o.queue → IsOutgoing (record o { last = o.last + 1 })
kept_sent o is more =
    let sent = is.sent in
    record { sent = omega (arith, sent); within = λ id w. (let b = is.within id w in omega (arith, b)); given = omega (arith, more); ids = is.ids; short = is.short }

-- ---- an id is confirmed

-- ranges behind an id begin behind the next one
apart_above : (n : ℕ) (ranges : List Range) (k : ℕ) → AreApart n ranges → IsWithin ranges k → n + 1 < k
apart_above n (r ∷ rs) k a (inl h) = let low = a.0 in let in_it = h.0 in omega (arith, low, in_it)
apart_above n (r ∷ rs) k a (inr w) = let low = a.0 in let up = a.1 in let far = apart_above r.last rs k a.2 w in omega (arith, low, up, far)
apart_above n [] k a w = absurd w

-- one id was confirmed, that was sent
pub record Confirmed (o : Outgoing) (id : ℕ) (ids : Confirms) : Type 0 where
  pub is : IsOutgoing o
  pub sent : id ≤ o.last
  pub apart : AreApart ids.upto ids.above
  pub adds : (k : ℕ) → IsConfirmedIn ids k ↔ (IsConfirmedIn (record { upto = o.confirmed; above = o.above }) k ⊎ (k ≡ id))

was_sent : (o : Outgoing) (id : ℕ) (ids : Confirms) → Confirmed o id ids → (k : ℕ) → IsConfirmedIn ids k → k ≤ o.last
was_sent o id ids c k w = let sent = c.is.sent in let low = c.sent in elim ((c.adds k).0 w) [
  | inl old ↦ elim old [
    | inl h ↦ omega (arith, sent, h)
    | inr h ↦ c.is.within k h
  ]
  | inr e ↦ omega (arith, low, e)
]

-- an id that is at most the confirmed one isn't in a range above it
pub rises : (o : Outgoing) (id : ℕ) (ids : Confirms) → Confirmed o id ids → o.confirmed ≤ ids.upto
rises o id ids c = elim ((c.adds o.confirmed).1 (inl (inl (omega arith)))) [
  | inl h ↦ h
  | inr w ↦ further (apart_above ids.upto ids.above o.confirmed c.apart w)
]
  where
    next : ids.upto + 1 < o.confirmed → IsConfirmedIn ids (ids.upto + 1)
    next far = (c.adds (ids.upto + 1)).1 (inl (inl (omega (arith, far))))

    none : IsConfirmedIn ids (ids.upto + 1) → ⊥
    none (inl h) = omega (arith, h)
    none (inr w) = let far = apart_above ids.upto ids.above (ids.upto + 1) c.apart w in omega (arith, far)

    further : ids.upto + 1 < o.confirmed → o.confirmed ≤ ids.upto
    further far = absurd (none (next far))

pub few : (o : Outgoing) (id : ℕ) (ids : Confirms) → Confirmed o id ids → ids.upto - o.confirmed ≤ length o.queue
few o id ids c = let most = was_sent o id ids c ids.upto (inl (omega arith)) in let given = c.is.given in omega (arith, most, given)

abbrev pub after : Outgoing → Confirms → Outgoing
after o ids = record { confirmed = ids.upto; above = ids.above; queue = drop (ids.upto - o.confirmed) o.queue; last = o.last }

pub kept_confirm : (o : Outgoing) (id : ℕ) (ids : Confirms) → Confirmed o id ids → IsOutgoing (after o ids)
kept_confirm o id ids c =
    let most = was_sent o id ids c ids.upto (inl (omega arith)) in
    let up = rises o id ids c in
    let given = c.is.given in
    let small = c.is.ids in
    let len = length-drop (ids.upto - o.confirmed) o.queue in
    record {
      sent = most;
      within = λ k w. was_sent o id ids c k (inr w);
      given = omega (arith, len, given, most, up);
      ids = omega (arith, len, small, given, most, up);
      short = all_drop IsShort (ids.upto - o.confirmed) o.queue c.is.short;
    }

pub learns_one : (s : ClientState) (o : Outgoing) (id : ℕ) (ids : Confirms) → Confirmed o id ids → LearnStep (posting s o) (id ∷ []) (posting s (after o ids))
learns_one s o id ids c =
    let up = rises o id ids c in
    let enough = few o id ids c in
    let len = length-take (ids.upto - o.confirmed) o.queue in
    record {
      adds = λ k. (
        (λ w. elim ((c.adds k).0 w) [
          | inl old ↦ inl old
          | inr e ↦ inr (inl (sym e), was_sent o id ids c k w)
        ]),
        (λ w. elim w [
          | inl old ↦ (c.adds k).1 (inl old)
          | inr named ↦ elim named.0 [
            | inl e ↦ (c.adds k).1 (inr (sym e))
            | inr gone ↦ absurd gone
          ]
        ]),
      );
      above = λ k w. apart_above ids.upto ids.above k c.apart w;
      left = take (ids.upto - o.confirmed) o.queue;
      queued = sym (take-append-drop (ids.upto - o.confirmed) o.queue);
      place = omega (arith, len, up, enough);
      is = refl;
    }

-- how many messages leave
pub count_few : (o : Outgoing) (id count : ℕ) (ids : Confirms) → Confirmed o id ids → count ≡ ids.upto - o.confirmed → count ≤ length o.queue
count_few o id count ids c is = let enough = few o id ids c in omega (arith, is, enough)

pub confirm_kept : (o : Outgoing) (id count : ℕ) (ids : Confirms) (queue : List (List ℕ)) → Confirmed o id ids → count ≡ ids.upto - o.confirmed → queue ≡ drop count o.queue
    → IsOutgoing (record { confirmed = ids.upto; above = ids.above; queue = queue; last = o.last })
confirm_kept o id count ids queue c is left =
    subst (λ (q : List (List ℕ)). IsOutgoing (record { confirmed = ids.upto; above = ids.above; queue = q; last = o.last })) (sym (left ∙ ap (λ (n : ℕ). drop n o.queue) is)) (kept_confirm o id ids c)

pub confirm_learns : (old o : Outgoing) (id count : ℕ) (ids : Confirms) (queue : List (List ℕ)) → o ≡ old → Confirmed o id ids → count ≡ ids.upto - o.confirmed → queue ≡ drop count o.queue
    → (s : ClientState) → LearnStep (posting s old) (id ∷ []) (posting s (record { confirmed = ids.upto; above = ids.above; queue = queue; last = o.last }))
confirm_learns old o id count ids queue same c is left s =
    subst (λ (v : Outgoing). LearnStep (posting s v) (id ∷ []) (posting s (record { confirmed = ids.upto; above = ids.above; queue = queue; last = o.last }))) same
    (subst (λ (q : List (List ℕ)). LearnStep (posting s o) (id ∷ []) (posting s (record { confirmed = ids.upto; above = ids.above; queue = q; last = o.last }))) (sym (left ∙ ap (λ (n : ℕ). drop n o.queue) is)) (learns_one s o id ids c))

-- an id that was not sent
pub learns_none : (s : ClientState) (o : Outgoing) (id : ℕ) → AreApart o.confirmed o.above → o.last < id → LearnStep (posting s o) (id ∷ []) (posting s o)
learns_none s o id apart far = record {
  adds = λ k. (
    (λ w. inl w),
    (λ w. elim w [
      | inl old ↦ old
      | inr named ↦ elim named.0 [
        | inl e ↦ (let low = named.1 in absurd (omega (arith, e, low, far)))
        | inr gone ↦ absurd gone
      ]
    ]),
  );
  above = λ k w. apart_above o.confirmed o.above k apart w;
  left = [];
  queued = refl;
  place = omega arith;
  is = refl;
}

-- ---- ids one after the other

is_in_append : (xs ys : List ℕ) (k : ℕ) → IsIn (xs ++ ys) k ↔ (IsIn xs k ⊎ IsIn ys k)
is_in_append [] ys k = (
  (λ w. inr w),
  (λ w. elim w [
    | inl gone ↦ absurd gone
    | inr w ↦ w
  ]),
)
is_in_append (x ∷ xs) ys k = let more = is_in_append xs ys k in (
  (λ w. elim w [
    | inl e ↦ inl (inl e)
    | inr w ↦ elim (more.0 w) [
      | inl a ↦ inl (inr a)
      | inr b ↦ inr b
    ]
  ]),
  (λ w. elim w [
    | inl a ↦ elim a [
      | inl e ↦ inl e
      | inr w ↦ inr (more.1 (inl w))
    ]
    | inr b ↦ inr (more.1 (inr b))
  ]),
)

-- no ids
pub learns_nothing : (s : ClientState) → ((k : ℕ) → IsWithin s.above k → s.confirmed + 1 < k) → LearnStep s [] s
learns_nothing s above = record {
  adds = λ k. (
    (λ w. inl w),
    (λ w. elim w [
      | inl old ↦ old
      | inr named ↦ absurd named.0
    ]),
  );
  above = above;
  left = [];
  queued = refl;
  place = omega arith;
  is = refl;
}

-- some ids, and then others
pub learns_more : (old mid new : ClientState) (xs ys : List ℕ) → LearnStep old xs mid → LearnStep mid ys new → LearnStep old (xs ++ ys) new
learns_more old mid new xs ys a b =
    let same_last : mid.last ≡ old.last = ap (λ (s : ClientState). s.last) a.is in
    let one = a.place in
    let two = b.place in
    record {
      adds = λ k. (
        (λ w. elim ((b.adds k).0 w) [
          | inl m ↦ elim ((a.adds k).0 m) [
            | inl o ↦ inl o
            | inr n ↦ inr ((is_in_append xs ys k).1 (inl n.0), n.1)
          ]
          | inr n ↦ inr ((is_in_append xs ys k).1 (inr n.0), (let low = n.1 in omega (arith, low, same_last)))
        ]),
        (λ w. elim w [
          | inl o ↦ (b.adds k).1 (inl ((a.adds k).1 (inl o)))
          | inr n ↦ elim ((is_in_append xs ys k).0 n.0) [
            | inl i ↦ (b.adds k).1 (inl ((a.adds k).1 (inr (i, n.1))))
            | inr i ↦ (b.adds k).1 (inr (i, (let low = n.1 in omega (arith, low, same_last))))
          ]
        ]),
      );
      above = b.above;
      left = a.left ++ b.left;
      queued = a.queued ∙ ap (λ (q : List (List ℕ)). a.left ++ q) b.queued ∙ sym (append_assoc a.left b.left new.queue);
      place = omega (arith, length-append a.left b.left, one, two);
      is = b.is ∙ ap (λ (s : ClientState). record s { confirmed = new.confirmed; above = new.above; queue = new.queue }) a.is;
    }

-- ---- the ids of a list, one after the other

-- what was learned of the first ids, for any client
abbrev pub Learned : Outgoing → List ℕ → Outgoing → Type 0
Learned old ids new = (s : ClientState) → LearnStep (posting s old) ids (posting s new)

-- an id that was not sent
pub learned_not : (o : Outgoing) (id last : ℕ) → AreApart o.confirmed o.above → last ≡ o.last → last < id → Learned o (id ∷ []) o
learned_not o id last apart same far s = learns_none s o id apart (omega (arith, same, far))

pub learned_none : (o : Outgoing) → AreApart o.confirmed o.above → Learned o [] o
learned_none o apart s = learns_nothing (posting s o) (λ k w. apart_above o.confirmed o.above k apart w)

pub learned_next : (ids : List ℕ) (i d : ℕ) (old mid new : Outgoing) → Learned old (take i ids) mid → i < length ids → Learned mid (get_or ids i d ∷ []) new → Learned old (take (i + 1) ids) new
learned_next ids i d old mid new far inside one s = subst (λ (l : List ℕ). LearnStep (posting s old) l (posting s new)) (sym (take_more ids i d inside)) (learns_more (posting s old) (posting s mid) (posting s new) (take i ids) (get_or ids i d ∷ []) (far s) (one s))

pub learned_all : (ids : List ℕ) (i : ℕ) (old new : Outgoing) → Learned old (take i ids) new → length ids ≤ i → Learned old ids new
learned_all ids i old new far all s = subst (λ (l : List ℕ). LearnStep (posting s old) l (posting s new)) (take_all i ids all) (far s)

-- memory ran out at an id
pub learned_some : (Q : AllocError → Type 0) (r : Result (Unit {0}) AllocError) (ids : List ℕ) (i : ℕ) (old mid new : Outgoing) → IsErrAnd r Q → Learned old (take i ids) mid → new ≡ mid → LearnsSome r ids old new
learned_some Q (Ok u) ids i old mid new h far same = absurd h
learned_some Q (Err e) ids i old mid new h far same = (take i ids, drop i ids, sym (take-append-drop i ids), λ s. subst (λ (o : Outgoing). LearnStep (posting s old) (take i ids) (posting s o)) (sym same) (far s))
