-- Where an id stands among ranges, and what is confirmed then.
use Rattle.std.proofs.Common.{true, false, ◌≡◌, ◌⊎◌, ◌↔◌, ℕ, ◌+◌, ◌-◌, ◌<◌, ◌≤◌, ◌==◌, ◌&&◌, ◌||◌, Bool, cond, nat_lt, nat_le, List, [], ◌∷◌, ◌++◌, length, take, drop, position, Option, Some, None, suc, refl, sym, ap, ap₂, subst, ◌∙◌, inl, inr, arith}
use Rattle.std.specs.List.{position_or_len}
use Rattle.confirmed_ids.specs.declared.ranges.Range.{Range}
use Rattle.confirmed_ids.specs.Ids.{Confirms, IsWithin, IsConfirmedIn, AreApart}
use Rattle.confirmed_ids.specs.Putting.{reaches, range_of, single, follows, put_joined, put_here, put_behind, with_id, joined_to, behind_joined}

-- ---- tests of numbers

-- a test that holds or not, and what follows
data Tells (P N : Type 0) (b : Bool) : Type 0 where
  holds : b ≡ true → P → Tells P N b
  fails : b ≡ false → N → Tells P N b

tell : (P N : Type 0) (b : Bool) → (b ≡ true → P) → (b ≡ false → N) → Tells P N b
tell P N true f g = holds refl (f refl)
tell P N false f g = fails refl (g refl)

less_tells : (a b : ℕ) → Tells (a < b) (b ≤ a) (nat_lt a b)
less_tells a b = tell (a < b) (b ≤ a) (nat_lt a b) (yes_less a b) (no_less a b)
  where
    yes_less : (a b : ℕ) → nat_lt a b ≡ true → a < b
    yes_less a b e = grind arith

    no_less : (a b : ℕ) → nat_lt a b ≡ false → b ≤ a
    no_less a b e = grind arith

most_tells : (a b : ℕ) → Tells (a ≤ b) (b < a) (nat_le a b)
most_tells a b = tell (a ≤ b) (b < a) (nat_le a b) (yes_most a b) (no_most a b)
  where
    yes_most : (a b : ℕ) → nat_le a b ≡ true → a ≤ b
    yes_most a b e = grind arith

    no_most : (a b : ℕ) → nat_le a b ≡ false → b < a
    no_most a b e = grind arith

reach_tells : (id : ℕ) (r : Range) → Tells (id ≤ r.last + 1) (r.last + 1 < id) (reaches id r)
reach_tells id r = tell (id ≤ r.last + 1) (r.last + 1 < id) (reaches id r) (near id r.last) (far id r.last)
  where
    near : (id last : ℕ) → (nat_le id last || (id - last == 1)) ≡ true → id ≤ last + 1
    near id last e = grind arith

    far : (id last : ℕ) → (nat_le id last || (id - last == 1)) ≡ false → last + 1 < id
    far id last e = grind arith

follow_tells : (id : ℕ) (r : Range) → Tells (r.first ≡ id + 1) (r.first ≡ id + 1 → ⊥) (follows id r)
follow_tells id r = tell (r.first ≡ id + 1) (r.first ≡ id + 1 → ⊥) (follows id r) (next id r.first) (not_next id r.first)
  where
    next : (id first : ℕ) → (nat_lt id first && (first - id == 1)) ≡ true → first ≡ id + 1
    next id first e = grind arith

    not_next : (id first : ℕ) → (nat_lt id first && (first - id == 1)) ≡ false → first ≡ id + 1 → ⊥
    not_next id first e is = grind arith

-- ---- what the ranges are then

-- The ranges stay apart behind an id, and have this one more.
pub record Adds (before id : ℕ) (old new : List Range) : Type 0 where
  pub apart : AreApart before new
  pub to : (k : ℕ) → IsWithin new k → IsWithin old k ⊎ (k ≡ id)
  pub from : (k : ℕ) → IsWithin old k ⊎ (k ≡ id) → IsWithin new k

-- the range and the others, where the id comes right behind it
joined_adds : (before id : ℕ) (here : Range) (rest : List Range) → before + 1 < here.first → here.first ≤ here.last → id ≡ here.last + 1 → AreApart here.last rest → Adds before id (here ∷ rest) (put_joined here.first id rest)
joined_adds before id here [] up low is a = record {
  apart = (up, omega (arith, low, is), tt);
  to = λ k w. elim w [
    | inl h ↦ near k h.0 h.1
    | inr h ↦ absurd h
  ];
  from = λ k w. elim w [
    | inl h ↦ elim h [
      | inl r ↦ inl (r.0, let b = r.1 in omega (arith, b, is))
      | inr r ↦ absurd r
    ]
    | inr e ↦ inl (omega (arith, low, is, e), omega (arith, e))
  ];
}
  where
    near : (k : ℕ) → here.first ≤ k → k ≤ id → IsWithin (here ∷ []) k ⊎ (k ≡ id)
    near k a b = elim (most_tells k here.last) [
      | holds e h ↦ inl (inl (a, h))
      | fails e h ↦ inr (omega (arith, b, h, is))
    ]
joined_adds before id here (next ∷ rest) up low is a = elim (follow_tells id next) [
  | holds e f ↦ subst (Adds before id (here ∷ next ∷ rest)) (sym (ap (λ (b : Bool). cond b (range_of here.first next.last ∷ rest) (range_of here.first id ∷ next ∷ rest)) e)) record {
    apart = (up, (let b = a.1 in omega (arith, low, is, f, b)), a.2);
    to = λ k w. elim w [
      | inl h ↦ wide k h.0 h.1 f
      | inr h ↦ inl (inr (inr h))
    ];
    from = λ k w. elim w [
      | inl h ↦ elim h [
        | inl r ↦ inl (r.0, let b = r.1 in let c = a.1 in omega (arith, b, c, is, f))
        | inr r ↦ elim r [
          | inl q ↦ inl (let b = q.0 in omega (arith, low, b, is, f), q.1)
          | inr q ↦ inr q
        ]
      ]
      | inr e ↦ inl (omega (arith, low, is, e), let c = a.1 in omega (arith, e, c, f))
    ];
  }
  | fails e f ↦ subst (Adds before id (here ∷ next ∷ rest)) (sym (ap (λ (b : Bool). cond b (range_of here.first next.last ∷ rest) (range_of here.first id ∷ next ∷ rest)) e)) record {
    apart = (up, omega (arith, low, is), (beyond f, a.1, a.2));
    to = λ k w. elim w [
      | inl h ↦ narrow k h.0 h.1
      | inr h ↦ inl (inr h)
    ];
    from = λ k w. elim w [
      | inl h ↦ elim h [
        | inl r ↦ inl (r.0, let b = r.1 in omega (arith, b, is))
        | inr r ↦ inr r
      ]
      | inr e ↦ inl (omega (arith, low, is, e), omega (arith, e))
    ];
  }
]
  where
    wide : (k : ℕ) → here.first ≤ k → k ≤ next.last → next.first ≡ id + 1 → IsWithin (here ∷ next ∷ rest) k ⊎ (k ≡ id)
    wide k lo hi f = elim (most_tells k here.last) [
      | holds e h ↦ inl (inl (lo, h))
      | fails e h ↦ elim (most_tells k id) [
        | holds e2 g ↦ inr (omega (arith, g, h, is))
        | fails e2 g ↦ inl (inr (inl (omega (arith, g, f), hi)))
      ]
    ]

    narrow : (k : ℕ) → here.first ≤ k → k ≤ id → IsWithin (here ∷ next ∷ rest) k ⊎ (k ≡ id)
    narrow k lo hi = elim (most_tells k here.last) [
      | holds e h ↦ inl (inl (lo, h))
      | fails e h ↦ inr (omega (arith, hi, h, is))
    ]

    beyond : (next.first ≡ id + 1 → ⊥) → id + 1 < next.first
    beyond f = elim (most_tells next.first (id + 1)) [
      | holds e h ↦ absurd (f (let b = a.0 in omega (arith, h, b, is)))
      | fails e h ↦ h
    ]

here_adds : (before id : ℕ) (here : Range) (rest : List Range) → before + 1 < id → id ≤ here.last + 1 → AreApart before (here ∷ rest) → Adds before id (here ∷ rest) (put_here id here rest)
here_adds before id here rest up reach a = elim (less_tells id here.first) [
  | holds e low ↦ elim (less_tells 1 (here.first - id)) [
    | holds g far ↦ subst (Adds before id (here ∷ rest)) (sym (ap₂ (λ (b c : Bool). whole b c (nat_le id here.last)) e g)) record {
      apart = (up, omega arith, (omega (arith, far), a.1, a.2));
      to = λ k w. elim w [
        | inl h ↦ inr (let b = h.0 in let c = h.1 in omega (arith, b, c))
        | inr h ↦ inl h
      ];
      from = λ k w. elim w [
        | inl h ↦ inr h
        | inr e ↦ inl (omega (arith, e), omega (arith, e))
      ];
    }
    | fails g near ↦ subst (Adds before id (here ∷ rest)) (sym (ap₂ (λ (b c : Bool). whole b c (nat_le id here.last)) e g)) record {
      apart = (up, (let b = a.1 in omega (arith, low, b)), a.2);
      to = λ k w. elim w [
        | inl h ↦ first_or k h.0 h.1 (omega (arith, near, low))
        | inr h ↦ inl (inr h)
      ];
      from = λ k w. elim w [
        | inl h ↦ elim h [
          | inl r ↦ inl (let b = r.0 in omega (arith, b, low), r.1)
          | inr r ↦ inr r
        ]
        | inr e ↦ inl (omega (arith, e), let b = a.1 in omega (arith, e, b, low))
      ];
    }
  ]
  | fails e high ↦ elim (most_tells id here.last) [
    | holds g in_it ↦ subst (Adds before id (here ∷ rest)) (sym (ap₂ (λ (b d : Bool). whole b (nat_lt 1 (here.first - id)) d) e g)) record {
      apart = a;
      to = λ k w. inl w;
      from = λ k w. elim w [
        | inl h ↦ h
        | inr e ↦ inl (omega (arith, e, high), omega (arith, e, in_it))
      ];
    }
    | fails g behind ↦ subst (Adds before id (here ∷ rest)) (sym (ap₂ (λ (b d : Bool). whole b (nat_lt 1 (here.first - id)) d) e g))
        (joined_adds before id here rest a.0 a.1 (omega (arith, behind, reach)) a.2)
  ]
]
  where
    whole : Bool → Bool → Bool → List Range
    whole b c d = cond b (cond c (single id ∷ here ∷ rest) (range_of id here.last ∷ rest)) (cond d (here ∷ rest) (put_joined here.first id rest))

    first_or : (k : ℕ) → id ≤ k → k ≤ here.last → here.first ≡ id + 1 → IsWithin (here ∷ rest) k ⊎ (k ≡ id)
    first_or k lo hi is = elim (most_tells k id) [
      | holds e h ↦ inr (omega (arith, lo, h))
      | fails e h ↦ inl (inl (omega (arith, h, is), hi))
    ]

pub with_adds : (before id : ℕ) (ranges : List Range) → before + 1 < id → AreApart before ranges → Adds before id ranges (with_id id ranges)
with_adds before id [] up a = record {
  apart = (up, omega arith, tt);
  to = λ k w. elim w [
    | inl h ↦ inr (let b = h.0 in let c = h.1 in omega (arith, b, c))
    | inr h ↦ absurd h
  ];
  from = λ k w. elim w [
    | inl h ↦ absurd h
    | inr e ↦ inl (omega (arith, e), omega (arith, e))
  ];
}
with_adds before id (r ∷ ranges) up a = elim (reach_tells id r) [
  | holds e near ↦ subst (Adds before id (r ∷ ranges)) (sym (ap (λ (b : Bool). cond b (put_here id r ranges) (r ∷ with_id id ranges)) e)) (here_adds before id r ranges up near a)
  | fails e far ↦ (let more = with_adds r.last id ranges far a.2 in subst (Adds before id (r ∷ ranges)) (sym (ap (λ (b : Bool). cond b (put_here id r ranges) (r ∷ with_id id ranges)) e)) record {
    apart = (a.0, a.1, more.apart);
    to = λ k w. elim w [
      | inl h ↦ inl (inl h)
      | inr h ↦ elim (more.to k h) [
        | inl q ↦ inl (inr q)
        | inr q ↦ inr q
      ]
    ];
    from = λ k w. elim w [
      | inl h ↦ elim h [
        | inl q ↦ inl q
        | inr q ↦ inr (more.from k (inl q))
      ]
      | inr e ↦ inr (more.from k (inr e))
    ];
  })
]

one_more : (n : ℕ) → 1 + n ≡ suc n
one_more n = omega arith

-- where the first range that reaches the id stands
with_at : (id : ℕ) (ranges : List Range) → with_id id ranges ≡ take (position_or_len (reaches id) ranges) ranges ++ put_behind id (drop (position_or_len (reaches id) ranges) ranges)
with_at id [] = refl
with_at id (r ∷ ranges) = at_first id r ranges (reaches id r) refl (with_at id ranges)
  where
    at_first : (id : ℕ) (r : Range) (ranges : List Range) (b : Bool) → reaches id r ≡ b → with_id id ranges ≡ take (position_or_len (reaches id) ranges) ranges ++ put_behind id (drop (position_or_len (reaches id) ranges) ranges)
        → with_id id (r ∷ ranges) ≡ take (position_or_len (reaches id) (r ∷ ranges)) (r ∷ ranges) ++ put_behind id (drop (position_or_len (reaches id) (r ∷ ranges)) (r ∷ ranges))
    at_first id r ranges true e h = rw e refl
    at_first id r ranges false e h =
        rw e (ap (λ (l : List Range). r ∷ l) h ∙ sym (ap (λ (k : ℕ). take k (r ∷ ranges) ++ put_behind id (drop k (r ∷ ranges))) (one_more (position_or_len (reaches id) ranges))))

pub put_with : (id place : ℕ) (ranges front back out new : List Range) → place ≡ position_or_len (reaches id) ranges → front ≡ take place ranges → back ≡ drop place ranges → out ≡ front → new ≡ out ++ put_behind id back → new ≡ with_id id ranges
put_with id place ranges front back out new p f b o n =
    n ∙ ap (λ (l : List Range). l ++ put_behind id back) (o ∙ f) ∙ ap (λ (l : List Range). take place ranges ++ put_behind id l) b
    ∙ ap (λ (k : ℕ). take k ranges ++ put_behind id (drop k ranges)) p ∙ sym (with_at id ranges)

within_length : (p : Range → Bool) (ranges : List Range) → position_or_len p ranges ≤ length ranges
within_length p [] = omega arith
within_length p (r ∷ ranges) = at_first (p r) refl (within_length p ranges)
  where
    at_first : (b : Bool) → p r ≡ b → position_or_len p ranges ≤ length ranges → position_or_len p (r ∷ ranges) ≤ length (r ∷ ranges)
    at_first true e h = rw e (omega arith)
    at_first false e h = rw e (omega (arith, h))

pub place_some : (p : Range → Bool) (ranges : List Range) (place : ℕ) (found : Option ℕ) → found ≡ position p ranges → found ≡ Some place → place ≡ position_or_len p ranges
place_some p ranges place found is e = at (nat_lt (position_or_len p ranges) (length ranges)) (sym is ∙ e)
  where
    at : (b : Bool) → cond b (Some (position_or_len p ranges)) None ≡ Some place → place ≡ position_or_len p ranges
    at true e = cc
    at false e = absurd cc

pub place_none : (p : Range → Bool) (ranges : List Range) (found : Option ℕ) → found ≡ position p ranges → found ≡ None → length ranges ≡ position_or_len p ranges
place_none p ranges found is e = at (nat_lt (position_or_len p ranges) (length ranges)) refl (sym is ∙ e)
  where
    not_less : (a b : ℕ) → nat_lt a b ≡ false → b ≤ a
    not_less a b e = grind arith

    at : (b : Bool) → nat_lt (position_or_len p ranges) (length ranges) ≡ b → cond b (Some (position_or_len p ranges)) None ≡ None → length ranges ≡ position_or_len p ranges
    at true l e = absurd cc
    at false l e = (let low = not_less (position_or_len p ranges) (length ranges) l in let high = within_length p ranges in omega (arith, low, high))

-- ---- the id behind all that are confirmed

pub record Reaches (upto id : ℕ) (old : List Range) (last : ℕ) (new : List Range) : Type 0 where
  pub apart : AreApart last new
  pub to : (k : ℕ) → IsConfirmedIn (record { upto = last; above = new }) k → IsConfirmedIn (record { upto = upto; above = old }) k ⊎ (k ≡ id)
  pub from : (k : ℕ) → IsConfirmedIn (record { upto = upto; above = old }) k ⊎ (k ≡ id) → IsConfirmedIn (record { upto = last; above = new }) k

pub joined_reaches : (upto id : ℕ) (old : List Range) → id ≡ upto + 1 → AreApart upto old → Reaches upto id old (joined_to id old) (behind_joined id old)
joined_reaches upto id [] is a = record {
  apart = tt;
  to = λ k w. elim w [
    | inl h ↦ low_or k h
    | inr h ↦ absurd h
  ];
  from = λ k w. elim w [
    | inl h ↦ elim h [
      | inl q ↦ inl (omega (arith, q, is))
      | inr q ↦ absurd q
    ]
    | inr e ↦ inl (omega (arith, e))
  ];
}
  where
    low_or : (k : ℕ) → k ≤ id → IsConfirmedIn (record { upto = upto; above = [] }) k ⊎ (k ≡ id)
    low_or k h = elim (most_tells k upto) [
      | holds e g ↦ inl (inl g)
      | fails e g ↦ inr (omega (arith, g, h, is))
    ]
joined_reaches upto id (next ∷ rest) is a = elim (follow_tells id next) [
  | holds e f ↦ subst (λ (b : Bool). Reaches upto id (next ∷ rest) (cond b next.last id) (cond b rest (next ∷ rest))) (sym e) record {
    apart = a.2;
    to = λ k w. elim w [
      | inl h ↦ wide k h f
      | inr h ↦ inl (inr (inr h))
    ];
    from = λ k w. elim w [
      | inl h ↦ elim h [
        | inl q ↦ inl (let b = a.1 in omega (arith, q, is, f, b))
        | inr q ↦ elim q [
          | inl r ↦ inl r.1
          | inr r ↦ inr r
        ]
      ]
      | inr e ↦ inl (let b = a.1 in omega (arith, e, f, b))
    ];
  }
  | fails e f ↦ subst (λ (b : Bool). Reaches upto id (next ∷ rest) (cond b next.last id) (cond b rest (next ∷ rest))) (sym e) record {
    apart = (beyond f, a.1, a.2);
    to = λ k w. elim w [
      | inl h ↦ narrow k h
      | inr h ↦ inl (inr h)
    ];
    from = λ k w. elim w [
      | inl h ↦ elim h [
        | inl q ↦ inl (omega (arith, q, is))
        | inr q ↦ inr q
      ]
      | inr e ↦ inl (omega (arith, e))
    ];
  }
]
  where
    wide : (k : ℕ) → k ≤ next.last → next.first ≡ id + 1 → IsConfirmedIn (record { upto = upto; above = next ∷ rest }) k ⊎ (k ≡ id)
    wide k h f = elim (most_tells k upto) [
      | holds e g ↦ inl (inl g)
      | fails e g ↦ elim (most_tells k id) [
        | holds e2 j ↦ inr (omega (arith, g, j, is))
        | fails e2 j ↦ inl (inr (inl (omega (arith, j, f), h)))
      ]
    ]

    narrow : (k : ℕ) → k ≤ id → IsConfirmedIn (record { upto = upto; above = next ∷ rest }) k ⊎ (k ≡ id)
    narrow k h = elim (most_tells k upto) [
      | holds e g ↦ inl (inl g)
      | fails e g ↦ inr (omega (arith, g, h, is))
    ]

    beyond : (next.first ≡ id + 1 → ⊥) → id + 1 < next.first
    beyond f = elim (most_tells next.first (id + 1)) [
      | holds e h ↦ absurd (f (let b = a.0 in omega (arith, h, b, is)))
      | fails e h ↦ h
    ]

-- ---- for the calls

-- an id above those that are confirmed up to one, with a gap
pub put_confirms : (upto id : ℕ) (old new : List Range) → upto + 1 < id → AreApart upto old → new ≡ with_id id old
    → (k : ℕ) → IsConfirmedIn (record { upto = upto; above = new }) k ↔ (IsConfirmedIn (record { upto = upto; above = old }) k ⊎ (k ≡ id))
put_confirms upto id old new up a e k =
    let adds = with_adds upto id old up a in (
      (λ w. elim w [
        | inl h ↦ inl (inl h)
        | inr h ↦ elim (adds.to k (subst (λ (l : List Range). IsWithin l k) e h)) [
          | inl q ↦ inl (inr q)
          | inr q ↦ inr q
        ]
      ]),
      (λ w. elim w [
        | inl h ↦ elim h [
          | inl q ↦ inl q
          | inr q ↦ inr (subst (λ (l : List Range). IsWithin l k) (sym e) (adds.from k (inl q)))
        ]
        | inr q ↦ inr (subst (λ (l : List Range). IsWithin l k) (sym e) (adds.from k (inr q)))
      ]),
    )

pub put_apart : (upto id : ℕ) (old new : List Range) → upto + 1 < id → AreApart upto old → new ≡ with_id id old → AreApart upto new
put_apart upto id old new up a e = subst (AreApart upto) (sym e) (with_adds upto id old up a).apart

-- the id behind those that are confirmed
pub next_confirms : (upto id : ℕ) (old : List Range) (last : ℕ) (new : List Range) → id ≡ upto + 1 → AreApart upto old → last ≡ joined_to id old → new ≡ behind_joined id old
    → (k : ℕ) → IsConfirmedIn (record { upto = last; above = new }) k ↔ (IsConfirmedIn (record { upto = upto; above = old }) k ⊎ (k ≡ id))
next_confirms upto id old last new is a e f k =
    let reached = joined_reaches upto id old is a in (
      (λ w. reached.to k (subst (λ (l : List Range). IsConfirmedIn (record { upto = joined_to id old; above = l }) k) f (subst (λ (n : ℕ). IsConfirmedIn (record { upto = n; above = new }) k) e w))),
      (λ w. subst (λ (n : ℕ). IsConfirmedIn (record { upto = n; above = new }) k) (sym e) (subst (λ (l : List Range). IsConfirmedIn (record { upto = joined_to id old; above = l }) k) (sym f) (reached.from k w))),
    )

pub next_apart : (upto id : ℕ) (old : List Range) (last : ℕ) (new : List Range) → id ≡ upto + 1 → AreApart upto old → last ≡ joined_to id old → new ≡ behind_joined id old → AreApart last new
next_apart upto id old last new is a e f = subst (AreApart last) (sym f) (subst (λ (n : ℕ). AreApart n (behind_joined id old)) (sym e) (joined_reaches upto id old is a).apart)

-- one that is confirmed already
pub again_confirms : (upto id : ℕ) (old : List Range) → id ≤ upto → (k : ℕ) → IsConfirmedIn (record { upto = upto; above = old }) k ↔ (IsConfirmedIn (record { upto = upto; above = old }) k ⊎ (k ≡ id))
again_confirms upto id old low k = (
  (λ w. inl w),
  (λ w. elim w [
    | inl h ↦ h
    | inr e ↦ inl (omega (arith, e, low))
  ]),
)
