-- Messages on their way, over a delivery and what is sent.
use Rattle.std.proofs.Common.{◌≡◌, ℕ, ◌+◌, ◌<◌, ◌≤◌, ◌⊎◌, List, [], ◌∷◌, ◌++◌, length, refl, sym, ◌∙◌, subst, inl, inr, arith, Some, None, Bool, true, false, cond, zero, suc}
use Rattle.std.specs.Prelude.{◌==◌, nat_lt}
use Rattle.epoch_coordinator.specs.declared.message.Sent.{Sent}
use Rattle.replication_laws.specs.Cluster.{Letter, Reign, ClusterState, last_number, numbered, letter_in, marked}
use Rattle.settling_laws.specs.Settling.{is_up, is_due, due_in, with_reigns}
use Rattle.settling_laws.specs.Measures.{Rising}
use Rattle.settling_laws.specs.Tokens.{OnItsWay}

pub way_more : (At : ℕ → Type 0) (s : Sent) (letters more : List Letter) → OnItsWay At s letters → OnItsWay At s (letters ++ more)
way_more At s [] more h = absurd h
way_more At s (l ∷ letters) more (inl h) = inl h
way_more At s (l ∷ letters) more (inr h) = inr (way_more At s letters more h)

pub way_behind : (At : ℕ → Type 0) (s : Sent) (letters more : List Letter) → OnItsWay At s more → OnItsWay At s (letters ++ more)
way_behind At s [] more h = h
way_behind At s (l ∷ letters) more h = inr (way_behind At s letters more h)

-- another message was delivered, or one of another number
pub way_marked : (At : ℕ → Type 0) (n : ℕ) (s t : Sent) (letters : List Letter) → letter_in n letters ≡ Some t → ((At n) → t ≡ s → ⊥) → OnItsWay At s letters → OnItsWay At s (marked n letters)
way_marked At n s t [] is other h = absurd h
way_marked At n s t (l ∷ letters) is other h = go (l.number == n) refl is h (way_marked At n s t letters)
  where
    same : (a b : ℕ) → (a == b) ≡ true → a ≡ b
    same a b e = grind arith

    go : (b : Bool) → (l.number == n) ≡ b → cond b (Some l.sent) (letter_in n letters) ≡ Some t → OnItsWay At s (l ∷ letters)
        → (letter_in n letters ≡ Some t → (At n → t ≡ s → ⊥) → OnItsWay At s letters → OnItsWay At s (marked n letters))
        → OnItsWay At s (cond b (record l { delivered = true } ∷ letters) (l ∷ marked n letters))
    go true e x (inl h) on = absurd (let sent : l.sent ≡ t = cc x in other (subst At (same l.number n e) h.1) (sym sent ∙ h.2))
    go true e x (inr h) on = inr h
    go false e x (inl h) on = inl h
    go false e x (inr h) on = inr (on x other h)

-- one of several
abbrev pub IsOf : Sent → List Sent → Type 0
IsOf s [] = ⊥
IsOf s (x ∷ xs) = (x ≡ s) ⊎ IsOf s xs

-- what is sent is on its way, where numbers last
pub way_sent : (At : ℕ → Type 0) (s : Sent) (last : ℕ) (sent : List Sent) → ((n : ℕ) → last < n → At n) → last + length (numbered last sent) < last_number → IsOf s sent → OnItsWay At s (numbered last sent)
way_sent At s last [] behind room h = absurd h
way_sent At s last (x ∷ xs) behind room h = go (nat_lt last last_number) refl room h (way_sent At s (last + 1) xs (λ n lt. behind n (omega (arith, lt))))
  where
    over : (a b : ℕ) → nat_lt a b ≡ false → b ≤ a
    over a b e = grind arith

    go : (b : Bool) → nat_lt last last_number ≡ b
        → last + length (cond b (record { number = last + 1; delivered = false; sent = x } ∷ numbered (last + 1) xs) []) < last_number → IsOf s (x ∷ xs)
        → (last + 1 + length (numbered (last + 1) xs) < last_number → IsOf s xs → OnItsWay At s (numbered (last + 1) xs))
        → OnItsWay At s (cond b (record { number = last + 1; delivered = false; sent = x } ∷ numbered (last + 1) xs) [])
    go false e r h on = absurd (let z = over last last_number e in omega (arith, z, r))
    go true e r (inl h) on = inl (refl, behind (last + 1) (omega arith), h)
    go true e r (inr h) on = inr (on (omega (arith, r)) h)

pub of_more : (s : Sent) (xs ys : List Sent) → IsOf s xs → IsOf s (xs ++ ys)
of_more s [] ys h = absurd h
of_more s (x ∷ xs) ys (inl h) = inl h
of_more s (x ∷ xs) ys (inr h) = inr (of_more s xs ys h)

pub of_behind : (s : Sent) (xs ys : List Sent) → IsOf s ys → IsOf s (xs ++ ys)
of_behind s [] ys h = h
of_behind s (x ∷ xs) ys h = inr (of_behind s xs ys h)

-- with no message due nothing is on its way to who is up
pub way_none : (At : ℕ → Type 0) (w : ClusterState) (s : Sent) (letters : List Letter) → due_in w letters ≡ None → is_up w s.to ≡ true → OnItsWay At s letters → ⊥
way_none At w s [] e up h = h
way_none At w s (l ∷ letters) e up h = go (is_due w l) refl e h (way_none At w s letters)
  where
    go : (b : Bool) → is_due w l ≡ b → cond b (Some l.number) (due_in w letters) ≡ None → OnItsWay At s (l ∷ letters) → (due_in w letters ≡ None → is_up w s.to ≡ true → OnItsWay At s letters → ⊥) → ⊥
    go true d x h on = cc x
    go false d x (inl h) on = (let due : is_due w l ≡ true = rw (h.0, h.2, up) refl in cc (d, due))
    go false d x (inr h) on = on x up h

-- the message that comes next has the least number
pub way_least : (at : ℕ) (w : ClusterState) (s : Sent) (low : ℕ) (letters : List Letter) (last n : ℕ) → Rising low letters last → due_in w letters ≡ Some n → is_up w s.to ≡ true
    → OnItsWay (λ (x : ℕ). x ≡ at) s letters → (n ≤ at) × (low < at)
way_least at w s low [] last n r e up h = absurd h
way_least at w s low (l ∷ letters) last n r e up h = go (is_due w l) refl e h (way_least at w s l.number letters last n r.1)
  where
    rest : (low' : ℕ) → OnItsWay (λ (x : ℕ). x ≡ at) s letters → Rising low' letters last → low' < at
    rest low' h r' = behind low' letters r' h
      where
        behind : (low' : ℕ) (xs : List Letter) → Rising low' xs last → OnItsWay (λ (x : ℕ). x ≡ at) s xs → low' < at
        behind low' [] r h = absurd h
        behind low' (x ∷ xs) r (inl h) = omega (arith, r.0, h.1)
        behind low' (x ∷ xs) r (inr h) = (let z = behind x.number xs r.1 h in omega (arith, z, r.0))

    go : (b : Bool) → is_due w l ≡ b → cond b (Some l.number) (due_in w letters) ≡ Some n → OnItsWay (λ (x : ℕ). x ≡ at) s (l ∷ letters)
        → (due_in w letters ≡ Some n → is_up w s.to ≡ true → OnItsWay (λ (x : ℕ). x ≡ at) s letters → (n ≤ at) × (l.number < at)) → (n ≤ at) × (low < at)
    go true d x (inl h) on = (let same : l.number ≡ n = cc x in omega (arith, same, h.1), omega (arith, r.0, h.1))
    go true d x (inr h) on = (let same : l.number ≡ n = cc x in let z = rest l.number h r.1 in (omega (arith, same, z), omega (arith, r.0, z)))
    go false d x (inl h) on = absurd (let due : is_due w l ≡ true = rw (h.0, h.2, up) refl in cc (d, due))
    go false d x (inr h) on = (let z = on x up h in let y = z.1 in (z.0, omega (arith, r.0, y)))

-- reigns change nothing of it
up_with : (reigns : List Reign) (w : ClusterState) (k : ℕ) → is_up (with_reigns reigns w) k ≡ is_up w k
up_with reigns w zero = refl
up_with reigns w (suc i) = refl

pub due_with : (reigns : List Reign) (w : ClusterState) (letters : List Letter) → due_in (with_reigns reigns w) letters ≡ due_in w letters
due_with reigns w [] = refl
due_with reigns w (l ∷ letters) = rw (up_with reigns w l.sent.to, due_with reigns w letters) refl
