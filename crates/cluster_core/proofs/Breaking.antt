-- Logs that are broken.
use Rattle.std.proofs.Common.{◌≡◌, ◌≤◌, ◌<◌, ◌+◌, ◌&&◌, ◌==◌, ℕ, zero, suc, Bool, true, false, nat_le, List, [], ◌∷◌, ◌++◌, length, take, drop, slice_index_or, refl, sym, ap, subst, ◌∙◌, inl, inr, arith}
use Rattle.std.proofs.lemmas.Grind.{common_steps}
use Rattle.chunk_format.specs.declared.chunk.Chunk.{Chunk}
use Rattle.chunk_format.specs.declared.chunk.Header.{Header}
use Rattle.chunk_format.specs.Chunks.{IsChunk, end_of_chunk, header_of}
use Rattle.chunk_format.specs.Logs.{IsLog, end_of, last_epoch}
use Rattle.chunk_format.proofs.LinkLaws.{end_push, epoch_push, linked_push}
use Rattle.cluster_core.specs.Breaks.{Misfits, Breaks}

-- the chunks so far are a log up to an end, in epochs up to one
pub record SoFar (chunks : List Chunk) (at promise end epoch : ℕ) : Type 0 where
  pub whole : IsLog (take at chunks)
  pub end_is : end ≡ end_of (take at chunks)
  pub epoch_is : epoch ≡ last_epoch (take at chunks)
  pub promised : epoch ≤ promise

take_next : {A : Type 0} (xs : List A) (at : ℕ) (x : A) → at < length xs → x ≡ slice_index_or xs at x → take (at + 1) xs ≡ take at xs ++ x ∷ []
take_next xs at x lt e = subst (λ (n : ℕ). take n xs ≡ take at xs ++ x ∷ []) (is_next at) (go xs at x lt e)
  where
    is_next : (n : ℕ) → suc n ≡ n + 1
    is_next n = omega arith

    go : {A : Type 0} (xs : List A) (at : ℕ) (x : A) → at < length xs → x ≡ slice_index_or xs at x → take (suc at) xs ≡ take at xs ++ x ∷ []
    go [] at x lt e = absurd (omega (arith, lt))
    go {A} (y ∷ xs) zero x lt e = ap (λ (z : A). z ∷ []) (sym e)
    go {A} (y ∷ xs) (suc at) x lt e = ap (λ (z : List A). y ∷ z) (go xs at x (omega (arith, lt)) e)

pub so_far : (chunks : List Chunk) (at promise end epoch : ℕ) (c : Chunk) → SoFar chunks at promise end epoch → at < length chunks → c ≡ slice_index_or chunks at c → IsChunk c → c.first ≡ end → epoch ≤ c.epoch → c.epoch ≤ promise
    → SoFar chunks (at + 1) promise (end_of_chunk c) c.epoch
so_far chunks at promise end epoch c s lt e is begins after below =
    let next = take_next chunks at c lt e in
    let front = take at chunks in
    record {
      whole = subst IsLog (sym next) (linked_push 0 0 front c s.whole (begins ∙ s.end_is) (let z = s.epoch_is in omega (arith, z, after)) is);
      end_is = sym (ap end_of next ∙ end_push front c);
      epoch_is = sym (ap last_epoch next ∙ epoch_push front c);
      promised = below;
    }

take_drop : {A : Type 0} (n : ℕ) (xs : List A) → xs ≡ take n xs ++ drop n xs
take_drop n xs = grind (arith, common_steps)

drop_next : {A : Type 0} (xs : List A) (at : ℕ) (x : A) → at < length xs → x ≡ slice_index_or xs at x → drop at xs ≡ x ∷ drop (suc at) xs
drop_next [] at x lt e = absurd (omega (arith, lt))
drop_next {A} (y ∷ xs) zero x lt e = ap (λ (z : A). z ∷ xs) (sym e)
drop_next (y ∷ xs) (suc at) x lt e = drop_next xs at x (omega (arith, lt)) e

third_false : (a b c : Bool) → a ≡ true → b ≡ true → (a && (b && c)) ≡ false → c ≡ false
third_false true true c p q h = h
third_false true false c p q h = absurd (cc q)
third_false false b c p q h = absurd (cc p)

misfit : (front : List Chunk) (promise end epoch : ℕ) (c : Chunk) → end ≡ end_of front → epoch ≡ last_epoch front → ((c.first == end) && (nat_le epoch c.epoch && nat_le c.epoch promise)) ≡ false → Misfits front promise c
misfit front promise end epoch c p q h = by (c.first == end) refl (nat_le epoch c.epoch) refl
  where
    over : (a b : ℕ) → nat_le a b ≡ false → b < a
    over a b h = grind arith

    other : (a b : ℕ) → (a == b) ≡ false → a ≡ b → ⊥
    other a b h e = grind arith

    by : (x : Bool) → (c.first == end) ≡ x → (y : Bool) → nat_le epoch c.epoch ≡ y → Misfits front promise c
    by false first y after = inl (λ e. other c.first end first (e ∙ sym p))
    by true first false after = inr (inl (let z = over epoch c.epoch after in omega (arith, z, q)))
    by true first true after = inr (inr (over c.epoch promise (third_false (c.first == end) (nat_le epoch c.epoch) (nat_le c.epoch promise) first after h)))

pub breaks : (chunks : List Chunk) (at promise end epoch : ℕ) (c : Chunk) → SoFar chunks at promise end epoch → at < length chunks → c ≡ slice_index_or chunks at c → ((c.first == end) && (nat_le epoch c.epoch && nat_le c.epoch promise)) ≡ false → Breaks chunks promise c.first
breaks chunks at promise end epoch c s lt e wrong = record {
  front = take at chunks;
  chunk = c;
  rest = drop (suc at) chunks;
  parts = take_drop at chunks ∙ ap (λ (z : List Chunk). take at chunks ++ z) (drop_next chunks at c lt e);
  whole = s.whole;
  promised = (let p = s.promised in let q = s.epoch_is in omega (arith, p, q));
  misfits = misfit (take at chunks) promise end epoch c s.end_is s.epoch_is wrong;
  begins = refl;
}

-- ---- by headers

both : (a b : Bool) → (a && b) ≡ true → (a ≡ true) × (b ≡ true)
both true true h = (refl, refl)
both true false h = absurd (cc h)
both false b h = absurd (cc h)

same : (a b : ℕ) → (a == b) ≡ true → a ≡ b
same a b h = grind arith

at_most : (a b : ℕ) → nat_le a b ≡ true → a ≤ b
at_most a b h = grind arith

pub breaks_at : (chunks : List Chunk) (at promise end epoch : ℕ) (c : Chunk) (h : Header) (b : Bool) → SoFar chunks at promise end epoch → at < length chunks → c ≡ slice_index_or chunks at c → h ≡ header_of c → b ≡ ((h.first == end) && (nat_le epoch h.epoch && nat_le h.epoch promise)) → b ≡ false
    → Breaks chunks promise h.first
breaks_at chunks at promise end epoch c h b s lt e head is wrong =
    subst (Breaks chunks promise) (sym (ap (λ (x : Header). x.first) head))
    (breaks chunks at promise end epoch c s lt e (sym (ap (λ (x : Header). (x.first == end) && (nat_le epoch x.epoch && nat_le x.epoch promise)) head) ∙ sym is ∙ wrong))

pub so_far_at : (chunks : List Chunk) (at promise end epoch next : ℕ) (c : Chunk) (h : Header) (b : Bool) → SoFar chunks at promise end epoch → at < length chunks → c ≡ slice_index_or chunks at c → IsChunk c → h ≡ header_of c → b ≡ ((h.first == end) && (nat_le epoch h.epoch && nat_le h.epoch promise)) → b ≡ true → next ≡ end_of_chunk c
    → SoFar chunks (at + 1) promise next h.epoch
so_far_at chunks at promise end epoch next c h b s lt e chunk head is right ends =
    let t : ((c.first == end) && (nat_le epoch c.epoch && nat_le c.epoch promise)) ≡ true = sym (ap (λ (x : Header). (x.first == end) && (nat_le epoch x.epoch && nat_le x.epoch promise)) head) ∙ sym is ∙ right in
    let p = both (c.first == end) (nat_le epoch c.epoch && nat_le c.epoch promise) t in
    let q = both (nat_le epoch c.epoch) (nat_le c.epoch promise) p.1 in
    subst (λ (n : ℕ). SoFar chunks (at + 1) promise n h.epoch) (sym ends)
    (subst (λ (n : ℕ). SoFar chunks (at + 1) promise (end_of_chunk c) n) (sym (ap (λ (x : Header). x.epoch) head)) (so_far chunks at promise end epoch c s lt e chunk (same c.first end p.0) (at_most epoch c.epoch q.0) (at_most c.epoch promise q.1)))
