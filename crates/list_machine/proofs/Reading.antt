-- What a subscription was sent, along a run.
use Rattle.std.proofs.Common.{◌≡◌, ℕ, ◌+◌, ◌<◌, ◌≤◌, ◌⊎◌, ◌&&◌, Bool, true, false, cond, List, [], ◌∷◌, ◌++◌, length, Option, Some, refl, sym, ap, subst, ◌∙◌, inl, inr, arith, append_assoc, length-append}
use Rattle.std.specs.Prelude.{nat_lt}
use Rattle.chunk_format.specs.declared.chunk.Chunk.{Chunk}
use Rattle.chunk_format.specs.Chunks.{IsChunk, end_of_chunk}
use Rattle.chunk_format.specs.Logs.{end_from, end_of, Linked, IsLog, is_user, is_above, users_above, next_above}
use Rattle.chunk_format.proofs.LinkLaws.{chunk_goes_on, end_push, end_past}
use Rattle.chunk_format.proofs.UserLaws.{users_join, users_step}
use Rattle.list_machine.specs.Streams.{Subscription}
use Rattle.list_machine.specs.Subscribing.{with_delivery}
use Rattle.list_machine.specs.Laws.{DeliversRun}

-- what stands of a subscription: the next offset is not before the start, and it is the start or within the list
pub record Follows (chunks : List Chunk) (s : Subscription) : Type 0 where
  pub delivers : DeliversRun chunks s
  pub placed : (s.next ≡ s.start) ⊎ ((s.start ≤ s.next) × (s.next ≤ end_of chunks))

-- a subscription that starts
pub starts_following : (chunks : List Chunk) (s : Subscription) → s.delivered ≡ [] → s.next ≡ s.start → s.sent + s.credits ≤ s.granted → Follows chunks s
starts_following chunks s none same credit = record {
  delivers = record {
    run = sym (ap (λ (l : List Chunk). l ++ users_above s.next chunks) none ∙ ap (λ (n : ℕ). users_above n chunks) same);
    since = omega (arith, ap length none);
    credit = credit;
  };
  placed = inl same;
}

-- a chunk that ends above both offsets is above both, or above none
beyond : (u : Bool) (from other end : ℕ) → from < end → other < end → (u && nat_lt from end) ≡ (u && nat_lt other end)
beyond true from other end h k = grind arith
beyond false from other end h k = refl

same_above_one : (chunks : List Chunk) (chunk : Chunk) (s : Subscription) → IsChunk chunk → chunk.first ≡ end_of chunks → (s.next ≡ s.start) ⊎ ((s.start ≤ s.next) × (s.next ≤ end_of chunks))
    → users_above s.start (chunk ∷ []) ≡ users_above s.next (chunk ∷ [])
same_above_one chunks chunk s is first (inl same) = ap (λ (n : ℕ). users_above n (chunk ∷ [])) (sym same)
same_above_one chunks chunk s is first (inr within) =
    let goes = chunk_goes_on chunk is in
    ap (λ (b : Bool). cond {A = List Chunk} b (chunk ∷ []) [])
    (beyond (is_user chunk.kind) s.start s.next (end_of_chunk chunk) (omega (arith, goes, first, within.0, within.1)) (omega (arith, goes, first, within.1)))

-- a chunk more in the list
pub follows_more : (chunks : List Chunk) (chunk : Chunk) → IsChunk chunk → chunk.first ≡ end_of chunks → (s : Subscription) → Follows chunks s → Follows (chunks ++ chunk ∷ []) s
follows_more chunks chunk is first s f = record {
  delivers = record {
    run = users_join s.start chunks (chunk ∷ [])
        ∙ ap (λ (l : List Chunk). l ++ users_above s.start (chunk ∷ [])) f.delivers.run
        ∙ append_assoc s.delivered (users_above s.next chunks) (users_above s.start (chunk ∷ []))
        ∙ ap (λ (l : List Chunk). s.delivered ++ (users_above s.next chunks ++ l)) (same_above_one chunks chunk s is first f.placed)
        ∙ ap (λ (l : List Chunk). s.delivered ++ l) (sym (users_join s.next chunks (chunk ∷ [])));
    since = f.delivers.since;
    credit = f.delivers.credit;
  };
  placed = elim f.placed [
    | inl same ↦ inl same
    | inr within ↦ inr (within.0, (let goes = chunk_goes_on chunk is in let end = end_push chunks chunk in omega (arith, goes, first, within.1, end)))
  ];
}

-- the chunk that is next is above the offset, and within the list
passes_above : (u : Bool) (from end : ℕ) → (u && nat_lt from end) ≡ true → from < end
passes_above true from end h = grind arith
passes_above false from end h = absurd cc

found_above : (from : ℕ) (c chunk : Chunk) (rest : Option Chunk) (b : Bool) → is_above from c ≡ b → cond b (Some c) rest ≡ Some chunk → (rest ≡ Some chunk → from < end_of_chunk chunk) → from < end_of_chunk chunk
found_above from c chunk rest true e f more = let same : c ≡ chunk = cc in subst (λ (d : Chunk). from < end_of_chunk d) same (passes_above (is_user c.kind) from (end_of_chunk c) e)
found_above from c chunk rest false e f more = more f

next_above_is : (from : ℕ) (chunks : List Chunk) (chunk : Chunk) → next_above from chunks ≡ Some chunk → from < end_of_chunk chunk
next_above_is from [] chunk is = absurd cc
next_above_is from (c ∷ cs) chunk is = found_above from c chunk (next_above from cs) (is_above from c) refl is (λ more. next_above_is from cs chunk more)

found_within : (end : ℕ) (c chunk : Chunk) (rest : Option Chunk) (b : Bool) → cond b (Some c) rest ≡ Some chunk → end_of_chunk c ≤ end → (rest ≡ Some chunk → end_of_chunk chunk ≤ end) → end_of_chunk chunk ≤ end
found_within end c chunk rest true f here more = let same : c ≡ chunk = cc in subst (λ (d : Chunk). end_of_chunk d ≤ end) same here
found_within end c chunk rest false f here more = more f

next_within : (from at epoch : ℕ) (chunks : List Chunk) (chunk : Chunk) → Linked at epoch chunks → next_above from chunks ≡ Some chunk → end_of_chunk chunk ≤ end_from at chunks
next_within from at epoch [] chunk l is = absurd cc
next_within from at epoch (c ∷ cs) chunk l is =
    found_within (end_from (end_of_chunk c) cs) c chunk (next_above from cs) (is_above from c) is (end_past (end_of_chunk c) c.epoch cs l.behind) (λ more. next_within from (end_of_chunk c) c.epoch cs chunk l.behind more)

pub follows_delivery : (chunks : List Chunk) (s : Subscription) (chunk : Chunk) → IsLog chunks → Follows chunks s → 1 ≤ s.credits → next_above s.next chunks ≡ Some chunk → Follows chunks (with_delivery s chunk)
follows_delivery chunks s chunk log f credit is =
    let above = next_above_is s.next chunks chunk is in
    record {
      delivers = record {
        run = f.delivers.run
            ∙ ap (λ (l : List Chunk). s.delivered ++ l) (users_step s.next 0 0 chunks chunk log is)
            ∙ sym (append_assoc s.delivered (chunk ∷ []) (users_above (end_of_chunk chunk) chunks));
        since = omega (arith, length-append s.delivered (chunk ∷ []), f.delivers.since);
        credit = omega (arith, credit, f.delivers.credit);
      };
      placed = inr ((elim f.placed [ inl same ↦ omega (arith, same, above) | inr within ↦ omega (arith, within.0, above) ]), next_within s.next 0 0 chunks chunk log is);
    }
