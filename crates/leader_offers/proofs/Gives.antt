-- What is laid is what an offer and a stored offset give, within the limits.
use Rattle.std.proofs.Common.{◌≡◌, ℕ, ◌+◌, ◌≤◌, ◌<◌, Bool, true, false, cond, nat_lt, inl, inr, List, [], ◌∷◌, ◌++◌, length, take, drop, Option, Some, None, Result, IfOk, IfErr, OnErr, refl, sym, ap, subst, ◌∙◌, arith, length-append}
use Rattle.std.specs.Prelude.{ℤ, ◌==◌, position}
use Rattle.std.specs.List.{AllByRecursion}
use Rattle.std.proofs.lemmas.List.{append-nil}
use Rattle.frame_wire.specs.declared.limits.Limits.{Limits}
use Rattle.chunk_format.specs.declared.chunk.Chunk.{Chunk}
use Rattle.chunk_format.specs.Logs.{end_of, opening_chunk}
use Rattle.chunk_format.specs.ByName.{Greatest, LastStored}
use Rattle.command_data.specs.declared.item.Tagged.{Tagged}
use Rattle.epoch_coordinator.specs.Members.{MemberState, sequence_of}
use Rattle.epoch_coordinator.specs.MemberSteps.{stamp_at}
use Rattle.epoch_coordinator.specs.Offers.{Item, accepted, user_chunk, offset_chunk, since_snapshot, snapshot_every, with_snapshot, most_entries}
use Rattle.member_core.specs.Kept.{bytes_of, plain_count}
use Rattle.member_core.specs.States.{waiting_of}
use Rattle.stream_terms.specs.declared.terms.Taken.{Taken}
use Rattle.stream_terms.specs.declared.terms.What.{What}
use Rattle.stream_terms.specs.declared.terms.What.TheVariants.{References, Consumers, LogBytes, Queue}
use Rattle.stream_terms.specs.declared.terms.OfferFault.{OfferFault}
use Rattle.stream_terms.specs.declared.terms.OfferFault.TheVariants as refused
use Rattle.stream_terms.specs.Views.{name_of}
use Rattle.stream_terms.specs.Steps.{names_one}
use Rattle.offer_chunks.specs.Taken.{items_of, is_empty_batch, taken_from, IdFits}
use Rattle.leader_offers.specs.declared.put.Stop.{Stop}
use Rattle.leader_offers.specs.declared.put.Stop.TheVariants as stops
use Rattle.leader_offers.specs.Adds.{offer_adds, offset_adds, taken_items, HasRoom, references_of, consumers_of, new_names, references_with, consumers_with, Passes, offer_limits, Limited, Added, OfferAdded, OfferRefused, OffsetAdded, OffsetRefused}
use Rattle.leader_offers.specs.Leads.{Leads, SomeBehind, Put, WhyStopped, IsStopped, IsFull, run_chunks, all_chunks}
use Rattle.leader_offers.proofs.Runs.{parted}

-- ---- the chunks are those of the rules

taken_is : (name : List ℕ) (sequence : List Chunk) (items : List Item) → taken_from name (Greatest name sequence) items ≡ accepted name sequence items
taken_is [] sequence items = refl
taken_is (x ∷ name) sequence items = refl

taken_by : (m : MemberState) (name : List ℕ) (g : Option ℕ) (items : List Tagged) → g ≡ Greatest name (sequence_of m) → taken_from name g (items_of items) ≡ taken_items m name items
taken_by m name g items is = ap (λ (o : Option ℕ). taken_from name o (items_of items)) is ∙ taken_is name (sequence_of m) (items_of items)

adds_is : (m : MemberState) (name : List ℕ) (g : Option ℕ) (items : List Tagged) (now : ℕ) → g ≡ Greatest name (sequence_of m) → all_chunks m.promise (stamp_at now) name (sequence_of m) (taken_from name g (items_of items)) ≡ offer_adds m name items now
adds_is m name g items now is = ap (λ (k : List Item). all_chunks m.promise (stamp_at now) name (sequence_of m) k) (taken_by m name g items is)

some_with : (sequence : List Chunk) (c : Chunk) → 0 < length (with_snapshot sequence c)
some_with sequence c = by (since_snapshot (sequence ++ c ∷ []) == snapshot_every)
  where
    by : (b : Bool) → 0 < length (cond b (c ∷ opening_chunk c.epoch c.stamp (sequence ++ c ∷ []) ∷ []) (c ∷ []))
    by true = omega arith
    by false = omega arith

some_run : (epoch : ℕ) (stamp : ℤ) (name : List ℕ) (sequence : List Chunk) (kept : List Item) → 0 < length kept → 0 < length (run_chunks epoch stamp name sequence kept)
some_run epoch stamp name sequence [] some = absurd (omega (arith, some))
some_run epoch stamp name sequence (i ∷ more) some = some_with sequence (user_chunk epoch stamp name (end_of sequence) (take most_entries (i ∷ more)))

some_all : (epoch : ℕ) (stamp : ℤ) (name : List ℕ) (sequence : List Chunk) (kept : List Item) → 0 < length kept → 0 < length (all_chunks epoch stamp name sequence kept)
some_all epoch stamp name sequence kept some =
    let first = some_run epoch stamp name sequence kept some in
    let all = ap length (parted epoch stamp name sequence kept) in
    let join = length-append (run_chunks epoch stamp name sequence kept) (all_chunks epoch stamp name (sequence ++ run_chunks epoch stamp name sequence kept) (drop most_entries kept)) in
    omega (arith, first, all, join)

some_adds : (m : MemberState) (name : List ℕ) (g : Option ℕ) (items : List Tagged) (now : ℕ) → g ≡ Greatest name (sequence_of m) → 0 < length (taken_from name g (items_of items)) → 0 < length (offer_adds m name items now)
some_adds m name g items now is some = subst (λ (x : List Chunk). 0 < length x) (adds_is m name g items now is) (some_all m.promise (stamp_at now) name (sequence_of m) (taken_from name g (items_of items)) some)

-- ---- limits

not_less : (a b : ℕ) → a ≤ b → b < a → ⊥
not_less a b le lt = absurd (omega (arith, le, lt))

bytes_within : (limits : Limits) (m n : MemberState) (name : List ℕ) (chunks : List Chunk) → Put m chunks n → bytes_of (sequence_of n) ≤ limits.log_bytes → Passes limits m name chunks LogBytes → ⊥
bytes_within limits m n name chunks put le (inl more) = let all = ap bytes_of put.0.sequence in absurd (omega (arith, all, le, more))
bytes_within limits m n name chunks put le (inr none) = none put.1

queue_within : (limits : Limits) (m n : MemberState) (name : List ℕ) (chunks : List Chunk) → Put m chunks n → plain_count (waiting_of n) ≤ limits.queue → Passes limits m name chunks Queue → ⊥
queue_within limits m n name chunks put le more = let all = ap plain_count put.0.waiting in absurd (omega (arith, all, le, more))

-- what is behind a leader's sequence, and within the limits of which the first is of names
added : (limits : Limits) (m n : MemberState) (name : List ℕ) (chunks : List Chunk) (first : What) (t : Taken) → Put m chunks n → (Passes limits m name chunks first → ⊥) → bytes_of (sequence_of n) ≤ limits.log_bytes → plain_count (waiting_of n) ≤ limits.queue → t.end ≡ end_of (sequence_of n)
    → Added limits m name chunks (first ∷ LogBytes ∷ Queue ∷ []) t n
added limits m n name chunks first t put names bytes queue end = record {
  state = put.0.state;
  sequence = put.0.sequence;
  room = put.1;
  within = inr (names, (bytes_within limits m n name chunks put bytes, (queue_within limits m n name chunks put queue, tt)));
  end_is = end ∙ ap end_of put.0.sequence;
}

-- a leader stopped where there was no room
stopped_by : (limits : Limits) (m : MemberState) (name : List ℕ) (chunks : List Chunk) (first : What) → 0 < length chunks → (Passes limits m name chunks first → ⊥) → (AllByRecursion HasRoom chunks → ⊥) → Limited limits m name chunks (first ∷ LogBytes ∷ Queue ∷ []) LogBytes limits.log_bytes
stopped_by limits m name chunks first some names none = record { some = some; first = inr (names, inl (refl, inr none)); most_is = refl }

bytes_by : (limits : Limits) (m n : MemberState) (name : List ℕ) (chunks : List Chunk) (first : What) (most : ℕ) → 0 < length chunks → Put m chunks n → (Passes limits m name chunks first → ⊥) → most ≡ limits.log_bytes → limits.log_bytes < bytes_of (sequence_of n)
    → Limited limits m name chunks (first ∷ LogBytes ∷ Queue ∷ []) LogBytes most
bytes_by limits m n name chunks first most some put names most_is more =
    let all = ap bytes_of put.0.sequence in
    record { some = some; first = inr (names, inl (refl, inl (omega (arith, all, more)))); most_is = most_is }

queue_by : (limits : Limits) (m n : MemberState) (name : List ℕ) (chunks : List Chunk) (first : What) (most : ℕ) → 0 < length chunks → Put m chunks n → (Passes limits m name chunks first → ⊥) → most ≡ limits.queue → bytes_of (sequence_of n) ≤ limits.log_bytes → limits.queue < plain_count (waiting_of n)
    → Limited limits m name chunks (first ∷ LogBytes ∷ Queue ∷ []) Queue most
queue_by limits m n name chunks first most some put names most_is few more =
    let all = ap plain_count put.0.waiting in
    record { some = some; first = inr (names, inr (bytes_within limits m n name chunks put few, inl (refl, omega (arith, all, more)))); most_is = most_is }

-- ---- offers

pub offer_added : (limits : Limits) (m n : MemberState) (name : List ℕ) (g : Option ℕ) (items : List Tagged) (now count : ℕ) (t : Taken) → g ≡ Greatest name (sequence_of m) → position is_empty_batch items ≡ None → references_with name m ≤ limits.references
    → Put m (all_chunks m.promise (stamp_at now) name (sequence_of m) (taken_from name g (items_of items))) n → count ≡ length (taken_from name g (items_of items)) → bytes_of (sequence_of n) ≤ limits.log_bytes → plain_count (waiting_of n) ≤ limits.queue
    → t.end ≡ end_of (sequence_of n) → t.accepted ≡ count → AllByRecursion IdFits (items_of items) → OfferAdded limits m name items now t n
offer_added limits m n name g items now count t g_is whole names put count_is bytes queue end accepted fits = record {
  whole = whole;
  added = added limits m n name (offer_adds m name items now) References t (subst (λ (x : List Chunk). Put m x n) (adds_is m name g items now g_is) put) (not_less (references_with name m) limits.references names) bytes queue end;
  accepted_is = accepted ∙ count_is ∙ ap length (taken_by m name g items g_is);
  ids_fit = fits;
}

pub offer_stopped : (limits : Limits) (m : MemberState) (name : List ℕ) (g : Option ℕ) (items : List Tagged) (now : ℕ) (s : Stop) (fault : OfferFault) → g ≡ Greatest name (sequence_of m) → position is_empty_batch items ≡ None → references_with name m ≤ limits.references
    → 0 < length (taken_from name g (items_of items)) → WhyStopped (all_chunks m.promise (stamp_at now) name (sequence_of m) (taken_from name g (items_of items))) s → IsStopped limits s fault → OfferRefused limits m name items now fault
offer_stopped limits m name g items now stops.Large fault g_is whole names some why is =
    subst (OfferRefused limits m name items now) (sym is)
    (whole, stopped_by limits m name (offer_adds m name items now) References (some_adds m name g items now g_is some) (not_less (references_with name m) limits.references names) (λ room. why (subst (AllByRecursion HasRoom) (sym (adds_is m name g items now g_is)) room)))
offer_stopped limits m name g items now stops.Memory fault g_is whole names some why is = subst (OfferRefused limits m name items now) (sym is) tt

pub offer_full : (limits : Limits) (m n : MemberState) (name : List ℕ) (g : Option ℕ) (items : List Tagged) (now : ℕ) (fault : OfferFault) → g ≡ Greatest name (sequence_of m) → position is_empty_batch items ≡ None → references_with name m ≤ limits.references
    → 0 < length (taken_from name g (items_of items)) → Put m (all_chunks m.promise (stamp_at now) name (sequence_of m) (taken_from name g (items_of items))) n → IsFull limits n fault → OfferRefused limits m name items now fault
offer_full limits m n name g items now (refused.Stale asked running) g_is whole names some put full = absurd full
offer_full limits m n name g items now (refused.BadName len) g_is whole names some put full = absurd full
offer_full limits m n name g items now (refused.EmptyBatch place) g_is whole names some put full = absurd full
offer_full limits m n name g items now (refused.Limit References most) g_is whole names some put full = absurd full
offer_full limits m n name g items now (refused.Limit Consumers most) g_is whole names some put full = absurd full
offer_full limits m n name g items now (refused.Limit LogBytes most) g_is whole names some put full =
    let chunks = offer_adds m name items now in
    (whole, bytes_by limits m n name chunks References most (some_adds m name g items now g_is some) (subst (λ (x : List Chunk). Put m x n) (adds_is m name g items now g_is) put) (not_less (references_with name m) limits.references names) full.0 full.1)
offer_full limits m n name g items now (refused.Limit Queue most) g_is whole names some put full =
    let chunks = offer_adds m name items now in
    (whole, queue_by limits m n name chunks References most (some_adds m name g items now g_is some) (subst (λ (x : List Chunk). Put m x n) (adds_is m name g items now g_is) put) (not_less (references_with name m) limits.references names) full.0 full.1 full.2)
offer_full limits m n name g items now refused.Memory g_is whole names some put full = absurd full

pub nothing_added : (limits : Limits) (m n : MemberState) (name : List ℕ) (g : Option ℕ) (items : List Tagged) (now : ℕ) (t : Taken) → Leads m → n ≡ m → g ≡ Greatest name (sequence_of m) → position is_empty_batch items ≡ None → taken_from name g (items_of items) ≡ [] → t.end ≡ end_of (sequence_of n) → t.accepted ≡ 0 → AllByRecursion IdFits (items_of items)
    → OfferAdded limits m name items now t n
nothing_added limits m n name g items now t l same g_is whole none end count fits =
    let kept : taken_items m name items ≡ [] = sym (taken_by m name g items g_is) ∙ none in
    let chunks : offer_adds m name items now ≡ [] = ap (λ (k : List Item). all_chunks m.promise (stamp_at now) name (sequence_of m) k) kept in
    record {
      whole = whole;
      added = subst (λ (x : List Chunk). Added limits m name x offer_limits t n) (sym chunks) (record {
        state = same;
        sequence = ap sequence_of same ∙ sym (append-nil (sequence_of m));
        room = tt;
        within = inl refl;
        end_is = end ∙ ap (λ (x : MemberState). end_of (sequence_of x)) same ∙ ap end_of (sym (append-nil (sequence_of m)));
      });
      accepted_is = count ∙ sym (ap length kept);
      ids_fit = fits;
    }

pub more_publishers : (limits : Limits) (m : MemberState) (name : List ℕ) (g : Option ℕ) (items : List Tagged) (now most : ℕ) → g ≡ Greatest name (sequence_of m) → position is_empty_batch items ≡ None → 0 < length (taken_from name g (items_of items)) → limits.references < references_with name m → most ≡ limits.references
    → OfferRefused limits m name items now (refused.Limit References most)
more_publishers limits m name g items now most g_is whole some more is = (whole, record { some = some_adds m name g items now g_is some; first = inl (refl, more); most_is = is })

-- ---- stored offsets

offset_named : (name : List ℕ) → 1 ≤ length name → length name ≤ 255 → names_one (Some name) ≡ true
offset_named name some few = grind (arith, some, few)

some_offset : (m : MemberState) (name : List ℕ) (offset now : ℕ) → 0 < length (offset_adds m name offset now)
some_offset m name offset now = some_with (sequence_of m) (offset_chunk m.promise (stamp_at now) name offset (end_of (sequence_of m)))

pub offset_added : (limits : Limits) (m n : MemberState) (name : List ℕ) (offset now : ℕ) (t : Taken) → 1 ≤ length name → length name ≤ 255 → consumers_with name m ≤ limits.consumers → Put m (offset_adds m name offset now) n → bytes_of (sequence_of n) ≤ limits.log_bytes → plain_count (waiting_of n) ≤ limits.queue
    → t.end ≡ end_of (sequence_of n) → t.accepted ≡ 1 → OffsetAdded limits m (Some name) offset now t n
offset_added limits m n name offset now t some few names put bytes queue end count = record {
  named = offset_named name some few;
  added = added limits m n name (offset_adds m name offset now) Consumers t put (not_less (consumers_with name m) limits.consumers names) bytes queue end;
  accepted_is = count;
}

pub offset_stopped : (limits : Limits) (m : MemberState) (name : List ℕ) (offset now : ℕ) (s : Stop) (fault : OfferFault) → 1 ≤ length name → length name ≤ 255 → consumers_with name m ≤ limits.consumers → WhyStopped (offset_adds m name offset now) s → IsStopped limits s fault → OffsetRefused limits m (Some name) offset now fault
offset_stopped limits m name offset now stops.Large fault some few names why is =
    subst (OffsetRefused limits m (Some name) offset now) (sym is) (offset_named name some few, stopped_by limits m name (offset_adds m name offset now) Consumers (some_offset m name offset now) (not_less (consumers_with name m) limits.consumers names) why)
offset_stopped limits m name offset now stops.Memory fault some few names why is = subst (OffsetRefused limits m (Some name) offset now) (sym is) tt

pub offset_full : (limits : Limits) (m n : MemberState) (name : List ℕ) (offset now : ℕ) (fault : OfferFault) → 1 ≤ length name → length name ≤ 255 → consumers_with name m ≤ limits.consumers → Put m (offset_adds m name offset now) n → IsFull limits n fault → OffsetRefused limits m (Some name) offset now fault
offset_full limits m n name offset now (refused.Stale asked running) some few names put full = absurd full
offset_full limits m n name offset now (refused.BadName len) some few names put full = absurd full
offset_full limits m n name offset now (refused.EmptyBatch place) some few names put full = absurd full
offset_full limits m n name offset now (refused.Limit References most) some few names put full = absurd full
offset_full limits m n name offset now (refused.Limit Consumers most) some few names put full = absurd full
offset_full limits m n name offset now (refused.Limit LogBytes most) some few names put full =
    (offset_named name some few, bytes_by limits m n name (offset_adds m name offset now) Consumers most (some_offset m name offset now) put (not_less (consumers_with name m) limits.consumers names) full.0 full.1)
offset_full limits m n name offset now (refused.Limit Queue most) some few names put full =
    (offset_named name some few, queue_by limits m n name (offset_adds m name offset now) Consumers most (some_offset m name offset now) put (not_less (consumers_with name m) limits.consumers names) full.0 full.1 full.2)
offset_full limits m n name offset now refused.Memory some few names put full = absurd full

pub more_consumers_are : (limits : Limits) (m : MemberState) (name : List ℕ) (offset now most : ℕ) → 1 ≤ length name → length name ≤ 255 → limits.consumers < consumers_with name m → most ≡ limits.consumers → OffsetRefused limits m (Some name) offset now (refused.Limit Consumers most)
more_consumers_are limits m name offset now most some few more is = (offset_named name some few, record { some = some_offset m name offset now; first = inl (refl, more); most_is = is })

pub named_added : (limits : Limits) (m n : MemberState) (name : Option (List ℕ)) (bytes : List ℕ) (offset now : ℕ) (t : Taken) → name ≡ Some bytes → OffsetAdded limits m (Some bytes) offset now t n → OffsetAdded limits m name offset now t n
named_added limits m n name bytes offset now t is a = subst (λ (x : Option (List ℕ)). OffsetAdded limits m x offset now t n) (sym is) a

pub named_refused : (limits : Limits) (m : MemberState) (name : Option (List ℕ)) (bytes : List ℕ) (offset now : ℕ) (fault : OfferFault) → name ≡ Some bytes → OffsetRefused limits m (Some bytes) offset now fault → OffsetRefused limits m name offset now fault
named_refused limits m name bytes offset now fault is r = subst (λ (x : Option (List ℕ)). OffsetRefused limits m x offset now fault) (sym is) r

pub bad_name : (limits : Limits) (m : MemberState) (name : Option (List ℕ)) (offset now : ℕ) (fault : OfferFault) → fault ≡ refused.BadName (length (name_of name)) → names_one name ≡ false → OffsetRefused limits m name offset now fault
bad_name limits m name offset now fault is bad = subst (OffsetRefused limits m name offset now) (sym is) (bad, refl)

-- ---- a leader that is as it was

pub fewer : (most count : ℕ) (b : Bool) → b ≡ nat_lt most count → b ≡ false → count ≤ most
fewer most count b is none = let so : nat_lt most count ≡ false = sym is ∙ none in grind (arith, so)

pub above : (most count : ℕ) (b : Bool) → b ≡ nat_lt most count → b ≡ true → most < count
above most count b is more = let so : nat_lt most count ≡ true = sym is ∙ more in grind (arith, so)

pub same_references : (m n : MemberState) (name : List ℕ) (g : Option ℕ) → n ≡ m → g ≡ Greatest name (sequence_of m) → references_of (sequence_of n) + new_names name g ≡ references_with name m
same_references m n name g same is = ap (λ (x : MemberState). references_of (sequence_of x) + new_names name g) same ∙ ap (λ (o : Option ℕ). references_of (sequence_of m) + new_names name o) is

pub same_consumers : (m n : MemberState) (name : List ℕ) (g : Option ℕ) → n ≡ m → g ≡ LastStored name (sequence_of m) → consumers_of (sequence_of n) + new_names name g ≡ consumers_with name m
same_consumers m n name g same is = ap (λ (x : MemberState). consumers_of (sequence_of x) + new_names name g) same ∙ ap (λ (o : Option ℕ). consumers_of (sequence_of m) + new_names name o) is

pub ok_from : (r : Result Taken OfferFault) (limits : Limits) (m same n : MemberState) (name : List ℕ) (items : List Tagged) (now : ℕ) → same ≡ m → IfOk r (λ t. OfferAdded limits same name items now t n) → IfOk r (λ t. OfferAdded limits m name items now t n)
ok_from r limits m same n name items now is a = subst (λ (x : MemberState). IfOk r (λ t. OfferAdded limits x name items now t n)) is a

pub err_from : (r : Result Taken OfferFault) (m same n : MemberState) → same ≡ m → OnErr r (SomeBehind same n) → OnErr r (SomeBehind m n)
err_from r m same n is a = subst (λ (x : MemberState). OnErr r (SomeBehind x n)) is a

pub refused_from : (r : Result Taken OfferFault) (limits : Limits) (m same : MemberState) (name : List ℕ) (items : List Tagged) (now : ℕ) → same ≡ m → IfErr r (OfferRefused limits same name items now) → IfErr r (OfferRefused limits m name items now)
refused_from r limits m same name items now is a = subst (λ (x : MemberState). IfErr r (OfferRefused limits x name items now)) is a

pub offset_ok_from : (r : Result Taken OfferFault) (limits : Limits) (m same n : MemberState) (name : List ℕ) (offset now : ℕ) → same ≡ m → IfOk r (λ t. OffsetAdded limits same (Some name) offset now t n) → IfOk r (λ t. OffsetAdded limits m (Some name) offset now t n)
offset_ok_from r limits m same n name offset now is a = subst (λ (x : MemberState). IfOk r (λ t. OffsetAdded limits x (Some name) offset now t n)) is a

pub offset_refused_from : (r : Result Taken OfferFault) (limits : Limits) (m same : MemberState) (name : List ℕ) (offset now : ℕ) → same ≡ m → IfErr r (OffsetRefused limits same (Some name) offset now) → IfErr r (OffsetRefused limits m (Some name) offset now)
offset_refused_from r limits m same name offset now is a = subst (λ (x : MemberState). IfErr r (OffsetRefused limits x (Some name) offset now)) is a
