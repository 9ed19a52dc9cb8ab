-- The items of an offer are laid run by run.
use Rattle.std.proofs.Common.{◌≡◌, ℕ, suc, ◌+◌, ◌≤◌, ◌<◌, ◌^◌, Bool, true, false, cond, List, [], ◌∷◌, ◌++◌, length, take, drop, Option, Some, refl, sym, ap, subst, ◌∙◌, append_assoc, arith, length-drop}
use Rattle.std.specs.Prelude.{ℤ, ◌==◌}
use Rattle.std.specs.List.{AllByRecursion}
use Rattle.std.proofs.lemmas.List.{append-nil, length-map, length-take}
use Rattle.chunk_format.specs.declared.entry.Entry.{Entry}
use Rattle.chunk_format.specs.declared.chunk.Chunk.{Chunk}
use Rattle.chunk_format.specs.Logs.{end_of}
use Rattle.command_data.specs.declared.item.Tagged.{Tagged}
use Rattle.epoch_coordinator.specs.Members.{MemberState, sequence_of}
use Rattle.epoch_coordinator.specs.Offers.{Item, is_new, rising_from, user_chunk, with_snapshot, most_entries, laid, chunk_count}
use Rattle.offer_chunks.specs.declared.run.Run.{Run}
use Rattle.offer_chunks.specs.Taken.{item_of, items_of, entry_of, entries_of, taken_from, IdFits, IsRun}
use Rattle.leader_offers.specs.declared.put.Stop.{Stop}
use Rattle.leader_offers.specs.declared.put.Stop.TheVariants as stops
use Rattle.leader_offers.specs.declared.lay.Step.{Step}
use Rattle.leader_offers.specs.Adds.{HasRoom}
use Rattle.leader_offers.specs.Leads.{Leads, Behind, Put, WhyStopped, chunk_with, run_chunks, all_chunks, RunLaid}
use Rattle.leader_offers.proofs.Lines.{none_behind, both_behind}

pub all_join : {X : Type 0} (P : X → Type 0) (xs ys : List X) → AllByRecursion P xs → AllByRecursion P ys → AllByRecursion P (xs ++ ys)
all_join P [] ys h k = k
all_join P (x ∷ xs) ys h k = (h.0, all_join P xs ys h.1 k)

pub all_left : {X : Type 0} (P : X → Type 0) (xs ys : List X) → AllByRecursion P (xs ++ ys) → AllByRecursion P xs
all_left P [] ys h = tt
all_left P (x ∷ xs) ys h = (h.0, all_left P xs ys h.1)

pub all_right : {X : Type 0} (P : X → Type 0) (xs ys : List X) → AllByRecursion P (xs ++ ys) → AllByRecursion P ys
all_right P [] ys h = h
all_right P (x ∷ xs) ys h = all_right P xs ys h.1

-- ---- one run

entry_count : (items : List Item) → length (entries_of items) ≡ length items
entry_count items = length-map items entry_of

taken_count : (n : ℕ) (items : List Item) → length (take n items) ≤ n
taken_count n items = let e = length-take n items in omega (arith, e)

pub run_few : (name : List ℕ) (g : Option ℕ) (items : List Item) (run : Run) → IsRun name g 4096 items run → length run.entries ≤ 4096
run_few name g items run is =
    let count = ap length is.entries_are ∙ entry_count (take 4096 (taken_from name g items)) in
    let few = taken_count 4096 (taken_from name g items) in
    omega (arith, count, few)

-- a run has entries where items are taken
chunks_by : (epoch : ℕ) (stamp : ℤ) (name : List ℕ) (sequence : List Chunk) (kept : List Item) → 0 < length kept → run_chunks epoch stamp name sequence kept ≡ with_snapshot sequence (user_chunk epoch stamp name (end_of sequence) (take most_entries kept))
chunks_by epoch stamp name sequence [] some = absurd (omega (arith, some))
chunks_by epoch stamp name sequence (i ∷ more) some = refl

nothing_by : (epoch : ℕ) (stamp : ℤ) (name : List ℕ) (sequence : List Chunk) (kept : List Item) → length kept ≡ 0 → run_chunks epoch stamp name sequence kept ≡ []
nothing_by epoch stamp name sequence [] none = refl
nothing_by epoch stamp name sequence (i ∷ more) none = absurd (omega (arith, none))

some_kept : (name : List ℕ) (g : Option ℕ) (items : List Item) (run : Run) → IsRun name g 4096 items run → (length run.entries ≡ 0 → ⊥) → 0 < length (taken_from name g items)
some_kept name g items run is some =
    let kept = taken_from name g items in
    let count = ap length is.entries_are ∙ entry_count (take 4096 kept) in
    let least = length-take 4096 kept in
    go (length run.entries) (length kept) some (omega (arith, count, least))
  where
    go : (n k : ℕ) → (n ≡ 0 → ⊥) → n ≤ k → 0 < k
    go n k some le = grind (arith, some, le)

no_kept : (name : List ℕ) (g : Option ℕ) (items : List Item) (run : Run) → IsRun name g 4096 items run → length run.entries ≡ 0 → length (taken_from name g items) ≡ 0
no_kept name g items run is none =
    let kept = taken_from name g items in
    let count = ap length is.entries_are ∙ entry_count (take 4096 kept) in
    let least = length-take 4096 kept in
    omega (arith, count, least, none)

made_is : (epoch : ℕ) (stamp : ℤ) (name : List ℕ) (g : Option ℕ) (sequence : List Chunk) (items : List Item) (run : Run) → IsRun name g 4096 items run → (length run.entries ≡ 0 → ⊥)
    → with_snapshot sequence (chunk_with epoch stamp (end_of sequence) run.entries run.trailer) ≡ run_chunks epoch stamp name sequence (taken_from name g items)
made_is epoch stamp name g sequence items run is some =
    ap (λ (es : List Entry). with_snapshot sequence (chunk_with epoch stamp (end_of sequence) es run.trailer)) is.entries_are
    ∙ ap (λ (t : List ℕ). with_snapshot sequence (chunk_with epoch stamp (end_of sequence) (entries_of (take 4096 (taken_from name g items))) t)) is.trailer_is
    ∙ sym (chunks_by epoch stamp name sequence (taken_from name g items) (some_kept name g items run is some))

less_items : (items : List Tagged) (run : Run) → (0 < length (items_of items) → length run.rest.now < length (items_of items)) → 0 < length items → length run.rest.now < length items
less_items items run shorter some =
    let count = length-map items item_of in
    let there = shorter (omega (arith, count, some)) in
    omega (arith, count, there)

pub run_none : (name : List ℕ) (g : Option ℕ) (items : List Tagged) (stamp : ℤ) (m : MemberState) (run : Run) (step : Step) → Leads m → IsRun name g 4096 (items_of items) run → length run.entries ≡ 0 → step.count ≡ 0 → step.greatest ≡ run.greatest → step.rest.now ≡ run.rest.now
    → RunLaid name g items stamp m step m
run_none name g items stamp m run step l is none count greatest rest =
    let kept = taken_from name g (items_of items) in
    let nothing = no_kept name g (items_of items) run is none in
    let least = length-take 4096 kept in
    record {
      put = subst (λ (x : List Chunk). Put m x m) (sym (nothing_by m.promise stamp name (sequence_of m) kept nothing)) (none_behind m l, tt);
      count_is = omega (arith, count, least, nothing);
      rest_is = ap (λ (o : Option ℕ). taken_from name o (items_of step.rest.now)) greatest ∙ ap (λ (r : List Tagged). taken_from name run.greatest (items_of r)) rest ∙ is.rest_is;
      shorter = λ some. let less = less_items items run is.shorter some in let same = ap length rest in omega (arith, less, same);
      ids_fit = λ each. is.ids_fit (subst (λ (r : List Tagged). AllByRecursion IdFits (items_of r)) rest each);
    }

pub run_some : (name : List ℕ) (g : Option ℕ) (items : List Tagged) (stamp : ℤ) (m n : MemberState) (run : Run) (step : Step) → IsRun name g 4096 (items_of items) run → (length run.entries ≡ 0 → ⊥) → step.count ≡ length run.entries → step.greatest ≡ run.greatest → step.rest.now ≡ run.rest.now
    → Put m (with_snapshot (sequence_of m) (chunk_with m.promise stamp (end_of (sequence_of m)) run.entries run.trailer)) n → RunLaid name g items stamp m step n
run_some name g items stamp m n run step is some count greatest rest put =
    let kept = taken_from name g (items_of items) in
    record {
      put = subst (λ (x : List Chunk). Put m x n) (made_is m.promise stamp name g (sequence_of m) (items_of items) run is some) put;
      count_is = count ∙ ap length is.entries_are ∙ entry_count (take 4096 kept);
      rest_is = ap (λ (o : Option ℕ). taken_from name o (items_of step.rest.now)) greatest ∙ ap (λ (r : List Tagged). taken_from name run.greatest (items_of r)) rest ∙ is.rest_is;
      shorter = λ more. let less = less_items items run is.shorter more in let same = ap length rest in omega (arith, less, same);
      ids_fit = λ each. is.ids_fit (subst (λ (r : List Tagged). AllByRecursion IdFits (items_of r)) rest each);
    }

pub run_stopped : (name : List ℕ) (g : Option ℕ) (items : List Tagged) (stamp : ℤ) (m : MemberState) (run : Run) (s : Stop) → IsRun name g 4096 (items_of items) run → (length run.entries ≡ 0 → ⊥)
    → WhyStopped (with_snapshot (sequence_of m) (chunk_with m.promise stamp (end_of (sequence_of m)) run.entries run.trailer)) s → WhyStopped (run_chunks m.promise stamp name (sequence_of m) (taken_from name g (items_of items))) s
run_stopped name g items stamp m run s is some why = subst (λ (x : List Chunk). WhyStopped x s) (made_is m.promise stamp name g (sequence_of m) (items_of items) run is some) why

-- ---- all of them

none_laid : (epoch : ℕ) (stamp : ℤ) (name : List ℕ) (sequence : List Chunk) (kept : List Item) → length kept ≡ 0 → all_chunks epoch stamp name sequence kept ≡ []
none_laid epoch stamp name sequence kept none = let count : chunk_count (length kept) ≡ 0 = omega (arith, none) in ap (λ (n : ℕ). laid n epoch stamp name sequence kept) count

-- the first run, and what is laid behind it
parted_by : (epoch : ℕ) (stamp : ℤ) (name : List ℕ) (sequence : List Chunk) (kept : List Item) (n : ℕ) → length kept ≡ n → n ≡ 0 → all_chunks epoch stamp name sequence kept ≡ run_chunks epoch stamp name sequence kept ++ all_chunks epoch stamp name (sequence ++ run_chunks epoch stamp name sequence kept) (drop most_entries kept)
parted_by epoch stamp name sequence [] n is none = none_laid epoch stamp name sequence [] refl ∙ sym (none_laid epoch stamp name (sequence ++ []) [] refl)
parted_by epoch stamp name sequence (i ∷ more) n is none = absurd (omega (arith, is, none))

next_count : (kept : List Item) → 0 < length kept → chunk_count (length kept) ≡ suc (chunk_count (length (drop most_entries kept)))
next_count kept some = let left = length-drop 4096 kept in omega (arith, left, some)

pub parted : (epoch : ℕ) (stamp : ℤ) (name : List ℕ) (sequence : List Chunk) (kept : List Item) → all_chunks epoch stamp name sequence kept ≡ run_chunks epoch stamp name sequence kept ++ all_chunks epoch stamp name (sequence ++ run_chunks epoch stamp name sequence kept) (drop most_entries kept)
parted epoch stamp name sequence [] = parted_by epoch stamp name sequence [] 0 refl refl
parted epoch stamp name sequence (i ∷ more) = ap (λ (n : ℕ). laid n epoch stamp name sequence (i ∷ more)) (next_count (i ∷ more) (omega arith))

-- What was laid so far, and what would still be laid of the rest, are all chunks.
pub record Laying (old : MemberState) (name : List ℕ) (g : Option ℕ) (stamp : ℤ) (items : List Tagged) (m : MemberState) (last : Option ℕ) (rest : List Tagged) (count : ℕ) : Type 0 where
  pub done : List Chunk
  pub put : Put old done m
  pub left : done ++ all_chunks old.promise stamp name (sequence_of old ++ done) (taken_from name last (items_of rest)) ≡ all_chunks old.promise stamp name (sequence_of old) (taken_from name g (items_of items))
  pub counted : count + length (taken_from name last (items_of rest)) ≡ length (taken_from name g (items_of items))
  pub fits : AllByRecursion IdFits (items_of rest) → AllByRecursion IdFits (items_of items)

pub laying_begun : (old : MemberState) (name : List ℕ) (g : Option ℕ) (stamp : ℤ) (items : List Tagged) → Leads old → Laying old name g stamp items old g items 0
laying_begun old name g stamp items l = record {
  done = [];
  put = (none_behind old l, tt);
  left = ap (λ (x : List Chunk). all_chunks old.promise stamp name x (taken_from name g (items_of items))) (append-nil (sequence_of old));
  counted = omega arith;
  fits = λ each. each;
}

-- the chunks of a run, as the leader's sequence has them now
run_now : (old m : MemberState) (name : List ℕ) (stamp : ℤ) (done : List Chunk) (kept : List Item) → Behind old done m → run_chunks m.promise stamp name (sequence_of m) kept ≡ run_chunks old.promise stamp name (sequence_of old ++ done) kept
run_now old m name stamp done kept b = ap (λ (e : ℕ). run_chunks e stamp name (sequence_of m) kept) b.promise_is ∙ ap (λ (x : List Chunk). run_chunks old.promise stamp name x kept) b.sequence

pub laying_more : (old : MemberState) (name : List ℕ) (g : Option ℕ) (stamp : ℤ) (items : List Tagged) (m n : MemberState) (last : Option ℕ) (rest : List Tagged) (count count' : ℕ) (step : Step) → Laying old name g stamp items m last rest count → RunLaid name last rest stamp m step n → count' ≡ count + step.count
    → Laying old name g stamp items n step.greatest step.rest.now count'
laying_more old name g stamp items m n last rest count count' step so run more =
    let kept = taken_from name last (items_of rest) in
    let chunks = run_chunks old.promise stamp name (sequence_of old ++ so.done) kept in
    let here : Put m chunks n = subst (λ (x : List Chunk). Put m x n) (run_now old m name stamp so.done kept so.put.0) run.put in
    let behind = drop most_entries kept in
    let take_few = length-take 4096 kept in
    let drop_few = length-drop 4096 kept in
    let counts = run.count_is in
    let rest_count = ap length run.rest_is in
    let counted = so.counted in
    record {
      done = so.done ++ chunks;
      put = (both_behind old m n so.done chunks so.put.0 here.0, all_join HasRoom so.done chunks so.put.1 here.1);
      left = ap (λ (k : List Item). (so.done ++ chunks) ++ all_chunks old.promise stamp name (sequence_of old ++ (so.done ++ chunks)) k) run.rest_is
          ∙ ap (λ (x : List Chunk). (so.done ++ chunks) ++ all_chunks old.promise stamp name x behind) (sym (append_assoc (sequence_of old) so.done chunks))
          ∙ append_assoc so.done chunks (all_chunks old.promise stamp name ((sequence_of old ++ so.done) ++ chunks) behind)
          ∙ ap (λ (x : List Chunk). so.done ++ x) (sym (parted old.promise stamp name (sequence_of old ++ so.done) kept))
          ∙ so.left;
      counted = omega (arith, take_few, drop_few, counts, rest_count, counted, more);
      fits = λ each. so.fits (run.ids_fit each);
    }

-- at most so many are counted
few_new : (g : Option ℕ) (items : List Item) → length (rising_from g items) ≤ length items
few_new g [] = omega arith
few_new g (i ∷ more) = by (is_new g i.id) (few_new (Some i.id) more) (few_new g more)
  where
    by : (b : Bool) → length (rising_from (Some i.id) more) ≤ length more → length (rising_from g more) ≤ length more → length (cond b (i ∷ rising_from (Some i.id) more) (rising_from g more)) ≤ length (i ∷ more)
    by true h k = omega (arith, h)
    by false h k = omega (arith, k)

few_taken : (name : List ℕ) (g : Option ℕ) (items : List Item) → length (taken_from name g items) ≤ length items
few_taken [] g items = omega arith
few_taken (x ∷ name) g items = few_new g items

pub count_fits : (old : MemberState) (name : List ℕ) (g : Option ℕ) (stamp : ℤ) (items : List Tagged) (m n : MemberState) (last : Option ℕ) (rest : List Tagged) (count : ℕ) (step : Step) → Laying old name g stamp items m last rest count → RunLaid name last rest stamp m step n → length items ≤ 1048576 → count + step.count < 2 ^ 32
count_fits old name g stamp items m n last rest count step so run few =
    let all = few_taken name g (items_of items) in
    let size = length-map items item_of in
    let counted = so.counted in
    let counts = run.count_is in
    let take_few = length-take 4096 (taken_from name last (items_of rest)) in
    omega (arith, all, size, counted, counts, take_few, few)

nothing_left : (name : List ℕ) (last : Option ℕ) (rest : List Tagged) → length rest ≡ 0 → length (taken_from name last (items_of rest)) ≡ 0
nothing_left name last rest none = let few = few_taken name last (items_of rest) in let size = length-map rest item_of in omega (arith, few, size, none)

pub laid_all : (old : MemberState) (name : List ℕ) (g : Option ℕ) (stamp : ℤ) (items : List Tagged) (m : MemberState) (last : Option ℕ) (rest : List Tagged) (count : ℕ) → Laying old name g stamp items m last rest count → length rest ≡ 0
    → Put old (all_chunks old.promise stamp name (sequence_of old) (taken_from name g (items_of items))) m
laid_all old name g stamp items m last rest count so none =
    let nothing = none_laid old.promise stamp name (sequence_of old ++ so.done) (taken_from name last (items_of rest)) (nothing_left name last rest none) in
    subst (λ (x : List Chunk). Put old x m) (sym (append-nil so.done) ∙ ap (λ (x : List Chunk). so.done ++ x) (sym nothing) ∙ so.left) so.put

pub counted_all : (old : MemberState) (name : List ℕ) (g : Option ℕ) (stamp : ℤ) (items : List Tagged) (m : MemberState) (last : Option ℕ) (rest : List Tagged) (count : ℕ) → Laying old name g stamp items m last rest count → length rest ≡ 0 → count ≡ length (taken_from name g (items_of items))
counted_all old name g stamp items m last rest count so none = let nothing = nothing_left name last rest none in let counted = so.counted in omega (arith, nothing, counted)

-- what stops a run stops all
stop_by : (s : Stop) (done now more all : List Chunk) → done ++ (now ++ more) ≡ all → WhyStopped now s → WhyStopped all s
stop_by stops.Large done now more all is why = λ room. why (all_left HasRoom now more (all_right HasRoom done (now ++ more) (subst (AllByRecursion HasRoom) (sym is) room)))
stop_by stops.Memory done now more all is why = tt

pub stopped_all : (old : MemberState) (name : List ℕ) (g : Option ℕ) (stamp : ℤ) (items : List Tagged) (m : MemberState) (last : Option ℕ) (rest : List Tagged) (count : ℕ) (s : Stop) → Laying old name g stamp items m last rest count
    → WhyStopped (run_chunks m.promise stamp name (sequence_of m) (taken_from name last (items_of rest))) s → WhyStopped (all_chunks old.promise stamp name (sequence_of old) (taken_from name g (items_of items))) s
stopped_all old name g stamp items m last rest count s so why =
    let kept = taken_from name last (items_of rest) in
    let now = run_chunks old.promise stamp name (sequence_of old ++ so.done) kept in
    let more = all_chunks old.promise stamp name ((sequence_of old ++ so.done) ++ now) (drop most_entries kept) in
    let all = all_chunks old.promise stamp name (sequence_of old) (taken_from name g (items_of items)) in
    stop_by s so.done now more all (ap (λ (x : List Chunk). so.done ++ x) (sym (parted old.promise stamp name (sequence_of old ++ so.done) kept)) ∙ so.left)
    (subst (λ (x : List Chunk). WhyStopped x s) (run_now old m name stamp so.done kept so.put.0) why)

pub rest_some : (n : ℕ) (b : Bool) → b ≡ (n == 0) → b ≡ false → 0 < n
rest_some n b is none = let so : (n == 0) ≡ false = sym is ∙ none in grind (arith, so)

pub rest_none : (n : ℕ) (b : Bool) → b ≡ (n == 0) → b ≡ true → n ≡ 0
rest_none n b is all = let so : (n == 0) ≡ true = sym is ∙ all in grind (arith, so)

none_fit : (rest : List Tagged) → length rest ≡ 0 → AllByRecursion IdFits (items_of rest)
none_fit [] none = tt
none_fit (t ∷ more) none = absurd (omega (arith, none))

pub fit_all : (old : MemberState) (name : List ℕ) (g : Option ℕ) (stamp : ℤ) (items : List Tagged) (m : MemberState) (last : Option ℕ) (rest : List Tagged) (count : ℕ) → Laying old name g stamp items m last rest count → length rest ≡ 0 → AllByRecursion IdFits (items_of items)
fit_all old name g stamp items m last rest count so none = so.fits (none_fit rest none)
