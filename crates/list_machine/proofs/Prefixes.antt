-- What goes before the wrong events is a run.
use Rattle.std.proofs.Common.{◌≡◌, ℕ, ◌==◌, ◌≤◌, Bool, true, false, cond, List, [], ◌∷◌, ◌++◌, length, codes, Option, Some, None, refl, sym, ap, subst, inl, inr, arith}
use Rattle.std.specs.List.{AllByRecursion}
use Rattle.std.proofs.lemmas.List.Elements.{All-from_recursion}
use Rattle.frame_wire.specs.Fields.{u8_bytes, u32_bytes, u64_bytes}
use Rattle.chunk_format.specs.declared.entry.Entry.TheVariants.{Simple}
use Rattle.chunk_format.specs.Chunks.{IsEntry, HasRecords, IsChunk, entries_bytes}
use Rattle.chunk_format.specs.Tags.{DeltaOffset, delta_bytes}
use Rattle.command_fields.specs.declared.property.Property.{Property}
use Rattle.command_fields.specs.declared.offset.OffsetSpec.TheVariants.{First}
use Rattle.command_fields.specs.declared.response.ResponseCode.TheVariants as says
use Rattle.command_data.specs.declared.item.Tagged.{Tagged}
use Rattle.list_machine.specs.Streams.{Subscription, live, Stream, no_stream}
use Rattle.list_machine.specs.Commits.{CommitStep}
use Rattle.list_machine.specs.Subscribing.{IsOther, new_subscription, with_delivery}
use Rattle.list_machine.specs.Moves.{publishes as publish_move, subscribes as subscribe_move, stores, delivers}
use Rattle.list_machine.specs.Machines.{fresh, no_connection, idle, Machine, empty_machine, only}
use Rattle.list_machine.specs.Answers.{publish, subscribe, store, acts, Taken, Kept, Served, group_of}
use Rattle.list_machine.specs.Sends.{Delivers, Unasked}
use Rattle.list_machine.specs.Steps.{handled, committed, sent, MachineStep, MachineRun}
use Rattle.list_machine.specs.Examples.{s_name, item, opening, stored_chunk, machine_of, connection_of, prepared, seven, is_subscribed, delivery, gives, a_stream_made, a_declaration}
use Rattle.list_machine.specs.Wrongs.{one_waits, first_chunk, second_chunk, third_chunk, confirms_ids, publishes, published_run, committed_run, three_run, stores_one, stored_run, of_group, subscribes, a_subscription}
use Rattle.list_machine.proofs.Worked.{s1, s3, linked_step, same_step, only_run, give_step, owed_step, commit_step, zero_fits, chunk_is, made_run, declared_run, run_on, confirm_step, one_commit, s6}
use Rattle.list_machine.proofs.Handling.{joined, read_by}
use Rattle.list_machine.proofs.Refusing.{published_stream}
use Rattle.list_machine.proofs.NoRuns.{with_seven, frame_waits, three_items, three_stream, IsFrame, IsSubscribe, frame_one, frame_one_five, frame_three, subscribe_with, subscribe_of_group, is_store, short_store}

-- ---- items that are published

publish_step : (items : List Tagged) → 1 ≤ length items
    → MachineStep (machine_of s3 (connection_of (publishes items ∷ []) []) idle) (handled 1 (publishes items) None) (machine_of (published_stream (opening ∷ []) (frame_waits items)) fresh idle)
publish_step items some =
    let t : Stream = published_stream (opening ∷ []) (frame_waits items) in
    linked_step s3 t (connection_of (publishes items ∷ []) []) fresh idle idle (handled 1 (publishes items) None) (only 1 (publish_move 1 7 items ∷ []))
    (record { is_open = refl; later = []; is_first = refl; outcome = acts 1 (publish 1 7 items); handles = Served (Taken 1 some refl refl); moves_are = refl; after_is = refl })
    (only_run s3 t (publish_move 1 7 items ∷ []) (
      t,
      record {
        is_live = refl;
        has_items = some;
        at = record { before = prepared ∷ []; declaration = seven []; after = []; declared = refl; stands = refl; of_connection = refl; of_id = refl };
        is = refl;
      },
      refl,
    ))

declared_there : MachineRun empty_machine (a_stream_made ++ a_declaration) (machine_of s3 fresh idle)
declared_there = run_on a_stream_made a_declaration empty_machine (machine_of s1 no_connection idle) (machine_of s3 fresh idle) made_run declared_run

pub published_there : (items : List Tagged) → IsFrame items → MachineRun empty_machine (published_run items) (machine_of (published_stream (opening ∷ []) (frame_waits items)) fresh idle)
published_there items is =
    run_on (a_stream_made ++ a_declaration) (gives (publishes items) ∷ handled 1 (publishes items) None ∷ []) empty_machine (machine_of s3 fresh idle) (machine_of (published_stream (opening ∷ []) (frame_waits items)) fresh idle)
    declared_there (_, give_step s3 (publishes items) is.is is.short, (_, publish_step items is.some, refl))

-- ---- chunks that are committed

five_commit : CommitStep (published_stream (opening ∷ []) (frame_waits (item 1 97 ∷ item 5 101 ∷ []))) first_chunk (published_stream (opening ∷ first_chunk ∷ []) (frame_waits (item 1 97 ∷ item 5 101 ∷ [])))
unfolding u8_bytes u64_bytes
five_commit = record {
  is_live = refl;
  is_chunk = chunk_is 1 1 1 97 (omega arith) (omega arith) (omega arith);
  at_end = refl;
  epoch = omega arith;
  rows = ((tt, inr (inl (record { name = refl; earlier = []; later = item 5 101 ∷ []; items = refl; passed = tt }))), tt);
  bare = λ counts. omega arith;
  stored = tt;
  is = refl;
}

first_commit : CommitStep (published_stream (opening ∷ []) (frame_waits three_items)) first_chunk (published_stream (opening ∷ first_chunk ∷ []) (frame_waits three_items))
unfolding u8_bytes u64_bytes
first_commit = record {
  is_live = refl;
  is_chunk = chunk_is 1 1 1 97 (omega arith) (omega arith) (omega arith);
  at_end = refl;
  epoch = omega arith;
  rows = ((tt, inr (inl (record { name = refl; earlier = []; later = item 2 98 ∷ item 3 99 ∷ []; items = refl; passed = tt }))), tt);
  bare = λ counts. omega arith;
  stored = tt;
  is = refl;
}

second_commit : CommitStep (published_stream (opening ∷ first_chunk ∷ []) (frame_waits three_items)) second_chunk (published_stream (opening ∷ first_chunk ∷ second_chunk ∷ []) (frame_waits three_items))
unfolding u8_bytes u64_bytes
second_commit = record {
  is_live = refl;
  is_chunk = chunk_is 1 2 2 98 (omega arith) (omega arith) (omega arith);
  at_end = refl;
  epoch = omega arith;
  rows = (((omega arith, tt), inr (inl (record { name = refl; earlier = item 1 97 ∷ []; later = item 3 99 ∷ []; items = refl; passed = (inl (omega arith), tt) }))), tt);
  bare = λ counts. omega arith;
  stored = tt;
  is = refl;
}

third_commit : CommitStep (published_stream (opening ∷ first_chunk ∷ second_chunk ∷ []) (frame_waits three_items)) third_chunk three_stream
unfolding u8_bytes u64_bytes
third_commit = record {
  is_live = refl;
  is_chunk = chunk_is 1 3 3 99 (omega arith) (omega arith) (omega arith);
  at_end = refl;
  epoch = omega arith;
  rows = (((omega arith, (omega arith, tt)), inr (inl (record { name = refl; earlier = item 1 97 ∷ item 2 98 ∷ []; later = []; items = refl; passed = (inl (omega arith), (inr (inl (omega arith)), tt)) }))), tt);
  bare = λ counts. omega arith;
  stored = tt;
  is = refl;
}

committed_one : MachineRun empty_machine (committed_run (item 1 97 ∷ [])) (machine_of (published_stream (opening ∷ first_chunk ∷ []) one_waits) fresh idle)
committed_one =
    run_on (published_run (item 1 97 ∷ [])) (committed 1 first_chunk ∷ []) empty_machine (machine_of (published_stream (opening ∷ []) one_waits) fresh idle) (machine_of (published_stream (opening ∷ first_chunk ∷ []) one_waits) fresh idle)
    (published_there (item 1 97 ∷ []) frame_one) (_, commit_step _ _ fresh first_chunk one_commit, refl)

pub confirmed_there : MachineRun empty_machine (committed_run (item 1 97 ∷ []) ++ sent 1 (confirms_ids 7 (1 ∷ [])) ∷ []) (machine_of s6 fresh idle)
confirmed_there =
    run_on (committed_run (item 1 97 ∷ [])) (sent 1 (confirms_ids 7 (1 ∷ [])) ∷ []) empty_machine (machine_of (published_stream (opening ∷ first_chunk ∷ []) one_waits) fresh idle) (machine_of s6 fresh idle)
    committed_one (_, confirm_step, refl)

pub five_there : MachineRun empty_machine (committed_run (item 1 97 ∷ item 5 101 ∷ [])) (machine_of (published_stream (opening ∷ first_chunk ∷ []) (frame_waits (item 1 97 ∷ item 5 101 ∷ []))) fresh idle)
five_there =
    run_on (published_run (item 1 97 ∷ item 5 101 ∷ [])) (committed 1 first_chunk ∷ []) empty_machine (machine_of (published_stream (opening ∷ []) (frame_waits (item 1 97 ∷ item 5 101 ∷ []))) fresh idle)
    (machine_of (published_stream (opening ∷ first_chunk ∷ []) (frame_waits (item 1 97 ∷ item 5 101 ∷ []))) fresh idle) (published_there (item 1 97 ∷ item 5 101 ∷ []) frame_one_five)
    (_, commit_step _ _ fresh first_chunk five_commit, refl)

pub three_there : MachineRun empty_machine three_run (machine_of three_stream fresh idle)
three_there =
    run_on (published_run three_items) (committed 1 first_chunk ∷ committed 1 second_chunk ∷ committed 1 third_chunk ∷ []) empty_machine (machine_of (published_stream (opening ∷ []) (frame_waits three_items)) fresh idle)
    (machine_of three_stream fresh idle) (published_there three_items frame_three)
    (_, commit_step _ _ fresh first_chunk first_commit, (_, commit_step _ _ fresh second_chunk second_commit, (_, commit_step _ _ fresh third_chunk third_commit, refl)))

-- ---- subscriptions

pub nobody_reads : (s : Stream) (b : Bool) → s.subscriptions ≡ [] → AllByRecursion (λ (r : Subscription). r.connection ≡ 1 → r.id ≡ 3 → ⊥) (cond b s no_stream).subscriptions
nobody_reads s true none = subst (AllByRecursion (λ (r : Subscription). r.connection ≡ 1 → r.id ≡ 3 → ⊥)) (sym none) tt
nobody_reads s false none = tt

none_other : (s : Stream) → s.subscriptions ≡ [] → AllByRecursion (IsOther 1 3) s.subscriptions
none_other s none = subst (AllByRecursion (IsOther 1 3)) (sym none) tt

-- a live stream "s" without subscriptions gets one
subscribe_step : (s : Stream) (credit : ℕ) (properties : Option (List Property)) → s.life ≡ live → s.name ≡ s_name → s.subscriptions ≡ []
    → MachineStep (machine_of s (connection_of (subscribes credit properties ∷ []) []) idle) (handled 1 (subscribes credit properties) (Some is_subscribed)) (machine_of (joined s (group_of properties) credit) (connection_of [] (is_subscribed ∷ [])) idle)
subscribe_step s credit properties is_live name none =
    let t : Stream = joined s (group_of properties) credit in
    linked_step s t (connection_of (subscribes credit properties ∷ []) []) (connection_of [] (is_subscribed ∷ [])) idle idle (handled 1 (subscribes credit properties) (Some is_subscribed))
    (only 1 (subscribe_move 1 3 (group_of properties) First credit ∷ []))
    (record {
      is_open = refl;
      later = [];
      is_first = refl;
      outcome = acts 1 (subscribe 1 3 (group_of properties) First credit);
      handles = Served (says.Ok, refl, (1, (is_live, ap (λ (n : List ℕ). Some n) (sym name)), (λ number. nobody_reads s (number == 1) none), refl));
      moves_are = refl;
      after_is = refl;
    })
    (only_run s t (subscribe_move 1 3 (group_of properties) First credit ∷ []) (t, record { is_live = is_live; is_new = none_other s none; is = refl }, refl))

subscribed_run : (s : Stream) (credit : ℕ) (properties : Option (List Property)) → s.life ≡ live → s.name ≡ s_name → s.subscriptions ≡ [] → IsSubscribe credit properties
    → MachineRun (machine_of s fresh idle) (a_subscription credit properties) (machine_of (joined s (group_of properties) credit) fresh idle)
subscribed_run s credit properties is_live name none is =
    (_, give_step s (subscribes credit properties) is.is is.short, (_, subscribe_step s credit properties is_live name none, (_, owed_step (joined s (group_of properties) credit) is_subscribed, refl)))

pub uncredited_there : MachineRun empty_machine (three_run ++ a_subscription 0 None) (machine_of (joined three_stream None 0) fresh idle)
uncredited_there =
    run_on three_run (a_subscription 0 None) empty_machine (machine_of three_stream fresh idle) (machine_of (joined three_stream None 0) fresh idle) three_there
    (subscribed_run three_stream 0 None refl refl refl (subscribe_with 0 (omega arith)))

pub waiting_there : MachineRun empty_machine (three_run ++ a_subscription 3 (Some of_group)) (machine_of (joined three_stream (group_of (Some of_group)) 3) fresh idle)
waiting_there =
    run_on three_run (a_subscription 3 (Some of_group)) empty_machine (machine_of three_stream fresh idle) (machine_of (joined three_stream (group_of (Some of_group)) 3) fresh idle) three_there
    (subscribed_run three_stream 3 (Some of_group) refl refl refl (subscribe_of_group 3 (omega arith)))

first_delivery : MachineStep (machine_of (joined three_stream None 3) fresh idle) (sent 1 (delivery first_chunk)) (machine_of (read_by three_stream (with_delivery (new_subscription 1 3 None 0 3) first_chunk)) fresh idle)
first_delivery =
    let s : Stream = joined three_stream None 3 in
    let t : Stream = read_by three_stream (with_delivery (new_subscription 1 3 None 0 3) first_chunk) in
    same_step s t fresh idle idle (sent 1 (delivery first_chunk)) (only 1 (delivers 1 3 first_chunk ∷ [])) (Unasked refl (Delivers 1 3 first_chunk None refl refl refl refl))
    (only_run s t (delivers 1 3 first_chunk ∷ []) (
      t,
      record {
        is_live = refl;
        at = record { before = []; subscription = new_subscription 1 3 None 0 3; after = []; subscribed = refl; of_connection = refl; of_id = refl };
        is_active = refl;
        has_credit = omega arith;
        is_next = refl;
        is = refl;
      },
      refl,
    ))

pub delivered_there : MachineRun empty_machine (three_run ++ (a_subscription 3 None ++ sent 1 (delivery first_chunk) ∷ [])) (machine_of (read_by three_stream (with_delivery (new_subscription 1 3 None 0 3) first_chunk)) fresh idle)
delivered_there =
    let end : Machine = machine_of (read_by three_stream (with_delivery (new_subscription 1 3 None 0 3) first_chunk)) fresh idle in
    run_on three_run (a_subscription 3 None ++ sent 1 (delivery first_chunk) ∷ []) empty_machine (machine_of three_stream fresh idle) end three_there
    (run_on (a_subscription 3 None) (sent 1 (delivery first_chunk) ∷ []) (machine_of three_stream fresh idle) (machine_of (joined three_stream None 3) fresh idle) end
    (subscribed_run three_stream 3 None refl refl refl (subscribe_with 3 (omega arith))) (_, first_delivery, refl))

-- ---- an offset that is stored

abbrev with_offset : Stream
with_offset = record with_seven { stored = record { name = codes "c"; offset = 1 } ∷ [] }

abbrev offset_stored : Stream
offset_stored = record with_offset { chunks = opening ∷ stored_chunk 1 ∷ []; seen = opening ∷ stored_chunk 1 ∷ [] }

store_step : MachineStep (machine_of with_seven (connection_of (stores_one ∷ []) []) idle) (handled 1 stores_one None) (machine_of with_offset fresh idle)
store_step =
    linked_step with_seven with_offset (connection_of (stores_one ∷ []) []) fresh idle idle (handled 1 stores_one None) (only 1 (stores (codes "c") 1 ∷ []))
    (record {
      is_open = refl;
      later = [];
      is_first = refl;
      outcome = acts 1 (store (codes "c") 1);
      handles = Served (refl, Kept 1 (codes "c") (refl, refl) refl refl);
      moves_are = refl;
      after_is = refl;
    })
    (only_run with_seven with_offset (stores (codes "c") 1 ∷ []) (with_offset, refl, refl))

stored_length : length (entries_bytes (Simple (delta_bytes (DeltaOffset (codes "c") 1)) ∷ [])) ≡ 15
unfolding u8_bytes u32_bytes u64_bytes
stored_length = omega arith

stored_is : IsChunk (stored_chunk 1)
unfolding u8_bytes u64_bytes
stored_is = record {
  stamp_fits = zero_fits;
  epoch_fits = omega arith;
  some = omega arith;
  few = omega arith;
  each = All-from_recursion IsEntry (Simple (delta_bytes (DeltaOffset (codes "c") 1)) ∷ []) (omega arith, tt);
  recorded = All-from_recursion HasRecords (Simple (delta_bytes (DeltaOffset (codes "c") 1)) ∷ []) (omega arith, tt);
  payload = omega (arith, stored_length);
  last = omega arith;
  content = (refl, (delta_bytes (DeltaOffset (codes "c") 1), DeltaOffset (codes "c") 1, refl, (((omega arith, omega arith), omega arith), refl)));
}

stored_commit : CommitStep with_offset (stored_chunk 1) offset_stored
unfolding u8_bytes u64_bytes
stored_commit = record { is_live = refl; is_chunk = stored_is; at_end = refl; epoch = omega arith; rows = tt; bare = λ counts. omega arith; stored = (inl refl, tt); is = refl }

pub stored_there : MachineRun empty_machine (stored_run ++ a_subscription 3 None) (machine_of (joined offset_stored None 3) fresh idle)
stored_there =
    run_on stored_run (a_subscription 3 None) empty_machine (machine_of offset_stored fresh idle) (machine_of (joined offset_stored None 3) fresh idle)
    (run_on (a_stream_made ++ a_declaration) (gives stores_one ∷ handled 1 stores_one None ∷ committed 1 (stored_chunk 1) ∷ []) empty_machine (machine_of s3 fresh idle) (machine_of offset_stored fresh idle) declared_there
    (_, give_step with_seven stores_one is_store short_store, (_, store_step, (_, commit_step with_offset offset_stored fresh (stored_chunk 1) stored_commit, refl))))
    (subscribed_run offset_stored 3 None refl refl refl (subscribe_with 3 (omega arith)))
