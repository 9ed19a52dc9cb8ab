-- What holds of each stream along its moves.
use Rattle.std.proofs.Common.{◌≡◌, ℕ, ◌==◌, ◌+◌, ◌≤◌, ◌⊎◌, min, not, Bool, true, false, cond, List, [], ◌∷◌, ◌++◌, map, Option, Some, None, refl, sym, ap, subst, ◌∙◌, inl, inr, arith}
use Rattle.std.specs.Prelude.{flat_map, filter}
use Rattle.std.specs.List.{AllByRecursion}
use Rattle.std.proofs.lemmas.List.{append-nil}
use Rattle.std.proofs.lemmas.Grind.{flat_map-append}
use Rattle.chunk_format.specs.declared.entry.Entry.{Entry}
use Rattle.chunk_format.specs.declared.chunk.Chunk.{Chunk}
use Rattle.chunk_format.specs.Tags.{DeltaEntry, DeltaSequence, DeltaOffset}
use Rattle.chunk_format.specs.LogRows.{chunk_rows, Rows}
use Rattle.chunk_format.specs.Logs.{IsLog, next_above, bare_of, tally, chunk_deltas, deltas_of}
use Rattle.chunk_format.proofs.LinkLaws.{linked_push}
use Rattle.chunk_format.proofs.BareLaws.{tally_join, bare_join}
use Rattle.command_fields.specs.declared.offset.OffsetSpec.{OffsetSpec}
use Rattle.command_data.specs.declared.item.Tagged.{Tagged}
use Rattle.list_machine.specs.Items.{items_by, items_in, IsIn, Rises, IsReached, AreReached, AtMostAsOften}
use Rattle.list_machine.specs.Streams.{Frame, Confirmed, Declaration, Activity, waiting, Subscription, StoredOffset, Life, Stream, no_stream, items_of, unnamed_by, sent_unnamed, confirmed_unnamed, Counted}
use Rattle.list_machine.specs.Commits.{WasSent, CommitStep}
use Rattle.list_machine.specs.Publishing.{DeclareStep, Declared, turned, UndeclareStep, known_by, PublishStep, RefuseStep, Waiting, answered, MayConfirm, ConfirmStep, closed, closed_of}
use Rattle.list_machine.specs.Subscribing.{SubscribeStep, Subscribed, moved, UnsubscribeStep, asked_to, AskStep, StartStep, RestStep, most_credits, GrantStep, with_delivery, DeliverStep}
use Rattle.list_machine.specs.Moves.{Move, begins, finishes, commits, declares, undeclares, publishes, refuses, confirms, subscribes, unsubscribes, asks, starts, rests, grants, delivers, stores, leaves, forgets, MoveStep, StreamRun, without, forgotten}
use Rattle.list_machine.specs.Discipline.{Disciplined}
use Rattle.list_machine.specs.Laws.{IsSentBy}
use Rattle.list_machine.proofs.Lists.{Begins, any_front, any_back, all_weaker, all_append, all_front, all_back, all_turned, each_self, all_reached_front}
use Rattle.list_machine.proofs.Tagging.{rows_push, tags_more, rises_along, sent_along, Knows, begins_along}
use Rattle.list_machine.proofs.Reading.{Follows, starts_following, follows_more, follows_delivery}
use Rattle.list_machine.proofs.Growing.{Grows, AllGrow, grows_same, all_grow_push, all_grow_turned, all_grow_map, all_sent_grow, counts_grow, disciplined_back}

-- each item that was confirmed under a name is at most the greatest of the name, and was sent
pub record Stood (chunks : List Chunk) (declarations : List Declaration) (c : Confirmed) : Type 0 where
  pub reached : (name : List ℕ) → c.name ≡ Some name → AreReached (items_in name chunks) c.items
  pub sent : (name : List ℕ) → c.name ≡ Some name → AllByRecursion (IsSentBy name declarations) c.items

abbrev pub KnowsAll : List Chunk → Declaration → Type 0
KnowsAll chunks declaration = (name : List ℕ) → Knows name (items_in name chunks) declaration

pub record Holds (s : Stream) : Type 0 where
  pub list : IsLog s.chunks
  pub seen : (s.seen ≡ []) ⊎ (s.seen ≡ s.chunks)
  pub rises : (name : List ℕ) → Rises (items_in name s.chunks)
  pub published : (name : List ℕ) → AllByRecursion (IsSentBy name s.declarations) (items_in name s.chunks)
  pub bare : AtMostAsOften (bare_of s.chunks) (sent_unnamed s.declarations)
  pub stored : AllByRecursion (WasSent s.stored) (deltas_of s.chunks)
  pub counted : Counted s.chunks s.confirmed
  pub stood : AllByRecursion (Stood s.chunks s.declarations) s.confirmed
  pub known : AllByRecursion (KnowsAll s.chunks) s.declarations
  pub once : (name : List ℕ) (P : List Tagged) → Disciplined name P s.declarations → Begins (items_in name s.chunks) P
  pub follows : AllByRecursion (Follows s.chunks) s.subscriptions

pub nothing_holds : Holds no_stream
nothing_holds = record {
  list = tt;
  seen = inl refl;
  rises = λ name. tt;
  published = λ name. tt;
  bare = λ counts. omega arith;
  stored = tt;
  counted = λ counts. omega arith;
  stood = tt;
  known = tt;
  once = λ name P d. tt;
  follows = tt;
}

-- ---- changes of one part

pub with_life : (s : Stream) (phase : Life) → Holds s → Holds (record s { life = phase })
with_life s phase h = record {
  list = h.list;
  seen = h.seen;
  rises = h.rises;
  published = h.published;
  bare = h.bare;
  stored = h.stored;
  counted = h.counted;
  stood = h.stood;
  known = h.known;
  once = h.once;
  follows = h.follows;
}

pub with_name : (s : Stream) (phase : Life) (name : List ℕ) (super : Option (List ℕ)) → Holds s → Holds (record s { life = phase; name = name; super = super })
with_name s phase name super h = record {
  list = h.list;
  seen = h.seen;
  rises = h.rises;
  published = h.published;
  bare = h.bare;
  stored = h.stored;
  counted = h.counted;
  stood = h.stood;
  known = h.known;
  once = h.once;
  follows = h.follows;
}

was_sent_more : (stored : List StoredOffset) (o : StoredOffset) (d : DeltaEntry) → WasSent stored d → WasSent (stored ++ o ∷ []) d
was_sent_more stored o (DeltaSequence name id) w = w
was_sent_more stored o (DeltaOffset name offset) w = any_front (λ (x : StoredOffset). x ≡ record { name = name; offset = offset }) stored (o ∷ []) w

pub with_stored : (s : Stream) (o : StoredOffset) → Holds s → Holds (record s { stored = s.stored ++ o ∷ [] })
with_stored s o h = record {
  list = h.list;
  seen = h.seen;
  rises = h.rises;
  published = h.published;
  bare = h.bare;
  stored = all_weaker (WasSent s.stored) (WasSent (s.stored ++ o ∷ [])) (λ d w. was_sent_more s.stored o d w) (deltas_of s.chunks) h.stored;
  counted = h.counted;
  stood = h.stood;
  known = h.known;
  once = h.once;
  follows = h.follows;
}

pub with_seen : (s : Stream) (seen : List Chunk) → (seen ≡ []) ⊎ (seen ≡ s.chunks) → Holds s → Holds (record s { seen = seen })
with_seen s seen is h = record {
  list = h.list;
  seen = is;
  rises = h.rises;
  published = h.published;
  bare = h.bare;
  stored = h.stored;
  counted = h.counted;
  stood = h.stood;
  known = h.known;
  once = h.once;
  follows = h.follows;
}

pub with_subscriptions : (s : Stream) (subscriptions : List Subscription) → Holds s → AllByRecursion (Follows s.chunks) subscriptions → Holds (record s { subscriptions = subscriptions })
with_subscriptions s subscriptions h follows = record {
  list = h.list;
  seen = h.seen;
  rises = h.rises;
  published = h.published;
  bare = h.bare;
  stored = h.stored;
  counted = h.counted;
  stood = h.stood;
  known = h.known;
  once = h.once;
  follows = follows;
}

stood_grows : (chunks : List Chunk) (old new : List Declaration) → AllGrow old new → (c : Confirmed) → Stood chunks old c → Stood chunks new c
stood_grows chunks old new g c h = record { reached = h.reached; sent = λ name e. all_sent_grow name old new c.items g (h.sent name e) }

pub with_declarations : (s : Stream) (declarations : List Declaration) → Holds s → AllGrow s.declarations declarations → AllByRecursion (KnowsAll s.chunks) declarations → Holds (record s { declarations = declarations })
with_declarations s declarations h g known = record {
  list = h.list;
  seen = h.seen;
  rises = h.rises;
  published = λ name. all_sent_grow name s.declarations declarations (items_in name s.chunks) g (h.published name);
  stored = h.stored;
  bare = λ counts. (let a = h.bare counts in let b = counts_grow counts s.declarations declarations g in omega (arith, a, b));
  counted = h.counted;
  stood = all_weaker (Stood s.chunks s.declarations) (Stood s.chunks declarations) (λ c x. stood_grows s.chunks s.declarations declarations g c x) s.confirmed h.stood;
  known = known;
  once = λ name P d. h.once name P (disciplined_back name P s.declarations declarations g d);
  follows = h.follows;
}

-- one declaration changes
pub with_turned : (s : Stream) (connection id : ℕ) (at : Declared s connection id) (d : Declaration) → Holds s → Grows at.declaration d → (KnowsAll s.chunks at.declaration → KnowsAll s.chunks d)
    → Holds (record s { declarations = turned at d })
with_turned s connection id at d h g k =
    with_declarations s (turned at d) h
    (subst (λ (l : List Declaration). AllGrow l (turned at d)) (sym at.declared) (all_grow_turned at.before at.declaration d at.after g))
    (all_turned (KnowsAll s.chunks) at.before at.declaration d at.after k (subst (AllByRecursion (KnowsAll s.chunks)) at.declared h.known))

pub with_confirmed : (s : Stream) (c : Confirmed) → Holds s → Counted s.chunks (s.confirmed ++ c ∷ []) → Stood s.chunks s.declarations c → Holds (record s { confirmed = s.confirmed ++ c ∷ [] })
with_confirmed s c h counted stood = record {
  list = h.list;
  seen = h.seen;
  rises = h.rises;
  published = h.published;
  bare = h.bare;
  stored = h.stored;
  counted = counted;
  stood = all_append (Stood s.chunks s.declarations) s.confirmed (c ∷ []) h.stood (stood, tt);
  known = h.known;
  once = h.once;
  follows = h.follows;
}

-- one subscription changes
pub with_moved : (s : Stream) (connection id : ℕ) (at : Subscribed s connection id) (t : Subscription) → Holds s → (Follows s.chunks at.subscription → Follows s.chunks t) → Holds (record s { subscriptions = moved at t })
with_moved s connection id at t h f =
    with_subscriptions s (moved at t) h (all_turned (Follows s.chunks) at.before at.subscription t at.after f (subst (AllByRecursion (Follows s.chunks)) at.subscribed h.follows))

reads_of : (s : Stream) (connection id : ℕ) (at : Subscribed s connection id) → Holds s → Follows s.chunks at.subscription
reads_of s connection id at h = (all_back (Follows s.chunks) at.before (at.subscription ∷ at.after) (subst (AllByRecursion (Follows s.chunks)) at.subscribed h.follows)).0

-- ---- Commit

bare_push : (counts : Entry → Bool) (chunks : List Chunk) (chunk : Chunk) → tally counts (bare_of (chunks ++ chunk ∷ [])) ≡ tally counts (bare_of chunks) + tally counts (bare_of (chunk ∷ []))
bare_push counts chunks chunk = ap (tally counts) (bare_join chunks (chunk ∷ [])) ∙ tally_join counts (bare_of chunks) (bare_of (chunk ∷ []))

counted_more : (chunks : List Chunk) (chunk : Chunk) (confirmed : List Confirmed) → Counted chunks confirmed → Counted (chunks ++ chunk ∷ []) confirmed
counted_more chunks chunk confirmed h counts = let a = h counts in let e = bare_push counts chunks chunk in omega (arith, e, a)

reached_more : (name : List ℕ) (chunks : List Chunk) (chunk : Chunk) (items : List Tagged) → AreReached (items_in name chunks) items → AreReached (items_in name (chunks ++ chunk ∷ [])) items
reached_more name chunks chunk items h = subst (λ (l : List Tagged). AreReached l items) (sym (tags_more name chunks chunk)) (all_reached_front (items_in name chunks) (items_by name (chunk_rows chunk)) items h)

knows_push : (chunks : List Chunk) (chunk : Chunk) (d : Declaration) → KnowsAll chunks d → KnowsAll (chunks ++ chunk ∷ []) d
knows_push chunks chunk d k name =
    all_weaker (λ (c : Confirmed). c.name ≡ Some name → AreReached (items_in name chunks) c.items) (λ (c : Confirmed). c.name ≡ Some name → AreReached (items_in name (chunks ++ chunk ∷ [])) c.items)
    (λ c f e. reached_more name chunks chunk c.items (f e)) d.known (k name)

stored_more : (stored : List StoredOffset) (chunks : List Chunk) (chunk : Chunk) → AllByRecursion (WasSent stored) (deltas_of chunks) → AllByRecursion (WasSent stored) (chunk_deltas chunk) → AllByRecursion (WasSent stored) (deltas_of (chunks ++ chunk ∷ []))
stored_more stored chunks chunk a b =
    subst (AllByRecursion (WasSent stored)) (sym (flat_map-append chunk_deltas chunks (chunk ∷ []) ∙ ap (λ (l : List DeltaEntry). deltas_of chunks ++ l) (append-nil (chunk_deltas chunk))))
    (all_append (WasSent stored) (deltas_of chunks) (chunk_deltas chunk) a b)

pub commit_holds : (s : Stream) (chunk : Chunk) (new : Stream) → CommitStep s chunk new → Holds s → Holds new
commit_holds s chunk new step h =
    let rows : (name : List ℕ) → items_by name (Rows s.chunks ++ chunk_rows chunk) ≡ items_in name (s.chunks ++ chunk ∷ []) = λ name. ap (items_by name) (sym (rows_push s.chunks chunk)) in
    subst Holds (sym step.is) (record {
      list = linked_push 0 0 s.chunks chunk h.list step.at_end step.epoch step.is_chunk;
      seen = inr refl;
      rises = λ name. subst Rises (rows name) (rises_along s.declarations name (Rows s.chunks) (chunk_rows chunk) step.rows (h.rises name));
      published = λ name. subst (AllByRecursion (IsSentBy name s.declarations)) (rows name) (sent_along s.declarations name (Rows s.chunks) (chunk_rows chunk) step.rows (h.published name));
      bare = step.bare;
      stored = stored_more s.stored s.chunks chunk h.stored step.stored;
      counted = counted_more s.chunks chunk s.confirmed h.counted;
      stood = all_weaker (Stood s.chunks s.declarations) (Stood (s.chunks ++ chunk ∷ []) s.declarations)
          (λ c x. record { reached = λ name e. reached_more name s.chunks chunk c.items (x.reached name e); sent = x.sent }) s.confirmed h.stood;
      known = all_weaker (KnowsAll s.chunks) (KnowsAll (s.chunks ++ chunk ∷ [])) (λ d k. knows_push s.chunks chunk d k) s.declarations h.known;
      once = λ name P d. subst (λ (l : List Tagged). Begins l P) (rows name)
          (begins_along s.declarations name P (Rows s.chunks) (chunk_rows chunk) step.rows d
          (all_weaker (KnowsAll s.chunks) (Knows name (items_in name s.chunks)) (λ d k. k name) s.declarations h.known) (h.once name P d));
      follows = all_weaker (Follows s.chunks) (Follows (s.chunks ++ chunk ∷ [])) (λ t r. follows_more s.chunks chunk step.is_chunk step.at_end t r) s.subscriptions h.follows;
    })

-- ---- declarations and frames

pub declare_holds : (s : Stream) (connection id : ℕ) (name : Option (List ℕ)) (new : Stream) → DeclareStep s connection id name new → Holds s → Holds new
declare_holds s connection id name new step h =
    subst Holds (sym step.is) (with_declarations s _ h (all_grow_push s.declarations _) (all_append (KnowsAll s.chunks) s.declarations _ h.known ((λ n. tt), tt)))

pub undeclare_holds : (s : Stream) (connection id : ℕ) (new : Stream) → UndeclareStep s connection id new → Holds s → Holds new
undeclare_holds s connection id new step h =
    subst Holds (sym step.is) (with_turned s connection id step.at _ h (grows_same step.at.declaration _ refl refl refl) (λ k. k))

known_cases : (items : List Tagged) (known confirmed : List Confirmed) → (items ≡ []) ⊎ (known_by items known confirmed ≡ known)
known_cases [] known confirmed = inl refl
known_cases (x ∷ xs) known confirmed = inr refl

known_holds : (P : List Confirmed → Type 0) (items : List Tagged) (known confirmed : List Confirmed) → P known → P confirmed → P (known_by items known confirmed)
known_holds P [] known confirmed a b = b
known_holds P (x ∷ xs) known confirmed a b = a

pub publish_holds : (s : Stream) (connection id : ℕ) (items : List Tagged) (new : Stream) → PublishStep s connection id items new → Holds s → Holds new
publish_holds s connection id items new step h =
    let d = step.at.declaration in
    let frame : Frame = record { items = items; waits = true } in
    let e : Declaration = record d { frames = d.frames ++ frame ∷ []; known = known_by (items_of d) d.known s.confirmed } in
    subst Holds (sym step.is) (with_turned s connection id step.at e h
    (record { name = refl; more = items ++ []; items = flat_map-append (λ (f : Frame). f.items) d.frames (frame ∷ []); known = known_cases (items_of d) d.known s.confirmed })
    (λ k name. known_holds (AllByRecursion (λ (c : Confirmed). c.name ≡ Some name → AreReached (items_in name s.chunks) c.items)) (items_of d) d.known s.confirmed (k name)
    (all_weaker (Stood s.chunks s.declarations) (λ (c : Confirmed). c.name ≡ Some name → AreReached (items_in name s.chunks) c.items) (λ c x. x.reached name) s.confirmed h.stood)))

pub items_stay : (before : List Frame) (x y : Frame) (after : List Frame) → x.items ≡ y.items → flat_map (λ (f : Frame). f.items) (before ++ x ∷ after) ≡ flat_map (λ (f : Frame). f.items) (before ++ y ∷ after)
items_stay [] x y after e = ap (λ (l : List Tagged). l ++ flat_map (λ (f : Frame). f.items) after) e
items_stay (z ∷ before) x y after e = ap (λ (l : List Tagged). z.items ++ l) (items_stay before x y after e)

answered_grows : (d : Declaration) (items : List Tagged) (w : Waiting d items) (stands : Bool) → Grows d (record d { frames = answered w items; stands = stands })
answered_grows d items w stands =
    grows_same d _ refl
    (items_stay w.before (record { items = items; waits = false }) (record { items = items; waits = true }) w.after refl ∙ ap (flat_map (λ (f : Frame). f.items)) (sym w.frames))
    refl

pub refuse_holds : (s : Stream) (connection id : ℕ) (new : Stream) → RefuseStep s connection id new → Holds s → Holds new
refuse_holds s connection id new step h = subst Holds (sym step.is) (with_turned s connection id step.at _ h (grows_same step.at.declaration _ refl refl refl) (λ k. k))

reached_seen : (name : List ℕ) (s : Stream) (items : List Tagged) → (s.seen ≡ []) ⊎ (s.seen ≡ s.chunks) → AreReached (items_in name s.seen) items → AreReached (items_in name s.chunks) items
reached_seen name s items (inl none) r =
    let nothing : AreReached [] items = subst (λ (l : List Chunk). AreReached (items_in name l) items) none r in
    all_weaker (λ (x : Tagged). IsReached [] x.id) (λ (x : Tagged). IsReached (items_in name s.chunks) x.id) (λ x a. absurd a) items nothing
reached_seen name s items (inr same) r = subst (λ (l : List Chunk). AreReached (items_in name l) items) same r

may_counted : (s : Stream) (name : Option (List ℕ)) (items : List Tagged) → Holds s → MayConfirm s name items → Counted s.chunks (s.confirmed ++ record { name = name; items = items } ∷ [])
may_counted s None items h m counts = m counts
may_counted s (Some name) items h m counts =
    let c : Confirmed = record { name = Some name; items = items } in
    let e : confirmed_unnamed (s.confirmed ++ c ∷ []) ≡ confirmed_unnamed s.confirmed = flat_map-append (λ (c : Confirmed). unnamed_by c.name c.items) s.confirmed (c ∷ []) ∙ append-nil (confirmed_unnamed s.confirmed) in
    let a = h.counted counts in omega (arith, ap (tally counts) e, a)

may_reached : (s : Stream) (name : Option (List ℕ)) (items : List Tagged) → Holds s → MayConfirm s name items → (n : List ℕ) → name ≡ Some n → AreReached (items_in n s.chunks) items
may_reached s None items h m n e = absurd cc
may_reached s (Some name) items h m n e = let same : name ≡ n = cc in subst (λ (k : List ℕ). AreReached (items_in k s.chunks) items) same (reached_seen name s items h.seen m)

frame_sent : (before : List Frame) (items : List Tagged) (waits : Bool) (after : List Frame) (x : Tagged) → IsIn x items
    → IsIn x (flat_map (λ (f : Frame). f.items) (before ++ record { items = items; waits = waits } ∷ after))
frame_sent [] items waits after x h = any_front (λ (y : Tagged). y ≡ x) items (flat_map (λ (f : Frame). f.items) after) h
frame_sent (z ∷ before) items waits after x h = any_back (λ (y : Tagged). y ≡ x) z.items _ (frame_sent before items waits after x h)

pub confirm_holds : (s : Stream) (connection id : ℕ) (name : Option (List ℕ)) (items : List Tagged) (new : Stream) → ConfirmStep s connection id name items new → Holds s → Holds new
confirm_holds s connection id name items new step h =
    let d = step.at.declaration in
    let e : Declaration = record d { frames = answered step.waiting items } in
    let mid : Stream = record s { declarations = turned step.at e } in
    let c : Confirmed = record { name = name; items = items } in
    let holds : Holds mid = with_turned s connection id step.at e h (answered_grows d items step.waiting d.stands) (λ k. k) in
    subst Holds (sym step.is) (with_confirmed mid c holds (may_counted s name items h step.may)
    (record {
      reached = λ n is. may_reached s name items h step.may n is;
      sent = λ n is. all_weaker (λ (x : Tagged). IsIn x items) (IsSentBy n mid.declarations)
          (λ x there. any_back (λ (d : Declaration). (d.name ≡ Some n) × IsIn x (items_of d)) step.at.before (e ∷ step.at.after)
          (inl (step.named ∙ is, frame_sent step.waiting.before items false step.waiting.after x there)))
          items (each_self items);
    }))

-- ---- subscriptions

pub subscribe_holds : (s : Stream) (connection id : ℕ) (group : Option (List ℕ)) (spec : OffsetSpec) (n : ℕ) (new : Stream) → SubscribeStep s connection id group spec n new → Holds s → Holds new
subscribe_holds s connection id group spec n new step h =
    subst Holds (sym step.is) (with_subscriptions s _ h (all_append (Follows s.chunks) s.subscriptions _ h.follows (starts_following s.chunks _ refl refl (omega arith), tt)))

-- what it does is another thing than what it was sent
same_following : (chunks : List Chunk) (s : Subscription) (activity : Activity) → Follows chunks s → Follows chunks (record s { activity = activity })
same_following chunks s activity f = record { delivers = record { run = f.delivers.run; since = f.delivers.since; credit = f.delivers.credit }; placed = f.placed }

pub ask_holds : (s : Stream) (connection id correlation : ℕ) (activate : Bool) (new : Stream) → AskStep s connection id correlation activate new → Holds s → Holds new
ask_holds s connection id correlation activate new step h =
    subst Holds (sym step.is) (with_moved s connection id step.at _ h (λ f. same_following s.chunks step.at.subscription (asked_to activate correlation) f))

pub start_holds : (s : Stream) (connection id correlation : ℕ) (spec : OffsetSpec) (new : Stream) → StartStep s connection id correlation spec new → Holds s → Holds new
start_holds s connection id correlation spec new step h =
    subst Holds (sym step.is) (with_moved s connection id step.at _ h (λ f. starts_following s.chunks _ refl refl f.delivers.credit))

pub rest_holds : (s : Stream) (connection id correlation : ℕ) (new : Stream) → RestStep s connection id correlation new → Holds s → Holds new
rest_holds s connection id correlation new step h =
    subst Holds (sym step.is) (with_moved s connection id step.at _ h (λ f. same_following s.chunks step.at.subscription waiting f))

most_is : (a b : ℕ) → min a b ≤ a
most_is a b = omega arith

pub grant_holds : (s : Stream) (connection id n : ℕ) (new : Stream) → GrantStep s connection id n new → Holds s → Holds new
grant_holds s connection id n new step h =
    subst Holds (sym step.is) (with_moved s connection id step.at _ h
    (λ f. record {
      delivers = record { run = f.delivers.run; since = f.delivers.since; credit = (let a = most_is (step.at.subscription.credits + n) most_credits in let b = f.delivers.credit in omega (arith, a, b)) };
      placed = f.placed;
    }))

next_seen : (s : Stream) (next : ℕ) (chunk : Chunk) → (s.seen ≡ []) ⊎ (s.seen ≡ s.chunks) → next_above next s.seen ≡ Some chunk → next_above next s.chunks ≡ Some chunk
next_seen s next chunk (inl none) is = let empty : next_above next [] ≡ Some chunk = subst (λ (l : List Chunk). next_above next l ≡ Some chunk) none is in absurd cc
next_seen s next chunk (inr same) is = subst (λ (l : List Chunk). next_above next l ≡ Some chunk) same is

pub deliver_holds : (s : Stream) (connection id : ℕ) (chunk : Chunk) (new : Stream) → DeliverStep s connection id chunk new → Holds s → Holds new
deliver_holds s connection id chunk new step h =
    subst Holds (sym step.is) (with_moved s connection id step.at (with_delivery step.at.subscription chunk) h
    (λ f. follows_delivery s.chunks step.at.subscription chunk h.list f step.has_credit (next_seen s step.at.subscription.next chunk h.seen step.is_next)))

pub unsubscribe_holds : (s : Stream) (connection id : ℕ) (new : Stream) → UnsubscribeStep s connection id new → Holds s → Holds new
unsubscribe_holds s connection id new step h =
    let follows = subst (AllByRecursion (Follows s.chunks)) step.at.subscribed h.follows in
    subst Holds (sym step.is) (with_subscriptions s (step.at.before ++ step.at.after) h
    (all_append (Follows s.chunks) step.at.before step.at.after (all_front (Follows s.chunks) step.at.before (step.at.subscription ∷ step.at.after) follows)
    (all_back (Follows s.chunks) step.at.before (step.at.subscription ∷ step.at.after) follows).1))

-- ---- a connection ends, and all are forgotten

knows_map : (chunks : List Chunk) (f : Declaration → Declaration) → ((d : Declaration) → KnowsAll chunks d → KnowsAll chunks (f d)) → (ds : List Declaration) → AllByRecursion (KnowsAll chunks) ds → AllByRecursion (KnowsAll chunks) (map f ds)
knows_map chunks f k [] all = tt
knows_map chunks f k (d ∷ ds) all = (k d all.0, knows_map chunks f k ds all.1)

all_filter : (P : Subscription → Type 0) (p : Subscription → Bool) (xs : List Subscription) → AllByRecursion P xs → AllByRecursion P (filter p xs)
all_filter P p [] all = tt
all_filter P p (x ∷ xs) all = go (p x) (all_filter P p xs all.1)
  where
    go : (b : Bool) → AllByRecursion P (filter p xs) → AllByRecursion P (cond b (x ∷ filter p xs) (filter p xs))
    go true rest = (all.0, rest)
    go false rest = rest

pub without_holds : (connection : ℕ) (s : Stream) → Holds s → Holds (without connection s)
without_holds connection s h =
    let declarations = map (closed_of connection) s.declarations in
    let mid : Stream = record s { declarations = declarations } in
    let holds : Holds mid = with_declarations s declarations h (all_grow_map (closed_of connection) (λ d. grows_same d (closed_of connection d) refl refl refl) s.declarations)
    (knows_map s.chunks (closed_of connection) (λ d k. k) s.declarations h.known) in
    with_subscriptions mid _ holds (all_filter (Follows s.chunks) (λ (t : Subscription). not (t.connection == connection)) s.subscriptions h.follows)

pub forgotten_holds : (s : Stream) → Holds s → Holds (forgotten s)
forgotten_holds s h =
    let declarations = map closed s.declarations in
    let mid : Stream = record s { declarations = declarations } in
    let holds : Holds mid = with_declarations s declarations h (all_grow_map closed (λ d. grows_same d (closed d) refl refl refl) s.declarations) (knows_map s.chunks closed (λ d k. k) s.declarations h.known) in
    with_seen _ [] (inl refl) (with_subscriptions mid [] holds tt)

-- ---- all moves

pub move_holds : (move : Move) (s new : Stream) → MoveStep s move new → Holds s → Holds new
move_holds (begins text super) s new step h = subst Holds (sym step.is) (with_name s _ step.name super h)
move_holds finishes s new step h = subst Holds (sym step.1) (with_life s _ h)
move_holds (commits chunk) s new step h = commit_holds s chunk new step h
move_holds (declares connection id name) s new step h = declare_holds s connection id name new step h
move_holds (undeclares connection id) s new step h = undeclare_holds s connection id new step h
move_holds (publishes connection id items) s new step h = publish_holds s connection id items new step h
move_holds (refuses connection id) s new step h = refuse_holds s connection id new step h
move_holds (confirms connection id name items) s new step h = confirm_holds s connection id name items new step h
move_holds (subscribes connection id group spec credits) s new step h = subscribe_holds s connection id group spec credits new step h
move_holds (unsubscribes connection id) s new step h = unsubscribe_holds s connection id new step h
move_holds (asks connection id correlation activate) s new step h = ask_holds s connection id correlation activate new step h
move_holds (starts connection id correlation spec) s new step h = start_holds s connection id correlation spec new step h
move_holds (rests connection id correlation) s new step h = rest_holds s connection id correlation new step h
move_holds (grants connection id credits) s new step h = grant_holds s connection id credits new step h
move_holds (delivers connection id chunk) s new step h = deliver_holds s connection id chunk new step h
move_holds (stores name offset) s new step h = subst Holds (sym step) (with_stored s _ h)
move_holds (leaves connection) s new step h = subst Holds (sym step) (without_holds connection s h)
move_holds forgets s new step h = subst Holds (sym step) (forgotten_holds s h)

pub run_holds : (moves : List Move) (old new : Stream) → StreamRun old moves new → Holds old → Holds new
run_holds [] old new run h = subst Holds (sym run) h
run_holds (move ∷ moves) old new run h = run_holds moves run.0 new run.2 (move_holds move old run.0 run.1 h)
