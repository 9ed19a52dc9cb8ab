-- A poll says nothing exactly where nothing is due.
use Rattle.std.proofs.Common.{◌≡◌, ◌≢◌, ℕ, zero, suc, ◌+◌, ◌<◌, ◌==◌, Bool, true, false, List, [], ◌∷◌, ◌++◌, length, get_or, set, drop, position, Option, Some, None, Result, Ok, Err, refl, sym, ap, subst, ◌∙◌, append_assoc, if◌then◌else◌, inl, inr, ◌⊎◌, arith}
use Rattle.std.specs.List.{AllByRecursion}
use Rattle.std.specs.declared.alloc.AllocError.{AllocError}
use Rattle.std.proofs.Math.Seq.{drop-cons}
use Rattle.std.proofs.lemmas.List.{append-nil, length-append, drop_all}
use Rattle.chunk_format.specs.declared.chunk.Chunk.{Chunk}
use Rattle.active_groups.specs.declared.consumer.Change.{Change}
use Rattle.stream_terms.specs.declared.terms.Confirm.{Confirm}
use Rattle.stream_terms.specs.Views.{name_of}
use Rattle.hub_terms.specs.Calls.{Finding, Confirming, NextChunk, Changing, IsActive}
use Rattle.hub_terms.specs.Meaning.{HubMeaning, HubLaws}
use Rattle.hub_terms.specs.Programs.{Program, done, asking, Runs}
use Rattle.session_tables.specs.Opening.{next_asked}
use Rattle.session_tables.specs.Subscribing.{slot, put_slot}
use Rattle.session_tables.specs.declared.publishers.Publisher.{Publisher}
use Rattle.session_tables.specs.declared.streams.StreamName.{StreamName}
use Rattle.session_tables.specs.declared.tables.Subscription.{Subscription}
use Rattle.session_tables.specs.declared.tables.Tables.{Tables}
use Rattle.session_core.specs.declared.unasked.Unasked.{Unasked}
use Rattle.session_core.specs.declared.unasked.Unasked.TheVariants as say
use Rattle.session_core.specs.Consuming.{consumer}
use Rattle.session_core.specs.Speaking.{Spoken, spoken, goes_on}
use Rattle.session_core.specs.Confirming.{id_of, told_by, all_told, confirmed, confirms_row}
use Rattle.session_core.specs.Ending.{running_on, has_over, without_over, all_leaving, ended_row, found_row, stream_row, streams_row}
use Rattle.session_core.specs.Turning.{is_consumer, turned_at, turned, turn_by, turns_row}
use Rattle.session_core.specs.Delivering.{sent_to, committed_row, chunk_by, send, active_row, single_row, slot_by, slot_row, slots_row}
use Rattle.session_core.specs.Polling.{open_row}
use Rattle.session_core.specs.Silence.{NoConfirm, StreamStays, Unused, Same, StreamsStay, Changes, NoTurn, NoChunk, GetsNone, NoCredit, Alone, Active, Waits, SlotGetsNone, AllGetNone, NothingDue, SilenceIsExact}
use Rattle.session_core.proofs.Leading.{runs_join, opens}
use Rattle.session_core.proofs.PollLaws.{runs_part}

-- ---- a part of a poll: what it adds, and what is so where that is nothing

record Part (t : Tables) (said : List Unasked) (got : Spoken) (Quiet : Type 0) : Type 0 where
  more : List Unasked
  said_is : got.said ≡ said ++ more
  quiet : more ≡ [] → (got.tables ≡ t) × Quiet

part_none : (t : Tables) (said : List Unasked) (got : Spoken) (Quiet : Type 0) → got ≡ spoken said t → Quiet → Part t said got Quiet
part_none t said got Quiet is quiet = record {
  more = [];
  said_is = ap (λ (g : Spoken). g.said) is ∙ sym (append-nil said);
  quiet = λ none. (ap (λ (g : Spoken). g.tables) is, quiet);
}

part_map : (t : Tables) (said : List Unasked) (got : Spoken) (P Q : Type 0) → (P → Q) → Part t said got P → Part t said got Q
part_map t said got P Q f p = record { more = p.more; said_is = p.said_is; quiet = λ none. let q = p.quiet none in (q.0, f q.1) }

record Grows (said : List Unasked) (got : Spoken) : Type 0 where
  more : List Unasked
  said_is : got.said ≡ said ++ more

grows_none : (said : List Unasked) (got : Spoken) → got.said ≡ said → Grows said got
grows_none said got is = record { more = []; said_is = is ∙ sym (append-nil said) }

grows_one : (said : List Unasked) (one : Unasked) (got : Spoken) → Grows (said ++ one ∷ []) got → Grows said got
grows_one said one got g = record { more = one ∷ g.more; said_is = g.said_is ∙ append_assoc said (one ∷ []) g.more }

-- what says something isn't quiet
part_said : (t : Tables) (said : List Unasked) (one : Unasked) (got : Spoken) (Quiet : Type 0) → Grows (said ++ one ∷ []) got → Part t said got Quiet
part_said t said one got Quiet g = record {
  more = one ∷ g.more;
  said_is = g.said_is ∙ append_assoc said (one ∷ []) g.more;
  quiet = λ none. absurd (cc none);
}

no_first : (xs ys : List Unasked) → xs ++ ys ≡ [] → xs ≡ []
no_first [] ys none = refl
no_first (x ∷ xs) ys none = absurd (cc none)

no_last : (xs ys : List Unasked) → xs ++ ys ≡ [] → ys ≡ []
no_last [] ys none = none
no_last (x ∷ xs) ys none = absurd (cc none)

part_join : (t : Tables) (said : List Unasked) (a got : Spoken) (P : Type 0) (Q : Tables → Type 0) → Part t said a P → Part a.tables a.said got (Q a.tables) → Part t said got (P × Q t)
part_join t said a got P Q one two = record {
  more = one.more ++ two.more;
  said_is = two.said_is ∙ ap (λ (l : List Unasked). l ++ two.more) one.said_is ∙ append_assoc said one.more two.more;
  quiet = λ none.
      let first = one.quiet (no_first one.more two.more none) in
      let last = two.quiet (no_last one.more two.more none) in
      (last.0 ∙ first.0, (first.1, subst Q first.0 last.1));
}

-- ---- confirms

told_none : (c : Confirm) (id : Option ℕ) (rest : List Unasked) → told_by c id ++ rest ≡ [] → (id ≡ None) × (rest ≡ [])
told_none c None rest none = (refl, none)
told_none c (Some id) rest none = absurd (cc none)

none_stands : (ps : List Publisher) (cs : List Confirm) → all_told ps cs ≡ [] → AllByRecursion (λ (c : Confirm). id_of ps c ≡ None) cs
none_stands ps [] none = tt
none_stands ps (c ∷ cs) none = let parts = told_none c (id_of ps c) (all_told ps cs) none in (parts.0, none_stands ps cs parts.1)

stands_none : (ps : List Publisher) (cs : List Confirm) → AllByRecursion (λ (c : Confirm). id_of ps c ≡ None) cs → all_told ps cs ≡ []
stands_none ps [] all = refl
stands_none ps (c ∷ cs) (one, rest) = ap (λ (id : Option ℕ). told_by c id ++ all_told ps cs) one ∙ stands_none ps cs rest

confirms_by : {S : Type 0} (m : HubMeaning S) (t : Tables) (said : List Unasked) (h0 mid : S) (r : Result (List Confirm) AllocError) (got : Spoken) (h1 : S)
    → m.does (Confirming t.number) h0 r mid → Runs m (confirmed t said r) mid got h1 → Part t said got (NoConfirm m t h0 h1)
confirms_by {S} m t said h0 mid (Ok cs) got h1 does run = record {
  more = all_told t.publishers cs;
  said_is = ap (λ (g : Spoken). g.said) run.0;
  quiet = λ none. (
    ap (λ (g : Spoken). g.tables) run.0,
    record { ready = cs; handed = subst (λ (h : S). m.does (Confirming t.number) h0 (Ok cs) h) (sym run.1) does; none = none_stands t.publishers cs none },
  );
}
confirms_by m t said h0 mid (Err e) got h1 does run = absurd run

confirms_part : {S : Type 0} (m : HubMeaning S) (t : Tables) (said : List Unasked) (h0 : S) (got : Spoken) (h1 : S) → Runs m (confirms_row t said) h0 got h1 → Part t said got (NoConfirm m t h0 h1)
confirms_part m t said h0 got h1 (r, mid, does, run) = confirms_by m t said h0 mid r got h1 does run

none_confirmed : {S : Type 0} (m : HubMeaning S) (t : Tables) (said : List Unasked) (h0 h1 : S) → NoConfirm m t h0 h1 → Runs m (confirms_row t said) h0 (spoken said t) h1
none_confirmed m t said h0 h1 n =
    let same : said ≡ said ++ all_told t.publishers n.ready = sym (append-nil said) ∙ ap (λ (l : List Unasked). said ++ l) (sym (stands_none t.publishers n.ready n.none)) in
    (Ok n.ready, h1, n.handed, (ap (λ (l : List Unasked). spoken l t) same, refl))

-- ---- streams

over_part : {S : Type 0} (m : HubMeaning S) (t : Tables) (said : List Unasked) (k : StreamName) (running : Option ℕ) (h0 : S) (got : Spoken) (h1 : S) (over : Bool) (Quiet : Type 0)
    → (over ≡ false → h1 ≡ h0 → Quiet) → Runs m (if over then ended_row t said k.stream running k.name else done (spoken said t)) h0 got h1 → Part t said got Quiet
over_part m t said k running h0 got h1 true Quiet f run =
    let after : Spoken = spoken (said ++ say.MetadataUpdate k.name ∷ []) (without_over k.stream running t) in
    let parts = runs_part m (all_leaving t k.stream running t.subscriptions) (λ (u : Unit {0}). done after) h0 h1 got run in
    part_said t said (say.MetadataUpdate k.name) got Quiet (grows_none (said ++ say.MetadataUpdate k.name ∷ []) got (ap (λ (g : Spoken). g.said) parts.two.0))
over_part m t said k running h0 got h1 false Quiet f run = part_none t said got Quiet run.0 (f refl run.1)

used_part : {S : Type 0} (m : HubMeaning S) (t : Tables) (said : List Unasked) (k : StreamName) (h0 : S) (got : Spoken) (h1 : S) (used : Bool)
    → has_over k.stream None t ≡ used → Runs m (if used then asking (Finding (name_of k.name)) (λ found. found_row t said k (running_on k.stream found)) else done (spoken said t)) h0 got h1 → Part t said got (StreamStays m t k h0 h1)
used_part {S} m t said k h0 got h1 true is (found, mid, does, run) =
    over_part m t said k (running_on k.stream found) mid got h1 (has_over k.stream (running_on k.stream found) t) (StreamStays m t k h0 h1)
    (λ over end. Same is found (subst (λ (h : S). m.does (Finding (name_of k.name)) h0 found h) (sym end) does) over) run
used_part m t said k h0 got h1 false is run = part_none t said got (StreamStays m t k h0 h1) run.0 (Unused is run.1)

streams_part : {S : Type 0} (m : HubMeaning S) (ks : List StreamName) (t : Tables) (said : List Unasked) (h0 : S) (got : Spoken) (h1 : S) → Runs m (streams_row ks t said) h0 got h1 → Part t said got (StreamsStay m t ks h0 h1)
streams_part m [] t said h0 got h1 run = part_none t said got (h1 ≡ h0) run.0 run.1
streams_part {S} m (k ∷ ks) t said h0 got h1 run =
    let parts = runs_part m (stream_row t said k) (λ a. streams_row ks a.tables a.said) h0 h1 got run in
    let one = used_part m t said k h0 parts.a parts.h (has_over k.stream None t) refl parts.one in
    let two = streams_part m ks parts.a.tables parts.a.said parts.h got h1 parts.two in
    let both = part_join t said parts.a got (StreamStays m t k h0 parts.h) (λ x. StreamsStay m x ks parts.h h1) one two in
    part_map t said got (StreamStays m t k h0 parts.h × StreamsStay m t ks parts.h h1) (StreamsStay m t (k ∷ ks) h0 h1) (λ q. (parts.h, q.0, q.1)) both

stream_stays : {S : Type 0} (m : HubMeaning S) (t : Tables) (said : List Unasked) (k : StreamName) (h0 h1 : S) → StreamStays m t k h0 h1 → Runs m (stream_row t said k) h0 (spoken said t) h1
stream_stays {S} m t said k h0 h1 (Unused none end) =
    let rest : Program Spoken = asking (Finding (name_of k.name)) (λ found. found_row t said k (running_on k.stream found)) in
    subst (λ (b : Bool). Runs m (if b then rest else done (spoken said t)) h0 (spoken said t) h1) (sym none) (refl, end)
stream_stays {S} m t said k h0 h1 (Same used found does none) =
    let rest : Program Spoken = asking (Finding (name_of k.name)) (λ found. found_row t said k (running_on k.stream found)) in
    let running = running_on k.stream found in
    let here : Runs m (found_row t said k running) h1 (spoken said t) h1 = subst (λ (b : Bool). Runs m (if b then ended_row t said k.stream running k.name else done (spoken said t)) h1 (spoken said t) h1) (sym none) (refl, refl) in
    subst (λ (b : Bool). Runs m (if b then rest else done (spoken said t)) h0 (spoken said t) h1) (sym used) (found, h1, does, here)

streams_stay : {S : Type 0} (m : HubMeaning S) (ks : List StreamName) (t : Tables) (said : List Unasked) (h0 h1 : S) → StreamsStay m t ks h0 h1 → Runs m (streams_row ks t said) h0 (spoken said t) h1
streams_stay m [] t said h0 h1 end = (refl, end)
streams_stay m (k ∷ ks) t said h0 h1 (h, one, rest) =
    runs_join m (stream_row t said k) (λ a. streams_row ks a.tables a.said) h0 h h1 (spoken said t) (spoken said t) (stream_stays m t said k h0 h one) (streams_stay m ks t said h h1 rest)

-- ---- turns

abbrev NoPlace : Tables → Change → Type 0
NoPlace t c = position (is_consumer c.consumer.serial) t.subscriptions ≡ None

-- asked for no more, or the hub had no more
abbrev TurnsEnd : {S : Type 0} → HubMeaning S → Tables → ℕ → ℕ → S → S → Type 0
TurnsEnd m t count most hub h1 = ((count ≡ most) × (h1 ≡ hub)) ⊎ ((count < most) × m.does (Changing t.number) hub None h1)

one_more : {S : Type 0} (m : HubMeaning S) (t : Tables) (n count : ℕ) (hub h1 : S) → TurnsEnd m t count n hub h1 → TurnsEnd m t (suc count) (suc n) hub h1
one_more m t n count hub h1 (inl (is, end)) = inl (ap suc is, end)
one_more m t n count hub h1 (inr (under, end)) = inr (omega (arith, under), end)

turn_more : {S : Type 0} (m : HubMeaning S) (t : Tables) (n : ℕ) (c : Change) (h0 mid h1 : S) → m.does (Changing t.number) h0 (Some c) mid → NoPlace t c → NoTurn m t n mid h1 → NoTurn m t (suc n) h0 h1
turn_more m t n c h0 mid h1 does none rest = record {
  changes = c ∷ rest.changes;
  hub = rest.hub;
  handed = (mid, does, rest.handed);
  none = (none, rest.none);
  rest = one_more m t n (length rest.changes) rest.hub h1 rest.rest;
}

turn_part : {S : Type 0} (m : HubMeaning S) (n : ℕ) (t : Tables) (said : List Unasked) (c : Change) (h0 mid h1 : S) (got : Spoken) (place : Option ℕ)
    → m.does (Changing t.number) h0 (Some c) mid → position (is_consumer c.consumer.serial) t.subscriptions ≡ place
    → ((x : Tables) (before : List Unasked) → Runs m (turns_row n x before) mid got h1 → Part x before got (NoTurn m x n mid h1))
    → Runs m (turns_row n (turned_at t said c.active place).tables (turned_at t said c.active place).said) mid got h1 → Part t said got (NoTurn m t (suc n) h0 h1)
turn_part m n t said c h0 mid h1 got None does is more run = part_map t said got (NoTurn m t n mid h1) (NoTurn m t (suc n) h0 h1) (turn_more m t n c h0 mid h1 does is) (more t said run)
turn_part m n t said c h0 mid h1 got (Some id) does is more run =
    let a = turned_at t said c.active (Some id) in
    let rest = more a.tables a.said run in
    part_said t said (say.Update (next_asked t.asked) id c.active) got (NoTurn m t (suc n) h0 h1) (record { more = rest.more; said_is = rest.said_is })

turns_by : {S : Type 0} (m : HubMeaning S) (n : ℕ) (t : Tables) (said : List Unasked) (h0 mid : S) (got : Spoken) (h1 : S) (r : Option Change)
    → m.does (Changing t.number) h0 r mid → ((x : Tables) (before : List Unasked) → Runs m (turns_row n x before) mid got h1 → Part x before got (NoTurn m x n mid h1))
    → Runs m (turn_by (turns_row n) t said r) mid got h1 → Part t said got (NoTurn m t (suc n) h0 h1)
turns_by {S} m n t said h0 mid got h1 None does more run =
    part_none t said got (NoTurn m t (suc n) h0 h1) run.0
    (record { changes = []; hub = h0; handed = refl; none = tt; rest = inr (omega arith, subst (λ (h : S). m.does (Changing t.number) h0 None h) (sym run.1) does) })
turns_by m n t said h0 mid got h1 (Some c) does more run = turn_part m n t said c h0 mid h1 got (position (is_consumer c.consumer.serial) t.subscriptions) does refl more run

turns_part : {S : Type 0} (m : HubMeaning S) (n : ℕ) (t : Tables) (said : List Unasked) (h0 : S) (got : Spoken) (h1 : S) → Runs m (turns_row n t said) h0 got h1 → Part t said got (NoTurn m t n h0 h1)
unfolding turns_row
turns_part m zero t said h0 got h1 run = part_none t said got (NoTurn m t zero h0 h1) run.0 (record { changes = []; hub = h0; handed = refl; none = tt; rest = inl (refl, run.1) })
turns_part m (suc n) t said h0 got h1 (r, mid, does, run) = turns_by m n t said h0 mid got h1 r does (λ x before more. turns_part m n x before mid got h1 more) run

turn_none : {S : Type 0} (m : HubMeaning S) (n : ℕ) (t : Tables) (said : List Unasked) (c : Change) (h : S) (got : Spoken) (h1 : S) → NoPlace t c → Runs m (turns_row n t said) h got h1 → Runs m (turns_row n (turned t said c).tables (turned t said c).said) h got h1
turn_none {S} m n t said c h got h1 none run = subst (λ (p : Option ℕ). Runs m (turns_row n (turned_at t said c.active p).tables (turned_at t said c.active p).said) h got h1) (sym none) run

none_turned : {S : Type 0} (m : HubMeaning S) (n : ℕ) (t : Tables) (said : List Unasked) (cs : List Change) (h0 hub h1 : S) → Changes m t.number cs h0 hub → AllByRecursion (NoPlace t) cs
    → TurnsEnd m t (length cs) n hub h1 → Runs m (turns_row n t said) h0 (spoken said t) h1
unfolding turns_row
none_turned m zero t said [] h0 hub h1 handed none (inl (is, end)) = (refl, end ∙ handed)
none_turned m zero t said [] h0 hub h1 handed none (inr (under, end)) = absurd (omega (arith, under))
none_turned m zero t said (c ∷ cs) h0 hub h1 handed none (inl (is, end)) = absurd (omega (arith, is))
none_turned m zero t said (c ∷ cs) h0 hub h1 handed none (inr (under, end)) = absurd (omega (arith, under))
none_turned m (suc n) t said [] h0 hub h1 handed none (inl (is, end)) = absurd (omega (arith, is))
none_turned {S} m (suc n) t said [] h0 hub h1 handed none (inr (under, end)) = (None, h1, subst (λ (h : S). m.does (Changing t.number) h None h1) handed end, (refl, refl))
none_turned m (suc n) t said (c ∷ cs) h0 hub h1 (h, does, handed) (one, none) (inl (is, end)) =
    (Some c, h, does, turn_none m n t said c h (spoken said t) h1 one (none_turned m n t said cs h hub h1 handed none (inl (omega (arith, is), end))))
none_turned m (suc n) t said (c ∷ cs) h0 hub h1 (h, does, handed) (one, none) (inr (under, end)) =
    (Some c, h, does, turn_none m n t said c h (spoken said t) h1 one (none_turned m n t said cs h hub h1 handed none (inr (omega (arith, under), end))))

-- ---- deliveries

set_same : (xs : List (Option Subscription)) (i : ℕ) (s : Subscription) → get_or xs i None ≡ Some s → set xs i (Some s) ≡ xs
set_same [] i s is = refl
set_same (x ∷ xs) zero s is = ap (λ (o : Option Subscription). o ∷ xs) (sym is)
set_same (x ∷ xs) (suc i) s is = ap (λ (l : List (Option Subscription)). x ∷ l) (set_same xs i s is)

put_same : (t : Tables) (id : ℕ) (s : Subscription) → slot id t ≡ Some s → put_slot id (Some s) t ≡ t
put_same t id s is = ap (λ (l : List (Option Subscription)). record t { subscriptions = l }) (set_same t.subscriptions id s is)

-- it only adds
chunk_grows : {S : Type 0} (m : HubMeaning S) (n : ℕ) (t : Tables) (id : ℕ) (s : Subscription) (said : List Unasked) (mid : S) (got : Spoken) (h1 : S) (r : Result (Option Chunk) AllocError)
    → ((x : Subscription) (before : List Unasked) (h : S) → Runs m (send n t id x before) h got h1 → Grows before got) → Runs m (chunk_by (send n t id) t id s said r) mid got h1 → Grows said got
chunk_grows m n t id s said mid got h1 (Ok None) more run = grows_none said got (ap (λ (g : Spoken). g.said) run.0)
chunk_grows m n t id s said mid got h1 (Ok (Some c)) more run =
    let next : Option ℕ → Program Spoken = λ committed. send n t id (sent_to s c) (said ++ say.Deliver id committed c ∷ []) in
    let parts = runs_part m (committed_row t.second s.stream) next mid h1 got run in
    grows_one said (say.Deliver id parts.a c) got (more (sent_to s c) (said ++ say.Deliver id parts.a c ∷ []) parts.h parts.two)
chunk_grows m n t id s said mid got h1 (Err e) more run = absurd run

send_grows : {S : Type 0} (m : HubMeaning S) (n : ℕ) (t : Tables) (id : ℕ) (s : Subscription) (said : List Unasked) (h0 : S) (got : Spoken) (h1 : S) → Runs m (send n t id s said) h0 got h1 → Grows said got
unfolding send
send_grows m zero t id s said h0 got h1 run = grows_none said got (ap (λ (g : Spoken). g.said) run.0)
send_grows m (suc n) t id s said h0 got h1 (r, mid, does, run) = chunk_grows m n t id s said mid got h1 r (λ x before h rest. send_grows m n t id x before h got h1 rest) run

chunk_part : {S : Type 0} (m : HubMeaning S) → HubLaws m → (n : ℕ) (t : Tables) (id : ℕ) (s : Subscription) (said : List Unasked) (h0 mid : S) (got : Spoken) (h1 : S) (r : Result (Option Chunk) AllocError)
    → slot id t ≡ Some s → m.does (NextChunk s.stream s.next) h0 r mid → Runs m (chunk_by (send n t id) t id s said r) mid got h1 → Part t said got (NoChunk m s h0 h1)
chunk_part {S} m laws n t id s said h0 mid got h1 (Ok None) at does run =
    let none : NoChunk m s h0 mid = record { asked = does; none = sym ((laws.called (NextChunk s.stream s.next) h0 mid (Ok None) does).told) } in
    part_none t said got (NoChunk m s h0 h1) (run.0 ∙ ap (spoken said) (put_same t id s at)) (subst (λ (h : S). NoChunk m s h0 h) (sym run.1) none)
chunk_part m laws n t id s said h0 mid got h1 (Ok (Some c)) at does run =
    let next : Option ℕ → Program Spoken = λ committed. send n t id (sent_to s c) (said ++ say.Deliver id committed c ∷ []) in
    let parts = runs_part m (committed_row t.second s.stream) next mid h1 got run in
    part_said t said (say.Deliver id parts.a c) got (NoChunk m s h0 h1) (send_grows m n t id (sent_to s c) (said ++ say.Deliver id parts.a c ∷ []) parts.h got h1 parts.two)
chunk_part m laws n t id s said h0 mid got h1 (Err e) at does run = absurd run

send_part : {S : Type 0} (m : HubMeaning S) → HubLaws m → (n : ℕ) (t : Tables) (id : ℕ) (s : Subscription) (said : List Unasked) (h0 : S) (got : Spoken) (h1 : S)
    → slot id t ≡ Some s → n ≢ 0 → Runs m (send n t id s said) h0 got h1 → Part t said got (NoChunk m s h0 h1)
unfolding send
send_part m laws zero t id s said h0 got h1 at some run = absurd (some refl)
send_part m laws (suc n) t id s said h0 got h1 at some (r, mid, does, run) = chunk_part m laws n t id s said h0 mid got h1 r at does run

active_part : {S : Type 0} (m : HubMeaning S) → HubLaws m → (t : Tables) (id serial : ℕ) (s : Subscription) (said : List Unasked) (h0 mid : S) (got : Spoken) (h1 : S) (active : Bool)
    → slot id t ≡ Some s → s.credit ≢ 0 → s.single ≡ Some serial → m.does (IsActive (consumer t serial)) h0 active mid → Runs m (active_row t said id s active) mid got h1 → Part t said got (GetsNone m t.number s h0 h1)
active_part m laws t id serial s said h0 mid got h1 true at some single does run =
    part_map t said got (NoChunk m s mid h1) (GetsNone m t.number s h0 h1) (λ none. Active some serial mid single does none) (send_part m laws s.credit t id s said mid got h1 at some run)
active_part {S} m laws t id serial s said h0 mid got h1 false at some single does run =
    part_none t said got (GetsNone m t.number s h0 h1) run.0 (Waits some serial single (subst (λ (h : S). m.does (IsActive (consumer t serial)) h0 false h) (sym run.1) does))

single_part : {S : Type 0} (m : HubMeaning S) → HubLaws m → (t : Tables) (id : ℕ) (s : Subscription) (said : List Unasked) (h0 : S) (got : Spoken) (h1 : S) (single : Option ℕ)
    → slot id t ≡ Some s → s.credit ≢ 0 → s.single ≡ single → Runs m (single_row t said id s single) h0 got h1 → Part t said got (GetsNone m t.number s h0 h1)
single_part m laws t id s said h0 got h1 None at some is run =
    part_map t said got (NoChunk m s h0 h1) (GetsNone m t.number s h0 h1) (λ none. Alone some is none) (send_part m laws s.credit t id s said h0 got h1 at some run)
single_part m laws t id s said h0 got h1 (Some serial) at some is (active, mid, does, run) = active_part m laws t id serial s said h0 mid got h1 active at some is does run

is_zero : (n : ℕ) → (n == 0) ≡ true → n ≡ 0
is_zero n e = grind arith

not_zero : (n : ℕ) → (n == 0) ≡ false → n ≢ 0
not_zero zero e same = absurd (cc e)
not_zero (suc n) e same = absurd (omega (arith, same))

zero_is : (n : ℕ) → n ≡ 0 → (n == 0) ≡ true
zero_is n is = grind arith

some_is : (n : ℕ) → n ≢ 0 → (n == 0) ≡ false
some_is zero some = absurd (some refl)
some_is (suc n) some = grind arith

credit_part : {S : Type 0} (m : HubMeaning S) → HubLaws m → (t : Tables) (id : ℕ) (s : Subscription) (said : List Unasked) (h0 : S) (got : Spoken) (h1 : S) (none : Bool)
    → slot id t ≡ Some s → (s.credit == 0) ≡ none → Runs m (if none then done (spoken said t) else single_row t said id s s.single) h0 got h1 → Part t said got (GetsNone m t.number s h0 h1)
credit_part m laws t id s said h0 got h1 true at is run = part_none t said got (GetsNone m t.number s h0 h1) run.0 (NoCredit (is_zero s.credit is) run.1)
credit_part m laws t id s said h0 got h1 false at is run = single_part m laws t id s said h0 got h1 s.single at (not_zero s.credit is) refl run

slot_part : {S : Type 0} (m : HubMeaning S) → HubLaws m → (t : Tables) (id : ℕ) (o : Option Subscription) (said : List Unasked) (h0 : S) (got : Spoken) (h1 : S)
    → slot id t ≡ o → Runs m (slot_by t said id o) h0 got h1 → Part t said got (SlotGetsNone m t.number o h0 h1)
slot_part m laws t id None said h0 got h1 at run = part_none t said got (h1 ≡ h0) run.0 run.1
slot_part m laws t id (Some s) said h0 got h1 at run = credit_part m laws t id s said h0 got h1 (s.credit == 0) at refl run

-- from an id on, where so many are left
abbrev RestGetNone : {S : Type 0} → HubMeaning S → ℕ → ℕ → S → S → Tables → Type 0
RestGetNone m n id a b t = length t.subscriptions ≡ id + n → AllGetNone m t.number (drop id t.subscriptions) a b

ahead : (slots : List (Option Subscription)) (n id : ℕ) → length slots ≡ id + suc n → drop id slots ≡ get_or slots id None ∷ drop (id + 1) slots
ahead slots n id len =
    let next : suc id ≡ id + 1 = omega arith in
    drop-cons slots id None (omega (arith, len)) ∙ ap (λ (i : ℕ). get_or slots id None ∷ drop i slots) next

slots_part : {S : Type 0} (m : HubMeaning S) → HubLaws m → (n id : ℕ) (t : Tables) (said : List Unasked) (h0 : S) (got : Spoken) (h1 : S) → Runs m (slots_row n id t said) h0 got h1 → Part t said got (RestGetNone m n id h0 h1 t)
unfolding slots_row
slots_part {S} m laws zero id t said h0 got h1 run =
    part_none t said got (RestGetNone m zero id h0 h1 t) run.0 (λ len. subst (λ (l : List (Option Subscription)). AllGetNone m t.number l h0 h1) (sym (drop_all id t.subscriptions (omega (arith, len)))) run.1)
slots_part {S} m laws (suc n) id t said h0 got h1 run =
    let next : Spoken → Program Spoken = λ a. slots_row n (id + 1) a.tables a.said in
    let parts = runs_part m (slot_row id t said) next h0 h1 got run in
    let one = slot_part m laws t id (slot id t) said h0 parts.a parts.h refl parts.one in
    let two = slots_part m laws n (id + 1) parts.a.tables parts.a.said parts.h got h1 parts.two in
    let both = part_join t said parts.a got (SlotGetsNone m t.number (slot id t) h0 parts.h) (RestGetNone m n (id + 1) parts.h h1) one two in
    part_map t said got (SlotGetsNone m t.number (slot id t) h0 parts.h × RestGetNone m n (id + 1) parts.h h1 t) (RestGetNone m (suc n) id h0 h1 t)
    (λ q len. subst (λ (l : List (Option Subscription)). AllGetNone m t.number l h0 h1) (sym (ahead t.subscriptions n id len)) (parts.h, q.0, q.1 (omega (arith, len)))) both

-- ---- and where nothing is due nothing is said

no_chunk : {S : Type 0} (m : HubMeaning S) (n : ℕ) (t : Tables) (id : ℕ) (s : Subscription) (said : List Unasked) (h0 h1 : S) → slot id t ≡ Some s → n ≢ 0 → NoChunk m s h0 h1 → Runs m (send n t id s said) h0 (spoken said t) h1
unfolding send
no_chunk m zero t id s said h0 h1 at some none = absurd (some refl)
no_chunk m (suc n) t id s said h0 h1 at some none = (Ok None, h1, none.asked, (ap (spoken said) (sym (put_same t id s at)), refl))

with_credit : {S : Type 0} (m : HubMeaning S) (t : Tables) (id : ℕ) (s : Subscription) (said : List Unasked) (h0 h1 : S) (single : Option ℕ)
    → s.credit ≢ 0 → s.single ≡ single → Runs m (single_row t said id s single) h0 (spoken said t) h1 → Runs m (slot_by t said id (Some s)) h0 (spoken said t) h1
with_credit {S} m t id s said h0 h1 single some is run =
    let rest : Program Spoken = single_row t said id s s.single in
    let here : Runs m rest h0 (spoken said t) h1 = subst (λ (o : Option ℕ). Runs m (single_row t said id s o) h0 (spoken said t) h1) (sym is) run in
    subst (λ (b : Bool). Runs m (if b then done (spoken said t) else rest) h0 (spoken said t) h1) (sym (some_is s.credit some)) here

gets_none : {S : Type 0} (m : HubMeaning S) (t : Tables) (id : ℕ) (s : Subscription) (said : List Unasked) (h0 h1 : S) → slot id t ≡ Some s → GetsNone m t.number s h0 h1 → Runs m (slot_by t said id (Some s)) h0 (spoken said t) h1
gets_none {S} m t id s said h0 h1 at (NoCredit none end) =
    let rest : Program Spoken = single_row t said id s s.single in
    subst (λ (b : Bool). Runs m (if b then done (spoken said t) else rest) h0 (spoken said t) h1) (sym (zero_is s.credit none)) (refl, end)
gets_none m t id s said h0 h1 at (Alone some single none) = with_credit m t id s said h0 h1 None some single (no_chunk m s.credit t id s said h0 h1 at some none)
gets_none m t id s said h0 h1 at (Active some serial h single does none) = with_credit m t id s said h0 h1 (Some serial) some single (true, h, does, no_chunk m s.credit t id s said h h1 at some none)
gets_none m t id s said h0 h1 at (Waits some serial single does) = with_credit m t id s said h0 h1 (Some serial) some single (false, h1, does, (refl, refl))

slot_gets_none : {S : Type 0} (m : HubMeaning S) (t : Tables) (id : ℕ) (o : Option Subscription) (said : List Unasked) (h0 h1 : S) → slot id t ≡ o → SlotGetsNone m t.number o h0 h1 → Runs m (slot_by t said id o) h0 (spoken said t) h1
slot_gets_none m t id None said h0 h1 at end = (refl, end)
slot_gets_none m t id (Some s) said h0 h1 at none = gets_none m t id s said h0 h1 at none

all_get_none : {S : Type 0} (m : HubMeaning S) (n id : ℕ) (t : Tables) (said : List Unasked) (h0 h1 : S) → length t.subscriptions ≡ id + n → AllGetNone m t.number (drop id t.subscriptions) h0 h1 → Runs m (slots_row n id t said) h0 (spoken said t) h1
unfolding slots_row
all_get_none {S} m zero id t said h0 h1 len all =
    let end : h1 ≡ h0 = subst (λ (l : List (Option Subscription)). AllGetNone m t.number l h0 h1) (drop_all id t.subscriptions (omega (arith, len))) all in
    (refl, end)
all_get_none {S} m (suc n) id t said h0 h1 len all =
    let here : AllGetNone m t.number (slot id t ∷ drop (id + 1) t.subscriptions) h0 h1 = subst (λ (l : List (Option Subscription)). AllGetNone m t.number l h0 h1) (ahead t.subscriptions n id len) all in
    runs_join m (slot_row id t said) (λ a. slots_row n (id + 1) a.tables a.said) h0 here.0 h1 (spoken said t) (spoken said t)
    (slot_gets_none m t id (slot id t) said h0 here.0 refl here.1) (all_get_none m n (id + 1) t said here.0 h1 (omega (arith, len)) here.2)

-- ---- the whole

open_part : {S : Type 0} (m : HubMeaning S) → HubLaws m → (t : Tables) (out : List Unasked) (h0 : S) (got : Spoken) (h1 : S) → length t.subscriptions ≡ 256 → Runs m (open_row t out) h0 got h1 → Part t out got (NothingDue m t h0 h1)
open_part {S} m laws t out h0 got h1 len run =
    let last : Spoken → Program Spoken = λ c. slots_row 256 0 c.tables c.said in
    let third : Spoken → Program Spoken = λ b. goes_on (turns_row 256 b.tables b.said) last in
    let second : Spoken → Program Spoken = λ a. goes_on (streams_row a.tables.streams a.tables a.said) third in
    let p1 = runs_part m (confirms_row t out) second h0 h1 got run in
    let p2 = runs_part m (streams_row p1.a.tables.streams p1.a.tables p1.a.said) third p1.h h1 got p1.two in
    let p3 = runs_part m (turns_row 256 p2.a.tables p2.a.said) last p2.h h1 got p2.two in
    let one = confirms_part m t out h0 p1.a p1.h p1.one in
    let two = streams_part m p1.a.tables.streams p1.a.tables p1.a.said p1.h p2.a p2.h p2.one in
    let three = turns_part m 256 p2.a.tables p2.a.said p2.h p3.a p3.h p3.one in
    let four = slots_part m laws 256 0 p3.a.tables p3.a.said p3.h got h1 p3.two in
    let Q4 : Tables → Type 0 = λ x. RestGetNone m 256 0 p3.h h1 x in
    let Q3 : Tables → Type 0 = λ x. NoTurn m x 256 p2.h p3.h × Q4 x in
    let Q2 : Tables → Type 0 = λ x. StreamsStay m x x.streams p1.h p2.h × Q3 x in
    let after : Part p2.a.tables p2.a.said got (Q3 p2.a.tables) = part_join p2.a.tables p2.a.said p3.a got (NoTurn m p2.a.tables 256 p2.h p3.h) Q4 three four in
    let behind : Part p1.a.tables p1.a.said got (Q2 p1.a.tables) = part_join p1.a.tables p1.a.said p2.a got (StreamsStay m p1.a.tables p1.a.tables.streams p1.h p2.h) Q3 two after in
    let all = part_join t out p1.a got (NoConfirm m t h0 p1.h) Q2 one behind in
    part_map t out got (NoConfirm m t h0 p1.h × Q2 t) (NothingDue m t h0 h1)
    (λ q. record { confirmed = p1.h; stayed = p2.h; turned = p3.h; confirms = q.0; streams = q.1.0; turns = q.1.1.0; deliveries = q.1.1.1 len }) all

nothing_more : (xs ys : List Unasked) → xs ≡ xs ++ ys → ys ≡ []
nothing_more xs [] is = refl
nothing_more xs (y ∷ ys) is = absurd (omega (arith, ap length is, length-append xs (y ∷ ys)))

silent_open : {S : Type 0} (m : HubMeaning S) → HubLaws m → (t new : Tables) (out : List Unasked) (h0 h1 : S) → length t.subscriptions ≡ 256 → Runs m (open_row t out) h0 (spoken out new) h1 → (new ≡ t) × NothingDue m t h0 h1
silent_open m laws t new out h0 h1 len run = let part = open_part m laws t out h0 (spoken out new) h1 len run in part.quiet (nothing_more out part.more part.said_is)

open_silent : {S : Type 0} (m : HubMeaning S) (t new : Tables) (out : List Unasked) (h0 h1 : S) → length t.subscriptions ≡ 256 → (new ≡ t) × NothingDue m t h0 h1 → Runs m (open_row t out) h0 (spoken out new) h1
open_silent {S} m t new out h0 h1 len (same, due) =
    let one = none_confirmed m t out h0 due.confirmed due.confirms in
    let two = streams_stay m t.streams t out due.confirmed due.stayed due.streams in
    let turns = due.turns in
    let three = none_turned m 256 t out turns.changes due.stayed turns.hub due.turned turns.handed turns.none turns.rest in
    let four = all_get_none m 256 0 t out due.turned h1 len due.deliveries in
    let all : Runs m (open_row t out) h0 (spoken out t) h1 = opens m t out out t out t out (spoken out t) h0 due.confirmed due.stayed due.turned h1 one two three four in
    subst (λ (x : Tables). Runs m (open_row t out) h0 (spoken out x) h1) (sym same) all

pub silence_is_exact : {S : Type 0} (m : HubMeaning S) → HubLaws m → SilenceIsExact m
silence_is_exact {S} m laws t new out h0 h1 is len =
    let by : Bool → Type 0 = λ b. Runs m (if b then open_row t out else done (spoken out t)) h0 (spoken out new) h1 in (
      λ run. silent_open m laws t new out h0 h1 len (subst by is run),
      λ due. subst by (sym is) (open_silent m t new out h0 h1 len due),
    )
