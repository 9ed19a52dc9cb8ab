-- What comes of the parts of a poll, and of the whole.
use Rattle.std.proofs.Common.{◌≡◌, ℕ, zero, suc, ◌==◌, ◌&&◌, Bool, true, false, cond, List, [], ◌∷◌, ◌++◌, get_or, set, map, position, Option, Some, None, Result, Ok, Err, refl, sym, ap, subst, ◌∙◌, append_assoc, if◌then◌else◌, arith}
use Rattle.std.specs.List.{AllByRecursion, find, Contains}
use Rattle.std.specs.Option.{option_map}
use Rattle.std.specs.declared.alloc.AllocError.{AllocError}
use Rattle.std.proofs.lemmas.List.{append-nil}
use Rattle.std.proofs.lemmas.List.Concat.{flat_map-append}
use Rattle.chunk_format.specs.declared.chunk.Chunk.{Chunk}
use Rattle.chunk_format.specs.Logs.{users_above}
use Rattle.chunk_format.proofs.UserLaws.{found_passes}
use Rattle.stream_terms.specs.declared.terms.Confirm.{Confirm}
use Rattle.active_groups.specs.declared.consumer.Change.{Change}
use Rattle.hub_terms.specs.Calls.{Confirming, Finding}
use Rattle.stream_terms.specs.Views.{name_of}
use Rattle.hub_terms.specs.Meaning.{HubSeen, HubMeaning, HubLaws, ConfirmTold}
use Rattle.hub_terms.specs.Programs.{Program, done, asking, Runs}
use Rattle.session_tables.specs.Opening.{next_asked}
use Rattle.session_tables.specs.Subscribing.{slot}
use Rattle.session_tables.specs.declared.publishers.Publisher.{Publisher}
use Rattle.session_tables.specs.declared.streams.StreamName.{StreamName}
use Rattle.session_tables.specs.declared.tables.Subscription.{Subscription}
use Rattle.session_tables.specs.declared.tables.Tables.{Tables}
use Rattle.session_core.specs.declared.unasked.Unasked.{Unasked}
use Rattle.session_core.specs.declared.unasked.Unasked.TheVariants as say
use Rattle.session_core.specs.Speaking.{Spoken, spoken, goes_on}
use Rattle.session_core.specs.Confirming.{is_of, id_of, told_by, told_of, all_told, confirmed, confirms_row}
use Rattle.session_core.specs.Ending.{running_on, slot_over, has_over, kept_slot, without_over, all_leaving, ended_row, found_row, stream_row, streams_row}
use Rattle.session_core.specs.Turning.{is_consumer, asked_slot, turned_at, turned, turn_by, turns_row}
use Rattle.session_core.specs.Delivering.{slots_row}
use Rattle.session_core.specs.Polling.{open_row}
use Rattle.session_core.specs.Delivered.{DeliverRun, chunk_to, chunks_to, Goes, SlotGoes, SlotStops, HasCause, PollAdds, GapFree, PolledSo, all_chunks, DeliveriesJoin}
use Rattle.session_core.proofs.PollLaws.{runs_part, runs_later, IsDelivery, all_join, SlotKeeps, SlotsDo, slots_do, slot_from, is_same, goes_later, run_is_gap_free}

-- ---- confirms

found_in : {A : Type 0} (p : A → Bool) (xs : List A) (x : A) → find p xs ≡ Some x → Contains xs x
found_in p [] x is = absurd cc
found_in {A} p (y ∷ ys) x is =
    elim (p y) as (λ b. cond b (Some y) (find p ys) ≡ Some x → Contains (y ∷ ys) x) [
      | true ↦ λ f. let same : y ≡ x = cc in (0, omega arith, same)
      | false ↦ λ f. let rest = found_in p ys x f in let lt = rest.1 in (suc rest.0, omega (arith, lt), rest.2)
    ] is

both_are : (a b : Bool) → (a && b) ≡ true → (a ≡ true) × (b ≡ true)
both_are true true is = (refl, refl)
both_are true false is = absurd cc
both_are false b is = absurd cc

causes_by : {S : Type 0} (m : HubSeen S) (t : Tables) (h : S) (c : Confirm) (o : Option Publisher) → ((a : S) → m.later a a) → ConfirmTold m t.number h c → find (is_of c.stream c.serial) t.publishers ≡ o
    → AllByRecursion (HasCause m t h) (told_by c (option_map (λ (p : Publisher). p.id) o))
causes_by m t h c None same told is = tt
causes_by m t h c (Some p) same told is =
    let passes = found_passes (is_of c.stream c.serial) t.publishers p is in
    let parts = both_are (p.pass.stream == c.stream) (p.pass.serial == c.serial) passes in (
      record {
        publisher = p;
        stands = found_in (is_of c.stream c.serial) t.publishers p is;
        of_id = refl;
        confirm = c;
        hub = h;
        told = told;
        of_stream = is_same p.pass.stream c.stream parts.0;
        of_serial = is_same p.pass.serial c.serial parts.1;
        same_ids = refl;
        later = same h;
      },
      tt,
    )

all_causes : {S : Type 0} (m : HubSeen S) (t : Tables) (h : S) → ((a : S) → m.later a a) → (cs : List Confirm) → AllByRecursion (ConfirmTold m t.number h) cs → AllByRecursion (HasCause m t h) (all_told t.publishers cs)
all_causes m t h same [] told = tt
all_causes m t h same (c ∷ cs) (one, rest) =
    all_join (HasCause m t h) (told_of t.publishers c) (all_told t.publishers cs) (causes_by m t h c (find (is_of c.stream c.serial) t.publishers) same one refl) (all_causes m t h same cs rest)

no_chunk_by : (id : ℕ) (c : Confirm) (o : Option ℕ) → chunks_to id (told_by c o) ≡ []
no_chunk_by id c None = refl
no_chunk_by id c (Some other) = refl

no_chunks : (id : ℕ) (ps : List Publisher) (cs : List Confirm) → chunks_to id (all_told ps cs) ≡ []
no_chunks id ps [] = refl
no_chunks id ps (c ∷ cs) =
    flat_map-append (chunk_to id) (told_of ps c) (all_told ps cs) ∙ ap (λ (l : List Chunk). l ++ chunks_to id (all_told ps cs)) (no_chunk_by id c (id_of ps c)) ∙ no_chunks id ps cs

cause_later : {S : Type 0} (m : HubMeaning S) → HubLaws m → (t : Tables) (h h1 : S) → m.seen.later h h1 → (u : Unasked) → HasCause m.seen t h u → HasCause m.seen t h1 u
cause_later m laws t h h1 after (say.Confirm id ids) c = record {
  publisher = c.publisher;
  stands = c.stands;
  of_id = c.of_id;
  confirm = c.confirm;
  hub = c.hub;
  told = c.told;
  of_stream = c.of_stream;
  of_serial = c.of_serial;
  same_ids = c.same_ids;
  later = laws.seen.joins c.hub h h1 c.later after;
}
cause_later m laws t h h1 after (say.MetadataUpdate stream) c = tt
cause_later m laws t h h1 after (say.Update corr id active) c = tt
cause_later m laws t h h1 after (say.Deliver id committed chunk) c = tt

causes_later : {S : Type 0} (m : HubMeaning S) → HubLaws m → (t : Tables) (h h1 : S) → m.seen.later h h1 → (us : List Unasked) → AllByRecursion (HasCause m.seen t h) us → AllByRecursion (HasCause m.seen t h1) us
causes_later m laws t h h1 after [] all = tt
causes_later m laws t h h1 after (u ∷ us) (one, rest) = (cause_later m laws t h h1 after u one, causes_later m laws t h h1 after us rest)

record Told {S : Type 0} (m : HubMeaning S) (t : Tables) (said : List Unasked) (got : Spoken) (h1 : S) : Type 0 where
  more : List Unasked
  said_is : got.said ≡ said ++ more
  same : got.tables ≡ t
  causes : AllByRecursion (HasCause m.seen t h1) more
  none : (id : ℕ) → chunks_to id more ≡ []

confirms_by : {S : Type 0} (m : HubMeaning S) → HubLaws m → (t : Tables) (said : List Unasked) (h0 mid : S) (r : Result (List Confirm) AllocError) (got : Spoken) (h1 : S)
    → m.does (Confirming t.number) h0 r mid → Runs m (confirmed t said r) mid got h1 → Told m t said got h1
confirms_by {S} m laws t said h0 mid (Ok cs) got h1 does run =
    let told = (laws.called (Confirming t.number) h0 mid (Ok cs) does).told in
    record {
      more = all_told t.publishers cs;
      said_is = ap (λ (g : Spoken). g.said) run.0;
      same = ap (λ (g : Spoken). g.tables) run.0;
      causes = subst (λ (h : S). AllByRecursion (HasCause m.seen t h) (all_told t.publishers cs)) (sym run.1) (all_causes m.seen t mid laws.seen.same cs told);
      none = λ id. no_chunks id t.publishers cs;
    }
confirms_by m laws t said h0 mid (Err e) got h1 does run = absurd run

told_does : {S : Type 0} (m : HubMeaning S) → HubLaws m → (t : Tables) (said : List Unasked) (h0 : S) (got : Spoken) (h1 : S) → Runs m (confirms_row t said) h0 got h1 → Told m t said got h1
told_does m laws t said h0 got h1 (r, mid, does, run) = confirms_by m laws t said h0 mid r got h1 does run

-- ---- what says neither a confirm nor a chunk

abbrev IsPlain : Unasked → Type 0
IsPlain (say.Confirm id ids) = ⊥
IsPlain (say.MetadataUpdate stream) = Unit {0}
IsPlain (say.Update corr id active) = Unit {0}
IsPlain (say.Deliver id committed c) = ⊥

plain_chunk : (id : ℕ) (u : Unasked) → IsPlain u → chunk_to id u ≡ []
plain_chunk id (say.Confirm other ids) plain = absurd plain
plain_chunk id (say.MetadataUpdate stream) plain = refl
plain_chunk id (say.Update corr other active) plain = refl
plain_chunk id (say.Deliver other committed c) plain = absurd plain

plain_chunks : (id : ℕ) (us : List Unasked) → AllByRecursion IsPlain us → chunks_to id us ≡ []
plain_chunks id [] all = refl
plain_chunks id (u ∷ us) (one, rest) = ap (λ (l : List Chunk). l ++ chunks_to id us) (plain_chunk id u one) ∙ plain_chunks id us rest

plain_cause : {S : Type 0} (m : HubSeen S) (t : Tables) (h : S) (u : Unasked) → IsPlain u → HasCause m t h u
plain_cause m t h (say.Confirm id ids) plain = absurd plain
plain_cause m t h (say.MetadataUpdate stream) plain = tt
plain_cause m t h (say.Update corr id active) plain = tt
plain_cause m t h (say.Deliver id committed c) plain = absurd plain

plain_causes : {S : Type 0} (m : HubSeen S) (t : Tables) (h : S) (us : List Unasked) → AllByRecursion IsPlain us → AllByRecursion (HasCause m t h) us
plain_causes m t h [] all = tt
plain_causes m t h (u ∷ us) (one, rest) = (plain_cause m t h u one, plain_causes m t h us rest)

delivery_cause : {S : Type 0} (m : HubSeen S) (t : Tables) (h : S) (u : Unasked) → IsDelivery u → HasCause m t h u
delivery_cause m t h (say.Confirm id ids) delivery = absurd delivery
delivery_cause m t h (say.MetadataUpdate stream) delivery = tt
delivery_cause m t h (say.Update corr id active) delivery = tt
delivery_cause m t h (say.Deliver id committed c) delivery = tt

delivery_causes : {S : Type 0} (m : HubSeen S) (t : Tables) (h : S) (us : List Unasked) → AllByRecursion IsDelivery us → AllByRecursion (HasCause m t h) us
delivery_causes m t h [] all = tt
delivery_causes m t h (u ∷ us) (one, rest) = (delivery_cause m t h u one, delivery_causes m t h us rest)

-- a subscription that is there was there, and only its update may be another
abbrev Stays : Option Subscription → Option Subscription → Type 0
Stays old None = Unit {0}
Stays old (Some new) = (s : Subscription) × (old ≡ Some s) × (new ≡ record s { update = new.update })

stays_same : (o : Option Subscription) → Stays o o
stays_same None = tt
stays_same (Some s) = (s, refl, refl)

stays_join : (a b c : Option Subscription) → Stays a b → Stays b c → Stays a c
stays_join a b None one two = tt
stays_join a b (Some new) one (s, is, only) =
    let first : Stays a (Some s) = subst (Stays a) is one in
    (first.0, first.1, only ∙ ap (λ (x : Subscription). record x { update = new.update }) first.2)

record Plain (t : Tables) (said : List Unasked) (got : Spoken) : Type 0 where
  more : List Unasked
  said_is : got.said ≡ said ++ more
  number : got.tables.number ≡ t.number
  stays : (id : ℕ) → Stays (slot id t) (slot id got.tables)
  plain : AllByRecursion IsPlain more

plain_none : (t : Tables) (said : List Unasked) (got : Spoken) → got ≡ spoken said t → Plain t said got
plain_none t said got is = record {
  more = [];
  said_is = ap (λ (g : Spoken). g.said) is ∙ sym (append-nil said);
  number = ap (λ (g : Spoken). g.tables.number) is;
  stays = λ id. subst (λ (x : Tables). Stays (slot id t) (slot id x)) (sym (ap (λ (g : Spoken). g.tables) is)) (stays_same (slot id t));
  plain = tt;
}

plain_join : (t : Tables) (said : List Unasked) (a got : Spoken) → Plain t said a → Plain a.tables a.said got → Plain t said got
plain_join t said a got one two = record {
  more = one.more ++ two.more;
  said_is = two.said_is ∙ ap (λ (l : List Unasked). l ++ two.more) one.said_is ∙ append_assoc said one.more two.more;
  number = two.number ∙ one.number;
  stays = λ id. stays_join (slot id t) (slot id a.tables) (slot id got.tables) (one.stays id) (two.stays id);
  plain = all_join IsPlain one.more two.more one.plain two.plain;
}

-- ---- epochs that ended

kept_by : (over : Bool) (s : Option Subscription) → Stays s (if over then None else s)
kept_by true s = tt
kept_by false s = stays_same s

slot_kept : (stream : ℕ) (running : Option ℕ) (xs : List (Option Subscription)) (i : ℕ) → Stays (get_or xs i None) (get_or (map (kept_slot stream running) xs) i None)
slot_kept stream running [] i = tt
slot_kept stream running (x ∷ xs) zero = kept_by (slot_over stream running x) x
slot_kept stream running (x ∷ xs) (suc i) = slot_kept stream running xs i

found_does : {S : Type 0} (m : HubMeaning S) (t : Tables) (said : List Unasked) (k : StreamName) (running : Option ℕ) (h0 : S) (got : Spoken) (h1 : S) (over : Bool)
    → Runs m (if over then ended_row t said k.stream running k.name else done (spoken said t)) h0 got h1 → Plain t said got
found_does m t said k running h0 got h1 true run =
    let after : Spoken = spoken (said ++ say.MetadataUpdate k.name ∷ []) (without_over k.stream running t) in
    let parts = runs_part m (all_leaving t k.stream running t.subscriptions) (λ (u : Unit {0}). done after) h0 h1 got run in
    let is : got ≡ after = parts.two.0 in
    record {
      more = say.MetadataUpdate k.name ∷ [];
      said_is = ap (λ (g : Spoken). g.said) is;
      number = ap (λ (g : Spoken). g.tables.number) is;
      stays = λ id. subst (λ (x : Tables). Stays (slot id t) (slot id x)) (sym (ap (λ (g : Spoken). g.tables) is)) (slot_kept k.stream running t.subscriptions id);
      plain = (tt, tt);
    }
found_does m t said k running h0 got h1 false run = plain_none t said got run.0

used_does : {S : Type 0} (m : HubMeaning S) (t : Tables) (said : List Unasked) (k : StreamName) (h0 : S) (got : Spoken) (h1 : S) (used : Bool)
    → Runs m (if used then asking (Finding (name_of k.name)) (λ found. found_row t said k (running_on k.stream found)) else done (spoken said t)) h0 got h1 → Plain t said got
used_does m t said k h0 got h1 true (found, mid, does, run) = found_does m t said k (running_on k.stream found) mid got h1 (has_over k.stream (running_on k.stream found) t) run
used_does m t said k h0 got h1 false run = plain_none t said got run.0

streams_do : {S : Type 0} (m : HubMeaning S) (ks : List StreamName) (t : Tables) (said : List Unasked) (h0 : S) (got : Spoken) (h1 : S) → Runs m (streams_row ks t said) h0 got h1 → Plain t said got
streams_do m [] t said h0 got h1 run = plain_none t said got run.0
streams_do m (k ∷ ks) t said h0 got h1 run =
    let parts = runs_part m (stream_row t said k) (λ a. streams_row ks a.tables a.said) h0 h1 got run in
    plain_join t said parts.a got (used_does m t said k h0 parts.a parts.h (has_over k.stream None t) parts.one) (streams_do m ks parts.a.tables parts.a.said parts.h got h1 parts.two)

-- ---- turns

asked_stays : (corr : ℕ) (o : Option Subscription) → Stays o (asked_slot corr o)
asked_stays corr None = tt
asked_stays corr (Some s) = (s, refl, refl)

set_stays : (xs : List (Option Subscription)) (i j : ℕ) (o : Option Subscription) → Stays (get_or xs i None) o → Stays (get_or xs j None) (get_or (set xs i o) j None)
set_stays [] i j o stays = tt
set_stays (x ∷ xs) zero zero o stays = stays
set_stays (x ∷ xs) zero (suc j) o stays = stays_same (get_or xs j None)
set_stays (x ∷ xs) (suc i) zero o stays = stays_same x
set_stays (x ∷ xs) (suc i) (suc j) o stays = set_stays xs i j o stays

turn_does : (t : Tables) (said : List Unasked) (active : Bool) (place : Option ℕ) → Plain t said (turned_at t said active place)
turn_does t said active None = plain_none t said (spoken said t) refl
turn_does t said active (Some id) = record {
  more = say.Update (next_asked t.asked) id active ∷ [];
  said_is = refl;
  number = refl;
  stays = λ other. set_stays t.subscriptions id other (asked_slot (next_asked t.asked) (slot id t)) (asked_stays (next_asked t.asked) (slot id t));
  plain = (tt, tt);
}

turns_by : {S : Type 0} (m : HubMeaning S) (n : ℕ) (t : Tables) (said : List Unasked) (mid : S) (got : Spoken) (h1 : S) (r : Option Change)
    → ((x : Tables) (before : List Unasked) → Runs m (turns_row n x before) mid got h1 → Plain x before got) → Runs m (turn_by (turns_row n) t said r) mid got h1 → Plain t said got
turns_by m n t said mid got h1 None more run = plain_none t said got run.0
turns_by m n t said mid got h1 (Some c) more run = plain_join t said (turned t said c) got (turn_does t said c.active (position (is_consumer c.consumer.serial) t.subscriptions)) (more (turned t said c).tables (turned t said c).said run)

turns_do : {S : Type 0} (m : HubMeaning S) (n : ℕ) (t : Tables) (said : List Unasked) (h0 : S) (got : Spoken) (h1 : S) → Runs m (turns_row n t said) h0 got h1 → Plain t said got
unfolding turns_row
turns_do m zero t said h0 got h1 run = plain_none t said got run.0
turns_do m (suc n) t said h0 got h1 (r, mid, does, run) = turns_by m n t said mid got h1 r (λ x before more. turns_do m n x before mid got h1 more) run

-- ---- the whole

slot_goes : {S : Type 0} (m : HubSeen S) (a b c : Option Subscription) (cs : List Chunk) (h : S) → Stays a b → SlotKeeps m b c cs h → SlotGoes m a c cs h
slot_goes {S} m a None c cs h stays (is, none) = subst (λ (o : Option Subscription). SlotGoes m a o cs h) (sym is) none
slot_goes {S} m a (Some s) c cs h (x, was, only) (new, is, goes) =
    let first : Goes m x new cs h = record {
      same = goes.same ∙ ap (λ (y : Subscription). record y { next = new.next; credit = new.credit; update = new.update }) only;
      run = subst (λ (y : Subscription). DeliverRun (m.lists h y.stream) y.next y.credit cs new.next new.credit) only goes.run;
    } in
    subst (λ (o : Option Subscription). SlotGoes m a o cs h) (sym is) (x, was, first)

joined_chunks : (id : ℕ) (cs qs gs : List Unasked) → chunks_to id cs ≡ [] → chunks_to id qs ≡ [] → chunks_to id (cs ++ (qs ++ gs)) ≡ chunks_to id gs
joined_chunks id cs qs gs none quiet =
    flat_map-append (chunk_to id) cs (qs ++ gs) ∙ ap (λ (l : List Chunk). l ++ chunks_to id (qs ++ gs)) none ∙ flat_map-append (chunk_to id) qs gs ∙ ap (λ (l : List Chunk). l ++ chunks_to id gs) quiet

joined_adds : {S : Type 0} (m : HubMeaning S) → HubLaws m → (t : Tables) (out : List Unasked) (a b : Spoken) (new : Tables) (out1 : List Unasked) (h0 h2 h3 h1 : S)
    → Told m t out a h2 → m.seen.later h2 h1 → m.seen.later h0 h3 → Plain a.tables a.said b → SlotsDo m 256 0 b.tables b.said (spoken out1 new) h3 h1 → PollAdds m t new out out1 h0 h1
joined_adds {S} m laws t out a b new out1 h0 h2 h3 h1 told after before quiet given =
    let more = given.each.more in
    let number : b.tables.number ≡ t.number = quiet.number ∙ ap (λ (x : Tables). x.number) told.same in
    record {
      said = told.more ++ (quiet.more ++ more);
      wrote = given.each.said_is ∙ ap (λ (l : List Unasked). l ++ more) (quiet.said_is ∙ ap (λ (l : List Unasked). l ++ quiet.more) told.said_is ∙ append_assoc out told.more quiet.more)
          ∙ append_assoc out (told.more ++ quiet.more) more ∙ ap (λ (l : List Unasked). out ++ l) (append_assoc told.more quiet.more more);
      causes = all_join (HasCause m.seen t h1) told.more (quiet.more ++ more) (causes_later m laws t h2 h1 after told.more told.causes)
          (all_join (HasCause m.seen t h1) quiet.more more (plain_causes m.seen t h1 quiet.more quiet.plain) (delivery_causes m.seen t h1 more given.each.no_confirms));
      each = λ id.
          let was : Stays (slot id t) (slot id b.tables) = subst (λ (x : Tables). Stays (slot id x) (slot id b.tables)) told.same (quiet.stays id) in
          let goes : SlotGoes m.seen (slot id t) (slot id new) (chunks_to id more) h1 = slot_goes m.seen (slot id t) (slot id b.tables) (slot id new) (chunks_to id more) h1 was (given.each.each id) in
          subst (λ (l : List Chunk). SlotGoes m.seen (slot id t) (slot id new) l h1) (sym (joined_chunks id told.more quiet.more more (told.none id) (plain_chunks id quiet.more quiet.plain))) goes;
      stops = λ id under.
          let here : SlotStops m b.tables.number (slot id new) h3 h1 = given.stops id (omega arith) (omega (arith, under)) in
          slot_from m laws t.number (slot id new) h0 h3 h1 before (subst (λ (n : ℕ). SlotStops m n (slot id new) h3 h1) number here);
    }

pub open_adds : {S : Type 0} (m : HubMeaning S) → HubLaws m → (t : Tables) (out : List Unasked) (h0 : S) (new : Tables) (out1 : List Unasked) (h1 : S) → Runs m (open_row t out) h0 (spoken out1 new) h1 → PollAdds m t new out out1 h0 h1
open_adds {S} m laws t out h0 new out1 h1 run =
    let last : Spoken → Program Spoken = λ c. slots_row 256 0 c.tables c.said in
    let third : Spoken → Program Spoken = λ b. goes_on (turns_row 256 b.tables b.said) last in
    let second : Spoken → Program Spoken = λ a. goes_on (streams_row a.tables.streams a.tables a.said) third in
    let p1 = runs_part m (confirms_row t out) second h0 h1 (spoken out1 new) run in
    let p2 = runs_part m (streams_row p1.a.tables.streams p1.a.tables p1.a.said) third p1.h h1 (spoken out1 new) p1.two in
    let p3 = runs_part m (turns_row 256 p2.a.tables p2.a.said) last p2.h h1 (spoken out1 new) p2.two in
    let told = told_does m laws t out h0 p1.a p1.h p1.one in
    let ended = streams_do m p1.a.tables.streams p1.a.tables p1.a.said p1.h p2.a p2.h p2.one in
    let turned = turns_do m 256 p2.a.tables p2.a.said p2.h p3.a p3.h p3.one in
    let quiet = plain_join p1.a.tables p1.a.said p2.a p3.a ended turned in
    let given = slots_do m laws 256 0 p3.a.tables p3.a.said p3.h (spoken out1 new) h1 p3.two in
    joined_adds m laws t out p1.a p3.a new out1 h0 p1.h p3.h h1 told (runs_later m laws (second p1.a) p1.h (spoken out1 new) h1 p1.two)
    (laws.seen.joins h0 p1.h p3.h (runs_later m laws (confirms_row t out) h0 p1.a p1.h p1.one)
    (laws.seen.joins p1.h p2.h p3.h (runs_later m laws (streams_row p1.a.tables.streams p1.a.tables p1.a.said) p1.h p2.a p2.h p2.one) (runs_later m laws (turns_row 256 p2.a.tables p2.a.said) p2.h p3.a p3.h p3.one)))
    quiet given

-- ---- polls one after the other

polled_later : {S : Type 0} (m : HubMeaning S) → HubLaws m → (stream from to : ℕ) (polls : List (List Chunk)) (h0 h1 : S) → PolledSo m.seen stream from h0 polls to h1 → m.seen.later h0 h1
polled_later m laws stream from to [] h0 h1 (is, after) = after
polled_later m laws stream from to (cs ∷ more) h0 h1 (old, new, h, of_stream, begins, before, goes, rest) = laws.seen.joins h0 h h1 before (polled_later m laws stream new.next to more h h1 rest)

pub deliveries_join : {S : Type 0} (m : HubMeaning S) → HubLaws m → DeliveriesJoin m.seen
deliveries_join m laws stream from to [] h0 h1 log (is, after) = ap (λ (n : ℕ). users_above n (m.seen.lists h1 stream)) (sym is)
deliveries_join m laws stream from to (cs ∷ more) h0 h1 log (old, new, h, of_stream, begins, before, goes, rest) =
    let list = m.seen.lists h1 stream in
    let later = goes_later m laws old new cs h h1 goes (polled_later m laws stream new.next to more h h1 rest) in
    let here : DeliverRun list old.next old.credit cs new.next new.credit = subst (λ (n : ℕ). DeliverRun (m.seen.lists h1 n) old.next old.credit cs new.next new.credit) of_stream later.run in
    let first : GapFree list from cs new.next = subst (λ (n : ℕ). GapFree list n cs new.next) begins (run_is_gap_free list old.next old.credit new.next new.credit cs log here) in
    let others : GapFree list new.next (all_chunks more) to = deliveries_join m laws stream new.next to more h h1 log rest in
    first ∙ ap (λ (l : List Chunk). cs ++ l) others ∙ sym (append_assoc cs (all_chunks more) (users_above to list))
