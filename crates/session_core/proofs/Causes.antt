-- What a poll tells of epochs and turns is called for.
use Rattle.std.proofs.Common.{◌≡◌, ℕ, zero, suc, ◌==◌, ◌||◌, not, Bool, true, false, cond, List, [], ◌∷◌, ◌++◌, get_or, set, map, position, Option, Some, None, Result, Ok, Err, refl, sym, ap, subst, ◌∙◌, append_assoc, if◌then◌else◌, arith}
use Rattle.std.specs.List.{AllByRecursion, list_any, filter}
use Rattle.std.specs.declared.alloc.AllocError.{AllocError}
use Rattle.std.proofs.lemmas.List.{append-nil}
use Rattle.std.proofs.lemmas.List.Quantifiers.{position-Some}
use Rattle.active_groups.specs.declared.consumer.Change.{Change}
use Rattle.stream_terms.specs.declared.terms.Confirm.{Confirm}
use Rattle.stream_terms.specs.Views.{name_of}
use Rattle.hub_terms.specs.declared.terms.Found.{Found}
use Rattle.hub_terms.specs.Calls.{Finding, Changing}
use Rattle.hub_terms.specs.Meaning.{HubMeaning, HubLaws}
use Rattle.hub_terms.specs.Programs.{Program, done, asking, Runs}
use Rattle.session_tables.specs.Opening.{next_asked}
use Rattle.session_tables.specs.Publishing.{is_over, publisher_over}
use Rattle.session_tables.specs.Subscribing.{asked_by, slot}
use Rattle.session_tables.specs.declared.publishers.Publisher.{Publisher}
use Rattle.session_tables.specs.declared.streams.StreamName.{StreamName}
use Rattle.session_tables.specs.declared.tables.Subscription.{Subscription}
use Rattle.session_tables.specs.declared.tables.Tables.{Tables}
use Rattle.session_core.specs.declared.unasked.Unasked.{Unasked}
use Rattle.session_core.specs.declared.unasked.Unasked.TheVariants as say
use Rattle.session_core.specs.Speaking.{Spoken, spoken, goes_on}
use Rattle.session_core.specs.Confirming.{id_of, told_by, told_of, all_told, confirmed, confirms_row}
use Rattle.session_core.specs.Ending.{running_on, slot_over, has_over, kept_slot, without_over, all_leaving, ended_row, found_row, stream_row, streams_row}
use Rattle.session_core.specs.Turning.{is_consumer, asked_slot, turned_at, turned, turn_by, turns_row}
use Rattle.session_core.specs.Delivering.{slots_row}
use Rattle.session_core.specs.Polling.{is_open, open_row}
use Rattle.session_core.specs.Causes.{EpochEnded, TurnCame, IsCalledFor, SaidIsCalledFor}
use Rattle.session_core.proofs.PollLaws.{runs_part, runs_later, IsDelivery, all_join, slots_do}

-- ---- what a session still has it had

abbrev SlotHad : Option Subscription → Option Subscription → Type 0
SlotHad old None = Unit {0}
SlotHad old (Some new) = (s : Subscription) × (old ≡ Some s) × (new ≡ record s { update = new.update })

had_same : (o : Option Subscription) → SlotHad o o
had_same None = tt
had_same (Some s) = (s, refl, refl)

had_join : (a b c : Option Subscription) → SlotHad a b → SlotHad b c → SlotHad a c
had_join a b None one two = tt
had_join a b (Some new) one (s, is, only) =
    let first : SlotHad a (Some s) = subst (SlotHad a) is one in
    (first.0, first.1, only ∙ ap (λ (x : Subscription). record x { update = new.update }) first.2)

record Had (t0 t : Tables) : Type 0 where
  number : t.number ≡ t0.number
  publishers : (stream : ℕ) (running : Option ℕ) → list_any (publisher_over stream running) t.publishers ≡ true → list_any (publisher_over stream running) t0.publishers ≡ true
  slots : (id : ℕ) → SlotHad (slot id t0) (slot id t)

had_all : (t : Tables) → Had t t
had_all t = record { number = refl; publishers = λ stream running is. is; slots = λ id. had_same (slot id t) }

had_then : (t0 t t1 : Tables) → Had t0 t → Had t t1 → Had t0 t1
had_then t0 t t1 a b = record {
  number = b.number ∙ a.number;
  publishers = λ stream running is. a.publishers stream running (b.publishers stream running is);
  slots = λ id. had_join (slot id t0) (slot id t) (slot id t1) (a.slots id) (b.slots id);
}

or_left : (a b : Bool) → a ≡ true → (a || b) ≡ true
or_left true b is = refl
or_left false b is = absurd (cc is)

or_right : (a b : Bool) → b ≡ true → (a || b) ≡ true
or_right true b is = refl
or_right false b is = is

either_way : (a b c : Bool) → (b ≡ true → c ≡ true) → (a || b) ≡ true → (a || c) ≡ true
either_way true b c f is = refl
either_way false b c f is = f is

any_filtered : {A : Type 0} (p q : A → Bool) (xs : List A) → list_any p (filter q xs) ≡ true → list_any p xs ≡ true
any_filtered p q [] is = is
any_filtered {A} p q (x ∷ xs) is =
    elim (q x) as (λ b. list_any p (cond b (x ∷ filter q xs) (filter q xs)) ≡ true → list_any p (x ∷ xs) ≡ true) [
      | true ↦ λ e. either_way (p x) (list_any p (filter q xs)) (list_any p xs) (any_filtered p q xs) e
      | false ↦ λ e. or_right (p x) (list_any p xs) (any_filtered p q xs e)
    ] is

over_had : (stream : ℕ) (running : Option ℕ) (old new : Option Subscription) → SlotHad old new → slot_over stream running new ≡ true → slot_over stream running old ≡ true
over_had stream running old None had is = absurd (cc is)
over_had stream running old (Some new) (s, was, only) is =
    let here : is_over stream running s.stream s.epoch ≡ true = ap (λ (x : Subscription). is_over stream running s.stream s.epoch) only ∙ sym (ap (λ (x : Subscription). is_over stream running x.stream x.epoch) only) ∙ is in
    ap (slot_over stream running) was ∙ here

any_had : (stream : ℕ) (running : Option ℕ) (olds news : List (Option Subscription)) → ((id : ℕ) → SlotHad (get_or olds id None) (get_or news id None)) → list_any (slot_over stream running) news ≡ true → list_any (slot_over stream running) olds ≡ true
any_had stream running olds [] had is = absurd (cc is)
any_had stream running [] (x ∷ xs) had is = elim (slot_over stream running x) as (λ b. slot_over stream running x ≡ b → (b || list_any (slot_over stream running) xs) ≡ true → false ≡ true) [
  | true ↦ λ e all. over_had stream running None x (had zero) e
  | false ↦ λ e all. any_had stream running [] xs (λ id. had (suc id)) all
] refl is
any_had stream running (o ∷ os) (x ∷ xs) had is = elim (slot_over stream running x) as (λ b. slot_over stream running x ≡ b → (b || list_any (slot_over stream running) xs) ≡ true → (slot_over stream running o || list_any (slot_over stream running) os) ≡ true) [
  | true ↦ λ e all. or_left (slot_over stream running o) (list_any (slot_over stream running) os) (over_had stream running o x (had zero) e)
  | false ↦ λ e all. or_right (slot_over stream running o) (list_any (slot_over stream running) os) (any_had stream running os xs (λ id. had (suc id)) all)
] refl is

was_over : (t0 t : Tables) (stream : ℕ) (running : Option ℕ) → Had t0 t → has_over stream running t ≡ true → has_over stream running t0 ≡ true
was_over t0 t stream running had is =
    let p0 = list_any (publisher_over stream running) t0.publishers in
    let s0 = list_any (slot_over stream running) t0.subscriptions in
    elim (list_any (publisher_over stream running) t.publishers) as (λ b. list_any (publisher_over stream running) t.publishers ≡ b → (b || list_any (slot_over stream running) t.subscriptions) ≡ true → (p0 || s0) ≡ true) [
      | true ↦ λ e all. or_left p0 s0 (had.publishers stream running e)
      | false ↦ λ e all. or_right p0 s0 (any_had stream running t0.subscriptions t.subscriptions had.slots all)
    ] refl is

-- ---- what a part of a poll adds

added : (out a b mid end : List Unasked) → mid ≡ out ++ a → end ≡ mid ++ b → end ≡ out ++ (a ++ b)
added out a b mid end one two = two ∙ ap (λ (l : List Unasked). l ++ b) one ∙ append_assoc out a b

record Called {S : Type 0} (m : HubMeaning S) (t0 : Tables) (said : List Unasked) (got : Spoken) (h0 h1 : S) : Type 0 where
  more : List Unasked
  said_is : got.said ≡ said ++ more
  all : AllByRecursion (IsCalledFor m t0 h0 h1) more
  had : Had t0 got.tables

called_none : {S : Type 0} (m : HubMeaning S) (t0 t : Tables) (said : List Unasked) (got : Spoken) (h0 h1 : S) → Had t0 t → got ≡ spoken said t → Called m t0 said got h0 h1
called_none m t0 t said got h0 h1 had is = record {
  more = [];
  said_is = ap (λ (g : Spoken). g.said) is ∙ sym (append-nil said);
  all = tt;
  had = subst (Had t0) (sym (ap (λ (g : Spoken). g.tables) is)) had;
}

wider : {S : Type 0} (m : HubMeaning S) → HubLaws m → (t : Tables) (h0 a b h1 : S) → m.seen.later h0 a → m.seen.later b h1 → (u : Unasked) → IsCalledFor m t a b u → IsCalledFor m t h0 h1 u
wider m laws t h0 a b h1 before behind (say.MetadataUpdate name) c = record {
  stream = c.stream;
  found = c.found;
  before = c.before;
  after = c.after;
  asked = c.asked;
  over = c.over;
  since = laws.seen.joins h0 a c.before before c.since;
  until = laws.seen.joins c.after b h1 c.until behind;
}
wider m laws t h0 a b h1 before behind (say.Update corr id active) c = record {
  change = c.change;
  before = c.before;
  after = c.after;
  subscription = c.subscription;
  handed = c.handed;
  same = c.same;
  there = c.there;
  of_it = c.of_it;
  since = laws.seen.joins h0 a c.before before c.since;
  until = laws.seen.joins c.after b h1 c.until behind;
}
wider m laws t h0 a b h1 before behind (say.Confirm id ids) c = tt
wider m laws t h0 a b h1 before behind (say.Deliver id committed chunk) c = tt

all_wider : {S : Type 0} (m : HubMeaning S) → HubLaws m → (t : Tables) (h0 a b h1 : S) → m.seen.later h0 a → m.seen.later b h1 → (us : List Unasked) → AllByRecursion (IsCalledFor m t a b) us → AllByRecursion (IsCalledFor m t h0 h1) us
all_wider m laws t h0 a b h1 before behind [] all = tt
all_wider m laws t h0 a b h1 before behind (u ∷ us) (one, rest) = (wider m laws t h0 a b h1 before behind u one, all_wider m laws t h0 a b h1 before behind us rest)

called_join : {S : Type 0} (m : HubMeaning S) → HubLaws m → (t0 : Tables) (said : List Unasked) (a got : Spoken) (h0 h h1 : S)
    → m.seen.later h0 h → m.seen.later h h1 → Called m t0 said a h0 h → Called m t0 a.said got h h1 → Called m t0 said got h0 h1
called_join m laws t0 said a got h0 h h1 before behind one two = record {
  more = one.more ++ two.more;
  said_is = added said one.more two.more a.said got.said one.said_is two.said_is;
  all = all_join (IsCalledFor m t0 h0 h1) one.more two.more (all_wider m laws t0 h0 h0 h h1 (laws.seen.same h0) behind one.more one.all) (all_wider m laws t0 h0 h h1 h1 before (laws.seen.same h1) two.more two.all);
  had = two.had;
}

-- ---- confirms

told_called : {S : Type 0} (m : HubMeaning S) (t : Tables) (h0 h1 : S) (c : Confirm) (id : Option ℕ) → AllByRecursion (IsCalledFor m t h0 h1) (told_by c id)
told_called m t h0 h1 c None = tt
told_called m t h0 h1 c (Some id) = (tt, tt)

all_told_called : {S : Type 0} (m : HubMeaning S) (t : Tables) (h0 h1 : S) (cs : List Confirm) → AllByRecursion (IsCalledFor m t h0 h1) (all_told t.publishers cs)
all_told_called m t h0 h1 [] = tt
all_told_called m t h0 h1 (c ∷ cs) = all_join (IsCalledFor m t h0 h1) (told_of t.publishers c) (all_told t.publishers cs) (told_called m t h0 h1 c (id_of t.publishers c)) (all_told_called m t h0 h1 cs)

confirms_by : {S : Type 0} (m : HubMeaning S) (t : Tables) (said : List Unasked) (h0 mid : S) (r : Result (List Confirm) AllocError) (got : Spoken) (h1 : S) → Runs m (confirmed t said r) mid got h1 → Called m t said got h0 h1
confirms_by m t said h0 mid (Ok cs) got h1 run = record {
  more = all_told t.publishers cs;
  said_is = ap (λ (g : Spoken). g.said) run.0;
  all = all_told_called m t h0 h1 cs;
  had = subst (Had t) (sym (ap (λ (g : Spoken). g.tables) run.0)) (had_all t);
}
confirms_by m t said h0 mid (Err e) got h1 run = absurd run

-- ---- streams

kept_by : (over : Bool) (s : Option Subscription) → SlotHad s (if over then None else s)
kept_by true s = tt
kept_by false s = had_same s

kept_had : (stream : ℕ) (running : Option ℕ) (xs : List (Option Subscription)) (i : ℕ) → SlotHad (get_or xs i None) (get_or (map (kept_slot stream running) xs) i None)
kept_had stream running [] i = tt
kept_had stream running (x ∷ xs) zero = kept_by (slot_over stream running x) x
kept_had stream running (x ∷ xs) (suc i) = kept_had stream running xs i

without_had : (t : Tables) (stream : ℕ) (running : Option ℕ) → Had t (without_over stream running t)
without_had t stream running = record {
  number = refl;
  publishers = λ s r is. any_filtered (publisher_over s r) (λ (p : Publisher). not (publisher_over stream running p)) t.publishers is;
  slots = λ id. kept_had stream running t.subscriptions id;
}

over_called : {S : Type 0} (m : HubMeaning S) → HubLaws m → (t0 t : Tables) (said : List Unasked) (k : StreamName) (found : Found) (h0 mid : S) (got : Spoken) (h1 : S) (over : Bool)
    → Had t0 t → m.does (Finding (name_of k.name)) h0 found mid → has_over k.stream (running_on k.stream found) t ≡ over
    → Runs m (if over then ended_row t said k.stream (running_on k.stream found) k.name else done (spoken said t)) mid got h1 → Called m t0 said got h0 h1
over_called m laws t0 t said k found h0 mid got h1 true had does is run =
    let running = running_on k.stream found in
    let after : Spoken = spoken (said ++ say.MetadataUpdate k.name ∷ []) (without_over k.stream running t) in
    let next : Unit {0} → Program Spoken = λ (u : Unit {0}). done after in
    let parts = runs_part m (all_leaving t k.stream running t.subscriptions) next mid h1 got run in
    let end = parts.two in
    let behind = runs_later m laws (goes_on (all_leaving t k.stream running t.subscriptions) next) mid got h1 run in
    let cause : EpochEnded m t0 k.name h0 h1 = record { stream = k.stream; found = found; before = h0; after = mid; asked = does; over = was_over t0 t k.stream running had is; since = laws.seen.same h0; until = behind } in
    record {
      more = say.MetadataUpdate k.name ∷ [];
      said_is = ap (λ (g : Spoken). g.said) end.0;
      all = (cause, tt);
      had = subst (Had t0) (sym (ap (λ (g : Spoken). g.tables) end.0)) (had_then t0 t (without_over k.stream running t) had (without_had t k.stream running));
    }
over_called m laws t0 t said k found h0 mid got h1 false had does is run = called_none m t0 t said got h0 h1 had run.0

used_called : {S : Type 0} (m : HubMeaning S) → HubLaws m → (t0 t : Tables) (said : List Unasked) (k : StreamName) (h0 : S) (got : Spoken) (h1 : S) (used : Bool)
    → Had t0 t → Runs m (if used then asking (Finding (name_of k.name)) (λ found. found_row t said k (running_on k.stream found)) else done (spoken said t)) h0 got h1 → Called m t0 said got h0 h1
used_called m laws t0 t said k h0 got h1 true had (found, mid, does, run) = over_called m laws t0 t said k found h0 mid got h1 (has_over k.stream (running_on k.stream found) t) had does refl run
used_called m laws t0 t said k h0 got h1 false had run = called_none m t0 t said got h0 h1 had run.0

streams_called : {S : Type 0} (m : HubMeaning S) → HubLaws m → (ks : List StreamName) (t0 t : Tables) (said : List Unasked) (h0 : S) (got : Spoken) (h1 : S) → Had t0 t → Runs m (streams_row ks t said) h0 got h1 → Called m t0 said got h0 h1
streams_called m laws [] t0 t said h0 got h1 had run = called_none m t0 t said got h0 h1 had run.0
streams_called m laws (k ∷ ks) t0 t said h0 got h1 had run =
    let next : Spoken → Program Spoken = λ a. streams_row ks a.tables a.said in
    let parts = runs_part m (stream_row t said k) next h0 h1 got run in
    let one = used_called m laws t0 t said k h0 parts.a parts.h (has_over k.stream None t) had parts.one in
    called_join m laws t0 said parts.a got h0 parts.h h1 (runs_later m laws (stream_row t said k) h0 parts.a parts.h parts.one) (runs_later m laws (next parts.a) parts.h got h1 parts.two)
    one (streams_called m laws ks t0 parts.a.tables parts.a.said parts.h got h1 one.had parts.two)

-- ---- turns

set_had : (xs : List (Option Subscription)) (i j : ℕ) (o : Option Subscription) → SlotHad (get_or xs i None) o → SlotHad (get_or xs j None) (get_or (set xs i o) j None)
set_had [] i j o had = tt
set_had (x ∷ xs) zero zero o had = had
set_had (x ∷ xs) zero (suc j) o had = had_same (get_or xs j None)
set_had (x ∷ xs) (suc i) zero o had = had_same x
set_had (x ∷ xs) (suc i) (suc j) o had = set_had xs i j o had

asked_had : (corr : ℕ) (o : Option Subscription) → SlotHad o (asked_slot corr o)
asked_had corr None = tt
asked_had corr (Some s) = (s, refl, refl)

turn_had : (t : Tables) (said : List Unasked) (active : Bool) (id : ℕ) → Had t (turned_at t said active (Some id)).tables
turn_had t said active id = record {
  number = refl;
  publishers = λ stream running is. is;
  slots = λ other. set_had t.subscriptions id other (asked_slot (next_asked t.asked) (slot id t)) (asked_had (next_asked t.asked) (slot id t));
}

same_serial : (a b : ℕ) → (a == b) ≡ true → a ≡ b
same_serial a b e = grind arith

single_of_it : (serial : ℕ) (single : Option ℕ) → asked_by serial single ≡ true → single ≡ Some serial
single_of_it serial None is = absurd (cc is)
single_of_it serial (Some a) is = ap (λ (n : ℕ). Some n) (same_serial a serial is)

-- the subscription of a consumer that has this serial
consumer_had : (serial : ℕ) (old new : Option Subscription) → SlotHad old new → is_consumer serial new ≡ true → (s : Subscription) × (old ≡ Some s) × (s.single ≡ Some serial)
consumer_had serial old None had is = absurd (cc is)
consumer_had serial old (Some new) (s, was, only) is = (s, was, sym (ap (λ (x : Subscription). x.single) only) ∙ single_of_it serial new.single is)

turn_called : {S : Type 0} (m : HubMeaning S) → HubLaws m → (t0 t : Tables) (said : List Unasked) (c : Change) (h0 mid : S) (place : Option ℕ)
    → Had t0 t → m.does (Changing t.number) h0 (Some c) mid → position (is_consumer c.consumer.serial) t.subscriptions ≡ place → Called m t0 said (turned_at t said c.active place) h0 mid
turn_called m laws t0 t said c h0 mid None had does is = called_none m t0 t said (spoken said t) h0 mid had refl
turn_called {S} m laws t0 t said c h0 mid (Some id) had does is =
    let at = position-Some (is_consumer c.consumer.serial) t.subscriptions id None is in
    let it = consumer_had c.consumer.serial (slot id t0) (slot id t) (had.slots id) at.1 in
    let handed : m.does (Changing t0.number) h0 (Some c) mid = subst (λ (n : ℕ). m.does (Changing n) h0 (Some c) mid) had.number does in
    let cause : TurnCame m t0 id c.active h0 mid = record { change = c; before = h0; after = mid; subscription = it.0; handed = handed; same = refl; there = it.1; of_it = it.2; since = laws.seen.same h0; until = laws.seen.same mid } in
    record { more = say.Update (next_asked t.asked) id c.active ∷ []; said_is = refl; all = (cause, tt); had = had_then t0 t (turned_at t said c.active (Some id)).tables had (turn_had t said c.active id) }

turns_by : {S : Type 0} (m : HubMeaning S) → HubLaws m → (n : ℕ) (t0 t : Tables) (said : List Unasked) (h0 mid : S) (got : Spoken) (h1 : S) (r : Option Change)
    → Had t0 t → m.does (Changing t.number) h0 r mid → ((x : Tables) (before : List Unasked) → Had t0 x → Runs m (turns_row n x before) mid got h1 → Called m t0 before got mid h1)
    → Runs m (turn_by (turns_row n) t said r) mid got h1 → Called m t0 said got h0 h1
turns_by m laws n t0 t said h0 mid got h1 None had does more run = called_none m t0 t said got h0 h1 had run.0
turns_by m laws n t0 t said h0 mid got h1 (Some c) had does more run =
    let a = turned t said c in
    let one = turn_called m laws t0 t said c h0 mid (position (is_consumer c.consumer.serial) t.subscriptions) had does refl in
    called_join m laws t0 said a got h0 mid h1 ((laws.called (Changing t.number) h0 mid (Some c) does).later) (runs_later m laws (turns_row n a.tables a.said) mid got h1 run)
    one (more a.tables a.said one.had run)

turns_called : {S : Type 0} (m : HubMeaning S) → HubLaws m → (n : ℕ) (t0 t : Tables) (said : List Unasked) (h0 : S) (got : Spoken) (h1 : S) → Had t0 t → Runs m (turns_row n t said) h0 got h1 → Called m t0 said got h0 h1
unfolding turns_row
turns_called m laws zero t0 t said h0 got h1 had run = called_none m t0 t said got h0 h1 had run.0
turns_called m laws (suc n) t0 t said h0 got h1 had (r, mid, does, run) =
    turns_by m laws n t0 t said h0 mid got h1 r had does (λ x before keeps more. turns_called m laws n t0 x before mid got h1 keeps more) run

-- ---- the whole

deliveries_called : {S : Type 0} (m : HubMeaning S) (t : Tables) (h0 h1 : S) (us : List Unasked) → AllByRecursion IsDelivery us → AllByRecursion (IsCalledFor m t h0 h1) us
deliveries_called m t h0 h1 [] all = tt
deliveries_called m t h0 h1 (say.Deliver id committed c ∷ us) (one, rest) = (tt, deliveries_called m t h0 h1 us rest)
deliveries_called m t h0 h1 (say.Confirm id ids ∷ us) (one, rest) = absurd one
deliveries_called m t h0 h1 (say.MetadataUpdate stream ∷ us) (one, rest) = absurd one
deliveries_called m t h0 h1 (say.Update corr id active ∷ us) (one, rest) = absurd one

-- what is added to what was there
abbrev Adds : {S : Type 0} → HubMeaning S → Tables → List Unasked → List Unasked → S → S → Type 0
Adds m t out out1 h0 h1 = (said : List Unasked) × (out1 ≡ out ++ said) × AllByRecursion (IsCalledFor m t h0 h1) said

open_called : {S : Type 0} (m : HubMeaning S) → HubLaws m → (t : Tables) (out : List Unasked) (h0 : S) (new : Tables) (out1 : List Unasked) (h1 : S) → Runs m (open_row t out) h0 (spoken out1 new) h1 → Adds m t out out1 h0 h1
open_called {S} m laws t out h0 new out1 h1 run =
    let last : Spoken → Program Spoken = λ c. slots_row 256 0 c.tables c.said in
    let third : Spoken → Program Spoken = λ b. goes_on (turns_row 256 b.tables b.said) last in
    let second : Spoken → Program Spoken = λ a. goes_on (streams_row a.tables.streams a.tables a.said) third in
    let got : Spoken = spoken out1 new in
    let p1 = runs_part m (confirms_row t out) second h0 h1 got run in
    let p2 = runs_part m (streams_row p1.a.tables.streams p1.a.tables p1.a.said) third p1.h h1 got p1.two in
    let p3 = runs_part m (turns_row 256 p2.a.tables p2.a.said) last p2.h h1 got p2.two in
    let first = p1.one in
    let one = confirms_by m t out h0 first.1 first.0 p1.a p1.h first.3 in
    let two = streams_called m laws p1.a.tables.streams t p1.a.tables p1.a.said p1.h p2.a p2.h one.had p2.one in
    let three = turns_called m laws 256 t p2.a.tables p2.a.said p2.h p3.a p3.h two.had p3.one in
    let four = slots_do m laws 256 0 p3.a.tables p3.a.said p3.h got h1 p3.two in
    let to1 = runs_later m laws (confirms_row t out) h0 p1.a p1.h p1.one in
    let to2 = runs_later m laws (streams_row p1.a.tables.streams p1.a.tables p1.a.said) p1.h p2.a p2.h p2.one in
    let to3 = runs_later m laws (turns_row 256 p2.a.tables p2.a.said) p2.h p3.a p3.h p3.one in
    let to4 = runs_later m laws (last p3.a) p3.h got h1 p3.two in
    let both = called_join m laws t out p1.a p2.a h0 p1.h p2.h to1 to2 one two in
    let all = called_join m laws t out p2.a p3.a h0 p2.h p3.h (laws.seen.joins h0 p1.h p2.h to1 to2) to3 both three in
    let more = four.each.more in (
      all.more ++ more,
      added out all.more more p3.a.said out1 all.said_is four.each.said_is,
      all_join (IsCalledFor m t h0 h1) all.more more (all_wider m laws t h0 h0 p3.h h1 (laws.seen.same h0) to4 all.more all.all) (deliveries_called m t h0 h1 more four.each.no_confirms),
    )

poll_called : {S : Type 0} (m : HubMeaning S) → HubLaws m → (t : Tables) (out : List Unasked) (h0 : S) (new : Tables) (out1 : List Unasked) (h1 : S) (b : Bool)
    → Runs m (if b then open_row t out else done (spoken out t)) h0 (spoken out1 new) h1 → Adds m t out out1 h0 h1
poll_called m laws t out h0 new out1 h1 true run = open_called m laws t out h0 new out1 h1 run
poll_called m laws t out h0 new out1 h1 false run = ([], ap (λ (g : Spoken). g.said) run.0 ∙ sym (append-nil out), tt)

pub said_is_called_for : {S : Type 0} (m : HubMeaning S) → HubLaws m → SaidIsCalledFor m
said_is_called_for m laws t new out out1 h0 h1 run = poll_called m laws t out h0 new out1 h1 (is_open t.ended t.stage) run
