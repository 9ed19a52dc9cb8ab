-- What comes of a poll's conversation.
use Rattle.std.proofs.Common.{◌≡◌, ◌≢◌, ℕ, zero, suc, ◌+◌, ◌-◌, ◌<◌, ◌≤◌, ◌==◌, Bool, true, false, cond, List, [], ◌∷◌, ◌++◌, length, get_or, Option, Some, None, Result, Ok, Err, refl, sym, ap, subst, ◌∙◌, append_assoc, if◌then◌else◌, arith}
use Rattle.std.specs.List.{AllByRecursion}
use Rattle.std.specs.declared.alloc.AllocError.{AllocError}
use Rattle.std.proofs.lemmas.List.{append-nil, get_or-set_same, get_or-set_other}
use Rattle.std.proofs.lemmas.List.Concat.{flat_map-append}
use Rattle.chunk_format.specs.declared.chunk.Chunk.{Chunk}
use Rattle.chunk_format.specs.Chunks.{end_of_chunk}
use Rattle.chunk_format.specs.Logs.{GoesOn, IsLog, next_above, users_above}
use Rattle.chunk_format.proofs.UserLaws.{next_stays, users_step}
use Rattle.hub_terms.specs.Calls.{NextChunk, IsActive}
use Rattle.hub_terms.specs.Meaning.{HubSeen, HubMeaning, HubLaws}
use Rattle.hub_terms.specs.Programs.{Program, done, asking, lost, Runs}
use Rattle.session_tables.specs.Subscribing.{slot, put_slot}
use Rattle.session_tables.specs.declared.tables.Subscription.{Subscription}
use Rattle.session_tables.specs.declared.tables.Tables.{Tables}
use Rattle.session_core.specs.declared.unasked.Unasked.{Unasked}
use Rattle.session_core.specs.declared.unasked.Unasked.TheVariants as say
use Rattle.session_core.specs.Consuming.{consumer}
use Rattle.session_core.specs.Speaking.{Spoken, spoken, goes_on}
use Rattle.session_core.specs.Delivering.{sent_to, committed_row, rests, chunk_by, send, active_row, single_row, slot_by, slot_row, slots_row}
use Rattle.session_core.specs.Delivered.{DeliverRun, chunk_to, chunks_to, Goes, Stops, Spent, NoneDue, Waits, SlotStops, GapFree}

-- ---- conversations

pub record Parts {S A B : Type 0} (m : HubMeaning S) (p : Program A) (next : A → Program B) (h0 h1 : S) (b : B) : Type 0 where
  pub a : A
  pub h : S
  pub one : Runs m p h0 a h
  pub two : Runs m (next a) h b h1

pub runs_part : {S A B : Type 0} (m : HubMeaning S) (p : Program A) (next : A → Program B) (h0 h1 : S) (b : B) → Runs m (goes_on p next) h0 b h1 → Parts m p next h0 h1 b
runs_part m (done x) next h0 h1 b run = record { a = x; h = h0; one = (refl, refl); two = run }
runs_part m (asking c k) next h0 h1 b (r, mid, does, rest) = let parts = runs_part m (k r) next mid h1 b rest in record { a = parts.a; h = parts.h; one = (r, mid, does, parts.one); two = parts.two }
runs_part m lost next h0 h1 b run = absurd run

-- the hub has only gone on
pub runs_later : {S A : Type 0} (m : HubMeaning S) → HubLaws m → (p : Program A) (h0 : S) (a : A) (h1 : S) → Runs m p h0 a h1 → m.seen.later h0 h1
runs_later {S} m laws (done x) h0 a h1 run = subst (λ (h : S). m.seen.later h0 h) (sym run.1) (laws.seen.same h0)
runs_later m laws (asking c k) h0 a h1 (r, mid, does, rest) = laws.seen.joins h0 mid h1 ((laws.called c h0 mid r does).later) (runs_later m laws (k r) mid a h1 rest)
runs_later m laws lost h0 a h1 run = absurd run

-- ---- runs of deliveries

run_grows : (list more : List Chunk) (n k n' k' : ℕ) (cs : List Chunk) → DeliverRun list n k cs n' k' → DeliverRun (list ++ more) n k cs n' k'
run_grows list more n k n' k' [] r = r
run_grows list more n k n' k' (c ∷ cs) (some, first, rest) = (some, next_stays n list more c first, run_grows list more (end_of_chunk c) (k - 1) n' k' cs rest)

run_goes_on : (a b : List Chunk) (n k n' k' : ℕ) (cs : List Chunk) → GoesOn a b → DeliverRun a n k cs n' k' → DeliverRun b n k cs n' k'
run_goes_on a b n k n' k' cs (more, is) r = subst (λ (l : List Chunk). DeliverRun l n k cs n' k') (sym is) (run_grows a more n k n' k' cs r)

run_join : (list : List Chunk) (n k n1 k1 n2 k2 : ℕ) (cs ds : List Chunk) → DeliverRun list n k cs n1 k1 → DeliverRun list n1 k1 ds n2 k2 → DeliverRun list n k (cs ++ ds) n2 k2
run_join list n k n1 k1 n2 k2 [] ds (is_n, is_k) r =
    let one : DeliverRun list n k1 ds n2 k2 = subst (λ (x : ℕ). DeliverRun list x k1 ds n2 k2) is_n r in
    subst (λ (x : ℕ). DeliverRun list n x ds n2 k2) is_k one
run_join list n k n1 k1 n2 k2 (c ∷ cs) ds (some, first, rest) r = (some, first, run_join list (end_of_chunk c) (k - 1) n1 k1 n2 k2 cs ds rest r)

-- nothing is left out
pub run_is_gap_free : (list : List Chunk) (n k n' k' : ℕ) (cs : List Chunk) → IsLog list → DeliverRun list n k cs n' k' → GapFree list n cs n'
run_is_gap_free list n k n' k' [] log (is_n, is_k) = ap (λ (x : ℕ). users_above x list) (sym is_n)
run_is_gap_free list n k n' k' (c ∷ cs) log (some, first, rest) =
    users_step n 0 0 list c log first ∙ ap (λ (l : List Chunk). c ∷ l) (run_is_gap_free list (end_of_chunk c) (k - 1) n' k' cs log rest)

goes_same : {S : Type 0} (m : HubSeen S) (s : Subscription) (h : S) → Goes m s s [] h
goes_same m s h = record { same = refl; run = (refl, refl) }

pub goes_later : {S : Type 0} (m : HubMeaning S) → HubLaws m → (s new : Subscription) (cs : List Chunk) (h h1 : S) → Goes m.seen s new cs h → m.seen.later h h1 → Goes m.seen s new cs h1
goes_later m laws s new cs h h1 g after = record {
  same = g.same;
  run = run_goes_on (m.seen.lists h s.stream) (m.seen.lists h1 s.stream) s.next s.credit new.next new.credit cs (laws.seen.lists_grow h h1 s.stream after) g.run;
}

pub goes_join : {S : Type 0} (m : HubMeaning S) → HubLaws m → (s mid new : Subscription) (cs ds : List Chunk) (h h1 : S)
    → Goes m.seen s mid cs h → m.seen.later h h1 → Goes m.seen mid new ds h1 → Goes m.seen s new (cs ++ ds) h1
goes_join {S} m laws s mid new cs ds h h1 a after b =
    let first = goes_later m laws s mid cs h h1 a after in
    let stream : mid.stream ≡ s.stream = ap (λ (x : Subscription). x.stream) a.same in
    let second : DeliverRun (m.seen.lists h1 s.stream) mid.next mid.credit ds new.next new.credit = subst (λ (n : ℕ). DeliverRun (m.seen.lists h1 n) mid.next mid.credit ds new.next new.credit) stream b.run in
    record {
      same = b.same ∙ ap (λ (x : Subscription). record x { next = new.next; credit = new.credit; update = new.update }) a.same;
      run = run_join (m.seen.lists h1 s.stream) s.next s.credit mid.next mid.credit new.next new.credit cs ds first.run second;
    }

-- ---- the chunks to one subscription

-- these are deliveries of these chunks to this id
abbrev pub AreTo : ℕ → List Chunk → List Unasked → Type 0
AreTo id [] more = more ≡ []
AreTo id (c ∷ cs) more = (committed : Option ℕ) × (rest : List Unasked) × (more ≡ say.Deliver id committed c ∷ rest) × AreTo id cs rest

same_id : (id : ℕ) → (id == id) ≡ true
same_id id = grind arith

to_it : (id : ℕ) (cs : List Chunk) (more : List Unasked) → AreTo id cs more → chunks_to id more ≡ cs
to_it id [] more none = ap (chunks_to id) none
to_it id (c ∷ cs) more (committed, rest, is, others) =
    ap (chunks_to id) is ∙ ap (λ (b : Bool). cond b (c ∷ []) [] ++ chunks_to id rest) (same_id id) ∙ ap (λ (l : List Chunk). c ∷ l) (to_it id cs rest others)

to_others : (id other : ℕ) (cs : List Chunk) (more : List Unasked) → (id == other) ≡ false → AreTo id cs more → chunks_to other more ≡ []
to_others id other [] more apart none = ap (chunks_to other) none
to_others id other (c ∷ cs) more apart (committed, rest, is, others) =
    ap (chunks_to other) is ∙ ap (λ (b : Bool). cond b (c ∷ []) [] ++ chunks_to other rest) apart ∙ to_others id other cs rest apart others

stops_from : {S : Type 0} (m : HubMeaning S) → HubLaws m → (session : ℕ) (s : Subscription) (h0 h h1 : S) → m.seen.later h0 h → Stops m session s h h1 → Stops m session s h0 h1
stops_from m laws session s h0 h h1 before (Spent none) = Spent none
stops_from m laws session s h0 h h1 before (NoneDue x since after none) = NoneDue x (laws.seen.joins h0 h x before since) after none
stops_from m laws session s h0 h h1 before (Waits serial x y single does since after) = Waits serial x y single does (laws.seen.joins h0 h x before since) after

stops_later : {S : Type 0} (m : HubMeaning S) → HubLaws m → (session : ℕ) (s : Subscription) (h0 h h1 : S) → m.seen.later h h1 → Stops m session s h0 h → Stops m session s h0 h1
stops_later m laws session s h0 h h1 behind (Spent none) = Spent none
stops_later m laws session s h0 h h1 behind (NoneDue x since after none) = NoneDue x since (laws.seen.joins x h h1 after behind) none
stops_later m laws session s h0 h h1 behind (Waits serial x y single does since after) = Waits serial x y single does since (laws.seen.joins y h h1 after behind)

abbrev pub IsDelivery : Unasked → Type 0
IsDelivery (say.Deliver id committed c) = Unit {0}
IsDelivery (say.Confirm id ids) = ⊥
IsDelivery (say.MetadataUpdate stream) = ⊥
IsDelivery (say.Update corr id active) = ⊥

are_deliveries : (id : ℕ) (cs : List Chunk) (more : List Unasked) → AreTo id cs more → AllByRecursion IsDelivery more
are_deliveries id [] more none = subst (AllByRecursion IsDelivery) (sym none) tt
are_deliveries id (c ∷ cs) more (committed, rest, is, others) = subst (AllByRecursion IsDelivery) (sym is) (tt, are_deliveries id cs rest others)

pub all_join : {A : Type 0} (P : A → Type 0) (xs ys : List A) → AllByRecursion P xs → AllByRecursion P ys → AllByRecursion P (xs ++ ys)
all_join P [] ys a b = b
all_join P (x ∷ xs) ys (one, rest) b = (one, all_join P xs ys rest b)

-- what was sent to one subscription
pub record Sent {S : Type 0} (m : HubMeaning S) (t : Tables) (id : ℕ) (s : Subscription) (said : List Unasked) (got : Spoken) (h0 h1 : S) : Type 0 where
  pub new : Subscription
  pub more : List Unasked
  pub chunks : List Chunk
  pub said_is : got.said ≡ said ++ more
  pub tables_is : got.tables ≡ put_slot id (Some new) t
  pub are : AreTo id chunks more
  pub goes : Goes m.seen s new chunks h1
  pub stops : Stops m t.number new h0 h1

sent_none : {S : Type 0} (m : HubMeaning S) (t : Tables) (id : ℕ) (s : Subscription) (said : List Unasked) (got : Spoken) (h0 h1 : S) → got ≡ rests t id s said → Stops m t.number s h0 h1 → Sent m t id s said got h0 h1
sent_none m t id s said got h0 h1 is stops = record {
  new = s;
  more = [];
  chunks = [];
  said_is = ap (λ (g : Spoken). g.said) is ∙ sym (append-nil said);
  tables_is = ap (λ (g : Spoken). g.tables) is;
  are = refl;
  goes = goes_same m.seen s h1;
  stops = stops;
}

sent_one : {S : Type 0} (m : HubMeaning S) → HubLaws m → (t : Tables) (id : ℕ) (s : Subscription) (said : List Unasked) (got : Spoken) (h0 mid h h1 : S) (c : Chunk) (committed : Option ℕ)
    → 0 < s.credit → next_above s.next (m.seen.lists mid s.stream) ≡ Some c → m.seen.later h0 mid → m.seen.later mid h → m.seen.later h h1 → Sent m t id (sent_to s c) (said ++ say.Deliver id committed c ∷ []) got h h1
    → Sent m t id s said got h0 h1
sent_one m laws t id s said got h0 mid h h1 c committed some first before asked after rest =
    let grown = laws.seen.lists_grow mid h1 s.stream (laws.seen.joins mid h h1 asked after) in
    let stays : next_above s.next (m.seen.lists h1 s.stream) ≡ Some c = ap (next_above s.next) grown.1 ∙ next_stays s.next (m.seen.lists mid s.stream) grown.0 c first in
    let goes = rest.goes in
    record {
      new = rest.new;
      more = say.Deliver id committed c ∷ rest.more;
      chunks = c ∷ rest.chunks;
      said_is = rest.said_is ∙ append_assoc said (say.Deliver id committed c ∷ []) rest.more;
      tables_is = rest.tables_is;
      are = (committed, rest.more, refl, rest.are);
      goes = record { same = goes.same; run = (some, stays, goes.run) };
      stops = stops_from m laws t.number rest.new h0 h h1 (laws.seen.joins h0 mid h before asked) rest.stops;
    }

sent_by : {S : Type 0} (m : HubMeaning S) → HubLaws m → (n : ℕ) (t : Tables) (id : ℕ) (s : Subscription) (said : List Unasked) (h0 mid : S) (got : Spoken) (h1 : S) (r : Result (Option Chunk) AllocError)
    → ((x : Subscription) (before : List Unasked) (h : S) → x.credit ≡ n → Runs m (send n t id x before) h got h1 → Sent m t id x before got h h1)
    → s.credit ≡ suc n → m.does (NextChunk s.stream s.next) h0 r mid → Runs m (chunk_by (send n t id) t id s said r) mid got h1 → Sent m t id s said got h0 h1
sent_by {S} m laws n t id s said h0 mid got h1 (Ok None) more credit does rest =
    let called = laws.called (NextChunk s.stream s.next) h0 mid (Ok None) does in
    let end : m.seen.later mid h1 = subst (λ (h : S). m.seen.later mid h) (sym rest.1) (laws.seen.same mid) in
    sent_none m t id s said got h0 h1 rest.0 (NoneDue mid called.later end (sym called.told))
sent_by {S} m laws n t id s said h0 mid got h1 (Ok (Some c)) more credit does rest =
    let called = laws.called (NextChunk s.stream s.next) h0 mid (Ok (Some c)) does in
    let next : Option ℕ → Program Spoken = λ committed. send n t id (sent_to s c) (said ++ say.Deliver id committed c ∷ []) in
    let parts = runs_part m (committed_row t.second s.stream) next mid h1 got rest in
    let asked = runs_later m laws (committed_row t.second s.stream) mid parts.a parts.h parts.one in
    let after = runs_later m laws (next parts.a) parts.h got h1 parts.two in
    let left : s.credit - 1 ≡ n = omega (arith, credit) in
    sent_one m laws t id s said got h0 mid parts.h h1 c parts.a (omega (arith, credit)) (sym called.told) called.later asked after
    (more (sent_to s c) (said ++ say.Deliver id parts.a c ∷ []) parts.h left parts.two)
sent_by m laws n t id s said h0 mid got h1 (Err e) more credit does rest = absurd rest

sends : {S : Type 0} (m : HubMeaning S) → HubLaws m → (n : ℕ) (t : Tables) (id : ℕ) (s : Subscription) (said : List Unasked) (h0 : S) (got : Spoken) (h1 : S) → s.credit ≡ n → Runs m (send n t id s said) h0 got h1 → Sent m t id s said got h0 h1
unfolding send
sends m laws zero t id s said h0 got h1 credit run = sent_none m t id s said got h0 h1 run.0 (Spent credit)
sends m laws (suc n) t id s said h0 got h1 credit (r, mid, does, rest) =
    sent_by m laws n t id s said h0 mid got h1 r (λ x before h is run. sends m laws n t id x before h got h1 is run) credit does rest

-- ---- all subscriptions

abbrev pub SlotKeeps : {S : Type 0} → HubSeen S → Option Subscription → Option Subscription → List Chunk → S → Type 0
SlotKeeps m None new chunks h = (new ≡ None) × (chunks ≡ [])
SlotKeeps m (Some s) new chunks h = (x : Subscription) × (new ≡ Some x) × Goes m s x chunks h

pub record Each {S : Type 0} (m : HubMeaning S) (t : Tables) (said : List Unasked) (got : Spoken) (h1 : S) : Type 0 where
  pub more : List Unasked
  pub said_is : got.said ≡ said ++ more
  pub number : got.tables.number ≡ t.number
  pub each : (id : ℕ) → SlotKeeps m.seen (slot id t) (slot id got.tables) (chunks_to id more) h1
  pub no_confirms : AllByRecursion IsDelivery more

keeps_same : {S : Type 0} (m : HubSeen S) (o : Option Subscription) (h : S) → SlotKeeps m o o [] h
keeps_same m None h = (refl, refl)
keeps_same m (Some s) h = (s, refl, goes_same m s h)

keeps_join : {S : Type 0} (m : HubMeaning S) → HubLaws m → (a b c : Option Subscription) (cs ds : List Chunk) (h h1 : S)
    → SlotKeeps m.seen a b cs h → m.seen.later h h1 → SlotKeeps m.seen b c ds h1 → SlotKeeps m.seen a c (cs ++ ds) h1
keeps_join {S} m laws None b c cs ds h h1 (is, none) after two =
    let rest : SlotKeeps m.seen None c ds h1 = subst (λ (o : Option Subscription). SlotKeeps m.seen o c ds h1) is two in
    (rest.0, ap (λ (l : List Chunk). l ++ ds) none ∙ rest.1)
keeps_join {S} m laws (Some s) b c cs ds h h1 (x, is, goes) after two =
    let rest : SlotKeeps m.seen (Some x) c ds h1 = subst (λ (o : Option Subscription). SlotKeeps m.seen o c ds h1) is two in
    (rest.0, rest.1, goes_join m laws s x rest.0 cs ds h h1 goes after rest.2)

each_none : {S : Type 0} (m : HubMeaning S) (t : Tables) (said : List Unasked) (got : Spoken) (h1 : S) → got ≡ spoken said t → Each m t said got h1
each_none m t said got h1 is = record {
  more = [];
  said_is = ap (λ (g : Spoken). g.said) is ∙ sym (append-nil said);
  number = ap (λ (g : Spoken). g.tables.number) is;
  each = λ id. subst (λ (x : Tables). SlotKeeps m.seen (slot id t) (slot id x) [] h1) (sym (ap (λ (g : Spoken). g.tables) is)) (keeps_same m.seen (slot id t) h1);
  no_confirms = tt;
}

each_join : {S : Type 0} (m : HubMeaning S) → HubLaws m → (t : Tables) (said : List Unasked) (a got : Spoken) (h h1 : S) → Each m t said a h → m.seen.later h h1 → Each m a.tables a.said got h1 → Each m t said got h1
each_join m laws t said a got h h1 one after two = record {
  more = one.more ++ two.more;
  said_is = two.said_is ∙ ap (λ (l : List Unasked). l ++ two.more) one.said_is ∙ append_assoc said one.more two.more;
  number = two.number ∙ one.number;
  each = λ id. subst (λ (l : List Chunk). SlotKeeps m.seen (slot id t) (slot id got.tables) l h1) (sym (flat_map-append (chunk_to id) one.more two.more))
      (keeps_join m laws (slot id t) (slot id a.tables) (slot id got.tables) (chunks_to id one.more) (chunks_to id two.more) h h1 (one.each id) after (two.each id));
  no_confirms = all_join IsDelivery one.more two.more one.no_confirms two.no_confirms;
}

in_range : (xs : List (Option Subscription)) (i : ℕ) (s : Subscription) → get_or xs i None ≡ Some s → i < length xs
in_range [] i s is = absurd cc
in_range (x ∷ xs) zero s is = omega arith
in_range (x ∷ xs) (suc i) s is = let rest = in_range xs i s is in omega (arith, rest)

pub is_same : (a b : ℕ) → (a == b) ≡ true → a ≡ b
is_same a b e = grind arith

is_other : (a b : ℕ) → (a == b) ≡ false → b ≢ a
is_other a b e same = absurd (cc (sym e ∙ ap (λ (x : ℕ). a == x) same ∙ same_id a))

-- one subscription, and no other
pub record SlotDoes {S : Type 0} (m : HubMeaning S) (t : Tables) (id : ℕ) (said : List Unasked) (got : Spoken) (h0 h1 : S) : Type 0 where
  pub each : Each m t said got h1
  pub stops : SlotStops m t.number (slot id got.tables) h0 h1
  pub others : (other : ℕ) → (id == other) ≡ false → slot other got.tables ≡ slot other t

slot_sent : {S : Type 0} (m : HubMeaning S) (t : Tables) (id : ℕ) (s : Subscription) (said : List Unasked) (got : Spoken) (h0 h1 : S) → slot id t ≡ Some s → Sent m t id s said got h0 h1 → SlotDoes m t id said got h0 h1
slot_sent {S} m t id s said got h0 h1 at sent =
    let new = sent.new in
    let more = sent.more in
    let inside : id < length t.subscriptions = in_range t.subscriptions id s at in
    let there : slot id got.tables ≡ Some new = ap (slot id) sent.tables_is ∙ get_or-set_same t.subscriptions id (Some new) None inside in
    let others : (other : ℕ) → (id == other) ≡ false → slot other got.tables ≡ slot other t = λ other apart. ap (slot other) sent.tables_is ∙ get_or-set_other t.subscriptions id other (Some new) None (is_other id other apart) in
    let goes : Goes m.seen s new (chunks_to id more) h1 = subst (λ (l : List Chunk). Goes m.seen s new l h1) (sym (to_it id sent.chunks more sent.are)) sent.goes in
    let here : SlotKeeps m.seen (slot id t) (slot id got.tables) (chunks_to id more) h1 = subst (λ (o : Option Subscription). SlotKeeps m.seen o (slot id got.tables) (chunks_to id more) h1) (sym at) (new, there, goes) in
    record {
      each = record {
        more = more;
        said_is = sent.said_is;
        number = ap (λ (x : Tables). x.number) sent.tables_is;
        each = λ other. elim (id == other) as (λ b. (id == other) ≡ b → SlotKeeps m.seen (slot other t) (slot other got.tables) (chunks_to other more) h1) [
          | true ↦ λ e. subst (λ (x : ℕ). SlotKeeps m.seen (slot x t) (slot x got.tables) (chunks_to x more) h1) (is_same id other e) here
          | false ↦ λ e.
              let same : SlotKeeps m.seen (slot other t) (slot other got.tables) [] h1 = subst (λ (o : Option Subscription). SlotKeeps m.seen (slot other t) o [] h1) (sym (others other e)) (keeps_same m.seen (slot other t) h1) in
              subst (λ (l : List Chunk). SlotKeeps m.seen (slot other t) (slot other got.tables) l h1) (sym (to_others id other sent.chunks more e sent.are)) same
        ] refl;
        no_confirms = are_deliveries id sent.chunks more sent.are;
      };
      stops = subst (λ (o : Option Subscription). SlotStops m t.number o h0 h1) (sym there) sent.stops;
      others = others;
    }

slot_none : {S : Type 0} (m : HubMeaning S) (t : Tables) (id : ℕ) (said : List Unasked) (got : Spoken) (h0 h1 : S) → got ≡ spoken said t → SlotStops m t.number (slot id t) h0 h1 → SlotDoes m t id said got h0 h1
slot_none m t id said got h0 h1 is stops = record {
  each = each_none m t said got h1 is;
  stops = subst (λ (x : Tables). SlotStops m t.number (slot id x) h0 h1) (sym (ap (λ (g : Spoken). g.tables) is)) stops;
  others = λ other apart. ap (λ (g : Spoken). slot other g.tables) is;
}

pub slot_from : {S : Type 0} (m : HubMeaning S) → HubLaws m → (session : ℕ) (o : Option Subscription) (h0 h h1 : S) → m.seen.later h0 h → SlotStops m session o h h1 → SlotStops m session o h0 h1
slot_from m laws session None h0 h h1 before stops = tt
slot_from m laws session (Some s) h0 h h1 before stops = stops_from m laws session s h0 h h1 before stops

slot_later : {S : Type 0} (m : HubMeaning S) → HubLaws m → (session : ℕ) (o : Option Subscription) (h0 h h1 : S) → m.seen.later h h1 → SlotStops m session o h0 h → SlotStops m session o h0 h1
slot_later m laws session None h0 h h1 behind stops = tt
slot_later m laws session (Some s) h0 h h1 behind stops = stops_later m laws session s h0 h h1 behind stops

apart_above : (a b : ℕ) → a ≤ b → (a == b) ≡ false → a + 1 ≤ b
apart_above a b le e = grind arith

under_apart : (a b : ℕ) → b < a → (a == b) ≡ false
under_apart a b lt = grind arith

active_does : {S : Type 0} (m : HubMeaning S) → HubLaws m → (t : Tables) (id serial : ℕ) (s : Subscription) (said : List Unasked) (h0 mid : S) (got : Spoken) (h1 : S) (active : Bool)
    → slot id t ≡ Some s → s.single ≡ Some serial → m.does (IsActive (consumer t serial)) h0 active mid → Runs m (active_row t said id s active) mid got h1 → SlotDoes m t id said got h0 h1
active_does {S} m laws t id serial s said h0 mid got h1 true at single does run =
    let sent = sends m laws s.credit t id s said mid got h1 refl run in
    let before = (laws.called (IsActive (consumer t serial)) h0 mid true does).later in
    let one = slot_sent m t id s said got mid h1 at sent in
    record { each = one.each; stops = slot_from m laws t.number (slot id got.tables) h0 mid h1 before one.stops; others = one.others }
active_does {S} m laws t id serial s said h0 mid got h1 false at single does run =
    let end : m.seen.later mid h1 = subst (λ (h : S). m.seen.later mid h) (sym run.1) (laws.seen.same mid) in
    slot_none m t id said got h0 h1 run.0 (subst (λ (o : Option Subscription). SlotStops m t.number o h0 h1) (sym at) (Waits serial h0 mid single does (laws.seen.same h0) end))

single_does : {S : Type 0} (m : HubMeaning S) → HubLaws m → (t : Tables) (id : ℕ) (s : Subscription) (said : List Unasked) (h0 : S) (got : Spoken) (h1 : S) (single : Option ℕ)
    → slot id t ≡ Some s → s.single ≡ single → Runs m (single_row t said id s single) h0 got h1 → SlotDoes m t id said got h0 h1
single_does m laws t id s said h0 got h1 None at is run = slot_sent m t id s said got h0 h1 at (sends m laws s.credit t id s said h0 got h1 refl run)
single_does m laws t id s said h0 got h1 (Some serial) at is (active, mid, does, run) = active_does m laws t id serial s said h0 mid got h1 active at is does run

credit_does : {S : Type 0} (m : HubMeaning S) → HubLaws m → (t : Tables) (id : ℕ) (s : Subscription) (said : List Unasked) (h0 : S) (got : Spoken) (h1 : S) (none : Bool)
    → slot id t ≡ Some s → (s.credit == 0) ≡ none → Runs m (if none then done (spoken said t) else single_row t said id s s.single) h0 got h1 → SlotDoes m t id said got h0 h1
credit_does m laws t id s said h0 got h1 true at is run = slot_none m t id said got h0 h1 run.0 (subst (λ (o : Option Subscription). SlotStops m t.number o h0 h1) (sym at) (Spent (is_same s.credit 0 is)))
credit_does m laws t id s said h0 got h1 false at is run = single_does m laws t id s said h0 got h1 s.single at refl run

slot_does : {S : Type 0} (m : HubMeaning S) → HubLaws m → (t : Tables) (id : ℕ) (o : Option Subscription) (said : List Unasked) (h0 : S) (got : Spoken) (h1 : S) → slot id t ≡ o → Runs m (slot_by t said id o) h0 got h1 → SlotDoes m t id said got h0 h1
slot_does m laws t id None said h0 got h1 at run = slot_none m t id said got h0 h1 run.0 (subst (λ (o : Option Subscription). SlotStops m t.number o h0 h1) (sym at) tt)
slot_does m laws t id (Some s) said h0 got h1 at run = credit_does m laws t id s said h0 got h1 (s.credit == 0) at refl run

-- so many subscriptions, from an id on
pub record SlotsDo {S : Type 0} (m : HubMeaning S) (n id : ℕ) (t : Tables) (said : List Unasked) (got : Spoken) (h0 h1 : S) : Type 0 where
  pub each : Each m t said got h1
  pub stops : (x : ℕ) → id ≤ x → x < id + n → SlotStops m t.number (slot x got.tables) h0 h1
  pub below : (x : ℕ) → x < id → slot x got.tables ≡ slot x t

slots_first : {S : Type 0} (m : HubMeaning S) → HubLaws m → (n id : ℕ) (t : Tables) (said : List Unasked) (a got : Spoken) (h0 h h1 : S)
    → m.seen.later h0 h → m.seen.later h h1 → SlotDoes m t id said a h0 h → SlotsDo m n (id + 1) a.tables a.said got h h1 → SlotsDo m (suc n) id t said got h0 h1
slots_first {S} m laws n id t said a got h0 h h1 before after one rest = record {
  each = each_join m laws t said a got h h1 one.each after rest.each;
  stops = λ x from to. elim (id == x) as (λ b. (id == x) ≡ b → SlotStops m t.number (slot x got.tables) h0 h1) [
    | true ↦ λ e.
        let same : slot id got.tables ≡ slot id a.tables = rest.below id (omega arith) in
        let here : SlotStops m t.number (slot id got.tables) h0 h1 = subst (λ (o : Option Subscription). SlotStops m t.number o h0 h1) (sym same) (slot_later m laws t.number (slot id a.tables) h0 h h1 after one.stops) in
        subst (λ (y : ℕ). SlotStops m t.number (slot y got.tables) h0 h1) (is_same id x e) here
    | false ↦ λ e.
        let above : id + 1 ≤ x = apart_above id x from e in
        let here : SlotStops m t.number (slot x got.tables) h h1 = subst (λ (k : ℕ). SlotStops m k (slot x got.tables) h h1) one.each.number (rest.stops x above (omega (arith, to))) in
        slot_from m laws t.number (slot x got.tables) h0 h h1 before here
  ] refl;
  below = λ x under. rest.below x (omega (arith, under)) ∙ one.others x (under_apart id x under);
}

pub slots_do : {S : Type 0} (m : HubMeaning S) → HubLaws m → (n id : ℕ) (t : Tables) (said : List Unasked) (h0 : S) (got : Spoken) (h1 : S) → Runs m (slots_row n id t said) h0 got h1 → SlotsDo m n id t said got h0 h1
unfolding slots_row
slots_do m laws zero id t said h0 got h1 run = record {
  each = each_none m t said got h1 run.0;
  stops = λ x from to. absurd (omega (arith, from, to));
  below = λ x under. ap (λ (g : Spoken). slot x g.tables) run.0;
}
slots_do m laws (suc n) id t said h0 got h1 run =
    let next : Spoken → Program Spoken = λ a. slots_row n (id + 1) a.tables a.said in
    let parts = runs_part m (slot_row id t said) next h0 h1 got run in
    slots_first m laws n id t said parts.a got h0 parts.h h1 (runs_later m laws (slot_row id t said) h0 parts.a parts.h parts.one) (runs_later m laws (next parts.a) parts.h got h1 parts.two)
    (slot_does m laws t id (slot id t) said h0 parts.a parts.h refl parts.one) (slots_do m laws n (id + 1) parts.a.tables parts.a.said parts.h got h1 parts.two)
