-- Conversations one after the other, and loops of them.
use Rattle.std.proofs.Common.{◌≡◌, ℕ, zero, suc, ◌+◌, ◌-◌, ◌<◌, ◌≤◌, Bool, true, false, List, [], ◌∷◌, ◌++◌, length, get_or, drop, Option, Some, None, Ok, refl, sym, ap, subst, ◌∙◌, append_assoc, if◌then◌else◌, arith}
use Rattle.std.proofs.Math.Seq.{drop-cons}
use Rattle.std.proofs.lemmas.List.{drop_all, get_or_default, append-nil}
use Rattle.chunk_format.specs.declared.chunk.Chunk.{Chunk}
use Rattle.stream_terms.specs.declared.terms.Confirm.{Confirm}
use Rattle.active_groups.specs.declared.consumer.Change.{Change}
use Rattle.stream_terms.specs.Views.{name_of}
use Rattle.hub_terms.specs.declared.terms.Found.{Found}
use Rattle.hub_terms.specs.Calls.{Words, Finding, Changing, NextChunk}
use Rattle.hub_terms.specs.Meaning.{HubMeaning}
use Rattle.hub_terms.specs.Programs.{Program, done, asking, lost, Runs}
use Rattle.session_tables.specs.Subscribing.{put_slot}
use Rattle.session_tables.specs.declared.publishers.Publisher.{Publisher}
use Rattle.session_tables.specs.declared.streams.StreamName.{StreamName}
use Rattle.session_tables.specs.declared.tables.Subscription.{Subscription}
use Rattle.session_tables.specs.declared.tables.Tables.{Tables}
use Rattle.session_core.specs.declared.unasked.Unasked.{Unasked}
use Rattle.session_core.specs.declared.unasked.Unasked.TheVariants as say
use Rattle.session_core.specs.Speaking.{Spoken, spoken, goes_on}
use Rattle.session_core.specs.Confirming.{told_of, all_told}
use Rattle.session_core.specs.Ending.{running_on, has_over, without_over, leaving, leaver, all_leaving, ended_row, found_row, stream_row, streams_row, stream_at}
use Rattle.session_core.specs.Turning.{turned, turns_row}
use Rattle.session_core.specs.Delivering.{sent_to, committed_row, rests, send, slot_row, slots_row}
use Rattle.session_core.specs.Confirming.{confirms_row}
use Rattle.session_core.specs.Polling.{open_row}
use Rattle.session_core.specs.Delivered.{Gives}

pub runs_join : {S A B : Type 0} (m : HubMeaning S) (p : Program A) (next : A → Program B) (h0 h h1 : S) (a : A) (b : B)
    → Runs m p h0 a h → Runs m (next a) h b h1 → Runs m (goes_on p next) h0 b h1
runs_join {S} {A} {B} m (done x) next h0 h h1 a b one two =
    let here : Runs m (next x) h b h1 = subst (λ (y : A). Runs m (next y) h b h1) one.0 two in
    subst (λ (z : S). Runs m (next x) z b h1) one.1 here
runs_join m (asking c k) next h0 h h1 a b (r, mid, does, rest) two = (r, mid, does, runs_join m (k r) next mid h h1 a b rest two)
runs_join m lost next h0 h h1 a b one two = absurd one

-- what is left of a conversation, behind which it is whole
abbrev pub Leads : {S A : Type 0} → HubMeaning S → Program A → S → Program A → S → Type 0
Leads {S} {A} m whole h0 left h = (got : A) (new : S) → Runs m left h got new → Runs m whole h0 got new

pub leads_none : {S A : Type 0} (m : HubMeaning S) (whole : Program A) (h : S) → Leads m whole h whole h
leads_none m whole h got new run = run

pub leads_all : {S A : Type 0} (m : HubMeaning S) (whole : Program A) (h0 : S) (a : A) (h : S) → Leads m whole h0 (done a) h → Runs m whole h0 a h
leads_all m whole h0 a h so = so a h (refl, refl)

leads_next : {S A B : Type 0} (m : HubMeaning S) (whole : Program B) (h0 : S) (p : Program A) (next : A → Program B) (h h1 : S) (a : A)
    → Leads m whole h0 (goes_on p next) h → Runs m p h a h1 → Leads m whole h0 (next a) h1
leads_next m whole h0 p next h h1 a so one got new rest = so got new (runs_join m p next h h1 new a got one rest)

-- ---- confirms

pub record Telling (publishers : List Publisher) (out0 : List Unasked) (all : List Confirm) (out : List Unasked) (left : List Confirm) : Type 0 where
  pub so : out ++ all_told publishers left ≡ out0 ++ all_told publishers all

pub told_none : (publishers : List Publisher) (out : List Unasked) (all left : List Confirm) → left ≡ all → Telling publishers out all out left
told_none publishers out all left same = record { so = ap (λ (cs : List Confirm). out ++ all_told publishers cs) same }

pub told_next : (publishers : List Publisher) (out0 out out1 : List Unasked) (all left rest : List Confirm) (c : Confirm)
    → Telling publishers out0 all out left → left ≡ c ∷ rest → out1 ≡ out ++ told_of publishers c → Telling publishers out0 all out1 rest
told_next publishers out0 out out1 all left rest c t is wrote = record {
  so = ap (λ (x : List Unasked). x ++ all_told publishers rest) wrote ∙ append_assoc out (told_of publishers c) (all_told publishers rest)
      ∙ ap (λ (cs : List Confirm). out ++ all_told publishers cs) (sym is) ∙ t.so;
}

pub told_all : (publishers : List Publisher) (out0 out : List Unasked) (all left : List Confirm) → Telling publishers out0 all out left → left ≡ [] → out ≡ out0 ++ all_told publishers all
told_all publishers out0 out all left t none =
    sym (append-nil out) ∙ ap (λ (cs : List Confirm). out ++ all_told publishers cs) (sym none) ∙ t.so

-- ---- consumers that leave

abbrev pub LeftSo : {S : Type 0} → HubMeaning S → Tables → ℕ → Option ℕ → List (Option Subscription) → ℕ → S → S → Type 0
LeftSo {S} m t stream running slots i h0 h = Leads m (all_leaving t stream running slots) h0 (all_leaving t stream running (drop i slots)) h

one_left : {S : Type 0} (m : HubMeaning S) (t : Tables) (serial : Option ℕ) (rest : Program (Unit {0})) (h h1 : S) (got : Unit {0}) (new : S)
    → Runs m (leaving t serial (done tt)) h tt h1 → Runs m rest h1 got new → Runs m (leaving t serial rest) h got new
one_left {S} m t None rest h h1 got new left run = subst (λ (x : S). Runs m rest x got new) left.1 run
one_left {S} m t (Some serial) rest h h1 got new (u, mid, does, end) run = (u, mid, does, subst (λ (x : S). Runs m rest x got new) end.1 run)

pub left_one : {S : Type 0} (m : HubMeaning S) (t : Tables) (stream : ℕ) (running : Option ℕ) (slots : List (Option Subscription)) (i : ℕ) (h0 h h1 : S) (s : Option Subscription)
    → LeftSo m t stream running slots i h0 h → i < length slots → s ≡ get_or slots i s → Runs m (leaving t (leaver stream running s) (done tt)) h tt h1 → LeftSo m t stream running slots (i + 1) h0 h1
left_one {S} m t stream running slots i h0 h h1 s so lt is left got new run =
    let next : suc i ≡ i + 1 = omega arith in
    let ahead : drop i slots ≡ s ∷ drop (i + 1) slots = drop-cons slots i s lt ∙ ap (λ (x : Option Subscription). x ∷ drop (suc i) slots) (sym is) ∙ ap (λ (n : ℕ). s ∷ drop n slots) next in
    let here = one_left m t (leaver stream running s) (all_leaving t stream running (drop (i + 1) slots)) h h1 got new left run in
    so got new (subst (λ (xs : List (Option Subscription)). Runs m (all_leaving t stream running xs) h got new) (sym ahead) here)

-- the same, of what stands in a place, whatever stands for none
pub left_slot : {S : Type 0} (m : HubMeaning S) (t : Tables) (stream : ℕ) (running : Option ℕ) (slots : List (Option Subscription)) (i : ℕ) (h0 h h1 : S) (d : Option Subscription)
    → LeftSo m t stream running slots i h0 h → i < length slots → Runs m (leaving t (leaver stream running (get_or slots i d)) (done tt)) h tt h1 → LeftSo m t stream running slots (i + 1) h0 h1
left_slot m t stream running slots i h0 h h1 d so lt left = left_one m t stream running slots i h0 h h1 (get_or slots i d) so lt (get_or_default slots i d (get_or slots i d) lt) left

pub left_all : {S : Type 0} (m : HubMeaning S) (t : Tables) (stream : ℕ) (running : Option ℕ) (slots : List (Option Subscription)) (i : ℕ) (h0 h : S)
    → LeftSo m t stream running slots i h0 h → length slots ≤ i → Runs m (all_leaving t stream running slots) h0 tt h
left_all {S} m t stream running slots i h0 h so le =
    so tt h (subst (λ (xs : List (Option Subscription)). Runs m (all_leaving t stream running xs) h tt h) (sym (drop_all i slots le)) (refl, refl))

-- ---- streams

pub ends : {S : Type 0} (m : HubMeaning S) (t t1 : Tables) (out out1 : List Unasked) (stream : ℕ) (running : Option ℕ) (name : Words) (h0 h1 : S)
    → Runs m (all_leaving t stream running t.subscriptions) h0 tt h1 → out1 ≡ out ++ say.MetadataUpdate name ∷ [] → t1 ≡ without_over stream running t → Runs m (ended_row t out stream running name) h0 (spoken out1 t1) h1
ends m t t1 out out1 stream running name h0 h1 left wrote is =
    let after : Spoken = spoken (out ++ say.MetadataUpdate name ∷ []) (without_over stream running t) in
    let same : spoken out1 t1 ≡ after = ap (λ (o : List Unasked). spoken o t1) wrote ∙ ap (spoken (out ++ say.MetadataUpdate name ∷ [])) is in
    runs_join m (all_leaving t stream running t.subscriptions) (λ (u : Unit {0}). done after) h0 h1 h1 tt (spoken out1 t1) left (same, refl)

found_by : {S : Type 0} (m : HubMeaning S) (t : Tables) (out : List Unasked) (k : StreamName) (running : Option ℕ) (h : S) (got : Spoken) (h1 : S) (over : Bool)
    → has_over k.stream running t ≡ over → Runs m (if over then ended_row t out k.stream running k.name else done (spoken out t)) h got h1 → Runs m (found_row t out k running) h got h1
found_by {S} m t out k running h got h1 over is run = subst (λ (b : Bool). Runs m (if b then ended_row t out k.stream running k.name else done (spoken out t)) h got h1) (sym is) run

used_by : {S : Type 0} (m : HubMeaning S) (t : Tables) (out : List Unasked) (k : StreamName) (found : Found) (h h1 : S) (got : Spoken) (h2 : S)
    → has_over k.stream None t ≡ true → m.does (Finding (name_of k.name)) h found h1 → Runs m (found_row t out k (running_on k.stream found)) h1 got h2 → Runs m (stream_row t out k) h got h2
used_by {S} m t out k found h h1 got h2 used does run =
    let asked : Program Spoken = asking (Finding (name_of k.name)) (λ f. found_row t out k (running_on k.stream f)) in
    subst (λ (b : Bool). Runs m (if b then asked else done (spoken out t)) h got h2) (sym used) (found, h1, does, run)

-- nothing on a stream that is used is over
pub nothing_over : {S : Type 0} (m : HubMeaning S) (t : Tables) (out : List Unasked) (k : StreamName) (found : Found) (running : Option ℕ) (h h1 : S)
    → has_over k.stream None t ≡ true → m.does (Finding (name_of k.name)) h found h1 → running ≡ running_on k.stream found → has_over k.stream running t ≡ false → Runs m (stream_row t out k) h (spoken out t) h1
nothing_over {S} m t out k found running h h1 used does is none =
    let not_over : has_over k.stream (running_on k.stream found) t ≡ false = subst (λ (r : Option ℕ). has_over k.stream r t ≡ false) is none in
    used_by m t out k found h h1 (spoken out t) h1 used does (found_by m t out k (running_on k.stream found) h1 (spoken out t) h1 false not_over (refl, refl))

-- something on it is
pub something_over : {S : Type 0} (m : HubMeaning S) (t : Tables) (out : List Unasked) (k : StreamName) (found : Found) (running : Option ℕ) (h h1 : S) (got : Spoken) (h2 : S)
    → has_over k.stream None t ≡ true → m.does (Finding (name_of k.name)) h found h1 → running ≡ running_on k.stream found → has_over k.stream running t ≡ true → Runs m (ended_row t out k.stream running k.name) h1 got h2
    → Runs m (stream_row t out k) h got h2
something_over {S} m t out k found running h h1 got h2 used does is over run =
    let is_over : has_over k.stream (running_on k.stream found) t ≡ true = subst (λ (r : Option ℕ). has_over k.stream r t ≡ true) is over in
    let here : Runs m (ended_row t out k.stream (running_on k.stream found) k.name) h1 got h2 = subst (λ (r : Option ℕ). Runs m (ended_row t out k.stream r k.name) h1 got h2) is run in
    used_by m t out k found h h1 got h2 used does (found_by m t out k (running_on k.stream found) h1 got h2 true is_over here)

abbrev pub StreamsSo : {S : Type 0} → HubMeaning S → Tables → List Unasked → ℕ → Tables → List Unasked → S → S → Type 0
StreamsSo {S} m t0 out0 i t out h0 h = Leads m (streams_row t0.streams t0 out0) h0 (streams_row (drop i t0.streams) t out) h

pub streams_next : {S : Type 0} (m : HubMeaning S) (t0 t t1 : Tables) (out0 out out1 : List Unasked) (i : ℕ) (h0 h h1 : S)
    → StreamsSo m t0 out0 i t out h0 h → t.streams ≡ t0.streams → i < length t0.streams → Runs m (stream_row t out (stream_at i t)) h (spoken out1 t1) h1
    → StreamsSo m t0 out0 (i + 1) t1 out1 h0 h1
streams_next {S} m t0 t t1 out0 out out1 i h0 h h1 so same lt one got new run =
    let next : suc i ≡ i + 1 = omega arith in
    let known : stream_at i t ≡ stream_at i t0 = ap (λ (ks : List StreamName). get_or ks i (record { stream = 0; name = None })) same in
    let ahead : drop i t0.streams ≡ stream_at i t ∷ drop (i + 1) t0.streams =
    drop-cons t0.streams i (record { stream = 0; name = None }) lt ∙ ap (λ (k : StreamName). k ∷ drop (suc i) t0.streams) (sym known) ∙ ap (λ (n : ℕ). stream_at i t ∷ drop n t0.streams) next in
    let here = runs_join m (stream_row t out (stream_at i t)) (λ a. streams_row (drop (i + 1) t0.streams) a.tables a.said) h h1 new (spoken out1 t1) got one run in
    so got new (subst (λ (ks : List StreamName). Runs m (streams_row ks t out) h got new) (sym ahead) here)

pub streams_all : {S : Type 0} (m : HubMeaning S) (t0 t : Tables) (out0 out : List Unasked) (i : ℕ) (h0 h : S)
    → StreamsSo m t0 out0 i t out h0 h → length t0.streams ≤ i → Runs m (streams_row t0.streams t0 out0) h0 (spoken out t) h
streams_all {S} m t0 t out0 out i h0 h so le =
    so (spoken out t) h (subst (λ (ks : List StreamName). Runs m (streams_row ks t out) h (spoken out t) h) (sym (drop_all i t0.streams le)) (refl, refl))

-- ---- turns

turns_step : {S : Type 0} (m : HubMeaning S) (n : ℕ) (t : Tables) (out : List Unasked) (c : Change) (h h1 : S) (got : Spoken) (new : S)
    → m.does (Changing t.number) h (Some c) h1 → Runs m (turns_row n (turned t out c).tables (turned t out c).said) h1 got new → Runs m (turns_row (suc n) t out) h got new
unfolding turns_row
turns_step m n t out c h h1 got new does run = (Some c, h1, does, run)

turns_rest : {S : Type 0} (m : HubMeaning S) (n : ℕ) (t : Tables) (out : List Unasked) (h h1 : S) → m.does (Changing t.number) h None h1 → Runs m (turns_row (suc n) t out) h (spoken out t) h1
unfolding turns_row
turns_rest m n t out h h1 does = (None, h1, does, (refl, refl))

turns_end : {S : Type 0} (m : HubMeaning S) (t : Tables) (out : List Unasked) (h : S) → Runs m (turns_row zero t out) h (spoken out t) h
unfolding turns_row
turns_end m t out h = (refl, refl)

abbrev pub TurnsSo : {S : Type 0} → HubMeaning S → ℕ → Tables → List Unasked → ℕ → Tables → List Unasked → S → S → Type 0
TurnsSo {S} m most t0 out0 i t out h0 h = Leads m (turns_row most t0 out0) h0 (turns_row (most - i) t out) h

pub turns_none : {S : Type 0} (m : HubMeaning S) (most : ℕ) (t : Tables) (out : List Unasked) (h : S) → TurnsSo m most t out 0 t out h h
turns_none {S} m most t out h got new run =
    let all : most - 0 ≡ most = omega arith in
    subst (λ (n : ℕ). Runs m (turns_row n t out) h got new) all run

pub turns_next : {S : Type 0} (m : HubMeaning S) (most : ℕ) (t0 t t1 : Tables) (out0 out out1 : List Unasked) (i : ℕ) (h0 h h1 : S) (c : Change)
    → TurnsSo m most t0 out0 i t out h0 h → i < most → m.does (Changing t.number) h (Some c) h1 → spoken out1 t1 ≡ turned t out c → TurnsSo m most t0 out0 (i + 1) t1 out1 h0 h1
turns_next {S} m most t0 t t1 out0 out out1 i h0 h h1 c so lt does is got new run =
    let next : suc (most - (i + 1)) ≡ most - i = omega (arith, lt) in
    let here : Runs m (turns_row (most - (i + 1)) (turned t out c).tables (turned t out c).said) h1 got new = subst (λ (a : Spoken). Runs m (turns_row (most - (i + 1)) a.tables a.said) h1 got new) is run in
    so got new (subst (λ (n : ℕ). Runs m (turns_row n t out) h got new) next (turns_step m (most - (i + 1)) t out c h h1 got new does here))

pub turns_stop : {S : Type 0} (m : HubMeaning S) (most : ℕ) (t0 t : Tables) (out0 out : List Unasked) (i : ℕ) (h0 h h1 : S)
    → TurnsSo m most t0 out0 i t out h0 h → i < most → m.does (Changing t.number) h None h1 → Runs m (turns_row most t0 out0) h0 (spoken out t) h1
turns_stop {S} m most t0 t out0 out i h0 h h1 so lt does =
    let next : suc (most - (i + 1)) ≡ most - i = omega (arith, lt) in
    so (spoken out t) h1 (subst (λ (n : ℕ). Runs m (turns_row n t out) h (spoken out t) h1) next (turns_rest m (most - (i + 1)) t out h h1 does))

pub turns_all : {S : Type 0} (m : HubMeaning S) (most : ℕ) (t0 t : Tables) (out0 out : List Unasked) (i : ℕ) (h0 h : S)
    → TurnsSo m most t0 out0 i t out h0 h → most ≤ i → Runs m (turns_row most t0 out0) h0 (spoken out t) h
turns_all {S} m most t0 t out0 out i h0 h so le =
    let none : 0 ≡ most - i = omega (arith, le) in
    so (spoken out t) h (subst (λ (n : ℕ). Runs m (turns_row n t out) h (spoken out t) h) none (turns_end m t out h))

-- ---- chunks

send_step : {S : Type 0} (m : HubMeaning S) (n : ℕ) (t : Tables) (id : ℕ) (s s1 : Subscription) (out out1 : List Unasked) (c : Chunk) (h mid h1 : S) (got : Spoken) (new : S)
    → m.does (NextChunk s.stream s.next) h (Ok (Some c)) mid → Gives m t.second id s c s1 out out1 mid h1 → Runs m (send n t id s1 out1) h1 got new → Runs m (send (suc n) t id s out) h got new
unfolding send
send_step m n t id s s1 out out1 c h mid h1 got new does g run =
    let moved : Runs m (send n t id (sent_to s c) out1) h1 got new = subst (λ (x : Subscription). Runs m (send n t id x out1) h1 got new) g.moved run in
    let here : Runs m (send n t id (sent_to s c) (out ++ say.Deliver id g.committed c ∷ [])) h1 got new = subst (λ (x : List Unasked). Runs m (send n t id (sent_to s c) x) h1 got new) g.wrote moved in
    (Ok (Some c), mid, does, runs_join m (committed_row t.second s.stream) (λ committed. send n t id (sent_to s c) (out ++ say.Deliver id committed c ∷ [])) mid h1 new g.committed got g.asked here)

send_rest : {S : Type 0} (m : HubMeaning S) (n : ℕ) (t : Tables) (id : ℕ) (s : Subscription) (out : List Unasked) (h h1 : S)
    → m.does (NextChunk s.stream s.next) h (Ok None) h1 → Runs m (send (suc n) t id s out) h (rests t id s out) h1
unfolding send
send_rest m n t id s out h h1 does = (Ok None, h1, does, (refl, refl))

send_end : {S : Type 0} (m : HubMeaning S) (t : Tables) (id : ℕ) (s : Subscription) (out : List Unasked) (h : S) → Runs m (send zero t id s out) h (rests t id s out) h
unfolding send
send_end m t id s out h = (refl, refl)

abbrev pub SendSo : {S : Type 0} → HubMeaning S → Tables → ℕ → Subscription → List Unasked → Subscription → List Unasked → S → S → Type 0
SendSo {S} m t id s0 out0 s out h0 h = Leads m (send s0.credit t id s0 out0) h0 (send s.credit t id s out) h

pub send_next : {S : Type 0} (m : HubMeaning S) (t : Tables) (second : Bool) (id : ℕ) (s0 s s1 : Subscription) (out0 out out1 : List Unasked) (c : Chunk) (h0 h mid h1 : S)
    → SendSo m t id s0 out0 s out h0 h → second ≡ t.second → 0 < s.credit → m.does (NextChunk s.stream s.next) h (Ok (Some c)) mid → Gives m second id s c s1 out out1 mid h1
    → SendSo m t id s0 out0 s1 out1 h0 h1
send_next {S} m t second id s0 s s1 out0 out out1 c h0 h mid h1 so version some does g got new run =
    let gives : Gives m t.second id s c s1 out out1 mid h1 = subst (λ (b : Bool). Gives m b id s c s1 out out1 mid h1) version g in
    let left : s1.credit ≡ s.credit - 1 = ap (λ (x : Subscription). x.credit) gives.moved in
    let next : suc s1.credit ≡ s.credit = omega (arith, left, some) in
    so got new (subst (λ (n : ℕ). Runs m (send n t id s out) h got new) next (send_step m s1.credit t id s s1 out out1 c h mid h1 got new does gives run))

pub send_stop : {S : Type 0} (m : HubMeaning S) (t t1 : Tables) (id : ℕ) (s0 s : Subscription) (out0 out : List Unasked) (h0 h h1 : S)
    → SendSo m t id s0 out0 s out h0 h → 0 < s.credit → m.does (NextChunk s.stream s.next) h (Ok None) h1 → t1 ≡ put_slot id (Some s) t → Runs m (send s0.credit t id s0 out0) h0 (spoken out t1) h1
send_stop {S} m t t1 id s0 s out0 out h0 h h1 so some does is =
    let next : suc (s.credit - 1) ≡ s.credit = omega (arith, some) in
    let here : Runs m (send s0.credit t id s0 out0) h0 (rests t id s out) h1 = so (rests t id s out) h1 (subst (λ (n : ℕ). Runs m (send n t id s out) h (rests t id s out) h1) next (send_rest m (s.credit - 1) t id s out h h1 does)) in
    subst (λ (x : Tables). Runs m (send s0.credit t id s0 out0) h0 (spoken out x) h1) (sym is) here

pub send_all : {S : Type 0} (m : HubMeaning S) (t t1 : Tables) (id : ℕ) (s0 s : Subscription) (out0 out : List Unasked) (h0 h : S)
    → SendSo m t id s0 out0 s out h0 h → s.credit ≤ 0 → t1 ≡ put_slot id (Some s) t → Runs m (send s0.credit t id s0 out0) h0 (spoken out t1) h
send_all {S} m t t1 id s0 s out0 out h0 h so none is =
    let zero_is : 0 ≡ s.credit = omega (arith, none) in
    let here : Runs m (send s0.credit t id s0 out0) h0 (rests t id s out) h = so (rests t id s out) h (subst (λ (n : ℕ). Runs m (send n t id s out) h (rests t id s out) h) zero_is (send_end m t id s out h)) in
    subst (λ (x : Tables). Runs m (send s0.credit t id s0 out0) h0 (spoken out x) h) (sym is) here

-- ---- subscriptions

slots_step : {S : Type 0} (m : HubMeaning S) (n id : ℕ) (t t1 : Tables) (out out1 : List Unasked) (h h1 : S) (got : Spoken) (new : S)
    → Runs m (slot_row id t out) h (spoken out1 t1) h1 → Runs m (slots_row n (id + 1) t1 out1) h1 got new → Runs m (slots_row (suc n) id t out) h got new
unfolding slots_row
slots_step m n id t t1 out out1 h h1 got new one run = runs_join m (slot_row id t out) (λ a. slots_row n (id + 1) a.tables a.said) h h1 new (spoken out1 t1) got one run

slots_end : {S : Type 0} (m : HubMeaning S) (id : ℕ) (t : Tables) (out : List Unasked) (h : S) → Runs m (slots_row zero id t out) h (spoken out t) h
unfolding slots_row
slots_end m id t out h = (refl, refl)

abbrev pub SlotsSo : {S : Type 0} → HubMeaning S → ℕ → Tables → List Unasked → ℕ → Tables → List Unasked → S → S → Type 0
SlotsSo {S} m most t0 out0 id t out h0 h = Leads m (slots_row most 0 t0 out0) h0 (slots_row (most - id) id t out) h

pub slots_none : {S : Type 0} (m : HubMeaning S) (most : ℕ) (t : Tables) (out : List Unasked) (h : S) → SlotsSo m most t out 0 t out h h
slots_none {S} m most t out h got new run =
    let all : most - 0 ≡ most = omega arith in
    subst (λ (n : ℕ). Runs m (slots_row n 0 t out) h got new) all run

pub slots_next : {S : Type 0} (m : HubMeaning S) (most : ℕ) (t0 t t1 : Tables) (out0 out out1 : List Unasked) (id : ℕ) (h0 h h1 : S)
    → SlotsSo m most t0 out0 id t out h0 h → id < most → Runs m (slot_row id t out) h (spoken out1 t1) h1 → SlotsSo m most t0 out0 (id + 1) t1 out1 h0 h1
slots_next {S} m most t0 t t1 out0 out out1 id h0 h h1 so lt one got new run =
    let next : suc (most - (id + 1)) ≡ most - id = omega (arith, lt) in
    so got new (subst (λ (n : ℕ). Runs m (slots_row n id t out) h got new) next (slots_step m (most - (id + 1)) id t t1 out out1 h h1 got new one run))

pub slots_all : {S : Type 0} (m : HubMeaning S) (most : ℕ) (t0 t : Tables) (out0 out : List Unasked) (id : ℕ) (h0 h : S)
    → SlotsSo m most t0 out0 id t out h0 h → most ≤ id → Runs m (slots_row most 0 t0 out0) h0 (spoken out t) h
slots_all {S} m most t0 t out0 out id h0 h so le =
    let none : 0 ≡ most - id = omega (arith, le) in
    so (spoken out t) h (subst (λ (n : ℕ). Runs m (slots_row n id t out) h (spoken out t) h) none (slots_end m id t out h))

-- ---- the whole

pub opens : {S : Type 0} (m : HubMeaning S) (t : Tables) (out out1 : List Unasked) (t2 : Tables) (out2 : List Unasked) (t3 : Tables) (out3 : List Unasked) (got : Spoken) (h0 h1 h2 h3 h4 : S)
    → Runs m (confirms_row t out) h0 (spoken out1 t) h1 → Runs m (streams_row t.streams t out1) h1 (spoken out2 t2) h2 → Runs m (turns_row 256 t2 out2) h2 (spoken out3 t3) h3 → Runs m (slots_row 256 0 t3 out3) h3 got h4
    → Runs m (open_row t out) h0 got h4
opens m t out out1 t2 out2 t3 out3 got h0 h1 h2 h3 h4 one two three four =
    let last : Spoken → Program Spoken = λ c. slots_row 256 0 c.tables c.said in
    let third : Spoken → Program Spoken = λ b. goes_on (turns_row 256 b.tables b.said) last in
    let second : Spoken → Program Spoken = λ a. goes_on (streams_row a.tables.streams a.tables a.said) third in
    runs_join m (confirms_row t out) second h0 h1 h4 (spoken out1 t) got one
    (runs_join m (streams_row t.streams t out1) third h1 h2 h4 (spoken out2 t2) got two (runs_join m (turns_row 256 t2 out2) last h2 h3 h4 (spoken out3 t3) got three four))
