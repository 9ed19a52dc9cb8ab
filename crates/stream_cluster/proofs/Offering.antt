-- What the leader takes goes behind its sequence, and the view is a step.
use Rattle.std.proofs.Common.{◌≡◌, ℕ, suc, ◌<◌, ◌≤◌, Bool, true, false, cond, ◌&&◌, nat_lt, List, [], ◌∷◌, ◌++◌, length, map, drop, Option, Some, None, inl, refl, sym, ap, subst, ◌∙◌, arith, append_assoc}
use Rattle.std.specs.List.{AllByRecursion, Contains}
use Rattle.std.proofs.lemmas.List.{length-map}
use Rattle.std.proofs.lemmas.List.Elements.{All-from_recursion, recursion_from_All}
use Rattle.frame_wire.specs.declared.limits.Limits.{Limits}
use Rattle.chunk_format.specs.declared.chunk.Chunk.{Chunk}
use Rattle.chunk_format.specs.declared.entry.Entry.{Entry}
use Rattle.chunk_format.specs.Chunks.{IsChunk}
use Rattle.chunk_format.specs.ByName.{Greatest}
use Rattle.chunk_format.specs.Logs.{GoesOn, IsLog, Truthful, end_of}
use Rattle.chunk_format.proofs.LinkLaws.{linked_each, end_grows}
use Rattle.chunk_format.proofs.NameLaws.{each_join, each_map}
use Rattle.command_data.specs.declared.item.Tagged.{Tagged}
use Rattle.epoch_coordinator.specs.Members.{MemberState, sequence_of}
use Rattle.epoch_coordinator.specs.MemberSteps.{stamp_at, offered}
use Rattle.epoch_coordinator.specs.Offers.{Item, is_new, rising_from, accepted}
use Rattle.offer_chunks.specs.Taken.{item_of, items_of, IdFits}
use Rattle.replication_laws.specs.Cluster.{ClusterState, Reign, member, put, RunsWith}
use Rattle.replication_laws.specs.Events.{AnyStep, Takes, OfferStep, Offer, StoreOffset, IsOffer, all_offered, gets}
use Rattle.replication_laws.specs.Soundness.{IsSound}
use Rattle.replication_laws.specs.Confirms.{Stands, Awaits, IsBehind}
use Rattle.replication_laws.specs.Confirms as claims
use Rattle.replication_laws.proofs.Claims.{running_is, committed_in, claim_made, given_within, open_sequence_log, offer_goes_behind}
use Rattle.replication_laws.proofs.Causes.{offer_caused, caused_stands}
use Rattle.replication_laws.proofs.Joined.{step_sound}
use Rattle.replication_laws.proofs.Sounds.{member_put, count_put}
use Rattle.replication_laws.proofs.Properties.{with_sound}
use Rattle.member_core.specs.States.{offered_all}
use Rattle.stream_terms.specs.declared.terms.Pass.{Pass}
use Rattle.stream_terms.specs.declared.terms.What.{What}
use Rattle.stream_terms.specs.declared.terms.Given.{Given}
use Rattle.stream_terms.specs.declared.terms.Waits.{Waits}
use Rattle.stream_terms.specs.declared.terms.Taken.{Taken}
use Rattle.stream_terms.specs.Views.{sequence, name_of}
use Rattle.stream_terms.specs.Steps.{queued, item_id, item_entry, names_one, offset_chunk, OfferTaken, OffsetTaken}
use Rattle.stream_terms.proofs.Keeping.{offered_holds, stored_holds}
use Rattle.stream_passes.specs.Parts.{PassesState, viewed, put_part, parts_put}
use Rattle.stream_passes.proofs.Steps.{put_view}
use Rattle.leader_offers.specs.Adds.{offer_adds, offset_adds, Added, OfferAdded, OffsetAdded, offset_limits}
use Rattle.stream_cluster.proofs.Spelled.{offer_spelled, offset_spelled, offer_kinds, offset_kinds}
use Rattle.cluster_core.specs.Seen.{queue_by}
use Rattle.cluster_core.specs.Up.{running}
use Rattle.cluster_core.specs.States.{IsStream, reigned}
use Rattle.cluster_core.proofs.Lists.{drop_front}
use Rattle.cluster_core.proofs.Running.{runs, running_of}
use Rattle.cluster_core.proofs.Streams.{offer_keeps}
use Rattle.stream_cluster.specs.Seats.{in_seat}
use Rattle.stream_cluster.specs.Served.{ServedState, served, parts_of, view_of, IsServed, OfferAwaits, claim_of}
use Rattle.stream_cluster.specs.Takes.{leader_of, leading, led_by, wait_of, GoesLast}
use Rattle.stream_cluster.proofs.Serving.{runs_reigned, runs_without, awaits_reigned, awaits_without, on_the_way, by_name}

-- ---- an offer is one of the laws

pub all_as : (chunks : List Chunk) (m : MemberState) → offered_all chunks m ≡ all_offered chunks m
all_as [] m = refl
all_as (c ∷ chunks) m = all_as chunks (offered c m)

promised_runs : (w : ClusterState) (e k : ℕ) → RunsWith w e k → RunsWith w (member w k).promise k
promised_runs w e k r = subst (λ (n : ℕ). RunsWith w n k) (sym r.promised) r

each_chunk : (list : List Chunk) → IsLog list → AllByRecursion IsChunk list
each_chunk list log = recursion_from_All IsChunk list (linked_each 0 0 list log)

put_as : (rs : List Reign) (w : ClusterState) (k : ℕ) (n : MemberState) (chunks : List Chunk) → n ≡ offered_all chunks (member w k) → reigned rs (put w k (in_seat n)) ≡ gets k chunks (reigned rs w)
put_as rs w k n chunks is = ap (λ (x : MemberState). reigned rs (put w k (in_seat x))) (is ∙ all_as chunks (member w k))

pub offer_step : (w : ClusterState) (e k : ℕ) (limits : Limits) (name : List ℕ) (items : List Tagged) (now : ℕ) (t : Taken) (n : MemberState) → RunsWith w e k → IsLog (sequence_of (member w k)) → length name ≤ 255 → OfferAdded limits (member w k) name items now t n
    → (rs : List Reign) → OfferStep now (reigned rs w) (reigned rs (put w k (in_seat n)))
offer_step w e k limits name items now t n r log short a rs =
    let m = member w k in
    let right : IsOffer name (items_of items) = record { name_fits = omega (arith, short); ids_fit = All-from_recursion IdFits (items_of items) a.ids_fit } in
    let spelled = All-from_recursion IsChunk (offer_adds m name items now) (offer_spelled m name items now (each_chunk (sequence_of m) log) a.added.room) in
    Offer m.promise k name (items_of items) (runs_reigned rs w m.promise k (promised_runs w e k r)) right spelled (put_as rs w k n (offer_adds m name items now) a.added.state)

pub offset_step : (w : ClusterState) (e k : ℕ) (limits : Limits) (name : List ℕ) (offset now : ℕ) (whats : List What) (t : Taken) (n : MemberState) → RunsWith w e k → IsLog (sequence_of (member w k)) → Added limits (member w k) name (offset_adds (member w k) name offset now) whats t n
    → (rs : List Reign) → OfferStep now (reigned rs w) (reigned rs (put w k (in_seat n)))
offset_step w e k limits name offset now whats t n r log a rs =
    let m = member w k in
    let spelled = All-from_recursion IsChunk (offset_adds m name offset now) (offset_spelled m name offset now (each_chunk (sequence_of m) log) a.room) in
    StoreOffset m.promise k name offset (runs_reigned rs w m.promise k (promised_runs w e k r)) spelled (put_as rs w k n (offset_adds m name offset now) a.state)

-- ---- the leader of a stream

module _ (w : ClusterState) (e : ℕ) (h : IsStream w) (run : running w ≡ Some e) where
  pub runs_so : RunsWith w e (leader_of w)
  runs_so = runs w e run

  pub is_sound : IsSound h.opened (reigned h.reigns w)
  is_sound = with_sound Truthful h.opened (reigned h.reigns w) h.sound

  runs_with : RunsWith (reigned h.reigns w) e (leader_of w)
  runs_with = runs_reigned h.reigns w e (leader_of w) runs_so

  pub leading_log : IsLog (sequence_of (leading w))
  leading_log = open_sequence_log h.opened e (leader_of w) (reigned h.reigns w) is_sound runs_with

  pub front_of : GoesOn w.committed (sequence_of (leading w))
  front_of = committed_in h.opened e (leader_of w) (reigned h.reigns w) is_sound runs_with

  -- behind the list stands the rest of the leader's sequence
  pub rest_is : queue_by (running w) w ≡ front_of.0
  rest_is = ap (λ (r : Option ℕ). queue_by r w) run ∙ ap (drop (length w.committed)) front_of.1 ∙ drop_front w.committed front_of.0

  pub whole_is : w.committed ++ queue_by (running w) w ≡ sequence_of (leading w)
  whole_is = ap (λ (l : List Chunk). w.committed ++ l) rest_is ∙ sym front_of.1

  pub past_front : end_of w.committed ≤ end_of (sequence_of (leading w))
  past_front =
      let grows = end_grows w.committed front_of.0 (subst IsLog front_of.1 leading_log) in
      let same = ap end_of front_of.1 in
      omega (arith, grows, same)

  of_running : (x : Waits) → OfferAwaits w x → x.given.pass.epoch ≡ e
  of_running x a = sym a.runs.epoch_is ∙ runs_so.epoch_is

  within : (x : Waits) → OfferAwaits w x → x.end ≤ end_of (sequence_of (leading w))
  within x a = given_within (claim_of x) h.opened e (leader_of w) x.end (reigned h.reigns w) is_sound runs_with (inl (x.given.pass.epoch, awaits_reigned (claim_of x) h.reigns w x.given.pass.epoch x.end a))

  pub all_within : (xs : List Waits) → AllByRecursion (OfferAwaits w) xs → AllByRecursion (λ (x : Waits). x.end ≤ end_of (sequence_of (leading w))) xs
  all_within xs a = each_map (OfferAwaits w) (λ (x : Waits). x.end ≤ end_of (sequence_of (leading w))) within xs a

  pub all_running : (xs : List Waits) → AllByRecursion (OfferAwaits w) xs → AllByRecursion (λ (x : Waits). x.given.pass.epoch ≡ e) xs
  all_running xs a = each_map (OfferAwaits w) (λ (x : Waits). x.given.pass.epoch ≡ e) of_running xs a

  -- ---- it took chunks

  module _ (now : ℕ) (n : MemberState) (chunks : List Chunk) (seq : sequence_of n ≡ sequence_of (leading w) ++ chunks) (step : (rs : List Reign) → OfferStep now (reigned rs w) (reigned rs (put w (leader_of w) (in_seat n)))) where
    any : AnyStep (reigned h.reigns w) (reigned h.reigns (put w (leader_of w) (in_seat n)))
    any = Takes now (step h.reigns)

    pub sound_after : IsSound h.opened (reigned h.reigns (put w (leader_of w) (in_seat n)))
    sound_after = step_sound h.opened (reigned h.reigns w) (reigned h.reigns (put w (leader_of w) (in_seat n))) is_sound any

    pub stream_after : IsStream (put w (leader_of w) (in_seat n))
    stream_after = offer_keeps now w (put w (leader_of w) (in_seat n)) h (count_put (leader_of w) (in_seat n) w.seats) step

    member_after : member (put w (leader_of w) (in_seat n)) (leader_of w) ≡ n
    member_after = member_put w (leader_of w) (in_seat n) runs_so.is_member

    pub runs_after : RunsWith (put w (leader_of w) (in_seat n)) e (leader_of w)
    runs_after =
        let x = offer_goes_behind h.opened now (reigned h.reigns w) (reigned h.reigns (put w (leader_of w) (in_seat n))) is_sound (step h.reigns) in
        let led = running_is (reigned h.reigns w) x.epoch e x.leader (leader_of w) x.runs runs_with in
        let same : x.epoch ≡ e = sym x.runs.epoch_is ∙ runs_with.epoch_is in
        runs_without h.reigns (put w (leader_of w) (in_seat n)) e (leader_of w)
        (subst (λ (i : ℕ). RunsWith (reigned h.reigns (put w (leader_of w) (in_seat n))) e i) led
        (subst (λ (i : ℕ). RunsWith (reigned h.reigns (put w (leader_of w) (in_seat n))) i x.leader) same x.still_runs))

    pub running_after : running (put w (leader_of w) (in_seat n)) ≡ Some e
    running_after = running_of (put w (leader_of w) (in_seat n)) e (leader_of w) runs_after

    pub sequence_after : sequence_of (member (put w (leader_of w) (in_seat n)) (leader_of w)) ≡ sequence_of (leading w) ++ chunks
    sequence_after = ap sequence_of member_after ∙ seq

    pub grown_log : IsLog (sequence_of (leading w) ++ chunks)
    grown_log =
        subst IsLog sequence_after
        (open_sequence_log h.opened e (leader_of w) (reigned h.reigns (put w (leader_of w) (in_seat n))) sound_after (runs_reigned h.reigns (put w (leader_of w) (in_seat n)) e (leader_of w) runs_after))

    pub queue_after : queue_by (running (put w (leader_of w) (in_seat n))) (put w (leader_of w) (in_seat n)) ≡ queue_by (running w) w ++ chunks
    queue_after =
        ap (λ (r : Option ℕ). queue_by r (put w (leader_of w) (in_seat n))) running_after
        ∙ ap (drop (length w.committed)) (sequence_after ∙ ap (λ (l : List Chunk). l ++ chunks) front_of.1 ∙ append_assoc w.committed front_of.0 chunks)
        ∙ drop_front w.committed (front_of.0 ++ chunks)
        ∙ ap (λ (l : List Chunk). l ++ chunks) (sym rest_is)

    -- as those that use it see it the chunks are queued
    pub view_after : (p : PassesState) → viewed w.committed (queue_by (running (put w (leader_of w) (in_seat n))) (put w (leader_of w) (in_seat n))) (running (put w (leader_of w) (in_seat n))) p ≡ viewed w.committed (queue_by (running w) w ++ chunks) (running w) p
    view_after p =
        ap (λ (q : List Chunk). viewed w.committed q (running (put w (leader_of w) (in_seat n))) p) queue_after
        ∙ ap (λ (r : Option ℕ). viewed w.committed (queue_by (running w) w ++ chunks) r p) (running_after ∙ sym run)

    waits_on_at : (x : Waits) → OfferAwaits w x → OfferAwaits (put w (leader_of w) (in_seat n)) x
    waits_on_at x a =
        (on_the_way h.opened h.reigns h.reigns w (put w (leader_of w) (in_seat n)) is_sound any x a).1 (leader_of w) a.past
        (subst (λ (i : ℕ). RunsWith (put w (leader_of w) (in_seat n)) i (leader_of w)) (sym (of_running x a)) runs_after)

    pub all_wait_on : (xs : List Waits) → AllByRecursion (OfferAwaits w) xs → AllByRecursion (OfferAwaits (put w (leader_of w) (in_seat n))) xs
    all_wait_on xs a = each_map (OfferAwaits w) (OfferAwaits (put w (leader_of w) (in_seat n))) waits_on_at xs a

    -- what is true of the sequence now waits, or stands
    pub made_after : (Says : List Chunk → Type 0) (end : ℕ) → end ≡ end_of (sequence_of (leading w) ++ chunks) → Says (sequence_of (leading w) ++ chunks)
        → (end ≤ end_of w.committed → Stands Says end w.committed) × (end_of w.committed < end → Awaits Says e end (put w (leader_of w) (in_seat n)))
    made_after Says end is says =
        let w' = put w (leader_of w) (in_seat n) in
        let s' = sequence_of (member w' (leader_of w)) in
        let ends : end_of s' ≡ end = ap end_of sequence_after ∙ sym is in
        let m = claim_made Says h.opened e (leader_of w) (reigned h.reigns w') sound_after (runs_reigned h.reigns w' e (leader_of w) runs_after) (subst Says (sym sequence_after) says) in
        let both = subst (λ (z : ℕ). (z ≤ end_of w.committed → Stands Says z w.committed) × (end_of w.committed < z → Awaits Says e z (reigned h.reigns w'))) ends m in
        (both.0, λ lt. awaits_without Says h.reigns w' e end (both.1 lt))

-- ---- an offer that was taken

ids_as : (items : List Tagged) → map (λ (i : Item). i.id) (items_of items) ≡ map item_id items
ids_as [] = refl
ids_as (t ∷ items) = ap (λ (l : List ℕ). t.id ∷ l) (ids_as items)

entries_as : (items : List Tagged) → map (λ (i : Item). i.entry) (items_of items) ≡ map item_entry items
entries_as [] = refl
entries_as (t ∷ items) = ap (λ (l : List Entry). t.entry ∷ l) (entries_as items)

rising_by : (b : Bool) (item : Item) (l l' : List Item) (n : ℕ) → length l ≤ n → length l' ≤ n → length (cond b (item ∷ l) l') ≤ suc n
rising_by true item l l' n p q = omega (arith, p)
rising_by false item l l' n p q = omega (arith, q)

rising_few : (g : Option ℕ) (items : List Item) → length (rising_from g items) ≤ length items
rising_few g [] = omega arith
rising_few g (item ∷ items) = rising_by (is_new g item.id) item (rising_from (Some item.id) items) (rising_from g items) (length items) (rising_few (Some item.id) items) (rising_few g items)

accepted_few : (name : List ℕ) (list : List Chunk) (items : List Item) → length (accepted name list items) ≤ length items
accepted_few [] list items = omega arith
accepted_few (x ∷ name) list items = rising_few (Greatest (x ∷ name) list) items

caused_as : (name ids ids' : List ℕ) (entries entries' : List Entry) (from end end' : ℕ) (list : List Chunk) → ids ≡ ids' → entries ≡ entries' → end ≡ end' → claims.Caused name ids entries from end list → claims.Caused name ids' entries' from end' list
caused_as name ids ids' entries entries' from end end' list a b d h =
    subst (λ (x : List ℕ). claims.Caused name x entries' from end' list) a (subst (λ (x : List Entry). claims.Caused name ids x from end' list) b (subst (λ (x : ℕ). claims.Caused name ids entries from x list) d h))

put_awaits : (b : Bool) (w' : ClusterState) (c : ℕ) (x : Waits) (s : PassesState) → nat_lt c x.end ≡ b → (c < x.end → OfferAwaits w' x) → AllByRecursion (OfferAwaits w') s.waiting → AllByRecursion (OfferAwaits w') (put_part b x s).waiting
put_awaits true w' c x s e made h = let lt : c < x.end = grind (arith, e) in each_join (OfferAwaits w') s.waiting (x ∷ []) h (made lt, tt)
put_awaits false w' c x s e made h = h

pub record OfferDone (old : ServedState) (p : Pass) (items : List Tagged) (t : Taken) (new : ServedState) : Type 0 where
  pub holds : IsServed new
  pub step : OfferTaken (view_of old) p items t (view_of new)

module _ (old : ServedState) (h : IsServed old) (p : Pass) (items : List Tagged) (now : ℕ) (t : Taken) (given : Given) (n : MemberState) (run : running old.state.cluster ≡ Some p.epoch) (known : Contains old.passes given) (passed : given.pass ≡ p) (short : length given.name ≤ 255) (some : 1 ≤ length items) (few : length items ≤ 1048576) (a : OfferAdded old.limits (leading old.state.cluster) given.name items now t n) where
  pub taken_step : (rs : List Reign) → OfferStep now (reigned rs old.state.cluster) (reigned rs (put old.state.cluster (leader_of old.state.cluster) (in_seat n)))
  taken_step = offer_step old.state.cluster p.epoch (leader_of old.state.cluster) old.limits given.name items now t n (runs_so old.state.cluster p.epoch h.stream run) (leading_log old.state.cluster p.epoch h.stream run) short a

  pub log_after : IsLog (sequence_of (leading old.state.cluster) ++ offer_adds (leading old.state.cluster) given.name items now)
  log_after = grown_log old.state.cluster p.epoch h.stream run now n (offer_adds (leading old.state.cluster) given.name items now) a.added.sequence taken_step

  says : claim_of (wait_of given (end_of (sequence_of (leading old.state.cluster))) t.end items) (sequence_of (leading old.state.cluster) ++ offer_adds (leading old.state.cluster) given.name items now)
  says =
      let m = leading old.state.cluster in
      let right : IsOffer given.name (items_of items) = record { name_fits = omega (arith, short); ids_fit = All-from_recursion IdFits (items_of items) a.ids_fit } in
      let all = sequence_of m ++ offer_adds m given.name items now in
      caused_as given.name (map (λ (i : Item). i.id) (items_of items)) (map item_id items) (map (λ (i : Item). i.entry) (items_of items)) (map item_entry items) (end_of (sequence_of m)) (end_of all) t.end all
      (ids_as items) (entries_as items) (sym a.added.end_is)
      (offer_caused m.promise (stamp_at now) given.name (sequence_of m) (items_of items) right log_after)

  made : (t.end ≤ end_of old.state.cluster.committed → Stands (claim_of (wait_of given (end_of (sequence_of (leading old.state.cluster))) t.end items)) t.end old.state.cluster.committed)
      × (end_of old.state.cluster.committed < t.end → Awaits (claim_of (wait_of given (end_of (sequence_of (leading old.state.cluster))) t.end items)) p.epoch t.end (put old.state.cluster (leader_of old.state.cluster) (in_seat n)))
  made = made_after old.state.cluster p.epoch h.stream run now n (offer_adds (leading old.state.cluster) given.name items now) a.added.sequence taken_step (claim_of (wait_of given (end_of (sequence_of (leading old.state.cluster))) t.end items)) t.end a.added.end_is says

  pub offered_step : OfferTaken (view_of old) p items t (view_of (served old.limits (led_by n old.state) (parts_put (end_of old.state.cluster.committed) (wait_of given (end_of (sequence_of (leading old.state.cluster))) t.end items) (parts_of old))))
  offered_step =
      let m = leading old.state.cluster in
      let c = old.state.cluster.committed in
      let adds = offer_adds m given.name items now in
      let x = wait_of given (end_of (sequence_of m)) t.end items in
      let whole = whole_is old.state.cluster p.epoch h.stream run in
      let queue = queue_by (running old.state.cluster) old.state.cluster in
      let count = length-map items item_id in
      let fewer = accepted_few given.name (sequence_of m) (items_of items) in
      let items_count : length (items_of items) ≡ length items = length-map items item_of in
      let taken_count : t.accepted ≡ length (accepted given.name (sequence_of m) (items_of items)) = a.accepted_is in
      record {
        wait = x;
        took = adds;
        passed = passed;
        known = record { given = known; some = omega (arith, count, some); few = omega (arith, count, few) };
        running = run;
        whole = a.whole;
        ids = refl;
        entries = refl;
        begins = ap end_of (sym whole);
        ends = a.added.end_is ∙ ap (λ (l : List Chunk). end_of (l ++ adds)) (sym whole) ∙ ap end_of (append_assoc c queue adds);
        end_is = refl;
        few = omega (arith, fewer, items_count, taken_count);
        kinds = offer_kinds m given.name items now;
        past_list = past_front old.state.cluster p.epoch h.stream run;
        past_waiting = all_within old.state.cluster p.epoch h.stream run old.waiting h.awaits;
        at_once = λ le. by_name given.name x c (caused_stands given.name x.ids x.entries x.from x.end c h.holds.log (made.0 le));
        new_is = view_after old.state.cluster p.epoch h.stream run now n adds a.added.sequence taken_step (parts_put (end_of c) x (parts_of old)) ∙ put_view (nat_lt (end_of c) t.end) c (queue ++ adds) (running old.state.cluster) x (parts_of old);
      }

  pub offered_done : OfferDone old p items t (served old.limits (led_by n old.state) (parts_put (end_of old.state.cluster.committed) (wait_of given (end_of (sequence_of (leading old.state.cluster))) t.end items) (parts_of old)))
  offered_done =
      let c = old.state.cluster.committed in
      let m = leading old.state.cluster in
      let adds = offer_adds m given.name items now in
      let x = wait_of given (end_of (sequence_of m)) t.end items in
      let new = served old.limits (led_by n old.state) (parts_put (end_of c) x (parts_of old)) in
      let w' = put old.state.cluster (leader_of old.state.cluster) (in_seat n) in
      let of_epoch : given.pass.epoch ≡ p.epoch = ap (λ (y : Pass). y.epoch) passed in
      let waits : end_of c < t.end → OfferAwaits w' x = λ lt. subst (λ (e : ℕ). Awaits (claim_of x) e t.end w') (sym of_epoch) (made.1 lt) in
      let on = all_wait_on old.state.cluster p.epoch h.stream run now n adds a.added.sequence taken_step old.waiting h.awaits in
      record {
        holds = record {
          stream = stream_after old.state.cluster p.epoch h.stream run now n adds a.added.sequence taken_step;
          holds = offered_holds (view_of old) (view_of new) [] p items t h.holds offered_step;
          awaits = put_awaits (nat_lt (end_of c) t.end) w' (end_of c) x (parts_of old) refl waits on;
        };
        step = offered_step;
      }

-- ---- an offset that was stored

both : (a b : Bool) → (a && b) ≡ true → (a ≡ true) × (b ≡ true)
both true true h = (refl, refl)
both true false h = absurd (cc h)
both false b h = absurd (cc h)

less : (a b : ℕ) → nat_lt a b ≡ true → a < b
less a b h = grind (arith, h)

name_parts : (name : Option (List ℕ)) → names_one name ≡ true → (name ≡ Some (name_of name)) × (1 ≤ length (name_of name)) × (length (name_of name) ≤ 255)
name_parts None h = absurd (cc h)
name_parts (Some bytes) h =
    let q = both (nat_lt 0 (length bytes)) (nat_lt (length bytes) 256) h in
    let some = less 0 (length bytes) q.0 in
    let few = less (length bytes) 256 q.1 in
    (refl, omega (arith, some), omega (arith, few))

pub record OffsetDone (old : ServedState) (name : Option (List ℕ)) (offset : ℕ) (t : Taken) (new : ServedState) : Type 0 where
  pub holds : IsServed new
  pub step : OffsetTaken (view_of old) name offset t (view_of new)

module _ (old : ServedState) (h : IsServed old) (name : Option (List ℕ)) (offset now : ℕ) (t : Taken) (e : ℕ) (n : MemberState) (run : running old.state.cluster ≡ Some e) (a : OffsetAdded old.limits (leading old.state.cluster) name offset now t n) where
  stores_step : (rs : List Reign) → OfferStep now (reigned rs old.state.cluster) (reigned rs (put old.state.cluster (leader_of old.state.cluster) (in_seat n)))
  stores_step = offset_step old.state.cluster e (leader_of old.state.cluster) old.limits (name_of name) offset now offset_limits t n (runs_so old.state.cluster e h.stream run) (leading_log old.state.cluster e h.stream run) a.added

  pub stored_step : OffsetTaken (view_of old) name offset t (view_of (served old.limits (led_by n old.state) (parts_of old)))
  stored_step =
      let w = old.state.cluster in
      let m = leading w in
      let c = w.committed in
      let bytes = name_of name in
      let adds = offset_adds m bytes offset now in
      let whole = whole_is w e h.stream run in
      let queue = queue_by (running w) w in
      let parts = name_parts name a.named in
      let kinds = offset_kinds m bytes offset now in
      let shape : adds ≡ offset_chunk m.promise (stamp_at now) (end_of (sequence (view_of old))) bytes offset ∷ kinds.0 = kinds.1 ∙ ap (λ (f : ℕ). offset_chunk m.promise (stamp_at now) f bytes offset ∷ kinds.0) (ap end_of (sym whole)) in
      let w' = put w (leader_of w) (in_seat n) in
      record {
        bytes = bytes;
        name_is = parts.0;
        some = parts.1;
        few = parts.2;
        epoch = m.promise;
        running = run ∙ ap Some (sym (runs_so w e h.stream run).promised);
        stamp = stamp_at now;
        snapshots = kinds.0;
        kinds = kinds.2;
        new_is = view_after w e h.stream run now n adds a.added.sequence stores_step (parts_of old) ∙ ap (λ (l : List Chunk). queued l (view_of old)) shape;
        end_is = a.added.end_is ∙ ap (λ (l : List Chunk). end_of (l ++ adds)) (sym whole) ∙ ap end_of (append_assoc c queue adds) ∙ ap (λ (q : List Chunk). end_of (c ++ q)) (sym (queue_after w e h.stream run now n adds a.added.sequence stores_step));
        accepted = a.accepted_is;
      }

  pub stored_done : OffsetDone old name offset t (served old.limits (led_by n old.state) (parts_of old))
  stored_done =
      let w = old.state.cluster in
      let adds = offset_adds (leading w) (name_of name) offset now in
      let new = served old.limits (led_by n old.state) (parts_of old) in
      record {
        holds = record {
          stream = stream_after w e h.stream run now n adds a.added.sequence stores_step;
          holds = stored_holds (view_of old) (view_of new) [] name offset t h.holds stored_step;
          awaits = all_wait_on w e h.stream run now n adds a.added.sequence stores_step old.waiting h.awaits;
        };
        step = stored_step;
      }

-- ---- what is put goes last

pub goes_last : (old : ServedState) (h : IsServed old) (p : Pass) (items : List Tagged) (now : ℕ) (given : Given) (run : running old.state.cluster ≡ Some p.epoch) → Contains old.passes given → given.pass ≡ p → length given.name ≤ 255 → 1 ≤ length items → length items ≤ 1048576
    → GoesLast old.limits (leading old.state.cluster) given items now old.waiting
goes_last old h p items now given run known passed short some few =
    let w = old.state.cluster in
    let seq = sequence_of (leading w) in
    record {
      ends = λ t n a.
          let log = log_after old h p items now t given n run known passed short some few a in
          let grows = end_grows seq (offer_adds (leading w) given.name items now) log in
          let is = a.added.end_is in
          let longer : end_of seq ≤ t.end = omega (arith, grows, is) in
          each_map (λ (x : Waits). x.end ≤ end_of seq) (λ (x : Waits). x.end ≤ t.end) (λ x le. omega (arith, le, longer)) old.waiting (all_within w p.epoch h.stream run old.waiting h.awaits);
      epochs = each_map (λ (x : Waits). x.given.pass.epoch ≡ p.epoch) (λ (x : Waits). x.given.pass.epoch ≡ given.pass.epoch) (λ x e. e ∙ sym (ap (λ (y : Pass). y.epoch) passed)) old.waiting (all_running w p.epoch h.stream run old.waiting h.awaits);
    }
