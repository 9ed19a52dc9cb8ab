-- What stands in a log was sent: this stays over all that happens, for a history that grows with offers.
use Rattle.std.proofs.Common.{◌≡◌, ℕ, ◌+◌, ◌*◌, ◌^◌, ◌<◌, ◌≤◌, ◌⊎◌, List, [], ◌∷◌, ◌++◌, length, map, take, drop, refl, sym, ap, ◌∙◌, subst, append_assoc, inl, inr, arith, Option, Some, None, Bool, true, false, cond, zero, suc}
use Rattle.std.specs.Prelude.{ℤ, ◌==◌, nat_lt, max}
use Rattle.std.specs.List.{AllByRecursion, All, flat_map, reduce}
use Rattle.std.proofs.lemmas.List.{append-nil, take-append-drop}
use Rattle.std.proofs.lemmas.Grind.{flat_map-append}
use Rattle.std.proofs.lemmas.List.Elements.{recursion_from_All}
use Rattle.chunk_format.specs.declared.entry.Entry.{Entry}
use Rattle.chunk_format.specs.declared.chunk.Chunk.{Chunk}
use Rattle.chunk_format.specs.Chunks.{entry_records}
use Rattle.chunk_format.specs.Tags.{Tag, DeltaEntry, DeltaSequence, DeltaOffset, tag_bytes, delta_bytes, IsName}
use Rattle.chunk_format.specs.LogRows.{LogRow, Rows, rows_from, chunk_rows, first_tag, after_tag}
use Rattle.chunk_format.specs.ByName.{id_by, Greatest, greater, AtMost, deltas_of}
use Rattle.chunk_format.specs.Logs.{GoesOn, end_of, IsLog, opening_chunk, bare, bare_by, bare_of, tally}
use Rattle.chunk_format.proofs.NameLaws.{same_self, rows_join, reduce_join, deltas_join, at_most_left, at_most_grows}
use Rattle.chunk_format.proofs.RowLaws.{front_tag}
use Rattle.chunk_format.proofs.DeltaRows.{delta_of_chunk, one_delta}
use Rattle.chunk_format.proofs.BareLaws.{tally_join, bare_join}
use Rattle.epoch_coordinator.specs.Offers.{Item, is_new, rising_from, user_chunk, offset_chunk, since_snapshot, snapshot_every, with_snapshot, most_entries, laid, chunk_count, offered_chunks, stored_chunks}
use Rattle.chunk_format.specs.Chunks.{IsChunk}
use Rattle.chunk_format.proofs.LinkLaws.{linked_join}
use Rattle.epoch_coordinator.specs.Members.{sequence_of}
use Rattle.epoch_coordinator.specs.MemberSteps.{stamp_at}
use Rattle.replication_laws.specs.Cluster.{ClusterState, member, RunsWith}
use Rattle.replication_laws.specs.Soundness.{IsSound}
use Rattle.replication_laws.specs.Events.{IsOffer, gets, Offer, StoreOffset, AnyStep, Happens, Takes}
use Rattle.replication_laws.specs.Properties.{IsLogProperty, SoundWith}
use Rattle.replication_laws.proofs.Offerings.{leader_line, offered_goes, gets_sequence}
use Rattle.replication_laws.proofs.Properties.{offer_with}
use Rattle.replication_laws.proofs.Claims.{sequence_log, sequence_stays, running_is, offer_goes_behind}
use Rattle.replication_laws.specs.Histories.{Declaration, History, IsIn, greatest_in, RowSent, RowsSent, OffsetSent, WasSent, IsReached, Grown, sends, with_items, with_bare, with_offset}
use Rattle.replication_laws.proofs.Snapshots.{each_left, each_right, rising_fits}
use Rattle.replication_laws.proofs.Causes.{back_fits, enough, not_new, laid_bare, offer_caused}

-- ---- rows, one after the other

rows_front : (h : History) (before a b : List LogRow) → RowsSent h before (a ++ b) → RowsSent h before a
rows_front h before [] b s = tt
rows_front h before (r ∷ a) b s = (s.0, rows_front h (before ++ r ∷ []) a b s.1)

rows_both : (h : History) (before a b : List LogRow) → RowsSent h before a → RowsSent h (before ++ a) b → RowsSent h before (a ++ b)
rows_both h before [] b s t = subst (λ (l : List LogRow). RowsSent h l b) (append-nil before) t
rows_both h before (r ∷ a) b s t = (s.0, rows_both h (before ++ r ∷ []) a b s.1 (subst (λ (l : List LogRow). RowsSent h l b) (sym (append_assoc before (r ∷ []) a)) t))

untagged_sent : (h : History) (before rows : List LogRow) → AllByRecursion (λ (r : LogRow). r.tag ≡ None) rows → RowsSent h before rows
untagged_sent h before [] none = tt
untagged_sent h before (r ∷ rows) none = (subst (λ (t : Option Tag). RowSent h before t r.entry) (sym none.0) tt, untagged_sent h (before ++ r ∷ []) rows none.1)

all_join : {X : Type 0} (P : X → Type 0) (xs ys : List X) → AllByRecursion P xs → AllByRecursion P ys → AllByRecursion P (xs ++ ys)
all_join P [] ys h k = k
all_join P (x ∷ xs) ys h k = (h.0, all_join P xs ys h.1 k)

all_map : {A : Type 0} (P Q : A → Type 0) → ((x : A) → P x → Q x) → (xs : List A) → AllByRecursion P xs → AllByRecursion Q xs
all_map P Q f [] h = tt
all_map P Q f (x ∷ xs) h = (f x h.0, all_map P Q f xs h.1)

-- what goes behind a log
joined : (h : History) (log chunks : List Chunk) → WasSent h log → ((passes : Entry → Bool) → tally passes (bare_of log) + tally passes (bare_of chunks) ≤ tally passes h.bare)
    → RowsSent h (Rows log) (Rows chunks) → AllByRecursion (OffsetSent h) (deltas_of chunks) → WasSent h (log ++ chunks)
joined h log chunks s bares rows offsets = record {
  bare = λ p. (let e = ap (tally p) (bare_join log chunks) in let t = tally_join p (bare_of log) (bare_of chunks) in let le = bares p in omega (arith, e, t, le));
  rows = subst (RowsSent h []) (sym (rows_join log chunks)) (rows_both h [] (Rows log) (Rows chunks) s.rows rows);
  offsets = subst (AllByRecursion (OffsetSent h)) (sym (deltas_join log chunks)) (all_join (OffsetSent h) (deltas_of log) (deltas_of chunks) s.offsets offsets);
}

-- ---- a property of logs

none_sent : (h : History) → WasSent h []
none_sent h = record { bare = λ p. omega arith; rows = tt; offsets = tt }

front_sent : (h : History) (front log : List Chunk) → GoesOn front log → WasSent h log → WasSent h front
front_sent h front log p s = record {
  bare = λ q. (let e = ap (λ (l : List Chunk). tally q (bare_of l)) p.1 in let j = ap (tally q) (bare_join front p.0) in let t = tally_join q (bare_of front) (bare_of p.0) in let le = s.bare q in omega (arith, e, j, t, le));
  rows = rows_front h [] (Rows front) (Rows p.0) (subst (RowsSent h []) (ap Rows p.1 ∙ rows_join front p.0) s.rows);
  offsets = each_left (OffsetSent h) (deltas_of front) (deltas_of p.0) (subst (AllByRecursion (OffsetSent h)) (ap deltas_of p.1 ∙ deltas_join front p.0) s.offsets);
}

opens_sent : (h : History) (epoch : ℕ) (stamp : ℤ) (log : List Chunk) → WasSent h log → WasSent h (log ++ opening_chunk epoch stamp log ∷ [])
opens_sent h epoch stamp log s = joined h log (opening_chunk epoch stamp log ∷ []) s (λ p. let le = s.bare p in omega (arith, le)) tt tt

pub sent_property : (h : History) → IsLogProperty (WasSent h)
sent_property h = record { none = none_sent h; beginnings = front_sent h; openings = λ epoch stamp log is s. opens_sent h epoch stamp log s }

-- ---- a history that grows

grown_rows : (h h' : History) → Grown h h' → (before rows : List LogRow) → RowsSent h before rows → RowsSent h' before rows
grown_rows h h' g before [] s = tt
grown_rows h h' g before (r ∷ rows) s = (one r.tag s.0, grown_rows h h' g (before ++ r ∷ []) rows s.1)
  where
    one : (t : Option Tag) → RowSent h before t r.entry → RowSent h' before t r.entry
    one None x = tt
    one (Some tag) x =
        let d = g.declarations x.declaration x.is_in in
        record {
          declaration = d.0;
          is_in = d.1;
          name_is = d.2 ∙ x.name_is;
          earlier = x.earlier;
          item = x.item;
          later = x.later ++ d.3.0;
          parts = d.3.1 ∙ (ap (λ (l : List Item). l ++ d.3.0) x.parts ∙ append_assoc x.earlier (x.item ∷ x.later) d.3.0);
          id_is = x.id_is;
          entry_is = x.entry_is;
          reached = x.reached;
        }

grown_offset : (h h' : History) → Grown h h' → (d : DeltaEntry) → OffsetSent h d → OffsetSent h' d
grown_offset h h' g (DeltaSequence name id) s = tt
grown_offset h h' g (DeltaOffset name offset) s = g.offsets (DeltaOffset name offset) s

pub grown_sent : (h h' : History) (log : List Chunk) → Grown h h' → WasSent h log → WasSent h' log
grown_sent h h' log g s = record {
  bare = λ p. (let a = s.bare p in let b = g.bare p in omega (arith, a, b));
  rows = grown_rows h h' g [] (Rows log) s.rows;
  offsets = all_map (OffsetSent h) (OffsetSent h') (grown_offset h h' g) (deltas_of log) s.offsets;
}

in_left : {A : Type 0} (x : A) (xs ys : List A) → IsIn x xs → IsIn x (xs ++ ys)
in_left x [] ys h = absurd h
in_left x (z ∷ zs) ys (inl e) = inl e
in_left x (z ∷ zs) ys (inr h) = inr (in_left x zs ys h)

in_right : {A : Type 0} (x : A) (xs ys : List A) → IsIn x ys → IsIn x (xs ++ ys)
in_right x [] ys h = h
in_right x (z ∷ zs) ys h = inr (in_right x zs ys h)

in_either : {A : Type 0} (x : A) (xs ys : List A) → IsIn x (xs ++ ys) → IsIn x xs ⊎ IsIn x ys
in_either x [] ys h = inr h
in_either x (z ∷ zs) ys (inl e) = inl (inl e)
in_either x (z ∷ zs) ys (inr h) = elim (in_either x zs ys h) [ inl a ↦ inl (inr a) | inr b ↦ inr b ]

pub items_grow : (before : List Declaration) (d : Declaration) (behind : List Declaration) (items : List Item) (h : History) → h.declarations ≡ before ++ d ∷ behind → Grown h (with_items before d behind items h)
items_grow before d behind items h parts = record {
  declarations = λ e i. elim (in_either e before (d ∷ behind) (subst (IsIn e) parts i)) [
    | inl x ↦ (e, in_left e before (sends d items ∷ behind) x, refl, ([], sym (append-nil e.items)))
    | inr (inl x) ↦ (sends d items, in_right (sends d items) before (sends d items ∷ behind) (inl refl), ap (λ (z : Declaration). z.name) (sym x), (items, ap (λ (z : Declaration). z.items ++ items) (sym x)))
    | inr (inr x) ↦ (e, in_right e before (sends d items ∷ behind) (inr x), refl, ([], sym (append-nil e.items)))
  ];
  bare = λ p. omega arith;
  offsets = λ x i. i;
}

same_declaration : (h : History) (d : Declaration) → IsIn d h.declarations → (e : Declaration) × IsIn e h.declarations × (e.name ≡ d.name) × ((more : List Item) × (e.items ≡ d.items ++ more))
same_declaration h d i = (d, i, refl, ([], sym (append-nil d.items)))

bare_grows : (items : List Item) (h : History) → Grown h (with_bare items h)
bare_grows items h = record {
  declarations = λ d i. same_declaration h d i;
  bare = λ p. (let t = tally_join p h.bare (map (λ (i : Item). i.entry) items) in omega (arith, t));
  offsets = λ x i. i;
}

offset_grows : (name : List ℕ) (offset : ℕ) (h : History) → Grown h (with_offset name offset h)
offset_grows name offset h = record {
  declarations = λ d i. same_declaration h d i;
  bare = λ p. omega arith;
  offsets = λ x i. in_left x h.offsets (DeltaOffset name offset ∷ []) i;
}

-- ---- the rows of an offer with a name

-- rows are those of items: one each, in order, with its tag
abbrev RowsOf : List ℕ → List Item → List LogRow → Type 0
RowsOf name [] [] = Unit {0}
RowsOf name [] (r ∷ rows) = ⊥
RowsOf name (i ∷ items) [] = ⊥
RowsOf name (i ∷ items) (r ∷ rows) = (r.tag ≡ Some (record { name = name; id = i.id })) × (r.entry ≡ i.entry) × RowsOf name items rows

of_both : (name : List ℕ) (a b : List Item) (r s : List LogRow) → RowsOf name a r → RowsOf name b s → RowsOf name (a ++ b) (r ++ s)
of_both name [] b [] s h k = k
of_both name [] b (x ∷ r) s h k = absurd h
of_both name (i ∷ a) b [] s h k = absurd h
of_both name (i ∷ a) b (x ∷ r) s h k = (h.0, h.1, of_both name a b r s h.2 k)

abbrev spelled : List ℕ → List Item → List ℕ
spelled name items = flat_map (λ (i : Item). tag_bytes (record { name = name; id = i.id })) items

items_rows : (name : List ℕ) (at : ℕ) (items : List Item) (trailer : List ℕ) → IsName name → AllByRecursion (λ (i : Item). i.id < 2 ^ 64) items → trailer ≡ spelled name items → RowsOf name items (rows_from at (map (λ (i : Item). i.entry) items) trailer)
items_rows name at [] trailer is fits e = tt
items_rows name at (i ∷ items) trailer is fits e =
    let t : Tag = record { name = name; id = i.id } in
    let front = front_tag t (spelled name items) (is, fits.0) in
    (ap first_tag e ∙ front.0, refl, items_rows name (at + entry_records i.entry) items (after_tag trailer) is fits.1 (ap after_tag e ∙ front.1))

chunk_of : (epoch : ℕ) (stamp : ℤ) (x : ℕ) (name : List ℕ) (first : ℕ) (items : List Item) → IsName (x ∷ name) → AllByRecursion (λ (i : Item). i.id < 2 ^ 64) items → RowsOf (x ∷ name) items (Rows (user_chunk epoch stamp (x ∷ name) first items ∷ []))
chunk_of epoch stamp x name first items is fits =
    subst (RowsOf (x ∷ name) items) (sym (append-nil (chunk_rows (user_chunk epoch stamp (x ∷ name) first items)))) (items_rows (x ∷ name) first items (spelled (x ∷ name) items) is fits refl)

-- a snapshot has no rows and stores nothing
with_rows : (list : List Chunk) (c : Chunk) → Rows (with_snapshot list c) ≡ Rows (c ∷ [])
with_rows list c = go (since_snapshot (list ++ c ∷ []) == snapshot_every)
  where
    go : (b : Bool) → Rows (cond b (c ∷ opening_chunk c.epoch c.stamp (list ++ c ∷ []) ∷ []) (c ∷ [])) ≡ Rows (c ∷ [])
    go false = refl
    go true = refl

with_deltas : (list : List Chunk) (c : Chunk) → deltas_of (with_snapshot list c) ≡ deltas_of (c ∷ [])
with_deltas list c = go (since_snapshot (list ++ c ∷ []) == snapshot_every)
  where
    go : (b : Bool) → deltas_of (cond b (c ∷ opening_chunk c.epoch c.stamp (list ++ c ∷ []) ∷ []) (c ∷ [])) ≡ deltas_of (c ∷ [])
    go false = refl
    go true = refl

laid_of : (n epoch : ℕ) (stamp : ℤ) (x : ℕ) (name : List ℕ) (list : List Chunk) (items : List Item) → length items ≤ n * 4096 → IsName (x ∷ name) → AllByRecursion (λ (i : Item). i.id < 2 ^ 64) items
    → RowsOf (x ∷ name) items (Rows (laid n epoch stamp (x ∷ name) list items))
laid_of zero epoch stamp x name list [] h is fits = tt
laid_of zero epoch stamp x name list (i ∷ items) h is fits = absurd (omega (arith, h))
laid_of (suc n) epoch stamp x name list items h is fits =
    let m = x ∷ name in
    let front = take most_entries items in
    let back = drop most_entries items in
    let parts : front ++ back ≡ items = take-append-drop most_entries items in
    let both : AllByRecursion (λ (i : Item). i.id < 2 ^ 64) (front ++ back) = subst (AllByRecursion (λ (i : Item). i.id < 2 ^ 64)) (sym parts) fits in
    let c = user_chunk epoch stamp m (end_of list) front in
    let chunks = with_snapshot list c in
    let more = laid n epoch stamp m (list ++ chunks) back in
    let one : RowsOf m front (Rows chunks) = subst (RowsOf m front) (sym (with_rows list c)) (chunk_of epoch stamp x name (end_of list) front is (each_left (λ (i : Item). i.id < 2 ^ 64) front back both)) in
    let rest = laid_of n epoch stamp x name (list ++ chunks) back (back_fits n items h) is (each_right (λ (i : Item). i.id < 2 ^ 64) front back both) in
    subst (λ (l : List Item). RowsOf m l (Rows (chunks ++ more))) parts (subst (RowsOf m (front ++ back)) (sym (rows_join chunks more)) (of_both m front back (Rows chunks) (Rows more) one rest))

laid_deltas : (n epoch : ℕ) (stamp : ℤ) (name : List ℕ) (list : List Chunk) (items : List Item) → deltas_of (laid n epoch stamp name list items) ≡ []
laid_deltas zero epoch stamp name list items = refl
laid_deltas (suc n) epoch stamp name list items =
    let c = user_chunk epoch stamp name (end_of list) (take most_entries items) in
    let chunks = with_snapshot list c in
    deltas_join chunks (laid n epoch stamp name (list ++ chunks) (drop most_entries items))
    ∙ (ap (λ (l : List DeltaEntry). l ++ deltas_of (laid n epoch stamp name (list ++ chunks) (drop most_entries items))) (with_deltas list c) ∙ laid_deltas n epoch stamp name (list ++ chunks) (drop most_entries items))

-- tagged rows are no entries without a tag
of_bare : (name : List ℕ) (items : List Item) (rows : List LogRow) → RowsOf name items rows → flat_map bare rows ≡ []
of_bare name [] [] h = refl
of_bare name [] (r ∷ rows) h = absurd h
of_bare name (i ∷ items) [] h = absurd h
of_bare name (i ∷ items) (r ∷ rows) h = ap (λ (t : Option Tag). bare_by t r.entry ++ flat_map bare rows) h.0 ∙ of_bare name items rows h.2

one_id : (name : List ℕ) (id : ℕ) → id_by name (Some (record { name = name; id = id })) ≡ id ∷ []
one_id name id = ap (λ (b : Bool). cond b (id ∷ []) []) (same_self name)

greatest_push : (name : List ℕ) (before : List LogRow) (row : LogRow) (id : ℕ) → row.tag ≡ Some (record { name = name; id = id }) → greatest_in name (before ++ row ∷ []) ≡ greater (greatest_in name before) (Some id)
greatest_push name before row id e =
    let ids = flat_map (λ (r : LogRow). id_by name r.tag) before in
    ap (reduce max) (flat_map-append (λ (r : LogRow). id_by name r.tag) before (row ∷ []))
    ∙ (ap (λ (t : Option Tag). reduce max (ids ++ (id_by name t ++ []))) e
    ∙ (ap (λ (l : List ℕ). reduce max (ids ++ (l ++ []))) (one_id name id) ∙ reduce_join ids (id ∷ [])))

greater_new : (g : Option ℕ) (id : ℕ) → is_new g id ≡ true → greater g (Some id) ≡ Some id
greater_new None id h = refl
greater_new (Some n) id h = ap (λ (m : ℕ). Some m) (top n id h)
  where
    top : (a b : ℕ) → nat_lt a b ≡ true → max a b ≡ b
    top a b h = (let lt = less a b h in omega (arith, lt))
      where
        less : (a b : ℕ) → nat_lt a b ≡ true → a < b
        less a b h = grind arith

-- the items that are taken were sent by the declaration, and what it sent before is reached
taken_sent : (h : History) (name : List ℕ) (d : Declaration) → IsIn d h.declarations → d.name ≡ name → (items done : List Item) (before rows : List LogRow) (g : Option ℕ)
    → d.items ≡ done ++ items → AllByRecursion (λ (i : Item). AtMost i.id (greatest_in name before)) done → greatest_in name before ≡ g → RowsOf name (rising_from g items) rows → RowsSent h before rows
taken_sent h name d is named [] done before [] g parts reached top of = tt
taken_sent h name d is named [] done before (r ∷ rows) g parts reached top of = absurd of
taken_sent h name d is named (item ∷ more) done before rows g parts reached top of =
    go (is_new g item.id) refl of (λ rows' before' g' r t o. taken_sent h name d is named more (done ++ item ∷ []) before' rows' g' (parts ∙ sym (append_assoc done (item ∷ []) more)) r t o)
  where
    go : (b : Bool) → is_new g item.id ≡ b → RowsOf name (cond b (item ∷ rising_from (Some item.id) more) (rising_from g more)) rows
        → ((rows' before' : List LogRow) (g' : Option ℕ) → AllByRecursion (λ (i : Item). AtMost i.id (greatest_in name before')) (done ++ item ∷ []) → greatest_in name before' ≡ g' → RowsOf name (rising_from g' more) rows' → RowsSent h before' rows')
        → RowsSent h before rows
    go false e o again =
        again rows before g (all_join (λ (i : Item). AtMost i.id (greatest_in name before)) done (item ∷ []) reached (subst (AtMost item.id) (sym top) (not_new g item.id e), tt)) top o
    go true e o again = by rows o
      where
        by : (rows : List LogRow) → RowsOf name (item ∷ rising_from (Some item.id) more) rows → RowsSent h before rows
        by [] o = absurd o
        by (r ∷ rows) o =
            let now : greatest_in name (before ++ r ∷ []) ≡ Some item.id = greatest_push name before r item.id o.0 ∙ (ap (λ (x : Option ℕ). greater x (Some item.id)) top ∙ greater_new g item.id e) in
            let up : (i : Item) → AtMost i.id (greatest_in name before) → AtMost i.id (greatest_in name (before ++ r ∷ [])) = λ i a.
            subst (AtMost i.id) (sym (greatest_push name before r item.id o.0)) (at_most_left i.id (greatest_in name before) (Some item.id) a) in
            let all : AllByRecursion (λ (i : Item). AtMost i.id (greatest_in name (before ++ r ∷ []))) (done ++ item ∷ []) =
            all_join (λ (i : Item). AtMost i.id (greatest_in name (before ++ r ∷ []))) done (item ∷ [])
            (all_map (λ (i : Item). AtMost i.id (greatest_in name before)) (λ (i : Item). AtMost i.id (greatest_in name (before ++ r ∷ []))) up done reached) (subst (AtMost item.id) (sym now) (omega arith), tt) in (
              subst (λ (t : Option Tag). RowSent h before t r.entry) (sym o.0) (record {
                declaration = d;
                is_in = is;
                name_is = named;
                earlier = done;
                item = item;
                later = more;
                parts = parts;
                id_is = refl;
                entry_is = sym o.1;
                reached = reached;
              }),
              again rows (before ++ r ∷ []) (Some item.id) all now o.2,
            )

-- ---- offers

-- a declaration's offer: what stands was sent, and all that it sent is reached
pub named_sent : (epoch : ℕ) (stamp : ℤ) (d : Declaration) (list : List Chunk) (items : List Item) (h : History) (before behind : List Declaration)
    → 0 < length d.name → IsOffer d.name items → IsLog (list ++ offered_chunks epoch stamp d.name list items) → h.declarations ≡ before ++ d ∷ behind → IsReached d list → WasSent h list
    → WasSent (with_items before d behind items h) (list ++ offered_chunks epoch stamp d.name list items) × IsReached (sends d items) (list ++ offered_chunks epoch stamp d.name list items)
named_sent epoch stamp d list items h before behind some right is parts reached sent = go d.name refl some right is reached
  where
    go : (n : List ℕ) → d.name ≡ n → 0 < length n → IsOffer n items → IsLog (list ++ offered_chunks epoch stamp n list items) → AllByRecursion (λ (i : Item). AtMost i.id (Greatest n list)) d.items
        → WasSent (with_items before d behind items h) (list ++ offered_chunks epoch stamp n list items) × AllByRecursion (λ (i : Item). AtMost i.id (Greatest n (list ++ offered_chunks epoch stamp n list items))) (d.items ++ items)
    go [] e some right is reached = absurd (omega (arith, some))
    go (x ∷ name) e some right is reached =
        let n = x ∷ name in
        let h' = with_items before d behind items h in
        let d' = sends d items in
        let g = Greatest n list in
        let taken = rising_from g items in
        let fits = rising_fits g items (recursion_from_All (λ (i : Item). i.id < 2 ^ 64) items right.ids_fit) in
        let chunks = offered_chunks epoch stamp n list items in
        let small = right.name_fits in
        let of : RowsOf n taken (Rows chunks) = laid_of (chunk_count (length taken)) epoch stamp x name list taken (enough (length taken)) (omega arith, small) fits in
        let old : WasSent h' list = grown_sent h h' list (items_grow before d behind items h parts) sent in
        let none : bare_of chunks ≡ [] = of_bare n taken (Rows chunks) of in
        let caused = offer_caused epoch stamp n list items right is in (
          joined h' list chunks old
              (λ p. let e = ap (tally p) none in let le = old.bare p in omega (arith, e, le))
              (taken_sent h' n d' (in_right d' before (d' ∷ behind) (inl refl)) e items d.items (Rows list) (Rows chunks) g refl reached refl of)
              (subst (AllByRecursion (OffsetSent h')) (sym (laid_deltas (chunk_count (length taken)) epoch stamp n list taken)) tt),
          all_join (λ (i : Item). AtMost i.id (Greatest n (list ++ chunks))) d.items items
              (all_map (λ (i : Item). AtMost i.id (Greatest n list)) (λ (i : Item). AtMost i.id (Greatest n (list ++ chunks))) (λ i a. at_most_grows i.id n list chunks a) d.items reached)
              (of_ids (λ (id : ℕ). AtMost id (Greatest n (list ++ chunks))) items caused),
        )
      where
        of_ids : (P : ℕ → Type 0) (items : List Item) → AllByRecursion P (map (λ (i : Item). i.id) items) → AllByRecursion (λ (i : Item). P i.id) items
        of_ids P [] h = tt
        of_ids P (i ∷ items) h = (h.0, of_ids P items h.1)

-- rows of a trailer without bytes have no tags
none_rows : (at : ℕ) (entries : List Entry) (trailer : List ℕ) → trailer ≡ [] → AllByRecursion (λ (r : LogRow). r.tag ≡ None) (rows_from at entries trailer)
none_rows at [] trailer e = tt
none_rows at (x ∷ es) trailer e = (ap first_tag e, none_rows (at + entry_records x) es (after_tag trailer) (ap after_tag e))

laid_untagged : (n epoch : ℕ) (stamp : ℤ) (list : List Chunk) (items : List Item) → AllByRecursion (λ (r : LogRow). r.tag ≡ None) (Rows (laid n epoch stamp [] list items))
laid_untagged zero epoch stamp list items = tt
laid_untagged (suc n) epoch stamp list items =
    let c = user_chunk epoch stamp [] (end_of list) (take most_entries items) in
    let chunks = with_snapshot list c in
    let more = laid n epoch stamp [] (list ++ chunks) (drop most_entries items) in
    let one : AllByRecursion (λ (r : LogRow). r.tag ≡ None) (Rows chunks) =
    subst (AllByRecursion (λ (r : LogRow). r.tag ≡ None)) (sym (with_rows list c ∙ append-nil (chunk_rows c))) (none_rows (end_of list) (map (λ (i : Item). i.entry) (take most_entries items)) [] refl) in
    subst (AllByRecursion (λ (r : LogRow). r.tag ≡ None)) (sym (rows_join chunks more))
    (all_join (λ (r : LogRow). r.tag ≡ None) (Rows chunks) (Rows more) one (laid_untagged n epoch stamp (list ++ chunks) (drop most_entries items)))

pub bare_sent : (epoch : ℕ) (stamp : ℤ) (list : List Chunk) (items : List Item) (h : History) → WasSent h list → WasSent (with_bare items h) (list ++ offered_chunks epoch stamp [] list items)
bare_sent epoch stamp list items h sent =
    let h' = with_bare items h in
    let n = chunk_count (length items) in
    let chunks = offered_chunks epoch stamp [] list items in
    let old : WasSent h' list = grown_sent h h' list (bare_grows items h) sent in
    let all : bare_of chunks ≡ map (λ (i : Item). i.entry) items = laid_bare n epoch stamp list items (enough (length items)) in
    joined h' list chunks old
    (λ p. let e = ap (tally p) all in let t = tally_join p h.bare (map (λ (i : Item). i.entry) items) in let le = sent.bare p in omega (arith, e, t, le))
    (untagged_sent h' (Rows list) (Rows chunks) (laid_untagged n epoch stamp list items))
    (subst (AllByRecursion (OffsetSent h')) (sym (laid_deltas n epoch stamp [] list items)) tt)

pub offset_sent : (epoch : ℕ) (stamp : ℤ) (name : List ℕ) (offset : ℕ) (list : List Chunk) (h : History) → IsName name → offset < 2 ^ 64 → WasSent h list → WasSent (with_offset name offset h) (list ++ stored_chunks epoch stamp name offset list)
offset_sent epoch stamp name offset list h is fits sent =
    let h' = with_offset name offset h in
    let c = offset_chunk epoch stamp name offset (end_of list) in
    let chunks = stored_chunks epoch stamp name offset list in
    let old : WasSent h' list = grown_sent h h' list (offset_grows name offset h) sent in
    let deltas : deltas_of chunks ≡ DeltaOffset name offset ∷ [] = with_deltas list c ∙ (one_delta c ∙ delta_of_chunk c (delta_bytes (DeltaOffset name offset)) (DeltaOffset name offset) refl refl ((is, fits), refl)) in
    let none : bare_of chunks ≡ [] = ap (flat_map bare) (with_rows list c) in
    joined h' list chunks old
    (λ p. let e = ap (tally p) none in let le = old.bare p in omega (arith, e, le))
    (subst (RowsSent h' (Rows list)) (sym (with_rows list c)) tt)
    (subst (AllByRecursion (OffsetSent h')) (sym deltas) (in_right (DeltaOffset name offset) h.offsets (DeltaOffset name offset ∷ []) (inl refl), tt))

-- ---- along the steps

lifted : (h h' : History) (o : ℕ) (w : ClusterState) → Grown h h' → SoundWith (WasSent h) o w → SoundWith (WasSent h') o w
lifted h h' o w g s = record { tree = s.tree; sound = s.sound; reached = s.reached; canon = λ e. grown_sent h h' (s.tree.canon e) g (s.canon e); each = λ k. grown_sent h h' (sequence_of (member w k)) g (s.each k) }

pub named_step : (o now epoch k : ℕ) (w w' : ClusterState) (d : Declaration) (items : List Item) (h : History) (before behind : List Declaration)
    → 0 < length d.name → SoundWith (WasSent h) o w → RunsWith w epoch k → IsReached d (sequence_of (member w k)) → h.declarations ≡ before ++ d ∷ behind
    → IsOffer d.name items → All IsChunk (offered_chunks epoch (stamp_at now) d.name (sequence_of (member w k)) items) → w' ≡ gets k (offered_chunks epoch (stamp_at now) d.name (sequence_of (member w k)) items) w
    → SoundWith (WasSent (with_items before d behind items h)) o w' × IsReached (sends d items) (sequence_of (member w' k))
named_step o now epoch k w w' d items h before behind some s runs reached parts right all eq =
    let seq = sequence_of (member w k) in
    let stamp = stamp_at now in
    let chunks = offered_chunks epoch stamp d.name seq items in
    let h' = with_items before d behind items h in
    let low = leader_line s.tree w o k s.sound runs.leader_up runs.is_open in
    let promised = runs.promised in
    let on = offered_goes epoch stamp d.name seq items (omega (arith, low, promised)) all in
    let is : IsLog (seq ++ chunks) = linked_join 0 0 seq chunks (sequence_log s.tree w o k s.sound runs.leader_up runs.is_open) on.linked in
    let r = named_sent epoch stamp d seq items h before behind some right is parts reached (s.each k) in
    let line : sequence_of (member w' k) ≡ seq ++ chunks = ap (λ (x : ClusterState). sequence_of (member x k)) eq ∙ gets_sequence s.tree w o epoch k chunks s.sound runs on in (
      offer_with (WasSent h') o now w w' (lifted h h' o w (items_grow before d behind items h parts) s) (Offer epoch k d.name items runs right all eq) (λ q. r.0),
      subst (IsReached (sends d items)) (sym line) r.1,
    )

pub bare_step : (o now epoch k : ℕ) (w w' : ClusterState) (items : List Item) (h : History) → SoundWith (WasSent h) o w → RunsWith w epoch k
    → IsOffer [] items → All IsChunk (offered_chunks epoch (stamp_at now) [] (sequence_of (member w k)) items) → w' ≡ gets k (offered_chunks epoch (stamp_at now) [] (sequence_of (member w k)) items) w → SoundWith (WasSent (with_bare items h)) o w'
bare_step o now epoch k w w' items h s runs right all eq =
    offer_with (WasSent (with_bare items h)) o now w w' (lifted h (with_bare items h) o w (bare_grows items h) s) (Offer epoch k [] items runs right all eq)
    (λ q. bare_sent epoch (stamp_at now) (sequence_of (member w k)) items h (s.each k))

pub offset_step : (o now epoch k : ℕ) (w w' : ClusterState) (name : List ℕ) (offset : ℕ) (h : History) → IsName name → offset < 2 ^ 64 → SoundWith (WasSent h) o w → RunsWith w epoch k
    → All IsChunk (stored_chunks epoch (stamp_at now) name offset (sequence_of (member w k))) → w' ≡ gets k (stored_chunks epoch (stamp_at now) name offset (sequence_of (member w k))) w → SoundWith (WasSent (with_offset name offset h)) o w'
offset_step o now epoch k w w' name offset h is fits s runs all eq =
    offer_with (WasSent (with_offset name offset h)) o now w w' (lifted h (with_offset name offset h) o w (offset_grows name offset h) s) (StoreOffset epoch k name offset runs all eq)
    (λ q. offset_sent epoch (stamp_at now) name offset (sequence_of (member w k)) h is fits (s.each k))

-- what is reached in the open leader's sequence stays so while its epoch runs
pub reached_stays : (o epoch k l : ℕ) (w w' : ClusterState) (d : Declaration) → IsSound o w → AnyStep w w' → RunsWith w epoch k → RunsWith w' epoch l → IsReached d (sequence_of (member w k)) → IsReached d (sequence_of (member w' l))
reached_stays o epoch k l w w' d s (Happens now step) a b h = subst (IsReached d) (sym (sequence_stays o now epoch k l w w' s step a b).1) h
reached_stays o epoch k l w w' d s (Takes now step) a b h =
    let x = offer_goes_behind o now w w' s step in
    let first : x.leader ≡ k = running_is w x.epoch epoch x.leader k x.runs a in
    let last : x.leader ≡ l = running_is w' x.epoch epoch x.leader l x.still_runs b in
    let there : IsReached d (sequence_of (member w x.leader)) = subst (λ (i : ℕ). IsReached d (sequence_of (member w i))) (sym first) h in
    let more : IsReached d (sequence_of (member w x.leader) ++ x.chunks) = all_map (λ (i : Item). AtMost i.id (Greatest d.name (sequence_of (member w x.leader)))) (λ (i : Item). AtMost i.id (Greatest d.name (sequence_of (member w x.leader) ++ x.chunks)))
    (λ i q. at_most_grows i.id d.name (sequence_of (member w x.leader)) x.chunks q) d.items there in
    subst (λ (i : ℕ). IsReached d (sequence_of (member w' i))) last (subst (IsReached d) (sym x.sequence) more)

pub nothing_reached : (name : List ℕ) (log : List Chunk) → IsReached (record { name = name; items = [] }) log
nothing_reached name log = tt
