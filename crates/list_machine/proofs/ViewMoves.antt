-- What the view of a stream does is commits and confirms.
use Rattle.std.proofs.Common.{◌≡◌, ℕ, ◌≤◌, ◌⊎◌, max, Bool, true, false, cond, List, [], ◌∷◌, ◌++◌, map, Option, Some, None, refl, sym, ap, subst, ◌∙◌, inl, inr, append_assoc, arith}
use Rattle.std.specs.Prelude.{flat_map}
use Rattle.std.specs.List.{AllByRecursion, reduce}
use Rattle.std.proofs.lemmas.List.{append-nil}
use Rattle.std.proofs.lemmas.Bool.Decides.{leb_tells}
use Rattle.std.proofs.lemmas.Grind.{flat_map-append}
use Rattle.chunk_format.specs.declared.entry.Entry.{Entry}
use Rattle.chunk_format.specs.declared.chunk.Chunk.{Chunk}
use Rattle.chunk_format.specs.Tags.{Tag}
use Rattle.chunk_format.specs.LogRows.{LogRow, Rows, chunk_rows}
use Rattle.chunk_format.specs.Logs.{IsLog, same_name, id_by, Greatest, greater, AtMost, bare_of, tally, chunk_deltas, deltas_of}
use Rattle.chunk_format.proofs.LinkLaws.{linked_behind}
use Rattle.chunk_format.proofs.BareLaws.{tally_join, bare_join}
use Rattle.chunk_format.proofs.NameLaws.{rows_join, deltas_join, reduce_join}
use Rattle.command_data.specs.declared.item.Tagged.{Tagged}
use Rattle.stream_terms.specs.declared.terms.Waits.{Waits}
use Rattle.stream_terms.specs.Views.{StreamView, CausedBy, Caused, bare_entries, spent_entries}
use Rattle.list_machine.specs.Items.{item_by, items_by, items_in, IsReached, AreReached, AtMostAsOften}
use Rattle.list_machine.specs.Streams.{Confirmed, live, Stream, sent_unnamed, confirmed_unnamed, unnamed_by, entries_of}
use Rattle.list_machine.specs.Commits.{AllFollow, WasSent, CommitStep}
use Rattle.list_machine.specs.Publishing.{MayConfirm}
use Rattle.list_machine.specs.Moves.{commits, StreamRun}
use Rattle.list_machine.specs.Sends.{ids_of_items}
use Rattle.list_machine.specs.Joining.{AllSent, committed_all, pass_name, HandsOut}
use Rattle.list_machine.proofs.Lists.{any_front, any_back, all_front, all_back}
use Rattle.list_machine.proofs.Leading.{follow_front, follow_back}

-- ---- commits

-- the parts of a list of which all was sent
rows_parts : (s : Stream) (a b : List Chunk) → AllFollow s.declarations [] (Rows (a ++ b)) → AllFollow s.declarations (Rows a) (Rows b)
rows_parts s a b f = follow_back s.declarations [] (Rows a) (Rows b) (subst (AllFollow s.declarations []) (rows_join a b) f)

front_fewer : (a b : List Chunk) (sent : List Entry) → AtMostAsOften (bare_of (a ++ b)) sent → AtMostAsOften (bare_of a) sent
front_fewer a b sent h counts =
    let all = h counts in
    let e = ap (tally counts) (bare_join a b) ∙ tally_join counts (bare_of a) (bare_of b) in omega (arith, all, e)

commit_one : (s : Stream) (c : Chunk) (cs : List Chunk) → s.life ≡ live → AllSent s (s.chunks ++ c ∷ cs) → CommitStep s c (record s { chunks = s.chunks ++ c ∷ []; seen = s.chunks ++ c ∷ [] })
commit_one s c cs is_live all =
    let link = linked_behind 0 0 s.chunks (c ∷ cs) all.log in
    let whole : s.chunks ++ c ∷ cs ≡ (s.chunks ++ c ∷ []) ++ cs = sym (append_assoc s.chunks (c ∷ []) cs) in
    let rows : AllFollow s.declarations (Rows s.chunks) (Rows (c ∷ cs)) = rows_parts s s.chunks (c ∷ cs) all.rows in
    let stored : AllByRecursion (WasSent s.stored) (deltas_of s.chunks ++ deltas_of (c ∷ cs)) = subst (AllByRecursion (WasSent s.stored)) (deltas_join s.chunks (c ∷ cs)) all.stored in
    record {
      is_live = is_live;
      is_chunk = link.is;
      at_end = link.begins;
      epoch = link.not_before;
      rows = follow_front s.declarations (Rows s.chunks) (chunk_rows c) (Rows cs) rows;
      bare = front_fewer (s.chunks ++ c ∷ []) cs (sent_unnamed s.declarations) (subst (λ (l : List Chunk). AtMostAsOften (bare_of l) (sent_unnamed s.declarations)) whole all.bare);
      stored = all_front (WasSent s.stored) (chunk_deltas c) (deltas_of cs) (all_back (WasSent s.stored) (deltas_of s.chunks) (deltas_of (c ∷ cs)) stored);
      is = refl;
    }

pub commits_all : (s : Stream) (past : List Chunk) → s.life ≡ live → AllSent s (s.chunks ++ past) → StreamRun s (map commits past) (committed_all s past)
commits_all s [] is_live all = refl
commits_all s (c ∷ cs) is_live all =
    let t : Stream = record s { chunks = s.chunks ++ c ∷ []; seen = s.chunks ++ c ∷ [] } in
    let whole : s.chunks ++ c ∷ cs ≡ (s.chunks ++ c ∷ []) ++ cs = sym (append_assoc s.chunks (c ∷ []) cs) in (
      t,
      commit_one s c cs is_live all,
      commits_all t cs is_live (record {
        log = subst IsLog whole all.log;
        rows = subst (λ (l : List Chunk). AllFollow s.declarations [] (Rows l)) whole all.rows;
        bare = subst (λ (l : List Chunk). AtMostAsOften (bare_of l) (sent_unnamed s.declarations)) whole all.bare;
        stored = subst (λ (l : List Chunk). AllByRecursion (WasSent s.stored) (deltas_of l)) whole all.stored;
      }),
    )

-- ---- confirms

-- what is at most the greatest id of a name is at most that of some tag
greater_cases : (id : ℕ) (o p : Option ℕ) → AtMost id (greater o p) → AtMost id o ⊎ AtMost id p
greater_cases id None p h = inr h
greater_cases id (Some a) None h = inl h
greater_cases id (Some a) (Some b) h = elim (le_max id a b h) [ inl x ↦ inl x | inr y ↦ inr y ]
  where
    le_max : (i a b : ℕ) → i ≤ max a b → (i ≤ a) ⊎ (i ≤ b)
    le_max i a b h = elim (leb_tells i a) [ inl x ↦ inl x.1 | inr y ↦ inr (omega (arith, h, y.1)) ]

row_reached : (name : List ℕ) (id : ℕ) (entry : Entry) (tag : Option Tag) → AtMost id (reduce max (id_by name tag)) → IsReached (item_by name entry tag) id
row_reached name id entry None h = absurd h
row_reached name id entry (Some t) h = go (same_name t.name name) h
  where
    go : (b : Bool) → AtMost id (reduce max (cond b (t.id ∷ []) [])) → IsReached (cond b (record { id = t.id; entry = entry } ∷ []) []) id
    go true h = inl h
    go false h = absurd h

rows_reached : (name : List ℕ) (id : ℕ) (rows : List LogRow) → AtMost id (reduce max (flat_map (λ (row : LogRow). id_by name row.tag) rows)) → IsReached (items_by name rows) id
rows_reached name id [] h = absurd h
rows_reached name id (row ∷ rows) h =
    elim (greater_cases id (reduce max (id_by name row.tag)) (reduce max (flat_map (λ (r : LogRow). id_by name r.tag) rows))
    (subst (AtMost id) (reduce_join (id_by name row.tag) (flat_map (λ (r : LogRow). id_by name r.tag) rows)) h)) [
      | inl x ↦ any_front (λ (y : Tagged). id ≤ y.id) (item_by name row.entry row.tag) (items_by name rows) (row_reached name id row.entry row.tag x)
      | inr y ↦ any_back (λ (y : Tagged). id ≤ y.id) (item_by name row.entry row.tag) (items_by name rows) (rows_reached name id rows y)
    ]

all_reached : (name : List ℕ) (chunks : List Chunk) (items : List Tagged) → AllByRecursion (λ (id : ℕ). AtMost id (Greatest name chunks)) (ids_of_items items) → AreReached (items_in name chunks) items
all_reached name chunks [] h = tt
all_reached name chunks (x ∷ items) h = (rows_reached name x.id (Rows chunks) h.0, all_reached name chunks items h.1)

may_by : (s : Stream) (view : StreamView) (spent : List Waits) (w : Waits) (items : List Tagged) (name : List ℕ) → w.given.name ≡ name → HandsOut s view spent w items → CausedBy name w view.chunks
    → AtMostAsOften (spent_entries (spent ++ w ∷ [])) (bare_of view.chunks) → MayConfirm s (pass_name name) items
may_by s view spent w items [] is h caused counted = λ counts.
    let c : Confirmed = record { name = None; items = items } in
    let own : spent_entries (w ∷ []) ≡ w.entries = append-nil (bare_entries w.given.name w.entries) ∙ ap (λ (n : List ℕ). bare_entries n w.entries) is in
    let all : spent_entries (spent ++ w ∷ []) ≡ spent_entries spent ++ w.entries = flat_map-append (λ (x : Waits). bare_entries x.given.name x.entries) spent (w ∷ []) ∙ ap (λ (l : List Entry). spent_entries spent ++ l) own in
    let told : confirmed_unnamed (s.confirmed ++ c ∷ []) ≡ confirmed_unnamed s.confirmed ++ entries_of items =
    flat_map-append (λ (x : Confirmed). unnamed_by x.name x.items) s.confirmed (c ∷ []) ∙ ap (λ (l : List Entry). confirmed_unnamed s.confirmed ++ l) (append-nil (entries_of items)) in
    let same : confirmed_unnamed (s.confirmed ++ c ∷ []) ≡ spent_entries (spent ++ w ∷ []) =
    told ∙ ap (λ (l : List Entry). l ++ entries_of items) h.before ∙ ap (λ (l : List Entry). spent_entries spent ++ l) (sym h.entries) ∙ sym all in
    let a = counted counts in
    let b = ap (tally counts) same in
    let d : tally counts (bare_of s.chunks) ≡ tally counts (bare_of view.chunks) = ap (λ (l : List Chunk). tally counts (bare_of l)) h.chunks in omega (arith, a, b, d)
may_by s view spent w items (byte ∷ bytes) is h caused counted =
    let reached : AreReached (items_in (byte ∷ bytes) view.chunks) items =
    all_reached (byte ∷ bytes) view.chunks items (subst (AllByRecursion (λ (id : ℕ). AtMost id (Greatest (byte ∷ bytes) view.chunks))) h.ids caused) in
    subst (λ (l : List Chunk). AreReached (items_in (byte ∷ bytes) l) items) (sym h.seen) reached

pub may_confirm_handed : (s : Stream) (view : StreamView) (spent : List Waits) (w : Waits) (items : List Tagged) → HandsOut s view spent w items → AtMostAsOften (spent_entries (spent ++ w ∷ [])) (bare_of view.chunks)
    → MayConfirm s (pass_name w.given.name) items
may_confirm_handed s view spent w items h counted =
    let all = all_back (Caused view.chunks) spent (w ∷ []) h.holds.spent_caused in
    may_by s view spent w items w.given.name refl h all.0.by_name counted
