-- What a leader appends may be committed.
use Rattle.std.proofs.Common.{◌≡◌, ◌+◌, ◌≤◌, ℕ, Bool, true, false, cond, List, [], ◌∷◌, ◌++◌, map, Option, Some, None, refl, sym, ap, subst, ◌∙◌, inl, inr, append_assoc, arith}
use Rattle.std.specs.Prelude.{flat_map}
use Rattle.std.specs.List.{AllByRecursion}
use Rattle.std.proofs.lemmas.List.{append-nil}
use Rattle.std.proofs.lemmas.Grind.{flat_map-append}
use Rattle.chunk_format.specs.declared.entry.Entry.{Entry}
use Rattle.chunk_format.specs.declared.chunk.Chunk.{Chunk}
use Rattle.chunk_format.specs.LogRows.{Tag, LogRow, Rows, chunk_rows}
use Rattle.chunk_format.specs.Logs.{bare, bare_of, tally}
use Rattle.chunk_format.proofs.BareLaws.{tally_join}
use Rattle.command_data.specs.declared.item.Tagged.{Tagged}
use Rattle.list_machine.specs.Items.{items_by, AnyByRecursion, IsReached, AreReached, AtMostAsOften}
use Rattle.list_machine.specs.Streams.{Frame, Declaration, Stream, items_of, entries_of, unnamed_by, sent_unnamed}
use Rattle.list_machine.specs.Commits.{SentInOrder, MayFollow, AllFollow, CommitStep}
use Rattle.list_machine.specs.Publishing.{closed, is_unnamed}
use Rattle.list_machine.specs.Leaders.{row_of, bare_row, Appends, AppendsBare, Server, new_server, with_frame, Offers, Did, declared_one, offered, refused_one, elected, ServerStep, ServerRun, SendSame, CommitsNext}
use Rattle.list_machine.proofs.Lists.{own_bytes, any_back, any_all, all_weaker, all_append, all_back, all_turned, all_reached_front, reached_back}
use Rattle.list_machine.proofs.Tagging.{rows_push, tags_append, bare_append}
use Rattle.list_machine.proofs.Growing.{Grows, AllGrow, grows_same, all_grow_push, all_grow_turned, all_grow_map, counts_grow, entries_join}

-- what Commit asks of rows behind those that stand
pub record MayCommit (declarations : List Declaration) (before rows : List LogRow) : Type 0 where
  pub follow : AllFollow declarations before rows
  pub sent : AtMostAsOften (flat_map bare (before ++ rows)) (sent_unnamed declarations)

-- ---- rows that follow

sends_grow : (tag : Tag) (entry : Entry) (before : List LogRow) (old new : Declaration) → Grows old new → SentInOrder tag entry before old → SentInOrder tag entry before new
sends_grow tag entry before old new g s = record {
  name = g.name ∙ s.name;
  earlier = s.earlier;
  later = s.later ++ g.more;
  items = g.items ∙ ap (λ (l : List Tagged). l ++ g.more) s.items ∙ append_assoc s.earlier _ g.more;
  passed = s.passed;
}

any_sends_grow : (tag : Tag) (entry : Entry) (before : List LogRow) (old new : List Declaration) → AllGrow old new → AnyByRecursion (SentInOrder tag entry before) old → AnyByRecursion (SentInOrder tag entry before) new
any_sends_grow tag entry before [] new g s = absurd s
any_sends_grow tag entry before (d ∷ ds) [] g s = absurd g
any_sends_grow tag entry before (d ∷ ds) (e ∷ es) g (inl s) = inl (sends_grow tag entry before d e g.0 s)
any_sends_grow tag entry before (d ∷ ds) (e ∷ es) g (inr s) = inr (any_sends_grow tag entry before ds es g.1 s)

may_grow : (old new : List Declaration) → AllGrow old new → (before : List LogRow) (entry : Entry) (tag : Option Tag) → MayFollow old before entry tag → MayFollow new before entry tag
may_grow old new g before entry None m = tt
may_grow old new g before entry (Some tag) m = (m.0, any_sends_grow tag entry before old new g m.1)

pub follow_grows : (old new : List Declaration) → AllGrow old new → (before rows : List LogRow) → AllFollow old before rows → AllFollow new before rows
follow_grows old new g before [] f = tt
follow_grows old new g before (row ∷ rows) f = (may_grow old new g before row.entry row.tag f.0, follow_grows old new g (before ++ row ∷ []) rows f.1)

pub follow_front : (ds : List Declaration) (before xs ys : List LogRow) → AllFollow ds before (xs ++ ys) → AllFollow ds before xs
follow_front ds before [] ys f = tt
follow_front ds before (x ∷ xs) ys f = (f.0, follow_front ds (before ++ x ∷ []) xs ys f.1)

pub follow_back : (ds : List Declaration) (before xs ys : List LogRow) → AllFollow ds before (xs ++ ys) → AllFollow ds (before ++ xs) ys
follow_back ds before [] ys f = subst (λ (l : List LogRow). AllFollow ds l ys) (sym (append-nil before)) f
follow_back ds before (x ∷ xs) ys f = subst (λ (l : List LogRow). AllFollow ds l ys) (append_assoc before (x ∷ []) xs) (follow_back ds (before ++ x ∷ []) xs ys f.1)

pub follow_append : (ds : List Declaration) (before xs ys : List LogRow) → AllFollow ds before xs → AllFollow ds (before ++ xs) ys → AllFollow ds before (xs ++ ys)
follow_append ds before [] ys f g = subst (λ (l : List LogRow). AllFollow ds l ys) (append-nil before) g
follow_append ds before (x ∷ xs) ys f g = (f.0, follow_append ds (before ++ x ∷ []) xs ys f.1 (subst (λ (l : List LogRow). AllFollow ds l ys) (sym (append_assoc before (x ∷ []) xs)) g))

-- ---- a frame of a publisher with a name

tags_own : (name : List ℕ) (before : List LogRow) (offset : ℕ) (x : Tagged) → items_by name (before ++ row_of offset name x ∷ []) ≡ items_by name before ++ x ∷ []
tags_own name before offset x =
    tags_append name before (row_of offset name x ∷ [])
    ∙ ap (λ (b : Bool). items_by name before ++ (cond b (x ∷ []) [] ++ [])) (own_bytes name)

pub record Appended (ds : List Declaration) (name : List ℕ) (one : Declaration) (before rows : List LogRow) : Type 0 where
  pub follow : AllFollow ds before rows
  pub reached : AreReached (items_by name (before ++ rows)) (items_of one)
  pub untagged : flat_map bare rows ≡ []

appends_follow : (ds : List Declaration) (one : Declaration) → ((P : Declaration → Type 0) → P one → AnyByRecursion P ds) → (name : List ℕ) → one.name ≡ Some name → (done items : List Tagged) (before rows : List LogRow)
    → items_of one ≡ done ++ items → AreReached (items_by name before) done → Appends name before items rows → Appended ds name one before rows
appends_follow ds one there name is done [] before rows e reached appends =
    subst (Appended ds name one before) (sym appends) (record {
      follow = tt;
      reached = subst (λ (l : List LogRow). AreReached (items_by name l) (items_of one)) (sym (append-nil before)) (subst (AreReached (items_by name before)) (sym (e ∙ append-nil done)) reached);
      untagged = refl;
    })
appends_follow ds one there name is done (x ∷ items) before rows e reached (inl left) =
    appends_follow ds one there name is (done ++ x ∷ []) items before rows (e ∙ sym (append_assoc done (x ∷ []) items))
    (all_append (λ (y : Tagged). IsReached (items_by name before) y.id) done (x ∷ []) reached (left.0, tt)) left.1
appends_follow ds one there name is done (x ∷ items) before rows e reached (inr right) =
    let row = row_of right.1 name x in
    let tag : Tag = record { name = name; id = x.id } in
    let now : AreReached (items_by name (before ++ row ∷ [])) (done ++ x ∷ []) =
    subst (λ (l : List Tagged). AreReached l (done ++ x ∷ [])) (sym (tags_own name before right.1 x))
    (all_append (λ (y : Tagged). IsReached (items_by name before ++ x ∷ []) y.id) done (x ∷ []) (all_reached_front (items_by name before) (x ∷ []) done reached)
    (reached_back (items_by name before) (x ∷ []) x.id (inl (omega arith)), tt)) in
    let rest = appends_follow ds one there name is (done ++ x ∷ []) items (before ++ row ∷ []) right.2 (e ∙ sym (append_assoc done (x ∷ []) items)) now right.4 in
    subst (Appended ds name one before) (sym right.3) (record {
      follow = ((right.0, there (SentInOrder tag x.entry before) (record { name = is; earlier = done; later = items; items = e; passed = reached })), rest.follow);
      reached = subst (λ (l : List LogRow). AreReached (items_by name l) (items_of one)) (append_assoc before (row ∷ []) right.2) rest.reached;
      untagged = rest.untagged;
    })

-- ---- what holds of a server

pub record Lawful (ds : List Declaration) (rows : List LogRow) : Type 0 where
  pub follow : AllFollow ds [] rows
  pub sent : (counts : Entry → Bool) → tally counts (flat_map bare rows) ≤ tally counts (sent_unnamed ds)

abbrev pub InStep : List LogRow → Declaration → Type 0
InStep rows d = d.stands ≡ true → (name : List ℕ) → d.name ≡ Some name → AreReached (items_by name rows) (items_of d)

pub record ServerHolds (s : Server) : Type 0 where
  pub sequence : Lawful s.declarations s.sequence
  pub sequences : AllByRecursion (Lawful s.declarations) s.sequences
  pub standing : AllByRecursion (InStep s.sequence) s.declarations

lawful_grows : (old new : List Declaration) → AllGrow old new → (rows : List LogRow) → Lawful old rows → Lawful new rows
lawful_grows old new g rows l = record {
  follow = follow_grows old new g [] rows l.follow;
  sent = λ counts. (let a = l.sent counts in let b = counts_grow counts old new g in omega (arith, a, b));
}

lawful_front : (ds : List Declaration) (xs ys : List LogRow) → Lawful ds (xs ++ ys) → Lawful ds xs
lawful_front ds xs ys l = record {
  follow = follow_front ds [] xs ys l.follow;
  sent = λ counts. (let a = l.sent counts in let b : tally counts (flat_map bare (xs ++ ys)) ≡ tally counts (flat_map bare xs) + tally counts (flat_map bare ys) = ap (tally counts) (bare_append xs ys) ∙ tally_join counts (flat_map bare xs) (flat_map bare ys) in omega (arith, a, b));
}

frame_grows : (d : Declaration) (items : List Tagged) (stands : Bool) → Grows d (record d { frames = d.frames ++ record { items = items; waits = true } ∷ []; stands = stands })
frame_grows d items stands = record { name = refl; more = items ++ []; items = flat_map-append (λ (f : Frame). f.items) d.frames _; known = inr refl }

-- ---- rows without tags

-- rows of items without tags
bare_rows : (items : List Tagged) (rows : List LogRow) → AppendsBare items rows → flat_map bare rows ≡ entries_of items
bare_rows [] rows a = ap (flat_map bare) a
bare_rows (x ∷ items) rows a = ap (flat_map bare) a.2 ∙ ap (λ (l : List Entry). x.entry ∷ l) (bare_rows items a.1 a.3)

follow_bare : (ds : List Declaration) (before : List LogRow) (items : List Tagged) (rows : List LogRow) → AppendsBare items rows → AllFollow ds before rows
follow_bare ds before [] rows a = subst (AllFollow ds before) (sym a) tt
follow_bare ds before (x ∷ items) rows a = subst (AllFollow ds before) (sym a.2) (tt, follow_bare ds (before ++ bare_row a.0 x ∷ []) items a.1 a.3)

count_split : (counts : Entry → Bool) (before : List Declaration) (d : Declaration) (after : List Declaration)
    → tally counts (sent_unnamed (before ++ d ∷ after)) ≡ tally counts (sent_unnamed before) + tally counts (unnamed_by d.name (items_of d)) + tally counts (sent_unnamed after)
count_split counts before d after =
    let a : tally counts (sent_unnamed (before ++ d ∷ after)) ≡ tally counts (sent_unnamed before) + tally counts (sent_unnamed (d ∷ after)) =
    ap (tally counts) (flat_map-append (λ (d : Declaration). unnamed_by d.name (items_of d)) before (d ∷ after)) ∙ tally_join counts (sent_unnamed before) (sent_unnamed (d ∷ after)) in
    let b = tally_join counts (unnamed_by d.name (items_of d)) (sent_unnamed after) in omega (arith, a, b)

count_frame : (counts : Entry → Bool) (d : Declaration) (items : List Tagged) → d.name ≡ None → tally counts (unnamed_by d.name (items_of (with_frame d items))) ≡ tally counts (unnamed_by d.name (items_of d)) + tally counts (entries_of items)
count_frame counts d items none =
    let e : items_of (with_frame d items) ≡ items_of d ++ items = flat_map-append (λ (f : Frame). f.items) d.frames _ ∙ ap (λ (l : List Tagged). items_of d ++ l) (append-nil items) in
    let a : tally counts (entries_of (items_of (with_frame d items))) ≡ tally counts (entries_of (items_of d)) + tally counts (entries_of items) =
    ap (λ (l : List Tagged). tally counts (entries_of l)) e ∙ ap (tally counts) (entries_join (items_of d) items) ∙ tally_join counts (entries_of (items_of d)) (entries_of items) in
    subst (λ (n : Option (List ℕ)). tally counts (unnamed_by n (items_of (with_frame d items))) ≡ tally counts (unnamed_by n (items_of d)) + tally counts (entries_of items)) (sym none) a

-- ---- steps

count_more : (counts : Entry → Bool) (xs ys : List LogRow) → tally counts (flat_map bare (xs ++ ys)) ≡ tally counts (flat_map bare xs) + tally counts (flat_map bare ys)
count_more counts xs ys = ap (tally counts) (bare_append xs ys) ∙ tally_join counts (flat_map bare xs) (flat_map bare ys)

in_step_more : (rows more : List LogRow) (d : Declaration) → InStep rows d → InStep (rows ++ more) d
in_step_more rows more d h stands name is = subst (λ (l : List Tagged). AreReached l (items_of d)) (sym (tags_append name rows more)) (all_reached_front (items_by name rows) (items_by name more) (items_of d) (h stands name is))

-- the new rows follow, and the declaration that sent them is in step with them
pub record Taken (ds : List Declaration) (one : Declaration) (old rows : List LogRow) : Type 0 where
  pub lawful : Lawful ds (old ++ rows)
  pub in_step : InStep (old ++ rows) one

offer_named : (old : Server) (before after : List Declaration) (one : Declaration) (name : List ℕ) (items : List Tagged) (rows : List LogRow) → ServerHolds old → old.declarations ≡ before ++ one ∷ after → one.stands ≡ true → one.name ≡ Some name
    → Appends name old.sequence items rows → Taken (before ++ with_frame one items ∷ after) (with_frame one items) old.sequence rows
offer_named old before after one name items rows h declared stands is appends =
    let ds = before ++ with_frame one items ∷ after in
    let standing = subst (AllByRecursion (InStep old.sequence)) declared h.standing in
    let own : InStep old.sequence one = (all_back (InStep old.sequence) before (one ∷ after) standing).0 in
    let e : items_of (with_frame one items) ≡ items_of one ++ items = flat_map-append (λ (f : Frame). f.items) one.frames _ ∙ ap (λ (l : List Tagged). items_of one ++ l) (append-nil items) in
    let done = appends_follow ds (with_frame one items) (λ P p. any_back P before (with_frame one items ∷ after) (inl p)) name is (items_of one) items old.sequence rows e (own stands name is) appends in
    let lawful : Lawful ds old.sequence = lawful_grows old.declarations ds (subst (λ (l : List Declaration). AllGrow l ds) (sym declared) (all_grow_turned before one (with_frame one items) after (frame_grows one items one.stands))) old.sequence h.sequence in
    record {
      lawful = record {
        follow = follow_append ds [] old.sequence rows lawful.follow done.follow;
        sent = λ counts. (let a = lawful.sent counts in let b = count_more counts old.sequence rows in let z : tally counts (flat_map bare rows) ≡ 0 = ap (tally counts) done.untagged in omega (arith, a, b, z));
      };
      in_step = λ s n i. (let same : name ≡ n = cc (is, i) in subst (λ (k : List ℕ). AreReached (items_by k (old.sequence ++ rows)) (items_of (with_frame one items))) same done.reached);
    }

offer_unnamed : (old : Server) (before after : List Declaration) (one : Declaration) (items : List Tagged) (rows : List LogRow) → ServerHolds old → old.declarations ≡ before ++ one ∷ after → one.name ≡ None
    → AppendsBare items rows → Taken (before ++ with_frame one items ∷ after) (with_frame one items) old.sequence rows
offer_unnamed old before after one items rows h declared none same =
    let ds = before ++ with_frame one items ∷ after in
    let lawful : Lawful ds old.sequence = lawful_grows old.declarations ds (subst (λ (l : List Declaration). AllGrow l ds) (sym declared) (all_grow_turned before one (with_frame one items) after (frame_grows one items one.stands))) old.sequence h.sequence in
    record {
      lawful = record {
        follow = follow_append ds [] old.sequence rows lawful.follow (follow_bare ds old.sequence items rows same);
        sent = λ counts. (
            let a = h.sequence.sent counts in
            let b = count_more counts old.sequence rows in
            let c : tally counts (flat_map bare rows) ≡ tally counts (entries_of items) = ap (tally counts) (bare_rows items rows same) in
            let d : tally counts (sent_unnamed old.declarations) ≡ tally counts (sent_unnamed (before ++ one ∷ after)) = ap (λ (l : List Declaration). tally counts (sent_unnamed l)) declared in
            let e = count_split counts before one after in
            let f = count_split counts before (with_frame one items) after in
            let g = count_frame counts one items none in omega (arith, a, b, c, d, e, f, g));
      };
      in_step = λ s n i. absurd (clash n (sym none ∙ i));
    }
  where
    clash : (n : List ℕ) → None ≡ Some n → ⊥
    clash n e = cc

taken : (old : Server) (items : List Tagged) (rows : List LogRow) (new : Server) (step : Offers old items rows new) → ServerHolds old → Taken (step.before ++ with_frame step.one items ∷ step.after) (with_frame step.one items) old.sequence rows
taken old items rows new step h = elim step.appends [
  | inl named ↦ offer_named old step.before step.after step.one named.0 items rows h step.declared step.stands named.1 named.2
  | inr none ↦ offer_unnamed old step.before step.after step.one items rows h step.declared none.0 none.1
]

offer_holds : (old : Server) (items : List Tagged) (rows : List LogRow) (new : Server) → Offers old items rows new → ServerHolds old → ServerHolds new
offer_holds old items rows new step h =
    let one = with_frame step.one items in
    let ds = step.before ++ one ∷ step.after in
    let t = taken old items rows new step h in
    let g : AllGrow old.declarations ds = subst (λ (l : List Declaration). AllGrow l ds) (sym step.declared) (all_grow_turned step.before step.one one step.after (frame_grows step.one items step.one.stands)) in
    let standing = subst (AllByRecursion (InStep old.sequence)) step.declared h.standing in
    subst ServerHolds (sym step.is) (record {
      sequence = t.lawful;
      sequences = (t.lawful, all_weaker (Lawful old.declarations) (Lawful ds) (λ l x. lawful_grows old.declarations ds g l x) old.sequences h.sequences);
      standing = all_turned (InStep (old.sequence ++ rows)) step.before step.one one step.after (λ x. t.in_step)
          (all_weaker (InStep old.sequence) (InStep (old.sequence ++ rows)) (λ d x. in_step_more old.sequence rows d x) (step.before ++ step.one ∷ step.after) standing);
    })

false_true : false ≡ true → ⊥
false_true e = cc

no_name : (n : Option (List ℕ)) (name : List ℕ) → is_unnamed n ≡ true → n ≡ Some name → ⊥
no_name None name s is = cc
no_name (Some k) name s is = cc

closed_in_step : (rows : List LogRow) (ds : List Declaration) → AllByRecursion (InStep rows) (map closed ds)
closed_in_step rows [] = tt
closed_in_step rows (d ∷ ds) = ((λ s. absurd (false_true s)), closed_in_step rows ds)

server_step : (did : Did) (old new : Server) → ServerStep old did new → ServerHolds old → ServerHolds new
server_step (declared_one d) old new step h =
    let ds = old.declarations ++ d ∷ [] in
    let g : AllGrow old.declarations ds = all_grow_push old.declarations (d ∷ []) in
    let none : items_of d ≡ [] = ap (flat_map (λ (f : Frame). f.items)) step.0 in
    subst ServerHolds (sym step.1) (record {
      sequence = lawful_grows old.declarations ds g old.sequence h.sequence;
      sequences = all_weaker (Lawful old.declarations) (Lawful ds) (λ l x. lawful_grows old.declarations ds g l x) old.sequences h.sequences;
      standing = all_append (InStep old.sequence) old.declarations (d ∷ []) h.standing ((λ s name is. subst (AreReached (items_by name old.sequence)) (sym none) tt), tt);
    })
server_step (offered items rows) old new step h = offer_holds old items rows new step h
server_step refused_one old new step h =
    let one : Declaration = record step.one { stands = is_unnamed step.one.name } in
    let ds = step.before ++ one ∷ step.after in
    let g : AllGrow old.declarations ds = subst (λ (l : List Declaration). AllGrow l ds) (sym step.declared) (all_grow_turned step.before step.one one step.after (grows_same step.one one refl refl refl)) in
    subst ServerHolds (sym step.is) (record {
      sequence = lawful_grows old.declarations ds g old.sequence h.sequence;
      sequences = all_weaker (Lawful old.declarations) (Lawful ds) (λ l x. lawful_grows old.declarations ds g l x) old.sequences h.sequences;
      standing = all_turned (InStep old.sequence) step.before step.one one step.after (λ x s name is. absurd (no_name step.one.name name s is)) (subst (AllByRecursion (InStep old.sequence)) step.declared h.standing);
    })
server_step elected old new step h =
    let ds = map closed old.declarations in
    let g : AllGrow old.declarations ds = all_grow_map closed (λ d. grows_same d (closed d) refl refl refl) old.declarations in
    let both = any_all (λ (l : List LogRow). l ≡ step.log ++ step.rest) (Lawful old.declarations) old.sequences step.was h.sequences in
    let log : Lawful old.declarations step.log = lawful_front old.declarations step.log step.rest (subst (Lawful old.declarations) both.left both.right) in
    subst ServerHolds (sym step.is) (record {
      sequence = lawful_grows old.declarations ds g step.log log;
      sequences = all_weaker (Lawful old.declarations) (Lawful ds) (λ l x. lawful_grows old.declarations ds g l x) old.sequences h.sequences;
      standing = closed_in_step step.log old.declarations;
    })

server_run : (did : List Did) (old new : Server) → ServerRun old did new → ServerHolds old → ServerHolds new
server_run [] old new run h = subst ServerHolds (sym run) h
server_run (d ∷ did) old new run h = server_run did run.0 new run.2 (server_step d old run.0 run.1 h)

new_holds : ServerHolds new_server
new_holds = record { sequence = record { follow = tt; sent = λ counts. omega arith }; sequences = (record { follow = tt; sent = λ counts. omega arith }, tt); standing = tt }

-- each next part of what there is at any time may be committed behind what stands before it
pub may_commit : (did : List Did) (new : Server) (before rows rest : List LogRow) → ServerRun new_server did new → AnyByRecursion (λ (l : List LogRow). l ≡ (before ++ rows) ++ rest) new.sequences → MayCommit new.declarations before rows
may_commit did new before rows rest run was =
    let h = server_run did new_server new run new_holds in
    let both = any_all (λ (l : List LogRow). l ≡ (before ++ rows) ++ rest) (Lawful new.declarations) new.sequences was h.sequences in
    let lawful : Lawful new.declarations (before ++ rows) = lawful_front new.declarations (before ++ rows) rest (subst (Lawful new.declarations) both.left both.right) in
    record { follow = follow_back new.declarations [] before rows lawful.follow; sent = lawful.sent }

items_behind : (one : Declaration) (items : List Tagged) → items_of (with_frame one items) ≡ items_of one ++ items
items_behind one items = flat_map-append (λ (f : Frame). f.items) one.frames _ ∙ ap (λ (l : List Tagged). items_of one ++ l) (append-nil items)

-- a frame of a name that was offered is reached by each list that holds what there was behind it
pub may_confirm : (did : List Did) (old new : Server) (items : List Tagged) (rows rest : List LogRow) (name : List ℕ) → ServerRun new_server did old → (step : Offers old items rows new) → step.one.name ≡ Some name
    → AreReached (items_by name (new.sequence ++ rest)) items
may_confirm did old new items rows rest name run step is =
    let h = server_run did new_server old run new_holds in
    let t = taken old items rows new step h in
    let one = with_frame step.one items in
    let all : AreReached (items_by name (old.sequence ++ rows)) (items_of step.one ++ items) = subst (AreReached (items_by name (old.sequence ++ rows))) (items_behind step.one items) (t.in_step step.stands name is) in
    let own : AreReached (items_by name (old.sequence ++ rows)) items = all_back (λ (x : Tagged). IsReached (items_by name (old.sequence ++ rows)) x.id) (items_of step.one) items all in
    let here : AreReached (items_by name new.sequence) items = subst (λ (l : List LogRow). AreReached (items_by name l) items) (sym (ap (λ (s : Server). s.sequence) step.is)) own in
    subst (λ (l : List Tagged). AreReached l items) (sym (tags_append name new.sequence rest)) (all_reached_front (items_by name new.sequence) (items_by name rest) items here)

-- ---- what is said of the server's declarations holds of those of a stream that send the same

sent_same : (tag : Tag) (entry : Entry) (before : List LogRow) (ds es : List Declaration) → SendSame ds es → AnyByRecursion (SentInOrder tag entry before) ds → AnyByRecursion (SentInOrder tag entry before) es
sent_same tag entry before [] es same s = absurd s
sent_same tag entry before (d ∷ ds) [] same s = absurd same
sent_same tag entry before (d ∷ ds) (e ∷ es) same (inl s) = inl (record { name = sym same.0 ∙ s.name; earlier = s.earlier; later = s.later; items = sym same.1 ∙ s.items; passed = s.passed })
sent_same tag entry before (d ∷ ds) (e ∷ es) same (inr s) = inr (sent_same tag entry before ds es same.2 s)

may_same : (ds es : List Declaration) → SendSame ds es → (before : List LogRow) (entry : Entry) (tag : Option Tag) → MayFollow ds before entry tag → MayFollow es before entry tag
may_same ds es same before entry None m = tt
may_same ds es same before entry (Some tag) m = (m.0, sent_same tag entry before ds es same m.1)

follow_same : (ds es : List Declaration) → SendSame ds es → (before rows : List LogRow) → AllFollow ds before rows → AllFollow es before rows
follow_same ds es same before [] f = tt
follow_same ds es same before (row ∷ rows) f = (may_same ds es same before row.entry row.tag f.0, follow_same ds es same (before ++ row ∷ []) rows f.1)

unnamed_same : (ds es : List Declaration) → SendSame ds es → sent_unnamed ds ≡ sent_unnamed es
unnamed_same [] [] same = refl
unnamed_same [] (e ∷ es) same = absurd same
unnamed_same (d ∷ ds) [] same = absurd same
unnamed_same (d ∷ ds) (e ∷ es) same =
    ap (λ (n : Option (List ℕ)). unnamed_by n (items_of d) ++ sent_unnamed ds) same.0
    ∙ ap (λ (l : List Tagged). unnamed_by e.name l ++ sent_unnamed ds) same.1
    ∙ ap (λ (l : List Entry). unnamed_by e.name (items_of e) ++ l) (unnamed_same ds es same.2)

pub commits_next : (did : List Did) (server : Server) (stream : Stream) (chunk : Chunk) → ServerRun new_server did server → CommitsNext server stream chunk
    → CommitStep stream chunk (record stream { chunks = stream.chunks ++ chunk ∷ []; seen = stream.chunks ++ chunk ∷ [] })
commits_next did server stream chunk run c =
    let may = may_commit did server (Rows stream.chunks) (chunk_rows chunk) c.rest run c.was in
    record {
      is_live = c.is_live;
      is_chunk = c.is_chunk;
      at_end = c.at_end;
      epoch = c.epoch;
      rows = follow_same server.declarations stream.declarations c.same (Rows stream.chunks) (chunk_rows chunk) may.follow;
      bare = λ counts. (
          let a = may.sent counts in
          let b : tally counts (bare_of (stream.chunks ++ chunk ∷ [])) ≡ tally counts (flat_map bare (Rows stream.chunks ++ chunk_rows chunk)) = ap (λ (l : List LogRow). tally counts (flat_map bare l)) (rows_push stream.chunks chunk) in
          let e = ap (tally counts) (unnamed_same server.declarations stream.declarations c.same) in omega (arith, a, b, e));
      stored = c.stored;
      is = refl;
    }
