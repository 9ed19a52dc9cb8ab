-- What a committed chunk adds to the items of a name, and to the entries without a tag.
use Rattle.std.proofs.Common.{◌≡◌, ℕ, ◌<◌, ◌⊎◌, Bool, true, false, cond, List, [], ◌∷◌, ◌++◌, Option, Some, None, refl, sym, ap, subst, ◌∙◌, inl, inr, append_assoc}
use Rattle.std.specs.List.{AllByRecursion, flat_map}
use Rattle.std.proofs.lemmas.List.{append-nil}
use Rattle.std.proofs.lemmas.Grind.{flat_map-append}
use Rattle.chunk_format.specs.declared.entry.Entry.{Entry}
use Rattle.chunk_format.specs.declared.chunk.Chunk.{Chunk}
use Rattle.chunk_format.specs.LogRows.{Tag, LogRow, chunk_rows, Rows}
use Rattle.chunk_format.specs.Logs.{same_name, bare}
use Rattle.command_data.specs.declared.item.Tagged.{Tagged}
use Rattle.list_machine.specs.Items.{item_by, items_by, AnyByRecursion, IsIn, Rises, IsReached, AreReached}
use Rattle.list_machine.specs.Streams.{Confirmed, Declaration, items_of}
use Rattle.list_machine.specs.Commits.{SentInOrder, MayFollow, AllFollow}
use Rattle.list_machine.specs.Discipline.{IsConfirmed, RunsIn, IsDisciplined, Disciplined}
use Rattle.list_machine.specs.Laws.{IsSentBy}
use Rattle.list_machine.proofs.Lists.{Begins, same_bytes, any_back, any_weaker, any_all, all_weaker, all_append, all_reached_front, rises_push, next_stands}

pub rows_push : (chunks : List Chunk) (chunk : Chunk) → Rows (chunks ++ chunk ∷ []) ≡ Rows chunks ++ chunk_rows chunk
rows_push chunks chunk = flat_map-append chunk_rows chunks (chunk ∷ []) ∙ ap (λ (l : List LogRow). Rows chunks ++ l) (append-nil (chunk_rows chunk))

pub tags_append : (name : List ℕ) (xs ys : List LogRow) → items_by name (xs ++ ys) ≡ items_by name xs ++ items_by name ys
tags_append name xs ys = flat_map-append (λ (row : LogRow). item_by name row.entry row.tag) xs ys

pub tags_more : (name : List ℕ) (chunks : List Chunk) (chunk : Chunk) → items_by name (Rows (chunks ++ chunk ∷ [])) ≡ items_by name (Rows chunks) ++ items_by name (chunk_rows chunk)
tags_more name chunks chunk = ap (items_by name) (rows_push chunks chunk) ∙ tags_append name (Rows chunks) (chunk_rows chunk)

pub bare_append : (xs ys : List LogRow) → flat_map bare (xs ++ ys) ≡ flat_map bare xs ++ flat_map bare ys
bare_append xs ys = flat_map-append bare xs ys

-- the item of a row with this tag
abbrev pub tagged : Tag → Entry → Tagged
tagged tag entry = record { id = tag.id; entry = entry }

-- a row adds its item, or nothing
add_by : (Q : List Tagged → Type 0) (name : List ℕ) (entry : Entry) (t : Tag) (tags : List Tagged) (b : Bool) → same_name t.name name ≡ b → Q tags → (t.name ≡ name → Q (tags ++ tagged t entry ∷ [])) → Q (tags ++ cond b (tagged t entry ∷ []) [])
add_by Q name entry t tags true is q f = f (same_bytes t.name name is)
add_by Q name entry t tags false is q f = subst Q (sym (append-nil tags)) q

add : (Q : List Tagged → Type 0) (name : List ℕ) (entry : Entry) (tag : Option Tag) (tags : List Tagged) → Q tags → ((t : Tag) → tag ≡ Some t → t.name ≡ name → Q (tags ++ tagged t entry ∷ [])) → Q (tags ++ item_by name entry tag)
add Q name entry None tags q f = subst Q (sym (append-nil tags)) q
add Q name entry (Some t) tags q f = add_by Q name entry t tags (same_name t.name name) refl q (f t refl)

-- What holds of the tags before rows and with each next one, holds with all.
pub along : (declarations : List Declaration) (name : List ℕ) (Q : List Tagged → Type 0)
    → ((before : List LogRow) (entry : Entry) (t : Tag) → MayFollow declarations before entry (Some t) → t.name ≡ name → Q (items_by name before) → Q (items_by name before ++ tagged t entry ∷ []))
    → (before rows : List LogRow) → AllFollow declarations before rows → Q (items_by name before) → Q (items_by name (before ++ rows))
along declarations name Q next before [] follow q = subst (λ (l : List LogRow). Q (items_by name l)) (sym (append-nil before)) q
along declarations name Q next before (row ∷ rows) follow q =
    let one : Q (items_by name before ++ item_by name row.entry row.tag) = add Q name row.entry row.tag (items_by name before) q
    (λ t is e. next before row.entry t (subst (MayFollow declarations before row.entry) is follow.0) e q) in
    let with_one : Q (items_by name (before ++ row ∷ [])) =
    subst Q (sym (tags_append name before (row ∷ []) ∙ ap (λ (l : List Tagged). items_by name before ++ l) (append-nil (item_by name row.entry row.tag)))) one in
    subst (λ (l : List LogRow). Q (items_by name l)) (append_assoc before (row ∷ []) rows) (along declarations name Q next (before ++ row ∷ []) rows follow.1 with_one)

pub rises_along : (declarations : List Declaration) (name : List ℕ) (before rows : List LogRow) → AllFollow declarations before rows → Rises (items_by name before) → Rises (items_by name (before ++ rows))
rises_along declarations name before rows follow r =
    along declarations name Rises
    (λ front entry t may e rises. rises_push (items_by name front) (tagged t entry) rises (subst (λ (n : List ℕ). AllByRecursion (λ (x : Tagged). x.id < t.id) (items_by n front)) e may.0))
    before rows follow r

in_middle : (xs ys : List Tagged) (x : Tagged) → AnyByRecursion (λ (y : Tagged). y ≡ x) (xs ++ x ∷ ys)
in_middle xs ys x = any_back (λ (y : Tagged). y ≡ x) xs (x ∷ ys) (inl refl)

-- each tag was sent under its name
pub sent_along : (declarations : List Declaration) (name : List ℕ) (before rows : List LogRow) → AllFollow declarations before rows
    → AllByRecursion (IsSentBy name declarations) (items_by name before) → AllByRecursion (IsSentBy name declarations) (items_by name (before ++ rows))
sent_along declarations name before rows follow r =
    along declarations name (AllByRecursion (IsSentBy name declarations))
    (λ front entry t may e all. all_append (IsSentBy name declarations) (items_by name front) (tagged t entry ∷ []) all (
      any_weaker (SentInOrder t entry front) (λ (d : Declaration). (d.name ≡ Some name) × IsIn (tagged t entry) (items_of d))
          (λ d s. (s.name ∙ ap (λ (n : List ℕ). Some n) e, subst (IsIn (tagged t entry)) (sym s.items) (in_middle s.earlier s.later (tagged t entry))))
          declarations may.1,
      tt,
    ))
    before rows follow r

-- what was confirmed under the name when the declaration began is reached by the tags
abbrev pub Knows : List ℕ → List Tagged → Declaration → Type 0
Knows name tags declaration = AllByRecursion (λ (c : Confirmed). c.name ≡ Some name → AreReached tags c.items) declaration.known

confirmed_reached : (name : List ℕ) (tags : List Tagged) (known : List Confirmed) (id : ℕ) → IsConfirmed name known id → AllByRecursion (λ (c : Confirmed). c.name ≡ Some name → AreReached tags c.items) known → IsReached tags id
confirmed_reached name tags known id is knows =
    let both = any_all (λ (c : Confirmed). (c.name ≡ Some name) × AnyByRecursion (λ (x : Tagged). x.id ≡ id) c.items) (λ (c : Confirmed). c.name ≡ Some name → AreReached tags c.items) known is knows in
    let item = any_all (λ (x : Tagged). x.id ≡ id) (λ (x : Tagged). IsReached tags x.id) both.one.items both.left.1 (both.right both.left.0) in
    subst (IsReached tags) item.left item.right

knows_more : (name : List ℕ) (tags more : List Tagged) (declarations : List Declaration) → AllByRecursion (Knows name tags) declarations → AllByRecursion (Knows name (tags ++ more)) declarations
knows_more name tags more declarations knows =
    all_weaker (Knows name tags) (Knows name (tags ++ more))
    (λ d k. all_weaker (λ (c : Confirmed). c.name ≡ Some name → AreReached tags c.items) (λ (c : Confirmed). c.name ≡ Some name → AreReached (tags ++ more) c.items) (λ c r e. all_reached_front tags more c.items (r e)) d.known k)
    declarations knows

nil_middle : (xs ys : List Tagged) (x : Tagged) → [] ≡ xs ++ x ∷ ys → ⊥
nil_middle [] ys x e = cc
nil_middle (z ∷ xs) ys x e = cc

regroup : (a b c d : List Tagged) (x : Tagged) → (a ++ (b ++ x ∷ c)) ++ d ≡ (a ++ b) ++ x ∷ (c ++ d)
regroup a b c d x = simp append_assoc

abbrev IsOfP : List ℕ → List Tagged → List Tagged → Declaration → Type 0
IsOfP name P tags d = IsDisciplined name P d × Knows name tags d

both_each : (name : List ℕ) (P tags : List Tagged) (ds : List Declaration) → AllByRecursion (IsDisciplined name P) ds → AllByRecursion (Knows name tags) ds → AllByRecursion (IsOfP name P tags) ds
both_each name P tags [] a b = tt
both_each name P tags (d ∷ ds) a b = ((a.0, b.0), both_each name P tags ds a.1 b.1)

-- the next row's item is the next of P
next_of : (name : List ℕ) (P tags : List Tagged) (declarations : List Declaration) (t : Tag) (entry : Entry) → Disciplined name P declarations → AllByRecursion (Knows name tags) declarations → Begins tags P
    → AllByRecursion (λ (x : Tagged). x.id < t.id) tags → (d : Declaration) → d.name ≡ Some name → (earlier later : List Tagged) → items_of d ≡ earlier ++ tagged t entry ∷ later → AreReached tags earlier
    → (items_of d ≡ []) ⊎ RunsIn name P d → Knows name tags d
    → Begins (tags ++ tagged t entry ∷ []) P
next_of name P tags declarations t entry disciplined knows begins above d is earlier later items passed (inl none) own = absurd (nil_middle earlier later (tagged t entry) (sym none ∙ items))
next_of name P tags declarations t entry disciplined knows begins above d is earlier later items passed (inr run) own =
    let e : P ≡ (run.before ++ earlier) ++ tagged t entry ∷ (later ++ run.behind) =
    run.run ∙ ap (λ (l : List Tagged). (run.before ++ l) ++ run.behind) items ∙ regroup run.before earlier later run.behind (tagged t entry) in
    let front : AreReached tags run.before = all_weaker (λ (x : Tagged). IsConfirmed name d.known x.id) (λ (x : Tagged). IsReached tags x.id) (λ x c. confirmed_reached name tags d.known x.id c own) run.before run.confirmed in
    subst (Begins (tags ++ tagged t entry ∷ [])) (sym e)
    (next_stands tags (run.before ++ earlier) (later ++ run.behind) (tagged t entry) (subst Rises e disciplined.rises) (subst (Begins tags) e begins)
    (all_append (λ (x : Tagged). IsReached tags x.id) run.before earlier front passed) above)

abbrev Stands : List ℕ → List Tagged → List Declaration → List Tagged → Type 0
Stands name P declarations tags = Begins tags P × AllByRecursion (Knows name tags) declarations

pub begins_along : (declarations : List Declaration) (name : List ℕ) (P : List Tagged) (before rows : List LogRow) → AllFollow declarations before rows → Disciplined name P declarations
    → AllByRecursion (Knows name (items_by name before)) declarations → Begins (items_by name before) P → Begins (items_by name (before ++ rows)) P
begins_along declarations name P before rows follow disciplined knows begins =
    (along declarations name (Stands name P declarations)
    (λ front entry t may e (b, k).
    let tags = items_by name front in
    let all = both_each name P tags declarations disciplined.each k in
    let both = any_all (SentInOrder t entry front) (IsOfP name P tags) declarations may.1 all in
    let named : both.one.name ≡ Some name = both.left.name ∙ ap (λ (n : List ℕ). Some n) e in (
      next_of name P tags declarations t entry disciplined k b (subst (λ (n : List ℕ). AllByRecursion (λ (x : Tagged). x.id < t.id) (items_by n front)) e may.0)
          both.one named both.left.earlier both.left.later both.left.items (subst (λ (n : List ℕ). AreReached (items_by n front) both.left.earlier) e both.left.passed) (both.right.0 named) both.right.1,
      knows_more name tags (tagged t entry ∷ []) declarations k,
    ))
    before rows follow (begins, knows)).0
