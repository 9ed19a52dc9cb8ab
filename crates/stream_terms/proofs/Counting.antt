-- What was confirmed to publishers without a name is not more than what stands in the list without a tag.
use Rattle.std.proofs.Common.{◌≡◌, ℕ, ◌+◌, ◌≤◌, Bool, true, false, not, cond, ◌&&◌, List, [], ◌∷◌, ◌++◌, refl, sym, ap, ◌∙◌, arith}
use Rattle.std.specs.List.{flat_map, AllByRecursion}
use Rattle.chunk_format.specs.declared.entry.Entry.{Entry}
use Rattle.chunk_format.specs.declared.chunk.Chunk.{Chunk}
use Rattle.chunk_format.specs.LogRows.{LogRow, Rows}
use Rattle.stream_terms.specs.declared.terms.Waits.{Waits}
use Rattle.chunk_format.specs.Logs.{tally, is_within, bare, bare_within}
use Rattle.stream_terms.specs.Views.{Caused, CausedBy, covers, times, is_name, bare_entries, spent_entries, Counted}
use Rattle.chunk_format.proofs.BareLaws.{tally_join}
use Rattle.stream_terms.proofs.Counts.{tally_cons}

-- the entries of rows in the range of an offer without a name
abbrev pick_by : List ℕ → ℕ → ℕ → List LogRow → List Entry
pick_by name from to rows = bare_entries name (flat_map (bare_within from to) rows)

abbrev pick : List LogRow → Waits → List Entry
pick rows w = pick_by w.given.name w.from w.end rows

abbrev picks : List LogRow → List Waits → List Entry
picks rows ws = flat_map (pick rows) ws

pick_none : (name : List ℕ) (from to : ℕ) → pick_by name from to [] ≡ []
pick_none [] from to = refl
pick_none (x ∷ xs) from to = refl

picks_none : (ws : List Waits) → picks [] ws ≡ []
picks_none [] = refl
picks_none (w ∷ ws) = ap (λ (l : List Entry). l ++ picks [] ws) (pick_none w.given.name w.from w.end) ∙ picks_none ws

-- whether an offer of this name and range covers an offset
abbrev covers_by : List ℕ → ℕ → ℕ → ℕ → Bool
covers_by name from to at = not (is_name name) && is_within from to at

-- what one more row adds to what an offer picks
more_by : (name : List ℕ) (from to : ℕ) (row : LogRow) (rows : List LogRow) → pick_by name from to (row ∷ rows) ≡ cond (covers_by name from to row.offset) (bare row) [] ++ pick_by name from to rows
more_by [] from to row rows = refl
more_by (x ∷ xs) from to row rows = refl

-- the parts of a sum, with one of them known
count_one : (p : Entry → Bool) (b : Bool) (entries more : List Entry) → tally p (cond b entries [] ++ more) ≡ cond b (tally p entries) 0 + tally p more
count_one p true entries more = tally_join p entries more
count_one p false entries more = omega arith

none_by : (b : Bool) (k t : ℕ) → cond b 1 0 + t ≡ 0 → cond b k 0 ≡ 0
none_by true k t h = absurd (omega (arith, h))
none_by false k t h = refl

-- how often a row adds its entries: as often as its offset is covered
adds : (p : Entry → Bool) (row : LogRow) (rows : List LogRow) (ws : List Waits) → times row.offset ws ≡ 0 → tally p (picks (row ∷ rows) ws) ≡ tally p (picks rows ws)
adds p row rows [] h = refl
adds p row rows (w ∷ ws) h =
    let name = w.given.name in
    let b = covers_by name w.from w.end row.offset in
    let here : cond b 1 0 + times row.offset ws ≡ 0 = sym (tally_cons (covers row.offset) w ws) ∙ h in
    let more : times row.offset ws ≡ 0 = omega (arith, here) in
    let rest = adds p row rows ws more in
    let split : tally p (pick (row ∷ rows) w ++ picks (row ∷ rows) ws) ≡ tally p (pick (row ∷ rows) w) + tally p (picks (row ∷ rows) ws) = tally_join p (pick (row ∷ rows) w) (picks (row ∷ rows) ws) in
    let join : tally p (pick rows w ++ picks rows ws) ≡ tally p (pick rows w) + tally p (picks rows ws) = tally_join p (pick rows w) (picks rows ws) in
    let one : tally p (pick (row ∷ rows) w) ≡ cond b (tally p (bare row)) 0 + tally p (pick rows w) = ap (tally p) (more_by name w.from w.end row rows) ∙ count_one p b (bare row) (pick rows w) in
    let zero_here : cond b (tally p (bare row)) 0 ≡ 0 = none_by b (tally p (bare row)) (times row.offset ws) here in
    omega (arith, split, join, one, zero_here, rest)

once_by : (b : Bool) (k t x y z : ℕ) → cond b 1 0 + t ≤ 1 → (t ≡ 0 → y ≡ z) → (t ≤ 1 → y ≤ k + z) → x ≡ cond b k 0 → x + y ≤ k + z
once_by true k t x y z h none once e = let zero_t : t ≡ 0 = omega (arith, h) in let same = none zero_t in omega (arith, same, e)
once_by false k t x y z h none once e = let small : t ≤ 1 = omega (arith, h) in let less = once small in omega (arith, less, e)

once : (p : Entry → Bool) (row : LogRow) (rows : List LogRow) (ws : List Waits) → times row.offset ws ≤ 1 → tally p (picks (row ∷ rows) ws) ≤ tally p (bare row) + tally p (picks rows ws)
once p row rows [] h = omega arith
once p row rows (w ∷ ws) h =
    let name = w.given.name in
    let b = covers_by name w.from w.end row.offset in
    let split : tally p (pick (row ∷ rows) w ++ picks (row ∷ rows) ws) ≡ tally p (pick (row ∷ rows) w) + tally p (picks (row ∷ rows) ws) = tally_join p (pick (row ∷ rows) w) (picks (row ∷ rows) ws) in
    let join : tally p (pick rows w ++ picks rows ws) ≡ tally p (pick rows w) + tally p (picks rows ws) = tally_join p (pick rows w) (picks rows ws) in
    let one : tally p (pick (row ∷ rows) w) ≡ cond b (tally p (bare row)) 0 + tally p (pick rows w) = ap (tally p) (more_by name w.from w.end row rows) ∙ count_one p b (bare row) (pick rows w) in
    let whole = tally_cons (covers row.offset) w ws in
    let here : cond b 1 0 + times row.offset ws ≤ 1 = omega (arith, h, whole) in
    let less = once_by b (tally p (bare row)) (times row.offset ws) (cond b (tally p (bare row)) 0) (tally p (picks (row ∷ rows) ws)) (tally p (picks rows ws)) here (adds p row rows ws) (once p row rows ws) refl in
    omega (arith, split, join, one, less)

within : (p : Entry → Bool) (ws : List Waits) (rows : List LogRow) → ((at : ℕ) → times at ws ≤ 1) → tally p (picks rows ws) ≤ tally p (flat_map bare rows)
within p ws [] h = let none : tally p (picks [] ws) ≡ 0 = ap (tally p) (picks_none ws) in omega (arith, none)
within p ws (row ∷ rows) h =
    let first = once p row rows ws (h row.offset) in
    let rest = within p ws rows h in
    let split : tally p (bare row ++ flat_map bare rows) ≡ tally p (bare row) + tally p (flat_map bare rows) = tally_join p (bare row) (flat_map bare rows) in
    omega (arith, first, rest, split)

spent_by : (name : List ℕ) (w : Waits) (chunks : List Chunk) → CausedBy name w chunks → bare_entries name w.entries ≡ pick_by name w.from w.end (Rows chunks)
spent_by [] w chunks c = c
spent_by (x ∷ xs) w chunks c = refl

spent_is : (spent : List Waits) (chunks : List Chunk) → AllByRecursion (Caused chunks) spent → spent_entries spent ≡ picks (Rows chunks) spent
spent_is [] chunks h = refl
spent_is (w ∷ ws) chunks h =
    ap (λ (l : List Entry). l ++ spent_entries ws) (spent_by w.given.name w chunks h.0.by_name) ∙ ap (λ (l : List Entry). pick (Rows chunks) w ++ l) (spent_is ws chunks h.1)

-- the law
pub is_counted : (spent : List Waits) (chunks : List Chunk) → AllByRecursion (Caused chunks) spent → ((at : ℕ) → times at spent ≤ 1) → Counted spent chunks
is_counted spent chunks caused apart p =
    let same : tally p (spent_entries spent) ≡ tally p (picks (Rows chunks) spent) = ap (tally p) (spent_is spent chunks caused) in
    let less = within p spent (Rows chunks) apart in
    omega (arith, same, less)
