-- Declarations along a run: their items only grow.
use Rattle.std.proofs.Common.{◌≡◌, ◌+◌, ◌≤◌, ◌⊎◌, ℕ, Bool, List, [], ◌∷◌, ◌++◌, map, Option, Some, None, refl, sym, ap, subst, ◌∙◌, inl, inr, append_assoc, arith}
use Rattle.std.specs.List.{AllByRecursion}
use Rattle.std.proofs.lemmas.List.{append-nil}
use Rattle.chunk_format.specs.declared.entry.Entry.{Entry}
use Rattle.chunk_format.specs.Logs.{tally}
use Rattle.chunk_format.proofs.BareLaws.{tally_join}
use Rattle.command_data.specs.declared.item.Tagged.{Tagged}
use Rattle.list_machine.specs.Items.{IsIn}
use Rattle.list_machine.specs.Streams.{Confirmed, Declaration, items_of, entries_of, unnamed_by, sent_unnamed}
use Rattle.list_machine.specs.Discipline.{IsConfirmed, RunsIn, IsDisciplined, Disciplined}
use Rattle.list_machine.specs.Laws.{IsSentBy}
use Rattle.list_machine.proofs.Lists.{any_front, all_weaker}

-- The declaration has sent more, or as much; what it knew when it began stays.
pub record Grows (old new : Declaration) : Type 0 where
  pub name : new.name ≡ old.name
  pub more : List Tagged
  pub items : items_of new ≡ items_of old ++ more
  pub known : (items_of old ≡ []) ⊎ (new.known ≡ old.known)

abbrev pub AllGrow : List Declaration → List Declaration → Type 0
AllGrow [] new = Unit {0}
AllGrow (d ∷ ds) [] = ⊥
AllGrow (d ∷ ds) (e ∷ es) = Grows d e × AllGrow ds es

pub grows_same : (old new : Declaration) → new.name ≡ old.name → items_of new ≡ items_of old → new.known ≡ old.known → Grows old new
grows_same old new name items known = record { name = name; more = []; items = items ∙ sym (append-nil (items_of old)); known = inr known }

pub grows_self : (d : Declaration) → Grows d d
grows_self d = grows_same d d refl refl refl

pub all_grow_push : (ds more : List Declaration) → AllGrow ds (ds ++ more)
all_grow_push [] more = tt
all_grow_push (d ∷ ds) more = (grows_self d, all_grow_push ds more)

pub all_grow_self : (ds : List Declaration) → AllGrow ds ds
all_grow_self [] = tt
all_grow_self (d ∷ ds) = (grows_self d, all_grow_self ds)

pub all_grow_turned : (before : List Declaration) (d e : Declaration) (after : List Declaration) → Grows d e → AllGrow (before ++ d ∷ after) (before ++ e ∷ after)
all_grow_turned [] d e after g = (g, all_grow_self after)
all_grow_turned (x ∷ before) d e after g = (grows_self x, all_grow_turned before d e after g)

pub all_grow_map : (f : Declaration → Declaration) → ((d : Declaration) → Grows d (f d)) → (ds : List Declaration) → AllGrow ds (map f ds)
all_grow_map f g [] = tt
all_grow_map f g (d ∷ ds) = (g d, all_grow_map f g ds)

-- ---- what a sent item keeps

sent_grows : (name : List ℕ) (old new : List Declaration) (x : Tagged) → AllGrow old new → IsSentBy name old x → IsSentBy name new x
sent_grows name [] new x g s = absurd s
sent_grows name (d ∷ ds) [] x g s = absurd g
sent_grows name (d ∷ ds) (e ∷ es) x g (inl s) = inl (g.0.name ∙ s.0, subst (IsIn x) (sym g.0.items) (any_front (λ (y : Tagged). y ≡ x) (items_of d) g.0.more s.1))
sent_grows name (d ∷ ds) (e ∷ es) x g (inr s) = inr (sent_grows name ds es x g.1 s)

pub all_sent_grow : (name : List ℕ) (old new : List Declaration) (items : List Tagged) → AllGrow old new → AllByRecursion (IsSentBy name old) items → AllByRecursion (IsSentBy name new) items
all_sent_grow name old new items g s = all_weaker (IsSentBy name old) (IsSentBy name new) (λ x. sent_grows name old new x g) items s

pub entries_join : (xs ys : List Tagged) → entries_of (xs ++ ys) ≡ entries_of xs ++ entries_of ys
entries_join [] ys = refl
entries_join (x ∷ xs) ys = ap (λ (l : List Entry). x.entry ∷ l) (entries_join xs ys)

unnamed_grows : (name : Option (List ℕ)) (counts : Entry → Bool) (items more : List Tagged) → tally counts (unnamed_by name items) ≤ tally counts (unnamed_by name (items ++ more))
unnamed_grows None counts items more =
    let e : tally counts (entries_of (items ++ more)) ≡ tally counts (entries_of items) + tally counts (entries_of more) =
    ap (tally counts) (entries_join items more) ∙ tally_join counts (entries_of items) (entries_of more) in
    omega (arith, e)
unnamed_grows (Some name) counts items more = omega arith

unnamed_on : (counts : Entry → Bool) (old new : Declaration) → Grows old new → tally counts (unnamed_by old.name (items_of old)) ≤ tally counts (unnamed_by new.name (items_of new))
unnamed_on counts old new g =
    let h = unnamed_grows old.name counts (items_of old) g.more in
    let a : tally counts (unnamed_by new.name (items_of new)) ≡ tally counts (unnamed_by old.name (items_of new)) = ap (λ (n : Option (List ℕ)). tally counts (unnamed_by n (items_of new))) g.name in
    let b : tally counts (unnamed_by old.name (items_of new)) ≡ tally counts (unnamed_by old.name (items_of old ++ g.more)) = ap (λ (l : List Tagged). tally counts (unnamed_by old.name l)) g.items in
    omega (arith, h, a, b)

pub counts_grow : (counts : Entry → Bool) (old new : List Declaration) → AllGrow old new → tally counts (sent_unnamed old) ≤ tally counts (sent_unnamed new)
counts_grow counts [] new g = omega arith
counts_grow counts (d ∷ ds) [] g = absurd g
counts_grow counts (d ∷ ds) (e ∷ es) g =
    let one = unnamed_on counts d e g.0 in
    let rest = counts_grow counts ds es g.1 in
    let a = tally_join counts (unnamed_by d.name (items_of d)) (sent_unnamed ds) in
    let b = tally_join counts (unnamed_by e.name (items_of e)) (sent_unnamed es) in
    omega (arith, one, rest, a, b)

-- ---- discipline goes back to what was sent before

runs_back : (name : List ℕ) (P : List Tagged) (old new : Declaration) → Grows old new → (items_of new ≡ []) ⊎ RunsIn name P new → (items_of old ≡ []) ⊎ RunsIn name P old
runs_back name P old new g r = elim g.known [
  | inl none ↦ inl none
  | inr same ↦ elim r [
    | inl none ↦ inl (front_nil (items_of old) g.more (sym g.items ∙ none))
    | inr run ↦ inr (record {
      before = run.before;
      behind = g.more ++ run.behind;
      run = run.run ∙ ap (λ (l : List Tagged). (run.before ++ l) ++ run.behind) g.items ∙ regroup run.before (items_of old) g.more run.behind;
      confirmed = subst (λ (k : List Confirmed). AllByRecursion (λ (x : Tagged). IsConfirmed name k x.id) run.before) same run.confirmed;
    })
  ]
]
  where
    front_nil : (xs ys : List Tagged) → xs ++ ys ≡ [] → xs ≡ []
    front_nil [] ys e = refl
    front_nil (x ∷ xs) ys e = absurd cc

    regroup : (a b c d : List Tagged) → (a ++ (b ++ c)) ++ d ≡ (a ++ b) ++ (c ++ d)
    regroup a b c d = simp append_assoc

each_back : (name : List ℕ) (P : List Tagged) (old new : List Declaration) → AllGrow old new
    → AllByRecursion (IsDisciplined name P) new
    → AllByRecursion (IsDisciplined name P) old
each_back name P [] new g h = tt
each_back name P (d ∷ ds) [] g h = absurd g
each_back name P (d ∷ ds) (e ∷ es) g h = ((λ is. runs_back name P d e g.0 (h.0 (g.0.name ∙ is))), each_back name P ds es g.1 h.1)

pub disciplined_back : (name : List ℕ) (P : List Tagged) (old new : List Declaration) → AllGrow old new → Disciplined name P new → Disciplined name P old
disciplined_back name P old new g h = record { rises = h.rises; each = each_back name P old new g h.each }
