-- The items of an offer, taken one after the other.
use Rattle.std.proofs.Common.{subst, ◌≡◌, ℕ, zero, suc, ◌-◌, ◌≤◌, ◌<◌, Bool, true, false, cond, List, [], ◌∷◌, ◌++◌, take, drop, length, Option, Some, refl, sym, ap, ◌∙◌, append_assoc, arith}
use Rattle.std.specs.List.{AllByRecursion}
use Rattle.std.proofs.lemmas.List.{append-nil, length-map}
use Rattle.chunk_format.specs.declared.entry.Entry.{Entry}
use Rattle.command_data.specs.declared.item.Tagged.{Tagged}
use Rattle.epoch_coordinator.specs.Offers.{Item, trailer_by}
use Rattle.offer_chunks.specs.declared.run.Run.{Run}
use Rattle.offer_chunks.specs.Taken.{item_of, items_of, entry_of, entries_of, IdFits, tag_for, is_taken, taken_from, IsRun}

-- ---- one item

pub taken_step : (name : List ℕ) (g : Option ℕ) (i : Item) (more : List Item) → taken_from name g (i ∷ more) ≡ cond (is_taken name g i.id) (i ∷ taken_from name (Some i.id) more) (taken_from name g more)
taken_step [] g i more = refl
taken_step (x ∷ name) g i more = refl

pub taken_none : (name : List ℕ) (g : Option ℕ) → taken_from name g [] ≡ []
taken_none [] g = refl
taken_none (x ∷ name) g = refl

pub is_taken_next : (name : List ℕ) (g : Option ℕ) (i : Item) (more : List Item) → is_taken name g i.id ≡ true → taken_from name g (i ∷ more) ≡ i ∷ taken_from name (Some i.id) more
is_taken_next name g i more is = taken_step name g i more ∙ ap (λ (b : Bool). cond b (i ∷ taken_from name (Some i.id) more) (taken_from name g more)) is

pub is_left_out : (name : List ℕ) (g : Option ℕ) (i : Item) (more : List Item) → is_taken name g i.id ≡ false → taken_from name g (i ∷ more) ≡ taken_from name g more
is_left_out name g i more is = taken_step name g i more ∙ ap (λ (b : Bool). cond b (i ∷ taken_from name (Some i.id) more) (taken_from name g more)) is

trailer_more : (name : List ℕ) (i : Item) (more : List Item) → trailer_by name (i ∷ more) ≡ tag_for name i.id ++ trailer_by name more
trailer_more [] i more = refl
trailer_more (x ∷ name) i more = refl

trailer_none : (name : List ℕ) → trailer_by name [] ≡ []
trailer_none [] = refl
trailer_none (x ∷ name) = refl

take_one : (left : ℕ) (i : Item) (more : List Item) → 0 < left → take left (i ∷ more) ≡ i ∷ take (left - 1) more
take_one left i more some = let next : left ≡ suc (left - 1) = omega (arith, some) in ap (λ (n : ℕ). take n (i ∷ more)) next

drop_one : (left : ℕ) (i : Item) (more : List Item) → 0 < left → drop left (i ∷ more) ≡ drop (left - 1) more
drop_one left i more some = let next : left ≡ suc (left - 1) = omega (arith, some) in ap (λ (n : ℕ). drop n (i ∷ more)) next

take_nothing : (n : ℕ) → take {A = Item} n [] ≡ []
take_nothing zero = refl
take_nothing (suc n) = refl

drop_nothing : (n : ℕ) → drop {A = Item} n [] ≡ []
drop_nothing zero = refl
drop_nothing (suc n) = refl

-- ---- a walk

-- What was taken so far, and what would still be taken of the rest, make the run.
pub record Walk (name : List ℕ) (greatest : Option ℕ) (most : ℕ) (items : List Item) (entries : List Entry) (trailer : List ℕ) (last : Option ℕ) (left : ℕ) (rest : List Item) : Type 0 where
  pub entries_are : entries ++ entries_of (take left (taken_from name last rest)) ≡ entries_of (take most (taken_from name greatest items))
  pub trailer_is : trailer ++ trailer_by name (take left (taken_from name last rest)) ≡ trailer_by name (take most (taken_from name greatest items))
  pub behind : drop left (taken_from name last rest) ≡ drop most (taken_from name greatest items)
  pub moved : left < most → length rest < length items
  pub within : length rest ≤ length items
  pub few : left ≤ most
  pub fits : AllByRecursion IdFits rest → AllByRecursion IdFits items
  pub taken_fits : AllByRecursion IdFits (take left (taken_from name last rest)) → AllByRecursion IdFits (take most (taken_from name greatest items))

pub begun : (name : List ℕ) (greatest : Option ℕ) (most : ℕ) (items : List Item) → Walk name greatest most items [] [] greatest most items
begun name greatest most items = record { entries_are = refl; trailer_is = refl; behind = refl; moved = λ less. absurd (omega (arith, less)); within = omega arith; few = omega arith; fits = λ each. each; taken_fits = λ each. each }

pub took : (name : List ℕ) (greatest : Option ℕ) (most : ℕ) (items : List Item) (entries : List Entry) (trailer : List ℕ) (last : Option ℕ) (left : ℕ) (i : Item) (more : List Item) (entries' : List Entry) (trailer' : List ℕ)
    → Walk name greatest most items entries trailer last left (i ∷ more) → is_taken name last i.id ≡ true → IdFits i → 0 < left → entries' ≡ entries ++ entry_of i ∷ [] → trailer' ≡ trailer ++ tag_for name i.id
    → Walk name greatest most items entries' trailer' (Some i.id) (left - 1) more
took name greatest most items entries trailer last left i more entries' trailer' w is fit some e t =
    let kept = taken_from name (Some i.id) more in
    let next = is_taken_next name last i more is in
    let front : take left (taken_from name last (i ∷ more)) ≡ i ∷ take (left - 1) kept = ap (take left) next ∙ take_one left i kept some in
    let back : drop left (taken_from name last (i ∷ more)) ≡ drop (left - 1) kept = ap (drop left) next ∙ drop_one left i kept some in
    let within = w.within in
    let few = w.few in
    record {
      entries_are = ap (λ (l : List Entry). l ++ entries_of (take (left - 1) kept)) e ∙ append_assoc entries (entry_of i ∷ []) (entries_of (take (left - 1) kept))
          ∙ ap (λ (l : List Item). entries ++ entries_of l) (sym front) ∙ w.entries_are;
      trailer_is = ap (λ (l : List ℕ). l ++ trailer_by name (take (left - 1) kept)) t ∙ append_assoc trailer (tag_for name i.id) (trailer_by name (take (left - 1) kept))
          ∙ ap (λ (l : List ℕ). trailer ++ l) (sym (trailer_more name i (take (left - 1) kept))) ∙ ap (λ (l : List Item). trailer ++ trailer_by name l) (sym front) ∙ w.trailer_is;
      behind = sym back ∙ w.behind;
      moved = λ less. omega (arith, within);
      within = omega (arith, within);
      few = omega (arith, few);
      fits = λ each. w.fits (fit, each);
      taken_fits = λ each. w.taken_fits (subst (AllByRecursion IdFits) (sym front) (fit, each));
    }

pub passed : (name : List ℕ) (greatest : Option ℕ) (most : ℕ) (items : List Item) (entries : List Entry) (trailer : List ℕ) (last : Option ℕ) (left : ℕ) (i : Item) (more : List Item)
    → Walk name greatest most items entries trailer last left (i ∷ more) → is_taken name last i.id ≡ false → IdFits i → Walk name greatest most items entries trailer last left more
passed name greatest most items entries trailer last left i more w is fit =
    let out = sym (is_left_out name last i more is) in
    let within = w.within in
    record {
      entries_are = ap (λ (l : List Item). entries ++ entries_of (take left l)) out ∙ w.entries_are;
      trailer_is = ap (λ (l : List Item). trailer ++ trailer_by name (take left l)) out ∙ w.trailer_is;
      behind = ap (drop left) out ∙ w.behind;
      moved = λ less. omega (arith, within);
      within = omega (arith, within);
      few = w.few;
      fits = λ each. w.fits (fit, each);
      taken_fits = λ each. w.taken_fits (subst (λ (l : List Item). AllByRecursion IdFits (take left l)) out each);
    }

-- ---- its end

-- the places that are left take nothing
ended : (name : List ℕ) (greatest : Option ℕ) (most : ℕ) (items : List Item) (run : Run) (left : ℕ) → Walk name greatest most items run.entries run.trailer run.greatest left (items_of run.rest.now)
    → take left (taken_from name run.greatest (items_of run.rest.now)) ≡ [] → drop left (taken_from name run.greatest (items_of run.rest.now)) ≡ taken_from name run.greatest (items_of run.rest.now)
    → (0 < length items → length run.rest.now < length items) → IsRun name greatest most items run
ended name greatest most items run left w none all shorter = record {
  entries_are = sym (append-nil run.entries) ∙ ap (λ (l : List Item). run.entries ++ entries_of l) (sym none) ∙ w.entries_are;
  trailer_is = sym (append-nil run.trailer) ∙ ap (λ (l : List ℕ). run.trailer ++ l) (sym (trailer_none name)) ∙ ap (λ (l : List Item). run.trailer ++ trailer_by name l) (sym none) ∙ w.trailer_is;
  rest_is = sym all ∙ w.behind;
  shorter = shorter;
  taken_fit = w.taken_fits (subst (AllByRecursion IdFits) (sym none) tt);
  ids_fit = w.fits;
}

pub full : (name : List ℕ) (greatest : Option ℕ) (most : ℕ) (items : List Item) (run : Run) (left : ℕ) → Walk name greatest most items run.entries run.trailer run.greatest left (items_of run.rest.now) → left ≡ 0 → 0 < most → IsRun name greatest most items run
full name greatest most items run left w none some =
    let count = length-map run.rest.now item_of in
    let moved = w.moved (omega (arith, none, some)) in
    let kept = taken_from name run.greatest (items_of run.rest.now) in
    ended name greatest most items run left w (ap (λ (n : ℕ). take n kept) none) (ap (λ (n : ℕ). drop n kept) none) (λ any. omega (arith, count, moved))

pub all_seen : (name : List ℕ) (greatest : Option ℕ) (most : ℕ) (items : List Item) (run : Run) (left : ℕ) → Walk name greatest most items run.entries run.trailer run.greatest left (items_of run.rest.now) → run.rest.now ≡ [] → IsRun name greatest most items run
all_seen name greatest most items run left w none =
    let nothing : taken_from name run.greatest (items_of run.rest.now) ≡ [] = ap (λ (l : List Tagged). taken_from name run.greatest (items_of l)) none ∙ taken_none name run.greatest in
    let count : length run.rest.now ≡ 0 = ap length none in
    ended name greatest most items run left w (ap (take left) nothing ∙ take_nothing left) (ap (drop left) nothing ∙ drop_nothing left ∙ sym nothing) (λ any. omega (arith, count, any))

-- ---- whether any is taken

-- the items that were looked at so far are not taken
pub record Looked (name : List ℕ) (g : Option ℕ) (items rest : List Item) : Type 0 where
  pub same : taken_from name g rest ≡ taken_from name g items
  pub fits : AllByRecursion IdFits rest → AllByRecursion IdFits items

pub looked_begun : (name : List ℕ) (g : Option ℕ) (items : List Item) → Looked name g items items
looked_begun name g items = record { same = refl; fits = λ each. each }

pub looked_more : (name : List ℕ) (g : Option ℕ) (items : List Item) (i : Item) (more : List Item) → Looked name g items (i ∷ more) → is_taken name g i.id ≡ false → IdFits i → Looked name g items more
looked_more name g items i more l is fit = record { same = sym (is_left_out name g i more is) ∙ l.same; fits = λ each. l.fits (fit, each) }

pub looked_taken : (name : List ℕ) (g : Option ℕ) (items : List Item) (i : Item) (more : List Item) → Looked name g items (i ∷ more) → is_taken name g i.id ≡ true → 0 < length (taken_from name g items)
looked_taken name g items i more l is = let all = ap length (sym (is_taken_next name g i more is) ∙ l.same) in omega (arith, all)

pub looked_none : (name : List ℕ) (g : Option ℕ) (items rest : List Item) → Looked name g items rest → rest ≡ [] → taken_from name g items ≡ []
looked_none name g items rest l none = sym l.same ∙ ap (taken_from name g) none ∙ taken_none name g

pub looked_fits : (name : List ℕ) (g : Option ℕ) (items rest : List Item) → Looked name g items rest → rest ≡ [] → AllByRecursion IdFits items
looked_fits name g items rest l none = l.fits (subst (AllByRecursion IdFits) (sym none) tt)
