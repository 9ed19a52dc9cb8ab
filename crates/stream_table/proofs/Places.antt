-- The stream of a number in a table.
use Rattle.std.proofs.Common.{◌≡◌, ℕ, zero, suc, ◌<◌, ◌≤◌, List, [], ◌∷◌, length, get_or, Option, Some, None, refl, sym, ap, subst, ◌∙◌, arith, ◌⊎◌, inl, inr}
use Rattle.std.specs.Prelude.{slice_get, slice_set, unwrap_or}
use Rattle.stream_terms.specs.Views.{StreamView, StreamHolds}
use Rattle.hub_terms.specs.Tables.{HubTable, view_at, set_view, view_or, no_view, HoldsFrom, TableHolds}
use Rattle.hub_terms.proofs.TableLaws.{holds_at, holds_set, set_same}

pub none_some : (v : StreamView) → let none : Option StreamView = None in none ≡ Some v → ⊥
none_some v e = cc

-- one stream of a table
pub record At (vs : List StreamView) (stream : ℕ) (old new : StreamView) (ws : List StreamView) : Type 0 where
  pub there : view_at vs stream ≡ Some old
  pub ws_is : ws ≡ set_view vs stream new

pub get_or_there : (xs : List StreamView) (i : ℕ) (d : StreamView) → i < length xs → slice_get xs i ≡ Some (get_or xs i d)
get_or_there [] i d h = absurd (omega (arith, h))
get_or_there (x ∷ xs) zero d h = refl
get_or_there (x ∷ xs) (suc i) d h = get_or_there xs i d (omega (arith, h))

pub at_place : (xs : List StreamView) (stream place : ℕ) (d new : StreamView) → stream ≡ suc place → place < length xs → At xs stream (get_or xs place d) new (slice_set xs place new)
at_place xs stream place d new is inside = record {
  there = ap (view_at xs) is ∙ get_or_there xs place d inside;
  ws_is = ap (λ (n : ℕ). set_view xs n new) (sym is);
}

get_past : (xs : List StreamView) (i : ℕ) → length xs ≤ i → slice_get xs i ≡ None
get_past [] i h = refl
get_past (x ∷ xs) zero h = absurd (omega (arith, h))
get_past (x ∷ xs) (suc i) h = get_past xs i (omega (arith, h))

-- there is none of this number
pub none_at : (xs : List StreamView) (stream : ℕ) → length xs < stream → view_at xs stream ≡ None
none_at xs zero h = absurd (omega (arith, h))
none_at xs (suc i) h = get_past xs i (omega (arith, h))

pub none_zero : (xs : List StreamView) (stream : ℕ) → stream ≡ 0 → view_at xs stream ≡ None
none_zero xs stream h = ap (view_at xs) h

pub absent : (xs : List StreamView) (stream : ℕ) → (stream ≡ 0) ⊎ (length xs < stream) → view_at xs stream ≡ None
absent xs stream (inl h) = none_zero xs stream h
absent xs stream (inr h) = none_at xs stream h

pub holds_view : (vs : List StreamView) (stream : ℕ) (v : StreamView) → HoldsFrom 1 vs → view_at vs stream ≡ Some v → StreamHolds v []
holds_view vs zero v h e = absurd (none_some v e)
holds_view vs (suc i) v h e = holds_at 1 vs i v h e

set_length : (xs : List StreamView) (i : ℕ) (w : StreamView) → length (slice_set xs i w) ≡ length xs
set_length [] i w = refl
set_length (x ∷ xs) zero w = refl
set_length (x ∷ xs) (suc i) w = ap suc (set_length xs i w)

view_length : (vs : List StreamView) (stream : ℕ) (new : StreamView) → length (set_view vs stream new) ≡ length vs
view_length vs zero new = refl
view_length vs (suc i) new = set_length vs i new

holds_new : (vs : List StreamView) (stream : ℕ) (old new : StreamView) → HoldsFrom 1 vs → view_at vs stream ≡ Some old → new.number ≡ old.number → StreamHolds new [] → HoldsFrom 1 (set_view vs stream new)
holds_new vs zero old new h e number holds = h
holds_new vs (suc i) old new h e number holds = holds_set 1 vs i old new h e number holds

-- a table with another stream in one's place
pub holds_with : (t : HubTable) (stream : ℕ) (old new : StreamView) (ws : List StreamView) → TableHolds t → At t.views stream old new ws → new.number ≡ old.number → StreamHolds new [] → TableHolds (record t { views = ws })
holds_with t stream old new ws h at number holds = record {
  views = subst (HoldsFrom 1) (sym at.ws_is) (holds_new t.views stream old new h.views at.there number holds);
  last = h.last ∙ sym (view_length t.views stream new) ∙ ap length (sym at.ws_is);
}

same_views : (vs : List StreamView) (stream : ℕ) (old : StreamView) → view_at vs stream ≡ Some old → set_view vs stream old ≡ vs
same_views vs zero old e = refl
same_views vs (suc i) old e = set_same vs i old e

-- a stream that stays leaves the table as it is
pub still : (t : HubTable) (stream : ℕ) (old new : StreamView) (ws : List StreamView) → At t.views stream old new ws → new ≡ old → record t { views = ws } ≡ t
still t stream old new ws at is =
    let same : ws ≡ t.views = at.ws_is ∙ ap (set_view t.views stream) is ∙ same_views t.views stream old at.there in
    ap (λ (vs : List StreamView). record t { views = vs }) same

pub view_is : (vs : List StreamView) (stream : ℕ) (old : StreamView) → view_at vs stream ≡ Some old → view_or vs stream ≡ old
view_is vs stream old e = ap (λ (o : Option StreamView). unwrap_or o (no_view stream)) e

pub view_none : (vs : List StreamView) (stream : ℕ) → view_at vs stream ≡ None → view_or vs stream ≡ no_view stream
view_none vs stream e = ap (λ (o : Option StreamView). unwrap_or o (no_view stream)) e

pub at_in : (t : HubTable) (vs : List StreamView) (stream : ℕ) (old new : StreamView) (ws : List StreamView) → t.views ≡ vs → At vs stream old new ws → At t.views stream old new ws
at_in t vs stream old new ws is at = record {
  there = ap (λ (l : List StreamView). view_at l stream) is ∙ at.there;
  ws_is = at.ws_is ∙ ap (λ (l : List StreamView). set_view l stream new) (sym is);
}

pub holds_get : (vs : List StreamView) (place : ℕ) (d : StreamView) → HoldsFrom 1 vs → place < length vs → StreamHolds (get_or vs place d) []
holds_get vs place d h inside = holds_at 1 vs place (get_or vs place d) h (get_or_there vs place d inside)
