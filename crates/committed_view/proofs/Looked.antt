-- What a pass knows after a look.
use Rattle.std.proofs.Common.{◌≡◌, List, [], Bool, true, if◌then◌else◌, refl, sym, ap, subst}
use Rattle.committed_view.specs.declared.shown.Shown.{Shown}
use Rattle.committed_view.specs.declared.shown.View.{View}
use Rattle.committed_view.specs.declared.pass.Place.{Place}
use Rattle.committed_view.specs.Published.{Chunks, Published, Known, Pass, newest, Later, Polls, lent_list}
use Rattle.committed_view.specs.Places.{seen_at, is_inside}
use Rattle.committed_view.specs.Rule.{Looks}
use Rattle.committed_view.specs.Looking.{Enters, Missed}
use Rattle.committed_view.proofs.Lists.{later_goes}

pub missed : (v : View) (x : Shown) (w u : View) → Looks v x x w → u ≡ w → Missed v u
missed v x w u looks is = subst (Missed v) (sym is) (record { writes = looks.writes; later = looks.later; before = later_goes v.published w.published looks.grows looks.later })

polls_known : (published : Published) (told : List Chunks) (w : View) (v : View) → v.published ≡ published → Enters v told w
    → Polls (record { published = published; told = told }) (newest w.published) (record { published = w.published; told = [] })
polls_known published told w v is enters =
    let later : Later published w.published = subst (λ (p : Published). Later p w.published) is enters.later in record {
      whole = refl;
      grows = enters.grows;
      later = later;
      before = later_goes published w.published enters.grows later;
      told = enters.begins;
      none_left = refl;
    }

pub polls : (pass : Pass) (from to : Place) (told left : List Chunks)
    → pass ≡ record { known = record { published = (seen_at from).published; told = told }; lent = is_inside from }
    → is_inside to ≡ true → Enters (seen_at from) told (seen_at to) → left ≡ []
    → Polls pass.known (lent_list (record { known = record { published = (seen_at to).published; told = left }; lent = is_inside to })) (record { published = (seen_at to).published; told = left })
polls pass from to told left is inside enters none =
    subst (λ (k : Known). Polls k (lent (is_inside to)) (after left)) (sym (ap (λ (p : Pass). p.known) is))
    (subst (λ (b : Bool). Polls (before told) (lent b) (after left)) (sym inside)
    (subst (λ (l : List Chunks). Polls (before told) (newest (seen_at to).published) (after l)) (sym none)
    (polls_known (seen_at from).published told (seen_at to) (seen_at from) refl enters)))
  where
    lent : Bool → Chunks
    lent b = if b then newest (seen_at to).published else []

    before : List Chunks → Known
    before told = record { published = (seen_at from).published; told = told }

    after : List Chunks → Known
    after left = record { published = (seen_at to).published; told = left }
