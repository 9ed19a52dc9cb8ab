-- Each step keeps the rule of a view's two copies.
use Rattle.std.proofs.Common.{◌≡◌, ◌≢◌, ℕ, List, [], ◌∷◌, ◌++◌, set, Bool, true, false, true≢false, refl, sym, ap, ◌∙◌, subst, ⊎_elim}
use mathlib.Core.Option.{some, some-ne-none}
use lib.ListN.{get_elem?}
use Rattle.crossbeam_utils.specs.Register.{Admits, Turns, TurnsAt}
use Rattle.atomic_table.proofs.Lists.{at_set, at_snoc}
use Rattle.chunk_format.specs.Logs.{GoesOn}
use Rattle.committed_view.specs.declared.shown.Shown.{Shown}
use Rattle.committed_view.specs.declared.shown.View.{View}
use Rattle.committed_view.specs.Published.{Chunks, Published, newest, Later}
use Rattle.committed_view.specs.Rule.{Fits, Keeps, newcomer, writer_of, Looks, Opens, Publishes}
use Rattle.committed_view.proofs.Lists.{later_refl, later_more}

off : false ≡ true → ⊥
off e = true≢false (sym e)

reader_fits : (begun : Bool) (writer : ℕ) (published : Published) (seat : ℕ) (v : View) → v.writes ≡ false → Later v.published published → Fits begun writer published seat v
reader_fits begun writer published seat v reads later = record { beginning = later; all = λ writes. absurd (off (sym reads ∙ writes)) }

-- all fit after one seat's change, where the others did already
set_fits : (begun : Bool) (writer : ℕ) (now : Published) (views : List View) (seat : ℕ) (w : View)
    → ((j : ℕ) (u : View) → j ≢ seat → get_elem? views j ≡ some u → Fits begun writer now j u) → Fits begun writer now seat w
    → (j : ℕ) (u : View) → get_elem? (set views seat w) j ≡ some u → Fits begun writer now j u
set_fits begun writer now views seat w others mine j u e =
    ⊎_elim
    (λ (t : (j ≡ seat) × (w ≡ u)). subst (λ (p : ℕ × View). Fits begun writer now p.0 p.1) (λ i. (sym t.0 i, t.1 i)) mine)
    (λ (t : (j ≢ seat) × (get_elem? views j ≡ some u)). others j u t.0 t.1)
    (at_set views seat j w u e)

pub admits : Admits Keeps newcomer
admits x views k = record {
  writer = k.writer;
  published = k.published;
  grows = k.grows;
  shown = k.shown;
  unopened = k.unopened;
  each = λ j u e. ⊎_elim (λ was. k.each j u was) (λ (same : newcomer ≡ u). subst (Fits x.begun k.writer k.published j) same (reader_fits x.begun k.writer k.published j newcomer refl (k.published, sym (nil_behind k.published)))) (at_snoc views newcomer u j e);
}
  where
    nil_behind : (p : Published) → p ++ [] ≡ p
    nil_behind [] = refl
    nil_behind (l ∷ p) = ap (λ q. l ∷ q) (nil_behind p)

-- a new copy, which nobody but the newcomer sees
pub begins : (x : Shown) → x.chunks.items ≡ [] → Keeps x (newcomer ∷ [])
begins x empty = record {
  writer = 0;
  published = [];
  grows = tt;
  shown = sym empty;
  unopened = λ _. refl;
  each = λ j u e. ⊎_elim (λ (was : get_elem? [] j ≡ some u). absurd (nothing_at j u was)) (λ (same : newcomer ≡ u). subst (Fits x.begun 0 [] j) same (reader_fits x.begun 0 [] j newcomer refl (later_refl []))) (at_snoc [] newcomer u j e);
}
  where
    nothing_at : (j : ℕ) (u : View) → get_elem? [] j ≡ some u → ⊥
    nothing_at j u e = some-ne-none u (sym e)

pub looks : (seat : ℕ) (v : View) → v.writes ≡ false → Turns Keeps seat v (λ x. x) Looks
looks seat v reads x views k at =
    let mine = k.each seat v at in
    let w : View = record { writes = v.writes; published = k.published } in (
      w,
      record {
        writer = k.writer;
        published = k.published;
        grows = k.grows;
        shown = k.shown;
        unopened = k.unopened;
        each = set_fits x.begun k.writer k.published views seat w (λ j u _ e. k.each j u e) (reader_fits x.begun k.writer k.published seat w reads (later_refl k.published));
      },
      record { writes = refl; later = mine.beginning; grows = k.grows; whole = k.shown },
    )

pub opens : (seat : ℕ) (x y : Shown) → x.begun ≡ false → y.chunks.items ≡ [] → y.begun ≡ true → TurnsAt Keeps seat newcomer x y Opens
opens seat x y unopened empty begun views k at =
    let none : k.published ≡ [] = k.unopened unopened in (
      writer_of [],
      record {
        writer = seat;
        published = [];
        grows = tt;
        shown = sym empty;
        unopened = λ no_more. absurd (off (sym no_more ∙ begun));
        each = set_fits y.begun seat [] views seat (writer_of [])
            (λ j u apart e. let was = k.each j u e in record {
              beginning = subst (Later u.published) none was.beginning;
              all = λ writes. absurd (off (sym unopened ∙ (was.all writes).2));
            })
            (record { beginning = later_refl []; all = λ _. (refl, refl, begun) });
      },
      refl,
    )

pub publishes : (seat : ℕ) (v : View) (x y : Shown) → v.writes ≡ true → GoesOn x.chunks.items y.chunks.items → y.begun ≡ true → TurnsAt Keeps seat v x y Publishes
publishes seat v x y writes grow begun views k at =
    let own = (k.each seat v at).all writes in
    let more : GoesOn (newest k.published) y.chunks.items = subst (λ (l : Chunks). GoesOn l y.chunks.items) (sym k.shown) grow in
    let now : Published = y.chunks.items ∷ k.published in
    let same : now ≡ y.chunks.items ∷ v.published = ap (λ p. y.chunks.items ∷ p) (sym own.1) in (
      writer_of (y.chunks.items ∷ v.published),
      record {
        writer = k.writer;
        published = now;
        grows = (more, k.grows);
        shown = refl;
        unopened = λ no_more. absurd (off (sym no_more ∙ begun));
        each = set_fits y.begun k.writer now views seat (writer_of (y.chunks.items ∷ v.published))
            (λ j u apart e. let was = k.each j u e in record {
              beginning = later_more u.published k.published y.chunks.items was.beginning;
              all = λ writes_too. absurd (apart ((was.all writes_too).0 ∙ sym own.0));
            })
            (record { beginning = subst (λ (p : Published). Later p now) same (later_refl now); all = λ _. (own.0, sym same, begun) });
      },
      refl,
    )
