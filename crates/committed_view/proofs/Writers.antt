-- What a publish leaves to the writer.
use Rattle.std.proofs.Common.{◌≡◌, List, [], ◌∷◌, ◌++◌, length, Bool, true, fold, refl, sym, ap, ◌∙◌, subst}
use Rattle.std.specs.Prelude.{Result, Ok, Err, MatchResult, OnOk}
use Rattle.committed_view.specs.declared.shown.Shown.{Shown}
use Rattle.committed_view.specs.declared.shown.View.{View}
use Rattle.committed_view.specs.declared.shown.Batch.{Batch}
use Rattle.committed_view.specs.Published.{Chunks, Published, newest, with_publish}
use Rattle.committed_view.specs.Rule.{writer_of, applied_batch, Opens, Publishes}
use Rattle.committed_view.specs.Writing.{IsWriter, EachKeeps, last_chunks}
use Rattle.committed_view.proofs.Folds.{fold_pending, keeps_pushed}

writer_is : (v : View) (published : Published) (y : Shown) (left : List Batch) → v ≡ writer_of published → newest published ≡ y.chunks.items → y.begun ≡ true → left ≡ [] → IsWriter v y left
writer_is v published y left is shown begun none = record {
  writes = ap (λ (w : View). w.writes) is;
  shown = ap (λ (w : View). newest w.published) is ∙ shown;
  begun = begun;
  undone = subst (EachKeeps (length y.chunks.items)) (sym none) tt;
}

module _ {A E : Type 0} where
  pub opened_is : (r : Result A E) (Off Out : E → Type 0) (v w : View) (x y : Shown) (s : Chunks × Bool) (left : List Batch)
      → MatchResult r (λ _. ((y.chunks.items, y.begun) ≡ s) × (left ≡ [])) Off → MatchResult r (λ _. Opens v x y w) Out
      → s ≡ ([], true) → OnOk r (IsWriter w y left)
  opened_is (Ok u) Off Out v w x y s left values opens is =
      writer_is w [] y left opens (sym (ap (λ (p : Chunks × Bool). p.0) (values.0 ∙ is))) (ap (λ (p : Chunks × Bool). p.1) (values.0 ∙ is)) values.1
  opened_is (Err e) Off Out v w x y s left values opens is = tt

-- what a publish shows, and what its writer then knows
abbrev Values : {A E : Type 0} → Shown → Shown → List Batch → List Batch → Result A E → Type 0
Values x y pending left r = MatchResult r (λ _. ((y.chunks.items, y.begun) ≡ fold applied_batch (x.chunks.items, x.begun) pending) × (left ≡ [])) (λ _. (y ≡ x) × (left ≡ pending))

abbrev Ruled : {A E : Type 0} → View → View → Shown → Shown → Result A E → Type 0
Ruled v w x y r = MatchResult r (λ _. Publishes v x y w) (λ _. w ≡ v)

shown_by : (v : View) (x y : Shown) (pending : List Batch) → IsWriter v x pending → ◌≡◌ {A = Chunks × Bool} (y.chunks.items, y.begun) (fold applied_batch (x.chunks.items, x.begun) pending)
    → ◌≡◌ {A = Chunks × Bool} (y.chunks.items, y.begun) (x.chunks.items ++ last_chunks [] pending, true)
shown_by v x y pending writer is = is ∙ fold_pending x.chunks.items x.begun pending writer.begun writer.undone

module _ {A E : Type 0} (v w : View) (x y : Shown) (pending left : List Batch) where
  pub shown_is : (r : Result A E) → Values x y pending left r → Ruled v w x y r → IsWriter v x pending → IsWriter w y left
  shown_is (Ok u) values ruled writer =
      writer_is w (y.chunks.items ∷ v.published) y left ruled refl (ap (λ (p : Chunks × Bool). p.1) (shown_by v x y pending writer values.0)) values.1
  shown_is (Err e) values ruled writer =
      subst (λ (u : View). IsWriter u y left) (sym ruled) (subst (λ (z : Shown). IsWriter v z left) (sym values.0) (subst (IsWriter v x) (sym values.1) writer))

  pub shown_more : (r : Result A E) → Values x y pending left r → Ruled v w x y r → IsWriter v x pending → OnOk r (w.published ≡ with_publish v.published (last_chunks [] pending))
  shown_more (Ok u) values ruled writer =
      ap (λ (u : View). u.published) ruled
      ∙ (ap (λ (l : Chunks). l ∷ v.published) (ap (λ (p : Chunks × Bool). p.0) (shown_by v x y pending writer values.0))
      ∙ ap (λ (l : Chunks). (l ++ last_chunks [] pending) ∷ v.published) (sym writer.shown))
  shown_more (Err e) values ruled writer = tt

-- one more batch waits
pub pushed : (v : View) (x : Shown) (pending more : List Batch) (batch : Batch) → IsWriter v x pending → batch.keep ≡ length x.chunks.items → more ≡ pending ++ batch ∷ []
    → IsWriter v x more
pushed v x pending more batch writer keeps is = record {
  writes = writer.writes;
  shown = writer.shown;
  begun = writer.begun;
  undone = subst (EachKeeps (length x.chunks.items)) (sym is) (keeps_pushed (length x.chunks.items) pending batch writer.undone keeps);
}

pub ok_then : {A E : Type 0} {P Q : Type 0} (r : Result A E) → (P → Q) → OnOk r P → OnOk r Q
ok_then (Ok u) then p = then p
ok_then (Err e) then p = tt
