use Rattle.std.proofs.Common.{◌∷◌, List, slice_get, sym, ◌∙◌, ap, subst}
use Rattle.segment_pairs.proofs.Lifting.{outside_log}
use Rattle.segment_pairs.proofs.Moving.{did_done}
use Rattle.segment_store.specs.declared.rows.ChunkAt.{ChunkAt}
use Rattle.segment_store.specs.Rows.{IsKept}
use Rattle.segment_store.proofs.Trimming.{held_between, trim_failing, trim_requires, trim_none, trim_done}
use Rattle.segment_store.proofs.Keeping.{held_recoverable, trimming_recoverable}
use Rattle.segment_store.proofs.cut.trim_chunks.Goals as goal

pub returns-in-None-clause-images : goal.returns-in-None-clause-images
returns-in-None-clause-images g c = λ told last older kept can. held_between _ _ kept _ (last ∷ older) _ can.stands can.ends

pub returns-in-None-clause-done : goal.returns-in-None-clause-done
returns-in-None-clause-done g c = λ told did last older kept can.
    trim_none _ _ kept c.kept_rows-kept.result _ last older _ can (subst (λ (l : List ChunkAt). IsKept c.args.end l c.kept_rows-kept.result) c.deref.ensures.value c.kept_rows-kept.ensures) (ap (λ (l : List ChunkAt). slice_get l c.kept_rows-kept.result) (sym c.deref-2.ensures.value) ∙ sym c.in-None.ensures)

pub cut_last-requires : goal.cut_last-requires
cut_last-requires g c = λ told.
    let (last, older, kept, can) = c.requires told in
    trim_requires _ _ kept c.kept_rows-kept.result _ last older c.in-Some.first _ _ can (subst (λ (l : List ChunkAt). IsKept c.args.end l c.kept_rows-kept.result) c.deref.ensures.value c.kept_rows-kept.ensures) (ap (λ (l : List ChunkAt). slice_get l c.kept_rows-kept.result) (sym c.deref-2.ensures.value) ∙ sym c.in-Some.ensures) c.index_place-index_size.ensures

pub returns-in-Failed-clause-images : goal.returns-in-Failed-clause-images
returns-in-Failed-clause-images g c = λ told last older kept can.
    trim_failing _ _ kept c.kept_rows-kept.result _ last older c.in-Some.first _ (g.D.Disk.state c.args.disk.now) (g.D.Disk.state c.cut_last.new.disk) can (subst (λ (l : List ChunkAt). IsKept c.args.end l c.kept_rows-kept.result) c.deref.ensures.value c.kept_rows-kept.ensures) (ap (λ (l : List ChunkAt). slice_get l c.kept_rows-kept.result) (sym c.deref-2.ensures.value) ∙ sym c.in-Some.ensures) c.index_place-index_size.ensures (λ cs left held cut. c.cut_last.ensures.images told older cs left held cut)

pub returns-in-Failed-clause-others : goal.returns-in-Failed-clause-others
returns-in-Failed-clause-others g c = outside_log _ _ _ _ c.cut_last.ensures.others

pub returns-in_default-clause-images : goal.returns-in_default-clause-images
returns-in_default-clause-images g c = λ told last older kept can.
    trim_failing _ _ kept c.kept_rows-kept.result _ last older c.in-Some.first _ (g.D.Disk.state c.args.disk.now) (g.D.Disk.state c.cut_last.new.disk) can (subst (λ (l : List ChunkAt). IsKept c.args.end l c.kept_rows-kept.result) c.deref.ensures.value c.kept_rows-kept.ensures) (ap (λ (l : List ChunkAt). slice_get l c.kept_rows-kept.result) (sym c.deref-2.ensures.value) ∙ sym c.in-Some.ensures) c.index_place-index_size.ensures (λ cs left held cut. c.cut_last.ensures.images told older cs left held cut)

pub returns-in_default-clause-done : goal.returns-in_default-clause-done
returns-in_default-clause-done g c = λ told did last older kept can.
    trim_done _ _ kept c.kept_rows-kept.result _ _ last older c.in-Some.first _ (g.D.Disk.state c.args.disk.now) (g.D.Disk.state c.cut_last.new.disk) can (subst (λ (l : List ChunkAt). IsKept c.args.end l c.kept_rows-kept.result) c.deref.ensures.value c.kept_rows-kept.ensures) (ap (λ (l : List ChunkAt). slice_get l c.kept_rows-kept.result) (sym c.deref-2.ensures.value) ∙ sym c.in-Some.ensures) c.index_place-index_size.ensures c.truncate.ensures.items
    (λ cs left held cut. c.cut_last.ensures.done told (did_done _ c.in_default.not-Failed) older cs left held cut)

pub returns-in_default-clause-others : goal.returns-in_default-clause-others
returns-in_default-clause-others g c = outside_log _ _ _ _ c.cut_last.ensures.others

pub returns-in-None-clause-recoverable : goal.returns-in-None-clause-recoverable
returns-in-None-clause-recoverable g c = λ told.
    let (last, older, kept, can) = c.requires told in
    held_recoverable _ _ (last ∷ older) _ can.stands

pub returns-in-Failed-clause-recoverable : goal.returns-in-Failed-clause-recoverable
returns-in-Failed-clause-recoverable g c = λ told.
    let (last, older, kept, can) = c.requires told in
    trimming_recoverable _ _ kept c.kept_rows-kept.result _ last older c.in-Some.first _ (g.D.Disk.state c.args.disk.now) (g.D.Disk.state c.cut_last.new.disk) can (subst (λ (l : List ChunkAt). IsKept c.args.end l c.kept_rows-kept.result) c.deref.ensures.value c.kept_rows-kept.ensures) (ap (λ (l : List ChunkAt). slice_get l c.kept_rows-kept.result) (sym c.deref-2.ensures.value) ∙ sym c.in-Some.ensures) c.index_place-index_size.ensures c.cut_last.ensures.others (λ cs left cut. c.cut_last.ensures.left told cs left cut)

pub returns-in_default-clause-recoverable : goal.returns-in_default-clause-recoverable
returns-in_default-clause-recoverable g c = λ told.
    let (last, older, kept, can) = c.requires told in
    trimming_recoverable _ _ kept c.kept_rows-kept.result _ last older c.in-Some.first _ (g.D.Disk.state c.args.disk.now) (g.D.Disk.state c.cut_last.new.disk) can (subst (λ (l : List ChunkAt). IsKept c.args.end l c.kept_rows-kept.result) c.deref.ensures.value c.kept_rows-kept.ensures) (ap (λ (l : List ChunkAt). slice_get l c.kept_rows-kept.result) (sym c.deref-2.ensures.value) ∙ sym c.in-Some.ensures) c.index_place-index_size.ensures c.cut_last.ensures.others (λ cs left cut. c.cut_last.ensures.left told cs left cut)
