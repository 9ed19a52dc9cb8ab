use Rattle.std.proofs.lemmas.List.{length-take}
use Rattle.std.proofs.lemmas.Option.{slice_get_within}
use Rattle.std.proofs.Common.{◌≡◌, ◌<◌, ◌-◌, ℕ, List, length, ap, arith, subst, rules}
use Rattle.segment_pairs.specs.Held.{Segment}
use Rattle.segment_pairs.proofs.Lifting.{outside_log, outside_then}
use Rattle.segment_pairs.proofs.Moving.{did_done}
use Rattle.segment_store.specs.declared.rows.ChunkAt.{ChunkAt}
use Rattle.segment_store.specs.Rows.{LogStands, FrontEnds, IsBehind, NoneBehind}
use Rattle.segment_store.proofs.Trimming.{held_between, none_done, drop_failing, drop_again, again_images, again_done}
use Rattle.segment_store.proofs.Keeping.{held_recoverable, dropping_recoverable}
use Rattle.segment_store.proofs.cut.+drop_segments.Goals as goal

pub returns-in-None-clause-images : goal.returns-in-None-clause-images
returns-in-None-clause-images g n c = λ told segments kept stands ends. held_between _ _ kept _ _ _ stands ends

pub returns-in-None-clause-done : goal.returns-in-None-clause-done
returns-in-None-clause-done g n c = λ told did segments kept stands ends.
    none_done _ _ kept _ _ _ stands ends (subst (λ (l : List ChunkAt). NoneBehind c.args.end l) c.deref.ensures.value c.in-None.ensures)

pub returns-in-Failed-clause-images : goal.returns-in-Failed-clause-images
returns-in-Failed-clause-images g n c = λ told segments kept stands ends.
    drop_failing _ _ kept _ _ c.in-Some.last _ (g.D.Disk.state c.remove_last.new.disk) stands ends (subst (λ (l : List ChunkAt). IsBehind c.args.end l c.in-Some.last) c.deref.ensures.value c.in-Some.ensures) (c.remove_last.ensures.images told)

pub returns-in-Failed-clause-others : goal.returns-in-Failed-clause-others
returns-in-Failed-clause-others g n c = outside_log _ _ _ _ c.remove_last.ensures.others

pub drop_segments-requires : goal.drop_segments-requires
drop_segments-requires g t c κs within =
    let size : c.saturating_sub-left.result ≡ length c.args.rows.now.items - c.in-Some.last.nth - 1 = omega (arith, c.len.ensures, c.saturating_sub.ensures, c.saturating_sub-left.ensures) in
    let behind = subst (λ (l : List ChunkAt). IsBehind c.args.end l c.in-Some.last) c.deref.ensures.value c.in-Some.ensures in
    let falls : length c.truncate.new.self.items < length c.args.rows.now.items =
    omega (arith, size, ap length c.truncate.ensures.items, length-take c.saturating_sub-left.result c.args.rows.now.items, slice_get_within c.args.rows.now.items (length c.args.rows.now.items - 1) c.in-Some.last behind.is) in
    let again : g.D.Disk.tells → (older : List Segment) × (kept : ℕ) × LogStands c.args.stream c.truncate.new.self.items older (g.D.Disk.state c.remove_last.new.disk) × FrontEnds c.truncate.new.self.items kept c.args.end =
    (λ told.
    let (segments, kept, stands, ends) = c.requires told in
    let next = drop_again _ _ kept _ _ _ _ c.in-Some.last _ (g.D.Disk.state c.remove_last.new.disk) stands ends behind (c.remove_last.ensures.done told (did_done _ c.in_default.not-Failed)) size c.truncate.ensures.items in
    (next.0, kept, next.1, next.2)) in
    search (rules, falls, again)

pub returns-in_default-clause-images : goal.returns-in_default-clause-images
returns-in_default-clause-images g n c = λ told segments kept stands ends.
    again_images _ _ kept _ _ _ _ c.in-Some.last _ (g.D.Disk.state c.remove_last.new.disk) (g.D.Disk.state c.drop_segments.new.disk) stands ends (subst (λ (l : List ChunkAt). IsBehind c.args.end l c.in-Some.last) c.deref.ensures.value c.in-Some.ensures)
    (c.remove_last.ensures.done told (did_done _ c.in_default.not-Failed)) (omega (arith, c.len.ensures, c.saturating_sub.ensures, c.saturating_sub-left.ensures)) c.truncate.ensures.items (λ older k now front. c.drop_segments.ensures.images told older k now front)

pub returns-in_default-clause-done : goal.returns-in_default-clause-done
returns-in_default-clause-done g n c = λ told did segments kept stands ends.
    again_done _ _ kept _ _ _ _ _ c.in-Some.last _ (g.D.Disk.state c.remove_last.new.disk) (g.D.Disk.state c.drop_segments.new.disk) stands ends (subst (λ (l : List ChunkAt). IsBehind c.args.end l c.in-Some.last) c.deref.ensures.value c.in-Some.ensures)
    (c.remove_last.ensures.done told (did_done _ c.in_default.not-Failed)) (omega (arith, c.len.ensures, c.saturating_sub.ensures, c.saturating_sub-left.ensures)) c.truncate.ensures.items (λ older k now front. c.drop_segments.ensures.done told did older k now front)

pub returns-in_default-clause-others : goal.returns-in_default-clause-others
returns-in_default-clause-others g n c = outside_then _ _ (g.D.Disk.state c.remove_last.new.disk) _ (outside_log _ _ _ _ c.remove_last.ensures.others) c.drop_segments.ensures.others

pub returns-in-None-clause-recoverable : goal.returns-in-None-clause-recoverable
returns-in-None-clause-recoverable g n c = λ told.
    let (segments, kept, stands, ends) = c.requires told in
    held_recoverable _ _ segments _ stands

pub returns-in-Failed-clause-recoverable : goal.returns-in-Failed-clause-recoverable
returns-in-Failed-clause-recoverable g n c = λ told.
    let (segments, kept, stands, ends) = c.requires told in
    dropping_recoverable _ _ _ segments c.in-Some.last _ (g.D.Disk.state c.remove_last.new.disk) stands (subst (λ (l : List ChunkAt). IsBehind c.args.end l c.in-Some.last) c.deref.ensures.value c.in-Some.ensures) c.remove_last.ensures.others (c.remove_last.ensures.left told)
