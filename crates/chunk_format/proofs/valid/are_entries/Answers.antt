use Rattle.std.proofs.Common.{refl, sym, subst, take, arith}
use Rattle.std.proofs.lemmas.List.{take_all}
use Rattle.std.proofs.lemmas.List.Elements.{All-more, All-same}
use Rattle.chunk_format.specs.Chunks.{IsEntry, HasRecords}
use Rattle.chunk_format.proofs.valid.are_entries.Goals as goal

pub loop-entry-preserved : goal.loop-entry-preserved
loop-entry-preserved c =
    let fits = subst IsEntry c.entry-item.is (c.if-not-is_entry.ensures.0 refl) in
    let some : HasRecords c.entry-item.result = omega arith in
    let recorded = subst HasRecords c.entry-item.is some in
    record {
      fits = All-more IsEntry c.args.entries.now c.loop-entry.entry-index c.entry-item.result c.loop-entry-test.true c.loop-entry.invariant.fits fits;
      recorded = All-more HasRecords c.args.entries.now c.loop-entry.entry-index c.entry-item.result c.loop-entry-test.true c.loop-entry.invariant.recorded recorded;
    }

pub returns : goal.returns
returns c =
    let whole = sym (take_all c.loop-entry.entry-index c.args.entries.now c.loop-entry-test.false) in
    let front = take c.loop-entry.entry-index c.args.entries.now in
    (λ _. (All-same IsEntry c.args.entries.now front whole c.loop-entry.invariant.fits, All-same HasRecords c.args.entries.now front whole c.loop-entry.invariant.recorded), λ _. refl)
