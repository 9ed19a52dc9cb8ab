use Rattle.std.proofs.Common.{refl, arith, length, length-drop, ap}
use Rattle.segment_pairs.specs.Log.{segment_header, index_header}
use Rattle.segment_pairs.proofs.Walking.{walk_start, walk_more, tells_some, match_long, match_fits, pushed, header_long}
use Rattle.segment_pairs.proofs.look.read_records.Goals as goal

pub loop-chunks-init : goal.loop-chunks-init
loop-chunks-init c = record {
  walks = walk_start _ _ _ _ _ _ c.requires.segment c.requires.index c.skip-rest.ensures c.skip-index_rest.ensures c.new-chunks.ensures;
  size = omega (arith, ap length c.skip-rest.ensures, length-drop 8 c.args.seg.now, header_long segment_header c.args.seg.now c.requires.segment);
  index_size = omega (arith, ap length c.skip-index_rest.ensures, length-drop 8 c.args.idx.now, header_long index_header c.args.idx.now c.requires.index);
}

pub skip-index_rest-requires-in-Some : goal.skip-index_rest-requires-in-Some
skip-index_rest-requires-in-Some c = match_long _ _ _ _ _ (tells_some _ _ _ _ _ _ c.in-Some.is c.in_ok-read.ensures).0

pub loop-chunks-smaller : goal.loop-chunks-smaller
loop-chunks-smaller c = omega (arith, ap length c.skip-index_rest-in-Some.ensures, length-drop 29 c.loop-chunks.index_rest.now, match_long _ _ _ _ _ (tells_some _ _ _ _ _ _ c.in-Some.is c.in_ok-read.ensures).0)

pub loop-chunks-preserved : goal.loop-chunks-preserved
loop-chunks-preserved c =
    let inv = c.loop-chunks.invariant in
    let found = tells_some _ _ _ _ _ _ c.in-Some.is c.in_ok-read.ensures in
    record {
      walks = walk_more _ _ _ _ _ _ _ _ _ _ _ _ _ _ _ _ _ inv.walks found.0 found.1 (pushed _ _ _ _ c.in_default-push.not-Err c.push.ensures.ok) c.skip-rest-in-Some.ensures c.skip-index_rest-in-Some.ensures refl refl c.end_of-end.ensures;
      size = omega (arith, ap length c.skip-rest-in-Some.ensures, length-drop c.in-Some.read.used c.loop-chunks.rest.now, match_fits _ _ _ _ _ _ found.0 found.1, inv.size);
      index_size = omega (arith, ap length c.skip-index_rest-in-Some.ensures, length-drop 29 c.loop-chunks.index_rest.now, match_long _ _ _ _ _ found.0, inv.index_size);
    }
