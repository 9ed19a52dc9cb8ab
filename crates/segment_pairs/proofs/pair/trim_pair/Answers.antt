use Rattle.std.proofs.Common.{◌++◌, length-append, arith}
use Rattle.segment_pairs.specs.Log.{segment_of, index_of}
use Rattle.segment_pairs.proofs.Moving.{did_done, apart, settled_stays}
use Rattle.segment_pairs.proofs.Torn.{index_trims, segment_trims, pair_trimmed}
use Rattle.segment_pairs.proofs.Leaving.{index_trim_leaves, segment_trim_leaves}
use Rattle.segment_pairs.proofs.pair.trim_pair.Goals as goal

pub shorten-requires : goal.shorten-requires
shorten-requires g c = λ told.
    let (cs, t) = c.requires told in
    (index_of cs ++ t.index_rest, t.index, omega (arith, t.index_ends, length-append (index_of cs) t.index_rest))

pub returns-in-Failed-clause-images : goal.returns-in-Failed-clause-images
returns-in-Failed-clause-images g c = λ told cs t.
    index_trims _ _ cs _ _ _ _ t (c.shorten.ensures.images told (index_of cs ++ t.index_rest) t.index) c.shorten.ensures.others

pub shorten-requires-2 : goal.shorten-requires-2
shorten-requires-2 g c = λ told.
    let (cs, t) = c.requires told in
    (segment_of cs ++ t.rest, settled_stays _ _ (segment_of cs ++ t.rest) _ _ (apart c.args.stream c.args.number c.args.number) c.shorten.ensures.others t.segment, omega (arith, t.ends, length-append (segment_of cs) t.rest))

pub returns-clause-images : goal.returns-clause-images
returns-clause-images g c = λ told cs t.
    let now = c.shorten.ensures.done told (did_done _ c.in_default.not-Failed) (index_of cs ++ t.index_rest) t.index in
    let segment = settled_stays _ _ (segment_of cs ++ t.rest) _ _ (apart c.args.stream c.args.number c.args.number) c.shorten.ensures.others t.segment in
    segment_trims _ _ cs _ _ _ _ _ t now (c.shorten-2.ensures.images told (segment_of cs ++ t.rest) segment) c.shorten-2.ensures.others

pub returns-clause-done : goal.returns-clause-done
returns-clause-done g c = λ told did cs t.
    let now = c.shorten.ensures.done told (did_done _ c.in_default.not-Failed) (index_of cs ++ t.index_rest) t.index in
    let segment = settled_stays _ _ (segment_of cs ++ t.rest) _ _ (apart c.args.stream c.args.number c.args.number) c.shorten.ensures.others t.segment in
    pair_trimmed _ _ cs _ _ _ _ _ t now (c.shorten-2.ensures.done told did (segment_of cs ++ t.rest) segment) c.shorten-2.ensures.others

pub returns-in-Failed-clause-left : goal.returns-in-Failed-clause-left
returns-in-Failed-clause-left g c = λ told cs t.
    index_trim_leaves _ _ cs _ _ _ _ t (c.shorten.ensures.images told (index_of cs ++ t.index_rest) t.index) c.shorten.ensures.others

pub returns-clause-left : goal.returns-clause-left
returns-clause-left g c = λ told cs t.
    let now = c.shorten.ensures.done told (did_done _ c.in_default.not-Failed) (index_of cs ++ t.index_rest) t.index in
    let segment = settled_stays _ _ (segment_of cs ++ t.rest) _ _ (apart c.args.stream c.args.number c.args.number) c.shorten.ensures.others t.segment in
    segment_trim_leaves _ _ cs _ _ _ _ _ t now (c.shorten-2.ensures.images told (segment_of cs ++ t.rest) segment) c.shorten-2.ensures.others
