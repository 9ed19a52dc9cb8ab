use Rattle.segment_pairs.specs.Log.{segment_of, index_of}
use Rattle.segment_pairs.proofs.Moving.{did_done, apart, settled_stays, index_within, segment_within, index_goes, segment_goes, pair_was_cut}
use Rattle.segment_pairs.proofs.Leaving.{index_cut_leaves, segment_cut_leaves}
use Rattle.segment_pairs.proofs.pair.cut_pair.Goals as goal

pub shorten-requires : goal.shorten-requires
shorten-requires g c = λ told.
    let (cs, left, can) = c.requires told in
    (index_of cs, can.stands.index, index_within _ _ cs left _ _ _ can)

pub returns-in-Failed-clause-images : goal.returns-in-Failed-clause-images
returns-in-Failed-clause-images g c = λ told cs left can.
    index_goes _ _ cs left _ _ _ _ can (c.shorten.ensures.images told (index_of cs) can.stands.index) c.shorten.ensures.others

pub shorten-requires-2 : goal.shorten-requires-2
shorten-requires-2 g c = λ told.
    let (cs, left, can) = c.requires told in
    (segment_of cs, settled_stays _ _ (segment_of cs) _ _ (apart c.args.stream c.args.number c.args.number) c.shorten.ensures.others can.stands.segment, segment_within _ _ cs left _ _ _ can)

pub returns-clause-images : goal.returns-clause-images
returns-clause-images g c = λ told cs left can.
    let now = c.shorten.ensures.done told (did_done _ c.in_default.not-Failed) (index_of cs) can.stands.index in
    let segment = settled_stays _ _ (segment_of cs) _ _ (apart c.args.stream c.args.number c.args.number) c.shorten.ensures.others can.stands.segment in
    segment_goes _ _ cs left _ _ _ _ _ can now (c.shorten-2.ensures.images told (segment_of cs) segment) c.shorten-2.ensures.others

pub returns-clause-done : goal.returns-clause-done
returns-clause-done g c = λ told did cs left can.
    let now = c.shorten.ensures.done told (did_done _ c.in_default.not-Failed) (index_of cs) can.stands.index in
    let segment = settled_stays _ _ (segment_of cs) _ _ (apart c.args.stream c.args.number c.args.number) c.shorten.ensures.others can.stands.segment in
    pair_was_cut _ _ cs left _ _ _ _ _ can now (c.shorten-2.ensures.done told did (segment_of cs) segment) c.shorten-2.ensures.others

pub returns-in-Failed-clause-left : goal.returns-in-Failed-clause-left
returns-in-Failed-clause-left g c = λ told cs left can.
    index_cut_leaves _ _ cs left _ _ _ _ can (c.shorten.ensures.images told (index_of cs) can.stands.index) c.shorten.ensures.others

pub returns-clause-left : goal.returns-clause-left
returns-clause-left g c = λ told cs left can.
    let now = c.shorten.ensures.done told (did_done _ c.in_default.not-Failed) (index_of cs) can.stands.index in
    let segment = settled_stays _ _ (segment_of cs) _ _ (apart c.args.stream c.args.number c.args.number) c.shorten.ensures.others can.stands.segment in
    segment_cut_leaves _ _ cs left _ _ _ _ _ can now (c.shorten-2.ensures.images told (segment_of cs) segment) c.shorten-2.ensures.others
