use Rattle.std.proofs.Common.{length, ap, sym, ◌∙◌, arith}
use Rattle.disk_calls.proofs.FrameLemmas.{settled_holds}
use Rattle.segment_pairs.specs.Log.{segment_of, index_of}
use Rattle.segment_pairs.proofs.Reading.{length-record, spelled_is}
use Rattle.segment_pairs.proofs.Moving.{did_done, apart_back, settled_stays, chunk_goes, chunk_in, record_goes, chunk_written}
use Rattle.segment_pairs.proofs.Leaving.{chunk_leaves, record_leaves}
use Rattle.segment_pairs.proofs.pair.write_pair.Goals as goal

pub returns-in-Failed-clause-images : goal.returns-in-Failed-clause-images
returns-in-Failed-clause-images g c = λ told cs can.
    chunk_goes _ _ cs _ _ _ _ _ _ can (c.append.ensures.images told (segment_of cs) can.stands.segment) c.append.ensures.others

pub returns-clause-images : goal.returns-clause-images
returns-clause-images g c = λ told cs can.
    let place = c.args.place in
    let first = c.append.ensures.done told (did_done _ c.in_default.not-Failed) (segment_of cs) (settled_holds _ _ _ can.stands.segment) in
    let now = chunk_in _ _ cs c.args.chunk.now _ _ (c.bytes.ensures.spelled ∙ sym (spelled_is c.args.chunk.now)) first in
    let index = settled_stays _ _ (index_of cs) _ _ (apart_back c.args.stream c.args.number c.args.number) c.append.ensures.others can.stands.index in
    record_goes _ _ cs _ _ _ _ _ _ _ can (omega (arith, c.ranges.place)) now (c.append-2.ensures.images told (index_of cs) index) (omega (arith, ap length c.record_bytes-record.ensures.bytes, length-record place c.args.chunk.now)) c.append-2.ensures.others

pub returns-clause-done : goal.returns-clause-done
returns-clause-done g c = λ told did cs can.
    let first = c.append.ensures.done told (did_done _ c.in_default.not-Failed) (segment_of cs) (settled_holds _ _ _ can.stands.segment) in
    let now = chunk_in _ _ cs c.args.chunk.now _ _ (c.bytes.ensures.spelled ∙ sym (spelled_is c.args.chunk.now)) first in
    let index = settled_stays _ _ (index_of cs) _ _ (apart_back c.args.stream c.args.number c.args.number) c.append.ensures.others can.stands.index in
    chunk_written _ _ cs _ _ _ _ _ _ _ can (omega (arith, c.ranges.place)) now c.record_bytes-record.ensures.bytes (c.append-2.ensures.done told did (index_of cs) (settled_holds _ _ _ index)) c.append-2.ensures.others

pub returns-in-Failed-clause-left : goal.returns-in-Failed-clause-left
returns-in-Failed-clause-left g c = λ told cs can.
    chunk_leaves _ _ cs _ _ _ _ _ _ can (c.append.ensures.images told (segment_of cs) can.stands.segment) c.append.ensures.others

pub returns-clause-left : goal.returns-clause-left
returns-clause-left g c = λ told cs can.
    let place = c.args.place in
    let first = c.append.ensures.done told (did_done _ c.in_default.not-Failed) (segment_of cs) (settled_holds _ _ _ can.stands.segment) in
    let now = chunk_in _ _ cs c.args.chunk.now _ _ (c.bytes.ensures.spelled ∙ sym (spelled_is c.args.chunk.now)) first in
    let index = settled_stays _ _ (index_of cs) _ _ (apart_back c.args.stream c.args.number c.args.number) c.append.ensures.others can.stands.index in
    record_leaves _ _ cs _ _ _ _ _ _ _ can now (c.append-2.ensures.images told (index_of cs) index) (omega (arith, ap length c.record_bytes-record.ensures.bytes, length-record place c.args.chunk.now)) c.append-2.ensures.others
