use Rattle.std.proofs.Common.{refl}
use Rattle.stream_catalog.proofs.Applying.{applied_done, applied_failed}
use Rattle.stream_catalog.proofs.apply.take_change.Goals as goal

pub returns-in-Ok-clause-applied : goal.returns-in-Ok-clause-applied
returns-in-Ok-clause-applied g c = λ told.
    let known = c.requires.known told in
    applied_done c.args.change.now c.args.listed.now c.take_away.new.self c.args.words.now c.record_change.new.words c.args.len.now c.record_change.new.len (g.D.Disk.state c.args.disk.now) (g.D.Disk.state c.record_change.new.disk) c.args.bytes.now c.record_change.new.sure
    c.args.change.now.number known c.requires.fits c.requires.spelled c.requires.bytes
    (record {
      images = c.record_change.ensures.images told;
      holds = λ base h. c.in-Ok.ensures.holds told base h;
      backs = c.in-Ok.ensures.backs told;
      pairs = c.in-Ok.ensures.words known.words_sure;
      id = c.record_change.ensures.id;
      words_sure = c.in-Ok.ensures.words_sure;
      is_sure = c.in-Ok.ensures.sure;
      unsure = tt;
      is_longer = c.in-Ok.ensures.len;
      fault = tt;
    })
    c.take_away.ensures

pub returns-in-Err-clause-applied : goal.returns-in-Err-clause-applied
returns-in-Err-clause-applied g c = λ told.
    let known = c.requires.known told in
    applied_failed c.args.change.now c.args.listed.now c.args.listed.now c.args.words.now c.record_change.new.words c.args.len.now c.record_change.new.len (g.D.Disk.state c.args.disk.now) (g.D.Disk.state c.record_change.new.disk) c.args.bytes.now c.record_change.new.sure
    c.in-Err.fault known c.requires.fits c.requires.spelled c.requires.bytes
    (record {
      images = c.record_change.ensures.images told;
      holds = λ base h. tt;
      backs = tt;
      pairs = tt;
      id = c.record_change.ensures.id;
      words_sure = tt;
      is_sure = tt;
      unsure = c.in-Err.ensures.unsure;
      is_longer = tt;
      fault = c.in-Err.ensures.fault told;
    })
    refl
