use Rattle.stream_catalog.proofs.Applying.{applied_memory, applied_done, applied_failed}
use Rattle.stream_catalog.proofs.apply.add_change.Goals as goal

pub returns-in_err-add-clause-applied : goal.returns-in_err-add-clause-applied
returns-in_err-add-clause-applied g c = λ told.
    applied_memory c.args.change c.args.listed.now c.add.new.self c.args.words.now c.args.len.now c.args.sure.now c.from_residual.result (g.D.Disk.state c.args.disk.now) c.from_residual.ensures c.in_err-add.ensures.err (c.requires.known told)

pub returns-in-Ok-clause-applied : goal.returns-in-Ok-clause-applied
returns-in-Ok-clause-applied g c = λ told.
    let known = c.requires.known told in
    applied_done c.args.change c.args.listed.now c.add.new.self c.args.words.now c.record_change.new.words c.args.len.now c.record_change.new.len (g.D.Disk.state c.args.disk.now) (g.D.Disk.state c.record_change.new.disk) c.args.bytes.now c.record_change.new.sure
    c.args.change.number known c.requires.fits c.requires.spelled c.requires.bytes
    (record {
      images = c.record_change.ensures.images told;
      holds = λ base h. c.in-Ok.ensures.holds told base h;
      backs = c.in-Ok.ensures.backs told;
      pairs = c.in-Ok.ensures.words known.words_sure;
      id = c.record_change.ensures.id;
      words_sure = c.in-Ok.ensures.words_sure;
      is_sure = c.in-Ok.ensures.sure;
      unsure = tt;
      is_longer = c.in-Ok.ensures.len;
      fault = tt;
    })
    c.in_ok-add.ensures.ok.0

pub returns-in-Err-clause-applied : goal.returns-in-Err-clause-applied
returns-in-Err-clause-applied g c = λ told.
    let known = c.requires.known told in
    applied_failed c.args.change c.args.listed.now c.go_back.new.self c.args.words.now c.record_change.new.words c.args.len.now c.record_change.new.len (g.D.Disk.state c.args.disk.now) (g.D.Disk.state c.record_change.new.disk) c.args.bytes.now c.record_change.new.sure
    c.in-Err.fault known c.requires.fits c.requires.spelled c.requires.bytes
    (record {
      images = c.record_change.ensures.images told;
      holds = λ base h. tt;
      backs = tt;
      pairs = tt;
      id = c.record_change.ensures.id;
      words_sure = tt;
      is_sure = tt;
      unsure = c.in-Err.ensures.unsure;
      is_longer = tt;
      fault = c.in-Err.ensures.fault told;
    })
    (c.go_back.ensures c.args.listed.now c.in_ok-add.ensures.ok.1 c.mark-mark.ensures.names c.mark-mark.ensures.last)
