use Rattle.std.proofs.Common.{sym, subst}
use Rattle.disk_calls.specs.declared.file_id.FileId.{FileId}
use Rattle.disk_calls.specs.Frames.{Holds}
use Rattle.stream_catalog.proofs.Recording.{starts, record_none, record_torn, record_put, others_then}
use Rattle.stream_catalog.proofs.disk_files.record_change.Goals as goal

pub returns-in_default-clause-images : goal.returns-in_default-clause-images
returns-in_default-clause-images g c = λ told base holds is_len.
    let known = c.requires.known told in
    record_none c.args.words.now c.args.len.now _ base c.args.bytes.now (starts c.args.words.now c.args.len.now (g.D.Disk.state c.args.disk.now) base known.0 c.requires.id known.1 known.3 known.4 holds is_len)

pub returns-in-Failed-clause-images : goal.returns-in-Failed-clause-images
returns-in-Failed-clause-images g c = λ told base holds is_len.
    let known = c.requires.known told in
    let here : Holds c.bytes_id.result base (g.D.Disk.state c.args.disk.now) = subst (λ (f : FileId). Holds f base (g.D.Disk.state c.args.disk.now)) (sym c.bytes_id.ensures) holds in
    record_torn c.bytes_id.result c.args.words.now c.args.len.now (g.D.Disk.state c.args.disk.now) (g.D.Disk.state c.append.new.disk) base c.args.bytes.now _ c.bytes_id.ensures
    (starts c.args.words.now c.args.len.now (g.D.Disk.state c.args.disk.now) base known.0 c.requires.id known.1 known.3 known.4 holds is_len) c.append.ensures.others (c.append.ensures.of_bytes told base here)

pub returns-in_err-put-clause-images : goal.returns-in_err-put-clause-images
returns-in_err-put-clause-images g c = λ told base holds is_len.
    let known = c.requires.known told in
    let here : Holds c.bytes_id.result base (g.D.Disk.state c.args.disk.now) = subst (λ (f : FileId). Holds f base (g.D.Disk.state c.args.disk.now)) (sym c.bytes_id.ensures) holds in
    record_put c.bytes_id.result c.args.words.now c.args.len.now (g.D.Disk.state c.args.disk.now) (g.D.Disk.state c.append.new.disk) (g.D.Disk.state c.put.new.disk) base c.args.bytes.now c.bytes_id.ensures
    (starts c.args.words.now c.args.len.now (g.D.Disk.state c.args.disk.now) base known.0 c.requires.id known.1 known.3 known.4 holds is_len) c.append.ensures.others (c.append.ensures.done told c.in_default-append.is base here) c.put.ensures.others (c.put.ensures.images told)

pub returns-in_err-put-clause-others : goal.returns-in_err-put-clause-others
returns-in_err-put-clause-others g c = others_then c.bytes_id.result c.args.words.now.id _ _ _ c.bytes_id.ensures c.requires.id c.append.ensures.others c.put.ensures.others

pub returns-clause-others : goal.returns-clause-others
returns-clause-others g c = others_then c.bytes_id.result c.args.words.now.id _ _ _ c.bytes_id.ensures c.requires.id c.append.ensures.others c.put.ensures.others
