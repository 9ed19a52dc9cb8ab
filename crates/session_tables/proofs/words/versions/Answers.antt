use Rattle.std.proofs.Common.{get_or}
use Rattle.std.proofs.lemmas.List.{get_or_default}
use Rattle.session_tables.specs.Spelling.{version_of}
use Rattle.session_tables.proofs.Rows.{made_more, made_all}
use Rattle.session_tables.proofs.words.versions.Goals as goal

pub keys-preserved : goal.keys-preserved
keys-preserved c =
    let key = get_or c.args.keys.now c.keys.key-index 0 in
    made_more version_of c.args.keys.now c.keys.key-index c.keys.row c.push.new.self key c.version_of.result c.keys.invariant (get_or_default c.args.keys.now c.keys.key-index 0 key c.keys-test.true) c.keys-test.true c.version_of.ensures c.in-Ok.ensures.ok

pub returns : goal.returns
returns c = made_all version_of c.args.keys.now c.keys.key-index c.keys.row c.keys.invariant c.keys-test.false
