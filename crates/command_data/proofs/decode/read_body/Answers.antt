use Rattle.std.proofs.Common.{sym, ◌∙◌}
use Rattle.command_fields.proofs.TableLaws.{AtKey, body_gives}
use Rattle.command_data.specs.Commands.{data_table}
use Rattle.command_data.proofs.decode.read_body.Goals as goal

pub returns : goal.returns
returns c =
    let here : AtKey data_table c.args.body.now c.in-Some.first c.u16.new.self = record {
      begin = c.new-scan.result;
      code = c.in_ok-code.code;
      at = c.new-scan.ensures.at;
      rest = c.new-scan.ensures.rest;
      read = c.in_ok-code.ensures.read;
      is = sym c.key_of.ensures ∙ c.in-Some.is;
    } in
    body_gives data_table c.args.body.now c.in-Some.first c.in-Some-in_version.key c.in_ok-version.version c.u16.new.self c.u16-2.new.self c.fields.new.scan c.fields.result here
    c.in_ok-version.ensures.read (sym c.in_version.ensures ∙ c.in-Some-in_version.is) c.fields.ensures
