use Rattle.std.proofs.Common.{sym, ◌∙◌, refl}
use Rattle.command_fields.proofs.TableLaws.{AtKey, first_gives, first_refuses, passes_on}
use Rattle.command_fields.specs.Tables.{command_at}
use Rattle.command_admin.specs.Commands.{admin_table}
use Rattle.command_admin.proofs.decode.read_body.Goals as goal

pub returns-in_err-read_version : goal.returns-in_err-read_version
returns-in_err-read_version c =
    let here : AtKey admin_table c.args.body.now c.in-Some.key c.u16.new.self = record {
      begin = c.new-scan.result;
      code = c.in_ok-code.code;
      at = c.new-scan.ensures.at;
      rest = c.new-scan.ensures.rest;
      read = c.in_ok-code.ensures.read;
      is = sym c.key_of.ensures ∙ c.in-Some.is;
    } in
    let fails = first_refuses admin_table c.args.body.now c.in-Some.key c.u16.new.self c.in_err-read_version.field-0.0 here refl c.in_err-read_version.ensures.read in
    passes_on c.from_residual-in_err-read_version.result c.in_err-read_version.field-0.0 (command_at admin_table c.args.body.now) c.from_residual-in_err-read_version.ensures.1 fails

pub returns : goal.returns
returns c =
    let here : AtKey admin_table c.args.body.now c.in-Some.key c.u16.new.self = record {
      begin = c.new-scan.result;
      code = c.in_ok-code.code;
      at = c.new-scan.ensures.at;
      rest = c.new-scan.ensures.rest;
      read = c.in_ok-code.ensures.read;
      is = sym c.key_of.ensures ∙ c.in-Some.is;
    } in
    first_gives admin_table c.args.body.now c.in-Some.key c.u16.new.self c.read_version.new.scan c.fields.new.scan c.fields.result here c.in_ok-read_version.ensures.read c.fields.ensures
