use Rattle.std.proofs.Common.{Ok, Err, sym, ◌∙◌, arith}
use Rattle.command_all.specs.declared.command.Command.TheVariants.{Data, Admin}
use Rattle.command_all.proofs.CommandLaws.{by_data, by_admin, data_ok, data_err, admin_ok, admin_err}
use Rattle.command_all.proofs.decode.read_body.Goals as goal

pub returns-in-Ok : goal.returns-in-Ok
returns-in-Ok c =
    by_data c.args.body.now c.in-Some.field-0 c.decode_data.result (Ok (Data c.in-Ok.command)) (λ i. omega (arith, c.type_inv.body i)) (sym c.data_key.ensures ∙ c.in-Some.is) c.decode_data.ensures.only c.decode_data.ensures.refused
    (data_ok c.decode_data.result c.in-Ok.command c.in-Ok.is)

pub returns-in-Err : goal.returns-in-Err
returns-in-Err c =
    by_data c.args.body.now c.in-Some.field-0 c.decode_data.result (Err c.in-Err.error) (λ i. omega (arith, c.type_inv.body i)) (sym c.data_key.ensures ∙ c.in-Some.is) c.decode_data.ensures.only c.decode_data.ensures.refused
    (data_err c.decode_data.result c.in-Err.error c.in-Err.is)

pub returns-in-Ok-decode_admin : goal.returns-in-Ok-decode_admin
returns-in-Ok-decode_admin c =
    by_admin c.args.body.now c.decode_admin.result (Ok (Admin c.in-Ok-decode_admin.command)) (λ i. omega (arith, c.type_inv.body i)) (sym c.data_key.ensures ∙ c.in-None.is) c.decode_admin.ensures.only c.decode_admin.ensures.refused
    (admin_ok c.decode_admin.result c.in-Ok-decode_admin.command c.in-Ok-decode_admin.is)

pub returns-in-Err-decode_admin : goal.returns-in-Err-decode_admin
returns-in-Err-decode_admin c =
    by_admin c.args.body.now c.decode_admin.result (Err c.in-Err-decode_admin.error) (λ i. omega (arith, c.type_inv.body i)) (sym c.data_key.ensures ∙ c.in-None.is) c.decode_admin.ensures.only c.decode_admin.ensures.refused
    (admin_err c.decode_admin.result c.in-Err-decode_admin.error c.in-Err-decode_admin.is)
