use Rattle.std.proofs.Common.{◌≡◌, ◌++◌, ℕ, List, Option, Some, OnOk, ap, subst, ◌∙◌, arith}
use Rattle.command_fields.specs.Codes.{number_of_code}
use Rattle.command_admin.specs.declared.command.AdminCommand.TheVariants as of_admin
use Rattle.command_all.specs.declared.command.Command.TheVariants.{Admin}
use Rattle.command_all.specs.Commands.{frame_of}
use Rattle.session_tables.proofs.Fits.{close_fits}
use Rattle.session_tables.proofs.spelling.put_close.Goals as goal

pub put_frame-requires : goal.put_frame-requires
put_frame-requires c = close_fits c.args.corr c.number_of.result c.args.code c.in_ok-text.field-0 (omega arith) c.number_of.ensures.is (c.in_ok-text.ensures.is ∙ ap (λ (b : List ℕ). Some b) c.reason_of.ensures.is)

pub returns-clause-ok : goal.returns-clause-ok
returns-clause-ok c =
    let by_number = subst (λ (n : ℕ). OnOk c.put_frame.result (c.put_frame.new.out ≡ c.args.out.now ++ frame_of (Admin (of_admin.Close c.args.corr n c.in_ok-text.field-0)))) c.number_of.ensures.is c.put_frame.ensures.ok in
    subst (λ (reason : Option (List ℕ)). OnOk c.put_frame.result (c.put_frame.new.out ≡ c.args.out.now ++ frame_of (Admin (of_admin.Close c.args.corr (number_of_code c.args.code) reason)))) (c.in_ok-text.ensures.is ∙ ap (λ (b : List ℕ). Some b) c.reason_of.ensures.is) by_number
