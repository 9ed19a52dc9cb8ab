use Rattle.std.proofs.Common.{◌≡◌, ℕ, ◌++◌, subst}
use Rattle.frame_wire.specs.Fields.{u16_bytes}
use Rattle.command_fields.proofs.AddLaws.{adds_more}
use Rattle.command_data.proofs.encode.put_parts.Goals as goal

pub returns : goal.returns
returns c =
    let code = subst (λ (n : ℕ). c.put_u16.new.out ≡ c.args.out.now ++ u16_bytes n) c.key.ensures c.in_ok-put_u16.ensures.ok in
    let version = subst (λ (n : ℕ). c.put_u16-2.new.out ≡ c.put_u16.new.out ++ u16_bytes n) c.version.ensures c.in_ok-put_u16-2.ensures.ok in
    adds_more c.put_fields.result c.args.out.now c.put_u16.new.out c.put_fields.new.out _ _ code
    (adds_more c.put_fields.result c.put_u16.new.out c.put_u16-2.new.out c.put_fields.new.out _ _ version c.put_fields.ensures)
