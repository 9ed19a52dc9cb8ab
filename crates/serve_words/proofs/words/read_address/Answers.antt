use Rattle.std.proofs.Common.{◌+◌, ◌∙◌, sym}
use Rattle.std.proofs.lemmas.List.{take_rest}
use Rattle.serve_words.proofs.Addresses.{no_colon, no_port, other_length, great_port, never, taken_length}
use Rattle.serve_words.proofs.words.read_address.Goals as goal

pub returns-in_default : goal.returns-in_default
returns-in_default c host port is = no_colon c.args.address.now host port (c.in_default.ensures) is

pub returns-in_default-read_number : goal.returns-in_default-read_number
returns-in_default-read_number c host port is =
    no_port c.args.address.now host _ _ port c.in-Some.ensures.1 (λ n small e. c.in_default-read_number.ensures n small (take_rest c.args.address.now (c.in-Some.colon + 1) ∙ e)) is

pub returns-then-not-is_length_of_host : goal.returns-then-not-is_length_of_host
returns-then-not-is_length_of_host c host port is = other_length c.args.address.now host _ _ port c.in-Some.ensures.1 (λ both. never c.is_length_of_host.result c.if-not-is_length_of_host.true c.is_length_of_host.ensures.1 (taken_length c.in-Some.colon c.args.address.now c.in-Some.ensures.0 both)) is

pub returns-then-not-is_port : goal.returns-then-not-is_port
returns-then-not-is_port c host port is =
    great_port c.args.address.now host _ _ port c.in-Some-read_number.port c.in-Some.ensures.1 c.in-Some-read_number.ensures.0 (sym (take_rest c.args.address.now (c.in-Some.colon + 1)) ∙ c.in-Some-read_number.ensures.1) (never c.is_port.result c.if-not-is_port.true c.is_port.ensures.1) is
