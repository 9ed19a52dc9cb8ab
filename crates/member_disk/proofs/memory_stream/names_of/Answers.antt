use Rattle.std.proofs.Common.{◌≡◌, ◌++◌, rules, sym, ap, ◌∙◌}
use Rattle.std.proofs.lemmas.List.{append-nil}
use Rattle.member_disk.specs.Streams.{names_there}
use Rattle.member_disk.proofs.NamesThere.{are_names}
use Rattle.member_disk.proofs.memory_stream.names_of.Goals as goal

pub returns : goal.returns
returns c =
    let all : c.loop-name.found ≡ names_there c.args.stream c.args.files.now.entries =
    sym (append-nil c.loop-name.found) ∙ ap (λ es. c.loop-name.found ++ names_there c.args.stream es) (sym c.in-None.ensures.steps.0) ∙ c.loop-name.invariant in
    are_names c.args.stream c.args.files.now c.loop-name.found (search rules) all
