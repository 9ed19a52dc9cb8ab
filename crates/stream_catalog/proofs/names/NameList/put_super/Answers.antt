use Rattle.std.proofs.Common.{◌∙◌, ◌++◌, ap, List, ℕ, Option}
use Rattle.std.specs.Map.{lookup}
use Rattle.stream_catalog.specs.Names.{same_name, holder_of}
use Rattle.stream_catalog.specs.Rules.{named, part_names}
use Rattle.stream_catalog.proofs.Fresh.{Entries, other_free}
use Rattle.stream_catalog.proofs.names.NameList.put_super.Goals as goal

pub put-requires : goal.put-requires
put-requires c =
    ap (λ (name : List ℕ). holder_of name c.put_parts.new.self) c.named.ensures
    ∙ ap (λ (l : Entries). lookup (same_name (named c.args.name.now)) l) c.in_ok-put_parts.ensures.list
    ∙ ap (λ (parts : List (Option (List ℕ))). lookup (same_name (named c.args.name.now)) (c.args.self.now.list ++ part_names c.args.first 0 parts)) c.as_slice.ensures
    ∙ other_free c.args.self.now.list (named c.args.name.now) c.args.first 0 c.args.parts c.requires.name c.requires.other
