-- The options of `serve`.
use Rattle.std.specs.Prelude.{codes, true, Some, [], ◌∷◌}
use Rattle.clap.specs.Words.{App, Rule, Text, new_app, new_rule, with_rule}
use Rattle.clap.specs.declared.builder.action.ArgAction.TheVariants.{Set}

-- an option that sets a value and must be there
abbrev pub needed : Text → Rule
needed name = record (new_rule name) { long = Some name; required = true; action = Some Set }

-- an option that sets a value, which it has by default
abbrev pub defaulted : Text → Text → Rule
defaulted name value = record (new_rule name) { long = Some name; action = Some Set; defaults = value ∷ [] }

-- an option that sets a value and may be left out
abbrev pub optional : Text → Rule
optional name = record (new_rule name) { long = Some name; action = Some Set }

-- all words are the command's own: none is the program's name
abbrev pub reads_all : App → App
reads_all a = record a { top = record a.top { no_binary_name = true } }

abbrev pub serve_app : App
serve_app = with_rule (with_rule (with_rule (with_rule (with_rule (reads_all (new_app (codes "serve"))) (needed (codes "listen"))) (needed (codes "dir")))
    (defaulted (codes "user") (codes "guest"))) (defaulted (codes "password") (codes "guest"))) (optional (codes "members"))
