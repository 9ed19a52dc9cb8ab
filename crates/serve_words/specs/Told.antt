-- The values that words give the options.
use Rattle.std.specs.Prelude.{codes, List, Option}
use Rattle.std.specs.Option.{option_map}
use Rattle.clap.specs.Words.{Text, first_of, matches_of}
use Rattle.serve_words.specs.declared.options.Options.{Options}
use Rattle.serve_words.specs.ServeApp.{serve_app}

-- the value of each option, where it has one
pub record Values : Type 0 where
  pub listen : Option Text
  pub dir : Option Text
  pub user : Option Text
  pub password : Option Text
  pub members : Option Text

-- the value of an option by its name, with the words that set it and its default
unfoldable pub value_of : Text → List Text → Option Text
value_of name words = first_of name (matches_of serve_app words)

abbrev pub told : List Text → Values
told words = record {
  listen = value_of (codes "listen") words;
  dir = value_of (codes "dir") words;
  user = value_of (codes "user") words;
  password = value_of (codes "password") words;
  members = value_of (codes "members") words;
}

abbrev pub values_of : Options → Values
values_of o = record {
  listen = option_map (λ s. s.now) o.listen;
  dir = option_map (λ s. s.now) o.dir;
  user = option_map (λ s. s.now) o.user;
  password = option_map (λ s. s.now) o.password;
  members = option_map (λ s. s.now) o.members;
}
