-- The command of `serve` has rules that can be decided.
use Rattle.std.proofs.Common.{◌≡◌, ℕ, List, Result, true, refl, subst, ap, ◌∙◌}
use Rattle.clap.specs.Words.{App, Text, fault_of, is_simple_and_free, is_simple, FailsBy, first_of, first_value, matches_of, rows_of}
use Rattle.clap.specs.declared.parser.matches.Found.{Found}
use Rattle.clap.specs.declared.error.Error.{Error}
use Rattle.clap.proofs.WalkLemmas.{first_value-rows}
use Rattle.serve_words.specs.Told.{value_of}
use Rattle.serve_words.specs.ServeApp.{serve_app}

serve_simple : is_simple_and_free serve_app ≡ true
serve_simple = refl

pub refusals : {T : Type 0} (app : App) (words : List (List ℕ)) (r : Result T Error) → app ≡ serve_app → (is_simple_and_free app ≡ true → FailsBy (fault_of app words) r) → FailsBy (fault_of serve_app words) r
refusals app words r is h = subst (λ (a : App). is_simple_and_free a ≡ true → FailsBy (fault_of a words) r) is h serve_simple

pub told_by : (f : Found) (app : App) (words : List Text) (name : Text) → app ≡ serve_app → (is_simple app ≡ true → rows_of f ≡ matches_of app words) → first_value f name ≡ value_of name words
unfolding value_of
told_by f app words name is h = first_value-rows f name ∙ ap (first_of name) (subst (λ (a : App). is_simple a ≡ true → rows_of f ≡ matches_of a words) is h refl)
