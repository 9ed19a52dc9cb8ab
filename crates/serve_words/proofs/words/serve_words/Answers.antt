use Rattle.std.proofs.Common.{Bor, List, ℕ, map, ap, ◌∙◌}
use Rattle.serve_words.proofs.Texts.{not_asked}
use Rattle.serve_words.proofs.words.serve_words.Goals as goal

pub returns-clause-usage : goal.returns-clause-usage
returns-clause-usage c e asked = not_asked c.args.words.now _ asked (ap (map (λ (t : Bor (List ℕ)). t.now)) c.as_slice.ensures.value ∙ c.in_ok-texts.ensures.ok.0) (c.read_words.ensures.usage e asked)
