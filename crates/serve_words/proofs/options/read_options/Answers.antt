use Rattle.std.proofs.Common.{Ok, codes, ◌∙◌, ◌≡◌, map}
use Rattle.clap.specs.Words.{Text, found_of, first_value}
use Rattle.serve_words.specs.Told.{value_of}
use Rattle.serve_words.proofs.Addresses.{all_told}
use Rattle.serve_words.proofs.Serving.{refusals, told_by}
use Rattle.serve_words.proofs.options.read_options.Goals as goal

pub returns-clause-refusals : goal.returns-clause-refusals
returns-clause-refusals c = refusals _ _ (Ok c.in_ok-matches.matches) c.in_ok-command.ensures c.in_ok-matches.ensures.kinds

pub returns-clause-told : goal.returns-clause-told
returns-clause-told c =
    let at : (name : Text) → first_value (found_of c.in_ok-matches.matches) name ≡ value_of name (map (λ w. w.now) c.args.words.now) = λ name. told_by (found_of c.in_ok-matches.matches) _ _ name c.in_ok-command.ensures (λ simple. (c.in_ok-matches.ensures.matches simple).0) in
    all_told _ _ _ _ _ _ _ _ _ _ (c.get_str.ensures ∙ at (codes "listen")) (c.get_str-2.ensures ∙ at (codes "dir")) (c.get_str-3.ensures ∙ at (codes "user")) (c.get_str-4.ensures ∙ at (codes "password")) (c.get_str-5.ensures ∙ at (codes "members"))
