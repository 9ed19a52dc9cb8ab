-- Commands served one after the other.
use Rattle.std.proofs.Common.{◌≡◌, ℕ, true, false, List, [], ◌∷◌, ◌++◌, length, Option, Some, None, refl, sym, ap, ◌∙◌, append_assoc, arith}
use Rattle.std.proofs.lemmas.List.{append-nil}
use Rattle.command_data.specs.declared.command.DataCommand.{DataCommand}
use Rattle.replay_node.specs.declared.session.Offer.{Offer}
use Rattle.replay_node.specs.declared.session.Served.{Served}
use Rattle.replay_node.specs.Sessions.{joined, behind, and_then, serve, serve_all, ServesOne}

abbrev served_with : List DataCommand → List ℕ → List Offer → Served
served_with answers publishers offers = record { answers = answers; publishers = publishers; offers = offers }

joined_twice : (a b c : Served) → joined (joined a b) c ≡ joined a (joined b c)
joined_twice a b c =
    ap (λ (l : List DataCommand). served_with l c.publishers ((a.offers ++ b.offers) ++ c.offers)) (append_assoc a.answers b.answers c.answers)
    ∙ ap (λ (l : List Offer). served_with (a.answers ++ (b.answers ++ c.answers)) c.publishers l) (append_assoc a.offers b.offers c.offers)

pub behind_twice : (a b : Served) (o : Option Served) → behind a (behind b o) ≡ behind (joined a b) o
behind_twice a b None = refl
behind_twice a b (Some c) = ap Some (sym (joined_twice a b c))

-- nothing was served yet
pub serve_start : (connection : ℕ) (stream publishers : List ℕ) (commands : List DataCommand) (o : Option Served) → o ≡ behind (record { answers = []; publishers = publishers; offers = [] }) o
serve_start connection stream publishers commands None = refl
serve_start connection stream publishers commands (Some served) = refl

-- how far the serving of commands is
abbrev pub ServesRest : ℕ → List ℕ → List ℕ → List DataCommand → Served → List DataCommand → Type 0
ServesRest connection stream publishers commands served rest = serve_all connection stream publishers commands ≡ behind served (serve_all connection stream served.publishers rest)

pub rest_start : (connection : ℕ) (stream publishers : List ℕ) (commands : List DataCommand) → ServesRest connection stream publishers commands (record { answers = []; publishers = publishers; offers = [] }) commands
rest_start connection stream publishers commands = serve_start connection stream publishers commands (serve_all connection stream publishers commands)

one_more : (connection : ℕ) (stream : List ℕ) (old new : Served) (rest : List DataCommand) (o : Option Served) → ServesOne true o old new
    → behind old (and_then o (λ served. serve_all connection stream served.publishers rest)) ≡ behind new (serve_all connection stream new.publishers rest)
one_more connection stream old new rest None serves = absurd cc
one_more connection stream old new rest (Some one) serves =
    behind_twice old one (serve_all connection stream one.publishers rest) ∙ ap (λ (s : Served). behind s (serve_all connection stream s.publishers rest)) (sym serves.1)

pub rest_more : (connection : ℕ) (stream publishers : List ℕ) (commands : List DataCommand) (old new : Served) (command : DataCommand) (rest : List DataCommand) → ServesRest connection stream publishers commands old (command ∷ rest)
    → ServesOne true (serve connection stream old.publishers command) old new → ServesRest connection stream publishers commands new rest
rest_more connection stream publishers commands old new command rest so_far serves =
    so_far ∙ one_more connection stream old new rest (serve connection stream old.publishers command) serves

one_stops : (connection : ℕ) (stream : List ℕ) (old new : Served) (rest : List DataCommand) (o : Option Served) → ServesOne false o old new → behind old (and_then o (λ served. serve_all connection stream served.publishers rest)) ≡ None
one_stops connection stream old new rest None serves = refl
one_stops connection stream old new rest (Some one) serves = absurd cc

pub rest_stops : (connection : ℕ) (stream publishers : List ℕ) (commands : List DataCommand) (old new : Served) (command : DataCommand) (rest : List DataCommand) → ServesRest connection stream publishers commands old (command ∷ rest)
    → ServesOne false (serve connection stream old.publishers command) old new → serve_all connection stream publishers commands ≡ None
rest_stops connection stream publishers commands old new command rest so_far serves =
    so_far ∙ one_stops connection stream old new rest (serve connection stream old.publishers command) serves

pub rest_end : (connection : ℕ) (stream publishers : List ℕ) (commands : List DataCommand) (served : Served) → ServesRest connection stream publishers commands served [] → serve_all connection stream publishers commands ≡ Some served
rest_end connection stream publishers commands served so_far =
    so_far ∙ ap Some (ap (λ (l : List DataCommand). served_with l served.publishers (served.offers ++ [])) (append-nil served.answers) ∙ ap (λ (l : List Offer). served_with served.answers served.publishers l) (append-nil served.offers))

pub nothing_left : {X : Type 0} (l : List X) → length l ≡ 0 → l ≡ []
nothing_left [] e = refl
nothing_left (x ∷ xs) e = absurd (omega (arith, e))
