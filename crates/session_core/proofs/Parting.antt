-- What pieces of a peer's bytes make together.
use Rattle.std.proofs.Common.{◌≡◌, ℕ, List, [], ◌∷◌, ◌++◌, None, sym, ap, subst, ◌∙◌, append_assoc}
use Rattle.command_fields.specs.declared.response.ResponseCode.{ResponseCode}
use Rattle.command_fields.specs.declared.response.ResponseCode.TheVariants as code
use Rattle.command_all.specs.declared.command.Command.{Command}
use Rattle.command_all.specs.declared.identity.Identity.{Identity}
use Rattle.command_all.proofs.Readings.{SpelledFront, fronts_join}
use Rattle.hub_terms.specs.Meaning.{HubMeaning}
use Rattle.session_tables.specs.declared.reply.Reply.{Reply}
use Rattle.session_tables.specs.declared.tables.Tables.{Tables}
use Rattle.session_core.specs.Feeding.{CommandSteps, Answered, Closing, Fed, Partly, Ended, Unspelt, TooLarge}
use Rattle.session_core.specs.Joins.{PiecesJoin}
use Rattle.session_core.proofs.Standing.{closed_ends}

pub steps_join : {S : Type 0} (m : HubMeaning S) (who : Identity) (now : ℕ) (cs ds : List Command) (old mid new : Tables) (first second : List Reply) (h0 h h1 : S)
    → CommandSteps m who now old cs first mid h0 h → CommandSteps m who now mid ds second new h h1 → CommandSteps m who now old (cs ++ ds) (first ++ second) new h0 h1
steps_join {S} m who now [] ds old mid new first second h0 h h1 one two =
    let a : CommandSteps m who now old ds second new h h1 = subst (λ (t : Tables). CommandSteps m who now t ds second new h h1) one.1 two in
    let b : CommandSteps m who now old ds second new h0 h1 = subst (λ (x : S). CommandSteps m who now old ds second new x h1) one.2 a in
    subst (λ (said : List Reply). CommandSteps m who now old ds said new h0 h1) (ap (λ (x : List Reply). x ++ second) (sym one.0)) b
steps_join m who now (c ∷ cs) ds old mid new first second h0 h h1 (said, rest, t, x, is, step, more) two =
    (said, rest ++ second, t, x, ap (λ (y : List Reply). y ++ second) is ∙ append_assoc said rest second, step, steps_join m who now cs ds t mid new rest second x h h1 more two)

front : {S : Type 0} (m : HubMeaning S) (who : Identity) (now max : ℕ) (bytes : List ℕ) (old : Tables) (said : List Reply) (new : Tables) (rest : List ℕ) (h0 h1 : S) (a : Answered m who now max bytes old said new rest h0 h1) → SpelledFront max bytes a.commands rest
front m who now max bytes old said new rest h0 h1 a = record { bodies = a.bodies; whole = a.whole; each = a.each; spelled = a.spelled }

answered_join : {S : Type 0} (m : HubMeaning S) (who : Identity) (now max : ℕ) (bytes more rest left : List ℕ) (old mid new : Tables) (first second : List Reply) (h0 h h1 : S)
    → Answered m who now max bytes old first mid rest h0 h → Answered m who now max (rest ++ more) mid second new left h h1 → Answered m who now max (bytes ++ more) old (first ++ second) new left h0 h1
answered_join m who now max bytes more rest left old mid new first second h0 h h1 a b =
    let both = fronts_join max bytes more a.commands b.commands rest left (front m who now max bytes old first mid rest h0 h a) (front m who now max (rest ++ more) mid second new left h h1 b) in
    record {
      bodies = both.bodies;
      commands = a.commands ++ b.commands;
      whole = both.whole;
      each = both.each;
      spelled = both.spelled;
      steps = steps_join m who now a.commands b.commands old mid new first second h0 h h1 a.steps b.steps;
    }

closing_join : {S : Type 0} (m : HubMeaning S) (who : Identity) (now max : ℕ) (bytes more rest left : List ℕ) (old mid new : Tables) (response : ResponseCode) (first second : List Reply) (h0 h h1 : S)
    → Answered m who now max bytes old first mid rest h0 h → Closing m who now max (rest ++ more) mid response second new left h h1 → Closing m who now max (bytes ++ more) old response (first ++ second) new left h0 h1
closing_join m who now max bytes more rest left old mid new response first second h0 h h1 a c = record {
  before = first ++ c.before;
  mid = c.mid;
  answered = answered_join m who now max bytes more rest left old mid c.mid first c.before h0 h h1 a c.answered;
  stands = c.stands;
  reply = c.reply;
  closes = c.closes;
  said_is = ap (λ (x : List Reply). first ++ x) c.said_is ∙ sym (append_assoc first c.before (c.reply ∷ []));
}

behind : {S : Type 0} (m : HubMeaning S) (who : Identity) (now max : ℕ) (bytes more rest left : List ℕ) (old mid new : Tables) (first second : List Reply) (h0 h h1 : S)
    → Answered m who now max bytes old first mid rest h0 h → Fed m who now max (rest ++ more) mid second new left h h1 → Fed m who now max (bytes ++ more) old (first ++ second) new left h0 h1
behind m who now max bytes more rest left old mid new first second h0 h h1 a (Partly b stands partial) = Partly (answered_join m who now max bytes more rest left old mid new first second h0 h h1 a b) stands partial
behind m who now max bytes more rest left old mid new first second h0 h h1 a (Ended b over) = Ended (answered_join m who now max bytes more rest left old mid new first second h0 h h1 a b) over
behind m who now max bytes more rest left old mid new first second h0 h h1 a (Unspelt fault c begins) = Unspelt fault (closing_join m who now max bytes more rest left old mid new code.UnknownFrame first second h0 h h1 a c) begins
behind m who now max bytes more rest left old mid new first second h0 h h1 a (TooLarge size c large) = TooLarge size (closing_join m who now max bytes more rest left old mid new code.FrameTooLarge first second h0 h h1 a c) large

closing_over : {S : Type 0} (m : HubMeaning S) (who : Identity) (now max : ℕ) (bytes : List ℕ) (old : Tables) (response : ResponseCode) (said : List Reply) (new : Tables) (rest : List ℕ) (h0 h1 : S)
    → Closing m who now max bytes old response said new rest h0 h1 → new.ended ≡ None → ⊥
closing_over m who now max bytes old response said new rest h0 h1 c none = closed_ends response c.mid new c.reply c.closes none

-- what was answered, where the session stands
stood : {S : Type 0} (m : HubMeaning S) (who : Identity) (now max : ℕ) (bytes : List ℕ) (old : Tables) (said : List Reply) (new : Tables) (rest : List ℕ) (h0 h1 : S)
    → new.ended ≡ None → Fed m who now max bytes old said new rest h0 h1 → Answered m who now max bytes old said new rest h0 h1
stood m who now max bytes old said new rest h0 h1 none (Partly a stands partial) = a
stood m who now max bytes old said new rest h0 h1 none (Ended a over) = absurd (over none)
stood m who now max bytes old said new rest h0 h1 none (Unspelt fault c begins) = absurd (closing_over m who now max bytes old code.UnknownFrame said new rest h0 h1 c none)
stood m who now max bytes old said new rest h0 h1 none (TooLarge size c large) = absurd (closing_over m who now max bytes old code.FrameTooLarge said new rest h0 h1 c none)

pub joined_pieces : {S : Type 0} (m : HubMeaning S) → PiecesJoin m
joined_pieces m who now max bytes more rest left old mid new first second h0 h h1 none one two =
    behind m who now max bytes more rest left old mid new first second h0 h h1 (stood m who now max bytes old first mid rest h0 h none one) two
