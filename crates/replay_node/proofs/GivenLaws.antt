-- Bytes given in two lines or in one.
use Rattle.std.proofs.Common.{◌≡◌, ℕ, ◌==◌, Bool, true, false, cond, List, [], ◌∷◌, ◌++◌, map, Option, Some, None, refl, sym, ap, subst, ◌∙◌, append_assoc, eq-eqb}
use Rattle.std.proofs.lemmas.List.{map-append}
use Rattle.frame_wire.specs.declared.stream.StreamEnd.TheVariants as ends
use Rattle.frame_wire.proofs.Streams.{cuts_then}
use Rattle.command_data.specs.declared.command.DataCommand.{DataCommand}
use Rattle.frame_commands.specs.Given.{AreSpelled, CommandsOf}
use Rattle.replay_node.specs.declared.session.Offer.{Offer}
use Rattle.replay_node.specs.declared.session.Link.{Link}
use Rattle.replay_node.specs.declared.session.Served.{Served}
use Rattle.replay_node.specs.Commands.{frame_max}
use Rattle.replay_node.specs.Sessions.{joined, behind, and_then, serve, serve_all}
use Rattle.script_text.specs.declared.output.OutputLine.{OutputLine}
use Rattle.replay_node.specs.NodeState.{NodeState, find_link, put_link, send}
use Rattle.replay_node.specs.Laws.{GivesJoin, GivesOnce}
use Rattle.replay_node.proofs.Serving.{behind_twice}
use Rattle.replay_node.proofs.Commanding.{one_reading}

spelled_more : (bodies others : List (List ℕ)) (xs ys : List DataCommand) → AreSpelled bodies xs → AreSpelled others ys → AreSpelled (bodies ++ others) (xs ++ ys)
spelled_more [] others [] ys p q = q
spelled_more [] others (x ∷ xs) ys p q = absurd p
spelled_more (body ∷ bodies) others [] ys p q = absurd p
spelled_more (body ∷ bodies) others (x ∷ xs) ys p q = (p.0, spelled_more bodies others xs ys p.1 q)

-- the commands of a piece, and then those of its rest with the next piece
commands_then : (stream piece : List ℕ) (xs ys : List DataCommand) (mid rest : List ℕ) → CommandsOf frame_max stream xs mid → CommandsOf frame_max (mid ++ piece) ys rest → CommandsOf frame_max (stream ++ piece) (xs ++ ys) rest
commands_then stream piece xs ys mid rest p q = record {
  bodies = p.bodies ++ q.bodies;
  framed = cuts_then frame_max stream piece p.bodies q.bodies mid rest ends.Open p.framed q.framed;
  spelled = spelled_more p.bodies q.bodies xs ys p.spelled q.spelled;
}

-- ---- commands served one after the other

none_first : (publishers : List ℕ) (o : Option Served) → o ≡ behind (record { answers = []; publishers = publishers; offers = [] }) o
none_first publishers None = refl
none_first publishers (Some served) = refl

behind_then : (one : Served) (o : Option Served) (f : Served → Option Served) → ((a b : Served) → a.publishers ≡ b.publishers → f a ≡ f b) → behind one (and_then o f) ≡ and_then (behind one o) f
behind_then one None f same = refl
behind_then one (Some served) f same = behind_twice one served (f served) ∙ ap (behind (joined one served)) (same served (joined one served) refl)

first_then : (c : ℕ) (stream : List ℕ) (xs ys : List DataCommand) (o : Option Served)
    → ((publishers : List ℕ) → serve_all c stream publishers (xs ++ ys) ≡ and_then (serve_all c stream publishers xs) (λ s. serve_all c stream s.publishers ys))
    → and_then o (λ s. serve_all c stream s.publishers (xs ++ ys)) ≡ and_then (and_then o (λ s. serve_all c stream s.publishers xs)) (λ s. serve_all c stream s.publishers ys)
first_then c stream xs ys None rest = refl
first_then c stream xs ys (Some one) rest =
    ap (behind one) (rest one.publishers)
    ∙ behind_then one (serve_all c stream one.publishers xs) (λ s. serve_all c stream s.publishers ys) (λ a b e. ap (λ (l : List ℕ). serve_all c stream l ys) e)

serve_then : (c : ℕ) (stream : List ℕ) (xs ys : List DataCommand) (publishers : List ℕ) → serve_all c stream publishers (xs ++ ys) ≡ and_then (serve_all c stream publishers xs) (λ s. serve_all c stream s.publishers ys)
serve_then c stream [] ys publishers = none_first publishers (serve_all c stream publishers ys)
serve_then c stream (x ∷ xs) ys publishers = first_then c stream xs ys (serve c stream publishers x) (λ l. serve_then c stream xs ys l)

-- ---- the connection in its place twice

find_put_by : (n : ℕ) (new x : Link) (links : List Link) (b : Bool) → (x.number == n) ≡ b → new.number ≡ n → (link : Link) → cond b (Some x) (find_link n links) ≡ Some link
    → (find_link n links ≡ Some link → find_link n (put_link new links) ≡ Some new) → find_link n (cond b (new ∷ links) (x ∷ put_link new links)) ≡ Some new
find_put_by n new x links true is number link there f = ap (λ (t : Bool). cond t (Some new) (find_link n links)) (eq-eqb new.number n number)
find_put_by n new x links false is number link there f = ap (λ (t : Bool). cond t (Some x) (find_link n (put_link new links))) is ∙ f there

find_put : (new link : Link) (links : List Link) → find_link new.number links ≡ Some link → find_link new.number (put_link new links) ≡ Some new
find_put new link [] there = absurd cc
find_put new link (x ∷ links) there = find_put_by new.number new x links (x.number == new.number) refl refl link there (λ rest. find_put new link links rest)

put_twice_by : (a b x : Link) (links : List Link) (t : Bool) → a.number ≡ b.number → (x.number == a.number) ≡ t → put_link b (put_link a links) ≡ put_link b links
    → put_link b (cond t (a ∷ links) (x ∷ put_link a links)) ≡ cond t (b ∷ links) (x ∷ put_link b links)
put_twice_by a b x links true same is rest = ap (λ (t : Bool). cond t (b ∷ links) (a ∷ put_link b links)) (eq-eqb a.number b.number same)
put_twice_by a b x links false same is rest =
    ap (λ (t : Bool). cond t (b ∷ put_link a links) (x ∷ put_link b (put_link a links))) (ap (λ (n : ℕ). x.number == n) (sym same) ∙ is) ∙ ap (λ (l : List Link). x ∷ l) rest

put_twice : (a b : Link) (links : List Link) → a.number ≡ b.number → put_link b (put_link a links) ≡ put_link b links
put_twice a b [] same = refl
put_twice a b (x ∷ links) same =
    put_twice_by a b x links (x.number == a.number) same refl (put_twice a b links same) ∙ ap (λ (n : ℕ). cond (x.number == n) (b ∷ links) (x ∷ put_link b links)) same

-- ---- the laws

abbrev after_give : NodeState → ℕ → List ℕ → Served → NodeState
after_give old c rest served = record old { links = put_link (record { number = c; rest = rest; publishers = served.publishers }) old.links; queued = old.queued ++ served.offers }

pub gives_join : GivesJoin
gives_join old mid new c first second outputs more p q =
    let a : Link = record { number = c; rest = p.rest; publishers = p.served.publishers } in
    let b : Link = record { number = c; rest = q.rest; publishers = q.served.publishers } in
    let there : find_link c (put_link a old.links) ≡ Some a = find_put a p.link old.links p.is_there in
    let found : Some a ≡ Some q.link = sym there ∙ ap (λ (n : NodeState). find_link c n.links) (sym p.is) ∙ q.is_there in
    let link : q.link ≡ a = cc in
    let name_is : Some p.stream ≡ Some q.stream = sym p.is_live ∙ ap (λ (n : NodeState). n.stream) (sym p.is) ∙ q.is_live in
    let name : q.stream ≡ p.stream = cc in
    let reads : CommandsOf frame_max (p.rest ++ second) q.commands q.rest = subst (λ (l : Link). CommandsOf frame_max (l.rest ++ second) q.commands q.rest) link q.reads in
    let all = commands_then (p.link.rest ++ first) second p.commands q.commands p.rest q.rest p.reads reads in
    let behind_first : serve_all c p.stream p.served.publishers q.commands ≡ Some q.served =
    ap (λ (l : Link). serve_all c p.stream l.publishers q.commands) (sym link) ∙ ap (λ (s : List ℕ). serve_all c s q.link.publishers q.commands) (sym name) ∙ q.serves in
    let serves : serve_all c p.stream p.link.publishers (p.commands ++ q.commands) ≡ Some (joined p.served q.served) =
    serve_then c p.stream p.commands q.commands p.link.publishers
    ∙ ap (λ (o : Option Served). and_then o (λ s. serve_all c p.stream s.publishers q.commands)) p.serves ∙ ap (behind p.served) behind_first in
    let same : after_give (after_give old c p.rest p.served) c q.rest q.served ≡ after_give old c q.rest (joined p.served q.served) =
    ap (λ (l : List Link). record old { links = l; queued = (old.queued ++ p.served.offers) ++ q.served.offers }) (put_twice a b old.links refl)
    ∙ ap (λ (l : List Offer). record old { links = put_link b old.links; queued = l }) (append_assoc old.queued p.served.offers q.served.offers) in
    record {
      stream = p.stream;
      is_live = p.is_live;
      link = p.link;
      is_there = p.is_there;
      commands = p.commands ++ q.commands;
      rest = q.rest;
      reads = subst (λ (l : List ℕ). CommandsOf frame_max l (p.commands ++ q.commands) q.rest) (append_assoc p.link.rest first second) all;
      served = joined p.served q.served;
      serves = serves;
      written = ap (λ (l : List OutputLine). l ++ more) p.written ∙ ap (λ (l : List OutputLine). map (send c) p.served.answers ++ l) q.written ∙ sym (map-append (send c) p.served.answers q.served.answers);
      is = q.is ∙ ap (λ (n : NodeState). after_give n c q.rest q.served) p.is ∙ same;
    }

pub gives_once : GivesOnce
gives_once old one other c bytes outputs others p q =
    let found : Some p.link ≡ Some q.link = sym p.is_there ∙ q.is_there in
    let link : q.link ≡ p.link = cc in
    let name_is : Some p.stream ≡ Some q.stream = sym p.is_live ∙ q.is_live in
    let name : q.stream ≡ p.stream = cc in
    let reads : CommandsOf frame_max (p.link.rest ++ bytes) q.commands q.rest = subst (λ (l : Link). CommandsOf frame_max (l.rest ++ bytes) q.commands q.rest) link q.reads in
    let read = one_reading (p.link.rest ++ bytes) q.commands p.commands q.rest p.rest reads p.reads in
    let serves : Some p.served ≡ Some q.served =
    sym p.serves ∙ ap (serve_all c p.stream p.link.publishers) (sym read.0) ∙ ap (λ (l : Link). serve_all c p.stream l.publishers q.commands) (sym link) ∙ ap (λ (s : List ℕ). serve_all c s q.link.publishers q.commands) (sym name) ∙ q.serves in
    let served : q.served ≡ p.served = cc in (
      p.written ∙ ap (λ (s : Served). map (send c) s.answers) (sym served) ∙ sym q.written,
      p.is ∙ ap (λ (r : List ℕ). after_give old c r p.served) (sym read.1) ∙ ap (after_give old c q.rest) (sym served) ∙ sym q.is,
    )
