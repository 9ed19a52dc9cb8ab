-- The commands of a line are handled and answered: a run of the list machine.
use Rattle.std.proofs.Common.{◌≡◌, ℕ, ◌==◌, Bool, true, false, cond, List, [], ◌∷◌, ◌++◌, map, Option, Some, None, refl, sym, ap, subst, ◌∙◌, append_assoc, arith, inl, inr}
use Rattle.std.specs.Prelude.{◌&&◌}
use Rattle.std.specs.List.{AllByRecursion}
use Rattle.std.proofs.lemmas.List.{append-nil, map-append}
use Rattle.frame_wire.specs.Frames.{frame}
use Rattle.chunk_format.specs.declared.entry.Entry.{Entry}
use Rattle.chunk_format.specs.declared.chunk.Chunk.{Chunk}
use Rattle.command_fields.specs.Tables.{body_of, FitsIn}
use Rattle.command_data.specs.declared.item.Tagged.{Tagged}
use Rattle.command_data.specs.declared.command.DataCommand.{DataCommand}
use Rattle.command_data.specs.declared.command.DataCommand.TheVariants.{DeclarePublisher, Publish, PublishError, Credit, CreditFault, Plain}
use Rattle.command_data.specs.Commands.{data_table}
use Rattle.replay_node.specs.declared.session.Offer.{Offer}
use Rattle.replay_node.specs.declared.session.Served.{Served}
use Rattle.replay_node.specs.Sessions.{is_declared, is_unnamed, is_stream, declare_code, declared_ids, declared, refusals, published, credited, serve_all}
use Rattle.script_text.specs.declared.output.OutputLine.{OutputLine}
use Rattle.replay_node.specs.NodeState.{send}
use Rattle.replay_node.specs.Machine.{PublisherState, ConnectionState, Machine, find, put}
use Rattle.replay_node.specs.MachineSteps.{read, Handles, HandleStep, name_of, Declares, Answers, AnswerStep, Event, wrote, handled, MachineStep, MachineRun}
use Rattle.replay_node.specs.Transcripts.{Writes}
use Rattle.replay_node.specs.Shown.{frames_of, publisher_with, publishers_of, stream_with, AreApart}
use Rattle.replay_node.proofs.Laying.{all_append}
use Rattle.replay_node.proofs.Commanding.{InFrame, IsServed, AreFit, serve_cases, serve_step, one_fits}
use Rattle.replay_node.proofs.Pending.{find_put, put_twice, apart_more, among, frames_none, frames_hit, frames_skip, is_own, other_publisher, ids_back, publishers_append, publishers_split, publishers_but_one, IsLocal, local_more, none_of, turned, same_number}

-- ---- a machine with one stream, and a connection with these commands to be served

abbrev pub with_stream : List ℕ → List Chunk → List Entry → List (ℕ × ConnectionState) → Machine
with_stream name ch confirmed connections = record { last = 1; streams = (1, stream_with name ch confirmed) ∷ []; connections = connections }

abbrev pub link_with : List ℕ → List DataCommand → List PublisherState → ConnectionState
link_with rest inbox publishers = record { rest = rest; inbox = inbox; publishers = publishers }

-- what stays the same while commands are served
pub record Place : Type 0 where
  pub name : List ℕ
  pub chunks : List Chunk
  pub confirmed : List Entry
  pub connections : List (ℕ × ConnectionState)
  pub number : ℕ
  pub rest : List ℕ
  pub state : ConnectionState
  pub is_there : find number connections ≡ Some state

abbrev pub machine_at : Place → List DataCommand → List PublisherState → Machine
machine_at p inbox publishers = with_stream p.name p.chunks p.confirmed (put p.number (link_with p.rest inbox publishers) p.connections)

-- ---- one step

moved_on : (p : Place) (inbox later : List DataCommand) (before after : List PublisherState)
    → machine_at p later after ≡ record (machine_at p inbox before) { connections = put p.number (link_with p.rest later after) (put p.number (link_with p.rest inbox before) p.connections) }
moved_on p inbox later before after =
    ap (with_stream p.name p.chunks p.confirmed) (sym (put_twice p.number (link_with p.rest inbox before) (link_with p.rest later after) p.connections))

handle_step : (p : Place) (command : DataCommand) (later : List DataCommand) (before after : List PublisherState) → Handles before command after → HandleStep (machine_at p (command ∷ later) before) p.number (machine_at p later after)
handle_step p command later before after handles = record {
  state = link_with p.rest (command ∷ later) before;
  is_there = find_put p.number p.state (link_with p.rest (command ∷ later) before) p.connections p.is_there;
  command = command;
  later = later;
  first = refl;
  publishers = after;
  handles = handles;
  is = moved_on p (command ∷ later) later before after;
}

answer_step : (p : Place) (command answer : DataCommand) (later : List DataCommand) (before after : List PublisherState) → FitsIn data_table answer → Answers (machine_at p (command ∷ later) before) before command answer after
    → AnswerStep (machine_at p (command ∷ later) before) p.number (frame (body_of data_table answer)) (machine_at p later after)
answer_step p command answer later before after fits answers = record {
  state = link_with p.rest (command ∷ later) before;
  is_there = find_put p.number p.state (link_with p.rest (command ∷ later) before) p.connections p.is_there;
  command = command;
  later = later;
  first = refl;
  body = body_of data_table answer;
  framed = refl;
  answer = answer;
  spells = record { is_command = fits.0; spelled = refl };
  publishers = after;
  answers = answers;
  is = moved_on p (command ∷ later) later before after;
}

-- ---- one command

abbrev pub publishers_at : Place → List Offer → List ℕ → List PublisherState
publishers_at p offers ids = publishers_of p.number offers ids

-- a command is handled or answered
pub record OneRun (p : Place) (command : DataCommand) (later : List DataCommand) (offers : List Offer) (ids : List ℕ) (one : Served) : Type 0 where
  pub event : Event
  pub writes : Writes (event ∷ []) (map (send p.number) one.answers)
  pub step : MachineStep (machine_at p (command ∷ later) (publishers_at p offers ids)) event (machine_at p later (publishers_at p (offers ++ one.offers) one.publishers))
  pub apart : AreApart one.publishers
  pub placed : AllByRecursion (IsLocal p.number one.publishers) (offers ++ one.offers)
  pub own : AllByRecursion (λ (o : Offer). o.connection ≡ p.number) one.offers

with_none : (p : Place) (offers : List Offer) (ids : List ℕ) → publishers_at p offers ids ≡ publishers_at p (offers ++ []) ids
with_none p offers ids = ap (λ (l : List Offer). publishers_at p l ids) (sym (append-nil offers))

local_none : (p : Place) (offers : List Offer) (ids : List ℕ) → AllByRecursion (IsLocal p.number ids) offers → AllByRecursion (IsLocal p.number ids) (offers ++ [])
local_none p offers ids local = subst (AllByRecursion (IsLocal p.number ids)) (sym (append-nil offers)) local

unnamed : (reference : Option (List ℕ)) → is_unnamed reference ≡ true → name_of reference ≡ None
unnamed None e = refl
unnamed (Some []) e = refl
unnamed (Some (b ∷ bytes)) e = absurd (grind arith)

names_by : (x y : ℕ) (a b : List ℕ) (t : Bool) → (x == y) ≡ t → (t && is_stream a (Some b)) ≡ true → (is_stream a (Some b) ≡ true → b ≡ a) → y ∷ b ≡ x ∷ a
names_by x y a b true e both f = ap (λ (n : ℕ). n ∷ b) (sym (same_number x y e)) ∙ ap (λ (l : List ℕ). x ∷ l) (f both)
names_by x y a b false e both f = absurd cc

names_same : (a b : List ℕ) → is_stream a (Some b) ≡ true → b ≡ a
names_same [] [] e = refl
names_same [] (y ∷ b) e = absurd cc
names_same (x ∷ a) [] e = absurd cc
names_same (x ∷ a) (y ∷ b) e = names_by x y a b (x == y) refl e (λ rest. names_same a b rest)

same_name : (stream : List ℕ) (name : Option (List ℕ)) → is_stream stream name ≡ true → name ≡ Some stream
same_name stream None e = absurd cc
same_name stream (Some other) e = ap Some (names_same stream other e)

-- a publisher is declared, and has no frames yet
declares : (p : Place) (corr id : ℕ) (reference name : Option (List ℕ)) (inbox : List DataCommand) (offers : List Offer) (ids : List ℕ) (a b : Bool) → is_unnamed reference ≡ true → is_stream p.name name ≡ a → is_declared id ids ≡ b
    → AllByRecursion (IsLocal p.number ids) offers
    → Declares (machine_at p inbox (publishers_at p offers ids)) (publishers_at p offers ids) id reference name (cond a (cond b 0x11 0x01) 0x02) (publishers_at p offers (declared_ids (cond a (cond b 0x11 0x01) 0x02) ids id))
declares p corr id reference name inbox offers ids false b none e f local = inr ((λ x. absurd (omega (arith, x))), refl)
declares p corr id reference name inbox offers ids true true none e f local = inr ((λ x. absurd (omega (arith, x))), refl)
declares p corr id reference name inbox offers ids true false none e f local =
    let empty : frames_of p.number id offers ≡ [] = frames_none p.number id offers (none_of p.number id ids offers local f) in
    inl (
      refl,
      ap (is_declared id) (ids_back p.number offers ids) ∙ f,
      1,
      stream_with p.name p.chunks p.confirmed,
      refl,
      same_name p.name name e,
      publishers_append p.number offers ids (id ∷ []) ∙ ap (λ (l : List (List Tagged)). publishers_at p offers ids ++ publisher_with id l ∷ []) empty
          ∙ ap (λ (n : Option (List ℕ)). publishers_at p offers ids ++ record { id = id; stream = 1; name = n; unanswered = [] } ∷ []) (sym (unnamed reference none)),
    )

declared_apart : (id : ℕ) (ids : List ℕ) (a b : Bool) → is_declared id ids ≡ b → AreApart ids → AreApart (declared_ids (cond a (cond b 0x11 0x01) 0x02) ids id)
declared_apart id ids false b f apart = apart
declared_apart id ids true true f apart = apart
declared_apart id ids true false f apart = apart_more ids id apart f

declared_local : (c id : ℕ) (ids : List ℕ) (offers : List Offer) (a b : Bool) → AllByRecursion (IsLocal c ids) offers → AllByRecursion (IsLocal c (declared_ids (cond a (cond b 0x11 0x01) 0x02) ids id)) offers
declared_local c id ids offers false b local = local
declared_local c id ids offers true true local = local
declared_local c id ids offers true false local = local_more c ids (id ∷ []) offers local

run_declared : (p : Place) (later : List DataCommand) (offers : List Offer) (ids : List ℕ) (corr id : ℕ) (reference name : Option (List ℕ)) → is_unnamed reference ≡ true → AreApart ids → AllByRecursion (IsLocal p.number ids) offers
    → AreFit (declared p.name ids corr id name) → OneRun p (DeclarePublisher corr id reference name) later offers ids (declared p.name ids corr id name)
run_declared p later offers ids corr id reference name none apart local fit =
    let code : ℕ = declare_code p.name ids id name in
    let new : List ℕ = declared_ids code ids id in
    let a : Bool = is_stream p.name name in
    let b : Bool = is_declared id ids in
    let command : DataCommand = DeclarePublisher corr id reference name in
    let done : Declares (machine_at p (command ∷ later) (publishers_at p offers ids)) (publishers_at p offers ids) id reference name code (publishers_at p offers new) =
    declares p corr id reference name (command ∷ later) offers ids a b none refl refl local in
    record {
      event = wrote (send p.number (Plain 0x8001 corr code));
      writes = (refl, tt);
      step = inr (subst (λ (l : List PublisherState). AnswerStep (machine_at p (command ∷ later) (publishers_at p offers ids)) p.number (frame (body_of data_table (Plain 0x8001 corr code))) (machine_at p later l)) (with_none p offers new)
          (answer_step p command (Plain 0x8001 corr code) later (publishers_at p offers ids) (publishers_at p offers new) fit.answers.0 (refl, refl, done)));
      apart = declared_apart id ids a b refl apart;
      placed = local_none p offers new (declared_local p.number id ids offers a b local);
      own = tt;
    }

run_credited : (p : Place) (later : List DataCommand) (offers : List Offer) (ids : List ℕ) (sub credit : ℕ) → AreApart ids → AllByRecursion (IsLocal p.number ids) offers → AreFit (credited ids sub)
    → OneRun p (Credit sub credit) later offers ids (credited ids sub)
run_credited p later offers ids sub credit apart local fit =
    let command : DataCommand = Credit sub credit in
    record {
      event = wrote (send p.number (CreditFault 0x04 sub));
      writes = (refl, tt);
      step = inr (subst (λ (l : List PublisherState). AnswerStep (machine_at p (command ∷ later) (publishers_at p offers ids)) p.number (frame (body_of data_table (CreditFault 0x04 sub))) (machine_at p later l)) (with_none p offers ids)
          (answer_step p command (CreditFault 0x04 sub) later (publishers_at p offers ids) (publishers_at p offers ids) fit.answers.0 (refl, refl, refl)));
      apart = apart;
      placed = local_none p offers ids local;
      own = tt;
    }

-- a frame is taken: it waits behind the others of its publisher
took : (p : Place) (offers : List Offer) (ids : List ℕ) (id : ℕ) (item : Tagged) (items : List Tagged) → is_declared id ids ≡ true → AreApart ids
    → Handles (publishers_at p offers ids) (Publish id (item ∷ items)) (publishers_at p (offers ++ record { connection = p.number; publisher = id; items = item ∷ items } ∷ []) ids)
took p offers ids id item items there apart =
    let at = among id ids there apart in
    let o : Offer = record { connection = p.number; publisher = id; items = item ∷ items } in
    let more : frames_of p.number id (offers ++ o ∷ []) ≡ frames_of p.number id offers ++ (item ∷ items) ∷ [] = frames_hit p.number id offers [] o (is_own p.number id o refl refl) in
    let same = λ (n : ℕ) (e : (n == id) ≡ false).
    sym (frames_skip p.number n offers [] o (other_publisher p.number n o (turned n id e)) ∙ ap (frames_of p.number n) (append-nil offers)) in (
      publishers_of p.number offers at.before,
      publisher_with id (frames_of p.number id offers),
      publishers_of p.number offers at.after,
      publishers_split p.number id offers ids at,
      refl,
      publishers_but_one p.number id offers (offers ++ o ∷ []) ids at same
          ∙ ap (λ (l : List (List Tagged)). publishers_of p.number offers at.before ++ publisher_with id l ∷ publishers_of p.number offers at.after) more,
    )

local_took : (c : ℕ) (ids : List ℕ) (offers : List Offer) (o : Offer) → is_declared o.publisher ids ≡ true → AllByRecursion (IsLocal c ids) offers → AllByRecursion (IsLocal c ids) (offers ++ o ∷ [])
local_took c ids offers o there local = all_append (IsLocal c ids) offers (o ∷ []) local ((λ own. there), tt)

abbrev published_if : Place → List ℕ → ℕ → Tagged → List Tagged → Bool → Served
published_if p ids id item items b =
    cond b (record { answers = []; publishers = ids; offers = record { connection = p.number; publisher = id; items = item ∷ items } ∷ [] })
    (record { answers = PublishError id (refusals (item ∷ items)) ∷ []; publishers = ids; offers = [] })

run_items : (p : Place) (later : List DataCommand) (offers : List Offer) (ids : List ℕ) (id : ℕ) (item : Tagged) (items : List Tagged) (b : Bool) → is_declared id ids ≡ b → AreApart ids → AllByRecursion (IsLocal p.number ids) offers
    → AreFit (published_if p ids id item items b) → OneRun p (Publish id (item ∷ items)) later offers ids (published_if p ids id item items b)
run_items p later offers ids id item items true there apart local fit =
    let command : DataCommand = Publish id (item ∷ items) in
    let o : Offer = record { connection = p.number; publisher = id; items = item ∷ items } in
    record {
      event = handled p.number;
      writes = tt;
      step = handle_step p command later (publishers_at p offers ids) (publishers_at p (offers ++ o ∷ []) ids) (took p offers ids id item items there apart);
      apart = apart;
      placed = local_took p.number ids offers o there local;
      own = (refl, tt);
    }
run_items p later offers ids id item items false there apart local fit =
    let command : DataCommand = Publish id (item ∷ items) in
    let answer : DataCommand = PublishError id (refusals (item ∷ items)) in
    record {
      event = wrote (send p.number answer);
      writes = (refl, tt);
      step = inr (subst (λ (l : List PublisherState). AnswerStep (machine_at p (command ∷ later) (publishers_at p offers ids)) p.number (frame (body_of data_table answer)) (machine_at p later l)) (with_none p offers ids)
          (answer_step p command answer later (publishers_at p offers ids) (publishers_at p offers ids) fit.answers.0
          (refl, ap (is_declared id) (ids_back p.number offers ids) ∙ there, omega arith, refl, refl)));
      apart = apart;
      placed = local_none p offers ids local;
      own = tt;
    }

run_published : (p : Place) (later : List DataCommand) (offers : List Offer) (ids : List ℕ) (id : ℕ) (items : List Tagged) → AreApart ids → AllByRecursion (IsLocal p.number ids) offers → AreFit (published p.number ids id items)
    → OneRun p (Publish id items) later offers ids (published p.number ids id items)
run_published p later offers ids id [] apart local fit =
    record {
      event = handled p.number;
      writes = tt;
      step = subst (λ (l : List PublisherState). HandleStep (machine_at p (Publish id [] ∷ later) (publishers_at p offers ids)) p.number (machine_at p later l)) (with_none p offers ids)
          (handle_step p (Publish id []) later (publishers_at p offers ids) (publishers_at p offers ids) refl);
      apart = apart;
      placed = local_none p offers ids local;
      own = tt;
    }
run_published p later offers ids id (item ∷ items) apart local fit = run_items p later offers ids id item items (is_declared id ids) refl apart local fit

one_run : (p : Place) (command : DataCommand) (later : List DataCommand) (offers : List Offer) (ids : List ℕ) (one : Served) → AreApart ids → AllByRecursion (IsLocal p.number ids) offers → AreFit one
    → IsServed p.number p.name ids command one → OneRun p command later offers ids one
one_run p command later offers ids one apart local fit (inl (corr, id, reference, name, is, none, same)) =
    subst (λ (s : Served). OneRun p command later offers ids s) (sym same) (subst (λ (c : DataCommand). OneRun p c later offers ids (declared p.name ids corr id name)) (sym is)
    (run_declared p later offers ids corr id reference name none apart local (subst AreFit same fit)))
one_run p command later offers ids one apart local fit (inr (inl (id, items, is, simple, same))) =
    subst (λ (s : Served). OneRun p command later offers ids s) (sym same) (subst (λ (c : DataCommand). OneRun p c later offers ids (published p.number ids id items)) (sym is)
    (run_published p later offers ids id items apart local (subst AreFit same fit)))
one_run p command later offers ids one apart local fit (inr (inr (sub, credit, is, same))) =
    subst (λ (s : Served). OneRun p command later offers ids s) (sym same) (subst (λ (c : DataCommand). OneRun p c later offers ids (credited ids sub)) (sym is)
    (run_credited p later offers ids sub credit apart local (subst AreFit same fit)))

-- ---- all commands

pub record ServeRun (p : Place) (commands : List DataCommand) (offers : List Offer) (ids : List ℕ) (served : Served) : Type 0 where
  pub events : List Event
  pub writes : Writes events (map (send p.number) served.answers)
  pub run : MachineRun (machine_at p commands (publishers_at p offers ids)) events (machine_at p [] (publishers_at p (offers ++ served.offers) served.publishers))
  pub apart : AreApart served.publishers
  pub placed : AllByRecursion (IsLocal p.number served.publishers) (offers ++ served.offers)
  pub own : AllByRecursion (λ (o : Offer). o.connection ≡ p.number) served.offers

pub writes_more : (event : Event) (events : List Event) (xs ys : List OutputLine) → Writes (event ∷ []) xs → Writes events ys → Writes (event ∷ events) (xs ++ ys)
writes_more (wrote output) events [] ys p q = absurd p
writes_more (wrote output) events (x ∷ []) ys p q = (p.0, q)
writes_more (wrote output) events (x ∷ z ∷ xs) ys p q = absurd p.1
writes_more (handled connection) events [] ys p q = q
writes_more (handled connection) events (x ∷ xs) ys p q = absurd p
writes_more (read line) events xs ys p q = absurd p

pub serve_runs : (p : Place) (commands : List DataCommand) (offers : List Offer) (ids : List ℕ) (served : Served) → AllByRecursion InFrame commands → serve_all p.number p.name ids commands ≡ Some served → AreApart ids
    → AllByRecursion (IsLocal p.number ids) offers → ServeRun p commands offers ids served
serve_runs p [] offers ids served frames serves apart local =
    let same : record { answers = []; publishers = ids; offers = [] } ≡ served = cc in
    subst (ServeRun p [] offers ids) same (record {
      events = [];
      writes = tt;
      run = ap (machine_at p []) (sym (with_none p offers ids));
      apart = apart;
      placed = local_none p offers ids local;
      own = tt;
    })
serve_runs p (command ∷ commands) offers ids served frames serves apart local =
    let step = serve_step p.number p.name ids command commands served serves in
    let which = serve_cases p.number p.name ids command step.one step.serves in
    let one = one_run p command commands offers ids step.one apart local (one_fits p.number p.name ids command step.one frames.0 which) which in
    let rest = serve_runs p commands (offers ++ step.one.offers) step.one.publishers step.rest frames.1 step.serves_rest one.apart one.placed in
    let all : (offers ++ step.one.offers) ++ step.rest.offers ≡ offers ++ (step.one.offers ++ step.rest.offers) = append_assoc offers step.one.offers step.rest.offers in
    let answers : map (send p.number) (step.one.answers ++ step.rest.answers) ≡ map (send p.number) step.one.answers ++ map (send p.number) step.rest.answers = map-append (send p.number) step.one.answers step.rest.answers in
    subst (ServeRun p (command ∷ commands) offers ids) (sym step.is) (record {
      events = one.event ∷ rest.events;
      writes = subst (Writes (one.event ∷ rest.events)) (sym answers) (writes_more one.event rest.events (map (send p.number) step.one.answers) (map (send p.number) step.rest.answers) one.writes rest.writes);
      run = (
        machine_at p commands (publishers_at p (offers ++ step.one.offers) step.one.publishers),
        one.step,
        subst (λ (l : List Offer). MachineRun (machine_at p commands (publishers_at p (offers ++ step.one.offers) step.one.publishers)) rest.events (machine_at p [] (publishers_at p l step.rest.publishers))) all rest.run,
      );
      apart = rest.apart;
      placed = subst (AllByRecursion (IsLocal p.number step.rest.publishers)) all rest.placed;
      own = all_append (λ (o : Offer). o.connection ≡ p.number) step.one.offers step.rest.offers one.own rest.own;
    })
