-- How a run goes on, where its next event allows one way only.
use Rattle.std.proofs.Common.{◌≡◌, ℕ, ◌+◌, ◌==◌, ◌≤◌, Bool, true, false, cond, List, [], ◌∷◌, ◌++◌, length, Some, None, refl, sym, ap, subst, ◌∙◌, eq-eqb, arith}
use Rattle.std.proofs.lemmas.Bool.{eqb-true}
use Rattle.chunk_format.specs.declared.chunk.Chunk.{Chunk}
use Rattle.command_fields.specs.Tables.{IsCommand, body_of}
use Rattle.command_all.specs.declared.command.Command.{Command}
use Rattle.command_all.specs.Commands.{command_table, frame_of}
use Rattle.command_all.specs.Reading.{ReadingEnd, Partial, Reading}
use Rattle.command_all.proofs.Readings.{one_reading as same_reading}
use Rattle.script_text.specs.declared.script.ScriptLine.TheVariants as script
use Rattle.list_machine.specs.Streams.{unmade, live, Stream, no_stream}
use Rattle.list_machine.specs.Moves.{Move, begins, commits, declares, MoveStep, StreamRun}
use Rattle.list_machine.specs.Machines.{Doing, making, Connection, fresh, no_connection, Machine, empty_machine, put, Moves, nowhere, only, begun}
use Rattle.list_machine.specs.Lines.{frame_max, Gives}
use Rattle.list_machine.specs.Steps.{Event, read, committed, MachineStep, MachineRun}
use Rattle.list_machine.specs.Examples.{s_name, opening, machine_of, stream_of, connection_of, prepared, gives, a_stream_made}

-- ---- a machine with one stream and one connection

-- the machine has this stream, this connection, and no others
pub record Stands (m : Machine) (s : Stream) (k : Connection) : Type 0 where
  pub streams : (n : ℕ) → m.streams n ≡ cond (n == 1) s no_stream
  pub connections : (n : ℕ) → m.connections n ≡ cond (n == 1) k no_connection

pub written : (s : Stream) (k : Connection) (d : Doing) → Stands (machine_of s k d) s k
written s k d = record { streams = λ n. refl; connections = λ n. refl }

-- what a run comes to before these events
pub record Comes (s : Stream) (k : Connection) (events : List Event) (new : Machine) : Type 0 where
  pub mid : Machine
  pub stands : Stands mid s k
  pub rest : MachineRun mid events new

-- a step from such a machine leads to such a machine
abbrev pub Leads : Stream → Connection → Event → Stream → Connection → Type 0
Leads s k event t j = (m new : Machine) → Stands m s k → MachineStep m event new → Stands new t j

pub comes_by : {s t : Stream} {k j : Connection} {event : Event} {events : List Event} {new : Machine} → Leads s k event t j → Comes s k (event ∷ events) new → Comes t j events new
comes_by leads c = record { mid = c.rest.0; stands = leads c.mid c.rest.0 c.stands c.rest.1; rest = c.rest.2 }

-- ---- from moves and connections

-- the moves lead the stream here
abbrev pub LeadsTo : Stream → List Move → Stream → Type 0
LeadsTo s l t = (u : Stream) → StreamRun s l u → u ≡ t

pub stays : (s : Stream) → LeadsTo s [] s
stays s u run = run

pub stands_by : (m new : Machine) (s t : Stream) (k j : Connection) (event : Event) (l : List Move) → Stands m s k → (step : MachineStep m event new) → ((n : ℕ) → step.moves n ≡ cond (n == 1) l [])
    → LeadsTo s l t → ((n : ℕ) → step.after.connections n ≡ cond (n == 1) j no_connection) → Stands new t j
stands_by m new s t k j event l stands step moves leads connections = record {
  streams = λ n. go (n == 1) (new.streams n)
      (subst (λ (l : List Move). StreamRun (cond (n == 1) s no_stream) l (new.streams n)) (moves n) (subst (λ (x : Stream). StreamRun x (step.moves n) (new.streams n)) (stands.streams n) (step.streams n)));
  connections = λ n. step.connections n ∙ connections n;
}
  where
    go : (b : Bool) (u : Stream) → StreamRun (cond b s no_stream) (cond b l []) u → u ≡ cond b t no_stream
    go true u run = leads u run
    go false u run = run

-- the connection stays, or is put in its place
pub same_link : (m after : Machine) (s : Stream) (k : Connection) → Stands m s k → ((n : ℕ) → after.connections n ≡ m.connections n) → (n : ℕ) → after.connections n ≡ cond (n == 1) k no_connection
same_link m after s k stands same n = same n ∙ stands.connections n

pub new_link : (m : Machine) (s : Stream) (k j x : Connection) → Stands m s k → x ≡ j → (n : ℕ) → put 1 x m.connections n ≡ cond (n == 1) j no_connection
new_link m s k j x stands is n = go (n == 1) (stands.connections n)
  where
    go : (b : Bool) → m.connections n ≡ cond b k no_connection → cond b x (m.connections n) ≡ cond b j no_connection
    go true e = is
    go false e = e

no_moves : (n : ℕ) → ◌≡◌ {A = List Move} [] (cond (n == 1) [] [])
no_moves n = go (n == 1)
  where
    go : (b : Bool) → ◌≡◌ {A = List Move} [] (cond b [] [])
    go true = refl
    go false = refl

-- a step without moves
pub stands_still : (m new : Machine) (s : Stream) (k j : Connection) (event : Event) → Stands m s k → (step : MachineStep m event new) → step.moves ≡ nowhere
    → ((n : ℕ) → step.after.connections n ≡ cond (n == 1) j no_connection) → Stands new s j
stands_still m new s k j event stands step none connections =
    stands_by m new s s k j event [] stands step (λ n. ap (λ (f : Moves). f n) none ∙ no_moves n) (stays s) connections

-- ---- the one stream

unmade_is_not_live : unmade ≡ live → ⊥
unmade_is_not_live e = cc

-- only the stream of number 1 is live
pub live_is_one : (m : Machine) (s : Stream) (k : Connection) (number : ℕ) → Stands m s k → (m.streams number).life ≡ live → number ≡ 1
live_is_one m s k number stands is = go (number == 1) refl (ap (λ (x : Stream). x.life) (sym (stands.streams number)) ∙ is)
  where
    go : (b : Bool) → (number == 1) ≡ b → (cond b s no_stream).life ≡ live → number ≡ 1
    go true e is = eqb-true number 1 e
    go false e is = absurd (unmade_is_not_live is)

pub own_at : (n : ℕ) (s t : Stream) (l : List Move) → StreamRun s (only n l n) t → StreamRun s l t
own_at n s t l run = subst (λ (b : Bool). StreamRun s (cond b l []) t) (eq-eqb n n refl) run

-- the first of a stream's moves is a step
pub record Moved (s : Stream) (move : Move) : Type 0 where
  pub mid : Stream
  pub step : MoveStep s move mid

pub moved_at : (n : ℕ) (m new : Machine) (moves : Moves) (move : Move) → moves ≡ only n (move ∷ []) → StreamRun (m.streams n) (moves n) (new.streams n) → Moved (m.streams n) move
moved_at n m new moves move is run =
    let r = own_at n (m.streams n) (new.streams n) (move ∷ []) (subst (λ (f : Moves). StreamRun (m.streams n) (f n) (new.streams n)) is run) in
    record { mid = r.0; step = r.1 }

-- moves at a stream that is live are those of stream 1
pub moves_of_one : (m : Machine) (s : Stream) (k : Connection) (number : ℕ) (moves : Moves) (l : List Move) → Stands m s k → (m.streams number).life ≡ live → moves ≡ only number l → (n : ℕ) → moves n ≡ cond (n == 1) l []
moves_of_one m s k number moves l stands is_live is n =
    ap (λ (f : Moves). f n) is ∙ ap (λ (i : ℕ). only i l n) (live_is_one m s k number stands is_live)

-- ---- a commit

abbrev pub pushed : Stream → Chunk → Stream
pushed s c = record s { chunks = s.chunks ++ c ∷ []; seen = s.chunks ++ c ∷ [] }

pub leads_commit : (s : Stream) (k : Connection) (c : Chunk) → Leads s k (committed 1 c) (pushed s c) k
leads_commit s k c m new stands step =
    stands_by m new s (pushed s c) k k (committed 1 c) (commits c ∷ []) stands step (λ n. ap (λ (f : Moves). f n) step.does.0) (λ u run. run.2 ∙ run.1.is)
    (same_link m step.after s k stands (λ n. ap (λ (x : Machine). x.connections n) step.does.1))

-- ---- a stream is made

abbrev pub bare_stream : Stream
bare_stream = stream_of [] [] [] []

begun_at : (name : List ℕ) (last n : ℕ) → last ≡ 0 → begun last None (Some name ∷ []) n ≡ cond (n == 1) (begins (Some name) None ∷ []) []
begun_at name last n is = ap (λ (i : ℕ). cond (n == i + 1) (begins (Some name) None ∷ []) []) is

begins_one : LeadsTo no_stream (begins (Some s_name) None ∷ []) bare_stream
begins_one u run =
    let text = run.1.text_is in
    let name : s_name ≡ run.1.name = cc in
    run.2 ∙ run.1.is ∙ ap (λ (n : List ℕ). record no_stream { life = live; name = n; super = None }) (sym name)

-- from nothing, a stream that is made and opens
pub comes_made : (events : List Event) (new : Machine) → MachineRun empty_machine (a_stream_made ++ events) new → Comes (stream_of (opening ∷ []) [] [] []) no_connection events new
comes_made events new run =
    let first = run.1 in
    let second = run.2.1 in
    let made_name : s_name ≡ second.does.name = is_making s_name second.does.name (sym (ap (λ (x : Machine). x.doing) first.does.reads.1) ∙ sym first.doing ∙ second.does.is_making) in
    let mid : Comes bare_stream no_connection (committed 1 opening ∷ events) new = record {
      mid = run.2.0;
      stands = record {
        streams = λ n. go n (n == 1) (run.0.streams n) (run.2.0.streams n)
            (subst (λ (f : Moves). StreamRun no_stream (f n) (run.0.streams n)) first.does.reads.0 (first.streams n))
            (subst (λ (l : List Move). StreamRun (run.0.streams n) l (run.2.0.streams n))
            (ap (λ (f : Moves). f n) second.does.moves_are
            ∙ ap (λ (x : List ℕ). begun run.0.last None (Some x ∷ []) n) (sym made_name)
            ∙ begun_at s_name run.0.last n (first.last ∙ ap (λ (x : Machine). x.last) first.does.reads.1))
            (second.streams n));
        connections = λ n. second.connections n ∙ ap (λ (x : Machine). x.connections n) second.does.after_is ∙ first.connections n
            ∙ ap (λ (x : Machine). x.connections n) first.does.reads.1 ∙ nobody n (n == 1);
      };
      rest = run.2.2;
    } in
    comes_by (leads_commit bare_stream no_connection opening) mid
  where
    is_making : (a b : List ℕ) → making a ≡ making b → a ≡ b
    is_making a b e = cc

    go : (n : ℕ) (b : Bool) (x y : Stream) → StreamRun no_stream [] x → StreamRun x (cond b (begins (Some s_name) None ∷ []) []) y → y ≡ cond b bare_stream no_stream
    go n true x y first second = begins_one y (subst (λ (z : Stream). StreamRun z (begins (Some s_name) None ∷ []) y) first second)
    go n false x y first second = second ∙ first

    nobody : (n : ℕ) (b : Bool) → no_connection ≡ cond b no_connection no_connection
    nobody n true = refl
    nobody n false = refl

-- ---- a connection is prepared, and gives

pub leads_prepare : (s : Stream) → Leads s no_connection (read (script.Prepare 1 s_name)) (record s { declarations = s.declarations ++ prepared ∷ [] }) fresh
leads_prepare s m new stands step =
    let r = step.does.reads in
    stands_by m new s (record s { declarations = s.declarations ++ prepared ∷ [] }) no_connection fresh (read (script.Prepare 1 s_name)) (declares 1 0 None ∷ []) stands step
    (moves_of_one m s no_connection r.1 step.moves (declares 1 0 None ∷ []) stands r.2.0 r.3) (λ u run. run.2 ∙ run.1.is)
    (λ n. ap (λ (x : Machine). x.connections n) r.4 ∙ new_link m s no_connection fresh fresh stands refl n)

-- the one way in which a fresh connection takes the frame of a command
gives_one : (c : Command) (k new : Connection) → k ≡ fresh → IsCommand command_table c → length (body_of command_table c) ≤ frame_max → Reading frame_max (frame_of c) (c ∷ []) [] Partial
    → Gives k.phase k (frame_of c) new → new ≡ connection_of (c ∷ []) []
gives_one c k new is command short right g =
    let h = subst (λ (x : Connection). Gives x.phase x (frame_of c) new) is g in
    let same = same_reading frame_max (frame_of c) h.0 (c ∷ []) h.1 [] h.2 Partial (omega arith) h.3 right in
    h.4
    ∙ ap (λ (l : List Command). record fresh { rest = h.1; cut = h.2; inbox = l }) same.0
    ∙ ap (λ (r : List ℕ). record fresh { rest = r; cut = h.2; inbox = c ∷ [] }) same.1
    ∙ ap (λ (e : ReadingEnd). record fresh { rest = []; cut = e; inbox = c ∷ [] }) same.2

pub leads_give : (s : Stream) (c : Command) → IsCommand command_table c → length (body_of command_table c) ≤ frame_max → Reading frame_max (frame_of c) (c ∷ []) [] Partial
    → Leads s fresh (gives c) s (connection_of (c ∷ []) [])
leads_give s c is short right m new stands step =
    let r = step.does.reads in
    let given : r.0 ≡ connection_of (c ∷ []) [] = gives_one c (m.connections 1) r.0 (stands.connections 1) is short right r.1 in
    stands_still m new s fresh (connection_of (c ∷ []) []) (gives c) stands step r.2 (λ n. ap (λ (x : Machine). x.connections n) r.3 ∙ new_link m s fresh (connection_of (c ∷ []) []) r.0 stands given n)
