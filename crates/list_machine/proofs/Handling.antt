-- How a run goes on where a command is handled, an answer is written, or a frame is sent unasked.
use Rattle.std.proofs.Common.{◌≡◌, ℕ, ◌==◌, ◌≤◌, ◌⊎◌, true, false, cond, List, [], ◌∷◌, ◌++◌, length, Option, Some, None, refl, sym, ap, subst, ◌∙◌, inl, inr, arith}
use Rattle.chunk_format.specs.declared.chunk.Chunk.{Chunk}
use Rattle.chunk_format.specs.declared.chunk.Header.{Header}
use Rattle.chunk_format.specs.Chunks.{header_of}
use Rattle.chunk_format.specs.Logs.{next_above}
use Rattle.command_fields.specs.Codes.{number_of_code}
use Rattle.command_fields.specs.declared.property.Property.{Property}
use Rattle.command_fields.specs.declared.offset.OffsetSpec.TheVariants.{First}
use Rattle.command_fields.specs.declared.response.ResponseCode.{ResponseCode}
use Rattle.command_fields.specs.declared.response.ResponseCode.TheVariants as says
use Rattle.command_data.specs.declared.item.Tagged.{Tagged}
use Rattle.command_data.specs.declared.command.DataCommand.TheVariants as data_commands
use Rattle.command_all.specs.declared.command.Command.{Command}
use Rattle.command_all.specs.declared.command.Command.TheVariants.{Data}
use Rattle.list_machine.specs.Streams.{StoredOffset, Frame, Confirmed, Declaration, Subscription, live, Stream, items_of}
use Rattle.list_machine.specs.Publishing.{Declared, turned, known_by, ConfirmStep}
use Rattle.list_machine.specs.Subscribing.{new_subscription, DeliverStep, with_delivery}
use Rattle.list_machine.specs.Moves.{publishes as publish_move, confirms, delivers, StreamRun}
use Rattle.list_machine.specs.Machines.{Connection, fresh, Machine, Moves, nowhere, only}
use Rattle.list_machine.specs.Lines.{linked}
use Rattle.list_machine.specs.Answers.{Act, move_of, acts, declare, publish, subscribe, store, group_of, Outcome, owing, after_by, moves_by, Empty, Taken, Refused, Undeclared, Kept, Dropped, Handles, Served, Untaken, Declares, Subscribes}
use Rattle.list_machine.specs.Sends.{ids_of_items, Sends, Confirms, Delivers, Loses, Asks, Tunes, Beats, SendStep, Owed, Unasked}
use Rattle.list_machine.specs.Steps.{handled, sent, MachineStep}
use Rattle.list_machine.specs.Examples.{s_name, p_name, connection_of, prepared, seven, declares_seven, is_declared, is_subscribed, delivery}
use Rattle.list_machine.specs.Wrongs.{publishes, confirms_ids, subscribes, stores_one}
use Rattle.list_machine.proofs.Going.{Stands, Leads, LeadsTo, stands_by, stands_still, same_link, new_link, live_is_one, moved_at, moves_of_one}

-- ---- lists of one and of two

not_empty : {X : Type 0} (y : X) (before after : List X) → [] ≡ before ++ y ∷ after → ⊥
not_empty y [] after e = cc
not_empty y (b ∷ before) after e = cc

-- the one of a list of one
pub record Alone {X : Type 0} (x y : X) (before after : List X) : Type 0 where
  pub same : x ≡ y
  pub none_before : before ≡ []
  pub none_behind : after ≡ []

pub alone : {X : Type 0} (x y : X) (before after : List X) → x ∷ [] ≡ before ++ y ∷ after → Alone x y before after
alone x y [] after e = record { same = cc; none_before = refl; none_behind = cc }
alone x y (b ∷ before) after e = let tails : [] ≡ before ++ y ∷ after = cc in absurd (not_empty y before after tails)

-- the first of two, or the second
pub one_of_two : {X : Type 0} (x y d : X) (before after : List X) → x ∷ y ∷ [] ≡ before ++ d ∷ after → (x ≡ d) ⊎ ((y ≡ d) × (before ≡ x ∷ []) × (after ≡ []))
one_of_two x y d [] after e = inl cc
one_of_two x y d (b ∷ before) after e =
    let heads : x ≡ b = cc in
    let tails : y ∷ [] ≡ before ++ d ∷ after = cc in
    let rest = alone y d before after tails in
    inr (rest.same, ap (λ (l : List _). b ∷ l) rest.none_before ∙ ap (λ (z : _). z ∷ []) (sym heads), rest.none_behind)

-- ---- a command is handled

-- what is left of the commands that were read, and what is owed
handled_link : (m : Machine) (s : Stream) (c : Command) (answer : Option Command) (later : List Command) → Stands m s (connection_of (c ∷ []) []) → (m.connections 1).inbox ≡ c ∷ later
    → owing later answer (m.connections 1) ≡ owing [] answer (connection_of (c ∷ []) [])
handled_link m s c answer later stands is =
    let inbox : c ∷ [] ≡ c ∷ later = ap (λ (k : Connection). k.inbox) (sym (stands.connections 1)) ∙ is in
    let none : later ≡ [] = cc in
    ap (λ (l : List Command). owing l answer (m.connections 1)) none ∙ ap (owing [] answer) (stands.connections 1)

-- an act at the one stream leads on
leads_act : (m new : Machine) (s t : Stream) (c : Command) (answer : Option Command) (number : ℕ) (act : Act) → Stands m s (connection_of (c ∷ []) []) → (step : MachineStep m (handled 1 c answer) new)
    → step.does.outcome ≡ acts number act → (m.streams number).life ≡ live → LeadsTo s (move_of act ∷ []) t → Stands new t (owing [] answer (connection_of (c ∷ []) []))
leads_act m new s t c answer number act stands step is is_live leads =
    let k = connection_of (c ∷ []) [] in
    let l = move_of act ∷ [] in
    stands_by m new s t k (owing [] answer k) (handled 1 c answer) l stands step
    (moves_of_one m s k number step.moves l stands is_live (step.does.moves_are ∙ ap (moves_by m) is)) leads
    (λ n. ap (λ (x : Machine). x.connections n) (step.does.after_is ∙ ap (after_by m 1 (owing step.does.later answer (m.connections 1))) is)
    ∙ new_link m s k (owing [] answer k) (owing step.does.later answer (m.connections 1)) stands (handled_link m s c answer step.does.later stands step.does.is_first) n)

-- only one code has the number 1
ok_of : (code : ResponseCode) → 1 ≡ number_of_code code → code ≡ says.Ok
ok_of says.Ok e = refl
ok_of says.StreamDoesNotExist e = absurd (omega (arith, e))
ok_of says.SubscriptionIdAlreadyExists e = absurd (omega (arith, e))
ok_of says.SubscriptionIdDoesNotExist e = absurd (omega (arith, e))
ok_of says.StreamAlreadyExists e = absurd (omega (arith, e))
ok_of says.StreamNotAvailable e = absurd (omega (arith, e))
ok_of says.SaslMechanismNotSupported e = absurd (omega (arith, e))
ok_of says.AuthenticationFailure e = absurd (omega (arith, e))
ok_of says.SaslError e = absurd (omega (arith, e))
ok_of says.SaslChallenge e = absurd (omega (arith, e))
ok_of says.AuthenticationFailureLoopback e = absurd (omega (arith, e))
ok_of says.VirtualHostAccessFailure e = absurd (omega (arith, e))
ok_of says.UnknownFrame e = absurd (omega (arith, e))
ok_of says.FrameTooLarge e = absurd (omega (arith, e))
ok_of says.InternalError e = absurd (omega (arith, e))
ok_of says.AccessRefused e = absurd (omega (arith, e))
ok_of says.PreconditionFailed e = absurd (omega (arith, e))
ok_of says.PublisherDoesNotExist e = absurd (omega (arith, e))
ok_of says.NoOffset e = absurd (omega (arith, e))

-- a live stream, and what is done there
pub record ActsAt (m : Machine) (act : Act) (outcome : Outcome) : Type 0 where
  pub number : ℕ
  pub is_live : (m.streams number).life ≡ live
  pub is : outcome ≡ acts number act

-- ---- a publisher is declared

declared_at : (m : Machine) (outcome : Outcome) → Handles m 1 declares_seven (Some is_declared) outcome → ActsAt m (declare 1 7 (Some p_name)) outcome
declared_at m outcome (Served a) =
    let same = a.1 in
    let code : 1 ≡ number_of_code a.0 = cc in
    let d = subst (λ (c : ResponseCode). Declares m 1 7 (Some p_name) (Some s_name) c outcome) (ok_of a.0 code) a.2 in
    record { number = d.0; is_live = d.1.0; is = d.3 }
declared_at m outcome (Untaken closes is) = let other = closes.1 in absurd cc

pub leads_declare : (s : Stream) → Leads s (connection_of (declares_seven ∷ []) []) (handled 1 declares_seven (Some is_declared)) (record s { declarations = s.declarations ++ seven [] ∷ [] }) (connection_of [] (is_declared ∷ []))
leads_declare s m new stands step =
    let at = declared_at m step.does.outcome step.does.handles in
    leads_act m new s (record s { declarations = s.declarations ++ seven [] ∷ [] }) declares_seven (Some is_declared) at.number (declare 1 7 (Some p_name)) stands step at.is at.is_live (λ u run. run.2 ∙ run.1.is)

-- ---- a frame is taken

taken_at : (m : Machine) (items : List Tagged) (outcome : Outcome) → 1 ≤ length items → Handles m 1 (publishes items) None outcome
    → (number : ℕ) × (outcome ≡ acts number (publish 1 7 items))
taken_at m items outcome some (Served (Empty none a is)) = absurd (omega (arith, some, ap length none))
taken_at m items outcome some (Served (Taken number more a is)) = (number, is)
taken_at m items outcome some (Served (Refused number code more a is)) = absurd cc
taken_at m items outcome some (Served (Undeclared more none a is)) = absurd cc
taken_at m items outcome some (Untaken closes is) = let other = closes.1 in absurd cc

-- the stream with a prepared connection, whose publisher 7 sent these frames
abbrev pub frames_of : Stream → List Frame → Stream
frames_of s frames = record s { declarations = prepared ∷ seven frames ∷ [] }

-- of the two publishers 7 is the second
pub seven_of : (s : Stream) (frames : List Frame) → s.declarations ≡ prepared ∷ seven frames ∷ [] → (at : Declared s 1 7) → (seven frames ≡ at.declaration) × (at.before ≡ prepared ∷ []) × (at.after ≡ [])
seven_of s frames is at = elim (one_of_two prepared (seven frames) at.declaration at.before at.after (sym is ∙ at.declared)) [
  | inl e ↦ (let none : 0 ≡ 7 = ap (λ (d : Declaration). d.id) e ∙ at.of_id in absurd (omega (arith, none)))
  | inr e ↦ e
]

-- what is put in place of publisher 7
pub turned_seven : (s : Stream) (frames : List Frame) → s.declarations ≡ prepared ∷ seven frames ∷ [] → (at : Declared s 1 7) → (change : Declaration → Declaration) → turned at (change at.declaration) ≡ prepared ∷ change (seven frames) ∷ []
turned_seven s frames is at change =
    let e = seven_of s frames is at in
    ap (λ (d : Declaration). at.before ++ change d ∷ at.after) (sym e.0) ∙ ap (λ (l : List Declaration). l ++ change (seven frames) ∷ at.after) e.1 ∙ ap (λ (l : List Declaration). prepared ∷ change (seven frames) ∷ l) e.2

publish_leads : (s : Stream) (items : List Tagged) → s.confirmed ≡ [] → LeadsTo (frames_of s []) (publish_move 1 7 items ∷ []) (frames_of s (record { items = items; waits = true } ∷ []))
publish_leads s items none u run =
    let step = run.1 in
    let change : Declaration → Declaration = λ (d : Declaration). record d { frames = d.frames ++ record { items = items; waits = true } ∷ []; known = known_by (items_of d) d.known s.confirmed } in
    run.2 ∙ step.is ∙ ap (λ (l : List Declaration). record s { declarations = l })
    (turned_seven (frames_of s []) [] refl step.at change
    ∙ ap (λ (known : List Confirmed). prepared ∷ record (seven (record { items = items; waits = true } ∷ [])) { known = known } ∷ []) none)

pub leads_publish : (s : Stream) (items : List Tagged) → 1 ≤ length items → s.confirmed ≡ []
    → Leads (frames_of s []) (connection_of (publishes items ∷ []) []) (handled 1 (publishes items) None) (frames_of s (record { items = items; waits = true } ∷ [])) fresh
leads_publish s items some none m new stands step =
    let at = taken_at m items step.does.outcome some step.does.handles in
    let k = connection_of (publishes items ∷ []) [] in
    let moved = moved_at at.0 m new step.moves (publish_move 1 7 items) (step.does.moves_are ∙ ap (moves_by m) at.1) (step.streams at.0) in
    leads_act m new (frames_of s []) (frames_of s (record { items = items; waits = true } ∷ [])) (publishes items) None at.0 (publish 1 7 items) stands step at.1 moved.step.is_live (publish_leads s items none)

-- ---- a subscription starts

subscribed_at : (m : Machine) (credit : ℕ) (properties : Option (List Property)) (outcome : Outcome) → Handles m 1 (subscribes credit properties) (Some is_subscribed) outcome
    → ActsAt m (subscribe 1 3 (group_of properties) First credit) outcome
subscribed_at m credit properties outcome (Served a) =
    let same = a.1 in
    let code : 1 ≡ number_of_code a.0 = cc in
    let d = subst (λ (c : ResponseCode). Subscribes m 1 3 (Some s_name) First credit properties c outcome) (ok_of a.0 code) a.2 in
    record { number = d.0; is_live = d.1.0; is = d.3 }
subscribed_at m credit properties outcome (Untaken closes is) = let other = closes.1 in absurd cc

-- the stream with this subscription more
abbrev pub joined : Stream → Option (List ℕ) → ℕ → Stream
joined s group credit = record s { subscriptions = s.subscriptions ++ new_subscription 1 3 group 0 credit ∷ [] }

pub leads_subscribe : (s : Stream) (credit : ℕ) (properties : Option (List Property))
    → Leads s (connection_of (subscribes credit properties ∷ []) []) (handled 1 (subscribes credit properties) (Some is_subscribed)) (joined s (group_of properties) credit) (connection_of [] (is_subscribed ∷ []))
leads_subscribe s credit properties m new stands step =
    let at = subscribed_at m credit properties step.does.outcome step.does.handles in
    leads_act m new s (joined s (group_of properties) credit) (subscribes credit properties) (Some is_subscribed) at.number (subscribe 1 3 (group_of properties) First credit) stands step at.is at.is_live
    (λ u run. run.2 ∙ run.1.is)

-- ---- an answer that is owed

-- nothing is owed, so nothing of it is written
pub none_owed : (m : Machine) (s : Stream) (k : Connection) (c : Command) (later : List Command) → Stands m s k → k.owed ≡ [] → (m.connections 1).owed ≡ c ∷ later → ⊥
none_owed m s k c later stands none is = clash (sym (ap (λ (x : Connection). x.owed) (stands.connections 1) ∙ none) ∙ is)
  where
    clash : [] ≡ c ∷ later → ⊥
    clash e = cc

-- an answer of a code alone isn't sent unasked
pub plain_unasked : (m after : Machine) (key corr code : ℕ) (moves : Moves) → Sends m 1 (Data (data_commands.Plain key corr code)) moves after → ⊥
plain_unasked m after key corr code moves (Confirms n other name items is x a) = cc
plain_unasked m after key corr code moves (Delivers n other chunk None is v x a) = cc
plain_unasked m after key corr code moves (Delivers n other chunk (Some last) is v x a) = cc
plain_unasked m after key corr code moves (Loses n lost is some all x a) = cc
plain_unasked m after key corr code moves (Asks n other flag is small x a) = cc
plain_unasked m after key corr code moves (Tunes frame heartbeat is x a) = cc
plain_unasked m after key corr code moves (Beats is x a) = cc

-- an answer that is owed is written
answer_written : (m after : Machine) (s : Stream) (key corr code : ℕ) (moves : Moves) → Stands m s (connection_of [] (Data (data_commands.Plain key corr code) ∷ []))
    → SendStep m 1 (Data (data_commands.Plain key corr code)) moves after → (moves ≡ nowhere) × (after ≡ linked 1 (record (m.connections 1) { owed = [] }) m)
answer_written m after s key corr code moves stands (Owed later is x a) =
    let owed : Data (data_commands.Plain key corr code) ∷ [] ≡ Data (data_commands.Plain key corr code) ∷ later = ap (λ (k : Connection). k.owed) (sym (stands.connections 1)) ∙ is in
    let none : later ≡ [] = cc in
    (x, a ∙ ap (λ (l : List Command). linked 1 (record (m.connections 1) { owed = l }) m) none)
answer_written m after s key corr code moves stands (Unasked is_open sends) = absurd (plain_unasked m after key corr code moves sends)

pub leads_answer : (s : Stream) (key corr code : ℕ) → Leads s (connection_of [] (Data (data_commands.Plain key corr code) ∷ [])) (sent 1 (Data (data_commands.Plain key corr code))) s fresh
leads_answer s key corr code m new stands step =
    let k = connection_of [] (Data (data_commands.Plain key corr code) ∷ []) in
    let w = answer_written m step.after s key corr code step.moves stands step.does in
    stands_still m new s k fresh (sent 1 (Data (data_commands.Plain key corr code))) stands step w.0
    (λ n. ap (λ (x : Machine). x.connections n) w.1 ∙ new_link m s k fresh (record (m.connections 1) { owed = [] }) stands (ap (λ (k : Connection). record k { owed = [] }) (stands.connections 1)) n)

-- ---- a confirm

-- a confirm is one of the stream
pub record ConfirmTold (m : Machine) (s : Stream) (id : ℕ) (ids : List ℕ) (moves : Moves) (after : Machine) : Type 0 where
  pub name : Option (List ℕ)
  pub items : List Tagged
  pub ids_are : ids_of_items items ≡ ids
  pub moves_are : (n : ℕ) → moves n ≡ cond (n == 1) (confirms 1 id name items ∷ []) []
  pub after_is : after ≡ m
  pub mid : Stream
  pub step : ConfirmStep s 1 id name items mid

-- the stream of a step that asks for a live one is the one stream
at_live : (m : Machine) (s : Stream) (k : Connection) (n : ℕ) (P : Stream → Type 0) → Stands m s k → (m.streams n).life ≡ live → P (m.streams n) → P s
at_live m s k n P stands is_live h = subst P (stands.streams 1) (subst (λ (i : ℕ). P (m.streams i)) (live_is_one m s k n stands is_live) h)

confirm_by : (m new : Machine) (s : Stream) (id : ℕ) (ids : List ℕ) (moves : Moves) (after : Machine) → Stands m s fresh → Sends m 1 (confirms_ids id ids) moves after
    → ((n : ℕ) → StreamRun (m.streams n) (moves n) (new.streams n)) → ConfirmTold m s id ids moves after
confirm_by m new s id ids moves after stands (Confirms n other name items is x a) runs =
    let same : id ≡ other = cc in
    let ids_same : ids_of_items items ≡ ids = cc in
    let here : moves ≡ only n (confirms 1 id name items ∷ []) = x ∙ ap (λ (i : ℕ). only n (confirms 1 i name items ∷ [])) (sym same) in
    let moved = moved_at n m new moves (confirms 1 id name items) here (runs n) in
    record {
      name = name;
      items = items;
      ids_are = ids_same;
      moves_are = moves_of_one m s fresh n moves (confirms 1 id name items ∷ []) stands moved.step.is_live here;
      after_is = a;
      mid = moved.mid;
      step = at_live m s fresh n (λ (t : Stream). ConfirmStep t 1 id name items moved.mid) stands moved.step.is_live moved.step;
    }
confirm_by m new s id ids moves after stands (Delivers n other chunk None is v x a) runs = absurd cc
confirm_by m new s id ids moves after stands (Delivers n other chunk (Some last) is v x a) runs = absurd cc
confirm_by m new s id ids moves after stands (Loses n lost is some all x a) runs = absurd cc
confirm_by m new s id ids moves after stands (Asks n other flag is small x a) runs = absurd cc
confirm_by m new s id ids moves after stands (Tunes frame heartbeat is x a) runs = absurd cc
confirm_by m new s id ids moves after stands (Beats is x a) runs = absurd cc

confirm_sent : (m new : Machine) (s : Stream) (id : ℕ) (ids : List ℕ) (moves : Moves) (after : Machine) → Stands m s fresh → SendStep m 1 (confirms_ids id ids) moves after
    → ((n : ℕ) → StreamRun (m.streams n) (moves n) (new.streams n)) → ConfirmTold m s id ids moves after
confirm_sent m new s id ids moves after stands (Owed later is x a) runs = absurd (none_owed m s fresh (confirms_ids id ids) later stands refl is)
confirm_sent m new s id ids moves after stands (Unasked is_open sends) runs = confirm_by m new s id ids moves after stands sends runs

pub confirm_told : (m new : Machine) (s : Stream) (id : ℕ) (ids : List ℕ) → Stands m s fresh → (step : MachineStep m (sent 1 (confirms_ids id ids)) new) → ConfirmTold m s id ids step.moves step.after
confirm_told m new s id ids stands step = confirm_sent m new s id ids step.moves step.after stands step.does step.streams

-- ---- a delivery

-- a delivery is one of the stream, of a chunk with this header
pub record DeliverTold (m : Machine) (s : Stream) (header : Header) (moves : Moves) (after : Machine) : Type 0 where
  pub chunk : Chunk
  pub header_is : header_of chunk ≡ header
  pub moves_are : (n : ℕ) → moves n ≡ cond (n == 1) (delivers 1 3 chunk ∷ []) []
  pub after_is : after ≡ m
  pub mid : Stream
  pub step : DeliverStep s 1 3 chunk mid

deliver_by : (m new : Machine) (s : Stream) (c : Chunk) (moves : Moves) (after : Machine) → Stands m s fresh → Sends m 1 (delivery c) moves after
    → ((n : ℕ) → StreamRun (m.streams n) (moves n) (new.streams n)) → DeliverTold m s (header_of c) moves after
deliver_by m new s c moves after stands (Confirms n other name items is x a) runs = absurd cc
deliver_by m new s c moves after stands (Delivers n other chunk None is v x a) runs =
    let same : 3 ≡ other = cc in
    let heads : header_of chunk ≡ header_of c = cc in
    let here : moves ≡ only n (delivers 1 3 chunk ∷ []) = x ∙ ap (λ (i : ℕ). only n (delivers 1 i chunk ∷ [])) (sym same) in
    let moved = moved_at n m new moves (delivers 1 3 chunk) here (runs n) in
    record {
      chunk = chunk;
      header_is = heads;
      moves_are = moves_of_one m s fresh n moves (delivers 1 3 chunk ∷ []) stands moved.step.is_live here;
      after_is = a;
      mid = moved.mid;
      step = at_live m s fresh n (λ (t : Stream). DeliverStep t 1 3 chunk moved.mid) stands moved.step.is_live moved.step;
    }
deliver_by m new s c moves after stands (Delivers n other chunk (Some last) is v x a) runs = absurd cc
deliver_by m new s c moves after stands (Loses n lost is some all x a) runs = absurd cc
deliver_by m new s c moves after stands (Asks n other flag is small x a) runs = absurd cc
deliver_by m new s c moves after stands (Tunes frame heartbeat is x a) runs = absurd cc
deliver_by m new s c moves after stands (Beats is x a) runs = absurd cc

deliver_sent : (m new : Machine) (s : Stream) (c : Chunk) (moves : Moves) (after : Machine) → Stands m s fresh → SendStep m 1 (delivery c) moves after
    → ((n : ℕ) → StreamRun (m.streams n) (moves n) (new.streams n)) → DeliverTold m s (header_of c) moves after
deliver_sent m new s c moves after stands (Owed later is x a) runs = absurd (none_owed m s fresh (delivery c) later stands refl is)
deliver_sent m new s c moves after stands (Unasked is_open sends) runs = deliver_by m new s c moves after stands sends runs

pub deliver_told : (m new : Machine) (s : Stream) (c : Chunk) → Stands m s fresh → (step : MachineStep m (sent 1 (delivery c)) new) → DeliverTold m s (header_of c) step.moves step.after
deliver_told m new s c stands step = deliver_sent m new s c step.moves step.after stands step.does step.streams

-- ---- one way of a confirm and of a delivery

-- publisher 7 with one frame that waits, of one item, gets its confirm
pub leads_confirm : (s : Stream) (x : Tagged)
    → Leads (frames_of s (record { items = x ∷ []; waits = true } ∷ [])) fresh (sent 1 (confirms_ids 7 (x.id ∷ [])))
    (record s { declarations = prepared ∷ seven (record { items = x ∷ []; waits = false } ∷ []) ∷ []; confirmed = s.confirmed ++ record { name = Some p_name; items = x ∷ [] } ∷ [] }) fresh
leads_confirm s x m new stands step =
    let frames : List Frame = record { items = x ∷ []; waits = true } ∷ [] in
    let old : Stream = frames_of s frames in
    let t = confirm_told m new old 7 (x.id ∷ []) stands step in
    let end : Stream = record s { declarations = prepared ∷ seven (record { items = x ∷ []; waits = false } ∷ []) ∷ []; confirmed = s.confirmed ++ record { name = Some p_name; items = x ∷ [] } ∷ [] } in
    stands_by m new old end fresh fresh (sent 1 (confirms_ids 7 (x.id ∷ []))) (confirms 1 7 t.name t.items ∷ []) stands step t.moves_are (λ u run. run.2 ∙ ends t.name t.items run.0 run.1)
    (same_link m step.after old fresh stands (λ n. ap (λ (y : Machine). y.connections n) t.after_is))
  where
    ends : (name : Option (List ℕ)) (items : List Tagged) (mid : Stream) → ConfirmStep (frames_of s (record { items = x ∷ []; waits = true } ∷ [])) 1 7 name items mid
        → mid ≡ record s { declarations = prepared ∷ seven (record { items = x ∷ []; waits = false } ∷ []) ∷ []; confirmed = s.confirmed ++ record { name = Some p_name; items = x ∷ [] } ∷ [] }
    ends name items mid c =
        let e = seven_of (frames_of s (record { items = x ∷ []; waits = true } ∷ [])) (record { items = x ∷ []; waits = true } ∷ []) refl c.at in
        let one = alone (record { items = x ∷ []; waits = true }) (record { items = items; waits = true }) c.waiting.before c.waiting.after (ap (λ (d : Declaration). d.frames) e.0 ∙ c.waiting.frames) in
        let items_are : items ≡ x ∷ [] = sym (ap (λ (f : Frame). f.items) one.same) in
        let name_is : name ≡ Some p_name = sym c.named ∙ ap (λ (d : Declaration). d.name) (sym e.0) in
        c.is
        ∙ ap (λ (fs : List Frame). record s { declarations = c.at.before ++ record c.at.declaration { frames = fs } ∷ c.at.after; confirmed = s.confirmed ++ record { name = name; items = items } ∷ [] })
        (ap (λ (l : List Frame). l ++ record { items = items; waits = false } ∷ c.waiting.after) one.none_before ∙ ap (λ (l : List Frame). record { items = items; waits = false } ∷ l) one.none_behind
        ∙ ap (λ (i : List Tagged). record { items = i; waits = false } ∷ []) items_are)
        ∙ ap (λ (l : List Declaration). record s { declarations = l; confirmed = s.confirmed ++ record { name = name; items = items } ∷ [] })
        (turned_seven (frames_of s (record { items = x ∷ []; waits = true } ∷ [])) (record { items = x ∷ []; waits = true } ∷ []) refl c.at (λ (d : Declaration). record d { frames = record { items = x ∷ []; waits = false } ∷ [] }))
        ∙ ap (λ (n : Option (List ℕ)). record s { declarations = prepared ∷ seven (record { items = x ∷ []; waits = false } ∷ []) ∷ []; confirmed = s.confirmed ++ record { name = n; items = items } ∷ [] }) name_is
        ∙ ap (λ (i : List Tagged). record s { declarations = prepared ∷ seven (record { items = x ∷ []; waits = false } ∷ []) ∷ []; confirmed = s.confirmed ++ record { name = Some p_name; items = i } ∷ [] }) items_are

-- the stream with this one subscription
abbrev pub read_by : Stream → Subscription → Stream
read_by s r = record s { subscriptions = r ∷ [] }

-- the one subscription gets the chunk that is next
pub leads_deliver : (s : Stream) (r : Subscription) (c : Chunk) → next_above r.next s.seen ≡ Some c → Leads (read_by s r) fresh (sent 1 (delivery c)) (read_by s (with_delivery r c)) fresh
leads_deliver s r c next m new stands step =
    let old : Stream = read_by s r in
    let t = deliver_told m new old c stands step in
    stands_by m new old (read_by s (with_delivery r c)) fresh fresh (sent 1 (delivery c)) (delivers 1 3 t.chunk ∷ []) stands step t.moves_are (λ u run. run.2 ∙ ends t.chunk run.0 run.1)
    (same_link m step.after old fresh stands (λ n. ap (λ (y : Machine). y.connections n) t.after_is))
  where
    chunk_is : (d : Chunk) (e : Option Chunk) → e ≡ Some c → e ≡ Some d → d ≡ c
    chunk_is d e a b = cc

    ends : (d : Chunk) (mid : Stream) → DeliverStep (read_by s r) 1 3 d mid → mid ≡ read_by s (with_delivery r c)
    ends d mid x =
        let one = alone r x.at.subscription x.at.before x.at.after x.at.subscribed in
        let same : d ≡ c = chunk_is d (next_above r.next s.seen) next (ap (λ (q : Subscription). next_above q.next s.seen) one.same ∙ x.is_next) in
        x.is
        ∙ ap (λ (q : Subscription). record s { subscriptions = x.at.before ++ with_delivery q d ∷ x.at.after }) (sym one.same)
        ∙ ap (λ (l : List Subscription). record s { subscriptions = l ++ with_delivery r d ∷ x.at.after }) one.none_before
        ∙ ap (λ (l : List Subscription). record s { subscriptions = with_delivery r d ∷ l }) one.none_behind
        ∙ ap (λ (e : Chunk). read_by s (with_delivery r e)) same

-- ---- an offset is sent, and kept or dropped

-- the stream with an offset more, or the same
pub record StoredOr (s : Stream) (k : Connection) (m : Machine) : Type 0 where
  pub stored : List StoredOffset
  pub stands : Stands m (record s { stored = stored }) k

stored_by : (m new : Machine) (s : Stream) → Stands m s (connection_of (stores_one ∷ []) []) → (step : MachineStep m (handled 1 stores_one None) new) → Handles m 1 stores_one None step.does.outcome → StoredOr s fresh new
stored_by m new s stands step (Served (a, Kept number name named is_name is)) = record {
  stored = s.stored ++ record { name = name; offset = 1 } ∷ [];
  stands = leads_act m new s (record s { stored = s.stored ++ record { name = name; offset = 1 } ∷ [] }) stores_one None number (store name 1) stands step is named.0 (λ u run. run.2 ∙ run.1);
}
stored_by m new s stands step (Served (a, Dropped is)) =
    let k = connection_of (stores_one ∷ []) [] in
    record {
      stored = s.stored;
      stands = stands_still m new s k fresh (handled 1 stores_one None) stands step (step.does.moves_are ∙ ap (moves_by m) is)
          (λ n. ap (λ (x : Machine). x.connections n) (step.does.after_is ∙ ap (after_by m 1 (owing step.does.later None (m.connections 1))) is)
          ∙ new_link m s k fresh (owing step.does.later None (m.connections 1)) stands (handled_link m s stores_one None step.does.later stands step.does.is_first) n);
    }
stored_by m new s stands step (Untaken closes is) = let other = closes.1 in absurd cc

pub stored_or : (m new : Machine) (s : Stream) → Stands m s (connection_of (stores_one ∷ []) []) → MachineStep m (handled 1 stores_one None) new → StoredOr s fresh new
stored_or m new s stands step = stored_by m new s stands step step.does.handles
