-- Frames that a client hears, one after the other.
use Rattle.std.proofs.Common.{◌≡◌, ◌<◌, ℕ, Bool, true, false, List, [], ◌∷◌, ◌++◌, length, Result, Ok, Err, refl, sym, ap, subst, ◌∙◌, inl, inr, arith}
use Rattle.frame_wire.proofs.Streams.{frame_shortens}
use Rattle.command_fields.specs.declared.fault.DecodeFault.{DecodeFault}
use Rattle.command_all.specs.declared.command.Command.{Command}
use Rattle.command_reader.specs.declared.reader.Next.{Next}
use Rattle.command_reader.specs.declared.reader.Next.TheVariants as answers
use Rattle.command_reader.specs.States.{ReaderState, Takes, Gives, GivesCommand}
use Rattle.client_terms.specs.declared.fault.ClientFault.{ClientFault}
use Rattle.client_terms.specs.declared.fault.ClientFault.TheVariants as faults
use Rattle.client_terms.specs.States.{ClientState}
use Rattle.client_terms.specs.Hearing.{Frame, close, heartbeat, other, means, meaning}
use Rattle.stream_client.specs.Hearings.{Obeys}
use Rattle.stream_client.specs.Cores.{CoreState}
use Rattle.stream_client.specs.Feeds.{HearsFrame, HearsFrames, StopsAt, Unspelt, Large, Faulty, Unread, Unheard, HearsNext, HearsAll, Feeds, told}

-- ---- one frame

-- a frame that was read is the one that was heard
pub obeys_as : (old new : ClientState) (f g : Frame) (r : Result (Unit {0}) ClientFault) → f ≡ g → Obeys old (means old f) r new → Obeys old (means old g) r new
obeys_as old new f g r same h = subst (λ (x : Frame). Obeys old (means old x) r new) same h

pub close_heard : (s : ClientState) (code : ℕ) (g : Frame) → close code ≡ g → Obeys s (means s g) (Err (faults.Closed code)) s
close_heard s code g same = subst (λ (x : Frame). Obeys s (means s x) (Err (faults.Closed code)) s) same (refl, refl)

pub heartbeat_heard : (s : ClientState) (g : Frame) → heartbeat ≡ g → Obeys s (means s g) (Ok tt) s
heartbeat_heard s g same = subst (λ (x : Frame). Obeys s (means s x) (Ok tt) s) same refl

pub other_heard : (s : ClientState) (key : ℕ) (g : Frame) → other key ≡ g → Obeys s (means s g) (Err (faults.Unexpected key)) s
other_heard s key g same = subst (λ (x : Frame). Obeys s (means s x) (Err (faults.Unexpected key)) s) same (refl, refl)

heard_one : (old new : CoreState) (command : Command) → GivesCommand old.reader command new.reader → Obeys old.client (meaning old.client command) (Ok tt) new.client → HearsNext old (Ok true) new
heard_one old new command given h = (command, record { given = given; heard = (refl, h) })

stops_at : (old new : CoreState) (command : Command) (fault : ClientFault) → GivesCommand old.reader command new.reader → Obeys old.client (meaning old.client command) (Err fault) new.client → StopsAt old fault new
stops_at old new command faults.Memory given h = Unheard command refl given h
stops_at old new command (faults.Frame fault) given h = Faulty command given (refl, h.0, h.1)
stops_at old new command (faults.TooLarge size) given h = Faulty command given (refl, h.0, h.1)
stops_at old new command (faults.Chunk fault) given h = Faulty command given (refl, h.0, h.1)
stops_at old new command (faults.Unexpected key) given h = Faulty command given (refl, h.0, h.1)
stops_at old new command (faults.Refused key code) given h = Faulty command given (refl, h.0, h.1)
stops_at old new command (faults.Closed code) given h = Faulty command given (refl, h.0, h.1)
stops_at old new command (faults.StreamLost code) given h = Faulty command given (refl, h.0, h.1)

same_core : (old new : CoreState) → new.client ≡ old.client → new.reader ≡ old.reader → new ≡ old
same_core old new client reader = ap (λ (c : ClientState). record { client = c; reader = new.reader }) client ∙ ap (λ (r : ReaderState). record { client = old.client; reader = r }) reader

pub unread : (old new : CoreState) → new.client ≡ old.client → new.reader ≡ old.reader → StopsAt old faults.Memory new
unread old new client reader = Unread refl (same_core old new client reader)

abbrev core : ClientState → ReaderState → CoreState
core client reader = record { client = client; reader = reader }

pub unspelt_stops : (old : CoreState) (client : ClientState) (reader new : ReaderState) (a : Next) (wrong : DecodeFault) → core client reader ≡ old → a ≡ answers.Unspelt wrong → Gives reader a new → StopsAt old (faults.Frame wrong) (core client new)
unspelt_stops old client reader new a wrong view is gives =
    subst (λ (s : CoreState). StopsAt s (faults.Frame wrong) (core client new)) view (Unspelt wrong refl (subst (λ (x : Next). Gives reader x new) is gives) refl)

pub large_stops : (old : CoreState) (client : ClientState) (reader new : ReaderState) (a : Next) (size : ℕ) → core client reader ≡ old → a ≡ answers.TooLarge size → Gives reader a new → StopsAt old (faults.TooLarge size) (core client new)
large_stops old client reader new a size view is gives =
    subst (λ (s : CoreState). StopsAt s (faults.TooLarge size) (core client new)) view (Large size refl (subst (λ (x : Next). Gives reader x new) is gives) refl)

told_next : (old new : CoreState) (command : Command) (r : Result (Unit {0}) ClientFault) → GivesCommand old.reader command new.reader → Obeys old.client (meaning old.client command) r new.client → HearsNext old (told r) new
told_next old new command (Ok u) given h = heard_one old new command given h
told_next old new command (Err fault) given h = stops_at old new command fault given h

pub hears_told : (old : CoreState) (client : ClientState) (reader next : ReaderState) (new : ClientState) (a : Next) (command : Command) (r : Result (Unit {0}) ClientFault) (t : Result Bool ClientFault) → core client reader ≡ old → a ≡ answers.Command command
    → Gives reader a next → Obeys client (meaning client command) r new → t ≡ told r → HearsNext old t (core new next)
hears_told old client reader next new a command r t view is gives h same =
    subst (λ (s : CoreState). HearsNext s t (core new next)) view
    (subst (λ (x : Result Bool ClientFault). HearsNext (core client reader) x (core new next)) (sym same) (told_next (core client reader) (core new next) command r (subst (λ (x : Next). Gives reader x next) is gives) h))

-- ---- frames one after the other

-- the frames that were heard so far
pub record Heard (old now : CoreState) : Type 0 where
  pub commands : List Command
  pub frames : HearsFrames old commands now

pub heard_none : (old : CoreState) → Heard old old
heard_none old = record { commands = []; frames = refl }

one_more : (old mid new : CoreState) (commands : List Command) (command : Command) → HearsFrames old commands mid → HearsFrame mid command new → HearsFrames old (commands ++ command ∷ []) new
one_more old mid new [] command same one = (new, subst (λ (s : CoreState). HearsFrame s command new) same one, refl)
one_more old mid new (first ∷ commands) command far one = (far.0, far.1, one_more far.0 mid new commands command far.2 one)

pub heard_next : (old mid new : CoreState) → Heard old mid → HearsNext mid (Ok true) new → Heard old new
heard_next old mid new far next = record { commands = far.commands ++ next.0 ∷ []; frames = one_more old mid new far.commands next.0 far.frames next.1 }

-- a frame that was heard was taken off
pub shortens : (old new : CoreState) → HearsNext old (Ok true) new → length new.reader.rest < length old.reader.rest
shortens old new next =
    let given = next.1.given in
    let left : new.reader.rest ≡ given.frame.more = ap (λ (r : ReaderState). r.rest) given.left in
    let short = frame_shortens old.reader.rest given.frame.body given.frame.more given.frame.framed in
    omega (arith, ap length left, short)

pub heard_all : (old mid new : CoreState) → Heard old mid → HearsNext mid (Ok false) new → HearsAll old (Ok tt) new
heard_all old mid new far next = record { commands = far.commands; last = mid; heard = far.frames; ends = next }

pub heard_to : (old mid new : CoreState) (fault : ClientFault) → Heard old mid → StopsAt mid fault new → HearsAll old (Err fault) new
heard_to old mid new fault far stops = record { commands = far.commands; last = mid; heard = far.frames; ends = stops }

-- ---- a piece

pub feeds_none : (old new : CoreState) (piece : List ℕ) → new.client ≡ old.client → new.reader ≡ old.reader → Feeds old piece (Err faults.Memory) new
feeds_none old new piece client reader = inr (refl, same_core old new client reader)

pub feeds_piece : (old : CoreState) (client : ClientState) (reader fed : ReaderState) (new : CoreState) (piece : List ℕ) (r : Result (Unit {0}) ClientFault) → core client reader ≡ old → Takes reader piece fed → HearsAll (core client fed) r new
    → Feeds old piece r new
feeds_piece old client reader fed new piece r view taken heard = subst (λ (s : CoreState). Feeds s piece r new) view (inl (record { fed = fed; taken = taken; heard = heard }))
