-- What an input changes of a client, as far as its publishing goes.
use Rattle.std.proofs.Common.{true, false, ◌≡◌, ℕ, ◌+◌, ◌-◌, ◌≤◌, ◌==◌, ◌&&◌, ◌⊎◌, not, Bool, cond, List, [], ◌∷◌, ◌++◌, drop, Option, Some, None, nat_lt, refl, sym, ap, subst, ◌∙◌, inl, inr}
use Rattle.std.specs.Option.{is_none, option_eq}
use Rattle.std.proofs.lemmas.Bool.{eqb-true}
use Rattle.std.specs.List.{AllByRecursion}
use Rattle.chunk_format.specs.declared.chunk.Header.{Header}
use Rattle.chunk_format.specs.ByName.{same_name}
use Rattle.command_data.specs.declared.item.Refusal.{Refusal}
use Rattle.command_data.specs.declared.command.DataCommand.TheVariants as data_commands
use Rattle.command_admin.specs.declared.command.AdminCommand.TheVariants as admin_commands
use Rattle.command_all.specs.declared.command.Command.{Command}
use Rattle.command_all.specs.declared.command.Command.TheVariants.{Data, Admin}
use Rattle.client_terms.specs.declared.fault.ClientFault.{ClientFault}
use Rattle.client_terms.specs.declared.terms.Request.{Request}
use Rattle.client_terms.specs.declared.terms.Request.TheVariants as requests
use Rattle.client_terms.specs.declared.terms.Stage.{Stage}
use Rattle.client_terms.specs.declared.terms.Stage.TheVariants.{Away, Greeting, Shaking, Proving, Tuning, Tuned, Hosting, Agreeing, Open}
use Rattle.client_terms.specs.declared.terms.Wish.{Wish}
use Rattle.client_terms.specs.declared.terms.Wish.TheVariants.{Query, Subscribe}
use Rattle.client_terms.specs.States.{Awaited, ClientState}
use Rattle.client_terms.specs.Sending.{Next, nothing, credit, tunes, asks, publishes, is_empty, is_undeclared, wished, open_request, request_at, message_due, publish_due, request_or_publish, request_due, due_at, due, frame_of_request, frame_due, behind}
use Rattle.client_terms.specs.Hearing.{Meaning, passes, fails, confirms, delivers, Reply, Frame, answer, confirm, error, delivery, uncredited, update, tune, close, heartbeat, other, is_answer, sequence_told, granted, judged, answered, is_tuning, tuned, refused, delivered, means}
use Rattle.client_laws.proofs.Pipes.{published_in, IsAsk, Plain}

-- ---- where the client is

-- no connection
abbrev pub Resting : ClientState → Type 0
Resting s = (s.stage ≡ Away) × (s.declared ≡ false) × (s.awaited ≡ None)

abbrev pub AsksName : Option Awaited → Type 0
AsksName None = ⊥
AsksName (Some awaited) = awaited.request ≡ requests.DeclarePublisher

-- the declaration was sent
abbrev pub IsAsked : ClientState → Type 0
IsAsked s = (s.declared ≡ true) ⊎ AsksName s.awaited

-- nothing of its publishing changes
pub record Gentle (s kept : ClientState) : Type 0 where
  pub name_is : kept.name ≡ s.name
  pub confirmed_is : kept.confirmed ≡ s.confirmed
  pub above_is : kept.above ≡ s.above
  pub queue_is : kept.queue ≡ s.queue
  pub last_is : kept.last ≡ s.last
  pub rests : Resting s → Resting kept
  pub asked : IsAsked s → IsAsked kept

-- ---- what is due

-- it has a connection, and waits for no answer
pub record IsFree (s : ClientState) : Type 0 where
  pub linked : s.stage ≡ Away → ⊥
  pub free : s.awaited ≡ None

abbrev pub RequestFits : ClientState → Request → Type 0
RequestFits s requests.DeclarePublisher = s.declared ≡ false
RequestFits s requests.PeerProperties = Unit {0}
RequestFits s requests.SaslHandshake = Unit {0}
RequestFits s requests.SaslAuthenticate = Unit {0}
RequestFits s requests.OpenHost = Unit {0}
RequestFits s requests.ExchangeVersions = Unit {0}
RequestFits s requests.Create = Unit {0}
RequestFits s requests.QueryPublisherSequence = Unit {0}
RequestFits s requests.Subscribe = Unit {0}

pub record PublishFits (s : ClientState) (id : ℕ) (body : List ℕ) : Type 0 where
  pub is_declared : s.declared ≡ true
  pub next : id ≡ s.last + 1
  pub others : List (List ℕ)
  pub queued : drop (s.last - s.confirmed) s.queue ≡ body ∷ others

abbrev pub DueFits : ClientState → Next → Type 0
DueFits s nothing = Unit {0}
DueFits s credit = Unit {0}
DueFits s (tunes frame_max) = s.stage ≡ Away → ⊥
DueFits s (asks request) = IsFree s × RequestFits s request
DueFits s (publishes id body) = PublishFits s id body

both : (a b : Bool) → (a && b) ≡ true → a ≡ true
both true b e = refl
both false b e = absurd cc

publish_fits : (s : ClientState) → DueFits s (publish_due s)
publish_fits s = go (s.declared && nat_lt s.last (s.confirmed + 256)) refl
  where
    one : (s : ClientState) (l : List (List ℕ)) → drop (s.last - s.confirmed) s.queue ≡ l → s.declared ≡ true → DueFits s (message_due (s.last + 1) l)
    one s [] e d = tt
    one s (body ∷ bodies) e d = record { is_declared = d; next = refl; others = bodies; queued = e }

    go : (b : Bool) → (s.declared && nat_lt s.last (s.confirmed + 256)) ≡ b → DueFits s (cond b (message_due (s.last + 1) (drop (s.last - s.confirmed) s.queue)) nothing)
    go true e = one s (drop (s.last - s.confirmed) s.queue) refl (both s.declared _ e)
    go false e = tt

abbrev MaybeFits : ClientState → Option Request → Type 0
MaybeFits s None = Unit {0}
MaybeFits s (Some request) = RequestFits s request

either_fits : (s : ClientState) → IsFree s → (request : Option Request) → MaybeFits s request → DueFits s (request_or_publish request s)
either_fits s free None f = publish_fits s
either_fits s free (Some r) f = (free, f)

undeclared : (declared empty : Bool) → (not declared && empty) ≡ true → declared ≡ false
undeclared true empty e = absurd cc
undeclared false empty e = refl

wished_fits : (s : ClientState) (wishes : List Wish) → MaybeFits s (wished wishes)
wished_fits s [] = tt
wished_fits s (Query ∷ wishes) = tt
wished_fits s (Subscribe ∷ wishes) = tt

open_fits : (s : ClientState) → MaybeFits s (open_request s)
open_fits s = made (nat_lt 0 s.creates)
  where
    named : (b : Bool) → is_undeclared s ≡ b → MaybeFits s (cond b (Some requests.DeclarePublisher) (wished s.wishes))
    named true e = undeclared s.declared _ e
    named false e = wished_fits s s.wishes

    made : (b : Bool) → MaybeFits s (cond b (Some requests.Create) (cond (is_undeclared s) (Some requests.DeclarePublisher) (wished s.wishes)))
    made true = tt
    made false = named (is_undeclared s) refl

-- what is due where no credit is, at a stage
abbrev StageFits : ClientState → Stage → Type 0
StageFits s stage = s.stage ≡ stage → DueFits s (due_at stage s)

request_fits : (s : ClientState) (stage : Stage) → (stage ≡ Away → ⊥) → MaybeFits s (request_at stage s) → s.stage ≡ stage → (awaited : Option Awaited) → s.awaited ≡ awaited
    → DueFits s (request_due awaited s)
request_fits s stage apart f at (Some awaited) e = publish_fits s
request_fits s stage apart f at None e =
    subst (λ (g : Stage). DueFits s (request_or_publish (request_at g s) s)) (sym at)
    (either_fits s (record { linked = λ away. apart (sym at ∙ away); free = e }) (request_at stage s) f)

at_fits : (s : ClientState) (stage : Stage) → StageFits s stage
at_fits s Away at = away s.awaited
  where
    away : (awaited : Option Awaited) → DueFits s (request_due awaited s)
    away (Some awaited) = publish_fits s
    away None = subst (λ (g : Stage). DueFits s (request_or_publish (request_at g s) s)) (sym at) (publish_fits s)
at_fits s Greeting at = request_fits s Greeting (λ e. absurd cc) tt at s.awaited refl
at_fits s Shaking at = request_fits s Shaking (λ e. absurd cc) tt at s.awaited refl
at_fits s Proving at = request_fits s Proving (λ e. absurd cc) tt at s.awaited refl
at_fits s Tuning at = request_fits s Tuning (λ e. absurd cc) tt at s.awaited refl
at_fits s (Tuned frame_max) at = λ away. (let e : Tuned frame_max ≡ Away = sym at ∙ away in absurd cc)
at_fits s Hosting at = request_fits s Hosting (λ e. absurd cc) tt at s.awaited refl
at_fits s Agreeing at = request_fits s Agreeing (λ e. absurd cc) tt at s.awaited refl
at_fits s Open at = request_fits s Open (λ e. absurd cc) (open_fits s) at s.awaited refl

pub due_fits : (s : ClientState) → DueFits s (due s)
due_fits s = go (nat_lt 0 s.credits)
  where
    go : (b : Bool) → DueFits s (cond b credit (due_at s.stage s))
    go true = tt
    go false = at_fits s s.stage refl

-- ---- what a frame means

abbrev pub MeaningFits : ClientState → Frame → Meaning → Type 0
MeaningFits s frame (passes kept) = Gentle s kept
MeaningFits s frame (fails fault) = Unit {0}
MeaningFits s frame (confirms ids) = (s.declared ≡ true) × (frame ≡ confirm 0 ids)
MeaningFits s frame (delivers kept bytes) = Gentle s kept

if_fits : (s : ClientState) (f : Frame) (b : Bool) (m n : Meaning) → (b ≡ true → MeaningFits s f m) → MeaningFits s f n → MeaningFits s f (cond b m n)
if_fits s f true m n a c = a refl
if_fits s f false m n a c = c

pub gentle_self : (s : ClientState) → Gentle s s
gentle_self s = record { name_is = refl; confirmed_is = refl; above_is = refl; queue_is = refl; last_is = refl; rests = λ r. r; asked = λ a. a }

-- a request that isn't the declaration was answered
not_name : (s : ClientState) (a : Awaited) → s.awaited ≡ Some a → (a.request ≡ requests.DeclarePublisher → ⊥) → IsAsked s → s.declared ≡ true
not_name s a e f (inl d) = d
not_name s a e f (inr q) = absurd (f (subst AsksName e q))

none_waits : (s : ClientState) (a : Awaited) → s.awaited ≡ Some a → Resting s → ⊥
none_waits s a e r = let is : None ≡ Some a = sym r.2 ∙ e in absurd cc

granted_fits : (s : ClientState) (f : Frame) (said : Reply) (a : Awaited) → s.awaited ≡ Some a → (r : Request) → a.request ≡ r → MeaningFits s f (granted s said r)
granted_fits s f said a e requests.DeclarePublisher is = record { name_is = refl; confirmed_is = refl; above_is = refl; queue_is = refl; last_is = refl; rests = λ r. absurd (none_waits s a e r); asked = λ q. inl refl }
granted_fits s f said a e requests.PeerProperties is = record { name_is = refl; confirmed_is = refl; above_is = refl; queue_is = refl; last_is = refl; rests = λ r. absurd (none_waits s a e r); asked = λ q. inl (not_name s a e (λ d. (let no : requests.PeerProperties ≡ requests.DeclarePublisher = sym is ∙ d in absurd cc)) q) }
granted_fits s f said a e requests.SaslHandshake is = record { name_is = refl; confirmed_is = refl; above_is = refl; queue_is = refl; last_is = refl; rests = λ r. absurd (none_waits s a e r); asked = λ q. inl (not_name s a e (λ d. (let no : requests.SaslHandshake ≡ requests.DeclarePublisher = sym is ∙ d in absurd cc)) q) }
granted_fits s f said a e requests.SaslAuthenticate is = record { name_is = refl; confirmed_is = refl; above_is = refl; queue_is = refl; last_is = refl; rests = λ r. absurd (none_waits s a e r); asked = λ q. inl (not_name s a e (λ d. (let no : requests.SaslAuthenticate ≡ requests.DeclarePublisher = sym is ∙ d in absurd cc)) q) }
granted_fits s f said a e requests.OpenHost is = record { name_is = refl; confirmed_is = refl; above_is = refl; queue_is = refl; last_is = refl; rests = λ r. absurd (none_waits s a e r); asked = λ q. inl (not_name s a e (λ d. (let no : requests.OpenHost ≡ requests.DeclarePublisher = sym is ∙ d in absurd cc)) q) }
granted_fits s f said a e requests.ExchangeVersions is = record { name_is = refl; confirmed_is = refl; above_is = refl; queue_is = refl; last_is = refl; rests = λ r. absurd (none_waits s a e r); asked = λ q. inl (not_name s a e (λ d. (let no : requests.ExchangeVersions ≡ requests.DeclarePublisher = sym is ∙ d in absurd cc)) q) }
granted_fits s f said a e requests.Create is = record { name_is = refl; confirmed_is = refl; above_is = refl; queue_is = refl; last_is = refl; rests = λ r. absurd (none_waits s a e r); asked = λ q. inl (not_name s a e (λ d. (let no : requests.Create ≡ requests.DeclarePublisher = sym is ∙ d in absurd cc)) q) }
granted_fits s f said a e requests.Subscribe is = record { name_is = refl; confirmed_is = refl; above_is = refl; queue_is = refl; last_is = refl; rests = λ r. absurd (none_waits s a e r); asked = λ q. inl (not_name s a e (λ d. (let no : requests.Subscribe ≡ requests.DeclarePublisher = sym is ∙ d in absurd cc)) q) }
granted_fits s f said a e requests.QueryPublisherSequence is = told said.content
  where
    told : (content : Option ℕ) → MeaningFits s f (sequence_told s said.key content)
    told None = tt
    told (Some id) = record { name_is = refl; confirmed_is = refl; above_is = refl; queue_is = refl; last_is = refl; rests = λ r. absurd (none_waits s a e r); asked = λ q. inl (not_name s a e (λ d. (let no : requests.QueryPublisherSequence ≡ requests.DeclarePublisher = sym is ∙ d in absurd cc)) q) }

answered_fits : (s : ClientState) (f : Frame) (said : Reply) (awaited : Option Awaited) → s.awaited ≡ awaited → MeaningFits s f (answered s said awaited)
answered_fits s f said None e = tt
answered_fits s f said (Some a) e =
    if_fits s f (is_answer said a) (judged s said a.request) _ (λ is. if_fits s f (said.code == 1) (granted s said a.request) _ (λ ok. granted_fits s f said a e a.request refl) tt) tt

tuning_stays : (s : ClientState) → (is_tuning s.stage && is_none s.awaited) ≡ true → Resting s → ⊥
tuning_stays s e r =
    let is : is_tuning Away ≡ true = subst (λ (g : Stage). is_tuning g ≡ true) r.0 (both (is_tuning s.stage) _ e) in absurd cc

refused_fits : (s : ClientState) (f : Frame) (refusals : List Refusal) → MeaningFits s f (refused s refusals)
refused_fits s f [] = if_fits s f s.declared (passes s) _ (λ d. gentle_self s) tt
refused_fits s f (refusal ∷ refusals) = tt

later : (a b : Bool) → (a && b) ≡ true → b ≡ true
later true b e = e
later false b e = absurd cc

confirm_fits : (s : ClientState) (publisher : ℕ) (ids : List ℕ) → ((publisher == 0) && s.declared) ≡ true → MeaningFits s (confirm publisher ids) (confirms ids)
confirm_fits s publisher ids e = (later (publisher == 0) s.declared e, zero_is publisher (both (publisher == 0) s.declared e))
  where
    zero_is : (publisher : ℕ) → (publisher == 0) ≡ true → confirm publisher ids ≡ confirm 0 ids
    zero_is publisher e = ap (λ (p : ℕ). confirm p ids) (eqb-true publisher 0 e)

pub frame_fits : (s : ClientState) (f : Frame) → MeaningFits s f (means s f)
frame_fits s (answer said) = answered_fits s (answer said) said s.awaited refl
frame_fits s (confirm publisher ids) = if_fits s (confirm publisher ids) ((publisher == 0) && s.declared) (confirms ids) _ (confirm_fits s publisher ids) tt
frame_fits s (error publisher refusals) = if_fits s (error publisher refusals) (publisher == 0) (refused s refusals) _ (λ e. refused_fits s (error publisher refusals) refusals) tt
frame_fits s (delivery sub committed header payload) =
    if_fits s (delivery sub committed header payload) ((sub == 0) && s.subscribed) (delivered s committed header payload) _
    (λ e. record { name_is = refl; confirmed_is = refl; above_is = refl; queue_is = refl; last_is = refl; rests = λ r. r; asked = λ a. a }) tt
frame_fits s (uncredited code sub) = if_fits s (uncredited code sub) (sub == 0) _ _ (λ e. tt) tt
frame_fits s (update code stream) = if_fits s (update code stream) (option_eq same_name stream s.stream) _ _ (λ e. tt) tt
frame_fits s (tune frame_max) =
    if_fits s (tune frame_max) (is_tuning s.stage && is_none s.awaited) (passes (record s { stage = Tuned frame_max })) _
    (λ e. record { name_is = refl; confirmed_is = refl; above_is = refl; queue_is = refl; last_is = refl; rests = λ r. absurd (tuning_stays s e r); asked = λ a. a }) tt
frame_fits s (close code) = tt
frame_fits s heartbeat = gentle_self s
frame_fits s (other key) = tt

-- ---- the frames of requests

plain_admin : (name : List ℕ) (command : Command) → (IsAsk name command → ⊥) → published_in command ≡ [] → Plain name command
plain_admin name command f e = record { no_ask = f; no_items = e }

pub request_plain : (name : List ℕ) (s : ClientState) (r : Request) (corr : ℕ) → (r ≡ requests.DeclarePublisher → ⊥) → Plain name (frame_of_request s r corr)
request_plain name s requests.DeclarePublisher corr f = absurd (f refl)
request_plain name s requests.PeerProperties corr f = plain_admin name _ (λ a. (let e = a.2 in absurd cc)) refl
request_plain name s requests.SaslHandshake corr f = plain_admin name _ (λ a. (let e = a.2 in absurd cc)) refl
request_plain name s requests.SaslAuthenticate corr f = plain_admin name _ (λ a. (let e = a.2 in absurd cc)) refl
request_plain name s requests.OpenHost corr f = plain_admin name _ (λ a. (let e = a.2 in absurd cc)) refl
request_plain name s requests.ExchangeVersions corr f = plain_admin name _ (λ a. (let e = a.2 in absurd cc)) refl
request_plain name s requests.Create corr f = plain_admin name _ (λ a. (let e = a.2 in absurd cc)) refl
request_plain name s requests.QueryPublisherSequence corr f = plain_admin name _ (λ a. (let e = a.2 in absurd cc)) refl
request_plain name s requests.Subscribe corr f = plain_admin name _ (λ a. (let e = a.2 in absurd cc)) refl
