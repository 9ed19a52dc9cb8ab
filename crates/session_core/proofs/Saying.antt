-- What a session answers can be spelled: a property of all outcomes of a conversation, row by row.
use Rattle.std.proofs.Common.{◌≡◌, ℕ, ◌≤◌, ◌++◌, Bool, true, false, List, [], ◌∷◌, length, map, Option, Some, None, Result, Ok, Err, IfSome, refl, sym, ap, subst, ◌∙◌, if◌then◌else◌, append_assoc, arith}
use Rattle.std.specs.Prelude.{◌==◌, codes, position}
use Rattle.std.specs.Option.{option_map}
use Rattle.std.specs.declared.alloc.AllocError.{AllocError}
use Rattle.std.specs.List.{AllByRecursion, find, list_any}
use Rattle.std.proofs.lemmas.List.{append-nil}
use Rattle.std.proofs.lemmas.List.Elements.{All-from_recursion}
use Rattle.command_fields.specs.declared.offset.OffsetSpec.{OffsetSpec}
use Rattle.command_fields.specs.declared.response.ResponseCode.{ResponseCode}
use Rattle.command_data.specs.declared.command.DataCommand.{DataCommand}
use Rattle.command_data.specs.declared.command.DataCommand.TheVariants as of_data
use Rattle.command_data.specs.declared.item.Tagged.{Tagged}
use Rattle.command_admin.specs.declared.command.AdminCommand.{AdminCommand}
use Rattle.command_admin.specs.declared.command.AdminCommand.TheVariants as of_admin
use Rattle.command_admin.specs.declared.item.StreamMetadata.{StreamMetadata}
use Rattle.command_all.specs.declared.command.Command.{Command}
use Rattle.command_all.specs.declared.command.Command.TheVariants.{Data, Admin}
use Rattle.command_all.specs.declared.identity.Identity.{Identity}
use Rattle.command_all.specs.Commands.{Spells}
use Rattle.command_all.specs.Fitting.{IsTold}
use Rattle.stream_terms.specs.declared.terms.Pass.{Pass}
use Rattle.stream_terms.specs.declared.terms.Taken.{Taken}
use Rattle.stream_terms.specs.declared.terms.DeclareFault.{DeclareFault}
use Rattle.stream_terms.specs.declared.terms.DeclareFault.TheVariants as df
use Rattle.stream_terms.specs.declared.terms.OfferFault.{OfferFault}
use Rattle.stream_terms.specs.declared.terms.OfferFault.TheVariants as of
use Rattle.stream_terms.specs.Views.{name_of}
use Rattle.hub_terms.specs.declared.terms.Found.{Found}
use Rattle.hub_terms.specs.declared.terms.Found.TheVariants.{Missing, Closed, Running}
use Rattle.hub_terms.specs.Calls.{Answer, Words}
use Rattle.hub_terms.specs.Meaning.{HubMeaning, HubLaws, Told, AreFew}
use Rattle.hub_terms.specs.Programs.{Program, done, asking, lost, Runs}
use Rattle.session_tables.specs.Publishing.{has_id, leave, is_refused}
use Rattle.session_tables.specs.Subscribing.{is_single, group_name, slot, is_asked, is_last, is_text, counted}
use Rattle.session_tables.specs.Opening.{Outcome, leaves, refusal, let_in, fresh, greeted, shaken, tuning, waiting}
use Rattle.session_tables.specs.Spelling.{IsSayable}
use Rattle.session_tables.specs.declared.reply.Request.{Request}
use Rattle.session_tables.specs.declared.tables.Stage.{Stage}
use Rattle.session_tables.specs.declared.tables.Stage.TheVariants as stages
use Rattle.session_tables.specs.declared.tables.Subscription.{Subscription}
use Rattle.session_tables.specs.declared.tables.Tables.{Tables}
use Rattle.session_core.specs.declared.consuming.Wish.{Wish}
use Rattle.session_core.specs.Ends.{stream_of}
use Rattle.session_core.specs.Publishing.{declared, declare_on, refuses, offered, publish_by, publish_row, sequence_told, sequence_at, publisher_deleted}
use Rattle.session_core.specs.Consuming.{started, joined, join_group, subscribe_free, subscribe_at, subscribe_on, credit_at, unsubscribe_of, unsubscribe_at, restarted, turned, awaited, update_of, update_at, update_by}
use Rattle.session_core.specs.Offsets.{offset_taken, store_at, offset_told, query_at, last_told, stats_at}
use Rattle.session_core.specs.Streams.{code_of, answers_by, metadata_of, metadata_from, routes_told, parts_told}
use Rattle.session_core.specs.Commands.{HasFewItems, data_row, data_at, admin_row, admin_at, admin_any, command_row}
use Rattle.session_core.specs.Saying.{RepliesAreSayable}
use Rattle.session_core.proofs.Answering.{taken_of}

-- ---- of all that a conversation may come to

-- whatever the answers are, as far as they tell what a hub must
abbrev AllWell : {S A : Type 0} → HubMeaning S → (A → Type 0) → Program A → Type 0
AllWell m P (done a) = P a
AllWell {S} m P (asking c k) = (r : Answer c) (a b : S) → Told m.seen c a r b → AllWell m P (k r)
AllWell m P lost = Unit {0}

all_well : {S A : Type 0} (m : HubMeaning S) (P : A → Type 0) (p : Program A) (h0 : S) (got : A) (h1 : S) → HubLaws m → AllWell m P p → Runs m p h0 got h1 → P got
all_well m P (done a) h0 got h1 laws well run = subst P (sym run.0) well
all_well m P (asking c k) h0 got h1 laws well (r, mid, does, rest) = let called = laws.called c h0 mid r does in all_well m P (k r) mid got h1 laws (well r h0 mid called.told) rest
all_well m P lost h0 got h1 laws well run = absurd run

-- the reply, if there is one, has a spelling
abbrev IsSaid : Outcome → Type 0
IsSaid o = IfSome o.reply IsSayable

abbrev Speaks : {S : Type 0} → HubMeaning S → Program Outcome → Type 0
Speaks m p = AllWell m IsSaid p

either : {S : Type 0} (m : HubMeaning S) (b : Bool) (p q : Program Outcome) → Speaks m p → Speaks m q → Speaks m (if b then p else q)
either m true p q one other = one
either m false p q one other = other

either_said : (b : Bool) (x y : Outcome) → IsSaid x → IsSaid y → IsSaid (if b then x else y)
either_said true x y one other = one
either_said false x y one other = other

-- ---- publishers

declared_speaks : {S : Type 0} (m : HubMeaning S) (t : Tables) (corr id : ℕ) (reference stream : Words) (r : Result Pass DeclareFault) → Speaks m (declared t corr id reference stream r)
declared_speaks m t corr id reference stream (Ok pass) = tt
declared_speaks m t corr id reference stream (Err df.Closed) = tt
declared_speaks m t corr id reference stream (Err df.Memory) = tt

declare_on_speaks : {S : Type 0} (m : HubMeaning S) (t : Tables) (corr id : ℕ) (reference stream : Words) (found : Found) → Speaks m (declare_on t corr id reference stream found)
declare_on_speaks m t corr id reference stream Missing = tt
declare_on_speaks m t corr id reference stream (Closed number) = tt
declare_on_speaks m t corr id reference stream (Running number epoch) =
    either m (is_refused id number (name_of reference) t.publishers) _ _ tt (λ r a b told. declared_speaks m t corr id reference stream r)

refuses_speaks : {S : Type 0} (m : HubMeaning S) (t : Tables) (id : ℕ) (named : Bool) (items : List Tagged) (response : ResponseCode) → length items ≤ 1048576 → Speaks m (refuses t id named items response)
refuses_speaks m t id named items response few = few

offered_speaks : {S : Type 0} (m : HubMeaning S) (t : Tables) (id : ℕ) (named : Bool) (items : List Tagged) → length items ≤ 1048576 → (r : Result Taken OfferFault) → Speaks m (offered t id named items r)
offered_speaks m t id named items few (Ok taken) = tt
offered_speaks m t id named items few (Err (of.Stale asked running)) = few
offered_speaks m t id named items few (Err (of.BadName len)) = few
offered_speaks m t id named items few (Err (of.EmptyBatch place)) = few
offered_speaks m t id named items few (Err (of.Limit what most)) = few
offered_speaks m t id named items few (Err of.Memory) = tt

publish_by_speaks : {S : Type 0} (m : HubMeaning S) (t : Tables) (id : ℕ) (items : List Tagged) (now : ℕ) → length items ≤ 1048576 → (p : Option (Pass × Bool)) → Speaks m (publish_by t id items now p)
publish_by_speaks m t id items now few None = few
publish_by_speaks m t id items now few (Some p) = λ r a b told. offered_speaks m t id p.1 items few r

publish_speaks : {S : Type 0} (m : HubMeaning S) (t : Tables) (id : ℕ) (items : List Tagged) (now : ℕ) → length items ≤ 1048576 → Speaks m (publish_row t id items now)
publish_speaks m t id items now few = either m (length items == 0) _ _ tt (publish_by_speaks m t id items now few (option_map leave (find (has_id id) t.publishers)))

sequence_told_speaks : {S : Type 0} (m : HubMeaning S) (t : Tables) (corr : ℕ) (r : Result (Option ℕ) AllocError) → Speaks m (sequence_told t corr r)
sequence_told_speaks m t corr (Ok None) = tt
sequence_told_speaks m t corr (Ok (Some id)) = tt
sequence_told_speaks m t corr (Err e) = tt

sequence_at_speaks : {S : Type 0} (m : HubMeaning S) (t : Tables) (corr : ℕ) (reference : Words) (stream : Option ℕ) → Speaks m (sequence_at t corr reference stream)
sequence_at_speaks m t corr reference None = tt
sequence_at_speaks m t corr reference (Some number) = λ r a b told. sequence_told_speaks m t corr r

deleted_said : (t : Tables) (corr id : ℕ) → IsSaid (publisher_deleted t corr id)
deleted_said t corr id = either_said (list_any (has_id id) t.publishers) _ _ tt tt

-- ---- subscriptions

started_speaks : {S : Type 0} (m : HubMeaning S) (t : Tables) (w : Wish) (stream epoch : ℕ) (r : Result ℕ AllocError) → Speaks m (started t w stream epoch r)
started_speaks m t w stream epoch (Ok next) = tt
started_speaks m t w stream epoch (Err e) = tt

joined_speaks : {S : Type 0} (m : HubMeaning S) (t : Tables) (w : Wish) (stream epoch : ℕ) (r : Result (Unit {0}) AllocError) → Speaks m (joined t w stream epoch r)
joined_speaks m t w stream epoch (Ok u) = tt
joined_speaks m t w stream epoch (Err e) = tt

join_group_speaks : {S : Type 0} (m : HubMeaning S) (t : Tables) (w : Wish) (stream epoch : ℕ) (group : Option Words) → Speaks m (join_group t w stream epoch group)
join_group_speaks m t w stream epoch None = tt
join_group_speaks m t w stream epoch (Some group) = λ r a b told. joined_speaks m t w stream epoch r

subscribe_free_speaks : {S : Type 0} (m : HubMeaning S) (t : Tables) (last : Bool) (w : Wish) (stream epoch : ℕ) → Speaks m (subscribe_free t last w stream epoch)
subscribe_free_speaks m t last w stream epoch =
    either m last _ _ tt
    (either m (is_single w.properties) _ _ (join_group_speaks m t w stream epoch (group_name w.properties)) (λ r a b told. started_speaks m t w stream epoch r))

subscribe_at_speaks : {S : Type 0} (m : HubMeaning S) (t : Tables) (last : Bool) (w : Wish) (stream epoch : ℕ) (s : Option Subscription) → Speaks m (subscribe_at t last w stream epoch s)
subscribe_at_speaks m t last w stream epoch (Some s) = tt
subscribe_at_speaks m t last w stream epoch None = subscribe_free_speaks m t last w stream epoch

subscribe_on_speaks : {S : Type 0} (m : HubMeaning S) (t : Tables) (last : Bool) (w : Wish) (found : Found) → Speaks m (subscribe_on t last w found)
subscribe_on_speaks m t last w Missing = tt
subscribe_on_speaks m t last w (Closed stream) = tt
subscribe_on_speaks m t last w (Running stream epoch) = subscribe_at_speaks m t last w stream epoch (slot w.id t)

credit_at_said : (t : Tables) (id more : ℕ) (s : Option Subscription) → IsSaid (credit_at t id more s)
credit_at_said t id more None = tt
credit_at_said t id more (Some s) = tt

unsubscribe_of_speaks : {S : Type 0} (m : HubMeaning S) (t : Tables) (corr id : ℕ) (single : Option ℕ) → Speaks m (unsubscribe_of t corr id single)
unsubscribe_of_speaks m t corr id None = tt
unsubscribe_of_speaks m t corr id (Some serial) = λ r a b told. tt

unsubscribe_at_speaks : {S : Type 0} (m : HubMeaning S) (t : Tables) (corr id : ℕ) (s : Option Subscription) → Speaks m (unsubscribe_at t corr id s)
unsubscribe_at_speaks m t corr id None = tt
unsubscribe_at_speaks m t corr id (Some s) = unsubscribe_of_speaks m t corr id s.single

restarted_speaks : {S : Type 0} (m : HubMeaning S) (t : Tables) (id : ℕ) (s : Subscription) (r : Result ℕ AllocError) → Speaks m (restarted t id s r)
restarted_speaks m t id s (Ok next) = tt
restarted_speaks m t id s (Err e) = tt

turned_speaks : {S : Type 0} (m : HubMeaning S) (t : Tables) (id : ℕ) (s : Subscription) (place : Option OffsetSpec) (active : Bool) → Speaks m (turned t id s place active)
turned_speaks m t id s place active = either m active _ _ (λ r a b told. restarted_speaks m t id s r) tt

awaited_speaks : {S : Type 0} (m : HubMeaning S) (t : Tables) (id : ℕ) (s : Subscription) (place : Option OffsetSpec) (serial : ℕ) (due : Bool) → Speaks m (awaited t id s place serial due)
awaited_speaks m t id s place serial due = either m due _ _ (λ r a b told. turned_speaks m t id s place r) tt

update_of_speaks : {S : Type 0} (m : HubMeaning S) (t : Tables) (id : ℕ) (s : Subscription) (place : Option OffsetSpec) (single : Option ℕ) → Speaks m (update_of t id s place single)
update_of_speaks m t id s place None = tt
update_of_speaks m t id s place (Some serial) = λ r a b told. awaited_speaks m t id s place serial r

update_at_speaks : {S : Type 0} (m : HubMeaning S) (t : Tables) (id : ℕ) (place : Option OffsetSpec) (s : Option Subscription) → Speaks m (update_at t id place s)
update_at_speaks m t id place None = tt
update_at_speaks m t id place (Some s) = update_of_speaks m t id s place s.single

update_by_speaks : {S : Type 0} (m : HubMeaning S) (t : Tables) (place : Option OffsetSpec) (id : Option ℕ) → Speaks m (update_by t place id)
update_by_speaks m t place None = tt
update_by_speaks m t place (Some id) = update_at_speaks m t id place (slot id t)

-- ---- offsets

offset_taken_speaks : {S : Type 0} (m : HubMeaning S) (t : Tables) (r : Result Taken OfferFault) → Speaks m (offset_taken t r)
offset_taken_speaks m t (Ok taken) = tt
offset_taken_speaks m t (Err of.Memory) = tt
offset_taken_speaks m t (Err (of.Stale asked running)) = tt
offset_taken_speaks m t (Err (of.BadName len)) = tt
offset_taken_speaks m t (Err (of.EmptyBatch place)) = tt
offset_taken_speaks m t (Err (of.Limit what most)) = tt

store_at_speaks : {S : Type 0} (m : HubMeaning S) (t : Tables) (reference : Words) (offset now : ℕ) (stream : Option ℕ) → Speaks m (store_at t reference offset now stream)
store_at_speaks m t reference offset now None = tt
store_at_speaks m t reference offset now (Some number) = λ r a b told. offset_taken_speaks m t r

offset_told_speaks : {S : Type 0} (m : HubMeaning S) (t : Tables) (corr : ℕ) (r : Result (Option ℕ) AllocError) → Speaks m (offset_told t corr r)
offset_told_speaks m t corr (Ok None) = tt
offset_told_speaks m t corr (Ok (Some offset)) = tt
offset_told_speaks m t corr (Err e) = tt

query_at_speaks : {S : Type 0} (m : HubMeaning S) (t : Tables) (corr : ℕ) (reference : Words) (stream : Option ℕ) → Speaks m (query_at t corr reference stream)
query_at_speaks m t corr reference None = tt
query_at_speaks m t corr reference (Some number) = λ r a b told. offset_told_speaks m t corr r

last_told_speaks : {S : Type 0} (m : HubMeaning S) (t : Tables) (corr : ℕ) (r : Result (Option ℕ) AllocError) → Speaks m (last_told t corr r)
last_told_speaks m t corr (Ok last) = tt
last_told_speaks m t corr (Err e) = tt

stats_at_speaks : {S : Type 0} (m : HubMeaning S) (t : Tables) (corr : ℕ) (stream : Option ℕ) → Speaks m (stats_at t corr stream)
stats_at_speaks m t corr None = tt
stats_at_speaks m t corr (Some number) = λ r a b told. last_told_speaks m t corr r

-- ---- streams

answers_speaks : {S : Type 0} (m : HubMeaning S) (t : Tables) (asked : Request) (corr : ℕ) (response : Option ResponseCode) → Speaks m (answers_by t asked corr response)
answers_speaks m t asked corr (Some response) = tt
answers_speaks m t asked corr None = tt

told_of_found : (name : Words) (found : Found) → IsTold (metadata_of name found)
told_of_found name Missing = (omega arith, omega arith, refl)
told_of_found name (Closed stream) = (omega arith, omega arith, refl)
told_of_found name (Running stream epoch) = (omega arith, omega arith, refl)

abbrev names_of : List StreamMetadata → List Words
names_of told = map (λ (s : StreamMetadata). s.stream) told

names_more : (told : List StreamMetadata) (one : StreamMetadata) → names_of (told ++ one ∷ []) ≡ names_of told ++ one.stream ∷ []
names_more [] one = refl
names_more (s ∷ told) one = ap (λ (names : List Words). s.stream ∷ names) (names_more told one)

told_more : (told : List StreamMetadata) (one : StreamMetadata) → AllByRecursion IsTold told → IsTold one → AllByRecursion IsTold (told ++ one ∷ [])
told_more [] one all is = (is, tt)
told_more (s ∷ told) one all is = (all.0, told_more told one all.1 is)

-- each asked stream is told, in order
metadata_speaks : {S : Type 0} (m : HubMeaning S) (t : Tables) (corr : ℕ) (asked : List Words) (body : List ℕ) (names : List Words) (told : List StreamMetadata)
    → Spells (Admin (of_admin.Metadata corr asked)) body → length body ≤ 1048576 → names_of told ++ names ≡ asked → AllByRecursion IsTold told → Speaks m (metadata_from t corr names told)
metadata_speaks m t corr asked body [] told spells short same all = record {
  corr = corr;
  asked = asked;
  body = body;
  spells = spells;
  short = short;
  same = sym (append-nil (names_of told)) ∙ same;
  each = All-from_recursion IsTold told all;
}
metadata_speaks m t corr asked body (name ∷ names) told spells short same all = λ found a b u.
    let one = metadata_of name found in
    let next : names_of (told ++ one ∷ []) ++ names ≡ asked = ap (λ (x : List Words). x ++ names) (names_more told one) ∙ append_assoc (names_of told) (name ∷ []) names ∙ same in
    metadata_speaks m t corr asked body names (told ++ one ∷ []) spells short next (told_more told one all (told_of_found name found))

routes_told_speaks : {S : Type 0} (m : HubMeaning S) (t : Tables) (corr : ℕ) (r : Result (Option (List Words)) AllocError) → AreFew r → Speaks m (routes_told t corr r)
routes_told_speaks m t corr (Ok None) few = omega arith
routes_told_speaks m t corr (Ok (Some names)) few = few
routes_told_speaks m t corr (Err e) few = tt

parts_told_speaks : {S : Type 0} (m : HubMeaning S) (t : Tables) (corr : ℕ) (r : Result (Option (List Words)) AllocError) → AreFew r → Speaks m (parts_told t corr r)
parts_told_speaks m t corr (Ok None) few = omega arith
parts_told_speaks m t corr (Ok (Some names)) few = few
parts_told_speaks m t corr (Err e) few = tt

-- ---- an open connection

data_speaks : {S : Type 0} (m : HubMeaning S) (t : Tables) (now : ℕ) (command : DataCommand) → HasFewItems command → Speaks m (data_row t now command)
data_speaks m t now (of_data.DeclarePublisher corr publisher reference stream) few = λ found a b u. declare_on_speaks m t corr publisher reference stream found
data_speaks m t now (of_data.Publish publisher items) few = publish_speaks m t publisher items now few.0
data_speaks m t now (of_data.QueryPublisherSequence corr reference stream) few = λ found a b u. sequence_at_speaks m t corr reference (stream_of found)
data_speaks m t now (of_data.DeletePublisher corr publisher) few = deleted_said t corr publisher
data_speaks m t now (of_data.Subscribe corr sub stream spec credit properties) few = λ found a b u.
    subscribe_on_speaks m (counted t) (is_last t) (record { corr = corr; id = sub; stream = stream; spec = spec; credit = credit; properties = properties }) found
data_speaks m t now (of_data.Credit sub credit) few = credit_at_said t sub credit (slot sub t)
data_speaks m t now (of_data.StoreOffset reference stream offset) few = λ found a b u. store_at_speaks m t reference offset now (stream_of found)
data_speaks m t now (of_data.QueryOffset corr reference stream) few = λ found a b u. query_at_speaks m t corr reference (stream_of found)
data_speaks m t now (of_data.Unsubscribe corr sub) few = unsubscribe_at_speaks m t corr sub (slot sub t)
data_speaks m t now other few = tt

admin_speaks : {S : Type 0} (m : HubMeaning S) (t : Tables) (command : AdminCommand) (body : List ℕ) → Spells (Admin command) body → length body ≤ 1048576 → Speaks m (admin_row t command)
admin_speaks m t (of_admin.Create corr stream properties) body spells short = λ did a b u. answers_speaks m t _ corr (code_of did)
admin_speaks m t (of_admin.Delete corr stream) body spells short = λ did a b u. answers_speaks m t _ corr (code_of did)
admin_speaks m t (of_admin.CreateSuper corr name partitions keys properties) body spells short = λ did a b u. answers_speaks m t _ corr (code_of did)
admin_speaks m t (of_admin.DeleteSuper corr name) body spells short = λ did a b u. answers_speaks m t _ corr (code_of did)
admin_speaks m t (of_admin.Metadata corr items) body spells short = metadata_speaks m t corr items body items [] spells short refl tt
admin_speaks m t (of_admin.Route corr routing_key super_stream) body spells short = λ r a b few. routes_told_speaks m t corr r few
admin_speaks m t (of_admin.Partitions corr super_stream) body spells short = λ r a b few. parts_told_speaks m t corr r few
admin_speaks m t (of_admin.UpdateAnswer corr response content) body spells short = update_by_speaks m t content (position (is_asked corr) t.subscriptions)
admin_speaks m t (of_admin.ExchangeVersions corr items) body spells short = tt
admin_speaks m t (of_admin.StreamStats corr stream) body spells short = λ found a b u. stats_at_speaks m t corr (stream_of found)
admin_speaks m t other body spells short = tt

-- ---- the opening

let_in_said : (t : Tables) (corr : ℕ) (refused : Option ResponseCode) → IsSaid (let_in t corr refused)
let_in_said t corr None = tt
let_in_said t corr (Some response) = tt

fresh_said : (t : Tables) (command : AdminCommand) → IsSaid (fresh t command)
fresh_said t (of_admin.PeerProperties corr properties) = tt
fresh_said t other = tt

greeted_said : (t : Tables) (command : AdminCommand) → IsSaid (greeted t command)
greeted_said t (of_admin.SaslHandshake corr) = tt
greeted_said t other = tt

shaken_said : (who : Identity) (t : Tables) (command : AdminCommand) → IsSaid (shaken who t command)
shaken_said who t (of_admin.SaslAuthenticate corr mechanism opaque) = either_said (is_text (codes "PLAIN") mechanism) _ _ (let_in_said t corr (refusal who opaque)) tt
shaken_said who t other = tt

tuning_said : (t : Tables) (command : AdminCommand) → IsSaid (tuning t command)
tuning_said t (of_admin.Tune frame_max heartbeat) = tt
tuning_said t (of_admin.TuneAnswer frame_max heartbeat) = tt
tuning_said t other = tt

waiting_said : (t : Tables) (command : AdminCommand) → IsSaid (waiting t command)
waiting_said t (of_admin.OpenHost corr host) = either_said (is_text (codes "/") host) _ _ tt tt
waiting_said t other = tt

-- ---- at each stage

data_at_speaks : {S : Type 0} (m : HubMeaning S) (t : Tables) (now : ℕ) (stage : Stage) (command : DataCommand) → HasFewItems command → Speaks m (data_at t now stage command)
data_at_speaks m t now stages.Open command few = data_speaks m t now command few
data_at_speaks m t now other command few = tt

admin_at_speaks : {S : Type 0} (m : HubMeaning S) (who : Identity) (t : Tables) (stage : Stage) (command : AdminCommand) (body : List ℕ) → Spells (Admin command) body → length body ≤ 1048576 → Speaks m (admin_at who t stage command)
admin_at_speaks m who t stages.Open command body spells short = admin_speaks m t command body spells short
admin_at_speaks m who t stages.Fresh command body spells short = fresh_said t command
admin_at_speaks m who t stages.Greeted command body spells short = greeted_said t command
admin_at_speaks m who t stages.Shaken command body spells short = shaken_said who t command
admin_at_speaks m who t stages.Tuning command body spells short = tuning_said t command
admin_at_speaks m who t stages.Tuned command body spells short = waiting_said t command

admin_any_speaks : {S : Type 0} (m : HubMeaning S) (who : Identity) (t : Tables) (command : AdminCommand) (body : List ℕ) → Spells (Admin command) body → length body ≤ 1048576 → Speaks m (admin_any who t command)
admin_any_speaks m who t of_admin.Heartbeat body spells short = tt
admin_any_speaks m who t (of_admin.Close corr response reason) body spells short = tt
admin_any_speaks m who t other body spells short = admin_at_speaks m who t t.stage other body spells short

command_speaks : {S : Type 0} (m : HubMeaning S) (who : Identity) (t : Tables) (now : ℕ) (command : Command) (body : List ℕ) → Spells command body → length body ≤ 1048576 → Speaks m (command_row who t now command)
command_speaks m who t now (Data command) body spells short = data_at_speaks m t now t.stage command (taken_of (Data command) body spells short)
command_speaks m who t now (Admin command) body spells short = admin_any_speaks m who t command body spells short

pub replies_are_sayable : {S : Type 0} (m : HubMeaning S) → HubLaws m → RepliesAreSayable m
replies_are_sayable m laws who t now command body spells short reply new h0 h1 run =
    all_well m IsSaid (command_row who t now command) h0 (leaves reply new) h1 laws (command_speaks m who t now command body spells short) run
