-- The commands of a reader, answered turn by turn.
use Rattle.std.proofs.Common.{◌≡◌, ◌≢◌, ◌<◌, ◌≤◌, ◌*◌, ℕ, List, [], ◌∷◌, ◌++◌, length, None, Some, Result, Ok, Err, refl, sym, ap, subst, ◌∙◌, arith}
use Rattle.std.specs.Prelude.{option_to_list, OnOk}
use Rattle.std.specs.List.{AllByRecursion, flat_map}
use Rattle.std.proofs.lemmas.List.{append-nil, length-append}
use Rattle.std.proofs.lemmas.List.Elements.{All-nil}
use Rattle.frame_wire.specs.Fields.{u8_bytes, u64_bytes}
use Rattle.frame_wire.specs.Frames.{frame, IsBody, IsPartial, IsTooLarge}
use Rattle.frame_wire.specs.Joins.{list_bytes}
use Rattle.frame_wire.proofs.FieldLaws.{u64_length}
use Rattle.frame_wire.proofs.Streams.{frame_shortens, one_more, each_more}
use Rattle.chunk_format.specs.Chunks.{entry_bytes}
use Rattle.command_fields.specs.declared.fault.DecodeFault.{DecodeFault}
use Rattle.command_fields.specs.declared.response.ResponseCode.{ResponseCode}
use Rattle.command_fields.specs.declared.response.ResponseCode.TheVariants as code
use Rattle.command_fields.proofs.SizeLaws.{body_length, list_length}
use Rattle.command_data.specs.declared.command.DataCommand.{DataCommand}
use Rattle.command_data.specs.declared.command.DataCommand.TheVariants as of_data
use Rattle.command_data.specs.declared.item.Tagged.{Tagged}
use Rattle.command_data.specs.Items.{tagged_field}
use Rattle.command_all.specs.declared.command.Command.{Command}
use Rattle.command_all.specs.declared.command.Command.TheVariants.{Data, Admin}
use Rattle.command_all.specs.declared.identity.Identity.{Identity}
use Rattle.command_all.specs.Commands.{command_table, Spells}
use Rattle.command_all.specs.Reading.{AreSpelled, BeginsUnspelt}
use Rattle.command_reader.specs.States.{ReaderState, Gives, GivesCommand}
use Rattle.command_reader.specs.declared.reader.Next.{Next}
use Rattle.command_reader.specs.declared.reader.Next.TheVariants as answers
use Rattle.hub_terms.specs.Meaning.{HubMeaning, HasSpelling}
use Rattle.session_tables.specs.Spelling.{frames_of, some_frames, all_frames}
use Rattle.session_tables.specs.declared.reply.Reply.{Reply}
use Rattle.session_tables.specs.declared.tables.SessionEnd.{SessionEnd}
use Rattle.session_tables.specs.declared.tables.Tables.{Tables}
use Rattle.session_core.specs.Commands.{HasFewItems, IsTaken}
use Rattle.session_core.specs.Feeding.{CommandSteps, Answered, Closing, Partly, Ended, Unspelt, TooLarge, IsFramed, Adds, AddsStep, AddsClose, IsReading}
use Rattle.session_core.proofs.Parting.{steps_join}
use Rattle.session_core.proofs.Standing.{closed_ends}
use Rattle.session_core.proofs.Wording.{frames_one, frames_some, frames_behind}

-- ---- a command of a frame that is small enough is taken

items_long : (items : List Tagged) → 8 * length items ≤ length (flat_map tagged_field.spell items)
items_long [] = omega arith
items_long (x ∷ xs) = omega (arith, items_long xs, length-append (tagged_field.spell x) (flat_map tagged_field.spell xs), length-append (u64_bytes x.id) (entry_bytes x.entry), u64_length x.id)

each_spelled : (items : List Tagged) → AllByRecursion tagged_field.Fits items → AllByRecursion HasSpelling items
each_spelled [] all = tt
each_spelled (x ∷ xs) all = (all.0.1, each_spelled xs all.1)

few_items : (command : DataCommand) (body : List ℕ) → Spells (Data command) body → length body ≤ 1048576 → HasFewItems command
few_items (of_data.Publish publisher items) body spells short =
    let len : length body ≡ _ = ap length spells.spelled ∙ body_length command_table (Data (of_data.Publish publisher items)) in
    let few : length items ≤ 1048576 = omega (arith, len, short, items_long items, length-append (u8_bytes publisher) (list_bytes tagged_field.spell items), list_length tagged_field items) in
    (few, each_spelled items spells.is_command.1.1.1)
few_items other body spells short = tt

pub taken_of : (command : Command) (body : List ℕ) → Spells command body → length body ≤ 1048576 → IsTaken command
taken_of (Data command) body spells short = few_items command body spells short
taken_of (Admin command) body spells short = tt

pub framed_taken : (command : Command) → IsFramed command → IsTaken command
framed_taken command framed = taken_of command framed.body framed.spells framed.small

pub given_framed : (old new : ReaderState) (command : Command) → old.max ≤ 1048576 → GivesCommand old command new → IsFramed command
given_framed old new command small given = let fits = given.frame.fits in record { body = given.frame.body; spells = given.spells; small = omega (arith, fits, small) }

-- ---- an answer of the reader

pub given_command : (old new : ReaderState) (answer : Next) (command : Command) → answer ≡ answers.Command command → Gives old answer new → GivesCommand old command new
given_command old new answer command is gives = subst (λ (a : Next). Gives old a new) is gives

pub given_unspelt : (old new : ReaderState) (answer : Next) (fault : DecodeFault) → answer ≡ answers.Unspelt fault → Gives old answer new → BeginsUnspelt old.max old.rest fault × (new ≡ record { max = old.max; rest = old.rest; unspelt = Some fault })
given_unspelt old new answer fault is gives = subst (λ (a : Next). Gives old a new) is gives

pub given_large : (old new : ReaderState) (answer : Next) (size : ℕ) → answer ≡ answers.TooLarge size → Gives old answer new → (old.unspelt ≡ None) × IsTooLarge old.max old.rest size × (new ≡ old)
given_large old new answer size is gives = subst (λ (a : Next). Gives old a new) is gives

pub given_more : (old new : ReaderState) (answer : Next) → answer ≡ answers.More → Gives old answer new → (old.unspelt ≡ None) × IsPartial old.max old.rest × (new ≡ old)
given_more old new answer is gives = subst (λ (a : Next). Gives old a new) is gives

pub command_shortens : (old new : ReaderState) (command : Command) → GivesCommand old command new → length new.rest < length old.rest
command_shortens old new command given =
    frame_shortens old.rest given.frame.body new.rest (given.frame.framed ∙ ap (λ (r : List ℕ). frame given.frame.body ++ r) (sym (ap (λ (r : ReaderState). r.rest) given.left)))

pub on_ok : {E P Q : Type 0} (r : Result (Unit {0}) E) → (P → Q) → OnOk r P → OnOk r Q
on_ok {E} {P} {Q} (Ok u) f p = f p
on_ok {E} {P} {Q} (Err e) f p = tt

pub is_over : (t : Tables) (how : SessionEnd) → t.ended ≡ Some how → t.ended ≢ None
is_over t how is none = absurd (cc (sym is ∙ none))

-- ---- turns

-- what was answered so far, and that the session stands
pub record SoFar {S : Type 0} (m : HubMeaning S) (who : Identity) (now max : ℕ) (bytes : List ℕ) (old : Tables) (out0 out1 : List ℕ) (new : Tables) (reader : ReaderState) (h0 h1 : S) : Type 0 where
  pub said : List Reply
  pub wrote : out1 ≡ out0 ++ all_frames who said
  pub answered : Answered m who now max bytes old said new reader.rest h0 h1
  pub stands : new.ended ≡ None
  pub same_max : reader.max ≡ max

pub begins : {S : Type 0} (m : HubMeaning S) (who : Identity) (now : ℕ) (old : Tables) (out : List ℕ) (reader : ReaderState) (h : S)
    → old.ended ≡ None → SoFar m who now reader.max reader.rest old out out old reader h h
begins m who now old out reader h none = record {
  said = [];
  wrote = sym (append-nil out);
  answered = record { bodies = []; commands = []; whole = refl; each = All-nil (IsBody reader.max); spelled = tt; steps = (refl, refl, refl) };
  stands = none;
  same_max = refl;
}

spelled_more : (bodies : List (List ℕ)) (commands : List Command) (body : List ℕ) (command : Command) → AreSpelled bodies commands → Spells command body → AreSpelled (bodies ++ body ∷ []) (commands ++ command ∷ [])
spelled_more [] [] body command are spells = (spells, tt)
spelled_more [] (c ∷ cs) body command are spells = absurd are
spelled_more (b ∷ bs) [] body command are spells = absurd are
spelled_more (b ∷ bs) (c ∷ cs) body command are spells = (are.0, spelled_more bs cs body command are.1 spells)

-- a turn's command behind those that were answered
pub record Turned {S : Type 0} (m : HubMeaning S) (who : Identity) (now max : ℕ) (bytes : List ℕ) (old : Tables) (out0 out1 : List ℕ) (new : Tables) (reader : ReaderState) (h0 h1 : S) : Type 0 where
  pub said : List Reply
  pub wrote : out1 ≡ out0 ++ all_frames who said
  pub answered : Answered m who now max bytes old said new reader.rest h0 h1
  pub same_max : reader.max ≡ max
  pub reads : reader.unspelt ≡ None

pub turned : {S : Type 0} (m : HubMeaning S) (who : Identity) (now max : ℕ) (bytes : List ℕ) (old mid new : Tables) (out0 out1 out2 : List ℕ) (reader after : ReaderState) (command : Command) (h0 h h1 : S)
    → SoFar m who now max bytes old out0 out1 mid reader h0 h → GivesCommand reader command after → AddsStep m who now mid command out1 out2 new h h1 → Turned m who now max bytes old out0 out2 new after h0 h1
turned {S} m who now max bytes old mid new out0 out1 out2 reader after command h0 h h1 so given step =
    let a = so.answered in
    let b = given.frame in
    let rest : b.more ≡ after.rest = sym (ap (λ (r : ReaderState). r.rest) given.left) in
    let here = option_to_list step.reply in
    let one : CommandSteps m who now mid (command ∷ []) here new h h1 =
    (here, [], new, h1, sym (append-nil here), record { stands = so.stands; reply = step.reply; run = step.run; said_is = refl }, (refl, refl, refl)) in
    let small : IsBody max b.body = subst (λ (n : ℕ). IsBody n b.body) so.same_max b.fits in
    record {
      said = so.said ++ here;
      wrote = frames_behind who so.said here (some_frames who step.reply) out0 out1 out2 so.wrote step.wrote (frames_some who step.reply);
      answered = record {
        bodies = a.bodies ++ b.body ∷ [];
        commands = a.commands ++ command ∷ [];
        whole = one_more bytes a.bodies reader.rest b.body after.rest a.whole (b.framed ∙ ap (λ (r : List ℕ). frame b.body ++ r) rest);
        each = each_more max a.bodies b.body a.each small;
        spelled = spelled_more a.bodies a.commands b.body command a.spelled given.spells;
        steps = steps_join m who now a.commands (command ∷ []) old mid new so.said here h0 h h1 a.steps one;
      };
      same_max = ap (λ (r : ReaderState). r.max) given.left ∙ so.same_max;
      reads = ap (λ (r : ReaderState). r.unspelt) given.left;
    }

pub goes_on : {S : Type 0} (m : HubMeaning S) (who : Identity) (now max : ℕ) (bytes : List ℕ) (old new : Tables) (out0 out1 : List ℕ) (reader : ReaderState) (h0 h1 : S)
    → Turned m who now max bytes old out0 out1 new reader h0 h1 → new.ended ≡ None → SoFar m who now max bytes old out0 out1 new reader h0 h1
goes_on m who now max bytes old new out0 out1 reader h0 h1 t none = record { said = t.said; wrote = t.wrote; answered = t.answered; stands = none; same_max = t.same_max }

-- ---- the last turn

rests : {S : Type 0} (m : HubMeaning S) (who : Identity) (now max : ℕ) (bytes : List ℕ) (old new : Tables) (out0 out1 : List ℕ) (reader : ReaderState) (h0 h1 : S)
    → SoFar m who now max bytes old out0 out1 new reader h0 h1 → IsPartial reader.max reader.rest → Adds m who now max bytes old out0 out1 new reader.rest h0 h1
rests m who now max bytes old new out0 out1 reader h0 h1 so partial =
    record { said = so.said; wrote = so.wrote; fed = Partly so.answered so.stands (subst (λ (n : ℕ). IsPartial n reader.rest) so.same_max partial) }

pub rests_as : {S : Type 0} (m : HubMeaning S) (who : Identity) (now max : ℕ) (bytes : List ℕ) (old new : Tables) (out0 out1 : List ℕ) (reader after : ReaderState) (h0 h1 : S)
    → SoFar m who now max bytes old out0 out1 new reader h0 h1 → IsPartial reader.max reader.rest → after ≡ reader → Adds m who now max bytes old out0 out1 new after.rest h0 h1
rests_as {S} m who now max bytes old new out0 out1 reader after h0 h1 so partial same =
    subst (λ (r : ReaderState). Adds m who now max bytes old out0 out1 new r.rest h0 h1) (sym same) (rests m who now max bytes old new out0 out1 reader h0 h1 so partial)

pub ends_now : {S : Type 0} (m : HubMeaning S) (who : Identity) (now max : ℕ) (bytes : List ℕ) (old new : Tables) (out0 out1 : List ℕ) (reader : ReaderState) (h0 h1 : S)
    → Turned m who now max bytes old out0 out1 new reader h0 h1 → new.ended ≢ None → Adds m who now max bytes old out0 out1 new reader.rest h0 h1
ends_now m who now max bytes old new out0 out1 reader h0 h1 t over = record { said = t.said; wrote = t.wrote; fed = Ended t.answered over }

closing : {S : Type 0} (m : HubMeaning S) (who : Identity) (now max : ℕ) (bytes : List ℕ) (old mid new : Tables) (response : ResponseCode) (out0 out1 out2 : List ℕ) (reader : ReaderState) (rest : List ℕ) (h0 h1 : S)
    → (so : SoFar m who now max bytes old out0 out1 mid reader h0 h1) → (c : AddsClose who response mid out1 out2 new) → rest ≡ reader.rest → Closing m who now max bytes old response (so.said ++ c.reply ∷ []) new rest h0 h1
closing {S} m who now max bytes old mid new response out0 out1 out2 reader rest h0 h1 so c same = record {
  before = so.said;
  mid = mid;
  answered = subst (λ (r : List ℕ). Answered m who now max bytes old so.said mid r h0 h1) (sym same) so.answered;
  stands = so.stands;
  reply = c.reply;
  closes = c.closes;
  said_is = refl;
}

pub closes_unspelt : {S : Type 0} (m : HubMeaning S) (who : Identity) (now max : ℕ) (bytes : List ℕ) (old mid new : Tables) (out0 out1 out2 : List ℕ) (reader after : ReaderState) (fault : DecodeFault) (h0 h1 : S)
    → SoFar m who now max bytes old out0 out1 mid reader h0 h1 → BeginsUnspelt reader.max reader.rest fault → after ≡ record { max = reader.max; rest = reader.rest; unspelt = Some fault } → AddsClose who code.UnknownFrame mid out1 out2 new
    → Adds m who now max bytes old out0 out2 new after.rest h0 h1
closes_unspelt {S} m who now max bytes old mid new out0 out1 out2 reader after fault h0 h1 so front left c =
    let same : after.rest ≡ reader.rest = ap (λ (r : ReaderState). r.rest) left in
    let here : BeginsUnspelt max after.rest fault = subst (λ (r : List ℕ). BeginsUnspelt max r fault) (sym same) (subst (λ (n : ℕ). BeginsUnspelt n reader.rest fault) so.same_max front) in
    record { said = so.said ++ c.reply ∷ []; wrote = frames_behind who so.said (c.reply ∷ []) (frames_of who c.reply) out0 out1 out2 so.wrote c.wrote (frames_one who c.reply); fed = Unspelt fault (closing m who now max bytes old mid new code.UnknownFrame out0 out1 out2 reader after.rest h0 h1 so c same) here }

pub closes_large : {S : Type 0} (m : HubMeaning S) (who : Identity) (now max : ℕ) (bytes : List ℕ) (old mid new : Tables) (out0 out1 out2 : List ℕ) (reader after : ReaderState) (size : ℕ) (h0 h1 : S)
    → SoFar m who now max bytes old out0 out1 mid reader h0 h1 → IsTooLarge reader.max reader.rest size → after ≡ reader → AddsClose who code.FrameTooLarge mid out1 out2 new
    → Adds m who now max bytes old out0 out2 new after.rest h0 h1
closes_large {S} m who now max bytes old mid new out0 out1 out2 reader after size h0 h1 so large left c =
    let same : after.rest ≡ reader.rest = ap (λ (r : ReaderState). r.rest) left in
    let here : IsTooLarge max after.rest size = subst (λ (r : List ℕ). IsTooLarge max r size) (sym same) (subst (λ (n : ℕ). IsTooLarge n reader.rest size) so.same_max large) in
    record { said = so.said ++ c.reply ∷ []; wrote = frames_behind who so.said (c.reply ∷ []) (frames_of who c.reply) out0 out1 out2 so.wrote c.wrote (frames_one who c.reply); fed = TooLarge size (closing m who now max bytes old mid new code.FrameTooLarge out0 out1 out2 reader after.rest h0 h1 so c same) here }

-- ---- what is left of the reader

pub closed_reads : (who : Identity) (response : ResponseCode) (mid new : Tables) (out1 out2 : List ℕ) (P : Type 0) → AddsClose who response mid out1 out2 new → new.ended ≡ None → P
closed_reads who response mid new out1 out2 P c none = absurd (closed_ends response mid new c.reply c.closes none)

pub waits : (max : ℕ) (old new : ReaderState) → old.max ≡ max → (old.unspelt ≡ None) × IsPartial old.max old.rest × (new ≡ old) → IsReading max new
waits max old new same (spelt, partial, stays) = subst (IsReading max) (sym stays) (record { same_max = same; spelt = spelt; partial = subst (λ (n : ℕ). IsPartial n old.rest) same partial })
