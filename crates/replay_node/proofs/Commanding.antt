-- The commands of a stream, and the answers and offers that come of them.
use Rattle.std.proofs.Common.{◌≡◌, ℕ, suc, ◌+◌, ◌*◌, ◌^◌, ◌<◌, ◌≤◌, ◌⊎◌, Bool, true, false, cond, List, [], ◌∷◌, ◌++◌, length, get_or, All, Option, Some, None, refl, sym, ap, subst, ◌∙◌, length-append, arith, inl, inr}
use Rattle.std.specs.List.{flat_map, AllByRecursion}
use Rattle.std.proofs.lemmas.List.{append_cancel_left, length-map}
use Rattle.std.proofs.lemmas.List.Elements.{recursion_from_All}
use Rattle.frame_wire.specs.Fields.{u8_bytes, u16_bytes, u32_bytes, u64_bytes, count_bytes}
use Rattle.frame_wire.specs.Frames.{IsBody, stream_of, frame}
use Rattle.frame_wire.specs.declared.stream.StreamEnd.TheVariants as ends
use Rattle.frame_wire.proofs.FieldLaws.{u8_length, u16_length, u32_length, u64_length}
use Rattle.frame_wire.proofs.Streams.{one_cut}
use Rattle.chunk_format.specs.declared.entry.Entry.{Entry}
use Rattle.chunk_format.specs.declared.entry.Entry.TheVariants.{Simple, Batch}
use Rattle.chunk_format.specs.Chunks.{entry_bytes, entries_bytes}
use Rattle.command_fields.specs.Tables.{IsCommand, FitsIn, body_of}
use Rattle.command_fields.proofs.TableLaws.{table_apart}
use Rattle.command_data.specs.declared.item.Tagged.{Tagged}
use Rattle.command_data.specs.declared.item.Refusal.{Refusal}
use Rattle.command_data.specs.declared.command.DataCommand.{DataCommand}
use Rattle.command_data.specs.declared.command.DataCommand.TheVariants.{DeclarePublisher, Publish, PublishConfirm, PublishError, QueryPublisherSequence, SequenceAnswer, DeletePublisher, Subscribe, Deliver, Deliver2, Credit, CreditFault, StoreOffset, QueryOffset, OffsetAnswer, Unsubscribe, Plain}
use Rattle.command_data.specs.Items.{tagged_field, refusal_field}
use Rattle.command_data.specs.Commands.{data_table}
use Rattle.command_data.proofs.DataLaws.{data_lawful}
use Rattle.frame_commands.specs.Given.{AreSpelled, CommandsOf}
use Rattle.replay_node.specs.declared.session.Offer.{Offer}
use Rattle.replay_node.specs.declared.session.Served.{Served}
use Rattle.replay_node.specs.Commands.{frame_max, IsSimple}
use Rattle.replay_node.specs.Sessions.{is_declared, is_unnamed, is_simple, are_simple, is_stream, declare_code, declared, refusals, published, credited, joined, behind, and_then, serve, serve_all, IsOffer}
use Rattle.replay_node.specs.NodeState.{entries, ids, pieces_of, offer_pieces}
use Rattle.replay_node.specs.Commits.{IsMessage, IsLaid}
use Rattle.replay_node.specs.Complete.{IsIn}
use Rattle.replay_node.proofs.Laying.{all_append, each_piece}

-- ---- a stream has one reading

same_commands : (bodies : List (List ℕ)) (xs ys : List DataCommand) → AreSpelled bodies xs → AreSpelled bodies ys → xs ≡ ys
same_commands [] [] [] p q = refl
same_commands [] [] (y ∷ ys) p q = absurd q
same_commands [] (x ∷ xs) ys p q = absurd p
same_commands (body ∷ bodies) [] ys p q = absurd p
same_commands (body ∷ bodies) (x ∷ xs) [] p q = absurd q
same_commands (body ∷ bodies) (x ∷ xs) (y ∷ ys) p q =
    ap (λ (c : DataCommand). c ∷ xs) (table_apart data_table data_lawful x y body p.0 q.0) ∙ ap (λ (l : List DataCommand). y ∷ l) (same_commands bodies xs ys p.1 q.1)

same_rest : (bodies : List (List ℕ)) (a b : List ℕ) → stream_of bodies a ≡ stream_of bodies b → a ≡ b
same_rest bodies a b e = append_cancel_left (flat_map frame bodies) a b e

pub one_reading : (stream : List ℕ) (xs ys : List DataCommand) (a b : List ℕ) → CommandsOf frame_max stream xs a → CommandsOf frame_max stream ys b → (xs ≡ ys) × (a ≡ b)
one_reading stream xs ys a b p q =
    let bodies : p.bodies ≡ q.bodies = (one_cut frame_max (omega arith) stream p.bodies q.bodies a b ends.Open ends.Open p.framed q.framed).0 in (
      same_commands q.bodies xs ys (subst (λ (l : List (List ℕ)). AreSpelled l xs) bodies p.spelled) q.spelled,
      same_rest q.bodies a b (ap (λ (l : List (List ℕ)). stream_of l a) (sym bodies) ∙ sym p.framed.whole ∙ q.framed.whole),
    )

-- ---- commands of frames

-- a command that stands in one frame
abbrev pub InFrame : DataCommand → Type 0
InFrame command = IsCommand data_table command × (length (body_of data_table command) ≤ frame_max)

in_frames : (bodies : List (List ℕ)) (commands : List DataCommand) → AllByRecursion (IsBody frame_max) bodies → AreSpelled bodies commands → AllByRecursion InFrame commands
in_frames [] [] each spelled = tt
in_frames [] (c ∷ commands) each spelled = absurd spelled
in_frames (body ∷ bodies) [] each spelled = absurd spelled
in_frames (body ∷ bodies) (c ∷ commands) each spelled =
    ((spelled.0.is_command, subst (λ (b : List ℕ). length b ≤ frame_max) spelled.0.spelled each.0), in_frames bodies commands each.1 spelled.1)

pub each_in_frame : (stream : List ℕ) (commands : List DataCommand) (rest : List ℕ) → CommandsOf frame_max stream commands rest → AllByRecursion InFrame commands
each_in_frame stream commands rest p = in_frames p.bodies commands (recursion_from_All (IsBody frame_max) p.bodies p.framed.each) p.spelled

-- ---- which commands are served

abbrev pub IsDeclared : ℕ → List ℕ → List ℕ → DataCommand → Served → Type 0
IsDeclared connection stream publishers command served =
    (corr id : ℕ) × (reference name : Option (List ℕ)) × (command ≡ DeclarePublisher corr id reference name) × (is_unnamed reference ≡ true) × (served ≡ declared stream publishers corr id name)

abbrev pub IsPublished : ℕ → List ℕ → List ℕ → DataCommand → Served → Type 0
IsPublished connection stream publishers command served =
    (id : ℕ) × (items : List Tagged) × (command ≡ Publish id items) × (are_simple items ≡ true) × (served ≡ published connection publishers id items)

abbrev pub IsCredited : ℕ → List ℕ → List ℕ → DataCommand → Served → Type 0
IsCredited connection stream publishers command served = (sub credit : ℕ) × (command ≡ Credit sub credit) × (served ≡ credited publishers sub)

abbrev pub IsServed : ℕ → List ℕ → List ℕ → DataCommand → Served → Type 0
IsServed connection stream publishers command served =
    IsDeclared connection stream publishers command served ⊎ (IsPublished connection stream publishers command served ⊎ IsCredited connection stream publishers command served)

where_true : (b : Bool) (x y : Served) → cond b (Some x) None ≡ Some y → (b ≡ true) × (y ≡ x)
where_true true x y e = (refl, let same : y ≡ x = cc in same)
where_true false x y e = absurd cc

pub serve_cases : (connection : ℕ) (stream publishers : List ℕ) (command : DataCommand) (served : Served) → serve connection stream publishers command ≡ Some served → IsServed connection stream publishers command served
serve_cases connection stream publishers (DeclarePublisher corr id reference name) served e =
    let both = where_true (is_unnamed reference) (declared stream publishers corr id name) served e in
    inl (corr, id, reference, name, refl, both.0, both.1)
serve_cases connection stream publishers (Publish id items) served e =
    let both = where_true (are_simple items) (published connection publishers id items) served e in
    inr (inl (id, items, refl, both.0, both.1))
serve_cases connection stream publishers (Credit sub credit) served e = inr (inr (sub, credit, refl, let same : served ≡ credited publishers sub = cc in same))
serve_cases connection stream publishers (PublishConfirm publisher items) served e = absurd cc
serve_cases connection stream publishers (PublishError publisher items) served e = absurd cc
serve_cases connection stream publishers (QueryPublisherSequence corr reference name) served e = absurd cc
serve_cases connection stream publishers (SequenceAnswer corr code content) served e = absurd cc
serve_cases connection stream publishers (DeletePublisher corr publisher) served e = absurd cc
serve_cases connection stream publishers (Subscribe corr sub name spec credit properties) served e = absurd cc
serve_cases connection stream publishers (Deliver sub header payload) served e = absurd cc
serve_cases connection stream publishers (Deliver2 sub committed header payload) served e = absurd cc
serve_cases connection stream publishers (CreditFault code sub) served e = absurd cc
serve_cases connection stream publishers (StoreOffset reference name offset) served e = absurd cc
serve_cases connection stream publishers (QueryOffset corr reference name) served e = absurd cc
serve_cases connection stream publishers (OffsetAnswer corr code content) served e = absurd cc
serve_cases connection stream publishers (Unsubscribe corr sub) served e = absurd cc
serve_cases connection stream publishers (Plain key corr code) served e = absurd cc

-- ---- lengths

tagged_items : (items : List Tagged) → length (flat_map tagged_field.spell items) ≡ 8 * length items + length (entries_bytes (entries items))
tagged_items [] = refl
tagged_items (item ∷ items) =
    omega (arith, tagged_items items, length-append (tagged_field.spell item) (flat_map tagged_field.spell items), length-append (u64_bytes item.id) (entry_bytes item.entry), u64_length item.id, length-append (entry_bytes item.entry) (entries_bytes (entries items)))

pub id_items : (numbers : List ℕ) → length (flat_map u64_bytes numbers) ≡ 8 * length numbers
id_items [] = refl
id_items (n ∷ numbers) = omega (arith, id_items numbers, length-append (u64_bytes n) (flat_map u64_bytes numbers), u64_length n)

pub refusal_items : (refused : List Refusal) → length (flat_map refusal_field.spell refused) ≡ 10 * length refused
refusal_items [] = refl
refusal_items (r ∷ refused) =
    omega (arith, refusal_items refused, length-append (refusal_field.spell r) (flat_map refusal_field.spell refused), length-append (u64_bytes r.id) (u16_bytes r.code), u64_length r.id, u16_length r.code)

-- key, version, publisher and count before a list
pub head_length : (code publisher count : ℕ) (bytes : List ℕ) → length (u16_bytes code ++ (u16_bytes 1 ++ (u8_bytes publisher ++ (count_bytes count ++ bytes)))) ≡ 9 + length bytes
head_length code publisher count bytes =
    omega (
      arith,
      length-append (u16_bytes code) (u16_bytes 1 ++ (u8_bytes publisher ++ (count_bytes count ++ bytes))),
      length-append (u16_bytes 1) (u8_bytes publisher ++ (count_bytes count ++ bytes)),
      length-append (u8_bytes publisher) (count_bytes count ++ bytes),
      length-append (count_bytes count) bytes,
      u16_length code,
      u16_length 1,
      u8_length publisher,
      u32_length count,
    )

pub publish_length : (publisher : ℕ) (items : List Tagged) → length (body_of data_table (Publish publisher items)) ≡ 9 + (8 * length items + length (entries_bytes (entries items)))
publish_length publisher items =
    let all = head_length 2 publisher (length items) (flat_map tagged_field.spell items) in
    let bytes = tagged_items items in
    omega (arith, all, bytes)

-- ---- offers

each_message : (items : List Tagged) → AllByRecursion tagged_field.Fits items → AllByRecursion (λ (item : Tagged). IsSimple item.entry) items → AllByRecursion IsMessage (entries items)
each_message [] fits simple = tt
each_message (item ∷ items) fits simple = ((fits.0.1, simple.0), each_message items fits.1 simple.1)

pub offer_laid : (offer : Offer) → IsOffer offer → IsLaid offer.items
offer_laid offer is =
    let short = is.short in
    let len = publish_length offer.publisher offer.items in
    record { each = each_message offer.items is.command.1.1.1 is.simple; short = omega (arith, short, len) }

each_id : (items : List Tagged) → AllByRecursion tagged_field.Fits items → AllByRecursion (λ (id : ℕ). id < 2 ^ 64) (ids items)
each_id [] fits = tt
each_id (item ∷ items) fits = (fits.0.0, each_id items fits.1)

pub confirm_fits : (offer : Offer) → IsOffer offer → FitsIn data_table (PublishConfirm offer.publisher (ids offer.items))
confirm_fits offer is =
    let count : length (ids offer.items) ≡ length offer.items = length-map offer.items (λ (item : Tagged). item.id) in
    let all = head_length 3 offer.publisher (length (ids offer.items)) (flat_map u64_bytes (ids offer.items)) in
    let bytes = id_items (ids offer.items) in
    let short = is.short in
    let len = publish_length offer.publisher offer.items in
    ((tt, (is.command.1.0, (omega (arith, count, short, len), each_id offer.items is.command.1.1.1))), omega (arith, all, bytes, count, short, len))

-- ---- what a command came to

simple_parts : (entry : Entry) (b : Bool) → cond (is_simple entry) b false ≡ true → IsSimple entry × (b ≡ true)
simple_parts (Simple bytes) b e = (tt, e)
simple_parts (Batch compression spare records uncompressed body) b e = absurd cc

each_simple : (items : List Tagged) → are_simple items ≡ true → AllByRecursion (λ (item : Tagged). IsSimple item.entry) items
each_simple [] e = tt
each_simple (item ∷ items) e = let both = simple_parts item.entry (are_simple items) e in (both.0, each_simple items both.1)

-- what is served has answers that fit, and offers
pub record AreFit (served : Served) : Type 0 where
  pub answers : AllByRecursion (FitsIn data_table) served.answers
  pub offers : AllByRecursion IsOffer served.offers

code_fits : (stream publishers : List ℕ) (id : ℕ) (name : Option (List ℕ)) (a b : Bool) → cond a (cond b 0x11 0x01) 0x02 < 2 ^ 16
code_fits stream publishers id name true true = omega arith
code_fits stream publishers id name true false = omega arith
code_fits stream publishers id name false b = omega arith

pub answer_length : (key corr code : ℕ) → length (body_of data_table (Plain key corr code)) ≡ 10
answer_length key corr code =
    omega (
      arith,
      length-append (u16_bytes key) (u16_bytes 1 ++ (u32_bytes corr ++ u16_bytes code)),
      length-append (u16_bytes 1) (u32_bytes corr ++ u16_bytes code),
      length-append (u32_bytes corr) (u16_bytes code),
      u16_length key,
      u16_length 1,
      u32_length corr,
      u16_length code,
    )

fault_length : (code sub : ℕ) → length (body_of data_table (CreditFault code sub)) ≡ 7
fault_length code sub =
    omega (
      arith,
      length-append (u16_bytes 0x8009) (u16_bytes 1 ++ (u16_bytes code ++ u8_bytes sub)),
      length-append (u16_bytes 1) (u16_bytes code ++ u8_bytes sub),
      length-append (u16_bytes code) (u8_bytes sub),
      u16_length 0x8009,
      u16_length 1,
      u16_length code,
      u8_length sub,
    )

declared_fits : (stream publishers : List ℕ) (corr id : ℕ) (reference name : Option (List ℕ)) → InFrame (DeclarePublisher corr id reference name) → AreFit (declared stream publishers corr id name)
declared_fits stream publishers corr id reference name frame =
    let code : ℕ = declare_code stream publishers id name in
    let len = answer_length 0x8001 corr code in
    record {
      answers = (((inl refl, (frame.0.1.0, code_fits stream publishers id name (is_stream stream name) (is_declared id publishers))), omega (arith, len)), tt);
      offers = tt;
    }

each_refusal : (items : List Tagged) → AllByRecursion tagged_field.Fits items → AllByRecursion refusal_field.Fits (refusals items)
each_refusal [] fits = tt
each_refusal (item ∷ items) fits = ((fits.0.0, omega arith), each_refusal items fits.1)

refusals_count : (items : List Tagged) → length (refusals items) ≡ length items
refusals_count [] = refl
refusals_count (item ∷ items) = ap suc (refusals_count items)

refused_fits : (id : ℕ) (items : List Tagged) → InFrame (Publish id items) → AllByRecursion (λ (item : Tagged). IsSimple item.entry) items → FitsIn data_table (PublishError id (refusals items))
refused_fits id items frame simple =
    let count = refusals_count items in
    let all = head_length 4 id (length (refusals items)) (flat_map refusal_field.spell (refusals items)) in
    let bytes = refusal_items (refusals items) in
    let short = frame.1 in
    let len = publish_length id items in
    ((tt, (frame.0.1.0, (omega (arith, count, short, len), each_refusal items frame.0.1.1.1))), omega (arith, all, bytes, count, short, len))

published_by : (connection : ℕ) (publishers : List ℕ) (id : ℕ) (item : Tagged) (items : List Tagged) (b : Bool) → InFrame (Publish id (item ∷ items)) → AllByRecursion (λ (i : Tagged). IsSimple i.entry) (item ∷ items)
    → AreFit (cond b (record { answers = []; publishers = publishers; offers = record { connection = connection; publisher = id; items = item ∷ items } ∷ [] })
    (record { answers = PublishError id (refusals (item ∷ items)) ∷ []; publishers = publishers; offers = [] }))
published_by connection publishers id item items true frame simple = record { answers = tt; offers = (record { command = frame.0; short = frame.1; simple = simple; some = omega arith }, tt) }
published_by connection publishers id item items false frame simple = record { answers = (refused_fits id (item ∷ items) frame simple, tt); offers = tt }

published_fits : (connection : ℕ) (publishers : List ℕ) (id : ℕ) (items : List Tagged) → InFrame (Publish id items) → AllByRecursion (λ (item : Tagged). IsSimple item.entry) items → AreFit (published connection publishers id items)
published_fits connection publishers id [] frame simple = record { answers = tt; offers = tt }
published_fits connection publishers id (item ∷ items) frame simple = published_by connection publishers id item items (is_declared id publishers) frame simple

credited_fits : (publishers : List ℕ) (sub credit : ℕ) → InFrame (Credit sub credit) → AreFit (credited publishers sub)
credited_fits publishers sub credit frame = let len = fault_length 4 sub in record { answers = (((tt, (omega arith, frame.0.1.0)), omega (arith, len)), tt); offers = tt }

pub one_fits : (connection : ℕ) (stream publishers : List ℕ) (command : DataCommand) (served : Served) → InFrame command → IsServed connection stream publishers command served → AreFit served
one_fits connection stream publishers command served frame (inl (corr, id, reference, name, is, unnamed, same)) =
    subst AreFit (sym same) (declared_fits stream publishers corr id reference name (subst InFrame is frame))
one_fits connection stream publishers command served frame (inr (inl (id, items, is, simple, same))) =
    subst AreFit (sym same) (published_fits connection publishers id items (subst InFrame is frame) (each_simple items simple))
one_fits connection stream publishers command served frame (inr (inr (sub, credit, is, same))) =
    subst AreFit (sym same) (credited_fits publishers sub credit (subst InFrame is frame))

-- ---- what commands in order came to

-- the first command, and those behind it
pub record IsStep (connection : ℕ) (stream publishers : List ℕ) (command : DataCommand) (commands : List DataCommand) (served : Served) : Type 0 where
  pub one : Served
  pub serves : serve connection stream publishers command ≡ Some one
  pub rest : Served
  pub serves_rest : serve_all connection stream one.publishers commands ≡ Some rest
  pub is : served ≡ joined one rest

behind_some : (one served : Served) (o : Option Served) → behind one o ≡ Some served → (rest : Served) × (o ≡ Some rest) × (served ≡ joined one rest)
behind_some one served None e = absurd cc
behind_some one served (Some rest) e = (rest, refl, let same : served ≡ joined one rest = cc in same)

step_of : (connection : ℕ) (stream publishers : List ℕ) (command : DataCommand) (commands : List DataCommand) (served : Served) (o : Option Served) → serve connection stream publishers command ≡ o
    → and_then o (λ s. serve_all connection stream s.publishers commands) ≡ Some served → IsStep connection stream publishers command commands served
step_of connection stream publishers command commands served None is e = absurd cc
step_of connection stream publishers command commands served (Some one) is e =
    let rest = behind_some one served (serve_all connection stream one.publishers commands) e in
    record { one = one; serves = is; rest = rest.0; serves_rest = rest.1; is = rest.2 }

pub serve_step : (connection : ℕ) (stream publishers : List ℕ) (command : DataCommand) (commands : List DataCommand) (served : Served) → serve_all connection stream publishers (command ∷ commands) ≡ Some served
    → IsStep connection stream publishers command commands served
serve_step connection stream publishers command commands served e = step_of connection stream publishers command commands served (serve connection stream publishers command) refl e

pub all_fit : (connection : ℕ) (stream publishers : List ℕ) (commands : List DataCommand) (served : Served) → AllByRecursion InFrame commands → serve_all connection stream publishers commands ≡ Some served → AreFit served
all_fit connection stream publishers [] served frames e =
    let same : served ≡ record { answers = []; publishers = publishers; offers = [] } = cc in
    subst AreFit (sym same) (record { answers = tt; offers = tt })
all_fit connection stream publishers (command ∷ commands) served frames e =
    let step = serve_step connection stream publishers command commands served e in
    let first = one_fits connection stream publishers command step.one frames.0 (serve_cases connection stream publishers command step.one step.serves) in
    let rest = all_fit connection stream step.one.publishers commands step.rest frames.1 step.serves_rest in
    subst AreFit (sym step.is) (record {
      answers = all_append (FitsIn data_table) step.one.answers step.rest.answers first.answers rest.answers;
      offers = all_append IsOffer step.one.offers step.rest.offers first.offers rest.offers;
    })

pub offer_at : (offers : List Offer) (k : ℕ) (offer : Offer) → All IsOffer offers → k < length offers → offer ≡ get_or offers k offer → IsOffer offer
offer_at offers k offer each lt is = subst IsOffer (sym is) (each k offer lt)

pub queue_pieces : (offers : List Offer) → AllByRecursion IsOffer offers → AllByRecursion (AllByRecursion IsMessage) (offer_pieces offers)
queue_pieces [] each = tt
queue_pieces (offer ∷ offers) each =
    all_append (AllByRecursion IsMessage) (pieces_of (entries offer.items)) (offer_pieces offers) (each_piece (entries offer.items) (offer_laid offer each.0).each) (queue_pieces offers each.1)

-- ---- whose the offers are

own_published : (c : ℕ) (publishers : List ℕ) (id : ℕ) (item : Tagged) (items : List Tagged) (b : Bool) (x : Offer)
    → IsIn x (cond {A = Served} b (record { answers = []; publishers = publishers; offers = record { connection = c; publisher = id; items = item ∷ items } ∷ [] })
    (record { answers = PublishError id (refusals (item ∷ items)) ∷ []; publishers = publishers; offers = [] })).offers → x.connection ≡ c
own_published c publishers id item items true x (inl same) = ap (λ (o : Offer). o.connection) same
own_published c publishers id item items true x (inr h) = absurd h
own_published c publishers id item items false x h = absurd h

own_items : (c : ℕ) (publishers : List ℕ) (id : ℕ) (items : List Tagged) (x : Offer) → IsIn x (published c publishers id items).offers → x.connection ≡ c
own_items c publishers id [] x h = absurd h
own_items c publishers id (item ∷ items) x h = own_published c publishers id item items (is_declared id publishers) x h

own_one : (c : ℕ) (stream publishers : List ℕ) (command : DataCommand) (one : Served) (x : Offer) → IsServed c stream publishers command one → IsIn x one.offers → x.connection ≡ c
own_one c stream publishers command one x (inl (corr, id, reference, name, is, unnamed, same)) h = absurd (subst (λ (s : Served). IsIn x s.offers) same h)
own_one c stream publishers command one x (inr (inl (id, items, is, simple, same))) h = own_items c publishers id items x (subst (λ (s : Served). IsIn x s.offers) same h)
own_one c stream publishers command one x (inr (inr (sub, credit, is, same))) h = absurd (subst (λ (s : Served). IsIn x s.offers) same h)

in_parts : (x : Offer) (xs ys : List Offer) → IsIn x (xs ++ ys) → IsIn x xs ⊎ IsIn x ys
in_parts x [] ys h = inr h
in_parts x (y ∷ xs) ys (inl same) = inl (inl same)
in_parts x (y ∷ xs) ys (inr h) = elim (in_parts x xs ys h) [ inl a ↦ inl (inr a) | inr b ↦ inr b ]

-- the offers of a connection's commands are its own
pub serve_own : (c : ℕ) (stream publishers : List ℕ) (commands : List DataCommand) (served : Served) → serve_all c stream publishers commands ≡ Some served → (x : Offer) → IsIn x served.offers → x.connection ≡ c
serve_own c stream publishers [] served e x h =
    let same : served ≡ record { answers = []; publishers = publishers; offers = [] } = cc in
    absurd (subst (λ (s : Served). IsIn x s.offers) same h)
serve_own c stream publishers (command ∷ commands) served e x h =
    let step = serve_step c stream publishers command commands served e in
    elim (in_parts x step.one.offers step.rest.offers (subst (λ (s : Served). IsIn x s.offers) step.is h)) [
      | inl first ↦ own_one c stream publishers command step.one x (serve_cases c stream publishers command step.one step.serves) first
      | inr later ↦ serve_own c stream step.one.publishers commands step.rest step.serves_rest x later
    ]

-- ---- each Publish is taken or refused

-- its frame is taken, or its messages are refused
abbrev IsHandled : ℕ → ℕ → List Tagged → Served → Type 0
IsHandled c id items served = IsIn (record { connection = c; publisher = id; items = items }) served.offers ⊎ IsIn (PublishError id (refusals items)) served.answers

handled_by : (c : ℕ) (publishers : List ℕ) (id : ℕ) (item : Tagged) (items : List Tagged) (b : Bool)
    → IsHandled c id (item ∷ items) (cond {A = Served} b (record { answers = []; publishers = publishers; offers = record { connection = c; publisher = id; items = item ∷ items } ∷ [] })
    (record { answers = PublishError id (refusals (item ∷ items)) ∷ []; publishers = publishers; offers = [] }))
handled_by c publishers id item items true = inl (inl refl)
handled_by c publishers id item items false = inr (inl refl)

handled_items : (c : ℕ) (publishers : List ℕ) (id : ℕ) (items : List Tagged) → 1 ≤ length items → IsHandled c id items (published c publishers id items)
handled_items c publishers id [] some = absurd (omega (arith, some))
handled_items c publishers id (item ∷ items) some = handled_by c publishers id item items (is_declared id publishers)

handled_one : (c : ℕ) (stream publishers : List ℕ) (id : ℕ) (items : List Tagged) (one : Served) → 1 ≤ length items → IsServed c stream publishers (Publish id items) one → IsHandled c id items one
handled_one c stream publishers id items one some (inl (corr, other, reference, name, is, unnamed, same)) = absurd cc
handled_one c stream publishers id items one some (inr (inl (other, more, is, simple, same))) =
    let ids_same : other ≡ id = cc in
    let items_same : more ≡ items = cc in
    let here : one ≡ published c publishers id items = same ∙ ap (λ (n : ℕ). published c publishers n more) ids_same ∙ ap (published c publishers id) items_same in
    subst (IsHandled c id items) (sym here) (handled_items c publishers id items some)
handled_one c stream publishers id items one some (inr (inr (sub, credit, is, same))) = absurd cc

is_left : {X : Type 0} (x : X) (xs ys : List X) → IsIn x xs → IsIn x (xs ++ ys)
is_left x [] ys h = absurd h
is_left x (y ∷ xs) ys (inl e) = inl e
is_left x (y ∷ xs) ys (inr h) = inr (is_left x xs ys h)

is_right : {X : Type 0} (x : X) (xs ys : List X) → IsIn x ys → IsIn x (xs ++ ys)
is_right x [] ys h = h
is_right x (y ∷ xs) ys h = inr (is_right x xs ys h)

handled_first : (c id : ℕ) (items : List Tagged) (one rest : Served) → IsHandled c id items one → IsHandled c id items (joined one rest)
handled_first c id items one rest (inl h) = inl (is_left (record { connection = c; publisher = id; items = items }) one.offers rest.offers h)
handled_first c id items one rest (inr h) = inr (is_left (PublishError id (refusals items)) one.answers rest.answers h)

handled_later : (c id : ℕ) (items : List Tagged) (one rest : Served) → IsHandled c id items rest → IsHandled c id items (joined one rest)
handled_later c id items one rest (inl h) = inl (is_right (record { connection = c; publisher = id; items = items }) one.offers rest.offers h)
handled_later c id items one rest (inr h) = inr (is_right (PublishError id (refusals items)) one.answers rest.answers h)

pub serve_each : (c : ℕ) (stream publishers : List ℕ) (commands : List DataCommand) (served : Served) → serve_all c stream publishers commands ≡ Some served
    → (id : ℕ) (items : List Tagged) → IsIn (Publish id items) commands → 1 ≤ length items → IsHandled c id items served
serve_each c stream publishers [] served e id items h some = absurd h
serve_each c stream publishers (command ∷ commands) served e id items (inl same) some =
    let step = serve_step c stream publishers command commands served e in
    let one = serve_cases c stream publishers command step.one step.serves in
    subst (IsHandled c id items) (sym step.is)
    (handled_first c id items step.one step.rest (handled_one c stream publishers id items step.one some (subst (λ (d : DataCommand). IsServed c stream publishers d step.one) (sym same) one)))
serve_each c stream publishers (command ∷ commands) served e id items (inr h) some =
    let step = serve_step c stream publishers command commands served e in
    subst (IsHandled c id items) (sym step.is) (handled_later c id items step.one step.rest (serve_each c stream step.one.publishers commands step.rest step.serves_rest id items h some))
