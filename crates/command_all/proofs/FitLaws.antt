-- Commands that fit a frame whatever their items are.
use Rattle.std.proofs.Common.{◌≡◌, ◌<◌, ◌≤◌, ◌^◌, ◌+◌, ◌*◌, ℕ, List, [], ◌∷◌, ◌++◌, length, Option, Some, None, refl, sym, ap, subst, ◌∙◌, arith}
use Rattle.std.specs.Prelude.{map, All, flat_map}
use Rattle.std.specs.List.{AllByRecursion}
use Rattle.std.proofs.lemmas.List.{length-append}
use Rattle.std.proofs.lemmas.List.Elements.{recursion_from_All}
use Rattle.frame_wire.specs.Fields.{u8_bytes, u16_bytes, u32_bytes, u64_bytes, text_bytes, count_bytes, IsText}
use Rattle.frame_wire.specs.Formats.{u16_field, u64_field, text_field}
use Rattle.frame_wire.specs.Joins.{list_bytes, IsList}
use Rattle.frame_wire.proofs.FieldLaws.{u8_length, u16_length, u32_length, u64_length}
use Rattle.command_fields.proofs.SizeLaws.{body_length, list_length, text_short}
use Rattle.command_data.specs.declared.command.DataCommand.TheVariants.{PublishConfirm, PublishError}
use Rattle.command_data.specs.declared.item.Refusal.{Refusal}
use Rattle.command_data.specs.Items.{refusal_field}
use Rattle.command_admin.specs.declared.command.AdminCommand.TheVariants.{Metadata, MetadataAnswer, MechanismAnswer, RouteAnswer, PartitionsAnswer}
use Rattle.command_admin.specs.declared.item.Broker.{Broker}
use Rattle.command_admin.specs.declared.item.StreamMetadata.{StreamMetadata}
use Rattle.command_admin.specs.Items.{broker_field, metadata_field}
use Rattle.command_all.specs.declared.command.Command.TheVariants.{Data, Admin}
use Rattle.command_all.specs.Commands.{command_table, Spells}
use Rattle.command_all.specs.Fitting.{Fits, IsId, IsRefusal, IdsFit, NamesFit, IsBroker, IsTold, AskedFit}

-- items that each have at most so many bytes
items_short : {A : Type 0} (f : A → List ℕ) (P : A → Type 0) (n : ℕ) → ((x : A) → P x → length (f x) ≤ n) → (xs : List A) → AllByRecursion P xs → length (flat_map f xs) ≤ n * length xs
items_short f P n each [] all = omega arith
items_short f P n each (x ∷ xs) all = omega (arith, length-append (f x) (flat_map f xs), each x all.0, items_short f P n each xs all.1)

-- ---- ids

id_long : (id : ℕ) → IsId id → length (u64_bytes id) ≤ 8
id_long id is = omega (arith, u64_length id)

refusal_long : (refusal : Refusal) → IsRefusal refusal → length (refusal_field.spell refusal) ≤ 10
refusal_long refusal is = omega (arith, length-append (u64_bytes refusal.id) (u16_bytes refusal.code), u64_length refusal.id, u16_length refusal.code)

confirms : (publisher : ℕ) (ids : List ℕ) → publisher < 2 ^ 8 → All IsId ids → 9 + 8 * length ids ≤ 4294967295 → Fits (Data (PublishConfirm publisher ids))
confirms publisher ids small all few =
    let each = recursion_from_All IsId ids all in
    let long = items_short u64_bytes IsId 8 id_long ids each in
    let len = body_length command_table (Data (PublishConfirm publisher ids)) in
    ((tt, (small, (omega arith, each))), omega (arith, len, length-append (u8_bytes publisher) (list_bytes u64_bytes ids), u8_length publisher, list_length u64_field ids, long))

errors : (publisher : ℕ) (refused : List Refusal) → publisher < 2 ^ 8 → All IsRefusal refused → 9 + 10 * length refused ≤ 4294967295 → Fits (Data (PublishError publisher refused))
errors publisher refused small all few =
    let each = recursion_from_All IsRefusal refused all in
    let long = items_short refusal_field.spell IsRefusal 10 refusal_long refused each in
    let len = body_length command_table (Data (PublishError publisher refused)) in
    ((tt, (small, (omega arith, each))), omega (arith, len, length-append (u8_bytes publisher) (list_bytes refusal_field.spell refused), u8_length publisher, list_length refusal_field refused, long))

pub ids_fit : IdsFit
ids_fit = record { confirms = confirms; errors = errors }

-- ---- names

names_long : (names : List (Option (List ℕ))) → All IsText names → length names ≤ 65535 → length (list_bytes text_bytes names) ≤ 2147516419
names_long names all few = omega (arith, list_length text_field names, items_short text_bytes IsText 32769 text_short names (recursion_from_All IsText names all))

asked : (corr : ℕ) (names : List (Option (List ℕ))) → corr < 2 ^ 32 → All IsText names → length names ≤ 65535 → Fits (Admin (Metadata corr names))
asked corr names small all few =
    let len = body_length command_table (Admin (Metadata corr names)) in
    ((tt, (small, (omega arith, recursion_from_All IsText names all))), omega (arith, len, length-append (u32_bytes corr) (list_bytes text_bytes names), u32_length corr, names_long names all few))

-- a correlation, a code and names
answer_long : (corr code : ℕ) (names : List (Option (List ℕ))) → All IsText names → length names ≤ 65535 → length (u32_bytes corr ++ (u16_bytes code ++ list_bytes text_bytes names)) ≤ 2147516425
answer_long corr code names all few =
    omega (arith, length-append (u32_bytes corr) (u16_bytes code ++ list_bytes text_bytes names), length-append (u16_bytes code) (list_bytes text_bytes names), u32_length corr, u16_length code, names_long names all few)

mechanisms : (corr code : ℕ) (names : List (Option (List ℕ))) → corr < 2 ^ 32 → code < 2 ^ 16 → All IsText names → length names ≤ 65535 → Fits (Admin (MechanismAnswer corr code (Some names)))
mechanisms corr code names a b all few =
    ((tt, (a, (b, (omega arith, recursion_from_All IsText names all)))), omega (arith, body_length command_table (Admin (MechanismAnswer corr code (Some names))), answer_long corr code names all few))

route : (corr code : ℕ) (names : List (Option (List ℕ))) → corr < 2 ^ 32 → code < 2 ^ 16 → All IsText names → length names ≤ 65535 → Fits (Admin (RouteAnswer corr code (Some names)))
route corr code names a b all few =
    ((tt, (a, (b, (omega arith, recursion_from_All IsText names all)))), omega (arith, body_length command_table (Admin (RouteAnswer corr code (Some names))), answer_long corr code names all few))

partitions : (corr code : ℕ) (names : List (Option (List ℕ))) → corr < 2 ^ 32 → code < 2 ^ 16 → All IsText names → length names ≤ 65535 → Fits (Admin (PartitionsAnswer corr code (Some names)))
partitions corr code names a b all few =
    ((tt, (a, (b, (omega arith, recursion_from_All IsText names all)))), omega (arith, body_length command_table (Admin (PartitionsAnswer corr code (Some names))), answer_long corr code names all few))

pub names_fit : NamesFit
names_fit = record { asked = asked; mechanisms = mechanisms; route = route; partitions = partitions }

-- ---- streams that were asked for

text_some : (text : Option (List ℕ)) → 2 ≤ length (text_bytes text)
text_some None = omega (arith, u16_length 65535)
text_some (Some bytes) = omega (arith, length-append (u16_bytes (length bytes)) bytes, u16_length (length bytes))

texts_some : (texts : List (Option (List ℕ))) → 2 * length texts ≤ length (flat_map text_bytes texts)
texts_some [] = omega arith
texts_some (text ∷ texts) = omega (arith, texts_some texts, text_some text, length-append (text_bytes text) (flat_map text_bytes texts))

told_long : (told : StreamMetadata) → IsTold told → length (metadata_field.spell told) ≡ length (text_bytes told.stream) + 8
told_long told is =
    let none : List ℕ = list_bytes u16_bytes told.replicas in
    let empty : length none ≡ 4 = ap (λ (r : List ℕ). length (list_bytes u16_bytes r)) is.2 ∙ omega (arith, length-append (count_bytes 0) [], u32_length 0) in
    omega (
      arith,
      length-append (text_bytes told.stream) (u16_bytes told.code ++ (u16_bytes told.leader ++ none)),
      length-append (u16_bytes told.code) (u16_bytes told.leader ++ none),
      length-append (u16_bytes told.leader) none,
      u16_length told.code,
      u16_length told.leader,
      empty,
    )

abbrev streams_of : List StreamMetadata → List (Option (List ℕ))
streams_of told = map (λ (t : StreamMetadata). t.stream) told

all_told : (told : List StreamMetadata) → AllByRecursion IsTold told → length (flat_map metadata_field.spell told) ≡ length (flat_map text_bytes (streams_of told)) + 8 * length (streams_of told)
all_told [] all = refl
all_told (t ∷ told) all =
    omega (
      arith,
      all_told told all.1,
      told_long t all.0,
      length-append (metadata_field.spell t) (flat_map metadata_field.spell told),
      length-append (text_bytes t.stream) (flat_map text_bytes (streams_of told)),
    )

same_number : (told : List StreamMetadata) → length (streams_of told) ≡ length told
same_number [] = refl
same_number (t ∷ told) = omega (arith, same_number told)

told_fits : (t : StreamMetadata) → IsText t.stream → IsTold t → metadata_field.Fits t
told_fits t text is = (text, (is.0, (is.1, subst (λ (r : List ℕ). IsList u16_field.Fits r) (sym is.2) (omega arith, tt))))

each_told : (told : List StreamMetadata) → AllByRecursion IsText (streams_of told) → AllByRecursion IsTold told → AllByRecursion metadata_field.Fits told
each_told [] texts all = tt
each_told (t ∷ told) texts all = (told_fits t texts.0 all.0, each_told told texts.1 all.1)

broker_long : (broker : Broker) → IsBroker broker → length (list_bytes broker_field.spell (broker ∷ [])) ≤ 32779
broker_long broker is =
    let host = text_bytes broker.host in
    omega (
      arith,
      list_length broker_field (broker ∷ []),
      length-append (broker_field.spell broker) [],
      length-append (u16_bytes broker.reference) (host ++ u32_bytes broker.port),
      length-append host (u32_bytes broker.port),
      u16_length broker.reference,
      u32_length broker.port,
      text_short broker.host is.1,
    )

pub asked_fit : AskedFit
asked_fit corr asked body answer broker told spells short small is same all =
    let asking = spells.is_command.1.1 in
    let asked_length = ap length spells.spelled ∙ body_length command_table (Admin (Metadata corr asked)) in
    let texts : AllByRecursion IsText (streams_of told) = subst (AllByRecursion IsText) (sym same) asking.1 in
    let each = recursion_from_All IsTold told all in
    let size : length (flat_map text_bytes (streams_of told)) ≡ length (flat_map text_bytes asked) = ap (λ (ts : List (Option (List ℕ))). length (flat_map text_bytes ts)) same in
    let number : length (streams_of told) ≡ length asked = ap length same in
    let whole : length (flat_map text_bytes asked) ≤ 1048576 = omega (arith, asked_length, short, length-append (u32_bytes corr) (list_bytes text_bytes asked), list_length text_field asked) in
    let few : length asked ≤ 524288 = omega (arith, whole, texts_some asked) in
    let brokers = list_bytes broker_field.spell (broker ∷ []) in
    let streams = list_bytes metadata_field.spell told in (
      (tt, (small, ((omega arith, ((is.0, (is.1, is.2)), tt)), (omega (arith, same_number told, number, few), each_told told texts each)))),
      omega (
        arith,
        body_length command_table (Admin (MetadataAnswer answer (broker ∷ []) told)),
        length-append (u32_bytes answer) (brokers ++ streams),
        length-append brokers streams,
        u32_length answer,
        broker_long broker is,
        list_length metadata_field told,
        all_told told each,
        size,
        number,
        whole,
        few,
      ),
    )
