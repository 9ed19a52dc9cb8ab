-- The replies fit frames.
use Rattle.std.proofs.Common.{◌≡◌, ◌<◌, ◌≤◌, ◌^◌, ◌+◌, ◌*◌, ◌==◌, ℕ, ℤ, pos, negsuc, nat_lt, List, [], ◌∷◌, ◌++◌, length, Option, Some, None, if◌then◌else◌, refl, sym, ap, subst, ◌∙◌, arith, inl, inr}
use Rattle.std.specs.Prelude.{codes, map, All, flat_map}
use Rattle.std.specs.Fmt.{decimal}
use Rattle.std.specs.Int.{w64, cast_unsigned}
use Rattle.std.specs.Int.RustNames.{FitsSigned}
use Rattle.std.specs.List.{AllByRecursion}
use Rattle.std.proofs.lemmas.List.{length-append}
use Rattle.frame_wire.specs.Fields.{u8_bytes, u16_bytes, u32_bytes, u64_bytes, i64_bytes, text_bytes, IsText}
use Rattle.frame_wire.specs.Joins.{list_bytes}
use Rattle.frame_wire.proofs.FieldLaws.{u8_length, u16_length, u32_length, u64_length}
use Rattle.command_fields.specs.Codes.{number_of_code}
use Rattle.command_fields.specs.declared.property.Property.{Property}
use Rattle.command_fields.specs.declared.response.ResponseCode.{ResponseCode}
use Rattle.command_fields.specs.declared.response.ResponseCode.TheVariants as code
use Rattle.command_fields.specs.Properties.{property_field}
use Rattle.command_fields.proofs.SizeLaws.{body_length, list_length, text_short}
use Rattle.command_data.specs.declared.command.DataCommand.TheVariants as of_data
use Rattle.command_data.specs.declared.item.Refusal.{Refusal}
use Rattle.command_data.specs.declared.item.Tagged.{Tagged}
use Rattle.command_admin.specs.declared.command.AdminCommand.TheVariants as of_admin
use Rattle.command_admin.specs.declared.item.Broker.{Broker}
use Rattle.command_admin.specs.declared.item.KeyVersions.{KeyVersions}
use Rattle.command_admin.specs.declared.item.Statistic.{Statistic}
use Rattle.command_admin.specs.declared.item.StreamMetadata.{StreamMetadata}
use Rattle.command_admin.specs.Items.{versions_field, statistic_field}
use Rattle.command_all.specs.declared.command.Command.{Command}
use Rattle.command_all.specs.declared.command.Command.TheVariants.{Data, Admin}
use Rattle.command_all.specs.declared.identity.Identity.{Identity}
use Rattle.command_all.specs.Commands.{command_table}
use Rattle.command_all.specs.Fitting.{Fits, IsRefusal}
use Rattle.command_all.proofs.FitLaws.{ids_fit, names_fit, asked_fit}
use Rattle.session_tables.specs.declared.reply.Request.{Request}
use Rattle.session_tables.specs.declared.reply.Request.TheVariants as request
use Rattle.session_tables.specs.Spelling.{plain, property, product, place_of, broker_of, refusal_of, reason_of, version_of, greatest_of, all_keys, number_at, numbers, numbers_of, WereAsked}

-- ---- codes

code_small : (c : ResponseCode) → number_of_code c < 2 ^ 16
code_small code.Ok = omega arith
code_small code.StreamDoesNotExist = omega arith
code_small code.SubscriptionIdAlreadyExists = omega arith
code_small code.SubscriptionIdDoesNotExist = omega arith
code_small code.StreamAlreadyExists = omega arith
code_small code.StreamNotAvailable = omega arith
code_small code.SaslMechanismNotSupported = omega arith
code_small code.AuthenticationFailure = omega arith
code_small code.SaslError = omega arith
code_small code.SaslChallenge = omega arith
code_small code.AuthenticationFailureLoopback = omega arith
code_small code.VirtualHostAccessFailure = omega arith
code_small code.UnknownFrame = omega arith
code_small code.FrameTooLarge = omega arith
code_small code.InternalError = omega arith
code_small code.AccessRefused = omega arith
code_small code.PreconditionFailed = omega arith
code_small code.PublisherDoesNotExist = omega arith
code_small code.NoOffset = omega arith

-- ---- a correlation and a code

two_long : (corr response : ℕ) → length (u32_bytes corr ++ u16_bytes response) ≡ 6
two_long corr response = omega (arith, length-append (u32_bytes corr) (u16_bytes response), u32_length corr, u16_length response)

answers_fit : (r : Request) (corr : ℕ) (response : ResponseCode) → corr < 2 ^ 32 → number_of_code response < 2 ^ 16 → Fits (plain r corr response)
answers_fit request.DeclarePublisher corr c a b = ((inl refl, (a, b)), omega (arith, body_length command_table (Data (of_data.Plain 0x8001 corr (number_of_code c))), two_long corr (number_of_code c)))
answers_fit request.DeletePublisher corr c a b = ((inr (inl refl), (a, b)), omega (arith, body_length command_table (Data (of_data.Plain 0x8006 corr (number_of_code c))), two_long corr (number_of_code c)))
answers_fit request.Subscribe corr c a b = ((inr (inr (inl refl)), (a, b)), omega (arith, body_length command_table (Data (of_data.Plain 0x8007 corr (number_of_code c))), two_long corr (number_of_code c)))
answers_fit request.Unsubscribe corr c a b = ((inr (inr (inr refl)), (a, b)), omega (arith, body_length command_table (Data (of_data.Plain 0x800c corr (number_of_code c))), two_long corr (number_of_code c)))
answers_fit request.Create corr c a b = ((inl refl, (a, b)), omega (arith, body_length command_table (Admin (of_admin.Plain 0x800d corr (number_of_code c))), two_long corr (number_of_code c)))
answers_fit request.Delete corr c a b = ((inr (inl refl), (a, b)), omega (arith, body_length command_table (Admin (of_admin.Plain 0x800e corr (number_of_code c))), two_long corr (number_of_code c)))
answers_fit request.CreateSuper corr c a b = ((inr (inr (inr (inl refl))), (a, b)), omega (arith, body_length command_table (Admin (of_admin.Plain 0x801d corr (number_of_code c))), two_long corr (number_of_code c)))
answers_fit request.DeleteSuper corr c a b = ((inr (inr (inr (inr refl))), (a, b)), omega (arith, body_length command_table (Admin (of_admin.Plain 0x801e corr (number_of_code c))), two_long corr (number_of_code c)))
answers_fit request.Close corr c a b = ((inr (inr (inl refl)), (a, b)), omega (arith, body_length command_table (Admin (of_admin.Plain 0x8016 corr (number_of_code c))), two_long corr (number_of_code c)))

pub plain_fits : (made : Command) (r : Request) (corr : ℕ) (c : ResponseCode) → made ≡ plain r corr c → corr < 2 ^ 32 → Fits made
plain_fits made r corr c is small = subst Fits (sym is) (answers_fit r corr c small (code_small c))

pub heartbeat_fits : Fits (Admin of_admin.Heartbeat)
heartbeat_fits = ((tt, tt), omega (arith, body_length command_table (Admin of_admin.Heartbeat)))

reason_short : (c : ResponseCode) → length (reason_of c) < 2 ^ 15
reason_short code.UnknownFrame = omega arith
reason_short code.FrameTooLarge = omega arith
reason_short code.Ok = omega arith
reason_short code.StreamDoesNotExist = omega arith
reason_short code.SubscriptionIdAlreadyExists = omega arith
reason_short code.SubscriptionIdDoesNotExist = omega arith
reason_short code.StreamAlreadyExists = omega arith
reason_short code.StreamNotAvailable = omega arith
reason_short code.SaslMechanismNotSupported = omega arith
reason_short code.AuthenticationFailure = omega arith
reason_short code.SaslError = omega arith
reason_short code.SaslChallenge = omega arith
reason_short code.AuthenticationFailureLoopback = omega arith
reason_short code.VirtualHostAccessFailure = omega arith
reason_short code.InternalError = omega arith
reason_short code.AccessRefused = omega arith
reason_short code.PreconditionFailed = omega arith
reason_short code.PublisherDoesNotExist = omega arith
reason_short code.NoOffset = omega arith

-- the server's own Close
closing_fits : (corr response : ℕ) (reason : Option (List ℕ)) → corr < 2 ^ 32 → response < 2 ^ 16 → IsText reason → Fits (Admin (of_admin.Close corr response reason))
closing_fits corr response reason a b text =
    ((tt, (a, (b, text))), omega (arith, body_length command_table (Admin (of_admin.Close corr response reason)), length-append (u32_bytes corr) (u16_bytes response ++ text_bytes reason), length-append (u16_bytes response) (text_bytes reason), u32_length corr, u16_length response, text_short reason text))

pub close_fits : (corr response : ℕ) (c : ResponseCode) (reason : Option (List ℕ)) → corr < 2 ^ 32 → response ≡ number_of_code c → reason ≡ Some (reason_of c) → Fits (Admin (of_admin.Close corr response reason))
close_fits corr response c reason a b is =
    closing_fits corr response reason a (subst (λ (n : ℕ). n < 2 ^ 16) (sym b) (code_small c)) (subst IsText (sym is) (reason_short c))

-- ---- properties

properties_long : (a b : Property) → property_field.Fits a → property_field.Fits b → length (list_bytes property_field.spell (a ∷ b ∷ [])) ≤ 131080
properties_long a b fa fb =
    omega (
      arith,
      list_length property_field (a ∷ b ∷ []),
      length-append (property_field.spell a) (property_field.spell b ++ []),
      length-append (property_field.spell b) [],
      length-append (text_bytes a.key) (text_bytes a.value),
      length-append (text_bytes b.key) (text_bytes b.value),
      text_short a.key fa.0,
      text_short a.value fa.1,
      text_short b.key fb.0,
      text_short b.value fb.1,
    )

product_fits : AllByRecursion property_field.Fits product
product_fits = ((omega arith, omega arith), ((omega arith, omega arith), tt))

peer_told : (corr : ℕ) → corr < 2 ^ 32 → Fits (Admin (of_admin.PeerAnswer corr 1 (Some product)))
peer_told corr small =
    let content = list_bytes property_field.spell product in
    ((tt, (small, (omega arith, (omega arith, product_fits)))), omega (arith, body_length command_table (Admin (of_admin.PeerAnswer corr 1 (Some product))), length-append (u32_bytes corr) (u16_bytes 1 ++ content), length-append (u16_bytes 1) content, u32_length corr, u16_length 1, properties_long (property (codes "product") (codes "streamd")) (property (codes "version") (codes "1")) product_fits.0 product_fits.1.0))

pub peer_fits : (corr : ℕ) (row : List Property) → corr < 2 ^ 32 → row ≡ product → Fits (Admin (of_admin.PeerAnswer corr 1 (Some row)))
peer_fits corr row small is = subst (λ (r : List Property). Fits (Admin (of_admin.PeerAnswer corr 1 (Some r)))) (sym is) (peer_told corr small)

host_told : (corr : ℕ) (who : Identity) → corr < 2 ^ 32 → AllByRecursion property_field.Fits (place_of who) → Fits (Admin (of_admin.HostAnswer corr 1 (Some (place_of who))))
host_told corr who small each =
    let content = list_bytes property_field.spell (place_of who) in
    ((tt, (small, (omega arith, (omega arith, each)))), omega (arith, body_length command_table (Admin (of_admin.HostAnswer corr 1 (Some (place_of who)))), length-append (u32_bytes corr) (u16_bytes 1 ++ content), length-append (u16_bytes 1) content, u32_length corr, u16_length 1, properties_long (record { key = Some (codes "advertised_host"); value = who.host }) (property (codes "advertised_port") (decimal who.port)) each.0 each.1.0))

pub host_fits : (corr : ℕ) (who : Identity) (row : List Property) → corr < 2 ^ 32 → row ≡ place_of who → AllByRecursion property_field.Fits (place_of who) → Fits (Admin (of_admin.HostAnswer corr 1 (Some row)))
host_fits corr who row small is each = subst (λ (r : List Property). Fits (Admin (of_admin.HostAnswer corr 1 (Some r)))) (sym is) (host_told corr who small each)

pub no_host_fits : (corr : ℕ) → corr < 2 ^ 32 → Fits (Admin (of_admin.HostAnswer corr 12 (Some [])))
no_host_fits corr small =
    let content = list_bytes property_field.spell [] in
    ((tt, (small, (omega arith, (omega arith, tt)))), omega (arith, body_length command_table (Admin (of_admin.HostAnswer corr 12 (Some []))), length-append (u32_bytes corr) (u16_bytes 12 ++ content), length-append (u16_bytes 12) content, u32_length corr, u16_length 12, list_length property_field []))

-- ---- the opening

abbrev plain_name : List (Option (List ℕ))
plain_name = Some (codes "PLAIN") ∷ []

name_short : All IsText plain_name
name_short = Prim.search arith

pub mechanisms_fit : (corr : ℕ) (name : Option (List ℕ)) (row : List (Option (List ℕ))) → corr < 2 ^ 32 → name ≡ Some (codes "PLAIN") → row ≡ [] ++ name ∷ [] → Fits (Admin (of_admin.MechanismAnswer corr 1 (Some row)))
mechanisms_fit corr name row small is made =
    let whole : row ≡ plain_name = made ∙ ap (λ (n : Option (List ℕ)). n ∷ []) is in
    subst (λ (r : List (Option (List ℕ))). Fits (Admin (of_admin.MechanismAnswer corr 1 (Some r)))) (sym whole) (names_fit.mechanisms corr 1 plain_name small (omega arith) name_short (omega arith))

pub sasl_fits : (corr response : ℕ) → corr < 2 ^ 32 → response < 2 ^ 16 → Fits (Admin (of_admin.SaslAnswer corr response None))
sasl_fits corr response a b =
    let absent : List ℕ = [] in
    ((tt, (a, (b, tt))), omega (arith, body_length command_table (Admin (of_admin.SaslAnswer corr response None)), length-append (u32_bytes corr) (u16_bytes response ++ absent), length-append (u16_bytes response) absent, u32_length corr, u16_length response))

pub tune_fits : Fits (Admin (of_admin.Tune 1048576 60))
tune_fits = ((tt, (omega arith, omega arith)), omega (arith, body_length command_table (Admin (of_admin.Tune 1048576 60)), length-append (u32_bytes 1048576) (u32_bytes 60), u32_length 1048576, u32_length 60))

-- ---- publishers and consumers

map_length : (c : ResponseCode) (items : List Tagged) → length (map (refusal_of c) items) ≡ length items
map_length c [] = refl
map_length c (i ∷ items) = omega (arith, map_length c items)

pub refusals_fit : (id : ℕ) (c : ResponseCode) (items : List Tagged) (row : List Refusal) → id < 2 ^ 8 → length items ≤ 1048576 → row ≡ map (refusal_of c) items → All IsRefusal row → Fits (Data (of_data.PublishError id row))
refusals_fit id c items row small few is each = ids_fit.errors id row small each (omega (arith, few, ap length is, map_length c items))

number_long : (corr response n : ℕ) → length (u32_bytes corr ++ (u16_bytes response ++ u64_bytes n)) ≡ 14
number_long corr response n = omega (arith, length-append (u32_bytes corr) (u16_bytes response ++ u64_bytes n), length-append (u16_bytes response) (u64_bytes n), u32_length corr, u16_length response, u64_length n)

pub sequence_fits : (corr response id : ℕ) → corr < 2 ^ 32 → response < 2 ^ 16 → id < 2 ^ 64 → Fits (Data (of_data.SequenceAnswer corr response (Some id)))
sequence_fits corr response id a b c = ((tt, (a, (b, c))), omega (arith, body_length command_table (Data (of_data.SequenceAnswer corr response (Some id))), number_long corr response id))

pub offset_fits : (corr response offset : ℕ) → corr < 2 ^ 32 → response < 2 ^ 16 → offset < 2 ^ 64 → Fits (Data (of_data.OffsetAnswer corr response (Some offset)))
offset_fits corr response offset a b c = ((tt, (a, (b, c))), omega (arith, body_length command_table (Data (of_data.OffsetAnswer corr response (Some offset))), number_long corr response offset))

pub credit_fault_fits : (id : ℕ) → id < 2 ^ 8 → Fits (Data (of_data.CreditFault 4 id))
credit_fault_fits id small = ((tt, (omega arith, small)), omega (arith, body_length command_table (Data (of_data.CreditFault 4 id)), length-append (u16_bytes 4) (u8_bytes id), u16_length 4, u8_length id))

-- ---- streams

pub metadata_fits : (corr : ℕ) (who : Identity) (host : Option (List ℕ)) (row : List Broker) (streams : List StreamMetadata) → corr < 2 ^ 32 → WereAsked streams → IsText who.host → who.port < 2 ^ 32 → host ≡ who.host
    → row ≡ [] ++ record { reference = 0; host = host; port = who.port } ∷ [] → Fits (Admin (of_admin.MetadataAnswer corr row streams))
metadata_fits corr who host row streams small asked text port same made =
    let whole : row ≡ broker_of who ∷ [] = made ∙ ap (λ (h : Option (List ℕ)). (record { reference = 0; host = h; port = who.port }) ∷ []) same in
    subst (λ (r : List Broker). Fits (Admin (of_admin.MetadataAnswer corr r streams))) (sym whole) (asked_fit asked.corr asked.asked asked.body corr (broker_of who) streams asked.spells asked.short small (omega arith, text, port) asked.same asked.each)

pub routes_fit : (corr response : ℕ) (names : List (Option (List ℕ))) → corr < 2 ^ 32 → response < 2 ^ 16 → All IsText names → length names ≤ 65535 → Fits (Admin (of_admin.RouteAnswer corr response (Some names)))
routes_fit corr response names a b each few = names_fit.route corr response names a b each few

pub partitions_fit : (corr response : ℕ) (names : List (Option (List ℕ))) → corr < 2 ^ 32 → response < 2 ^ 16 → All IsText names → length names ≤ 65535 → Fits (Admin (of_admin.PartitionsAnswer corr response (Some names)))
partitions_fit corr response names a b each few = names_fit.partitions corr response names a b each few

-- ---- versions

greatest_small : (key : ℕ) → greatest_of key < 2 ^ 16
greatest_small key = grind arith

versions_each : (keys : List ℕ) → AllByRecursion (λ (k : ℕ). k < 2 ^ 16) keys → AllByRecursion versions_field.Fits (map version_of keys)
versions_each [] all = tt
versions_each (k ∷ keys) all = ((all.0, (omega arith, greatest_small k)), versions_each keys all.1)

versions_long : (keys : List ℕ) → length (flat_map versions_field.spell (map version_of keys)) ≡ 6 * length keys
versions_long [] = refl
versions_long (k ∷ keys) =
    let one = u16_bytes (greatest_of k) in
    omega (arith, versions_long keys, length-append (versions_field.spell (version_of k)) (flat_map versions_field.spell (map version_of keys)), length-append (u16_bytes k) (u16_bytes 1 ++ one), length-append (u16_bytes 1) one, u16_length k, u16_length 1, u16_length (greatest_of k))

keys_small : AllByRecursion (λ (k : ℕ). k < 2 ^ 16) all_keys
keys_small = (omega arith, (omega arith, (omega arith, (omega arith, (omega arith, (omega arith, (omega arith, (omega arith, (omega arith, (omega arith, (omega arith, (omega arith, (omega arith, (omega arith, (omega arith, (omega arith, (omega arith, (omega arith, (omega arith, (omega arith, (omega arith, (omega arith, (omega arith, (omega arith, (omega arith, (omega arith, (omega arith, (omega arith, (omega arith, (omega arith, tt))))))))))))))))))))))))))))))

versions_told : (corr : ℕ) → corr < 2 ^ 32 → Fits (Admin (of_admin.VersionsAnswer corr 1 (Some (map version_of all_keys))))
versions_told corr small =
    let told = map version_of all_keys in
    let content = list_bytes versions_field.spell told in
    ((tt, (small, (omega arith, (omega arith, versions_each all_keys keys_small)))), omega (arith, body_length command_table (Admin (of_admin.VersionsAnswer corr 1 (Some told))), length-append (u32_bytes corr) (u16_bytes 1 ++ content), length-append (u16_bytes 1) content, u32_length corr, u16_length 1, list_length versions_field told, versions_long all_keys))

pub versions_fit : (corr : ℕ) (row : List KeyVersions) → corr < 2 ^ 32 → row ≡ map version_of all_keys → Fits (Admin (of_admin.VersionsAnswer corr 1 (Some row)))
versions_fit corr row small is = subst (λ (r : List KeyVersions). Fits (Admin (of_admin.VersionsAnswer corr 1 (Some r)))) (sym is) (versions_told corr small)

-- ---- numbers of a stream

i64_length : (n : ℤ) → length (i64_bytes n) ≡ 8
unfolding i64_bytes u64_bytes
i64_length n = u64_length (cast_unsigned w64 n)

statistic_long : (s : Statistic) → IsText s.name → length (statistic_field.spell s) ≤ 32777
statistic_long s text = omega (arith, length-append (text_bytes s.name) (i64_bytes s.value), text_short s.name text, i64_length s.value)

first_short : length (codes "first_chunk_id") < 2 ^ 15
first_short = omega arith

committed_short : length (codes "committed_chunk_id") < 2 ^ 15
committed_short = omega arith

numbers_fit : (corr : ℕ) (first committed : ℤ) → corr < 2 ^ 32 → FitsSigned w64 first → FitsSigned w64 committed → Fits (Admin (of_admin.StatsAnswer corr 1 (Some (numbers first committed))))
numbers_fit corr first committed small a b =
    let one : Statistic = record { name = Some (codes "first_chunk_id"); value = first } in
    let two : Statistic = record { name = Some (codes "committed_chunk_id"); value = committed } in
    let told = one ∷ two ∷ [] in
    let content = list_bytes statistic_field.spell told in
    ((tt, (small, (omega arith, (omega arith, ((first_short, a), ((committed_short, b), tt)))))), omega (arith, body_length command_table (Admin (of_admin.StatsAnswer corr 1 (Some told))), length-append (u32_bytes corr) (u16_bytes 1 ++ content), length-append (u16_bytes 1) content, u32_length corr, u16_length 1, list_length statistic_field told, length-append (statistic_field.spell one) (statistic_field.spell two ++ []), length-append (statistic_field.spell two) [], statistic_long one first_short, statistic_long two committed_short))

number_fits : (n : ℕ) → FitsSigned w64 (number_at n)
number_fits n = grind arith

stats_told : (corr : ℕ) (last : Option ℕ) → corr < 2 ^ 32 → Fits (Admin (of_admin.StatsAnswer corr 1 (Some (numbers_of last))))
stats_told corr None small = numbers_fit corr (negsuc 0) (negsuc 0) small (omega arith) (omega arith)
stats_told corr (Some last) small = numbers_fit corr (pos 0) (number_at last) small (omega arith) (number_fits last)

pub stats_fit : (corr : ℕ) (last : Option ℕ) (row : List Statistic) → corr < 2 ^ 32 → row ≡ numbers_of last → Fits (Admin (of_admin.StatsAnswer corr 1 (Some row)))
stats_fit corr last row small is = subst (λ (r : List Statistic). Fits (Admin (of_admin.StatsAnswer corr 1 (Some r)))) (sym is) (stats_told corr last small)

pub no_stats_fit : (corr : ℕ) → corr < 2 ^ 32 → Fits (Admin (of_admin.StatsAnswer corr 2 (Some [])))
no_stats_fit corr small =
    let content = list_bytes statistic_field.spell [] in
    ((tt, (small, (omega arith, (omega arith, tt)))), omega (arith, body_length command_table (Admin (of_admin.StatsAnswer corr 2 (Some []))), length-append (u32_bytes corr) (u16_bytes 2 ++ content), length-append (u16_bytes 2) content, u32_length corr, u16_length 2, list_length statistic_field []))
