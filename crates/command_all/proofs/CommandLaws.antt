-- The joined table is lawful, and each half reads its bodies as the whole does.
use Rattle.std.proofs.Common.{◌≡◌, ℕ, ◌^◌, ◌<◌, Bool, true, false, cond, eqb, ltb, List, ◌++◌, length, Option, Some, None, Result, Ok, Err, refl, sym, ap, subst, ◌∙◌, inl, inr}
use Rattle.std.specs.Int.{w16}
use Rattle.std.specs.Prelude.{OnOk, IsSome, option_map}
use Rattle.std.specs.declared.alloc.AllocError.{AllocError}
use Rattle.frame_wire.specs.Reading.{Spot, past, number_of}
use Rattle.frame_wire.specs.Formats.{u16_field}
use Rattle.frame_wire.specs.Joins.{◌>>=◌, with_fault, within}
use Rattle.frame_wire.specs.declared.fault.FieldFault.{FieldFault}
use Rattle.frame_wire.specs.declared.fault.FieldFault.TheVariants as fields
use Rattle.command_fields.specs.declared.fault.DecodeFault.{DecodeFault}
use Rattle.command_fields.specs.declared.fault.DecodeError.{DecodeError}
use Rattle.command_fields.specs.declared.fault.DecodeError.TheVariants as errors
use Rattle.command_fields.specs.Faults.{of_field, Gives, GivesOr, RefusesOr}
use Rattle.command_fields.specs.Tables.{LawfulEnd, LawfulTable, Table, SpellsIn, WrongIn, FitsIn, body_of, start, known_key, in_version, known_version, command_at}
use Rattle.command_fields.specs.Sizes.{MeasuresIn}
use Rattle.command_fields.proofs.TableLaws.{pinned}
use Rattle.frame_wire.specs.Laws.{IsBytes}
use Rattle.command_data.specs.declared.command.DataCommand.{DataCommand}
use Rattle.command_data.specs.declared.key.DataKey.{DataKey}
use Rattle.command_data.specs.Commands as one_half
use Rattle.command_data.proofs.DataLaws.{data_lawful}
use Rattle.command_admin.specs.declared.command.AdminCommand.{AdminCommand}
use Rattle.command_admin.specs.declared.key.AdminKey.{AdminKey}
use Rattle.command_admin.specs.declared.key.AdminKey.TheVariants as keys
use Rattle.command_admin.specs.Commands as other_half
use Rattle.command_admin.proofs.AdminLaws.{admin_lawful}
use Rattle.command_all.specs.declared.command.Command.{Command}
use Rattle.command_all.specs.declared.command.Command.TheVariants.{Data, Admin}
use Rattle.command_all.specs.Commands.{AnyKey, OfData, OfAdmin, layout_of, key_of, fields_of, command_of, either_key, key_named, newer_key, command_table, data_key_at}

formats : (k : AnyKey) → LawfulEnd (layout_of k).format
formats (OfData k) = data_lawful.formats k
formats (OfAdmin k) = admin_lawful.formats k

plain_other : (n : ℕ) → other_half.IsPlainKey n → one_half.key_named n ≡ None
plain_other n (inl is) = rw is refl
plain_other n (inr (inl is)) = rw is refl
plain_other n (inr (inr (inl is))) = rw is refl
plain_other n (inr (inr (inr (inl is)))) = rw is refl
plain_other n (inr (inr (inr (inr is)))) = rw is refl

-- no key of an admin command is one of a data command
other : (k : AdminKey) → (other_half.admin_layout k).Known → one_half.key_named (other_half.admin_layout k).code ≡ None
other keys.Create known = refl
other keys.Delete known = refl
other keys.Metadata known = refl
other keys.MetadataAnswer known = refl
other keys.MetadataUpdate known = refl
other keys.PeerProperties known = refl
other keys.PeerAnswer known = refl
other keys.SaslHandshake known = refl
other keys.MechanismAnswer known = refl
other keys.SaslAuthenticate known = refl
other keys.SaslAnswer known = refl
other keys.Tune known = refl
other keys.TuneAnswer known = refl
other keys.OpenHost known = refl
other keys.HostAnswer known = refl
other keys.Close known = refl
other keys.Heartbeat known = refl
other keys.Route known = refl
other keys.RouteAnswer known = refl
other keys.Partitions known = refl
other keys.PartitionsAnswer known = refl
other keys.ConsumerUpdate known = refl
other keys.UpdateAnswer known = refl
other keys.ExchangeVersions known = refl
other keys.VersionsAnswer known = refl
other keys.StreamStats known = refl
other keys.StatsAnswer known = refl
other keys.CreateSuper known = refl
other keys.DeleteSuper known = refl
other (keys.Plain n) known = plain_other n known

-- ---- versions

data_tests : (one two : Bool) (k : DataKey) (o : Option DataKey) → cond {A = Option AnyKey} one (Some (OfData k)) (cond two (option_map OfData o) None) ≡ option_map OfData (cond one (Some k) (cond two o None))
data_tests true two k o = refl
data_tests false true k o = refl
data_tests false false k o = refl

admin_tests : (one two : Bool) (k : AdminKey) → cond {A = Option AnyKey} one (Some (OfAdmin k)) (cond two None None) ≡ option_map OfAdmin (cond one (Some k) (cond two None None))
admin_tests true two k = refl
admin_tests false true k = refl
admin_tests false false k = refl

abbrev data_version : DataKey → ℕ → Option DataKey
data_version first version = in_version one_half.newer_key first version

abbrev admin_version : AdminKey → ℕ → Option AdminKey
admin_version first version = in_version (λ k. None) first version

-- the versions of a key are those in its half
data_versions : (first : DataKey) (version : ℕ) → in_version newer_key (OfData first) version ≡ option_map OfData (data_version first version)
data_versions first version = data_tests (eqb version 1) (eqb version 2) first (one_half.newer_key first)

admin_versions : (first : AdminKey) (version : ℕ) → in_version newer_key (OfAdmin first) version ≡ option_map OfAdmin (admin_version first version)
admin_versions first version = admin_tests (eqb version 1) (eqb version 2) first

named : (k : AnyKey) → (layout_of k).Known → (first : AnyKey) × (key_named (layout_of k).code ≡ Some first) × (in_version newer_key first (layout_of k).version ≡ Some k)
named (OfData k) known =
    let l = one_half.data_layout k in
    let found = data_lawful.named k known in
    (OfData found.0, ap (λ o. either_key o (other_half.key_named l.code)) found.1, data_versions found.0 l.version ∙ ap (option_map OfData) found.2)
named (OfAdmin k) known =
    let l = other_half.admin_layout k in
    let found = admin_lawful.named k known in
    (OfAdmin found.0, ap (λ o. either_key o (other_half.key_named l.code)) (other k known) ∙ ap (either_key None) found.1, admin_versions found.0 l.version ∙ ap (option_map OfAdmin) found.2)

abbrev Right : ℕ → ℕ → AnyKey → Type 0
Right n version k = (layout_of k).Known × ((layout_of k).code ≡ n) × ((layout_of k).version ≡ version)

data_right : (n version : ℕ) (k : AnyKey) (first : DataKey) → one_half.key_named n ≡ Some first → (o : Option DataKey) → data_version first version ≡ o → option_map OfData o ≡ Some k → Right n version k
data_right n version k first named (Some j) is e = let same : OfData j ≡ k = cc in subst (Right n version) same (data_lawful.known n version first j named is)
data_right n version k first named None is e = absurd cc

admin_right : (n version : ℕ) (k : AnyKey) (first : AdminKey) → other_half.key_named n ≡ Some first → (o : Option AdminKey) → admin_version first version ≡ o → option_map OfAdmin o ≡ Some k → Right n version k
admin_right n version k first named (Some j) is e = let same : OfAdmin j ≡ k = cc in subst (Right n version) same (admin_lawful.known n version first j named is)
admin_right n version k first named None is e = absurd cc

first_is : (j first : AnyKey) → ◌≡◌ {A = Option AnyKey} (Some j) (Some first) → j ≡ first
first_is j first e = cc

known_by : (n version : ℕ) (first k : AnyKey) (d : Option DataKey) (a : Option AdminKey) → one_half.key_named n ≡ d → other_half.key_named n ≡ a → either_key d a ≡ Some first → in_version newer_key first version ≡ Some k → Right n version k
known_by n version first k (Some j) a one two e is =
    let same = first_is (OfData j) first e in
    data_right n version k j one (data_version j version) refl (sym (data_versions j version) ∙ ap (λ (x : AnyKey). in_version newer_key x version) same ∙ is)
known_by n version first k None (Some j) one two e is =
    let same = first_is (OfAdmin j) first e in
    admin_right n version k j two (admin_version j version) refl (sym (admin_versions j version) ∙ ap (λ (x : AnyKey). in_version newer_key x version) same ∙ is)
known_by n version first k None None one two e is = absurd cc

known : (n version : ℕ) (first k : AnyKey) → key_named n ≡ Some first → in_version newer_key first version ≡ Some k → Right n version k
known n version first k named is = known_by n version first k (one_half.key_named n) (other_half.key_named n) refl refl named is

small : (k : AnyKey) → (layout_of k).Known → ((layout_of k).code < 2 ^ 16) × ((layout_of k).version < 2 ^ 16)
small (OfData k) known = data_lawful.small k known
small (OfAdmin k) known = admin_lawful.small k known

made : (c : Command) → command_of (key_of c) (fields_of c) ≡ c
made (Data c) = ap (λ (x : DataCommand). Data x) (data_lawful.made c)
made (Admin c) = ap (λ (x : AdminCommand). Admin x) (admin_lawful.made c)

abbrev Made : Type 0
Made = (k : AnyKey) × (layout_of k).Fields

abbrev DataMade : Type 0
DataMade = (k : DataKey) × (one_half.data_layout k).Fields

abbrev AdminMade : Type 0
AdminMade = (k : AdminKey) × (other_half.admin_layout k).Fields

data_made : DataMade → Made
data_made x = (OfData x.0, x.1)

admin_made : AdminMade → Made
admin_made x = (OfAdmin x.0, x.1)

apart : (k : AnyKey) (x : (layout_of k).Fields) → ◌≡◌ {A = Made} (key_of (command_of k x), fields_of (command_of k x)) (k, x)
unfolding data_made admin_made
apart (OfData k) x = ap data_made (data_lawful.apart k x)
apart (OfAdmin k) x = ap admin_made (admin_lawful.apart k x)

pub command_lawful : LawfulTable command_table
command_lawful = record { formats = formats; named = named; known = known; small = small; made = made; apart = apart }

-- ---- each half

-- the answer of a half as one of the whole
abbrev pub IsData : Result DataCommand DecodeError → Result Command DecodeError → Type 0
IsData (Ok d) c = c ≡ Ok (Data d)
IsData (Err e) c = c ≡ Err e

abbrev pub IsAdmin : Result AdminCommand DecodeError → Result Command DecodeError → Type 0
IsAdmin (Ok d) c = c ≡ Ok (Admin d)
IsAdmin (Err e) c = c ≡ Err e

abbrev as_data : Result DataCommand DecodeFault → Result Command DecodeFault
as_data r = r >>= λ c. Ok (Data c)

abbrev as_admin : Result AdminCommand DecodeFault → Result Command DecodeFault
as_admin r = r >>= λ c. Ok (Admin c)

abbrev the_key : List ℕ → Result (ℕ × Spot) DecodeFault
the_key body = (within of_field u16_field).read (start body)

-- the key of a body that has two bytes, and the fault of one that has not
abbrev key_by : List ℕ → Bool → Result (ℕ × Spot) DecodeFault
key_by body b = with_fault of_field (cond {A = Result (ℕ × Spot) FieldFault} b (Err (fields.Short 0)) (Ok (number_of w16 body, past 2 (start body))))

-- the fields of a key, as the command of a table
abbrev fields_behind : {C K : Type 0} → Table C K → Spot → K → Result C DecodeFault
fields_behind table s k = (table.layout_of k).format.read s >>= λ x. Ok (table.make k x.0)

abbrev by_version : {C K : Type 0} → Table C K → ℕ → K → ℕ × Spot → Result C DecodeFault
by_version table place first version = known_version place (in_version table.newer first version.0) >>= fields_behind table version.1

abbrev behind : {C K : Type 0} → Table C K → Spot → K → Result C DecodeFault
behind table s first = (within of_field u16_field).read s >>= by_version table s.at first

abbrev after_key : {C K : Type 0} → Table C K → ℕ × Spot → Result C DecodeFault
after_key table code = known_key (table.named code.0) >>= behind table code.1

data_fields : (k : DataKey) (r : Result ((one_half.data_layout k).Fields × Spot) DecodeFault) → (r >>= λ x. Ok (command_of (OfData k) x.0)) ≡ as_data (r >>= λ x. Ok (one_half.command_of k x.0))
data_fields k (Ok x) = refl
data_fields k (Err e) = refl

admin_fields : (k : AdminKey) (r : Result ((other_half.admin_layout k).Fields × Spot) DecodeFault) → (r >>= λ x. Ok (command_of (OfAdmin k) x.0)) ≡ as_admin (r >>= λ x. Ok (other_half.command_of k x.0))
admin_fields k (Ok x) = refl
admin_fields k (Err e) = refl

data_known : (place : ℕ) (s : Spot) (o : Option DataKey) → (known_version place (option_map OfData o) >>= fields_behind command_table s) ≡ as_data (known_version place o >>= fields_behind one_half.data_table s)
data_known place s (Some k) = data_fields k ((one_half.data_layout k).format.read s)
data_known place s None = refl

admin_known : (place : ℕ) (s : Spot) (o : Option AdminKey) → (known_version place (option_map OfAdmin o) >>= fields_behind command_table s) ≡ as_admin (known_version place o >>= fields_behind other_half.admin_table s)
admin_known place s (Some k) = admin_fields k ((other_half.admin_layout k).format.read s)
admin_known place s None = refl

data_behind : (place : ℕ) (first : DataKey) (r : Result (ℕ × Spot) DecodeFault) → (r >>= by_version command_table place (OfData first)) ≡ as_data (r >>= by_version one_half.data_table place first)
data_behind place first (Ok v) = ap (λ o. known_version place o >>= fields_behind command_table v.1) (data_versions first v.0) ∙ data_known place v.1 (data_version first v.0)
data_behind place first (Err e) = refl

admin_behind : (place : ℕ) (first : AdminKey) (r : Result (ℕ × Spot) DecodeFault) → (r >>= by_version command_table place (OfAdmin first)) ≡ as_admin (r >>= by_version other_half.admin_table place first)
admin_behind place first (Ok v) = ap (λ o. known_version place o >>= fields_behind command_table v.1) (admin_versions first v.0) ∙ admin_known place v.1 (admin_version first v.0)
admin_behind place first (Err e) = refl

-- a body whose key is one of a data command
data_after : (s : Spot) (k : DataKey) (d : Option DataKey) (a : Option AdminKey) → d ≡ Some k → (known_key (either_key d a) >>= behind command_table s) ≡ as_data (known_key d >>= behind one_half.data_table s)
data_after s k (Some j) a e = data_behind s.at j ((within of_field u16_field).read s)
data_after s k None a e = absurd cc

admin_after : (s : Spot) (d : Option DataKey) (a : Option AdminKey) → d ≡ None → (known_key (either_key d a) >>= behind command_table s) ≡ as_admin (known_key a >>= behind other_half.admin_table s)
admin_after s (Some j) a e = absurd cc
admin_after s None (Some j) e = admin_behind s.at j ((within of_field u16_field).read s)
admin_after s None None e = refl

abbrev key_if : List ℕ → Bool → Option DataKey
key_if body b = cond b None (one_half.key_named (number_of w16 body))

is_data_by : (body : List ℕ) (k : DataKey) (b : Bool) → key_if body b ≡ Some k → (key_by body b >>= after_key command_table) ≡ as_data (key_by body b >>= after_key one_half.data_table)
is_data_by body k true e = absurd cc
is_data_by body k false e = let n = number_of w16 body in data_after (past 2 (start body)) k (one_half.key_named n) (other_half.key_named n) e

is_admin_by : (body : List ℕ) (b : Bool) → key_if body b ≡ None → (key_by body b >>= after_key command_table) ≡ as_admin (key_by body b >>= after_key other_half.admin_table)
is_admin_by body true e = refl
is_admin_by body false e = let n = number_of w16 body in admin_after (past 2 (start body)) (one_half.key_named n) (other_half.key_named n) e

gives_data : (result : Result DataCommand DecodeError) (c : Result Command DecodeError) (read : Result DataCommand DecodeFault) → Gives result read → IsData result c → Gives c (as_data read)
gives_data (Ok d) c read given is = let same = ap as_data given in subst (λ z. Gives z (as_data read)) (sym is) same
gives_data (Err (errors.Fault f)) c read given is = let same = ap as_data given in subst (λ z. Gives z (as_data read)) (sym is) same
gives_data (Err errors.Memory) c read given is = subst (λ z. Gives z (as_data read)) (sym is) tt

gives_admin : (result : Result AdminCommand DecodeError) (c : Result Command DecodeError) (read : Result AdminCommand DecodeFault) → Gives result read → IsAdmin result c → Gives c (as_admin read)
gives_admin (Ok d) c read given is = let same = ap as_admin given in subst (λ z. Gives z (as_admin read)) (sym is) same
gives_admin (Err (errors.Fault f)) c read given is = let same = ap as_admin given in subst (λ z. Gives z (as_admin read)) (sym is) same
gives_admin (Err errors.Memory) c read given is = subst (λ z. Gives z (as_admin read)) (sym is) tt

-- What the data half answers is what the whole reads.
pub by_data : (body : List ℕ) (k : DataKey) (result : Result DataCommand DecodeError) (c : Result Command DecodeError) → IsBytes body → data_key_at body ≡ Some k
    → ((d : DataCommand) → SpellsIn one_half.data_table d body → GivesOr result d) → ((fault : DecodeFault) → WrongIn one_half.data_table body fault → RefusesOr result fault) → IsData result c
    → Gives c (command_at command_table body)
by_data body k result c fits is only refused same =
    let given = pinned one_half.data_table data_lawful body result fits only refused (command_at one_half.data_table body) refl in
    subst (λ read. Gives c read) (sym (is_data_by body k (ltb (length body) 2) is)) (gives_data result c (command_at one_half.data_table body) given same)

pub by_admin : (body : List ℕ) (result : Result AdminCommand DecodeError) (c : Result Command DecodeError) → IsBytes body → data_key_at body ≡ None
    → ((d : AdminCommand) → SpellsIn other_half.admin_table d body → GivesOr result d) → ((fault : DecodeFault) → WrongIn other_half.admin_table body fault → RefusesOr result fault) → IsAdmin result c
    → Gives c (command_at command_table body)
by_admin body result c fits is only refused same =
    let given = pinned other_half.admin_table admin_lawful body result fits only refused (command_at other_half.admin_table body) refl in
    subst (λ read. Gives c read) (sym (is_admin_by body (ltb (length body) 2) is)) (gives_admin result c (command_at other_half.admin_table body) given same)

-- ---- what is said of a command, of one that is known

pub fits_known : {c d : Command} → c ≡ d → FitsIn command_table c → FitsIn command_table d
fits_known is fits = subst (FitsIn command_table) is fits

pub measured_known : {c d : Command} (size : Option ℕ) → c ≡ d → MeasuresIn command_table d size → MeasuresIn command_table c size
measured_known size is same = subst (λ (x : Command). MeasuresIn command_table x size) (sym is) same

pub data_measured : (d : DataCommand) (size : Option ℕ) → MeasuresIn one_half.data_table d size → MeasuresIn command_table (Data d) size
data_measured d (Some n) measured = measured
data_measured d None measured = measured

pub admin_measured : (d : AdminCommand) (size : Option ℕ) → MeasuresIn other_half.admin_table d size → MeasuresIn command_table (Admin d) size
admin_measured d (Some n) measured = measured
admin_measured d None measured = measured

pub body_known : {c d : Command} (r : Result (Unit {0}) AllocError) (old new : List ℕ) → c ≡ d → OnOk r (new ≡ old ++ body_of command_table d) → OnOk r (new ≡ old ++ body_of command_table c)
body_known r old new is added = subst (λ (x : Command). OnOk r (new ≡ old ++ body_of command_table x)) (sym is) added

pub has_size : (c : Command) (size : Option ℕ) → FitsIn command_table c → MeasuresIn command_table c size → IsSome size
has_size c (Some n) fits measured = refl
has_size c None fits measured = absurd (measured fits)

pub data_ok : (r : Result DataCommand DecodeError) (d : DataCommand) → r ≡ Ok d → IsData r (Ok (Data d))
data_ok r d is = subst (λ z. IsData z (Ok (Data d))) (sym is) refl

pub data_err : (r : Result DataCommand DecodeError) (e : DecodeError) → r ≡ Err e → IsData r (Err e)
data_err r e is = subst (λ z. IsData z (Err e)) (sym is) refl

pub admin_ok : (r : Result AdminCommand DecodeError) (d : AdminCommand) → r ≡ Ok d → IsAdmin r (Ok (Admin d))
admin_ok r d is = subst (λ z. IsAdmin z (Ok (Admin d))) (sym is) refl

pub admin_err : (r : Result AdminCommand DecodeError) (e : DecodeError) → r ≡ Err e → IsAdmin r (Err e)
admin_err r e is = subst (λ z. IsAdmin z (Err e)) (sym is) refl
