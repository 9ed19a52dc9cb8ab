-- What holds of every lawful table: a body spells one command, or one field of it is the first wrong one.
use Rattle.std.proofs.Common.{◌≡◌, ℕ, ◌+◌, ◌^◌, ◌<◌, ◌⊎◌, Bool, true, false, cond, eqb, List, [], ◌++◌, length, Option, Some, None, Result, Ok, Err, refl, sym, ap, subst, ◌∙◌, arith, inl, inr}
use Rattle.std.proofs.lemmas.Bool.{eqb-true, eqb-false, ne_eqb}
use Rattle.std.proofs.lemmas.List.{append-nil, nil_from_length}
use Rattle.frame_wire.specs.Fields.{u16_bytes}
use Rattle.std.specs.Int.{w16}
use Rattle.frame_wire.specs.Reading.{Spot, number_at}
use Rattle.frame_wire.specs.Formats.{Format, Spelled, u8_field, u16_field, u32_field, u64_field, text_field, blob_field}
use Rattle.frame_wire.specs.Joins.{◌>>=◌, with_fault, within, ◌then◌, or_absent, list}
use Rattle.frame_wire.specs.Items.{same_fault}
use Rattle.frame_wire.specs.declared.fault.FieldFault.{FieldFault}
use Rattle.frame_wire.specs.Laws.{IsBytes, Lawful}
use Rattle.frame_wire.proofs.FieldFormats.{u8_lawful, u16_lawful, u32_lawful, u64_lawful, text_lawful, blob_lawful}
use Rattle.frame_wire.proofs.FieldLaws.{u16_length}
use Rattle.frame_wire.proofs.JoinLaws.{bind_ok, bind_err, after_ok, after_err, within_lawful, then_last, absent_last, list_lawful}
use Rattle.frame_wire.proofs.Steps.{ok_is, err_is, no_both, rest_bytes}
use Rattle.command_fields.specs.declared.fault.DecodeFault.{DecodeFault}
use Rattle.command_fields.specs.declared.fault.DecodeFault.TheVariants.{UnknownKey, Version, Long}
use Rattle.command_fields.specs.declared.fault.DecodeError.{DecodeError}
use Rattle.command_fields.specs.declared.fault.DecodeError.TheVariants as errors
use Rattle.command_fields.specs.Faults.{of_field, FailsWith, GivesAt, Gives, GivesOr, IfFault}
use Rattle.std.specs.Prelude.{IfOk, IsErrAnd}
use Rattle.command_fields.specs.Tables.{last, Table, SpellsIn, version_at, start, WrongIn, NoKey, OtherKey, NoVersion, OtherVersion, Behind, known_key, in_version, known_version, command_at, LawfulEnd, LawfulTable, u8, u16, u32, u64, text, blob, list_of, OneOutcomeIn, fields_at}

-- ---- the last field

last_takes : {A : Type 0} (b : Bool) (x y : A × Spot) (fault : DecodeFault) → cond {A = Result (A × Spot) DecodeFault} b (Ok x) (Err fault) ≡ Ok y → (b ≡ true) × (x ≡ y)
last_takes {A} true x y fault e = (refl, ok_is {A = A × Spot} {F = DecodeFault} x y e)
last_takes false x y fault e = absurd cc

last_fails : {A : Type 0} (b : Bool) (x : A × Spot) (long fault : DecodeFault) → cond {A = Result (A × Spot) DecodeFault} b (Ok x) (Err long) ≡ Err fault → (b ≡ false) × (fault ≡ long)
last_fails true x long fault e = absurd cc
last_fails {A} false x long fault e = (refl, sym (err_is {A = A × Spot} long fault e))

abbrev ending : {A : Type 0} → A × Spot → Result (A × Spot) DecodeFault
ending x = cond (eqb (length x.1.rest) 0) (Ok x) (Err (Long x.1.at))

same_spelled : {A : Type 0} (f : Format A DecodeFault) (s : Spot) (x : A) (t : Spot) → Spelled f s x t → Spelled (last f) s x t
same_spelled f s x t all = record { fits = all.fits; parts = all.parts; moved = all.moved }

its_spelled : {A : Type 0} (f : Format A DecodeFault) (s : Spot) (x : A) (t : Spot) → Spelled (last f) s x t → Spelled f s x t
its_spelled f s x t all = record { fits = all.fits; parts = all.parts; moved = all.moved }

last_refuses : {A : Type 0} (f : Format A DecodeFault) → Lawful f → (s : Spot) (fault : DecodeFault) → (last f).Wrong s fault → (last f).read s ≡ Err fault
last_refuses f p s fault (inl wrong) = after_err (f.read s) ending fault (p.refuses s fault wrong)
last_refuses f p s fault (inr (x, t, all, some, is)) =
    let test : eqb (length t.rest) 0 ≡ false = ne_eqb (length t.rest) 0 (λ e. omega arith) in
    after_ok (f.read s) ending (x, t) (p.again s x t all) ∙ rw test (ap (λ e. Err e) (sym is))

pub last_lawful : {A : Type 0} (f : Format A DecodeFault) → Lawful f → LawfulEnd (last f)
last_lawful {A} f p = record {
  lawful = record {
    takes = λ s x t fits e.
        let a = bind_ok (f.read s) ending (x, t) e in
        let b = last_takes (eqb (length a.0.1.rest) 0) a.0 (x, t) (Long a.0.1.at) a.2 in
        subst (λ (y : A × Spot). Spelled (last f) s y.0 y.1) b.1 (same_spelled f s a.0.0 a.0.1 (p.takes s a.0.0 a.0.1 fits a.1));
    ends = λ s x t all ended.
        let test : eqb (length t.rest) 0 ≡ true = rw ended refl in
        after_ok (f.read s) ending (x, t) (p.again s x t (its_spelled f s x t all)) ∙ rw test refl;
    fails = λ s fault fits e.
        elim (bind_err (f.read s) ending fault e) [
          | inl a ↦ inl (p.fails s fault fits a)
          | inr a ↦
              let b = last_fails (eqb (length a.0.1.rest) 0) a.0 (Long a.0.1.at) fault a.2 in
              let other = eqb-false (length a.0.1.rest) 0 b.0 in
              inr (a.0.0, a.0.1, p.takes s a.0.0 a.0.1 fits a.1, grind arith, b.1)
        ];
    refuses = λ s fault wrong. last_refuses f p s fault wrong;
  };
  whole = λ s x t e.
      let a = bind_ok (f.read s) ending (x, t) e in
      let b = last_takes (eqb (length a.0.1.rest) 0) a.0 (x, t) (Long a.0.1.at) a.2 in
      ap (λ (y : A × Spot). y.1.rest) (sym b.1) ∙ nil_from_length a.0.1.rest (eqb-true _ _ b.0);
}

-- an ending format behind others
pub then_ends : {A B : Type 0} (f : Format A DecodeFault) (g : Format B DecodeFault) → Lawful f → LawfulEnd g → LawfulEnd (f then g)
then_ends {A} {B} f g p q = record {
  lawful = then_last f g p q.lawful;
  whole = λ s x t e.
      let a = bind_ok (f.read s) (λ x. g.read x.1 >>= λ y. Ok ((x.0, y.0), y.1)) (x, t) e in
      let b = bind_ok (g.read a.0.1) (λ y. Ok ((a.0.0, y.0), y.1)) (x, t) a.2 in
      let same = ok_is {A = (A × B) × Spot} {F = DecodeFault} ((a.0.0, b.0.0), b.0.1) (x, t) b.2 in
      ap (λ (y : (A × B) × Spot). y.1.rest) (sym same) ∙ q.whole a.0.1 b.0.0 b.0.1 b.1;
}

absent_whole : {A : Type 0} (f : Format A DecodeFault) → LawfulEnd f → (b : Bool) (s : Spot) → eqb (length s.rest) 0 ≡ b → (x : Option A) (t : Spot)
    → cond {A = Result (Option A × Spot) DecodeFault} b (Ok (None, s)) (f.read s >>= λ x. Ok (Some x.0, x.1)) ≡ Ok (x, t) → t.rest ≡ []
absent_whole {A} f p true s test x t e = ap (λ (y : Option A × Spot). y.1.rest) (sym (ok_is {A = Option A × Spot} {F = DecodeFault} (None, s) (x, t) e)) ∙ nil_from_length s.rest (eqb-true _ _ test)
absent_whole {A} f p false s test x t e =
    let a = bind_ok (f.read s) (λ x. Ok (Some x.0, x.1)) (x, t) e in
    let same = ok_is {A = Option A × Spot} {F = DecodeFault} (Some a.0.0, a.0.1) (x, t) a.2 in
    ap (λ (y : Option A × Spot). y.1.rest) (sym same) ∙ p.whole s a.0.0 a.0.1 a.1

-- an ending format that may be absent as a whole
pub absent_ends : {A : Type 0} (f : Format A DecodeFault) → LawfulEnd f → ((x : A) → 0 < length (f.spell x)) → LawfulEnd (or_absent f)
absent_ends f p some = record { lawful = absent_last f p.lawful some; whole = λ s x t e. absent_whole f p (eqb (length s.rest) 0) s refl x t e }

-- ---- key and version

key_lawful : Lawful (within of_field u16_field)
key_lawful = within_lawful of_field u16_field u16_lawful

as_key : (s : Spot) (n : ℕ) (t : Spot) → Spelled u16_field s n t → Spelled (within of_field u16_field) s n t
as_key s n t all = record { fits = all.fits; parts = all.parts; moved = all.moved }

its_key : (s : Spot) (n : ℕ) (t : Spot) → Spelled (within of_field u16_field) s n t → Spelled u16_field s n t
its_key s n t all = record { fits = all.fits; parts = all.parts; moved = all.moved }

-- ---- whole bodies

-- the fields of a key, as the command that they make
abbrev fields_behind : {C K : Type 0} → Table C K → Spot → K → Result C DecodeFault
fields_behind table s k = (table.layout_of k).format.read s >>= λ x. Ok (table.make k x.0)

abbrev after_version : {C K : Type 0} → Table C K → ℕ → K → ℕ × Spot → Result C DecodeFault
after_version table place first version = known_version place (in_version table.newer first version.0) >>= fields_behind table version.1

abbrev after_key : {C K : Type 0} → Table C K → Spot → K → Result C DecodeFault
after_key table s first = (within of_field u16_field).read s >>= after_version table s.at first

abbrev after_code : {C K : Type 0} → Table C K → ℕ × Spot → Result C DecodeFault
after_code table code = known_key (table.named code.0) >>= after_key table code.1

known_ok : {K : Type 0} (o : Option K) (k : K) → known_key o ≡ Ok k → o ≡ Some k
known_ok (Some j) k e = let same : j ≡ k = cc in ap (λ z. Some z) same
known_ok None k e = absurd cc

known_err : {K : Type 0} (o : Option K) (fault : DecodeFault) → known_key o ≡ Err fault → (o ≡ None) × (fault ≡ UnknownKey 0)
known_err (Some j) fault e = absurd cc
known_err None fault e = (refl, cc)

version_ok : {K : Type 0} (place : ℕ) (o : Option K) (k : K) → known_version place o ≡ Ok k → o ≡ Some k
version_ok place (Some j) k e = let same : j ≡ k = cc in ap (λ z. Some z) same
version_ok place None k e = absurd cc

version_err : {K : Type 0} (place : ℕ) (o : Option K) (fault : DecodeFault) → known_version place o ≡ Err fault → (o ≡ None) × (fault ≡ Version place)
version_err place (Some j) fault e = absurd cc
version_err place None fault e = (refl, cc)

-- the spelling of a command by the key and the fields that it was made of
spells_made : {C K : Type 0} (table : Table C K) → LawfulTable table → (k : K) (x : (table.layout_of k).Fields) (body : List ℕ) → (table.layout_of k).Known → (table.layout_of k).format.Fits x
    → body ≡ u16_bytes (table.layout_of k).code ++ (u16_bytes (table.layout_of k).version ++ (table.layout_of k).format.spell x) → SpellsIn table (table.make k x) body
spells_made {C} {K} table p k x body known fits is =
    let Right : (j : K) × (table.layout_of j).Fields → Type 0 = λ y.
    ((table.layout_of y.0).Known × (table.layout_of y.0).format.Fits y.1) × (body ≡ u16_bytes (table.layout_of y.0).code ++ (u16_bytes (table.layout_of y.0).version ++ (table.layout_of y.0).format.spell y.1)) in
    let moved = subst Right (sym (p.apart k x)) ((known, fits), is) in
    record { is_command = moved.0; spelled = moved.1 }

pub table_takes : {C K : Type 0} (table : Table C K) → LawfulTable table → (body : List ℕ) (c : C) → IsBytes body → command_at table body ≡ Ok c → SpellsIn table c body
table_takes {C} {K} table p body c fits e =
    let a = bind_ok ((within of_field u16_field).read (start body)) (after_code table) c e in
    let b = bind_ok (known_key (table.named a.0.0)) (after_key table a.0.1) c a.2 in
    let v = bind_ok ((within of_field u16_field).read a.0.1) (after_version table a.0.1.at b.0) c b.2 in
    let w = bind_ok (known_version a.0.1.at (in_version table.newer b.0 v.0.0)) (fields_behind table v.0.1) c v.2 in
    let d = bind_ok ((table.layout_of w.0).format.read v.0.1) (λ x. Ok (table.make w.0 x.0)) c w.2 in
    let key = key_lawful.takes (start body) a.0.0 a.0.1 fits a.1 in
    let rest = rest_bytes (within of_field u16_field) (start body) a.0.0 a.0.1 fits key in
    let version = key_lawful.takes a.0.1 v.0.0 v.0.1 rest v.1 in
    let known = p.known a.0.0 v.0.0 b.0 w.0 (known_ok (table.named a.0.0) b.0 b.1) (version_ok a.0.1.at (in_version table.newer b.0 v.0.0) w.0 w.1) in
    let ends = p.formats w.0 in
    let behind = ends.lawful.takes v.0.1 d.0.0 d.0.1 (rest_bytes (within of_field u16_field) a.0.1 v.0.0 v.0.1 rest version) d.1 in
    let none = ends.whole v.0.1 d.0.0 d.0.1 d.1 in
    let spelled : List ℕ = (table.layout_of w.0).format.spell d.0.0 in
    let fields : List ℕ = u16_bytes (table.layout_of w.0).version ++ spelled in
    let left : v.0.1.rest ≡ spelled = behind.parts ∙ ap (λ (r : List ℕ). spelled ++ r) none ∙ append-nil spelled in
    let versioned : a.0.1.rest ≡ fields = version.parts ∙ ap (λ (r : List ℕ). u16_bytes v.0.0 ++ r) left ∙ ap (λ (n : ℕ). u16_bytes n ++ spelled) (sym known.2) in
    let whole : body ≡ u16_bytes (table.layout_of w.0).code ++ fields = key.parts ∙ ap (λ (r : List ℕ). u16_bytes a.0.0 ++ r) versioned ∙ ap (λ (n : ℕ). u16_bytes n ++ fields) (sym known.1) in
    subst (λ (y : C). SpellsIn table y body) (ok_is {A = C} {F = DecodeFault} (table.make w.0 d.0.0) c d.2) (spells_made table p w.0 d.0.0 body known.0 behind.fits whole)

-- the spots behind the key, and behind the version
abbrev second : List ℕ → Spot
second rest = record { at = 2; rest = rest }

abbrev third : List ℕ → Spot
third rest = record { at = 4; rest = rest }

key_there : (code : ℕ) (rest : List ℕ) → code < 2 ^ 16 → Spelled (within of_field u16_field) (start (u16_bytes code ++ rest)) code (second rest)
key_there code rest small = record { fits = small; parts = refl; moved = omega (arith, u16_length code) }

version_there : (version : ℕ) (rest : List ℕ) → version < 2 ^ 16 → Spelled (within of_field u16_field) (second (u16_bytes version ++ rest)) version (third rest)
version_there version rest small = record { fits = small; parts = refl; moved = omega (arith, u16_length version) }

-- a body behind a code that some key has
read_second : {C K : Type 0} (table : Table C K) → LawfulTable table → (k first : K) → table.named (table.layout_of k).code ≡ Some first → (body : List ℕ) (t : Spot) → Spelled (within of_field u16_field) (start body) (table.layout_of k).code t
    → command_at table body ≡ after_key table t first
read_second table p k first is body t all =
    after_ok ((within of_field u16_field).read (start body)) (after_code table) ((table.layout_of k).code, t) (key_lawful.again (start body) (table.layout_of k).code t all)
    ∙ after_ok (known_key (table.named (table.layout_of k).code)) (after_key table t) first (ap known_key is)

-- a body behind the code and the version of a layout
read_behind : {C K : Type 0} (table : Table C K) → LawfulTable table → (k : K) → (table.layout_of k).Known → (body : List ℕ) (t u : Spot) → Spelled (within of_field u16_field) (start body) (table.layout_of k).code t → Spelled (within of_field u16_field) t (table.layout_of k).version u
    → command_at table body ≡ fields_behind table u k
read_behind table p k known body t u all version =
    let found = p.named k known in
    let l = table.layout_of k in
    read_second table p k found.0 found.1 body t all
    ∙ after_ok ((within of_field u16_field).read t) (after_version table t.at found.0) (l.version, u) (key_lawful.again t l.version u version)
    ∙ after_ok (known_version t.at (in_version table.newer found.0 l.version)) (fields_behind table u) k (ap (known_version t.at) found.2)

pub table_again : {C K : Type 0} (table : Table C K) → LawfulTable table → (c : C) (body : List ℕ) → SpellsIn table c body → command_at table body ≡ Ok c
table_again {C} {K} table p c body spells =
    let k = table.key c in
    let known = spells.is_command.0 in
    let small = p.small k known in
    let fields = table.fields c in
    let f = (table.layout_of k).format in
    let spelled : List ℕ = f.spell fields in
    let rest : List ℕ = u16_bytes (table.layout_of k).version ++ spelled in
    let done : Spot = record { at = 4 + length spelled; rest = [] } in
    let all : Spelled f (third spelled) fields done = record { fits = spells.is_command.1; parts = sym (append-nil spelled); moved = refl } in
    let read = (p.formats k).lawful.ends (third spelled) fields done all refl in
    let there : Spelled (within of_field u16_field) (start body) (table.layout_of k).code (second rest) =
    subst (λ (b : List ℕ). Spelled (within of_field u16_field) (start b) (table.layout_of k).code (second rest)) (sym spells.spelled) (key_there (table.layout_of k).code rest small.0) in
    read_behind table p k known body (second rest) (third spelled) there (version_there (table.layout_of k).version spelled small.1)
    ∙ after_ok (f.read (third spelled)) (λ x. Ok (table.make k x.0)) (fields, done) read
    ∙ ap (λ (y : C). Ok y) (p.made c)

none_some : {K : Type 0} {o u : Option K} (k : K) → o ≡ Some k → u ≡ None → o ≡ u → ⊥
none_some k a b e = absurd cc

some_same : {K : Type 0} {o u : Option K} (j k : K) → o ≡ Some j → u ≡ Some k → o ≡ u → j ≡ k
some_same j k a b e = cc

-- no key has a version that the key of its code has not
no_version : {C K : Type 0} (table : Table C K) → LawfulTable table → (first k : K) (n version : ℕ) → table.named n ≡ Some first → in_version table.newer first version ≡ None → (table.layout_of k).Known → (table.layout_of k).code ≡ n → (table.layout_of k).version ≡ version → ⊥
no_version {C} {K} table p first k n version is none known code same =
    let found = p.named k known in
    let one : found.0 ≡ first = some_same found.0 first found.1 is (ap table.named code) in
    none_some k found.2 none (ap (λ (v : ℕ). in_version table.newer found.0 v) same ∙ ap (λ (j : K). in_version table.newer j version) one)

fails_behind : {C K : Type 0} (table : Table C K) → LawfulTable table → (body : List ℕ) (fault : DecodeFault) (n : ℕ) (s : Spot) (first : K) → IsBytes s.rest → Spelled u16_field (start body) n s → table.named n ≡ Some first
    → after_key table s first ≡ Err fault → WrongIn table body fault
fails_behind {C} {K} table p body fault n s first rest key is e =
    let begins = p.known n 1 first first is refl in
    let here = subst (λ (m : ℕ). Spelled u16_field (start body) m s) (sym begins.1) key in
    elim (bind_err ((within of_field u16_field).read s) (after_version table s.at first) fault e) [
      | inl a ↦ NoVersion first s begins.0 here (key_lawful.fails s fault rest a)
      | inr v ↦
          let version = key_lawful.takes s v.0.0 v.0.1 rest v.1 in
          elim (bind_err (known_version s.at (in_version table.newer first v.0.0)) (fields_behind table v.0.1) fault v.2) [
            | inl b ↦
                let none = version_err s.at (in_version table.newer first v.0.0) fault b in
                OtherVersion first s v.0.0 v.0.1 begins.0 here (its_key s v.0.0 v.0.1 version) (λ j known code same. no_version table p first j n v.0.0 is none.0 known (code ∙ begins.1) same) none.1
            | inr b ↦
                let known = p.known n v.0.0 first b.0 is (version_ok s.at (in_version table.newer first v.0.0) b.0 b.1) in
                elim (bind_err ((table.layout_of b.0).format.read v.0.1) (λ x. Ok (table.make b.0 x.0)) fault b.2) [
                  | inl d ↦
                      Behind b.0 s v.0.1 known.0 (subst (λ (m : ℕ). Spelled u16_field (start body) m s) (sym known.1) key) (subst (λ (m : ℕ). Spelled u16_field s m v.0.1) (sym known.2) (its_key s v.0.0 v.0.1 version))
                      ((p.formats b.0).lawful.fails v.0.1 fault (rest_bytes (within of_field u16_field) s v.0.0 v.0.1 rest version) d)
                  | inr d ↦ absurd (no_both _ _ d.2)
                ]
          ]
    ]

pub table_fails : {C K : Type 0} (table : Table C K) → LawfulTable table → (body : List ℕ) (fault : DecodeFault) → IsBytes body → command_at table body ≡ Err fault → WrongIn table body fault
table_fails {C} {K} table p body fault fits e =
    elim (bind_err ((within of_field u16_field).read (start body)) (after_code table) fault e) [
      | inl a ↦ NoKey (key_lawful.fails (start body) fault fits a)
      | inr a ↦
          let key = key_lawful.takes (start body) a.0.0 a.0.1 fits a.1 in
          elim (bind_err (known_key (table.named a.0.0)) (after_key table a.0.1) fault a.2) [
            | inl b ↦
                let none = known_err (table.named a.0.0) fault b in
                OtherKey a.0.0 a.0.1 (its_key (start body) a.0.0 a.0.1 key) (λ k known is. none_some (p.named k known).0 (p.named k known).1 none.0 (ap table.named is)) none.1
            | inr b ↦
                fails_behind table p body fault a.0.0 a.0.1 b.0 (rest_bytes (within of_field u16_field) (start body) a.0.0 a.0.1 fits key) (its_key (start body) a.0.0 a.0.1 key) (known_ok (table.named a.0.0) b.0 b.1) b.2
          ]
    ]

not_named : {C K : Type 0} (table : Table C K) → LawfulTable table → (n : ℕ) → ((k : K) → (table.layout_of k).Known → (table.layout_of k).code ≡ n → ⊥) → (fault : DecodeFault) → fault ≡ UnknownKey 0
    → (o : Option K) → table.named n ≡ o → known_key o ≡ Err fault
not_named table p n none fault is None e = ap (λ z. Err z) (sym is)
not_named table p n none fault is (Some k) e = let known = p.known n 1 k k e refl in absurd (none k known.0 known.1)

not_versioned : {C K : Type 0} (table : Table C K) → LawfulTable table → (n version place : ℕ) (first : K) → table.named n ≡ Some first → ((k : K) → (table.layout_of k).Known → (table.layout_of k).code ≡ n → (table.layout_of k).version ≡ version → ⊥)
    → (fault : DecodeFault) → fault ≡ Version place → (o : Option K) → in_version table.newer first version ≡ o → known_version place o ≡ Err fault
not_versioned table p n version place first named none fault is None e = ap (λ z. Err z) (sym is)
not_versioned table p n version place first named none fault is (Some k) e = let known = p.known n version first k named e in absurd (none k known.0 known.1 known.2)

pub table_refuses : {C K : Type 0} (table : Table C K) → LawfulTable table → (body : List ℕ) (fault : DecodeFault) → WrongIn table body fault → command_at table body ≡ Err fault
table_refuses table p body fault (NoKey wrong) = after_err ((within of_field u16_field).read (start body)) (after_code table) fault (key_lawful.refuses (start body) fault wrong)
table_refuses table p body fault (OtherKey n t all none is) =
    after_ok ((within of_field u16_field).read (start body)) (after_code table) (n, t) (key_lawful.again (start body) n t (as_key (start body) n t all))
    ∙ after_err (known_key (table.named n)) (after_key table t) fault (not_named table p n none fault is (table.named n) refl)
table_refuses table p body fault (NoVersion k t known all wrong) =
    let found = p.named k known in
    read_second table p k found.0 found.1 body t (as_key (start body) (table.layout_of k).code t all)
    ∙ after_err ((within of_field u16_field).read t) (after_version table t.at found.0) fault (key_lawful.refuses t fault wrong)
table_refuses table p body fault (OtherVersion k t n u known all version none is) =
    let found = p.named k known in
    read_second table p k found.0 found.1 body t (as_key (start body) (table.layout_of k).code t all)
    ∙ after_ok ((within of_field u16_field).read t) (after_version table t.at found.0) (n, u) (key_lawful.again t n u (as_key t n u version))
    ∙ after_err (known_version t.at (in_version table.newer found.0 n)) (fields_behind table u) fault (not_versioned table p (table.layout_of k).code n t.at found.0 found.1 none fault is (in_version table.newer found.0 n) refl)
table_refuses table p body fault (Behind k t u known all version wrong) =
    read_behind table p k known body t u (as_key (start body) (table.layout_of k).code t all) (as_key t (table.layout_of k).version u version)
    ∙ after_err ((table.layout_of k).format.read u) (λ x. Ok (table.make k x.0)) fault ((p.formats k).lawful.refuses u fault wrong)

-- ---- what tables are made of

-- one line of a choice by code
pub named_one : {K : Type 0} (Right : K → Type 0) (b : Bool) (n code : ℕ) (one k : K) (others : Option K) → eqb n code ≡ b → (n ≡ code → Right one) → cond b (Some one) others ≡ Some k → (others ≡ Some k → Right k) → Right k
named_one Right true n code one k others test right e next =
    let same : one ≡ k = cc in
    subst Right same (right (eqb-true n code test))
named_one Right false n code one k others test right e next = next e

pub u8_in : Lawful u8
u8_in = within_lawful of_field u8_field u8_lawful

pub u16_in : Lawful u16
u16_in = within_lawful of_field u16_field u16_lawful

pub u32_in : Lawful u32
u32_in = within_lawful of_field u32_field u32_lawful

pub u64_in : Lawful u64
u64_in = within_lawful of_field u64_field u64_lawful

pub text_in : Lawful text
text_in = within_lawful of_field text_field text_lawful

pub blob_in : Lawful blob
blob_in = within_lawful of_field blob_field blob_lawful

pub list_in : {A : Type 0} (f : Format A FieldFault) → Lawful f → Lawful (list_of f)
list_in f p = within_lawful of_field (list same_fault f) (list_lawful same_fault f p)

-- two commands never share a body
pub table_apart : {C K : Type 0} (table : Table C K) → LawfulTable table → (c d : C) (body : List ℕ) → SpellsIn table c body → SpellsIn table d body → c ≡ d
table_apart {C} table p c d body one other = ok_is {A = C} {F = DecodeFault} c d (sym (table_again table p c body one) ∙ table_again table p d body other)

-- a body that spells a command has no wrong field, and no body has two
pub table_one_fault : {C K : Type 0} (table : Table C K) → LawfulTable table → (body : List ℕ) (a b : DecodeFault) → WrongIn table body a → WrongIn table body b → a ≡ b
table_one_fault {C} table p body a b one other = err_is {A = C} a b (sym (table_refuses table p body a one) ∙ table_refuses table p body b other)

pub table_no_both : {C K : Type 0} (table : Table C K) → LawfulTable table → (body : List ℕ) (c : C) (fault : DecodeFault) → SpellsIn table c body → WrongIn table body fault → ⊥
table_no_both table p body c fault spells wrong = no_both _ _ (sym (table_again table p c body spells) ∙ table_refuses table p body fault wrong)

table_either : {C K : Type 0} (table : Table C K) → LawfulTable table → (body : List ℕ) → IsBytes body → (r : Result C DecodeFault) → command_at table body ≡ r → ((c : C) × SpellsIn table c body) ⊎ ((fault : DecodeFault) × WrongIn table body fault)
table_either table p body fits (Ok c) e = inl (c, table_takes table p body c fits e)
table_either table p body fits (Err fault) e = inr (fault, table_fails table p body fault fits e)

pub table_outcome : {C K : Type 0} (table : Table C K) → LawfulTable table → OneOutcomeIn table
table_outcome table p = record {
  some = λ body fits. table_either table p body fits (command_at table body) refl;
  value = table_apart table p;
  fault = table_one_fault table p;
  no_both = table_no_both table p;
}

-- ---- what a decoder answers

pub is_found : {C K : Type 0} (table : Table C K) → LawfulTable table → (body : List ℕ) (result : Result C DecodeError) → IsBytes body → Gives result (command_at table body) → IfOk result (λ c. SpellsIn table c body)
is_found table p body (Ok c) fits given = table_takes table p body c fits given
is_found table p body (Err e) fits given = tt

pub is_only : {C K : Type 0} (table : Table C K) → LawfulTable table → (body : List ℕ) (result : Result C DecodeError) → Gives result (command_at table body) → (c : C) → SpellsIn table c body → GivesOr result c
is_only table p body result given c spells = subst (λ read. Gives result read) (table_again table p c body spells) given

pub is_told : {C K : Type 0} (table : Table C K) → LawfulTable table → (body : List ℕ) (result : Result C DecodeError) → IsBytes body → Gives result (command_at table body) → IfFault result (WrongIn table body)
is_told table p body (Ok c) fits given = tt
is_told table p body (Err (errors.Fault fault)) fits given = table_fails table p body fault fits given
is_told table p body (Err errors.Memory) fits given = tt

pub is_refused : {C K : Type 0} (table : Table C K) → LawfulTable table → (body : List ℕ) (result : Result C DecodeError) → Gives result (command_at table body) → (fault : DecodeFault) → WrongIn table body fault → Gives result (Err fault)
is_refused table p body result given fault wrong = subst (λ read. Gives result read) (table_refuses table p body fault wrong) given

-- the fields of a body, without where they end
drop_spot : {A C : Type 0} (r : Result (A × Spot) DecodeFault) (make : A → C) (result : Result C DecodeError) (u : Spot) → GivesAt result u (r >>= λ x. Ok (make x.0, x.1)) → Gives result (r >>= λ x. Ok (make x.0))
drop_spot {A} {C} (Ok (x, v)) make (Ok c) u given = ap (λ (y : C × Spot). Ok y.0) (ok_is {A = C × Spot} {F = DecodeFault} (make x, v) (c, u) given)
drop_spot (Ok (x, v)) make (Err (errors.Fault fault)) u given = absurd cc
drop_spot (Ok (x, v)) make (Err errors.Memory) u given = tt
drop_spot (Err f) make (Ok c) u given = absurd cc
drop_spot (Err f) make (Err (errors.Fault fault)) u given = let same : f ≡ fault = cc in ap (λ z. Err z) same
drop_spot (Err f) make (Err errors.Memory) u given = tt

-- a reader at the front of a body that has read the code of a key
pub record AtKey {C : Type 0} {K : Type 0} (table : Table C K) (body : List ℕ) (first : K) (s : Spot) : Type 0 where
  pub begin : Spot
  pub code : ℕ
  pub at : begin.at ≡ 0
  pub rest : begin.rest ≡ body
  pub read : number_at w16 begin ≡ Ok (code, s)
  pub is : table.named code ≡ Some first

behind_code : {C K : Type 0} (table : Table C K) (body : List ℕ) (first : K) (s : Spot) → AtKey table body first s → command_at table body ≡ after_key table s first
behind_code table body first s here =
    let begins : start body ≡ here.begin = ap (λ (a : ℕ). record { at = a; rest = body }) (sym here.at) ∙ ap (λ (r : List ℕ). record { at = here.begin.at; rest = r }) (sym here.rest) in
    let key : number_at w16 (start body) ≡ Ok (here.code, s) = ap (number_at w16) begins ∙ here.read in
    after_ok ((within of_field u16_field).read (start body)) (after_code table) (here.code, s) (ap (with_fault of_field) key)
    ∙ after_ok (known_key (table.named here.code)) (after_key table s) first (ap known_key here.is)

gives_behind : {C K : Type 0} (table : Table C K) (body : List ℕ) (first k : K) (version : ℕ) (s t u : Spot) (result : Result C DecodeError) → AtKey table body first s → (within of_field u16_field).read s ≡ Ok (version, t) → in_version table.newer first version ≡ Some k
    → GivesAt result u (fields_at table k t) → Gives result (command_at table body)
unfolding fields_at
gives_behind {C} {K} table body first k version s t u result here read is given =
    let same : command_at table body ≡ fields_behind table t k =
    behind_code table body first s here
    ∙ after_ok ((within of_field u16_field).read s) (after_version table s.at first) (version, t) read
    ∙ after_ok (known_version s.at (in_version table.newer first version)) (fields_behind table t) k (ap (known_version s.at) is) in
    subst (λ r. Gives result r) (sym same) (drop_spot ((table.layout_of k).format.read t) (table.make k) result u given)

-- What was read behind the key and the version of a body is what reading the body gives.
pub body_gives : {C K : Type 0} (table : Table C K) (body : List ℕ) (first k : K) (version : ℕ) (s t u : Spot) (result : Result C DecodeError) → AtKey table body first s → number_at w16 s ≡ Ok (version, t) → in_version table.newer first version ≡ Some k
    → GivesAt result u (fields_at table k t) → Gives result (command_at table body)
body_gives table body first k version s t u result here read is given = gives_behind table body first k version s t u result here (ap (with_fault of_field) read) is given

-- a version that the code has not
pub version_unknown : {C K : Type 0} (table : Table C K) (body : List ℕ) (first : K) (version : ℕ) (s t : Spot) → AtKey table body first s → number_at w16 s ≡ Ok (version, t) → in_version table.newer first version ≡ None → command_at table body ≡ Err (Version s.at)
version_unknown table body first version s t here read is =
    behind_code table body first s here
    ∙ after_ok ((within of_field u16_field).read s) (after_version table s.at first) (version, t) (ap (with_fault of_field) read)
    ∙ after_err (known_version s.at (in_version table.newer first version)) (fields_behind table t) (Version s.at) (ap (known_version s.at) is)

-- a version that is not whole
pub version_short : {C K : Type 0} (table : Table C K) (body : List ℕ) (first : K) (s : Spot) (fault : FieldFault) → AtKey table body first s → number_at w16 s ≡ Err fault → command_at table body ≡ Err (of_field fault)
version_short table body first s fault here read =
    behind_code table body first s here ∙ after_err ((within of_field u16_field).read s) (after_version table s.at first) (of_field fault) (ap (with_fault of_field) read)

-- ---- codes of version 1 alone

abbrev one_version : Spot → ℕ × Spot → Result (Unit {0} × Spot) DecodeFault
one_version s n = cond (eqb n.0 1) (Ok (tt, n.1)) (Err (Version s.at))

is_one : (b : Bool) (n t : Spot) (fault : DecodeFault) → cond {A = Result (Unit {0} × Spot) DecodeFault} b (Ok (tt, n)) (Err fault) ≡ Ok (tt, t) → (b ≡ true) × (n ≡ t)
is_one true n t fault e = (refl, ap (λ (y : Unit {0} × Spot). y.1) (ok_is {A = Unit {0} × Spot} {F = DecodeFault} (tt, n) (tt, t) e))
is_one false n t fault e = absurd cc

not_one : (b : Bool) (n : Spot) (other fault : DecodeFault) → cond {A = Result (Unit {0} × Spot) DecodeFault} b (Ok (tt, n)) (Err other) ≡ Err fault → (b ≡ false) × (fault ≡ other)
not_one true n other fault e = absurd cc
not_one false n other fault e = (refl, sym (err_is {A = Unit {0} × Spot} other fault e))

pub first_gives : {C K : Type 0} (table : Table C K) (body : List ℕ) (first : K) (s t u : Spot) (result : Result C DecodeError) → AtKey table body first s → version_at s ≡ Ok (tt, t) → GivesAt result u (fields_at table first t) → Gives result (command_at table body)
first_gives table body first s t u result here version given =
    let a = bind_ok ((within of_field u16_field).read s) (one_version s) (tt, t) version in
    let b = is_one (eqb a.0.0 1) a.0.1 t (Version s.at) a.2 in
    let read : (within of_field u16_field).read s ≡ Ok (1, t) = a.1 ∙ ap (λ (n : ℕ). Ok (n, a.0.1)) (eqb-true a.0.0 1 b.0) ∙ ap (λ (x : Spot). Ok (1, x)) b.1 in
    gives_behind table body first first 1 s t u result here read refl given

-- no key stands behind either test
none_named : {K : Type 0} (one two : Bool) (k : K) (o : Option K) → one ≡ false → o ≡ None → cond one (Some k) (cond two o None) ≡ None
none_named true two k o e none = absurd cc
none_named false true k o e none = none
none_named false false k o e none = refl

first_fails : {C K : Type 0} (table : Table C K) (body : List ℕ) (first : K) (s : Spot) (fault : DecodeFault) → AtKey table body first s → table.newer first ≡ None → version_at s ≡ Err fault → command_at table body ≡ Err fault
first_fails {C} {K} table body first s fault here alone e =
    behind_code table body first s here
    ∙ elim (bind_err ((within of_field u16_field).read s) (one_version s) fault e) as (λ h. after_key table s first ≡ Err fault) [
      | inl a ↦ after_err ((within of_field u16_field).read s) (after_version table s.at first) fault a
      | inr a ↦
          let b = not_one (eqb a.0.0 1) a.0.1 (Version s.at) fault a.2 in
          let none : in_version table.newer first a.0.0 ≡ None = none_named (eqb a.0.0 1) (eqb a.0.0 2) first (table.newer first) b.0 alone in
          after_ok ((within of_field u16_field).read s) (after_version table s.at first) a.0 a.1
          ∙ after_err (known_version s.at (in_version table.newer first a.0.0)) (fields_behind table a.0.1) fault (ap (known_version s.at) none ∙ ap (λ z. Err z) (sym b.1))
    ]

pub first_refuses : {C K : Type 0} (table : Table C K) (body : List ℕ) (first : K) (s : Spot) (error : DecodeError) → AtKey table body first s → table.newer first ≡ None → FailsWith error (version_at s) → FailsWith error (command_at table body)
first_refuses table body first s (errors.Fault fault) here alone given = first_fails table body first s fault here alone given
first_refuses table body first s errors.Memory here alone given = tt

either_version : {K : Type 0} (one two : Bool) (version : ℕ) (first k : K) (o : Option K) → eqb version 1 ≡ one → eqb version 2 ≡ two → cond one (Some first) (cond two o None) ≡ Some k → ((version ≡ 1) × (first ≡ k)) ⊎ ((version ≡ 2) × (o ≡ Some k))
either_version true two version first k o is_first is_second e = inl (eqb-true version 1 is_first, cc)
either_version false true version first k o is_first is_second e = inr (eqb-true version 2 is_second, e)
either_version false false version first k o is_first is_second e = absurd cc

-- an error that a call passes on
pub passes_on : {C : Type 0} (result : Result C DecodeError) (error : DecodeError) (read : Result C DecodeFault) → IsErrAnd result (λ e. e ≡ error) → FailsWith error read → Gives result read
passes_on (Ok c) error read is fails = absurd is
passes_on (Err e) error read is fails = subst (λ z. FailsWith z read) (sym is) fails

-- The key of a code by its version: version 1 is the key itself, and version 2 the newer one.
pub by_version : {K : Type 0} (newer : K → Option K) (first k : K) (version : ℕ) → in_version newer first version ≡ Some k → ((version ≡ 1) × (first ≡ k)) ⊎ ((version ≡ 2) × (newer first ≡ Some k))
by_version {K} newer first k version e = either_version (eqb version 1) (eqb version 2) version first k (newer first) refl refl e

-- a call that answers what is spelled and what is wrong, as reading does
pub pinned : {C K : Type 0} (table : Table C K) → LawfulTable table → (body : List ℕ) (result : Result C DecodeError) → IsBytes body → ((c : C) → SpellsIn table c body → GivesOr result c) → ((fault : DecodeFault) → WrongIn table body fault → Gives result (Err fault))
    → (read : Result C DecodeFault) → command_at table body ≡ read → Gives result read
pinned table p body result fits only refused (Ok c) e = only c (table_takes table p body c fits e)
pinned table p body result fits only refused (Err fault) e = refused fault (table_fails table p body fault fits e)
