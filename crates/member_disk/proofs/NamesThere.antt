-- The names of the files that are there are each once in the list.
use Rattle.std.proofs.Common.{◌≡◌, inl, inr, ℕ, zero, suc, Bool, true, false, cond, List, [], ◌∷◌, Option, Some, None, Result, Ok, Err, IfOk, ◌⊎◌, refl, sym, ◌∙◌, ap, subst}
use Rattle.std.specs.BTreeMap.{BTreeMap, get, is_at, IsOrdered}
use Rattle.std.specs.Map.{lookup, keys_of}
use Rattle.std.specs.List.{slice_get, AllByRecursion}
use Rattle.std.specs.List.Sorted.{IsStrictlySortedBy}
use Rattle.std.specs.Ordering.{is_eq}
use Rattle.std.specs.declared.cmp.Ordering.{Ordering}
use Rattle.std.specs.declared.cmp.Ordering.TheVariants.{Less}
use Rattle.std.specs.Option.{is_some}
use Rattle.std.proofs.lemmas.Map.Keys.{sorted_head, sorted_tail}
use Rattle.disk_calls.specs.Disk.{Image, IsThere, AreNames}
use Rattle.memory_file.specs.Memory.{Held, held_at, seen_of}
use Rattle.std.specs.Ordering.{nat_cmp}
use Rattle.std.specs.declared.alloc.AllocError.{AllocError}
use Rattle.member_disk.specs.Streams.{names_there, stream_of}
use Rattle.member_disk.specs.MemoryDisks.{files_in, held_in, stream_at}
use Rattle.member_disk.specs.declared.memory_stream.MemoryStream.{MemoryStream}
use Rattle.disk_calls.specs.declared.file_id.FileName.{FileName}
use Rattle.disk_calls.specs.declared.file_id.FileId.{FileId}
use Rattle.disk_calls.specs.contracts.file_id.FileNameOrd.TheImpl as ordered
use Rattle.member_disk.proofs.Names.{here, cases_at}

abbrev pub found_in : FileName → List (FileName × Held) → Option Held
found_in f es = lookup (is_at (ordered.ghosts.cmp f)) es

abbrev pub id_of : ℕ → FileName → FileId
id_of s f = record { stream = s; file = f }

-- one file more, or not
abbrev put : Bool → FileId → List FileId → List FileId
put b f fs = cond b (f ∷ fs) fs

is_there_some : (file : Image) → IsThere file → is_some file ≡ true
is_there_some None there = absurd there
is_there_some (Some bytes) there = refl

some_is_there : (file : Image) → is_some file ≡ true → IsThere file
some_is_there None is = cc
some_is_there (Some bytes) is = tt

later : (b : Bool) (g f : FileId) (fs : List FileId) (i : ℕ) → slice_get fs i ≡ Some f → (j : ℕ) × (slice_get (put b g fs) j ≡ Some f)
later true g f fs i is = (suc i, is)
later false g f fs i is = (i, is)

first : (b : Bool) (g : FileId) (fs : List FileId) → b ≡ true → slice_get (put b g fs) 0 ≡ Some g
first true g fs is = refl
first false g fs is = cc

at_same : (f k : FileName) → f ≡ k → is_at (ordered.ghosts.cmp f) k ≡ true
at_same f k is = subst (λ (x : FileName). is_at (ordered.ghosts.cmp f) x ≡ true) is (here f)

each : (s : ℕ) (es : List (FileName × Held)) (f : FileName) → IsThere (seen_of (held_at (found_in f es))) → (i : ℕ) × (slice_get (names_there s es) i ≡ Some (id_of s f))
each s [] f there = absurd there
each s (e ∷ es) f there = elim (cases_at f e.0) [
  | inl is ↦
      let on : IsThere (seen_of e.1) = subst (λ (b : Bool). IsThere (seen_of (held_at (cond b (Some e.1) (found_in f es))))) (at_same f e.0 is) there in
      (0, first (is_some (seen_of e.1)) (id_of s e.0) (names_there s es) (is_there_some (seen_of e.1) on) ∙ ap (λ (x : FileName). Some (id_of s x)) (sym is))
  | inr (ne, off) ↦
      let on : IsThere (seen_of (held_at (found_in f es))) = subst (λ (b : Bool). IsThere (seen_of (held_at (cond b (Some e.1) (found_in f es))))) off there in
      let found = each s es f on in
      later (is_some (seen_of e.1)) (id_of s e.0) (id_of s f) (names_there s es) found.0 found.1
]

-- a name below all others is not among them
below_missing : (k : FileName) (es : List (FileName × Held)) → AllByRecursion (λ y. ordered.ghosts.cmp k y ≡ Less) (keys_of es) → found_in k es ≡ None
below_missing k [] all = refl
below_missing k (e ∷ es) all = ap (λ (o : Ordering). cond (is_eq o) (Some e.1) (found_in k es)) all.0 ∙ below_missing k es all.1

-- which file stands at a place of the list
cases_put : (b : Bool) (g f : FileId) (fs : List FileId) (i : ℕ) → slice_get (put b g fs) i ≡ Some f → ((b ≡ true) × (f ≡ g) × (i ≡ 0)) ⊎ ((j : ℕ) × (slice_get fs j ≡ Some f) × (i ≡ cond b (suc j) j))
cases_put true g f fs zero is = inl (refl, cc, refl)
cases_put true g f fs (suc j) is = inr (j, is, refl)
cases_put false g f fs i is = inr (i, is, refl)

none_there : (k f : FileName) (es : List (FileName × Held)) → f ≡ k → found_in k es ≡ None → IsThere (seen_of (held_at (found_in f es))) → ⊥
none_there k f es same none there =
    let at_k : IsThere (seen_of (held_at (found_in k es))) = subst (λ (x : FileName). IsThere (seen_of (held_at (found_in x es)))) same there in
    let gone : IsThere (seen_of (held_at None)) = subst (λ (o : Option Held). IsThere (seen_of (held_at o))) none at_k in
    gone

in_rest : (e : FileName × Held) (es : List (FileName × Held)) (f : FileName) → found_in e.0 es ≡ None → IsThere (seen_of (held_at (found_in f es))) → IsThere (seen_of (held_at (found_in f (e ∷ es))))
in_rest e es f none there = elim (cases_at f e.0) [
  | inl is ↦ absurd (none_there e.0 f es is none there)
  | inr (ne, off) ↦ subst (λ (b : Bool). IsThere (seen_of (held_at (cond b (Some e.1) (found_in f es))))) (sym off) there
]

only : (s : ℕ) (es : List (FileName × Held)) → IsStrictlySortedBy ordered.ghosts.cmp (keys_of es) → (i : ℕ) (f : FileId) → slice_get (names_there s es) i ≡ Some f → (f.stream ≡ s) × IsThere (seen_of (held_at (found_in f.file es)))
only s [] sorted i f is = cc
only s (e ∷ es) sorted i f is = elim (cases_put (is_some (seen_of e.1)) (id_of s e.0) f (names_there s es) i is) [
  | inl (b, same, at) ↦
      let name : f.file ≡ e.0 = ap (λ (x : FileId). x.file) same in
      (ap (λ (x : FileId). x.stream) same, subst (λ (c : Bool). IsThere (seen_of (held_at (cond c (Some e.1) (found_in f.file es))))) (sym (at_same f.file e.0 name)) (some_is_there (seen_of e.1) b))
  | inr (j, found, at) ↦
      let rest = only s es (sorted_tail ordered.ghosts.cmp e.0 (keys_of es) sorted) j f found in
      (rest.0, in_rest e es f.file (below_missing e.0 es (sorted_head ordered.ghosts.cmp e.0 (keys_of es) sorted)) rest.1)
]

once : (s : ℕ) (es : List (FileName × Held)) → IsStrictlySortedBy ordered.ghosts.cmp (keys_of es) → (i j : ℕ) (f : FileId) → slice_get (names_there s es) i ≡ Some f → slice_get (names_there s es) j ≡ Some f → i ≡ j
once s [] sorted i j f is js = cc
once s (e ∷ es) sorted i j f is js =
    let tail = sorted_tail ordered.ghosts.cmp e.0 (keys_of es) sorted in
    let none = below_missing e.0 es (sorted_head ordered.ghosts.cmp e.0 (keys_of es) sorted) in
    elim (cases_put (is_some (seen_of e.1)) (id_of s e.0) f (names_there s es) i is) [
      | inl (bi, same_i, at_i) ↦ elim (cases_put (is_some (seen_of e.1)) (id_of s e.0) f (names_there s es) j js) [
        | inl (bj, same_j, at_j) ↦ at_i ∙ sym at_j
        | inr (k, found, at_j) ↦ absurd (none_there e.0 f.file es (ap (λ (x : FileId). x.file) same_i) none (only s es tail k f found).1)
      ]
      | inr (k, found, at_i) ↦ elim (cases_put (is_some (seen_of e.1)) (id_of s e.0) f (names_there s es) j js) [
        | inl (bj, same_j, at_j) ↦ absurd (none_there e.0 f.file es (ap (λ (x : FileId). x.file) same_j) none (only s es tail k f found).1)
        | inr (l, found_j, at_j) ↦ at_i ∙ ap (λ (n : ℕ). cond (is_some (seen_of e.1)) (suc n) n) (once s es tail k l f found found_j) ∙ sym at_j
      ]
    ]

pub are_names : (s : ℕ) (files : BTreeMap FileName Held) (found : List FileId) → IsOrdered ordered.ghosts.cmp files → found ≡ names_there s files.entries → AreNames s (λ f. seen_of (held_at (get ordered.ghosts.cmp files f.file))) found
are_names s files found sorted is =
    subst (λ (fs : List FileId). AreNames s (λ f. seen_of (held_at (get ordered.ghosts.cmp files f.file))) fs) (sym is) (record {
      each = λ f in_stream there.
          let at = each s files.entries f.file there in
          (at.0, at.1 ∙ ap (λ (n : ℕ). Some (id_of n f.file)) (sym in_stream));
      only = λ i f here. only s files.entries sorted i f here;
      once = λ i j f here there. once s files.entries sorted i j f here there;
    })

-- the names of one stream's files are those of the disk
pub names_elsewhere : (s : ℕ) (one all : FileId → Image) (found : List FileId) → ((f : FileId) → f.stream ≡ s → one f ≡ all f) → AreNames s one found → AreNames s all found
names_elsewhere s one all found same names = record {
  each = λ f in_stream there. names.each f in_stream (subst IsThere (sym (same f in_stream)) there);
  only = λ i f is. let at = names.only i f is in (at.0, subst IsThere (same f at.0) at.1);
  once = names.once;
}

held_of_stream : (streams : BTreeMap ℕ MemoryStream) (n : ℕ) (s : MemoryStream) → Some s ≡ get nat_cmp streams n → (f : FileId) → f.stream ≡ n → seen_of ((stream_of s).held f.file) ≡ seen_of (held_in streams f)
held_of_stream streams n s found f is =
    ap (λ (o : Option MemoryStream). seen_of ((stream_at o).held f.file)) found ∙ ap (λ (k : ℕ). seen_of ((files_in streams k).held f.file)) (sym is)

pub names_of_stream : (streams : BTreeMap ℕ MemoryStream) (n : ℕ) (s : MemoryStream) → Some s ≡ get nat_cmp streams n → (r : Result (List FileId) AllocError) → IfOk r (λ found. AreNames n (λ f. seen_of ((stream_of s).held f.file)) found) → IfOk r (λ found. AreNames n (λ f. seen_of (held_in streams f)) found)
names_of_stream streams n s found (Ok names) are = names_elsewhere n (λ f. seen_of ((stream_of s).held f.file)) (λ f. seen_of (held_in streams f)) names (held_of_stream streams n s found) are
names_of_stream streams n s found (Err e) are = tt
