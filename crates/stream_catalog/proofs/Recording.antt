-- What the calls on the three files leave.
use Rattle.std.proofs.Common.{◌≡◌, ◌≢◌, inl, inr, ℕ, ◌+◌, true, List, [], ◌∷◌, ◌++◌, length, None, Result, Ok, Err, refl, sym, ap, subst, ◌∙◌}
use Rattle.std.specs.Prelude.{IsTrue}
use Rattle.std.proofs.lemmas.List.{append-nil, length-append}
use Rattle.disk_calls.specs.declared.file_id.FileId.{FileId}
use Rattle.disk_calls.specs.declared.file_id.FileName.TheVariants as file
use Rattle.disk_calls.specs.Disk.{DiskState, Image, bytes_of, Looks, Elsewhere, Settled}
use Rattle.disk_calls.specs.Frames.{Besides, FileStays, EachImage, Holds, LongerBytes}
use Rattle.disk_calls.proofs.FrameLemmas.{besides_stay, holds_stays}
use Rattle.gated_words.specs.InHand.{InHand}
use Rattle.gated_words.specs.Files.{Files, Opens, PairsOf, second_file}
use Rattle.gated_words.specs.Files as gates
use Rattle.gated_words.specs.Backing.{Backs, MayAdd, KeepsPairs}
use Rattle.gated_words.proofs.Hands.{held_only, held_near}
use Rattle.stream_catalog.specs.Names.{Names}
use Rattle.stream_catalog.specs.Files.{CatalogFiles, Leaves, seen_files, catalog_of, names_in, words_id, bytes_id}
use Rattle.stream_catalog.specs.InHand.{Catalogued, Known, Backed, Shows, ShowsOr, MayChange, KnownFiles, EachCatalog, MayRecord, OtherFiles, KeepsCatalog, SameCatalog, DamagesCatalog}
use Rattle.stream_catalog.specs.declared.change.Change.{Change}
use Rattle.stream_catalog.specs.declared.fault.CatalogFault.{CatalogFault}
use Rattle.stream_catalog.specs.Rules.{changed, create_stream}
use Rattle.stream_catalog.specs.ChangeBytes.{IsChange, change_bytes}
use Rattle.stream_catalog.specs.Files.{fits}
use Rattle.stream_catalog.proofs.OnDisk.{names_stay, names_grow}
use Rattle.gated_words.proofs.Opening.{opens_undamaged}

pub words_other : words_id ≢ bytes_id
words_other e = let is : file.CatalogWords ≡ file.CatalogBytes = ap (λ (f : FileId). f.file) e in cc

pub second_other : second_file words_id ≢ bytes_id
second_other e = let is : file.CatalogWordsTwo ≡ file.CatalogBytes = ap (λ (f : FileId). f.file) e in cc

bytes_other : bytes_id ≢ words_id
bytes_other e = let is : file.CatalogBytes ≡ file.CatalogWords = ap (λ (f : FileId). f.file) e in cc

bytes_apart : bytes_id ≢ second_file words_id
bytes_apart e = let is : file.CatalogBytes ≡ file.CatalogWordsTwo = ap (λ (f : FileId). f.file) e in cc

-- ---- which files stay

pub others_then : (bid id : FileId) (a b c : DiskState) → bid ≡ bytes_id → id ≡ words_id → Elsewhere bid a b → Besides id (second_file id) b c → OtherFiles a c
others_then bid id a b c is same e1 b1 =
    let e : Elsewhere bytes_id a b = subst (λ (f : FileId). Elsewhere f a b) is e1 in
    let b2 : Besides words_id (second_file words_id) b c = subst (λ (f : FileId). Besides f (second_file f) b c) same b1 in
    record {
      seen = λ f n1 n2 n3. b2.seen f n1 n2 ∙ e.seen f n3;
      images = λ f n1 n2 n3 d left. e.images f n3 d (b2.images f n1 n2 d left);
    }

pub others_one : (a b : DiskState) → Elsewhere bytes_id a b → OtherFiles a b
others_one a b e = record { seen = λ f n1 n2 n3. e.seen f n3; images = λ f n1 n2 n3 d left. e.images f n3 d left }

bytes_stay : (a b : DiskState) → Besides words_id (second_file words_id) a b → FileStays bytes_id a b
bytes_stay a b b1 = besides_stay bytes_id words_id (second_file words_id) a b bytes_other bytes_apart b1

-- ---- writing a change

-- with what a change begins
pub record Starts (words : InHand) (len : ℕ) (s : DiskState) (base : List ℕ) : Type 0 where
  pub holds : Holds bytes_id base s
  pub is_len : len ≡ length base
  pub backs : Backs words s
  pub sure : IsTrue words.sure
  pub id : words.id ≡ words_id

pub starts : (words : InHand) (len : ℕ) (s : DiskState) (base other : List ℕ) → words.id ≡ words_id → Holds bytes_id other s → Backs words s → IsTrue words.sure → Holds bytes_id base s → len ≡ length base → Starts words len s base
starts words len s base other id h backs sure holds is_len = record { holds = holds; is_len = is_len; backs = backs; sure = sure; id = id }

record Words (pairs : List (ℕ × ℕ)) (files : Files) : Type 0 where
  pub opens : Opens files
  pub are : PairsOf files ≡ pairs

words_at : (words : InHand) (len : ℕ) (s : DiskState) (base : List ℕ) → Starts words len s base → (files : Files) → gates.Leaves words_id s files → Words words.pairs files
words_at words len s base st files left =
    let here : gates.Leaves words.id s files = subst (λ (f : FileId). gates.Leaves f s files) (sym st.id) left in
    let held = st.backs.held st.sure in
    record { opens = (held_near words.id words.pairs (0, 0) s held files here).opens; are = held_only words.id words.pairs s held files here }

words_back : (a b : DiskState) → Elsewhere bytes_id a b → (files : Files) → gates.Leaves words_id b files → gates.Leaves words_id a files
words_back a b e files left = record { first = e.images words_id words_other files.first left.first; second = e.images (second_file words_id) second_other files.second left.second }

pub record_none : (words : InHand) (len : ℕ) (s : DiskState) (base bytes : List ℕ) → Starts words len s base → EachCatalog (MayRecord words.pairs base bytes) s
record_none words len s base bytes st files left =
    let w = words_at words len s base st files.words left.words in
    record { opens = w.opens; same = inl (w.are, ([], st.holds.each files.bytes left.bytes ∙ sym (append-nil base))) }

pub record_torn : (bid : FileId) (words : InHand) (len : ℕ) (s t : DiskState) (base bytes : List ℕ) (n : ℕ) → bid ≡ bytes_id → Starts words len s base → Elsewhere bid s t → EachImage bid (LongerBytes base n) t → EachCatalog (MayRecord words.pairs base bytes) t
record_torn bid words len s t base bytes n is st e1 torn1 files left =
    let e : Elsewhere bytes_id s t = subst (λ (f : FileId). Elsewhere f s t) is e1 in
    let torn : EachImage bytes_id (LongerBytes base n) t = subst (λ (f : FileId). EachImage f (LongerBytes base n) t) is torn1 in
    let w = words_at words len s base st files.words (words_back s t e files.words left.words) in
    let longer = torn files.bytes left.bytes in
    record { opens = w.opens; same = inl (w.are, (longer.0, longer.1)) }

pub record_put : (bid : FileId) (words : InHand) (len : ℕ) (s t u : DiskState) (base bytes : List ℕ) → bid ≡ bytes_id → Starts words len s base → Elsewhere bid s t → Settled bid (base ++ bytes) t → Besides words.id (second_file words.id) t u → MayAdd words.id (len, length bytes) t u
    → EachCatalog (MayRecord words.pairs base bytes) u
record_put bid words len s t u base bytes is st e1 settled1 b1 adds files left =
    let e : Elsewhere bytes_id s t = subst (λ (f : FileId). Elsewhere f s t) is e1 in
    let settled : Settled bytes_id (base ++ bytes) t = subst (λ (f : FileId). Settled f (base ++ bytes) t) is settled1 in
    let b2 : Besides words_id (second_file words_id) t u = subst (λ (f : FileId). Besides f (second_file f) t u) st.id b1 in
    let added : MayAdd words_id (len, length bytes) t u = subst (λ (f : FileId). MayAdd f (len, length bytes) t u) st.id adds in
    let more = added files.words left.words in
    let w = words_at words len s base st more.0 (words_back s t e more.0 more.1) in
    let whole : bytes_of files.bytes ≡ base ++ bytes = ap bytes_of (settled.only files.bytes ((bytes_stay t u b2).images files.bytes left.bytes)) in
    let pair : (len, length bytes) ≡ (length base, length bytes) = ap (λ (n : ℕ). (n, length bytes)) st.is_len in
    record {
      opens = more.2.opens;
      same = elim more.2.pairs [
        | inl old ↦ inl (old ∙ w.are, (bytes, whole))
        | inr new ↦ inr (new ∙ ap (λ (l : List (ℕ × ℕ)). l ++ (len, length bytes) ∷ []) w.are ∙ ap (λ (p : ℕ × ℕ). words.pairs ++ p ∷ []) pair, whole)
      ];
    }

pub bytes_hold : (id : FileId) (base : List ℕ) (t u : DiskState) → id ≡ words_id → Besides id (second_file id) t u → Holds bytes_id base t → Holds bytes_id base u
bytes_hold id base t u same b1 holds = holds_stays bytes_id base t u (bytes_stay t u (subst (λ (f : FileId). Besides f (second_file f) t u) same b1)) holds

-- ---- reading the files

pub keeps_looks : (a b : DiskState) → Looks a b → KeepsCatalog a b
keeps_looks a b looks files left = (
  files,
  record { words = record { first = looks.images words_id files.words.first left.words.first; second = looks.images (second_file words_id) files.words.second left.words.second }; bytes = looks.images bytes_id files.bytes left.bytes },
  record { names = refl; opens = λ o. o },
)

pub keeps_open : (id : FileId) (a b c : DiskState) → id ≡ words_id → Looks a b → KeepsPairs id b c → Besides id (second_file id) b c → KeepsCatalog a c
keeps_open id a b c same looks pairs1 b2 files left =
    let pairs : KeepsPairs words_id b c = subst (λ (f : FileId). KeepsPairs f b c) same pairs1 in
    let b1 : Besides words_id (second_file words_id) b c = subst (λ (f : FileId). Besides f (second_file f) b c) same b2 in
    let kept = pairs files.words left.words in
    let before : CatalogFiles = record { words = kept.0; bytes = files.bytes } in
    let there : Leaves a before = record {
      words = record { first = looks.images words_id kept.0.first kept.1.first; second = looks.images (second_file words_id) kept.0.second kept.1.second };
      bytes = looks.images bytes_id files.bytes ((bytes_stay b c b1).images files.bytes left.bytes);
    } in
    (before, there, record { names = ap (names_in (bytes_of files.bytes)) kept.2.pairs; opens = kept.2.opens })

pub seen_same : (a b : DiskState) → Looks a b → gates.seen_files words_id b ≡ gates.seen_files words_id a
seen_same a b looks = ap (λ (i : Image). files_of i (b.seen (second_file words_id))) (looks.seen words_id) ∙ ap (λ (i : Image). files_of (a.seen words_id) i) (looks.seen (second_file words_id))
  where
    files_of : Image → Image → Files
    files_of first second = record { first = first; second = second }

-- what a reading gave of bytes and pairs, it gave of the files
pub read_names_is : (a b : DiskState) (bytes : List ℕ) (pairs : List (ℕ × ℕ)) (read : Result Names ℕ) → Looks a b → bytes ≡ bytes_of (a.seen bytes_id) → pairs ≡ PairsOf (gates.seen_files words_id b) → names_in bytes pairs ≡ read → catalog_of (seen_files a) ≡ read
read_names_is a b bytes pairs read looks is are e =
    let same : pairs ≡ PairsOf (gates.seen_files words_id a) = are ∙ ap PairsOf (seen_same a b looks) in
    ap (λ (l : List ℕ). names_in l (PairsOf (gates.seen_files words_id a))) (sym is) ∙ ap (names_in bytes) (sym same) ∙ e

pub opens_before : (a b : DiskState) → Looks a b → Opens (gates.seen_files words_id b) → Opens (seen_files a).words
opens_before a b looks opens = subst Opens (seen_same a b looks) opens

pub damages_before : (a b : DiskState) (place : ℕ) → Looks a b → gates.Damages place (gates.seen_files words_id b) → DamagesCatalog place (seen_files a)
damages_before a b place looks damages = inl (subst (gates.Damages place) (seen_same a b looks) damages)

pub known_files : (names : Names) (words : InHand) (bytes : List ℕ) (len : ℕ) (b c : DiskState) → words.id ≡ words_id → IsTrue words.sure → Backs words c → Holds bytes_id bytes b → Besides words_id (second_file words_id) b c → len ≡ length bytes → names_in bytes words.pairs ≡ Ok names → KnownFiles names words len c
known_files names words bytes len b c id sure backs holds b1 is_len reads = record {
  bytes = bytes;
  holds = bytes_hold words_id bytes b c refl b1 holds;
  is_len = is_len;
  backs = backs;
  words_sure = sure;
  id = id;
  reads = reads;
}

-- ---- what is known of files

pub known_each : (names : Names) (words : InHand) (len : ℕ) (s : DiskState) → KnownFiles names words len s → EachCatalog (Shows names) s
known_each names words len s k files left =
    let st : Starts words len s k.bytes = record { holds = k.holds; is_len = k.is_len; backs = k.backs; sure = k.words_sure; id = k.id } in
    let w = words_at words len s k.bytes st files.words left.words in
    record { opens = w.opens; reads = ap (names_in (bytes_of files.bytes)) w.are ∙ ap (λ (l : List ℕ). names_in l words.pairs) (k.holds.each files.bytes left.bytes) ∙ k.reads }

some_change : Change
some_change = create_stream 0 None

pub known_backed : (c : Catalogued) (s : DiskState) → Known c s → Backed c s
known_backed c s k = record { known = λ sure. k; near = (some_change, λ files left. inl (known_each c.names c.words c.len s k files left)) }

-- each image shows the names of one from before
shows_same : (names : Names) (before files : CatalogFiles) → SameCatalog before files → Shows names before → Shows names files
shows_same names before files same shows = record { opens = same.opens shows.opens; reads = same.names ∙ shows.reads }

pub kept_near : (names : Names) (failed : Change) (s t : DiskState) → KeepsCatalog s t → EachCatalog (ShowsOr names failed) s → EachCatalog (ShowsOr names failed) t
kept_near names failed s t keeps near files left =
    let k = keeps files left in
    elim (near k.0 k.1) [ inl old ↦ inl (shows_same names k.0 files k.2 old) | inr new ↦ inr (shows_same (changed failed names) k.0 files k.2 new) ]

-- what a read gives is one of the images
pub seen_leaves : (s : DiskState) → ((f : FileId) → s.images f (s.seen f)) → Leaves s (seen_files s)
seen_leaves s reads = record { words = record { first = reads words_id; second = reads (second_file words_id) }; bytes = reads bytes_id }

-- files that can be read aren't damaged
pub undamaged : (names : Names) (failed : Change) (place : ℕ) (files : CatalogFiles) → ShowsOr names failed files → DamagesCatalog place files → ⊥
undamaged names failed place files shows (inl damages) = opens_undamaged _ place _ (opens_of names failed files shows) damages
  where
    opens_of : (names : Names) (failed : Change) (files : CatalogFiles) → ShowsOr names failed files → Opens files.words
    opens_of names failed files (inl old) = old.opens
    opens_of names failed files (inr new) = new.opens
undamaged names failed place files (inl old) (inr bad) = let both : Ok names ≡ Err place = sym old.reads ∙ bad.1 in absurd cc
undamaged names failed place files (inr new) (inr bad) = let both : Ok (changed failed names) ≡ Err place = sym new.reads ∙ bad.1 in absurd cc

-- ---- a change was written

-- each image has the names from before, or those after the change
pub recorded_each : (names : Names) (words : InHand) (len : ℕ) (s t : DiskState) (c : Change) (bytes : List ℕ) → KnownFiles names words len s → fits c names ≡ true → IsChange c → bytes ≡ change_bytes c
    → ((base : List ℕ) → Holds bytes_id base s → len ≡ length base → EachCatalog (MayRecord words.pairs base bytes) t) → EachCatalog (ShowsOr names c) t
recorded_each names words len s t c bytes k fit spelled is may files left =
    let m = may k.bytes k.holds k.is_len files left in
    elim m.same [
      | inl old ↦ inl (record { opens = m.opens; reads = ap (names_in (bytes_of files.bytes)) old.0 ∙ ap (λ (l : List ℕ). names_in l words.pairs) old.1.1 ∙ names_stay k.bytes old.1.0 words.pairs names k.reads })
      | inr new ↦ inr (record {
        opens = m.opens;
        reads = ap (names_in (bytes_of files.bytes)) new.0 ∙ ap (λ (l : List ℕ). names_in l (words.pairs ++ (length k.bytes, length bytes) ∷ [])) new.1 ∙ grown names words k.bytes c bytes fit spelled is k.reads;
      })
    ]
  where
    grown : (names : Names) (words : InHand) (base : List ℕ) (c : Change) (bytes : List ℕ) → fits c names ≡ true → IsChange c → bytes ≡ change_bytes c → names_in base words.pairs ≡ Ok names
        → names_in (base ++ bytes) (words.pairs ++ (length base, length bytes) ∷ []) ≡ Ok (changed c names)
    grown names words base c bytes fit spelled is reads =
        ap (λ (l : List ℕ). names_in (base ++ l) (words.pairs ++ (length base, length l) ∷ [])) is ∙ names_grow base words.pairs names c reads fit spelled

-- and where all of it was written the files are known
pub recorded_known : (names : Names) (words after : InHand) (len longer : ℕ) (s t : DiskState) (c : Change) (bytes : List ℕ) → KnownFiles names words len s → fits c names ≡ true → IsChange c → bytes ≡ change_bytes c
    → ((base : List ℕ) → Holds bytes_id base s → Holds bytes_id (base ++ bytes) t) → Backs after t → after.pairs ≡ words.pairs ++ (len, length bytes) ∷ [] → after.id ≡ words.id → IsTrue after.sure → longer ≡ len + length bytes
    → KnownFiles (changed c names) after longer t
recorded_known names words after len longer s t c bytes k fit spelled is holds backs pairs id sure more =
    let pair : after.pairs ≡ words.pairs ++ (length k.bytes, length (change_bytes c)) ∷ [] =
    pairs ∙ ap (λ (n : ℕ). words.pairs ++ (n, length bytes) ∷ []) k.is_len ∙ ap (λ (l : List ℕ). words.pairs ++ (length k.bytes, length l) ∷ []) is in
    record {
      bytes = k.bytes ++ bytes;
      holds = holds k.bytes k.holds;
      is_len = more ∙ ap (λ (n : ℕ). n + length bytes) k.is_len ∙ sym (length-append k.bytes bytes);
      backs = backs;
      words_sure = sure;
      id = id ∙ k.id;
      reads = ap (λ (l : List ℕ). names_in (k.bytes ++ l) after.pairs) is ∙ ap (names_in (k.bytes ++ change_bytes c)) pair ∙ names_grow k.bytes words.pairs names c k.reads fit spelled;
    }

-- ---- a change that is asked for

-- the catalog was read again, and then the change that is asked for was made, or not
pub asked_each : (ask : Names → Result Change CatalogFault) (names : Names) (c : Change) (s t u : DiskState) → KeepsCatalog s t → Leaves t (seen_files t) → EachCatalog (Shows names) t → ask names ≡ Ok c → EachCatalog (ShowsOr names c) u → MayChange ask s u
asked_each ask names c s t u keeps seen known asked each files left =
    let k = keeps (seen_files t) seen in
    let reads : catalog_of k.0 ≡ Ok names = sym k.2.names ∙ (known (seen_files t) seen).reads in (
      k.0,
      k.1,
      elim (each files left) [
        | inl old ↦ inl (record { names = old.reads ∙ sym reads; opens = λ o. old.opens })
        | inr new ↦ inr (record { names = names; change = c; before = reads; asked = asked; shows = new })
      ],
    )

pub asked_none : (ask : Names → Result Change CatalogFault) (s t : DiskState) → KeepsCatalog s t → MayChange ask s t
asked_none ask s t keeps files left = let k = keeps files left in (k.0, k.1, inl k.2)

pub others_join : (a b c : DiskState) → OtherFiles a b → OtherFiles b c → OtherFiles a c
others_join a b c one two = record {
  seen = λ f n1 n2 n3. two.seen f n1 n2 n3 ∙ one.seen f n1 n2 n3;
  images = λ f n1 n2 n3 d left. one.images f n1 n2 n3 d (two.images f n1 n2 n3 d left);
}
