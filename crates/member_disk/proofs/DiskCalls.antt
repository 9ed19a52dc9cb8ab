-- What the counted calls of a disk in memory do to what reads give, and to the images.
use Rattle.std.proofs.Common.{◌≡◌, ◌≢◌, inl, inr, ℕ, Bool, List, [], take, Some, None, Result, Ok, Err, OnOk, ◌⊎◌, refl, sym, ◌∙◌, ap, subst}
use Rattle.std.proofs.lemmas.Bool.{cases_eq}
use Rattle.std.specs.BTreeMap.{BTreeMap}
use Rattle.disk_calls.specs.Disk.{Image, Changes, Elsewhere, Looks, AreNames, RemovedFile, IsThere, LeftByCrash, bytes_of}
use Rattle.memory_file.specs.Memory.{Held, ImageOf, Tears, TearsAll, done, all_done, seen_of, sure, with_call}
use Rattle.member_disk.specs.Streams.{Stream, Moves, Crashes}
use Rattle.member_disk.specs.MemoryDisks.{OnStream, Counts, Does, Takes, Answers, files_in, held_in, state_of}
use Rattle.memory_file.specs.TornDone.{all_done_tears}
use Rattle.std.specs.declared.alloc.AllocError.{AllocError}
use Rattle.disk_calls.specs.declared.disk.DiskDid.{DiskDid}
use Rattle.disk_calls.specs.declared.disk.DiskDid.TheVariants as did
use Rattle.disk_calls.specs.declared.file_id.FileName.{FileName}
use Rattle.disk_calls.specs.declared.file_id.FileId.{FileId}
use Rattle.memory_file.specs.declared.file.Call.{Call}
use Rattle.memory_file.specs.declared.file.Call.TheVariants as call
use Rattle.member_disk.specs.declared.memory_map.Happened.{Happened}
use Rattle.member_disk.specs.declared.memory_map.Happened.TheVariants as happened
use Rattle.member_disk.specs.declared.memory_stream.MemoryStream.{MemoryStream}
use Rattle.memory_file.proofs.Tearing.{tears_last, stays, all_done_push}
use Rattle.member_disk.proofs.Names.{cases_at}
use Rattle.member_disk.proofs.NamesThere.{names_elsewhere}

same_file : (f g : FileId) → f.stream ≡ g.stream → f.file ≡ g.file → f ≡ g
same_file f g streams files = ap (λ (n : ℕ). record { stream = n; file = f.file }) streams ∙ ap (λ (x : FileName). record { stream = g.stream; file = x }) files

held_on : (n : ℕ) (a c : BTreeMap ℕ MemoryStream) (f : FileId) → f.stream ≡ n → (files_in c n).held f.file ≡ (files_in a n).held f.file → held_in c f ≡ held_in a f
held_on n a c f is same = ap (λ (k : ℕ). (files_in c k).held f.file) is ∙ same ∙ ap (λ (k : ℕ). (files_in a k).held f.file) (sym is)

-- the files that a call leaves alone
others_stay : (id : FileId) (file : Held) (order : List FileName) (s : Stream) (a c : BTreeMap ℕ MemoryStream) → s.held ≡ (files_in a id.stream).held → Moves id.file file order s (files_in c id.stream) → ((k : ℕ) → k ≢ id.stream → files_in c k ≡ files_in a k) → (f : FileId) → f ≢ id → held_in c f ≡ held_in a f
others_stay id file order s a c same moves elsewhere f ne = elim (cases_eq f.stream id.stream) [
  | inl is ↦ held_on id.stream a c f is (moves.others f.file (λ files. ne (same_file f id is files)) ∙ ap (λ (h : FileName → Held). h f.file) same)
  | inr off ↦ ap (λ (t : Stream). t.held f.file) (elsewhere f.stream off)
]

all_stay : (n : ℕ) (a c : BTreeMap ℕ MemoryStream) → OnStream n Counts a c → (f : FileId) → held_in c f ≡ held_in a f
all_stay n a c counts f = elim (cases_eq f.stream n) [
  | inl is ↦ held_on n a c f is (counts.own.held f.file)
  | inr off ↦ ap (λ (t : Stream). t.held f.file) (counts.elsewhere f.stream off)
]

image_back : (a c : BTreeMap ℕ MemoryStream) (f : FileId) (x : Image) → held_in c f ≡ held_in a f → ImageOf (held_in c f) x → ImageOf (held_in a f) x
image_back a c f x same left = subst (λ (h : Held). ImageOf h x) same left

elsewhere_of : (id : FileId) (a c : BTreeMap ℕ MemoryStream) (fa fc : ℕ) → ((f : FileId) → f ≢ id → held_in c f ≡ held_in a f) → Elsewhere id (state_of a fa) (state_of c fc)
elsewhere_of id a c fa fc same = record {
  seen = λ f ne. ap seen_of (same f ne);
  images = λ f ne x left. image_back a c f x (same f ne) left;
}

pub looks_of : (n : ℕ) (a c : BTreeMap ℕ MemoryStream) (fa fc : ℕ) → OnStream n Counts a c → Looks (state_of a fa) (state_of c fc)
looks_of n a c fa fc counts = record {
  seen = λ f. ap seen_of (all_stay n a c counts f);
  images = λ f x left. image_back a c f x (all_stay n a c counts f) left;
}

stays_changes : (id : FileId) (step : Image → Image → Type 0) (n : ℕ) (a c : BTreeMap ℕ MemoryStream) (fa fc : ℕ) → ((x : Image) → step x x) → OnStream n Counts a c → Changes id step (state_of a fa) (state_of c fc)
stays_changes id step n a c fa fc reflexive counts = record {
  own = λ x left. (x, image_back a c id x (all_stay n a c counts id) left, reflexive x);
  others = elsewhere_of id a c fa fc (λ f ne. all_stay n a c counts f);
}

call_changes : (id : FileId) (x : Call) (order : List FileName → List FileName) (a c : BTreeMap ℕ MemoryStream) (fa fc : ℕ) → OnStream id.stream (Does id.file (λ h. with_call h x) order) a c → Changes id (Tears x) (state_of a fa) (state_of c fc)
call_changes id x order a c fa fc does = record {
  own = λ new left.
      let torn : ImageOf (with_call (held_in a id) x) new = subst (λ (h : Held). ImageOf h new) does.own.own left in
      tears_last (held_in a id).calls x (held_in a id).base new torn;
  others = elsewhere_of id a c fa fc (others_stay id _ _ _ a c refl does.own does.elsewhere);
}

-- a write or a cut
pub did_changes : (id : FileId) (x : Call) (order : List FileName → List FileName) (a c : BTreeMap ℕ MemoryStream) (fa fc : ℕ) (due : Bool) (d : Happened) → Takes d due (OnStream id.stream (Does id.file (λ h. with_call h x) order) a c) (OnStream id.stream Counts a c) (OnStream id.stream Counts a c) → Changes id (Tears x) (state_of a fa) (state_of c fc)
did_changes id x order a c fa fc due happened.Done takes = call_changes id x order a c fa fc takes.1
did_changes id x order a c fa fc due happened.Due takes = stays_changes id (Tears x) id.stream a c fa fc (stays x) takes.1
did_changes id x order a c fa fc due happened.Refused takes = stays_changes id (Tears x) id.stream a c fa fc (stays x) takes.1

pub did_call : (id : FileId) (x : Call) (order : List FileName → List FileName) (a c : BTreeMap ℕ MemoryStream) (f g r s : ℕ) (due : Bool) (d : Happened) (answer : DiskDid) → Takes d due (OnStream id.stream (Does id.file (λ h. with_call h x) order) a c) (OnStream id.stream Counts a c) (OnStream id.stream Counts a c) → Answers d f g r s answer → answer ≡ did.Done → seen_of (held_in c id) ≡ done x (seen_of (held_in a id))
did_call id x order a c f g r s due happened.Done answer takes answers is = ap seen_of takes.1.own.own ∙ all_done_push (held_in a id).calls x (held_in a id).base
did_call id x order a c f g r s due happened.Due answer takes answers is = let failed = answers.0 in cc
did_call id x order a c f g r s due happened.Refused answer takes answers is = let failed = answers.0 in cc

pub cut_there : (size : ℕ) (file : Image) → IsThere file → done (call.Cut size) file ≡ Some (take size (bytes_of file))
cut_there size None there = absurd there
cut_there size (Some bytes) there = refl

removal_stays : (x : Image) → RemovedFile x x
removal_stays None = tt
removal_stays (Some bytes) = refl

removal_leaves : (old new : Image) → new ≡ None → RemovedFile old new
removal_leaves old None is = tt
removal_leaves old (Some bytes) is = cc

remove_changes : (id : FileId) (order : List FileName → List FileName) (a c : BTreeMap ℕ MemoryStream) (fa fc : ℕ) → OnStream id.stream (Does id.file (λ h. sure None) order) a c → Changes id RemovedFile (state_of a fa) (state_of c fc)
remove_changes id order a c fa fc does = record {
  own = λ new left.
      let gone : ImageOf (sure None) new = subst (λ (h : Held). ImageOf h new) does.own.own left in
      (seen_of (held_in a id), all_done_tears (held_in a id).calls (held_in a id).base, removal_leaves (seen_of (held_in a id)) new gone);
  others = elsewhere_of id a c fa fc (others_stay id _ _ _ a c refl does.own does.elsewhere);
}

pub did_remove : (id : FileId) (order : List FileName → List FileName) (a c : BTreeMap ℕ MemoryStream) (fa fc : ℕ) (due : Bool) (d : Happened) → Takes d due (OnStream id.stream (Does id.file (λ h. sure None) order) a c) (OnStream id.stream Counts a c) (OnStream id.stream Counts a c) → Changes id RemovedFile (state_of a fa) (state_of c fc)
did_remove id order a c fa fc due happened.Done takes = remove_changes id order a c fa fc takes.1
did_remove id order a c fa fc due happened.Due takes = stays_changes id RemovedFile id.stream a c fa fc removal_stays takes.1
did_remove id order a c fa fc due happened.Refused takes = stays_changes id RemovedFile id.stream a c fa fc removal_stays takes.1

-- a file that was made surer, and the others as they were
surer_looks : (id : FileId) (a c : BTreeMap ℕ MemoryStream) (fa fc : ℕ) → seen_of (held_in c id) ≡ seen_of (held_in a id) → ((x : Image) → ImageOf (held_in c id) x → ImageOf (held_in a id) x) → ((f : FileId) → f ≢ id → held_in c f ≡ held_in a f) → ((f : FileId) → (f ≡ id) ⊎ (f ≢ id)) → Looks (state_of a fa) (state_of c fc)
surer_looks id a c fa fc same fewer others decide = record {
  seen = λ f. elim (decide f) [
    | inl is ↦ subst (λ (g : FileId). seen_of (held_in c g) ≡ seen_of (held_in a g)) (sym is) same
    | inr ne ↦ ap seen_of (others f ne)
  ];
  images = λ f x left. elim (decide f) [
    | inl is ↦ subst (λ (g : FileId). ImageOf (held_in a g) x) (sym is) (fewer x (subst (λ (g : FileId). ImageOf (held_in c g) x) is left))
    | inr ne ↦ image_back a c f x (others f ne) left
  ];
}

decide_file : (id f : FileId) → (f ≡ id) ⊎ (f ≢ id)
decide_file id f = elim (cases_eq f.stream id.stream) [
  | inl is ↦ elim (cases_at f.file id.file) [
    | inl files ↦ inl (same_file f id is files)
    | inr (ne, off) ↦ inr (λ e. ne (ap (λ (x : FileId). x.file) e))
  ]
  | inr off ↦ inr (λ e. off (ap (λ (x : FileId). x.stream) e))
]

sure_images : (h : Held) (x : Image) → ImageOf (sure (seen_of h)) x → ImageOf h x
sure_images h x is = subst (λ (y : Image). ImageOf h y) (sym is) (all_done_tears h.calls h.base)

pub did_sync : (id : FileId) (order : List FileName → List FileName) (a c : BTreeMap ℕ MemoryStream) (fa fc : ℕ) (due : Bool) (d : Happened) → Takes d due (OnStream id.stream (Does id.file (λ h. sure (seen_of h)) order) a c) (OnStream id.stream Counts a c) (OnStream id.stream Counts a c) → Looks (state_of a fa) (state_of c fc)
did_sync id order a c fa fc due happened.Done takes =
    surer_looks id a c fa fc (ap seen_of takes.1.own.own)
    (λ x left. sure_images (held_in a id) x (subst (λ (h : Held). ImageOf h x) takes.1.own.own left))
    (others_stay id _ _ _ a c refl takes.1.own takes.1.elsewhere) (decide_file id)
did_sync id order a c fa fc due happened.Due takes = looks_of id.stream a c fa fc takes.1
did_sync id order a c fa fc due happened.Refused takes = looks_of id.stream a c fa fc takes.1

pub names_before : (n k : ℕ) (a c : BTreeMap ℕ MemoryStream) (found : List FileId) → OnStream k Counts a c → AreNames n (λ f. seen_of (held_in c f)) found → AreNames n (λ f. seen_of (held_in a f)) found
names_before n k a c found counts names = names_elsewhere n (λ f. seen_of (held_in c f)) (λ f. seen_of (held_in a f)) found (λ f is. ap seen_of (all_stay k a c counts f)) names

seen_of_sure : (h : Held) → h.calls ≡ [] → seen_of h ≡ h.base
seen_of_sure h none = ap (λ (cs : List Call). all_done cs h.base) none

only_of_sure : (h : Held) → h.calls ≡ [] → (x : Image) → ImageOf h x → x ≡ seen_of h
only_of_sure h none x left =
    let is : x ≡ h.base = subst (λ (cs : List Call). TearsAll cs h.base x) none left in
    is ∙ sym (seen_of_sure h none)

-- what a crash left of a file of its stream
left_own : (n image : ℕ) (a c : BTreeMap ℕ MemoryStream) → OnStream n (Crashes image) a c → (f : FileId) → f.stream ≡ n → ImageOf (held_in a f) (seen_of (held_in c f)) × ((x : Image) → ImageOf (held_in c f) x → x ≡ seen_of (held_in c f))
left_own n image a c crash f is =
    let P : ℕ → Type 0 = λ (k : ℕ). ImageOf ((files_in a k).held f.file) (seen_of ((files_in c k).held f.file)) × ((x : Image) → ImageOf ((files_in c k).held f.file) x → x ≡ seen_of ((files_in c k).held f.file)) in
    let new = (files_in c n).held f.file in
    let none = crash.own.sure f.file in
    let here : P n = (subst (λ (x : Image). ImageOf ((files_in a n).held f.file) x) (sym (seen_of_sure new none)) (crash.own.images f.file), only_of_sure new none) in
    subst P (sym is) here

pub left_by_crash : (n image : ℕ) (a c : BTreeMap ℕ MemoryStream) (fa fc : ℕ) → fc ≡ fa → (r : Result (Unit {0}) AllocError) → OnOk r (OnStream n (Crashes image) a c) → OnOk r (LeftByCrash n (state_of a fa) (state_of c fc))
left_by_crash n image a c fa fc faults (Ok u) crash = record {
  own = λ f is. left_own n image a c crash f is;
  others = λ f ne.
      let same : held_in c f ≡ held_in a f = ap (λ (t : Stream). t.held f.file) (crash.elsewhere f.stream ne) in
      (ap seen_of same, λ x left. image_back a c f x same left);
  faults = faults;
}
left_by_crash n image a c fa fc faults (Err e) crash = tt

-- a removal of a file that is missing
missing_looks : (id : FileId) (order : List FileName → List FileName) (a c : BTreeMap ℕ MemoryStream) (fa fc : ℕ) → seen_of (held_in a id) ≡ None → OnStream id.stream (Does id.file (λ h. sure None) order) a c → Looks (state_of a fa) (state_of c fc)
missing_looks id order a c fa fc none does =
    let among : ImageOf (held_in a id) None = subst (λ (x : Image). ImageOf (held_in a id) x) none (all_done_tears (held_in a id).calls (held_in a id).base) in
    surer_looks id a c fa fc (ap seen_of does.own.own ∙ sym none)
    (λ x left.
    let gone : ImageOf (sure None) x = subst (λ (h : Held). ImageOf h x) does.own.own left in
    subst (λ (y : Image). ImageOf (held_in a id) y) (sym gone) among)
    (others_stay id _ _ _ a c refl does.own does.elsewhere) (decide_file id)

pub did_remove_missing : (id : FileId) (order : List FileName → List FileName) (a c : BTreeMap ℕ MemoryStream) (fa fc : ℕ) (due : Bool) (d : Happened) → Takes d due (OnStream id.stream (Does id.file (λ h. sure None) order) a c) (OnStream id.stream Counts a c) (OnStream id.stream Counts a c) → seen_of (held_in a id) ≡ None → Looks (state_of a fa) (state_of c fc)
did_remove_missing id order a c fa fc due happened.Done takes none = missing_looks id order a c fa fc none takes.1
did_remove_missing id order a c fa fc due happened.Due takes none = looks_of id.stream a c fa fc takes.1
did_remove_missing id order a c fa fc due happened.Refused takes none = looks_of id.stream a c fa fc takes.1
