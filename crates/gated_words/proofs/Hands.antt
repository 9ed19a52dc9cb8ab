-- Pairs in hand, and the files that they stand for.
use Rattle.std.proofs.Common.{◌≡◌, inl, inr, ℕ, List, Result, Ok, Err, Bool, Some, None, refl, sym, subst}
use Rattle.std.proofs.lemmas.Bool.{cases_eq}
use Rattle.std.specs.Prelude.{IsTrue, OnOk, OnErr}
use Rattle.disk_calls.specs.declared.file_id.FileId.{FileId}
use Rattle.disk_calls.specs.Disk.{DiskState, Image, bytes_of, LeftByCrash}
use Rattle.disk_calls.specs.Frames.{FileStays}
use Rattle.disk_calls.proofs.FrameLemmas.{gone_stays, settled_stays, gone_outlasts, settled_outlasts}
use Rattle.gated_words.specs.declared.fault.GateFault.{GateFault}
use Rattle.gated_words.specs.declared.record.Form.TheVariants as form
use Rattle.gated_words.specs.Words.{spelled}
use Rattle.gated_words.specs.Files.{Files, HasSecond, Leaves, Damages, PairsOf, counting, form_of, seen_files, second_file}
use Rattle.gated_words.specs.InHand.{InHand}
use Rattle.gated_words.specs.Backing.{EachBoth, EachHas, AtMostNew, Held, Backs, MayAdd}
use Rattle.gated_words.specs.Looking.{HasPairs}
use Rattle.gated_words.proofs.Reading.{whole_has}
use Rattle.gated_words.proofs.Opening.{Has, opens_undamaged, second_has}

held_has : (id : FileId) (pairs : List (ℕ × ℕ)) (s : DiskState) → Held id pairs s → (files : Files) → files.first ≡ None → files.second ≡ Some (spelled form.Second pairs) → Has pairs files
held_has id pairs s held files gone second = second_has files pairs gone (subst (λ (c : Image). HasPairs form.Second pairs (bytes_of c)) (sym second) (whole_has form.Second pairs held.fit))

held_each : (id : FileId) (pairs : List (ℕ × ℕ)) (s : DiskState) → Held id pairs s → EachBoth id (Has pairs) s
held_each id pairs s held files left = held_has id pairs s held files (held.gone.only files.first left.first) (held.settled.only files.second left.second)

pub held_only : (id : FileId) (pairs : List (ℕ × ℕ)) (s : DiskState) → Held id pairs s → EachHas id pairs s
held_only id pairs s held files left = (held_each id pairs s held files left).are

pub held_seen : (id : FileId) (pairs : List (ℕ × ℕ)) (s : DiskState) → Held id pairs s → PairsOf (seen_files id s) ≡ pairs
held_seen id pairs s held = (held_has id pairs s held (seen_files id s) held.gone.seen held.settled.seen).are

-- files that are these pairs may get a pair more
pub held_near : (id : FileId) (pairs : List (ℕ × ℕ)) (pair : ℕ × ℕ) (s : DiskState) → Held id pairs s → EachBoth id (AtMostNew pairs pair) s
held_near id pairs pair s held files left = let has = held_each id pairs s held files left in record { opens = has.opens; pairs = inl has.are }

pub held_backs : (hand : InHand) (s : DiskState) → HasSecond hand.id → Held hand.id hand.pairs s → Backs hand s
held_backs hand s second held = record { second = second; held = λ sure. held; near = ((0, 0), held_near hand.id hand.pairs (0, 0) s held) }

-- files to which a pair is added, or was to be, stand for the pairs in hand
pub adds_backs : (id : FileId) (old now : List (ℕ × ℕ)) (sure : Bool) (new : ℕ × ℕ) (result : Result (Unit {0}) GateFault) (t : DiskState) → HasSecond id → EachBoth id (AtMostNew old new) t
    → (IsTrue sure → Held id now t) → OnOk result (IsTrue sure) → OnErr result (now ≡ old) → Backs (record { id = id; pairs = now; sure = sure }) t
adds_backs id old now sure new (Ok u) t second adds held ok err = held_backs (record { id = id; pairs = now; sure = sure }) t second (held ok)
adds_backs id old now sure new (Err e) t second adds held ok err = record {
  second = second;
  held = held;
  near = (new, λ files left. subst (λ (l : List (ℕ × ℕ)). AtMostNew l new files) (sym err) (adds files left));
}

pub adds_only : (at id : FileId) (now : List (ℕ × ℕ)) (sure : Bool) (result : Result (Unit {0}) GateFault) (t : DiskState) → at ≡ id → (IsTrue sure → Held at now t) → OnOk result (IsTrue sure) → OnOk result (EachHas id now t)
adds_only at id now sure (Ok u) t same held ok = subst (λ (f : FileId). EachHas f now t) same (held_only at now t (held ok))
adds_only at id now sure (Err e) t same held ok = ok

-- the pairs that a put begins with are those that a read gave before it
pub may_add : (at id : FileId) (s t : DiskState) (pairs : List (ℕ × ℕ)) (pair : ℕ × ℕ) → at ≡ id → Leaves id s (seen_files id s) → pairs ≡ PairsOf (seen_files id s) → EachBoth at (AtMostNew pairs pair) t → MayAdd id pair s t
may_add at id s t pairs pair same seen are adds files left =
    let here : EachBoth id (AtMostNew pairs pair) t = subst (λ (f : FileId). EachBoth f (AtMostNew pairs pair) t) same adds in
    (seen_files id s, seen, subst (λ (l : List (ℕ × ℕ)). AtMostNew l pair files) are (here files left))

-- where the files stay for their holder, they stand for what they stood for
backs_while : (hand : InHand) (s t : DiskState) → (Held hand.id hand.pairs s → Held hand.id hand.pairs t) → ((files : Files) → Leaves hand.id t files → Leaves hand.id s files) → Backs hand s → Backs hand t
backs_while hand s t keeps back backs = record {
  second = backs.second;
  held = λ sure. keeps (backs.held sure);
  near = (backs.near.0, λ files left. backs.near.1 files (back files left));
}

pub stays_backs : (hand : InHand) (s t : DiskState) → FileStays hand.id s t → FileStays (second_file hand.id) s t → Backs hand s → Backs hand t
stays_backs hand s t one two backs = backs_while hand s t
    (λ held. record { gone = gone_stays hand.id s t one held.gone; settled = settled_stays (second_file hand.id) (spelled form.Second hand.pairs) s t two held.settled; fit = held.fit })
    (λ files left. record { first = one.images files.first left.first; second = two.images files.second left.second })
    backs

-- what a crash leaves of a file is one of its images
crash_back : (id : FileId) (stream : ℕ) (s t : DiskState) → LeftByCrash stream s t → (c : Image) → t.images id c → s.images id c
crash_back id stream s t crash c left = elim (cases_eq id.stream stream) [
  | inl same ↦ let here = crash.own id same in subst (λ (f : Image). s.images id f) (sym (here.1 c left)) here.0
  | inr other ↦ (crash.others id other).1 c left
]

crash_leaves : (id : FileId) (stream : ℕ) (s t : DiskState) → LeftByCrash stream s t → (files : Files) → Leaves id t files → Leaves id s files
crash_leaves id stream s t crash files left = record { first = crash_back id stream s t crash files.first left.first; second = crash_back (second_file id) stream s t crash files.second left.second }

pub crash_backs : (hand : InHand) (stream : ℕ) (s t : DiskState) → LeftByCrash stream s t → Backs hand s → Backs hand t
crash_backs hand stream s t crash backs = backs_while hand s t
    (λ held. record { gone = gone_outlasts hand.id stream s t crash held.gone; settled = settled_outlasts (second_file hand.id) (spelled form.Second hand.pairs) stream s t crash held.settled; fit = held.fit })
    (crash_leaves hand.id stream s t crash)
    backs

pub crash_has : (id : FileId) (pairs : List (ℕ × ℕ)) (s t : DiskState) → LeftByCrash id.stream s t → EachHas id pairs s → PairsOf (seen_files id t) ≡ pairs
crash_has id pairs s t crash each = each (seen_files id t) (record { first = (crash.own id refl).0; second = (crash.own (second_file id) refl).0 })

-- files that stand for pairs in hand can be opened
pub backs_undamaged : (hand : InHand) (s : DiskState) (at : FileId) (place : ℕ) → at ≡ hand.id → Leaves hand.id s (seen_files hand.id s) → Backs hand s → Damages place (seen_files at s) → ⊥
backs_undamaged hand s at place same seen backs damaged =
    let files = seen_files hand.id s in
    let here : Damages place files = subst (λ (f : FileId). Damages place (seen_files f s)) same damaged in
    opens_undamaged (form_of files.first) place (counting files.first files.second) (backs.near.1 files seen).opens here

pub hand_second : (hand : InHand) (s : DiskState) (at : FileId) → at ≡ hand.id → Backs hand s → HasSecond at
hand_second hand s at same backs = subst HasSecond (sym same) backs.second
