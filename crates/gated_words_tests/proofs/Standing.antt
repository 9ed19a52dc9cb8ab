-- Files of pairs on a disk in memory whose settings change, or that crashes.
use Rattle.std.proofs.Common.{◌≡◌, ◌≢◌, inl, inr, ℕ, List, Result, Ok, Err, refl, sym, ◌∙◌, ap, subst}
use Rattle.std.proofs.lemmas.Bool.{cases_eq}
use Rattle.std.specs.Prelude.{IfOk, OnOk, OnErr, IsTrue}
use Rattle.std.specs.BTreeMap.{BTreeMap}
use Rattle.std.specs.declared.alloc.AllocError.{AllocError}
use Rattle.disk_calls.specs.declared.file_id.FileId.{FileId}
use Rattle.disk_calls.specs.declared.file_id.FileName.{FileName}
use Rattle.disk_calls.specs.Disk.{DiskState, LeftByCrash}
use Rattle.disk_calls.specs.Frames.{FileStays}
use Rattle.member_disk.specs.declared.memory_stream.MemoryStream.{MemoryStream}
use Rattle.member_disk.specs.Memory.{Held, ImageOf, seen_of}
use Rattle.member_disk.specs.Streams.{Stream, Stays}
use Rattle.member_disk.specs.MemoryDisks.{OnStream, files_in, held_in, state_of}
use Rattle.gated_words.specs.declared.fault.GateFault.{GateFault}
use Rattle.gated_words.specs.Files.{Leaves, PairsOf, seen_files, second_file}
use Rattle.gated_words.specs.InHand.{InHand}
use Rattle.gated_words.specs.Backing.{AtMostNew, Backs, EachHas, KeepsPairs, MayAdd, OrNew}
use Rattle.gated_words.proofs.Hands.{held_only, stays_backs}

-- each file is held as before
abbrev pub SameHeld : BTreeMap ℕ MemoryStream → BTreeMap ℕ MemoryStream → Type 0
SameHeld old new = (f : FileId) → held_in new f ≡ held_in old f

same_held : (n : ℕ) (old new : BTreeMap ℕ MemoryStream) → ((f : FileName) → (files_in new n).held f ≡ (files_in old n).held f) → ((k : ℕ) → k ≢ n → files_in new k ≡ files_in old k) → SameHeld old new
same_held n old new own elsewhere f = elim (cases_eq f.stream n) [
  | inl same ↦ ap (λ (k : ℕ). (files_in new k).held f.file) same ∙ own f.file ∙ sym (ap (λ (k : ℕ). (files_in old k).held f.file) same)
  | inr other ↦ ap (λ (s : Stream). s.held f.file) (elsewhere f.stream other)
]

same_stays : (old new : BTreeMap ℕ MemoryStream) (before after : ℕ) → SameHeld old new → (f : FileId) → FileStays f (state_of old before) (state_of new after)
same_stays old new before after same f = record { seen = ap seen_of (same f); images = λ c left. subst (λ (h : Held). ImageOf h c) (same f) left }

pub same_backs : (old new : BTreeMap ℕ MemoryStream) (before after : ℕ) → SameHeld old new → (hand : InHand) → Backs hand (state_of old before) → Backs hand (state_of new after)
same_backs old new before after same hand = stays_backs hand (state_of old before) (state_of new after) (same_stays old new before after same hand.id) (same_stays old new before after same (second_file hand.id))

-- a setting leaves the files, whether there was memory for it or not
pub set_held : (n : ℕ) (settings : Stream → List ℕ) (old new : BTreeMap ℕ MemoryStream) (result : Result (Unit {0}) AllocError)
    → OnOk result (OnStream n (λ s t. Stays (record { held = s.held; order = s.order; settings = settings s }) t) old new) → OnErr result (OnStream n Stays old new) → SameHeld old new
set_held n settings old new (Ok u) ok err = same_held n old new ok.own.held ok.elsewhere
set_held n settings old new (Err e) ok err = same_held n old new err.own.held err.elsewhere

-- what a crash leaves is one of the images
crash_took : (id : FileId) (m t : DiskState) → LeftByCrash id.stream m t → Leaves id m (seen_files id t)
crash_took id m t crash = record { first = (crash.own id refl).0; second = (crash.own (second_file id) refl).0 }

-- what a crash leaves after an opening
pub kept_pairs : (id : FileId) (pairs : List (ℕ × ℕ)) (s m t : DiskState) (result : Result InHand GateFault) → EachHas id pairs s → KeepsPairs id s m → LeftByCrash id.stream m t → IfOk result (λ g. g.pairs ≡ PairsOf (seen_files id t)) → IfOk result (λ g. g.pairs ≡ pairs)
kept_pairs id pairs s m t (Ok g) has keeps crash read =
    let (before, from, same) = keeps (seen_files id t) (crash_took id m t crash) in
    read ∙ same.pairs ∙ has before from
kept_pairs id pairs s m t (Err e) has keeps crash read = read

-- what a crash leaves after a put
pub crash_found : (hand : InHand) (pair : ℕ × ℕ) (s m t : DiskState) → IsTrue hand.sure → Backs hand s → MayAdd hand.id pair s m → LeftByCrash hand.id.stream m t → AtMostNew hand.pairs pair (seen_files hand.id t)
crash_found hand pair s m t sure backs may crash =
    let (before, from, found) = may (seen_files hand.id t) (crash_took hand.id m t crash) in
    subst (λ (l : List (ℕ × ℕ)). AtMostNew l pair (seen_files hand.id t)) (held_only hand.id hand.pairs s (backs.held sure) before from) found

pub put_leaves : (hand : InHand) (id : FileId) (pair : ℕ × ℕ) (s m t : DiskState) → hand.id ≡ id → IsTrue hand.sure → Backs hand s → MayAdd hand.id pair s m → LeftByCrash id.stream m t → AtMostNew hand.pairs pair (seen_files id t)
put_leaves hand id pair s m t same sure backs may crash =
    let there : LeftByCrash hand.id.stream m t = subst (λ (f : FileId). LeftByCrash f.stream m t) (sym same) crash in
    subst (λ (f : FileId). AtMostNew hand.pairs pair (seen_files f t)) same (crash_found hand pair s m t sure backs may there)

pub found_pairs : (old : List (ℕ × ℕ)) (id : FileId) (pair : ℕ × ℕ) (t : DiskState) (result : Result InHand GateFault) → AtMostNew old pair (seen_files id t) → IfOk result (λ g. g.pairs ≡ PairsOf (seen_files id t)) → IfOk result (λ g. OrNew old pair g.pairs)
found_pairs old id pair t (Ok g) left read = subst (λ (l : List (ℕ × ℕ)). OrNew old pair l) (sym read) left.pairs
found_pairs old id pair t (Err e) left read = read
