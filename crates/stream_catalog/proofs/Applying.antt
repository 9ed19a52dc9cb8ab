-- A change that is asked for: the files are read again where they aren't sure, and it is made, or not.
use Rattle.std.proofs.Common.{◌≡◌, inl, inr, ℕ, ◌+◌, Bool, true, false, List, [], ◌∷◌, ◌++◌, length, Option, Some, None, Result, Ok, Err, if◌then◌else◌, refl, sym, ap, subst, ◌∙◌}
use Rattle.std.specs.Prelude.{IsTrue, OnOk, OnErr, IfErr, IsErr, IsErrAnd}
use Rattle.disk_calls.specs.Disk.{DiskState}
use Rattle.disk_calls.specs.Frames.{Holds}
use Rattle.gated_words.specs.InHand.{InHand}
use Rattle.gated_words.specs.Backing.{Backs}
use Rattle.stream_catalog.specs.declared.change.Change.{Change}
use Rattle.stream_catalog.specs.declared.fault.CatalogFault.{CatalogFault}
use Rattle.stream_catalog.specs.declared.fault.CatalogFault.TheVariants as fault
use Rattle.stream_catalog.specs.declared.holder.Holder.{Holder}
use Rattle.stream_catalog.specs.declared.holder.Holder.TheVariants as holds
use Rattle.stream_catalog.specs.Names.{Names, streams}
use Rattle.stream_catalog.specs.Rules.{changed, holder_at, deletes_super, deletes_super_held, delete_all, numbers_going}
use Rattle.stream_catalog.specs.ChangeBytes.{IsChange, change_bytes}
use Rattle.stream_catalog.specs.Files.{fits, catalog_of, seen_files, Leaves, bytes_id}
use Rattle.stream_catalog.specs.InHand.{Catalogued, Known, KnownFiles, Backed, ShowsOr, EachCatalog, MayRecord, KeepsCatalog, DamagesCatalog, Does, ReadAgain, Applied, Made, Answers, begins, came_in, went_in, streams_without, IsDiskFault, IsOpenFault, TellsNumber, TellsGone}
use Rattle.stream_catalog.specs.Asking.{Asks}
use Rattle.stream_catalog.proofs.Recording.{known_each, known_backed, recorded_each, recorded_known, kept_near, asked_each, asked_none, undamaged}

-- the error that a call hands on
pub err_of : {X : Type 0} (result : Result X CatalogFault) (e : CatalogFault) → IsErr result × IsErrAnd result (λ x. x ≡ e) → result ≡ Err e
err_of (Ok x) e is = let bad : false ≡ true = is.0 in absurd cc
err_of (Err f) e is = ap (λ (y : CatalogFault). Err y) is.1

-- ---- one change

-- memory ran out before anything was done
pub applied_memory : {X : Type 0} (change : Change) (names after : Names) (words : InHand) (len : ℕ) (sure : Bool) (result : Result X CatalogFault) (s : DiskState) → IsErr result × IsErrAnd result (λ e. e ≡ fault.Memory) → after ≡ names → KnownFiles names words len s → Applied change names after words len sure result s
applied_memory change names after words len sure (Ok x) s is same k = let bad : false ≡ true = is.0 in absurd cc
applied_memory change names after words len sure (Err e) s is same k = record {
  images = λ files left. inl (known_each names words len s k files left);
  known = λ certain. subst (λ (n : Names). KnownFiles n words len s) (sym same) k;
  ok = tt;
  err = same;
  fault = subst IsDiskFault (sym is.1) tt;
}

-- what writing it left
pub record Wrote (names : Names) (words after : InHand) (len longer : ℕ) (s t : DiskState) (bytes : List ℕ) (sure : Bool) (result : Result (Unit {0}) CatalogFault) : Type 0 where
  pub images : (base : List ℕ) → Holds bytes_id base s → len ≡ length base → EachCatalog (MayRecord words.pairs base bytes) t
  pub holds : (base : List ℕ) → Holds bytes_id base s → OnOk result (Holds bytes_id (base ++ bytes) t)
  pub backs : OnOk result (Backs after t)
  pub pairs : OnOk result (after.pairs ≡ words.pairs ++ (len, length bytes) ∷ [])
  pub id : after.id ≡ words.id
  pub words_sure : OnOk result (IsTrue after.sure)
  pub is_sure : OnOk result (IsTrue sure)
  pub unsure : OnErr result (sure ≡ false)
  pub is_longer : OnOk result (longer ≡ len + length bytes)
  pub fault : IfErr result IsDiskFault

pub applied_done : {X : Type 0} (change : Change) (names new : Names) (words after : InHand) (len longer : ℕ) (s t : DiskState) (bytes : List ℕ) (sure : Bool) (x : X) → KnownFiles names words len s → fits change names ≡ true → IsChange change → bytes ≡ change_bytes change
    → Wrote names words after len longer s t bytes sure (Ok tt) → new ≡ changed change names → Applied change names new after longer sure (Ok x) t
applied_done change names new words after len longer s t bytes sure x k fit spelled is w made = record {
  images = recorded_each names words len s t change bytes k fit spelled is w.images;
  known = λ certain. subst (λ (n : Names). KnownFiles n after longer t) (sym made) (recorded_known names words after len longer s t change bytes k fit spelled is w.holds w.backs w.pairs w.id w.words_sure w.is_longer);
  ok = (made, w.is_sure);
  err = tt;
  fault = tt;
}

pub applied_failed : {X : Type 0} (change : Change) (names new : Names) (words after : InHand) (len longer : ℕ) (s t : DiskState) (bytes : List ℕ) (sure : Bool) (e : CatalogFault) → KnownFiles names words len s → fits change names ≡ true → IsChange change → bytes ≡ change_bytes change
    → Wrote names words after len longer s t bytes sure (Err e) → new ≡ names → Applied {X = X} change names new after longer sure (Err e) t
applied_failed change names new words after len longer s t bytes sure e k fit spelled is w same = record {
  images = recorded_each names words len s t change bytes k fit spelled is w.images;
  known = λ certain. absurd (let both : false ≡ true = sym w.unsure ∙ certain in cc);
  ok = tt;
  err = same;
  fault = w.fault;
}

-- ---- a catalog after it

near_after : {X : Type 0} (change : Change) (names after : Names) (words : InHand) (len : ℕ) (sure : Bool) (result : Result X CatalogFault) (t : DiskState) → Applied change names after words len sure result t → (failed : Change) × EachCatalog (ShowsOr after failed) t
near_after change names after words len sure (Ok x) t a = (change, λ files left. inl (known_each after words len t (a.known a.ok.1) files left))
near_after change names after words len sure (Err e) t a = (change, subst (λ (n : Names). EachCatalog (ShowsOr n change) t) (sym a.err) a.images)

pub applied_backed : {X : Type 0} (change : Change) (names : Names) (new : Catalogued) (result : Result X CatalogFault) (t : DiskState) → Applied change names new.names new.words new.len new.sure result t → Backed new t
applied_backed change names new result t a = record { known = a.known; near = near_after change names new.names new.words new.len new.sure result t a }

-- ---- reading again

pub again_sure : (old new : Catalogued) (s : DiskState) → Backed old s → IsTrue old.sure → new.names ≡ old.names → new.limit ≡ old.limit → new.words ≡ old.words → new.len ≡ old.len → new.sure ≡ old.sure → new.came ≡ [] → new.went ≡ [] → ReadAgain old new (Ok tt) s s
again_sure old new s backed sure names limit words len same came went =
    let k = backed.known sure in
    let known : Known new s = subst (λ (n : Names). KnownFiles n new.words new.len s) (sym names) (subst (λ (w : InHand). KnownFiles old.names w new.len s) (sym words) (subst (λ (n : ℕ). KnownFiles old.names old.words n s) (sym len) k)) in
    let is : begins old s ≡ Ok old.names = ap (λ (b : Bool). if b then Ok old.names else catalog_of (seen_files s)) sure in
    record {
      images = λ files left. (files, left, record { names = refl; opens = λ o. o });
      backed = known_backed new s known;
      limit = limit;
      sure = same ∙ sure;
      names = is ∙ ap (λ (n : Names). Ok n) (sym names);
      came = came ∙ sym (ap (λ (b : Bool). if b then [] else streams_without old.names new.names) sure);
      went = went ∙ sym (ap (λ (b : Bool). if b then [] else streams_without new.names old.names) sure);
      err = tt;
      fault = tt;
    }

open_faulty : (old : Catalogued) (e : CatalogFault) (s : DiskState) → Backed old s → Leaves s (seen_files s) → IsOpenFault e → ((place : ℕ) → e ≡ fault.Damaged place → DamagesCatalog place (seen_files s)) → IsDiskFault e
open_faulty old fault.Missing s backed seen opened damaged = absurd opened
open_faulty old fault.Exists s backed seen opened damaged = absurd opened
open_faulty old (fault.Refused why) s backed seen opened damaged = absurd opened
open_faulty old fault.Disk s backed seen opened damaged = tt
open_faulty old (fault.Damaged place) s backed seen opened damaged = absurd (undamaged old.names backed.near.0 place (seen_files s) (backed.near.1 (seen_files s) seen) (damaged place refl))
open_faulty old fault.Memory s backed seen opened damaged = tt

again_err : (old new : Catalogued) (e : CatalogFault) (s t : DiskState) → Backed old s → Leaves s (seen_files s) → KeepsCatalog s t → IsOpenFault e → ((place : ℕ) → e ≡ fault.Damaged place → DamagesCatalog place (seen_files s)) → old.sure ≡ false
    → new.names ≡ old.names → new.limit ≡ old.limit → new.sure ≡ old.sure → new.came ≡ [] → new.went ≡ [] → ReadAgain old new (Err e) s t
again_err old new e s t backed seen keeps opened damaged unsure names limit same came went = record {
  images = keeps;
  backed = record {
    known = λ sure. absurd (let both : false ≡ true = sym (same ∙ unsure) ∙ sure in cc);
    near = (backed.near.0, subst (λ (n : Names). EachCatalog (ShowsOr n backed.near.0) t) (sym names) (kept_near old.names backed.near.0 s t keeps backed.near.1));
  };
  limit = limit;
  sure = tt;
  names = tt;
  came = tt;
  went = tt;
  err = (names, came, went);
  fault = open_faulty old e s backed seen opened damaged;
}

pub again_failed : (old new : Catalogued) (e : CatalogFault) (result : Result (Unit {0}) CatalogFault) (s t : DiskState) → IsErr result × IsErrAnd result (λ x. x ≡ e) → Backed old s → Leaves s (seen_files s) → KeepsCatalog s t → IsOpenFault e → ((place : ℕ) → e ≡ fault.Damaged place → DamagesCatalog place (seen_files s)) → old.sure ≡ false
    → new.names ≡ old.names → new.limit ≡ old.limit → new.sure ≡ old.sure → new.came ≡ [] → new.went ≡ [] → ReadAgain old new result s t
again_failed old new e result s t is backed seen keeps opened damaged unsure names limit same came went =
    subst (λ (r : Result (Unit {0}) CatalogFault). ReadAgain old new r s t) (sym (err_of result e is)) (again_err old new e s t backed seen keeps opened damaged unsure names limit same came went)

pub again_read : (old new : Catalogued) (s t : DiskState) → KeepsCatalog s t → old.sure ≡ false → Known new t → catalog_of (seen_files s) ≡ Ok new.names → new.limit ≡ old.limit → IsTrue new.sure → new.came ≡ streams_without old.names new.names → new.went ≡ streams_without new.names old.names → ReadAgain old new (Ok tt) s t
again_read old new s t keeps unsure known names limit sure came went = record {
  images = keeps;
  backed = known_backed new t known;
  limit = limit;
  sure = sure;
  names = ap (λ (b : Bool). if b then Ok old.names else catalog_of (seen_files s)) unsure ∙ names;
  came = came ∙ sym (ap (λ (b : Bool). if b then [] else streams_without old.names new.names) unsure);
  went = went ∙ sym (ap (λ (b : Bool). if b then [] else streams_without new.names old.names) unsure);
  err = tt;
  fault = tt;
}

-- ---- the call

ok_names : (a b : Names) (r : Result Names ℕ) → r ≡ Ok a → r ≡ Ok b → b ≡ a
ok_names a b r one two = let both : ◌≡◌ {A = Result Names ℕ} (Ok b) (Ok a) = sym two ∙ one in cc

disk_answers : {X : Type 0} (Tells : Names → Change → X → Type 0) (ask : Names → Result Change CatalogFault) (names after : Names) (e : CatalogFault) → IsDiskFault e → Answers Tells ask names (Err e) after
disk_answers Tells ask names after fault.Missing is = absurd is
disk_answers Tells ask names after fault.Exists is = absurd is
disk_answers Tells ask names after (fault.Refused why) is = absurd is
disk_answers Tells ask names after fault.Disk is = tt
disk_answers Tells ask names after (fault.Damaged place) is = absurd is
disk_answers Tells ask names after fault.Memory is = tt

-- the files could not be read again
pub does_unread : {X : Type 0} (Tells : Names → Change → X → Type 0) (ask : Names → Result Change CatalogFault) (old new : Catalogued) (e : CatalogFault) (s t : DiskState) → ReadAgain old new (Err e) s t → Does Tells ask old new (Err e) s t
does_unread Tells ask old new e s t r = record {
  images = asked_none ask s t r.images;
  backed = r.backed;
  answers = λ names is. disk_answers Tells ask names new.names e r.fault;
  kept = λ names is. inr r.err.0;
  only = tt;
  found = λ names is. inr (r.fault, refl, r.err.0, r.err.1, r.err.2);
  limit = r.limit;
}

asked_answers : {X : Type 0} (Tells : Names → Change → X → Type 0) (ask : Names → Result Change CatalogFault) (names : Names) (e : CatalogFault) → Asks (Err e) (ask names) → Answers Tells ask names (Err e) names
asked_answers Tells ask names fault.Missing asks = (asks, refl)
asked_answers Tells ask names fault.Exists asks = (asks, refl)
asked_answers Tells ask names (fault.Refused why) asks = (asks, refl)
asked_answers Tells ask names fault.Disk asks = absurd asks
asked_answers Tells ask names (fault.Damaged place) asks = absurd asks
asked_answers Tells ask names fault.Memory asks = tt

-- the rules refuse the change, or memory ran out before it was written
pub does_refused : {X : Type 0} (Tells : Names → Change → X → Type 0) (ask : Names → Result Change CatalogFault) (old new : Catalogued) (e : CatalogFault) (s t : DiskState) → ReadAgain old new (Ok tt) s t → Asks (Err e) (ask new.names) → Does Tells ask old new (Err e) s t
does_refused Tells ask old new e s t r asks = record {
  images = asked_none ask s t r.images;
  backed = r.backed;
  answers = λ names is. let same = ok_names names new.names (begins old s) is r.names in subst (λ (n : Names). Answers Tells ask n (Err e) new.names) same (asked_answers Tells ask new.names e asks);
  kept = λ names is. inl (ok_names names new.names (begins old s) is r.names);
  only = tt;
  found = λ names is. let same = ok_names names new.names (begins old s) is r.names in inl (r.came ∙ ap (came_in old) same, r.went ∙ ap (went_in old) same);
  limit = r.limit;
}

-- the change was made
pub does_ok : {X : Type 0} (Tells : Names → Change → X → Type 0) (ask : Names → Result Change CatalogFault) (change : Change) (old mid here new : Catalogued) (n : ℕ) (x : X) (s t u : DiskState) → ReadAgain old mid (Ok tt) s t → Leaves t (seen_files t) → ask mid.names ≡ Ok change → here ≡ mid → Made change here new (Ok n) u → Tells mid.names change x
    → Does Tells ask old new (Ok x) s u
does_ok {X} Tells ask change old mid here new n x s t u r seen asks same m1 tells =
    let m : Made change mid new (Ok n) u = subst (λ (c : Catalogued). Made change c new (Ok n) u) same m1 in
    let known = r.backed.known r.sure in
    record {
      images = asked_each ask mid.names change s t u r.images seen (known_each mid.names mid.words mid.len t known) asks m.applied.images;
      backed = applied_backed change mid.names new (Ok n) u m.applied;
      answers = λ names is. subst (λ (k : Names). Answers Tells ask k (Ok x) new.names) (ok_names names mid.names (begins old s) is r.names) (change, asks, tells, m.applied.ok.0);
      kept = λ names is. tt;
      only = known_each new.names new.words new.len u (m.applied.known m.applied.ok.1);
      found = λ names is. let eq = ok_names names mid.names (begins old s) is r.names in inl (m.came ∙ r.came ∙ ap (came_in old) eq, m.went ∙ r.went ∙ ap (went_in old) eq);
      limit = m.limit ∙ r.limit;
    }

-- the disk failed in it, or memory ran out
pub does_err : {X : Type 0} (Tells : Names → Change → X → Type 0) (ask : Names → Result Change CatalogFault) (change : Change) (old mid here new : Catalogued) (e : CatalogFault) (result : Result X CatalogFault) (s t u : DiskState) → IsErr result × IsErrAnd result (λ x. x ≡ e) → ReadAgain old mid (Ok tt) s t → Leaves t (seen_files t) → ask mid.names ≡ Ok change → here ≡ mid → Made change here new (Err e) u
    → Does Tells ask old new result s u
does_err {X} Tells ask change old mid here new e result s t u is r seen asks same m1 =
    let m : Made change mid new (Err e) u = subst (λ (c : Catalogued). Made change c new (Err e) u) same m1 in
    let known = r.backed.known r.sure in
    let failed : Does Tells ask old new (Err e) s u = record {
      images = asked_each ask mid.names change s t u r.images seen (known_each mid.names mid.words mid.len t known) asks m.applied.images;
      backed = applied_backed change mid.names new (Err e) u m.applied;
      answers = λ names is. disk_answers Tells ask names new.names e m.applied.fault;
      kept = λ names is. inl (m.applied.err ∙ ok_names names mid.names (begins old s) is r.names);
      only = tt;
      found = λ names is. let eq = ok_names names mid.names (begins old s) is r.names in inl (m.came ∙ r.came ∙ ap (came_in old) eq, m.went ∙ r.went ∙ ap (went_in old) eq);
      limit = m.limit ∙ r.limit;
    } in
    subst (λ (o : Result X CatalogFault). Does Tells ask old new o s u) (sym (err_of result e is)) failed

pub does_made : (ask : Names → Result Change CatalogFault) (change : Change) (old mid here new : Catalogued) (result : Result ℕ CatalogFault) (s t u : DiskState) → ReadAgain old mid (Ok tt) s t → Leaves t (seen_files t) → ask mid.names ≡ Ok change → here ≡ mid → Made change here new result u
    → Does TellsNumber ask old new result s u
does_made ask change old mid here new (Ok n) s t u r seen asks same m = does_ok TellsNumber ask change old mid here new n n s t u r seen asks same m m.number
does_made ask change old mid here new (Err e) s t u r seen asks same m = does_err TellsNumber ask change old mid here new e (Err e) s t u (refl, refl) r seen asks same m

-- a super stream goes by the name that was asked for
pub super_name : (name : Option (List ℕ)) (holder : Option Holder) (c : Change) → deletes_super_held name holder ≡ Ok c → c.name ≡ name
super_name name None c is = absurd cc
super_name name (Some (holds.Stream number)) c is = absurd cc
super_name name (Some (holds.Part number place)) c is = absurd cc
super_name name (Some (holds.Super first parts keys)) c is = let same : delete_all first name ≡ c = cc in ap (λ (x : Change). x.name) (sym same)

pub gone_numbers : (name : Option (List ℕ)) (names : Names) (c : Change) (numbers : List ℕ) → deletes_super name names ≡ Ok c → numbers ≡ numbers_going (holder_at name names) (streams names) → TellsGone names c numbers
gone_numbers name names c numbers asks are = are ∙ ap (λ (n : Option (List ℕ)). numbers_going (holder_at n names) (streams names)) (sym (super_name name (holder_at name names) c asks))
