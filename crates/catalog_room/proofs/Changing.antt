-- A change of the catalog as the lock's value tells it.
use Rattle.std.proofs.Common.{◌≡◌, ◌⊎◌, inl, inr, ℕ, Bool, true, false, Result, Ok, Err, if◌then◌else◌, refl, sym, ap, subst, ◌∙◌}
use Rattle.std.specs.Prelude.{IsTrue, OnOk, OnErr}
use Rattle.disk_calls.specs.Disk.{DiskState}
use Rattle.stream_catalog.specs.declared.change.Change.{Change}
use Rattle.stream_catalog.specs.declared.fault.CatalogFault.{CatalogFault}
use Rattle.stream_catalog.specs.declared.fault.CatalogFault.TheVariants as fault
use Rattle.stream_catalog.specs.Names.{Names}
use Rattle.stream_catalog.specs.Rules.{changed, after}
use Rattle.stream_catalog.specs.Files.{CatalogFiles, Leaves, seen_files, catalog_of}
use Rattle.stream_catalog.specs.InHand.{Catalogued, Backed, ShowsOr, Does, Answers, begins}
use Rattle.stream_catalog.proofs.Recording.{known_each}
use Rattle.hub_terms.specs.declared.terms.HubDid.{HubDid}
use Rattle.hub_terms.specs.Tables.{Rule, code_of}
use Rattle.catalog_room.specs.Rooms.{Room, told_as, damages_after, NamesBy, IfDone, RoomDoes}

-- ---- with what a change begins

near_names : (names : Names) (failed : Change) (files : CatalogFiles) → ShowsOr names failed files → (start : Names) × (catalog_of files ≡ Ok start)
near_names names failed files (inl old) = (names, old.reads)
near_names names failed files (inr new) = (changed failed names, new.reads)

-- the names with which a change begins, in hand and on the disk
record Begun (c : Catalogued) (s : DiskState) : Type 0 where
  pub start : Names
  pub is_start : begins c s ≡ Ok start
  pub reads : catalog_of (seen_files s) ≡ Ok start
  pub in_hand : IsTrue c.sure → start ≡ c.names

begun_by : (sure : Bool) (names : Names) (read : Result Names ℕ) → (sure ≡ true → read ≡ Ok names) → (start : Names) × (read ≡ Ok start) → (start : Names) × ((if sure then Ok names else read) ≡ Ok start) × (read ≡ Ok start) × (sure ≡ true → start ≡ names)
begun_by true names read known found = (names, refl, known refl, λ e. refl)
begun_by false names read known found = (found.0, found.1, found.1, λ e. absurd cc)

-- where the files belong to the catalog in hand there are such names
begun : (c : Catalogued) (s : DiskState) → Leaves s (seen_files s) → Backed c s → Begun c s
begun c s seen b =
    let found = begun_by c.sure c.names (catalog_of (seen_files s)) (λ sure. (known_each c.names c.words c.len s (b.known sure) (seen_files s) seen).reads) (near_names c.names b.near.0 (seen_files s) (b.near.1 (seen_files s) seen)) in
    record { start = found.0; is_start = found.1; reads = found.2; in_hand = found.3 }

-- ---- what is told

names_by : {X : Type 0} (Tells : Names → Change → X → Type 0) (ask : Rule) (result : Result X CatalogFault) (old start new : Names) → Answers Tells ask start result new → OnErr result ((new ≡ start) ⊎ (new ≡ old)) → NamesBy ask old start (told_as result) new
names_by Tells ask (Ok x) old start new a kept = (sym (ap code_of a.1), refl, a.3 ∙ sym (ap (λ (r : Result Change CatalogFault). after r start) a.1))
names_by Tells ask (Err fault.Missing) old start new a kept = (sym (ap code_of a.0), refl, a.1 ∙ sym (ap (λ (r : Result Change CatalogFault). after r start) a.0))
names_by Tells ask (Err fault.Exists) old start new a kept = (sym (ap code_of a.0), refl, a.1 ∙ sym (ap (λ (r : Result Change CatalogFault). after r start) a.0))
names_by Tells ask (Err (fault.Refused why)) old start new a kept = (sym (ap code_of a.0), refl, a.1 ∙ sym (ap (λ (r : Result Change CatalogFault). after r start) a.0))
names_by Tells ask (Err fault.Disk) old start new a kept = kept
names_by Tells ask (Err (fault.Damaged place)) old start new a kept = absurd a
names_by Tells ask (Err fault.Memory) old start new a kept = kept

done_by : {X : Type 0} (P : Type 0) (result : Result X CatalogFault) → OnOk result P → IfDone (told_as result) P
done_by P (Ok x) p = p
done_by P (Err fault.Missing) p = tt
done_by P (Err fault.Exists) p = tt
done_by P (Err (fault.Refused why)) p = tt
done_by P (Err fault.Disk) p = tt
done_by P (Err (fault.Damaged place)) p = tt
done_by P (Err fault.Memory) p = tt

pub told_does : {X : Type 0} (Tells : Names → Change → X → Type 0) (ask : Rule) (old new : Catalogued) (result : Result X CatalogFault) (s t : DiskState) → Leaves s (seen_files s) → Backed old s → Does Tells ask old new result s t → RoomDoes ask old new (told_as result) s t
told_does Tells ask old new result s t seen backed d =
    let b = begun old s seen backed in
    record {
      start = b.start;
      reads = b.reads;
      in_hand = b.in_hand;
      names = names_by Tells ask result old.names b.start new.names (d.answers b.start b.is_start) (d.kept b.start b.is_start);
      images = d.images;
      done = done_by _ result d.only;
      limit = d.limit;
    }

undamaged_by : {X : Type 0} (Tells : Names → Change → X → Type 0) (ask : Rule) (result : Result X CatalogFault) (start new : Names) (n : ℕ) → Answers Tells ask start result new → damages_after result n ≡ n
undamaged_by Tells ask (Ok x) start new n a = refl
undamaged_by Tells ask (Err fault.Missing) start new n a = refl
undamaged_by Tells ask (Err fault.Exists) start new n a = refl
undamaged_by Tells ask (Err (fault.Refused why)) start new n a = refl
undamaged_by Tells ask (Err fault.Disk) start new n a = refl
undamaged_by Tells ask (Err (fault.Damaged place)) start new n a = absurd a
undamaged_by Tells ask (Err fault.Memory) start new n a = refl

-- files that belong to the catalog in hand are never found damaged
pub undamaged : {X : Type 0} (Tells : Names → Change → X → Type 0) (ask : Rule) (old new : Catalogued) (result : Result X CatalogFault) (s t : DiskState) (n : ℕ) → Leaves s (seen_files s) → Backed old s → Does Tells ask old new result s t → damages_after result n ≡ n
undamaged Tells ask old new result s t n seen backed d = let b = begun old s seen backed in undamaged_by Tells ask result b.start new.names n (d.answers b.start b.is_start)

-- ---- the same of the whole value, which is what the lock's value is seen as

pub room_does : {D X : Type 0} (state : D → DiskState) (rule : Room D → Rule) (Tells : Names → Change → X → Type 0) (r a : Room D) (new : Catalogued) (disk : D) (result : Result X CatalogFault) (did : HubDid) → r ≡ a → did ≡ told_as result → Leaves (state r.disk) (seen_files (state r.disk)) → Backed r.catalog (state r.disk)
    → Does Tells (rule r) r.catalog new result (state r.disk) (state disk) → RoomDoes (rule a) a.catalog new did (state a.disk) (state disk)
room_does {D} state rule Tells r a new disk result did is did_is seen backed d =
    subst (λ (x : Room D). RoomDoes (rule x) x.catalog new did (state x.disk) (state disk)) is
    (subst (λ (e : HubDid). RoomDoes (rule r) r.catalog new e (state r.disk) (state disk)) (sym did_is) (told_does Tells (rule r) r.catalog new result (state r.disk) (state disk) seen backed d))

pub room_undamaged : {D X : Type 0} (state : D → DiskState) (rule : Room D → Rule) (Tells : Names → Change → X → Type 0) (r a : Room D) (new : Catalogued) (disk : D) (result : Result X CatalogFault) (now : ℕ) → r ≡ a → now ≡ damages_after result r.damages → Leaves (state r.disk) (seen_files (state r.disk)) → Backed r.catalog (state r.disk)
    → Does Tells (rule r) r.catalog new result (state r.disk) (state disk) → now ≡ a.damages
room_undamaged {D} state rule Tells r a new disk result now is now_is seen backed d = now_is ∙ undamaged Tells (rule r) r.catalog new result (state r.disk) (state disk) r.damages seen backed d ∙ ap (λ (x : Room D). x.damages) is
