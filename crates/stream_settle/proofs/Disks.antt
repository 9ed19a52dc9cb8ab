-- The disks of a stream, of which one changes.
use Rattle.std.proofs.Common.{◌≡◌, ◌≢◌, ◌⊎◌, inl, inr, ℕ, zero, suc, ◌≤◌, ◌<◌, List, [], ◌∷◌, length, Option, slice_set, slice_index_or, refl, sym, ap, ◌∙◌, subst, arith, length-set}
use Rattle.std.proofs.lemmas.List.{get_or-set_same, get_or-set_other}
use Rattle.disk_calls.specs.Disk.{DiskState}
use Rattle.disk_calls.specs.Frames.{Besides, OtherStreams}
use Rattle.disk_calls.proofs.FrameLemmas.{besides_then, streams_then}
use Rattle.gated_words.specs.InHand.{InHand}
use Rattle.gated_words.specs.Files.{second_file}
use Rattle.gated_words.specs.Backing.{Backs}
use Rattle.member_stores.specs.declared.shelf.Shelf.{Shelf}
use Rattle.member_stores.specs.Shelves.{shelf_of, BackedShelf, OthersStay}
use Rattle.stream_cluster.specs.Served.{ServedState}
use Rattle.stream_settle.specs.Settles.{Around, around, IsDisk, AllInHand, DisksGo, SameStream, Ready, Goes}
use Rattle.stream_settle.proofs.Advancing.{same_then}

same_or_not : (a b : ℕ) → (a ≡ b) ⊎ (a ≢ b)
same_or_not zero zero = inl refl
same_or_not zero (suc b) = inr (λ e. cc e)
same_or_not (suc a) zero = inr (λ e. cc e)
same_or_not (suc a) (suc b) = elim (same_or_not a b) [ inl e ↦ inl (ap suc e) | inr n ↦ inr (λ e. n (cc e)) ]

any_default : {D : Type 0} (xs : List D) (i : ℕ) (d e : D) → i < length xs → slice_index_or xs i d ≡ slice_index_or xs i e
any_default [] i d e lt = absurd (omega (arith, lt))
any_default (x ∷ xs) zero d e lt = refl
any_default (x ∷ xs) (suc i) d e lt = any_default xs i d e (omega (arith, lt))

one_disk : {D : Type 0} (xs : List D) (k : ℕ) (d e : D) → IsDisk xs k d → IsDisk xs k e → d ≡ e
one_disk xs k d e a b = a.is ∙ any_default xs k d e a.there ∙ sym b.is

the_disk : {D : Type 0} (xs : List D) (k : ℕ) (d : D) → k < length xs → IsDisk xs k (slice_index_or xs k d)
the_disk xs k d lt = record { there = lt; is = any_default xs k d (slice_index_or xs k d) lt }

changed : {D : Type 0} (xs : List D) (k : ℕ) (e x : D) → IsDisk (slice_set xs k e) k x → x ≡ e
changed xs k e x a = let n = length-set xs k e in let there = a.there in a.is ∙ get_or-set_same xs k e x (omega (arith, there, n))

unchanged : {D : Type 0} (xs : List D) (k j : ℕ) (e x : D) → j ≢ k → IsDisk (slice_set xs k e) j x → IsDisk xs j x
unchanged xs k j e x apart a = let n = length-set xs k e in let there = a.there in record { there = omega (arith, there, n); is = a.is ∙ get_or-set_other xs k j e x apart }

streams_same : (stream : ℕ) (s : DiskState) → OtherStreams stream s s
streams_same stream s = record { seen = λ f apart. refl; images = λ f apart c left. left }

besides_same : (one two : _) (s : DiskState) → Besides one two s s
besides_same one two s = record { seen = λ f a b. refl; images = λ f a b c left. left }

module _ {D : Type 0} (state : D → DiskState) where
  -- nothing changes
  pub go_none : (stream : ℕ) (a : Around D) → DisksGo state stream a a
  go_none stream a = record {
    count = refl;
    id = refl;
    epochs = λ d e is at. subst (λ (x : D). Besides a.epochs.id (second_file a.epochs.id) (state d) (state x)) (one_disk a.disks 0 d e is at) (besides_same a.epochs.id (second_file a.epochs.id) (state d));
    members = λ i d e is at. subst (λ (x : D). OtherStreams stream (state d) (state x)) (one_disk a.disks (suc i) d e is at) (streams_same stream (state d));
    faults = λ k d e is at. subst (λ (x : D). (state d).faults ≤ (state x).faults) (one_disk a.disks k d e is at) (omega arith);
  }

  -- one after the other
  pub go_then : (stream : ℕ) (a b c : Around D) → DisksGo state stream a b → DisksGo state stream b c → DisksGo state stream a c
  go_then stream a b c first second =
      let n = first.count in
      record {
        count = second.count ∙ first.count;
        id = second.id ∙ first.id;
        epochs = λ d f is at. let there = is.there in let m = the_disk b.disks 0 d (omega (arith, there, n)) in
            besides_then a.epochs.id (second_file a.epochs.id) (state d) (state (slice_index_or b.disks 0 d)) (state f) (first.epochs d (slice_index_or b.disks 0 d) is m)
            (subst (λ (id : _). Besides id (second_file id) (state (slice_index_or b.disks 0 d)) (state f)) first.id (second.epochs (slice_index_or b.disks 0 d) f m at));
        members = λ i d f is at. let there = is.there in let m = the_disk b.disks (suc i) d (omega (arith, there, n)) in
            streams_then stream (state d) (state (slice_index_or b.disks (suc i) d)) (state f) (first.members i d (slice_index_or b.disks (suc i) d) is m) (second.members i (slice_index_or b.disks (suc i) d) f m at);
        faults = λ k d f is at. let there = is.there in let m = the_disk b.disks k d (omega (arith, there, n)) in
            let one = first.faults k d (slice_index_or b.disks k d) is m in let two = second.faults k (slice_index_or b.disks k d) f m at in omega (arith, one, two);
      }

  module _ (stream : ℕ) (disks : List D) (d e : D) (ep ep' : InHand) (sh sh' : List (Option Shelf)) (later : (state d).faults ≤ (state e).faults) where
    -- the coordinator's
    pub epoch_goes : 0 < length disks → d ≡ slice_index_or disks 0 d → ep'.id ≡ ep.id → Besides ep.id (second_file ep.id) (state d) (state e)
        → DisksGo state stream (around disks ep sh) (around (slice_set disks 0 e) ep' sh)
    epoch_goes lt at id others = record {
      count = length-set disks 0 e;
      id = id;
      epochs = λ x y is was. subst (λ (z : D). Besides ep.id (second_file ep.id) (state x) (state z)) (sym (changed disks 0 e y was))
          (subst (λ (z : D). Besides ep.id (second_file ep.id) (state z) (state e)) (one_disk disks 0 d x (record { there = lt; is = at }) is) others);
      members = λ i x y is was. subst (λ (z : D). OtherStreams stream (state x) (state z)) (one_disk disks (suc i) x y is (unchanged disks 0 (suc i) e y (λ b. cc b) was)) (streams_same stream (state x));
      faults = λ k x y is was. elim (same_or_not k 0) [
        | inl z ↦ subst (λ (v : D). (state x).faults ≤ (state v).faults) (sym (changed disks 0 e y (subst (λ (j : ℕ). IsDisk (slice_set disks 0 e) j y) z was)))
            (subst (λ (v : D). (state v).faults ≤ (state e).faults) (one_disk disks 0 d x (record { there = lt; is = at }) (subst (λ (j : ℕ). IsDisk disks j x) z is)) later)
        | inr n ↦ subst (λ (v : D). (state x).faults ≤ (state v).faults) (one_disk disks k x y is (unchanged disks 0 k e y n was)) (omega arith)
      ];
    }

    pub epoch_in_hand : Backs ep' (state e) → AllInHand state (around disks ep sh) → AllInHand state (around (slice_set disks 0 e) ep' sh)
    epoch_in_hand backs all = record {
      epochs = λ x was. subst (λ (z : D). Backs ep' (state z)) (sym (changed disks 0 e x was)) backs;
      shelves = λ i x was. all.shelves i x (unchanged disks 0 (suc i) e x (λ b. cc b) was);
    }

    -- a member's
    pub member_goes : (k : ℕ) → 0 < k → k < length disks → d ≡ slice_index_or disks k d → OtherStreams stream (state d) (state e)
        → DisksGo state stream (around disks ep sh) (around (slice_set disks k e) ep sh')
    member_goes k some lt at others = record {
      count = length-set disks k e;
      id = refl;
      epochs = λ x y is was. subst (λ (z : D). Besides ep.id (second_file ep.id) (state x) (state z)) (one_disk disks 0 x y is (unchanged disks k 0 e y (λ b. not_zero k some b) was)) (besides_same ep.id (second_file ep.id) (state x));
      members = λ i x y is was. elim (same_or_not (suc i) k) [
        | inl z ↦ subst (λ (v : D). OtherStreams stream (state x) (state v)) (sym (changed disks k e y (subst (λ (j : ℕ). IsDisk (slice_set disks k e) j y) z was)))
            (subst (λ (v : D). OtherStreams stream (state v) (state e)) (one_disk disks k d x (record { there = lt; is = at }) (subst (λ (j : ℕ). IsDisk disks j x) z is)) others)
        | inr n ↦ subst (λ (v : D). OtherStreams stream (state x) (state v)) (one_disk disks (suc i) x y is (unchanged disks k (suc i) e y n was)) (streams_same stream (state x))
      ];
      faults = λ j x y is was. elim (same_or_not j k) [
        | inl z ↦ subst (λ (v : D). (state x).faults ≤ (state v).faults) (sym (changed disks k e y (subst (λ (m : ℕ). IsDisk (slice_set disks k e) m y) z was)))
            (subst (λ (v : D). (state v).faults ≤ (state e).faults) (one_disk disks k d x (record { there = lt; is = at }) (subst (λ (m : ℕ). IsDisk disks m x) z is)) later)
        | inr n ↦ subst (λ (v : D). (state x).faults ≤ (state v).faults) (one_disk disks j x y is (unchanged disks k j e y n was)) (omega arith)
      ];
    }
      where
        not_zero : (k : ℕ) → 0 < k → 0 ≡ k → ⊥
        not_zero k lt e = omega (arith, lt, e)

    pub member_in_hand : (k : ℕ) → 0 < k → BackedShelf (shelf_of k sh') (state e) → OthersStay k sh sh' → AllInHand state (around disks ep sh) → AllInHand state (around (slice_set disks k e) ep sh')
    member_in_hand k some backed others all = record {
      epochs = λ x was. all.epochs x (unchanged disks k 0 e x (λ b. not_zero k some b) was);
      shelves = λ i x was. elim (same_or_not (suc i) k) [
        | inl z ↦ subst (λ (v : D). BackedShelf (shelf_of (suc i) sh') (state v)) (sym (changed disks k e x (subst (λ (j : ℕ). IsDisk (slice_set disks k e) j x) z was))) (subst (λ (j : ℕ). BackedShelf (shelf_of j sh') (state e)) (sym z) backed)
        | inr n ↦ subst (λ (v : Option Shelf). BackedShelf v (state x)) (sym (others (suc i) n)) (all.shelves i x (unchanged disks k (suc i) e x n was))
      ];
    }
      where
        not_zero : (k : ℕ) → 0 < k → 0 ≡ k → ⊥
        not_zero k lt e = omega (arith, lt, e)

module _ {D : Type 0} (tells : Type 0) (state : D → DiskState) (Way : ServedState → ServedState → Type 0) where
  -- nothing was done
  pub goes_none : (s t : ServedState) (a : Around D) → Way s t → SameStream s t → (tells → AllInHand state a) → Goes tells state Way s t a a
  goes_none s t a way same in_hand = record { way = way; same = same; disks = go_none state s.number a; in_hand = in_hand }

  -- one part behind another
  pub goes_then : ((p q r : ServedState) → Way p q → Way q r → Way p r) → (p q r : ServedState) (a b c : Around D) → Goes tells state Way p q a b → Goes tells state Way q r b c → Goes tells state Way p r a c
  goes_then join p q r a b c first second = record {
    way = join p q r first.way second.way;
    same = same_then p q r first.same second.same;
    disks = go_then state p.number a b c first.disks (subst (λ (n : ℕ). DisksGo state n b c) first.same.number second.disks);
    in_hand = second.in_hand;
  }

  -- a part more may follow
  pub ready_then : (s t : ServedState) (a b : Around D) → Ready tells state s a → Goes tells state Way s t a b → Ready tells state t b
  ready_then s t a b ready goes = record {
    few = let few = ready.few in let seats = goes.same.seats in omega (arith, few, seats);
    in_hand = goes.in_hand;
  }

-- another way of the same part
pub goes_as : {D : Type 0} (tells : Type 0) (state : D → DiskState) (Way Other : ServedState → ServedState → Type 0) (s t : ServedState) (a b : Around D) → (Way s t → Other s t) → Goes tells state Way s t a b → Goes tells state Other s t a b
goes_as tells state Way Other s t a b as_is goes = record { way = as_is goes.way; same = goes.same; disks = goes.disks; in_hand = goes.in_hand }

-- a part over no disk behind one
pub goes_on : {D : Type 0} (tells : Type 0) (state : D → DiskState) (Way : ServedState → ServedState → Type 0) → ((p q r : ServedState) → Way p q → Way q r → Way p r)
    → (s t u : ServedState) (a b : Around D) → Goes tells state Way s t a b → Way t u → SameStream t u → Goes tells state Way s u a b
goes_on tells state Way join s t u a b goes way same = record { way = join s t u goes.way way; same = same_then s t u goes.same same; disks = goes.disks; in_hand = goes.in_hand }

-- disks that go on, behind others
pub disks_join : {D : Type 0} (state : D → DiskState) (n m : ℕ) (a b c : Around D) → m ≡ n → DisksGo state n a b → DisksGo state m b c → DisksGo state n a c
disks_join state n m a b c e first second = go_then state n a b c first (subst (λ (k : ℕ). DisksGo state k b c) e second)
