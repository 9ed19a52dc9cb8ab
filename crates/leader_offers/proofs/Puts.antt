-- A chunk is put, and a snapshot behind it.
use Rattle.std.proofs.Common.{◌≡◌, ℕ, ◌+◌, ◌^◌, ◌<◌, ◌≤◌, Bool, true, false, cond, List, [], ◌∷◌, ◌++◌, length, Result, Ok, Err, OnOk, IfErr, refl, sym, ap, subst, ◌∙◌, arith}
use Rattle.std.specs.Prelude.{ℤ, pos, nat_lt, ◌==◌}
use Rattle.std.specs.Int.{w64}
use Rattle.std.specs.Int.RustNames.{FitsSigned}
use Rattle.std.specs.List.{AllByRecursion}
use Rattle.std.proofs.lemmas.List.Elements.{All-cons, All-nil, All-head}
use Rattle.std.proofs.Common.{to_z, of_z}
use Rattle.std.proofs.lemmas.Int.{to_z-of_z}
use Rattle.chunk_format.specs.declared.entry.Entry.{Entry}
use Rattle.chunk_format.specs.declared.chunk.Chunk.{Chunk}
use Rattle.chunk_format.specs.declared.chunk.ChunkKind.{ChunkKind}
use Rattle.chunk_format.specs.declared.chunk.ChunkKind.TheVariants.{User, Delta, Snapshot}
use Rattle.chunk_format.specs.Chunks.{IsEntry, IsChunk, end_of_chunk}
use Rattle.chunk_format.specs.Logs.{end_of, opening_chunk}
use Rattle.chunk_format.specs.ByName.{snapshot_body, snapshot_entry_of}
use Rattle.epoch_coordinator.specs.Members.{MemberState, sequence_of}
use Rattle.epoch_coordinator.specs.MemberSteps.{offered, stamp_at}
use Rattle.epoch_coordinator.specs.Offers.{offset_chunk, since_snapshot, snapshot_every, with_snapshot}
use Rattle.leader_offers.specs.declared.put.Stop.{Stop}
use Rattle.leader_offers.specs.declared.put.Stop.TheVariants as stops
use Rattle.leader_offers.specs.Adds.{HasRoom, HasRoomBy}
use Rattle.leader_offers.specs.Leads.{Leads, Behind, Put, WhyStopped, chunk_with}
use Rattle.leader_offers.proofs.Lines.{one_behind, both_behind}

room_by : (k : ChunkKind) (c : Chunk) → (k ≡ Snapshot → ⊥) → HasRoomBy k c → IsChunk c
room_by User c not room = room
room_by Delta c not room = room
room_by Snapshot c not room = absurd (not refl)

spelled_by : (k : ChunkKind) (c : Chunk) → (k ≡ Snapshot → ⊥) → IsChunk c → HasRoomBy k c
spelled_by User c not is = is
spelled_by Delta c not is = is
spelled_by Snapshot c not is = absurd (not refl)

pub put_one : (m : MemberState) (c : Chunk) → Leads m → (c.kind ≡ Snapshot → ⊥) → IsChunk c → Put m (c ∷ []) (offered c m)
put_one m c l not is = (one_behind m c l, (spelled_by c.kind c not is, tt))

pub no_room : (c : Chunk) → (c.kind ≡ Snapshot → ⊥) → (IsChunk c → ⊥) → AllByRecursion HasRoom (c ∷ []) → ⊥
no_room c not none room = none (room_by c.kind c not room.0)

-- ---- a snapshot

opening_end : (epoch : ℕ) (stamp : ℤ) (chunks : List Chunk) → end_of_chunk (opening_chunk epoch stamp chunks) ≡ end_of chunks + 1
opening_end epoch stamp chunks = refl

pub put_opening : (m : MemberState) (stamp : ℤ) → Leads m → end_of (sequence_of m) + 1 < 2 ^ 64 → length (snapshot_body (sequence_of m)) < 2 ^ 31
    → Put m (opening_chunk m.promise stamp (sequence_of m) ∷ []) (offered (opening_chunk m.promise stamp (sequence_of m)) m)
put_opening m stamp l end len =
    let c = opening_chunk m.promise stamp (sequence_of m) in
    let last = opening_end m.promise stamp (sequence_of m) in
    (one_behind m c l, ((All-cons IsEntry (snapshot_entry_of (sequence_of m)) [] len (All-nil IsEntry), omega (arith, last, end)), tt))

pub no_end : (epoch : ℕ) (stamp : ℤ) (chunks : List Chunk) → 2 ^ 64 ≤ end_of chunks + 1 → AllByRecursion HasRoom (opening_chunk epoch stamp chunks ∷ []) → ⊥
no_end epoch stamp chunks past room = let last = opening_end epoch stamp chunks in let inside = room.0.1 in absurd (omega (arith, last, past, inside))

pub no_entry : (epoch : ℕ) (stamp : ℤ) (chunks : List Chunk) → 2 ^ 31 ≤ length (snapshot_body chunks) → AllByRecursion HasRoom (opening_chunk epoch stamp chunks ∷ []) → ⊥
no_entry epoch stamp chunks past room = let few : length (snapshot_body chunks) < 2 ^ 31 = All-head IsEntry (snapshot_entry_of chunks) [] room.0.0 in absurd (omega (arith, past, few))

-- ---- both

alone : (sequence : List Chunk) (c : Chunk) → (since_snapshot (sequence ++ c ∷ []) == snapshot_every) ≡ false → with_snapshot sequence c ≡ c ∷ []
alone sequence c is = ap (λ (b : Bool). cond b (c ∷ opening_chunk c.epoch c.stamp (sequence ++ c ∷ []) ∷ []) (c ∷ [])) is

followed : (sequence : List Chunk) (c : Chunk) → (since_snapshot (sequence ++ c ∷ []) == snapshot_every) ≡ true → with_snapshot sequence c ≡ c ∷ opening_chunk c.epoch c.stamp (sequence ++ c ∷ []) ∷ []
followed sequence c is = ap (λ (b : Bool). cond b (c ∷ opening_chunk c.epoch c.stamp (sequence ++ c ∷ []) ∷ []) (c ∷ [])) is

not_every : (n : ℕ) → (n ≡ 1024 → ⊥) → (n == 1024) ≡ false
not_every n not = grind (arith, not)

every : (n : ℕ) → n ≡ 1024 → (n == 1024) ≡ true
every n is = grind (arith, is)

pub put_alone : (m n : MemberState) (c : Chunk) (since : ℕ) → Put m (c ∷ []) n → since ≡ since_snapshot (sequence_of n) → (since ≡ 1024 → ⊥) → Put m (with_snapshot (sequence_of m) c) n
put_alone m n c since p is not =
    let count : since_snapshot (sequence_of m ++ c ∷ []) ≡ since = ap since_snapshot (sym p.0.sequence) ∙ sym is in
    subst (λ (x : List Chunk). Put m x n) (sym (alone (sequence_of m) c (not_every (since_snapshot (sequence_of m ++ c ∷ [])) (λ e. not (sym count ∙ e))))) p

-- the snapshot that follows is that of the sequence with the chunk
opening_same : (m n : MemberState) (c : Chunk) → Behind m (c ∷ []) n → c.epoch ≡ m.promise → opening_chunk n.promise c.stamp (sequence_of n) ≡ opening_chunk c.epoch c.stamp (sequence_of m ++ c ∷ [])
opening_same m n c b epoch = ap (λ (e : ℕ). opening_chunk e c.stamp (sequence_of n)) (b.promise_is ∙ sym epoch) ∙ ap (opening_chunk c.epoch c.stamp) b.sequence

both_are : (m n : MemberState) (c : Chunk) (since : ℕ) → Behind m (c ∷ []) n → c.epoch ≡ m.promise → since ≡ since_snapshot (sequence_of n) → since ≡ 1024 → c ∷ opening_chunk n.promise c.stamp (sequence_of n) ∷ [] ≡ with_snapshot (sequence_of m) c
both_are m n c since b epoch is now =
    let count : since_snapshot (sequence_of m ++ c ∷ []) ≡ 1024 = ap since_snapshot (sym b.sequence) ∙ sym is ∙ now in
    ap (λ (x : Chunk). c ∷ x ∷ []) (opening_same m n c b epoch) ∙ sym (followed (sequence_of m) c (every (since_snapshot (sequence_of m ++ c ∷ [])) count))

pub put_both : (m n o : MemberState) (c : Chunk) (stamp : ℤ) (since : ℕ) → Put m (c ∷ []) n → c.epoch ≡ m.promise → stamp ≡ c.stamp → since ≡ since_snapshot (sequence_of n) → since ≡ 1024 → Put n (opening_chunk n.promise stamp (sequence_of n) ∷ []) o
    → Put m (with_snapshot (sequence_of m) c) o
put_both m n o c stamp since p epoch stamp_is is now q =
    let q' : Put n (opening_chunk n.promise c.stamp (sequence_of n) ∷ []) o = subst (λ (s : ℤ). Put n (opening_chunk n.promise s (sequence_of n) ∷ []) o) stamp_is q in
    let joined : Put m (c ∷ opening_chunk n.promise c.stamp (sequence_of n) ∷ []) o = (both_behind m n o (c ∷ []) (opening_chunk n.promise c.stamp (sequence_of n) ∷ []) p.0 q'.0, (p.1.0, q'.1)) in
    subst (λ (x : List Chunk). Put m x o) (both_are m n c since p.0 epoch is now) joined

-- what stopped one chunk stops both
by_first : (s : Stop) (c : Chunk) (more : List Chunk) → WhyStopped (c ∷ []) s → WhyStopped (c ∷ more) s
by_first stops.Large c more why = λ room. why (room.0, tt)
by_first stops.Memory c more why = tt

first_with : (sequence : List Chunk) (c : Chunk) (s : Stop) → WhyStopped (c ∷ []) s → (b : Bool) → WhyStopped (cond b (c ∷ opening_chunk c.epoch c.stamp (sequence ++ c ∷ []) ∷ []) (c ∷ [])) s
first_with sequence c s why true = by_first s c (opening_chunk c.epoch c.stamp (sequence ++ c ∷ []) ∷ []) why
first_with sequence c s why false = why

pub stopped_first : (sequence : List Chunk) (c : Chunk) (s : Stop) → WhyStopped (c ∷ []) s → WhyStopped (with_snapshot sequence c) s
stopped_first sequence c s why = first_with sequence c s why (since_snapshot (sequence ++ c ∷ []) == snapshot_every)

by_second : (s : Stop) (c d : Chunk) → WhyStopped (d ∷ []) s → WhyStopped (c ∷ d ∷ []) s
by_second stops.Large c d why = λ room. why room.1
by_second stops.Memory c d why = tt

pub stopped_second : (m n : MemberState) (c : Chunk) (stamp : ℤ) (since : ℕ) (s : Stop) → Put m (c ∷ []) n → c.epoch ≡ m.promise → stamp ≡ c.stamp → since ≡ since_snapshot (sequence_of n) → since ≡ 1024 → WhyStopped (opening_chunk n.promise stamp (sequence_of n) ∷ []) s
    → WhyStopped (with_snapshot (sequence_of m) c) s
stopped_second m n c stamp since s p epoch stamp_is is now why =
    let why' : WhyStopped (opening_chunk n.promise c.stamp (sequence_of n) ∷ []) s = subst (λ (x : ℤ). WhyStopped (opening_chunk n.promise x (sequence_of n) ∷ []) s) stamp_is why in
    subst (λ (x : List Chunk). WhyStopped x s) (both_are m n c since p.0 epoch is now) (by_second s c (opening_chunk n.promise c.stamp (sequence_of n)) why')

-- ---- as the code has it

pub opening_put : (m same new : MemberState) (stamp sent : ℤ) (end len : ℕ) → sent ≡ stamp → Leads m → same ≡ m → end ≡ end_of (sequence_of m) → len ≡ length (snapshot_body (sequence_of m)) → end < 2 ^ 64 → (end ≡ 18446744073709551615 → ⊥) → len ≤ 2147483647
    → new ≡ offered (opening_chunk same.promise sent (sequence_of same)) same → Put m (opening_chunk m.promise stamp (sequence_of m) ∷ []) new
opening_put m same new stamp sent end len sent_is l is end_is len_is bound not few state =
    let there : end + 1 < 2 ^ 64 = last end bound not in
    subst (Put m (opening_chunk m.promise stamp (sequence_of m) ∷ [])) (sym (state ∙ ap (λ (s : ℤ). offered (opening_chunk same.promise s (sequence_of same)) same) sent_is ∙ ap (λ (x : MemberState). offered (opening_chunk x.promise stamp (sequence_of x)) x) is))
    (put_opening m stamp l (omega (arith, there, end_is)) (omega (arith, few, len_is)))
  where
    last : (n : ℕ) → n < 2 ^ 64 → (n ≡ 18446744073709551615 → ⊥) → n + 1 < 2 ^ 64
    last n bound not = grind (arith, bound, not)

pub stamp_fits : (m n : MemberState) (c : Chunk) → Put m (c ∷ []) n → (c.kind ≡ Snapshot → ⊥) → FitsSigned w64 c.stamp
stamp_fits m n c p not = (room_by c.kind c not p.1.0).stamp_fits

pub both_put : (r : Result (Unit {0}) Stop) (m n o : MemberState) (c : Chunk) (stamp : ℤ) (since : ℕ) → stamp ≡ c.stamp → Put m (c ∷ []) n → c.epoch ≡ m.promise → since ≡ since_snapshot (sequence_of n) → since ≡ 1024 → OnOk r (Put n (opening_chunk n.promise stamp (sequence_of n) ∷ []) o)
    → OnOk r (Put m (with_snapshot (sequence_of m) c) o)
both_put (Ok u) m n o c stamp since same p epoch is now q = put_both m n o c stamp since p epoch same is now q
both_put (Err s) m n o c stamp since same p epoch is now q = tt

pub both_stopped : (r : Result (Unit {0}) Stop) (m n : MemberState) (c : Chunk) (stamp : ℤ) (since : ℕ) → stamp ≡ c.stamp → Put m (c ∷ []) n → c.epoch ≡ m.promise → since ≡ since_snapshot (sequence_of n) → since ≡ 1024 → IfErr r (WhyStopped (opening_chunk n.promise stamp (sequence_of n) ∷ []))
    → IfErr r (WhyStopped (with_snapshot (sequence_of m) c))
both_stopped (Ok u) m n c stamp since same p epoch is now why = tt
both_stopped (Err s) m n c stamp since same p epoch is now why = stopped_second m n c stamp since s p epoch same is now why

pub moment_fits : (now : ℕ) → FitsSigned w64 (stamp_at now)
moment_fits now = by (nat_lt 9223372036854775807 now) refl
  where
    by : (b : Bool) → nat_lt 9223372036854775807 now ≡ b → FitsSigned w64 (pos (cond b 9223372036854775807 now))
    by true is = omega arith
    by false is = grind (arith, is)

-- ---- chunks that are made

pub user_not : (k : ChunkKind) → k ≡ User → k ≡ Snapshot → ⊥
user_not k is other = let both : User ≡ Snapshot = sym is ∙ other in absurd cc

pub delta_not : (k : ChunkKind) → k ≡ Delta → k ≡ Snapshot → ⊥
delta_not k is other = let both : Delta ≡ Snapshot = sym is ∙ other in absurd cc

pub chunk_is : (c : Chunk) (epoch : ℕ) (stamp : ℤ) (first : ℕ) (entries : List Entry) (trailer : List ℕ) → c.kind ≡ User → c.epoch ≡ epoch → c.stamp ≡ stamp → c.first ≡ first → c.entries ≡ entries → c.trailer ≡ trailer → c ≡ chunk_with epoch stamp first entries trailer
chunk_is c epoch stamp first entries trailer k e s f es t =
    ap (λ (x : ChunkKind). record { kind = x; stamp = c.stamp; epoch = c.epoch; first = c.first; entries = c.entries; trailer = c.trailer }) k
    ∙ ap (λ (x : ℕ). chunk_with x c.stamp c.first c.entries c.trailer) e
    ∙ ap (λ (x : ℤ). chunk_with epoch x c.first c.entries c.trailer) s
    ∙ ap (λ (x : ℕ). chunk_with epoch stamp x c.entries c.trailer) f
    ∙ ap (λ (x : List Entry). chunk_with epoch stamp first x c.trailer) es
    ∙ ap (λ (x : List ℕ). chunk_with epoch stamp first entries x) t

pub offset_is : (c : Chunk) (epoch epoch' : ℕ) (sent stamp : ℤ) (name : List ℕ) (offset first first' : ℕ) → c ≡ offset_chunk epoch sent name offset first → epoch ≡ epoch' → sent ≡ stamp → first ≡ first' → c ≡ offset_chunk epoch' stamp name offset first'
offset_is c epoch epoch' sent stamp name offset first first' is e s f =
    is ∙ ap (λ (x : ℕ). offset_chunk x sent name offset first) e ∙ ap (λ (x : ℤ). offset_chunk epoch' x name offset first) s ∙ ap (λ (x : ℕ). offset_chunk epoch' stamp name offset x) f

pub ok_with : (r : Result (Unit {0}) Stop) (m n : MemberState) (c d : Chunk) → c ≡ d → OnOk r (Put m (with_snapshot (sequence_of m) c) n) → OnOk r (Put m (with_snapshot (sequence_of m) d) n)
ok_with r m n c d is p = subst (λ (x : Chunk). OnOk r (Put m (with_snapshot (sequence_of m) x) n)) is p

pub stopped_with : (r : Result (Unit {0}) Stop) (m : MemberState) (c d : Chunk) → c ≡ d → IfErr r (WhyStopped (with_snapshot (sequence_of m) c)) → IfErr r (WhyStopped (with_snapshot (sequence_of m) d))
stopped_with r m c d is p = subst (λ (x : Chunk). IfErr r (WhyStopped (with_snapshot (sequence_of m) x))) is p

pub sent_stamp : (now : ℕ) (stamp : ℤ) → stamp ≡ stamp_at now → to_z w64 (of_z w64 stamp) ≡ stamp_at now
sent_stamp now stamp is = to_z-of_z w64 stamp (subst (FitsSigned w64) (sym is) (moment_fits now)) ∙ is
