-- What is tracked of a list that goes on.
use Rattle.std.proofs.Common.{◌≡◌, ℕ, zero, suc, ◌≤◌, List, [], ◌∷◌, ◌++◌, length, take, length-append, refl, sym, ap, subst, ◌∙◌, arith}
use Rattle.frame_wire.specs.declared.limits.Limits.{Limits}
use Rattle.chunk_format.specs.declared.chunk.Chunk.{Chunk}
use Rattle.chunk_format.specs.Logs.{GoesOn}
use Rattle.tracking_state.specs.Tracked.{Tracked, tracked_of}
use Rattle.epoch_coordinator.specs.Members.{MemberState}
use Rattle.member_core.specs.Kept.{IsKnown}
use Rattle.stream_passes.specs.Parts.{PassesState}
use Rattle.cluster_core.specs.States.{ReplicaState}
use Rattle.stream_cluster.specs.Served.{ServedState, served}
use Rattle.stream_cluster.specs.Takes.{led_by}

pub known_none : (list : List Chunk) (count : ℕ) (tracking : Tracked) → count ≡ 0 → tracking ≡ tracked_of [] → IsKnown list count tracking
known_none list count tracking none is = record { within = omega (arith, none); tracks = is ∙ ap (λ (n : ℕ). tracked_of (take n list)) (sym none) }

take_front : (n : ℕ) (a b : List Chunk) → n ≤ length a → take n (a ++ b) ≡ take n a
take_front zero a b le = refl
take_front (suc n) [] b le = absurd (omega (arith, le))
take_front (suc n) (c ∷ a) b le = ap (λ (l : List Chunk). c ∷ l) (take_front n a b (omega (arith, le)))

known_behind : (list more : List Chunk) (count : ℕ) (tracking : Tracked) → IsKnown list count tracking → IsKnown (list ++ more) count tracking
known_behind list more count tracking k =
    let within = k.within in
    let longer = length-append list more in
    record { within = omega (arith, within, longer); tracks = k.tracks ∙ ap tracked_of (sym (take_front count list more k.within)) }

-- over an event
pub known_on : (limits : Limits) (r : ReplicaState) (p : PassesState) (old : ServedState) (list : List Chunk) (count : ℕ) (tracking : Tracked) → served limits r p ≡ old → IsKnown r.cluster.committed count tracking → GoesOn old.state.cluster.committed list → IsKnown list count tracking
known_on limits r p old list count tracking view k g =
    let here : list ≡ r.cluster.committed ++ g.0 = g.1 ∙ ap (λ (s : ServedState). s.state.cluster.committed ++ g.0) (sym view) in
    subst (λ (l : List Chunk). IsKnown l count tracking) (sym here) (known_behind r.cluster.committed g.0 count tracking k)

-- over an offer
pub known_led : (r r' : ReplicaState) (m : MemberState) (count : ℕ) (tracking : Tracked) → r' ≡ led_by m r → IsKnown r.cluster.committed count tracking → IsKnown r'.cluster.committed count tracking
known_led r r' m count tracking is k = subst (λ (x : ReplicaState). IsKnown x.cluster.committed count tracking) (sym is) k
