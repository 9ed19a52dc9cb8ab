-- Messages come to their receivers.
use Rattle.std.proofs.Common.{◌≡◌, ◌<◌, ◌+◌, ℕ, suc, Bool, true, false, cond, nat_lt, List, [], ◌∷◌, ◌++◌, length, Option, Some, None, position, slice_set, slice_index_or, refl, sym, ap, subst, ◌∙◌, arith}
use Rattle.std.specs.List.{position_or_len}
use Rattle.std.proofs.lemmas.Grind.{common_steps}
use Rattle.std.proofs.lemmas.List.{length-map}
use Rattle.chunk_format.specs.declared.chunk.Chunk.{Chunk}
use Rattle.epoch_coordinator.specs.declared.message.Sent.{Sent}
use Rattle.epoch_coordinator.specs.MemberSteps.{taken, commit_end}
use Rattle.epoch_coordinator.specs.Coordinators.{CoordinatorState}
use Rattle.replication_laws.specs.Cluster.{ClusterState, Seat, Letter, nobody, member, numbered, letter_in, marked}
use Rattle.replication_laws.specs.Events.{comes, to_coordinator}
use Rattle.cluster_core.specs.declared.mail.Numbered.{Numbered}
use Rattle.cluster_core.specs.Parts.{letter_of, lettered, has_number, delivered_at, did_mail, extended}
use Rattle.cluster_core.specs.Up.{is_up, has_job}
use Rattle.cluster_core.specs.States.{ReplicaState, IsStream, cluster_of, state_of, coordinator_of, told_by}
use Rattle.cluster_core.specs.Kept.{At, ahead_at, delivered_by, after_deliver}
use Rattle.cluster_core.proofs.Letters.{letter_at, marked_at}
use Rattle.cluster_core.proofs.Deliveries.{taken_is, hears_is}
use Rattle.stream_cluster.specs.Seats.{in_seat}
use Rattle.stream_cluster.specs.Letters.{is_numbered, ComesTo}
use Rattle.stream_cluster.proofs.Finds.{item_at}
use Rattle.stream_cluster.proofs.Doings.{of_cluster, with_cluster, same_parts}

-- ---- places

first_at : (number : ℕ) (mail : List Numbered) → position_or_len (is_numbered number) (lettered mail) ≡ position_or_len (has_number number) mail
first_at number [] = refl
first_at number (x ∷ mail) = grind (arith, common_steps, first_at number mail)

pub found_at : (number : ℕ) (mail : List Numbered) → position (is_numbered number) (lettered mail) ≡ position (has_number number) mail
found_at number mail =
    ap (λ (k : ℕ). cond {A = Option ℕ} (nat_lt k (length (lettered mail))) (Some k) None) (first_at number mail)
    ∙ ap (λ (n : ℕ). cond {A = Option ℕ} (nat_lt (position_or_len (has_number number) mail) n) (Some (position_or_len (has_number number) mail)) None) (length-map mail letter_of)

-- the message at the place that was found
found : (number place : ℕ) (mail : List Numbered) (n : Numbered) → position (is_numbered number) (lettered mail) ≡ Some place → n ≡ slice_index_or mail place n → letter_in number (lettered mail) ≡ Some n.sent
found number place mail n at is = letter_at number mail place n (sym (found_at number mail) ∙ at) is

pub comes_to : (number place : ℕ) (mail : List Numbered) (n : Numbered) → position (has_number number) mail ≡ Some place → n ≡ slice_index_or mail place n → ComesTo number place n.sent.to (lettered mail)
comes_to number place mail n at is = record { at = found_at number mail ∙ at; sent = n.sent; is = letter_at number mail place n at is; goes = refl }

same_sent : (a b : Sent) (o : Option Sent) → o ≡ Some a → o ≡ Some b → a ≡ b
same_sent a b o e f = cc (sym e ∙ f)

-- what is delivered
comes_as : (number place to now : ℕ) (mail : List Numbered) (n : Numbered) (w : ClusterState) → w.mail ≡ lettered mail → ComesTo number place to (lettered mail) → n ≡ slice_index_or mail place n
    → delivered_by (letter_in number (lettered mail)) number now w ≡ comes now to n.sent.message (record w { mail = marked number w.mail })
comes_as number place to now mail n w mail_is c is =
    let there = found number place mail n c.at is in
    let goes : n.sent.to ≡ to = ap (λ (s : Sent). s.to) (same_sent n.sent c.sent (letter_in number (lettered mail)) there c.is) ∙ c.goes in
    ap (λ (o : Option Sent). delivered_by o number now w) there ∙ ap (λ (k : ℕ). comes now k n.sent.message (record w { mail = marked number w.mail })) goes

-- ---- a member

pub taken_at : (seats seats' : List Seat) (up : Bool) (c : CoordinatorState) (mail mail' : List Numbered) (last last' : ℕ) (committed committed' ahead : List Chunk) (numbers : List ℕ) (now number place i end : ℕ) (sent : List Sent) (n : Numbered)
    → IsStream (cluster_of seats up c mail last committed) → is_up (cluster_of seats up c mail last committed) (suc i) ≡ true → has_job (cluster_of seats up c mail last committed) (suc i) ≡ false
    → n ≡ slice_index_or mail place n → ComesTo number place (suc i) (lettered mail)
    → seats' ≡ slice_set seats i (in_seat (taken now n.sent.message (slice_index_or seats i nobody).state).state)
    → sent ≡ (taken now n.sent.message (slice_index_or seats i nobody).state).sent
    → end ≡ commit_end (taken now n.sent.message (slice_index_or seats i nobody).state).state
    → ahead ≡ ahead_at (length committed) (slice_index_or seats i nobody).state
    → committed' ≡ extended committed ahead end
    → lettered mail' ≡ lettered (delivered_at place mail) ++ numbered last sent
    → last' ≡ last + length (numbered last sent)
    → state_of seats' up c mail' last' committed' numbers ≡ after_deliver number now (state_of seats up c mail last committed numbers)
taken_at seats seats' up c mail mail' last last' committed committed' ahead numbers now number place i end sent n h u idle is comes_so seats_are sent_is end_is ahead_is committed_is mail_is last_is =
    let w = cluster_of seats up c mail last committed in
    let t = taken now n.sent.message (member w (suc i)) in
    let marks = marked number (lettered mail) in
    let there = found number place mail n comes_so.at is in
    let goes : n.sent.to ≡ suc i = ap (λ (s : Sent). s.to) (same_sent n.sent comes_so.sent (letter_in number (lettered mail)) there comes_so.is) ∙ comes_so.goes in
    same_parts seats' (slice_set seats i (in_seat t.state)) up (coordinator_of up c) (lettered mail') (marks ++ numbered last t.sent) last' (last + length (numbered last t.sent)) committed' (extended committed (ahead_at (length committed) (member w (suc i))) (commit_end t.state)) numbers numbers
    seats_are
    (mail_is ∙ ap (λ (m : List Letter). m ++ numbered last sent) (marked_at number mail place (sym (found_at number mail) ∙ comes_so.at)) ∙ ap (λ (s : List Sent). marks ++ numbered last s) sent_is)
    (last_is ∙ ap (λ (s : List Sent). last + length (numbered last s)) sent_is)
    (committed_is ∙ ap (λ (a : List Chunk). extended committed a end) ahead_is ∙ ap (λ (e : ℕ). extended committed (ahead_at (length committed) (member w (suc i))) e) end_is)
    refl
    ∙ ap (of_cluster numbers) (taken_is now number i w n.sent marks h u idle there goes ∙ sym (comes_as number place (suc i) now mail n w refl comes_so is))

-- ---- the coordinator

pub told_at : (seats : List Seat) (up : Bool) (c new : CoordinatorState) (mail mail' : List Numbered) (last last' members : ℕ) (committed : List Chunk) (numbers : List ℕ) (now number place : ℕ) (n : Numbered)
    → IsStream (cluster_of seats up c mail last committed) → up ≡ true → members ≡ length seats
    → n ≡ slice_index_or mail place n → ComesTo number place 0 (lettered mail)
    → new ≡ (told_by n.sent.message c).state
    → lettered mail' ≡ lettered (delivered_at place mail) ++ numbered last (did_mail members (told_by n.sent.message c).answer)
    → last' ≡ last + length (numbered last (did_mail members (told_by n.sent.message c).answer))
    → state_of seats up new mail' last' committed numbers ≡ after_deliver number now (state_of seats up c mail last committed numbers)
told_at seats false c new mail mail' last last' members committed numbers now number place n h u members_are is comes_so new_is mail_is last_is = absurd (cc u)
told_at seats true c new mail mail' last last' members committed numbers now number place n h u members_are is comes_so new_is mail_is last_is =
    let w = cluster_of seats true c mail last committed in
    let b = told_by n.sent.message c in
    let count : members ≡ c.members = members_are ∙ sym h.sound.sound.coordinator.count in
    let places : length c.told ≡ c.members = h.sound.sound.coordinator.places ∙ sym h.sound.sound.coordinator.count in
    let marks = marked_at number mail place (sym (found_at number mail) ∙ comes_so.at) in
    ap (λ (x : CoordinatorState). state_of seats true x mail' last' committed numbers) new_is
    ∙ same_parts seats seats true b.state (lettered mail') (lettered (delivered_at place mail) ++ numbered last (did_mail c.members b.answer)) last' (last + length (numbered last (did_mail c.members b.answer))) committed committed numbers numbers
    refl
    (mail_is ∙ ap (λ (m : ℕ). lettered (delivered_at place mail) ++ numbered last (did_mail m b.answer)) count)
    (last_is ∙ ap (λ (m : ℕ). last + length (numbered last (did_mail m b.answer))) count)
    refl refl
    ∙ ap (with_cluster numbers) (hears_is n.sent.message seats c mail (delivered_at place mail) last committed places)
    ∙ ap (λ (m : List Letter). of_cluster numbers (to_coordinator n.sent.message (record w { mail = m }))) marks
    ∙ sym (ap (of_cluster numbers) (comes_as number place 0 now mail n w refl comes_so is))

-- ---- the same, in the words of the calls that do it

pub taken_there : (seats slice seats' : List Seat) (up : Bool) (c : CoordinatorState) (mail held kept mail' : List Numbered) (last last' : ℕ) (committed list committed' ahead : List Chunk) (numbers : List ℕ) (now place i count end : ℕ) (sent : List Sent) (n : Numbered) (r : ReplicaState)
    → state_of seats up c mail last committed numbers ≡ r → IsStream r.cluster → is_up r.cluster (suc i) ≡ true → has_job r.cluster (suc i) ≡ false
    → slice ≡ seats → count ≡ length committed → list ≡ committed → held ≡ mail → n ≡ slice_index_or held place n
    → seats' ≡ slice_set seats i (in_seat (taken now n.sent.message (slice_index_or seats i nobody).state).state)
    → sent ≡ (taken now n.sent.message (slice_index_or seats i nobody).state).sent
    → end ≡ commit_end (taken now n.sent.message (slice_index_or seats i nobody).state).state
    → ahead ≡ ahead_at count (slice_index_or slice i nobody).state
    → committed' ≡ extended list ahead end
    → kept ≡ delivered_at place held
    → lettered mail' ≡ lettered kept ++ numbered last sent
    → last' ≡ last + length (numbered last sent)
    → (number : ℕ) → ComesTo number place (suc i) r.cluster.mail → state_of seats' up c mail' last' committed' numbers ≡ after_deliver number now r
taken_there seats slice seats' up c mail held kept mail' last last' committed list committed' ahead numbers now place i count end sent n r view h u idle slice_is count_is list_is held_is is seats_are sent_is end_is ahead_is committed_is kept_is mail_is last_is number comes_so =
    let stream = subst (λ (x : ReplicaState). IsStream x.cluster) (sym view) h in
    let is_there = subst (λ (x : ReplicaState). is_up x.cluster (suc i) ≡ true) (sym view) u in
    let is_idle = subst (λ (x : ReplicaState). has_job x.cluster (suc i) ≡ false) (sym view) idle in
    let comes_here = subst (λ (x : ReplicaState). ComesTo number place (suc i) x.cluster.mail) (sym view) comes_so in
    let at_mail = subst (λ (m : List Numbered). n ≡ slice_index_or m place n) held_is is in
    taken_at seats seats' up c mail mail' last last' committed committed' ahead numbers now number place i end sent n stream is_there is_idle at_mail comes_here seats_are sent_is end_is
    (ahead_is ∙ ap (λ (l : List Seat). ahead_at count (slice_index_or l i nobody).state) slice_is ∙ ap (λ (k : ℕ). ahead_at k (slice_index_or seats i nobody).state) count_is)
    (committed_is ∙ ap (λ (l : List Chunk). extended l ahead end) list_is)
    (mail_is ∙ ap (λ (m : List Numbered). lettered m ++ numbered last sent) (kept_is ∙ ap (delivered_at place) held_is))
    last_is
    ∙ ap (after_deliver number now) view

pub told_there : (seats : List Seat) (up : Bool) (c new : CoordinatorState) (mail mail' : List Numbered) (last last' members : ℕ) (committed : List Chunk) (numbers : List ℕ) (place : ℕ) (r : ReplicaState)
    → state_of seats up c mail last committed numbers ≡ r → IsStream r.cluster → is_up r.cluster 0 ≡ true → members ≡ length seats → place < length r.cluster.mail
    → At mail place (λ (n : Numbered). new ≡ (told_by n.sent.message c).state)
    → At mail place (λ (n : Numbered). lettered mail' ≡ lettered (delivered_at place mail) ++ numbered last (did_mail members (told_by n.sent.message c).answer))
    → At mail place (λ (n : Numbered). last' ≡ last + length (numbered last (did_mail members (told_by n.sent.message c).answer)))
    → (now number : ℕ) → ComesTo number place 0 r.cluster.mail → state_of seats up new mail' last' committed numbers ≡ after_deliver number now r
told_there seats up c new mail mail' last last' members committed numbers place r view h u members_are there new_is mail_is last_is now number comes_so =
    let stream = subst (λ (x : ReplicaState). IsStream x.cluster) (sym view) h in
    let is_there = subst (λ (x : ReplicaState). is_up x.cluster 0 ≡ true) (sym view) u in
    let comes_here = subst (λ (x : ReplicaState). ComesTo number place 0 x.cluster.mail) (sym view) comes_so in
    let within = subst (λ (x : ReplicaState). place < length x.cluster.mail) (sym view) there in
    let count = length-map mail letter_of in
    let n = item_at mail place (omega (arith, within, count)) in
    told_at seats up c new mail mail' last last' members committed numbers now number place n.item stream is_there members_are n.is comes_here (new_is n.item n.is) (mail_is n.item n.is) (last_is n.item n.is)
    ∙ ap (after_deliver number now) view
