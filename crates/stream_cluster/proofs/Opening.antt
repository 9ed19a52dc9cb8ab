-- The tests of an opening.
use Rattle.std.proofs.Common.{◌≡◌, ◌≤◌, ◌<◌, ◌+◌, ◌-◌, ◌==◌, ℕ, Bool, true, false, zero, suc, List, [], ◌∷◌, ◌++◌, length, map, take, drop, slice_index_or, remove, add-one, length-append, length-drop, refl, sym, ap, subst, ◌∙◌, inl, inr, ◌⊎◌, arith}
use Rattle.std.specs.Prelude.{IfSome, MatchOption, Option, Some, None}
use Rattle.std.proofs.lemmas.List.{length-map, append_assoc, take_all}
use Rattle.std.proofs.Math.Seq.{take-suc, drop-cons}
use Rattle.replication_laws.specs.Openings.{Start, start_at, start_seats, no_start, CanStart, Agrees}
use Rattle.replication_laws.specs.Openings as openings
use Rattle.replication_laws.specs.Cluster.{Seat, last_number}
use Rattle.segment_store.specs.declared.recovered.Recovered.{Recovered}
use Rattle.chunk_format.specs.Logs.{Truthful}
use Rattle.epoch_coordinator.specs.MemberSteps.{restarted}
use Rattle.epoch_coordinator.specs.Coordinators.{CoordinatorState, opened_with}
use Rattle.cluster_core.specs.States.{IsStream, cluster_of}
use Rattle.cluster_core.proofs.Streams.{opened_stream}
use Rattle.replication_laws.specs.Openings.{opened_cluster}
use Rattle.chunk_format.specs.declared.chunk.Chunk.{Chunk}
use Rattle.chunk_format.specs.Logs.{IsLog, last_epoch}
use Rattle.replication_laws.specs.Openings.{Diverges}
use Rattle.cluster_core.specs.Breaks.{Breaks}
use Rattle.stream_cluster.specs.Opens.{nothing_had, had_at, IsSoundLog, IsWhole, BreaksAt, AllWhole, FirstBroken, NotAhead, NoneAhead, FirstAhead, AgreesWith, AllAgreeWith, FirstApart, AllAgree, FirstDiverged, AreNumbered, MayOpen, started, start_of}
use Rattle.stream_cluster.specs.Opens.{ApartBy, DivergedBy}
use Rattle.stream_cluster.specs.declared.fault.OpenFault.{OpenFault}
use Rattle.stream_cluster.specs.declared.fault.OpenFault.TheVariants.{Diverged, Broken, Ahead, Memory}
use Rattle.stream_cluster.specs.Seats.{in_seat}

-- what stands at a place is the same whatever stands where none is
pub same_at : {A : Type 0} (xs : List A) (i : ℕ) (x d : A) → i < length xs → x ≡ slice_index_or xs i x → slice_index_or xs i d ≡ x
same_at [] i x d lt is = absurd (omega (arith, lt))
same_at (y ∷ xs) zero x d lt is = sym is
same_at (y ∷ xs) (suc i) x d lt is = same_at xs i x d (omega (arith, lt)) is

either : (i j : ℕ) → j < i + 1 → (j < i) ⊎ (j ≡ i)
either i j lt = cut (j == i) refl
  where
    cut : (b : Bool) → (j == i) ≡ b → (j < i) ⊎ (j ≡ i)
    cut true is = inr (grind (arith, is))
    cut false is = inl (grind (arith, is, lt))

-- what holds of each before a place holds of one more
pub one_more : (P : Recovered → Type 0) (starts : List Recovered) (i : ℕ) (r : Recovered) → i < length starts → r ≡ slice_index_or starts i r → P r → ((j : ℕ) → j < i → P (had_at starts j)) → (j : ℕ) → j < i + 1 → P (had_at starts j)
one_more P starts i r lt is p before j below = by (either i j below)
  where
    by : (j < i) ⊎ (j ≡ i) → P (had_at starts j)
    by (inl l) = before j l
    by (inr e) = subst (λ (k : ℕ). P (had_at starts k)) (sym e) (subst P (sym (same_at starts i r nothing_had lt is)) p)

-- ---- what is opened is sound

map_at : (starts : List Recovered) (i : ℕ) → i < length starts → start_at (map start_of starts) i ≡ start_of (had_at starts i)
map_at [] i lt = absurd (omega (arith, lt))
map_at (r ∷ starts) zero lt = refl
map_at (r ∷ starts) (suc i) lt = map_at starts i (omega (arith, lt))

pub opens : (epoch : ℕ) (starts : List Recovered) → 1 ≤ length starts → length starts ≤ 7 → epoch ≤ last_number → AllWhole starts → NoneAhead epoch starts → AllAgree starts → IsStream (opened_cluster epoch (map start_of starts))
opens epoch starts some few fits whole ahead agree =
    let n = length-map starts start_of in
    let whole_at : (i : ℕ) → i < length starts → openings.IsWhole epoch (start_of (had_at starts i)) = λ i lt. record { is_log = (whole i lt).is_log; below = (whole i lt).promised; not_ahead = ahead i lt } in
    let can : CanStart epoch (map start_of starts) = record {
      some = omega (arith, n, some);
      fits = fits;
      whole = λ i lt. (let l : i < length starts = omega (arith, lt, n) in subst (openings.IsWhole epoch) (sym (map_at starts i l)) (whole_at i l));
      agree = λ i j below lt. (let l : j < length starts = omega (arith, lt, n) in
          let k : i < length starts = omega (arith, below, l) in
          subst (λ (s : Start). Agrees s.log (start_at (map start_of starts) j).log) (sym (map_at starts i k)) (subst (λ (s : Start). Agrees (had_at starts i).chunks s.log) (sym (map_at starts j l)) (agree i j below l)));
    } in
    opened_stream epoch (map start_of starts) (omega (arith, n, few)) can (λ i lt. (let l : i < length starts = omega (arith, lt, n) in subst (λ (s : Start). Truthful s.log) (sym (map_at starts i l)) (whole i l).truthful))

-- ---- where a log breaks

truthful_front : (front more chunks : List Chunk) → chunks ≡ front ++ more → Truthful chunks → Truthful front
truthful_front front more chunks e t = λ before c behind parts kind. t before c (behind ++ more) (e ∙ ap (λ (l : List Chunk). l ++ more) parts ∙ append_assoc before (c ∷ behind) more) kind

take_drop : (n : ℕ) (xs : List Chunk) → xs ≡ take n xs ++ drop n xs
take_drop zero xs = refl
take_drop (suc n) [] = refl
take_drop (suc n) (x ∷ xs) = ap (λ (z : List Chunk). x ∷ z) (take_drop n xs)

from_break : (chunks all more : List Chunk) (promise offset : ℕ) → all ≡ chunks ++ more → Truthful chunks → Breaks chunks promise offset → BreaksAt all promise offset
from_break chunks all more promise offset e t b = record {
  front = b.front;
  chunk = b.chunk;
  rest = b.rest ++ more;
  parts = e ∙ ap (λ (l : List Chunk). l ++ more) b.parts ∙ append_assoc b.front (b.chunk ∷ b.rest) more;
  sound = record { is_log = b.whole; truthful = truthful_front b.front (b.chunk ∷ b.rest) chunks b.parts t; promised = b.promised };
  fails = inl b.misfits;
  begins = b.begins;
}

none_behind : (xs : List Chunk) → xs ≡ xs ++ []
none_behind [] = refl
none_behind (x ∷ xs) = ap (λ (z : List Chunk). x ∷ z) (none_behind xs)

-- all snapshots are truthful
pub breaks_whole : (chunks : List Chunk) (promise : ℕ) (found : Option ℕ) → Truthful chunks → IfSome found (λ (offset : ℕ). Breaks chunks promise offset) → (found ≡ None → IsLog chunks × (last_epoch chunks ≤ promise))
    → MatchOption found (IsSoundLog chunks promise) (λ (offset : ℕ). BreaksAt chunks promise offset)
breaks_whole chunks promise None t some none = let p = none refl in record { is_log = p.0; truthful = t; promised = p.1 }
breaks_whole chunks promise (Some offset) t some none = from_break chunks chunks [] promise offset (none_behind chunks) t some

-- the chunk at a place isn't
pub breaks_before : (chunks : List Chunk) (promise place offset : ℕ) → Truthful (take place chunks) → Breaks (take place chunks) promise offset → BreaksAt chunks promise offset
breaks_before chunks promise place offset t b = from_break (take place chunks) chunks (drop place chunks) promise offset (take_drop place chunks) t b

pub breaks_there : (chunks : List Chunk) (promise place first : ℕ) (c : Chunk) → place < length chunks → c ≡ slice_index_or chunks place c → IsLog (take place chunks) → last_epoch (take place chunks) ≤ promise → Truthful (take place chunks)
    → (Truthful (take (place + 1) chunks) → ⊥) → c.first ≡ first → BreaksAt chunks promise first
breaks_there chunks promise place first c lt is log promised t false_there begins =
    let here : take (suc place) chunks ≡ take place chunks ++ c ∷ [] = take-suc chunks place c lt ∙ ap (λ (x : Chunk). take place chunks ++ x ∷ []) (sym is) in
    let behind : drop place chunks ≡ c ∷ drop (suc place) chunks = drop-cons chunks place c lt ∙ ap (λ (x : Chunk). x ∷ drop (suc place) chunks) (sym is) in
    record {
      front = take place chunks;
      chunk = c;
      rest = drop (suc place) chunks;
      parts = take_drop place chunks ∙ ap (λ (l : List Chunk). take place chunks ++ l) behind;
      sound = record { is_log = log; truthful = t; promised = promised };
      fails = inr (λ so. false_there (subst Truthful (sym (ap (λ (n : ℕ). take n chunks) (add-one place) ∙ here)) so));
      begins = begins;
    }

-- ---- the first that fails

module _ (starts : List Recovered) (i : ℕ) (r : Recovered) (lt : i < length starts) (is : r ≡ slice_index_or starts i r) where
  at_place : had_at starts i ≡ r
  at_place = same_at starts i r nothing_had lt is

  pub first_broken : (offset : ℕ) → ((j : ℕ) → j < i → IsWhole (had_at starts j)) → BreaksAt r.chunks r.promise offset → FirstBroken starts r.member offset
  first_broken offset before b = record {
    place = i;
    within = lt;
    before = before;
    breaks = subst (λ (x : Recovered). BreaksAt x.chunks x.promise offset) (sym at_place) b;
    is_member = ap (λ (x : Recovered). x.member) (sym at_place);
  }

  pub first_ahead : (epoch : ℕ) → ((j : ℕ) → j < i → NotAhead epoch (had_at starts j)) → epoch < r.promise → FirstAhead starts r.member r.promise epoch
  first_ahead epoch before above = record {
    place = i;
    within = lt;
    before = before;
    ahead = subst (λ (x : Recovered). epoch < x.promise) (sym at_place) above;
    is_member = ap (λ (x : Recovered). x.member) (sym at_place);
    is_promise = ap (λ (x : Recovered). x.promise) (sym at_place);
  }

  pub first_apart : (one : Recovered) (offset : ℕ) → ((j : ℕ) → j < i → AgreesWith one (had_at starts j)) → Diverges one.chunks r.chunks offset → FirstApart one starts one.member r.member offset
  first_apart one offset before d = record {
    place = i;
    within = lt;
    before = before;
    diverge = subst (λ (x : Recovered). Diverges one.chunks x.chunks offset) (sym at_place) d;
    is_a = refl;
    is_b = ap (λ (x : Recovered). x.member) (sym at_place);
  }

-- ---- pairs

behind_at : (starts : List Recovered) (n j : ℕ) → had_at (drop n starts) j ≡ had_at starts (n + j)
behind_at starts zero j = let e : j ≡ 0 + j = omega arith in ap (had_at starts) e
behind_at [] (suc n) zero = none_at (suc n + 0)
  where
    none_at : (k : ℕ) → nothing_had ≡ had_at [] k
    none_at zero = refl
    none_at (suc k) = refl
behind_at [] (suc n) (suc j) = none_at (suc n + suc j)
  where
    none_at : (k : ℕ) → nothing_had ≡ had_at [] k
    none_at zero = refl
    none_at (suc k) = refl
behind_at (r ∷ starts) (suc n) j = let e : suc n + j ≡ suc (n + j) = omega arith in behind_at starts n j ∙ sym (ap (had_at (r ∷ starts)) e)

-- all pairs of which the first is before a place agree
abbrev pub AgreeBefore : List Recovered → ℕ → Type 0
AgreeBefore starts place = (i j : ℕ) → i < place → i < j → j < length starts → AgreesWith (had_at starts i) (had_at starts j)

module _ (starts : List Recovered) (place : ℕ) (one : Recovered) (lt : place < length starts) (is : one ≡ slice_index_or starts place one) where
  one_at : had_at starts place ≡ one
  one_at = same_at starts place one nothing_had lt is

  pub agree_next : AgreeBefore starts place → AllAgreeWith one (drop (place + 1) starts) → AgreeBefore starts (place + 1)
  agree_next before with_it i j below apart within = by (either place i below)
    where
      by : (i < place) ⊎ (i ≡ place) → AgreesWith (had_at starts i) (had_at starts j)
      by (inl l) = before i j l apart within
      by (inr e) =
          let k : ℕ = j - (place + 1) in
          let back : place + 1 + k ≡ j = omega (arith, e, apart) in
          let n = length-drop (place + 1) starts in
          let so = with_it k (omega (arith, n, within, e, apart)) in
          let there : had_at (drop (place + 1) starts) k ≡ had_at starts j = behind_at starts (place + 1) k ∙ ap (had_at starts) back in
          subst (λ (x : Recovered). AgreesWith x (had_at starts j)) (sym (ap (had_at starts) e ∙ one_at)) (subst (AgreesWith one) there so)

  pub first_pair : (a b offset : ℕ) → AgreeBefore starts place → FirstApart one (drop (place + 1) starts) a b offset → FirstDiverged starts a b offset
  first_pair a b offset before f =
      let n = length-drop (place + 1) starts in
      let w = f.within in
      let there = behind_at starts (place + 1) f.place in
      record {
        place = place;
        other = place + 1 + f.place;
        apart = omega arith;
        within = omega (arith, n, w, lt);
        before = before;
        between = λ j above below. (let k : ℕ = j - (place + 1) in
            let back : place + 1 + k ≡ j = omega (arith, above) in
            let so = f.before k (omega (arith, above, below)) in
            subst (λ (x : Recovered). AgreesWith x (had_at starts j)) (sym one_at) (subst (AgreesWith one) (behind_at starts (place + 1) k ∙ ap (had_at starts) back) so));
        diverge = subst (λ (x : Recovered). Diverges x.chunks (had_at starts (place + 1 + f.place)).chunks offset) (sym one_at) (subst (λ (x : Recovered). Diverges one.chunks x.chunks offset) there f.diverge);
        is_a = f.is_a ∙ ap (λ (x : Recovered). x.member) (sym one_at);
        is_b = f.is_b ∙ ap (λ (x : Recovered). x.member) there;
      }

-- the places behind a place
pub rest_is : (starts : List Recovered) (n : ℕ) → take (length starts - n) (drop n starts) ≡ drop n starts
rest_is starts n = let c = length-drop n starts in take_all (length starts - n) (drop n starts) (omega (arith, c))

pub pair_by : (starts : List Recovered) (place : ℕ) (one : Recovered) → place < length starts → one ≡ slice_index_or starts place one → (fault : OpenFault)
    → AgreeBefore starts place → ApartBy one (take (length starts - (place + 1)) (drop (place + 1) starts)) fault → DivergedBy starts fault
pair_by starts place one lt is (Diverged a b offset) before f =
    first_pair starts place one lt is a b offset before (subst (λ (l : List Recovered). FirstApart one l a b offset) (rest_is starts (place + 1)) f)
pair_by starts place one lt is (Broken member offset) before f = f
pair_by starts place one lt is (Ahead member promise epoch) before f = f
pair_by starts place one lt is Memory before f = f

pub told : (o : Option ℕ) (place : ℕ) (chunks : List Chunk) → MatchOption o (Truthful chunks) (λ (k : ℕ). (k < length chunks) × Truthful (take k chunks) × (Truthful (take (k + 1) chunks) → ⊥)) → o ≡ Some place
    → (place < length chunks) × Truthful (take place chunks) × (Truthful (take (place + 1) chunks) → ⊥)
told None place chunks h e = absurd (cc e)
told (Some k) place chunks h e = let same : k ≡ place = cc e in subst (λ (n : ℕ). (n < length chunks) × Truthful (take n chunks) × (Truthful (take (n + 1) chunks) → ⊥)) same h

-- ---- members that come up

-- what is left of the starts: whole logs of members that are numbered on
abbrev pub Left : ℕ → List Recovered → Type 0
Left count left = (i : ℕ) → i < length left → IsWhole (had_at left i) × ((had_at left i).member ≡ count + i + 1)

pub left_first : (starts : List Recovered) → AllWhole starts → AreNumbered starts → Left 0 starts
left_first starts whole numbers i lt = (whole i lt, (let n = numbers i lt in omega (arith, n)))

first_left : (count : ℕ) (r : Recovered) (left : List Recovered) → 0 < length left → r ≡ slice_index_or left 0 r → Left count left → IsWhole r × (r.member ≡ count + 1)
first_left count r [] lt is l = absurd (omega (arith, lt))
first_left count r (x ∷ left) lt is l =
    let p = l 0 lt in
    let n = p.1 in
    let m : x.member ≡ count + 1 = omega (arith, n) in
    (subst IsWhole (sym is) p.0, subst (λ (y : Recovered). y.member ≡ count + 1) (sym is) m)

pub whole_left : (count : ℕ) (r : Recovered) (left : List Recovered) → 0 < length left → r ≡ slice_index_or left 0 r → Left count left → IsWhole r
whole_left count r left lt is l = (first_left count r left lt is l).0

seat_on : (members number : ℕ) (r : Recovered) → r.member ≡ number → started members r ≡ in_seat (restarted members number r.promise r.chunks)
seat_on members number r e = ap (λ (n : ℕ). in_seat (restarted members n r.promise r.chunks)) e

module _ (members : ℕ) (seats seats' all : List Seat) (r : Recovered) (seat : Seat) (seat_is : seat ≡ started members r) (seats_are : seats' ≡ seats ++ seat ∷ []) where
  one_more_seat : length seats' ≡ length seats + 1
  one_more_seat = (let e = ap length seats_are ∙ length-append seats (seat ∷ []) in omega (arith, e))

  pub left_on : (left left' : List Recovered) → 0 < length left → left' ≡ remove left 0 → Left (length seats) left → Left (length seats') left'
  left_on [] left' lt gone l = absurd (omega (arith, lt))
  left_on (x ∷ more) left' lt gone l = subst (Left (length seats')) (sym gone) on
    where
      on : Left (length seats') more
      on i below = (let p = l (suc i) (omega (arith, below)) in let n = p.1 in let c = one_more_seat in (p.0, omega (arith, n, c)))

  pub seats_on : (left left' : List Recovered) → 0 < length left → r ≡ slice_index_or left 0 r → left' ≡ remove left 0 → Left (length seats) left
      → seats ++ start_seats members (length seats + 1) (map start_of left) ≡ all → seats' ++ start_seats members (length seats' + 1) (map start_of left') ≡ all
  seats_on [] left' lt is gone l so = absurd (omega (arith, lt))
  seats_on (x ∷ more) left' lt is gone l so =
      let n = length seats + 1 in
      let number = (first_left (length seats) r (x ∷ more) lt is l).1 in
      let count : length seats' + 1 ≡ n + 1 = ap (λ (k : ℕ). k + 1) one_more_seat in
      let rest = start_seats members (n + 1) (map start_of more) in
      let here : seat ≡ in_seat (restarted members n x.promise x.chunks) = seat_is ∙ seat_on members n r number ∙ ap (λ (y : Recovered). in_seat (restarted members n y.promise y.chunks)) is in
      ap (λ (y : List Recovered). seats' ++ start_seats members (length seats' + 1) (map start_of y)) gone
      ∙ ap (λ (k : ℕ). seats' ++ start_seats members k (map start_of more)) count
      ∙ ap (λ (y : List Seat). y ++ rest) seats_are
      ∙ append_assoc seats (seat ∷ []) rest
      ∙ ap (λ (y : Seat). seats ++ y ∷ rest) here
      ∙ so

-- ---- the stream that is opened

pub opened_at : (seats : List Seat) (c : CoordinatorState) (members epoch : ℕ) (starts : List Recovered) → 1 ≤ length starts → length starts ≤ 7 → epoch ≤ last_number → MayOpen epoch starts
    → seats ≡ start_seats members 1 (map start_of starts) → c ≡ opened_with members epoch → members ≡ length starts → IsStream (cluster_of seats true c [] 0 [])
opened_at seats c members epoch starts some few fits may seats_are c_is count =
    let n : members ≡ length (map start_of starts) = count ∙ sym (length-map starts start_of) in
    let s = opens epoch starts some few fits may.whole may.none_ahead may.agree in
    let seats_so : seats ≡ start_seats (length (map start_of starts)) 1 (map start_of starts) = seats_are ∙ ap (λ (k : ℕ). start_seats k 1 (map start_of starts)) n in
    let c_so : c ≡ opened_with (length (map start_of starts)) epoch = c_is ∙ ap (λ (k : ℕ). opened_with k epoch) n in
    subst (λ (x : CoordinatorState). IsStream (cluster_of seats true x [] 0 [])) (sym c_so) (subst (λ (x : List Seat). IsStream (cluster_of x true (opened_with (length (map start_of starts)) epoch) [] 0 [])) (sym seats_so) s)
