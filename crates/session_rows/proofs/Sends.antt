-- Runs of deliveries.
use Rattle.std.proofs.Common.{◌≡◌, ℕ, ◌-◌, ◌<◌, List, [], ◌∷◌, ◌++◌, map, Some, refl, sym, ap, ◌∙◌, append_assoc, arith, Ok}
use Rattle.std.proofs.lemmas.List.{append-nil}
use Rattle.chunk_format.specs.declared.chunk.Chunk.{Chunk}
use Rattle.chunk_format.specs.Chunks.{end_of_chunk}
use Rattle.chunk_format.specs.Logs.{next_above, GoesOn}
use Rattle.chunk_format.proofs.UserLaws.{next_stays}
use Rattle.hub_terms.specs.Calls.{NextChunk}
use Rattle.hub_terms.specs.Meaning.{HubMeaning, HubLaws}
use Rattle.session_rows.specs.Delivering.{DeliverRun, Sending}
use Rattle.session_rows.specs.declared.tables.Reply.{Reply}
use Rattle.session_rows.specs.declared.tables.Reply.TheVariants.{Deliver}
use Rattle.session_rows.specs.declared.tables.Subscription.{Subscription}

run_grows : (list more : List Chunk) (n k n' k' : ℕ) (cs : List Chunk) → DeliverRun list n k cs n' k' → DeliverRun (list ++ more) n k cs n' k'
run_grows list more n k n' k' [] r = r
run_grows list more n k n' k' (c ∷ cs) (some, first, rest) = (some, next_stays n list more c first, run_grows list more (end_of_chunk c) (k - 1) n' k' cs rest)

run_more : (list : List Chunk) (n k n1 k1 : ℕ) (cs : List Chunk) (c : Chunk) → DeliverRun list n k cs n1 k1 → 0 < k1 → next_above n1 list ≡ Some c → DeliverRun list n k (cs ++ c ∷ []) (end_of_chunk c) (k1 - 1)
run_more list n k n1 k1 [] c (is_n, is_k) some first = (rw (← is_k) some, rw (← is_n) first, (refl, rw is_k refl))
run_more list n k n1 k1 (d ∷ ds) c (s, f, rest) some first = (s, f, run_more list (end_of_chunk d) (k - 1) n1 k1 ds c rest some first)

map_one : (id : ℕ) (cs : List Chunk) (c : Chunk) → map (Deliver id) (cs ++ c ∷ []) ≡ map (Deliver id) cs ++ Deliver id c ∷ []
map_one id [] c = refl
map_one id (d ∷ ds) c = ap (λ (x : List Reply). Deliver id d ∷ x) (map_one id ds c)

goes_on : (a b : List Chunk) (n k n' k' : ℕ) (cs : List Chunk) → GoesOn a b → DeliverRun a n k cs n' k' → DeliverRun b n k cs n' k'
goes_on a b n k n' k' cs (more, is) r = rw is (run_grows a more n k n' k' cs r)

pub sends_none : {S : Type 0} (m : HubMeaning S) → HubLaws m → (id : ℕ) (s : Subscription) (out : List Reply) (h : S) → Sending m id s s out out h h
sends_none m laws id s out h = record { chunks = []; sent = sym (append-nil out); run = (refl, refl); kept = refl; later = laws.seen.same h }

-- the hub went on, and nothing was sent
pub sends_later : {S : Type 0} (m : HubMeaning S) → HubLaws m → (id : ℕ) (old new : Subscription) (out0 out1 : List Reply) (h0 h1 h2 : S) → Sending m id old new out0 out1 h0 h1 → m.seen.later h1 h2 → Sending m id old new out0 out1 h0 h2
sends_later m laws id old new out0 out1 h0 h1 h2 p after = record {
  chunks = p.chunks;
  sent = p.sent;
  run = goes_on _ _ _ _ _ _ _ (laws.seen.lists_grow h1 h2 old.stream after) p.run;
  kept = p.kept;
  later = laws.seen.joins h0 h1 h2 p.later after;
}

pub sends_more : {S : Type 0} (m : HubMeaning S) → HubLaws m → (id : ℕ) (old mid : Subscription) (out0 out1 out2 : List Reply) (h0 h1 h2 : S) (c : Chunk)
    → Sending m id old mid out0 out1 h0 h1 → m.does (NextChunk mid.stream mid.next) h1 (Ok (Some c)) h2 → out2 ≡ out1 ++ Deliver id c ∷ [] → 0 < mid.credit
    → Sending m id old (record mid { next = end_of_chunk c; credit = mid.credit - 1 }) out0 out2 h0 h2
sends_more m laws id old mid out0 out1 out2 h0 h1 h2 c p gives wrote some =
    let after = (laws.called (NextChunk mid.stream mid.next) h1 h2 (Ok (Some c)) gives).later in
    let stream : mid.stream ≡ old.stream = ap (λ (s : Subscription). s.stream) p.kept in
    let told = (laws.called (NextChunk mid.stream mid.next) h1 h2 (Ok (Some c)) gives).told in
    let first : next_above mid.next (m.seen.lists h2 old.stream) ≡ Some c = rw (← stream) (sym told) in
    record {
      chunks = p.chunks ++ c ∷ [];
      sent = wrote ∙ ap (λ (x : List Reply). x ++ Deliver id c ∷ []) p.sent ∙ append_assoc out0 (map (Deliver id) p.chunks) (Deliver id c ∷ []) ∙ ap (λ (x : List Reply). out0 ++ x) (sym (map_one id p.chunks c));
      run = run_more (m.seen.lists h2 old.stream) old.next old.credit mid.next mid.credit p.chunks c (goes_on _ _ _ _ _ _ _ (laws.seen.lists_grow h1 h2 old.stream after) p.run) some first;
      kept = ap (λ (s : Subscription). record s { next = end_of_chunk c; credit = mid.credit - 1 }) p.kept;
      later = laws.seen.joins h0 h1 h2 p.later after;
    }
