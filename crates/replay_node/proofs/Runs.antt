-- What a node gives is a run of the list machine.
use Rattle.std.proofs.Common.{◌≡◌, ℕ, ◌==◌, ◌+◌, ◌≤◌, Bool, true, false, cond, not, List, [], ◌∷◌, ◌++◌, length, take, drop, map, zero, suc, Option, Some, None, Result, Ok, Err, IfOk, refl, sym, ap, subst, ◌∙◌, append_assoc, length-append, eq-eqb, IsSome, arith, inl}
use Rattle.std.specs.Prelude.{count_by}
use Rattle.std.specs.List.{flat_map, AllByRecursion}
use Rattle.std.proofs.lemmas.List.{append-nil, map-append, take-append-drop, length-take}
use Rattle.std.proofs.lemmas.List.Elements.{recursion_from_All}
use Rattle.std.proofs.lemmas.List.Sums.{sum_by-append}
use Rattle.std.proofs.lemmas.Grind.{flat_map-append}
use Rattle.frame_wire.specs.Frames.{frame}
use Rattle.chunk_format.specs.declared.entry.Entry.{Entry}
use Rattle.chunk_format.specs.declared.chunk.Chunk.{Chunk}
use Rattle.chunk_format.specs.Chunks.{IsChunk, chunk_bytes, end_of_chunk, entry_records}
use Rattle.chunk_format.specs.LogRows.{Rows, rows_from}
use Rattle.chunk_format.proofs.ChunkLaws.{Rows-append}
use Rattle.command_fields.specs.Tables.{body_of}
use Rattle.command_data.specs.declared.item.Tagged.{Tagged}
use Rattle.command_data.specs.declared.command.DataCommand.{DataCommand}
use Rattle.command_data.specs.declared.command.DataCommand.TheVariants.{PublishConfirm}
use Rattle.command_data.specs.Commands.{data_table}
use Rattle.replay_node.specs.declared.session.Offer.{Offer}
use Rattle.replay_node.specs.declared.session.Link.{Link}
use Rattle.replay_node.specs.declared.session.Served.{Served}
use Rattle.script_text.specs.declared.script.ScriptLine.{ScriptLine}
use Rattle.script_text.specs.declared.script.ScriptLine.TheVariants.{Create, Prepare, Give, Poll, Settle}
use Rattle.script_text.specs.declared.script.LineFault.{LineFault}
use Rattle.script_text.specs.Script.{Spells}
use Rattle.frame_commands.specs.Given.{CommandsOf}
use Rattle.replay_node.specs.Commands.{frame_max}
use Rattle.replay_node.specs.Sessions.{IsOffer, is_declared, serve_all}
use Rattle.replay_node.specs.Commits.{IsMessage}
use Rattle.script_text.specs.declared.output.OutputLine.{OutputLine}
use Rattle.replay_node.specs.NodeState.{NodeState, new_node, opening, user_chunk, chunk_max, first_pieces, pieces_of, entries, ids, offer_pieces, chunks_from, queued_chunks, end_of_list, find_link, put_link, prepared_link, offers_of, offers_of_others, commit_of, send, confirm_of, LineGives, LineAnswered, AnswersLine}
use Rattle.replay_node.specs.Machine.{PublisherState, ConnectionState, Machine, empty_machine, find, put, is_same_entry, untagged_of, untagged, last_epoch}
use Rattle.replay_node.specs.MachineSteps.{new_stream, GiveStep, CommitStep, ConfirmStep, Event, wrote, read, MachineRun}
use Rattle.replay_node.specs.Transcripts.{Writes}
use Rattle.replay_node.specs.Shown.{offered, frames_of, publisher_with, publishers_of, connection_of, stream_with, machine_of, AreApart, IsPlaced, IsShown, Shows, GivesRun, LineRuns}
use Rattle.replay_node.proofs.Laying.{opening_is_chunk, records_all, all_append, all_parts}
use Rattle.replay_node.proofs.Commanding.{each_in_frame, all_fit, confirm_fits, queue_pieces}
use Rattle.replay_node.proofs.Pending.{apart_more, is_of, same_number, turned, among, frames_append, frames_none, frames_skip, frames_hit, is_own, other_publisher, other_connection, publishers_split, publishers_but_one, state_of, find_map, none_map, numbers, put_map, IsLocal, local_of}
use Rattle.replay_node.proofs.GiveRuns.{with_stream, Place, machine_at, publishers_at, serve_runs}

-- ---- connections by number

number_in : (n : ℕ) (link x : Link) (links : List Link) (b : Bool) → (x.number == n) ≡ b → cond b (Some x) (find_link n links) ≡ Some link → (find_link n links ≡ Some link → link.number ≡ n) → link.number ≡ n
number_in n link x links true is there f = let same : x ≡ link = cc in ap (λ (l : Link). l.number) (sym same) ∙ same_number x.number n is
number_in n link x links false is there f = f there

found_number : (n : ℕ) (link : Link) (links : List Link) → find_link n links ≡ Some link → link.number ≡ n
found_number n link [] there = absurd cc
found_number n link (x ∷ links) there = number_in n link x links (x.number == n) refl there (λ rest. found_number n link links rest)

put_numbers_in : (new x : Link) (links : List Link) (b : Bool) → (x.number == new.number) ≡ b → numbers (put_link new links) ≡ numbers links → numbers (cond b (new ∷ links) (x ∷ put_link new links)) ≡ x.number ∷ numbers links
put_numbers_in new x links true is rest = ap (λ (n : ℕ). n ∷ numbers links) (sym (same_number x.number new.number is))
put_numbers_in new x links false is rest = ap (λ (l : List ℕ). x.number ∷ l) rest

put_numbers : (new : Link) (links : List Link) → numbers (put_link new links) ≡ numbers links
put_numbers new [] = refl
put_numbers new (x ∷ links) = put_numbers_in new x links (x.number == new.number) refl (put_numbers new links)

abbrev HasApart : Link → Type 0
HasApart link = AreApart link.publishers

put_apart_in : (new x : Link) (links : List Link) (b : Bool) → AreApart new.publishers → AreApart x.publishers → AllByRecursion HasApart links → AllByRecursion HasApart (put_link new links)
    → AllByRecursion HasApart (cond b (new ∷ links) (x ∷ put_link new links))
put_apart_in new x links true apart one rest more = (apart, rest)
put_apart_in new x links false apart one rest more = (one, more)

put_apart : (new : Link) (links : List Link) → AreApart new.publishers → AllByRecursion HasApart links → AllByRecursion HasApart (put_link new links)
put_apart new [] apart each = tt
put_apart new (x ∷ links) apart each = put_apart_in new x links (x.number == new.number) apart each.0 each.1 (put_apart new links apart each.1)

found_apart_in : (n : ℕ) (link x : Link) (links : List Link) (b : Bool) → cond b (Some x) (find_link n links) ≡ Some link → AreApart x.publishers → (find_link n links ≡ Some link → AreApart link.publishers) → AreApart link.publishers
found_apart_in n link x links true there one f = let same : x ≡ link = cc in subst HasApart same one
found_apart_in n link x links false there one f = f there

found_apart : (n : ℕ) (link : Link) (links : List Link) → find_link n links ≡ Some link → AllByRecursion HasApart links → AreApart link.publishers
found_apart n link [] there each = absurd cc
found_apart n link (x ∷ links) there each = found_apart_in n link x links (x.number == n) there each.0 (λ rest. found_apart n link links rest each.1)

find_new_in : (n : ℕ) (new link x : Link) (links : List Link) (b : Bool) → new.number ≡ n → (x.number == n) ≡ b → cond b (Some x) (find_link n links) ≡ Some link → (find_link n links ≡ Some link → find_link n (put_link new links) ≡ Some new)
    → find_link n (cond b (new ∷ links) (x ∷ put_link new links)) ≡ Some new
find_new_in n new link x links true number is there f = ap (λ (t : Bool). cond t (Some new) (find_link n links)) (eq-eqb new.number n number)
find_new_in n new link x links false number is there f = ap (λ (t : Bool). cond t (Some x) (find_link n (put_link new links))) is ∙ f there

find_new : (new link : Link) (links : List Link) → find_link new.number links ≡ Some link → find_link new.number (put_link new links) ≡ Some new
find_new new link [] there = absurd cc
find_new new link (x ∷ links) there = find_new_in new.number new link x links (x.number == new.number) refl refl there (λ rest. find_new new link links rest)

find_other_in : (n : ℕ) (new x : Link) (links : List Link) (b : Bool) → (new.number == n) ≡ false → (x.number == new.number) ≡ b → find_link n (put_link new links) ≡ find_link n links
    → find_link n (cond b (new ∷ links) (x ∷ put_link new links)) ≡ cond (x.number == n) (Some x) (find_link n links)
find_other_in n new x links true other is rest =
    ap (λ (t : Bool). cond t (Some new) (find_link n links)) other
    ∙ sym (ap (λ (t : Bool). cond t (Some x) (find_link n links)) (ap (λ (k : ℕ). k == n) (same_number x.number new.number is) ∙ other))
find_other_in n new x links false other is rest = ap (λ (o : Option Link). cond (x.number == n) (Some x) o) rest

find_other : (n : ℕ) (new : Link) (links : List Link) → (new.number == n) ≡ false → find_link n (put_link new links) ≡ find_link n links
find_other n new [] other = refl
find_other n new (x ∷ links) other = find_other_in n new x links (x.number == new.number) other refl (find_other n new links other)

put_itself_in : (link x : Link) (links : List Link) (b : Bool) → cond b (Some x) (find_link link.number links) ≡ Some link → (find_link link.number links ≡ Some link → put_link link links ≡ links) → cond b (link ∷ links) (x ∷ put_link link links) ≡ x ∷ links
put_itself_in link x links true there f = let same : x ≡ link = cc in ap (λ (l : Link). l ∷ links) (sym same)
put_itself_in link x links false there f = ap (λ (l : List Link). x ∷ l) (f there)

put_itself : (link : Link) (links : List Link) → find_link link.number links ≡ Some link → put_link link links ≡ links
put_itself link [] there = absurd cc
put_itself link (x ∷ links) there = put_itself_in link x links (x.number == link.number) there (λ rest. put_itself link links rest)

-- ---- a node and its parts

abbrev pub node_of_parts : Option (List ℕ) → List Link → List Chunk → List Offer → List Offer → NodeState
node_of_parts s ls ch q u = record { stream = s; links = ls; chunks = ch; queued = q; unconfirmed = u }

-- ---- a stream is made

create_run : (ls : List Link) (ch : List Chunk) (q u : List Offer) (confirmed : List Entry) (name : List ℕ) → IsShown (node_of_parts None ls ch q u) confirmed
    → GivesRun (machine_of (node_of_parts None ls ch q u) confirmed) (Create name) (commit_of opening ∷ []) (node_of_parts (Some name) ls (opening ∷ []) q u)
create_run ls ch q u confirmed name shown =
    let none = shown.early refl in
    let connections : List (ℕ × ConnectionState) = map (connection_of (u ++ q)) ls in
    let made : Machine = record { last = 1; streams = (1, new_stream name) ∷ []; connections = connections } in
    let after : Machine = with_stream name (opening ∷ []) [] connections in (
      read (Create name) ∷ wrote (commit_of opening) ∷ [],
      record { behind = wrote (commit_of opening) ∷ []; is = refl; writes = (refl, tt) },
      (
        after,
        (
          made,
          ((λ number stream is. absurd cc), refl),
          (
            after,
            record {
              state = new_stream name;
              is_live = refl;
              chunk = opening;
              spells = record { is_chunk = opening_is_chunk; spelled = refl };
              at_end = refl;
              epoch = omega arith;
              is = refl;
            },
            refl,
          ),
        ),
        record {
          confirmed = [];
          is = refl;
          shown = record {
            rows = λ p. let empty = ap (λ (l : List Offer). count_by p (offered l)) none.1.1.1 in omega (arith, empty);
            epoch = omega arith;
            offers = shown.offers;
            placed = shown.placed;
            apart = shown.apart;
            publishers = shown.publishers;
            early = λ e. absurd cc;
          };
        },
      ),
    )

-- ---- a connection is made

find_front_in : (n : ℕ) (link x : Link) (links more : List Link) (b : Bool) → cond b (Some x) (find_link n links) ≡ Some link → (find_link n links ≡ Some link → find_link n (links ++ more) ≡ Some link) → cond b (Some x) (find_link n (links ++ more)) ≡ Some link
find_front_in n link x links more true there f = there
find_front_in n link x links more false there f = f there

find_front : (n : ℕ) (link : Link) (links more : List Link) → find_link n links ≡ Some link → find_link n (links ++ more) ≡ Some link
find_front n link [] more there = absurd cc
find_front n link (x ∷ links) more there = find_front_in n link x links more (x.number == n) there (λ rest. find_front n link links more rest)

placed_behind : (links : List Link) (new : Link) (offers : List Offer) → AllByRecursion (IsPlaced links) offers → AllByRecursion (IsPlaced (links ++ new ∷ [])) offers
placed_behind links new [] placed = tt
placed_behind links new (o ∷ offers) placed = ((placed.0.0, find_front o.connection placed.0.0 links (new ∷ []) placed.0.1, placed.0.2), placed_behind links new offers placed.1)

none_number_in : (n : ℕ) (x : Link) (links : List Link) (b : Bool) → cond b (Some x) (find_link n links) ≡ None → (find_link n links ≡ None → is_declared n (numbers links) ≡ false) → cond b true (is_declared n (numbers links)) ≡ false
none_number_in n x links true none f = absurd cc
none_number_in n x links false none f = f none

none_number : (n : ℕ) (links : List Link) → find_link n links ≡ None → is_declared n (numbers links) ≡ false
none_number n [] none = refl
none_number n (x ∷ links) none = none_number_in n x links (x.number == n) none (λ rest. none_number n links rest)

unplaced_one : (n : ℕ) (links : List Link) (o : Offer) (b : Bool) → (o.connection == n) ≡ b → find_link n links ≡ None → IsPlaced links o → b ≡ false
unplaced_one n links o true is none placed =
    let here : find_link n links ≡ Some placed.0 = ap (λ (k : ℕ). find_link k links) (sym (same_number o.connection n is)) ∙ placed.1 in
    absurd cc
unplaced_one n links o false is none placed = refl

others_of : (n id : ℕ) (offers : List Offer) → AllByRecursion (λ (o : Offer). (o.connection == n) ≡ false) offers → AllByRecursion (λ (o : Offer). is_of n id o ≡ false) offers
others_of n id [] each = tt
others_of n id (o ∷ offers) each = (other_connection n id o each.0, others_of n id offers each.1)

-- no offer is of a connection that there is not
unplaced : (n : ℕ) (links : List Link) (offers : List Offer) → find_link n links ≡ None → AllByRecursion (IsPlaced links) offers → AllByRecursion (λ (o : Offer). (o.connection == n) ≡ false) offers
unplaced n links [] none placed = tt
unplaced n links (o ∷ offers) none placed = (unplaced_one n links o (o.connection == n) refl none placed.0, unplaced n links offers none placed.1)

others_none : (n id : ℕ) (offers : List Offer) → AllByRecursion (λ (o : Offer). (o.connection == n) ≡ false) offers → frames_of n id offers ≡ []
others_none n id offers each = frames_none n id offers (others_of n id offers each)

prepare_run : (s : Option (List ℕ)) (ls : List Link) (ch : List Chunk) (q u : List Offer) (confirmed : List Entry) (name : List ℕ) (connection : ℕ) → s ≡ Some name → find_link connection ls ≡ None → IsShown (node_of_parts s ls ch q u) confirmed
    → GivesRun (machine_of (node_of_parts s ls ch q u) confirmed) (Prepare connection name) [] (node_of_parts s (ls ++ prepared_link connection ∷ []) ch q u)
prepare_run None ls ch q u confirmed name connection is none shown = absurd cc
prepare_run (Some other) ls ch q u confirmed name connection is none shown =
    let same : other ≡ name = cc in
    let offers : List Offer = u ++ q in
    let empty : frames_of connection 0 offers ≡ [] = others_none connection 0 offers (unplaced connection ls offers none shown.placed) in
    let after : Machine = with_stream other ch confirmed (map (connection_of offers) ls ++ (connection, record { rest = []; inbox = []; publishers = publisher_with 0 [] ∷ [] }) ∷ []) in
    let more : map (connection_of offers) ls ++ (connection, record { rest = []; inbox = []; publishers = publisher_with 0 [] ∷ [] }) ∷ [] ≡ map (connection_of offers) (ls ++ prepared_link connection ∷ []) =
    ap (λ (l : List (List Tagged)). map (connection_of offers) ls ++ (connection, record { rest = []; inbox = []; publishers = publisher_with 0 l ∷ [] }) ∷ []) (sym empty)
    ∙ sym (map-append (connection_of offers) ls (prepared_link connection ∷ [])) in (
      read (Prepare connection name) ∷ [],
      record { behind = []; is = refl; writes = tt },
      (
        after,
        (after, (none_map offers connection ls none, 1, stream_with other ch confirmed, refl, same, refl), refl),
        record {
          confirmed = confirmed;
          is = ap (with_stream other ch confirmed) more;
          shown = record {
            rows = shown.rows;
            epoch = shown.epoch;
            offers = shown.offers;
            placed = placed_behind ls (prepared_link connection) offers shown.placed;
            apart = subst AreApart (sym (map-append (λ (l : Link). l.number) ls (prepared_link connection ∷ []))) (apart_more (numbers ls) connection shown.apart (none_number connection ls none));
            publishers = all_append HasApart ls (prepared_link connection ∷ []) shown.publishers ((refl, tt), tt);
            early = λ e. absurd cc;
          };
        },
      ),
    )

-- ---- bytes are given

placed_one : (new link : Link) (links : List Link) (o : Offer) (b : Bool) → (new.number == o.connection) ≡ b → find_link new.number links ≡ Some link → IsPlaced links o → IsLocal new.number new.publishers o → IsPlaced (put_link new links) o
placed_one new link links o true is there placed local =
    let own : o.connection ≡ new.number = sym (same_number new.number o.connection is) in
    (new, ap (λ (n : ℕ). find_link n (put_link new links)) own ∙ find_new new link links there, local own)
placed_one new link links o false is there placed local = (placed.0, find_other o.connection new links is ∙ placed.1, placed.2)

placed_put : (new link : Link) (links : List Link) (offers : List Offer) → find_link new.number links ≡ Some link → AllByRecursion (IsPlaced links) offers → AllByRecursion (IsLocal new.number new.publishers) offers
    → AllByRecursion (IsPlaced (put_link new links)) offers
placed_put new link links [] there placed local = tt
placed_put new link links (o ∷ offers) there placed local = (placed_one new link links o (new.number == o.connection) refl there placed.0 local.0, placed_put new link links offers there placed.1 local.1)

placed_own : (new link : Link) (links : List Link) (offers : List Offer) → find_link new.number links ≡ Some link → AllByRecursion (λ (o : Offer). o.connection ≡ new.number) offers → AllByRecursion (IsLocal new.number new.publishers) offers
    → AllByRecursion (IsPlaced (put_link new links)) offers
placed_own new link links [] there own local = tt
placed_own new link links (o ∷ offers) there own local =
    ((new, ap (λ (n : ℕ). find_link n (put_link new links)) own.0 ∙ find_new new link links there, local.0 own.0), placed_own new link links offers there own.1 local.1)

own_others : (c n id : ℕ) (offers : List Offer) → (n == c) ≡ false → AllByRecursion (λ (o : Offer). o.connection ≡ c) offers → AllByRecursion (λ (o : Offer). (o.connection == n) ≡ false) offers
own_others c n id [] other own = tt
own_others c n id (o ∷ offers) other own = (ap (λ (k : ℕ). k == n) own.0 ∙ turned n c other, own_others c n id offers other own.1)

give_run : (s : Option (List ℕ)) (ls : List Link) (ch : List Chunk) (q u : List Offer) (confirmed : List Entry) (link : Link) (bytes stream : List ℕ) (commands : List DataCommand) (rest : List ℕ) (served : Served)
    → s ≡ Some stream → find_link link.number ls ≡ Some link → CommandsOf frame_max (link.rest ++ bytes) commands rest → serve_all link.number stream link.publishers commands ≡ Some served → IsShown (node_of_parts s ls ch q u) confirmed
    → GivesRun (machine_of (node_of_parts s ls ch q u) confirmed) (Give link.number bytes) (map (send link.number) served.answers)
    (node_of_parts s (put_link (record { number = link.number; rest = rest; publishers = served.publishers }) ls) ch (q ++ served.offers) u)
give_run None ls ch q u confirmed link bytes stream commands rest served live there reads serves shown = absurd cc
give_run (Some name) ls ch q u confirmed link bytes stream commands rest served live there reads serves shown =
    let offers : List Offer = u ++ q in
    let c : ℕ = link.number in
    let new : Link = record { number = c; rest = rest; publishers = served.publishers } in
    let connections : List (ℕ × ConnectionState) = map (connection_of offers) ls in
    let here : find c connections ≡ Some (state_of offers link) = find_map offers c link ls there in
    let place : Place = record { name = name; chunks = ch; confirmed = confirmed; connections = connections; number = c; rest = rest; state = state_of offers link; is_there = here } in
    let same : stream ≡ name = cc in
    let frames = each_in_frame (link.rest ++ bytes) commands rest reads in
    let serves_here : serve_all c name link.publishers commands ≡ Some served = ap (λ (l : List ℕ). serve_all c l link.publishers commands) (sym same) ∙ serves in
    let run = serve_runs place commands offers link.publishers served frames serves_here (found_apart c link ls there shown.publishers) (local_of c ls link offers there shown.placed) in
    let fit = all_fit c name link.publishers commands served frames serves_here in
    let local = all_parts (IsLocal c served.publishers) offers served.offers run.placed in
    let others = λ (n id : ℕ) (e : (n == c) ≡ false).
    sym (frames_append n id offers served.offers ∙ ap (λ (l : List (List Tagged)). frames_of n id offers ++ l) (others_none n id served.offers (own_others c n id served.offers e run.own)) ∙ append-nil (frames_of n id offers)) in
    let assoc : offers ++ served.offers ≡ u ++ (q ++ served.offers) = append_assoc u q served.offers in
    let end : machine_at place [] (publishers_at place (offers ++ served.offers) served.publishers) ≡ with_stream name ch confirmed (map (connection_of (u ++ (q ++ served.offers))) (put_link new ls)) =
    ap (with_stream name ch confirmed) (put_map offers (offers ++ served.offers) new ls shown.apart others) ∙ ap (λ (l : List Offer). with_stream name ch confirmed (map (connection_of l) (put_link new ls))) assoc in
    let start : Machine = machine_at place commands (publishers_at place offers link.publishers) in
    let step : GiveStep (with_stream name ch confirmed connections) c bytes start = record {
      state = state_of offers link;
      is_there = here;
      commands = commands;
      rest = rest;
      reads = reads;
      is = refl;
    } in (
      read (Give c bytes) ∷ run.events,
      record { behind = run.events; is = refl; writes = run.writes },
      (
        machine_at place [] (publishers_at place (offers ++ served.offers) served.publishers),
        (start, step, run.run),
        record {
          confirmed = confirmed;
          is = end;
          shown = record {
            rows = shown.rows;
            epoch = shown.epoch;
            offers = subst (AllByRecursion IsOffer) assoc (all_append IsOffer offers served.offers shown.offers fit.offers);
            placed = subst (AllByRecursion (IsPlaced (put_link new ls))) assoc
                (all_append (IsPlaced (put_link new ls)) offers served.offers (placed_put new link ls offers there shown.placed local.0) (placed_own new link ls served.offers there run.own local.1));
            apart = subst AreApart (sym (put_numbers new ls)) shown.apart;
            publishers = put_apart new ls run.apart shown.publishers;
            early = λ e. absurd cc;
          };
        },
      ),
    )

-- ---- offers are committed

end_push : (l : List Chunk) (c : Chunk) → end_of_list (l ++ c ∷ []) ≡ end_of_chunk c
end_push [] c = refl
end_push (x ∷ []) c = refl
end_push (x ∷ y ∷ l) c = end_push (y ∷ l) c

epoch_push : (l : List Chunk) (c : Chunk) → last_epoch (l ++ c ∷ []) ≡ c.epoch
epoch_push [] c = refl
epoch_push (x ∷ []) c = refl
epoch_push (x ∷ y ∷ l) c = epoch_push (y ∷ l) c

abbrev commits : List Chunk → List Event
commits chunks = map wrote (map commit_of chunks)

-- pieces are committed one after the other
commits_run : (name : List ℕ) (connections : List (ℕ × ConnectionState)) (confirmed : List Entry) (ch : List Chunk) (first : ℕ) (ps : List (List Entry)) → end_of_list ch ≡ first → last_epoch ch ≤ 1
    → AllByRecursion (AllByRecursion IsMessage) ps → AllByRecursion IsChunk (chunks_from first ps)
    → MachineRun (with_stream name ch confirmed connections) (commits (chunks_from first ps)) (with_stream name (ch ++ chunks_from first ps) confirmed connections)
commits_run name connections confirmed ch first [] at epoch fits spelled = ap (λ (l : List Chunk). with_stream name l confirmed connections) (append-nil ch)
commits_run name connections confirmed ch first (piece ∷ ps) at epoch fits spelled =
    let c : Chunk = user_chunk first piece in
    let mid : Machine = with_stream name (ch ++ c ∷ []) confirmed connections in
    let step : CommitStep (with_stream name ch confirmed connections) 1 (chunk_bytes c) mid = record {
      state = stream_with name ch confirmed;
      is_live = refl;
      chunk = c;
      spells = record { is_chunk = spelled.0; spelled = refl };
      at_end = sym at;
      epoch = epoch;
      is = refl;
    } in
    let next_at : end_of_list (ch ++ c ∷ []) ≡ first + length piece = end_push ch c ∙ ap (λ (n : ℕ). first + n) (records_all piece fits.0) in
    let next_epoch : last_epoch (ch ++ c ∷ []) ≤ 1 = let e = epoch_push ch c in omega arith in
    let rest = commits_run name connections confirmed (ch ++ c ∷ []) (first + length piece) ps next_at next_epoch fits.1 spelled.1 in
    (mid, step, subst (λ (l : List Chunk). MachineRun mid (commits (chunks_from (first + length piece) ps)) (with_stream name l confirmed connections)) (append_assoc ch (c ∷ []) (chunks_from (first + length piece) ps)) rest)

untagged_append : (l m : List Chunk) → untagged (l ++ m) ≡ untagged l ++ untagged m
untagged_append l m = ap (flat_map untagged_of) (Rows-append l m) ∙ flat_map-append untagged_of (Rows l) (Rows m)

abbrev all_of : List (List Entry) → List Entry
all_of ps = flat_map (λ (p : List Entry). p) ps

rows_plain : (first : ℕ) (es : List Entry) → flat_map untagged_of (rows_from first es []) ≡ es
rows_plain first [] = refl
rows_plain first (e ∷ es) = ap (λ (l : List Entry). e ∷ l) (rows_plain (first + entry_records e) es)

untagged_one : (first : ℕ) (piece : List Entry) → untagged (user_chunk first piece ∷ []) ≡ piece
untagged_one first piece = ap (flat_map untagged_of) (append-nil (rows_from first piece [])) ∙ rows_plain first piece

untagged_pieces : (first : ℕ) (ps : List (List Entry)) → untagged (chunks_from first ps) ≡ all_of ps
untagged_pieces first [] = refl
untagged_pieces first (piece ∷ ps) =
    untagged_append (user_chunk first piece ∷ []) (chunks_from (first + length piece) ps) ∙ ap (λ (l : List Entry). l ++ untagged (chunks_from (first + length piece) ps)) (untagged_one first piece)
    ∙ ap (λ (l : List Entry). piece ++ l) (untagged_pieces (first + length piece) ps)

pieces_join : (n : ℕ) (es : List Entry) → length es ≤ n → all_of (first_pieces n es) ≡ es
pieces_join zero [] le = refl
pieces_join zero (e ∷ es) le = absurd (omega (arith, le))
pieces_join (suc n) [] le = refl
pieces_join (suc n) (e ∷ es) le =
    let parts = ap length (take-append-drop chunk_max (e ∷ es)) in
    let both = length-append (take chunk_max (e ∷ es)) (drop chunk_max (e ∷ es)) in
    let one = length-take chunk_max (e ∷ es) in
    ap (λ (l : List Entry). take chunk_max (e ∷ es) ++ l) (pieces_join n (drop chunk_max (e ∷ es)) (omega (arith, parts, both, one, le))) ∙ take-append-drop chunk_max (e ∷ es)

pub all_joined : (es : List Entry) → all_of (pieces_of es) ≡ es
unfolding pieces_of
all_joined es = pieces_join (length es) es (omega arith)

offers_join : (offers : List Offer) → all_of (offer_pieces offers) ≡ offered offers
offers_join [] = refl
offers_join (o ∷ offers) =
    flat_map-append (λ (p : List Entry). p) (pieces_of (entries o.items)) (offer_pieces offers) ∙ ap (λ (l : List Entry). l ++ all_of (offer_pieces offers)) (all_joined (entries o.items))
    ∙ ap (λ (l : List Entry). entries o.items ++ l) (offers_join offers)

epoch_after : (ch : List Chunk) (first : ℕ) (ps : List (List Entry)) → last_epoch ch ≤ 1 → last_epoch (ch ++ chunks_from first ps) ≤ 1
epoch_after ch first [] le = subst (λ (l : List Chunk). last_epoch l ≤ 1) (sym (append-nil ch)) le
epoch_after ch first (piece ∷ ps) le =
    let c : Chunk = user_chunk first piece in
    let next : last_epoch (ch ++ c ∷ []) ≤ 1 = let e = epoch_push ch c in omega arith in
    subst (λ (l : List Chunk). last_epoch l ≤ 1) (append_assoc ch (c ∷ []) (chunks_from (first + length piece) ps)) (epoch_after (ch ++ c ∷ []) (first + length piece) ps next)

count_append : (p : Entry → Bool) (xs ys : List Entry) → count_by p (xs ++ ys) ≡ count_by p xs + count_by p ys
count_append p xs ys = sum_by-append (λ (x : Entry). cond (p x) 1 0) xs ys

offered_append : (a b : List Offer) → offered (a ++ b) ≡ offered a ++ offered b
offered_append a b = flat_map-append (λ (o : Offer). entries o.items) a b

writes_all : (outputs : List OutputLine) → Writes (map wrote outputs) outputs
writes_all [] = tt
writes_all (o ∷ outputs) = (refl, writes_all outputs)

settle_run : (s : Option (List ℕ)) (ls : List Link) (ch : List Chunk) (q u : List Offer) (confirmed : List Entry) → AllByRecursion IsChunk (chunks_from (end_of_list ch) (offer_pieces q)) → IsSome s → IsShown (node_of_parts s ls ch q u) confirmed
    → GivesRun (machine_of (node_of_parts s ls ch q u) confirmed) (Settle 1) (map commit_of (chunks_from (end_of_list ch) (offer_pieces q))) (node_of_parts s ls (ch ++ chunks_from (end_of_list ch) (offer_pieces q)) [] (u ++ q))
settle_run None ls ch q u confirmed spelled some shown = absurd cc
settle_run (Some name) ls ch q u confirmed spelled some shown =
    let connections : List (ℕ × ConnectionState) = map (connection_of (u ++ q)) ls in
    let first : ℕ = end_of_list ch in
    let ps : List (List Entry) = offer_pieces q in
    let halves = all_parts IsOffer u q shown.offers in
    let run = commits_run name connections confirmed ch first ps refl shown.epoch (queue_pieces q halves.1) spelled in
    let rows : untagged (ch ++ chunks_from first ps) ≡ untagged ch ++ offered q =
    untagged_append ch (chunks_from first ps) ∙ ap (λ (l : List Entry). untagged ch ++ l) (untagged_pieces first ps ∙ offers_join q) in
    let same : u ++ q ≡ (u ++ q) ++ [] = sym (append-nil (u ++ q)) in (
      read (Settle 1) ∷ commits (chunks_from first ps),
      record { behind = commits (chunks_from first ps); is = refl; writes = writes_all (map commit_of (chunks_from first ps)) },
      (
        with_stream name (ch ++ chunks_from first ps) confirmed connections,
        (with_stream name ch confirmed connections, refl, run),
        record {
          confirmed = confirmed;
          is = ap (λ (l : List Offer). with_stream name (ch ++ chunks_from first ps) confirmed (map (connection_of l) ls)) same;
          shown = record {
            rows = λ p.
                let was = shown.rows p in
                let now = ap (count_by p) rows in
                let parts = count_append p (untagged ch) (offered q) in
                let both = ap (count_by p) (offered_append u q) in
                let sum = count_append p (offered u) (offered q) in
                omega (arith, was, now, parts, both, sum);
            epoch = epoch_after ch first ps shown.epoch;
            offers = subst (AllByRecursion IsOffer) same shown.offers;
            placed = subst (AllByRecursion (IsPlaced ls)) same shown.placed;
            apart = shown.apart;
            publishers = shown.publishers;
            early = λ e. absurd cc;
          };
        },
      ),
    )

-- ---- offers are confirmed

-- each entry of these offers and each confirmed one stands in the list
abbrev AreRows : List Entry → List Offer → List Chunk → Type 0
AreRows confirmed offers ch = (p : Entry → Bool) → count_by p confirmed + count_by p (offered offers) ≤ count_by p (untagged ch)

rows_next : (confirmed : List Entry) (o : Offer) (offers : List Offer) (ch : List Chunk) → AreRows confirmed (o ∷ offers) ch → AreRows (confirmed ++ entries o.items) offers ch
rows_next confirmed o offers ch rows p =
    let was = rows p in
    let one = count_append p confirmed (entries o.items) in
    let both = count_append p (entries o.items) (offered offers) in
    omega (arith, was, one, both)

rows_later : (confirmed : List Entry) (o : Offer) (offers : List Offer) (ch : List Chunk) → AreRows confirmed (o ∷ offers) ch → AreRows confirmed offers ch
rows_later confirmed o offers ch rows p =
    let was = rows p in
    let both = count_append p (entries o.items) (offered offers) in
    omega (arith, was, both)

-- an offer of a connection is confirmed, wherever it stands
confirm_step : (name : List ℕ) (ls : List Link) (ch : List Chunk) (confirmed : List Entry) (link : Link) (front back : List Offer) (o : Offer) → find_link link.number ls ≡ Some link → AreApart (numbers ls) → AreApart link.publishers
    → o.connection ≡ link.number → is_declared o.publisher link.publishers ≡ true → IsOffer o
    → (more : List Offer) → AreRows (confirmed ++ entries o.items) more ch
    → ConfirmStep (with_stream name ch confirmed (map (connection_of (front ++ o ∷ back)) ls)) link.number (frame (body_of data_table (PublishConfirm o.publisher (ids o.items))))
    (with_stream name ch (confirmed ++ entries o.items) (map (connection_of (front ++ back)) ls))
confirm_step name ls ch confirmed link front back o there apart own_apart own declared offer more rows =
    let c : ℕ = link.number in
    let id : ℕ = o.publisher in
    let a : List Offer = front ++ o ∷ back in
    let b : List Offer = front ++ back in
    let at = among id link.publishers declared own_apart in
    let same = λ (n : ℕ) (e : (n == id) ≡ false). frames_skip c n front back o (other_publisher c n o (turned n id e)) in
    let others = λ (d n : ℕ) (e : (d == c) ≡ false). frames_skip d n front back o (other_connection d n o (ap (λ (k : ℕ). k == d) own ∙ turned d c e)) in
    let later : publishers_of c b link.publishers ≡ publishers_of c a at.before ++ publisher_with id (frames_of c id front ++ frames_of c id back) ∷ publishers_of c a at.after =
    publishers_but_one c id a b link.publishers at same ∙ ap (λ (l : List (List Tagged)). publishers_of c a at.before ++ publisher_with id l ∷ publishers_of c a at.after) (frames_append c id front back) in
    let put_is : put c (record { rest = link.rest; inbox = []; publishers = publishers_of c a at.before ++ publisher_with id (frames_of c id front ++ frames_of c id back) ∷ publishers_of c a at.after }) (map (connection_of a) ls) ≡ map (connection_of b) ls =
    ap (λ (l : List PublisherState). put c (record { rest = link.rest; inbox = []; publishers = l }) (map (connection_of a) ls)) (sym later)
    ∙ put_map a b link ls apart others ∙ ap (map (connection_of b)) (put_itself link ls there) in
    let counted = λ (entry : Entry). (let all = rows (is_same_entry entry) in let fewer : count_by (is_same_entry entry) (confirmed ++ entries o.items) ≤ count_by (is_same_entry entry) (untagged ch) = omega (arith, all) in fewer) in
    record {
      state = state_of a link;
      is_there = find_map a c link ls there;
      before = publishers_of c a at.before;
      publisher = publisher_with id (frames_of c id a);
      after = publishers_of c a at.after;
      declared = publishers_split c id a link.publishers at;
      unnamed = refl;
      earlier = frames_of c id front;
      items = o.items;
      later = frames_of c id back;
      unanswered = frames_hit c id front back o (is_own c id o own refl);
      body = body_of data_table (PublishConfirm id (ids o.items));
      framed = refl;
      confirms = record { is_command = (confirm_fits o offer).0; spelled = refl };
      stream = stream_with name ch confirmed;
      is_live = refl;
      counted = counted;
      is = ap (with_stream name ch (confirmed ++ entries o.items)) (sym put_is);
    }

-- the offers of a connection that stand among these are confirmed in order
abbrev ConfirmsAll : List ℕ → List Link → List Chunk → Link → List Offer → List Offer → List Entry → List Offer → Type 0
ConfirmsAll name ls ch link u q confirmed kept =
    MachineRun (with_stream name ch confirmed (map (connection_of (kept ++ (u ++ q))) ls)) (map wrote (map confirm_of (offers_of link.number u)))
    (with_stream name ch (confirmed ++ offered (offers_of link.number u)) (map (connection_of (kept ++ (offers_of_others link.number u ++ q))) ls))

polls_by : (name : List ℕ) (ls : List Link) (ch : List Chunk) (confirmed : List Entry) (link : Link) (kept : List Offer) (o : Offer) (u q : List Offer) → find_link link.number ls ≡ Some link → AreApart (numbers ls) → AreApart link.publishers
    → AllByRecursion (IsLocal link.number link.publishers) (o ∷ u) → AllByRecursion IsOffer (o ∷ u) → AreRows confirmed (o ∷ u) ch → (b : Bool) → (o.connection == link.number) ≡ b
    → ((others : List Entry) (front : List Offer) → AreRows others u ch → ConfirmsAll name ls ch link u q others front)
    → MachineRun (with_stream name ch confirmed (map (connection_of (kept ++ (o ∷ u ++ q))) ls)) (map wrote (map confirm_of (cond b (o ∷ offers_of link.number u) (offers_of link.number u))))
    (with_stream name ch (confirmed ++ offered (cond b (o ∷ offers_of link.number u) (offers_of link.number u))) (map (connection_of (kept ++ (cond (not b) (o ∷ offers_of_others link.number u) (offers_of_others link.number u) ++ q))) ls))
polls_by name ls ch confirmed link kept o u q there apart own_apart local offers rows true is then_all =
    let own : o.connection ≡ link.number = same_number o.connection link.number is in
    let next : Machine = with_stream name ch (confirmed ++ entries o.items) (map (connection_of (kept ++ (u ++ q))) ls) in
    let old : Machine = with_stream name ch confirmed (map (connection_of (kept ++ (o ∷ u ++ q))) ls) in
    let step = confirm_step name ls ch confirmed link kept (u ++ q) o there apart own_apart own (local.0 own) offers.0 u (rows_next confirmed o u ch rows) in
    let rest = then_all (confirmed ++ entries o.items) kept (rows_next confirmed o u ch rows) in (
      next,
      inl (subst (λ (n : ℕ). ConfirmStep old n (frame (body_of data_table (PublishConfirm o.publisher (ids o.items)))) next) (sym own) step),
      subst (λ (l : List Entry). MachineRun next (map wrote (map confirm_of (offers_of link.number u))) (with_stream name ch l (map (connection_of (kept ++ (offers_of_others link.number u ++ q))) ls)))
          (append_assoc confirmed (entries o.items) (offered (offers_of link.number u))) rest,
    )
polls_by name ls ch confirmed link kept o u q there apart own_apart local offers rows false is then_all =
    let from : (kept ++ o ∷ []) ++ (u ++ q) ≡ kept ++ (o ∷ u ++ q) = append_assoc kept (o ∷ []) (u ++ q) in
    let to : (kept ++ o ∷ []) ++ (offers_of_others link.number u ++ q) ≡ kept ++ (o ∷ offers_of_others link.number u ++ q) = append_assoc kept (o ∷ []) (offers_of_others link.number u ++ q) in
    let rest = then_all confirmed (kept ++ o ∷ []) (rows_later confirmed o u ch rows) in
    subst (λ (l : List Offer). MachineRun (with_stream name ch confirmed (map (connection_of l) ls)) (map wrote (map confirm_of (offers_of link.number u)))
    (with_stream name ch (confirmed ++ offered (offers_of link.number u)) (map (connection_of (kept ++ (o ∷ offers_of_others link.number u ++ q))) ls))) from
    (subst (λ (l : List Offer). MachineRun (with_stream name ch confirmed (map (connection_of ((kept ++ o ∷ []) ++ (u ++ q))) ls)) (map wrote (map confirm_of (offers_of link.number u)))
    (with_stream name ch (confirmed ++ offered (offers_of link.number u)) (map (connection_of l) ls))) to rest)

-- the offers of a connection that stand among these are confirmed in order
polls : (name : List ℕ) (ls : List Link) (ch : List Chunk) (link : Link) (u q : List Offer) → find_link link.number ls ≡ Some link → AreApart (numbers ls) → AreApart link.publishers
    → AllByRecursion (IsLocal link.number link.publishers) u → AllByRecursion IsOffer u → (confirmed : List Entry) (kept : List Offer) → AreRows confirmed u ch → ConfirmsAll name ls ch link u q confirmed kept
polls name ls ch link [] q there apart own_apart local offers confirmed kept rows = ap (λ (l : List Entry). with_stream name ch l (map (connection_of (kept ++ q)) ls)) (append-nil confirmed)
polls name ls ch link (o ∷ u) q there apart own_apart local offers confirmed kept rows =
    polls_by name ls ch confirmed link kept o u q there apart own_apart local offers rows (o.connection == link.number) refl (polls name ls ch link u q there apart own_apart local.1 offers.1)

-- what a test picks, and what it leaves
split_count_in : (p : Entry → Bool) (c : ℕ) (o : Offer) (b : Bool) (mine others u : List Offer) → count_by p (offered u) ≡ count_by p (offered mine) + count_by p (offered others)
    → count_by p (offered (o ∷ u)) ≡ count_by p (offered (cond b (o ∷ mine) mine)) + count_by p (offered (cond (not b) (o ∷ others) others))
split_count_in p c o true mine others u e = let x = count_append p (entries o.items) (offered u) in let y = count_append p (entries o.items) (offered mine) in omega (arith, e, x, y)
split_count_in p c o false mine others u e = let x = count_append p (entries o.items) (offered u) in let y = count_append p (entries o.items) (offered others) in omega (arith, e, x, y)

split_count : (p : Entry → Bool) (c : ℕ) (u : List Offer) → count_by p (offered u) ≡ count_by p (offered (offers_of c u)) + count_by p (offered (offers_of_others c u))
split_count p c [] = refl
split_count p c (o ∷ u) = split_count_in p c o (o.connection == c) (offers_of c u) (offers_of_others c u) u (split_count p c u)

left_in : (P : Offer → Type 0) (o : Offer) (others : List Offer) (b : Bool) → P o → AllByRecursion P others → AllByRecursion P (cond b (o ∷ others) others)
left_in P o others true p q = (p, q)
left_in P o others false p q = q

-- what holds of all offers holds of those of the others
left_over : (P : Offer → Type 0) (c : ℕ) (u : List Offer) → AllByRecursion P u → AllByRecursion P (offers_of_others c u)
left_over P c [] each = tt
left_over P c (o ∷ u) each = left_in P o (offers_of_others c u) (not (o.connection == c)) each.0 (left_over P c u each.1)

poll_run : (s : Option (List ℕ)) (ls : List Link) (ch : List Chunk) (q u : List Offer) (confirmed : List Entry) (link : Link) → find_link link.number ls ≡ Some link → IsShown (node_of_parts s ls ch q u) confirmed
    → GivesRun (machine_of (node_of_parts s ls ch q u) confirmed) (Poll link.number) (map confirm_of (offers_of link.number u)) (node_of_parts s ls ch q (offers_of_others link.number u))
poll_run None ls ch q u confirmed link there shown =
    let none : ls ≡ [] = (shown.early refl).0 in
    let here : find_link link.number [] ≡ Some link = ap (find_link link.number) (sym none) ∙ there in
    absurd cc
poll_run (Some name) ls ch q u confirmed link there shown =
    let c : ℕ = link.number in
    let offers = all_parts IsOffer u q shown.offers in
    let placed = all_parts (IsPlaced ls) u q shown.placed in
    let outputs : List OutputLine = map confirm_of (offers_of c u) in
    let run = polls name ls ch link u q there shown.apart (found_apart c link ls there shown.publishers) (local_of c ls link u there placed.0) offers.0 confirmed [] shown.rows in
    let old : Machine = with_stream name ch confirmed (map (connection_of (u ++ q)) ls) in (
      read (Poll c) ∷ map wrote outputs,
      record { behind = map wrote outputs; is = refl; writes = writes_all outputs },
      (
        with_stream name ch (confirmed ++ offered (offers_of c u)) (map (connection_of (offers_of_others c u ++ q)) ls),
        (old, refl, run),
        record {
          confirmed = confirmed ++ offered (offers_of c u);
          is = refl;
          shown = record {
            rows = λ p. let was = shown.rows p in let parts = split_count p c u in let sum = count_append p confirmed (offered (offers_of c u)) in omega (arith, was, parts, sum);
            epoch = shown.epoch;
            offers = all_append IsOffer (offers_of_others c u) q (left_over IsOffer c u offers.0) offers.1;
            placed = all_append (IsPlaced ls) (offers_of_others c u) q (left_over (IsPlaced ls) c u placed.0) placed.1;
            apart = shown.apart;
            publishers = shown.publishers;
            early = λ e. absurd cc;
          };
        },
      ),
    )

-- ---- lines

-- the same run, of equal outputs to an equal node
moved : (machine : Machine) (line : ScriptLine) (outputs others : List OutputLine) (new other : NodeState) → others ≡ outputs → other ≡ new → GivesRun machine line outputs new → GivesRun machine line others other
moved machine line outputs others new other same is run =
    subst (λ (o : List OutputLine). GivesRun machine line o other) (sym same) (subst (λ (n : NodeState). GivesRun machine line outputs n) (sym is) run)

create_at : (s : Option (List ℕ)) (ls : List Link) (ch : List Chunk) (q u : List Offer) (confirmed : List Entry) (name : List ℕ) → s ≡ None → IsShown (node_of_parts s ls ch q u) confirmed
    → GivesRun (machine_of (node_of_parts s ls ch q u) confirmed) (Create name) (commit_of opening ∷ []) (node_of_parts (Some name) ls (opening ∷ []) q u)
create_at None ls ch q u confirmed name is shown = create_run ls ch q u confirmed name shown
create_at (Some other) ls ch q u confirmed name is shown = absurd cc

poll_there : (o : Option Link) → IsSome o → (link : Link) × (o ≡ Some link)
poll_there None some = absurd cc
poll_there (Some link) some = (link, refl)

-- each line is a run
pub line_runs : (node new : NodeState) (line : ScriptLine) (outputs : List OutputLine) (confirmed : List Entry) → IsShown node confirmed → LineGives node line outputs new → GivesRun (machine_of node confirmed) line outputs new
line_runs node new (Create name) outputs confirmed shown gives =
    moved _ (Create name) _ outputs _ new gives.1 gives.2 (create_at node.stream node.links node.chunks node.queued node.unconfirmed confirmed name gives.0 shown)
line_runs node new (Prepare connection name) outputs confirmed shown gives =
    moved _ (Prepare connection name) _ outputs _ new gives.5 gives.6 (prepare_run node.stream node.links node.chunks node.queued node.unconfirmed confirmed name connection gives.4 gives.0 shown)
line_runs node new (Give connection bytes) outputs confirmed shown gives =
    let number : gives.link.number ≡ connection = found_number connection gives.link node.links gives.is_there in
    let there : find_link gives.link.number node.links ≡ Some gives.link = ap (λ (n : ℕ). find_link n node.links) number ∙ gives.is_there in
    let serves : serve_all gives.link.number gives.stream gives.link.publishers gives.commands ≡ Some gives.served = ap (λ (n : ℕ). serve_all n gives.stream gives.link.publishers gives.commands) number ∙ gives.serves in
    let run = give_run node.stream node.links node.chunks node.queued node.unconfirmed confirmed gives.link bytes gives.stream gives.commands gives.rest gives.served gives.is_live there gives.reads serves shown in
    moved _ (Give connection bytes) _ outputs _ new gives.written gives.is
    (subst (λ (n : ℕ). GivesRun (machine_of node confirmed) (Give n bytes) (map (send n) gives.served.answers)
    (node_of_parts node.stream (put_link (record { number = n; rest = gives.rest; publishers = gives.served.publishers }) node.links) node.chunks (node.queued ++ gives.served.offers) node.unconfirmed)) number run)
line_runs node new (Poll connection) outputs confirmed shown gives =
    let found = poll_there (find_link connection node.links) gives.0 in
    let number : found.0.number ≡ connection = found_number connection found.0 node.links found.1 in
    let there : find_link found.0.number node.links ≡ Some found.0 = ap (λ (n : ℕ). find_link n node.links) number ∙ found.1 in
    let run = poll_run node.stream node.links node.chunks node.queued node.unconfirmed confirmed found.0 there shown in
    moved _ (Poll connection) _ outputs _ new gives.1 gives.2
    (subst (λ (n : ℕ). GivesRun (machine_of node confirmed) (Poll n) (map confirm_of (offers_of n node.unconfirmed)) (node_of_parts node.stream node.links node.chunks node.queued (offers_of_others n node.unconfirmed))) number run)
line_runs node new (Settle stream) outputs confirmed shown gives =
    let spelled = recursion_from_All IsChunk (queued_chunks node) gives.2 in
    let run = settle_run node.stream node.links node.chunks node.queued node.unconfirmed confirmed spelled gives.1 shown in
    let here : GivesRun (machine_of node confirmed) (Settle stream) (map commit_of (queued_chunks node)) _ =
    subst (λ (n : ℕ). GivesRun (machine_of node confirmed) (Settle n) (map commit_of (queued_chunks node)) (node_of_parts node.stream node.links (node.chunks ++ queued_chunks node) [] (node.unconfirmed ++ node.queued))) (sym gives.0) run in
    moved _ (Settle stream) _ outputs _ new gives.3 gives.4 here
line_runs node new other outputs confirmed shown gives = absurd gives

-- whatever machine the node showed
pub answered_runs : (old new : NodeState) (bytes : List ℕ) (lines : List (List ℕ)) → LineAnswered old bytes lines new → LineRuns old bytes lines new
answered_runs old new bytes lines a machine shows = (
  a.line,
  a.spells,
  a.outputs,
  a.written,
  subst (λ (m : Machine). GivesRun m a.line a.outputs new) (sym shows.is) (line_runs old new a.line a.outputs shows.confirmed shows.shown a.gives),
)

-- a new node shows the machine with nothing
pub new_shows : Shows new_node empty_machine
new_shows = record {
  confirmed = [];
  is = refl;
  shown = record { rows = λ p. omega arith; epoch = omega arith; offers = tt; placed = tt; apart = tt; publishers = tt; early = λ e. (refl, (refl, (refl, refl))) };
}

pub line_answered_runs : (old new : NodeState) (bytes : List ℕ) (line : ScriptLine) (answer : Result (List (List ℕ)) LineFault) → Spells bytes line → AnswersLine old line answer new → IfOk answer (λ lines. LineRuns old bytes lines new)
line_answered_runs old new bytes line (Ok lines) spells a = answered_runs old new bytes lines (record { line = line; spells = spells; outputs = a.0; gives = a.1; written = a.2 })
line_answered_runs old new bytes line (Err fault) spells a = tt
