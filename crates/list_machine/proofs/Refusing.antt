-- Why the machine doesn't take the wrong steps.
use Rattle.std.proofs.Common.{◌≡◌, ℕ, ◌≤◌, false, true, List, [], ◌∷◌, ◌++◌, Option, Some, None, refl, sym, ap, subst, ◌∙◌, inl, inr, arith}
use Rattle.frame_wire.specs.Fields.{u8_bytes, u64_bytes}
use Rattle.chunk_format.specs.declared.entry.Entry.{Entry}
use Rattle.chunk_format.specs.declared.chunk.Chunk.{Chunk}
use Rattle.chunk_format.specs.declared.chunk.Header.{Header}
use Rattle.chunk_format.specs.Chunks.{header_of}
use Rattle.chunk_format.specs.LogRows.{Tag, LogRow}
use Rattle.chunk_format.specs.Logs.{next_above}
use Rattle.std.specs.List.{AllByRecursion}
use Rattle.command_data.specs.declared.item.Tagged.{Tagged}
use Rattle.command_all.specs.declared.command.Command.{Command}
use Rattle.script_text.specs.declared.output.Ending.{Ending}
use Rattle.list_machine.specs.Items.{items_in, AnyByRecursion, AreReached}
use Rattle.list_machine.specs.Streams.{Frame, Declaration, waiting, active, Subscription, Stream}
use Rattle.list_machine.specs.Commits.{SentInOrder}
use Rattle.list_machine.specs.Publishing.{MayConfirm}
use Rattle.list_machine.specs.Moves.{commits}
use Rattle.list_machine.specs.Machines.{open_now, leaving, gone, Connection, fresh, idle, Machine, Moves}
use Rattle.list_machine.specs.Sends.{ids_of_items, SendStep, Owed, Unasked}
use Rattle.list_machine.specs.Steps.{Event, committed, sent, handled, ended, MachineStep}
use Rattle.list_machine.specs.Examples.{p_name, item, chunk_of, opening, machine_of, stream_of, prepared, seven, is_declared, delivery}
use Rattle.list_machine.specs.Wrongs.{HasNoStep, one_waits, two_wait, two_then_one, one_confirmed, five_waits, first_chunk, later_opening, confirms_ids, ended_connection}
use Rattle.list_machine.proofs.Going.{Stands, written, Moved, moved_at}
use Rattle.list_machine.proofs.Handling.{frames_of, read_by, alone, one_of_two, seven_of, none_owed, plain_unasked, confirm_told, deliver_told}

-- ---- no machine with this stream and connection takes it

abbrev pub Refused : Stream → Connection → Event → Type 0
Refused s k event = (m new : Machine) → Stands m s k → MachineStep m event new → ⊥

-- nor does the one that is written out
pub no_step : (s : Stream) (k : Connection) (event : Event) → Refused s k event → HasNoStep (machine_of s k idle) event
no_step s k event refused new step = refused (machine_of s k idle) new (written s k idle) step

pub commit_told : (m new : Machine) (s : Stream) (k : Connection) (c : Chunk) → Stands m s k → MachineStep m (committed 1 c) new → Moved s (commits c)
commit_told m new s k c stands step = subst (λ (x : Stream). Moved x (commits c)) (stands.streams 1) (moved_at 1 m new step.moves (commits c) step.does.0 (step.streams 1))

-- a stream with these chunks, whose publisher 7 sent these frames
abbrev pub published_stream : List Chunk → List Frame → Stream
published_stream chunks frames = stream_of chunks (prepared ∷ seven frames ∷ []) [] []

-- ---- chunks

pub out_of_place : Refused (published_stream (opening ∷ []) one_waits) fresh (committed 1 (chunk_of 1 5 (item 1 97)))
out_of_place m new stands step = let t = commit_told m new _ fresh _ stands step in let at = t.step.at_end in absurd (omega (arith, at))

pub twice : Refused (published_stream (opening ∷ []) one_waits) fresh (committed 1 opening)
twice m new stands step = let t = commit_told m new _ fresh _ stands step in let at = t.step.at_end in absurd (omega (arith, at))

pub lower_epoch : Refused (published_stream (opening ∷ later_opening ∷ []) one_waits) fresh (committed 1 (chunk_of 1 2 (item 1 97)))
lower_epoch m new stands step = let t = commit_told m new _ fresh _ stands step in let epoch = t.step.epoch in absurd (omega (arith, epoch))

wrong_item : (x : Tagged) (entry : Entry) (id : ℕ) (before : List LogRow) → (x.id ≡ id → ⊥) → SentInOrder (record { name = p_name; id = id }) entry before (seven (record { items = x ∷ []; waits = true } ∷ [])) → ⊥
wrong_item x entry id before other s = other (ap (λ (y : Tagged). y.id) (alone x (record { id = id; entry = entry }) s.earlier s.later s.items).same)

no_name_sent : (tag : Tag) (entry : Entry) (before : List LogRow) → SentInOrder tag entry before prepared → ⊥
no_name_sent tag entry before s = let name = s.name in cc

pub nobody_sent : Refused (published_stream (opening ∷ []) one_waits) fresh (committed 1 (chunk_of 1 1 (item 9 99)))
unfolding u8_bytes u64_bytes
nobody_sent m new stands step =
    let t = commit_told m new _ fresh _ stands step in
    elim t.step.rows.0.1 [
      | inl s ↦ no_name_sent _ _ _ s
      | inr rest ↦ elim rest [ inl s ↦ wrong_item (item 1 97) _ 9 [] (λ e. absurd (omega (arith, e))) s | inr none ↦ none ]
    ]

first_passed : (x y z : Tagged) (earlier later : List Tagged) → (x.id ≡ z.id → ⊥) → x ∷ y ∷ [] ≡ earlier ++ z ∷ later → AreReached [] earlier → ⊥
first_passed x y z [] later other e passed = let same : x ≡ z = cc in other (ap (λ (w : Tagged). w.id) same)
first_passed x y z (w ∷ earlier) later other e passed = passed.0

pub passing : Refused (published_stream (opening ∷ []) two_wait) fresh (committed 1 (chunk_of 1 1 (item 2 98)))
unfolding u8_bytes u64_bytes
passing m new stands step =
    let t = commit_told m new _ fresh _ stands step in
    elim t.step.rows.0.1 [
      | inl s ↦ no_name_sent _ _ _ s
      | inr rest ↦ elim rest [ inl s ↦ first_passed (item 1 97) (item 2 98) (item 2 98) s.earlier s.later (λ e. absurd (omega (arith, e))) s.items s.passed | inr none ↦ none ]
    ]

pub tag_twice : Refused (published_stream (opening ∷ first_chunk ∷ []) one_confirmed) fresh (committed 1 (chunk_of 1 2 (item 1 97)))
unfolding u8_bytes u64_bytes
tag_twice m new stands step = let t = commit_told m new _ fresh _ stands step in let above = t.step.rows.0.0.0 in absurd (omega (arith, above))

pub tag_falls : Refused (published_stream (opening ∷ chunk_of 1 1 (item 2 98) ∷ []) two_then_one) fresh (committed 1 (chunk_of 1 2 (item 1 97)))
unfolding u8_bytes u64_bytes
tag_falls m new stands step = let t = commit_told m new _ fresh _ stands step in let above = t.step.rows.0.0.0 in absurd (omega (arith, above))

-- ---- confirms

-- each of these ids is at most that of some item
abbrev AllReached : List Tagged → List ℕ → Type 0
AllReached tags ids = AllByRecursion (λ (id : ℕ). AnyByRecursion (λ (x : Tagged). id ≤ x.id) tags) ids

ids_reached : (tags items : List Tagged) → AreReached tags items → AllReached tags (ids_of_items items)
ids_reached tags [] r = tt
ids_reached tags (x ∷ items) r = (r.0, ids_reached tags items r.1)

-- what is confirmed to publisher 7 is reached
confirm_reached : (chunks : List Chunk) (frames : List Frame) (ids : List ℕ) (m new : Machine) → Stands m (published_stream chunks frames) fresh → MachineStep m (sent 1 (confirms_ids 7 ids)) new → AllReached (items_in p_name chunks) ids
confirm_reached chunks frames ids m new stands step =
    let s : Stream = published_stream chunks frames in
    let t = confirm_told m new s 7 ids stands step in
    let name : t.name ≡ Some p_name = sym t.step.named ∙ ap (λ (d : Declaration). d.name) (sym (seven_of s frames refl t.step.at).0) in
    let may : AreReached (items_in p_name chunks) t.items = subst (λ (n : Option (List ℕ)). MayConfirm s n t.items) name t.step.may in
    subst (AllReached (items_in p_name chunks)) t.ids_are (ids_reached (items_in p_name chunks) t.items may)

pub confirm_early : Refused (published_stream (opening ∷ []) one_waits) fresh (sent 1 (confirms_ids 7 (1 ∷ [])))
confirm_early m new stands step = (confirm_reached (opening ∷ []) one_waits (1 ∷ []) m new stands step).0

pub confirm_above : Refused (published_stream (opening ∷ first_chunk ∷ []) five_waits) fresh (sent 1 (confirms_ids 7 (5 ∷ [])))
unfolding u8_bytes u64_bytes
confirm_above m new stands step = elim (confirm_reached (opening ∷ first_chunk ∷ []) five_waits (5 ∷ []) m new stands step).0 [ inl h ↦ absurd (omega (arith, h)) | inr none ↦ none ]

-- items 1 and 5 of one frame wait
abbrev pub one_five_wait : List Frame
one_five_wait = record { items = item 1 97 ∷ item 5 101 ∷ []; waits = true } ∷ []

pub confirm_both : Refused (published_stream (opening ∷ first_chunk ∷ []) one_five_wait) fresh (sent 1 (confirms_ids 7 (1 ∷ 5 ∷ [])))
unfolding u8_bytes u64_bytes
confirm_both m new stands step = elim (confirm_reached (opening ∷ first_chunk ∷ []) one_five_wait (1 ∷ 5 ∷ []) m new stands step).1.0 [ inl h ↦ absurd (omega (arith, h)) | inr none ↦ none ]

pub confirm_twice : (s : Stream) → Refused (frames_of s one_confirmed) fresh (sent 1 (confirms_ids 7 (1 ∷ [])))
confirm_twice s m new stands step =
    let t = confirm_told m new (frames_of s one_confirmed) 7 (1 ∷ []) stands step in
    let frames : one_confirmed ≡ t.step.waiting.before ++ record { items = t.items; waits = true } ∷ t.step.waiting.after =
    ap (λ (d : Declaration). d.frames) (seven_of (frames_of s one_confirmed) one_confirmed refl t.step.at).0 ∙ t.step.waiting.frames in
    let one = alone (record { items = item 1 97 ∷ []; waits = false }) (record { items = t.items; waits = true }) t.step.waiting.before t.step.waiting.after frames in
    clash (ap (λ (f : Frame). f.waits) one.same)
  where
    clash : false ≡ true → ⊥
    clash e = cc

pub confirm_undeclared : Refused (published_stream (opening ∷ first_chunk ∷ []) one_waits) fresh (sent 1 (confirms_ids 9 (1 ∷ [])))
confirm_undeclared m new stands step =
    let t = confirm_told m new (published_stream (opening ∷ first_chunk ∷ []) one_waits) 9 (1 ∷ []) stands step in
    elim (one_of_two prepared (seven one_waits) t.step.at.declaration t.step.at.before t.step.at.after t.step.at.declared) [
      | inl e ↦ (let none : 0 ≡ 9 = ap (λ (d : Declaration). d.id) e ∙ t.step.at.of_id in absurd (omega (arith, none)))
      | inr e ↦ (let none : 7 ≡ 9 = ap (λ (d : Declaration). d.id) e.0 ∙ t.step.at.of_id in absurd (omega (arith, none)))
    ]

-- ---- deliveries

-- what the one subscription of a stream was, where a chunk with this header was sent to it
record SentTo (chunks : List Chunk) (r : Subscription) (header : Header) : Type 0 where
  pub chunk : Chunk
  pub header_is : header_of chunk ≡ header
  pub is_active : r.activity ≡ active
  pub has_credit : 1 ≤ r.credits
  pub is_next : next_above r.next chunks ≡ Some chunk

sent_to : (s : Stream) (r : Subscription) (c : Chunk) (m new : Machine) → Stands m (read_by s r) fresh → MachineStep m (sent 1 (delivery c)) new → SentTo s.seen r (header_of c)
sent_to s r c m new stands step =
    let t = deliver_told m new (read_by s r) c stands step in
    let same : r ≡ t.step.at.subscription = (alone r t.step.at.subscription t.step.at.before t.step.at.after t.step.at.subscribed).same in
    record {
      chunk = t.chunk;
      header_is = t.header_is;
      is_active = subst (λ (x : Subscription). x.activity ≡ active) (sym same) t.step.is_active;
      has_credit = subst (λ (x : Subscription). 1 ≤ x.credits) (sym same) t.step.has_credit;
      is_next = subst (λ (x : Subscription). next_above x.next s.seen ≡ Some t.chunk) (sym same) t.step.is_next;
    }

pub uncredited : (s : Stream) (r : Subscription) (c : Chunk) → r.credits ≡ 0 → Refused (read_by s r) fresh (sent 1 (delivery c))
uncredited s r c none m new stands step = let t = sent_to s r c m new stands step in let credit = t.has_credit in absurd (omega (arith, credit, none))

pub to_waiting : (s : Stream) (r : Subscription) (c : Chunk) → r.activity ≡ waiting → Refused (read_by s r) fresh (sent 1 (delivery c))
to_waiting s r c waits m new stands step = clash (sym waits ∙ (sent_to s r c m new stands step).is_active)
  where
    clash : waiting ≡ active → ⊥
    clash e = cc

-- another chunk is next, or none
pub other_next : (s : Stream) (r : Subscription) (c next : Chunk) → next_above r.next s.seen ≡ Some next → (next.first ≡ c.first → ⊥) → Refused (read_by s r) fresh (sent 1 (delivery c))
other_next s r c next is other m new stands step =
    let t = sent_to s r c m new stands step in
    let same : next ≡ t.chunk = same_chunk next t.chunk (sym is ∙ t.is_next) in
    other (ap (λ (x : Chunk). x.first) same ∙ ap (λ (h : Header). h.first) t.header_is)
  where
    same_chunk : (x y : Chunk) → Some x ≡ Some y → x ≡ y
    same_chunk x y e = cc

pub none_next : (s : Stream) (r : Subscription) (c : Chunk) → next_above r.next s.seen ≡ None → Refused (read_by s r) fresh (sent 1 (delivery c))
none_next s r c none m new stands step = let t = sent_to s r c m new stands step in nothing_next t.chunk (sym none ∙ t.is_next)
  where
    nothing_next : (x : Chunk) → None ≡ Some x → ⊥
    nothing_next x e = cc

-- ---- answers, and what comes behind the end

pub not_owed : (s : Stream) → Refused s fresh (sent 1 is_declared)
not_owed s m new stands step = go step.moves step.after step.does
  where
    go : (moves : Moves) (after : Machine) → SendStep m 1 is_declared moves after → ⊥
    go moves after (Owed later is x a) = none_owed m s fresh is_declared later stands refl is
    go moves after (Unasked is_open sends) = plain_unasked m after 0x8001 5 1 moves sends

pub no_frame : (s : Stream) (command : Command) → Refused s ended_connection (sent 1 command)
no_frame s command m new stands step = go step.moves step.after step.does
  where
    clash : gone ≡ open_now → ⊥
    clash e = cc

    go : (moves : Moves) (after : Machine) → SendStep m 1 command moves after → ⊥
    go moves after (Owed later is x a) = none_owed m s ended_connection command later stands refl is
    go moves after (Unasked is_open sends) = clash (ap (λ (k : Connection). k.phase) (sym (stands.connections 1)) ∙ is_open)

pub no_end : (s : Stream) (how : Ending) → Refused s ended_connection (ended 1 how)
no_end s how m new stands step = elim step.does.may [ inl e ↦ clash (is ∙ e) | inr e ↦ other (is ∙ e.0) ]
  where
    is : gone ≡ (m.connections 1).phase
    is = ap (λ (k : Connection). k.phase) (sym (stands.connections 1))

    clash : gone ≡ leaving how → ⊥
    clash e = cc

    other : gone ≡ open_now → ⊥
    other e = cc

pub no_handling : (s : Stream) (command : Command) (answer : Option Command) → Refused s ended_connection (handled 1 command answer)
no_handling s command answer m new stands step = clash (ap (λ (k : Connection). k.phase) (sym (stands.connections 1)) ∙ step.does.is_open)
  where
    clash : gone ≡ open_now → ⊥
    clash e = cc
