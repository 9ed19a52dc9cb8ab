-- A session's calls.
use Rattle.std.proofs.Common.{◌≡◌, ◌≤◌, ℕ, List, [], ◌∷◌, ◌++◌, true, cond, Option, None, Some, refl, sym, ap, subst, ◌∙◌, arith, inl}
use Rattle.command_all.specs.declared.identity.Identity.{Identity}
use Rattle.frame_wire.specs.Frames.{IsPartial}
use Rattle.command_reader.specs.States.{ReaderState, IsEnded, Takes, taken, new_reader}
use Rattle.hub_terms.specs.Calls.{Words}
use Rattle.hub_terms.specs.Meaning.{HubMeaning}
use Rattle.hub_terms.specs.Programs.{Runs, done}
use Rattle.session_tables.specs.Spelling.{all_frames}
use Rattle.session_tables.specs.declared.reply.Reply.{Reply}
use Rattle.session_tables.specs.declared.tables.SessionEnd.{SessionEnd}
use Rattle.session_tables.specs.declared.tables.Tables.{Tables}
use Rattle.session_core.specs.Feeding.{Fed, Adds, IsReading}
use Rattle.session_core.specs.Delivered.{PollAdds}
use Rattle.session_core.specs.Polling.{is_open, open_row, poll_row}
use Rattle.session_core.specs.Preparing.{prepare_row, Refuses}
use Rattle.session_core.specs.Sessions.{SessionState, comes, goes, told, Serves, PollGives}
use Rattle.session_core.specs.Speaking.{spoken}
use Rattle.session_core.specs.declared.preparing.PrepareFault.{PrepareFault}
use Rattle.session_core.specs.declared.unasked.Unasked.{Unasked}
use Rattle.session_core.proofs.Standing.{partial_reads}

-- ---- the reader of a session that stands

pub new_waits : (max : ℕ) → IsReading max (new_reader max)
new_waits max = record { same_max = refl; spelt = refl; partial = inl (omega arith) }

reads_it : (max : ℕ) (state : ReaderState) → IsReading max state → IsEnded state → ⊥
reads_it max state r ended = partial_reads state r.spelt (subst (λ (n : ℕ). IsPartial n state.rest) (sym r.same_max) r.partial) ended

takes_it : (max : ℕ) (old new : ReaderState) (piece : List ℕ) → IsReading max old → Takes old piece new → new ≡ taken old piece
takes_it max old new piece r takes = takes.1 (reads_it max old r)

pub takes_max : (max : ℕ) (old new : ReaderState) (piece : List ℕ) → IsReading max old → Takes old piece new → new.max ≡ max
takes_max max old new piece r takes = ap (λ (s : ReaderState). s.max) (takes_it max old new piece r takes) ∙ r.same_max

pub small_max : (old new : ReaderState) (piece : List ℕ) → IsReading 1048576 old → Takes old piece new → new.max ≤ 1048576
small_max old new piece r takes = let same = takes_max 1048576 old new piece r takes in omega (arith, same)

pub reads_as : (max : ℕ) (old new after : ReaderState) (piece : List ℕ) → IsReading max old → Takes old piece new → IsReading new.max after → IsReading max after
reads_as max old new after piece r takes reads = subst (λ (n : ℕ). IsReading n after) (takes_max max old new piece r takes) reads

-- ---- a piece

pub stands_at : (now : ℕ) (piece : List ℕ) (t t1 : Tables) → t1 ≡ comes now piece t → t.ended ≡ None → t1.ended ≡ None
stands_at now piece t t1 is none = ap (λ (x : Tables). x.ended) is ∙ none

fed_as : {S : Type 0} (m : HubMeaning S) (who : Identity) (now max : ℕ) (piece : List ℕ) (old mid new : Tables) (reader fed : ReaderState) (said : List Reply) (rest : List ℕ) (h0 h1 : S)
    → IsReading max reader → Takes reader piece fed → mid ≡ comes now piece old → Fed m who now fed.max fed.rest mid said new rest h0 h1 → Fed m who now max (reader.rest ++ piece) (comes now piece old) said new rest h0 h1
fed_as {S} m who now max piece old mid new reader fed said rest h0 h1 r takes is f =
    let one = subst (λ (n : ℕ). Fed m who now n fed.rest mid said new rest h0 h1) (takes_max max reader fed piece r takes) f in
    let two = subst (λ (bytes : List ℕ). Fed m who now max bytes mid said new rest h0 h1) (ap (λ (s : ReaderState). s.rest) (takes_it max reader fed piece r takes)) one in
    subst (λ (t : Tables). Fed m who now max (reader.rest ++ piece) t said new rest h0 h1) is two

pub serves : {S : Type 0} (m : HubMeaning S) (who : Identity) (now : ℕ) (piece : List ℕ) (old mid served new : Tables) (reader fed after : ReaderState) (out0 bytes listed : List ℕ) (h0 h1 : S)
    → IsReading 1048576 reader → Takes reader piece fed → mid ≡ comes now piece old → out0 ≡ [] → Adds m who now fed.max fed.rest mid out0 bytes served after.rest h0 h1 → listed ≡ bytes → new ≡ goes listed served
    → Serves m who now piece old reader.rest bytes new after.rest h0 h1
serves m who now piece old mid served new reader fed after out0 bytes listed h0 h1 r takes is none adds lists went = record {
  said = adds.said;
  served = served;
  fed = fed_as m who now 1048576 piece old mid served reader fed adds.said after.rest h0 h1 r takes is adds.fed;
  frames = adds.wrote ∙ ap (λ (out : List ℕ). out ++ all_frames who adds.said) none;
  noted = went ∙ ap (λ (out : List ℕ). goes out served) lists;
}

pub stood_still : (listed : List ℕ) (t t1 : Tables) → t1 ≡ goes listed t → t1.ended ≡ None → t.ended ≡ None
stood_still listed t t1 is none = sym (ap (λ (x : Tables). x.ended) is) ∙ none

-- ---- a session that is prepared

pub refuses_at : {S : Type 0} (m : HubMeaning S) (t t1 : Tables) (stream : Words) (fault : PrepareFault) (h0 h1 : S) → t ≡ t1 → Refuses m (prepare_row t stream) fault h0 h1 → Refuses m (prepare_row t1 stream) fault h0 h1
refuses_at m t t1 stream fault h0 h1 same refuses = subst (λ (x : Tables). Refuses m (prepare_row x stream) fault h0 h1) same refuses

-- ---- a poll

none_said : {S : Type 0} (m : HubMeaning S) (t : Tables) (how : SessionEnd) (h : S) → t.ended ≡ Some how → Runs m (poll_row t []) h (spoken [] t) h
none_said m t how h is = subst (λ (e : Option SessionEnd). Runs m (cond (is_open e t.stage) (open_row t []) (done (spoken [] t))) h (spoken [] t) h) (sym is) (refl, refl)

pub polls_none : {S : Type 0} (m : HubMeaning S) (s : SessionState) (how : SessionEnd) (said : List Unasked) (h : S) → s.tables.ended ≡ Some how → said ≡ [] → PollGives m s said s h h
polls_none m s how said h is none = subst (λ (x : List Unasked). PollGives m s x s h h) (sym none) (record { polled = s.tables; run = none_said m s.tables how h is; noted = refl })

told_as : {S : Type 0} (m : HubMeaning S) (old polled : Tables) (listed out : List Unasked) (h0 h1 : S) → PollAdds m old polled [] out h0 h1 → PollAdds m old (told listed polled) [] out h0 h1
told_as m old polled [] out h0 h1 a = a
told_as m old polled (x ∷ xs) out h0 h1 a = record { said = a.said; wrote = a.wrote; causes = a.causes; each = a.each; stops = a.stops }

-- that it counts as sent changes nothing else
pub told_adds : {S : Type 0} (m : HubMeaning S) (inside old polled new : Tables) (out0 listed out : List Unasked) (h0 h1 : S)
    → inside ≡ old → out0 ≡ [] → new ≡ told listed polled → (is_open inside.ended inside.stage ≡ true → PollAdds m inside polled out0 out h0 h1) → is_open old.ended old.stage ≡ true → PollAdds m old new [] out h0 h1
told_adds m inside old polled new out0 listed out h0 h1 same none is adds opened =
    let here = subst (λ (t : Tables). is_open t.ended t.stage ≡ true → PollAdds m t polled out0 out h0 h1) same adds in
    subst (λ (t : Tables). PollAdds m old t [] out h0 h1) (sym is) (told_as m old polled listed out h0 h1 (subst (λ (o : List Unasked). PollAdds m old polled o out h0 h1) none (here opened)))
