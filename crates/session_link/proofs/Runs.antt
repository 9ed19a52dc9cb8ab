-- The turns of a link.
use Rattle.std.proofs.Common.{◌≡◌, ℕ, List, [], ◌∷◌, ◌++◌, Option, None, Result, Ok, Err, IfOk, refl, sym, subst, ◌∙◌}
use Rattle.std.specs.Option.{option_map}
use Rattle.outside_io.specs.Clocks.{IsFirst, later_moments}
use Rattle.outside_io.specs.Known.{after_known}
use Rattle.outside_io.specs.declared.link.Hearing.{Hearing}
use Rattle.hub_terms.specs.Meaning.{HubMeaning}
use Rattle.hub_terms.specs.Programs.{Runs}
use Rattle.session_tables.specs.Opening.{silent}
use Rattle.session_tables.specs.declared.tables.SessionEnd.{SessionEnd}
use Rattle.session_tables.specs.declared.tables.SessionEnd.TheVariants as ends
use Rattle.session_core.specs.Living.{link_ended_row}
use Rattle.session_core.specs.Sessions.{SessionState, link_ended}
use Rattle.session_link.specs.declared.gathering.Due.{Due}
use Rattle.session_link.specs.declared.sending.Went.{Went}
use Rattle.session_link.specs.declared.sending.Went.TheVariants as went
use Rattle.session_link.specs.Sending.{frames_said, SentBy}
use Rattle.session_link.specs.Turns.{Served, served, own_end, Answers, HearsAt, Turn, WholeTurn, Turns, NotSent, NotMade, NoRoom, TurnBy, end_by, ReplyBy, Serves, RunsTo}

-- ---- one turn

sent_so : {S : Type 0} (m : HubMeaning S) (old new : Served S) (due : List ℕ) (w : Went) → Turn m old new due → SentBy old.sent due w new.sent → TurnBy m old (end_by w) new
sent_so m old new due went.Sent turn by = (due, turn, by)
sent_so m old new due went.Failed turn by = NotSent refl due turn by
sent_so m old new due went.Memory turn by = NotMade refl due turn by

replied : {S E : Type 0} (m : HubMeaning S) (old new : Served S) (heard : Hearing) (now : ℕ) (made : Result Due E) (how : Option SessionEnd)
    → HearsAt old new heard now → IfOk made (λ due. Answers m now heard old.session due.fed due.ticked due.said new.session old.hub new.hub) → m.seen.later old.hub new.hub → ReplyBy made old.sent how new.sent → TurnBy m old how new
replied m old new heard now (Ok due) how hears answers later by =
    subst (λ (e : Option SessionEnd). TurnBy m old e new) (sym by.1)
    (sent_so m old new ((due.fed ++ due.ticked) ++ frames_said due.said) by.0
    (record { heard = heard; now = now; first = due.fed; second = due.ticked; said = due.said; hears = hears; answers = answers; due_is = refl })
    by.2)
replied m old new heard now (Err e) how hears answers later by =
    subst (λ (e : Option SessionEnd). TurnBy m old e new) (sym by.0) (NoRoom refl (record { later = later; none_sent = by.1 }))

-- what was heard, and then what came of it
pub replied_at : {S E : Type 0} (m : HubMeaning S) (s s1 : SessionState) (h h1 : S) (heard heard1 heard2 : Option (List Hearing)) (sent sent1 sent2 moments moments1 : Option (List ℕ)) (what : Hearing) (now : ℕ) (made : Result Due E) (how : Option SessionEnd)
    → own_end s.tables.ended ≡ None → heard1 ≡ after_known heard (what ∷ []) → heard2 ≡ heard1 → sent1 ≡ sent → IsFirst moments now → moments1 ≡ option_map later_moments moments
    → IfOk made (λ due. Answers m now what s due.fed due.ticked due.said s1 h h1) → m.seen.later h h1 → ReplyBy made sent1 how sent2 → TurnBy m (served s h heard sent moments) how (served s1 h1 heard2 sent2 moments1)
replied_at m s s1 h h1 heard heard1 heard2 sent sent1 sent2 moments moments1 what now made how stands hears same none first more answers later by =
    replied m (served s h heard sent moments) (served s1 h1 heard2 sent2 moments1) what now made how
    (record { stands = stands; heard_is = same ∙ hears; moment = first; later = more }) answers later
    (subst (λ (o : Option (List ℕ)). ReplyBy made o how sent2) none by)

-- ---- turns

-- one turn more
pub turns_more : {S : Type 0} (m : HubMeaning S) (old mid new : Served S) (each : List (Served S)) → Turns m old each mid → WholeTurn m mid new → Turns m old (each ++ new ∷ []) new
turns_more {S} m old mid new [] turns one = (subst (λ (s : Served S). WholeTurn m s new) turns one, refl)
turns_more m old mid new (s ∷ more) turns one = (turns.0, turns_more m s mid new more turns.1 one)

-- none was taken
pub no_turn : {S : Type 0} (m : HubMeaning S) (start : Served S) → m.seen.later start.hub start.hub → Serves m start ends.Memory start
no_turn m start same = record { each = []; last = start; turns = refl; ends = NoRoom refl (record { later = same; none_sent = refl }) }

-- what stands after the end is told
pub leaves_as : {S : Type 0} (m : HubMeaning S) (s s1 : SessionState) (h hub : S) → s1 ≡ link_ended ends.PeerEnded s → Runs m (link_ended_row s.tables) h (silent s1.tables) hub → Runs m (link_ended_row s.tables) h (silent (link_ended ends.PeerEnded s).tables) hub
leaves_as m s s1 h hub new leaves = subst (λ (x : SessionState). Runs m (link_ended_row s.tables) h (silent x.tables) hub) new leaves

-- the consumers of the session leave at the end
pub runs_to : {S : Type 0} (m : HubMeaning S) (start : Served S) (how : SessionEnd) (s : SessionState) (h hub : S) (heard : Option (List Hearing)) (sent moments : Option (List ℕ))
    → Serves m start how (served s h heard sent moments) → Runs m (link_ended_row s.tables) h (silent (link_ended ends.PeerEnded s).tables) hub → RunsTo m start how hub heard sent moments
runs_to m start how s h hub heard sent moments serves leaves = record { ended = served s h heard sent moments; serves = serves; leaves = leaves; heard_is = refl; sent_is = refl; moments_is = refl }
