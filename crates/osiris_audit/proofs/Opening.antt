-- The headers of both files, one after the other.
use Rattle.std.proofs.Common.{◌≡◌, ℕ, ◌≤◌, List, [], length, Bool, true, false, Option, None, Ok, Err, refl, subst, ap, length-append, arith}
use Rattle.outside_io.specs.Known.{before_known}
use Rattle.segment_pairs.specs.Log.{segment_header, index_header}
use Rattle.osiris_audit.specs.declared.window.Fault.{Fault}
use Rattle.osiris_audit.specs.Windows.{WindowState, most_bytes, TakesEither, TakesHeader}
use Rattle.osiris_audit.specs.Steps.{Far, Judges, Breaks}
use Rattle.osiris_audit.specs.Indexing.{Reindexes, RunsOut}
use Rattle.osiris_audit.proofs.Indexed.{other_header, broken_header}
use Rattle.osiris_audit.proofs.Heading.{far_start, wrong_segment, wrong_index, index_breaks}

told : (header : List ℕ) (b c : Bool) (l0 l1 : Option (List ℕ)) (w : WindowState) → b ≡ c → TakesHeader header (Ok b) l0 l1 w → TakesHeader header (Ok c) l0 l1 w
told header b c l0 l1 w is t = subst (λ (x : Bool). TakesHeader header (Ok x) l0 l1 w) is t

pub open_wrong : (b : Bool) (s0 s i w : Option (List ℕ)) (sw iw : WindowState) → b ≡ false → iw ≡ record { place = 0; rest = []; ended = false } → TakesHeader segment_header (Ok b) s0 s sw → Judges false s0 s i i w w sw iw
open_wrong b s0 s i w sw iw is fresh t =
    let f = told segment_header b false s0 s sw is t in
    wrong_segment s0 s i w sw iw f.taken f.took fresh f.by

pub open_right : (b c : Bool) (s0 s i0 i w : Option (List ℕ)) (sw iw : WindowState) → b ≡ true → TakesHeader segment_header (Ok b) s0 s sw → TakesHeader index_header (Ok c) i0 i iw → c ≡ true → Far s0 s i0 i w w sw iw None
open_right b c s0 s i0 i w sw iw is t u right =
    let f = told segment_header b true s0 s sw is t in
    let d = told index_header c true i0 i iw right u in
    far_start s0 s i0 i w sw iw f.taken d.taken f.took d.took f.by d.by

pub open_other : (b c : Bool) (s0 s i0 i w : Option (List ℕ)) (sw iw : WindowState) → b ≡ true → TakesHeader segment_header (Ok b) s0 s sw → TakesHeader index_header (Ok c) i0 i iw → c ≡ false → Judges false s0 s i0 i w w sw iw
open_other b c s0 s i0 i w sw iw is t u wrong =
    let f = told segment_header b true s0 s sw is t in
    let d = told index_header c false i0 i iw wrong u in
    wrong_index s0 s i0 i w sw iw f.taken d.taken f.took d.took f.by d.by

taken_within : (s : Option (List ℕ)) (window : WindowState) (seg : List ℕ) → TakesEither segment_header true seg s window → length seg ≤ most_bytes
taken_within s window seg t =
    let there = t.right refl in
    omega (arith, there.1, ap length there.0, length-append segment_header window.rest, t.short)

pub open_broken : (fault : Fault) (b : Bool) (s0 s i0 i w : Option (List ℕ)) (sw iw : WindowState) → b ≡ true → TakesHeader segment_header (Ok b) s0 s sw → TakesHeader index_header (Err fault) i0 i iw → Breaks fault s0 s i0 i w w
open_broken fault b s0 s i0 i w sw iw is t u =
    let f = told segment_header b true s0 s sw is t in
    index_breaks fault s0 s i0 i w f.taken u.taken f.took u.took (taken_within s sw f.taken f.by) u.by.0

-- ---- the header of a segment whose index is made

pub made_other : (b : Bool) (s0 s w : Option (List ℕ)) (window : WindowState) → b ≡ false → TakesHeader segment_header (Ok b) s0 s window → Reindexes (Ok false) s0 s w w
made_other b s0 s w window is t =
    let f = told segment_header b false s0 s window is t in
    other_header s0 s w window f.taken f.took f.by

pub made_broken : (fault : Fault) (s0 s w : Option (List ℕ)) (window : WindowState) → TakesHeader segment_header (Err fault) s0 s window → Reindexes (Err fault) s0 s w w
made_broken fault s0 s w window t = broken_header fault s0 s w window t.taken t.took t.by

pub made_out : (b : Bool) (s0 s s' w w' : Option (List ℕ)) (window window' : WindowState) → b ≡ true → TakesHeader segment_header (Ok b) s0 s window
    → ((l : Option (List ℕ)) (seg : List ℕ) → l ≡ before_known seg s → TakesEither segment_header true seg s window → RunsOut l s' w w' window') → RunsOut s0 s' w w' window'
made_out b s0 s s' w w' window window' is t made =
    let f = told segment_header b true s0 s window is t in
    made s0 f.taken f.took f.by

pub made_faulty : (fault : Fault) (b : Bool) (s0 s s' w w' : Option (List ℕ)) (window : WindowState) → b ≡ true → TakesHeader segment_header (Ok b) s0 s window
    → ((l : Option (List ℕ)) (seg : List ℕ) → l ≡ before_known seg s → TakesEither segment_header true seg s window → Reindexes (Err fault) l s' w w') → Reindexes (Err fault) s0 s' w w'
made_faulty fault b s0 s s' w w' window is t made =
    let f = told segment_header b true s0 s window is t in
    made s0 f.taken f.took f.by
