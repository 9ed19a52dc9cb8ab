-- One record, and one chunk, behind those that were taken.
use Rattle.std.proofs.Common.{◌≡◌, ℕ, ◌+◌, ◌<◌, ◌≤◌, List, [], length, take, drop, Bool, true, false, ◌==◌, Option, Some, None, Ok, Err, refl, ap, subst, ◌∙◌, arith}
use Rattle.outside_io.specs.Known.{before_known, after_known}
use Rattle.segment_pairs.proofs.Reading.{some_bytes}
use Rattle.osiris_audit.specs.declared.window.Fault.{Fault}
use Rattle.osiris_audit.specs.declared.window.Fault.TheVariants.{Write}
use Rattle.osiris_audit.specs.declared.indexing.Step.{Step}
use Rattle.osiris_audit.specs.declared.inspection.Look.{Look}
use Rattle.osiris_audit.specs.declared.inspection.Look.TheVariants as look
use Rattle.osiris_audit.specs.Windows.{WindowState, most_bytes, Goes, Grew}
use Rattle.osiris_audit.specs.declared.inspection.Turn.{Turn}
use Rattle.osiris_audit.specs.declared.inspection.Turn.TheVariants as turn
use Rattle.osiris_audit.specs.Steps.{Looks, Finds, Far, Judges, Breaks, TurnGives}
use Rattle.osiris_audit.specs.Indexing.{Follows, Nexts, Runs, RunsOut, Reindexes, StepGives}
use Rattle.osiris_audit.proofs.Stepping.{far_index, far_segment, far_index_breaks, far_segment_breaks, judges_end, judges_wrong, far_matched, far_unwritten}
use Rattle.osiris_audit.proofs.Indexed.{runs_grow, runs_break, runs_step, runs_unwritten, runs_out}

-- ---- of an index that is made

-- so many bytes are there, and at least one
step_used : (place : ℕ) (end : Option ℕ) (ended : Bool) (seg : List ℕ) (step : Step) → Follows place end ended seg (Some step) → (1 ≤ step.used) × (step.used ≤ length seg)
step_used place end ended seg step (c, at_front, may, used_is, next_is, record_is) = (omega (arith, used_is, some_bytes c), omega (arith, used_is, at_front.0))

nexts_as : (end : Option ℕ) (a b : Option Step) (l0 l1 : Option (List ℕ)) (w0 w1 : WindowState) → a ≡ b → Nexts end (Ok a) l0 l1 w0 w1 → Nexts end (Ok b) l0 l1 w0 w1
nexts_as end a b l0 l1 w0 w1 is n = subst (λ (x : Option Step). Nexts end (Ok x) l0 l1 w0 w1) is n

pub step_fits : (found : Option Step) (end : Option ℕ) (step : Step) (l0 l1 : Option (List ℕ)) (w0 w1 : WindowState) → found ≡ Some step → Nexts end (Ok found) l0 l1 w0 w1 → step.used ≤ length w1.rest
step_fits found end step l0 l1 w0 w1 is nexts =
    let n = nexts_as end found (Some step) l0 l1 w0 w1 is nexts in
    (step_used w1.place end w1.ended w1.rest step n.by.1).1

pub step_goes : (found : Option Step) (end : Option ℕ) (step : Step) (l0 l1 : Option (List ℕ)) (w0 w1 w2 : WindowState) → found ≡ Some step → Nexts end (Ok found) l0 l1 w0 w1
    → w2 ≡ record { place = w1.place + step.used; rest = drop step.used w1.rest; ended = w1.ended } → (w0.place < w2.place) × (w2.place ≤ most_bytes)
step_goes found end step l0 l1 w0 w1 w2 is nexts moved =
    let n = nexts_as end found (Some step) l0 l1 w0 w1 is nexts in
    let used = step_used w1.place end w1.ended w1.rest step n.by.1 in
    let place : w2.place ≡ w1.place + step.used = ap (λ (w : WindowState). w.place) moved in
    let goes = n.by.0 in
    (omega (arith, place, goes.place_is, used.0), omega (arith, place, goes.short, used.1))

pub step_done : (found : Option Step) (end : Option ℕ) (step : Step) (s0 s1 s2 w0 w w' : Option (List ℕ)) (window window1 window2 : WindowState) → found ≡ Some step → Nexts end (Ok found) s1 s2 window window1 → w' ≡ after_known w step.record_bytes
    → window2 ≡ record { place = window1.place + step.used; rest = drop step.used window1.rest; ended = window1.ended } → Runs s0 s1 w0 w window end → Runs s0 s2 w0 w' window2 (Some step.next)
step_done found end step s0 s1 s2 w0 w w' window window1 window2 is nexts wrote moved r =
    let n = nexts_as end found (Some step) s1 s2 window window1 is nexts in
    runs_step s0 s2 w0 w w' window1 window2 end step n.by.1 wrote moved (runs_grow 0 true s0 s1 s2 w0 w window window1 end n.piece n.took n.still n.by.0 r)

pub step_unwritten : (k : ℕ) (found : Option Step) (end : Option ℕ) (step : Step) (s0 s1 s2 w0 w w' : Option (List ℕ)) (window window1 : WindowState) → found ≡ Some step → Nexts end (Ok found) s1 s2 window window1 → w' ≡ after_known w (take k step.record_bytes)
    → Runs s0 s1 w0 w window end → Reindexes (Err Write) s0 s2 w0 w'
step_unwritten k found end step s0 s1 s2 w0 w w' window window1 is nexts wrote r =
    let n = nexts_as end found (Some step) s1 s2 window window1 is nexts in
    runs_unwritten k s0 s2 w0 w w' window1 end step n.by.1 wrote (runs_grow 0 true s0 s1 s2 w0 w window window1 end n.piece n.took n.still n.by.0 r)

pub step_none : (found : Option Step) (end : Option ℕ) (s0 s1 s2 w0 w : Option (List ℕ)) (window window1 : WindowState) → found ≡ None → Nexts end (Ok found) s1 s2 window window1 → Runs s0 s1 w0 w window end → RunsOut s0 s2 w0 w window1
step_none found end s0 s1 s2 w0 w window window1 is nexts r =
    let n = nexts_as end found None s1 s2 window window1 is nexts in
    runs_out s0 s2 w0 w window1 end n.by.1 (runs_grow 0 true s0 s1 s2 w0 w window window1 end n.piece n.took n.still n.by.0 r)

pub step_broken : (fault : Fault) (end : Option ℕ) (s0 s1 s2 w0 w : Option (List ℕ)) (window window1 : WindowState) → Nexts end (Err fault) s1 s2 window window1 → Runs s0 s1 w0 w window end → Reindexes (Err fault) s0 s2 w0 w
step_broken fault end s0 s1 s2 w0 w window window1 n r = runs_break fault s0 s1 s2 w0 w window end n.piece n.took n.by r

pub step_next : (b : Bool) (s0 s w0 w : Option (List ℕ)) (window : WindowState) (end : Option ℕ) → b ≡ true → StepGives (Ok b) s0 s w0 w window end → Runs s0 s w0 w window end
step_next b s0 s w0 w window end is g = subst (λ (x : Bool). StepGives (Ok x) s0 s w0 w window end) is g

pub step_out : (b : Bool) (s0 s w0 w : Option (List ℕ)) (window : WindowState) (end : Option ℕ) → b ≡ false → StepGives (Ok b) s0 s w0 w window end → RunsOut s0 s w0 w window
step_out b s0 s w0 w window end is g = subst (λ (x : Bool). StepGives (Ok x) s0 s w0 w window end) is g

-- ---- of an index that is looked at

-- the chunk's bytes are there
look_used : (place : ℕ) (end : Option ℕ) (ended : Bool) (seg idx text : List ℕ) (used next : ℕ) → Looks place end ended seg idx text (look.Match used next) → used ≤ length seg
look_used place end ended seg idx text used next (c, m, may, used_is, next_is, text_is) = omega (arith, used_is, m.begins_with.0)

found_as : (end : Option ℕ) (idx text : List ℕ) (a b : Look) (l0 l1 : Option (List ℕ)) (w0 w1 : WindowState) → a ≡ b → Finds end idx text (Ok a) l0 l1 w0 w1 → Finds end idx text (Ok b) l0 l1 w0 w1
found_as end idx text a b l0 l1 w0 w1 is f = subst (λ (x : Look). Finds end idx text (Ok x) l0 l1 w0 w1) is f

pub turn_fits : (found : Look) (end : Option ℕ) (idx text : List ℕ) (used next : ℕ) (l0 l1 : Option (List ℕ)) (w0 w1 : WindowState) → found ≡ look.Match used next → Finds end idx text (Ok found) l0 l1 w0 w1 → used ≤ length w1.rest
turn_fits found end idx text used next l0 l1 w0 w1 is finds =
    let f = found_as end idx text found (look.Match used next) l0 l1 w0 w1 is finds in
    look_used w1.place end w1.ended w1.rest idx text used next f.by.1

-- a record's bytes are there
pub turn_long : (enough : Bool) (idx : List ℕ) (l0 l1 : Option (List ℕ)) (w0 w1 : WindowState) → enough ≡ true → idx ≡ w1.rest → Grew 29 (Ok enough) l0 l1 w0 w1 → 29 ≤ length idx
turn_long enough idx l0 l1 w0 w1 told same g = let some = g.by.some told in omega (arith, some, ap length same)

grew_as : (a b : Bool) (l0 l1 : Option (List ℕ)) (w0 w1 : WindowState) → a ≡ b → Grew 29 (Ok a) l0 l1 w0 w1 → Grew 29 (Ok b) l0 l1 w0 w1
grew_as a b l0 l1 w0 w1 is g = subst (λ (x : Bool). Grew 29 (Ok x) l0 l1 w0 w1) is g

pub turn_goes : (enough : Bool) (l0 l1 : Option (List ℕ)) (w0 w1 w2 : WindowState) → enough ≡ true → Grew 29 (Ok enough) l0 l1 w0 w1 → w2 ≡ record { place = w1.place + 29; rest = drop 29 w1.rest; ended = w1.ended } → (w0.place < w2.place) × (w2.place ≤ most_bytes)
turn_goes enough l0 l1 w0 w1 w2 told g moved =
    let place : w2.place ≡ w1.place + 29 = ap (λ (w : WindowState). w.place) moved in
    let goes = g.by in
    (omega (arith, place, goes.place_is), omega (arith, place, goes.short, goes.some told))

-- the index was read on, and the segment
far_both : (end : Option ℕ) (s0 s1 s2 i0 i1 i2 w0 w : Option (List ℕ)) (sw sw1 iw iw1 : WindowState) (piece : List ℕ) → Grew 29 (Ok true) i1 i2 iw iw1 → s1 ≡ before_known piece s2 → (sw.ended ≡ true → piece ≡ []) → Goes 0 true piece s2 sw sw1
    → Far s0 s1 i0 i1 w0 w sw iw end → Far s0 s2 i0 i2 w0 w sw1 iw1 end
far_both end s0 s1 s2 i0 i1 i2 w0 w sw sw1 iw iw1 piece g took still goes far =
    far_segment 0 true s0 s1 s2 i0 i2 w0 w sw sw1 iw1 end piece took still goes (far_index 29 true s0 s1 i0 i1 i2 w0 w sw iw iw1 end g.piece g.took g.still g.by far)

pub turn_next : (enough : Bool) (found : Look) (end : Option ℕ) (idx text bytes : List ℕ) (used next : ℕ) (s0 s1 s2 i0 i1 i2 w0 w w' : Option (List ℕ)) (sw sw1 sw2 iw iw1 iw2 : WindowState) → enough ≡ true → Grew 29 (Ok enough) i1 i2 iw iw1 → idx ≡ iw1.rest
    → found ≡ look.Match used next → Finds end idx text (Ok found) s1 s2 sw sw1 → bytes ≡ text → w' ≡ after_known w bytes → sw2 ≡ record { place = sw1.place + used; rest = drop used sw1.rest; ended = sw1.ended }
    → iw2 ≡ record { place = iw1.place + 29; rest = drop 29 iw1.rest; ended = iw1.ended } → Far s0 s1 i0 i1 w0 w sw iw end → Far s0 s2 i0 i2 w0 w' sw2 iw2 (Some next)
turn_next enough found end idx text bytes used next s0 s1 s2 i0 i1 i2 w0 w w' sw sw1 sw2 iw iw1 iw2 told grew same is finds lines wrote moved index_moved far =
    let g = grew_as enough true i1 i2 iw iw1 told grew in
    let f = found_as end idx text found (look.Match used next) s1 s2 sw sw1 is finds in
    far_matched s0 s2 i0 i2 w0 w w' sw1 sw2 iw1 iw2 end text used next (subst (λ (l : List ℕ). Looks sw1.place end sw1.ended sw1.rest l text (look.Match used next)) same f.by.1) (wrote ∙ ap (after_known w) lines) moved index_moved
    (far_both end s0 s1 s2 i0 i1 i2 w0 w sw sw1 iw iw1 f.piece g f.took f.still f.by.0 far)

pub turn_unwritten : (enough : Bool) (found : Look) (k : ℕ) (end : Option ℕ) (idx text bytes : List ℕ) (used next : ℕ) (s0 s1 s2 i0 i1 i2 w0 w w' : Option (List ℕ)) (sw sw1 iw iw1 : WindowState) → enough ≡ true → Grew 29 (Ok enough) i1 i2 iw iw1 → idx ≡ iw1.rest
    → found ≡ look.Match used next → Finds end idx text (Ok found) s1 s2 sw sw1 → bytes ≡ text → w' ≡ after_known w (take k bytes) → Far s0 s1 i0 i1 w0 w sw iw end → Breaks Write s0 s2 i0 i2 w0 w'
turn_unwritten enough found k end idx text bytes used next s0 s1 s2 i0 i1 i2 w0 w w' sw sw1 iw iw1 told grew same is finds lines wrote far =
    let g = grew_as enough true i1 i2 iw iw1 told grew in
    let f = found_as end idx text found (look.Match used next) s1 s2 sw sw1 is finds in
    far_unwritten s0 s2 i0 i2 w0 w w' sw1 iw1 end text used next k (subst (λ (l : List ℕ). Looks sw1.place end sw1.ended sw1.rest l text (look.Match used next)) same f.by.1) (wrote ∙ ap (λ (l : List ℕ). after_known w (take k l)) lines)
    (far_both end s0 s1 s2 i0 i1 i2 w0 w sw sw1 iw iw1 f.piece g f.took f.still f.by.0 far)

pub turn_wrong : (enough : Bool) (found : Look) (end : Option ℕ) (idx text : List ℕ) (s0 s1 s2 i0 i1 i2 w0 w : Option (List ℕ)) (sw sw1 iw iw1 : WindowState) → enough ≡ true → Grew 29 (Ok enough) i1 i2 iw iw1 → idx ≡ iw1.rest → found ≡ look.Wrong
    → Finds end idx text (Ok found) s1 s2 sw sw1 → Far s0 s1 i0 i1 w0 w sw iw end → Judges false s0 s2 i0 i2 w0 w sw1 iw1
turn_wrong enough found end idx text s0 s1 s2 i0 i1 i2 w0 w sw sw1 iw iw1 told grew same is finds far =
    let g = grew_as enough true i1 i2 iw iw1 told grew in
    let f = found_as end idx text found look.Wrong s1 s2 sw sw1 is finds in
    judges_wrong s0 s2 i0 i2 w0 w sw1 iw1 end text (g.by.some refl) (subst (λ (l : List ℕ). Looks sw1.place end sw1.ended sw1.rest l text look.Wrong) same f.by.1)
    (far_both end s0 s1 s2 i0 i1 i2 w0 w sw sw1 iw iw1 f.piece g f.took f.still f.by.0 far)

-- less than a record is left
pub turn_last : (enough b : Bool) (end : Option ℕ) (bytes : List ℕ) (s0 s i0 i1 i2 w0 w : Option (List ℕ)) (sw iw iw1 : WindowState) → enough ≡ false → Grew 29 (Ok enough) i1 i2 iw iw1 → b ≡ (length bytes == 0) → bytes ≡ iw1.rest → Far s0 s i0 i1 w0 w sw iw end
    → Judges b s0 s i0 i2 w0 w sw iw1
turn_last enough b end bytes s0 s i0 i1 i2 w0 w sw iw iw1 told grew is same far =
    let g = grew_as enough false i1 i2 iw iw1 told grew in
    judges_end b s0 s i0 i2 w0 w sw iw1 end (is ∙ ap (λ (l : List ℕ). length l == 0) same) (g.by.few refl) (g.by.end refl) (far_index 29 false s0 s i0 i1 i2 w0 w sw iw iw1 end g.piece g.took g.still g.by far)

pub turn_index_broken : (fault : Fault) (end : Option ℕ) (s0 s i0 i1 i2 w0 w : Option (List ℕ)) (sw iw iw1 : WindowState) → Grew 29 (Err fault) i1 i2 iw iw1 → Far s0 s i0 i1 w0 w sw iw end → Breaks fault s0 s i0 i2 w0 w
turn_index_broken fault end s0 s i0 i1 i2 w0 w sw iw iw1 g far = far_index_breaks fault s0 s i0 i1 i2 w0 w sw iw end g.piece g.took g.by.0 far

pub turn_segment_broken : (enough : Bool) (fault : Fault) (end : Option ℕ) (idx text : List ℕ) (s0 s1 s2 i0 i1 i2 w0 w : Option (List ℕ)) (sw sw1 iw iw1 : WindowState) → enough ≡ true → Grew 29 (Ok enough) i1 i2 iw iw1 → Finds end idx text (Err fault) s1 s2 sw sw1
    → Far s0 s1 i0 i1 w0 w sw iw end → Breaks fault s0 s2 i0 i2 w0 w
turn_segment_broken enough fault end idx text s0 s1 s2 i0 i1 i2 w0 w sw sw1 iw iw1 told grew f far =
    let g = grew_as enough true i1 i2 iw iw1 told grew in
    far_segment_breaks fault s0 s1 s2 i0 i2 w0 w sw iw1 end f.piece f.took f.by (far_index 29 true s0 s1 i0 i1 i2 w0 w sw iw iw1 end g.piece g.took g.still g.by far)

pub turn_went : (t : Turn) (s0 s i0 i w0 w : Option (List ℕ)) (sw iw : WindowState) (end : Option ℕ) → t ≡ turn.Next → TurnGives (Ok t) s0 s i0 i w0 w sw iw end → Far s0 s i0 i w0 w sw iw end
turn_went t s0 s i0 i w0 w sw iw end is g = subst (λ (x : Turn). TurnGives (Ok x) s0 s i0 i w0 w sw iw end) is g

pub turn_told : (t : Turn) (good : Bool) (s0 s i0 i w0 w : Option (List ℕ)) (sw iw : WindowState) (end : Option ℕ) → t ≡ turn.Last good → TurnGives (Ok t) s0 s i0 i w0 w sw iw end → Judges good s0 s i0 i w0 w sw iw
turn_told t good s0 s i0 i w0 w sw iw end is g = subst (λ (x : Turn). TurnGives (Ok x) s0 s i0 i w0 w sw iw end) is g
