-- What a table's streams take.
use Rattle.std.proofs.Common.{◌≡◌, ℕ, ◌≤◌, List, [], length, Some, None, Result, Ok, Err, refl, sym, ap, subst, ◌∙◌, inl, arith}
use Rattle.std.specs.Prelude.{nat_lt, Bool, true, false}
use Rattle.chunk_format.specs.Logs.{end_of}
use Rattle.command_data.specs.declared.item.Tagged.{Tagged}
use Rattle.stream_terms.specs.declared.terms.Pass.{Pass}
use Rattle.stream_terms.specs.declared.terms.Taken.{Taken}
use Rattle.stream_terms.specs.declared.terms.Waits.{Waits}
use Rattle.stream_terms.specs.declared.terms.DeclareFault.{DeclareFault}
use Rattle.stream_terms.specs.declared.terms.DeclareFault.TheVariants as closed
use Rattle.stream_terms.specs.declared.terms.OfferFault.{OfferFault}
use Rattle.stream_terms.specs.declared.terms.OfferFault.TheVariants as refused
use Rattle.stream_terms.specs.Views.{StreamView, name_of}
use Rattle.stream_terms.specs.Steps.{DeclareStep, DeclareRefused, OfferTaken, OfferRefused, OffsetRefused, IsOfUse, put_by, queued}
use Rattle.stream_terms.proofs.Keeping.{declared_holds}
use Rattle.hub_terms.specs.Calls.{Words, Declaring, Offering, StoringOffset}
use Rattle.hub_terms.specs.Meaning.{IsShortName}
use Rattle.hub_terms.specs.Tables.{HubTable, view_at, view_or, no_view, TableHolds, TableDoes}
use Rattle.memory_stream.specs.Gives.{OfferGives, OffsetGives}
use Rattle.stream_table.proofs.Places.{At, holds_view, holds_with, still, view_is, view_none}

pub same_table : (t : HubTable) (vs : List StreamView) → t.views ≡ vs → record t { views = vs } ≡ t
same_table t vs is = ap (λ (l : List StreamView). record t { views = l }) (sym is)

pub short_name : (name : Words) → IsShortName name → length (name_of name) ≤ 255
short_name None h = omega arith
short_name (Some name) h = h

-- ---- passes

pub declare_none : (t : HubTable) (vs : List StreamView) (session stream : ℕ) (name : Words) → t.views ≡ vs → TableHolds t → view_at vs stream ≡ None → TableDoes (Declaring session stream name) t (Err closed.Closed) (record t { views = vs })
declare_none t vs session stream name is h none =
    let same = same_table t vs is in
    let absent : view_or t.views stream ≡ no_view stream = ap (λ (l : List StreamView). view_or l stream) is ∙ view_none vs stream none in
    let cause : DeclareRefused (view_or t.views stream) closed.Closed = subst (λ (v : StreamView). DeclareRefused v closed.Closed) (sym absent) (inl refl) in
    record { before = h; holds = subst TableHolds (sym same) h; step = (cause, same) }

pub declare_at : (t : HubTable) (session stream : ℕ) (name : Words) (old new : StreamView) (ws : List StreamView) (r : Result Pass DeclareFault)
    → TableHolds t → At t.views stream old new ws → DeclareStep old session name r new → TableDoes (Declaring session stream name) t r (record t { views = ws })
declare_at t session stream name old new ws (Ok p) h at step = record {
  before = h;
  holds = holds_with t stream old new ws h at (ap (λ (v : StreamView). v.number) step.new_is) (declared_holds old new [] session name p (holds_view t.views stream old h.views at.there) step);
  step = record { old = old; new = new; at = record { there = at.there; new_is = ap (λ (l : List StreamView). record t { views = l }) at.ws_is }; step = step };
}
declare_at t session stream name old new ws (Err fault) h at step =
    let same = still t stream old new ws at step.1 in
    let cause = subst (λ (v : StreamView). DeclareRefused v fault) (sym (view_is t.views stream old at.there)) step.0 in
    record { before = h; holds = subst TableHolds (sym same) h; step = (cause, same) }

-- ---- offers

not_useful : (stream : ℕ) (p : Pass) → IsOfUse (no_view stream) p → ⊥
not_useful stream p useful = absurd (let none = useful.0 in cc)

pub offer_none : (t : HubTable) (vs : List StreamView) (stream : ℕ) (p : Pass) (items : List Tagged) (now : ℕ) → t.views ≡ vs → TableHolds t → view_at vs stream ≡ None
    → TableDoes (Offering stream p items now) t (Err (refused.Stale p.epoch 0)) (record t { views = vs })
offer_none t vs stream p items now is h none =
    let same = same_table t vs is in
    let absent : view_or t.views stream ≡ no_view stream = ap (λ (l : List StreamView). view_or l stream) is ∙ view_none vs stream none in
    let fault = refused.Stale p.epoch 0 in
    let cause : OfferRefused (view_or t.views stream) p items fault = subst (λ (v : StreamView). OfferRefused v p items fault) (sym absent) (refl, refl, not_useful stream p) in
    record { before = h; holds = subst TableHolds (sym same) h; step = (cause, same) }

put_number : (b : Bool) (w : Waits) (v : StreamView) → (put_by b w v).number ≡ v.number
put_number true w v = refl
put_number false w v = refl

offered_number : (old mid : StreamView) (p : Pass) (items : List Tagged) (t : Taken) → OfferTaken old p items t mid → mid.number ≡ old.number
offered_number old mid p items t s = ap (λ (x : StreamView). x.number) s.new_is ∙ put_number (nat_lt (end_of old.chunks) s.wait.end) s.wait (queued s.took old)

pub offer_at : (t : HubTable) (stream : ℕ) (p : Pass) (items : List Tagged) (now : ℕ) (old new : StreamView) (ws : List StreamView) (r : Result Taken OfferFault)
    → TableHolds t → At t.views stream old new ws → OfferGives old p items r new → TableDoes (Offering stream p items now) t r (record t { views = ws })
offer_at t stream p items now old new ws (Ok taken) h at gave = record {
  before = h;
  holds = holds_with t stream old new ws h at (gave.moved.number ∙ offered_number old gave.mid p items taken gave.step) gave.holds;
  step = record { old = old; mid = gave.mid; new = new; more = gave.more; at = record { there = at.there; new_is = ap (λ (l : List StreamView). record t { views = l }) at.ws_is }; step = gave.step; moved = gave.moved };
}
offer_at t stream p items now old new ws (Err fault) h at gave =
    let same = still t stream old new ws at gave.1 in
    let cause = subst (λ (v : StreamView). OfferRefused v p items fault) (sym (view_is t.views stream old at.there)) gave.0 in
    record { before = h; holds = subst TableHolds (sym same) h; step = (cause, same) }

-- ---- stored offsets

pub store_none : (t : HubTable) (vs : List StreamView) (stream : ℕ) (name : Words) (offset now : ℕ) → t.views ≡ vs → TableHolds t → view_at vs stream ≡ None
    → TableDoes (StoringOffset stream name offset now) t (Err (refused.Stale 0 0)) (record t { views = vs })
store_none t vs stream name offset now is h none =
    let same = same_table t vs is in
    let absent : view_or t.views stream ≡ no_view stream = ap (λ (l : List StreamView). view_or l stream) is ∙ view_none vs stream none in
    let fault = refused.Stale 0 0 in
    let cause : OffsetRefused (view_or t.views stream) name fault = subst (λ (v : StreamView). OffsetRefused v name fault) (sym absent) (refl, refl, refl) in
    record { before = h; holds = subst TableHolds (sym same) h; step = (cause, same) }

pub store_at : (t : HubTable) (stream : ℕ) (name : Words) (offset now : ℕ) (old new : StreamView) (ws : List StreamView) (r : Result Taken OfferFault)
    → TableHolds t → At t.views stream old new ws → OffsetGives old name offset r new → TableDoes (StoringOffset stream name offset now) t r (record t { views = ws })
store_at t stream name offset now old new ws (Ok taken) h at gave = record {
  before = h;
  holds = holds_with t stream old new ws h at (gave.moved.number ∙ ap (λ (v : StreamView). v.number) gave.step.new_is) gave.holds;
  step = record { old = old; mid = gave.mid; new = new; more = gave.more; at = record { there = at.there; new_is = ap (λ (l : List StreamView). record t { views = l }) at.ws_is }; step = gave.step; moved = gave.moved };
}
store_at t stream name offset now old new ws (Err fault) h at gave =
    let same = still t stream old new ws at gave.1 in
    let cause = subst (λ (v : StreamView). OffsetRefused v name fault) (sym (view_is t.views stream old at.there)) gave.0 in
    record { before = h; holds = subst TableHolds (sym same) h; step = (cause, same) }
