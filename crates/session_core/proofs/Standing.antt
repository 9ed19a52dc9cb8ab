-- Whether a session stands, and its reader goes on.
use Rattle.std.proofs.Common.{◌≡◌, ◌⊎◌, ℕ, Option, None, Some, refl, sym, ap, ◌∙◌, arith, inl, inr}
use Rattle.std.specs.Prelude.{IsSome}
use Rattle.command_fields.specs.declared.response.ResponseCode.{ResponseCode}
use Rattle.frame_wire.specs.Frames.{size_of, IsPartial}
use Rattle.frame_wire.proofs.Streams.{not_both}
use Rattle.command_fields.specs.declared.fault.DecodeFault.{DecodeFault}
use Rattle.command_reader.specs.States.{ReaderState, IsEnded, new_reader}
use Rattle.session_tables.specs.Opening.{Outcome, leaves, says, closed}
use Rattle.session_tables.specs.declared.reply.Reply.{Reply}
use Rattle.session_tables.specs.declared.tables.SessionEnd.{SessionEnd}
use Rattle.session_tables.specs.declared.tables.Tables.{Tables}
use Rattle.session_core.specs.Living.{at_tick, tick_of, ends_by, ends_if}

-- ---- a reader

reads_if : (o : Option DecodeFault) (Large : Type 0) → o ≡ None → (Large → ⊥) → IsSome o ⊎ Large → ⊥
reads_if o Large none small (inl some) = absurd (cc (none, some))
reads_if o Large none small (inr large) = small large

pub new_reads : (max : ℕ) → IsEnded (new_reader max) → ⊥
new_reads max ended = reads_if None _ refl (λ large. let whole = large.whole in omega arith) ended

pub partial_reads : (state : ReaderState) → state.unspelt ≡ None → IsPartial state.max state.rest → IsEnded state → ⊥
partial_reads state none partial ended = reads_if state.unspelt _ none (λ large. not_both state.max state.rest (size_of state.rest) partial large) ended

-- ---- a session

-- one that was closed doesn't stand
pub closed_ends : (response : ResponseCode) (t t1 : Tables) (reply : Reply) → says t1 reply ≡ closed response t → t1.ended ≡ None → ⊥
closed_ends response t t1 reply closes none = absurd (cc (sym none ∙ ap (λ (o : Outcome). o.tables.ended) closes))

tick_by : (how : Option SessionEnd) (now : ℕ) (t t1 : Tables) (reply : Option Reply) → t.ended ≡ how → leaves reply t1 ≡ tick_of now t how → t1.ended ≡ None → t.ended ≡ None
tick_by None now t t1 reply is left none = is
tick_by (Some first) now t t1 reply is left none = sym (ap (λ (o : Outcome). o.tables.ended) left) ∙ none

pub tick_stands : (now : ℕ) (t t1 : Tables) (reply : Option Reply) → leaves reply t1 ≡ at_tick now t → t1.ended ≡ None → t.ended ≡ None
tick_stands now t t1 reply left none = tick_by t.ended now t t1 reply refl left none

ends_by_it : (first : Option SessionEnd) (how : SessionEnd) (t : Tables) → t.ended ≡ first → (ends_if how t first).ended ≡ None → ⊥
ends_by_it None how t is none = absurd (cc none)
ends_by_it (Some first) how t is none = absurd (cc (sym is ∙ none))

pub ends_it : (how : SessionEnd) (t t1 : Tables) → t1 ≡ ends_by how t → t1.ended ≡ None → ⊥
ends_it how t t1 is none = ends_by_it t.ended how t refl (sym (ap (λ (x : Tables). x.ended) is) ∙ none)
