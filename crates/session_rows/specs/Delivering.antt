-- What is delivered of a list that grows.
use Rattle.std.specs.Prelude.{◌≡◌, ℕ, ◌-◌, ◌<◌, List, [], ◌∷◌, ◌++◌, map, Some}
use Rattle.chunk_format.specs.declared.chunk.Chunk.{Chunk}
use Rattle.chunk_format.specs.Chunks.{end_of_chunk}
use Rattle.chunk_format.specs.Logs.{next_above}
use Rattle.hub_terms.specs.Meaning.{HubMeaning}
use Rattle.session_rows.specs.declared.tables.Reply.{Reply}
use Rattle.session_rows.specs.declared.tables.Reply.TheVariants.{Deliver}
use Rattle.session_rows.specs.declared.tables.Subscription.{Subscription}

-- Deliveries one after the other: each has a credit, and is of the first chunk that is due.
abbrev pub DeliverRun : List Chunk → ℕ → ℕ → List Chunk → ℕ → ℕ → Type 0
DeliverRun list next credit [] next' credit' = (next' ≡ next) × (credit' ≡ credit)
DeliverRun list next credit (c ∷ cs) next' credit' = (0 < credit) × (next_above next list ≡ Some c) × DeliverRun list (end_of_chunk c) (credit - 1) cs next' credit'

-- what was sent to a subscription
pub record Sending {S : Type 0} (m : HubMeaning S) (id : ℕ) (old new : Subscription) (out0 out1 : List Reply) (h0 h1 : S) : Type 0 where
  pub chunks : List Chunk
  pub sent : out1 ≡ out0 ++ map (Deliver id) chunks
  pub run : DeliverRun (m.seen.lists h1 old.stream) old.next old.credit chunks new.next new.credit
  pub kept : new ≡ record old { next = new.next; credit = new.credit }
  pub later : m.seen.later h0 h1
