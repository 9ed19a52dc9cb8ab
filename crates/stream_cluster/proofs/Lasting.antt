-- What lasts over an offer and a stored offset.
use Rattle.std.proofs.Common.{ℕ, List, Option, sym, subst}
use Rattle.chunk_format.specs.declared.chunk.Chunk.{Chunk}
use Rattle.chunk_format.specs.Logs.{RisesIn}
use Rattle.command_data.specs.declared.item.Tagged.{Tagged}
use Rattle.replication_laws.specs.Cluster.{Reign}
use Rattle.replication_laws.specs.Events.{AnyStep, Takes}
use Rattle.replication_laws.specs.Soundness.{Kept, IsSound, StaysKept}
use Rattle.replication_laws.specs.Properties.{SoundWith}
use Rattle.replication_laws.proofs.Joined.{step_kept}
use Rattle.replication_laws.proofs.Properties.{step_with}
use Rattle.replication_laws.proofs.Snapshots.{rises_property, rises_offers}
use Rattle.stream_terms.specs.declared.terms.Pass.{Pass}
use Rattle.stream_terms.specs.declared.terms.Taken.{Taken}
use Rattle.stream_terms.specs.Views.{name_of}
use Rattle.leader_offers.specs.Adds.{offset_limits}
use Rattle.cluster_core.specs.States.{reigned}
use Rattle.stream_cluster.specs.Served.{ServedState, IsServed}
use Rattle.stream_cluster.specs.Takes.{leader_of, OfferMade, OffsetMade}
use Rattle.stream_cluster.proofs.Offering.{offer_step, offset_step, runs_so, leading_log}

-- the members after it, and a step of the laws to them
record Stepped (now : ℕ) (old new : ServedState) : Type 0 where
  step : (rs : List Reign) → AnyStep (reigned rs old.state.cluster) (reigned rs new.state.cluster)

offer_stepped : (now : ℕ) (old new : ServedState) (p : Pass) (items : List Tagged) (t : Taken) → IsServed old → OfferMade old p items now t new → Stepped now old new
offer_stepped now old new p items t h a =
    let w = old.state.cluster in
    let run = a.useful.0 in
    let step = offer_step w p.epoch (leader_of w) old.limits a.given.name items now t a.leader (runs_so w p.epoch h.stream run) (leading_log w p.epoch h.stream run) a.short a.added in
    record { step = λ rs. subst (λ (s : ServedState). AnyStep (reigned rs w) (reigned rs s.state.cluster)) (sym a.new_is) (Takes now (step rs)) }

offset_stepped : (now : ℕ) (old new : ServedState) (name : Option (List ℕ)) (offset : ℕ) (t : Taken) → IsServed old → OffsetMade old name offset now t new → Stepped now old new
offset_stepped now old new name offset t h a =
    let w = old.state.cluster in
    let e = a.runs.0 in
    let run = a.runs.1 in
    let step = offset_step w e (leader_of w) old.limits (name_of name) offset now offset_limits t a.leader (runs_so w e h.stream run) (leading_log w e h.stream run) a.added.added in
    record { step = λ rs. subst (λ (s : ServedState). AnyStep (reigned rs w) (reigned rs s.state.cluster)) (sym a.new_is) (Takes now (step rs)) }

pub offer_kept : (opened now : ℕ) (rs : List Reign) (old new : ServedState) (p : Pass) (items : List Tagged) (t : Taken) (list : List Chunk) → IsServed old → OfferMade old p items now t new → IsSound opened (reigned rs old.state.cluster) → Kept (reigned rs old.state.cluster) list → StaysKept list (reigned rs new.state.cluster)
offer_kept opened now rs old new p items t list h a sound kept = step_kept opened (reigned rs old.state.cluster) (reigned rs new.state.cluster) list sound ((offer_stepped now old new p items t h a).step rs) kept

pub offset_kept : (opened now : ℕ) (rs : List Reign) (old new : ServedState) (name : Option (List ℕ)) (offset : ℕ) (t : Taken) (list : List Chunk) → IsServed old → OffsetMade old name offset now t new → IsSound opened (reigned rs old.state.cluster) → Kept (reigned rs old.state.cluster) list → StaysKept list (reigned rs new.state.cluster)
offset_kept opened now rs old new name offset t list h a sound kept = step_kept opened (reigned rs old.state.cluster) (reigned rs new.state.cluster) list sound ((offset_stepped now old new name offset t h a).step rs) kept

pub offer_rises : (opened now : ℕ) (rs : List Reign) (old new : ServedState) (p : Pass) (items : List Tagged) (t : Taken) → IsServed old → OfferMade old p items now t new → SoundWith RisesIn opened (reigned rs old.state.cluster) → SoundWith RisesIn opened (reigned rs new.state.cluster)
offer_rises opened now rs old new p items t h a sound = step_with RisesIn opened (reigned rs old.state.cluster) (reigned rs new.state.cluster) rises_property rises_offers sound ((offer_stepped now old new p items t h a).step rs)

pub offset_rises : (opened now : ℕ) (rs : List Reign) (old new : ServedState) (name : Option (List ℕ)) (offset : ℕ) (t : Taken) → IsServed old → OffsetMade old name offset now t new → SoundWith RisesIn opened (reigned rs old.state.cluster) → SoundWith RisesIn opened (reigned rs new.state.cluster)
offset_rises opened now rs old new name offset t h a sound = step_with RisesIn opened (reigned rs old.state.cluster) (reigned rs new.state.cluster) rises_property rises_offers sound ((offset_stepped now old new name offset t h a).step rs)
