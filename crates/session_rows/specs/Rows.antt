-- What a session answers to three commands, whatever hub it has: the calls that it makes, and what it does with each answer.
use Rattle.std.specs.Prelude.{◌==◌, ℕ, Bool, true, false, not, ◌||◌, nat_lt, List, [], ◌∷◌, ◌++◌, length, Result, Ok, Err, Option, Some, None, filter, slice_index_or, slice_set, if◌then◌else◌}
use Rattle.std.specs.List.{list_any, find}
use Rattle.std.specs.Option.{option_map}
use Rattle.std.specs.declared.alloc.AllocError.{AllocError}
use Rattle.command_fields.specs.declared.offset.OffsetSpec.{OffsetSpec}
use Rattle.command_fields.specs.declared.response.ResponseCode.{ResponseCode}
use Rattle.command_fields.specs.declared.response.ResponseCode.TheVariants as code
use Rattle.command_data.specs.declared.item.Tagged.{Tagged}
use Rattle.stream_terms.specs.declared.terms.Pass.{Pass}
use Rattle.stream_terms.specs.declared.terms.Taken.{Taken}
use Rattle.stream_terms.specs.declared.terms.DeclareFault.{DeclareFault}
use Rattle.stream_terms.specs.declared.terms.DeclareFault.TheVariants as df
use Rattle.stream_terms.specs.declared.terms.OfferFault.{OfferFault}
use Rattle.stream_terms.specs.declared.terms.OfferFault.TheVariants as of
use Rattle.hub_terms.specs.declared.terms.Found.{Found}
use Rattle.hub_terms.specs.declared.terms.Found.TheVariants.{Missing, Closed, Running}
use Rattle.hub_terms.specs.Calls.{Words, Finding, Declaring, Offering, Starting}
use Rattle.hub_terms.specs.Programs.{Program, done, asking, lost}
use Rattle.session_rows.specs.declared.tables.Publisher.{Publisher}
use Rattle.session_rows.specs.declared.tables.Subscription.{Subscription}
use Rattle.session_rows.specs.declared.tables.Tables.{Tables}
use Rattle.session_rows.specs.declared.tables.Reply.{Reply}
use Rattle.session_rows.specs.declared.tables.Reply.TheVariants.{Answer, PublishError}

-- a publisher of this id
abbrev pub blocks : ℕ → Publisher → Bool
blocks id p = p.id == id

abbrev pub leave : Publisher → Pass × Bool
leave p = (p.pass, p.named)

abbrev pub without_publisher : ℕ → List Publisher → List Publisher
without_publisher id ps = filter (λ (p : Publisher). not (p.id == id)) ps

-- null, or at most 255 bytes
abbrev pub is_short : Words → Bool
is_short None = true
is_short (Some name) = not (nat_lt 255 (length name))

-- neither null nor empty
abbrev pub has_name : Words → Bool
has_name None = false
has_name (Some name) = nat_lt 0 (length name)

-- what a session keeps
pub record Kept : Type 0 where
  pub number : ℕ
  pub publishers : List Publisher
  pub subscriptions : List (Option Subscription)

abbrev pub kept_of : Tables → Kept
kept_of t = record { number = t.number; publishers = t.publishers.items; subscriptions = t.subscriptions }

-- what a command leaves: the reply, and what is kept then
pub record Outcome : Type 0 where
  pub reply : Option Reply
  pub kept : Kept

abbrev pub says : Kept → Reply → Program Outcome
says k r = done (record { reply = Some r; kept = k })

-- ---- DeclarePublisher

abbrev pub declared : Kept → ℕ → ℕ → Words → Result Pass DeclareFault → Program Outcome
declared k corr id reference (Ok pass) = says (record k { publishers = k.publishers ++ record { id = id; pass = pass; named = has_name reference } ∷ [] }) (Answer corr code.Ok)
declared k corr id reference (Err df.Closed) = says k (Answer corr code.StreamNotAvailable)
declared k corr id reference (Err df.Memory) = lost

abbrev pub declare_on : Kept → ℕ → ℕ → Words → Found → Program Outcome
declare_on k corr id reference Missing = says k (Answer corr code.StreamDoesNotExist)
declare_on k corr id reference (Closed stream) = says k (Answer corr code.StreamNotAvailable)
declare_on k corr id reference (Running stream epoch) =
    if list_any (blocks id) k.publishers || not (is_short reference) then says k (Answer corr code.PreconditionFailed)
    else asking (Declaring k.number stream reference) (declared k corr id reference)

abbrev pub declare_row : Kept → ℕ → ℕ → Words → List ℕ → Program Outcome
declare_row k corr id reference stream = asking (Finding stream) (declare_on k corr id reference)

-- ---- Publish

-- a named publisher is closed after a refusal
abbrev pub refuses : Kept → ℕ → Bool → List Tagged → ResponseCode → Program Outcome
refuses k id named items response =
    done (record {
      reply = Some (PublishError id items response);
      kept = if named then record k { publishers = without_publisher id k.publishers } else k;
    })

abbrev pub offered : Kept → ℕ → Bool → List Tagged → Result Taken OfferFault → Program Outcome
offered k id named items (Ok t) = done (record { reply = None; kept = k })
offered k id named items (Err (of.Stale asked running)) = refuses k id named items code.StreamNotAvailable
offered k id named items (Err (of.BadName len)) = refuses k id named items code.PreconditionFailed
offered k id named items (Err (of.EmptyBatch place)) = refuses k id named items code.PreconditionFailed
offered k id named items (Err (of.Limit what most)) = refuses k id named items code.PreconditionFailed
offered k id named items (Err of.Memory) = lost

abbrev pub publish_on : Kept → ℕ → List Tagged → ℕ → Option (Pass × Bool) → Program Outcome
publish_on k id items now None = says k (PublishError id items code.PublisherDoesNotExist)
publish_on k id items now (Some p) = asking (Offering p.0.stream p.0 items now) (offered k id p.1 items)

abbrev pub publish_row : Kept → ℕ → List Tagged → ℕ → Program Outcome
publish_row k id items now =
    if length items == 0 then done (record { reply = None; kept = k })
    else publish_on k id items now (option_map leave (find (blocks id) k.publishers))

-- ---- Subscribe

abbrev pub slot : ℕ → Kept → Option Subscription
slot id k = slice_index_or k.subscriptions id None

abbrev pub put_slot : ℕ → Option Subscription → Kept → Kept
put_slot id s k = record k { subscriptions = slice_set k.subscriptions id s }

abbrev pub started : Kept → ℕ → ℕ → ℕ → ℕ → Result ℕ AllocError → Program Outcome
started k corr id stream credit (Ok next) = says (put_slot id (Some (record { stream = stream; next = next; credit = credit })) k) (Answer corr code.Ok)
started k corr id stream credit (Err e) = lost

abbrev pub subscribe_at : Kept → ℕ → ℕ → ℕ → OffsetSpec → ℕ → Option Subscription → Program Outcome
subscribe_at k corr id stream spec credit (Some s) = says k (Answer corr code.SubscriptionIdAlreadyExists)
subscribe_at k corr id stream spec credit None = asking (Starting stream spec) (started k corr id stream credit)

abbrev pub subscribe_on : Kept → ℕ → ℕ → OffsetSpec → ℕ → Found → Program Outcome
subscribe_on k corr id spec credit Missing = says k (Answer corr code.StreamDoesNotExist)
subscribe_on k corr id spec credit (Closed stream) = says k (Answer corr code.StreamNotAvailable)
subscribe_on k corr id spec credit (Running stream epoch) = subscribe_at k corr id stream spec credit (slot id k)

abbrev pub subscribe_row : Kept → ℕ → ℕ → List ℕ → OffsetSpec → ℕ → Program Outcome
subscribe_row k corr id stream spec credit = asking (Finding stream) (subscribe_on k corr id spec credit)
