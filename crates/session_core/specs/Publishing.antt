-- Publishers: what a session asks of its hub at each of their commands, and what comes of each answer.
use Rattle.std.specs.Prelude.{◌==◌, ℕ, Bool, List, [], ◌∷◌, ◌++◌, length, Result, Ok, Err, Option, Some, None, if◌then◌else◌}
use Rattle.std.specs.List.{list_any, find}
use Rattle.std.specs.Option.{option_map}
use Rattle.std.specs.declared.alloc.AllocError.{AllocError}
use Rattle.command_fields.specs.declared.response.ResponseCode.{ResponseCode}
use Rattle.command_fields.specs.declared.response.ResponseCode.TheVariants as code
use Rattle.command_data.specs.declared.item.Tagged.{Tagged}
use Rattle.stream_terms.specs.declared.terms.Pass.{Pass}
use Rattle.stream_terms.specs.declared.terms.Taken.{Taken}
use Rattle.stream_terms.specs.declared.terms.DeclareFault.{DeclareFault}
use Rattle.stream_terms.specs.declared.terms.DeclareFault.TheVariants as df
use Rattle.stream_terms.specs.declared.terms.OfferFault.{OfferFault}
use Rattle.stream_terms.specs.declared.terms.OfferFault.TheVariants as of
use Rattle.stream_terms.specs.Views.{name_of}
use Rattle.hub_terms.specs.declared.terms.Found.{Found}
use Rattle.hub_terms.specs.declared.terms.Found.TheVariants.{Missing, Closed, Running}
use Rattle.hub_terms.specs.Calls.{Words, Finding, Declaring, Offering, GreatestOf}
use Rattle.hub_terms.specs.Programs.{Program, asking, lost}
use Rattle.session_tables.specs.Publishing.{has_id, leave, without_publisher, is_refused}
use Rattle.session_tables.specs.Subscribing.{with_stream}
use Rattle.session_tables.specs.Opening.{Outcome, says}
use Rattle.session_tables.specs.declared.reply.Reply.TheVariants as say
use Rattle.session_tables.specs.declared.reply.Request.TheVariants as request
use Rattle.session_tables.specs.declared.tables.Tables.{Tables}
use Rattle.session_core.specs.Ends.{replies, answers, is_quiet, stream_of}

-- ---- DeclarePublisher

-- a publisher with this pass, and the name of its stream
abbrev pub with_publisher : ℕ → Pass → Words → Words → Tables → Tables
with_publisher id pass reference stream t = record t {
  publishers = t.publishers ++ record { id = id; pass = pass; reference = name_of reference } ∷ [];
  streams = with_stream pass.stream stream t.streams;
}

abbrev pub declared : Tables → ℕ → ℕ → Words → Words → Result Pass DeclareFault → Program Outcome
declared t corr id reference stream (Ok pass) = answers (with_publisher id pass reference stream t) request.DeclarePublisher corr code.Ok
declared t corr id reference stream (Err df.Closed) = answers t request.DeclarePublisher corr code.StreamNotAvailable
declared t corr id reference stream (Err df.Memory) = lost

abbrev pub declare_running : Tables → ℕ → ℕ → Words → Words → ℕ → Program Outcome
declare_running t corr id reference stream number =
    if is_refused id number (name_of reference) t.publishers then answers t request.DeclarePublisher corr code.PreconditionFailed
    else asking (Declaring t.number number reference) (declared t corr id reference stream)

abbrev pub declare_on : Tables → ℕ → ℕ → Words → Words → Found → Program Outcome
declare_on t corr id reference stream Missing = answers t request.DeclarePublisher corr code.StreamDoesNotExist
declare_on t corr id reference stream (Closed number) = answers t request.DeclarePublisher corr code.StreamNotAvailable
declare_on t corr id reference stream (Running number epoch) = declare_running t corr id reference stream number

abbrev pub declare_row : Tables → ℕ → ℕ → Words → Words → Program Outcome
declare_row t corr id reference stream = asking (Finding (name_of stream)) (declare_on t corr id reference stream)

-- ---- Publish

abbrev pub closes : ℕ → Tables → Tables
closes id t = record t { publishers = without_publisher id t.publishers }

-- a publisher with a reference is closed after a refusal
abbrev pub refuses : Tables → ℕ → Bool → List Tagged → ResponseCode → Program Outcome
refuses t id named items response = replies (if named then closes id t else t) (say.PublishError id items response)

abbrev pub offered : Tables → ℕ → Bool → List Tagged → Result Taken OfferFault → Program Outcome
offered t id named items (Ok taken) = is_quiet t
offered t id named items (Err (of.Stale asked running)) = refuses t id named items code.StreamNotAvailable
offered t id named items (Err (of.BadName len)) = refuses t id named items code.PreconditionFailed
offered t id named items (Err (of.EmptyBatch place)) = refuses t id named items code.PreconditionFailed
offered t id named items (Err (of.Limit what most)) = refuses t id named items code.PreconditionFailed
offered t id named items (Err of.Memory) = lost

abbrev pub publish_by : Tables → ℕ → List Tagged → ℕ → Option (Pass × Bool) → Program Outcome
publish_by t id items now None = replies t (say.PublishError id items code.PublisherDoesNotExist)
publish_by t id items now (Some p) = asking (Offering p.0.stream p.0 items now) (offered t id p.1 items)

abbrev pub publish_row : Tables → ℕ → List Tagged → ℕ → Program Outcome
publish_row t id items now =
    if length items == 0 then is_quiet t
    else publish_by t id items now (option_map leave (find (has_id id) t.publishers))

-- ---- QueryPublisherSequence

abbrev pub sequence_told : Tables → ℕ → Result (Option ℕ) AllocError → Program Outcome
sequence_told t corr (Ok None) = replies t (say.Sequence corr code.Ok 0)
sequence_told t corr (Ok (Some id)) = replies t (say.Sequence corr code.Ok id)
sequence_told t corr (Err e) = lost

abbrev pub sequence_at : Tables → ℕ → Words → Option ℕ → Program Outcome
sequence_at t corr reference None = replies t (say.Sequence corr code.StreamDoesNotExist 0)
sequence_at t corr reference (Some number) = asking (GreatestOf number reference) (sequence_told t corr)

abbrev pub sequence_row : Tables → ℕ → Words → Words → Program Outcome
sequence_row t corr reference stream = asking (Finding (name_of stream)) (λ found. sequence_at t corr reference (stream_of found))

-- ---- DeletePublisher

abbrev pub publisher_deleted : Tables → ℕ → ℕ → Outcome
publisher_deleted t corr id =
    if list_any (has_id id) t.publishers then says (closes id t) (say.Answer request.DeletePublisher corr code.Ok)
    else says t (say.Answer request.DeletePublisher corr code.PublisherDoesNotExist)
