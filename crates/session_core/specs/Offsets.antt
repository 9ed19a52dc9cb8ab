-- Offsets and numbers of streams: what a session asks of its hub at each of their commands, and what comes of each answer.
use Rattle.std.specs.Prelude.{ℕ, Result, Ok, Err, Option, Some, None}
use Rattle.std.specs.declared.alloc.AllocError.{AllocError}
use Rattle.command_fields.specs.declared.response.ResponseCode.TheVariants as code
use Rattle.stream_terms.specs.declared.terms.Taken.{Taken}
use Rattle.stream_terms.specs.declared.terms.OfferFault.{OfferFault}
use Rattle.stream_terms.specs.declared.terms.OfferFault.TheVariants as of
use Rattle.stream_terms.specs.Views.{name_of}
use Rattle.hub_terms.specs.Calls.{Words, Finding, StoringOffset, StoredOf, LastChunk}
use Rattle.hub_terms.specs.Programs.{Program, asking, lost}
use Rattle.session_tables.specs.Opening.{Outcome}
use Rattle.session_tables.specs.declared.reply.Reply.TheVariants as say
use Rattle.session_tables.specs.declared.tables.Tables.{Tables}
use Rattle.session_core.specs.Ends.{replies, is_quiet, stream_of}

-- ---- StoreOffset

-- one that is refused is dropped
abbrev pub offset_taken : Tables → Result Taken OfferFault → Program Outcome
offset_taken t (Ok taken) = is_quiet t
offset_taken t (Err of.Memory) = lost
offset_taken t (Err (of.Stale asked running)) = is_quiet t
offset_taken t (Err (of.BadName len)) = is_quiet t
offset_taken t (Err (of.EmptyBatch place)) = is_quiet t
offset_taken t (Err (of.Limit what most)) = is_quiet t

abbrev pub store_at : Tables → Words → ℕ → ℕ → Option ℕ → Program Outcome
store_at t reference offset now None = is_quiet t
store_at t reference offset now (Some number) = asking (StoringOffset number reference offset now) (offset_taken t)

abbrev pub store_row : Tables → Words → Words → ℕ → ℕ → Program Outcome
store_row t reference stream offset now = asking (Finding (name_of stream)) (λ found. store_at t reference offset now (stream_of found))

-- ---- QueryOffset

abbrev pub offset_told : Tables → ℕ → Result (Option ℕ) AllocError → Program Outcome
offset_told t corr (Ok None) = replies t (say.Offset corr code.NoOffset 0)
offset_told t corr (Ok (Some offset)) = replies t (say.Offset corr code.Ok offset)
offset_told t corr (Err e) = lost

abbrev pub query_at : Tables → ℕ → Words → Option ℕ → Program Outcome
query_at t corr reference None = replies t (say.Offset corr code.StreamDoesNotExist 0)
query_at t corr reference (Some number) = asking (StoredOf number reference) (offset_told t corr)

abbrev pub query_row : Tables → ℕ → Words → Words → Program Outcome
query_row t corr reference stream = asking (Finding (name_of stream)) (λ found. query_at t corr reference (stream_of found))

-- ---- StreamStats

abbrev pub last_told : Tables → ℕ → Result (Option ℕ) AllocError → Program Outcome
last_told t corr (Ok last) = replies t (say.Stats corr last)
last_told t corr (Err e) = lost

abbrev pub stats_at : Tables → ℕ → Option ℕ → Program Outcome
stats_at t corr None = replies t (say.NoStats corr)
stats_at t corr (Some number) = asking (LastChunk number) (last_told t corr)

abbrev pub stats_row : Tables → ℕ → Words → Program Outcome
stats_row t corr stream = asking (Finding (name_of stream)) (λ found. stats_at t corr (stream_of found))
