-- Streams, super streams and routes: what a session asks of its hub at each of their commands, and what comes of each
-- answer.
use Rattle.std.specs.Prelude.{ℕ, List, [], ◌∷◌, ◌++◌, Result, Ok, Err, Option, Some, None}
use Rattle.std.specs.List.{list_any}
use Rattle.std.specs.declared.alloc.AllocError.{AllocError}
use Rattle.command_fields.specs.declared.response.ResponseCode.{ResponseCode}
use Rattle.command_fields.specs.declared.response.ResponseCode.TheVariants as code
use Rattle.command_fields.specs.Codes.{number_of_code}
use Rattle.command_admin.specs.declared.item.StreamMetadata.{StreamMetadata}
use Rattle.command_admin.specs.declared.item.KeyVersions.{KeyVersions}
use Rattle.stream_terms.specs.Views.{name_of}
use Rattle.hub_terms.specs.declared.terms.Found.{Found}
use Rattle.hub_terms.specs.declared.terms.Found.TheVariants.{Missing, Closed, Running}
use Rattle.hub_terms.specs.declared.terms.HubDid.{HubDid}
use Rattle.hub_terms.specs.declared.terms.HubDid.TheVariants.{Code, Failed, Memory}
use Rattle.hub_terms.specs.Calls.{Words, Finding, Creating, Deleting, CreatingSuper, DeletingSuper, PartsOf, Routing}
use Rattle.hub_terms.specs.Programs.{Program, asking, lost}
use Rattle.session_tables.specs.Subscribing.{takes_second}
use Rattle.session_tables.specs.Opening.{Outcome, says}
use Rattle.session_tables.specs.declared.reply.Reply.TheVariants as say
use Rattle.session_tables.specs.declared.reply.Request.{Request}
use Rattle.session_tables.specs.declared.reply.Request.TheVariants as request
use Rattle.session_tables.specs.declared.tables.Tables.{Tables}
use Rattle.session_core.specs.Ends.{replies, answers}

-- ---- changes of the catalog

-- the hub's code, or an internal error where a disk failed; none where memory ran out
abbrev pub code_of : HubDid → Option ResponseCode
code_of (Code response) = Some response
code_of Failed = Some code.InternalError
code_of Memory = None

abbrev pub answers_by : Tables → Request → ℕ → Option ResponseCode → Program Outcome
answers_by t asked corr (Some response) = answers t asked corr response
answers_by t asked corr None = lost

abbrev pub create_row : Tables → ℕ → Words → Program Outcome
create_row t corr name = asking (Creating name) (λ did. answers_by t request.Create corr (code_of did))

abbrev pub delete_row : Tables → ℕ → Words → Program Outcome
delete_row t corr name = asking (Deleting name) (λ did. answers_by t request.Delete corr (code_of did))

abbrev pub create_super_row : Tables → ℕ → Words → List Words → List Words → Program Outcome
create_super_row t corr name parts keys = asking (CreatingSuper name parts keys) (λ did. answers_by t request.CreateSuper corr (code_of did))

abbrev pub delete_super_row : Tables → ℕ → Words → Program Outcome
delete_super_row t corr name = asking (DeletingSuper name) (λ did. answers_by t request.DeleteSuper corr (code_of did))

-- ---- Metadata

abbrev pub found_code : Found → ResponseCode
found_code Missing = code.StreamDoesNotExist
found_code (Closed stream) = code.StreamNotAvailable
found_code (Running stream epoch) = code.Ok

-- the one broker, or none where no epoch runs
abbrev pub leader_of : Found → ℕ
leader_of Missing = 65535
leader_of (Closed stream) = 65535
leader_of (Running stream epoch) = 0

abbrev pub metadata_of : Words → Found → StreamMetadata
metadata_of name found = record { stream = name; code = number_of_code (found_code found); leader = leader_of found; replicas = [] }

-- these streams behind those that are told already
abbrev pub metadata_from : Tables → ℕ → List Words → List StreamMetadata → Program Outcome
metadata_from t corr [] told = replies t (say.Metadata corr told)
metadata_from t corr (name ∷ names) told = asking (Finding (name_of name)) (λ found. metadata_from t corr names (told ++ metadata_of name found ∷ []))

abbrev pub metadata_row : Tables → ℕ → List Words → Program Outcome
metadata_row t corr names = metadata_from t corr names []

-- ---- Route and Partitions

abbrev pub routes_told : Tables → ℕ → Result (Option (List Words)) AllocError → Program Outcome
routes_told t corr (Ok None) = replies t (say.Routes corr code.StreamDoesNotExist [])
routes_told t corr (Ok (Some names)) = replies t (say.Routes corr code.Ok names)
routes_told t corr (Err e) = lost

abbrev pub route_row : Tables → ℕ → Words → Words → Program Outcome
route_row t corr key name = asking (Routing key name) (routes_told t corr)

abbrev pub parts_told : Tables → ℕ → Result (Option (List Words)) AllocError → Program Outcome
parts_told t corr (Ok None) = replies t (say.Partitions corr code.StreamDoesNotExist [])
parts_told t corr (Ok (Some names)) = replies t (say.Partitions corr code.Ok names)
parts_told t corr (Err e) = lost

abbrev pub partitions_row : Tables → ℕ → Words → Program Outcome
partitions_row t corr name = asking (PartsOf name) (parts_told t corr)

-- ---- ExchangeVersions

-- deliveries are of version 2 from now on where the peer takes it, else of version 1
abbrev pub versions_exchanged : Tables → ℕ → List KeyVersions → Outcome
versions_exchanged t corr items = says (record t { second = list_any takes_second items }) (say.Versions corr)
