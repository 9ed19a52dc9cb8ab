-- What a connection's commands do: the session's rules.
use Rattle.std.specs.Prelude.{◌≡◌, ℕ, ◌==◌, ◌≤◌, Bool, true, false, if◌then◌else◌, List, [], ◌∷◌, ◌++◌, length, map, Option, Some, None}
use Rattle.std.specs.List.{AllByRecursion}
use Rattle.std.specs.Cmp.Lexicographic.{pointwise}
use Rattle.chunk_format.specs.declared.entry.Entry.{Entry}
use Rattle.chunk_format.specs.declared.entry.Entry.TheVariants.{Simple, Batch}
use Rattle.command_fields.specs.Tables.{IsCommand, body_of}
use Rattle.command_data.specs.declared.item.Tagged.{Tagged}
use Rattle.command_data.specs.declared.item.Refusal.{Refusal}
use Rattle.command_data.specs.declared.command.DataCommand.{DataCommand}
use Rattle.command_data.specs.declared.command.DataCommand.TheVariants.{DeclarePublisher, Publish, PublishError, Credit, CreditFault, Plain}
use Rattle.command_data.specs.Commands.{data_table}
use Rattle.replay_node.specs.declared.session.Offer.{Offer}
use Rattle.replay_node.specs.declared.session.Served.{Served}
use Rattle.replay_node.specs.Commands.{frame_max, IsSimple}

-- the id is one of the declared ones
abbrev pub is_declared : ℕ → List ℕ → Bool
is_declared publisher [] = false
is_declared publisher (id ∷ ids) = if id == publisher then true else is_declared publisher ids

-- a null or an empty reference is none
abbrev pub is_unnamed : Option (List ℕ) → Bool
is_unnamed None = true
is_unnamed (Some name) = length name == 0

-- the text is the stream's name
abbrev pub is_stream : List ℕ → Option (List ℕ) → Bool
is_stream stream None = false
is_stream stream (Some name) = pointwise (λ x y. x == y) stream name

abbrev pub is_simple : Entry → Bool
is_simple (Simple bytes) = true
is_simple (Batch compression spare records uncompressed body) = false

abbrev pub are_simple : List Tagged → Bool
are_simple [] = true
are_simple (item ∷ items) = if is_simple item.entry then are_simple items else false

-- ---- what one command does

-- DeclarePublisher: no such stream, or the id is declared, or done
abbrev pub declare_code : List ℕ → List ℕ → ℕ → Option (List ℕ) → ℕ
declare_code stream publishers publisher name = if is_stream stream name then (if is_declared publisher publishers then 0x11 else 0x01) else 0x02

-- where it was done the id is declared
abbrev pub declared_ids : ℕ → List ℕ → ℕ → List ℕ
declared_ids code publishers publisher = if code == 0x01 then publishers ++ publisher ∷ [] else publishers

abbrev pub declared : List ℕ → List ℕ → ℕ → ℕ → Option (List ℕ) → Served
declared stream publishers corr publisher name = record {
  answers = Plain 0x8001 corr (declare_code stream publishers publisher name) ∷ [];
  publishers = declared_ids (declare_code stream publishers publisher name) publishers publisher;
  offers = [];
}

abbrev pub refused : Tagged → Refusal
refused item = record { id = item.id; code = 0x12 }

-- a refusal for each id
abbrev pub refusals : List Tagged → List Refusal
refusals items = map refused items

-- Publish: nothing without items; those of a declared publisher are taken, and each other one is refused
abbrev pub published : ℕ → List ℕ → ℕ → List Tagged → Served
published connection publishers publisher [] = record { answers = []; publishers = publishers; offers = [] }
published connection publishers publisher (item ∷ items) =
    if is_declared publisher publishers
    then record { answers = []; publishers = publishers; offers = record { connection = connection; publisher = publisher; items = item ∷ items } ∷ [] }
    else record { answers = PublishError publisher (refusals (item ∷ items)) ∷ []; publishers = publishers; offers = [] }

-- Credit: there is no subscription
abbrev pub credited : List ℕ → ℕ → Served
credited publishers sub = record { answers = CreditFault 0x04 sub ∷ []; publishers = publishers; offers = [] }

-- What a command of a connection does, given the stream's name and the connection's publishers. None: it is not served.
abbrev pub serve : ℕ → List ℕ → List ℕ → DataCommand → Option Served
serve connection stream publishers (DeclarePublisher corr publisher reference name) = if is_unnamed reference then Some (declared stream publishers corr publisher name) else None
serve connection stream publishers (Publish publisher items) = if are_simple items then Some (published connection publishers publisher items) else None
serve connection stream publishers (Credit sub credit) = Some (credited publishers sub)
serve connection stream publishers other = None

-- ---- commands in order

-- what came first, and what came behind it
abbrev pub joined : Served → Served → Served
joined first second = record { answers = first.answers ++ second.answers; publishers = second.publishers; offers = first.offers ++ second.offers }

abbrev pub behind : Served → Option Served → Option Served
behind first None = None
behind first (Some second) = Some (joined first second)

abbrev pub and_then : Option Served → (Served → Option Served) → Option Served
and_then None f = None
and_then (Some served) f = behind served (f served)

-- None: one of them is not served
abbrev pub serve_all : ℕ → List ℕ → List ℕ → List DataCommand → Option Served
serve_all connection stream publishers [] = Some (record { answers = []; publishers = publishers; offers = [] })
serve_all connection stream publishers (command ∷ commands) = and_then (serve connection stream publishers command) (λ served. serve_all connection stream served.publishers commands)

-- ---- what the calls do

-- one command more was served, or is not served
abbrev pub ServesOne : Bool → Option Served → Served → Served → Type 0
ServesOne done None old new = done ≡ false
ServesOne done (Some served) old new = (done ≡ true) × (new ≡ joined old served)

-- ---- the frames that were taken

-- a Publish of simple entries, at least one, that stands in one frame
pub record IsOffer (offer : Offer) : Type 0 where
  pub command : IsCommand data_table (Publish offer.publisher offer.items)
  pub short : length (body_of data_table (Publish offer.publisher offer.items)) ≤ frame_max
  pub simple : AllByRecursion (λ (item : Tagged). IsSimple item.entry) offer.items
  pub some : 1 ≤ length offer.items
