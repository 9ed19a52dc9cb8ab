-- The publishers of a session.
use Rattle.std.specs.Prelude.{ℕ, Bool, true, false, ◌==◌, ◌&&◌, not, nat_lt, List, length, filter, Option, Some, None, if◌then◌else◌}
use Rattle.std.specs.List.{list_any}
use Rattle.chunk_format.specs.ByName.{same_name}
use Rattle.stream_terms.specs.declared.terms.Pass.{Pass}
use Rattle.session_tables.specs.declared.publishers.Publisher.{Publisher}

-- a publisher of this id
abbrev pub has_id : ℕ → Publisher → Bool
has_id id p = p.id == id

-- a publisher on this stream under this reference
abbrev pub refers : ℕ → List ℕ → Publisher → Bool
refers stream reference p = (p.pass.stream == stream) && same_name p.reference reference

-- its pass, and whether it has a reference
abbrev pub leave : Publisher → Pass × Bool
leave p = (p.pass, nat_lt 0 (length p.reference))

abbrev pub without_publisher : ℕ → List Publisher → List Publisher
without_publisher id ps = filter (λ (p : Publisher). not (p.id == id)) ps

-- of this stream, and of another epoch than the one that runs there, if one does
abbrev pub is_over : ℕ → Option ℕ → ℕ → ℕ → Bool
is_over stream None on epoch = on == stream
is_over stream (Some running) on epoch = (on == stream) && not (epoch == running)

abbrev pub publisher_over : ℕ → Option ℕ → Publisher → Bool
publisher_over stream running p = is_over stream running p.pass.stream p.pass.epoch

abbrev pub without_ended : ℕ → Option ℕ → List Publisher → List Publisher
without_ended stream running ps = filter (λ (p : Publisher). not (publisher_over stream running p)) ps

-- a reference may have at most 255 bytes, and one that isn't empty stands once on a stream
abbrev pub is_refused : ℕ → ℕ → List ℕ → List Publisher → Bool
is_refused id stream reference ps =
    if list_any (has_id id) ps then true else
    if nat_lt 255 (length reference) then true else
    if length reference == 0 then false else
    list_any (refers stream reference) ps
