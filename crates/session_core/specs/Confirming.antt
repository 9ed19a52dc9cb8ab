-- The confirms that are ready.
use Rattle.std.specs.Prelude.{ℕ, Bool, ◌==◌, ◌&&◌, List, [], ◌∷◌, ◌++◌, flat_map, Option, None, Some, Result, Ok, Err}
use Rattle.std.specs.List.{find}
use Rattle.std.specs.Option.{option_map}
use Rattle.std.specs.declared.alloc.AllocError.{AllocError}
use Rattle.stream_terms.specs.declared.terms.Confirm.{Confirm}
use Rattle.hub_terms.specs.Calls.{Confirming}
use Rattle.hub_terms.specs.Programs.{Program, done, asking, lost}
use Rattle.session_tables.specs.declared.publishers.Publisher.{Publisher}
use Rattle.session_tables.specs.declared.tables.Tables.{Tables}
use Rattle.session_core.specs.declared.unasked.Unasked.{Unasked}
use Rattle.session_core.specs.declared.unasked.Unasked.TheVariants as say
use Rattle.session_core.specs.Speaking.{Spoken, spoken}

-- a publisher with the pass of this stream and serial
abbrev pub is_of : ℕ → ℕ → Publisher → Bool
is_of stream serial p = (p.pass.stream == stream) && (p.pass.serial == serial)

-- the id of the publisher that offered it, where it stands
abbrev pub id_of : List Publisher → Confirm → Option ℕ
id_of publishers c = option_map (λ (p : Publisher). p.id) (find (is_of c.stream c.serial) publishers)

abbrev pub told_by : Confirm → Option ℕ → List Unasked
told_by c None = []
told_by c (Some id) = say.Confirm id c.ids ∷ []

-- a confirm is told while its publisher stands
abbrev pub told_of : List Publisher → Confirm → List Unasked
told_of publishers c = told_by c (id_of publishers c)

abbrev pub all_told : List Publisher → List Confirm → List Unasked
all_told publishers cs = flat_map (told_of publishers) cs

abbrev pub confirmed : Tables → List Unasked → Result (List Confirm) AllocError → Program Spoken
confirmed t said (Ok cs) = done (spoken (said ++ all_told t.publishers cs) t)
confirmed t said (Err e) = lost

-- in the order in which the hub hands them out
abbrev pub confirms_row : Tables → List Unasked → Program Spoken
confirms_row t said = asking (Confirming t.number) (confirmed t said)
