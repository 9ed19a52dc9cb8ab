-- A server at work: two declarations of one name, a repeat that is left out, an election that drops a row, and a stop of
-- all.
use Rattle.std.specs.Prelude.{ℕ, true, List, [], ◌∷◌, ◌++◌, map, Some}
use Rattle.chunk_format.specs.LogRows.{LogRow}
use Rattle.command_data.specs.declared.item.Tagged.{Tagged}
use Rattle.list_machine.specs.Streams.{Frame, Declaration, Stream}
use Rattle.list_machine.specs.Publishing.{closed}
use Rattle.list_machine.specs.Leaders.{row_of, Server, Did, declared_one, offered}
use Rattle.list_machine.specs.Examples.{p_name, item, chunk_of, stream_of}

-- a publisher of the name p, by its connection, with these frames
abbrev pub publisher_p : ℕ → List Frame → Declaration
publisher_p connection frames = record { connection = connection; id = 7; name = Some p_name; frames = frames; known = []; stands = true }

abbrev pub frame_p : List Tagged → List Frame
frame_p items = record { items = items; waits = true } ∷ []

abbrev pub first_row : LogRow
first_row = row_of 0 p_name (item 1 97)

abbrev pub second_row : LogRow
second_row = row_of 1 p_name (item 2 98)

-- Item 1 is offered by the one, items 1 and 2 by the other, of which item 1 is left out.
abbrev pub two_offers : List Did
two_offers =
    declared_one (publisher_p 1 []) ∷ offered (item 1 97 ∷ []) (first_row ∷ []) ∷ declared_one (publisher_p 2 []) ∷ offered (item 1 97 ∷ item 2 98 ∷ []) (second_row ∷ []) ∷ []

abbrev pub both_publishers : List Declaration
both_publishers = publisher_p 1 (frame_p (item 1 97 ∷ [])) ∷ publisher_p 2 (frame_p (item 1 97 ∷ item 2 98 ∷ [])) ∷ []

-- the sequences that there were by then
abbrev pub sequences_of_two : List (List LogRow)
sequences_of_two = (first_row ∷ second_row ∷ []) ∷ (first_row ∷ []) ∷ [] ∷ []

abbrev pub after_offers : Server
after_offers = record { declarations = both_publishers; sequence = first_row ∷ second_row ∷ []; sequences = sequences_of_two }

-- the new leader's log lacks the second row
abbrev pub after_election : Server
after_election = record { declarations = map closed both_publishers; sequence = first_row ∷ []; sequences = sequences_of_two }

-- all stops, and is opened anew with what was committed
abbrev pub after_stop : Server
after_stop = record after_election { declarations = map closed (map closed both_publishers) }

-- item 2 is offered again
abbrev pub third_offer : List Did
third_offer = declared_one (publisher_p 3 []) ∷ offered (item 2 98 ∷ []) (second_row ∷ []) ∷ []

abbrev pub after_third : Server
after_third = record {
  declarations = map closed (map closed both_publishers) ++ publisher_p 3 (frame_p (item 2 98 ∷ [])) ∷ [];
  sequence = first_row ∷ second_row ∷ [];
  sequences = (first_row ∷ second_row ∷ []) ∷ sequences_of_two;
}

-- the stream whose list has item 1
abbrev pub with_first : Stream
with_first = stream_of (chunk_of 1 0 (item 1 97) ∷ []) after_third.declarations [] []
