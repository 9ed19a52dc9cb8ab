use Rattle.stream_terms.proofs.lists.next_above.Given as goal

abbrev pub ghosts-place_above : goal.ghosts-place_above
ghosts-place_above a = record { name = a.blank.name; parts = a.blank.parts }
