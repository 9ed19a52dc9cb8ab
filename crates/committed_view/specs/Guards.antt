-- What a guard lends.
use Rattle.committed_view.specs.declared.pass.ViewGuard.{ViewGuard}
use Rattle.committed_view.specs.Published.{Chunks, lent_list}

-- the list that a guard lends
abbrev pub list_of : ViewGuard → Chunks
list_of guard = lent_list guard.pass.now
