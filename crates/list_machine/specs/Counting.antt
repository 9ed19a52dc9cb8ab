-- A server of one stream, as it confirms frames of publishers without a name: to see that what it confirms is counted.
use Rattle.std.specs.Prelude.{◌≡◌, ℕ, ◌≤◌, List, [], ◌∷◌, ◌++◌, length, flat_map}
use Rattle.chunk_format.specs.declared.entry.Entry.{Entry}
use Rattle.chunk_format.specs.LogRows.{LogRow}
use Rattle.chunk_format.specs.Logs.{bare}

-- a frame that waits until the list has so many rows
pub record Wait : Type 0 where
  pub end : ℕ
  pub entries : List Entry

-- the leader's sequence, what of it is committed, the frames that wait, and the entries that were confirmed
pub record Counter : Type 0 where
  pub sequence : List LogRow
  pub committed : List LogRow
  pub waits : List Wait
  pub spent : List Entry

abbrev pub new_counter : Counter
new_counter = record { sequence = []; committed = []; waits = []; spent = [] }

pub data Counts : Type 0 where
  appends : List LogRow → Counts
  appends_waiting : List LogRow → Counts
  commits_more : List LogRow → Counts
  confirms_one : Wait → Counts
  elects_another : List LogRow → Counts

pub record ConfirmOne (old : Counter) (one : Wait) (new : Counter) : Type 0 where
  pub before : List Wait
  pub after : List Wait
  pub waits : old.waits ≡ before ++ one ∷ after
  pub reached : one.end ≤ length old.committed
  pub is : new ≡ record old { waits = before ++ after; spent = old.spent ++ one.entries }

abbrev pub CounterStep : Counter → Counts → Counter → Type 0
-- rows of others
CounterStep old (appends rows) new = new ≡ record old { sequence = old.sequence ++ rows }
-- the rows of a frame without a name, which then waits for the sequence's end
CounterStep old (appends_waiting rows) new =
    new ≡ record old { sequence = old.sequence ++ rows; waits = old.waits ++ record { end = length (old.sequence ++ rows); entries = flat_map bare rows } ∷ [] }
CounterStep old (commits_more rows) new = ((rest : List LogRow) × (old.sequence ≡ (old.committed ++ rows) ++ rest)) × (new ≡ record old { committed = old.committed ++ rows })
CounterStep old (confirms_one one) new = ConfirmOne old one new
-- another leader, whose log begins with what is committed
CounterStep old (elects_another rest) new = new ≡ record old { sequence = old.committed ++ rest; waits = [] }

abbrev pub CounterRun : Counter → List Counts → Counter → Type 0
CounterRun old [] new = new ≡ old
CounterRun old (event ∷ events) new = (mid : Counter) × CounterStep old event mid × CounterRun mid events new
