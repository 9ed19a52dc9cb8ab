-- What a read and a write over std do to the reader's bytes left and the writer's bytes held, where those are known.
use Rattle.std.specs.Prelude.{ℕ, Bool, List, take, ⊤, Option}
use Rattle.std.specs.Io.KnownBytes.{Appends, Consumes, IsAtEnd, Keeps}
use Rattle.outside_io.specs.declared.source.Took.{Took}
use Rattle.outside_io.specs.declared.source.Took.TheVariants as took
use Rattle.outside_io.specs.declared.sink.Gave.{Gave}
use Rattle.outside_io.specs.declared.sink.Gave.TheVariants as gave
use Rattle.outside_io.specs.declared.std_forms.StdSource.{StdSource}
use Rattle.outside_io.specs.declared.std_forms.StdSink.{StdSink}

-- the reader of a source
abbrev pub reader_of : {R : Type 0} → StdSource R → R
reader_of s = s.reader

-- the failed reads of a source
abbrev pub read_faults : {R : Type 0} → StdSource R → ℕ
read_faults s = s.faults

-- the writer of a sink
abbrev pub writer_of : {W : Type 0} → StdSink W → W
writer_of s = s.writer

-- the failed writes of a sink
abbrev pub write_faults : {W : Type 0} → StdSink W → ℕ
write_faults s = s.faults

-- known bytes are given in order, they ended only where none is left, and a read that failed took none
abbrev pub ReadsFrom : Option (List ℕ) → Took → List ℕ → Option (List ℕ) → Type 0
ReadsFrom old (took.Got n) buf new = Consumes old new (take n buf)
ReadsFrom old took.End buf new = IsAtEnd new
ReadsFrom old took.Failed buf new = Keeps old new

-- the whole piece was added to the known bytes, unless the write failed
abbrev pub WritesTo : Option (List ℕ) → Gave → List ℕ → Option (List ℕ) → Type 0
WritesTo old gave.Done bytes new = Appends old new bytes
WritesTo old gave.Failed bytes new = ⊤

-- a link over a socket: whether a receive has answered Ended, and how many calls failed
pub record SocketState : Type 0 where
  pub has_ended : Bool
  pub faults : ℕ
