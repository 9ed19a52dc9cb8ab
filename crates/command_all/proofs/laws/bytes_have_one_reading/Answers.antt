use Rattle.command_all.proofs.Readings.{some_reading, one_reading, readings_join, readings_stay}
use Rattle.command_all.proofs.laws.bytes_have_one_reading.Goals as goal

pub returns : goal.returns
returns c = record { some = some_reading; one = one_reading; join = readings_join; stay = readings_stay }
