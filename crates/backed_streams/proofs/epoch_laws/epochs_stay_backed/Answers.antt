use Rattle.std.proofs.Common.{◌≢◌, refl, arith}
use Rattle.disk_calls.proofs.FrameLemmas.{streams_stay}
use Rattle.gated_words.specs.Files.{second_file}
use Rattle.replication_laws.specs.Events.{MayBegin}
use Rattle.segment_store.specs.Words.{epochs_file}
use Rattle.segment_store.proofs.Lasting.{crash_images}
use Rattle.backed_streams.proofs.OneDisk.{epoch_is, epoch_sure, no_words, words_keep, words_images, words_stay}
use Rattle.backed_streams.proofs.epoch_laws.epochs_stay_backed.Goals as goal

pub returns-clause-is : goal.returns-clause-is
returns-clause-is g c = λ stream k d. epoch_is stream k.epoch k (g.D.Disk.state d) refl

pub returns-clause-sure : goal.returns-clause-sure
returns-clause-sure g c = λ stream hand d. epoch_sure stream hand (g.D.Disk.state d)

pub returns-clause-none : goal.returns-clause-none
returns-clause-none g c = λ stream d. no_words epochs_file stream (g.D.Disk.state d)

pub returns-clause-keeps : goal.returns-clause-keeps
returns-clause-keeps g c = λ stream k old new. words_keep epochs_file stream (MayBegin k) (g.D.Disk.state old) (g.D.Disk.state new)

pub returns-clause-crash : goal.returns-clause-crash
returns-clause-crash g c = λ stream of k old new crash. words_images epochs_file stream (MayBegin k) (g.D.Disk.state old) (g.D.Disk.state new) (crash_images of (g.D.Disk.state old) (g.D.Disk.state new) crash)

pub returns-clause-looks : goal.returns-clause-looks
returns-clause-looks g c = λ stream k old new looks. words_images epochs_file stream (MayBegin k) (g.D.Disk.state old) (g.D.Disk.state new) looks.images

pub returns-clause-files : goal.returns-clause-files
returns-clause-files g c = λ stream k old new. words_stay epochs_file stream (MayBegin k) (g.D.Disk.state old) (g.D.Disk.state new)

pub returns-clause-streams : goal.returns-clause-streams
returns-clause-streams g c = λ stream of k old new some others.
    let apart : 0 ≢ of = λ is. omega (arith, some, is) in
    words_stay epochs_file stream (MayBegin k) (g.D.Disk.state old) (g.D.Disk.state new) (streams_stay epochs_file of (g.D.Disk.state old) (g.D.Disk.state new) apart others) (streams_stay (second_file epochs_file) of (g.D.Disk.state old) (g.D.Disk.state new) apart others)
