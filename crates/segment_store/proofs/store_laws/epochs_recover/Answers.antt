use Rattle.std.proofs.Common.{◌≢◌, arith}
use Rattle.disk_calls.proofs.FrameLemmas.{streams_stay}
use Rattle.gated_words.specs.Files.{second_file}
use Rattle.segment_store.specs.Words.{epochs_file}
use Rattle.segment_store.proofs.Lasting.{crash_images}
use Rattle.segment_store.proofs.Keeping.{backs_open, words_images, words_left, words_none, words_seen}
use Rattle.segment_store.proofs.store_laws.epochs_recover.Goals as goal

pub returns-clause-store : goal.returns-clause-store
returns-clause-store g c = λ hand d. backs_open epochs_file hand (g.D.Disk.state d)

pub returns-clause-none : goal.returns-clause-none
returns-clause-none g c = λ d. words_none epochs_file (g.D.Disk.state d)

pub returns-clause-crash : goal.returns-clause-crash
returns-clause-crash g c = λ of old new crash. words_images epochs_file (g.D.Disk.state old) (g.D.Disk.state new) (crash_images of (g.D.Disk.state old) (g.D.Disk.state new) crash)

pub returns-clause-looks : goal.returns-clause-looks
returns-clause-looks g c = λ old new looks. words_images epochs_file (g.D.Disk.state old) (g.D.Disk.state new) looks.images

pub returns-clause-streams : goal.returns-clause-streams
returns-clause-streams g c = λ of old new some others.
    let apart : 0 ≢ of = λ is. omega (arith, some, is) in
    words_left epochs_file (g.D.Disk.state old) (g.D.Disk.state new) (streams_stay epochs_file of (g.D.Disk.state old) (g.D.Disk.state new) apart others) (streams_stay (second_file epochs_file) of (g.D.Disk.state old) (g.D.Disk.state new) apart others)

pub returns-clause-opens : goal.returns-clause-opens
returns-clause-opens g c = λ told d. words_seen epochs_file (g.D.Disk.state d) (λ f. g.met.D.Disk.reads_image d f told)
