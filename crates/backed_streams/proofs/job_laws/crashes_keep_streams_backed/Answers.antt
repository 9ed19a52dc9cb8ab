use Rattle.segment_store.proofs.Lasting.{crash_images}
use Rattle.backed_streams.proofs.DoneJobs.{crash_backed, crash_stops, images_backed, stops_in_hand}
use Rattle.backed_streams.proofs.job_laws.crashes_keep_streams_backed.Goals as goal

pub returns-clause-one : goal.returns-clause-one
returns-clause-one g c = λ stream of k w old new. crash_backed g.D.Disk.state stream of k w old new

pub returns-clause-stop : goal.returns-clause-stop
returns-clause-stop g c = λ stream of k due came r after old new. crash_stops g.D.Disk.state stream of k due came r after old new

pub returns-clause-all : goal.returns-clause-all
returns-clause-all g c = λ stream of w old new crash. images_backed stream w (λ k. g.D.Disk.state (old k)) (λ k. g.D.Disk.state (new k)) (λ k. crash_images (of k) (g.D.Disk.state (old k)) (g.D.Disk.state (new k)) (crash k))

pub returns-clause-in_hand : goal.returns-clause-in_hand
returns-clause-in_hand g c = λ stream k due r after stores now old new. stops_in_hand g.D.Disk.state stream k due r after stores now old new
