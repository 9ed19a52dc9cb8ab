use Rattle.segment_store.proofs.Lasting.{crash_images}
use Rattle.backed_streams.proofs.Lasting.{kept_durable, committed_durable, durable_front, durable_images, durable_seen, durable_meet}
use Rattle.backed_streams.proofs.durable_laws.committed_lists_are_durable.Goals as goal

pub returns-clause-kept : goal.returns-clause-kept
returns-clause-kept g c = λ stream w list disks. kept_durable stream w list (λ j. g.D.Disk.state (disks j))

pub returns-clause-committed : goal.returns-clause-committed
returns-clause-committed g c = λ stream w disks. committed_durable stream w (λ j. g.D.Disk.state (disks j))

pub returns-clause-front : goal.returns-clause-front
returns-clause-front g c = λ members stream front list disks. durable_front members stream front list (λ j. g.D.Disk.state (disks j))

pub returns-clause-crash : goal.returns-clause-crash
returns-clause-crash g c = λ members stream of list old new crash. durable_images members stream list (λ j. g.D.Disk.state (old j)) (λ j. g.D.Disk.state (new j)) (λ k. crash_images (of k) (g.D.Disk.state (old k)) (g.D.Disk.state (new k)) (crash k))

pub returns-clause-seen : goal.returns-clause-seen
returns-clause-seen g c = λ told F members stream list disks. durable_seen F members stream list (λ j. g.D.Disk.state (disks j)) (λ k f. g.met.D.Disk.reads_image (disks k) f told)

pub returns-clause-meet : goal.returns-clause-meet
returns-clause-meet g c = λ told members stream one two disks. durable_meet members stream one two (λ j. g.D.Disk.state (disks j)) (λ k f. g.met.D.Disk.reads_image (disks k) f told)
