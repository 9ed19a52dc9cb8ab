-- Lists that a majority of disks keeps.
use Rattle.std.proofs.Common.{◌≡◌, ℕ, zero, suc, ◌<◌, ◌≤◌, Bool, true, false, List, [], ◌∷◌, length, arith}
use Rattle.std.specs.Prelude.{slice_index_or}
use Rattle.disk_calls.specs.declared.file_id.FileId.{FileId}
use Rattle.disk_calls.specs.Disk.{DiskState}
use Rattle.chunk_format.specs.declared.chunk.Chunk.{Chunk}
use Rattle.chunk_format.specs.Logs.{GoesOn}
use Rattle.chunk_format.proofs.BeginLaws.{goes_on}
use Rattle.segment_pairs.specs.Log.{Finder, LogOf}
use Rattle.segment_pairs.specs.Held.{EachLog, files_of, seen_log}
use Rattle.replication_laws.specs.Majorities.{IsMajority, is_voter}
use Rattle.replication_laws.specs.Cluster.{ClusterState}
use Rattle.replication_laws.specs.Soundness.{Kept}
use Rattle.replication_laws.proofs.Meetings.{majorities}
use Rattle.cluster_core.specs.States.{IsStream, reigned}
use Rattle.segment_store.proofs.Lasting.{ImagesOf}
use Rattle.chunk_search.proofs.Finders.{chunk_finder}
use Rattle.backed_streams.specs.Backing.{Backed, Durable}

voter_at : (voters : List Bool) (i : ℕ) → slice_index_or voters i false ≡ true → i < length voters
voter_at [] i is = absurd (cc is)
voter_at (x ∷ voters) zero is = omega arith
voter_at (x ∷ voters) (suc i) is = let lt = voter_at voters i is in omega (arith, lt)

voter_is : (voters : List Bool) (k : ℕ) → is_voter voters k ≡ true → (0 < k) × (k ≤ length voters)
voter_is voters zero is = absurd (cc is)
voter_is voters (suc i) is = (omega arith, (let lt = voter_at voters i is in omega (arith, lt)))

pub kept_durable : (stream : ℕ) (w : ClusterState) (list : List Chunk) (disks : ℕ → DiskState) → Kept w list → Backed stream w disks → Durable (length w.seats) stream list disks
kept_durable stream w list disks kept b = record { voters = kept.voters; most = kept.most; keeps = keeps }
  where
    keeps : (k : ℕ) → is_voter kept.voters k ≡ true → EachLog stream (GoesOn list) (disks k)
    keeps k is F pick picks =
        let at = voter_is kept.voters k is in
        let each = kept.most.each in
        kept.held k is (LogOf F (files_of stream pick)) ((b.members k at.0 (omega (arith, at.1, each))).log F pick picks)

pub committed_durable : (stream : ℕ) (w : ClusterState) (disks : ℕ → DiskState) → IsStream w → Backed stream w disks → Durable (length w.seats) stream w.committed disks
committed_durable stream w disks x b = kept_durable stream (reigned x.reigns w) w.committed disks x.sound.sound.committed b

pub durable_front : (members stream : ℕ) (front list : List Chunk) (disks : ℕ → DiskState) → GoesOn front list → Durable members stream list disks → Durable members stream front disks
durable_front members stream front list disks goes d = record { voters = d.voters; most = d.most; keeps = λ k is F pick picks. goes_on front list (LogOf F (files_of stream pick)) goes (d.keeps k is F pick picks) }

pub durable_images : (members stream : ℕ) (list : List Chunk) (old new : ℕ → DiskState) → ((k : ℕ) → ImagesOf (old k) (new k)) → Durable members stream list old → Durable members stream list new
durable_images members stream list old new back d = record { voters = d.voters; most = d.most; keeps = λ k is F pick picks. d.keeps k is F pick (λ f. back k f (pick f) (picks f)) }

-- two lists that are durable at once begin one log
pub durable_meet : (members stream : ℕ) (one two : List Chunk) (disks : ℕ → DiskState) → ((k : ℕ) (f : FileId) → (disks k).images f ((disks k).seen f)) → Durable members stream one disks → Durable members stream two disks → (log : List Chunk) × GoesOn one log × GoesOn two log
durable_meet members stream one two disks reads a b =
    let meet = majorities members a.voters b.voters a.most b.most in
    let k = meet.0 in
    (seen_log chunk_finder stream (disks k), a.keeps k meet.1 chunk_finder (disks k).seen (reads k), b.keeps k meet.2 chunk_finder (disks k).seen (reads k))

-- a read of more than half of the disks gives it
pub durable_seen : (F : Finder) (members stream : ℕ) (list : List Chunk) (disks : ℕ → DiskState) → ((k : ℕ) (f : FileId) → (disks k).images f ((disks k).seen f)) → Durable members stream list disks
    → (voters : List Bool) × IsMajority members voters × ((k : ℕ) → is_voter voters k ≡ true → GoesOn list (seen_log F stream (disks k)))
durable_seen F members stream list disks reads d = (d.voters, d.most, (λ k is. d.keeps k is F (disks k).seen (reads k)))
