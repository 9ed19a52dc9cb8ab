use Rattle.disk_calls.proofs.Chain.{place_held, written_bytes, written_longer}
use Rattle.disk_calls.proofs.FrameLemmas.{settled_holds}
use Rattle.disk_calls.proofs.steps.append.Goals as goal

pub returns-in-Failed-clause-images : goal.returns-in-Failed-clause-images
returns-in-Failed-clause-images g c = λ told base settled.
    written_longer _ _ _ base c.args.place _ settled (place_held _ _ c.args.place base (c.requires told) (settled_holds _ _ _ settled)) c.write_at.ensures.changes

pub returns-clause-images : goal.returns-clause-images
returns-clause-images g c = λ told base settled d left.
    written_longer _ _ _ base c.args.place _ settled (place_held _ _ c.args.place base (c.requires told) (settled_holds _ _ _ settled)) c.write_at.ensures.changes d (c.sync.ensures.looks.images _ d left)

pub returns-in-Failed-clause-of_bytes : goal.returns-in-Failed-clause-of_bytes
returns-in-Failed-clause-of_bytes g c = λ told base holds.
    written_bytes _ _ _ base c.args.place _ holds (place_held _ _ c.args.place base (c.requires told) holds) c.write_at.ensures.changes

pub returns-clause-of_bytes : goal.returns-clause-of_bytes
returns-clause-of_bytes g c = λ told base holds d left.
    written_bytes _ _ _ base c.args.place _ holds (place_held _ _ c.args.place base (c.requires told) holds) c.write_at.ensures.changes d (c.sync.ensures.looks.images _ d left)
