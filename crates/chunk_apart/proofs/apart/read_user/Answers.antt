use Rattle.std.proofs.Common.{rules, ◌≡◌, ℤ, [], ◌++◌, refl, sym, subst, ℕ, List, w64, to_z, of_z, arith}
use Rattle.std.proofs.lemmas.Int.{ints}
use Rattle.chunk_format.specs.Chunks.{header_bytes}
use Rattle.chunk_format.specs.Faults.{IsHeader, whole_len, BeginsWith}
use Rattle.chunk_apart.proofs.ApartLaws.{apart_short, apart_wrong, apart_right}
use Rattle.chunk_apart.proofs.apart.read_user.Goals as goal

pub returns-then-payload-len : goal.returns-then-payload-len
returns-then-payload-len c =
    let h = c.args.header.now in
    let fits : IsHeader h = record { entries = search rules; records = search rules; stamp = search rules; epoch = search rules; first = search rules; crc = search rules; payload_len = search rules; trailer_len = search rules } in
    apart_short h c.args.payload.now _ fits c.requires.trailer (omega arith) refl

pub returns-in-Err : goal.returns-in-Err
returns-in-Err c =
    let h = c.args.header.now in
    let fits : IsHeader h = record { entries = search rules; records = search rules; stamp = search rules; epoch = search rules; first = search rules; crc = search rules; payload_len = search rules; trailer_len = search rules } in
    apart_wrong h c.args.payload.now _ c.in-Err.error fits c.requires.trailer (omega arith) refl c.in-Err.ensures

pub returns-in-Ok : goal.returns-in-Ok
returns-in-Ok c =
    let h = c.args.header.now in
    let fits : IsHeader h = record { entries = search rules; records = search rules; stamp = search rules; epoch = search rules; first = search rules; crc = search rules; payload_len = search rules; trailer_len = search rules } in
    let begins = apart_right h c.args.payload.now _ c.in-Ok.entries fits c.requires.trailer (omega arith) refl c.in-Ok.ensures in
    let stamp : h.stamp ≡ to_z w64 (of_z w64 h.stamp) = omega (arith, ints) in
    let all : BeginsWith (record { kind = h.kind; stamp = to_z w64 (of_z w64 h.stamp); epoch = h.epoch; first = h.first; entries = c.in-Ok.entries; trailer = [] }) (whole_len h) (header_bytes h ++ c.args.payload.now) =
    subst (λ (z : ℤ). BeginsWith (record { kind = h.kind; stamp = z; epoch = h.epoch; first = h.first; entries = c.in-Ok.entries; trailer = [] }) (whole_len h) (header_bytes h ++ c.args.payload.now)) stamp begins in
    (whole_len h, subst (λ (trailer : List ℕ). BeginsWith (record { kind = h.kind; stamp = to_z w64 (of_z w64 h.stamp); epoch = h.epoch; first = h.first; entries = c.in-Ok.entries; trailer = trailer }) (whole_len h) (header_bytes h ++ c.args.payload.now)) (sym c.new.ensures) all)
