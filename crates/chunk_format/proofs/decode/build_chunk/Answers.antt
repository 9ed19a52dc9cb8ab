use Rattle.std.proofs.Common.{◌≡◌, ℕ, ℤ, ◌+◌, ◌-◌, take, drop, w64, to_z, of_z, ap, subst, ◌∙◌, arith}
use Rattle.std.proofs.lemmas.Int.{ints}
use Rattle.chunk_format.specs.Faults.{whole_len, BeginsWith}
use Rattle.chunk_format.proofs.ReadLaws.{heads_entries, heads_begins}
use Rattle.chunk_format.proofs.decode.build_chunk.Goals as goal

pub own_entries-requires : goal.own_entries-requires
own_entries-requires c =
    let h = c.args.header.now in
    let payload_is : 48 + h.payload_len - 48 ≡ h.payload_len = omega arith in
    heads_entries h c.args.bytes.now _ c.requires (ap (λ (n : ℕ). take n (drop 48 c.args.bytes.now)) payload_is)

pub returns : goal.returns
returns c =
    let bytes = c.args.bytes.now in
    let h = c.args.header.now in
    let payload_is : 48 + h.payload_len - 48 ≡ h.payload_len = omega arith in
    let trailer_is : 48 + h.payload_len + h.trailer_len - (48 + h.payload_len) ≡ h.trailer_len = omega arith in
    let begins = heads_begins h bytes _ c.in_ok-trailer.trailer c.in_ok-entries.entries c.requires (ap (λ (n : ℕ). take n (drop 48 bytes)) payload_is)
    (c.in_ok-trailer.ensures ∙ ap (λ (n : ℕ). take n (drop (48 + h.payload_len) bytes)) trailer_is) c.in_ok-entries.ensures in
    let stamp : h.stamp ≡ to_z w64 (of_z w64 h.stamp) = omega (arith, ints) in
    subst (λ (z : ℤ). BeginsWith (record { kind = h.kind; stamp = z; epoch = h.epoch; first = h.first; entries = c.in_ok-entries.entries; trailer = c.in_ok-trailer.trailer }) (whole_len h) bytes) stamp begins
