use Rattle.std.proofs.Common.{◌≡◌, ◌++◌, List, ℕ, length, drop, ap, ◌∙◌, arith}
use Rattle.std.proofs.lemmas.List.{take_at}
use Rattle.chunk_format.specs.declared.chunk.Header.{Header}
use Rattle.chunk_format.specs.Chunks.{entries_bytes, header_bytes, chunk_bytes}
use Rattle.chunk_format.proofs.encode.encode_whole.Goals as goal

pub returns-clause-bytes : goal.returns-clause-bytes
returns-clause-bytes c =
    let chunk = c.args.chunk.now in
    let parts = c.in_ok-bytes.bytes in
    let new = c.set_header.new.bytes in
    let len : length new ≡ parts.len = omega (arith, c.set_header.auto.bytes, c.as_mut_slice.ensures.len) in
    let behind : drop 48 c.as_mut_slice.result.now ≡ entries_bytes chunk.entries ++ chunk.trailer = ap (drop 48) (c.as_mut_slice.ensures.value ∙ c.in_ok-bytes.ensures) in
    let whole : c.in_ok-from_vec.field-0 ≡ chunk_bytes chunk =
    c.in_ok-from_vec.ensures.ok ∙ take_at new (drop (length new) parts.items) parts.len len ∙ c.set_header.ensures ∙ ap (λ (l : List ℕ). header_bytes c.make_header-header.result ++ l) behind ∙ ap (λ (h : Header). header_bytes h ++ (entries_bytes chunk.entries ++ chunk.trailer)) c.make_header-header.ensures in
    record { is_chunk = c.requires; spelled = whole }
