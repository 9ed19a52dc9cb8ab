-- A type, a name and a number that stand at the front of bytes, read by their places.
use Rattle.std.proofs.Common.{◌≡◌, ℕ, ◌+◌, ◌^◌, ◌<◌, List, ◌++◌, length, get_or, take, drop, refl, sym, ap, ◌∙◌, append_assoc, arith, length-append}
use Rattle.std.specs.Int.{w64, from_be_bytes}
use Rattle.std.proofs.lemmas.List.{take_at, drop_at}
use Rattle.frame_wire.specs.Fields.{u8_bytes, u64_bytes}
use Rattle.frame_wire.proofs.FieldLaws.{u8_length, u64_length, u64_back}
use Rattle.chunk_format.specs.Tags.{IsName, named_bytes}
use Rattle.chunk_format.proofs.Codes.{named_length, named_number_length}
use Rattle.chunk_format.proofs.Splitting.{named_second}

named_first : (kind : ℕ) (name more bytes : List ℕ) → kind < 2 ^ 8 → bytes ≡ named_bytes kind name ++ more → get_or bytes 0 0 ≡ kind
unfolding u8_bytes
named_first kind name more bytes fits e = let first = ap (λ (l : List ℕ). get_or l 0 0) e in omega arith

-- what stands at the places, and behind
pub record NamedRead (bytes : List ℕ) (kind : ℕ) (name : List ℕ) (n : ℕ) (rest : List ℕ) : Type 0 where
  pub kind_is : get_or bytes 0 0 ≡ kind
  pub len_is : get_or bytes 1 0 ≡ length name
  pub name_is : take (length name) (drop 2 bytes) ≡ name
  pub number_is : from_be_bytes w64 (take 8 (drop (2 + length name) bytes)) ≡ n
  pub rest_is : drop (10 + length name) bytes ≡ rest

pub named_read : (bytes : List ℕ) (kind : ℕ) (name : List ℕ) (n : ℕ) (rest : List ℕ) → kind < 2 ^ 8 → IsName name → n < 2 ^ 64 → bytes ≡ (named_bytes kind name ++ u64_bytes n) ++ rest → NamedRead bytes kind name n rest
named_read bytes kind name n rest kind_fits is_name n_fits e =
    let behind = u64_bytes n ++ rest in
    let flat : bytes ≡ named_bytes kind name ++ behind = e ∙ append_assoc (named_bytes kind name) (u64_bytes n) rest in
    let two = u8_bytes kind ++ u8_bytes (length name) in
    let two_len : length two ≡ 2 = omega (arith, length-append (u8_bytes kind) (u8_bytes (length name)), u8_length kind, u8_length (length name)) in
    let parted : bytes ≡ two ++ (name ++ behind) =
    flat ∙ ap (λ (l : List ℕ). l ++ behind) (sym (append_assoc (u8_bytes kind) (u8_bytes (length name)) name)) ∙ append_assoc two name behind in
    let numbers : drop (2 + length name) bytes ≡ behind = ap (drop (2 + length name)) flat ∙ drop_at (named_bytes kind name) behind (2 + length name) (named_length kind name) in
    record {
      kind_is = named_first kind name behind bytes kind_fits flat;
      len_is = named_second kind name behind bytes is_name.1 flat;
      name_is = ap (λ (l : List ℕ). take (length name) (drop 2 l)) parted ∙ ap (take (length name)) (drop_at two (name ++ behind) 2 two_len) ∙ take_at name behind (length name) refl;
      number_is = ap (λ (l : List ℕ). from_be_bytes w64 (take 8 l)) numbers ∙ ap (from_be_bytes w64) (take_at (u64_bytes n) rest 8 (u64_length n)) ∙ u64_back n n_fits;
      rest_is = ap (drop (10 + length name)) e ∙ drop_at (named_bytes kind name ++ u64_bytes n) rest (10 + length name) (named_number_length kind name n);
    }
