-- What a crash leaves of a call at the end of a file, and of a cut.
use Rattle.std.proofs.Common.{◌≡◌, ℕ, ◌+◌, ◌≤◌, min, List, [], ◌++◌, length, take, drop, Some, None, sym, ◌∙◌, ap, subst, arith, length-drop, take-append-drop}
use Rattle.std.proofs.lemmas.List.{take_all, drop_all, append-nil}
use Rattle.disk_calls.specs.declared.file_id.FileId.{FileId}
use Rattle.disk_calls.specs.Frames.{EachImage, Holds, LongerBytes}
use Rattle.disk_calls.proofs.FrameLemmas.{one_held}
use Rattle.disk_calls.specs.Disk.{DiskState, Image, Looks, Elsewhere, Changes, Only, Torn, TornFile, CutShort, CutFile, over, Settled, Longer, Shorter, bytes_of}

pub looks_elsewhere : (id : FileId) (s t : DiskState) → Looks s t → Elsewhere id s t
looks_elsewhere id s t l = record { seen = λ f ne. l.seen f; images = λ f ne c i. l.images f c i }

pub elsewhere_then : (id : FileId) (s t u : DiskState) → Elsewhere id s t → Elsewhere id t u → Elsewhere id s u
elsewhere_then id s t u a b = record { seen = λ f ne. b.seen f ne ∙ a.seen f ne; images = λ f ne c i. a.images f ne c (b.images f ne c i) }

torn_longer : (old new : List ℕ) (at n : ℕ) → at ≡ length old → Torn at n old new → (e : List ℕ) × (new ≡ old ++ e) × (length e ≤ n)
torn_longer old new at n is torn =
    let same : min at (length old) ≡ at = omega arith in
    let front : take at new ≡ old = ap (λ (k : ℕ). take k new) (sym same) ∙ torn.before ∙ take_all at old (omega arith) in
    let whole : new ≡ old ++ drop at new = sym (take-append-drop at new) ∙ ap (λ (l : List ℕ). l ++ drop at new) front in
    (drop at new, whole, omega (arith, length-drop at new, torn.no_longer))

longer_file : (old : List ℕ) (d c : Image) (at n : ℕ) → d ≡ Some old → at ≡ length old → TornFile at n d c → Longer old n c
longer_file old None c at n is end torn = absurd (cc is)
longer_file old (Some d) None at n is end torn = absurd torn
longer_file old (Some d) (Some new) at n is end torn =
    let same : d ≡ old = cc is in
    let found = torn_longer old new at n end (subst (λ (l : List ℕ). Torn at n l new) same torn) in
    (found.0, ap Some found.1, found.2)

pub written_longer : (id : FileId) (s t : DiskState) (old : List ℕ) (at n : ℕ) → Settled id old s → at ≡ length old → Changes id (TornFile at n) s t → (c : Image) → t.images id c → Longer old n c
written_longer id s t old at n settled end changes c left =
    let from = changes.own c left in
    longer_file old from.0 c at n (settled.only from.0 from.1) end from.2

shorter_file : (old : List ℕ) (d c : Image) (n : ℕ) → d ≡ Some old → n ≤ length old → CutFile n d c → Shorter old n c
shorter_file old None c n is le cut = absurd (cc is)
shorter_file old (Some d) None n is le cut = absurd cut
shorter_file old (Some d) (Some new) n is le cut =
    let same : d ≡ old = cc is in
    let short : CutShort n old new = subst (λ (l : List ℕ). CutShort n l new) same cut in
    (length new, ap Some short.front, omega (arith, short.no_shorter))

pub cut_shorter : (id : FileId) (s t : DiskState) (old : List ℕ) (n : ℕ) → Settled id old s → n ≤ length old → Changes id (CutFile n) s t → (c : Image) → t.images id c → Shorter old n c
cut_shorter id s t old n settled le changes c left =
    let from = changes.own c left in
    shorter_file old from.0 c n (settled.only from.0 from.1) le from.2

pub over_end : (old bytes : List ℕ) (at : ℕ) → at ≡ length old → over old at bytes ≡ old ++ bytes
over_end old bytes at is =
    ap (λ (l : List ℕ). l ++ bytes ++ drop (at + length bytes) old) (take_all at old (omega arith))
    ∙ ap (λ (l : List ℕ). old ++ bytes ++ l) (drop_all (at + length bytes) old (omega arith))
    ∙ append-nil (old ++ bytes)

-- what a sync that is done makes of a file
pub synced : (id : FileId) (s t u : DiskState) (bytes : List ℕ) → t.seen id ≡ Some bytes → Looks t u → Only (u.seen id) (u.images id) → Settled id bytes u
synced id s t u bytes is looks only =
    let now : u.seen id ≡ Some bytes = looks.seen id ∙ is in
    record { seen = now; only = λ c left. only c left ∙ now }

longer_bytes : (old : List ℕ) (d c : Image) (at n : ℕ) → bytes_of d ≡ old → at ≡ length old → TornFile at n d c → LongerBytes old n c
longer_bytes old None None at n is end torn = ([], is ∙ sym (append-nil old), omega arith)
longer_bytes old None (Some new) at n is end torn = torn_longer old new at n end (subst (λ (l : List ℕ). Torn at n l new) is torn)
longer_bytes old (Some d) None at n is end torn = absurd torn
longer_bytes old (Some d) (Some new) at n is end torn = torn_longer old new at n end (subst (λ (l : List ℕ). Torn at n l new) is torn)

pub written_bytes : (id : FileId) (s t : DiskState) (old : List ℕ) (at n : ℕ) → Holds id old s → at ≡ length old → Changes id (TornFile at n) s t → EachImage id (LongerBytes old n) t
written_bytes id s t old at n holds end changes c left =
    let from = changes.own c left in
    longer_bytes old from.0 c at n (holds.each from.0 from.1) end from.2

pub place_held : (id : FileId) (s : DiskState) (place : ℕ) (base : List ℕ) → ((b : List ℕ) × Holds id b s × (place ≡ length b)) → Holds id base s → place ≡ length base
place_held id s place base (b, held, is) holds = is ∙ ap length (one_held id b base s held holds)

pub written_held : (id : FileId) (s t u : DiskState) (base bytes : List ℕ) (place : ℕ) → Holds id base s → place ≡ length base → t.seen id ≡ Some (over (bytes_of (s.seen id)) place bytes) → Looks t u → Only (u.seen id) (u.images id) → Settled id (base ++ bytes) u
written_held id s t u base bytes place holds end written looks only =
    synced id s t u (base ++ bytes) (written ∙ ap (λ (l : List ℕ). Some (over l place bytes)) holds.seen ∙ ap (λ (l : List ℕ). Some l) (over_end base bytes place end)) looks only

pub settled_length : (id : FileId) (s : DiskState) (a b : List ℕ) → Settled id a s → Settled id b s → length a ≡ length b
settled_length id s a b sa sb = let same : a ≡ b = cc (sa.seen, sb.seen) in ap length same
