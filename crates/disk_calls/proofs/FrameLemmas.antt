-- Which files stay, and what is then still known of them.
use Rattle.std.proofs.Common.{◌≡◌, ◌≢◌, inl, inr, ℕ, List, [], length, Some, None, refl, sym, ◌∙◌, ap, subst, arith}
use Rattle.std.proofs.lemmas.Bool.{cases_eq}
use Rattle.disk_calls.specs.declared.file_id.FileId.{FileId}
use Rattle.disk_calls.specs.Disk.{DiskState, Image, Looks, Elsewhere, LeftByCrash, Settled, bytes_of}
use Rattle.disk_calls.specs.Frames.{Besides, OtherStreams, FileStays, EachImage, AtMost, NoneLost, Gone, Holds}

pub looks_stay : (f : FileId) (a b : DiskState) → Looks a b → FileStays f a b
looks_stay f a b looks = record { seen = looks.seen f; images = looks.images f }

pub elsewhere_stay : (f id : FileId) (a b : DiskState) → f ≢ id → Elsewhere id a b → FileStays f a b
elsewhere_stay f id a b ne frame = record { seen = frame.seen f ne; images = frame.images f ne }

pub besides_stay : (f one two : FileId) (a b : DiskState) → f ≢ one → f ≢ two → Besides one two a b → FileStays f a b
besides_stay f one two a b not_one not_two frame = record { seen = frame.seen f not_one not_two; images = frame.images f not_one not_two }

pub streams_stay : (f : FileId) (stream : ℕ) (a b : DiskState) → f.stream ≢ stream → OtherStreams stream a b → FileStays f a b
streams_stay f stream a b ne frame = record { seen = frame.seen f ne; images = frame.images f ne }

pub crash_stay : (f : FileId) (stream : ℕ) (a b : DiskState) → f.stream ≢ stream → LeftByCrash stream a b → FileStays f a b
crash_stay f stream a b ne crash = let rest = crash.others f ne in record { seen = rest.0; images = rest.1 }

pub stay_then : (f : FileId) (a b c : DiskState) → FileStays f a b → FileStays f b c → FileStays f a c
stay_then f a b c first second = record { seen = second.seen ∙ first.seen; images = λ d left. first.images d (second.images d left) }

pub looks_then : (a b c : DiskState) → Looks a b → Looks b c → Looks a c
looks_then a b c first second = record { seen = λ f. second.seen f ∙ first.seen f; images = λ f d left. first.images f d (second.images f d left) }

pub one_of_two : (one two : FileId) (a b : DiskState) → Elsewhere one a b → Besides one two a b
one_of_two one two a b frame = record { seen = λ f not_one not_two. frame.seen f not_one; images = λ f not_one not_two. frame.images f not_one }

pub other_of_two : (one two : FileId) (a b : DiskState) → Elsewhere two a b → Besides one two a b
other_of_two one two a b frame = record { seen = λ f not_one not_two. frame.seen f not_two; images = λ f not_one not_two. frame.images f not_two }

pub besides_then : (one two : FileId) (a b c : DiskState) → Besides one two a b → Besides one two b c → Besides one two a c
besides_then one two a b c first second = record {
  seen = λ f not_one not_two. second.seen f not_one not_two ∙ first.seen f not_one not_two;
  images = λ f not_one not_two d left. first.images f not_one not_two d (second.images f not_one not_two d left);
}

other_stream : (f id : FileId) (stream : ℕ) → id.stream ≡ stream → f.stream ≢ stream → f ≢ id
other_stream f id stream is ne same = ne (ap (λ (x : FileId). x.stream) same ∙ is)

pub elsewhere_streams : (id : FileId) (a b : DiskState) → Elsewhere id a b → OtherStreams id.stream a b
elsewhere_streams id a b frame = record {
  seen = λ f ne. frame.seen f (other_stream f id id.stream refl ne);
  images = λ f ne. frame.images f (other_stream f id id.stream refl ne);
}

pub besides_streams : (one two : FileId) (stream : ℕ) (a b : DiskState) → one.stream ≡ stream → two.stream ≡ stream → Besides one two a b → OtherStreams stream a b
besides_streams one two stream a b is_one is_two frame = record {
  seen = λ f ne. frame.seen f (other_stream f one stream is_one ne) (other_stream f two stream is_two ne);
  images = λ f ne. frame.images f (other_stream f one stream is_one ne) (other_stream f two stream is_two ne);
}

pub streams_then : (stream : ℕ) (a b c : DiskState) → OtherStreams stream a b → OtherStreams stream b c → OtherStreams stream a c
streams_then stream a b c first second = record {
  seen = λ f ne. second.seen f ne ∙ first.seen f ne;
  images = λ f ne d left. first.images f ne d (second.images f ne d left);
}

pub each_image_stays : (id : FileId) (P : Image → Type 0) (a b : DiskState) → FileStays id a b → EachImage id P a → EachImage id P b
each_image_stays id P a b stays each c left = each c (stays.images c left)

pub settled_stays : (id : FileId) (bytes : List ℕ) (a b : DiskState) → FileStays id a b → Settled id bytes a → Settled id bytes b
settled_stays id bytes a b stays settled = record { seen = stays.seen ∙ settled.seen; only = λ c left. settled.only c (stays.images c left) }

pub holds_stays : (id : FileId) (bytes : List ℕ) (a b : DiskState) → FileStays id a b → Holds id bytes a → Holds id bytes b
holds_stays id bytes a b stays holds = record { seen = ap bytes_of stays.seen ∙ holds.seen; each = λ c left. holds.each c (stays.images c left) }

pub gone_stays : (id : FileId) (a b : DiskState) → FileStays id a b → Gone id a → Gone id b
gone_stays id a b stays gone = record { seen = stays.seen ∙ gone.seen; only = λ c left. gone.only c (stays.images c left) }

pub none_lost_stays : (id : FileId) (a b : DiskState) → FileStays id a b → NoneLost id a → NoneLost id b
none_lost_stays id a b stays kept missing c left = kept (sym stays.seen ∙ missing) c (stays.images c left)

-- what holds of each image before a crash holds of each after it, and of what a read then gives
pub each_image_outlasts : (id : FileId) (P : Image → Type 0) (stream : ℕ) (a b : DiskState) → LeftByCrash stream a b → EachImage id P a → EachImage id P b
each_image_outlasts id P stream a b crash each = elim (cases_eq id.stream stream) [
  | inl is ↦ λ c left. let own = crash.own id is in subst P (sym (own.1 c left)) (each (b.seen id) own.0)
  | inr ne ↦ each_image_stays id P a b (crash_stay id stream a b ne crash) each
]

read_outlasts : (id : FileId) (P : Image → Type 0) (stream : ℕ) (a b : DiskState) → LeftByCrash stream a b → EachImage id P a → P (a.seen id) → P (b.seen id)
read_outlasts id P stream a b crash each read = elim (cases_eq id.stream stream) [
  | inl is ↦ each (b.seen id) (crash.own id is).0
  | inr ne ↦ subst P (sym (crash.others id ne).0) read
]

pub settled_outlasts : (id : FileId) (bytes : List ℕ) (stream : ℕ) (a b : DiskState) → LeftByCrash stream a b → Settled id bytes a → Settled id bytes b
settled_outlasts id bytes stream a b crash settled = record {
  seen = read_outlasts id (λ c. c ≡ Some bytes) stream a b crash settled.only settled.seen;
  only = each_image_outlasts id (λ c. c ≡ Some bytes) stream a b crash settled.only;
}

pub holds_outlasts : (id : FileId) (bytes : List ℕ) (stream : ℕ) (a b : DiskState) → LeftByCrash stream a b → Holds id bytes a → Holds id bytes b
holds_outlasts id bytes stream a b crash holds = record {
  seen = read_outlasts id (λ c. bytes_of c ≡ bytes) stream a b crash holds.each holds.seen;
  each = each_image_outlasts id (λ c. bytes_of c ≡ bytes) stream a b crash holds.each;
}

pub gone_outlasts : (id : FileId) (stream : ℕ) (a b : DiskState) → LeftByCrash stream a b → Gone id a → Gone id b
gone_outlasts id stream a b crash gone = record {
  seen = read_outlasts id (λ c. c ≡ None) stream a b crash gone.only gone.seen;
  only = each_image_outlasts id (λ c. c ≡ None) stream a b crash gone.only;
}

short_if_missing : (c d : Image) → c ≡ d → d ≡ None → AtMost 8 c
short_if_missing c d is missing = let none : length (bytes_of c) ≡ 0 = ap (λ (x : Image). length (bytes_of x)) (is ∙ missing) in omega (arith, none)

pub none_lost_outlasts : (id : FileId) (stream : ℕ) (a b : DiskState) → LeftByCrash stream a b → NoneLost id a → NoneLost id b
none_lost_outlasts id stream a b crash kept = elim (cases_eq id.stream stream) [
  | inl is ↦ λ missing c left. short_if_missing c (b.seen id) ((crash.own id is).1 c left) missing
  | inr ne ↦ none_lost_stays id a b (crash_stay id stream a b ne crash) kept
]

pub settled_holds : (id : FileId) (bytes : List ℕ) (s : DiskState) → Settled id bytes s → Holds id bytes s
settled_holds id bytes s settled = record { seen = ap bytes_of settled.seen; each = λ c left. ap bytes_of (settled.only c left) }

pub gone_holds : (id : FileId) (s : DiskState) → Gone id s → Holds id [] s
gone_holds id s gone = record { seen = ap bytes_of gone.seen; each = λ c left. ap bytes_of (gone.only c left) }

pub settled_none_lost : (id : FileId) (bytes : List ℕ) (s : DiskState) → Settled id bytes s → NoneLost id s
settled_none_lost id bytes s settled missing = absurd (let no : Some bytes ≡ None = sym settled.seen ∙ missing in cc no)

pub gone_none_lost : (id : FileId) (s : DiskState) → Gone id s → NoneLost id s
gone_none_lost id s gone missing c left = short_if_missing c None (gone.only c left) refl

pub one_settled : (id : FileId) (bytes others : List ℕ) (s : DiskState) → Settled id bytes s → Settled id others s → bytes ≡ others
one_settled id bytes others s a b = cc (a.seen, b.seen)

pub one_held : (id : FileId) (bytes others : List ℕ) (s : DiskState) → Holds id bytes s → Holds id others s → bytes ≡ others
one_held id bytes others s a b = sym a.seen ∙ b.seen
