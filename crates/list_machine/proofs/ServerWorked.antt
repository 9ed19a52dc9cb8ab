-- A server at work, step by step.
use Rattle.std.proofs.Common.{[], ◌∷◌, refl, inl, inr, arith}
use Rattle.frame_wire.specs.Fields.{u8_bytes, u64_bytes}
use Rattle.list_machine.specs.Leaders.{new_server, elected, ServerRun, CommitsNext}
use Rattle.list_machine.specs.Examples.{p_name, item, chunk_of}
use Rattle.list_machine.specs.ServerExample.{publisher_p, frame_p, first_row, second_row, two_offers, after_offers, after_election, after_stop, third_offer, after_third, with_first}
use Rattle.list_machine.proofs.Worked.{chunk_is}

pub offers_run : ServerRun new_server two_offers after_offers
offers_run = (
  _,
  (refl, refl),
  (
    _,
    record {
      before = [];
      one = publisher_p 1 [];
      after = [];
      declared = refl;
      stands = refl;
      appends = inl (p_name, refl, inr (tt, 0, [], refl, refl));
      is = refl;
    },
    (
      _,
      (refl, refl),
      (
        _,
        record {
          before = publisher_p 1 (frame_p (item 1 97 ∷ [])) ∷ [];
          one = publisher_p 2 [];
          after = [];
          declared = refl;
          stands = refl;
          appends = inl (p_name, refl, inl (inl (omega arith), inr ((omega arith, tt), 1, [], refl, refl)));
          is = refl;
        },
        refl,
      ),
    ),
  ),
)

pub election_run : ServerRun after_offers (elected ∷ []) after_election
election_run = (after_election, record { log = first_row ∷ []; rest = second_row ∷ []; was = inl refl; is = refl }, refl)

pub stop_run : ServerRun after_election (elected ∷ []) after_stop
stop_run = (after_stop, record { log = first_row ∷ []; rest = []; was = inr (inl refl); is = refl }, refl)

pub third_run : ServerRun after_stop third_offer after_third
third_run = (
  _,
  (refl, refl),
  (
    _,
    record {
      before = after_stop.declarations;
      one = publisher_p 3 [];
      after = [];
      declared = refl;
      stands = refl;
      appends = inl (p_name, refl, inr ((omega arith, tt), 1, [], refl, refl));
      is = refl;
    },
    refl,
  ),
)

pub commits_next : CommitsNext after_third with_first (chunk_of 2 1 (item 2 98))
unfolding u8_bytes u64_bytes
commits_next = record {
  same = (refl, refl, (refl, refl, (refl, refl, tt)));
  rest = [];
  was = inl refl;
  is_live = refl;
  is_chunk = chunk_is 2 1 2 98 (omega arith) (omega arith) (omega arith);
  at_end = refl;
  epoch = omega arith;
  stored = tt;
}
