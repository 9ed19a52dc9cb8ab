-- Messages stay in the order of their numbers.
use Rattle.std.proofs.Common.{◌≡◌, ℕ, ◌+◌, ◌≤◌, List, [], ◌∷◌, ◌++◌, length, refl, sym, subst, arith, Option, Some, None, Bool, true, false, cond, zero, suc}
use Rattle.std.specs.Prelude.{◌==◌, nat_lt}
use Rattle.epoch_coordinator.specs.declared.message.Message.{Message}
use Rattle.epoch_coordinator.specs.declared.message.Message.TheVariants as messages
use Rattle.epoch_coordinator.specs.declared.message.Sent.{Sent}
use Rattle.replication_laws.specs.Cluster.{Letter, ClusterState, last_number, numbered, send, marked, without}
use Rattle.replication_laws.specs.Events.{comes, to_coordinator, performed, begins, goes_down, ClusterStep, Elect, Deliver, Lose, Forget, Nudge, Done, Stop, Restart, Reopen, OfferStep, Offer, StoreOffset, AnyStep, Happens, Takes}
use Rattle.settling_laws.specs.Measures.{Rising, IsInOrder}

pub rising_numbered : (low : ℕ) (sent : List Sent) → Rising low (numbered low sent) (low + length (numbered low sent))
rising_numbered low [] = omega arith
rising_numbered low (s ∷ more) = go (nat_lt low last_number) (rising_numbered (low + 1) more)
  where
    letters : List Letter
    letters = numbered (low + 1) more

    go : (b : Bool) → Rising (low + 1) letters (low + 1 + length letters) → Rising low (cond b (record { number = low + 1; delivered = false; sent = s } ∷ letters) []) (low + length (cond b (record { number = low + 1; delivered = false; sent = s } ∷ letters) []))
    go true on = (omega arith, subst (Rising (low + 1) letters) (omega arith) on)
    go false on = omega arith

pub numbered_fits : (low : ℕ) (sent : List Sent) → low ≤ last_number → low + length (numbered low sent) ≤ last_number
numbered_fits low [] h = omega (arith, h)
numbered_fits low (s ∷ more) h = go (nat_lt low last_number) refl (numbered_fits (low + 1) more)
  where
    letters : List Letter
    letters = numbered (low + 1) more

    below : (a b : ℕ) → nat_lt a b ≡ true → a + 1 ≤ b
    below a b e = grind arith

    go : (b : Bool) → nat_lt low last_number ≡ b → (low + 1 ≤ last_number → low + 1 + length letters ≤ last_number) → low + length (cond b (record { number = low + 1; delivered = false; sent = s } ∷ letters) []) ≤ last_number
    go true e on = (let x = on (below low last_number e) in omega (arith, x))
    go false e on = omega (arith, h)

rising_from : (low lower : ℕ) (mail : List Letter) (last : ℕ) → lower ≤ low → Rising low mail last → Rising lower mail last
rising_from low lower [] last le r = omega (arith, le, r)
rising_from low lower (l ∷ mail) last le r = ((let x = r.0 in omega (arith, le, x)), r.1)

pub rising_join : (low : ℕ) (mail : List Letter) (last : ℕ) (more : List Letter) (end : ℕ) → Rising low mail last → Rising last more end → Rising low (mail ++ more) end
rising_join low [] last more end r s = rising_from last low more end r s
rising_join low (l ∷ mail) last more end r s = (r.0, rising_join l.number mail last more end r.1 s)

pub sent_in_order : (w : ClusterState) (sent : List Sent) → IsInOrder w → IsInOrder (send w sent)
sent_in_order w sent h = record {
  rising = rising_join 0 w.mail w.last (numbered w.last sent) (w.last + length (numbered w.last sent)) h.rising (rising_numbered w.last sent);
  fits = numbered_fits w.last sent h.fits;
}

rising_marked : (low n : ℕ) (mail : List Letter) (last : ℕ) → Rising low mail last → Rising low (marked n mail) last
rising_marked low n [] last r = r
rising_marked low n (l ∷ mail) last r = go (l.number == n) (rising_marked l.number n mail last r.1)
  where
    go : (b : Bool) → Rising l.number (marked n mail) last → Rising low (cond b (record l { delivered = true } ∷ mail) (l ∷ marked n mail)) last
    go true on = (r.0, r.1)
    go false on = (r.0, on)

rising_without : (low n : ℕ) (mail : List Letter) (last : ℕ) → Rising low mail last → Rising low (without n mail) last
rising_without low n [] last r = r
rising_without low n (l ∷ mail) last r = go (l.number == n) (rising_without l.number n mail last r.1)
  where
    go : (b : Bool) → Rising l.number (without n mail) last → Rising low (cond b mail (l ∷ without n mail)) last
    go true on = rising_from l.number low mail last (let x = r.0 in omega (arith, x)) r.1
    go false on = (r.0, on)

pub marked_in_order : (w : ClusterState) (n : ℕ) → IsInOrder w → IsInOrder (record w { mail = marked n w.mail })
marked_in_order w n h = record { rising = rising_marked 0 n w.mail w.last h.rising; fits = h.fits }

to_in_order : (message : Message) (w : ClusterState) → IsInOrder w → IsInOrder (to_coordinator message w)
to_in_order (messages.Stopped e from t) w h = (let x = sent_in_order w _ h in record { rising = x.rising; fits = x.fits })
to_in_order (messages.Stop e) w h = h
to_in_order (messages.Open e) w h = h
to_in_order (messages.Follow e l) w h = h
to_in_order (messages.Shape e runs) w h = h
to_in_order (messages.Ask e from t) w h = h
to_in_order (messages.Append e t c) w h = h

pub comes_in_order : (now k : ℕ) (message : Message) (w : ClusterState) → IsInOrder w → IsInOrder (comes now k message w)
comes_in_order now zero message w h = to_in_order message w h
comes_in_order now (suc i) message w h = (let x = sent_in_order w _ h in record { rising = x.rising; fits = x.fits })

begins_in_order : (j : Option ℕ) (w : ClusterState) → IsInOrder w → IsInOrder (begins j w)
begins_in_order None w h = h
begins_in_order (Some e) w h = (let x = sent_in_order w _ h in record { rising = x.rising; fits = x.fits })

pub performed_in_order : (k : ℕ) (w : ClusterState) → IsInOrder w → IsInOrder (performed k w)
performed_in_order zero w h = begins_in_order w.coordinator.job w h
performed_in_order (suc i) w h = (let x = sent_in_order w _ h in record { rising = x.rising; fits = x.fits })

pub down_in_order : (k : ℕ) (w : ClusterState) → IsInOrder w → IsInOrder (goes_down k w)
down_in_order zero w h = record { rising = h.rising; fits = h.fits }
down_in_order (suc i) w h = record { rising = h.rising; fits = h.fits }

as_ordered : (w w' : ClusterState) → w' ≡ w → IsInOrder w → IsInOrder w'
as_ordered w w' e h = subst IsInOrder (sym e) h

pub event_in_order : (now : ℕ) (w w' : ClusterState) → IsInOrder w → ClusterStep now w w' → IsInOrder w'
event_in_order now w w' h (Elect free lt eq) = as_ordered _ w' eq (record { rising = h.rising; fits = h.fits })
event_in_order now w w' h (Deliver n s is free eq) = as_ordered _ w' eq (comes_in_order now s.to s.message (record w { mail = marked n w.mail }) (marked_in_order w n h))
event_in_order now w w' h (Lose n s is eq) = as_ordered _ w' eq (record { rising = rising_without 0 n w.mail w.last h.rising; fits = h.fits })
event_in_order now w w' h (Forget eq) = as_ordered _ w' eq (record { rising = omega arith; fits = omega arith })
event_in_order now w w' h (Nudge eq) = as_ordered _ w' eq (sent_in_order w _ h)
event_in_order now w w' h (Done k up eq) = as_ordered _ w' eq (performed_in_order k w h)
event_in_order now w w' h (Stop k up eq) = as_ordered _ w' eq (down_in_order k w h)
event_in_order now w w' h (Restart k p log lt down held pe eq) = as_ordered _ w' eq (record { rising = h.rising; fits = h.fits })
event_in_order now w w' h (Reopen epoch down may eq) = as_ordered _ w' eq (record { rising = h.rising; fits = h.fits })

offer_in_order : (now : ℕ) (w w' : ClusterState) → IsInOrder w → OfferStep now w w' → IsInOrder w'
offer_in_order now w w' h (Offer epoch k name items runs is all eq) = as_ordered _ w' eq (record { rising = h.rising; fits = h.fits })
offer_in_order now w w' h (StoreOffset epoch k name offset runs all eq) = as_ordered _ w' eq (record { rising = h.rising; fits = h.fits })

pub step_in_order : (w w' : ClusterState) → IsInOrder w → AnyStep w w' → IsInOrder w'
step_in_order w w' h (Happens now step) = event_in_order now w w' h step
step_in_order w w' h (Takes now step) = offer_in_order now w w' h step
