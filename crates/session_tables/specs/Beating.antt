-- Moments that never fall, and what is due at one.
use Rattle.std.specs.Prelude.{ℕ, ◌*◌, ◌-◌, ◌==◌, nat_lt, nat_le, if◌then◌else◌}
use Rattle.session_tables.specs.declared.moments.Moments.{Moments}
use Rattle.session_tables.specs.declared.moments.Pulse.{Pulse}
use Rattle.session_tables.specs.declared.moments.Pulse.TheVariants.{Still, Beat, Silent}

abbrev pub new_moments : ℕ → Moments
new_moments now = record { heartbeat = 0; latest = now; received = now; sent = now }

-- a moment below the greatest so far counts as that one
abbrev pub seen_at : ℕ → Moments → Moments
seen_at now m = if nat_lt m.latest now then record m { latest = now } else m

abbrev pub received_at : Moments → Moments
received_at m = record m { received = m.latest }

abbrev pub sent_at : Moments → Moments
sent_at m = record m { sent = m.latest }

-- No byte for two intervals is silence; else a heartbeat is due where nothing went for one. An interval of 0 has neither.
abbrev pub beats : Moments → Pulse
beats m =
    if m.heartbeat == 0 then Still else
    if nat_le (2 * (m.heartbeat * 1000)) (m.latest - m.received) then Silent else
    if nat_le (m.heartbeat * 1000) (m.latest - m.sent) then Beat else
    Still

abbrev pub after_pulse : Pulse → Moments → Moments
after_pulse Beat m = sent_at m
after_pulse Still m = m
after_pulse Silent m = m

abbrev pub ticked : ℕ → Moments → Moments
ticked now m = after_pulse (beats (seen_at now m)) (seen_at now m)
