-- What a server keeps at most.
use Rattle.std.specs.Prelude.{◌≡◌, ◌≤◌, ◌⊎◌, ℕ, ◌*◌, ◌==◌, nat_lt, if◌then◌else◌}
use Rattle.frame_wire.specs.declared.limits.Limits.{Limits}

-- the numbers of members that a stream may have
abbrev pub IsMembers : ℕ → Type 0
IsMembers n = (n ≡ 1) ⊎ (n ≡ 3) ⊎ (n ≡ 5) ⊎ (n ≡ 7)

-- at least 1 and at most the greatest
abbrev pub IsUpTo : ℕ → ℕ → Type 0
IsUpTo greatest n = (1 ≤ n) × (n ≤ greatest)

-- each limit but the members within its own bounds
abbrev pub EachIsUpTo : Limits → Type 0
EachIsUpTo limits = IsUpTo 16 limits.streams × IsUpTo 134217728 limits.log_bytes × IsUpTo 4096 limits.queue × IsUpTo 1024 limits.references × IsUpTo 1024 limits.consumers

-- The condition of every call that takes limits. The logs of all members of all streams are within 3 GiB.
abbrev pub IsLimits : Limits → Type 0
IsLimits limits = IsMembers limits.members × EachIsUpTo limits × (limits.members * limits.streams * limits.log_bytes ≤ 3221225472)

-- what a server of so many members keeps
abbrev pub limits_for : ℕ → Limits
limits_for members = record {
  members = members;
  streams = if members == 7 then 6 else 8;
  log_bytes = if nat_lt members 5 then 134217728 else 67108864;
  queue = 4096;
  references = 1024;
  consumers = 1024;
}
