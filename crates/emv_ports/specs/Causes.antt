-- When a fault of the outside may be answered: only where the count of faults of that port rose.
use Rattle.std.specs.Prelude.{◌≡◌, ℕ, ◌+◌, ◌-◌, ◌^◌, ◌≤◌, min, OnOk, OnErr, Result}

-- one more, and no more than the greatest `u64`
abbrev pub one_more : ℕ → ℕ
one_more n = min (n + 1) (2 ^ 64 - 1)

-- the count rose, or stands at the greatest `u64`
abbrev pub Rose : ℕ → ℕ → Type 0
Rose before now = one_more before ≤ now

-- a count of faults over one call: it never falls, an `Ok` keeps it, and an `Err` has raised it
pub record HasCause {T E : Type 0} (before now : ℕ) (result : Result T E) : Type 0 where
  pub later : before ≤ now
  pub stays : OnOk result (now ≡ before)
  pub failed : OnErr result (Rose before now)
