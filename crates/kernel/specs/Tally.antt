-- How many dialogues ended in which way (this project's own).
use Rattle.std.specs.Prelude.{ℕ, ◌+◌, ◌-◌, ◌^◌, min}
use Rattle.emv_dict.specs.declared.ending.Ending.{Ending}
use Rattle.emv_dict.specs.declared.ending.Ending.TheVariants.{Approved, Declined, Terminated, CutOff}

pub record Counts : Type 0 where
  pub approved : ℕ
  pub declined : ℕ
  pub other : ℕ
  pub replies : ℕ

-- a number that stops at the greatest one of 64 bits
abbrev pub capped_plus : ℕ → ℕ → ℕ
capped_plus a b = min (a + b) (2 ^ 64 - 1)

-- one dialogue more with this ending, which took so many replies
abbrev pub raised : Counts → Ending → ℕ → Counts
raised counts (Approved online) taken = record counts { approved = capped_plus counts.approved 1; replies = capped_plus counts.replies taken }
raised counts (Declined online) taken = record counts { declined = capped_plus counts.declined 1; replies = capped_plus counts.replies taken }
raised counts (Terminated step cause) taken = record counts { other = capped_plus counts.other 1; replies = capped_plus counts.replies taken }
raised counts (CutOff step) taken = record counts { other = capped_plus counts.other 1; replies = capped_plus counts.replies taken }
