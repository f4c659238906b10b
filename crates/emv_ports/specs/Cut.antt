-- When a plan cuts the power.
use Rattle.std.specs.Prelude.{ℕ, min, Bool, true, false, ◌&&◌, ◌==◌, nat_lt, nat_le, Option, Some, None, if◌then◌else◌}
use Rattle.emv_ports.specs.declared.tear.Cut.{Cut}
use Rattle.emv_ports.specs.declared.tear.Cut.TheVariants.{Spared, CutBefore, CutWithin}
use Rattle.emv_ports.specs.declared.tear.Tear.{Tear}
use Rattle.emv_ports.specs.declared.tear.TearAt.{TearAt}
use Rattle.emv_ports.specs.declared.tear.TearAt.TheVariants.{Before, Within, Release}

-- writes are counted from 1
abbrev pub is_place : TearAt → Bool
is_place (Before number) = nat_lt 0 number
is_place (Within number) = nat_lt 0 number
is_place Release = true

-- no plan, or one whose write is counted from 1
abbrev pub is_plan : Option Tear → Bool
is_plan None = true
is_plan (Some tear) = is_place tear.at

-- the number of a commit by which a plan names it, the first one since the pages were turned on being 1; numbers stop at 255
abbrev pub commit_of : ℕ → ℕ
commit_of made = min made 255

-- the plan names this commit
abbrev pub names_commit : Option Tear → ℕ → Bool
names_commit None commit = false
names_commit (Some tear) commit = tear.commit == commit

-- what the place of a tear makes of this write
abbrev pub cut_at : TearAt → ℕ → Cut
cut_at (Before planned) number = if planned == number then CutBefore else Spared
cut_at (Within planned) number = if planned == number then CutWithin else Spared
cut_at Release number = Spared

-- what the plan makes of this write of this commit
abbrev pub write_cut : Option Tear → ℕ → ℕ → Cut
write_cut None commit number = Spared
write_cut (Some tear) commit number = if tear.commit == commit then cut_at tear.at number else Spared

-- the place is one of the first writes
abbrev pub is_within_writes : TearAt → ℕ → Bool
is_within_writes (Before planned) writes = nat_le planned writes
is_within_writes (Within planned) writes = nat_le planned writes
is_within_writes Release writes = false

-- the plan cuts one of the first writes of this commit
abbrev pub cuts_among : Option Tear → ℕ → ℕ → Bool
cuts_among None commit writes = false
cuts_among (Some tear) commit writes = tear.commit == commit && is_within_writes tear.at writes

-- What the plan makes of a release behind these writes of this commit: a plan that names the commit and has cut
-- none of them cuts the release.
abbrev pub release_cut : Option Tear → ℕ → ℕ → Cut
release_cut None commit writes = Spared
release_cut (Some tear) commit writes =
    if tear.commit == commit then (if is_within_writes tear.at writes then Spared else CutBefore) else Spared
