-- Which of a card's decisions a planned tear cuts, and what is left of them.
use Rattle.emv_ports.specs.Cut.{commit_of}
use Rattle.std.specs.Prelude.{ℕ, ◌+◌, ◌==◌, if◌then◌else◌, List, [], ◌∷◌, ◌++◌, Option, Some, None, option_map}
use Rattle.card_state.specs.Decisions.{Decided}
use Rattle.emv_ports.specs.Cut.{names_commit}
use Rattle.emv_ports.specs.declared.tear.Tear.{Tear}
use Rattle.emv_ports.specs.declared.tear.TearAt.{TearAt}
use Rattle.emv_ports.specs.declared.tear.TearAt.TheVariants.{Before, Within, Release}

-- the decisions before the cut one, and the cut one
pub record Cut : Type 0 where
  pub before : List Decided
  pub cut : Decided

abbrev pub behind_one : Decided → Cut → Cut
behind_one d at = record { before = d ∷ at.before; cut = at.cut }

-- the first of these decisions whose commit the plan names, where so many were made since power-up before them
unfoldable pub cut_of : Option Tear → ℕ → List Decided → Option Cut
cut_of plan made [] = None
cut_of plan made (d ∷ ds) =
    if names_commit plan (commit_of (made + 1)) then Some (record { before = []; cut = d }) else option_map (behind_one d) (cut_of plan (made + 1) ds)

-- what becomes of a cut decision: dropped where the first write was cut before it began, kept where the release
-- was cut, and pending at every other place
pub data Fate : Type 0 where
  Dropped : Fate
  Joined : Fate
  Pending : Fate

abbrev pub fate_at : TearAt → Fate
fate_at (Before number) = if number == 1 then Dropped else Pending
fate_at (Within number) = Pending
fate_at Release = Joined

abbrev pub fate_by : Option Tear → Fate
fate_by None = Pending
fate_by (Some tear) = fate_at tear.at

-- the decisions that are kept, and the pending one
abbrev pub kept_by : Fate → List Decided → Cut → List Decided
kept_by Dropped ds at = ds ++ at.before
kept_by Joined ds at = (ds ++ at.before) ++ at.cut ∷ []
kept_by Pending ds at = ds ++ at.before

abbrev pub pending_by : Fate → Cut → Option Decided
pending_by Dropped at = None
pending_by Joined at = None
pending_by Pending at = Some at.cut
