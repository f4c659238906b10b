-- The runs of a scenario: the turns of its schedule, then rounds over its lanes until no purchase is left, then the
-- settlement and the audit (this project's own).
use Rattle.std.specs.Prelude.{◌≡◌, ℕ, ℤ, zero, suc, ◌+◌, ◌<◌, Bool, true, false, ◌&&◌, is_none, List, [], ◌∷◌, ◌++◌, length, flat_map, sum_by, slice_get, Option, Some, None}
use Rattle.issuer_host.specs.Account.{AccountData}
use Rattle.issuer_host.specs.History.{balance_after}
use Rattle.report_text.specs.declared.line.Line.{Line}
use Rattle.report_text.specs.declared.line.Line.TheVariants.{Balance, Done}
use Rattle.scenario_plan.specs.Plan.{ScenarioData}
use Rattle.txn_replay.specs.Payment.{next_of}
use Rattle.txn_replay.specs.Steps.{Settlement, Check, settlements, checks, Step}
use Rattle.txn_replay.specs.World.{World, first_world, lane_at}
use Rattle.txn_replay.specs.declared.event.Event.TheVariants.{Turn, Settle, Audit}

-- no purchase is running in a lane, and none is left
abbrev pub lane_over : ScenarioData → World → ℕ → Bool
lane_over s w l = is_none (lane_at w l).running && is_none (next_of s w l)

-- so in each of the first lanes
abbrev pub all_below : ScenarioData → World → ℕ → Bool
all_below s w zero = true
all_below s w (suc l) = lane_over s w l && all_below s w l

-- whether every purchase of every lane is over
abbrev pub all_over : ScenarioData → World → Bool
all_over s w = all_below s w (length s.lanes)

-- how far a run is
pub data RunPlace : Type 0 where
  Scheduled : ℕ → RunPlace
  Round : ℕ → RunPlace
  Settling : ℕ → RunPlace
  Auditing : ℕ → RunPlace
  Finished : RunPlace

-- a run has come to this place after so many events, with these truth values, these lines and this world
pub data Reached (s : ScenarioData) : RunPlace → ℕ → List Bool → List Line → World → Type 0 where
  start : Reached s (Scheduled 0) 0 [] [] (first_world s)
  scheduled : {k l n : ℕ} {cs c : List Bool} {ls new : List Line} {w w' : World} →
      Reached s (Scheduled k) n cs ls w → slice_get s.schedule k ≡ Some l → Step s w (Turn l) c new w' →
      Reached s (Scheduled (k + 1)) (n + 1) (cs ++ c) (ls ++ new) w'
  rounds : {n : ℕ} {cs : List Bool} {ls : List Line} {w : World} →
      Reached s (Scheduled (length s.schedule)) n cs ls w → Reached s (Round 0) n cs ls w
  round : {l n : ℕ} {cs c : List Bool} {ls new : List Line} {w w' : World} →
      Reached s (Round l) n cs ls w → l < length s.lanes → (l ≡ 0 → all_over s w ≡ false) → Step s w (Turn l) c new w' →
      Reached s (Round (l + 1)) (n + 1) (cs ++ c) (ls ++ new) w'
  again : {n : ℕ} {cs : List Bool} {ls : List Line} {w : World} →
      Reached s (Round (length s.lanes)) n cs ls w → Reached s (Round 0) n cs ls w
  settlement : {n : ℕ} {cs : List Bool} {ls : List Line} {w : World} →
      Reached s (Round 0) n cs ls w → all_over s w ≡ true → Reached s (Settling 0) n cs ls w
  settling : {k n : ℕ} {cs c : List Bool} {ls new : List Line} {w w' : World} {at : Settlement} →
      Reached s (Settling k) n cs ls w → slice_get (settlements s w) k ≡ Some at → Step s w (Settle k) c new w' →
      Reached s (Settling (k + 1)) (n + 1) (cs ++ c) (ls ++ new) w'
  audit : {k n : ℕ} {cs : List Bool} {ls : List Line} {w : World} →
      Reached s (Settling k) n cs ls w → slice_get (settlements s w) k ≡ None → Reached s (Auditing 0) n cs ls w
  auditing : {k n : ℕ} {cs c : List Bool} {ls new : List Line} {w w' : World} {check : Check} →
      Reached s (Auditing k) n cs ls w → slice_get (checks s) k ≡ Some check → Step s w (Audit k) c new w' →
      Reached s (Auditing (k + 1)) (n + 1) (cs ++ c) (ls ++ new) w'
  finished : {k n : ℕ} {cs : List Bool} {ls : List Line} {w : World} →
      Reached s (Auditing k) n cs ls w → slice_get (checks s) k ≡ None → Reached s Finished n cs ls w

-- the lines at the end: each account's balance, and how many purchases ended
abbrev pub balance_line : List ℕ → Option ℤ → List Line
balance_line pan None = []
balance_line pan (Some amount) = Balance pan amount ∷ []

abbrev pub account_lines : ScenarioData → World → AccountData → List Line
account_lines s w account = balance_line account.pan (balance_after s.issuer s.accounts w.messages account.pan)

-- how many purchases have ended
abbrev pub ended_count : World → ℕ
ended_count w = sum_by (λ lane. length lane.ended) w.lanes

abbrev pub closing : ScenarioData → World → List Line
closing s w = flat_map (account_lines s w) s.accounts ++ Done (ended_count w) ∷ []

-- a whole run: its lines, and the world that it leads to
pub record Run (s : ScenarioData) (lines : List Line) (w : World) : Type 0 where
  pub count : ℕ
  pub choices : List Bool
  pub reported : List Line
  pub reached : Reached s Finished count choices reported w
  pub whole : lines ≡ reported ++ closing s w
