-- The session of a card is what its lane's lines tell since its power line: each command with the answer behind it (this
-- project's own).
use Rattle.std.specs.Prelude.{◌≡◌, ℕ, ◌==◌, Bool, if◌then◌else◌, List, [], ◌∷◌, ◌++◌, length, fold, Option, Some, None}
use Rattle.card_app.specs.Session.{Exchange}
use Rattle.kernel.specs.Reply.{Reply}
use Rattle.report_text.specs.declared.line.Line.{Line}
use Rattle.report_text.specs.declared.line.Line.TheVariants.{Power, PowerCanned, PowerTorn, ToCard, FromCard}
use Rattle.scenario_plan.specs.Plan.{ScenarioData}
use Rattle.txn_replay.specs.Payment.{Payment, next_of}
use Rattle.txn_replay.specs.Run.{RunPlace, Reached}
use Rattle.txn_replay.specs.World.{CardRow, World, card_at, lane_at}

-- what lines tell of a card since its power line: the last command, and the commands that were answered, with their answers
pub record SessionTold : Type 0 where
  pub command : List ℕ
  pub exchanges : List Exchange

abbrev pub untold_session : SessionTold
untold_session = record { command = []; exchanges = [] }

abbrev pub session_answered : SessionTold → List ℕ → SessionTold
session_answered t answer = record { command = t.command; exchanges = t.exchanges ++ record { command = t.command; answer = answer } ∷ [] }

abbrev pub session_by_line : ℕ → SessionTold → Line → SessionTold
session_by_line l t (Power lane card apps) = if lane == l then untold_session else t
session_by_line l t (PowerCanned lane card) = if lane == l then untold_session else t
session_by_line l t (PowerTorn lane card) = if lane == l then untold_session else t
session_by_line l t (ToCard lane bytes) = if lane == l then record { command = bytes.items; exchanges = t.exchanges } else t
session_by_line l t (FromCard lane bytes) = if lane == l then session_answered t bytes.items else t
session_by_line l t other = t

unfoldable pub session_told : ℕ → List Line → List Exchange
session_told l lines = (fold (session_by_line l) untold_session lines).exchanges

-- the session of a card with applications is these exchanges; one of canned answers has given so many of them
abbrev pub IsSessionOf : Option (List (List ℕ)) → CardRow → List Exchange → Type 0
IsSessionOf None card exchanges = card.session ≡ exchanges
IsSessionOf (Some answers) card exchanges = card.told ≡ length exchanges

-- in every run the session of the card of a running purchase is what its lane's lines tell since the last power line
abbrev pub RunsTellSessions : Type 0
RunsTellSessions =
    (s : ScenarioData) (place : RunPlace) (n : ℕ) (choices : List Bool) (lines : List Line) (w : World) (l : ℕ) (replies : List Reply) (p : Payment)
    → Reached s place n choices lines w → (lane_at w l).running ≡ Some replies → next_of s w l ≡ Some p
    → IsSessionOf p.card.canned (card_at w p.planned.card) (session_told l lines)
