-- What stands of a card, and of one of its applications, while it answers a command.
use Rattle.std.specs.Prelude.{◌≡◌, ℕ, ◌<◌, ◌≤◌, length, IfSome}
use Rattle.card_cryptogram.specs.Phases.{current}
use Rattle.card_cryptogram.specs.declared.phase.Phase.{Phase}
use Rattle.card_files.specs.ImageRules.{KeepsRules}
use Rattle.card_files.specs.Views.{AppData, ImageData}
use Rattle.card_state.specs.Encoding.{HasShortLogs}
use Rattle.card_state.specs.declared.state.AppState.{AppState}
use Rattle.card_state.specs.declared.state.CardState.{CardState}

-- the phase names an application that is there
abbrev pub IsAppThere : Phase → ℕ → Type 0
IsAppThere phase count = IfSome (current phase) (λ app. app < count)

-- a state for each application, each with a short log, and a phase that names an application that is there
pub record IsAtWork (image : ImageData) (state : CardState) (phase : Phase) : Type 0 where
  pub apps : length state.apps.items ≡ length image.apps
  pub at : IsAppThere phase (length image.apps)
  pub short : HasShortLogs state

-- an application in its rules, and a state with a short log
pub record IsAppAtWork (app : AppData) (state : AppState) : Type 0 where
  pub rules : KeepsRules app
  pub short : state.log_max ≤ 10
