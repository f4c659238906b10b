-- Decisions whose numbers fit the fields of the state that they set.
use Rattle.std.specs.Prelude.{◌^◌, ◌<◌, List, ⊤, Option, Some, None}
use Rattle.std.specs.List.{All}
use Rattle.card_state.specs.declared.decision.Sale.{Sale}
use Rattle.card_state.specs.declared.decision.Steered.{Steered}
use Rattle.card_state.specs.declared.decision.Scripted.{Scripted}
use Rattle.card_state.specs.declared.decision.Scripted.TheVariants.{Block, Unblock, CardBlock, PinUnblock, PinChange, Count, Sum}
use Rattle.card_state.specs.declared.decision.Decision.{Decision}
use Rattle.card_state.specs.declared.decision.Decision.TheVariants.{Started, PinTry, PinRight, First, Authenticated, Script, Second}
use Rattle.card_state.specs.Decisions.{Decided}
use Rattle.card_state.specs.Encoding.{AreBytesOf}

abbrev pub FitsScripted : Scripted → Type 0
FitsScripted Block = ⊤
FitsScripted Unblock = ⊤
FitsScripted CardBlock = ⊤
FitsScripted (PinUnblock limit) = limit < 2 ^ 8
FitsScripted (PinChange pin limit) = (limit < 2 ^ 8) × AreBytesOf 8 pin
FitsScripted (Count limit) = limit < 2 ^ 8
FitsScripted (Sum limit) = limit < 2 ^ 64

-- what a row of the log takes of a sale
pub record FitsSale (sale : Sale) : Type 0 where
  pub raw : AreBytesOf 6 sale.raw
  pub currency : AreBytesOf 2 sale.currency
  pub date : AreBytesOf 3 sale.date

-- the tries that a steering restores
abbrev pub FitsSteered : Option Steered → Type 0
FitsSteered None = ⊤
FitsSteered (Some s) = s.limit < 2 ^ 8

-- what a decision gives fits the fields of the state that it sets
abbrev pub FitsFields : Decision → Type 0
FitsFields Started = ⊤
FitsFields PinTry = ⊤
FitsFields (PinRight limit) = limit < 2 ^ 8
FitsFields (First kind sale) = FitsSale sale
FitsFields (Authenticated right steered) = FitsSteered steered
FitsFields (Script command) = FitsScripted command
FitsFields (Second kind how sale) = FitsSale sale

-- so each of a list
abbrev pub AllFit : List Decided → Type 0
AllFit ds = All (λ d. FitsFields d.decision) ds
