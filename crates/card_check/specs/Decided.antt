-- What is said of a purchase with a card that passes (EMV 4.3 Book 4 section 6.3).
use Rattle.std.specs.Prelude.{◌≡◌, List}
use Rattle.card_files.specs.Views.{ImageData}
use Rattle.card_state.specs.Decisions.{Decided}
use Rattle.dialogue_laws.specs.Cards.{Now}
use Rattle.dialogue_laws.specs.UncutPurchase.{IsToldSo, IsDecided}
use Rattle.emv_dict.specs.declared.ending.Ending.{Ending}
use Rattle.kernel.specs.Dialogue.{dialogue}
use Rattle.kernel.specs.Reply.{Reply, Over}
use Rattle.terminal_state.specs.Terminal.{Outset}

-- whatever the terminal is told by this card, which stays in it, and by a host or by none: where the dialogue is over, the
-- purchase is approved or declined
abbrev pub EndsAreDecided : ImageData → Outset → List Decided → Type 0
EndsAreDecided image outset found =
    (now : Now) (replies : List Reply) (ending : Ending) → IsToldSo image outset found now replies → (dialogue outset replies).deed ≡ Over ending
    → IsDecided ending
