-- A purchase with a well-formed card that stays in the terminal is approved or declined (EMV 4.3 Book 4 section 6.3).
use Rattle.std.specs.Prelude.{◌≡◌, ℕ, List, Some}
use Rattle.card_files.specs.ImageRules.{IsImage}
use Rattle.card_files.specs.Views.{ImageData}
use Rattle.card_state.specs.Decisions.{Decided}
use Rattle.dialogue_laws.specs.Cards.{Now}
use Rattle.dialogue_laws.specs.UncutPurchase.{IsToldSo, IsDecided, IsLinked}
use Rattle.dialogue_laws.specs.WellFormed.{WellFormed}
use Rattle.emv_dict.specs.Settings.{IsSettings}
use Rattle.emv_dict.specs.declared.ending.Ending.{Ending}
use Rattle.issuer_host.specs.Account.{AccountData}
use Rattle.issuer_host.specs.History.{host_reply}
use Rattle.issuer_host.specs.declared.keys.HostKeys.{HostKeys}
use Rattle.kernel.specs.Dialogue.{dialogue}
use Rattle.kernel.specs.Reply.{Reply, Over}
use Rattle.terminal_state.specs.Terminal.{Outset}

-- whatever a terminal is told by a well-formed card that stays in it, and by a host or by none, where its dialogue is
-- over the purchase is approved or declined
abbrev pub PurchasesAreDecided : Type 0
PurchasesAreDecided =
    (image : ImageData) (outset : Outset) (found : List Decided) (now : Now) (replies : List Reply) (ending : Ending)
    → IsImage image → IsSettings outset.settings → WellFormed image outset found → IsToldSo image outset found now replies
    → (dialogue outset replies).deed ≡ Over ending → IsDecided ending

-- the host of a scenario leaves each transaction to the terminal
abbrev pub HostsAreLinked : Type 0
HostsAreLinked =
    (keys : HostKeys) (accounts : List AccountData) (messages : List (List ℕ)) (message : List ℕ)
    → IsLinked (Some (host_reply keys accounts messages message))
