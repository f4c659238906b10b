-- How far a card has come in its session.
use Rattle.std.specs.Prelude.{ℕ, Bool, true, false, Option, Some, None}
use Rattle.card_cryptogram.specs.declared.phase.Phase.{Phase}
use Rattle.card_cryptogram.specs.declared.phase.Phase.TheVariants.{Idle, Directory, Selected, Started, Online, Closed, Done}

-- the application that is selected
abbrev pub current : Phase → Option ℕ
current Idle = None
current Directory = None
current (Selected app) = Some app
current (Started app) = Some app
current (Online app first sent) = Some app
current (Closed app) = Some app
current (Done app first) = Some app

-- the payment system directory is selected
abbrev pub in_directory : Phase → Bool
in_directory Idle = false
in_directory Directory = true
in_directory (Selected app) = false
in_directory (Started app) = false
in_directory (Online app first sent) = false
in_directory (Closed app) = false
in_directory (Done app first) = false
