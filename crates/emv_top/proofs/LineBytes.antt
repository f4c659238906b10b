-- Lines whose bytes are bytes, and whose names have no blank, are told by their texts; so are the lines behind all events.
use Rattle.std.proofs.Common.{ℕ, List, [], ◌∷◌, ◌++◌, Option, Some, None}
use Rattle.std.specs.Prelude.{ℤ}
use Rattle.std.specs.List.{All, flat_map}
use Rattle.std.proofs.lemmas.List.Elements.{All-append, All-cons, All-nil}
use Rattle.issuer_host.specs.Account.{AccountData}
use Rattle.issuer_host.specs.History.{balance_after}
use Rattle.report_text.specs.Told.{HasLineBytes, IsTold}
use Rattle.report_text.specs.declared.line.Line.{Line}
use Rattle.report_text.specs.declared.line.Line.TheVariants.{Done}
use Rattle.scenario_plan.specs.Plan.{ScenarioData}
use Rattle.txn_replay.specs.Named.{AreNamed}
use Rattle.txn_replay.specs.Run.{balance_line, account_lines, ended_count, closing}
use Rattle.txn_replay.specs.World.{World}

pub told_lines : (lines : List Line) → All HasLineBytes lines → AreNamed lines → All IsTold lines
told_lines lines bytes names = λ k d within. record { bytes = bytes k d within; name = names k d within }

balance_bytes : (pan : List ℕ) (o : Option ℤ) → All HasLineBytes (balance_line pan o)
balance_bytes pan None = All-nil HasLineBytes
balance_bytes pan (Some amount) = All-cons HasLineBytes _ [] tt (All-nil HasLineBytes)

accounts_bytes : (s : ScenarioData) (w : World) (accounts : List AccountData) → All HasLineBytes (flat_map (account_lines s w) accounts)
accounts_bytes s w [] = All-nil HasLineBytes
accounts_bytes s w (account ∷ accounts) =
    All-append HasLineBytes (account_lines s w account) (flat_map (account_lines s w) accounts)
    (balance_bytes account.pan (balance_after s.issuer s.accounts w.messages account.pan)) (accounts_bytes s w accounts)

pub closing_bytes : (s : ScenarioData) (lines : List Line) (w : World) → All HasLineBytes lines → All HasLineBytes (lines ++ closing s w)
closing_bytes s lines w bytes =
    All-append HasLineBytes lines (closing s w) bytes
    (All-append HasLineBytes (flat_map (account_lines s w) s.accounts) (Done (ended_count w) ∷ []) (accounts_bytes s w s.accounts)
    (All-cons HasLineBytes (Done (ended_count w)) [] tt (All-nil HasLineBytes)))
