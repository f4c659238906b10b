-- The whole dialogue of a terminal (EMV 4.3 Book 3 section 8 and Book 4 section 6), a file for each step. They are passed
-- on here in the order of a transaction:
--
--   Section of Book 3      Step                                           File
--   Book 1 section 12      application selection                          ApplicationSelection, and below
--   10.1                   GET PROCESSING OPTIONS                         InitiateProcessing
--   10.2                   READ RECORD                                    ReadApplicationData
--   10.4                   processing restrictions                        ProcessingRestrictions
--   10.5                   cardholder verification                        CardholderVerification
--   10.6                   terminal risk management                       TerminalRiskManagement
--   10.7                   terminal action analysis                       TerminalActionAnalysis
--   10.8                   card action analysis: the first GENERATE AC    CardActionAnalysis
--   10.9                   the request to the issuer, and the reply       OnlineProcessing
--   10.9                   EXTERNAL AUTHENTICATE                          IssuerAuthentication
--   10.10                  the issuer's scripts, templates 71             ScriptsBefore
--   10.11                  completion: the second GENERATE AC             Completion
--   10.10                  the issuer's scripts, templates 72             ScriptsBehind
--
-- Each step's definition ends with the step that follows it, its `.._then`. What all rest on is in StepBasis.
use Rattle.std.specs.Prelude.{List, []}
use Rattle.emv_dict.specs.declared.ending.Step.TheVariants as step
use Rattle.kernel.specs.StepsInTurn.{Standing, card_step, cut_off}
use Rattle.kernel.specs.Reply.{Reply}
use Rattle.pse_directory.specs.Directory.{selecting_by}
use Rattle.terminal_state.specs.StepResults.{StepResult}
use Rattle.terminal_state.specs.Terminal.{Outset}
unfoldable pub use Rattle.kernel.specs.ApplicationSelection.{initiation_or, candidates_left, selected_then}
unfoldable pub use Rattle.kernel.specs.InitiateProcessing.{granted, initiation}
unfoldable pub use Rattle.kernel.specs.ReadApplicationData.{read_then, read}
unfoldable pub use Rattle.kernel.specs.ProcessingRestrictions.{restrictions}
unfoldable pub use Rattle.kernel.specs.CardholderVerification.{verified_then, verification}
unfoldable pub use Rattle.kernel.specs.TerminalRiskManagement.{judged_then, risk}
unfoldable pub use Rattle.kernel.specs.TerminalActionAnalysis.{kind_wanted, analysis}
unfoldable pub use Rattle.kernel.specs.CardActionAnalysis.{first_answered, first_then, first}
unfoldable pub use Rattle.kernel.specs.OnlineProcessing.{kind_unable, unable_online, reply_read, replied, is_offline_only, online}
unfoldable pub use Rattle.kernel.specs.IssuerAuthentication.{has_authentication, authenticated_then, authentication_by, issuer_authentication}
unfoldable pub use Rattle.kernel.specs.ScriptsBefore.{kind_for, scripts_before, issuer_scripts}
unfoldable pub use Rattle.kernel.specs.Completion.{ends_online, decision, second_then, second}
unfoldable pub use Rattle.kernel.specs.ScriptsBehind.{all_failed, left_script, scripts_behind}
pub use Rattle.kernel.specs.StepBasis.{TransactionData, objects_at}

-- the dialogue from its first command, before whose answer the card is gone at the power-up
unfoldable pub dialogue : Outset → List Reply → Standing StepResult
dialogue outset =
    card_step (cut_off []) step.Power step.Select [] (selecting_by outset.settings.pse outset.settings.aids outset.purchase.confirm)
    (selected_then outset) []
