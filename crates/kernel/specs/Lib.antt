-- what is said of a dialogue
pub mod Reply
pub mod StepsInTurn
-- the steps of a transaction, in their order
pub mod ApplicationSelection
pub mod InitiateProcessing
pub mod ReadApplicationData
pub mod ProcessingRestrictions
pub mod CardholderVerification
pub mod TerminalRiskManagement
pub mod TerminalActionAnalysis
pub mod CardActionAnalysis
pub mod OnlineProcessing
pub mod IssuerAuthentication
pub mod ScriptsBefore
pub mod Completion
pub mod ScriptsBehind
pub mod StepBasis
-- and all of them
pub mod Dialogue
pub mod Ended
pub mod Tally
pub mod Laws
-- how the code is tied to it
pub mod Transactions
pub mod Stages
pub mod Reading
pub mod Fits
pub mod Rank
pub mod Sound
pub mod Kernel
pub mod Steps
pub mod EndShown
pub mod BeginEnd
