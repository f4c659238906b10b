-- Lemmas on cards: what each has decided, given, lost and answered.
pub mod CardKept
pub mod CountersGrow
pub mod CardDecisions
pub mod TransactionsBegin
pub mod CountersServeOnce
pub mod FoundPrefixes
pub mod ExchangeLosses
pub mod CardLosses
pub mod GivenCounters
pub mod GivenRows
pub mod AnswersAreSure
pub mod SamePages
pub mod CardCalls
