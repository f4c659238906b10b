-- Lemmas on one exchange of a lane, on what it touches.
pub mod SixWays
pub mod LaneMessages
pub mod LaneMoves
pub mod TurnPieces
pub mod ExchangeCases
pub mod CardExchange
pub mod HostExchange
pub mod PurchaseBegins
pub mod CardAskedFirst
pub mod DialogueOver
pub mod PurchaseEnded
pub mod PurchaseGoesOn
pub mod NextPurchase
pub mod LaneOutcomes
pub mod PurchasesCounted
pub mod PurchaseFacts
