pub mod Card
pub mod Generated
pub mod Issuer
pub mod Lanes
pub mod Numbers
pub mod Purchases
