pub mod Accounts
pub mod Issuers
pub mod Wanted
