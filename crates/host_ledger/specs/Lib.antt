pub mod Account
pub mod Accounts
pub mod Entries
pub mod KeptEntries
pub mod Key
pub mod Refusals
