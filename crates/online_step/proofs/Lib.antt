pub mod Digits
mod Written
