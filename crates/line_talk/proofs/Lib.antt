pub mod Firsts
pub mod Talking
