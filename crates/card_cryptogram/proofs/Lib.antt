pub mod KindMade
mod Places
mod ReadBack
