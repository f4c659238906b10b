-- Lemmas on captures: each is sent, and booked once.
mod Arriving
mod Exactly
pub mod CapturesSent
pub mod ApprovedBooked
pub mod NoRequestCaptured
