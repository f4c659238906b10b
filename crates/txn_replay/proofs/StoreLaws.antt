-- Lemmas on the stores of lanes that keep their captures durably.
pub mod StoresKept
pub mod StoresEmptied
pub mod StorePlans
pub mod StoreFirst
pub mod StoreOpen
pub mod RunningRoom
