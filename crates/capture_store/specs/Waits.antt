-- Messages that wait in working memory: where each stands, and the bytes of all of them.
use Rattle.std.specs.Prelude.{ℕ, ◌+◌, ◌≤◌, List, length, map}
use Rattle.std.specs.List.{slice_range}
use Rattle.capture_store.specs.declared.waiting.MessagePlace.{MessagePlace}

-- the messages, oldest first, and for how many more of them, and of their bytes, there is room
pub record WaitingData : Type 0 where
  pub messages : List (List ℕ)
  pub places_left : ℕ
  pub bytes_left : ℕ

-- there is room for one message more, of at most 2,048 bytes
pub record HasSpace (waiting : WaitingData) : Type 0 where
  pub place : 1 ≤ waiting.places_left
  pub bytes : 2048 ≤ waiting.bytes_left

abbrev pub message_at : List ℕ → MessagePlace → List ℕ
message_at bytes place = slice_range bytes place.start place.end

abbrev pub messages_at : List MessagePlace → List ℕ → List (List ℕ)
messages_at places bytes = map (message_at bytes) places

-- a message stands within the bytes, and has at most 2,048 of them
pub record IsPlaceIn (bytes : List ℕ) (place : MessagePlace) : Type 0 where
  pub ordered : place.start ≤ place.end
  pub within : place.end ≤ length bytes
  pub short : place.end ≤ place.start + 2048
