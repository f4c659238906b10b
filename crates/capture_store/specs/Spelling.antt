-- The bytes of a list of messages: 01, their count, and for each its length in two bytes, big-endian, and the message.
use Rattle.std.specs.Prelude.{◌≡◌, ℕ, zero, suc, ◌+◌, ◌*◌, ◌/◌, ◌%◌, ◌<◌, ◌≤◌, List, [], ◌∷◌, ◌++◌, take, drop, length, All}

-- a message has 1 to 139 bytes
pub record IsCaptureMessage (message : List ℕ) : Type 0 where
  pub some : 1 ≤ length message
  pub short : length message ≤ 139

-- at most seven messages
pub record IsList (list : List (List ℕ)) : Type 0 where
  pub few : length list ≤ 7
  pub each : All IsCaptureMessage list

-- a message behind its length
abbrev pub counted_message : List ℕ → List ℕ
counted_message message = length message / 256 ∷ length message % 256 ∷ message

abbrev pub counted_messages : List (List ℕ) → List ℕ
counted_messages [] = []
counted_messages (message ∷ messages) = counted_message message ++ counted_messages messages

-- the state that stands for a list
abbrev pub state_of_list : List (List ℕ) → List ℕ
state_of_list list = 1 ∷ length list ∷ counted_messages list

-- so many messages, each read behind its length
abbrev pub messages_in : ℕ → List ℕ → List (List ℕ)
messages_in zero bytes = []
messages_in (suc left) [] = []
messages_in (suc left) (high ∷ []) = []
messages_in (suc left) (high ∷ low ∷ text) = take (high * 256 + low) text ∷ messages_in left (drop (high * 256 + low) text)

-- the list that is read from a state
abbrev pub list_of_state : List ℕ → List (List ℕ)
list_of_state [] = []
list_of_state (version ∷ []) = []
list_of_state (version ∷ count ∷ bytes) = messages_in count bytes

-- the state of a list: of the one that is read from it
pub record IsState (state : List ℕ) : Type 0 where
  pub is_list : IsList (list_of_state state)
  pub spelled : state ≡ state_of_list (list_of_state state)

-- the state of a list that has a message
pub record HasFirst (bytes : List ℕ) : Type 0 where
  pub state : IsState bytes
  pub some : 0 < length (list_of_state bytes)
