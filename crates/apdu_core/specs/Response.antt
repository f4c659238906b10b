-- The bytes of a response (ISO/IEC 7816-4 section 5.1; EMV 4.3 Book 3 section 6.3.3): the body, then the status SW1
-- SW2.
use Rattle.std.specs.Prelude.{ℕ, List, [], ◌∷◌, ◌++◌, ◌/◌, ◌%◌, ◌*◌, ◌+◌, ◌-◌, ◌&&◌, nat_le, length, take, slice_index, Option, Some, None, if◌then◌else◌}

pub record ResponseData : Type 0 where
  pub body : List ℕ
  pub status : ℕ

-- the bytes of a response: the body, then the two bytes of the status
abbrev pub response_bytes : List ℕ → ℕ → List ℕ
response_bytes body status = body ++ status / 256 ∷ status % 256 ∷ []

-- the status of a response of this many bytes
abbrev pub status_of : ℕ → List ℕ → ℕ
status_of count bytes = slice_index bytes (count - 2) * 256 + slice_index bytes (count - 1)

-- the response that these bytes are: 2 to 258 of them
unfoldable pub response_of : List ℕ → Option ResponseData
response_of bytes =
    if nat_le 2 (length bytes) && nat_le (length bytes) 258
    then Some (record { body = take (length bytes - 2) bytes; status = status_of (length bytes) bytes }) else None
