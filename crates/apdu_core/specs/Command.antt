-- The bytes of a command (ISO/IEC 7816-4 section 5.1, the four cases with short lengths; EMV 4.3 Book 3 section
-- 6.3.2).
use Rattle.std.specs.Prelude.{ℕ, List, [], ◌∷◌, ◌++◌, ◌+◌, ◌*◌, ◌==◌, length, take, slice_index, Some, None, option_map, if◌then◌else◌}
use Rattle.std.specs.declared.option.Option.{Option}

-- a command: class, instruction, P1, P2, the data field, and the expected length where it has one
pub record CommandData : Type 0 where
  pub class : ℕ
  pub ins : ℕ
  pub p1 : ℕ
  pub p2 : ℕ
  pub body : List ℕ
  pub expects : Option ℕ

-- the data field behind its length Lc; nothing where it is empty
abbrev pub field_bytes : List ℕ → List ℕ
field_bytes [] = []
field_bytes (b ∷ bs) = length (b ∷ bs) ∷ b ∷ bs

-- the expected length Le, where there is one
abbrev pub expected_bytes : Option ℕ → List ℕ
expected_bytes None = []
expected_bytes (Some expected) = expected ∷ []

-- what follows the header
abbrev pub tail_bytes : List ℕ → Option ℕ → List ℕ
tail_bytes body expects = field_bytes body ++ expected_bytes expects

-- the bytes of a command: its header, then the data field behind its length, then the expected length
abbrev pub command_bytes : CommandData → List ℕ
command_bytes c = c.class ∷ c.ins ∷ c.p1 ∷ c.p2 ∷ tail_bytes c.body c.expects

-- READ RECORD of a record of the file with this short identifier (EMV 4.3 Book 3 section 6.5.11)
abbrev pub record_command : ℕ → ℕ → List ℕ
record_command sfi number = command_bytes (record { class = 0; ins = 0xB2; p1 = number; p2 = sfi * 8 + 4; body = []; expects = Some 0 })

-- what stands behind the header, read back: a data field must not be empty where it has a length,
-- and one more byte is the expected length
abbrev pub field_of : ℕ → List ℕ → Option (List ℕ × Option ℕ)
field_of count field =
    if count == 0 then None
    else if length field == count then Some (field, None)
    else if length field == count + 1 then Some (take count field, Some (slice_index field count))
    else None

abbrev pub tail_of : List ℕ → Option (List ℕ × Option ℕ)
tail_of [] = Some ([], None)
tail_of (expected ∷ []) = Some ([], Some expected)
tail_of (count ∷ b ∷ bs) = field_of count (b ∷ bs)

-- the command that these bytes are
unfoldable pub command_of : List ℕ → Option CommandData
command_of [] = None
command_of (a ∷ []) = None
command_of (a ∷ b ∷ []) = None
command_of (a ∷ b ∷ c ∷ []) = None
command_of (class ∷ ins ∷ p1 ∷ p2 ∷ tail) =
    option_map (λ t. record { class = class; ins = ins; p1 = p1; p2 = p2; body = t.0; expects = t.1 }) (tail_of tail)
