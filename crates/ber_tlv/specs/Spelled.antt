-- The bytes that were read as a tag or as a length, and why none is read (EMV 4.3 Book 3 Annex B1 and B2).
use Rattle.std.specs.Prelude.{◌≡◌, ℕ, ◌+◌, ◌*◌, ◌^◌, ◌%◌, ◌<◌, ◌≤◌, ◌⊎◌, ⊤, List, [], ◌∷◌, ◌++◌, length, drop, Some, slice_get}
use Rattle.ber_tlv.specs.Written.{tag_bytes}
use Rattle.ber_tlv.specs.declared.item.TlvFault.{TlvFault}
use Rattle.ber_tlv.specs.declared.item.TlvFault.TheVariants.{Truncated, BadLength, LongTag}

-- the tag's own bytes stand from this place to the next one
pub record Spelled (bytes : List ℕ) (start tag next : ℕ) : Type 0 where
  pub passed : start + length (tag_bytes tag) ≡ next
  pub same : drop start bytes ≡ tag_bytes tag ++ drop next bytes

-- bytes with which a tag begins, and which end within it
pub record IsCutTag (bytes : List ℕ) : Type 0 where
  pub tag : ℕ
  pub more : List ℕ
  pub spells : bytes ++ more ≡ tag_bytes tag
  pub missing : 0 < length more

-- a tag of more than three bytes begins
pub record HasLongTag (bytes : List ℕ) : Type 0 where
  pub first : ℕ
  pub second : ℕ
  pub third : ℕ
  pub behind : List ℕ
  pub splits : bytes ≡ first ∷ second ∷ third ∷ behind
  pub more : first % 32 ≡ 31
  pub more_second : 128 ≤ second
  pub more_third : 128 ≤ third

-- why no tag is read from a place on, where these bytes stand
abbrev pub StopsTag : TlvFault → ℕ → List ℕ → Type 0
StopsTag (Truncated place) start bytes = (place ≡ start) × IsCutTag bytes
StopsTag (BadLength place) start bytes = ⊥
StopsTag (LongTag place) start bytes = (place ≡ start) × HasLongTag bytes

-- the number that bytes write, the highest first
abbrev pub number_of_bytes : List ℕ → ℕ
number_of_bytes [] = 0
number_of_bytes (byte ∷ bytes) = byte * 256 ^ length bytes + number_of_bytes bytes

-- one byte with bit 8 off is the length (ISO/IEC 8825-1 section 8.1.3.4)
pub record ShortLength (bytes : List ℕ) (place count next : ℕ) : Type 0 where
  pub first : slice_get bytes place ≡ Some count
  pub small : count < 128
  pub end : place + 1 ≡ next

-- a byte with bit 8 on gives in its other bits how many bytes follow, and these write the length
-- (ISO/IEC 8825-1 section 8.1.3.5); EMV takes one or two
pub record LongLength (bytes : List ℕ) (place count next : ℕ) : Type 0 where
  pub following : List ℕ
  pub first : slice_get bytes place ≡ Some (128 + length following)
  pub some : 1 ≤ length following
  pub few : length following ≤ 2
  pub end : place + 1 + length following ≡ next
  pub stand : drop (place + 1) bytes ≡ following ++ drop next bytes
  pub number : number_of_bytes following ≡ count

-- the length that stands between two places; proofs open it only where they need it
unfoldable pub HasLength : List ℕ → ℕ → ℕ → ℕ → Type 0
HasLength bytes place count next = ShortLength bytes place count next ⊎ LongLength bytes place count next

-- a bad length is 80, or 83 and above
unfoldable pub BadLengthStands : List ℕ → TlvFault → Type 0
BadLengthStands bytes (BadLength place) = (byte : ℕ) × (slice_get bytes place ≡ Some byte) × ((byte ≡ 128) ⊎ (131 ≤ byte))
BadLengthStands bytes (Truncated place) = ⊤
BadLengthStands bytes (LongTag place) = ⊤
