-- Reading a message's fields in order: each step takes its field from the front of the items that are
-- left, or gives the message's first fault (own).
use Rattle.std.specs.Prelude.{ℕ, Bool, ◌==◌, if◌then◌else◌, List, [], ◌∷◌, Option, Some, None, Result, Ok, Err}
use Rattle.ber_tlv.specs.Item.{ItemData}
use Rattle.emv_dict.specs.Pan.{pan_of}
use Rattle.auth_message.specs.declared.fault.MessageFault.{MessageFault}
use Rattle.auth_message.specs.declared.fault.MessageFault.TheVariants.{Coding}
use Rattle.auth_message.specs.Field.{missing_field, fixed_value, some_value, pan_or_wrong}

-- the next step, or the fault that ended the reading
infixl 10 ◌>>=◌
abbrev pub ◌>>=◌ : {A B : Type 0} → Result A MessageFault → (A → Result B MessageFault) → Result B MessageFault
Ok a >>= f = f a
Err fault >>= f = Err fault

-- the value of the first item where it has this tag
abbrev pub field_given : ℕ → List ItemData → Option (List ℕ)
field_given tag [] = None
field_given tag (item ∷ items) = (if item.tag == tag then Some item.value else None)

-- the items behind the first one where it has this tag, else all of them
abbrev pub behind_field : ℕ → List ItemData → List ItemData
behind_field tag [] = []
behind_field tag (item ∷ items) = (if item.tag == tag then items else item ∷ items)

abbrev pub or_missing : ℕ → Option (List ℕ) → Result (List ℕ) MessageFault
or_missing tag (Some value) = Ok value
or_missing tag None = Err (missing_field tag)

-- a field that has to be there
unfoldable pub required_field : ℕ → List ItemData → Result (List ℕ × List ItemData) MessageFault
required_field tag items = do
  value ← or_missing tag (field_given tag items)
  Ok (value, behind_field tag items)

-- one of so many bytes
unfoldable pub fixed_at : ℕ → Bool → ℕ → List ItemData → Result (List ℕ × List ItemData) MessageFault
fixed_at count numeric tag items = do
  found ← required_field tag items
  value ← fixed_value count numeric tag found.0
  Ok (value, found.1)

-- one of so few to so many bytes
unfoldable pub some_at : ℕ → ℕ → ℕ → List ItemData → Result (List ℕ × List ItemData) MessageFault
some_at least most tag items = do
  found ← required_field tag items
  value ← some_value least most tag found.0
  Ok (value, found.1)

-- the account number
unfoldable pub pan_at : List ItemData → Result (List ℕ × List ItemData) MessageFault
pan_at items = do
  found ← required_field 0x5A items
  pan ← pan_or_wrong (pan_of found.0)
  Ok (pan, found.1)

-- the value of a field that is there
abbrev pub field_if_there : (List ℕ → Result (List ℕ) MessageFault) → Option (List ℕ) → Result (Option (List ℕ)) MessageFault
field_if_there read None = Ok None
field_if_there read (Some value) = read value >>= λ read. Ok (Some read)

-- a field of so many bytes that may be absent
unfoldable pub fixed_if_there : ℕ → Bool → ℕ → List ItemData → Result (Option (List ℕ) × List ItemData) MessageFault
fixed_if_there count numeric tag items = do
  value ← field_if_there (fixed_value count numeric tag) (field_given tag items)
  Ok (value, behind_field tag items)

-- no item is left
abbrev pub no_item_left : List ItemData → Result (Unit {0}) MessageFault
no_item_left [] = Ok tt
no_item_left (item ∷ items) = Err (Coding item.start)
