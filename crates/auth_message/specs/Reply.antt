-- The reply that bytes are, or its first fault (own; the templates of EMV 4.3 Book 3 section 10.10).
use Rattle.std.specs.Prelude.{◌≡◌, ℕ, ◌≤◌, ◌==◌, ◌&&◌, ◌||◌, nat_le, Bool, false, IsTrue, if◌then◌else◌, List, [], ◌∷◌, length, slice_range, Option, Result, Ok, Err}
use Rattle.std.specs.List.{list_all}
use Rattle.ber_tlv.specs.Item.{ItemData, item_at}
use Rattle.ber_tlv.specs.Left.{items_of}
use Rattle.ber_tlv.specs.declared.item.TlvFault.{TlvFault}
use Rattle.auth_message.specs.declared.fault.MessageFault.{MessageFault}
use Rattle.auth_message.specs.Field.{wrong_field, some_value}
use Rattle.auth_message.specs.Fields.{◌>>=◌, field_given, behind_field, field_if_there, fixed_at, no_item_left}
use Rattle.auth_message.specs.Outer.{outer_of}

-- the code 8A, the value of 91 and the bytes of the scripts
pub record ReplyData : Type 0 where
  pub code : List ℕ
  pub auth : Option (List ℕ)
  pub scripts : List ℕ

-- 91, of 8 to 16 bytes, if it is there
unfoldable pub auth_at : List ItemData → Result (Option (List ℕ) × List ItemData) MessageFault
auth_at items = do
  value ← field_if_there (some_value 8 16 0x91) (field_given 0x91 items)
  Ok (value, behind_field 0x91 items)

-- the tag of a script: before the second GENERATE AC (71) or behind it (72)
abbrev pub names_script : ℕ → Bool
names_script tag = tag == 0x71 || tag == 0x72

abbrev pub is_template : ItemData → Bool
is_template item = names_script item.tag

-- the scripts that come next, and what stands behind them
abbrev pub leading_templates : List ItemData → List ItemData
leading_templates [] = []
leading_templates (item ∷ items) = (if is_template item then item ∷ leading_templates items else [])

abbrev pub behind_templates : List ItemData → List ItemData
behind_templates [] = []
behind_templates (item ∷ items) = (if is_template item then behind_templates items else item ∷ items)

-- the place behind the item that begins at a place
abbrev pub place_behind : Result (ItemData × ℕ) TlvFault → ℕ
place_behind (Ok found) = found.1
place_behind (Err fault) = 0

abbrev pub place_behind_item : List ℕ → ItemData → ℕ
place_behind_item bytes item = place_behind (item_at bytes item.start)

-- the place behind the last of some items, or this one where there are none
abbrev pub end_behind : List ℕ → ℕ → List ItemData → ℕ
end_behind bytes end [] = end
end_behind bytes end (item ∷ items) = end_behind bytes (place_behind_item bytes item) items

-- the bytes from the start of the first item to the end of the last one; none where there is none
abbrev pub bytes_of_items : List ℕ → List ItemData → List ℕ
bytes_of_items bytes [] = []
bytes_of_items bytes (first ∷ others) = slice_range bytes first.start (end_behind bytes (place_behind_item bytes first) others)

-- at most 8 scripts of at most 1,024 bytes together
abbrev pub are_few_templates : List ItemData → List ℕ → Bool
are_few_templates items bytes = nat_le (length items) 8 && nat_le (length bytes) 1024

-- the scripts among a reply's items, with what stands behind them: at most 8 of at most 1,024 bytes together, else a
-- fault
unfoldable pub scripts_in_items : List ℕ → List ItemData → Result (List ℕ × List ItemData) MessageFault
scripts_in_items bytes items =
    if are_few_templates (leading_templates items) (bytes_of_items bytes (leading_templates items))
    then Ok (bytes_of_items bytes (leading_templates items), behind_templates items)
    else Err (wrong_field 0x71)

-- 8A of two bytes, 91 if it is there, and scripts; the items stand in these bytes
unfoldable pub reply_at : List ℕ → List ItemData → Result ReplyData MessageFault
reply_at bytes items = do
  code ← fixed_at 2 false 0x8A items
  auth ← auth_at code.1
  scripts ← scripts_in_items bytes auth.1
  end ← no_item_left scripts.1
  Ok (record { code = code.0; auth = auth.0; scripts = scripts.0 })

-- the reply that bytes are, or its first fault
abbrev pub reply_of : List ℕ → Result ReplyData MessageFault
reply_of bytes = outer_of (0xE2 ∷ []) bytes >>= λ outer. reply_at bytes outer.1

-- bytes that are at most 8 scripts and no more than 1,024 bytes, with no 00 before the first one or
-- behind the last one
pub record AreScripts (bytes : List ℕ) : Type 0 where
  pub items : List ItemData
  pub listed : items_of bytes ≡ Ok items
  pub templates : IsTrue (list_all is_template items)
  pub few : length items ≤ 8
  pub short : length bytes ≤ 1024
  pub no_padding : bytes_of_items bytes items ≡ bytes
