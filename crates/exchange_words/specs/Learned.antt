-- What an answer leaves for the lines behind it (Book 3 section 10.2).
use Rattle.std.specs.Prelude.{ℕ, zero, suc, ◌==◌, if◌then◌else◌, List, [], ◌∷◌, length, Option, Some, None}
use Rattle.std.specs.Option.{option_or}
use Rattle.ber_tlv.specs.Direct.{sole_value}
use Rattle.ber_tlv.specs.Item.{ItemData}
use Rattle.ber_tlv.specs.Left.{items_of}
use Rattle.ber_tlv.specs.Tag.{names_template}
use Rattle.object_words.specs.Leading.{leading_items}
use Rattle.value_words.specs.Plain.{binary_number}
use Rattle.exchange_words.specs.Lanes.{kept_if_short}
use Rattle.exchange_words.specs.declared.lane.LaneState.{LaneState}

-- the value of the first object of this tag among these, where `within` finds it in a constructed one
abbrev pub value_found_in : ℕ → (List ℕ → Option (List ℕ)) → List ItemData → Option (List ℕ)
value_found_in tag within [] = None
value_found_in tag within (item ∷ items) =
    if item.tag == tag then Some item.value
    else option_or (if names_template item.tag then within item.value else None) (value_found_in tag within items)

abbrev pub found_nowhere : List ℕ → Option (List ℕ)
found_nowhere bytes = None

-- the value of the first object of this tag, also within others, so many deep at most
unfoldable pub found_deep : ℕ → ℕ → List ℕ → Option (List ℕ)
found_deep zero tag bytes = value_found_in tag found_nowhere (leading_items bytes)
found_deep (suc more) tag bytes = value_found_in tag (found_deep more tag) (leading_items bytes)

-- the number of a value of this length, else what was known of it
abbrev pub number_if_sized : ℕ → Option (List ℕ) → Option ℕ → Option ℕ
number_if_sized count None known = known
number_if_sized count (Some value) known = (if length value == count then Some (binary_number value) else known)

abbrev pub number_found_or : List ℕ → ℕ → ℕ → Option ℕ → Option ℕ
number_found_or bytes tag count known = number_if_sized count (found_deep 8 tag bytes) known

-- a list in place of the one before
abbrev pub list_or : Option (List ℕ) → List ℕ → List ℕ
list_or None before = before
list_or (Some list) before = kept_if_short 255 list

-- the number of two bytes that GET DATA gave for a tag
abbrev pub counter_of_value : Option (List ℕ) → Option ℕ
counter_of_value None = None
counter_of_value (Some value) = (if length value == 2 then Some (binary_number value) else None)

abbrev pub counter_in_body : ℕ → List ℕ → Option ℕ
counter_in_body tag body = counter_of_value (sole_value tag (items_of body))

-- the lists, the action codes and the limits of a record
abbrev pub with_lists : LaneState → List ℕ → LaneState
with_lists lane bytes = record lane {
  cdol1 = record { items = list_or (found_deep 8 0x8C bytes) lane.cdol1.items };
  cdol2 = record { items = list_or (found_deep 8 0x8D bytes) lane.cdol2.items };
  codes = record {
    denial = number_found_or bytes 0x9F0E 5 lane.codes.denial;
    online = number_found_or bytes 0x9F0F 5 lane.codes.online;
    default = number_found_or bytes 0x9F0D 5 lane.codes.default;
  };
  lower = number_found_or bytes 0x9F14 1 lane.lower;
  upper = number_found_or bytes 0x9F23 1 lane.upper;
}

abbrev pub with_template : LaneState → Option (List ℕ) → LaneState
with_template lane None = lane
with_template lane (Some bytes) = with_lists lane bytes

abbrev pub with_record : LaneState → List ℕ → LaneState
with_record lane body = with_template lane (sole_value 0x70 (items_of body))

-- the value of the first object of this tag that stands in these bytes, and not within another
abbrev pub found_here : ℕ → Option (List ℕ) → Option (List ℕ)
found_here tag None = None
found_here tag (Some bytes) = found_deep 0 tag bytes

-- the list 9F38 of an answer to SELECT: it stands in the template A5 of the template 6F (EMV 4.3 Book 1 section 11.3.4)
abbrev pub pdol_in : List ℕ → Option (List ℕ)
pdol_in body = found_here 0x9F38 (found_here 0xA5 (found_here 0x6F (Some body)))

-- an answer to SELECT, and its list
abbrev pub lane_with_selected : LaneState → List ℕ → List ℕ → LaneState
lane_with_selected lane answer body = record lane {
  selected = record { items = kept_if_short 258 answer };
  pdol = record { items = list_or (pdol_in body) [] };
}

-- a counter that GET DATA gave
abbrev pub with_counter : LaneState → List ℕ → LaneState
with_counter lane body = record lane { counter = option_or (counter_in_body 0x9F36 body) lane.counter }
