-- What `put` and `set` make of a map of at most 512 objects and 16,384 bytes of values.
use Rattle.std.specs.Prelude.{ℕ, ◌+◌, nat_lt, nat_le, is_some, if◌then◌else◌, List, length, Result, Ok, Err}
use Rattle.ber_tlv.specs.declared.tag.Tag.{Tag}
use Rattle.env_map.specs.Entries.{Entries, value_of, with_object, with_value, size_of_values}
use Rattle.env_map.specs.declared.env.EnvFault.{EnvFault}
use Rattle.env_map.specs.declared.env.EnvFault.TheVariants.{Repeated, TooMany, TooLong}

-- the map with one more entry, or the first of the three faults
abbrev pub put_of : Tag → List ℕ → Entries → Result Entries EnvFault
put_of tag value entries =
    if is_some (value_of tag.0 entries) then Err (Repeated tag)
    else if nat_le 512 (length entries) then Err TooMany
    else if nat_lt 16384 (size_of_values entries + length value) then Err TooLong
    else Ok (with_object tag.0 value entries)

-- the map with this value in place of the tag's, or with one more entry where the tag is absent
abbrev pub set_of : Tag → List ℕ → Entries → Result Entries EnvFault
set_of tag value entries =
    if is_some (value_of tag.0 entries) then Ok (with_value tag.0 value entries) else put_of tag value entries
