-- Taking a reply's scripts one by one.
use Rattle.std.specs.Prelude.{ℕ, nat_le, if◌then◌else◌, List, [], ◌∷◌, length, Option, Some, None}
use Rattle.ber_tlv.specs.Item.{ItemData}
use Rattle.auth_message.specs.Reply.{is_template, place_behind_item, end_behind}

-- the places of the first byte of the next item and behind its last one, where it is a script
abbrev pub next_script : List ℕ → List ItemData → Option (ℕ × ℕ)
next_script bytes [] = None
next_script bytes (item ∷ items) = (if is_template item then Some (item.start, place_behind_item bytes item) else None)

-- the items behind the next one where it is a script, else all of them
abbrev pub behind_script : List ItemData → List ItemData
behind_script [] = []
behind_script (item ∷ items) = (if is_template item then items else item ∷ items)

-- the same where there are not more than so many
abbrev pub end_of_few : ℕ → List ℕ → ℕ → List ItemData → Option ℕ
end_of_few most bytes end items = (if nat_le (length items) most then Some (end_behind bytes end items) else None)
