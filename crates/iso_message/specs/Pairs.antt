-- Items without their places.
use Rattle.std.specs.Prelude.{ℕ, List, map}
use Rattle.ber_tlv.specs.Item.{ItemData}

-- tag and value of each item
abbrev pub pairs : List ItemData → List (ℕ × List ℕ)
pairs items = map (λ item. (item.tag, item.value)) items
