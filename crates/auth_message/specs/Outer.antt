-- The one item that a message is, and the items of its value (own).
use Rattle.std.specs.Prelude.{ℕ, ◌-◌, ◌==◌, if◌then◌else◌, List, [], ◌∷◌, length, take, Option, Some, None, unwrap_or, Result, Ok, Err}
use Rattle.std.specs.List.{list_any}
use Rattle.ber_tlv.specs.Item.{ItemData, item_at}
use Rattle.ber_tlv.specs.Left.{items_behind, items_of, fault_of}
use Rattle.ber_tlv.specs.FaultPlace.{place_of_fault}
use Rattle.ber_tlv.specs.Walked.{Walked, Done, Broken, Met, walk_of}
use Rattle.ber_tlv.specs.declared.item.TlvFault.{TlvFault}
use Rattle.auth_message.specs.declared.fault.MessageFault.{MessageFault}
use Rattle.auth_message.specs.declared.fault.MessageFault.TheVariants.{Coding}

-- the items of the value of an item that ends before a place; places count from the first byte of the
-- message
abbrev pub items_within : List ℕ → Result (ItemData × ℕ) TlvFault → Result (List ItemData) TlvFault
items_within bytes (Ok found) = items_behind (take found.1 bytes) (found.1 - length found.0.value)
items_within bytes (Err fault) = Err fault

-- the items of the value of an item
abbrev pub items_held : List ℕ → ItemData → Result (List ItemData) TlvFault
items_held bytes item = items_within bytes (item_at bytes item.start)

-- the first item that a walk met, if it met one: there is one also where a fault stands behind it
abbrev pub first_met : Walked → Option ItemData
first_met Done = None
first_met (Broken fault) = None
first_met (Met item rest) = Some item

-- the fault of the items directly in an item
abbrev pub fault_in : List ℕ → Option ItemData → Option TlvFault
fault_in bytes None = None
fault_in bytes (Some item) = fault_of (items_held bytes item)

-- no other item stands beside it
abbrev pub alone_among_items : {A : Type 0} → A → List ItemData → Result A MessageFault
alone_among_items found [] = Ok found
alone_among_items found (other ∷ others) = Err (Coding other.start)

-- the tag of the message and its items, where its value is a list of items and its tag a known one
abbrev pub outer_within : List ℕ → ItemData → List ItemData → Result (List ItemData) TlvFault → Result (ℕ × List ItemData) MessageFault
outer_within known item others (Err fault) = Err (Coding (place_of_fault fault))
outer_within known item others (Ok items) =
    if list_any (λ tag. tag == item.tag) known then alone_among_items (item.tag, items) others else Err (Coding item.start)

-- the items in the first item stand before all that is behind it, so a fault among them is at the least
-- place
abbrev pub outer_among : List ℕ → List ℕ → Option TlvFault → Result (List ItemData) TlvFault → Result (ℕ × List ItemData) MessageFault
outer_among known bytes inside (Err fault) = Err (Coding (place_of_fault (unwrap_or inside fault)))
outer_among known bytes inside (Ok []) = Err (Coding 0)
outer_among known bytes inside (Ok (item ∷ others)) = outer_within known item others (items_held bytes item)

-- the tag of the message and its items: the first fault of the coding, in the order of the bytes, among
-- the outer items and those directly in the first one, comes first, then an unknown tag, then an item
-- beside it
abbrev pub outer_of : List ℕ → List ℕ → Result (ℕ × List ItemData) MessageFault
outer_of known bytes = outer_among known bytes (fault_in bytes (first_met (walk_of bytes))) (items_of bytes)
