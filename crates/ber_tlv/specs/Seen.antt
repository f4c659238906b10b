-- What a contract sees of an item and of a cursor.
use Rattle.std.specs.Prelude.{ℕ, List, [], Option, Some, None, Result, Ok, Err}
use Rattle.ber_tlv.specs.Item.{ItemData}
use Rattle.ber_tlv.specs.Left.{then_left}
use Rattle.ber_tlv.specs.Walked.{Walked, Done, Broken, Met, then_walked, walk_inside, walk_behind}
use Rattle.ber_tlv.specs.declared.item.Item.{Item}
use Rattle.ber_tlv.specs.declared.item.TlvFault.{TlvFault}

-- what a contract sees of an item
abbrev pub seen : Item → ItemData
seen item = record { tag = item.tag.0; value = item.value.now; start = item.start }

-- the bytes that a cursor reads, and the place that it has come to
pub record CursorData : Type 0 where
  pub bytes : List ℕ
  pub place : ℕ

-- what a step gave, with what is left behind it
abbrev pub then_rest : Result (Option Item) TlvFault → Result (List ItemData) TlvFault → Result (List ItemData) TlvFault
then_rest (Ok (Some item)) rest = then_left (seen item) rest
then_rest (Ok None) rest = Ok []
then_rest (Err fault) rest = Err fault

-- what a step gave, with the walk of what it holds and of what is left behind it
abbrev pub then_walk : Result (Option Item) TlvFault → List ℕ → ℕ → Walked
then_walk (Ok (Some item)) bytes next = Met (seen item) (then_walked (walk_inside bytes (seen item) next) (walk_behind bytes next))
then_walk (Ok None) bytes next = Done
then_walk (Err fault) bytes next = Broken fault
