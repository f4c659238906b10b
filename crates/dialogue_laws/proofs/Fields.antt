-- Objects written one behind the other are read again.
use Rattle.std.proofs.Common.{◌≡◌, ℕ, ◌+◌, true, List, [], ◌++◌, length, Ok, sym, ap, ◌∙◌, arith, append-nil}
use Rattle.auth_message.proofs.Spelled.{are_tags, placed, read_fields}
use Rattle.auth_message.specs.Spelling.{spelled}
use Rattle.ber_tlv.proofs.Reading.{left-end, no_zeros}
use Rattle.ber_tlv.specs.Item.{ItemData}
use Rattle.ber_tlv.specs.Left.{items_of, items_behind}

pub fields_again : (fields : List (ℕ × List ℕ)) (bytes : List ℕ) → are_tags fields ≡ true → bytes ≡ spelled fields → items_of bytes ≡ Ok (placed 0 fields)
fields_again fields bytes are is =
    let whole : bytes ≡ [] ++ (spelled fields ++ []) = is ∙ sym (append-nil (spelled fields)) in
    let size : 0 + length (spelled fields) ≡ length bytes = omega (arith, ap length is) in
    let end : items_behind bytes (0 + length (spelled fields)) ≡ Ok [] =
    ap (items_behind bytes) size ∙ left-end bytes (length bytes) (no_zeros bytes (length bytes) (omega arith)) in
    read_fields fields [] [] bytes [] are whole end ∙ ap (λ (l : List ItemData). Ok l) (append-nil (placed 0 fields))
