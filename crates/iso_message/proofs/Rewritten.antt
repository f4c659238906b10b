-- Items that are written again, one by one.
use Rattle.std.proofs.Common.{◌≡◌, ℕ, Bool, true, false, ◌+◌, ◌≤◌, List, [], ◌++◌, length, Option, Some, None, Ok, Err, Result, refl, sym, ap, ◌∙◌, arith, append_assoc, append-nil, bytes_eq, is_ok}
use Rattle.ber_tlv.specs.Item.{ItemData, item_at}
use Rattle.ber_tlv.specs.Items.{NextItem}
use Rattle.ber_tlv.specs.Left.{then_left}
use Rattle.ber_tlv.specs.Written.{written}
use Rattle.ber_tlv.specs.declared.item.TlvFault.{TlvFault}
use Rattle.auth_message.specs.Spelling.{spelled}
use Rattle.auth_message.proofs.Opened.{start_of}
use Rattle.iso_message.specs.Left.{as_written}
use Rattle.iso_message.specs.Pairs.{pairs}

-- what was written so far, and the items that are left as they are written
abbrev pub rewritten : List ℕ → Result (List ItemData) TlvFault → Option (List ℕ)
rewritten front (Ok items) = Some (front ++ spelled (pairs items))
rewritten front (Err fault) = None

-- one item more
pub one_more : (front : List ℕ) (item : ItemData) (rest : Result (List ItemData) TlvFault) → rewritten (front ++ written item.tag item.value) rest ≡ rewritten front (then_left item rest)
one_more front item (Ok items) = ap Some (append_assoc front (written item.tag item.value) (spelled (pairs items)))
one_more front item (Err fault) = refl

test_of : (content again : List ℕ) (items : List ItemData) (same : Bool) → spelled (pairs items) ≡ again → bytes_eq again content ≡ same → is_ok (as_written content (Ok items)) ≡ same
test_of content again items true again_is same = let test : bytes_eq (spelled (pairs items)) content ≡ true = ap (λ b. bytes_eq b content) again_is ∙ same in rw test refl
test_of content again items false again_is same = let test : bytes_eq (spelled (pairs items)) content ≡ false = ap (λ b. bytes_eq b content) again_is ∙ same in rw test refl

-- what all of them say
pub all_written : (content again : List ℕ) (found : Result (List ItemData) TlvFault) → rewritten again (Ok []) ≡ rewritten [] found → bytes_eq again content ≡ is_ok (as_written content found)
all_written content again (Ok items) same =
    let joined : again ++ [] ≡ spelled (pairs items) = cc in
    sym (test_of content again items (bytes_eq again content) (sym joined ∙ append-nil again) refl)
all_written content again (Err fault) same = cc

-- none where they end in a fault
pub none_written : (content again : List ℕ) (fault : TlvFault) (found : Result (List ItemData) TlvFault) → rewritten again (Err fault) ≡ rewritten [] found → false ≡ is_ok (as_written content found)
none_written content again fault (Ok items) same = cc
none_written content again fault (Err other) same = refl

-- an item is no longer where it is written again
pub within_item :
    (bytes : List ℕ) (place : ℕ) (item : ItemData) (next count : ℕ) → NextItem bytes place item next
    → ((start other : ℕ) → item_at bytes start ≡ Ok (record { tag = item.tag; value = item.value; start = start }, other) → start + length (written item.tag item.value) ≤ other)
    → count ≤ place → count + length (written item.tag item.value) ≤ next
within_item bytes place item next count step shortest before =
    let start_is = start_of bytes step.start item next step.stands in
    let stands : item_at bytes step.start ≡ Ok (record { tag = item.tag; value = item.value; start = step.start }, next) =
    step.stands ∙ ap (λ (n : ℕ). Ok (record { tag = item.tag; value = item.value; start = n }, next)) start_is in
    let upward = step.zeros.upward in
    let bound = shortest step.start next stands in
    omega arith
