-- An object that is found in bytes has no more bytes than these.
use Rattle.std.proofs.Common.{◌≡◌, ℕ, ◌≤◌, ◌<◌, ◌==◌, Bool, true, false, List, [], ◌∷◌, length, Ok, Err, Some, None, arith, if◌then◌else◌}
use Rattle.std.specs.Prelude.{IfSome}
use Rattle.std.specs.declared.option.Option.{Option}
use Rattle.std.specs.declared.result.Result.{Result}
use Rattle.std.specs.List.{AllByRecursion}
use Rattle.ber_tlv.specs.Direct.{first_value, found_value}
use Rattle.ber_tlv.specs.Item.{ItemData}
use Rattle.ber_tlv.specs.Left.{items_of}
use Rattle.ber_tlv.specs.declared.item.TlvFault.{TlvFault}
use Rattle.ber_tlv.proofs.WalkBounds.{ItemsShort, item_values_short}

one_of : (test : Bool) (most : ℕ) (item : ItemData) (rest : Option (List ℕ)) → length item.value ≤ most → IfSome rest (λ value. length value ≤ most)
    → IfSome (if test then Some item.value else rest) (λ value. length value ≤ most)
one_of true most item rest first later = first
one_of false most item rest first later = later

first_value-short : (most tag : ℕ) (items : List ItemData) → AllByRecursion (λ item. length item.value ≤ most) items → IfSome (first_value tag items) (λ value. length value ≤ most)
first_value-short most tag [] short = tt
first_value-short most tag (item ∷ items) short = one_of (item.tag == tag) most item (first_value tag items) short.0 (first_value-short most tag items short.1)

found-short : (most tag : ℕ) (read : Result (List ItemData) TlvFault) (found : Option (List ℕ)) → ItemsShort most read → found_value tag read ≡ Ok found
    → IfSome found (λ value. length value ≤ most)
found-short most tag (Ok items) found short is =
    let same : first_value tag items ≡ found = cc in
    rw (← same) (first_value-short most tag items short)
found-short most tag (Err fault) found short is = cc

if_some-lt : (most : ℕ) (found : Option (List ℕ)) → most < 256 → IfSome found (λ value. length value ≤ most) → IfSome found (λ value. length value < 256)
if_some-lt most None few short = tt
if_some-lt most (Some value) few short = omega arith

pub found_within : (bytes : List ℕ) (tag : ℕ) (found : Option (List ℕ)) → length bytes < 256 → found_value tag (items_of bytes) ≡ Ok found
    → IfSome found (λ value. length value < 256)
found_within bytes tag found few is =
    let top : length bytes ≤ length bytes = omega arith in
    if_some-lt (length bytes) found few (found-short (length bytes) tag (items_of bytes) found (item_values_short (length bytes) bytes top) is)
