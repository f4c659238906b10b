-- The file control information of an application, read again.
use Rattle.std.proofs.Common.{◌≡◌, ℕ, ◌+◌, ◌<◌, ◌≤◌, nat_le, nat_lt, Bool, true, false, IsTrue, List, [], ◌∷◌, ◌++◌, length, Option, Some, None, Ok, refl, sym, ap, ◌∙◌, arith, if◌then◌else◌, ◌==◌, ◌||◌, append_assoc, append-nil, length-append}
use Rattle.std.specs.Prelude.{is_some}
use Rattle.std.proofs.lemmas.Bool.Decides.{nat_tests}
use Rattle.app_select.specs.Fci.{FciData, fci_of, fci_in, proprietary_in, fci_in_template, fci_with, fitting_name}
use Rattle.auth_message.proofs.Spelled.{are_tags, placed, optional_front, optional_last, spelled_append}
use Rattle.auth_message.specs.Spelling.{optional, spelled}
use Rattle.ber_tlv.proofs.ReadAgain.{both}
use Rattle.ber_tlv.proofs.SoleItem.{sole_value-written}
use Rattle.ber_tlv.specs.Left.{items_of}
use Rattle.ber_tlv.specs.Written.{written, tag_bytes, length_bytes}
use Rattle.card_files.specs.AppRules.{is_name}
use Rattle.card_files.specs.Control.{fci_bytes, proprietary, written_some, value_of_byte, log_entry}
use Rattle.card_files.specs.ImageRules.{KeepsRules}
use Rattle.card_files.specs.Lists.{is_optional_pdol, entries_within, leaves_room}
use Rattle.card_files.specs.Views.{AppData}
use Rattle.dialogue_laws.proofs.Fields.{fields_again}

abbrev pub own_fields : List ℕ → Option (List ℕ) → Option (List ℕ) → Option (List ℕ) → List (ℕ × List ℕ)
own_fields label priority pdol log = (0x50, label) ∷ (optional 0x87 priority ++ (optional 0x9F38 pdol ++ optional 0xBF0C log))

pub some_spelled : (tag : ℕ) (value : Option (List ℕ)) → written_some tag value ≡ spelled (optional tag value)
some_spelled tag None = refl
some_spelled tag (Some value) = sym (append-nil (written tag value))

own_spelled : (label : List ℕ) (priority pdol log : Option (List ℕ)) →
    written 0x50 label ++ written_some 0x87 priority ++ written_some 0x9F38 pdol ++ written_some 0xBF0C log ≡ spelled (own_fields label priority pdol log)
own_spelled label priority pdol log =
    let byte : List ℕ = spelled (optional 0x87 priority) in
    let list : List ℕ = spelled (optional 0x9F38 pdol) in
    let entry : List ℕ = spelled (optional 0xBF0C log) in
    let behind : spelled (optional 0x87 priority ++ (optional 0x9F38 pdol ++ optional 0xBF0C log)) ≡ byte ++ (list ++ entry) =
    spelled_append (optional 0x87 priority) (optional 0x9F38 pdol ++ optional 0xBF0C log)
    ∙ ap (λ (bs : List ℕ). byte ++ bs) (spelled_append (optional 0x9F38 pdol) (optional 0xBF0C log)) in
    ap (λ (bs : List ℕ). written 0x50 label ++ bs ++ written_some 0x9F38 pdol ++ written_some 0xBF0C log) (some_spelled 0x87 priority)
    ∙ ap (λ (bs : List ℕ). written 0x50 label ++ byte ++ bs ++ written_some 0xBF0C log) (some_spelled 0x9F38 pdol)
    ∙ ap (λ (bs : List ℕ). written 0x50 label ++ byte ++ list ++ bs) (some_spelled 0xBF0C log)
    ∙ append_assoc (written 0x50 label ++ byte) list entry
    ∙ append_assoc (written 0x50 label) byte (list ++ entry)
    ∙ ap (λ (bs : List ℕ). written 0x50 label ++ bs) (sym behind)

own_tags : (label : List ℕ) (priority pdol log : Option (List ℕ)) → are_tags (own_fields label priority pdol log) ≡ true
own_tags label priority pdol log =
    optional_front 0x87 priority (optional 0x9F38 pdol ++ optional 0xBF0C log) refl
    (optional_front 0x9F38 pdol (optional 0xBF0C log) refl (optional_last 0xBF0C log refl))

own_in : (label : List ℕ) (priority : Option ℕ) (pdol log : Option (List ℕ))
    → proprietary_in (Ok (placed 0 (own_fields label (value_of_byte priority) pdol log))) ≡ Some (record { priority = priority; pdol = pdol })
unfolding proprietary_in
own_in label None None None = refl
own_in label None None (Some e) = refl
own_in label (Some p) None None = refl
own_in label (Some p) None (Some e) = refl
own_in label None (Some l) None = refl
own_in label None (Some l) (Some e) = refl
own_in label (Some p) (Some l) None = refl
own_in label (Some p) (Some l) (Some e) = refl

-- the name, the priority indicator and the object list
abbrev pub fci_data : AppData → FciData
fci_data a = record { name = a.name; priority = a.priority; pdol = a.pdol }

pub proprietary_items : (a : AppData) → items_of (proprietary a) ≡ Ok (placed 0 (own_fields a.label (value_of_byte a.priority) a.pdol (log_entry a)))
unfolding proprietary
proprietary_items a =
    fields_again (own_fields a.label (value_of_byte a.priority) a.pdol (log_entry a)) (proprietary a) (own_tags a.label (value_of_byte a.priority) a.pdol (log_entry a))
    (own_spelled a.label (value_of_byte a.priority) a.pdol (log_entry a))

proprietary_again : (a : AppData) → proprietary_in (items_of (proprietary a)) ≡ Some (record { priority = a.priority; pdol = a.pdol })
proprietary_again a = ap proprietary_in (proprietary_items a) ∙ own_in a.label a.priority a.pdol (log_entry a)

abbrev pub template : AppData → List ℕ
template a = written 0x84 a.name ++ written 0xA5 (proprietary a)

pub template_again : (a : AppData) → items_of (template a) ≡ Ok (placed 0 ((0x84, a.name) ∷ (0xA5, proprietary a) ∷ []))
template_again a =
    fields_again ((0x84, a.name) ∷ (0xA5, proprietary a) ∷ []) (template a) refl (ap (λ (bs : List ℕ). written 0x84 a.name ++ bs) (sym (append-nil (written 0xA5 (proprietary a)))))

fits : (name : List ℕ) → IsTrue (is_name name) → fitting_name (Some name) ≡ Some name
fits name is =
    let sizes = both _ (nat_le (length name) 16) is in
    let some : nat_le 1 (length name) ≡ true = grind (arith, nat_tests, sizes.0) in
    rw (some, sizes.1) refl

template_in : (a : AppData) → IsTrue (is_name a.name) → fci_in (Ok (placed 0 ((0x84, a.name) ∷ (0xA5, proprietary a) ∷ []))) ≡ Some (fci_data a)
unfolding fci_in
template_in a is =
    ap (λ (name : Option (List ℕ)). fci_with name (proprietary_in (items_of (proprietary a)))) (fits a.name is)
    ∙ ap (fci_with (Some a.name)) (proprietary_again a)

pub fci_again : (a : AppData) → KeepsRules a → fci_of (fci_bytes a) ≡ Some (fci_data a)
unfolding fci_of fci_bytes
fci_again a rules =
    ap fci_in_template (sole_value-written 0x6F (fci_bytes a) (template a) refl refl)
    ∙ ap fci_in (template_again a) ∙ template_in a rules.name

-- how long an object gets
pub written_few : (tag : ℕ) (value : List ℕ) → length value < 128 → length (written tag value) ≡ length (tag_bytes tag) + 1 + length value
unfolding written
written_few tag value few =
    let test : (nat_lt (length value) 128) ≡ true = grind (arith, nat_tests) in
    rw test (simp length-append (omega arith))

two_most : (count : ℕ) → count < 256 → length (length_bytes count) ≤ 2
two_most count few = grind (arith, nat_tests)

written_less : (tag : ℕ) (value : List ℕ) → length value < 256 → length (written tag value) ≤ length (tag_bytes tag) + 2 + length value
unfolding written
written_less tag value few =
    simp length-append (omega (arith, two_most (length value) few))

pub priority_size : (priority : Option ℕ) → length (written_some 0x87 (value_of_byte priority)) ≤ 3
priority_size None = omega arith
priority_size (Some byte) = omega (arith, written_few 0x87 (byte ∷ []) (omega arith))

within_by : (most : ℕ) (bytes : List ℕ) (few : Bool) → nat_le (length bytes) most ≡ few → IsTrue (is_some (entries_within most bytes)) → length bytes ≤ most
unfolding entries_within
within_by most bytes true is readable = grind (arith, nat_tests)
within_by most bytes false is readable = absurd (cc (rw is at readable))

entry_size : (none : Bool) (file most : ℕ) → length (written_some 0xBF0C (if none then None else Some (written 0x9F4D (file ∷ most ∷ [])))) ≤ 8
unfolding written
entry_size true file most = omega arith
entry_size false file most = omega arith

-- the object list and the log's entry
behind_size : (log file : ℕ) (pdol : Option (List ℕ)) → IsTrue (is_optional_pdol pdol) → IsTrue (leaves_room log pdol)
    → length (written_some 0x9F38 pdol) + length (written_some 0xBF0C (if log == 0 then None else Some (written 0x9F4D (file ∷ log ∷ [])))) ≤ 211
behind_size log file None is room = omega (arith, entry_size (log == 0) file log)
behind_size log file (Some list) is room = by (log == 0) room
  where
    most : length list ≤ 200
    most = within_by 200 list (nat_le (length list) 200) refl is

    by : (none : Bool) → IsTrue (none || nat_lt (length list) 200)
        → length (written 0x9F38 list) + length (written_some 0xBF0C (if none then None else Some (written 0x9F4D (file ∷ log ∷ [])))) ≤ 211
    by true room = let few : length list < 256 = omega (arith, most) in omega (arith, written_less 0x9F38 list few, most)
    by false room =
        let few : length list < 200 = grind (arith, nat_tests, room) in
        let some : length list < 256 = omega arith in
        omega (arith, written_less 0x9F38 list some, entry_size false file log, few)

pub fci_short : (a : AppData) → KeepsRules a → length (fci_bytes a) ≤ 256
unfolding fci_bytes proprietary
fci_short a rules =
    let named = both _ (nat_le (length a.name) 16) rules.name in
    let name : length a.name ≤ 16 = grind (arith, nat_tests, named.1) in
    let labelled = both _ (nat_le (length a.label) 16) (both _ _ rules.label).0 in
    let label : length a.label ≤ 16 = grind (arith, nat_tests, labelled.1) in
    let own : length (proprietary a) ≤ 232 =
    omega (
      arith,
      length-append (written 0x50 a.label ++ written_some 0x87 (value_of_byte a.priority) ++ written_some 0x9F38 a.pdol) (written_some 0xBF0C (log_entry a)),
      length-append (written 0x50 a.label ++ written_some 0x87 (value_of_byte a.priority)) (written_some 0x9F38 a.pdol),
      length-append (written 0x50 a.label) (written_some 0x87 (value_of_byte a.priority)),
      written_few 0x50 a.label (omega arith),
      priority_size a.priority,
      behind_size a.log a.log_sfi a.pdol rules.pdol rules.room,
    ) in
    let inner : length (written 0xA5 (proprietary a)) ≤ 235 = omega (arith, own, written_less 0xA5 (proprietary a) (omega arith)) in
    let whole : length (template a) ≤ 253 =
    omega (arith, inner, length-append (written 0x84 a.name) (written 0xA5 (proprietary a)), written_few 0x84 a.name (omega arith)) in
    omega (arith, whole, written_less 0x6F (template a) (omega arith))
