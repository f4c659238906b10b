-- The directory of a card, read again: its file control information, the entry of an application, and that an application
-- is no directory.
use Rattle.std.proofs.Common.{◌≡◌, ℕ, ◌+◌, ◌<◌, ◌≤◌, ◌==◌, ◌&&◌, nat_le, Bool, true, false, IsTrue, List, [], ◌∷◌, ◌++◌, length, Option, Some, None, Ok, refl, sym, ap, ◌∙◌, arith, append_assoc, append-nil, length-append, if◌then◌else◌}
use Rattle.std.specs.Prelude.{is_some}
use Rattle.std.proofs.lemmas.Bool.Decides.{nat_tests}
use Rattle.app_select.specs.Fci.{FciData, fci_of, fci_in, proprietary_in, fci_in_template, fci_with}
use Rattle.auth_message.proofs.Spelled.{are_tags, placed, optional_last}
use Rattle.auth_message.specs.Spelling.{optional, spelled}
use Rattle.ber_tlv.proofs.ReadAgain.{both}
use Rattle.ber_tlv.proofs.SoleItem.{sole_value-written}
use Rattle.ber_tlv.specs.Direct.{sole_value}
use Rattle.ber_tlv.specs.Left.{items_of}
use Rattle.ber_tlv.specs.Written.{written}
use Rattle.card_files.specs.AppRules.{is_name}
use Rattle.card_files.specs.Control.{fci_bytes, proprietary, log_entry, written_some, value_of_byte}
use Rattle.card_files.specs.Directory.{directory_fci, directory_record_bytes}
use Rattle.emv_dict.specs.Name.{directory_name}
use Rattle.card_files.specs.ImageRules.{KeepsRules}
use Rattle.card_files.specs.Views.{AppData}
use Rattle.dialogue_laws.proofs.Fields.{fields_again}
use Rattle.dialogue_laws.proofs.Shown.{own_fields, fci_data, proprietary_items, template, template_again, fci_again, some_spelled, written_few, priority_size}
use Rattle.pse_directory.specs.Entries.{EntryData, application_name, entries_in_template, entries_in}
use Rattle.pse_directory.specs.Said.{file_number, directory_file_in, file_in_items, file_in_template, directory_file, said_template, RecordSaid, Holds}

-- what a terminal reads in the directory's file control information as in an application's
abbrev pub directory_data : FciData
directory_data = record { name = directory_name; priority = None; pdol = None }

abbrev own : ℕ → List ℕ
own sfi = written 0x88 (sfi ∷ [])

own_items : (sfi : ℕ) → items_of (own sfi) ≡ Ok (placed 0 ((0x88, sfi ∷ []) ∷ []))
own_items sfi = fields_again ((0x88, sfi ∷ []) ∷ []) (own sfi) refl (sym (append-nil (own sfi)))

abbrev parts : ℕ → List ℕ
parts sfi = written 0x84 directory_name ++ written 0xA5 (own sfi)

parts_items : (sfi : ℕ) → items_of (parts sfi) ≡ Ok (placed 0 ((0x84, directory_name) ∷ (0xA5, own sfi) ∷ []))
parts_items sfi =
    fields_again ((0x84, directory_name) ∷ (0xA5, own sfi) ∷ []) (parts sfi) refl (ap (λ (bs : List ℕ). written 0x84 directory_name ++ bs) (sym (append-nil (written 0xA5 (own sfi)))))

whole_value : (sfi : ℕ) → sole_value 0x6F (items_of (directory_fci sfi)) ≡ Some (parts sfi)
unfolding directory_fci
whole_value sfi = sole_value-written 0x6F (directory_fci sfi) (parts sfi) refl refl

own_in : (sfi : ℕ) → proprietary_in (items_of (own sfi)) ≡ Some (record { priority = None; pdol = None })
unfolding proprietary_in
own_in sfi = ap proprietary_in (own_items sfi)

pub directory_again : (sfi : ℕ) → fci_of (directory_fci sfi) ≡ Some directory_data
unfolding fci_of fci_in
directory_again sfi =
    ap fci_in_template (whole_value sfi)
    ∙ ap fci_in (parts_items sfi)
    ∙ ap (fci_with (Some directory_name)) (own_in sfi)

pub directory_short : (sfi : ℕ) → length (directory_fci sfi) ≤ 256
unfolding directory_fci written
directory_short sfi = omega arith

-- it names its file
pub directory_file_again : (sfi : ℕ) → 1 ≤ sfi → sfi ≤ 10 → directory_file (directory_fci sfi) ≡ Some sfi
directory_file_again sfi some few =
    let low : nat_le 1 sfi ≡ true = grind (arith, nat_tests) in
    let high : nat_le sfi 10 ≡ true = grind (arith, nat_tests) in
    let number : file_number (Some (sfi ∷ [])) ≡ Some sfi = rw (low, high) refl in
    rw (directory_again sfi)
    (ap file_in_template (whole_value sfi) ∙ ap file_in_items (parts_items sfi) ∙ ap directory_file_in (own_items sfi) ∙ number)

-- an application names none
no_file : (label : List ℕ) (priority : Option ℕ) (pdol log : Option (List ℕ)) → directory_file_in (Ok (placed 0 (own_fields label (value_of_byte priority) pdol log))) ≡ None
no_file label None None None = refl
no_file label None None (Some e) = refl
no_file label (Some p) None None = refl
no_file label (Some p) None (Some e) = refl
no_file label None (Some l) None = refl
no_file label None (Some l) (Some e) = refl
no_file label (Some p) (Some l) None = refl
no_file label (Some p) (Some l) (Some e) = refl

pub no_directory : (a : AppData) → KeepsRules a → directory_file (fci_bytes a) ≡ None
unfolding fci_bytes
no_directory a rules =
    rw (fci_again a rules)
    (ap file_in_template (sole_value-written 0x6F (fci_bytes a) (template a) refl refl)
    ∙ ap file_in_items (template_again a)
    ∙ ap directory_file_in (proprietary_items a)
    ∙ no_file a.label a.priority a.pdol (log_entry a))

-- the record of an application
abbrev pub entry_data : AppData → EntryData
entry_data a = record { name = a.name; priority = a.priority }

abbrev entry_fields : AppData → List (ℕ × List ℕ)
entry_fields a = (0x4F, a.name) ∷ (0x50, a.label) ∷ optional 0x87 (value_of_byte a.priority)

abbrev entry : AppData → List ℕ
entry a = written 0x4F a.name ++ written 0x50 a.label ++ written_some 0x87 (value_of_byte a.priority)

entry_items : (a : AppData) → items_of (entry a) ≡ Ok (placed 0 (entry_fields a))
entry_items a =
    fields_again (entry_fields a) (entry a) (optional_last 0x87 (value_of_byte a.priority) refl)
    (append_assoc (written 0x4F a.name) (written 0x50 a.label) (written_some 0x87 (value_of_byte a.priority))
    ∙ ap (λ (bs : List ℕ). written 0x4F a.name ++ (written 0x50 a.label ++ bs)) (some_spelled 0x87 (value_of_byte a.priority)))

named : (name : List ℕ) → IsTrue (is_name name) → application_name (Some name) ≡ Some name
named name is =
    let sizes = both (nat_le 5 (length name)) (nat_le (length name) 16) is in
    rw (sizes.0, sizes.1) refl

entry_by : (name label : List ℕ) (priority : Option ℕ) → application_name (Some name) ≡ Some name
    → entries_in_template (Ok (placed 0 ((0x4F, name) ∷ (0x50, label) ∷ optional 0x87 (value_of_byte priority)))) ≡ Some (record { name = name; priority = priority } ∷ [])
entry_by name label None is = rw is refl
entry_by name label (Some p) is = rw is refl

template_items : (a : AppData) → items_of (written 0x61 (entry a)) ≡ Ok (placed 0 ((0x61, entry a) ∷ []))
template_items a = fields_again ((0x61, entry a) ∷ []) (written 0x61 (entry a)) refl (sym (append-nil (written 0x61 (entry a))))

record_again : (a : AppData) → KeepsRules a → entries_in (items_of (written 0x61 (entry a))) ≡ Some (entry_data a ∷ [])
record_again a rules =
    let read : entries_in_template (items_of (entry a)) ≡ Some (entry_data a ∷ []) =
    ap entries_in_template (entry_items a) ∙ entry_by a.name a.label a.priority (named a.name rules.name) in
    ap entries_in (template_items a) ∙ rw read refl

pub entry_again : (a : AppData) → KeepsRules a → said_template (sole_value 0x70 (items_of (directory_record_bytes a))) ≡ Holds (entry_data a ∷ [])
unfolding directory_record_bytes
entry_again a rules =
    ap said_template (sole_value-written 0x70 (directory_record_bytes a) (written 0x61 (entry a)) refl refl)
    ∙ rw (record_again a rules) refl

pub entry_short : (a : AppData) → KeepsRules a → length (directory_record_bytes a) ≤ 256
unfolding directory_record_bytes
entry_short a rules =
    let named = both (nat_le 5 (length a.name)) (nat_le (length a.name) 16) rules.name in
    let name : length a.name ≤ 16 = grind (arith, nat_tests, named.1) in
    let labelled = both _ (nat_le (length a.label) 16) (both _ _ rules.label).0 in
    let label : length a.label ≤ 16 = grind (arith, nat_tests, labelled.1) in
    let size : length (entry a) ≤ 39 =
    omega (
      arith,
      length-append (written 0x4F a.name ++ written 0x50 a.label) (written_some 0x87 (value_of_byte a.priority)),
      length-append (written 0x4F a.name) (written 0x50 a.label),
      written_few 0x4F a.name (omega arith),
      written_few 0x50 a.label (omega arith),
      priority_size a.priority,
    ) in
    let inner : length (written 0x61 (entry a)) ≤ 41 = omega (arith, size, written_few 0x61 (entry a) (omega arith)) in
    omega (arith, inner, written_few 0x70 (written 0x61 (entry a)) (omega arith))
