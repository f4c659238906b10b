-- What one answer more makes of the directory.
use Rattle.std.proofs.Common.{◌≡◌, ◌≤◌, ◌<◌, ℕ, ◌+◌, ◌++◌, ◌==◌, ◌&&◌, nat_le, Bool, true, false, List, [], ◌∷◌, Some, None, Ok, Err, fold, refl, sym, ap, ◌∙◌, arith, if◌then◌else◌, is_some, IfSome}
use Rattle.std.specs.Prelude.{⊤}
use Rattle.std.specs.declared.option.Option.{Option}
use Rattle.std.specs.declared.result.Result.{Result}
use Rattle.std.proofs.lemmas.Bool.Decides.{nat_tests}
use Rattle.apdu_core.specs.Command.{record_command}
use Rattle.apdu_core.specs.Response.{ResponseData, response_of}
use Rattle.apdu_core.specs.Status.{no_error, function_not_supported}
use Rattle.app_select.specs.Candidates.{CandidateData, candidates}
use Rattle.app_select.specs.Fci.{fci_of}
use Rattle.app_select.specs.Said.{select_command}
use Rattle.app_select.proofs.Ranks.{none_found}
use Rattle.ber_tlv.specs.Direct.{first_value, sole_value}
use Rattle.ber_tlv.specs.Item.{ItemData}
use Rattle.ber_tlv.specs.Left.{items_of}
use Rattle.ber_tlv.specs.declared.item.TlvFault.{TlvFault}
use Rattle.emv_dict.specs.Progress.{Progress, Wants, Stopped}
use Rattle.emv_dict.specs.declared.ending.Cause.TheVariants.{Answer, CardBlocked}
use Rattle.emv_dict.specs.declared.purchase.AidRow.{AidRow}
use Rattle.pse_directory.specs.Directory.{kept_candidates, listed_in, done, told, records, directory}
use Rattle.emv_dict.specs.Name.{directory_name}
use Rattle.pse_directory.specs.Entries.{EntryData}
use Rattle.pse_directory.specs.Keeping.{candidates_with, with_entries}
use Rattle.pse_directory.specs.Left.{PlaceData, AtName, AtRecord, DirectoryData, directory_left_at, directory_left}
use Rattle.pse_directory.specs.Said as said
use Rattle.pse_directory.specs.Said.{NameSaid, RecordSaid, Unreadable, Past, Holds, Faulty, name_said, record_said, file_number, directory_file_in, file_in_proprietary, file_in_items, file_in_template, directory_file, said_file, name_response}
use Rattle.pse_directory.proofs.Entering.{entries_kept}
use Rattle.pse_directory.proofs.Kept.{kept_candidates-fold, kept_candidates-kept_candidates}

told_same : (what : RecordSaid) (one two : List CandidateData) (on another : List EntryData → Progress (List CandidateData)) (rest : List (List ℕ))
    → one ≡ two → ((entries : List EntryData) → on entries ≡ another entries) → told what one on rest ≡ told what two another rest
told_same Unreadable one two on another rest so_far more = refl
told_same Past one two on another rest so_far more = ap (λ (found : List CandidateData). done found rest) so_far
told_same (Holds entries) one two on another rest so_far more = more entries
told_same Faulty one two on another rest so_far more = refl

either_same : (test : Bool) (a b c d : Progress (List CandidateData)) → a ≡ b → c ≡ d → (if test then a else c) ≡ (if test then b else d)
either_same true a b c d first later = first
either_same false a b c d first later = later

kept_candidates-more : (one two more : List CandidateData) → kept_candidates one ≡ kept_candidates two → kept_candidates (one ++ more) ≡ kept_candidates (two ++ more)
kept_candidates-more one two more same =
    kept_candidates-fold one more ∙ ap (λ (all : List CandidateData). fold candidates_with all more) same ∙ sym (kept_candidates-fold two more)

-- reading on rests on what is kept alone
records-same : (rows : List AidRow) (confirm : Bool) (sfi number : ℕ) (one two : List CandidateData) (answers : List (List ℕ)) → kept_candidates one ≡ kept_candidates two
    → records rows confirm sfi number one answers ≡ records rows confirm sfi number two answers
unfolding records
records-same rows confirm sfi number one two [] same = refl
records-same rows confirm sfi number one two (answer ∷ later) same =
    told_same (record_said answer) (candidates confirm (kept_candidates one)) (candidates confirm (kept_candidates two)) _ _ later (ap (λ (all : List CandidateData). candidates confirm all) same)
    (λ entries.
    let more = kept_candidates-more one two (listed_in rows entries) same in
    either_same (number == 255) _ _ _ _ (ap (λ (all : List CandidateData). done (candidates confirm all) later) more)
    (records-same rows confirm sfi (number + 1) (one ++ listed_in rows entries) (two ++ listed_in rows entries) later more))

module _ (rows : List AidRow) (confirm : Bool) (sfi number : ℕ) (found : List CandidateData) (answer : List ℕ) where
  pub record_unread : record_said answer ≡ Unreadable → (later : List (List ℕ)) → records rows confirm sfi number found (answer ∷ later) ≡ Stopped Answer
  unfolding records
  record_unread is later = rw is refl

  pub record_past : record_said answer ≡ Past → kept_candidates found ≡ found → (new : List CandidateData) → new ≡ found → (later : List (List ℕ))
      → records rows confirm sfi number found (answer ∷ later) ≡ done (candidates confirm new) later
  unfolding records
  record_past is same new new_is later = rw (is, same, new_is) refl

  pub record_faulty : record_said answer ≡ Faulty → (later : List (List ℕ)) → records rows confirm sfi number found (answer ∷ later) ≡ done (candidates confirm []) later
  unfolding records
  record_faulty is later = rw (is, none_found confirm) refl

  held : (entries : List EntryData) (new : List CandidateData) → kept_candidates found ≡ found → new ≡ with_entries rows found entries → new ≡ kept_candidates (found ++ listed_in rows entries)
  held entries new same new_is = new_is ∙ entries_kept rows found entries same

  pub new_kept : (entries : List EntryData) (new : List CandidateData) → kept_candidates found ≡ found → new ≡ with_entries rows found entries → kept_candidates new ≡ new
  new_kept entries new same new_is =
      let is = held entries new same new_is in
      ap kept_candidates is ∙ kept_candidates-kept_candidates (found ++ listed_in rows entries) ∙ sym is

  pub record_last : (entries : List EntryData) (new : List CandidateData) → record_said answer ≡ Holds entries → (number == 255) ≡ true → kept_candidates found ≡ found → new ≡ with_entries rows found entries
      → (later : List (List ℕ)) → records rows confirm sfi number found (answer ∷ later) ≡ done (candidates confirm new) later
  unfolding records
  record_last entries new is last same new_is later =
      let all = held entries new same new_is in
      rw (is, last, all) refl

  pub record_on : (entries : List EntryData) (new : List CandidateData) → record_said answer ≡ Holds entries → (number == 255) ≡ false → kept_candidates found ≡ found → new ≡ with_entries rows found entries
      → (later : List (List ℕ)) → records rows confirm sfi number found (answer ∷ later) ≡ records rows confirm sfi (number + 1) new later
  unfolding records
  record_on entries new is last same new_is later =
      let all = held entries new same new_is in
      rw (is, last)
      (records-same rows confirm sfi (number + 1) (found ++ listed_in rows entries) new later
      (sym (kept_candidates-kept_candidates (found ++ listed_in rows entries)) ∙ ap kept_candidates (sym all)))

module _ (rows : List AidRow) (confirm : Bool) (answer : List ℕ) where
  pub name_unread : name_said answer ≡ said.NoResponse → (later : List (List ℕ)) → directory rows confirm (answer ∷ later) ≡ Stopped Answer
  unfolding directory
  name_unread is later = rw is refl

  pub name_blocked : name_said answer ≡ said.Blocked → (later : List (List ℕ)) → directory rows confirm (answer ∷ later) ≡ Stopped CardBlocked
  unfolding directory
  name_blocked is later = rw is refl

  pub name_file : (sfi : ℕ) → name_said answer ≡ said.Gives sfi → (later : List (List ℕ)) → directory rows confirm (answer ∷ later) ≡ records rows confirm sfi 1 [] later
  unfolding directory
  name_file sfi is later = rw is refl

  pub name_nothing : name_said answer ≡ said.Nothing → (later : List (List ℕ)) → directory rows confirm (answer ∷ later) ≡ done (candidates confirm []) later
  unfolding directory
  name_nothing is later = rw (is, none_found confirm) refl

-- a directory always asks before its next answer
wants_at : (rows : List AidRow) (confirm : Bool) (place : PlaceData) → (command : List ℕ) × (directory_left_at rows confirm place [] ≡ Wants command)
unfolding directory records
wants_at rows confirm AtName = (select_command 0 directory_name, refl)
wants_at rows confirm (AtRecord sfi number found) = (record_command sfi number, refl)

pub wants_more : (state : DirectoryData) → (command : List ℕ) × (directory_left state [] ≡ Wants command)
wants_more state = wants_at state.rows state.confirm state.place

-- the file of a directory is one of 1 to 10
abbrev Fits : Option ℕ → Type 0
Fits file = IfSome file (λ sfi. sfi ≤ 10)

number_by : (sfi : ℕ) (test : Bool) → (nat_le 1 sfi && nat_le sfi 10) ≡ test → Fits (if test then Some sfi else None)
number_by sfi true is = grind (arith, nat_tests)
number_by sfi false is = tt

number_fits : (value : Option (List ℕ)) → Fits (file_number value)
number_fits None = tt
number_fits (Some []) = tt
number_fits (Some (sfi ∷ [])) = number_by sfi (nat_le 1 sfi && nat_le sfi 10) refl
number_fits (Some (sfi ∷ other ∷ bytes)) = tt

file_fits : (read : Result (List ItemData) TlvFault) → Fits (directory_file_in read)
file_fits (Ok items) = number_fits (first_value 0x88 items)
file_fits (Err fault) = tt

proprietary_fits : (template : Option (List ℕ)) → Fits (file_in_proprietary template)
proprietary_fits None = tt
proprietary_fits (Some value) = file_fits (items_of value)

items_fit : (read : Result (List ItemData) TlvFault) → Fits (file_in_items read)
items_fit (Ok items) = proprietary_fits (first_value 0xA5 items)
items_fit (Err fault) = tt

template_fits : (template : Option (List ℕ)) → Fits (file_in_template template)
template_fits None = tt
template_fits (Some value) = items_fit (items_of value)

either_fits : (test : Bool) (file : Option ℕ) → Fits file → Fits (if test then file else None)
either_fits true file fits = fits
either_fits false file fits = tt

NameFits : NameSaid → Type 0
NameFits said.NoResponse = ⊤
NameFits said.Blocked = ⊤
NameFits (said.Gives sfi) = sfi ≤ 10
NameFits said.Nothing = ⊤

said_fits : (file : Option ℕ) → Fits file → NameFits (said_file file)
unfolding NameFits
said_fits None fits = tt
said_fits (Some sfi) fits = fits

either_name : (test : Bool) (first later : NameSaid) → NameFits first → NameFits later → NameFits (if test then first else later)
either_name true first later p q = p
either_name false first later p q = q

response_fits : (response : Option ResponseData) → NameFits (name_response response)
unfolding NameFits
response_fits None = tt
response_fits (Some answer) =
    either_name (answer.status == function_not_supported) said.Blocked _ tt
    (either_name (answer.status == no_error) _ said.Nothing
    (said_fits (directory_file answer.body) (either_fits (is_some (fci_of answer.body)) _ (template_fits (sole_value 0x6F (items_of answer.body))))) tt)

pub file_small : (answer : List ℕ) (sfi : ℕ) → name_said answer ≡ said.Gives sfi → sfi ≤ 10
unfolding name_said NameFits
file_small answer sfi is = rw is at (response_fits (response_of answer))
