-- What an answer says, as a contract sees it.
use Rattle.std.specs.Prelude.{◌≡◌, List}
use Rattle.app_select.specs.Candidates.{CandidateData}
use Rattle.emv_dict.specs.declared.purchase.AidRow.{AidRow}
use Rattle.pse_directory.specs.Entries.{EntryData}
use Rattle.pse_directory.specs.Keeping.{with_entries}
use Rattle.pse_directory.specs.Said as spec
use Rattle.pse_directory.specs.declared.name.NameSaid.{NameSaid}
use Rattle.pse_directory.specs.declared.name.NameSaid.TheVariants as name
use Rattle.pse_directory.specs.declared.record.RecordAnswer.{RecordAnswer}
use Rattle.pse_directory.specs.declared.record.RecordAnswer.TheVariants as told

abbrev pub seen_name : NameSaid → spec.NameSaid
seen_name name.NoResponse = spec.NoResponse
seen_name name.Blocked = spec.Blocked
seen_name (name.Gives sfi) = spec.Gives sfi
seen_name name.Nothing = spec.Nothing

-- what the answer for a record says, with the candidates before it and behind it
abbrev pub RecordTold : List AidRow → List CandidateData → List CandidateData → spec.RecordSaid → RecordAnswer → Type 0
RecordTold rows old new said told.Unreadable = said ≡ spec.Unreadable
RecordTold rows old new said told.Past = (said ≡ spec.Past) × (new ≡ old)
RecordTold rows old new said told.Added = (entries : List EntryData) × (said ≡ spec.Holds entries) × (new ≡ with_entries rows old entries)
RecordTold rows old new said told.Faulty = said ≡ spec.Faulty
