-- The entries of a record, one behind another.
use Rattle.std.proofs.Common.{◌≡◌, ℕ, ◌++◌, List, [], ◌∷◌, Bool, true, false, Some, None, Ok, Err, fold, refl, sym, ap, ◌∙◌, if◌then◌else◌, option_map, filter_map}
use Rattle.std.specs.declared.option.Option.{Option}
use Rattle.std.specs.declared.result.Result.{Result}
use Rattle.std.specs.List.{cons_option}
use Rattle.app_select.specs.Candidates.{CandidateData}
use Rattle.ber_tlv.specs.Item.{ItemData}
use Rattle.ber_tlv.specs.Left.{then_left, items_of}
use Rattle.ber_tlv.specs.declared.item.TlvFault.{TlvFault}
use Rattle.emv_dict.specs.declared.purchase.AidRow.{AidRow}
use Rattle.pse_directory.specs.Directory.{kept_candidates, listed_by, listed_in}
use Rattle.pse_directory.specs.Entries.{EntryData, entries_in_template, entries_in_object, joined_entries, entries_in_items, entries_in}
use Rattle.pse_directory.specs.Keeping.{candidates_with, with_candidate, with_listed, with_entries}
use Rattle.pse_directory.specs.Said.{Holds, said_entries}
use Rattle.pse_directory.proofs.Kept.{kept_candidates-fold}

-- what is left of a record, with the candidates so far
abbrev pub read_on : List AidRow → List CandidateData → Result (List ItemData) TlvFault → Option (List CandidateData)
read_on rows all read = option_map (with_entries rows all) (entries_in read)

fold-append : (rows : List AidRow) (all : List CandidateData) (one later : List EntryData) → with_entries rows all (one ++ later) ≡ with_entries rows (with_entries rows all one) later
fold-append rows all [] later = refl
fold-append rows all (entry ∷ one) later = fold-append rows (with_listed rows all entry) one later

joined_fold : (rows : List AidRow) (all : List CandidateData) (one : List EntryData) (later : Option (List EntryData))
    → option_map (with_entries rows all) (joined_entries (Some one) later) ≡ option_map (with_entries rows (with_entries rows all one)) later
joined_fold rows all one None = refl
joined_fold rows all one (Some later) = ap Some (fold-append rows all one later)

-- an object of a record that is read
read_one : (rows : List AidRow) (all : List CandidateData) (item : ItemData) (read : Result (List ItemData) TlvFault) (entries : List EntryData)
    → entries_in_object item ≡ Some entries → read_on rows all (then_left item read) ≡ read_on rows (with_entries rows all entries) read
read_one rows all item (Ok items) entries is = rw is (joined_fold rows all entries (entries_in_items items))
read_one rows all item (Err fault) entries is = refl

-- one of another tag
pub other_passed : (rows : List AidRow) (all : List CandidateData) (item : ItemData) (read : Result (List ItemData) TlvFault)
    → entries_in_object item ≡ Some [] → read_on rows all (then_left item read) ≡ read_on rows all read
other_passed rows all item read is = read_one rows all item read [] is

-- a template 61
added_by_entries : (rows : List AidRow) (all new : List CandidateData) (item : ItemData) (read : Result (List ItemData) TlvFault) (entries : Option (List EntryData))
    → entries_in_object item ≡ entries → option_map (with_entries rows all) entries ≡ Some new → read_on rows all (then_left item read) ≡ read_on rows new read
added_by_entries rows all new item read None is taken = cc
added_by_entries rows all new item read (Some entries) is taken =
    let same : with_entries rows all entries ≡ new = cc in
    read_one rows all item read entries is ∙ ap (λ (among : List CandidateData). read_on rows among read) same

pub entry_added : (rows : List AidRow) (all new : List CandidateData) (item : ItemData) (read : Result (List ItemData) TlvFault)
    → option_map (with_entries rows all) (entries_in_object item) ≡ Some new → read_on rows all (then_left item read) ≡ read_on rows new read
entry_added rows all new item read taken = added_by_entries rows all new item read (entries_in_object item) refl taken

-- one that can't be read
pub none_made : (rows : List AidRow) (all : List CandidateData) (item : ItemData) (read : Result (List ItemData) TlvFault)
    → entries_in_object item ≡ None → read_on rows all (then_left item read) ≡ None
none_made rows all item (Ok items) is = rw is refl
none_made rows all item (Err fault) is = refl

-- none is read only where the entries can't be
none_by : (rows : List AidRow) (all : List CandidateData) (entries : Option (List EntryData)) → option_map (with_entries rows all) entries ≡ None → entries ≡ None
none_by rows all None is = refl
none_by rows all (Some entries) is = cc

pub none_of : (rows : List AidRow) (all : List CandidateData) (read : Result (List ItemData) TlvFault) → read_on rows all read ≡ None → entries_in read ≡ None
none_of rows all read is = none_by rows all (entries_in read) is

-- what the entries that were taken made of the candidates
pub held_by : (rows : List AidRow) (old new : List CandidateData) (entries : Option (List EntryData)) → option_map (with_entries rows old) entries ≡ Some new
    → (held : List EntryData) × (said_entries entries ≡ Holds held) × (new ≡ with_entries rows old held)
held_by rows old new None is = cc
held_by rows old new (Some entries) is = (entries, refl, cc)

-- the candidates of entries, one behind another
with_candidate-fold : (rows : List AidRow) (all : List CandidateData) (candidate : Option CandidateData) (later : List CandidateData)
    → fold candidates_with all (cons_option candidate later) ≡ fold candidates_with (with_candidate all candidate) later
with_candidate-fold rows all None later = refl
with_candidate-fold rows all (Some candidate) later = refl

with_entries-listed : (rows : List AidRow) (all : List CandidateData) (entries : List EntryData) → with_entries rows all entries ≡ fold candidates_with all (listed_in rows entries)
with_entries-listed rows all [] = refl
with_entries-listed rows all (entry ∷ entries) =
    with_entries-listed rows (with_listed rows all entry) entries ∙ sym (with_candidate-fold rows all (listed_by rows entry) (listed_in rows entries))

pub entries_kept : (rows : List AidRow) (all : List CandidateData) (entries : List EntryData) → kept_candidates all ≡ all → with_entries rows all entries ≡ kept_candidates (all ++ listed_in rows entries)
entries_kept rows all entries is =
    with_entries-listed rows all entries
    ∙ ap (λ (among : List CandidateData). fold candidates_with among (listed_in rows entries)) (sym is)
    ∙ sym (kept_candidates-fold all (listed_in rows entries))
