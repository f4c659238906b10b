-- An object list of GENERATE AC that was read is filled with as many bytes as the application takes.
use Rattle.std.proofs.Common.{◌≡◌, ℕ, Bool, true, false, if◌then◌else◌, ◌≤◌, nat_le, List, [], length, Option, Some, None, unwrap_or, Result, Ok, Err, refl, arith, ap, ◌∙◌}
use Rattle.std.proofs.lemmas.Bool.{le-leb, leb-true}
use Rattle.card_app.specs.OwnLists.{cdol_of}
use Rattle.card_files.specs.Lists.{entries_within, fitting, most_cdol}
use Rattle.dialogue_laws.specs.WellFormed.{wanted_total, list_total}
use Rattle.env_map.specs.Entries.{Entries, value_of}
use Rattle.object_lists.proofs.EntryPlaces.{length-dol_data}
use Rattle.object_lists.specs.CardRead.{ReadCard}
use Rattle.object_lists.specs.DolEntries.{DolEntry, dol_of, total_of}
use Rattle.object_lists.specs.Filled.{dol_data}
use Rattle.object_lists.specs.declared.dol.DolFault.{DolFault}
use Rattle.online_step.specs.Generate.{list_data}

fitting_small : (r : Result (List DolEntry) DolFault) (entries : List DolEntry) → fitting r ≡ Some entries → total_of entries ≤ 252
fitting_small (Err fault) entries e = absurd (cc e)
fitting_small (Ok read) entries e = by (nat_le (total_of read) 252) refl e
  where
    by : (b : Bool) → nat_le (total_of read) 252 ≡ b → (if b then Some read else None) ≡ Some entries → total_of entries ≤ 252
    by true small is = let same : read ≡ entries = cc in let fits : total_of read ≤ 252 = leb-true _ _ small in omega (arith, ap total_of same)
    by false large is = absurd (cc is)

within_small : (bytes : List ℕ) (b : Bool) (entries : List DolEntry) → (if b then fitting (dol_of bytes) else None) ≡ Some entries → total_of entries ≤ 252
within_small bytes true entries is = fitting_small (dol_of bytes) entries is
within_small bytes false entries is = absurd (cc is)

-- an object list of GENERATE AC wants no more than one command carries
cdol_small : (bytes : List ℕ) → total_of (cdol_of bytes) ≤ 252
unfolding entries_within
cdol_small bytes = by (entries_within most_cdol bytes) refl
  where
    by : (o : Option (List DolEntry)) → entries_within most_cdol bytes ≡ o → total_of (unwrap_or o []) ≤ 252
    by None is = omega arith
    by (Some entries) is = within_small bytes (nat_le (length bytes) most_cdol) entries is

-- the data that go with GENERATE AC
pub record IsFilled (tag : ℕ) (bytes : List ℕ) (card : ReadCard) (terminal : Entries) : Type 0 where
  pub given : List ℕ
  pub is : list_data tag card terminal ≡ Some given
  pub size : length given ≡ total_of (cdol_of bytes)

-- a list that was read and wants what the application takes is filled with that
pub list_filled : (tag : ℕ) (bytes : List ℕ) (card : ReadCard) (terminal : Entries) → list_total (value_of tag card.entries) ≡ Some (total_of (cdol_of bytes)) → IsFilled tag bytes card terminal
unfolding list_data
list_filled tag bytes card terminal wants = by (value_of tag card.entries) refl wants
  where
    by_dol : (list : List ℕ) (r : Result (List DolEntry) DolFault) → value_of tag card.entries ≡ Some list → dol_of list ≡ r → wanted_total r ≡ Some (total_of (cdol_of bytes)) → IsFilled tag bytes card terminal
    by_dol list (Err fault) there read total = absurd (cc total)
    by_dol list (Ok entries) there read total =
        let same : total_of entries ≡ total_of (cdol_of bytes) = cc in
        let small : total_of entries ≤ 252 = omega (arith, cdol_small bytes) in
        record {
          given = dol_data entries card.entries terminal;
          is = rw (there, read, le-leb _ _ small) refl;
          size = length-dol_data entries card.entries terminal ∙ same;
        }

    by : (o : Option (List ℕ)) → value_of tag card.entries ≡ o → list_total o ≡ Some (total_of (cdol_of bytes)) → IsFilled tag bytes card terminal
    by None there total = absurd (cc total)
    by (Some list) there total = by_dol list (dol_of list) there refl total
