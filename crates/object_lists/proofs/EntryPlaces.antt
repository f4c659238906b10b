-- Where an entry is in a list, and what the filled data have there.
use Rattle.std.proofs.Common.{◌≡◌, ◌≢◌, ℕ, Bool, true, false, ◌+◌, ◌-◌, ◌<◌, ◌≤◌, ◌==◌, ◌&&◌, nat_lt, if◌then◌else◌, List, [], ◌∷◌, ◌++◌, length, take, drop, Option, Some, None, option_map, refl, arith, sym, ap, ◌∙◌, append_assoc, length-append, length-drop, subst, IfSome, IfNone}
use Rattle.std.specs.List.{AllByRecursion}
use Rattle.std.proofs.lemmas.Bool.Decides.{nat_tests}
use Rattle.std.proofs.lemmas.List.{length-take, length-replicate, take_at, drop_at}
use Rattle.emv_dict.specs.declared.dictionary.Format.{Format}
use Rattle.emv_dict.specs.declared.dictionary.Format.TheVariants.{Numeric, Compressed, Text, Binary}
use Rattle.env_map.specs.Entries.{Entries}
use Rattle.object_lists.specs.DolEntries.{DolEntry, total_of, data_place}
use Rattle.object_lists.specs.EntryAt.{EntryAt}
use Rattle.object_lists.specs.Filled.{fitted_cut, padded, fitted, data_of, known, entry_data, dol_data}

length-fitted_cut : (format : Format) (count : ℕ) (value : List ℕ) → count < length value → length (fitted_cut format count value) ≡ count
length-fitted_cut Numeric count value long = length-drop (length value - count) value ∙ omega arith
length-fitted_cut Compressed count value long = length-take count value ∙ omega arith
length-fitted_cut Text count value long = length-take count value ∙ omega arith
length-fitted_cut Binary count value long = length-take count value ∙ omega arith

length-padded : (format : Format) (count : ℕ) (value : List ℕ) → length value ≤ count → length (padded format count value) ≡ count
length-padded Numeric count value short = simp (length-append, length-replicate) (omega arith)
length-padded Compressed count value short = simp (length-append, length-replicate) (omega arith)
length-padded Text count value short = simp (length-append, length-replicate) (omega arith)
length-padded Binary count value short = simp (length-append, length-replicate) (omega arith)

length-fitted : (format : Format) (count : ℕ) (value : List ℕ) (long : Bool) → nat_lt count (length value) ≡ long → length (fitted format count value) ≡ count
length-fitted format count value true test = rw test (length-fitted_cut format count value (grind (arith, nat_tests)))
length-fitted format count value false test = rw test (length-padded format count value (grind (arith, nat_tests)))

length-data_of : (count : ℕ) (found : Option (Format × List ℕ)) → length (data_of count found) ≡ count
length-data_of count None = length-replicate count 0
length-data_of count (Some (format, value)) = length-fitted format count value (nat_lt count (length value)) refl

length-entry_data : (card terminal : Entries) (entry : DolEntry) → length (entry_data card terminal entry) ≡ entry.count
length-entry_data card terminal entry = length-data_of entry.count (known card terminal entry.tag)

pub length-dol_data : (entries : List DolEntry) (card terminal : Entries) → length (dol_data entries card terminal) ≡ total_of entries
length-dol_data [] card terminal = refl
length-dol_data (entry ∷ entries) card terminal =
    length-append (entry_data card terminal entry) (dol_data entries card terminal)
    ∙ rw (length-entry_data card terminal entry, length-dol_data entries card terminal) refl

dol_data-append : (front behind : List DolEntry) (card terminal : Entries) → dol_data (front ++ behind) card terminal ≡ dol_data front card terminal ++ dol_data behind card terminal
dol_data-append [] behind card terminal = refl
dol_data-append (entry ∷ front) behind card terminal =
    ap (λ r. entry_data card terminal entry ++ r) (dol_data-append front behind card terminal)
    ∙ sym (append_assoc (entry_data card terminal entry) (dol_data front card terminal) (dol_data behind card terminal))

-- the filled data have the entry's data at its place
data_there : (entries : List DolEntry) (entry : DolEntry) (place : ℕ) → EntryAt entries entry place → (card terminal : Entries)
    → take entry.count (drop place (dol_data entries card terminal)) ≡ entry_data card terminal entry
data_there entries entry place at card terminal =
    let behind = dol_data at.behind card terminal in
    let whole : dol_data entries card terminal ≡ dol_data at.front card terminal ++ (entry_data card terminal entry ++ behind) =
    ap (λ es. dol_data es card terminal) at.splits ∙ dol_data-append at.front (entry ∷ at.behind) card terminal in
    let from : drop place (dol_data entries card terminal) ≡ entry_data card terminal entry ++ behind =
    ap (drop place) whole ∙ drop_at (dol_data at.front card terminal) (entry_data card terminal entry ++ behind) place (length-dol_data at.front card terminal ∙ at.wanted) in
    ap (take entry.count) from ∙ take_at (entry_data card terminal entry) behind entry.count (length-entry_data card terminal entry)

-- what `data_place` gives is where the first such entry is; none where there is no such entry
abbrev Found : DolEntry → List DolEntry → Option ℕ → Type 0
Found entry entries None = AllByRecursion (λ other. other ≢ entry) entries
Found entry entries (Some place) = EntryAt entries entry place

found_later : (entry first : DolEntry) (entries : List DolEntry) (place : Option ℕ) → first ≢ entry → Found entry entries place
    → Found entry (first ∷ entries) (option_map (λ n. first.count + n) place)
found_later entry first entries None other found = (other, found)
found_later entry first entries (Some place) other found =
    let wanted = found.wanted in
    record {
      front = first ∷ found.front;
      behind = found.behind;
      splits = ap (λ es. first ∷ es) found.splits;
      others = (other, found.others);
      wanted = omega arith;
    }

found_at : (tag count : ℕ) (first : DolEntry) (entries : List DolEntry) (same_tag same_count : Bool) → (first.tag == tag) ≡ same_tag → (first.count == count) ≡ same_count
    → Found (record { tag = tag; count = count }) entries (data_place tag count entries)
    → Found (record { tag = tag; count = count }) (first ∷ entries) (if same_tag && same_count then Some 0 else option_map (λ n. first.count + n) (data_place tag count entries))
found_at tag count first entries true true p q later =
    let tags : first.tag ≡ tag = grind arith in
    let counts : first.count ≡ count = grind arith in
    let entry : DolEntry = record { tag = tag; count = count } in
    let same : first ≡ entry = ap (λ (t : ℕ). let e : DolEntry = record { tag = t; count = first.count } in e) tags ∙ ap (λ (n : ℕ). let e : DolEntry = record { tag = tag; count = n } in e) counts in
    record { front = []; behind = entries; splits = ap (λ (e : DolEntry). e ∷ entries) same; others = tt; wanted = refl }
found_at tag count first entries true false p q later =
    found_later (record { tag = tag; count = count }) first entries (data_place tag count entries)
    (λ e. let counts : first.count ≡ count = ap (λ (x : DolEntry). x.count) e in grind arith) later
found_at tag count first entries false same_count p q later =
    found_later (record { tag = tag; count = count }) first entries (data_place tag count entries)
    (λ e. let tags : first.tag ≡ tag = ap (λ (x : DolEntry). x.tag) e in grind arith) later

data_place-found : (tag count : ℕ) (entries : List DolEntry) → Found (record { tag = tag; count = count }) entries (data_place tag count entries)
data_place-found tag count [] = tt
data_place-found tag count (first ∷ entries) =
    found_at tag count first entries (first.tag == tag) (first.count == count) refl refl (data_place-found tag count entries)

-- the same of what was returned
returned : (result : Option ℕ) (tag count : ℕ) (entries : List DolEntry) → result ≡ data_place tag count entries → Found (record { tag = tag; count = count }) entries result
returned result tag count entries e =
    let P : Option ℕ → Type 0 = λ r. Found (record { tag = tag; count = count }) entries r in
    subst P (sym e) (data_place-found tag count entries)

pub returned_place : (result : Option ℕ) (tag count : ℕ) (entries : List DolEntry) → result ≡ data_place tag count entries
    → IfSome result (EntryAt entries (record { tag = tag; count = count }))
returned_place None tag count entries e = tt
returned_place (Some place) tag count entries e = returned (Some place) tag count entries e

pub returned_none : (result : Option ℕ) (tag count : ℕ) (entries : List DolEntry) → result ≡ data_place tag count entries
    → IfNone result (AllByRecursion (λ other. other ≢ record { tag = tag; count = count }) entries)
returned_none None tag count entries e = returned None tag count entries e
returned_none (Some place) tag count entries e = tt

pub returned_data : (result : Option ℕ) (tag count : ℕ) (entries : List DolEntry) → result ≡ data_place tag count entries
    → IfSome result (λ place. (card terminal : Entries) → take count (drop place (dol_data entries card terminal)) ≡ entry_data card terminal (record { tag = tag; count = count }))
returned_data None tag count entries e = tt
returned_data (Some place) tag count entries e = data_there entries (record { tag = tag; count = count }) place (returned (Some place) tag count entries e)
