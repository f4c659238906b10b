-- The records of an application: one more behind them, and the one of a file's number.
use Rattle.std.proofs.Common.{◌≡◌, ℕ, zero, suc, ◌==◌, ◌&&◌, ◌||◌, Bool, true, false, not, List, [], ◌∷◌, ◌++◌, length, Option, Some, None, option_map, refl, sym, ap, subst, ◌∙◌, arith}
use Rattle.std.specs.Prelude.{if◌then◌else◌, nat_le, Contains, IsTrue, IfSome, IsSomeAnd, slice_get, ◌↔◌}
use Rattle.std.specs.List.{list_all, list_any}
use Rattle.std.proofs.lemmas.Bool.{true≢false, and_parts, and_from, or_parts, or_from, not-true, not_from_false, eqb-true, eq-eqb}
use Rattle.std.proofs.lemmas.Bool.Decides.{nat_tests}
use Rattle.std.proofs.lemmas.List.Folds.{list_all-append, list_any-append, list_any_at, Any-from_list_any}
use Rattle.std.proofs.lemmas.List.{get_or_default}
use Rattle.card_files.specs.AppRules.{is_record, is_pair, has_twins, most_image_records, are_apart, are_records}
use Rattle.card_files.specs.Files.{record_in, has_record_of, HasRecord}
use Rattle.card_files.specs.Views.{RecordData, AppData}

same_pair : (a b c d : ℕ) → (a == b && c == d) ≡ (b == a && d == c)
same_pair a b c d = grind (arith, nat_tests)

has_twins-push : (rs : List RecordData) (r : RecordData) → has_twins rs ≡ false → list_any (is_pair r) rs ≡ false → has_twins (rs ++ r ∷ []) ≡ false
has_twins-push [] r apart fresh = refl
has_twins-push (x ∷ rs) r apart fresh =
    let old = or_parts (list_any (is_pair x) rs) (has_twins rs) apart in
    let new = or_parts (is_pair r x) (list_any (is_pair r) rs) fresh in
    or_from (list_any (is_pair x) (rs ++ r ∷ [])) (has_twins (rs ++ r ∷ []))
    (list_any-append (is_pair x) rs (r ∷ []) ∙ or_from (list_any (is_pair x) rs) (is_pair x r || false) old.0
    (or_from (is_pair x r) false (same_pair x.sfi r.sfi x.number r.number ∙ new.0) refl))
    (has_twins-push rs r old.1 new.1)

-- one more in its limits, whose number no earlier one of its file has
pub are_apart-push : (rs : List RecordData) (r : RecordData) → are_apart rs ≡ true → is_record r ≡ true → list_any (is_pair r) rs ≡ false → are_apart (rs ++ r ∷ []) ≡ true
are_apart-push rs r apart in_limits fresh =
    let parts = and_parts (list_all is_record rs) (not (has_twins rs)) apart in
    and_from (list_all is_record (rs ++ r ∷ [])) (not (has_twins (rs ++ r ∷ [])))
    (list_all-append is_record rs (r ∷ []) ∙ and_from (list_all is_record rs) (is_record r && true) parts.0 (and_from (is_record r) true in_limits refl))
    (not_from_false (has_twins (rs ++ r ∷ [])) (has_twins-push rs r (not-true (has_twins rs) parts.1) fresh))

abbrev row : ℕ → ℕ → List ℕ → RecordData
row sfi number bytes = record { sfi = sfi; number = number; bytes = bytes }

same_row : (r : RecordData) (sfi number : ℕ) (bytes : List ℕ) → r.sfi ≡ sfi → r.number ≡ number → r.bytes ≡ bytes → r ≡ row sfi number bytes
same_row r sfi number bytes file here content =
    ap (λ (n : ℕ). row n r.number r.bytes) file ∙ ap (λ (n : ℕ). row sfi n r.bytes) here ∙ ap (λ (bs : List ℕ). row sfi number bs) content

at_first : (r : RecordData) (rs : List RecordData) (sfi number : ℕ) (bytes : List ℕ) (test : Bool) → (r.sfi == sfi && r.number == number) ≡ test
    → (record_in sfi number rs ≡ Some bytes → Contains rs (row sfi number bytes))
    → (if test then Some r.bytes else record_in sfi number rs) ≡ Some bytes → Contains (r ∷ rs) (row sfi number bytes)
at_first r rs sfi number bytes true is behind found =
    let parts = and_parts (r.sfi == sfi) (r.number == number) is in
    let file : r.sfi ≡ sfi = eqb-true r.sfi sfi parts.0 in
    let here : r.number ≡ number = eqb-true r.number number parts.1 in
    let content : r.bytes ≡ bytes = cc in
    (0, omega arith, same_row r sfi number bytes file here content)
at_first r rs sfi number bytes false is behind found =
    let there = behind found in
    (suc there.0, omega (arith, there.1), there.2)

pub found_in : (sfi number : ℕ) (rs : List RecordData) (bytes : List ℕ) → record_in sfi number rs ≡ Some bytes → Contains rs (row sfi number bytes)
found_in sfi number [] bytes found = cc
found_in sfi number (r ∷ rs) bytes found = at_first r rs sfi number bytes (r.sfi == sfi && r.number == number) refl (found_in sfi number rs bytes) found

-- another behind it would be its twin
pair_twice : (r : RecordData) (rs : List RecordData) (sfi number : ℕ) (bytes : List ℕ) → (r.sfi == sfi && r.number == number) ≡ true
    → Contains rs (row sfi number bytes) → list_any (is_pair r) rs ≡ true
pair_twice r rs sfi number bytes is there =
    list_any_at (is_pair r) rs there.0 (row sfi number bytes) there.1 (ap (λ (x : RecordData). is_pair r x) there.2 ∙ is)

at_rest : (r : RecordData) (rs : List RecordData) (sfi number : ℕ) (bytes : List ℕ) (test : Bool) → (r.sfi == sfi && r.number == number) ≡ test
    → list_any (is_pair r) rs ≡ false → Contains rs (row sfi number bytes) → record_in sfi number rs ≡ Some bytes
    → (if test then Some r.bytes else record_in sfi number rs) ≡ Some bytes
at_rest r rs sfi number bytes true is alone there found = absurd (true≢false (sym (pair_twice r rs sfi number bytes is there) ∙ alone))
at_rest r rs sfi number bytes false is alone there found = found

at_itself : (r : RecordData) (rest : Option (List ℕ)) (sfi number : ℕ) (bytes : List ℕ) → r ≡ row sfi number bytes
    → (if r.sfi == sfi && r.number == number then Some r.bytes else rest) ≡ Some bytes
at_itself r rest sfi number bytes is =
    rw (is, and_from (sfi == sfi) (number == number) (eq-eqb sfi sfi refl) (eq-eqb number number refl)) refl

pub only_one : (sfi number : ℕ) (rs : List RecordData) (bytes : List ℕ) → has_twins rs ≡ false → Contains rs (row sfi number bytes) → record_in sfi number rs ≡ Some bytes
only_one sfi number [] bytes apart there = absurd (omega (arith, there.1))
only_one sfi number (r ∷ rs) bytes apart (zero, within, is) = at_itself r (record_in sfi number rs) sfi number bytes is
only_one sfi number (r ∷ rs) bytes apart (suc k, within, is) =
    let parts = or_parts (list_any (is_pair r) rs) (has_twins rs) apart in
    let there : Contains rs (row sfi number bytes) = (k, omega arith, is) in
    at_rest r rs sfi number bytes (r.sfi == sfi && r.number == number) refl parts.0 there (only_one sfi number rs bytes parts.1 there)

-- what is found is a record of the application
pub held : {R : Type 0} (now : R → List ℕ) (found : Option R) (apps : List AppData) (a : AppData) (app sfi number : ℕ) → Some a ≡ slice_get apps app
    → option_map now found ≡ record_in sfi number a.records → IfSome found (λ bytes. HasRecord apps app sfi number (now bytes))
held now None apps a app sfi number at is = tt
held now (Some bytes) apps a app sfi number at is =
    subst (λ (o : Option AppData). IsSomeAnd o (λ x. Contains x.records (row sfi number (now bytes)))) at (found_in sfi number a.records (now bytes) (sym is))

in_app : (apps : List AppData) (a : AppData) (app sfi number : ℕ) (bytes : List ℕ) → Some a ≡ slice_get apps app
    → HasRecord apps app sfi number bytes → Contains a.records (row sfi number bytes)
in_app apps a app sfi number bytes at there =
    subst (λ (o : Option AppData). IsSomeAnd o (λ x. Contains x.records (row sfi number bytes))) (sym at) there

-- and no other is there
pub only : (apps : List AppData) (a : AppData) (app sfi number : ℕ) (bytes : List ℕ) → Some a ≡ slice_get apps app → IsTrue (are_records a.records)
    → HasRecord apps app sfi number bytes → record_in sfi number a.records ≡ Some bytes
only apps a app sfi number bytes at rule there =
    let parts = and_parts (nat_le (length a.records) most_image_records) (are_apart a.records) rule in
    let apart = and_parts (list_all is_record a.records) (not (has_twins a.records)) parts.1 in
    only_one sfi number a.records bytes (not-true (has_twins a.records) apart.1) (in_app apps a app sfi number bytes at there)

-- a file is there exactly where any record of it is
pub any_record : (apps : List AppData) (a : AppData) (app sfi : ℕ) (found : Bool) → Some a ≡ slice_get apps app → found ≡ has_record_of sfi a.records
    → IsTrue found ↔ ((number : ℕ) × (bytes : List ℕ) × HasRecord apps app sfi number bytes)
any_record apps a app sfi found at is = (
  λ test.
      let any = Any-from_list_any (λ r. r.sfi == sfi) a.records (sym is ∙ test) in
      let r : RecordData = any.1 in
      let file : r.sfi ≡ sfi = eqb-true r.sfi sfi any.4 in
      let whole : r ≡ row sfi r.number r.bytes = same_row r sfi r.number r.bytes file refl refl in (
        r.number,
        r.bytes,
        subst (λ (o : Option AppData). IsSomeAnd o (λ x. Contains x.records (row sfi r.number r.bytes))) at
            (any.0, any.2, get_or_default a.records any.0 (row sfi r.number r.bytes) r any.2 ∙ any.3 ∙ whole),
      ),
  λ there.
      let inside : Contains a.records (row sfi there.0 there.1) = in_app apps a app sfi there.0 there.1 at there.2 in
      is ∙ list_any_at (λ r. r.sfi == sfi) a.records inside.0 (row sfi there.0 there.1) inside.1
      (eq-eqb _ sfi (ap (λ (r : RecordData). r.sfi) inside.2)),
)
