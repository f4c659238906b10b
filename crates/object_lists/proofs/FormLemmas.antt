-- The objects that pass all that is tried have the forms of a card that is read, and no other ones.
use Rattle.std.proofs.Common.{◌≡◌, ℕ, Bool, true, false, List, [], ◌∷◌, IsTrue, is_some, Some, None, Option, refl, ap, sym, ◌∙◌, if◌then◌else◌}
use Rattle.std.specs.List.{AllByRecursion}
use Rattle.std.specs.Option.{option_or}
use Rattle.emv_dict.specs.declared.ending.Cause.TheVariants.{Missing}
use Rattle.env_map.specs.Entries.{Entries, value_of}
use Rattle.object_lists.specs.Forms.{Has, HasIfThere, HasForms}
use Rattle.object_lists.specs.Checked.{HasOptions, mandatory, missing_from, checked, form_of, passes_if_there, wrong_cause, first_wrong, objects_fault}
use Rattle.object_lists.specs.declared.checked.Check.{Check}

if_none : {A : Type 0} (test : Bool) (rest : Option A) (fault : A) → (if test then rest else Some fault) ≡ None → (test ≡ true) × (rest ≡ None)
if_none true rest fault none = (refl, none)
if_none false rest fault none = cc

either_none : {A : Type 0} (first second : Option A) → option_or first second ≡ None → (first ≡ None) × (second ≡ None)
either_none None second none = (refl, none)
either_none (Some fault) second none = cc

-- the mandatory objects are there
all_there : (tags : List ℕ) (entries : Entries) → missing_from tags entries ≡ None → AllByRecursion (λ tag. is_some (value_of tag entries) ≡ true) tags
all_there [] entries none = tt
all_there (tag ∷ tags) entries none =
    let parts = if_none (is_some (value_of tag entries)) (missing_from tags entries) (Missing (record { 0 = tag })) none in
    (parts.0, all_there tags entries parts.1)

none_missing : (tags : List ℕ) (entries : Entries) → AllByRecursion (λ tag. is_some (value_of tag entries) ≡ true) tags → missing_from tags entries ≡ None
none_missing [] entries there = refl
none_missing (tag ∷ tags) entries there = rw there.0 (none_missing tags entries there.1)

-- each row passes
AllPass : Entries → List (ℕ × Check) → Type 0
AllPass entries rows = AllByRecursion (λ row. HasIfThere row.0 (form_of row.1) entries) rows

passes_there : (check : Check) (found : Option (List ℕ)) (value : List ℕ) → passes_if_there check found ≡ true → found ≡ Some value → IsTrue (form_of check value)
passes_there check found value passes there = ap (passes_if_there check) (sym there) ∙ passes

there_passes : (check : Check) (found : Option (List ℕ)) → ((value : List ℕ) → found ≡ Some value → IsTrue (form_of check value)) → passes_if_there check found ≡ true
there_passes check None each = refl
there_passes check (Some value) each = each value refl

all_pass : (rows : List (ℕ × Check)) (entries : Entries) → first_wrong rows entries ≡ None → AllPass entries rows
unfolding AllPass first_wrong
all_pass [] entries none = tt
all_pass (row ∷ rows) entries none =
    let parts = if_none (passes_if_there row.1 (value_of row.0 entries)) (first_wrong rows entries) (wrong_cause row.1 row.0) none in
    (λ value there. passes_there row.1 (value_of row.0 entries) value parts.0 there, all_pass rows entries parts.1)

none_wrong : (rows : List (ℕ × Check)) (entries : Entries) → AllPass entries rows → first_wrong rows entries ≡ None
unfolding AllPass first_wrong
none_wrong [] entries pass = refl
none_wrong (row ∷ rows) entries pass = rw (there_passes row.1 (value_of row.0 entries) pass.0) (none_wrong rows entries pass.1)

value_there : (found : Option (List ℕ)) → is_some found ≡ true → (value : List ℕ) × (found ≡ Some value)
value_there None there = cc
value_there (Some value) there = (value, refl)

has : (tag : ℕ) (form : List ℕ → Bool) (entries : Entries) → is_some (value_of tag entries) ≡ true → HasIfThere tag form entries → Has tag form entries
has tag form entries there formed =
    let found = value_there (value_of tag entries) there in
    record { value = found.0; there = found.1; formed = formed found.0 found.1 }

has-there : (tag : ℕ) (form : List ℕ → Bool) (entries : Entries) → Has tag form entries → is_some (value_of tag entries) ≡ true
has-there tag form entries it = ap is_some it.there

has-formed : (tag : ℕ) (form : List ℕ → Bool) (entries : Entries) → Has tag form entries → HasIfThere tag form entries
has-formed tag form entries it value there =
    let same : it.value ≡ value = (let first = it.there in cc) in
    rw (← same) it.formed

pub formed : (entries : Entries) → HasOptions entries → objects_fault entries ≡ None → HasForms entries
unfolding objects_fault AllPass checked
formed entries options none =
    let parts = either_none (missing_from mandatory entries) (first_wrong checked entries) none in
    let there = all_there mandatory entries parts.0 in
    let pass = all_pass checked entries parts.1 in
    record {
      interchange_profile = options.profile;
      file_locator = options.locator;
      account_number = has _ _ entries there.1.0 pass.0;
      expiration_date = has _ _ entries there.0 pass.1.0;
      effective_date = pass.1.1.0;
      issuer_country = pass.1.1.1.0;
      sequence_number = pass.1.1.1.1.0;
      first_list = has _ _ entries there.1.1.0 pass.1.1.1.1.1.0;
      second_list = has _ _ entries there.1.1.1.0 pass.1.1.1.1.1.1.0;
      verification_list = pass.1.1.1.1.1.1.1.0;
      usage_control = pass.1.1.1.1.1.1.1.1.0;
      version_number = pass.1.1.1.1.1.1.1.1.1.0;
      default_code = pass.1.1.1.1.1.1.1.1.1.1.0;
      denial_code = pass.1.1.1.1.1.1.1.1.1.1.1.0;
      online_code = pass.1.1.1.1.1.1.1.1.1.1.1.1.0;
      lower_limit = pass.1.1.1.1.1.1.1.1.1.1.1.1.1.0;
      upper_limit = pass.1.1.1.1.1.1.1.1.1.1.1.1.1.1.0;
      application_currency = pass.1.1.1.1.1.1.1.1.1.1.1.1.1.1.1.0;
    }

pub unformed : (entries : Entries) → HasForms entries → objects_fault entries ≡ None
unfolding objects_fault AllPass checked
unformed entries forms =
    let there = none_missing mandatory entries (has-there _ _ entries forms.expiration_date, (has-there _ _ entries forms.account_number, (has-there _ _ entries forms.first_list, (has-there _ _ entries forms.second_list, tt)))) in
    let pass = none_wrong checked entries (
      has-formed _ _ entries forms.account_number,
      (
        has-formed _ _ entries forms.expiration_date,
        (
          forms.effective_date,
          (
            forms.issuer_country,
            (
              forms.sequence_number,
              (
                has-formed _ _ entries forms.first_list,
                (
                  has-formed _ _ entries forms.second_list,
                  (
                    forms.verification_list,
                    (
                      forms.usage_control,
                      (
                        forms.version_number,
                        (forms.default_code, (forms.denial_code, (forms.online_code, (forms.lower_limit, (forms.upper_limit, (forms.application_currency, tt)))))),
                      ),
                    ),
                  ),
                ),
              ),
            ),
          ),
        ),
      ),
    ) in
    rw there pass
