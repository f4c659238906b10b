-- The first part of a whole application that one breaks, and the first application that isn't whole.
use Rattle.std.proofs.Common.{◌≡◌, ℕ, zero, suc, ◌+◌, ◌<◌, ◌≤◌, ◌==◌, ◌⊎◌, inl, inr, Bool, true, false, not, nat_lt, if◌then◌else◌, List, [], ◌∷◌, length, slice_get, take, Option, Some, None, option_map, Result, Ok, Err, refl, ap, sym, ◌∙◌, arith, eqb-true, ltb-true, ltb-false, subst}
use Rattle.std.proofs.lemmas.Bool.{eqb-false, and_parts, and_cases, cases_order}
use Rattle.std.proofs.lemmas.List.Elements.{All-nil, All-head, All-tail, All-cons}
use Rattle.std.specs.List.{All}
use Rattle.std.specs.Option.{option_or}
use Rattle.card_app.specs.OwnLists.{cdol_of}
use Rattle.card_files.specs.Views.{AppData}
use Rattle.card_check.specs.Judged.{read_by, own_data, is_total, is_matched, is_crowded, fault_by, app_judged_fault, apps_fault}
use Rattle.card_check.specs.Reasons.{GivesReason, Matches, BreaksApp, IsFirstBroken}
use Rattle.dialogue_laws.specs.WellFormed.{ReadsOwn, HasWholeData, list_total}
use Rattle.card_check.specs.declared.fault.AppFault.{AppFault}
use Rattle.card_check.specs.declared.fault.AppFault.TheVariants.{Reading, FirstList, SecondList, Locator}
use Rattle.card_check.specs.declared.fault.CardFault.{CardFault}
use Rattle.card_check.specs.declared.fault.CardFault.TheVariants.{App}
use Rattle.emv_dict.specs.declared.ending.Cause.{Cause}
use Rattle.env_map.specs.Entries.{value_of}
use Rattle.object_lists.specs.CardRead.{ReadCard}
use Rattle.object_lists.specs.DolEntries.{total_of}
use Rattle.read_records.specs.Options.{Opened, profile_and_locator}

-- reading the application's own data, in both words
record ReadsAs (a : AppData) (card : ReadCard) : Type 0 where
  reads : ReadsOwn a
  same : reads.card ≡ card

reads_by : (a : AppData) (card : ReadCard) (begun : Result Opened Cause) → profile_and_locator a.aip a.afl ≡ begun → read_by a begun ≡ Ok card → ReadsAs a card
reads_by a card (Ok start) located read = record { reads = record { start = start; card = card; located = located; read = read }; same = refl }
reads_by a card (Err cause) located read = absurd (cc)

reads_from : (a : AppData) (card : ReadCard) → GivesReason a card → ReadsAs a card
unfolding own_data
reads_from a card gives = reads_by a card (profile_and_locator a.aip a.afl) refl gives

gives_from : (a : AppData) (reads : ReadsOwn a) → GivesReason a reads.card
unfolding own_data
gives_from a reads = ap (read_by a) reads.located ∙ reads.read

-- the two totals
total_is : (wanted : ℕ) (total : Option ℕ) → is_total wanted total ≡ true → total ≡ Some wanted
total_is wanted None is = absurd (cc)
total_is wanted (Some total) is = ap (λ (n : ℕ). let o : Option ℕ = Some n in o) (eqb-true total wanted is)

total_other : (wanted : ℕ) (total : Option ℕ) → is_total wanted total ≡ false → total ≡ Some wanted → ⊥
total_other wanted None not_is is = cc
total_other wanted (Some total) not_is is = let same : total ≡ wanted = cc in eqb-false total wanted not_is same

matched : (tag : ℕ) (own : List ℕ) (card : ReadCard) → is_matched (value_of tag card.entries) own ≡ true → Matches tag own card
matched tag own card is = total_is (total_of (cdol_of own)) (list_total (value_of tag card.entries)) is

unmatched : (tag : ℕ) (own : List ℕ) (card : ReadCard) → is_matched (value_of tag card.entries) own ≡ false → Matches tag own card → ⊥
unmatched tag own card not_is = total_other (total_of (cdol_of own)) (list_total (value_of tag card.entries)) not_is

crowded : (a : AppData) → is_crowded a ≡ true → (a.gpo_format ≡ 2) × (244 < length a.afl)
crowded a is =
    let parts = and_parts (a.gpo_format == 2) (nat_lt 244 (length a.afl)) is in
    (eqb-true a.gpo_format 2 parts.0, ltb-true 244 (length a.afl) parts.1)

roomy : (a : AppData) → is_crowded a ≡ false → a.gpo_format ≡ 2 → length a.afl ≤ 244
roomy a not_is two = by (and_cases (a.gpo_format == 2) (nat_lt 244 (length a.afl)) not_is)
  where
    by : ((a.gpo_format == 2) ≡ false) ⊎ (nat_lt 244 (length a.afl) ≡ false) → length a.afl ≤ 244
    by (inl other) = absurd (eqb-false a.gpo_format 2 other two)
    by (inr few) = ltb-false 244 (length a.afl) few

-- the chain of the parts
FaultIs : AppData → ReadCard → Bool → Bool → Bool → Option AppFault
FaultIs a card first second full = if not first then Some FirstList else if not second then Some SecondList else if full then Some Locator else None

-- each part holds, or the fault is the first that doesn't
record IsSound (a : AppData) (card : ReadCard) : Type 0 where
  first : Matches 0x8C a.cdol1 card
  second : Matches 0x8D a.cdol2 card
  short : a.gpo_format ≡ 2 → length a.afl ≤ 244

sound_by : (a : AppData) (card : ReadCard) (first second full : Bool) → is_matched (value_of 0x8C card.entries) a.cdol1 ≡ first
    → is_matched (value_of 0x8D card.entries) a.cdol2 ≡ second → is_crowded a ≡ full → FaultIs a card first second full ≡ None → IsSound a card
unfolding FaultIs
sound_by a card true true false first second full none =
    record { first = matched 0x8C a.cdol1 card first; second = matched 0x8D a.cdol2 card second; short = roomy a full }
sound_by a card true true true first second full none = absurd (cc)
sound_by a card true false f first second full none = absurd (cc)
sound_by a card false s f first second full none = absurd (cc)

breaks_by : (a : AppData) (card : ReadCard) (fault : AppFault) → GivesReason a card → (first second full : Bool) → is_matched (value_of 0x8C card.entries) a.cdol1 ≡ first
    → is_matched (value_of 0x8D card.entries) a.cdol2 ≡ second → is_crowded a ≡ full → FaultIs a card first second full ≡ Some fault → BreaksApp a fault
unfolding FaultIs
breaks_by a card fault gives true true false first second full some = absurd (cc)
breaks_by a card fault gives true true true first second full some =
    let is : Locator ≡ fault = cc in
    subst (BreaksApp a) is (card, gives, matched 0x8C a.cdol1 card first, matched 0x8D a.cdol2 card second, (crowded a full).0, (crowded a full).1)
breaks_by a card fault gives true false f first second full some =
    let is : SecondList ≡ fault = cc in
    subst (BreaksApp a) is (card, gives, matched 0x8C a.cdol1 card first, unmatched 0x8D a.cdol2 card second)
breaks_by a card fault gives false s f first second full some =
    let is : FirstList ≡ fault = cc in
    subst (BreaksApp a) is (card, gives, unmatched 0x8C a.cdol1 card first)

-- an application without a fault is whole
whole_by : (a : AppData) (data_is : Result ReadCard Cause) → own_data a ≡ data_is → fault_by a data_is ≡ None → HasWholeData a
unfolding FaultIs
whole_by a (Err cause) is none = absurd (cc)
whole_by a (Ok card) is none =
    let reads = reads_from a card is in
    let sound = sound_by a card _ _ _ refl refl refl none in
    record {
      reads = reads.reads;
      first = subst (Matches 0x8C a.cdol1) (sym reads.same) sound.first;
      second = subst (Matches 0x8D a.cdol2) (sym reads.same) sound.second;
      short = sound.short;
    }

pub whole_from : (a : AppData) → app_judged_fault a ≡ None → HasWholeData a
unfolding app_judged_fault
whole_from a none = whole_by a (own_data a) refl none

-- else its fault is the first part that it breaks
breaks_data : (a : AppData) (fault : AppFault) (data_is : Result ReadCard Cause) → own_data a ≡ data_is → fault_by a data_is ≡ Some fault → BreaksApp a fault
unfolding FaultIs
breaks_data a fault (Err cause) is some = let same : Reading cause ≡ fault = cc in subst (BreaksApp a) same is
breaks_data a fault (Ok card) is some = breaks_by a card fault is _ _ _ refl refl refl some

pub breaks_from : (a : AppData) (fault : AppFault) → app_judged_fault a ≡ Some fault → BreaksApp a fault
unfolding app_judged_fault
breaks_from a fault some = breaks_data a fault (own_data a) refl some

-- what a whole application gives matches
same_card : (a : AppData) (one other : ReadCard) → GivesReason a one → GivesReason a other → one ≡ other
same_card a one other first second = cc

pub whole_is_sound : (a : AppData) (fault : AppFault) → HasWholeData a → BreaksApp a fault → ⊥
whole_is_sound a (Reading cause) whole breaks = let gives = gives_from a whole.reads in cc
whole_is_sound a FirstList whole (card, gives, other) =
    other (subst (Matches 0x8C a.cdol1) (same_card a whole.reads.card card (gives_from a whole.reads) gives) whole.first)
whole_is_sound a SecondList whole (card, gives, first, other) =
    other (subst (Matches 0x8D a.cdol2) (same_card a whole.reads.card card (gives_from a whole.reads) gives) whole.second)
whole_is_sound a Locator whole (card, gives, first, second, two, long) = let short = whole.short two in omega arith

-- there is one first part
pub one_break : (a : AppData) (f g : AppFault) → BreaksApp a f → BreaksApp a g → f ≡ g
one_break a (Reading c) (Reading d) one other = cc
one_break a (Reading c) FirstList one (card, gives, x) = absurd (cc)
one_break a (Reading c) SecondList one (card, gives, x, y) = absurd (cc)
one_break a (Reading c) Locator one (card, gives, x, y, z, w) = absurd (cc)
one_break a FirstList (Reading d) (card, gives, x) other = absurd (cc)
one_break a FirstList FirstList one other = refl
one_break a FirstList SecondList (card, gives, not_first) (other, gives_other, first, x) =
    absurd (not_first (subst (Matches 0x8C a.cdol1) (same_card a other card gives_other gives) first))
one_break a FirstList Locator (card, gives, not_first) (other, gives_other, first, x, y, z) =
    absurd (not_first (subst (Matches 0x8C a.cdol1) (same_card a other card gives_other gives) first))
one_break a SecondList (Reading d) (card, gives, x, y) other = absurd (cc)
one_break a SecondList FirstList (card, gives, first, x) (other, gives_other, not_first) =
    absurd (not_first (subst (Matches 0x8C a.cdol1) (same_card a card other gives gives_other) first))
one_break a SecondList SecondList one other = refl
one_break a SecondList Locator (card, gives, first, not_second) (other, gives_other, x, second, y, z) =
    absurd (not_second (subst (Matches 0x8D a.cdol2) (same_card a other card gives_other gives) second))
one_break a Locator (Reading d) (card, gives, x, y, z, w) other = absurd (cc)
one_break a Locator FirstList (card, gives, first, x, y, z) (other, gives_other, not_first) =
    absurd (not_first (subst (Matches 0x8C a.cdol1) (same_card a card other gives gives_other) first))
one_break a Locator SecondList (card, gives, x, second, y, z) (other, gives_other, first, not_second) =
    absurd (not_second (subst (Matches 0x8D a.cdol2) (same_card a card other gives gives_other) second))
one_break a Locator Locator one other = refl

-- all applications are whole where no fault is found
pub all_whole : (number : ℕ) (apps : List AppData) → apps_fault number apps ≡ None → All HasWholeData apps
all_whole number [] none = All-nil HasWholeData
all_whole number (a ∷ apps) none = by (all_whole (number + 1) apps) (app_judged_fault a) refl none
  where
    by : (apps_fault (number + 1) apps ≡ None → All HasWholeData apps) → (found : Option AppFault) → app_judged_fault a ≡ found → option_or (option_map (App number) found) (apps_fault (number + 1) apps) ≡ None → All HasWholeData (a ∷ apps)
    by behind None is later = All-cons HasWholeData a apps (whole_from a is) (behind later)
    by behind (Some fault) is later = absurd (cc)

-- else the first that isn't, counted from a number
record BrokenFrom (number : ℕ) (apps : List AppData) (fault : CardFault) : Type 0 where
  app : ℕ
  part : AppFault
  fault_is : fault ≡ App (number + app) part
  broken : IsFirstBroken apps app part

broken_from : (number : ℕ) (apps : List AppData) (fault : CardFault) → apps_fault number apps ≡ Some fault → BrokenFrom number apps fault
broken_from number [] fault some = absurd (cc)
broken_from number (a ∷ apps) fault some = by (broken_from (number + 1) apps fault) (app_judged_fault a) refl some
  where
    by : (apps_fault (number + 1) apps ≡ Some fault → BrokenFrom (number + 1) apps fault) → (found : Option AppFault) → app_judged_fault a ≡ found → option_or (option_map (App number) found) (apps_fault (number + 1) apps) ≡ Some fault
        → BrokenFrom number (a ∷ apps) fault
    by behind None is found =
        let later = behind found in
        let count : (number + 1) + later.app ≡ number + suc later.app = omega arith in
        record {
          app = suc later.app;
          part = later.part;
          fault_is = later.fault_is ∙ ap (λ (n : ℕ). App n later.part) count;
          broken = record {
            own = later.broken.own;
            is = later.broken.is;
            before = All-cons HasWholeData a (take later.app apps) (whole_from a is) later.broken.before;
            breaks = later.broken.breaks;
          };
        }
    by behind (Some part) is found =
        let count : number ≡ number + 0 = omega arith in
        let here : App number part ≡ fault = cc in
        record {
          app = 0;
          part = part;
          fault_is = sym here ∙ ap (λ (n : ℕ). App n part) count;
          broken = record { own = a; is = refl; before = All-nil HasWholeData; breaks = breaks_from a part is };
        }

pub record Broken (apps : List AppData) (fault : CardFault) : Type 0 where
  pub app : ℕ
  pub part : AppFault
  pub fault_is : fault ≡ App app part
  pub broken : IsFirstBroken apps app part

pub broken : (apps : List AppData) (fault : CardFault) → apps_fault 0 apps ≡ Some fault → Broken apps fault
broken apps fault some =
    let found = broken_from 0 apps fault some in
    let count : 0 + found.app ≡ found.app = omega arith in
    record { app = found.app; part = found.part; fault_is = found.fault_is ∙ ap (λ (n : ℕ). App n found.part) count; broken = found.broken }

-- what a list of whole ones has at a place, and before it
all_at : (apps : List AppData) (app : ℕ) (a : AppData) → All HasWholeData apps → slice_get apps app ≡ Some a → HasWholeData a
all_at [] app a all is = absurd (cc)
all_at (b ∷ apps) zero a all is = let same : b ≡ a = cc in subst HasWholeData same (All-head HasWholeData b apps all)
all_at (b ∷ apps) (suc app) a all is = all_at apps app a (All-tail HasWholeData b apps all) is

before_at : (apps : List AppData) (app end : ℕ) (a : AppData) → All HasWholeData (take end apps) → slice_get apps app ≡ Some a → app < end → HasWholeData a
before_at [] app end a all is below = absurd (cc)
before_at (b ∷ apps) app zero a all is below = absurd (omega arith)
before_at (b ∷ apps) zero (suc end) a all is below = let same : b ≡ a = cc in subst HasWholeData same (All-head HasWholeData b (take end apps) all)
before_at (b ∷ apps) (suc app) (suc end) a all is below = before_at apps app end a (All-tail HasWholeData b (take end apps) all) is (omega arith)

pub broken_is_none : (apps : List AppData) (app : ℕ) (fault : AppFault) → All HasWholeData apps → IsFirstBroken apps app fault → ⊥
broken_is_none apps app fault all found = whole_is_sound found.own fault (all_at apps app found.own all found.is) found.breaks

broken_before : (apps : List AppData) (i j : ℕ) (f g : AppFault) → IsFirstBroken apps i f → IsFirstBroken apps j g → i < j → ⊥
broken_before apps i j f g one other below = whole_is_sound one.own f (before_at apps i j one.own other.before one.is below) one.breaks

broken_by : (apps : List AppData) (i j : ℕ) (f g : AppFault) → IsFirstBroken apps i f → IsFirstBroken apps j g → (i ≡ j) ⊎ ((i < j) ⊎ (j < i)) → App i f ≡ App j g
broken_by apps i j f g one other (inl same) =
    let found : slice_get apps i ≡ Some other.own = ap (slice_get apps) same ∙ other.is in
    let first : slice_get apps i ≡ Some one.own = one.is in
    let own_same : other.own ≡ one.own = cc in
    let part : f ≡ g = one_break one.own f g one.breaks (subst (λ (a : AppData). BreaksApp a g) own_same other.breaks) in
    cc
broken_by apps i j f g one other (inr (inl below)) = absurd (broken_before apps i j f g one other below)
broken_by apps i j f g one other (inr (inr above)) = absurd (broken_before apps j i g f other one above)

pub one_broken : (apps : List AppData) (i j : ℕ) (f g : AppFault) → IsFirstBroken apps i f → IsFirstBroken apps j g → App i f ≡ App j g
one_broken apps i j f g one other = broken_by apps i j f g one other (cases_order i j)
