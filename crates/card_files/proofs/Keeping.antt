-- Where a card has no fault, every key of its applications keeps to its rule and its directory hides none of them.
use Rattle.std.proofs.Common.{◌≡◌, ℕ, zero, suc, ◌+◌, Bool, true, false, List, [], ◌∷◌, ◌++◌, length, get_or, Option, Some, None, is_some, option_map, refl, ap, arith}
use Rattle.std.specs.Prelude.{if◌then◌else◌, nat_le, codes}
use Rattle.std.specs.Option.{option_or}
use Rattle.std.specs.List.{All}
use Rattle.std.proofs.lemmas.Bool.{true≢false, and_parts, and_from, leb-true, le-leb}
use Rattle.card_files.specs.AppRules.{is_within, is_log_size}
use Rattle.card_files.specs.Directory.{is_hidden}
use Rattle.card_files.specs.Faults.{Line, Fault, OfField, OfCount, file_lines, state_lines, log_lines, first_broken, app_fault, field_fault, name_fault, hidden_fault, directory_fault, image_fault}
use Rattle.card_files.specs.ImageRules.{KeepsRules, AreApps, AreInSight}
use Rattle.card_files.specs.Lists.{leaves_room}
use Rattle.card_files.specs.Views.{AppData}
use Rattle.card_files.proofs.OwnNames.{names_apart, no_name}

some_is_not_none : {A : Type 0} (x : A) → Some x ≡ None → true ≡ false
some_is_not_none x e = ap is_some e

-- the head and the rest of lines none of which is broken
head_holds : (holds : Bool) (key : List ℕ) (rest : Option (List ℕ)) → (if holds then rest else Some key) ≡ None → (holds ≡ true) × (rest ≡ None)
head_holds true key rest none = (refl, none)
head_holds false key rest none = absurd (true≢false (some_is_not_none key none))

abbrev blank : Line
blank = ([], true)

rule : (ls : List Line) → first_broken ls ≡ None → (k : ℕ) → (get_or ls k blank).1 ≡ true
rule [] none zero = refl
rule [] none (suc k) = refl
rule (l ∷ ls) none zero = (head_holds l.1 l.0 (first_broken ls) none).0
rule (l ∷ ls) none (suc k) = rule ls (head_holds l.1 l.0 (first_broken ls) none).1 k

kept : (app : AppData) → app_fault app ≡ None → length app.aip ≡ 2 → KeepsRules app
unfolding app_fault file_lines state_lines log_lines
kept app none profile =
    let at = rule (file_lines app ++ (state_lines app ++ log_lines app)) none in
    let log = and_parts (is_log_size app.log) (leaves_room app.log app.pdol) (at 24) in
    record {
      name = at 0;
      label = at 1;
      pdol = at 3;
      aip = profile;
      afl = at 5;
      gpo_format = at 6;
      ac_format = at 7;
      cdol1 = at 8;
      cdol2 = at 9;
      records = at 10;
      pan = at 11;
      sequence = at 12;
      currency = at 13;
      sum_limit = at 17;
      pin = at 18;
      tries = at 19;
      currency_two = at 22;
      limit_two = at 23;
      log = log.0;
      room = log.1;
      log_sfi = at 25;
      opening = at 26;
    }

first_none : {A : Type 0} (a b : Option A) → option_or a b ≡ None → (a ≡ None) × (b ≡ None)
first_none None b none = (refl, none)
first_none (Some x) b none = absurd (true≢false (some_is_not_none x none))

unmapped : {A B : Type 0} (f : A → B) (o : Option A) → option_map f o ≡ None → o ≡ None
unmapped f None none = refl
unmapped f (Some x) none = absurd (true≢false (some_is_not_none (f x) none))

each_kept : (number : ℕ) (apps : List AppData) → field_fault number apps ≡ None → All (λ app. length app.aip ≡ 2) apps → All KeepsRules apps
each_kept number [] none profiles k d within = absurd (omega arith)
each_kept number (app ∷ apps) none profiles zero d within =
    let parts = first_none (option_map (OfField number) (app_fault app)) (field_fault (number + 1) apps) none in
    kept app (unmapped (OfField number) (app_fault app) parts.0) (profiles 0 d (omega arith))
each_kept number (app ∷ apps) none profiles (suc k) d within =
    let parts = first_none (option_map (OfField number) (app_fault app)) (field_fault (number + 1) apps) none in
    each_kept (number + 1) apps parts.1 (λ i x inside. profiles (suc i) x (omega arith)) k d (omega arith)

counted : (test : Bool) (count : ℕ) (rest : Option Fault) → (if test then rest else Some (OfCount count)) ≡ None → (test ≡ true) × (rest ≡ None)
counted true count rest none = (refl, none)
counted false count rest none = absurd (true≢false (some_is_not_none (OfCount count) none))

passed : (test : Bool) (here : Fault) (rest : Option Fault) → (if test then Some here else rest) ≡ None → (test ≡ false) × (rest ≡ None)
passed true here rest none = absurd (true≢false (some_is_not_none here none))
passed false here rest none = (refl, none)

each_seen : (number : ℕ) (apps : List AppData) → hidden_fault number apps ≡ None → All (λ a. is_hidden a.name ≡ false) apps
each_seen number [] none k d within = absurd (omega arith)
each_seen number (app ∷ apps) none zero d within =
    (passed (is_hidden app.name) (OfField number (codes "pse")) (hidden_fault (number + 1) apps) none).0
each_seen number (app ∷ apps) none (suc k) d within =
    each_seen (number + 1) apps (passed (is_hidden app.name) (OfField number (codes "pse")) (hidden_fault (number + 1) apps) none).1 k d (omega arith)

in_sight : (directory : Option ℕ) (apps : List AppData) → directory_fault directory apps ≡ None → AreInSight directory apps
in_sight None apps none = tt
in_sight (Some sfi) apps none = each_seen 0 apps none

-- applications without a fault are a card's
pub faultless : (apps : List AppData) (directory : Option ℕ) → image_fault apps directory ≡ None → All (λ app. length app.aip ≡ 2) apps
    → AreApps apps × AreInSight directory apps
unfolding image_fault
faultless apps directory none profiles =
    let behind : Option Fault = option_or (name_fault [] apps) (directory_fault directory apps) in
    let parts = counted (is_within 1 4 (length apps)) (length apps) (option_or (field_fault 0 apps) behind) none in
    let ends = and_parts (nat_le 1 (length apps)) (nat_le (length apps) 4) parts.0 in
    let faults = first_none (field_fault 0 apps) behind parts.1 in
    let last = first_none (name_fault [] apps) (directory_fault directory apps) faults.1 in (
      record {
        some = leb-true 1 (length apps) ends.0;
        few = leb-true (length apps) 4 ends.1;
        rules = each_kept 0 apps faults.0 profiles;
        names = names_apart [] apps (λ i j d before within. absurd (omega arith)) last.0;
      },
      in_sight directory apps last.1,
    )

unbroken : (app : AppData) → KeepsRules app → app_fault app ≡ None
unfolding app_fault file_lines state_lines log_lines
unbroken app keeps =
    rw (
      keeps.name,
      keeps.label,
      keeps.pdol,
      keeps.afl,
      keeps.gpo_format,
      keeps.ac_format,
      keeps.cdol1,
      keeps.cdol2,
      keeps.records,
      keeps.pan,
      keeps.sequence,
      keeps.currency,
      keeps.sum_limit,
      keeps.pin,
      keeps.tries,
      keeps.currency_two,
      keeps.limit_two,
      keeps.log,
      keeps.room,
      keeps.log_sfi,
      keeps.opening,
    ) refl

no_field : (number : ℕ) (apps : List AppData) → All KeepsRules apps → field_fault number apps ≡ None
no_field number [] keep = refl
no_field number (app ∷ apps) keep =
    rw (unbroken app (keep 0 app (omega arith))) (no_field (number + 1) apps (λ k d within. keep (suc k) d (omega arith)))

none_hidden : (number : ℕ) (apps : List AppData) → All (λ a. is_hidden a.name ≡ false) apps → hidden_fault number apps ≡ None
none_hidden number [] seen = refl
none_hidden number (app ∷ apps) seen = rw (seen 0 app (omega arith)) (none_hidden (number + 1) apps (λ k d within. seen (suc k) d (omega arith)))

no_hidden : (directory : Option ℕ) (apps : List AppData) → AreInSight directory apps → directory_fault directory apps ≡ None
no_hidden None apps sight = refl
no_hidden (Some sfi) apps sight = none_hidden 0 apps sight

-- and a card's have no fault
pub has_no_fault : (apps : List AppData) (directory : Option ℕ) → AreApps apps → AreInSight directory apps → image_fault apps directory ≡ None
unfolding image_fault
has_no_fault apps directory are sight =
    rw (
      and_from (nat_le 1 (length apps)) (nat_le (length apps) 4) (le-leb 1 (length apps) are.some) (le-leb (length apps) 4 are.few),
      no_field 0 apps are.rules,
      no_name [] apps are.names,
    ) (no_hidden directory apps sight)
