-- A card's bytes in both versions, and what is read of them.
use Rattle.std.proofs.Common.{◌≡◌, ◌⊎◌, ℕ, zero, suc, ◌<◌, ◌≤◌, ◌==◌, ◌&&◌, Bool, true, false, nat_le, if◌then◌else◌, List, [], ◌∷◌, length, map, get_or, Option, Some, None, option_map, IfSome, refl, sym, ◌∙◌, ap, subst, arith, inl, inr}
use Rattle.std.specs.List.{flat_map}
use Rattle.std.proofs.lemmas.Bool.Decides.{nat_tests}
use Rattle.card_state.specs.declared.decoding.Version.{Version}
use Rattle.card_state.specs.declared.decoding.Version.TheVariants.{One, Two}
use Rattle.card_state.specs.declared.state.AppState.{AppState}
use Rattle.card_state.specs.declared.state.CardState.{CardState}
use Rattle.card_state.specs.Encoding.{encoding, encoding_one, IsCardState}
use Rattle.card_state.specs.Layout.{apps_in, card_of_bytes, decoded, decoded_one}
use Rattle.card_state.specs.Upgrade.{card_as_one}
use Rattle.card_state.proofs.Apps.{app_bytes_in, as_read, AreRead, apps_in-flat_map, apps_in-are_read}

le_true : (m n : ℕ) → m ≤ n → nat_le m n ≡ true
le_true m n below = grind (arith, nat_tests)

true_le : (m n : ℕ) → nat_le m n ≡ true → m ≤ n
true_le m n test = grind (arith, nat_tests)

both : (a b : Bool) → a ≡ true → b ≡ true → (a && b) ≡ true
both true b first second = second
both false b first second = first

small : (b : Bool) → (if b then 1 else 0) ≤ 1
small true = omega arith
small false = omega arith

flag_read : (b : Bool) → ((if b then 1 else 0) == 1) ≡ b
flag_read true = refl
flag_read false = refl

flag_written : (card : ℕ) → card ≤ 1 → (if card == 1 then 1 else 0) ≡ card
flag_written zero few = refl
flag_written (suc zero) few = refl
flag_written (suc (suc n)) few = absurd (omega arith)

-- what is read of a card
abbrev pub card_read : Version → CardState → CardState
card_read v state = record { blocked = state.blocked; apps = record { items = map (as_read v) state.apps.items } }

card_of_bytes-read : (v : Version) (state : CardState) → IsCardState state
    → card_of_bytes v (length state.apps.items) (if state.blocked then 1 else 0) (flat_map (app_bytes_in v) state.apps.items) ≡ Some (card_read v state)
unfolding card_of_bytes
card_of_bytes-read v state is =
    let count : ℕ = length state.apps.items in
    let card : ℕ = (if state.blocked then 1 else 0) in
    let bytes : List ℕ = flat_map (app_bytes_in v) state.apps.items in
    let test : (nat_le count 4 && nat_le card 1) ≡ true =
    both (nat_le count 4) (nat_le card 1) (le_true count 4 is.few) (le_true card 1 (small state.blocked)) in
    let of_apps : List AppState → CardState = λ (apps : List AppState). record { blocked = card == 1; apps = record { items = apps } } in
    ap (λ b. if b then option_map of_apps (apps_in v count bytes) else None) test
    ∙ ap (λ (o : Option (List AppState)). option_map of_apps o) (apps_in-flat_map v state.apps.items is.apps)
    ∙ ap (λ b. Some (record { blocked = b; apps = record { items = map (as_read v) state.apps.items } })) (flag_read state.blocked)

same_all : (ss : List AppState) → map (as_read Two) ss ≡ ss
same_all [] = refl
same_all (s ∷ ss) = ap (λ (xs : List AppState). s ∷ xs) (same_all ss)

same_card : (state : CardState) → card_read Two state ≡ state
same_card state = λ i. record { blocked = state.blocked; apps = record { items = same_all state.apps.items i } }

-- a state is read back from its bytes of version 2
pub decoded-encoding : (state : CardState) → IsCardState state → decoded (encoding state) ≡ Some state
unfolding decoded encoding
decoded-encoding state is = card_of_bytes-read Two state is ∙ ap (λ (s : CardState). Some s) (same_card state)

-- and what version 1 knows of it from those of version 1
pub decoded-encoding_one : (state : CardState) → IsCardState state → decoded (encoding_one state) ≡ Some (card_as_one state)
unfolding decoded encoding_one
decoded-encoding_one state is = card_of_bytes-read One state is

pub decoded_one-encoding_one : (state : CardState) → IsCardState state → decoded_one (encoding_one state) ≡ Some (card_as_one state)
unfolding decoded_one encoding_one
decoded_one-encoding_one state is = card_of_bytes-read One state is

-- bytes of version 2 are none of version 1
pub decoded_one-encoding : (state : CardState) → decoded_one (encoding state) ≡ None
unfolding decoded_one encoding
decoded_one-encoding state = refl

-- the bytes that a card was read of
record IsCard (v : Version) (count card : ℕ) (bytes : List ℕ) (state : CardState) : Type 0 where
  count_is : length state.apps.items ≡ count
  flag_is : (if state.blocked then 1 else 0) ≡ card
  bytes_are : flat_map (app_bytes_in v) state.apps.items ≡ bytes
  same : card_read v state ≡ state

card_of : (v : Version) (count card : ℕ) (bytes : List ℕ) (apps : List AppState) → card ≤ 1 → AreRead v count bytes apps
    → IsCard v count card bytes (record { blocked = card == 1; apps = record { items = apps } })
card_of v count card bytes apps few read = record {
  count_is = read.count;
  flag_is = flag_written card few;
  bytes_are = read.bytes;
  same = λ i. record { blocked = card == 1; apps = record { items = read.same i } };
}

of_apps : (v : Version) (count card : ℕ) (bytes : List ℕ) (state : CardState) (o : Option (List AppState)) → card ≤ 1
    → ((apps : List AppState) → o ≡ Some apps → AreRead v count bytes apps)
    → option_map (λ (apps : List AppState). record { blocked = card == 1; apps = record { items = apps } }) o ≡ Some state
    → IsCard v count card bytes state
of_apps v count card bytes state None few reads is = cc
of_apps v count card bytes state (Some apps) few reads is =
    let read : CardState = record { blocked = card == 1; apps = record { items = apps } } in
    let same : read ≡ state = cc in
    let P : CardState → Type 0 = λ s. IsCard v count card bytes s in
    subst P same (card_of v count card bytes apps few (reads apps refl))

by_test : (v : Version) (count card : ℕ) (bytes : List ℕ) (state : CardState) (few here : Bool) (o : Option CardState) → nat_le card 1 ≡ here
    → (card ≤ 1 → o ≡ Some state → IsCard v count card bytes state)
    → (if few && here then o else None) ≡ Some state → IsCard v count card bytes state
by_test v count card bytes state true true o test reads is = reads (true_le card 1 test) is
by_test v count card bytes state true false o test reads is = cc
by_test v count card bytes state false here o test reads is = cc

card_of_bytes-is_card : (v : Version) (count card : ℕ) (bytes : List ℕ) (state : CardState) → ((i : ℕ) → get_or bytes i 0 < 256)
    → card_of_bytes v count card bytes ≡ Some state → IsCard v count card bytes state
unfolding card_of_bytes
card_of_bytes-is_card v count card bytes state fits is =
    by_test v count card bytes state (nat_le count 4) (nat_le card 1)
    (option_map (λ (apps : List AppState). record { blocked = card == 1; apps = record { items = apps } }) (apps_in v count bytes)) refl
    (λ few found. of_apps v count card bytes state (apps_in v count bytes) few (λ apps read. apps_in-are_read v count bytes apps fits read) found) is

-- the bytes of the state that is read of them
abbrev pub IsEncoded : CardState → List ℕ → Type 0
IsEncoded state bytes = (encoding state ≡ bytes) ⊎ ((encoding_one state ≡ bytes) × (card_as_one state ≡ state))

two_encoded : (count card : ℕ) (bytes : List ℕ) (state : CardState) → IsCard Two count card bytes state → IsEncoded state (2 ∷ count ∷ card ∷ bytes)
unfolding encoding
two_encoded count card bytes state read = inl (λ i. 2 ∷ read.count_is i ∷ read.flag_is i ∷ read.bytes_are i)

one_encoded : (count card : ℕ) (bytes : List ℕ) (state : CardState) → IsCard One count card bytes state → IsEncoded state (1 ∷ count ∷ card ∷ bytes)
unfolding encoding_one
one_encoded count card bytes state read = inr ((λ i. 1 ∷ read.count_is i ∷ read.flag_is i ∷ read.bytes_are i), read.same)

by_version : (version count card : ℕ) (bytes : List ℕ) (state : CardState) (one two : Bool) → (version == 1) ≡ one → (version == 2) ≡ two
    → ((i : ℕ) → get_or bytes i 0 < 256)
    → (if one then card_of_bytes One count card bytes else if two then card_of_bytes Two count card bytes else None) ≡ Some state
    → IsEncoded state (version ∷ count ∷ card ∷ bytes)
by_version version count card bytes state true two first second fits is =
    let first_is : 1 ≡ version = grind (arith, nat_tests) in
    let P : ℕ → Type 0 = λ v. IsEncoded state (v ∷ count ∷ card ∷ bytes) in
    subst P first_is (one_encoded count card bytes state (card_of_bytes-is_card One count card bytes state fits is))
by_version version count card bytes state false true first second fits is =
    let second_is : 2 ≡ version = grind (arith, nat_tests) in
    let P : ℕ → Type 0 = λ v. IsEncoded state (v ∷ count ∷ card ∷ bytes) in
    subst P second_is (two_encoded count card bytes state (card_of_bytes-is_card Two count card bytes state fits is))
by_version version count card bytes state false false first second fits is = cc

pub decoded-is_encoded : (bytes : List ℕ) (state : CardState) → ((i : ℕ) → get_or bytes i 0 < 256) → decoded bytes ≡ Some state → IsEncoded state bytes
unfolding decoded
decoded-is_encoded [] state fits is = cc
decoded-is_encoded (a ∷ []) state fits is = cc
decoded-is_encoded (a ∷ b ∷ []) state fits is = cc
decoded-is_encoded (version ∷ count ∷ card ∷ bytes) state fits is =
    by_version version count card bytes state (version == 1) (version == 2) refl refl (λ i. fits (suc (suc (suc i)))) is

-- so of what was read, if anything was
pub if_encoded : (bytes : List ℕ) (o : Option CardState) → ((i : ℕ) → get_or bytes i 0 < 256) → o ≡ decoded bytes
    → IfSome o (λ state. IsEncoded state bytes)
if_encoded bytes None fits is = tt
if_encoded bytes (Some state) fits is = decoded-is_encoded bytes state fits (sym is)

-- reading a card

pub short_bytes : (bytes : List ℕ) → length bytes < 3 → decoded bytes ≡ None
unfolding decoded
short_bytes [] few = refl
short_bytes (a ∷ []) few = refl
short_bytes (a ∷ b ∷ []) few = refl
short_bytes (a ∷ b ∷ c ∷ bytes) few = absurd (omega arith)

pub short_bytes_one : (bytes : List ℕ) → length bytes < 3 → decoded_one bytes ≡ None
unfolding decoded_one
short_bytes_one [] few = refl
short_bytes_one (a ∷ []) few = refl
short_bytes_one (a ∷ b ∷ []) few = refl
short_bytes_one (a ∷ b ∷ c ∷ bytes) few = absurd (omega arith)

module _ (v : Version) (count card : ℕ) (bytes : List ℕ) where
  abbrev card_with : List AppState → CardState
  card_with apps = record { blocked = card == 1; apps = record { items = apps } }

  pub no_head : (nat_le count 4 && nat_le card 1) ≡ false → None ≡ card_of_bytes v count card bytes
  unfolding card_of_bytes
  no_head test = sym (ap (λ b. if b then option_map card_with (apps_in v count bytes) else None) test)

  pub with_head : (nat_le count 4 && nat_le card 1) ≡ true → (o : Option (List AppState)) → o ≡ apps_in v count bytes → option_map card_with o ≡ card_of_bytes v count card bytes
  unfolding card_of_bytes
  with_head test o is =
      ap (λ (p : Option (List AppState)). option_map card_with p) is ∙ sym (ap (λ b. if b then option_map card_with (apps_in v count bytes) else None) test)
