-- What a host knows of an account, and what it keeps true as it keeps a message.
use Rattle.std.proofs.Common.{◌≡◌, ℕ, ◌+◌, take, Bool, true, false, ◌&&◌, ◌||◌, List, [], ◌∷◌, ◌++◌, map, length, Option, Some, None, refl, sym, ap, subst, ◌∙◌, arith, ◌<◌, ◌-ℤ◌, pos, ℤ, length-set, zero, suc, ◌⊎◌, inl, inr, Bor, IfSome}
use Rattle.std.proofs.Math.ListN.{set}
use Rattle.std.proofs.lemmas.Bool.{false_from_ne_true, cases_eq}
use Rattle.std.specs.Prelude.{◌≢◌, option_map, slice_get, replicate}
use Rattle.std.specs.List.{All, list_any}
use Rattle.std.specs.Str.{bytes_eq}
use Rattle.std.proofs.lemmas.List.{length-replicate, length-map, take-map}
use Rattle.std.proofs.lemmas.Option.{slice_get-map}
use Rattle.std.proofs.lemmas.List.Elements.{recursion_from_All}
use Rattle.std.proofs.lemmas.List.Folds.{list_any-append}
use Rattle.host_ledger.specs.Accounts.{opening_balance_of, AreDistinctBelow, IsRepeat}
use Rattle.host_ledger.proofs.Keys.{same_pan, own_pan}
use Rattle.host_ledger.proofs.Opening.{repeats, passed}
use Rattle.issuer_host.specs.Account.{AccountData, IsAccount}
use Rattle.issuer_host.specs.Balance.{account_with_pan, balance_in, taken_in_all}
use Rattle.issuer_host.specs.Books.{KeptCall, no_books}
use Rattle.issuer_host.specs.Holds.{Holds, account_place, account_in, flag_at, or_false, with_flag, opening_balance}
use Rattle.issuer_host.specs.Records.{RecordsData, balance_left}
use Rattle.issuer_host.specs.Reply.{is_served}
use Rattle.issuer_host.proofs.Places.{account_found, has_pan, valid_found, opening_found, place_within}

twice : (r : Option AccountData) (f : ℕ → ℤ) → option_map f (option_map (λ a. a.balance) r) ≡ option_map (λ a. f a.balance) r
twice None f = refl
twice (Some a) f = refl

-- the balance that is left is that of the definition, where the records have the accounts' openings
pub left_is : (accounts : List AccountData) (records : RecordsData) (pan : List ℕ) → records.accounts ≡ map opening_balance accounts → balance_left records pan ≡ balance_in accounts records.books pan
left_is accounts records pan openings =
    ap (λ l. option_map (λ opening. pos opening -ℤ pos (taken_in_all pan records.books)) (opening_balance_of pan l)) openings
    ∙ ap (option_map (λ opening. pos opening -ℤ pos (taken_in_all pan records.books))) (opening_found pan accounts)
    ∙ twice (account_with_pan pan accounts) (λ opening. pos opening -ℤ pos (taken_in_all pan records.books))

pub left_known : (accounts : List AccountData) (records : RecordsData) (pan : List ℕ) (a : AccountData) → records.accounts ≡ map opening_balance accounts → account_with_pan pan accounts ≡ Some a
    → balance_left records a.pan ≡ Some (pos a.balance -ℤ pos (taken_in_all a.pan records.books))
left_known accounts records pan a openings is =
    let found : account_with_pan a.pan accounts ≡ Some a = ap (λ p. account_with_pan p accounts) (has_pan pan accounts a is) ∙ is in
    left_is accounts records a.pan openings ∙ ap (option_map (λ account. pos account.balance -ℤ pos (taken_in_all a.pan records.books))) found

-- the ledger's balance is that of the definition
pub balance_is : (accounts : List AccountData) (records : RecordsData) (served : List Bool) (pan : List ℕ) → Holds accounts records served → balance_left records pan ≡ balance_in accounts records.books pan
balance_is accounts records served pan holds = left_is accounts records pan holds.openings

pub known_balance : (accounts : List AccountData) (records : RecordsData) (served : List Bool) (pan : List ℕ) (a : AccountData) → Holds accounts records served → account_with_pan pan accounts ≡ Some a
    → balance_left records a.pan ≡ Some (pos a.balance -ℤ pos (taken_in_all a.pan records.books))
known_balance accounts records served pan a holds is = left_known accounts records pan a holds.openings is

pub account_valid : (accounts : List AccountData) (records : RecordsData) (served : List Bool) (pan : List ℕ) (a : AccountData) → Holds accounts records served → account_with_pan pan accounts ≡ Some a → IsAccount a
account_valid accounts records served pan a holds is = valid_found pan accounts a (recursion_from_All IsAccount accounts holds.valid) is

pub flag_known : (accounts : List AccountData) (records : RecordsData) (served : List Bool) (pan : List ℕ) (a : AccountData) → Holds accounts records served → account_with_pan pan accounts ≡ Some a
    → flag_at served (account_place pan accounts) ≡ is_served a.pan records.books
flag_known accounts records served pan a holds is = by (account_place pan accounts) refl
  where
    by : (r : Option ℕ) → account_place pan accounts ≡ r → flag_at served r ≡ is_served a.pan records.books
    by None e =
        let none : None ≡ Some a = ap (account_in accounts) (sym e) ∙ account_found pan accounts ∙ is in
        absurd cc
    by (Some p) e = ap or_false (holds.flags pan p e) ∙ ap (λ n. is_served n records.books) (sym (has_pan pan accounts a is))

-- a request more
abbrev pub more_requests : RecordsData → KeptCall → RecordsData
more_requests records new = record { accounts = records.accounts; books = record { requests = records.books.requests ++ new ∷ []; presentments = records.books.presentments; reversals = records.books.reversals } }

or_none : (a b : Bool) → b ≡ false → (a || (b || false)) ≡ a
or_none true b is = refl
or_none false b is = rw is refl

or_some : (a b : Bool) → b ≡ true → (a || (b || false)) ≡ true
or_some true b is = refl
or_some false b is = rw is refl

served_more : (pan : List ℕ) (records : RecordsData) (new : KeptCall) → is_served pan (more_requests records new).books ≡ (is_served pan records.books || ((new.online && bytes_eq pan new.key.pan) || false))
served_more pan records new = list_any-append (λ k. k.online && bytes_eq pan k.key.pan) records.books.requests (new ∷ [])

-- a request whose reply carried no scripts
pub holds_plain : (accounts : List AccountData) (records : RecordsData) (served : List Bool) (new : KeptCall) → Holds accounts records served → new.online ≡ false → Holds accounts (more_requests records new) served
holds_plain accounts records served new holds plain = record {
  valid = holds.valid;
  openings = holds.openings;
  sized = holds.sized;
  flags = λ pan place is. holds.flags pan place is ∙ ap Some (sym (served_more pan records new ∙ or_none (is_served pan records.books) (new.online && bytes_eq pan new.key.pan) (rw plain refl)));
}

get_set : (flags : List Bool) (place : ℕ) (flag : Bool) → slice_get flags place ≡ Some flag → slice_get (set flags place true) place ≡ Some true
get_set [] zero flag is = cc
get_set [] (suc place) flag is = cc
get_set (f ∷ flags) zero flag is = refl
get_set (f ∷ flags) (suc place) flag is = get_set flags place flag is

get_other : (flags : List Bool) (place other : ℕ) → place ≢ other → slice_get (set flags place true) other ≡ slice_get flags other
get_other [] zero zero differ = refl
get_other [] zero (suc other) differ = refl
get_other [] (suc place) zero differ = refl
get_other [] (suc place) (suc other) differ = refl
get_other (f ∷ flags) zero zero differ = absurd (differ refl)
get_other (f ∷ flags) zero (suc other) differ = refl
get_other (f ∷ flags) (suc place) zero differ = refl
get_other (f ∷ flags) (suc place) (suc other) differ = get_other flags place other (λ e. differ (ap suc e))

-- two account numbers at one place are one
same_place : (accounts : List AccountData) (pan other : List ℕ) (place : ℕ) (a : AccountData) → account_with_pan pan accounts ≡ Some a → account_place pan accounts ≡ Some place → account_place other accounts ≡ Some place → other ≡ pan
same_place accounts pan other place a is here there =
    let at : account_in accounts (Some place) ≡ Some a = ap (account_in accounts) (sym here) ∙ account_found pan accounts ∙ is in
    let found : account_with_pan other accounts ≡ Some a = sym (account_found other accounts) ∙ ap (account_in accounts) there ∙ at in
    sym (has_pan other accounts a found) ∙ has_pan pan accounts a is

-- a request whose reply carried the account's scripts
pub holds_online : (accounts : List AccountData) (records : RecordsData) (served : List Bool) (new : KeptCall) (a : AccountData) → Holds accounts records served → new.online ≡ true → account_with_pan new.key.pan accounts ≡ Some a
    → Holds accounts (more_requests records new) (with_flag served (account_place new.key.pan accounts))
holds_online accounts records served new a holds online is = by (account_place new.key.pan accounts) refl
  where
    by : (r : Option ℕ) → account_place new.key.pan accounts ≡ r → Holds accounts (more_requests records new) (with_flag served r)
    by None e =
        let none : None ≡ Some a = ap (account_in accounts) (sym e) ∙ account_found new.key.pan accounts ∙ is in
        absurd cc
    by (Some p) e = record {
      valid = holds.valid;
      openings = holds.openings;
      sized = length-set served p true ∙ holds.sized;
      flags = λ pan place at. flag pan place at (cases_eq p place);
    }
      where
        flag : (pan : List ℕ) (place : ℕ) → account_place pan accounts ≡ Some place → ((p ≡ place) ⊎ (p ≢ place)) → slice_get (set served p true) place ≡ Some (is_served pan (more_requests records new).books)
        flag pan place at (inl one) =
            let there : account_place pan accounts ≡ Some p = at ∙ ap Some (sym one) in
            let own_number : pan ≡ new.key.pan = same_place accounts new.key.pan pan p a is e there in
            let yes : (new.online && bytes_eq pan new.key.pan) ≡ true = rw online (ap (λ n. bytes_eq n new.key.pan) own_number ∙ own_pan new.key.pan) in
            let set_there : slice_get (set served p true) place ≡ Some true = ap (slice_get (set served p true)) (sym one) ∙ get_set served p (is_served pan records.books) (holds.flags pan p there) in
            set_there ∙ ap Some (sym (served_more pan records new ∙ or_some (is_served pan records.books) (new.online && bytes_eq pan new.key.pan) yes))
        flag pan place at (inr differ) =
            let other : pan ≢ new.key.pan = λ h. let two : Some place ≡ Some p = sym at ∙ ap (λ n. account_place n accounts) h ∙ e in let same_number : place ≡ p = cc in differ (sym same_number) in
            let no : (new.online && bytes_eq pan new.key.pan) ≡ false = rw online (false_from_ne_true (bytes_eq pan new.key.pan) (λ h. other (same_pan pan new.key.pan h))) in
            get_other served p place differ ∙ holds.flags pan place at
            ∙ ap Some (sym (served_more pan records new ∙ or_none (is_served pan records.books) (new.online && bytes_eq pan new.key.pan) no))

-- a host before its first message
pub holds_new : (accounts : List AccountData) (records : RecordsData) (served : List Bool) → All IsAccount accounts → records ≡ record { accounts = map opening_balance accounts; books = no_books } → served ≡ replicate (length accounts) false
    → Holds accounts records served
holds_new accounts records served valid is flags_are = record {
  valid = valid;
  openings = ap (λ (r : RecordsData). r.accounts) is;
  sized = ap length flags_are ∙ length-replicate (length accounts) false;
  flags = λ pan place at. ap (λ f. slice_get f place) flags_are ∙ none_at pan place at ∙ ap (λ (r : RecordsData). Some (is_served pan r.books)) (sym is);
}
  where
    all_false : (count place : ℕ) → place < count → slice_get (replicate count false) place ≡ Some false
    all_false zero place within = absurd (omega arith)
    all_false (suc count) zero within = refl
    all_false (suc count) (suc place) within = all_false count place (omega arith)

    none_at : (pan : List ℕ) (place : ℕ) → account_place pan accounts ≡ Some place → slice_get (replicate (length accounts) false) place ≡ Some false
    none_at pan place at = all_false (length accounts) place (place_within pan accounts place at)

-- what is seen of an account that was lent
pub seen_some : (r : Option (Bor AccountData)) (P : AccountData → Type 0) (found : Option AccountData) → option_map (λ a. a.now) r ≡ found → ((a : AccountData) → found ≡ Some a → P a) → IfSome r (λ a. P a.now)
seen_some None P found e all = tt
seen_some (Some b) P found e all = all b.now (sym e)

-- no account number stands twice
pub distinct_openings : (accounts : List AccountData) (openings : List (List ℕ × ℕ)) → openings ≡ map opening_balance accounts → AreDistinctBelow openings (length openings) → (k : ℕ) → k < length accounts → IsRepeat (map opening_balance accounts) k → ⊥
distinct_openings accounts openings is distinct k within repeat =
    let count : length openings ≡ length accounts = ap length is ∙ length-map accounts opening_balance in
    distinct k (omega arith) (subst (λ l. IsRepeat l k) (sym is) repeat)

any_opened : (pan : List ℕ) (accounts : List AccountData) → list_any (λ account. bytes_eq pan account.pan) accounts ≡ list_any (λ item. bytes_eq pan item.0) (map opening_balance accounts)
any_opened pan [] = refl
any_opened pan (a ∷ accounts) = ap (λ b. bytes_eq pan a.pan || b) (any_opened pan accounts)

-- an account before a place is looked for as its opening balance is
looked : (pan : List ℕ) (accounts : List AccountData) (place : ℕ) (b : Bool) → list_any (λ account. bytes_eq pan account.pan) (take place accounts) ≡ b
    → list_any (λ item. bytes_eq pan item.0) (take place (map opening_balance accounts)) ≡ b
looked pan accounts place b is = ap (list_any (λ (item : List ℕ × ℕ). bytes_eq pan item.0)) (take-map opening_balance place accounts) ∙ sym (any_opened pan (take place accounts)) ∙ is

opening_there : (accounts : List AccountData) (place : ℕ) (a : AccountData) → slice_get accounts place ≡ Some a → slice_get (map opening_balance accounts) place ≡ Some (opening_balance a)
opening_there accounts place a there = slice_get-map opening_balance accounts place ∙ ap (option_map opening_balance) there

pub account_repeats : (accounts : List AccountData) (place : ℕ) (a : AccountData) → slice_get accounts place ≡ Some a
    → list_any (λ account. bytes_eq a.pan account.pan) (take place accounts) ≡ true → IsRepeat (map opening_balance accounts) place
account_repeats accounts place a there found =
    repeats (map opening_balance accounts) place (opening_balance a) (opening_there accounts place a there) (looked a.pan accounts place true found)

pub account_passed : (accounts : List AccountData) (place : ℕ) (a : AccountData) → slice_get accounts place ≡ Some a
    → list_any (λ account. bytes_eq a.pan account.pan) (take place accounts) ≡ false → AreDistinctBelow (map opening_balance accounts) place → AreDistinctBelow (map opening_balance accounts) (place + 1)
account_passed accounts place a there lacking below =
    passed (map opening_balance accounts) place (opening_balance a) (opening_there accounts place a there) (looked a.pan accounts place false lacking) below
