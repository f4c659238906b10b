-- No two accounts of a document have one PAN, and the names of its cards are of 0 to 9 and a to z.
use Rattle.std.proofs.Common.{◌≡◌, ◌≢◌, ℕ, ◌+◌, Bool, true, false, not, List, [], ◌∷◌, ◌++◌, get_or, Result, Ok, refl, subst, ◌∙◌, ap, append_assoc, append-nil, arith}
use Rattle.std.specs.Prelude.{codes, IsTrue}
use Rattle.std.specs.List.{All}
use Rattle.std.specs.Str.{bytes_eq}
use Rattle.std.proofs.lemmas.List.Elements.{All-cons}
use Rattle.std.proofs.lemmas.List.Quantifiers.{all_pairs_push}
use Rattle.std.proofs.lemmas.Slice.Eq.{bytes_eq-Decides}
use Rattle.issuer_host.specs.Account.{AccountData}
use Rattle.issuer_host.specs.declared.keys.HostKeys.{HostKeys}
use Rattle.toml.specs.Data.{Data, Items, no_items, item, Members}
use Rattle.scenario_fields.proofs.Steps.{then_ok, kept, text_at_ok, none_passes}
use Rattle.scenario_fields.specs.Value.{is_one_of, table_of}
use Rattle.scenario_fields.specs.declared.spot.Characters.TheVariants.{LowercaseOrDigit}
use Rattle.scenario_fields.specs.declared.fault.ScenarioFault.{ScenarioFault}
use Rattle.emv_dict.specs.Pan.{least_pan, most_pan}
use Rattle.emv_dict.specs.Settings.{most_amount}
use Rattle.scenario_fields.specs.Fields.{number_at, flag_or, text_at, digits_at, optional_digits, code_at, array_at, table_item, only}
use Rattle.scenario_fields.specs.TablePaths.{at_top, in_account, in_card, item_path}
use Rattle.scenario.proofs.CardParts.{not_true}
use Rattle.scenario.specs.Accounts.{has_pan, new_pan, scripts_at, method_at, status_at, account_keys, account_of, account_item, accounts_from}
use Rattle.scenario.specs.Cards.{is_name_used, new_card_name, card_of, card_keys, card_item, cards_from, cards_at, card_kind_at}
use Rattle.scenario_plan.specs.Cards.{CardData}
use Rattle.scenario_plan.specs.Plan.{HasPlainName, HaveOwnPans}

differ : (xs ys : List ℕ) → bytes_eq xs ys ≡ false → xs ≢ ys
differ xs ys other same = cc ((bytes_eq-Decides xs ys).1 same, other)

ok_is : {A : Type 0} (x y : A) → (let whole : Result A ScenarioFault = Ok x in whole ≡ Ok y) → x ≡ y
ok_is x y is = cc

-- an account behind earlier ones has a PAN of its own
new_pan_is : (path : List ℕ → List ℕ) (earlier : List AccountData) (ms : Members) (pan : List ℕ) → new_pan path earlier ms ≡ Ok pan → has_pan pan earlier ≡ false
unfolding new_pan
new_pan_is path earlier ms pan is =
    let digits = then_ok (digits_at path (codes "pan") least_pan most_pan ms) _ pan is in
    let fresh = kept (not (has_pan digits.0 earlier)) _ digits.0 pan digits.2 in
    rw (← fresh.1) (not_true _ fresh.0)

account_pan : (path : List ℕ → List ℕ) (i : ℕ) (earlier : List AccountData) (ms : Members) (account : AccountData) →
    account_of path i earlier ms ≡ Ok account → new_pan path earlier ms ≡ Ok account.pan
unfolding account_of
account_pan path i earlier ms account is =
    let pan = then_ok (new_pan path earlier ms) _ account is in
    let currency = then_ok (code_at path (codes "currency") ms) _ account pan.2 in
    let balance = then_ok (number_at path (codes "balance") 0 most_amount ms) _ account currency.2 in
    let blocked = then_ok (flag_or false path (codes "blocked") ms) _ account balance.2 in
    let pin = then_ok (optional_digits path (codes "pin") 4 12 ms) _ account blocked.2 in
    let scripts = then_ok (scripts_at path i ms) _ account pin.2 in
    let arpc = then_ok (method_at path ms) _ account scripts.2 in
    let status = then_ok (status_at path ms) _ account arpc.2 in
    let known = then_ok (only path account_keys ms) _ account status.2 in
    let same = ok_is _ account known.2 in
    pan.1 ∙ ap (λ (a : AccountData). Ok a.pan) same

new_account : (path : List ℕ → List ℕ) (i : ℕ) (earlier : List AccountData) (d : Data) (account : AccountData) →
    account_item path i earlier d ≡ Ok account → has_pan account.pan earlier ≡ false
unfolding account_item
new_account path i earlier d account is =
    let keys = then_ok (table_item path (codes "account") i d) _ account is in
    new_pan_is (in_account i) earlier keys.0 account.pan (account_pan (in_account i) i earlier keys.0 account keys.2)

one_more_pan : (earlier : List AccountData) (account : AccountData) → has_pan account.pan earlier ≡ false → HaveOwnPans earlier → HaveOwnPans (earlier ++ account ∷ [])
unfolding has_pan
one_more_pan earlier account fresh apart =
    all_pairs_push (λ a b. a.pan ≢ b.pan) earlier account apart
    (λ k d inside. differ (get_or earlier k d).pan account.pan (none_passes (λ a. bytes_eq a.pan account.pan) earlier k d fresh inside))

accounts_apart : (path : List ℕ → List ℕ) (i : ℕ) (earlier : List AccountData) (ds : Items) (found : List AccountData) →
    accounts_from path i earlier ds ≡ Ok found → HaveOwnPans earlier → HaveOwnPans (earlier ++ found)
accounts_apart path i earlier no_items found is apart =
    let none : [] ≡ found = ok_is [] found is in
    subst (λ (accounts : List AccountData). HaveOwnPans (earlier ++ accounts)) none (rw (append-nil earlier) apart)
accounts_apart path i earlier (item d ds) found is apart =
    let first = then_ok (account_item path i earlier d) _ found is in
    let rest = then_ok (accounts_from path (i + 1) (earlier ++ first.0 ∷ []) ds) _ found first.2 in
    let whole : first.0 ∷ rest.0 ≡ found = ok_is (first.0 ∷ rest.0) found rest.2 in
    let more : HaveOwnPans ((earlier ++ first.0 ∷ []) ++ rest.0) =
    accounts_apart path (i + 1) (earlier ++ first.0 ∷ []) ds rest.0 rest.1 (one_more_pan earlier first.0 (new_account path i earlier d first.0 first.1) apart) in
    subst (λ (accounts : List AccountData). HaveOwnPans (earlier ++ accounts)) whole
    (subst (λ (accounts : List AccountData). HaveOwnPans accounts) (append_assoc earlier (first.0 ∷ []) rest.0) more)

no_pairs : HaveOwnPans []
no_pairs = λ i j d before inside. absurd (omega arith)

pub accounts_own_pans : (path : List ℕ → List ℕ) (ds : Items) (accounts : List AccountData) → accounts_from path 0 [] ds ≡ Ok accounts → HaveOwnPans accounts
accounts_own_pans path ds accounts is = accounts_apart path 0 [] ds accounts is no_pairs

-- the characters of a card's name
plain_name : (i : ℕ) (earlier : List CardData) (ms : Members) (name : List ℕ) → new_card_name i earlier ms ≡ Ok name → All (λ c. IsTrue (is_one_of LowercaseOrDigit c)) name
unfolding new_card_name
plain_name i earlier ms name is =
    let text = then_ok (text_at (in_card i) (codes "name") LowercaseOrDigit 1 16 ms) _ name is in
    let fresh = kept (not (is_name_used text.0 earlier)) _ text.0 name text.2 in
    let found = text_at_ok (in_card i) (codes "name") LowercaseOrDigit 1 16 ms text.0 text.1 in
    rw (← fresh.1) found.2

plainly_named : (i : ℕ) (keys : HostKeys) (earlier : List CardData) (d : Data) (card : CardData) → card_item i keys earlier d ≡ Ok card → HasPlainName card
unfolding card_item card_of
plainly_named i keys earlier d card is =
    let table = then_ok (table_of (item_path (codes "card") i []) d) _ card is in
    let name = then_ok (new_card_name i earlier table.0) _ card table.2 in
    let kind = then_ok (card_kind_at i keys table.0) _ card name.2 in
    let known = then_ok (only (in_card i) card_keys table.0) _ card kind.2 in
    rw (← ok_is _ card known.2) (plain_name i earlier table.0 name.0 name.1)

cards_named : (i : ℕ) (keys : HostKeys) (earlier : List CardData) (ds : Items) (found : List CardData) → cards_from i keys earlier ds ≡ Ok found → All HasPlainName found
cards_named i keys earlier no_items found is = let none : [] ≡ found = ok_is [] found is in rw (← none) (λ k d inside. absurd (omega arith))
cards_named i keys earlier (item d ds) found is =
    let first = then_ok (card_item i keys earlier d) _ found is in
    let rest = then_ok (cards_from (i + 1) keys (earlier ++ first.0 ∷ []) ds) _ found first.2 in
    let whole : first.0 ∷ rest.0 ≡ found = ok_is (first.0 ∷ rest.0) found rest.2 in
    rw (← whole)
    (All-cons HasPlainName first.0 rest.0 (plainly_named i keys earlier d first.0 first.1) (cards_named (i + 1) keys (earlier ++ first.0 ∷ []) ds rest.0 rest.1))

pub plain_names : (keys : HostKeys) (ms : Members) (cards : List CardData) → cards_at keys ms ≡ Ok cards → All HasPlainName cards
unfolding cards_at
plain_names keys ms cards is =
    let items = then_ok (array_at at_top (codes "card") 1 64 ms) _ cards is in
    cards_named 0 keys [] items.0 cards items.2
