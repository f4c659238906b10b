-- What the accounts have paid, added up one by one.
use Rattle.std.proofs.Common.{◌≡◌, ◌≢◌, ℕ, zero, suc, ◌+◌, ◌-◌, ◌^◌, ◌<◌, ◌≤◌, min, ℤ, pos, ◌+ℤ◌, ◌-ℤ◌, List, [], ◌∷◌, length, take, get_or, Some, refl, sym, ap, ◌∙◌, subst, arith}
use Rattle.std.specs.List.{fold}
use Rattle.std.specs.Str.{bytes_eq}
use Rattle.std.proofs.lemmas.List.{take_all}
use Rattle.std.proofs.lemmas.List.Sums.{fold_more}
use Rattle.std.proofs.lemmas.Bool.{false_from_ne_true}
use Rattle.std.proofs.lemmas.Int.{ints}
use Rattle.host_ledger.proofs.Keys.{own_pan, same_pan}
use Rattle.issuer_host.specs.Account.{AccountData}
use Rattle.issuer_host.specs.Balance.{account_with_pan, taken_in_all}
use Rattle.issuer_host.specs.History.{books_of}
use Rattle.scenario_plan.specs.Plan.{ScenarioData, HaveOwnPans}
use Rattle.txn_replay.specs.World.{World}
use Rattle.emv_top.specs.Generating.{booked, capped_sum, paid}

-- an account is found by its own number
account_at : (accounts : List AccountData) → HaveOwnPans accounts → (i : ℕ) → i < length accounts → (d : AccountData)
    → account_with_pan (get_or accounts i d).pan accounts ≡ Some (get_or accounts i d)
account_at [] own i within d = absurd (omega (arith, within))
account_at (first ∷ accounts) own zero within d = rw (own_pan first.pan) refl
account_at (first ∷ accounts) own (suc i) within d =
    let differs : first.pan ≢ (get_or accounts i d).pan = own 0 (suc i) d (omega arith) within in
    rw (false_from_ne_true (bytes_eq (get_or accounts i d).pan first.pan) (λ same. differs (sym (same_pan (get_or accounts i d).pan first.pan same))))
    (account_at accounts (λ j k e order below. own (suc j) (suc k) e (omega (arith, order)) (omega (arith, below))) i (omega (arith, within)) d)

difference : (opening t : ℕ) → pos opening -ℤ (pos opening -ℤ pos t) ≡ pos t
difference opening t = omega (arith, ints)

abbrev pub plus : ScenarioData → World → ℤ → AccountData → ℤ
plus s w sum account = sum +ℤ paid s w account

-- what the first accounts have paid
abbrev pub upto : ScenarioData → World → ℕ → ℤ
upto s w i = fold (plus s w) (pos 0) (take i s.accounts)

module _ (s : ScenarioData) (w : World) (own : HaveOwnPans s.accounts) where
  -- none has a balance above its opening one
  some_paid : (i : ℕ) → i < length s.accounts → (d : AccountData) → (t : ℕ) × (paid s w (get_or s.accounts i d) ≡ pos t)
  some_paid i within d =
      let account : AccountData = get_or s.accounts i d in
      let t : ℕ = taken_in_all account.pan (books_of s.issuer s.accounts w.messages) in
      (t, rw (account_at s.accounts own i within d) (difference account.balance t))

  more : (i : ℕ) → i < length s.accounts → (d : AccountData) → upto s w (i + 1) ≡ upto s w i +ℤ paid s w (get_or s.accounts i d)
  more i within d = fold_more (plus s w) (pos 0) s.accounts i d within

  some_upto : (i : ℕ) → i ≤ length s.accounts → AccountData → (n : ℕ) × (upto s w i ≡ pos n)
  some_upto zero few d = (0, refl)
  some_upto (suc i) few d =
      let before = some_upto i (omega (arith, few)) d in
      let one = some_paid i (omega (arith, few)) d in
      let next : suc i ≡ i + 1 = omega arith in
      (before.0 + one.0, ap (upto s w) next ∙ more i (omega (arith, few)) d ∙ ap (λ (x : ℤ). x +ℤ paid s w (get_or s.accounts i d)) before.1 ∙ ap (λ (x : ℤ). pos before.0 +ℤ x) one.1)

  -- the items that are walked are the accounts, and the world has the scenario
  module _ (u : ScenarioData) (told : u ≡ s) (items : List AccountData) (same : items ≡ s.accounts) (i : ℕ) where
    pub booked_more : (account : AccountData) → i < length items → account ≡ get_or items i account → (sum one : ℤ)
        → sum ≡ capped_sum (upto s w i) → one ≡ capped_sum (paid u w account) → capped_sum (sum +ℤ one) ≡ capped_sum (upto s w (i + 1))
    booked_more account within is sum one so_far last =
        let here : i < length s.accounts = subst (λ (xs : List AccountData). i < length xs) same within in
        let at : account ≡ get_or s.accounts i account = is ∙ ap (λ (xs : List AccountData). get_or xs i account) same in
        let n = some_upto i (omega (arith, here)) account in
        let t = some_paid i here account in
        let left : sum ≡ pos (min n.0 (2 ^ 127 - 1)) = so_far ∙ ap capped_sum n.1 in
        let right : one ≡ pos (min t.0 (2 ^ 127 - 1)) =
        last ∙ ap (λ (x : ScenarioData). capped_sum (paid x w account)) told ∙ ap (λ (a : AccountData). capped_sum (paid s w a)) at ∙ ap capped_sum t.1 in
        let both : upto s w (i + 1) ≡ pos (n.0 + t.0) =
        more i here account ∙ ap (λ (x : ℤ). x +ℤ paid s w (get_or s.accounts i account)) n.1 ∙ ap (λ (x : ℤ). pos n.0 +ℤ x) t.1 in
        ap (λ (x : ℤ). capped_sum (x +ℤ one)) left ∙ ap (λ (x : ℤ). capped_sum (pos (min n.0 (2 ^ 127 - 1)) +ℤ x)) right
        ∙ ap pos (omega arith) ∙ ap capped_sum (sym both)

    pub booked_all : length items ≤ i → (sum : ℤ) → sum ≡ capped_sum (upto s w i) → sum ≡ capped_sum (booked s w)
    booked_all past sum all =
        all ∙ ap (λ (xs : List AccountData). capped_sum (fold (plus s w) (pos 0) xs))
        (take_all i s.accounts (subst (λ (xs : List AccountData). length xs ≤ i) same past))
