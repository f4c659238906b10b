-- Higher targets select no fewer purchases.
use Rattle.std.proofs.Common.{◌≡◌, ℕ, ◌+◌, ◌-◌, ◌*◌, ◌<◌, ◌≤◌, Bool, true, false, IsTrue, leb, nat_le, if◌then◌else◌, arith, sym, subst}
use Rattle.std.proofs.Math.Nat.{mul-le-mul_right}
use Rattle.std.proofs.lemmas.Bool.{leb-true, le-leb}
use Rattle.emv_dict.specs.declared.purchase.AidRow.{AidRow}
use Rattle.emv_dict.specs.Settings.{IsAidRow}
use Rattle.risk_mgmt.specs.Selected.{drawn, is_biased, with_targets}

-- the bound, with the floor limit as threshold, amount above it and the rest
bound : (d t u t2 u2 a b : ℕ) → t ≤ t2 → t + u ≤ t2 + u2 → d * (a + b) ≤ u * a + t * (a + b) → d * (a + b) ≤ u2 * a + t2 * (a + b)
bound d t u t2 u2 a b target most selected =
    let first : (t + u) * a ≤ (t2 + u2) * a = mul-le-mul_right a most in
    let second : t * b ≤ t2 * b = mul-le-mul_right b target in
    omega arith

bound_at : (d f a t m t2 m2 : ℕ) → a ≤ f → t ≤ m → t2 ≤ m2 → t ≤ t2 → m ≤ m2 → d * f ≤ (m - t) * a + t * f → d * f ≤ (m2 - t2) * a + t2 * f
bound_at d f a t m t2 m2 within low low2 target most selected =
    let P : ℕ → Type 0 = λ f. d * f ≤ (m - t) * a + t * f in
    let Q : ℕ → Type 0 = λ f. d * f ≤ (m2 - t2) * a + t2 * f in
    let whole : f ≡ a + (f - a) = omega arith in
    subst Q (sym whole) (bound d t (m - t) t2 (m2 - t2) a (f - a) target (omega arith) (subst P whole selected))

below_target : (d t t2 : ℕ) → t ≤ t2 → leb d t ≡ true → leb d t2 ≡ true
below_target d t t2 higher selected =
    let old : d ≤ t = leb-true d t selected in
    let new : d ≤ t2 = omega arith in
    le-leb d t2 new

pub rising_by : (below : Bool) (row : AidRow) → IsAidRow row → (amount word target most : ℕ) → amount < row.floor
    → row.target ≤ target → row.max_target ≤ most → target ≤ most
    → IsTrue (if below then nat_le (drawn word) row.target else is_biased row amount word)
    → IsTrue (if below then nat_le (drawn word) target else is_biased (with_targets row target most) amount word)
rising_by true row fits amount word target most under higher_target higher_most low selected =
    below_target (drawn word) row.target target higher_target selected
rising_by false row fits amount word target most under higher_target higher_most low selected =
    let width = row.floor - row.threshold in
    let above = amount - row.threshold in
    let old : drawn word * width ≤ (row.max_target - row.target) * above + row.target * width = leb-true _ _ selected in
    let new : drawn word * width ≤ (most - target) * above + target * width =
    bound_at (drawn word) width above row.target row.max_target target most (omega arith) fits.target_below low higher_target higher_most old in
    le-leb _ _ new
