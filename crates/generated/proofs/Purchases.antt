-- The purchases of a generated scenario keep to their rules, and their tears leave no choice.
use Rattle.std.proofs.Common.{◌<◌, ◌%◌, ℕ, Bool, true, false, [], ◌∷◌, refl, arith}
use Rattle.std.specs.Prelude.{IfSome, IsTrue, Some, None, if◌then◌else◌, ◌==◌, ◌/◌}
use Rattle.std.proofs.Math.Nat.{mod-lt}
use Rattle.std.proofs.lemmas.List.Elements.{All-cons, All-nil}
use Rattle.std.proofs.lemmas.List.Sums.{AllPass-from_list_all}
use Rattle.emv_dict.specs.Bcd.{has_digits}
use Rattle.emv_dict.specs.Digits.{HasPinLength}
use Rattle.emv_dict.specs.Settings.{IsPurchase}
use Rattle.emv_ports.specs.Cut.{is_plan}
use Rattle.emv_ports.specs.declared.tear.Tear.{Tear}
use Rattle.scenario_lanes.specs.Plan.{IsPlanned, IsEarly}
use Rattle.generated.specs.Issuer.{pin}
use Rattle.generated.specs.Purchases.{purchase_by, cut_cryptogram, planned_by, LeavesNoChoice}

purchase_rules : (x : ℕ) → IsPurchase (purchase_by x)
unfolding purchase_by
purchase_rules x = record {
  amount_fits = let part : x % 9900 < 9900 = mod-lt x (omega arith) in omega (arith, part);
  other_within = omega arith;
  currency_code = refl;
  known_trade = refl;
  day = refl;
  time_digits = AllPass-from_list_all has_digits (0x12 ∷ 0x00 ∷ 0x00 ∷ []) refl;
  few_pins = omega arith;
  pin_lengths = All-cons HasPinLength pin [] refl (All-nil HasPinLength);
}

-- what holds of the one cut holds of a tear that is there or not
each_tear : (P : Tear → Type 0) → P cut_cryptogram → (there : Bool) → IfSome (if there then Some cut_cryptogram else None) P
each_tear P holds true = holds
each_tear P holds false = tt

is_planned : (there : Bool) → IsTrue (is_plan (if there then Some cut_cryptogram else None))
is_planned true = refl
is_planned false = refl

pub planned_rules : (k x : ℕ) → IsPlanned (planned_by k x)
unfolding planned_by
planned_rules k x = record {
  purchase = purchase_rules x;
  plan = is_planned (x / 128 % 16 == 0);
  tear = each_tear IsEarly (record { few_marks = omega arith; few_writes = omega arith }) (x / 128 % 16 == 0);
  terminal_plan = refl;
  terminal_tear = tt;
}

pub no_choice : (k x : ℕ) → IfSome (planned_by k x).tear LeavesNoChoice
unfolding planned_by
no_choice k x = each_tear LeavesNoChoice (record { decision = omega arith; unbegun = refl }) (x / 128 % 16 == 0)

pub known_card : (k x : ℕ) → (planned_by k x).card < 8
unfolding planned_by
known_card k x = mod-lt k (omega arith)
