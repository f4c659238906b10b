-- The methods with a PIN that the card verifies in plain (EMV 4.3 Book 3 section 10.5.1).
use Rattle.std.specs.Prelude.{ℕ, Bool, true, false, ◌&&◌}
use Rattle.cvm_list.specs.Rules.{method_of, supports}
use Rattle.cvm_list.specs.declared.rule.Rule.{Rule}
use Rattle.cvm_list.specs.declared.rule.Method.{Method}
use Rattle.cvm_list.specs.declared.rule.Method.TheVariants.{Fail, PlainPin, OnlinePin, PlainPinAndSignature, EncipheredPin, EncipheredPinAndSignature, Signature, NoCvm, Unrecognised}

abbrev pub is_plain : Method → Bool
is_plain Fail = false
is_plain PlainPin = true
is_plain OnlinePin = false
is_plain PlainPinAndSignature = true
is_plain EncipheredPin = false
is_plain EncipheredPinAndSignature = false
is_plain Signature = false
is_plain NoCvm = false
is_plain Unrecognised = false

-- the third byte of the results where the card says that the PIN is right: 02, or 00 where a signature is to follow
abbrev pub plain_result : Method → ℕ
plain_result Fail = 0
plain_result PlainPin = 2
plain_result OnlinePin = 0
plain_result PlainPinAndSignature = 0
plain_result EncipheredPin = 0
plain_result EncipheredPinAndSignature = 0
plain_result Signature = 0
plain_result NoCvm = 0
plain_result Unrecognised = 0

-- the rule is performed by asking the card
abbrev pub asks_card : ℕ → Rule → Bool
asks_card caps rule = supports caps (method_of rule) && is_plain (method_of rule)
