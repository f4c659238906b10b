-- The rules of a cardholder verification method list, object 8E (EMV 4.3 Book 3 Annex C3 and section 10.5; Book 4
-- Annex A2).
use Rattle.std.specs.Prelude.{ℕ, ◌*◌, ◌/◌, ◌%◌, ◌==◌, ◌^◌, Bool, true, false, not, ◌&&◌, ◌||◌, nat_lt, nat_le, if◌then◌else◌, List, [], ◌∷◌, bit_and, drop, filter, slice_index, Option, Some, None}
use Rattle.std.specs.Str.{bytes_eq}
use Rattle.std.specs.Int.{from_be_bytes, w32}
use Rattle.cvm_list.specs.declared.rule.Rule.{Rule}
use Rattle.cvm_list.specs.declared.rule.Situation.{Situation}
use Rattle.cvm_list.specs.declared.rule.Method.{Method}
use Rattle.cvm_list.specs.declared.rule.Method.TheVariants.{Fail, PlainPin, OnlinePin, PlainPinAndSignature, EncipheredPin, EncipheredPinAndSignature, Signature, NoCvm, Unrecognised}

-- the rules, each a byte of its method and a byte of its condition
unfoldable pub rules_of : List ℕ → List Rule
rules_of (method ∷ condition ∷ more) = record { method = method; condition = condition } ∷ rules_of more
rules_of (method ∷ []) = []
rules_of [] = []

-- the method that b6 to b1 of a rule's first byte name
abbrev pub method_by : ℕ → Method
method_by code =
    if code == 0x00 then Fail
    else if code == 0x01 then PlainPin
    else if code == 0x02 then OnlinePin
    else if code == 0x03 then PlainPinAndSignature
    else if code == 0x04 then EncipheredPin
    else if code == 0x05 then EncipheredPinAndSignature
    else if code == 0x1E then Signature
    else if code == 0x1F then NoCvm
    else Unrecognised

unfoldable pub method_of : Rule → Method
method_of rule = method_by (rule.method % 64)

-- b7 of a rule's first byte: where the method is unsuccessful, the next rule is applied
abbrev pub applies_succeeding : Rule → Bool
applies_succeeding rule = not (bit_and rule.method 0x40 == 0)

-- a bit of the second byte of the terminal capabilities (9F33) (EMV 4.3 Book 4 Annex A2)
abbrev pub has_capability : ℕ → ℕ → Bool
has_capability byte mask = not (bit_and byte mask == 0)

-- the terminal supports the method: b8 plaintext PIN, b7 enciphered PIN for the issuer, b6 signature, b4 none; it never
-- hands the card an enciphered PIN
unfoldable pub supports : ℕ → Method → Bool
supports caps Fail = true
supports caps PlainPin = has_capability caps 0x80
supports caps OnlinePin = has_capability caps 0x40
supports caps PlainPinAndSignature = has_capability caps 0x80 && has_capability caps 0x20
supports caps EncipheredPin = false
supports caps EncipheredPinAndSignature = false
supports caps Signature = has_capability caps 0x20
supports caps NoCvm = has_capability caps 0x08
supports caps Unrecognised = false

-- cash at an unattended terminal (types 24 to 26), and at an attended one (21 to 23); a purchase with cashback
abbrev pub is_unattended_cash : Situation → Bool
is_unattended_cash s = (s.trade == 1) && (nat_le 24 s.kind && nat_le s.kind 26)

abbrev pub is_manual_cash : Situation → Bool
is_manual_cash s = (s.trade == 1) && (nat_le 21 s.kind && nat_le s.kind 23)

abbrev pub is_cashback : Situation → Bool
is_cashback s = s.trade == 9

-- the condition of a rule holds
unfoldable pub holds : Situation → Rule → Bool
holds s rule =
    if rule.condition == 0x00 then true
    else if rule.condition == 0x01 then is_unattended_cash s
    else if rule.condition == 0x02 then not (is_unattended_cash s || (is_manual_cash s || is_cashback s))
    else if rule.condition == 0x03 then supports s.caps (method_of rule)
    else if rule.condition == 0x04 then is_manual_cash s
    else if rule.condition == 0x05 then is_cashback s
    else if rule.condition == 0x06 then s.in_currency && nat_lt s.amount s.x
    else if rule.condition == 0x07 then s.in_currency && nat_lt s.x s.amount
    else if rule.condition == 0x08 then s.in_currency && nat_lt s.amount s.y
    else if rule.condition == 0x09 then s.in_currency && nat_lt s.y s.amount
    else false
