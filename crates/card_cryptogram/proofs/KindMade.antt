-- The kind in the body of an answer is the one that was made.
use Rattle.std.proofs.Common.{◌≡◌, ℕ, ◌==◌, Bool, true, false, if◌then◌else◌, List, length, Some, refl}
use Rattle.std.proofs.lemmas.Bool.{eqb-true, eqb-false}
use Rattle.app_cryptogram.specs.Cryptograms.{ac_of}
use Rattle.card_cryptogram.proofs.ReadBack.{one_kind, two_kind}
use Rattle.card_cryptogram.specs.Bodies.{body_of, body_one, body_two, cryptogram_of, iad_of, kind_in}
use Rattle.card_cryptogram.specs.declared.fields.TerminalFields.{TerminalFields}
use Rattle.card_state.specs.declared.state.AppState.{AppState}
use Rattle.emv_dict.specs.declared.ending.Kind.{Kind}
use Rattle.triple_des.specs.Bits.{bytes_from_bits}
use Rattle.triple_des.specs.Des.{enciphered}
use Rattle.triple_des.specs.Mac.{mac}

eight_bytes : (key aip : List ℕ) (s : AppState) (kind : Kind) (given : TerminalFields) → length (cryptogram_of key aip s kind given) ≡ 8
unfolding cryptogram_of ac_of mac enciphered bytes_from_bits
eight_bytes key aip s kind given = refl

six_bytes : (kind : Kind) (s : AppState) → length (iad_of kind s) ≡ 6
unfolding iad_of
six_bytes kind s = refl

pub kind_made : (format : ℕ) (key aip : List ℕ) (s : AppState) (kind : Kind) (given : TerminalFields) → kind_in format (body_of format key aip s kind given) ≡ Some kind
unfolding body_of
kind_made format key aip s kind given = by (format == 1) refl
  where
    by : (one : Bool) → (format == 1) ≡ one
        → kind_in format (if one then body_one kind s.counter (cryptogram_of key aip s kind given) (iad_of kind s) else body_two kind s.counter (cryptogram_of key aip s kind given) (iad_of kind s)) ≡ Some kind
    by true is = one_kind format kind s.counter (cryptogram_of key aip s kind given) (iad_of kind s) (eight_bytes key aip s kind given) (six_bytes kind s) (eqb-true format 1 is)
    by false is = two_kind format kind s.counter (cryptogram_of key aip s kind given) (iad_of kind s) (eight_bytes key aip s kind given) (six_bytes kind s) (eqb-false format 1 is)
