-- The card's answer to GENERATE AC in both formats (EMV 4.3 Book 3 section 6.5.5.4), and the kind and the
-- cryptogram read back from it.
use Rattle.std.specs.Prelude.{ℕ, List, [], ◌∷◌, ◌++◌, ◌==◌, take, drop, slice_index, Option, if◌then◌else◌}
use Rattle.std.specs.Int.{to_be_bytes, w16}
use Rattle.app_cryptogram.specs.Cryptograms.{ac_of}
use Rattle.ber_tlv.specs.Written.{written}
use Rattle.card_keys.specs.Session.{session_ac_of}
use Rattle.card_state.specs.Encoding.{flags_of}
use Rattle.card_state.specs.declared.state.AppState.{AppState}
use Rattle.emv_dict.specs.Kinds.{kind_byte, kind_of}
use Rattle.emv_dict.specs.declared.ending.Kind.{Kind}
use Rattle.card_cryptogram.specs.Fields.{covered}
use Rattle.card_cryptogram.specs.declared.fields.TerminalFields.{TerminalFields}

-- the issuer application data of a state: its form, the kind, the flags, the count of offline approvals, the
-- tries, and its end
unfoldable pub iad_of : Kind → AppState → List ℕ
iad_of kind state = 0x01 ∷ kind_byte kind ∷ flags_of state ∷ state.count ∷ state.tries ∷ 0x01 ∷ []

-- format 1: the values alone, one behind another
unfoldable pub body_one : Kind → ℕ → List ℕ → List ℕ → List ℕ
body_one kind counter cryptogram iad = written 0x80 (kind_byte kind ∷ to_be_bytes w16 counter ++ cryptogram ++ iad)

-- format 2: an object for each value
unfoldable pub body_two : Kind → ℕ → List ℕ → List ℕ → List ℕ
body_two kind counter cryptogram iad =
    written 0x77
    (written 0x9F27 (kind_byte kind ∷ [])
    ++ written 0x9F36 (to_be_bytes w16 counter)
    ++ written 0x9F26 cryptogram
    ++ written 0x9F10 iad)

abbrev pub body_in : ℕ → Kind → ℕ → List ℕ → List ℕ → List ℕ
body_in format kind counter cryptogram iad =
    if format == 1 then body_one kind counter cryptogram iad else body_two kind counter cryptogram iad

-- the cryptogram of a kind under the card's key, over what was given and the issuer application data of a state
unfoldable pub cryptogram_of : List ℕ → List ℕ → AppState → Kind → TerminalFields → List ℕ
cryptogram_of key aip state kind given =
    ac_of (session_ac_of key state.counter) (covered given aip state.counter) (iad_of kind state)

-- the body of the answer for this cryptogram
abbrev pub body_with : ℕ → AppState → Kind → List ℕ → List ℕ
body_with format state kind cryptogram = body_in format kind state.counter cryptogram (iad_of kind state)

-- the body of the answer, with the state after the decision for the kind
unfoldable pub body_of : ℕ → List ℕ → List ℕ → AppState → Kind → TerminalFields → List ℕ
body_of format key aip state kind given = body_with format state kind (cryptogram_of key aip state kind given)

-- the places of the cryptogram information data, in both formats, and of the cryptogram
abbrev pub kind_place : ℕ → ℕ
kind_place format = if format == 1 then 2 else 5

abbrev pub cryptogram_place : ℕ → ℕ
cryptogram_place format = if format == 1 then 5 else 14

-- the kind of the cryptogram in a body
unfoldable pub kind_in : ℕ → List ℕ → Option Kind
kind_in format body = kind_of (slice_index body (kind_place format))

-- the cryptogram in a body
unfoldable pub cryptogram_in : ℕ → List ℕ → List ℕ
cryptogram_in format body = take 8 (drop (cryptogram_place format) body)
