-- The answers to GENERATE AC as a card writes them (EMV 4.3 Book 3 section 6.5.5.4).
use Rattle.std.specs.Prelude.{◌≡◌, ℕ, ◌+◌, ◌*◌, ◌≤◌, List, [], ◌∷◌, ◌++◌, length}
use Rattle.apdu_core.specs.Response.{response_bytes}
use Rattle.apdu_core.specs.Status.{no_error}
use Rattle.auth_message.specs.Spelling.{spelled}
use Rattle.ber_tlv.specs.Written.{written}
use Rattle.emv_dict.specs.Kinds.{kind_byte}
use Rattle.emv_dict.specs.Views.{AcData}
use Rattle.emv_dict.specs.declared.ending.Kind.{Kind}

-- what a card gives
pub record AcGiven : Type 0 where
  pub kind : Kind
  pub high : ℕ
  pub low : ℕ
  pub cryptogram : List ℕ
  pub iad : List ℕ

-- the cryptogram has eight bytes, and the issuer application data have at most 32
pub record IsAcGiven (given : AcGiven) : Type 0 where
  pub cryptogram : length given.cryptogram ≡ 8
  pub iad : length given.iad ≤ 32

-- format 1: the values one behind another in an object 80
abbrev pub answer_one : AcGiven → List ℕ
answer_one given = response_bytes (written 0x80 (kind_byte given.kind ∷ given.high ∷ given.low ∷ given.cryptogram ++ given.iad)) no_error

-- the objects of format 2
abbrev pub objects_of : AcGiven → List (ℕ × List ℕ)
objects_of given =
    (0x9F27, kind_byte given.kind ∷ [])
    ∷ (0x9F36, given.high ∷ given.low ∷ [])
    ∷ (0x9F26, given.cryptogram)
    ∷ (0x9F10, given.iad)
    ∷ []

-- format 2: the objects in a template 77
abbrev pub answer_two : AcGiven → List ℕ
answer_two given = response_bytes (written 0x77 (spelled (objects_of given))) no_error

-- the same as a terminal reads it
abbrev pub read_of : AcGiven → AcData
read_of given = record { kind = given.kind; counter = given.high * 256 + given.low; cryptogram = given.cryptogram; iad = given.iad }
