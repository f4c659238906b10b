-- A card's answer to GENERATE AC (EMV 4.3 Book 3 section 6.5.5.4; sections 10.8, 10.11).
use Rattle.object_lists.specs.Coding.{coding_cause}
use Rattle.std.specs.Prelude.{ℕ, Bool, true, false, ◌+◌, ◌*◌, ◌==◌, ◌&&◌, ◌||◌, nat_le, if◌then◌else◌, List, [], length, drop, slice_index, slice_range, Option, Some, None, Result, Ok, Err}
use Rattle.apdu_core.specs.Response.{ResponseData, response_of}
use Rattle.apdu_core.specs.Status.{no_error}
use Rattle.ber_tlv.specs.Direct.{first_value, sole_value}
use Rattle.ber_tlv.specs.Item.{ItemData}
use Rattle.ber_tlv.specs.Left.{items_of}
use Rattle.ber_tlv.specs.declared.item.TlvFault.{TlvFault}
use Rattle.emv_dict.specs.Kinds.{kind_of, is_above}
use Rattle.emv_dict.specs.Views.{AcData}
use Rattle.emv_dict.specs.declared.ending.Cause.{Cause}
use Rattle.emv_dict.specs.declared.ending.Cause.TheVariants as cause
use Rattle.emv_dict.specs.declared.ending.Kind.{Kind}
use Rattle.emv_dict.specs.declared.ending.Kind.TheVariants.{Aac, Tc, Arqc}
use Rattle.online_step.specs.declared.ac.GenerateAc.{GenerateAc}
use Rattle.online_step.specs.declared.ac.GenerateAc.TheVariants.{First, Second}

-- the values of the four objects: 9F27, one byte, 9F36, two bytes, 9F26, eight bytes, and 9F10
pub record AcObjects : Type 0 where
  pub information : ℕ
  pub counter : List ℕ
  pub cryptogram : List ℕ
  pub iad : List ℕ

-- the next step of a reading, or the cause that ended it
infixl 10 ◌>>=◌
abbrev pub ◌>>=◌ : {A B : Type 0} → Result A Cause → (A → Result B Cause) → Result B Cause
Ok value >>= next = next value
Err because >>= next = Err because

abbrev pub missing_object : ℕ → Cause
missing_object tag = cause.Missing (record { 0 = tag })

abbrev pub wrong_object : ℕ → Cause
wrong_object tag = cause.Value (record { 0 = tag })

-- format 1: the values one behind another, 9F10 with at most 32 bytes last
unfoldable pub ac_in_format_one : List ℕ → Result AcObjects Cause
ac_in_format_one value =
    if nat_le 11 (length value) && nat_le (length value) 43
    then Ok (record { information = slice_index value 0; counter = slice_range value 1 3; cryptogram = slice_range value 3 11; iad = drop 11 value })
    else Err (wrong_object 0x80)

-- an object that must be there, with so many bytes
abbrev pub sized : ℕ → ℕ → Option (List ℕ) → Result (List ℕ) Cause
sized tag count None = Err (missing_object tag)
sized tag count (Some value) = (if length value == count then Ok value else Err (wrong_object tag))

-- the issuer application data, which may be absent
abbrev pub issuer_data : Option (List ℕ) → Result (List ℕ) Cause
issuer_data None = Ok []
issuer_data (Some value) = (if nat_le (length value) 32 then Ok value else Err (wrong_object 0x9F10))

-- the values of the four objects, each tried before the next
unfoldable pub of_values : Option (List ℕ) → Option (List ℕ) → Option (List ℕ) → Option (List ℕ) → Result AcObjects Cause
of_values information counter cryptogram iad = do
  byte ← sized 0x9F27 1 information
  two ← sized 0x9F36 2 counter
  eight ← sized 0x9F26 8 cryptogram
  rest ← issuer_data iad
  Ok (record { information = slice_index byte 0; counter = two; cryptogram = eight; iad = rest })

-- format 2: the objects of a template, the first of each tag
abbrev pub ac_of_objects : List ItemData → Result AcObjects Cause
ac_of_objects items = of_values (first_value 0x9F27 items) (first_value 0x9F36 items) (first_value 0x9F26 items) (first_value 0x9F10 items)

abbrev pub ac_in_format_two : List ℕ → Result (List ItemData) TlvFault → Result AcObjects Cause
ac_in_format_two body (Ok items) = ac_of_objects items
ac_in_format_two body (Err fault) = Err (coding_cause body)

abbrev pub ac_by_format : List ℕ → Option (List ℕ) → Option (List ℕ) → Result AcObjects Cause
ac_by_format body (Some value) template = ac_in_format_one value
ac_by_format body None (Some value) = ac_in_format_two body (items_of value)
ac_by_format body None None = Err (coding_cause body)

-- the body is one object 80, format 1, or one template 77, format 2
unfoldable pub objects_in : List ℕ → Result AcObjects Cause
objects_in body = ac_by_format body (sole_value 0x80 (items_of body)) (sole_value 0x77 (items_of body))

abbrev pub is_request : Kind → Bool
is_request Arqc = true
is_request Tc = false
is_request Aac = false

-- a card may answer the kind that is asked or one below; the second time no request
abbrev pub is_kind_refused : Kind → Kind → GenerateAc → Bool
is_kind_refused kind asked First = is_above kind asked
is_kind_refused kind asked Second = is_above kind asked || is_request kind

abbrev pub of_kind : Kind → GenerateAc → AcObjects → Option Kind → Result AcData Cause
of_kind asked which objects None = Err (cause.Kind objects.information)
of_kind asked which objects (Some kind) =
    if is_kind_refused kind asked which then Err (cause.Kind objects.information)
    else Ok (record {
      kind = kind;
      counter = slice_index objects.counter 0 * 256 + slice_index objects.counter 1;
      cryptogram = objects.cryptogram;
      iad = objects.iad;
    })

-- what these objects give where this kind was asked, the first or the second time
abbrev pub allowed_ac : Kind → GenerateAc → AcObjects → Result AcData Cause
allowed_ac asked which objects = of_kind asked which objects (kind_of objects.information)

abbrev pub ac_said : Kind → GenerateAc → Option ResponseData → Result AcData Cause
ac_said asked which None = Err cause.Answer
ac_said asked which (Some said) =
    if said.status == no_error then (objects_in said.body >>= allowed_ac asked which) else Err (cause.Status said.status)

-- what an answer gives, or why it ends the transaction
unfoldable pub ac_in_answer : List ℕ → Kind → GenerateAc → Result AcData Cause
ac_in_answer answer asked which = ac_said asked which (response_of answer)
