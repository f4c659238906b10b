-- Answers as a card writes them are read.
use Rattle.std.proofs.Common.{◌≡◌, ℕ, ◌+◌, ◌≤◌, ◌==◌, ◌&&◌, nat_le, Bool, true, false, List, [], ◌∷◌, ◌++◌, length, take, drop, refl, ap, sym, ◌∙◌, arith, Option, Some, None, Result, Ok, Err, if◌then◌else◌, length-append, append-nil}
use Rattle.std.proofs.lemmas.Bool.Decides.{nat_tests}
use Rattle.std.proofs.Math.Seq.{take-append_seam, drop-append_seam}
use Rattle.apdu_core.proofs.ReadAgain.{response_again}
use Rattle.apdu_core.specs.Response.{response_bytes}
use Rattle.apdu_core.specs.Status.{no_error}
use Rattle.auth_message.proofs.Sizes.{written_short}
use Rattle.auth_message.proofs.Spelled.{placed, read_fields}
use Rattle.auth_message.specs.Spelling.{spelled}
use Rattle.ber_tlv.specs.Direct.{sole_value}
use Rattle.ber_tlv.specs.Item.{ItemData}
use Rattle.ber_tlv.specs.Left.{items_of, items_behind}
use Rattle.ber_tlv.specs.declared.item.TlvFault.{TlvFault}
use Rattle.ber_tlv.specs.Written.{written}
use Rattle.ber_tlv.proofs.Reading.{left-end, no_zeros}
use Rattle.ber_tlv.proofs.SoleItem.{sole_value-written}
use Rattle.emv_dict.specs.Kinds.{kind_byte, kind_of}
use Rattle.emv_dict.specs.declared.ending.Cause.{Cause}
use Rattle.emv_dict.specs.declared.ending.Kind.{Kind}
use Rattle.emv_dict.specs.declared.ending.Kind.TheVariants.{Aac, Tc, Arqc}
use Rattle.online_step.specs.Ac.{AcObjects, ◌>>=◌, ac_in_format_one, ac_in_format_two, of_values, ac_of_objects, ac_by_format, objects_in, is_kind_refused, of_kind, allowed_ac, ac_said, ac_in_answer}
use Rattle.online_step.specs.Laws.{AcGiven, IsAcGiven, answer_one, answer_two, objects_of, read_of}
use Rattle.online_step.specs.declared.ac.GenerateAc.{GenerateAc}

objects_from : AcGiven → AcObjects
objects_from given = record { information = kind_byte given.kind; counter = given.high ∷ given.low ∷ []; cryptogram = given.cryptogram; iad = given.iad }

kind_again : (kind : Kind) → kind_of (kind_byte kind) ≡ Some kind
kind_again Aac = refl
kind_again Tc = refl
kind_again Arqc = refl

allowed_given : (given : AcGiven) (asked : Kind) (which : GenerateAc) → is_kind_refused given.kind asked which ≡ false → allowed_ac asked which (objects_from given) ≡ Ok (read_of given)
unfolding objects_from
allowed_given given asked which may =
    ap (of_kind asked which (objects_from given)) (kind_again given.kind) ∙ rw may refl

-- an answer with this body
said : (body : List ℕ) (given : AcGiven) (asked : Kind) (which : GenerateAc) → length body ≤ 256 → objects_in body ≡ Ok (objects_from given) → is_kind_refused given.kind asked which ≡ false
    → ac_in_answer (response_bytes body no_error) asked which ≡ Ok (read_of given)
unfolding ac_in_answer
said body given asked which short objects may =
    ap (ac_said asked which) (response_again body no_error short)
    ∙ ap (λ (r : Result AcObjects Cause). r >>= allowed_ac asked which) objects
    ∙ allowed_given given asked which may

cut_first : (n : ℕ) (xs ys : List ℕ) → length xs ≡ n → take n (xs ++ ys) ≡ xs
cut_first n xs ys same = ap (λ (m : ℕ). take m (xs ++ ys)) (sym same) ∙ take-append_seam xs ys

cut_rest : (n : ℕ) (xs ys : List ℕ) → length xs ≡ n → drop n (xs ++ ys) ≡ ys
cut_rest n xs ys same = ap (λ (m : ℕ). drop m (xs ++ ys)) (sym same) ∙ drop-append_seam xs ys

abbrev value_one : AcGiven → List ℕ
value_one given = kind_byte given.kind ∷ given.high ∷ given.low ∷ given.cryptogram ++ given.iad

value_one-length : (given : AcGiven) → IsAcGiven given → length (value_one given) ≡ 11 + length given.iad
value_one-length given is =
    let count : length (given.cryptogram ++ given.iad) ≡ 8 + length given.iad = simp (length-append, is.cryptogram) refl in
    omega arith

format_one : (given : AcGiven) → IsAcGiven given → ac_in_format_one (value_one given) ≡ Ok (objects_from given)
unfolding ac_in_format_one objects_from
format_one given is =
    let count = value_one-length given is in
    let most = is.iad in
    let fits : (nat_le 11 (length (value_one given)) && nat_le (length (value_one given)) 43) ≡ true = grind (arith, nat_tests) in
    let first = cut_first 8 given.cryptogram given.iad is.cryptogram in
    let rest = cut_rest 8 given.cryptogram given.iad is.cryptogram in
    rw (fits, first, rest) refl

format_two : (given : AcGiven) (start : ℕ) → IsAcGiven given → ac_of_objects (placed start (objects_of given)) ≡ Ok (objects_from given)
unfolding of_values objects_from
format_two given start is =
    let eight : (length given.cryptogram == 8) ≡ true = (let same = is.cryptogram in grind (arith, nat_tests)) in
    let few : nat_le (length given.iad) 32 ≡ true = (let most = is.iad in grind (arith, nat_tests)) in
    rw (eight, few) refl

objects_one : (given : AcGiven) → IsAcGiven given → objects_in (written 0x80 (value_one given)) ≡ Ok (objects_from given)
unfolding objects_in
objects_one given is =
    let body = written 0x80 (value_one given) in
    ap (λ (value : Option (List ℕ)). ac_by_format body value (sole_value 0x77 (items_of body))) (sole_value-written 0x80 body (value_one given) refl refl)
    ∙ format_one given is

-- a template 77 alone is no object 80
value_other : (template eighty : Bool) (item : ItemData) (value : List ℕ) → (item.tag == 0x77) ≡ template → (item.tag == 0x80) ≡ eighty
    → (let found : Option (List ℕ) = (if template then Some item.value else None) in found) ≡ Some value
    → ◌≡◌ {A = Option (List ℕ)} (if eighty then Some item.value else None) None
value_other true true item value is other found = absurd (grind (arith, nat_tests))
value_other true false item value is other found = refl
value_other false eighty item value is other found = cc

other_value : (read : Result (List ItemData) TlvFault) (value : List ℕ) → sole_value 0x77 read ≡ Some value → sole_value 0x80 read ≡ None
other_value (Ok []) value is = cc
other_value (Ok (item ∷ [])) value is = value_other (item.tag == 0x77) (item.tag == 0x80) item value refl refl is
other_value (Ok (item ∷ other ∷ items)) value is = cc
other_value (Err fault) value is = cc

items_two : (given : AcGiven) → items_of (spelled (objects_of given)) ≡ Ok (placed 0 (objects_of given))
items_two given =
    let content = spelled (objects_of given) in
    let end = left-end content (length content) (no_zeros content (length content) (omega arith)) in
    let start : 0 + length content ≡ length content = omega arith in
    read_fields (objects_of given) [] [] content [] refl (sym (append-nil content)) (ap (items_behind content) start ∙ end)
    ∙ ap (λ (items : List ItemData). let r : Result (List ItemData) TlvFault = Ok items in r) (append-nil (placed 0 (objects_of given)))

objects_two : (given : AcGiven) → IsAcGiven given → objects_in (written 0x77 (spelled (objects_of given))) ≡ Ok (objects_from given)
unfolding objects_in
objects_two given is =
    let content = spelled (objects_of given) in
    let body = written 0x77 content in
    let found = sole_value-written 0x77 body content refl refl in
    ap (λ (value : Option (List ℕ)). ac_by_format body value (sole_value 0x77 (items_of body))) (other_value (items_of body) content found)
    ∙ ap (λ (value : Option (List ℕ)). ac_by_format body None value) found
    ∙ ap (ac_in_format_two body) (items_two given)
    ∙ format_two given 0 is

pub read_one : (given : AcGiven) (asked : Kind) (which : GenerateAc) → IsAcGiven given → is_kind_refused given.kind asked which ≡ false → ac_in_answer (answer_one given) asked which ≡ Ok (read_of given)
read_one given asked which is may =
    let most = is.iad in
    let count = value_one-length given is in
    let short = written_short 0x80 (value_one given) in
    said (written 0x80 (value_one given)) given asked which (omega arith) (objects_one given is) may

pub read_two : (given : AcGiven) (asked : Kind) (which : GenerateAc) → IsAcGiven given → is_kind_refused given.kind asked which ≡ false → ac_in_answer (answer_two given) asked which ≡ Ok (read_of given)
read_two given asked which is may =
    let a = written 0x9F27 (kind_byte given.kind ∷ []) in
    let b = written 0x9F36 (given.high ∷ given.low ∷ []) in
    let c = written 0x9F26 given.cryptogram in
    let d = written 0x9F10 given.iad in
    let eight = is.cryptogram in
    let most = is.iad in
    let first = written_short 0x9F27 (kind_byte given.kind ∷ []) in
    let second_short = written_short 0x9F36 (given.high ∷ given.low ∷ []) in
    let third = written_short 0x9F26 given.cryptogram in
    let fourth = written_short 0x9F10 given.iad in
    let count : length (spelled (objects_of given)) ≡ length a + (length b + (length c + (length d + 0))) = simp length-append refl in
    let whole = written_short 0x77 (spelled (objects_of given)) in
    said (written 0x77 (spelled (objects_of given))) given asked which (omega arith) (objects_two given is) may
