-- GENERATE AC: what the card answers where it makes a cryptogram, and what the terminal reads of that.
use Rattle.std.proofs.Common.{◌≡◌, ℕ, suc, ◌+◌, ◌≤◌, ◌==◌, Bool, true, false, if◌then◌else◌, List, [], ◌∷◌, ◌++◌, length, slice_index, Some, Ok, refl, ap, ◌∙◌, arith, append_assoc, append-nil, length-append}
use Rattle.std.specs.Int.{to_be_bytes, w16}
use Rattle.apdu_core.specs.Command.{CommandData}
use Rattle.apdu_core.specs.Response.{response_bytes}
use Rattle.auth_message.proofs.Sizes.{written_short}
use Rattle.app_cryptogram.specs.Cryptograms.{ac_of as code_of_fields}
use Rattle.ber_tlv.specs.Written.{written, length_bytes}
use Rattle.card_app.specs.Answering.{instruction_answer, instruction_row}
use Rattle.card_app.specs.Cryptograms.{generate_row, generate_in}
use Rattle.card_cryptogram.specs.Bodies.{iad_of, body_one, body_two, body_with, cryptogram_of, kind_in}
use Rattle.card_cryptogram.specs.declared.fields.TerminalFields.{TerminalFields as GivenData}
use Rattle.card_cryptogram.specs.declared.phase.Phase.{Phase}
use Rattle.card_files.specs.Views.{ImageData}
use Rattle.card_app.specs.PageReplies.{CardReplyData}
use Rattle.card_state.specs.declared.state.AppState.{AppState}
use Rattle.card_state.specs.declared.state.CardState.{CardState}
use Rattle.emv_dict.specs.Kinds.{kind_byte, kind_of}
use Rattle.emv_dict.specs.declared.ending.Kind.{Kind}
use Rattle.emv_dict.specs.declared.ending.Kind.TheVariants.{Aac, Tc, Arqc}
use Rattle.online_step.specs.Ac.{ac_in_answer, is_kind_refused}
use Rattle.online_step.specs.Laws.{AcGiven, IsAcGiven, answer_one, answer_two, read_of}
use Rattle.online_step.specs.declared.ac.GenerateAc.{GenerateAc}
use Rattle.triple_des.specs.Bits.{bytes_from_bits}
use Rattle.triple_des.specs.Des.{enciphered}
use Rattle.triple_des.specs.Mac.{mac}

-- what a terminal reads of a card's answer, in either format
pub record AnswersAreReadBack : Type 0 where
  pub one : (given : AcGiven) (asked : Kind) (which : GenerateAc) → IsAcGiven given → is_kind_refused given.kind asked which ≡ false
      → ac_in_answer (answer_one given) asked which ≡ Ok (read_of given)
  pub two : (given : AcGiven) (asked : Kind) (which : GenerateAc) → IsAcGiven given → is_kind_refused given.kind asked which ≡ false
      → ac_in_answer (answer_two given) asked which ≡ Ok (read_of given)

-- the command for a kind of cryptogram
abbrev pub generating : Kind → List ℕ → CommandData
generating kind given = record { class = 0x80; ins = 0xAE; p1 = kind_byte kind; p2 = 0; body = given; expects = Some 0 }

pub generates : (image : ImageData) (state : CardState) (phase : Phase) (kind : Kind) (given : List ℕ)
    → instruction_answer image state phase (generating kind given) ≡ generate_in image state phase kind given
unfolding instruction_row generate_row
generates image state phase Aac given = refl
generates image state phase Tc given = refl
generates image state phase Arqc given = refl

-- an application cryptogram has eight bytes
pub eight_bytes : (key aip : List ℕ) (s : AppState) (kind : Kind) (given : GivenData) → length (cryptogram_of key aip s kind given) ≡ 8
unfolding cryptogram_of code_of_fields mac enciphered bytes_from_bits
eight_bytes key aip s kind given = refl

-- a cryptogram of a kind that the terminal takes, and the answer that holds it
pub record Holds (format : ℕ) (asked : Kind) (which : GenerateAc) (reply : CardReplyData) : Type 0 where
  pub kind : Kind
  pub state : AppState
  pub cryptogram : List ℕ
  pub eight : length cryptogram ≡ 8
  pub body : reply.body ≡ body_with format state kind cryptogram
  pub status : reply.status ≡ 0x9000
  pub allowed : is_kind_refused kind asked which ≡ false

-- the same as what a card gives
abbrev pub given_in : Kind → AppState → List ℕ → AcGiven
given_in kind state cryptogram = record {
  kind = kind;
  high = slice_index (to_be_bytes w16 state.counter) 0;
  low = slice_index (to_be_bytes w16 state.counter) 1;
  cryptogram = cryptogram;
  iad = iad_of kind state;
}

is_given : (kind : Kind) (state : AppState) (cryptogram : List ℕ) → length cryptogram ≡ 8 → IsAcGiven (given_in kind state cryptogram)
unfolding iad_of
is_given kind state cryptogram eight = record { cryptogram = eight; iad = omega arith }

answer_is_one : (kind : Kind) (state : AppState) (cryptogram : List ℕ)
    → response_bytes (body_one kind state.counter cryptogram (iad_of kind state)) 0x9000 ≡ answer_one (given_in kind state cryptogram)
unfolding body_one
answer_is_one kind state cryptogram = refl

answer_is_two : (kind : Kind) (state : AppState) (cryptogram : List ℕ)
    → response_bytes (body_two kind state.counter cryptogram (iad_of kind state)) 0x9000 ≡ answer_two (given_in kind state cryptogram)
unfolding body_two
answer_is_two kind state cryptogram =
    let joined : ((written 0x9F27 (kind_byte kind ∷ []) ++ written 0x9F36 (to_be_bytes w16 state.counter)) ++ written 0x9F26 cryptogram) ++ written 0x9F10 (iad_of kind state)
    ≡ written 0x9F27 (kind_byte kind ∷ []) ++ (written 0x9F36 (to_be_bytes w16 state.counter) ++ (written 0x9F26 cryptogram ++ (written 0x9F10 (iad_of kind state) ++ [])))
    = simp (append_assoc, append-nil) in
    ap (λ (value : List ℕ). response_bytes (written 0x77 value) 0x9000) joined

reads_with : AnswersAreReadBack → (format : ℕ) (kind asked : Kind) (which : GenerateAc) (state : AppState) (cryptogram : List ℕ) → length cryptogram ≡ 8 → is_kind_refused kind asked which ≡ false
    → ac_in_answer (response_bytes (body_with format state kind cryptogram) 0x9000) asked which ≡ Ok (read_of (given_in kind state cryptogram))
reads_with back format kind asked which state cryptogram eight allowed = by (format == 1)
  where
    by : (one : Bool) → ac_in_answer (response_bytes (if one then body_one kind state.counter cryptogram (iad_of kind state) else body_two kind state.counter cryptogram (iad_of kind state)) 0x9000) asked which
        ≡ Ok (read_of (given_in kind state cryptogram))
    by true = ap (λ (answer : List ℕ). ac_in_answer answer asked which) (answer_is_one kind state cryptogram)
        ∙ back.one (given_in kind state cryptogram) asked which (is_given kind state cryptogram eight) allowed
    by false = ap (λ (answer : List ℕ). ac_in_answer answer asked which) (answer_is_two kind state cryptogram)
        ∙ back.two (given_in kind state cryptogram) asked which (is_given kind state cryptogram eight) allowed

-- the terminal reads the cryptogram
pub is_read : AnswersAreReadBack → (format : ℕ) (asked : Kind) (which : GenerateAc) (reply : CardReplyData) (holds : Holds format asked which reply)
    → ac_in_answer (response_bytes reply.body reply.status) asked which ≡ Ok (read_of (given_in holds.kind holds.state holds.cryptogram))
is_read back format asked which reply holds =
    ap (λ (body : List ℕ). ac_in_answer (response_bytes body reply.status) asked which) holds.body
    ∙ ap (λ (status : ℕ). ac_in_answer (response_bytes (body_with format holds.state holds.kind holds.cryptogram) status) asked which) holds.status
    ∙ reads_with back format holds.kind asked which holds.state holds.cryptogram holds.eight holds.allowed

byte_of_one : (kind : Kind) (high low : ℕ) (rest : List ℕ) → length rest ≡ 14 → slice_index (written 0x80 (kind_byte kind ∷ high ∷ low ∷ rest)) 2 ≡ kind_byte kind
unfolding written
byte_of_one kind high low rest count =
    ap (λ (n : ℕ). slice_index ((0x80 ∷ []) ++ length_bytes (suc (suc (suc n))) ++ (kind_byte kind ∷ high ∷ low ∷ rest)) 2) count

byte_of_two : (kind : Kind) (rest : List ℕ) → length rest ≡ 25 → slice_index (written 0x77 (0x9F ∷ 0x27 ∷ 1 ∷ kind_byte kind ∷ rest)) 5 ≡ kind_byte kind
unfolding written
byte_of_two kind rest count =
    ap (λ (n : ℕ). slice_index ((0x77 ∷ []) ++ length_bytes (suc (suc (suc (suc n)))) ++ (0x9F ∷ 0x27 ∷ 1 ∷ kind_byte kind ∷ rest)) 5) count

kind_again : (kind : Kind) → kind_of (kind_byte kind) ≡ Some kind
kind_again Aac = refl
kind_again Tc = refl
kind_again Arqc = refl

written_six : (iad : List ℕ) → length iad ≡ 6 → length (written 0x9F10 iad) ≡ 9
unfolding written
written_six iad six = ap (λ (n : ℕ). length ((0x9F ∷ 0x10 ∷ []) ++ length_bytes n ++ iad)) six ∙ ap (λ (n : ℕ). suc (suc (suc n))) six

written_eight : (cryptogram : List ℕ) → length cryptogram ≡ 8 → length (written 0x9F26 cryptogram) ≡ 11
unfolding written
written_eight cryptogram eight = ap (λ (n : ℕ). length ((0x9F ∷ 0x26 ∷ []) ++ length_bytes n ++ cryptogram)) eight ∙ ap (λ (n : ℕ). suc (suc (suc n))) eight

six_bytes : (kind : Kind) (state : AppState) → length (iad_of kind state) ≡ 6
unfolding iad_of
six_bytes kind state = refl

kind_with : (format : ℕ) (state : AppState) (kind : Kind) (cryptogram : List ℕ) → length cryptogram ≡ 8 → kind_in format (body_with format state kind cryptogram) ≡ Some kind
unfolding kind_in body_one body_two written
kind_with format state kind cryptogram eight = by (format == 1) refl
  where
    by : (one : Bool) → (format == 1) ≡ one
        → kind_of (slice_index (if one then body_one kind state.counter cryptogram (iad_of kind state) else body_two kind state.counter cryptogram (iad_of kind state)) (if one then 2 else 5)) ≡ Some kind
    by true is =
        let iad = iad_of kind state in
        let size : length (cryptogram ++ iad) ≡ 14 = length-append cryptogram iad ∙ omega (arith, six_bytes kind state) in
        ap kind_of (byte_of_one kind (slice_index (to_be_bytes w16 state.counter) 0) (slice_index (to_be_bytes w16 state.counter) 1) (cryptogram ++ iad) size) ∙ kind_again kind
    by false is =
        let iad = iad_of kind state in
        let rest : List ℕ = (written 0x9F36 (to_be_bytes w16 state.counter) ++ written 0x9F26 cryptogram) ++ written 0x9F10 iad in
        let size : length rest ≡ 25 =
        length-append (written 0x9F36 (to_be_bytes w16 state.counter) ++ written 0x9F26 cryptogram) (written 0x9F10 iad)
        ∙ ap (λ (n : ℕ). n + length (written 0x9F10 iad)) (length-append (written 0x9F36 (to_be_bytes w16 state.counter)) (written 0x9F26 cryptogram))
        ∙ ap (λ (n : ℕ). 5 + n + length (written 0x9F10 iad)) (written_eight cryptogram eight)
        ∙ ap (λ (n : ℕ). 16 + n) (written_six iad (six_bytes kind state)) in
        ap kind_of (byte_of_two kind rest size) ∙ kind_again kind

-- the card reads its kind again
pub kind_read : (format : ℕ) (asked : Kind) (which : GenerateAc) (reply : CardReplyData) (holds : Holds format asked which reply) → kind_in format reply.body ≡ Some holds.kind
kind_read format asked which reply holds = ap (kind_in format) holds.body ∙ kind_with format holds.state holds.kind holds.cryptogram holds.eight

short_with : (format : ℕ) (state : AppState) (kind : Kind) (cryptogram : List ℕ) → length cryptogram ≡ 8 → length (body_with format state kind cryptogram) ≤ 256
unfolding body_one body_two
short_with format state kind cryptogram eight = by (format == 1)
  where
    by : (one : Bool) → length (if one then body_one kind state.counter cryptogram (iad_of kind state) else body_two kind state.counter cryptogram (iad_of kind state)) ≤ 256
    by true =
        let value : List ℕ = kind_byte kind ∷ (to_be_bytes w16 state.counter ++ cryptogram ++ iad_of kind state) in
        omega (arith, written_short 0x80 value, length-append cryptogram (iad_of kind state), six_bytes kind state)
    by false =
        let front : List ℕ = written 0x9F27 (kind_byte kind ∷ []) ++ written 0x9F36 (to_be_bytes w16 state.counter) in
        let value : List ℕ = (front ++ written 0x9F26 cryptogram) ++ written 0x9F10 (iad_of kind state) in
        let size : length value ≤ 64 = simp length-append (omega (
          arith,
          written_short 0x9F27 (kind_byte kind ∷ []),
          written_short 0x9F36 (to_be_bytes w16 state.counter),
          written_eight cryptogram eight,
          written_six (iad_of kind state) (six_bytes kind state),
        )) in
        omega (arith, written_short 0x77 value)

-- it has room in an answer
pub body_short : (format : ℕ) (asked : Kind) (which : GenerateAc) (reply : CardReplyData) → Holds format asked which reply → length reply.body ≤ 256
body_short format asked which reply holds = let short = short_with format holds.state holds.kind holds.cryptogram holds.eight in omega (arith, ap length holds.body)
