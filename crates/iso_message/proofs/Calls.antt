-- A call that is written is read back, and one that was read has one spelling and may be written.
use Rattle.std.proofs.Common.{◌≡◌, ℕ, Bool, true, false, ◌<◌, if◌then◌else◌, List, [], ◌∷◌, ◌++◌, map, length, Option, Some, None, Ok, Err, Result, MatchResult, IfOk, refl, sym, ap, ◌∙◌, subst, bytes_eq}
use Rattle.std.specs.Prelude.{is_some, unwrap_or}
use Rattle.emv_dict.specs.Digits.{AllDecimal}
use Rattle.emv_dict.specs.Settings.{is_code}
use Rattle.auth_message.specs.declared.message.Incoming.{Incoming}
use Rattle.auth_message.specs.declared.message.Incoming.TheVariants.{Request, Present, Reverse}
use Rattle.auth_message.specs.declared.reversal.ReversalFields.{ReversalFields}
use Rattle.auth_message.specs.Accepted.{IsRequest, IsPresent, IsReversal}
use Rattle.auth_message.specs.Data.{RequestData, PresentData}
use Rattle.auth_message.specs.Spelling.{optional, spelled}
use Rattle.auth_message.specs.Whole.{IsAccepted, IsCoded, HasCodes}
use Rattle.auth_message.proofs.Again.{RequestSizes, PresentSizes, ReversalSizes}
use Rattle.iso_message.specs.declared.fault.IsoFault.{IsoFault}
use Rattle.iso_message.specs.declared.front.Numbers.{Numbers}
use Rattle.iso_message.specs.declared.kind.CallKind.{CallKind}
use Rattle.iso_message.specs.declared.kind.CallKind.TheVariants as kind
use Rattle.iso_message.specs.Front.{request_front_at, present_front_at, reversal_front_at, tied}
use Rattle.iso_message.specs.Items.{request_items, request_of_parts, request_in, present_items, present_of, present_in, reversal_items, reversal_in}
use Rattle.iso_message.specs.Layout.{call_type, reply_type}
use Rattle.iso_message.specs.Left.{Left, part_at, items_at, in_55, nothing_left}
use Rattle.iso_message.specs.Reading.{kind_by, call_kind_at, unread_message, iso_request_at, iso_present_at, iso_reversal_at, call_at, call_of}
use Rattle.iso_message.specs.Spelling.{contents, iso_request_bytes, iso_present_bytes, iso_reversal_bytes, call_bytes}
use Rattle.iso_message.specs.Text.{with_length}
use Rattle.iso_message.proofs.FrontAgain.{numbers_of, tied_again}
use Rattle.iso_message.proofs.FrontSpelled.{tied_spelled}
use Rattle.iso_message.proofs.Fronts.{request_front_bytes, present_front_bytes, reversal_front_bytes, request_front_again, present_front_again, reversal_front_again, request_front_spelled, present_front_spelled, reversal_front_spelled}
use Rattle.iso_message.proofs.ItemsAgain.{request_front, present_front, reversal_front, request_tags, present_tags, reversal_tags, request_in_again, present_in_again, reversal_in_again}
use Rattle.iso_message.proofs.ItemsSpelled.{request_taken, present_taken, reversal_of, reversal_taken}
use Rattle.iso_message.proofs.Parts.{left, equal_bytes, part_again, part_spelled, items_again, items_spelled, nothing_spelled}
use Rattle.iso_message.proofs.Steps.{made_of, from_55}

-- the kind by the type
pub call_kind_again : (of : CallKind) (rest : List ℕ) → call_kind_at call_type (left 0 (call_type of ++ rest)) ≡ Ok (of, left 4 rest)
unfolding call_kind_at
call_kind_again kind.Request rest = rw (part_again 0 0 (call_type kind.Request) rest 4 refl) refl
call_kind_again kind.Presentment rest = rw (part_again 0 0 (call_type kind.Presentment) rest 4 refl) refl
call_kind_again kind.Reversal rest = rw (part_again 0 0 (call_type kind.Reversal) rest 4 refl) refl

pub reply_kind_again : (of : CallKind) (rest : List ℕ) → call_kind_at reply_type (left 0 (reply_type of ++ rest)) ≡ Ok (of, left 4 rest)
unfolding call_kind_at
reply_kind_again kind.Request rest = rw (part_again 0 0 (reply_type kind.Request) rest 4 refl) refl
reply_kind_again kind.Presentment rest = rw (part_again 0 0 (reply_type kind.Presentment) rest 4 refl) refl
reply_kind_again kind.Reversal rest = rw (part_again 0 0 (reply_type kind.Reversal) rest 4 refl) refl

kind_of_type :
    (type : CallKind → List ℕ) (found : List ℕ) (of : CallKind) (one two three : Bool)
    → bytes_eq found (type kind.Request) ≡ one → bytes_eq found (type kind.Presentment) ≡ two → bytes_eq found (type kind.Reversal) ≡ three
    → kind_by type found ≡ Ok of → found ≡ type of
kind_of_type type found of true two three first second third is =
    let here = rw first at is in
    let of_is : kind.Request ≡ of = cc in
    equal_bytes found (type kind.Request) first ∙ ap type of_is
kind_of_type type found of false true three first second third is =
    let here = rw (first, second) at is in
    let of_is : kind.Presentment ≡ of = cc in
    equal_bytes found (type kind.Presentment) second ∙ ap type of_is
kind_of_type type found of false false true first second third is =
    let here = rw (first, second, third) at is in
    let of_is : kind.Reversal ≡ of = cc in
    equal_bytes found (type kind.Reversal) third ∙ ap type of_is
kind_of_type type found of false false false first second third is = let here = rw (first, second, third) at is in cc

pub kind_spelled : (type : CallKind → List ℕ) (before : Left) (of : CallKind) (after : Left) → call_kind_at type before ≡ Ok (of, after) → before.bytes ≡ type of ++ after.bytes
unfolding call_kind_at
kind_spelled type before of after is =
    let first = made_of (part_at 4 before) _ (of, after) is in
    let second = made_of (kind_by type first.value.0) _ (of, after) first.behind in
    let same : (second.value, first.value.1) ≡ (of, after) = cc in
    let of_is : second.value ≡ of = ap (λ (p : CallKind × Left). p.0) same in
    let after_is : first.value.1 ≡ after = ap (λ (p : CallKind × Left). p.1) same in
    let part = part_spelled before.place 4 before first.value.0 first.value.1 first.made in
    let type_is = kind_of_type type first.value.0 of _ _ _ refl refl refl (second.made ∙ ap Ok of_is) in
    part.front ∙ ap (λ b. b ++ first.value.1.bytes) type_is ∙ ap (λ (l : Left). type of ++ l.bytes) after_is

-- the block of a PIN among the fields
block_numbers : (block : Option (List ℕ)) (content : List ℕ) → map (λ (field : ℕ × List ℕ). field.0) (optional 52 block ++ (55, content) ∷ []) ≡ (if is_some block then 52 ∷ 55 ∷ [] else 55 ∷ [])
block_numbers None content = refl
block_numbers (Some block) content = refl

block_contents : (block : Option (List ℕ)) (content : List ℕ) → contents (optional 52 block ++ (55, content) ∷ []) ≡ unwrap_or block [] ++ (content ++ [])
block_contents None content = refl
block_contents (Some block) content = refl

-- what a call is behind its type
abbrev pub request_rest : RequestData → List ℕ
request_rest f = request_front_bytes (request_front f) (with_length 4 (spelled (request_items f)) ++ [])

abbrev pub present_rest : PresentData → List ℕ
present_rest f = present_front_bytes (present_front f) (with_length 4 (spelled (present_items f)) ++ [])

abbrev pub reversal_rest : ReversalFields → List ℕ
reversal_rest f = reversal_front_bytes (reversal_front f) (with_length 4 (spelled (reversal_items f)) ++ [])

pub request_split : (f : RequestData) → iso_request_bytes f ≡ call_type kind.Request ++ request_rest f
unfolding iso_request_bytes
request_split f = rw (block_numbers f.tdf11 (with_length 4 (spelled (request_items f))), block_contents f.tdf11 (with_length 4 (spelled (request_items f)))) refl

pub present_split : (f : PresentData) → iso_present_bytes f ≡ call_type kind.Presentment ++ present_rest f
unfolding iso_present_bytes
present_split f = refl

pub reversal_split : (f : ReversalFields) → iso_reversal_bytes f ≡ call_type kind.Reversal ++ reversal_rest f
unfolding iso_reversal_bytes
reversal_split f = refl

request_read :
    (place : ℕ) (f : RequestData) → IsRequest f → IsCoded f.paid.t5f2a f.paid.t9c → AllDecimal f.named.pan → RequestSizes f → length (spelled (request_items f)) < 10000
    → iso_request_at (left place (request_rest f)) ≡ Ok f
unfolding iso_request_at
request_read place f is coded decimal sizes small =
    let front = request_front_again place f (with_length 4 (spelled (request_items f)) ++ []) is coded decimal sizes in
    rw (front.1, items_again front.0 (request_items f) [] (request_tags f) small, request_in_again f is sizes, tied_again f.paid.t9f02 f.paid.t9f36) refl

present_read :
    (place : ℕ) (f : PresentData) → IsPresent f → IsCoded f.paid.t5f2a f.paid.t9c → AllDecimal f.named.pan → PresentSizes f → length (spelled (present_items f)) < 10000
    → iso_present_at (left place (present_rest f)) ≡ Ok f
unfolding iso_present_at
present_read place f is coded decimal sizes small =
    let front = present_front_again place f (with_length 4 (spelled (present_items f)) ++ []) is coded decimal sizes in
    rw (front.1, items_again front.0 (present_items f) [] (present_tags f) small, present_in_again f is sizes, tied_again f.paid.t9f02 f.paid.t9f36) refl

reversal_read :
    (place : ℕ) (f : ReversalFields) → IsReversal f → is_code f.t5f2a ≡ true → AllDecimal f.pan → ReversalSizes f → length (spelled (reversal_items f)) < 10000
    → iso_reversal_at (left place (reversal_rest f)) ≡ Ok f
unfolding iso_reversal_at
reversal_read place f is code decimal sizes small =
    let front = reversal_front_again place f (with_length 4 (spelled (reversal_items f)) ++ []) is code decimal sizes in
    rw (front.1, items_again front.0 (reversal_items f) [] (reversal_tags f) small, reversal_in_again f is sizes, tied_again f.t9f02 f.t9f36) refl

pub request_again : (f : RequestData) → IsRequest f → IsCoded f.paid.t5f2a f.paid.t9c → AllDecimal f.named.pan → RequestSizes f → length (spelled (request_items f)) < 10000 → call_of (iso_request_bytes f) ≡ Ok (Request f)
request_again f is coded decimal sizes small =
    ap call_of (request_split f) ∙ rw (call_kind_again kind.Request (request_rest f), request_read 4 f is coded decimal sizes small) refl

pub present_again : (f : PresentData) → IsPresent f → IsCoded f.paid.t5f2a f.paid.t9c → AllDecimal f.named.pan → PresentSizes f → length (spelled (present_items f)) < 10000 → call_of (iso_present_bytes f) ≡ Ok (Present f)
present_again f is coded decimal sizes small =
    ap call_of (present_split f) ∙ rw (call_kind_again kind.Presentment (present_rest f), present_read 4 f is coded decimal sizes small) refl

pub reversal_again : (f : ReversalFields) → IsReversal f → is_code f.t5f2a ≡ true → AllDecimal f.pan → ReversalSizes f → length (spelled (reversal_items f)) < 10000 → call_of (iso_reversal_bytes f) ≡ Ok (Reverse f)
reversal_again f is code decimal sizes small =
    ap call_of (reversal_split f) ∙ rw (call_kind_again kind.Reversal (reversal_rest f), reversal_read 4 f is code decimal sizes small) refl

-- fields 11 and 37 are the counter's
tied_numbers : (numbers : Numbers) (t9f36 : List ℕ) (u : Unit {0}) → tied numbers t9f36 ≡ Ok u → numbers ≡ numbers_of numbers.t9f02 t9f36
tied_numbers numbers t9f36 u is =
    let same = tied_spelled numbers t9f36 u is in
    ap (λ (a : List ℕ). record { t9f02 = numbers.t9f02; audit = a; reference = numbers.reference }) same.0
    ∙ ap (λ (r : List ℕ). record { t9f02 = numbers.t9f02; audit = (numbers_of numbers.t9f02 t9f36).audit; reference = r }) same.1

-- a request that was read
record IsRequestCall (before : Left) (f : RequestData) : Type 0 where
  exact : before.bytes ≡ request_rest f
  accepted : IsRequest f
  codes : IsCoded f.paid.t5f2a f.paid.t9c

request_exact : (before : Left) (f : RequestData) → iso_request_at before ≡ Ok f → IsRequestCall before f
unfolding iso_request_at
request_exact before f is =
    let first = made_of (request_front_at before) _ f is in
    let second = made_of (items_at first.value.1) _ f first.behind in
    let third = made_of (in_55 (request_in first.value.0 second.value.0.1)) _ f second.behind in
    let fourth = made_of (tied first.value.0.numbers third.value.paid.t9f36) _ f third.behind in
    let fifth = made_of (nothing_left second.value.1) _ f fourth.behind in
    let last : third.value ≡ f = cc in
    let front = request_front_spelled before first.value.0 first.value.1 first.made in
    let items = items_spelled first.value.1 second.value.0.0 second.value.0.1 second.value.1 second.made in
    let taken = request_taken first.value.0 second.value.0.1 third.value (from_55 (request_in first.value.0 second.value.0.1) third.value third.made) in
    let found : RequestData = request_of_parts first.value.0 taken.t5f34 taken.t5f24 taken.icc taken.t9f10 in
    let counter : third.value.paid.t9f36 ≡ taken.icc.t9f36 = ap (λ (d : RequestData). d.paid.t9f36) (sym taken.is) in
    let numbers = tied_numbers first.value.0.numbers taken.icc.t9f36 fourth.value (ap (tied first.value.0.numbers) (sym counter) ∙ fourth.made) in
    let behind : first.value.1.bytes ≡ with_length 4 (spelled (request_items found)) ++ [] =
    items.front
    ∙ ap (λ (c : List ℕ). with_length 4 c ++ second.value.1.bytes) (items.exact ∙ ap spelled taken.exact)
    ∙ ap (λ (b : List ℕ). with_length 4 (spelled (request_items found)) ++ b) (nothing_spelled second.value.1 fifth.value fifth.made) in
    let found_is : IsRequestCall before found = record {
      exact =
          front.exact
          ∙ ap (request_front_bytes first.value.0) behind
          ∙ ap (λ (n : Numbers). request_front_bytes (record { pan = first.value.0.pan; t9c = first.value.0.t9c; numbers = n; acceptor = first.value.0.acceptor; tdf11 = first.value.0.tdf11 }) (with_length 4 (spelled (request_items found)) ++ [])) numbers;
      accepted = record {
        account_number = front.account_number;
        sequence_number = taken.sequence_number;
        expiry = taken.expiry;
        amount = front.amount;
        other_amount = taken.other_amount;
        currency = front.currency;
        date = taken.date;
        issuer_data = taken.issuer_data;
      };
      codes = record { currency = front.code; transaction_type = front.transaction_type };
    } in
    subst (IsRequestCall before) (taken.is ∙ last) found_is

record IsPresentCall (before : Left) (f : PresentData) : Type 0 where
  exact : before.bytes ≡ present_rest f
  accepted : IsPresent f
  codes : IsCoded f.paid.t5f2a f.paid.t9c

present_exact : (before : Left) (f : PresentData) → iso_present_at before ≡ Ok f → IsPresentCall before f
unfolding iso_present_at
present_exact before f is =
    let first = made_of (present_front_at before) _ f is in
    let second = made_of (items_at first.value.1) _ f first.behind in
    let third = made_of (in_55 (present_in first.value.0 second.value.0.1)) _ f second.behind in
    let fourth = made_of (tied first.value.0.numbers third.value.paid.t9f36) _ f third.behind in
    let fifth = made_of (nothing_left second.value.1) _ f fourth.behind in
    let last : third.value ≡ f = cc in
    let front = present_front_spelled before first.value.0 first.value.1 first.made in
    let items = items_spelled first.value.1 second.value.0.0 second.value.0.1 second.value.1 second.made in
    let taken = present_taken first.value.0 second.value.0.1 third.value (from_55 (present_in first.value.0 second.value.0.1) third.value third.made) in
    let found : PresentData = present_of first.value.0 taken.t5f34 taken.icc taken.t9f10 in
    let counter : third.value.paid.t9f36 ≡ taken.icc.t9f36 = ap (λ (d : PresentData). d.paid.t9f36) (sym taken.is) in
    let numbers = tied_numbers first.value.0.numbers taken.icc.t9f36 fourth.value (ap (tied first.value.0.numbers) (sym counter) ∙ fourth.made) in
    let behind : first.value.1.bytes ≡ with_length 4 (spelled (present_items found)) ++ [] =
    items.front
    ∙ ap (λ (c : List ℕ). with_length 4 c ++ second.value.1.bytes) (items.exact ∙ ap spelled taken.exact)
    ∙ ap (λ (b : List ℕ). with_length 4 (spelled (present_items found)) ++ b) (nothing_spelled second.value.1 fifth.value fifth.made) in
    let found_is : IsPresentCall before found = record {
      exact =
          front.exact
          ∙ ap (present_front_bytes first.value.0) behind
          ∙ ap (λ (n : Numbers). present_front_bytes (record { pan = first.value.0.pan; t9c = first.value.0.t9c; numbers = n; t8a = first.value.0.t8a; acceptor = first.value.0.acceptor }) (with_length 4 (spelled (present_items found)) ++ [])) numbers;
      accepted = record {
        account_number = front.account_number;
        sequence_number = taken.sequence_number;
        amount = front.amount;
        other_amount = taken.other_amount;
        currency = front.currency;
        date = taken.date;
        issuer_data = taken.issuer_data;
      };
      codes = record { currency = front.code; transaction_type = front.transaction_type };
    } in
    subst (IsPresentCall before) (taken.is ∙ last) found_is

record IsReversalCall (before : Left) (f : ReversalFields) : Type 0 where
  exact : before.bytes ≡ reversal_rest f
  accepted : IsReversal f
  codes : is_code f.t5f2a ≡ true

reversal_exact : (before : Left) (f : ReversalFields) → iso_reversal_at before ≡ Ok f → IsReversalCall before f
unfolding iso_reversal_at
reversal_exact before f is =
    let first = made_of (reversal_front_at before) _ f is in
    let second = made_of (items_at first.value.1) _ f first.behind in
    let third = made_of (in_55 (reversal_in first.value.0 second.value.0.1)) _ f second.behind in
    let fourth = made_of (tied first.value.0.numbers third.value.t9f36) _ f third.behind in
    let fifth = made_of (nothing_left second.value.1) _ f fourth.behind in
    let last : third.value ≡ f = cc in
    let front = reversal_front_spelled before first.value.0 first.value.1 first.made in
    let items = items_spelled first.value.1 second.value.0.0 second.value.0.1 second.value.1 second.made in
    let taken = reversal_taken first.value.0 second.value.0.1 third.value (from_55 (reversal_in first.value.0 second.value.0.1) third.value third.made) in
    let found : ReversalFields = reversal_of first.value.0 taken.t5f34 taken.t9f36 in
    let counter : third.value.t9f36 ≡ taken.t9f36 = ap (λ (d : ReversalFields). d.t9f36) (sym taken.is) in
    let numbers = tied_numbers first.value.0.numbers taken.t9f36 fourth.value (ap (tied first.value.0.numbers) (sym counter) ∙ fourth.made) in
    let behind : first.value.1.bytes ≡ with_length 4 (spelled (reversal_items found)) ++ [] =
    items.front
    ∙ ap (λ (c : List ℕ). with_length 4 c ++ second.value.1.bytes) (items.exact ∙ ap spelled taken.exact)
    ∙ ap (λ (b : List ℕ). with_length 4 (spelled (reversal_items found)) ++ b) (nothing_spelled second.value.1 fifth.value fifth.made) in
    let found_is : IsReversalCall before found = record {
      exact =
          front.exact
          ∙ ap (reversal_front_bytes first.value.0) behind
          ∙ ap (λ (n : Numbers). reversal_front_bytes (record { pan = first.value.0.pan; numbers = n; t8a = first.value.0.t8a; acceptor = first.value.0.acceptor }) (with_length 4 (spelled (reversal_items found)) ++ [])) numbers;
      accepted = record {
        account_number = front.account_number;
        sequence_number = taken.sequence_number;
        amount = front.amount;
        currency = front.currency;
      };
      codes = front.code;
    } in
    subst (IsReversalCall before) (taken.is ∙ last) found_is

-- a call that was read has one spelling, and may be written
pub record IsWritten (bytes : List ℕ) (call : Incoming) : Type 0 where
  pub exact : bytes ≡ call_bytes call
  pub accepted : IsAccepted call
  pub codes : HasCodes call

call_exact : (of : CallKind) (before : Left) (call : Incoming) → call_at of before ≡ Ok call → IsWritten (call_type of ++ before.bytes) call
call_exact kind.Request before call is =
    let step = made_of (iso_request_at before) _ call is in
    let same : Request step.value ≡ call = cc in
    let found = request_exact before step.value step.made in
    let written : IsWritten (call_type kind.Request ++ before.bytes) (Request step.value) = record {
      exact = ap (λ b. call_type kind.Request ++ b) found.exact ∙ sym (request_split step.value);
      accepted = found.accepted;
      codes = found.codes;
    } in
    subst (IsWritten (call_type kind.Request ++ before.bytes)) same written
call_exact kind.Presentment before call is =
    let step = made_of (iso_present_at before) _ call is in
    let same : Present step.value ≡ call = cc in
    let found = present_exact before step.value step.made in
    let written : IsWritten (call_type kind.Presentment ++ before.bytes) (Present step.value) = record {
      exact = ap (λ b. call_type kind.Presentment ++ b) found.exact ∙ sym (present_split step.value);
      accepted = found.accepted;
      codes = found.codes;
    } in
    subst (IsWritten (call_type kind.Presentment ++ before.bytes)) same written
call_exact kind.Reversal before call is =
    let step = made_of (iso_reversal_at before) _ call is in
    let same : Reverse step.value ≡ call = cc in
    let found = reversal_exact before step.value step.made in
    let written : IsWritten (call_type kind.Reversal ++ before.bytes) (Reverse step.value) = record {
      exact = ap (λ b. call_type kind.Reversal ++ b) found.exact ∙ sym (reversal_split step.value);
      accepted = found.accepted;
      codes = found.codes;
    } in
    subst (IsWritten (call_type kind.Reversal ++ before.bytes)) same written

pub call_spelled : (bytes : List ℕ) (call : Incoming) → call_of bytes ≡ Ok call → IsWritten bytes call
call_spelled bytes call is =
    let step = made_of (call_kind_at call_type (unread_message bytes)) _ call is in
    let type_is = kind_spelled call_type (unread_message bytes) step.value.0 step.value.1 step.made in
    subst (λ (b : List ℕ). IsWritten b call) (sym type_is) (call_exact step.value.0 step.value.1 call step.behind)

-- what a reader says of the call that it gives
abbrev pub Reads : List ℕ → Result Incoming IsoFault → Type 0
Reads bytes result = MatchResult result (λ call. call_of bytes ≡ Ok call) (λ fault. call_of bytes ≡ Err fault)

pub read_exact : (bytes : List ℕ) (result : Result Incoming IsoFault) → Reads bytes result → IfOk result (λ call. bytes ≡ call_bytes call)
read_exact bytes (Ok call) is = (call_spelled bytes call is).exact
read_exact bytes (Err fault) is = tt

pub read_accepted : (bytes : List ℕ) (result : Result Incoming IsoFault) → Reads bytes result → IfOk result IsAccepted
read_accepted bytes (Ok call) is = (call_spelled bytes call is).accepted
read_accepted bytes (Err fault) is = tt

pub read_codes : (bytes : List ℕ) (result : Result Incoming IsoFault) → Reads bytes result → IfOk result HasCodes
read_codes bytes (Ok call) is = (call_spelled bytes call is).codes
read_codes bytes (Err fault) is = tt
