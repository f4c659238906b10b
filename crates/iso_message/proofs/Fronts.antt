-- The bitmap and the fields before field 55 of each call, together: read back, and spelled.
use Rattle.std.proofs.Common.{◌≡◌, ℕ, Bool, true, false, ◌+◌, IfSome, List, [], ◌++◌, length, Option, Some, None, Ok, refl, ap, ◌∙◌, subst, bytes_eq}
use Rattle.std.specs.Prelude.{is_some, unwrap_or}
use Rattle.emv_dict.specs.Digits.{AllDecimal}
use Rattle.emv_dict.specs.Pan.{HasPanLength}
use Rattle.emv_dict.specs.Settings.{is_code}
use Rattle.auth_message.specs.declared.reversal.ReversalFields.{ReversalFields}
use Rattle.auth_message.specs.Accepted.{AreDigitBytes, IsRequest, IsPresent, IsReversal}
use Rattle.auth_message.specs.Data.{RequestData, PresentData}
use Rattle.auth_message.specs.Whole.{IsCoded}
use Rattle.auth_message.proofs.Again.{RequestSizes, PresentSizes, ReversalSizes}
use Rattle.iso_message.specs.declared.front.RequestFront.{RequestFront}
use Rattle.iso_message.specs.declared.front.PresentFront.{PresentFront}
use Rattle.iso_message.specs.declared.front.ReversalFront.{ReversalFront}
use Rattle.iso_message.specs.Front.{account_field_at, processing_at, numbers_at, acceptor_at, pin_named, request_bitmap_at, pin_at, request_front_at, present_front_at, reversal_front_at}
use Rattle.iso_message.specs.Layout.{bitmap, request_numbers, present_numbers, reversal_numbers}
use Rattle.iso_message.specs.Left.{Left, part_at, bits_at}
use Rattle.iso_message.specs.Spelling.{account_number_field, processing_field, amount_field, audit_field, reference_field, terminal_field, currency_field}
use Rattle.iso_message.proofs.FrontAgain.{after_account, account_again, processing_again, numbers_again, acceptor_again, pin_again}
use Rattle.iso_message.proofs.FrontSpelled.{account_spelled, processing_spelled, numbers_spelled, acceptor_spelled}
use Rattle.iso_message.proofs.ItemsAgain.{request_front, present_front, reversal_front}
use Rattle.iso_message.proofs.Parts.{left, equal_bytes, same_bytes, part_again, part_spelled, bits_again, bits_spelled}
use Rattle.iso_message.proofs.Steps.{made_of, same_made}

-- a bitmap has eight bytes, and those of a request differ
pub bitmap_size : (fields : List ℕ) → length (bitmap fields) ≡ 8
unfolding bitmap
bitmap_size fields = refl

without_pin : bytes_eq (bitmap (request_numbers false)) (bitmap (request_numbers true)) ≡ false
unfolding bitmap
without_pin = refl

pin_is_named : (pin : Bool) → pin_named (bitmap (request_numbers pin)) ≡ Ok pin
pin_is_named true = rw (same_bytes (bitmap (request_numbers true))) refl
pin_is_named false = rw (without_pin, same_bytes (bitmap (request_numbers false))) refl

request_bitmap_again : (place : ℕ) (pin : Bool) (rest : List ℕ) → request_bitmap_at (left place (bitmap (request_numbers pin) ++ rest)) ≡ Ok (pin, left (place + 8) rest)
unfolding request_bitmap_at
request_bitmap_again place pin rest = rw (part_again place place (bitmap (request_numbers pin)) rest 8 (bitmap_size (request_numbers pin)), pin_is_named pin) refl

-- the fields 2 to 49 of a request or a presentment, and what stands behind them
abbrev pub request_front_bytes : RequestFront → List ℕ → List ℕ
request_front_bytes front rest =
    bitmap (request_numbers (is_some front.tdf11))
    ++ ((account_number_field front.pan).1
    ++ ((processing_field front.t9c).1
    ++ ((amount_field front.numbers.t9f02).1
    ++ (front.numbers.audit ++ (front.numbers.reference ++ ((terminal_field front.acceptor.t9f1c).1 ++ ((currency_field front.acceptor.t5f2a).1 ++ (unwrap_or front.tdf11 [] ++ rest))))))))

abbrev pub present_front_bytes : PresentFront → List ℕ → List ℕ
present_front_bytes front rest =
    bitmap present_numbers
    ++ ((account_number_field front.pan).1
    ++ ((processing_field front.t9c).1
    ++ ((amount_field front.numbers.t9f02).1
    ++ (front.numbers.audit ++ (front.numbers.reference ++ (front.t8a ++ ((terminal_field front.acceptor.t9f1c).1 ++ ((currency_field front.acceptor.t5f2a).1 ++ rest))))))))

abbrev pub reversal_front_bytes : ReversalFront → List ℕ → List ℕ
reversal_front_bytes front rest =
    bitmap reversal_numbers
    ++ ((account_number_field front.pan).1
    ++ ((amount_field front.numbers.t9f02).1
    ++ (front.numbers.audit ++ (front.numbers.reference ++ (front.t8a ++ ((terminal_field front.acceptor.t9f1c).1 ++ ((currency_field front.acceptor.t5f2a).1 ++ rest)))))))

-- the block of a PIN, and what is left behind it
block_again : (place : ℕ) (block : Option (List ℕ)) (rest : List ℕ) → IfSome block (λ v. length v ≡ 8)
    → (next : ℕ) × (pin_at (is_some block) (left place (unwrap_or block [] ++ rest)) ≡ Ok (block, left next rest))
unfolding pin_at
block_again place None rest sized = (place, refl)
block_again place (Some block) rest sized = (place + 8, pin_again place block rest sized)

pub request_front_again : (place : ℕ) (f : RequestData) (rest : List ℕ) → IsRequest f → IsCoded f.paid.t5f2a f.paid.t9c → AllDecimal f.named.pan → RequestSizes f
    → (next : ℕ) × (request_front_at (left place (request_front_bytes (request_front f) rest)) ≡ Ok (request_front f, left next rest))
unfolding request_front_at
request_front_again place f rest is coded decimal sizes =
    let tail : List ℕ = unwrap_or f.tdf11 [] ++ rest in
    let acceptor_tail : List ℕ = (terminal_field f.named.t9f1c).1 ++ ((currency_field f.paid.t5f2a).1 ++ tail) in
    let numbers_tail : List ℕ = (amount_field f.paid.t9f02).1 ++ ((audit_field f.paid.t9f36).1 ++ ((reference_field f.paid.t9f36).1 ++ acceptor_tail)) in
    let first = place + 8 in
    let second = after_account first f.named.pan in
    let third = second + 6 in
    let fourth = ((third + 12) + 6) + 12 in
    let fifth = (fourth + 8) + 3 in
    let block = block_again fifth f.tdf11 rest sizes.3 in (
      block.0,
      rw (
        request_bitmap_again place (is_some f.tdf11) ((account_number_field f.named.pan).1 ++ ((processing_field f.paid.t9c).1 ++ numbers_tail)),
        account_again first f.named.pan ((processing_field f.paid.t9c).1 ++ numbers_tail) is.account_number decimal,
        processing_again second f.paid.t9c numbers_tail sizes.2.6 coded.transaction_type,
        numbers_again third f.paid.t9f02 f.paid.t9f36 acceptor_tail sizes.2.0 is.amount,
        acceptor_again fourth f.named.t9f1c f.paid.t5f2a tail sizes.0.0 sizes.2.4 coded.currency,
        block.1,
      ) refl,
    )

pub present_front_again : (place : ℕ) (f : PresentData) (rest : List ℕ) → IsPresent f → IsCoded f.paid.t5f2a f.paid.t9c → AllDecimal f.named.pan → PresentSizes f
    → (next : ℕ) × (present_front_at (left place (present_front_bytes (present_front f) rest)) ≡ Ok (present_front f, left next rest))
unfolding present_front_at
present_front_again place f rest is coded decimal sizes =
    let acceptor_tail : List ℕ = (terminal_field f.named.t9f1c).1 ++ ((currency_field f.paid.t5f2a).1 ++ rest) in
    let numbers_tail : List ℕ = (amount_field f.paid.t9f02).1 ++ ((audit_field f.paid.t9f36).1 ++ ((reference_field f.paid.t9f36).1 ++ (f.t8a ++ acceptor_tail))) in
    let first = place + 8 in
    let second = after_account first f.named.pan in
    let third = second + 6 in
    let fourth = ((third + 12) + 6) + 12 in
    let fifth = fourth + 2 in (
      (fifth + 8) + 3,
      rw (
        bits_again place (bitmap present_numbers) ((account_number_field f.named.pan).1 ++ ((processing_field f.paid.t9c).1 ++ numbers_tail)) (bitmap_size present_numbers),
        account_again first f.named.pan ((processing_field f.paid.t9c).1 ++ numbers_tail) is.account_number decimal,
        processing_again second f.paid.t9c numbers_tail sizes.1.6 coded.transaction_type,
        numbers_again third f.paid.t9f02 f.paid.t9f36 (f.t8a ++ acceptor_tail) sizes.1.0 is.amount,
        part_again fourth fourth f.t8a acceptor_tail 2 sizes.2,
        acceptor_again fifth f.named.t9f1c f.paid.t5f2a rest sizes.0.0 sizes.1.4 coded.currency,
      ) refl,
    )

pub reversal_front_again : (place : ℕ) (f : ReversalFields) (rest : List ℕ) → IsReversal f → is_code f.t5f2a ≡ true → AllDecimal f.pan → ReversalSizes f
    → (next : ℕ) × (reversal_front_at (left place (reversal_front_bytes (reversal_front f) rest)) ≡ Ok (reversal_front f, left next rest))
unfolding reversal_front_at
reversal_front_again place f rest is code decimal sizes =
    let acceptor_tail : List ℕ = (terminal_field f.t9f1c).1 ++ ((currency_field f.t5f2a).1 ++ rest) in
    let numbers_tail : List ℕ = (amount_field f.t9f02).1 ++ ((audit_field f.t9f36).1 ++ ((reference_field f.t9f36).1 ++ (f.t8a ++ acceptor_tail))) in
    let first = place + 8 in
    let second = after_account first f.pan in
    let third = ((second + 12) + 6) + 12 in
    let fourth = third + 2 in (
      (fourth + 8) + 3,
      rw (
        bits_again place (bitmap reversal_numbers) ((account_number_field f.pan).1 ++ numbers_tail) (bitmap_size reversal_numbers),
        account_again first f.pan numbers_tail is.account_number decimal,
        numbers_again second f.t9f02 f.t9f36 (f.t8a ++ acceptor_tail) sizes.3 is.amount,
        part_again third third f.t8a acceptor_tail 2 sizes.5,
        acceptor_again fourth f.t9f1c f.t5f2a rest sizes.0 sizes.4 code,
      ) refl,
    )

-- which bitmap a request has
named_by : (bits : List ℕ) (pin first second : Bool) → bytes_eq bits (bitmap (request_numbers true)) ≡ first → bytes_eq bits (bitmap (request_numbers false)) ≡ second → pin_named bits ≡ Ok pin
    → bits ≡ bitmap (request_numbers pin)
named_by bits true true second one two is = equal_bytes bits (bitmap (request_numbers true)) one
named_by bits false true second one two is = let here = rw one at is in cc
named_by bits true false true one two is = let here = rw (one, two) at is in cc
named_by bits false false true one two is = equal_bytes bits (bitmap (request_numbers false)) two
named_by bits pin false false one two is = let here = rw (one, two) at is in cc

request_bitmap_spelled : (before : Left) (pin : Bool) (after : Left) → request_bitmap_at before ≡ Ok (pin, after) → before.bytes ≡ bitmap (request_numbers pin) ++ after.bytes
unfolding request_bitmap_at
request_bitmap_spelled before pin after is =
    let first = made_of (part_at 8 before) _ (pin, after) is in
    let second = made_of (pin_named first.value.0) _ (pin, after) first.behind in
    let same : (second.value, first.value.1) ≡ (pin, after) = cc in
    let pin_is : second.value ≡ pin = ap (λ (p : Bool × Left). p.0) same in
    let after_is : first.value.1 ≡ after = ap (λ (p : Bool × Left). p.1) same in
    let part = part_spelled before.place 8 before first.value.0 first.value.1 first.made in
    let bits = named_by first.value.0 pin _ _ refl refl (second.made ∙ ap Ok pin_is) in
    part.front ∙ ap (λ b. b ++ first.value.1.bytes) bits ∙ ap (λ (l : Left). bitmap (request_numbers pin) ++ l.bytes) after_is

block_spelled : (named : Bool) (before : Left) (block : Option (List ℕ)) (after : Left) → pin_at named before ≡ Ok (block, after) → (named ≡ is_some block) × (before.bytes ≡ unwrap_or block [] ++ after.bytes)
unfolding pin_at
block_spelled true before (Some block) after is =
    let first = made_of (part_at 8 before) _ (Some block, after) is in
    let found : Option (List ℕ) = Some first.value.0 in
    let wanted : Option (List ℕ) = Some block in
    let same : (found, first.value.1) ≡ (wanted, after) = same_made (found, first.value.1) (wanted, after) first.behind in
    let found_is : found ≡ wanted = ap (λ (p : Option (List ℕ) × Left). p.0) same in
    let block_is : first.value.0 ≡ block = cc in
    let after_is : first.value.1 ≡ after = ap (λ (p : Option (List ℕ) × Left). p.1) same in
    let part = part_spelled before.place 8 before first.value.0 first.value.1 first.made in
    (refl, part.front ∙ ap (λ b. b ++ first.value.1.bytes) block_is ∙ ap (λ (l : Left). block ++ l.bytes) after_is)
block_spelled true before None after is =
    let first = made_of (part_at 8 before) _ (None, after) is in
    let found : Option (List ℕ) = Some first.value.0 in
    let wanted : Option (List ℕ) = None in
    let same : (found, first.value.1) ≡ (wanted, after) = same_made (found, first.value.1) (wanted, after) first.behind in
    let found_is : found ≡ wanted = ap (λ (p : Option (List ℕ) × Left). p.0) same in
    let never : ⊥ = cc in
    absurd never
block_spelled false before (Some block) after is =
    let found : Option (List ℕ) = None in
    let wanted : Option (List ℕ) = Some block in
    let found_is : found ≡ wanted = ap (λ (p : Option (List ℕ) × Left). p.0) (same_made (found, before) (wanted, after) is) in
    let never : ⊥ = cc in
    absurd never
block_spelled false before None after is =
    let found : Option (List ℕ) = None in
    let after_is : before ≡ after = ap (λ (p : Option (List ℕ) × Left). p.1) (same_made (found, before) (found, after) is) in
    (refl, ap (λ (l : Left). l.bytes) after_is)

-- fields one behind the other
request_joined :
    (b0 b1 b2 b3 b4 b5 b6 bits account processing amount audit reference terminal currency block : List ℕ) → b0 ≡ bits ++ b1 → b1 ≡ account ++ b2 → b2 ≡ processing ++ b3
    → b3 ≡ amount ++ (audit ++ (reference ++ b4)) → b4 ≡ terminal ++ (currency ++ b5) → b5 ≡ block ++ b6
    → b0 ≡ bits ++ (account ++ (processing ++ (amount ++ (audit ++ (reference ++ (terminal ++ (currency ++ (block ++ b6))))))))
request_joined b0 b1 b2 b3 b4 b5 b6 bits account processing amount audit reference terminal currency block one two three four five six = cc

present_joined :
    (b0 b1 b2 b3 b4 b5 b6 bits account processing amount audit reference code terminal currency : List ℕ) → b0 ≡ bits ++ b1 → b1 ≡ account ++ b2 → b2 ≡ processing ++ b3
    → b3 ≡ amount ++ (audit ++ (reference ++ b4)) → b4 ≡ code ++ b5 → b5 ≡ terminal ++ (currency ++ b6)
    → b0 ≡ bits ++ (account ++ (processing ++ (amount ++ (audit ++ (reference ++ (code ++ (terminal ++ (currency ++ b6))))))))
present_joined b0 b1 b2 b3 b4 b5 b6 bits account processing amount audit reference code terminal currency one two three four five six = cc

reversal_joined :
    (b0 b1 b2 b3 b4 b5 bits account amount audit reference code terminal currency : List ℕ) → b0 ≡ bits ++ b1 → b1 ≡ account ++ b2
    → b2 ≡ amount ++ (audit ++ (reference ++ b3)) → b3 ≡ code ++ b4 → b4 ≡ terminal ++ (currency ++ b5)
    → b0 ≡ bits ++ (account ++ (amount ++ (audit ++ (reference ++ (code ++ (terminal ++ (currency ++ b5)))))))
reversal_joined b0 b1 b2 b3 b4 b5 bits account amount audit reference code terminal currency one two three four five = cc

pub record IsRequestFront (before : Left) (front : RequestFront) (after : Left) : Type 0 where
  pub exact : before.bytes ≡ request_front_bytes front after.bytes
  pub account_number : HasPanLength front.pan
  pub amount : AreDigitBytes front.numbers.t9f02
  pub currency : AreDigitBytes front.acceptor.t5f2a
  pub code : is_code front.acceptor.t5f2a ≡ true
  pub transaction_type : AreDigitBytes front.t9c

pub request_front_spelled : (before : Left) (front : RequestFront) (after : Left) → request_front_at before ≡ Ok (front, after) → IsRequestFront before front after
unfolding request_front_at
request_front_spelled before front after is =
    let first = made_of (request_bitmap_at before) _ (front, after) is in
    let second = made_of (account_field_at first.value.1) _ (front, after) first.behind in
    let third = made_of (processing_at second.value.1) _ (front, after) second.behind in
    let fourth = made_of (numbers_at third.value.1) _ (front, after) third.behind in
    let fifth = made_of (acceptor_at fourth.value.1) _ (front, after) fourth.behind in
    let sixth = made_of (pin_at first.value.0 fifth.value.1) _ (front, after) fifth.behind in
    let read : RequestFront = record { pan = second.value.0; t9c = third.value.0; numbers = fourth.value.0; acceptor = fifth.value.0; tdf11 = sixth.value.0 } in
    let same : (read, sixth.value.1) ≡ (front, after) = same_made (read, sixth.value.1) (front, after) sixth.behind in
    let bits = request_bitmap_spelled before first.value.0 first.value.1 first.made in
    let account = account_spelled first.value.1 second.value.0 second.value.1 second.made in
    let processing = processing_spelled second.value.1 third.value.0 third.value.1 third.made in
    let numbers = numbers_spelled third.value.1 fourth.value.0 fourth.value.1 fourth.made in
    let acceptor = acceptor_spelled fourth.value.1 fifth.value.0 fifth.value.1 fifth.made in
    let block = block_spelled first.value.0 fifth.value.1 sixth.value.0 sixth.value.1 sixth.made in
    let read_is : IsRequestFront before read sixth.value.1 = record {
      exact = request_joined before.bytes first.value.1.bytes second.value.1.bytes third.value.1.bytes fourth.value.1.bytes fifth.value.1.bytes sixth.value.1.bytes
          (bitmap (request_numbers (is_some read.tdf11))) (account_number_field read.pan).1 (processing_field read.t9c).1 (amount_field read.numbers.t9f02).1 read.numbers.audit read.numbers.reference
          (terminal_field read.acceptor.t9f1c).1 (currency_field read.acceptor.t5f2a).1 (unwrap_or read.tdf11 []) (bits ∙ ap (λ (n : Bool). bitmap (request_numbers n) ++ first.value.1.bytes) block.0) account.front processing.front numbers.front acceptor.front block.1;
      account_number = account.sized;
      amount = numbers.digits;
      currency = acceptor.digits;
      code = acceptor.code;
      transaction_type = processing.digits;
    } in
    subst (λ (p : RequestFront × Left). IsRequestFront before p.0 p.1) same read_is

pub record IsPresentFront (before : Left) (front : PresentFront) (after : Left) : Type 0 where
  pub exact : before.bytes ≡ present_front_bytes front after.bytes
  pub account_number : HasPanLength front.pan
  pub amount : AreDigitBytes front.numbers.t9f02
  pub currency : AreDigitBytes front.acceptor.t5f2a
  pub code : is_code front.acceptor.t5f2a ≡ true
  pub transaction_type : AreDigitBytes front.t9c

pub present_front_spelled : (before : Left) (front : PresentFront) (after : Left) → present_front_at before ≡ Ok (front, after) → IsPresentFront before front after
unfolding present_front_at
present_front_spelled before front after is =
    let first = made_of (bits_at (bitmap present_numbers) before) _ (front, after) is in
    let second = made_of (account_field_at first.value) _ (front, after) first.behind in
    let third = made_of (processing_at second.value.1) _ (front, after) second.behind in
    let fourth = made_of (numbers_at third.value.1) _ (front, after) third.behind in
    let fifth = made_of (part_at 2 fourth.value.1) _ (front, after) fourth.behind in
    let sixth = made_of (acceptor_at fifth.value.1) _ (front, after) fifth.behind in
    let read : PresentFront = record { pan = second.value.0; t9c = third.value.0; numbers = fourth.value.0; t8a = fifth.value.0; acceptor = sixth.value.0 } in
    let same : (read, sixth.value.1) ≡ (front, after) = same_made (read, sixth.value.1) (front, after) sixth.behind in
    let bits = bits_spelled (bitmap present_numbers) before first.value first.made in
    let account = account_spelled first.value second.value.0 second.value.1 second.made in
    let processing = processing_spelled second.value.1 third.value.0 third.value.1 third.made in
    let numbers = numbers_spelled third.value.1 fourth.value.0 fourth.value.1 fourth.made in
    let code = part_spelled fourth.value.1.place 2 fourth.value.1 fifth.value.0 fifth.value.1 fifth.made in
    let acceptor = acceptor_spelled fifth.value.1 sixth.value.0 sixth.value.1 sixth.made in
    let read_is : IsPresentFront before read sixth.value.1 = record {
      exact = present_joined before.bytes first.value.bytes second.value.1.bytes third.value.1.bytes fourth.value.1.bytes fifth.value.1.bytes sixth.value.1.bytes
          (bitmap present_numbers) (account_number_field read.pan).1 (processing_field read.t9c).1 (amount_field read.numbers.t9f02).1 read.numbers.audit read.numbers.reference read.t8a
          (terminal_field read.acceptor.t9f1c).1 (currency_field read.acceptor.t5f2a).1 bits account.front processing.front numbers.front code.front acceptor.front;
      account_number = account.sized;
      amount = numbers.digits;
      currency = acceptor.digits;
      code = acceptor.code;
      transaction_type = processing.digits;
    } in
    subst (λ (p : PresentFront × Left). IsPresentFront before p.0 p.1) same read_is

pub record IsReversalFront (before : Left) (front : ReversalFront) (after : Left) : Type 0 where
  pub exact : before.bytes ≡ reversal_front_bytes front after.bytes
  pub account_number : HasPanLength front.pan
  pub amount : AreDigitBytes front.numbers.t9f02
  pub currency : AreDigitBytes front.acceptor.t5f2a
  pub code : is_code front.acceptor.t5f2a ≡ true

pub reversal_front_spelled : (before : Left) (front : ReversalFront) (after : Left) → reversal_front_at before ≡ Ok (front, after) → IsReversalFront before front after
unfolding reversal_front_at
reversal_front_spelled before front after is =
    let first = made_of (bits_at (bitmap reversal_numbers) before) _ (front, after) is in
    let second = made_of (account_field_at first.value) _ (front, after) first.behind in
    let fourth = made_of (numbers_at second.value.1) _ (front, after) second.behind in
    let fifth = made_of (part_at 2 fourth.value.1) _ (front, after) fourth.behind in
    let sixth = made_of (acceptor_at fifth.value.1) _ (front, after) fifth.behind in
    let read : ReversalFront = record { pan = second.value.0; numbers = fourth.value.0; t8a = fifth.value.0; acceptor = sixth.value.0 } in
    let same : (read, sixth.value.1) ≡ (front, after) = same_made (read, sixth.value.1) (front, after) sixth.behind in
    let bits = bits_spelled (bitmap reversal_numbers) before first.value first.made in
    let account = account_spelled first.value second.value.0 second.value.1 second.made in
    let numbers = numbers_spelled second.value.1 fourth.value.0 fourth.value.1 fourth.made in
    let code = part_spelled fourth.value.1.place 2 fourth.value.1 fifth.value.0 fifth.value.1 fifth.made in
    let acceptor = acceptor_spelled fifth.value.1 sixth.value.0 sixth.value.1 sixth.made in
    let read_is : IsReversalFront before read sixth.value.1 = record {
      exact = reversal_joined before.bytes first.value.bytes second.value.1.bytes fourth.value.1.bytes fifth.value.1.bytes sixth.value.1.bytes
          (bitmap reversal_numbers) (account_number_field read.pan).1 (amount_field read.numbers.t9f02).1 read.numbers.audit read.numbers.reference read.t8a
          (terminal_field read.acceptor.t9f1c).1 (currency_field read.acceptor.t5f2a).1 bits account.front numbers.front code.front acceptor.front;
      account_number = account.sized;
      amount = numbers.digits;
      currency = acceptor.digits;
      code = acceptor.code;
    } in
    subst (λ (p : ReversalFront × Left). IsReversalFront before p.0 p.1) same read_is
