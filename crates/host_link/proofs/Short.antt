-- A message of a terminal that isn't a request has at most 139 bytes.
use Rattle.std.proofs.Common.{◌≡◌, ◌≢◌, ℕ, ◌+◌, ◌*◌, ◌/◌, ◌%◌, ◌==◌, ◌≤◌, ◌<◌, Bool, true, false, if◌then◌else◌, ◌&&◌, nat_le, nat_lt, List, [], ◌∷◌, ◌++◌, length, get_or, Option, Some, None, IfSome, Result, Ok, Err, refl, sym, ap, ◌∙◌, subst, arith, length-append}
use Rattle.std.proofs.lemmas.Bool.{eqb-true}
use Rattle.std.proofs.lemmas.Bool.Decides.{nat_tests}
use Rattle.ber_tlv.specs.Item.{ItemData}
use Rattle.ber_tlv.specs.Written.{written, tag_bytes, length_bytes}
use Rattle.ber_tlv.proofs.ReadAgain.{both}
use Rattle.emv_dict.specs.Pan.{HasPanLength, pan_field}
use Rattle.auth_message.specs.declared.fault.MessageFault.{MessageFault}
use Rattle.auth_message.specs.declared.groups.Named.{Named}
use Rattle.auth_message.specs.declared.groups.Paid.{Paid}
use Rattle.auth_message.specs.declared.message.Incoming.{Incoming}
use Rattle.auth_message.specs.declared.message.Incoming.TheVariants.{Request, Present, Reverse}
use Rattle.auth_message.specs.declared.reversal.ReversalFields.{ReversalFields}
use Rattle.auth_message.specs.Accepted.{IsPresent, IsReversal}
use Rattle.auth_message.specs.Data.{RequestData, PresentData, NamedSizes, PaidSizes}
use Rattle.auth_message.specs.Field.{is_fixed, fixed_value}
use Rattle.auth_message.specs.Fields.{◌>>=◌, field_given, behind_field, field_if_there, fixed_at, some_at, pan_at, fixed_if_there, no_item_left}
use Rattle.auth_message.specs.Groups.{named_at, paid_at}
use Rattle.auth_message.specs.Message.{message_in, message_of}
use Rattle.auth_message.specs.Messages.{request_at, present_at, reversal_at}
use Rattle.auth_message.specs.Outer.{outer_of}
use Rattle.auth_message.specs.Spelling.{optional, spelled, named_fields, paid_fields, request_bytes, reversal_named, present_fields, present_bytes, reversal_fields, reversal_bytes}
use Rattle.auth_message.specs.Whole.{message_bytes, IsAccepted, IsMessage}
use Rattle.iso_message.proofs.ItemsSpelled.{fixed_taken}
use Rattle.iso_message.proofs.Steps.{read_of, same_read}

-- a field that was read has so many bytes
sized : (count : ℕ) (numeric : Bool) (tag : ℕ) (items : List ItemData) (out : List ℕ × List ItemData) → fixed_at count numeric tag items ≡ Ok out → length out.0 ≡ count
sized count numeric tag items out is =
    let taken = fixed_taken count numeric tag items out.0 out.1 is in
    eqb-true (length out.0) count (both (length out.0 == count) _ taken.1).0

value_sized : (count : ℕ) (numeric : Bool) (tag : ℕ) (found value : List ℕ) (right : Bool) → is_fixed count numeric found ≡ right → fixed_value count numeric tag found ≡ Ok value → length value ≡ count
unfolding fixed_value
value_sized count numeric tag found value true right is =
    let here = rw right at is in
    let same : found ≡ value = cc in
    ap length (sym same) ∙ eqb-true (length found) count (both (length found == count) _ right).0
value_sized count numeric tag found value false right is = let here = rw right at is in cc

optional_sized : (items : List ItemData) (out : Option (List ℕ) × List ItemData) → fixed_if_there 1 true 0x5F34 items ≡ Ok out → IfSome out.0 (λ v. length v ≡ 1)
unfolding fixed_if_there
optional_sized items out is = by (field_given 0x5F34 items) is
  where
    by : (o : Option (List ℕ)) → (field_if_there (fixed_value 1 true 0x5F34) o >>= λ value. Ok (value, behind_field 0x5F34 items)) ≡ Ok out → IfSome out.0 (λ v. length v ≡ 1)
    by None made =
        let none : Option (List ℕ) = None in
        subst (λ (q : Option (List ℕ) × List ItemData). IfSome q.0 (λ v. length v ≡ 1)) (same_read (none, behind_field 0x5F34 items) out made) tt
    by (Some value) made =
        let step = read_of (field_if_there (fixed_value 1 true 0x5F34) (Some value)) _ out made in
        let inner = read_of (fixed_value 1 true 0x5F34 value) _ step.value step.made in
        let found : Option (List ℕ) = Some inner.value in
        let one : length inner.value ≡ 1 = value_sized 1 true 0x5F34 value inner.value _ refl inner.made in
        subst (λ (q : Option (List ℕ) × List ItemData). IfSome q.0 (λ v. length v ≡ 1)) (same_read (step.value, behind_field 0x5F34 items) out step.behind)
        (subst (λ (q : Option (List ℕ)). IfSome q (λ v. length v ≡ 1)) (same_read found step.value inner.behind) one)

-- what names the transaction
named_sized : (items : List ItemData) (out : Named × List ItemData) → named_at items ≡ Ok out → NamedSizes out.0
unfolding named_at
named_sized items out is =
    let first = read_of (fixed_at 8 false 0x9F1C items) _ out is in
    let second = read_of (pan_at first.value.1) _ out first.behind in
    let third = read_of (fixed_if_there 1 true 0x5F34 second.value.1) _ out second.behind in
    subst (λ (q : Named × List ItemData). NamedSizes q.0) (same_read _ out third.behind)
    (sized 8 false 0x9F1C items first.value first.made, optional_sized second.value.1 third.value third.made)

-- the last fields of the payment
abbrev paid_rest : List ℕ → List ℕ → List ℕ → List ℕ → List ℕ → List ℕ → List ItemData → Result (Paid × List ItemData) MessageFault
paid_rest a b c d e f items = do
  t9c ← fixed_at 1 false 0x9C items
  t9f37 ← fixed_at 4 false 0x9F37 t9c.1
  t82 ← fixed_at 2 false 0x82 t9f37.1
  t9f36 ← fixed_at 2 false 0x9F36 t82.1
  t9f26 ← fixed_at 8 false 0x9F26 t9f36.1
  Ok (
    record {
      t9f02 = a;
      t9f03 = b;
      t9f1a = c;
      t95 = d;
      t5f2a = e;
      t9a = f;
      t9c = t9c.0;
      t9f37 = t9f37.0;
      t82 = t82.0;
      t9f36 = t9f36.0;
      t9f26 = t9f26.0;
    },
    t9f26.1,
  )

rest_sized : (a b c d e f : List ℕ) (items : List ItemData) (out : Paid × List ItemData) → length a ≡ 6 → length b ≡ 6 → length c ≡ 2 → length d ≡ 5 → length e ≡ 2 → length f ≡ 3
    → paid_rest a b c d e f items ≡ Ok out → PaidSizes out.0
rest_sized a b c d e f items out one two three four five six is =
    let seventh = read_of (fixed_at 1 false 0x9C items) _ out is in
    let eighth = read_of (fixed_at 4 false 0x9F37 seventh.value.1) _ out seventh.behind in
    let ninth = read_of (fixed_at 2 false 0x82 eighth.value.1) _ out eighth.behind in
    let tenth = read_of (fixed_at 2 false 0x9F36 ninth.value.1) _ out ninth.behind in
    let last = read_of (fixed_at 8 false 0x9F26 tenth.value.1) _ out tenth.behind in
    subst (λ (q : Paid × List ItemData). PaidSizes q.0) (same_read _ out last.behind) (
      one,
      two,
      three,
      four,
      five,
      six,
      sized 1 false 0x9C items seventh.value seventh.made,
      sized 4 false 0x9F37 seventh.value.1 eighth.value eighth.made,
      sized 2 false 0x82 eighth.value.1 ninth.value ninth.made,
      sized 2 false 0x9F36 ninth.value.1 tenth.value tenth.made,
      sized 8 false 0x9F26 tenth.value.1 last.value last.made,
    )

paid_sized : (items : List ItemData) (out : Paid × List ItemData) → paid_at items ≡ Ok out → PaidSizes out.0
unfolding paid_at
paid_sized items out is =
    let first = read_of (fixed_at 6 true 0x9F02 items) _ out is in
    let second = read_of (fixed_at 6 true 0x9F03 first.value.1) _ out first.behind in
    let third = read_of (fixed_at 2 false 0x9F1A second.value.1) _ out second.behind in
    let fourth = read_of (fixed_at 5 false 0x95 third.value.1) _ out third.behind in
    let fifth = read_of (fixed_at 2 true 0x5F2A fourth.value.1) _ out fourth.behind in
    let sixth = read_of (fixed_at 3 true 0x9A fifth.value.1) _ out fifth.behind in
    rest_sized first.value.0 second.value.0 third.value.0 fourth.value.0 fifth.value.0 sixth.value.0 sixth.value.1 out
    (sized 6 true 0x9F02 items first.value first.made)
    (sized 6 true 0x9F03 first.value.1 second.value second.made)
    (sized 2 false 0x9F1A second.value.1 third.value third.made)
    (sized 5 false 0x95 third.value.1 fourth.value fourth.made)
    (sized 2 true 0x5F2A fourth.value.1 fifth.value fifth.made)
    (sized 3 true 0x9A fifth.value.1 sixth.value sixth.made)
    sixth.behind

-- the digits of an account number two a byte
pan_size : (digits : List ℕ) → 2 * length (pan_field digits) ≤ length digits + 1
unfolding pan_field
pan_size [] = omega arith
pan_size (high ∷ []) = omega arith
pan_size (high ∷ low ∷ rest) = omega (arith, pan_size rest)

pan_short : (digits : List ℕ) → HasPanLength digits → length (pan_field digits) ≤ 10
pan_short digits right =
    let most : nat_le (length digits) 19 ≡ true = (both (nat_le 13 (length digits)) (nat_le (length digits) 19) right).1 in
    let few : length digits ≤ 19 = grind (arith, nat_tests) in
    omega (arith, pan_size digits, few)

-- the bytes of a field
field_size : (tag : ℕ) (value : List ℕ) (n : ℕ) → length value ≡ n → length (written tag value) ≡ length (tag_bytes tag) + (length (length_bytes n) + n)
unfolding written
field_size tag value n is = simp length-append (rw is (omega arith))

lengths_short : (n : ℕ) → n < 256 → length (length_bytes n) ≤ 2
lengths_short n few = by (nat_lt n 128) (nat_lt n 256) refl
  where
    by : (p q : Bool) → nat_lt n 256 ≡ q → length (if p then n ∷ [] else if q then 129 ∷ n ∷ [] else 130 ∷ (n / 256) ∷ (n % 256) ∷ []) ≤ 2
    by true q is = omega arith
    by false true is = omega arith
    by false false is = (let never : 256 ≤ n = grind (arith, nat_tests) in absurd (omega (arith, never, few)))

length_short : (n : ℕ) → n < 128 → length (length_bytes n) ≡ 1
length_short n few = by (nat_lt n 128) (nat_lt n 256) refl
  where
    by : (p q : Bool) → nat_lt n 128 ≡ p → length (if p then n ∷ [] else if q then 129 ∷ n ∷ [] else 130 ∷ (n / 256) ∷ (n % 256) ∷ []) ≡ 1
    by true q is = refl
    by false q is = (let never : 128 ≤ n = grind (arith, nat_tests) in absurd (omega (arith, never, few)))

field_short : (tag : ℕ) (value : List ℕ) (most : ℕ) → length value ≤ most → most < 128 → length (written tag value) ≤ length (tag_bytes tag) + (1 + most)
field_short tag value most short few =
    let size = field_size tag value (length value) refl in
    let one = length_short (length value) (omega (arith, short, few)) in
    omega (arith, size, one, short)

number_size : (number : Option (List ℕ)) (others : List (ℕ × List ℕ)) → IfSome number (λ v. length v ≡ 1) → length (spelled (optional 0x5F34 number ++ others)) ≤ 4 + length (spelled others)
number_size None others one = omega arith
number_size (Some value) others one =
    let four : length (written 0x5F34 value) ≡ 4 = field_size 0x5F34 value 1 one in
    omega (arith, four, length-append (written 0x5F34 value) (spelled others))

-- what names a transaction, and fields behind it
named_size : (named : Named) (others : List (ℕ × List ℕ)) → NamedSizes named → HasPanLength named.pan
    → length (spelled (named_fields named ++ others)) ≤ 27 + length (spelled others)
named_size named others so right =
    let terminal : length (written 0x9F1C named.t9f1c) ≡ 11 = field_size 0x9F1C named.t9f1c 8 so.0 in
    let account : length (written 0x5A (pan_field named.pan)) ≤ 12 = field_short 0x5A (pan_field named.pan) 10 (pan_short named.pan right) (omega arith) in
    let number = number_size named.t5f34 others so.1 in
    simp length-append (omega (arith, terminal, account, number))

-- a payment, the card's own data and a code
payment_size : (paid : Paid) (t9f10 t8a : List ℕ) → PaidSizes paid → length t9f10 ≤ 32 → length t8a ≡ 2
    → length (spelled (paid_fields paid ++ ((0x9F10, t9f10) ∷ (0x8A, t8a) ∷ []))) ≤ 109
payment_size paid t9f10 t8a so few two =
    let amount : length (written 0x9F02 paid.t9f02) ≡ 9 = field_size 0x9F02 paid.t9f02 6 so.0 in
    let other : length (written 0x9F03 paid.t9f03) ≡ 9 = field_size 0x9F03 paid.t9f03 6 so.1 in
    let country : length (written 0x9F1A paid.t9f1a) ≡ 5 = field_size 0x9F1A paid.t9f1a 2 so.2 in
    let results : length (written 0x95 paid.t95) ≡ 7 = field_size 0x95 paid.t95 5 so.3 in
    let currency : length (written 0x5F2A paid.t5f2a) ≡ 5 = field_size 0x5F2A paid.t5f2a 2 so.4 in
    let date : length (written 0x9A paid.t9a) ≡ 5 = field_size 0x9A paid.t9a 3 so.5 in
    let trade : length (written 0x9C paid.t9c) ≡ 3 = field_size 0x9C paid.t9c 1 so.6 in
    let number : length (written 0x9F37 paid.t9f37) ≡ 7 = field_size 0x9F37 paid.t9f37 4 so.7 in
    let profile : length (written 0x82 paid.t82) ≡ 4 = field_size 0x82 paid.t82 2 so.8 in
    let counter : length (written 0x9F36 paid.t9f36) ≡ 5 = field_size 0x9F36 paid.t9f36 2 so.9 in
    let cryptogram : length (written 0x9F26 paid.t9f26) ≡ 11 = field_size 0x9F26 paid.t9f26 8 so.10 in
    let issuer : length (written 0x9F10 t9f10) ≤ 35 = field_short 0x9F10 t9f10 32 few (omega arith) in
    let code : length (written 0x8A t8a) ≡ 4 = field_size 0x8A t8a 2 two in
    simp length-append (omega (arith, amount, other, country, results, currency, date, trade, number, profile, counter, cryptogram, issuer, code))

-- the message around its fields
outer_size : (tag : ℕ) (content : List ℕ) → length (tag_bytes tag) ≡ 1 → length content ≤ 136 → (1 ≤ length (written tag content)) × (length (written tag content) ≤ 139)
outer_size tag content one few =
    let size = field_size tag content (length content) refl in
    let lengths = lengths_short (length content) (omega (arith, few)) in
    (omega (arith, size, one), omega (arith, size, one, lengths, few))

record PresentSizes (f : PresentData) : Type 0 where
  named : NamedSizes f.named
  paid : PaidSizes f.paid
  code : length f.t8a ≡ 2

present_sized : (items : List ItemData) (f : PresentData) → present_at items ≡ Ok f → PresentSizes f
unfolding present_at
present_sized items f is =
    let first = read_of (named_at items) _ f is in
    let second = read_of (paid_at first.value.1) _ f first.behind in
    let third = read_of (some_at 0 32 0x9F10 second.value.1) _ f second.behind in
    let fourth = read_of (fixed_at 2 false 0x8A third.value.1) _ f third.behind in
    let fifth = read_of (no_item_left fourth.value.1) _ f fourth.behind in
    subst PresentSizes (same_read (record { named = first.value.0; paid = second.value.0; t9f10 = third.value.0; t8a = fourth.value.0 }) f fifth.behind)
    (record {
      named = named_sized items first.value first.made;
      paid = paid_sized first.value.1 second.value second.made;
      code = sized 2 false 0x8A third.value.1 fourth.value fourth.made;
    })

present_short : (items : List ItemData) (f : PresentData) → IsPresent f → present_at items ≡ Ok f → (1 ≤ length (present_bytes f)) × (length (present_bytes f) ≤ 139)
unfolding present_bytes
present_short items f right is =
    let so = present_sized items f is in
    let behind_it = payment_size f.paid f.t9f10 f.t8a so.paid right.issuer_data so.code in
    let whole = named_size f.named (paid_fields f.paid ++ ((0x9F10, f.t9f10) ∷ (0x8A, f.t8a) ∷ [])) so.named right.account_number in
    outer_size 0xE3 (spelled (present_fields f)) refl (omega (arith, whole, behind_it))

record ReversalSizes (f : ReversalFields) : Type 0 where
  named : NamedSizes (reversal_named f)
  counter : length f.t9f36 ≡ 2
  amount : length f.t9f02 ≡ 6
  currency : length f.t5f2a ≡ 2
  code : length f.t8a ≡ 2

reversal_sized : (items : List ItemData) (f : ReversalFields) → reversal_at items ≡ Ok f → ReversalSizes f
unfolding reversal_at
reversal_sized items f is =
    let first = read_of (named_at items) _ f is in
    let second = read_of (fixed_at 2 false 0x9F36 first.value.1) _ f first.behind in
    let third = read_of (fixed_at 6 true 0x9F02 second.value.1) _ f second.behind in
    let fourth = read_of (fixed_at 2 true 0x5F2A third.value.1) _ f third.behind in
    let fifth = read_of (fixed_at 2 false 0x8A fourth.value.1) _ f fourth.behind in
    let sixth = read_of (no_item_left fifth.value.1) _ f fifth.behind in
    subst ReversalSizes (same_read _ f sixth.behind)
    (record {
      named = named_sized items first.value first.made;
      counter = sized 2 false 0x9F36 first.value.1 second.value second.made;
      amount = sized 6 true 0x9F02 second.value.1 third.value third.made;
      currency = sized 2 true 0x5F2A third.value.1 fourth.value fourth.made;
      code = sized 2 false 0x8A fourth.value.1 fifth.value fifth.made;
    })

reversal_short : (items : List ItemData) (f : ReversalFields) → IsReversal f → reversal_at items ≡ Ok f → (1 ≤ length (reversal_bytes f)) × (length (reversal_bytes f) ≤ 139)
unfolding reversal_bytes
reversal_short items f right is =
    let so = reversal_sized items f is in
    let counter : length (written 0x9F36 f.t9f36) ≡ 5 = field_size 0x9F36 f.t9f36 2 so.counter in
    let amount : length (written 0x9F02 f.t9f02) ≡ 9 = field_size 0x9F02 f.t9f02 6 so.amount in
    let currency : length (written 0x5F2A f.t5f2a) ≡ 5 = field_size 0x5F2A f.t5f2a 2 so.currency in
    let code : length (written 0x8A f.t8a) ≡ 4 = field_size 0x8A f.t8a 2 so.code in
    let behind_it : length (spelled ((0x9F36, f.t9f36) ∷ (0x9F02, f.t9f02) ∷ (0x5F2A, f.t5f2a) ∷ (0x8A, f.t8a) ∷ [])) ≡ 23 =
    simp length-append (omega (arith, counter, amount, currency, code)) in
    let whole = named_size (reversal_named f) ((0x9F36, f.t9f36) ∷ (0x9F02, f.t9f02) ∷ (0x5F2A, f.t5f2a) ∷ (0x8A, f.t8a) ∷ []) so.named right.account_number in
    outer_size 0xE4 (spelled (reversal_fields f)) refl (omega (arith, whole, behind_it))

-- a request begins with its tag
request_first : (f : RequestData) → get_or (request_bytes f) 0 0 ≡ 0xE1
unfolding request_bytes written
request_first f = refl

read_present : (outer : ℕ × List ItemData) (f : PresentData) → message_in outer ≡ Ok (Present f) → present_at outer.1 ≡ Ok f
read_present outer f is = by (outer.0 == 0xE1) (outer.0 == 0xE3) is
  where
    by : (p q : Bool)
        → (if p then (request_at outer.1 >>= λ fields. Ok (Request fields)) else if q then (present_at outer.1 >>= λ fields. Ok (Present fields)) else (reversal_at outer.1 >>= λ fields. Ok (Reverse fields))) ≡ Ok (Present f)
        → present_at outer.1 ≡ Ok f
    by true q made = let step = read_of (request_at outer.1) _ (Present f) made in cc (step.behind)
    by false true made =
        let step = read_of (present_at outer.1) _ (Present f) made in
        let same : Present step.value ≡ Present f = same_read (Present step.value) (Present f) step.behind in
        let value : step.value ≡ f = cc in
        step.made ∙ ap Ok value
    by false false made = let step = read_of (reversal_at outer.1) _ (Present f) made in cc (step.behind)

read_reversal : (outer : ℕ × List ItemData) (f : ReversalFields) → message_in outer ≡ Ok (Reverse f) → reversal_at outer.1 ≡ Ok f
read_reversal outer f is = by (outer.0 == 0xE1) (outer.0 == 0xE3) is
  where
    by : (p q : Bool)
        → (if p then (request_at outer.1 >>= λ fields. Ok (Request fields)) else if q then (present_at outer.1 >>= λ fields. Ok (Present fields)) else (reversal_at outer.1 >>= λ fields. Ok (Reverse fields))) ≡ Ok (Reverse f)
        → reversal_at outer.1 ≡ Ok f
    by true q made = let step = read_of (request_at outer.1) _ (Reverse f) made in cc (step.behind)
    by false true made = let step = read_of (present_at outer.1) _ (Reverse f) made in cc (step.behind)
    by false false made =
        let step = read_of (reversal_at outer.1) _ (Reverse f) made in
        let same : Reverse step.value ≡ Reverse f = same_read (Reverse step.value) (Reverse f) step.behind in
        let value : step.value ≡ f = cc in
        step.made ∙ ap Ok value

short_by : (bytes : List ℕ) (message : Incoming) (is : IsMessage bytes) → is.message ≡ message → get_or bytes 0 0 ≢ 0xE1 → (1 ≤ length bytes) × (length bytes ≤ 139)
short_by bytes (Request f) is same other = absurd (other (ap (λ (m : List ℕ). get_or m 0 0) (is.exact ∙ ap message_bytes same) ∙ request_first f))
short_by bytes (Present f) is same other =
    let outer = read_of (outer_of (0xE1 ∷ 0xE3 ∷ 0xE4 ∷ []) bytes) message_in (Present f) (is.read ∙ ap Ok same) in
    subst (λ (m : List ℕ). (1 ≤ length m) × (length m ≤ 139)) (sym (is.exact ∙ ap message_bytes same))
    (present_short outer.value.1 f (subst IsAccepted same is.accepted) (read_present outer.value f outer.behind))
short_by bytes (Reverse f) is same other =
    let outer = read_of (outer_of (0xE1 ∷ 0xE3 ∷ 0xE4 ∷ []) bytes) message_in (Reverse f) (is.read ∙ ap Ok same) in
    subst (λ (m : List ℕ). (1 ≤ length m) × (length m ≤ 139)) (sym (is.exact ∙ ap message_bytes same))
    (reversal_short outer.value.1 f (subst IsAccepted same is.accepted) (read_reversal outer.value f outer.behind))

pub short_message : (bytes : List ℕ) → IsMessage bytes → get_or bytes 0 0 ≢ 0xE1 → (1 ≤ length bytes) × (length bytes ≤ 139)
short_message bytes is other = short_by bytes is.message is refl other
