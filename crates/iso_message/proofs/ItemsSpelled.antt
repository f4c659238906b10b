-- The items that were read are those of the message, and may be written.
use Rattle.std.proofs.Common.{◌≡◌, ℕ, Bool, true, false, IfSome, ◌≤◌, ◌==◌, nat_le, List, [], ◌∷◌, ◌++◌, length, Option, Some, None, Ok, Result, refl, sym, ap, ◌∙◌, subst, arith}
use Rattle.std.proofs.lemmas.Bool.Decides.{nat_tests}
use Rattle.ber_tlv.specs.Item.{ItemData}
use Rattle.ber_tlv.proofs.ReadAgain.{both}
use Rattle.auth_message.specs.declared.fault.MessageFault.{MessageFault}
use Rattle.auth_message.specs.declared.reversal.ReversalFields.{ReversalFields}
use Rattle.auth_message.specs.Accepted.{AreDigitBytes}
use Rattle.auth_message.specs.Data.{RequestData, PresentData}
use Rattle.auth_message.specs.Field.{is_fixed, is_between, fixed_value, some_value}
use Rattle.auth_message.specs.Fields.{◌>>=◌, required_field, fixed_at, some_at, fixed_if_there, no_item_left}
use Rattle.auth_message.specs.Spelling.{optional}
use Rattle.iso_message.specs.declared.icc.IccData.{IccData}
use Rattle.iso_message.specs.declared.front.RequestFront.{RequestFront}
use Rattle.iso_message.specs.declared.front.PresentFront.{PresentFront}
use Rattle.iso_message.specs.declared.front.ReversalFront.{ReversalFront}
use Rattle.iso_message.specs.Items.{icc_items, icc_at, request_items, request_of_parts, request_in, present_items, present_of, present_in, reversal_items, reversal_in}
use Rattle.iso_message.specs.Pairs.{pairs}
use Rattle.iso_message.proofs.Steps.{read_of, same_read}

-- a value that was taken is as it was wanted
fixed_by : (count : ℕ) (numeric : Bool) (tag : ℕ) (found value : List ℕ) (right : Bool) → is_fixed count numeric found ≡ right → fixed_value count numeric tag found ≡ Ok value → (found ≡ value) × (is_fixed count numeric value ≡ true)
unfolding fixed_value
fixed_by count numeric tag found value true right is =
    let here = rw right at is in
    let same : found ≡ value = cc in
    (same, ap (is_fixed count numeric) (sym same) ∙ right)
fixed_by count numeric tag found value false right is = let here = rw right at is in cc

pub some_by : (least most tag : ℕ) (found value : List ℕ) (right : Bool) → is_between least most found ≡ right → some_value least most tag found ≡ Ok value → (found ≡ value) × (is_between least most value ≡ true)
unfolding some_value
some_by least most tag found value true right is =
    let here = rw right at is in
    let same : found ≡ value = cc in
    (same, ap (is_between least most) (sym same) ∙ right)
some_by least most tag found value false right is = let here = rw right at is in cc

-- a field was taken from the front of the items
pub record Took (tag : ℕ) (items : List ItemData) (value : List ℕ) (rest : List ItemData) : Type 0 where
  pub exact : pairs items ≡ (tag, value) ∷ pairs rest

pub took : (tag : ℕ) (item : ItemData) (items : List ItemData) (value : List ℕ) (rest : List ItemData) → (item.tag == tag) ≡ true → item.value ≡ value → items ≡ rest → pairs (item ∷ items) ≡ (tag, value) ∷ pairs rest
took tag item items value rest same value_is rest_is =
    let tag_is : item.tag ≡ tag = grind (arith, nat_tests) in
    ap (λ (t : ℕ). (t, item.value) ∷ pairs items) tag_is ∙ ap (λ (v : List ℕ). (tag, v) ∷ pairs items) value_is ∙ ap (λ (l : List ItemData). (tag, value) ∷ pairs l) rest_is

fixed_first :
    (count : ℕ) (numeric : Bool) (tag : ℕ) (item : ItemData) (items : List ItemData) (value : List ℕ) (rest : List ItemData) (same : Bool) → (item.tag == tag) ≡ same
    → fixed_at count numeric tag (item ∷ items) ≡ Ok (value, rest) → (pairs (item ∷ items) ≡ (tag, value) ∷ pairs rest) × (is_fixed count numeric value ≡ true)
unfolding fixed_at required_field
fixed_first count numeric tag item items value rest true same is =
    let here = rw same at is in
    let step = read_of (fixed_value count numeric tag item.value) _ (value, rest) here in
    let last : (step.value, items) ≡ (value, rest) = cc in
    let value_is : step.value ≡ value = ap (λ (p : List ℕ × List ItemData). p.0) last in
    let rest_is : items ≡ rest = ap (λ (p : List ℕ × List ItemData). p.1) last in
    let taken = fixed_by count numeric tag item.value value _ refl (step.made ∙ ap Ok value_is) in
    (took tag item items value rest same taken.0 rest_is, taken.1)
fixed_first count numeric tag item items value rest false same is = let here = rw same at is in cc

pub fixed_taken :
    (count : ℕ) (numeric : Bool) (tag : ℕ) (items : List ItemData) (value : List ℕ) (rest : List ItemData) → fixed_at count numeric tag items ≡ Ok (value, rest)
    → (pairs items ≡ (tag, value) ∷ pairs rest) × (is_fixed count numeric value ≡ true)
unfolding fixed_at required_field
fixed_taken count numeric tag [] value rest is = cc
fixed_taken count numeric tag (item ∷ items) value rest is = fixed_first count numeric tag item items value rest _ refl is

some_first :
    (least most tag : ℕ) (item : ItemData) (items : List ItemData) (value : List ℕ) (rest : List ItemData) (same : Bool) → (item.tag == tag) ≡ same
    → some_at least most tag (item ∷ items) ≡ Ok (value, rest) → (pairs (item ∷ items) ≡ (tag, value) ∷ pairs rest) × (is_between least most value ≡ true)
unfolding some_at required_field
some_first least most tag item items value rest true same is =
    let here = rw same at is in
    let step = read_of (some_value least most tag item.value) _ (value, rest) here in
    let last : (step.value, items) ≡ (value, rest) = cc in
    let value_is : step.value ≡ value = ap (λ (p : List ℕ × List ItemData). p.0) last in
    let rest_is : items ≡ rest = ap (λ (p : List ℕ × List ItemData). p.1) last in
    let taken = some_by least most tag item.value value _ refl (step.made ∙ ap Ok value_is) in
    (took tag item items value rest same taken.0 rest_is, taken.1)
some_first least most tag item items value rest false same is = let here = rw same at is in cc

some_taken :
    (least most tag : ℕ) (items : List ItemData) (value : List ℕ) (rest : List ItemData) → some_at least most tag items ≡ Ok (value, rest)
    → (pairs items ≡ (tag, value) ∷ pairs rest) × (is_between least most value ≡ true)
unfolding some_at required_field
some_taken least most tag [] value rest is = cc
some_taken least most tag (item ∷ items) value rest is = some_first least most tag item items value rest _ refl is

-- no field was taken
abbrev pub took_none : List ItemData → Result (Option (List ℕ) × List ItemData) MessageFault
took_none items = Ok (None, items)

pub none_taken : (one other : List ItemData) → took_none one ≡ took_none other → one ≡ other
none_taken one other is =
    let first : Option (List ℕ) × List ItemData = (None, one) in
    let second : Option (List ℕ) × List ItemData = (None, other) in
    ap (λ (p : Option (List ℕ) × List ItemData). p.1) (same_read first second is)

abbrev pub took_some : List ℕ → List ItemData → Result (Option (List ℕ) × List ItemData) MessageFault
took_some value items = Ok (Some value, items)

pub not_taken : {A : Type 0} (value : List ℕ) (one other : List ItemData) → took_none one ≡ took_some value other → A
not_taken value one other is =
    let found : Option (List ℕ) = None in
    let wanted : Option (List ℕ) = Some value in
    let first : found ≡ wanted = ap (λ (p : Option (List ℕ) × List ItemData). p.0) (same_read (found, one) (wanted, other) is) in
    let never : ⊥ = cc in
    absurd never

-- a field that may be absent was taken, or none
optional_first :
    (count : ℕ) (numeric : Bool) (tag : ℕ) (item : ItemData) (items : List ItemData) (value : Option (List ℕ)) (rest : List ItemData) (same : Bool) → (item.tag == tag) ≡ same
    → fixed_if_there count numeric tag (item ∷ items) ≡ Ok (value, rest) → (pairs (item ∷ items) ≡ optional tag value ++ pairs rest) × IfSome value (λ v. is_fixed count numeric v ≡ true)
unfolding fixed_if_there
optional_first count numeric tag item items (Some value) rest true same is =
    let here = rw same at is in
    let step = read_of _ _ (Some value, rest) here in
    let inner = read_of (fixed_value count numeric tag item.value) _ step.value step.made in
    let found : Option (List ℕ) = Some inner.value in
    let wanted : Option (List ℕ) = Some value in
    let inner_is : found ≡ step.value = same_read found step.value inner.behind in
    let last : (step.value, items) ≡ (wanted, rest) = same_read (step.value, items) (wanted, rest) step.behind in
    let first : found ≡ wanted = inner_is ∙ ap (λ (p : Option (List ℕ) × List ItemData). p.0) last in
    let value_is : inner.value ≡ value = cc in
    let rest_is : items ≡ rest = ap (λ (p : Option (List ℕ) × List ItemData). p.1) last in
    let taken = fixed_by count numeric tag item.value value _ refl (inner.made ∙ ap Ok value_is) in
    (took tag item items value rest same taken.0 rest_is, taken.1)
optional_first count numeric tag item items None rest true same is =
    let here = rw same at is in
    let step = read_of _ _ (None, rest) here in
    let inner = read_of (fixed_value count numeric tag item.value) _ step.value step.made in
    let found : Option (List ℕ) = Some inner.value in
    let wanted : Option (List ℕ) = None in
    let inner_is : found ≡ step.value = same_read found step.value inner.behind in
    let last : (step.value, items) ≡ (wanted, rest) = same_read (step.value, items) (wanted, rest) step.behind in
    let first : found ≡ wanted = inner_is ∙ ap (λ (p : Option (List ℕ) × List ItemData). p.0) last in
    let never : ⊥ = cc in
    absurd never
optional_first count numeric tag item items (Some value) rest false same is =
    let here : took_none (item ∷ items) ≡ took_some value rest = rw same at is in
    not_taken value (item ∷ items) rest here
optional_first count numeric tag item items None rest false same is =
    let here : took_none (item ∷ items) ≡ took_none rest = rw same at is in
    (ap pairs (none_taken (item ∷ items) rest here), tt)

optional_taken :
    (count : ℕ) (numeric : Bool) (tag : ℕ) (items : List ItemData) (value : Option (List ℕ)) (rest : List ItemData) → fixed_if_there count numeric tag items ≡ Ok (value, rest)
    → (pairs items ≡ optional tag value ++ pairs rest) × IfSome value (λ v. is_fixed count numeric v ≡ true)
unfolding fixed_if_there
optional_taken count numeric tag [] (Some value) rest is = not_taken value [] rest is
optional_taken count numeric tag [] None rest is = (ap pairs (none_taken [] rest is), tt)
optional_taken count numeric tag (item ∷ items) value rest is = optional_first count numeric tag item items value rest _ refl is

pub none_left : (items : List ItemData) (u : Unit {0}) → no_item_left items ≡ Ok u → pairs items ≡ []
none_left [] u is = refl
none_left (item ∷ items) u is = cc

-- digits where they have to be
pub digits_in : (count : ℕ) (value : List ℕ) → is_fixed count true value ≡ true → AreDigitBytes value
digits_in count value is = (both (length value == count) _ is).1

sequence_in : (value : Option (List ℕ)) → IfSome value (λ v. is_fixed 1 true v ≡ true) → IfSome value AreDigitBytes
sequence_in None is = tt
sequence_in (Some value) is = digits_in 1 value is

few_bytes : (value : List ℕ) → is_between 0 32 value ≡ true → length value ≤ 32
few_bytes value is = let most = (both (nat_le 0 (length value)) _ is).1 in grind (arith, nat_tests)

-- eight fields one behind the other
icc_joined :
    (p0 p1 p2 p3 p4 p5 p6 p7 p8 : List (ℕ × List ℕ)) (a b c d e f g h : List ℕ) → p0 ≡ (0x9F03, a) ∷ p1 → p1 ≡ (0x9F1A, b) ∷ p2 → p2 ≡ (0x95, c) ∷ p3 → p3 ≡ (0x9A, d) ∷ p4
    → p4 ≡ (0x9F37, e) ∷ p5 → p5 ≡ (0x82, f) ∷ p6 → p6 ≡ (0x9F36, g) ∷ p7 → p7 ≡ (0x9F26, h) ∷ p8
    → p0 ≡ (0x9F03, a) ∷ (0x9F1A, b) ∷ (0x95, c) ∷ (0x9A, d) ∷ (0x9F37, e) ∷ (0x82, f) ∷ (0x9F36, g) ∷ (0x9F26, h) ∷ p8
icc_joined p0 p1 p2 p3 p4 p5 p6 p7 p8 a b c d e f g h one two three four five six seven eight = cc

record HasIcc (items : List ItemData) (icc : IccData) (rest : List ItemData) : Type 0 where
  exact : pairs items ≡ icc_items icc ++ pairs rest
  other_amount : AreDigitBytes icc.t9f03
  date : AreDigitBytes icc.t9a

-- the steps of a reading of eight items, each made
icc_read :
    (i0 i1 i2 i3 i4 i5 i6 i7 i8 : List ItemData) (a b c d e f g h : List ℕ) → fixed_at 6 true 0x9F03 i0 ≡ Ok (a, i1) → fixed_at 2 false 0x9F1A i1 ≡ Ok (b, i2) → fixed_at 5 false 0x95 i2 ≡ Ok (c, i3)
    → fixed_at 3 true 0x9A i3 ≡ Ok (d, i4) → fixed_at 4 false 0x9F37 i4 ≡ Ok (e, i5) → fixed_at 2 false 0x82 i5 ≡ Ok (f, i6) → fixed_at 2 false 0x9F36 i6 ≡ Ok (g, i7) → fixed_at 8 false 0x9F26 i7 ≡ Ok (h, i8)
    → HasIcc i0 (record { t9f03 = a; t9f1a = b; t95 = c; t9a = d; t9f37 = e; t82 = f; t9f36 = g; t9f26 = h }) i8
icc_read i0 i1 i2 i3 i4 i5 i6 i7 i8 a b c d e f g h one two three four five six seven eight =
    let t9f03 = fixed_taken 6 true 0x9F03 i0 a i1 one in
    let t9a = fixed_taken 3 true 0x9A i3 d i4 four in
    record {
      exact =
          icc_joined (pairs i0) (pairs i1) (pairs i2) (pairs i3) (pairs i4) (pairs i5) (pairs i6) (pairs i7) (pairs i8) a b c d e f g h
          t9f03.0
          (fixed_taken 2 false 0x9F1A i1 b i2 two).0
          (fixed_taken 5 false 0x95 i2 c i3 three).0
          t9a.0
          (fixed_taken 4 false 0x9F37 i4 e i5 five).0
          (fixed_taken 2 false 0x82 i5 f i6 six).0
          (fixed_taken 2 false 0x9F36 i6 g i7 seven).0
          (fixed_taken 8 false 0x9F26 i7 h i8 eight).0;
      other_amount = digits_in 6 a t9f03.1;
      date = digits_in 3 d t9a.1;
    }

-- the last four of these steps
abbrev icc_rest : List ℕ → List ℕ → List ℕ → List ℕ → List ItemData → Result (IccData × List ItemData) MessageFault
icc_rest a b c d items = do
  t9f37 ← fixed_at 4 false 0x9F37 items
  t82 ← fixed_at 2 false 0x82 t9f37.1
  t9f36 ← fixed_at 2 false 0x9F36 t82.1
  t9f26 ← fixed_at 8 false 0x9F26 t9f36.1
  Ok (record { t9f03 = a; t9f1a = b; t95 = c; t9a = d; t9f37 = t9f37.0; t82 = t82.0; t9f36 = t9f36.0; t9f26 = t9f26.0 }, t9f26.1)

-- the first four, made
record IccFront (items : List ItemData) (out : IccData × List ItemData) : Type 0 where
  i1 : List ItemData
  i2 : List ItemData
  i3 : List ItemData
  i4 : List ItemData
  a : List ℕ
  b : List ℕ
  c : List ℕ
  d : List ℕ
  one : fixed_at 6 true 0x9F03 items ≡ Ok (a, i1)
  two : fixed_at 2 false 0x9F1A i1 ≡ Ok (b, i2)
  three : fixed_at 5 false 0x95 i2 ≡ Ok (c, i3)
  four : fixed_at 3 true 0x9A i3 ≡ Ok (d, i4)
  behind : icc_rest a b c d i4 ≡ Ok out

icc_front : (items : List ItemData) (out : IccData × List ItemData) → icc_at items ≡ Ok out → IccFront items out
unfolding icc_at
icc_front items out is =
    let first = read_of (fixed_at 6 true 0x9F03 items) _ out is in
    let second = read_of (fixed_at 2 false 0x9F1A first.value.1) _ out first.behind in
    let third = read_of (fixed_at 5 false 0x95 second.value.1) _ out second.behind in
    let fourth = read_of (fixed_at 3 true 0x9A third.value.1) _ out third.behind in
    record {
      i1 = first.value.1;
      i2 = second.value.1;
      i3 = third.value.1;
      i4 = fourth.value.1;
      a = first.value.0;
      b = second.value.0;
      c = third.value.0;
      d = fourth.value.0;
      one = first.made;
      two = second.made;
      three = third.made;
      four = fourth.made;
      behind = fourth.behind;
    }

icc_back : (items : List ItemData) (out : IccData × List ItemData) → IccFront items out → HasIcc items out.0 out.1
icc_back items out front =
    let fifth = read_of (fixed_at 4 false 0x9F37 front.i4) _ out front.behind in
    let sixth = read_of (fixed_at 2 false 0x82 fifth.value.1) _ out fifth.behind in
    let seventh = read_of (fixed_at 2 false 0x9F36 sixth.value.1) _ out sixth.behind in
    let eighth = read_of (fixed_at 8 false 0x9F26 seventh.value.1) _ out seventh.behind in
    let read : IccData = record { t9f03 = front.a; t9f1a = front.b; t95 = front.c; t9a = front.d; t9f37 = fifth.value.0; t82 = sixth.value.0; t9f36 = seventh.value.0; t9f26 = eighth.value.0 } in
    let same : (read, eighth.value.1) ≡ out = same_read (read, eighth.value.1) out eighth.behind in
    subst (λ (p : IccData × List ItemData). HasIcc items p.0 p.1) same
    (icc_read items front.i1 front.i2 front.i3 front.i4 fifth.value.1 sixth.value.1 seventh.value.1 eighth.value.1
    front.a front.b front.c front.d fifth.value.0 sixth.value.0 seventh.value.0 eighth.value.0
    front.one front.two front.three front.four fifth.made sixth.made seventh.made eighth.made)

icc_taken : (items : List ItemData) (icc : IccData) (rest : List ItemData) → icc_at items ≡ Ok (icc, rest) → HasIcc items icc rest
icc_taken items icc rest is = icc_back items (icc, rest) (icc_front items (icc, rest) is)

pub record RequestItems (front : RequestFront) (items : List ItemData) (f : RequestData) : Type 0 where
  pub t5f34 : Option (List ℕ)
  pub t5f24 : List ℕ
  pub icc : IccData
  pub t9f10 : List ℕ
  pub is : request_of_parts front t5f34 t5f24 icc t9f10 ≡ f
  pub exact : pairs items ≡ request_items (request_of_parts front t5f34 t5f24 icc t9f10)
  pub sequence_number : IfSome t5f34 AreDigitBytes
  pub expiry : AreDigitBytes t5f24
  pub other_amount : AreDigitBytes icc.t9f03
  pub date : AreDigitBytes icc.t9a
  pub issuer_data : length t9f10 ≤ 32

pub request_taken : (front : RequestFront) (items : List ItemData) (f : RequestData) → request_in front items ≡ Ok f → RequestItems front items f
unfolding request_in
request_taken front items f is =
    let first = read_of (fixed_if_there 1 true 0x5F34 items) _ f is in
    let second = read_of (fixed_at 3 true 0x5F24 first.value.1) _ f first.behind in
    let third = read_of (icc_at second.value.1) _ f second.behind in
    let fourth = read_of (some_at 0 32 0x9F10 third.value.1) _ f third.behind in
    let fifth = read_of (no_item_left fourth.value.1) _ f fourth.behind in
    let number = optional_taken 1 true 0x5F34 items first.value.0 first.value.1 first.made in
    let expiry = fixed_taken 3 true 0x5F24 first.value.1 second.value.0 second.value.1 second.made in
    let icc = icc_taken second.value.1 third.value.0 third.value.1 third.made in
    let issuer = some_taken 0 32 0x9F10 third.value.1 fourth.value.0 fourth.value.1 fourth.made in
    let last : pairs third.value.1 ≡ (0x9F10, fourth.value.0) ∷ [] = issuer.0 ∙ ap (λ (l : List (ℕ × List ℕ)). (0x9F10, fourth.value.0) ∷ l) (none_left fourth.value.1 fifth.value fifth.made) in
    record {
      t5f34 = first.value.0;
      t5f24 = second.value.0;
      icc = third.value.0;
      t9f10 = fourth.value.0;
      is = same_read (request_of_parts front first.value.0 second.value.0 third.value.0 fourth.value.0) f fifth.behind;
      exact =
          number.0
          ∙ ap (λ (l : List (ℕ × List ℕ)). optional 0x5F34 first.value.0 ++ l) (expiry.0
          ∙ ap (λ (l : List (ℕ × List ℕ)). (0x5F24, second.value.0) ∷ l) (icc.exact ∙ ap (λ (l : List (ℕ × List ℕ)). icc_items third.value.0 ++ l) last));
      sequence_number = sequence_in first.value.0 number.1;
      expiry = digits_in 3 second.value.0 expiry.1;
      other_amount = icc.other_amount;
      date = icc.date;
      issuer_data = few_bytes fourth.value.0 issuer.1;
    }

pub record PresentItems (front : PresentFront) (items : List ItemData) (f : PresentData) : Type 0 where
  pub t5f34 : Option (List ℕ)
  pub icc : IccData
  pub t9f10 : List ℕ
  pub is : present_of front t5f34 icc t9f10 ≡ f
  pub exact : pairs items ≡ present_items (present_of front t5f34 icc t9f10)
  pub sequence_number : IfSome t5f34 AreDigitBytes
  pub other_amount : AreDigitBytes icc.t9f03
  pub date : AreDigitBytes icc.t9a
  pub issuer_data : length t9f10 ≤ 32

pub present_taken : (front : PresentFront) (items : List ItemData) (f : PresentData) → present_in front items ≡ Ok f → PresentItems front items f
unfolding present_in
present_taken front items f is =
    let first = read_of (fixed_if_there 1 true 0x5F34 items) _ f is in
    let third = read_of (icc_at first.value.1) _ f first.behind in
    let fourth = read_of (some_at 0 32 0x9F10 third.value.1) _ f third.behind in
    let fifth = read_of (no_item_left fourth.value.1) _ f fourth.behind in
    let number = optional_taken 1 true 0x5F34 items first.value.0 first.value.1 first.made in
    let icc = icc_taken first.value.1 third.value.0 third.value.1 third.made in
    let issuer = some_taken 0 32 0x9F10 third.value.1 fourth.value.0 fourth.value.1 fourth.made in
    let last : pairs third.value.1 ≡ (0x9F10, fourth.value.0) ∷ [] = issuer.0 ∙ ap (λ (l : List (ℕ × List ℕ)). (0x9F10, fourth.value.0) ∷ l) (none_left fourth.value.1 fifth.value fifth.made) in
    record {
      t5f34 = first.value.0;
      icc = third.value.0;
      t9f10 = fourth.value.0;
      is = same_read (present_of front first.value.0 third.value.0 fourth.value.0) f fifth.behind;
      exact = number.0 ∙ ap (λ (l : List (ℕ × List ℕ)). optional 0x5F34 first.value.0 ++ l) (icc.exact ∙ ap (λ (l : List (ℕ × List ℕ)). icc_items third.value.0 ++ l) last);
      sequence_number = sequence_in first.value.0 number.1;
      other_amount = icc.other_amount;
      date = icc.date;
      issuer_data = few_bytes fourth.value.0 issuer.1;
    }

-- the reversal whose items are these
abbrev pub reversal_of : ReversalFront → Option (List ℕ) → List ℕ → ReversalFields
reversal_of front t5f34 t9f36 = record {
  t9f1c = front.acceptor.t9f1c;
  pan = front.pan;
  t5f34 = t5f34;
  t9f36 = t9f36;
  t9f02 = front.numbers.t9f02;
  t5f2a = front.acceptor.t5f2a;
  t8a = front.t8a;
}

pub record ReversalItems (front : ReversalFront) (items : List ItemData) (f : ReversalFields) : Type 0 where
  pub t5f34 : Option (List ℕ)
  pub t9f36 : List ℕ
  pub is : reversal_of front t5f34 t9f36 ≡ f
  pub exact : pairs items ≡ reversal_items (reversal_of front t5f34 t9f36)
  pub sequence_number : IfSome t5f34 AreDigitBytes

pub reversal_taken : (front : ReversalFront) (items : List ItemData) (f : ReversalFields) → reversal_in front items ≡ Ok f → ReversalItems front items f
unfolding reversal_in
reversal_taken front items f is =
    let first = read_of (fixed_if_there 1 true 0x5F34 items) _ f is in
    let second = read_of (fixed_at 2 false 0x9F36 first.value.1) _ f first.behind in
    let third = read_of (no_item_left second.value.1) _ f second.behind in
    let number = optional_taken 1 true 0x5F34 items first.value.0 first.value.1 first.made in
    let counter = fixed_taken 2 false 0x9F36 first.value.1 second.value.0 second.value.1 second.made in
    let last : pairs first.value.1 ≡ (0x9F36, second.value.0) ∷ [] = counter.0 ∙ ap (λ (l : List (ℕ × List ℕ)). (0x9F36, second.value.0) ∷ l) (none_left second.value.1 third.value third.made) in
    record {
      t5f34 = first.value.0;
      t9f36 = second.value.0;
      is = same_read (reversal_of front first.value.0 second.value.0) f third.behind;
      exact = number.0 ∙ ap (λ (l : List (ℕ × List ℕ)). optional 0x5F34 first.value.0 ++ l) last;
      sequence_number = sequence_in first.value.0 number.1;
    }
