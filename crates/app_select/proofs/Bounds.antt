-- No answer has room for an object list above 255 bytes.
use Rattle.std.proofs.Common.{◌≡◌, ℕ, ◌-◌, ◌≤◌, ◌==◌, ◌&&◌, Bool, true, false, List, [], ◌∷◌, length, take, nat_le, Ok, Err, Some, None, arith, if◌then◌else◌, refl}
use Rattle.std.specs.Prelude.{⊤}
use Rattle.std.specs.declared.option.Option.{Option}
use Rattle.std.specs.declared.result.Result.{Result}
use Rattle.std.specs.List.{AllByRecursion}
use Rattle.std.proofs.lemmas.Bool.Decides.{nat_tests}
use Rattle.std.proofs.lemmas.List.{length-take-le}
use Rattle.apdu_core.specs.Response.{ResponseData, response_of, status_of}
use Rattle.apdu_core.specs.Status.{no_error, file_invalidated, function_not_supported}
use Rattle.app_select.specs.Fci.{FciData, ProprietaryData, IsShortList, with_priority, proprietary_in, proprietary_of, fitting_name, fci_with, fci_in, fci_in_template, fci_of}
use Rattle.app_select.specs.Said.{SaidData, Blocked, Nothing, IsSaidShort, said_fci, said_response, select_said}
use Rattle.ber_tlv.specs.Direct.{first_value, sole_value}
use Rattle.ber_tlv.specs.Item.{ItemData}
use Rattle.ber_tlv.specs.Left.{items_of}
use Rattle.ber_tlv.specs.declared.item.TlvFault.{TlvFault}
use Rattle.ber_tlv.specs.Items.{Items, NextItem}
use Rattle.ber_tlv.proofs.ItemBounds.{item_at-lies, lies-length}
use Rattle.ber_tlv.proofs.Reading.{reads_list}
use Rattle.ber_tlv.proofs.WalkBounds.{ItemsShort, item_values_short}

-- tag and length take two bytes or more of a string
items_fit : (bytes : List ℕ) (place : ℕ) (items : List ItemData) → length bytes ≤ 256 → Items bytes place items → AllByRecursion (λ item. length item.value ≤ 255) items
items_fit bytes place [] short stands = tt
items_fit bytes place (item ∷ items) short stands =
    let found : NextItem bytes place item stands.0 = stands.1 in
    let lies = item_at-lies bytes found.start item stands.0 found.stands in
    let whole = lies-length bytes found.start item stands.0 lies in
    let header = lies.header in
    let within = lies.within in
    (omega arith, items_fit bytes stands.0 items short stands.2)

template_fits : (body : List ℕ) (read : Result (List ItemData) TlvFault) → items_of body ≡ read → length body ≤ 256 → ItemsShort 255 read
template_fits body (Ok items) is short = items_fit body 0 items short ((reads_list body items).0 is)
template_fits body (Err fault) is short = tt

-- an object of either choice
either_short : (test : Bool) (value : List ℕ) (rest : Option (List ℕ)) → length value ≤ 255 → IsShortList rest → IsShortList (if test then Some value else rest)
either_short true value rest first later = first
either_short false value rest first later = later

first_value-short : (tag : ℕ) (items : List ItemData) → AllByRecursion (λ item. length item.value ≤ 255) items → IsShortList (first_value tag items)
first_value-short tag [] short = tt
first_value-short tag (item ∷ items) short =
    either_short (item.tag == tag) item.value (first_value tag items) short.0 (first_value-short tag items short.1)

sole_value-short : (tag : ℕ) (read : Result (List ItemData) TlvFault) → ItemsShort 255 read → IsShortList (sole_value tag read)
sole_value-short tag (Ok []) short = tt
sole_value-short tag (Ok (item ∷ [])) short = either_short (item.tag == tag) item.value None short.0 tt
sole_value-short tag (Ok (item ∷ other ∷ items)) short = tt
sole_value-short tag (Err fault) short = tt

-- the object list of a template
ListShort : Option ProprietaryData → Type 0
ListShort None = ⊤
ListShort (Some proprietary) = IsShortList proprietary.pdol

-- that of an FCI
FciShort : Option FciData → Type 0
FciShort None = ⊤
FciShort (Some fci) = IsShortList fci.pdol

with_priority-short : (priority pdol : Option (List ℕ)) → IsShortList pdol → ListShort (with_priority priority pdol)
unfolding ListShort
with_priority-short None pdol short = short
with_priority-short (Some []) pdol short = tt
with_priority-short (Some (byte ∷ [])) pdol short = short
with_priority-short (Some (byte ∷ other ∷ bytes)) pdol short = tt

proprietary_in-short : (read : Result (List ItemData) TlvFault) → ItemsShort 255 read → ListShort (proprietary_in read)
unfolding proprietary_in ListShort
proprietary_in-short (Ok items) short = with_priority-short (first_value 0x87 items) (first_value 0x9F38 items) (first_value-short 0x9F38 items short)
proprietary_in-short (Err fault) short = tt

proprietary_of-short : (template : Option (List ℕ)) → IsShortList template → ListShort (proprietary_of template)
unfolding ListShort
proprietary_of-short None short = tt
proprietary_of-short (Some value) short = proprietary_in-short (items_of value) (item_values_short 255 value short)

fci_with-short : (name : Option (List ℕ)) (proprietary : Option ProprietaryData) → ListShort proprietary → FciShort (fci_with name proprietary)
unfolding ListShort FciShort
fci_with-short None proprietary short = tt
fci_with-short (Some name) None short = tt
fci_with-short (Some name) (Some proprietary) short = short

fci_in-short : (read : Result (List ItemData) TlvFault) → ItemsShort 255 read → FciShort (fci_in read)
unfolding fci_in FciShort
fci_in-short (Ok items) short =
    fci_with-short (fitting_name (first_value 0x84 items)) (proprietary_of (first_value 0xA5 items))
    (proprietary_of-short (first_value 0xA5 items) (first_value-short 0xA5 items short))
fci_in-short (Err fault) short = tt

fci_in_template-short : (template : Option (List ℕ)) → IsShortList template → FciShort (fci_in_template template)
unfolding FciShort
fci_in_template-short None short = tt
fci_in_template-short (Some value) short = fci_in-short (items_of value) (item_values_short 255 value short)

fci_of-short : (body : List ℕ) → length body ≤ 256 → FciShort (fci_of body)
unfolding fci_of
fci_of-short body short =
    fci_in_template-short (sole_value 0x6F (items_of body)) (sole_value-short 0x6F (items_of body) (template_fits body (items_of body) refl short))

said_fci-short : (is_valid : Bool) (fci : Option FciData) → FciShort fci → IsSaidShort (said_fci is_valid fci)
unfolding FciShort
said_fci-short is_valid None short = tt
said_fci-short is_valid (Some fci) short = short

either_said : (test : Bool) (first later : SaidData) → IsSaidShort first → IsSaidShort later → IsSaidShort (if test then first else later)
either_said true first later p q = p
either_said false first later p q = q

ResponseShort : Option ResponseData → Type 0
ResponseShort None = ⊤
ResponseShort (Some said) = length said.body ≤ 256

said_response-short : (response : Option ResponseData) → ResponseShort response → IsSaidShort (said_response response)
unfolding ResponseShort
said_response-short None short = tt
said_response-short (Some said) short =
    either_said (said.status == function_not_supported) Blocked _ tt
    (either_said (said.status == no_error) _ _ (said_fci-short true (fci_of said.body) (fci_of-short said.body short))
    (either_said (said.status == file_invalidated) _ Nothing (said_fci-short false (fci_of said.body) (fci_of-short said.body short)) tt))

body-short : (test : Bool) (bytes : List ℕ) (status : ℕ) → (nat_le 2 (length bytes) && nat_le (length bytes) 258) ≡ test
    → ResponseShort (if test then Some (record { body = take (length bytes - 2) bytes; status = status }) else None)
unfolding ResponseShort
body-short true bytes status is =
    let fits : length bytes - 2 ≤ 256 = grind (arith, nat_tests) in
    let most : length bytes - 2 ≤ length bytes = omega arith in
    rw (length-take-le (length bytes - 2) bytes most) fits
body-short false bytes status is = tt

response_of-short : (bytes : List ℕ) → ResponseShort (response_of bytes)
unfolding response_of
response_of-short bytes = body-short _ bytes (status_of (length bytes) bytes) refl

pub said_short : (answer : List ℕ) → IsSaidShort (select_said answer)
unfolding select_said
said_short answer = said_response-short (response_of answer) (response_of-short answer)
