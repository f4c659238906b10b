-- No answer of a card has room for a long object.
use Rattle.std.proofs.Common.{◌≡◌, ℕ, ◌-◌, ◌≤◌, ◌==◌, nat_le, is_some, Bool, true, false, if◌then◌else◌, List, [], ◌∷◌, length, take, Option, Some, None, refl, subst, arith}
use Rattle.std.specs.Prelude.{◌&&◌}
use Rattle.std.specs.List.{AllByRecursion}
use Rattle.std.proofs.lemmas.Grind.{common_steps}
use Rattle.std.proofs.lemmas.List.{length-take}
use Rattle.apdu_core.specs.Response.{ResponseData, response_of, status_of}
use Rattle.apdu_core.specs.Status.{no_error}
use Rattle.ber_tlv.proofs.WalkBounds.{WalkShort, walk_values_fit}
use Rattle.ber_tlv.specs.Direct.{sole_value}
use Rattle.ber_tlv.specs.Item.{ItemData}
use Rattle.ber_tlv.specs.Left.{items_of}
use Rattle.ber_tlv.specs.Tag.{names_template}
use Rattle.ber_tlv.specs.Walked.{Walked, Done, Broken, Met, walk_of}
use Rattle.env_map.specs.Gathered.{primitives}
use Rattle.read_records.specs.Records.{Held, in_template, held_in_body, held_in_response, held_in}

abbrev AreShort : List ItemData → Type 0
AreShort items = AllByRecursion (λ item. length item.value ≤ 254) items

taken_short : (bytes : List ℕ) → length bytes ≤ 258 → length (take (length bytes - 2) bytes) ≤ 256
taken_short bytes fits = omega (arith, length-take (length bytes - 2) bytes)

short_test : (count : ℕ) → (nat_le 2 count && nat_le count 258) ≡ true → count ≤ 258
short_test count e = grind (arith, common_steps)

pub body_short : (answer : List ℕ) (said : ResponseData) → response_of answer ≡ Some said → length said.body ≤ 256
unfolding response_of
body_short answer said e = go (nat_le 2 (length answer) && nat_le (length answer) 258) refl e
  where
    go : (fits : Bool) → (nat_le 2 (length answer) && nat_le (length answer) 258) ≡ fits
        → ◌≡◌ {A = Option ResponseData} (if fits then Some (record { body = take (length answer - 2) answer; status = status_of (length answer) answer }) else None) (Some said)
        → length said.body ≤ 256
    go true is e =
        let same : ◌≡◌ {A = ResponseData} (record { body = take (length answer - 2) answer; status = status_of (length answer) answer }) said = cc e in
        subst (λ (r : ResponseData). length r.body ≤ 256) same (taken_short answer (short_test (length answer) is))
    go false is e = cc

primitives_short : (walked : Walked) → WalkShort 254 walked → AreShort (primitives walked)
primitives_short Done short = tt
primitives_short (Broken fault) short = tt
primitives_short (Met item rest) short =
    elim (names_template item.tag) as (λ b. AreShort (if b then primitives rest else item ∷ primitives rest)) [
      | true ↦ primitives_short rest short.1
      | false ↦ (short.0, primitives_short rest short.1)
    ]

template_short : (is_template : Bool) (body : List ℕ) → length body ≤ 256 → AreShort (in_template is_template body).objects
template_short true body fits = primitives_short (walk_of body) (walk_values_fit 254 body (omega arith))
template_short false body fits = tt

held_short : (test : Bool) (body : List ℕ) → length body ≤ 256
    → AreShort (let held : Held = (if test then in_template (is_some (sole_value 0x70 (items_of body))) body else record { objects = []; fault = None }) in held.objects)
held_short true body fits = template_short (is_some (sole_value 0x70 (items_of body))) body fits
held_short false body fits = tt

good_short : (test : Bool) (sfi : ℕ) (said : ResponseData) (other : Held) → other.objects ≡ [] → length said.body ≤ 256
    → AreShort (let held : Held = (if test then held_in_body sfi said.body else other) in held.objects)
good_short true sfi said other none fits = held_short (nat_le sfi 10) said.body fits
good_short false sfi said other none fits = rw none tt

response_short : (sfi : ℕ) (response : Option ResponseData) → ((said : ResponseData) → response ≡ Some said → length said.body ≤ 256) → AreShort (held_in_response sfi response).objects
response_short sfi None fits = tt
response_short sfi (Some said) fits = good_short (said.status == no_error) sfi said _ refl (fits said refl)

pub records_short : (sfi : ℕ) (answer : List ℕ) → AllByRecursion (λ item. length item.value ≤ 254) (held_in sfi answer).objects
unfolding held_in
records_short sfi answer = response_short sfi (response_of answer) (body_short answer)
