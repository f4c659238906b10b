-- The two counters that velocity checking asks a card for: the application transaction counter (9F36) and the last
-- online one (9F13) (EMV 4.3 Book 3 sections 6.5.7 and 10.6.3).
use Rattle.std.specs.Prelude.{ℕ, ◌+◌, ◌-◌, ◌*◌, ◌/◌, ◌%◌, ◌==◌, Bool, true, false, not, ◌&&◌, ◌||◌, nat_lt, nat_le, is_some, if◌then◌else◌, List, [], ◌∷◌, Option, Some, None, option_and_then, Result, Ok, Err}
use Rattle.ber_tlv.specs.Direct.{sole_value}
use Rattle.ber_tlv.specs.Left.{items_of}
use Rattle.emv_dict.specs.Flags.{bits_where, tvr_bit}
use Rattle.emv_dict.specs.declared.ending.Cause.{Cause}
use Rattle.emv_dict.specs.declared.ending.Cause.TheVariants.{Answer}
use Rattle.apdu_core.specs.Command.{command_bytes}
use Rattle.apdu_core.specs.Response.{ResponseData, response_of}
use Rattle.apdu_core.specs.Status.{no_error}

abbrev pub counter_tag : ℕ
counter_tag = 0x9F36

abbrev pub last_online_tag : ℕ
last_online_tag = 0x9F13

-- GET DATA of an object
unfoldable pub get_data : ℕ → List ℕ
get_data tag = command_bytes (record { class = 0x80; ins = 0xCA; p1 = tag / 256; p2 = tag % 256; body = []; expects = Some 0 })

-- the number of two bytes
abbrev pub number_of_two : List ℕ → Option ℕ
number_of_two [] = None
number_of_two (high ∷ []) = None
number_of_two (high ∷ low ∷ []) = Some (high * 256 + low)
number_of_two (high ∷ low ∷ other ∷ more) = None

-- a response gives a counter where its status is good and its data are one object of that tag with two bytes
abbrev pub counter_in_response : ℕ → ResponseData → Option ℕ
counter_in_response tag response =
    if response.status == no_error then option_and_then number_of_two (sole_value tag (items_of response.body)) else None

abbrev pub counter_if : ℕ → Option ResponseData → Result (Option ℕ) Cause
counter_if tag (Some response) = Ok (counter_in_response tag response)
counter_if tag None = Err Answer

-- the counter that an answer gives, if it gives one
unfoldable pub counter_in_answer : ℕ → List ℕ → Result (Option ℕ) Cause
counter_in_answer tag reply = counter_if tag (response_of reply)

-- more transactions than the limit since the last one online, or a counter that isn't above the last online one
abbrev pub is_beyond : ℕ → Option ℕ → Option ℕ → Bool
is_beyond limit (Some counter) (Some last) = nat_le counter last || nat_lt limit (counter - last)
is_beyond limit (Some counter) None = true
is_beyond limit None last = true

-- the card was never online
abbrev pub is_new_card : Option ℕ → Bool
is_new_card (Some last) = last == 0
is_new_card None = false

-- the bits that stand already, and those of the two counters against the lower and the upper limit
unfoldable pub counter_bits : ℕ → ℕ → ℕ → Option ℕ → Option ℕ → ℕ
counter_bits bits lower upper counter last = bits_where (
    (true, bits)
    ∷ (not (is_some counter && is_some last), tvr_bit 1 6)
    ∷ (is_beyond lower counter last, tvr_bit 4 7)
    ∷ (is_beyond upper counter last, tvr_bit 4 6)
    ∷ (is_new_card last, tvr_bit 2 4) ∷ [])
