-- What is followed of a purchase.
use Rattle.std.specs.Prelude.{ℕ, ◌/◌, ◌%◌, ◌==◌, Bool, true, false, not, ◌&&◌, nat_le, if◌then◌else◌, List, [], ◌∷◌, length, slice_index, Option, Some, None}
use Rattle.apdu_core.specs.Command.{CommandData, command_of}
use Rattle.apdu_core.specs.Response.{ResponseData, response_of}
use Rattle.apdu_core.specs.Status.{no_error}
use Rattle.ber_tlv.specs.Direct.{sole_value}
use Rattle.ber_tlv.specs.Left.{items_of}
use Rattle.emv_dict.specs.Bcd as bcd
use Rattle.exchange_words.specs.Learned.{found_deep}
use Rattle.exchange_words.specs.Lanes.{no_bytes, kept_if_short}
use Rattle.exchange_words.specs.declared.lane.LaneState.{LaneState}
use Rattle.purchase_reasons.specs.declared.followed.Followed.{Followed}
use Rattle.purchase_reasons.specs.declared.followed.Standing.{Standing}
use Rattle.issuer_reasons.specs.declared.issuer.Reply.{Reply}
use Rattle.purchase_reasons.specs.declared.limits.Limit.TheVariants.{AsMade, Set, Unsure}

-- nothing was blocked, and the issuer wasn't authenticated
abbrev pub untouched : Standing
untouched = record { card_blocked = false; blocked = false; authenticated = None }

-- before any line
abbrev pub nothing_followed : Followed
nothing_followed = record { card = no_bytes; asked = None; reason = None; answered = None; standing = untouched; count = AsMade; sum = AsMade; pan = no_bytes; requested = false; reply = None }

-- a card of this name is powered up
abbrev pub followed_from : List ℕ → Followed
followed_from card = record nothing_followed { card = record { items = kept_if_short 16 card } }

-- the first question is kept up to the second one
abbrev pub with_first_question : LaneState → Followed → Followed
with_first_question talk f = (if talk.second then f else record f { asked = talk.asked; reason = talk.reason; answered = talk.answered })

-- a bit of a byte, by its value
abbrev pub is_bit_set : ℕ → ℕ → Bool
is_bit_set byte value = byte / value % 2 == 1

-- the second byte of a card status update may block the application and the card (Book 2 section 8.2.2; its bits are this
-- project's own)
abbrev pub with_steered : ℕ → Followed → Followed
with_steered byte f =
    record f { standing = record f.standing { blocked = (if is_bit_set byte 64 then true else f.standing.blocked); card_blocked = (if is_bit_set byte 32 then true else f.standing.card_blocked) } }

-- it stands behind a response cryptogram of method 2, of four bytes
abbrev pub with_update : List ℕ → Followed → Followed
with_update body f = (if not (length body == 10) && nat_le 6 (length body) then with_steered (slice_index body 5) f else f)

-- EXTERNAL AUTHENTICATE was answered
abbrev pub with_tried : Bool → Followed → Followed
with_tried is_right f = record f { standing = record f.standing { authenticated = Some is_right } }

abbrev pub with_authentication : List ℕ → Bool → Followed → Followed
with_authentication body is_right f = (if is_right then with_update body (with_tried is_right f) else with_tried is_right f)

-- the first six bytes
abbrev pub first_six : List ℕ → List ℕ
first_six bytes =
    slice_index bytes 0 ∷ slice_index bytes 1 ∷ slice_index bytes 2 ∷ slice_index bytes 3 ∷ slice_index bytes 4 ∷ slice_index bytes 5 ∷ []

-- PUT DATA set a limit
abbrev pub with_count_set : List ℕ → Followed → Followed
with_count_set body f = (if nat_le 1 (length body) then record f { count = Set (slice_index body 0) } else f)

abbrev pub with_sum_set : List ℕ → Followed → Followed
with_sum_set body f = (if nat_le 6 (length body) then record f { sum = Set (bcd.number_in (first_six body)) } else f)

abbrev pub with_data_set : ℕ → List ℕ → Followed → Followed
with_data_set name body f = (if name == 1 then with_count_set body f else if name == 2 then with_sum_set body f else f)

-- a script blocked the card, or unblocked or blocked the application
abbrev pub with_blocking : ℕ → Followed → Followed
with_blocking instruction f =
    if instruction == 0x16 then record f { standing = record f.standing { card_blocked = true } }
    else if instruction == 0x18 then record f { standing = record f.standing { blocked = false } }
    else if instruction == 0x1E then record f { standing = record f.standing { blocked = true } }
    else f

-- a script command was carried out
abbrev pub with_script : CommandData → Followed → Followed
with_script command f =
    if command.class == 0x84 then with_blocking command.ins f
    else if command.class == 0x04 && (command.ins == 0xDA && command.p1 == 0xDF) then with_data_set command.p2 command.body f
    else f

-- a command was answered by a status
abbrev pub with_status : CommandData → Bool → Followed → Followed
with_status command is_good f =
    if command.class == 0 && command.ins == 0x82 then with_authentication command.body is_good f
    else if is_good then with_script command f
    else f

-- the account number of a record: 5A within the template 70
abbrev pub with_number : Option (List ℕ) → Followed → Followed
with_number None f = f
with_number (Some number) f = record f { pan = record { items = kept_if_short 10 number } }

abbrev pub with_number_in : Option (List ℕ) → Followed → Followed
with_number_in None f = f
with_number_in (Some objects) f = with_number (found_deep 8 0x5A objects) f

abbrev pub with_record_of : List ℕ → Followed → Followed
with_record_of body f = with_number_in (sole_value 0x70 (items_of body)) f

-- a request was sent to the issuer
abbrev pub with_request : Followed → Followed
with_request f = record f { requested = true }

-- its reply came
abbrev pub with_reply : Option Reply → Followed → Followed
with_reply reply f = record f { reply = reply }

abbrev pub with_command : Option CommandData → ResponseData → Followed → Followed
with_command None response f = f
with_command (Some command) response f =
    if command.class == 0 && command.ins == 0xB2 then with_record_of response.body f else with_status command (response.status == no_error) f

abbrev pub with_response : Option CommandData → Option ResponseData → Followed → Followed
with_response command None f = f
with_response command (Some response) f = with_command command response f

-- what a command and its answer left
abbrev pub with_answer : List ℕ → List ℕ → Followed → Followed
with_answer command answer f = with_response (command_of command) (response_of answer) f

-- the card was pulled out before it had answered PUT DATA: whether the limit was set isn't known
abbrev pub with_data_unsure : ℕ → Followed → Followed
with_data_unsure name f = (if name == 1 then record f { count = Unsure } else if name == 2 then record f { sum = Unsure } else f)

abbrev pub is_put_data : List ℕ → Bool
is_put_data command =
    nat_le 4 (length command) && (slice_index command 0 == 0x04 && (slice_index command 1 == 0xDA && slice_index command 2 == 0xDF))

-- the card was pulled out in this command
abbrev pub with_torn : List ℕ → Followed → Followed
with_torn command f = (if is_put_data command then with_data_unsure (slice_index command 3) f else f)
