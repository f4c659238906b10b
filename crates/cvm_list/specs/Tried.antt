-- What comes of one rule of a cardholder verification method list (EMV 4.3 Book 3 sections 10.5.1 to 10.5.4; section
-- 6.5.12).
use Rattle.std.specs.Prelude.{ℕ, ◌==◌, Bool, true, false, not, ◌||◌, if◌then◌else◌, List, [], ◌∷◌, Option, Some, None}
use Rattle.emv_dict.specs.Flags.{tvr_bit}
use Rattle.emv_dict.specs.declared.ending.Cause.{Cause}
use Rattle.emv_dict.specs.declared.ending.Cause.TheVariants.{Answer}
use Rattle.apdu_core.specs.Command.{command_bytes}
use Rattle.apdu_core.specs.Response.{ResponseData, response_of}
use Rattle.apdu_core.specs.Status.{no_error, authentication_blocked, data_invalidated, status_counter}
use Rattle.pin_block.specs.Block.{block_of}
use Rattle.cvm_list.specs.Rules.{method_of, supports}
use Rattle.cvm_list.specs.declared.outcome.Outcome.{Outcome}
use Rattle.cvm_list.specs.declared.outcome.Said.{Said}
use Rattle.cvm_list.specs.declared.outcome.Said.TheVariants.{Right, Again, Exceeded, Other}
use Rattle.cvm_list.specs.declared.rule.Rule.{Rule}
use Rattle.cvm_list.specs.declared.rule.Method.{Method}
use Rattle.cvm_list.specs.declared.rule.Method.TheVariants.{Fail, PlainPin, OnlinePin, PlainPinAndSignature, EncipheredPin, EncipheredPinAndSignature, Signature, NoCvm, Unrecognised}

-- VERIFY of a PIN in a plain block
unfoldable pub verify_command : List ℕ → List ℕ
verify_command pin = command_bytes (record { class = 0x00; ins = 0x20; p1 = 0x00; p2 = 0x80; body = block_of 2 pin; expects = None })

abbrev pub said_by : ℕ → Option ℕ → Said
said_by status (Some left) = (if left == 0 then Exceeded else Again)
said_by status None =
    if status == no_error then Right
    else if (status == authentication_blocked) || (status == data_invalidated) then Exceeded
    else Other

-- what a status of VERIFY says: 9000 the PIN is right, 63Cx with x above 0 another entry may be tried, 63C0, 6983 and
-- 6984 there is no try left
abbrev pub said_of : ℕ → Said
said_of status = said_by status (status_counter status)

-- a method that isn't supported is unsuccessful and not performed
abbrev pub unsupported_bits : Method → ℕ
unsupported_bits Fail = 0
unsupported_bits PlainPin = tvr_bit 3 5
unsupported_bits OnlinePin = tvr_bit 3 5
unsupported_bits PlainPinAndSignature = tvr_bit 3 5
unsupported_bits EncipheredPin = tvr_bit 3 5
unsupported_bits EncipheredPinAndSignature = tvr_bit 3 5
unsupported_bits Signature = 0
unsupported_bits NoCvm = 0
unsupported_bits Unrecognised = tvr_bit 3 7

abbrev pub unsupported : Rule → Outcome
unsupported rule = record {
  rule = rule;
  performed = false;
  good = false;
  result = 1;
  tvr = record { 0 = unsupported_bits (method_of rule) };
  online_pin = None;
}

-- a method that was performed without success
abbrev pub failed : Rule → ℕ → Outcome
failed rule bits = record { rule = rule; performed = true; good = false; result = 1; tvr = record { 0 = bits }; online_pin = None }

-- a method that was performed with success: result 02, or 00 where the terminal doesn't know whether it succeeds
abbrev pub successful : Rule → ℕ → Outcome
successful rule result = record { rule = rule; performed = true; good = true; result = result; tvr = record { 0 = 0 }; online_pin = None }

-- a PIN that goes to the issuer
abbrev pub sent_online : Rule → List ℕ → Outcome
sent_online rule pin = record {
  rule = rule;
  performed = true;
  good = true;
  result = 0;
  tvr = record { 0 = tvr_bit 3 3 };
  online_pin = Some pin;
}

-- what comes of a rule: its outcome with the PIN entries and the answers that it leaves, a command that it wants
-- answered, or a cause to end the transaction
pub data Trial : Type 0 where
  Known : (outcome : Outcome) → (pins : List (List ℕ)) → (rest : List (List ℕ)) → Trial
  Asks : (command : List ℕ) → Trial
  Stops : (cause : Cause) → Trial

abbrev pub by_said : Rule → ℕ → Said → List (List ℕ) → List (List ℕ) → Trial → Trial
by_said rule result Right pins rest again = Known (successful rule result) pins rest
by_said rule result Again pins rest again = again
by_said rule result Exceeded pins rest again = Known (failed rule (tvr_bit 3 6)) pins rest
by_said rule result Other pins rest again = Known (failed rule 0) pins rest

abbrev pub by_answer : Rule → ℕ → Option ResponseData → List (List ℕ) → List (List ℕ) → Trial → Trial
by_answer rule result (Some response) pins rest again = by_said rule result (said_of response.status) pins rest again
by_answer rule result None pins rest again = Stops Answer

-- the card verifies one entry after another, until it says that one is right or that no other may follow
unfoldable pub pin_tried : Rule → ℕ → List (List ℕ) → List (List ℕ) → Trial
pin_tried rule result [] answers = Known (failed rule (tvr_bit 3 4)) [] answers
pin_tried rule result (pin ∷ pins) [] = Asks (verify_command pin)
pin_tried rule result (pin ∷ pins) (reply ∷ rest) = by_answer rule result (response_of reply) pins rest (pin_tried rule result pins rest)

-- the next entry goes to the issuer
abbrev pub online_tried : Rule → List (List ℕ) → List (List ℕ) → Trial
online_tried rule [] answers = Known (failed rule (tvr_bit 3 4)) [] answers
online_tried rule (pin ∷ pins) answers = Known (sent_online rule pin) pins answers

abbrev pub performed : Rule → Method → List (List ℕ) → List (List ℕ) → Trial
performed rule Fail pins answers = Known (failed rule 0) pins answers
performed rule PlainPin pins answers = pin_tried rule 2 pins answers
performed rule OnlinePin pins answers = online_tried rule pins answers
performed rule PlainPinAndSignature pins answers = pin_tried rule 0 pins answers
performed rule EncipheredPin pins answers = Known (failed rule 0) pins answers
performed rule EncipheredPinAndSignature pins answers = Known (failed rule 0) pins answers
performed rule Signature pins answers = Known (successful rule 0) pins answers
performed rule NoCvm pins answers = Known (successful rule 2) pins answers
performed rule Unrecognised pins answers = Known (failed rule 0) pins answers

-- what comes of a rule whose condition holds
unfoldable pub tried : ℕ → Rule → List (List ℕ) → List (List ℕ) → Trial
tried caps rule pins answers =
    if supports caps (method_of rule) then performed rule (method_of rule) pins answers else Known (unsupported rule) pins answers
