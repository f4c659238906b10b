-- EXTERNAL AUTHENTICATE: the issuer authentication data (91) are sent to the card (EMV 4.3 Book 3 sections 6.5.4
-- and 10.9).
use Rattle.std.specs.Prelude.{ℕ, Bool, ◌==◌, List, [], ◌∷◌, Option, Some, None, Result, Ok, Err}
use Rattle.apdu_core.specs.Command.{command_bytes}
use Rattle.apdu_core.specs.Response.{ResponseData, response_of}
use Rattle.apdu_core.specs.Status.{no_error}
use Rattle.emv_dict.specs.Progress.{Progress, Wants, Stopped, Done}
use Rattle.emv_dict.specs.declared.ending.Cause.{Cause}
use Rattle.emv_dict.specs.declared.ending.Cause.TheVariants.{Answer}

-- the command with these data
unfoldable pub authenticate_command : List ℕ → List ℕ
authenticate_command value = command_bytes (record { class = 0; ins = 0x82; p1 = 0; p2 = 0; body = value; expects = None })

abbrev pub verdict_said : Option ResponseData → Result Bool Cause
verdict_said None = Err Answer
verdict_said (Some said) = Ok (said.status == no_error)

-- whether the card says that the issuer is authentic; an answer that cannot be read ends the transaction
unfoldable pub authentication_verdict : List ℕ → Result Bool Cause
authentication_verdict answer = verdict_said (response_of answer)

abbrev pub after_verdict : Result Bool Cause → List (List ℕ) → Progress Bool
after_verdict (Ok right) rest = Done right rest
after_verdict (Err because) rest = Stopped because

-- the step over the answers
abbrev pub authentication_step : List ℕ → List (List ℕ) → Progress Bool
authentication_step value [] = Wants (authenticate_command value)
authentication_step value (answer ∷ rest) = after_verdict (authentication_verdict answer) rest
