-- Where a reason stands: the reference of a bit, a code and a cause (EMV 4.3 Books 1 to 4).
use Rattle.std.specs.Prelude.{ℕ, ◌+◌, ◌*◌, ◌%◌, ◌==◌, ◌&&◌, if◌then◌else◌, List, map, codes, Option, Some, None, unwrap_or}
use Rattle.std.specs.Str.{bytes_eq}
use Rattle.report_lines.specs.Tables.{word_in, text_in}
use Rattle.report_lines.specs.declared.references.TheConstants.{RESULT_REFERENCES, METHOD_REFERENCES, OUTCOME_REFERENCES, RESPONSE_REFERENCES, COMMAND_REFERENCES, ANSWER_REFERENCES, STATUS_WORD_REFERENCES, SELECT_CAUSES, INITIATE_CAUSES, READ_CAUSES, FIRST_CAUSES, SECOND_CAUSES, OTHER_CAUSES, LOCATOR_LENGTH, NOT_VERIFIED, NO_RULE, UNKNOWN_METHOD}

-- a bit of the terminal verification results
unfoldable pub result_reference : ℕ → Option (List ℕ)
result_reference bit = word_in (map (λ w. (w.0, w.1.now)) RESULT_REFERENCES) bit

-- a method of cardholder verification that is known
unfoldable pub method_reference : ℕ → Option (List ℕ)
method_reference method = word_in (map (λ w. (w.0, w.1.now)) METHOD_REFERENCES) method

-- no rule was performed: none was asked for or given, or none could be
abbrev pub unverified_reference : ℕ → List ℕ
unverified_reference outcome = (if outcome == 0 then NOT_VERIFIED.now else NO_RULE.now)

-- the method of a result of cardholder verification
abbrev pub verification_reference : ℕ → ℕ → List ℕ
verification_reference method outcome =
    if method == 0x3F then unverified_reference outcome else unwrap_or (method_reference (method % 64)) UNKNOWN_METHOD.now

-- its outcome
unfoldable pub outcome_reference : ℕ → Option (List ℕ)
outcome_reference outcome = word_in (map (λ w. (w.0, w.1.now)) OUTCOME_REFERENCES) outcome

-- an authorisation response code
unfoldable pub response_reference : ℕ → Option (List ℕ)
response_reference code = word_in (map (λ w. (w.0, w.1.now)) RESPONSE_REFERENCES) code

-- a command by its class and instruction
unfoldable pub command_reference : ℕ → Option (List ℕ)
command_reference head = word_in (map (λ w. (w.0, w.1.now)) COMMAND_REFERENCES) head

-- a status that a command has of its own, and one of any command
unfoldable pub answer_reference : ℕ → Option (List ℕ)
answer_reference code = word_in (map (λ w. (w.0, w.1.now)) ANSWER_REFERENCES) code

unfoldable pub any_status_reference : ℕ → Option (List ℕ)
any_status_reference status = word_in (map (λ w. (w.0, w.1.now)) STATUS_WORD_REFERENCES) status

abbrev pub first_found : Option (List ℕ) → Option (List ℕ) → Option (List ℕ)
first_found None other = other
first_found (Some found) other = Some found

-- a status: that of its command first
abbrev pub status_reference : ℕ → ℕ → Option (List ℕ)
status_reference instruction status = first_found (answer_reference (instruction * 65536 + status)) (any_status_reference status)

-- the cause for which a terminal ends a payment in a step
unfoldable pub step_cause : List ℕ → List ℕ → Option (List ℕ)
step_cause step cause =
    if bytes_eq step (codes "select") then text_in (map (λ w. (w.0.now, w.1.now)) SELECT_CAUSES) cause
    else if bytes_eq step (codes "initiate") then text_in (map (λ w. (w.0.now, w.1.now)) INITIATE_CAUSES) cause
    else if bytes_eq step (codes "read") then text_in (map (λ w. (w.0.now, w.1.now)) READ_CAUSES) cause
    else if bytes_eq step (codes "first") then text_in (map (λ w. (w.0.now, w.1.now)) FIRST_CAUSES) cause
    else if bytes_eq step (codes "second") then text_in (map (λ w. (w.0.now, w.1.now)) SECOND_CAUSES) cause
    else text_in (map (λ w. (w.0.now, w.1.now)) OTHER_CAUSES) cause

-- with what stands behind it: number 0 of a locator is its length
abbrev pub cause_reference : List ℕ → List ℕ → List ℕ → Option (List ℕ)
cause_reference step cause detail =
    if bytes_eq step (codes "initiate") && (bytes_eq cause (codes "afl") && bytes_eq detail (codes "0")) then Some LOCATOR_LENGTH.now
    else step_cause step cause
