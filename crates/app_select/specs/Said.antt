-- SELECT and what its answer says (EMV 4.3 Book 1 sections 11.3 and 12.3.3; Book 1 section 12.3.1).
use Rattle.std.specs.Prelude.{⊤, ℕ, List, ◌==◌, ◌&&◌, ◌||◌, Bool, true, false, nat_lt, nat_eq, length, Option, Some, None, if◌then◌else◌}
use Rattle.std.specs.List.{starts_with}
use Rattle.std.specs.Str.{bytes_eq}
use Rattle.apdu_core.specs.Command.{command_bytes}
use Rattle.apdu_core.specs.Response.{ResponseData, response_of}
use Rattle.apdu_core.specs.Status.{no_error, file_invalidated, function_not_supported}
use Rattle.app_select.specs.Fci.{FciData, fci_of, IsShortList}
use Rattle.emv_dict.specs.declared.ending.Cause.{Cause}
use Rattle.emv_dict.specs.declared.ending.Cause.TheVariants.{Answer, CardBlocked}

-- the first application whose name begins with these bytes, or with 02 the next one
abbrev pub select_command : ℕ → List ℕ → List ℕ
select_command p2 name = command_bytes (record { class = 0; ins = 0xA4; p1 = 4; p2 = p2; body = name; expects = Some 0 })

-- what an answer says: it is no response, the card is blocked, the application with this FCI is
-- selected (it is invalidated where the status is 6283), or anything else
pub data SaidData : Type 0 where
  Unreadable : SaidData
  Blocked : SaidData
  Named : Bool → FciData → SaidData
  Nothing : SaidData

abbrev pub said_fci : Bool → Option FciData → SaidData
said_fci is_valid None = Nothing
said_fci is_valid (Some fci) = Named is_valid fci

abbrev pub said_response : Option ResponseData → SaidData
said_response None = Unreadable
said_response (Some said) =
    if said.status == function_not_supported then Blocked
    else if said.status == no_error then said_fci true (fci_of said.body)
    else if said.status == file_invalidated then said_fci false (fci_of said.body)
    else Nothing

-- what the answer to SELECT says: no response, a blocked card, a readable FCI of a valid or an invalidated
-- application, or anything else
unfoldable pub select_said : List ℕ → SaidData
select_said answer = said_response (response_of answer)

-- why an answer in the list ends the transaction
abbrev pub cause_said : SaidData → Option Cause
cause_said Unreadable = Some Answer
cause_said Blocked = Some CardBlocked
cause_said (Named is_valid fci) = None
cause_said Nothing = None

-- the name is longer than the AID and begins with it
abbrev pub is_longer : List ℕ → List ℕ → Bool
is_longer aid name = nat_lt (length aid) (length name) && starts_with nat_eq name aid

-- the name is the AID, or is longer where the terminal takes partial names
abbrev pub is_supported : List ℕ → Bool → List ℕ → Bool
is_supported aid partial name = bytes_eq name aid || (partial && is_longer aid name)

-- the object list of an answer is short
abbrev pub IsSaidShort : SaidData → Type 0
IsSaidShort Unreadable = ⊤
IsSaidShort Blocked = ⊤
IsSaidShort (Named is_valid fci) = IsShortList fci.pdol
IsSaidShort Nothing = ⊤
