-- How far a card has come in a session, told from what stands behind the last SELECT with file control information.
use Rattle.std.specs.Prelude.{◌≡◌, ℕ, ◌==◌, ◌++◌, Bool, true, false, if◌then◌else◌, List, [], ◌∷◌, map, slice_get, Option, Some, None}
use Rattle.std.specs.List.{list_any}
use Rattle.apdu_core.specs.Command.{CommandData, command_of}
use Rattle.apdu_core.specs.Response.{ResponseData, response_of}
use Rattle.card_app.specs.Selection.{app_found, directory_asked}
use Rattle.card_app.specs.Session.{Exchange, first_in, is_online_asked, gives_fci, phase_of}
use Rattle.card_cryptogram.specs.Authentication.{told_by}
use Rattle.card_cryptogram.specs.Bodies.{kind_in}
use Rattle.card_cryptogram.specs.declared.phase.First.{First}
use Rattle.card_cryptogram.specs.declared.phase.Phase.{Phase}
use Rattle.card_cryptogram.specs.declared.phase.Phase.TheVariants.{Idle, Directory, Selected, Started, Online, Closed, Done}
use Rattle.card_files.specs.Views.{AppData, ImageData}
use Rattle.card_state.specs.declared.decision.Auth.{Auth}
use Rattle.card_state.specs.declared.decision.Auth.TheVariants.{Absent}

-- what an exchange counts as: a SELECT that gave file control information, processing options that were given, a
-- cryptogram that was made, or an issuer authentication and how it came out
pub data SessionTurn : Type 0 where
  Selects : (p2 : ℕ) (name : List ℕ) → SessionTurn
  Opens : SessionTurn
  Makes : (filled body : List ℕ) → SessionTurn
  Authenticates : (auth : Auth) → SessionTurn
  Other : SessionTurn

-- GET PROCESSING OPTIONS and GENERATE AC count where they were answered 9000, SELECT also where it was answered 6283,
-- and EXTERNAL AUTHENTICATE also where it was answered 6300
abbrev pub turn_in : CommandData → List ℕ → ℕ → SessionTurn
turn_in c body status =
    if c.ins == 0xA4 then (if gives_fci status then Selects c.p2 c.body else Other)
    else if c.ins == 0xA8 then (if status == 0x9000 then Opens else Other)
    else if c.ins == 0xAE then (if status == 0x9000 then Makes c.body body else Other)
    else if c.ins == 0x82 then (if status == 0x9000 then Authenticates (told_by c.body) else if status == 0x6300 then Authenticates Absent else Other)
    else Other

abbrev pub turn_said : Option CommandData → Option ResponseData → SessionTurn
turn_said (Some c) (Some r) = turn_in c r.body r.status
turn_said (Some c) None = Other
turn_said None r = Other

abbrev pub turn_of : Exchange → SessionTurn
turn_of x = turn_said (command_of x.command) (response_of x.answer)

abbrev pub is_selection : SessionTurn → Bool
is_selection (Selects p2 name) = true
is_selection Opens = false
is_selection (Makes filled body) = false
is_selection (Authenticates auth) = false
is_selection Other = false

-- the turns behind the first processing options that were given
unfoldable pub behind_opening : List SessionTurn → Option (List SessionTurn)
behind_opening [] = None
behind_opening (Opens ∷ ts) = Some ts
behind_opening (Selects p2 name ∷ ts) = behind_opening ts
behind_opening (Makes filled body ∷ ts) = behind_opening ts
behind_opening (Authenticates auth ∷ ts) = behind_opening ts
behind_opening (Other ∷ ts) = behind_opening ts

-- a cryptogram, made for these data and answered in this body, and the turns behind it
pub record Made : Type 0 where
  pub filled : List ℕ
  pub body : List ℕ
  pub behind : List SessionTurn

-- the first cryptogram
unfoldable pub first_turn_made : List SessionTurn → Option Made
first_turn_made [] = None
first_turn_made (Makes filled body ∷ ts) = Some (record { filled = filled; body = body; behind = ts })
first_turn_made (Selects p2 name ∷ ts) = first_turn_made ts
first_turn_made (Opens ∷ ts) = first_turn_made ts
first_turn_made (Authenticates auth ∷ ts) = first_turn_made ts
first_turn_made (Other ∷ ts) = first_turn_made ts

-- how the issuer was authenticated, by the last answer to it, or else as it stood before
unfoldable pub sent_in : Option Auth → List SessionTurn → Option Auth
sent_in sent [] = sent
sent_in sent (Authenticates auth ∷ ts) = sent_in (Some auth) ts
sent_in sent (Selects p2 name ∷ ts) = sent_in sent ts
sent_in sent (Opens ∷ ts) = sent_in sent ts
sent_in sent (Makes filled body ∷ ts) = sent_in sent ts
sent_in sent (Other ∷ ts) = sent_in sent ts

-- behind a first request to go online: online, and done with a second cryptogram
abbrev pub told_request : ℕ → First → Option Auth → List SessionTurn → Option Made → Phase
told_request app first sent behind None = Online app first (sent_in sent behind)
told_request app first sent behind (Some second) = Done app first

-- started before a first cryptogram; behind one of another kind closed
abbrev pub told_made : AppData → ℕ → Option Made → Phase
told_made a app None = Started app
told_made a app (Some made) =
    if is_online_asked (kind_in a.ac_format made.body)
    then told_request app (first_in a made.filled made.body) None made.behind (first_turn_made made.behind)
    else Closed app

-- selected before processing options
abbrev pub told_opened : AppData → ℕ → Option (List SessionTurn) → Phase
told_opened a app None = Selected app
told_opened a app (Some behind) = told_made a app (first_turn_made behind)

-- the phase behind these turns since the application was selected
abbrev pub phase_told : AppData → ℕ → List SessionTurn → Phase
phase_told a app turns = told_opened a app (behind_opening turns)

-- none of these gave file control information
abbrev pub SelectsNone : List Exchange → Type 0
SelectsNone session = list_any is_selection (map turn_of session) ≡ false

-- the exchange is a SELECT that gave the file control information of this application
abbrev pub IsSelection : ImageData → List Exchange → Exchange → ℕ → Type 0
IsSelection image before x app =
    (p2 : ℕ) × (name : List ℕ) × (turn_of x ≡ Selects p2 name) × (directory_asked image p2 name ≡ None) × (app_found image.apps (phase_of image before) p2 name ≡ Some app)

-- or that of the payment system directory
abbrev pub IsOfDirectory : ImageData → Exchange → Type 0
IsOfDirectory image x = (p2 : ℕ) × (name : List ℕ) × (sfi : ℕ) × (turn_of x ≡ Selects p2 name) × (directory_asked image p2 name ≡ Some sfi)

-- without such a SELECT a card is at the start of its session
abbrev pub BeginsIdle : ImageData → Type 0
BeginsIdle image = (session : List Exchange) → SelectsNone session → phase_of image session ≡ Idle

-- the last such SELECT, and the exchanges behind it, make the phase
abbrev pub TellsPhase : ImageData → Type 0
TellsPhase image =
    (before : List Exchange) (x : Exchange) (behind : List Exchange) (app : ℕ) (a : AppData)
    → IsSelection image before x app → slice_get image.apps app ≡ Some a → SelectsNone behind
    → phase_of image (before ++ x ∷ behind) ≡ phase_told a app (map turn_of behind)

-- behind one of the directory no application is selected
abbrev pub StaysInDirectory : ImageData → Type 0
StaysInDirectory image =
    (before : List Exchange) (x : Exchange) (behind : List Exchange) → IsOfDirectory image x → SelectsNone behind
    → phase_of image (before ++ x ∷ behind) ≡ Directory
