-- How far a card has come in the session since its power-up, read off the commands and their answers.
use Rattle.std.specs.Prelude.{ℕ, ◌==◌, ◌||◌, Bool, true, false, if◌then◌else◌, List, Option, Some, None, slice_get}
use Rattle.card_cryptogram.specs.Authentication.{told_by}
use Rattle.std.specs.List.{fold}
use Rattle.apdu_core.specs.Command.{CommandData, command_of}
use Rattle.apdu_core.specs.Response.{ResponseData, response_of}
use Rattle.card_cryptogram.specs.Bodies.{kind_in, cryptogram_in}
use Rattle.card_cryptogram.specs.Fields.{first_given}
use Rattle.card_files.specs.Views.{AppData, ImageData}
use Rattle.card_state.specs.declared.decision.Auth.{Auth}
use Rattle.card_state.specs.declared.decision.Auth.TheVariants.{Absent}
use Rattle.emv_dict.specs.declared.ending.Kind.{Kind}
use Rattle.emv_dict.specs.declared.ending.Kind.TheVariants.{Aac, Tc, Arqc}
use Rattle.card_app.specs.Selection.{app_found, directory_asked}
use Rattle.card_app.specs.OwnLists.{cdol_of}
use Rattle.card_cryptogram.specs.declared.phase.First.{First}
use Rattle.card_cryptogram.specs.declared.phase.Phase.{Phase}
use Rattle.card_cryptogram.specs.declared.phase.Phase.TheVariants.{Idle, Directory, Selected, Started, Online, Closed, Done}

-- a command and its answer
pub record Exchange : Type 0 where
  pub command : List ℕ
  pub answer : List ℕ

-- SELECT gave file control information: also where the application is blocked
abbrev pub gives_fci : ℕ → Bool
gives_fci status = status == 0x9000 || status == 0x6283

abbrev pub phase_selected : Option ℕ → Phase → Phase
phase_selected (Some app) phase = Selected app
phase_selected None phase = phase

-- the directory was asked for, else an application
abbrev pub directory_selected : Option ℕ → Phase → Phase
directory_selected (Some sfi) other = Directory
directory_selected None other = other

abbrev pub after_select : ImageData → Phase → CommandData → Phase
after_select image phase c = directory_selected (directory_asked image c.p2 c.body) (phase_selected (app_found image.apps phase c.p2 c.body) phase)

abbrev pub started : Phase → Phase
started (Selected app) = Started app
started Idle = Idle
started Directory = Directory
started (Started app) = Started app
started (Online app first sent) = Online app first sent
started (Closed app) = Closed app
started (Done app first) = Done app first

-- a request to go online
abbrev pub is_online_asked : Option Kind → Bool
is_online_asked (Some Arqc) = true
is_online_asked (Some Tc) = false
is_online_asked (Some Aac) = false
is_online_asked None = false

-- what of the first cryptogram the later commands refer to: what was given for it, at its places in the data of
-- the command, and the cryptogram, at its place in the body of the answer
abbrev pub first_in : AppData → List ℕ → List ℕ → First
first_in a filled body = record { given = first_given (cdol_of a.cdol1) filled; cryptogram = cryptogram_in a.ac_format body }

-- the first cryptogram was made: online behind a request, closed behind another kind
abbrev pub phase_behind_first : ℕ → AppData → List ℕ → List ℕ → Phase
phase_behind_first app a filled body = if is_online_asked (kind_in a.ac_format body) then Online app (first_in a filled body) None else Closed app

abbrev pub begun_of : ℕ → Option AppData → List ℕ → List ℕ → Phase
begun_of app (Some a) filled body = phase_behind_first app a filled body
begun_of app None filled body = Started app

-- a cryptogram was made for these data, and the body holds it
abbrev pub with_cryptogram : ImageData → List ℕ → List ℕ → Phase → Phase
with_cryptogram image filled body (Started app) = begun_of app (slice_get image.apps app) filled body
with_cryptogram image filled body (Online app first sent) = Done app first
with_cryptogram image filled body Idle = Idle
with_cryptogram image filled body Directory = Directory
with_cryptogram image filled body (Selected app) = Selected app
with_cryptogram image filled body (Closed app) = Closed app
with_cryptogram image filled body (Done app first) = Done app first

-- EXTERNAL AUTHENTICATE was sent, and authenticated the issuer so
abbrev pub phase_authenticated : Auth → Phase → Phase
phase_authenticated auth (Online app first sent) = Online app first (Some auth)
phase_authenticated auth Idle = Idle
phase_authenticated auth Directory = Directory
phase_authenticated auth (Selected app) = Selected app
phase_authenticated auth (Started app) = Started app
phase_authenticated auth (Closed app) = Closed app
phase_authenticated auth (Done app first) = Done app first

-- the phase behind a command with this body and status of its answer
unfoldable pub next_phase : ImageData → Phase → CommandData → List ℕ → ℕ → Phase
next_phase image phase c body status =
    if c.ins == 0xA4 then (if gives_fci status then after_select image phase c else phase)
    else if c.ins == 0xA8 then (if status == 0x9000 then started phase else phase)
    else if c.ins == 0xAE then (if status == 0x9000 then with_cryptogram image c.body body phase else phase)
    else if c.ins == 0x82 then
    (if status == 0x9000 then phase_authenticated (told_by c.body) phase else if status == 0x6300 then phase_authenticated Absent phase else phase)
    else phase

abbrev pub after_said : ImageData → Phase → Option CommandData → Option ResponseData → Phase
after_said image phase (Some c) (Some r) = next_phase image phase c r.body r.status
after_said image phase (Some c) None = phase
after_said image phase None r = phase

-- the phase behind one more command and its answer
abbrev pub phase_after_exchange : ImageData → Phase → Exchange → Phase
phase_after_exchange image phase x = after_said image phase (command_of x.command) (response_of x.answer)

-- the phase behind all of a session
unfoldable pub phase_of : ImageData → List Exchange → Phase
phase_of image session = fold (phase_after_exchange image) Idle session
