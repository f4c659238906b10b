-- Why GENERATE AC is answered as it is: the tests of the card's policy in the state before the command (EMV 4.3 Book 3
-- section 10.8; the policy is this project's own).
use Rattle.std.specs.Prelude.{ℕ, ◌==◌, ◌&&◌, not, Bool, if◌then◌else◌, List, length, Option, Some, None, slice_get}
use Rattle.apdu_core.specs.Command.{CommandData, command_of}
use Rattle.card_cryptogram.specs.Asked.{kind_asked, has_issuer_auth, is_arqc}
use Rattle.card_cryptogram.specs.Authentication.{auth_of}
use Rattle.card_cryptogram.specs.Fields.{first_given, given_from, code_given}
use Rattle.card_cryptogram.specs.declared.fields.TerminalFields.{TerminalFields}
use Rattle.card_cryptogram.specs.declared.phase.First.{First as FirstData}
use Rattle.card_cryptogram.specs.declared.phase.Phase.{Phase}
use Rattle.card_cryptogram.specs.declared.phase.Phase.TheVariants.{Idle, Directory, Selected, Started, Online, Closed, Done}
use Rattle.card_files.specs.Files.{opening_of}
use Rattle.card_files.specs.Views.{AppData, ImageData}
use Rattle.card_policy.specs.Policy.{is_blocked, is_declined_by_status}
use Rattle.card_state.specs.Decisions.{Decided}
use Rattle.card_state.specs.Totals.{totals}
use Rattle.card_state.specs.declared.decision.Auth.{Auth}
use Rattle.card_state.specs.declared.decision.How.{How}
use Rattle.card_state.specs.declared.decision.Sale.{Sale}
use Rattle.card_state.specs.declared.decision.Which.{Which}
use Rattle.card_state.specs.declared.decision.Which.TheVariants.{One, Two, Neither}
use Rattle.card_state.specs.declared.state.AppState.{AppState}
use Rattle.card_state.specs.declared.state.CardState.{CardState}
use Rattle.emv_dict.specs.declared.ending.Kind.{Kind}
use Rattle.object_lists.specs.DolEntries.{total_of}
use Rattle.card_app.specs.Cryptograms.{first_kind_for, sale_for, second_by}
use Rattle.card_app.specs.OwnLists.{cdol_of}
use Rattle.card_app.specs.Session.{Exchange, phase_of}
use Rattle.card_app.specs.declared.reason.Reason.{Reason}
use Rattle.card_app.specs.declared.reason.Resting.{Resting}

-- the sum of the offline approvals in the currency of a sale, and its limit; of a third currency there is none
abbrev pub sum_kept : AppState → Which → ℕ
sum_kept s One = s.sum
sum_kept s Two = s.sum_two
sum_kept s Neither = 0

abbrev pub sum_most : AppState → Which → ℕ
sum_most s One = s.sum_limit
sum_most s Two = s.limit_two
sum_most s Neither = 0

-- what was asked and made, and what the tests compare
abbrev pub reason_with : Bool → ℕ → AppState → Kind → Kind → Option Resting → Sale → Reason
reason_with card_blocked app s asked made second sale = record {
  app = app;
  asked = asked;
  made = made;
  second = second;
  blocked = is_blocked s card_blocked;
  auth_failed = s.auth_failed;
  currency = sale.currency;
  which = sale.which;
  count = s.count;
  count_limit = s.count_limit;
  sum = sum_kept s sale.which;
  amount = sale.amount;
  sum_limit = sum_most s sale.which;
}

-- of the first GENERATE AC, with data of the length that the first list wants
abbrev pub first_because : Bool → ℕ → Kind → AppData → AppState → TerminalFields → Reason
first_because card_blocked app asked a s given =
    reason_with card_blocked app s asked (first_kind_for card_blocked asked a s given) None (sale_for a given)

unfoldable pub first_ac_reason : Bool → ℕ → Kind → List ℕ → AppData → AppState → Option Reason
first_ac_reason card_blocked app asked filled a s =
    if not (length filled == total_of (cdol_of a.cdol1)) then None
    else Some (first_because card_blocked app asked a s (first_given (cdol_of a.cdol1) filled))

-- on what the second one rests, and what issuer and profile say to that
abbrev pub resting_on : AppData → Option Auth → How → Resting
resting_on a sent how = record { how = how; declined = is_declined_by_status (auth_of sent); issuer_auth = has_issuer_auth a.aip }

abbrev pub second_because : Bool → ℕ → Kind → AppData → AppState → Option Auth → TerminalFields → Kind × How → Reason
second_because card_blocked app asked a s sent given made =
    reason_with card_blocked app s asked made.0 (Some (resting_on a sent made.1)) (sale_for a given)

unfoldable pub second_ac_reason : Bool → ℕ → FirstData → Option Auth → Kind → List ℕ → AppData → AppState → Option Reason
second_ac_reason card_blocked app first sent asked filled a s =
    if not (length filled == total_of (cdol_of a.cdol2)) then None
    else if is_arqc asked then None
    else Some (second_because card_blocked app asked a s sent (given_from (cdol_of a.cdol2) filled first.given)
    (second_by card_blocked asked a s sent (code_given (cdol_of a.cdol2) filled) (given_from (cdol_of a.cdol2) filled first.given)))

-- by an application that is there
abbrev pub reason_by : Option AppData → Option AppState → (AppData → AppState → Option Reason) → Option Reason
reason_by (Some a) (Some s) reason = reason a s
reason_by (Some a) None reason = None
reason_by None s reason = None

-- by how far the card has come
abbrev pub reason_by_phase : ImageData → CardState → Phase → Kind → List ℕ → Option Reason
reason_by_phase image state (Started app) asked filled =
    reason_by (slice_get image.apps app) (slice_get state.apps.items app) (first_ac_reason state.blocked app asked filled)
reason_by_phase image state (Online app first sent) asked filled =
    reason_by (slice_get image.apps app) (slice_get state.apps.items app) (second_ac_reason state.blocked app first sent asked filled)
reason_by_phase image state Idle asked filled = None
reason_by_phase image state Directory asked filled = None
reason_by_phase image state (Selected app) asked filled = None
reason_by_phase image state (Closed app) asked filled = None
reason_by_phase image state (Done app first) asked filled = None

abbrev pub reason_asked : ImageData → CardState → Phase → Option Kind → List ℕ → Option Reason
reason_asked image state phase None filled = None
reason_asked image state phase (Some asked) filled = reason_by_phase image state phase asked filled

-- of a command: another one than GENERATE AC makes no cryptogram
unfoldable pub command_reason : ImageData → CardState → Phase → CommandData → Option Reason
command_reason image state phase c =
    if c.class == 0x80 && c.ins == 0xAE then reason_asked image state phase (kind_asked c.p1 c.p2) c.body else None

abbrev pub reason_or_none : ImageData → CardState → Phase → Option CommandData → Option Reason
reason_or_none image state phase None = None
reason_or_none image state phase (Some c) = command_reason image state phase c

unfoldable pub reason_in_phase : ImageData → CardState → Phase → List ℕ → Option Reason
reason_in_phase image state phase command = reason_or_none image state phase (command_of command)

-- why a card of this image makes the cryptogram that it makes for a command, behind these decisions since it was made and
-- this session since power-up; none where it makes none
unfoldable pub why_of : ImageData → List Decided → List Exchange → List ℕ → Option Reason
why_of image ds session command = reason_in_phase image (totals (opening_of image) ds) (phase_of image session) command
