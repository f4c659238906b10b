-- GENERATE AC and EXTERNAL AUTHENTICATE (EMV 4.3 Book 3 sections 6.5.5 and 6.5.4).
use Rattle.std.specs.Prelude.{ℕ, ◌==◌, ◌&&◌, not, Bool, if◌then◌else◌, List, [], length, Option, Some, None}
use Rattle.apdu_core.specs.Command.{CommandData}
use Rattle.card_cryptogram.specs.Asked.{kind_asked, has_issuer_auth, is_arqc}
use Rattle.card_cryptogram.specs.Authentication.{authentication, auth_of, is_authenticated, is_authentication_size, steered_by}
use Rattle.card_cryptogram.specs.Bodies.{body_of}
use Rattle.card_cryptogram.specs.Fields.{first_given, given_from, code_given}
use Rattle.card_cryptogram.specs.Sales.{sale_of}
use Rattle.card_cryptogram.specs.declared.fields.TerminalFields.{TerminalFields}
use Rattle.card_files.specs.Views.{AppData, ImageData}
use Rattle.card_policy.specs.Policy.{first_kind, second_kind}
use Rattle.card_state.specs.Change.{changed}
use Rattle.card_state.specs.declared.decision.Decision.{Decision}
use Rattle.card_state.specs.declared.decision.Decision.TheVariants.{First, Second, Authenticated}
use Rattle.card_state.specs.declared.decision.Auth.{Auth}
use Rattle.card_state.specs.declared.decision.How.{How}
use Rattle.card_state.specs.declared.decision.Sale.{Sale}
use Rattle.card_state.specs.declared.state.AppState.{AppState}
use Rattle.card_state.specs.declared.state.CardState.{CardState}
use Rattle.emv_dict.specs.declared.ending.Kind.{Kind}
use Rattle.object_lists.specs.DolEntries.{total_of}
use Rattle.card_app.specs.OwnLists.{cdol_of}
use Rattle.card_app.specs.Replies.{with_app}
use Rattle.card_app.specs.PageReplies.{CardReplyData, refused, decides}
use Rattle.card_cryptogram.specs.declared.phase.First.{First as FirstData}
use Rattle.card_cryptogram.specs.declared.phase.Phase.{Phase}
use Rattle.card_cryptogram.specs.declared.phase.Phase.TheVariants.{Idle, Directory, Selected, Started, Online, Closed, Done}

-- the sale that the terminal gave
abbrev pub sale_for : AppData → TerminalFields → Sale
sale_for a given = sale_of a.currency a.currency_two given

-- the cryptogram of a kind that is decided for; its issuer application data are those of the state behind the
-- decision
abbrev pub cryptogram_for : ℕ → AppData → AppState → Kind → Decision → TerminalFields → CardReplyData
cryptogram_for app a s kind decision given = decides app decision (body_of a.ac_format a.ac_key a.aip (changed s decision) kind given) 0x9000

abbrev pub first_kind_for : Bool → Kind → AppData → AppState → TerminalFields → Kind
first_kind_for card_blocked asked a s given = first_kind asked s card_blocked (sale_for a given).which (sale_for a given).amount

abbrev pub first_made : ℕ → AppData → AppState → Kind → TerminalFields → CardReplyData
first_made app a s kind given = cryptogram_for app a s kind (First kind (sale_for a given)) given

-- the first GENERATE AC, with data of the length that the first list wants
unfoldable pub first_for : Bool → ℕ → Kind → List ℕ → AppData → AppState → CardReplyData
first_for card_blocked app asked filled a s =
    if not (length filled == total_of (cdol_of a.cdol1)) then refused 0x6700
    else first_made app a s (first_kind_for card_blocked asked a s (first_given (cdol_of a.cdol1) filled)) (first_given (cdol_of a.cdol1) filled)

abbrev pub second_by : Bool → Kind → AppData → AppState → Option Auth → List ℕ → TerminalFields → Kind × How
second_by card_blocked asked a s sent code given =
    second_kind asked s card_blocked (sale_for a given).which (sale_for a given).amount (auth_of sent) code (has_issuer_auth a.aip)

abbrev pub second_made : ℕ → AppData → AppState → Kind × How → TerminalFields → CardReplyData
second_made app a s made given = cryptogram_for app a s made.0 (Second made.0 made.1 (sale_for a given)) given

-- the second GENERATE AC: a field that the second list names has its new value, any other that of the first one
unfoldable pub second_for : Bool → ℕ → FirstData → Option Auth → Kind → List ℕ → AppData → AppState → CardReplyData
second_for card_blocked app first sent asked filled a s =
    if not (length filled == total_of (cdol_of a.cdol2)) then refused 0x6700
    else if is_arqc asked then refused 0x6A86
    else second_made app a s
    (second_by card_blocked asked a s sent (code_given (cdol_of a.cdol2) filled) (given_from (cdol_of a.cdol2) filled first.given))
    (given_from (cdol_of a.cdol2) filled first.given)

abbrev pub generate_in : ImageData → CardState → Phase → Kind → List ℕ → CardReplyData
generate_in image state (Started app) asked filled = with_app image.apps state app (first_for state.blocked app asked filled)
generate_in image state (Online app first sent) asked filled = with_app image.apps state app (second_for state.blocked app first sent asked filled)
generate_in image state Idle asked filled = refused 0x6985
generate_in image state Directory asked filled = refused 0x6985
generate_in image state (Selected app) asked filled = refused 0x6985
generate_in image state (Closed app) asked filled = refused 0x6985
generate_in image state (Done app first) asked filled = refused 0x6985

abbrev pub generate_asked : ImageData → CardState → Phase → Option Kind → List ℕ → CardReplyData
generate_asked image state phase None filled = refused 0x6A86
generate_asked image state phase (Some asked) filled = generate_in image state phase asked filled

unfoldable pub generate_row : ImageData → CardState → Phase → CommandData → CardReplyData
generate_row image state phase c = generate_asked image state phase (kind_asked c.p1 c.p2) c.body

-- the issuer is authenticated so, and a card status update steers the card
abbrev pub judged : ℕ → AppData → Auth → CardReplyData
judged app a auth =
    decides app (Authenticated (is_authenticated auth) (steered_by a.tries auth)) [] (if is_authenticated auth then 0x9000 else 0x6300)

-- EXTERNAL AUTHENTICATE, once in a transaction
unfoldable pub authenticate_for : ℕ → FirstData → List ℕ → AppData → AppState → CardReplyData
authenticate_for app first sent_data a s =
    if not (has_issuer_auth a.aip) then refused 0x6985
    else if not (is_authentication_size (length sent_data)) then refused 0x6700
    else judged app a (authentication a.ac_key s.counter first.cryptogram sent_data)

abbrev pub authenticate_in : ImageData → CardState → Phase → List ℕ → CardReplyData
authenticate_in image state (Online app first None) sent_data = with_app image.apps state app (authenticate_for app first sent_data)
authenticate_in image state (Online app first (Some auth)) sent_data = refused 0x6985
authenticate_in image state Idle sent_data = refused 0x6985
authenticate_in image state Directory sent_data = refused 0x6985
authenticate_in image state (Selected app) sent_data = refused 0x6985
authenticate_in image state (Started app) sent_data = refused 0x6985
authenticate_in image state (Closed app) sent_data = refused 0x6985
authenticate_in image state (Done app first) sent_data = refused 0x6985

unfoldable pub authenticate_row : ImageData → CardState → Phase → CommandData → CardReplyData
authenticate_row image state phase c =
    if not (c.p1 == 0 && c.p2 == 0) then refused 0x6A86 else authenticate_in image state phase c.body
