-- What an issuer's host makes for a card, at that card: its issuer authentication data and its script commands (EMV 4.3
-- Book 2 sections 8.2 and 9, Book 3 sections 6.5, 10.9 and 10.10).
use Rattle.std.specs.Prelude.{◌≡◌, ℕ, ◌/◌, ◌%◌, ◌==◌, true, false, not, if◌then◌else◌, List, [], ◌++◌, map, flat_map, slice_get, slice_index, Option, Some, None, is_some}
use Rattle.std.specs.Int.{to_be_bytes, w16}
use Rattle.std.specs.Str.{bytes_eq}
use Rattle.auth_message.specs.Data.{RequestData}
use Rattle.card_cryptogram.specs.Asked.{has_issuer_auth}
use Rattle.card_cryptogram.specs.Authentication.{steered_by}
use Rattle.card_cryptogram.specs.Bodies.{cryptogram_of, iad_of}
use Rattle.card_cryptogram.specs.declared.fields.TerminalFields.{TerminalFields}
use Rattle.card_cryptogram.specs.declared.phase.First.{First}
use Rattle.card_cryptogram.specs.declared.phase.Phase.{Phase}
use Rattle.card_cryptogram.specs.declared.phase.Phase.TheVariants.{Idle, Directory, Selected, Started, Online, Closed, Done}
use Rattle.card_app.specs.Session.{phase_of}
use Rattle.card_files.specs.Files.{opening_of}
use Rattle.card_files.specs.Views.{AppData, ImageData}
use Rattle.card_keys.specs.Master.{master_key_of}
use Rattle.card_app.specs.PageReplies.{refused, decides, answer_said}
use Rattle.card_policy.specs.Policy.{is_declined_by_status, online_how}
use Rattle.card_state.specs.Change.{changed}
use Rattle.card_state.specs.Decisions.{blocks_app, blocks_whole, restores}
use Rattle.card_state.specs.Totals.{totals}
use Rattle.card_state.specs.declared.decision.Auth.{Auth}
use Rattle.card_state.specs.declared.decision.Auth.TheVariants as auth
use Rattle.card_state.specs.declared.decision.Decision.{Decision}
use Rattle.card_state.specs.declared.decision.Decision.TheVariants.{Authenticated, Script}
use Rattle.card_state.specs.declared.decision.How.TheVariants.{Authenticated as ByIssuer, Held}
use Rattle.card_state.specs.declared.decision.Scripted.{Scripted}
use Rattle.card_state.specs.declared.decision.Scripted.TheVariants as scripted
use Rattle.card_state.specs.declared.state.AppState.{AppState}
use Rattle.dialogue_laws.specs.Cards.{Now, answer_of, goes}
use Rattle.emv_dict.specs.declared.ending.Kind.{Kind}
use Rattle.issuer_host.specs.Account.{AccountData, IsAccount}
use Rattle.issuer_host.specs.Books.{Books}
use Rattle.issuer_host.specs.Code.{is_approved}
use Rattle.issuer_host.specs.Reply.{request_key, request_code, request_reply, script_keys}
use Rattle.issuer_host.specs.Response.{status_for}
use Rattle.issuer_host.specs.Scripts.{script_command_bytes, order_bytes, identifier_bytes}
use Rattle.issuer_host.specs.declared.account.Method.{Method}
use Rattle.issuer_host.specs.declared.account.Method.TheVariants.{One, Two}
use Rattle.issuer_host.specs.declared.code.Code.{Code}
use Rattle.issuer_host.specs.declared.keys.HostKeys.{HostKeys}
use Rattle.issuer_host.specs.declared.script.ScriptKeys.{ScriptKeys}
use Rattle.online_step.specs.Authenticate.{authenticate_command}
use Rattle.pin_block.specs.Block.{block_of}
use Rattle.script_run.specs.Script.{no_identifier, script_of}
use Rattle.script_words.specs.Script.{ScriptData, IsScript}
use Rattle.script_words.specs.Spelling.{IsWord}
use Rattle.script_words.specs.declared.script.Ordered.{Ordered}
use Rattle.script_words.specs.declared.script.Word.{Word}
use Rattle.script_words.specs.declared.script.Word.TheVariants as word

-- an application has the keys that the issuer derives for the account number of a request (EMV 4.3 Book 2 Annex A1.4)
pub record IsKeyed (keys : HostKeys) (f : RequestData) (a : AppData) : Type 0 where
  pub ac : a.ac_key ≡ master_key_of keys.ac (request_key f).pan (request_key f).sequence
  pub mac : a.mac_key ≡ master_key_of keys.mac (request_key f).pan (request_key f).sequence
  pub enc : a.enc_key ≡ master_key_of keys.enc (request_key f).pan (request_key f).sequence

-- a request says what the terminal gave an application for a cryptogram of a kind in a state, and what the card adds to it
pub record SaysGiven (f : RequestData) (a : AppData) (s : AppState) (kind : Kind) (given : TerminalFields) : Type 0 where
  pub amount : f.paid.t9f02 ≡ given.amount
  pub other : f.paid.t9f03 ≡ given.other
  pub country : f.paid.t9f1a ≡ given.country
  pub tvr : f.paid.t95 ≡ given.tvr
  pub currency : f.paid.t5f2a ≡ given.currency
  pub date : f.paid.t9a ≡ given.date
  pub trade : slice_index f.paid.t9c 0 ≡ given.trade
  pub number : f.paid.t9f37 ≡ given.number
  pub profile : f.paid.t82 ≡ a.aip
  pub counter : f.paid.t9f36 ≡ to_be_bytes w16 s.counter
  pub issuer_data : f.t9f10 ≡ iad_of kind s

-- the card is in the transaction of a request: an application with the request's keys stands at its counter, and the
-- first cryptogram is the request's
pub record IsInRequest (keys : HostKeys) (f : RequestData) (image : ImageData) (now : Now) (app : ℕ) (a : AppData) (s : AppState) (first : First) : Type 0 where
  pub own : slice_get image.apps app ≡ Some a
  pub there : slice_get (totals (opening_of image) now.kept).apps.items app ≡ Some s
  pub keyed : IsKeyed keys f a
  pub counter : s.counter ≡ (request_key f).counter
  pub cryptogram : first.cryptogram ≡ f.paid.t9f26

-- the application whose first cryptogram asked to go online, and that cryptogram
abbrev pub went_online : Phase → Option (ℕ × First)
went_online (Online app first sent) = Some (app, first)
went_online (Done app first) = Some (app, first)
went_online Idle = None
went_online Directory = None
went_online (Selected app) = None
went_online (Started app) = None
went_online (Closed app) = None

-- how an account's method with this decision authenticates the issuer to a card
abbrev pub authenticated_by : Method → ℕ → Code → Auth
authenticated_by One status code = auth.One
authenticated_by Two status code = auth.Two (status_for status code)

-- the card answers a command with 9000 alone and takes this decision, and then it is in the transaction still
pub record CarriesOut (keys : HostKeys) (f : RequestData) (image : ImageData) (now : Now) (app : ℕ) (a : AppData) (s : AppState) (first : First) (command : List ℕ) (decision : Decision) : Type 0 where
  pub answer : answer_of image now command ≡ answer_said (decides app decision [] 0x9000)
  pub stays : IsInRequest keys f image (goes image now command) app a (changed s decision) first
  pub phase : went_online (phase_of image (goes image now command).session) ≡ Some (app, first)

-- a new request of an account gets issuer authentication data exactly where 9F26 is the cryptogram that the card makes
-- of what the request says, and the card that is in its transaction finds them right: it answers EXTERNAL AUTHENTICATE
-- with 9000, and takes the status bytes, where the account's method has some
pub record AuthenticatesIssuer : Type 0 where
  pub given : (keys : HostKeys) (account : AccountData) (books : Books) (f : RequestData) (a : AppData) (s : AppState) (kind : Kind) (fields : TerminalFields)
      → IsKeyed keys f a → s.counter ≡ (request_key f).counter → SaysGiven f a s kind fields
      → is_some (request_reply keys (Some account) books f).auth ≡ bytes_eq (cryptogram_of a.ac_key a.aip s kind fields) f.paid.t9f26
  pub right : (keys : HostKeys) (account : AccountData) (books : Books) (f : RequestData) (image : ImageData) (now : Now) (app : ℕ) (a : AppData) (s : AppState) (first : First) (response : List ℕ)
      → IsInRequest keys f image now app a s first → phase_of image now.session ≡ Online app first None → has_issuer_auth a.aip ≡ true
      → (request_reply keys (Some account) books f).auth ≡ Some response
      → CarriesOut keys f image now app a s first (authenticate_command response)
      (Authenticated true (steered_by a.tries (authenticated_by account.arpc account.status (request_code keys account books f))))

-- by method 2 the card declines unless the code is 00, resets its totals with it, and does with every code what the
-- account's status asks of it: 64 blocks the application, 32 the card, and 16 restores so many PIN tries
pub record HeedsStatus (status : ℕ) (code : Code) (tries : ℕ) : Type 0 where
  pub declines : is_declined_by_status (authenticated_by Two status code) ≡ not (is_approved code)
  pub resets : online_how (authenticated_by Two status code) ≡ (if is_approved code then ByIssuer else Held)
  pub application : blocks_app (record { status = status_for status code; limit = tries }) ≡ (status / 64 % 2 == 1)
  pub card : blocks_whole (record { status = status_for status code; limit = tries }) ≡ (status / 32 % 2 == 1)
  pub restored : restores (record { status = status_for status code; limit = tries }) ≡ (status / 16 % 2 == 1)

-- so of every account
abbrev pub StatusIsHeeded : Type 0
StatusIsHeeded = (account : AccountData) (code : Code) (tries : ℕ) → IsAccount account → HeedsStatus account.status code tries

-- what a word orders at an application with so many PIN tries
abbrev pub ordered_by : ℕ → Word → Scripted
ordered_by tries word.Block = scripted.Block
ordered_by tries word.Unblock = scripted.Unblock
ordered_by tries word.CardBlock = scripted.CardBlock
ordered_by tries word.PinUnblock = scripted.PinUnblock tries
ordered_by tries (word.Pin digits) = scripted.PinChange (block_of 2 digits) tries
ordered_by tries (word.Count limit) = scripted.Count limit
ordered_by tries (word.Amount limit) = scripted.Sum limit

-- the identifier of a script as a terminal reports it
abbrev pub identifier_read : Option (List ℕ) → List ℕ
identifier_read None = no_identifier
identifier_read (Some id) = id

-- the card that is in a request's transaction carries out each command of the scripts that the host makes for it, also
-- behind the second cryptogram, and refuses one whose code is made wrong; from a script's template a terminal reads just
-- these commands
pub record CarriesOutScripts : Type 0 where
  pub carried : (keys : HostKeys) (f : RequestData) (image : ImageData) (now : Now) (app : ℕ) (a : AppData) (s : AppState) (first : First) (order : Ordered)
      → IsInRequest keys f image now app a s first → went_online (phase_of image now.session) ≡ Some (app, first) → IsWord order.word → order.bad ≡ false
      → CarriesOut keys f image now app a s first (script_command_bytes (script_keys keys f) order) (Script (ordered_by a.tries order.word))
  pub refused_code : (keys : HostKeys) (f : RequestData) (image : ImageData) (now : Now) (app : ℕ) (a : AppData) (s : AppState) (first : First) (order : Ordered)
      → IsInRequest keys f image now app a s first → went_online (phase_of image now.session) ≡ Some (app, first) → order.bad ≡ true
      → answer_of image now (script_command_bytes (script_keys keys f) order) ≡ answer_said (refused 0x6988)
  pub read : (keys : ScriptKeys) (script : ScriptData) → IsScript script
      → script_of (identifier_bytes script.id ++ flat_map (order_bytes keys) script.commands)
      ≡ Some (record { identifier = identifier_read script.id; commands = map (script_command_bytes keys) script.commands })
