-- The issuer authentication data that a host makes are right at the card, which heeds their status bytes.
use Rattle.std.proofs.Common.{◌≡◌, ℕ, ◌+◌, ◌/◌, ◌%◌, ◌==◌, ◌<◌, nat_le, not, Bool, true, false, if◌then◌else◌, List, [], ◌∷◌, ◌++◌, length, take, drop, slice_get, Some, None, is_some, refl, ap, subst, ◌∙◌, arith, length-append}
use Rattle.std.specs.Str.{bytes_eq}
use Rattle.std.proofs.lemmas.Bool.{le-leb, and_from}
use Rattle.std.proofs.lemmas.List.{take_at, drop_at, take_all, drop_all}
use Rattle.std.proofs.lemmas.Slice.Eq.{bytes_eq-Decides}
use Rattle.app_cryptogram.specs.Cryptograms.{ac_of, arpc_of, arpc_two_of}
use Rattle.app_cryptogram.specs.declared.fields.AcFields.{AcFields}
use Rattle.auth_message.specs.Data.{RequestData}
use Rattle.card_app.specs.Answering.{instruction_answer, instruction_row}
use Rattle.card_app.specs.Cryptograms.{authenticate_row, authenticate_for}
use Rattle.card_app.specs.Session.{next_phase}
use Rattle.card_cryptogram.specs.Asked.{has_issuer_auth}
use Rattle.card_cryptogram.specs.Authentication.{authentication, authentication_in, is_authenticated, is_authentication_size, steered_by}
use Rattle.card_cryptogram.specs.Bodies.{cryptogram_of}
use Rattle.card_cryptogram.specs.Fields.{covered}
use Rattle.card_cryptogram.specs.declared.fields.TerminalFields.{TerminalFields}
use Rattle.card_cryptogram.specs.declared.phase.First.{First}
use Rattle.card_cryptogram.specs.declared.phase.Phase.{Phase}
use Rattle.card_cryptogram.specs.declared.phase.Phase.TheVariants.{Online}
use Rattle.card_files.specs.Views.{AppData, ImageData}
use Rattle.card_keys.specs.Master.{master_key_of}
use Rattle.card_keys.specs.Session.{session_ac_of}
use Rattle.card_app.specs.PageReplies.{decides}
use Rattle.card_policy.specs.Policy.{is_declined_by_status, online_how}
use Rattle.card_state.specs.Decisions.{blocks_app, blocks_whole, restores}
use Rattle.card_state.specs.declared.decision.Auth.{Auth}
use Rattle.card_state.specs.declared.decision.Auth.TheVariants as auth
use Rattle.card_state.specs.declared.decision.Decision.TheVariants.{Authenticated}
use Rattle.card_state.specs.declared.decision.How.TheVariants.{Authenticated as ByIssuer, Held}
use Rattle.card_state.specs.declared.state.AppState.{AppState}
use Rattle.card_state.specs.declared.state.CardState.{CardState}
use Rattle.dialogue_laws.specs.Cards.{Now}
use Rattle.dialogue_laws.specs.IssuerAtCard.{IsKeyed, SaysGiven, IsInRequest, CarriesOut, authenticated_by, went_online, AuthenticatesIssuer, StatusIsHeeded}
use Rattle.dialogue_laws.proofs.Answers.{state_at, phase_at, command_again}
use Rattle.dialogue_laws.proofs.InRequest.{carries_out}
use Rattle.dialogue_laws.proofs.Scripting.{authenticating}
use Rattle.emv_dict.specs.declared.ending.Kind.{Kind}
use Rattle.issuer_host.proofs.MadeSizes.{length-arpc, length-arpc_two}
use Rattle.issuer_host.proofs.Responses.{two_bytes, four_bytes, status_small, response_least, response_most}
use Rattle.issuer_host.specs.Account.{AccountData}
use Rattle.issuer_host.specs.Books.{Books}
use Rattle.issuer_host.specs.Code.{code_bytes, is_approved}
use Rattle.issuer_host.specs.Reply.{ReplySaid, request_key, request_code, request_is_genuine, online_reply, code_alone, keyed_response, ac_fields_of}
use Rattle.issuer_host.specs.Response.{status_for, response_by}
use Rattle.issuer_host.specs.declared.account.Method.{Method}
use Rattle.issuer_host.specs.declared.account.Method.TheVariants.{One, Two}
use Rattle.issuer_host.specs.declared.code.Code.{Code}
use Rattle.issuer_host.specs.declared.code.Code.TheVariants.{Declined}
use Rattle.issuer_host.specs.declared.keys.HostKeys.{HostKeys}
use Rattle.online_step.specs.Authenticate.{authenticate_command}

-- ---- the card's test

right_one : (session first front behind : List ℕ) → length front ≡ 8 → length behind ≡ 2 → front ≡ arpc_of session first behind → authentication_in session first (front ++ behind) ≡ auth.One
right_one session first front behind eight two is =
    let ten : length (front ++ behind) ≡ 10 = omega (arith, length-append front behind) in
    let right : bytes_eq front (arpc_of session first behind) ≡ true = (bytes_eq-Decides front (arpc_of session first behind)).1 is in
    rw (ten, take_at front behind 8 eight, drop_at front behind 8 eight, right) refl

right_two : (session first front status : List ℕ) → length front ≡ 4 → length status ≡ 4 → front ≡ arpc_two_of session first status [] → authentication_in session first (front ++ status) ≡ auth.Two status
right_two session first front status four four_more is =
    let eight : length (front ++ status) ≡ 8 = omega (arith, length-append front status) in
    let whole : take 4 status ≡ status = take_all 4 status (omega (arith, four_more)) in
    let none : drop 8 (front ++ status) ≡ [] = drop_all 8 (front ++ status) (omega (arith, eight)) in
    let right : bytes_eq front (arpc_two_of session first status []) ≡ true = (bytes_eq-Decides front (arpc_two_of session first status [])).1 is in
    rw (eight, take_at front status 4 four, drop_at front status 4 four, whole, none, right) refl

found_right : (method : Method) (status : ℕ) (session first : List ℕ) (code : Code) → authentication_in session first (response_by method status session first code) ≡ authenticated_by method status code
found_right One status session first code =
    right_one session first (arpc_of session first (code_bytes code)) (code_bytes code) (length-arpc session first (code_bytes code)) (two_bytes code) refl
found_right Two status session first code =
    right_two session first (arpc_two_of session first (status_for status code) []) (status_for status code) (length-arpc_two session first (status_for status code) []) (four_bytes status code) refl

is_right : (method : Method) (status : ℕ) (code : Code) → is_authenticated (authenticated_by method status code) ≡ true
is_right One status code = refl
is_right Two status code = refl

-- ---- the card's answer

answer_in : (image : ImageData) (state : CardState) (app : ℕ) (first : First) (value : List ℕ) (a : AppData) (s : AppState) (how : Auth) → slice_get image.apps app ≡ Some a → slice_get state.apps.items app ≡ Some s
    → has_issuer_auth a.aip ≡ true → is_authentication_size (length value) ≡ true → authentication a.ac_key s.counter first.cryptogram value ≡ how → is_authenticated how ≡ true
    → instruction_answer image state (Online app first None) (authenticating value) ≡ decides app (Authenticated true (steered_by a.tries how)) [] 0x9000
unfolding instruction_row authenticate_row authenticate_for
answer_in image state app first value a s how own there has sized is right = rw (own, there, has, sized, is, right) refl

stays_online : (image : ImageData) (app : ℕ) (first : First) (value : List ℕ) → went_online (next_phase image (Online app first None) (authenticating value) [] 0x9000) ≡ Some (app, first)
unfolding next_phase
stays_online image app first value = refl

module _ (keys : HostKeys) (account : AccountData) (f : RequestData) (image : ImageData) (now : Now) (app : ℕ) (a : AppData) (s : AppState) (first : First) (code : Code) where
  response_right : IsInRequest keys f image now app a s first → authentication a.ac_key s.counter first.cryptogram (keyed_response keys account f code) ≡ authenticated_by account.arpc account.status code
  unfolding authentication
  response_right at =
      rw (at.keyed.ac, at.counter, at.cryptogram)
      (found_right account.arpc account.status (session_ac_of (master_key_of keys.ac (request_key f).pan (request_key f).sequence) (request_key f).counter) f.paid.t9f26 code)

  response_sized : is_authentication_size (length (keyed_response keys account f code)) ≡ true
  response_sized =
      let session : List ℕ = session_ac_of (master_key_of keys.ac (request_key f).pan (request_key f).sequence) (request_key f).counter in
      let value : List ℕ = keyed_response keys account f code in
      and_from (nat_le 8 (length value)) (nat_le (length value) 16)
      (le-leb 8 (length value) (response_least account.arpc account.status session f.paid.t9f26 code))
      (le-leb (length value) 16 (response_most account.arpc account.status session f.paid.t9f26 code))

  response_taken : IsInRequest keys f image now app a s first → phase_at image now ≡ Online app first None → has_issuer_auth a.aip ≡ true
      → CarriesOut keys f image now app a s first (authenticate_command (keyed_response keys account f code)) (Authenticated true (steered_by a.tries (authenticated_by account.arpc account.status code)))
  unfolding authenticate_command
  response_taken at online has =
      let value : List ℕ = keyed_response keys account f code in
      let how : Auth = authenticated_by account.arpc account.status code in
      let said = answer_in image (state_at image now) app first value a s how at.own at.there has response_sized (response_right at) (is_right account.arpc account.status code) in
      carries_out keys f image now app a s first (authenticating value) _ (Authenticated true (steered_by a.tries how)) at (command_again (authenticating value))
      (ap (λ (phase : Phase). instruction_answer image (state_at image now) phase (authenticating value)) online ∙ said) refl
      (ap (λ (phase : Phase). went_online (next_phase image phase (authenticating value) [] 0x9000)) online ∙ stays_online image app first value)

-- ---- when there are some

-- what is said where the request is genuine, and where it isn't
abbrev said : HostKeys → AccountData → Books → RequestData → Bool → ReplySaid
said keys account books f genuine = (if genuine then online_reply keys account books f (request_code keys account books f) else code_alone Declined)

said_where : (keys : HostKeys) (account : AccountData) (books : Books) (f : RequestData) (genuine : Bool) → is_some (said keys account books f genuine).auth ≡ genuine
said_where keys account books f true = refl
said_where keys account books f false = refl

said_is : (keys : HostKeys) (account : AccountData) (books : Books) (f : RequestData) (genuine : Bool) (response : List ℕ) → (said keys account books f genuine).auth ≡ Some response
    → keyed_response keys account f (request_code keys account books f) ≡ response
said_is keys account books f true response is = cc
said_is keys account books f false response is = absurd (cc is)

fields_said : (f : RequestData) (a : AppData) (s : AppState) (kind : Kind) (fields : TerminalFields) → SaysGiven f a s kind fields → ac_fields_of f.paid ≡ covered fields a.aip s.counter
unfolding covered
fields_said f a s kind fields says = λ i. record {
  amount = says.amount i;
  other = says.other i;
  country = says.country i;
  tvr = says.tvr i;
  currency = says.currency i;
  date = says.date i;
  trade = says.trade i;
  number = says.number i;
  aip = says.profile i;
  counter = says.counter i;
}

-- the host's test of a cryptogram is whether it is the one that the card makes
genuine_is : (keys : HostKeys) (f : RequestData) (a : AppData) (s : AppState) (kind : Kind) (fields : TerminalFields) → IsKeyed keys f a → s.counter ≡ (request_key f).counter
    → SaysGiven f a s kind fields → request_is_genuine keys f ≡ bytes_eq (cryptogram_of a.ac_key a.aip s kind fields) f.paid.t9f26
unfolding cryptogram_of
genuine_is keys f a s kind fields keyed counter says =
    let session : session_ac_of (master_key_of keys.ac (request_key f).pan (request_key f).sequence) (request_key f).counter ≡ session_ac_of a.ac_key s.counter = rw (keyed.ac, counter) refl in
    ap (λ (key : List ℕ). bytes_eq (ac_of key (ac_fields_of f.paid) f.t9f10) f.paid.t9f26) session
    ∙ ap (λ (all : AcFields). bytes_eq (ac_of (session_ac_of a.ac_key s.counter) all f.t9f10) f.paid.t9f26) (fields_said f a s kind fields says)
    ∙ ap (λ (iad : List ℕ). bytes_eq (ac_of (session_ac_of a.ac_key s.counter) (covered fields a.aip s.counter) iad) f.paid.t9f26) says.issuer_data

pub authenticates_issuer : AuthenticatesIssuer
authenticates_issuer = record {
  given = λ keys account books f a s kind fields keyed counter says.
      said_where keys account books f (request_is_genuine keys f) ∙ genuine_is keys f a s kind fields keyed counter says;
  right = λ keys account books f image now app a s first response at online has is.
      subst (λ (value : List ℕ). CarriesOut keys f image now app a s first (authenticate_command value) (Authenticated true (steered_by a.tries (authenticated_by account.arpc account.status (request_code keys account books f)))))
      (said_is keys account books f (request_is_genuine keys f) response is)
      (response_taken keys account f image now app a s first (request_code keys account books f) at online has);
}

-- ---- the status bytes

-- those of a decision
abbrev bytes_by : ℕ → Bool → List ℕ
bytes_by status approved = (if approved then 0x80 ∷ (0x80 + status) ∷ 0 ∷ 0 ∷ [] else 0 ∷ status ∷ 0 ∷ 0 ∷ [])

declined : (status : ℕ) (approved : Bool) → is_declined_by_status (auth.Two (bytes_by status approved)) ≡ not approved
declined status true = refl
declined status false = refl

rests : (status : ℕ) (approved : Bool) → status < 128 → online_how (auth.Two (bytes_by status approved)) ≡ (if approved then ByIssuer else Held)
rests status true small = let high : (0x80 + status) / 128 ≡ 1 = omega arith in rw high refl
rests status false small = let low : status / 128 ≡ 0 = omega arith in rw low refl

application_asked : (status tries : ℕ) (approved : Bool) → blocks_app (record { status = bytes_by status approved; limit = tries }) ≡ (status / 64 % 2 == 1)
application_asked status tries true = let same : (0x80 + status) / 64 % 2 ≡ status / 64 % 2 = omega arith in rw same refl
application_asked status tries false = refl

card_asked : (status tries : ℕ) (approved : Bool) → blocks_whole (record { status = bytes_by status approved; limit = tries }) ≡ (status / 32 % 2 == 1)
card_asked status tries true = let same : (0x80 + status) / 32 % 2 ≡ status / 32 % 2 = omega arith in rw same refl
card_asked status tries false = refl

tries_asked : (status tries : ℕ) (approved : Bool) → restores (record { status = bytes_by status approved; limit = tries }) ≡ (status / 16 % 2 == 1)
tries_asked status tries true = let same : (0x80 + status) / 16 % 2 ≡ status / 16 % 2 = omega arith in rw same refl
tries_asked status tries false = refl

pub status_is_heeded : StatusIsHeeded
status_is_heeded = λ account code tries is. record {
  declines = declined account.status (is_approved code);
  resets = rests account.status (is_approved code) (status_small account.status is.status_bits);
  application = application_asked account.status tries (is_approved code);
  card = card_asked account.status tries (is_approved code);
  restored = tries_asked account.status tries (is_approved code);
}
