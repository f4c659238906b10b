-- A PIN that was right is decided behind its try: row by row.
use Rattle.std.proofs.Common.{◌≡◌, ℕ, Bool, true, false, List, [], ◌∷◌, Option, Some, None, inl, inr, length, slice_get, refl, ap, arith}
use Rattle.std.specs.Prelude.{◌==◌, ◌&&◌, ◌-◌, ◌/◌, not, if◌then◌else◌, Contains}
use Rattle.std.proofs.lemmas.List.Elements.{All-nil, All-cons, All-contains, Contains-push_cases}
use Rattle.apdu_core.specs.Command.{CommandData, command_of}
use Rattle.card_files.specs.Control.{fci_bytes}
use Rattle.card_files.specs.Files.{opening_of}
use Rattle.card_files.specs.Views.{AppData, ImageData}
use Rattle.card_state.specs.Decisions.{Decided}
use Rattle.card_state.specs.Totals.{totals}
use Rattle.card_state.specs.declared.decision.Auth.{Auth}
use Rattle.card_state.specs.declared.decision.Decision.{Decision}
use Rattle.card_state.specs.declared.decision.Decision.TheVariants.{Started as TakesCounter, PinTry, PinRight, First, Authenticated, Script, Second}
use Rattle.card_state.specs.declared.decision.How.{How}
use Rattle.card_state.specs.declared.decision.Sale.{Sale}
use Rattle.card_state.specs.declared.decision.Scripted.{Scripted}
use Rattle.card_state.specs.declared.decision.Steered.{Steered}
use Rattle.card_state.specs.declared.state.AppState.{AppState}
use Rattle.card_state.specs.declared.state.CardState.{CardState}
use Rattle.card_state.specs.declared.state.LogRow.{LogRow}
use Rattle.emv_dict.specs.declared.ending.Kind.{Kind}
use Rattle.card_cryptogram.specs.declared.orders.ScriptCommand.{ScriptCommand}
use Rattle.card_cryptogram.specs.declared.phase.First.{First as FirstData}
use Rattle.card_cryptogram.specs.declared.phase.Phase.{Phase}
use Rattle.card_cryptogram.specs.declared.phase.Phase.TheVariants.{Idle, Directory, Selected, Started, Online, Closed, Done}
use Rattle.card_app.specs.Comparing.{compared}
use Rattle.card_app.specs.PageReplies.{CardReplyData, shows, decides}
use Rattle.card_app.specs.Answering.{options_in_phase, options_row, verify_in, verify_row, instruction_row, row_or_refusal, answer_in_phase, card_reply}
use Rattle.card_app.specs.Cryptograms.{first_for, second_for, generate_in, generate_asked, generate_row, authenticate_for, authenticate_in, authenticate_row}
use Rattle.card_app.specs.Files.{directory_or, selected_reply, record_or, row_or, is_file, record_for, select_row, record_row, data_object, data_for, data_row, shown_for}
use Rattle.card_app.specs.Options.{options_of}
use Rattle.card_app.specs.ScriptCommands.{carried_out, script_for, script_in_phase, script_row}
use Rattle.card_app.specs.Pin.{verify_of}
use Rattle.card_app.specs.Replies.{with_both}
use Rattle.card_app.specs.Session.{phase_of}
use Rattle.card_sessions.specs.Tried.{TriesBefore, TriesFirst}

abbrev tried : ℕ → Decided
tried app = record { app = app; decision = PinTry }

abbrev right : ℕ → ℕ → Decided
right app limit = record { app = app; decision = PinRight limit }

abbrev is_right_pin : Decision → Bool
is_right_pin TakesCounter = false
is_right_pin PinTry = false
is_right_pin (PinRight limit) = true
is_right_pin (First kind sale) = false
is_right_pin (Authenticated by steered) = false
is_right_pin (Script command) = false
is_right_pin (Second kind how sale) = false

abbrev is_right : Decided → Bool
is_right d = is_right_pin d.decision

-- a reply that decides a right PIN only behind its try
record IsTried (r : CardReplyData) : Type 0 where
  before : TriesBefore r.new

nothing : (body : List ℕ) (status : ℕ) → IsTried (shows body status)
nothing body status = record { before = λ app limit has. absurd (omega (arith, has.1)) }

one_other : (d : Decided) (app limit : ℕ) → is_right d ≡ false → Contains (d ∷ []) (right app limit) → true ≡ false
one_other d app limit other has =
    All-contains (λ x. is_right x ≡ false) (d ∷ []) (right app limit)
    (All-cons (λ x. is_right x ≡ false) d [] other (All-nil (λ x. is_right x ≡ false))) has

alone : (app : ℕ) (d : Decision) (body : List ℕ) (status : ℕ) → is_right (record { app = app; decision = d }) ≡ false
    → IsTried (decides app d body status)
alone app d body status other =
    record { before = λ n limit has. let never : true ≡ false = one_other (record { app = app; decision = d }) n limit other has in cc }

one_started : (app : ℕ) (body : List ℕ) (status : ℕ) → IsTried (decides app TakesCounter body status)
one_started app body status = alone app TakesCounter body status refl

one_first : (app : ℕ) (kind : Kind) (sale : Sale) (body : List ℕ) (status : ℕ) → IsTried (decides app (First kind sale) body status)
one_first app kind sale body status = alone app (First kind sale) body status refl

one_second : (app : ℕ) (kind : Kind) (how : How) (sale : Sale) (body : List ℕ) (status : ℕ) → IsTried (decides app (Second kind how sale) body status)
one_second app kind how sale body status = alone app (Second kind how sale) body status refl

one_authenticated : (app : ℕ) (is_right : Bool) (steered : Option Steered) (body : List ℕ) (status : ℕ)
    → IsTried (decides app (Authenticated is_right steered) body status)
one_authenticated app is_right steered body status = alone app (Authenticated is_right steered) body status refl

pair : (app limit n other : ℕ) → Contains (tried app ∷ right app limit ∷ []) (right n other)
    → tried app ∷ right app limit ∷ [] ≡ tried n ∷ right n other ∷ []
pair app limit n other has =
    elim (Contains-push_cases (tried app ∷ []) (right app limit) (right n other) has) [
      | inl first ↦ (let never : true ≡ false = one_other (tried app) n other refl first in cc)
      | inr same ↦ ap (λ (d : Decided). tried d.app ∷ d ∷ []) same
    ]

compares : (app limit tries : ℕ) (same : Bool) → IsTried (compared app limit tries same)
compares app limit tries true = record { before = λ n other has. pair app limit n other has }
compares app limit tries false =
    record { before = λ n other has. let never : true ≡ false = one_other (tried app) n other refl has in cc }

either : (test : Bool) (r s : CardReplyData) → IsTried r → IsTried s → IsTried (if test then r else s)
either true r s here there = here
either false r s here there = there

with_app_tried : (a : Option AppData) (s : Option AppState) (reply : AppData → AppState → CardReplyData) → ((a : AppData) (s : AppState) → IsTried (reply a s))
    → IsTried (with_both a s reply)
with_app_tried (Some a) (Some s) reply each = each a s
with_app_tried (Some a) None reply each = nothing [] 0x6985
with_app_tried None s reply each = nothing [] 0x6985

selected : (apps : List AppData) (state : CardState) (app : Option ℕ) → IsTried (selected_reply apps state app)
selected apps state None = nothing [] 0x6A82
selected apps state (Some app) =
    with_app_tried (slice_get apps app) (slice_get state.apps.items app) shown_for (λ a s. nothing (fci_bytes a) (if s.blocked then 0x6283 else 0x9000))

in_place : (sfi : Option ℕ) (other : CardReplyData) → IsTried other → IsTried (directory_or sfi other)
in_place None other tried = tried
in_place (Some sfi) other tried = nothing _ 0x9000

select : (image : ImageData) (state : CardState) (phase : Phase) (c : CommandData) → IsTried (select_row image state phase c)
unfolding select_row
select image state phase c = search (either, nothing, in_place, selected) depth 20

record_there : (is_there : Bool) (bytes : Option (List ℕ)) → IsTried (record_or is_there bytes)
record_there is_there (Some bytes) = nothing bytes 0x9000
record_there is_there None = nothing [] (if is_there then 0x6A83 else 0x6A82)

row_there : (row : Option LogRow) → IsTried (row_or row)
row_there (Some row) = nothing _ 0x9000
row_there None = nothing [] 0x6A83

record_read : (image : ImageData) (state : CardState) (app : Option ℕ) (c : CommandData) → IsTried (record_for image state app c)
record_read image state None c = nothing [] 0x6985
record_read image state (Some app) c = search (either, nothing, row_there, record_there) depth 20

read : (image : ImageData) (state : CardState) (phase : Phase) (c : CommandData) → IsTried (record_row image state phase c)
unfolding record_row
read image state phase c = search (either, nothing, record_there, record_read) depth 20

object : (p1 p2 : ℕ) (a : AppData) (s : AppState) → IsTried (data_object p1 p2 a s)
unfolding data_object
object p1 p2 a s = search (either, nothing) depth 20

data_given : (image : ImageData) (state : CardState) (app : Option ℕ) (c : CommandData) → IsTried (data_for image state app c)
data_given image state None c = nothing [] 0x6985
data_given image state (Some app) c =
    either (not (length c.body == 0)) _ _ (nothing [] 0x6700)
    (with_app_tried (slice_get image.apps app) (slice_get state.apps.items app) (data_object c.p1 c.p2) (object c.p1 c.p2))

get : (image : ImageData) (state : CardState) (phase : Phase) (c : CommandData) → IsTried (data_row image state phase c)
unfolding data_row
get image state phase c = data_given image state _ c

options_for : (blocked : Bool) (app : ℕ) (body : List ℕ) (a : AppData) (s : AppState) → IsTried (options_of blocked app body a s)
unfolding options_of
options_for blocked app body a s = search (either, nothing, one_started) depth 20

options_at : (image : ImageData) (state : CardState) (phase : Phase) (body : List ℕ) → IsTried (options_in_phase image state phase body)
options_at image state (Selected app) body = with_app_tried (slice_get image.apps app) (slice_get state.apps.items app) (options_of state.blocked app body) (options_for state.blocked app body)
options_at image state Idle body = nothing [] 0x6985
options_at image state Directory body = nothing [] 0x6985
options_at image state (Started app) body = nothing [] 0x6985
options_at image state (Online app first sent) body = nothing [] 0x6985
options_at image state (Closed app) body = nothing [] 0x6985
options_at image state (Done app first) body = nothing [] 0x6985

options : (image : ImageData) (state : CardState) (phase : Phase) (c : CommandData) → IsTried (options_row image state phase c)
unfolding options_row
options image state phase c = search (either, nothing, options_at) depth 20

verify_for : (app : ℕ) (block : List ℕ) (a : AppData) (s : AppState) → IsTried (verify_of app block a s)
unfolding verify_of
verify_for app block a s = search (either, nothing, compares) depth 20

verify_at : (image : ImageData) (state : CardState) (phase : Phase) (body : List ℕ) → IsTried (verify_in image state phase body)
verify_at image state (Started app) body = with_app_tried (slice_get image.apps app) (slice_get state.apps.items app) (verify_of app body) (verify_for app body)
verify_at image state Idle body = nothing [] 0x6985
verify_at image state Directory body = nothing [] 0x6985
verify_at image state (Selected app) body = nothing [] 0x6985
verify_at image state (Online app first sent) body = nothing [] 0x6985
verify_at image state (Closed app) body = nothing [] 0x6985
verify_at image state (Done app first) body = nothing [] 0x6985

verify : (image : ImageData) (state : CardState) (phase : Phase) (c : CommandData) → IsTried (verify_row image state phase c)
unfolding verify_row
verify image state phase c = search (either, nothing, verify_at) depth 20

first_at : (blocked : Bool) (app : ℕ) (asked : Kind) (filled : List ℕ) (a : AppData) (s : AppState) → IsTried (first_for blocked app asked filled a s)
unfolding first_for
first_at blocked app asked filled a s = search (either, nothing, one_first) depth 20

second_at : (blocked : Bool) (app : ℕ) (first : FirstData) (sent : Option Auth) (asked : Kind) (filled : List ℕ) (a : AppData) (s : AppState)
    → IsTried (second_for blocked app first sent asked filled a s)
unfolding second_for
second_at blocked app first sent asked filled a s = search (either, nothing, one_second) depth 20

generate_at : (image : ImageData) (state : CardState) (phase : Phase) (asked : Kind) (filled : List ℕ) → IsTried (generate_in image state phase asked filled)
generate_at image state (Started app) asked filled =
    with_app_tried (slice_get image.apps app) (slice_get state.apps.items app) (first_for state.blocked app asked filled) (first_at state.blocked app asked filled)
generate_at image state (Online app first sent) asked filled =
    with_app_tried (slice_get image.apps app) (slice_get state.apps.items app) (second_for state.blocked app first sent asked filled) (second_at state.blocked app first sent asked filled)
generate_at image state Idle asked filled = nothing [] 0x6985
generate_at image state Directory asked filled = nothing [] 0x6985
generate_at image state (Selected app) asked filled = nothing [] 0x6985
generate_at image state (Closed app) asked filled = nothing [] 0x6985
generate_at image state (Done app first) asked filled = nothing [] 0x6985

asked_for : (image : ImageData) (state : CardState) (phase : Phase) (asked : Option Kind) (filled : List ℕ) → IsTried (generate_asked image state phase asked filled)
asked_for image state phase None filled = nothing [] 0x6A86
asked_for image state phase (Some asked) filled = generate_at image state phase asked filled

generate : (image : ImageData) (state : CardState) (phase : Phase) (c : CommandData) → IsTried (generate_row image state phase c)
unfolding generate_row
generate image state phase c = asked_for image state phase _ c.body

authenticate_with : (app : ℕ) (first : FirstData) (sent : List ℕ) (a : AppData) (s : AppState) → IsTried (authenticate_for app first sent a s)
unfolding authenticate_for
authenticate_with app first sent a s = search (either, nothing, one_authenticated) depth 20

authenticate_at : (image : ImageData) (state : CardState) (phase : Phase) (sent : List ℕ) → IsTried (authenticate_in image state phase sent)
authenticate_at image state (Online app first None) sent = with_app_tried (slice_get image.apps app) (slice_get state.apps.items app) (authenticate_for app first sent) (authenticate_with app first sent)
authenticate_at image state (Online app first (Some auth)) sent = nothing [] 0x6985
authenticate_at image state Idle sent = nothing [] 0x6985
authenticate_at image state Directory sent = nothing [] 0x6985
authenticate_at image state (Selected app) sent = nothing [] 0x6985
authenticate_at image state (Started app) sent = nothing [] 0x6985
authenticate_at image state (Closed app) sent = nothing [] 0x6985
authenticate_at image state (Done app first) sent = nothing [] 0x6985

authenticate : (image : ImageData) (state : CardState) (phase : Phase) (c : CommandData) → IsTried (authenticate_row image state phase c)
unfolding authenticate_row
authenticate image state phase c = search (either, nothing, authenticate_at) depth 20

carried : (app : ℕ) (scripted : Option Scripted) → IsTried (carried_out app scripted)
carried app None = nothing [] 0x6985
carried app (Some scripted) = alone app (Script scripted) [] 0x9000 refl

script_with : (order : ScriptCommand) (app : ℕ) (first : FirstData) (c : CommandData) (a : AppData) (s : AppState) → IsTried (script_for order app first c a s)
unfolding script_for
script_with order app first c a s = search (either, nothing, carried) depth 20

script_at : (image : ImageData) (state : CardState) (phase : Phase) (order : ScriptCommand) (c : CommandData) → IsTried (script_in_phase image state phase order c)
script_at image state (Online app first sent) order c = with_app_tried (slice_get image.apps app) (slice_get state.apps.items app) (script_for order app first c) (script_with order app first c)
script_at image state (Done app first) order c = with_app_tried (slice_get image.apps app) (slice_get state.apps.items app) (script_for order app first c) (script_with order app first c)
script_at image state Idle order c = nothing [] 0x6985
script_at image state Directory order c = nothing [] 0x6985
script_at image state (Selected app) order c = nothing [] 0x6985
script_at image state (Started app) order c = nothing [] 0x6985
script_at image state (Closed app) order c = nothing [] 0x6985

script : (image : ImageData) (state : CardState) (phase : Phase) (order : Option ScriptCommand) (c : CommandData) → IsTried (script_row image state phase order c)
unfolding script_row
script image state phase None c = nothing [] 0x6A86
script image state phase (Some order) c = script_at image state phase order c

instruction : (image : ImageData) (state : CardState) (phase : Phase) (c : CommandData) → IsTried (instruction_row image state phase c)
unfolding instruction_row
instruction image state phase c = search (either, nothing, select, read, options, verify, get, generate, authenticate, script) depth 30

replied : (image : ImageData) (state : CardState) (phase : Phase) (c : Option CommandData) → IsTried (row_or_refusal image state phase c)
replied image state phase None = nothing [] 0x6700
replied image state phase (Some c) = search (either, instruction, nothing) depth 20

pub tries_first : (image : ImageData) → TriesFirst image
unfolding card_reply answer_in_phase
tries_first image ds session command =
    (replied image (totals (opening_of image) ds) (phase_of image session) (command_of command)).before
