-- What a card decides for a command: which commands decide nothing, which need a transaction that has begun, and which
-- begin one.
use Rattle.std.proofs.Common.{◌≡◌, ℕ, ◌+◌, ◌*◌, ◌/◌, ◌%◌, ◌≤◌, ◌&&◌, Bool, true, false, if◌then◌else◌, List, [], ◌++◌, slice_get, Option, Some, None, refl, sym, ap, ◌∙◌, subst, arith}
use Rattle.std.specs.Prelude.{◌==◌, option_map}
use Rattle.std.proofs.lemmas.Bool.{eqb-true}
use Rattle.app_select.specs.Said.{select_command}
use Rattle.apdu_core.specs.Command.{CommandData, command_of, tail_of, tail_bytes}
use Rattle.apdu_core.specs.Response.{response_of, response_bytes}
use Rattle.card_app.specs.Answering.{instruction_row, instruction_answer, row_or_refusal, answer_in_phase, card_reply, card_answer, options_row}
use Rattle.card_app.specs.Cryptograms.{generate_row, generate_asked}
use Rattle.card_app.specs.Files.{select_row, selected_reply, shown_for, is_behind_directory, app_reply, directory_or, data_row, data_for, data_object}
use Rattle.card_app.specs.Options.{options_of}
use Rattle.card_app.specs.Replies.{with_both}
use Rattle.card_app.specs.Selection.{app_found, directory_asked}
use Rattle.card_app.specs.Session.{Exchange, phase_of}
use Rattle.card_cryptogram.specs.Asked.{is_class, kind_asked}
use Rattle.card_cryptogram.specs.Phases.{current}
use Rattle.card_cryptogram.specs.declared.phase.Phase.{Phase}
use Rattle.card_cryptogram.specs.declared.phase.Phase.TheVariants.{Idle, Directory, Selected, Started, Online, Closed, Done}
use Rattle.card_files.specs.Files.{opening_of}
use Rattle.card_files.specs.Views.{AppData, ImageData}
use Rattle.card_app.specs.PageReplies.{CardReplyData, refused, decides}
use Rattle.card_state.specs.Decisions.{Decided}
use Rattle.card_state.specs.Totals.{totals}
use Rattle.card_state.specs.declared.decision.Decision.TheVariants.{Started as TakesCounter}
use Rattle.card_state.specs.declared.state.AppState.{AppState}
use Rattle.card_state.specs.declared.state.CardState.{CardState}
use Rattle.emv_dict.specs.declared.ending.Kind.{Kind}
use Rattle.risk_mgmt.specs.Counters.{get_data}
use Rattle.txn_replay.specs.Changes.{is_good, is_generate, app_counter}
use Rattle.txn_replay.proofs.CardLaws.CountersGrow.{counter_raised}

-- Commands that decide nothing.
if_new : (b : Bool) (x y : CardReplyData) → x.new ≡ [] → y.new ≡ [] → (if b then x else y).new ≡ []
if_new true x y first second = first
if_new false x y first second = second

both_new : (a : Option AppData) (s : Option AppState) (reply : AppData → AppState → CardReplyData) → ((a : AppData) (s : AppState) → (reply a s).new ≡ [])
    → (with_both a s reply).new ≡ []
both_new (Some a) (Some s) reply none = none a s
both_new (Some a) None reply none = refl
both_new None s reply none = refl

select_new : (image : ImageData) (state : CardState) (phase : Phase) (c : CommandData) → (select_row image state phase c).new ≡ []
unfolding select_row
select_new image state phase c =
    let none : (directory_or (directory_asked image c.p2 c.body) (app_reply image state phase c)).new ≡ [] =
    of_directory (directory_asked image c.p2 c.body) (of_app (app_found image.apps phase c.p2 c.body)) in
    search (if_new, none)
  where
    of_app : (o : Option ℕ) → (selected_reply image.apps state o).new ≡ []
    of_app None = refl
    of_app (Some app) = both_new (slice_get image.apps app) (slice_get state.apps.items app) shown_for (λ a s. refl)

    of_directory : (o : Option ℕ) → (selected_reply image.apps state (app_found image.apps phase c.p2 c.body)).new ≡ [] → (directory_or o (app_reply image state phase c)).new ≡ []
    of_directory (Some sfi) none = refl
    of_directory None none =
        if_new (is_behind_directory phase c.p2) (refused 0x6A82) (selected_reply image.apps state (app_found image.apps phase c.p2 c.body)) refl none

object_new : (p1 p2 : ℕ) (a : AppData) (s : AppState) → (data_object p1 p2 a s).new ≡ []
unfolding data_object
object_new p1 p2 a s = search if_new

data_new : (image : ImageData) (state : CardState) (phase : Phase) (c : CommandData) → (data_row image state phase c).new ≡ []
unfolding data_row
data_new image state phase c = of_app (current phase)
  where
    of_app : (o : Option ℕ) → (data_for image state o c).new ≡ []
    of_app None = refl
    of_app (Some app) = if_new _ _ _ refl (both_new (slice_get image.apps app) (slice_get state.apps.items app) (data_object c.p1 c.p2) (object_new c.p1 c.p2))

-- whatever the card has decided, and wherever it is in its session
abbrev pub Idles : List ℕ → Type 0
Idles command = (image : ImageData) (ds : List Decided) (session : List Exchange) → (card_answer image ds session command).new ≡ []

pub select_idles : (name : List ℕ) → Idles (select_command 0 name)
unfolding card_reply answer_in_phase command_of instruction_row
select_idles name image ds session = by_tail (tail_of (tail_bytes name (Some 0)))
  where
    state : CardState
    state = totals (opening_of image) ds

    by_tail : (o : Option (List ℕ × Option ℕ))
        → (row_or_refusal image (totals (opening_of image) ds) (phase_of image session)
        (option_map (λ t. record { class = 0; ins = 0xA4; p1 = 4; p2 = 0; body = t.0; expects = t.1 }) o)).new ≡ []
    by_tail None = refl
    by_tail (Some t) =
        select_new image (totals (opening_of image) ds) (phase_of image session)
        (record { class = 0; ins = 0xA4; p1 = 4; p2 = 0; body = t.0; expects = t.1 })

pub data_idles : (tag : ℕ) → Idles (get_data tag)
unfolding card_reply answer_in_phase command_of instruction_row get_data
data_idles tag image ds session =
    data_new image (totals (opening_of image) ds) (phase_of image session)
    (record { class = 0x80; ins = 0xCA; p1 = tag / 256; p2 = tag % 256; body = []; expects = Some 0 })

-- Neither is a GENERATE AC.
pub select_plain : (name : List ℕ) → is_generate (command_of (select_command 0 name)) ≡ false
unfolding command_of
select_plain name = by_tail (tail_of (tail_bytes name (Some 0)))
  where
    by_tail : (o : Option (List ℕ × Option ℕ))
        → is_generate (option_map (λ t. record { class = 0; ins = 0xA4; p1 = 4; p2 = 0; body = t.0; expects = t.1 }) o) ≡ false
    by_tail None = refl
    by_tail (Some t) = refl

pub data_plain : (tag : ℕ) → is_generate (command_of (get_data tag)) ≡ false
unfolding command_of get_data
data_plain tag = refl

-- A refusal isn't the status 9000.
read_back : (status : ℕ) → response_of (response_bytes [] status) ≡ Some (record { body = []; status = status })
unfolding response_of
read_back status = let same : status / 256 * 256 + status % 256 ≡ status = omega arith in ap (λ n. Some (record { body = []; status = n })) same

abbrev pub IsGood : CardReplyData → Type 0
IsGood reply = is_good (response_of (response_bytes reply.body reply.status)) ≡ true

pub refused_bad : (status : ℕ) → (status ≡ 0x9000 → ⊥) → IsGood (refused status) → ⊥
refused_bad status other good = other (eqb-true status 0x9000 (ap is_good (sym (read_back status)) ∙ good))

-- A test of another instruction is passed over.
skip : {A : Type 0} (b : Bool) (x y : A) → (if b && false then x else y) ≡ y
skip true x y = refl
skip false x y = refl

module _ (image : ImageData) (state : CardState) where
  pub generate_is : (phase : Phase) (c : CommandData) → c.class ≡ 0x80 → c.ins ≡ 0xAE → instruction_answer image state phase c ≡ generate_row image state phase c
  unfolding instruction_row
  generate_is phase c class ins = rw (class, ins) refl

  options_is : (phase : Phase) (c : CommandData) → c.class ≡ 0x80 → c.ins ≡ 0xA8 → instruction_answer image state phase c ≡ options_row image state phase c
  unfolding instruction_row
  options_is phase c class ins = rw (class, ins) refl

  unknown_is : (phase : Phase) (c : CommandData) → (c.class == 0x80) ≡ false → c.ins ≡ 0xA8 → instruction_row image state phase c ≡ refused 0x6D00
  unfolding instruction_row
  unknown_is phase c class ins = rw (ins, class) (simp skip refl)

  -- GENERATE AC of an application that is only selected
  generate_bad : (app : ℕ) (c : CommandData) → IsGood (generate_row image state (Selected app) c) → ⊥
  unfolding generate_row
  generate_bad app c good = by_kind (kind_asked c.p1 c.p2) good
    where
      by_kind : (o : Option Kind) → IsGood (generate_asked image state (Selected app) o c.body) → ⊥
      by_kind None good = refused_bad 0x6A86 (λ e. omega arith) good
      by_kind (Some kind) good = refused_bad 0x6985 (λ e. omega arith) good

-- the application whose transaction has begun
abbrev pub open_app : Phase → Option ℕ
open_app Idle = None
open_app Directory = None
open_app (Selected app) = None
open_app (Started app) = Some app
open_app (Online app first sent) = Some app
open_app (Closed app) = Some app
open_app (Done app first) = Some app

-- GENERATE AC is answered 9000 only once the selected application has begun a transaction
pub answered_open : (image : ImageData) (state : CardState) (phase : Phase) (c : CommandData) → c.class ≡ 0x80 → c.ins ≡ 0xAE
    → IsGood (instruction_answer image state phase c) → (app : ℕ) → current phase ≡ Some app → open_app phase ≡ Some app
answered_open image state Idle c class ins good app here = here
answered_open image state Directory c class ins good app here = here
answered_open image state (Selected other) c class ins good app here =
    absurd (generate_bad image state other c (subst (λ (r : CardReplyData). IsGood r) (generate_is image state (Selected other) c class ins) good))
answered_open image state (Started other) c class ins good app here = here
answered_open image state (Online other first sent) c class ins good app here = here
answered_open image state (Closed other) c class ins good app here = here
answered_open image state (Done other first) c class ins good app here = here

-- GET PROCESSING OPTIONS that is answered 9000 takes a transaction counter.
module _ (image : ImageData) (state : CardState) (ds : List Decided) (app : ℕ) where
  abbrev pub Raises : CardReplyData → Type 0
  Raises reply = IsGood reply → app_counter image ds app + 1 ≤ app_counter image (ds ++ reply.new) app

  refuses : (status : ℕ) → (status ≡ 0x9000 → ⊥) → Raises (refused status)
  refuses status other good = absurd (refused_bad status other good)

  if_raises : (b : Bool) (x y : CardReplyData) → Raises x → Raises y → Raises (if b then x else y)
  if_raises true x y first second = first
  if_raises false x y first second = second

  options_raise : (blocked : Bool) (body : List ℕ) (a : AppData) (s : AppState) → slice_get image.apps app ≡ Some a → Raises (options_of blocked app body a s)
  unfolding options_of
  options_raise blocked body a s there =
      let size : Raises (refused 0x6700) = refuses 0x6700 (λ e. omega arith) in
      let not_now : Raises (refused 0x6985) = refuses 0x6985 (λ e. omega arith) in
      let starts : (given : List ℕ) → Raises (decides app TakesCounter given 0x9000) = (λ given good. counter_raised image ds app a there) in
      search (if_raises, size, not_now, starts)

  row_raises : (c : CommandData) → Raises (options_row image state (Selected app) c)
  unfolding options_row
  row_raises c = if_raises _ _ _ (refuses 0x6A86 (λ e. omega arith)) (by_app (slice_get image.apps app) (slice_get state.apps.items app) refl)
    where
      by_app : (a : Option AppData) (s : Option AppState) → slice_get image.apps app ≡ a → Raises (with_both a s (options_of state.blocked app c.body))
      by_app (Some a) (Some s) there = options_raise state.blocked c.body a s there
      by_app (Some a) None there = refuses 0x6985 (λ e. omega arith)
      by_app None s there = refuses 0x6985 (λ e. omega arith)

  -- in whatever class it comes
  pub started_raises : (c : CommandData) → c.ins ≡ 0xA8 → Raises (instruction_answer image state (Selected app) c)
  started_raises c ins = by_class (c.class == 0x80) refl
    where
      by_known : (b : Bool) → (c.class == 0x80) ≡ false → Raises (if b then instruction_row image state (Selected app) c else refused 0x6E00)
      by_known true other =
          subst (λ (r : CardReplyData). Raises r) (sym (unknown_is image state (Selected app) c other ins)) (refuses 0x6D00 (λ e. omega arith))
      by_known false other = refuses 0x6E00 (λ e. omega arith)

      by_class : (b : Bool) → (c.class == 0x80) ≡ b → Raises (instruction_answer image state (Selected app) c)
      by_class true is =
          subst (λ (r : CardReplyData). Raises r) (sym (options_is image state (Selected app) c (eqb-true c.class 0x80 is) ins)) (row_raises c)
      by_class false is = by_known (is_class c.class) is
