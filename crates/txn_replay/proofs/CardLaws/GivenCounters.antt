-- A GENERATE AC that is answered 9000 holds the counter of its row.
-- The answer of a card shows the counter that its issuer will see.
use Rattle.std.proofs.Common.{◌≡◌, ℕ, ◌+◌, Bool, true, false, if◌then◌else◌, List, [], ◌∷◌, ◌++◌, slice_get, Option, Some, None, refl, sym, ap, ◌∙◌, subst, arith}
use Rattle.std.specs.Prelude.{◌==◌, not, length}
use Rattle.std.proofs.lemmas.Bool.{eqb-true, and_parts}
use Rattle.apdu_core.specs.Command.{CommandData, command_of}
use Rattle.apdu_core.specs.Response.{response_of, response_bytes}
use Rattle.card_app.specs.Answering.{answer_in_phase, row_or_refusal, card_reply, card_answer}
use Rattle.card_app.specs.Cryptograms.{sale_for, cryptogram_for, first_for, second_by, second_made, second_for, generate_in, generate_asked, generate_row}
use Rattle.card_app.specs.OwnLists.{cdol_of}
use Rattle.card_app.specs.Replies.{with_both}
use Rattle.card_app.specs.Session.{Exchange, phase_of}
use Rattle.card_cryptogram.specs.Bodies.{iad_of, body_in, cryptogram_of, body_of}
use Rattle.card_cryptogram.specs.Phases.{current}
use Rattle.card_cryptogram.specs.declared.fields.TerminalFields.{TerminalFields as Filled}
use Rattle.card_cryptogram.specs.Asked.{is_arqc, kind_asked}
use Rattle.card_cryptogram.specs.Fields.{given_from, code_given}
use Rattle.card_cryptogram.specs.declared.phase.First.{First as FirstData}
use Rattle.card_cryptogram.specs.declared.phase.Phase.{Phase}
use Rattle.card_cryptogram.specs.declared.phase.Phase.TheVariants.{Idle, Directory, Selected, Started, Online, Closed, Done}
use Rattle.card_files.specs.Files.{opening_of}
use Rattle.card_files.specs.Views.{AppData, ImageData}
use Rattle.card_app.specs.PageReplies.{CardReplyData, refused}
use Rattle.card_state.specs.Change.{changed}
use Rattle.card_state.specs.Decisions.{Decided, is_start}
use Rattle.card_state.specs.Totals.{totals}
use Rattle.card_state.specs.declared.decision.Auth.{Auth}
use Rattle.card_state.specs.declared.decision.Decision.{Decision}
use Rattle.card_state.specs.declared.decision.Decision.TheVariants.{Second}
use Rattle.card_state.specs.declared.decision.How.{How}
use Rattle.card_state.specs.declared.state.AppState.{AppState}
use Rattle.card_state.specs.declared.state.CardState.{CardState}
use Rattle.emv_dict.specs.declared.ending.Kind.{Kind}
use Rattle.object_lists.specs.DolEntries.{total_of}
use Rattle.txn_replay.specs.Changes.{is_generate, is_good, app_counter, given_for}
use Rattle.txn_replay.specs.Telling.{IsCryptogramRow}
use Rattle.txn_replay.specs.World.{Holder, CryptogramGiven}
use Rattle.txn_replay.proofs.CardLaws.CountersGrow.{counter_here, counter_stays}
use Rattle.txn_replay.proofs.CardLaws.CardDecisions.{IsGood, refused_bad, generate_is}

-- one row is given, and the answer holds its counter
pub record OneRow (image : ImageData) (kept : List Decided) (app : Option ℕ) (holder : Holder) (answer : List ℕ) : Type 0 where
  pub given : CryptogramGiven
  pub is : given_for image kept app (Some holder) ≡ given ∷ []
  pub told : IsCryptogramRow image holder given answer

module _ (image : ImageData) (ds : List Decided) (holder : Holder) where
  abbrev state : CardState
  state = totals (opening_of image) ds

  abbrev Told : Phase → CardReplyData → Type 0
  Told phase reply = IsGood reply → OneRow image (ds ++ reply.new) (current phase) holder (response_bytes reply.body reply.status)

  refuses : (phase : Phase) (status : ℕ) → (status ≡ 0x9000 → ⊥) → Told phase (refused status)
  refuses phase status other good = absurd (refused_bad status other good)

  if_told : (phase : Phase) (b : Bool) (x y : CardReplyData) → Told phase x → Told phase y → Told phase (if b then x else y)
  if_told phase true x y first second = first
  if_told phase false x y first second = second

  made : (phase : Phase) (app : ℕ) (a : AppData) (s : AppState) (kind : Kind) (decision : Decision) (filled : Filled) → current phase ≡ Some app
      → slice_get image.apps app ≡ Some a → slice_get state.apps.items app ≡ Some s → is_start decision ≡ false
      → Told phase (cryptogram_for app a s kind decision filled)
  unfolding body_of
  made phase app a s kind decision filled now there has none good = record {
    given = record { app = app; counter = app_counter image kept app; holder = holder };
    is = ap (λ (o : Option ℕ). given_for image kept o (Some holder)) now;
    told = record {
      holder_is = refl;
      holds = record {
        application = a;
        is = there;
        kind = kind;
        cryptogram = cryptogram;
        issuer_data = iad_of kind (changed s decision);
        answer_is = ap (λ n. response_bytes (body_in a.ac_format kind n cryptogram (iad_of kind (changed s decision))) 0x9000) same;
      };
    };
  }
    where
      kept : List Decided
      kept = ds ++ record { app = app; decision = decision } ∷ []

      cryptogram : List ℕ
      cryptogram = cryptogram_of a.ac_key a.aip (changed s decision) kind filled

      same : (changed s decision).counter ≡ app_counter image kept app
      same =
          ap (λ b. if b then s.counter + 1 else s.counter) none
          ∙ sym (counter_here image ds app s has)
          ∙ sym (counter_stays image ds app decision none)

  both : (phase : Phase) (app : ℕ) (reply : AppData → AppState → CardReplyData)
      → ((a : AppData) (s : AppState) → slice_get image.apps app ≡ Some a → slice_get state.apps.items app ≡ Some s → Told phase (reply a s))
      → (a : Option AppData) (s : Option AppState) → slice_get image.apps app ≡ a → slice_get state.apps.items app ≡ s → Told phase (with_both a s reply)
  both phase app reply told (Some a) (Some s) there has = told a s there has
  both phase app reply told (Some a) None there has = refuses phase 0x6985 (λ e. omega arith)
  both phase app reply told None s there has = refuses phase 0x6985 (λ e. omega arith)

  first_told : (app : ℕ) (asked : Kind) (filled : List ℕ) (a : AppData) (s : AppState) → slice_get image.apps app ≡ Some a
      → slice_get state.apps.items app ≡ Some s → Told (Started app) (first_for state.blocked app asked filled a s)
  unfolding first_for
  first_told app asked filled a s there has =
      if_told (Started app) _ _ _ (refuses (Started app) 0x6700 (λ e. omega arith)) (made (Started app) app a s _ _ _ refl there has refl)

  second_told : (app : ℕ) (first : FirstData) (sent : Option Auth) (asked : Kind) (filled : List ℕ) (a : AppData) (s : AppState)
      → slice_get image.apps app ≡ Some a → slice_get state.apps.items app ≡ Some s
      → Told (Online app first sent) (second_for state.blocked app first sent asked filled a s)
  unfolding second_for
  second_told app first sent asked filled a s there has =
      if_told phase (not (length filled == total_of (cdol_of a.cdol2))) (refused 0x6700) (if is_arqc asked then refused 0x6A86 else reply)
      (refuses phase 0x6700 (λ e. omega arith))
      (if_told phase (is_arqc asked) (refused 0x6A86) reply (refuses phase 0x6A86 (λ e. omega arith))
      (made phase app a s by.0 (Second by.0 by.1 (sale_for a given)) given refl there has refl))
    where
      phase : Phase
      phase = Online app first sent

      given : Filled
      given = given_from (cdol_of a.cdol2) filled first.given

      by : Kind × How
      by = second_by state.blocked asked a s sent (code_given (cdol_of a.cdol2) filled) given

      reply : CardReplyData
      reply = second_made app a s by given

  row_told : (phase : Phase) (c : CommandData) → Told phase (generate_row image state phase c)
  unfolding generate_row
  row_told phase c = by_kind (kind_asked c.p1 c.p2)
    where
      by_phase : (phase : Phase) (asked : Kind) → Told phase (generate_in image state phase asked c.body)
      by_phase (Started app) asked =
          both (Started app) app (first_for state.blocked app asked c.body) (first_told app asked c.body) (slice_get image.apps app)
          (slice_get state.apps.items app) refl refl
      by_phase (Online app first sent) asked =
          both (Online app first sent) app (second_for state.blocked app first sent asked c.body) (second_told app first sent asked c.body)
          (slice_get image.apps app) (slice_get state.apps.items app) refl refl
      by_phase Idle asked = refuses Idle 0x6985 (λ e. omega arith)
      by_phase Directory asked = refuses Directory 0x6985 (λ e. omega arith)
      by_phase (Selected app) asked = refuses (Selected app) 0x6985 (λ e. omega arith)
      by_phase (Closed app) asked = refuses (Closed app) 0x6985 (λ e. omega arith)
      by_phase (Done app first) asked = refuses (Done app first) 0x6985 (λ e. omega arith)

      by_kind : (o : Option Kind) → Told phase (generate_asked image state phase o c.body)
      by_kind None = refuses phase 0x6A86 (λ e. omega arith)
      by_kind (Some asked) = by_phase phase asked

  -- a GENERATE AC that is answered 9000 gives one row
  pub one_row : (session : List Exchange) (command : List ℕ) → is_generate (command_of command) ≡ true
      → is_good (response_of (card_answer image ds session command).answer) ≡ true
      → OneRow image (ds ++ (card_answer image ds session command).new) (current (phase_of image session)) holder
      (card_answer image ds session command).answer
  unfolding card_reply answer_in_phase
  one_row session command generate good = by_command (command_of command) generate good
    where
      by_command : (oc : Option CommandData) → is_generate oc ≡ true → Told (phase_of image session) (row_or_refusal image state (phase_of image session) oc)
      by_command None generate = cc
      by_command (Some c) generate =
          let tests = and_parts (c.class == 0x80) (c.ins == 0xAE) generate in
          subst (λ (x : CardReplyData). Told (phase_of image session) x)
          (sym (generate_is image state (phase_of image session) c (eqb-true c.class 0x80 tests.0) (eqb-true c.ins 0xAE tests.1)))
          (row_told (phase_of image session) c)
