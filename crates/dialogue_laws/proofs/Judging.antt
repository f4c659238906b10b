-- Terminal risk management with a card whose application is started: the two counters, each answered readably.
use Rattle.std.proofs.Common.{◌≡◌, ℕ, ◌≤◌, ◌/◌, ◌%◌, ◌==◌, ◌&&◌, not, Bool, true, false, if◌then◌else◌, List, [], ◌∷◌, length, slice_get, slice_index, bit_and, Option, Some, None, Result, Ok, refl, ap, sym, zero-le, arith, w16}
use Rattle.std.specs.Int.{to_be_bytes}
use Rattle.apdu_core.specs.Command.{CommandData}
use Rattle.auth_message.proofs.Sizes.{written_short}
use Rattle.ber_tlv.specs.Written.{written}
use Rattle.card_app.specs.Answering.{instruction_row}
use Rattle.card_app.specs.Files.{log_format, data_object, data_row}
use Rattle.card_app.specs.Session.{next_phase}
use Rattle.card_cryptogram.specs.declared.phase.Phase.TheVariants.{Started}
use Rattle.card_files.specs.Views.{AppData, ImageData}
use Rattle.card_state.specs.declared.state.AppState.{AppState}
use Rattle.dialogue_laws.proofs.Answers.{state_at, phase_at}
use Rattle.dialogue_laws.proofs.Hearing.{Heard, heard, if_room, app_room}
use Rattle.dialogue_laws.proofs.Runs.{Runs, done, asks, runs_as}
use Rattle.dialogue_laws.specs.Cards.{Now, says, goes}
use Rattle.emv_dict.specs.Progress.{Done}
use Rattle.emv_dict.specs.Views.{SettingsData, PurchaseData}
use Rattle.emv_dict.specs.declared.ending.Cause.{Cause}
use Rattle.emv_dict.specs.declared.judged.Judged.{Judged}
use Rattle.emv_dict.specs.declared.purchase.AidRow.{AidRow}
use Rattle.emv_dict.specs.declared.purchase.Logged.{Logged}
use Rattle.object_lists.specs.CardRead.{ReadCard}
use Rattle.risk_mgmt.specs.Counters.{counter_tag, last_online_tag, get_data, counter_in_response, counter_if, counter_in_answer, counter_bits}
use Rattle.risk_mgmt.specs.Risky.{may_decide, always, terminal_bits, judged_with, last_by, last_asked, first_by, first_asked, limit_in, by_limits, risk_checks, risky}

abbrev command_for : ℕ → CommandData
command_for tag = record { class = 0x80; ins = 0xCA; p1 = tag / 256; p2 = tag % 256; body = []; expects = Some 0 }

object_room : (tag : ℕ) (value : List ℕ) → length value ≤ 2 → length (written tag value) ≤ 256
object_room tag value few = omega (arith, written_short tag value)

data_room : (p1 p2 : ℕ) (a : AppData) (s : AppState) → length (data_object p1 p2 a s).body ≤ 256
unfolding data_object
data_room p1 p2 a s =
    if_room (p1 == 0x9F && p2 == 0x36) _ _ (object_room 0x9F36 (to_be_bytes w16 s.counter) (omega arith))
    (if_room (p1 == 0x9F && p2 == 0x13) _ _ (object_room 0x9F13 (to_be_bytes w16 s.last_online) (omega arith))
    (if_room (p1 == 0x9F && p2 == 0x17) _ _ (object_room 0x9F17 (s.tries ∷ []) (omega arith))
    (if_room ((p1 == 0x9F && p2 == 0x4F) && not (a.log == 0)) _ _ (omega (arith, written_short 0x9F4F log_format)) zero-le)))

module _ (image : ImageData) (app : ℕ) where
  data_heard : (now : Now) (tag : ℕ) → phase_at image now ≡ Started app → Heard image app now (get_data tag)
  unfolding get_data instruction_row data_row next_phase
  data_heard now tag here =
      heard image app now (command_for tag) here
      (app_room (slice_get image.apps app) (slice_get (state_at image now).apps.items app) (data_object (tag / 256) (tag % 256)) (data_room (tag / 256) (tag % 256)))
      (λ body status. refl)

  -- whatever is found, the application stays started
  abbrev Stays : Now → Judged → Type 0
  Stays at judged = phase_at image at ≡ Started app

  counter_heard : (now : Now) (tag : ℕ) (h : Heard image app now (get_data tag)) → counter_in_answer tag (says image now (get_data tag)) ≡ Ok (counter_in_response tag h.response)
  unfolding counter_in_answer
  counter_heard now tag h = ap (counter_if tag) h.read

  last_run : (bits lower upper : ℕ) (counter : Option ℕ) (now : Now) → phase_at image now ≡ Started app → Runs image Stays now (last_asked bits lower upper counter)
  unfolding last_asked
  last_run bits lower upper counter now here =
      let h = data_heard now last_online_tag here in
      asks (get_data last_online_tag) refl
      (done (judged_with (counter_bits bits lower upper counter (counter_in_response last_online_tag h.response)) true)
      (λ later. ap (λ (last : Result (Option ℕ) Cause). last_by bits lower upper counter last later) (counter_heard now last_online_tag h)) h.phase)

  first_run : (bits lower upper : ℕ) (now : Now) → phase_at image now ≡ Started app → Runs image Stays now (first_asked bits lower upper)
  unfolding first_asked
  first_run bits lower upper now here =
      let h = data_heard now counter_tag here in
      asks (get_data counter_tag) refl
      (runs_as (λ later. ap (λ (counter : Result (Option ℕ) Cause). first_by bits lower upper counter later) (sym (counter_heard now counter_tag h)))
      (last_run bits lower upper (counter_in_response counter_tag h.response) (goes image now (get_data counter_tag)) h.phase))

  by_limits_run : (bits : ℕ) (lower upper : Option ℕ) (now : Now) → phase_at image now ≡ Started app → Runs image Stays now (by_limits bits lower upper)
  by_limits_run bits (Some lower) (Some upper) now here = first_run bits lower upper now here
  by_limits_run bits (Some lower) None now here = done (judged_with bits true) (λ later. refl) here
  by_limits_run bits None upper now here = done (judged_with bits true) (λ later. refl) here

  checked_by : (test : Bool) (bits : ℕ) (lower upper : Option ℕ) (now : Now) → phase_at image now ≡ Started app
      → Runs image Stays now (λ later. if test then by_limits bits lower upper later else Done (judged_with bits true) later)
  checked_by true bits lower upper now here = by_limits_run bits lower upper now here
  checked_by false bits lower upper now here = done (judged_with bits true) (λ later. refl) here

  module _ (card : ReadCard) (settings : SettingsData) (row : AidRow) (purchase : PurchaseData) (log : List Logged) where
    risky_by : (test : Bool) (now : Now) → phase_at image now ≡ Started app
        → Runs image Stays now (λ later. if test then Done (judged_with (always card.pan settings purchase) false) later else risk_checks card settings row purchase log later)
    unfolding risk_checks
    risky_by true now here = done (judged_with (always card.pan settings purchase) false) (λ later. refl) here
    risky_by false now here =
        checked_by (may_decide settings.kind) (terminal_bits card.pan settings row purchase log) (limit_in 0x9F14 card.entries) (limit_in 0x9F23 card.entries) now here

    -- risk management ends, and the application stays started
    pub judging_runs : (now : Now) → phase_at image now ≡ Started app
        → Runs image (λ at judged. phase_at image at ≡ Started app) now (risky card settings row purchase log)
    unfolding risky
    judging_runs now here = risky_by (bit_and (slice_index card.aip 0) 0x08 == 0) now here
