-- Cardholder verification with a card whose application is started: any number of VERIFY, each answered readably.
use Rattle.std.proofs.Common.{◌≡◌, ℕ, ◌==◌, ◌≤◌, Bool, true, false, not, if◌then◌else◌, List, [], ◌∷◌, length, drop, slice_get, slice_index, bit_and, Option, Some, None, refl, ap, sym, bytes_eq, zero-le}
use Rattle.apdu_core.specs.Command.{CommandData}
use Rattle.apdu_core.specs.Response.{ResponseData}
use Rattle.card_app.specs.Answering.{instruction_row, verify_row}
use Rattle.card_app.specs.Pin.{verify_of}
use Rattle.card_app.specs.Session.{next_phase}
use Rattle.card_cryptogram.specs.declared.phase.Phase.TheVariants.{Started}
use Rattle.card_files.specs.Views.{AppData, ImageData}
use Rattle.card_app.specs.Comparing.{compared, has_pin}
use Rattle.card_state.specs.declared.state.AppState.{AppState}
use Rattle.dialogue_laws.proofs.Answers.{state_at, phase_at}
use Rattle.dialogue_laws.proofs.Hearing.{Heard, heard, if_room, app_room}
use Rattle.dialogue_laws.proofs.Runs.{Runs, done, asks, runs_as}
use Rattle.dialogue_laws.specs.Cards.{Now, says, goes}
use Rattle.cvm_list.proofs.Walk.{settled_is, none_left, answers_apart}
use Rattle.cvm_list.specs.Begun.{situation, holding, passed, by_rules, by_list, cvm}
use Rattle.cvm_list.specs.Cvm.{course, course_by, is_deciding, deciding, found_after, nothing_found, verified, verified_by_rules}
use Rattle.cvm_list.specs.Rules.{rules_of, method_of, supports}
use Rattle.cvm_list.specs.Settled.{rest_behind_rule}
use Rattle.cvm_list.specs.Tried.{Known, verify_command, said_of, unsupported, failed, successful, sent_online, by_said, by_answer, pin_tried, performed, tried}
use Rattle.cvm_list.specs.declared.outcome.Found.{Found}
use Rattle.cvm_list.specs.declared.outcome.Outcome.{Outcome}
use Rattle.cvm_list.specs.declared.outcome.Said.{Said}
use Rattle.cvm_list.specs.declared.outcome.Said.TheVariants.{Right, Again, Exceeded, Other}
use Rattle.cvm_list.specs.declared.rule.Method.{Method}
use Rattle.cvm_list.specs.declared.rule.Method.TheVariants.{Fail, PlainPin, OnlinePin, PlainPinAndSignature, EncipheredPin, EncipheredPinAndSignature, Signature, NoCvm, Unrecognised}
use Rattle.cvm_list.specs.declared.rule.Rule.{Rule}
use Rattle.cvm_list.specs.declared.rule.Situation.{Situation}
use Rattle.emv_dict.specs.Flags.{tvr_bit}
use Rattle.emv_dict.specs.Progress.{Done}
use Rattle.emv_dict.specs.Views.{SettingsData, PurchaseData}
use Rattle.emv_dict.specs.declared.verified.Verified.{Verified}
use Rattle.env_map.specs.Entries.{value_of}
use Rattle.object_lists.specs.CardRead.{ReadCard}
use Rattle.pin_block.specs.Block.{block_of}

abbrev command_for : List ℕ → CommandData
command_for pin = record { class = 0x00; ins = 0x20; p1 = 0x00; p2 = 0x80; body = block_of 2 pin; expects = None }

-- no answer to VERIFY has a body
compared_room : (app limit tries : ℕ) (right : Bool) → length (compared app limit tries right).body ≤ 256
compared_room app limit tries true = zero-le
compared_room app limit tries false = zero-le

verify_room : (app : ℕ) (block : List ℕ) (a : AppData) (s : AppState) → length (verify_of app block a s).body ≤ 256
unfolding verify_of
verify_room app block a s =
    let none = zero-le in
    if_room (not (length block == 8)) _ _ none
    (if_room (not (has_pin s)) _ _ none
    (if_room (s.tries == 0) _ _ none (compared_room app a.tries s.tries (bytes_eq block s.pin))))

module _ (image : ImageData) (app : ℕ) where
  verify_heard : (now : Now) (pin : List ℕ) → phase_at image now ≡ Started app → Heard image app now (verify_command pin)
  unfolding verify_command instruction_row verify_row next_phase
  verify_heard now pin here =
      heard image app now (command_for pin) here
      (app_room (slice_get image.apps app) (slice_get (state_at image now).apps.items app) (verify_of app (block_of 2 pin)) (verify_room app (block_of 2 pin)))
      (λ body status. refl)

  -- whatever is found, the application stays started
  abbrev Stays : Now → Verified → Type 0
  Stays at verified = phase_at image at ≡ Started app

  -- the rules that are left, behind what was found
  abbrev Goes : ℕ → List Rule → Type 0
  Goes caps rules = (found : Found) (pins : List (List ℕ)) (now : Now) → phase_at image now ≡ Started app
      → Runs image Stays now (λ later. verified_by_rules found (course caps rules pins later) later)

  module _ (caps : ℕ) (others : List Rule) (goes_on : Goes caps others) where
    settled : (found : Found) (outcome : Outcome) (pins : List (List ℕ)) (now : Now) (decided : Bool) → is_deciding outcome ≡ decided → phase_at image now ≡ Started app
        → Runs image Stays now (λ later. rest_behind_rule found outcome (course caps others) pins later)
    settled found outcome pins now true is here =
        done (verified (found_after found outcome)) (λ later. rw is refl) here
    settled found outcome pins now false is here =
        runs_as (λ later. let e : verified_by_rules (found_after found outcome) (course caps others pins later) later ≡ rest_behind_rule found outcome (course caps others) pins later = rw is refl in e)
        (goes_on (found_after found outcome) pins now here)

    -- a rule whose outcome is known
    known : (found : Found) (outcome : Outcome) (pins : List (List ℕ)) (answers : List (List ℕ) → List (List ℕ)) (now : Now) → phase_at image now ≡ Started app
        → Runs image Stays now (λ later. verified_by_rules found (course_by (Known outcome pins later) (course caps others)) (answers later))
    known found outcome pins answers now here =
        runs_as (λ later. sym (settled_is found outcome (course caps others) pins later (answers later)))
        (settled found outcome pins now (is_deciding outcome) refl here)

    -- the card's answer says so
    module _ (rule : Rule) (result : ℕ) (found : Found) where
      abbrev Tries : List (List ℕ) → Type 0
      Tries pins = (now : Now) → phase_at image now ≡ Started app
          → Runs image Stays now (λ later. verified_by_rules found (course_by (pin_tried rule result pins later) (course caps others)) later)

      told : (said : Said) (pins : List (List ℕ)) (reply : List ℕ) → Tries pins → (now : Now) → phase_at image now ≡ Started app
          → Runs image Stays now (λ later. verified_by_rules found (course_by (by_said rule result said pins later (pin_tried rule result pins later)) (course caps others)) (reply ∷ later))
      told Right pins reply again now here = known found (successful rule result) pins (λ later. reply ∷ later) now here
      told Again pins reply again now here =
          runs_as (λ later. answers_apart found (pin_tried rule result pins later) (course caps others) later (reply ∷ later)) (again now here)
      told Exceeded pins reply again now here = known found (failed rule (tvr_bit 3 6)) pins (λ later. reply ∷ later) now here
      told Other pins reply again now here = known found (failed rule 0) pins (λ later. reply ∷ later) now here

      -- one entry after another
      pins_run : (pins : List (List ℕ)) → Tries pins
      unfolding pin_tried verified_by_rules deciding
      pins_run [] now here = known found (failed rule (tvr_bit 3 4)) [] (λ later. later) now here
      pins_run (pin ∷ pins) now here =
          let h = verify_heard now pin here in
          let reply : List ℕ = says image now (verify_command pin) in
          asks (verify_command pin) refl
          (runs_as
          (λ later. ap (λ (o : Option ResponseData). verified_by_rules found (course_by (by_answer rule result o pins later (pin_tried rule result pins later)) (course caps others)) (reply ∷ later)) (sym h.read))
          (told (said_of h.response.status) pins reply (pins_run pins) (goes image now (verify_command pin)) h.phase))

    online_run : (rule : Rule) (found : Found) (pins : List (List ℕ)) (now : Now) → phase_at image now ≡ Started app
        → Runs image Stays now (λ later. verified_by_rules found (course_by (performed rule OnlinePin pins later) (course caps others)) later)
    online_run rule found [] now here = known found (failed rule (tvr_bit 3 4)) [] (λ later. later) now here
    online_run rule found (pin ∷ pins) now here = known found (sent_online rule pin) pins (λ later. later) now here

    performed_run : (rule : Rule) (method : Method) → (found : Found) (pins : List (List ℕ)) (now : Now) → phase_at image now ≡ Started app
        → Runs image Stays now (λ later. verified_by_rules found (course_by (performed rule method pins later) (course caps others)) later)
    performed_run rule Fail found pins now here = known found (failed rule 0) pins (λ later. later) now here
    performed_run rule PlainPin found pins now here = pins_run rule 2 found pins now here
    performed_run rule OnlinePin found pins now here = online_run rule found pins now here
    performed_run rule PlainPinAndSignature found pins now here = pins_run rule 0 found pins now here
    performed_run rule EncipheredPin found pins now here = known found (failed rule 0) pins (λ later. later) now here
    performed_run rule EncipheredPinAndSignature found pins now here = known found (failed rule 0) pins (λ later. later) now here
    performed_run rule Signature found pins now here = known found (successful rule 0) pins (λ later. later) now here
    performed_run rule NoCvm found pins now here = known found (successful rule 2) pins (λ later. later) now here
    performed_run rule Unrecognised found pins now here = known found (failed rule 0) pins (λ later. later) now here

    rule_run : (rule : Rule) (test : Bool) → (found : Found) (pins : List (List ℕ)) (now : Now) → phase_at image now ≡ Started app
        → Runs image Stays now (λ later. verified_by_rules found (course_by (if test then performed rule (method_of rule) pins later else Known (unsupported rule) pins later) (course caps others)) later)
    rule_run rule true found pins now here = performed_run rule (method_of rule) found pins now here
    rule_run rule false found pins now here = known found (unsupported rule) pins (λ later. later) now here

  rules_run : (caps : ℕ) (rules : List Rule) → Goes caps rules
  unfolding course tried
  rules_run caps [] found pins now here = done (verified found) (λ later. none_left found caps [] pins later refl) here
  rules_run caps (rule ∷ rules) found pins now here =
      rule_run caps rules (rules_run caps rules) rule (supports caps (method_of rule)) found pins now here

  by_rules_run : (rules : List Rule) (s : Situation) (purchase : PurchaseData) (now : Now) → phase_at image now ≡ Started app → Runs image Stays now (by_rules rules s purchase)
  by_rules_run [] s purchase now here = done (passed (tvr_bit 1 6)) (λ later. refl) here
  by_rules_run (rule ∷ rules) s purchase now here = rules_run s.caps (holding s (rule ∷ rules)) nothing_found purchase.pins now here

  by_list_run : (list : Option (List ℕ)) (card : ReadCard) (settings : SettingsData) (purchase : PurchaseData) (now : Now) → phase_at image now ≡ Started app
      → Runs image Stays now (by_list list card settings purchase)
  by_list_run None card settings purchase now here = done (passed (tvr_bit 1 6)) (λ later. refl) here
  by_list_run (Some list) card settings purchase now here =
      by_rules_run (rules_of (drop 8 list)) (situation list (value_of 0x9F42 card.entries) settings purchase) purchase now here

  cvm_by : (test : Bool) (card : ReadCard) (settings : SettingsData) (purchase : PurchaseData) (now : Now) → phase_at image now ≡ Started app
      → Runs image Stays now (λ later. if test then Done (passed 0) later else by_list (value_of 0x8E card.entries) card settings purchase later)
  cvm_by true card settings purchase now here = done (passed 0) (λ later. refl) here
  cvm_by false card settings purchase now here = by_list_run (value_of 0x8E card.entries) card settings purchase now here

  -- verification ends, and the application stays started
  pub verifying_runs : (card : ReadCard) (settings : SettingsData) (purchase : PurchaseData) (now : Now) → phase_at image now ≡ Started app
      → Runs image (λ at verified. phase_at image at ≡ Started app) now (cvm card settings purchase)
  unfolding cvm
  verifying_runs card settings purchase now here = cvm_by (bit_and (slice_index card.aip 0) 0x10 == 0) card settings purchase now here
