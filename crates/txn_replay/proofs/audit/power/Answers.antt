use Rattle.std.proofs.Common.{◌≡◌, ℕ, List, [], ◌∷◌, None, ap, ◌∙◌}
use Rattle.card_files.specs.Files.{opening_of}
use Rattle.card_files.specs.Views.{ImageData}
use Rattle.card_app.specs.Pages.{found_of}
use Rattle.card_state.specs.Decisions.{Decided}
use Rattle.card_state.specs.Totals.{totals}
use Rattle.card_state.specs.declared.state.CardState.{CardState}
use Rattle.report_text.specs.declared.line.Line.TheVariants.{AuditPower}
use Rattle.scenario_plan.specs.SeenCards.{image_of, seen_card}
use Rattle.card_app.specs.Counters.{shown_all}
use Rattle.txn_replay.proofs.audit.power.Goals as goal

pub returns-clause-powered : goal.returns-clause-powered
unfolding seen_card
returns-clause-powered g c = λ row rests same.
    let found = c.in-Ok.ensures.found row.kept row.pending (c.turn_off.ensures.off row rests) in
    let ds : List Decided = found_of row.kept row.pending found.0 in
    let own : c.power_up.new.self.image ≡ image_of c.args.card.now.kind = c.power_up.ensures.image ∙ c.turn_off.ensures.same.image ∙ same in
    let image : c.image.result.now ≡ image_of c.args.card.now.kind = c.image.ensures ∙ own in
    let state : c.totals.result.now ≡ totals (opening_of (image_of c.args.card.now.kind)) ds =
    c.totals.ensures.totals [] ds None 0 found.1 ∙ ap (λ (i : ImageData). totals (opening_of i) ds) own in (
      found.0,
      found.1,
      c.tell_audit_power.ensures
          ∙ ap (λ (name : List ℕ). AuditPower (record { items = name }) (record { items = shown_all c.image.result.now.apps c.totals.result.now }) ∷ []) (c.name_of.ensures ∙ c.as_slice.ensures.value)
          ∙ ap (λ (i : ImageData). AuditPower (record { items = c.args.card.now.name.items }) (record { items = shown_all i.apps c.totals.result.now }) ∷ []) image
          ∙ ap (λ (s : CardState). AuditPower (record { items = c.args.card.now.name.items }) (record { items = shown_all (image_of c.args.card.now.kind).apps s }) ∷ []) state,
    )
