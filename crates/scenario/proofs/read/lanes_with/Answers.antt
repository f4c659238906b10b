use Rattle.std.proofs.Common.{◌≡◌, ◌∙◌, List, length, IfOk, sym, ap, subst}
use Rattle.std.proofs.lemmas.List.{length-map}
use Rattle.scenario_lanes.specs.Plan.{HaveRoom}
use Rattle.scenario.proofs.CardNames.{names_count}
use Rattle.scenario.proofs.read.lanes_with.Goals as goal

pub returns-clause-rooms : goal.returns-clause-rooms
returns-clause-rooms c =
    let names : length c.in_ok-names.names.items ≡ length c.args.cards.now =
    sym (length-map c.in_ok-names.names.items (λ name. name.now)) ∙ ap length c.in_ok-names.ensures ∙ names_count c.args.cards.now in
    let count : length c.deref.result.now ≡ length c.args.cards.now = ap length c.deref.ensures.value ∙ names in
    subst (λ n. IfOk c.lanes_at.result (λ lanes. HaveRoom n lanes.items)) count c.lanes_at.ensures.rooms
