-- The state that is found is that of the kept list, with or without the pending decision.
use Rattle.std.proofs.Common.{◌≡◌, [], ◌∷◌, Some, None, ap, sym, subst, ◌∙◌}
use Rattle.card_state.specs.Totals.{totals}
use Rattle.card_state.specs.declared.state.CardState.{CardState}
use Rattle.card_state.proofs.ShortLogs.{totals_short}
use Rattle.card_state.specs.Encoding.{encoding, HasShortLogs}
use Rattle.card_app.specs.Pages.{MayStand, found_of}
use Rattle.card_app.specs.SeenKept.{KeptState}
use Rattle.card_app.proofs.PowerUps.{first, second, may_among, still_may, finds, kept_on}
use Rattle.card_app.proofs.kept.CardPages.power_up.Goals as goal

pub power_up_with-requires-clause-among : goal.power_up_with-requires-clause-among
power_up_with-requires-clause-among g c =
    let opening = c.args.opening.now in
    let s = c.requires.stands in
    let cells = c.self.inside.place.memory.cells in
    let may = subst (λ (k : KeptState). MayStand k.memory.cells s.0 opening s.1 s.2) (sym c.self.view_is) s.3 in
    (first opening s.1 cells s.0 s.2 may ∷ second opening s.1 cells s.0 s.2 may ∷ [], may_among opening s.1 cells s.0 s.2 may)

pub unreachable-requires : goal.unreachable-requires
unreachable-requires g c =
    let opening = c.args.opening.now in
    let s = c.requires.stands in
    let cells = c.self.inside.place.memory.cells in
    let may = subst (λ (k : KeptState). MayStand k.memory.cells s.0 opening s.1 s.2) (sym c.self.view_is) s.3 in
    let one = c.in-Ok.ensures.found (first opening s.1 cells s.0 s.2 may ∷ second opening s.1 cells s.0 s.2 may ∷ []) (may_among opening s.1 cells s.0 s.2 may) in
    let found = finds opening s.1 cells s.0 s.2 may c.power_up_with.new.self.state one in
    let state : CardState = totals opening (found_of s.1 s.2 found.0) in
    let read = c.decode.ensures.reads state found.1 (sym (c.state.ensures.value ∙ found.2)) in
    let none : None ≡ Some state = sym c.in-None.is ∙ read in
    cc none

pub invariant_of-self-in-Some : goal.invariant_of-self-in-Some
invariant_of-self-in-Some g c =
    let opening = c.args.opening.now in
    let s = c.requires.stands in
    let cells = c.self.inside.place.memory.cells in
    let may = subst (λ (k : KeptState). MayStand k.memory.cells s.0 opening s.1 s.2) (sym c.self.view_is) s.3 in
    let one = c.in-Ok.ensures.found (first opening s.1 cells s.0 s.2 may ∷ second opening s.1 cells s.0 s.2 may ∷ []) (may_among opening s.1 cells s.0 s.2 may) in
    let found = finds opening s.1 cells s.0 s.2 may c.power_up_with.new.self.state one in
    let list = found_of s.1 s.2 found.0 in
    let read = c.decode.ensures.reads (totals opening list) found.1 (sym (c.state.ensures.value ∙ found.2)) in
    let both : Some c.in-Some.state ≡ Some (totals opening list) = sym c.in-Some.is ∙ read in
    let same : totals opening list ≡ c.in-Some.state = cc both in (
      λ on. found.2 ∙ ap (λ (t : CardState). encoding t) same,
      subst (λ (t : CardState). HasShortLogs t) same (totals_short opening list found.3),
    )

pub returns-clause-found : goal.returns-clause-found
returns-clause-found g c version kept pending stands =
    let opening = c.args.opening.now in
    let cells = c.self.inside.place.memory.cells in
    let may = subst (λ (k : KeptState). MayStand k.memory.cells version opening kept pending) (sym c.self.view_is) stands in
    let one = c.in-Ok.ensures.found (first opening kept cells version pending may ∷ second opening kept cells version pending may ∷ []) (may_among opening kept cells version pending may) in
    let found = finds opening kept cells version pending may c.power_up_with.new.self.state one in
    let list = found_of kept pending found.0 in
    let read = c.decode.ensures.reads (totals opening list) found.1 (sym (c.state.ensures.value ∙ found.2)) in
    let both : Some c.in-Some.state ≡ Some (totals opening list) = sym c.in-Some.is ∙ read in
    let same : c.in-Some.state ≡ totals opening list = cc both in (
      found.0,
      kept_on opening kept list c.power_up_with.new.self.memory c.power_up_with.new.self.state c.in-Some.state c.args.self.now.memory.plan
          found.1 found.3 found.2 same c.in-Ok.ensures.opens.holds (c.in-Ok.ensures.opens.plan ∙ ap (λ (k : KeptState). k.memory.plan) c.self.view_is) c.in-Ok.ensures.opens.commit,
    )

pub returns-in-Err-clause-lost : goal.returns-in-Err-clause-lost
returns-in-Err-clause-lost g c version kept pending stands =
    let opening = c.args.opening.now in
    let cells = c.self.inside.place.memory.cells in
    let may = subst (λ (k : KeptState). MayStand k.memory.cells version opening kept pending) (sym c.self.view_is) stands in
    still_may opening kept cells version c.power_up_with.new.self.memory.cells pending may
    (c.in-Err.ensures.lost (first opening kept cells version pending may ∷ second opening kept cells version pending may ∷ []) (may_among opening kept cells version pending may))
