-- The number of applications stays, and what a release leaves that is cut.
use Rattle.std.proofs.Common.{◌≡◌, ◌<◌, ◌++◌, ◌∷◌, [], length, rules, ap, sym, subst, ◌∙◌}
use Rattle.card_state.specs.Change.{changed}
use Rattle.card_state.specs.Decisions.{Decided}
use Rattle.card_state.specs.Encoding.{encoding, IsCardState}
use Rattle.card_state.specs.Totals.{totals}
use Rattle.card_state.proofs.ShortLogs.{short_at}
use Rattle.card_app.specs.SeenKept.{KeptState}
use Rattle.card_app.proofs.Stands.{same_count, cut_releasing}
use Rattle.card_app.proofs.kept.CardPages.decide.Goals as goal

pub apply-requires-clause-short : goal.apply-requires-clause-short
apply-requires-clause-short g c = short_at c.self.inside.state c.args.app c.self.invariant.1

pub returns-clause-stays : goal.returns-clause-stays
returns-clause-stays g c =
    let inside = subst (λ (k : KeptState). c.args.app < length k.state.apps.items) (sym c.self.view_is) c.requires.in_range in
    record {
      on = search rules;
      losses = search rules;
      apps =
          same_count c.self.inside.state.apps.items c.apply.new.state.apps.items c.args.app (λ s. changed s c.args.decision.now) inside c.apply.ensures.app
          ∙ ap (λ (k : KeptState). length k.state.apps.items) c.self.view_is;
    }

pub returns-in-Err-release-clause-cut : goal.returns-in-Err-release-clause-cut
returns-in-Err-release-clause-cut g c opening ds plan made on =
    let d : Decided = record { app = c.args.app; decision = c.args.decision.now } in
    let longer : c.apply.new.state ≡ totals opening (ds ++ d ∷ []) =
    c.apply.ensures.totals opening ds (ap (λ (k : KeptState). k.state) c.self.view_is ∙ on.state_is) in
    let done =
    cut_releasing opening ds d c.args.self.now c.self.inside.place c.in-Ok.written.place.now _ c.as_slice.result.now plan made
    (ap (λ (k : KeptState). k.memory) c.self.view_is) on c.in-Ok.ensures.commits c.in-Err-release.ensures.torn
    (c.as_slice.ensures.value ∙ c.encode.ensures.bytes ∙ ap encoding longer) (subst IsCardState longer c.encode.ensures.ranges) in
    search (rules, done)
