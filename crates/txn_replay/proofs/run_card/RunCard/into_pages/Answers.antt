use Rattle.std.proofs.Common.{◌≡◌, sym, ap, ◌∙◌, subst}
use Rattle.card_app.specs.SeenIcc.{IccSeen}
use Rattle.txn_replay.specs.Banked.{IsIccLeft, IsRunCardLeft}
use Rattle.txn_replay.specs.SeenRunCard.{seen_run_card}
use Rattle.txn_replay.specs.RunCard.{RunCardSeen, OfApps}
use Rattle.txn_replay.proofs.run_card.RunCard.into_pages.Goals as goal

pub returns-in-App : goal.returns-in-App
returns-in-App g c =
    let old : OfApps c.in-App.icc ≡ c.args.self = ap seen_run_card (sym c.in-App.is) ∙ c.self.view_is in
    let given : IsIccLeft c.in-App.icc (g.P.Pages.memory c.into_pages.result) =
    subst (λ (icc : IccSeen). IsIccLeft icc (g.P.Pages.memory c.into_pages.result)) c.in-App.icc-is
    (record {
      off = c.into_pages.ensures.off;
      may = c.into_pages.ensures.may;
      stands = c.into_pages.ensures.stands;
      losses = c.into_pages.ensures.losses;
    }) in
    record { left = subst (λ (s : RunCardSeen). IsRunCardLeft s (g.P.Pages.memory c.into_pages.result)) old given }
