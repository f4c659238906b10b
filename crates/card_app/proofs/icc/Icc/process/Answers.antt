-- What the card says of itself holds of its place.
use Rattle.std.proofs.Common.{sym, subst}
use Rattle.std.proofs.lemmas.Result.{on_err_weaker}
use Rattle.card_files.specs.Files.{opening_of}
use Rattle.card_files.specs.Views.{ImageData}
use Rattle.torn_store.proofs.Outcomes.{on_ok_two}
use Rattle.card_app.specs.Cuts.{fate_by, kept_by, pending_by}
use Rattle.card_app.specs.Pages.{MayStand}
use Rattle.card_app.proofs.icc.Icc.process.Goals as goal

pub returns-clause-answered : goal.returns-clause-answered
returns-clause-answered g c =
    on_ok_two c.carry_on.result
    (λ answered stays session ds plan made at.
    let one = answered session ds plan made at.card in
    record { spared = one.spared; answer_is = one.answer_is; on = record { on = stays.on; card = one.on } })
    c.carry_on.ensures.answered c.carry_on.ensures.stays

pub returns-clause-cut : goal.returns-clause-cut
returns-clause-cut g c =
    on_err_weaker c.carry_on.result
    (λ cut session ds plan made at.
    let one = cut session ds plan made at.card in (
      one.0,
      record {
        cut = one.1.cut;
        off = record {
          off = one.1.left.gone.off;
          may =
              subst
              (λ (i : ImageData). MayStand c.carry_on.new.self.kept.memory.cells i.version (opening_of i) (kept_by (fate_by plan) ds one.0) (pending_by (fate_by plan) one.0))
              (sym c.carry_on.ensures.image) (one.1.left.stands c.args.self.now.image.version);
        };
      },
    ))
    c.carry_on.ensures.cut

pub returns-clause-allowed : goal.returns-clause-allowed
returns-clause-allowed g c session ds plan made at allowed = c.carry_on.ensures.allowed session ds plan made at.card allowed
