use Rattle.card_app.proofs.Explaining.{reasons_explain}
use Rattle.card_app.proofs.law.reasons_explain.Goals as goal

pub returns : goal.returns
returns c image = reasons_explain image
