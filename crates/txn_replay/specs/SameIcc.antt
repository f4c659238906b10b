-- A card's chip behind a step of the audit.
use Rattle.std.specs.Prelude.{◌≡◌}
use Rattle.card_app.specs.SeenIcc.{IccSeen, icc_losses}

-- it has the applications of before, and has lost its power no more often
pub record KeepsIcc (before icc : IccSeen) : Type 0 where
  pub image : icc.image ≡ before.image
  pub losses : icc_losses icc ≡ icc_losses before
