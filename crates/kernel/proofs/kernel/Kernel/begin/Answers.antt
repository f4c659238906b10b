use Rattle.std.proofs.Common.{refl}
use Rattle.kernel.proofs.Beginning.{has_begun}
use Rattle.kernel.proofs.kernel.Kernel.begin.Goals as goal

pub invariant_of-result : goal.invariant_of-result
invariant_of-result c = record {
  outset = record { settings = c.requires.settings; purchase = c.requires.purchase };
  stage = (c.begin-opening.ensures.fits _ c.new.ensures (record { outset = record { settings = c.requires.settings; purchase = c.requires.purchase }; empty = c.new-3.ensures; fresh = c.new-2.ensures }), c.none-2.ensures);
  over = λ spent. cc;
}

pub returns : goal.returns
returns c =
    has_begun _ _ _ _ c.none-2.ensures refl (c.begin-opening.ensures.stands _ refl c.new.ensures c.new-3.ensures c.new-2.ensures refl) c.begin-opening.ensures.waits
    c.new.ensures c.begin-opening.ensures.few
