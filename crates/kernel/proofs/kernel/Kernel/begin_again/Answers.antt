use Rattle.std.proofs.Common.{refl}
use Rattle.kernel.proofs.Beginning.{has_begun}
use Rattle.kernel.proofs.kernel.Kernel.begin_again.Goals as goal

pub invariant_of-self : goal.invariant_of-self
invariant_of-self c = record {
  outset = rw c.clear_for.ensures.outset (record { settings = c.requires.settings; purchase = c.requires.purchase });
  stage = (c.begin-opening.ensures.fits _ c.clear_for.ensures.candidates (record { outset = rw c.clear_for.ensures.outset (record { settings = c.requires.settings; purchase = c.requires.purchase }); empty = c.clear_for.ensures.objects; fresh = c.clear_for.ensures.state_so_far }), c.let_go.ensures);
  over = λ spent. cc;
}

pub returns : goal.returns
returns c =
    has_begun _ _ _ _ c.let_go.ensures c.clear_for.ensures.outset
    (c.begin-opening.ensures.stands _ c.clear_for.ensures.outset c.clear_for.ensures.candidates c.clear_for.ensures.objects c.clear_for.ensures.state_so_far refl)
    c.begin-opening.ensures.waits c.clear_for.ensures.candidates c.begin-opening.ensures.few
