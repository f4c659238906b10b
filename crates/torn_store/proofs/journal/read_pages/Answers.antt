use Rattle.std.proofs.Common.{◌<◌, rules, arith, ◌∙◌}
use Rattle.std.proofs.lemmas.List.{places}
use Rattle.torn_store.proofs.Turns.{read_step, page_cut_long}
use Rattle.torn_store.proofs.journal.read_pages.Goals as goal

pub loop-i-preserved : goal.loop-i-preserved
loop-i-preserved g c =
    let inside : c.loop-i.i < 17 = omega (arith, c.loop-i-test.true, c.requires.count) in (
      search (rules, places),
      read_step c.loop-i.i _ (g.P.Pages.memory c.args.pages.now).shown c.loop-i.home c.copy_from_slice.new.self
          inside c.requires.size
          (c.copy_from_slice.ensures.len ∙ page_cut_long c.loop-i.i c.loop-i.home inside c.loop-i.invariant.0)
          (c.copy_from_slice.ensures.after ∙ c.read.ensures) c.loop-i.invariant.0 c.loop-i.invariant.1,
    )
