use Rattle.std.proofs.Common.{drop}
use Rattle.torn_store.proofs.Mending.{shown_within}
use Rattle.torn_store.proofs.Replaying.{shown_sized}
use Rattle.torn_store.proofs.Sizes.{sized_count}
use Rattle.torn_store.proofs.commits.replay_shown.Goals as goal

pub read_journal-blocks-requires-clause-size : goal.read_journal-blocks-requires-clause-size
read_journal-blocks-requires-clause-size g c =
    sized_count 64 (g.P.Pages.memory c.args.pages.now).shown (shown_sized (g.P.Pages.memory c.args.pages.now) c.requires.on)

pub replay-requires : goal.replay-requires
replay-requires g c = record {
  may = record {
    on = c.requires.on.on;
    few = c.as_slice-2.ensures.fits;
    within =
        shown_within c.read.result c.numbers_of-numbers.result.items c.as_slice.result.now (drop 19 (g.P.Pages.memory c.args.pages.now).shown)
        c.read_journal-blocks.result.items c.as_slice-2.result.now c.numbers_of-numbers.ensures c.as_slice.ensures.value c.read_journal-blocks.ensures
        c.as_slice-2.ensures.value;
  };
}
