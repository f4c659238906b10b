use Rattle.std.proofs.Common.{arith, drop, sym, ◌∙◌}
use Rattle.torn_store.specs.Layout.{recover_at}
use Rattle.torn_store.proofs.Homes.{the_some, home_size, length_at, state_read}
use Rattle.torn_store.proofs.Opening.{some_is}
use Rattle.torn_store.proofs.journal.read_home.Goals as goal

pub read_pages-requires-clause-size : goal.read_pages-requires-clause-size
read_pages-requires-clause-size g c = home_size (g.P.Pages.memory c.args.pages.now) c.requires.on

pub pages_wanted-count-requires : goal.pages_wanted-count-requires
pages_wanted-count-requires g c =
    let memory = g.P.Pages.memory c.args.pages.now in
    let one = the_some (recover_at 0 (drop 1 memory.shown)) c.requires.state in
    let long = length_at memory c.requires.on one.0 one.1 c.read_pages.new.home c.read_pages.ensures.front in
    omega (arith, long.0, long.1)

pub read_pages-requires-2-clause-size : goal.read_pages-requires-2-clause-size
read_pages-requires-2-clause-size g c = home_size (g.P.Pages.memory c.args.pages.now) c.requires.on

pub read_pages-requires-2-clause-count : goal.read_pages-requires-2-clause-count
read_pages-requires-2-clause-count g c =
    let memory = g.P.Pages.memory c.args.pages.now in
    let one = the_some (recover_at 0 (drop 1 memory.shown)) c.requires.state in
    let long = length_at memory c.requires.on one.0 one.1 c.read_pages.new.home c.read_pages.ensures.front in
    omega (arith, long.0, long.1, c.pages_wanted-count.ensures)

pub state_of-requires : goal.state_of-requires
state_of-requires g c =
    let memory = g.P.Pages.memory c.args.pages.now in
    let one = the_some (recover_at 0 (drop 1 memory.shown)) c.requires.state in
    let long = length_at memory c.requires.on one.0 one.1 c.read_pages.new.home c.read_pages.ensures.front in
    some_is _ one.0
    (state_read memory c.requires.on one.0 one.1 c.read_pages-2.new.home c.pages_wanted-count.result c.read_pages-2.ensures.long
    (omega (arith, long.0, long.1, c.pages_wanted-count.ensures)) (omega (arith, long.0, long.1, c.pages_wanted-count.ensures)) c.read_pages-2.ensures.front)

pub returns : goal.returns
returns g c =
    let memory = g.P.Pages.memory c.args.pages.now in
    let one = the_some (recover_at 0 (drop 1 memory.shown)) c.requires.state in
    let long = length_at memory c.requires.on one.0 one.1 c.read_pages.new.home c.read_pages.ensures.front in
    one.1
    ∙ sym
    (state_read memory c.requires.on one.0 one.1 c.read_pages-2.new.home c.pages_wanted-count.result c.read_pages-2.ensures.long
    (omega (arith, long.0, long.1, c.pages_wanted-count.ensures)) (omega (arith, long.0, long.1, c.pages_wanted-count.ensures)) c.read_pages-2.ensures.front)
    ∙ c.state_of.ensures
