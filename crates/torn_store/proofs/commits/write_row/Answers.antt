use Rattle.std.proofs.Common.{rules, ◌≡◌, ℕ, List, ◌∷◌, refl, ap, sym}
use Rattle.std.proofs.lemmas.Result.{on_ok_weaker, on_err_weaker}
use Rattle.torn_store.specs.Writing.{journaled, header, gate, replay_row, commit_row}
use Rattle.torn_store.specs.declared.layout.Block.{Block}
use Rattle.torn_store.proofs.Outcomes.{on_err}
use Rattle.torn_store.proofs.Turns.{rest_none, rest_row, rest_row_stops, rest_more, rest_stops}
use Rattle.torn_store.proofs.commits.write_row.Goals as goal

pub replay-requires : goal.replay-requires
replay-requires g c = record { may = record { on = search rules; few = c.requires.may.few; within = c.requires.may.within } }

pub returns-in_err-write_journal-clause-stops : goal.returns-in_err-write_journal-clause-stops
returns-in_err-write_journal-clause-stops g c =
    let start = g.P.Pages.memory c.args.pages.now in
    let blocks : List Block = c.args.blocks.now in
    let head : Block = record { page = 18; bytes = header blocks } in
    let whole = commit_row blocks in
    on_err c.from_residual.result
    (rest_row_stops start start (g.P.Pages.memory c.write_journal.new.pages) whole (journaled 19 blocks) (head ∷ gate 1 ∷ replay_row blocks)
    (rest_none start whole) c.in_err-write_journal.ensures.stops)

pub returns-in_err-write-clause-stops : goal.returns-in_err-write-clause-stops
returns-in_err-write-clause-stops g c =
    let start = g.P.Pages.memory c.args.pages.now in
    let blocks : List Block = c.args.blocks.now in
    let head : Block = record { page = 18; bytes = header blocks } in
    let whole = commit_row blocks in
    let first = g.P.Pages.memory c.write_journal.new.pages in
    let rest1 = rest_row start start first whole (journaled 19 blocks) (head ∷ gate 1 ∷ replay_row blocks) (rest_none start whole) c.in_ok-write_journal.ensures.all in
    let named : head ∷ gate 1 ∷ replay_row blocks ≡ record { page = 18; bytes = c.header_of.result } ∷ gate 1 ∷ replay_row blocks =
    ap (λ (bytes : List ℕ). record { page = 18; bytes = bytes } ∷ gate 1 ∷ replay_row blocks) (sym c.header_of.ensures) in
    on_err c.from_residual-in_err-write.result
    (rest_stops start first (g.P.Pages.memory c.write.new.self) whole (head ∷ gate 1 ∷ replay_row blocks) (gate 1 ∷ replay_row blocks) 18 c.header_of.result
    rest1 named c.in_err-write.ensures.cut)

pub returns-in_err-write-2-clause-stops : goal.returns-in_err-write-2-clause-stops
returns-in_err-write-2-clause-stops g c =
    let start = g.P.Pages.memory c.args.pages.now in
    let blocks : List Block = c.args.blocks.now in
    let head : Block = record { page = 18; bytes = header blocks } in
    let whole = commit_row blocks in
    let first = g.P.Pages.memory c.write_journal.new.pages in
    let rest1 = rest_row start start first whole (journaled 19 blocks) (head ∷ gate 1 ∷ replay_row blocks) (rest_none start whole) c.in_ok-write_journal.ensures.all in
    let named : head ∷ gate 1 ∷ replay_row blocks ≡ record { page = 18; bytes = c.header_of.result } ∷ gate 1 ∷ replay_row blocks =
    ap (λ (bytes : List ℕ). record { page = 18; bytes = bytes } ∷ gate 1 ∷ replay_row blocks) (sym c.header_of.ensures) in
    let second = g.P.Pages.memory c.write.new.self in
    let rest2 = rest_more start first second whole (head ∷ gate 1 ∷ replay_row blocks) (gate 1 ∷ replay_row blocks) 18 c.header_of.result rest1 named
    c.in_ok-write.ensures.spared c.in_ok-write.ensures.written in
    on_err c.from_residual-in_err-write-2.result
    (rest_stops start second (g.P.Pages.memory c.write-2.new.self) whole (gate 1 ∷ replay_row blocks) (replay_row blocks) 0 (gate 1).bytes
    rest2 refl c.in_err-write-2.ensures.cut)

pub returns-clause-all : goal.returns-clause-all
returns-clause-all g c =
    let start = g.P.Pages.memory c.args.pages.now in
    let blocks : List Block = c.args.blocks.now in
    let head : Block = record { page = 18; bytes = header blocks } in
    let whole = commit_row blocks in
    let first = g.P.Pages.memory c.write_journal.new.pages in
    let rest1 = rest_row start start first whole (journaled 19 blocks) (head ∷ gate 1 ∷ replay_row blocks) (rest_none start whole) c.in_ok-write_journal.ensures.all in
    let named : head ∷ gate 1 ∷ replay_row blocks ≡ record { page = 18; bytes = c.header_of.result } ∷ gate 1 ∷ replay_row blocks =
    ap (λ (bytes : List ℕ). record { page = 18; bytes = bytes } ∷ gate 1 ∷ replay_row blocks) (sym c.header_of.ensures) in
    let second = g.P.Pages.memory c.write.new.self in
    let rest2 = rest_more start first second whole (head ∷ gate 1 ∷ replay_row blocks) (gate 1 ∷ replay_row blocks) 18 c.header_of.result rest1 named
    c.in_ok-write.ensures.spared c.in_ok-write.ensures.written in
    let third = g.P.Pages.memory c.write-2.new.self in
    let rest3 = rest_more start second third whole (gate 1 ∷ replay_row blocks) (replay_row blocks) 0 (gate 1).bytes rest2 refl
    c.in_ok-write-2.ensures.spared c.in_ok-write-2.ensures.written in
    on_ok_weaker c.replay.result (λ all. rest3.all (g.P.Pages.memory c.replay.new.pages) all) c.replay.ensures.all

pub returns-clause-stops : goal.returns-clause-stops
returns-clause-stops g c =
    let start = g.P.Pages.memory c.args.pages.now in
    let blocks : List Block = c.args.blocks.now in
    let head : Block = record { page = 18; bytes = header blocks } in
    let whole = commit_row blocks in
    let first = g.P.Pages.memory c.write_journal.new.pages in
    let rest1 = rest_row start start first whole (journaled 19 blocks) (head ∷ gate 1 ∷ replay_row blocks) (rest_none start whole) c.in_ok-write_journal.ensures.all in
    let named : head ∷ gate 1 ∷ replay_row blocks ≡ record { page = 18; bytes = c.header_of.result } ∷ gate 1 ∷ replay_row blocks =
    ap (λ (bytes : List ℕ). record { page = 18; bytes = bytes } ∷ gate 1 ∷ replay_row blocks) (sym c.header_of.ensures) in
    let second = g.P.Pages.memory c.write.new.self in
    let rest2 = rest_more start first second whole (head ∷ gate 1 ∷ replay_row blocks) (gate 1 ∷ replay_row blocks) 18 c.header_of.result rest1 named
    c.in_ok-write.ensures.spared c.in_ok-write.ensures.written in
    let third = g.P.Pages.memory c.write-2.new.self in
    let rest3 = rest_more start second third whole (gate 1 ∷ replay_row blocks) (replay_row blocks) 0 (gate 1).bytes rest2 refl
    c.in_ok-write-2.ensures.spared c.in_ok-write-2.ensures.written in
    on_err_weaker c.replay.result (λ stops. rest3.stops (g.P.Pages.memory c.replay.new.pages) stops) c.replay.ensures.stops
