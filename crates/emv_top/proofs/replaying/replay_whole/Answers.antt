use Rattle.std.proofs.Common.{subst, sym, inr}
use Rattle.emv_top.specs.Answers.{Plays}
use Rattle.emv_top.specs.declared.status.Status.{Status}
use Rattle.emv_top.specs.declared.words.Task.TheVariants.{Replay}
use Rattle.emv_top.proofs.Answering.{decided_whole, cut_replay}
use Rattle.emv_top.proofs.replaying.replay_whole.Goals as goal

pub returns-in-Ok-replay_through-clause-whole : goal.returns-in-Ok-replay_through-clause-whole
returns-in-Ok-replay_through-clause-whole g c =
    decided_whole c.args.scenario.now c.replay_through.new.world _ _ c.runs_are_fair.ensures.whole c.runs_are_decided.ensures
    c.cards_are_named.ensures.whole c.commands_are_told.ensures.whole c.losses_are_told.ensures.whole c.captures_are_sent.ensures.lost_whole c.dialects_show.ensures.whole c.captures_are_sent.ensures.sent
    c.stores_are_emptied.ensures.emptied c.lanes_stand_alone.ensures.alone c.made_messages.ensures c.requires.rules
    c.in-Ok-replay_through.ensures.ok

pub returns-in-Err-Sink-clause-cut : goal.returns-in-Err-Sink-clause-cut
returns-in-Err-Sink-clause-cut g c =
    subst (λ (st : Status). Plays Replay c.args.scenario.now (g.K.Sink.held c.args.sink.now) (g.K.Sink.held c.replay_through.new.sink)
    c.end_world.result.bank c.end_world.result.tally st) (sym c.end_world.ensures.status)
    (cut_replay c.args.scenario.now c.replay_through.new.world c.replay_through.ensures.told _ _ _ _ c.end_world.ensures.leaves c.runs_are_fair.ensures.reached
    c.cards_are_named.ensures.reached c.losses_are_told.ensures.reached c.captures_are_sent.ensures.lost c.requires.rules c.in-Err-Sink.ensures.err)

pub returns-in-Err-OutOfMemory-clause-cut : goal.returns-in-Err-OutOfMemory-clause-cut
returns-in-Err-OutOfMemory-clause-cut g c =
    subst (λ (st : Status). Plays Replay c.args.scenario.now (g.K.Sink.held c.args.sink.now) (g.K.Sink.held c.replay_through.new.sink)
    c.end_world-in-Err-OutOfMemory.result.bank c.end_world-in-Err-OutOfMemory.result.tally st) (sym c.end_world-in-Err-OutOfMemory.ensures.status)
    (inr (cut_replay c.args.scenario.now c.replay_through.new.world c.replay_through.ensures.told _ _ _ _ c.end_world-in-Err-OutOfMemory.ensures.leaves c.runs_are_fair.ensures.reached
    c.cards_are_named.ensures.reached c.losses_are_told.ensures.reached c.captures_are_sent.ensures.lost c.requires.rules c.in-Err-OutOfMemory.ensures.err))
