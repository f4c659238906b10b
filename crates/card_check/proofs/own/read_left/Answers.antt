use Rattle.std.proofs.Common.{◌∙◌, map}
use Rattle.card_check.proofs.Walking.{next_asked, stepped, stands_on, done_on, stopped_on}
use Rattle.card_check.proofs.own.read_left.Goals as goal
use Rattle.dialogue_laws.specs.WellFormed.{own_record}
use Rattle.read_records.specs.DataRead.{reading}
use Rattle.read_records.specs.Options.{Opened}

pub place_in-requires : goal.place_in-requires
place_in-requires c =
    let start : Opened = record { entries = c.args.env.now; left = c.args.course } in
    let stands = c.loop-cause.invariant.stands in
    let found = next_asked c.args.app.now start c.loop-cause.env c.loop-cause.left c.ask.new.out.items stands
    (c.ask.ensures.wants c.loop-cause.env (reading start) (map (own_record c.args.app.now) stands.before) stands.leads) in
    (found.place, found.is)

pub loop-cause-preserved : goal.loop-cause-preserved
loop-cause-preserved c =
    let start : Opened = record { entries = c.args.env.now; left = c.args.course } in
    let stands = c.loop-cause.invariant.stands in
    let step = stepped c.args.app.now start c.loop-cause.env c.loop-cause.left c.ask.new.out.items _ _ c.deref.result.now stands
    (c.ask.ensures.wants c.loop-cause.env (reading start) (map (own_record c.args.app.now) stands.before) stands.leads)
    c.place_in.ensures (c.deref.ensures.0 ∙ c.answer_record.ensures c.args.app.now c.requires.there) in
    record {
      options = c.go_on.ensures.options;
      stands = stands_on c.args.app.now start stands.before step.rest step.place step.split c.deref.result.now step.is _ _
          (c.in-Ask.ensures.leads (reading start) (map (own_record c.args.app.now) stands.before) stands.leads);
    }

pub returns-in-Done-clause-exact : goal.returns-in-Done-clause-exact
returns-in-Done-clause-exact c =
    let start : Opened = record { entries = c.args.env.now; left = c.args.course } in
    let stands = c.loop-cause.invariant.stands in
    let step = stepped c.args.app.now start c.loop-cause.env c.loop-cause.left c.ask.new.out.items _ _ c.deref.result.now stands
    (c.ask.ensures.wants c.loop-cause.env (reading start) (map (own_record c.args.app.now) stands.before) stands.leads)
    c.place_in.ensures (c.deref.ensures.0 ∙ c.answer_record.ensures c.args.app.now c.requires.there) in
    done_on c.args.app.now start stands.before step.rest step.place step.split c.deref.result.now step.is _
    (c.in-Done.ensures.leads (reading start) (map (own_record c.args.app.now) stands.before) stands.leads)

pub returns-in-Ended-clause-exact : goal.returns-in-Ended-clause-exact
returns-in-Ended-clause-exact c =
    let start : Opened = record { entries = c.args.env.now; left = c.args.course } in
    let stands = c.loop-cause.invariant.stands in
    let step = stepped c.args.app.now start c.loop-cause.env c.loop-cause.left c.ask.new.out.items _ _ c.deref.result.now stands
    (c.ask.ensures.wants c.loop-cause.env (reading start) (map (own_record c.args.app.now) stands.before) stands.leads)
    c.place_in.ensures (c.deref.ensures.0 ∙ c.answer_record.ensures c.args.app.now c.requires.there) in
    stopped_on c.args.app.now start stands.before step.rest step.place step.split c.deref.result.now step.is _
    (c.in-Ended.ensures.leads (reading start) (map (own_record c.args.app.now) stands.before) stands.leads)
