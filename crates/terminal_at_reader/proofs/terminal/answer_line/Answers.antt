use Rattle.terminal_at_reader.proofs.Turning.{at_rest, has_amounts, if_so, in_purchase, in_settlement, pays_fresh, rests_at, settles_below}
use Rattle.std.proofs.Common.{Bool, subst}
use Rattle.terminal_at_reader.specs.Talk.{IsTurnOf, paying_turn, settling_turn}
use Rattle.terminal_at_reader.proofs.terminal.answer_line.Goals as goal

pub answer_paying-requires : goal.answer_paying-requires
answer_paying-requires c =
    let works = c.requires.works in
    record {
      fresh = pays_fresh c.args.work.now works.0 works.1 works.2 c.in-Pays.is;
      log = has_amounts c.args.work.now works.0 works.1 works.2;
    }

pub returns-in-Pays : goal.returns-in-Pays
returns-in-Pays c = record {
  turn =
      if_so _ _ c.answer_paying.result
      (λ onward turn.
      in_purchase c.args.lane.now c.args.work.now c.args.line.now c.answer_paying.new.work c.answer_paying.new.text.items onward c.in-Pays.is
      (λ outset replies paying.
      subst (λ (i : Bool). IsTurnOf c.answer_paying.new.work c.answer_paying.new.text.items onward (paying_turn i outset replies c.args.work.now.till c.args.line.now)) c.is_iso.ensures
      (turn outset replies paying)))
      c.answer_paying.ensures.turn;
}

pub answer_resting-requires : goal.answer_resting-requires
answer_resting-requires c =
    let works = c.requires.works in
    record {
      rules = c.requires.rules;
      few = c.requires.few;
      works = rests_at c.args.work.now works.0 works.1 works.2 c.in-Rests.is;
    }

pub returns-in-Rests : goal.returns-in-Rests
returns-in-Rests c = record {
  turn =
      if_so _ _ c.answer_resting.result
      (λ onward turn. at_rest c.args.lane.now c.args.work.now c.args.line.now c.answer_resting.new.work c.answer_resting.new.text.items onward c.in-Rests.is turn)
      c.answer_resting.ensures.turn;
}

pub answer_settling-requires : goal.answer_settling-requires
answer_settling-requires c =
    let works = c.requires.works in
    record {
      settles = record { phase_is = c.in-Settles.is; waits = settles_below c.args.work.now works.0 works.1 c.in-Settles.answered works.2 c.in-Settles.is };
      log = has_amounts c.args.work.now works.0 works.1 works.2;
    }

pub returns-in-Settles : goal.returns-in-Settles
returns-in-Settles c = record {
  turn =
      if_so _ _ c.answer_settling.result
      (λ onward turn.
      in_settlement c.args.lane.now c.args.work.now c.args.line.now c.answer_settling.new.work c.answer_settling.new.text.items onward c.in-Settles.answered c.in-Settles.is
      (subst (λ (i : Bool). IsTurnOf c.answer_settling.new.work c.answer_settling.new.text.items onward (settling_turn i c.args.work.now.till c.in-Settles.answered c.args.line.now))
      c.is_iso-in-Settles.ensures turn))
      c.answer_settling.ensures.turn;
}
