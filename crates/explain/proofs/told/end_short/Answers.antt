use Rattle.narrator.specs.State.{seen_state}
use Rattle.explain.specs.ReportSoFar.{way_in, stand_of}
use Rattle.explain.proofs.Coming.{not_long, few_said, so_far_short_told, stopped_short_told, stopped_untold}
use Rattle.std.proofs.Common.{◌∙◌}
use Rattle.explain.proofs.told.end_short.Goals as goal

pub returns-in-Err-clause-err : goal.returns-in-Err-clause-err
returns-in-Err-clause-err g c = λ seen first s.
    stopped_untold (way_in c.args.teller.now) (stand_of c.args.teller.now) c.args.teller.now.line.items seen first (g.K.Sink.held c.args.sink.now) s

pub returns-in-Ok-put_shown-clause-ok : goal.returns-in-Ok-put_shown-clause-ok
returns-in-Ok-put_shown-clause-ok g c = λ seen first s.
    so_far_short_told (way_in c.args.teller.now) (stand_of c.args.teller.now) (way_in c.tell.new.teller) (stand_of c.tell.new.teller) (seen_state c.tell.new.teller.narrator) c.in-Ok.shown
    c.args.teller.now.line.items c.tell.new.teller.line.items seen c.as_slice.result.now c.tell.new.teller.words.made.bytes c.as_slice-2.result.now c.clear.new.self.items first
    (g.K.Sink.held c.args.sink.now) (g.K.Sink.held c.put_shown.new.sink) c.in-Ok.ensures.way
    (not_long c.tell.new.teller.long (seen_state c.tell.new.teller.narrator) (c.in-Ok.ensures.long ∙ c.requires)) c.in-Ok.ensures.line c.as_slice.ensures.value c.as_slice-2.ensures
    c.clear.ensures c.requires (record { few = few_said c.args.teller.now.line.items c.tell.new.teller.line.items c.as_slice.result.now c.in-Ok.ensures.line c.as_slice.ensures.value c.as_slice.ensures.fits; lines = c.in-Ok.ensures.words; made = c.in-Ok.ensures.made; left = c.in-Ok.ensures.left; kept = c.in-Ok.ensures.kept }) s c.in-Ok-put_shown.ensures.all

pub returns-in-Err-put_shown-clause-err : goal.returns-in-Err-put_shown-clause-err
returns-in-Err-put_shown-clause-err g c = λ seen first s.
    stopped_short_told (way_in c.args.teller.now) (stand_of c.args.teller.now) (seen_state c.tell.new.teller.narrator) c.in-Ok.shown
    c.args.teller.now.line.items c.tell.new.teller.line.items seen c.as_slice.result.now c.tell.new.teller.words.made.bytes c.as_slice-2.result.now first
    (g.K.Sink.held c.args.sink.now) (g.K.Sink.held c.put_shown.new.sink) c.in-Ok.ensures.line c.as_slice.ensures.value c.as_slice-2.ensures
    c.requires (record { few = few_said c.args.teller.now.line.items c.tell.new.teller.line.items c.as_slice.result.now c.in-Ok.ensures.line c.as_slice.ensures.value c.as_slice.ensures.fits; lines = c.in-Ok.ensures.words; made = c.in-Ok.ensures.made; left = c.in-Ok.ensures.left; kept = c.in-Ok.ensures.kept }) s c.in-Err-put_shown.ensures.front
