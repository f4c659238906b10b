-- What a cut release leaves.
use Rattle.std.proofs.Common.{rules, ap, ◌∙◌}
use Rattle.capture_store.specs.SeenCaptureList.{CaptureListSeen}
use Rattle.capture_store.proofs.Cutting.{cuts_release}
use Rattle.capture_store.proofs.capture_list.CaptureList.commit.Goals as goal

pub returns-in-Err-release-clause-cut : goal.returns-in-Err-release-clause-cut
returns-in-Err-release-clause-cut g c call behind =
    let on = ap (λ (s : CaptureListSeen). s.memory.on) c.self.view_is ∙ c.requires.on in
    let done =
    cuts_release c.args.self.now c.self.inside.place c.args.new.now c.self.view_is (c.self.invariant on) c.requires.state call behind
    c.in-Ok.written.place.now _ c.in-Ok.ensures.commits c.in-Err-release.ensures.torn in
    search (rules, done)
