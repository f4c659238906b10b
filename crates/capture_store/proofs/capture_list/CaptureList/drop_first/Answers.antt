-- The state that is written is that of the shorter list.
use Rattle.std.proofs.Common.{ℕ, List, drop, ap, ◌∙◌}
use Rattle.std.proofs.lemmas.Result.{on_ok_weaker, on_err_weaker}
use Rattle.capture_store.specs.Calls.{Drops}
use Rattle.capture_store.specs.SeenCaptureList.{CaptureListSeen}
use Rattle.capture_store.specs.Spelling.{list_of_state}
use Rattle.capture_store.proofs.capture_list.CaptureList.drop_first.Goals as goal

pub returns-clause-made : goal.returns-clause-made
returns-clause-made g c =
    on_ok_weaker c.commit.result
    (λ made. made Drops
    (ap list_of_state c.as_slice.ensures.value ∙ c.put_shorter.ensures.list
    ∙ ap (λ (s : List ℕ). drop 1 (list_of_state s)) c.state.ensures.value ∙ ap (λ (s : CaptureListSeen). drop 1 s.list) c.self.view_is))
    c.commit.ensures.made

pub returns-clause-cut : goal.returns-clause-cut
returns-clause-cut g c =
    on_err_weaker c.commit.result
    (λ cut. cut Drops
    (ap list_of_state c.as_slice.ensures.value ∙ c.put_shorter.ensures.list
    ∙ ap (λ (s : List ℕ). drop 1 (list_of_state s)) c.state.ensures.value ∙ ap (λ (s : CaptureListSeen). drop 1 s.list) c.self.view_is))
    c.commit.ensures.cut
