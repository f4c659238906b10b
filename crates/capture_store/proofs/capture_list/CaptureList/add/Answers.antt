-- The state that is written is that of the longer list.
use Rattle.std.proofs.Common.{ℕ, List, [], ◌∷◌, ◌++◌, ap, ◌∙◌}
use Rattle.std.proofs.lemmas.Result.{on_ok_weaker, on_err_weaker}
use Rattle.capture_store.specs.Calls.{Adds}
use Rattle.capture_store.specs.SeenCaptureList.{CaptureListSeen}
use Rattle.capture_store.specs.Spelling.{list_of_state}
use Rattle.capture_store.proofs.capture_list.CaptureList.add.Goals as goal

pub returns-clause-made : goal.returns-clause-made
returns-clause-made g c =
    let m : List ℕ = c.args.message.now in
    on_ok_weaker c.commit.result
    (λ made. made (Adds m)
    (ap list_of_state c.as_slice.ensures.value ∙ c.put_longer.ensures.list
    ∙ ap (λ (s : List ℕ). list_of_state s ++ m ∷ []) c.state.ensures.value ∙ ap (λ (s : CaptureListSeen). s.list ++ m ∷ []) c.self.view_is))
    c.commit.ensures.made

pub returns-clause-cut : goal.returns-clause-cut
returns-clause-cut g c =
    let m : List ℕ = c.args.message.now in
    on_err_weaker c.commit.result
    (λ cut. cut (Adds m)
    (ap list_of_state c.as_slice.ensures.value ∙ c.put_longer.ensures.list
    ∙ ap (λ (s : List ℕ). list_of_state s ++ m ∷ []) c.state.ensures.value ∙ ap (λ (s : CaptureListSeen). s.list ++ m ∷ []) c.self.view_is))
    c.commit.ensures.cut
