use Rattle.std.proofs.Common.{◌≡◌, ◌≤◌, ◌∙◌, ℕ, false, List, length, map, take, ap}
use Rattle.std.proofs.lemmas.List.{take_all}
use Rattle.card_state.specs.declared.state.CardState.{CardState}
use Rattle.card_files.specs.Files.{opening_of}
use Rattle.card_files.specs.Views.{AppData, ImageData}
use Rattle.card_files.proofs.OpeningLemmas.{opened, no_totals, short_logs}
use Rattle.card_files.proofs.image.Image.opening.Goals as goal

filled : (out : CardState) (items : List AppData) (image : ImageData) (index : ℕ) → length items ≤ index → out.blocked ≡ false
    → out.apps.items ≡ map (λ a. a.opening) (take index items) → items ≡ image.apps → out ≡ opening_of image
filled out items image index past free so_far same =
    opened out image free (so_far ∙ ap (λ (xs : List AppData). map (λ a. a.opening) xs) (take_all index items past ∙ same))

pub returns-clause-value : goal.returns-clause-value
returns-clause-value c =
    filled c.loop-image.out c.apps-image-items.result.now c.args.self.now c.loop-image.image-index c.loop-image-test.false
    c.loop-image.invariant.free c.loop-image.invariant.opened c.apps-image-items.ensures.apps

pub returns-clause-totals : goal.returns-clause-totals
returns-clause-totals c =
    no_totals c.loop-image.out c.args.self.now
    (filled c.loop-image.out c.apps-image-items.result.now c.args.self.now c.loop-image.image-index c.loop-image-test.false
    c.loop-image.invariant.free c.loop-image.invariant.opened c.apps-image-items.ensures.apps)
    c.apps-image-items.ensures.image

pub returns-clause-short : goal.returns-clause-short
returns-clause-short c =
    short_logs c.loop-image.out c.args.self.now
    (filled c.loop-image.out c.apps-image-items.result.now c.args.self.now c.loop-image.image-index c.loop-image-test.false
    c.loop-image.invariant.free c.loop-image.invariant.opened c.apps-image-items.ensures.apps)
    c.apps-image-items.ensures.image
