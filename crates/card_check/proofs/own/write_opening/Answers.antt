use Rattle.std.proofs.Common.{◌≡◌, ℕ, List, ap, ◌∙◌, refl, leb-true, length}
use Rattle.card_cryptogram.specs.Options.{options_body}
use Rattle.card_files.specs.Views.{AppData}
use Rattle.card_check.proofs.Opening.{grants, has_room}
use Rattle.card_check.proofs.own.write_opening.Goals as goal

pub unreachable-requires : goal.unreachable-requires
unreachable-requires c =
    has_room c.args.app.now.aip c.args.app.now.afl _ _ c.requires.aip (leb-true (length c.args.app.now.afl) 248 c.requires.afl)
    (ap (λ (a : AppData). a.aip) c.app.view_is) (c.deref.ensures.value ∙ ap (λ (a : AppData). a.afl) c.app.view_is) c.if-not-write_options.ensures.fits

pub returns : goal.returns
returns c =
    let profile : c.app.inside.aip ≡ c.args.app.now.aip = ap (λ (a : AppData). a.aip) c.app.view_is in
    let locator : c.deref.result.now ≡ c.args.app.now.afl = c.deref.ensures.value ∙ ap (λ (a : AppData). a.afl) c.app.view_is in
    grants c.write_response.new.out.items c.deref-2.result.now c.args.app.now.aip c.args.app.now.afl c.write_response.ensures.read_again
    (c.deref-2.ensures.0 ∙ c.if-not-write_options.ensures.body refl ∙ ap (λ (aip : List ℕ). options_body 1 aip c.deref.result.now) profile ∙ ap (options_body 1 c.args.app.now.aip) locator)
    c.requires.aip
