use Rattle.std.proofs.Common.{◌≡◌, ◌<◌, length, arith}
use Rattle.std.specs.Prelude.{slice_get, Some}
use Rattle.card_files.specs.ImageRules.{KeepsRules}
use Rattle.card_files.specs.Views.{AppData}
use Rattle.card_files.proofs.ControlItems.{is_fci}
use Rattle.card_files.proofs.SizeLemmas.{label_size, pdol_size, lookup}
use Rattle.card_files.proofs.image.Image.fci.Goals as goal

pub write_fci-requires-clause-label : goal.write_fci-requires-clause-label
write_fci-requires-clause-label c =
    let app : AppData = c.index-apps-from.result in
    let within : c.from.result < length c.apps.result.now = omega arith in
    let kept : KeepsRules app = rw (← c.index-apps-from.is) at (c.apps.ensures.rules c.from.result app within) in
    label_size app.label kept.label

pub write_fci-requires-clause-pdol : goal.write_fci-requires-clause-pdol
write_fci-requires-clause-pdol c =
    let app : AppData = c.index-apps-from.result in
    let within : c.from.result < length c.apps.result.now = omega arith in
    let kept : KeepsRules app = rw (← c.index-apps-from.is) at (c.apps.ensures.rules c.from.result app within) in
    pdol_size app.pdol kept.pdol

pub write_fci-requires-clause-room : goal.write_fci-requires-clause-room
write_fci-requires-clause-room c =
    let app : AppData = c.index-apps-from.result in
    let within : c.from.result < length c.apps.result.now = omega arith in
    let kept : KeepsRules app = rw (← c.index-apps-from.is) at (c.apps.ensures.rules c.from.result app within) in
    kept.room

pub returns-clause-bytes : goal.returns-clause-bytes
returns-clause-bytes c =
    let app : AppData = c.index-apps-from.result in
    let within : c.from.result < length c.apps.result.now = omega arith in
    let there : slice_get c.args.self.now.apps c.args.app ≡ Some app =
    rw (c.apps.ensures.apps, c.from.ensures) at (lookup c.apps.result.now c.from.result app within c.index-apps-from.is) in
    rw there c.write_fci.ensures

pub returns-clause-read : goal.returns-clause-read
returns-clause-read c =
    let app : AppData = c.index-apps-from.result in
    let within : c.from.result < length c.apps.result.now = omega arith in
    let there : slice_get c.args.self.now.apps c.args.app ≡ Some app =
    rw (c.apps.ensures.apps, c.from.ensures) at (lookup c.apps.result.now c.from.result app within c.index-apps-from.is) in
    rw there (is_fci app _ c.write_fci.ensures)
