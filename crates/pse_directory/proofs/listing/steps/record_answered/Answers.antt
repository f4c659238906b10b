use Rattle.std.proofs.Common.{◌≡◌, ◌==◌, true, false, ap, ◌∙◌, arith}
use Rattle.std.proofs.lemmas.Bool.Decides.{nat_tests}
use Rattle.app_select.specs.Named.{all_named}
use Rattle.emv_dict.specs.Views.{SettingsData}
use Rattle.pse_directory.proofs.Stepping.{record_unread, record_past, record_faulty, record_last, record_on, new_kept}
use Rattle.pse_directory.proofs.listing.steps.record_answered.Goals as goal

pub returns-in-Unreadable-clause-step : goal.returns-in-Unreadable-clause-step
returns-in-Unreadable-clause-step c =
    let rows = c.args.settings.now.aids in
    let found = all_named rows c.args.records.found.items in
    record_unread rows c.args.confirm c.args.records.sfi c.args.records.number found c.args.reply.now c.in-Unreadable.ensures.told

pub returns-in-Past-clause-step : goal.returns-in-Past-clause-step
returns-in-Past-clause-step c =
    let rows = c.args.settings.now.aids in
    let found = all_named rows c.args.records.found.items in
    let same : c.as_slice.result.now ≡ c.args.settings.now.aids = c.as_slice.ensures.value ∙ ap (λ (s : SettingsData). s.aids) c.settings.view_is in
    let told = rw same at c.in-Past.ensures.told in
    record_past rows c.args.confirm c.args.records.sfi c.args.records.number found c.args.reply.now told.0 c.requires.reading.few (all_named rows c.read_record.new.found.items) told.1

pub returns-in-Faulty-clause-step : goal.returns-in-Faulty-clause-step
returns-in-Faulty-clause-step c = λ later.
    let rows = c.args.settings.now.aids in
    let found = all_named rows c.args.records.found.items in
    rw c.new.ensures (record_faulty rows c.args.confirm c.args.records.sfi c.args.records.number found c.args.reply.now c.in-Faulty.ensures.told later)

pub returns-then-number-clause-step : goal.returns-then-number-clause-step
returns-then-number-clause-step c =
    let rows = c.args.settings.now.aids in
    let found = all_named rows c.args.records.found.items in
    let same : c.as_slice.result.now ≡ c.args.settings.now.aids = c.as_slice.ensures.value ∙ ap (λ (s : SettingsData). s.aids) c.settings.view_is in
    let told = rw same at c.in-Added.ensures.told in
    let last : (c.args.records.number == 255) ≡ true = grind (arith, nat_tests, c.if-number.true) in
    record_last rows c.args.confirm c.args.records.sfi c.args.records.number found c.args.reply.now told.0 (all_named rows c.read_record.new.found.items) told.1 last c.requires.reading.few told.2

pub returns-else-number-clause-step : goal.returns-else-number-clause-step
returns-else-number-clause-step c =
    let rows = c.args.settings.now.aids in
    let found = all_named rows c.args.records.found.items in
    let same : c.as_slice.result.now ≡ c.args.settings.now.aids = c.as_slice.ensures.value ∙ ap (λ (s : SettingsData). s.aids) c.settings.view_is in
    let told = rw same at c.in-Added.ensures.told in
    let on : (c.args.records.number == 255) ≡ false = grind (arith, nat_tests, c.if-number.false) in
    record_on rows c.args.confirm c.args.records.sfi c.args.records.number found c.args.reply.now told.0 (all_named rows c.read_record.new.found.items) told.1 on c.requires.reading.few told.2

pub invariant_of-result : goal.invariant_of-result
invariant_of-result c =
    let rows = c.args.settings.now.aids in
    let found = all_named rows c.args.records.found.items in
    let same : c.as_slice.result.now ≡ c.args.settings.now.aids = c.as_slice.ensures.value ∙ ap (λ (s : SettingsData). s.aids) c.settings.view_is in
    let told = rw same at c.in-Added.ensures.told in (
      c.requires.settings,
      record {
        file = c.requires.reading.file;
        number = omega (arith, c.if-number.false, c.requires.reading.number);
        rows_there = rw same at c.in-Added.ensures.rows;
        few = new_kept rows c.args.confirm c.args.records.sfi c.args.records.number found c.args.reply.now told.0 (all_named rows c.read_record.new.found.items) c.requires.reading.few told.2;
      },
    )
