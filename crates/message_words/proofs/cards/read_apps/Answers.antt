use Rattle.std.proofs.Common.{◌≡◌, ◌<◌, length, sym, ap, ◌∙◌, Some, None, arith}
use Rattle.std.proofs.lemmas.Bool.Decides.{nat_tests}
use Rattle.report_lines.specs.Parts.{split_word}
use Rattle.message_words.specs.Cards.{counters_in}
use Rattle.message_words.proofs.Apps.{reading_more, reading_none, reading_full, reading_end, reading_empty}
use Rattle.message_words.proofs.cards.read_apps.Goals as goal

pub returns-then-len-ge4 : goal.returns-then-len-ge4
returns-then-len-ge4 c =
    let some : 0 < length c.loop-left.left.now = grind (arith, nat_tests, c.loop-left-test.ensures) in
    sym (reading_full _ _ _ some (omega arith) c.loop-left.invariant)

pub returns-in_err-read_counters : goal.returns-in_err-read_counters
returns-in_err-read_counters c =
    let some : 0 < length c.loop-left.left.now = grind (arith, nat_tests, c.loop-left-test.ensures) in
    let is : counters_in (split_word c.loop-left.left.now).0 ≡ None = sym (c.in_err-read_counters.ensures ∙ ap counters_in c.split_word.ensures.before) in
    rw c.from_residual.ensures (sym (reading_none _ _ _ some is c.loop-left.invariant))

pub loop-left-preserved : goal.loop-left-preserved
loop-left-preserved c =
    let some : 0 < length c.loop-left.left.now = grind (arith, nat_tests, c.loop-left-test.ensures) in
    let is : counters_in (split_word c.loop-left.left.now).0 ≡ Some c.in_ok-read_counters.field-0 = sym (c.in_ok-read_counters.ensures ∙ ap counters_in c.split_word.ensures.before) in
    reading_more _ _ _ _ _ _ some (omega arith) is c.split_word.ensures.behind c.push.ensures.items c.loop-left.invariant

pub returns-then-is_empty : goal.returns-then-is_empty
returns-then-is_empty c =
    let none : length c.loop-left.left.now ≡ 0 = grind (arith, nat_tests, c.loop-left-test.ensures) in
    let bare : length c.loop-left.apps.items ≡ 0 = grind (arith, nat_tests, c.if-is_empty.ensures) in
    sym (reading_empty _ _ _ none bare c.loop-left.invariant)

pub returns-else-is_empty : goal.returns-else-is_empty
returns-else-is_empty c =
    let none : length c.loop-left.left.now ≡ 0 = grind (arith, nat_tests, c.loop-left-test.ensures) in
    let some : 0 < length c.loop-left.apps.items = grind (arith, nat_tests, c.if-is_empty.ensures) in
    sym (reading_end _ _ _ none some c.loop-left.invariant)
