use Rattle.std.proofs.Common.{◌≡◌, ◌≤◌, true, List, ℕ, length, take, drop, Some, sym, ap, subst, arith, ◌∙◌}
use Rattle.std.specs.Prelude.{nat_le}
use Rattle.std.proofs.lemmas.Bool.{and_from, le-leb}
use Rattle.emv_dict.specs.Digits.{AllDecimal, is_pin_length}
use Rattle.emv_dict.specs.Nibbles.{nibbles}
use Rattle.pin_block.specs.Block.{block_of}
use Rattle.pin_block.proofs.Reading.{count_of_block, pin_of_block}
use Rattle.pin_block.proofs.block.read_block.Goals as goal

pub returns-then-not-is_pin_length-clause-reads : goal.returns-then-not-is_pin_length-clause-reads
returns-then-not-is_pin_length-clause-reads c = λ pin is same.
    let count : c.from-count.result ≡ length pin =
    c.from-count.ensures ∙ c.nibble_at.ensures.value ∙ count_of_block c.args.format pin c.args.bytes c.requires is same in
    let least : 4 ≤ c.from-count.result = omega (arith, is.least) in
    let most : c.from-count.result ≤ 12 = omega (arith, is.most) in
    let test : is_pin_length c.from-count.result ≡ true =
    and_from (nat_le 4 c.from-count.result) (nat_le c.from-count.result 12) (le-leb 4 c.from-count.result least) (le-leb c.from-count.result 12 most) in
    let wrong = c.if-not-is_pin_length.ensures in
    cc

pub returns-in-Some-clause-reads : goal.returns-in-Some-clause-reads
returns-in-Some-clause-reads c = λ pin is same.
    let count : c.from-count.result ≡ length pin =
    c.from-count.ensures ∙ c.nibble_at.ensures.value ∙ count_of_block c.args.format pin c.args.bytes c.requires is same in
    let read : c.in-Some.pin ≡ pin =
    c.in-Some.ensures.value ∙ pin_of_block c.args.format pin c.args.bytes c.from-count.result c.requires is same count in
    c.of_block.ensures.same (ap (λ (ds : List ℕ). block_of c.args.format ds) read ∙ same) ∙ ap (λ (ds : List ℕ). Some ds) read

pub returns-in-None-clause-reads : goal.returns-in-None-clause-reads
returns-in-None-clause-reads c = λ pin is same.
    let count : c.from-count.result ≡ length pin =
    c.from-count.ensures ∙ c.nibble_at.ensures.value ∙ count_of_block c.args.format pin c.args.bytes c.requires is same in
    let read : take c.from-count.result (drop 2 (nibbles c.args.bytes)) ≡ pin =
    pin_of_block c.args.format pin c.args.bytes c.from-count.result c.requires is same count in
    let wrong = c.in-None.ensures.digits.1 (subst (λ (ds : List ℕ). AllDecimal ds) (sym read) is.decimal) in
    cc
