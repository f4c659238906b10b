use Rattle.std.proofs.Common.{List, ℕ, sym, ap, ◌∙◌, arith}
use Rattle.object_words.specs.Leading.{leading_behind}
use Rattle.exchange_words.specs.Learned.{value_found_in}
use Rattle.exchange_words.proofs.Deep.{found_within, deep-each}
use Rattle.exchange_words.proofs.learn.+find_deep.Goals as goal

pub loop-item-init : goal.loop-item-init
loop-item-init t c =
    let found = value_found_in c.args.tag.0 (found_within c.args.more c.args.tag.0) in
    record {
      within = omega arith;
      left = deep-each c.args.more c.args.tag.0 c.args.bytes.now
          ∙ ap (λ (b : List ℕ). found (leading_behind b 0)) (sym c.new-cursor.ensures.bytes)
          ∙ ap (λ (p : ℕ). found (leading_behind c.new-cursor.result.bytes p)) (sym c.new-cursor.ensures.place);
    }
