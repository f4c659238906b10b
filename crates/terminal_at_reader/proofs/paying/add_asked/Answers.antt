use Rattle.std.proofs.Common.{◌≡◌, ap, rules, ◌∙◌, ◌++◌, List, ℕ}
use Rattle.kernel.specs.Kernel.{kernel_next}
use Rattle.kernel.specs.declared.kernel.Next.TheVariants as next
use Rattle.terminal_at_reader.proofs.Turning.{awaits_turn}
use Rattle.terminal_at_reader.proofs.paying.add_asked.Goals as goal

pub returns : goal.returns
returns c =
    let waits : kernel_next c.args.work.now.kernel ≡ next.Ended → ⊥ = search rules in
    record {
      turn = λ outset replies paying.
          awaits_turn c.args.iso c.args.work.now outset replies c.args.text.now.items c.extend_from_slice.new.self.items paying c.requires.log waits
          (c.tell_ask.ensures.waits replies paying.live.stands)
          (c.in_ok-extend_from_slice.ensures.items
          ∙ ap (λ (l : List ℕ). c.args.text.now.items ++ l) (c.as_slice.ensures.value ∙ c.tell_ask.ensures.told replies paying.live.stands));
    }
