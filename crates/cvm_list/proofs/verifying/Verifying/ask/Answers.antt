use Rattle.std.proofs.Common.{ap, sym, ◌∙◌, [], List, ℕ, drop, ◌+◌}
use Rattle.cvm_list.proofs.Walk.{asked}
use Rattle.cvm_list.proofs.verifying.Verifying.ask.Goals as goal
use Rattle.cvm_list.specs.Waiting.{verifying_rest}
use Rattle.emv_dict.specs.Progress.{Progress, Wants}
use Rattle.emv_dict.specs.declared.verified.Verified.{Verified}

pub returns : goal.returns
returns c =
    let s = c.self.inside in
    let wants : List ℕ → Progress Verified = λ command. Wants command in
    ap (λ s. verifying_rest s []) (sym c.self.view_is)
    ∙ asked s.found s.caps s.rule (drop (s.at + 1) s.rules.items) s.pin.now s.pins.now c.self.invariant.asks
    ∙ ap wants (sym c.write_verify.ensures)
