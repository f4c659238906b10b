use Rattle.std.proofs.Common.{◌≡◌, refl, length, sym, ap, ◌∙◌, Some, option_map}
use Rattle.std.specs.declared.option.Option.{Option}
use Rattle.kernel.proofs.Finishing.{kernel_ends, kernel_stays, raised_taken, ends_with_card, nothing_captured}
use Rattle.kernel.proofs.kernel.Kernel.end.Goals as goal
use Rattle.kernel.specs.Ended.{EndData, end_with}
use Rattle.kernel.specs.Kernel.{KernelData, outset_in, kernel_next}
use Rattle.kernel.specs.EndShown.{EndShown, shown_end}
use Rattle.kernel.specs.Tally.{raised}
use Rattle.object_lists.specs.CardRead.{ReadCard}
use Rattle.terminal_state.specs.StepResults.{StateSoFarData}

pub returns-clause-ends : goal.returns-clause-ends
returns-clause-ends c =
    let i = c.self.inside in
    let k : KernelData = record { table = i.table; card = i.card; stage = i.stage; taken = i.taken; is_spent = i.is_spent } in
    let ending = c.ending_of-ending.result in
    let given : c.end_record.result ≡ shown_end (end_with (outset_in k) ending i.card i.table.state_so_far) =
    c.end_record.ensures
    ∙ ap (λ (card : Option ReadCard). shown_end (end_with (outset_in k) ending card c.replace-state_so_far.result)) c.get.ensures
    ∙ ap (λ (state_so_far : StateSoFarData). shown_end (end_with (outset_in k) ending i.card state_so_far)) c.replace-state_so_far.ensures.value in
    record {
      end = λ replies is.
          rw (← c.self.view_is)
          (ap (λ (end : Option EndData). option_map shown_end end)
          (kernel_ends k replies ending c.self.invariant (rw (← c.self.view_is) at is) c.ending_of-ending.ensures)
          ∙ ap (λ (end : EndShown). let some : Option EndShown = Some end in some) (sym given));
      card = λ replies end is ends.
          ends_with_card k replies end ending c.self.invariant (rw (← c.self.view_is) at is) c.ending_of-ending.ensures (rw (← c.self.view_is) at ends)
          ∙ ap (λ (k : KernelData). k.card) c.self.view_is;
      tally = λ replies is.
          c.raise.ensures ∙ raised_taken c.args.tally.now ending i.taken (length replies) (rw (← c.self.view_is) at is).count
          ∙ ap (λ (end : EndShown). raised c.args.tally.now end.ending (length replies)) (sym given);
      stays = λ replies more is.
          rw (← c.self.view_is) (kernel_stays k replies more ending (rw (← c.self.view_is) at is) c.ending_of-ending.ensures);
    }

pub returns-clause-spent : goal.returns-clause-spent
returns-clause-spent c = record {
  card_is = ap (λ (k : KernelData). k.card) c.self.view_is;
  over = ap kernel_next c.self.view_is ∙ c.requires.over;
  spent = refl;
  captured = λ ending. nothing_captured _ ending c.self.inside.card _ (c.replace-state_so_far.ensures.after ∙ c.new.ensures);
}
