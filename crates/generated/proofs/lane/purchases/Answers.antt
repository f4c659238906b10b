use Rattle.std.proofs.Common.{◌≡◌, ◌+◌, refl, sym, ap, ◌∙◌}
use Rattle.generated.proofs.Lanes.{purchase_taken, purchase_passed}
use Rattle.generated.proofs.Numbers.{number_more}
use Rattle.generated.specs.Numbers.{next_generated, generated_number}
use Rattle.generated.proofs.lane.purchases.Goals as goal
use Rattle.generated.proofs.lane.purchases.Goals.{then-k-lane+in_ok-planned+in_ok-push, else-k-lane}

pub loop-k-init : goal.loop-k-init
unfolding generated_number
loop-k-init c = record { number = refl; purchases = c.in_ok-purchases.ensures.items }

pub loop-k-preserved : goal.loop-k-preserved
loop-k-preserved c =
    let number : c.next_number-x.result ≡ generated_number c.args.count (c.loop-k.k + 1) =
    c.next_number-x.ensures ∙ ap next_generated c.loop-k.invariant.number ∙ sym (number_more c.args.count c.loop-k.k) in
    record {
      number = number;
      purchases =
          elim c.if-k-lane.branch [
            | then-k-lane+in_ok-planned+in_ok-push w ↦
                ap (λ purchases. purchases.items) w.purchases-is
                ∙ purchase_taken c.args.count c.args.lane c.loop-k.k c.next_number-x.result c.loop-k.purchases.items w.push.new.self.items w.in_ok-planned.field-0
                w.if-k-lane.true w.in_ok-push.ensures.items w.in_ok-planned.ensures number c.loop-k.invariant.purchases
            | else-k-lane w ↦
                ap (λ purchases. purchases.items) w.purchases-is
                ∙ purchase_passed c.args.count c.args.lane c.loop-k.k c.loop-k.purchases.items w.if-k-lane.false c.loop-k.invariant.purchases
          ];
    }
