-- The law, from its parts.
use Rattle.std.proofs.Common.{List, arith}
use Rattle.std.specs.List.{AllByRecursion}
use Rattle.dialogue_laws.proofs.OtherKinds.{unable_asks_none, second_gives}
use Rattle.dialogue_laws.proofs.Codes.{code}
use Rattle.dialogue_laws.proofs.Keeping.{reply_kept}
use Rattle.dialogue_laws.proofs.Leaving.{EachLeaves}
use Rattle.dialogue_laws.proofs.ListsRead.{reading_gives}
use Rattle.dialogue_laws.proofs.Running.{results_begin, waiting_ends}
use Rattle.dialogue_laws.proofs.StepByStep.{dialogue_sound}
use Rattle.dialogue_laws.proofs.PinLengths.{verification_gives}
use Rattle.dialogue_laws.specs.Shadows.{CanStand, ShadowsDoNotCome}
use Rattle.emv_dict.specs.Settings.{IsPurchase}
use Rattle.kernel.specs.Dialogue.{dialogue}
use Rattle.kernel.specs.Reply.{Reply}
use Rattle.terminal_state.specs.Terminal.{Outset}

can_stand : (outset : Outset) → IsPurchase outset.purchase → EachLeaves outset CanStand
can_stand outset purchase = record {
  read = reading_gives;
  restricted = λ bits. tt;
  verified = λ card answers. verification_gives card outset.settings outset.purchase answers purchase.pin_lengths;
  judged = λ judged. tt;
  analysed = λ analysed. tt;
  first = λ ac. tt;
  replied = reply_kept;
  unable_online = λ request tvr codes kind. unable_asks_none tvr codes kind;
  authenticated = λ good. tt;
  before = results_begin;
  second = λ asked given answers. second_gives 0x8D asked given answers;
  behind = results_begin;
  failed = omega arith;
}

-- each finished step leaves what it can
steps : (outset : Outset) (replies : List Reply) → IsPurchase outset.purchase → AllByRecursion CanStand (dialogue outset replies).steps_done
steps outset replies purchase = (dialogue_sound CanStand outset (can_stand outset purchase) replies).0

pub shadows_do_not_come : ShadowsDoNotCome
shadows_do_not_come = record { steps = steps; code = code; script = waiting_ends }
