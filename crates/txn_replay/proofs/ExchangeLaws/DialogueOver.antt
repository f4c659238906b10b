-- A dialogue that is over, and the purchase that ends with it.
-- Its end record is what the kernel gives, and it stands as the lane's last purchase.
use Rattle.std.proofs.Common.{◌≡◌, List, [], ◌∷◌, ◌++◌, Option, Some, None, refl, sym, subst}
use Rattle.std.specs.Global.{Box}
use Rattle.std.specs.Prelude.{option_map}
use Rattle.std.proofs.lemmas.Option.{same_Some}
use Rattle.kernel.specs.Ended.{EndData}
use Rattle.kernel.specs.Kernel.{KernelData, KernelStands, outset_in}
use Rattle.kernel.specs.Reply.{Reply}
use Rattle.kernel.specs.EndShown.{EndShown, shown_end}
use Rattle.txn_replay.specs.Payment.{Payment, outset_for}
use Rattle.txn_replay.specs.Reading.{last_past}
use Rattle.txn_replay.specs.Standing.{RunStands}
use Rattle.txn_replay.specs.World.{Past}

pub last_past-push : (pasts : List Past) (past : Past) → last_past (pasts ++ past ∷ []) ≡ Some past
last_past-push [] past = refl
last_past-push (x ∷ []) past = refl
last_past-push (x ∷ y ∷ ys) past = last_past-push (y ∷ ys) past

-- what a terminal gives is the record of its dialogue
pub some_shown : (o : Option EndData) (r : EndShown) → option_map shown_end o ≡ Some r → (end : EndData) × (o ≡ Some end) × (shown_end end ≡ r)
some_shown None r given = cc
some_shown (Some end) r given = (end, refl, same_Some (shown_end end) r given)

-- the terminal that runs has taken these replies
pub runs_as : (running : Option (Box KernelData)) (place : Box KernelData) (kernel : KernelData) (p : Payment) (replies : List Reply)
    → running ≡ Some place → kernel ≡ place.value → RunStands running p (Some replies) → KernelStands kernel replies × (outset_in kernel ≡ outset_for p)
runs_as running place kernel p replies is value stands =
    subst (λ (k : KernelData). KernelStands k replies × (outset_in k ≡ outset_for p)) (sym value)
    (subst (λ (o : Option (Box KernelData)). RunStands o p (Some replies)) is stands)

pub rests_as : (running : Option (Box KernelData)) (p : Payment) → running ≡ None → RunStands running p None
rests_as running p is = subst (λ (o : Option (Box KernelData)). RunStands o p None) (sym is) tt
