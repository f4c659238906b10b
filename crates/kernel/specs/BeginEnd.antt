-- Where a kernel's dialogue begins, and where it ends.
use Rattle.std.specs.Prelude.{◌≡◌, ◌≤◌, ◌<◌, ◌+◌, List, [], ◌∷◌, ◌++◌, length, true, false, None, Some, option_map}
use Rattle.emv_dict.specs.declared.ending.Ending.{Ending}
use Rattle.kernel.specs.Dialogue.{dialogue}
use Rattle.kernel.specs.Ended.{EndData, capture, end_of}
use Rattle.kernel.specs.Kernel.{KernelData, KernelStands, outset_in, kernel_next}
use Rattle.kernel.specs.Rank.{kernel_rank}
use Rattle.kernel.specs.Reply.{Reply}
use Rattle.kernel.specs.EndShown.{EndShown, shown_end}
use Rattle.kernel.specs.Tally.{Counts, raised}
use Rattle.kernel.specs.declared.kernel.Next.TheVariants as next
use Rattle.terminal_state.specs.Terminal.{Outset}

-- it begins for this outset: it has taken no reply, and asks the card
pub record HasBegun (outset : Outset) (k : KernelData) : Type 0 where
  pub stands : KernelStands k []
  pub outset_is : outset_in k ≡ outset
  pub waits : kernel_next k ≡ next.ToCard
  pub fresh : k.is_spent ≡ false
  pub unread : k.card ≡ None
  -- a dialogue ends after at most 20,000 replies and one more for each PIN entry
  pub few : kernel_rank k ≤ 20000 + length outset.purchase.pins

-- it has taken this reply: fewer are left, and its end isn't handed out
pub record HasTakenReply (before after : KernelData) (reply : Reply) : Type 0 where
  pub stands : (replies : List Reply) → KernelStands before replies → KernelStands after (replies ++ reply ∷ [])
  pub outset_is : outset_in after ≡ outset_in before
  pub nearer : kernel_rank after < kernel_rank before
  pub fresh : after.is_spent ≡ false

-- it ends in this record, and the tally counts it with the replies that it took
pub record HasEnded (k : KernelData) (before after : Counts) (shown_is : EndShown) : Type 0 where
  pub end : (replies : List Reply) → KernelStands k replies
      → option_map shown_end (end_of (outset_in k) (dialogue (outset_in k) replies)) ≡ Some shown_is
  -- with the card's data, as they stand
  pub card : (replies : List Reply) (end : EndData) → KernelStands k replies
      → end_of (outset_in k) (dialogue (outset_in k) replies) ≡ Some end → end.card ≡ k.card
  pub tally : (replies : List Reply) → KernelStands k replies → after ≡ raised before shown_is.ending (length replies)
  -- further replies change nothing
  pub stays : (replies more : List Reply) → KernelStands k replies
      → dialogue (outset_in k) (replies ++ more) ≡ dialogue (outset_in k) replies

-- its end is handed out, and not again: its card's data stay, and nothing is left that could be captured
pub record IsSpent (before after : KernelData) : Type 0 where
  pub card_is : after.card ≡ before.card
  pub over : kernel_next after ≡ next.Ended
  pub spent : after.is_spent ≡ true
  pub captured : (ending : Ending) → capture (outset_in after) ending after.card after.table.state_so_far ≡ None
