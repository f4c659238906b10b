-- A kernel that has taken one reply more.
use Rattle.std.proofs.Common.{◌≡◌, ap, sym, ◌∙◌, ◌+◌, ◌-◌, ◌^◌, min, ℕ, Bool, true, false, refl, List, [], ◌∷◌, ◌++◌, length, arith}
use Rattle.std.proofs.lemmas.List.{append_assoc, length-append}
use Rattle.std.specs.declared.option.Option.{Option}
use Rattle.emv_dict.specs.declared.purchase.Logged.{Logged}
use Rattle.kernel.specs.StepsInTurn.{Standing}
use Rattle.kernel.specs.Dialogue.{dialogue}
use Rattle.kernel.specs.Kernel.{KernelData, KernelFits, KernelStands, StageGoes, outset_in, kernel_next}
use Rattle.kernel.specs.Reply.{Reply}
use Rattle.kernel.specs.declared.kernel.Next.{Next}
use Rattle.kernel.specs.declared.kernel.Next.TheVariants as next
use Rattle.kernel.specs.declared.stage.Stage.{Stage}
use Rattle.kernel.specs.declared.stage.Stage.TheVariants as stage
use Rattle.object_lists.specs.CardRead.{ReadCard}
use Rattle.terminal_state.specs.StepResults.{StepResult}
use Rattle.terminal_state.specs.Terminal.{Outset}
use Rattle.terminal_state.specs.declared.table.Table.{Table}

-- what is left of a dialogue is known by what it makes of all replies
goes_alike : (t : Table) → (held : Option ReadCard) → (s : Stage) → (log : List Logged) → (rest other : List Reply → Standing StepResult) → ((later : List Reply) → other later ≡ rest later) → StageGoes t held s log rest → StageGoes t held s log other
goes_alike t held (stage.Opening s) log rest other alike goes = record {
  passed = λ later. alike later ∙ goes.passed later;
  tied = goes.tied;
  shows = goes.shows;
}
goes_alike t held (stage.Trading at) log rest other alike goes = record {
  card = goes.card;
  card_is = goes.card_is;
  stands = record {
    steps_done = goes.stands.steps_done;
    passed = λ later. alike later ∙ goes.stands.passed later;
    tied = goes.stands.tied;
    read = goes.stands.read;
    shows = goes.stands.shows;
  };
}

-- a count that stops at the greatest number
count_more : (most n taken now : ℕ) → taken ≡ min n most → now ≡ min (taken + 1) most → now ≡ min (n + 1) most
count_more most n taken now is more = omega arith

-- the reply joins those that were taken
pub kernel_took : (k k2 : KernelData) → (reply : Reply) → (log : List Logged → List Logged) → (replies : List Reply)
    → outset_in k2 ≡ outset_in k → k2.taken ≡ min (k.taken + 1) (2 ^ 64 - 1)
    → ((before : List Logged) → (rest : List Reply → Standing StepResult) → StageGoes k.table k.card k.stage before rest → StageGoes k2.table k2.card k2.stage (log before) (λ later. rest (reply ∷ later)))
    → KernelStands k replies → KernelStands k2 (replies ++ reply ∷ [])
kernel_took k k2 reply log replies same taken goes is = record {
  count = rw (length-append replies (reply ∷ [])) (count_more (2 ^ 64 - 1) (length replies) k.taken k2.taken is.count taken);
  log = log is.log;
  goes = goes_alike k2.table k2.card k2.stage (log is.log) (λ later. dialogue (outset_in k) (replies ++ reply ∷ later)) (λ later. dialogue (outset_in k2) ((replies ++ reply ∷ []) ++ later))
      (λ later. ap (λ (outset : Outset). dialogue outset ((replies ++ reply ∷ []) ++ later)) same ∙ ap (λ (all : List Reply). dialogue (outset_in k) all) (append_assoc replies (reply ∷ []) later))
      (goes is.log (λ later. dialogue (outset_in k) (replies ++ later)) is.goes);
}

-- one that waits for a reply has its end before it
not_spent_by : (spent : Bool) (waits : Next) → (spent ≡ true → waits ≡ next.Ended) → (waits ≡ next.Ended → ⊥) → spent ≡ false
not_spent_by true waits over still = absurd (still (over refl))
not_spent_by false waits over still = refl

pub not_spent : (k : KernelData) (waits : Next) → KernelFits k → kernel_next k ≡ waits → (waits ≡ next.Ended → ⊥) → k.is_spent ≡ false
not_spent k waits fits is still = not_spent_by k.is_spent (kernel_next k) fits.over (λ over. still (sym is ∙ over))
