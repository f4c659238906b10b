-- How scripts follow one another.
use Rattle.std.proofs.Common.{◌≡◌, refl, sym, ap, ◌∙◌, ◌<◌, ◌≤◌, ◌==◌, ℕ, zero, suc, Bool, true, false, List, [], ◌∷◌, ◌++◌, length, map, filter, Option, Some, None, option_map, Result, Ok, Err, Bor, slice_get, arith}
use Rattle.std.specs.Prelude.{IfSome, cond, not}
use Rattle.std.proofs.lemmas.List.{length-map}
use Rattle.std.proofs.lemmas.List.Filters.{length-filter_both}
use Rattle.std.specs.List.{AllByRecursion}
use Rattle.auth_message.specs.Reply.{ReplyData}
use Rattle.ber_tlv.proofs.WalkBounds.{ItemsShort, item_values_short}
use Rattle.ber_tlv.specs.Direct.{values_of}
use Rattle.ber_tlv.specs.Item.{ItemData}
use Rattle.ber_tlv.specs.Left.{items_of}
use Rattle.ber_tlv.specs.declared.item.TlvFault.{TlvFault}
use Rattle.emv_dict.specs.Progress.{Progress, Wants, Done}
use Rattle.emv_dict.specs.declared.ending.Ending.{Ending}
use Rattle.emv_dict.specs.declared.ending.Kind.{Kind}
use Rattle.emv_dict.specs.declared.ending.Step.{Step}
use Rattle.emv_dict.specs.declared.ending.Step.TheVariants as step
use Rattle.emv_dict.specs.declared.purchase.Logged.{Logged}
use Rattle.kernel.proofs.Courses.{done, taken}
use Rattle.kernel.specs.StepsInTurn.{Standing, Rest, card_step, cut_off}
use Rattle.kernel.specs.Dialogue.{TransactionData, scripts_before, scripts_behind, left_script, second, kind_for}
use Rattle.kernel.specs.Reply.{Reply, CardSaid}
use Rattle.kernel.specs.Stages.{TradingStands, Begins}
use Rattle.kernel.specs.declared.stage.OnlineOutcome.TheVariants.{Replied}
use Rattle.kernel.specs.declared.stage.Trading.TheVariants as trading
use Rattle.object_lists.specs.CardRead.{ReadCard}
use Rattle.script_run.specs.Leading.{RunNextLeads}
use Rattle.script_run.specs.Ran.{template_ran}
use Rattle.script_run.specs.declared.running.RunNext.{RunNext}
use Rattle.script_run.specs.declared.running.RunNext.TheVariants as run
use Rattle.terminal_state.specs.StepResults.{StepResult, HasRunBefore, HasRunBehind, state_so_far, latest, sets_card}
use Rattle.terminal_state.specs.Scripts.{templates_of_tag, AreFew}
use Rattle.terminal_state.specs.declared.table.Table.{Table}

pub get_within : {A : Type 0} (xs : List A) (n : ℕ) (x : A) → slice_get xs n ≡ Some x → n < length xs
get_within [] n x is = cc
get_within (y ∷ xs) zero x is = omega arith
get_within (y ∷ xs) (suc n) x is = let less = get_within xs n x is in omega arith

-- a script begins
pub script_begins : (t : Table) → (transaction : TransactionData) → (reply : ReplyData) → (left others : List (List ℕ)) → (template : List ℕ) → (steps_done : List StepResult) → (log : List Logged) → (rest : List Reply → Standing StepResult) → left ≡ template ∷ others → Begins t transaction.card steps_done rest (scripts_before transaction reply left steps_done log)
    → Begins t transaction.card steps_done rest (card_step (cut_off steps_done) step.Script step.Script steps_done (template_ran template) (λ found. scripts_before transaction reply others (HasRunBefore found ∷ steps_done)) log)
unfolding scripts_before
script_begins t transaction reply left others template steps_done log rest is begins = record {
  passed = λ later. begins.passed later ∙ rw is refl;
  tied = begins.tied;
  read = begins.read;
}

-- no script is left
pub scripts_end : (t : Table) → (transaction : TransactionData) → (reply : ReplyData) → (asked : Kind) → (left : List (List ℕ)) → (steps_done : List StepResult) → (log : List Logged) → (rest : List Reply → Standing StepResult) → left ≡ [] → asked ≡ kind_for reply.code → Begins t transaction.card steps_done rest (scripts_before transaction reply left steps_done log)
    → Begins t transaction.card steps_done rest (second transaction Replied asked (templates_of_tag 0x72 reply.scripts) steps_done log)
unfolding scripts_before
scripts_end t transaction reply asked left steps_done log rest none is begins = record {
  passed = λ later. begins.passed later ∙ rw none (ap (λ (kind : Kind). second transaction Replied kind (templates_of_tag 0x72 reply.scripts) steps_done log later) (sym is));
  tied = begins.tied;
  read = begins.read;
}

-- the same behind the second cryptogram
pub behind_begins : (t : Table) → (card : ReadCard) → (ending : Ending) → (left others : List (List ℕ)) → (template : List ℕ) → (steps_done : List StepResult) → (log : List Logged) → (rest : List Reply → Standing StepResult) → left ≡ template ∷ others → Begins t card steps_done rest (scripts_behind ending left steps_done log)
    → Begins t card steps_done rest (card_step (left_script ending others steps_done) step.Script step.Script steps_done (template_ran template) (λ found. scripts_behind ending others (HasRunBehind found ∷ steps_done)) log)
unfolding scripts_behind
behind_begins t card ending left others template steps_done log rest is begins = record {
  passed = λ later. begins.passed later ∙ rw is refl;
  tied = begins.tied;
  read = begins.read;
}

pub behind_end : (t : Table) → (transaction : TransactionData) → (ending : Ending) → (left : List (List ℕ)) → (steps_done : List StepResult) → (log : List Logged) → (rest : List Reply → Standing StepResult) → left ≡ [] → Begins t transaction.card steps_done rest (scripts_behind ending left steps_done log)
    → TradingStands t transaction (trading.Over ending) log rest
unfolding scripts_behind
behind_end t transaction ending left steps_done log rest none begins = record {
  steps_done = steps_done;
  passed = λ later. begins.passed later ∙ rw none refl;
  tied = begins.tied;
  read = begins.read;
  shows = tt;
}

-- what follows an answer, for the whole behind it
pub run_shifted : (whole : List (List ℕ) → Progress (List ℕ)) → (answer : List ℕ) → (next : RunNext) → RunNextLeads whole ([] ++ answer ∷ []) next → RunNextLeads (λ later. whole (answer ∷ later)) [] next
run_shifted whole answer (run.Ask state) leads = leads
run_shifted whole answer (run.Done found) leads = leads

-- a step whose end where the card is gone is its own goes on behind an answer
pub left_taken : {A : Type 0} → (t : Table) → (card : ReadCard) → (left : Step → (List (List ℕ) → Progress A) → Standing StepResult) → (step : Step) → (steps_done : List StepResult) → (log now : List Logged) → (course : List (List ℕ) → Progress A) → (next : A → Rest StepResult) → (command : List ℕ) → (rest : List Reply → Standing StepResult) → ((later : List Reply) → rest later ≡ card_step left step step steps_done course next log later) → t.state_so_far ≡ state_so_far steps_done → latest sets_card None steps_done ≡ Some card → course [] ≡ Wants command → (answer : List ℕ) → Begins t card steps_done (λ later. rest (CardSaid answer now ∷ later)) (card_step left step step steps_done (λ later. course (answer ∷ later)) next now)
left_taken t card left step steps_done log now course next command rest passed tied read wants answer = record {
  passed = λ later. passed (CardSaid answer now ∷ later) ∙ taken left step step steps_done course next log command wants answer now later;
  tied = tied;
  read = read;
}

-- and the next one begins where it is done
pub left_next : {A : Type 0} → (t t2 : Table) → (card : ReadCard) → (left : Step → (List (List ℕ) → Progress A) → Standing StepResult) → (step : Step) → (steps_done marks2 : List StepResult) → (log : List Logged) → (course : List (List ℕ) → Progress A) → (next : A → Rest StepResult) → (value : A) → (rest : List Reply → Standing StepResult) → t2.state_so_far ≡ state_so_far marks2 → latest sets_card None marks2 ≡ latest sets_card None steps_done → Begins t card steps_done rest (card_step left step step steps_done course next log) → ((later : List (List ℕ)) → course later ≡ Done value later) → Begins t2 card marks2 rest (next value log)
left_next t t2 card left step steps_done marks2 log course next value rest tied kept begins is = record {
  passed = λ later. begins.passed later ∙ done left step step steps_done course next value is log later;
  tied = tied;
  read = kept ∙ begins.read;
}

get_short : (most : ℕ) (xs : List (List ℕ)) (n : ℕ) (x : List ℕ) → AllByRecursion (λ v. length v ≤ most) xs → slice_get xs n ≡ Some x → length x ≤ most
get_short most [] n x short is = cc
get_short most (y ∷ xs) zero x short is = let same : y ≡ x = cc in rw (← same) short.0
get_short most (y ∷ xs) (suc n) x short is = get_short most xs n x short.1 is

kept_short : (most tag : ℕ) (items : List ItemData) → AllByRecursion (λ item. length item.value ≤ most) items → AllByRecursion (λ v. length v ≤ most) (map (λ item. item.value) (filter (λ item. item.tag == tag) items))
kept_short most tag [] short = tt
kept_short most tag (item ∷ items) short = by (item.tag == tag) (kept_short most tag items short.1)
  where
    by : (b : Bool) → AllByRecursion (λ v. length v ≤ most) (map (λ item. item.value) (filter (λ item. item.tag == tag) items)) → AllByRecursion (λ v. length v ≤ most) (map (λ item. item.value) (cond b (item ∷ filter (λ item. item.tag == tag) items) (filter (λ item. item.tag == tag) items)))
    by true rest = (short.0, rest)
    by false rest = rest

values_of-short : (most tag : ℕ) (read : Result (List ItemData) TlvFault) → ItemsShort most read → AllByRecursion (λ v. length v ≤ most) (values_of tag read)
values_of-short most tag (Ok items) short = kept_short most tag items short
values_of-short most tag (Err fault) short = tt

pub template_short : (found : Option (Bor (List ℕ))) (tag : ℕ) (scripts : List ℕ) (index : ℕ) → length scripts ≤ 1024 → option_map (λ value. value.now) found ≡ slice_get (templates_of_tag tag scripts) index → IfSome found (λ value. length value.now ≤ 1024)
unfolding templates_of_tag
template_short None tag scripts index short same = tt
template_short (Some value) tag scripts index short same = get_short 1024 (values_of tag (items_of scripts)) index value.now (values_of-short 1024 tag (items_of scripts) (item_values_short 1024 scripts short)) (sym same)

values_of-few : (tag : ℕ) (read : Result (List ItemData) TlvFault) (items : List ItemData) → read ≡ Ok items → length (values_of tag read) ≤ length items
values_of-few tag (Ok others) items is =
    let same : others ≡ items = cc in
    let both = length-filter_both (λ (item : ItemData). item.tag == tag) (λ item. not (item.tag == tag)) (λ item. refl) items in
    rw same (simp length-map (omega arith))
values_of-few tag (Err fault) items is = cc

pub template_few : (found : Option (Bor (List ℕ))) (tag : ℕ) (scripts : List ℕ) (index : ℕ) → AreFew scripts → option_map (λ value. value.now) found ≡ slice_get (templates_of_tag tag scripts) index → IfSome found (λ _. index < 8)
unfolding templates_of_tag
template_few None tag scripts index few same = tt
template_few (Some value) tag scripts index few same =
    let within = get_within (values_of tag (items_of scripts)) index value.now (sym same) in
    let count = values_of-few tag (items_of scripts) few.items few.listed in
    let most = few.few in
    omega arith
