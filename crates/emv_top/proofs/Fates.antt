-- What becomes of a purchase without a tear, of a card with applications, in one exchange: it goes on as its terminal was told, or ends.
use Rattle.std.proofs.Common.{◌≡◌, ◌⊎◌, ℕ, ◌+◌, true, false, List, [], ◌∷◌, length, slice_get, Option, Some, None, refl, sym, ap, ◌∙◌, subst, inl, inr}
use Rattle.std.proofs.lemmas.Option.{same_Some}
use Rattle.capture_store.specs.StoreRow.{commit_next, opened_to_add}
use Rattle.card_app.specs.Answering.{card_answer}
use Rattle.card_files.specs.ImageRules.{IsImage}
use Rattle.card_app.specs.Cuts.{cut_of}
use Rattle.card_app.specs.Pages.{found_of}
use Rattle.card_state.specs.Decisions.{Decided}
use Rattle.dialogue_laws.specs.Cards.{Now}
use Rattle.dialogue_laws.specs.Decisions.{PurchasesAreDecided, HostsAreLinked}
use Rattle.dialogue_laws.specs.UncutPurchase.{IsToldSo, begins, card as told_card, host as told_host, IsLinked}
use Rattle.dialogue_laws.specs.WellFormed.{WellFormed}
use Rattle.emv_dict.specs.Settings.{IsSettings}
use Rattle.emv_ports.specs.Cut.{names_commit}
use Rattle.emv_ports.specs.declared.tear.Tear.{Tear}
use Rattle.emv_top.specs.Decided.{EndsDecided}
use Rattle.host_link.specs.Delivery.{heard}
use Rattle.issuer_host.specs.History.{host_reply}
use Rattle.kernel.specs.Dialogue.{dialogue}
use Rattle.kernel.specs.Ended.{EndData, end_by}
use Rattle.kernel.specs.Reply.{Reply, Deed, ToCard, ToHost, Over}
use Rattle.report_text.specs.declared.line.Line.{Line}
use Rattle.scenario_lanes.specs.declared.plan.Link.{Link}
use Rattle.scenario_lanes.specs.declared.plan.Link.TheVariants.{Sound, RequestLost, ReplyLost, Twice}
use Rattle.terminal_state.specs.StepResults.{StepResult}
use Rattle.terminal_state.specs.Terminal.{Outset}
use Rattle.txn_replay.specs.Part.{Part, loses}
use Rattle.txn_replay.specs.Payment.{Payment, outset_for, end_at}
use Rattle.txn_replay.specs.Storing.{part_with, lane_lost, lane_copied, copied}
use Rattle.txn_replay.specs.World.{Past, CardRow, LaneRow}
use Rattle.txn_replay.proofs.ExchangeLaws.ExchangeCases.{Tells, StoreTells}
use Rattle.txn_replay.proofs.LineLaws.RepliesTold.{last_at}
use Rattle.txn_replay.proofs.ExchangeLaws.LaneMessages.{Later, later_ended}

-- the card of a row, as it stands
abbrev pub now_of : CardRow → Now
now_of card = record { kept = card.kept; session = card.session }

-- no tear is planned for it or for its terminal, and its card has applications
pub record IsWhole (p : Payment) : Type 0 where
  pub tear : p.planned.tear ≡ None
  pub terminal : p.planned.terminal_tear ≡ None
  pub apps : p.card.canned ≡ None

-- where it is whole, its terminal was told what its card and the host said since the power-up, which found what its lane has
abbrev pub WasTold : Payment → LaneRow → CardRow → List Reply → Type 0
WasTold p lane card replies =
    IsWhole p → (found : List Decided) × (lane.began ≡ Some found) × IsToldSo p.card.image (outset_for p) found (now_of card) replies

-- and behind a well-formed card it ended decided
abbrev pub EndedSo : Payment → Past → Type 0
EndedSo p past =
    IsWhole p → (found : List Decided) × (past.began ≡ Some found) × (WellFormed p.card.image (outset_for p) found → EndsDecided past.end)

-- an end record is that of a dialogue that is over
over_of : (outset : Outset) (steps_done : List StepResult) (deed : Deed) (end : EndData) → end_by outset steps_done deed ≡ Some end → deed ≡ Over end.ending
over_of outset steps_done (ToCard command) end is = cc
over_of outset steps_done (ToHost message) end is = cc
over_of outset steps_done (Over ending) end is = ap (λ (o : Option EndData). over_in o) is
  where
    over_in : Option EndData → Deed
    over_in (Some e) = Over e.ending
    over_in None = Over ending

no_cut : (made : ℕ) (ds : List Decided) → cut_of None made ds ≡ None
unfolding cut_of
no_cut made [] = refl
no_cut made (d ∷ ds) = rw (no_cut (made + 1) ds) refl

module _ (law : PurchasesAreDecided) (hosts : HostsAreLinked) (p : Payment) (image : p.card.canned ≡ None → IsImage p.card.image)
    (settings : IsSettings p.settings) (part : Part)
    (told : (replies : List Reply) → part.lane.running ≡ Some replies → WasTold p part.lane part.card replies) where
  abbrev pub Came : LaneRow → List Reply → CardRow → List (List ℕ) → List Line → Type 0
  Came lane replies card messages lines = WasTold p lane card replies

  -- one that runs was told so, and one that ended here ended so
  abbrev pub Behind : Part → List Line → Type 0
  Behind after lines =
      ((replies : List Reply) → after.lane.running ≡ Some replies → WasTold p after.lane after.card replies)
      × ((number : ℕ) (past : Past) → slice_get after.lane.ended number ≡ Some past
      → (slice_get part.lane.ended number ≡ Some past) ⊎ ((number ≡ length part.lane.ended) × EndedSo p past))

  were : (lane : LaneRow) → Later part.lane lane → (number : ℕ) (past : Past) → slice_get lane.ended number ≡ Some past
      → slice_get part.lane.ended number ≡ Some past
  were lane later number past here = ap (λ (pasts : List Past). slice_get pasts number) (sym (later_ended part.lane lane later)) ∙ here

  ended_so : (lane : LaneRow) (replies : List Reply) (card : CardRow) (end : EndData) → WasTold p lane card replies → end_at p replies ≡ Some end
      → EndedSo p (record { began = lane.began; replies = replies; end = Some end; lost = loses p lane.store end.capture })
  ended_so lane replies card end came is whole =
      let one = came whole in (
        one.0,
        one.1,
        λ formed. law p.card.image (outset_for p) one.0 (now_of card) replies end.ending (image whole.apps) settings formed one.2
            (over_of (outset_for p) (dialogue (outset_for p) replies).steps_done (dialogue (outset_for p) replies).deed end is),
      )

  linked : (link : Link) (messages : List (List ℕ)) (message : List ℕ) → IsLinked (heard link (host_reply p.issuer p.accounts messages message))
  linked Sound messages message = hosts p.issuer p.accounts messages message
  linked RequestLost messages message = tt
  linked ReplyLost messages message = tt
  linked Twice messages message = hosts p.issuer p.accounts messages message

  not_whole : (answers : List (List ℕ)) → p.card.canned ≡ Some answers → IsWhole p → ⊥
  not_whole answers is whole = let none : p.card.canned ≡ None = whole.apps in cc

  pub tells_fate : Tells p part Came Behind
  tells_fate = record {
    still = (told, λ number past here. inl here);
    goes = λ lane later replies card messages lines came. (
      λ others runs. subst (λ (rs : List Reply). WasTold p (record lane { running = Some replies }) card rs) (same_Some replies others runs) came,
      λ number past here. inl (were lane later number past here),
    );
    ends = λ lane later replies card messages lines came end is. (
      λ others runs. (cc),
      λ number past here.
          elim (last_at lane.ended (record { began = lane.began; replies = replies; end = Some end; lost = loses p lane.store end.capture }) number past here) [
            | inl before ↦ inl (were lane later number past before)
            | inr last ↦
                inr (
                  last.0 ∙ ap (λ (pasts : List Past). length pasts) (later_ended part.lane lane later),
                  subst (λ (x : Past). EndedSo p x) last.1 (ended_so lane replies card end came is),
                )
          ],
    );
    powers = λ rests free apps choice whole. (found_of part.card.kept part.card.pending choice, refl, begins);
    power_cut = λ rests free apps is whole.
        (let none : names_commit p.planned.tear 0 ≡ false = ap (λ (t : Option Tear). names_commit t 0) whole.tear in absurd (cc));
    powers_canned = λ rests free answers canned whole. absurd (not_whole answers canned whole);
    answers = λ replies runs apps command asks whole.
        (let one = told replies runs whole in (one.0, one.1, told_card part.lane.log one.2 asks));
    cuts = λ replies runs command cut at whole.
        (let new : List Decided = (card_answer p.card.image part.card.kept part.card.session command).new in
        let none : cut_of p.planned.tear part.card.made new ≡ None =
        ap (λ (t : Option Tear). cut_of t part.card.made new) whole.tear ∙ no_cut part.card.made new in
        absurd (cc));
    tells = λ replies runs answers canned command answer whole. absurd (not_whole answers canned whole);
    gone = λ replies runs answers canned command whole. absurd (not_whole answers canned whole);
    hosts = λ replies runs message asks reply is whole.
        (let one = told replies runs whole in (
          one.0,
          one.1,
          told_host reply one.2 asks (subst (λ (o : Option (List ℕ)). IsLinked o) (sym is) (linked p.planned.link part.messages message)),
        ));
  }

-- what comes before a purchase loses it only under a plan for its terminal
module _ (law : PurchasesAreDecided) (hosts : HostsAreLinked) (p : Payment) (image : p.card.canned ≡ None → IsImage p.card.image)
    (settings : IsSettings p.settings) (part : Part)
    (told : (replies : List Reply) → part.lane.running ≡ Some replies → WasTold p part.lane part.card replies) where
  abbrev Kept : Part → List Line → Type 0
  Kept after lines = Behind law hosts p image settings part told after lines

  none_runs : {A : Type 0} → part.lane.running ≡ None → (replies : List Reply) → part.lane.running ≡ Some replies → A
  none_runs rests replies runs = let none : None ≡ Some replies = sym rests ∙ runs in cc

  -- the plan isn't there
  unplanned : (tear : Option Tear) (n : ℕ) → tear ≡ None → names_commit tear n ≡ true → ⊥
  unplanned None n is named = cc
  unplanned (Some tear) n is named = cc

  lost_fate : (after : Part) → after.lane.running ≡ None → after.lane.ended ≡ (lane_lost part.lane).ended → (n : ℕ)
      → names_commit p.planned.terminal_tear n ≡ true → Kept after []
  lost_fate after rests same n named = (
    λ replies runs. (let none : None ≡ Some replies = sym rests ∙ runs in cc),
    λ number past here.
        elim (last_at part.lane.ended (record { began = None; replies = []; end = None; lost = true }) number past
        (ap (λ (pasts : List Past). slice_get pasts number) (sym same) ∙ here)) [
          | inl before ↦ inl before
          | inr last ↦ inr (last.0, λ whole. absurd (unplanned p.planned.terminal_tear n whole.terminal named))
        ],
  )

  pub store_fate : StoreTells p part (Came law hosts p image settings part told) Kept
  store_fate = record {
    own = tells_fate law hosts p image settings part told;
    again = λ one at off. tells_fate law hosts p image settings (part_with (opened_to_add part.lane.store one) part) told;
    opened = λ one at off. (told, λ number past here. inl here);
    lost = λ at cut. lost_fate (record part { lane = lane_lost part.lane }) at.rests refl 0 cut;
    sent = λ at message. (λ replies runs. none_runs at.rests replies runs, λ number past here. inl here);
    sent_lost = λ at message cut.
        lost_fate (record (copied p message part) { lane = lane_lost (lane_copied p message part.lane) }) at.rests refl (commit_next part.lane.store) cut;
  }
