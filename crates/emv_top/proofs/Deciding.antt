-- In every world of a run, what a purchase without a tear, of a card with applications, was told, and how those that have ended did.
use Rattle.std.proofs.Common.{◌≡◌, ◌≢◌, ◌⊎◌, ℕ, Bool, true, false, ◌&&◌, List, [], length, slice_get, Option, Some, None, refl, sym, ap, ◌∙◌, subst, inl, inr}
use Rattle.std.proofs.lemmas.Bool.{cases_eq}
use Rattle.std.proofs.lemmas.List.{get_or-set_other}
use Rattle.std.proofs.lemmas.Option.{same_Some, slice_get_within, get_or_from_slice_get}
use Rattle.std.specs.Prelude.{is_none, option_map, option_and_then}
use Rattle.card_files.specs.ImageRules.{IsImage}
use Rattle.dialogue_laws.specs.Decisions.{PurchasesAreDecided, HostsAreLinked}
use Rattle.dialogue_laws.specs.WellFormed.{WellFormed}
use Rattle.emv_dict.specs.Settings.{IsSettings}
use Rattle.emv_top.specs.Decided.{IsDecidedAt, AreDecided, RunsAreDecided}
use Rattle.emv_top.proofs.Fates.{IsWhole, WasTold, EndedSo, Came, Behind, store_fate}
use Rattle.kernel.specs.Reply.{Reply}
use Rattle.report_text.specs.declared.line.Line.{Line}
use Rattle.scenario_plan.specs.Cards.{IsKind, CardData}
use Rattle.scenario_plan.specs.Plan.{ScenarioData, IsScenario}
use Rattle.scenario_lanes.specs.Plan.{LaneData}
use Rattle.scenario_lanes.specs.declared.plan.Planned.{Planned}
use Rattle.txn_replay.specs.Part.{Part, Moved}
use Rattle.txn_replay.specs.Payment.{Payment, payment_with, payment_of, payment_on, payment_in, next_of, outset_for}
use Rattle.txn_replay.specs.Run.{RunPlace, Reached, start, scheduled, rounds, round, again, settlement, settling, audit, auditing, finished, lane_over, all_over}
use Rattle.txn_replay.specs.Sound.{IsWorldSound}
use Rattle.txn_replay.specs.Steps.{Settlement, Opens, Sends, settles, settlements, checks, audits, part_of, lane_moved, choice_in, turned, turned_by, Step}
use Rattle.txn_replay.specs.Storing.{lane_piece}
use Rattle.txn_replay.specs.declared.event.Event.TheVariants.{Turn}
use Rattle.txn_replay.specs.World.{Holder, Past, CardRow, LaneRow, World, new_card, new_lane, first_world, card_at, lane_at}
use Rattle.txn_replay.proofs.ExchangeLaws.ExchangeCases.{lane_tells}
use Rattle.txn_replay.proofs.RunLaws.FairRuns.{reached_sound}
use Rattle.txn_replay.proofs.RunLaws.LinesReached.{lane_behind, card_behind}
use Rattle.txn_replay.proofs.Lists.{get_or-map_const}
use Rattle.txn_replay.proofs.ExchangeLaws.LaneMoves.{Moves, Outcome, kept, moves, lane_outcome, this_one}
use Rattle.txn_replay.proofs.ExchangeLaws.PurchaseFacts.{IsPayment, payment_facts}
use Rattle.txn_replay.proofs.ExchangeLaws.LaneMessages.{LanesLike, settle_like, audit_like}
use Rattle.txn_replay.proofs.RunLaws.SoundWorlds.{moved_still, has_card}
use Rattle.txn_replay.proofs.RunLaws.TurnsEnd.{below_over, calm_over}

-- the rules that a purchase's card, terminal and issuer keep
record KeepsRules (p : Payment) : Type 0 where
  image : p.card.canned ≡ None → IsImage p.card.image
  settings : IsSettings p.settings

payment_rules : (s : ScenarioData) (l n : ℕ) (p : Payment) → IsScenario s → payment_in s l n ≡ Some p → KeepsRules p
unfolding payment_in
payment_rules s l n p fits is = by_lane (slice_get s.lanes l) refl is
  where
    by_card : (lane : LaneData) (planned : Planned) (o : Option CardData) → slice_get s.lanes l ≡ Some lane → slice_get s.cards planned.card ≡ o
        → option_map (payment_with s l lane planned) o ≡ Some p → KeepsRules p
    by_card lane planned None lane_there there is = cc
    by_card lane planned (Some card) lane_there there is =
        subst (λ (q : Payment). KeepsRules q) (same_Some (payment_with s l lane planned card) p is)
        (record {
          image = λ apps.
              (let kind : IsKind card.image card.canned =
              subst (λ (x : CardData). IsKind x.image x.canned) (get_or_from_slice_get s.cards planned.card card card there)
              (fits.tables.cards.each planned.card card (slice_get_within s.cards planned.card card there)).kind in
              subst (λ (o : Option (List (List ℕ))). IsKind card.image o) apps kind);
          settings =
              subst (λ (x : LaneData). IsSettings x.settings) (get_or_from_slice_get s.lanes l lane lane lane_there)
              (fits.tables.lanes l lane (slice_get_within s.lanes l lane lane_there)).settings;
        })

    by_planned : (lane : LaneData) (o : Option Planned) → slice_get s.lanes l ≡ Some lane → option_and_then (payment_of s l lane) o ≡ Some p → KeepsRules p
    by_planned lane None lane_there is = cc
    by_planned lane (Some planned) lane_there is = by_card lane planned (slice_get s.cards planned.card) lane_there refl is

    by_lane : (o : Option LaneData) → slice_get s.lanes l ≡ o → option_and_then (payment_on s l n) o ≡ Some p → KeepsRules p
    by_lane None there is = cc
    by_lane (Some lane) there is = by_planned lane (slice_get lane.purchases n) there is

-- each purchase that runs was told what its card and the host said, and each that ended is decided
record Accounts (s : ScenarioData) (w : World) : Type 0 where
  running : (l : ℕ) (replies : List Reply) (p : Payment) → (lane_at w l).running ≡ Some replies → next_of s w l ≡ Some p
      → WasTold p (lane_at w l) (card_at w p.planned.card) replies
  ended : AreDecided s w

-- lanes that differ in the messages that they made alone
like_ended : (s : ScenarioData) (w later : World) → LanesLike later w → AreDecided s w → AreDecided s later
like_ended s w later like decided l number past there =
    decided l number past (ap (λ (row : LaneRow). slice_get row.ended number) (sym (like.each l)) ∙ there)

like_accounts : (s : ScenarioData) (w : World) (lanes : List LaneRow) (messages : List (List ℕ))
    → LanesLike (record { cards = w.cards; lanes = lanes; messages = messages }) w → Accounts s w
    → Accounts s (record { cards = w.cards; lanes = lanes; messages = messages })
like_accounts s w lanes messages like accounts = record {
  running = λ l replies p ran is whole.
      (let one = accounts.running l replies p (ap (λ (row : LaneRow). row.running) (sym (like.each l)) ∙ ran)
      (ap (λ (row : LaneRow). payment_in s l (length row.ended)) (sym (like.each l)) ∙ is) whole in
      (one.0, ap (λ (row : LaneRow). row.began) (like.each l) ∙ one.1, one.2));
  ended = like_ended s w (record { cards = w.cards; lanes = lanes; messages = messages }) like accounts.ended;
}

-- where no lane runs a purchase, the cards don't count
idle_accounts : (s : ScenarioData) (w later : World) → LanesLike later w → ((l : ℕ) → (lane_at w l).running ≡ None) → Accounts s w → Accounts s later
idle_accounts s w later like idle accounts = record {
  running = λ l replies p ran is whole.
      (let none : (lane_at later l).running ≡ None = ap (λ (row : LaneRow). row.running) (like.each l) ∙ idle l in absurd (cc));
  ended = like_ended s w later like accounts.ended;
}

module _ (s : ScenarioData) (w : World) (l : ℕ) (p : Payment) (sound : IsWorldSound s w) (is : next_of s w l ≡ Some p) (accounts : Accounts s w) (m : Moved)
    (so : Moves p (part_of w l p.planned.card) m.part) where
  abbrev later : World
  later = (lane_moved w l p.planned.card m).world

  facts : IsPayment s l p
  facts = payment_facts s l (length (lane_at w l).ended) p is

  lane_here : lane_at later l ≡ m.part.lane
  lane_here = lane_behind s w l p sound is m

  card_here : card_at later p.planned.card ≡ m.part.card
  card_here = card_behind s w l p sound is m

  lane_there : (k : ℕ) → k ≢ l → lane_at later k ≡ lane_at w k
  lane_there k other = get_or-set_other w.lanes l k m.part.lane new_lane other

  -- a purchase of another lane goes on as it did
  told_there : (k : ℕ) → k ≢ l → (replies : List Reply) (q : Payment) → (lane_at later k).running ≡ Some replies → next_of s later k ≡ Some q
      → WasTold q (lane_at later k) (card_at later q.planned.card) replies
  told_there k other replies q ran next =
      let same : lane_at later k ≡ lane_at w k = lane_there k other in
      let was : (lane_at w k).running ≡ Some replies = ap (λ (lane : LaneRow). lane.running) (sym same) ∙ ran in
      let is_next : next_of s w k ≡ Some q = ap (λ (lane : LaneRow). payment_in s k (length lane.ended)) (sym same) ∙ next in
      let holds = has_card s w k q sound is_next replies was in
      let apart : q.planned.card ≢ p.planned.card =
      (λ one. other
      (sym (payment_facts s k (length (lane_at w k).ended) q is_next).lane
      ∙ ap (λ (h : Holder). h.lane) (so.was (this_one q (part_of w k q.planned.card)) (ap (λ i. (card_at w i).holder) (sym one) ∙ holds))
      ∙ facts.lane)) in
      let card : card_at later q.planned.card ≡ card_at w q.planned.card = get_or-set_other w.cards p.planned.card q.planned.card m.part.card new_card apart in
      subst (λ (row : LaneRow). WasTold q row (card_at later q.planned.card) replies) (sym same)
      (subst (λ (c : CardRow). WasTold q (lane_at w k) c replies) (sym card) (accounts.running k replies q was is_next))

  -- it goes on in its own lane
  told_here : ((replies : List Reply) → m.part.lane.running ≡ Some replies → WasTold p m.part.lane m.part.card replies)
      → (replies : List Reply) (q : Payment) → (lane_at later l).running ≡ Some replies → next_of s later l ≡ Some q
      → WasTold q (lane_at later l) (card_at later q.planned.card) replies
  told_here told replies q ran next =
      let now : m.part.lane.running ≡ Some replies = ap (λ (lane : LaneRow). lane.running) (sym lane_here) ∙ ran in
      let count : length (lane_at later l).ended ≡ length (lane_at w l).ended = ap (λ (lane : LaneRow). length lane.ended) lane_here ∙ (so.ran replies now).1 in
      let ps : p ≡ q = same_Some p q (sym is ∙ ap (λ n. payment_in s l n) (sym count) ∙ next) in
      subst (λ (x : Payment). WasTold x (lane_at later l) (card_at later x.planned.card) replies) ps
      (subst (λ (row : LaneRow). WasTold p row (card_at later p.planned.card) replies) (sym lane_here)
      (subst (λ (c : CardRow). WasTold p m.part.lane c replies) (sym card_here) (told replies now)))

  ended_there : (k : ℕ) → k ≢ l → (number : ℕ) (past : Past) → slice_get (lane_at later k).ended number ≡ Some past → IsDecidedAt s k number past
  ended_there k other number past there =
      accounts.ended k number past (ap (λ (lane : LaneRow). slice_get lane.ended number) (sym (lane_there k other)) ∙ there)

  -- and one that ended in it
  ended_here : ((number : ℕ) (past : Past) → slice_get m.part.lane.ended number ≡ Some past
      → (slice_get (lane_at w l).ended number ≡ Some past) ⊎ ((number ≡ length (lane_at w l).ended) × EndedSo p past))
      → (number : ℕ) (past : Past) → slice_get (lane_at later l).ended number ≡ Some past → IsDecidedAt s l number past
  ended_here ended number past there =
      elim (ended number past (ap (λ (lane : LaneRow). slice_get lane.ended number) (sym lane_here) ∙ there)) [
        | inl before ↦ accounts.ended l number past before
        | inr new ↦ decided new.0 new.1
      ]
    where
      decided : number ≡ length (lane_at w l).ended → EndedSo p past → IsDecidedAt s l number past
      decided place so_ended q at tear terminal apps =
          let ps : p ≡ q = same_Some p q (sym is ∙ ap (λ k. payment_in s l k) (sym place) ∙ at) in
          let one = so_ended (subst IsWhole (sym ps) (record { tear = tear; terminal = terminal; apps = apps })) in
          (one.0, one.1, λ formed. one.2 (subst (λ (x : Payment). WellFormed x.card.image (outset_for x) one.0) (sym ps) formed))

  at_lanes : (P : ℕ → Type 0) → P l → ((k : ℕ) → k ≢ l → P k) → (k : ℕ) → P k
  at_lanes P here there k = elim (cases_eq k l) [ inl same ↦ subst P (sym same) here | inr other ↦ there k other ]

  accounts_by : ((replies : List Reply) → m.part.lane.running ≡ Some replies → WasTold p m.part.lane m.part.card replies)
      → ((number : ℕ) (past : Past) → slice_get m.part.lane.ended number ≡ Some past
      → (slice_get (lane_at w l).ended number ≡ Some past) ⊎ ((number ≡ length (lane_at w l).ended) × EndedSo p past))
      → Accounts s later
  accounts_by told ended = record {
    running =
        at_lanes (λ k. (rs : List Reply) (q : Payment) → (lane_at later k).running ≡ Some rs → next_of s later k ≡ Some q
        → WasTold q (lane_at later k) (card_at later q.planned.card) rs)
        (told_here told) told_there;
    ended =
        at_lanes (λ k. (number : ℕ) (past : Past) → slice_get (lane_at later k).ended number ≡ Some past → IsDecidedAt s k number past)
        (ended_here ended) ended_there;
  }

module _ (law : PurchasesAreDecided) (hosts : HostsAreLinked) (s : ScenarioData) (fits : IsScenario s) where
  turn_accounts : (w : World) (l : ℕ) (choices : List Bool) → IsWorldSound s w → Accounts s w → Accounts s (turned s w l choices).world
  turn_accounts w l choices sound accounts = by_next (next_of s w l) refl
    where
      by_outcome : (p : Payment) → next_of s w l ≡ Some p → (m : Moved) → Outcome p (part_of w l p.planned.card) m.part
          → ((replies : List Reply) → m.part.lane.running ≡ Some replies → WasTold p m.part.lane m.part.card replies)
          → ((number : ℕ) (past : Past) → slice_get m.part.lane.ended number ≡ Some past
          → (slice_get (lane_at w l).ended number ≡ Some past) ⊎ ((number ≡ length (lane_at w l).ended) × EndedSo p past))
          → Accounts s (lane_moved w l p.planned.card m).world
      by_outcome p is m (kept same) told ended = subst (λ (x : World). Accounts s x) (sym (moved_still w l p.planned.card m.part same)) accounts
      by_outcome p is m (moves so) told ended = accounts_by s w l p sound is accounts m so told ended

      by_next : (o : Option Payment) → next_of s w l ≡ o → Accounts s (turned_by w l choices o).world
      by_next None is = accounts
      by_next (Some p) is =
          let rules = payment_rules s l (length (lane_at w l).ended) p fits is in
          let part : Part = part_of w l p.planned.card in
          let m : Moved = lane_piece p part (choice_in choices 0) (choice_in choices 1) in
          let told : (replies : List Reply) → part.lane.running ≡ Some replies → WasTold p part.lane part.card replies =
          (λ replies ran. accounts.running l replies p ran is) in
          let behind : Behind law hosts p rules.image rules.settings part told m.part m.lines =
          lane_tells p part (Came law hosts p rules.image rules.settings part told)
          (Behind law hosts p rules.image rules.settings part told)
          (store_fate law hosts p rules.image rules.settings part told) (choice_in choices 0) (choice_in choices 1) in
          by_outcome p is m (lane_outcome p part (choice_in choices 0) (choice_in choices 1) (has_card s w l p sound is)) behind.0 behind.1

  settle_accounts : (w : World) (choices : List Bool) (o : Option Settlement) → Accounts s w → Accounts s (settles s w choices o).world
  settle_accounts w choices None accounts = accounts
  settle_accounts w choices (Some (Opens l)) accounts = like_accounts s w _ _ (settle_like s w choices (Some (Opens l))) accounts
  settle_accounts w choices (Some (Sends l message drops)) accounts = like_accounts s w _ _ (settle_like s w choices (Some (Sends l message drops))) accounts

  -- where all is over, no lane runs a purchase
  idle : (w : World) → IsWorldSound s w → all_over s w ≡ true → (l : ℕ) → (lane_at w l).running ≡ None
  idle w sound over l = by (lane_at w l).running refl
    where
      by : (o : Option (List Reply)) → (lane_at w l).running ≡ o → o ≡ None
      by None is = refl
      by (Some replies) is =
          let runs = sound.runs l replies is in
          let inside = (payment_facts s l (length (lane_at w l).ended) runs.payment runs.is).inside in
          let done : lane_over s w l ≡ true = below_over s w (length s.lanes) l inside over in
          let busy : lane_over s w l ≡ false = ap (λ (o : Option (List Reply)). is_none o && is_none (next_of s w l)) is in
          absurd (cc)

  turn_step : {place : RunPlace} {n : ℕ} {cs c : List Bool} {ls new : List Line} {w later : World} (l : ℕ) (before : Reached s place n cs ls w) → Step s w (Turn l) c new later
      → Accounts s w → Accounts s later
  turn_step {place} {n} {cs} {c} {ls} {new} {w} {later} l before step accounts =
      subst (λ (x : World). Accounts s x) (sym step.leads) (turn_accounts w l c (reached_sound s place n cs ls w before) accounts)

  -- and so for all worlds that a run comes to
  accounted : (place : RunPlace) (n : ℕ) (cs : List Bool) (ls : List Line) (w : World) → Reached s place n cs ls w → Accounts s w
  accounted _ _ _ _ _ start = record {
    running = λ l replies p ran is whole.
        (let none : (lane_at (first_world s) l).running ≡ None = ap (λ (lane : LaneRow). lane.running) (get_or-map_const s.lanes l new_lane) in absurd (cc));
    ended = λ l number past there.
        (let none : (lane_at (first_world s) l).ended ≡ [] = ap (λ (lane : LaneRow). lane.ended) (get_or-map_const s.lanes l new_lane) in
        let nothing : slice_get (lane_at (first_world s) l).ended number ≡ None = ap (λ (pasts : List Past). slice_get pasts number) none in
        absurd (cc));
  }
  accounted _ _ _ _ _ (scheduled {l = l} before at step) = turn_step l before step (accounted _ _ _ _ _ before)
  accounted _ _ _ _ _ (rounds before) = accounted _ _ _ _ _ before
  accounted _ _ _ _ _ (round {l = l} before within busy step) = turn_step l before step (accounted _ _ _ _ _ before)
  accounted _ _ _ _ _ (again before) = accounted _ _ _ _ _ before
  accounted _ _ _ _ _ (settlement before over) = accounted _ _ _ _ _ before
  accounted _ _ _ _ _ (settling {k} {c = c} {w = w} {w' = later} before at step) =
      subst (λ (x : World). Accounts s x) (sym step.leads) (settle_accounts w c (slice_get (settlements s w) k) (accounted _ _ _ _ _ before))
  accounted _ _ _ _ _ (audit before none) = accounted _ _ _ _ _ before
  accounted _ _ _ _ _ (auditing {k} {n} {cs} {c} {ls} {new} {w} {w' = later} before at step) =
      subst (λ (x : World). Accounts s x) (sym step.leads)
      (idle_accounts s w (audits w c (slice_get (checks s) k)).world (audit_like w c (slice_get (checks s) k))
      (idle w (reached_sound s _ _ _ _ w before) (calm_over s _ _ _ _ w before tt)) (accounted _ _ _ _ _ before))
  accounted _ _ _ _ _ (finished before none) = accounted _ _ _ _ _ before

pub runs_decided : PurchasesAreDecided → HostsAreLinked → RunsAreDecided
runs_decided law hosts s place n cs ls w reached fits = (accounted law hosts s fits place n cs ls w reached).ended
