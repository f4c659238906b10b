-- Rows worked out from the definitions: a run without cards and lanes, one whose only power-up is cut, one with a card that
-- has no canned answer, one whose store is lost at its opening, and steps of a lane with its store.
use Rattle.std.proofs.Common.{◌≡◌, ℕ, Bool, true, false, List, [], ◌∷◌, ◌++◌, Option, Some, None, refl, arith}
use Rattle.std.specs.Prelude.{codes}
use Rattle.app_select.specs.Selecting.{listing}
use Rattle.capture_store.specs.Calls.{Drops}
use Rattle.capture_store.specs.StoreRow.{StoreRow}
use Rattle.emv_dict.specs.Views.{SettingsData}
use Rattle.emv_dict.specs.declared.ending.Ending.TheVariants.{Approved, CutOff}
use Rattle.emv_dict.specs.declared.ending.Step.TheVariants as step
use Rattle.emv_dict.specs.declared.purchase.AidRow.{AidRow}
use Rattle.emv_ports.specs.declared.tear.Tear.{Tear}
use Rattle.emv_ports.specs.declared.tear.TearAt.TheVariants.{Before, Within, Release}
use Rattle.issuer_host.specs.declared.keys.HostKeys.{HostKeys}
use Rattle.kernel.specs.StepsInTurn.{card_step}
use Rattle.kernel.specs.Dialogue.{dialogue}
use Rattle.kernel.specs.Ended.{EndData}
use Rattle.pse_directory.specs.Directory.{selecting_by}
use Rattle.report_text.specs.declared.line.EndParts.{EndParts}
use Rattle.report_text.specs.declared.line.Line.{Line}
use Rattle.report_text.specs.declared.line.Line.TheVariants.{PowerCanned, PowerTorn, ToCard, Gone, End, EndLost, AuditPower, Done}
use Rattle.scenario_plan.specs.Cards.{no_image}
use Rattle.scenario_plan.specs.Plan.{ScenarioData}
use Rattle.scenario_lanes.specs.declared.plan.Link.TheVariants.{Sound}
use Rattle.scenario_lanes.specs.declared.plan.Planned.{Planned}
use Rattle.card_state.specs.Totals.{totals, apps_totals}
use Rattle.txn_replay.specs.Part.{Part, lane_ended, ended_with}
use Rattle.txn_replay.specs.Payment.{Payment, payment_in}
use Rattle.txn_replay.specs.Run.{start, rounds, round, again, settlement, settling, audit, auditing, finished, Run}
use Rattle.txn_replay.specs.Steps.{settlements_from, checks_from, happens}
use Rattle.txn_replay.specs.Storing.{lane_piece}
use Rattle.terminal_state.specs.StepResults.{StateSoFarData}
use Rattle.txn_replay.specs.World.{World, LaneRow, first_world, new_card, new_lane}
use Rattle.txn_replay.specs.declared.event.Event.TheVariants.{Turn, Settle, Audit}

abbrev no_keys : HostKeys
no_keys = record { ac = []; mac = []; enc = []; pin = [] }

abbrev nobody : ScenarioData
nobody = record { issuer = no_keys; accounts = []; cards = []; lanes = []; schedule = []; copies = 1 }

-- `done 0` alone
nobody_runs : Run nobody (Done 0 ∷ []) (first_world nobody)
unfolding settlements_from checks_from
nobody_runs = record { count = 0; choices = []; reported = []; reached = finished (audit (settlement (rounds start) refl) refl) refl; whole = refl }

abbrev row : AidRow
row = record {
  name = 0xA0 ∷ 0x00 ∷ 0x00 ∷ 0x00 ∷ 0x03 ∷ [];
  partial = false;
  version = 0 ∷ 0 ∷ [];
  denial = 0 ∷ 0 ∷ 0 ∷ 0 ∷ 0 ∷ [];
  online = 0 ∷ 0 ∷ 0 ∷ 0 ∷ 0 ∷ [];
  fallback = 0 ∷ 0 ∷ 0 ∷ 0 ∷ 0 ∷ [];
  floor = 0;
  threshold = 0;
  target = 0;
  max_target = 0;
}

-- a purchase whose card's power is cut at the power-up
abbrev cut : Planned
cut = record {
  purchase = record {
    amount = 100;
    other = 0;
    currency = 8 ∷ 0x40 ∷ [];
    trade = 0;
    services = false;
    date = 0x24 ∷ 6 ∷ 0x15 ∷ [];
    time = 0 ∷ 0 ∷ 0 ∷ [];
    number = 0 ∷ 0 ∷ 0 ∷ 0 ∷ [];
    word = 0;
    pins = [];
    forced = false;
    confirm = true;
  };
  card = 0;
  link = Sound;
  tear = Some (record { commit = 0; at = Before 1 });
  terminal_tear = None;
}

abbrev usual : SettingsData
usual = record {
  kind = 22;
  country = 8 ∷ 0x40 ∷ [];
  caps = 0 ∷ 0 ∷ 0 ∷ [];
  id = codes "TERM0001";
  pin_key = [];
  exceptions = [];
  aids = row ∷ [];
  pse = false;
}

abbrev cut_once : ScenarioData
cut_once = record {
  issuer = no_keys;
  accounts = [];
  cards = record { name = codes "c1"; image = no_image; canned = None } ∷ [];
  lanes = record { settings = usual; purchases = cut ∷ []; iso = false; durable = false } ∷ [];
  schedule = [];
  copies = 1;
}

-- how it ends, with nothing found out
abbrev nothing_found : EndParts
nothing_found = record {
  ending = CutOff step.Power;
  tvr = record { 0 = 0 };
  tsi = record { 0 = 0 };
  cvm = 0 ∷ 0 ∷ 0 ∷ [];
  arc = None;
  atc_ac = None;
  scripts = record { items = [] };
}

-- `L0 power c1 torn` and `L0 end 1 cut power`
abbrev cut_lines : List Line
cut_lines = PowerTorn 0 (record { items = codes "c1" }) ∷ End 0 1 nothing_found ∷ []

cut_happens : (choices : List Bool) → (happens cut_once (first_world cut_once) (Turn 0) choices).lines ≡ cut_lines
unfolding payment_in dialogue card_step selecting_by listing
cut_happens choices = refl

abbrev cut_world : World
cut_world = (happens cut_once (first_world cut_once) (Turn 0) []).world

abbrev audited : World
audited = (happens cut_once cut_world (Audit 0) (true ∷ [])).world

-- the only turn, then the audit, which finds a card without applications, and `done 1`
cut_runs : Run cut_once (cut_lines ++ (AuditPower (record { items = codes "c1" }) (record { items = [] }) ∷ Done 1 ∷ [])) audited
unfolding payment_in dialogue card_step selecting_by listing settlements_from checks_from totals apps_totals
cut_runs = record {
  count = 2;
  choices = true ∷ [];
  reported = cut_lines ++ AuditPower (record { items = codes "c1" }) (record { items = [] }) ∷ [];
  reached = finished
      (auditing (audit (settlement (again (round {l = 0} {c = []} {new = cut_lines} {w' = cut_world} (rounds start) (omega arith) (λ first. refl) (record { taken = refl; made = refl; leads = refl }))) refl) refl)
      refl (record { taken = refl; made = refl; leads = refl }))
      refl;
  whole = refl;
}

-- a card of canned answers that has none
abbrev silent_once : ScenarioData
silent_once = record cut_once { cards = record { name = codes "c1"; image = no_image; canned = Some [] } ∷ [] }

-- no tear cuts its power-up: `L0 power c1 canned`
abbrev silent_power : List Line
silent_power = PowerCanned 0 (record { items = codes "c1" }) ∷ []

-- `L0 > 00a4040005a00000000300`, `L0 < gone` and `L0 end 1 cut power` with nothing found out
abbrev silent_lines : List Line
silent_lines =
    ToCard 0 (record { items = 0x00 ∷ 0xA4 ∷ 0x04 ∷ 0x00 ∷ 0x05 ∷ 0xA0 ∷ 0x00 ∷ 0x00 ∷ 0x00 ∷ 0x03 ∷ 0x00 ∷ [] }) ∷ Gone 0 ∷ End 0 1 nothing_found ∷ []

silent_begins : (choices : List Bool) → (happens silent_once (first_world silent_once) (Turn 0) choices).lines ≡ silent_power
unfolding payment_in dialogue card_step selecting_by listing
silent_begins choices = refl

abbrev silent_on : World
silent_on = (happens silent_once (first_world silent_once) (Turn 0) []).world

abbrev silent_world : World
silent_world = (happens silent_once silent_on (Turn 0) []).world

-- both turns, then the audit, which passes the card over, and `done 1`
silent_runs : Run silent_once (silent_power ++ silent_lines ++ (Done 1 ∷ [])) silent_world
unfolding payment_in dialogue card_step selecting_by listing settlements_from checks_from
silent_runs = record {
  count = 2;
  choices = [];
  reported = silent_power ++ silent_lines;
  reached = finished
      (audit
      (settlement
      (again
      (round {l = 0} {c = []} {new = silent_lines} {w' = silent_world}
      (again
      (round {l = 0} {c = []} {new = silent_power} {w' = silent_on} (rounds start) (omega arith) (λ first. refl)
      (record { taken = refl; made = refl; leads = refl })))
      (omega arith) (λ first. refl) (record { taken = refl; made = refl; leads = refl })))
      refl)
      refl)
      refl;
  whole = refl;
}

-- the same purchase in a lane that keeps its captures durably, with this plan for its terminal
abbrev planned_with : Option Tear → Planned
planned_with plan = record cut { terminal_tear = plan }

abbrev durable_once : Option Tear → ScenarioData
durable_once plan = record cut_once {
  lanes = record { settings = usual; purchases = planned_with plan ∷ []; iso = false; durable = true } ∷ [];
}

-- the opening is cut: `L0 end 1 lost`, and the card isn't powered up
abbrev at_opening : ScenarioData
at_opening = durable_once (Some (record { commit = 0; at = Before 1 }))

lost_happens : (choices : List Bool) → (happens at_opening (first_world at_opening) (Turn 0) choices).lines ≡ EndLost 0 1 ∷ []
unfolding payment_in
lost_happens choices = refl

abbrev lost_world : World
lost_world = (happens at_opening (first_world at_opening) (Turn 0) []).world

-- the settlement opens the store, a step without a line, and finds no message
abbrev opened_world : World
opened_world = (happens at_opening lost_world (Settle 0) (false ∷ [])).world

abbrev lost_audited : World
lost_audited = (happens at_opening opened_world (Audit 0) (true ∷ [])).world

lost_runs : Run at_opening (EndLost 0 1 ∷ AuditPower (record { items = codes "c1" }) (record { items = [] }) ∷ Done 1 ∷ []) lost_audited
unfolding payment_in settlements_from checks_from totals apps_totals
lost_runs = record {
  count = 3;
  choices = false ∷ true ∷ [];
  reported = EndLost 0 1 ∷ AuditPower (record { items = codes "c1" }) (record { items = [] }) ∷ [];
  reached = finished
      (auditing {c = true ∷ []}
      (audit
      (settling {c = false ∷ []}
      (settlement
      (again
      (round {l = 0} {c = []} {new = EndLost 0 1 ∷ []} {w' = lost_world} (rounds start) (omega arith) (λ first. refl)
      (record { taken = refl; made = refl; leads = refl })))
      refl)
      refl (record { taken = refl; made = refl; leads = refl }))
      refl)
      refl (record { taken = refl; made = refl; leads = refl }))
      refl;
  whole = refl;
}

-- without a loss the opening takes a truth value, and the purchase goes on in the same turn
opened_lines : (choices : List Bool) → (happens (durable_once None) (first_world (durable_once None)) (Turn 0) choices).lines ≡ cut_lines
unfolding payment_in dialogue card_step listing selecting_by
opened_lines choices = refl

opened_choices : (choices : List Bool) → (happens (durable_once None) (first_world (durable_once None)) (Turn 0) choices).choices ≡ 1
unfolding payment_in dialogue card_step listing selecting_by
opened_choices choices = refl

-- a purchase of the lane with this plan, and the lane with its store open behind so many commits
abbrev paid : Option Tear → Payment
paid plan = record {
  issuer = no_keys;
  accounts = [];
  copies = 2;
  lane = 0;
  iso = false;
  durable = true;
  settings = usual;
  planned = planned_with plan;
  card = record { name = codes "c1"; image = no_image; canned = None };
}

abbrev open_with : List (List ℕ) → ℕ → Bool → StoreRow
open_with list commits due = record { list = list; lost = None; commits = Some commits; due = due; found = None }

abbrev lane_with : StoreRow → LaneRow
lane_with store = record new_lane { store = store }

abbrev part_with : StoreRow → Part
part_with store = record { lane = lane_with store; card = new_card; messages = [] }

-- an approval that is to be captured
abbrev approved : StateSoFarData → EndData
approved state_so_far = record { ending = Approved true; state_so_far = state_so_far; card = None; capture = Some (7 ∷ 8 ∷ []) }

-- its message is added, and the store is turned off
added : (state_so_far : StateSoFarData) →
    (lane_ended (paid None) [] (approved state_so_far) (lane_with (open_with [] 0 false))).store
    ≡ record { list = (7 ∷ 8 ∷ []) ∷ []; lost = None; commits = None; due = false; found = None }
added state_so_far = refl

-- the adding is cut before its first write: the purchase is lost, and its message with it
lost_before : (state_so_far : StateSoFarData) →
    (lane_ended (paid (Some (record { commit = 1; at = Before 1 }))) [] (approved state_so_far) (lane_with (open_with [] 0 false))).store
    ≡ record { list = []; lost = None; commits = None; due = false; found = None }
lost_before state_so_far = refl

lost_line : (state_so_far : StateSoFarData) →
    (ended_with (paid (Some (record { commit = 1; at = Before 1 }))) [] (approved state_so_far) (part_with (open_with [] 0 false)) []).lines
    ≡ EndLost 0 1 ∷ []
lost_line state_so_far = refl

-- at its release: the purchase is lost, and its message is stored
lost_release : (state_so_far : StateSoFarData) →
    (lane_ended (paid (Some (record { commit = 1; at = Release }))) [] (approved state_so_far) (lane_with (open_with [] 0 false))).store
    ≡ record { list = (7 ∷ 8 ∷ []) ∷ []; lost = None; commits = None; due = false; found = None }
lost_release state_so_far = refl

-- the plan names a commit that isn't reached: nothing is lost
unreached : (state_so_far : StateSoFarData) →
    (lane_ended (paid (Some (record { commit = 2; at = Before 1 }))) [] (approved state_so_far) (lane_with (open_with [] 0 false))).store.list
    ≡ (7 ∷ 8 ∷ []) ∷ []
unreached state_so_far = refl

abbrev seven : List (List ℕ)
seven = (1 ∷ []) ∷ (2 ∷ []) ∷ (3 ∷ []) ∷ (4 ∷ []) ∷ (5 ∷ []) ∷ (6 ∷ []) ∷ (7 ∷ []) ∷ []

abbrev six : List (List ℕ)
six = (2 ∷ []) ∷ (3 ∷ []) ∷ (4 ∷ []) ∷ (5 ∷ []) ∷ (6 ∷ []) ∷ (7 ∷ []) ∷ []

-- a full store is opened in a turn of its own
full_opens : (other : Bool) →
    lane_piece (paid None) (part_with (record { list = seven; lost = None; commits = None; due = false; found = None })) true other
    ≡ record { part = part_with (open_with seven 0 true); lines = []; choices = 1 }
full_opens other = refl

-- the next one delivers its first message in two copies and drops it
full_delivers : (one other : Bool) →
    (lane_piece (paid None) (part_with (open_with seven 0 true)) one other).part
    ≡ record {
      lane = record (lane_with (open_with six 1 false)) { sent = (1 ∷ []) ∷ (1 ∷ []) ∷ [] };
      card = new_card;
      messages = (1 ∷ []) ∷ (1 ∷ []) ∷ [];
    }
full_delivers one other = refl

-- the drop is cut within a write: the purchase is lost, and the next opening may find the message dropped or not
drop_lost : (one other : Bool) →
    (lane_piece (paid (Some (record { commit = 1; at = Within 2 }))) (part_with (open_with seven 0 true)) one other).part.lane.store
    ≡ record { list = seven; lost = Some Drops; commits = None; due = false; found = None }
drop_lost one other = refl
