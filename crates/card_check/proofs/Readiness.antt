-- The first part that a card breaks, and what is said of it.
use Rattle.std.proofs.Common.{◌≡◌, Bool, true, false, List, Option, Some, None, Result, Ok, Err, if◌then◌else◌, refl, ap, sym, ◌∙◌, subst}
use Rattle.std.specs.List.{All}
use Rattle.std.specs.Option.{option_or}
use Rattle.card_files.specs.Files.{opening_of}
use Rattle.card_files.specs.Views.{ImageData}
use Rattle.card_state.specs.Decisions.{Decided}
use Rattle.card_state.specs.Totals.{totals}
use Rattle.card_state.specs.declared.state.CardState.{CardState}
use Rattle.card_check.proofs.Clashes.{clear_from, clashing, apart_from, clash_is_none, one_clash}
use Rattle.card_check.proofs.Services.{serves_from, unserved_is}
use Rattle.card_check.proofs.Wholes.{all_whole, broken, broken_is_none, one_broken}
use Rattle.card_check.specs.Judged.{name_clash, some_serves, service_fault, apps_fault, card_fault}
use Rattle.card_check.specs.Reasons.{BreaksPart}
use Rattle.dialogue_laws.specs.WellFormed.{HaveApartNames, CanServe, HasWholeData, WellFormed}
use Rattle.card_check.specs.declared.fault.CardFault.{CardFault}
use Rattle.card_check.specs.declared.fault.CardFault.TheVariants.{Blocked, Clash, Unserved, App}
use Rattle.terminal_state.specs.Terminal.{Outset}

-- the parts of a well-formed card, by its state
record IsReady (image : ImageData) (outset : Outset) (state : CardState) : Type 0 where
  unblocked : state.blocked ≡ false
  apart : HaveApartNames image.apps
  serves : CanServe image state outset
  whole : All HasWholeData image.apps

module _ (image : ImageData) (outset : Outset) (state : CardState) where
  -- what the card breaks behind the parts that hold
  apps_by : state.blocked ≡ false → HaveApartNames image.apps → CanServe image state outset → (fault : CardFault) → apps_fault 0 image.apps ≡ Some fault
      → BreaksPart image outset state fault
  apps_by unblocked apart serves fault some =
      let found = broken image.apps fault some in
      subst (BreaksPart image outset state) (sym found.fault_is) (unblocked, apart, serves, found.broken)

  served_by : state.blocked ≡ false → HaveApartNames image.apps → (some : Bool) → some_serves outset image.apps state.apps.items ≡ some → (fault : CardFault)
      → option_or (service_fault some) (apps_fault 0 image.apps) ≡ Some fault → BreaksPart image outset state fault
  served_by unblocked apart true is fault found = apps_by unblocked apart (serves_from image state outset is) fault found
  served_by unblocked apart false is fault found =
      let same : Unserved ≡ fault = cc in
      subst (BreaksPart image outset state) same (unblocked, apart, unserved_is image state outset is)

  names_by : state.blocked ≡ false → (names : Option CardFault) → name_clash 0 image.apps ≡ names → (fault : CardFault)
      → option_or names (option_or (service_fault (some_serves outset image.apps state.apps.items)) (apps_fault 0 image.apps)) ≡ Some fault
      → BreaksPart image outset state fault
  names_by unblocked None is fault found =
      served_by unblocked (apart_from image.apps (clear_from 0 image.apps is)) (some_serves outset image.apps state.apps.items) refl fault found
  names_by unblocked (Some one) is fault found =
      let here : name_clash 0 image.apps ≡ Some fault = cc in
      let clash = clashing image.apps fault here in
      subst (BreaksPart image outset state) (sym clash.fault_is) (unblocked, clash.clash)

  blocked_by : (blocked : Bool) → state.blocked ≡ blocked → (fault : CardFault)
      → (if blocked then Some Blocked else option_or (name_clash 0 image.apps) (option_or (service_fault (some_serves outset image.apps state.apps.items)) (apps_fault 0 image.apps))) ≡ Some fault
      → BreaksPart image outset state fault
  blocked_by true is fault found = let same : Blocked ≡ fault = cc in subst (BreaksPart image outset state) same is
  blocked_by false is fault found = names_by is (name_clash 0 image.apps) refl fault found

  pub breaks_from : (fault : CardFault) → card_fault image outset state ≡ Some fault → BreaksPart image outset state fault
  unfolding card_fault
  breaks_from fault found = blocked_by state.blocked refl fault found

  -- a card that breaks none is ready
  ready_served : state.blocked ≡ false → HaveApartNames image.apps → (some : Bool) → some_serves outset image.apps state.apps.items ≡ some
      → option_or (service_fault some) (apps_fault 0 image.apps) ≡ None → IsReady image outset state
  ready_served unblocked apart true is none =
      record { unblocked = unblocked; apart = apart; serves = serves_from image state outset is; whole = all_whole 0 image.apps none }
  ready_served unblocked apart false is none = absurd (cc)

  ready_names : state.blocked ≡ false → (names : Option CardFault) → name_clash 0 image.apps ≡ names
      → option_or names (option_or (service_fault (some_serves outset image.apps state.apps.items)) (apps_fault 0 image.apps)) ≡ None
      → IsReady image outset state
  ready_names unblocked None is none =
      ready_served unblocked (apart_from image.apps (clear_from 0 image.apps is)) (some_serves outset image.apps state.apps.items) refl none
  ready_names unblocked (Some one) is none = absurd (cc)

  ready_blocked : (blocked : Bool) → state.blocked ≡ blocked
      → (if blocked then Some Blocked else option_or (name_clash 0 image.apps) (option_or (service_fault (some_serves outset image.apps state.apps.items)) (apps_fault 0 image.apps))) ≡ None
      → IsReady image outset state
  ready_blocked true is none = absurd (cc)
  ready_blocked false is none = ready_names is (name_clash 0 image.apps) refl none

  ready_from : card_fault image outset state ≡ None → IsReady image outset state
  unfolding card_fault
  ready_from none = ready_blocked state.blocked refl none

  -- which contradicts each fault
  breaks_none : IsReady image outset state → (fault : CardFault) → BreaksPart image outset state fault → ⊥
  breaks_none ready Blocked breaks = let open_is = ready.unblocked in cc
  breaks_none ready (Clash first second) breaks = clash_is_none image.apps first second ready.apart breaks.1
  breaks_none ready Unserved breaks = breaks.2 ready.serves
  breaks_none ready (App app fault) breaks = broken_is_none image.apps app fault ready.whole breaks.3

  -- the first part is one alone
  one_first : (f g : CardFault) → BreaksPart image outset state f → BreaksPart image outset state g → f ≡ g
  one_first Blocked Blocked one other = refl
  one_first Blocked (Clash k l) one other = let open_is = other.0 in absurd (cc)
  one_first Blocked Unserved one other = let open_is = other.0 in absurd (cc)
  one_first Blocked (App app g) one other = let open_is = other.0 in absurd (cc)
  one_first (Clash i j) Blocked one other = let open_is = one.0 in absurd (cc)
  one_first (Clash i j) (Clash k l) one other = one_clash image.apps i j k l one.1 other.1
  one_first (Clash i j) Unserved one other = absurd (clash_is_none image.apps i j other.1 one.1)
  one_first (Clash i j) (App app g) one other = absurd (clash_is_none image.apps i j other.1 one.1)
  one_first Unserved Blocked one other = let open_is = one.0 in absurd (cc)
  one_first Unserved (Clash k l) one other = absurd (clash_is_none image.apps k l one.1 other.1)
  one_first Unserved Unserved one other = refl
  one_first Unserved (App app g) one other = absurd (one.2 other.2)
  one_first (App app f) Blocked one other = let open_is = one.0 in absurd (cc)
  one_first (App app f) (Clash k l) one other = absurd (clash_is_none image.apps k l one.1 other.1)
  one_first (App app f) Unserved one other = absurd (other.2 one.2)
  one_first (App i f) (App j g) one other = one_broken image.apps i j f g one.3 other.3

  -- so each is found exactly where it is broken first
  found_by : (fault : CardFault) (found : Option CardFault) → card_fault image outset state ≡ found → BreaksPart image outset state fault → card_fault image outset state ≡ Some fault
  found_by fault None is breaks = absurd (breaks_none (ready_from is) fault breaks)
  found_by fault (Some other) is breaks =
      let same : other ≡ fault = one_first other fault (breaks_from other is) breaks in
      is ∙ ap (λ (f : CardFault). let o : Option CardFault = Some f in o) same

  pub found_from : (fault : CardFault) → BreaksPart image outset state fault → card_fault image outset state ≡ Some fault
  found_from fault breaks = found_by fault (card_fault image outset state) refl breaks

  none_by : (found : Option CardFault) → card_fault image outset state ≡ found → IsReady image outset state → card_fault image outset state ≡ None
  none_by None is ready = is
  none_by (Some fault) is ready = absurd (breaks_none ready fault (breaks_from fault is))

  none_from : IsReady image outset state → card_fault image outset state ≡ None
  none_from ready = none_by (card_fault image outset state) refl ready

-- with the decisions that made the state
well_ready : (image : ImageData) (outset : Outset) (found : List Decided) → IsReady image outset (totals (opening_of image) found) → WellFormed image outset found
well_ready image outset found ready = record { unblocked = ready.unblocked; apart = ready.apart; serves = ready.serves; whole = ready.whole }

ready_well : (image : ImageData) (outset : Outset) (found : List Decided) → WellFormed image outset found → IsReady image outset (totals (opening_of image) found)
ready_well image outset found well = record { unblocked = well.unblocked; apart = well.apart; serves = well.serves; whole = well.whole }

pub well_from : (image : ImageData) (outset : Outset) (found : List Decided) (state : CardState) → state ≡ totals (opening_of image) found → card_fault image outset state ≡ None
    → WellFormed image outset found
well_from image outset found state is none = well_ready image outset found (ready_from image outset (totals (opening_of image) found) (sym (ap (card_fault image outset) is) ∙ none))

pub none_well : (image : ImageData) (outset : Outset) (found : List Decided) (state : CardState) → state ≡ totals (opening_of image) found → WellFormed image outset found
    → card_fault image outset state ≡ None
none_well image outset found state is well = ap (card_fault image outset) is ∙ none_from image outset (totals (opening_of image) found) (ready_well image outset found well)

-- what a check that found a fault says, and one that found none
module _ (image : ImageData) (outset : Outset) (state : CardState) where
  pub well_some : (fault : CardFault) → card_fault image outset state ≡ Some fault → (found : List Decided) → state ≡ totals (opening_of image) found
      → (false ≡ true → WellFormed image outset found) × (WellFormed image outset found → false ≡ true)
  well_some fault is found made = (λ e. absurd (cc), λ well. let none : card_fault image outset state ≡ None = none_well image outset found state made well in absurd (cc))

  pub well_none : card_fault image outset state ≡ None → (found : List Decided) → state ≡ totals (opening_of image) found
      → (true ≡ true → WellFormed image outset found) × (WellFormed image outset found → true ≡ true)
  well_none is found made = (λ e. well_from image outset found state made is, λ well. refl)

  pub reason_some : (fault : CardFault) → card_fault image outset state ≡ Some fault → (other : CardFault)
      → (◌≡◌ {A = Result (Unit {0}) CardFault} (Err fault) (Err other) → BreaksPart image outset state other)
      × (BreaksPart image outset state other → ◌≡◌ {A = Result (Unit {0}) CardFault} (Err fault) (Err other))
  reason_some fault is other = (
    λ e. let same : fault ≡ other = cc in breaks_from image outset state other (is ∙ ap (λ (f : CardFault). let o : Option CardFault = Some f in o) same),
    λ breaks. let there : card_fault image outset state ≡ Some other = found_from image outset state other breaks in let same : fault ≡ other = cc in ap (λ (f : CardFault). let r : Result (Unit {0}) CardFault = Err f in r) same,
  )

  pub reason_none : card_fault image outset state ≡ None → (other : CardFault)
      → (◌≡◌ {A = Result (Unit {0}) CardFault} (Ok tt) (Err other) → BreaksPart image outset state other)
      × (BreaksPart image outset state other → ◌≡◌ {A = Result (Unit {0}) CardFault} (Ok tt) (Err other))
  reason_none is other = (
    λ e. absurd (cc),
    λ breaks. let there : card_fault image outset state ≡ Some other = found_from image outset state other breaks in absurd (cc),
  )
