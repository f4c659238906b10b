-- What a commit leaves that is made or cut, and what the pages stand for then.
use Rattle.std.proofs.Common.{◌≡◌, ℕ, ◌≤◌, Bool, true, false, ◌==◌, nat_le, List, [], ◌∷◌, Option, Some, None, refl, ap, sym, subst, ◌∙◌, arith}
use Rattle.std.specs.Prelude.{if◌then◌else◌}
use Rattle.std.proofs.lemmas.Bool.Decides.{nat_tests}
use Rattle.emv_ports.specs.Causes.{one_more}
use Rattle.emv_ports.specs.Cut.{is_within_writes, release_cut}
use Rattle.emv_ports.specs.Memory.{Memory, next}
use Rattle.emv_ports.specs.declared.tear.Cut.TheVariants.{Spared, CutBefore}
use Rattle.emv_ports.specs.declared.tear.Tear.{Tear}
use Rattle.emv_ports.specs.declared.tear.TearAt.{TearAt}
use Rattle.emv_ports.specs.declared.tear.TearAt.TheVariants.{Before, Within, Release}
use Rattle.torn_store.specs.Layout.{recover}
use Rattle.torn_store.specs.Recovery.{Holds, Between}
use Rattle.torn_store.specs.Placed.{Commits, ReleaseTorn}
use Rattle.torn_store.specs.Store.{Stored}
use Rattle.torn_store.proofs.Causes.{release_cut_named}
use Rattle.torn_store.proofs.Outcomes.{has_second}
use Rattle.torn_store.proofs.Stored.{holds_among, some_writes}
use Rattle.capture_store.specs.Calls.{Call, called, call_left_at, call_left_by}
use Rattle.capture_store.specs.ListPages.{StandsForList, StandsBetweenLists, MayStandForList}
use Rattle.emv_ports.specs.Cell.{Cells}
use Rattle.capture_store.specs.SeenCaptureList.{CaptureListSeen, CutsCall}
use Rattle.capture_store.specs.Spelling.{IsList, IsState, state_of_list, list_of_state}

module _ (cells : Cells) (list : List (List ℕ)) (call : Call) where
  -- what the pages may stand for behind a tear at this place
  abbrev MayAt : TearAt → Type 0
  MayAt at = MayStandForList cells (call_left_at at list call).list (call_left_at at list call).lost

  abbrev pub MayBy : Option Tear → Type 0
  MayBy plan = MayStandForList cells (call_left_by plan list call).list (call_left_by plan list call).lost

  -- a place that is none of these writes is not the first one
  not_first : (number writes : ℕ) → 1 ≤ writes → nat_le number writes ≡ false → (number == 1) ≡ false
  not_first number writes some above = grind (arith, nat_tests)

  -- the release is cut behind some writes
  at_release : (at : TearAt) (writes : ℕ) → 1 ≤ writes → is_within_writes at writes ≡ false → StandsForList cells (called list call)
      → StandsBetweenLists cells list call → MayAt at
  at_release (Before number) writes some above stands between = rw (not_first number writes some above) between
  at_release (Within number) writes some above stands between = between
  at_release Release writes some above stands between = stands

  none_cut : (named among : Bool) → (if named then (if among then Spared else CutBefore) else Spared) ≡ CutBefore → among ≡ false
  none_cut true true is = cc
  none_cut true false is = refl
  none_cut false among is = cc

  by_release : (plan : Option Tear) (commit writes : ℕ) → release_cut plan commit writes ≡ CutBefore → 1 ≤ writes
      → StandsForList cells (called list call) → StandsBetweenLists cells list call → MayBy plan
  by_release None commit writes is some stands between = cc
  by_release (Some tear) commit writes is some stands between =
      at_release tear.at writes some (none_cut (tear.commit == commit) (is_within_writes tear.at writes) is) stands between

module _ (place : Stored) (text : List ℕ) (is : IsState place.state) (text_is : IsState text) (call : Call)
    (behind : list_of_state text ≡ called (list_of_state place.state) call) where
  abbrev list : List (List ℕ)
  list = list_of_state place.state

  text_spelled : text ≡ state_of_list (called list call)
  text_spelled = text_is.spelled ∙ ap state_of_list behind

  fits_called : IsList (called list call)
  fits_called = subst IsList behind text_is.is_list

  between_lists : (cells : Cells) → Between recover cells place.state text → StandsBetweenLists cells list call
  between_lists cells between = record {
    fits = is.is_list;
    fits_called = fits_called;
    between =
        subst (λ (s : List ℕ). Between recover cells s (state_of_list (called list call))) is.spelled
        (subst (λ (s : List ℕ). Between recover cells place.state s) text_spelled between);
  }

  stands_behind : (cells : Cells) → Holds recover cells text → StandsForList cells (called list call)
  stands_behind cells holds = record { fits = fits_called; holds = subst (λ (s : List ℕ). Holds recover cells s) text_spelled holds }

  abbrev seen : CaptureListSeen
  seen = record { memory = place.memory; list = list }

  module _ (written : Stored) (wrote : Commits place text written) where
    -- its release is cut
    torn_release : (last : Memory) → ReleaseTorn written last → CutsCall seen call last
    torn_release last torn =
        let cells = last.cells in
        let holds : Holds recover cells text = subst (λ (s : List ℕ). Holds recover cells s) wrote.state torn.lost in
        let stands = stands_behind cells holds in
        let cut : release_cut place.memory.plan (next place.memory.commit) written.memory.writes ≡ CutBefore =
        ap (λ (p : Option Tear). release_cut p (next place.memory.commit) written.memory.writes) (sym wrote.plan)
        ∙ ap (λ n. release_cut written.memory.plan n written.memory.writes) (sym wrote.commit)
        ∙ torn.cut in
        record {
          cut = release_cut_named place.memory.plan (next place.memory.commit) written.memory.writes cut;
          stands =
              by_release cells list call place.memory.plan (next place.memory.commit) written.memory.writes cut
              (some_writes place.state text written.memory.writes wrote.wrote) stands
              (between_lists cells (holds_among cells text (place.state ∷ text ∷ []) holds (has_second place.state text)));
          behind = λ none. stands;
          gone = record { off = torn.gone.off; plan = torn.gone.plan; losses = torn.gone.losses ∙ ap one_more wrote.losses };
        }

-- the same, of a list that is seen so
module _ (old : CaptureListSeen) (place : Stored) (text : List ℕ) (view : record { memory = place.memory; list = list_of_state place.state } ≡ old)
    (is : IsState place.state) (text_is : IsState text) (call : Call) (behind : list_of_state text ≡ called old.list call) where
  behind_here : list_of_state text ≡ called (list_of_state place.state) call
  behind_here = behind ∙ ap (λ (s : CaptureListSeen). called s.list call) (sym view)

  pub cuts_release : (written : Stored) (last : Memory) → Commits place text written → ReleaseTorn written last → CutsCall old call last
  cuts_release written last wrote torn =
      subst (λ (s : CaptureListSeen). CutsCall s call last) view (torn_release place text is text_is call behind_here written wrote last torn)
