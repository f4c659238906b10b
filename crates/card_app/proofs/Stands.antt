-- What pages stand for behind a cut release, and behind a power-up.
use Rattle.std.proofs.Common.{◌≡◌, ℕ, ◌+◌, ◌<◌, ◌≤◌, Bool, true, false, ◌==◌, ◌&&◌, nat_le, List, [], ◌∷◌, ◌++◌, length, get_or, slice_get, slice_set, Option, Some, None, option_map, refl, ap, sym, subst, ◌∙◌, arith, append-nil, inl}
use Rattle.std.specs.Prelude.{if◌then◌else◌}
use Rattle.std.proofs.lemmas.Bool.Decides.{nat_tests}
use Rattle.std.proofs.lemmas.List.{length-set}
use Rattle.std.proofs.lemmas.Option.{slice_get-get_or}
use Rattle.card_state.specs.Decisions.{Decided}
use Rattle.card_state.specs.Encoding.{encoding, HasShortLogs, IsCardState}
use Rattle.card_state.specs.Totals.{totals}
use Rattle.card_state.specs.declared.state.AppState.{AppState}
use Rattle.card_state.specs.declared.state.CardState.{CardState}
use Rattle.emv_ports.specs.Cut.{names_commit, is_within_writes, cut_at, write_cut, cuts_among, release_cut}
use Rattle.emv_ports.specs.Causes.{one_more}
use Rattle.emv_ports.specs.Memory.{Memory, next, next_release_cut}
use Rattle.torn_store.specs.Placed.{Commits, CommitTorn, ReleaseTorn}
use Rattle.torn_store.specs.Store.{Stored, HasLostPower}
use Rattle.torn_store.proofs.Causes.{cuts_named, release_cut_named}
use Rattle.emv_ports.specs.declared.tear.Cut.TheVariants.{Spared, CutBefore}
use Rattle.emv_ports.specs.declared.tear.Tear.{Tear}
use Rattle.emv_ports.specs.declared.tear.TearAt.{TearAt}
use Rattle.emv_ports.specs.declared.tear.TearAt.TheVariants.{Before, Within, Release}
use Rattle.torn_store.specs.Layout.{recover, commit_writes}
use Rattle.torn_store.specs.Recovery.{Holds, Between}
use Rattle.torn_store.proofs.Outcomes.{has_second}
use Rattle.torn_store.proofs.Stored.{holds_among, some_writes}
use Rattle.card_app.specs.SeenKept.{KeptState, KeptOn, CutAt}
use Rattle.card_app.specs.Cuts.{Cut, Dropped, Pending, cut_of, behind_one, fate_at, fate_by, kept_by, pending_by}
use Rattle.emv_ports.specs.Cut.{commit_of}
use Rattle.card_app.specs.Pages.{StandsFor, StandsBetween, MayStand}
use Rattle.emv_ports.specs.Cell.{Cells}

-- one element changed
pub same_count : (old new : List AppState) (app : ℕ) (behind : AppState → AppState) → app < length old
    → ((s : AppState) → slice_get old app ≡ Some s → new ≡ slice_set old app (behind s)) → length new ≡ length old
same_count [] new app behind inside at = absurd (omega arith)
same_count (s ∷ ss) new app behind inside at =
    let here : AppState = get_or (s ∷ ss) app s in
    ap (λ (xs : List AppState). length xs) (at here (slice_get-get_or (s ∷ ss) app s inside)) ∙ length-set (s ∷ ss) app (behind here)

module _ (cells : Cells) (opening : CardState) (ds : List Decided) (d : Decided) where
  abbrev alone : Cut
  alone = record { before = []; cut = d }

  -- pages that hold the state with a decision stand between that without it and that with it
  with_it_between : IsCardState (totals opening ds) → IsCardState (totals opening (ds ++ d ∷ [])) → HasShortLogs opening
      → Holds recover cells (encoding (totals opening (ds ++ d ∷ []))) → StandsBetween cells opening (ds ++ []) d
  with_it_between fits fits_with short holds =
      let one = encoding (totals opening ds) in
      let other = encoding (totals opening (ds ++ d ∷ [])) in
      let there : StandsBetween cells opening ds d =
      record { fits = fits; fits_with = fits_with; short = short; between = holds_among cells other (one ∷ other ∷ []) holds (has_second one other) } in
      subst (λ (kept : List Decided). StandsBetween cells opening kept d) (sym (append-nil ds)) there

  -- a place that is none of these writes is not the first one
  not_first : (planned writes : ℕ) → 1 ≤ writes → nat_le planned writes ≡ false → (planned == 1) ≡ false
  not_first planned writes some above = grind (arith, nat_tests)

  -- a release that is cut behind some writes leaves a decision that is kept or pending
  pub at_release : (at : TearAt) (writes version : ℕ) → 1 ≤ writes → is_within_writes at writes ≡ false
      → IsCardState (totals opening ds) → IsCardState (totals opening (ds ++ d ∷ [])) → HasShortLogs opening
      → Holds recover cells (encoding (totals opening (ds ++ d ∷ [])))
      → MayStand cells version opening (kept_by (fate_at at) ds alone) (pending_by (fate_at at) alone)
  at_release Release writes version some above fits fits_with short holds =
      subst (λ (kept : List Decided). StandsFor cells version opening (kept ++ d ∷ [])) (sym (append-nil ds))
      (inl (record { fits = fits_with; short = short; holds = holds }))
  at_release (Within planned) writes version some above fits fits_with short holds = with_it_between fits fits_with short holds
  at_release (Before planned) writes version some above fits fits_with short holds =
      rw (not_first planned writes some above) (with_it_between fits fits_with short holds)

  named : (here : Bool) (at : TearAt) (writes : ℕ) → (if here then (if is_within_writes at writes then Spared else CutBefore) else Spared) ≡ CutBefore
      → is_within_writes at writes ≡ false
  named true at writes is = by_test (is_within_writes at writes) is
    where
      by_test : (among : Bool) → (if among then Spared else CutBefore) ≡ CutBefore → among ≡ false
      by_test true is = cc
      by_test false is = refl
  named false at writes is = cc

  pub cut_release : (plan : Option Tear) (commit writes version : ℕ) → release_cut plan commit writes ≡ CutBefore → 1 ≤ writes
      → IsCardState (totals opening ds) → IsCardState (totals opening (ds ++ d ∷ [])) → HasShortLogs opening
      → Holds recover cells (encoding (totals opening (ds ++ d ∷ [])))
      → MayStand cells version opening (kept_by (fate_by plan) ds alone) (pending_by (fate_by plan) alone)
  cut_release None commit writes version is some fits fits_with short holds = cc
  cut_release (Some tear) commit writes version is some fits fits_with short holds =
      at_release tear.at writes version some (named (tear.commit == commit) tear.at writes is) fits fits_with short holds

  kept_still : IsCardState (totals opening ds) → HasShortLogs opening → Holds recover cells (encoding (totals opening ds))
      → (version : ℕ) → StandsFor cells version opening (ds ++ [])
  kept_still fits short holds version =
      subst (λ (kept : List Decided). StandsFor cells version opening kept) (sym (append-nil ds)) (inl (record { fits = fits; short = short; holds = holds }))

  between_still : IsCardState (totals opening ds) → IsCardState (totals opening (ds ++ d ∷ [])) → HasShortLogs opening
      → Between recover cells (encoding (totals opening ds)) (encoding (totals opening (ds ++ d ∷ []))) → StandsBetween cells opening (ds ++ []) d
  between_still fits fits_with short between =
      subst (λ (kept : List Decided). StandsBetween cells opening kept d) (sym (append-nil ds))
      (record { fits = fits; fits_with = fits_with; short = short; between = between })

  none_of_none : (b : Bool) → (b && false) ≡ true → ⊥
  none_of_none true is = cc
  none_of_none false is = cc

  among_named : (named among : Bool) → (named && among) ≡ true → named ≡ true
  among_named true among is = refl
  among_named false among is = is

  -- a write of a commit that is cut leaves the decision dropped or pending
  at_write : (at : TearAt) (is_here : Bool) (writes version : ℕ) → (is_here && is_within_writes at writes) ≡ true
      → IsCardState (totals opening ds) → IsCardState (totals opening (ds ++ d ∷ [])) → HasShortLogs opening
      → Between recover cells (encoding (totals opening ds)) (encoding (totals opening (ds ++ d ∷ [])))
      → ((if is_here then cut_at at 1 else Spared) ≡ CutBefore → Holds recover cells (encoding (totals opening ds)))
      → MayStand cells version opening (kept_by (fate_at at) ds alone) (pending_by (fate_at at) alone)
  at_write (Before planned) is_here writes version is fits fits_with short between before = by_first (planned == 1) refl
    where
      by_first : (first : Bool) → (planned == 1) ≡ first
          → MayStand cells version opening (kept_by (if first then Dropped else Pending) ds alone) (pending_by (if first then Dropped else Pending) alone)
      by_first true test =
          let here : is_here ≡ true = among_named is_here (nat_le planned writes) is in
          let cut : (if is_here then (if planned == 1 then CutBefore else Spared) else Spared) ≡ CutBefore =
          ap (λ b. if b then (if planned == 1 then CutBefore else Spared) else Spared) here ∙ ap (λ b. if b then CutBefore else Spared) test in
          kept_still fits short (before cut) version
      by_first false test = between_still fits fits_with short between
  at_write (Within planned) is_here writes version is fits fits_with short between before = between_still fits fits_with short between
  at_write Release is_here writes version is fits fits_with short between before = absurd (none_of_none is_here is)

  pub cut_write : (plan : Option Tear) (commit writes version : ℕ) → cuts_among plan commit writes ≡ true
      → IsCardState (totals opening ds) → IsCardState (totals opening (ds ++ d ∷ [])) → HasShortLogs opening
      → Between recover cells (encoding (totals opening ds)) (encoding (totals opening (ds ++ d ∷ [])))
      → (write_cut plan commit 1 ≡ CutBefore → Holds recover cells (encoding (totals opening ds)))
      → MayStand cells version opening (kept_by (fate_by plan) ds alone) (pending_by (fate_by plan) alone)
  cut_write None commit writes version is fits fits_with short between before = cc
  cut_write (Some tear) commit writes version is fits fits_with short between before =
      at_write tear.at (tear.commit == commit) writes version is fits fits_with short between before

  module _ (memory lost : Memory) (made : ℕ) where
    -- the commit behind so many decisions has the next number
    next_commit : next (commit_of made) ≡ commit_of (made + 1)
    next_commit = omega arith

    -- the release of a decision's commit is cut
    pub released : (old : Memory) → KeptOn (record { memory = old; state = totals opening ds }) opening ds old.plan made
        → memory.plan ≡ old.plan → memory.commit ≡ next old.commit → memory.losses ≡ old.losses → 1 ≤ memory.writes
        → next_release_cut memory ≡ CutBefore → HasLostPower memory lost → cells ≡ lost.cells
        → IsCardState (totals opening (ds ++ d ∷ [])) → Holds recover cells (encoding (totals opening (ds ++ d ∷ [])))
        → CutAt old lost opening ds (d ∷ []) old.plan made alone
    unfolding cut_of
    released old on same_plan commit losses some is gone same fits_with holds =
        let named : names_commit old.plan (commit_of (made + 1)) ≡ true =
        ap (λ n. names_commit old.plan n) (sym next_commit)
        ∙ ap (λ n. names_commit old.plan (next n)) (sym on.commit_is)
        ∙ ap (λ n. names_commit old.plan n) (sym commit)
        ∙ ap (λ (p : Option Tear). names_commit p memory.commit) (sym same_plan)
        ∙ release_cut_named memory.plan memory.commit memory.writes is in
        record {
          cut = ap (λ b. if b then Some alone else option_map (behind_one d) None) named;
          left = record {
            gone = record { off = gone.off; plan = gone.plan; losses = gone.losses ∙ ap one_more losses };
            stands = λ version.
                subst (λ (cs : Cells). MayStand cs version opening (kept_by (fate_by old.plan) ds alone) (pending_by (fate_by old.plan) alone)) same
                (subst (λ (p : Option Tear). MayStand cells version opening (kept_by (fate_by p) ds alone) (pending_by (fate_by p) alone)) same_plan
                (cut_release memory.plan memory.commit memory.writes version is some on.stands.fits fits_with on.stands.short holds));
          };
        }

module _ (opening : CardState) (ds : List Decided) (d : Decided) where
  -- the release of a decision's commit is cut, in the place of a card
  pub cut_releasing : (old : KeptState) (place written : Stored) (last : Memory) (text : List ℕ) (plan : Option Tear) (made : ℕ) → place.memory ≡ old.memory
      → KeptOn old opening ds plan made → Commits place text written → ReleaseTorn written last
      → text ≡ encoding (totals opening (ds ++ d ∷ [])) → IsCardState (totals opening (ds ++ d ∷ []))
      → CutAt old.memory last opening ds (d ∷ []) plan made (record { before = []; cut = d })
  cut_releasing old place written last text plan made same on wrote torn is fits =
      let cut =
      released last.cells opening ds d written.memory last made old.memory
      (record { state_is = refl; stands = on.stands; plan_is = refl; commit_is = on.commit_is })
      (wrote.plan ∙ ap (λ (m : Memory). m.plan) same)
      (wrote.commit ∙ ap (λ (m : Memory). next m.commit) same)
      (wrote.losses ∙ ap (λ (m : Memory). m.losses) same)
      (some_writes place.state text written.memory.writes wrote.wrote)
      torn.cut torn.gone refl fits
      (subst (λ (s : List ℕ). Holds recover last.cells s) (wrote.state ∙ is) torn.lost) in
      subst (λ (p : Option Tear). CutAt old.memory last opening ds (d ∷ []) p made (record { before = []; cut = d })) on.plan_is cut

  -- one of its writes is
  pub cut_committing : (old : KeptState) (place : Stored) (last : Memory) (text : List ℕ) (plan : Option Tear) (made : ℕ) → place.memory ≡ old.memory
      → place.state ≡ encoding (totals opening ds) → KeptOn old opening ds plan made → CommitTorn place text last
      → text ≡ encoding (totals opening (ds ++ d ∷ [])) → IsCardState (totals opening (ds ++ d ∷ []))
      → CutAt old.memory last opening ds (d ∷ []) plan made (record { before = []; cut = d })
  unfolding cut_of
  cut_committing old place last text plan made same stored on torn is fits =
      let alone : Cut = record { before = []; cut = d } in
      let plan_is : place.memory.plan ≡ plan = ap (λ (m : Memory). m.plan) same ∙ on.plan_is in
      let number : next place.memory.commit ≡ commit_of (made + 1) =
      ap (λ (m : Memory). next m.commit) same ∙ ap (λ (n : ℕ). next n) on.commit_is ∙ next_number made in
      let named : names_commit plan (commit_of (made + 1)) ≡ true =
      ap (λ n. names_commit plan n) (sym number) ∙ ap (λ (p : Option Tear). names_commit p (next place.memory.commit)) (sym plan_is)
      ∙ cuts_named place.memory.plan (next place.memory.commit) (commit_writes place.state text) torn.cut in
      let one : List ℕ = encoding (totals opening ds) in
      let other : List ℕ = encoding (totals opening (ds ++ d ∷ [])) in
      let between : Between recover last.cells one other =
      subst (λ (s : List ℕ). Between recover last.cells s other) stored (subst (λ (s : List ℕ). Between recover last.cells place.state s) is torn.lost) in
      record {
        cut = ap (λ b. if b then Some alone else option_map (behind_one d) None) named;
        left = record {
          gone = record { off = torn.gone.off; plan = torn.gone.plan; losses = torn.gone.losses ∙ ap (λ (m : Memory). one_more m.losses) same };
          stands = λ version.
              subst (λ (p : Option Tear). MayStand last.cells version opening (kept_by (fate_by p) ds alone) (pending_by (fate_by p) alone)) plan_is
              (cut_write last.cells opening ds d place.memory.plan (next place.memory.commit) (commit_writes place.state text) version torn.cut
              on.stands.fits fits on.stands.short between (λ before. subst (λ (s : List ℕ). Holds recover last.cells s) stored (torn.before before)));
        };
      }
    where
      next_number : (made : ℕ) → next (commit_of made) ≡ commit_of (made + 1)
      next_number made = omega arith
