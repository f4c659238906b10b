-- When no purchase runs and none is left, by the lanes' values and by their world.
-- Both say the same, so the code's answer is that of the definitions.
use Rattle.std.proofs.Common.{◌≡◌, ◌⊎◌, ℕ, zero, suc, ◌+◌, ◌<◌, Bool, true, false, ◌&&◌, List, slice_get, refl, sym, ap, ◌∙◌, inl, inr, arith}
use Rattle.std.proofs.lemmas.Bool.{cases_eq, and_from}
use Rattle.scenario_lanes.specs.Plan.{LaneData}
use Rattle.txn_replay.specs.Seen.{is_lane_done, done_below}
use Rattle.txn_replay.specs.declared.lane.Lane.{Lane}

module _ (terminals : List LaneData) (lanes : List Lane) where
  -- one lane that isn't done
  pub undone_below : (n l : ℕ) → l < n → is_lane_done (slice_get terminals l) (slice_get lanes l) ≡ false → done_below terminals lanes n ≡ false
  undone_below zero l inside undone = absurd (omega arith)
  undone_below (suc n) l inside undone = by place (λ before. undone_below n l before undone)
    where
      place : (l < n) ⊎ (l ≡ n)
      place = elim (cases_eq l n) [ inl same ↦ inr same | inr other ↦ inl (omega arith) ]

      both_false : (a : Bool) → (a && false) ≡ false
      both_false true = refl
      both_false false = refl

      by : (l < n) ⊎ (l ≡ n) → (l < n → done_below terminals lanes n ≡ false) → (is_lane_done (slice_get terminals n) (slice_get lanes n) && done_below terminals lanes n) ≡ false
      by (inl before) others =
          ap (λ b. is_lane_done (slice_get terminals n) (slice_get lanes n) && b) (others before)
          ∙ both_false (is_lane_done (slice_get terminals n) (slice_get lanes n))
      by (inr same) others =
          ap (λ b. b && done_below terminals lanes n) (ap (λ k. is_lane_done (slice_get terminals k) (slice_get lanes k)) (sym same) ∙ undone)

  pub done_next : (n : ℕ) → done_below terminals lanes n ≡ true → is_lane_done (slice_get terminals n) (slice_get lanes n) ≡ true
      → done_below terminals lanes (n + 1) ≡ true
  done_next n before this =
      ap (λ k. done_below terminals lanes k) (let e : n + 1 ≡ suc n = omega arith in e)
      ∙ and_from (is_lane_done (slice_get terminals n) (slice_get lanes n)) (done_below terminals lanes n) this before
