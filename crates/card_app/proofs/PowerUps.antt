-- What a power-up finds, and what the pages stand for where it is cut.
use Rattle.std.proofs.Common.{◌≡◌, ◌⊎◌, ◌<◌, ℕ, zero, suc, Bool, true, false, List, [], ◌∷◌, ◌++◌, Option, Some, None, option_map, unwrap_or, get_or, sym, ap, subst, ◌∙◌, lit<, arith, inl, inr}
use Rattle.std.specs.Prelude.{Contains}
use Rattle.card_state.specs.Decisions.{Decided}
use Rattle.card_state.specs.Encoding.{encoding, encoding_one, HasShortLogs, IsCardState}
use Rattle.card_state.specs.Totals.{totals}
use Rattle.card_state.specs.Upgrade.{with_limits}
use Rattle.card_state.specs.declared.state.CardState.{CardState}
use Rattle.card_state.proofs.Decoded.{decoded_one-encoding, decoded_one-encoding_one}
use Rattle.card_state.proofs.UpgradeLemmas.{upgraded-opening}
use Rattle.emv_ports.specs.declared.tear.Tear.{Tear}
use Rattle.emv_ports.specs.Memory.{Memory}
use Rattle.torn_store.specs.Conversion.{converted}
use Rattle.torn_store.specs.Layout.{recover}
use Rattle.torn_store.specs.Recovery.{Holds, Among, Between}
use Rattle.torn_store.proofs.Outcomes.{has_first, among_within}
use Rattle.torn_store.proofs.Stored.{alike, holds_among, one_of_two}
use Rattle.card_app.specs.Pages.{IsFresh, MayStand, found_of, upgraded}
use Rattle.emv_ports.specs.Cell.{Cells}
use Rattle.card_app.specs.SeenKept.{KeptOn}

third_at : (a b c state : List ℕ) → (c ≡ a) ⊎ (c ≡ b) → c ≡ state → Contains (a ∷ b ∷ []) state
third_at a b c state (inl same) is = (0, lit< tt, sym same ∙ is)
third_at a b c state (inr same) is = (1, lit< tt, sym same ∙ is)

four_at : (k : ℕ) (a b c d state : List ℕ) → (c ≡ a) ⊎ (c ≡ b) → d ≡ b → k < 4 → get_or (a ∷ b ∷ c ∷ d ∷ []) k state ≡ state → Contains (a ∷ b ∷ []) state
four_at zero a b c d state third last inside is = (0, lit< tt, is)
four_at (suc zero) a b c d state third last inside is = (1, lit< tt, is)
four_at (suc (suc zero)) a b c d state third last inside is = third_at a b c state third is
four_at (suc (suc (suc zero))) a b c d state third last inside is = (1, lit< tt, sym last ∙ is)
four_at (suc (suc (suc (suc k)))) a b c d state third last inside is = absurd (omega arith)

module _ (opening : CardState) (kept : List Decided) where
  -- what the conversion at a power-up makes of a state's bytes
  abbrev pub made : List ℕ → List ℕ
  made bytes = converted (upgraded opening) bytes

  -- bytes of version 2 stay
  stays : (state : CardState) → made (encoding state) ≡ encoding state
  stays state =
      ap (λ (o : Option CardState). unwrap_or (option_map (λ (s : CardState). encoding (with_limits opening s)) o) (encoding state)) (decoded_one-encoding state)

  -- an opening state's bytes of version 1 become those of version 2
  raised : totals opening [] ≡ opening → IsCardState opening → made (encoding_one opening) ≡ encoding opening
  raised unused fits =
      ap (λ (o : Option CardState). unwrap_or (option_map (λ (s : CardState). encoding (with_limits opening s)) o) (encoding_one opening))
      (decoded_one-encoding_one opening fits)
      ∙ ap (λ (s : CardState). encoding s) (upgraded-opening opening unused ∙ unused)

  module _ (cells : Cells) (version : ℕ) where
    -- the two states between which the pages are
    abbrev pub first : (pending : Option Decided) → MayStand cells version opening kept pending → List ℕ
    first None (inl holds) = encoding (totals opening kept)
    first None (inr fresh) = encoding_one opening
    first (Some d) may = encoding (totals opening kept)

    abbrev pub second : (pending : Option Decided) → MayStand cells version opening kept pending → List ℕ
    second None (inl holds) = encoding (totals opening kept)
    second None (inr fresh) = encoding opening
    second (Some d) may = encoding (totals opening (kept ++ d ∷ []))

    pub may_among : (pending : Option Decided) (may : MayStand cells version opening kept pending)
        → Among recover cells (first pending may ∷ second pending may ∷ [])
    may_among None (inl holds) =
        let state = encoding (totals opening kept) in
        holds_among cells state (state ∷ state ∷ []) holds.holds (has_first state state)
    may_among None (inr fresh) = fresh.among
    may_among (Some d) may = may.between

    first_made : (pending : Option Decided) (may : MayStand cells version opening kept pending)
        → (made (first pending may) ≡ first pending may) ⊎ (made (first pending may) ≡ second pending may)
    first_made None (inl holds) = inl (stays (totals opening kept))
    first_made None (inr fresh) = inr (raised fresh.unused fresh.fits)
    first_made (Some d) may = inl (stays (totals opening kept))

    second_made : (pending : Option Decided) (may : MayStand cells version opening kept pending) → made (second pending may) ≡ second pending may
    second_made None (inl holds) = stays (totals opening kept)
    second_made None (inr fresh) = stays opening
    second_made (Some d) may = stays (totals opening (kept ++ d ∷ []))

    between_still : (new : Cells) (pending : Option Decided) (may : MayStand cells version opening kept pending)
        → Among recover new (first pending may ∷ second pending may ∷ made (first pending may) ∷ made (second pending may) ∷ [])
        → Between recover new (first pending may) (second pending may)
    between_still new pending may among =
        let a = first pending may in
        let b = second pending may in
        among_within recover new (a ∷ b ∷ made a ∷ made b ∷ []) (a ∷ b ∷ [])
        (λ state has. four_at has.0 a b (made a) (made b) state (first_made pending may) (second_made pending may) has.1 has.2) among

    of_between : (new : Cells) (pending : Option Decided) (may : MayStand cells version opening kept pending)
        → Between recover new (first pending may) (second pending may) → MayStand new version opening kept pending
    of_between new None (inl holds) between =
        inl (record { fits = holds.fits; short = holds.short; holds = alike new (encoding (totals opening kept)) between })
    of_between new None (inr fresh) between =
        inr (record { none = fresh.none; old = fresh.old; unused = fresh.unused; fits = fresh.fits; short = fresh.short; among = between })
    of_between new (Some d) may between = record { fits = may.fits; fits_with = may.fits_with; short = may.short; between = between }

    -- where the power is lost, the pages may stand for what they stood for
    pub still_may : (new : Cells) (pending : Option Decided) (may : MayStand cells version opening kept pending)
        → Among recover new (first pending may ∷ second pending may ∷ made (first pending may) ∷ made (second pending may) ∷ [])
        → MayStand new version opening kept pending
    still_may new pending may among = of_between new pending may (between_still new pending may among)

    one_of : (pending : Option Decided) (may : MayStand cells version opening kept pending) (state : List ℕ)
        → Contains (made (first pending may) ∷ made (second pending may) ∷ []) state → (state ≡ made (first pending may)) ⊎ (state ≡ made (second pending may))
    one_of pending may state has = one_of_two (made (first pending may)) (made (second pending may)) state has

    fresh_found : (state : List ℕ) (fresh : IsFresh cells version opening kept) → state ≡ encoding opening
        → IsCardState (totals opening kept) × (state ≡ encoding (totals opening kept)) × HasShortLogs opening
    fresh_found state fresh is =
        let same : opening ≡ totals opening kept = sym fresh.unused ∙ ap (λ (ds : List Decided). totals opening ds) (sym fresh.none) in
        (subst (λ (s : CardState). IsCardState s) same fresh.fits, is ∙ ap (λ (s : CardState). encoding s) same, fresh.short)

    choose : (pending : Option Decided) (may : MayStand cells version opening kept pending) (state : List ℕ)
        → (state ≡ made (first pending may)) ⊎ (state ≡ made (second pending may))
        → (with_it : Bool) × IsCardState (totals opening (found_of kept pending with_it)) × (state ≡ encoding (totals opening (found_of kept pending with_it)))
        × HasShortLogs opening
    choose None (inl holds) state (inl is) = (false, holds.fits, is ∙ stays (totals opening kept), holds.short)
    choose None (inl holds) state (inr is) = (false, holds.fits, is ∙ stays (totals opening kept), holds.short)
    choose None (inr fresh) state (inl is) =
        let found = fresh_found state fresh (is ∙ raised fresh.unused fresh.fits) in (false, found.0, found.1, found.2)
    choose None (inr fresh) state (inr is) = let found = fresh_found state fresh (is ∙ stays opening) in (false, found.0, found.1, found.2)
    choose (Some d) may state (inl is) = (false, may.fits, is ∙ stays (totals opening kept), may.short)
    choose (Some d) may state (inr is) = (true, may.fits_with, is ∙ stays (totals opening (kept ++ d ∷ [])), may.short)

    -- a state that is found is that of a list that may be found
    pub finds : (pending : Option Decided) (may : MayStand cells version opening kept pending) (state : List ℕ)
        → Contains (made (first pending may) ∷ made (second pending may) ∷ []) state
        → (with_it : Bool) × IsCardState (totals opening (found_of kept pending with_it)) × (state ≡ encoding (totals opening (found_of kept pending with_it)))
        × HasShortLogs opening
    finds pending may state has = choose pending may state (one_of pending may state has)

  -- pages that hold the state of a list that was found
  pub kept_on : (found : List Decided) (memory : Memory) (bytes : List ℕ) (state : CardState) (plan : Option Tear)
      → IsCardState (totals opening found) → HasShortLogs opening → bytes ≡ encoding (totals opening found) → state ≡ totals opening found
      → Holds recover memory.cells bytes → memory.plan ≡ plan → memory.commit ≡ 0
      → KeptOn (record { memory = memory; state = state }) opening found plan 0
  kept_on found memory bytes state plan fits short is state_is holds planned begun = record {
    state_is = state_is;
    stands = record { fits = fits; short = short; holds = subst (λ (s : List ℕ). Holds recover memory.cells s) is holds };
    plan_is = planned;
    commit_is = begun;
  }
