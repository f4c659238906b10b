-- What pages stand for that hold the bytes of an opening state.
use Rattle.std.proofs.Common.{◌≡◌, ℕ, List, [], ◌∷◌, refl, sym, ap, subst, ◌∙◌, inl, inr}
use Rattle.card_state.specs.Encoding.{encoding, encoding_one, HasShortLogs, IsCardState}
use Rattle.card_state.specs.Totals.{totals}
use Rattle.card_state.specs.declared.state.CardState.{CardState}
use Rattle.torn_store.specs.Layout.{recover}
use Rattle.torn_store.specs.Recovery.{Holds}
use Rattle.torn_store.proofs.Outcomes.{has_first}
use Rattle.torn_store.proofs.Stored.{holds_among}
use Rattle.card_app.specs.Pages.{StandsFor}
use Rattle.emv_ports.specs.Cell.{Cells}

module _ (cells : Cells) (version : ℕ) (opening : CardState) (text : List ℕ) (unused : totals opening [] ≡ opening) (fits : IsCardState opening)
    (short : HasShortLogs opening) (holds : Holds recover cells text) where
  -- of version 1
  pub formatted_one : version ≡ 1 → text ≡ encoding_one opening → StandsFor cells version opening []
  formatted_one old is =
      let one : List ℕ = encoding_one opening in
      let other : List ℕ = encoding opening in
      let holds_one : Holds recover cells one = subst (λ (s : List ℕ). Holds recover cells s) is holds in
      inr (record {
        none = refl;
        old = old;
        unused = unused;
        fits = fits;
        short = short;
        among = holds_among cells one (one ∷ other ∷ []) holds_one (has_first one other);
      })

  -- of version 2
  pub formatted : text ≡ encoding opening → StandsFor cells version opening []
  formatted is =
      inl (record {
        fits = subst (λ (s : CardState). IsCardState s) (sym unused) fits;
        short = short;
        holds = subst (λ (s : List ℕ). Holds recover cells s) (is ∙ ap (λ (s : CardState). encoding s) (sym unused)) holds;
      })
