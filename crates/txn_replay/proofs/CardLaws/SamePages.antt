-- The same pages stand for the same totals.
-- So what a card has counted can be read from its pages alone: the law `PagesTellTotals`.
use Rattle.std.proofs.Common.{◌≡◌, ◌⊎◌, ℕ, zero, suc, List, [], ◌∷◌, Option, Some, None, sym, ap, ◌∙◌, subst, inl, inr, arith}
use Rattle.std.specs.List.{Contains}
use Rattle.std.proofs.lemmas.Option.{same_Some}
use Rattle.card_files.specs.Files.{opening_of}
use Rattle.card_app.specs.Pages.{HoldsTotals, IsFresh, StandsFor, MayStand}
use Rattle.emv_ports.specs.Cell.{Cells}
use Rattle.card_state.specs.Decisions.{Decided}
use Rattle.card_state.specs.Encoding.{encoding, encoding_one, IsCardState}
use Rattle.card_state.specs.Layout.{decoded, decoded_one}
use Rattle.card_state.specs.Totals.{totals}
use Rattle.card_state.specs.declared.state.CardState.{CardState}
use Rattle.card_state.specs.Upgrade.{card_as_one}
use Rattle.card_state.proofs.Decoded.{decoded-encoding, decoded_one-encoding_one, decoded_one-encoding}
use Rattle.emv_ports.specs.Memory.{Memory}
use Rattle.emv_ports.specs.PageReading.{Reading}
use Rattle.txn_replay.specs.PagesTell.{PagesTellTotals}
use Rattle.scenario_plan.specs.Cards.{CardData}
use Rattle.torn_store.proofs.Readings.{some_page}
use Rattle.txn_replay.specs.Seen.{PagesStand, PagesAre}
use Rattle.txn_replay.specs.World.{CardRow, card_at}

-- a card's state by its encoding
one_state : (a b : CardState) → IsCardState a → IsCardState b → encoding a ≡ encoding b → a ≡ b
one_state a b is other same = same_Some a b (sym (decoded-encoding a is) ∙ ap decoded same ∙ decoded-encoding b other)

-- pages can be read
readable : (cells : Cells) → (bytes : List (List ℕ)) × Reading cells bytes
readable [] = ([], tt)
readable (page ∷ pages) = let here = some_page page in let rest = readable pages in (here.0 ∷ rest.0, (here.1, rest.1))

two_held : (cells : Cells) (opening : CardState) (ds es : List Decided) → HoldsTotals cells opening ds → HoldsTotals cells opening es
    → totals opening ds ≡ totals opening es
two_held cells opening ds es first second =
    let shown = readable cells in
    one_state (totals opening ds) (totals opening es) first.fits second.fits
    (same_Some (encoding (totals opening ds)) (encoding (totals opening es)) (sym (first.holds.each shown.0 shown.1) ∙ second.holds.each shown.0 shown.1))

either : (a b x : List ℕ) → Contains (a ∷ b ∷ []) x → (a ≡ x) ⊎ (b ≡ x)
either a b x (zero, within, is) = inl is
either a b x (suc zero, within, is) = inr is
either a b x (suc (suc k), within, is) = absurd (omega (arith, within))

-- pages that may still be of version 1 aren't sure of any other state
held_fresh : (cells : Cells) (version : ℕ) (opening : CardState) (ds es : List Decided) → HoldsTotals cells opening ds → IsFresh cells version opening es
    → totals opening ds ≡ totals opening []
held_fresh cells version opening ds es held fresh =
    let shown = readable cells in
    let one = fresh.among.each shown.0 shown.1 in
    let same : encoding (totals opening ds) ≡ one.0 = same_Some (encoding (totals opening ds)) one.0 (sym (held.holds.each shown.0 shown.1) ∙ one.2) in
    elim (either (encoding_one opening) (encoding opening) one.0 one.1) [
      | inl old ↦
          let other : ◌≡◌ {A = Option CardState} None (Some (card_as_one opening)) =
          sym (decoded_one-encoding (totals opening ds)) ∙ ap decoded_one (same ∙ sym old) ∙ decoded_one-encoding_one opening fresh.fits in
          absurd (cc other)
      | inr new ↦ one_state (totals opening ds) opening held.fits fresh.fits (same ∙ sym new) ∙ sym fresh.unused
    ]

one_total : (cells : Cells) (version : ℕ) (opening : CardState) (ds es : List Decided) → StandsFor cells version opening ds → StandsFor cells version opening es
    → totals opening ds ≡ totals opening es
one_total cells version opening ds es (inl first) (inl second) = two_held cells opening ds es first second
one_total cells version opening ds es (inl first) (inr fresh) = held_fresh cells version opening ds es first fresh ∙ ap (totals opening) (sym fresh.none)
one_total cells version opening ds es (inr fresh) (inl second) = ap (totals opening) fresh.none ∙ sym (held_fresh cells version opening es ds second fresh)
one_total cells version opening ds es (inr fresh) (inr other) = ap (totals opening) (fresh.none ∙ sym other.none)

-- pages of a card without an open decision
settled : (memory : Memory) (card : CardData) (row : CardRow) → card.canned ≡ None → row.pending ≡ None → PagesAre memory card row card.canned
    → StandsFor memory.cells card.image.version (opening_of card.image) row.kept
settled memory card row apps closed are =
    let stands : PagesStand memory card row = subst (λ (o : Option (List (List ℕ))). PagesAre memory card row o) apps are in
    subst (λ (o : Option Decided). MayStand memory.cells card.image.version (opening_of card.image) row.kept o) closed stands.may

pub pages_tell : PagesTellTotals
pages_tell s w v bank stands other i card there apps closed shut =
    let one = stands.cards i card there in
    let two = other.cards i card there in
    let same : two.0 ≡ one.0 = same_Some two.0 one.0 (sym two.1 ∙ one.1) in
    one_total one.0.cells card.image.version (opening_of card.image) (card_at w i).kept (card_at v i).kept
    (settled one.0 card (card_at w i) apps closed one.2)
    (settled one.0 card (card_at v i) apps shut
    (subst (λ (m : Memory). PagesAre m card (card_at v i) card.canned) same two.2))
