-- No transaction counter of a card's application serves two purchases.
-- A row's counter is behind the decision that took it, and none before has it: the law of one use.
use Rattle.std.proofs.Common.{◌≡◌, ◌⊎◌, ℕ, zero, suc, ◌+◌, ◌≤◌, ◌&&◌, Bool, true, false, if◌then◌else◌, List, [], ◌∷◌, ◌++◌, slice_get, Option, Some, None, refl, sym, ap, ◌∙◌, subst, inl, inr, arith}
use Rattle.std.proofs.lemmas.Bool.{and_parts}
use Rattle.std.proofs.lemmas.Option.{same_Some}
use Rattle.apdu_core.specs.Command.{command_of}
use Rattle.apdu_core.specs.Response.{response_of}
use Rattle.card_app.specs.Answering.{card_answer}
use Rattle.card_app.specs.Session.{phase_of}
use Rattle.card_cryptogram.specs.Phases.{current}
use Rattle.card_files.specs.Views.{ImageData}
use Rattle.card_app.specs.Cuts.{Cut, Fate, Dropped, Joined, Pending, fate_by, kept_by}
use Rattle.card_app.specs.Pages.{found_of}
use Rattle.card_app.specs.PageReplies.{CardAnswer}
use Rattle.card_state.specs.Decisions.{Decided}
use Rattle.emv_ports.specs.declared.tear.Tear.{Tear}
use Rattle.txn_replay.specs.Changes.{is_generate, is_good, app_counter, given_for, given_by, powered, exchanged, row_torn, freed}
use Rattle.txn_replay.specs.Laws.{OneUse}
use Rattle.txn_replay.specs.World.{Holder, CryptogramGiven, CardRow}
use Rattle.txn_replay.proofs.CardLaws.CardKept.{Closed}
use Rattle.txn_replay.proofs.CardLaws.CountersGrow.{counter_grows}
use Rattle.txn_replay.proofs.CardLaws.CardDecisions.{open_app}
use Rattle.txn_replay.proofs.Lists.{append_at}
use Rattle.txn_replay.proofs.CardLaws.TransactionsBegin.{opens, generates_open}

-- a row of the card's cryptograms
abbrev pub IsGiven : CardRow → CryptogramGiven → Type 0
IsGiven card x = (k : ℕ) × (slice_get card.given k ≡ Some x)

-- no row's counter is above the application's; those with the counter of a transaction that has begun are of the
-- purchase that has the card; and no counter serves two purchases
pub record IsCounted (image : ImageData) (card : CardRow) : Type 0 where
  pub low : (x : CryptogramGiven) → IsGiven card x → x.counter ≤ app_counter image card.kept x.app
  pub fresh : (app : ℕ) → open_app (phase_of image card.session) ≡ Some app → (h : Holder) → card.holder ≡ Some h
      → (x : CryptogramGiven) → IsGiven card x → x.app ≡ app → app_counter image card.kept app ≤ x.counter → x.holder ≡ h
  pub once : OneUse card.given

module _ (image : ImageData) where
  -- decisions that join change no row
  still_low : (card : CardRow) (more : List Decided) → IsCounted image card → (x : CryptogramGiven) → IsGiven card x
      → x.counter ≤ app_counter image (card.kept ++ more) x.app
  still_low card more counted x here =
      let before : x.counter ≤ app_counter image card.kept x.app = counted.low x here in
      let grows : app_counter image card.kept x.app ≤ app_counter image (card.kept ++ more) x.app = counter_grows image card.kept more x.app in
      omega arith

  found_low : (card : CardRow) (with_it : Bool) (pending : Option Decided) → IsCounted image card → (x : CryptogramGiven) → IsGiven card x
      → x.counter ≤ app_counter image (found_of card.kept pending with_it) x.app
  found_low card with_it None counted x here = counted.low x here
  found_low card true (Some d) counted x here = still_low card (d ∷ []) counted x here
  found_low card false (Some d) counted x here = counted.low x here

  cut_low : (card : CardRow) (left : Fate) (cut : Cut) → IsCounted image card → (x : CryptogramGiven) → IsGiven card x
      → x.counter ≤ app_counter image (kept_by left card.kept cut) x.app
  cut_low card Dropped cut counted x here = still_low card cut.before counted x here
  cut_low card Joined cut counted x here =
      let before : x.counter ≤ app_counter image (card.kept ++ cut.before) x.app = still_low card cut.before counted x here in
      let grows : app_counter image (card.kept ++ cut.before) x.app ≤ app_counter image ((card.kept ++ cut.before) ++ cut.cut ∷ []) x.app =
      counter_grows image (card.kept ++ cut.before) (cut.cut ∷ []) x.app in
      omega arith
  cut_low card Pending cut counted x here = still_low card cut.before counted x here

  powered_counted : (card : CardRow) (with_it : Bool) (holder : Option Holder) → IsCounted image card
      → IsCounted image (powered card (found_of card.kept card.pending with_it) holder)
  unfolding phase_of
  powered_counted card with_it holder counted = record {
    low = found_low card with_it card.pending counted;
    fresh = λ app begun. cc;
    once = counted.once;
  }

  cut_counted : (card : CardRow) (tear : Option Tear) (cut : Cut) → IsCounted image card → IsCounted image (freed (row_torn card tear cut))
  cut_counted card tear cut counted = record {
    low = cut_low card (fate_by tear) cut counted;
    fresh = λ app begun h none. cc;
    once = counted.once;
  }

  freed_counted : (card : CardRow) → IsCounted image card → IsCounted image (freed card)
  freed_counted card counted = record { low = counted.low; fresh = λ app begun h none. cc; once = counted.once }

  module _ (card : CardRow) (command : List ℕ) (counted : IsCounted image card) where
    abbrev said : CardAnswer
    said = card_answer image card.kept card.session command

    abbrev kept : List Decided
    kept = card.kept ++ said.new

    -- a new row is of the purchase that has the card, of the application whose transaction has begun, and has its counter
    record IsNew (y : CryptogramGiven) : Type 0 where
      pub counter : y.counter ≡ app_counter image kept y.app
      pub begun : open_app (phase_of image card.session) ≡ Some y.app
      pub holder : card.holder ≡ Some y.holder

    new_row : (m : ℕ) (y : CryptogramGiven) → slice_get (given_by image card command said) m ≡ Some y → IsNew y
    new_row m y here = by_test (is_generate (command_of command) && is_good (response_of said.answer)) refl here
      where
        by_app : is_generate (command_of command) ≡ true → is_good (response_of said.answer) ≡ true
            → (app : Option ℕ) (h : Option Holder) (m : ℕ) → current (phase_of image card.session) ≡ app → card.holder ≡ h
            → slice_get (given_for image kept app h) m ≡ Some y → IsNew y
        by_app generate good (Some app) (Some h) zero is has here =
            let new : CryptogramGiven = record { app = app; counter = app_counter image kept app; holder = h } in
            let same : new ≡ y = same_Some new y here in
            subst (λ (x : CryptogramGiven). IsNew x) same
            (record { counter = refl; begun = generates_open image card.kept card.session command generate good app is; holder = has })
        by_app generate good (Some app) (Some h) (suc m) is has here = cc
        by_app generate good (Some app) None m is has here = cc
        by_app generate good None h m is has here = cc

        by_test : (b : Bool) → (is_generate (command_of command) && is_good (response_of said.answer)) ≡ b
            → slice_get (if b then given_for image kept (current (phase_of image card.session)) card.holder else []) m ≡ Some y → IsNew y
        by_test true tests here =
            let parts = and_parts (is_generate (command_of command)) (is_good (response_of said.answer)) tests in
            by_app parts.0 parts.1 (current (phase_of image card.session)) card.holder m refl refl here
        by_test false tests here = cc

    abbrev next : CardRow
    next = exchanged image card command said

    row_cases : (x : CryptogramGiven) → IsGiven next x → IsGiven card x ⊎ IsNew x
    row_cases x here =
        elim (append_at card.given (given_by image card command said) here.0 x here.1) [
          | inl old ↦ inl (here.0, old)
          | inr new ↦ inr (new_row new.0 x new.1)
        ]

    next_low : (x : CryptogramGiven) → IsGiven next x → x.counter ≤ app_counter image kept x.app
    next_low x here =
        elim (row_cases x here) [
          | inl old ↦ still_low card said.new counted x old
          | inr new ↦ (let same : x.counter ≡ app_counter image kept x.app = new.counter in omega arith)
        ]

    -- a row that was there, in a transaction that had begun or that begins
    old_fresh : (app : ℕ) → (open_app (phase_of image card.session) ≡ Some app) ⊎ (app_counter image card.kept app + 1 ≤ app_counter image kept app)
        → (h : Holder) → card.holder ≡ Some h → (x : CryptogramGiven) → IsGiven card x → x.app ≡ app → app_counter image kept app ≤ x.counter → x.holder ≡ h
    old_fresh app (inl begun) h has x old of_app above =
        let grows : app_counter image card.kept app ≤ app_counter image kept app = counter_grows image card.kept said.new app in
        counted.fresh app begun h has x old of_app (omega arith)
    old_fresh app (inr raised) h has x old of_app above =
        let low : x.counter ≤ app_counter image card.kept x.app = counted.low x old in
        let same : app_counter image card.kept x.app ≡ app_counter image card.kept app = ap (λ n. app_counter image card.kept n) of_app in
        absurd (omega arith)

    next_fresh : (app : ℕ) → open_app (phase_of image next.session) ≡ Some app → (h : Holder) → next.holder ≡ Some h
        → (x : CryptogramGiven) → IsGiven next x → x.app ≡ app → app_counter image next.kept app ≤ x.counter → x.holder ≡ h
    next_fresh app begun h has x here of_app above =
        elim (row_cases x here) [
          | inl old ↦ old_fresh app (opens image card.kept card.session command app begun) h has x old of_app above
          | inr new ↦ same_Some x.holder h (sym new.holder ∙ has)
        ]

    -- a new row beside an old one of the same counter
    both : (x y : CryptogramGiven) → IsGiven card x → IsNew y → x.app ≡ y.app → x.counter ≡ y.counter → x.holder ≡ y.holder
    both x y old new of_app of_counter =
        let grows : app_counter image card.kept y.app ≤ app_counter image kept y.app = counter_grows image card.kept said.new y.app in
        let is : y.counter ≡ app_counter image kept y.app = new.counter in
        counted.fresh y.app new.begun y.holder new.holder x old of_app (omega arith)

    next_once : OneUse next.given
    next_once i j x y here there of_app of_counter =
        elim (row_cases x (i, here)) [
          | inl old ↦
              elim (row_cases y (j, there)) [
                | inl older ↦ counted.once old.0 older.0 x y old.1 older.1 of_app of_counter
                | inr new ↦ both x y old new of_app of_counter
              ]
          | inr new ↦
              elim (row_cases y (j, there)) [
                | inl old ↦ sym (both y x old new (sym of_app) (sym of_counter))
                | inr newer ↦ same_Some x.holder y.holder (sym new.holder ∙ newer.holder)
              ]
        ]

    pub answer_counted : IsCounted image (exchanged image card command said)
    answer_counted = record { low = next_low; fresh = next_fresh; once = next_once }

pub counted_closed : Closed IsCounted
counted_closed = record {
  first = λ image. record { low = λ x here. cc; fresh = λ app begun h none. cc; once = λ i j x y here. cc };
  powers = λ image card with_it holder counted. powered_counted image card with_it holder counted;
  answers = λ image card command live counted. answer_counted image card command counted;
  tells = λ image card counted. record { low = counted.low; fresh = counted.fresh; once = counted.once };
  cuts = λ image card tear cut h has counted. cut_counted image card tear cut counted;
  loses = λ image card counted. record { low = counted.low; fresh = counted.fresh; once = counted.once };
  frees = λ image card counted. freed_counted image card counted;
}
