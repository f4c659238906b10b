-- What a completed power-up finds is a prefix of the decisions taken.
-- It leaves out at most the last one, and none that an answer rests on.
use Rattle.std.proofs.Common.{◌≡◌, ℕ, ◌≤◌, Bool, true, false, List, [], ◌∷◌, ◌++◌, length, Option, Some, None, refl, sym, ap, ◌∙◌, subst, inl, inr, arith, append-nil}
use Rattle.std.proofs.lemmas.List.{append_assoc}
use Rattle.std.proofs.lemmas.List.Sums.{fold_push}
use Rattle.std.proofs.lemmas.Option.{same_Some}
use Rattle.card_app.specs.Answering.{card_answer}
use Rattle.card_files.specs.Views.{ImageData}
use Rattle.card_app.specs.Cuts.{Cut, Fate, Dropped, Joined, Pending, fate_by, kept_by, pending_by}
use Rattle.card_app.specs.Pages.{found_of}
use Rattle.card_app.specs.PageReplies.{CardAnswer}
use Rattle.card_state.specs.Decisions.{Decided}
use Rattle.emv_ports.specs.declared.tear.Tear.{Tear}
use Rattle.txn_replay.specs.Changes.{powered, exchanged, row_torn, freed}
use Rattle.txn_replay.specs.Laws.{DecisionsTaken, sure_with, taken_next, none_taken, taken_in, FindsPrefix, Prefix}
use Rattle.txn_replay.specs.World.{Holder, Act, Found, Answering, Breaking, CardRow, new_card}
use Rattle.txn_replay.proofs.CardLaws.CardKept.{Closed, Live}
use Rattle.txn_replay.proofs.Lists.{push_at}

-- the decisions that are kept are a prefix of those taken, without at most the last one, which may be pending; with
-- each behind which an answer was made; and with all while a purchase has the card
pub record IsTraced (t : DecisionsTaken) (kept : List Decided) (pending : Option Decided) (holder : Option Holder) : Type 0 where
  pub rest : List Decided
  pub whole : kept ++ rest ≡ t.all
  pub few : length rest ≤ 1
  pub pending_is : (d : Decided) → pending ≡ Some d → rest ≡ d ∷ []
  pub others : List Decided
  pub answered : t.sure ++ others ≡ kept
  pub held : (h : Holder) → holder ≡ Some h → rest ≡ []

pub record IsKept (image : ImageData) (card : CardRow) : Type 0 where
  pub prefix : Prefix card.acts
  pub traced : IsTraced (taken_in card.acts) card.kept card.pending card.holder

pub taken-push : (acts : List Act) (act : Act) → taken_in (acts ++ act ∷ []) ≡ taken_next (taken_in acts) act
unfolding taken_in
taken-push acts act = fold_push taken_next none_taken acts act

-- one act more
prefix-push : (acts : List Act) (act : Act) → Prefix acts → ((found : List Decided) → act ≡ Found found → FindsPrefix (taken_in acts) found)
    → Prefix (acts ++ act ∷ [])
prefix-push acts act prefix last = λ k found here.
    elim (push_at acts act k (Found found) here) [
      | inl before ↦ subst (λ (xs : List Act). FindsPrefix (taken_in xs) found) (sym before.1) (prefix k found before.0)
      | inr now ↦ subst (λ (xs : List Act). FindsPrefix (taken_in xs) found) (sym now.1) (last found now.0)
    ]

same_found : (ds found : List Decided) → Found ds ≡ Found found → ds ≡ found
same_found ds found same = ap decisions same
  where
    decisions : Act → List Decided
    decisions (Found xs) = xs
    decisions (Answering xs) = xs
    decisions (Breaking xs) = xs

module _ (t : DecisionsTaken) (kept : List Decided) where
  -- with the pending decision or without it
  finds : (pending : Option Decided) (holder : Option Holder) (with_it : Bool) → IsTraced t kept pending holder → FindsPrefix t (found_of kept pending with_it)
  finds None holder with_it traced =
      record { left = traced.rest; prefix = traced.whole; few = traced.few; others = traced.others; answered = traced.answered }
  finds (Some d) holder true traced = record {
    left = [];
    prefix = append-nil (kept ++ d ∷ []) ∙ ap (λ (xs : List Decided). kept ++ xs) (sym (traced.pending_is d refl)) ∙ traced.whole;
    few = omega arith;
    others = traced.others ++ d ∷ [];
    answered = sym (append_assoc t.sure traced.others (d ∷ [])) ∙ ap (λ (xs : List Decided). xs ++ d ∷ []) traced.answered;
  }
  finds (Some d) holder false traced =
      record { left = traced.rest; prefix = traced.whole; few = traced.few; others = traced.others; answered = traced.answered }

  -- behind a command of a purchase that has the card
  all_kept : (pending : Option Decided) (holder : Option Holder) (h : Holder) → holder ≡ Some h → IsTraced t kept pending holder → kept ≡ t.all
  all_kept pending holder h has traced =
      sym (append-nil kept) ∙ ap (λ (xs : List Decided). kept ++ xs) (sym (traced.held h has)) ∙ traced.whole

  sure_of : (ds : List Decided) (others : List Decided) → kept ≡ t.all → t.sure ++ others ≡ kept
      → (more : List Decided) × (sure_with t ds ++ more ≡ kept ++ ds)
  sure_of [] others all answered = (others, answered ∙ sym (append-nil kept))
  sure_of (d ∷ ds) others all answered =
      ([], append-nil (t.all ++ d ∷ ds) ∙ ap (λ (xs : List Decided). xs ++ d ∷ ds) (sym all))

  answered_on : (pending : Option Decided) (holder : Option Holder) (h : Holder) (ds : List Decided) → holder ≡ Some h → IsTraced t kept pending holder
      → IsTraced (taken_next t (Answering ds)) (kept ++ ds) pending holder
  answered_on pending holder h ds has traced =
      let all : kept ≡ t.all = all_kept pending holder h has traced in
      let sure = sure_of ds traced.others all traced.answered in
      let none : traced.rest ≡ [] = traced.held h has in
      record {
        rest = [];
        whole = append-nil (kept ++ ds) ∙ ap (λ (xs : List Decided). xs ++ ds) all;
        few = omega arith;
        pending_is = λ d is. sym none ∙ traced.pending_is d is;
        others = sure.0;
        answered = sure.1;
        held = λ other is. refl;
      }

  -- behind a command that decides nothing
  answered_off : (pending : Option Decided) (holder : Option Holder) → IsTraced t kept pending holder
      → IsTraced (taken_next t (Answering [])) (kept ++ []) pending holder
  answered_off pending holder traced = record {
    rest = traced.rest;
    whole = ap (λ (xs : List Decided). xs ++ traced.rest) (append-nil kept) ∙ traced.whole ∙ sym (append-nil t.all);
    few = traced.few;
    pending_is = traced.pending_is;
    others = traced.others;
    answered = traced.answered ∙ sym (append-nil kept);
    held = traced.held;
  }

  -- behind a cut
  cut_traced : (pending : Option Decided) (holder : Option Holder) (h : Holder) (cut : Cut) (left : Fate) → holder ≡ Some h → IsTraced t kept pending holder
      → IsTraced (taken_next t (Breaking (cut.before ++ cut.cut ∷ []))) (kept_by left kept cut) (pending_by left cut) None
  cut_traced pending holder h cut left has traced = by_left left
    where
      whole : (kept ++ cut.before) ++ cut.cut ∷ [] ≡ t.all ++ (cut.before ++ cut.cut ∷ [])
      whole = append_assoc kept cut.before (cut.cut ∷ []) ∙ ap (λ (xs : List Decided). xs ++ (cut.before ++ cut.cut ∷ [])) (all_kept pending holder h has traced)

      sure : t.sure ++ (traced.others ++ cut.before) ≡ kept ++ cut.before
      sure = sym (append_assoc t.sure traced.others cut.before) ∙ ap (λ (xs : List Decided). xs ++ cut.before) traced.answered

      by_left : (left : Fate) → IsTraced (taken_next t (Breaking (cut.before ++ cut.cut ∷ []))) (kept_by left kept cut) (pending_by left cut) None
      by_left Dropped = record {
        rest = cut.cut ∷ [];
        whole = whole;
        few = omega arith;
        pending_is = λ d is. cc;
        others = traced.others ++ cut.before;
        answered = sure;
        held = λ other is. cc;
      }
      by_left Joined = record {
        rest = [];
        whole = append-nil ((kept ++ cut.before) ++ cut.cut ∷ []) ∙ whole;
        few = omega arith;
        pending_is = λ d is. cc;
        others = (traced.others ++ cut.before) ++ cut.cut ∷ [];
        answered =
            sym (append_assoc t.sure (traced.others ++ cut.before) (cut.cut ∷ [])) ∙ ap (λ (xs : List Decided). xs ++ cut.cut ∷ []) sure;
        held = λ other is. cc;
      }
      by_left Pending = record {
        rest = cut.cut ∷ [];
        whole = whole;
        few = omega arith;
        pending_is = λ d is. ap (λ (x : Decided). x ∷ []) (same_Some cut.cut d is);
        others = traced.others ++ cut.before;
        answered = sure;
        held = λ other is. cc;
      }

traced_at : (acts : List Act) (act : Act) (kept : List Decided) (pending : Option Decided) (holder : Option Holder)
    → IsTraced (taken_next (taken_in acts) act) kept pending holder → IsTraced (taken_in (acts ++ act ∷ [])) kept pending holder
traced_at acts act kept pending holder traced = subst (λ (t : DecisionsTaken). IsTraced t kept pending holder) (sym (taken-push acts act)) traced

found_traced : (found : List Decided) (t : DecisionsTaken) (holder : Option Holder) → IsTraced (taken_next t (Found found)) found None holder
found_traced found t holder = record {
  rest = [];
  whole = append-nil found;
  few = omega arith;
  pending_is = λ d is. cc;
  others = [];
  answered = append-nil found;
  held = λ h is. refl;
}

powered_kept : (image : ImageData) (card : CardRow) (with_it : Bool) (holder : Option Holder) → IsKept image card
    → IsKept image (powered card (found_of card.kept card.pending with_it) holder)
powered_kept image card with_it holder kept =
    let found : List Decided = found_of card.kept card.pending with_it in
    record {
      prefix = prefix-push card.acts (Found found) kept.prefix
          (λ other same. subst (λ (ds : List Decided). FindsPrefix (taken_in card.acts) ds) (same_found found other same)
          (finds (taken_in card.acts) card.kept card.pending card.holder with_it kept.traced));
      traced = traced_at card.acts (Found found) found None holder (found_traced found (taken_in card.acts) holder);
    }

answer_kept : (image : ImageData) (card : CardRow) (command : List ℕ) → Live image card command → IsKept image card
    → IsKept image (exchanged image card command (card_answer image card.kept card.session command))
answer_kept image card command live kept =
    record {
      prefix = prefix-push card.acts (Answering said.new) kept.prefix (λ found same. absurd (not_found said.new found same));
      traced = traced_at card.acts (Answering said.new) (card.kept ++ said.new) card.pending card.holder (by_live live);
    }
  where
    said : CardAnswer
    said = card_answer image card.kept card.session command

    not_found : (ds found : List Decided) → Answering ds ≡ Found found → ⊥
    not_found ds found same = cc

    by_live : Live image card command → IsTraced (taken_next (taken_in card.acts) (Answering said.new)) (card.kept ++ said.new) card.pending card.holder
    by_live (inl one) = answered_on (taken_in card.acts) card.kept card.pending card.holder one.0 said.new one.1 kept.traced
    by_live (inr none) =
        subst (λ (ds : List Decided). IsTraced (taken_next (taken_in card.acts) (Answering ds)) (card.kept ++ ds) card.pending card.holder) (sym none)
        (answered_off (taken_in card.acts) card.kept card.pending card.holder kept.traced)

cut_kept : (image : ImageData) (card : CardRow) (tear : Option Tear) (cut : Cut) (h : Holder) → card.holder ≡ Some h → IsKept image card
    → IsKept image (freed (row_torn card tear cut))
cut_kept image card tear cut h has kept = record {
  prefix = prefix-push card.acts (Breaking (cut.before ++ cut.cut ∷ [])) kept.prefix
      (λ found same. absurd (not_found (cut.before ++ cut.cut ∷ []) found same));
  traced = traced_at card.acts (Breaking (cut.before ++ cut.cut ∷ [])) (kept_by (fate_by tear) card.kept cut) (pending_by (fate_by tear) cut) None
      (cut_traced (taken_in card.acts) card.kept card.pending card.holder h cut (fate_by tear) has kept.traced);
}
  where
    not_found : (ds found : List Decided) → Breaking ds ≡ Found found → ⊥
    not_found ds found same = cc

freed_kept : (image : ImageData) (card : CardRow) → IsKept image card → IsKept image (freed card)
freed_kept image card kept = record {
  prefix = kept.prefix;
  traced = record {
    rest = kept.traced.rest;
    whole = kept.traced.whole;
    few = kept.traced.few;
    pending_is = kept.traced.pending_is;
    others = kept.traced.others;
    answered = kept.traced.answered;
    held = λ h is. cc;
  };
}

first_kept : (image : ImageData) → IsKept image new_card
unfolding taken_in
first_kept image = record {
  prefix = λ k found here. cc;
  traced = record { rest = []; whole = refl; few = omega arith; pending_is = λ d is. cc; others = []; answered = refl; held = λ h is. cc };
}

pub kept_closed : Closed IsKept
kept_closed = record {
  first = first_kept;
  powers = powered_kept;
  answers = answer_kept;
  tells = λ image card kept. record { prefix = kept.prefix; traced = kept.traced };
  cuts = cut_kept;
  loses = λ image card kept. record { prefix = kept.prefix; traced = kept.traced };
  frees = freed_kept;
}
