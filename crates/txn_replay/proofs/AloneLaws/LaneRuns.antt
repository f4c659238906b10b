-- The lane alone: whose account numbers are its own, what it is made of, and that it has one run where no tear of it leaves a
-- choice.
use Rattle.std.proofs.Common.{◌≡◌, ℕ, suc, ◌+◌, ◌≤◌, Bool, true, false, List, [], ◌∷◌, ◌++◌, length, slice_get, refl, sym, ap, ◌∙◌, inl, inr, arith}
use Rattle.std.specs.List.{flat_map}
use Rattle.std.proofs.lemmas.Bool.{eq-eqb, cases_eq}
use Rattle.std.proofs.lemmas.Option.{same_Some}
use Rattle.std.proofs.lemmas.Slice.Eq.{bytes_eq-Decides}
use Rattle.host_histories.specs.Apart.{pan_carried, own_accounts}
use Rattle.scenario_plan.specs.Cards.{CardData}
use Rattle.txn_replay.specs.Alone.{names_card, is_card_of, before_own, cards_alone, lanes_alone, alone}
use Rattle.txn_replay.specs.Choices.{IsSameRun}
use Rattle.txn_replay.specs.Run.{account_lines}
use Rattle.txn_replay.specs.StandAlone.{carries, is_carried, CarriedAreOwn, LaneRunIsOne, AloneIsOwn}
use Rattle.txn_replay.specs.World.{lane_at}
use Rattle.txn_replay.proofs.AloneLaws.LaneAlone.{own_here, own_next, some_passes, lanes_count, leaves_none}
use Rattle.txn_replay.proofs.AloneLaws.OwnTurns.{differ}
use Rattle.txn_replay.proofs.RunLaws.OneRun.{ends_are_one}

pub carried_are_own : CarriedAreOwn
unfolding is_carried
carried_are_own l w shares k i message there pan is = elim (cases_eq k l) [
  | inl this ↦
      some_passes (λ (other : List ℕ). carries pan (pan_carried other)) (lane_at w l).sent i message
      (ap (λ n. slice_get (lane_at w n).sent i) (sym this) ∙ there)
      (ap (carries pan) is ∙ (bytes_eq-Decides pan pan).1 refl)
      ∙ sym (eq-eqb k l this)
  | inr other ↦ shares k i message pan other there is ∙ sym (differ k l other)
]

-- cards that are alike where they pass
cards_same : (own : ℕ → Bool) (n : ℕ) (xs ys : List CardData) → ((i : ℕ) → own (n + i) ≡ true → slice_get xs i ≡ slice_get ys i)
    → cards_alone own n xs ≡ cards_alone own n ys
unfolding cards_alone
cards_same own n [] [] same = refl
cards_same own n [] (y ∷ ys) same =
    by (own n) refl ∙ ap (before_own (own n) y) (cards_same own (n + 1) [] ys (λ i is. same (suc i) (own_next own n i ∙ is)))
  where
    by : (b : Bool) → own n ≡ b → [] ≡ before_own b y []
    by true is = absurd (cc (same 0 (own_here own n ∙ is)))
    by false isnt = refl
cards_same own n (x ∷ xs) [] same =
    ap (before_own (own n) x) (cards_same own (n + 1) xs [] (λ i is. same (suc i) (own_next own n i ∙ is))) ∙ by (own n) refl
  where
    by : (b : Bool) → own n ≡ b → before_own b x [] ≡ []
    by true is = absurd (cc (same 0 (own_here own n ∙ is)))
    by false isnt = refl
cards_same own n (x ∷ xs) (y ∷ ys) same =
    by (own n) refl ∙ ap (before_own (own n) y) (cards_same own (n + 1) xs ys (λ i is. same (suc i) (own_next own n i ∙ is)))
  where
    by : (b : Bool) → own n ≡ b → before_own b x (cards_alone own (n + 1) xs) ≡ before_own b y (cards_alone own (n + 1) xs)
    by true is = ap (λ (card : CardData). card ∷ cards_alone own (n + 1) xs) (same_Some x y (same 0 (own_here own n ∙ is)))
    by false isnt = blind (cards_alone own (n + 1) xs)
      where
        blind : (cards : List CardData) → before_own false x cards ≡ before_own false y cards
        blind [] = refl
        blind (other ∷ others) = refl

pub alone_is_own : AloneIsOwn
unfolding is_card_of
alone_is_own pans s t l same =
    let named : is_card_of s l ≡ is_card_of t l = ap names_card same.lane in
    let cards : cards_alone (is_card_of s l) 0 s.cards ≡ cards_alone (is_card_of t l) 0 t.cards =
    cards_same (is_card_of s l) 0 s.cards t.cards
    (λ i is. same.cards i (ap (is_card_of s l) (let e : i ≡ 0 + i = omega arith in e) ∙ is))
    ∙ ap (λ (own : ℕ → Bool). cards_alone own 0 t.cards) named in
    λ j. record {
      issuer = same.issuer j;
      accounts = same.accounts j;
      cards = cards j;
      lanes = lanes_alone l (same.lane j);
      schedule = [];
      copies = same.copies j;
    }

pub lane_run_is_one : LaneRunIsOne
lane_run_is_one pans s l choices values lines others w v inside none one other =
    let some : 1 ≤ length (alone pans s l).lanes = omega (arith, lanes_count pans s l inside) in
    let same : IsSameRun one.reported other.reported w v =
    ends_are_one (alone pans s l) some (leaves_none pans s l none) one.count other.count choices values one.reported other.reported w v
    one.reached other.reached in
    record {
      told = one.whole ∙ (λ i. same.told i ++ flat_map (account_lines (alone pans s l) (same.led i)) (own_accounts pans s.accounts)) ∙ sym other.whole;
      led = same.led;
    }
