-- As many purchases of a lane were lost as its lines tell.
-- So a lane's losses are no secret of its store: the law `LostAreTold`.
use Rattle.std.proofs.Common.{◌≡◌, ◌≢◌, ℕ, zero, suc, ◌⊎◌, ◌+◌, cond, Bool, true, false, List, [], ◌∷◌, ◌++◌, length, replicate, slice_get, Option, Some, None, refl, sym, ap, ◌∙◌, inl, inr, arith}
use Rattle.std.specs.Prelude.{ℤ, ◌==◌, if◌then◌else◌}
use Rattle.std.specs.List.{count_by, flat_map}
use Rattle.std.proofs.lemmas.Bool.{eqb-true, eq-eqb, cases_eq}
use Rattle.std.proofs.lemmas.List.{get_or-set_other}
use Rattle.std.proofs.lemmas.List.Sums.{sum_by-append, sum_by-cons}
use Rattle.capture_store.specs.StoreRow.{opened_to_add}
use Rattle.issuer_host.specs.Account.{AccountData}
use Rattle.issuer_host.specs.History.{host_reply, balance_after}
use Rattle.kernel.specs.Ended.{EndData}
use Rattle.kernel.specs.Reply.{Reply}
use Rattle.report_text.specs.declared.line.Line.{Line}
use Rattle.report_text.specs.declared.line.Line.TheVariants.{EndLost, Done}
use Rattle.scenario_plan.specs.Plan.{ScenarioData}
use Rattle.txn_replay.specs.Captured.{is_lost_line, LostAreTold, WholeRunsTellLost}
use Rattle.txn_replay.specs.Counting.{lost_count}
use Rattle.txn_replay.specs.Lines.{host_lines, settle_lines, outcome_line}
use Rattle.txn_replay.specs.Part.{Part, Moved, loses}
use Rattle.txn_replay.specs.Payment.{Payment, next_of}
use Rattle.txn_replay.specs.Run.{Finished, balance_line, account_lines, ended_count, closing}
use Rattle.txn_replay.specs.Sound.{IsWorldSound}
use Rattle.txn_replay.specs.Steps.{Check, PowersUp, Asks, Settlement, Opens, Sends, settlements, settles, checks, audits, part_of, choice_in, turned_by, happens}
use Rattle.txn_replay.specs.Storing.{part_with, lane_lost, lane_copied, copied, copy_lines, lane_piece}
use Rattle.txn_replay.specs.World.{Past, LaneRow, CardRow, World, new_lane, first_world, lane_at}
use Rattle.txn_replay.specs.declared.event.Event.{Event}
use Rattle.txn_replay.specs.declared.event.Event.TheVariants.{Turn, Settle, Audit}
use Rattle.txn_replay.proofs.ExchangeLaws.ExchangeCases.{Tells, StoreTells, lane_tells}
use Rattle.txn_replay.proofs.RunLaws.CardsReached.{event_sound}
use Rattle.txn_replay.proofs.RunLaws.LinesReached.{reached_lines, lane_behind}
use Rattle.txn_replay.proofs.Lists.{get_or-map_const}
use Rattle.txn_replay.proofs.ExchangeLaws.PurchaseFacts.{payment_facts}
use Rattle.txn_replay.proofs.ExchangeLaws.LaneMessages.{Later, later_ended, LanesLike, settle_like, audit_like}
use Rattle.txn_replay.proofs.RunLaws.SoundWorlds.{first_sound}

abbrev told : ℕ → List Line → ℕ
told l lines = count_by (is_lost_line l) lines

told-append : (l : ℕ) (xs ys : List Line) → told l (xs ++ ys) ≡ told l xs + told l ys
told-append l xs ys = sum_by-append (λ (x : Line). cond (is_lost_line l x) 1 0) xs ys

-- how often the line of a lost purchase is told in a lane
one_if : Bool → ℕ
one_if b = cond b 1 0

lost_told : (k lane number : ℕ) → told k (EndLost lane number ∷ []) ≡ one_if (lane == k)
unfolding one_if
lost_told k lane number =
    let one : told k (EndLost lane number ∷ []) ≡ cond (lane == k) 1 0 + 0 = sum_by-cons (λ (x : Line). cond (is_lost_line k x) 1 0) (EndLost lane number) [] in
    omega (arith, one)

own_lane : (l : ℕ) → one_if (l == l) ≡ 1
unfolding one_if
own_lane l = ap (λ (b : Bool). cond b 1 0) (eq-eqb l l refl)

other_lane : (k l : ℕ) → k ≢ l → one_if (l == k) ≡ 0
unfolding one_if
other_lane k l other = by (l == k) refl
  where
    by : (b : Bool) → (l == k) ≡ b → ◌≡◌ {A = ℕ} (cond b 1 0) 0
    by true is = absurd (other (sym (eqb-true l k is)))
    by false is = refl

-- one more ended purchase
lost_more : (ended : List Past) (past : Past) → lost_count (ended ++ past ∷ []) ≡ lost_count ended + one_if past.lost
unfolding one_if
lost_more ended past =
    let more : lost_count (ended ++ past ∷ []) ≡ lost_count ended + lost_count (past ∷ []) = sum_by-append (λ (x : Past). cond x.lost 1 0) ended (past ∷ []) in
    let one : lost_count (past ∷ []) ≡ cond past.lost 1 0 + 0 = sum_by-cons (λ (x : Past). cond x.lost 1 0) past [] in
    omega (arith, more, one)

module _ (p : Payment) (part : Part) where
  abbrev Came : LaneRow → List Reply → CardRow → List (List ℕ) → List Line → Type 0
  Came lane replies card messages lines = (k : ℕ) → told k lines ≡ 0

  pub record Behind (after : Part) (lines : List Line) : Type 0 where
    pub own : lost_count after.lane.ended ≡ lost_count part.lane.ended + told p.lane lines
    pub others : (k : ℕ) → k ≢ p.lane → told k lines ≡ 0

  none_lost : (after : Part) (lines : List Line) → after.lane.ended ≡ part.lane.ended → ((k : ℕ) → told k lines ≡ 0) → Behind after lines
  none_lost after lines same none = record {
    own = (let count : lost_count after.lane.ended ≡ lost_count part.lane.ended = ap lost_count same in omega (arith, count, none p.lane));
    others = λ k other. none k;
  }

  host_none : (message : List ℕ) (reply : Option (List ℕ)) (k : ℕ) → told k (host_lines p.iso p.lane message reply) ≡ 0
  host_none message None k = refl
  host_none message (Some reply) k = refl

  -- a purchase that ends, lost or not
  end_told : (lost : Bool) (k number : ℕ) (end : EndData) → told k (outcome_line lost p.lane number end ∷ []) ≡ (if lost then one_if (p.lane == k) else 0)
  end_told true k number end = lost_told k p.lane number
  end_told false k number end = refl

  ends_so : (lane : LaneRow) → Later part.lane lane → (lines : List Line) → ((k : ℕ) → told k lines ≡ 0) → (lost : Bool) (end : EndData) (past : Past) → past.lost ≡ lost
      → (after : Part) → after.lane.ended ≡ lane.ended ++ past ∷ [] → Behind after (lines ++ outcome_line lost p.lane (length lane.ended + 1) end ∷ [])
  unfolding one_if
  ends_so lane later lines none lost end past is after same = record {
    own = own lost refl;
    others = λ k other. others lost k other;
  }
    where
      count : lost_count after.lane.ended ≡ lost_count part.lane.ended + one_if past.lost
      count =
          ap lost_count same ∙ lost_more lane.ended past ∙ ap (λ (pasts : List Past). lost_count pasts + one_if past.lost) (later_ended part.lane lane later)

      own : (b : Bool) → lost ≡ b → lost_count after.lane.ended ≡ lost_count part.lane.ended + told p.lane (lines ++ outcome_line b p.lane (length lane.ended + 1) end ∷ [])
      own b so =
          let both = told-append p.lane lines (outcome_line b p.lane (length lane.ended + 1) end ∷ []) in
          let last = end_told b p.lane (length lane.ended + 1) end in
          let past_is : one_if past.lost ≡ one_if b = ap one_if (is ∙ so) in
          by b both last past_is
        where
          by : (c : Bool) → told p.lane (lines ++ outcome_line c p.lane (length lane.ended + 1) end ∷ []) ≡ told p.lane lines + told p.lane (outcome_line c p.lane (length lane.ended + 1) end ∷ [])
              → told p.lane (outcome_line c p.lane (length lane.ended + 1) end ∷ []) ≡ (if c then one_if (p.lane == p.lane) else 0) → one_if past.lost ≡ one_if c
              → lost_count after.lane.ended ≡ lost_count part.lane.ended + told p.lane (lines ++ outcome_line c p.lane (length lane.ended + 1) end ∷ [])
          by true both last past_is = omega (arith, count, both, last, past_is, none p.lane, own_lane p.lane)
          by false both last past_is = omega (arith, count, both, last, past_is, none p.lane)

      others : (b : Bool) (k : ℕ) → k ≢ p.lane → told k (lines ++ outcome_line b p.lane (length lane.ended + 1) end ∷ []) ≡ 0
      others true k other =
          let both = told-append k lines (outcome_line true p.lane (length lane.ended + 1) end ∷ []) in
          omega (arith, both, end_told true k (length lane.ended + 1) end, none k, other_lane k p.lane other)
      others false k other =
          let both = told-append k lines (outcome_line false p.lane (length lane.ended + 1) end ∷ []) in
          omega (arith, both, end_told false k (length lane.ended + 1) end, none k)

  tells_losing : Tells p part Came Behind
  tells_losing = record {
    still = none_lost part [] refl (λ k. refl);
    goes = λ lane later replies card messages lines came.
        none_lost (record { lane = record lane { running = Some replies }; card = card; messages = messages }) lines (later_ended part.lane lane later) came;
    ends = λ lane later replies card messages lines came end is.
        ends_so lane later lines came (loses p lane.store end.capture) end
        (record { began = lane.began; replies = replies; end = Some end; lost = loses p lane.store end.capture }) refl _ refl;
    powers = λ rests free apps choice k. refl;
    power_cut = λ rests free apps is k. refl;
    powers_canned = λ rests free answers canned k. refl;
    answers = λ replies runs apps command asks k. refl;
    cuts = λ replies runs command cut at k. refl;
    tells = λ replies runs answers canned command answer k. refl;
    gone = λ replies runs answers canned command k. refl;
    hosts = λ replies runs message asks reply is. host_none message reply;
  }

  copies_none : (message : List ℕ) (messages : List (List ℕ)) (n k : ℕ) → told k (copy_lines p message messages n) ≡ 0
  copies_none message messages zero k = refl
  copies_none message messages (suc n) k =
      let reply : List ℕ = host_reply p.issuer p.accounts (messages ++ replicate n message) message in
      let both : told k (copy_lines p message messages n ++ settle_lines p.iso p.lane message reply)
      ≡ told k (copy_lines p message messages n) + told k (settle_lines p.iso p.lane message reply) =
      told-append k (copy_lines p message messages n) (settle_lines p.iso p.lane message reply) in
      let last : told k (settle_lines p.iso p.lane message reply) ≡ 0 = refl in
      let earlier : told k (copy_lines p message messages n) ≡ 0 = copies_none message messages n k in
      omega (arith, both, last, earlier)

  -- one that is lost before it begins
  lost_so : (lines : List Line) → ((k : ℕ) → told k lines ≡ 0) → (after : Part) → after.lane.ended ≡ (lane_lost part.lane).ended
      → Behind after (lines ++ EndLost p.lane (length part.lane.ended + 1) ∷ [])
  unfolding one_if
  lost_so lines none after same = record {
    own = own;
    others = λ k other.
        (let both = told-append k lines (EndLost p.lane (length part.lane.ended + 1) ∷ []) in
        omega (arith, both, lost_told k p.lane (length part.lane.ended + 1), none k, other_lane k p.lane other));
  }
    where
      own : lost_count after.lane.ended ≡ lost_count part.lane.ended + told p.lane (lines ++ EndLost p.lane (length part.lane.ended + 1) ∷ [])
      own =
          let count : lost_count after.lane.ended ≡ lost_count part.lane.ended + 1 =
          ap lost_count same ∙ lost_more part.lane.ended (record { began = None; replies = []; end = None; lost = true }) in
          let both = told-append p.lane lines (EndLost p.lane (length part.lane.ended + 1) ∷ []) in
          omega (arith, count, both, lost_told p.lane p.lane (length part.lane.ended + 1), none p.lane, own_lane p.lane)

module _ (p : Payment) (part : Part) where
  again_losing : (one : Bool) → Tells p (part_with (opened_to_add part.lane.store one) part) (Came p part) (Behind p part)
  again_losing one =
      let tells = tells_losing p (part_with (opened_to_add part.lane.store one) part) in
      record {
        still = turned tells.still;
        goes = λ lane later replies card messages lines came. turned (tells.goes lane later replies card messages lines came);
        ends = λ lane later replies card messages lines came end is. turned (tells.ends lane later replies card messages lines came end is);
        powers = tells.powers;
        power_cut = tells.power_cut;
        powers_canned = tells.powers_canned;
        answers = tells.answers;
        cuts = tells.cuts;
        tells = tells.tells;
        gone = tells.gone;
        hosts = tells.hosts;
      }
    where
      turned : {after : Part} {lines : List Line} → Behind p (part_with (opened_to_add part.lane.store one) part) after lines → Behind p part after lines
      turned so = record { own = so.own; others = so.others }

  store_losing : StoreTells p part (Came p part) (Behind p part)
  store_losing = record {
    own = tells_losing p part;
    again = λ one at off. again_losing one;
    opened = λ one at off. none_lost p part (part_with (opened_to_add part.lane.store one) part) [] refl (λ k. refl);
    lost = λ at cut. lost_so p part [] (λ k. refl) (record part { lane = lane_lost part.lane }) refl;
    sent = λ at message. none_lost p part (copied p message part) _ refl (copies_none p part message part.messages p.copies);
    sent_lost = λ at message cut.
        lost_so p part (copy_lines p message part.messages p.copies) (copies_none p part message part.messages p.copies)
        (record (copied p message part) { lane = lane_lost (lane_copied p message part.lane) }) refl;
  }

-- over the events of a run
pub record AreLostSo (s : ScenarioData) (w : World) (lines : List Line) : Type 0 where
  pub sound : IsWorldSound s w
  pub lanes : (l : ℕ) → lost_count (lane_at w l).ended ≡ told l lines

module _ (s : ScenarioData) (w : World) (lines : List Line) (choices : List Bool) (so : AreLostSo s w lines) where
  abbrev LostIn : World → List Line → Type 0
  LostIn after new = (k : ℕ) → lost_count (lane_at after k).ended ≡ told k (lines ++ new)

  calm : (after : World) → LanesLike after w → (new : List Line) → ((k : ℕ) → told k new ≡ 0) → LostIn after new
  calm after like new none k =
      let same : lost_count (lane_at after k).ended ≡ lost_count (lane_at w k).ended = ap (λ (row : LaneRow). lost_count row.ended) (like.each k) in
      omega (arith, same, so.lanes k, told-append k lines new, none k)

  turn_lost : (l : ℕ) (o : Option Payment) → next_of s w l ≡ o → LostIn (turned_by w l choices o).world (turned_by w l choices o).lines
  turn_lost l None is = calm w (settle_like s w choices None) [] (λ k. refl)
  turn_lost l (Some p) is = λ k. by_lane k (cases_eq k l)
    where
      part : Part
      part = part_of w l p.planned.card

      m : Moved
      m = lane_piece p part (choice_in choices 0) (choice_in choices 1)

      lane : p.lane ≡ l
      lane = (payment_facts s l _ p is).lane

      behind : Behind p part m.part m.lines
      behind = lane_tells p part (Came p part) (Behind p part) (store_losing p part) (choice_in choices 0) (choice_in choices 1)

      by_lane : (k : ℕ) → (k ≡ l) ⊎ (k ≢ l) → lost_count (lane_at (turned_by w l choices (Some p)).world k).ended ≡ told k (lines ++ m.lines)
      by_lane k (inl this) =
          let row : lost_count (lane_at (turned_by w l choices (Some p)).world k).ended ≡ lost_count m.part.lane.ended =
          ap (λ j. lost_count (lane_at (turned_by w l choices (Some p)).world j).ended) this
          ∙ ap (λ (x : LaneRow). lost_count x.ended) (lane_behind s w l p so.sound is m) in
          let own : told k m.lines ≡ told p.lane m.lines = ap (λ j. told j m.lines) (this ∙ sym lane) in
          let before : told k lines ≡ told l lines = ap (λ j. told j lines) this in
          omega (arith, row, own, before, so.lanes l, behind.own, told-append k lines m.lines)
      by_lane k (inr other) =
          let row : lost_count (lane_at (turned_by w l choices (Some p)).world k).ended ≡ lost_count (lane_at w k).ended =
          ap (λ (x : LaneRow). lost_count x.ended) (get_or-set_other w.lanes l k m.part.lane new_lane other) in
          omega (arith, row, so.lanes k, behind.others k (λ same. other (same ∙ lane)), told-append k lines m.lines)

  settle_lost : (o : Option Settlement) → LostIn (settles s w choices o).world (settles s w choices o).lines
  settle_lost None = calm w (settle_like s w choices None) [] (λ k. refl)
  settle_lost (Some (Opens l)) = calm (settles s w choices (Some (Opens l))).world (settle_like s w choices (Some (Opens l))) [] (λ k. refl)
  settle_lost (Some (Sends l message drops)) =
      calm (settles s w choices (Some (Sends l message drops))).world (settle_like s w choices (Some (Sends l message drops)))
      (settles s w choices (Some (Sends l message drops))).lines (λ k. refl)

  audit_lost : (o : Option Check) → LostIn (audits w choices o).world (audits w choices o).lines
  audit_lost None = calm w (audit_like w choices None) [] (λ k. refl)
  audit_lost (Some (PowersUp i card)) =
      calm (audits w choices (Some (PowersUp i card))).world (audit_like w choices (Some (PowersUp i card)))
      (audits w choices (Some (PowersUp i card))).lines (λ k. refl)
  audit_lost (Some (Asks i card command)) =
      calm (audits w choices (Some (Asks i card command))).world (audit_like w choices (Some (Asks i card command)))
      (audits w choices (Some (Asks i card command))).lines (λ k. refl)

  event_lost : (e : Event) → LostIn (happens s w e choices).world (happens s w e choices).lines
  event_lost (Turn l) = turn_lost l (next_of s w l) refl
  event_lost (Settle n) = settle_lost (slice_get (settlements s w) n)
  event_lost (Audit n) = audit_lost (slice_get (checks s) n)

lost_next : (s : ScenarioData) (w : World) (lines : List Line) (e : Event) (choices : List Bool) → AreLostSo s w lines
    → AreLostSo s (happens s w e choices).world (lines ++ (happens s w e choices).lines)
lost_next s w lines e choices so = record { sound = event_sound s w e choices so.sound; lanes = event_lost s w lines choices so e }

lost_first : (s : ScenarioData) → AreLostSo s (first_world s) []
lost_first s = record {
  sound = first_sound s;
  lanes = λ l. ap (λ (row : LaneRow). lost_count row.ended) (get_or-map_const s.lanes l new_lane);
}

pub lost_are_told : LostAreTold
lost_are_told s place n choices lines w reached = (reached_lines s (AreLostSo s) (lost_first s) (lost_next s) place n choices lines w reached).lanes

-- the lines at the end tell none
balance_none : (l : ℕ) (pan : List ℕ) (o : Option ℤ) → told l (balance_line pan o) ≡ 0
balance_none l pan None = refl
balance_none l pan (Some amount) = refl

accounts_none : (s : ScenarioData) (w : World) (l : ℕ) (accounts : List AccountData) → told l (flat_map (account_lines s w) accounts) ≡ 0
accounts_none s w l [] = refl
accounts_none s w l (account ∷ accounts) =
    omega (
      arith,
      told-append l (account_lines s w account) (flat_map (account_lines s w) accounts),
      balance_none l account.pan (balance_after s.issuer s.accounts w.messages account.pan),
      accounts_none s w l accounts,
    )

pub whole_lost : WholeRunsTellLost
whole_lost s lines w run l =
    let reported : lost_count (lane_at w l).ended ≡ told l run.reported = lost_are_told s Finished run.count run.choices run.reported w run.reached l in
    let accounts : told l (flat_map (account_lines s w) s.accounts) ≡ 0 = accounts_none s w l s.accounts in
    let last : told l (Done (ended_count w) ∷ []) ≡ 0 = refl in
    let all : lost_count (lane_at w l).ended ≡ told l (run.reported ++ closing s w) = omega (
      arith,
      reported,
      accounts,
      last,
      told-append l run.reported (closing s w),
      told-append l (flat_map (account_lines s w) s.accounts) (Done (ended_count w) ∷ []),
    ) in
    all ∙ ap (told l) (sym run.whole)
