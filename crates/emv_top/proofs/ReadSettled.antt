-- In a reading no card has an open decision and none has lost its power, since nothing cuts it; and no line tells that one has.
use Rattle.std.proofs.Common.{◌≡◌, ℕ, ◌+◌, Bool, false, cond, List, [], ◌∷◌, ◌++◌, map, Option, Some, None, refl, sym, ap, ◌∙◌, subst, arith}
use Rattle.std.specs.List.{All, count_by, flat_map}
use Rattle.std.proofs.lemmas.List.Elements.{All-append}
use Rattle.std.proofs.lemmas.List.Sums.{sum_by-append}
use Rattle.emv_dict.specs.declared.ending.Ending.{Ending}
use Rattle.emv_top.specs.Answers.{AreSettled, CalmReading}
use Rattle.emv_top.proofs.LineBytes.{told_lines}
use Rattle.emv_top.proofs.ReadStored.{read_stored}
use Rattle.emv_top.proofs.ReadTold.{read_named, reading_named}
use Rattle.emv_top.proofs.Uncut.{Spares, lane_card}
use Rattle.emv_top.proofs.Untorn.{untorn_next}
use Rattle.kernel.specs.Laws.{ReadingCapturesNothing}
use Rattle.object_lists.specs.CardRead.{ReadCard}
use Rattle.report_text.specs.Told.{card_named, HasLineBytes, IsCardName}
use Rattle.report_text.specs.declared.line.Line.{Line}
use Rattle.report_text.specs.declared.line.Line.TheVariants as line
use Rattle.scenario_plan.specs.Plan.{ScenarioData, IsScenario}
use Rattle.txn_replay.specs.Laws.{is_torn}
use Rattle.txn_replay.specs.Named.{AreNamed}
use Rattle.txn_replay.specs.Part.{Part, Moved}
use Rattle.txn_replay.specs.Payment.{Payment, next_of}
use Rattle.txn_replay.specs.Reading.{ReadReached, start, turned, ReadRun, is_read, to_read, data_at, ending_at, object_line, read_lines, without_end}
use Rattle.txn_replay.specs.Steps.{Step, part_of, choice_in, turned_by}
use Rattle.txn_replay.specs.Storing.{lane_piece}
use Rattle.txn_replay.specs.World.{CardRow, World, new_card, card_at}
use Rattle.txn_replay.specs.declared.event.Event.TheVariants.{Turn}
use Rattle.txn_replay.proofs.Lists.{at_set, get_or-map_const}
use Rattle.txn_replay.proofs.CardLaws.ExchangeLosses.{lane_told}

-- as if it had never been used
abbrev pub AllSettled : World → Type 0
AllSettled w = (i : ℕ) → Spares new_card (card_at w i)

-- how many lines tell a loss
abbrev told : List Line → ℕ
told lines = count_by is_torn lines

-- and of lines that tell no loss
abbrev IsCalm : World → List Line → Type 0
IsCalm w lines = AllSettled w × (told lines ≡ 0)

told_both : (one other : List Line) → told (one ++ other) ≡ told one + told other
told_both one other = sum_by-append (λ (x : Line). cond (is_torn x) 1 0) one other

-- end lines tell none
one_without_end : (one : Line) → told (without_end one) ≡ told (one ∷ [])
one_without_end (line.Power lane card apps) = refl
one_without_end (line.PowerCanned lane card) = refl
one_without_end (line.PowerTorn lane card) = refl
one_without_end (line.ToCard lane bytes) = refl
one_without_end (line.FromCard lane bytes) = refl
one_without_end (line.Torn lane) = refl
one_without_end (line.Gone lane) = refl
one_without_end (line.ToHost lane bytes) = refl
one_without_end (line.FromHost lane bytes) = refl
one_without_end (line.NoReply lane) = refl
one_without_end (line.End lane number parts) = refl
one_without_end (line.EndLost lane number) = refl
one_without_end (line.SettleCall lane bytes) = refl
one_without_end (line.SettleReply lane bytes) = refl
one_without_end (line.AuditPower card apps) = refl
one_without_end (line.AuditAsk card bytes) = refl
one_without_end (line.AuditAnswer card bytes) = refl
one_without_end (line.Balance pan amount) = refl
one_without_end (line.Done number) = refl
one_without_end (line.Object tag value) = refl
one_without_end line.ReadOk = refl
one_without_end (line.ReadEnded ending) = refl

without_ends : (lines : List Line) → told (flat_map without_end lines) ≡ told lines
without_ends [] = refl
without_ends (one ∷ others) =
    told_both (without_end one) (flat_map without_end others)
    ∙ (λ i. one_without_end one i + without_ends others i)
    ∙ sym (told_both (one ∷ []) others)

objects_tell_none : (entries : List (ℕ × List ℕ)) → told (map object_line entries) ≡ 0
objects_tell_none [] = refl
objects_tell_none (entry ∷ entries) = objects_tell_none entries

module _ (whole : ScenarioData) where
  turn_settled : (w : World) (choices : List Bool) (o : Option Payment) → ((p : Payment) → o ≡ Some p → p.planned.tear ≡ None) → AllSettled w
      → AllSettled (turned_by w 0 choices o).world × (told (turned_by w 0 choices o).lines ≡ 0)
  turn_settled w choices None none all = (all, refl)
  turn_settled w choices (Some p) none all = (
    at_set (λ (i : ℕ) (row : CardRow). Spares new_card row) w.cards p.planned.card m.part.card new_card
        (kept.0, kept.1 ∙ (all p.planned.card).1) all,
    quiet,
  )
    where
      part : Part
      part = part_of w 0 p.planned.card

      m : Moved
      m = lane_piece p part (choice_in choices 0) (choice_in choices 1)

      kept : Spares part.card m.part.card
      kept = lane_card p part (λ apps. none p refl) (all p.planned.card).0 (choice_in choices 0) (choice_in choices 1)

      quiet : told m.lines ≡ 0
      quiet =
          let losses : m.part.card.losses ≡ part.card.losses + told m.lines = lane_told p part (choice_in choices 0) (choice_in choices 1) in
          let same : m.part.card.losses ≡ part.card.losses = kept.1 in omega (arith, losses, same)

  one_more : (n : ℕ) (cs c : List Bool) (ls new : List Line) (w after : World) → ReadReached (to_read whole) n cs ls w → is_read (to_read whole) w ≡ false
      → Step (to_read whole) w (Turn 0) c new after → IsCalm w ls → IsCalm after (ls ++ flat_map without_end new)
  one_more n cs c ls new w after before unread step calm = (
    (λ i. subst (λ (v : World). Spares new_card (card_at v i)) (sym step.leads) (next.0 i)),
    (let more : told new ≡ 0 = ap told step.made ∙ next.1 in
        let earlier : told ls ≡ 0 = calm.1 in
        let both : told (ls ++ flat_map without_end new) ≡ told ls + told (flat_map without_end new) = told_both ls (flat_map without_end new) in
        let shown : told (flat_map without_end new) ≡ told new = without_ends new in omega (arith, more, earlier, both, shown)),
  )
    where
      next : AllSettled (turned_by w 0 c (next_of (to_read whole) w 0)).world × (told (turned_by w 0 c (next_of (to_read whole) w 0)).lines ≡ 0)
      next =
          turn_settled w c (next_of (to_read whole) w 0) (λ p is. (untorn_next whole n cs ls w before unread p is).tear) calm.0

  so_far : (n : ℕ) (cs : List Bool) (ls : List Line) (w : World) → ReadReached (to_read whole) n cs ls w → IsCalm w ls
  so_far _ _ _ _ start =
      ((λ i. subst (λ (row : CardRow). Spares new_card row) (sym (get_or-map_const whole.cards i new_card)) (refl, refl)), refl)
  so_far _ _ _ _ (turned {n} {cs} {c} {ls} {new} {w} {w' = after} before unread step) =
      one_more n cs c ls new w after before unread step (so_far n cs ls w before)

  pub read_settled : (n : ℕ) (cs : List Bool) (ls : List Line) (w : World) → ReadReached (to_read whole) n cs ls w → AreSettled whole w
  read_settled n cs ls w reached i card is = ((so_far n cs ls w reached).0 i).0

  reading_tells_none : (card : Option ReadCard) (ending : Option Ending) → told (read_lines card ending) ≡ 0
  reading_tells_none (Some card) ending =
      let both : told (map object_line card.entries ++ line.ReadOk ∷ []) ≡ told (map object_line card.entries) + told (line.ReadOk ∷ []) =
      told_both (map object_line card.entries) (line.ReadOk ∷ []) in
      let none : told (map object_line card.entries) ≡ 0 = objects_tell_none card.entries in
      let last : told (line.ReadOk ∷ []) ≡ 0 = refl in omega (arith, both, none, last)
  reading_tells_none None None = refl
  reading_tells_none None (Some ending) = refl

  pub read_calm : ReadingCapturesNothing → IsScenario (to_read whole) → (ls : List Line) (w : World) → ReadRun whole ls w → All HasLineBytes ls → CalmReading whole ls w
  read_calm nothing fits ls w run bytes = record {
    run = run;
    told = told_lines ls bytes (subst AreNamed (sym run.whole)
        (All-append (λ (line : Line). IsCardName (card_named line)) run.reported tail
        (read_named (to_read whole) fits run.count run.choices run.reported w run.reached) (reading_named (data_at (to_read whole) w 0) (ending_at w 0))));
    losses = λ i. (calm.0 i).1;
    untold = ap told run.whole ∙ none;
    kept = λ l. (read_stored whole nothing run.count run.choices run.reported w run.reached l).kept;
    emptied = λ l. (read_stored whole nothing run.count run.choices run.reported w run.reached l).emptied;
  }
    where
      calm : IsCalm w run.reported
      calm = so_far run.count run.choices run.reported w run.reached

      tail : List Line
      tail = read_lines (data_at (to_read whole) w 0) (ending_at w 0)

      none : told (run.reported ++ tail) ≡ 0
      none =
          let both : told (run.reported ++ tail) ≡ told run.reported + told tail = told_both run.reported tail in
          let before : told run.reported ≡ 0 = calm.1 in
          let last : told tail ≡ 0 = reading_tells_none (data_at (to_read whole) w 0) (ending_at w 0) in omega (arith, both, before, last)
