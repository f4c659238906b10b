-- What becomes of a document.
use Rattle.std.proofs.Common.{◌≡◌, ℕ, ◌<◌, ◌≤◌, List, [], ◌∷◌, length, arith, Option, Some, None, Ok, refl, sym, ap, ◌∙◌}
use Rattle.line_talk.proofs.Talking.{weaker}
use Rattle.line_talk.specs.Talk.{EndsDocument, HasServed, IsLacking, NotAsked, Served, Sides, TalkEnds, WritesLast, other_line}
use Rattle.line_talk.specs.declared.status.Status.{Status}
use Rattle.line_talk.specs.declared.status.Status.TheVariants.{Unserved}
use Rattle.scenario_plan.specs.declared.plan.CardKind.{CardKind}
use Rattle.scenario_plan.specs.declared.plan.NamedCard.{NamedCard}
use Rattle.card_at_reader.specs.Desk.{card_opening}
use Rattle.card_at_reader.specs.Document.{wanted_kind, ReadsCards}
use Rattle.card_at_reader.specs.Top.{IsServed, IsTalkOf, card_name_in, card_programme, programme_of}

module _ (name : Option (List ℕ)) (bytes : List ℕ) (cards shown : List NamedCard) (reading : ReadsCards bytes (Ok cards)) (same : shown ≡ cards) where
  -- a card of it was served
  pub card_served : (kind : CardKind) → Some kind ≡ wanted_kind name shown → (s : Sides) (status : Status) → TalkEnds (IsTalkOf kind) card_opening s status
      → EndsDocument (card_programme name) bytes s status
  card_served kind found s status ends =
      let served : IsServed name bytes kind = record {
        cards = cards;
        reading = reading;
        kind_is = ap (λ (cs : List NamedCard). wanted_kind name cs) (sym same) ∙ sym found;
      } in
      HasServed card_opening
      (weaker (IsTalkOf kind) ((card_programme name).Talks bytes card_opening) (λ turns talk. (kind, served, refl, talk)) card_opening s status ends)

  -- there is none of that name
  pub card_lacking : None ≡ wanted_kind name shown → (s : Sides) (status : Status) → s.left ≡ s.first → WritesLast Unserved status s.before s.held other_line
      → EndsDocument (card_programme name) bytes s status
  card_lacking none s status unread writes =
      IsLacking (cards, reading, ap (λ (cs : List NamedCard). wanted_kind name cs) (sym same) ∙ sym none) unread writes

-- of one word at most the first is all
pub served_by : (words : List (List ℕ)) (s : Sides) (status : Status) → length words ≤ 1 → Served (card_programme (card_name_in words)) s status
    → Served (programme_of words) s status
served_by [] s status few served = served
served_by (name ∷ []) s status few served = served
served_by (name ∷ second ∷ words) s status few served = absurd (omega (arith, few))

pub none_asked : (words : List (List ℕ)) (s : Sides) (status : Status) → 1 < length words → s.left ≡ s.first → WritesLast Unserved status s.before s.held other_line
    → Served (programme_of words) s status
none_asked [] s status many unread writes = absurd (omega (arith, many))
none_asked (name ∷ []) s status many unread writes = absurd (omega (arith, many))
none_asked (name ∷ second ∷ words) s status many unread writes = NotAsked tt unread writes
