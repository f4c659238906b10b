-- What holds of each purchase of a lane as it ends holds, behind an exchange, of all that have ended.
use Rattle.std.proofs.Common.{◌≡◌, ℕ, Bool, true, List, [], ◌∷◌, ◌++◌, Option, Some, None, subst, sym}
use Rattle.std.specs.List.{AllByRecursion}
use Rattle.capture_store.specs.StoreRow.{commit_next, opened_to_add}
use Rattle.card_state.specs.Decisions.{Decided}
use Rattle.emv_ports.specs.Cut.{names_commit}
use Rattle.kernel.specs.Ended.{EndData}
use Rattle.kernel.specs.Reply.{Reply}
use Rattle.report_text.specs.declared.line.Line.{Line}
use Rattle.txn_replay.specs.Part.{Part, loses}
use Rattle.txn_replay.specs.Payment.{Payment, end_at}
use Rattle.txn_replay.specs.Storing.{part_with, lane_piece}
use Rattle.txn_replay.specs.World.{Past, CardRow, LaneRow}
use Rattle.txn_replay.proofs.ExchangeLaws.ExchangeCases.{Tells, StoreTells, lane_tells}
use Rattle.txn_replay.proofs.ExchangeLaws.LaneMessages.{Later, later_ended}

one_more : (P : Past → Type 0) (pasts : List Past) (past : Past) → AllByRecursion P pasts → P past → AllByRecursion P (pasts ++ past ∷ [])
one_more P [] past all one = (one, tt)
one_more P (first ∷ pasts) past all one = (all.0, one_more P pasts past all.1 one)

module _ (P : Past → Type 0) (p : Payment)
    (ended : (began : Option (List Decided)) (replies : List Reply) (end : EndData) (lost : Bool) → end_at p replies ≡ Some end
    → P (record { began = began; replies = replies; end = Some end; lost = lost }))
    (cut : (n : ℕ) → names_commit p.planned.terminal_tear n ≡ true → P (record { began = None; replies = []; end = None; lost = true })) where
  module _ (part : Part) (before : AllByRecursion P part.lane.ended) where
    abbrev Came : LaneRow → List Reply → CardRow → List (List ℕ) → List Line → Type 0
    Came lane replies card messages lines = Unit {0}

    abbrev Behind : Part → List Line → Type 0
    Behind after lines = AllByRecursion P after.lane.ended

    later_all : (lane : LaneRow) → Later part.lane lane → AllByRecursion P lane.ended
    later_all lane later = subst (λ (pasts : List Past). AllByRecursion P pasts) (sym (later_ended part.lane lane later)) before

    tells_all : Tells p part Came Behind
    tells_all = record {
      still = before;
      goes = λ lane later replies card messages lines came. later_all lane later;
      ends = λ lane later replies card messages lines came end is.
          one_more P lane.ended (record { began = lane.began; replies = replies; end = Some end; lost = loses p lane.store end.capture }) (later_all lane later)
          (ended lane.began replies end (loses p lane.store end.capture) is);
      powers = λ rests free apps choice. tt;
      power_cut = λ rests free apps is. tt;
      powers_canned = λ rests free answers canned. tt;
      answers = λ replies runs apps command asks. tt;
      cuts = λ replies runs command cut is. tt;
      tells = λ replies runs answers canned command answer. tt;
      gone = λ replies runs answers canned command. tt;
      hosts = λ replies runs message asks reply is. tt;
    }

    lost_all : (n : ℕ) → names_commit p.planned.terminal_tear n ≡ true
        → AllByRecursion P (part.lane.ended ++ record { began = None; replies = []; end = None; lost = true } ∷ [])
    lost_all n named = one_more P part.lane.ended (record { began = None; replies = []; end = None; lost = true }) before (cut n named)

  store_all : (part : Part) (before : AllByRecursion P part.lane.ended) → StoreTells p part (Came part before) (Behind part before)
  store_all part before = record {
    own = tells_all part before;
    again = λ one at off. tells_all (part_with (opened_to_add part.lane.store one) part) before;
    opened = λ one at off. before;
    lost = λ at named. lost_all part before 0 named;
    sent = λ at message. before;
    sent_lost = λ at message named. lost_all part before (commit_next part.lane.store) named;
  }

  pub lane_pasts : (part : Part) → AllByRecursion P part.lane.ended → (one other : Bool) → AllByRecursion P (lane_piece p part one other).part.lane.ended
  lane_pasts part before one other = lane_tells p part (Came part before) (Behind part before) (store_all part before) one other
