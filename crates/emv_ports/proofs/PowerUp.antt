-- Pages that live in memory are turned on, written and torn as the memory says.
use Rattle.std.proofs.Common.{suc, zero, ◌≡◌, ◌<◌, ◌==◌, ℕ, List, [], ◌∷◌, length, get_or, map, refl, ap, sym, ◌∙◌, arith, IsTrue, Bool, true, Option, Some}
use Rattle.std.proofs.Math.ListN.{set}
use Rattle.std.proofs.lemmas.List.{map-set, length-map, map-id}
use Rattle.std.proofs.Math.ListN.{get_or-map}
use Rattle.std.proofs.Math.Seq.{map-set_same}
use Rattle.std.proofs.lemmas.Bool.{eqb-true}
use Rattle.std.proofs.lemmas.Simd.{map-map}
use Rattle.std.specs.List.{list_all}
use Rattle.emv_ports.specs.Cell.{sure_of, given_of, all_torn_over, settled_from, gives_byte, is_page}
use Rattle.emv_ports.specs.Causes.{one_more}
use Rattle.emv_ports.specs.Cut.{is_plan}
use Rattle.emv_ports.specs.Memory.{Memory, PowersUp, next, page_written, page_torn, torn_page}
use Rattle.emv_ports.specs.declared.memory_pages.Cell.{Cell}
use Rattle.emv_ports.specs.declared.memory_pages.Cell.TheVariants.{Sure}
use Rattle.emv_ports.specs.declared.tear.Tear.{Tear}
use Rattle.emv_ports.proofs.Cells.{sure_of-all_settled, sure_of-all_torn, given_of-all_torn, reading_pages, and_true}

page_long : (pages : List (List Cell)) (page : ℕ) → IsTrue (list_all is_page pages) → page < length pages
    → length (get_or (map (map sure_of) pages) page []) ≡ 64
page_long [] page whole inside = absurd (omega arith)
page_long (first ∷ pages) zero whole inside =
    length-map first sure_of ∙ eqb-true (length first) 64 (and_true (length first == 64) (list_all gives_byte first) (and_true (is_page first) (list_all is_page pages) whole).0).0
page_long (first ∷ pages) (suc page) whole inside =
    page_long pages page (and_true (is_page first) (list_all is_page pages) whole).1 (omega arith)

pub powers_up : (cells new : List (List Cell)) (power_up : ℕ) (on : Bool) (plan : Option Tear) (commit writes losses power_ups power_ups' : ℕ)
    → new ≡ map (settled_from power_up 0) cells → length new ≡ 64 → IsTrue (list_all is_page new) → IsTrue (is_plan plan)
    → power_ups' ≡ one_more power_ups
    → PowersUp
    (record { cells = map (map sure_of) cells; shown = map (map given_of) cells; on = on; plan = plan; commit = commit; writes = writes; losses = losses; power_ups = power_ups })
    (record { cells = map (map sure_of) new; shown = map (map given_of) new; on = true; plan = plan; commit = 0; writes = 0; losses = losses; power_ups = power_ups' })
powers_up cells new power_up on plan commit writes losses power_ups power_ups' is long whole planned count =
    let same : map (map sure_of) new ≡ map (map sure_of) cells =
    ap (λ (l : List (List Cell)). map (map sure_of) l) is ∙ sure_of-all_settled power_up cells in
    let turned_on = ap (λ (l : List (List (Option ℕ))). let m : Memory = record { cells = l; shown = map (map given_of) new; on = true; plan = plan; commit = 0; writes = 0; losses = losses; power_ups = power_ups' } in m) same
    ∙ ap (λ (n : ℕ). let m : Memory = record { cells = map (map sure_of) cells; shown = map (map given_of) new; on = true; plan = plan; commit = 0; writes = 0; losses = losses; power_ups = n } in m) count in
    record {
      turned_on = turned_on;
      pages = length-map new (map sure_of) ∙ long;
      page_cells = λ page inside. page_long new page whole (omega (arith, long));
      reading = reading_pages new whole;
      plan = planned;
    }

same_memory : (cells cells' : List (List (Option ℕ))) (shown shown' : List (List ℕ)) (on : Bool) (plan : Option Tear) (commit writes writes' losses power_ups : ℕ)
    → cells ≡ cells' → shown ≡ shown' → writes ≡ writes'
    → let one : Memory = record { cells = cells; shown = shown; on = on; plan = plan; commit = commit; writes = writes; losses = losses; power_ups = power_ups } in
    let other : Memory = record { cells = cells'; shown = shown'; on = on; plan = plan; commit = commit; writes = writes'; losses = losses; power_ups = power_ups } in
    one ≡ other
same_memory cells cells' shown shown' on plan commit writes writes' losses power_ups e f g =
    ap (λ (l : List (List (Option ℕ))). let m : Memory = record { cells = l; shown = shown; on = on; plan = plan; commit = commit; writes = writes; losses = losses; power_ups = power_ups } in m) e
    ∙ ap (λ (l : List (List ℕ)). let m : Memory = record { cells = cells'; shown = l; on = on; plan = plan; commit = commit; writes = writes; losses = losses; power_ups = power_ups } in m) f
    ∙ ap (λ (l : ℕ). let m : Memory = record { cells = cells'; shown = shown'; on = on; plan = plan; commit = commit; writes = l; losses = losses; power_ups = power_ups } in m) g

pub writes_page : (cells : List (List Cell)) (page : ℕ) (bytes : List ℕ) (sure : List Cell) (on : Bool) (plan : Option Tear) (commit writes writes' losses power_ups : ℕ)
    → sure ≡ map Sure bytes → writes' ≡ next writes
    → let old : Memory = record { cells = map (map sure_of) cells; shown = map (map given_of) cells; on = on; plan = plan; commit = commit; writes = writes; losses = losses; power_ups = power_ups } in
    let new : Memory = record { cells = map (map sure_of) (set cells page sure); shown = map (map given_of) (set cells page sure); on = on; plan = plan; commit = commit; writes = writes'; losses = losses; power_ups = power_ups } in
    new ≡ page_written old page bytes
writes_page cells page bytes sure on plan commit writes writes' losses power_ups is count =
    let sures : map sure_of sure ≡ map Some bytes = ap (map sure_of) is ∙ map-map sure_of Sure bytes in
    let givens : map given_of sure ≡ bytes = ap (map given_of) is ∙ map-map given_of Sure bytes ∙ map-id bytes in
    same_memory _ _ _ _ on plan commit _ _ losses power_ups
    (map-set (map sure_of) cells page sure ∙ ap (λ (l : List (Option ℕ)). set (map (map sure_of) cells) page l) sures)
    (map-set (map given_of) cells page sure ∙ ap (λ (l : List ℕ). set (map (map given_of) cells) page l) givens)
    count

pub tears_page : (cells : List (List Cell)) (page : ℕ) (bytes : List ℕ) (torn_cells : List Cell) (on : Bool) (plan : Option Tear) (commit writes losses power_ups : ℕ)
    → torn_cells ≡ all_torn_over (get_or cells page []) bytes
    → let old : Memory = record { cells = map (map sure_of) cells; shown = map (map given_of) cells; on = on; plan = plan; commit = commit; writes = writes; losses = losses; power_ups = power_ups } in
    let new : Memory = record { cells = map (map sure_of) (set cells page torn_cells); shown = map (map given_of) (set cells page torn_cells); on = on; plan = plan; commit = commit; writes = writes; losses = losses; power_ups = power_ups } in
    new ≡ page_torn old page bytes
tears_page cells page bytes torn_cells on plan commit writes losses power_ups is =
    let sures : map sure_of torn_cells ≡ torn_page (get_or (map (map sure_of) cells) page []) bytes =
    ap (map sure_of) is ∙ sure_of-all_torn (get_or cells page []) bytes
    ∙ ap (λ (l : List (Option ℕ)). torn_page l bytes) (sym (get_or-map (map sure_of) cells page [])) in
    let givens : map given_of torn_cells ≡ map given_of (get_or cells page []) =
    ap (map given_of) is ∙ given_of-all_torn (get_or cells page []) bytes in
    same_memory _ _ _ _ on plan commit writes writes losses power_ups
    (map-set (map sure_of) cells page torn_cells ∙ ap (λ (l : List (Option ℕ)). set (map (map sure_of) cells) page l) sures)
    (map-set_same (map given_of) cells page torn_cells [] givens)
    refl
