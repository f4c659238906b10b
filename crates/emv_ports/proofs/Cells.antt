-- Lists of cells that grow by one.
use Rattle.std.proofs.Common.{◌≡◌, ◌<◌, ◌+◌, ◌%◌, ◌==◌, ℕ, List, [], ◌∷◌, ◌++◌, length, take, get_or, map, refl, ap, sym, ◌∙◌, arith}
use Rattle.std.proofs.Math.ListN.{set}
use Rattle.std.proofs.lemmas.List.{take_more, take_more_set, length-take-le}
use Rattle.std.proofs.lemmas.List.Folds.{list_all-append}
use Rattle.std.proofs.lemmas.Bool.{ltb-true}
use Rattle.std.specs.Prelude.{Bool, true, false, ◌&&◌, IsTrue, Option, Some, None}
use Rattle.std.specs.List.{list_all}
use Rattle.std.specs.Prelude.{if◌then◌else◌, nat_lt}
use Rattle.std.specs.List.{AllZip}
use Rattle.emv_ports.specs.Memory.{torn_page}
use Rattle.emv_ports.specs.PageReading.{Agrees, Reading}
use Rattle.emv_ports.specs.Cell.{sure_of, given_of, is_sure, torn_over, all_torn_over, cell_turned_on, settled_from, gives_byte, is_page}
use Rattle.emv_ports.specs.declared.memory_pages.Cell.{Cell}
use Rattle.emv_ports.specs.declared.memory_pages.Cell.TheVariants.{Sure, Unsure}

pub all_torn_over-push : (cells : List Cell) (bytes : List ℕ) (cell : Cell) (byte : ℕ) → length cells ≡ length bytes
    → all_torn_over (cells ++ cell ∷ []) (bytes ++ byte ∷ []) ≡ all_torn_over cells bytes ++ torn_over cell byte ∷ []
all_torn_over-push [] [] cell byte same = refl
all_torn_over-push [] (b ∷ bytes) cell byte same = grind arith
all_torn_over-push (c ∷ cells) [] cell byte same = grind arith
all_torn_over-push (c ∷ cells) (b ∷ bytes) cell byte same =
    ap (λ rest. torn_over c b ∷ rest) (all_torn_over-push cells bytes cell byte (omega arith))

pub settled_from-push : (power_up n i : ℕ) (cells : List Cell) (cell : Cell) → i ≡ n + length cells
    → settled_from power_up n (cells ++ cell ∷ []) ≡ settled_from power_up n cells ++ cell_turned_on ((i + power_up) % 2 == 0) cell ∷ []
settled_from-push power_up n i [] cell at = let here : n ≡ i = omega arith in rw here refl
settled_from-push power_up n i (c ∷ cells) cell at =
    ap (λ rest. cell_turned_on ((n + power_up) % 2 == 0) c ∷ rest) (settled_from-push power_up (n + 1) i cells cell (omega arith))

pub settled_from-sure : (power_up n : ℕ) (cells : List Cell) → IsTrue (list_all is_sure cells) → settled_from power_up n cells ≡ cells
settled_from-sure power_up n [] sure = refl
settled_from-sure power_up n (Sure byte ∷ cells) sure = ap (λ (l : List Cell). Sure byte ∷ l) (settled_from-sure power_up (n + 1) cells sure)
settled_from-sure power_up n (Unsure torn kept given ∷ cells) sure = (cc)

pub torn_step : (i : ℕ) (torn cells : List Cell) (bytes : List ℕ) (cell d : Cell) → i < length torn → i < length cells → i < length bytes
    → take i torn ≡ all_torn_over (take i cells) (take i bytes) → cell ≡ torn_over (get_or cells i d) (get_or bytes i 0)
    → take (i + 1) (set torn i cell) ≡ all_torn_over (take (i + 1) cells) (take (i + 1) bytes)
torn_step i torn cells bytes cell d in_torn in_cells in_bytes so_far is =
    rw (take_more_set torn i cell in_torn, take_more cells i d in_cells, take_more bytes i 0 in_bytes, so_far, is)
    (sym (all_torn_over-push (take i cells) (take i bytes) (get_or cells i d) (get_or bytes i 0)
    (simp (length-take-le i cells (omega arith), length-take-le i bytes (omega arith)))))

pub settle_step : (power_up i : ℕ) (out cells : List Cell) (cell d : Cell) → i < length out → i < length cells
    → take i out ≡ settled_from power_up 0 (take i cells) → cell ≡ cell_turned_on ((i + power_up) % 2 == 0) (get_or cells i d)
    → take (i + 1) (set out i cell) ≡ settled_from power_up 0 (take (i + 1) cells)
settle_step power_up i out cells cell d in_out in_cells so_far is =
    rw (take_more_set out i cell in_out, take_more cells i d in_cells, so_far, is)
    (sym (settled_from-push power_up 0 i (take i cells) (get_or cells i d) (omega (arith, length-take-le i cells (omega arith)))))

pub list_all_step : {X : Type 0} (p : X → Bool) (i : ℕ) (xs : List X) (x : X) → i < length xs → list_all p (take i xs) ≡ true → p x ≡ true
    → list_all p (take (i + 1) (set xs i x)) ≡ true
list_all_step p i xs x inside so_far here = rw (take_more_set xs i x inside, list_all-append p (take i xs) (x ∷ []), so_far, here) refl

sure_in_turn : (in_turn : Bool) (torn kept : ℕ) (rest : List (Option ℕ))
    → sure_of (if in_turn then Unsure torn kept torn else Unsure torn kept kept) ∷ rest ≡ None ∷ rest
sure_in_turn true torn kept rest = refl
sure_in_turn false torn kept rest = refl

sure_torn : (same : Bool) (sure byte : ℕ) (rest : List (Option ℕ))
    → sure_of (if same then Sure sure else Unsure byte sure sure) ∷ rest ≡ (if same then Some sure else None) ∷ rest
sure_torn true sure byte rest = refl
sure_torn false sure byte rest = refl

given_torn : (same : Bool) (sure byte : ℕ) (rest : List ℕ) → given_of (if same then Sure sure else Unsure byte sure sure) ∷ rest ≡ sure ∷ rest
given_torn true sure byte rest = refl
given_torn false sure byte rest = refl

pub and_true : (p q : Bool) → IsTrue (p && q) → IsTrue p × IsTrue q
and_true true true both = (refl, refl)
and_true true false both = (cc)
and_true false q both = (cc)

pub sure_of-settled_from : (power_up n : ℕ) (cells : List Cell) → map sure_of (settled_from power_up n cells) ≡ map sure_of cells
sure_of-settled_from power_up n [] = refl
sure_of-settled_from power_up n (Sure byte ∷ cells) = ap (λ l. Some byte ∷ l) (sure_of-settled_from power_up (n + 1) cells)
sure_of-settled_from power_up n (Unsure torn kept given ∷ cells) =
    sure_in_turn ((n + power_up) % 2 == 0) torn kept (map sure_of (settled_from power_up (n + 1) cells))
    ∙ ap (λ l. None ∷ l) (sure_of-settled_from power_up (n + 1) cells)

pub sure_of-all_settled : (power_up : ℕ) (pages : List (List Cell)) → map (map sure_of) (map (settled_from power_up 0) pages) ≡ map (map sure_of) pages
sure_of-all_settled power_up [] = refl
sure_of-all_settled power_up (page ∷ pages) =
    ap (λ l. l ∷ map (map sure_of) (map (settled_from power_up 0) pages)) (sure_of-settled_from power_up 0 page)
    ∙ ap (λ l. map sure_of page ∷ l) (sure_of-all_settled power_up pages)

pub sure_of-all_torn : (cells : List Cell) (bytes : List ℕ) → map sure_of (all_torn_over cells bytes) ≡ torn_page (map sure_of cells) bytes
sure_of-all_torn [] bytes = refl
sure_of-all_torn (cell ∷ cells) [] = refl
sure_of-all_torn (Sure sure ∷ cells) (byte ∷ bytes) =
    sure_torn (sure == byte) sure byte (map sure_of (all_torn_over cells bytes))
    ∙ ap (λ l. (if sure == byte then Some sure else None) ∷ l) (sure_of-all_torn cells bytes)
sure_of-all_torn (Unsure torn kept given ∷ cells) (byte ∷ bytes) = ap (λ l. None ∷ l) (sure_of-all_torn cells bytes)

pub given_of-all_torn : (cells : List Cell) (bytes : List ℕ) → map given_of (all_torn_over cells bytes) ≡ map given_of cells
given_of-all_torn [] bytes = refl
given_of-all_torn (cell ∷ cells) [] = refl
given_of-all_torn (Sure sure ∷ cells) (byte ∷ bytes) =
    given_torn (sure == byte) sure byte (map given_of (all_torn_over cells bytes)) ∙ ap (λ l. sure ∷ l) (given_of-all_torn cells bytes)
given_of-all_torn (Unsure torn kept given ∷ cells) (byte ∷ bytes) = ap (λ l. given ∷ l) (given_of-all_torn cells bytes)

pub reading_page : (cells : List Cell) → IsTrue (list_all gives_byte cells) → AllZip Agrees (map sure_of cells) (map given_of cells)
reading_page [] bytes = tt
reading_page (Sure byte ∷ cells) bytes = let both = and_true (nat_lt byte 256) (list_all gives_byte cells) bytes in (refl, reading_page cells both.1)
reading_page (Unsure torn kept given ∷ cells) bytes =
    let both = and_true (nat_lt given 256) (list_all gives_byte cells) bytes in (ltb-true given 256 both.0, reading_page cells both.1)

pub reading_pages : (pages : List (List Cell)) → IsTrue (list_all is_page pages) → Reading (map (map sure_of) pages) (map (map given_of) pages)
reading_pages [] whole = tt
reading_pages (page ∷ pages) whole =
    let both = and_true (is_page page) (list_all is_page pages) whole in
    (reading_page page (and_true (length page == 64) (list_all gives_byte page) both.0).1, reading_pages pages both.1)
