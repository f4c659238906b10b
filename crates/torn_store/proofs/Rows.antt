-- Rows of writes: one behind another, how many they are, and what they leave of the memory.
use Rattle.std.proofs.Common.{◌≡◌, ◌⊎◌, ◌<◌, ◌≤◌, ◌+◌, ℕ, zero, suc, List, [], ◌∷◌, ◌++◌, length, get_or, map, refl, ap, sym, ◌∙◌, subst, arith, Option, Some, inl, inr, IsTrue}
use Rattle.std.proofs.Math.ListN.{set}
use Rattle.std.proofs.lemmas.List.{length-map}
use Rattle.emv_ports.specs.Causes.{one_more}
use Rattle.emv_ports.specs.Cut.{is_plan, write_cut}
use Rattle.emv_ports.specs.Memory.{Memory, next, page_written, page_torn, gone, next_write_cut, CutWrite, torn_page}
use Rattle.emv_ports.specs.PageReading.{Reading}
use Rattle.emv_ports.specs.declared.tear.Tear.{Tear}
use Rattle.emv_ports.specs.declared.tear.Cut.TheVariants.{Spared, CutBefore, CutWithin}
use Rattle.torn_store.specs.Store.{IsOn, HasLostPower}
use Rattle.torn_store.specs.Writing.{WritesAll, StopsIn, Row, RowCut}
use Rattle.torn_store.specs.declared.layout.Block.{Block}
use Rattle.torn_store.proofs.Causes.{cuts_none, cuts_more, cuts_here, before_cuts, within_cuts}
use Rattle.torn_store.proofs.Readings.{PageReading}
use Rattle.torn_store.proofs.Sizes.{sized_set}

pub all_then : (old mid new : Memory) (one two : List Block) → WritesAll old one mid → WritesAll mid two new → WritesAll old (one ++ two) new
all_then old mid new [] two first second = subst (λ (m : Memory). WritesAll m two new) first second
all_then old mid new (b ∷ one) two first second = (first.0, all_then (page_written old b.page b.bytes) mid new one two first.1 second)

pub stops_first : (old new : Memory) (one two : List Block) → StopsIn old one new → StopsIn old (one ++ two) new
stops_first old new [] two stops = absurd stops
stops_first old new (b ∷ one) two stops =
    elim stops [ inl cut ↦ inl cut | inr rest ↦ inr (rest.0, stops_first (page_written old b.page b.bytes) new one two rest.1) ]

pub stops_then : (old mid new : Memory) (one two : List Block) → WritesAll old one mid → StopsIn mid two new → StopsIn old (one ++ two) new
stops_then old mid new [] two first stops = subst (λ (m : Memory). StopsIn m two new) first stops
stops_then old mid new (b ∷ one) two first stops = inr (first.0, stops_then (page_written old b.page b.bytes) mid new one two first.1 stops)

pub all_split : (old new : Memory) (one two : List Block) → WritesAll old (one ++ two) new → (mid : Memory) × WritesAll old one mid × WritesAll mid two new
all_split old new [] two all = (old, refl, all)
all_split old new (b ∷ one) two all =
    let rest = all_split (page_written old b.page b.bytes) new one two all.1 in (rest.0, (all.0, rest.1), rest.2)

pub stops_split : (old new : Memory) (one two : List Block) → StopsIn old (one ++ two) new
    → StopsIn old one new ⊎ ((mid : Memory) × WritesAll old one mid × StopsIn mid two new)
stops_split old new [] two stops = inr (old, refl, stops)
stops_split old new (b ∷ one) two stops = elim stops [
  | inl cut ↦ inl (inl cut)
  | inr rest ↦
      elim (stops_split (page_written old b.page b.bytes) new one two rest.1) [
        | inl early ↦ inl (inr (rest.0, early))
        | inr late ↦ inr (late.0, (rest.0, late.1), late.2)
      ]
]

pub row_none : (start : Memory) → IsTrue (is_plan start.plan) → start.writes ≡ 0 → Row start start 0
row_none start planned first = record {
  plan = refl;
  commit = refl;
  losses = refl;
  writes = first;
  spared = cuts_none start.plan start.commit planned;
}

next_of : (n : ℕ) → n < 100 → next n ≡ n + 1
next_of n few = omega arith

same_cut : (plan plan' : Option Tear) (commit commit' number number' : ℕ) → plan ≡ plan' → commit ≡ commit' → number ≡ number'
    → write_cut plan commit number ≡ write_cut plan' commit' number'
same_cut plan plan' commit commit' number number' e f g =
    ap (λ (p : Option Tear). write_cut p commit number) e ∙ ap (λ (c : ℕ). write_cut plan' c number) f ∙ ap (write_cut plan' commit') g

as_planned : (start now : Memory) (n : ℕ) → Row start now n → n < 100 → next_write_cut now ≡ write_cut start.plan start.commit (n + 1)
as_planned start now n row few =
    same_cut now.plan start.plan now.commit start.commit (next now.writes) (n + 1) row.plan row.commit (ap next row.writes ∙ next_of n few)

row_one : (start now : Memory) (n page : ℕ) (bytes : List ℕ) → Row start now n → n < 100 → next_write_cut now ≡ Spared → Row start (page_written now page bytes) (n + 1)
row_one start now n page bytes row few spared = record {
  plan = row.plan;
  commit = row.commit;
  losses = row.losses;
  writes = ap next row.writes ∙ next_of n few;
  spared = cuts_more start.plan start.commit n row.spared (sym (as_planned start now n row few) ∙ spared);
}

pub row_all : (blocks : List Block) (start now new : Memory) (n : ℕ) → Row start now n → n + length blocks ≤ 100 → WritesAll now blocks new
    → Row start new (n + length blocks)
row_all [] start now new n row few all =
    let none : n ≡ n + 0 = omega arith in subst (λ (m : Memory). Row start m (n + 0)) (sym all) (subst (λ (k : ℕ). Row start now k) none row)
row_all (b ∷ blocks) start now new n row few all =
    let more : n + 1 + length blocks ≡ n + suc (length blocks) = omega arith in
    subst (λ (k : ℕ). Row start new k) more
    (row_all blocks start (page_written now b.page b.bytes) new (n + 1) (row_one start now n b.page b.bytes row (omega arith) all.0) (omega arith) all.1)

pub gone_from : (start now lost new : Memory) → now.losses ≡ start.losses → lost.losses ≡ now.losses → new ≡ gone lost → HasLostPower start new
gone_from start now lost new kept losses is = record {
  off = ap (λ (m : Memory). m.on) is;
  plan = ap (λ (m : Memory). m.plan) is;
  losses = ap (λ (m : Memory). m.losses) is ∙ ap one_more (losses ∙ kept);
}

row_cut : (start now new : Memory) (n number page : ℕ) (bytes : List ℕ) → Row start now n → n < number → number ≤ 100
    → CutWrite now page bytes new → RowCut start new number
row_cut start now new n number page bytes row inside few cut =
    let planned = as_planned start now n row (omega arith) in
    let upto : n + 1 ≤ number = omega arith in
    elim cut [
      | inl before ↦ record {
        cut = cuts_here start.plan start.commit (n + 1) number upto (before_cuts _ (sym planned ∙ before.0));
        gone = gone_from start now now new row.losses refl before.1;
      }
      | inr within ↦ record {
        cut = cuts_here start.plan start.commit (n + 1) number upto (within_cuts _ (sym planned ∙ within.0));
        gone = gone_from start now (page_torn now page bytes) new row.losses refl within.1;
      }
    ]

pub row_stops : (blocks : List Block) (start now new : Memory) (n number : ℕ) → Row start now n → n + length blocks ≤ number → number ≤ 100
    → StopsIn now blocks new → RowCut start new number
row_stops [] start now new n number row upto few stops = absurd stops
row_stops (b ∷ blocks) start now new n number row upto few stops = elim stops [
  | inl cut ↦ row_cut start now new n number b.page b.bytes row (omega arith) few cut
  | inr rest ↦
      row_stops blocks start (page_written now b.page b.bytes) new (n + 1) number (row_one start now n b.page b.bytes row (omega arith) rest.0)
      (omega arith) few rest.1
]

first_cut : (old new : Memory) (page : ℕ) (bytes : List ℕ) → next_write_cut old ≡ CutBefore → CutWrite old page bytes new → new.cells ≡ old.cells
first_cut old new page bytes before cut = elim cut [
  | inl early ↦ ap (λ (m : Memory). m.cells) early.1
  | inr within ↦ absurd (differ (next_write_cut old) before within.0)
] where
  differ : (c : _) → c ≡ CutBefore → c ≡ CutWithin → ⊥
  differ c one other = cc

-- nothing changes where the first write is cut before it begins
pub stops_before : (blocks : List Block) (old new : Memory) → next_write_cut old ≡ CutBefore → StopsIn old blocks new → new.cells ≡ old.cells
stops_before [] old new before stops = absurd stops
stops_before (b ∷ blocks) old new before stops = elim stops [
  | inl cut ↦ first_cut old new b.page b.bytes before cut
  | inr rest ↦ absurd (before_cuts (next_write_cut old) before rest.0)
]

-- a page that is sure of its bytes gives them
sure_reads : (bytes : List ℕ) → PageReading (map Some bytes) bytes
sure_reads [] = tt
sure_reads (b ∷ bytes) = (refl, sure_reads bytes)

reading_set : (cells : List (List (Option ℕ))) (shown : List (List ℕ)) (page : ℕ) (bytes : List ℕ) → Reading cells shown
    → Reading (set cells page (map Some bytes)) (set shown page bytes)
reading_set [] [] page bytes reading = tt
reading_set [] (s ∷ shown) page bytes reading = absurd reading
reading_set (c ∷ cells) [] page bytes reading = absurd reading
reading_set (c ∷ cells) (s ∷ shown) zero bytes reading = (sure_reads bytes, reading.1)
reading_set (c ∷ cells) (s ∷ shown) (suc page) bytes reading = (reading.0, reading_set cells shown page bytes reading.1)

pub on_written : (memory : Memory) (page : ℕ) (bytes : List ℕ) → IsOn memory → length bytes ≡ 64 → IsOn (page_written memory page bytes)
on_written memory page bytes on long = record {
  on = on.on;
  sized = sized_set 64 page memory.cells (map Some bytes) on.sized (length-map bytes Some ∙ long);
  reading = reading_set memory.cells memory.shown page bytes on.reading;
  plan = on.plan;
}

-- each block has a page of bytes
abbrev pub Whole : List Block → Type 0
Whole [] = Unit {0}
Whole (block ∷ blocks) = (length block.bytes ≡ 64) × Whole blocks

pub on_all : (blocks : List Block) (old new : Memory) → IsOn old → Whole blocks → WritesAll old blocks new → IsOn new
on_all [] old new on whole all = subst IsOn (sym all) on
on_all (b ∷ blocks) old new on whole all = on_all blocks (page_written old b.page b.bytes) new (on_written old b.page b.bytes on whole.0) whole.1 all.1

abbrev pub Cells : Type 0
Cells = List (List (Option ℕ))

-- a write of this page, whole or torn, keeps it
abbrev pub Keeps : (Cells → Type 0) → ℕ → Type 0
Keeps P page = (cells : Cells) (new : List (Option ℕ)) → P cells → P (set cells page new)

abbrev pub AllKeep : (Cells → Type 0) → List Block → Type 0
AllKeep P [] = Unit {0}
AllKeep P (block ∷ blocks) = Keeps P block.page × AllKeep P blocks

pub keep_cut : (P : Cells → Type 0) (old new : Memory) (page : ℕ) (bytes : List ℕ) → Keeps P page → CutWrite old page bytes new → P old.cells → P new.cells
keep_cut P old new page bytes keeps cut here = elim cut [
  | inl before ↦ subst P (sym (ap (λ (m : Memory). m.cells) before.1)) here
  | inr within ↦ subst P (sym (ap (λ (m : Memory). m.cells) within.1)) (keeps old.cells (torn_page (get_or old.cells page []) bytes) here)
]

pub keep_all : (P : Cells → Type 0) (blocks : List Block) (old new : Memory) → AllKeep P blocks → WritesAll old blocks new → P old.cells → P new.cells
keep_all P [] old new keeps all here = subst P (sym (ap (λ (m : Memory). m.cells) all)) here
keep_all P (b ∷ blocks) old new keeps all here =
    keep_all P blocks (page_written old b.page b.bytes) new keeps.1 all.1 (keeps.0 old.cells (map Some b.bytes) here)

pub keep_stops : (P : Cells → Type 0) (blocks : List Block) (old new : Memory) → AllKeep P blocks → StopsIn old blocks new → P old.cells → P new.cells
keep_stops P [] old new keeps stops here = absurd stops
keep_stops P (b ∷ blocks) old new keeps stops here = elim stops [
  | inl cut ↦ keep_cut P old new b.page b.bytes keeps.0 cut here
  | inr rest ↦ keep_stops P blocks (page_written old b.page b.bytes) new keeps.1 rest.1 (keeps.0 old.cells (map Some b.bytes) here)
]
