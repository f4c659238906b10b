-- How many replies may still be taken, as steps follow one another.
use Rattle.std.proofs.Common.{◌≡◌, refl, ℕ, ◌+◌, ◌*◌, ◌≤◌, ◌<◌, ◌==◌, Bool, true, false, List, [], ◌∷◌, length, filter, map, Result, Ok, Err, arith}
use Rattle.std.proofs.lemmas.Bool.Decides.{nat_tests}
use Rattle.std.specs.Prelude.{cond}
use Rattle.app_select.specs.Candidates.{CandidateData}
use Rattle.app_select.specs.NextLeads.{SearchNextLeads, search_answers_left_next}
use Rattle.app_select.specs.Selecting.{SelectedData, first_selected}
use Rattle.app_select.specs.declared.search.SearchNext.{SearchNext}
use Rattle.app_select.specs.declared.search.SearchNext.TheVariants as search
use Rattle.ber_tlv.proofs.ItemBounds.{item_at-lies, lies-length}
use Rattle.ber_tlv.proofs.Reading.{reads_list}
use Rattle.ber_tlv.specs.Direct.{values_of}
use Rattle.ber_tlv.specs.Item.{ItemData}
use Rattle.ber_tlv.specs.Items.{Items}
use Rattle.ber_tlv.specs.Left.{items_of}
use Rattle.ber_tlv.specs.declared.item.TlvFault.{TlvFault}
use Rattle.emv_dict.specs.Progress.{Done}
use Rattle.kernel.specs.Kernel.{opening_next}
use Rattle.kernel.specs.Rank.{bytes_in_templates, search_rank, opening_rank}
use Rattle.kernel.specs.declared.kernel.Next.TheVariants as next
use Rattle.kernel.specs.declared.stage.Opening.{Opening}
use Rattle.kernel.specs.declared.stage.Opening.TheVariants as at
use Rattle.terminal_state.specs.Scripts.{templates_of_tag}
use Rattle.terminal_state.specs.declared.table.Table.{Table}

-- the bytes of all objects: those of each value, and one for its tag
abbrev all_bytes : List ItemData → ℕ
all_bytes [] = 0
all_bytes (item ∷ items) = 1 + length item.value + all_bytes items

values_fit : (bytes : List ℕ) (place : ℕ) (items : List ItemData) → Items bytes place items → all_bytes items + place ≤ length bytes
values_fit bytes place [] zeros = let up = zeros.upward in omega arith
values_fit bytes place (item ∷ items) stand =
    let lies = item_at-lies bytes stand.1.start item stand.0 stand.1.stands in
    let count = lies-length bytes stand.1.start item stand.0 lies in
    let front = stand.1.zeros.upward in
    let header = lies.header in
    let later = values_fit bytes stand.0 items stand.2 in
    omega arith

-- no object has two tags
tags_apart : (items : List ItemData) → bytes_in_templates (map (λ item. item.value) (filter (λ item. item.tag == 0x71) items)) + bytes_in_templates (map (λ item. item.value) (filter (λ item. item.tag == 0x72) items)) ≤ all_bytes items
tags_apart [] = omega arith
tags_apart (item ∷ items) = by (item.tag == 0x71) (item.tag == 0x72) refl refl (filter (λ item. item.tag == 0x71) items) (filter (λ item. item.tag == 0x72) items) (tags_apart items)
  where
    by : (a b : Bool) → (item.tag == 0x71) ≡ a → (item.tag == 0x72) ≡ b → (one two : List ItemData)
        → bytes_in_templates (map (λ item. item.value) one) + bytes_in_templates (map (λ item. item.value) two) ≤ all_bytes items
        → bytes_in_templates (map (λ item. item.value) (cond a (item ∷ one) one)) + bytes_in_templates (map (λ item. item.value) (cond b (item ∷ two) two)) ≤ all_bytes (item ∷ items)
    by true true x y one two rest = absurd (grind (arith, nat_tests))
    by true false x y one two rest = omega arith
    by false true x y one two rest = omega arith
    by false false x y one two rest = omega arith

read_bytes : (bytes : List ℕ) (read : Result (List ItemData) TlvFault) → items_of bytes ≡ read → bytes_in_templates (values_of 0x71 read) + bytes_in_templates (values_of 0x72 read) ≤ length bytes
read_bytes bytes (Ok items) is =
    let fit = values_fit bytes 0 items ((reads_list bytes items).0 is) in
    let apart = tags_apart items in
    omega arith
read_bytes bytes (Err fault) is = omega arith

-- templates have no more bytes than the reply's scripts
pub scripts_bytes : (scripts : List ℕ) → bytes_in_templates (templates_of_tag 0x71 scripts) + bytes_in_templates (templates_of_tag 0x72 scripts) ≤ length scripts
unfolding templates_of_tag
scripts_bytes scripts = read_bytes scripts (items_of scripts) refl

-- a search that takes an answer
pub search_falls : (next : SearchNext) (candidates : List CandidateData) (left : ℕ) → search_answers_left_next next candidates < left → search_rank next candidates < 2 * left
search_falls (search.Ask state) candidates left fewer = omega arith
search_falls (search.Chosen choice) candidates left fewer = omega arith
search_falls (search.Ended cause) candidates left fewer = omega arith

-- the candidates that are left are asked before one of them is chosen
asks_first : (old : List CandidateData) → (selected : SelectedData) → first_selected old [] ≡ Done selected [] → ⊥
asks_first [] selected is = cc
asks_first (candidate ∷ left) selected is = cc

-- one that goes on behind a refusal
pub refused_falls : (next : SearchNext) (old new : List CandidateData) → SearchNextLeads new (first_selected old) [] next → search_answers_left_next next new ≤ length old → search_rank next new ≤ 2 * length old
refused_falls (search.Ask state) old new leads few = omega arith
refused_falls (search.Chosen choice) old new leads few = absurd (asks_first old _ (leads []))
refused_falls (search.Ended cause) old new leads few = omega arith

-- a stage that waits has a reply to take
pub opening_waits : (t : Table) (s : Opening) → opening_next s ≡ next.ToCard → 0 < opening_rank t s
opening_waits t (at.Directory s) waits = omega arith
opening_waits t (at.Select s) waits = omega arith
opening_waits t (at.Initiate s) waits = omega arith
opening_waits t (at.Read s) waits = omega arith
opening_waits t (at.Over ending) waits = cc
