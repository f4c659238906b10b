-- The purchases that end are counted once each, wherever their lane stands.
-- So the tally of the run counts approved, declined and other ones, and their replies.
use Rattle.std.proofs.Common.{◌≡◌, ℕ, zero, suc, ◌+◌, ◌-◌, ◌<◌, ◌^◌, Bool, true, cond, List, [], ◌∷◌, ◌++◌, length, get_or, set, Option, Some, None, refl, sym, ap, ◌∙◌, arith}
use Rattle.std.specs.Prelude.{min, is_none, sum_by, flat_map}
use Rattle.std.proofs.lemmas.List.Sums.{sum_by-cons, sum_by-append}
use Rattle.emv_dict.specs.declared.ending.Ending.{Ending}
use Rattle.emv_dict.specs.declared.ending.Ending.TheVariants.{Approved, Declined, Terminated, CutOff}
use Rattle.kernel.specs.Ended.{EndData}
use Rattle.kernel.specs.Laws.{is_approved_ending}
use Rattle.kernel.specs.Tally.{Counts, raised}
use Rattle.txn_replay.specs.Counting.{is_declined, is_other, ended_so, capped_at_64, counts_of, all_ended, counts}
use Rattle.txn_replay.specs.Standing.{count_end, counted_ends, ArePasts}
use Rattle.txn_replay.specs.World.{Past, LaneRow, World, new_lane}

-- what one more adds to a sum over all lanes
more_in : (f : Past → ℕ) (rows : List LaneRow) (l : ℕ) (row : LaneRow) (more : List Past) → l < length rows
    → row.ended ≡ (get_or rows l new_lane).ended ++ more
    → sum_by f (flat_map (λ r. r.ended) (set rows l row)) ≡ sum_by f (flat_map (λ r. r.ended) rows) + sum_by f more
more_in f [] l row more inside is = absurd (omega arith)
more_in f (r ∷ rows) zero row more inside is =
    let split : sum_by f (row.ended ++ flat_map (λ x. x.ended) rows) ≡ sum_by f row.ended + sum_by f (flat_map (λ x. x.ended) rows) =
    sum_by-append f row.ended (flat_map (λ x. x.ended) rows) in
    let own : sum_by f row.ended ≡ sum_by f r.ended + sum_by f more = ap (sum_by f) is ∙ sum_by-append f r.ended more in
    let before : sum_by f (r.ended ++ flat_map (λ x. x.ended) rows) ≡ sum_by f r.ended + sum_by f (flat_map (λ x. x.ended) rows) =
    sum_by-append f r.ended (flat_map (λ x. x.ended) rows) in
    omega arith
more_in f (r ∷ rows) (suc l) row more inside is =
    let split : sum_by f (r.ended ++ flat_map (λ x. x.ended) (set rows l row)) ≡ sum_by f r.ended + sum_by f (flat_map (λ x. x.ended) (set rows l row)) =
    sum_by-append f r.ended (flat_map (λ x. x.ended) (set rows l row)) in
    let rest : sum_by f (flat_map (λ x. x.ended) (set rows l row)) ≡ sum_by f (flat_map (λ x. x.ended) rows) + sum_by f more =
    more_in f rows l row more (omega arith) is in
    let before : sum_by f (r.ended ++ flat_map (λ x. x.ended) rows) ≡ sum_by f r.ended + sum_by f (flat_map (λ x. x.ended) rows) =
    sum_by-append f r.ended (flat_map (λ x. x.ended) rows) in
    omega arith

-- numbers that stop at the greatest one
abbrev stopped : ℕ → ℕ → ℕ → ℕ → Counts
stopped a d o r = record { approved = capped_at_64 a; declined = capped_at_64 d; other = capped_at_64 o; replies = capped_at_64 r }

plus_capped : (a b : ℕ) → min (capped_at_64 a + b) (2 ^ 64 - 1) ≡ capped_at_64 (a + b)
plus_capped a b = omega arith

abbrev one_if : Bool → ℕ
one_if b = cond b 1 0

count_one : (a d o r : ℕ) (ending : Ending) (replies : ℕ)
    → raised (stopped a d o r) ending replies
    ≡ stopped (a + one_if (is_approved_ending ending)) (d + one_if (is_declined ending)) (o + one_if (is_other ending)) (r + replies)
count_one a d o r (Approved online) n = λ i. record {
  approved = plus_capped a 1 i;
  declined = (let e : capped_at_64 d ≡ capped_at_64 (d + 0) = omega arith in e) i;
  other = (let e : capped_at_64 o ≡ capped_at_64 (o + 0) = omega arith in e) i;
  replies = plus_capped r n i;
}
count_one a d o r (Declined online) n = λ i. record {
  approved = (let e : capped_at_64 a ≡ capped_at_64 (a + 0) = omega arith in e) i;
  declined = plus_capped d 1 i;
  other = (let e : capped_at_64 o ≡ capped_at_64 (o + 0) = omega arith in e) i;
  replies = plus_capped r n i;
}
count_one a d o r (Terminated step cause) n = λ i. record {
  approved = (let e : capped_at_64 a ≡ capped_at_64 (a + 0) = omega arith in e) i;
  declined = (let e : capped_at_64 d ≡ capped_at_64 (d + 0) = omega arith in e) i;
  other = plus_capped o 1 i;
  replies = plus_capped r n i;
}
count_one a d o r (CutOff step) n = λ i. record {
  approved = (let e : capped_at_64 a ≡ capped_at_64 (a + 0) = omega arith in e) i;
  declined = (let e : capped_at_64 d ≡ capped_at_64 (d + 0) = omega arith in e) i;
  other = plus_capped o 1 i;
  replies = plus_capped r n i;
}

-- how often each adds to the four sums
abbrev approvals : Past → ℕ
approvals past = one_if (ended_so is_approved_ending past.end)

abbrev declines : Past → ℕ
declines past = one_if (ended_so is_declined past.end)

abbrev others : Past → ℕ
others past = one_if (ended_so is_other past.end)

abbrev taken : Past → ℕ
taken past = length past.replies

-- a purchase without an end record adds nothing
count_end_one : (a d o r : ℕ) (end : Option EndData) (replies : ℕ) → (is_none end ≡ true → replies ≡ 0)
    → count_end (stopped a d o r) replies end
    ≡ stopped (a + one_if (ended_so is_approved_ending end)) (d + one_if (ended_so is_declined end)) (o + one_if (ended_so is_other end)) (r + replies)
count_end_one a d o r None replies none = λ i. record {
  approved = (let e : capped_at_64 a ≡ capped_at_64 (a + 0) = omega arith in e) i;
  declined = (let e : capped_at_64 d ≡ capped_at_64 (d + 0) = omega arith in e) i;
  other = (let e : capped_at_64 o ≡ capped_at_64 (o + 0) = omega arith in e) i;
  replies = (let zeros : replies ≡ 0 = none refl in let e : capped_at_64 r ≡ capped_at_64 (r + replies) = omega arith in e) i;
}
count_end_one a d o r (Some end) replies none = count_one a d o r end.ending replies

count_all : (a d o r : ℕ) (ended : List Past) → ArePasts ended
    → counted_ends (stopped a d o r) ended ≡ stopped (a + sum_by approvals ended) (d + sum_by declines ended) (o + sum_by others ended) (r + sum_by taken ended)
count_all a d o r [] all = λ i. record {
  approved = (let e : capped_at_64 a ≡ capped_at_64 (a + 0) = omega arith in e) i;
  declined = (let e : capped_at_64 d ≡ capped_at_64 (d + 0) = omega arith in e) i;
  other = (let e : capped_at_64 o ≡ capped_at_64 (o + 0) = omega arith in e) i;
  replies = (let e : capped_at_64 r ≡ capped_at_64 (r + 0) = omega arith in e) i;
}
count_all a d o r (past ∷ ended) all =
    ap (λ (c : Counts). counted_ends c ended) (count_end_one a d o r past.end (length past.replies) (λ none. ap length (all.0 none)))
    ∙ count_all (a + approvals past) (d + declines past) (o + others past) (r + taken past) ended all.1
    ∙ (λ i. record {
      approved = ap capped_at_64 (both a approvals) i;
      declined = ap capped_at_64 (both d declines) i;
      other = ap capped_at_64 (both o others) i;
      replies = ap capped_at_64 (both r taken) i;
    })
  where
    both : (n : ℕ) (f : Past → ℕ) → n + f past + sum_by f ended ≡ n + sum_by f (past ∷ ended)
    both n f = let cons : sum_by f (past ∷ ended) ≡ f past + sum_by f ended = sum_by-cons f past ended in omega arith

-- the purchases that end in a lane are counted
pub counts_with : (w v : World) (l : ℕ) (row : LaneRow) (more : List Past) → l < length w.lanes → v.lanes ≡ set w.lanes l row
    → row.ended ≡ (get_or w.lanes l new_lane).ended ++ more → ArePasts more → counts v ≡ counted_ends (counts w) more
counts_with w v l row more inside same is all =
    ap (λ (lanes : List LaneRow). counts_of (flat_map (λ r. r.ended) lanes)) same
    ∙ (λ i. record {
      approved = ap capped_at_64 (more_in approvals w.lanes l row more inside is) i;
      declined = ap capped_at_64 (more_in declines w.lanes l row more inside is) i;
      other = ap capped_at_64 (more_in others w.lanes l row more inside is) i;
      replies = ap capped_at_64 (more_in taken w.lanes l row more inside is) i;
    })
    ∙ sym (count_all (sum_by approvals (all_ended w)) (sum_by declines (all_ended w)) (sum_by others (all_ended w)) (sum_by taken (all_ended w)) more all)
