-- From the pages and the state inside to the store as its callers see it.
use Rattle.std.proofs.Common.{◌≡◌, ◌⊎◌, ◌+◌, ◌*◌, ◌<◌, ◌≤◌, ℕ, zero, suc, List, [], ◌∷◌, length, get_or, ap, sym, ◌∙◌, subst, arith, inl, inr, lit<, refl, Some, None, true}
use Rattle.std.specs.Prelude.{Contains}
use Rattle.emv_ports.specs.Causes.{one_more}
use Rattle.emv_ports.specs.Cut.{write_cut, cuts_among}
use Rattle.emv_ports.specs.Memory.{Memory, next, commit_marked, gone, next_write_cut, next_release_cut}
use Rattle.emv_ports.specs.declared.tear.Cut.TheVariants.{Spared, CutBefore}
use Rattle.torn_store.specs.Layout.{recover, changed_pages, commit_writes}
use Rattle.torn_store.specs.Recovery.{Holds, Among, Between}
use Rattle.torn_store.specs.Store.{Stored, IsGate, IsReady}
use Rattle.torn_store.specs.Placed.{IsPlaced, FormatsStore, OpensStore, Commits, CommitTorn, Releases, ReleaseTorn, TurnedOnce}
use Rattle.torn_store.specs.Writing.{Row, RowCut, TurnedOn}
use Rattle.torn_store.proofs.Committing.{changed_length}
use Rattle.torn_store.proofs.Opening.{ready_holds}
use Rattle.torn_store.proofs.Outcomes.{among_within}
use Rattle.torn_store.proofs.Rows.{Cells}

abbrev pub stored : Memory → List ℕ → Stored
stored memory state = record { memory = memory; state = state }

-- pages whose cells are those of a ready store stand for its state
pub same_holds : (seen : Stored) (memory : Memory) (state : List ℕ) (cells : Cells) → stored memory state ≡ seen → IsReady memory state
    → cells ≡ memory.cells → Holds recover cells seen.state
same_holds seen memory state cells view ready same =
    let here = subst (λ (c : Cells). Holds recover c state) (sym same) (ready_holds memory state ready) in
    subst (λ (s : Stored). Holds recover cells s.state) view here

-- a commit was cut before its first write
pub commit_before : (seen : Stored) (memory : Memory) (state : List ℕ) (cells : Cells) → stored memory state ≡ seen → IsReady memory state
    → (next_write_cut (commit_marked memory) ≡ CutBefore → cells ≡ memory.cells) → write_cut seen.memory.plan (next seen.memory.commit) 1 ≡ CutBefore
    → Holds recover cells seen.state
commit_before seen memory state cells view ready unchanged cut =
    let as_seen : write_cut memory.plan (next memory.commit) 1 ≡ write_cut seen.memory.plan (next seen.memory.commit) 1 =
    ap (λ (s : Stored). write_cut s.memory.plan (next s.memory.commit) 1) view in
    same_holds seen memory state cells view ready (unchanged (as_seen ∙ cut))

pub commit_few : (old new : List ℕ) → length new ≤ 1024 → commit_writes old new ≤ 37
commit_few old new fits = omega (arith, changed_length old new fits)

two_at : (k : ℕ) (before after state : List ℕ) → k < 2 → get_or (before ∷ after ∷ []) k state ≡ state → (state ≡ before) ⊎ (state ≡ after)
two_at zero before after state inside is = inl (sym is)
two_at (suc zero) before after state inside is = inr (sym is)
two_at (suc (suc k)) before after state inside is = absurd (omega arith)

-- a member of two is one of them
pub one_of_two : (before after state : List ℕ) → Contains (before ∷ after ∷ []) state → (state ≡ before) ⊎ (state ≡ after)
one_of_two before after state has = two_at has.0 before after state has.1 has.2

four_at : (k : ℕ) (before after state : List ℕ) → k < 4 → get_or (before ∷ after ∷ before ∷ after ∷ []) k state ≡ state → Contains (before ∷ after ∷ []) state
four_at zero before after state inside is = (0, lit< tt, is)
four_at (suc zero) before after state inside is = (1, lit< tt, is)
four_at (suc (suc zero)) before after state inside is = (0, lit< tt, is)
four_at (suc (suc (suc zero))) before after state inside is = (1, lit< tt, is)
four_at (suc (suc (suc (suc k)))) before after state inside is = absurd (omega arith)

-- a member of two states and the same two again is one of the two
pub two_twice : (before after state : List ℕ) → Contains (before ∷ after ∷ before ∷ after ∷ []) state → Contains (before ∷ after ∷ []) state
two_twice before after state has = four_at has.0 before after state has.1 has.2

-- pages that stand for one of some states are among them
pub holds_among : (cells : Cells) (state : List ℕ) (states : List (List ℕ)) → Holds recover cells state → Contains states state → Among recover cells states
holds_among cells state states holds has = record { laid = holds.laid; each = λ bytes reading. (state, has, holds.each bytes reading) }

alone_at : (k : ℕ) (state other : List ℕ) → k < 1 → get_or (state ∷ []) k other ≡ other → other ≡ state
alone_at zero state other inside is = sym is
alone_at (suc k) state other inside is = absurd (omega arith)

-- pages that are among one state stand for it
pub among_one : (cells : Cells) (state : List ℕ) → Among recover cells (state ∷ []) → Holds recover cells state
among_one cells state among = record {
  laid = among.laid;
  each = λ bytes reading.
      let one = among.each bytes reading in
      let has = one.1 in
      one.2 ∙ ap (λ (s : List ℕ). Some s) (alone_at has.0 state one.0 has.1 has.2);
}

either : {A : Type 0} (one other : A) → (one ≡ other) ⊎ (one ≡ other) → one ≡ other
either one other (inl is) = is
either one other (inr is) = is

-- pages between a state and the same one stand for it
pub alike : (cells : Cells) (state : List ℕ) → Between recover cells state state → Holds recover cells state
alike cells state between =
    among_one cells state
    (among_within recover cells (state ∷ state ∷ []) (state ∷ []) (λ one has. (0, lit< tt, sym (either one state (one_of_two state state one has)))) between)

-- a commit writes
pub some_writes : (old new : List ℕ) (writes : ℕ) → writes ≡ commit_writes old new → 1 ≤ writes
some_writes old new writes is = let n = length (changed_pages old new) in let is' : writes ≡ 2 * n + 3 = is in omega arith

-- pages whose cells are those of a ready store have a closed gate
gate_of : (memory : Memory) (state : List ℕ) (cells : Cells) → IsReady memory state → cells ≡ memory.cells → IsGate cells
gate_of memory state cells ready same = record {
  byte = 0;
  bit = lit< tt;
  throughout = ap (λ (c : Cells). get_or c 0 []) same ∙ ready.closed;
}

module _ (seen : Stored) (memory : Memory) (state : List ℕ) (view : stored memory state ≡ seen) (placed : IsPlaced memory state) (on : seen.memory.on ≡ true) where
  is_ready : IsReady memory state
  is_ready = placed (ap (λ (s : Stored). s.memory.on) view ∙ on)

  -- pages whose cells are those of a place that is on stand for its state
  pub placed_holds : (cells : Cells) → cells ≡ memory.cells → Holds recover cells seen.state
  placed_holds cells same = same_holds seen memory state cells view is_ready same

  pub placed_ready : (slice : List ℕ) → slice ≡ state → IsReady memory slice
  placed_ready slice same = subst (λ (s : List ℕ). IsReady memory s) (sym same) is_ready

  pub releases : (new : Memory) → next_release_cut memory ≡ Spared → new ≡ memory → Releases seen (stored new state)
  releases new spared is = record {
    same = ap (λ (m : Memory). stored m state) is ∙ view;
    holds = placed_holds new.cells (ap (λ (m : Memory). m.cells) is);
    gate = gate_of memory state new.cells is_ready (ap (λ (m : Memory). m.cells) is);
    spared = ap (λ (s : Stored). next_release_cut s.memory) (sym view) ∙ spared;
  }

  pub release_torn : (new : Memory) → next_release_cut memory ≡ CutBefore → new ≡ gone memory → ReleaseTorn seen new
  release_torn new cut is = record {
    lost = placed_holds new.cells (ap (λ (m : Memory). m.cells) is);
    cut = ap (λ (s : Stored). next_release_cut s.memory) (sym view) ∙ cut;
    gone = record {
      off = ap (λ (m : Memory). m.on) is;
      plan = ap (λ (m : Memory). m.plan) is;
      losses = ap (λ (m : Memory). m.losses) is ∙ ap (λ (s : Stored). one_more s.memory.losses) view;
    };
  }

  module _ (slice text : List ℕ) (same : slice ≡ state) where
    as_slice : stored memory slice ≡ seen
    as_slice = ap (stored memory) same ∙ view

    pub commits : (new : Memory) → length text ≤ 1024 → IsReady new text → Row (commit_marked memory) new (commit_writes slice text)
        → Commits seen text (stored new text)
    commits new fits ready row = record {
      on = ready.on.on;
      state = refl;
      holds = ready_holds new text ready;
      gate = gate_of new text new.cells ready refl;
      spared = ap (λ (s : Stored). cuts_among s.memory.plan (next s.memory.commit) (commit_writes s.state text)) (sym as_slice) ∙ row.spared;
      wrote = row.writes ∙ ap (λ (s : Stored). commit_writes s.state text) as_slice;
      few = subst (λ (n : ℕ). n ≤ 37) (sym row.writes) (commit_few slice text fits);
      commit = row.commit ∙ ap (λ (s : Stored). next s.memory.commit) view;
      plan = row.plan ∙ ap (λ (s : Stored). s.memory.plan) view;
      losses = row.losses ∙ ap (λ (s : Stored). s.memory.losses) view;
    }

    pub commit_torn : (new : Memory) → Between recover new.cells slice text → (next_write_cut (commit_marked memory) ≡ CutBefore → new.cells ≡ memory.cells)
        → RowCut (commit_marked memory) new (commit_writes slice text) → CommitTorn seen text new
    commit_torn new between unchanged row = record {
      lost = subst (λ (s : Stored). Between recover new.cells s.state text) as_slice between;
      before = commit_before seen memory state new.cells view is_ready unchanged;
      cut = ap (λ (s : Stored). cuts_among s.memory.plan (next s.memory.commit) (commit_writes s.state text)) (sym as_slice) ∙ row.cut;
      gone = record {
        off = row.gone.off;
        plan = row.gone.plan;
        losses = row.gone.losses ∙ ap (λ (s : Stored). one_more s.memory.losses) view;
      };
    }

-- pages that are ready behind a first state were formatted with it
pub formats_store : (old new : Memory) (first : List ℕ) → IsReady new first → new.commit ≡ 0 → new.plan ≡ None → new.losses ≡ old.losses
    → TurnedOnce old new → FormatsStore old first (stored new first)
formats_store old new first ready commit plan losses once = record {
  on = ready.on.on;
  state = refl;
  holds = ready_holds new first ready;
  gate = gate_of new first new.cells ready refl;
  commit = commit;
  plan = plan;
  losses = losses;
  once = once;
}

-- pages that were turned on and are ready with a state were opened with it
pub opens_store : (old new : Memory) (state : List ℕ) → IsReady new state → TurnedOn old new → OpensStore old (stored new state)
opens_store old new state ready up = record {
  on = ready.on.on;
  holds = ready_holds new state ready;
  gate = gate_of new state new.cells ready refl;
  spared = up.spared;
  wrote = up.wrote;
  commit = up.commit;
  plan = up.plan;
  losses = up.losses;
}
