-- What a place ends as behind a commit.
use Rattle.std.specs.Prelude.{ℕ, List, Result}
use Rattle.std.specs.Borrow.{Fml, RattleType, MutBor, RestsIfErr}
use Rattle.emv_ports.specs.declared.pages.Gone.{Gone}
use Rattle.emv_ports.specs.declared.pages.Pages.{Ghosts}
use Rattle.torn_store.specs.Placed.{CommitTorn}
use Rattle.torn_store.specs.Store.{Stored}
use Rattle.torn_store.specs.contracts.place.StorePlace as place
use Rattle.torn_store.specs.declared.place.Written.{Written}

-- at a loss of power it is torn, and else what the guard leaves
module _ (P : RattleType) (g : Ghosts P.Denot) where
  abbrev pub place_rests : MutBor Stored → List ℕ → Result (Written P.Denot) Gone → Fml
  place_rests s text r = RestsIfErr (place.the_row P g) s (λ it. it.place.ghost_name) r (λ last. CommitTorn s.now text last.memory)
