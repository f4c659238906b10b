-- Clauses on a `Result`, and members of lists of states.
use Rattle.std.proofs.Common.{◌≡◌, [], ◌∷◌, refl, lit<}
use Rattle.std.specs.Prelude.{ℕ, List, Option, Result, Ok, Err, OnOk, OnErr, IsOk, Contains}
use Rattle.torn_store.specs.Recovery.{Among}
use Rattle.emv_ports.specs.declared.tear.Cut.{Cut}
use Rattle.emv_ports.specs.declared.tear.Cut.TheVariants.{Spared, CutBefore}

pub on_err : {T E P : Type 0} (r : Result T E) → P → OnErr r P
on_err (Ok x) p = tt
on_err (Err e) p = p

pub on_ok_two : {T E P Q R : Type 0} (r : Result T E) → (P → Q → R) → OnOk r P → OnOk r Q → OnOk r R
on_ok_two (Ok x) f p q = f p q
on_ok_two (Err e) f p q = tt

pub ok_spared : {T E : Type 0} (r : Result T E) (cut : Cut) → cut ≡ Spared → OnErr r (cut ≡ CutBefore) → IsOk r
ok_spared (Ok x) cut spared is = refl
ok_spared (Err e) cut spared is = cc

module _ {S : Type 0} where
  pub has_first : (one other : S) → Contains (one ∷ other ∷ []) one
  has_first one other = (0, lit< tt, refl)

  pub has_second : (one other : S) → Contains (one ∷ other ∷ []) other
  has_second one other = (1, lit< tt, refl)

-- pages among some states are among more
pub among_within : {S : Type 0} (recover : List (List ℕ) → Option S) (cells : List (List (Option ℕ))) (states more : List S)
    → ((state : S) → Contains states state → Contains more state) → Among recover cells states → Among recover cells more
among_within recover cells states more within among = record {
  laid = among.laid;
  each = λ bytes reading.
      let one = among.each bytes reading in (one.0, within one.0 one.1, one.2);
}
