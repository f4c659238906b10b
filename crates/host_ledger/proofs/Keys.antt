-- Keys that pass the test are one.
use Rattle.std.proofs.Common.{◌≡◌, ℕ, Bool, true, false, ◌&&◌, List, refl, arith}
use Rattle.std.specs.Prelude.{◌==◌}
use Rattle.std.specs.Str.{bytes_eq}
use Rattle.std.proofs.lemmas.Slice.Eq.{bytes_eq-Decides}
use Rattle.std.proofs.lemmas.Bool.{eqb-true}
use Rattle.host_ledger.specs.declared.key.Key.{Key}
use Rattle.host_ledger.specs.Key.{same_key}

pub same_pan : (a b : List ℕ) → bytes_eq a b ≡ true → a ≡ b
same_pan a b h = (bytes_eq-Decides a b).0 h

pub own_pan : (a : List ℕ) → bytes_eq a a ≡ true
own_pan a = (bytes_eq-Decides a a).1 refl

-- three tests that hold together
both : (p q r : Bool) → (p && (q && r)) ≡ true → (p ≡ true) × (q ≡ true) × (r ≡ true)
both true true true h = (refl, refl, refl)
both true true false h = (refl, refl, h)
both true false r h = (refl, h, cc)
both false q r h = (h, cc, cc)

pub same : (k l : Key) → same_key k l ≡ true → k ≡ l
same k l h =
    let parts = both (bytes_eq k.pan l.pan) (k.sequence == l.sequence) (k.counter == l.counter) h in
    let pans = same_pan k.pan l.pan parts.0 in
    let sequences = eqb-true _ _ parts.1 in
    let counters = eqb-true _ _ parts.2 in
    λ i. record { pan = pans i; sequence = sequences i; counter = counters i }

pub own_key : (k : Key) → same_key k k ≡ true
own_key k = rw (own_pan k.pan) (grind arith)
