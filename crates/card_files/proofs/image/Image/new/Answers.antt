use Rattle.std.proofs.Common.{◌≡◌, refl, sym}
use Rattle.std.specs.Prelude.{None}
use Rattle.card_files.specs.Faults.{image_fault}
use Rattle.card_files.proofs.Keeping.{faultless, has_no_fault}
use Rattle.card_files.proofs.image.Image.new.Goals as goal

pub returns-in-Some-clause-all : goal.returns-in-Some-clause-all
returns-in-Some-clause-all c = λ are sight.
    let none : image_fault c.args.apps.items c.args.pse ≡ None = has_no_fault c.args.apps.items c.args.pse are sight in
    let some = rw c.deref.ensures.value at c.in-Some.ensures.fault in
    cc (none, some)

pub returns-in-None-clause-image : goal.returns-in-None-clause-image
returns-in-None-clause-image c =
    let holds =
    faultless c.args.apps.items c.args.pse (sym (rw c.deref.ensures.value at c.in-None.ensures.fault))
    (rw c.deref.ensures.value at (c.in-None.ensures.profiles refl)) in
    record { apps = holds.0; version = c.requires.version; directory = c.requires.file; sight = holds.1 }

pub invariant_of-result : goal.invariant_of-result
invariant_of-result c =
    let holds =
    faultless c.args.apps.items c.args.pse (sym (rw c.deref.ensures.value at c.in-None.ensures.fault))
    (rw c.deref.ensures.value at (c.in-None.ensures.profiles refl)) in
    record { apps = holds.0; version = c.requires.version; directory = c.requires.file; sight = holds.1 }
