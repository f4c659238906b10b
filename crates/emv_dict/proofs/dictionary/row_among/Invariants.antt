use Rattle.std.proofs.Common.{◌≡◌, map, drop}
use Rattle.emv_dict.specs.Dictionary.{row_in}
use Rattle.emv_dict.specs.Listing.{listed_row}
use Rattle.emv_dict.proofs.dictionary.row_among.Given as goal

-- the rest holds what the whole list holds
abbrev pub invariant-loop-object : goal.invariant-loop-object
invariant-loop-object l =
    row_in (map listed_row (drop l.object-index l.objects)) l.tag.0 ≡ row_in (map listed_row l.objects) l.tag.0
