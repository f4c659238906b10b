use Rattle.std.proofs.Common.{◌≡◌, ◌++◌, codes, decimal, length, take}
use Rattle.std.specs.List.{flat_map}
use Rattle.report_text.specs.Pieces.{newline}
use Rattle.card_words.specs.DecisionText.{told_text}
use Rattle.card_words.proofs.decision.tell_decided.Given as goal

abbrev pub invariant-loop-one : goal.invariant-loop-one
invariant-loop-one l = l.text.items ≡ (codes "decided " ++ decimal (length l.told) ++ newline) ++ flat_map told_text (take l.one-index l.told)
