use Rattle.std.proofs.Common.{◌≡◌, ◌+◌, drop}
use Rattle.emv_dict.specs.Nibbles.{nibbles}
use Rattle.object_words.specs.Tracks.{leading_digits}
use Rattle.object_words.proofs.track.digits_end.Given as goal

-- the half bytes before this place are digits
abbrev pub invariant-loop-place : goal.invariant-loop-place
invariant-loop-place l = l.from + leading_digits (drop l.from (nibbles l.value)) ≡ l.place + leading_digits (drop l.place (nibbles l.value))
