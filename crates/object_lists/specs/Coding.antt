-- The cause where an answer's objects can't be read (EMV 4.3 Book 3 section 6.5.5.4 and 6.5.8.4, format 2).
use Rattle.std.specs.Prelude.{ℕ, List}
use Rattle.ber_tlv.specs.Direct.{template_fault}
use Rattle.ber_tlv.specs.FaultPlace.{place_or_zero}
use Rattle.emv_dict.specs.declared.ending.Cause.{Cause}
use Rattle.emv_dict.specs.declared.ending.Cause.TheVariants as cause

-- the first fault among the body's objects and those directly in a template 77, or 0
abbrev pub coding_cause : List ℕ → Cause
coding_cause body = cause.Coding (place_or_zero (template_fault 0x77 body))
