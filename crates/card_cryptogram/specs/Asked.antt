-- What a command asks for by P1 and P2, and what stands behind the answer to GENERATE AC (EMV 4.3 Book 1 section
-- 11.3, Book 3 section 6.5; sections 6.3.2, 6.5.4, 6.5.5.2, 6.5.11, Annex C1).
use Rattle.std.specs.Prelude.{ℕ, ◌/◌, ◌%◌, ◌==◌, ◌&&◌, ◌||◌, not, nat_le, Bool, true, false, if◌then◌else◌, List, slice_index, Option, Some, None}
use Rattle.emv_dict.specs.Kinds.{kind_of}
use Rattle.emv_dict.specs.declared.ending.Kind.{Kind}
use Rattle.emv_dict.specs.declared.ending.Kind.TheVariants.{Aac, Tc, Arqc}

-- the classes of commands, without and with secure messaging
abbrev pub is_class : ℕ → Bool
is_class class = class == 0x00 || (class == 0x04 || (class == 0x80 || class == 0x84))

-- SELECT by an application's name: the first occurrence, or the next one
abbrev pub is_by_name : ℕ → ℕ → Bool
is_by_name p1 p2 = (p1 == 4) && ((p2 == 0) || (p2 == 2))

-- as many bytes as SELECT takes for a name: 1 to 16
abbrev pub is_name_size : ℕ → Bool
is_name_size size = nat_le 1 size && nat_le size 16

-- a record's number, and a file by its identifier from 1 to 30
abbrev pub is_record_named : ℕ → ℕ → Bool
is_record_named p1 p2 = not (p1 == 0) && ((p2 % 8 == 4) && (not (p2 / 8 == 0) && nat_le (p2 / 8) 30))

-- the kind that P1 asks for with its two high bits, the others and P2 zero
abbrev pub kind_asked : ℕ → ℕ → Option Kind
kind_asked p1 p2 = if (p2 == 0) && (p1 % 64 == 0) then kind_of p1 else None

-- issuer authentication is supported: bit 3 of the first byte of the application interchange profile
abbrev pub has_issuer_auth : List ℕ → Bool
has_issuer_auth aip = slice_index aip 0 / 4 % 2 == 1

-- a request to go online
abbrev pub is_arqc : Kind → Bool
is_arqc Arqc = true
is_arqc Tc = false
is_arqc Aac = false
