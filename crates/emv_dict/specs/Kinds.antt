-- The kinds of application cryptogram as bytes: the reference control parameter of GENERATE AC, and bits 8 and 7 of
-- the cryptogram information data (EMV 4.3 Book 3 sections 6.5.5.2 and 6.5.5.4; section 10.8).
use Rattle.std.specs.Prelude.{ℕ, Bool, ◌/◌, ◌==◌, nat_lt, if◌then◌else◌, Option, Some, None}
use Rattle.emv_dict.specs.declared.ending.Kind.{Kind}
use Rattle.emv_dict.specs.declared.ending.Kind.TheVariants.{Aac, Tc, Arqc}

-- a kind of cryptogram as a byte: 00 AAC, 40 TC, 80 ARQC
abbrev pub kind_byte : Kind → ℕ
kind_byte Aac = 0x00
kind_byte Tc = 0x40
kind_byte Arqc = 0x80

-- the kind of a byte's two high bits; both set are none
abbrev pub kind_of : ℕ → Option Kind
kind_of byte =
    if byte / 64 == 0 then Some Aac
    else if byte / 64 == 1 then Some Tc
    else if byte / 64 == 2 then Some Arqc
    else None

-- the order of the kinds: a card never answers one above the one that is asked
abbrev pub rank_of : Kind → ℕ
rank_of Aac = 0
rank_of Arqc = 1
rank_of Tc = 2

-- whether the kind that is answered is above the one that is asked for, in the order TC, ARQC, AAC
abbrev pub is_above : Kind → Kind → Bool
is_above answered asked = nat_lt (rank_of asked) (rank_of answered)
