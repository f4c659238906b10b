-- Terminal action analysis (EMV 4.3 Book 3 section 10.7).
use Rattle.std.specs.Prelude.{ℕ, Bool, if◌then◌else◌, List, [], ◌∷◌, replicate, unwrap_or, bit_or}
use Rattle.emv_dict.specs.Flags.{have_common_bit, tvr_bytes}
use Rattle.emv_dict.specs.declared.ending.Kind.{Kind}
use Rattle.emv_dict.specs.declared.ending.Kind.TheVariants.{Aac, Tc, Arqc}
use Rattle.emv_dict.specs.declared.purchase.AidRow.{AidRow}
use Rattle.env_map.specs.Entries.{Entries, value_of}
use Rattle.object_lists.specs.CardRead.{ReadCard}
use Rattle.action_analysis.specs.declared.Codes.{Codes}
use Rattle.action_analysis.specs.TerminalKinds.{is_online_only, can_go_online}

-- each bit that stands in one or the other
abbrev pub bits_of_either : List ℕ → List ℕ → List ℕ
bits_of_either [] bs = []
bits_of_either (a ∷ more) [] = []
bits_of_either (a ∷ more) (b ∷ bs) = bit_or a b ∷ bits_of_either more bs

-- the issuer's action code, or the bytes that stand for an absent one
abbrev pub issuer_code : ℕ → ℕ → Entries → List ℕ
issuer_code tag absent entries = unwrap_or (value_of tag entries) (replicate 5 absent)

-- the issuer's action codes: an absent denial code (9F0E) has no bit, an absent online code (9F0F) or default code
-- (9F0D) has all
unfoldable pub issuer_codes : ReadCard → Codes
issuer_codes card = record {
  denial = issuer_code 0x9F0E 0x00 card.entries;
  online = issuer_code 0x9F0F 0xFF card.entries;
  fallback = issuer_code 0x9F0D 0xFF card.entries;
}

-- the issuer's action codes joined with the terminal's for an application
unfoldable pub codes_of : ReadCard → AidRow → Codes
codes_of card row = record {
  denial = bits_of_either (issuer_codes card).denial row.denial;
  online = bits_of_either (issuer_codes card).online row.online;
  fallback = bits_of_either (issuer_codes card).fallback row.fallback;
}

-- these results have a bit of this action code
abbrev pub meets : ℕ → List ℕ → Bool
meets tvr code = have_common_bit (tvr_bytes tvr) code

-- what a terminal that can't go online asks for: what the default code says
abbrev pub offline_kind : ℕ → Codes → Kind
offline_kind tvr codes = (if meets tvr codes.fallback then Aac else Tc)

-- the kind of cryptogram that is asked for first, where the denial code leaves a choice
abbrev pub kind_by_type : ℕ → Codes → ℕ → Kind
kind_by_type tvr codes kind =
    if is_online_only kind then Arqc
    else if can_go_online kind then (if meets tvr codes.online then Arqc else Tc)
    else offline_kind tvr codes

-- the kind of cryptogram that is asked for first
unfoldable pub wanted : ℕ → Codes → ℕ → Kind
wanted tvr codes kind = (if meets tvr codes.denial then Aac else kind_by_type tvr codes kind)

-- the kind that is asked for where a terminal was unable to go online
unfoldable pub unable : ℕ → Codes → ℕ → Kind
unable tvr codes kind = (if is_online_only kind then Aac else offline_kind tvr codes)
