-- The application usage control, object 9F07 (EMV 4.3 Book 3 Annex C2): which services a card may be used for, in
-- the country of its issuer (domestic) and in others (international). Bytes are counted from 1 at the left, and the
-- bits of a byte from 8 at the left to 1.
use Rattle.std.specs.Prelude.{ℕ, ◌-◌, ◌^◌, ◌==◌, Bool, not, ◌&&◌, if◌then◌else◌, List, slice_index, bit_and}
use Rattle.emv_dict.specs.Views.{PurchaseData}

-- the bit of this byte and number stands
abbrev pub has_usage : List ℕ → ℕ → ℕ → Bool
has_usage usage byte bit = not (bit_and (slice_index usage (byte - 1)) (2 ^ (bit - 1)) == 0)

-- terminals other than cash machines
abbrev pub allows_terminal : List ℕ → Bool
allows_terminal usage = has_usage usage 1 1

abbrev pub allows_cash : List ℕ → Bool → Bool
allows_cash usage domestic = (if domestic then has_usage usage 1 8 else has_usage usage 1 7)

abbrev pub allows_goods : List ℕ → Bool → Bool
allows_goods usage domestic = (if domestic then has_usage usage 1 6 else has_usage usage 1 5)

abbrev pub allows_services : List ℕ → Bool → Bool
allows_services usage domestic = (if domestic then has_usage usage 1 4 else has_usage usage 1 3)

abbrev pub allows_cashback : List ℕ → Bool → Bool
allows_cashback usage domestic = (if domestic then has_usage usage 2 8 else has_usage usage 2 7)

-- goods or services, whichever are bought
abbrev pub allows_bought : List ℕ → Bool → Bool → Bool
allows_bought usage domestic services = (if services then allows_services usage domestic else allows_goods usage domestic)

-- transaction type 01 is cash, 09 a purchase with cashback, 00 a purchase
unfoldable pub allows_trade : List ℕ → Bool → PurchaseData → Bool
allows_trade usage domestic purchase =
    if purchase.trade == 1 then allows_cash usage domestic
    else if purchase.trade == 9 then allows_bought usage domestic purchase.services && allows_cashback usage domestic
    else allows_bought usage domestic purchase.services
