-- A calendar date in binary coded decimal: year, month and day, two digits a byte (EMV 4.3 Book 3
-- section 4.3, format n).
use Rattle.std.specs.Prelude.{ℕ, ◌+◌, ◌==◌, Bool, nat_le, nat_lt, ◌&&◌, ◌||◌, if◌then◌else◌, List, slice_index, Option, Some, None}
pub use Rattle.emv_dict.specs.Bcd.{has_digits, number_of_bcd}
use Rattle.emv_dict.specs.declared.date.Date.{Date}

-- the two digits of a year as a year: 00 to 49 are 2000 to 2049, 50 to 99 are 1950 to 1999
abbrev pub year_of : ℕ → ℕ
year_of digits = (if nat_lt digits 50 then 2000 + digits else 1900 + digits)

abbrev pub is_month : ℕ → Bool
is_month month = nat_le 1 month && nat_le month 12

abbrev pub is_day : ℕ → Bool
is_day day = nat_le 1 day && nat_le day 31

-- whether three bytes are a date: decimal digits, a month from 1 to 12 and a day from 1 to 31
abbrev pub is_date : ℕ → ℕ → ℕ → Bool
is_date year month day =
    has_digits year && (has_digits month && (has_digits day && (is_month (number_of_bcd month) && is_day (number_of_bcd day))))

abbrev pub read_date : ℕ → ℕ → ℕ → Option Date
read_date year month day =
    (if is_date year month day
    then Some (record { year = year_of (number_of_bcd year); month = number_of_bcd month; day = number_of_bcd day })
    else None)

-- the date of three bytes
abbrev pub date_of : List ℕ → Option Date
date_of bytes = read_date (slice_index bytes 0) (slice_index bytes 1) (slice_index bytes 2)

-- whether the first date is an earlier day than the second
abbrev pub is_earlier : Date → Date → Bool
is_earlier a b =
    nat_lt a.year b.year
    || (a.year == b.year && (nat_lt a.month b.month || (a.month == b.month && nat_lt a.day b.day)))
