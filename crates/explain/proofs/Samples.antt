-- What the definition says of some words.
use Rattle.std.proofs.Common.{◌≡◌, true, [], ◌∷◌, codes, Some, None, refl}
use Rattle.purchase_reasons.specs.declared.limits.CardApp.{CardApp}
use Rattle.value_words.specs.declared.asking.Reach.TheVariants.{Both}
use Rattle.hex.specs.Hex.{decode_pairs}
use Rattle.narrator.specs.declared.terminal.Terminal.{Terminal}
use Rattle.narrator.specs.State.{Manner}
use Rattle.report_lines.specs.Parts.{split_at, decimal_number}
use Rattle.explain.specs.Grammar.{app_name_of, sized_number, terminal_row_in, terminal_of, limits_in, card_app_of, option_alone, option_with_argument, options_given, manner_of_words}
use Rattle.explain.specs.ToldLines.{whole_way, unfiltered}

pub of_no_words : manner_of_words [] ≡ Some whole_way.manner
unfolding manner_of_words options_given
of_no_words = refl

-- the empty word, for which words stand that are no text
pub of_empty_word : manner_of_words ([] ∷ []) ≡ None
unfolding manner_of_words options_given option_alone option_with_argument
of_empty_word = refl

-- each filter, in two orders
abbrev all_filters : Manner
all_filters = record { filter = record { brief = true; why = true; books = true; ends = true; lane = Some 15; purchase = Some 7 }; terminals = []; card_apps = []; accounts = [] }

pub of_filters : manner_of_words (codes "--brief" ∷ codes "--why" ∷ codes "--books" ∷ codes "--ends" ∷ codes "--lane" ∷ codes "15" ∷ codes "--purchase" ∷ codes "7" ∷ []) ≡ Some all_filters
unfolding manner_of_words options_given option_alone option_with_argument decimal_number
of_filters = refl

pub of_filters_turned : manner_of_words (codes "--purchase" ∷ codes "7" ∷ codes "--lane" ∷ codes "15" ∷ codes "--ends" ∷ codes "--brief" ∷ codes "--books" ∷ codes "--why" ∷ []) ≡ Some all_filters
unfolding manner_of_words options_given option_alone option_with_argument decimal_number
of_filters_turned = refl

pub of_brief_twice : manner_of_words (codes "--brief" ∷ codes "--brief" ∷ []) ≡ None
unfolding manner_of_words options_given option_alone option_with_argument
of_brief_twice = refl

pub of_lane_twice : manner_of_words (codes "--lane" ∷ codes "1" ∷ codes "--lane" ∷ codes "1" ∷ []) ≡ None
unfolding manner_of_words options_given option_alone option_with_argument decimal_number
of_lane_twice = refl

pub of_lane_16 : manner_of_words (codes "--lane" ∷ codes "16" ∷ []) ≡ None
unfolding manner_of_words options_given option_alone option_with_argument decimal_number
of_lane_16 = refl

pub of_no_argument : manner_of_words (codes "--brief" ∷ codes "--purchase" ∷ []) ≡ None
unfolding manner_of_words options_given option_alone option_with_argument decimal_number
of_no_argument = refl

-- an argument is one, whatever it looks like
pub of_option_as_argument : manner_of_words (codes "--purchase" ∷ codes "--brief" ∷ []) ≡ None
unfolding manner_of_words options_given option_alone option_with_argument decimal_number
of_option_as_argument = refl

-- ---- terminals

abbrev online_or_not : Terminal
online_or_not = record {
  lane = 3;
  name = record { items = 0xa0 ∷ 0 ∷ 0 ∷ 0 ∷ 0x1f ∷ [] };
  partial = true;
  row = record { reach = Both; denial = 0x0010000000; online = 0xffffffffff; default = 1 };
}

pub of_terminal : terminal_of (codes "3,22,A00000001f,1,0010000000,FFFFFFFFff,0000000001") ≡ Some online_or_not
unfolding terminal_of terminal_row_in app_name_of sized_number decimal_number split_at decode_pairs
of_terminal = refl

pub of_two_terminals : manner_of_words (codes "--terminal" ∷ codes "3,22,A00000001f,1,0010000000,FFFFFFFFff,0000000001"
    ∷ codes "--terminal" ∷ codes "3,22,A00000001f,1,0010000000,FFFFFFFFff,0000000001" ∷ [])
    ≡ Some (record { filter = unfiltered; terminals = online_or_not ∷ online_or_not ∷ []; card_apps = []; accounts = [] })
unfolding manner_of_words options_given option_alone option_with_argument terminal_of terminal_row_in app_name_of sized_number decimal_number split_at decode_pairs
of_two_terminals = refl

pub of_kind_20 : terminal_of (codes "3,20,A00000001f,1,0010000000,FFFFFFFFff,0000000001") ≡ None
unfolding terminal_of terminal_row_in app_name_of sized_number decimal_number split_at decode_pairs
of_kind_20 = refl

pub of_lane_above : terminal_of (codes "16,22,A00000001f,1,0010000000,FFFFFFFFff,0000000001") ≡ None
unfolding terminal_of terminal_row_in app_name_of sized_number decimal_number split_at decode_pairs
of_lane_above = refl

pub of_partial_2 : terminal_of (codes "3,22,A00000001f,2,0010000000,FFFFFFFFff,0000000001") ≡ None
unfolding terminal_of terminal_row_in app_name_of sized_number decimal_number split_at decode_pairs
of_partial_2 = refl

pub of_nine_digits : terminal_of (codes "3,22,A00000001f,1,001000000,FFFFFFFFff,0000000001") ≡ None
unfolding terminal_of terminal_row_in app_name_of sized_number decimal_number split_at decode_pairs
of_nine_digits = refl

pub of_seven_commas : terminal_of (codes "3,22,A00000001f,1,0010000000,FFFFFFFFff,0000000001,") ≡ None
unfolding terminal_of terminal_row_in app_name_of sized_number decimal_number split_at decode_pairs
of_seven_commas = refl

-- ---- cards

abbrev two_currencies : CardApp
two_currencies = record {
  card = record { items = codes "c1" };
  place = 1;
  name = record { items = 0xa0 ∷ 0 ∷ 0 ∷ 0 ∷ 0x1f ∷ [] };
  limits = record { count = 5; sum = 20000; currency = 0x0840; second_sum = 100; second_currency = Some 0x0978 };
}

pub of_card : card_app_of (codes "c1,1,A00000001f,5,20000,0840,100,0978") ≡ Some two_currencies
unfolding card_app_of limits_in app_name_of sized_number decimal_number split_at decode_pairs
of_card = refl

pub of_place_4 : card_app_of (codes "c1,4,A00000001f,5,20000,0840,0,-") ≡ None
unfolding card_app_of limits_in app_name_of sized_number decimal_number split_at decode_pairs
of_place_4 = refl

pub of_no_second : card_app_of (codes "c1,0,A00000001f,5,20000,0840,0,") ≡ None
unfolding card_app_of limits_in app_name_of sized_number decimal_number split_at decode_pairs
of_no_second = refl

pub of_4_bytes : app_name_of (codes "a0000000") ≡ None
unfolding app_name_of decode_pairs
of_4_bytes = refl

pub of_16_bytes : app_name_of (codes "000102030405060708090A0b0C0d0E0f")
    ≡ Some (0 ∷ 1 ∷ 2 ∷ 3 ∷ 4 ∷ 5 ∷ 6 ∷ 7 ∷ 8 ∷ 9 ∷ 10 ∷ 11 ∷ 12 ∷ 13 ∷ 14 ∷ 15 ∷ [])
unfolding app_name_of decode_pairs
of_16_bytes = refl

pub of_17_bytes : app_name_of (codes "000102030405060708090a0b0c0d0e0f10") ≡ None
unfolding app_name_of decode_pairs
of_17_bytes = refl

pub of_11_digits : app_name_of (codes "a0000000310") ≡ None
unfolding app_name_of decode_pairs
of_11_digits = refl
