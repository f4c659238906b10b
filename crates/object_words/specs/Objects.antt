-- Data objects in words, and objects within objects (EMV 4.3 Book 3 Annex B).
use Rattle.std.specs.Prelude.{ℕ, zero, suc, ◌+◌, ◌==◌, Bool, ◌&&◌, ◌||◌, not, nat_lt, if◌then◌else◌, min, List, [], ◌++◌, length, map, codes, Option, Some, None, option_map, is_none, unwrap_or}
use Rattle.std.specs.List.{flat_map}
use Rattle.report_lines.specs.Pieces.{Piece, line, text, hex}
use Rattle.ber_tlv.specs.Item.{ItemData}
use Rattle.ber_tlv.specs.Left.{items_of, fault_of}
use Rattle.ber_tlv.specs.Tag.{names_template}
use Rattle.ber_tlv.specs.Written.{tag_bytes}
use Rattle.report_lines.specs.declared.references.TheConstants.{STATUS_REFERENCES}
use Rattle.value_words.specs.Words.{tag_name_in}
use Rattle.value_words.specs.declared.bits.TheConstants.{ADDITIONAL_BITS, CAPABILITY_BITS, INTERCHANGE_BITS, STATUS_BITS, USAGE_BITS}
use Rattle.value_words.specs.declared.codes.TheConstants.{TERMINAL_TYPES, TRADES}
use Rattle.value_words.specs.declared.names.Form.{Form}
use Rattle.value_words.specs.declared.names.Form.TheVariants as form
use Rattle.value_words.specs.declared.names.TheConstants.{NAMES}
use Rattle.object_words.specs.Bits.{bit_numbers, bits_words, table_flags_words, coded_words}
use Rattle.object_words.specs.Commands.{command_words}
use Rattle.value_words.specs.Digits.{digits_words}
use Rattle.object_words.specs.Issuer.{information_words, issuer_data_words, authentication_words, response_code_words}
use Rattle.object_words.specs.Leading.{leading_items}
use Rattle.value_words.specs.Lists.{list_words, locator_words, methods_words, method_result_words}
use Rattle.value_words.specs.Plain.{binary_number, hex_words, told_if, text_words, number_words, amount_words, three_digits_words, date_words, time_words, log_entry_words, priority_words}
use Rattle.object_words.specs.Results.{result_lines}
use Rattle.object_words.specs.Tracks.{track_words}
use Rattle.object_words.specs.declared.style.ResultsStyle.{ResultsStyle}
use Rattle.object_words.specs.declared.style.ResultsStyle.TheVariants.{Lines, OneLine, Codes}
use Rattle.object_words.specs.declared.style.Style.{Style}

-- at this level
abbrev pub plain : ℕ → Style
plain level = record { level = level; results = Lines; answer = None }

-- one level deeper
abbrev pub below : ℕ → ℕ
below level = min (level + 1) 255

-- terminal verification results, bit by bit below their line, or in it
abbrev pub bits_below : ResultsStyle → ℕ → List ℕ → List Piece
bits_below Lines level value = result_lines (binary_number value) level None
bits_below (Codes known) level value = result_lines (binary_number value) level (Some known)
bits_below OneLine level value = (if binary_number value == 0 then [] else text (codes ", bits") ++ bit_numbers value)

abbrev pub verification_words : Style → List ℕ → Option (List Piece)
verification_words style value = told_if (length value == 5) (hex value ++ bits_below style.results (below style.level) value)

-- a value by its form; none where it is of another length or content, or its form is that of bytes
abbrev pub table_words : Form → Style → List ℕ → Option (List Piece)
table_words form.Interchange style value = table_flags_words (map (λ w. (w.0, w.1.now)) INTERCHANGE_BITS) [] 2 value
table_words form.Usage style value = table_flags_words (map (λ w. (w.0, w.1.now)) USAGE_BITS) [] 2 value
table_words form.Capabilities style value = table_flags_words (map (λ w. (w.0, w.1.now)) CAPABILITY_BITS) [] 3 value
table_words form.Additional style value = table_flags_words (map (λ w. (w.0, w.1.now)) ADDITIONAL_BITS) [] 5 value
table_words form.Status style value = table_flags_words (map (λ w. (w.0, w.1.now)) STATUS_BITS) (map (λ w. (w.0, w.1.now)) STATUS_REFERENCES) 2 value
table_words form.Results style value = verification_words style value
table_words form.TerminalType style value = coded_words (map (λ w. (w.0, w.1.now)) TERMINAL_TYPES) value
table_words form.Trade style value = coded_words (map (λ w. (w.0, w.1.now)) TRADES) value
table_words form.Information style value = information_words value
table_words form.IssuerData style value = issuer_data_words value
table_words form.Authentication style value = authentication_words value
table_words form.Response style value = response_code_words value (option_map (λ words. words.now) style.answer)
table_words other style value = None

abbrev pub parts_words : Form → Style → List ℕ → Option (List Piece)
parts_words form.ObjectList style value = list_words value
parts_words form.Locator style value = locator_words value
parts_words form.Methods style value = methods_words (below style.level) value
parts_words form.MethodResult style value = method_result_words value
parts_words form.Command style value = Some (command_words value)
parts_words form.LogEntry style value = log_entry_words value
parts_words form.Priority style value = priority_words value
parts_words form.Track style value = track_words value
parts_words other style value = table_words other style value

abbrev pub form_words : Form → Style → List ℕ → Option (List Piece)
form_words form.Bytes style value = None
form_words form.Template style value = None
form_words form.Text style value = text_words value
form_words form.Digits style value = digits_words value
form_words form.Number style value = number_words value
form_words form.Amount style value = amount_words value
form_words form.Code style value = three_digits_words value
form_words form.Date style value = date_words value
form_words form.Time style value = time_words value
form_words form.Bits style value = Some (bits_words value)
form_words other style value = parts_words other style value

-- a value by its form, else in hexadecimal
unfoldable pub value_words : Form → Style → List ℕ → List Piece
value_words form style value = unwrap_or (form_words form style value) (hex_words value)

abbrev pub named_value : Option (List ℕ × Form) → Style → List ℕ → List Piece
named_value None style value = text (codes ": ") ++ hex_words value
named_value (Some named) style value = text (codes " ") ++ text named.0 ++ text (codes ": ") ++ value_words named.1 style value

-- the name of a tag, and how its value is told
unfoldable pub name_of : ℕ → Option (List ℕ × Form)
name_of tag = tag_name_in (map (λ n. (n.0, n.1.now, n.2)) NAMES) tag

-- an object in a line of its own: its tag, its name, and its value
unfoldable pub object_words : Style → ℕ → List ℕ → List Piece
object_words style tag value = line style.level ++ hex (tag_bytes tag) ++ named_value (name_of tag) style value

-- a constructed object whose line stands before the objects that it holds: one without a name, or an application template, a
-- script or a directory discretionary template
abbrev pub has_line : ℕ → Bool
has_line tag = tag == 0x61 || tag == 0x71 || tag == 0x72 || tag == 0x73

abbrev pub unnamed_line : ℕ → ℕ → List Piece
unnamed_line level tag = line level ++ hex (tag_bytes tag) ++ text (codes " template")

abbrev pub template_line : Option (List ℕ × Form) → ℕ → ℕ → List Piece
template_line None level tag = unnamed_line level tag
template_line (Some named) level tag = (if has_line tag then line level ++ hex (tag_bytes tag) ++ text (codes " ") ++ text named.0 else [])

abbrev pub level_within : Option (List ℕ × Form) → ℕ → ℕ → ℕ
level_within None level tag = below level
level_within (Some named) level tag = (if has_line tag then below level else level)

-- what a constructed object holds is told where these are whole objects, and no deeper than at the fourth level
abbrev pub is_opened : ℕ → ItemData → Bool
is_opened level item =
    names_template item.tag && nat_lt level 4 && not (length item.value == 0) && is_none (fault_of (items_of item.value))

abbrev pub item_words : Style → (Style → List ℕ → List Piece) → ItemData → List Piece
item_words style within item =
    if is_opened style.level item
    then template_line (name_of item.tag) style.level item.tag ++ within (record style { level = level_within (name_of item.tag) style.level item.tag }) item.value
    else object_words style item.tag item.value

abbrev pub plain_item : Style → ItemData → List Piece
plain_item style item = object_words style item.tag item.value

-- the objects of bytes up to their first fault, and what constructed ones hold, so many objects deep at most
unfoldable pub objects_words : ℕ → Style → List ℕ → List Piece
objects_words zero style bytes = flat_map (plain_item style) (leading_items bytes)
objects_words (suc more) style bytes = flat_map (item_words style (objects_words more)) (leading_items bytes)

-- the words of one of them
abbrev pub told_item : ℕ → Style → ItemData → List Piece
told_item zero style item = plain_item style item
told_item (suc more) style item = item_words style (objects_words more) item

-- an object that stands alone, with what it holds, so many objects deep at most
abbrev pub lone_words : ℕ → Style → ℕ → List ℕ → List Piece
lone_words more style tag value = told_item more style (record { tag = tag; value = value; start = 0 })
