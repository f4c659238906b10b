-- SELECT, READ RECORD and GET DATA (EMV 4.3 Book 1 sections 11.3 and 12.2, Book 3 sections 6.5.11 and 6.5.7 and
-- Annex D).
use Rattle.std.specs.Prelude.{ℕ, ◌-◌, ◌/◌, ◌==◌, ◌&&◌, not, Bool, true, false, if◌then◌else◌, List, [], ◌∷◌, length, slice_get, Option, Some, None, option_and_then}
use Rattle.std.specs.Int.{to_be_bytes, w16}
use Rattle.apdu_core.specs.Command.{CommandData}
use Rattle.ber_tlv.specs.Written.{written}
use Rattle.card_files.specs.Control.{fci_bytes}
use Rattle.card_files.specs.Directory.{directory_fci, directory_record}
use Rattle.card_files.specs.Files.{record_of, has_file}
use Rattle.card_files.specs.Views.{AppData, ImageData}
use Rattle.card_state.specs.Encoding.{row_bytes}
use Rattle.card_state.specs.declared.state.AppState.{AppState}
use Rattle.card_state.specs.declared.state.CardState.{CardState}
use Rattle.card_state.specs.declared.state.LogRow.{LogRow}
use Rattle.card_app.specs.Replies.{with_app}
use Rattle.card_app.specs.PageReplies.{CardReplyData, refused, shows}
use Rattle.card_app.specs.Selection.{app_found, directory_asked}
use Rattle.card_cryptogram.specs.Asked.{is_by_name, is_name_size, is_record_named}
use Rattle.card_cryptogram.specs.Phases.{current, in_directory}
use Rattle.card_cryptogram.specs.declared.phase.Phase.{Phase}

-- the file control information; a blocked application is shown with a warning
abbrev pub shown_for : AppData → AppState → CardReplyData
shown_for a s = shows (fci_bytes a) (if s.blocked then 0x6283 else 0x9000)

abbrev pub selected_reply : List AppData → CardState → Option ℕ → CardReplyData
selected_reply apps state None = refused 0x6A82
selected_reply apps state (Some app) = with_app apps state app shown_for

-- no application comes next behind the directory
abbrev pub is_behind_directory : Phase → ℕ → Bool
is_behind_directory phase p2 = p2 == 2 && in_directory phase

abbrev pub app_reply : ImageData → CardState → Phase → CommandData → CardReplyData
app_reply image state phase c =
    if is_behind_directory phase c.p2 then refused 0x6A82 else selected_reply image.apps state (app_found image.apps phase c.p2 c.body)

-- the directory's file control information, where it is asked for
abbrev pub directory_or : Option ℕ → CardReplyData → CardReplyData
directory_or (Some sfi) other = shows (directory_fci sfi) 0x9000
directory_or None other = other

unfoldable pub select_row : ImageData → CardState → Phase → CommandData → CardReplyData
select_row image state phase c =
    if not (is_by_name c.p1 c.p2) then refused 0x6A86
    else if not (is_name_size (length c.body)) then refused 0x6700
    else if state.blocked then refused 0x6A81
    else directory_or (directory_asked image c.p2 c.body) (app_reply image state phase c)

abbrev pub record_or : Bool → Option (List ℕ) → CardReplyData
record_or is_there (Some bytes) = shows bytes 0x9000
record_or is_there None = refused (if is_there then 0x6A83 else 0x6A82)

-- the file is the application's transaction log
abbrev pub is_log_of : ℕ → Option AppData → Bool
is_log_of sfi None = false
is_log_of sfi (Some a) = not (a.log == 0) && (a.log_sfi == sfi)

-- a row of the log, the latest one being number 1
abbrev pub log_row_at : CardState → ℕ → ℕ → Option LogRow
log_row_at state app number = option_and_then (λ s. slice_get s.log.items (number - 1)) (slice_get state.apps.items app)

abbrev pub row_or : Option LogRow → CardReplyData
row_or (Some row) = shows (row_bytes row) 0x9000
row_or None = refused 0x6A83

-- a record of an application, or a row of its log
abbrev pub app_record : ImageData → CardState → ℕ → ℕ → ℕ → CardReplyData
app_record image state app sfi number =
    if is_log_of sfi (slice_get image.apps app) then row_or (log_row_at state app number)
    else record_or (has_file image.apps app sfi) (record_of image.apps app sfi number)

-- a record of the directory, in its file
abbrev pub is_file : ℕ → Option ℕ → Bool
is_file sfi None = false
is_file sfi (Some file) = file == sfi

abbrev pub directory_reply : ImageData → ℕ → ℕ → CardReplyData
directory_reply image sfi number =
    if is_file sfi image.directory then record_or true (directory_record image.apps number) else refused 0x6A82

abbrev pub without_data : CommandData → CardReplyData → CardReplyData
without_data c reply = if not (length c.body == 0) then refused 0x6700 else reply

-- the record of the selected application
abbrev pub record_for : ImageData → CardState → Option ℕ → CommandData → CardReplyData
record_for image state None c = refused 0x6985
record_for image state (Some app) c = without_data c (app_record image state app (c.p2 / 8) c.p1)

unfoldable pub record_row : ImageData → CardState → Phase → CommandData → CardReplyData
record_row image state phase c =
    if not (is_record_named c.p1 c.p2) then refused 0x6A86
    else if in_directory phase then without_data c (directory_reply image (c.p2 / 8) c.p1)
    else record_for image state (current phase) c

-- the format of the log's rows (EMV 4.3 Book 3 Annex D3): amount 6, currency 2, date 3, counter 2, kind 1
abbrev pub log_format : List ℕ
log_format = 0x9F ∷ 0x02 ∷ 6 ∷ 0x5F ∷ 0x2A ∷ 2 ∷ 0x9A ∷ 3 ∷ 0x9F ∷ 0x36 ∷ 2 ∷ 0x9F ∷ 0x27 ∷ 1 ∷ []

-- the counter, that of the last online transaction, the PIN tries that are left, or the format of a log that is there
unfoldable pub data_object : ℕ → ℕ → AppData → AppState → CardReplyData
data_object p1 p2 a s =
    if p1 == 0x9F && p2 == 0x36 then shows (written 0x9F36 (to_be_bytes w16 s.counter)) 0x9000
    else if p1 == 0x9F && p2 == 0x13 then shows (written 0x9F13 (to_be_bytes w16 s.last_online)) 0x9000
    else if p1 == 0x9F && p2 == 0x17 then shows (written 0x9F17 (s.tries ∷ [])) 0x9000
    else if (p1 == 0x9F && p2 == 0x4F) && not (a.log == 0) then shows (written 0x9F4F log_format) 0x9000
    else refused 0x6A88

abbrev pub data_for : ImageData → CardState → Option ℕ → CommandData → CardReplyData
data_for image state None c = refused 0x6985
data_for image state (Some app) c =
    without_data c (with_app image.apps state app (data_object c.p1 c.p2))

unfoldable pub data_row : ImageData → CardState → Phase → CommandData → CardReplyData
data_row image state phase c = data_for image state (current phase) c
