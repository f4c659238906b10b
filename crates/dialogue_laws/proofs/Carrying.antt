-- The card carries out the script commands that a host makes for it.
use Rattle.std.proofs.Common.{◌≡◌, ℕ, ◌+◌, ◌-◌, ◌==◌, ◌≤◌, Bool, true, false, List, [], ◌∷◌, ◌++◌, length, map, take, get_or, bit_xor, slice_get, slice_index, Option, Some, None, option_map, refl, ap, sym, ◌∙◌, arith, length-append, eq-eqb}
use Rattle.std.specs.Prelude.{flat_map, IfSome}
use Rattle.std.specs.Int.Bits.{xor_assoc, xor_self}
use Rattle.std.specs.Str.{bytes_eq}
use Rattle.std.proofs.lemmas.Bool.Decides.{nat_tests}
use Rattle.std.proofs.lemmas.List.{take_at, drop_at}
use Rattle.std.proofs.lemmas.Slice.Eq.{bytes_eq-Decides}
use Rattle.apdu_core.specs.Command.{CommandData, command_of, tail_of}
use Rattle.app_cryptogram.specs.Cryptograms.{script_mac_of}
use Rattle.auth_message.specs.Data.{RequestData}
use Rattle.ber_tlv.specs.Written.{written}
use Rattle.card_app.specs.Answering.{instruction_answer, instruction_row}
use Rattle.card_app.specs.Replies.{with_app}
use Rattle.card_app.specs.ScriptCommands.{scripted_of, header_of, script_for, script_in_phase, script_row}
use Rattle.card_app.specs.Session.{next_phase}
use Rattle.card_cryptogram.specs.ScriptHeaders.{size_of}
use Rattle.card_cryptogram.specs.Scripts.{has_code, block_in}
use Rattle.card_cryptogram.specs.declared.orders.ScriptCommand.{ScriptCommand}
use Rattle.card_cryptogram.specs.declared.orders.ScriptCommand.TheVariants.{BlockApp, UnblockApp, BlockCard, UnblockPin, ChangePin, LimitCount, LimitSum}
use Rattle.card_cryptogram.specs.declared.phase.First.{First}
use Rattle.card_cryptogram.specs.declared.phase.Phase.{Phase}
use Rattle.card_cryptogram.specs.declared.phase.Phase.TheVariants.{Idle, Directory, Selected, Started, Online, Closed, Done}
use Rattle.card_files.specs.Views.{AppData, ImageData}
use Rattle.card_keys.specs.Session.{session_script_of}
use Rattle.card_app.specs.PageReplies.{refused, decides, answer_said}
use Rattle.card_state.specs.declared.decision.Decision.TheVariants.{Script}
use Rattle.card_state.specs.declared.state.AppState.{AppState}
use Rattle.card_state.specs.declared.state.CardState.{CardState}
use Rattle.dialogue_laws.specs.Cards.{Now, answer_of}
use Rattle.dialogue_laws.specs.IssuerAtCard.{IsInRequest, CarriesOut, went_online, ordered_by, identifier_read}
use Rattle.dialogue_laws.proofs.Answers.{state_at, phase_at, is_reply}
use Rattle.dialogue_laws.proofs.InRequest.{carries_out}
use Rattle.dialogue_laws.proofs.OrderedData.{block_passes, pin_block, amount_again}
use Rattle.emv_dict.specs.Bcd.{numeric}
use Rattle.issuer_host.proofs.MadeSizes.{data_size, code_size, length-script_mac}
use Rattle.issuer_host.specs.Reply.{script_keys}
use Rattle.issuer_host.specs.Scripts.{script_header, script_command_data, mac_bytes, mac_of, script_command_bytes, order_bytes, identifier_bytes}
use Rattle.issuer_host.specs.declared.keys.HostKeys.{HostKeys}
use Rattle.issuer_host.specs.declared.script.ScriptKeys.{ScriptKeys}
use Rattle.pin_block.specs.Block.{block_of}
use Rattle.script_run.specs.Laws.{commands_written, script_written}
use Rattle.script_run.specs.Script.{no_identifier, script_of}
use Rattle.script_words.specs.MadeLength.{data_length}
use Rattle.script_words.specs.Script.{ScriptData, IsScript}
use Rattle.script_words.specs.Spelling.{IsWord}
use Rattle.script_words.specs.declared.script.Ordered.{Ordered}
use Rattle.script_words.specs.declared.script.Word.{Word}
use Rattle.script_words.specs.declared.script.Word.TheVariants.{Block, Unblock, CardBlock, PinUnblock, Pin, Count, Amount}
use Rattle.triple_des.proofs.Ciphered.{untdes-tdes}
use Rattle.triple_des.specs.Bits.{xor_bytes}
use Rattle.triple_des.specs.TripleDes.{tdes}

-- ---- a command as it is read

-- a word's command with this data field
abbrev made_command : Word → List ℕ → CommandData
made_command word field = record {
  class = slice_index (script_header word) 0;
  ins = slice_index (script_header word) 1;
  p1 = slice_index (script_header word) 2;
  p2 = slice_index (script_header word) 3;
  body = field;
  expects = None;
}

tail_read : (count : ℕ) (field : List ℕ) → length field ≡ count → 1 ≤ count → tail_of (count ∷ field) ≡ Some (field, None)
tail_read count [] same some = absurd (omega arith)
tail_read count (b ∷ bs) same some =
    let none : (count == 0) ≡ false = grind (arith, nat_tests) in
    let whole : (length (b ∷ bs) == count) ≡ true = eq-eqb (length (b ∷ bs)) count same in
    rw (none, whole) refl

header_read : (class ins p1 p2 count : ℕ) (field : List ℕ) → length field ≡ count → 1 ≤ count
    → command_of (class ∷ ins ∷ p1 ∷ p2 ∷ count ∷ field) ≡ Some (record { class = class; ins = ins; p1 = p1; p2 = p2; body = field; expects = None })
unfolding command_of
header_read class ins p1 p2 count field same some =
    ap (λ t. option_map (λ t. record { class = class; ins = ins; p1 = p1; p2 = p2; body = t.0; expects = t.1 }) t) (tail_read count field same some)

command_read : (word : Word) (count : ℕ) (field : List ℕ) → length field ≡ count → 1 ≤ count → command_of (script_header word ++ (count ∷ field)) ≡ Some (made_command word field)
command_read Block count field same some = header_read 0x84 0x1E 0 0 count field same some
command_read Unblock count field same some = header_read 0x84 0x18 0 0 count field same some
command_read CardBlock count field same some = header_read 0x84 0x16 0 0 count field same some
command_read PinUnblock count field same some = header_read 0x84 0x24 0 0 count field same some
command_read (Pin digits) count field same some = header_read 0x84 0x24 0 2 count field same some
command_read (Count limit) count field same some = header_read 0x04 0xDA 0xDF 1 count field same some
command_read (Amount limit) count field same some = header_read 0x04 0xDA 0xDF 2 count field same some

header_again : (word : Word) (field : List ℕ) → header_of (made_command word field) ≡ script_header word
header_again Block field = refl
header_again Unblock field = refl
header_again CardBlock field = refl
header_again PinUnblock field = refl
header_again (Pin digits) field = refl
header_again (Count limit) field = refl
header_again (Amount limit) field = refl

-- ---- its row at the card

-- the order that a word is at the card
abbrev order_of : Word → ScriptCommand
order_of Block = BlockApp
order_of Unblock = UnblockApp
order_of CardBlock = BlockCard
order_of PinUnblock = UnblockPin
order_of (Pin digits) = ChangePin
order_of (Count limit) = LimitCount
order_of (Amount limit) = LimitSum

row_is : (word : Word) (image : ImageData) (state : CardState) (phase : Phase) (field : List ℕ) → instruction_answer image state phase (made_command word field) ≡ script_in_phase image state phase (order_of word) (made_command word field)
unfolding instruction_row script_row
row_is Block image state phase field = refl
row_is Unblock image state phase field = refl
row_is CardBlock image state phase field = refl
row_is PinUnblock image state phase field = refl
row_is (Pin digits) image state phase field = refl
row_is (Count limit) image state phase field = refl
row_is (Amount limit) image state phase field = refl

phase_stays : (word : Word) (image : ImageData) (phase : Phase) (field : List ℕ) → next_phase image phase (made_command word field) [] 0x9000 ≡ phase
unfolding next_phase
phase_stays Block image phase field = refl
phase_stays Unblock image phase field = refl
phase_stays CardBlock image phase field = refl
phase_stays PinUnblock image phase field = refl
phase_stays (Pin digits) image phase field = refl
phase_stays (Count limit) image phase field = refl
phase_stays (Amount limit) image phase field = refl

by_pair : (image : ImageData) (state : CardState) (order : ScriptCommand) (c : CommandData) (app : ℕ) (first : First) (a : AppData) (s : AppState) (found : ℕ × First)
    → Some found ≡ Some (app, first) → slice_get image.apps app ≡ Some a → slice_get state.apps.items app ≡ Some s
    → with_app image.apps state found.0 (script_for order found.0 found.1 c) ≡ script_for order app first c a s
by_pair image state order c app first a s found at own there =
    let same : found ≡ (app, first) = cc in
    ap (λ (p : ℕ × First). with_app image.apps state p.0 (script_for order p.0 p.1 c)) same ∙ rw (own, there) refl

-- where the transaction went online
in_phase : (image : ImageData) (state : CardState) (phase : Phase) (order : ScriptCommand) (c : CommandData) (app : ℕ) (first : First) (a : AppData) (s : AppState)
    → went_online phase ≡ Some (app, first) → slice_get image.apps app ≡ Some a → slice_get state.apps.items app ≡ Some s
    → script_in_phase image state phase order c ≡ script_for order app first c a s
in_phase image state Idle order c app first a s at own there = absurd (cc at)
in_phase image state Directory order c app first a s at own there = absurd (cc at)
in_phase image state (Selected other) order c app first a s at own there = absurd (cc at)
in_phase image state (Started other) order c app first a s at own there = absurd (cc at)
in_phase image state (Closed other) order c app first a s at own there = absurd (cc at)
in_phase image state (Online other begun sent) order c app first a s at own there =
    by_pair image state order c app first a s (other, begun) at own there
in_phase image state (Done other begun) order c app first a s at own there =
    by_pair image state order c app first a s (other, begun) at own there

-- ---- its code

-- the card compares the code at the end with the one that it makes of the data before it
code_test : (key first : List ℕ) (counter : ℕ) (header payload code : List ℕ) → length code ≡ 8
    → has_code key first counter header (payload ++ code) ≡ bytes_eq code (script_mac_of (session_script_of key first) header counter first payload)
unfolding has_code
code_test key first counter header payload code eight =
    let before : length (payload ++ code) - 8 ≡ length payload = omega (arith, length-append payload code) in
    rw (before, drop_at payload code (length payload) refl, take_at payload code (length payload) refl) refl

differs : (mac : List ℕ) → length mac ≡ 8 → xor_bytes mac (0 ∷ 0 ∷ 0 ∷ 0 ∷ 0 ∷ 0 ∷ 0 ∷ 0xFF ∷ []) ≡ mac → ⊥
unfolding xor_bytes
differs [] eight same = absurd (omega arith)
differs (a ∷ []) eight same = absurd (omega arith)
differs (a ∷ b ∷ []) eight same = absurd (omega arith)
differs (a ∷ b ∷ c ∷ []) eight same = absurd (omega arith)
differs (a ∷ b ∷ c ∷ d ∷ []) eight same = absurd (omega arith)
differs (a ∷ b ∷ c ∷ d ∷ e ∷ []) eight same = absurd (omega arith)
differs (a ∷ b ∷ c ∷ d ∷ e ∷ f ∷ []) eight same = absurd (omega arith)
differs (a ∷ b ∷ c ∷ d ∷ e ∷ f ∷ g ∷ []) eight same = absurd (omega arith)
differs (a ∷ b ∷ c ∷ d ∷ e ∷ f ∷ g ∷ h ∷ more) eight same =
    let last : bit_xor h 0xFF ≡ h = ap (λ (xs : List ℕ). get_or xs 7 0) same in
    let none : bit_xor 0 0xFF ≡ 0 =
    ap (λ (n : ℕ). bit_xor n 0xFF) (sym (xor_self h)) ∙ xor_assoc h h 0xFF ∙ ap (bit_xor h) last ∙ xor_self h in
    let wrong : ◌≡◌ {A = ℕ} 255 0 = none in
    absurd (omega arith)

unequal : (one other : List ℕ) → (one ≡ other → ⊥) → bytes_eq one other ≡ false
unequal one other apart = by (bytes_eq one other) refl
  where
    by : (test : Bool) → bytes_eq one other ≡ test → test ≡ false
    by true is = absurd (apart ((bytes_eq-Decides one other).0 is))
    by false is = refl

-- ---- what it does

size_is : (keys : ScriptKeys) (word : Word) (code : List ℕ) → length code ≡ 8 → length (script_command_data keys word ++ code) ≡ size_of (order_of word)
size_is keys word code eight = length-append (script_command_data keys word) code ∙ by word (data_size keys word)
  where
    by : (word : Word) → length (script_command_data keys word) ≡ data_length word → length (script_command_data keys word) + length code ≡ size_of (order_of word)
    by Block same = omega arith
    by Unblock same = omega arith
    by CardBlock same = omega arith
    by PinUnblock same = omega arith
    by (Pin digits) same = omega arith
    by (Count limit) same = omega arith
    by (Amount limit) same = omega arith

module _ (keys : ScriptKeys) (a : AppData) (first : First) (code : List ℕ) (enc : session_script_of a.enc_key first.cryptogram ≡ keys.enc) where
  effect : (word : Word) → IsWord word → scripted_of (order_of word) a first (script_command_data keys word ++ code) ≡ Some (ordered_by a.tries word)
  unfolding block_in
  effect Block is = refl
  effect Unblock is = refl
  effect CardBlock is = refl
  effect PinUnblock is = refl
  effect (Pin digits) is =
      let front : take 8 (tdes keys.enc (block_of 2 digits) ++ code) ≡ tdes keys.enc (block_of 2 digits) = take_at (tdes keys.enc (block_of 2 digits)) code 8 (data_size keys (Pin digits)) in
      rw (front, enc, untdes-tdes keys.enc (block_of 2 digits) (pin_block digits is.0 is.1), block_passes digits is.0 is.1) refl
  effect (Count limit) is = refl
  effect (Amount limit) is =
      let front : take 6 (numeric 6 limit ++ code) ≡ numeric 6 limit = take_at (numeric 6 limit) code 6 (data_size keys (Amount limit)) in
      rw (front, amount_again limit is) refl

module _ (keys : HostKeys) (f : RequestData) (image : ImageData) (now : Now) (app : ℕ) (a : AppData) (s : AppState) (first : First) (order : Ordered) (at : IsInRequest keys f image now app a s first) where
  field : List ℕ
  field = script_command_data (script_keys keys f) order.word ++ mac_bytes order.bad (mac_of (script_keys keys f) order.word)

  own_eight : length (mac_of (script_keys keys f) order.word) ≡ 8
  own_eight = length-script_mac (script_keys keys f).mac (script_header order.word) (script_keys keys f).counter (script_keys keys f).cryptogram (script_command_data (script_keys keys f) order.word)

  eight : length (mac_bytes order.bad (mac_of (script_keys keys f) order.word)) ≡ 8
  eight = code_size order.bad (mac_of (script_keys keys f) order.word) own_eight

  -- the bytes are read as this command
  known : command_of (script_command_bytes (script_keys keys f) order) ≡ Some (made_command order.word field)
  unfolding field
  known =
      let payload : List ℕ = script_command_data (script_keys keys f) order.word in
      let code : List ℕ = mac_bytes order.bad (mac_of (script_keys keys f) order.word) in
      let long : length (payload ++ code) ≡ length payload + 8 = omega (arith, length-append payload code, eight) in
      command_read order.word (length payload + 8) (payload ++ code) long (omega arith)

  -- the card makes the same code
  tested : has_code a.mac_key first.cryptogram s.counter (header_of (made_command order.word field)) field ≡ bytes_eq (mac_bytes order.bad (mac_of (script_keys keys f) order.word)) (mac_of (script_keys keys f) order.word)
  unfolding field
  tested =
      let payload : List ℕ = script_command_data (script_keys keys f) order.word in
      let code : List ℕ = mac_bytes order.bad (mac_of (script_keys keys f) order.word) in
      ap (λ (header : List ℕ). has_code a.mac_key first.cryptogram s.counter header (payload ++ code)) (header_again order.word (payload ++ code))
      ∙ code_test a.mac_key first.cryptogram s.counter (script_header order.word) payload code eight
      ∙ rw (at.keyed.mac, at.counter, at.cryptogram) refl

  sized : (length field == size_of (order_of order.word)) ≡ true
  unfolding field
  sized = eq-eqb (length field) (size_of (order_of order.word)) (size_is (script_keys keys f) order.word (mac_bytes order.bad (mac_of (script_keys keys f) order.word)) eight)

  row : went_online (phase_at image now) ≡ Some (app, first)
      → instruction_answer image (state_at image now) (phase_at image now) (made_command order.word field) ≡ script_for (order_of order.word) app first (made_command order.word field) a s
  row online =
      row_is order.word image (state_at image now) (phase_at image now) field
      ∙ in_phase image (state_at image now) (phase_at image now) (order_of order.word) (made_command order.word field) app first a s online at.own at.there

  right : went_online (phase_at image now) ≡ Some (app, first) → IsWord order.word → order.bad ≡ false
      → instruction_answer image (state_at image now) (phase_at image now) (made_command order.word field) ≡ decides app (Script (ordered_by a.tries order.word)) [] 0x9000
  unfolding script_for field
  right online is good =
      let mac : List ℕ = mac_of (script_keys keys f) order.word in
      let same : bytes_eq (mac_bytes order.bad mac) mac ≡ true = rw good ((bytes_eq-Decides mac mac).1 refl) in
      let code : has_code a.mac_key first.cryptogram s.counter (header_of (made_command order.word field)) field ≡ true = tested ∙ same in
      let enc : session_script_of a.enc_key first.cryptogram ≡ (script_keys keys f).enc = rw (at.keyed.enc, at.cryptogram) refl in
      let does : scripted_of (order_of order.word) a first field ≡ Some (ordered_by a.tries order.word) = effect (script_keys keys f) a first (mac_bytes order.bad mac) enc order.word is in
      row online ∙ rw (sized, code, does) refl

  wrong : went_online (phase_at image now) ≡ Some (app, first) → order.bad ≡ true
      → instruction_answer image (state_at image now) (phase_at image now) (made_command order.word field) ≡ refused 0x6988
  unfolding script_for
  wrong online bad =
      let mac : List ℕ = mac_of (script_keys keys f) order.word in
      let other : bytes_eq (mac_bytes order.bad mac) mac ≡ false = rw bad (unequal (mac_bytes true mac) mac (differs mac own_eight)) in
      let code : has_code a.mac_key first.cryptogram s.counter (header_of (made_command order.word field)) field ≡ false = tested ∙ other in
      row online ∙ rw (sized, code) refl

pub carried : (keys : HostKeys) (f : RequestData) (image : ImageData) (now : Now) (app : ℕ) (a : AppData) (s : AppState) (first : First) (order : Ordered)
    → IsInRequest keys f image now app a s first → went_online (phase_at image now) ≡ Some (app, first) → IsWord order.word → order.bad ≡ false
    → CarriesOut keys f image now app a s first (script_command_bytes (script_keys keys f) order) (Script (ordered_by a.tries order.word))
carried keys f image now app a s first order at online is good =
    let payload : List ℕ = field keys f image now app a s first order at in
    carries_out keys f image now app a s first (made_command order.word payload) (script_command_bytes (script_keys keys f) order) (Script (ordered_by a.tries order.word)) at
    (known keys f image now app a s first order at) (right keys f image now app a s first order at online is good) refl
    (ap went_online (phase_stays order.word image (phase_at image now) payload) ∙ online)

pub code_refused : (keys : HostKeys) (f : RequestData) (image : ImageData) (now : Now) (app : ℕ) (a : AppData) (s : AppState) (first : First) (order : Ordered)
    → IsInRequest keys f image now app a s first → went_online (phase_at image now) ≡ Some (app, first) → order.bad ≡ true
    → answer_of image now (script_command_bytes (script_keys keys f) order) ≡ answer_said (refused 0x6988)
code_refused keys f image now app a s first order at online bad =
    let c : CommandData = made_command order.word (field keys f image now app a s first order at) in
    ap answer_said (is_reply image now (script_command_bytes (script_keys keys f) order) c (phase_at image now) (known keys f image now app a s first order at) refl
    ∙ wrong keys f image now app a s first order at online bad)

-- ---- what a terminal reads

written_so : (keys : ScriptKeys) (orders : List Ordered) → flat_map (order_bytes keys) orders ≡ commands_written (map (script_command_bytes keys) orders)
unfolding order_bytes
written_so keys [] = refl
written_so keys (order ∷ orders) = ap (λ (bytes : List ℕ). order_bytes keys order ++ bytes) (written_so keys orders)

pub commands_read :
    ((identifier : List ℕ) (commands : List (List ℕ)) → length identifier ≡ 4 → script_of (script_written identifier commands) ≡ Some (record { identifier = identifier; commands = commands }))
    → ((commands : List (List ℕ)) → script_of (commands_written commands) ≡ Some (record { identifier = no_identifier; commands = commands }))
    → (keys : ScriptKeys) (script : ScriptData) → IsScript script
    → script_of (identifier_bytes script.id ++ flat_map (order_bytes keys) script.commands) ≡ Some (record { identifier = identifier_read script.id; commands = map (script_command_bytes keys) script.commands })
commands_read named unnamed keys script is = by script.id is.identifier
  where
    by : (id : Option (List ℕ)) → IfSome id (λ id. length id ≡ 4)
        → script_of (identifier_bytes id ++ flat_map (order_bytes keys) script.commands) ≡ Some (record { identifier = identifier_read id; commands = map (script_command_bytes keys) script.commands })
    by None four = ap script_of (written_so keys script.commands) ∙ unnamed (map (script_command_bytes keys) script.commands)
    by (Some id) four =
        ap (λ (bytes : List ℕ). script_of (written 0x9F18 id ++ bytes)) (written_so keys script.commands) ∙ named id (map (script_command_bytes keys) script.commands) four
