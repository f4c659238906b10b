-- One byte more of a report.
use Rattle.std.proofs.Common.{◌≡◌, ◌≢◌, ℕ, zero, suc, ◌+◌, ◌<◌, ◌≤◌, ◌⊎◌, inl, inr, Bool, true, false, ◌||◌, cond, eqb, List, [], ◌∷◌, ◌++◌, length, take, get_or, refl, sym, ap, subst, ◌∙◌, append_assoc, arith}
use Rattle.std.specs.List.{flat_map}
use Rattle.std.specs.declared.option.Option.{Option}
use Rattle.std.specs.Io.KnownBytes.{Appends}
use Rattle.std.proofs.lemmas.Bool.Decides.{nat_tests}
use Rattle.std.proofs.lemmas.Grind.{flat_map-append}
use Rattle.std.proofs.lemmas.Bool.{false≢true}
use Rattle.std.proofs.lemmas.List.{append-nil, take_more, length-append}
use Rattle.std.proofs.lemmas.List.Elements.{All-nil, All-push}
use Rattle.std.proofs.lemmas.List.Folds.{list_any-append}
use Rattle.emv_ports.specs.Growth.{AppendsFront}
use Rattle.emv_ports.proofs.Growth.{Appends-none, Appends-more, AppendsFront-first, AppendsFront-second}
use Rattle.report_lines.specs.Lines.{AreWordLines}
use Rattle.report_lines.proofs.Stages.{no_words}
use Rattle.narrator.specs.State.{StateData, start}
use Rattle.narrator.specs.Words.{Narrates, is_text_left}
use Rattle.explain.specs.ToldLines.{Way, ToldLine, IsLineTold, IsNarrated, IsUntold, TellsLines, HasNoNewline, input_line, line_and_words, rest_behind_lines, most_told, Explains}
use Rattle.explain.specs.ReportSoFar.{Stand, IsReportSoFar, TellingWasStopped, Ended}

-- what of two texts is left is what is left of each
pub rest_behind_lines-append : (all : Bool) (a b : List ℕ) → rest_behind_lines all (a ++ b) ≡ rest_behind_lines all a ++ rest_behind_lines all b
rest_behind_lines-append true a b = refl
rest_behind_lines-append false a b = refl

pub rest_behind_lines-nothing : (all : Bool) → rest_behind_lines all [] ≡ []
rest_behind_lines-nothing true = refl
rest_behind_lines-nothing false = refl

-- a byte more that is no newline
pub no_newline-push : (a : List ℕ) (b : ℕ) → b ≢ 10 → HasNoNewline a → HasNoNewline (a ++ b ∷ [])
unfolding HasNoNewline
no_newline-push a b other none =
    let here : eqb b 10 ≡ false = grind (arith, nat_tests) in
    list_any-append (λ x. eqb x 10) a (b ∷ []) ∙ rw (none, here)

pub no_newline-nothing : HasNoNewline []
unfolding HasNoNewline
no_newline-nothing = refl

-- one line more of a course
pub course_push : (way : Way) (before : StateData) (told : List ToldLine) (mid : StateData) (one : ToldLine) → TellsLines way before told mid → IsLineTold way mid one
    → TellsLines way before (told ++ one ∷ []) one.after
course_push way before [] mid one course made = (subst (λ (s : StateData). IsLineTold way s one) course made, refl)
course_push way before (t ∷ ts) mid one course made = (course.0, course_push way t.after ts mid one course.1 made)

-- a teller before the first byte
abbrev pub beginning : Stand
beginning = record { long = false; state = start }

-- a line that is too long
abbrev pub longer : Stand → Stand
longer stand = record { long = true; state = stand.state }

-- no line has begun behind this state
abbrev pub behind : StateData → Stand
behind state = record { long = false; state = state }

-- a line that is not too long stands there
abbrev pub stands : Bool → StateData → Stand
stands long state = record { long = long; state = state }

pub not_long : (long : Bool) (state : StateData) → long ≡ false → stands long state ≡ behind state
not_long long state short = ap (λ (l : Bool). stands l state) short

-- nothing has come
pub so_far_start : (all : Way) (first : Option (List ℕ)) → IsReportSoFar all [] beginning [] first first
so_far_start all first = record {
  told = [];
  head = [];
  lines = refl;
  shown = λ e. All-nil (λ t. t.shown ≡ true);
  no_line = no_newline-nothing;
  short = λ e. refl;
  many = λ e. absurd (false≢true e);
  seen_is = refl;
  written = subst (λ (t : List ℕ). Appends first first t) (sym (rest_behind_lines-nothing all.all)) (Appends-none first);
}

-- a byte of the line has come
pub so_far_push : (all : Way) (long : Stand) (p seen : List ℕ) (b : ℕ) (first held : Option (List ℕ)) → b ≢ 10 → IsReportSoFar all p long seen first held
    → IsReportSoFar all (p ++ b ∷ []) long (seen ++ b ∷ []) first held
so_far_push all long p seen b first held other s = record {
  told = s.told;
  head = s.head;
  lines = s.lines;
  shown = s.shown;
  no_line = subst HasNoNewline (append_assoc s.head p (b ∷ [])) (no_newline-push (s.head ++ p) b other s.no_line);
  short = s.short;
  many = λ e. omega (arith, s.many e, length-append s.head p, length-append s.head (p ++ b ∷ []), length-append p (b ∷ []));
  seen_is = ap (λ (t : List ℕ). t ++ b ∷ []) s.seen_is ∙ append_assoc (flat_map input_line s.told) (s.head ++ p) (b ∷ [])
      ∙ ap (λ (t : List ℕ). flat_map input_line s.told ++ t) (append_assoc s.head p (b ∷ []));
  written = s.written;
}

-- what came of a line was handed on, and a byte more has come, with which it is too long
pub so_far_flush : (all : Way) (long : Stand) (p seen : List ℕ) (b : ℕ) (first old new : Option (List ℕ)) → most_told ≤ length p → b ≢ 10 → IsReportSoFar all p long seen first old
    → Appends old new (rest_behind_lines all.all p) → IsReportSoFar all (b ∷ []) (longer long) (seen ++ b ∷ []) first new
so_far_flush all long p seen b first old new enough other s more = record {
  told = s.told;
  head = s.head ++ p;
  lines = s.lines;
  shown = s.shown;
  no_line = no_newline-push (s.head ++ p) b other s.no_line;
  short = λ e. absurd (false≢true (sym e));
  many = λ e. omega (arith, length-append s.head p, length-append (s.head ++ p) (b ∷ []));
  seen_is = ap (λ (t : List ℕ). t ++ b ∷ []) s.seen_is ∙ append_assoc (flat_map input_line s.told) (s.head ++ p) (b ∷ []);
  written = subst (λ (t : List ℕ). Appends first new t)
      (append_assoc (flat_map line_and_words s.told) (rest_behind_lines all.all s.head) (rest_behind_lines all.all p) ∙ ap (λ (t : List ℕ). flat_map line_and_words s.told ++ t) (sym (rest_behind_lines-append all.all s.head p)))
      (Appends-more first old new (flat_map line_and_words s.told ++ rest_behind_lines all.all s.head) (rest_behind_lines all.all p) s.written more);
}

-- the bytes that have come, as they are explained where nothing comes behind them
pub explains_so_far : (all : Way) (long : Stand) (p seen : List ℕ) (first held : Option (List ℕ)) → (s : IsReportSoFar all p long seen first held)
    → Explains all seen ((flat_map line_and_words s.told ++ rest_behind_lines all.all s.head) ++ rest_behind_lines all.all p)
explains_so_far all long p seen first held s = record {
  told = s.told;
  after = long.state;
  rest = s.head ++ p;
  lines = s.lines;
  shown = s.shown;
  no_line = s.no_line;
  input_is = s.seen_is;
  output_is = append_assoc (flat_map line_and_words s.told) (rest_behind_lines all.all s.head) (rest_behind_lines all.all p)
      ∙ ap (λ (t : List ℕ). flat_map line_and_words s.told ++ t) (sym (rest_behind_lines-append all.all s.head p));
}

-- the end: what came of the last line was handed on
pub ended : (all : Way) (long : Stand) (p seen : List ℕ) (first old new : Option (List ℕ)) → IsReportSoFar all p long seen first old → Appends old new (rest_behind_lines all.all p)
    → Ended all seen first new
ended all long p seen first old new s more = record {
  output = (flat_map line_and_words s.told ++ rest_behind_lines all.all s.head) ++ rest_behind_lines all.all p;
  explains = explains_so_far all long p seen first old s;
  written = Appends-more first old new (flat_map line_and_words s.told ++ rest_behind_lines all.all s.head) (rest_behind_lines all.all p) s.written more;
}

-- or a front of it
pub stopped : (all : Way) (long : Stand) (p seen : List ℕ) (first old new : Option (List ℕ)) → IsReportSoFar all p long seen first old → AppendsFront old new (rest_behind_lines all.all p)
    → TellingWasStopped all seen first new
stopped all long p seen first old new s more = record {
  output = (flat_map line_and_words s.told ++ rest_behind_lines all.all s.head) ++ rest_behind_lines all.all p;
  explains = explains_so_far all long p seen first old s;
  written = AppendsFront-second first old new (flat_map line_and_words s.told ++ rest_behind_lines all.all s.head) (rest_behind_lines all.all p) s.written more;
}

-- nothing more was handed on
pub stopped_still : (all : Way) (long : Stand) (p seen : List ℕ) (first held : Option (List ℕ)) → IsReportSoFar all p long seen first held → TellingWasStopped all seen first held
stopped_still all long p seen first held s =
    stopped all long p seen first held held s (record { rest = rest_behind_lines all.all p; so_far = record { done = []; written = Appends-none held; splits = refl } })

-- a front was handed on, and one byte more has come
pub stopped_push : (all : Way) (long : Stand) (p seen : List ℕ) (b : ℕ) (first old new : Option (List ℕ)) → b ≢ 10 → IsReportSoFar all p long seen first old
    → AppendsFront old new (rest_behind_lines all.all p) → TellingWasStopped all (seen ++ b ∷ []) first new
stopped_push all long p seen b first old new other s more =
    stopped all long (p ++ b ∷ []) (seen ++ b ∷ []) first old new (so_far_push all long p seen b first old other s)
    (subst (λ (t : List ℕ). AppendsFront old new t) (sym (rest_behind_lines-append all.all p (b ∷ []))) (AppendsFront-first old new (rest_behind_lines all.all p) (rest_behind_lines all.all (b ∷ [])) more))

-- a line with its words, behind the lines before it
line_more : (told : List ToldLine) (t : ToldLine) → flat_map input_line (told ++ t ∷ []) ≡ flat_map input_line told ++ input_line t
line_more told t = flat_map-append input_line told (t ∷ []) ∙ ap (λ (x : List ℕ). flat_map input_line told ++ x) (append-nil (input_line t))

told_more : (told : List ToldLine) (t : ToldLine) → flat_map line_and_words (told ++ t ∷ []) ≡ flat_map line_and_words told ++ line_and_words t
told_more told t = flat_map-append line_and_words told (t ∷ []) ∙ ap (λ (x : List ℕ). flat_map line_and_words told ++ x) (append-nil (line_and_words t))

-- a line that is left out is one that a filter leaves out
kept_shown : (all shown : Bool) → (shown ≡ false → all ≡ false) → all ≡ true → shown ≡ true
kept_shown all true kept a = refl
kept_shown all false kept a = absurd (false≢true (sym (kept refl) ∙ a))

-- a line has ended: what it is told as, as far as it was not handed on before
pub record EndsLine (all : Way) (before after : StateData) (head p words : List ℕ) (shown : Bool) (piece : List ℕ) : Type 0 where
  pub word_lines : AreWordLines words
  pub made : IsNarrated all before (record { text = head ++ p; words = words; shown = shown; after = after })
      ⊎ IsUntold all before (record { text = head ++ p; words = words; shown = shown; after = after })
  pub kept : all.all ≡ true → shown ≡ true
  pub told : rest_behind_lines all.all head ++ piece ≡ line_and_words (record { text = head ++ p; words = words; shown = shown; after = after })

pub so_far_line : (all : Way) (long : Stand) (after : StateData) (p seen words piece : List ℕ) (shown : Bool) (first old new : Option (List ℕ)) → (s : IsReportSoFar all p long seen first old)
    → EndsLine all long.state after s.head p words shown piece → Appends old new piece → IsReportSoFar all [] (behind after) (seen ++ 10 ∷ []) first new
so_far_line all long after p seen words piece shown first old new s e more =
    let t : ToldLine = record { text = s.head ++ p; words = words; shown = shown; after = after } in record {
      told = s.told ++ t ∷ [];
      head = [];
      lines = course_push all start s.told long.state t s.lines (record { one_line = s.no_line; word_lines = e.word_lines; made = e.made });
      shown = λ a. All-push (λ t. t.shown ≡ true) s.told t (s.shown a) (e.kept a);
      no_line = no_newline-nothing;
      short = λ a. refl;
      many = λ a. absurd (false≢true a);
      seen_is = ap (λ (x : List ℕ). x ++ 10 ∷ []) s.seen_is ∙ append_assoc (flat_map input_line s.told) (s.head ++ p) (10 ∷ [])
          ∙ sym (line_more s.told t) ∙ sym (append-nil (flat_map input_line (s.told ++ t ∷ [])));
      written = subst (λ (x : List ℕ). Appends first new x)
          (append_assoc (flat_map line_and_words s.told) (rest_behind_lines all.all s.head) piece ∙ ap (λ (x : List ℕ). flat_map line_and_words s.told ++ x) e.told
          ∙ sym (told_more s.told t) ∙ sym (append-nil (flat_map line_and_words (s.told ++ t ∷ [])))
          ∙ ap (λ (x : List ℕ). flat_map line_and_words (s.told ++ t ∷ []) ++ x) (sym (rest_behind_lines-nothing all.all)))
          (Appends-more first old new (flat_map line_and_words s.told ++ rest_behind_lines all.all s.head) piece s.written more);
    }

pub stopped_line : (all : Way) (long : Stand) (after : StateData) (p seen words piece : List ℕ) (shown : Bool) (first old new : Option (List ℕ)) → (s : IsReportSoFar all p long seen first old)
    → EndsLine all long.state after s.head p words shown piece → AppendsFront old new piece → TellingWasStopped all (seen ++ 10 ∷ []) first new
stopped_line all long after p seen words piece shown first old new s e more =
    let t : ToldLine = record { text = s.head ++ p; words = words; shown = shown; after = after } in record {
      output = (flat_map line_and_words s.told ++ rest_behind_lines all.all s.head) ++ piece;
      explains = record {
        told = s.told ++ t ∷ [];
        after = after;
        rest = [];
        lines = course_push all start s.told long.state t s.lines (record { one_line = s.no_line; word_lines = e.word_lines; made = e.made });
        shown = λ a. All-push (λ t. t.shown ≡ true) s.told t (s.shown a) (e.kept a);
        no_line = no_newline-nothing;
        input_is = ap (λ (x : List ℕ). x ++ 10 ∷ []) s.seen_is ∙ append_assoc (flat_map input_line s.told) (s.head ++ p) (10 ∷ [])
            ∙ sym (line_more s.told t) ∙ sym (append-nil (flat_map input_line (s.told ++ t ∷ [])));
        output_is = append_assoc (flat_map line_and_words s.told) (rest_behind_lines all.all s.head) piece ∙ ap (λ (x : List ℕ). flat_map line_and_words s.told ++ x) e.told
            ∙ sym (told_more s.told t) ∙ sym (append-nil (flat_map line_and_words (s.told ++ t ∷ [])))
            ∙ ap (λ (x : List ℕ). flat_map line_and_words (s.told ++ t ∷ []) ++ x) (sym (rest_behind_lines-nothing all.all));
      };
      written = AppendsFront-second first old new (flat_map line_and_words s.told ++ rest_behind_lines all.all s.head) piece s.written more;
    }

-- a line that is not too long is handed on whole, with its words
pub ends_short : (all : Way) (before after : StateData) (shown : Bool) (head p words : List ℕ) → head ≡ [] → length p ≤ most_told → AreWordLines words
    → Narrates all.manner p before words after → shown ≡ (is_text_left all.manner.filter before p || all.all) → (all.all ≡ true → shown ≡ true)
    → EndsLine all before after head p words shown (cond shown ((p ++ 10 ∷ []) ++ words) [])
ends_short all before after shown head p words none few lines made left kept = record {
  word_lines = lines;
  made = inl (record {
    few = subst (λ (h : List ℕ). length (h ++ p) ≤ most_told) (sym none) few;
    narrates = subst (λ (h : List ℕ). Narrates all.manner (h ++ p) before words after) (sym none) made;
    left = subst (λ (h : List ℕ). shown ≡ (is_text_left all.manner.filter before (h ++ p) || all.all)) (sym none) left;
  });
  kept = kept;
  told = ap (λ (h : List ℕ). rest_behind_lines all.all h ++ cond shown ((p ++ 10 ∷ []) ++ words) []) none
      ∙ ap (λ (x : List ℕ). x ++ cond shown ((p ++ 10 ∷ []) ++ words) []) (rest_behind_lines-nothing all.all)
      ∙ ap (λ (h : List ℕ). line_and_words (record { text = h ++ p; words = words; shown = shown; after = after })) (sym none);
}

-- the end of one that is too long is handed on without words
long_told : (all : Bool) (state : StateData) (head p : List ℕ)
    → rest_behind_lines all head ++ rest_behind_lines all (p ++ 10 ∷ []) ≡ line_and_words (record { text = head ++ p; words = []; shown = all; after = state })
long_told true state head p = sym (append_assoc head p (10 ∷ [])) ∙ sym (append-nil ((head ++ p) ++ 10 ∷ []))
long_told false state head p = refl

pub ends_long : (all : Way) (state : StateData) (head p : List ℕ) → most_told < length (head ++ p)
    → EndsLine all state state head p [] all.all (rest_behind_lines all.all (p ++ 10 ∷ []))
ends_long all state head p enough = record {
  word_lines = no_words;
  made = inr (record { many = enough; no_words = refl; same = refl; left = refl });
  kept = λ e. e;
  told = long_told all.all state head p;
}

-- the same, of a text that is what is pending
pub ended_at : (all : Way) (long : Stand) (p seen text : List ℕ) (first old new : Option (List ℕ)) → text ≡ p → IsReportSoFar all p long seen first old
    → Appends old new (rest_behind_lines all.all text) → Ended all seen first new
ended_at all long p seen text first old new e s more = ended all long p seen first old new s (subst (λ (t : List ℕ). Appends old new (rest_behind_lines all.all t)) e more)

pub stopped_at : (all : Way) (long : Stand) (p seen text : List ℕ) (first old new : Option (List ℕ)) → text ≡ p → IsReportSoFar all p long seen first old
    → AppendsFront old new (rest_behind_lines all.all text) → TellingWasStopped all seen first new
stopped_at all long p seen text first old new e s more =
    stopped all long p seen first old new s (subst (λ (t : List ℕ). AppendsFront old new (rest_behind_lines all.all t)) e more)

pub so_far_flush_at : (all : Way) (long : Stand) (p seen text empty : List ℕ) (b : ℕ) (first old new : Option (List ℕ)) → text ≡ p → empty ≡ [] → most_told ≤ length p → b ≢ 10
    → IsReportSoFar all p long seen first old → Appends old new (rest_behind_lines all.all text) → IsReportSoFar all (empty ++ b ∷ []) (longer long) (seen ++ b ∷ []) first new
so_far_flush_at all long p seen text empty b first old new e none enough other s more =
    subst (λ (t : List ℕ). IsReportSoFar all (t ++ b ∷ []) (longer long) (seen ++ b ∷ []) first new) (sym none)
    (so_far_flush all long p seen b first old new enough other s (subst (λ (t : List ℕ). Appends old new (rest_behind_lines all.all t)) e more))

pub so_far_long_at : (all : Way) (long : Stand) (p seen text empty : List ℕ) (first old new : Option (List ℕ)) → text ≡ p → empty ≡ [] → long.long ≡ true
    → IsReportSoFar all p long seen first old → Appends old new (rest_behind_lines all.all (text ++ 10 ∷ [])) → IsReportSoFar all empty (behind long.state) (seen ++ 10 ∷ []) first new
so_far_long_at all long p seen text empty first old new e none is_long s more =
    subst (λ (t : List ℕ). IsReportSoFar all t (behind long.state) (seen ++ 10 ∷ []) first new) (sym none)
    (so_far_line all long long.state p seen [] (rest_behind_lines all.all (p ++ 10 ∷ [])) all.all first old new s (ends_long all long.state s.head p (s.many is_long))
    (subst (λ (t : List ℕ). Appends old new (rest_behind_lines all.all (t ++ 10 ∷ []))) e more))

pub stopped_long_at : (all : Way) (long : Stand) (p seen text : List ℕ) (first old new : Option (List ℕ)) → text ≡ p → long.long ≡ true → IsReportSoFar all p long seen first old
    → AppendsFront old new (rest_behind_lines all.all (text ++ 10 ∷ [])) → TellingWasStopped all (seen ++ 10 ∷ []) first new
stopped_long_at all long p seen text first old new e is_long s more =
    stopped_line all long long.state p seen [] (rest_behind_lines all.all (p ++ 10 ∷ [])) all.all first old new s (ends_long all long.state s.head p (s.many is_long))
    (subst (λ (t : List ℕ). AppendsFront old new (rest_behind_lines all.all (t ++ 10 ∷ []))) e more)

-- a short line: what was handed on
abbrev pub short_piece : Bool → List ℕ → List ℕ → List ℕ
short_piece shown text words = cond shown ((text ++ 10 ∷ []) ++ words) []

-- what is told of a short line: its words, and what it leaves
pub record IsSaid (all : Way) (before after : StateData) (p words : List ℕ) (shown : Bool) : Type 0 where
  pub few : length p ≤ most_told
  pub lines : AreWordLines words
  pub made : Narrates all.manner p before words after
  pub left : shown ≡ (is_text_left all.manner.filter before p || all.all)
  pub kept : shown ≡ false → all.all ≡ false

-- a line is no longer than the room that it stands in
pub few_said : (p p' text : List ℕ) → p' ≡ p → text ≡ p' → length text ≤ most_told → length p ≤ most_told
few_said p p' text e e' few = subst (λ (t : List ℕ). length t ≤ most_told) (e' ∙ e) few

pub so_far_short_at : (all : Way) (long : Stand) (after : StateData) (shown : Bool) (p seen text words empty : List ℕ) (first old new : Option (List ℕ)) → text ≡ p → empty ≡ []
    → long.long ≡ false → IsSaid all long.state after p words shown → IsReportSoFar all p long seen first old → Appends old new (short_piece shown text words)
    → IsReportSoFar all empty (behind after) (seen ++ 10 ∷ []) first new
so_far_short_at all long after shown p seen text words empty first old new e none short said s more =
    subst (λ (t : List ℕ). IsReportSoFar all t (behind after) (seen ++ 10 ∷ []) first new) (sym none)
    (so_far_line all long after p seen words (short_piece shown p words) shown first old new s
    (ends_short all long.state after shown s.head p words (s.short short) said.few said.lines said.made said.left (kept_shown all.all shown said.kept))
    (subst (λ (t : List ℕ). Appends old new (short_piece shown t words)) e more))

pub stopped_short_at : (all : Way) (long : Stand) (after : StateData) (shown : Bool) (p seen text words : List ℕ) (first old new : Option (List ℕ)) → text ≡ p → long.long ≡ false
    → IsSaid all long.state after p words shown → IsReportSoFar all p long seen first old → AppendsFront old new (short_piece shown text words)
    → TellingWasStopped all (seen ++ 10 ∷ []) first new
stopped_short_at all long after shown p seen text words first old new e short said s more =
    stopped_line all long after p seen words (short_piece shown p words) shown first old new s
    (ends_short all long.state after shown s.head p words (s.short short) said.few said.lines said.made said.left (kept_shown all.all shown said.kept))
    (subst (λ (t : List ℕ). AppendsFront old new (short_piece shown t words)) e more)

-- no memory for the words of a line: nothing of it was handed on, and it is not explained
pub stopped_untold : (all : Way) (long : Stand) (p seen : List ℕ) (first held : Option (List ℕ)) → IsReportSoFar all p long seen first held
    → (taken : ℕ) × TellingWasStopped all (seen ++ take taken (10 ∷ [])) first held
stopped_untold all long p seen first held s =
    (0, subst (λ (t : List ℕ). TellingWasStopped all t first held) (sym (append-nil seen)) (stopped_still all long p seen first held s))

-- bytes that have come so far, one more
pub so_far_take : (all : Way) (long : Stand) (p seen bytes : List ℕ) (i b : ℕ) (first held : Option (List ℕ)) → i < length bytes → b ≡ get_or bytes i 0
    → IsReportSoFar all p long ((seen ++ take i bytes) ++ b ∷ []) first held → IsReportSoFar all p long (seen ++ take (i + 1) bytes) first held
so_far_take all long p seen bytes i b first held within here s =
    subst (λ (t : List ℕ). IsReportSoFar all p long t first held)
    (append_assoc seen (take i bytes) (b ∷ []) ∙ ap (λ (t : List ℕ). seen ++ t) (ap (λ y. take i bytes ++ y ∷ []) here ∙ sym (take_more bytes i 0 within))) s

-- no bytes have no more
take-none : (n : ℕ) → ◌≡◌ {A = List ℕ} (take n []) []
take-none zero = refl
take-none (suc n) = refl

-- of bytes that have come so far and a part of one more, a part
pub stopped_take : (all : Way) (seen bytes : List ℕ) (i b taken : ℕ) (first held : Option (List ℕ)) → i < length bytes → b ≡ get_or bytes i 0
    → TellingWasStopped all ((seen ++ take i bytes) ++ take taken (b ∷ [])) first held → (more : ℕ) × TellingWasStopped all (seen ++ take more bytes) first held
stopped_take all seen bytes i b zero first held within here s =
    (i, subst (λ (t : List ℕ). TellingWasStopped all t first held) (append-nil (seen ++ take i bytes)) s)
stopped_take all seen bytes i b (suc taken) first held within here s = (
  i + 1,
  subst (λ (t : List ℕ). TellingWasStopped all t first held)
      (append_assoc seen (take i bytes) (b ∷ []) ∙ ap (λ (t : List ℕ). seen ++ t) (ap (λ y. take i bytes ++ y ∷ []) here ∙ sym (take_more bytes i 0 within)))
      (subst (λ (t : List ℕ). TellingWasStopped all ((seen ++ take i bytes) ++ b ∷ t) first held) (take-none taken) s),
)

-- a short line, with the teller's values behind its words
pub so_far_short_told : (all : Way) (long : Stand) (all' : Way) (long' : Stand) (after : StateData) (shown : Bool) (p p' seen text words told empty : List ℕ) (first old new : Option (List ℕ))
    → all' ≡ all → long' ≡ behind after → p' ≡ p → text ≡ p' → told ≡ words → empty ≡ [] → long.long ≡ false → IsSaid all long.state after p words shown
    → IsReportSoFar all p long seen first old → Appends old new (short_piece shown text told) → IsReportSoFar all' empty long' (seen ++ 10 ∷ []) first new
so_far_short_told all long all' long' after shown p p' seen text words told empty first old new a l e e' w none short said s more =
    subst (λ (x : Way). IsReportSoFar x empty long' (seen ++ 10 ∷ []) first new) (sym a)
    (subst (λ (x : Stand). IsReportSoFar all empty x (seen ++ 10 ∷ []) first new) (sym l)
    (so_far_short_at all long after shown p seen text words empty first old new (e' ∙ e) none short said s
    (subst (λ (t : List ℕ). Appends old new (short_piece shown text t)) w more)))

pub stopped_short_told : (all : Way) (long : Stand) (after : StateData) (shown : Bool) (p p' seen text words told : List ℕ) (first old new : Option (List ℕ)) → p' ≡ p
    → text ≡ p' → told ≡ words → long.long ≡ false → IsSaid all long.state after p words shown → IsReportSoFar all p long seen first old
    → AppendsFront old new (short_piece shown text told) → (taken : ℕ) × TellingWasStopped all (seen ++ take taken (10 ∷ [])) first new
stopped_short_told all long after shown p p' seen text words told first old new e e' w short said s more = (
  1,
  stopped_short_at all long after shown p seen text words first old new (e' ∙ e) short said s
      (subst (λ (t : List ℕ). AppendsFront old new (short_piece shown text t)) w more),
)
