-- Data objects that are written one by one, by rising tag.
use Rattle.std.proofs.Common.{◌≡◌, ℕ, List, [], ◌∷◌, ◌++◌, None, map, refl, ap, sym, ◌∙◌, subst}
use Rattle.std.specs.declared.option.Option.{Option}
use Rattle.std.specs.Io.KnownBytes.{Appends}
use Rattle.emv_ports.specs.Growth.{IsSoFar, AppendsFront}
use Rattle.emv_ports.proofs.Growth.{Appends-more, IsSoFar_start, IsSoFar_more, IsSoFar_front, AppendsFront-first, AppendsFront-second}
use Rattle.env_map.specs.Entries.{Entries, entries_after}
use Rattle.emv_top.specs.Short.{AllShort}
use Rattle.emv_top.specs.Texts.{text_of_lines}
use Rattle.emv_top.proofs.Closings.{text_of_lines-one}
use Rattle.emv_top.proofs.Writing.{text_of_lines-append}
use Rattle.report_text.specs.Text.{line_text}
use Rattle.report_text.specs.declared.line.Line.TheVariants.{ReadOk}
use Rattle.txn_replay.specs.Reading.{object_line}

-- the text of these objects' lines
abbrev pub objects_text : Entries → List ℕ
objects_text entries = text_of_lines (map object_line entries)

pub all_entries : (entries : Entries) → entries_after None entries ≡ entries
all_entries [] = refl
all_entries (entry ∷ entries) = ap (λ (es : Entries). entry ∷ es) (all_entries entries)

pub objects_start : (known : Option (List ℕ)) (entries : Entries) → IsSoFar known known (objects_text (entries_after None entries)) (objects_text entries)
objects_start known entries = subst (λ (es : Entries). IsSoFar known known (objects_text es) (objects_text entries)) (sym (all_entries entries)) (IsSoFar_start known (objects_text entries))

pub all_short : (entries : Entries) → AllShort entries → AllShort (entries_after None entries)
all_short entries short = subst (λ (es : Entries). AllShort es) (sym (all_entries entries)) short

pub objects_more : (old mid new : Option (List ℕ)) (left rest : Entries) (entry : ℕ × List ℕ) (whole : List ℕ) → left ≡ entry ∷ rest →
    IsSoFar old mid (objects_text left) whole → Appends mid new (line_text (object_line entry)) → IsSoFar old new (objects_text rest) whole
objects_more old mid new left rest entry whole is so_far more =
    IsSoFar_more old mid new (line_text (object_line entry)) (objects_text rest) whole (subst (λ (es : Entries). IsSoFar old mid (objects_text es) whole) is so_far) more

pub objects_front : (old mid new : Option (List ℕ)) (left rest : Entries) (entry : ℕ × List ℕ) (whole : List ℕ) → left ≡ entry ∷ rest →
    IsSoFar old mid (objects_text left) whole → AppendsFront mid new (line_text (object_line entry)) → AppendsFront old new whole
objects_front old mid new left rest entry whole is so_far stopped =
    IsSoFar_front old mid new (line_text (object_line entry)) (objects_text rest) whole (subst (λ (es : Entries). IsSoFar old mid (objects_text es) whole) is so_far) stopped

pub rest_short : (left rest : Entries) (entry : ℕ × List ℕ) → left ≡ entry ∷ rest → AllShort left → AllShort rest
rest_short left rest entry is short = (subst (λ (es : Entries). AllShort es) is short).1

-- the objects' lines and the last one
module _ (entries given : Entries) (same : given ≡ entries) (old mid new : Option (List ℕ)) where
  both : objects_text given ++ line_text ReadOk ≡ text_of_lines (map object_line entries ++ ReadOk ∷ [])
  both =
      ap (λ (es : Entries). objects_text es ++ line_text ReadOk) same
      ∙ sym (text_of_lines-append (map object_line entries) (ReadOk ∷ []) ∙ ap (λ (t : List ℕ). objects_text entries ++ t) (text_of_lines-one ReadOk))

  pub card_front : AppendsFront old new (objects_text given) → AppendsFront old new (text_of_lines (map object_line entries ++ ReadOk ∷ []))
  card_front stopped = subst (λ (t : List ℕ). AppendsFront old new t) both (AppendsFront-first old new (objects_text given) (line_text ReadOk) stopped)

  pub card_end_front : Appends old mid (objects_text given) → AppendsFront mid new (line_text ReadOk)
      → AppendsFront old new (text_of_lines (map object_line entries ++ ReadOk ∷ []))
  card_end_front all stopped =
      subst (λ (t : List ℕ). AppendsFront old new t) both (AppendsFront-second old mid new (objects_text given) (line_text ReadOk) all stopped)

  pub card_end : Appends old mid (objects_text given) → Appends mid new (line_text ReadOk) → Appends old new (text_of_lines (map object_line entries ++ ReadOk ∷ []))
  card_end all last = subst (λ (t : List ℕ). Appends old new t) both (Appends-more old mid new (objects_text given) (line_text ReadOk) all last)
