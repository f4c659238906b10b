-- Pieces that are handed to a sink one by one.
use Rattle.std.proofs.Common.{◌≡◌, ℕ, List, [], ◌++◌, Some, None, refl, ap, sym, ◌∙◌, append_assoc, subst, ◌+◌, take, drop}
use Rattle.std.proofs.lemmas.List.{append-nil, drop-drop, take-append-drop}
use Rattle.std.specs.declared.option.Option.{Option}
use Rattle.std.specs.Io.KnownBytes.{Appends}
use Rattle.emv_ports.specs.Growth.{AppendsFront, IsSoFar}

pub Appends-none : (known : Option (List ℕ)) → Appends known known []
Appends-none None = tt
Appends-none (Some xs) = sym (append-nil xs)

pub Appends-more : (old mid new : Option (List ℕ)) (a b : List ℕ) → Appends old mid a → Appends mid new b → Appends old new (a ++ b)
Appends-more None mid new a b p q = tt
Appends-more (Some xs) None new a b p q = absurd p
Appends-more (Some xs) (Some ys) None a b p q = absurd q
Appends-more (Some xs) (Some ys) (Some zs) a b p q = q ∙ ap (λ (t : List ℕ). t ++ b) p ∙ append_assoc xs a b

pub IsSoFar_start : (known : Option (List ℕ)) (whole : List ℕ) → IsSoFar known known whole whole
IsSoFar_start known whole = record { done = []; written = Appends-none known; splits = refl }

-- a text was appended, and of the text behind it all but a rest
pub IsSoFar_second : (old mid new : Option (List ℕ)) (first rest second : List ℕ) → Appends old mid first → IsSoFar mid new rest second → IsSoFar old new rest (first ++ second)
IsSoFar_second old mid new first rest second all so_far = record {
  done = first ++ so_far.done;
  written = Appends-more old mid new first so_far.done all so_far.written;
  splits = append_assoc first so_far.done rest ∙ ap (λ (t : List ℕ). first ++ t) so_far.splits;
}

-- what isn't appended of a text isn't either of a longer one
pub IsSoFar_first : (old new : Option (List ℕ)) (rest first second : List ℕ) → IsSoFar old new rest first → IsSoFar old new (rest ++ second) (first ++ second)
IsSoFar_first old new rest first second so_far = record {
  done = so_far.done;
  written = so_far.written;
  splits = sym (append_assoc so_far.done rest second) ∙ ap (λ (t : List ℕ). t ++ second) so_far.splits;
}

pub IsSoFar_more : (old mid new : Option (List ℕ)) (piece rest whole : List ℕ) → IsSoFar old mid (piece ++ rest) whole → Appends mid new piece → IsSoFar old new rest whole
IsSoFar_more old mid new piece rest whole so_far more = record {
  done = so_far.done ++ piece;
  written = Appends-more old mid new so_far.done piece so_far.written more;
  splits = append_assoc so_far.done piece rest ∙ so_far.splits;
}

pub IsSoFar_front : (old mid new : Option (List ℕ)) (piece rest whole : List ℕ) → IsSoFar old mid (piece ++ rest) whole → AppendsFront mid new piece → AppendsFront old new whole
IsSoFar_front old mid new piece rest whole so_far stopped = record {
  rest = stopped.rest ++ rest;
  so_far = subst (λ (t : List ℕ). IsSoFar old new (stopped.rest ++ rest) t) so_far.splits
      (IsSoFar_second old mid new so_far.done (stopped.rest ++ rest) (piece ++ rest) so_far.written
      (IsSoFar_first mid new stopped.rest piece rest stopped.so_far));
}

pub IsSoFar_end : (old new : Option (List ℕ)) (whole : List ℕ) → IsSoFar old new [] whole → Appends old new whole
IsSoFar_end old new whole so_far = let all : so_far.done ≡ whole = sym (append-nil so_far.done) ∙ so_far.splits in
    subst (λ (t : List ℕ). Appends old new t) all so_far.written

-- a sink took the next `count` bytes of a text of which it had the first `done`
pub IsSoFar-take : (old mid new : Option (List ℕ)) (text : List ℕ) (done count : ℕ) → IsSoFar old mid (drop done text) text →
    Appends mid new (take count (drop done text)) → IsSoFar old new (drop (done + count) text) text
IsSoFar-take old mid new text done count so_far more =
    let parts : take count (drop done text) ++ drop (done + count) text ≡ drop done text =
    ap (λ (t : List ℕ). take count (drop done text) ++ t) (sym (drop-drop count done text)) ∙ take-append-drop count (drop done text) in
    IsSoFar_more old mid new (take count (drop done text)) (drop (done + count) text) text
    (subst (λ (t : List ℕ). IsSoFar old mid t text) (sym parts) so_far) more

-- a front of the first of two pieces, or all of it and a front of the second, is a front of both
pub AppendsFront-first : (old new : Option (List ℕ)) (first second : List ℕ) → AppendsFront old new first → AppendsFront old new (first ++ second)
AppendsFront-first old new first second stopped = record {
  rest = stopped.rest ++ second;
  so_far = IsSoFar_first old new stopped.rest first second stopped.so_far;
}

pub AppendsFront-second : (old mid new : Option (List ℕ)) (first second : List ℕ) → Appends old mid first → AppendsFront mid new second → AppendsFront old new (first ++ second)
AppendsFront-second old mid new first second all stopped = record {
  rest = stopped.rest;
  so_far = IsSoFar_second old mid new first stopped.rest second all stopped.so_far;
}
