use Rattle.std.proofs.Common.{◌≡◌, ℕ, ◌-◌, ◌≤◌, List, ◌++◌, length, take, drop, reverse, arith, refl, sym, ap, ◌∙◌, length-drop}
use Rattle.std.proofs.lemmas.List.{take-append-drop, reverse-append, reverse-reverse, length-reverse, take_at, drop_at}
use Rattle.env_map.proofs.place.bring_to_front.Goals as goal

-- each part of what is turned round as a whole is turned round once more
turned : (bytes all front behind : List ℕ) (count : ℕ) → count ≤ length bytes → all ≡ reverse bytes
    → front ≡ take count all → behind ≡ drop count all
    → reverse front ++ reverse behind ≡ drop (length bytes - count) bytes ++ take (length bytes - count) bytes
turned bytes all front behind count within is_all is_front is_behind =
    let kept = length bytes - count in
    let first = take kept bytes in
    let last = drop kept bytes in
    let whole : reverse bytes ≡ reverse last ++ reverse first = ap reverse (sym (take-append-drop kept bytes)) ∙ reverse-append first last in
    let long : length (reverse last) ≡ count = length-reverse last ∙ omega (arith, length-drop kept bytes) in
    let is : all ≡ reverse last ++ reverse first = is_all ∙ whole in
    let one : front ≡ reverse last = is_front ∙ ap (take count) is ∙ take_at (reverse last) (reverse first) count long in
    let two : behind ≡ reverse first = is_behind ∙ ap (drop count) is ∙ drop_at (reverse last) (reverse first) count long in
    rw (one, two, reverse-reverse last, reverse-reverse first) refl

pub returns : goal.returns
returns c =
    rw (c.reverse-2.ensures.after, c.reverse-3.ensures.after)
    (turned c.args.bytes.now c.reverse.new.self _ _ c.args.count c.requires c.reverse.ensures.after
    c.split_at_mut-front.ensures.front c.split_at_mut-front.ensures.back)
