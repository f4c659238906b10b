-- The bytes are those of the longer list.
use Rattle.std.proofs.Common.{◌≡◌, ℕ, ◌-◌, List, length, take, drop, ap, ◌∙◌, arith, length-drop}
use Rattle.std.proofs.lemmas.List.{take_rest}
use Rattle.capture_store.proofs.Entries.{state_short, longer_put, longer_state, same_list}
use Rattle.capture_store.proofs.spelled.put_longer.Goals as goal

pub append-requires-2 : goal.append-requires-2
append-requires-2 c =
    let s : List ℕ = c.args.state.now in
    let none : length c.clear.new.self.items ≡ 0 = ap (λ (xs : List ℕ). length xs) c.clear.ensures in
    let rest : length (take (length s - 2) (drop 2 s)) ≡ length s - 2 = ap (λ (xs : List ℕ). length xs) (take_rest s 2) ∙ length-drop 2 s in
    let short = state_short s c.requires.state in
    let room = c.requires.may.room in
    let len = c.append.ensures.len in omega (arith, none, rest, short, room, len)

pub append_entry-requires : goal.append_entry-requires
append_entry-requires c =
    let s : List ℕ = c.args.state.now in
    let none : length c.clear.new.self.items ≡ 0 = ap (λ (xs : List ℕ). length xs) c.clear.ensures in
    let rest : length (take (length s - 2) (drop 2 s)) ≡ length s - 2 = ap (λ (xs : List ℕ). length xs) (take_rest s 2) ∙ length-drop 2 s in
    let short = state_short s c.requires.state in
    let room = c.requires.may.room in
    let message = c.requires.may.message.short in
    let len = c.append.ensures.len in
    let more = c.append-2.ensures.len in omega (arith, none, rest, short, room, message, len, more)

pub returns-clause-state : goal.returns-clause-state
returns-clause-state c =
    let out =
    longer_put c.args.state.now c.args.message.now c.count_in.result c.clear.new.self.items c.append.new.out.items c.append-2.new.out.items c.append_entry.new.out.items
    c.requires.state c.count_in.ensures c.clear.ensures c.append.ensures.items c.append-2.ensures.items c.append_entry.ensures in
    longer_state c.args.state.now c.args.message.now c.append_entry.new.out.items c.requires.state c.requires.may.room c.requires.may.message out

pub returns-clause-list : goal.returns-clause-list
returns-clause-list c =
    let out =
    longer_put c.args.state.now c.args.message.now c.count_in.result c.clear.new.self.items c.append.new.out.items c.append-2.new.out.items c.append_entry.new.out.items
    c.requires.state c.count_in.ensures c.clear.ensures c.append.ensures.items c.append-2.ensures.items c.append_entry.ensures in
    same_list c.append_entry.new.out.items _ out
