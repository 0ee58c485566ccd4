use Rattle.std.proofs.Common.{◌≡◌, ◌+◌, ◌∷◌, false, length, drop, set, Some, ap, sym, ◌∙◌, subst, arith}
use Rattle.std.specs.Prelude.{slice_get}
use Rattle.std.specs.Vec.{with_items}
use Rattle.std.proofs.lemmas.List.{with_items_is}
use Rattle.std.proofs.lemmas.Option.{slice_get_within}
use Rattle.program_runner.specs.Stacks.{waits_in, flags_in, CanGoOn}
use Rattle.program_runner.proofs.StackLaws.{one-less, none-left, found-waits, none-found, popped}
use Rattle.program_runner.proofs.stack.CallStack.pop.Goals as goal

pub returns-in-Some-clause-stack : goal.returns-in-Some-clause-stack
returns-in-Some-clause-stack c =
    let found : slice_get c.args.self.now.room.items c.args.self.now.free ≡ Some c.in-Some.frame = sym (c.in-Some.ensures ∙ ap (λ all. slice_get all c.args.self.now.free) c.deref.ensures.value) in
    let items : (with_items c.args.self.now.room c.note.new.room).items ≡ c.note.new.room = with_items_is c.args.self.now.room c.note.new.room (c.note.ensures.size ∙ c.deref_mut.ensures.len) in
    let waits : waits_in (with_items c.args.self.now.room c.note.new.room).items ≡ waits_in c.args.self.now.room.items = ap waits_in items ∙ c.note.ensures.waits ∙ ap waits_in c.deref_mut.ensures.value in
    popped (length c.args.self.now.room.items) c.args.self.now (record { top = c.in-Some.frame.waits; room = with_items c.args.self.now.room c.note.new.room; free = c.args.self.now.free + 1 }) c.requires waits
    (ap flags_in items ∙ c.note.ensures.flags ∙ ap (λ all. set (flags_in all) c.args.self.now.top.number false) c.deref_mut.ensures.value)
    (omega (arith, slice_get_within c.args.self.now.room.items c.args.self.now.free c.in-Some.frame found))
    (one-less (waits_in c.args.self.now.room.items) c.args.self.now.free c.in-Some.frame.waits (found-waits c.args.self.now.room.items c.args.self.now.free c.in-Some.frame found)
    ∙ ap (λ all. c.in-Some.frame.waits ∷ drop (c.args.self.now.free + 1) all) (sym waits))

pub returns-in-Some-clause-popped : goal.returns-in-Some-clause-popped
returns-in-Some-clause-popped c =
    let found : slice_get c.args.self.now.room.items c.args.self.now.free ≡ Some c.in-Some.frame = sym (c.in-Some.ensures ∙ ap (λ all. slice_get all c.args.self.now.free) c.deref.ensures.value) in
    let items : (with_items c.args.self.now.room c.note.new.room).items ≡ c.note.new.room = with_items_is c.args.self.now.room c.note.new.room (c.note.ensures.size ∙ c.deref_mut.ensures.len) in
    let waits : waits_in (with_items c.args.self.now.room c.note.new.room).items ≡ waits_in c.args.self.now.room.items = ap waits_in items ∙ c.note.ensures.waits ∙ ap waits_in c.deref_mut.ensures.value in
    let goes : drop c.args.self.now.free (waits_in c.args.self.now.room.items) ≡ c.in-Some.frame.waits ∷ drop (c.args.self.now.free + 1) (waits_in c.args.self.now.room.items) =
    one-less (waits_in c.args.self.now.room.items) c.args.self.now.free c.in-Some.frame.waits (found-waits c.args.self.now.room.items c.args.self.now.free c.in-Some.frame found) in
    (goes ∙ ap (λ all. c.in-Some.frame.waits ∷ drop (c.args.self.now.free + 1) all) (sym waits), (subst CanGoOn goes c.requires.ready).0)

pub returns-in-None-clause-popped : goal.returns-in-None-clause-popped
returns-in-None-clause-popped c =
    none-left (waits_in c.args.self.now.room.items) c.args.self.now.free
    (none-found c.args.self.now.room.items c.args.self.now.free (sym (c.in-None.ensures ∙ ap (λ all. slice_get all c.args.self.now.free) c.deref.ensures.value)))
