use Rattle.std.proofs.Common.{◌≡◌, false, length, ap, sym, ◌∙◌, arith}
use Rattle.std.specs.Prelude.{get_or}
use Rattle.std.specs.Vec.{with_items}
use Rattle.std.proofs.lemmas.List.{with_items_is}
use Rattle.program_runner.specs.Stacks.{flags_in}
use Rattle.program_runner.proofs.StackLaws.{alone}
use Rattle.program_runner.proofs.stack.CallStack.new.Goals as goal

pub returns-clause-stack : goal.returns-clause-stack
returns-clause-stack c =
    let items : (with_items c.args.frames c.note_first.new.room).items ≡ c.note_first.new.room = with_items_is c.args.frames c.note_first.new.room (c.note_first.ensures.size ∙ c.deref_mut.ensures.len) in
    alone (length c.args.frames.items) (record { top = c.args.top; room = with_items c.args.frames c.note_first.new.room; free = c.len-free.result })
    (ap length items ∙ c.note_first.ensures.size ∙ ap length c.deref_mut.ensures.value) (c.len-free.ensures ∙ sym c.deref_mut.ensures.len ∙ ap length c.deref_mut.ensures.value) c.requires
    (λ other less. ap (λ all. get_or (flags_in all) other false) items ∙ c.note_first.ensures.flags other (omega (arith, less, ap length c.deref_mut.ensures.value)))
