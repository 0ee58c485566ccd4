use Rattle.std.proofs.Common.{◌≡◌, ◌-◌, true, length, set, refl, ap, ◌∙◌, arith}
use Rattle.std.specs.Vec.{with_items}
use Rattle.std.proofs.lemmas.List.{with_items_is}
use Rattle.program_runner.specs.Stacks.{waits_in, flags_in}
use Rattle.program_runner.proofs.StackLaws.{has-room, pushed}
use Rattle.program_runner.proofs.stack.CallStack.push.Goals as goal

pub overflow_sub-place : goal.overflow_sub-place
overflow_sub-place c = omega (arith, has-room (length c.args.self.now.room.items) c.args.self.now c.requires.stack)

pub returns : goal.returns
returns c =
    let items : (with_items c.args.self.now.room c.put_caller.new.room).items ≡ c.put_caller.new.room = with_items_is c.args.self.now.room c.put_caller.new.room (c.put_caller.ensures.size ∙ c.deref_mut.ensures.len) in
    pushed c.args.self.now (record { top = c.args.called; room = with_items c.args.self.now.room c.put_caller.new.room; free = c.args.self.now.free - 1 }) c.args.view c.args.called c.requires.stack refl refl
    (ap waits_in items ∙ c.put_caller.ensures.waits
    ∙ ap (λ all. set (waits_in all) (c.args.self.now.free - 1) (record { number = c.args.self.now.top.number; view = c.args.view })) c.deref_mut.ensures.value)
    (ap flags_in items ∙ c.put_caller.ensures.flags ∙ ap (λ all. set (flags_in all) c.args.called.number true) c.deref_mut.ensures.value) c.requires.ready c.requires.below c.requires.idle
