use Rattle.std.proofs.Common.{◌≡◌, ◌+◌, ◌-◌, ℕ, take, drop, ap, ◌∙◌, arith}
use Rattle.edit_rules.specs.Writer.{value_of}
use Rattle.listed_output.specs.Kinds.{kind_shown}
use Rattle.internal_output.specs.Items.{value_in}
use Rattle.internal_output.proofs.PutLaws.{bytes-start, bytes-go_on, bytes-refused, bytes-done}
use Rattle.internal_output.proofs.puts.put_items.Goals as goal

pub loop-init : goal.loop-init
loop-init c =
    bytes-start (kind_shown c.args.list.kind) c.args.list.size c.args.list.count c.args.bytes.now c.args.making.now.writer c.args.making.now.line c.args.file.now c.args.run.now c.requires
    c.args.making.now.whole

pub loop-preserved : goal.loop-preserved
loop-preserved c =
    let size : (c.loop.done + c.args.list.size) - c.loop.done ≡ c.args.list.size = omega arith in
    bytes-go_on (kind_shown c.args.list.kind) c.args.list.size c.args.list.count c.loop.counter c.loop.done c.args.bytes.now (value_of c.item_in-value.result) c.args.making.now.writer c.args.making.now.line
    c.loop.making.writer c.loop.making.line c.put_value.new.making.writer c.put_value.new.making.line c.args.file.now c.args.run.now c.loop.file c.loop.run c.put_value.new.file c.put_value.new.run
    c.loop-test.true (c.item_in-value.ensures ∙ ap (λ (n : ℕ). value_in (kind_shown c.args.list.kind) (take n (drop c.loop.done c.args.bytes.now))) size) c.loop.invariant c.in_default.ensures

pub returns-in-Err : goal.returns-in-Err
returns-in-Err c =
    let size : (c.loop.done + c.args.list.size) - c.loop.done ≡ c.args.list.size = omega arith in
    bytes-refused (kind_shown c.args.list.kind) c.args.list.size c.args.list.count c.loop.counter c.loop.done c.args.bytes.now (value_of c.item_in-value.result) c.args.making.now.writer c.args.making.now.line
    c.loop.making.writer c.loop.making.line c.put_value.new.making.writer c.put_value.new.making.line c.args.file.now c.args.run.now c.loop.file c.loop.run c.put_value.new.file c.put_value.new.run c.in-Err.refusal
    c.loop-test.true (c.item_in-value.ensures ∙ ap (λ (n : ℕ). value_in (kind_shown c.args.list.kind) (take n (drop c.loop.done c.args.bytes.now))) size) c.loop.invariant c.in-Err.ensures

pub returns : goal.returns
returns c =
    let all : c.loop.counter ≡ c.args.list.count = omega (arith, c.loop-test.false, c.loop.auto.counter-end) in
    bytes-done (kind_shown c.args.list.kind) c.args.list.size c.args.list.count c.loop.counter c.loop.done c.args.bytes.now c.args.making.now.writer c.args.making.now.line c.loop.making.writer
    c.loop.making.line c.args.file.now c.args.run.now c.loop.file c.loop.run all c.loop.invariant
