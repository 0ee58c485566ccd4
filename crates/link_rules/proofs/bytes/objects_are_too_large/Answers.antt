use Rattle.std.proofs.Common.{sym, ap, ◌∙◌, arith}
use Rattle.c_tree.specs.Linking.{bytes_of_object}
use Rattle.linked_programs.specs.LinkedPrograms.{object_of}
use Rattle.link_rules.proofs.ByteLaws.{bytes-step, bytes-end, bytes-over}
use Rattle.link_rules.proofs.bytes.objects_are_too_large.Goals as goal

pub loop-object-preserved : goal.loop-object-preserved
loop-object-preserved c =
    c.loop-object.invariant
    ∙ bytes-step c.args.objects.now c.loop-object.object-index c.loop-object.left c.bytes_in-bytes.result c.object-item.result c.loop-object-test.true
    (c.bytes_in-bytes.ensures ∙ ap (λ z. bytes_of_object (object_of z)) c.object-item.is) c.if-bytes-left.false

pub returns-then-bytes-left : goal.returns-then-bytes-left
returns-then-bytes-left c =
    sym
    (c.loop-object.invariant
    ∙ bytes-over c.args.objects.now c.loop-object.object-index c.loop-object.left c.bytes_in-bytes.result c.object-item.result c.loop-object-test.true
    (c.bytes_in-bytes.ensures ∙ ap (λ z. bytes_of_object (object_of z)) c.object-item.is) c.if-bytes-left.true)

pub returns : goal.returns
returns c = sym (c.loop-object.invariant ∙ bytes-end c.args.objects.now c.loop-object.object-index c.loop-object.left (omega arith))
