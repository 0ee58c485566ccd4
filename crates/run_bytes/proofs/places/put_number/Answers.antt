use Rattle.std.proofs.Common.{◌-◌, ◌+◌, Some, ap, sym, ◌∙◌, arith, rules, w32, to_z, of_z}
use mir.Val.{SFits}
use Rattle.std.proofs.Math.Facts.{to_z-of_z}
use Rattle.c_tree.specs.declared.outcome.CValue.TheVariants.{Number}
use Rattle.c_tree.specs.Access.{ToNumber}
use Rattle.c_tree.specs.Objects.{Bytes, with_number, put_object}
use Rattle.run_bytes.proofs.PlaceLemmas.{written-bytes, inside-bytes}
use Rattle.run_bytes.proofs.places.put_number.Goals as goal

pub returns-in-Bytes : goal.returns-in-Bytes
returns-in-Bytes c values value is =
    let fits : SFits w32 c.args.number = search rules in
    written-bytes c.args.place (λ object. put_object ToNumber c.args.offset value (Some object)) (with_number c.args.offset (to_z w32 (of_z w32 c.args.number)))
    (λ cells. ap (λ value. put_object ToNumber c.args.offset value (Some (Bytes cells))) (is ∙ ap Number (sym (to_z-of_z fits))))
    c.in-Bytes.from c.in-Bytes.len (c.in-Bytes.from + c.in-Bytes.len - c.in-Bytes.from)
    c.args.bytes.now c.put_number.new.bytes c.args.marks.now c.put_number.new.marks values c.put_number.result c.in-Bytes.is (omega arith) c.requires.same
    (inside-bytes c.args.place c.in-Bytes.from c.in-Bytes.len c.args.bytes.now values c.in-Bytes.is c.requires.inside)
    c.put_number.auto.bytes c.put_number.auto.marks c.put_number.ensures
