use Rattle.std.proofs.Common.{◌-◌, ◌+◌, Some, refl, ap, sym, ◌∙◌, arith, if◌then◌else◌}
use Rattle.c_tree.specs.declared.outcome.CFault.TheVariants.{Kind}
use Rattle.c_tree.specs.Faults.{failing}
use Rattle.c_tree.specs.Objects as objects
use Rattle.run_bytes.specs.Accesses.{access_of}
use Rattle.run_bytes.proofs.PlaceLemmas.{written-bytes, written-value}
use Rattle.run_bytes.proofs.places.write.Goals as goal

pub returns-in-Bytes : goal.returns-in-Bytes
returns-in-Bytes c =
    written-bytes c.args.place (λ object. objects.put_object (access_of c.args.access) c.args.offset c.args.value (Some object))
    (objects.put_bytes (access_of c.args.access) c.args.offset c.args.value) (λ cells. refl) c.in-Bytes.from c.in-Bytes.len (c.in-Bytes.from + c.in-Bytes.len - c.in-Bytes.from)
    c.args.bytes.now c.write_bytes.new.bytes c.args.marks.now c.write_bytes.new.marks c.args.values.now c.write_bytes.result c.in-Bytes.is (omega arith) c.requires.same c.requires.inside
    c.write_bytes.auto.bytes c.write_bytes.auto.marks c.write_bytes.ensures

pub returns-then-holds : goal.returns-then-holds
returns-then-holds c =
    written-value c.args.place (λ object. objects.put_object (access_of c.args.access) c.args.offset c.args.value (Some object)) c.in-Values.holds
    c.in-Values.from c.in-Values.len (c.in-Values.from + c.in-Values.len - c.in-Values.from) c.args.offset c.args.value
    c.args.bytes.now c.args.marks.now c.args.values.now c.write_value.new.values c.write_value.result
    (λ held same. ap (λ type. if objects.holds type (access_of c.args.access) then objects.with_value c.args.offset c.args.value held else failing Kind) same
    ∙ ap (λ test. if test then objects.with_value c.args.offset c.args.value held else failing Kind) (sym (c.if-holds.ensures)))
    c.in-Values.is (omega arith) c.requires.inside c.write_value.auto.values c.write_value.ensures.ok c.write_value.ensures.outside
