use Rattle.std.proofs.Common.{Some, refl, ap, sym, ◌∙◌, rules, w32}
use mir.Val.{SFits}
use Rattle.std.proofs.Math.Facts.{to_z-of_z}
use Rattle.std.specs.Prelude.{slice_get}
use Rattle.std.specs.Vec as Vec
use Rattle.std.proofs.lemmas.List.{with_items_is}
use Rattle.c_tree.specs.declared.outcome.CValue.TheVariants.{Number}
use Rattle.c_tree.specs.Access.{ToNumber}
use Rattle.c_tree.specs.Objects as objects
use Rattle.run_bytes.proofs.RunLemmas.{opened, unknown, in-bytes, closes, stores, none-stored}
use Rattle.run_bytes.proofs.run.RunBytes.put_number.Goals as goal

pub put_number-requires-clause-inside : goal.put_number-requires-clause-inside
put_number-requires-clause-inside c =
    in-bytes c.args.self.now c.self.inside.places.items c.deref_mut.result.now c.deref_mut-in-Some.result.now c.self.inside.values.items c.args.object c.in-Some.place
    (opened c.args.self.now c.self.inside.places.items c.self.inside.places.items c.self.inside.bytes.items c.deref_mut.result.now c.self.inside.marks.items c.deref_mut-in-Some.result.now c.self.inside.values.items c.self.inside.values.items
    c.self.invariant c.self.view_is refl c.deref_mut.ensures.value c.deref_mut-in-Some.ensures.value refl)
    (c.in-Some.ensures ∙ ap (λ all. slice_get all c.args.object) c.deref.ensures.value)

pub invariant_of-self : goal.invariant_of-self
invariant_of-self c =
    let fits : SFits w32 c.args.number = search rules in
    closes (λ object. objects.put_object ToNumber c.args.offset (Number c.args.number) (Some object)) c.args.self.now c.self.inside.places.items c.in-Some.place
    c.deref_mut.result.now c.put_number.new.bytes (Vec.with_items c.self.inside.bytes c.put_number.new.bytes).items c.deref_mut-in-Some.result.now c.put_number.new.marks (Vec.with_items c.self.inside.marks c.put_number.new.marks).items c.self.inside.values.items c.self.inside.values.items c.self.inside.values.items c.put_number.result
    (opened c.args.self.now c.self.inside.places.items c.self.inside.places.items c.self.inside.bytes.items c.deref_mut.result.now c.self.inside.marks.items c.deref_mut-in-Some.result.now c.self.inside.values.items c.self.inside.values.items
    c.self.invariant c.self.view_is refl c.deref_mut.ensures.value c.deref_mut-in-Some.ensures.value refl)
    (c.put_number.ensures c.self.inside.values.items (Number c.args.number) (ap Number (sym (to_z-of_z fits))))
    (with_items_is c.self.inside.bytes c.put_number.new.bytes (c.put_number.auto.bytes ∙ c.deref_mut.ensures.len))
    (with_items_is c.self.inside.marks c.put_number.new.marks (c.put_number.auto.marks ∙ c.deref_mut-in-Some.ensures.len))
    refl

pub returns-in-Some : goal.returns-in-Some
returns-in-Some c =
    let fits : SFits w32 c.args.number = search rules in
    stores (objects.put_object ToNumber c.args.offset (Number c.args.number)) c.args.self.now c.self.inside.places.items c.args.object c.in-Some.place
    c.deref_mut.result.now c.put_number.new.bytes (Vec.with_items c.self.inside.bytes c.put_number.new.bytes).items c.deref_mut-in-Some.result.now c.put_number.new.marks (Vec.with_items c.self.inside.marks c.put_number.new.marks).items c.self.inside.values.items c.self.inside.values.items c.self.inside.values.items c.put_number.result
    (opened c.args.self.now c.self.inside.places.items c.self.inside.places.items c.self.inside.bytes.items c.deref_mut.result.now c.self.inside.marks.items c.deref_mut-in-Some.result.now c.self.inside.values.items c.self.inside.values.items
    c.self.invariant c.self.view_is refl c.deref_mut.ensures.value c.deref_mut-in-Some.ensures.value refl)
    (c.in-Some.ensures ∙ ap (λ all. slice_get all c.args.object) c.deref.ensures.value) (c.put_number.ensures c.self.inside.values.items (Number c.args.number) (ap Number (sym (to_z-of_z fits))))
    (with_items_is c.self.inside.bytes c.put_number.new.bytes (c.put_number.auto.bytes ∙ c.deref_mut.ensures.len))
    (with_items_is c.self.inside.marks c.put_number.new.marks (c.put_number.auto.marks ∙ c.deref_mut-in-Some.ensures.len))
    refl

pub returns-in-None : goal.returns-in-None
returns-in-None c =
    none-stored (objects.put_object ToNumber c.args.offset (Number c.args.number)) c.args.self.now c.args.object refl
    (unknown c.args.self.now c.self.inside.places.items c.self.inside.bytes.items c.self.inside.marks.items c.self.inside.values.items c.args.object
    (opened c.args.self.now c.self.inside.places.items c.self.inside.places.items c.self.inside.bytes.items c.self.inside.bytes.items c.self.inside.marks.items c.self.inside.marks.items c.self.inside.values.items c.self.inside.values.items
    c.self.invariant c.self.view_is refl refl refl refl)
    (c.in-None.ensures ∙ ap (λ all. slice_get all c.args.object) c.deref.ensures.value))
