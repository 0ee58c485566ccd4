use Rattle.std.proofs.Common.{Some, refl, ap, ◌∙◌}
use Rattle.std.specs.Prelude.{slice_get}
use Rattle.std.specs.Vec as Vec
use Rattle.std.proofs.lemmas.List.{with_items_is}
use Rattle.c_tree.specs.Objects as objects
use Rattle.run_bytes.specs.Accesses.{access_of}
use Rattle.run_bytes.proofs.RunLemmas.{opened, unknown, inside, closes, stores, none-stored}
use Rattle.run_bytes.proofs.run.RunBytes.write.Goals as goal

pub write-requires-clause-inside : goal.write-requires-clause-inside
write-requires-clause-inside c =
    inside c.args.self.now c.self.inside.places.items c.deref_mut.result.now c.deref_mut-in-Some.result.now c.deref_mut-in-Some-2.result.now c.args.object c.in-Some.place
    (opened c.args.self.now c.self.inside.places.items c.self.inside.places.items c.self.inside.bytes.items c.deref_mut.result.now c.self.inside.marks.items c.deref_mut-in-Some.result.now c.self.inside.values.items c.deref_mut-in-Some-2.result.now
    c.self.invariant c.self.view_is refl c.deref_mut.ensures.value c.deref_mut-in-Some.ensures.value c.deref_mut-in-Some-2.ensures.value)
    (c.in-Some.ensures ∙ ap (λ all. slice_get all c.args.object) c.deref.ensures.value)

pub invariant_of-self : goal.invariant_of-self
invariant_of-self c =
    closes (λ object. objects.put_object (access_of c.args.access) c.args.offset c.args.value (Some object)) c.args.self.now c.self.inside.places.items c.in-Some.place
    c.deref_mut.result.now c.write.new.bytes (Vec.with_items c.self.inside.bytes c.write.new.bytes).items c.deref_mut-in-Some.result.now c.write.new.marks (Vec.with_items c.self.inside.marks c.write.new.marks).items c.deref_mut-in-Some-2.result.now c.write.new.values (Vec.with_items c.self.inside.values c.write.new.values).items c.write.result
    (opened c.args.self.now c.self.inside.places.items c.self.inside.places.items c.self.inside.bytes.items c.deref_mut.result.now c.self.inside.marks.items c.deref_mut-in-Some.result.now c.self.inside.values.items c.deref_mut-in-Some-2.result.now
    c.self.invariant c.self.view_is refl c.deref_mut.ensures.value c.deref_mut-in-Some.ensures.value c.deref_mut-in-Some-2.ensures.value)
    c.write.ensures
    (with_items_is c.self.inside.bytes c.write.new.bytes (c.write.auto.bytes ∙ c.deref_mut.ensures.len))
    (with_items_is c.self.inside.marks c.write.new.marks (c.write.auto.marks ∙ c.deref_mut-in-Some.ensures.len))
    (with_items_is c.self.inside.values c.write.new.values (c.write.auto.values ∙ c.deref_mut-in-Some-2.ensures.len))

pub returns-in-Some : goal.returns-in-Some
returns-in-Some c =
    stores (objects.put_object (access_of c.args.access) c.args.offset c.args.value) c.args.self.now c.self.inside.places.items c.args.object c.in-Some.place
    c.deref_mut.result.now c.write.new.bytes (Vec.with_items c.self.inside.bytes c.write.new.bytes).items c.deref_mut-in-Some.result.now c.write.new.marks (Vec.with_items c.self.inside.marks c.write.new.marks).items c.deref_mut-in-Some-2.result.now c.write.new.values (Vec.with_items c.self.inside.values c.write.new.values).items c.write.result
    (opened c.args.self.now c.self.inside.places.items c.self.inside.places.items c.self.inside.bytes.items c.deref_mut.result.now c.self.inside.marks.items c.deref_mut-in-Some.result.now c.self.inside.values.items c.deref_mut-in-Some-2.result.now
    c.self.invariant c.self.view_is refl c.deref_mut.ensures.value c.deref_mut-in-Some.ensures.value c.deref_mut-in-Some-2.ensures.value)
    (c.in-Some.ensures ∙ ap (λ all. slice_get all c.args.object) c.deref.ensures.value) c.write.ensures
    (with_items_is c.self.inside.bytes c.write.new.bytes (c.write.auto.bytes ∙ c.deref_mut.ensures.len))
    (with_items_is c.self.inside.marks c.write.new.marks (c.write.auto.marks ∙ c.deref_mut-in-Some.ensures.len))
    (with_items_is c.self.inside.values c.write.new.values (c.write.auto.values ∙ c.deref_mut-in-Some-2.ensures.len))

pub returns-in-None : goal.returns-in-None
returns-in-None c =
    none-stored (objects.put_object (access_of c.args.access) c.args.offset c.args.value) c.args.self.now c.args.object refl
    (unknown c.args.self.now c.self.inside.places.items c.self.inside.bytes.items c.self.inside.marks.items c.self.inside.values.items c.args.object
    (opened c.args.self.now c.self.inside.places.items c.self.inside.places.items c.self.inside.bytes.items c.self.inside.bytes.items c.self.inside.marks.items c.self.inside.marks.items c.self.inside.values.items c.self.inside.values.items
    c.self.invariant c.self.view_is refl refl refl refl)
    (c.in-None.ensures ∙ ap (λ all. slice_get all c.args.object) c.deref.ensures.value))
