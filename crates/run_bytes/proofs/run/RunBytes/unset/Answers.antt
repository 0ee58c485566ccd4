use Rattle.std.proofs.Common.{length, refl, ap, sym, ◌∙◌, subst}
use Rattle.std.specs.Prelude.{slice_get, Ok}
use Rattle.std.specs.Vec as Vec
use Rattle.std.proofs.lemmas.List.{with_items_is}
use Rattle.run_bytes.specs.Layout.{IsWithinBytes, unset_object}
use Rattle.run_bytes.proofs.RunLemmas.{opened, unknown, in-bytes, in-values, closes, unsets, unset-unknown}
use Rattle.run_bytes.proofs.run.RunBytes.unset.Goals as goal

pub unset-requires-clause-bytes : goal.unset-requires-clause-bytes
unset-requires-clause-bytes c =
    subst (IsWithinBytes c.in-Some.place) (sym (ap length c.deref_mut.ensures.value ∙ c.self.invariant.same))
    (in-bytes c.args.self.now c.self.inside.places.items c.self.inside.bytes.items c.self.inside.marks.items c.self.inside.values.items c.args.object c.in-Some.place
    (opened c.args.self.now c.self.inside.places.items c.self.inside.places.items c.self.inside.bytes.items c.self.inside.bytes.items c.self.inside.marks.items c.self.inside.marks.items c.self.inside.values.items c.self.inside.values.items
    c.self.invariant c.self.view_is refl refl refl refl)
    (c.in-Some.ensures ∙ ap (λ all. slice_get all c.args.object) c.deref.ensures.value))

pub unset-requires-clause-values : goal.unset-requires-clause-values
unset-requires-clause-values c =
    in-values c.args.self.now c.self.inside.places.items c.self.inside.bytes.items c.deref_mut.result.now c.deref_mut-in-Some.result.now c.args.object c.in-Some.place
    (opened c.args.self.now c.self.inside.places.items c.self.inside.places.items c.self.inside.bytes.items c.self.inside.bytes.items c.self.inside.marks.items c.deref_mut.result.now c.self.inside.values.items c.deref_mut-in-Some.result.now
    c.self.invariant c.self.view_is refl refl c.deref_mut.ensures.value c.deref_mut-in-Some.ensures.value)
    (c.in-Some.ensures ∙ ap (λ all. slice_get all c.args.object) c.deref.ensures.value)

pub invariant_of-self : goal.invariant_of-self
invariant_of-self c =
    closes (λ object. Ok (unset_object object)) c.args.self.now c.self.inside.places.items c.in-Some.place
    c.self.inside.bytes.items c.self.inside.bytes.items c.self.inside.bytes.items c.deref_mut.result.now c.unset.new.marks (Vec.with_items c.self.inside.marks c.unset.new.marks).items c.deref_mut-in-Some.result.now c.unset.new.values (Vec.with_items c.self.inside.values c.unset.new.values).items (Ok tt)
    (opened c.args.self.now c.self.inside.places.items c.self.inside.places.items c.self.inside.bytes.items c.self.inside.bytes.items c.self.inside.marks.items c.deref_mut.result.now c.self.inside.values.items c.deref_mut-in-Some.result.now
    c.self.invariant c.self.view_is refl refl c.deref_mut.ensures.value c.deref_mut-in-Some.ensures.value)
    (c.unset.ensures c.self.inside.bytes.items (ap length c.deref_mut.ensures.value ∙ c.self.invariant.same))
    refl
    (with_items_is c.self.inside.marks c.unset.new.marks (c.unset.auto.marks ∙ c.deref_mut.ensures.len))
    (with_items_is c.self.inside.values c.unset.new.values (c.unset.auto.values ∙ c.deref_mut-in-Some.ensures.len))

pub returns-in-Some : goal.returns-in-Some
returns-in-Some c =
    unsets c.args.self.now c.self.inside.places.items c.args.object c.in-Some.place
    c.self.inside.bytes.items c.deref_mut.result.now c.unset.new.marks (Vec.with_items c.self.inside.marks c.unset.new.marks).items c.deref_mut-in-Some.result.now c.unset.new.values (Vec.with_items c.self.inside.values c.unset.new.values).items
    (opened c.args.self.now c.self.inside.places.items c.self.inside.places.items c.self.inside.bytes.items c.self.inside.bytes.items c.self.inside.marks.items c.deref_mut.result.now c.self.inside.values.items c.deref_mut-in-Some.result.now
    c.self.invariant c.self.view_is refl refl c.deref_mut.ensures.value c.deref_mut-in-Some.ensures.value)
    (c.in-Some.ensures ∙ ap (λ all. slice_get all c.args.object) c.deref.ensures.value)
    (c.unset.ensures c.self.inside.bytes.items (ap length c.deref_mut.ensures.value ∙ c.self.invariant.same))
    (with_items_is c.self.inside.marks c.unset.new.marks (c.unset.auto.marks ∙ c.deref_mut.ensures.len))
    (with_items_is c.self.inside.values c.unset.new.values (c.unset.auto.values ∙ c.deref_mut-in-Some.ensures.len))

pub returns-in_default : goal.returns-in_default
returns-in_default c =
    unset-unknown c.args.self.now c.args.object
    (unknown c.args.self.now c.self.inside.places.items c.self.inside.bytes.items c.self.inside.marks.items c.self.inside.values.items c.args.object
    (opened c.args.self.now c.self.inside.places.items c.self.inside.places.items c.self.inside.bytes.items c.self.inside.bytes.items c.self.inside.marks.items c.self.inside.marks.items c.self.inside.values.items c.self.inside.values.items
    c.self.invariant c.self.view_is refl refl refl refl)
    (c.in_default.ensures ∙ ap (λ all. slice_get all c.args.object) c.deref.ensures.value))
