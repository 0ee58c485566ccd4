use Rattle.std.proofs.Common.{length, Some, refl, ap, sym, subst, ◌∙◌}
use Rattle.std.specs.Prelude.{slice_get, option_map}
use Rattle.c_tree.specs.Objects as objects
use Rattle.run_bytes.specs.Cells.{marked}
use Rattle.run_bytes.specs.Layout.{IsInside, object_in}
use Rattle.run_bytes.proofs.RunLemmas.{opened, known, unknown, inside}
use Rattle.run_bytes.proofs.run.RunBytes.extent.Goals as goal

-- the object stands within all bytes and all values
pub extent-requires : goal.extent-requires
extent-requires c =
    let stands = inside c.args.self.now c.self.inside.places.items c.self.inside.bytes.items c.self.inside.marks.items c.self.inside.values.items c.args.object c.in-Some.place
    (opened c.args.self.now c.self.inside.places.items c.self.inside.places.items c.self.inside.bytes.items c.self.inside.bytes.items c.self.inside.marks.items c.self.inside.marks.items c.self.inside.values.items c.self.inside.values.items
    c.self.invariant c.self.view_is refl refl refl refl)
    (c.in-Some.ensures ∙ ap (λ all. slice_get all c.args.object) c.deref.ensures.value) in
    subst (λ bytes. IsInside c.in-Some.place bytes c.deref-in-Some-2.result.now) (sym c.deref-in-Some.ensures.value)
    (subst (λ values. IsInside c.in-Some.place c.self.inside.bytes.items values) (sym c.deref-in-Some-2.ensures.value) stands)

pub returns-in-Some-clause-value : goal.returns-in-Some-clause-value
returns-in-Some-clause-value c =
    ap Some
    (c.extent.ensures.value c.self.inside.marks.items (c.self.invariant.same ∙ ap length (sym c.deref-in-Some.ensures.value))
    ∙ ap (λ bytes. objects.extent (object_in (marked bytes c.self.inside.marks.items) c.deref-in-Some-2.result.now c.in-Some.place)) c.deref-in-Some.ensures.value
    ∙ ap (λ values. objects.extent (object_in (marked c.self.inside.bytes.items c.self.inside.marks.items) values c.in-Some.place)) c.deref-in-Some-2.ensures.value)
    ∙ ap (option_map objects.extent)
    (known c.args.self.now c.self.inside.places.items c.self.inside.bytes.items c.self.inside.marks.items c.self.inside.values.items c.args.object c.in-Some.place
    (opened c.args.self.now c.self.inside.places.items c.self.inside.places.items c.self.inside.bytes.items c.self.inside.bytes.items c.self.inside.marks.items c.self.inside.marks.items c.self.inside.values.items c.self.inside.values.items
    c.self.invariant c.self.view_is refl refl refl refl)
    (c.in-Some.ensures ∙ ap (λ all. slice_get all c.args.object) c.deref.ensures.value))

pub returns-in-Some-clause-small : goal.returns-in-Some-clause-small
returns-in-Some-clause-small c = c.extent.ensures.small

pub returns-in-None-clause-value : goal.returns-in-None-clause-value
returns-in-None-clause-value c =
    ap (option_map objects.extent)
    (unknown c.args.self.now c.self.inside.places.items c.self.inside.bytes.items c.self.inside.marks.items c.self.inside.values.items c.args.object
    (opened c.args.self.now c.self.inside.places.items c.self.inside.places.items c.self.inside.bytes.items c.self.inside.bytes.items c.self.inside.marks.items c.self.inside.marks.items c.self.inside.values.items c.self.inside.values.items
    c.self.invariant c.self.view_is refl refl refl refl)
    (c.in-None.ensures ∙ ap (λ all. slice_get all c.args.object) c.deref.ensures.value))
