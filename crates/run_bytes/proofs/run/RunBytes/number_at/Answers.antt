use Rattle.std.proofs.Common.{refl, ap, ◌∙◌}
use Rattle.std.specs.Prelude.{slice_get}
use Rattle.c_tree.specs.Access.{ToNumber}
use Rattle.c_tree.specs.Objects as objects
use Rattle.run_bytes.proofs.RunLemmas.{opened, known, unknown, in-bytes}
use Rattle.run_bytes.proofs.run.RunBytes.number_at.Goals as goal

pub number-requires-clause-inside : goal.number-requires-clause-inside
number-requires-clause-inside c =
    in-bytes c.args.self.now c.self.inside.places.items c.deref-in-Some.result.now c.deref-in-Some-2.result.now c.self.inside.values.items c.args.object c.in-Some.place
    (opened c.args.self.now c.self.inside.places.items c.self.inside.places.items c.self.inside.bytes.items c.deref-in-Some.result.now c.self.inside.marks.items c.deref-in-Some-2.result.now c.self.inside.values.items c.self.inside.values.items
    c.self.invariant c.self.view_is refl c.deref-in-Some.ensures.value c.deref-in-Some-2.ensures.value refl)
    (c.in-Some.ensures ∙ ap (λ all. slice_get all c.args.object) c.deref.ensures.value)

pub returns-in-Some : goal.returns-in-Some
returns-in-Some c =
    c.number.ensures c.self.inside.values.items ∙ ap (λ known. objects.read_object ToNumber c.args.offset known)
    (known c.args.self.now c.self.inside.places.items c.deref-in-Some.result.now c.deref-in-Some-2.result.now c.self.inside.values.items c.args.object c.in-Some.place
    (opened c.args.self.now c.self.inside.places.items c.self.inside.places.items c.self.inside.bytes.items c.deref-in-Some.result.now c.self.inside.marks.items c.deref-in-Some-2.result.now c.self.inside.values.items c.self.inside.values.items
    c.self.invariant c.self.view_is refl c.deref-in-Some.ensures.value c.deref-in-Some-2.ensures.value refl)
    (c.in-Some.ensures ∙ ap (λ all. slice_get all c.args.object) c.deref.ensures.value))

pub returns-in-None : goal.returns-in-None
returns-in-None c =
    ap (λ known. objects.read_object ToNumber c.args.offset known)
    (unknown c.args.self.now c.self.inside.places.items c.self.inside.bytes.items c.self.inside.marks.items c.self.inside.values.items c.args.object
    (opened c.args.self.now c.self.inside.places.items c.self.inside.places.items c.self.inside.bytes.items c.self.inside.bytes.items c.self.inside.marks.items c.self.inside.marks.items c.self.inside.values.items c.self.inside.values.items
    c.self.invariant c.self.view_is refl refl refl refl)
    (c.in-None.ensures ∙ ap (λ all. slice_get all c.args.object) c.deref.ensures.value))
