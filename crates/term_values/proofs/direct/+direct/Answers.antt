use Rattle.std.proofs.Common.{◌≡◌, ◌∙◌, ap, rules, Ok, w32}
use mir.Val.{SFits}
use Rattle.std.proofs.Math.Facts.{to_z-of_z}
use Rattle.c_tree.specs.declared.outcome.CValue.TheVariants.{Number}
use Rattle.c_tree.specs.Objects as objects
use Rattle.c_tree.specs.Values as values
use Rattle.linked_terms.specs.declared.terms.LinkedTerm.TheVariants as tree
use Rattle.linked_terms.specs.LinkedTerms.{term_of}
use Rattle.term_values.proofs.DirectLaws.{between-found}
use Rattle.term_values.proofs.direct.+direct.Goals as goal

pub number_in-returns-in-Some-number_in : goal.number_in-returns-in-Some-number_in
number_in-returns-in-Some-number_in t c =
    let whole : c.args.term.now ≡ tree.Between c.in-Between.op c.get-in-Between.result.now c.get-in-Some-number_in.result.now = cc in
    let fits : SFits w32 c.in-Some-number_in.first = search rules in
    between-found c.args.run.now c.in-Between.op c.get-in-Between.result.now c.get-in-Some-number_in.result.now c.args.term.now c.between.result whole
    (c.between.ensures (values.seen c.args.run.now (term_of c.get-in-Between.result.now)).value
    (ap (λ number. Ok (objects.plain (Number number))) (to_z-of_z fits) ∙ c.in-Some-number_in.ensures))
