-- The operands of a function of the library, one after the other, and its call.
use Rattle.std.specs.Prelude.{◌≡◌, List, [], ◌∷◌, map, Option, Some, None, option_map, Result, Ok, Err, IfOk}
use Rattle.std.specs.declared.alloc.AllocError.{AllocError}
use Rattle.std.proofs.Common.{refl, sym, ap, ◌∙◌}
use Rattle.lowered_tree.specs.l_core.Pures.{NoPure, AndPure}
use Rattle.lowered_tree.specs.l_core.Pures as core
use Rattle.c_tree.specs.declared.expression.CExpr.{CExpr}
use Rattle.c_structure.specs.Expressions.{one_more}
use Rattle.c_emit.specs.LibraryFunctions.{LibraryFunction}
use Rattle.named_items.specs.declared.item.Item.{Item}
use Rattle.lowered_tree.specs.declared.pures.Pure.{Pure}
use Rattle.lowered_tree.specs.Shapes.{pure_of, pures_of}
use Rattle.lowered_tree.proofs.ShapeForms.{pures-none, pures-more}
use Rattle.item_emission.specs.NamedEmission.{Knowledge, address_expr, held_expr, held_exprs, computed_step}
use Rattle.item_emitter.specs.Operands.{passed_expr, passed_exprs, called}

passed-both : (e : Option CExpr) (es : Option (List CExpr)) → option_map (map address_expr) (one_more e es) ≡ one_more (option_map address_expr e) (option_map (map address_expr) es)
unfolding one_more
passed-both None es = refl
passed-both (Some e) None = refl
passed-both (Some e) (Some es) = refl

pub passed-none : (known : Knowledge) → passed_exprs known (pures_of []) ≡ Some []
unfolding passed_exprs held_exprs
passed-none known = ap (passed_exprs known) pures-none

passed-and : (known : Knowledge) (p : core.Pure) (ps : core.Pures) → passed_exprs known (AndPure p ps) ≡ one_more (passed_expr known p) (passed_exprs known ps)
unfolding passed_exprs passed_expr held_exprs
passed-and known p ps = passed-both (held_expr known p) (held_exprs known ps)

pub passed-more : (known : Knowledge) (p : Pure) (ps : List Pure) → passed_exprs known (pures_of (p ∷ ps)) ≡ one_more (passed_expr known (pure_of p)) (passed_exprs known (pures_of ps))
passed-more known p ps = ap (passed_exprs known) (pures-more p ps) ∙ passed-and known (pure_of p) (pures_of ps)

computed-called : (target : Option CExpr) (function : Option LibraryFunction) (es : Option (List CExpr)) → called target function (option_map (map address_expr) es) ≡ computed_step target function es
unfolding called computed_step
computed-called None function es = refl
computed-called (Some target) None es = refl
computed-called (Some target) (Some function) None = refl
computed-called (Some target) (Some function) (Some es) = refl

pub computed-made : (known : Knowledge) (target wanted : Option CExpr) (function one : Option LibraryFunction) (arguments : Option (List CExpr)) (ps : core.Pures) (r : Result (Option Item) AllocError) →
    target ≡ wanted → function ≡ one → arguments ≡ passed_exprs known ps → IfOk r (λ i. i ≡ called target function arguments) →
    IfOk r (λ i. i ≡ computed_step wanted one (held_exprs known ps))
unfolding passed_exprs
computed-made known target wanted function one arguments ps (Err e) place name passed made = made
computed-made known target wanted function one arguments ps (Ok i) place name passed made =
    made ∙ ap (λ t. called t function arguments) place ∙ ap (λ f. called wanted f arguments) name ∙ ap (called wanted one) passed
    ∙ computed-called wanted one (held_exprs known ps)
