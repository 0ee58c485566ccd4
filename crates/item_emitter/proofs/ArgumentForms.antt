-- The actual argument that each form of a value is, and what each way of returning gives.
use Rattle.std.proofs.Common.{◌≡◌, ℕ, true, false, true≢false, List, [], ◌∷◌, pos, Some, None, refl, sym, ap, ◌∙◌}
use Rattle.std.specs.Prelude.{option_map}
use Rattle.f_tree.specs.Values.{Bytes, IsLabel}
use Rattle.c_tree.specs.declared.expression.CExpr.TheVariants as expr
use Rattle.c_structure.specs.Expressions.{one_more}
use Rattle.lowered_tree.specs.l_core.Pures as core
use Rattle.lowered_tree.specs.declared.pures.Literal.{Literal}
use Rattle.lowered_tree.specs.declared.pures.Prefix.{Prefix}
use Rattle.lowered_tree.specs.declared.pures.Operator.{Operator}
use Rattle.lowered_tree.specs.declared.pures.Function.{Function}
use Rattle.lowered_tree.specs.declared.pures.Pure.{Pure}
use Rattle.lowered_tree.specs.declared.pures.Pure as tree
use Rattle.lowered_tree.specs.Shapes.{datum_of, pure_of, pures_of, shapes_opened}
use Rattle.lowered_tree.proofs.ShapeForms.{pure-Constant, pure-Temporary, pure-Load, pure-Name, pure-AllOf, pure-ElementOf, pure-FirstOf, pure-Substring, pure-Concatenated, pure-Prefixed, pure-Operated, pure-Applied, pure-Chosen, pures-none, pures-more}
use Rattle.item_emission.specs.declared.known.Giving.TheVariants as giving
use Rattle.item_emission.specs.NamedEmission.{Knowledge, address_expr, datum_held, temporary_expr, scalar_expr, place_expr, expr_if, name_passed, argument_expr, argument_exprs, given_expr}
use Rattle.item_emitter.specs.Operands.{is_label_written, is_label}

pub argument-Constant : (known : Knowledge) (d : Literal) → argument_expr known (pure_of (tree.Constant d)) ≡ option_map address_expr (datum_held known (datum_of d))
unfolding argument_expr
argument-Constant known d = ap (argument_expr known) (pure-Constant d)

pub argument-Temporary : (known : Knowledge) (k : ℕ) → argument_expr known (pure_of (tree.Temporary k)) ≡ option_map address_expr (temporary_expr known k)
unfolding argument_expr
argument-Temporary known k = ap (argument_expr known) (pure-Temporary k)

pub argument-Load : (known : Knowledge) (p : Pure) → argument_expr known (pure_of (tree.Load p)) ≡ None
unfolding argument_expr
argument-Load known p = ap (argument_expr known) (pure-Load p)

pub argument-Name : (known : Knowledge) (x : Bytes) → argument_expr known (pure_of (tree.Name x)) ≡ name_passed known x
unfolding argument_expr
argument-Name known x = ap (argument_expr known) (pure-Name x)

pub argument-AllOf : (known : Knowledge) (x : Bytes) → argument_expr known (pure_of (tree.AllOf x)) ≡ None
unfolding argument_expr
argument-AllOf known x = ap (argument_expr known) (pure-AllOf x)

pub argument-ElementOf : (known : Knowledge) (x : Bytes) (ps : List Pure) → argument_expr known (pure_of (tree.ElementOf x ps)) ≡ option_map address_expr (place_expr known (pure_of (tree.ElementOf x ps)))
unfolding argument_expr
argument-ElementOf known x ps = ap (argument_expr known) (pure-ElementOf x ps) ∙ ap (λ p. option_map address_expr (place_expr known p)) (sym (pure-ElementOf x ps))

pub argument-FirstOf : (known : Knowledge) (p : Pure) → argument_expr known (pure_of (tree.FirstOf p)) ≡ None
unfolding argument_expr
argument-FirstOf known p = ap (argument_expr known) (pure-FirstOf p)

pub argument-Substring : (known : Knowledge) (x : Bytes) (p : Pure) (a : Pure) (b : Pure) → argument_expr known (pure_of (tree.Substring x p a b)) ≡ None
unfolding argument_expr
argument-Substring known x p a b = ap (argument_expr known) (pure-Substring x p a b)

pub argument-Concatenated : (known : Knowledge) (ps : List Pure) → argument_expr known (pure_of (tree.Concatenated ps)) ≡ None
unfolding argument_expr
argument-Concatenated known ps = ap (argument_expr known) (pure-Concatenated ps)

pub argument-Prefixed : (known : Knowledge) (sign : Prefix) (p : Pure) → argument_expr known (pure_of (tree.Prefixed sign p)) ≡ None
unfolding argument_expr
argument-Prefixed known sign p = ap (argument_expr known) (pure-Prefixed sign p)

pub argument-Operated : (known : Knowledge) (sign : Operator) (p : Pure) (q : Pure) → argument_expr known (pure_of (tree.Operated sign p q)) ≡ None
unfolding argument_expr
argument-Operated known sign p q = ap (argument_expr known) (pure-Operated sign p q)

pub argument-Applied : (known : Knowledge) (f : Function) (ps : List Pure) → argument_expr known (pure_of (tree.Applied f ps)) ≡ None
unfolding argument_expr
argument-Applied known f ps = ap (argument_expr known) (pure-Applied f ps)

pub argument-Chosen : (known : Knowledge) (p : Pure) (a : Pure) (b : Pure) → argument_expr known (pure_of (tree.Chosen p a b)) ≡ None
unfolding argument_expr
argument-Chosen known p a b = ap (argument_expr known) (pure-Chosen p a b)

pub arguments-none : (known : Knowledge) → argument_exprs known (pures_of []) ≡ Some []
unfolding argument_exprs
arguments-none known = ap (argument_exprs known) pures-none

-- ## Labels

pub label-Constant : (d : Literal) → is_label (pure_of (tree.Constant d)) ≡ is_label_written (datum_of d)
unfolding shapes_opened is_label
label-Constant d = refl

pub label-other : (p : Pure) → ((d : Literal) → p ≡ tree.Constant d → ⊥) → false ≡ is_label (pure_of p)
unfolding shapes_opened is_label
label-other (tree.Constant d) other = absurd (other d refl)
label-other (tree.Load' s (tree.more_of-Pure p r)) other = refl
label-other (tree.FirstOf' s (tree.more_of-Pure p r)) other = refl
label-other (tree.Substring' x s (tree.more_of-Pure p r) t (tree.more_of-Pure a q) u (tree.more_of-Pure b o)) other = refl
label-other (tree.Prefixed' op s (tree.more_of-Pure p r)) other = refl
label-other (tree.Operated' op s (tree.more_of-Pure p r) t (tree.more_of-Pure q o)) other = refl
label-other (tree.Chosen' s (tree.more_of-Pure p r) t (tree.more_of-Pure a q) u (tree.more_of-Pure b o)) other = refl
label-other _ other = refl

passed-label : (known : Knowledge) (p : core.Pure) (ps : core.Pures) → is_label p ≡ true → argument_exprs known (core.AndPure p ps) ≡ argument_exprs known ps
unfolding argument_exprs is_label_written is_label
passed-label known (core.Constant (IsLabel label)) ps is = refl
passed-label known (core.Constant d) ps is = absurd (true≢false (sym is))
passed-label known p ps is = absurd (true≢false (sym is))

passed-other : (known : Knowledge) (p : core.Pure) (ps : core.Pures) → is_label p ≡ false → argument_exprs known (core.AndPure p ps) ≡ one_more (argument_expr known p) (argument_exprs known ps)
unfolding argument_exprs is_label_written is_label
passed-other known (core.Constant (IsLabel label)) ps other = absurd (true≢false other)
passed-other known (core.Constant d) ps other = refl
passed-other known p ps other = refl

pub arguments-label : (known : Knowledge) (p : Pure) (ps : List Pure) → is_label (pure_of p) ≡ true → argument_exprs known (pures_of (p ∷ ps)) ≡ argument_exprs known (pures_of ps)
arguments-label known p ps is = ap (argument_exprs known) (pures-more p ps) ∙ passed-label known (pure_of p) (pures_of ps) is

pub arguments-more : (known : Knowledge) (p : Pure) (ps : List Pure) → is_label (pure_of p) ≡ false
    → argument_exprs known (pures_of (p ∷ ps)) ≡ one_more (argument_expr known (pure_of p)) (argument_exprs known (pures_of ps))
arguments-more known p ps other = ap (argument_exprs known) (pures-more p ps) ∙ passed-other known (pure_of p) (pures_of ps) other

-- ## What is given

pub given-Zero : (known : Knowledge) → given_expr known giving.Zero ≡ Some (expr.Number (pos 0))
unfolding given_expr
given-Zero known = refl

pub given-Alternate : (known : Knowledge) → given_expr known giving.Alternate ≡ Some (expr.Number (pos 0))
unfolding given_expr
given-Alternate known = refl

pub given-Value : (known : Knowledge) (x : Bytes) → given_expr known (giving.Value x) ≡ expr_if (known.is_scalar x) (Some (scalar_expr (known.standing x) x))
unfolding given_expr place_expr
given-Value known x = refl

pub given-Nothing : (known : Knowledge) → given_expr known giving.Nothing ≡ None
unfolding given_expr
given-Nothing known = refl

pub ruleset argument_forms = (argument-Constant, argument-Temporary, argument-Load, argument-Name, argument-AllOf, argument-ElementOf, argument-FirstOf, argument-Substring, argument-Concatenated, argument-Prefixed, argument-Operated, argument-Applied, argument-Chosen)

pub ruleset label_forms = (label-Constant, label-other)

pub ruleset given_forms = (given-Zero, given-Alternate, given-Value, given-Nothing)
