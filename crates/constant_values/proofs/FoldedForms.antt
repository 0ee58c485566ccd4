-- The value of each form of an expression.
use Rattle.std.specs.Prelude.{◌≡◌, ℕ, ℤ, Bool, List, [], ◌∷◌, Option, Some, None, option_map, slice_get}
use Rattle.std.specs.Option.{option_copied}
use Rattle.std.specs.Borrow.{Bor}
use Rattle.std.proofs.Common.{Result, Ok, Err, IfOk, refl, ap, sym, ◌∙◌, zero, suc}
use Rattle.f_tree.specs.Values.{Bytes, Datum, IsInt, IsLog, IsText, IsLabel}
use Rattle.f_tree.specs.Terms.{Negate, Complement}
use Rattle.f_tree.specs.Valuing.{bound_to}
use Rattle.f_tree.specs.declared.expressions.BinaryOp.{BinaryOp}
use Rattle.f_tree.specs.declared.expressions.Expr.{Expr}
use Rattle.f_tree.specs.declared.expressions.Expr as tree
use Rattle.f_tree.specs.declared.expressions.Expr.TheBlock as block
use Rattle.f_tree.specs.Folds.{fold_exprs, folds_opened}
use Rattle.name_facts.specs.declared.fact.ConstantValue.{ConstantValue}
use Rattle.name_facts.specs.GivenFacts.{datum_of}
use Rattle.constant_values.specs.Folded.{KnownNames, given, if_some, all_some, worth_of_each, prefixed_folded, applied_folded, binary_folded, layer_folded, folded}
use Rattle.constant_values.specs.Operands.{data_of, each_folded}

row-folded : (known : KnownNames) (es : List Expr) (env : List Datum) → worth_of_each env (fold_exprs (layer_folded known) (block.hidden-the_row-Expr-0 es)) ≡ each_folded known es env
unfolding folds_opened folded worth_of_each each_folded Rattle.f_tree.specs.declared.expressions.Expr.TheBlock.hidden-the_row-Expr-0
row-folded known [] env = refl
row-folded known (e ∷ es) env = ap (λ vs. folded known e env ∷ vs) (row-folded known es env)

pub folded-Int : (known : KnownNames) (z : ℤ) (env : List Datum) → folded known (tree.Int z) env ≡ Some (IsInt z)
unfolding folds_opened folded layer_folded
folded-Int known z env = refl

pub folded-Logical : (known : KnownNames) (b : Bool) (env : List Datum) → folded known (tree.Logical b) env ≡ Some (IsLog b)
unfolding folds_opened folded layer_folded
folded-Logical known b env = refl

pub folded-Text : (known : KnownNames) (cs : Bytes) (env : List Datum) → folded known (tree.Text cs) env ≡ Some (IsText cs)
unfolding folds_opened folded layer_folded
folded-Text known cs env = refl

pub folded-Name : (known : KnownNames) (x : Bytes) (env : List Datum) → folded known (tree.Name x) env ≡ known.value x
unfolding folds_opened folded layer_folded
folded-Name known x env = refl

pub folded-Apply : (known : KnownNames) (x : Bytes) (es : List Expr) (env : List Datum) → folded known (tree.Apply x es) env ≡ applied_folded (known.function x) (each_folded known es env)
unfolding folds_opened folded layer_folded Rattle.f_tree.specs.declared.expressions.Expr.TheBlock.hidden-the_row-Expr-0
folded-Apply known x es env = ap (applied_folded (known.function x)) (row-folded known es env)

pub folded-Part : (known : KnownNames) (e : Expr) (from to : Option Expr) (env : List Datum) → folded known (tree.Part e from to) env ≡ None
unfolding folds_opened folded layer_folded
folded-Part known e None None env = refl
folded-Part known e None (Some b) env = refl
folded-Part known e (Some a) None env = refl
folded-Part known e (Some a) (Some b) env = refl

pub folded-Minus : (known : KnownNames) (e : Expr) (env : List Datum) → folded known (tree.Minus e) env ≡ prefixed_folded Negate (folded known e env)
unfolding folds_opened folded layer_folded
folded-Minus known e env = refl

pub folded-Plus : (known : KnownNames) (e : Expr) (env : List Datum) → folded known (tree.Plus e) env ≡ folded known e env
unfolding folds_opened folded layer_folded
folded-Plus known e env = refl

pub folded-Not : (known : KnownNames) (e : Expr) (env : List Datum) → folded known (tree.Not e) env ≡ prefixed_folded Complement (folded known e env)
unfolding folds_opened folded layer_folded
folded-Not known e env = refl

pub folded-Paren : (known : KnownNames) (e : Expr) (env : List Datum) → folded known (tree.Paren e) env ≡ folded known e env
unfolding folds_opened folded layer_folded
folded-Paren known e env = refl

pub folded-Binary : (known : KnownNames) (o : BinaryOp) (a b : Expr) (env : List Datum) →
    folded known (tree.Binary o a b) env ≡ binary_folded o (folded known a env) (folded known b env)
unfolding folds_opened folded layer_folded
folded-Binary known o a b env = refl

pub folded-AltReturn : (known : KnownNames) (label : ℕ) (env : List Datum) → folded known (tree.AltReturn label) env ≡ Some (IsLabel label)
unfolding folds_opened folded layer_folded
folded-AltReturn known label env = refl

pub folded-Bind : (known : KnownNames) (es : List Expr) (e : Expr) (env : List Datum) →
    folded known (tree.Bind es e) env ≡ if_some (all_some (each_folded known es env)) (folded known e)
unfolding folds_opened folded layer_folded Rattle.f_tree.specs.declared.expressions.Expr.TheBlock.hidden-the_row-Expr-0
folded-Bind known es e env = ap (λ vs. if_some (all_some vs) (folded known e)) (row-folded known es env)

pub folded-Bound : (known : KnownNames) (k : ℕ) (env : List Datum) → folded known (tree.Bound k) env ≡ given (bound_to env k)
unfolding folds_opened folded layer_folded
folded-Bound known k env = refl

-- the value of an argument, by its place
pub bound-value : (values : List ConstantValue) (k : ℕ) → option_map datum_of (slice_get values k) ≡ given (bound_to (data_of values) k)
unfolding bound_to given data_of
bound-value [] k = refl
bound-value (v ∷ values) zero = refl
bound-value (v ∷ values) (suc k) = bound-value values k

pub folded-argument : (known : KnownNames) (values : List ConstantValue) (k : ℕ) → folded known (tree.Bound k) (data_of values) ≡ option_map datum_of (slice_get values k)
folded-argument known values k = folded-Bound known k (data_of values) ∙ sym (bound-value values k)

pub argument-value : {E : Type 0} (r : Result (Option ConstantValue) E) (known : KnownNames) (e : Expr) (values : List ConstantValue) (k : ℕ) (found : Option (Bor ConstantValue))
    → e ≡ tree.Bound k → option_copied found ≡ slice_get values k → IfOk r (λ copy. copy ≡ option_map (λ v. v.now) found)
    → IfOk r (λ v. option_map datum_of v ≡ folded known e (data_of values))
argument-value (Ok v) known e values k found is has copy =
    ap (option_map datum_of) (copy ∙ has) ∙ sym (folded-argument known values k) ∙ ap (λ f. folded known f (data_of values)) (sym is)
argument-value (Err x) known e values k found is has copy = copy

pub bind-value : {E : Type 0} (r : Result (Option ConstantValue) E) (known : KnownNames) (e : Expr) (es listed : List Expr) (body one : Expr) (values : Option (List ConstantValue)) (env : List Datum)
    → e ≡ tree.Bind es body → listed ≡ es → one ≡ body → option_map data_of values ≡ all_some (each_folded known listed env)
    → IfOk r (λ v. option_map datum_of v ≡ if_some (option_map data_of values) (folded known one)) → IfOk r (λ v. option_map datum_of v ≡ folded known e env)
bind-value (Ok v) known e es listed body one values env is same alike worth value =
    value ∙ ap (λ b. if_some (option_map data_of values) (folded known b)) alike
    ∙ ap (λ o. if_some o (folded known body)) (worth ∙ ap (λ xs. all_some (each_folded known xs env)) same)
    ∙ sym (folded-Bind known es body env) ∙ ap (λ f. folded known f env) (sym is)
bind-value (Err x) known e es listed body one values env is same alike worth value = value

pub ruleset folded_forms = (folded-Int, folded-Logical, folded-Text, folded-Name, folded-Apply, folded-Part, folded-Minus, folded-Plus, folded-Not, folded-Paren, folded-Binary, folded-AltReturn, folded-Bind, folded-argument)
