-- What holds a value, and its type, for each form of a value.
use Rattle.std.proofs.Common.{◌≡◌, ℕ, List, Some, None, ap}
use Rattle.f_tree.specs.Values.{Bytes}
use Rattle.c_emit.specs.Types.{type_of_datum, type_behind, type_between, type_by, if_numeric}
use Rattle.lowered_tree.specs.declared.pures.Literal.{Literal}
use Rattle.lowered_tree.specs.declared.pures.Prefix.{Prefix}
use Rattle.lowered_tree.specs.declared.pures.Operator.{Operator}
use Rattle.lowered_tree.specs.declared.pures.Function.{Function}
use Rattle.lowered_tree.specs.declared.pures.Pure.{Pure}
use Rattle.lowered_tree.specs.declared.pures.Pure as tree
use Rattle.lowered_tree.specs.Shapes.{datum_of, prefix_of, operator_of, function_of, pure_of}
use Rattle.lowered_tree.proofs.ShapeForms.{pure-Constant, pure-Temporary, pure-Load, pure-Name, pure-AllOf, pure-ElementOf, pure-FirstOf, pure-Substring, pure-Concatenated, pure-Prefixed, pure-Operated, pure-Applied, pure-Chosen}
use Rattle.item_emission.specs.NamedEmission.{Knowledge, Kinds, datum_held, temporary_expr, place_expr, held_expr, type_at, type_in}

pub held-Constant : (known : Knowledge) (d : Literal) → held_expr known (pure_of (tree.Constant d)) ≡ datum_held known (datum_of d)
unfolding held_expr
held-Constant known d = ap (held_expr known) (pure-Constant d)

pub held-Temporary : (known : Knowledge) (k : ℕ) → held_expr known (pure_of (tree.Temporary k)) ≡ temporary_expr known k
unfolding held_expr
held-Temporary known k = ap (held_expr known) (pure-Temporary k)

pub held-Load : (known : Knowledge) (p : Pure) → held_expr known (pure_of (tree.Load p)) ≡ place_expr known (pure_of p)
unfolding held_expr
held-Load known p = ap (held_expr known) (pure-Load p)

pub held-Name : (known : Knowledge) (x : Bytes) → held_expr known (pure_of (tree.Name x)) ≡ None
unfolding held_expr
held-Name known x = ap (held_expr known) (pure-Name x)

pub held-AllOf : (known : Knowledge) (x : Bytes) → held_expr known (pure_of (tree.AllOf x)) ≡ None
unfolding held_expr
held-AllOf known x = ap (held_expr known) (pure-AllOf x)

pub held-ElementOf : (known : Knowledge) (x : Bytes) (ps : List Pure) → held_expr known (pure_of (tree.ElementOf x ps)) ≡ None
unfolding held_expr
held-ElementOf known x ps = ap (held_expr known) (pure-ElementOf x ps)

pub held-FirstOf : (known : Knowledge) (p : Pure) → held_expr known (pure_of (tree.FirstOf p)) ≡ None
unfolding held_expr
held-FirstOf known p = ap (held_expr known) (pure-FirstOf p)

pub held-Substring : (known : Knowledge) (x : Bytes) (p a b : Pure) → held_expr known (pure_of (tree.Substring x p a b)) ≡ None
unfolding held_expr
held-Substring known x p a b = ap (held_expr known) (pure-Substring x p a b)

pub held-Concatenated : (known : Knowledge) (ps : List Pure) → held_expr known (pure_of (tree.Concatenated ps)) ≡ None
unfolding held_expr
held-Concatenated known ps = ap (held_expr known) (pure-Concatenated ps)

pub held-Prefixed : (known : Knowledge) (sign : Prefix) (p : Pure) → held_expr known (pure_of (tree.Prefixed sign p)) ≡ None
unfolding held_expr
held-Prefixed known sign p = ap (held_expr known) (pure-Prefixed sign p)

pub held-Operated : (known : Knowledge) (sign : Operator) (p q : Pure) → held_expr known (pure_of (tree.Operated sign p q)) ≡ None
unfolding held_expr
held-Operated known sign p q = ap (held_expr known) (pure-Operated sign p q)

pub held-Applied : (known : Knowledge) (f : Function) (ps : List Pure) → held_expr known (pure_of (tree.Applied f ps)) ≡ None
unfolding held_expr
held-Applied known f ps = ap (held_expr known) (pure-Applied f ps)

pub held-Chosen : (known : Knowledge) (p a b : Pure) → held_expr known (pure_of (tree.Chosen p a b)) ≡ None
unfolding held_expr
held-Chosen known p a b = ap (held_expr known) (pure-Chosen p a b)

pub type-Constant : (known : Knowledge) (kind : Kinds) (d : Literal) → type_in known kind (pure_of (tree.Constant d)) ≡ type_of_datum (datum_of d)
unfolding type_in
type-Constant known kind d = ap (type_in known kind) (pure-Constant d)

pub type-Temporary : (known : Knowledge) (kind : Kinds) (k : ℕ) → type_in known kind (pure_of (tree.Temporary k)) ≡ kind k
unfolding type_in
type-Temporary known kind k = ap (type_in known kind) (pure-Temporary k)

pub type-Load : (known : Knowledge) (kind : Kinds) (p : Pure) → type_in known kind (pure_of (tree.Load p)) ≡ type_at known (pure_of p)
unfolding type_in
type-Load known kind p = ap (type_in known kind) (pure-Load p)

pub type-Name : (known : Knowledge) (kind : Kinds) (x : Bytes) → type_in known kind (pure_of (tree.Name x)) ≡ None
unfolding type_in
type-Name known kind x = ap (type_in known kind) (pure-Name x)

pub type-AllOf : (known : Knowledge) (kind : Kinds) (x : Bytes) → type_in known kind (pure_of (tree.AllOf x)) ≡ None
unfolding type_in
type-AllOf known kind x = ap (type_in known kind) (pure-AllOf x)

pub type-ElementOf : (known : Knowledge) (kind : Kinds) (x : Bytes) (ps : List Pure) → type_in known kind (pure_of (tree.ElementOf x ps)) ≡ None
unfolding type_in
type-ElementOf known kind x ps = ap (type_in known kind) (pure-ElementOf x ps)

pub type-FirstOf : (known : Knowledge) (kind : Kinds) (p : Pure) → type_in known kind (pure_of (tree.FirstOf p)) ≡ None
unfolding type_in
type-FirstOf known kind p = ap (type_in known kind) (pure-FirstOf p)

pub type-Substring : (known : Knowledge) (kind : Kinds) (x : Bytes) (p a b : Pure) → type_in known kind (pure_of (tree.Substring x p a b)) ≡ None
unfolding type_in
type-Substring known kind x p a b = ap (type_in known kind) (pure-Substring x p a b)

pub type-Concatenated : (known : Knowledge) (kind : Kinds) (ps : List Pure) → type_in known kind (pure_of (tree.Concatenated ps)) ≡ None
unfolding type_in
type-Concatenated known kind ps = ap (type_in known kind) (pure-Concatenated ps)

pub type-Prefixed : (known : Knowledge) (kind : Kinds) (sign : Prefix) (p : Pure) → type_in known kind (pure_of (tree.Prefixed sign p)) ≡ Some (type_behind (prefix_of sign))
unfolding type_in
type-Prefixed known kind sign p = ap (type_in known kind) (pure-Prefixed sign p)

pub type-Operated : (known : Knowledge) (kind : Kinds) (sign : Operator) (p q : Pure) → type_in known kind (pure_of (tree.Operated sign p q)) ≡ Some (type_between (operator_of sign))
unfolding type_in
type-Operated known kind sign p q = ap (type_in known kind) (pure-Operated sign p q)

pub type-Applied : (known : Knowledge) (kind : Kinds) (f : Function) (ps : List Pure) → type_in known kind (pure_of (tree.Applied f ps)) ≡ type_by (function_of f)
unfolding type_in
type-Applied known kind f ps = ap (type_in known kind) (pure-Applied f ps)

pub type-Chosen : (known : Knowledge) (kind : Kinds) (p a b : Pure) → type_in known kind (pure_of (tree.Chosen p a b)) ≡ None
unfolding type_in
type-Chosen known kind p a b = ap (type_in known kind) (pure-Chosen p a b)

pub at-Constant : (known : Knowledge) (d : Literal) → type_at known (pure_of (tree.Constant d)) ≡ None
unfolding type_at
at-Constant known d = ap (type_at known) (pure-Constant d)

pub at-Temporary : (known : Knowledge) (k : ℕ) → type_at known (pure_of (tree.Temporary k)) ≡ None
unfolding type_at
at-Temporary known k = ap (type_at known) (pure-Temporary k)

pub at-Load : (known : Knowledge) (p : Pure) → type_at known (pure_of (tree.Load p)) ≡ None
unfolding type_at
at-Load known p = ap (type_at known) (pure-Load p)

pub at-Name : (known : Knowledge) (x : Bytes) → type_at known (pure_of (tree.Name x)) ≡ if_numeric (known.basic x)
unfolding type_at
at-Name known x = ap (type_at known) (pure-Name x)

pub at-AllOf : (known : Knowledge) (x : Bytes) → type_at known (pure_of (tree.AllOf x)) ≡ None
unfolding type_at
at-AllOf known x = ap (type_at known) (pure-AllOf x)

pub at-ElementOf : (known : Knowledge) (x : Bytes) (ps : List Pure) → type_at known (pure_of (tree.ElementOf x ps)) ≡ if_numeric (known.basic x)
unfolding type_at
at-ElementOf known x ps = ap (type_at known) (pure-ElementOf x ps)

pub at-FirstOf : (known : Knowledge) (p : Pure) → type_at known (pure_of (tree.FirstOf p)) ≡ None
unfolding type_at
at-FirstOf known p = ap (type_at known) (pure-FirstOf p)

pub at-Substring : (known : Knowledge) (x : Bytes) (p a b : Pure) → type_at known (pure_of (tree.Substring x p a b)) ≡ None
unfolding type_at
at-Substring known x p a b = ap (type_at known) (pure-Substring x p a b)

pub at-Concatenated : (known : Knowledge) (ps : List Pure) → type_at known (pure_of (tree.Concatenated ps)) ≡ None
unfolding type_at
at-Concatenated known ps = ap (type_at known) (pure-Concatenated ps)

pub at-Prefixed : (known : Knowledge) (sign : Prefix) (p : Pure) → type_at known (pure_of (tree.Prefixed sign p)) ≡ None
unfolding type_at
at-Prefixed known sign p = ap (type_at known) (pure-Prefixed sign p)

pub at-Operated : (known : Knowledge) (sign : Operator) (p q : Pure) → type_at known (pure_of (tree.Operated sign p q)) ≡ None
unfolding type_at
at-Operated known sign p q = ap (type_at known) (pure-Operated sign p q)

pub at-Applied : (known : Knowledge) (f : Function) (ps : List Pure) → type_at known (pure_of (tree.Applied f ps)) ≡ None
unfolding type_at
at-Applied known f ps = ap (type_at known) (pure-Applied f ps)

pub at-Chosen : (known : Knowledge) (p a b : Pure) → type_at known (pure_of (tree.Chosen p a b)) ≡ None
unfolding type_at
at-Chosen known p a b = ap (type_at known) (pure-Chosen p a b)

pub ruleset held_forms = (held-Constant, held-Temporary, held-Load, held-Name, held-AllOf, held-ElementOf, held-FirstOf, held-Substring, held-Concatenated, held-Prefixed, held-Operated, held-Applied, held-Chosen)

pub ruleset type_forms = (type-Constant, type-Temporary, type-Load, type-Name, type-AllOf, type-ElementOf, type-FirstOf, type-Substring, type-Concatenated, type-Prefixed, type-Operated, type-Applied, type-Chosen)

pub ruleset at_forms = (at-Constant, at-Temporary, at-Load, at-Name, at-AllOf, at-ElementOf, at-FirstOf, at-Substring, at-Concatenated, at-Prefixed, at-Operated, at-Applied, at-Chosen)
