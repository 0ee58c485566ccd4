-- The names in the bounds of a unit's arrays are names of the unit, and what is read of a bound depends on them alone.
use Rattle.std.proofs.Common.{◌≡◌, Bool, true, false, List, [], ◌∷◌, ◌++◌, map, Option, Some, None, bytes_eq, if◌then◌else◌, refl, sym, ap, subst, ◌∙◌, append_assoc}
use Rattle.f_tree.specs.declared.expressions.Expr.{Expr, Int, Logical, Text, Name, Apply', Part', Minus', Plus', Not', Paren', Binary', AltReturn, Bind', Bound, Row_of-Expr, end_of-Expr, more_of-Expr, None', Some', Held-Expr-Part-1}
use Rattle.f_tree.specs.declared.expressions.Expr.TheOpen as expr
use Rattle.f_tree.specs.declared.statements.ArrayDeclarator.{ArrayDeclarator}
use Rattle.f_tree.specs.declared.statements.Body as whole
use Rattle.f_tree.specs.declared.statements.Body.{Body, more_of-Body, IfOne'}
use Rattle.f_tree.specs.declared.statements.CommonGroup.{CommonGroup}
use Rattle.f_tree.specs.declared.statements.Declarator.{Declarator}
use Rattle.f_tree.specs.declared.statements.Dimension.{Dimension as WrittenDimension}
use Rattle.f_tree.specs.declared.statements.Stmt.{Stmt}
use Rattle.f_tree.specs.declared.statements.UpperBound.{UpperBound}
use Rattle.f_tree.specs.declared.statements.UpperBound.TheVariants as upper
use Rattle.f_tree.specs.declared.units.Unit.{Unit as WrittenUnit}
use Rattle.f_tree.specs.Folds.{fold_expr, fold_exprs, fold_held, fold_body, layer_of}
use Rattle.f_tree.specs.Setting.{IsIn, first_in, later_in}
use Rattle.f_tree.specs.Values.{Bytes}
use Rattle.f_tree.specs.Terms.{Term, Before, Negate, Complement}
use Rattle.f_tree.specs.Facts.{Attribute, Dimension}
use Rattle.f_tree.specs.Reading.{Read, read, valued_only, name_read, applied_read, binary_read, layer_read}
use Rattle.f_tree.specs.Uses.{Use, WithList, Declared, used, all_of, if_any, joined_uses, optional_uses, layer_uses, uses_of, uses_of_upper, uses_of_dimension, uses_of_length, uses_of_declarator, uses_of_array, uses_of_type, layer_uses_of_body, uses_of_body, uses_of_statements, is_among, seen_from, first_seen}
use Rattle.f_tree.specs.Attributes.{from_all, Shaped, shape_of_array, members_of, shaped_in, dimensions_among, option_list, named_dummies, lower_read, upper_read, dimension_read, arrays_of, names_of}
use Rattle.fortran_laws.proofs.SimpleAttributes.{used_is_seen}
use Rattle.name_facts.specs.declaration_rows.NameRows.{all_names, shape_in}

-- ## Among others

in-left : {A : Type 0} (x : A) (xs ys : List A) → IsIn x xs → IsIn x (xs ++ ys)
in-left x [] ys among = elim among [ ]
in-left x (y ∷ xs) ys first_in = first_in
in-left x (y ∷ xs) ys (later_in among) = later_in (in-left x xs ys among)

in-right : {A : Type 0} (x : A) (xs ys : List A) → IsIn x ys → IsIn x (xs ++ ys)
in-right x [] ys among = among
in-right x (y ∷ xs) ys among = later_in (in-right x xs ys among)

in-joined : {A : Type 0} (a : A) (xs ys : List A) (P : Type 0) → IsIn a (xs ++ ys) → (IsIn a xs → P) → (IsIn a ys → P) → P
in-joined a [] ys P among one other = other among
in-joined a (x ∷ xs) ys P first_in one other = one first_in
in-joined a (x ∷ xs) ys P (later_in among) one other = in-joined a xs ys P among (λ o. one (later_in o)) other

-- ## What is read

-- two give each name that is used the same
pub record AllSame (n m : Bytes → Attribute) (us : List Use) : Type 0 where
  pub same : (v : Use) → IsIn v us → n v.name ≡ m v.name

same-left : (n m : Bytes → Attribute) (us vs : List Use) → AllSame n m (us ++ vs) → AllSame n m us
same-left n m us vs all = record { same = λ v o. all.same v (in-left v us vs o) }

same-right : (n m : Bytes → Attribute) (us vs : List Use) → AllSame n m (us ++ vs) → AllSame n m vs
same-right n m us vs all = record { same = λ v o. all.same v (in-right v us vs o) }

same-first : (n m : Bytes → Attribute) (u : Use) (us : List Use) → AllSame n m (u ∷ us) → n u.name ≡ m u.name
same-first n m u us all = all.same u first_in

module _ (n m : Bytes → Attribute) where
  mutual
    unfolding fold_expr fold_exprs fold_held layer_uses layer_read used joined_uses optional_uses

    same-tree : (e : Expr) → AllSame n m (fold_expr layer_uses e) → fold_expr (layer_read n) e ≡ fold_expr (layer_read m) e
    same-tree (Int z) all = refl
    same-tree (Logical b) all = refl
    same-tree (Text cs) all = refl
    same-tree (Name x) all = ap (name_read x) (same-first n m _ [] all)
    same-tree (Apply' x s row) all =
        ap (applied_read x (n x)) (same-row row (same-right n m (used x WithList) (joined_uses (fold_exprs layer_uses row)) all))
        ∙ ap (λ a. applied_read x a (fold_exprs (layer_read m) row)) (same-first n m _ (joined_uses (fold_exprs layer_uses row)) all)
    same-tree (Part' s (more_of-Expr e r) from to) all =
        let before = same-left n m (fold_expr layer_uses e ++ optional_uses (fold_held layer_uses from)) (optional_uses (fold_held layer_uses to)) all in
        ap (λ r. layer_read n (expr.Part r (fold_held (layer_read n) from) (fold_held (layer_read n) to)))
        (same-tree e (same-left n m (fold_expr layer_uses e) (optional_uses (fold_held layer_uses from)) before))
        ∙ ap (λ h. layer_read n (expr.Part (fold_expr (layer_read m) e) h (fold_held (layer_read n) to)))
        (same-held from (same-right n m (fold_expr layer_uses e) (optional_uses (fold_held layer_uses from)) before))
        ∙ ap (λ h. layer_read n (expr.Part (fold_expr (layer_read m) e) (fold_held (layer_read m) from) h))
        (same-held to (same-right n m (fold_expr layer_uses e ++ optional_uses (fold_held layer_uses from)) (optional_uses (fold_held layer_uses to)) all))
    same-tree (Minus' s (more_of-Expr e r)) all = ap (λ (r : Read). valued_only (Before Negate r.value)) (same-tree e all)
    same-tree (Plus' s (more_of-Expr e r)) all = ap (λ (r : Read). valued_only r.value) (same-tree e all)
    same-tree (Not' s (more_of-Expr e r)) all = ap (λ (r : Read). valued_only (Before Complement r.value)) (same-tree e all)
    same-tree (Paren' s (more_of-Expr e r)) all = ap (λ (r : Read). record (valued_only r.value) { pieces = r.pieces }) (same-tree e all)
    same-tree (Binary' o s (more_of-Expr a r) t (more_of-Expr b q)) all =
        ap (λ r. binary_read o r (fold_expr (layer_read n) b)) (same-tree a (same-left n m (fold_expr layer_uses a) (fold_expr layer_uses b) all))
        ∙ ap (binary_read o (fold_expr (layer_read m) a)) (same-tree b (same-right n m (fold_expr layer_uses a) (fold_expr layer_uses b) all))
    same-tree (AltReturn label) all = refl
    same-tree (Bind' s row t (more_of-Expr e q)) all =
        ap (λ rs. layer_read n (expr.Bind rs (fold_expr (layer_read n) e)))
        (same-row row (same-left n m (joined_uses (fold_exprs layer_uses row)) (fold_expr layer_uses e) all))
        ∙ ap (λ r. layer_read n (expr.Bind (fold_exprs (layer_read m) row) r))
        (same-tree e (same-right n m (joined_uses (fold_exprs layer_uses row)) (fold_expr layer_uses e) all))
    same-tree (Bound k) all = refl

    same-row : {m' : _} (row : Row_of-Expr m') → AllSame n m (joined_uses (fold_exprs layer_uses row)) → fold_exprs (layer_read n) row ≡ fold_exprs (layer_read m) row
    same-row end_of-Expr all = refl
    same-row (more_of-Expr e row) all =
        ap (λ r. r ∷ fold_exprs (layer_read n) row) (same-tree e (same-left n m (fold_expr layer_uses e) (joined_uses (fold_exprs layer_uses row)) all))
        ∙ ap (λ rs. fold_expr (layer_read m) e ∷ rs) (same-row row (same-right n m (fold_expr layer_uses e) (joined_uses (fold_exprs layer_uses row)) all))

    same-held : (held : Held-Expr-Part-1) → AllSame n m (optional_uses (fold_held layer_uses held)) → fold_held (layer_read n) held ≡ fold_held (layer_read m) held
    same-held None' all = refl
    same-held (Some' p (more_of-Expr e r)) all = ap Some (same-tree e all)

lower-same : (n m : Bytes → Attribute) (lower : Option Expr) → AllSame n m (if_any uses_of lower) → lower_read n lower ≡ lower_read m lower
unfolding lower_read if_any uses_of read
lower-same n m None all = refl
lower-same n m (Some e) all = ap (λ (r : Read). r.value) (same-tree n m e all)

upper-same : (n m : Bytes → Attribute) (last : UpperBound) → AllSame n m (uses_of_upper last) → upper_read n last ≡ upper_read m last
unfolding upper_read uses_of_upper uses_of read
upper-same n m (upper.Value e) all = ap (λ (r : Read). Some r.value) (same-tree n m e all)
upper-same n m upper.Star all = refl

abbrev between : Term → Option Term → Dimension
between lower last = record { lower = lower; upper = last }

dimension-same : (n m : Bytes → Attribute) (d : WrittenDimension) → AllSame n m (uses_of_dimension d) → dimension_read n d ≡ dimension_read m d
unfolding dimension_read uses_of_dimension
dimension-same n m d all =
    ap (λ l. between l (upper_read n d.upper)) (lower-same n m d.lower (same-left n m (if_any uses_of d.lower) (uses_of_upper d.upper) all))
    ∙ ap (between (lower_read m d.lower)) (upper-same n m d.upper (same-right n m (if_any uses_of d.lower) (uses_of_upper d.upper) all))

-- dimensions are read alike where the names in their bounds are the same
pub dimensions-same : (n m : Bytes → Attribute) (ds : List WrittenDimension) → AllSame n m (all_of uses_of_dimension ds) → map (dimension_read n) ds ≡ map (dimension_read m) ds
unfolding all_of
dimensions-same n m [] all = refl
dimensions-same n m (d ∷ ds) all =
    ap (λ r. r ∷ map (dimension_read n) ds) (dimension-same n m d (same-left n m (uses_of_dimension d) (all_of uses_of_dimension ds) all))
    ∙ ap (λ rs. dimension_read m d ∷ rs) (dimensions-same n m ds (same-right n m (uses_of_dimension d) (all_of uses_of_dimension ds) all))

-- ## The names in the dimensions of arrays are used

abbrev shape-uses : Shaped → List Use
shape-uses s = all_of uses_of_dimension s.dimensions

all-both : {A : Type 0} (f : A → List Use) (xs ys : List A) → all_of f (xs ++ ys) ≡ all_of f xs ++ all_of f ys
unfolding all_of
all-both f [] ys = refl
all-both f (x ∷ xs) ys = ap (λ us. f x ++ us) (all-both f xs ys) ∙ sym (append_assoc (f x) (all_of f xs) (all_of f ys))

in-chosen : (v : Use) (b : Bool) (xs ys : List WrittenDimension) (P : Type 0) → IsIn v (all_of uses_of_dimension (if b then xs else ys)) → (IsIn v (all_of uses_of_dimension xs) → P) →
    (IsIn v (all_of uses_of_dimension ys) → P) → P
in-chosen v true xs ys P among one other = one among
in-chosen v false xs ys P among one other = other among

first-shape : (v : Use) (x name : Bytes) (dims : List WrittenDimension) (ss : List Shaped) →
    IsIn v (all_of uses_of_dimension (dimensions_among x (record { name = name; dimensions = dims } ∷ ss))) →
    (IsIn v (all_of uses_of_dimension (dimensions_among x ss)) → IsIn v (all_of shape-uses ss)) → IsIn v (all_of uses_of_dimension dims ++ all_of shape-uses ss)
unfolding dimensions_among all_of
first-shape v x name [] ss among later = later among
first-shape v x name (d ∷ ds) ss among later =
    in-chosen v (bytes_eq name x) (d ∷ ds) (dimensions_among x ss) (IsIn v (all_of uses_of_dimension (d ∷ ds) ++ all_of shape-uses ss)) among
    (λ o. in-left v (all_of uses_of_dimension (d ∷ ds)) (all_of shape-uses ss) o)
    (λ o. in-right v (all_of uses_of_dimension (d ∷ ds)) (all_of shape-uses ss) (later o))

among-shapes : (v : Use) (x : Bytes) (ss : List Shaped) → IsIn v (all_of uses_of_dimension (dimensions_among x ss)) → IsIn v (all_of shape-uses ss)
unfolding dimensions_among all_of
among-shapes v x [] among = elim among [ ]
among-shapes v x (s ∷ ss) among = first-shape v x s.name s.dimensions ss among (λ o. among-shapes v x ss o)

in-declarators : (v : Use) (ds : List Declarator) → IsIn v (all_of shape-uses (map (λ (d : Declarator). record { name = d.name; dimensions = d.dimensions }) ds)) → IsIn v (all_of uses_of_declarator ds)
unfolding all_of uses_of_declarator
in-declarators v [] among = elim among [ ]
in-declarators v (d ∷ ds) among =
    in-joined v (all_of uses_of_dimension d.dimensions) (all_of shape-uses (map (λ (d : Declarator). record { name = d.name; dimensions = d.dimensions }) ds))
    (IsIn v (uses_of_declarator d ++ all_of uses_of_declarator ds)) among
    (λ o. in-left v (uses_of_declarator d) (all_of uses_of_declarator ds)
    (in-left v (used d.name Declared ++ all_of uses_of_dimension d.dimensions) (if_any uses_of_length d.length)
    (in-right v (used d.name Declared) (all_of uses_of_dimension d.dimensions) o)))
    (λ o. in-right v (uses_of_declarator d) (all_of uses_of_declarator ds) (in-declarators v ds o))

in-arrays : (v : Use) (ds : List ArrayDeclarator) → IsIn v (all_of shape-uses (map shape_of_array ds)) → IsIn v (all_of uses_of_array ds)
unfolding all_of uses_of_array shape_of_array
in-arrays v [] among = elim among [ ]
in-arrays v (d ∷ ds) among =
    in-joined v (all_of uses_of_dimension d.dimensions) (all_of shape-uses (map shape_of_array ds)) (IsIn v (uses_of_array d ++ all_of uses_of_array ds)) among
    (λ o. in-left v (uses_of_array d) (all_of uses_of_array ds) (in-right v (used d.name Declared) (all_of uses_of_dimension d.dimensions) o))
    (λ o. in-right v (uses_of_array d) (all_of uses_of_array ds) (in-arrays v ds o))

in-groups : (v : Use) (gs : List CommonGroup) → IsIn v (all_of uses_of_array (members_of gs)) → IsIn v (all_of (λ (g : CommonGroup). all_of uses_of_array g.items) gs)
unfolding all_of members_of
in-groups v [] among = elim among [ ]
in-groups v (g ∷ gs) among =
    in-joined v (all_of uses_of_array g.items) (all_of uses_of_array (members_of gs)) (IsIn v (all_of uses_of_array g.items ++ all_of (λ (g : CommonGroup). all_of uses_of_array g.items) gs))
    (subst (IsIn v) (all-both uses_of_array g.items (members_of gs)) among)
    (λ o. in-left v (all_of uses_of_array g.items) (all_of (λ (g : CommonGroup). all_of uses_of_array g.items) gs) o)
    (λ o. in-right v (all_of uses_of_array g.items) (all_of (λ (g : CommonGroup). all_of uses_of_array g.items) gs) (in-groups v gs o))

in-statement : (v : Use) (arrays : List Bytes) (b : Body) → IsIn v (all_of shape-uses (shaped_in b)) → IsIn v (uses_of_body arrays b)
unfolding all_of shaped_in layer_of uses_of_body layer_uses_of_body fold_body
in-statement v arrays (whole.Declare type items) among = in-right v (uses_of_type type) (all_of uses_of_declarator items) (in-declarators v items among)
in-statement v arrays (whole.Dimension items) among = in-arrays v items among
in-statement v arrays (whole.Common groups) among = in-groups v groups (in-arrays v (members_of groups) among)
in-statement v arrays (IfOne' e s (more_of-Body b r)) among = elim among [ ]
in-statement v arrays _ among = elim among [ ]

in-statements : (v : Use) (arrays : List Bytes) (ss : List Stmt) → IsIn v (all_of shape-uses (from_all shaped_in ss)) → IsIn v (uses_of_statements arrays ss)
unfolding all_of from_all uses_of_statements
in-statements v arrays [] among = elim among [ ]
in-statements v arrays (s ∷ ss) among =
    in-joined v (all_of shape-uses (shaped_in s.body)) (all_of shape-uses (from_all shaped_in ss)) (IsIn v (uses_of_body arrays s.body ++ uses_of_statements arrays ss))
    (subst (IsIn v) (all-both shape-uses (shaped_in s.body) (from_all shaped_in ss)) among)
    (λ o. in-left v (uses_of_body arrays s.body) (uses_of_statements arrays ss) (in-statement v arrays s.body o))
    (λ o. in-right v (uses_of_body arrays s.body) (uses_of_statements arrays ss) (in-statements v arrays ss o))

used-named : (u : WrittenUnit) (v : Use) → IsIn v (uses_of_statements (arrays_of u) u.statements) → IsIn v.name (all_names u)
unfolding all_names names_of first_seen is_among
used-named u v among =
    let dummies = map (λ x. record { name = x; manner = Declared }) (named_dummies u.dummies) in
    in-right v.name (option_list u.name) (seen_from [] (dummies ++ uses_of_statements (arrays_of u) u.statements))
    (used_is_seen [] (dummies ++ uses_of_statements (arrays_of u) u.statements) v (in-right v dummies (uses_of_statements (arrays_of u) u.statements) among) refl)

-- a name in the bounds of an array of a unit is a name of the unit
pub shape-named : (u : WrittenUnit) (x : Bytes) (v : Use) → IsIn v (all_of uses_of_dimension (shape_in u x)) → IsIn v.name (all_names u)
unfolding shape_in
shape-named u x v among = used-named u v (in-statements v (arrays_of u) u.statements (among-shapes v x (from_all shaped_in u.statements) among))
