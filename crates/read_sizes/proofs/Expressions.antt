-- What is read of an expression has at most four nodes for each of its own.
use Rattle.std.specs.Prelude.{◌≡◌, ℕ, pos, suc, ◌+◌, ◌*◌, ◌≤◌, true, ◌&&◌, List, [], ◌∷◌, ◌++◌, map, Option, Some, None}
use Rattle.std.proofs.Common.{arith}
use Rattle.std.proofs.lemmas.Bool.{and_parts}
use Rattle.tree_nodes.specs.f_tree.declared.names.Class.{Class}
use Rattle.tree_nodes.specs.f_tree.declared.names.Class.TheVariants as class
use Rattle.tree_nodes.specs.f_tree.declared.expressions.BinaryOp.{BinaryOp}
use Rattle.tree_nodes.specs.f_tree.declared.expressions.BinaryOp.TheVariants as op
use Rattle.tree_nodes.specs.f_tree.declared.expressions.Expr.{Expr, Int, Logical, Text, Name, Apply', Part', Minus', Plus', Not', Paren', Binary', AltReturn, Bind', Bound, Row_of-Expr, end_of-Expr, more_of-Expr, None', Some', Held-Expr-Part-1}
use Rattle.tree_nodes.specs.f_tree.declared.expressions.Expr.TheOpen as expr
use Rattle.tree_nodes.specs.f_tree.Folds.{fold_expr, fold_exprs, fold_held}
use Rattle.tree_nodes.specs.f_tree.Values.{Bytes, Datum, IsInt, Nothing}
use Rattle.tree_nodes.specs.f_tree.Facts.{Attribute}
use Rattle.tree_nodes.specs.f_tree.Terms.{Term, Function, TextLength, terms, terms_opened}
use Rattle.tree_nodes.specs.f_tree.Attributes.{option_list}
use Rattle.tree_nodes.specs.f_tree.Reading.{Read, read, valued_only, placed, function_named, pieces_asked, operands_of, name_read, function_read, intrinsic_read, applied_read, end_read, binary_read, layer_read, reading_opened}
use Rattle.tree_nodes.specs.f_tree.Lines.{Naming}
use Rattle.tree_nodes.specs.declaration_rows.ExpansionRows.{Sized, Nodes, total, node_over, nodes_of_function, expanded_by, layer_nodes, nodes_of}
use Rattle.tree_nodes.specs.TreeNodes.{expression_nodes}
use Rattle.lowered_sizes.specs.ReadNodes.{term_nodes, terms_nodes}
use Rattle.read_sizes.specs.ReadUnits.{is_other_class, all_lack, if_written, layer_lacks, value_lacks}

-- its value, it as an actual argument, and its pieces, given so many nodes
pub record Fits (n : ℕ) (r : Read) : Type 0 where
  pub value : term_nodes r.value ≤ 4 * n
  pub actual : term_nodes r.actual ≤ 4 * n
  pub pieces : terms_nodes (terms r.pieces) ≤ 4 * n

data AllFit : List Nodes → List Read → Type 0 where
  none_fit : AllFit [] []
  more_fit : {n : Nodes} {r : Read} {ns : List Nodes} {rs : List Read} → Fits n.count r → AllFit ns rs → AllFit (n ∷ ns) (r ∷ rs)

-- ## Lists

values_fit : (ns : List Nodes) (rs : List Read) → AllFit ns rs → terms_nodes (terms (map (λ (r : Read). r.value) rs)) ≤ 4 * total ns
unfolding terms_opened terms_nodes total
values_fit _ _ none_fit = omega arith
values_fit _ _ (more_fit {n} {r} {ns} {rs} one all) = let h = one.value in let more = values_fit ns rs all in omega (arith, h, more)

actuals_fit : (ns : List Nodes) (rs : List Read) → AllFit ns rs → terms_nodes (terms (map (λ (r : Read). r.actual) rs)) ≤ 4 * total ns
unfolding terms_opened terms_nodes total
actuals_fit _ _ none_fit = omega arith
actuals_fit _ _ (more_fit {n} {r} {ns} {rs} one all) = let h = one.actual in let more = actuals_fit ns rs all in omega (arith, h, more)

pieces_fit : (ns : List Nodes) (rs : List Read) → AllFit ns rs → terms_nodes (terms (pieces_asked rs)) ≤ 4 * total ns
unfolding terms_opened terms_nodes pieces_asked total
pieces_fit _ _ none_fit = omega arith
pieces_fit _ _ (more_fit {n} {r} one none_fit) = let h = one.pieces in omega (arith, h)
pieces_fit _ _ (more_fit one (more_fit other all)) = omega arith

pub joined_nodes : (ts us : List Term) → terms_nodes (terms (ts ++ us)) ≡ terms_nodes (terms ts) + terms_nodes (terms us)
unfolding terms_opened terms_nodes
joined_nodes [] us = omega arith
joined_nodes (t ∷ ts) us = let more = joined_nodes ts us in omega (arith, more)

-- ## Forms

valued_fits : (t : Term) (n : ℕ) → term_nodes t ≤ 4 * n → Fits n (valued_only t)
unfolding valued_only terms_opened terms_nodes
valued_fits t n h = record { value = h; actual = h; pieces = (let e : term_nodes t + 0 ≤ 4 * n = omega (arith, h) in e) }

-- a name, whatever it is but a statement function
named_fits : (x : Bytes) (a : Attribute) (c : Class) (d : Option Datum) → is_other_class c ≡ true → Fits 1 (name_read x (record a { class = c; constant = d }))
unfolding reading_opened terms_opened term_nodes terms_nodes is_other_class
named_fits x a class.Constant None h = record { value = omega arith; actual = omega arith; pieces = omega arith }
named_fits x a class.Constant (Some d) h = record { value = omega arith; actual = omega arith; pieces = omega arith }
named_fits x a class.StatementFunction d h = absurd (cc)
named_fits x a class.Stored d h = record { value = omega arith; actual = omega arith; pieces = omega arith }
named_fits x a class.Dummy d h = record { value = omega arith; actual = omega arith; pieces = omega arith }
named_fits x a class.Result d h = record { value = omega arith; actual = omega arith; pieces = omega arith }
named_fits x a class.Procedure d h = record { value = omega arith; actual = omega arith; pieces = omega arith }
named_fits x a class.DummyProcedure d h = record { value = omega arith; actual = omega arith; pieces = omega arith }
named_fits x a class.Intrinsic d h = record { value = omega arith; actual = omega arith; pieces = omega arith }
named_fits x a class.Unit d h = record { value = omega arith; actual = omega arith; pieces = omega arith }

operands_fit : (f : Function) (ns : List Nodes) (rs : List Read) → AllFit ns rs → terms_nodes (terms (operands_of f rs)) ≤ 4 * total ns
unfolding operands_of
operands_fit TextLength ns rs all = pieces_fit ns rs all
operands_fit f ns rs all = values_fit ns rs all

function_fits : (x : Bytes) (a : Attribute) (ns : List Nodes) (rs : List Read) → AllFit ns rs → Fits (suc (total ns)) (function_read x a rs)
unfolding function_read term_nodes
function_fits x a ns rs all = valued_fits _ (suc (total ns)) (let h = actuals_fit ns rs all in omega (arith, h))

intrinsic_fits : (x : Bytes) (a : Attribute) (ns : List Nodes) (rs : List Read) (f : Option Function) → AllFit ns rs → Fits (suc (total ns)) (intrinsic_read x a rs f)
unfolding intrinsic_read term_nodes
intrinsic_fits x a ns rs None all = function_fits x a ns rs all
intrinsic_fits x a ns rs (Some f) all = valued_fits _ (suc (total ns)) (let h = operands_fit f ns rs all in omega (arith, h))

element_fits : (x : Bytes) (a : Attribute) (ns : List Nodes) (rs : List Read) → AllFit ns rs → Fits (suc (total ns)) (applied_read x (record a { class = class.Stored }) rs)
unfolding applied_read placed terms_opened term_nodes terms_nodes
element_fits x a ns rs all =
    let h = values_fit ns rs all in
    record {
      value = omega (arith, h);
      actual = omega (arith, h);
      pieces = omega (arith, h);
    }

applied_fits : (x : Bytes) (a : Attribute) (c : Class) (ns : List Nodes) (rs : List Read) → is_other_class c ≡ true → AllFit ns rs → Fits (suc (total ns)) (applied_read x (record a { class = c }) rs)
unfolding applied_read placed is_other_class
applied_fits x a class.Intrinsic ns rs h all = intrinsic_fits x (record a { class = class.Intrinsic }) ns rs (function_named x) all
applied_fits x a class.StatementFunction ns rs h all = absurd (cc)
applied_fits x a class.Procedure ns rs h all = function_fits x (record a { class = class.Procedure }) ns rs all
applied_fits x a class.DummyProcedure ns rs h all = function_fits x (record a { class = class.DummyProcedure }) ns rs all
applied_fits x a class.Result ns rs h all = function_fits x (record a { class = class.Result }) ns rs all
applied_fits x a class.Constant ns rs h all = element_fits x a ns rs all
applied_fits x a class.Stored ns rs h all = element_fits x a ns rs all
applied_fits x a class.Dummy ns rs h all = element_fits x a ns rs all
applied_fits x a class.Unit ns rs h all = element_fits x a ns rs all

-- what an expansion adds
expanded_fits : (found : Option ℕ) (n : Nodes) (r : Read) → Fits n.count r → Fits (expanded_by found n).count r
unfolding expanded_by
expanded_fits None n r one = one
expanded_fits (Some nodes) n r one =
    let value = one.value in
    let actual = one.actual in
    let pieces = one.pieces in
    record { value = omega (arith, value); actual = omega (arith, actual); pieces = omega (arith, pieces) }

binary_fits : (o : BinaryOp) (m n : ℕ) (r s : Read) → Fits m r → Fits n s → Fits (suc (m + (n + 0))) (binary_read o r s)
unfolding reading_opened terms_opened term_nodes terms_nodes
binary_fits op.Concatenate m n r s one other =
    let h = one.pieces in
    let g = other.pieces in
    let both = joined_nodes r.pieces s.pieces in
    record { value = omega (arith, h, g, both); actual = omega (arith, h, g, both); pieces = omega (arith, h, g, both) }
binary_fits o m n r s one other =
    let h = one.value in
    let g = other.value in
    record { value = omega (arith, h, g); actual = omega (arith, h, g); pieces = omega (arith, h, g) }

total_both : (ms ns : List Nodes) → total (ms ++ ns) ≡ total ms + total ns
unfolding total
total_both [] ns = omega arith
total_both (m ∷ ms) ns = let more = total_both ms ns in omega (arith, more)

-- a part of a text, and where it begins and ends
part_fits : (names : Naming) (n : Nodes) (from to : Option Nodes) (r : Read) (first last : Option Read) → Fits n.count r → ((d : Datum) → term_nodes (end_read first d) ≤ suc (4 * total (option_list from)))
    → ((d : Datum) → term_nodes (end_read last d) ≤ suc (4 * total (option_list to))) → Fits (node_over (n ∷ option_list from ++ option_list to)).count (layer_read names (expr.Part r first last))
unfolding layer_read node_over total placed terms_opened term_nodes terms_nodes
part_fits names n from to r first last one begins ends =
    let h = one.actual in
    let f = begins (IsInt (pos 1)) in
    let t = ends Nothing in
    let both = total_both (n ∷ option_list from) (option_list to) in
    record { value = omega (arith, h, f, t, both); actual = omega (arith, h, f, t, both); pieces = omega (arith, h, f, t, both) }

-- ## Trees

module _ (names : Naming) (functions : List Sized) where
  mutual
    unfolding fold_expr fold_exprs fold_held layer_read layer_nodes layer_lacks node_over total option_list valued_only placed terms_opened term_nodes terms_nodes all_lack if_written end_read

    tree_fits : (e : Expr) → fold_expr (layer_lacks names) e ≡ true → Fits (fold_expr (layer_nodes functions) e).count (fold_expr (layer_read names) e)
    tree_fits (Int z) h = record { value = omega arith; actual = omega arith; pieces = omega arith }
    tree_fits (Logical b) h = record { value = omega arith; actual = omega arith; pieces = omega arith }
    tree_fits (Text cs) h = record { value = omega arith; actual = omega arith; pieces = omega arith }
    tree_fits (Name x) h = named_fits x (names x) (names x).class (names x).constant h
    tree_fits (Apply' x s row) h =
        let parts = and_parts (is_other_class (names x).class) (all_lack (fold_exprs (layer_lacks names) row)) h in
        expanded_fits (nodes_of_function x functions) (node_over (fold_exprs (layer_nodes functions) row)) (applied_read x (names x) (fold_exprs (layer_read names) row))
        (applied_fits x (names x) (names x).class (fold_exprs (layer_nodes functions) row) (fold_exprs (layer_read names) row) parts.0 (row_fits row parts.1))
    tree_fits (Part' s (more_of-Expr e r) from to) h =
        let parts = and_parts (fold_expr (layer_lacks names) e) (if_written (fold_held (layer_lacks names) from) && if_written (fold_held (layer_lacks names) to)) h in
        let ends = and_parts (if_written (fold_held (layer_lacks names) from)) (if_written (fold_held (layer_lacks names) to)) parts.1 in
        part_fits names (fold_expr (layer_nodes functions) e) (fold_held (layer_nodes functions) from) (fold_held (layer_nodes functions) to) (fold_expr (layer_read names) e) (fold_held (layer_read names) from) (fold_held (layer_read names) to)
        (tree_fits e parts.0) (λ d. held_fits from d ends.0) (λ d. held_fits to d ends.1)
    tree_fits (Minus' s (more_of-Expr e r)) h = let one = (tree_fits e h).value in record { value = omega (arith, one); actual = omega (arith, one); pieces = omega (arith, one) }
    tree_fits (Plus' s (more_of-Expr e r)) h = let one = (tree_fits e h).value in record { value = omega (arith, one); actual = omega (arith, one); pieces = omega (arith, one) }
    tree_fits (Not' s (more_of-Expr e r)) h = let one = (tree_fits e h).value in record { value = omega (arith, one); actual = omega (arith, one); pieces = omega (arith, one) }
    tree_fits (Paren' s (more_of-Expr e r)) h = let one = (tree_fits e h).value in let other = (tree_fits e h).pieces in record { value = omega (arith, one); actual = omega (arith, one); pieces = omega (arith, other) }
    tree_fits (Binary' o s (more_of-Expr a r) t (more_of-Expr b q)) h =
        let parts = and_parts (fold_expr (layer_lacks names) a) (fold_expr (layer_lacks names) b) h in
        binary_fits o _ _ _ _ (tree_fits a parts.0) (tree_fits b parts.1)
    tree_fits (AltReturn l) h = record { value = omega arith; actual = omega arith; pieces = omega arith }
    tree_fits (Bind' s row t (more_of-Expr e q)) h =
        let parts = and_parts (all_lack (fold_exprs (layer_lacks names) row)) (fold_expr (layer_lacks names) e) h in
        let one = (tree_fits e parts.1).value in
        let all = values_fit (fold_exprs (layer_nodes functions) row) (fold_exprs (layer_read names) row) (row_fits row parts.0) in
        record { value = omega (arith, one, all); actual = omega (arith, one, all); pieces = omega (arith, one, all) }
    tree_fits (Bound k) h = record { value = omega arith; actual = omega arith; pieces = omega arith }

    row_fits : {m : _} (row : Row_of-Expr m) → all_lack (fold_exprs (layer_lacks names) row) ≡ true → AllFit (fold_exprs (layer_nodes functions) row) (fold_exprs (layer_read names) row)
    row_fits end_of-Expr h = none_fit
    row_fits (more_of-Expr e row) h =
        let parts = and_parts (fold_expr (layer_lacks names) e) (all_lack (fold_exprs (layer_lacks names) row)) h in
        more_fit (tree_fits e parts.0) (row_fits row parts.1)

    held_fits : (held : Held-Expr-Part-1) (d : Datum) → if_written (fold_held (layer_lacks names) held) ≡ true → term_nodes (end_read (fold_held (layer_read names) held) d) ≤ suc (4 * total (option_list (fold_held (layer_nodes functions) held)))
    held_fits None' d h = omega arith
    held_fits (Some' p (more_of-Expr e r)) d h = let one = (tree_fits e h).value in omega (arith, one)

-- an expression that refers to no statement function
pub reads_fit : (names : Naming) (functions : List Sized) (e : Expr) → value_lacks names e ≡ true → Fits (expression_nodes functions e) (read names e)
unfolding read value_lacks expression_nodes nodes_of
reads_fit names functions e h = tree_fits names functions e h
