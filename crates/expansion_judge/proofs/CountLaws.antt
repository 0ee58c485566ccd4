-- Numbers past the most nodes that may be count as one more than that, and which expansions have too many is told all the same.
use Rattle.std.specs.Prelude.{◌≡◌, ℕ, suc, ◌+◌, min, nat_lt, Bool, true, false, not, ◌||◌, List, [], ◌∷◌, ◌++◌, map, Option, Some, None, option_map}
use Rattle.std.proofs.Common.{◌<◌, refl, sym, ap, ◌∙◌, arith}
use Rattle.std.proofs.lemmas.Bool.{ltb-true, lt-ltb}
use Rattle.f_tree.specs.declared.expressions.Expr.{Expr, Int, Logical, Text, Name, Apply', Part', Minus', Plus', Not', Paren', Binary', AltReturn, Bind', Bound, Row_of-Expr, end_of-Expr, more_of-Expr, None', Some', Held-Expr-Part-1}
use Rattle.f_tree.specs.declared.refusals.Kind.TheVariants.{BadStatementFunction}
use Rattle.f_tree.specs.declared.statements.Stmt.{Stmt}
use Rattle.f_tree.specs.Folds.{fold_expr, fold_exprs, fold_held}
use Rattle.f_tree.specs.Attributes.{option_list}
use Rattle.declaration_rows.specs.Judgement.{unless}
use Rattle.declaration_rows.specs.NameRows.{stood}
use Rattle.declaration_rows.specs.ReferenceRows.{parts_of}
use Rattle.declaration_rows.specs.ExpansionRows as rows
use Rattle.declaration_rows.specs.ExpansionRows.{most_nodes, Sized, Nodes, total, node_over, nodes_of_function, expanded_by, layer_nodes, nodes_of, expansion_rows_from}
use Rattle.name_table.specs.declared.NameTable.{NameTable}
use Rattle.name_table.specs.Named.{value_of}
use Rattle.name_table.proofs.Texts.{same_tests}
use Rattle.expansion_judge.specs.declared.counts.Counted.{Counted}
use Rattle.expansion_judge.specs.NodesCounted.{capped, seen, capped_sum, one_node, with_part, with_option, onward, expanded, part_counted, layer_counted, count_by, any_past, statement_rows, rows_by, AreSized}

-- NUMBERS
sum_by : (a b c : ℕ) → min (min a c + min b c) c ≡ min (a + b) c
sum_by a b c = omega arith

sum_capped : (a b : ℕ) → capped_sum (capped a) (capped b) ≡ capped (a + b)
unfolding capped_sum capped
sum_capped a b = sum_by a b 10001

past_by : (n m : ℕ) → nat_lt m (min n (suc m)) ≡ nat_lt m n
past_by n m = same_tests (nat_lt m (min n (suc m))) (nat_lt m n)
    (λ h. let less : m < min n (suc m) = ltb-true m (min n (suc m)) h in lt-ltb m n (omega arith))
    (λ h. let less : m < n = ltb-true m n h in lt-ltb m (min n (suc m)) (omega arith))

past_capped : (n : ℕ) → nat_lt most_nodes (capped n) ≡ nat_lt most_nodes n
unfolding most_nodes capped
past_capped n = past_by n 10000

one_by : (n : ℕ) → 1 + n ≡ suc n
one_by n = omega arith

sum_along : (a b c : ℕ) → (a + b) + c ≡ a + (b + c)
sum_along a b c = omega arith

none_more : (a : ℕ) → a + 0 ≡ a
none_more a = omega arith

-- PARTS
abbrev nodes : ℕ → Bool → Nodes
nodes n p = record { count = n; past = p }

abbrev counted : ℕ → Bool → Counted
counted n p = record { count = n; past = p }

or_none : (b : Bool) → (b || false) ≡ b
or_none true = refl
or_none false = refl

or_along : (a b c : Bool) → ((a || b) || c) ≡ (a || (b || c))
or_along true b c = refl
or_along false b c = refl

seen_by : (n m : ℕ) (p q : Bool) → n ≡ m → p ≡ q → counted n p ≡ counted m q
seen_by n m p q one two = ap (λ k. counted k p) one ∙ ap (counted m) two

with_seen : (a b : Nodes) → with_part (seen a) (seen b) ≡ seen (nodes (a.count + b.count) (a.past || b.past))
unfolding with_part seen
with_seen a b = ap (λ k. counted k (a.past || b.past)) (sum_capped a.count b.count)

onward_seen : (a : Nodes) (ns : List Nodes) → onward (seen a) (map seen ns) ≡ seen (nodes (a.count + total ns) (a.past || rows.any_past ns))
unfolding onward total rows.any_past
onward_seen a [] = ap seen (ap (λ k. nodes k a.past) (sym (none_more a.count)) ∙ ap (nodes (a.count + 0)) (sym (or_none a.past)))
onward_seen a (n ∷ ns) =
    ap (λ c. onward c (map seen ns)) (with_seen a n) ∙ onward_seen (nodes (a.count + n.count) (a.past || n.past)) ns
    ∙ ap seen (ap (λ k. nodes k ((a.past || n.past) || rows.any_past ns)) (sum_along a.count n.count (total ns))
    ∙ ap (nodes (a.count + (n.count + total ns))) (or_along a.past n.past (rows.any_past ns)))

one_seen : one_node ≡ seen (nodes 1 false)
unfolding one_node seen capped
one_seen = refl

over_seen : (ns : List Nodes) → seen (node_over ns) ≡ onward one_node (map seen ns)
unfolding node_over
over_seen ns =
    ap seen (ap (λ k. nodes k (rows.any_past ns)) (sym (one_by (total ns)))) ∙ sym (onward_seen (nodes 1 false) ns) ∙ ap (λ c. onward c (map seen ns)) (sym one_seen)

option_seen : (c : Counted) (o : Option Nodes) → onward c (map seen (option_list o)) ≡ with_option c (option_map seen o)
unfolding onward with_option option_list
option_seen c None = refl
option_seen c (Some n) = refl

onward_both : (c : Counted) (cs ds : List Counted) → onward c (cs ++ ds) ≡ onward (onward c cs) ds
unfolding onward
onward_both c [] ds = refl
onward_both c (d ∷ cs) ds = onward_both (with_part c d) cs ds

map_both : (ns ms : List Nodes) → map seen (ns ++ ms) ≡ map seen ns ++ map seen ms
map_both [] ms = refl
map_both (n ∷ ns) ms = ap (λ cs. seen n ∷ cs) (map_both ns ms)

part_seen : (n : Nodes) (from to : Option Nodes)
    → seen (node_over (n ∷ option_list from ++ option_list to)) ≡ with_option (with_option (with_part one_node (seen n)) (option_map seen from)) (option_map seen to)
unfolding onward
part_seen n from to =
    let start : Counted = with_part one_node (seen n) in
    over_seen (n ∷ option_list from ++ option_list to) ∙ ap (onward start) (map_both (option_list from) (option_list to))
    ∙ onward_both start (map seen (option_list from)) (map seen (option_list to)) ∙ ap (λ c. onward c (map seen (option_list to))) (option_seen start from)
    ∙ option_seen (with_option start (option_map seen from)) to

alone_seen : seen (node_over []) ≡ one_node
unfolding onward
alone_seen = over_seen []

single_seen : (n : Nodes) → seen (node_over (n ∷ [])) ≡ with_part one_node (seen n)
unfolding onward
single_seen n = over_seen (n ∷ [])

double_seen : (a b : Nodes) → seen (node_over (a ∷ b ∷ [])) ≡ with_part (with_part one_node (seen a)) (seen b)
unfolding onward
double_seen a b = over_seen (a ∷ b ∷ [])

bind_seen : (n : Nodes) (ns : List Nodes) → seen (node_over (n ∷ ns)) ≡ onward (with_part one_node (seen n)) (map seen ns)
unfolding onward
bind_seen n ns = over_seen (n ∷ ns)

expanded_seen : (o : Option ℕ) (n : Nodes) → seen (expanded_by o n) ≡ expanded (option_map capped o) (seen n)
unfolding expanded_by expanded seen
expanded_seen None n = refl
expanded_seen (Some k) n =
    seen_by (capped (n.count + k)) (capped_sum (capped n.count) (capped k)) (n.past || nat_lt most_nodes (n.count + k)) (n.past || nat_lt most_nodes (capped_sum (capped n.count) (capped k)))
    (sym (sum_capped n.count k))
    (ap (λ b. n.past || b) (sym (past_capped (n.count + k)) ∙ ap (nat_lt most_nodes) (sym (sum_capped n.count k))))

-- THE WHOLE EXPRESSION
module _ (table : NameTable ℕ) (functions : List Sized) (agree : AreSized table functions) where
  mutual
    unfolding fold_expr fold_exprs fold_held layer_nodes layer_counted part_counted

    tree_seen : (e : Expr) → seen (fold_expr (layer_nodes functions) e) ≡ fold_expr (layer_counted table) e
    tree_seen (Int z) = alone_seen
    tree_seen (Logical b) = alone_seen
    tree_seen (Text t) = alone_seen
    tree_seen (Name x) = alone_seen
    tree_seen (Apply' x s row) =
        expanded_seen (nodes_of_function x functions) (node_over (fold_exprs (layer_nodes functions) row))
        ∙ ap (λ o. expanded o (seen (node_over (fold_exprs (layer_nodes functions) row)))) (sym (agree.sized x))
        ∙ ap (expanded (value_of table x)) (over_seen (fold_exprs (layer_nodes functions) row) ∙ ap (onward one_node) (row_seen row))
    tree_seen (Part' s (more_of-Expr e r) from to) =
        part_seen (fold_expr (layer_nodes functions) e) (fold_held (layer_nodes functions) from) (fold_held (layer_nodes functions) to)
        ∙ ap (λ c. with_option (with_option (with_part one_node c) (option_map seen (fold_held (layer_nodes functions) from))) (option_map seen (fold_held (layer_nodes functions) to)))
        (tree_seen e)
        ∙ ap (λ o. with_option (with_option (with_part one_node (fold_expr (layer_counted table) e)) o) (option_map seen (fold_held (layer_nodes functions) to))) (held_seen from)
        ∙ ap (λ o. with_option (with_option (with_part one_node (fold_expr (layer_counted table) e)) (fold_held (layer_counted table) from)) o) (held_seen to)
    tree_seen (Minus' s (more_of-Expr e r)) = single_seen (fold_expr (layer_nodes functions) e) ∙ ap (with_part one_node) (tree_seen e)
    tree_seen (Plus' s (more_of-Expr e r)) = single_seen (fold_expr (layer_nodes functions) e) ∙ ap (with_part one_node) (tree_seen e)
    tree_seen (Not' s (more_of-Expr e r)) = single_seen (fold_expr (layer_nodes functions) e) ∙ ap (with_part one_node) (tree_seen e)
    tree_seen (Paren' s (more_of-Expr e r)) = single_seen (fold_expr (layer_nodes functions) e) ∙ ap (with_part one_node) (tree_seen e)
    tree_seen (Binary' o s (more_of-Expr a r) t (more_of-Expr b q)) =
        double_seen (fold_expr (layer_nodes functions) a) (fold_expr (layer_nodes functions) b)
        ∙ ap (λ c. with_part (with_part one_node c) (seen (fold_expr (layer_nodes functions) b))) (tree_seen a)
        ∙ ap (with_part (with_part one_node (fold_expr (layer_counted table) a))) (tree_seen b)
    tree_seen (AltReturn l) = alone_seen
    tree_seen (Bind' s row t (more_of-Expr e q)) =
        bind_seen (fold_expr (layer_nodes functions) e) (fold_exprs (layer_nodes functions) row)
        ∙ ap (λ c. onward (with_part one_node c) (map seen (fold_exprs (layer_nodes functions) row))) (tree_seen e)
        ∙ ap (onward (with_part one_node (fold_expr (layer_counted table) e))) (row_seen row)
    tree_seen (Bound k) = alone_seen

    row_seen : {m : _} (row : Row_of-Expr m) → map seen (fold_exprs (layer_nodes functions) row) ≡ fold_exprs (layer_counted table) row
    row_seen end_of-Expr = refl
    row_seen (more_of-Expr e row) =
        ap (λ c. c ∷ map seen (fold_exprs (layer_nodes functions) row)) (tree_seen e) ∙ ap (λ cs. fold_expr (layer_counted table) e ∷ cs) (row_seen row)

    held_seen : (h : Held-Expr-Part-1) → option_map seen (fold_held (layer_nodes functions) h) ≡ fold_held (layer_counted table) h
    held_seen None' = refl
    held_seen (Some' p (more_of-Expr e r)) = ap Some (tree_seen e)

  pub expression_seen : (e : Expr) → count_by table e ≡ seen (nodes_of functions e)
  unfolding count_by nodes_of
  expression_seen e = sym (tree_seen e)

  past_seen : (es : List Expr) → any_past table es ≡ rows.any_past (map (nodes_of functions) es)
  unfolding any_past rows.any_past seen
  past_seen [] = refl
  past_seen (e ∷ es) =
      ap (λ (c : Counted). c.past || any_past table es) (expression_seen e) ∙ ap (λ b. (nodes_of functions e).past || b) (past_seen es)

  pub rows_seen : (ss : List Stmt) → rows_by table ss ≡ expansion_rows_from functions ss
  unfolding rows_by statement_rows expansion_rows_from
  rows_seen [] = refl
  rows_seen (s ∷ ss) =
      ap (λ b. stood s (unless (not b) BadStatementFunction) ++ rows_by table ss) (past_seen (parts_of s.body).expressions)
      ∙ ap (λ rs. stood s (unless (not (rows.any_past (map (nodes_of functions) (parts_of s.body).expressions))) BadStatementFunction) ++ rs) (rows_seen ss)
