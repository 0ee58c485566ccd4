-- The bytes of the strings of statements that are made by the names of their forms.
use Rattle.std.specs.Prelude.{◌≡◌, ℕ, suc, ◌+◌, ◌≤◌, zero, Bool, true, false, ◌&&◌, List, [], ◌∷◌, ◌++◌, length, take, drop, Option, Some, None, slice_get, if◌then◌else◌}
use Rattle.std.proofs.Common.{refl, ap, ◌∙◌, arith}
use Rattle.c_tree.specs.Opened.{trees_opened}
use Rattle.c_tree.specs.LinkedExpressions.{linked}
use Rattle.c_tree.specs.FlatForm.{body, body_of_all, next_item}
use Rattle.c_tree.specs.declared.expression.BinaryOp.{BinaryOp}
use Rattle.c_tree.specs.declared.expression.BinaryOp.TheVariants as op
use Rattle.c_tree.specs.declared.expression.CExpr.{CExpr, Binary', end_of-CExpr, more_of-CExpr}
use Rattle.c_tree.specs.declared.statement.CCase.{CCase}
use Rattle.c_tree.specs.declared.statement.CNext.{CNext}
use Rattle.c_tree.specs.declared.statement.CNext.TheVariants as next
use Rattle.c_tree.specs.declared.statement.CStmt.{CStmt}
use Rattle.c_tree.specs.declared.statement.CStmt.TheVariants as form
use Rattle.named_items.specs.c_structure.Statements.{with_label}
use Rattle.named_items.specs.declared.item.Item.{Item}
use Rattle.named_items.specs.declared.item.Item.TheVariants.{Assign}
use Rattle.named_items.specs.SamePlaces.{number_in, same_expr}
use Rattle.named_items.specs.Structured.{added_in, sum_in, is_one, next_by, next_from, next_for}
use Rattle.built_strings.specs.BuiltStrings.{texts_bytes, expression_bytes, item_bytes, items_bytes}

-- ## Lists

pub texts_both : (xs ys : List (List ℕ)) → texts_bytes (xs ++ ys) ≡ texts_bytes xs + texts_bytes ys
unfolding texts_bytes
texts_both [] ys = (let e : texts_bytes ys ≡ 0 + texts_bytes ys = omega arith in e)
texts_both (x ∷ xs) ys = let more = texts_both xs ys in (let e : suc (length x) + texts_bytes (xs ++ ys) ≡ suc (length x) + texts_bytes xs + texts_bytes ys = omega (arith, more) in e)

pub items_apart : (k : ℕ) (items : List Item) → items_bytes (take k items) + items_bytes (drop k items) ≡ items_bytes items
unfolding items_bytes
items_apart zero items = (let e : 0 + items_bytes items ≡ items_bytes items = omega arith in e)
items_apart (suc k) [] = refl
items_apart (suc k) (item ∷ later) = let more = items_apart k later in (let e : item_bytes item + items_bytes (take k later) + items_bytes (drop k later) ≡ item_bytes item + items_bytes later = omega (arith, more) in e)

pub items_more : (j k : ℕ) (items : List Item) → items_bytes (take j items) + items_bytes (take k (drop j items)) ≡ items_bytes (take (j + k) items)
unfolding items_bytes
items_more zero k items = (let e : 0 + items_bytes (take k items) ≡ items_bytes (take k items) = omega arith in e) ∙ ap (λ i. items_bytes (take i items)) {x = k} {y = 0 + k} (omega arith)
items_more (suc j) k [] = none k ∙ ap (λ i. items_bytes (take i [])) {x = suc (j + k)} {y = suc j + k} (omega arith)
  where
    none : (i : ℕ) → 0 + items_bytes (take i []) ≡ items_bytes (take (suc (j + k)) [])
    none zero = refl
    none (suc i) = refl
items_more (suc j) k (item ∷ later) =
    let more = items_more j k later in
    (let e : item_bytes item + items_bytes (take j later) + items_bytes (take k (drop j later)) ≡ item_bytes item + items_bytes (take (j + k) later) = omega (arith, more) in e)
    ∙ ap (λ i. items_bytes (take i (item ∷ later))) {x = suc (j + k)} {y = suc j + k} (omega arith)

-- the item at a place, and those before it
pub item_behind : (k : ℕ) (items : List Item) (item : Item) → slice_get items k ≡ Some item → items_bytes (take k items) + item_bytes item ≤ items_bytes (take (suc k) items)
unfolding items_bytes
item_behind k [] item h = absurd (cc)
item_behind zero (first ∷ later) item h = let same : item_bytes first ≡ item_bytes item = ap item_bytes (let e : first ≡ item = cc in e) in omega (arith, same)
item_behind (suc k) (first ∷ later) item h = let more = item_behind k later item h in omega (arith, more)

-- ## Statements

abbrev pub bytes_in : CStmt → ℕ
bytes_in s = texts_bytes (body s).items.strings

abbrev pub bytes_in_all : List CStmt → ℕ
bytes_in_all ss = texts_bytes (body_of_all ss).items.strings

strings_block : (ss : List CStmt) → (body (form.Block ss)).items.strings ≡ (body_of_all ss).items.strings
unfolding trees_opened
strings_block [] = refl
strings_block (first ∷ later) = ap (λ texts. (body first).items.strings ++ texts) (strings_block later)

pub bytes_before : (s : CStmt) (ss : List CStmt) → bytes_in_all (s ∷ ss) ≡ bytes_in s + bytes_in_all ss
bytes_before s ss = texts_both (body s).items.strings (body_of_all ss).items.strings

pub bytes_if : (test : CExpr) (first : List CStmt) → bytes_in (form.If test first None) ≡ expression_bytes test + bytes_in_all first
unfolding trees_opened expression_bytes
bytes_if test first = texts_both (linked test).strings _ ∙ ap (λ texts. texts_bytes (linked test).strings + texts_bytes texts) (strings_block first)

pub bytes_if_else : (test : CExpr) (first second : List CStmt) → bytes_in (form.If test first (Some second)) ≡ expression_bytes test + bytes_in_all first + bytes_in_all second
unfolding trees_opened expression_bytes
bytes_if_else test first second =
    (λ i. texts_bytes (((linked test).strings ++ strings_block first i) ++ strings_block second i))
    ∙ texts_both ((linked test).strings ++ (body_of_all first).items.strings) (body_of_all second).items.strings
    ∙ ap (λ n. n + bytes_in_all second) (texts_both (linked test).strings (body_of_all first).items.strings)

pub bytes_for : (variable first test : CExpr) (growth : CNext) (turn : List CStmt) →
    bytes_in (form.For variable first test growth turn) ≡ expression_bytes variable + expression_bytes first + (expression_bytes test + bytes_in_all turn + texts_bytes (next_item growth).strings)
unfolding trees_opened expression_bytes
bytes_for variable first test growth turn =
    (λ i. texts_bytes (((linked variable).strings ++ (linked first).strings) ++ (((linked test).strings ++ strings_block turn i) ++ (next_item growth).strings)))
    ∙ texts_both ((linked variable).strings ++ (linked first).strings) (((linked test).strings ++ (body_of_all turn).items.strings) ++ (next_item growth).strings)
    ∙ (λ i. texts_both (linked variable).strings (linked first).strings i + texts_both ((linked test).strings ++ (body_of_all turn).items.strings) (next_item growth).strings i)
    ∙ ap (λ n. expression_bytes variable + expression_bytes first + (n + texts_bytes (next_item growth).strings)) (texts_both (linked test).strings (body_of_all turn).items.strings)

pub bytes_do : (a b : CExpr) (turn : List CStmt) (test : CExpr) → bytes_in (form.Block (form.Set a b ∷ form.DoWhile turn test ∷ [])) ≡ expression_bytes a + expression_bytes b + (bytes_in_all turn + expression_bytes test + 0)
unfolding trees_opened expression_bytes texts_bytes
bytes_do a b turn test =
    (λ i. texts_bytes (((linked a).strings ++ (linked b).strings) ++ ((strings_block turn i ++ (linked test).strings) ++ [])))
    ∙ texts_both ((linked a).strings ++ (linked b).strings) (((body_of_all turn).items.strings ++ (linked test).strings) ++ [])
    ∙ (λ i. texts_both (linked a).strings (linked b).strings i + texts_both ((body_of_all turn).items.strings ++ (linked test).strings) [] i)
    ∙ ap (λ n. expression_bytes a + expression_bytes b + (n + 0)) (texts_both (body_of_all turn).items.strings (linked test).strings)

pub bytes_labelled : (label : Option (List ℕ)) (s : CStmt) → bytes_in (with_label label s) ≡ bytes_in s
unfolding with_label trees_opened
bytes_labelled None s = refl
bytes_labelled (Some name) s = refl

pub bytes_switch : (value : CExpr) (cases : List CCase) → bytes_in (form.Switch value cases) ≡ expression_bytes value
unfolding trees_opened expression_bytes
bytes_switch value cases = refl

-- ## What a loop does behind each turn

next_bytes : (target amount : CExpr) (b : Bool) → texts_bytes (next_item (if b then next.Up target else next.Add target amount)).strings ≤ expression_bytes target + expression_bytes amount
unfolding trees_opened expression_bytes
next_bytes target amount true = omega arith
next_bytes target amount false = let both = texts_both (linked target).strings (linked amount).strings in omega (arith, both)

sum_bytes : (op : BinaryOp) (a b : CExpr) (sum : CExpr × CExpr) (n : ℕ) → added_in op a b ≡ Some sum → texts_bytes ((linked a).strings ++ (linked b).strings) ≤ n → expression_bytes sum.1 ≤ n
unfolding added_in expression_bytes
sum_bytes op.Add a b sum n is h =
    let both = texts_both (linked a).strings (linked b).strings in
    let same : texts_bytes (linked b).strings ≡ texts_bytes (linked sum.1).strings = ap (λ (pair : CExpr × CExpr). texts_bytes (linked pair.1).strings) (let e : (a, b) ≡ sum = cc in e) in
    omega (arith, both, same, h)
sum_bytes op a b sum n is h = absurd (cc)

value_bytes : (value : CExpr) (sum : CExpr × CExpr) → sum_in value ≡ Some sum → expression_bytes sum.1 ≤ expression_bytes value
unfolding sum_in expression_bytes trees_opened
value_bytes (Binary' op s (more_of-CExpr a end_of-CExpr) t (more_of-CExpr b end_of-CExpr)) sum is = sum_bytes op a b sum _ is (omega arith)
value_bytes e sum is = absurd (cc)

grown : (variable target value : CExpr) (found : Option (CExpr × CExpr)) (growth : CNext) → sum_in value ≡ found → next_from variable target found ≡ Some growth → texts_bytes (next_item growth).strings ≤ expression_bytes target + expression_bytes value
unfolding next_from next_by
grown variable target value None growth is h = absurd (cc)
grown variable target value (Some sum) growth is h = by (same_expr variable target && same_expr variable sum.0) h
  where
    by : (b : Bool) → (if b then Some (if is_one (number_in sum.1) then next.Up target else next.Add target sum.1) else None) ≡ Some growth → texts_bytes (next_item growth).strings ≤ expression_bytes target + expression_bytes value
    by true g =
        let same : texts_bytes (next_item (if is_one (number_in sum.1) then next.Up target else next.Add target sum.1)).strings ≡ texts_bytes (next_item growth).strings =
        ap (λ (n : CNext). texts_bytes (next_item n).strings) (let e : (if is_one (number_in sum.1) then next.Up target else next.Add target sum.1) ≡ growth = cc in e) in
        let own = next_bytes target sum.1 (is_one (number_in sum.1)) in
        let value = value_bytes value sum is in
        omega (arith, same, own, value)
    by false g = absurd (cc)

pub growth_bytes : (variable : CExpr) (item : Item) (growth : CNext) → next_for variable (Some item) ≡ Some growth → texts_bytes (next_item growth).strings ≤ item_bytes item
unfolding next_for item_bytes
growth_bytes variable (Assign target value) growth h = grown variable target value (sum_in value) growth refl h
growth_bytes variable item growth h = absurd (cc)
