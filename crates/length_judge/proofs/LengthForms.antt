-- What each form of an expression says of lengths.
use Rattle.std.specs.Prelude.{◌≡◌, ℕ, ℤ, pos, Bool, true, false, not, ◌&&◌, ◌||◌, List, [], ◌∷◌, ◌++◌, map, length, Option, Some, None, option_map, is_some, if◌then◌else◌}
use Rattle.std.proofs.Common.{refl, sym, ap, ◌∙◌}
use Rattle.std.proofs.lemmas.List.{map-append}
use Rattle.f_tree.specs.Values.{Bytes}
use Rattle.f_tree.specs.Facts.{Attribute}
use Rattle.f_tree.specs.Lines.{is_character}
use Rattle.f_tree.specs.declared.names.Class.{Class}
use Rattle.f_tree.specs.declared.names.Class.TheVariants as class
use Rattle.f_tree.specs.declared.expressions.BinaryOp.{BinaryOp}
use Rattle.f_tree.specs.declared.expressions.Expr.{Expr}
use Rattle.f_tree.specs.declared.expressions.Expr as tree
use Rattle.f_tree.specs.declared.expressions.Expr.TheBlock as block
use Rattle.f_tree.specs.Folds.{fold_exprs, folds_opened}
use Rattle.f_tree.specs.Attributes.{constant_value, option_list}
use Rattle.declaration_rows.specs.LengthRows as rows
use Rattle.declaration_rows.specs.LengthRows.{any_of, is_misused, star_before_reference, is_star_of, declared_width, width_or_none, with_tree, trees, option_tree, integer_at, place_value, span, last_by, is_joining, is_relation, layer_lengths, lengths_of}
use Rattle.length_judge.specs.declared.lengths.Lengths.{Lengths}
use Rattle.length_judge.specs.declared.lengths.Parts.{Parts}
use Rattle.length_judge.specs.declared.names.NameLength.{NameLength}
use Rattle.length_judge.specs.declared.names.Names.{Names}
use Rattle.length_judge.specs.KnownNames.{text_measured, measured, length_of, naming_in, constants_in}
use Rattle.length_judge.specs.LengthsSeen.{seen, lengths_in, no_lengths, text_lengths, no_parts, with_part, with_option, onward, together, over, named, name_lengths, referred, intrinsic_lengths, defined_lengths, applied_lengths, part_lengths, joined_lengths, both_parts, other_operation, binary_lengths, paren_lengths, substring}
use Rattle.length_judge.proofs.TreeLaws.{kept}
use Rattle.length_judge.proofs.PartLaws.{parts_together, onward_push}

abbrev whole_in : Names → Expr → rows.Lengths
whole_in n e = lengths_of (naming_in n) (constants_in n) e

row-lengths : (n : Names) (es : List Expr) → map seen (fold_exprs (layer_lengths (naming_in n) (constants_in n)) (block.hidden-the_row-Expr-0 es)) ≡ map (lengths_in n) es
unfolding folds_opened lengths_in lengths_of Rattle.f_tree.specs.declared.expressions.Expr.TheBlock.hidden-the_row-Expr-0
row-lengths n [] = refl
row-lengths n (e ∷ es) = ap (λ ls. lengths_in n e ∷ ls) (row-lengths n es)

-- NAMES
length_by : (k : Class) (w : Option ℕ) (c : Bool) → (if c then text_measured k w else record { class = k; is_star = false; characters = 0 })
    ≡ record { class = k; is_star = c && not (is_some w); characters = if c then declared_width w else 0 }
unfolding text_measured
length_by k w true = refl
length_by k w false = refl

length_is : (a : Attribute) → length_of a ≡ record { class = a.class; is_star = is_star_of a; characters = width_or_none a }
unfolding length_of measured is_star_of width_or_none
length_is a = length_by a.class a.width (is_character a.basic)

name_by : (a : Attribute) (e : Expr) (k : Class) → seen (rows.name_lengths (record a { class = k }) (with_tree e)) ≡ name_lengths (record { class = k; is_star = is_star_of a; characters = width_or_none a })
unfolding seen rows.name_lengths rows.named with_tree name_lengths named text_lengths no_lengths is_star_of width_or_none
name_by a e class.Constant = refl
name_by a e _ = refl

name_seen : (a : Attribute) (e : Expr) → seen (rows.name_lengths a (with_tree e)) ≡ name_lengths (length_of a)
name_seen a e = name_by a e a.class ∙ ap name_lengths (sym (length_is a))

applied_by : (a : Attribute) (e : Expr) (ls : List rows.Lengths) (k : Class) →
    seen (rows.applied_lengths (record a { class = k }) ls (rows.over e ls)) ≡ applied_lengths (record { class = k; is_star = is_star_of a; characters = width_or_none a }) (together ls)
unfolding seen rows.applied_lengths rows.named rows.over with_tree applied_lengths intrinsic_lengths referred defined_lengths named over no_lengths together is_star_of width_or_none
applied_by a e ls class.Intrinsic = refl
applied_by a e ls class.Procedure = refl
applied_by a e ls class.DummyProcedure = refl
applied_by a e ls class.Result = refl
applied_by a e ls class.StatementFunction = refl
applied_by a e ls _ = refl

applied_seen : (a : Attribute) (e : Expr) (ls : List rows.Lengths) → seen (rows.applied_lengths a ls (rows.over e ls)) ≡ applied_lengths (length_of a) (onward no_parts (map seen ls))
applied_seen a e ls =
    applied_by a e ls a.class ∙ ap (λ (n : NameLength). applied_lengths n (together ls)) (sym (length_is a)) ∙ ap (applied_lengths (length_of a)) (parts_together ls)

-- OPERATORS AND SUBSTRINGS
over_by : (e : Expr) (ls : List rows.Lengths) → seen (rows.over e ls) ≡ over (together ls)
unfolding seen rows.over with_tree over no_lengths together
over_by e ls = refl

over_seen : (e : Expr) (ls : List rows.Lengths) → seen (rows.over e ls) ≡ over (onward no_parts (map seen ls))
over_seen e ls = over_by e ls ∙ ap over (parts_together ls)

part_by : (e : Expr) (o : Option ℕ) (l : rows.Lengths) (ls : List rows.Lengths) → seen (rows.part_lengths o l (rows.over e ls)) ≡ part_lengths o (seen l) (together ls)
unfolding seen rows.part_lengths rows.over with_tree part_lengths over no_lengths together
part_by e None l ls = refl
part_by e (Some n) l ls = refl

part_seen : (e : Expr) (o : Option ℕ) (l : rows.Lengths) (ls : List rows.Lengths) → seen (rows.part_lengths o l (rows.over e ls)) ≡ part_lengths o (seen l) (onward no_parts (map seen ls))
part_seen e o l ls = part_by e o l ls ∙ ap (part_lengths o (seen l)) (parts_together ls)

joined_seen : (e : Expr) (a b : rows.Lengths) → seen (rows.joined_lengths a b (rows.over e (a ∷ b ∷ []))) ≡ joined_lengths (seen a) (seen b) (together (a ∷ b ∷ []))
unfolding seen rows.joined_lengths rows.over with_tree joined_lengths over no_lengths together
joined_seen e a b = refl

binary_by : (e : Expr) (o : BinaryOp) (a b : rows.Lengths) (c : Bool) →
    seen (if c then rows.joined_lengths a b (rows.over e (a ∷ b ∷ [])) else record (rows.over e (a ∷ b ∷ [])) { misused = (rows.over e (a ∷ b ∷ [])).misused || (is_relation o && star_before_reference (a ∷ b ∷ [])) })
    ≡ (if c then joined_lengths (seen a) (seen b) (together (a ∷ b ∷ [])) else other_operation o (together (a ∷ b ∷ [])))
unfolding seen rows.joined_lengths rows.over with_tree joined_lengths other_operation over no_lengths together
binary_by e o a b true = refl
binary_by e o a b false = refl

binary_seen : (e : Expr) (o : BinaryOp) (a b : rows.Lengths) → seen (rows.binary_lengths o a b (rows.over e (a ∷ b ∷ []))) ≡ binary_lengths o (seen a) (seen b)
unfolding rows.binary_lengths binary_lengths both_parts onward
binary_seen e o a b =
    binary_by e o a b (is_joining o)
    ∙ ap (λ (p : Parts). if is_joining o then joined_lengths (seen a) (seen b) p else other_operation o p) (parts_together (a ∷ b ∷ []))

paren_seen : (e : Expr) (a : rows.Lengths) → seen (rows.paren_lengths a (rows.over e (a ∷ []))) ≡ paren_lengths (seen a)
unfolding seen rows.paren_lengths rows.over with_tree paren_lengths onward over no_lengths together
paren_seen e a =
    ap (λ (p : Parts). record (over p) { parenthesised = a.star || a.parenthesised; star = a.star; joined = a.joined; misused = a.misused; longest = a.longest }) (parts_together (a ∷ []))

-- EACH FORM
pub length-Int : (n : Names) (z : ℤ) → lengths_in n (tree.Int z) ≡ no_lengths
unfolding folds_opened lengths_in lengths_of layer_lengths with_tree seen no_lengths
length-Int n z = refl

pub length-Logical : (n : Names) (b : Bool) → lengths_in n (tree.Logical b) ≡ no_lengths
unfolding folds_opened lengths_in lengths_of layer_lengths with_tree seen no_lengths
length-Logical n b = refl

pub length-AltReturn : (n : Names) (label : ℕ) → lengths_in n (tree.AltReturn label) ≡ no_lengths
unfolding folds_opened lengths_in lengths_of layer_lengths with_tree seen no_lengths
length-AltReturn n label = refl

pub length-Bound : (n : Names) (k : ℕ) → lengths_in n (tree.Bound k) ≡ no_lengths
unfolding folds_opened lengths_in lengths_of layer_lengths with_tree seen no_lengths
length-Bound n k = refl

pub length-Text : (n : Names) (cs : Bytes) → lengths_in n (tree.Text cs) ≡ text_lengths (length cs)
unfolding folds_opened lengths_in lengths_of layer_lengths with_tree seen text_lengths no_lengths
length-Text n cs = refl

pub length-Name : (n : Names) (x : Bytes) → lengths_in n (tree.Name x) ≡ name_lengths (length_of (naming_in n x))
unfolding folds_opened lengths_in lengths_of layer_lengths
length-Name n x = name_seen (naming_in n x) (tree.Name x)

pub length-Apply : (n : Names) (x : Bytes) (es : List Expr) → lengths_in n (tree.Apply x es) ≡ applied_lengths (length_of (naming_in n x)) (onward no_parts (map (lengths_in n) es))
unfolding folds_opened lengths_in lengths_of layer_lengths Rattle.f_tree.specs.declared.expressions.Expr.TheBlock.hidden-the_row-Expr-0
length-Apply n x es =
    applied_seen (naming_in n x) _ (fold_exprs (layer_lengths (naming_in n) (constants_in n)) (block.hidden-the_row-Expr-0 es))
    ∙ ap (λ (ls : List Lengths). applied_lengths (length_of (naming_in n x)) (onward no_parts ls)) (row-lengths n es)

pub length-Minus : (n : Names) (e : Expr) → lengths_in n (tree.Minus e) ≡ over (with_part no_parts (lengths_in n e))
unfolding folds_opened lengths_in lengths_of layer_lengths onward
length-Minus n e = over_seen _ (whole_in n e ∷ [])

pub length-Plus : (n : Names) (e : Expr) → lengths_in n (tree.Plus e) ≡ over (with_part no_parts (lengths_in n e))
unfolding folds_opened lengths_in lengths_of layer_lengths onward
length-Plus n e = over_seen _ (whole_in n e ∷ [])

pub length-Not : (n : Names) (e : Expr) → lengths_in n (tree.Not e) ≡ over (with_part no_parts (lengths_in n e))
unfolding folds_opened lengths_in lengths_of layer_lengths onward
length-Not n e = over_seen _ (whole_in n e ∷ [])

pub length-Paren : (n : Names) (e : Expr) → lengths_in n (tree.Paren e) ≡ paren_lengths (lengths_in n e)
unfolding folds_opened lengths_in lengths_of layer_lengths
length-Paren n e = paren_seen _ (whole_in n e)

pub length-Binary : (n : Names) (o : BinaryOp) (a b : Expr) → lengths_in n (tree.Binary o a b) ≡ binary_lengths o (lengths_in n a) (lengths_in n b)
unfolding folds_opened lengths_in lengths_of layer_lengths
length-Binary n o a b = binary_seen _ o (whole_in n a) (whole_in n b)

pub length-Bind : (n : Names) (es : List Expr) (e : Expr) → lengths_in n (tree.Bind es e) ≡ over (with_part (onward no_parts (map (lengths_in n) es)) (lengths_in n e))
unfolding folds_opened lengths_in lengths_of layer_lengths Rattle.f_tree.specs.declared.expressions.Expr.TheBlock.hidden-the_row-Expr-0
length-Bind n es e =
    over_seen _ (fold_exprs (layer_lengths (naming_in n) (constants_in n)) (block.hidden-the_row-Expr-0 es) ++ whole_in n e ∷ [])
    ∙ ap (λ (ls : List Lengths). over (onward no_parts ls)) (map-append seen (fold_exprs (layer_lengths (naming_in n) (constants_in n)) (block.hidden-the_row-Expr-0 es)) (whole_in n e ∷ []))
    ∙ ap (λ (ls : List Lengths). over (onward no_parts (ls ++ lengths_in n e ∷ []))) (row-lengths n es)
    ∙ ap over (onward_push no_parts (map (lengths_in n) es) (lengths_in n e))

-- the places of a substring
place_kept : (n : Names) (o : Option Expr) (default : Option ℤ) →
    place_value (constants_in n) (option_tree (option_map (whole_in n) o)) default ≡ place_value (constants_in n) o default
unfolding option_tree place_value
place_kept n None default = refl
place_kept n (Some e) default = ap (λ (t : Expr). integer_at (constant_value (constants_in n) t)) (kept (naming_in n) (constants_in n) e)

places_kept : (n : Names) (l : rows.Lengths) (from to : Option Expr) →
    span (place_value (constants_in n) (option_tree (option_map (whole_in n) from)) (Some (pos 1))) (place_value (constants_in n) (option_tree (option_map (whole_in n) to)) (last_by l.star l.longest))
    ≡ span (place_value (constants_in n) from (Some (pos 1))) (place_value (constants_in n) to (last_by l.star l.longest))
places_kept n l from to = λ i. span (place_kept n from (Some (pos 1)) i) (place_kept n to (last_by l.star l.longest) i)

pub length-Part : (n : Names) (e : Expr) (from to : Option Expr) → lengths_in n (tree.Part e from to) ≡ substring n e from to
unfolding folds_opened lengths_in lengths_of layer_lengths substring with_option onward option_list seen part_lengths
length-Part n e None None =
    part_seen _ _ (whole_in n e) (whole_in n e ∷ []) ∙ ap (λ (o : Option ℕ). part_lengths o (lengths_in n e) (with_part no_parts (lengths_in n e))) (places_kept n (whole_in n e) None None)
length-Part n e None (Some b) =
    part_seen _ _ (whole_in n e) (whole_in n e ∷ whole_in n b ∷ [])
    ∙ ap (λ (o : Option ℕ). part_lengths o (lengths_in n e) (with_part (with_part no_parts (lengths_in n e)) (lengths_in n b))) (places_kept n (whole_in n e) None (Some b))
length-Part n e (Some a) None =
    part_seen _ _ (whole_in n e) (whole_in n e ∷ whole_in n a ∷ [])
    ∙ ap (λ (o : Option ℕ). part_lengths o (lengths_in n e) (with_part (with_part no_parts (lengths_in n e)) (lengths_in n a))) (places_kept n (whole_in n e) (Some a) None)
length-Part n e (Some a) (Some b) =
    part_seen _ _ (whole_in n e) (whole_in n e ∷ whole_in n a ∷ whole_in n b ∷ [])
    ∙ ap (λ (o : Option ℕ). part_lengths o (lengths_in n e) (with_part (with_part (with_part no_parts (lengths_in n e)) (lengths_in n a)) (lengths_in n b))) (places_kept n (whole_in n e) (Some a) (Some b))

pub ruleset length_forms = (length-Int, length-Logical, length-Text, length-Name, length-Apply, length-Part, length-Minus, length-Plus, length-Not, length-Paren, length-Binary, length-AltReturn, length-Bind, length-Bound)

-- lists of parts
pub list_step : (n : Names) (p : Parts) (e : Expr) (es : List Expr) → onward p (map (lengths_in n) (e ∷ es)) ≡ onward (with_part p (lengths_in n e)) (map (lengths_in n) es)
unfolding onward
list_step n p e es = refl

pub list_end : (n : Names) (p : Parts) → onward p (map (lengths_in n) []) ≡ p
unfolding onward
list_end n p = refl
