-- The arguments of a name with a list, and the names that stand alone among them.
use Rattle.std.proofs.Common.{◌≡◌, ◌||◌, List, [], ◌∷◌, map, Option, Some, None, refl, ap, ◌∙◌}
use Rattle.std.specs.List.{list_any}
use Rattle.f_tree.specs.Values.{Bytes}
use Rattle.f_tree.specs.declared.expressions.Expr.{Expr}
use Rattle.f_tree.specs.declared.expressions.Expr as tree
use Rattle.f_tree.specs.Uses.{Heading, heading_of, alone_in, is_among}
use Rattle.name_uses.proofs.name_table.Texts.{bytes_eq_flip}
use Rattle.name_uses.proofs.Headings.{heading-Apply}
use Rattle.direct_lines.specs.Definitions.{is_same, is_name, names_alone}

pub list_arguments : (x : Bytes) (es : List Expr) → (heading_of (tree.Apply x es)).arguments ≡ names_alone es
unfolding names_alone
list_arguments x es = ap (λ (h : Heading). h.arguments) (heading-Apply x es)

-- a name is among those that stand alone where one of the arguments is it
among-more : (x : Bytes) (o : Option Bytes) (xs : List Bytes) → is_among x (elim o [ None ↦ xs | Some y ↦ y ∷ xs ]) ≡ is_same x o || is_among x xs
unfolding is_among is_same
among-more x None xs = refl
among-more x (Some y) xs = ap (λ b. b || is_among x xs) (bytes_eq_flip x y)

pub among-alone : (x : Bytes) (es : List Expr) → is_among x (names_alone es) ≡ list_any (is_name x) es
unfolding names_alone alone_in is_name is_among
among-alone x [] = refl
among-alone x (e ∷ es) =
    among-more x (heading_of e).alone (alone_in (map heading_of es)) ∙ ap (λ b. is_same x (heading_of e).alone || b) (among-alone x es)
