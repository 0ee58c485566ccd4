-- What is read of an expression has a reference where the expression has one, by what its names are.
use Rattle.std.proofs.Common.{◌≡◌, ℕ, suc, Bool, true, false, not, ◌&&◌, ◌||◌, List, [], ◌∷◌, ◌++◌, map, length, nat_eq, Option, Some, None, refl, sym, ap, ◌∙◌, arith}
use Rattle.std.proofs.lemmas.Bool.Decides.{nat_tests}
use Rattle.f_tree.specs.declared.names.Class.{Class}
use Rattle.f_tree.specs.declared.names.Class.TheVariants as class
use Rattle.f_tree.specs.declared.expressions.BinaryOp.{BinaryOp}
use Rattle.f_tree.specs.declared.expressions.BinaryOp.TheVariants as op
use Rattle.f_tree.specs.declared.expressions.Expr.{Expr, Int, Logical, Text, Name, Apply', Part', Minus', Plus', Not', Paren', Binary', AltReturn, Bind', Bound, Row_of-Expr, end_of-Expr, more_of-Expr, None', Some', Held-Expr-Part-1}
use Rattle.f_tree.specs.Folds.{fold_expr, fold_exprs, fold_held}
use Rattle.f_tree.specs.Values.{Bytes, Datum}
use Rattle.f_tree.specs.Facts.{Attribute}
use Rattle.f_tree.specs.Terms.{Term, Function, TextLength, terms, refers, any_refers, terms_opened}
use Rattle.f_tree.specs.Reading.{Read, read, valued_only, placed, function_named, pieces_asked, operands_of, name_read, function_read, intrinsic_read, expanded_read, applied_read, end_read, binary_read, layer_read, reading_opened}
use Rattle.f_tree.specs.Lines.{Naming}
use Rattle.direct_lines.specs.References.{Known, any, if_written, is_unknown, is_text_length, is_reference, is_length, has_arguments, layer_refers, has_reference, is_function_class, term_refers}

-- what is known of names by what they are
unfoldable pub known_of : Naming → Known
known_of names = record { class = λ x. (names x).class; stands = λ x. is_function_class (names x).class && term_refers (names x).expansion }

-- its value has a reference, and it as an actual argument, and its pieces
pub record Agrees (r : Read) (b : Bool) : Type 0 where
  pub value : refers r.value ≡ b
  pub actual : refers r.actual ≡ b
  pub pieces : any_refers (terms r.pieces) ≡ b

data AllAgree : List Read → List Bool → Type 0 where
  none_agree : AllAgree [] []
  more_agree : {r : Read} {b : Bool} {rs : List Read} {bs : List Bool} → Agrees r b → AllAgree rs bs → AllAgree (r ∷ rs) (b ∷ bs)

or-false : (b : Bool) → b || false ≡ b
or-false true = refl
or-false false = refl

-- ## Lists

values-agree : (rs : List Read) (bs : List Bool) → AllAgree rs bs → any_refers (terms (map (λ (r : Read). r.value) rs)) ≡ any bs
unfolding terms_opened any
values-agree _ _ none_agree = refl
values-agree _ _ (more_agree {r} {b} {rs} {bs} one all) = ap (λ c. c || any_refers (terms (map (λ (r : Read). r.value) rs))) one.value ∙ ap (λ c. b || c) (values-agree rs bs all)

two-or-more : (n : ℕ) → nat_eq (suc (suc n)) 1 ≡ false
two-or-more n = grind (arith, nat_tests)

pieces-agree : (rs : List Read) (bs : List Bool) → AllAgree rs bs → any_refers (terms (pieces_asked rs)) ≡ nat_eq (length bs) 1 && any bs
unfolding terms_opened pieces_asked any
pieces-agree _ _ none_agree = refl
pieces-agree _ _ (more_agree {r} {b} one none_agree) = one.pieces ∙ sym (or-false b)
pieces-agree _ _ (more_agree {r} {b} one (more_agree {r = s} {b = c} {rs = rs} {bs = bs} other all)) = ap (λ t. t && (b || (c || any bs))) (sym (two-or-more (length bs)))

any-append : (ts us : List Term) → any_refers (terms (ts ++ us)) ≡ any_refers (terms ts) || any_refers (terms us)
unfolding terms_opened
any-append [] us = refl
any-append (t ∷ ts) us = ap (λ b. refers t || b) (any-append ts us) ∙ grouped (refers t) (any_refers (terms ts)) (any_refers (terms us))
  where
    grouped : (a b c : Bool) → a || (b || c) ≡ (a || b) || c
    grouped true b c = refl
    grouped false b c = refl

-- ## Forms

valued-agrees : (t : Term) (b : Bool) → refers t ≡ b → Agrees (record { value = t; actual = t; pieces = t ∷ []; named = None; base = None }) b
unfolding terms_opened
valued-agrees t b is = record { value = is; actual = is; pieces = or-false (refers t) ∙ is }

placed-agrees : (t v : Term) (named base : Option Bytes) (b : Bool) → refers v ≡ refers t → refers t ≡ b → Agrees (record { value = v; actual = t; pieces = t ∷ []; named = named; base = base }) b
unfolding terms_opened
placed-agrees t v named base b same is = record { value = same ∙ is; actual = is; pieces = or-false (refers t) ∙ is }

name-agrees : (x : Bytes) (a : Attribute) (c : Class) (d : Option Datum) (o : Option Term) →
    Agrees (name_read x (record a { class = c; constant = d; expansion = o })) (is_function_class c && term_refers o)
unfolding reading_opened terms_opened is_function_class term_refers
name-agrees x a class.Constant None o = record { value = refl; actual = refl; pieces = refl }
name-agrees x a class.Constant (Some d) o = record { value = refl; actual = refl; pieces = refl }
name-agrees x a class.StatementFunction d None = record { value = refl; actual = refl; pieces = refl }
name-agrees x a class.StatementFunction d (Some t) = record { value = refl; actual = refl; pieces = or-false (refers t) }
name-agrees x a class.Stored d o = record { value = refl; actual = refl; pieces = refl }
name-agrees x a class.Dummy d o = record { value = refl; actual = refl; pieces = refl }
name-agrees x a class.Result d o = record { value = refl; actual = refl; pieces = refl }
name-agrees x a class.Procedure d o = record { value = refl; actual = refl; pieces = refl }
name-agrees x a class.DummyProcedure d o = record { value = refl; actual = refl; pieces = refl }
name-agrees x a class.Intrinsic d o = record { value = refl; actual = refl; pieces = refl }
name-agrees x a class.Unit d o = record { value = refl; actual = refl; pieces = refl }

operands-agree : (f : Function) (rs : List Read) (bs : List Bool) → AllAgree rs bs →
    any_refers (terms (operands_of f rs)) ≡ (not (is_text_length (Some f)) || nat_eq (length bs) 1) && any bs
unfolding operands_of is_text_length
operands-agree TextLength rs bs all = pieces-agree rs bs all
operands-agree _ rs bs all = values-agree rs bs all

intrinsic-agrees : (x : Bytes) (a : Attribute) (rs : List Read) (bs : List Bool) (f : Option Function) → AllAgree rs bs →
    Agrees (intrinsic_read x a rs f)
    (is_unknown f || ((not (is_text_length f) || nat_eq (length bs) 1) && any bs))
unfolding reading_opened terms_opened is_unknown
intrinsic-agrees x a rs bs None all = record { value = refl; actual = refl; pieces = refl }
intrinsic-agrees x a rs bs (Some f) all =
    let same = operands-agree f rs bs all in
    record { value = same; actual = same; pieces = or-false (any_refers (terms (operands_of f rs))) ∙ same }

expanded-agrees : (x : Bytes) (a : Attribute) (rs : List Read) (o : Option Term) → Agrees (expanded_read x a rs o) true
unfolding reading_opened terms_opened
expanded-agrees x a rs None = record { value = refl; actual = refl; pieces = refl }
expanded-agrees x a rs (Some t) = record { value = refl; actual = refl; pieces = refl }

applied-agrees : (x : Bytes) (a : Attribute) (rs : List Read) (bs : List Bool) (c : Class) → AllAgree rs bs →
    Agrees (applied_read x (record a { class = c }) rs) (is_reference x c || (has_arguments x c (length bs) && any bs))
unfolding applied_read function_read valued_only placed terms_opened is_reference has_arguments is_length
applied-agrees x a rs bs class.Intrinsic all = intrinsic-agrees x (record a { class = class.Intrinsic }) rs bs (function_named x) all
applied-agrees x a rs bs class.StatementFunction all = expanded-agrees x (record a { class = class.StatementFunction }) rs a.expansion
applied-agrees x a rs bs class.Procedure all = record { value = refl; actual = refl; pieces = refl }
applied-agrees x a rs bs class.DummyProcedure all = record { value = refl; actual = refl; pieces = refl }
applied-agrees x a rs bs class.Result all = record { value = refl; actual = refl; pieces = refl }
applied-agrees x a rs bs class.Constant all = let same = values-agree rs bs all in record { value = same; actual = same; pieces = or-false _ ∙ same }
applied-agrees x a rs bs class.Stored all = let same = values-agree rs bs all in record { value = same; actual = same; pieces = or-false _ ∙ same }
applied-agrees x a rs bs class.Dummy all = let same = values-agree rs bs all in record { value = same; actual = same; pieces = or-false _ ∙ same }
applied-agrees x a rs bs class.Unit all = let same = values-agree rs bs all in record { value = same; actual = same; pieces = or-false _ ∙ same }

either : (a b c d : Bool) → a ≡ c → b ≡ d → a || b ≡ c || d
either a b c d one other = ap (λ t. t || b) one ∙ ap (λ t. c || t) other

binary-agrees : (o : BinaryOp) (r s : Read) (b c : Bool) → Agrees r b → Agrees s c → Agrees (binary_read o r s) (b || c)
unfolding reading_opened terms_opened
binary-agrees op.Power r s b c one other =
    let same = either (refers r.value) (refers s.value || false) b c one.value (or-false (refers s.value) ∙ other.value) in
    record { value = same; actual = same; pieces = or-false _ ∙ same }
binary-agrees op.Concatenate r s b c one other =
    let same = any-append r.pieces s.pieces ∙ either (any_refers (terms r.pieces)) (any_refers (terms s.pieces)) b c one.pieces other.pieces in
    record { value = same; actual = same; pieces = same }
binary-agrees _ r s b c one other =
    let same = either (refers r.value) (refers s.value) b c one.value other.value in
    record { value = same; actual = same; pieces = or-false _ ∙ same }

-- ## Trees

module _ (names : Naming) where
  mutual
    unfolding fold_expr fold_exprs fold_held layer_read layer_refers known_of valued_only placed terms_opened end_read if_written

    tree-agrees : (e : Expr) → Agrees (fold_expr (layer_read names) e) (fold_expr (layer_refers (known_of names)) e)
    tree-agrees (Int z) = record { value = refl; actual = refl; pieces = refl }
    tree-agrees (Logical b) = record { value = refl; actual = refl; pieces = refl }
    tree-agrees (Text cs) = record { value = refl; actual = refl; pieces = refl }
    tree-agrees (Name x) = name-agrees x (names x) (names x).class (names x).constant (names x).expansion
    tree-agrees (Apply' x s row) =
        applied-agrees x (names x) (fold_exprs (layer_read names) row) (fold_exprs (layer_refers (known_of names)) row) (names x).class (row-agrees row)
    tree-agrees (Part' s (more_of-Expr e r) from to) =
        let same = either (refers (fold_expr (layer_read names) e).actual) _ (fold_expr (layer_refers (known_of names)) e) _ (tree-agrees e).actual
        (either _ _ _ _ (held-agrees from _) (held-agrees to _)) in
        record { value = same; actual = same; pieces = or-false _ ∙ same }
    tree-agrees (Minus' s (more_of-Expr e r)) = let one = tree-agrees e in record { value = one.value; actual = one.value; pieces = or-false _ ∙ one.value }
    tree-agrees (Plus' s (more_of-Expr e r)) = let one = tree-agrees e in record { value = one.value; actual = one.value; pieces = or-false _ ∙ one.value }
    tree-agrees (Not' s (more_of-Expr e r)) = let one = tree-agrees e in record { value = one.value; actual = one.value; pieces = or-false _ ∙ one.value }
    tree-agrees (Paren' s (more_of-Expr e r)) = let one = tree-agrees e in record { value = one.value; actual = one.value; pieces = one.pieces }
    tree-agrees (Binary' o s (more_of-Expr a r) t (more_of-Expr b q)) = binary-agrees o _ _ _ _ (tree-agrees a) (tree-agrees b)
    tree-agrees (AltReturn l) = record { value = refl; actual = refl; pieces = refl }
    tree-agrees (Bind' s row t (more_of-Expr e q)) = record { value = refl; actual = refl; pieces = refl }
    tree-agrees (Bound k) = record { value = refl; actual = refl; pieces = refl }

    row-agrees : {m : _} (row : Row_of-Expr m) → AllAgree (fold_exprs (layer_read names) row) (fold_exprs (layer_refers (known_of names)) row)
    row-agrees end_of-Expr = none_agree
    row-agrees (more_of-Expr e row) = more_agree (tree-agrees e) (row-agrees row)

    held-agrees : (held : Held-Expr-Part-1) (d : Datum) → refers (end_read (fold_held (layer_read names) held) d) ≡ if_written (fold_held (layer_refers (known_of names)) held)
    held-agrees None' d = refl
    held-agrees (Some' p (more_of-Expr e r)) d = (tree-agrees e).value

-- an expression has a reference where what is read of it has one
pub reads-refer : (names : Naming) (e : Expr) → Agrees (read names e) (has_reference (known_of names) e)
unfolding read has_reference
reads-refer names e = tree-agrees names e
