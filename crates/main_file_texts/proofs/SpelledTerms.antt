-- Tokens that spell the expressions that are built: with parentheses round each operand.
use Rattle.std.specs.Prelude.{◌≡◌, ℕ, suc, ◌≤◌, ℤ, pos, negsuc, nat_le, Bool, true, false, List, ◌∷◌, ◌++◌, codes, Option, Some, None, option_map, if◌then◌else◌}
use Rattle.std.proofs.Common.{refl, subst, arith}
use Rattle.std.proofs.lemmas.Bool.{leb-true}
use Rattle.main_translation_laws.specs.c_tree.declared.types.CastType.{CastType}
use Rattle.main_translation_laws.specs.c_tree.declared.expression.UnaryOp.{UnaryOp}
use Rattle.main_translation_laws.specs.c_tree.declared.expression.BinaryOp.{BinaryOp}
use Rattle.main_translation_laws.specs.c_tree.declared.expression.Extreme.{Extreme}
use Rattle.main_translation_laws.specs.c_tree.declared.expression.CExpr.{CExpr}
use Rattle.main_translation_laws.specs.c_tree.declared.expression.CExpr.TheVariants as expr
use Rattle.main_translation_laws.specs.c_tree.Access.{Access}
use Rattle.main_translation_laws.specs.c_tree.Tokens.{Word, Digits, Sign, Quoted}
use Rattle.main_translation_laws.specs.c_tree.CWords.{prefix_sign, infix_sign, infix_level, cast_tokens, extreme_word}
use Rattle.main_translation_laws.specs.c_tree.CExpressionText.{Scope, a_function, IsKnown, declared_before, ReadsExpr, a_number, a_string, a_name, parenthesised, prefixed, casted, between, chosen, indexed, size, extreme_of, magnitude}
use Rattle.main_translation_laws.specs.c_tree.Drafts as linking
use Rattle.main_translation_laws.specs.c_tree.Terms.{Term, Constant, Variable, Array, Routine, Unknown, Prefixed, Cast, Between, Choice, Element, Field, Size, Most, Magnitude}
use Rattle.main_translation_laws.specs.c_structure.Expressions.{Names, with_two, with_three, number_expr, array_expr, expr_for}
use Rattle.main_translation_laws.specs.c_structure_laws.Fitting.{KnowsArray, Knows}
use Rattle.main_translation_laws.proofs.c_structure_laws.DrawnExpressions.{some_same}
use Rattle.main_file_texts.specs.WellFormedMains.{IsSpelled, Agrees, HasNoField, ExpressionsAreSpelled}

-- ## Forms

module _ (scope : Scope) where
  -- an expression at any place
  pub anywhere : (place : ℕ) (e : CExpr) → IsSpelled (ReadsExpr scope 0 e) → IsSpelled (ReadsExpr scope place e)
  anywhere place e one = record {
    from = λ behind. Sign (codes "(") ∷ one.from (Sign (codes ")") ∷ behind);
    reads = λ behind. parenthesised place refl (one.reads (Sign (codes ")") ∷ behind)) refl;
  }

  number_spelled : (n : ℕ) → n ≤ 2147483647 → IsSpelled (ReadsExpr scope 0 (expr.Number (pos n)))
  number_spelled n small = record { from = λ behind. Digits n ∷ behind; reads = λ behind. a_number 0 n small refl }

  string_spelled : (bytes : List ℕ) → IsSpelled (ReadsExpr scope 0 (expr.Str bytes))
  string_spelled bytes = record { from = λ behind. Quoted bytes ∷ behind; reads = λ behind. a_string 0 bytes refl }

  pub name_spelled : (name : List ℕ) → IsKnown scope name → IsSpelled (ReadsExpr scope 0 (expr.Name name))
  name_spelled name known = record { from = λ behind. Word name ∷ behind; reads = λ behind. a_name 0 name known refl }

  prefixed_spelled : (o : UnaryOp) (e : CExpr) → IsSpelled (ReadsExpr scope 0 e) → IsSpelled (ReadsExpr scope 0 (expr.Unary o e))
  prefixed_spelled o e one =
      let inner = anywhere 7 e one in
      record { from = λ behind. Sign (prefix_sign o) ∷ inner.from behind; reads = λ behind. prefixed 0 o (omega arith) refl (inner.reads behind) }

  cast_spelled : (of : CastType) (e : CExpr) → IsSpelled (ReadsExpr scope 0 e) → IsSpelled (ReadsExpr scope 0 (expr.Cast of e))
  cast_spelled of e one =
      let inner = anywhere 7 e one in
      record {
        from = λ behind. Sign (codes "(") ∷ (cast_tokens of ++ (Sign (codes ")") ∷ inner.from behind));
        reads = λ behind. casted 0 of (omega arith) refl refl refl (inner.reads behind);
      }

  between_spelled : (o : BinaryOp) (a b : CExpr) → IsSpelled (ReadsExpr scope 0 a) → IsSpelled (ReadsExpr scope 0 b) → IsSpelled (ReadsExpr scope 0 (expr.Binary o a b))
  between_spelled o a b one other =
      let left = anywhere (infix_level o) a one in
      let right = anywhere (suc (infix_level o)) b other in
      record {
        from = λ behind. left.from (Sign (infix_sign o) ∷ right.from behind);
        reads = λ behind. between 0 o (omega arith) (left.reads (Sign (infix_sign o) ∷ right.from behind)) refl (right.reads behind);
      }

  choice_spelled : (e a b : CExpr) → IsSpelled (ReadsExpr scope 0 e) → IsSpelled (ReadsExpr scope 0 a) → IsSpelled (ReadsExpr scope 0 b) → IsSpelled (ReadsExpr scope 0 (expr.Choose e a b))
  choice_spelled e a b one other third =
      let test = anywhere 1 e one in
      record {
        from = λ behind. test.from (Sign (codes "?") ∷ other.from (Sign (codes ":") ∷ third.from behind));
        reads = λ behind.
            chosen 0 (omega arith) (test.reads (Sign (codes "?") ∷ other.from (Sign (codes ":") ∷ third.from behind))) refl (other.reads (Sign (codes ":") ∷ third.from behind)) refl (third.reads behind);
      }

  element_spelled : (e i : CExpr) → IsSpelled (ReadsExpr scope 0 e) → IsSpelled (ReadsExpr scope 0 i) → IsSpelled (ReadsExpr scope 0 (expr.Index e i))
  element_spelled e i one other =
      let array = anywhere 8 e one in
      record {
        from = λ behind. array.from (Sign (codes "[") ∷ other.from (Sign (codes "]") ∷ behind));
        reads = λ behind. indexed 0 (omega arith) (array.reads (Sign (codes "[") ∷ other.from (Sign (codes "]") ∷ behind))) refl (other.reads (Sign (codes "]") ∷ behind)) refl;
      }

  size_spelled : IsSpelled (ReadsExpr scope 0 expr.SizeInt)
  size_spelled = record {
    from = λ behind. Word (codes "sizeof") ∷ Sign (codes "(") ∷ Word (codes "integer") ∷ Sign (codes ")") ∷ behind;
    reads = λ behind. size 0 refl refl refl refl;
  }

  most_spelled : (which : Extreme) (a b : CExpr) → IsSpelled (ReadsExpr scope 0 a) → IsSpelled (ReadsExpr scope 0 b) → IsSpelled (ReadsExpr scope 0 (expr.MaxMin which a b))
  most_spelled which a b one other = record {
    from = λ behind. Word (extreme_word which) ∷ Sign (codes "(") ∷ one.from (Sign (codes ",") ∷ other.from (Sign (codes ")") ∷ behind));
    reads = λ behind. extreme_of 0 which refl refl (one.reads (Sign (codes ",") ∷ other.from (Sign (codes ")") ∷ behind))) refl (other.reads (Sign (codes ")") ∷ behind)) refl;
  }

  magnitude_spelled : (e : CExpr) → IsSpelled (ReadsExpr scope 0 e) → IsSpelled (ReadsExpr scope 0 (expr.Abs e))
  magnitude_spelled e one = record {
    from = λ behind. Word (codes "abs") ∷ Sign (codes "(") ∷ one.from (Sign (codes ")") ∷ behind);
    reads = λ behind. magnitude 0 refl refl (one.reads (Sign (codes ")") ∷ behind)) refl;
  }

  -- ## Terms

  literal_spelled : (z : ℤ) (e : CExpr) → number_expr z ≡ Some e → IsSpelled (ReadsExpr scope 0 e)
  unfolding number_expr
  literal_spelled (pos n) e h = by (nat_le n 2147483647) refl h
    where
      by : (b : Bool) → nat_le n 2147483647 ≡ b → (if b then Some (expr.Number (pos n)) else None) ≡ Some e → IsSpelled (ReadsExpr scope 0 e)
      by true is g = subst (λ x. IsSpelled (ReadsExpr scope 0 x)) (some_same (expr.Number (pos n)) e g) (number_spelled n (leb-true n 2147483647 is))
      by false is g = absurd (cc)
  literal_spelled (negsuc n) e h = absurd (cc)

  module _ (links : linking.Scope) (names : Names) (agrees : Agrees links scope) where
    array_spelled : (found : Option (List ℕ)) (k : ℕ) (access : Access) → KnowsArray links (names.object k) found k access → IsSpelled (ReadsExpr scope 0 (array_expr found (names.object k)))
    unfolding array_expr
    array_spelled None k access known = name_spelled (names.object k) (agrees.arrays (names.object k) k access known)
    array_spelled (Some bytes) k access known = string_spelled bytes

    mapped_spelled : (form : CExpr → CExpr) (x : Option CExpr) (e : CExpr) → option_map form x ≡ Some e → ((a : CExpr) → x ≡ Some a → IsSpelled (ReadsExpr scope 0 a)) → ((a : CExpr) → IsSpelled (ReadsExpr scope 0 a) → IsSpelled (ReadsExpr scope 0 (form a)))
        → IsSpelled (ReadsExpr scope 0 e)
    mapped_spelled form (Some a) e h one made = subst (λ x. IsSpelled (ReadsExpr scope 0 x)) (some_same (form a) e h) (made a (one a refl))
    mapped_spelled form None e h one made = absurd (cc)

    two_spelled : (form : CExpr → CExpr → CExpr) (x y : Option CExpr) (e : CExpr) → with_two form x y ≡ Some e → ((a : CExpr) → x ≡ Some a → IsSpelled (ReadsExpr scope 0 a)) → ((b : CExpr) → y ≡ Some b → IsSpelled (ReadsExpr scope 0 b))
        → ((a b : CExpr) → IsSpelled (ReadsExpr scope 0 a) → IsSpelled (ReadsExpr scope 0 b) → IsSpelled (ReadsExpr scope 0 (form a b))) → IsSpelled (ReadsExpr scope 0 e)
    unfolding with_two
    two_spelled form (Some a) (Some b) e h one other made = subst (λ x. IsSpelled (ReadsExpr scope 0 x)) (some_same (form a b) e h) (made a b (one a refl) (other b refl))
    two_spelled form (Some a) None e h one other made = absurd (cc)
    two_spelled form None y e h one other made = absurd (cc)

    three_spelled : (form : CExpr → CExpr → CExpr → CExpr) (x y z : Option CExpr) (e : CExpr) → with_three form x y z ≡ Some e → ((a : CExpr) → x ≡ Some a → IsSpelled (ReadsExpr scope 0 a))
        → ((b : CExpr) → y ≡ Some b → IsSpelled (ReadsExpr scope 0 b)) → ((d : CExpr) → z ≡ Some d → IsSpelled (ReadsExpr scope 0 d))
        → ((a b d : CExpr) → IsSpelled (ReadsExpr scope 0 a) → IsSpelled (ReadsExpr scope 0 b) → IsSpelled (ReadsExpr scope 0 d) → IsSpelled (ReadsExpr scope 0 (form a b d))) → IsSpelled (ReadsExpr scope 0 e)
    unfolding with_three
    three_spelled form (Some a) (Some b) (Some d) e h one other third made = subst (λ x. IsSpelled (ReadsExpr scope 0 x)) (some_same (form a b d) e h) (made a b d (one a refl) (other b refl) (third d refl))
    three_spelled form (Some a) (Some b) None e h one other third made = absurd (cc)
    three_spelled form (Some a) None z e h one other third made = absurd (cc)
    three_spelled form None y z e h one other third made = absurd (cc)

    pub term_spelled : (t : Term) (e : CExpr) → expr_for names t ≡ Some e → Knows links names t → HasNoField t → IsSpelled (ReadsExpr scope 0 e)
    unfolding expr_for
    term_spelled (Constant z) e h knows none = literal_spelled z e h
    term_spelled (Variable k access) e h knows none =
        subst (λ x. IsSpelled (ReadsExpr scope 0 x)) (some_same (expr.Name (names.object k)) e h) (name_spelled (names.object k) (agrees.variables (names.object k) k access knows))
    term_spelled (Array k access) e h knows none =
        subst (λ x. IsSpelled (ReadsExpr scope 0 x)) (some_same (array_expr (names.string k) (names.object k)) e h) (array_spelled (names.string k) k access knows)
    term_spelled (Routine k) e h knows none =
        subst (λ x. IsSpelled (ReadsExpr scope 0 x)) (some_same (expr.Name (names.routine k)) e h) (name_spelled (names.routine k) (declared_before (a_function (agrees.functions (names.routine k) k knows))))
    term_spelled Unknown e h knows none = absurd (cc)
    term_spelled (Prefixed o t) e h knows none = mapped_spelled (expr.Unary o) (expr_for names t) e h (λ a is. term_spelled t a is knows none) (prefixed_spelled o)
    term_spelled (Cast of t) e h knows none = mapped_spelled (expr.Cast of) (expr_for names t) e h (λ a is. term_spelled t a is knows none) (cast_spelled of)
    term_spelled (Between o t u) e h knows none =
        two_spelled (expr.Binary o) (expr_for names t) (expr_for names u) e h (λ a is. term_spelled t a is knows.0 none.0) (λ b is. term_spelled u b is knows.1 none.1) (between_spelled o)
    term_spelled (Choice t u v) e h knows none =
        three_spelled expr.Choose (expr_for names t) (expr_for names u) (expr_for names v) e h (λ a is. term_spelled t a is knows.0 none.0) (λ b is. term_spelled u b is knows.1 none.1) (λ d is. term_spelled v d is knows.2 none.2)
        choice_spelled
    term_spelled (Element t u) e h knows none =
        two_spelled expr.Index (expr_for names t) (expr_for names u) e h (λ a is. term_spelled t a is knows.0 none.0) (λ b is. term_spelled u b is knows.1 none.1) element_spelled
    term_spelled (Field t name) e h knows none = absurd none
    term_spelled Size e h knows none = subst (λ x. IsSpelled (ReadsExpr scope 0 x)) (some_same expr.SizeInt e h) size_spelled
    term_spelled (Most which t u) e h knows none =
        two_spelled (expr.MaxMin which) (expr_for names t) (expr_for names u) e h (λ a is. term_spelled t a is knows.0 none.0) (λ b is. term_spelled u b is knows.1 none.1) (most_spelled which)
    term_spelled (Magnitude t) e h knows none = mapped_spelled expr.Abs (expr_for names t) e h (λ a is. term_spelled t a is knows none) magnitude_spelled

pub terms_are_spelled : ExpressionsAreSpelled
terms_are_spelled links scope names t e agrees h knows none = term_spelled scope links names agrees t e h knows none
