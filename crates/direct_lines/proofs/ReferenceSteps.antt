-- What each step of the search for references comes to.
use Rattle.std.proofs.Common.{◌≡◌, ℕ, suc, ◌+◌, ◌*◌, ◌<◌, ◌≤◌, Bool, true, false, not, ◌&&◌, ◌||◌, List, [], ◌∷◌, ◌++◌, map, length, take, drop, get_or, Option, Some, None, option_map, refl, sym, ap, ◌∙◌, arith, length-take}
use Rattle.std.specs.List.{list_any, position}
use Rattle.std.proofs.lemmas.List.{take-take, get_or-take, take_all}
use Rattle.std.proofs.lemmas.List.Quantifiers.{position-Some}
use Rattle.f_tree.specs.declared.names.Class.{Class}
use Rattle.f_tree.specs.declared.expressions.Expr.{Expr, size-Expr}
use Rattle.f_tree.specs.declared.expressions.Expr as tree
use Rattle.f_tree.specs.declared.statements.Body.{Assign}
use Rattle.f_tree.specs.declared.statements.Stmt.{Stmt}
use Rattle.f_tree.specs.declared.units.Unit.{Unit as WrittenUnit}
use Rattle.f_tree.specs.Values.{Bytes}
use Rattle.f_tree.specs.Reading.{read}
use Rattle.f_tree.specs.Uses.{heading_of}
use Rattle.f_tree.specs.Lines.{is_statement_function, is_text}
use Rattle.name_facts.specs.declaration_rows.NameRows.{given_names}
use Rattle.name_facts.specs.declared.table.NameFacts.{NameFacts}
use Rattle.name_facts.specs.GivenFacts.{AreNameFacts, fact_in}
use Rattle.direct_lines.specs.Assignments.{is_definition, is_text_target, is_direct_assignment}
use Rattle.direct_lines.specs.Definitions.{is_name, is_same, names_alone, assigns_with_list}
use Rattle.direct_lines.specs.References.{Known, any, if_written, is_reference, has_arguments, has_reference, applied_refers, is_function_class, term_refers, expansion_refers, class_in, stands_for_reference, known_by}
use Rattle.direct_lines.proofs.ReferenceForms.{refers-Name, refers-Part}
use Rattle.direct_lines.proofs.TargetForms.{definition-agrees, text-agrees}
use Rattle.direct_lines.proofs.Expansions.{not-defined, assigns-Assign, assigns-other}
use Rattle.direct_lines.proofs.KnownNames.{told-reference, defined-reference}
use Rattle.direct_lines.proofs.FirstPlaces.{nowhere, none-before, split-at}
use Rattle.direct_lines.proofs.Weights.{weight, lighter}

-- ## Forms

applied-by : (known : Known) (x : Bytes) (es : List Expr) (c : Class) (r h : Bool) → c ≡ known.class x → is_reference x c ≡ r → has_arguments x c (length es) ≡ h →
    r || (h && any (map (has_reference known) es)) ≡ applied_refers known x es
unfolding applied_refers
applied-by known x es c r h class reference arguments =
    ap (λ b. b || (h && any (map (has_reference known) es))) (sym reference ∙ ap (is_reference x) class)
    ∙ ap (λ b. is_reference x (known.class x) || (b && any (map (has_reference known) es))) (sym arguments ∙ ap (λ c. has_arguments x c (length es)) class)

pub applied-step : (u : WrittenUnit) (table : NameFacts) (ss : List Stmt) (dummies : List Expr) (x : Bytes) (es : List Expr) (c : Class) (r h : Bool) → c ≡ class_in table dummies x →
    is_reference x c ≡ r → has_arguments x c (length es) ≡ h → r || (h && any (map (has_reference (known_by u table ss dummies)) es)) ≡ applied_refers (known_by u table ss dummies) x es
unfolding known_by
applied-step u table ss dummies x es c r h class reference arguments = applied-by (known_by u table ss dummies) x es c r h class reference arguments

pub name-step : (u : WrittenUnit) (table : NameFacts) (ss : List Stmt) (dummies : List Expr) (e : Expr) (x y : Bytes) → e ≡ tree.Name x → y ≡ x →
    stands_for_reference u table ss dummies y ≡ has_reference (known_by u table ss dummies) e
unfolding known_by
name-step u table ss dummies e x y is same =
    ap (stands_for_reference u table ss dummies) same ∙ sym (ap (has_reference (known_by u table ss dummies)) is ∙ refers-Name (known_by u table ss dummies) x)

pub part-step : (known : Known) (e whole read : Expr) (from to : Option Expr) (a b r : Bool) → e ≡ tree.Part whole from to → read ≡ whole → a ≡ has_reference known read → a ≡ false →
    b ≡ if_written (option_map (has_reference known) from) → b ≡ false → r ≡ if_written (option_map (has_reference known) to) → r ≡ has_reference known e
part-step known e whole read from to a b r is found one none other nor last =
    last ∙ ap (λ c. c || if_written (option_map (has_reference known) to)) (sym nor ∙ other)
    ∙ ap (λ c. c || (if_written (option_map (has_reference known) from) || if_written (option_map (has_reference known) to))) (sym none ∙ one ∙ ap (has_reference known) found)
    ∙ sym (ap (has_reference known) is ∙ refers-Part known whole from to)

-- ## Names

pub dummy-step : (u : WrittenUnit) (table : NameFacts) (ss : List Stmt) (dummies : List Expr) (x : Bytes) → list_any (is_name x) dummies ≡ true → false ≡ stands_for_reference u table ss dummies x
unfolding stands_for_reference
dummy-step u table ss dummies x is = ap (λ b. not b && (is_function_class (fact_in table x).class && expansion_refers u ss x)) (sym is)

and-false : (b : Bool) → false ≡ b && false
and-false true = refl
and-false false = refl

pub other-step : (u : WrittenUnit) (table : NameFacts) (ss : List Stmt) (dummies : List Expr) (x : Bytes) → is_function_class (fact_in table x).class ≡ false → false ≡ stands_for_reference u table ss dummies x
unfolding stands_for_reference
other-step u table ss dummies x is = and-false (not (list_any (is_name x) dummies)) ∙ ap (λ b. not (list_any (is_name x) dummies) && (b && expansion_refers u ss x)) (sym is)

stands-by : (u : WrittenUnit) (table : NameFacts) (ss : List Stmt) (dummies : List Expr) (x : Bytes) → list_any (is_name x) dummies ≡ false → is_function_class (fact_in table x).class ≡ true →
    expansion_refers u ss x ≡ stands_for_reference u table ss dummies x
unfolding stands_for_reference
stands-by u table ss dummies x free function =
    ap (λ b. b && expansion_refers u ss x) (sym function) ∙ ap (λ b. not b && (is_function_class (fact_in table x).class && expansion_refers u ss x)) (sym free)

pub undefined-step : (u : WrittenUnit) (table : NameFacts) (ss : List Stmt) (dummies : List Expr) (x : Bytes) → list_any (is_name x) dummies ≡ false →
    is_function_class (fact_in table x).class ≡ true → position (assigns_with_list x) ss ≡ None → false ≡ stands_for_reference u table ss dummies x
unfolding expansion_refers term_refers
undefined-step u table ss dummies x free function none =
    sym (ap term_refers (not-defined u x ss (nowhere (assigns_with_list x) ss none))) ∙ stands-by u table ss dummies x free function

-- ## The first definition

-- a statement at a place is the first one before another that assigns to a name with a list
pub record IsFirst (x : Bytes) (ss : List Stmt) (place at : ℕ) (s : Stmt) : Type 0 where
  pub none : list_any (assigns_with_list x) (take at ss) ≡ false
  pub here : assigns_with_list x s ≡ true
  pub split : ss ≡ take at ss ++ s ∷ drop (suc at) ss
  pub split_before : take place ss ≡ take at ss ++ s ∷ drop (suc at) (take place ss)
  pub within : at ≤ length ss

pub first-of : (x : Bytes) (ss : List Stmt) (place at : ℕ) (s d : Stmt) → place ≤ length ss → Some at ≡ position (assigns_with_list x) (take place ss) → s ≡ get_or ss at d → IsFirst x ss place at s
first-of x ss place at s d inside found is =
    let first = position-Some (assigns_with_list x) (take place ss) at d (sym found) in
    let below : at < length (take place ss) = first.0 in
    let size : length (take place ss) ≡ place = omega (arith, length-take place ss) in
    let before : at < place = omega arith in
    let same : get_or (take place ss) at d ≡ s = get_or-take place ss at d before ∙ sym is in
    let front : take at (take place ss) ≡ take at ss = take-take at place ss (omega arith) in
    record {
      none = ap (list_any (assigns_with_list x)) (sym front) ∙ none-before (assigns_with_list x) (take place ss) at d (omega arith) first.2;
      here = ap (assigns_with_list x) (sym same) ∙ first.1;
      split = split-at ss at d (omega arith) ∙ ap (λ t. take at ss ++ t ∷ drop (suc at) ss) (sym is);
      split_before =
          split-at (take place ss) at d below ∙ ap (λ t. take at (take place ss) ++ t ∷ drop (suc at) (take place ss)) same
          ∙ ap (λ ts. ts ++ s ∷ drop (suc at) (take place ss)) front;
      within = omega arith;
    }

-- it is an assignment, to a name with a list
pub first-assigns : (A : Type 0) (x : Bytes) (ss : List Stmt) (place at : ℕ) (s : Stmt) → IsFirst x ss place at s → ((target e : Expr) → s.body ≡ Assign target e → ⊥) → A
first-assigns A x ss place at s first other = absurd (let here = first.here in let none = assigns-other x s other in cc)

not-same : (x : Bytes) (o : Option Bytes) → o ≡ None → is_same x o ≡ false
unfolding is_same
not-same x o is = ap (is_same x) is

pub first-applies : (A : Type 0) (x : Bytes) (ss : List Stmt) (place at : ℕ) (s : Stmt) (target e : Expr) → IsFirst x ss place at s → s.body ≡ Assign target e →
    (heading_of target).applied ≡ None → A
first-applies A x ss place at s target e first is none =
    absurd (let here = first.here in let other = assigns-Assign x s target e is in let nor = not-same x (heading_of target).applied none in cc)

pub first-lighter : (x : Bytes) (ss : List Stmt) (place at : ℕ) (s : Stmt) (target e : Expr) → IsFirst x ss place at s → s.body ≡ Assign target e →
    weight (take at ss) + (4 * size-Expr e + 1) < weight (take place ss)
first-lighter x ss place at s target e first is =
    let same : weight (take place ss) ≡ weight (take at ss ++ s ∷ drop (suc at) (take place ss)) = ap weight first.split_before in
    let less = lighter (take at ss) (drop (suc at) (take place ss)) s target e is in
    omega arith

pub first-step : (r : Bool) (u : WrittenUnit) (table : NameFacts) (dummies args : List Expr) (x : Bytes) (place at : ℕ) (s : Stmt) (target e : Expr) → AreNameFacts u table →
    IsFirst x u.statements place at s → s.body ≡ Assign target e → names_alone args ≡ (heading_of target).arguments → r ≡ has_reference (known_by u table (take at u.statements) args) e →
    list_any (is_name x) dummies ≡ false → is_function_class (fact_in table x).class ≡ true → r ≡ stands_for_reference u table (take place u.statements) dummies x
first-step r u table dummies args x place at s target e are first is alone found free function =
    found
    ∙ defined-reference u table (take at u.statements) (drop (suc at) (take place u.statements)) (drop (suc at) u.statements) s target e x args are first.split is first.here first.none function alone
    ∙ ap (λ ss. expansion_refers u ss x) (sym first.split_before)
    ∙ stands-by u table (take place u.statements) dummies x free function

-- ## Assignments

pub assignment-step : (u : WrittenUnit) (table : NameFacts) (target : Expr) (place : ℕ) → AreNameFacts u table → place ≡ length u.statements →
    is_definition table target || (not (is_text_target table target) || has_reference (known_by u table (take place u.statements) []) target) ≡ is_direct_assignment (given_names u) target
unfolding is_direct_assignment
assignment-step u table target place are is =
    ap (λ b. b || (not (is_text_target table target) || has_reference (known_by u table (take place u.statements) []) target)) (definition-agrees (given_names u) table are.facts target)
    ∙ ap (λ b. is_statement_function (given_names u) (heading_of target).applied || (not b || has_reference (known_by u table (take place u.statements) []) target)) (text-agrees (given_names u) table are.facts target)
    ∙ ap (λ b. is_statement_function (given_names u) (heading_of target).applied || (not (is_text (given_names u) (read (given_names u) target).base) || b))
    (ap (λ ss. has_reference (known_by u table ss []) target) (take_all place u.statements (let e : length u.statements ≤ place = omega arith in e)) ∙ told-reference u table are target)

pub defined-step : (u : WrittenUnit) (table : NameFacts) (target : Expr) → AreNameFacts u table → is_definition table target ≡ true → true ≡ is_direct_assignment (given_names u) target
defined-step u table target are is =
    ap (λ b. b || (not (is_text_target table target) || has_reference (known_by u table (take (length u.statements) u.statements) []) target)) (sym is)
    ∙ assignment-step u table target (length u.statements) are refl

pub number-step : (u : WrittenUnit) (table : NameFacts) (target : Expr) → AreNameFacts u table → is_definition table target ≡ false → is_text_target table target ≡ false →
    true ≡ is_direct_assignment (given_names u) target
number-step u table target are is other =
    ap (λ b. not b || has_reference (known_by u table (take (length u.statements) u.statements) []) target) (sym other)
    ∙ ap (λ b. b || (not (is_text_target table target) || has_reference (known_by u table (take (length u.statements) u.statements) []) target)) (sym is)
    ∙ assignment-step u table target (length u.statements) are refl

pub text-step : (u : WrittenUnit) (table : NameFacts) (target : Expr) (place : ℕ) (r : Bool) → AreNameFacts u table → place ≡ length u.statements → is_definition table target ≡ false →
    is_text_target table target ≡ true → r ≡ has_reference (known_by u table (take place u.statements) []) target → r ≡ is_direct_assignment (given_names u) target
text-step u table target place r are all is text found =
    found
    ∙ ap (λ b. not b || has_reference (known_by u table (take place u.statements) []) target) (sym text)
    ∙ ap (λ b. b || (not (is_text_target table target) || has_reference (known_by u table (take place u.statements) []) target)) (sym is)
    ∙ assignment-step u table target place are all
