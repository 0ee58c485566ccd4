-- The names of a statement are names of its unit.
use Rattle.std.proofs.Common.{◌≡◌, ℕ, zero, suc, ◌<◌, Bool, true, false, ◌||◌, List, [], ◌∷◌, ◌++◌, map, length, bytes_eq, get_or, if◌then◌else◌, refl, ap, sym, ◌∙◌, true≢false, arith}
use Rattle.std.proofs.lemmas.List.{map-append}
use Rattle.std.proofs.lemmas.Slice.Eq.{bytes_eq-Decides}
use Rattle.f_tree.specs.declared.expressions.Expr.{Expr}
use Rattle.f_tree.specs.declared.statements.Body.TheVariants as body
use Rattle.f_tree.specs.declared.statements.Stmt.{Stmt}
use Rattle.f_tree.specs.declared.units.Unit.{Unit as WrittenUnit}
use Rattle.f_tree.specs.Values.{Bytes}
use Rattle.f_tree.specs.Uses.{Use, Declared, all_of, is_among, without, heading_of, defines_function, uses_of, uses_of_assignment, uses_of_body, uses_of_statements, seen_from, first_seen}
use Rattle.f_tree.specs.Attributes.{option_list, named_dummies, arrays_of, names_of}
use Rattle.name_facts.specs.declaration_rows.NameRows.{all_names}
use Rattle.name_table.proofs.SetLemmas.{among_both, among_none}
use Rattle.name_uses.proofs.BodyForms.{uses-Assign}
use Rattle.loop_entries.specs.PassedLabels.{IsStatementOf, use_names}

or_left : (a b : Bool) → a ≡ true → (a || b) ≡ true
or_left true b h = refl
or_left false b h = absurd (true≢false (sym h))

or_right : (a b : Bool) → b ≡ true → (a || b) ≡ true
or_right true b h = refl
or_right false b h = h

-- NAMES AMONG OTHERS
among_step : (x y : Bytes) (ys : List Bytes) → is_among x (y ∷ ys) ≡ (bytes_eq x y || is_among x ys)
unfolding is_among
among_step x y ys = refl

among_head : (x y : Bytes) (ys : List Bytes) → bytes_eq x y ≡ true → is_among x (y ∷ ys) ≡ true
among_head x y ys h = among_step x y ys ∙ or_left (bytes_eq x y) (is_among x ys) h

pub among_first : (x : Bytes) (xs : List Bytes) → is_among x (x ∷ xs) ≡ true
among_first x xs = among_head x x xs ((bytes_eq-Decides x x).1 refl)

among_later : (x y : Bytes) (ys : List Bytes) → is_among x ys ≡ true → is_among x (y ∷ ys) ≡ true
among_later x y ys h = among_step x y ys ∙ or_right (bytes_eq x y) (is_among x ys) h

pub among_front : (x : Bytes) (xs ys : List Bytes) → is_among x xs ≡ true → is_among x (xs ++ ys) ≡ true
among_front x xs ys h = among_both x xs ys ∙ or_left (is_among x xs) (is_among x ys) h

pub among_back : (x : Bytes) (xs ys : List Bytes) → is_among x ys ≡ true → is_among x (xs ++ ys) ≡ true
among_back x xs ys h = among_both x xs ys ∙ or_right (is_among x xs) (is_among x ys) h

-- FIRST SEEN
seen_step : (seen : List Bytes) (u : Use) (us : List Use) → seen_from seen (u ∷ us) ≡ (if is_among u.name seen then seen_from seen us else u.name ∷ seen_from (u.name ∷ seen) us)
unfolding seen_from
seen_step seen u us = refl

seen_by : (seen : List Bytes) (u : Use) (us : List Use) (x : Bytes) (b c : Bool) → is_among u.name seen ≡ b → bytes_eq x u.name ≡ c → is_among x seen ≡ false
    → (c ≡ false → is_among x (seen_from seen us) ≡ true) → (c ≡ false → is_among x (seen_from (u.name ∷ seen) us) ≡ true)
    → is_among x (if b then seen_from seen us else u.name ∷ seen_from (u.name ∷ seen) us) ≡ true
seen_by seen u us x true true there same new rest more =
    absurd (true≢false (sym there ∙ ap (λ y. is_among y seen) (sym ((bytes_eq-Decides x u.name).0 same)) ∙ new))
seen_by seen u us x true false there same new rest more = rest refl
seen_by seen u us x false true there same new rest more = among_head x u.name (seen_from (u.name ∷ seen) us) same
seen_by seen u us x false false there same new rest more = among_later x u.name (seen_from (u.name ∷ seen) us) (more refl)

later_by : (a b : Bool) → (a || b) ≡ true → a ≡ false → b ≡ true
later_by true b h no_more = absurd (true≢false no_more)
later_by false b h no_more = h

seen_among : (us : List Use) (seen : List Bytes) (x : Bytes) → is_among x (use_names us) ≡ true → is_among x seen ≡ false → is_among x (seen_from seen us) ≡ true
seen_among [] seen x h new = absurd (true≢false (sym h ∙ among_none x))
seen_among (u ∷ us) seen x h new =
    let there : (bytes_eq x u.name || is_among x (use_names us)) ≡ true = sym (among_step x u.name (use_names us)) ∙ h in
    ap (is_among x) (seen_step seen u us)
    ∙ seen_by seen u us x (is_among u.name seen) (bytes_eq x u.name) refl refl new
    (λ other. seen_among us seen x (later_by (bytes_eq x u.name) (is_among x (use_names us)) there other) new)
    (λ other. seen_among us (u.name ∷ seen) x (later_by (bytes_eq x u.name) (is_among x (use_names us)) there other)
    (among_step x u.name seen ∙ ap (λ b. b || is_among x seen) other ∙ new))

-- THE NAMES OF A UNIT
abbrev unit_uses : WrittenUnit → List Use
unit_uses u = uses_of_statements (arrays_of u) u.statements

abbrev dummy_uses : WrittenUnit → List Use
dummy_uses u = map (λ y. record { name = y; manner = Declared }) (named_dummies u.dummies)

unit_among : (u : WrittenUnit) (x : Bytes) → is_among x (use_names (unit_uses u)) ≡ true → is_among x (all_names u) ≡ true
unfolding all_names names_of first_seen
unit_among u x h =
    among_back x (option_list u.name) (first_seen (dummy_uses u ++ unit_uses u))
    (seen_among (dummy_uses u ++ unit_uses u) [] x
    (ap (is_among x) (map-append (λ (v : Use). v.name) (dummy_uses u) (unit_uses u)) ∙ among_back x (use_names (dummy_uses u)) (use_names (unit_uses u)) h)
    (among_none x))

statements_step : (arrays : List Bytes) (s : Stmt) (ss : List Stmt) → use_names (uses_of_statements arrays (s ∷ ss)) ≡ use_names (uses_of_body arrays s.body) ++ use_names (uses_of_statements arrays ss)
unfolding uses_of_statements all_of
statements_step arrays s ss = map-append (λ (v : Use). v.name) (uses_of_body arrays s.body) (uses_of_statements arrays ss)

statement_among : (arrays : List Bytes) (ss : List Stmt) (i : ℕ) (d : Stmt) (x : Bytes) → i < length ss → is_among x (use_names (uses_of_body arrays (get_or ss i d).body)) ≡ true
    → is_among x (use_names (uses_of_statements arrays ss)) ≡ true
statement_among arrays [] i d x within h = absurd (omega (arith, within))
statement_among arrays (t ∷ ss) zero d x within h =
    ap (is_among x) (statements_step arrays t ss) ∙ among_front x (use_names (uses_of_body arrays t.body)) (use_names (uses_of_statements arrays ss)) h
statement_among arrays (t ∷ ss) (suc i) d x within h =
    ap (is_among x) (statements_step arrays t ss)
    ∙ among_back x (use_names (uses_of_body arrays t.body)) (use_names (uses_of_statements arrays ss)) (statement_among arrays ss i d x (omega (arith, within)) h)

pub statement_of : (u : WrittenUnit) (ss : List Stmt) (i : ℕ) (s d : Stmt) → ss ≡ u.statements → i < length ss → s ≡ get_or ss i d → IsStatementOf u s.body
statement_of u ss i s d same within is = record {
  named = λ x h.
      unit_among u x
      (ap (λ ts. is_among x (use_names (uses_of_statements (arrays_of u) ts))) (sym same)
      ∙ statement_among (arrays_of u) ss i d x within (ap (λ (t : Stmt). is_among x (use_names (uses_of_body (arrays_of u) t.body))) (sym is) ∙ h));
}

-- DEFINITIONS of statement functions: names that are no dummy arguments
without_by : (x : Bytes) (xs : List Bytes) (u : Use) (us : List Use) (b c : Bool) → is_among u.name xs ≡ b → bytes_eq x u.name ≡ c → is_among x xs ≡ false
    → (c ≡ false → is_among x (use_names (without xs us)) ≡ true) → is_among x (use_names (if b then without xs us else u ∷ without xs us)) ≡ true
without_by x xs u us true true hidden same free more = absurd (true≢false (sym hidden ∙ ap (λ y. is_among y xs) (sym ((bytes_eq-Decides x u.name).0 same)) ∙ free))
without_by x xs u us true false hidden same free more = more refl
without_by x xs u us false true hidden same free more = among_head x u.name (use_names (without xs us)) same
without_by x xs u us false false hidden same free more = among_later x u.name (use_names (without xs us)) (more refl)

without_among : (x : Bytes) (xs : List Bytes) (us : List Use) → is_among x xs ≡ false → is_among x (use_names us) ≡ true → is_among x (use_names (without xs us)) ≡ true
unfolding without
without_among x xs [] free h = absurd (true≢false (sym h ∙ among_none x))
without_among x xs (u ∷ us) free h =
    without_by x xs u us (is_among u.name xs) (bytes_eq x u.name) refl refl free
    (λ other. without_among x xs us free (later_by (bytes_eq x u.name) (is_among x (use_names us)) (sym (among_step x u.name (use_names us)) ∙ h) other))

defined_uses : (arrays : List Bytes) (target e : Expr) (b : Bool) → defines_function arrays (heading_of target) ≡ b → b ≡ true
    → uses_of_assignment arrays (heading_of target) target e ≡ without (heading_of target).arguments (uses_of target ++ uses_of e)
unfolding uses_of_assignment
defined_uses arrays target e b is defines = ap (λ c. if c then without (heading_of target).arguments (uses_of target ++ uses_of e) else uses_of target ++ uses_of e) (is ∙ defines)

pub body_named : (u : WrittenUnit) (target e : Expr) (x : Bytes) → IsStatementOf u (body.Assign target e) → defines_function (arrays_of u) (heading_of target) ≡ true
    → is_among x (heading_of target).arguments ≡ false → is_among x (use_names (uses_of e)) ≡ true → is_among x (all_names u) ≡ true
body_named u target e x stands defines free h =
    stands.named x
    (ap (λ us. is_among x (use_names us)) (uses-Assign (arrays_of u) target e ∙ defined_uses (arrays_of u) target e true defines refl)
    ∙ without_among x (heading_of target).arguments (uses_of target ++ uses_of e) free
    (ap (is_among x) (map-append (λ (v : Use). v.name) (uses_of target) (uses_of e)) ∙ among_back x (use_names (uses_of target)) (use_names (uses_of e)) h))
