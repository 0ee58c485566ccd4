-- Definitions of statement functions noted one behind the other.
use Rattle.std.specs.Prelude.{◌≡◌, ℕ, Bool, true, false, List, [], ◌∷◌, ◌++◌, bytes_eq, Option, Some, None, is_some, option_map, if◌then◌else◌}
use Rattle.std.proofs.Common.{Result, Ok, Err, OnOk, refl, sym, ap, ◌∙◌, true≢false}
use Rattle.std.proofs.lemmas.Slice.Eq.{bytes_eq-Decides}
use Rattle.f_tree.specs.Values.{Bytes}
use Rattle.f_tree.specs.Folds.{layer_of}
use Rattle.f_tree.specs.Uses.{Heading, heading_of, defines_function}
use Rattle.f_tree.specs.declared.expressions.Expr.{Expr}
use Rattle.f_tree.specs.declared.statements.Body.{Body, Assign, IfOne', more_of-Body}
use Rattle.f_tree.specs.declared.statements.Body.TheVariants as body
use Rattle.f_tree.specs.declared.statements.Stmt.{Stmt}
use Rattle.f_tree.specs.declared.units.Unit.{Unit as WrittenUnit}
use Rattle.f_tree.specs.Attributes.{Definition, from_all, definitions_in, definition_by, arrays_of}
use Rattle.declaration_rows.specs.ExpansionRows.{Sized, nodes_of_function, nodes_of, sized_from, functions_of, unit_expansion_rows}
use Rattle.declaration_rows.specs.NameRows.{definitions_of}
use Rattle.name_table.specs.declared.NameTable.{NameTable}
use Rattle.name_table.specs.Named.{value_of}
use Rattle.expansion_judge.specs.declared.counts.Counted.{Counted}
use Rattle.expansion_judge.specs.NodesCounted.{capped, seen, count_by, rows_by, AreSized, Sizes, definition_of}
use Rattle.expansion_judge.proofs.CountLaws.{expression_seen, rows_seen}

-- ONE MORE FUNCTION

or_else : Option ℕ → Option ℕ → Option ℕ
or_else (Some k) o = Some k
or_else None o = o

else_by : (b : Bool) (k : ℕ) (o p : Option ℕ) → (if b then Some k else or_else o p) ≡ or_else (if b then Some k else o) p
unfolding or_else
else_by true k o p = refl
else_by false k o p = refl

more_functions : (x : Bytes) (fs : List Sized) (s : Sized) → nodes_of_function x (fs ++ s ∷ []) ≡ or_else (nodes_of_function x fs) (if bytes_eq s.name x then Some s.nodes else None)
unfolding nodes_of_function or_else
more_functions x [] s = refl
more_functions x (f ∷ fs) s =
    ap (λ o. if bytes_eq f.name x then Some f.nodes else o) (more_functions x fs s) ∙ else_by (bytes_eq f.name x) f.nodes (nodes_of_function x fs) (if bytes_eq s.name x then Some s.nodes else None)

some_kept : (o p : Option ℕ) → is_some o ≡ true → or_else o p ≡ o
unfolding or_else
some_kept (Some k) p h = refl
some_kept None p h = absurd (true≢false (sym h))

some_capped : (o p : Option ℕ) → p ≡ option_map capped o → is_some p ≡ true → is_some o ≡ true
some_capped (Some k) p is h = refl
some_capped None p is h = sym (ap is_some is) ∙ h

none_capped : (o p : Option ℕ) → p ≡ option_map capped o → is_some p ≡ false → o ≡ None
none_capped (Some k) p is h = absurd (true≢false (sym (ap is_some is) ∙ h))
none_capped None p is h = refl

pub sized_as : (t : NameTable ℕ) (fs gs : List Sized) → fs ≡ gs → AreSized t fs → AreSized t gs
sized_as t fs gs is known = record { sized = λ x. known.sized x ∙ ap (λ hs. option_map capped (nodes_of_function x hs)) is }

one_sized : (fs : List Sized) (x : Bytes) (e : Expr) → sized_from fs (definition_of x e ∷ []) ≡ fs ++ record { name = x; nodes = (nodes_of fs e).count } ∷ []
unfolding sized_from definition_of
one_sized fs x e = refl

kept_by : (e : Bool) (k : ℕ) (o : Option ℕ) → (e ≡ true → is_some o ≡ true) → or_else o (if e then Some k else None) ≡ o
unfolding or_else
kept_by true k o h = some_kept o (Some k) (h refl)
kept_by false k (Some j) h = refl
kept_by false k None h = refl

same_function : (t : NameTable ℕ) (x y : Bytes) → bytes_eq x y ≡ true → value_of t x ≡ value_of t y
same_function t x y h = ap (value_of t) ((bytes_eq-Decides x y).0 h)

-- a second function of the name counts for nothing
pub sizes_again : (t : NameTable ℕ) (x : Bytes) (e : Expr) → is_some (value_of t x) ≡ true → Sizes t t (definition_of x e ∷ [])
sizes_again t x e h = record {
  sized = λ fs known.
      sized_as t (fs ++ record { name = x; nodes = (nodes_of fs e).count } ∷ []) (sized_from fs (definition_of x e ∷ [])) (sym (one_sized fs x e))
      (record {
        sized = λ y.
            known.sized y
            ∙ ap (option_map capped) (sym (more_functions y fs (record { name = x; nodes = (nodes_of fs e).count })
            ∙ kept_by (bytes_eq x y) (nodes_of fs e).count (nodes_of_function y fs)
            (λ same. some_capped (nodes_of_function y fs) (value_of t y) (known.sized y) (ap is_some (sym (same_function t x y same)) ∙ h))));
      });
}

some_is_none : (i : ℕ) → Some i ≡ None → ⊥
some_is_none i h = true≢false (ap is_some h)

put_by : (e : Bool) (k j : ℕ) (o p : Option ℕ) → p ≡ option_map capped o → k ≡ capped j → (e ≡ true → o ≡ None)
    → (if e then Some k else p) ≡ option_map capped (or_else o (if e then Some j else None))
unfolding or_else
put_by true k j (Some i) p is same none = absurd (some_is_none i (none refl))
put_by true k j None p is same none = ap Some same
put_by false k j (Some i) p is same none = is
put_by false k j None p is same none = is

pub sizes_one : (t after : NameTable ℕ) (x : Bytes) (e : Expr) (k : ℕ) → is_some (value_of t x) ≡ false → k ≡ (count_by t e).count
    → ((q : List ℕ) → value_of after q ≡ (if bytes_eq x q then Some k else value_of t q)) → Sizes t after (definition_of x e ∷ [])
unfolding seen
sizes_one t after x e k h is put = record {
  sized = λ fs known.
      sized_as after (fs ++ record { name = x; nodes = (nodes_of fs e).count } ∷ []) (sized_from fs (definition_of x e ∷ [])) (sym (one_sized fs x e))
      (record {
        sized = λ y.
            put y
            ∙ put_by (bytes_eq x y) k (nodes_of fs e).count (nodes_of_function y fs) (value_of t y) (known.sized y)
            (is ∙ ap (λ (c : Counted). c.count) (expression_seen t fs known e))
            (λ same. none_capped (nodes_of_function y fs) (value_of t y) (known.sized y) (ap is_some (sym (same_function t x y same)) ∙ h))
            ∙ ap (option_map capped) (sym (more_functions y fs (record { name = x; nodes = (nodes_of fs e).count })));
      });
}

-- a function is noted where memory did not run out
pub sizes_put : {A E : Type 0} (r : Result A E) (t after : NameTable ℕ) (x : Bytes) (e : Expr) (k : ℕ) → is_some (value_of t x) ≡ false → k ≡ (count_by t e).count
    → OnOk r ((q : List ℕ) → value_of after q ≡ (if bytes_eq x q then Some k else value_of t q)) → OnOk r (Sizes t after (definition_of x e ∷ []))
sizes_put (Ok v) t after x e k h is put = sizes_one t after x e k h is put
sizes_put (Err v) t after x e k h is put = put

pub sizes_none : (t : NameTable ℕ) (ds : List Definition) → ds ≡ [] → Sizes t t ds
unfolding sized_from
sizes_none t ds is = record { sized = λ fs known. sized_as t fs (sized_from fs ds) (sym (ap (sized_from fs) is)) known }

-- one definition by another with the same name and expression
alike_sized : (fs : List Sized) (x : Bytes) (e : Expr) (ds : List Definition) → ds ≡ definition_of x e ∷ [] → sized_from fs ds ≡ sized_from fs (definition_of x e ∷ [])
alike_sized fs x e ds is = ap (sized_from fs) is

-- DEFINITIONS OF STATEMENTS
sized_both : (fs : List Sized) (ds es : List Definition) → sized_from fs (ds ++ es) ≡ sized_from (sized_from fs ds) es
unfolding sized_from
sized_both fs [] es = refl
sized_both fs (d ∷ ds) es = sized_both (fs ++ record { name = d.name; nodes = (nodes_of fs d.body).count } ∷ []) ds es

pub sized_step : (arrays : List Bytes) (fs : List Sized) (s : Stmt) (ss : List Stmt)
    → sized_from fs (from_all (definitions_in arrays) (s ∷ ss)) ≡ sized_from (sized_from fs (definitions_in arrays s.body)) (from_all (definitions_in arrays) ss)
unfolding from_all
sized_step arrays fs s ss = sized_both fs (definitions_in arrays s.body) (from_all (definitions_in arrays) ss)

pub sized_end : (arrays : List Bytes) (fs : List Sized) → sized_from fs (from_all (definitions_in arrays) []) ≡ fs
unfolding from_all sized_from
sized_end arrays fs = refl

defined_by : (b : Bool) (h : Heading) (e : Expr) → b ≡ false → (if b then definition_by h e else []) ≡ []
defined_by b h e is = ap (λ c. if c then definition_by h e else []) is

pub defines_not : (arrays : List Bytes) (target e : Expr) → defines_function arrays (heading_of target) ≡ false → definitions_in arrays (body.Assign target e) ≡ []
unfolding definitions_in layer_of
defines_not arrays target e is = defined_by (defines_function arrays (heading_of target)) (heading_of target) e is

unnamed : (h : Heading) (e : Expr) → h.applied ≡ None → definition_by h e ≡ []
unfolding definition_by
unnamed h e is = ap (λ o. elim o [ None ↦ [] | Some x ↦ record { name = x; dummies = h.arguments; body = e } ∷ [] ]) is

either_none : (b : Bool) (ds : List Definition) → ds ≡ [] → (if b then ds else []) ≡ []
either_none true ds is = is
either_none false ds is = refl

pub defines_none : (arrays : List Bytes) (target e : Expr) → (heading_of target).applied ≡ None → definitions_in arrays (body.Assign target e) ≡ []
unfolding definitions_in layer_of
defines_none arrays target e is = either_none (defines_function arrays (heading_of target)) (definition_by (heading_of target) e) (unnamed (heading_of target) e is)

defined_is : (fs : List Sized) (b : Bool) (o : Option Bytes) (x : Bytes) (xs : List Bytes) (e : Expr) → b ≡ true → o ≡ Some x
    → sized_from fs (if b then (elim o [ None ↦ [] | Some y ↦ record { name = y; dummies = xs; body = e } ∷ [] ]) else []) ≡ fs ++ record { name = x; nodes = (nodes_of fs e).count } ∷ []
unfolding sized_from
defined_is fs b o x xs e is named =
    ap (λ c. sized_from fs (if c then (elim o [ None ↦ [] | Some y ↦ record { name = y; dummies = xs; body = e } ∷ [] ]) else [])) is
    ∙ ap (λ (p : Option Bytes). sized_from fs (elim p [ None ↦ [] | Some y ↦ record { name = y; dummies = xs; body = e } ∷ [] ])) named

-- dummy arguments do not count
pub sizes_defined : (t after : NameTable ℕ) (arrays : List Bytes) (x : Bytes) (target e : Expr) → defines_function arrays (heading_of target) ≡ true → (heading_of target).applied ≡ Some x
    → Sizes t after (definition_of x e ∷ []) → Sizes t after (definitions_in arrays (body.Assign target e))
unfolding definitions_in layer_of definition_by sized_from definition_of
sizes_defined t after arrays x target e is named sizes = record {
  sized = λ fs known.
      sized_as after (fs ++ record { name = x; nodes = (nodes_of fs e).count } ∷ []) (sized_from fs (definitions_in arrays (body.Assign target e)))
      (sym (defined_is fs (defines_function arrays (heading_of target)) (heading_of target).applied x (heading_of target).arguments e is named)) (sizes.sized fs known);
}

pub defines_other : (arrays : List Bytes) (b : Body) → ((target e : Expr) → b ≡ body.Assign target e → ⊥) → definitions_in arrays b ≡ []
unfolding definitions_in layer_of
defines_other arrays (Assign target e) other = absurd (other target e refl)
defines_other arrays (IfOne' e s (more_of-Body b r)) other = refl
defines_other arrays _ other = refl

pub nothing_sized : (t : NameTable ℕ) → ((q : List ℕ) → value_of t q ≡ None) → AreSized t []
unfolding nodes_of_function
nothing_sized t none = record { sized = λ x. none x }

-- the rows of a unit, by what a table has of its statement functions
pub rows_found : (u : WrittenUnit) (t : NameTable ℕ) (arrays : List Bytes) (ss more : List Stmt) → arrays ≡ arrays_of u → ss ≡ u.statements → more ≡ u.statements
    → AreSized t (sized_from [] (from_all (definitions_in arrays) ss)) → rows_by t more ≡ unit_expansion_rows u
unfolding unit_expansion_rows functions_of definitions_of
rows_found u t arrays ss more named is also known =
    ap (rows_by t) also
    ∙ rows_seen t (functions_of u)
    (sized_as t (sized_from [] (from_all (definitions_in arrays) ss)) (functions_of u)
    (ap (λ xs. sized_from [] (from_all (definitions_in xs) ss)) named ∙ ap (λ rs. sized_from [] (from_all (definitions_in (arrays_of u)) rs)) is) known) u.statements
