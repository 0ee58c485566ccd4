-- When C statements have given items as their flat form, where names in scope stand for what they are taken to stand for. C89, 3.1.2.1 and 3.6.
use Rattle.std.specs.Prelude.{◌≡◌, ℕ, suc, ◌+◌, true, List, [], ◌∷◌, ◌++◌, map, length, Option, Some, None}
use Rattle.c_laws.specs.c_tree.declared.expression.CExpr.{CExpr}
use Rattle.c_laws.specs.c_tree.declared.statement.CStmt.{CStmt}
use Rattle.c_laws.specs.c_tree.Access.{Access, ToChar}
use Rattle.c_laws.specs.c_tree.Terms.{Term, Variable, Array, Routine, Prefixed, Cast, Between, Choice, Element, Field, Most, Magnitude}
use Rattle.c_laws.specs.c_tree.Flat.{Flat, Assign, Branch, Select, Invoke, Return, Ignored, Kept, Callee, Direct, Through}
use Rattle.c_laws.specs.c_tree.Drafts.{Scope, Draft}
use Rattle.c_laws.specs.c_tree.LinkedExpressions.{linked}
use Rattle.c_laws.specs.c_tree.FlatForm.{LabelAt, Labels, Body, body_of_all}
use Rattle.c_structure.specs.Expressions.{Names, expr_for, strings_in}
use Rattle.c_structure.specs.Statements.{Outline, strings_of_items, statements_for}

-- ## Names

-- an array by its name; the accesses to a string are those to `char`
abbrev pub KnowsArray : Scope → List ℕ → Option (List ℕ) → ℕ → Access → Type 0
KnowsArray scope name None k access = scope name ≡ Array k access
KnowsArray scope name (Some bytes) k access = access ≡ ToChar

-- the names in scope stand for the objects of an expression
abbrev pub Knows : Scope → Names → Term → Type 0
Knows scope names (Variable k access) = scope (names.object k) ≡ Variable k access
Knows scope names (Array k access) = KnowsArray scope (names.object k) (names.string k) k access
Knows scope names (Routine k) = scope (names.routine k) ≡ Routine k
Knows scope names (Prefixed op t) = Knows scope names t
Knows scope names (Cast type t) = Knows scope names t
Knows scope names (Between op t u) = Knows scope names t × Knows scope names u
Knows scope names (Choice t u v) = Knows scope names t × Knows scope names u × Knows scope names v
Knows scope names (Element t u) = Knows scope names t × Knows scope names u
Knows scope names (Field t name) = Knows scope names t
Knows scope names (Most which t u) = Knows scope names t × Knows scope names u
Knows scope names (Magnitude t) = Knows scope names t
Knows scope names other = Unit {0}

abbrev pub KnowsAll : Scope → Names → List Term → Type 0
KnowsAll scope names [] = Unit {0}
KnowsAll scope names (t ∷ ts) = Knows scope names t × KnowsAll scope names ts

-- the function that is called, or the parameter that points to it
abbrev pub KnowsCallee : Scope → Names → Callee → Type 0
KnowsCallee scope names (Direct k) = scope (names.routine k) ≡ Routine k
KnowsCallee scope names (Through t) = Knows scope names t
KnowsCallee scope names other = Unit {0}

-- and for the objects and functions of an item
abbrev pub KnowsItem : Scope → Names → Flat → Type 0
KnowsItem scope names (Assign t u) = Knows scope names t × Knows scope names u
KnowsItem scope names (Branch test on off) = Knows scope names test
KnowsItem scope names (Select value cases otherwise) = Knows scope names value
KnowsItem scope names (Invoke Ignored callee arguments) = KnowsCallee scope names callee × KnowsAll scope names arguments
KnowsItem scope names (Invoke (Kept t) callee arguments) = Knows scope names t × KnowsCallee scope names callee × KnowsAll scope names arguments
KnowsItem scope names (Return (Some t)) = Knows scope names t
KnowsItem scope names other = Unit {0}

abbrev pub KnowsItems : Scope → Names → List Flat → Type 0
KnowsItems scope names [] = Unit {0}
KnowsItems scope names (item ∷ later) = KnowsItem scope names item × KnowsItems scope names later

-- ## What is drawn

-- strings have the numbers from one on
abbrev pub AreNumbered : ℕ → List ℕ → Type 0
AreNumbered first [] = Unit {0}
AreNumbered first (k ∷ ks) = (k ≡ first) × AreNumbered (first + 1) ks

-- the bytes are those of the strings with these numbers
abbrev pub AreBytesOf : Names → List (List ℕ) → List ℕ → Type 0
AreBytesOf names strings ks = map Some strings ≡ map names.string ks

-- a part with the strings of these numbers, where they are numbered
pub record IsDrawn {A : Type 0} (names : Names) (scope : Scope) (ks : List ℕ) (draft : Draft A) (thing : A) : Type 0 where
  pub strings : AreBytesOf names draft.strings ks
  pub drawn : (first : ℕ) → AreNumbered first ks → draft.drawn scope first ≡ thing

-- the labels before the items from a position on
abbrev pub mark_at : ℕ → Option (List ℕ) → List LabelAt
mark_at n None = []
mark_at n (Some name) = record { name = name; position = n } ∷ []

abbrev pub marks_from : (ℕ → Option (List ℕ)) → ℕ → List Flat → List LabelAt
marks_from label n [] = []
marks_from label n (item ∷ later) = mark_at n (label n) ++ marks_from label (suc n) later

-- statements that have these items and these labels, from a position on
pub record Fits (o : Outline) (scope : Scope) (labels : Labels) (n : ℕ) (items : List Flat) (b : Body) : Type 0 where
  pub size : b.size ≡ length items
  pub strings : AreBytesOf o.names b.items.strings (strings_of_items o.names items)
  pub marks : b.labels n ≡ marks_from o.label n items
  pub drawn : (first : ℕ) → AreNumbered first (strings_of_items o.names items) → b.items.drawn scope first labels n ≡ items

-- each label that is said to stand somewhere is found there, and none stands before the jump at the end of an arm
pub record AreLabels (o : Outline) (labels : Labels) : Type 0 where
  pub found : (n : ℕ) (name : List ℕ) → o.label n ≡ Some name → labels name ≡ Some n
  pub none : (n : ℕ) → o.ends_arm n ≡ true → o.label n ≡ None

-- LAWS
abbrev pub ExpressionsAreTheirs : Type 0
ExpressionsAreTheirs = (scope : Scope) (names : Names) (t : Term) (e : CExpr) → expr_for names t ≡ Some e → Knows scope names t → IsDrawn names scope (strings_in names t) (linked e) t

abbrev pub StatementsAreTheirs : Type 0
StatementsAreTheirs = (o : Outline) (scope : Scope) (labels : Labels) (turns n : ℕ) (items : List Flat) (ss : List CStmt) → AreLabels o labels → statements_for o turns n items ≡ Some ss → KnowsItems scope o.names items →
    Fits o scope labels n items (body_of_all ss)
