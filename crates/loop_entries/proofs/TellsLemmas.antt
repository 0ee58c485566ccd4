-- What is told of a name is what the name may be, by its class.
use Rattle.std.proofs.Common.{◌≡◌, ℕ, Bool, true, false, not, ◌&&◌, List, [], ◌∷◌, ◌++◌, Option, Some, None, option_map, if◌then◌else◌, refl, sym, ap, subst, ◌∙◌}
use Rattle.f_tree.specs.declared.names.Class.{Class}
use Rattle.f_tree.specs.declared.names.Class.TheVariants as class
use Rattle.f_tree.specs.Values.{Bytes, Datum}
use Rattle.f_tree.specs.Terms.{Function, Term, Val, At}
use Rattle.f_tree.specs.Facts.{Attribute}
use Rattle.f_tree.specs.Reading.{Read, valued_only, placed, name_read, function_named, function_read, intrinsic_read, expanded_read, applied_read}
use Rattle.f_tree.specs.Uses.{is_among}
use Rattle.lowering_laws.specs.lowering.Statements.{wants_no_value}
use Rattle.lowering_laws.specs.Layer.{may_be_other}
use Rattle.name_facts.specs.declared.fact.ConstantValue.{ConstantValue}
use Rattle.name_facts.specs.declared.fact.ConstantValue.TheVariants as value
use Rattle.name_facts.specs.GivenFacts.{datum_of, fact_in}
use Rattle.loop_entries.specs.PassedLabels.{MayBe, ReadMayBe, ReadsMayBe, labels_at, constant_labels, own_labels, class_labels, function_labels, joined, with_arguments, Told, name_labels, applied_labels, TellsName, IsToldAs}
use Rattle.loop_entries.proofs.PassedLaws.{valued, values_passed, bound_passed}

one_label : (b : Bool) → not b ≡ not (b && true)
one_label true = refl
one_label false = refl

-- CONSTANTS
abbrev constant_read : Bytes → Option Datum → Read
constant_read x o = elim o [ Some d ↦ record (valued_only (Val d)) { named = Some x } | None ↦ record (valued_only (At x)) { named = Some x } ]

constant_told : (v : Option ConstantValue) (x : Bytes) → ReadMayBe (constant_read x (option_map datum_of v)) (constant_labels v)
unfolding valued_only constant_labels datum_of may_be_other
constant_told None x = record { value = record { tells = λ known. refl }; actual = record { tells = λ known. refl } }
constant_told (Some (value.Integer z)) x = record { value = record { tells = λ known. refl }; actual = record { tells = λ known. refl } }
constant_told (Some (value.Logical b)) x = record { value = record { tells = λ known. refl }; actual = record { tells = λ known. refl } }
constant_told (Some (value.Text cs)) x = record { value = record { tells = λ known. refl }; actual = record { tells = λ known. refl } }
constant_told (Some (value.Label l)) x = record { value = record { tells = λ known. one_label (known l) }; actual = record { tells = λ known. one_label (known l) } }

constant_passed : (v : Option ConstantValue) (o : Option Datum) (x : Bytes) → option_map datum_of v ≡ o → ReadMayBe (constant_read x o) (constant_labels v)
constant_passed v o x is = subst (λ (d : Option Datum). ReadMayBe (constant_read x d) (constant_labels v)) is (constant_told v x)

-- STATEMENT FUNCTIONS
expansion_passed : (e : Option Term) (own : Option (List ℕ)) (x : Bytes) → IsToldAs e own → ReadMayBe (elim e [ Some t ↦ valued_only t | None ↦ valued_only (At x) ]) (own_labels own)
unfolding IsToldAs own_labels may_be_other
expansion_passed None None x told = valued (At x) [] (record { tells = λ known. refl })
expansion_passed (Some t) (Some labels) x told = valued t labels told
expansion_passed None (Some labels) x told = absurd told
expansion_passed (Some t) None x told = absurd told

-- A NAME ALONE
alone_by : (k : Class) (x : Bytes) (a : Attribute) (v : Option ConstantValue) (own : Option (List ℕ)) → option_map datum_of v ≡ a.constant
    → (k ≡ class.StatementFunction → IsToldAs a.expansion own) → ReadMayBe (name_read x (record a { class = k })) (class_labels k v own)
unfolding name_read class_labels valued_only placed may_be_other
alone_by class.Constant x a v own is told = constant_passed v a.constant x is
alone_by class.StatementFunction x a v own is told = expansion_passed a.expansion own x (told refl)
alone_by class.Procedure x a v own is told = record { value = record { tells = λ known. refl }; actual = record { tells = λ known. refl } }
alone_by class.DummyProcedure x a v own is told = record { value = record { tells = λ known. refl }; actual = record { tells = λ known. refl } }
alone_by class.Intrinsic x a v own is told = record { value = record { tells = λ known. refl }; actual = record { tells = λ known. refl } }
alone_by _ x a v own is told = record { value = record { tells = λ known. refl }; actual = record { tells = λ known. refl } }

-- A NAME WITH A LIST
function_passed : (x : Bytes) (a : Attribute) (rs : List Read) → ReadMayBe (function_read x a rs) []
unfolding function_read valued_only may_be_other wants_no_value
function_passed x a rs = record { value = record { tells = λ known. refl }; actual = record { tells = λ known. refl } }

intrinsic_passed : (x : Bytes) (a : Attribute) (rs : List Read) (f : Option Function) → ReadMayBe (intrinsic_read x a rs f) []
unfolding intrinsic_read valued_only may_be_other
intrinsic_passed x a rs None = function_passed x a rs
intrinsic_passed x a rs (Some f) = record { value = record { tells = λ known. refl }; actual = record { tells = λ known. refl } }

expanded_passed : (x : Bytes) (a : Attribute) (e : Option Term) (own : Option (List ℕ)) (rs : List Read) (more : List (List ℕ)) → IsToldAs e own → ReadsMayBe rs more
    → ReadMayBe (expanded_read x a rs e) (with_arguments own more)
unfolding expanded_read with_arguments IsToldAs
expanded_passed x a None None rs more told are = function_passed x a rs
expanded_passed x a (Some t) (Some labels) rs more told are = valued _ (joined more ++ labels) (bound_passed _ t (joined more) labels (values_passed rs more are) told)
expanded_passed x a None (Some labels) rs more told are = absurd told
expanded_passed x a (Some t) None rs more told are = absurd told

applied_by : (k : Class) (x : Bytes) (a : Attribute) (own : Option (List ℕ)) (rs : List Read) (more : List (List ℕ)) → (k ≡ class.StatementFunction → IsToldAs a.expansion own) → ReadsMayBe rs more
    → ReadMayBe (applied_read x (record a { class = k }) rs) (with_arguments (function_labels k own) more)
unfolding applied_read function_labels with_arguments valued_only placed may_be_other
applied_by class.Intrinsic x a own rs more told are = intrinsic_passed x (record a { class = class.Intrinsic }) rs (function_named x)
applied_by class.StatementFunction x a own rs more told are = expanded_passed x (record a { class = class.StatementFunction }) a.expansion own rs more (told refl) are
applied_by class.Procedure x a own rs more told are = function_passed x (record a { class = class.Procedure }) rs
applied_by class.DummyProcedure x a own rs more told are = function_passed x (record a { class = class.DummyProcedure }) rs
applied_by class.Result x a own rs more told are = function_passed x (record a { class = class.Result }) rs
applied_by _ x a own rs more told are = record { value = record { tells = λ known. refl }; actual = record { tells = λ known. refl } }

-- A NAME, unless it is a dummy argument
module _ (told : Told) (x : Bytes) where
  pub name_free : is_among x told.dummies ≡ false → class_labels (fact_in told.table x).class (fact_in told.table x).constant (labels_at told.functions x) ≡ name_labels told x
  unfolding name_labels
  name_free free = sym (ap (λ c. if c then [] else class_labels (fact_in told.table x).class (fact_in told.table x).constant (labels_at told.functions x)) free)

  pub applied_free : (more : List (List ℕ)) → is_among x told.dummies ≡ false → with_arguments (function_labels (fact_in told.table x).class (labels_at told.functions x)) more ≡ applied_labels told x more
  unfolding applied_labels
  applied_free more free = sym (ap (λ c. if c then joined more else with_arguments (function_labels (fact_in told.table x).class (labels_at told.functions x)) more) free)

  pub name_bound : is_among x told.dummies ≡ true → [] ≡ name_labels told x
  unfolding name_labels
  name_bound there = sym (ap (λ c. if c then [] else class_labels (fact_in told.table x).class (fact_in told.table x).constant (labels_at told.functions x)) there)

  pub applied_bound : (more : List (List ℕ)) → is_among x told.dummies ≡ true → joined more ≡ applied_labels told x more
  unfolding applied_labels
  applied_bound more there = sym (ap (λ c. if c then joined more else with_arguments (function_labels (fact_in told.table x).class (labels_at told.functions x)) more) there)

pub told_name : (told : Told) (x : Bytes) (a : Attribute) → is_among x told.dummies ≡ false → (fact_in told.table x).class ≡ a.class → option_map datum_of (fact_in told.table x).constant ≡ a.constant
    → (a.class ≡ class.StatementFunction → IsToldAs a.expansion (labels_at told.functions x)) → TellsName a told x
told_name told x a free classed fixed known =
    let fact = fact_in told.table x in
    let own = labels_at told.functions x in
    let by_class : fact.class ≡ class.StatementFunction → IsToldAs a.expansion own = λ is. known (sym classed ∙ is) in
    record {
      alone =
          subst (ReadMayBe (name_read x a)) (name_free told x free)
          (subst (λ k. ReadMayBe (name_read x (record a { class = k })) (class_labels fact.class fact.constant own)) classed (alone_by fact.class x a fact.constant own fixed by_class));
      applied = λ rs more are.
          subst (ReadMayBe (applied_read x a rs)) (applied_free told x more free)
          (subst (λ k. ReadMayBe (applied_read x (record a { class = k }) rs) (with_arguments (function_labels fact.class own) more)) classed (applied_by fact.class x a own rs more by_class are));
    }

-- a dummy argument of a statement function, whose term is no label
append_none : (xs : List ℕ) → xs ++ [] ≡ xs
append_none [] = refl
append_none (x ∷ xs) = ap (λ ys. x ∷ ys) (append_none xs)

bound_alone : (x : Bytes) (a : Attribute) (t : Term) → MayBe t [] → ReadMayBe (name_read x (record a { class = class.StatementFunction; expansion = Some t })) []
unfolding name_read
bound_alone x a t none = valued t [] none

bound_applied : (x : Bytes) (a : Attribute) (t : Term) (rs : List Read) (more : List (List ℕ)) → MayBe t [] → ReadsMayBe rs more
    → ReadMayBe (applied_read x (record a { class = class.StatementFunction; expansion = Some t }) rs) (joined more ++ [])
unfolding applied_read expanded_read
bound_applied x a t rs more none are = valued _ (joined more ++ []) (bound_passed _ t (joined more) [] (values_passed rs more are) none)

pub told_dummy : (told : Told) (x : Bytes) (a : Attribute) (t : Term) → is_among x told.dummies ≡ true → MayBe t [] → TellsName (record a { class = class.StatementFunction; expansion = Some t }) told x
told_dummy told x a t there none = record {
  alone = subst (ReadMayBe (name_read x (record a { class = class.StatementFunction; expansion = Some t }))) (name_bound told x there) (bound_alone x a t none);
  applied = λ rs more are.
      subst (ReadMayBe (applied_read x (record a { class = class.StatementFunction; expansion = Some t }) rs)) (append_none (joined more) ∙ applied_bound told x more there)
      (bound_applied x a t rs more none are);
}

-- is a name that of a statement function
pub functions_one : (k : Class) (own : Option (List ℕ)) → class.StatementFunction ≡ k → own ≡ function_labels k own
unfolding function_labels
functions_one k own is = ap (λ c. function_labels c own) is

pub functions_other : (k : Class) (own : Option (List ℕ)) → (k ≡ class.StatementFunction → ⊥) → None ≡ function_labels k own
unfolding function_labels
functions_other class.StatementFunction own other = absurd (other refl)
functions_other _ own other = refl

pub applied_none : (o : Option (List ℕ)) (more : List (List ℕ)) → o ≡ None → with_arguments o more ≡ []
unfolding with_arguments
applied_none o more is = ap (λ p. with_arguments p more) is

pub applied_some : (o : Option (List ℕ)) (labels : List ℕ) (more : List (List ℕ)) → o ≡ Some labels → joined more ++ labels ≡ with_arguments o more
unfolding with_arguments
applied_some o labels more is = sym (ap (λ p. with_arguments p more) is)

-- the labels of a name by its class
pub class_Constant : (k : Class) (v : Option ConstantValue) (own : Option (List ℕ)) → class.Constant ≡ k → constant_labels v ≡ class_labels k v own
unfolding class_labels
class_Constant k v own is = ap (λ c. class_labels c v own) is

pub class_Function : (k : Class) (v : Option ConstantValue) (own : Option (List ℕ)) → class.StatementFunction ≡ k → own_labels own ≡ class_labels k v own
unfolding class_labels
class_Function k v own is = ap (λ c. class_labels c v own) is

pub class_other : (k : Class) (v : Option ConstantValue) (own : Option (List ℕ)) → (k ≡ class.Constant → ⊥) → (k ≡ class.StatementFunction → ⊥) → class_labels k v own ≡ []
unfolding class_labels
class_other class.Constant v own one other = absurd (one refl)
class_other class.StatementFunction v own one other = absurd (other refl)
class_other _ v own one other = refl
