-- What the code computes of constant expressions is what the definitions say of them.
use Rattle.std.proofs.Common.{◌≡◌, ℤ, Bool, true, false, List, [], ◌∷◌, Option, Some, None, Result, Ok, Err, IfOk, option_map, if◌then◌else◌, bytes_eq, refl, ap, sym, ◌∙◌}
use Rattle.f_tree.specs.declared.expressions.Expr.{Expr}
use Rattle.f_tree.specs.Values.{Bytes, Datum, IsInt}
use Rattle.f_tree.specs.Terms.{Term}
use Rattle.f_tree.specs.Facts.{Attribute}
use Rattle.f_tree.specs.Uses.{is_among}
use Rattle.f_tree.specs.Valuing.{Red, Valued, Bad, Asks, reduce}
use Rattle.f_tree.specs.Reading.{read}
use Rattle.f_tree.specs.Attributes as written
use Rattle.f_tree.specs.Attributes.{Constant, constant_among, bare, constant_or_stored, over_constants, no_facts, no_frame, value_if_valued, integer_if_valued, constant_term}
use Rattle.name_facts.specs.declared.fact.ConstantValue.{ConstantValue}
use Rattle.name_facts.specs.declared.fact.ConstantValue.TheVariants as value
use Rattle.name_facts.specs.GivenFacts.{datum_of}
use Rattle.constant_values.specs.declared.constants.Constants.{Constants}
use Rattle.constant_values.specs.Folded.{KnownNames, folded, value_given, function_given, IsKnownAs}
use Rattle.constant_values.specs.KnownConstants.{entry_in, value_or_none, constant_in, entry_among, AreConstants, function_if, known_by, IsValueOf, integer_of, IsBoundOf}
use Rattle.constant_values.specs.Operands.{data_of}
use Rattle.constant_values.proofs.PlainData.{plain, plain_option}
use Rattle.constant_values.proofs.ValueLaw.{value-folded}

plain-value : (o : Option ConstantValue) → plain_option (option_map datum_of o) ≡ true
unfolding plain_option plain datum_of
plain-value None = refl
plain-value (Some (value.Integer z)) = refl
plain-value (Some (value.Logical b)) = refl
plain-value (Some (value.Text cs)) = refl
plain-value (Some (value.Label l)) = refl

among-by : (b : Bool) (here : Option Datum) (entry : Option (Option Datum)) (later : Option Datum) → value_or_none entry ≡ later →
    value_or_none (if b then Some here else entry) ≡ (if b then here else later)
unfolding value_or_none
among-by true here entry later is = refl
among-by false here entry later is = is

-- the first definition of a name, with its value
among-entry : (x : Bytes) (cs : List Constant) → value_or_none (entry_among x cs) ≡ constant_among x cs
unfolding value_or_none entry_among constant_among
among-entry x [] = refl
among-entry x (c ∷ cs) = among-by (bytes_eq c.name x) c.value (entry_among x cs) (constant_among x cs) (among-entry x cs)

mapped-entry : (o : Option (Option ConstantValue)) → option_map datum_of (value_or_none o) ≡ value_or_none (option_map (option_map datum_of) o)
unfolding value_or_none
mapped-entry None = refl
mapped-entry (Some v) = refl

pub constant-value-in : (cs : List Constant) (table : Constants) → AreConstants cs table → (x : Bytes) → option_map datum_of (constant_in table x) ≡ constant_among x cs
unfolding constant_in
constant-value-in cs table are x = mapped-entry (entry_in table x) ∙ ap value_or_none (are.entries x) ∙ among-entry x cs

constant-known : (x : Bytes) (o : Option Datum) (known : KnownNames) → known.value x ≡ o → known.function x ≡ None → IsKnownAs x (constant_or_stored o) known
unfolding constant_or_stored bare value_given function_given
constant-known x None known v f = record { value = v; function = f; expansion = refl }
constant-known x (Some d) known v f = record { value = v; function = f; expansion = refl }

no-function : (x : Bytes) → function_if x [] ≡ None
unfolding function_if is_among
no-function x = refl

pub constant-folded : (cs : List Constant) (table : Constants) → AreConstants cs table → (e : Expr) → written.constant_value cs e ≡ folded (known_by table []) e []
unfolding Rattle.f_tree.specs.Attributes.constant_value over_constants known_by
constant-folded cs table are e =
    value-folded (over_constants cs) (known_by table []) (λ x. constant-known x (constant_among x cs) (known_by table []) (constant-value-in cs table are x) (no-function x))
    (λ x. plain-value (constant_in table x)) e

pub is-value : {E : Type 0} (r : Result (Option ConstantValue) E) (table : Constants) (functions : List Bytes) (e : Expr) → functions ≡ []
    → IfOk r (λ v. option_map datum_of v ≡ folded (known_by table functions) e (data_of [])) → IfOk r (λ v. IsValueOf table e v)
unfolding data_of
is-value (Ok v) table functions e none is = record {
  value = λ cs are. is ∙ ap (λ xs. folded (known_by table xs) e []) none ∙ sym (constant-folded cs table are e);
}
is-value (Err x) table functions e none is = is

-- NUMBERS OF DIMENSIONS
integer-valued : (r : Red Datum Term) → integer_if_valued r ≡ integer_of (value_if_valued r)
unfolding integer_if_valued value_if_valued integer_of
integer-valued (Valued (IsInt z)) = refl
integer-valued (Valued _) = refl
integer-valued (Bad act) = refl
integer-valued (Asks c ds rest) = refl

pub bound-folded : (table : Constants) (functions : List Bytes) (e : Expr) (names : Bytes → Attribute) → ((x : Bytes) → IsKnownAs x (names x) (known_by table functions)) →
    constant_term (read names e).value ≡ integer_of (folded (known_by table functions) e [])
unfolding constant_term known_by
bound-folded table functions e names are =
    integer-valued (reduce no_facts no_frame [] [] (read names e).value)
    ∙ ap integer_of (value-folded names (known_by table functions) are (λ x. plain-value (constant_in table x)) e)

pub is-bound : (table : Constants) (functions : List Bytes) (e : Expr) (v : Option ConstantValue) (n : Option ℤ) → n ≡ integer_of (option_map datum_of v)
    → option_map datum_of v ≡ folded (known_by table functions) e (data_of []) → IsBoundOf table functions e n
unfolding data_of
is-bound table functions e v n number is = record { value = λ names are. number ∙ ap integer_of is ∙ sym (bound-folded table functions e names are) }
