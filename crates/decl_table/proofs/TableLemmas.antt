-- What is said of a name is what its parts say, and a table says it of each of the names that are put in.
use Rattle.std.proofs.Common.{◌≡◌, ℕ, ◌+◌, ◌<◌, ◌≤◌, Bool, true, false, ◌||◌, List, [], map, take, get_or, length, bytes_eq, None, option_map, Result, Ok, Err, IfOk, if◌then◌else◌, refl, ap, sym, subst, ◌∙◌}
use Rattle.std.specs.Borrow.{Bor}
use Rattle.std.proofs.lemmas.List.{take_all, length-map}
use Rattle.std.proofs.lemmas.Slice.Eq.{bytes_eq-Decides}
use Rattle.f_tree.specs.declared.names.Class.TheVariants as class
use Rattle.f_tree.specs.declared.statements.Dimension.{Dimension as WrittenDimension}
use Rattle.f_tree.specs.declared.units.Unit.{Unit as WrittenUnit}
use Rattle.f_tree.specs.Values.{Bytes}
use Rattle.f_tree.specs.Facts.{Attribute}
use Rattle.f_tree.specs.Uses.{is_among, uses_of_statements}
use Rattle.f_tree.specs.WellTyped.{has_size}
use Rattle.f_tree.specs.Attributes as written
use Rattle.f_tree.specs.Attributes.{Typed, bare, dimension_read, constant_bounds, constants_of, class_of, names_of, arrays_of, attribute_of, with_class, with_dimensions, without_expansion, all_described, described, attribute_in, expansions_from, definitions_in, from_all}
use Rattle.name_facts.specs.declaration_rows.NameRows.{given_names, own_attributes, all_names, shape_in}
use Rattle.name_table.specs.Named.{names_in, texts}
use Rattle.name_table.proofs.Texts.{bytes_eq_flip}
use Rattle.name_facts.specs.declared.fact.NameFact.{NameFact}
use Rattle.name_facts.specs.declared.table.NameFacts.{NameFacts}
use Rattle.name_facts.specs.GivenFacts.{IsNameFact, IsOwnFact, AreNameFacts, fact_in, no_fact, datum_of}
use Rattle.constant_values.specs.KnownConstants.{constant_in}
use Rattle.constant_values.proofs.ConstantLaws.{constant-value-in}
use Rattle.name_classes.specs.KnownSigns.{unit_uses}
use Rattle.declared_types.specs.declared.types.DeclaredType.{DeclaredType}
use Rattle.declared_types.specs.TypeTables.{typed_of}
use Rattle.decl_table.specs.declared.declarations.Declarations.{Declarations}
use Rattle.decl_table.specs.UnitFacts.{IsWidthOf, AddsBounds, all_closed, AreDeclarations, AreFactsAmong}
use Rattle.decl_table.proofs.FactLemmas.{attribute-among, own-named, size-read, known-names}
use Rattle.decl_table.proofs.FunctionLemmas.{among-one, texts-taken}

-- ONE NAME
pub own-is : (u : WrittenUnit) (declared : Declarations) (x : Bytes) (typed : DeclaredType) (dims : List WrittenDimension) (fact : NameFact) → AreDeclarations u declared
    → typed_of typed ≡ written.typed_name u x → dims ≡ shape_in u x
    → fact.class ≡ class_of u (unit_uses u) x → fact.basic ≡ typed.basic → IsWidthOf declared.constants typed fact.width → fact.rank ≡ length dims → fact.sized ≡ all_closed dims
    → AddsBounds declared.constants (names_in declared.functions) [] fact.bounds dims → fact.constant ≡ constant_in declared.constants x → IsOwnFact u x fact
unfolding own_attributes without_expansion with_dimensions with_class shape_in typed_of
own-is u declared x typed dims fact are types shaped classed kind wide ranked closed added fixed = record {
  is =
      let cs = constants_of u in
      let names : Bytes → Attribute = with_class u (uses_of_statements (arrays_of u) u.statements) cs in
      let known = known-names u declared.constants (names_in declared.functions) are.constants.constants are.functions.has in
      record {
        class = classed;
        basic = kind ∙ ap (λ (t : Typed). t.basic) types;
        width = wide.units cs are.constants.constants ∙ ap (written.width_by cs) types;
        rank = ranked ∙ ap length shaped ∙ sym (length-map (shape_in u x) (dimension_read names));
        sized = closed ∙ ap all_closed shaped ∙ size-read names (shape_in u x);
        bounds = added.added names known ∙ ap (λ (ds : List WrittenDimension). constant_bounds (map (dimension_read names) ds)) shaped;
        constant = ap (option_map datum_of) fixed ∙ constant-value-in cs declared.constants are.constants.constants x;
      };
}

-- NAMES ONE AFTER THE OTHER
abbrev given_if : WrittenUnit → Bool → Bytes → Attribute
given_if u b x = if b then own_attributes u x else bare class.Unit None

nothing-is : IsNameFact (bare class.Unit None) no_fact
unfolding bare no_fact has_size
nothing-is = record { class = refl; basic = refl; width = refl; rank = refl; sized = refl; bounds = refl; constant = refl }

pub facts-none : (u : WrittenUnit) (table : NameFacts) → ((x : Bytes) → fact_in table x ≡ no_fact) → AreFactsAmong u [] table
unfolding is_among
facts-none u table none = record { facts = λ x. subst (IsNameFact (bare class.Unit None)) (sym (none x)) nothing-is }

put-fact : (u : WrittenUnit) (x q : Bytes) (b m : Bool) (fact before : NameFact) → bytes_eq x q ≡ b → IsOwnFact u x fact → IsNameFact (given_if u m q) before
    → IsNameFact (given_if u (m || b) q) (if b then fact else before)
put-fact u x q true true fact before same own was = subst (λ y. IsNameFact (own_attributes u y) fact) ((bytes_eq-Decides x q).0 same) own.is
put-fact u x q true false fact before same own was = subst (λ y. IsNameFact (own_attributes u y) fact) ((bytes_eq-Decides x q).0 same) own.is
put-fact u x q false true fact before same own was = was
put-fact u x q false false fact before same own was = was

pub facts-more : (u : WrittenUnit) (old new : NameFacts) (xs : List (Bor Bytes)) (i : ℕ) (x d : Bor Bytes) (fact : NameFact) → i < length xs → x ≡ get_or xs i d
    → AreFactsAmong u (texts (take i xs)) old → IsOwnFact u x.now fact → ((q : Bytes) → fact_in new q ≡ (if bytes_eq x.now q then fact else fact_in old q))
    → AreFactsAmong u (texts (take (i + 1) xs)) new
facts-more u old new xs i x d fact h is one own put = record {
  facts = λ q.
      let among : (is_among q (texts (take i xs)) || bytes_eq x.now q) ≡ is_among q (texts (take (i + 1) xs)) =
      ap (λ b. is_among q (texts (take i xs)) || b) (bytes_eq_flip x.now q) ∙ sym (among-one q x.now (texts (take i xs))) ∙ ap (is_among q) (texts-taken xs i x d h is) in
      subst (IsNameFact (given_if u (is_among q (texts (take (i + 1) xs))) q)) (sym (put q))
      (subst (λ b. IsNameFact (given_if u b q) (if bytes_eq x.now q then fact else fact_in old q)) among
      (put-fact u x.now q (bytes_eq x.now q) (is_among q (texts (take i xs))) fact (fact_in old q) refl own (one.facts q)));
}

pub facts-end : (u : WrittenUnit) (table : NameFacts) (xs : List (Bor Bytes)) (i : ℕ) → length xs ≤ i → AreFactsAmong u (texts (take i xs)) table → AreFactsAmong u (texts xs) table
facts-end u table xs i h one = subst (λ ys. AreFactsAmong u (texts ys) table) (take_all i xs h) one

-- ALL NAMES OF A UNIT
named-by : (b : Bool) (own named nothing : Attribute) (fact : NameFact) → (IsNameFact own fact → IsNameFact named fact) → IsNameFact (if b then own else nothing) fact
    → IsNameFact (if b then named else nothing) fact
named-by true own named nothing fact step is = step is
named-by false own named nothing fact step is = is

pub unit-facts : {E : Type 0} (r : Result NameFacts E) (u : WrittenUnit) (xs : List Bytes) → xs ≡ all_names u → IfOk r (AreFactsAmong u xs) → IfOk r (AreNameFacts u)
unfolding given_names own_attributes all_names all_described
unit-facts (Ok table) u xs is h = record {
  facts = λ x.
      let uses = uses_of_statements (arrays_of u) u.statements in
      let cs = constants_of u in
      let es = expansions_from (without_expansion u uses cs) [] (from_all (definitions_in (arrays_of u)) u.statements) in
      subst (λ (a : Attribute). IsNameFact a (fact_in table x)) (sym (attribute-among u uses cs es (names_of u uses) x))
      (named-by (is_among x (names_of u uses)) (without_expansion u uses cs x) (attribute_of u uses cs es x) (bare class.Unit None) (fact_in table x)
      (own-named u uses cs es x (fact_in table x))
      (subst (λ ys. IsNameFact (given_if u (is_among x ys) x) (fact_in table x)) is (h.facts x)));
}
unit-facts (Err e) u xs is h = h
