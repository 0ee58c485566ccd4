-- The example is a plain main program, and the statements that are said are made for it.
use Rattle.std.specs.Prelude.{length, ◌≡◌, ℕ, zero, suc, ◌<◌, ◌≤◌, ◌^◌, Bool, true, false, ◌&&◌, ◌||◌, List, [], ◌∷◌, Some, None, slice_get, bytes_eq, if◌then◌else◌}
use Rattle.std.specs.Fmt.{digits}
use Rattle.std.proofs.Common.{refl, sym, ap, ◌∙◌, subst, arith}
use Rattle.std.proofs.lemmas.Slice.Eq.{bytes_eq-Decides}
use Rattle.main_programs.specs.f_tree.declared.names.Class.TheVariants as class
use Rattle.main_programs.specs.f_tree.Values.{Bytes, in_range}
use Rattle.main_programs.specs.f_tree.CNames.{is_name, is_name_byte, has_underscore, c_keywords, built_in_names, field_names, single_letters, is_reserved, takes_underscores, variable_name, constant_name, made_name}
use Rattle.main_programs.specs.f_tree.Facts.{Attribute, Bounds, Member}
use Rattle.main_programs.specs.f_tree.Setting.{IsIn, first_in, later_in, IsMember, here, there, no_names, another_name}
use Rattle.main_programs.specs.f_tree.Valuing.{elements_of, extent_of}
use Rattle.main_programs.specs.f_tree.Attributes.{bare}
use Rattle.main_programs.specs.l_core.Steps.{Step, Halt}
use Rattle.main_programs.specs.lowering.Units.{lowered_unit}
use Rattle.main_programs.specs.lowering_laws.Layer.{others_opened}
use Rattle.main_programs.specs.lowering_laws.Layout.{are_direct, has_end, LoopsFit, with_loops, layout_opened}
use Rattle.lowered_rows.specs.Examples.{letter, an_integer, example_opened}
use Rattle.main_programs.specs.c_tree.Opened.{trees_opened}
use Rattle.main_programs.specs.c_emit.Numbers.{is_numeric, is_variable, numbers_opened}
use Rattle.main_programs.specs.c_emit.Types.{types_opened}
use Rattle.main_programs.specs.c_emit.Calls.{calls_opened}
use Rattle.main_programs.specs.c_emit.Flats.{flats_opened}
use Rattle.main_programs.specs.c_structure.Expressions.{expressions_opened}
use Rattle.main_programs.specs.c_structure.Statements.{statements_opened}
use Rattle.main_programs.proofs.linking_laws.Places.{some_same}
use Rattle.main_programs.specs.main_file.MainFile as main
use Rattle.main_programs.specs.main_file.MainItems.{item_before, flats_from, stops_from}
use Rattle.main_programs.specs.main_translation.Flow.{flow_opened}
use Rattle.main_programs.specs.main_translation.Contents.{count_by, contents_opened}
use Rattle.main_programs.specs.main_translation.Outlined.{body_of, outlined_opened}
use Rattle.main_programs.specs.MainRuns.{plain_facts, bytes_in}
use Rattle.main_translation_laws.specs.Example.{attribute_of, its_unit, its_steps, its_text, its_statements}
use Rattle.main_translation_laws.specs.PlainMains.{IsPlainMain, IsPlainText}

pub example_lowered : lowered_unit (plain_facts its_unit) ≡ Some its_text
unfolding example_opened
example_lowered = refl

pub example_made : body_of its_unit its_text ≡ Some its_statements
unfolding flats_opened numbers_opened types_opened calls_opened expressions_opened statements_opened flow_opened contents_opened outlined_opened example_opened item_before flats_from stops_from main.object_name main.string_at in_range variable_name takes_underscores has_underscore is_reserved c_keywords built_in_names field_names single_letters constant_name made_name digits trees_opened
example_made = refl

loops_fit : LoopsFit its_unit
unfolding example_opened layout_opened others_opened
loops_fit = with_loops (record { nested = record { ended = refl; contained = refl }; blocks = refl; branches = refl; entries = refl })

direct : are_direct its_unit.lines ≡ true
unfolding layout_opened
direct = refl

ended : has_end its_unit.lines ≡ true
unfolding layout_opened
ended = refl

-- the attribute of a name, by whether it is one of the two
attribute_by : Bool → Attribute
attribute_by b = if b then an_integer else bare class.Unit None

is_number : Attribute → Bool
is_number a = is_variable a.class && is_numeric a.basic

member_or : (a b : Bool) (x : Bytes) → bytes_eq (letter 107) x ≡ a → bytes_eq (letter 105) x ≡ b → is_number (attribute_by (a || b)) ≡ true → IsMember x its_unit.stored
unfolding is_number attribute_by is_variable is_numeric bare
member_or true b x k i is = subst (λ y. IsMember y its_unit.stored) ((bytes_eq-Decides (letter 107) x).0 k) here
member_or false true x k i is = subst (λ y. IsMember y its_unit.stored) ((bytes_eq-Decides (letter 105) x).0 i) (there here)
member_or false false x k i is = absurd (cc)

both : (P : Member → Type 0) → P (record { name = letter 107; size = 4 }) → P (record { name = letter 105; size = 4 }) → (m : Member) → IsIn m its_unit.stored → P m
both P k i _ first_in = k
both P k i _ (later_in first_in) = i
both P k i m (later_in (later_in o)) = elim o [ ]

no_bounds : (b : Bool) → (attribute_by b).bounds ≡ []
unfolding attribute_by bare
no_bounds true = refl
no_bounds false = refl

no_ranks : (b : Bool) → length (attribute_by b).bounds ≡ length (attribute_by b).dimensions
unfolding attribute_by bare
no_ranks true = refl
no_ranks false = refl

no_bound : {A : Type 0} (x : Bytes) (k : ℕ) (b : Bounds) → slice_get (attribute_of x).bounds k ≡ Some b → A
unfolding attribute_by
no_bound x k b at = let none : None ≡ Some b = sym (ap (λ (bs : List Bounds). slice_get bs k) (no_bounds (bytes_eq (letter 107) x || bytes_eq (letter 105) x))) ∙ at in absurd (cc)

no_list : {A : Type 0} (x : Bytes) (b : Bounds) (bs : List Bounds) → (attribute_of x).bounds ≡ b ∷ bs → A
unfolding attribute_by
no_list x b bs is = let none : [] ≡ b ∷ bs = sym (no_bounds (bytes_eq (letter 107) x || bytes_eq (letter 105) x)) ∙ is in absurd (cc)

other_name : IsMember (letter 107) (record { name = letter 105; size = 4 } ∷ []) → ⊥
other_name (there o) = elim o [ ]

pub example_is_plain : IsPlainMain its_unit
unfolding is_number attribute_by is_numeric count_by elements_of extent_of is_name is_name_byte
example_is_plain = record {
  kind = refl;
  name = [];
  entry = refl;
  blocks = refl;
  ties = refl;
  images = refl;
  direct = direct;
  ended = ended;
  loops = loops_fit;
  stored = λ x is. member_or (bytes_eq (letter 107) x) (bytes_eq (letter 105) x) x refl refl is;
  distinct = another_name other_name (another_name (λ o. elim o [ ]) no_names);
  named = both (λ m. is_name m.name ≡ true) refl refl;
  numbers = both (λ m. is_numeric (attribute_of m.name).basic ≡ true) refl refl;
  wide = both (λ m. (attribute_of m.name).width ≡ Some 4) refl refl;
  sized = both (λ m. m.size ≡ bytes_in (count_by (attribute_of m.name).bounds)) refl refl;
  within = both (λ m. extent_of (elements_of (attribute_of m.name).bounds) 4 ≤ m.size) (omega arith) (omega arith);
  small = both (λ m. m.size < 2147483648) (omega arith) (omega arith);
  ranked = λ x. no_ranks (bytes_eq (letter 107) x || bytes_eq (letter 105) x);
  counted = λ x b bs is. no_list x b bs is;
  fits = λ x k b at. no_bound x k b at;
  closed = λ x k b at more. no_bound x k b at;
}

labels_small : (label : ℕ) → IsIn label (20 ∷ []) → label < 2 ^ 64
labels_small _ first_in = omega arith
labels_small label (later_in o) = elim o [ ]

no_stop_at : (n i : ℕ) (steps : List Step) (text : Bytes) → stops_from n steps ≡ [] → slice_get steps i ≡ Some (Halt text) → ⊥
unfolding stops_from
no_stop_at n i [] text none at = cc
no_stop_at n zero (st ∷ later) text none at = first st none (some_same st (Halt text) at)
  where
    first : (st : Step) → stops_from n (st ∷ later) ≡ [] → st ≡ Halt text → ⊥
    first (Halt other) none same = cc
    first st none same = cc
no_stop_at n (suc i) (st ∷ later) text none at = no_stop_at (suc n) i later text (passed st none) at
  where
    passed : (st : Step) → stops_from n (st ∷ later) ≡ [] → stops_from (suc n) later ≡ []
    passed (Halt other) none = absurd (cc)
    passed st none = none

pub example_is_short : IsPlainText its_text
unfolding example_opened contents_opened outlined_opened stops_from
example_is_short = record { steps = omega arith; temporaries = omega arith; marks = omega arith; labels = labels_small; stops = λ n text at. absurd (no_stop_at 0 n its_steps text refl at) }
