-- The variables of a main program are listed, each as what it is.
use Rattle.std.specs.Prelude.{length, ◌≡◌, ℕ, zero, suc, Bool, true, false, not, ◌&&◌, List, [], ◌∷◌, map, position, Option, Some, None, option_map, slice_get, bytes_eq}
use Rattle.std.proofs.Common.{arith, refl, sym, ap, ◌∙◌, subst}
use Rattle.std.proofs.lemmas.List.{length-map}
use Rattle.std.proofs.lemmas.Slice.Eq.{bytes_eq-Decides}
use Rattle.main_programs.specs.f_tree.declared.names.Basic.{Basic}
use Rattle.main_programs.specs.f_tree.Values.{Bytes}
use Rattle.main_programs.specs.f_tree.Facts.{Dimension, Bounds, Member, ProgramUnit, Facts}
use Rattle.main_programs.specs.f_tree.Setting.{IsIn, first_in, later_in, IsMember, here, there, AreDistinct, no_names, another_name}
use Rattle.main_programs.specs.f_tree.Valuing.{elements_of}
use Rattle.main_programs.specs.l_core.Steps.{Text}
use Rattle.main_programs.specs.c_emit.Numbers.{is_numeric, is_variable, has_shape, has_number, is_scalar, is_array}
use Rattle.main_programs.proofs.linking_laws.Places.{some_same, other_bytes, same_bytes, taken, skipped, position_step, map_at}
use Rattle.main_programs.specs.main_file.MainFile.{Variable, Bases, writing_of}
use Rattle.main_programs.specs.main_file_laws.KnownFile.{VariablesAreListed}
use Rattle.main_programs.specs.main_translation.Contents.{count_by, variable_of, inventory_of}
use Rattle.main_programs.specs.MainRuns.{bytes_in, HasPlainStorage}
use Rattle.main_translation_laws.specs.PlainMains.{IsPlainMain}
use Rattle.main_translation_laws.proofs.Lists.{AreApart, none_apart, one_apart, in_map, in_at}
use Rattle.main_programs.proofs.c_laws.TokenSpellings.{and-first, and-second}

-- ## Members

abbrev names_in : List Member → List Bytes
names_in ms = map (λ (m : Member). m.name) ms

member_in : (m : Member) (ms : List Member) → IsIn m ms → IsMember m.name ms
member_in m _ first_in = here
member_in m _ (later_in o) = there (member_in m _ o)

member_named : (x : Bytes) (ms : List Member) → IsIn x (names_in ms) → IsMember x ms
member_named x ms o = let found = in_map (λ (m : Member). m.name) ms x o in subst (λ y. IsMember y ms) found.is (member_in found.from ms found.among)

pub members_apart : (ms : List Member) → AreDistinct ms → AreApart (names_in ms)
members_apart [] no_names = none_apart
members_apart (m ∷ ms) (another_name none later) = one_apart (λ y o same. none (member_named m.name ms (subst (λ z. IsIn z (names_in ms)) (sym same) o))) (members_apart ms later)

same_names : (unit : ProgramUnit) (ms : List Member) → map (λ (one : Variable). one.name) (map (variable_of unit) ms) ≡ names_in ms
unfolding variable_of
same_names unit [] = refl
same_names unit (m ∷ ms) = ap (λ xs. m.name ∷ xs) (same_names unit ms)

pub variables_apart : (unit : ProgramUnit) → AreDistinct unit.stored → AreApart (map (λ (one : Variable). one.name) (map (variable_of unit) unit.stored))
variables_apart unit distinct = subst AreApart (sym (same_names unit unit.stored)) (members_apart unit.stored distinct)

-- ## Where a variable stands

pub name_is : (unit : ProgramUnit) (m : Member) → (variable_of unit m).name ≡ m.name
unfolding variable_of
name_is unit m = refl

pub count_is : (unit : ProgramUnit) (m : Member) → (variable_of unit m).count ≡ count_by (unit.attribute m.name).bounds
unfolding variable_of
count_is unit m = refl

pub record IsPlacedAt (unit : ProgramUnit) (ms : List Member) (x : Bytes) : Type 0 where
  pub index : ℕ
  pub member : Member
  pub place : position (λ (one : Variable). bytes_eq x one.name) (map (variable_of unit) ms) ≡ Some index
  pub at : slice_get ms index ≡ Some member
  pub called : member.name ≡ x

placed_first : (unit : ProgramUnit) (m : Member) (ms : List Member) (x : Bytes) → bytes_eq x m.name ≡ true → IsPlacedAt unit (m ∷ ms) x
placed_first unit m ms x same = record {
  index = 0;
  member = m;
  place = position_step (λ (one : Variable). bytes_eq x one.name) (variable_of unit m) (map (variable_of unit) ms)
      ∙ taken (bytes_eq x (variable_of unit m).name) (Some 0) (option_map suc (position (λ (one : Variable). bytes_eq x one.name) (map (variable_of unit) ms))) (ap (bytes_eq x) (name_is unit m) ∙ same);
  at = refl;
  called = sym ((bytes_eq-Decides x m.name).0 same);
}

placed_later : (unit : ProgramUnit) (m : Member) (ms : List Member) (x : Bytes) → bytes_eq x m.name ≡ false → IsPlacedAt unit ms x → IsPlacedAt unit (m ∷ ms) x
placed_later unit m ms x other later = record {
  index = suc later.index;
  member = later.member;
  place = position_step (λ (one : Variable). bytes_eq x one.name) (variable_of unit m) (map (variable_of unit) ms)
      ∙ skipped (bytes_eq x (variable_of unit m).name) (Some 0) (option_map suc (position (λ (one : Variable). bytes_eq x one.name) (map (variable_of unit) ms))) (ap (bytes_eq x) (name_is unit m) ∙ other)
      ∙ ap (option_map suc) later.place;
  at = later.at;
  called = later.called;
}

placed_by : (unit : ProgramUnit) (m : Member) (ms : List Member) (x : Bytes) (b : Bool) → bytes_eq x m.name ≡ b → (b ≡ false → IsPlacedAt unit ms x) → IsPlacedAt unit (m ∷ ms) x
placed_by unit m ms x true same later = placed_first unit m ms x same
placed_by unit m ms x false other later = placed_later unit m ms x other (later refl)

pub placed_at : (unit : ProgramUnit) (x : Bytes) (ms : List Member) → IsMember x ms → IsPlacedAt unit ms x
placed_at unit x _ (here {n = n} {ms = ms}) = placed_first unit (record { name = x; size = n }) ms x (same_bytes x x refl)
placed_at unit x _ (there {m = m} {ms = ms} o) = placed_by unit m ms x (bytes_eq x m.name) refl (λ other. placed_at unit x ms o)

-- a stored name stands at its own place
pub own_place : (unit : ProgramUnit) (ms : List Member) (i : ℕ) (m : Member) → AreDistinct ms → slice_get ms i ≡ Some m → position (λ (one : Variable). bytes_eq m.name one.name) (map (variable_of unit) ms) ≡ Some i
unfolding placed_first
own_place unit [] i m distinct at = absurd (cc)
own_place unit (k ∷ ms) zero m distinct at = (placed_first unit k ms m.name (same_bytes m.name k.name (ap (λ (o : Member). o.name) (sym (some_same k m at))))).place
own_place unit (k ∷ ms) (suc i) m (another_name none later) at =
    position_step (λ (one : Variable). bytes_eq m.name one.name) (variable_of unit k) (map (variable_of unit) ms)
    ∙ skipped (bytes_eq m.name (variable_of unit k).name) (Some 0) (option_map suc (position (λ (one : Variable). bytes_eq m.name one.name) (map (variable_of unit) ms)))
    (ap (bytes_eq m.name) (name_is unit k) ∙ other_bytes m.name k.name (λ same. none (subst (λ x. IsMember x ms) same (member_in m ms (in_at ms i m at)))))
    ∙ ap (option_map suc) (own_place unit ms i m later at)

-- ## The storage of a main program

no_bounds : (ds : List Dimension) (bs : List Bounds) → length bs ≡ length ds → not (has_shape ds) ≡ true → count_by bs ≡ None
unfolding has_shape count_by
no_bounds [] [] same h = refl
no_bounds [] (b ∷ bs) same h = absurd (omega (arith, same))
no_bounds (d ∷ ds) bs same h = absurd (cc)

some_bounds : (ds : List Dimension) (bs : List Bounds) → length bs ≡ length ds → has_shape ds ≡ true → ((b : Bounds) (rest : List Bounds) → bs ≡ b ∷ rest → (n : ℕ) × (elements_of (b ∷ rest) ≡ Some n)) → (n : ℕ) × (count_by bs ≡ Some n)
unfolding has_shape count_by
some_bounds [] bs same h counted = absurd (cc)
some_bounds (d ∷ ds) [] same h counted = absurd (omega (arith, same))
some_bounds (d ∷ ds) (b ∷ bs) same h counted = counted b bs refl

module _ (unit : ProgramUnit) (u : Text) (main : IsPlainMain unit) where
  pub storage : HasPlainStorage unit (inventory_of unit u)
  storage = record {
    blocks = main.blocks;
    ties = main.ties;
    images = main.images;
    listed = λ i m at. (variable_of unit m, map_at (variable_of unit) unit.stored i m at, name_is unit m, main.sized m (in_at unit.stored i m at) ∙ ap bytes_in (sym (count_is unit m)));
    as_many = length-map unit.stored (variable_of unit);
    small = λ i m at. main.small m (in_at unit.stored i m at);
    first = λ i m at. own_place unit unit.stored i m main.distinct at;
    numbers = λ i m at. main.numbers m (in_at unit.stored i m at);
    wide = λ i m at. main.wide m (in_at unit.stored i m at);
    within = λ i m at. main.within m (in_at unit.stored i m at);
  }

  module _ (b : Bases) (facts : Facts) (same : facts.program ≡ unit) (kind : ℕ → ℕ → Option Basic) where
    scalar_count : (x : Bytes) (m : Member) → m.name ≡ x → not (has_shape (facts.program.attribute x).dimensions) ≡ true → (variable_of unit m).count ≡ None
    scalar_count x m called bare =
        count_is unit m ∙ ap (λ y. count_by (unit.attribute y).bounds) called ∙ ap (λ (p : ProgramUnit). count_by (p.attribute x).bounds) (sym same) ∙ no_bounds (facts.program.attribute x).dimensions (facts.program.attribute x).bounds (subst (λ (p : ProgramUnit). length (p.attribute x).bounds ≡ length (p.attribute x).dimensions) (sym same) (main.ranked x)) bare

    array_count : (x : Bytes) (m : Member) → m.name ≡ x → has_shape (facts.program.attribute x).dimensions ≡ true → (n : ℕ) × ((variable_of unit m).count ≡ Some n)
    array_count x m called bounded =
        let counted = some_bounds (unit.attribute x).dimensions (unit.attribute x).bounds (main.ranked x) (ap (λ (p : ProgramUnit). has_shape (p.attribute x).dimensions) (sym same) ∙ bounded) (λ c rest is. main.counted x c rest is) in
        (counted.0, count_is unit m ∙ ap (λ y. count_by (unit.attribute y).bounds) called ∙ counted.1)

    number_placed : (x : Bytes) → has_number (writing_of (inventory_of unit u) b facts kind) x ≡ true → IsPlacedAt unit unit.stored x
    unfolding has_number
    number_placed x is = placed_at unit x unit.stored (main.stored x (subst (λ (p : ProgramUnit). is_variable (p.attribute x).class && is_numeric (p.attribute x).basic ≡ true) same is))

    pub variables_listed : VariablesAreListed (inventory_of unit u) facts b kind
    unfolding is_scalar is_array
    variables_listed = record {
      scalars = λ x is.
          let number = and-first (has_number (writing_of (inventory_of unit u) b facts kind) x) (not (has_shape (facts.program.attribute x).dimensions)) is in
          let bare = and-second (has_number (writing_of (inventory_of unit u) b facts kind) x) (not (has_shape (facts.program.attribute x).dimensions)) is in
          let p = number_placed x number in
          (p.index, variable_of unit p.member, p.place, map_at (variable_of unit) unit.stored p.index p.member p.at, scalar_count x p.member p.called bare);
      arrays = λ x is.
          let number = and-first (has_number (writing_of (inventory_of unit u) b facts kind) x) (has_shape (facts.program.attribute x).dimensions) is in
          let bounded = and-second (has_number (writing_of (inventory_of unit u) b facts kind) x) (has_shape (facts.program.attribute x).dimensions) is in
          let p = number_placed x number in
          let counted = array_count x p.member p.called bounded in
          (p.index, variable_of unit p.member, counted.0, p.place, map_at (variable_of unit) unit.stored p.index p.member p.at, counted.1);
    }
