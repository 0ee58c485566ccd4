-- The C file of a plain main program is well formed.
use Rattle.std.specs.Prelude.{◌≡◌, ◌≢◌, ℕ, zero, suc, ◌+◌, ◌*◌, ◌<◌, ◌≤◌, ◌^◌, nat_eq, nat_lt, ℤ, pos, negsuc, Bool, true, false, not, ◌&&◌, List, [], ◌∷◌, ◌++◌, map, length, position, Option, Some, None, bytes_eq, if◌then◌else◌}
use Rattle.std.specs.List.{list_all}
use Rattle.std.proofs.Common.{refl, sym, ap, ◌∙◌, subst, arith}
use Rattle.main_translation_laws.specs.f_tree.Facts.{ProgramUnit, Output, Listed, Labelled, Computed, Unformatted, Input, Direction, Layout, Controls}
use Rattle.main_translation_laws.specs.f_tree.CNames.{variable_name, constant_name, made_name, ConstantOf, StatementLabel, MadeLabel}
use Rattle.main_translation_laws.specs.f_tree.Setting.{IsIn, first_in, later_in}
use Rattle.main_translation_laws.specs.f_tree.Values.{IsInt, in_range}
use Rattle.main_translation_laws.specs.l_core.Pures.{Constant, Pures, NoPure, AndPure}
use Rattle.main_translation_laws.specs.l_core.Steps.{Starts, Step, Acts, Marked, Text}
use Rattle.main_translation_laws.specs.lowering.Units.{lowered_unit}
use Rattle.main_translation_laws.specs.c_tree.declared.statement.CStmt.{CStmt}
use Rattle.main_translation_laws.specs.c_tree.declared.file.CConstant.{CConstant}
use Rattle.main_translation_laws.specs.c_tree.CWords.{is_among, is_name}
use Rattle.main_translation_laws.specs.c_tree.CLabels.{labels_meet}
use Rattle.main_translation_laws.specs.c_tree.CDeclarationText.{IsLength, with_function}
use Rattle.main_translation_laws.specs.c_tree.CExpressionText.{Scope}
use Rattle.main_translation_laws.specs.c_tree.CText.{no_names, WellFormed}
use Rattle.main_translation_laws.specs.c_tree.Flat.{Flat}
use Rattle.main_translation_laws.specs.c_tree.FlatForm.{body_of_all}
use Rattle.main_translation_laws.specs.c_tree.Linking as linking
use Rattle.main_translation_laws.specs.c_tree.Linking.{Routines, routines, main_name}
use Rattle.main_translation_laws.specs.c_emit.Calls.{is_plain, start_on, start_item, unit_of}
use Rattle.main_translation_laws.specs.c_emit.Flats.{flat_of}
use Rattle.main_translation_laws.specs.c_emit.Numbers.{Writing}
use Rattle.main_translation_laws.specs.c_structure_laws.Fitting.{KnowsItems, marks_from}
use Rattle.main_translation_laws.proofs.c_laws.TokenSpellings.{and-first, and-second}
use Rattle.main_translation_laws.specs.linking_laws.Linked as linked
use Rattle.main_translation_laws.specs.linking_laws.Linked.{AreDistinct, IsBuilt}
use Rattle.main_translation_laws.proofs.linking_laws.BuiltCode.{built_fit}
use Rattle.main_translation_laws.proofs.linking_laws.Places.{some_same, same_bytes, within}
use Rattle.main_translation_laws.specs.main_file.MainFile.{Variable, Listing, Called, constant_for, main_locals, main_function, main_file, names_of, writing_of, list_names, temporary_names, constant_names, lasting_names, called_names}
use Rattle.main_translation_laws.specs.main_file.MainItems.{item_before, flats_from}
use Rattle.main_translation_laws.specs.main_file_laws.KnownFile.{NamesDiffer, scope_in}
use Rattle.main_translation_laws.proofs.main_file_laws.Known.{position_finds}
use Rattle.main_translation_laws.specs.main_programs.MainRuns.{bytes_in, plain_facts}
use Rattle.main_translation_laws.specs.main_translation.Flow.{kind_at}
use Rattle.main_translation_laws.specs.main_translation.Contents.{count_by, variable_of, listing_by, listings_from, function_called, calls_of, inventory_of, first_objects}
use Rattle.main_translation_laws.specs.main_translation.Outlined.{labels_in, stands_at, label_before, opens_while, whiles_in, name_by, label_at, outline_of}
use Rattle.main_translation_laws.specs.PlainMains.{IsPlainMain, IsPlainText}
use Rattle.main_translation_laws.proofs.Translated as mains
use Rattle.main_translation_laws.proofs.Translated.{other_body}
use Rattle.main_translation_laws.proofs.Lists.{AreApart, none_apart, one_apart, at_in, InEither, in_one, in_other, in_either, in_map, apart_append, IsPart, in_part, part_apart, part_map}
use Rattle.main_translation_laws.proofs.Contents.{constants_fit, small_magnitude, all_calls, calls_part}
use Rattle.main_translation_laws.proofs.Storage.{name_is, count_is}
use Rattle.main_translation_laws.proofs.Built.{HasBody, has_body}
use Rattle.main_file_texts.specs.WellFormedMains.{Agrees, AreSpelled, IsSpellable, MainFilesAreWellFormed}
use Rattle.main_file_texts.proofs.FieldlessItems.{items_fieldless}
use Rattle.main_file_texts.proofs.SpelledStatements.{statements_are_spelled}
use Rattle.main_file_texts.proofs.MeetingLabels.{labels_do_meet}
use Rattle.main_file_texts.proofs.Declared.{or_right, or_left, local_names, with_all, with_constants, constant_texts, around_main, names_agree}
use Rattle.main_file_texts.proofs.Words.{temporary_word, list_word, constant_word, made_label_word, statement_label_word, variable_word}
use Rattle.main_file_texts.proofs.Declarations.{AreReadable, locals_readable, locals_named, AllNew, all_new, function_spelled, file_spelled}

-- ## Labels

among_labels : (place : ℕ → Option ℕ) (n : ℕ) (labels : List ℕ) (label : ℕ) → label_before place n labels ≡ Some label → IsIn label labels
unfolding label_before
among_labels place n [] label h = absurd (cc)
among_labels place n (l ∷ labels) label h = by (stands_at (place l) n) h (among_labels place n labels label)
  where
    by : (b : Bool) → (if b then Some l else label_before place n labels) ≡ Some label → (label_before place n labels ≡ Some label → IsIn label labels) → IsIn label (l ∷ labels)
    by true g later = subst (λ x. IsIn x (l ∷ labels)) (some_same l label g) first_in
    by false g later = later_in (later g)

whiles_count : (marks : List Marked) → length (whiles_in marks) ≤ length marks
unfolding whiles_in
whiles_count [] = omega arith
whiles_count (one ∷ marks) = by (opens_while one.mark) (whiles_count marks)
  where
    by : (b : Bool) → length (whiles_in marks) ≤ length marks → length (if b then one.at ∷ whiles_in marks else whiles_in marks) ≤ suc (length marks)
    by true rest = omega (arith, rest)
    by false rest = omega (arith, rest)

module _ (u : Text) (labels : (label : ℕ) → IsIn label (labels_in u.steps) → label < 2 ^ 64) (marks : 1 + length u.marks ≤ 2 ^ 64) where
  name_word : (n : ℕ) (name : List ℕ) (label loop : Option ℕ) → label_before u.position n (labels_in u.steps) ≡ label → position (nat_eq n) (whiles_in u.marks) ≡ loop → name_by label loop ≡ Some name → is_name name ≡ true
  unfolding name_by
  name_word n name (Some l) loop one other h =
      subst (λ x. is_name x ≡ true) (some_same (made_name (StatementLabel l)) name h) (statement_label_word l (labels l (among_labels u.position n (labels_in u.steps) l one)))
  name_word n name None (Some k) one other h =
      let found = position_finds (nat_eq n) (whiles_in u.marks) k other in
      let less = within (whiles_in u.marks) k found.one found.at in
      let few = whiles_count u.marks in
      subst (λ x. is_name x ≡ true) (some_same (made_name (MadeLabel (suc k))) name h) (made_label_word (suc k) (omega (arith, less, few, marks)))
  name_word n name None None one other h = absurd (cc)

  pub label_word : (n : ℕ) (name : List ℕ) → label_at u n ≡ Some name → is_name name ≡ true
  unfolding label_at
  label_word n name h = by (nat_lt n (length u.steps)) h
    where
      by : (b : Bool) → (if b then name_by (label_before u.position n (labels_in u.steps)) (position (nat_eq n) (whiles_in u.marks)) else None) ≡ Some name → is_name name ≡ true
      by true g = name_word n name (label_before u.position n (labels_in u.steps)) (position (nat_eq n) (whiles_in u.marks)) refl refl g
      by false g = absurd (cc)

-- ## Units of outputs

on_fits : (w : Writing) (n : ℕ) (a b : Bool) (item : Flat) → start_on w n (a && b) ≡ Some item → b ≡ true
unfolding start_on
on_fits w n true true item h = refl
on_fits w n true false item h = absurd (cc)
on_fits w n false b item h = absurd (cc)

unit_fits : (w : Writing) (n : ℕ) (controls : Controls) (ps : Pures) (item : Flat) → start_item w n controls ps ≡ Some item → (unit : ℤ) → unit_of ps ≡ Some unit → in_range unit ≡ true
unfolding start_item unit_of
unit_fits w n controls (AndPure (Constant (IsInt z)) NoPure) item h unit is = subst (λ y. in_range y ≡ true) (some_same z unit is) (on_fits w n (is_plain controls) (in_range z) item h)
unit_fits w n controls ps item h unit is = absurd (cc)

pub started_fits : (w : Writing) (label : ℕ → Option ℕ) (n : ℕ) (way : Direction) (layout : Layout) (controls : Controls) (ps : Pures) (m : ℕ) (item : Flat) → flat_of w (λ k. k) label n (Acts (Starts way layout controls) ps m) ≡ Some item
    → (unit : ℤ) → unit_of ps ≡ Some unit → in_range unit ≡ true
unfolding flat_of
started_fits w label n Output Listed controls ps m item h = unit_fits w n controls ps item h
started_fits w label n Output (Labelled l) controls ps m item h = absurd (cc)
started_fits w label n Output Computed controls ps m item h = absurd (cc)
started_fits w label n Output Unformatted controls ps m item h = absurd (cc)
started_fits w label n Input layout controls ps m item h = absurd (cc)

pub record AreSplit (x : Option Flat) (xs : Option (List Flat)) : Type 0 where
  pub item : Flat
  pub later : List Flat
  pub item_is : x ≡ Some item
  pub later_is : xs ≡ Some later

pub split : (x : Option Flat) (xs : Option (List Flat)) (items : List Flat) → item_before x xs ≡ Some items → AreSplit x xs
unfolding item_before
split (Some item) (Some later) items h = record { item = item; later = later; item_is = refl; later_is = refl }
split (Some item) None items h = absurd (cc)
split None xs items h = absurd (cc)

pub listing_fits : (n : ℕ) (found : Option ℤ) (later : List Listing) → ((unit : ℤ) → found ≡ Some unit → in_range unit ≡ true) → ((l : Listing) → IsIn l later → in_range l.unit ≡ true) → (l : Listing) → IsIn l (listing_by n found ++ later) → in_range l.unit ≡ true
unfolding listing_by
listing_fits n None later one others l o = others l o
listing_fits n (Some unit) later one others l o = by l o
  where
    by : (k : Listing) → IsIn k (record { step = n; unit = unit } ∷ later) → in_range k.unit ≡ true
    by _ first_in = one unit refl
    by k (later_in p) = others k p

listings_fit : (w : Writing) (label : ℕ → Option ℕ) (n : ℕ) (steps : List Step) (items : List Flat) → flats_from w label n steps ≡ Some items → (l : Listing) → IsIn l (listings_from n steps) → in_range l.unit ≡ true
unfolding listings_from flats_from
listings_fit w label n [] items h l o = elim o [ ]
listings_fit w label n (Acts (Starts way layout controls) ps m ∷ later) items h l o =
    let s = split (flat_of w (λ k. k) label n (Acts (Starts way layout controls) ps m)) (flats_from w label (suc n) later) items h in
    listing_fits n (unit_of ps) (listings_from (suc n) later) (started_fits w label n way layout controls ps m s.item s.item_is) (listings_fit w label (suc n) later s.later s.later_is) l o
listings_fit w label n (st ∷ later) items h l o = let s = split (flat_of w (λ k. k) label n st) (flats_from w label (suc n) later) items h in listings_fit w label (suc n) later s.later s.later_is l o

-- ## Names that are told apart

pub apart_by : (names : List (List ℕ)) → AreDistinct names → AreApart names
apart_by [] distinct = none_apart
apart_by (x ∷ xs) distinct =
    one_apart
    (λ y o same. let found = at_in y xs o in let equal : 0 ≡ suc found.index = distinct 0 (suc found.index) x refl (found.at ∙ ap Some (sym same)) in absurd (let no : ⊥ = omega (arith, equal) in no))
    (apart_by xs (λ i j name one other. let equal = distinct (suc i) (suc j) name one other in omega (arith, equal)))

pub is_in : (name : List ℕ) (list : List (List ℕ)) → IsIn name list → is_among name list ≡ true
is_in name [] among = elim among [ ]
is_in name (y ∷ later) first_in = or_left (bytes_eq name name) (is_among name later) (same_bytes name name refl)
is_in name (y ∷ later) (later_in among) = or_right (bytes_eq name y) (is_among name later) (is_in name later among)

-- lists whose names are told apart as they stand
pub no_twice : List (List ℕ) → Bool
no_twice [] = true
no_twice (x ∷ xs) = not (is_among x xs) && no_twice xs

pub apart_told : (names : List (List ℕ)) → no_twice names ≡ true → AreApart names
unfolding no_twice
apart_told [] told = none_apart
apart_told (x ∷ xs) told = by (is_among x xs) refl told (apart_told xs)
  where
    by : (b : Bool) → is_among x xs ≡ b → (not b && no_twice xs) ≡ true → (no_twice xs ≡ true → AreApart xs) → AreApart (x ∷ xs)
    by true is h later = absurd (cc)
    by false is h later = one_apart (λ y o same. apart_from y o same is) (later h)
      where
        apart_from : (y : List ℕ) → IsIn y xs → x ≡ y → is_among x xs ≡ false → ⊥
        apart_from y o same none = let no : true ≡ false = sym (is_in x xs (subst (λ z. IsIn z xs) (sym same) o)) ∙ none in cc

-- the names of all functions of the library that a main program may call
abbrev pub all_names : List (List ℕ)
all_names = map (λ (call : Called). call.name) all_calls

pub all_apart_there : no_twice all_names ≡ true
unfolding no_twice function_called
all_apart_there = refl

pub all_words_there : list_all is_name all_names ≡ true
unfolding function_called
all_words_there = refl

pub names_part : (steps : List Step) → IsPart (map (λ (call : Called). call.name) (calls_of steps)) all_names
names_part steps = part_map (λ (call : Called). call.name) (calls_of steps) all_calls (calls_part steps)

pub all_words : (names : List (List ℕ)) → list_all is_name names ≡ true → (name : List ℕ) → IsIn name names → is_name name ≡ true
all_words [] all name o = elim o [ ]
all_words (x ∷ xs) all _ first_in = and-first (is_name x) (list_all is_name xs) all
all_words (x ∷ xs) all name (later_in o) = all_words xs (and-second (is_name x) (list_all is_name xs) all) name o

pub temporaries_words : (k n : ℕ) → k + n ≤ 2 ^ 64 → (name : List ℕ) → IsIn name (temporary_names k n) → is_name name ≡ true
temporaries_words k zero few name o = elim o [ ]
temporaries_words k (suc n) few _ first_in = temporary_word k (omega (arith, few))
temporaries_words k (suc n) few name (later_in o) = temporaries_words (suc k) n (omega (arith, few)) name o

pub lists_words : (k : ℕ) (ls : List Listing) → k + length ls ≤ 2 ^ 64 → (name : List ℕ) → IsIn name (list_names k ls) → is_name name ≡ true
lists_words k [] few name o = elim o [ ]
lists_words k (l ∷ ls) few _ first_in = list_word k (omega (arith, few))
lists_words k (l ∷ ls) few name (later_in o) = lists_words (suc k) ls (omega (arith, few)) name o

pub constants_named : (zs : List ℤ) → constant_texts (map constant_for zs) ≡ map (λ z. made_name (ConstantOf z)) zs
constants_named [] = refl
constants_named (z ∷ zs) = ap (λ names. made_name (ConstantOf z) ∷ names) (constants_named zs)

pub declared_named : (constants : List CConstant) → linked.names_of (linking.declared_constants constants) ≡ constant_texts constants
declared_named [] = refl
declared_named (one ∷ later) = ap (λ names. one.name ∷ names) (declared_named later)

main_is_none : (zs : List ℤ) → is_among main_name (map (λ z. made_name (ConstantOf z)) zs) ≡ false
unfolding made_name constant_name
main_is_none [] = refl
main_is_none (pos n ∷ zs) = main_is_none zs
main_is_none (negsuc n ∷ zs) = main_is_none zs

pub constant_fit : (zs : List ℤ) → ((z : ℤ) → IsIn z zs → in_range z ≡ true) → (one : CConstant) → IsIn one (map constant_for zs) → in_range one.value ≡ true
constant_fit zs fit one o = let found = in_map constant_for zs one o in subst (λ (c : CConstant). in_range c.value ≡ true) found.is (fit found.from found.among)

-- the scope behind the constants of its file and its own name
abbrev outer : ProgramUnit → Text → Scope
outer unit u = with_function main_name (with_constants no_names (map constant_for (inventory_of unit u).constants))

-- ## The whole

module _ (unit : ProgramUnit) (u : Text) (body : List CStmt) (plain : IsPlainMain unit) (spellable : IsSpellable unit) (lowered : lowered_unit (plain_facts unit) ≡ Some u) (small : IsPlainText u) (made : HasBody unit u body) where
  differ : NamesDiffer (inventory_of unit u) (first_objects (inventory_of unit u))
  differ = (mains.emitted unit u body plain lowered small made).differ

  built : IsBuilt (outline_of (inventory_of unit u) (first_objects (inventory_of unit u)) u) made.items (main_function (inventory_of unit u) body)
  built = mains.built unit u body plain lowered small made

  known : KnowsItems (scope_in (routines (main_name ∷ [])) (λ name. None) (inventory_of unit u) (first_objects (inventory_of unit u)) (other_body u)) (names_of (inventory_of unit u) (first_objects (inventory_of unit u))) made.items
  known = (mains.known unit u body plain lowered small made).knows

  -- ## Its names

  all_apart : AreApart (temporary_names 1 (inventory_of unit u).temporaries ++ (called_names (inventory_of unit u) ++ lasting_names (inventory_of unit u)))
  all_apart =
      apart_append (temporary_names 1 (inventory_of unit u).temporaries) (called_names (inventory_of unit u) ++ lasting_names (inventory_of unit u)) (apart_by (temporary_names 1 (inventory_of unit u).temporaries) differ.temporaries)
      (apart_append (called_names (inventory_of unit u)) (lasting_names (inventory_of unit u))
      (part_apart (called_names (inventory_of unit u)) all_names (names_part u.steps) (apart_told all_names all_apart_there))
      (apart_by (lasting_names (inventory_of unit u)) differ.lasting)
      (λ x y p q same. let one = at_in x (called_names (inventory_of unit u)) p in let other = at_in y (lasting_names (inventory_of unit u)) q in (differ.not_objects one.index x one.at).0 other.index (other.at ∙ ap Some (sym same))))
      (λ x y p q same. either x y p (in_either y (called_names (inventory_of unit u)) (lasting_names (inventory_of unit u)) q) same)
    where
      either : (x y : List ℕ) → IsIn x (temporary_names 1 (inventory_of unit u).temporaries) → InEither y (called_names (inventory_of unit u)) (lasting_names (inventory_of unit u)) → x ≢ y
      either x y p (in_one q) = λ same.
          let one = at_in x (temporary_names 1 (inventory_of unit u).temporaries) p in
          let other = at_in y (called_names (inventory_of unit u)) q in (differ.not_objects other.index y other.at).1 one.index (one.at ∙ ap Some same)
      either x y p (in_other q) = λ same.
          let one = at_in x (temporary_names 1 (inventory_of unit u).temporaries) p in
          let other = at_in y (lasting_names (inventory_of unit u)) q in differ.not_lasting one.index x one.at other.index (other.at ∙ ap Some (sym same))

  apart : AreApart (local_names (main_locals (inventory_of unit u)))
  apart = subst AreApart (sym (locals_named (inventory_of unit u))) all_apart

  variable_words : (name : List ℕ) → IsIn name (map (λ (one : Variable). variable_name one.name) (inventory_of unit u).variables) → is_name name ≡ true
  variable_words name o =
      let found = in_map (λ (one : Variable). variable_name one.name) (inventory_of unit u).variables name o in
      let from = in_map (variable_of unit) unit.stored found.from found.among in
      let called = ap (λ (x : Variable). x.name) (sym from.is) ∙ name_is unit from.from in
      subst (λ x. is_name x ≡ true) (ap variable_name (sym called) ∙ found.is) (variable_word from.from.name (spellable.letters from.from from.among) (plain.named from.from from.among))

  words : (name : List ℕ) → IsIn name (temporary_names 1 (inventory_of unit u).temporaries ++ (called_names (inventory_of unit u) ++ lasting_names (inventory_of unit u))) → is_name name ≡ true
  words name o = first (in_either name (temporary_names 1 (inventory_of unit u).temporaries) (called_names (inventory_of unit u) ++ lasting_names (inventory_of unit u)) o)
    where
      third : InEither name (map (λ (one : Variable). variable_name one.name) (inventory_of unit u).variables) (list_names 1 (inventory_of unit u).lists) → is_name name ≡ true
      third (in_one p) = variable_words name p
      third (in_other p) = lists_words 1 (inventory_of unit u).lists (mains.has_names unit u body plain lowered small made).lists name p

      second : InEither name (called_names (inventory_of unit u)) (lasting_names (inventory_of unit u)) → is_name name ≡ true
      second (in_one p) =
          all_words all_names all_words_there name (in_part name (called_names (inventory_of unit u)) all_names (names_part u.steps) p)
      second (in_other p) = third (in_either name (map (λ (one : Variable). variable_name one.name) (inventory_of unit u).variables) (list_names 1 (inventory_of unit u).lists) p)

      first : InEither name (temporary_names 1 (inventory_of unit u).temporaries) (called_names (inventory_of unit u) ++ lasting_names (inventory_of unit u)) → is_name name ≡ true
      first (in_one p) = temporaries_words 1 (inventory_of unit u).temporaries small.temporaries name p
      first (in_other p) = second (in_either name (called_names (inventory_of unit u)) (lasting_names (inventory_of unit u)) p)

  locals_new : AllNew [] (local_names (main_locals (inventory_of unit u)))
  locals_new = all_new [] (local_names (main_locals (inventory_of unit u))) (λ name o. words name (subst (IsIn name) (locals_named (inventory_of unit u)) o)) apart (λ x y p q. elim q [ ])

  constants_new : AllNew [] (constant_texts (map constant_for (inventory_of unit u).constants))
  constants_new =
      subst (AllNew []) (sym (constants_named (inventory_of unit u).constants))
      (all_new [] (constant_names (inventory_of unit u))
      (λ name o. let found = in_map (λ z. made_name (ConstantOf z)) (inventory_of unit u).constants name o in subst (λ x. is_name x ≡ true) found.is (constant_word found.from (small_magnitude found.from (constants_fit u found.from found.among))))
      (apart_by (constant_names (inventory_of unit u)) differ.constants) (λ x y p q. elim q [ ]))

  no_main_constant : is_among main_name (constant_texts (map constant_for (inventory_of unit u).constants)) ≡ false
  no_main_constant = ap (is_among main_name) (constants_named (inventory_of unit u).constants) ∙ main_is_none (inventory_of unit u).constants

  -- ## Its parts

  lengths : (one : Variable) (n : ℕ) → IsIn one (inventory_of unit u).variables → one.count ≡ Some n → IsLength n
  lengths one n o is =
      let found = in_map (variable_of unit) unit.stored one o in
      let count : count_by (unit.attribute found.from.name).bounds ≡ Some n = sym (count_is unit found.from) ∙ ap (λ (x : Variable). x.count) found.is ∙ is in
      let size : found.from.size ≡ 4 * n = plain.sized found.from found.among ∙ ap bytes_in count in
      let fits = plain.small found.from found.among in
      record { some = spellable.elements found.from n found.among count; fits = omega (arith, size, fits) }

  readable : AreReadable (main_locals (inventory_of unit u))
  readable =
      locals_readable (inventory_of unit u) lengths (listings_fit (writing_of (inventory_of unit u) (first_objects (inventory_of unit u)) u.facts (kind_at u)) u.position 0 u.steps made.items made.emitted)

  agrees : (frame : ℕ) → Agrees
      (linking.local_scope (routines (main_name ∷ [])) (first_objects (inventory_of unit u)).function frame [] (linking.file_scope (routines (main_name ∷ [])) (λ name. None) (first_objects (inventory_of unit u)).file (main_file (inventory_of unit u) (other_body u)))
      (main_locals (inventory_of unit u))) (with_all (outer unit u) (main_locals (inventory_of unit u)))
  agrees frame =
      names_agree (routines (main_name ∷ [])) (first_objects (inventory_of unit u)).function frame [] (main_locals (inventory_of unit u))
      (linking.file_scope (routines (main_name ∷ [])) (λ name. None) (first_objects (inventory_of unit u)).file (main_file (inventory_of unit u) (other_body u))) (outer unit u)
      (around_main (routines (main_name ∷ [])) (first_objects (inventory_of unit u)).file main_name (map constant_for (inventory_of unit u).constants)
      (ap (is_among main_name) (declared_named (map constant_for (inventory_of unit u).constants)) ∙ no_main_constant)) none_apart apart (λ x is. absurd (cc))

  spelled : AreSpelled (outline_of (inventory_of unit u) (first_objects (inventory_of unit u)) u) (with_all (outer unit u) (main_locals (inventory_of unit u))) body
  spelled =
      statements_are_spelled (outline_of (inventory_of unit u) (first_objects (inventory_of unit u)) u)
      (scope_in (routines (main_name ∷ [])) (λ name. None) (inventory_of unit u) (first_objects (inventory_of unit u)) (other_body u)) (with_all (outer unit u) (main_locals (inventory_of unit u))) (length made.items) 0 made.items body
      (agrees (linked.frame (first_objects (inventory_of unit u)).function (main_function (inventory_of unit u) (other_body u)))) (label_word u small.labels small.marks) made.statements known
      (items_fieldless (writing_of (inventory_of unit u) (first_objects (inventory_of unit u)) u.facts (kind_at u)) u.position 0 u.steps made.items made.emitted)

  marks : (body_of_all body).labels 0 ≡ marks_from (label_at u) 0 made.items
  marks =
      (built_fit (scope_in (routines (main_name ∷ [])) (λ name. None) (inventory_of unit u) (first_objects (inventory_of unit u)) (other_body u)) (outline_of (inventory_of unit u) (first_objects (inventory_of unit u)) u) made.items
      (main_function (inventory_of unit u) body) built known).marks

  meet : labels_meet body ≡ true
  meet = labels_do_meet (label_at u) built.alone made.items body built.inside marks spelled.named

  formed : WellFormed (main_file (inventory_of unit u) body)
  formed =
      file_spelled (inventory_of unit u) body (constant_fit (inventory_of unit u).constants (constants_fit u)) constants_new no_main_constant
      (function_spelled (with_constants no_names (map constant_for (inventory_of unit u).constants)) (inventory_of unit u) body meet readable locals_new spelled.text)

pub main_files_are_well_formed : MainFilesAreWellFormed
main_files_are_well_formed unit u body plain spellable lowered small made = formed unit u body plain spellable lowered small (has_body unit u body made)
