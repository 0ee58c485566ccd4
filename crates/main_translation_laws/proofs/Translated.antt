-- A plain main program is translated as the law of main programs asks, and so it runs as its file does.
use Rattle.std.specs.Prelude.{◌≡◌, ℕ, zero, suc, ◌+◌, ◌<◌, ◌≤◌, Bool, true, false, List, [], ◌∷◌, length, map, position, Option, Some, None, slice_get, bytes_eq}
use Rattle.std.proofs.Common.{refl, sym, ap, ◌∙◌, subst, arith}
use Rattle.std.proofs.lemmas.List.{append-nil}
use Rattle.main_programs.specs.f_tree.Facts.{Facts, Line, ProgramUnit}
use Rattle.main_programs.specs.f_tree.Values.{Bytes}
use Rattle.main_programs.specs.f_tree.CNames.{is_name}
use Rattle.main_programs.specs.l_core.Steps.{Step, Halt, Text}
use Rattle.main_programs.specs.lowering.Units.{size_before, start_of, lines_code, text_with, lowered_unit}
use Rattle.main_programs.specs.c_tree.declared.expression.CExpr.TheVariants as expr
use Rattle.main_programs.specs.c_tree.declared.statement.CStmt.{CStmt}
use Rattle.main_programs.specs.c_tree.declared.statement.CStmt.TheVariants as stmt
use Rattle.main_programs.specs.c_tree.Builtins.{builtin_names}
use Rattle.main_programs.specs.c_tree.Flat.{Flat}
use Rattle.main_programs.specs.c_tree.FlatForm.{Body, position_of, ends, with_return, whole_body, body_of_all}
use Rattle.main_programs.specs.c_tree.Linking as linking
use Rattle.main_programs.specs.c_tree.Linking.{Routines, routines, declared_constants}
use Rattle.main_programs.specs.c_structure.Statements.{strings_of_items, statements_for}
use Rattle.main_programs.specs.c_structure_laws.Fitting.{marks_from, Fits}
use Rattle.main_programs.proofs.c_structure_laws.DrawnExpressions.{bytes_count}
use Rattle.main_programs.specs.linking_laws.Linked.{IsBuilt}
use Rattle.main_programs.proofs.linking_laws.Places.{some_same}
use Rattle.main_programs.proofs.linking_laws.Scopes.{builtins_are_numbered}
use Rattle.main_programs.proofs.linking_laws.BuiltCode.{built_fit, whole_is}
use Rattle.main_programs.specs.main_file.MainFile as main
use Rattle.main_programs.specs.main_file.MainFile.{Listing, Inventory, Bases, constant_for, main_function, first_string, first_temporary, names_of, place_of_list, writing_of}
use Rattle.main_programs.specs.main_file.MainItems.{stops_from}
use Rattle.main_programs.specs.main_file_laws.BuiltMain.{IsMainBuilt, AreNumberedBuiltins}
use Rattle.main_programs.specs.main_file_laws.KnownFile.{scope_in}
use Rattle.main_programs.proofs.main_file_laws.BuiltItems.{AreEmitted, AreAllKnown, all_known}
use Rattle.main_programs.specs.EmittedMain.{StepsFit, IsMain}
use Rattle.main_programs.specs.MainRuns.{plain_facts, bases_of, IsTranslatedMain}
use Rattle.main_programs.proofs.MainRuns.{main_programs_run_alike, constants_count, no_main}
use Rattle.main_programs.specs.main_translation.Flow.{kind_at, stage_at}
use Rattle.main_programs.specs.main_translation.Contents.{constants_of, variable_of, text_at, inventory_of, first_objects}
use Rattle.main_programs.specs.main_translation.Outlined.{outline_of, returns_last}
use Rattle.ways_back.proofs.LoweredTexts.{text_lowered}
use Rattle.main_translation_laws.specs.PlainMains.{IsPlainMain, IsPlainText, PlainMainsRunAlike}
use Rattle.main_translation_laws.proofs.Lists.{in_at, in_map}
use Rattle.main_translation_laws.proofs.FlowLaws.{steps_fit}
use Rattle.main_translation_laws.proofs.Names.{HasNames, names_differ}
use Rattle.main_translation_laws.proofs.Contents.{constants_apart, constants_fit, small_magnitude, listings_count, listed_at, calls_named}
use Rattle.main_translation_laws.proofs.Storage.{name_is, variables_apart, storage, variables_listed}
use Rattle.main_translation_laws.proofs.Built.{HasBody, has_body, items_count, is_built, no_wrapper, all_listed}

-- ## The text

pub record IsTextOf (c : Facts) (u : Text) : Type 0 where
  pub facts : u.facts ≡ c
  pub begins : u.begins ≡ start_of c.program

text_by : (c : Facts) (u : Text) (found : Option (List Step)) → text_with c found ≡ Some u → IsTextOf c u
unfolding text_with
text_by c u (Some steps) h = record { facts = ap (λ (t : Text). t.facts) (sym (some_same _ u h)); begins = ap (λ (t : Text). t.begins) (sym (some_same _ u h)) }
text_by c u None h = absurd (cc)

pub text_is : (c : Facts) (u : Text) → lowered_unit c ≡ Some u → IsTextOf c u
text_is c u h = text_by c u (lines_code c.program 0 c.program.lines) (text_lowered c u h)

none_before : (u : ProgramUnit) (lines : List Line) → size_before u 0 lines 0 ≡ 0
unfolding size_before
none_before u [] = refl
none_before u (line ∷ lines) = refl

pub first_start : (u : ProgramUnit) → start_of u 0 ≡ 0
unfolding start_of
first_start u = none_before u u.lines

-- ## The numbers of its objects

bases_are : (v : Inventory) (body : List CStmt) → bases_of v body ≡ first_objects v
bases_are v body = let count = constants_count v.constants in ap (λ n. record { own = 1; file = 0; function = n }) {x = 0 + length (declared_constants (map constant_for v.constants))} {y = length v.constants} (omega (arith, count))

-- ## Statements with so many strings

pub strings_body : ℕ → List CStmt
strings_body zero = []
strings_body (suc n) = stmt.Return (Some (expr.Str [])) ∷ strings_body n

same_strings : (ended : Bool) (o : Body) → length (with_return ended o).items.strings ≡ length o.items.strings
same_strings true o = refl
same_strings false o = ap length (append-nil o.items.strings)

strings_count : (n : ℕ) → length (body_of_all (strings_body n)).items.strings ≡ n
unfolding strings_body
strings_count zero = refl
strings_count (suc n) = ap suc (strings_count n)

-- statements with as many strings as a text passes
abbrev pub other_body : Text → List CStmt
other_body u = strings_body (length (stops_from 0 u.steps))

pub body_count : (n : ℕ) → length (whole_body (strings_body n)).items.strings ≡ n
body_count n = same_strings (ends (strings_body n)) (body_of_all (strings_body n)) ∙ strings_count n

-- ## The whole

module _ (unit : ProgramUnit) (u : Text) (body : List CStmt) (plain : IsPlainMain unit) (lowered : lowered_unit (plain_facts unit) ≡ Some u) (small : IsPlainText u) (made : HasBody unit u body) where
  v : Inventory
  v = inventory_of unit u

  b : Bases
  b = first_objects (inventory_of unit u)

  pub program_is : u.facts.program ≡ unit
  program_is = ap (λ (f : Facts). f.program) (text_is (plain_facts unit) u lowered).facts

  begins : u.begins 0 ≡ 0
  begins = ap (λ f. f 0) (text_is (plain_facts unit) u lowered).begins ∙ first_start unit

  pub has_names : HasNames (inventory_of unit u) (first_objects (inventory_of unit u))
  has_names = record {
    constants = constants_apart u;
    small = λ z o. small_magnitude z (constants_fit u z o);
    variables = variables_apart unit plain.distinct;
    named = λ one o. let found = in_map (variable_of unit) unit.stored one o in ap is_name (ap (λ (x : main.Variable). x.name) (sym found.is) ∙ name_is unit found.from) ∙ plain.named found.from found.among;
    lists = (let few = listings_count 0 u.steps in let fits = small.steps in omega (arith, few, fits));
    temporaries = small.temporaries;
    called = calls_named u.steps;
    behind = omega arith;
  }

  pub counted : length made.items ≡ length u.steps
  counted = items_count (writing_of (inventory_of unit u) (first_objects (inventory_of unit u)) u.facts (kind_at u)) u.position 0 u.steps made.items made.emitted

  pub built : IsBuilt (outline_of (inventory_of unit u) (first_objects (inventory_of unit u)) u) made.items (main_function (inventory_of unit u) body)
  built = is_built (inventory_of unit u) (first_objects (inventory_of unit u)) u made.items body small counted made.statements made.returned

  no_items : made.items ≡ [] → ⊥
  unfolding statements_for returns_last
  no_items none = unended body (some_same [] body (ap (λ items. statements_for (outline_of (inventory_of unit u) (first_objects (inventory_of unit u)) u) (length items) 0 items) (sym none) ∙ made.statements)) made.returned
    where
      unended : (ss : List CStmt) → [] ≡ ss → returns_last ss ≡ true → ⊥
      unended [] same h = cc
      unended (s ∷ ss) same h = cc

  numbers : Routines
  numbers = routines (linking.main_name ∷ [])

  pub builtins : AreNumberedBuiltins (routines (linking.main_name ∷ [])) (inventory_of unit u) (first_objects (inventory_of unit u))
  builtins name k called at = builtins_are_numbered (linking.main_name ∷ []) k name (λ i same. no_name i same) at
    where
      no_name : (i : ℕ) → slice_get (linking.main_name ∷ []) i ≡ Some name → ⊥
      no_name zero same = no_main None k (ap (λ (n : List ℕ). position (bytes_eq n) builtin_names) (some_same linking.main_name name same) ∙ at)
      no_name (suc i) same = cc

  -- what is emitted is known where the function has other statements with as many strings; its names stand for the same there
  pub emitted : AreEmitted (inventory_of unit u) (first_objects (inventory_of unit u)) u (kind_at u) made.items (other_body u)
  emitted = record {
    differ = names_differ (inventory_of unit u) (first_objects (inventory_of unit u)) has_names;
    variables = variables_listed unit u plain (first_objects (inventory_of unit u)) u.facts program_is (kind_at u);
    listed = all_listed unit u (writing_of (inventory_of unit u) (first_objects (inventory_of unit u)) u.facts (kind_at u)) 0 u.steps made.items (λ i k st at stands. let same : k ≡ i = omega (arith, at) in ap (slice_get u.steps) same ∙ stands) made.emitted;
    stops = refl;
    emitted = made.emitted;
    as_many = body_count (length (stops_from 0 u.steps));
  }

  pub known : AreAllKnown (routines (linking.main_name ∷ [])) (λ name. None) (inventory_of unit u) (first_objects (inventory_of unit u)) u (kind_at u) made.items (other_body u) builtins emitted
  known = all_known (routines (linking.main_name ∷ [])) (λ name. None) (inventory_of unit u) (first_objects (inventory_of unit u)) u (kind_at u) made.items (other_body u) builtins emitted

  pub fits : Fits (outline_of (inventory_of unit u) (first_objects (inventory_of unit u)) u) (scope_in (routines (linking.main_name ∷ [])) (λ name. None) (inventory_of unit u) (first_objects (inventory_of unit u)) (other_body u))
      (position_of (marks_from (outline_of (inventory_of unit u) (first_objects (inventory_of unit u)) u).label 0 made.items)) 0 made.items (body_of_all body)
  fits =
      built_fit (scope_in (routines (linking.main_name ∷ [])) (λ name. None) (inventory_of unit u) (first_objects (inventory_of unit u)) (other_body u)) (outline_of (inventory_of unit u) (first_objects (inventory_of unit u)) u) made.items
      (main_function (inventory_of unit u) body) built
      known.knows

  whole : whole_body body ≡ body_of_all body
  whole = whole_is (outline_of (inventory_of unit u) (first_objects (inventory_of unit u)) u) made.items (main_function (inventory_of unit u) body) built

  as_many : length (whole_body body).items.strings ≡ length (inventory_of unit u).strings
  as_many =
      ap (λ (o : Body). length o.items.strings) whole
      ∙ bytes_count (names_of (inventory_of unit u) (first_objects (inventory_of unit u))) (body_of_all body).items.strings (strings_of_items (names_of (inventory_of unit u) (first_objects (inventory_of unit u))) made.items) fits.strings
      ∙ known.counted

  main_built : IsMainBuilt (inventory_of unit u) (first_objects (inventory_of unit u)) u (kind_at u) (outline_of (inventory_of unit u) (first_objects (inventory_of unit u)) u) made.items body
  main_built = record {
    differ = emitted.differ;
    variables = emitted.variables;
    listed = emitted.listed;
    stops = refl;
    names = refl;
    emitted = made.emitted;
    built = built;
    as_many = as_many;
  }

  text_is_there : (n : ℕ) (text : Bytes) → slice_get u.steps n ≡ Some (Halt text) → text_at (slice_get u.steps n) ≡ text
  unfolding text_at
  text_is_there n text at = ap text_at at

  is_main : IsMain u
  is_main = record {
    kind = ap (λ (p : ProgramUnit). p.kind) program_is ∙ plain.kind;
    entry = record { name = plain.name; formals = []; start = 0 };
    only = ap (λ (p : ProgramUnit). p.entries) program_is ∙ plain.entry;
    no_dummies = refl;
    at_first = refl;
    begins = begins;
    fits = λ x k bound at. plain.fits x k bound (ap (λ (p : ProgramUnit). slice_get (p.attribute x).bounds k) (sym program_is) ∙ at);
    closed = λ x k bound at more. plain.closed x k bound (ap (λ (p : ProgramUnit). slice_get (p.attribute x).bounds k) (sym program_is) ∙ at) (subst (λ (p : ProgramUnit). suc k < length (p.attribute x).bounds) program_is more);
  }

  some_step : 1 ≤ length u.steps
  some_step = by made.items refl
    where
      by : (items : List Flat) → made.items ≡ items → 1 ≤ length u.steps
      by [] is = absurd (no_items is)
      by (item ∷ later) is = let count = counted in let long = ap length is in omega (arith, count, long)

  translated : IsTranslatedMain unit (inventory_of unit u) u (kind_at u) (stage_at u) (outline_of (inventory_of unit u) (first_objects (inventory_of unit u)) u) made.items body
  translated = record {
    lowered = lowered;
    facts = (text_is (plain_facts unit) u lowered).facts;
    direct = plain.direct;
    ended = plain.ended;
    loops = plain.loops;
    main = is_main;
    storage = storage unit u plain;
    built = subst (λ a. IsMainBuilt (inventory_of unit u) a u (kind_at u) (outline_of (inventory_of unit u) (first_objects (inventory_of unit u)) u) made.items body) (sym (bases_are (inventory_of unit u) body)) main_built;
    fit = subst (λ a. StepsFit (inventory_of unit u) a u (kind_at u) (stage_at u)) (sym (bases_are (inventory_of unit u) body)) (steps_fit (inventory_of unit u) (first_objects (inventory_of unit u)) u made.on begins);
    numbers = λ i z at. constants_fit u z (in_at (constants_of u) i z at);
    units = λ n way layout controls ps m unit' at is. let l = listed_at 0 u.steps n n way layout controls ps m unit' (omega arith) at is in (l.index, l.listing, l.place, l.at, l.is);
    texts = λ n text at. text_is_there n text at;
    short = small.stops;
    no_wrapper = no_wrapper body made.returned;
    some_step = some_step;
    as_long = (let size = fits.size in let all = ap (λ (o : Body). o.size) whole in let count = counted in omega (arith, size, all, count));
  }

pub plain_mains_run_alike : PlainMainsRunAlike
plain_mains_run_alike unit u body plain lowered small made units n meant =
    let has = has_body unit u body made in
    main_programs_run_alike unit (inventory_of unit u) u (kind_at u) (stage_at u) (outline_of (inventory_of unit u) (first_objects (inventory_of unit u)) u) has.items body (translated unit u body plain lowered small has) units n meant
