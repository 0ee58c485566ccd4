-- The functions of the units of files are told apart, where no name of them stands for two things: the names of its units, and that of its main program.
use Rattle.std.specs.List.{list_any, list_all}
use Rattle.std.specs.Prelude.{◌≡◌, ◌≢◌, ℕ, Bool, true, false, not, ◌&&◌, ◌||◌, List, [], ◌∷◌, ◌++◌, map, codes, Option, Some, None, bytes_eq, if◌then◌else◌}
use Rattle.std.proofs.Common.{refl, sym, ap, ◌∙◌, subst}
use Rattle.std.proofs.lemmas.List.{append_cancel_right}
use Rattle.fortran_totality.specs.f_tree.declared.names.Options.{Options}
use Rattle.fortran_totality.specs.f_tree.declared.refusals.Kind.TheVariants.{GlobalNameTwice, TwoMainPrograms}
use Rattle.fortran_totality.specs.f_tree.declared.refusals.Refusal.{Refusal}
use Rattle.fortran_totality.specs.f_tree.declared.statements.UnitKind.{UnitKind as GivenKind}
use Rattle.fortran_totality.specs.f_tree.declared.statements.UnitKind.TheVariants as kind
use Rattle.fortran_totality.specs.f_tree.declared.units.Unit.{Unit as GivenUnit}
use Rattle.fortran_totality.specs.f_tree.Attributes.{option_list}
use Rattle.fortran_totality.specs.f_tree.CNames.{is_name, has_underscore, external_name, main_name}
use Rattle.fortran_totality.specs.f_tree.Facts.{UnitKind, MainProgram, SubroutineUnit, FunctionUnit, BlockDataUnit, EntryPoint, ProgramUnit}
use Rattle.fortran_totality.specs.f_tree.Lines.{unit_kind, program_of, with_ties, unit_read}
use Rattle.fortran_totality.specs.f_tree.Reading.{name_or_none}
use Rattle.fortran_totality.specs.f_tree.Setting.{IsIn, first_in, later_in}
use Rattle.fortran_totality.specs.f_tree.Values.{Bytes}
use Rattle.plain_files.proofs.fortran_laws.CNameLaws.{external_name-injective}
use Rattle.plain_files.specs.c_tree.Tokens.{begins_with, is_letter}
use Rattle.plain_files.proofs.c_laws.TokenSpellings.{and-first, and-second}
use Rattle.plain_files.specs.declaration_rows.Judgement.{unless}
use Rattle.plain_files.specs.declaration_rows.GlobalRows.{Global, globals_of_statements, globals_of_unit, globals_of, clashes, refused_at, global_rows, is_main_program, main_rows, units_global_rows}
use Rattle.plain_files.specs.faithful.Signatures.{named_formals}
use Rattle.plain_files.specs.faithful.StorageImage.{name_of_entries, function_name}
use Rattle.plain_files.specs.linking_laws.Linked as names
use Rattle.plain_files.proofs.linking_laws.Places.{same_bytes}
use Rattle.plain_files.proofs.main_translation_laws.Lists.{AreApart, none_apart, one_apart, in_map, distinct_by}
use Rattle.plain_files.specs.plain_forms.SpellableNames.{is_spellable}
use Rattle.plain_units.specs.unit_forms.SpellableUnits.{is_called_well, is_spellable_entry, is_spellable_unit}

-- ## No row

nothing_in : {A : Type 0} (xs : List A) → ((x : A) → IsIn x xs → ⊥) → xs ≡ []
nothing_in [] none = refl
nothing_in (x ∷ xs) none = absurd (none x first_in)

none_front : {A : Type 0} (xs ys : List A) → xs ++ ys ≡ [] → xs ≡ []
none_front [] ys is = refl
none_front (x ∷ xs) ys is = absurd (cc)

none_back : {A : Type 0} (xs ys : List A) → xs ++ ys ≡ [] → ys ≡ []
none_back [] ys is = is
none_back (x ∷ xs) ys is = absurd (cc)

in_front : {A : Type 0} (y : A) (xs more : List A) → IsIn y xs → IsIn y (xs ++ more)
in_front y [] more o = elim o [ ]
in_front _ (x ∷ xs) more first_in = first_in
in_front y (x ∷ xs) more (later_in o) = later_in (in_front y xs more o)

or_second : (a : Bool) {b : Bool} → b ≡ true → (a || b) ≡ true
or_second true is = refl
or_second false is = is

-- ## Names that stand once

not_clashing : (g : Global) (before : List Global) → list_any (clashes g) before ≡ false → (h : Global) → IsIn h before → clashes g h ≡ false
not_clashing g [] none h o = elim o [ ]
not_clashing g (k ∷ before) none _ first_in = by (clashes g k) none
  where
    by : (t : Bool) → (t || list_any (clashes g) before) ≡ false → t ≡ false
    by true is = absurd (cc)
    by false is = refl
not_clashing g (k ∷ before) none h (later_in o) = not_clashing g before (by (clashes g k) none) h o
  where
    by : (t : Bool) → (t || list_any (clashes g) before) ≡ false → list_any (clashes g) before ≡ false
    by true is = absurd (cc)
    by false is = is

-- the names behind some others, none of which they are
record StandBehind (before gs more : List Global) : Type 0 where
  known : List Global
  keeps : (h : Global) → IsIn h before → IsIn h known
  has : (g : Global) → IsIn g gs → IsIn g known
  apart : (g h : Global) → IsIn g gs → IsIn h before → clashes g h ≡ false
  rows : global_rows known more ≡ []

stand_behind : (before gs more : List Global) → global_rows before (gs ++ more) ≡ [] → StandBehind before gs more
unfolding unless global_rows
stand_behind before [] more none = record { known = before; keeps = λ h o. o; has = λ g o. elim o [ ]; apart = λ g h o p. elim o [ ]; rows = none }
stand_behind before (g ∷ gs) more none = by (list_any (clashes g) before) refl none (stand_behind (g ∷ before) gs more)
  where
    with_later : list_any (clashes g) before ≡ false → StandBehind (g ∷ before) gs more → StandBehind before (g ∷ gs) more
    with_later other later = record { known = later.known; keeps = λ h o. later.keeps h (later_in o); has = has; apart = apart; rows = later.rows }
      where
        has : (h : Global) → IsIn h (g ∷ gs) → IsIn h later.known
        has _ first_in = later.keeps g first_in
        has h (later_in o) = later.has h o

        apart : (k h : Global) → IsIn k (g ∷ gs) → IsIn h before → clashes k h ≡ false
        apart _ h first_in p = not_clashing g before other h p
        apart k h (later_in o) p = later.apart k h o (later_in p)

    by : (t : Bool) → list_any (clashes g) before ≡ t → map (refused_at g.file g.card) (unless (not t) GlobalNameTwice) ++ global_rows (g ∷ before) (gs ++ more) ≡ [] → (global_rows (g ∷ before) (gs ++ more) ≡ [] → StandBehind (g ∷ before) gs more) → StandBehind before (g ∷ gs) more
    by true is rows later = absurd (cc)
    by false is rows later = with_later is (later rows)

-- ## The function of a unit

pub called_well : (unit : ProgramUnit) (entry : EntryPoint) → unit.entries ≡ entry ∷ [] → is_spellable_unit unit ≡ true → is_called_well unit.kind entry.name ≡ true
unfolding is_spellable_unit is_spellable_entry
called_well unit entry only spelled =
    let all = and-second (is_spellable unit) (list_all (is_spellable_entry unit.kind) unit.entries) spelled in
    let one = and-first (is_spellable_entry unit.kind entry) true (ap (list_all (is_spellable_entry unit.kind)) (sym only) ∙ all) in
    and-first (is_called_well unit.kind entry.name) (list_all (begins_with is_letter) (named_formals entry.formals)) one

pub formals_spelled : (unit : ProgramUnit) (entry : EntryPoint) → unit.entries ≡ entry ∷ [] → is_spellable_unit unit ≡ true → list_all (begins_with is_letter) (named_formals entry.formals) ≡ true
unfolding is_spellable_unit is_spellable_entry
formals_spelled unit entry only spelled =
    let all = and-second (is_spellable unit) (list_all (is_spellable_entry unit.kind) unit.entries) spelled in
    let one = and-first (is_spellable_entry unit.kind entry) true (ap (list_all (is_spellable_entry unit.kind)) (sym only) ∙ all) in
    and-second (is_called_well unit.kind entry.name) (list_all (begins_with is_letter) (named_formals entry.formals)) one

pub stored_spelled : (unit : ProgramUnit) → is_spellable_unit unit ≡ true → is_spellable unit ≡ true
unfolding is_spellable_unit
stored_spelled unit spelled = and-first (is_spellable unit) (list_all (is_spellable_entry unit.kind) unit.entries) spelled

-- what a function goes by: the name of the unit, or that of main programs
pub data IsNamed (u : GivenUnit) (name : List ℕ) : Type 0 where
  as_main : is_main_program u ≡ true → name ≡ main_name → IsNamed u name
  as_called : (x : Bytes) → u.name ≡ Some x → name ≡ external_name x → IsNamed u name

pub kind_named : (unit : ProgramUnit) (k : UnitKind) → unit.kind ≡ k → function_name unit ≡ elim k [ MainProgram ↦ main_name | _ ↦ name_of_entries unit.entries ]
unfolding function_name
kind_named unit k is = ap (λ (z : UnitKind). elim z [ MainProgram ↦ main_name | _ ↦ name_of_entries unit.entries ]) is

main_told : (k : GivenKind) → elim k [ kind.Main ↦ MainProgram | kind.Subroutine ↦ SubroutineUnit | kind.Function spec ↦ FunctionUnit | kind.BlockData ↦ BlockDataUnit ] ≡ MainProgram → elim k [ kind.Main ↦ true | _ ↦ false ] ≡ true
main_told kind.Main is = refl
main_told kind.Subroutine is = absurd (cc)
main_told (kind.Function spec) is = absurd (cc)
main_told kind.BlockData is = absurd (cc)

is_main : (u : GivenUnit) → unit_kind u ≡ MainProgram → is_main_program u ≡ true
unfolding unit_kind is_main_program
is_main u is = main_told u.kind is

kind_read : (options : Options) (u : GivenUnit) → (unit_read options u).kind ≡ unit_kind u
unfolding unit_read with_ties program_of
kind_read options u = refl

abbrev first_name : List EntryPoint → Bytes
first_name [] = []
first_name (entry ∷ later) = entry.name

name_read : (options : Options) (u : GivenUnit) → first_name (unit_read options u).entries ≡ name_or_none u.name
unfolding unit_read with_ties program_of
name_read options u = refl

module _ (options : Options) (given : GivenUnit) (unit : ProgramUnit) (same : unit ≡ unit_read options given) (entry : EntryPoint) (only : unit.entries ≡ entry ∷ []) (spelled : is_spellable_unit unit ≡ true) where
  own_name : entry.name ≡ name_or_none given.name
  own_name = ap first_name (sym only) ∙ ap (λ (p : ProgramUnit). first_name p.entries) same ∙ name_read options given

  called_by : function_name unit ≡ name_of_entries unit.entries → begins_with is_letter entry.name ≡ true → IsNamed given (function_name unit)
  unfolding name_or_none
  called_by is letter = by given.name refl own_name
    where
      by : (name : Option Bytes) → given.name ≡ name → entry.name ≡ name_or_none name → IsNamed given (function_name unit)
      by (Some x) named own = as_called x named (is ∙ ap name_of_entries only ∙ ap external_name own)
      by None named own = let no : true ≡ false = sym letter ∙ ap (begins_with is_letter) own in absurd (cc)

  pub named_as : unit.kind ≢ BlockDataUnit → IsNamed given (function_name unit)
  unfolding is_called_well
  named_as runs = by unit.kind refl (called_well unit entry only spelled)
    where
      by : (k : UnitKind) → unit.kind ≡ k → is_called_well k entry.name ≡ true → IsNamed given (function_name unit)
      by MainProgram is well = as_main (is_main given (sym (kind_read options given) ∙ ap (λ (p : ProgramUnit). p.kind) (sym same) ∙ is)) (kind_named unit MainProgram is)
      by SubroutineUnit is well = called_by (kind_named unit SubroutineUnit is) (and-first (begins_with is_letter entry.name) (is_name entry.name) well)
      by FunctionUnit is well = called_by (kind_named unit FunctionUnit is) (and-first (begins_with is_letter entry.name) (is_name entry.name) well)
      by BlockDataUnit is well = absurd (runs is)

-- ## The functions of several

no_external : (x : Bytes) → external_name x ≡ main_name → ⊥
unfolding external_name main_name has_underscore
no_external x same = by (has_underscore x) refl same
  where
    by : (t : Bool) → has_underscore x ≡ t → (if t then x ++ codes "__" else x ++ codes "_") ≡ codes "MAIN__" → ⊥
    by true has is = let own : x ≡ codes "MAIN" = append_cancel_right x (codes "MAIN") (codes "__") is in let no : true ≡ false = sym has ∙ ap has_underscore own in absurd (cc)
    by false has is = let own : x ≡ codes "MAIN_" = append_cancel_right x (codes "MAIN_") (codes "_") is in let no : false ≡ true = sym has ∙ ap has_underscore own in absurd (cc)

abbrev global_of : GivenUnit → Bytes → Global
global_of u x = record { name = x; is_block = false; file = u.file; card = u.card }

own_global : (u : GivenUnit) (x : Bytes) → u.name ≡ Some x → IsIn (global_of u x) (globals_of_unit u)
unfolding globals_of_unit option_list
own_global u x named = subst (λ name. IsIn (global_of u x) (map (global_of u) (option_list name) ++ globals_of_statements u.statements)) (sym named) first_in

other_name : (g h : Global) → g.is_block ≡ false → clashes g h ≡ false → h.name ≢ g.name
unfolding clashes
other_name g h no_block none same =
    let here : bytes_eq g.name h.name ≡ true = same_bytes g.name h.name (sym same) in
    let clash : true ≡ false = sym ((λ i. here i && not (no_block i && h.is_block))) ∙ none in absurd (cc)

one_main_row : (u : GivenUnit) (t : Bool) → map (refused_at u.file u.card) (unless (not t) TwoMainPrograms) ≡ [] → t ≡ false
unfolding unless
one_main_row u true none = absurd (cc)
one_main_row u false none = refl

record AreTold (f : GivenUnit → List ℕ) (before : List Global) (found : Bool) (us : List GivenUnit) : Type 0 where
  apart : AreApart (map f us)
  others : (u : GivenUnit) → IsIn u us → (x : Bytes) → u.name ≡ Some x → (h : Global) → IsIn h before → h.name ≢ x
  one_main : found ≡ true → (u : GivenUnit) → IsIn u us → is_main_program u ≡ false

units_told : (f : GivenUnit → List ℕ) (before : List Global) (found : Bool) (us : List GivenUnit) → ((u : GivenUnit) → IsIn u us → IsNamed u (f u)) → global_rows before (globals_of us) ≡ [] → main_rows found us ≡ [] → AreTold f before found us
unfolding globals_of main_rows
units_told f before found [] named globals mains = record { apart = none_apart; others = λ u o. elim o [ ]; one_main = λ is u o. elim o [ ] }
units_told f before found (u ∷ us) named globals mains =
    let s = stand_behind before (globals_of_unit u) (globals_of us) globals in
    let rows = map (refused_at u.file u.card) (unless (not (found && is_main_program u)) TwoMainPrograms) in
    let later = units_told f s.known (found || is_main_program u) us (λ w o. named w (later_in o)) s.rows (none_back rows (main_rows (found || is_main_program u) us) mains) in
    let first : (found && is_main_program u) ≡ false = one_main_row u (found && is_main_program u) (none_front rows (main_rows (found || is_main_program u) us) mains) in
    record { apart = apart s later; others = others s later; one_main = one_main first later }
  where
    other : (x y : Bytes) (s : StandBehind before (globals_of_unit u) (globals_of us)) → AreTold f s.known (found || is_main_program u) us → u.name ≡ Some x → (w : GivenUnit) → IsIn w us → w.name ≡ Some y → x ≢ y
    other x y s later is w o named = later.others w o y named (global_of u x) (s.has (global_of u x) (own_global u x is))

    differ : (s : StandBehind before (globals_of_unit u) (globals_of us)) → AreTold f s.known (found || is_main_program u) us → (w : GivenUnit) → IsIn w us → IsNamed u (f u) → IsNamed w (f w) → f u ≢ f w
    differ s later w o (as_main m n) (as_main q r) same = let no : true ≡ false = sym q ∙ later.one_main (or_second found m) w o in absurd (cc)
    differ s later w o (as_main m n) (as_called y is r) same = no_external y (sym r ∙ sym same ∙ n)
    differ s later w o (as_called x is n) (as_main q r) same = no_external x (sym n ∙ same ∙ r)
    differ s later w o (as_called x is n) (as_called y named r) same = other x y s later is w o named (external_name-injective x y (sym n ∙ same ∙ r))

    apart : (s : StandBehind before (globals_of_unit u) (globals_of us)) → AreTold f s.known (found || is_main_program u) us → AreApart (f u ∷ map f us)
    apart s later =
        one_apart (λ name o same. let w = in_map f us name o in differ s later w.from w.among (named u first_in) (named w.from (later_in w.among)) (same ∙ sym w.is)) later.apart

    others : (s : StandBehind before (globals_of_unit u) (globals_of us)) → AreTold f s.known (found || is_main_program u) us → (w : GivenUnit) → IsIn w (u ∷ us) → (x : Bytes) → w.name ≡ Some x → (h : Global) → IsIn h before → h.name ≢ x
    others s later _ first_in x is h p = other_name (global_of u x) h refl (s.apart (global_of u x) h (own_global u x is) p)
    others s later w (later_in o) x is h p = later.others w o x is h (s.keeps h p)

    one_main : (found && is_main_program u) ≡ false → {known : List Global} → AreTold f known (found || is_main_program u) us → found ≡ true → (w : GivenUnit) → IsIn w (u ∷ us) → is_main_program w ≡ false
    one_main first later is _ first_in = sym (ap (λ t. t && is_main_program u) is) ∙ first
    one_main first later is w (later_in o) = later.one_main (ap (λ t. t || is_main_program u) is) w o

-- ## The whole

read_map : (options : Options) (given : List GivenUnit) → map function_name (map (unit_read options) given) ≡ map (λ (u : GivenUnit). function_name (unit_read options u)) given
read_map options [] = refl
read_map options (u ∷ us) = ap (λ later. function_name (unit_read options u) ∷ later) (read_map options us)

pub functions_differ : (options : Options) (given : List GivenUnit) → ((r : Refusal) → IsIn r (units_global_rows given) → ⊥) → ((u : GivenUnit) → IsIn u given → IsNamed u (function_name (unit_read options u))) →
    names.AreDistinct (map function_name (map (unit_read options) given))
unfolding units_global_rows
functions_differ options given none named =
    let rows = nothing_in (units_global_rows given) none in
    let told =
    units_told (λ u. function_name (unit_read options u)) [] false given named (none_front (global_rows [] (globals_of given)) (main_rows false given) rows)
    (none_back (global_rows [] (globals_of given)) (main_rows false given) rows) in
    subst names.AreDistinct (sym (read_map options given)) (distinct_by (map (λ (u : GivenUnit). function_name (unit_read options u)) given) told.apart)
