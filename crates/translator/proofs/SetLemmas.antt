-- The C files of the units of a set, one after the other.
use Rattle.std.specs.Prelude.{◌≡◌, ℕ, zero, suc, ◌+◌, ◌-◌, ◌<◌, ◌≤◌, ℤ, List, [], ◌∷◌, ◌++◌, map, length, take, drop, Option, Some, None, option_map, option_and_then, Result, Ok, Err}
use Rattle.std.specs.Global.{Vec}
use Rattle.std.proofs.Common.{refl, sym, ap, subst, ◌∙◌, arith, get_or}
use Rattle.std.proofs.lemmas.List.{drop_all, drop-drop, drop-map, take-map, append-nil, append_assoc, length-append, length-drop, length-map, length-take-le, take_all}
use Rattle.std.proofs.Math.Seq.{take-append_seam, drop-append_seam}
use Rattle.f_tree.specs.declared.refusals.Fail.{Fail}
use Rattle.f_tree.specs.declared.refusals.Fail.TheVariants as fail
use Rattle.f_tree.specs.declared.refusals.Refusal.{Refusal}
use Rattle.f_tree.specs.declared.units.File.{File}
use Rattle.f_tree.specs.declared.units.Unit.{Unit as GivenUnit}
use Rattle.f_tree.specs.Values.{Bytes}
use Rattle.declaration_rows.specs.GlobalRows.{all_units}
use Rattle.declaration_rows.specs.Verdicts.{first_of}
use Rattle.refusal_order.specs.Earliest.{earliest}
use Rattle.refusal_order.proofs.FirstOfBoth.{first_of_both, earliest_along, earliest_none}
use Rattle.c_tree.specs.declared.file.CFile.{CFile}
use Rattle.c_tree.specs.declared.file.CFunction.{CFunction}
use Rattle.unit_forms.specs.main_file.MainFile.{constant_for}
use Rattle.unit_translation.specs.unit_file.UnitFile.{WrittenUnit, unit_function}
use Rattle.unit_translation.specs.unit_sites.UnitSites.{UnitsOfFile, file_for, files_of as c_files}
use Rattle.unit_translation.specs.UnitContents.{LoweredUnit, constants_passed}
use Rattle.unit_translation.specs.UnitBodies.{all_lowered}
use Rattle.unit_writer.specs.named_units.NamedUnits.{named_from, named_file_of, named_files_from}
use Rattle.unit_writer.specs.declared.heading.Procedure.{Procedure}
use Rattle.unit_writer.specs.ToldUnits.{TellsProcedures}
use Rattle.translated_files.specs.TranslatedFiles.{rows_of_bodies, rows_of_files}
use Rattle.translator.specs.declared.unit.PlainUnit.{PlainUnit}
use Rattle.translator.specs.LoweredFiles.{AreTold, none_told, more_told, EachIsKnown, units_given, many_of, IsAnswer, IsMade, AreFunctionsOf, functions_for, list_of, IsWrittenFile, AddsFile, AreFilesBy, AreFilesOf, AreWrittenFiles}
use Rattle.translator.proofs.NameLemmas.{rest_is, units_rest}
use Rattle.translator.proofs.FileLemmas.{both_none}

-- ## One file

file_by_functions : (constants : List ℤ) (functions : List CFunction) (file : CFile) (o : Option (List WrittenUnit)) → option_map (map unit_function) o ≡ Some functions
    → file ≡ record { objects = []; constants = map constant_for constants; functions = functions }
    → option_map file_for (option_map (λ ws. record { constants = constants; units = ws }) o) ≡ Some file
file_by_functions constants functions file None is made = absurd (cc)
file_by_functions constants functions file (Some ws) is made =
    let written : map unit_function ws ≡ functions = cc in
    ap (λ (fs : List CFunction). Some (record { objects = []; constants = map constant_for constants; functions = fs })) written ∙ ap Some (sym made)

module _ (plains : List PlainUnit) (procedures : Bytes → Option Procedure) (constants : List ℤ) (constants_are : (us : List LoweredUnit) → AreTold us plains → constants ≡ constants_passed us) where
  abbrev file_of : CFile → List CFunction → Type 0
  file_of file functions = file ≡ record { objects = []; constants = map constant_for constants; functions = functions }

  file_made : (functions : Vec CFunction) (file : CFile) (passed : List ℤ) (all us : List LoweredUnit) → constants ≡ passed → file_of file functions.items
      → IsMade (List CFunction) (rows_of_bodies constants all us (units_given plains)) (functions_for constants all us) functions.items
      → IsMade CFile (rows_of_bodies passed all us (units_given plains)) (option_map file_for (option_map (λ ws. record { constants = passed; units = ws }) (named_from passed all us))) file
  unfolding functions_for
  file_made functions file passed all us same made are =
      subst (λ zs. IsMade CFile (rows_of_bodies zs all us (units_given plains)) (option_map file_for (option_map (λ ws. record { constants = zs; units = ws }) (named_from zs all us))) file) same
      (record { made = file_by_functions constants functions.items file (named_from constants all us) are.made made; no_row = are.no_row })

  pub written_file : (functions : Vec CFunction) (file : CFile) → AreFunctionsOf plains procedures constants (Ok functions) → file_of file functions.items → IsWrittenFile plains procedures (Ok file)
  unfolding IsAnswer list_of named_file_of
  written_file functions file are made = record {
    meant = λ all us told tells. file_made functions file (constants_passed us) all us (constants_are us told) made (are.meant all us told tells);
  }

  pub not_written : (e : Fail) → AreFunctionsOf plains procedures constants (Err e) → IsWrittenFile plains procedures (Err e)
  unfolding IsAnswer list_of
  not_written (fail.Refused r) are = record {
    meant = λ all us told tells.
        subst (λ zs. first_of (rows_of_bodies zs all us (units_given plains)) ≡ Some r) (constants_are us told) (are.meant all us told tells);
  }
  not_written fail.NoMemory are = record { meant = λ all us told tells. tt }

pub no_file : (plains : List PlainUnit) (procedures : Bytes → Option Procedure) (result : Result CFile Fail) → result ≡ Err fail.NoMemory → IsWrittenFile plains procedures result
unfolding IsAnswer
no_file plains procedures result none = subst (IsWrittenFile plains procedures) (sym none) (record { meant = λ all us told tells. tt })

module _ (plains : List PlainUnit) (procedures : Bytes → Option Procedure) (before after : List CFile) where
  pub file_put : (file : CFile) → after ≡ before ++ file ∷ [] → IsWrittenFile plains procedures (Ok file) → AddsFile plains procedures before after None
  unfolding AddsFile
  file_put file put is = record { file = file; put = put; is = is }

  pub file_refused : (r : Refusal) → IsWrittenFile plains procedures (Err (fail.Refused r)) → AddsFile plains procedures before after (Some r)
  unfolding AddsFile
  file_refused r is = is

-- ## The units of a file among those of all

told_front : (n : ℕ) (us : List LoweredUnit) (plains : List PlainUnit) → AreTold us plains → AreTold (take n us) (take n plains)
told_front zero us plains told = none_told
told_front (suc n) _ _ none_told = none_told
told_front (suc n) _ _ (more_told u plain us plains one later) = more_told u plain (take n us) (take n plains) one (told_front n us plains later)

told_back : (n : ℕ) (us : List LoweredUnit) (plains : List PlainUnit) → AreTold us plains → AreTold (drop n us) (drop n plains)
told_back zero us plains told = told
told_back (suc n) _ _ none_told = none_told
told_back (suc n) _ _ (more_told u plain us plains one later) = told_back n us plains later

given_front : (n : ℕ) (plains : List PlainUnit) → units_given (take n plains) ≡ take n (units_given plains)
given_front n plains = sym (take-map (λ (plain : PlainUnit). plain.unit.now) n plains)

given_back : (n : ℕ) (plains : List PlainUnit) → units_given (drop n plains) ≡ drop n (units_given plains)
given_back n plains = sym (drop-map (λ (plain : PlainUnit). plain.unit.now) n plains)

known_front : (n : ℕ) (plains : List PlainUnit) → EachIsKnown plains → EachIsKnown (take n plains)
known_front n plains known = record { units = take n known.units; told = told_front n known.units plains known.told }

known_back : (n : ℕ) (plains : List PlainUnit) → EachIsKnown plains → EachIsKnown (drop n plains)
known_back n plains known = record { units = drop n known.units; told = told_back n known.units plains known.told }

-- the units of a file, and those behind them
pub record IsCut (rest : List PlainUnit) (f : File) (own later : List PlainUnit) : Type 0 where
  pub front : own ≡ take (length f.units) rest
  pub back : later ≡ drop (length f.units) rest

-- the last units, as many as are left
abbrev pub last_of : ℕ → List PlainUnit → List PlainUnit
last_of left plains = drop (length plains - left) plains

-- as the slice of them is read
rest_of : (left : ℕ) (plains : List PlainUnit) → take (length plains - (length plains - left)) (last_of left plains) ≡ last_of left plains
rest_of left plains =
    take_all (length plains - (length plains - left)) (last_of left plains)
    (let few : length (last_of left plains) ≤ length plains - (length plains - left) = omega (arith, length-drop (length plains - left) plains) in few)

cut_units : (plains : List PlainUnit) (f : File) (own : List PlainUnit) (left now : ℕ) → left ≤ length plains → length f.units ≤ left → now ≡ left - length f.units
    → own ≡ take (length f.units) (last_of left plains) → IsCut (last_of left plains) f own (last_of now plains)
cut_units plains f own left now within fits same is = record {
  front = is;
  back =
      ap (λ m. drop m plains) (let sum : length plains - now ≡ length plains - left + length f.units = omega (arith, within, fits, same) in sum)
      ∙ sym (drop-drop (length f.units) (length plains - left) plains);
}

module _ (rest : List PlainUnit) (f : File) (own later : List PlainUnit) (cut : IsCut rest f own later) where
  known_own : EachIsKnown rest → EachIsKnown own
  known_own known = subst EachIsKnown (sym cut.front) (known_front (length f.units) rest known)

  known_later : EachIsKnown rest → EachIsKnown later
  known_later known = subst EachIsKnown (sym cut.back) (known_back (length f.units) rest known)

  own_given : (units : List GivenUnit) → units_given rest ≡ f.units ++ units → units_given own ≡ f.units
  own_given units given = ap units_given cut.front ∙ given_front (length f.units) rest ∙ ap (take (length f.units)) given ∙ take-append_seam f.units units

  later_given : (units : List GivenUnit) → units_given rest ≡ f.units ++ units → units_given later ≡ units
  later_given units given = ap units_given cut.back ∙ given_back (length f.units) rest ∙ ap (drop (length f.units)) given ∙ drop-append_seam f.units units

  module _ (us vs : List LoweredUnit) (many : length us ≡ length f.units) (told : AreTold (us ++ vs) rest) where
    own_told : AreTold us own
    own_told =
        subst (AreTold us) (sym cut.front)
        (subst (λ xs. AreTold xs (take (length f.units) rest)) (ap (λ n. take n (us ++ vs)) (sym many) ∙ take-append_seam us vs) (told_front (length f.units) (us ++ vs) rest told))

    later_told : AreTold vs later
    later_told =
        subst (AreTold vs) (sym cut.back)
        (subst (λ xs. AreTold xs (drop (length f.units) rest)) (ap (λ n. drop n (us ++ vs)) (sym many) ∙ drop-append_seam us vs) (told_back (length f.units) (us ++ vs) rest told))

-- ## One file after the other

abbrev made_by : List LoweredUnit → List (List LoweredUnit) → Option (List CFile)
made_by all lfs = option_map c_files (named_files_from all lfs)

-- up to a place: the first of all rows, and where there is none the files, whatever those behind are
pub record AreBehind (all : List LoweredUnit) (lfs : List (List LoweredUnit)) (files left : List File) (rest : List PlainUnit) (found : List CFile) (refusal : Option Refusal) : Type 0 where
  later : List (List LoweredUnit)
  told : AreTold (all_lowered later) rest
  many : map length later ≡ many_of left
  rows : first_of (rows_of_files all lfs files) ≡ earliest refusal (first_of (rows_of_files all later left))
  made : refusal ≡ None → (more : List CFile) → made_by all later ≡ Some more → made_by all lfs ≡ Some (found ++ more)

-- a file and those behind it
files_first : (all us : List LoweredUnit) (lfs : List (List LoweredUnit)) (o : Option UnitsOfFile) (later : Option (List UnitsOfFile)) (file : CFile) (more : List CFile)
    → named_file_of all us ≡ o → named_files_from all lfs ≡ later → option_map file_for o ≡ Some file → option_map c_files later ≡ Some more → made_by all (us ∷ lfs) ≡ Some (file ∷ more)
unfolding named_files_from
files_first all us lfs None later file more one others is are = absurd (cc)
files_first all us lfs (Some f) None file more one others is are = absurd (cc)
files_first all us lfs (Some f) (Some fs) file more one others is are =
    let first : file_for f ≡ file = cc in
    let behind : c_files fs ≡ more = cc in
    (λ i. option_map c_files (named_files_by (one i) (others i))) ∙ (λ i. Some (first i ∷ behind i))
  where
    named_files_by : Option UnitsOfFile → Option (List UnitsOfFile) → Option (List UnitsOfFile)
    named_files_by o later = option_and_then (λ g. option_map (λ gs. g ∷ gs) later) o

-- what the row of a file is, and that it is made where there is none
record IsAdded (all us : List LoweredUnit) (units : List GivenUnit) (before after : List CFile) (row : Option Refusal) : Type 0 where
  rows : first_of (rows_of_bodies (constants_passed us) all us units) ≡ row
  made : row ≡ None → (file : CFile) × (after ≡ before ++ file ∷ []) × (option_map file_for (named_file_of all us) ≡ Some file)

is_added : (plains : List PlainUnit) (procedures : Bytes → Option Procedure) (all us : List LoweredUnit) (before after : List CFile) (row : Option Refusal) → AreTold us plains
    → TellsProcedures all procedures → AddsFile plains procedures before after row → IsAdded all us (units_given plains) before after row
unfolding AddsFile IsAnswer
is_added plains procedures all us before after None told tells adds =
    let is : IsMade CFile (rows_of_bodies (constants_passed us) all us (units_given plains)) (option_map file_for (named_file_of all us)) adds.file = adds.is.meant all us told tells in
    record { rows = is.no_row; made = λ none. (adds.file, adds.put, is.made) }
is_added plains procedures all us before after (Some r) told tells adds = record { rows = adds.meant all us told tells; made = λ none. absurd (cc) }

module _ (all : List LoweredUnit) (lfs : List (List LoweredUnit)) (files : List File) (procedures : Bytes → Option Procedure) (tells : TellsProcedures all procedures) (f : File) (left : List File)
    (rest own later : List PlainUnit) (cut : IsCut rest f own later) (given : units_given own ≡ f.units) (before after : List CFile) (row refusal now : Option Refusal)
    (adds : AddsFile own procedures before after row) (is : now ≡ earliest refusal row) where
  -- what is known before the file is written
  abbrev Before : List (List LoweredUnit) → Type 0
  Before behind = (AreTold (all_lowered behind) rest) × (map length behind ≡ many_of (f ∷ left)) × (first_of (rows_of_files all lfs files) ≡ earliest refusal (first_of (rows_of_files all behind (f ∷ left))))
      × (refusal ≡ None → (more : List CFile) → made_by all behind ≡ Some more → made_by all lfs ≡ Some (before ++ more))

  -- and behind it
  one_behind : (behind : List (List LoweredUnit)) → Before behind → AreBehind all lfs files left later after now
  unfolding rows_of_files
  one_behind [] so_far = let none : [] ≡ length f.units ∷ many_of left = so_far.1 in absurd (cc)
  one_behind (us ∷ others) so_far =
      let many : length us ≡ length f.units = cc in
      let added : IsAdded all us (units_given own) before after row =
      is_added own procedures all us before after row (own_told rest f own later cut us (all_lowered others) many so_far.0) tells adds in
      let rows_here : first_of (rows_of_bodies (constants_passed us) all us f.units) ≡ row = ap (λ units. first_of (rows_of_bodies (constants_passed us) all us units)) (sym given) ∙ added.rows in
      record {
        later = others;
        told = later_told rest f own later cut us (all_lowered others) many so_far.0;
        many = cc;
        rows =
            so_far.2
            ∙ ap (earliest refusal) (first_of_both (rows_of_bodies (constants_passed us) all us f.units) (rows_of_files all others left) ∙ ap (λ o. earliest o (first_of (rows_of_files all others left))) rows_here)
            ∙ sym (earliest_along refusal row (first_of (rows_of_files all others left))) ∙ ap (λ o. earliest o (first_of (rows_of_files all others left))) (sym is);
        made = λ none more there.
            let nones : (refusal ≡ None) × (row ≡ None) = both_none refusal row (sym is ∙ none) in
            let one = added.made nones.1 in
            so_far.3 nones.0 (one.0 ∷ more) (files_first all us others (named_file_of all us) (named_files_from all others) one.0 more refl refl one.2 there)
            ∙ ap Some (sym (append_assoc before (one.0 ∷ []) more) ∙ ap (λ fs. fs ++ more) (sym one.1));
      }

-- ## As the files are written

pub record AreSoFar (files : List File) (plains : List PlainUnit) (procedures : Bytes → Option Procedure) (k left : ℕ) (found : List CFile) (refusal : Option Refusal) : Type 0 where
  pub within : left ≤ length plains
  pub known : EachIsKnown (last_of left plains)
  pub given : units_given (last_of left plains) ≡ all_units (drop k files)
  pub meant : (all : List LoweredUnit) (lfs : List (List LoweredUnit)) → AreTold (all_lowered lfs) plains → map length lfs ≡ many_of files → TellsProcedures all procedures
      → AreBehind all lfs files (drop k files) (last_of left plains) found refusal

module _ (files : List File) (plains : List PlainUnit) (procedures : Bytes → Option Procedure) where
  pub no_file_made : (found : List CFile) (left : ℕ) → EachIsKnown plains → units_given plains ≡ all_units files → found ≡ [] → left ≡ length plains
      → AreSoFar files plains procedures 0 left found None
  unfolding earliest
  no_file_made found left known given none same =
      let whole : last_of left plains ≡ plains = ap (λ m. drop m plains) (let zero_left : length plains - left ≡ 0 = omega (arith, same) in zero_left) in
      record {
        within = omega (arith, same);
        known = subst EachIsKnown (sym whole) known;
        given = ap units_given whole ∙ given;
        meant = λ all lfs told many tells. record {
          later = lfs;
          told = subst (AreTold (all_lowered lfs)) (sym whole) told;
          many = many;
          rows = refl;
          made = λ nothing more there. there ∙ ap (λ fs. Some (fs ++ more)) (sym none);
        };
      }

  module _ (k left : ℕ) (f d : File) (before : List CFile) (refusal : Option Refusal) (h : k < length files) (is : f ≡ get_or files k d)
      (so_far : AreSoFar files plains procedures k left before refusal) where
    given_here : units_given (last_of left plains) ≡ f.units ++ all_units (drop (k + 1) files)
    given_here = so_far.given ∙ units_rest files k f d h is

    pub units_fit : length f.units ≤ left
    units_fit =
        let parts : length (last_of left plains) ≡ length f.units + length (all_units (drop (k + 1) files)) =
        sym (length-map (last_of left plains) (λ (plain : PlainUnit). plain.unit.now)) ∙ ap length given_here ∙ length-append f.units (all_units (drop (k + 1) files)) in
        omega (arith, parts, so_far.within, length-drop (length plains - left) plains)

    pub own_is : (n : ℕ) → n ≡ length f.units → take n (take (length plains - (length plains - left)) (last_of left plains)) ≡ take (length f.units) (last_of left plains)
    own_is n same = ap (take n) (rest_of left plains) ∙ ap (λ m. take m (last_of left plains)) same

    pub own_there : (n : ℕ) → n ≡ length f.units → n ≡ length (take n (take (length plains - (length plains - left)) (last_of left plains)))
    own_there n same =
        let rest : length (last_of left plains) ≡ length plains - (length plains - left) = length-drop (length plains - left) plains in
        sym (ap (λ us. length (take n us)) (rest_of left plains)
        ∙ length-take-le n (last_of left plains) (let few : n ≤ length (last_of left plains) = omega (arith, same, units_fit, so_far.within, rest) in few))

    its_units : (own : List PlainUnit) (now : ℕ) → own ≡ take (length f.units) (last_of left plains) → now ≡ left - length f.units → IsCut (last_of left plains) f own (last_of now plains)
    its_units own now at same = cut_units plains f own left now so_far.within units_fit same at

    pub own_known : (own : List PlainUnit) → own ≡ take (length f.units) (last_of left plains) → EachIsKnown own
    own_known own at = known_own (last_of left plains) f own (last_of (left - length f.units) plains) (its_units own (left - length f.units) at refl) so_far.known

    pub file_made_behind : (own : List PlainUnit) (now : ℕ) (after : List CFile) (row first : Option Refusal) → own ≡ take (length f.units) (last_of left plains) → now ≡ left - length f.units
        → AddsFile own procedures before after row → first ≡ earliest refusal row → AreSoFar files plains procedures (k + 1) now after first
    file_made_behind own now after row first at same adds made =
        let cut : IsCut (last_of left plains) f own (last_of now plains) = its_units own now at same in
        record {
          within = omega (arith, same, so_far.within);
          known = known_later (last_of left plains) f own (last_of now plains) cut so_far.known;
          given = later_given (last_of left plains) f own (last_of now plains) cut (all_units (drop (k + 1) files)) given_here;
          meant = λ all lfs told many tells.
              let so : AreBehind all lfs files (f ∷ drop (k + 1) files) (last_of left plains) before refusal =
              subst (λ fs. AreBehind all lfs files fs (last_of left plains) before refusal) (rest_is files k f d h is) (so_far.meant all lfs told many tells) in
              one_behind all lfs files procedures tells f (drop (k + 1) files) (last_of left plains) own (last_of now plains) cut
              (own_given (last_of left plains) f own (last_of now plains) cut (all_units (drop (k + 1) files)) given_here) before after row refusal first adds made so.later (so.told, so.many, so.rows, so.made);
        }

  -- at the end
  nothing_left : (later : List (List LoweredUnit)) → map length later ≡ [] → later ≡ []
  nothing_left [] is = refl
  nothing_left (us ∷ later) is = absurd (cc)

  all_made : (all : List LoweredUnit) (lfs : List (List LoweredUnit)) (none_left : List PlainUnit) (found : List CFile) (refusal : Option Refusal) (result : Result (List CFile) Fail)
      → AreBehind all lfs files [] none_left found refusal → (refusal ≡ None → result ≡ Ok found) → ((row : Refusal) → refusal ≡ Some row → result ≡ Err (fail.Refused row)) → AreFilesBy all lfs files result
  unfolding AreFilesBy IsAnswer rows_of_files first_of named_files_from
  all_made all lfs none_left found refusal result so kept refused = by refusal refl
    where
      none_later : so.later ≡ []
      none_later = nothing_left so.later so.many

      rows_are : first_of (rows_of_files all lfs files) ≡ refusal
      rows_are = so.rows ∙ ap (λ l. earliest refusal (first_of (rows_of_files all l []))) none_later ∙ earliest_none refusal

      made_are : refusal ≡ None → made_by all lfs ≡ Some found
      made_are none = so.made none [] (ap (made_by all) none_later) ∙ ap Some (append-nil found)

      by : (o : Option Refusal) → refusal ≡ o → AreFilesBy all lfs files result
      by None is = subst (AreFilesBy all lfs files) (sym (kept is)) (record { made = made_are is; no_row = rows_are ∙ is })
      by (Some r) is = subst (AreFilesBy all lfs files) (sym (refused r is)) (rows_are ∙ is)

  pub files_made_end : (k left : ℕ) (found : List CFile) (refusal : Option Refusal) (result : Result (List CFile) Fail) → length files ≤ k
      → AreSoFar files plains procedures k left found refusal → (refusal ≡ None → result ≡ Ok found) → ((row : Refusal) → refusal ≡ Some row → result ≡ Err (fail.Refused row))
      → AreFilesOf files plains procedures result
  files_made_end k left found refusal result h so_far kept refused = record {
    meant = λ all lfs told many tells.
        all_made all lfs (last_of left plains) found refusal result
        (subst (λ fs. AreBehind all lfs files fs (last_of left plains) found refusal) (drop_all k files h) (so_far.meant all lfs told many tells)) kept refused;
  }

  pub written_files : (result : Result (List CFile) Fail) → ((us : List LoweredUnit) → AreTold us plains → TellsProcedures us procedures) → AreFilesOf files plains procedures result
      → AreWrittenFiles files plains result
  written_files result procedures_are are = record { meant = λ lfs told many. are.meant (all_lowered lfs) lfs told many (procedures_are (all_lowered lfs) told) }

  -- want of memory
  pub no_files : (result : Result (List CFile) Fail) → result ≡ Err fail.NoMemory → AreFilesOf files plains procedures result
  unfolding AreFilesBy IsAnswer
  no_files result none = subst (AreFilesOf files plains procedures) (sym none) (record { meant = λ all lfs told many tells. tt })

pub none_written : (files : List File) (plains : List PlainUnit) (result : Result (List CFile) Fail) → result ≡ Err fail.NoMemory → AreWrittenFiles files plains result
unfolding AreFilesBy IsAnswer
none_written files plains result none = subst (AreWrittenFiles files plains) (sym none) (record { meant = λ lfs told many. tt })
