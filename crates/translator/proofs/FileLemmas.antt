-- The units of the files of a set, one after the other.
use Rattle.std.specs.Global.{Vec}
use Rattle.std.specs.Prelude.{◌≡◌, ℕ, suc, ◌+◌, ◌<◌, ◌≤◌, List, [], ◌∷◌, ◌++◌, map, length, take, Option, Some, None, Result, Ok, Err}
use Rattle.std.proofs.Common.{refl, sym, ap, subst, ◌∙◌, arith, get_or}
use Rattle.std.proofs.lemmas.List.{take_all, take_more, append-nil, append_assoc, map-append}
use Rattle.f_tree.specs.declared.names.Options.{Options}
use Rattle.f_tree.specs.declared.refusals.Fail.{Fail}
use Rattle.f_tree.specs.declared.refusals.Fail.TheVariants as fail
use Rattle.f_tree.specs.declared.refusals.Refusal.{Refusal}
use Rattle.f_tree.specs.declared.units.File.{File}
use Rattle.f_tree.specs.declared.units.Unit.{Unit as GivenUnit}
use Rattle.f_tree.specs.Values.{Bytes}
use Rattle.declaration_rows.specs.GlobalRows.{all_units}
use Rattle.declaration_rows.specs.Verdicts.{earlier, first_of}
use Rattle.refusal_order.specs.Earliest.{earliest}
use Rattle.refusal_order.proofs.FirstOfBoth.{first_of_both}
use Rattle.unit_translation.specs.UnitContents.{LoweredUnit}
use Rattle.unit_translation.specs.UnitBodies.{all_lowered}
use Rattle.translated_files.specs.TranslatedFiles.{procedure_names, lowered_at, lowered_before, lowered_from, files_before, lowered_files, form_row, row_unless, rows_of_lowering}
use Rattle.translator.specs.declared.unit.PlainUnit.{PlainUnit}
use Rattle.translator.specs.UnitFiles.{IsUnitAt, IsUnitIf}
use Rattle.translator.specs.LoweredFiles.{AreTold, none_told, more_told, units_given, ArePut, WereAdded, AddsUnit, AddsUnits, WereLowered, AreUnitsOf, many_of}
use Rattle.translator.proofs.NameLemmas.{units_both}

-- ## Refusals

pub some_along : (refusal : Option Refusal) (r : Refusal) → earliest refusal (Some r) ≡ None → ⊥
unfolding earliest earlier
some_along None r is = cc
some_along (Some q) r is = cc

pub both_none : (first second : Option Refusal) → earliest first second ≡ None → (first ≡ None) × (second ≡ None)
unfolding earliest
both_none None second is = (refl, is)
both_none (Some r) second is = absurd (cc)

-- a list up to the next place
take_one : {X : Type 0} (xs : List X) (i : ℕ) (x d : X) → i < length xs → x ≡ get_or xs i d → take (i + 1) xs ≡ take i xs ++ x ∷ []
take_one xs i x d h is = take_more xs i d h ∙ ap (λ y. take i xs ++ y ∷ []) (sym is)

-- ## What is told of units

told_both : (us vs : List LoweredUnit) (plains others : List PlainUnit) → AreTold us plains → AreTold vs others → AreTold (us ++ vs) (plains ++ others)
told_both _ _ _ others none_told later = later
told_both _ vs _ others (more_told u plain us plains one first) later = more_told u plain (us ++ vs) (plains ++ others) one (told_both us vs plains others first later)

-- ## Lowered units

record Lowers (o : Option LoweredUnit) (later : Option (List LoweredUnit)) (us : List LoweredUnit) : Type 0 where
  first : LoweredUnit
  one : o ≡ Some first
  others : List LoweredUnit
  behind : later ≡ Some others
  same : first ∷ others ≡ us

lowers : (o : Option LoweredUnit) (later : Option (List LoweredUnit)) (us : List LoweredUnit) → lowered_before o later ≡ Some us → Lowers o later us
unfolding lowered_before
lowers None later us is = absurd (cc)
lowers (Some u) None us is = absurd (cc)
lowers (Some u) (Some vs) us is = record { first = u; one = refl; others = vs; behind = refl; same = cc }

module _ (options : Options) (all : List GivenUnit) where
  abbrev from : ℕ → List GivenUnit → Option (List LoweredUnit)
  from j units = lowered_from options all j units

  abbrev rows : ℕ → List GivenUnit → List Refusal
  rows j units = rows_of_lowering options all j units

  nothing_on : (j : ℕ) → j ≡ j + length {A = GivenUnit} []
  nothing_on j = omega arith

  one_on : (j : ℕ) (u : GivenUnit) (units : List GivenUnit) → suc j + length units ≡ j + length (u ∷ units)
  one_on j u units = omega arith

  rows_both : (j : ℕ) (units others : List GivenUnit) → rows j (units ++ others) ≡ rows j units ++ rows (j + length units) others
  unfolding rows_of_lowering
  rows_both j [] others = ap (λ n. rows n others) (nothing_on j)
  rows_both j (u ∷ units) others =
      let own : List Refusal = row_unless (lowered_at options all j u) (form_row u u.statements) in
      ap (λ rs. own ++ rs) (rows_both (suc j) units others) ∙ ap (λ n. own ++ (rows (suc j) units ++ rows n others)) (one_on j u units)
      ∙ sym (append_assoc own (rows (suc j) units) (rows (j + length (u ∷ units)) others))

  from_both : (j : ℕ) (units others : List GivenUnit) (us vs : List LoweredUnit) → from j units ≡ Some us → from (j + length units) others ≡ Some vs → from j (units ++ others) ≡ Some (us ++ vs)
  unfolding lowered_from lowered_before
  from_both j [] others us vs is later = let none : [] ≡ us = cc in ap (λ n. from n others) (nothing_on j) ∙ later ∙ ap (λ xs. Some (xs ++ vs)) none
  from_both j (u ∷ units) others us vs is later =
      let all_here : Lowers (lowered_at options all j u) (from (suc j) units) us = lowers (lowered_at options all j u) (from (suc j) units) us is in
      ap (λ o. lowered_before o (from (suc j) (units ++ others))) all_here.one
      ∙ ap (lowered_before (Some all_here.first)) (from_both (suc j) units others all_here.others vs all_here.behind (ap (λ n. from n others) (one_on j u units) ∙ later))
      ∙ ap (λ xs. Some (xs ++ vs)) all_here.same

  -- and the units of two lists are those of each
  record AreParted (j : ℕ) (units others : List GivenUnit) (us : List LoweredUnit) : Type 0 where
    front : List LoweredUnit
    back : List LoweredUnit
    fronts : from j units ≡ Some front
    backs : from (j + length units) others ≡ Some back
    same : front ++ back ≡ us

  parted : (j : ℕ) (units others : List GivenUnit) (us : List LoweredUnit) → from j (units ++ others) ≡ Some us → AreParted j units others us
  unfolding lowered_from lowered_before
  parted j [] others us is = record { front = []; back = us; fronts = refl; backs = ap (λ n. from n others) (sym (nothing_on j)) ∙ is; same = refl }
  parted j (u ∷ units) others us is =
      let all_here : Lowers (lowered_at options all j u) (from (suc j) (units ++ others)) us = lowers (lowered_at options all j u) (from (suc j) (units ++ others)) us is in
      let later : AreParted (suc j) units others all_here.others = parted (suc j) units others all_here.others all_here.behind in
      record {
        front = all_here.first ∷ later.front;
        back = later.back;
        fronts = ap (λ o. lowered_before o (from (suc j) units)) all_here.one ∙ ap (lowered_before (Some all_here.first)) later.fronts;
        backs = ap (λ n. from n others) (sym (one_on j u units)) ∙ later.backs;
        same = ap (λ xs. all_here.first ∷ xs) later.same ∙ all_here.same;
      }

  as_many : (j : ℕ) (units : List GivenUnit) (us : List LoweredUnit) → from j units ≡ Some us → length us ≡ length units
  unfolding lowered_from
  as_many j [] us is = let none : [] ≡ us = cc in ap length (sym none)
  as_many j (u ∷ units) us is =
      let all_here : Lowers (lowered_at options all j u) (from (suc j) units) us = lowers (lowered_at options all j u) (from (suc j) units) us is in
      ap length (sym all_here.same) ∙ ap suc (as_many (suc j) units all_here.others all_here.behind)

  pub no_rows : (j : ℕ) (units : List GivenUnit) (us : List LoweredUnit) → from j units ≡ Some us → rows j units ≡ []
  unfolding lowered_from rows_of_lowering row_unless
  no_rows j [] us is = refl
  no_rows j (u ∷ units) us is =
      let all_here : Lowers (lowered_at options all j u) (from (suc j) units) us = lowers (lowered_at options all j u) (from (suc j) units) us is in
      ap (λ o. row_unless o (form_row u u.statements) ++ rows (suc j) units) all_here.one ∙ no_rows (suc j) units all_here.others all_here.behind

  -- ## One file after the other

  record AreParts (j : ℕ) (files : List File) (us : List LoweredUnit) : Type 0 where
    lowered : List (List LoweredUnit)
    were : lowered_files options all j files ≡ Some lowered
    same : all_lowered lowered ≡ us
    many : map length lowered ≡ many_of files

  parts : (j : ℕ) (files : List File) (us : List LoweredUnit) → from j (all_units files) ≡ Some us → AreParts j files us
  unfolding all_units lowered_from lowered_files files_before
  parts j [] us is = record { lowered = []; were = refl; same = cc; many = refl }
  parts j (f ∷ files) us is =
      let two : AreParted j f.units (all_units files) us = parted j f.units (all_units files) us is in
      let later : AreParts (j + length f.units) files two.back = parts (j + length f.units) files two.back two.backs in
      record {
        lowered = two.front ∷ later.lowered;
        were = ap (λ o. files_before o (lowered_files options all (j + length f.units) files)) two.fronts ∙ ap (files_before (Some two.front)) later.were;
        same = ap (λ xs. two.front ++ xs) later.same ∙ two.same;
        many = (λ i. as_many j f.units two.front two.fronts i ∷ later.many i);
      }

  record LowersFile (o : Option (List LoweredUnit)) (later : Option (List (List LoweredUnit))) (lfs : List (List LoweredUnit)) : Type 0 where
    first : List LoweredUnit
    one : o ≡ Some first
    others : List (List LoweredUnit)
    behind : later ≡ Some others
    same : first ∷ others ≡ lfs

  lowers_file : (o : Option (List LoweredUnit)) (later : Option (List (List LoweredUnit))) (lfs : List (List LoweredUnit)) → files_before o later ≡ Some lfs → LowersFile o later lfs
  unfolding files_before
  lowers_file None later lfs is = absurd (cc)
  lowers_file (Some us) None lfs is = absurd (cc)
  lowers_file (Some us) (Some others) lfs is = record { first = us; one = refl; others = others; behind = refl; same = cc }

  pub in_one_list : (j : ℕ) (files : List File) (lfs : List (List LoweredUnit)) → lowered_files options all j files ≡ Some lfs → from j (all_units files) ≡ Some (all_lowered lfs)
  unfolding all_units lowered_from lowered_files
  in_one_list j [] lfs is = let none : [] ≡ lfs = cc in ap (λ l. Some (all_lowered l)) none
  in_one_list j (f ∷ files) lfs is =
      let two : LowersFile (from j f.units) (lowered_files options all (j + length f.units) files) lfs = lowers_file (from j f.units) (lowered_files options all (j + length f.units) files) lfs is in
      from_both j f.units (all_units files) two.first (all_lowered two.others) two.one (in_one_list (j + length f.units) files two.others two.behind) ∙ ap (λ l. Some (all_lowered l)) two.same

  -- ## Units that are put

  none_added : (j : ℕ) (before : List PlainUnit) → WereAdded options all j [] before before None
  unfolding rows_of_lowering lowered_from first_of
  none_added j before = record {
    rows = refl;
    lowered = λ none. record { lowered = []; were = refl; plains = []; put = sym (append-nil before); told = none_told; given = refl };
  }

  both_put : (j : ℕ) (units others : List GivenUnit) (before between after : List PlainUnit) → ArePut options all j units before between → ArePut options all (j + length units) others between after
      → ArePut options all j (units ++ others) before after
  both_put j units others before between after first second = record {
    lowered = first.lowered ++ second.lowered;
    were = from_both j units others first.lowered second.lowered first.were second.were;
    plains = first.plains ++ second.plains;
    put = second.put ∙ ap (λ ps. ps ++ second.plains) first.put ∙ append_assoc before first.plains second.plains;
    told = told_both first.lowered second.lowered first.plains second.plains first.told second.told;
    given = map-append (λ (plain : PlainUnit). plain.unit.now) first.plains second.plains ∙ (λ i. first.given i ++ second.given i);
  }

  both_added : (j : ℕ) (units others : List GivenUnit) (before between after : List PlainUnit) (first second now : Option Refusal) → WereAdded options all j units before between first
      → WereAdded options all (j + length units) others between after second → now ≡ earliest first second → WereAdded options all j (units ++ others) before after now
  both_added j units others before between after first second now one two is = record {
    rows =
        ap first_of (rows_both j units others) ∙ first_of_both (rows j units) (rows (j + length units) others) ∙ (λ i. earliest (one.rows i) (two.rows i)) ∙ sym is;
    lowered = λ none.
        let nones : (first ≡ None) × (second ≡ None) = both_none first second (sym is ∙ none) in
        both_put j units others before between after (one.lowered nones.0) (two.lowered nones.1);
  }

  one_added : (procedures : List Bytes) (j : ℕ) (u : GivenUnit) (before after : List PlainUnit) (row : Option Refusal) → procedure_names all ≡ procedures
      → AddsUnit options procedures u before after row → WereAdded options all j (u ∷ []) before after row
  unfolding AddsUnit IsUnitIf rows_of_lowering lowered_from lowered_before row_unless first_of earlier
  one_added procedures j u before after None names adds =
      let at : IsUnitAt u adds.plain (lowered_at options all j u) = adds.is all j names in
      record {
        rows = ap (λ o. first_of (row_unless o (form_row u u.statements) ++ [])) at.found;
        lowered = λ none. record {
          lowered = at.lowered ∷ [];
          were = ap (λ o. lowered_before o (Some [])) at.found;
          plains = adds.plain ∷ [];
          put = adds.put;
          told = more_told at.lowered adds.plain [] [] at.told none_told;
          given = ap (λ v. v ∷ []) at.given;
        };
      }
  one_added procedures j u before after (Some r) names adds =
      let none : lowered_at options all j u ≡ None = adds.is all j names in
      record { rows = ap (λ o. first_of (row_unless o (form_row u u.statements) ++ [])) none ∙ ap Some (sym adds.row); lowered = λ is. absurd (cc) }

-- ## As the units of a file are read

module _ (options : Options) (procedures : List Bytes) where
  no_units : (before : List PlainUnit) → AddsUnits options procedures [] before before None
  no_units before = record { added = λ all j names. none_added options all j before }

  pub no_unit_yet : (units : List GivenUnit) (before : List PlainUnit) → AddsUnits options procedures (take 0 units) before before None
  no_unit_yet units before = no_units before

  units_added : (units others : List GivenUnit) (before between after : List PlainUnit) (first second now : Option Refusal) → AddsUnits options procedures units before between first
      → AddsUnits options procedures others between after second → now ≡ earliest first second → AddsUnits options procedures (units ++ others) before after now
  units_added units others before between after first second now one two is = record {
    added = λ all j names. both_added options all j units others before between after first second now (one.added all j names) (two.added all (j + length units) names) is;
  }

  pub unit_added : (units : List GivenUnit) (i : ℕ) (u d : GivenUnit) (before between after : List PlainUnit) (first row now : Option Refusal) → i < length units → u ≡ get_or units i d
      → AddsUnits options procedures (take i units) before between first → AddsUnit options procedures u between after row → now ≡ earliest first row
      → AddsUnits options procedures (take (i + 1) units) before after now
  unit_added units i u d before between after first row now h at so_far adds is =
      subst (λ us. AddsUnits options procedures us before after now) (sym (take_one units i u d h at))
      (units_added (take i units) (u ∷ []) before between after first row now so_far (record { added = λ all j names. one_added options all procedures j u between after row names adds }) is)

  pub units_end : (units : List GivenUnit) (i : ℕ) (before after : List PlainUnit) (first : Option Refusal) → length units ≤ i → AddsUnits options procedures (take i units) before after first
      → AddsUnits options procedures units before after first
  units_end units i before after first h so_far = subst (λ us. AddsUnits options procedures us before after first) (take_all i units h) so_far

  -- ## As the files are read

  pub no_file_yet : (files : List File) (before : List PlainUnit) → before ≡ [] → AddsUnits options procedures (all_units (take 0 files)) [] before None
  unfolding all_units
  no_file_yet files before none = subst (λ ps. AddsUnits options procedures [] [] ps None) (sym none) (no_units [])

  file_units : (files : List File) (k : ℕ) (f d : File) → k < length files → f ≡ get_or files k d → all_units (take (k + 1) files) ≡ all_units (take k files) ++ f.units
  unfolding all_units
  file_units files k f d h is =
      ap all_units (take_one files k f d h is) ∙ units_both (take k files) (f ∷ []) ∙ ap (λ us. all_units (take k files) ++ us) (append-nil f.units)

  pub file_added : (files : List File) (k : ℕ) (f d : File) (units : List GivenUnit) (between after : List PlainUnit) (first second now : Option Refusal) → k < length files → f ≡ get_or files k d
      → units ≡ f.units → AddsUnits options procedures (all_units (take k files)) [] between first → AddsUnits options procedures units between after second → now ≡ earliest first second
      → AddsUnits options procedures (all_units (take (k + 1) files)) [] after now
  file_added files k f d units between after first second now h at same so_far adds is =
      subst (λ us. AddsUnits options procedures us [] after now) (ap (λ us. all_units (take k files) ++ us) same ∙ sym (file_units files k f d h at))
      (units_added (all_units (take k files)) units [] between after first second now so_far adds is)

  lowered_so : (files : List File) (plains : List PlainUnit) → ArePut options (all_units files) 0 (all_units files) [] plains → WereLowered options files plains
  lowered_so files plains put =
      let each : AreParts options (all_units files) 0 files put.lowered = parts options (all_units files) 0 files put.lowered put.were in
      record {
        lowered = each.lowered;
        were = each.were;
        many = each.many;
        told = subst (λ us. AreTold us plains) (sym each.same) (subst (AreTold put.lowered) (sym put.put) put.told);
        given = ap units_given put.put ∙ put.given;
      }

  pub files_end : (files : List File) (k : ℕ) (found : Vec PlainUnit) (refusal : Option Refusal) (result : Result (Vec PlainUnit) Fail) → length files ≤ k
      → AddsUnits options procedures (all_units (take k files)) [] found.items refusal → (refusal ≡ None → result ≡ Ok found) → ((row : Refusal) → refusal ≡ Some row → result ≡ Err (fail.Refused row))
      → AreUnitsOf options procedures files result
  unfolding AreUnitsOf
  files_end files k found None result h so_far kept refused =
      let whole : AddsUnits options procedures (all_units files) [] found.items None = subst (λ fs. AddsUnits options procedures (all_units fs) [] found.items None) (take_all k files h) so_far in
      subst (AreUnitsOf options procedures files) (sym (kept refl)) (λ names. lowered_so files found.items ((whole.added (all_units files) 0 names).lowered refl))
  files_end files k found (Some r) result h so_far kept refused =
      let whole : AddsUnits options procedures (all_units files) [] found.items (Some r) = subst (λ fs. AddsUnits options procedures (all_units fs) [] found.items (Some r)) (take_all k files h) so_far in
      subst (AreUnitsOf options procedures files) (sym (refused r refl)) (λ names. (whole.added (all_units files) 0 names).rows)

-- ## One unit

module _ (options : Options) (procedures : List Bytes) (u : GivenUnit) (before after : List PlainUnit) (o : Option PlainUnit) (made : IsUnitIf options procedures u o) where
  pub unit_put : (plain : PlainUnit) → o ≡ Some plain → after ≡ before ++ plain ∷ [] → AddsUnit options procedures u before after None
  unfolding AddsUnit
  unit_put plain some put = record { plain = plain; put = put; is = subst (IsUnitIf options procedures u) some made }

  pub unit_refused : (r : Refusal) → o ≡ None → r ≡ form_row u u.statements → AddsUnit options procedures u before after (Some r)
  unfolding AddsUnit
  unit_refused r none row = record { row = row; is = subst (IsUnitIf options procedures u) none made }
