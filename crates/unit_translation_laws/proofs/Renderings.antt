-- What becomes of each unit, as the law of their files asks for it.
use Rattle.std.specs.Prelude.{◌≡◌, ℕ, zero, suc, ◌+◌, ◌≤◌, ℤ, Bool, true, false, List, [], ◌∷◌, ◌++◌, map, length, Option, Some, None, option_and_then, slice_get, if◌then◌else◌}
use Rattle.std.proofs.Common.{refl, sym, ap, ◌∙◌, subst, arith}
use Rattle.std.proofs.lemmas.List.{length-map, map-append}
use Rattle.unit_translation.specs.l_core.Steps.{Step}
use Rattle.unit_translation.specs.c_tree.declared.statement.CStmt.{CStmt}
use Rattle.unit_translation.specs.c_tree.Flat.{Flat}
use Rattle.unit_translation.specs.c_structure.Statements.{statements_for}
use Rattle.unit_translation.specs.c_emit.Numbers.{Writing}
use Rattle.main_translation_laws.proofs.linking_laws.Places.{some_same}
use Rattle.unit_translation.specs.procedure_emission.ProcedureItems.{Numbers, procedure_item}
use Rattle.main_translation_laws.proofs.main_file_laws.BuiltItems.{before_by}
use Rattle.unit_translation.specs.main_translation.Flow.{stage_at}
use Rattle.unit_translation.specs.main_translation.Outlined.{returns_last, if_returned}
use Rattle.main_translation_laws.proofs.Built.{returned_by}
use Rattle.unit_translation.specs.unit_file.UnitFile.{Inventory, WrittenUnit, object_count}
use Rattle.unit_translation.specs.unit_file.UnitItems.{unit_items}
use Rattle.unit_translation.specs.unit_sites.UnitSites.{UnitsOfFile, all_units, inventories, contents_of, all_inventories, Site, sites_in, behind, sites_from, sites_of}
use Rattle.unit_translation.specs.UnitFlow.{kind_before, are_in_place}
use Rattle.unit_translation.specs.UnitContents.{LoweredUnit, program_units, whole_text, constants_passed, inventory_of}
use Rattle.unit_translation.specs.UnitBodies.{all_lowered, unit_outline, items_of, body_of, written_before, written_from, file_before, files_from, written_files}
use Rattle.unit_programs.specs.TranslatedUnits.{Rendering, units_of, written_of, sites_of_renderings}

-- ## What a body was made by

pub record HasBody (all : List LoweredUnit) (s : Site) (u : LoweredUnit) (body : List CStmt) : Type 0 where
  pub in_place : are_in_place (whole_text u) 0 (whole_text u).steps ≡ true
  pub items : List Flat
  pub emitted : items_of all s u ≡ Some items
  pub statements : statements_for (unit_outline all s u) (length items) 0 items ≡ Some body
  pub returned : returns_last body ≡ true

has_body : (all : List LoweredUnit) (s : Site) (u : LoweredUnit) (body : List CStmt) → body_of all s u ≡ Some body → HasBody all s u body
unfolding body_of
has_body all s u body h = by (are_in_place (whole_text u) 0 (whole_text u).steps) refl h
  where
    with_statements : (items : List Flat) (found : Option (List CStmt)) → are_in_place (whole_text u) 0 (whole_text u).steps ≡ true → items_of all s u ≡ Some items → statements_for (unit_outline all s u) (length items) 0 items ≡ found
        → option_and_then if_returned found ≡ Some body → HasBody all s u body
    with_statements items (Some ss) in_place is are g =
        let last = returned_by ss body g in
        record { in_place = in_place; items = items; emitted = is; statements = are ∙ ap Some last.1; returned = ap returns_last (sym last.1) ∙ last.0 }
    with_statements items None in_place is are g = absurd (cc)

    with_items : (found : Option (List Flat)) → are_in_place (whole_text u) 0 (whole_text u).steps ≡ true → items_of all s u ≡ found
        → option_and_then if_returned (option_and_then (λ items. statements_for (unit_outline all s u) (length items) 0 items) found) ≡ Some body → HasBody all s u body
    with_items (Some items) in_place is g = with_statements items (statements_for (unit_outline all s u) (length items) 0 items) in_place is refl g
    with_items None in_place is g = absurd (cc)

    by : (b : Bool) → are_in_place (whole_text u) 0 (whole_text u).steps ≡ b
        → (if b then option_and_then if_returned (option_and_then (λ items. statements_for (unit_outline all s u) (length items) 0 items) (items_of all s u)) else None) ≡ Some body → HasBody all s u body
    by true in_place g = with_items (items_of all s u) in_place refl g
    by false in_place g = absurd (cc)

-- ## A unit

abbrev pub rendering_of : List LoweredUnit → Site → LoweredUnit → List CStmt → List Flat → Rendering
rendering_of all s u body items = record {
  unit = u.unit;
  text = u.text;
  written = record { inventory = inventory_of all u; body = body };
  site = s;
  kind = kind_before (whole_text u);
  stage = stage_at (whole_text u);
  outline = unit_outline all s u;
  items = items;
}

-- the program has a function for each unit; the constants of a file are those that its units pass, and stand before its functions
pub record IsSiteOfUnit (all : List LoweredUnit) (s : Site) : Type 0 where
  pub own : s.bases.own ≡ length all
  pub file : List LoweredUnit
  pub constants : s.constants ≡ constants_passed file
  pub before : s.bases.file + length s.constants ≤ s.bases.function

-- what became of a unit of all
pub record IsRendered (all : List LoweredUnit) (u : LoweredUnit) (r : Rendering) : Type 0 where
  pub site : Site
  pub sited : IsSiteOfUnit all site
  pub body : List CStmt
  pub made : HasBody all site u body
  pub is : rendering_of all site u body made.items ≡ r

-- and of each of some units
pub data AreEachRendered (all : List LoweredUnit) : List LoweredUnit → List Rendering → Type 0 where
  none_rendered : AreEachRendered all [] []
  one_rendered : (u : LoweredUnit) (r : Rendering) (us : List LoweredUnit) (rs : List Rendering) → IsRendered all u r → AreEachRendered all us rs → AreEachRendered all (u ∷ us) (r ∷ rs)

rendered_both : (all : List LoweredUnit) (us : List LoweredUnit) (rs : List Rendering) (vs : List LoweredUnit) (qs : List Rendering) → AreEachRendered all us rs → AreEachRendered all vs qs → AreEachRendered all (us ++ vs) (rs ++ qs)
rendered_both all _ _ vs qs none_rendered other = other
rendered_both all _ _ vs qs (one_rendered u r us rs one later) other = one_rendered u r (us ++ vs) (rs ++ qs) one (rendered_both all us rs vs qs later other)

-- ## Their parts

pub units_are : (all us : List LoweredUnit) (rs : List Rendering) → AreEachRendered all us rs → units_of rs ≡ program_units us
units_are all _ _ none_rendered = refl
units_are all _ _ (one_rendered u r us rs one later) = (λ i. (sym one.is i).unit ∷ units_are all us rs later i)

pub inventories_are : (all us : List LoweredUnit) (rs : List Rendering) → AreEachRendered all us rs → inventories (written_of rs) ≡ map (inventory_of all) us
inventories_are all _ _ none_rendered = refl
inventories_are all _ _ (one_rendered u r us rs one later) = (λ i. (sym one.is i).written.inventory ∷ inventories_are all us rs later i)

pub as_many : (all us : List LoweredUnit) (rs : List Rendering) → AreEachRendered all us rs → length rs ≡ length us
as_many all _ _ none_rendered = refl
as_many all _ _ (one_rendered u r us rs one later) = ap suc (as_many all us rs later)

pub record IsRenderedAt (all us : List LoweredUnit) (j : ℕ) (r : Rendering) : Type 0 where
  pub unit : LoweredUnit
  pub at : slice_get us j ≡ Some unit
  pub one : IsRendered all unit r

pub rendered_at : (all us : List LoweredUnit) (rs : List Rendering) (j : ℕ) (r : Rendering) → AreEachRendered all us rs → slice_get rs j ≡ Some r → IsRenderedAt all us j r
rendered_at all _ _ j r none_rendered at = absurd (cc)
rendered_at all _ _ zero r (one_rendered u q us rs one later) at = record { unit = u; at = refl; one = subst (IsRendered all u) (some_same q r at) one }
rendered_at all _ _ (suc j) r (one_rendered u q us rs one later) at = let rest = rendered_at all us rs j r later at in record { unit = rest.unit; at = rest.at; one = rest.one }

-- ## The units of a file

pub record AreSplit (v : Inventory) (body : Option (List CStmt)) (later : Option (List WrittenUnit)) (ws : List WrittenUnit) : Type 0 where
  pub statements : List CStmt
  pub rest : List WrittenUnit
  pub body_is : body ≡ Some statements
  pub later_is : later ≡ Some rest
  pub is : record { inventory = v; body = statements } ∷ rest ≡ ws

pub split : (v : Inventory) (body : Option (List CStmt)) (later : Option (List WrittenUnit)) (ws : List WrittenUnit) → written_before v body later ≡ Some ws → AreSplit v body later ws
unfolding written_before
split v (Some body) (Some later) ws h = record { statements = body; rest = later; body_is = refl; later_is = refl; is = some_same (record { inventory = v; body = body } ∷ later) ws h }
split v (Some body) None ws h = absurd (cc)
split v None later ws h = absurd (cc)

record IsRenderedFile (all : List LoweredUnit) (file : ℕ) (constants : List ℤ) (function : ℕ) (us : List LoweredUnit) (ws : List WrittenUnit) : Type 0 where
  renderings : List Rendering
  each : AreEachRendered all us renderings
  written : written_of renderings ≡ ws
  sited : sites_of_renderings renderings ≡ sites_in (length all) file constants function (map (inventory_of all) us)

module _ (all : List LoweredUnit) (file : ℕ) (passing : List LoweredUnit) where
  abbrev constants : List ℤ
  constants = constants_passed passing

  file_rendered : (function : ℕ) (us : List LoweredUnit) (ws : List WrittenUnit) → file + length constants ≤ function → written_from all (length all) file constants function us ≡ Some ws → IsRenderedFile all file constants function us ws
  unfolding written_from
  file_rendered function [] ws before h = record { renderings = []; each = none_rendered; written = some_same [] ws h; sited = refl }
  file_rendered function (u ∷ later) ws before h =
      let site : Site = record { constants = constants; bases = record { own = length all; file = file; function = function } } in
      let next : ℕ = function + object_count (inventory_of all u) in
      let s = split (inventory_of all u) (body_of all site u) (written_from all (length all) file constants next later) ws h in
      let made = has_body all site u s.statements s.body_is in
      let first = rendering_of all site u s.statements made.items in
      let rest = file_rendered next later s.rest (omega (arith, before)) s.later_is in
      record {
        renderings = first ∷ rest.renderings;
        each = one_rendered u first later rest.renderings
            (record { site = site; sited = record { own = refl; file = passing; constants = refl; before = before }; body = s.statements; made = made; is = refl }) rest.each;
        written = ap (λ xs. first.written ∷ xs) rest.written ∙ s.is;
        sited = ap (λ xs. site ∷ xs) rest.sited;
      }

-- ## All files

pub record AreFilesSplit (constants : List ℤ) (units : Option (List WrittenUnit)) (later : Option (List UnitsOfFile)) (fs : List UnitsOfFile) : Type 0 where
  pub functions : List WrittenUnit
  pub rest : List UnitsOfFile
  pub units_are : units ≡ Some functions
  pub later_is : later ≡ Some rest
  pub is : record { constants = constants; units = functions } ∷ rest ≡ fs

pub split_files : (constants : List ℤ) (units : Option (List WrittenUnit)) (later : Option (List UnitsOfFile)) (fs : List UnitsOfFile) → file_before constants units later ≡ Some fs → AreFilesSplit constants units later fs
unfolding file_before
split_files constants (Some ws) (Some later) fs h = record { functions = ws; rest = later; units_are = refl; later_is = refl; is = some_same (record { constants = constants; units = ws } ∷ later) fs h }
split_files constants (Some ws) None fs h = absurd (cc)
split_files constants None later fs h = absurd (cc)

record AreRenderedFiles (all : List LoweredUnit) (first : ℕ) (lfs : List (List LoweredUnit)) (fs : List UnitsOfFile) : Type 0 where
  renderings : List Rendering
  each : AreEachRendered all (all_lowered lfs) renderings
  written : written_of renderings ≡ all_units fs
  sited : sites_of_renderings renderings ≡ sites_from (length all) first (map contents_of fs)

files_rendered : (all : List LoweredUnit) (first : ℕ) (lfs : List (List LoweredUnit)) (fs : List UnitsOfFile) → files_from all (length all) first lfs ≡ Some fs → AreRenderedFiles all first lfs fs
unfolding files_from
files_rendered all first [] fs h = record { renderings = []; each = none_rendered; written = ap all_units (some_same [] fs h); sited = ap (λ gs. sites_from (length all) first (map contents_of gs)) (some_same [] fs h) }
files_rendered all first (us ∷ lfs) fs h =
    let constants = constants_passed us in
    let function = first + length constants in
    let next = behind function (map (inventory_of all) us) in
    let s = split_files constants (written_from all (length all) first constants function us) (files_from all (length all) next lfs) fs h in
    let one = file_rendered all first us function us s.functions (omega arith) s.units_are in
    let rest = files_rendered all next lfs s.rest s.later_is in
    let same : map (inventory_of all) us ≡ inventories s.functions = sym (inventories_are all us one.renderings one.each) ∙ ap inventories one.written in
    record {
      renderings = one.renderings ++ rest.renderings;
      each = rendered_both all us one.renderings (all_lowered lfs) rest.renderings one.each rest.each;
      written = map-append (λ (r : Rendering). r.written) one.renderings rest.renderings ∙ (λ i. one.written i ++ rest.written i) ∙ ap all_units s.is;
      sited = map-append (λ (r : Rendering). r.site) one.renderings rest.renderings ∙ (λ i. one.sited i ++ rest.sited i)
          ∙ ap (λ vs. sites_in (length all) first constants function vs ++ sites_from (length all) (behind function vs) (map contents_of s.rest)) same
          ∙ ap (λ gs. sites_from (length all) first (map contents_of gs)) s.is;
    }

-- the functions of all units stand in as many places
counted : (fs : List UnitsOfFile) → all_inventories (map contents_of fs) ≡ inventories (all_units fs)
counted [] = refl
counted (f ∷ fs) = ap (λ vs. inventories f.units ++ vs) (counted fs) ∙ sym (map-append (λ (w : WrittenUnit). w.inventory) f.units (all_units fs))

pub record AreAllRendered (lfs : List (List LoweredUnit)) (fs : List UnitsOfFile) : Type 0 where
  pub renderings : List Rendering
  pub each : AreEachRendered (all_lowered lfs) (all_lowered lfs) renderings
  pub written : written_of renderings ≡ all_units fs
  pub sited : sites_of_renderings renderings ≡ sites_of fs

pub all_rendered : (lfs : List (List LoweredUnit)) (fs : List UnitsOfFile) → written_files lfs ≡ Some fs → AreAllRendered lfs fs
unfolding written_files
all_rendered lfs fs h =
    let all = all_lowered lfs in
    let made = files_rendered all 0 lfs fs h in
    let same : length all ≡ length (all_inventories (map contents_of fs)) =
    sym (length-map all (inventory_of all)) ∙ ap length (sym (inventories_are all all made.renderings made.each)) ∙ ap (λ ws. length (inventories ws)) made.written ∙ ap length (sym (counted fs)) in
    record { renderings = made.renderings; each = made.each; written = made.written; sited = made.sited ∙ ap (λ own. sites_from own 0 (map contents_of fs)) same }

-- ## Items, one for each step

pub items_count : (numbers : Numbers) (w : Writing) (label : ℕ → Option ℕ) (n : ℕ) (steps : List Step) (items : List Flat) → unit_items numbers w label n steps ≡ Some items → length items ≡ length steps
unfolding unit_items
items_count numbers w label n [] items h = ap length (sym (some_same [] items h))
items_count numbers w label n (st ∷ later) items h =
    let s = before_by (procedure_item numbers w (λ m. m) label n st) (unit_items numbers w label (suc n) later) items h in
    ap length (sym s.is) ∙ ap suc (items_count numbers w label (suc n) later s.later s.later_is)
