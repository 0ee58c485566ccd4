-- What becomes of the units of files stands file by file: in each part the constants are those of its file, and its functions those of its units.
use Rattle.std.specs.Prelude.{◌≡◌, ℕ, suc, ◌+◌, ◌≤◌, List, [], ◌∷◌, ◌++◌, map, length, Some, slice_get}
use Rattle.std.proofs.Common.{refl, sym, ap, ◌∙◌, arith}
use Rattle.std.proofs.lemmas.List.{append_assoc, length-map}
use Rattle.plain_files.proofs.linking_laws.Places.{map_at}
use Rattle.plain_units.specs.unit_file.UnitFile.{WrittenUnit}
use Rattle.plain_units.specs.unit_sites.UnitSites.{UnitsOfFile, Site, all_units, inventories, all_inventories, contents_of, sites_in, sites_from, behind}
use Rattle.plain_units.proofs.unit_places.Sites.{sites_in_many, site_known}
use Rattle.plain_units.specs.unit_programs.TranslatedUnits.{Rendering, written_of, IsTranslatedSet}
use Rattle.unit_file_texts.specs.WellFormedUnits.{AreOfOneFile}

abbrev pub sited_of : List Rendering → List Site
sited_of rs = map (λ (r : Rendering). r.site) rs

-- ## A part behind another

record IsSplit (rs : List Rendering) (ws vs : List WrittenUnit) (ss ts : List Site) : Type 0 where
  part : List Rendering
  later : List Rendering
  whole : rs ≡ part ++ later
  written : written_of part ≡ ws
  later_written : written_of later ≡ vs
  sited : sited_of part ≡ ss
  later_sited : sited_of later ≡ ts

split_at : (rs : List Rendering) (ws vs : List WrittenUnit) (ss ts : List Site) → length ws ≡ length ss → written_of rs ≡ ws ++ vs → sited_of rs ≡ ss ++ ts → IsSplit rs ws vs ss ts
split_at rs [] vs [] ts many written sited = record { part = []; later = rs; whole = refl; written = refl; later_written = written; sited = refl; later_sited = sited }
split_at rs [] vs (s ∷ ss) ts many written sited = absurd (cc)
split_at rs (w ∷ ws) vs [] ts many written sited = absurd (cc)
split_at [] (w ∷ ws) vs (s ∷ ss) ts many written sited = absurd (cc)
split_at (r ∷ rs) (w ∷ ws) vs (s ∷ ss) ts many written sited =
    let fewer : length ws ≡ length ss = cc in
    let more = split_at rs ws vs ss ts fewer (cc) (cc) in
    let own : r.written ≡ w = cc in
    let here : r.site ≡ s = cc in
    record {
      part = r ∷ more.part;
      later = more.later;
      whole = ap (λ all. r ∷ all) more.whole;
      written = (λ i. own i ∷ more.written i);
      later_written = more.later_written;
      sited = (λ i. here i ∷ more.sited i);
      later_sited = more.later_sited;
    }

-- ## All files

-- a part for each file, behind those of the files before
pub data ArePartsOf (rs : List Rendering) : List Rendering → List UnitsOfFile → Type 0 where
  no_part : (before : List Rendering) → ArePartsOf rs before []
  one_part : (before : List Rendering) (f : UnitsOfFile) (fs : List UnitsOfFile) (part : List Rendering) → AreOfOneFile rs f part → ArePartsOf rs (before ++ part) fs → ArePartsOf rs before (f ∷ fs)

parts_from : (rs before later : List Rendering) (own first : ℕ) (fs : List UnitsOfFile) → rs ≡ before ++ later → written_of later ≡ all_units fs → sited_of later ≡ sites_from own first (map contents_of fs) →
    ((f : UnitsOfFile) (k : ℕ) → slice_get fs k ≡ Some f → 1 ≤ length f.units) → ArePartsOf rs before fs
parts_from rs before later own first [] whole written sited filled = no_part before
parts_from rs before later own first (f ∷ fs) whole written sited filled =
    let function = first + length f.constants in
    let here = sites_in own first f.constants function (inventories f.units) in
    let rest = sites_from own (behind function (inventories f.units)) (map contents_of fs) in
    let many : length f.units ≡ length here = sym (sites_in_many own first f.constants function (inventories f.units) ∙ length-map f.units (λ (w : WrittenUnit). w.inventory)) in
    let s = split_at later f.units (all_units fs) here rest many written sited in
    let parted : rs ≡ before ++ (s.part ++ s.later) = whole ∙ ap (λ all. before ++ all) s.whole in
    let as_many : length s.part ≡ length f.units = sym (length-map s.part (λ (r : Rendering). r.written)) ∙ ap length s.written in
    let some : 1 ≤ length f.units = filled f 0 refl in
    one_part before f fs s.part
    (record {
      before = before;
      behind = s.later;
      whole = parted;
      some = omega (arith, as_many, some);
      written = s.written;
      constants = λ i r at. ap (λ (s : Site). s.constants) (sym (site_known own first f.constants function (inventories f.units) i r.site (ap (λ sites. slice_get sites i) (sym s.sited) ∙ map_at (λ (q : Rendering). q.site) s.part i r at)));
    })
    (parts_from rs (before ++ s.part) s.later own (behind function (inventories f.units)) fs (parted ∙ sym (append_assoc before s.part s.later)) s.later_written s.later_sited (λ g k at. filled g (suc k) at))

pub parts_are : (fs : List UnitsOfFile) (rs : List Rendering) → IsTranslatedSet fs rs → ((f : UnitsOfFile) (k : ℕ) → slice_get fs k ≡ Some f → 1 ≤ length f.units) → ArePartsOf rs [] fs
parts_are fs rs is filled = parts_from rs [] rs (length (all_inventories (map contents_of fs))) 0 fs refl is.written is.sited filled
