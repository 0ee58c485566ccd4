-- What the judge has of the names before one tells whether it stands for two things; and main programs in files one after the other.
use Rattle.std.proofs.Common.{◌≡◌, Bool, true, false, not, ◌&&◌, ◌||◌, List, [], ◌∷◌, ◌++◌, map, append_assoc, bytes_eq, Option, Some, None, if◌then◌else◌, refl, sym, ap, ◌∙◌}
use Rattle.std.specs.List.{list_any}
use Rattle.std.proofs.lemmas.Slice.Eq.{bytes_eq-Decides}
use Rattle.f_tree.specs.Values.{Bytes}
use Rattle.f_tree.specs.declared.refusals.Kind.TheVariants.{GlobalNameTwice, TwoMainPrograms}
use Rattle.f_tree.specs.declared.refusals.Refusal.{Refusal}
use Rattle.f_tree.specs.declared.units.Unit.{Unit as WrittenUnit}
use Rattle.f_tree.specs.declared.units.File.{File}
use Rattle.declaration_rows.specs.Judgement.{unless}
use Rattle.declaration_rows.specs.GlobalRows.{Global, clashes, refused_at, global_rows, is_main_program, main_rows, all_units}
use Rattle.name_table.specs.declared.NameTable.{NameTable}
use Rattle.name_table.specs.Named.{value_of}
use Rattle.name_table.proofs.Texts.{bytes_eq_flip}
use Rattle.set_judge.specs.declared.globals.GlobalName.{GlobalName}
use Rattle.set_judge.specs.GlobalSteps.{global_of, globals_in, still_block, standing_of, clashes_with, AreSeen, main_found}

two_blocks : (b c : Bool) (o : Option Bool) → clashes_with (Some (c && still_block o)) b ≡ (not (b && c) || clashes_with o b)
unfolding clashes_with still_block
two_blocks true true None = refl
two_blocks true true (Some true) = refl
two_blocks true true (Some false) = refl
two_blocks true false o = refl
two_blocks false c o = refl

clash_by : (e b c : Bool) (o : Option Bool) → clashes_with (if e then Some (c && still_block o) else o) b ≡ ((e && not (b && c)) || clashes_with o b)
clash_by true b c o = two_blocks b c o
clash_by false b c o = refl

pub clash_is : (g : Global) (before : List Global) → clashes_with (standing_of before g.name) g.is_block ≡ list_any (clashes g) before
unfolding standing_of clashes clashes_with
clash_is g [] = refl
clash_is g (h ∷ before) =
    clash_by (bytes_eq h.name g.name) g.is_block h.is_block (standing_of before g.name)
    ∙ ap (λ e. (e && not (g.is_block && h.is_block)) || clashes_with (standing_of before g.name) g.is_block) (bytes_eq_flip h.name g.name)
    ∙ ap (λ more. (bytes_eq g.name h.name && not (g.is_block && h.is_block)) || more) (clash_is g before)

-- what stands past the end of a list of names
abbrev pub no_name : GlobalName
no_name = record { name = record { ref_ptr = (0, 0); now = [] }; is_block = false; file = 0; card = 0 }

abbrev pub rows_of_names : List Global → List GlobalName → List Refusal
rows_of_names before names = global_rows before (globals_in names)

abbrev pub rows_of_name : List Global → GlobalName → List Refusal
rows_of_name before g = map (refused_at g.file g.card) (unless (not (list_any (clashes (global_of g)) before)) GlobalNameTwice)

abbrev pub behind_name : List Global → GlobalName → List Global
behind_name before g = global_of g ∷ before

pub names_step : (before : List Global) (g : GlobalName) (gs : List GlobalName) → rows_of_names before (g ∷ gs) ≡ rows_of_name before g ++ rows_of_names (behind_name before g) gs
unfolding global_rows global_of
names_step before g gs = refl

pub names_none : (before : List Global) → rows_of_names before [] ≡ []
unfolding global_rows
names_none before = refl

pub name_clashes : (seen : NameTable Bool) (before : List Global) (g : GlobalName) (o : Option Bool) (b : Bool) → AreSeen seen before → o ≡ value_of seen g.name.now → b ≡ clashes_with o g.is_block → b ≡ list_any (clashes (global_of g)) before
unfolding global_of
name_clashes seen before g o b known is now =
    now ∙ ap (λ p. clashes_with p g.is_block) (is ∙ known.standing g.name.now) ∙ clash_is (global_of g) before

-- a name that has been seen counts at its own bytes alone
put_by : (e : Bool) (g x : Bytes) (is_block b : Bool) (before : List Global) (o : Option Bool) → bytes_eq g x ≡ e → b ≡ (is_block && still_block (standing_of before g)) → o ≡ standing_of before x
    → (if e then Some b else o) ≡ (if e then Some (is_block && still_block (standing_of before x)) else standing_of before x)
put_by true g x is_block b before o same now is =
    ap Some (now ∙ ap (λ y. is_block && still_block (standing_of before y)) ((bytes_eq-Decides g x).0 same))
put_by false g x is_block b before o same now is = is

pub name_behind : (seen after : NameTable Bool) (before : List Global) (g : GlobalName) (o : Option Bool) (b : Bool) → AreSeen seen before → o ≡ value_of seen g.name.now → b ≡ (g.is_block && still_block o)
    → ((q : Bytes) → value_of after q ≡ (if bytes_eq g.name.now q then Some b else value_of seen q)) → AreSeen after (behind_name before g)
unfolding standing_of global_of
name_behind seen after before g o b known is now put = record {
  standing = λ x.
      put x
      ∙ put_by (bytes_eq g.name.now x) g.name.now x g.is_block b before (value_of seen x) refl (now ∙ ap (λ p. g.is_block && still_block p) (is ∙ known.standing g.name.now)) (known.standing x);
}

-- main programs
abbrev pub rows_of_unit : Bool → WrittenUnit → List Refusal
rows_of_unit found u = map (refused_at u.file u.card) (unless (not (found && is_main_program u)) TwoMainPrograms)

abbrev pub found_behind : Bool → WrittenUnit → Bool
found_behind found u = found || is_main_program u

pub mains_step : (found : Bool) (u : WrittenUnit) (us : List WrittenUnit) → main_rows found (u ∷ us) ≡ rows_of_unit found u ++ main_rows (found_behind found u) us
unfolding main_rows
mains_step found u us = refl

pub mains_none : (found : Bool) → main_rows found [] ≡ []
unfolding main_rows
mains_none found = refl

pub found_step : (found : Bool) (u : WrittenUnit) (us : List WrittenUnit) → main_found found (u ∷ us) ≡ main_found (found_behind found u) us
unfolding main_found
found_step found u us = refl

pub found_none : (found : Bool) → main_found found [] ≡ found
unfolding main_found
found_none found = refl

mains_append : (found : Bool) (us more : List WrittenUnit) → main_rows found (us ++ more) ≡ main_rows found us ++ main_rows (main_found found us) more
unfolding main_rows main_found
mains_append found [] more = refl
mains_append found (u ∷ us) more =
    ap (λ rows. rows_of_unit found u ++ rows) (mains_append (found_behind found u) us more)
    ∙ sym (append_assoc (rows_of_unit found u) (main_rows (found_behind found u) us) (main_rows (main_found (found_behind found u) us) more))

abbrev pub rows_of_files : Bool → List File → List Refusal
rows_of_files found fs = main_rows found (all_units fs)

pub files_mains_step : (found : Bool) (f : File) (fs : List File) → rows_of_files found (f ∷ fs) ≡ main_rows found f.units ++ rows_of_files (main_found found f.units) fs
unfolding all_units
files_mains_step found f fs = mains_append found f.units (all_units fs)

pub files_mains_none : (found : Bool) → rows_of_files found [] ≡ []
unfolding all_units main_rows
files_mains_none found = refl
