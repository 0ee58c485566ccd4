-- Where the steps of labels begin among statements whose places are those of a program unit.
use Rattle.std.proofs.Common.{◌≡◌, ℕ, suc, ◌+◌, Bool, true, false, List, [], ◌∷◌, length, Option, Some, None, option_map, slice_get, if◌then◌else◌, refl, sym, ap, ◌∙◌, arith}
use Rattle.f_tree.specs.declared.statements.Stmt.{Stmt}
use Rattle.f_tree.specs.Attributes.{first_of_two, from_all}
use Rattle.f_tree.specs.Facts.{Line, ProgramUnit}
use Rattle.f_tree.specs.Lines.{Naming, loop_label_in, line_of}
use Rattle.f_tree.specs.Places.{has_label, label_from, place_of_label}
use Rattle.lowering.specs.Units.{start_of}
use Rattle.statement_places.specs.open_loops.ReadLines.{IsReadAs}
use Rattle.statement_places.specs.declared.places.StatementPlace.{StatementPlace}
use Rattle.statement_places.specs.StatementPlaces.{AreStatementPlaces}
use Rattle.unit_lowering.specs.LabelStarts.{start_at, label_start}
use Rattle.unit_lowering.proofs.RowLemmas.{joined_is, joined_from, joined_all}
use Rattle.unit_lowering.proofs.LabelStartLemmas.{first_none, start_at-there}
use Rattle.unit_lowering.proofs.PlacedLines.{as_many, line_placed}

none_first : (o : Option ℕ) → first_of_two None o ≡ o
unfolding first_of_two
none_first o = refl

first_along : (a b c : Option ℕ) → first_of_two (first_of_two a b) c ≡ first_of_two a (first_of_two b c)
unfolding first_of_two
first_along None b c = refl
first_along (Some n) b c = refl

found_first : (g : ℕ → ℕ) (b : Bool) (i : ℕ) (rest : Option ℕ) → option_map g (if b then Some i else rest) ≡ first_of_two (if b then Some (g i) else None) (option_map g rest)
unfolding first_of_two
found_first g true i rest = refl
found_first g false i rest = refl

module _ (p : ProgramUnit) (once : Bool) (names : Naming) (ss : List Stmt) (places : List StatementPlace) (told : IsReadAs p once names ss) (are : AreStatementPlaces p places) (label : ℕ) where
  -- where the steps of a line begin, if it has the label
  here : ℕ → Line → Option ℕ
  here i line = if has_label line.label label then Some (start_of p i) else None

  line_label : (s : Stmt) → (line_of names (from_all loop_label_in ss) s).label ≡ s.label
  unfolding line_of
  line_label s = refl

  start_is : (i : ℕ) (line : Line) → slice_get p.lines i ≡ Some line → start_at label ss places i ≡ here i line
  unfolding here
  start_is i line at =
      let found = line_placed p once names ss places told are i line at in
      sym (start_at-there label ss places i found.s found.place (sym found.there) (sym found.stands))
      ∙ ap (λ n. if has_label found.s.label label then Some n else None) found.placed.start
      ∙ ap (λ l. if has_label l label then Some (start_of p i) else None) (sym (ap (λ (x : Line). x.label) found.is ∙ line_label found.s))

  from_none : (i : ℕ) → option_map (start_of p) (label_from i [] label) ≡ None
  unfolding label_from
  from_none i = refl

  from_more : (i : ℕ) (line : Line) (lines : List Line) → option_map (start_of p) (label_from i (line ∷ lines) label) ≡ first_of_two (here i line) (option_map (start_of p) (label_from (suc i) lines label))
  unfolding label_from here
  from_more i line lines = found_first (start_of p) (has_label line.label label) i (label_from (suc i) lines label)

  pub label_is : label_start label ss places (length ss) ≡ option_map (start_of p) (place_of_label p label)
  unfolding label_start place_of_label
  label_is =
      joined_is first_of_two None none_first first_none first_along (start_at label ss places) (length ss)
      ∙ ap (joined_from first_of_two None (start_at label ss places) 0) (as_many p once names ss places told are)
      ∙ joined_all first_of_two None (start_at label ss places) (λ i lines. option_map (start_of p) (label_from i lines label)) here from_none from_more 0 p.lines
      (λ k line at. let e : 0 + k ≡ k = omega arith in ap (start_at label ss places) e ∙ start_is k line at ∙ ap (λ j. here j line) (sym e))
