-- The parts of a line make the line, and the functions that are listed the prototypes of a tree.
use Rattle.std.proofs.Common.{◌≡◌, ℕ, Bool, true, false, List, [], ◌∷◌, ◌++◌, append_assoc, refl, ap, ◌∙◌, map}
use Rattle.std.specs.Prelude.{filter, codes, if◌then◌else◌}
use Rattle.std.specs.List.{list_all}
use Rattle.c_tree.specs.declared.file.CFunction.{CFunction}
use Rattle.c_text.specs.Types.{result_word}
use Rattle.prototypes.specs.declared.prototype.Prototype.{Prototype}
use Rattle.prototypes.specs.PrototypeText.{prototype_line, prototype_text, is_prototype, Spells}
use Rattle.prototypes.specs.TreePrototypes.{is_called_outside, function_prototype, function_prototypes}
use Rattle.prototype_laws.proofs.FileLemmas.{one_list}
use Rattle.proto_file.specs.Lists.{SpellsAlone}
use Rattle.proto_file.specs.Parts.{line_front, line_rest, listed, all_listed}

line_parts : (p : Prototype) → line_front p.result ++ line_rest p ≡ prototype_line p
unfolding line_front line_rest prototype_line
line_parts p =
    append_assoc (codes "extern ") (result_word p.result ++ codes " ") (line_rest p)
    ∙ ap (λ t. codes "extern " ++ t) (append_assoc (result_word p.result) (codes " ") (line_rest p))

-- a line behind a text
pub line_appended : (text : List ℕ) (p : Prototype) → (text ++ line_front p.result) ++ line_rest p ≡ text ++ prototype_line p
line_appended text p = append_assoc text (line_front p.result) (line_rest p) ∙ ap (λ t. text ++ t) (line_parts p)

by_name : (f : CFunction) (fs : List CFunction) (t : Bool) → all_listed fs ≡ map function_prototype (filter (λ x. is_called_outside x.name) fs)
    → (if t then function_prototype f ∷ [] else []) ++ all_listed fs
    ≡ map function_prototype (if t then f ∷ filter (λ x. is_called_outside x.name) fs else filter (λ x. is_called_outside x.name) fs)
by_name f fs true h = ap (λ ps. function_prototype f ∷ ps) h
by_name f fs false h = h

listed_by : (fs : List CFunction) → all_listed fs ≡ map function_prototype (filter (λ x. is_called_outside x.name) fs)
unfolding listed
listed_by [] = refl
listed_by (f ∷ fs) = by_name f fs (is_called_outside f.name) (listed_by fs)

pub functions_listed : (fs : List CFunction) → all_listed fs ≡ function_prototypes fs
unfolding function_prototypes
functions_listed fs = listed_by fs

-- a text of prototypes that lines may say spells them and no others
pub spelled_alone : (bytes : List ℕ) (ps : List Prototype) → bytes ≡ prototype_text ps → list_all is_prototype ps ≡ true → SpellsAlone bytes ps
spelled_alone bytes ps h told =
    let spells : Spells bytes ps = record { text = h; each = told } in
    record { spells = spells; alone = λ other s. one_list bytes other ps s spells }
