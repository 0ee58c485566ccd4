-- The term that the data of a linked expression stand for (C89, 3.3).
use Rattle.std.specs.Prelude.{List, map}
use Rattle.c_tree.specs.Objects.{Place}
use Rattle.c_tree.specs.Terms as term
use Rattle.c_tree.specs.Terms.{Term}
use Rattle.run_bytes.specs.Accesses.{access_of}
use Rattle.linked_terms.specs.FieldNames.{name_in}
use Rattle.linked_terms.specs.declared.terms.LinkedPlace.{LinkedPlace}
use Rattle.linked_terms.specs.declared.terms.LinkedTerm.{LinkedTerm, Constant, Variable, Array, Routine, Prefixed', Cast', Between', Choice', Element', Field', Size, Most', Magnitude', end_of-LinkedTerm, more_of-LinkedTerm}

abbrev pub place_of : LinkedPlace → Place
place_of place = record { at = place.at; access = access_of place.access }

unfoldable pub term_of : LinkedTerm → Term
term_of (Constant number) = term.Constant number
term_of (Variable object access) = term.Variable object (access_of access)
term_of (Array object access) = term.Array object (access_of access)
term_of (Routine number) = term.Routine number
term_of (Prefixed' operator s (more_of-LinkedTerm operand r)) = term.Prefixed operator (term_of operand)
term_of (Cast' type s (more_of-LinkedTerm operand r)) = term.Cast type (term_of operand)
term_of (Between' operator s (more_of-LinkedTerm left r) t (more_of-LinkedTerm right q)) = term.Between operator (term_of left) (term_of right)
term_of (Choice' s (more_of-LinkedTerm test r) t (more_of-LinkedTerm first q) u (more_of-LinkedTerm second p)) =
    term.Choice (term_of test) (term_of first) (term_of second)
term_of (Element' s (more_of-LinkedTerm array r) t (more_of-LinkedTerm index q)) = term.Element (term_of array) (term_of index)
term_of (Field' s (more_of-LinkedTerm list r) name) = term.Field (term_of list) (name_in name)
term_of Size = term.Size
term_of (Most' which s (more_of-LinkedTerm left r) t (more_of-LinkedTerm right q)) = term.Most which (term_of left) (term_of right)
term_of (Magnitude' s (more_of-LinkedTerm operand r)) = term.Magnitude (term_of operand)

abbrev pub terms_of : List LinkedTerm → List Term
terms_of terms = map term_of terms

-- `unfolding linked_opened` opens what the data stand for
unfoldable pub linked_opened : Unit {0}
unfolding term_of Rattle.linked_terms.specs.declared.terms.LinkedTerm.TheBlock.hidden-the_row-LinkedTerm-0 denote.Hole.Carrier.hidden
linked_opened = tt
