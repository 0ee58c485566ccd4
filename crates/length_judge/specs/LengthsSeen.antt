-- What an expression says of lengths, without its tree. ANSI X3.9-1978, sections 5.7, 6.2, 6.3 and 15.9.3.
use Rattle.std.specs.Prelude.{ℕ, ◌+◌, nat_lt, pos, true, false, ◌&&◌, ◌||◌, List, [], ◌∷◌, Option, Some, None, option_map, if◌then◌else◌}
use Rattle.f_tree.specs.declared.names.Class.TheVariants as class
use Rattle.f_tree.specs.declared.expressions.BinaryOp.{BinaryOp}
use Rattle.f_tree.specs.declared.expressions.Expr.{Expr}
use Rattle.declaration_rows.specs.LengthRows as rows
use Rattle.declaration_rows.specs.LengthRows.{any_of, is_misused, star_before_reference, is_relation, is_joining, lengths_of}
use Rattle.declaration_rows.specs.SharedStorageRows.{most_storage}
use Rattle.length_judge.specs.declared.lengths.Lengths.{Lengths}
use Rattle.length_judge.specs.declared.lengths.Parts.{Parts}
use Rattle.length_judge.specs.declared.names.NameLength.{NameLength}
use Rattle.length_judge.specs.declared.names.Names.{Names}
use Rattle.length_judge.specs.KnownNames.{naming_in, constants_in}

unfoldable pub seen : rows.Lengths → Lengths
seen l = record {
  star = l.star;
  parenthesised = l.parenthesised;
  joined = l.joined;
  has_star = l.has_star;
  refers = l.refers;
  misused = l.misused;
  too_long = l.too_long;
  longest = l.longest;
}

unfoldable pub lengths_in : Names → Expr → Lengths
lengths_in names e = seen (lengths_of (naming_in names) (constants_in names) e)

-- what is no text, or of no length
unfoldable pub no_lengths : Lengths
no_lengths = record { star = false; parenthesised = false; joined = false; has_star = false; refers = false; misused = false; too_long = false; longest = 0 }

unfoldable pub text_lengths : ℕ → Lengths
text_lengths n = record no_lengths { longest = n }

-- PARTS of an expression, one behind the other
unfoldable pub no_parts : Parts
no_parts = record { star = false; parenthesised = false; has_star = false; refers = false; misused = false; too_long = false; star_before_reference = false }

unfoldable pub with_part : Parts → Lengths → Parts
with_part p l = record {
  star = p.star || l.star;
  parenthesised = p.parenthesised || l.parenthesised;
  has_star = p.has_star || l.has_star;
  refers = p.refers || l.refers;
  misused = p.misused || (l.misused || l.joined);
  too_long = p.too_long || l.too_long;
  star_before_reference = p.star_before_reference || (p.star && l.refers);
}

unfoldable pub with_option : Parts → Option Lengths → Parts
with_option p None = p
with_option p (Some l) = with_part p l

unfoldable pub onward : Parts → List Lengths → Parts
onward p [] = p
onward p (l ∷ ls) = onward (with_part p l) ls

-- what some parts say together
unfoldable pub together : List rows.Lengths → Parts
together ls = record {
  star = any_of (λ l. l.star) ls;
  parenthesised = any_of (λ l. l.parenthesised) ls;
  has_star = any_of (λ l. l.has_star) ls;
  refers = any_of (λ l. l.refers) ls;
  misused = any_of is_misused ls;
  too_long = any_of (λ l. l.too_long) ls;
  star_before_reference = star_before_reference ls;
}

unfoldable pub over : Parts → Lengths
over p = record no_lengths { has_star = p.has_star; refers = p.refers; misused = p.misused; too_long = p.too_long }

-- NAMES
unfoldable pub named : NameLength → Lengths → Lengths
named n l = record l { star = n.is_star; has_star = l.has_star || n.is_star; longest = n.characters }

unfoldable pub name_lengths : NameLength → Lengths
name_lengths n = elim n.class [ class.Constant ↦ text_lengths n.characters | _ ↦ named n no_lengths ]

-- an external function: none of its arguments is an operand of length (*) in parentheses
unfoldable pub referred : NameLength → Parts → Lengths
referred n p = record (named n (over p)) { refers = true; misused = p.misused || p.parenthesised }

-- an intrinsic function: none of its operands of length (*) stands before a reference
unfoldable pub intrinsic_lengths : Parts → Lengths
intrinsic_lengths p = record (over p) { misused = p.misused || p.star_before_reference; longest = 1 }

unfoldable pub defined_lengths : NameLength → Parts → Lengths
defined_lengths n p = record (named n (over p)) { refers = true }

unfoldable pub applied_lengths : NameLength → Parts → Lengths
applied_lengths n p = elim n.class [
  | class.Intrinsic ↦ intrinsic_lengths p
  | class.Procedure ↦ referred n p
  | class.DummyProcedure ↦ referred n p
  | class.Result ↦ referred n p
  | class.StatementFunction ↦ defined_lengths n p
  | _ ↦ named n (over p)
]

-- OPERATORS AND SUBSTRINGS
unfoldable pub part_lengths : Option ℕ → Lengths → Parts → Lengths
part_lengths None base p = record (over p) { star = base.star; has_star = p.has_star || base.star; longest = base.longest }
part_lengths (Some n) base p = record (over p) { longest = n }

unfoldable pub joined_lengths : Lengths → Lengths → Parts → Lengths
joined_lengths a b p = record (over p) {
  joined = a.star || (b.star || (a.joined || b.joined));
  misused = a.misused || b.misused;
  too_long = p.too_long || nat_lt most_storage (a.longest + b.longest);
  longest = a.longest + b.longest;
}

unfoldable pub both_parts : Lengths → Lengths → Parts
both_parts a b = with_part (with_part no_parts a) b

unfoldable pub other_operation : BinaryOp → Parts → Lengths
other_operation o p = record (over p) { misused = p.misused || (is_relation o && p.star_before_reference) }

unfoldable pub binary_lengths : BinaryOp → Lengths → Lengths → Lengths
binary_lengths o a b = if is_joining o then joined_lengths a b (both_parts a b) else other_operation o (both_parts a b)

unfoldable pub paren_lengths : Lengths → Lengths
paren_lengths a = record (over (with_part no_parts a)) {
  parenthesised = a.star || a.parenthesised;
  star = a.star;
  joined = a.joined;
  misused = a.misused;
  longest = a.longest;
}

-- a substring by its base, its first place and its last place
unfoldable pub substring : Names → Expr → Option Expr → Option Expr → Lengths
substring names base from to =
    part_lengths
    (rows.span (rows.place_value (constants_in names) from (Some (pos 1)))
    (rows.place_value (constants_in names) to (rows.last_by (lengths_in names base).star (lengths_in names base).longest)))
    (lengths_in names base)
    (with_option (with_option (with_part no_parts (lengths_in names base)) (option_map (lengths_in names) from)) (option_map (lengths_in names) to))
