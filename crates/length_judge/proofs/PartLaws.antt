-- What the parts of an expression say together is what each adds to those before it.
use Rattle.std.specs.Prelude.{◌≡◌, Bool, true, false, ◌&&◌, ◌||◌, List, [], ◌∷◌, ◌++◌, map}
use Rattle.std.proofs.Common.{refl, sym, ap, ◌∙◌}
use Rattle.declaration_rows.specs.LengthRows as rows
use Rattle.declaration_rows.specs.LengthRows.{any_of, is_misused, star_before_reference}
use Rattle.length_judge.specs.declared.lengths.Lengths.{Lengths}
use Rattle.length_judge.specs.declared.lengths.Parts.{Parts}
use Rattle.length_judge.specs.LengthsSeen.{seen, no_parts, with_part, onward, together}

or_along : (a b c : Bool) → ((a || b) || c) ≡ (a || (b || c))
or_along true b c = refl
or_along false b c = refl

-- with parts behind them
unfoldable behind : Parts → Parts → Parts
behind p q = record {
  star = p.star || q.star;
  parenthesised = p.parenthesised || q.parenthesised;
  has_star = p.has_star || q.has_star;
  refers = p.refers || q.refers;
  misused = p.misused || q.misused;
  too_long = p.too_long || q.too_long;
  star_before_reference = p.star_before_reference || ((p.star && q.refers) || q.star_before_reference);
}

-- parts behind a first one
unfoldable after_first : Lengths → Parts → Parts
after_first l q = record {
  star = l.star || q.star;
  parenthesised = l.parenthesised || q.parenthesised;
  has_star = l.has_star || q.has_star;
  refers = l.refers || q.refers;
  misused = (l.misused || l.joined) || q.misused;
  too_long = l.too_long || q.too_long;
  star_before_reference = (l.star && q.refers) || q.star_before_reference;
}

-- a reference in the first or in a later part
either : (before star refers star' refers' more : Bool) →
    ((before || (star && refers)) || (((star || star') && refers') || more)) ≡ (before || ((star && (refers || refers')) || ((star' && refers') || more)))
either true star refers star' refers' more = refl
either false true true star' refers' more = refl
either false true false true true more = refl
either false true false true false more = refl
either false true false false true more = refl
either false true false false false more = refl
either false false refers star' refers' more = refl

step : (p : Parts) (l : Lengths) (q : Parts) → behind (with_part p l) q ≡ behind p (after_first l q)
unfolding behind with_part after_first
step p l q = λ i. record {
  star = or_along p.star l.star q.star i;
  parenthesised = or_along p.parenthesised l.parenthesised q.parenthesised i;
  has_star = or_along p.has_star l.has_star q.has_star i;
  refers = or_along p.refers l.refers q.refers i;
  misused = or_along p.misused (l.misused || l.joined) q.misused i;
  too_long = or_along p.too_long l.too_long q.too_long i;
  star_before_reference = either p.star_before_reference p.star l.refers l.star q.refers q.star_before_reference i;
}

or_none : (b : Bool) → (b || false) ≡ b
or_none true = refl
or_none false = refl

and_none : (b : Bool) → (b && false) ≡ false
and_none true = refl
and_none false = refl

none_behind : (p : Parts) → behind p (together []) ≡ p
unfolding behind together any_of star_before_reference
none_behind p = λ i. record {
  star = or_none p.star i;
  parenthesised = or_none p.parenthesised i;
  has_star = or_none p.has_star i;
  refers = or_none p.refers i;
  misused = or_none p.misused i;
  too_long = or_none p.too_long i;
  star_before_reference = (ap (λ b. p.star_before_reference || (b || false)) (and_none p.star) ∙ or_none p.star_before_reference) i;
}

first_together : (l : rows.Lengths) (ls : List rows.Lengths) → after_first (seen l) (together ls) ≡ together (l ∷ ls)
unfolding after_first seen together any_of is_misused star_before_reference
first_together l ls = refl

all_behind : (p : Parts) (ls : List rows.Lengths) → onward p (map seen ls) ≡ behind p (together ls)
unfolding onward
all_behind p [] = sym (none_behind p)
all_behind p (l ∷ ls) = all_behind (with_part p (seen l)) ls ∙ step p (seen l) (together ls) ∙ ap (behind p) (first_together l ls)

nothing_before : (q : Parts) → behind no_parts q ≡ q
unfolding behind no_parts
nothing_before q = refl

pub parts_together : (ls : List rows.Lengths) → together ls ≡ onward no_parts (map seen ls)
parts_together ls = sym (all_behind no_parts ls ∙ nothing_before (together ls))

-- one more behind them
pub onward_push : (p : Parts) (ls : List Lengths) (l : Lengths) → onward p (ls ++ l ∷ []) ≡ with_part (onward p ls) l
unfolding onward
onward_push p [] l = refl
onward_push p (k ∷ ls) l = onward_push (with_part p k) ls l

pub onward_both : (p : Parts) (ks ls : List Lengths) → onward p (ks ++ ls) ≡ onward (onward p ks) ls
unfolding onward
onward_both p [] ls = refl
onward_both p (k ∷ ks) ls = onward_both (with_part p k) ks ls
