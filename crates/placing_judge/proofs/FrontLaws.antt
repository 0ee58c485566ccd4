-- What is said of numbers is said of the names whose numbers they are.
use Rattle.std.proofs.Common.{◌≡◌, ℕ, ◌+◌, ◌<◌, List, [], ◌∷◌, ◌++◌, map, length, take, get_or, pos, Result, Ok, Err, IfOk, refl, sym, ap, subst, ◌∙◌}
use Rattle.std.specs.Borrow.{Bor}
use Rattle.std.proofs.lemmas.List.{map-append}
use Rattle.f_tree.specs.Values.{Bytes}
use Rattle.f_tree.specs.declared.units.Unit.{Unit as WrittenUnit}
use Rattle.f_tree.specs.Folds.{layer_of}
use Rattle.f_tree.specs.Lines.{common_in, equivalence_in}
use Rattle.f_tree.specs.Runs.{no_options}
use Rattle.f_tree.specs.declared.statements.Body.{Body, Common, Equivalence, IfOne', more_of-Body}
use Rattle.f_tree.specs.declared.statements.Body.TheVariants as body
use Rattle.f_tree.specs.declared.statements.CommonGroup.{CommonGroup}
use Rattle.f_tree.specs.declared.statements.EquivalenceGroup.{EquivalenceGroup}
use Rattle.declaration_rows.specs.NameRows.{given_names}
use Rattle.declaration_rows.specs.PlacingRows as placing
use Rattle.declaration_rows.specs.PlacingRows.{Placing, first_items}
use Rattle.name_table.specs.Named.{texts}
use Rattle.offset_classes.specs.declared.nodes.Equation.{Equation}
use Rattle.offset_classes.specs.Standing.{links_of, AreBelow}
use Rattle.placing_orders.specs.Numbered.{AreNumbered, AreSome}
use Rattle.placed_numbers.specs.Owned.{AreWithin, SayOf}
use Rattle.placed_numbers.specs.declared.judging.Standing.{Standing}
use Rattle.placed_numbers.proofs.Lists.{taken}
use Rattle.unit_equations.specs.declared.equations.NamedEquation.{NamedEquation}
use Rattle.unit_equations.specs.declared.numbers.Numbers.{Numbers}
use Rattle.unit_equations.specs.BlocksTold.{equation_in}
use Rattle.unit_equations.specs.NumbersTold.{count_of, name_at, IsNumberOf, AreNumbers, Keeps}
use Rattle.placing_judge.specs.declared.ties.StatementTies.{StatementTies}
use Rattle.placing_judge.specs.Numbering.{IsSaid, AreSaid, AreNamed}
use Rattle.placing_judge.specs.Walked.{facts_of, ties_in, AreUnitTies, SaysNothing, TellsOf}
use Rattle.placing_judge.proofs.NumberingLaws.{said_none, said_more, said_kept, named_none, named_more, named_kept, numbered, some_named}
use Rattle.placing_judge.proofs.TieLaws.{tied_length}

-- ELEMENTS that a loop reads
abbrev pub no_name : Bor (List ℕ)
no_name = record { ref_ptr = (0, 0); now = [] }

abbrev pub no_equation : NamedEquation
no_equation = record { one = no_name; other = no_name; by = pos 0 }

no_front : {A B : Type 0} (f : A → B) (xs : List A) → map f (take 0 xs) ≡ []
no_front f [] = refl
no_front f (x ∷ xs) = refl

one_more : {A B : Type 0} (f : A → B) (xs : List A) (i : ℕ) (x d : A) → i < length xs → x ≡ get_or xs i d → map f (take (i + 1) xs) ≡ map f (take i xs) ++ f x ∷ []
one_more f xs i x d h is = ap (map f) (taken xs i x d h is) ∙ map-append f (take i xs) (x ∷ [])

pub said_start : (t : Numbers) (es : List Equation) (xs : List NamedEquation) → es ≡ [] → AreSaid t es (map equation_in (take 0 xs))
said_start t es xs none =
    subst (λ ys. AreSaid t es ys) (sym (no_front equation_in xs)) (subst (λ fs. AreSaid t fs []) (sym none) (said_none t))

pub said_next : (a b : Numbers) (es now : List Equation) (e : Equation) (xs : List NamedEquation) (i : ℕ) (x : NamedEquation) → Keeps a b → i < length xs
    → x ≡ get_or xs i no_equation → AreSaid a es (map equation_in (take i xs)) → IsSaid b e (equation_in x) → now ≡ es ++ e ∷ []
    → AreSaid b now (map equation_in (take (i + 1) xs))
said_next a b es now e xs i x keeps h is so_far said put =
    subst (λ ys. AreSaid b now ys) (sym (one_more equation_in xs i x no_equation h is))
    (subst (λ fs. AreSaid b fs (map equation_in (take i xs) ++ equation_in x ∷ [])) (sym put)
    (said_more b es (map equation_in (take i xs)) e (equation_in x) (said_kept a b keeps es (map equation_in (take i xs)) so_far) said))

pub named_start : (t : Numbers) (fs : List ℕ) (xs : List (Bor (List ℕ))) → fs ≡ [] → AreNamed t fs (texts (take 0 xs))
named_start t fs xs none =
    subst (λ ys. AreNamed t fs ys) (sym (no_front (λ (r : Bor (List ℕ)). r.now) xs)) (subst (λ gs. AreNamed t gs []) (sym none) (named_none t))

pub named_next : (a b : Numbers) (fs now : List ℕ) (f : ℕ) (xs : List (Bor (List ℕ))) (i : ℕ) (x : Bor (List ℕ)) → Keeps a b → i < length xs
    → x ≡ get_or xs i no_name → AreNamed a fs (texts (take i xs)) → IsNumberOf b x.now f → now ≡ fs ++ f ∷ [] → AreNamed b now (texts (take (i + 1) xs))
named_next a b fs now f xs i x keeps h is so_far is_number put =
    subst (λ ys. AreNamed b now ys) (sym (one_more (λ (r : Bor (List ℕ)). r.now) xs i x no_name h is))
    (subst (λ gs. AreNamed b gs (texts (take i xs) ++ x.now ∷ [])) (sym put)
    (named_more b fs (texts (take i xs)) f x.now (named_kept a b keeps fs (texts (take i xs)) so_far) is_number))

-- NUMBERS AND NAMES
module _ (t : Numbers) (are : AreNumbers t) (n : ℕ) (count : n ≡ count_of t) (es qs : List Equation) (xs : List placing.Equation) (same : qs ≡ es) (said : AreSaid t es xs)
    (fs gs : List ℕ) (ys : List Bytes) (alike : gs ≡ fs) (firsts : AreNamed t fs ys) where
  pub below : AreBelow n (links_of qs)
  below = subst (λ m. AreBelow m (links_of qs)) (sym count) (subst (λ zs. AreBelow (count_of t) (links_of zs)) (sym same) said.below)

  pub within : AreWithin n gs
  within = subst (λ m. AreWithin m gs) (sym count) (subst (λ zs. AreWithin (count_of t) zs) (sym alike) firsts.within)

  numbered_so : (p : Placing) → p.equations ≡ xs → AreNumbered n (name_at t) (links_of qs) p.equations
  numbered_so p is =
      subst (λ m. AreNumbered m (name_at t) (links_of qs) p.equations) (sym count)
      (subst (λ zs. AreNumbered (count_of t) (name_at t) (links_of zs) p.equations) (sym same)
      (subst (λ zs. AreNumbered (count_of t) (name_at t) (links_of es) zs) (sym is) (numbered t es xs are said)))

  some_so : (p : Placing) → first_items p.blocks ≡ ys → AreSome n (name_at t) gs (first_items p.blocks)
  some_so p is =
      subst (λ m. AreSome m (name_at t) gs (first_items p.blocks)) (sym count)
      (subst (λ zs. AreSome (count_of t) (name_at t) zs (first_items p.blocks)) (sym alike)
      (subst (λ zs. AreSome (count_of t) (name_at t) fs zs) (sym is) (some_named t fs ys firsts)))

  pub tells : {E : Type 0} (r : Result Standing E) → IfOk r (SayOf n (links_of qs) gs) → IfOk r (TellsOf xs ys)
  tells (Ok s) say = record { tells = λ p one other. say.tests (name_at t) p (record { numbered = numbered_so p one; firsts = some_so p other }) }
  tells (Err e) say = tt

-- each statement has its ties
pub ties_length : (u : WrittenUnit) (ts : List StatementTies) → AreUnitTies u ts → length ts ≡ length u.statements
ties_length u ts ties = tied_length (facts_of no_options u) (given_names u) u.statements ts (ties.tied no_options)

-- TIES one after another
pub ties_step : (t : StatementTies) (ts : List StatementTies) → ties_in (t ∷ ts) ≡ map equation_in t.equations.items ++ ties_in ts
unfolding ties_in
ties_step t ts = refl

pub ties_none : ties_in [] ≡ []
unfolding ties_in
ties_none = refl

pub ties_put : (before now more said : List NamedEquation) → now ≡ before ++ more → more ≡ said → map equation_in now ≡ map equation_in before ++ map equation_in said
ties_put before now more said put is = ap (map equation_in) put ∙ map-append equation_in before more ∙ ap (λ zs. map equation_in before ++ map equation_in zs) is

-- A BODY that is neither COMMON nor EQUIVALENCE says nothing of storage
pub says_nothing : (b : Body) → ((gs : List CommonGroup) → b ≡ body.Common gs → ⊥) → ((gs : List EquivalenceGroup) → b ≡ body.Equivalence gs → ⊥) → SaysNothing b
unfolding common_in equivalence_in layer_of
says_nothing (Common gs) one other = absurd (one gs refl)
says_nothing (Equivalence gs) one other = absurd (other gs refl)
says_nothing (IfOne' e s (more_of-Body b r)) one other = record { no_common = refl; no_equivalence = refl }
says_nothing _ one other = record { no_common = refl; no_equivalence = refl }
