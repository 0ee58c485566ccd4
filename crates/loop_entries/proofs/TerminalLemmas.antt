-- The places where loops end are those of the meaning.
use Rattle.std.proofs.Common.{◌≡◌, ℕ, suc, ◌<◌, List, [], ◌∷◌, get_or, length, Option, Some, None, Result, Ok, Err, IfOk, refl, sym, ap, ◌∙◌, arith}
use Rattle.std.specs.Global.{Vec}
use Rattle.f_tree.specs.declared.names.Options.{Options}
use Rattle.f_tree.specs.declared.statements.Body.{Body, IfOne', more_of-Body}
use Rattle.f_tree.specs.declared.statements.Stmt.{Stmt}
use Rattle.f_tree.specs.declared.units.Unit.{Unit as WrittenUnit}
use Rattle.f_tree.specs.Folds.{layer_of}
use Rattle.f_tree.specs.Facts.{ProgramUnit}
use Rattle.f_tree.specs.Lines.{unit_read}
use Rattle.name_facts.specs.declaration_rows.NameRows.{given_names}
use Rattle.name_facts.specs.declaration_rows.UnitRows as written
use Rattle.loop_entries.specs.LoopRanges.{terminal_by, terminals_from, terminals_of}
use Rattle.loop_entries.specs.ReadLines.{loop_in}
use Rattle.loop_entries.proofs.LineLemmas.{unit_reads, terminal_there, terminals_count, lines_count}

written_range : (p : ProgramUnit) (i : ℕ) (b : Body) → written.range_in p i b ≡ written.range_to i (terminal_by p i (loop_in b))
unfolding written.range_in written.range_to terminal_by loop_in layer_of
written_range p i (IfOne' e s (more_of-Body b r)) = refl
written_range p i _ = refl

last_of : List written.Range → Option ℕ
last_of [] = None
last_of (r ∷ rs) = Some r.last

last_of_range : (i : ℕ) (end : Option ℕ) → last_of (written.range_to i end) ≡ end
unfolding last_of written.range_to
last_of_range i None = refl
last_of_range i (Some last) = refl

same_end : (i : ℕ) (a b : Option ℕ) → written.range_to i a ≡ written.range_to i b → a ≡ b
same_end i a b is = sym (last_of_range i a) ∙ ap last_of is ∙ last_of_range i b

-- lists whose elements are the same are the same
same_list : (xs ys : List (Option ℕ)) → length xs ≡ length ys → ((k : ℕ) → k < length xs → get_or xs k None ≡ get_or ys k None) → xs ≡ ys
same_list [] [] count each = refl
same_list [] (y ∷ ys) count each = absurd (omega (arith, count))
same_list (x ∷ xs) [] count each = absurd (omega (arith, count))
same_list (x ∷ xs) (y ∷ ys) count each =
    ap (λ z. z ∷ xs) (each 0 (omega arith)) ∙ ap (λ zs. y ∷ zs) (same_list xs ys (omega (arith, count)) (λ k h. each (suc k) (omega (arith, h))))

some_statement : Stmt
some_statement = record { label = None; file = 0; card = 0; body = Rattle.f_tree.specs.declared.statements.Body.TheVariants.End }

terminals_are : (options : Options) (u : WrittenUnit) (ends : List (Option ℕ)) → length ends ≡ length u.statements
    → ((k : ℕ) (s : Stmt) → k < length u.statements → written.range_to k (get_or ends k None) ≡ written.range_in (unit_read options u) k (get_or u.statements k s).body)
    → ends ≡ terminals_of (unit_read options u)
unfolding terminals_of
terminals_are options u ends count each =
    let p = unit_read options u in
    let counted : length (terminals_from p 0 p.lines) ≡ length u.statements = terminals_count p ∙ lines_count p (given_names u) u.statements (unit_reads options u) in
    same_list ends (terminals_from p 0 p.lines) (count ∙ sym counted)
    (λ k h.
    let within : k < length u.statements = omega (arith, h, count) in
    same_end k (get_or ends k None) (terminal_by p k (loop_in (get_or u.statements k some_statement).body))
    (each k some_statement within ∙ written_range p k (get_or u.statements k some_statement).body)
    ∙ sym (terminal_there p (given_names u) u.statements k some_statement (unit_reads options u) within))

pub terminals_found : {E : Type 0} (r : Result (Vec (Option ℕ)) E) (u : WrittenUnit) → IfOk r (λ ends. length ends.items ≡ length u.statements)
    → IfOk r (λ ends. (options : Options) → (k : ℕ) → (s : Stmt) → k < length u.statements → written.range_to k (get_or ends.items k None) ≡ written.range_in (unit_read options u) k (get_or u.statements k s).body)
    → IfOk r (λ ends. (options : Options) → ends.items ≡ terminals_of (unit_read options u))
terminals_found (Ok ends) u count each = λ options. terminals_are options u ends.items count (each options)
terminals_found (Err e) u count each = tt
