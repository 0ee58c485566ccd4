-- The rows of statements, each by what is found of it, and the first of all.
use Rattle.std.proofs.Common.{◌≡◌, ℕ, suc, ◌+◌, ◌<◌, ◌≤◌, List, [], ◌∷◌, ◌++◌, drop, drop-cons, get_or, length, nat_eq, Option, None, refl, sym, ap, ◌∙◌, arith}
use Rattle.std.specs.HashSet.{contains}
use Rattle.std.proofs.lemmas.List.{drop_all}
use Rattle.f_tree.specs.declared.names.Options.{Options}
use Rattle.f_tree.specs.declared.refusals.Refusal.{Refusal}
use Rattle.f_tree.specs.declared.statements.Stmt.{Stmt}
use Rattle.f_tree.specs.declared.units.Unit.{Unit as WrittenUnit}
use Rattle.f_tree.specs.Lines.{unit_read}
use Rattle.declaration_rows.specs.NameRows.{known_in, stood}
use Rattle.declaration_rows.specs.StatementRows.{broken}
use Rattle.declaration_rows.specs.StatementRows as rows
use Rattle.declaration_rows.specs.UnitRows.{range_to, range_in, site_at, statements_rows}
use Rattle.declaration_rows.specs.Verdicts.{first_of}
use Rattle.refusal_order.specs.Earliest.{earliest, refusal_of}
use Rattle.refusal_order.proofs.FirstOfBoth.{earliest_along, earliest_none, first_of_both, first_stood}
use Rattle.expression_judge.specs.SeenNames.{AreSeen}
use Rattle.loop_ranges.specs.LoopForms.{begun_by, form_of}
use Rattle.statement_judge.specs.declared.site.Site.{Site}
use Rattle.statement_judge.specs.StatementSites.{may_branch, is_format, IsSite, EndsLoop}
use Rattle.statement_judge.specs.StatementSteps.{broken_by}
use Rattle.statement_judge.proofs.StatementLaws.{statement-found}
use Rattle.statements_judge.specs.declared.labels.Labels.{Labels}
use Rattle.statements_judge.specs.UnitLabels.{is_entered, has_format, AreLabels}
use Rattle.statements_judge.specs.UnitLoops.{range_ends}
use Rattle.statements_judge.proofs.LabelLemmas.{branch_enters}
use Rattle.statements_judge.proofs.LoopLemmas.{loop_ends}
use Rattle.statements_judge.proofs.GuardLemmas.{ends_told, ends_alike}

-- what is known where a statement stands is what the code has there
pub record IsAt (u : WrittenUnit) (site : Site) : Type 0 where
  pub names : AreSeen (known_in u) site.names.now
  pub branches : (l : ℕ) → may_branch site l ≡ is_entered u.statements l
  pub formats : (l : ℕ) → is_format site l ≡ has_format u.statements l

pub is_at : (u : WrittenUnit) (ss : List Stmt) (labels : Labels) (site : Site) → AreSeen (known_in u) site.names.now → site.branches.now ≡ labels.branches
    → site.formats.now ≡ labels.formats → AreLabels labels ss → ss ≡ u.statements → IsAt u site
unfolding may_branch is_format
is_at u ss labels site names branches formats known same = record {
  names = names;
  branches = λ l. ap (λ set. contains nat_eq set l) branches ∙ known.branches l ∙ ap (λ ts. is_entered ts l) same;
  formats = λ l. ap (λ set. contains nat_eq set l) formats ∙ known.formats l ∙ ap (λ ts. has_format ts l) same;
}

is_site : (options : Options) (u : WrittenUnit) (i : ℕ) (site : Site) → IsAt u site → IsSite (ends_told (site_at u (unit_read options u) i) site.ends_loop) site
unfolding site_at has_format ends_told
is_site options u i site at = record {
  names = at.names;
  branches = λ l. branch_enters options u l ∙ sym (at.branches l);
  formats = λ l. sym (at.formats l);
}

ends_at : (options : Options) (u : WrittenUnit) (i : ℕ) (site : Site) (s : Stmt) (end : Option ℕ) → range_to i end ≡ range_in (unit_read options u) i s.body
    → site.ends_loop ≡ range_ends u.statements (form_of s.body) i end → (label : Option ℕ) → form_of s.body ≡ begun_by label
    → (site_at u (unit_read options u) i).ends_loop label ≡ site.ends_loop
unfolding site_at
ends_at options u i site s end range ends label form = loop_ends u.statements (unit_read options u) i s.body end range label form ∙ sym ends

told_ends : (known : rows.Site) (site : Site) (loop : Option (Option ℕ)) → EndsLoop (ends_told known site.ends_loop) site loop
unfolding ends_told
told_ends known site loop = record { ends = λ label is. refl }

pub statement_first : (options : Options) (u : WrittenUnit) (i : ℕ) (site : Site) (s : Stmt) (end : Option ℕ) → IsAt u site
    → range_to i end ≡ range_in (unit_read options u) i s.body → site.ends_loop ≡ range_ends u.statements (form_of s.body) i end
    → refusal_of s.file s.card (broken_by site s.body).rows ≡ first_of (stood s (broken (site_at u (unit_read options u) i) s.body).rows)
statement_first options u i site s end at range ends =
    let known : rows.Site = site_at u (unit_read options u) i in
    sym (first_stood s (broken known s.body).rows
    ∙ ap (refusal_of s.file s.card)
    (ends_alike known site.ends_loop s.body (ends_at options u i site s end range ends)
    ∙ statement-found (ends_told known site.ends_loop) site (is_site options u i site at) s.body (told_ends known site _)))

-- A WALK
abbrev pub rows_from : Options → WrittenUnit → ℕ → List Stmt → List Refusal
rows_from options u i ss = statements_rows u (unit_read options u) i ss

rows_step : (options : Options) (u : WrittenUnit) (i : ℕ) (s : Stmt) (ss : List Stmt)
    → rows_from options u i (s ∷ ss) ≡ stood s (broken (site_at u (unit_read options u) i) s.body).rows ++ rows_from options u (suc i) ss
unfolding statements_rows
rows_step options u i s ss = refl

rows_none : (options : Options) (u : WrittenUnit) (i : ℕ) → rows_from options u i [] ≡ []
unfolding statements_rows
rows_none options u i = refl

first_step : (options : Options) (u : WrittenUnit) (i : ℕ) (s : Stmt) (ss : List Stmt) (found : Option Refusal)
    → found ≡ first_of (stood s (broken (site_at u (unit_read options u) i) s.body).rows)
    → first_of (rows_from options u i (s ∷ ss)) ≡ earliest found (first_of (rows_from options u (i + 1) ss))
first_step options u i s ss found is =
    ap first_of (rows_step options u i s ss)
    ∙ first_of_both (stood s (broken (site_at u (unit_read options u) i) s.body).rows) (rows_from options u (suc i) ss)
    ∙ ap (λ f. earliest f (first_of (rows_from options u (suc i) ss))) (sym is)
    ∙ ap (λ n. earliest found (first_of (rows_from options u n ss))) (let e : suc i ≡ i + 1 = omega arith in e)

rest_is : (ss : List Stmt) (i : ℕ) (s d : Stmt) → i < length ss → s ≡ get_or ss i d → drop i ss ≡ s ∷ drop (i + 1) ss
rest_is ss i s d h is = drop-cons ss i d h ∙ ap (λ t. t ∷ drop (suc i) ss) (sym is) ∙ ap (λ n. s ∷ drop n ss) (let e : suc i ≡ i + 1 = omega arith in e)

pub first_more : (options : Options) (u : WrittenUnit) (i : ℕ) (s d : Stmt) (first found after whole : Option Refusal) → i < length u.statements → s ≡ get_or u.statements i d
    → whole ≡ earliest first (first_of (rows_from options u i (drop i u.statements)))
    → found ≡ first_of (stood s (broken (site_at u (unit_read options u) i) s.body).rows) → after ≡ earliest first found
    → whole ≡ earliest after (first_of (rows_from options u (i + 1) (drop (i + 1) u.statements)))
first_more options u i s d first found after whole h is so_far known put =
    let behind : Option Refusal = first_of (rows_from options u (i + 1) (drop (i + 1) u.statements)) in
    so_far ∙ ap (λ ts. earliest first (first_of (rows_from options u i ts))) (rest_is u.statements i s d h is)
    ∙ ap (earliest first) (first_step options u i s (drop (i + 1) u.statements) found known)
    ∙ sym (earliest_along first found behind) ∙ ap (λ f. earliest f behind) (sym put)

pub first_begin : (o : Option Refusal) → o ≡ earliest None o
unfolding earliest
first_begin o = refl

first_none : first_of [] ≡ None
unfolding first_of
first_none = refl

pub first_end : (options : Options) (u : WrittenUnit) (i : ℕ) (first whole : Option Refusal) → length u.statements ≤ i
    → whole ≡ earliest first (first_of (rows_from options u i (drop i u.statements))) → first ≡ whole
first_end options u i first whole h so_far =
    sym (so_far
    ∙ ap (earliest first) (ap (λ ts. first_of (rows_from options u i ts)) (drop_all i u.statements h) ∙ ap first_of (rows_none options u i) ∙ first_none)
    ∙ earliest_none first)
