-- The code of a whole function stands: its last item is a return, and each label that is named stands in it.
use Rattle.std.specs.Prelude.{◌≡◌, ℕ, ◌<◌, Bool, true, false, cond, ◌==◌, ◌||◌, List, [], ◌∷◌, ◌++◌, map, length, filter, Some, bytes_eq, if◌then◌else◌}
use Rattle.std.specs.List.{list_all}
use Rattle.std.proofs.Common.{refl, sym, subst, ap, ◌∙◌}
use Rattle.std.proofs.lemmas.List.{length-append, append-nil}
use native.Mathlib.Omega.{arith}
use Rattle.c_laws.specs.c_tree.declared.statement.CStmt.{CStmt}
use Rattle.c_laws.specs.c_tree.Tokens.{Token}
use Rattle.c_laws.specs.c_tree.CWords.{is_among}
use Rattle.c_laws.specs.c_tree.CExpressionText as text
use Rattle.c_laws.specs.c_tree.CStatementText as statement
use Rattle.c_laws.specs.c_tree.CLabels.{LabelsOf, no_label, both, labels_of, labels_of_all, stands_once, labels_meet}
use Rattle.c_laws.specs.c_tree.Flat.{Flat}
use Rattle.c_laws.specs.c_tree.Drafts.{Scope}
use Rattle.c_laws.specs.c_tree.FlatForm.{LabelAt, Body, position_of, sequence, empty, body, body_of_all, is_return, ends, with_return, whole_body, flat_form}
use Rattle.c_totality.specs.Sound.{Each}
use Rattle.c_totality.specs.Standing.{AllStand}
use Rattle.c_totality.proofs.ListLaws.{and-left, and-right, each-left, each-map}
use Rattle.c_totality.proofs.FlatSound.{NamesKnown, IsPlaced, IsLabelIn, Sits, sits-sequence, sits-at, all-append, statement-sits, statements-sit, last-sits, return-sits}

-- ## The end of a function

then-empty : {scope : Scope} {M : List ℕ → Type 0} {it : Body} {labels : LabelsOf} → Sits 0 scope M it labels → Sits 0 scope M (sequence it empty) (both labels no_label)
then-empty {scope = scope} {it = it} {labels = labels} s =
    let some = s.some in
    record {
      some = omega (arith, some);
      long = λ first at position.
          let x = s.long first at position in
          let z = length-append (it.items.drawn scope first at position) [] in
          omega (arith, x, z);
      names = λ position. ap (λ l. map (λ (label : LabelAt). label.name) l) (append-nil (it.labels position)) ∙ (s.names position ∙ sym (append-nil labels.stand));
      within = λ position count fits. subst (Each (IsLabelIn count)) (sym (append-nil (it.labels position))) (s.within position count (omega (arith, fits)));
      stands = λ first at position count mentioned placed fits.
          all-append count position (it.items.drawn scope first at position) []
          (s.stands first at position count (each-left _ it.items.names [] mentioned) (each-left _ labels.named [] placed) (omega (arith, fits))) tt;
    }

-- where the last statement is a return
ends-step : {scope : Scope} {M : List ℕ → Type 0} (first : CStmt) (later : List CStmt) → Sits 1 scope M (body first) (labels_of first) → (is_return first ≡ true → Sits 0 scope M (body first) (labels_of first)) →
    (ends later ≡ true → Sits 0 scope M (body_of_all later) (labels_of_all later)) → ends (first ∷ later) ≡ true → Sits 0 scope M (body_of_all (first ∷ later)) (labels_of_all (first ∷ later))
ends-step first [] s last rest is = then-empty (last is)
ends-step first (second ∷ later) s last rest is = sits-sequence s (rest is)

pub ends-sit : {of : text.Scope} {scope : Scope} {M : List ℕ → Type 0} {ss : List CStmt} {p q : List Token} → NamesKnown of scope M → statement.ReadsStmts of ss p q → ends ss ≡ true → Sits 0 scope M (body_of_all ss) (labels_of_all ss)
ends-sit names (statement.closed x) is = absurd (cc)
ends-sit names (statement.one_more {first = first} {later = later} d more) is =
    ends-step first later (statement-sits names d) (λ return. last-sits names return d) (ends-sit names more) is

labels-alone : (labels : LabelsOf) → labels ≡ both labels no_label
labels-alone labels = sym (ap (λ s. record { stand = s; named = labels.named ++ [] }) (append-nil labels.stand) ∙ ap (λ n. record { stand = labels.stand; named = n }) (append-nil labels.named))

whole-by : {scope : Scope} {M : List ℕ → Type 0} {it : Body} {labels : LabelsOf} (b : Bool) → Sits 1 scope M it labels → (b ≡ true → Sits 0 scope M it labels) → Sits 0 scope M (with_return b it) labels
whole-by true s last = last refl
whole-by {it = it} {labels = labels} false s last = sits-at refl (labels-alone labels) (sits-sequence s return-sits)

pub whole-sits : {of : text.Scope} {scope : Scope} {M : List ℕ → Type 0} {ss : List CStmt} {p q : List Token} → NamesKnown of scope M → statement.ReadsStmts of ss p q → Sits 0 scope M (whole_body ss) (labels_of_all ss)
whole-sits {ss = ss} names all = whole-by (ends ss) (statements-sit names all) (ends-sit names all)

-- ## Labels

-- a label that stands once stands
once-first : (label first : List ℕ) (later : List (List ℕ)) (b : Bool) → (length (cond b (first ∷ filter (bytes_eq label) later) (filter (bytes_eq label) later)) == 1) ≡ true →
    ((length (filter (bytes_eq label) later) == 1) ≡ true → is_among label later ≡ true) → (b || is_among label later) ≡ true
once-first label first later true once rest = refl
once-first label first later false once rest = rest once

once-among : (label : List ℕ) (labels : List (List ℕ)) → stands_once labels label ≡ true → is_among label labels ≡ true
once-among label [] once = absurd (cc)
once-among label (first ∷ later) once = once-first label first later (bytes_eq label first) once (once-among label later)

named-among : (stand named : List (List ℕ)) → list_all (stands_once stand) named ≡ true → Each (λ name. is_among name stand ≡ true) named
named-among stand [] all = tt
named-among stand (name ∷ later) all =
    (once-among name stand (and-left (stands_once stand name) (list_all (stands_once stand) later) all), named-among stand later (and-right (stands_once stand name) (list_all (stands_once stand) later) all))

placed-first : (label : LabelAt) (later : List LabelAt) (count : ℕ) (name : List ℕ) (b : Bool) → bytes_eq name label.name ≡ b → label.position < count →
    (b || is_among name (map (λ (l : LabelAt). l.name) later)) ≡ true →
    (is_among name (map (λ (l : LabelAt). l.name) later) ≡ true → IsPlaced (position_of later) count name) → IsPlaced (position_of (label ∷ later)) count name
placed-first label later count name true is within among rest =
    record { place = label.position; is = ap (λ b. if b then Some label.position else position_of later name) is; within = within }
placed-first label later count name false is within among rest =
    let it : IsPlaced (position_of later) count name = rest among in
    record { place = it.place; is = ap (λ b. if b then Some label.position else position_of later name) is ∙ it.is; within = it.within }

placed-at : (labels : List LabelAt) (count : ℕ) (name : List ℕ) → Each (IsLabelIn count) labels → is_among name (map (λ (l : LabelAt). l.name) labels) ≡ true → IsPlaced (position_of labels) count name
placed-at [] count name within among = absurd (cc)
placed-at (label ∷ later) count name within among =
    placed-first label later count name (bytes_eq name label.name) refl within.0 among (placed-at later count name within.1)

-- ## The code of a function

pub record CodeStands (code : List Flat) : Type 0 where
  pub some : 0 < length code
  pub items : AllStand (length code) 0 code

pub code-stands : {scope : Scope} {M : List ℕ → Type 0} (ss : List CStmt) → Sits 0 scope M (whole_body ss) (labels_of_all ss) → labels_meet ss ≡ true → Each M (whole_body ss).items.names → (first : ℕ) →
    CodeStands (flat_form (whole_body ss) scope first)
code-stands {scope = scope} ss s meet mentioned first =
    let it = whole_body ss in
    let labels = labels_of_all ss in
    let at = position_of (it.labels 0) in
    let long : length (flat_form it scope first) ≡ it.size = s.long first at 0 in
    let within : Each (IsLabelIn it.size) (it.labels 0) = s.within 0 it.size (omega arith) in
    let placed : Each (IsPlaced at it.size) labels.named =
    each-map labels.named (λ name among. placed-at (it.labels 0) it.size name within (subst (λ l. is_among name l ≡ true) (sym (s.names 0)) among)) (named-among labels.stand labels.named meet) in
    let some = s.some in
    record {
      some = subst (λ n. 0 < n) (sym long) (omega (arith, some));
      items = subst (λ n. AllStand n 0 (flat_form it scope first)) (sym long) (s.stands first at 0 it.size mentioned placed (omega arith));
    }
