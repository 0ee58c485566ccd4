-- Values into the record in the making, and the lines that they complete.
use Rattle.std.proofs.Common.{◌≡◌, ℕ, ◌≤◌, ℤ, List, [], ◌∷◌, ◌++◌, length, take, drop, ap, sym, ◌∙◌, subst, arith, append_assoc, append-nil}
use Rattle.std.specs.Prelude.{Result, Ok, Err}
use Rattle.run_state.specs.declared.refusals.UnitRefusal.{UnitRefusal}
use Rattle.f2c_outside.specs.Table.{Row}
use Rattle.edit_rules.specs.edit_meaning.Listed.{ListedValue, shown, Listing, followed_by, listing}
use Rattle.edit_rules.specs.Writer.{done_by, making_of, only, Places, Fills, Stands}
use Rattle.edit_rules.specs.declared.list_writer.ListWriter.{ListWriter}
use Rattle.edit_rules.proofs.ListedSteps.{followed_by-record}
use Rattle.edit_rules.proofs.ListedLaws.{listing-append, stands-next}
use Rattle.listed_output.specs.Writing.{Writes, PutsValue, PutsItems}
use Rattle.listed_output.proofs.WriteLaws.{writes-nothing, writes-behind}

-- an item is being put, and the lines so far are written
pub record Putting (unit : ℤ) (item : ListedValue) (writer : ListWriter) (line : List ℕ) (writer' : ListWriter) (line' : List ℕ) (old new : List Row) : Type 0 where
  pub written : List (List ℕ)
  pub writes : Writes unit written old new (Ok tt)
  pub stands : (values : List ListedValue) → (complete : List (List ℕ)) → Stands values item complete writer line → Stands values item (complete ++ written) writer' line'
  pub within : done_by writer' ≤ length (shown item)
  pub blank : take 1 line' ≡ 32 ∷ []

pub putting-starts :
    (unit : ℤ) (item : ListedValue) (writer : ListWriter) (line : List ℕ) (rows : List Row) → done_by writer ≡ 0 → take 1 line ≡ 32 ∷ [] →
    Putting unit item writer line writer line rows rows
putting-starts unit item writer line rows whole blank = record {
  written = [];
  writes = writes-nothing unit rows;
  stands = λ values complete stands. subst (λ (lines : List (List ℕ)). Stands values item lines writer line) (sym (append-nil complete)) stands;
  within = omega arith;
  blank = blank;
}

pub putting-goes_on :
    (unit : ℤ) (item : ListedValue) (writer : ListWriter) (line : List ℕ) (writer' : ListWriter) (line' : List ℕ) (writer'' : ListWriter) (line'' : List ℕ) (used : ℕ) (x y z : List Row) →
    Putting unit item writer line writer' line' x y → Fills writer' line' (shown item) used writer'' line'' → take 1 line'' ≡ 32 ∷ [] →
    ((values : List ListedValue) → (complete : List (List ℕ)) → Stands values item complete writer' line' → Stands values item (complete ++ take used line'' ∷ []) writer'' line'') →
    Writes unit (take used line'' ∷ []) y z (Ok tt) → Putting unit item writer line writer'' line'' x z
putting-goes_on unit item writer line writer' line' writer'' line'' used x y z before fills blank listed wrote = record {
  written = before.written ++ take used line'' ∷ [];
  writes = writes-behind unit before.written (take used line'' ∷ []) x y z (Ok tt) before.writes wrote;
  stands = λ values complete stands.
      subst (λ (lines : List (List ℕ)). Stands values item lines writer'' line'') (append_assoc complete before.written (take used line'' ∷ []))
      (listed values (complete ++ before.written) (before.stands values complete stands));
  within = fills.within;
  blank = blank;
}

-- the complete records of an output are those before a text and those that it makes
pub leftover : (out : Listing) (text : List ℕ) → (followed_by out text).complete ≡ out.complete ++ (followed_by (only out.making) text).complete
leftover out text = ap (λ (after : Listing). after.complete) (followed_by-record out.complete out.making text)

pub putting-refused :
    (unit : ℤ) (item : ListedValue) (writer : ListWriter) (line : List ℕ) (writer' : ListWriter) (line' : List ℕ) (writer'' : ListWriter) (line'' : List ℕ) (used : ℕ) (left : ListWriter) (left_line : List ℕ) (x y z : List Row)
    (refusal : UnitRefusal) → Putting unit item writer line writer' line' x y →
    ((values : List ListedValue) → (complete : List (List ℕ)) → Stands values item complete writer' line' → Stands values item (complete ++ take used line'' ∷ []) writer'' line'') →
    Writes unit (take used line'' ∷ []) y z (Err refusal) → PutsValue unit item writer line left left_line x z (Err refusal)
putting-refused unit item writer line writer' line' writer'' line'' used left left_line x y z refusal before listed refused = record {
  lines = before.written ++ take used line'' ∷ [];
  writes = writes-behind unit before.written (take used line'' ∷ []) x y z (Err refusal) before.writes refused;
  makes = λ values complete stands.
      let now : Stands values item ((complete ++ before.written) ++ take used line'' ∷ []) writer'' line'' =
      listed values (complete ++ before.written) (before.stands values complete stands) in
      let rest : List (List ℕ) = (followed_by (only (making_of writer'' line'')) (drop (done_by writer'') (shown item))).complete in (
        rest,
        ap (λ (out : Listing). out.complete) (sym now.output)
            ∙ leftover (record { complete = (complete ++ before.written) ++ take used line'' ∷ []; making = making_of writer'' line'' }) (drop (done_by writer'') (shown item))
            ∙ ap (λ (lines : List (List ℕ)). lines ++ rest) (append_assoc complete before.written (take used line'' ∷ [])),
      );
  whole = tt;
}

pub putting-placed :
    (unit : ℤ) (item : ListedValue) (writer : ListWriter) (line : List ℕ) (writer' : ListWriter) (line' : List ℕ) (writer'' : ListWriter) (line'' : List ℕ) (x y : List Row) →
    Putting unit item writer line writer' line' x y → Places writer' line' (shown item) writer'' line'' →
    ((values : List ListedValue) → (complete : List (List ℕ)) → Stands values item complete writer' line' →
    listing (values ++ item ∷ []) ≡ record { complete = complete; making = making_of writer'' line'' }) → PutsValue unit item writer line writer'' line'' x y (Ok tt)
putting-placed unit item writer line writer' line' writer'' line'' x y before places listed = record {
  lines = before.written;
  writes = before.writes;
  makes = λ values complete stands. listed values (complete ++ before.written) (before.stands values complete stands);
  whole = places.starts;
}

-- values behind others make further records behind the complete ones of those
pub further : (values later : List ListedValue) → (more : List (List ℕ)) × ((listing (values ++ later)).complete ≡ (listing values).complete ++ more)
further values [] = ([], ap (λ (all : List ListedValue). (listing all).complete) (append-nil values) ∙ sym (append-nil (listing values).complete))
further values (item ∷ later) =
    let rest : (more : List (List ℕ)) × ((listing ((values ++ item ∷ []) ++ later)).complete ≡ (listing (values ++ item ∷ [])).complete ++ more) = further (values ++ item ∷ []) later in
    let one : List (List ℕ) = (followed_by (only (listing values).making) (shown item)).complete in (
      one ++ rest.0,
      ap (λ (all : List ListedValue). (listing all).complete) (sym (append_assoc values (item ∷ []) later)) ∙ rest.1
          ∙ ap (λ (lines : List (List ℕ)). lines ++ rest.0) (ap (λ (out : Listing). out.complete) (listing-append values item) ∙ leftover (listing values) (shown item))
          ∙ append_assoc (listing values).complete one rest.0,
    )

-- some items are put, and the lines so far are written
pub record PuttingItems (unit : ℤ) (read : List ListedValue) (writer : ListWriter) (line : List ℕ) (writer' : ListWriter) (line' : List ℕ) (old new : List Row) : Type 0 where
  pub lines : List (List ℕ)
  pub writes : Writes unit lines old new (Ok tt)
  pub makes : (values : List ListedValue) → (complete : List (List ℕ)) → listing values ≡ record { complete = complete; making = making_of writer line } →
      listing (values ++ read) ≡ record { complete = complete ++ lines; making = making_of writer' line' }
  pub whole : done_by writer' ≡ 0

pub listing-of : (complete complete' : List (List ℕ)) (making : List ℕ) → complete ≡ complete' → (let out : Listing = record { complete = complete; making = making } in out) ≡ record { complete = complete'; making = making }
listing-of complete complete' making same = ap (λ (lines : List (List ℕ)). record { complete = lines; making = making }) same

pub items-start :
    (unit : ℤ) (writer : ListWriter) (line : List ℕ) (rows : List Row) → done_by writer ≡ 0 → PuttingItems unit [] writer line writer line rows rows
items-start unit writer line rows whole = record {
  lines = [];
  writes = writes-nothing unit rows;
  makes = λ values complete is.
      ap listing (append-nil values) ∙ is ∙ listing-of complete (complete ++ []) (making_of writer line) (sym (append-nil complete));
  whole = whole;
}

pub items-go_on :
    (unit : ℤ) (read : List ListedValue) (item : ListedValue) (writer : ListWriter) (line : List ℕ) (writer' : ListWriter) (line' : List ℕ) (writer'' : ListWriter) (line'' : List ℕ) (x y z : List Row) →
    PuttingItems unit read writer line writer' line' x y → PutsValue unit item writer' line' writer'' line'' y z (Ok tt) →
    PuttingItems unit (read ++ item ∷ []) writer line writer'' line'' x z
items-go_on unit read item writer line writer' line' writer'' line'' x y z before put = record {
  lines = before.lines ++ put.lines;
  writes = writes-behind unit before.lines put.lines x y z (Ok tt) before.writes put.writes;
  makes = λ values complete is.
      let stands : Stands (values ++ read) item (complete ++ before.lines) writer' line' =
      stands-next (values ++ read) item (complete ++ before.lines) writer' line' (before.makes values complete is) before.whole in
      ap listing (sym (append_assoc values read (item ∷ []))) ∙ put.makes (values ++ read) (complete ++ before.lines) stands
      ∙ listing-of ((complete ++ before.lines) ++ put.lines) (complete ++ (before.lines ++ put.lines)) (making_of writer'' line'') (append_assoc complete before.lines put.lines);
  whole = put.whole;
}

pub items-done :
    (unit : ℤ) (read all : List ListedValue) (writer : ListWriter) (line : List ℕ) (writer' : ListWriter) (line' : List ℕ) (x y : List Row) → read ≡ all →
    PuttingItems unit read writer line writer' line' x y → PutsItems unit all writer line writer' line' x y (Ok tt)
items-done unit read all writer line writer' line' x y same before =
    subst (λ (items : List ListedValue). PutsItems unit items writer line writer' line' x y (Ok tt)) same
    (record { lines = before.lines; writes = before.writes; makes = before.makes; whole = before.whole })

pub items-refused :
    (unit : ℤ) (read : List ListedValue) (item : ListedValue) (later all : List ListedValue) (writer : ListWriter) (line : List ℕ) (writer' : ListWriter) (line' : List ℕ) (writer'' : ListWriter) (line'' : List ℕ)
    (x y z : List Row) (refusal : UnitRefusal) → all ≡ (read ++ item ∷ []) ++ later → PuttingItems unit read writer line writer' line' x y →
    PutsValue unit item writer' line' writer'' line'' y z (Err refusal) → PutsItems unit all writer line writer'' line'' x z (Err refusal)
items-refused unit read item later all writer line writer' line' writer'' line'' x y z refusal is before put = record {
  lines = before.lines ++ put.lines;
  writes = writes-behind unit before.lines put.lines x y z (Err refusal) before.writes put.writes;
  makes = λ values complete begins.
      let stands : Stands (values ++ read) item (complete ++ before.lines) writer' line' =
      stands-next (values ++ read) item (complete ++ before.lines) writer' line' (before.makes values complete begins) before.whole in
      let made : (rest : List (List ℕ)) × ((listing ((values ++ read) ++ item ∷ [])).complete ≡ ((complete ++ before.lines) ++ put.lines) ++ rest) =
      put.makes (values ++ read) (complete ++ before.lines) stands in
      let more : (rest : List (List ℕ)) × ((listing (((values ++ read) ++ item ∷ []) ++ later)).complete ≡ (listing ((values ++ read) ++ item ∷ [])).complete ++ rest) =
      further ((values ++ read) ++ item ∷ []) later in (
        made.0 ++ more.0,
        ap (λ (items : List ListedValue). (listing (values ++ items)).complete) is
            ∙ ap (λ (items : List ListedValue). (listing items).complete) (regroup values read (item ∷ []) later)
            ∙ more.1 ∙ ap (λ (lines : List (List ℕ)). lines ++ more.0) made.1
            ∙ lines-regroup complete before.lines put.lines made.0 more.0,
      );
  whole = tt;
}
  where
    regroup : (values read one later : List ListedValue) → values ++ ((read ++ one) ++ later) ≡ ((values ++ read) ++ one) ++ later
    regroup values read one later =
        sym (append_assoc values (read ++ one) later) ∙ ap (λ (front : List ListedValue). front ++ later) (sym (append_assoc values read one))

    lines-regroup : (complete front back rest more : List (List ℕ)) → (((complete ++ front) ++ back) ++ rest) ++ more ≡ (complete ++ (front ++ back)) ++ (rest ++ more)
    lines-regroup complete front back rest more =
        append_assoc ((complete ++ front) ++ back) rest more ∙ ap (λ (lines : List (List ℕ)). lines ++ (rest ++ more)) (append_assoc complete front back)

-- the same on a unit by its number
pub value-at : (own unit : ℤ) (item : ListedValue) (writer : ListWriter) (line : List ℕ) (writer' : ListWriter) (line' : List ℕ) (old new : List Row) (result : Result (Unit {0}) UnitRefusal) → own ≡ unit →
    PutsValue own item writer line writer' line' old new result → PutsValue unit item writer line writer' line' old new result
value-at own unit item writer line writer' line' old new result same puts = subst (λ (number : ℤ). PutsValue number item writer line writer' line' old new result) same puts

pub items-at : (own unit : ℤ) (items : List ListedValue) (writer : ListWriter) (line : List ℕ) (writer' : ListWriter) (line' : List ℕ) (old new : List Row) (result : Result (Unit {0}) UnitRefusal) → own ≡ unit →
    PutsItems own items writer line writer' line' old new result → PutsItems unit items writer line writer' line' old new result
items-at own unit items writer line writer' line' old new result same puts = subst (λ (number : ℤ). PutsItems number items writer line writer' line' old new result) same puts
