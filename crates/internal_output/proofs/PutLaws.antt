-- Values into the record in the making, and the records that they complete.
use Rattle.std.proofs.Common.{◌≡◌, ℕ, suc, ◌+◌, ◌-◌, ◌*◌, ◌≤◌, ◌<◌, List, [], ◌∷◌, ◌++◌, length, take, drop, ap, sym, ◌∙◌, subst, arith, append_assoc, append-nil}
use Rattle.std.specs.Prelude.{Ok, Err}
use Rattle.std.proofs.lemmas.List.{drop-drop}
use Rattle.c_tree.specs.Objects.{Object}
use Rattle.c_tree.specs.TransferOutput.{ItemKind}
use Rattle.edit_rules.specs.edit_meaning.Listed.{ListedValue, shown, Listing, followed_by, listing}
use Rattle.edit_rules.specs.Writer.{done_by, making_of, only, Places, Stands}
use Rattle.edit_rules.specs.Writer as lines
use Rattle.edit_rules.specs.declared.list_writer.ListWriter.{ListWriter}
use Rattle.edit_rules.proofs.ListedLaws.{stands-next}
use Rattle.listed_output.proofs.PutLaws.{leftover, further, listing-of}
use Rattle.internal_output.specs.declared.files.FileRecords.{FileRecords}
use Rattle.internal_output.specs.declared.files.RecordRefusal.{RecordRefusal}
use Rattle.internal_output.specs.Files.{Fills}
use Rattle.internal_output.specs.Items.{value_in, values_in}
use Rattle.internal_output.specs.Putting.{PutsValue, PutsItems}
use Rattle.internal_output.proofs.FileLaws.{fills-nothing, fills-behind}

-- an item is being put, and the lines so far are stored
pub record Putting (item : ListedValue) (writer : ListWriter) (line : List ℕ) (writer' : ListWriter) (line' : List ℕ)
    (file : FileRecords) (objects : List Object) (file' : FileRecords) (objects' : List Object) : Type 0 where
  pub written : List (List ℕ)
  pub stores : Fills written file objects file' objects' (Ok tt)
  pub stands : (values : List ListedValue) → (complete : List (List ℕ)) → Stands values item complete writer line → Stands values item (complete ++ written) writer' line'
  pub within : done_by writer' ≤ length (shown item)
  pub blank : take 1 line' ≡ 32 ∷ []

pub putting-starts :
    (item : ListedValue) (writer : ListWriter) (line : List ℕ) (file : FileRecords) (objects : List Object) → done_by writer ≡ 0 → take 1 line ≡ 32 ∷ [] →
    Putting item writer line writer line file objects file objects
putting-starts item writer line file objects whole blank = record {
  written = [];
  stores = fills-nothing file objects;
  stands = λ values complete stands. subst (λ (lines : List (List ℕ)). Stands values item lines writer line) (sym (append-nil complete)) stands;
  within = omega arith;
  blank = blank;
}

pub putting-goes_on :
    (item : ListedValue) (writer : ListWriter) (line : List ℕ) (writer' : ListWriter) (line' : List ℕ) (writer'' : ListWriter) (line'' : List ℕ) (used : ℕ)
    (f : FileRecords) (x : List Object) (g : FileRecords) (y : List Object) (h : FileRecords) (z : List Object) →
    Putting item writer line writer' line' f x g y → lines.Fills writer' line' (shown item) used writer'' line'' → take 1 line'' ≡ 32 ∷ [] →
    ((values : List ListedValue) → (complete : List (List ℕ)) → Stands values item complete writer' line' → Stands values item (complete ++ take used line'' ∷ []) writer'' line'') →
    Fills (take used line'' ∷ []) g y h z (Ok tt) → Putting item writer line writer'' line'' f x h z
putting-goes_on item writer line writer' line' writer'' line'' used f x g y h z before fills blank listed wrote = record {
  written = before.written ++ take used line'' ∷ [];
  stores = fills-behind before.written (take used line'' ∷ []) f g h x y z (Ok tt) before.stores wrote;
  stands = λ values complete stands.
      subst (λ (lines : List (List ℕ)). Stands values item lines writer'' line'') (append_assoc complete before.written (take used line'' ∷ []))
      (listed values (complete ++ before.written) (before.stands values complete stands));
  within = fills.within;
  blank = blank;
}

pub putting-refused :
    (item : ListedValue) (writer : ListWriter) (line : List ℕ) (writer' : ListWriter) (line' : List ℕ) (writer'' : ListWriter) (line'' : List ℕ) (used : ℕ) (left : ListWriter) (left_line : List ℕ)
    (f : FileRecords) (x : List Object) (g : FileRecords) (y : List Object) (h : FileRecords) (z : List Object) (refusal : RecordRefusal) → Putting item writer line writer' line' f x g y →
    ((values : List ListedValue) → (complete : List (List ℕ)) → Stands values item complete writer' line' → Stands values item (complete ++ take used line'' ∷ []) writer'' line'') →
    Fills (take used line'' ∷ []) g y h z (Err refusal) → PutsValue item writer line left left_line f x h z (Err refusal)
putting-refused item writer line writer' line' writer'' line'' used left left_line f x g y h z refusal before listed refused = record {
  lines = before.written ++ take used line'' ∷ [];
  stores = fills-behind before.written (take used line'' ∷ []) f g h x y z (Err refusal) before.stores refused;
  makes = λ values complete stands.
      let now : Stands values item ((complete ++ before.written) ++ take used line'' ∷ []) writer'' line'' =
      listed values (complete ++ before.written) (before.stands values complete stands) in
      let rest : List (List ℕ) = (followed_by (only (making_of writer'' line'')) (drop (done_by writer'') (shown item))).complete in (
        rest,
        ap (λ (out : Listing). out.complete) (sym now.output)
            ∙ leftover (record { complete = (complete ++ before.written) ++ take used line'' ∷ []; making = making_of writer'' line'' }) (drop (done_by writer'') (shown item))
            ∙ ap (λ (lines : List (List ℕ)). lines ++ rest) (append_assoc complete before.written (take used line'' ∷ [])),
      );
  whole = tt;
}

pub putting-placed :
    (item : ListedValue) (writer : ListWriter) (line : List ℕ) (writer' : ListWriter) (line' : List ℕ) (writer'' : ListWriter) (line'' : List ℕ)
    (f : FileRecords) (x : List Object) (g : FileRecords) (y : List Object) →
    Putting item writer line writer' line' f x g y → Places writer' line' (shown item) writer'' line'' →
    ((values : List ListedValue) → (complete : List (List ℕ)) → Stands values item complete writer' line' →
    listing (values ++ item ∷ []) ≡ record { complete = complete; making = making_of writer'' line'' }) → PutsValue item writer line writer'' line'' f x g y (Ok tt)
putting-placed item writer line writer' line' writer'' line'' f x g y before places listed = record {
  lines = before.written;
  stores = before.stores;
  makes = λ values complete stands. listed values (complete ++ before.written) (before.stands values complete stands);
  whole = places.starts;
}

-- ## Items

-- some items are put, and the lines so far are stored
pub record PuttingItems (read : List ListedValue) (writer : ListWriter) (line : List ℕ) (writer' : ListWriter) (line' : List ℕ)
    (file : FileRecords) (objects : List Object) (file' : FileRecords) (objects' : List Object) : Type 0 where
  pub lines : List (List ℕ)
  pub stores : Fills lines file objects file' objects' (Ok tt)
  pub makes : (values : List ListedValue) → (complete : List (List ℕ)) → listing values ≡ record { complete = complete; making = making_of writer line } →
      listing (values ++ read) ≡ record { complete = complete ++ lines; making = making_of writer' line' }
  pub whole : done_by writer' ≡ 0

pub items-start : (writer : ListWriter) (line : List ℕ) (file : FileRecords) (objects : List Object) → done_by writer ≡ 0 → PuttingItems [] writer line writer line file objects file objects
items-start writer line file objects whole = record {
  lines = [];
  stores = fills-nothing file objects;
  makes = λ values complete is.
      ap listing (append-nil values) ∙ is ∙ listing-of complete (complete ++ []) (making_of writer line) (sym (append-nil complete));
  whole = whole;
}

pub items-go_on :
    (read : List ListedValue) (item : ListedValue) (writer : ListWriter) (line : List ℕ) (writer' : ListWriter) (line' : List ℕ) (writer'' : ListWriter) (line'' : List ℕ)
    (f : FileRecords) (x : List Object) (g : FileRecords) (y : List Object) (h : FileRecords) (z : List Object) →
    PuttingItems read writer line writer' line' f x g y → PutsValue item writer' line' writer'' line'' g y h z (Ok tt) → PuttingItems (read ++ item ∷ []) writer line writer'' line'' f x h z
items-go_on read item writer line writer' line' writer'' line'' f x g y h z before put = record {
  lines = before.lines ++ put.lines;
  stores = fills-behind before.lines put.lines f g h x y z (Ok tt) before.stores put.stores;
  makes = λ values complete is.
      let stands : Stands (values ++ read) item (complete ++ before.lines) writer' line' =
      stands-next (values ++ read) item (complete ++ before.lines) writer' line' (before.makes values complete is) before.whole in
      ap listing (sym (append_assoc values read (item ∷ []))) ∙ put.makes (values ++ read) (complete ++ before.lines) stands
      ∙ listing-of ((complete ++ before.lines) ++ put.lines) (complete ++ (before.lines ++ put.lines)) (making_of writer'' line'') (append_assoc complete before.lines put.lines);
  whole = put.whole;
}

items-done :
    (read all : List ListedValue) (writer : ListWriter) (line : List ℕ) (writer' : ListWriter) (line' : List ℕ) (f : FileRecords) (x : List Object) (g : FileRecords) (y : List Object) → read ≡ all →
    PuttingItems read writer line writer' line' f x g y → PutsItems all writer line writer' line' f x g y (Ok tt)
items-done read all writer line writer' line' f x g y same before =
    subst (λ (items : List ListedValue). PutsItems items writer line writer' line' f x g y (Ok tt)) same
    (record { lines = before.lines; stores = before.stores; makes = before.makes; whole = before.whole })

items-refused :
    (read : List ListedValue) (item : ListedValue) (later all : List ListedValue) (writer : ListWriter) (line : List ℕ) (writer' : ListWriter) (line' : List ℕ) (writer'' : ListWriter) (line'' : List ℕ)
    (f : FileRecords) (x : List Object) (g : FileRecords) (y : List Object) (h : FileRecords) (z : List Object) (refusal : RecordRefusal) → all ≡ (read ++ item ∷ []) ++ later →
    PuttingItems read writer line writer' line' f x g y → PutsValue item writer' line' writer'' line'' g y h z (Err refusal) → PutsItems all writer line writer'' line'' f x h z (Err refusal)
items-refused read item later all writer line writer' line' writer'' line'' f x g y h z refusal is before put = record {
  lines = before.lines ++ put.lines;
  stores = fills-behind before.lines put.lines f g h x y z (Err refusal) before.stores put.stores;
  makes = λ values complete begins.
      let stands : Stands (values ++ read) item (complete ++ before.lines) writer' line' =
      stands-next (values ++ read) item (complete ++ before.lines) writer' line' (before.makes values complete begins) before.whole in
      let made : (rest : List (List ℕ)) × ((listing ((values ++ read) ++ item ∷ [])).complete ≡ ((complete ++ before.lines) ++ put.lines) ++ rest) =
      put.makes (values ++ read) (complete ++ before.lines) stands in
      let more : (rest : List (List ℕ)) × ((listing (((values ++ read) ++ item ∷ []) ++ later)).complete ≡ (listing ((values ++ read) ++ item ∷ [])).complete ++ rest) =
      further ((values ++ read) ++ item ∷ []) later in (
        made.0 ++ more.0,
        ap (λ (items : List ListedValue). (listing (values ++ items)).complete) is
            ∙ ap (λ (items : List ListedValue). (listing items).complete) (regroup values read (item ∷ []) later)
            ∙ more.1 ∙ ap (λ (lines : List (List ℕ)). lines ++ more.0) made.1
            ∙ lines-regroup complete before.lines put.lines made.0 more.0,
      );
  whole = tt;
}
  where
    regroup : (values read one later : List ListedValue) → values ++ ((read ++ one) ++ later) ≡ ((values ++ read) ++ one) ++ later
    regroup values read one later =
        sym (append_assoc values (read ++ one) later) ∙ ap (λ (front : List ListedValue). front ++ later) (sym (append_assoc values read one))

    lines-regroup : (complete front back rest more : List (List ℕ)) → (((complete ++ front) ++ back) ++ rest) ++ more ≡ (complete ++ (front ++ back)) ++ (rest ++ more)
    lines-regroup complete front back rest more =
        append_assoc ((complete ++ front) ++ back) rest more ∙ ap (λ (lines : List (List ℕ)). lines ++ (rest ++ more)) (append_assoc complete front back)

-- ## The items that some bytes hold

-- some items are put, those from a byte on are left
pub record PuttingBytes (kind : ItemKind) (size count number done : ℕ) (bytes : List ℕ) (writer : ListWriter) (line : List ℕ) (writer' : ListWriter) (line' : List ℕ)
    (file : FileRecords) (objects : List Object) (file' : FileRecords) (objects' : List Object) : Type 0 where
  pub read : List ListedValue
  pub whole : values_in kind size count bytes ≡ read ++ values_in kind size (count - number) (drop done bytes)
  pub left : done + (count - number) * size ≡ length bytes
  pub puts : PuttingItems read writer line writer' line' file objects file' objects'

pub bytes-start : (kind : ItemKind) (size count : ℕ) (bytes : List ℕ) (writer : ListWriter) (line : List ℕ) (file : FileRecords) (objects : List Object) → length bytes ≡ count * size → done_by writer ≡ 0 →
    PuttingBytes kind size count 0 0 bytes writer line writer line file objects file objects
bytes-start kind size count bytes writer line file objects long whole =
    let all : count - 0 ≡ count = omega arith in
    record {
      read = [];
      whole = ap (λ (n : ℕ). values_in kind size n bytes) (sym all);
      left = (let sum : 0 + count * size ≡ length bytes = omega arith in ap (λ (n : ℕ). 0 + n * size) all ∙ sum);
      puts = items-start writer line file objects whole;
    }

record OneMore (kind : ItemKind) (size count number done : ℕ) (bytes : List ℕ) (read : List ListedValue) (value : ListedValue) : Type 0 where
  whole : values_in kind size count bytes ≡ (read ++ value ∷ []) ++ values_in kind size (count - (number + 1)) (drop (done + size) bytes)
  left : (done + size) + (count - (number + 1)) * size ≡ length bytes

one-more : (kind : ItemKind) (size count number done : ℕ) (bytes : List ℕ) (read : List ListedValue) (value : ListedValue) → number < count → value ≡ value_in kind (take size (drop done bytes)) →
    values_in kind size count bytes ≡ read ++ values_in kind size (count - number) (drop done bytes) → done + (count - number) * size ≡ length bytes → OneMore kind size count number done bytes read value
one-more kind size count number done bytes read value more is whole left =
    let one : count - number ≡ suc (count - (number + 1)) = omega arith in
    let sum : suc (count - (number + 1)) * size ≡ size + (count - (number + 1)) * size = omega arith in
    let all : done + (size + (count - (number + 1)) * size) ≡ length bytes = ap (λ (n : ℕ). done + n) (sym sum) ∙ ap (λ (n : ℕ). done + n * size) (sym one) ∙ left in
    record {
      whole = whole ∙ ap (λ (n : ℕ). read ++ values_in kind size n (drop done bytes)) one
          ∙ ap (λ (first : ListedValue). read ++ first ∷ values_in kind size (count - (number + 1)) (drop size (drop done bytes))) (sym is)
          ∙ ap (λ (text : List ℕ). read ++ value ∷ values_in kind size (count - (number + 1)) text) (drop-drop size done bytes)
          ∙ sym (append_assoc read (value ∷ []) (values_in kind size (count - (number + 1)) (drop (done + size) bytes)));
      left = omega arith;
    }

pub bytes-go_on :
    (kind : ItemKind) (size count number done : ℕ) (bytes : List ℕ) (value : ListedValue) (writer : ListWriter) (line : List ℕ) (writer' : ListWriter) (line' : List ℕ) (writer'' : ListWriter) (line'' : List ℕ)
    (f : FileRecords) (x : List Object) (g : FileRecords) (y : List Object) (h : FileRecords) (z : List Object) → number < count → value ≡ value_in kind (take size (drop done bytes)) →
    PuttingBytes kind size count number done bytes writer line writer' line' f x g y → PutsValue value writer' line' writer'' line'' g y h z (Ok tt) →
    PuttingBytes kind size count (number + 1) (done + size) bytes writer line writer'' line'' f x h z
bytes-go_on kind size count number done bytes value writer line writer' line' writer'' line'' f x g y h z more is before put =
    let next : OneMore kind size count number done bytes before.read value = one-more kind size count number done bytes before.read value more is before.whole before.left in
    record {
      read = before.read ++ value ∷ [];
      whole = next.whole;
      left = next.left;
      puts = items-go_on before.read value writer line writer' line' writer'' line'' f x g y h z before.puts put;
    }

pub bytes-refused :
    (kind : ItemKind) (size count number done : ℕ) (bytes : List ℕ) (value : ListedValue) (writer : ListWriter) (line : List ℕ) (writer' : ListWriter) (line' : List ℕ) (writer'' : ListWriter) (line'' : List ℕ)
    (f : FileRecords) (x : List Object) (g : FileRecords) (y : List Object) (h : FileRecords) (z : List Object) (refusal : RecordRefusal) → number < count →
    value ≡ value_in kind (take size (drop done bytes)) → PuttingBytes kind size count number done bytes writer line writer' line' f x g y →
    PutsValue value writer' line' writer'' line'' g y h z (Err refusal) → PutsItems (values_in kind size count bytes) writer line writer'' line'' f x h z (Err refusal)
bytes-refused kind size count number done bytes value writer line writer' line' writer'' line'' f x g y h z refusal more is before put =
    let next : OneMore kind size count number done bytes before.read value = one-more kind size count number done bytes before.read value more is before.whole before.left in
    items-refused before.read value (values_in kind size (count - (number + 1)) (drop (done + size) bytes)) (values_in kind size count bytes) writer line writer' line' writer'' line'' f x g y h z refusal
    next.whole before.puts put

pub bytes-done :
    (kind : ItemKind) (size count number done : ℕ) (bytes : List ℕ) (writer : ListWriter) (line : List ℕ) (writer' : ListWriter) (line' : List ℕ) (f : FileRecords) (x : List Object) (g : FileRecords) (y : List Object) →
    number ≡ count → PuttingBytes kind size count number done bytes writer line writer' line' f x g y → PutsItems (values_in kind size count bytes) writer line writer' line' f x g y (Ok tt)
bytes-done kind size count number done bytes writer line writer' line' f x g y all before =
    let none : count - number ≡ 0 = omega arith in
    items-done before.read (values_in kind size count bytes) writer line writer' line' f x g y
    (sym (before.whole ∙ ap (λ (n : ℕ). before.read ++ values_in kind size n (drop done bytes)) none ∙ append-nil before.read)) before.puts
