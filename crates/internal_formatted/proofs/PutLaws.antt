-- The items of a call, one by one.
use Rattle.std.proofs.Common.{◌≡◌, ℕ, ℤ, suc, pos, negsuc, List, Option, refl, ap, sym, ◌∙◌, subst}
use Rattle.std.specs.Prelude.{None, Result, Ok, Err}
use Rattle.c_tree.specs.run_state.Units.{Units}
use Rattle.c_tree.specs.declared.outcome.CValue.{CValue}
use Rattle.c_tree.specs.Faults.{Or, after, failing}
use Rattle.c_tree.specs.Objects.{Object}
use Rattle.c_tree.specs.World.{Transfer, World, Reply}
use Rattle.c_tree.specs.LibraryArguments.{shifted}
use Rattle.c_tree.specs.Transfers.{Passage, numbered}
use Rattle.c_tree.specs.TransferOutput.{formatted_put}
use Rattle.c_tree.specs.TransferCalls.{each_item, then_later}
use Rattle.edit_rules.specs.edit_meaning.Formats.{Format}
use Rattle.edit_rules.specs.Walks.{StandsIn}
use Rattle.item_deeds.specs.Forms.{SameForms}
use Rattle.item_deeds.proofs.FormLaws.{same-objects}
use Rattle.unit_answers.specs.Answers.{world_with}
use Rattle.listed_output.specs.Items.{StandsThere}
use Rattle.internal_output.specs.declared.files.RecordRefusal.TheVariants.{UsedUp, TooLong, Faulty}
use Rattle.internal_output.proofs.FileLaws.{forms-behind}
use Rattle.internal_formatted.specs.declared.calls.InternalFormatted.{InternalFormatted}
use Rattle.internal_formatted.specs.declared.acts.Stop.{Stop}
use Rattle.internal_formatted.specs.declared.acts.Stop.TheVariants as stop
use Rattle.internal_formatted.specs.Transferring.{Going, WithRecords}
use Rattle.internal_formatted.specs.Putting.{SameOutput, PutsOn, Answered, ItemMeans, PutsItem, Numbered, ItemsMean, PutsItems}

-- the transfer once some items are put, and those from a pointer on that are left
pub record Along (text : List ℕ) (output : InternalFormatted) (format : Format) (meaning : Or Reply) (objects : List Object) (going : Option Transfer) (units : Units) (size left : ℕ) (pointer : CValue) : Type 0 where
  pub transfer : Transfer
  pub stands : Going text output transfer
  pub same : stands.format ≡ format
  pub means : meaning ≡ each_item size (formatted_put format size) left pointer transfer (world_with objects going units)

pub record Putting (text : List ℕ) (first_output output : InternalFormatted) (count size : ℕ) (first : CValue) (left : ℕ) (pointer : CValue) (old now : List Object) : Type 0 where
  pub same : SameOutput first_output output
  pub inside : StandsIn output.walk text
  pub forms : SameForms old now
  pub means : (units : Units) → (transfer : Transfer) → (stands : Going text first_output transfer) → (going : Option Transfer) →
      Along text output stands.format (each_item size (formatted_put stands.format size) count first transfer (world_with old going units)) now going units size left pointer

pub putting-starts : (text : List ℕ) (output : InternalFormatted) (count size : ℕ) (first : CValue) (left : ℕ) (objects : List Object) → left ≡ count → StandsIn output.walk text →
    Putting text output output count size first left first objects objects
putting-starts text output count size first left objects all inside = record {
  same = record { on_error = refl; on_end = refl };
  inside = inside;
  forms = same-objects objects;
  means = λ units transfer stands going. record {
    transfer = transfer;
    stands = stands;
    same = refl;
    means = ap (λ (n : ℕ). each_item size (formatted_put stands.format size) n first transfer (world_with objects going units)) (sym all);
  };
}

same-then : (a b c : InternalFormatted) → SameOutput a b → SameOutput b c → SameOutput a c
same-then a b c one two = record { on_error = two.on_error ∙ one.on_error; on_end = two.on_end ∙ one.on_end }

-- what the next item means, under the format of the call
next-means :
    (text : List ℕ) (output output' : InternalFormatted) (format : Format) (pointer : CValue) (size : ℕ) (now next : List Object) (units : Units) (result : Result (Unit {0}) Stop) (transfer : Transfer)
    (going : Option Transfer) → (stands : Going text output transfer) → stands.format ≡ format →
    ItemMeans (formatted_put stands.format size pointer transfer (world_with now going units)) pointer size next going units text stands.format output output' result →
    ItemMeans (formatted_put format size pointer transfer (world_with now going units)) pointer size next going units text format output output' result
next-means text output output' format pointer size now next units result transfer going stands same means =
    subst (λ (one : Format). ItemMeans (formatted_put one size pointer transfer (world_with now going units)) pointer size next going units text one output output' result) same means

-- the items from the next on
from-next : (format : Format) (size left less : ℕ) (pointer : CValue) (transfer : Transfer) (world : World) (passage : Or Passage) → left ≡ suc less →
    formatted_put format size pointer transfer world ≡ passage →
    each_item size (formatted_put format size) left pointer transfer world
    ≡ after passage (λ one. then_later one (λ changed after_it. each_item size (formatted_put format size) less (shifted size pointer) changed after_it))
from-next format size left less pointer transfer world passage more is =
    ap (λ (n : ℕ). each_item size (formatted_put format size) n pointer transfer world) more
    ∙ ap (λ (one : Or Passage). after one (λ one. then_later one (λ changed after_it. each_item size (formatted_put format size) less (shifted size pointer) changed after_it))) is

pub putting-goes_on :
    (text : List ℕ) (first_output output output' : InternalFormatted) (count size : ℕ) (first : CValue) (left less : ℕ) (pointer further : CValue) (old now next : List Object) →
    left ≡ suc less → (StandsThere size next pointer → further ≡ shifted size pointer) → PutsItem text output output' pointer size now next (Ok tt) →
    Putting text first_output output count size first left pointer old now → Putting text first_output output' count size first less further old next
putting-goes_on text first_output output output' count size first left less pointer further old now next more moved puts before = record {
  same = same-then first_output output output' before.same puts.same;
  inside = puts.inside;
  forms = forms-behind old now next before.forms puts.forms;
  means = λ units transfer stands going.
      let along = before.means units transfer stands going in
      let put : PutsOn (formatted_put stands.format size pointer along.transfer (world_with now going units)) pointer size next going units text stands.format output' =
      next-means text output output' stands.format pointer size now next units (Ok tt) along.transfer going along.stands along.same (puts.means units along.transfer along.stands going) in
      record {
        transfer = put.transfer;
        stands = put.stands;
        same = put.same;
        means = along.means
            ∙ from-next stands.format size left less pointer along.transfer (world_with now going units) _ more put.means
            ∙ ap (λ (at : CValue). each_item size (formatted_put stands.format size) less at put.transfer (world_with next going units)) (sym (moved put.there));
      };
}

pub putting-ends :
    (text : List ℕ) (first_output output : InternalFormatted) (count size : ℕ) (first : CValue) (left : ℕ) (pointer : CValue) (old now : List Object) → left ≡ 0 →
    Putting text first_output output count size first left pointer old now → PutsItems text first_output output count size first old now (Ok tt)
putting-ends text first_output output count size first left pointer old now none before = record {
  same = before.same;
  inside = before.inside;
  forms = before.forms;
  means = λ units transfer stands going.
      let along = before.means units transfer stands going in
      record {
        transfer = along.transfer;
        stands = WithRecords along.stands;
        replies = along.means ∙ ap (λ (n : ℕ). each_item size (formatted_put stands.format size) n pointer along.transfer (world_with now going units)) none;
      };
}

numbered-then :
    (now next : List Object) (going : Option Transfer) (units : Units) (first_output output : InternalFormatted) (format : Format) (size left less : ℕ) (pointer : CValue)
    (transfer : Transfer) (meaning : Or Reply) (number : ℤ) → SameOutput first_output output → left ≡ suc less →
    meaning ≡ each_item size (formatted_put format size) left pointer transfer (world_with now going units) →
    Answered (formatted_put format size pointer transfer (world_with now going units)) next going units output number → Numbered meaning next units first_output number
numbered-then now next going units first_output output format size left less pointer transfer meaning number same more is answered =
    is ∙ from-next format size left less pointer transfer (world_with now going units) _ more answered
    ∙ ap (λ (n : ℤ). Ok (numbered number n output.on_end (world_with next None units))) same.on_error
    ∙ ap (λ (n : ℤ). Ok (numbered number first_output.on_error n (world_with next None units))) same.on_end

stopped-then :
    (text : List ℕ) (now next : List Object) (going : Option Transfer) (units : Units) (first_output output output' : InternalFormatted) (format : Format) (size left less : ℕ) (pointer : CValue)
    (transfer : Transfer) (meaning : Or Reply) (why : Stop) → SameOutput first_output output → left ≡ suc less →
    meaning ≡ each_item size (formatted_put format size) left pointer transfer (world_with now going units) →
    ItemMeans (formatted_put format size pointer transfer (world_with now going units)) pointer size next going units text format output output' (Err why) →
    ItemsMean meaning next units text first_output output' (Err why)
stopped-then text now next going units first_output output output' format size left less pointer transfer meaning (stop.Number number) same more is means =
    numbered-then now next going units first_output output format size left less pointer transfer meaning number same more is means
stopped-then text now next going units first_output output output' format size left less pointer transfer meaning (stop.Refused UsedUp) same more is means =
    numbered-then now next going units first_output output format size left less pointer transfer meaning (negsuc 0) same more is means
stopped-then text now next going units first_output output output' format size left less pointer transfer meaning (stop.Refused TooLong) same more is means =
    numbered-then now next going units first_output output format size left less pointer transfer meaning (pos 5) same more is means
stopped-then text now next going units first_output output output' format size left less pointer transfer meaning (stop.Refused (Faulty fault)) same more is means =
    is ∙ from-next format size left less pointer transfer (world_with now going units) (failing fault) more means
stopped-then text now next going units first_output output output' format size left less pointer transfer meaning (stop.Fault fault) same more is means =
    is ∙ from-next format size left less pointer transfer (world_with now going units) (failing fault) more means

pub putting-stops :
    (text : List ℕ) (first_output output output' : InternalFormatted) (count size : ℕ) (first : CValue) (left less : ℕ) (pointer : CValue) (old now next : List Object) (why : Stop) →
    left ≡ suc less → PutsItem text output output' pointer size now next (Err why) →
    Putting text first_output output count size first left pointer old now → PutsItems text first_output output' count size first old next (Err why)
putting-stops text first_output output output' count size first left less pointer old now next why more puts before = record {
  same = same-then first_output output output' before.same puts.same;
  inside = puts.inside;
  forms = forms-behind old now next before.forms puts.forms;
  means = λ units transfer stands going.
      let along = before.means units transfer stands going in
      stopped-then text now next going units first_output output output' stands.format size left less pointer along.transfer
      (each_item size (formatted_put stands.format size) count first transfer (world_with old going units)) why before.same more along.means
      (next-means text output output' stands.format pointer size now next units (Err why) along.transfer going along.stands along.same
      (puts.means units along.transfer along.stands going));
}
