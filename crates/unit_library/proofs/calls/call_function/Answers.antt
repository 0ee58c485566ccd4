use Rattle.unit_library.specs.declared.functions.LibraryFunction.TheVariants as named
use Rattle.unit_library.proofs.SameCalls.{function-as}
use Rattle.unit_library.proofs.calls.call_function.Goals as goal

pub returns-in-Assign : goal.returns-in-Assign
returns-in-Assign g c = function-as c.args.function named.Assign c.args.values.now _ _ _ _ _ _ _ c.in-Assign.is (c.assign.ensures _ _)

pub returns-in-Join : goal.returns-in-Join
returns-in-Join g c = function-as c.args.function named.Join c.args.values.now _ _ _ _ _ _ _ c.in-Join.is (c.join.ensures _ _)

pub returns-in-Texts : goal.returns-in-Texts
returns-in-Texts g c = function-as c.args.function (named.Texts c.in-Texts.which) c.args.values.now _ _ _ _ _ _ _ c.in-Texts.is (c.texts.ensures _ _)

pub returns-in-Numbers : goal.returns-in-Numbers
returns-in-Numbers g c = function-as c.args.function (named.Numbers c.in-Numbers.which) c.args.values.now _ _ _ _ _ _ _ c.in-Numbers.is (c.numbers.ensures _ _)

pub returns-in-Complement : goal.returns-in-Complement
returns-in-Complement g c = function-as c.args.function named.Complement c.args.values.now _ _ _ _ _ _ _ c.in-Complement.is (c.complement.ensures _ _)

pub returns-in-Stop : goal.returns-in-Stop
returns-in-Stop g c = function-as c.args.function named.Stop c.args.values.now _ _ _ _ _ _ _ c.in-Stop.is (c.stop.ensures _ _)

pub returns-in-Range : goal.returns-in-Range
returns-in-Range g c = function-as c.args.function named.Range c.args.values.now _ _ _ _ _ _ _ c.in-Range.is (c.range.ensures _ _)

pub returns-in-Begin : goal.returns-in-Begin
returns-in-Begin g c = function-as c.args.function (named.Begin c.in-Begin.which) c.args.values.now _ _ _ _ _ _ _ c.in-Begin.is c.begin.ensures

pub returns-in-Finish : goal.returns-in-Finish
returns-in-Finish g c = function-as c.args.function (named.Finish c.in-Finish.which) c.args.values.now _ _ _ _ _ _ _ c.in-Finish.is c.finish.ensures

pub returns-in-FormattedItems : goal.returns-in-FormattedItems
returns-in-FormattedItems g c = function-as c.args.function named.FormattedItems c.args.values.now _ _ _ _ _ _ _ c.in-FormattedItems.is c.formatted_items.ensures

pub returns-in-ListedItems : goal.returns-in-ListedItems
returns-in-ListedItems g c = function-as c.args.function named.ListedItems c.args.values.now _ _ _ _ _ _ _ c.in-ListedItems.is c.listed_items.ensures

pub returns-in-Statement : goal.returns-in-Statement
returns-in-Statement g c = function-as c.args.function (named.Statement c.in-Statement.which) c.args.values.now _ _ _ _ _ _ _ c.in-Statement.is c.statement.ensures
