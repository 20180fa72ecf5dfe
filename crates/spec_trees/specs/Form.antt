-- Trees as plain data, wherever they lie in memory.
use Rattle.std.specs.Prelude.{ℕ, Option, Some, None, List, map}
use Rattle.parser_combinators.specs.declared.token.Version.{Version}
use Rattle.spec_trees.specs.declared.tree.Mark.{Mark}
use Rattle.spec_trees.specs.declared.tree.Reading.{Reading}
use Rattle.spec_trees.specs.declared.tree.Term.{Term}
use Rattle.spec_trees.specs.declared.tree.Comparison.{Comparison}
use Rattle.spec_trees.specs.declared.tree.Connective.{Connective}
use Rattle.spec_trees.specs.declared.tree.Value.{Value}
use Rattle.spec_trees.specs.declared.tree.Param.{Param}
use Rattle.spec_trees.specs.declared.tree.Spot.{Spot}
use Rattle.spec_trees.specs.declared.tree.Mode.{Mode}
use Rattle.spec_trees.specs.declared.tree.Prefix.{Prefix}
use Rattle.spec_trees.specs.declared.tree.Prefixed.{Prefixed}
use Rattle.spec_trees.specs.declared.tree.Formula.{Formula, True, False, Not', Connect', Has, Compare}
use Rattle.spec_trees.specs.declared.tree.Line.{Line}
use Rattle.spec_trees.specs.declared.tree.Line.TheVariants as line
use Rattle.spec_trees.specs.declared.tree.Item.{Item}
use Rattle.spec_trees.specs.declared.tree.Item.TheVariants as item
use Rattle.spec_trees.specs.declared.tree.Tree.{Tree}

-- a formula, with the place of its first word
pub data Form : Type 0 where
  true_form : ℕ → Form
  false_form : ℕ → Form
  not_form : ℕ → Form → Form
  connect_form : ℕ → Form → Connective → Form → Form
  has_form : ℕ → Reading → Form
  compare_form : ℕ → Term → Comparison → Term → Form

-- a formula with its variables
pub record Sentence : Type 0 where
  pub prefix : Option Prefix
  pub body : Form

-- a line of an operation, with the place of its first word
pub data LineForm : Type 0 where
  requires_form : ℕ → Sentence → LineForm
  insert_form : ℕ → Mark → List Spot → Option Form → LineForm
  remove_form : ℕ → Mark → List Spot → Option Form → LineForm
  add_form : ℕ → Mark → List Spot → Term → Option Form → LineForm
  set_form : ℕ → Mark → List Spot → Term → Option Form → LineForm
  takes_form : ℕ → Reading → Mode → LineForm
  observes_form : ℕ → Sentence → LineForm

-- an item of a specification, with the place of its first word
pub data ItemForm : Type 0 where
  sort_form : ℕ → Mark → ItemForm
  const_form : ℕ → Mark → Mark → ItemForm
  relation_form : ℕ → Mark → List Mark → ItemForm
  counter_form : ℕ → Mark → List Mark → ItemForm
  initially_form : ℕ → Mark → Value → ItemForm
  token_form : ℕ → Mark → List Mark → ItemForm
  conflict_form : ℕ → Reading → Reading → ItemForm
  invariant_form : ℕ → Mark → Sentence → ItemForm
  operation_form : ℕ → Mark → List Param → List LineForm → ItemForm

-- a specification as it is written
pub record TreeForm : Type 0 where
  pub version : Version
  pub items : List ItemForm

-- a formula of the code, without the addresses of its parts
abbrev pub form_of : Formula → Form
form_of (True w) = true_form w
form_of (False w) = false_form w
form_of (Not' w l f) = not_form w (form_of f)
form_of (Connect' w l f c m g) = connect_form w (form_of f) c (form_of g)
form_of (Has w r) = has_form w r
form_of (Compare w s c t) = compare_form w s.value c t.value

-- a condition of the code, without the addresses of its parts
abbrev pub guard_of : Option Formula → Option Form
guard_of None = None
guard_of (Some f) = Some (form_of f)

-- a formula of the code with its prefix, without the addresses of its parts
abbrev pub sentence_of : Prefixed → Sentence
sentence_of p = record { prefix = p.prefix; body = form_of p.body }

-- a line of the code, without the addresses of its parts
abbrev pub line_of : Line → LineForm
line_of (line.Requires w p) = requires_form w (sentence_of p)
line_of (line.Insert w m ss g) = insert_form w m ss (guard_of g)
line_of (line.Remove w m ss g) = remove_form w m ss (guard_of g)
line_of (line.Add w m ss t g) = add_form w m ss t (guard_of g)
line_of (line.Set w m ss t g) = set_form w m ss t (guard_of g)
line_of (line.Takes w r m) = takes_form w r m
line_of (line.Observes w p) = observes_form w (sentence_of p)

-- a declaration of the code, without the addresses of its parts
abbrev pub item_of : Item → ItemForm
item_of (item.Sort w m) = sort_form w m
item_of (item.Const w m s) = const_form w m s
item_of (item.Relation w m ps) = relation_form w m ps
item_of (item.Counter w m ps) = counter_form w m ps
item_of (item.Initially w m v) = initially_form w m v
item_of (item.Token w m ps) = token_form w m ps
item_of (item.Conflict w p q) = conflict_form w p q
item_of (item.Invariant w m p) = invariant_form w m (sentence_of p)
item_of (item.Operation w m ps ls) = operation_form w m ps (map line_of ls)

-- The tree of the code, without addresses: of this its clauses speak.
abbrev pub tree_of : Tree → TreeForm
tree_of t = record { version = t.version; items = map item_of t.items }
