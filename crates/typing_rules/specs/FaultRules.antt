-- What is wrong with a tree, by one rule at a time and without order; and which fault is answered.
use Rattle.std.specs.Prelude.{◌≡◌, ℕ, ◌+◌, ◌==◌, ◌<◌, ◌≤◌, true, false, ◌⊎◌, length, is_some, Result, Ok, Err, codes}
use Rattle.std.specs.List.{Contains}
use Rattle.spec_core.specs.Limits.{most_nodes, greatest_literal}
use Rattle.spec_core.specs.Specification.{Specification}
use Rattle.spec_core.specs.Typed.{is_sort, same_sort}
use Rattle.spec_trees.specs.declared.tree.Mark.{Mark}
use Rattle.spec_trees.specs.declared.tree.Figure.{Figure}
use Rattle.spec_trees.specs.declared.tree.Reading.{Reading}
use Rattle.spec_trees.specs.Form.{Form, TreeForm}
use Rattle.spec_trees.specs.Spelling.{tree}
use Rattle.spec_trees.specs.Place.{IsPlaced}
use Rattle.typing_rules.specs.declared.which.Which.{Which}
use Rattle.typing_rules.specs.declared.which.Which.TheVariants as which
use Rattle.typing_rules.specs.Fault.{Fault, unknown_fault, twice_fault, kind_fault, count_fault, limit_fault}
use Rattle.typing_rules.specs.Scope.{Scope, in_scope}
use Rattle.typing_rules.specs.Terms.{sort_named}
use Rattle.typing_rules.specs.Formulas.{node_count, first_word}
use Rattle.typing_rules.specs.Items.{Known}
use Rattle.typing_rules.specs.Sites.{Need, meets, Site, declared, used, applied, one_more, formula, literal, stated, compared, claimed_exists, rule_variable, rule_place, first_place_sort, sites_of, specification_of}

-- The rules: what is wrong with what stands at a word.
pub data IsWrong : Site → Fault → Type 0 where
  -- A name that is used and isn't in scope is unknown.
  not_in_scope : (sc : Scope) (need : Need) (m : Mark) → in_scope sc m.text ≡ false
      → IsWrong (used sc need m) (unknown_fault m.text m.word)
  -- A name that is declared while it is in scope is declared twice.
  in_scope_already : (sc : Scope) (m : Mark) → in_scope sc m.text ≡ true
      → IsWrong (declared sc m) (twice_fault m.text m.word)
  -- An initial value is stated twice for a name that is in scope.
  stated_already : (k : Known) (m : Mark) → is_some (k.names m.text) ≡ true
      → is_some (k.stated m.text) ≡ true → IsWrong (stated k m) (twice_fault m.text m.word)
  -- A name that is in scope and isn't what it has to be is of a wrong kind.
  not_as_needed : (sc : Scope) (need : Need) (m : Mark) → in_scope sc m.text ≡ true
      → meets sc need m.text ≡ false → IsWrong (used sc need m) (kind_fault m.text m.word)
  -- Where two elements are compared that are of two sorts, the right one is of a wrong kind.
  of_two_sorts : (sc : Scope) (a b : Mark)
      → same_sort (sort_named sc a.text) (sort_named sc b.text) ≡ false
      → IsWrong (compared sc a b) (kind_fault b.text b.word)
  -- An invariant that begins with `exists` is of a wrong kind.
  not_for_all : (word : ℕ) → IsWrong (claimed_exists word) (kind_fault (codes "exists") word)
  -- A name of the whole specification is of a wrong kind in the place of a rule variable.
  global_in_rule : (k : Known) (m : Mark) → is_some (k.names m.text) ≡ true
      → IsWrong (rule_variable k m) (kind_fault m.text m.word)
  -- A rule variable is of a wrong kind at a place of another sort than that of its first place
  -- in the rule.
  at_two_sorts : (k : Known) (p q : Reading) (s : ℕ) (m : Mark)
      → is_sort (first_place_sort k p q m.text) s ≡ false
      → IsWrong (rule_place k p q s m) (kind_fault m.text m.word)
  -- A relation, counter or token needs as many arguments, spots or pattern names as it has places
  -- or keys.
  wrong_number : (places n : ℕ) (m : Mark) → (places == n) ≡ false
      → IsWrong (applied places n m) (count_fault m.text m.word)
  -- One thing more is too many where there are as many as there may be.
  one_too_many : (what : Which) (most n word : ℕ) → most ≤ n
      → IsWrong (one_more what most n word) (limit_fault what (most + 1) word)
  -- A formula has too many nodes.
  too_many_nodes : (f : Form) → most_nodes < node_count f
      → IsWrong (formula f) (limit_fault which.Nodes (node_count f) (first_word f))
  -- A literal or coefficient is too large.
  too_large : (f : Figure) → greatest_literal < f.value
      → IsWrong (literal f) (limit_fault which.Literal f.value f.word)

-- A tree has a fault where something that stands in it is wrong.
abbrev pub HasFault : TreeForm → Fault → Type 0
HasFault t f = (s : Site) × Contains (sites_of t) s × IsWrong s f

-- ---- which fault is answered

-- the word at which a fault stands
abbrev pub word_of : Fault → ℕ
word_of (unknown_fault name word) = word
word_of (twice_fault name word) = word
word_of (kind_fault name word) = word
word_of (count_fault name word) = word
word_of (limit_fault what number word) = word

-- faults at one word come in the order unknown, twice, kind, count, limit
abbrev pub rank : Fault → ℕ
rank (unknown_fault name word) = 0
rank (twice_fault name word) = 1
rank (kind_fault name word) = 2
rank (count_fault name word) = 3
rank (limit_fault what number word) = 4

-- a fault is at an earlier word than another, or at the same word and comes earlier in that order
abbrev pub IsBefore : Fault → Fault → Type 0
IsBefore f g = (word_of f < word_of g) ⊎ ((word_of f ≡ word_of g) × (rank f < rank g))

-- The least fault of a tree: it is before every other.
pub record IsLeastFault (t : TreeForm) (f : Fault) : Type 0 where
  pub is_fault : HasFault t f
  pub least : (g : Fault) → HasFault t g → (f ≡ g) ⊎ IsBefore f g

-- nothing is wrong with a tree
abbrev pub HasNoFault : TreeForm → Type 0
HasNoFault t = (f : Fault) → HasFault t f → ⊥

-- What is to be answered of a tree: what it declares, where it has no fault, and else its least fault.
abbrev pub IsTypingOf : TreeForm → Result Specification Fault → Type 0
IsTypingOf t (Ok d) = HasNoFault t × (d ≡ specification_of t)
IsTypingOf t (Err f) = IsLeastFault t f

-- A tree as it stands in a text: each place in it is that of its word, and it has at most 2^32 words.
pub record IsWritten (t : TreeForm) : Type 0 where
  pub placed : IsPlaced 0 (tree t)
  pub few : length (tree t) ≤ 4294967296
