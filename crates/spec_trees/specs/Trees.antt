-- Which trees the grammar has, and which trees differ in the places of their words alone.
use Rattle.std.specs.Prelude.{◌≡◌, ◌≤◌, ℕ, zero, suc, List, [], ◌∷◌, Option, Some, None, true}
use Rattle.std.specs.List.{AllByRecursion}
use Rattle.parser_combinators.specs.declared.token.Version.{Version}
use Rattle.parser_combinators.specs.declared.token.Version.TheVariants as version
use Rattle.spec_trees.specs.declared.tree.Mark.{Mark}
use Rattle.spec_trees.specs.declared.tree.Figure.{Figure}
use Rattle.spec_trees.specs.declared.tree.Reading.{Reading}
use Rattle.spec_trees.specs.declared.tree.Product.{Product}
use Rattle.spec_trees.specs.declared.tree.Product.TheVariants as products
use Rattle.spec_trees.specs.declared.tree.Summand.{Summand}
use Rattle.spec_trees.specs.declared.tree.Signed.{Signed}
use Rattle.spec_trees.specs.declared.tree.Term.{Term}
use Rattle.spec_trees.specs.declared.tree.Value.{Value}
use Rattle.spec_trees.specs.declared.tree.Value.TheVariants as values
use Rattle.spec_trees.specs.declared.tree.ParamKind.{ParamKind}
use Rattle.spec_trees.specs.declared.tree.ParamKind.TheVariants as kinds
use Rattle.spec_trees.specs.declared.tree.Param.{Param}
use Rattle.spec_trees.specs.declared.tree.Spot.{Spot}
use Rattle.spec_trees.specs.declared.tree.Spot.TheVariants as spots
use Rattle.spec_trees.specs.declared.tree.Mode.{Mode}
use Rattle.spec_trees.specs.declared.tree.Mode.TheVariants as modes
use Rattle.spec_trees.specs.declared.tree.Prefix.{Prefix}
use Rattle.spec_trees.specs.declared.tree.Variable.{Variable}
use Rattle.spec_trees.specs.Form.{Form, true_form, false_form, not_form, connect_form, has_form, compare_form, Sentence, LineForm, requires_form, insert_form, remove_form, add_form, set_form, takes_form, observes_form, ItemForm, sort_form, const_form, relation_form, counter_form, initially_form, token_form, conflict_form, invariant_form, operation_form, TreeForm}
use Rattle.parser_combinators.specs.Words.{plain, name_kind, is_name, AllSame, NotEmpty}
use Rattle.parser_combinators.specs.Texts.{AreWords}
use Rattle.spec_trees.specs.Spelling.{tree}

-- ---- which trees there are in a version

-- a name that the version leaves free
abbrev pub IsFree : Version → Mark → Type 0
IsFree v m = is_name v (name_kind m.text) ≡ true

-- the name of a reading and those of its arguments are free
abbrev pub ReadingFits : Version → Reading → Type 0
ReadingFits v r = IsFree v r.name × AllByRecursion (IsFree v) r.args

-- the names in a product are free
abbrev pub ProductFits : Version → Product → Type 0
ProductFits v (products.Number f) = Unit {0}
ProductFits v (products.Times f r) = ReadingFits v r
ProductFits v (products.Reading r) = ReadingFits v r

-- the names in a summand are free
abbrev pub SummandFits : Version → Summand → Type 0
SummandFits v s = ProductFits v s.product

-- the names in a signed summand are free
abbrev pub SignedFits : Version → Signed → Type 0
SignedFits v s = ProductFits v s.summand.product

-- the names in each summand of a term are free
abbrev pub TermFits : Version → Term → Type 0
TermFits v t = SummandFits v t.first × AllByRecursion (SignedFits v) t.more

-- at most d levels below the uppermost: atoms and comparisons have none, `not` and connectives one
-- more than their parts
abbrev pub FormFits : Version → ℕ → Form → Type 0
FormFits v d (true_form w) = Unit {0}
FormFits v d (false_form w) = Unit {0}
FormFits v zero (not_form w f) = ⊥
FormFits v (suc d) (not_form w f) = FormFits v d f
FormFits v zero (connect_form w f c g) = ⊥
FormFits v (suc d) (connect_form w f c g) = FormFits v d f × FormFits v d g
FormFits v d (has_form w r) = ReadingFits v r
FormFits v d (compare_form w s c t) = TermFits v s × TermFits v t

-- its name and its sort are free
abbrev pub VariableFits : Version → Variable → Type 0
VariableFits v x = IsFree v x.name × IsFree v x.sort

-- a quantifier has a variable at least
abbrev pub PrefixFits : Version → Option Prefix → Type 0
PrefixFits v None = Unit {0}
PrefixFits v (Some p) = NotEmpty p.vars × AllByRecursion (VariableFits v) p.vars

-- its prefix and its body fit
abbrev pub SentenceFits : Version → ℕ → Sentence → Type 0
SentenceFits v d s = PrefixFits v s.prefix × FormFits v d s.body

-- the sort, where it is one, is free
abbrev pub KindFits : Version → ParamKind → Type 0
KindFits v (kinds.Sort m) = IsFree v m
KindFits v kinds.Int = Unit {0}

-- its name is free and its kind fits
abbrev pub ParamFits : Version → Param → Type 0
ParamFits v p = IsFree v p.name × KindFits v p.kind

-- the element that it names, if any, is free
abbrev pub SpotFits : Version → Spot → Type 0
SpotFits v (spots.One m) = IsFree v m
SpotFits v spots.Every = Unit {0}

-- only the second version has modes
abbrev pub ModeFits : Version → Mode → Type 0
ModeFits v modes.Missing = Unit {0}
ModeFits v modes.Shared = v ≡ version.Second
ModeFits v modes.Exclusive = v ≡ version.Second

-- the condition fits, where there is one
abbrev pub GuardFits : Version → ℕ → Option Form → Type 0
GuardFits v d None = Unit {0}
GuardFits v d (Some f) = FormFits v d f

-- only the second version has observes lines
abbrev pub LineFits : Version → ℕ → LineForm → Type 0
LineFits v d (requires_form w s) = SentenceFits v d s
LineFits v d (insert_form w m ss g) = IsFree v m × AllByRecursion (SpotFits v) ss × GuardFits v d g
LineFits v d (remove_form w m ss g) = IsFree v m × AllByRecursion (SpotFits v) ss × GuardFits v d g
LineFits v d (add_form w m ss t g) =
    IsFree v m × AllByRecursion (SpotFits v) ss × TermFits v t × GuardFits v d g
LineFits v d (set_form w m ss t g) =
    IsFree v m × AllByRecursion (SpotFits v) ss × TermFits v t × GuardFits v d g
LineFits v d (takes_form w r m) = ReadingFits v r × ModeFits v m
LineFits version.First d (observes_form w s) = ⊥
LineFits version.Second d (observes_form w s) = SentenceFits version.Second d s

-- The names of a declaration are free, and its formulas fit.
abbrev pub ItemFits : Version → ℕ → ItemForm → Type 0
ItemFits v d (sort_form w m) = IsFree v m
ItemFits v d (const_form w m s) = IsFree v m × IsFree v s
ItemFits v d (relation_form w m ps) = IsFree v m × AllByRecursion (IsFree v) ps
ItemFits v d (counter_form w m ps) = IsFree v m × AllByRecursion (IsFree v) ps
ItemFits v d (initially_form w m x) = IsFree v m
ItemFits v d (token_form w m ps) = IsFree v m × AllByRecursion (IsFree v) ps
ItemFits v d (conflict_form w p q) = ReadingFits v p × ReadingFits v q
ItemFits v d (invariant_form w m s) = IsFree v m × SentenceFits v d s
ItemFits v d (operation_form w m ps ls) =
    IsFree v m × AllByRecursion (ParamFits v) ps × AllByRecursion (LineFits v d) ls

-- each name is free in the tree's version, and formulas nest as deep as they may
abbrev pub TreeFits : ℕ → TreeForm → Type 0
TreeFits d t = AllByRecursion (ItemFits t.version d) t.items

-- A tree of the grammar: it fits, with formulas at most 200 deep, and its names and numbers are
-- words.
abbrev pub IsTree : TreeForm → Type 0
IsTree t = TreeFits 199 t × AreWords (plain (tree t))

-- ---- trees that differ in places alone

-- one name
abbrev pub SameMark : Mark → Mark → Type 0
SameMark m n = m.text ≡ n.text

-- one number
abbrev pub SameFigure : Figure → Figure → Type 0
SameFigure f g = f.value ≡ g.value

-- one name with the same arguments
abbrev pub SameReading : Reading → Reading → Type 0
SameReading r s = SameMark r.name s.name × AllSame SameMark r.args s.args

-- two products are of one form, with equal numbers and readings
abbrev pub SameProduct : Product → Product → Type 0
SameProduct (products.Number f) (products.Number g) = SameFigure f g
SameProduct (products.Times f r) (products.Times g s) = SameFigure f g × SameReading r s
SameProduct (products.Reading r) (products.Reading s) = SameReading r s
SameProduct _ _ = ⊥

-- two summands have the same product
abbrev pub SameSummand : Summand → Summand → Type 0
SameSummand s t = SameProduct s.product t.product

-- two signed summands have the same sign and the same summand
abbrev pub SameSigned : Signed → Signed → Type 0
SameSigned s t = (s.sign ≡ t.sign) × SameSummand s.summand t.summand

-- two terms have the same summands, both with a `-` before them or both without
abbrev pub SameTerm : Term → Term → Type 0
SameTerm s t = (s.minus ≡ t.minus) × SameSummand s.first t.first × AllSame SameSigned s.more t.more

-- Two formulas are of one form, with the same parts.
abbrev pub SameForm : Form → Form → Type 0
SameForm (true_form w) (true_form x) = Unit {0}
SameForm (false_form w) (false_form x) = Unit {0}
SameForm (not_form w f) (not_form x g) = SameForm f g
SameForm (connect_form w f c g) (connect_form x h d i) = SameForm f h × (c ≡ d) × SameForm g i
SameForm (has_form w r) (has_form x s) = SameReading r s
SameForm (compare_form w s c t) (compare_form x s' d t') = SameTerm s s' × (c ≡ d) × SameTerm t t'
SameForm _ _ = ⊥

-- one name of one sort
abbrev pub SameVariable : Variable → Variable → Type 0
SameVariable x y = SameMark x.name y.name × SameMark x.sort y.sort

-- two prefixes have one quantifier with the same variables, or both are missing
abbrev pub SamePrefix : Option Prefix → Option Prefix → Type 0
SamePrefix None None = Unit {0}
SamePrefix (Some p) (Some q) = (p.quantifier ≡ q.quantifier) × AllSame SameVariable p.vars q.vars
SamePrefix _ _ = ⊥

-- two sentences have the same prefix and the same body
abbrev pub SameSentence : Sentence → Sentence → Type 0
SameSentence s t = SamePrefix s.prefix t.prefix × SameForm s.body t.body

-- two initial values are equal
abbrev pub SameValue : Value → Value → Type 0
SameValue values.True values.True = Unit {0}
SameValue values.False values.False = Unit {0}
SameValue (values.Number m f) (values.Number n g) = (m ≡ n) × SameFigure f g
SameValue _ _ = ⊥

-- two kinds of a parameter are one sort, or both `int`
abbrev pub SameKind : ParamKind → ParamKind → Type 0
SameKind (kinds.Sort m) (kinds.Sort n) = SameMark m n
SameKind kinds.Int kinds.Int = Unit {0}
SameKind _ _ = ⊥

-- one name with the same kind
abbrev pub SameParam : Param → Param → Type 0
SameParam p q = SameMark p.name q.name × SameKind p.kind q.kind

-- two spots are one element, or both `*`
abbrev pub SameSpot : Spot → Spot → Type 0
SameSpot (spots.One m) (spots.One n) = SameMark m n
SameSpot spots.Every spots.Every = Unit {0}
SameSpot _ _ = ⊥

-- two conditions are the same, or both are missing
abbrev pub SameGuard : Option Form → Option Form → Type 0
SameGuard None None = Unit {0}
SameGuard (Some f) (Some g) = SameForm f g
SameGuard _ _ = ⊥

-- Two lines are of one form, with the same parts.
abbrev pub SameLine : LineForm → LineForm → Type 0
SameLine (requires_form w s) (requires_form x t) = SameSentence s t
SameLine (insert_form w m ss g) (insert_form x n ts h) =
    SameMark m n × AllSame SameSpot ss ts × SameGuard g h
SameLine (remove_form w m ss g) (remove_form x n ts h) =
    SameMark m n × AllSame SameSpot ss ts × SameGuard g h
SameLine (add_form w m ss s g) (add_form x n ts t h) =
    SameMark m n × AllSame SameSpot ss ts × SameTerm s t × SameGuard g h
SameLine (set_form w m ss s g) (set_form x n ts t h) =
    SameMark m n × AllSame SameSpot ss ts × SameTerm s t × SameGuard g h
SameLine (takes_form w r m) (takes_form x s n) = SameReading r s × (m ≡ n)
SameLine (observes_form w s) (observes_form x t) = SameSentence s t
SameLine _ _ = ⊥

-- Two declarations are of one form, with the same parts.
abbrev pub SameItem : ItemForm → ItemForm → Type 0
SameItem (sort_form w m) (sort_form x n) = SameMark m n
SameItem (const_form w m s) (const_form x n t) = SameMark m n × SameMark s t
SameItem (relation_form w m ps) (relation_form x n qs) = SameMark m n × AllSame SameMark ps qs
SameItem (counter_form w m ps) (counter_form x n qs) = SameMark m n × AllSame SameMark ps qs
SameItem (initially_form w m a) (initially_form x n b) = SameMark m n × SameValue a b
SameItem (token_form w m ps) (token_form x n qs) = SameMark m n × AllSame SameMark ps qs
SameItem (conflict_form w p q) (conflict_form x r s) = SameReading p r × SameReading q s
SameItem (invariant_form w m s) (invariant_form x n t) = SameMark m n × SameSentence s t
SameItem (operation_form w m ps ls) (operation_form x n qs ks) =
    SameMark m n × AllSame SameParam ps qs × AllSame SameLine ls ks
SameItem _ _ = ⊥

-- Two specifications are the same, but for the places of their words: one version, and the same
-- declarations.
abbrev pub SameTree : TreeForm → TreeForm → Type 0
SameTree s t = (s.version ≡ t.version) × AllSame SameItem s.items t.items
