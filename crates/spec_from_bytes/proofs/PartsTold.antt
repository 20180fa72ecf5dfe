-- Each part of a tree: what is the same but for places, and has the places of its words, is equal.
use Rattle.std.proofs.Common.{◌≡◌, ℕ, ◌+◌, Option, Some, None, List, [], ◌∷◌, ◌++◌, refl, sym, ◌∙◌}
use Rattle.parser_combinators.specs.declared.token.Key.TheVariants as keys
use Rattle.parser_combinators.specs.Words.{sign, each, listed, group, AllSame, NotEmpty}
use Rattle.spec_trees.specs.declared.tree.Mark.{Mark}
use Rattle.spec_trees.specs.declared.tree.Figure.{Figure}
use Rattle.spec_trees.specs.declared.tree.Product.{Product}
use Rattle.spec_trees.specs.declared.tree.Product.TheVariants as products
use Rattle.spec_trees.specs.declared.tree.Term.{Term}
use Rattle.spec_trees.specs.declared.tree.Value.TheVariants as values
use Rattle.spec_trees.specs.declared.tree.ParamKind.TheVariants as kinds
use Rattle.spec_trees.specs.declared.tree.Spot.{Spot}
use Rattle.spec_trees.specs.declared.tree.Spot.TheVariants as spots
use Rattle.spec_trees.specs.Form.{Form, true_form, false_form, not_form, connect_form, has_form, compare_form, requires_form, insert_form, remove_form, add_form, set_form, takes_form, observes_form, sort_form, const_form, relation_form, counter_form, initially_form, token_form, conflict_form, invariant_form, operation_form}
use Rattle.spec_trees.specs.Spelling.{figure, one, reading, product, summand, signed, minus, term, comparison_key, connective_key, form, variable, prefix, sentence, value, param_kind, param, spot, mode, guard, line, item, tree}
use Rattle.spec_trees.specs.Trees.{SameMark, SameFigure, SameReading, SameProduct, SameSummand, SameSigned, SameTerm, SameForm, SameVariable, SamePrefix, SameSentence, SameValue, SameKind, SameParam, SameSpot, SameGuard, SameLine, SameItem, SameTree}
use Rattle.spec_from_bytes.proofs.Told.{Told, AllTold, front, first_place, both, both_told, between_told, each_told, listed_told, group_told}

-- ---- words

mark_told : (n : ℕ) (a b : Mark) → SameMark a b → a.word ≡ n → b.word ≡ n → a ≡ b
mark_told n a b s h k = λ i. record { text = s i; word = (h ∙ sym k) i }

figure_told : (n : ℕ) (a b : Figure) → SameFigure a b → a.word ≡ n → b.word ≡ n → a ≡ b
figure_told n a b s h k = λ i. record { value = s i; word = (h ∙ sym k) i }

one_told : AllTold SameMark one
one_told a b s n h k = mark_told n a b s h.0.0 k.0.0

-- ---- terms

pub reading_told : AllTold SameReading reading
reading_told a b s n h k =
    let name = mark_told n a.name b.name s.0 h.0.0 k.0.0 in
    let args = group_told SameMark one one_told a.args b.args s.1 (n + 1) h.1 k.1 in
    λ i. record { name = name i; args = args i }

product_told : AllTold SameProduct product
product_told (products.Number f) (products.Number g) s n h k = λ i. products.Number (figure_told n f g s h.0.0 k.0.0 i)
product_told (products.Times f r) (products.Times g q) s n h k =
    let e = figure_told n f g s.0 h.0.0 k.0.0 in
    let m = reading_told r q s.1 (n + 1 + 1) h.1.1 k.1.1 in
    λ i. products.Times (e i) (m i)
product_told (products.Reading r) (products.Reading q) s n h k = λ i. products.Reading (reading_told r q s n h k i)
product_told a b s n h k = absurd s

product_some : (p : Product) → NotEmpty (product p)
product_some (products.Number f) = tt
product_some (products.Times f r) = tt
product_some (products.Reading r) = tt

summand_told : AllTold SameSummand summand
summand_told a b s n h k =
    let u = first_place n a.word (product a.product) (product_some a.product) h in
    let v = first_place n b.word (product b.product) (product_some b.product) k in
    let e = product_told a.product b.product s n u.1 v.1 in
    λ i. record { word = (u.0 ∙ sym v.0) i; product = e i }

signed_told : AllTold SameSigned signed
signed_told a b s n h k =
    let e = product_told a.summand.product b.summand.product s.1 (n + 1) h.1 k.1 in
    λ i. record { sign = s.0 i; summand = record { word = (h.0.0 ∙ sym k.0.0) i; product = e i } }

pub term_told : AllTold SameTerm term
term_told a b s n h k =
    let more = both_told summand (each signed) a.first b.first a.more b.more (summand_told a.first b.first s.1) (each_told SameSigned signed signed_told a.more b.more s.2) in
    let e = both_told minus (both summand (each signed)) a.minus b.minus (a.first, a.more) (b.first, b.more) (λ m u v. s.0) more n h k in
    λ i. record { minus = (e i).0; first = (e i).1.0; more = (e i).1.1 }

-- ---- formulas

pub form_told : AllTold SameForm form
form_told (true_form w) (true_form x) s n h k = λ i. true_form ((h.0.0 ∙ sym k.0.0) i)
form_told (false_form w) (false_form x) s n h k = λ i. false_form ((h.0.0 ∙ sym k.0.0) i)
form_told (not_form w f) (not_form x g) s n h k =
    let e = form_told f g s (n + 1) h.1 k.1 in
    λ i. not_form ((h.0.0 ∙ sym k.0.0) i) (e i)
form_told (connect_form w f c g) (connect_form x f' d g') s n h k =
    let e = between_told form connective_key f f' c d g g' (form_told f f' s.0) s.1 (form_told g g' s.2) (n + 1) h.1 k.1 in
    λ i. connect_form ((h.0.0 ∙ sym k.0.0) i) (e i).0 (e i).1 (e i).2
form_told (has_form w r) (has_form x q) s n h k =
    let u = first_place n w (reading r) tt h in
    let v = first_place n x (reading q) tt k in
    let e = reading_told r q s n u.1 v.1 in
    λ i. has_form ((u.0 ∙ sym v.0) i) (e i)
form_told (compare_form w a c b) (compare_form x a' d b') s n h k =
    let e = between_told term comparison_key a a' c d b b' (term_told a a' s.0) s.1 (term_told b b' s.2) (n + 1) h.1 k.1 in
    λ i. compare_form ((h.0.0 ∙ sym k.0.0) i) (e i).0 (e i).1 (e i).2
form_told a b s n h k = absurd s

variable_told : AllTold SameVariable variable
variable_told a b s n h k =
    let name = mark_told n a.name b.name s.0 h.0.0 k.0.0 in
    let sort = mark_told (n + 1 + 1) a.sort b.sort s.1 h.1.1.0.0 k.1.1.0.0 in
    λ i. record { name = name i; sort = sort i }

prefix_told : AllTold SamePrefix prefix
prefix_told None None s n h k = refl
prefix_told (Some p) (Some q) s n h k =
    let end = sign keys.Dot ∷ [] in
    let vars = listed_told SameVariable variable variable_told p.vars q.vars s.1 (n + 1) (front (n + 1) (listed variable p.vars) end h.1) (front (n + 1) (listed variable q.vars) end k.1) in
    λ i. Some (record { word = (h.0.0 ∙ sym k.0.0) i; quantifier = s.0 i; vars = vars i })
prefix_told None (Some q) s n h k = absurd s
prefix_told (Some p) None s n h k = absurd s

pub sentence_told : AllTold SameSentence sentence
sentence_told a b s n h k =
    let e = both_told prefix form a.prefix b.prefix a.body b.body (prefix_told a.prefix b.prefix s.0) (form_told a.body b.body s.1) n h k in
    λ i. record { prefix = (e i).0; body = (e i).1 }

-- ---- what lines and items are made of

value_told : AllTold SameValue value
value_told values.True values.True s n h k = refl
value_told values.False values.False s n h k = refl
value_told (values.Number m f) (values.Number o g) s n h k =
    let figures = both_told minus (λ x. figure x ∷ []) m o f g (λ l u v. s.0) (λ l u v. figure_told l f g s.1 u.0.0 v.0.0) n h k in
    λ i. values.Number (figures i).0 (figures i).1
value_told a b s n h k = absurd s

param_kind_told : AllTold SameKind param_kind
param_kind_told (kinds.Sort a) (kinds.Sort b) s n h k = λ i. kinds.Sort (one_told a b s n h k i)
param_kind_told kinds.Int kinds.Int s n h k = refl
param_kind_told a b s n h k = absurd s

param_told : AllTold SameParam param
param_told a b s n h k =
    let name = mark_told n a.name b.name s.0 h.0.0 k.0.0 in
    let kind = param_kind_told a.kind b.kind s.1 (n + 1 + 1) h.1.1 k.1.1 in
    λ i. record { name = name i; kind = kind i }

spot_told : AllTold SameSpot spot
spot_told (spots.One a) (spots.One b) s n h k = λ i. spots.One (one_told a b s n h k i)
spot_told spots.Every spots.Every s n h k = refl
spot_told a b s n h k = absurd s

guard_told : AllTold SameGuard guard
guard_told None None s n h k = refl
guard_told (Some f) (Some g) s n h k = λ i. Some (form_told f g s (n + 1) h.1 k.1 i)
guard_told None (Some g) s n h k = absurd s
guard_told (Some f) None s n h k = absurd s

-- ---- lines

spots_told : (a b : List Spot) (g h : Option Form) → AllSame SameSpot a b → SameGuard g h → Told (both (group spot) guard) (a, g) (b, h)
spots_told a b g h s t = both_told (group spot) guard a b g h (group_told SameSpot spot spot_told a b s) (guard_told g h t)

sums_told : (a b : List Spot) (s t : Term) (g h : Option Form) → AllSame SameSpot a b → SameTerm s t → SameGuard g h → Told (both (group spot) (both term guard)) (a, (s, g)) (b, (t, h))
sums_told a b s t g h r u v = both_told (group spot) (both term guard) a b (s, g) (t, h) (group_told SameSpot spot spot_told a b r) (both_told term guard s t g h (term_told s t u) (guard_told g h v))

pub line_told : AllTold SameLine line
line_told (requires_form w a) (requires_form x b) s n h k =
    let e = sentence_told a b s (n + 1) h.1 k.1 in
    λ i. requires_form ((h.0.0 ∙ sym k.0.0) i) (e i)
line_told (insert_form w m a f) (insert_form x o b g) s n h k =
    let name = mark_told (n + 1) m o s.0 h.1.0.0 k.1.0.0 in
    let e = spots_told a b f g s.1 s.2 (n + 1 + 1) h.1.1 k.1.1 in
    λ i. insert_form ((h.0.0 ∙ sym k.0.0) i) (name i) (e i).0 (e i).1
line_told (remove_form w m a f) (remove_form x o b g) s n h k =
    let name = mark_told (n + 1) m o s.0 h.1.0.0 k.1.0.0 in
    let e = spots_told a b f g s.1 s.2 (n + 1 + 1) h.1.1 k.1.1 in
    λ i. remove_form ((h.0.0 ∙ sym k.0.0) i) (name i) (e i).0 (e i).1
line_told (add_form w m a t f) (add_form x o b u g) s n h k =
    let name = mark_told (n + 1) m o s.0 h.1.0.0 k.1.0.0 in
    let e = sums_told a b t u f g s.1 s.2 s.3 (n + 1 + 1) h.1.1 k.1.1 in
    λ i. add_form ((h.0.0 ∙ sym k.0.0) i) (name i) (e i).0 (e i).1.0 (e i).1.1
line_told (set_form w m a t f) (set_form x o b u g) s n h k =
    let name = mark_told (n + 1) m o s.0 h.1.0.0 k.1.0.0 in
    let e = sums_told a b t u f g s.1 s.2 s.3 (n + 1 + 1) h.1.1 k.1.1 in
    λ i. set_form ((h.0.0 ∙ sym k.0.0) i) (name i) (e i).0 (e i).1.0 (e i).1.1
line_told (takes_form w r m) (takes_form x q o) s n h k =
    let e = both_told reading mode r q m o (reading_told r q s.0) (λ l u v. s.1) (n + 1) h.1 k.1 in
    λ i. takes_form ((h.0.0 ∙ sym k.0.0) i) (e i).0 (e i).1
line_told (observes_form w a) (observes_form x b) s n h k =
    let e = sentence_told a b s (n + 1) h.1 k.1 in
    λ i. observes_form ((h.0.0 ∙ sym k.0.0) i) (e i)
line_told a b s n h k = absurd s

-- ---- items

pub item_told : AllTold SameItem item
item_told (sort_form w m) (sort_form x o) s n h k =
    let name = mark_told (n + 1) m o s h.1.0.0 k.1.0.0 in
    λ i. sort_form ((h.0.0 ∙ sym k.0.0) i) (name i)
item_told (const_form w m a) (const_form x o b) s n h k =
    let name = mark_told (n + 1) m o s.0 h.1.0.0 k.1.0.0 in
    let sort = mark_told (n + 1 + 1 + 1) a b s.1 h.1.1.1.0.0 k.1.1.1.0.0 in
    λ i. const_form ((h.0.0 ∙ sym k.0.0) i) (name i) (sort i)
item_told (relation_form w m a) (relation_form x o b) s n h k =
    let name = mark_told (n + 1) m o s.0 h.1.0.0 k.1.0.0 in
    let e = group_told SameMark one one_told a b s.1 (n + 1 + 1) h.1.1 k.1.1 in
    λ i. relation_form ((h.0.0 ∙ sym k.0.0) i) (name i) (e i)
item_told (counter_form w m a) (counter_form x o b) s n h k =
    let name = mark_told (n + 1) m o s.0 h.1.0.0 k.1.0.0 in
    let e = group_told SameMark one one_told a b s.1 (n + 1 + 1) h.1.1 k.1.1 in
    λ i. counter_form ((h.0.0 ∙ sym k.0.0) i) (name i) (e i)
item_told (initially_form w m a) (initially_form x o b) s n h k =
    let name = mark_told (n + 1) m o s.0 h.1.0.0 k.1.0.0 in
    let e = value_told a b s.1 (n + 1 + 1) h.1.1 k.1.1 in
    λ i. initially_form ((h.0.0 ∙ sym k.0.0) i) (name i) (e i)
item_told (token_form w m a) (token_form x o b) s n h k =
    let name = mark_told (n + 1) m o s.0 h.1.0.0 k.1.0.0 in
    let e = group_told SameMark one one_told a b s.1 (n + 1 + 1) h.1.1 k.1.1 in
    λ i. token_form ((h.0.0 ∙ sym k.0.0) i) (name i) (e i)
item_told (conflict_form w p q) (conflict_form x r t) s n h k =
    let e = both_told reading reading p r q t (reading_told p r s.0) (reading_told q t s.1) (n + 1) h.1 k.1 in
    λ i. conflict_form ((h.0.0 ∙ sym k.0.0) i) (e i).0 (e i).1
item_told (invariant_form w m a) (invariant_form x o b) s n h k =
    let name = mark_told (n + 1) m o s.0 h.1.0.0 k.1.0.0 in
    let e = sentence_told a b s.1 (n + 1 + 1) h.1.1 k.1.1 in
    λ i. invariant_form ((h.0.0 ∙ sym k.0.0) i) (name i) (e i)
item_told (operation_form w m a f) (operation_form x o b g) s n h k =
    let name = mark_told (n + 1) m o s.0 h.1.0.0 k.1.0.0 in
    let end = sign keys.End ∷ [] in
    let lines : Told (λ l. each line l ++ end) f g = λ l u v. each_told SameLine line line_told f g s.2 l (front l (each line f) end u) (front l (each line g) end v) in
    let e = both_told (group param) (λ l. each line l ++ end) a b f g (group_told SameParam param param_told a b s.1) lines (n + 1 + 1) h.1.1 k.1.1 in
    λ i. operation_form ((h.0.0 ∙ sym k.0.0) i) (name i) (e i).0 (e i).1
item_told a b s n h k = absurd s

pub tree_told : AllTold SameTree tree
tree_told t u s n h k =
    let items = each_told SameItem item item_told t.items u.items s.1 (n + 1 + 1) h.1.1 k.1.1 in
    λ i. record { version = s.0 i; items = items i }
