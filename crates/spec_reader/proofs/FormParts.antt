-- The parts of the grammar from comparisons to formulas.
use Rattle.std.proofs.Common.{◌≡◌, ℕ, zero, suc, Bool, true, false, cond, ◌||◌, List, [], ◌∷◌, ◌++◌, ◌⊎◌, inl, inr, refl, sym, ap, ◌∙◌, append_assoc}
use Rattle.std.proofs.lemmas.Bool.{or_from}
use Rattle.std.specs.Prelude.{not}
use Rattle.std.specs.List.{AllByRecursion}
use Rattle.parser_combinators.specs.declared.token.Key.{Key}
use Rattle.parser_combinators.specs.declared.token.Key.TheVariants as keys
use Rattle.parser_combinators.specs.declared.token.Symbol.{Symbol}
use Rattle.parser_combinators.specs.declared.token.Symbol.TheVariants as symbol
use Rattle.parser_combinators.specs.declared.token.Token.{Token}
use Rattle.parser_combinators.specs.declared.token.Kind.{Kind}
use Rattle.parser_combinators.specs.declared.token.Kind.TheVariants as kind
use Rattle.parser_combinators.specs.declared.token.Version.{Version}
use Rattle.parser_combinators.specs.Words.{next, kind_of, Spelt, plain, name_kind, number_kind, is_key, is_name, key, sign, each, AllSame, with_place}
use Rattle.parser_combinators.specs.Texts.{AreWords}
use Rattle.parser_combinators.specs.Read.{Read, both, only}
use Rattle.parser_combinators.proofs.Part.{Part, then_part, viewed_part, fits_part, placed_part, regroup}
use Rattle.parser_combinators.proofs.Choice.{word_part, either_part, only_part, sum_same, sum_of, clash}
use Rattle.parser_combinators.proofs.Many.{list_on_false}
use Rattle.parser_combinators.proofs.Pieces.{symbol_key, name_not_key, name_kind_cases, number_kind_cases, key_part, sign_part, group_off}
use Rattle.spec_trees.specs.declared.tree.Reading.{Reading}
use Rattle.spec_trees.specs.declared.tree.Product.{Product}
use Rattle.spec_trees.specs.declared.tree.Product.TheVariants as products
use Rattle.spec_trees.specs.declared.tree.Summand.{Summand}
use Rattle.spec_trees.specs.declared.tree.Signed.{Signed}
use Rattle.spec_trees.specs.declared.tree.Term.{Term}
use Rattle.spec_trees.specs.declared.tree.Comparison.{Comparison}
use Rattle.spec_trees.specs.declared.tree.Comparison.TheVariants as comparisons
use Rattle.spec_trees.specs.declared.tree.Connective.{Connective}
use Rattle.spec_trees.specs.declared.tree.Connective.TheVariants as connectives
use Rattle.spec_trees.specs.Form.{Form, true_form, false_form, not_form, connect_form, has_form, compare_form}
use Rattle.spec_trees.specs.Spelling.{reading, product, summand, signed, minus, term, comparison_key, connective_key, form}
use Rattle.spec_trees.specs.Trees.{ReadingFits, ProductFits, SummandFits, SignedFits, TermFits, FormFits, SameReading, SameSigned, SameTerm, SameForm}
use Rattle.spec_reader.specs.Reading.{is_sign, term_at, is_comparison, comparison_of, comparison_at, is_connective, connective_of, connective_at, Inside, compared, connected, to_compared, compared_at, starts_term, After, to_inside, after_at, atom_at, inside_at, to_bracket, bracket_at, to_plain, plain_at, to_form, form_at}
use Rattle.spec_reader.proofs.TermParts.{reading_on, reading_part, summand_on, signed_on, product_off, sign_cases, more_on, more_part, term_on, sum_on, term_part}

-- ---- words between

pub comparison_cases : (P : Kind → Type 0) (c : Comparison) → P (kind.Key keys.Equal) → P (kind.Key keys.Unequal) → P (kind.Key keys.Less) → P (kind.Key keys.AtMost) → P (kind.Key keys.Greater) → P (kind.Key keys.AtLeast) → P (kind.Key (comparison_key c))
comparison_cases P comparisons.Equal a b c d e f = a
comparison_cases P comparisons.Unequal a b c d e f = b
comparison_cases P comparisons.Less a b c d e f = c
comparison_cases P comparisons.AtMost a b c d e f = d
comparison_cases P comparisons.Greater a b c d e f = e
comparison_cases P comparisons.AtLeast a b c d e f = f

pub connective_cases : (P : Kind → Type 0) (c : Connective) → P (kind.Key keys.And) → P (kind.Key keys.Or) → P (kind.Key keys.Implies) → P (kind.Key (connective_key c))
connective_cases P connectives.And a b c = a
connective_cases P connectives.Or a b c = b
connective_cases P connectives.Implies a b c = c

-- the comparison that a sign is
abbrev comparison_back : Key → Comparison
comparison_back keys.Equal = comparisons.Equal
comparison_back keys.Unequal = comparisons.Unequal
comparison_back keys.Less = comparisons.Less
comparison_back keys.AtMost = comparisons.AtMost
comparison_back keys.Greater = comparisons.Greater
comparison_back _ = comparisons.AtLeast

abbrev connective_back : Key → Connective
connective_back keys.And = connectives.And
connective_back keys.Or = connectives.Or
connective_back _ = connectives.Implies

abbrev key_in : Symbol → Key
key_in (symbol.Key k) = k
key_in (symbol.Name text) = keys.Open
key_in (symbol.Number n) = keys.Open

comparison_part : Part (λ x y. x ≡ y) (λ x. Unit {0}) (λ x. sign (comparison_key x) ∷ []) comparison_at (λ a k. false)
comparison_part = word_part is_comparison (λ t. comparison_of (kind_of t.symbol)) (λ x. symbol.Key (comparison_key x)) (λ x. []) (record {
  single = λ a f. refl;
  is_right = λ a f. comparison_cases (λ k. is_comparison k ≡ true) a refl refl refl refl refl refl;
  symbol = λ t h. is_it t.symbol h;
  claims = λ t. tt;
  fits = λ t h. tt;
  same = λ a b f g e. same a b e;
  not_end = refl;
  some = comparisons.Less;
  some_fits = tt;
  some_word = refl;
})
  where
    by : (s : Symbol) (b c d e f g : Bool) → (b ≡ true → s ≡ symbol.Key keys.Equal) → (c ≡ true → s ≡ symbol.Key keys.Unequal) → (d ≡ true → s ≡ symbol.Key keys.Less) → (e ≡ true → s ≡ symbol.Key keys.AtMost) → (f ≡ true → s ≡ symbol.Key keys.Greater) → (g ≡ true → s ≡ symbol.Key keys.AtLeast)
        → (b || (c || (d || (e || (f || g))))) ≡ true → s ≡ symbol.Key (comparison_key (cond b comparisons.Equal (cond c comparisons.Unequal (cond d comparisons.Less (cond e comparisons.AtMost (cond f comparisons.Greater comparisons.AtLeast))))))
    by s true c d e f g p q r t u w h = p refl
    by s false true d e f g p q r t u w h = q refl
    by s false false true e f g p q r t u w h = r refl
    by s false false false true f g p q r t u w h = t refl
    by s false false false false true g p q r t u w h = u refl
    by s false false false false false g p q r t u w h = w h

    is_it : (s : Symbol) → is_comparison (kind_of s) ≡ true → s ≡ symbol.Key (comparison_key (comparison_of (kind_of s)))
    is_it s h = by s (is_key keys.Equal (kind_of s)) (is_key keys.Unequal (kind_of s)) (is_key keys.Less (kind_of s)) (is_key keys.AtMost (kind_of s)) (is_key keys.Greater (kind_of s)) (is_key keys.AtLeast (kind_of s)) (symbol_key keys.Equal s) (symbol_key keys.Unequal s) (symbol_key keys.Less s) (symbol_key keys.AtMost s) (symbol_key keys.Greater s) (symbol_key keys.AtLeast s) h

    back : (a : Comparison) → comparison_back (key_in (symbol.Key (comparison_key a))) ≡ a
    back comparisons.Equal = refl
    back comparisons.Unequal = refl
    back comparisons.Less = refl
    back comparisons.AtMost = refl
    back comparisons.Greater = refl
    back comparisons.AtLeast = refl

    same : (a b : Comparison) → symbol.Key (comparison_key a) ≡ symbol.Key (comparison_key b) → a ≡ b
    same a b e = sym (back a) ∙ ap (λ (s : Symbol). comparison_back (key_in s)) e ∙ back b

connective_part : Part (λ x y. x ≡ y) (λ x. Unit {0}) (λ x. sign (connective_key x) ∷ []) connective_at (λ a k. false)
connective_part = word_part is_connective (λ t. connective_of (kind_of t.symbol)) (λ x. symbol.Key (connective_key x)) (λ x. []) (record {
  single = λ a f. refl;
  is_right = λ a f. connective_cases (λ k. is_connective k ≡ true) a refl refl refl;
  symbol = λ t h. is_it t.symbol h;
  claims = λ t. tt;
  fits = λ t h. tt;
  same = λ a b f g e. same a b e;
  not_end = refl;
  some = connectives.And;
  some_fits = tt;
  some_word = refl;
})
  where
    by : (s : Symbol) (b c d : Bool) → (b ≡ true → s ≡ symbol.Key keys.And) → (c ≡ true → s ≡ symbol.Key keys.Or) → (d ≡ true → s ≡ symbol.Key keys.Implies) → (b || (c || d)) ≡ true → s ≡ symbol.Key (connective_key (cond b connectives.And (cond c connectives.Or connectives.Implies)))
    by s true c d p q r h = p refl
    by s false true d p q r h = q refl
    by s false false d p q r h = r h

    is_it : (s : Symbol) → is_connective (kind_of s) ≡ true → s ≡ symbol.Key (connective_key (connective_of (kind_of s)))
    is_it s h = by s (is_key keys.And (kind_of s)) (is_key keys.Or (kind_of s)) (is_key keys.Implies (kind_of s)) (symbol_key keys.And s) (symbol_key keys.Or s) (symbol_key keys.Implies s) h

    back : (a : Connective) → connective_back (key_in (symbol.Key (connective_key a))) ≡ a
    back connectives.And = refl
    back connectives.Or = refl
    back connectives.Implies = refl

    same : (a b : Connective) → symbol.Key (connective_key a) ≡ symbol.Key (connective_key b) → a ≡ b
    same a b e = sym (back a) ∙ ap (λ (s : Symbol). connective_back (key_in s)) e ∙ back b

-- ---- what stands in brackets

abbrev pub form_on : Form → Kind → Bool
form_on (has_form w r) k = reading_on r k
form_on (true_form w) k = false
form_on (false_form w) k = false
form_on (not_form w f) k = form_on f k
form_on (connect_form w f c g) k = false
form_on (compare_form w s c t) k = false

pub form_off : (f : Form) (k : Kind) → is_key keys.Open k ≡ false → form_on f k ≡ false
form_off (has_form w r) k h = group_off r.args k h
form_off (true_form w) k h = refl
form_off (false_form w) k h = refl
form_off (not_form w f) k h = form_off f k h
form_off (connect_form w f c g) k h = refl
form_off (compare_form w s c t) k h = refl

pub term_off : (t : Term) (k : Kind) → is_key keys.Open k ≡ false → is_key keys.Star k ≡ false → is_sign k ≡ false → term_on t k ≡ false
term_off t k h g s = by t.first t.more
  where
    by : (x : Summand) (xs : List Signed) → sum_on x xs k ≡ false
    by x [] = or_from (summand_on x k) (is_sign k) (product_off x.product k h g) s
    by x (y ∷ ys) = list_on_false is_sign signed_on (y ∷ ys) k s (λ z. product_off z.summand.product k h g)

abbrev pub inside : Inside → List Spelt
inside (compared s c t) = term s ++ (sign (comparison_key c) ∷ term t)
inside (connected f c g) = form f ++ (sign (connective_key c) ∷ form g)

abbrev pub inside_on : Inside → Kind → Bool
inside_on (compared s c t) k = term_on t k
inside_on (connected f c g) k = form_on g k

pub inside_off : (x : Inside) (k : Kind) → is_key keys.Open k ≡ false → is_key keys.Star k ≡ false → is_sign k ≡ false → inside_on x k ≡ false
inside_off (compared s c t) k h g i = term_off t k h g i
inside_off (connected f c g) k h i j = form_off g k h

abbrev pub SameInside : Inside → Inside → Type 0
SameInside (compared s c t) (compared s' d t') = SameTerm s s' × (c ≡ d) × SameTerm t t'
SameInside (connected f c g) (connected h d i) = SameForm f h × (c ≡ d) × SameForm g i
SameInside _ _ = ⊥

-- a comparison alone
abbrev pub ComparedFits : Version → Inside → Type 0
ComparedFits v (compared s c t) = TermFits v s × TermFits v t
ComparedFits v (connected f c g) = ⊥

abbrev pub InsideFits : Version → (Form → Type 0) → Inside → Type 0
InsideFits v F (compared s c t) = TermFits v s × TermFits v t
InsideFits v F (connected f c g) = F f × F g

compares : (v : Version) → Part (λ x y. (x.0 ≡ y.0) × SameTerm x.1 y.1) (λ x. Unit {0} × TermFits v x.1) (λ x. sign (comparison_key x.0) ∷ term x.1) (both comparison_at (term_at v)) (λ x. term_on x.1)
compares v = then_part comparison_part (term_part v) (λ a b u f g h. refl)

term_then : (v : Version) (a : Term) (b : Comparison × Term) (u : List Symbol) → term_on a (next (plain (sign (comparison_key b.0) ∷ term b.1) ++ u)) ≡ false
term_then v a b u = comparison_cases (λ k. term_on a k ≡ false) b.0 (term_off a (kind.Key keys.Equal) refl refl refl) (term_off a (kind.Key keys.Unequal) refl refl refl) (term_off a (kind.Key keys.Less) refl refl refl) (term_off a (kind.Key keys.AtMost) refl refl refl) (term_off a (kind.Key keys.Greater) refl refl refl) (term_off a (kind.Key keys.AtLeast) refl refl refl)

compared_part : (v : Version) → Part SameInside (ComparedFits v) inside (compared_at v) inside_on
unfolding compared_at
compared_part v = viewed_part to_compared back (then_part (term_part v) (compares v) (λ a b u f g h. term_then v a b u)) (record {
  spelled = λ a f. refl;
  fits = λ a f. (f.0, f.1.1);
  on_to = λ a k f. refl;
  same = λ a b h. (h.0, h.1.0, h.1.1);
  to_back = to_back;
  back_fits = back_fits;
})
  where
    some : Term
    some = record { minus = false; first = record { word = 0; product = products.Number (record { value = 0; word = 0 }) }; more = [] }

    back : Inside → Term × (Comparison × Term)
    back (compared s c t) = (s, (c, t))
    back (connected f c g) = (some, (comparisons.Less, some))

    to_back : (b : Inside) → ComparedFits v b → to_compared (back b) ≡ b
    to_back (compared s c t) f = refl
    to_back (connected f c g) h = absurd h

    back_fits : (b : Inside) → ComparedFits v b → TermFits v (back b).0 × (Unit {0} × TermFits v (back b).1.1)
    back_fits (compared s c t) f = (f.0, (tt, f.1))
    back_fits (connected f c g) h = absurd h

-- a reading with its place
pub atom_part : (v : Version) → Part (λ x y. SameReading x.1 y.1) (λ x. ReadingFits v x.1) (λ x. with_place x.0 (reading x.1)) (atom_at v) (λ x. reading_on x.1)
unfolding atom_at
atom_part v = placed_part (reading_part v)

-- a term that begins with a name
abbrev pub reads : Bool → Product → Bool
reads true f = false
reads false (products.Number f) = false
reads false (products.Times f r) = false
reads false (products.Reading r) = true

abbrev pub is_atom : Form → Bool
is_atom (has_form w r) = true
is_atom (true_form w) = false
is_atom (false_form w) = false
is_atom (not_form w f) = false
is_atom (connect_form w f c g) = false
is_atom (compare_form w s c t) = false

module _ (v : Version) (F : Form → Type 0) (r : List Token → Read Form) (P : Part SameForm F form r form_on) (atom_fits : (w : ℕ) (x : Reading) → F (has_form w x) → ReadingFits v x) (fits_atom : (w : ℕ) (x : Reading) → ReadingFits v x → F (has_form w x)) where
  number_starts : (n : ℕ) → starts_term (number_kind n) ≡ true
  number_starts n = number_kind_cases (λ k. starts_term k ≡ true) n refl refl refl

  name_not_start : (text : List ℕ) → starts_term (name_kind text) ≡ false
  name_not_start text = name_kind_cases (λ k. starts_term k ≡ false) text refl refl refl refl refl

  begun : (t : Term) (u : List Symbol) → reads t.minus t.first.product ≡ false → starts_term (next (plain (term t) ++ u)) ≡ true
  begun t u = by t.minus t.first.product
    where
      by : (b : Bool) (x : Product) → reads b x ≡ false → starts_term (next (plain (minus b ++ (with_place t.first.word (product x) ++ each signed t.more)) ++ u)) ≡ true
      by true x h = refl
      by false (products.Number f) h = number_starts f.value
      by false (products.Times f r) h = number_starts f.value
      by false (products.Reading r) h = absurd cc

  so_begun : (t : Term) (u : List Symbol) → starts_term (next (plain (term t) ++ u)) ≡ true → reads t.minus t.first.product ≡ false
  so_begun t u = by t.minus t.first.product
    where
      by : (b : Bool) (x : Product) → starts_term (next (plain (minus b ++ (with_place t.first.word (product x) ++ each signed t.more)) ++ u)) ≡ true → reads b x ≡ false
      by true x h = refl
      by false (products.Number f) h = refl
      by false (products.Times f r) h = refl
      by false (products.Reading r) h = clash (starts_term (name_kind r.name.text)) (starts_term (name_kind r.name.text)) h (name_not_start r.name.text) refl

  number_term : Term
  number_term = record { minus = true; first = record { word = 0; product = products.Number (record { value = 0; word = 0 }) }; more = [] }

  first_part : Part SameTerm (λ t. TermFits v t × (reads t.minus t.first.product ≡ false)) term (only starts_term (term_at v)) term_on
  unfolding number_term
  first_part = only_part starts_term (λ t. reads t.minus t.first.product ≡ false) (term_part v) (λ a u f h. begun a u h) (λ a u f h. so_begun a u h) number_term (tt, tt) refl (refl, (refl, tt))

  not_name : (f : Form) (xs : List Spelt) (u : List Symbol) → is_atom f ≡ false → is_name v (next (plain (form f ++ xs) ++ u)) ≡ false
  not_name (has_form w r) xs u h = absurd cc
  not_name (true_form w) xs u h = refl
  not_name (false_form w) xs u h = refl
  not_name (not_form w f) xs u h = refl
  not_name (connect_form w f c g) xs u h = refl
  not_name (compare_form w s c t) xs u h = refl

  no_term : (f : Form) (xs : List Spelt) (u : List Symbol) → is_atom f ≡ false → starts_term (next (plain (form f ++ xs) ++ u)) ≡ false
  no_term (has_form w r) xs u h = absurd cc
  no_term (true_form w) xs u h = refl
  no_term (false_form w) xs u h = refl
  no_term (not_form w f) xs u h = refl
  no_term (connect_form w f c g) xs u h = refl
  no_term (compare_form w s c t) xs u h = refl

  other_part : (f : Form) → F f → is_atom f ≡ false → AreWords (plain (form f)) → Part SameForm (λ f. F f × (is_atom f ≡ false)) form (only (λ k. not (is_name v k)) r) form_on
  other_part some fits h words = only_part (λ k. not (is_name v k)) (λ f. is_atom f ≡ false) P (λ a u f h. begins a u h) so_not some fits h words
    where
      begins : (f : Form) (u : List Symbol) → is_atom f ≡ false → not (is_name v (next (plain (form f) ++ u))) ≡ true
      begins (has_form w r) u h = absurd cc
      begins (true_form w) u h = refl
      begins (false_form w) u h = refl
      begins (not_form w f) u h = refl
      begins (connect_form w f c g) u h = refl
      begins (compare_form w s c t) u h = refl

      off : (b : Bool) → not b ≡ true → b ≡ false
      off true h = absurd cc
      off false h = refl

      so_not : (f : Form) (u : List Symbol) → F f → not (is_name v (next (plain (form f) ++ u))) ≡ true → is_atom f ≡ false
      so_not (has_form w x) u f h = clash (is_name v (name_kind x.name.text)) (is_name v (name_kind x.name.text)) (atom_fits w x f).0 (off _ h) refl
      so_not (true_form w) u f h = refl
      so_not (false_form w) u f h = refl
      so_not (not_form w g) u f h = refl
      so_not (connect_form w g c i) u f h = refl
      so_not (compare_form w s c t) u f h = refl

  after_words : After → List Spelt
  after_words x = sum_of (λ y. sign (connective_key y.0) ∷ form y.1) (λ y. each signed y.0 ++ (sign (comparison_key y.1.0) ∷ term y.1.1)) x

  AfterFits : After → Type 0
  AfterFits x = sum_of (λ y. Unit {0} × F y.1) (λ y. AllByRecursion (SignedFits v) y.0 × (Unit {0} × TermFits v y.1.1)) x

  SameAfter : After → After → Type 0
  SameAfter x y = sum_same (λ a b. (a.0 ≡ b.0) × SameForm a.1 b.1) (λ a b. AllSame SameSigned a.0 b.0 × ((a.1.0 ≡ b.1.0) × SameTerm a.1.1 b.1.1)) x y

  after_on : After → Kind → Bool
  after_on x = sum_of (λ y. form_on y.1) (λ y. term_on y.1.1) x

  more_off : (xs : List Signed) (k : Kind) → is_key keys.Open k ≡ false → is_key keys.Star k ≡ false → is_sign k ≡ false → more_on xs k ≡ false
  more_off xs k h g s = list_on_false is_sign signed_on xs k s (λ z. product_off z.summand.product k h g)

  after_part : Part SameAfter AfterFits after_words (after_at v r) after_on
  unfolding after_words AfterFits SameAfter after_on
  after_part = either_part is_connective (then_part connective_part P (λ a b u f g h. refl)) (then_part (more_part v) (compares v) (λ a b u f g h. first a b u)) (λ a u f. connective_cases (λ k. is_connective k ≡ true) a.0 refl refl refl) others
    where
      first : (a : List Signed) (b : Comparison × Term) (u : List Symbol) → more_on a (next (plain (sign (comparison_key b.0) ∷ term b.1) ++ u)) ≡ false
      first a b u = comparison_cases (λ k. more_on a k ≡ false) b.0 (more_off a (kind.Key keys.Equal) refl refl refl) (more_off a (kind.Key keys.Unequal) refl refl refl) (more_off a (kind.Key keys.Less) refl refl refl) (more_off a (kind.Key keys.AtMost) refl refl refl) (more_off a (kind.Key keys.Greater) refl refl refl) (more_off a (kind.Key keys.AtLeast) refl refl refl)

      others : (b : List Signed × (Comparison × Term)) (u : List Symbol) → AllByRecursion (SignedFits v) b.0 × (Unit {0} × TermFits v b.1.1) → is_connective (next (plain (each signed b.0 ++ (sign (comparison_key b.1.0) ∷ term b.1.1)) ++ u)) ≡ false
      others ([], (c, t)) u f = comparison_cases (λ k. is_connective k ≡ false) c refl refl refl refl refl refl
      others (x ∷ xs, (c, t)) u f = sign_cases (λ k. is_connective k ≡ false) x.sign refl refl

  after_not_open : (x : After) (u : List Symbol) → is_key keys.Open (next (plain (after_words x) ++ u)) ≡ false
  unfolding after_words
  after_not_open (inl (c, f)) u = connective_cases (λ k. is_key keys.Open k ≡ false) c refl refl refl
  after_not_open (inr ([], (c, t))) u = comparison_cases (λ k. is_key keys.Open k ≡ false) c refl refl refl refl refl refl
  after_not_open (inr (x ∷ xs, (c, t))) u = sign_cases (λ k. is_key keys.Open k ≡ false) x.sign refl refl

  Sides : Type 0
  Sides = (Term × (Comparison × Term)) ⊎ (((ℕ × Reading) × After) ⊎ (Form × (Connective × Form)))

  SidesFit : Sides → Type 0
  unfolding Sides
  SidesFit x = sum_of (λ y. (TermFits v y.0 × (reads y.0.minus y.0.first.product ≡ false)) × (Unit {0} × TermFits v y.1.1)) (λ z. sum_of (λ y. ReadingFits v y.0.1 × AfterFits y.1) (λ y. (F y.0 × (is_atom y.0 ≡ false)) × (Unit {0} × F y.1.1)) z) x

  sides_words : Sides → List Spelt
  unfolding Sides
  sides_words x = sum_of (λ y. term y.0 ++ (sign (comparison_key y.1.0) ∷ term y.1.1)) (λ z. sum_of (λ y. with_place y.0.0 (reading y.0.1) ++ after_words y.1) (λ y. form y.0 ++ (sign (connective_key y.1.0) ∷ form y.1.1)) z) x

  pub inside_part : (some : Form) → F some → is_atom some ≡ false → AreWords (plain (form some)) → Part SameInside (InsideFits v F) inside (inside_at v r) inside_on
  unfolding inside_at Sides SidesFit sides_words after_words AfterFits SameAfter after_on
  inside_part some some_fits some_other some_words =
      let compare_first = then_part first_part (compares v) (λ a b u f g h. term_then v a b u) in
      let read_first = then_part (atom_part v) after_part (λ a b u f g h. group_off a.1.args (next (plain (after_words b) ++ u)) (after_not_open b u)) in
      let form_first = then_part (other_part some some_fits some_other some_words) (then_part connective_part P (λ a b u f g h. refl)) (λ a b u f g h. connective_cases (λ k. form_on a k ≡ false) b.0 (form_off a (kind.Key keys.And) refl) (form_off a (kind.Key keys.Or) refl) (form_off a (kind.Key keys.Implies) refl)) in
      let named = either_part (is_name v) read_first form_first (λ a u f. f.0.0) (λ b u f. not_name b.0 (sign (connective_key b.1.0) ∷ form b.1.1) u f.0.1) in
      viewed_part to_inside back (either_part starts_term compare_first named begins others) (record {
        spelled = spelled;
        fits = fits;
        on_to = on_to;
        same = same;
        to_back = to_back;
        back_fits = back_fits;
      })
    where
      begins : (a : Term × (Comparison × Term)) (u : List Symbol) → (TermFits v a.0 × (reads a.0.minus a.0.first.product ≡ false)) × (Unit {0} × TermFits v a.1.1) → starts_term (next (plain (term a.0 ++ (sign (comparison_key a.1.0) ∷ term a.1.1)) ++ u)) ≡ true
      begins a u f = ap (λ (t : List Symbol). starts_term (next t)) (regroup (term a.0) (sign (comparison_key a.1.0) ∷ term a.1.1) u) ∙ begun a.0 (plain (sign (comparison_key a.1.0) ∷ term a.1.1) ++ u) f.0.1

      others : (b : ((ℕ × Reading) × After) ⊎ (Form × (Connective × Form))) (u : List Symbol) → sum_of (λ y. ReadingFits v y.0.1 × AfterFits y.1) (λ y. (F y.0 × (is_atom y.0 ≡ false)) × (Unit {0} × F y.1.1)) b
          → starts_term (next (plain (sum_of (λ y. with_place y.0.0 (reading y.0.1) ++ after_words y.1) (λ y. form y.0 ++ (sign (connective_key y.1.0) ∷ form y.1.1)) b) ++ u)) ≡ false
      others (inl (x, y)) u f = name_not_start x.1.name.text
      others (inr (f, (c, g))) u h = no_term f (sign (connective_key c) ∷ form g) u h.0.1

      back_compared : ℕ → Bool → Product → List Signed → Comparison → Term → Sides
      back_compared w true x xs c t = inl (record { minus = true; first = record { word = w; product = x }; more = xs }, (c, t))
      back_compared w false (products.Number f) xs c t = inl (record { minus = false; first = record { word = w; product = products.Number f }; more = xs }, (c, t))
      back_compared w false (products.Times f r) xs c t = inl (record { minus = false; first = record { word = w; product = products.Times f r }; more = xs }, (c, t))
      back_compared w false (products.Reading r) xs c t = inr (inl ((w, r), inr (xs, (c, t))))

      back_connected : Form → Connective → Form → Sides
      back_connected (has_form w r) c g = inr (inl ((w, r), inl (c, g)))
      back_connected (true_form w) c g = inr (inr (true_form w, (c, g)))
      back_connected (false_form w) c g = inr (inr (false_form w, (c, g)))
      back_connected (not_form w f) c g = inr (inr (not_form w f, (c, g)))
      back_connected (connect_form w f d h) c g = inr (inr (connect_form w f d h, (c, g)))
      back_connected (compare_form w s d t) c g = inr (inr (compare_form w s d t, (c, g)))

      back : Inside → Sides
      back (compared s c t) = back_compared s.first.word s.minus s.first.product s.more c t
      back (connected f c g) = back_connected f c g

      spelled : (a : Sides) → SidesFit a → sides_words a ≡ inside (to_inside a)
      spelled (inl x) f = refl
      spelled (inr (inl (x, inl y))) f = refl
      spelled (inr (inl (x, inr y))) f = sym (append_assoc (with_place x.0 (reading x.1)) (each signed y.0) (sign (comparison_key y.1.0) ∷ term y.1.1))
      spelled (inr (inr x)) f = refl

      fits : (a : Sides) → SidesFit a → InsideFits v F (to_inside a)
      fits (inl x) f = (f.0.0, f.1.1)
      fits (inr (inl (x, inl y))) f = (fits_atom x.0 x.1 f.0, f.1.1)
      fits (inr (inl (x, inr y))) f = ((f.0, f.1.0), f.1.1.1)
      fits (inr (inr x)) f = (f.0.0, f.1.1)

      on_to : (a : Sides) (k : Kind) → SidesFit a → sum_of (λ y. term_on y.1.1) (λ z. sum_of (λ y. after_on y.1) (λ y. form_on y.1.1) z) a k ≡ inside_on (to_inside a) k
      on_to (inl x) k f = refl
      on_to (inr (inl (x, inl y))) k f = refl
      on_to (inr (inl (x, inr y))) k f = refl
      on_to (inr (inr x)) k f = refl

      same : (a b : Sides) → sum_same (λ x y. SameTerm x.0 y.0 × ((x.1.0 ≡ y.1.0) × SameTerm x.1.1 y.1.1)) (λ x y. sum_same (λ p q. SameReading p.0.1 q.0.1 × SameAfter p.1 q.1) (λ p q. SameForm p.0 q.0 × ((p.1.0 ≡ q.1.0) × SameForm p.1.1 q.1.1)) x y) a b → SameInside (to_inside a) (to_inside b)
      same (inl x) (inl y) h = (h.0, h.1.0, h.1.1)
      same (inl x) (inr y) h = absurd h
      same (inr x) (inl y) h = absurd h
      same (inr (inl x)) (inr (inr y)) h = absurd h
      same (inr (inr x)) (inr (inl y)) h = absurd h
      same (inr (inl (x, inl p))) (inr (inl (y, inl q))) h = (h.0, h.1.0, h.1.1)
      same (inr (inl (x, inl p))) (inr (inl (y, inr q))) h = absurd h.1
      same (inr (inl (x, inr p))) (inr (inl (y, inl q))) h = absurd h.1
      same (inr (inl (x, inr p))) (inr (inl (y, inr q))) h = ((refl, h.0, h.1.0), h.1.1.0, h.1.1.1)
      same (inr (inr x)) (inr (inr y)) h = (h.0, h.1.0, h.1.1)

      to_back : (b : Inside) → InsideFits v F b → to_inside (back b) ≡ b
      to_back (compared s c t) f = by s.minus s.first.product
        where
          by : (b : Bool) (x : Product) → to_inside (back_compared s.first.word b x s.more c t) ≡ compared (record { minus = b; first = record { word = s.first.word; product = x }; more = s.more }) c t
          by true x = refl
          by false (products.Number f) = refl
          by false (products.Times f r) = refl
          by false (products.Reading r) = refl
      to_back (connected (has_form w r) c g) f = refl
      to_back (connected (true_form w) c g) f = refl
      to_back (connected (false_form w) c g) f = refl
      to_back (connected (not_form w h) c g) f = refl
      to_back (connected (connect_form w h d i) c g) f = refl
      to_back (connected (compare_form w s d t) c g) f = refl

      back_fits : (b : Inside) → InsideFits v F b → SidesFit (back b)
      back_fits (compared s c t) f = by s.minus s.first.product f.0.0
        where
          by : (b : Bool) (x : Product) → ProductFits v x → SidesFit (back_compared s.first.word b x s.more c t)
          by true x h = (((h, f.0.1), refl), (tt, f.1))
          by false (products.Number n) h = (((h, f.0.1), refl), (tt, f.1))
          by false (products.Times n r) h = (((h, f.0.1), refl), (tt, f.1))
          by false (products.Reading r) h = (h, (f.0.1, (tt, f.1)))
      back_fits (connected (has_form w r) c g) f = (atom_fits w r f.0, (tt, f.1))
      back_fits (connected (true_form w) c g) f = ((f.0, refl), (tt, f.1))
      back_fits (connected (false_form w) c g) f = ((f.0, refl), (tt, f.1))
      back_fits (connected (not_form w h) c g) f = ((f.0, refl), (tt, f.1))
      back_fits (connected (connect_form w h d i) c g) f = ((f.0, refl), (tt, f.1))
      back_fits (connected (compare_form w s d t) c g) f = ((f.0, refl), (tt, f.1))

-- ---- formulas

abbrev pub BracketFits : (Inside → Type 0) → Form → Type 0
BracketFits I (connect_form w f c g) = I (connected f c g)
BracketFits I (compare_form w s c t) = I (compared s c t)
BracketFits I (has_form w r) = ⊥
BracketFits I (true_form w) = ⊥
BracketFits I (false_form w) = ⊥
BracketFits I (not_form w f) = ⊥

abbrev pub PlainFits : Version → (Inside → Type 0) → Form → Type 0
PlainFits v I (connect_form w f c g) = I (connected f c g)
PlainFits v I (compare_form w s c t) = I (compared s c t)
PlainFits v I (has_form w r) = ReadingFits v r
PlainFits v I (true_form w) = Unit {0}
PlainFits v I (false_form w) = Unit {0}
PlainFits v I (not_form w f) = ⊥

module _ (v : Version) (I : Inside → Type 0) (r : List Token → Read Inside) (P : Part SameInside I inside r inside_on) where
  bracket_part : Part SameForm (BracketFits I) form (bracket_at r) (λ f k. false)
  bracket_part = viewed_part to_bracket back (then_part (key_part keys.Open) (then_part P (sign_part keys.Close) (λ a b u f g h. inside_off a (kind.Key keys.Close) refl refl refl)) (λ a b u f g h. refl)) (record {
    spelled = spelled;
    fits = fits;
    on_to = λ a k f. refl;
    same = same;
    to_back = to_back;
    back_fits = back_fits;
  })
    where
      back : Form → ℕ × (Inside × Unit {0})
      back (connect_form w f c g) = (w, (connected f c g, tt))
      back (compare_form w s c t) = (w, (compared s c t, tt))
      back (has_form w r) = (0, (P.some, tt))
      back (true_form w) = (0, (P.some, tt))
      back (false_form w) = (0, (P.some, tt))
      back (not_form w f) = (0, (P.some, tt))

      spelled : (a : ℕ × (Inside × Unit {0})) → Unit {0} × (I a.1.0 × Unit {0}) → key keys.Open a.0 ∷ (inside a.1.0 ++ sign keys.Close ∷ []) ≡ form (to_bracket a)
      spelled (w, (compared s c t, u)) h = refl
      spelled (w, (connected f c g, u)) h = refl

      fits : (a : ℕ × (Inside × Unit {0})) → Unit {0} × (I a.1.0 × Unit {0}) → BracketFits I (to_bracket a)
      fits (w, (compared s c t, u)) h = h.1.0
      fits (w, (connected f c g, u)) h = h.1.0

      same : (a b : ℕ × (Inside × Unit {0})) → Unit {0} × (SameInside a.1.0 b.1.0 × Unit {0}) → SameForm (to_bracket a) (to_bracket b)
      same (w, (compared s c t, u)) (x, (compared s' d t', y)) h = h.1.0
      same (w, (compared s c t, u)) (x, (connected f c' g, y)) h = absurd h.1.0
      same (w, (connected f c g, u)) (x, (compared s c' t, y)) h = absurd h.1.0
      same (w, (connected f c g, u)) (x, (connected f' c' g', y)) h = h.1.0

      to_back : (b : Form) → BracketFits I b → to_bracket (back b) ≡ b
      to_back (connect_form w f c g) h = refl
      to_back (compare_form w s c t) h = refl
      to_back (has_form w r) h = absurd h
      to_back (true_form w) h = absurd h
      to_back (false_form w) h = absurd h
      to_back (not_form w f) h = absurd h

      back_fits : (b : Form) → BracketFits I b → Unit {0} × (I (back b).1.0 × Unit {0})
      back_fits (connect_form w f c g) h = (tt, (h, tt))
      back_fits (compare_form w s c t) h = (tt, (h, tt))
      back_fits (has_form w r) h = absurd h
      back_fits (true_form w) h = absurd h
      back_fits (false_form w) h = absurd h
      back_fits (not_form w f) h = absurd h

  pub plain_part : Part SameForm (PlainFits v I) form (plain_at v r) form_on
  plain_part = viewed_part to_plain back (either_part (is_key keys.True) (key_part keys.True) (either_part (is_key keys.False) (key_part keys.False) (either_part (is_key keys.Open) bracket_part (atom_part v) opens (λ b u f. name_not_key keys.Open b.1.name.text)) (λ a u f. refl) not_false) (λ a u f. refl) not_true) (record {
    spelled = spelled;
    fits = fits;
    on_to = on_to;
    same = same;
    to_back = to_back;
    back_fits = back_fits;
  })
    where
      opens : (a : Form) (u : List Symbol) → BracketFits I a → is_key keys.Open (next (plain (form a) ++ u)) ≡ true
      opens (connect_form w f c g) u h = refl
      opens (compare_form w s c t) u h = refl
      opens (has_form w r) u h = absurd h
      opens (true_form w) u h = absurd h
      opens (false_form w) u h = absurd h
      opens (not_form w f) u h = absurd h

      not_false : (b : Form ⊎ (ℕ × Reading)) (u : List Symbol) → sum_of (BracketFits I) (λ z. ReadingFits v z.1) b → is_key keys.False (next (plain (sum_of form (λ z. with_place z.0 (reading z.1)) b) ++ u)) ≡ false
      not_false (inr r) u h = name_not_key keys.False r.1.name.text
      not_false (inl (connect_form w f c g)) u h = refl
      not_false (inl (compare_form w s c t)) u h = refl
      not_false (inl (has_form w r)) u h = absurd h
      not_false (inl (true_form w)) u h = absurd h
      not_false (inl (false_form w)) u h = absurd h
      not_false (inl (not_form w f)) u h = absurd h

      not_true : (b : ℕ ⊎ (Form ⊎ (ℕ × Reading))) (u : List Symbol) → sum_of (λ w. Unit {0}) (λ x. sum_of (BracketFits I) (λ z. ReadingFits v z.1) x) b → is_key keys.True (next (plain (sum_of (λ w. key keys.False w ∷ []) (λ x. sum_of form (λ z. with_place z.0 (reading z.1)) x) b) ++ u)) ≡ false
      not_true (inl w) u h = refl
      not_true (inr (inr r)) u h = name_not_key keys.True r.1.name.text
      not_true (inr (inl (connect_form w f c g))) u h = refl
      not_true (inr (inl (compare_form w s c t))) u h = refl
      not_true (inr (inl (has_form w r))) u h = absurd h
      not_true (inr (inl (true_form w))) u h = absurd h
      not_true (inr (inl (false_form w))) u h = absurd h
      not_true (inr (inl (not_form w f))) u h = absurd h

      back : Form → ℕ ⊎ (ℕ ⊎ (Form ⊎ (ℕ × Reading)))
      back (connect_form w f c g) = inr (inr (inl (connect_form w f c g)))
      back (compare_form w s c t) = inr (inr (inl (compare_form w s c t)))
      back (has_form w r) = inr (inr (inr (w, r)))
      back (true_form w) = inl w
      back (false_form w) = inr (inl w)
      back (not_form w f) = inl 0

      spelled : (a : ℕ ⊎ (ℕ ⊎ (Form ⊎ (ℕ × Reading)))) → sum_of (λ w. Unit {0}) (λ y. sum_of (λ w. Unit {0}) (λ x. sum_of (BracketFits I) (λ z. ReadingFits v z.1) x) y) a → sum_of (λ w. key keys.True w ∷ []) (λ y. sum_of (λ w. key keys.False w ∷ []) (λ x. sum_of form (λ z. with_place z.0 (reading z.1)) x) y) a ≡ form (to_plain a)
      spelled (inl w) h = refl
      spelled (inr (inl w)) h = refl
      spelled (inr (inr (inl f))) h = refl
      spelled (inr (inr (inr r))) h = refl

      bracket_plain : (f : Form) → BracketFits I f → PlainFits v I f
      bracket_plain (connect_form w f c g) h = h
      bracket_plain (compare_form w s c t) h = h
      bracket_plain (has_form w r) h = absurd h
      bracket_plain (true_form w) h = absurd h
      bracket_plain (false_form w) h = absurd h
      bracket_plain (not_form w f) h = absurd h

      fits : (a : ℕ ⊎ (ℕ ⊎ (Form ⊎ (ℕ × Reading)))) → sum_of (λ w. Unit {0}) (λ y. sum_of (λ w. Unit {0}) (λ x. sum_of (BracketFits I) (λ z. ReadingFits v z.1) x) y) a → PlainFits v I (to_plain a)
      fits (inl w) h = tt
      fits (inr (inl w)) h = tt
      fits (inr (inr (inl f))) h = bracket_plain f h
      fits (inr (inr (inr r))) h = h

      closed : (f : Form) (k : Kind) → BracketFits I f → false ≡ form_on f k
      closed (connect_form w f c g) k h = refl
      closed (compare_form w s c t) k h = refl
      closed (has_form w r) k h = absurd h
      closed (true_form w) k h = absurd h
      closed (false_form w) k h = absurd h
      closed (not_form w f) k h = absurd h

      on_to : (a : ℕ ⊎ (ℕ ⊎ (Form ⊎ (ℕ × Reading)))) (k : Kind) → sum_of (λ w. Unit {0}) (λ y. sum_of (λ w. Unit {0}) (λ x. sum_of (BracketFits I) (λ z. ReadingFits v z.1) x) y) a → sum_of (λ w j. false) (λ y. sum_of (λ w j. false) (λ x. sum_of (λ f j. false) (λ z. reading_on z.1) x) y) a k ≡ form_on (to_plain a) k
      on_to (inl w) k h = refl
      on_to (inr (inl w)) k h = refl
      on_to (inr (inr (inl f))) k h = closed f k h
      on_to (inr (inr (inr r))) k h = refl

      same : (a b : ℕ ⊎ (ℕ ⊎ (Form ⊎ (ℕ × Reading)))) → sum_same (λ w x. Unit {0}) (λ y z. sum_same (λ w x. Unit {0}) (λ p q. sum_same SameForm (λ a b. SameReading a.1 b.1) p q) y z) a b → SameForm (to_plain a) (to_plain b)
      same (inl w) (inl x) h = tt
      same (inl w) (inr x) h = absurd h
      same (inr w) (inl x) h = absurd h
      same (inr (inl w)) (inr (inl x)) h = tt
      same (inr (inl w)) (inr (inr x)) h = absurd h
      same (inr (inr w)) (inr (inl x)) h = absurd h
      same (inr (inr (inl f))) (inr (inr (inl g))) h = h
      same (inr (inr (inl f))) (inr (inr (inr r))) h = absurd h
      same (inr (inr (inr r))) (inr (inr (inl f))) h = absurd h
      same (inr (inr (inr r))) (inr (inr (inr s))) h = h

      to_back : (b : Form) → PlainFits v I b → to_plain (back b) ≡ b
      to_back (connect_form w f c g) h = refl
      to_back (compare_form w s c t) h = refl
      to_back (has_form w r) h = refl
      to_back (true_form w) h = refl
      to_back (false_form w) h = refl
      to_back (not_form w f) h = absurd h

      back_fits : (b : Form) → PlainFits v I b → sum_of (λ w. Unit {0}) (λ y. sum_of (λ w. Unit {0}) (λ x. sum_of (BracketFits I) (λ z. ReadingFits v z.1) x) y) (back b)
      back_fits (connect_form w f c g) h = h
      back_fits (compare_form w s c t) h = h
      back_fits (has_form w r) h = h
      back_fits (true_form w) h = tt
      back_fits (false_form w) h = tt
      back_fits (not_form w f) h = absurd h

  pub plain_not : (f : Form) (u : List Symbol) → PlainFits v I f → is_key keys.Not (next (plain (form f) ++ u)) ≡ false
  plain_not (connect_form w f c g) u h = refl
  plain_not (compare_form w s c t) u h = refl
  plain_not (has_form w r) u h = name_not_key keys.Not r.name.text
  plain_not (true_form w) u h = refl
  plain_not (false_form w) u h = refl
  plain_not (not_form w f) u h = absurd h

-- a formula that isn't an atom is always there
atom_fits : (v : Version) (d : ℕ) (w : ℕ) (x : Reading) → FormFits v d (has_form w x) → ReadingFits v x
atom_fits v zero w x h = h
atom_fits v (suc d) w x h = h

fits_atom : (v : Version) (d : ℕ) (w : ℕ) (x : Reading) → ReadingFits v x → FormFits v d (has_form w x)
fits_atom v zero w x h = h
fits_atom v (suc d) w x h = h

true_fits : (v : Version) (d : ℕ) → FormFits v d (true_form 0)
true_fits v zero = tt
true_fits v (suc d) = tt

level_part : (v : Version) → Part SameForm (FormFits v 0) form (form_at v 0) form_on
unfolding form_at
level_part v = fits_part (plain_part v (ComparedFits v) (compared_at v) (compared_part v)) there back
  where
    there : (a : Form) → PlainFits v (ComparedFits v) a → FormFits v 0 a
    there (connect_form w f c g) h = h
    there (compare_form w s c t) h = h
    there (has_form w r) h = h
    there (true_form w) h = h
    there (false_form w) h = h
    there (not_form w f) h = h

    back : (a : Form) → FormFits v 0 a → PlainFits v (ComparedFits v) a
    back (connect_form w f c g) h = h
    back (compare_form w s c t) h = h
    back (has_form w r) h = h
    back (true_form w) h = h
    back (false_form w) h = h
    back (not_form w f) h = h

deeper_part : (v : Version) (d : ℕ) → Part SameForm (FormFits v d) form (form_at v d) form_on → Part SameForm (FormFits v (suc d)) form (form_at v (suc d)) form_on
unfolding form_at
deeper_part v d deeper = viewed_part to_form back (either_part (is_key keys.Not) (then_part (key_part keys.Not) deeper (λ a b u f g h. refl)) plains (λ a u f. refl) (λ b u f. plain_not v (InsideFits v (FormFits v d)) (inside_at v (form_at v d)) insides b u f)) (record {
  spelled = spelled;
  fits = fits;
  on_to = on_to;
  same = same;
  to_back = to_back;
  back_fits = back_fits;
})
  where
    insides : Part SameInside (InsideFits v (FormFits v d)) inside (inside_at v (form_at v d)) inside_on
    insides = inside_part v (FormFits v d) (form_at v d) deeper (atom_fits v d) (fits_atom v d) (true_form 0) (true_fits v d) refl (refl, tt)

    plains : Part SameForm (PlainFits v (InsideFits v (FormFits v d))) form (plain_at v (inside_at v (form_at v d))) form_on
    plains = plain_part v (InsideFits v (FormFits v d)) (inside_at v (form_at v d)) insides

    back : Form → (ℕ × Form) ⊎ Form
    back (not_form w f) = inl (w, f)
    back (connect_form w f c g) = inr (connect_form w f c g)
    back (compare_form w s c t) = inr (compare_form w s c t)
    back (has_form w r) = inr (has_form w r)
    back (true_form w) = inr (true_form w)
    back (false_form w) = inr (false_form w)

    spelled : (a : (ℕ × Form) ⊎ Form) → sum_of (λ x. Unit {0} × FormFits v d x.1) (PlainFits v (InsideFits v (FormFits v d))) a → sum_of (λ x. key keys.Not x.0 ∷ form x.1) form a ≡ form (to_form a)
    spelled (inl x) h = refl
    spelled (inr f) h = refl

    there : (f : Form) → PlainFits v (InsideFits v (FormFits v d)) f → FormFits v (suc d) f
    there (connect_form w f c g) h = h
    there (compare_form w s c t) h = h
    there (has_form w r) h = h
    there (true_form w) h = h
    there (false_form w) h = h
    there (not_form w f) h = absurd h

    fits : (a : (ℕ × Form) ⊎ Form) → sum_of (λ x. Unit {0} × FormFits v d x.1) (PlainFits v (InsideFits v (FormFits v d))) a → FormFits v (suc d) (to_form a)
    fits (inl x) h = h.1
    fits (inr f) h = there f h

    on_to : (a : (ℕ × Form) ⊎ Form) (k : Kind) → sum_of (λ x. Unit {0} × FormFits v d x.1) (PlainFits v (InsideFits v (FormFits v d))) a → sum_of (λ x. form_on x.1) form_on a k ≡ form_on (to_form a) k
    on_to (inl x) k h = refl
    on_to (inr f) k h = refl

    same : (a b : (ℕ × Form) ⊎ Form) → sum_same (λ x y. Unit {0} × SameForm x.1 y.1) SameForm a b → SameForm (to_form a) (to_form b)
    same (inl x) (inl y) h = h.1
    same (inl x) (inr y) h = absurd h
    same (inr x) (inl y) h = absurd h
    same (inr x) (inr y) h = h

    to_back : (b : Form) → FormFits v (suc d) b → to_form (back b) ≡ b
    to_back (not_form w f) h = refl
    to_back (connect_form w f c g) h = refl
    to_back (compare_form w s c t) h = refl
    to_back (has_form w r) h = refl
    to_back (true_form w) h = refl
    to_back (false_form w) h = refl

    back_fits : (b : Form) → FormFits v (suc d) b → sum_of (λ x. Unit {0} × FormFits v d x.1) (PlainFits v (InsideFits v (FormFits v d))) (back b)
    back_fits (not_form w f) h = (tt, h)
    back_fits (connect_form w f c g) h = h
    back_fits (compare_form w s c t) h = h
    back_fits (has_form w r) h = h
    back_fits (true_form w) h = h
    back_fits (false_form w) h = h

pub form_part : (v : Version) (d : ℕ) → Part SameForm (FormFits v d) form (form_at v d) form_on
form_part v zero = level_part v
form_part v (suc d) = deeper_part v d (form_part v d)
