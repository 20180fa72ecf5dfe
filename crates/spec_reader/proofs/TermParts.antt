-- The parts of the grammar up to terms.
use Rattle.std.proofs.Common.{◌≡◌, ℕ, Bool, true, false, cond, ◌||◌, List, [], ◌∷◌, ◌++◌, Option, Some, None, ◌⊎◌, inl, inr, refl, sym, ap, ◌∙◌}
use Rattle.std.proofs.lemmas.Bool.{or_from, or_parts}
use Rattle.std.specs.List.{AllByRecursion}
use Rattle.parser_combinators.specs.declared.token.Key.{Key}
use Rattle.parser_combinators.specs.declared.token.Key.TheVariants as keys
use Rattle.parser_combinators.specs.declared.token.Symbol.{Symbol}
use Rattle.parser_combinators.specs.declared.token.Symbol.TheVariants as symbol
use Rattle.parser_combinators.specs.declared.token.Token.{Token}
use Rattle.parser_combinators.specs.declared.token.Kind.{Kind}
use Rattle.parser_combinators.specs.declared.token.Kind.TheVariants as kind
use Rattle.parser_combinators.specs.declared.token.Version.{Version}
use Rattle.spec_trees.specs.declared.tree.Mark.{Mark}
use Rattle.spec_trees.specs.declared.tree.Figure.{Figure}
use Rattle.spec_trees.specs.declared.tree.Reading.{Reading}
use Rattle.spec_trees.specs.declared.tree.Product.{Product}
use Rattle.spec_trees.specs.declared.tree.Product.TheVariants as products
use Rattle.spec_trees.specs.declared.tree.Summand.{Summand}
use Rattle.spec_trees.specs.declared.tree.Sign.{Sign}
use Rattle.spec_trees.specs.declared.tree.Sign.TheVariants as signs
use Rattle.spec_trees.specs.declared.tree.Signed.{Signed}
use Rattle.spec_trees.specs.declared.tree.Term.{Term}
use Rattle.parser_combinators.specs.Words.{next, kind_of, Spelt, plain, Matches, is_key, is_name, is_number, name_of, value_of, key, sign, each, group, AllSame, with_place}
use Rattle.spec_trees.specs.Spelling.{mark, figure, one, reading, product, summand, sign_key, signed, minus, term}
use Rattle.spec_trees.specs.Trees.{IsFree, ReadingFits, ProductFits, SummandFits, SignedFits, TermFits, SameMark, SameFigure, SameReading, SameProduct, SameSummand, SameSigned, SameTerm}
use Rattle.parser_combinators.specs.Read.{Read, second}
use Rattle.spec_reader.specs.Reading.{name_at, figure_at, args_at, to_reading, reading_at, to_product, times_at, product_at, to_summand, summand_at, is_sign, sign_of, plus_at, to_signed, signed_at, is_some, minus_at, to_term, more_at, term_at}
use Rattle.parser_combinators.proofs.Part.{Part, Joins, both_part, then_part, mapped_part, shaped_part, viewed_part, placed_part, regroup}
use Rattle.parser_combinators.proofs.Choice.{word_part, either_part, perhaps_part, sum_same, sum_of, option_same, option_of}
use Rattle.parser_combinators.proofs.Many.{many_part, list_on, list_on_tail, list_on_false}
use Rattle.parser_combinators.proofs.TextFacts.{a_word}
use Rattle.parser_combinators.proofs.Pieces.{symbol_key, symbol_name, symbol_number, number_not_key, name_not_key, name_not_number, number_is, key_part, sign_part, group_part, group_on, group_off, perhaps_on, perhaps_joins}

-- ---- single words

pub name_part : (v : Version) → Part SameMark (IsFree v) one (name_at v) (λ a j. false)
name_part v = word_part (is_name v) (λ t. record { text = name_of t.symbol; word = t.word }) (λ m. symbol.Name m.text) (λ m. m.word ∷ []) (record {
  single = λ a f. refl;
  is_right = λ a f. f;
  symbol = λ t h. symbol_name v t.symbol h;
  claims = λ t. (refl, tt);
  fits = λ t h. ap (λ (s : Symbol). is_name v (kind_of s)) (sym (symbol_name v t.symbol h)) ∙ h;
  same = λ a b f g e. cc;
  not_end = refl;
  some = record { text = 97 ∷ []; word = 0 };
  some_fits = refl;
  some_word = a_word;
})

pub figure_part : Part SameFigure (λ f. Unit {0}) (λ f. figure f ∷ []) figure_at (λ a j. false)
figure_part = word_part is_number (λ t. record { value = value_of t.symbol; word = t.word }) (λ f. symbol.Number f.value) (λ f. f.word ∷ []) (record {
  single = λ a f. refl;
  is_right = λ a f. number_is a.value;
  symbol = λ t h. symbol_number t.symbol h;
  claims = λ t. (refl, tt);
  fits = λ t h. tt;
  same = λ a b f g e. cc;
  not_end = refl;
  some = record { value = 0; word = 0 };
  some_fits = tt;
  some_word = refl;
})

-- ---- readings

pub args_part : (v : Version) → Part (AllSame SameMark) (AllByRecursion (IsFree v)) (group one) (args_at v) group_on
unfolding args_at
args_part v = group_part (name_part v) (λ a. refl) (λ a. refl)

abbrev pub reading_on : Reading → Kind → Bool
reading_on r k = group_on r.args k

pub reading_part : (v : Version) → Part SameReading (ReadingFits v) reading (reading_at v) reading_on
unfolding reading_at
reading_part v = viewed_part to_reading (λ r. (r.name, r.args)) (then_part (name_part v) (args_part v) (λ a b u f g h. refl)) (record {
  spelled = λ a f. refl;
  fits = λ a f. f;
  on_to = λ a k f. refl;
  same = λ a b h. h;
  to_back = λ b f. refl;
  back_fits = λ b f. f;
})

pub reading_not_key : (k : Key) (r : Reading) (u : List Symbol) → is_key k (next (plain (reading r) ++ u)) ≡ false
reading_not_key k r u = name_not_key k r.name.text

-- ---- summands

abbrev pub product_on : Product → Kind → Bool
product_on (products.Number f) k = is_key keys.Star k
product_on (products.Times f r) k = reading_on r k
product_on (products.Reading r) k = reading_on r k

pub product_off : (s : Product) (k : Kind) → is_key keys.Open k ≡ false → is_key keys.Star k ≡ false → product_on s k ≡ false
product_off (products.Number f) k h g = g
product_off (products.Times f r) k h g = group_off r.args k h
product_off (products.Reading r) k h g = group_off r.args k h

pub product_part : (v : Version) → Part SameProduct (ProductFits v) product (product_at v) product_on
unfolding product_at
product_part v = viewed_part to_product back (either_part is_number (both_part (λ x. option_of (is_key keys.Star) reading_on x.1) figure_part (perhaps_part (is_key keys.Star) times_part (λ a u f. refl)) (record { second = λ a b k h. h; first = λ a b u f g h. refl; end = λ a b u h k. k })) (reading_part v) (λ a u f. number_is a.0.value) (λ b u f. name_not_number b.name.text)) (record {
  spelled = spelled;
  fits = fits;
  on_to = on_to;
  same = same;
  to_back = to_back;
  back_fits = back_fits;
})
  where
    times_part : Part SameReading (ReadingFits v) (λ r. sign keys.Star ∷ reading r) (times_at v) reading_on
    times_part = viewed_part second (λ a. (tt, a)) (then_part (sign_part keys.Star) (reading_part v) (λ a b u f g h. refl)) (record {
      spelled = λ a f. refl;
      fits = λ a f. f.1;
      on_to = λ a k f. refl;
      same = λ a b h. h.1;
      to_back = λ b f. refl;
      back_fits = λ b f. (tt, f);
    })

    back : Product → (Figure × Option Reading) ⊎ Reading
    back (products.Number f) = inl (f, None)
    back (products.Times f r) = inl (f, Some r)
    back (products.Reading r) = inr r

    pA : (Figure × Option Reading) ⊎ Reading → List Spelt
    pA x = sum_of (λ x. figure x.0 ∷ option_of [] (λ r. sign keys.Star ∷ reading r) x.1) reading x

    FA : (Figure × Option Reading) ⊎ Reading → Type 0
    FA x = sum_of (λ x. Unit {0} × option_of (Unit {0}) (ReadingFits v) x.1) (ReadingFits v) x

    oA : (Figure × Option Reading) ⊎ Reading → Kind → Bool
    oA x = sum_of (λ x. option_of (is_key keys.Star) reading_on x.1) reading_on x

    SA : (Figure × Option Reading) ⊎ Reading → (Figure × Option Reading) ⊎ Reading → Type 0
    SA x y = sum_same (λ x y. SameFigure x.0 y.0 × option_same SameReading x.1 y.1) SameReading x y

    spelled : (a : (Figure × Option Reading) ⊎ Reading) → FA a → pA a ≡ product (to_product a)
    spelled (inl (f, None)) h = refl
    spelled (inl (f, Some r)) h = refl
    spelled (inr r) h = refl

    fits : (a : (Figure × Option Reading) ⊎ Reading) → FA a → ProductFits v (to_product a)
    fits (inl (f, None)) h = tt
    fits (inl (f, Some r)) h = h.1
    fits (inr r) h = h

    on_to : (a : (Figure × Option Reading) ⊎ Reading) (k : Kind) → FA a → oA a k ≡ product_on (to_product a) k
    on_to (inl (f, None)) k h = refl
    on_to (inl (f, Some r)) k h = refl
    on_to (inr r) k h = refl

    same : (a b : (Figure × Option Reading) ⊎ Reading) → SA a b → SameProduct (to_product a) (to_product b)
    same (inl (f, None)) (inl (g, None)) s = s.0
    same (inl (f, None)) (inl (g, Some r)) s = absurd s.1
    same (inl (f, Some r)) (inl (g, None)) s = absurd s.1
    same (inl (f, Some r)) (inl (g, Some t)) s = s
    same (inl x) (inr r) s = absurd s
    same (inr r) (inl x) s = absurd s
    same (inr r) (inr t) s = s

    to_back : (b : Product) → ProductFits v b → to_product (back b) ≡ b
    to_back (products.Number f) h = refl
    to_back (products.Times f r) h = refl
    to_back (products.Reading r) h = refl

    back_fits : (b : Product) → ProductFits v b → FA (back b)
    back_fits (products.Number f) h = (tt, tt)
    back_fits (products.Times f r) h = (tt, h)
    back_fits (products.Reading r) h = h

abbrev pub summand_on : Summand → Kind → Bool
summand_on s k = product_on s.product k

pub summand_part : (v : Version) → Part SameSummand (SummandFits v) summand (summand_at v) summand_on
unfolding summand_at
summand_part v = viewed_part to_summand (λ s. (s.word, s.product)) (placed_part (product_part v)) (record {
  spelled = λ a f. refl;
  fits = λ a f. f;
  on_to = λ a k f. refl;
  same = λ a b h. h;
  to_back = λ b f. refl;
  back_fits = λ b f. f;
})

-- ---- terms

abbrev pub signed_on : Signed → Kind → Bool
signed_on s k = product_on s.summand.product k

pub sign_cases : (P : Kind → Type 0) (s : Sign) → P (kind.Key keys.Plus) → P (kind.Key keys.Minus) → P (kind.Key (sign_key s))
sign_cases P signs.Plus a b = a
sign_cases P signs.Minus a b = b

plus_part : Part (λ x y. x.0 ≡ y.0) (λ x. Unit {0}) (λ x. key (sign_key x.0) x.1 ∷ []) plus_at (λ a k. false)
plus_part = word_part is_sign (λ t. (sign_of (kind_of t.symbol), t.word)) (λ x. symbol.Key (sign_key x.0)) (λ x. x.1 ∷ []) (record {
  single = λ a f. refl;
  is_right = λ a f. sign_cases (λ k. is_sign k ≡ true) a.0 refl refl;
  symbol = λ t h. is_it t.symbol h;
  claims = λ t. (refl, tt);
  fits = λ t h. tt;
  same = λ a b f g e. same a.0 b.0 e;
  not_end = refl;
  some = (signs.Plus, 0);
  some_fits = tt;
  some_word = refl;
})
  where
    by : (s : Symbol) (b c : Bool) → (b ≡ true → s ≡ symbol.Key keys.Plus) → (c ≡ true → s ≡ symbol.Key keys.Minus) → (b || c) ≡ true → s ≡ symbol.Key (sign_key (cond b signs.Plus signs.Minus))
    by s true c f g h = f refl
    by s false c f g h = g h

    is_it : (s : Symbol) → is_sign (kind_of s) ≡ true → s ≡ symbol.Key (sign_key (sign_of (kind_of s)))
    is_it s h = by s (is_key keys.Plus (kind_of s)) (is_key keys.Minus (kind_of s)) (symbol_key keys.Plus s) (symbol_key keys.Minus s) h

    same : (a b : Sign) → symbol.Key (sign_key a) ≡ symbol.Key (sign_key b) → a ≡ b
    same signs.Plus signs.Plus e = refl
    same signs.Plus signs.Minus e = absurd cc
    same signs.Minus signs.Plus e = absurd cc
    same signs.Minus signs.Minus e = refl

pub signed_part : (v : Version) → Part SameSigned (SignedFits v) signed (signed_at v) signed_on
unfolding signed_at
signed_part v = viewed_part to_signed (λ s. ((s.sign, s.summand.word), s.summand.product)) (then_part plus_part (product_part v) (λ a b u f g h. refl)) (record {
  spelled = λ a f. refl;
  fits = λ a f. f.1;
  on_to = λ a k f. refl;
  same = λ a b h. h;
  to_back = λ b f. refl;
  back_fits = λ b f. (tt, f);
})

abbrev pub more_on : List Signed → Kind → Bool
more_on = list_on is_sign signed_on

pub signed_begins : (a : Signed) (u : List Symbol) → is_sign (next (plain (signed a) ++ u)) ≡ true
signed_begins a u = sign_cases (λ k. is_sign k ≡ true) a.sign refl refl

pub more_part : (v : Version) → Part (AllSame SameSigned) (AllByRecursion (SignedFits v)) (each signed) (more_at v) more_on
unfolding more_at
more_part v = many_part is_sign (signed_part v) (λ a u f. signed_begins a u) (λ a b u f g. sign_cases (λ k. product_on a.summand.product k ≡ false) b.sign (product_off a.summand.product (kind.Key keys.Plus) refl refl) (product_off a.summand.product (kind.Key keys.Minus) refl refl)) refl

-- how a summand and those after it may go on
abbrev pub sum_on : Summand → List Signed → Kind → Bool
sum_on s [] k = summand_on s k || is_sign k
sum_on s (x ∷ xs) k = more_on (x ∷ xs) k

abbrev pub term_on : Term → Kind → Bool
term_on t k = sum_on t.first t.more k

pub sum_joins : (v : Version) → Joins (SummandFits v) summand_on (AllByRecursion (SignedFits v)) (each signed) more_on (λ x. sum_on x.0 x.1)
sum_joins v = record { second = later; first = first; end = end }
  where
    later : (a : Summand) (b : List Signed) (k : Kind) → sum_on a b k ≡ false → more_on b k ≡ false
    later a [] k h = (or_parts (summand_on a k) (is_sign k) h).1
    later a (x ∷ xs) k h = h

    first : (a : Summand) (b : List Signed) (u : List Symbol) → SummandFits v a → AllByRecursion (SignedFits v) b → sum_on a b (next u) ≡ false → summand_on a (next (plain (each signed b) ++ u)) ≡ false
    first a [] u f g h = (or_parts (summand_on a (next u)) (is_sign (next u)) h).0
    first a (x ∷ xs) u f g h = sign_cases (λ k. summand_on a k ≡ false) x.sign (product_off a.product (kind.Key keys.Plus) refl refl) (product_off a.product (kind.Key keys.Minus) refl refl)

    end : (a : Summand) (b : List Signed) (u : List Symbol) → summand_on a (next (plain (each signed b) ++ u)) ≡ false → more_on b (next u) ≡ false → sum_on a b (next u) ≡ false
    end a [] u h k = or_from (summand_on a (next u)) (is_sign (next u)) h k
    end a (x ∷ xs) u h k = k

abbrev pub minus_on : Bool → Kind → Bool
minus_on x k = cond x false (is_key keys.Minus k)

pub minus_part : Part (λ x y. x ≡ y) (λ x. Unit {0}) minus minus_at minus_on
minus_part = viewed_part is_some back (perhaps_part (is_key keys.Minus) (sign_part keys.Minus) (λ a u f. refl)) (record {
  spelled = spelled;
  fits = λ a f. tt;
  on_to = on_to;
  same = same;
  to_back = to_back;
  back_fits = back_fits;
})
  where
    back : Bool → Option (Unit {0})
    back true = Some tt
    back false = None

    spelled : (a : Option (Unit {0})) → option_of (Unit {0}) (λ u. Unit {0}) a → option_of [] (λ u. sign keys.Minus ∷ []) a ≡ minus (is_some a)
    spelled None f = refl
    spelled (Some u) f = refl

    on_to : (a : Option (Unit {0})) (k : Kind) → option_of (Unit {0}) (λ u. Unit {0}) a → option_of (is_key keys.Minus) (λ u k. false) a k ≡ minus_on (is_some a) k
    on_to None k f = refl
    on_to (Some u) k f = refl

    same : (a b : Option (Unit {0})) → option_same (λ u v. Unit {0}) a b → is_some a ≡ is_some b
    same None None h = refl
    same None (Some u) h = absurd h
    same (Some u) None h = absurd h
    same (Some u) (Some w) h = refl

    to_back : (b : Bool) → Unit {0} → is_some (back b) ≡ b
    to_back true f = refl
    to_back false f = refl

    back_fits : (b : Bool) → Unit {0} → option_of (Unit {0}) (λ u. Unit {0}) (back b)
    back_fits true f = tt
    back_fits false f = tt

pub minus_off : (x b : Bool) → b ≡ false → cond x false b ≡ false
minus_off true b h = refl
minus_off false b h = h

pub summand_not_key : (k : Key) (s : Summand) (u : List Symbol) → is_key k (next (plain (summand s) ++ u)) ≡ false
summand_not_key k s u = by s.product
  where
    by : (p : Product) → is_key k (next (plain (with_place s.word (product p)) ++ u)) ≡ false
    by (products.Number f) = number_not_key k f.value
    by (products.Times f r) = number_not_key k f.value
    by (products.Reading r) = name_not_key k r.name.text

pub term_part : (v : Version) → Part SameTerm (TermFits v) term (term_at v) term_on
unfolding term_at
term_part v = viewed_part to_term (λ t. (t.minus, (t.first, t.more))) (then_part minus_part (both_part (λ x. sum_on x.0 x.1) (summand_part v) (more_part v) (sum_joins v)) first) (record {
  spelled = λ a f. refl;
  fits = λ a f. f.1;
  on_to = λ a k f. refl;
  same = λ a b h. (h.0, h.1.0, h.1.1);
  to_back = λ b f. refl;
  back_fits = λ b f. (tt, f);
})
  where
    first : (a : Bool) (b : Summand × List Signed) (u : List Symbol) → Unit {0} → SummandFits v b.0 × AllByRecursion (SignedFits v) b.1 → sum_on b.0 b.1 (next u) ≡ false → cond a false (is_key keys.Minus (next (plain (summand b.0 ++ each signed b.1) ++ u))) ≡ false
    first a b u f g h = minus_off a _ (ap (λ (t : List Symbol). is_key keys.Minus (next t)) (regroup (summand b.0) (each signed b.1) u) ∙ summand_not_key keys.Minus b.0 (plain (each signed b.1) ++ u))
