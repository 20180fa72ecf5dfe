-- The parts of the grammar from variables to the lines of an operation.
use Rattle.std.proofs.Common.{◌≡◌, ℕ, Bool, true, false, cond, ◌||◌, List, [], ◌∷◌, ◌++◌, Option, Some, None, Ok, ◌⊎◌, inl, inr, refl, sym, ap, subst, ◌∙◌}
use Rattle.std.proofs.lemmas.Bool.{or_from, or_parts}
use Rattle.std.specs.List.{AllByRecursion}
use Rattle.std.specs.Str.{bytes_eq}
use Rattle.std.proofs.lemmas.Slice.Eq.{bytes_eq-Decides}
use Rattle.parser_combinators.specs.declared.token.Key.{Key}
use Rattle.parser_combinators.specs.declared.token.Key.TheVariants as keys
use Rattle.parser_combinators.specs.declared.token.Symbol.{Symbol}
use Rattle.parser_combinators.specs.declared.token.Symbol.TheVariants as symbol
use Rattle.parser_combinators.specs.declared.token.Token.{Token}
use Rattle.parser_combinators.specs.declared.token.Kind.{Kind}
use Rattle.parser_combinators.specs.declared.token.Kind.TheVariants as kind
use Rattle.parser_combinators.specs.declared.token.Version.{Version}
use Rattle.parser_combinators.specs.declared.token.Version.TheVariants as version
use Rattle.parser_combinators.specs.Words.{next, kind_of, Spelt, plain, Matches, shared_text, exclusive_text, observes_text, name_kind, number_kind, is_key, key, sign, each, listed, group, AllSame, NotEmpty}
use Rattle.parser_combinators.specs.Texts.{AreWords}
use Rattle.parser_combinators.specs.Read.{Read, second, word_at}
use Rattle.parser_combinators.proofs.Part.{Part, Joins, both_part, then_part, viewed_part, shaped_part, fits_part, ok_is, regroup}
use Rattle.parser_combinators.proofs.Choice.{word_part, either_part, perhaps_part, sum_same, sum_of, option_same, option_of, clash}
use Rattle.parser_combinators.proofs.Many.{many_part, list_on, list_on_false}
use Rattle.parser_combinators.proofs.TextFacts.{shared_word, observes_word}
use Rattle.parser_combinators.proofs.Pieces.{symbol_key, name_kind_cases, number_kind_cases, name_not_key, key_part, sign_part, listed_part, group_part, group_on, group_off, perhaps_on, perhaps_joins}
use Rattle.spec_trees.specs.declared.tree.Mark.{Mark}
use Rattle.spec_trees.specs.declared.tree.Reading.{Reading}
use Rattle.spec_trees.specs.declared.tree.Product.{Product}
use Rattle.spec_trees.specs.declared.tree.Product.TheVariants as products
use Rattle.spec_trees.specs.declared.tree.Term.{Term}
use Rattle.spec_trees.specs.declared.tree.Spot.{Spot}
use Rattle.spec_trees.specs.declared.tree.Spot.TheVariants as spots
use Rattle.spec_trees.specs.declared.tree.Mode.{Mode}
use Rattle.spec_trees.specs.declared.tree.Mode.TheVariants as modes
use Rattle.spec_trees.specs.declared.tree.Quantifier.{Quantifier}
use Rattle.spec_trees.specs.declared.tree.Quantifier.TheVariants as quantifiers
use Rattle.spec_trees.specs.declared.tree.Prefix.{Prefix}
use Rattle.spec_trees.specs.declared.tree.Variable.{Variable}
use Rattle.spec_trees.specs.Form.{Form, true_form, false_form, not_form, connect_form, has_form, compare_form, Sentence, LineForm, requires_form, insert_form, remove_form, add_form, set_form, takes_form, observes_form}
use Rattle.spec_trees.specs.Spelling.{mark, one, reading, summand, signed, minus, term, form, variable, quantifier_key, prefix, sentence, spot, mode, guard, line}
use Rattle.spec_trees.specs.Trees.{IsFree, ReadingFits, TermFits, FormFits, VariableFits, PrefixFits, SentenceFits, SpotFits, ModeFits, GuardFits, LineFits, SameMark, SameReading, SameTerm, SameForm, SameVariable, SamePrefix, SameSentence, SameSpot, SameGuard, SameLine}
use Rattle.spec_reader.specs.Reading.{is_sign, to_variable, variable_at, is_quantifier, quantifier_of, quantifier_at, variables_at, to_prefix, prefix_at, to_sentence, sentence_at, to_spot, spot_at, spots_at, when_at, guard_at, is_mode, mode_of, to_mode, mode_at, Change, Amount, change_at, amount_at, takes_at, requires_at, to_old_line, old_line_at, is_observes, observes_at, to_line, line_at, starts_old_line, starts_line, lines_at}
use Rattle.spec_reader.proofs.TermParts.{name_part, reading_on, reading_part, term_on, term_part, summand_not_key}
use Rattle.spec_reader.proofs.FormParts.{form_on, form_off, form_part, term_off}

-- ---- formulas with variables

pub variable_part : (v : Version) → Part SameVariable (VariableFits v) variable (variable_at v) (λ x k. false)
unfolding variable_at
variable_part v = viewed_part to_variable (λ x. (x.name, (tt, x.sort))) (then_part (name_part v) (then_part (sign_part keys.Colon) (name_part v) (λ a b u f g h. refl)) (λ a b u f g h. refl)) (record {
  spelled = λ a f. refl;
  fits = λ a f. (f.0, f.1.1);
  on_to = λ a k f. refl;
  same = λ a b h. (h.0, h.1.1);
  to_back = λ b f. refl;
  back_fits = λ b f. (f.0, (tt, f.1));
})

pub quantifier_cases : (P : Kind → Type 0) (q : Quantifier) → P (kind.Key keys.Forall) → P (kind.Key keys.Exists) → P (kind.Key (quantifier_key q))
quantifier_cases P quantifiers.Forall a b = a
quantifier_cases P quantifiers.Exists a b = b

quantifier_part : Part (λ x y. x.0 ≡ y.0) (λ x. Unit {0}) (λ x. key (quantifier_key x.0) x.1 ∷ []) quantifier_at (λ a k. false)
quantifier_part = word_part is_quantifier (λ t. (quantifier_of (kind_of t.symbol), t.word)) (λ x. symbol.Key (quantifier_key x.0)) (λ x. x.1 ∷ []) (record {
  single = λ a f. refl;
  is_right = λ a f. quantifier_cases (λ k. is_quantifier k ≡ true) a.0 refl refl;
  symbol = λ t h. is_it t.symbol h;
  claims = λ t. (refl, tt);
  fits = λ t h. tt;
  same = λ a b f g e. same a.0 b.0 e;
  not_end = refl;
  some = (quantifiers.Forall, 0);
  some_fits = tt;
  some_word = refl;
})
  where
    by : (s : Symbol) (b c : Bool) → (b ≡ true → s ≡ symbol.Key keys.Forall) → (c ≡ true → s ≡ symbol.Key keys.Exists) → (b || c) ≡ true → s ≡ symbol.Key (quantifier_key (cond b quantifiers.Forall quantifiers.Exists))
    by s true c f g h = f refl
    by s false c f g h = g h

    is_it : (s : Symbol) → is_quantifier (kind_of s) ≡ true → s ≡ symbol.Key (quantifier_key (quantifier_of (kind_of s)))
    is_it s h = by s (is_key keys.Forall (kind_of s)) (is_key keys.Exists (kind_of s)) (symbol_key keys.Forall s) (symbol_key keys.Exists s) h

    same : (a b : Quantifier) → symbol.Key (quantifier_key a) ≡ symbol.Key (quantifier_key b) → a ≡ b
    same quantifiers.Forall quantifiers.Forall e = refl
    same quantifiers.Forall quantifiers.Exists e = absurd cc
    same quantifiers.Exists quantifiers.Forall e = absurd cc
    same quantifiers.Exists quantifiers.Exists e = refl

pub variables_part : (v : Version) → Part (AllSame SameVariable) (λ xs. NotEmpty xs × AllByRecursion (VariableFits v) xs) (listed variable) (variables_at v) (list_on (is_key keys.Comma) (λ x k. false))
unfolding variables_at
variables_part v = listed_part (variable_part v) (λ a. refl)

prefix_words : Prefix → List Spelt
prefix_words p = key (quantifier_key p.quantifier) p.word ∷ (listed variable p.vars ++ sign keys.Dot ∷ [])

PrefixIs : Version → Prefix → Type 0
PrefixIs v p = NotEmpty p.vars × AllByRecursion (VariableFits v) p.vars

SamePrefixes : Prefix → Prefix → Type 0
SamePrefixes p q = (p.quantifier ≡ q.quantifier) × AllSame SameVariable p.vars q.vars

prefix_part : (v : Version) → Part SamePrefixes (PrefixIs v) prefix_words (prefix_at v) (λ p k. false)
unfolding prefix_at prefix_words PrefixIs SamePrefixes
prefix_part v = viewed_part to_prefix (λ p. ((p.quantifier, p.word), (p.vars, tt))) (then_part quantifier_part (then_part (variables_part v) (sign_part keys.Dot) (λ a b u f g h. list_on_false (is_key keys.Comma) (λ x k. false) a (kind.Key keys.Dot) refl (λ x. refl))) (λ a b u f g h. refl)) (record {
  spelled = λ a f. refl;
  fits = λ a f. f.1.0;
  on_to = λ a k f. refl;
  same = λ a b h. (h.0, h.1.0);
  to_back = λ b f. refl;
  back_fits = λ b f. (tt, (f, tt));
})

form_not_quantifier : (f : Form) (u : List Symbol) → is_quantifier (next (plain (form f) ++ u)) ≡ false
form_not_quantifier (connect_form w f c g) u = refl
form_not_quantifier (compare_form w s c t) u = refl
form_not_quantifier (has_form w r) u = name_kind_cases (λ k. is_quantifier k ≡ false) r.name.text refl refl refl refl refl
form_not_quantifier (true_form w) u = refl
form_not_quantifier (false_form w) u = refl
form_not_quantifier (not_form w f) u = refl

pub sentence_part : (v : Version) (d : ℕ) → Part SameSentence (SentenceFits v d) sentence (sentence_at v d) (λ s. form_on s.body)
unfolding sentence_at prefix_words PrefixIs SamePrefixes
sentence_part v d = viewed_part to_sentence (λ s. (s.prefix, s.body)) (then_part (perhaps_part is_quantifier (prefix_part v) (λ a u f. quantifier_cases (λ k. is_quantifier k ≡ true) a.quantifier refl refl)) (form_part v d) first) (record {
  spelled = spelled;
  fits = fits;
  on_to = λ a k f. refl;
  same = same;
  to_back = λ b f. refl;
  back_fits = back_fits;
})
  where
    first : (a : Option Prefix) (b : Form) (u : List Symbol) → option_of (Unit {0}) (PrefixIs v) a → FormFits v d b → form_on b (next u) ≡ false → option_of is_quantifier (λ p k. false) a (next (plain (form b) ++ u)) ≡ false
    first None b u f g h = form_not_quantifier b u
    first (Some p) b u f g h = refl

    words : (a : Option Prefix) → option_of [] prefix_words a ≡ prefix a
    words None = refl
    words (Some p) = refl

    spelled : (a : Option Prefix × Form) → option_of (Unit {0}) (PrefixIs v) a.0 × FormFits v d a.1 → option_of [] prefix_words a.0 ++ form a.1 ≡ prefix a.0 ++ form a.1
    spelled a f = ap (λ (x : List Spelt). x ++ form a.1) (words a.0)

    fits : (a : Option Prefix × Form) → option_of (Unit {0}) (PrefixIs v) a.0 × FormFits v d a.1 → PrefixFits v a.0 × FormFits v d a.1
    fits (None, b) f = f
    fits (Some p, b) f = f

    same : (a b : Option Prefix × Form) → option_same SamePrefixes a.0 b.0 × SameForm a.1 b.1 → SamePrefix a.0 b.0 × SameForm a.1 b.1
    same (None, f) (None, g) h = h
    same (None, f) (Some q, g) h = absurd h.0
    same (Some p, f) (None, g) h = absurd h.0
    same (Some p, f) (Some q, g) h = h

    by : (p : Option Prefix) → PrefixFits v p → option_of (Unit {0}) (PrefixIs v) p
    by None h = tt
    by (Some p) h = h

    back_fits : (b : Sentence) → SentenceFits v d b → option_of (Unit {0}) (PrefixIs v) b.prefix × FormFits v d b.body
    back_fits b f = (by b.prefix f.0, f.1)

-- ---- spots and guards

pub spot_part : (v : Version) → Part SameSpot (SpotFits v) spot (spot_at v) (λ s k. false)
unfolding spot_at
spot_part v = viewed_part to_spot back (either_part (is_key keys.Star) (sign_part keys.Star) (name_part v) (λ a u f. refl) (λ b u f. name_not_key keys.Star b.text)) (record {
  spelled = spelled;
  fits = fits;
  on_to = on_to;
  same = same;
  to_back = to_back;
  back_fits = back_fits;
})
  where
    back : Spot → Unit {0} ⊎ Mark
    back (spots.One m) = inr m
    back spots.Every = inl tt

    spelled : (a : Unit {0} ⊎ Mark) → sum_of (λ u. Unit {0}) (IsFree v) a → sum_of (λ u. sign keys.Star ∷ []) one a ≡ spot (to_spot a)
    spelled (inl u) f = refl
    spelled (inr m) f = refl

    fits : (a : Unit {0} ⊎ Mark) → sum_of (λ u. Unit {0}) (IsFree v) a → SpotFits v (to_spot a)
    fits (inl u) f = tt
    fits (inr m) f = f

    on_to : (a : Unit {0} ⊎ Mark) (k : Kind) → sum_of (λ u. Unit {0}) (IsFree v) a → sum_of {C = Kind → Bool} (λ u k. false) (λ m k. false) a k ≡ false
    on_to (inl u) k f = refl
    on_to (inr m) k f = refl

    same : (a b : Unit {0} ⊎ Mark) → sum_same (λ u w. Unit {0}) SameMark a b → SameSpot (to_spot a) (to_spot b)
    same (inl u) (inl w) h = tt
    same (inl u) (inr m) h = absurd h
    same (inr m) (inl u) h = absurd h
    same (inr m) (inr n) h = h

    to_back : (b : Spot) → SpotFits v b → to_spot (back b) ≡ b
    to_back (spots.One m) f = refl
    to_back spots.Every f = refl

    back_fits : (b : Spot) → SpotFits v b → sum_of (λ u. Unit {0}) (IsFree v) (back b)
    back_fits (spots.One m) f = f
    back_fits spots.Every f = tt

pub spots_part : (v : Version) → Part (AllSame SameSpot) (AllByRecursion (SpotFits v)) (group spot) (spots_at v) group_on
unfolding spots_at
spots_part v = group_part (spot_part v) (λ a. refl) (λ a. refl)

when_part : (v : Version) (d : ℕ) → Part SameForm (FormFits v d) (λ f. sign keys.When ∷ form f) (when_at v d) form_on
when_part v d = viewed_part second (λ f. (tt, f)) (then_part (sign_part keys.When) (form_part v d) (λ a b u f g h. refl)) (record {
  spelled = λ a f. refl;
  fits = λ a f. f.1;
  on_to = λ a k f. refl;
  same = λ a b h. h.1;
  to_back = λ b f. refl;
  back_fits = λ b f. (tt, f);
})

guard_part : (v : Version) (d : ℕ) → Part (option_same SameForm) (option_of (Unit {0}) (FormFits v d)) (option_of [] (λ f. sign keys.When ∷ form f)) (guard_at v d) (option_of (is_key keys.When) form_on)
unfolding guard_at
guard_part v d = perhaps_part (is_key keys.When) (when_part v d) (λ a u f. refl)

pub guard_words : (g : Option Form) → option_of [] (λ f. sign keys.When ∷ form f) g ≡ guard g
guard_words None = refl
guard_words (Some f) = refl

guard_fits : (v : Version) (d : ℕ) (g : Option Form) → option_of (Unit {0}) (FormFits v d) g → GuardFits v d g
guard_fits v d None f = tt
guard_fits v d (Some g) f = f

fits_guard : (v : Version) (d : ℕ) (g : Option Form) → GuardFits v d g → option_of (Unit {0}) (FormFits v d) g
fits_guard v d None f = tt
fits_guard v d (Some g) f = f

same_guard : (g h : Option Form) → option_same SameForm g h → SameGuard g h
same_guard None None s = tt
same_guard None (Some h) s = absurd s
same_guard (Some g) None s = absurd s
same_guard (Some g) (Some h) s = s

-- ---- modes

abbrev pub mode_on : Version → Mode → Kind → Bool
mode_on version.First m k = false
mode_on version.Second modes.Missing k = is_mode k
mode_on version.Second modes.Shared k = false
mode_on version.Second modes.Exclusive k = false

abbrev IsMode : Mode → Type 0
IsMode modes.Missing = ⊥
IsMode modes.Shared = Unit {0}
IsMode modes.Exclusive = Unit {0}

mode_symbol : Mode → Symbol
mode_symbol modes.Missing = symbol.Number 0
mode_symbol modes.Shared = symbol.Name shared_text
mode_symbol modes.Exclusive = symbol.Name exclusive_text

same_text : (xs ys : List ℕ) → bytes_eq xs ys ≡ true → xs ≡ ys
same_text xs ys h = (bytes_eq-Decides xs ys).0 h

mode_word_part : Part (λ m n. m ≡ n) IsMode mode (word_at is_mode (λ t. mode_of (kind_of t.symbol))) (λ m k. false)
unfolding mode_symbol
mode_word_part = word_part is_mode (λ t. mode_of (kind_of t.symbol)) mode_symbol (λ m. []) (record {
  single = single;
  is_right = is_right;
  symbol = λ t h. is_it t.symbol h;
  claims = λ t. tt;
  fits = λ t h. fits (kind_of t.symbol) h;
  same = same;
  not_end = refl;
  some = modes.Shared;
  some_fits = tt;
  some_word = shared_word;
})
  where
    single : (m : Mode) → IsMode m → mode m ≡ record { symbol = mode_symbol m; claims = [] } ∷ []
    single modes.Missing f = absurd f
    single modes.Shared f = refl
    single modes.Exclusive f = refl

    is_right : (m : Mode) → IsMode m → is_mode (kind_of (mode_symbol m)) ≡ true
    is_right modes.Missing f = absurd f
    is_right modes.Shared f = refl
    is_right modes.Exclusive f = refl

    by : (text : List ℕ) (b c d f : Bool) → (b ≡ true → text ≡ shared_text) → (c ≡ true → text ≡ exclusive_text) → is_mode (cond b kind.Shared (cond c kind.Exclusive (cond d kind.Observes (cond f kind.Unnamed kind.Name)))) ≡ true
        → symbol.Name text ≡ mode_symbol (mode_of (cond b kind.Shared (cond c kind.Exclusive (cond d kind.Observes (cond f kind.Unnamed kind.Name)))))
    by text true c d f p q h = ap symbol.Name (p refl)
    by text false true d f p q h = ap symbol.Name (q refl)
    by text false false true f p q h = absurd cc
    by text false false false true p q h = absurd cc
    by text false false false false p q h = absurd cc

    is_it : (s : Symbol) → is_mode (kind_of s) ≡ true → s ≡ mode_symbol (mode_of (kind_of s))
    is_it (symbol.Name text) h = by text (bytes_eq text shared_text) (bytes_eq text exclusive_text) (bytes_eq text observes_text) _ (same_text text shared_text) (same_text text exclusive_text) h
    is_it (symbol.Number n) h = clash (is_mode (number_kind n)) (is_mode (number_kind n)) h (number_kind_cases (λ k. is_mode k ≡ false) n refl refl refl) refl
    is_it (symbol.Key k) h = absurd cc

    fits : (k : Kind) → is_mode k ≡ true → IsMode (mode_of k)
    fits kind.Shared h = tt
    fits kind.Exclusive h = tt
    fits _ h = absurd cc

    same : (m n : Mode) → IsMode m → IsMode n → mode_symbol m ≡ mode_symbol n → m ≡ n
    same modes.Shared modes.Shared f g e = refl
    same modes.Exclusive modes.Exclusive f g e = refl
    same modes.Shared modes.Exclusive f g e = absurd cc
    same modes.Exclusive modes.Shared f g e = absurd cc
    same modes.Missing n f g e = absurd f
    same m modes.Missing f g e = absurd g

-- nothing at all
nothing_part : {A : Type 0} (a : A) (Fits : A → Type 0) (spelled : A → List Spelt) → Fits a → spelled a ≡ [] → ((b : A) → Fits b → b ≡ a) → Part (λ x y. x ≡ y) Fits spelled (λ ws. Ok (a, ws)) (λ x k. false)
nothing_part {A} a Fits spelled fits none all = record {
  ok = λ ws b rest e. let made : A × List Token = (a, ws) in subst (λ (z : A × List Token). Matches (spelled z.0) ws z.1 × (false ≡ false) × Fits z.0) (ok_is made (b, rest) e) (subst (λ (x : List Spelt). Matches x ws ws) (sym none) refl, refl, fits);
  err = λ ws n e. absurd cc;
  one = λ x y u v f g ou ov e. (all x f ∙ sym (all y g), sym (ap (λ (z : A). plain (spelled z) ++ u) (all x f) ∙ ap (λ (z : List Spelt). plain z ++ u) none) ∙ e ∙ ap (λ (z : A). plain (spelled z) ++ v) (all y g) ∙ ap (λ (z : List Spelt). plain z ++ v) none);
  some = a;
  some_fits = fits;
  some_words = subst (λ (z : List Spelt). AreWords (plain z)) (sym none) tt;
}

mode_part_of : (v : Version) → Part (λ m n. m ≡ n) (ModeFits v) mode (mode_at v) (mode_on v)
unfolding mode_at
mode_part_of version.First = nothing_part modes.Missing (ModeFits version.First) mode tt refl all
  where
    all : (m : Mode) → ModeFits version.First m → m ≡ modes.Missing
    all modes.Missing f = refl
    all modes.Shared f = absurd (cc f)
    all modes.Exclusive f = absurd (cc f)
mode_part_of version.Second = shaped_part to_mode back (perhaps_part is_mode mode_word_part begins) (record {
  spelled = spelled;
  fits = fits;
  on_to = on_to;
  back_spelled = back_spelled;
  back_fits = back_fits;
  back_on = back_on;
  same = same;
})
  where
    begins : (m : Mode) (u : List Symbol) → IsMode m → is_mode (next (plain (mode m) ++ u)) ≡ true
    begins modes.Missing u f = absurd f
    begins modes.Shared u f = refl
    begins modes.Exclusive u f = refl

    back : Mode → Option Mode
    back modes.Missing = None
    back modes.Shared = Some modes.Shared
    back modes.Exclusive = Some modes.Exclusive

    spelled : (a : Option Mode) → option_of (Unit {0}) IsMode a → option_of [] mode a ≡ mode (to_mode a)
    spelled None f = refl
    spelled (Some m) f = refl

    fits : (a : Option Mode) → option_of (Unit {0}) IsMode a → ModeFits version.Second (to_mode a)
    fits None f = tt
    fits (Some modes.Missing) f = absurd f
    fits (Some modes.Shared) f = refl
    fits (Some modes.Exclusive) f = refl

    on_to : (a : Option Mode) (k : Kind) → option_of (Unit {0}) IsMode a → option_of is_mode (λ m j. false) a k ≡ false → mode_on version.Second (to_mode a) k ≡ false
    on_to None k f h = h
    on_to (Some modes.Missing) k f h = absurd f
    on_to (Some modes.Shared) k f h = refl
    on_to (Some modes.Exclusive) k f h = refl

    back_spelled : (m : Mode) → ModeFits version.Second m → option_of [] mode (back m) ≡ mode m
    back_spelled modes.Missing f = refl
    back_spelled modes.Shared f = refl
    back_spelled modes.Exclusive f = refl

    back_fits : (m : Mode) → ModeFits version.Second m → option_of (Unit {0}) IsMode (back m)
    back_fits modes.Missing f = tt
    back_fits modes.Shared f = tt
    back_fits modes.Exclusive f = tt

    back_on : (m : Mode) (k : Kind) → ModeFits version.Second m → mode_on version.Second m k ≡ false → option_of is_mode (λ m j. false) (back m) k ≡ false
    back_on modes.Missing k f h = h
    back_on modes.Shared k f h = h
    back_on modes.Exclusive k f h = h

    same : (m n : Mode) → ModeFits version.Second m → ModeFits version.Second n → option_same (λ x y. x ≡ y) (back m) (back n) → m ≡ n
    same modes.Missing modes.Missing f g h = refl
    same modes.Missing modes.Shared f g h = absurd h
    same modes.Missing modes.Exclusive f g h = absurd h
    same modes.Shared modes.Missing f g h = absurd h
    same modes.Exclusive modes.Missing f g h = absurd h
    same modes.Shared modes.Shared f g h = refl
    same modes.Exclusive modes.Exclusive f g h = refl
    same modes.Shared modes.Exclusive f g h = h
    same modes.Exclusive modes.Shared f g h = h

-- ---- lines

-- a reading may go on where the mode is missing
abbrev pub takes_on : Version → Reading → Mode → Kind → Bool
takes_on v r modes.Missing k = reading_on r k || mode_on v modes.Missing k
takes_on v r modes.Shared k = false
takes_on v r modes.Exclusive k = false

mode_not_open : (v : Version) → Joins (ReadingFits v) reading_on (ModeFits v) mode (mode_on v) (λ x. takes_on v x.0 x.1)
mode_not_open v = record { second = later; first = first; end = end }
  where
    off : (v : Version) (k : Kind) → mode_on v modes.Shared k ≡ false
    off version.First k = refl
    off version.Second k = refl

    other : (v : Version) (k : Kind) → mode_on v modes.Exclusive k ≡ false
    other version.First k = refl
    other version.Second k = refl

    later : (a : Reading) (m : Mode) (k : Kind) → takes_on v a m k ≡ false → mode_on v m k ≡ false
    later a modes.Missing k h = (or_parts (reading_on a k) (mode_on v modes.Missing k) h).1
    later a modes.Shared k h = off v k
    later a modes.Exclusive k h = other v k

    first : (a : Reading) (m : Mode) (u : List Symbol) → ReadingFits v a → ModeFits v m → takes_on v a m (next u) ≡ false → reading_on a (next (plain (mode m) ++ u)) ≡ false
    first a modes.Missing u f g h = (or_parts (reading_on a (next u)) (mode_on v modes.Missing (next u)) h).0
    first a modes.Shared u f g h = group_off a.args kind.Shared refl
    first a modes.Exclusive u f g h = group_off a.args kind.Exclusive refl

    end : (a : Reading) (m : Mode) (u : List Symbol) → reading_on a (next (plain (mode m) ++ u)) ≡ false → mode_on v m (next u) ≡ false → takes_on v a m (next u) ≡ false
    end a modes.Missing u h k = or_from (reading_on a (next u)) (mode_on v modes.Missing (next u)) h k
    end a modes.Shared u h k = refl
    end a modes.Exclusive u h k = refl

-- how what may be guarded goes on
abbrev pub guarded_on : {A : Type 0} → (A → Kind → Bool) → A → Option Form → Kind → Bool
guarded_on oA a g k = perhaps_on oA (is_key keys.When) form_on (a, g) k

abbrev pub line_on : Version → LineForm → Kind → Bool
line_on v (requires_form w s) k = form_on s.body k
line_on v (insert_form w m ss g) k = guarded_on group_on ss g k
line_on v (remove_form w m ss g) k = guarded_on group_on ss g k
line_on v (add_form w m ss t g) k = guarded_on term_on t g k
line_on v (set_form w m ss t g) k = guarded_on term_on t g k
line_on v (takes_form w r m) k = takes_on v r m k
line_on v (observes_form w s) k = form_on s.body k

abbrev GuardIs : Version → ℕ → Option Form → Type 0
GuardIs v d g = option_of (Unit {0}) (FormFits v d) g

abbrev when_words : Option Form → List Spelt
when_words g = option_of [] (λ f. sign keys.When ∷ form f) g

abbrev ChangeFits : Version → ℕ → Change → Type 0
ChangeFits v d x = Unit {0} × (IsFree v x.1.0 × (AllByRecursion (SpotFits v) x.1.1.0 × GuardIs v d x.1.1.1))

abbrev change_words : Key → Change → List Spelt
change_words k x = key k x.0 ∷ mark x.1.0 ∷ (group spot x.1.1.0 ++ when_words x.1.1.1)

abbrev change_on : Change → Kind → Bool
change_on x = perhaps_on group_on (is_key keys.When) form_on (x.1.1.0, x.1.1.1)

abbrev SameChange : Change → Change → Type 0
SameChange x y = Unit {0} × (SameMark x.1.0 y.1.0 × (AllSame SameSpot x.1.1.0 y.1.1.0 × option_same SameForm x.1.1.1 y.1.1.1))

change_part : (k : Key) (v : Version) (d : ℕ) → Part SameChange (ChangeFits v d) (change_words k) (change_at k v d) change_on
unfolding change_at
change_part k v d = then_part (key_part k) (then_part (name_part v) (both_part (perhaps_on group_on (is_key keys.When) form_on) (spots_part v) (guard_part v d) (perhaps_joins (is_key keys.When) (λ a b u f g. group_off a (kind.Key keys.When) refl))) (λ a b u f g h. refl)) (λ a b u f g h. refl)

abbrev AmountFits : Version → ℕ → Amount → Type 0
AmountFits v d x = Unit {0} × (IsFree v x.1.0 × (AllByRecursion (SpotFits v) x.1.1.0 × (TermFits v x.1.1.1.0 × GuardIs v d x.1.1.1.1)))

abbrev amount_words : Key → Amount → List Spelt
amount_words k x = key k x.0 ∷ mark x.1.0 ∷ (group spot x.1.1.0 ++ (term x.1.1.1.0 ++ when_words x.1.1.1.1))

abbrev amount_on : Amount → Kind → Bool
amount_on x = perhaps_on term_on (is_key keys.When) form_on (x.1.1.1.0, x.1.1.1.1)

abbrev SameAmount : Amount → Amount → Type 0
SameAmount x y = Unit {0} × (SameMark x.1.0 y.1.0 × (AllSame SameSpot x.1.1.0 y.1.1.0 × (SameTerm x.1.1.1.0 y.1.1.1.0 × option_same SameForm x.1.1.1.1 y.1.1.1.1)))

term_not_open : (t : Term) (xs : List Spelt) (u : List Symbol) → is_key keys.Open (next (plain (term t ++ xs) ++ u)) ≡ false
term_not_open t xs u = ap (λ (y : List Symbol). is_key keys.Open (next y)) (regroup (term t) xs u) ∙ by t.minus
  where
    by : (b : Bool) → is_key keys.Open (next (plain (minus b ++ (summand t.first ++ each signed t.more)) ++ (plain xs ++ u))) ≡ false
    by true = refl
    by false = ap (λ (y : List Symbol). is_key keys.Open (next y)) (regroup (summand t.first) (each signed t.more) (plain xs ++ u)) ∙ summand_not_key keys.Open t.first (plain (each signed t.more) ++ (plain xs ++ u))

amount_part : (k : Key) (v : Version) (d : ℕ) → Part SameAmount (AmountFits v d) (amount_words k) (amount_at k v d) amount_on
unfolding amount_at
amount_part k v d = then_part (key_part k) (then_part (name_part v) (then_part (spots_part v) (both_part (perhaps_on term_on (is_key keys.When) form_on) (term_part v) (guard_part v d) (perhaps_joins (is_key keys.When) (λ a b u f g. term_off a (kind.Key keys.When) refl refl refl))) (λ a b u f g h. group_off a _ (term_not_open b.0 (when_words b.1) u))) (λ a b u f g h. refl)) (λ a b u f g h. refl)

requires_part : (v : Version) (d : ℕ) → Part (λ x y. Unit {0} × SameSentence x.1 y.1) (λ x. Unit {0} × SentenceFits v d x.1) (λ x. key keys.Requires x.0 ∷ sentence x.1) (requires_at v d) (λ x. form_on x.1.body)
unfolding requires_at
requires_part v d = then_part (key_part keys.Requires) (sentence_part v d) (λ a b u f g h. refl)

takes_part : (v : Version) → Part (λ x y. Unit {0} × (SameReading x.1.0 y.1.0 × (x.1.1 ≡ y.1.1))) (λ x. Unit {0} × (ReadingFits v x.1.0 × ModeFits v x.1.1)) (λ x. key keys.Takes x.0 ∷ (reading x.1.0 ++ mode x.1.1)) (takes_at v) (λ x. takes_on v x.1.0 x.1.1)
unfolding takes_at
takes_part v = then_part (key_part keys.Takes) (both_part (λ x. takes_on v x.0 x.1) (reading_part v) (mode_part_of v) (mode_not_open v)) (λ a b u f g h. refl)

-- ---- the lines that both versions have

abbrev Takes : Type 0
Takes = ℕ × (Reading × Mode)

abbrev Lines5 : Type 0
Lines5 = Amount ⊎ Takes

abbrev Lines4 : Type 0
Lines4 = Amount ⊎ Lines5

abbrev Lines3 : Type 0
Lines3 = Change ⊎ Lines4

abbrev Lines2 : Type 0
Lines2 = Change ⊎ Lines3

abbrev Lines1 : Type 0
Lines1 = (ℕ × Sentence) ⊎ Lines2

abbrev Fits5 : Version → ℕ → Lines5 → Type 0
Fits5 v d = sum_of (AmountFits v d) (λ x. Unit {0} × (ReadingFits v x.1.0 × ModeFits v x.1.1))

abbrev Fits4 : Version → ℕ → Lines4 → Type 0
Fits4 v d = sum_of (AmountFits v d) (Fits5 v d)

abbrev Fits3 : Version → ℕ → Lines3 → Type 0
Fits3 v d = sum_of (ChangeFits v d) (Fits4 v d)

abbrev Fits2 : Version → ℕ → Lines2 → Type 0
Fits2 v d = sum_of (ChangeFits v d) (Fits3 v d)

abbrev Fits1 : Version → ℕ → Lines1 → Type 0
Fits1 v d = sum_of (λ x. Unit {0} × SentenceFits v d x.1) (Fits2 v d)

abbrev words5 : Lines5 → List Spelt
words5 = sum_of (amount_words keys.Set) (λ x. key keys.Takes x.0 ∷ (reading x.1.0 ++ mode x.1.1))

abbrev words4 : Lines4 → List Spelt
words4 = sum_of (amount_words keys.Add) words5

abbrev words3 : Lines3 → List Spelt
words3 = sum_of (change_words keys.Remove) words4

abbrev words2 : Lines2 → List Spelt
words2 = sum_of (change_words keys.Insert) words3

abbrev words1 : Lines1 → List Spelt
words1 = sum_of (λ x. key keys.Requires x.0 ∷ sentence x.1) words2

abbrev on1 : Version → Lines1 → Kind → Bool
on1 v = sum_of (λ x. form_on x.1.body) (sum_of change_on (sum_of change_on (sum_of amount_on (sum_of amount_on (λ x. takes_on v x.1.0 x.1.1)))))

abbrev Same1 : Lines1 → Lines1 → Type 0
Same1 = sum_same (λ x y. Unit {0} × SameSentence x.1 y.1) (sum_same SameChange (sum_same SameChange (sum_same SameAmount (sum_same SameAmount (λ x y. Unit {0} × (SameReading x.1.0 y.1.0 × (x.1.1 ≡ y.1.1)))))))

-- a line, but no observes line
abbrev OldFits : Version → ℕ → LineForm → Type 0
OldFits v d (requires_form w s) = SentenceFits v d s
OldFits v d (insert_form w m ss g) = IsFree v m × AllByRecursion (SpotFits v) ss × GuardFits v d g
OldFits v d (remove_form w m ss g) = IsFree v m × AllByRecursion (SpotFits v) ss × GuardFits v d g
OldFits v d (add_form w m ss t g) = IsFree v m × AllByRecursion (SpotFits v) ss × TermFits v t × GuardFits v d g
OldFits v d (set_form w m ss t g) = IsFree v m × AllByRecursion (SpotFits v) ss × TermFits v t × GuardFits v d g
OldFits v d (takes_form w r m) = ReadingFits v r × ModeFits v m
OldFits v d (observes_form w s) = ⊥

old_line_part : (v : Version) (d : ℕ) → Part SameLine (OldFits v d) line (old_line_at v d) (line_on v)
unfolding old_line_at
old_line_part v d = viewed_part to_old_line back
    (either_part (is_key keys.Requires) (requires_part v d)
    (either_part (is_key keys.Insert) (change_part keys.Insert v d)
    (either_part (is_key keys.Remove) (change_part keys.Remove v d)
    (either_part (is_key keys.Add) (amount_part keys.Add v d)
    (either_part (is_key keys.Set) (amount_part keys.Set v d) (takes_part v) (λ a u f. refl) (λ b u f. refl))
    (λ a u f. refl) not_add)
    (λ a u f. refl) not_remove)
    (λ a u f. refl) not_insert)
    (λ a u f. refl) not_requires)
    (record {
      spelled = spelled;
      fits = fits;
      on_to = on_to;
      same = same;
      to_back = to_back;
      back_fits = back_fits;
    })
  where
    not_add : (b : Lines5) (u : List Symbol) → Fits5 v d b → is_key keys.Add (next (plain (words5 b) ++ u)) ≡ false
    not_add (inl x) u f = refl
    not_add (inr x) u f = refl

    not_remove : (b : Lines4) (u : List Symbol) → Fits4 v d b → is_key keys.Remove (next (plain (words4 b) ++ u)) ≡ false
    not_remove (inl x) u f = refl
    not_remove (inr (inl x)) u f = refl
    not_remove (inr (inr x)) u f = refl

    not_insert : (b : Lines3) (u : List Symbol) → Fits3 v d b → is_key keys.Insert (next (plain (words3 b) ++ u)) ≡ false
    not_insert (inl x) u f = refl
    not_insert (inr (inl x)) u f = refl
    not_insert (inr (inr (inl x))) u f = refl
    not_insert (inr (inr (inr x))) u f = refl

    not_requires : (b : Lines2) (u : List Symbol) → Fits2 v d b → is_key keys.Requires (next (plain (words2 b) ++ u)) ≡ false
    not_requires (inl x) u f = refl
    not_requires (inr (inl x)) u f = refl
    not_requires (inr (inr (inl x))) u f = refl
    not_requires (inr (inr (inr (inl x)))) u f = refl
    not_requires (inr (inr (inr (inr x)))) u f = refl

    back : LineForm → Lines1
    back (requires_form w s) = inl (w, s)
    back (insert_form w m ss g) = inr (inl (w, (m, (ss, g))))
    back (remove_form w m ss g) = inr (inr (inl (w, (m, (ss, g)))))
    back (add_form w m ss t g) = inr (inr (inr (inl (w, (m, (ss, (t, g)))))))
    back (set_form w m ss t g) = inr (inr (inr (inr (inl (w, (m, (ss, (t, g))))))))
    back (takes_form w r m) = inr (inr (inr (inr (inr (w, (r, m))))))
    back (observes_form w s) = inl (w, s)

    changed : (k : Key) (x : Change) → change_words k x ≡ key k x.0 ∷ mark x.1.0 ∷ (group spot x.1.1.0 ++ guard x.1.1.1)
    changed k x = ap (λ (y : List Spelt). key k x.0 ∷ mark x.1.0 ∷ (group spot x.1.1.0 ++ y)) (guard_words x.1.1.1)

    amounts : (k : Key) (x : Amount) → amount_words k x ≡ key k x.0 ∷ mark x.1.0 ∷ (group spot x.1.1.0 ++ (term x.1.1.1.0 ++ guard x.1.1.1.1))
    amounts k x = ap (λ (y : List Spelt). key k x.0 ∷ mark x.1.0 ∷ (group spot x.1.1.0 ++ (term x.1.1.1.0 ++ y))) (guard_words x.1.1.1.1)

    spelled : (a : Lines1) → Fits1 v d a → words1 a ≡ line (to_old_line a)
    spelled (inl x) f = refl
    spelled (inr (inl x)) f = changed keys.Insert x
    spelled (inr (inr (inl x))) f = changed keys.Remove x
    spelled (inr (inr (inr (inl x)))) f = amounts keys.Add x
    spelled (inr (inr (inr (inr (inl x))))) f = amounts keys.Set x
    spelled (inr (inr (inr (inr (inr x))))) f = refl

    fits : (a : Lines1) → Fits1 v d a → OldFits v d (to_old_line a)
    fits (inl x) f = f.1
    fits (inr (inl x)) f = (f.1.0, f.1.1.0, guard_fits v d x.1.1.1 f.1.1.1)
    fits (inr (inr (inl x))) f = (f.1.0, f.1.1.0, guard_fits v d x.1.1.1 f.1.1.1)
    fits (inr (inr (inr (inl x)))) f = (f.1.0, f.1.1.0, f.1.1.1.0, guard_fits v d x.1.1.1.1 f.1.1.1.1)
    fits (inr (inr (inr (inr (inl x))))) f = (f.1.0, f.1.1.0, f.1.1.1.0, guard_fits v d x.1.1.1.1 f.1.1.1.1)
    fits (inr (inr (inr (inr (inr x))))) f = f.1

    on_to : (a : Lines1) (k : Kind) → Fits1 v d a → on1 v a k ≡ line_on v (to_old_line a) k
    on_to (inl x) k f = refl
    on_to (inr (inl x)) k f = refl
    on_to (inr (inr (inl x))) k f = refl
    on_to (inr (inr (inr (inl x)))) k f = refl
    on_to (inr (inr (inr (inr (inl x))))) k f = refl
    on_to (inr (inr (inr (inr (inr x))))) k f = refl

    same : (a b : Lines1) → Same1 a b → SameLine (to_old_line a) (to_old_line b)
    same (inl x) (inl y) h = h.1
    same (inl x) (inr y) h = absurd h
    same (inr x) (inl y) h = absurd h
    same (inr (inl x)) (inr (inl y)) h = (h.1.0, h.1.1.0, same_guard x.1.1.1 y.1.1.1 h.1.1.1)
    same (inr (inl x)) (inr (inr y)) h = absurd h
    same (inr (inr x)) (inr (inl y)) h = absurd h
    same (inr (inr (inl x))) (inr (inr (inl y))) h = (h.1.0, h.1.1.0, same_guard x.1.1.1 y.1.1.1 h.1.1.1)
    same (inr (inr (inl x))) (inr (inr (inr y))) h = absurd h
    same (inr (inr (inr x))) (inr (inr (inl y))) h = absurd h
    same (inr (inr (inr (inl x)))) (inr (inr (inr (inl y)))) h = (h.1.0, h.1.1.0, h.1.1.1.0, same_guard x.1.1.1.1 y.1.1.1.1 h.1.1.1.1)
    same (inr (inr (inr (inl x)))) (inr (inr (inr (inr y)))) h = absurd h
    same (inr (inr (inr (inr x)))) (inr (inr (inr (inl y)))) h = absurd h
    same (inr (inr (inr (inr (inl x))))) (inr (inr (inr (inr (inl y))))) h = (h.1.0, h.1.1.0, h.1.1.1.0, same_guard x.1.1.1.1 y.1.1.1.1 h.1.1.1.1)
    same (inr (inr (inr (inr (inl x))))) (inr (inr (inr (inr (inr y))))) h = absurd h
    same (inr (inr (inr (inr (inr x))))) (inr (inr (inr (inr (inl y))))) h = absurd h
    same (inr (inr (inr (inr (inr x))))) (inr (inr (inr (inr (inr y))))) h = h.1

    to_back : (b : LineForm) → OldFits v d b → to_old_line (back b) ≡ b
    to_back (requires_form w s) f = refl
    to_back (insert_form w m ss g) f = refl
    to_back (remove_form w m ss g) f = refl
    to_back (add_form w m ss t g) f = refl
    to_back (set_form w m ss t g) f = refl
    to_back (takes_form w r m) f = refl
    to_back (observes_form w s) f = absurd f

    back_fits : (b : LineForm) → OldFits v d b → Fits1 v d (back b)
    back_fits (requires_form w s) f = (tt, f)
    back_fits (insert_form w m ss g) f = (tt, (f.0, (f.1, fits_guard v d g f.2)))
    back_fits (remove_form w m ss g) f = (tt, (f.0, (f.1, fits_guard v d g f.2)))
    back_fits (add_form w m ss t g) f = (tt, (f.0, (f.1, (f.2, fits_guard v d g f.3))))
    back_fits (set_form w m ss t g) f = (tt, (f.0, (f.1, (f.2, fits_guard v d g f.3))))
    back_fits (takes_form w r m) f = (tt, f)
    back_fits (observes_form w s) f = absurd f

-- ---- the lines of each version

observes_word_part : Part (λ a b. Unit {0}) (λ w. Unit {0}) (λ w. record { symbol = symbol.Name observes_text; claims = w ∷ [] } ∷ []) (word_at is_observes (λ t. t.word)) (λ w k. false)
observes_word_part = word_part is_observes (λ t. t.word) (λ w. symbol.Name observes_text) (λ w. w ∷ []) (record {
  single = λ a f. refl;
  is_right = λ a f. refl;
  symbol = λ t h. is_it t.symbol h;
  claims = λ t. (refl, tt);
  fits = λ t h. tt;
  same = λ a b f g e. tt;
  not_end = refl;
  some = 0;
  some_fits = tt;
  some_word = observes_word;
})
  where
    by : (text : List ℕ) (b c d f : Bool) → (d ≡ true → text ≡ observes_text) → is_observes (cond b kind.Shared (cond c kind.Exclusive (cond d kind.Observes (cond f kind.Unnamed kind.Name)))) ≡ true → symbol.Name text ≡ symbol.Name observes_text
    by text true c d f p h = absurd cc
    by text false true d f p h = absurd cc
    by text false false true f p h = ap symbol.Name (p refl)
    by text false false false true p h = absurd cc
    by text false false false false p h = absurd cc

    is_it : (s : Symbol) → is_observes (kind_of s) ≡ true → s ≡ symbol.Name observes_text
    is_it (symbol.Name text) h = by text (bytes_eq text shared_text) (bytes_eq text exclusive_text) (bytes_eq text observes_text) _ (same_text text observes_text) h
    is_it (symbol.Number n) h = clash (is_observes (number_kind n)) (is_observes (number_kind n)) h (number_kind_cases (λ k. is_observes k ≡ false) n refl refl refl) refl
    is_it (symbol.Key k) h = absurd cc

observes_part : (v : Version) (d : ℕ) → Part (λ x y. Unit {0} × SameSentence x.1 y.1) (λ x. Unit {0} × SentenceFits v d x.1) (λ x. record { symbol = symbol.Name observes_text; claims = x.0 ∷ [] } ∷ sentence x.1) (observes_at v d) (λ x. form_on x.1.body)
unfolding observes_at
observes_part v d = then_part observes_word_part (sentence_part v d) (λ a b u f g h. refl)

first_line_part : (d : ℕ) → Part SameLine (LineFits version.First d) line (old_line_at version.First d) (line_on version.First)
first_line_part d = fits_part (old_line_part version.First d) there back
  where
    there : (a : LineForm) → OldFits version.First d a → LineFits version.First d a
    there (requires_form w s) f = f
    there (insert_form w m ss g) f = f
    there (remove_form w m ss g) f = f
    there (add_form w m ss t g) f = f
    there (set_form w m ss t g) f = f
    there (takes_form w r m) f = f
    there (observes_form w s) f = f

    back : (a : LineForm) → LineFits version.First d a → OldFits version.First d a
    back (requires_form w s) f = f
    back (insert_form w m ss g) f = f
    back (remove_form w m ss g) f = f
    back (add_form w m ss t g) f = f
    back (set_form w m ss t g) f = f
    back (takes_form w r m) f = f
    back (observes_form w s) f = f

pub line_part : (v : Version) (d : ℕ) → Part SameLine (LineFits v d) line (line_at v d) (line_on v)
unfolding line_at
line_part version.First d = first_line_part d
line_part version.Second d = viewed_part to_line back (either_part is_observes (observes_part version.Second d) (old_line_part version.Second d) (λ a u f. refl) others) (record {
  spelled = spelled;
  fits = fits;
  on_to = on_to;
  same = same;
  to_back = to_back;
  back_fits = back_fits;
})
  where
    v : Version
    v = version.Second

    others : (b : LineForm) (u : List Symbol) → OldFits version.Second d b → is_observes (next (plain (line b) ++ u)) ≡ false
    others (requires_form w s) u f = refl
    others (insert_form w m ss g) u f = refl
    others (remove_form w m ss g) u f = refl
    others (add_form w m ss t g) u f = refl
    others (set_form w m ss t g) u f = refl
    others (takes_form w r m) u f = refl
    others (observes_form w s) u f = absurd f

    back : LineForm → (ℕ × Sentence) ⊎ LineForm
    back (requires_form w s) = inr (requires_form w s)
    back (insert_form w m ss g) = inr (insert_form w m ss g)
    back (remove_form w m ss g) = inr (remove_form w m ss g)
    back (add_form w m ss t g) = inr (add_form w m ss t g)
    back (set_form w m ss t g) = inr (set_form w m ss t g)
    back (takes_form w r m) = inr (takes_form w r m)
    back (observes_form w s) = inl (w, s)

    spelled : (a : (ℕ × Sentence) ⊎ LineForm) → sum_of (λ x. Unit {0} × SentenceFits version.Second d x.1) (OldFits version.Second d) a → sum_of (λ x. record { symbol = symbol.Name observes_text; claims = x.0 ∷ [] } ∷ sentence x.1) line a ≡ line (to_line a)
    spelled (inl x) f = refl
    spelled (inr l) f = refl

    there : (a : LineForm) → OldFits version.Second d a → LineFits version.Second d a
    there (requires_form w s) f = f
    there (insert_form w m ss g) f = f
    there (remove_form w m ss g) f = f
    there (add_form w m ss t g) f = f
    there (set_form w m ss t g) f = f
    there (takes_form w r m) f = f
    there (observes_form w s) f = absurd f

    fits : (a : (ℕ × Sentence) ⊎ LineForm) → sum_of (λ x. Unit {0} × SentenceFits version.Second d x.1) (OldFits version.Second d) a → LineFits version.Second d (to_line a)
    fits (inl x) f = f.1
    fits (inr l) f = there l f

    on_to : (a : (ℕ × Sentence) ⊎ LineForm) (k : Kind) → sum_of (λ x. Unit {0} × SentenceFits version.Second d x.1) (OldFits version.Second d) a → sum_of (λ x. form_on x.1.body) (line_on version.Second) a k ≡ line_on version.Second (to_line a) k
    on_to (inl x) k f = refl
    on_to (inr l) k f = refl

    same : (a b : (ℕ × Sentence) ⊎ LineForm) → sum_same (λ x y. Unit {0} × SameSentence x.1 y.1) SameLine a b → SameLine (to_line a) (to_line b)
    same (inl x) (inl y) h = h.1
    same (inl x) (inr y) h = absurd h
    same (inr x) (inl y) h = absurd h
    same (inr x) (inr y) h = h

    to_back : (b : LineForm) → LineFits version.Second d b → to_line (back b) ≡ b
    to_back (requires_form w s) f = refl
    to_back (insert_form w m ss g) f = refl
    to_back (remove_form w m ss g) f = refl
    to_back (add_form w m ss t g) f = refl
    to_back (set_form w m ss t g) f = refl
    to_back (takes_form w r m) f = refl
    to_back (observes_form w s) f = refl

    back_fits : (b : LineForm) → LineFits version.Second d b → sum_of (λ x. Unit {0} × SentenceFits version.Second d x.1) (OldFits version.Second d) (back b)
    back_fits (requires_form w s) f = f
    back_fits (insert_form w m ss g) f = f
    back_fits (remove_form w m ss g) f = f
    back_fits (add_form w m ss t g) f = f
    back_fits (set_form w m ss t g) f = f
    back_fits (takes_form w r m) f = f
    back_fits (observes_form w s) f = (tt, f)

-- ---- lines one after the other

guarded_off : {A : Type 0} (oA : A → Kind → Bool) (a : A) (g : Option Form) (k : Kind) → oA a k ≡ false → is_key keys.When k ≡ false → is_key keys.Open k ≡ false → guarded_on oA a g k ≡ false
guarded_off oA a None k h w o = or_from (oA a k) (is_key keys.When k) h w
guarded_off oA a (Some f) k h w o = form_off f k o

takes_off : (v : Version) (r : Reading) (m : Mode) (k : Kind) → is_key keys.Open k ≡ false → is_mode k ≡ false → takes_on v r m k ≡ false
takes_off v r modes.Missing k h i = or_from (reading_on r k) (mode_on v modes.Missing k) (group_off r.args k h) (by v)
  where
    by : (v : Version) → mode_on v modes.Missing k ≡ false
    by version.First = refl
    by version.Second = i
takes_off v r modes.Shared k h i = refl
takes_off v r modes.Exclusive k h i = refl

-- no line goes on with a word that is none of these
pub line_off : (v : Version) (l : LineForm) (k : Kind) → is_key keys.Open k ≡ false → is_key keys.Star k ≡ false → is_sign k ≡ false → is_key keys.When k ≡ false → is_mode k ≡ false → line_on v l k ≡ false
line_off v (requires_form w s) k o st si wh mo = form_off s.body k o
line_off v (insert_form w m ss g) k o st si wh mo = guarded_off group_on ss g k (group_off ss k o) wh o
line_off v (remove_form w m ss g) k o st si wh mo = guarded_off group_on ss g k (group_off ss k o) wh o
line_off v (add_form w m ss t g) k o st si wh mo = guarded_off term_on t g k (term_off t k o st si) wh o
line_off v (set_form w m ss t g) k o st si wh mo = guarded_off term_on t g k (term_off t k o st si) wh o
line_off v (takes_form w r m) k o st si wh mo = takes_off v r m k o mo
line_off v (observes_form w s) k o st si wh mo = form_off s.body k o

starts_old : (v : Version) (k : Kind) → starts_old_line k ≡ true → starts_line v k ≡ true
starts_old version.First k h = h
starts_old version.Second k h = by (is_observes k) h
  where
    by : (b : Bool) → starts_old_line k ≡ true → (b || starts_old_line k) ≡ true
    by true h = refl
    by false h = h

pub line_begins : (v : Version) (d : ℕ) (a : LineForm) (u : List Symbol) → LineFits v d a → starts_line v (next (plain (line a) ++ u)) ≡ true
line_begins v d (requires_form w s) u f = starts_old v (kind.Key keys.Requires) refl
line_begins v d (insert_form w m ss g) u f = starts_old v (kind.Key keys.Insert) refl
line_begins v d (remove_form w m ss g) u f = starts_old v (kind.Key keys.Remove) refl
line_begins v d (add_form w m ss t g) u f = starts_old v (kind.Key keys.Add) refl
line_begins v d (set_form w m ss t g) u f = starts_old v (kind.Key keys.Set) refl
line_begins v d (takes_form w r m) u f = starts_old v (kind.Key keys.Takes) refl
line_begins version.First d (observes_form w s) u f = absurd f
line_begins version.Second d (observes_form w s) u f = refl

starts_not_end : (v : Version) → starts_line v kind.Nothing ≡ false
starts_not_end version.First = refl
starts_not_end version.Second = refl

pub lines_part : (v : Version) (d : ℕ) → Part (AllSame SameLine) (AllByRecursion (LineFits v d)) (each line) (lines_at v d) (list_on (starts_line v) (line_on v))
unfolding lines_at
lines_part v d = many_part (starts_line v) (line_part v d) (line_begins v d) first (starts_not_end v)
  where
    first : (a b : LineForm) (u : List Symbol) → LineFits v d a → LineFits v d b → line_on v a (next (plain (line b) ++ u)) ≡ false
    first a (requires_form w s) u f g = line_off v a (kind.Key keys.Requires) refl refl refl refl refl
    first a (insert_form w m ss g') u f g = line_off v a (kind.Key keys.Insert) refl refl refl refl refl
    first a (remove_form w m ss g') u f g = line_off v a (kind.Key keys.Remove) refl refl refl refl refl
    first a (add_form w m ss t g') u f g = line_off v a (kind.Key keys.Add) refl refl refl refl refl
    first a (set_form w m ss t g') u f g = line_off v a (kind.Key keys.Set) refl refl refl refl refl
    first a (takes_form w r m) u f g = line_off v a (kind.Key keys.Takes) refl refl refl refl refl
    first a (observes_form w s) u f g = line_off v a kind.Observes refl refl refl refl refl
