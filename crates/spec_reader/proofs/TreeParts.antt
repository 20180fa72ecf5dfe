-- The whole text.
use Rattle.std.proofs.Common.{◌≡◌, ℕ, zero, suc, ◌-◌, ◌+◌, ◌≤◌, ◌<◌, Bool, true, false, cond, List, [], ◌∷◌, ◌++◌, length, take, Ok, Err, ◌⊎◌, inl, inr, refl, sym, ap, subst, ◌∙◌, append_assoc, arith}
use Rattle.std.specs.Prelude.{◌==◌}
use Rattle.std.specs.List.{AllByRecursion}
use Rattle.std.proofs.lemmas.Bool.{eqb-true, cases_lt}
use Rattle.std.proofs.lemmas.List.{append-nil, length-append, take_at, nil_from_length}
use Rattle.parser_combinators.specs.declared.token.Key.TheVariants as keys
use Rattle.parser_combinators.specs.declared.token.Symbol.{Symbol}
use Rattle.parser_combinators.specs.declared.token.Symbol.TheVariants as symbol
use Rattle.parser_combinators.specs.declared.token.Token.{Token}
use Rattle.parser_combinators.specs.declared.token.Kind.{Kind}
use Rattle.parser_combinators.specs.declared.token.Kind.TheVariants as kind
use Rattle.parser_combinators.specs.declared.token.Version.{Version}
use Rattle.parser_combinators.specs.declared.token.Version.TheVariants as version
use Rattle.parser_combinators.specs.Words.{next, seen, kind_of, plain, Matches, name_kind, sign, each, AllSame}
use Rattle.parser_combinators.specs.Texts.{AreWords}
use Rattle.parser_combinators.specs.Read.{word_at}
use Rattle.parser_combinators.proofs.Part.{Part, then_part, viewed_part, bind_ok, bind_err, done, ok_is, length-seen, Matches-seen, AreWords-append}
use Rattle.parser_combinators.proofs.Choice.{word_part, either_part, sum_same, sum_of, clash}
use Rattle.parser_combinators.proofs.Many.{list_on, list_on_false}
use Rattle.parser_combinators.proofs.Pieces.{name_kind_cases, number_kind_cases, sign_part}
use Rattle.spec_trees.specs.Form.{ItemForm, TreeForm}
use Rattle.spec_trees.specs.Spelling.{item, tree}
use Rattle.spec_trees.specs.Trees.{ItemFits, TreeFits, SameItem, SameTree}
use Rattle.spec_reader.specs.Reading.{starts_item, is_one, is_two, to_tree, tree_at, whole_at}
use Rattle.spec_reader.proofs.ItemParts.{item_on, item_off, items_part}

one_part : Part (λ (a b : Unit {0}). Unit {0}) (λ u. Unit {0}) (λ u. record { symbol = symbol.Number 1; claims = [] } ∷ []) (word_at is_one (λ t. tt)) (λ u k. false)
one_part = word_part is_one (λ t. tt) (λ u. symbol.Number 1) (λ u. []) (record {
  single = λ a f. refl;
  is_right = λ a f. refl;
  symbol = λ t h. is_it t.symbol h;
  claims = λ t. tt;
  fits = λ t h. tt;
  same = λ a b f g e. tt;
  not_end = refl;
  some = tt;
  some_fits = tt;
  some_word = refl;
})
  where
    by : (n : ℕ) (b c : Bool) → (b ≡ true → n ≡ 1) → is_one (cond b kind.One (cond c kind.Two kind.Number)) ≡ true → symbol.Number n ≡ symbol.Number 1
    by n true c f h = ap symbol.Number (f refl)
    by n false true f h = absurd cc
    by n false false f h = absurd cc

    is_it : (s : Symbol) → is_one (kind_of s) ≡ true → s ≡ symbol.Number 1
    is_it (symbol.Name text) h = clash (is_one (name_kind text)) (is_one (name_kind text)) h (name_kind_cases (λ k. is_one k ≡ false) text refl refl refl refl refl) refl
    is_it (symbol.Number n) h = by n (n == 1) (n == 2) (eqb-true n 1) h
    is_it (symbol.Key k) h = absurd cc

two_part : Part (λ (a b : Unit {0}). Unit {0}) (λ u. Unit {0}) (λ u. record { symbol = symbol.Number 2; claims = [] } ∷ []) (word_at is_two (λ t. tt)) (λ u k. false)
two_part = word_part is_two (λ t. tt) (λ u. symbol.Number 2) (λ u. []) (record {
  single = λ a f. refl;
  is_right = λ a f. refl;
  symbol = λ t h. is_it t.symbol h;
  claims = λ t. tt;
  fits = λ t h. tt;
  same = λ a b f g e. tt;
  not_end = refl;
  some = tt;
  some_fits = tt;
  some_word = refl;
})
  where
    by : (n : ℕ) (b c : Bool) → (c ≡ true → n ≡ 2) → is_two (cond b kind.One (cond c kind.Two kind.Number)) ≡ true → symbol.Number n ≡ symbol.Number 2
    by n true c f h = absurd cc
    by n false true f h = ap symbol.Number (f refl)
    by n false false f h = absurd cc

    is_it : (s : Symbol) → is_two (kind_of s) ≡ true → s ≡ symbol.Number 2
    is_it (symbol.Name text) h = clash (is_two (name_kind text)) (is_two (name_kind text)) h (name_kind_cases (λ k. is_two k ≡ false) text refl refl refl refl refl) refl
    is_it (symbol.Number n) h = by n (n == 1) (n == 2) (eqb-true n 2) h
    is_it (symbol.Key k) h = absurd cc

abbrev pub tree_on : TreeForm → Kind → Bool
tree_on t k = list_on starts_item item_on t.items k

pub tree_part : (d : ℕ) → Part SameTree (TreeFits d) tree (tree_at d) tree_on
unfolding tree_at
tree_part d = viewed_part to_tree (λ t. (tt, side t.version t.items)) (then_part (sign_part keys.Cise) (either_part is_one (then_part one_part (items_part version.First d) (λ a b u f g h. refl)) (then_part two_part (items_part version.Second d) (λ a b u f g h. refl)) (λ a u f. refl) (λ b u f. refl)) (λ a b u f g h. refl)) (record {
  spelled = spelled;
  fits = fits;
  on_to = on_to;
  same = same;
  to_back = λ t f. by t.version t.items;
  back_fits = λ t f. (tt, side_fits t.version t.items f);
})
  where
    side : Version → List ItemForm → (Unit {0} × List ItemForm) ⊎ (Unit {0} × List ItemForm)
    side version.First xs = inl (tt, xs)
    side version.Second xs = inr (tt, xs)

    spelled : (a : Unit {0} × ((Unit {0} × List ItemForm) ⊎ (Unit {0} × List ItemForm))) → Unit {0} × sum_of (λ x. Unit {0} × AllByRecursion (ItemFits version.First d) x.1) (λ x. Unit {0} × AllByRecursion (ItemFits version.Second d) x.1) a.1
        → sign keys.Cise ∷ sum_of (λ x. record { symbol = symbol.Number 1; claims = [] } ∷ each item x.1) (λ x. record { symbol = symbol.Number 2; claims = [] } ∷ each item x.1) a.1 ≡ tree (to_tree a)
    spelled (u, inl x) f = refl
    spelled (u, inr x) f = refl

    fits : (a : Unit {0} × ((Unit {0} × List ItemForm) ⊎ (Unit {0} × List ItemForm))) → Unit {0} × sum_of (λ x. Unit {0} × AllByRecursion (ItemFits version.First d) x.1) (λ x. Unit {0} × AllByRecursion (ItemFits version.Second d) x.1) a.1 → TreeFits d (to_tree a)
    fits (u, inl x) f = f.1.1
    fits (u, inr x) f = f.1.1

    on_to : (a : Unit {0} × ((Unit {0} × List ItemForm) ⊎ (Unit {0} × List ItemForm))) (k : Kind) → Unit {0} × sum_of (λ x. Unit {0} × AllByRecursion (ItemFits version.First d) x.1) (λ x. Unit {0} × AllByRecursion (ItemFits version.Second d) x.1) a.1
        → sum_of (λ x. list_on starts_item item_on x.1) (λ x. list_on starts_item item_on x.1) a.1 k ≡ tree_on (to_tree a) k
    on_to (u, inl x) k f = refl
    on_to (u, inr x) k f = refl

    same : (a b : Unit {0} × ((Unit {0} × List ItemForm) ⊎ (Unit {0} × List ItemForm))) → Unit {0} × sum_same (λ x y. Unit {0} × AllSame SameItem x.1 y.1) (λ x y. Unit {0} × AllSame SameItem x.1 y.1) a.1 b.1 → SameTree (to_tree a) (to_tree b)
    same (u, inl x) (w, inl y) h = (refl, h.1.1)
    same (u, inl x) (w, inr y) h = absurd h.1
    same (u, inr x) (w, inl y) h = absurd h.1
    same (u, inr x) (w, inr y) h = (refl, h.1.1)

    by : (v : Version) (xs : List ItemForm) → to_tree (tt, side v xs) ≡ record { version = v; items = xs }
    by version.First xs = refl
    by version.Second xs = refl

    side_fits : (v : Version) (xs : List ItemForm) → AllByRecursion (ItemFits v d) xs → sum_of (λ x. Unit {0} × AllByRecursion (ItemFits version.First d) x.1) (λ x. Unit {0} × AllByRecursion (ItemFits version.Second d) x.1) (side v xs)
    side_fits version.First xs f = (tt, f)
    side_fits version.Second xs f = (tt, f)

-- ---- all of the words

tree_ends : (t : TreeForm) → tree_on t kind.Nothing ≡ false
tree_ends t = list_on_false starts_item item_on t.items kind.Nothing refl (λ x. item_off x kind.Nothing refl)

pub one_spelling : (d : ℕ) (s t : TreeForm) → TreeFits d s → TreeFits d t → plain (tree s) ≡ plain (tree t) → SameTree s t
one_spelling d s t f g e = ((tree_part d).one s t [] [] f g (tree_ends s) (tree_ends t) (ap (λ (x : List Symbol). x ++ []) e)).0

-- where reading the whole stops
pub record Halts (d : ℕ) (ws : List Symbol) (n : ℕ) : Type 0 where
  pub front : List Symbol
  pub rest : List Symbol
  pub parts : ws ≡ front ++ rest
  pub left : n ≡ length rest
  pub tree' : TreeForm
  pub more : List Symbol
  pub fits : TreeFits d tree'
  pub viable : plain (tree tree') ≡ front ++ more
  pub proper : AreWords more
  pub dead : (t : TreeForm) (z : List Symbol) → TreeFits d t → next z ≡ next rest → front ++ z ≡ plain (tree t) → ⊥

ended : {A : Type 0} (b : Bool) (x : A) (n m : ℕ) → cond b (done x) (Err n) ≡ Err m → (b ≡ false) × (n ≡ m)
ended true x n m e = absurd cc
ended false x n m e = (refl, cc)

symbol_not_end : (s : Symbol) → kind_of s ≡ kind.Nothing → ⊥
symbol_not_end (symbol.Name text) h = name_kind_cases (λ k. k ≡ kind.Nothing → ⊥) text (λ e. cc) (λ e. cc) (λ e. cc) (λ e. cc) (λ e. cc) h
symbol_not_end (symbol.Number n) h = number_kind_cases (λ k. k ≡ kind.Nothing → ⊥) n (λ e. cc) (λ e. cc) (λ e. cc) h
symbol_not_end (symbol.Key k) h = cc

some_left : (ts : List Token) → (length ts == 0) ≡ false → next (seen ts) ≡ kind.Nothing → ⊥
some_left [] h e = cc
some_left (t ∷ ts) h e = symbol_not_end t.symbol e

halts : (d : ℕ) (ws : List Token) (n : ℕ) → whole_at d ws ≡ Err n → Halts d (seen ws) n
unfolding whole_at
halts d ws n e = elim (bind_err (tree_at d ws) (λ x. cond (length x.1 == 0) (done x.0) (Err (length x.1))) n e) [
  | inl h ↦
      let s = (tree_part d).err ws n h in
      record {
        front = s.front;
        rest = s.rest;
        parts = s.parts;
        left = s.left;
        tree' = s.tree;
        more = s.more;
        fits = s.fits;
        viable = s.viable;
        proper = s.proper;
        dead = λ t z f nz e. s.dead t z [] f nz (tree_ends t) (e ∙ sym (append-nil (plain (tree t))));
      }
  | inr h ↦
      let x = h.0 in
      let a = (tree_part d).ok ws x.0 x.1 h.1 in
      let stop = ended (length x.1 == 0) x.0 (length x.1) n h.2 in
      record {
        front = plain (tree x.0);
        rest = seen x.1;
        parts = Matches-seen (tree x.0) ws x.1 a.0;
        left = sym stop.1 ∙ sym (length-seen x.1);
        tree' = x.0;
        more = [];
        fits = a.2;
        viable = sym (append-nil (plain (tree x.0)));
        proper = tt;
        dead = λ t z f nz e.
            let q = (tree_part d).one x.0 t z [] a.2 f (ap (tree_on x.0) nz ∙ a.1) (tree_ends t) (e ∙ sym (append-nil (plain (tree t)))) in
            some_left x.1 stop.0 (sym nz ∙ ap next q.1);
      }
]

-- a longer prefix has the next word too
longer : (front rest : List Symbol) (m : ℕ) → length front < m → m ≤ length front + length rest → (z : List Symbol) × (take m (front ++ rest) ≡ front ++ z) × (next z ≡ next rest) × ((more : List Symbol) → next (z ++ more) ≡ next rest)
longer [] [] m lt le = absurd (omega arith)
longer [] (r ∷ rest) zero lt le = absurd (omega arith)
longer [] (r ∷ rest) (suc m) lt le = (r ∷ take m rest, refl, refl, λ more. refl)
longer (x ∷ front) rest zero lt le = absurd (omega arith)
longer (x ∷ front) rest (suc m) lt le = (let k = longer front rest m (omega arith) (omega arith) in (k.0, ap (λ (t : List Symbol). x ∷ t) k.1, k.2, k.3))

-- some spelling begins with the first n words
abbrev pub BeginsSo : ℕ → List Symbol → ℕ → Type 0
BeginsSo d ws n = (t : TreeForm) × (more : List Symbol) × TreeFits d t × AreWords more × (plain (tree t) ≡ take n ws ++ more)

-- no spelling, not even one with other names, begins with more words
pub record Place (d : ℕ) (ws : List Symbol) (n : ℕ) : Type 0 where
  pub within : n ≤ length ws
  pub begins : BeginsSo d ws n
  pub longest : (m : ℕ) → m ≤ length ws → (t : TreeForm) (more : List Symbol) → TreeFits d t → plain (tree t) ≡ take m ws ++ more → m ≤ n

is_place : (d : ℕ) (ws : List Symbol) (n : ℕ) → Halts d ws n → Place d ws (length ws - n)
is_place d ws n h =
    let len : length ws ≡ length h.front + length h.rest = ap length h.parts ∙ length-append h.front h.rest in
    let at : length ws - n ≡ length h.front = omega (arith, len, h.left) in
    record {
      within = omega arith;
      begins = (h.tree', h.more, h.fits, h.proper, h.viable ∙ ap (λ (x : List Symbol). x ++ h.more) (sym (take_at h.front h.rest (length ws - n) (sym at)) ∙ ap (take (length ws - n)) (sym h.parts)));
      longest = λ m le t more f e. elim (cases_lt (length h.front) m) [
        | inl lt ↦
            let k = longer h.front h.rest m lt (omega (arith, len)) in
            absurd (h.dead t (k.0 ++ more) f (k.3 more) (sym (append_assoc h.front k.0 more) ∙ ap (λ (x : List Symbol). x ++ more) (sym (ap (take m) h.parts ∙ k.1)) ∙ sym e))
        | inr ge ↦ omega (arith, at)
      ];
    }

pub whole_ok : (d : ℕ) (ws : List Token) (t : TreeForm) → whole_at d ws ≡ Ok t → TreeFits d t × Matches (tree t) ws []
unfolding whole_at
whole_ok d ws t e =
    let x = bind_ok (tree_at d ws) (λ x. cond (length x.1 == 0) (done x.0) (Err (length x.1))) t e in
    let a = (tree_part d).ok ws x.0.0 x.0.1 x.1 in
    let g = good (length x.0.1 == 0) x.0.0 t (length x.0.1) x.2 in
    let empty : x.0.1 ≡ [] = nil_from_length x.0.1 (eqb-true _ _ g.0) in
    subst (λ (s : TreeForm). TreeFits d s × Matches (tree s) ws []) g.1 (a.2, subst (λ (r : List Token). Matches (tree x.0.0) ws r) empty a.0)
  where
    good : (b : Bool) (x y : TreeForm) (n : ℕ) → cond b (done x) (Err n) ≡ done y → (b ≡ true) × (x ≡ y)
    good true x y n e = (refl, ok_is x y e)
    good false x y n e = absurd cc

pub whole_err : (d : ℕ) (ws : List Token) (n : ℕ) → whole_at d ws ≡ Err n → Place d (seen ws) (length ws - n)
whole_err d ws n e = subst (λ (k : ℕ). Place d (seen ws) (k - n)) (length-seen ws) (is_place d (seen ws) n (halts d ws n e))

pub whole_only : (d : ℕ) (ws : List Token) (n : ℕ) → whole_at d ws ≡ Err n → (t : TreeForm) → TreeFits d t → plain (tree t) ≡ seen ws → ⊥
whole_only d ws n e t f h = let s = halts d ws n e in s.dead t s.rest f refl (sym s.parts ∙ sym h)

pub whole_left : (d : ℕ) (ws : List Token) (n : ℕ) → whole_at d ws ≡ Err n → n ≤ length ws
whole_left d ws n e = let s = halts d ws n e in omega (arith, s.left, ap length s.parts, length-append s.front s.rest, length-seen ws)
