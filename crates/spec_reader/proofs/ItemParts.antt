-- The parts of the grammar from initial values to items.
use Rattle.std.proofs.Common.{◌≡◌, ℕ, Bool, true, false, cond, ◌||◌, List, [], ◌∷◌, ◌++◌, ◌⊎◌, inl, inr, refl, sym, ap, ◌∙◌}
use Rattle.std.specs.List.{AllByRecursion}
use Rattle.parser_combinators.specs.declared.token.Key.{Key}
use Rattle.parser_combinators.specs.declared.token.Key.TheVariants as keys
use Rattle.parser_combinators.specs.declared.token.Symbol.{Symbol}
use Rattle.parser_combinators.specs.declared.token.Kind.{Kind}
use Rattle.parser_combinators.specs.declared.token.Kind.TheVariants as kind
use Rattle.parser_combinators.specs.declared.token.Version.{Version}
use Rattle.parser_combinators.specs.declared.token.Version.TheVariants as version
use Rattle.parser_combinators.specs.Words.{next, Spelt, plain, is_key, key, sign, each, group, AllSame}
use Rattle.parser_combinators.proofs.Part.{Part, then_part, viewed_part}
use Rattle.parser_combinators.proofs.Choice.{either_part, sum_same, sum_of}
use Rattle.parser_combinators.proofs.Many.{many_part, list_on, list_on_false}
use Rattle.parser_combinators.proofs.Pieces.{number_not_key, name_not_key, key_part, sign_part, group_part, group_on, group_off}
use Rattle.spec_trees.specs.declared.tree.Mark.{Mark}
use Rattle.spec_trees.specs.declared.tree.Figure.{Figure}
use Rattle.spec_trees.specs.declared.tree.Reading.{Reading}
use Rattle.spec_trees.specs.declared.tree.Value.{Value}
use Rattle.spec_trees.specs.declared.tree.Value.TheVariants as values
use Rattle.spec_trees.specs.declared.tree.ParamKind.{ParamKind}
use Rattle.spec_trees.specs.declared.tree.ParamKind.TheVariants as kinds
use Rattle.spec_trees.specs.declared.tree.Param.{Param}
use Rattle.spec_trees.specs.Form.{Sentence, LineForm, requires_form, insert_form, remove_form, add_form, set_form, takes_form, observes_form, ItemForm, sort_form, const_form, relation_form, counter_form, initially_form, token_form, conflict_form, invariant_form, operation_form}
use Rattle.spec_trees.specs.Spelling.{mark, figure, one, reading, minus, value, param_kind, param, sentence, line, item}
use Rattle.spec_trees.specs.Trees.{IsFree, ReadingFits, KindFits, ParamFits, SentenceFits, LineFits, ItemFits, SameMark, SameFigure, SameReading, SameValue, SameKind, SameParam, SameSentence, SameLine, SameItem}
use Rattle.spec_reader.specs.Reading.{to_value, value_at, to_kind, param_kind_at, to_param, param_at, params_at, Places, sort_at, const_at, places_at, initially_at, conflict_at, invariant_at, operation_at, AnyItem, to_item, item_at, starts_item, items_at, starts_line}
use Rattle.spec_reader.proofs.TermParts.{name_part, figure_part, args_part, reading_on, reading_part, minus_on, minus_part, minus_off}
use Rattle.spec_reader.proofs.FormParts.{form_on, form_off}
use Rattle.spec_reader.proofs.LineParts.{sentence_part, line_on, line_off, lines_part}

-- ---- initial values

pub value_part : Part SameValue (λ x. Unit {0}) value value_at (λ x k. false)
unfolding value_at
value_part = viewed_part to_value back (either_part (is_key keys.True) (sign_part keys.True) (either_part (is_key keys.False) (sign_part keys.False) (then_part minus_part figure_part (λ a b u f g h. minus_off a _ (number_not_key keys.Minus b.value))) (λ a u f. refl) not_false) (λ a u f. refl) not_true) (record {
  spelled = spelled;
  fits = λ a f. tt;
  on_to = on_to;
  same = same;
  to_back = to_back;
  back_fits = back_fits;
})
  where
    back : Value → Unit {0} ⊎ (Unit {0} ⊎ (Bool × Figure))
    back values.True = inl tt
    back values.False = inr (inl tt)
    back (values.Number m f) = inr (inr (m, f))

    number_words : Bool × Figure → List Spelt
    number_words x = minus x.0 ++ figure x.1 ∷ []

    Any : Type 0
    Any = Unit {0} ⊎ (Unit {0} ⊎ (Bool × Figure))

    Fits : Any → Type 0
    Fits x = sum_of (λ (u : Unit {0}). Unit {0}) (λ y. sum_of (λ (u : Unit {0}). Unit {0}) (λ z. Unit {0} × Unit {0}) y) x

    not_false : (b : Bool × Figure) (u : List Symbol) → Unit {0} × Unit {0} → is_key keys.False (next (plain (number_words b) ++ u)) ≡ false
    not_false (true, f) u h = refl
    not_false (false, f) u h = number_not_key keys.False f.value

    not_true : (b : Unit {0} ⊎ (Bool × Figure)) (u : List Symbol) → sum_of (λ (u : Unit {0}). Unit {0}) (λ z. Unit {0} × Unit {0}) b → is_key keys.True (next (plain (sum_of (λ (u : Unit {0}). sign keys.False ∷ []) number_words b) ++ u)) ≡ false
    not_true (inl x) u h = refl
    not_true (inr (true, f)) u h = refl
    not_true (inr (false, f)) u h = number_not_key keys.True f.value

    spelled : (a : Any) → Fits a → sum_of (λ (u : Unit {0}). sign keys.True ∷ []) (λ y. sum_of (λ (u : Unit {0}). sign keys.False ∷ []) number_words y) a ≡ value (to_value a)
    spelled (inl u) f = refl
    spelled (inr (inl u)) f = refl
    spelled (inr (inr x)) f = refl

    on_to : (a : Any) (k : Kind) → Fits a → sum_of {C = Kind → Bool} (λ u k. false) (λ y. sum_of {C = Kind → Bool} (λ u k. false) (λ z k. false) y) a k ≡ false
    on_to (inl u) k f = refl
    on_to (inr (inl u)) k f = refl
    on_to (inr (inr x)) k f = refl

    same : (a b : Any) → sum_same (λ u w. Unit {0}) (sum_same (λ u w. Unit {0}) (λ x y. (x.0 ≡ y.0) × SameFigure x.1 y.1)) a b → SameValue (to_value a) (to_value b)
    same (inl u) (inl w) h = tt
    same (inl u) (inr w) h = absurd h
    same (inr u) (inl w) h = absurd h
    same (inr (inl u)) (inr (inl w)) h = tt
    same (inr (inl u)) (inr (inr w)) h = absurd h
    same (inr (inr u)) (inr (inl w)) h = absurd h
    same (inr (inr x)) (inr (inr y)) h = h

    to_back : (b : Value) → Unit {0} → to_value (back b) ≡ b
    to_back values.True f = refl
    to_back values.False f = refl
    to_back (values.Number m f) h = refl

    back_fits : (b : Value) → Unit {0} → Fits (back b)
    back_fits values.True f = tt
    back_fits values.False f = tt
    back_fits (values.Number m f) h = (tt, tt)

-- ---- parameters

param_kind_part : (v : Version) → Part SameKind (KindFits v) param_kind (param_kind_at v) (λ x k. false)
unfolding param_kind_at
param_kind_part v = viewed_part to_kind back (either_part (is_key keys.Int) (sign_part keys.Int) (name_part v) (λ a u f. refl) (λ b u f. name_not_key keys.Int b.text)) (record {
  spelled = spelled;
  fits = fits;
  on_to = on_to;
  same = same;
  to_back = to_back;
  back_fits = back_fits;
})
  where
    back : ParamKind → Unit {0} ⊎ Mark
    back (kinds.Sort m) = inr m
    back kinds.Int = inl tt

    spelled : (a : Unit {0} ⊎ Mark) → sum_of (λ (u : Unit {0}). Unit {0}) (IsFree v) a → sum_of (λ (u : Unit {0}). sign keys.Int ∷ []) one a ≡ param_kind (to_kind a)
    spelled (inl u) f = refl
    spelled (inr m) f = refl

    fits : (a : Unit {0} ⊎ Mark) → sum_of (λ (u : Unit {0}). Unit {0}) (IsFree v) a → KindFits v (to_kind a)
    fits (inl u) f = tt
    fits (inr m) f = f

    on_to : (a : Unit {0} ⊎ Mark) (k : Kind) → sum_of (λ (u : Unit {0}). Unit {0}) (IsFree v) a → sum_of {C = Kind → Bool} (λ u k. false) (λ m k. false) a k ≡ false
    on_to (inl u) k f = refl
    on_to (inr m) k f = refl

    same : (a b : Unit {0} ⊎ Mark) → sum_same (λ u w. Unit {0}) SameMark a b → SameKind (to_kind a) (to_kind b)
    same (inl u) (inl w) h = tt
    same (inl u) (inr m) h = absurd h
    same (inr m) (inl u) h = absurd h
    same (inr m) (inr n) h = h

    to_back : (b : ParamKind) → KindFits v b → to_kind (back b) ≡ b
    to_back (kinds.Sort m) f = refl
    to_back kinds.Int f = refl

    back_fits : (b : ParamKind) → KindFits v b → sum_of (λ (u : Unit {0}). Unit {0}) (IsFree v) (back b)
    back_fits (kinds.Sort m) f = f
    back_fits kinds.Int f = tt

pub param_part : (v : Version) → Part SameParam (ParamFits v) param (param_at v) (λ x k. false)
unfolding param_at
param_part v = viewed_part to_param (λ p. (p.name, (tt, p.kind))) (then_part (name_part v) (then_part (sign_part keys.Colon) (param_kind_part v) (λ a b u f g h. refl)) (λ a b u f g h. refl)) (record {
  spelled = λ a f. refl;
  fits = λ a f. (f.0, f.1.1);
  on_to = λ a k f. refl;
  same = λ a b h. (h.0, h.1.1);
  to_back = λ b f. refl;
  back_fits = λ b f. (f.0, (tt, f.1));
})

pub params_part : (v : Version) → Part (AllSame SameParam) (AllByRecursion (ParamFits v)) (group param) (params_at v) group_on
unfolding params_at
params_part v = group_part (param_part v) (λ a. refl) (λ a. refl)

-- ---- items by themselves

sort_part : (v : Version) → Part (λ x y. Unit {0} × SameMark x.1 y.1) (λ x. Unit {0} × IsFree v x.1) (λ x. key keys.Sort x.0 ∷ mark x.1 ∷ []) (sort_at v) (λ x k. false)
unfolding sort_at
sort_part v = then_part (key_part keys.Sort) (name_part v) (λ a b u f g h. refl)

const_part : (v : Version) → Part (λ x y. Unit {0} × (SameMark x.1.0 y.1.0 × (Unit {0} × SameMark x.1.1.1 y.1.1.1))) (λ x. Unit {0} × (IsFree v x.1.0 × (Unit {0} × IsFree v x.1.1.1))) (λ x. key keys.Const x.0 ∷ mark x.1.0 ∷ sign keys.Colon ∷ mark x.1.1.1 ∷ []) (const_at v) (λ x k. false)
unfolding const_at
const_part v = then_part (key_part keys.Const) (then_part (name_part v) (then_part (sign_part keys.Colon) (name_part v) (λ a b u f g h. refl)) (λ a b u f g h. refl)) (λ a b u f g h. refl)

abbrev PlacesFit : Version → Places → Type 0
PlacesFit v x = Unit {0} × (IsFree v x.1.0 × AllByRecursion (IsFree v) x.1.1)

abbrev place_words : Key → Places → List Spelt
place_words k x = key k x.0 ∷ mark x.1.0 ∷ group one x.1.1

abbrev SamePlaces : Places → Places → Type 0
SamePlaces x y = Unit {0} × (SameMark x.1.0 y.1.0 × AllSame SameMark x.1.1 y.1.1)

places_part : (k : Key) (v : Version) → Part SamePlaces (PlacesFit v) (place_words k) (places_at k v) (λ x. group_on x.1.1)
unfolding places_at
places_part k v = then_part (key_part k) (then_part (name_part v) (args_part v) (λ a b u f g h. refl)) (λ a b u f g h. refl)

initially_part : (v : Version) → Part (λ x y. Unit {0} × (SameMark x.1.0 y.1.0 × SameValue x.1.1 y.1.1)) (λ x. Unit {0} × (IsFree v x.1.0 × Unit {0})) (λ x. key keys.Initially x.0 ∷ mark x.1.0 ∷ value x.1.1) (initially_at v) (λ x k. false)
unfolding initially_at
initially_part v = then_part (key_part keys.Initially) (then_part (name_part v) value_part (λ a b u f g h. refl)) (λ a b u f g h. refl)

conflict_part : (v : Version) → Part (λ x y. Unit {0} × (SameReading x.1.0 y.1.0 × SameReading x.1.1 y.1.1)) (λ x. Unit {0} × (ReadingFits v x.1.0 × ReadingFits v x.1.1)) (λ x. key keys.Conflict x.0 ∷ (reading x.1.0 ++ reading x.1.1)) (conflict_at v) (λ x. reading_on x.1.1)
unfolding conflict_at
conflict_part v = then_part (key_part keys.Conflict) (then_part (reading_part v) (reading_part v) (λ a b u f g h. group_off a.args _ (name_not_key keys.Open b.name.text))) (λ a b u f g h. refl)

invariant_part : (v : Version) (d : ℕ) → Part (λ x y. Unit {0} × (SameMark x.1.0 y.1.0 × SameSentence x.1.1 y.1.1)) (λ x. Unit {0} × (IsFree v x.1.0 × SentenceFits v d x.1.1)) (λ x. key keys.Invariant x.0 ∷ mark x.1.0 ∷ sentence x.1.1) (invariant_at v d) (λ x. form_on x.1.1.body)
unfolding invariant_at
invariant_part v d = then_part (key_part keys.Invariant) (then_part (name_part v) (sentence_part v d) (λ a b u f g h. refl)) (λ a b u f g h. refl)

abbrev Operation : Type 0
Operation = ℕ × (Mark × (List Param × (List LineForm × Unit {0})))

abbrev OperationFits : Version → ℕ → Operation → Type 0
OperationFits v d x = Unit {0} × (IsFree v x.1.0 × (AllByRecursion (ParamFits v) x.1.1.0 × (AllByRecursion (LineFits v d) x.1.1.1.0 × Unit {0})))

abbrev operation_words : Operation → List Spelt
operation_words x = key keys.Operation x.0 ∷ mark x.1.0 ∷ (group param x.1.1.0 ++ (each line x.1.1.1.0 ++ sign keys.End ∷ []))

abbrev SameOperation : Operation → Operation → Type 0
SameOperation x y = Unit {0} × (SameMark x.1.0 y.1.0 × (AllSame SameParam x.1.1.0 y.1.1.0 × (AllSame SameLine x.1.1.1.0 y.1.1.1.0 × Unit {0})))

lines_not_open : (ls : List LineForm) (u : List Symbol) → is_key keys.Open (next (plain (each line ls ++ sign keys.End ∷ []) ++ u)) ≡ false
lines_not_open [] u = refl
lines_not_open (requires_form w s ∷ ls) u = refl
lines_not_open (insert_form w m ss g ∷ ls) u = refl
lines_not_open (remove_form w m ss g ∷ ls) u = refl
lines_not_open (add_form w m ss t g ∷ ls) u = refl
lines_not_open (set_form w m ss t g ∷ ls) u = refl
lines_not_open (takes_form w r m ∷ ls) u = refl
lines_not_open (observes_form w s ∷ ls) u = refl

starts_not_finish : (v : Version) → starts_line v (kind.Key keys.End) ≡ false
starts_not_finish version.First = refl
starts_not_finish version.Second = refl

operation_part : (v : Version) (d : ℕ) → Part SameOperation (OperationFits v d) operation_words (operation_at v d) (λ x k. false)
unfolding operation_at
operation_part v d = then_part (key_part keys.Operation) (then_part (name_part v) (then_part (params_part v) (then_part (lines_part v d) (sign_part keys.End) (λ a b u f g h. list_on_false (starts_line v) (line_on v) a (kind.Key keys.End) (starts_not_finish v) (λ x. line_off v x (kind.Key keys.End) refl refl refl refl refl))) (λ a b u f g h. group_off a _ (lines_not_open b.0 u))) (λ a b u f g h. refl)) (λ a b u f g h. refl)

-- ---- any item

abbrev Items9 : Type 0
Items9 = Operation

abbrev Items8 : Type 0
Items8 = (ℕ × (Mark × Sentence)) ⊎ Items9

abbrev Items7 : Type 0
Items7 = (ℕ × (Reading × Reading)) ⊎ Items8

abbrev Items6 : Type 0
Items6 = Places ⊎ Items7

abbrev Items5 : Type 0
Items5 = (ℕ × (Mark × Value)) ⊎ Items6

abbrev Items4 : Type 0
Items4 = Places ⊎ Items5

abbrev Items3 : Type 0
Items3 = Places ⊎ Items4

abbrev Items2 : Type 0
Items2 = (ℕ × (Mark × (Unit {0} × Mark))) ⊎ Items3

abbrev Fits8 : Version → ℕ → Items8 → Type 0
Fits8 v d = sum_of (λ x. Unit {0} × (IsFree v x.1.0 × SentenceFits v d x.1.1)) (OperationFits v d)

abbrev Fits7 : Version → ℕ → Items7 → Type 0
Fits7 v d = sum_of (λ x. Unit {0} × (ReadingFits v x.1.0 × ReadingFits v x.1.1)) (Fits8 v d)

abbrev Fits6 : Version → ℕ → Items6 → Type 0
Fits6 v d = sum_of (PlacesFit v) (Fits7 v d)

abbrev Fits5 : Version → ℕ → Items5 → Type 0
Fits5 v d = sum_of (λ x. Unit {0} × (IsFree v x.1.0 × Unit {0})) (Fits6 v d)

abbrev Fits4 : Version → ℕ → Items4 → Type 0
Fits4 v d = sum_of (PlacesFit v) (Fits5 v d)

abbrev Fits3 : Version → ℕ → Items3 → Type 0
Fits3 v d = sum_of (PlacesFit v) (Fits4 v d)

abbrev Fits2 : Version → ℕ → Items2 → Type 0
Fits2 v d = sum_of (λ x. Unit {0} × (IsFree v x.1.0 × (Unit {0} × IsFree v x.1.1.1))) (Fits3 v d)

abbrev Fits1 : Version → ℕ → AnyItem → Type 0
Fits1 v d = sum_of (λ x. Unit {0} × IsFree v x.1) (Fits2 v d)

abbrev words8 : Items8 → List Spelt
words8 = sum_of (λ x. key keys.Invariant x.0 ∷ mark x.1.0 ∷ sentence x.1.1) operation_words

abbrev words7 : Items7 → List Spelt
words7 = sum_of (λ x. key keys.Conflict x.0 ∷ (reading x.1.0 ++ reading x.1.1)) words8

abbrev words6 : Items6 → List Spelt
words6 = sum_of (place_words keys.Token) words7

abbrev words5 : Items5 → List Spelt
words5 = sum_of (λ x. key keys.Initially x.0 ∷ mark x.1.0 ∷ value x.1.1) words6

abbrev words4 : Items4 → List Spelt
words4 = sum_of (place_words keys.Counter) words5

abbrev words3 : Items3 → List Spelt
words3 = sum_of (place_words keys.Relation) words4

abbrev words2 : Items2 → List Spelt
words2 = sum_of (λ x. key keys.Const x.0 ∷ mark x.1.0 ∷ sign keys.Colon ∷ mark x.1.1.1 ∷ []) words3

abbrev words1 : AnyItem → List Spelt
words1 = sum_of (λ x. key keys.Sort x.0 ∷ mark x.1 ∷ []) words2

abbrev never : {A : Type 0} → A → Kind → Bool
never a k = false

abbrev on1 : AnyItem → Kind → Bool
on1 = sum_of never (sum_of never (sum_of (λ x. group_on x.1.1) (sum_of (λ x. group_on x.1.1) (sum_of never (sum_of (λ x. group_on x.1.1) (sum_of (λ x. reading_on x.1.1) (sum_of (λ x. form_on x.1.1.body) never)))))))

abbrev Same1 : AnyItem → AnyItem → Type 0
Same1 = sum_same (λ x y. Unit {0} × SameMark x.1 y.1) (sum_same (λ x y. Unit {0} × (SameMark x.1.0 y.1.0 × (Unit {0} × SameMark x.1.1.1 y.1.1.1))) (sum_same SamePlaces (sum_same SamePlaces (sum_same (λ x y. Unit {0} × (SameMark x.1.0 y.1.0 × SameValue x.1.1 y.1.1)) (sum_same SamePlaces (sum_same (λ x y. Unit {0} × (SameReading x.1.0 y.1.0 × SameReading x.1.1 y.1.1)) (sum_same (λ x y. Unit {0} × (SameMark x.1.0 y.1.0 × SameSentence x.1.1 y.1.1)) SameOperation)))))))

abbrev pub item_on : ItemForm → Kind → Bool
item_on (sort_form w m) k = false
item_on (const_form w m s) k = false
item_on (relation_form w m ps) k = group_on ps k
item_on (counter_form w m ps) k = group_on ps k
item_on (initially_form w m v) k = false
item_on (token_form w m ps) k = group_on ps k
item_on (conflict_form w p q) k = reading_on q k
item_on (invariant_form w m s) k = form_on s.body k
item_on (operation_form w m ps ls) k = false

pub item_off : (x : ItemForm) (k : Kind) → is_key keys.Open k ≡ false → item_on x k ≡ false
item_off (sort_form w m) k h = refl
item_off (const_form w m s) k h = refl
item_off (relation_form w m ps) k h = group_off ps k h
item_off (counter_form w m ps) k h = group_off ps k h
item_off (initially_form w m v) k h = refl
item_off (token_form w m ps) k h = group_off ps k h
item_off (conflict_form w p q) k h = group_off q.args k h
item_off (invariant_form w m s) k h = form_off s.body k h
item_off (operation_form w m ps ls) k h = refl

-- no other item begins so

not_conflict : (v : Version) (d : ℕ) (b : Items8) (u : List Symbol) → Fits8 v d b → is_key keys.Conflict (next (plain (words8 b) ++ u)) ≡ false
not_conflict v d (inl x) u f = refl
not_conflict v d (inr x) u f = refl

not_token : (v : Version) (d : ℕ) (b : Items7) (u : List Symbol) → Fits7 v d b → is_key keys.Token (next (plain (words7 b) ++ u)) ≡ false
not_token v d (inl x) u f = refl
not_token v d (inr (inl x)) u f = refl
not_token v d (inr (inr x)) u f = refl

not_initially : (v : Version) (d : ℕ) (b : Items6) (u : List Symbol) → Fits6 v d b → is_key keys.Initially (next (plain (words6 b) ++ u)) ≡ false
not_initially v d (inl x) u f = refl
not_initially v d (inr (inl x)) u f = refl
not_initially v d (inr (inr (inl x))) u f = refl
not_initially v d (inr (inr (inr x))) u f = refl

not_counter : (v : Version) (d : ℕ) (b : Items5) (u : List Symbol) → Fits5 v d b → is_key keys.Counter (next (plain (words5 b) ++ u)) ≡ false
not_counter v d (inl x) u f = refl
not_counter v d (inr (inl x)) u f = refl
not_counter v d (inr (inr (inl x))) u f = refl
not_counter v d (inr (inr (inr (inl x)))) u f = refl
not_counter v d (inr (inr (inr (inr x)))) u f = refl

not_relation : (v : Version) (d : ℕ) (b : Items4) (u : List Symbol) → Fits4 v d b → is_key keys.Relation (next (plain (words4 b) ++ u)) ≡ false
not_relation v d (inl x) u f = refl
not_relation v d (inr (inl x)) u f = refl
not_relation v d (inr (inr (inl x))) u f = refl
not_relation v d (inr (inr (inr (inl x)))) u f = refl
not_relation v d (inr (inr (inr (inr (inl x))))) u f = refl
not_relation v d (inr (inr (inr (inr (inr x))))) u f = refl

not_const : (v : Version) (d : ℕ) (b : Items3) (u : List Symbol) → Fits3 v d b → is_key keys.Const (next (plain (words3 b) ++ u)) ≡ false
not_const v d (inl x) u f = refl
not_const v d (inr (inl x)) u f = refl
not_const v d (inr (inr (inl x))) u f = refl
not_const v d (inr (inr (inr (inl x)))) u f = refl
not_const v d (inr (inr (inr (inr (inl x))))) u f = refl
not_const v d (inr (inr (inr (inr (inr (inl x)))))) u f = refl
not_const v d (inr (inr (inr (inr (inr (inr x)))))) u f = refl

not_sort : (v : Version) (d : ℕ) (b : Items2) (u : List Symbol) → Fits2 v d b → is_key keys.Sort (next (plain (words2 b) ++ u)) ≡ false
not_sort v d (inl x) u f = refl
not_sort v d (inr (inl x)) u f = refl
not_sort v d (inr (inr (inl x))) u f = refl
not_sort v d (inr (inr (inr (inl x)))) u f = refl
not_sort v d (inr (inr (inr (inr (inl x))))) u f = refl
not_sort v d (inr (inr (inr (inr (inr (inl x)))))) u f = refl
not_sort v d (inr (inr (inr (inr (inr (inr (inl x))))))) u f = refl
not_sort v d (inr (inr (inr (inr (inr (inr (inr x))))))) u f = refl

pub item_part : (v : Version) (d : ℕ) → Part SameItem (ItemFits v d) item (item_at v d) item_on
unfolding item_at
item_part v d = viewed_part to_item back
    (either_part (is_key keys.Sort) (sort_part v)
    (either_part (is_key keys.Const) (const_part v)
    (either_part (is_key keys.Relation) (places_part keys.Relation v)
    (either_part (is_key keys.Counter) (places_part keys.Counter v)
    (either_part (is_key keys.Initially) (initially_part v)
    (either_part (is_key keys.Token) (places_part keys.Token v)
    (either_part (is_key keys.Conflict) (conflict_part v)
    (either_part (is_key keys.Invariant) (invariant_part v d) (operation_part v d) (λ a u f. refl) (λ b u f. refl))
    (λ a u f. refl) (not_conflict v d))
    (λ a u f. refl) (not_token v d))
    (λ a u f. refl) (not_initially v d))
    (λ a u f. refl) (not_counter v d))
    (λ a u f. refl) (not_relation v d))
    (λ a u f. refl) (not_const v d))
    (λ a u f. refl) (not_sort v d))
    (record {
      spelled = spelled;
      fits = fits;
      on_to = on_to;
      same = same;
      to_back = to_back;
      back_fits = back_fits;
    })
  where
    back : ItemForm → AnyItem
    back (sort_form w m) = inl (w, m)
    back (const_form w m s) = inr (inl (w, (m, (tt, s))))
    back (relation_form w m ps) = inr (inr (inl (w, (m, ps))))
    back (counter_form w m ps) = inr (inr (inr (inl (w, (m, ps)))))
    back (initially_form w m x) = inr (inr (inr (inr (inl (w, (m, x))))))
    back (token_form w m ps) = inr (inr (inr (inr (inr (inl (w, (m, ps)))))))
    back (conflict_form w p q) = inr (inr (inr (inr (inr (inr (inl (w, (p, q))))))))
    back (invariant_form w m s) = inr (inr (inr (inr (inr (inr (inr (inl (w, (m, s)))))))))
    back (operation_form w m ps ls) = inr (inr (inr (inr (inr (inr (inr (inr (w, (m, (ps, (ls, tt)))))))))))

    spelled : (a : AnyItem) → Fits1 v d a → words1 a ≡ item (to_item a)
    spelled (inl x) f = refl
    spelled (inr (inl x)) f = refl
    spelled (inr (inr (inl x))) f = refl
    spelled (inr (inr (inr (inl x)))) f = refl
    spelled (inr (inr (inr (inr (inl x))))) f = refl
    spelled (inr (inr (inr (inr (inr (inl x)))))) f = refl
    spelled (inr (inr (inr (inr (inr (inr (inl x))))))) f = refl
    spelled (inr (inr (inr (inr (inr (inr (inr (inl x)))))))) f = refl
    spelled (inr (inr (inr (inr (inr (inr (inr (inr x)))))))) f = refl

    fits : (a : AnyItem) → Fits1 v d a → ItemFits v d (to_item a)
    fits (inl x) f = f.1
    fits (inr (inl x)) f = (f.1.0, f.1.1.1)
    fits (inr (inr (inl x))) f = f.1
    fits (inr (inr (inr (inl x)))) f = f.1
    fits (inr (inr (inr (inr (inl x))))) f = f.1.0
    fits (inr (inr (inr (inr (inr (inl x)))))) f = f.1
    fits (inr (inr (inr (inr (inr (inr (inl x))))))) f = f.1
    fits (inr (inr (inr (inr (inr (inr (inr (inl x)))))))) f = f.1
    fits (inr (inr (inr (inr (inr (inr (inr (inr x)))))))) f = (f.1.0, f.1.1.0, f.1.1.1.0)

    on_to : (a : AnyItem) (k : Kind) → Fits1 v d a → on1 a k ≡ item_on (to_item a) k
    on_to (inl x) k f = refl
    on_to (inr (inl x)) k f = refl
    on_to (inr (inr (inl x))) k f = refl
    on_to (inr (inr (inr (inl x)))) k f = refl
    on_to (inr (inr (inr (inr (inl x))))) k f = refl
    on_to (inr (inr (inr (inr (inr (inl x)))))) k f = refl
    on_to (inr (inr (inr (inr (inr (inr (inl x))))))) k f = refl
    on_to (inr (inr (inr (inr (inr (inr (inr (inl x)))))))) k f = refl
    on_to (inr (inr (inr (inr (inr (inr (inr (inr x)))))))) k f = refl

    same : (a b : AnyItem) → Same1 a b → SameItem (to_item a) (to_item b)
    same (inl x) (inl y) h = h.1
    same (inl x) (inr y) h = absurd h
    same (inr x) (inl y) h = absurd h
    same (inr (inl x)) (inr (inl y)) h = (h.1.0, h.1.1.1)
    same (inr (inl x)) (inr (inr y)) h = absurd h
    same (inr (inr x)) (inr (inl y)) h = absurd h
    same (inr (inr (inl x))) (inr (inr (inl y))) h = h.1
    same (inr (inr (inl x))) (inr (inr (inr y))) h = absurd h
    same (inr (inr (inr x))) (inr (inr (inl y))) h = absurd h
    same (inr (inr (inr (inl x)))) (inr (inr (inr (inl y)))) h = h.1
    same (inr (inr (inr (inl x)))) (inr (inr (inr (inr y)))) h = absurd h
    same (inr (inr (inr (inr x)))) (inr (inr (inr (inl y)))) h = absurd h
    same (inr (inr (inr (inr (inl x))))) (inr (inr (inr (inr (inl y))))) h = h.1
    same (inr (inr (inr (inr (inl x))))) (inr (inr (inr (inr (inr y))))) h = absurd h
    same (inr (inr (inr (inr (inr x))))) (inr (inr (inr (inr (inl y))))) h = absurd h
    same (inr (inr (inr (inr (inr (inl x)))))) (inr (inr (inr (inr (inr (inl y)))))) h = h.1
    same (inr (inr (inr (inr (inr (inl x)))))) (inr (inr (inr (inr (inr (inr y)))))) h = absurd h
    same (inr (inr (inr (inr (inr (inr x)))))) (inr (inr (inr (inr (inr (inl y)))))) h = absurd h
    same (inr (inr (inr (inr (inr (inr (inl x))))))) (inr (inr (inr (inr (inr (inr (inl y))))))) h = h.1
    same (inr (inr (inr (inr (inr (inr (inl x))))))) (inr (inr (inr (inr (inr (inr (inr y))))))) h = absurd h
    same (inr (inr (inr (inr (inr (inr (inr x))))))) (inr (inr (inr (inr (inr (inr (inl y))))))) h = absurd h
    same (inr (inr (inr (inr (inr (inr (inr (inl x)))))))) (inr (inr (inr (inr (inr (inr (inr (inl y)))))))) h = h.1
    same (inr (inr (inr (inr (inr (inr (inr (inl x)))))))) (inr (inr (inr (inr (inr (inr (inr (inr y)))))))) h = absurd h
    same (inr (inr (inr (inr (inr (inr (inr (inr x)))))))) (inr (inr (inr (inr (inr (inr (inr (inl y)))))))) h = absurd h
    same (inr (inr (inr (inr (inr (inr (inr (inr x)))))))) (inr (inr (inr (inr (inr (inr (inr (inr y)))))))) h = (h.1.0, h.1.1.0, h.1.1.1.0)

    to_back : (b : ItemForm) → ItemFits v d b → to_item (back b) ≡ b
    to_back (sort_form w m) f = refl
    to_back (const_form w m s) f = refl
    to_back (relation_form w m ps) f = refl
    to_back (counter_form w m ps) f = refl
    to_back (initially_form w m x) f = refl
    to_back (token_form w m ps) f = refl
    to_back (conflict_form w p q) f = refl
    to_back (invariant_form w m s) f = refl
    to_back (operation_form w m ps ls) f = refl

    back_fits : (b : ItemForm) → ItemFits v d b → Fits1 v d (back b)
    back_fits (sort_form w m) f = (tt, f)
    back_fits (const_form w m s) f = (tt, (f.0, (tt, f.1)))
    back_fits (relation_form w m ps) f = (tt, f)
    back_fits (counter_form w m ps) f = (tt, f)
    back_fits (initially_form w m x) f = (tt, (f, tt))
    back_fits (token_form w m ps) f = (tt, f)
    back_fits (conflict_form w p q) f = (tt, f)
    back_fits (invariant_form w m s) f = (tt, f)
    back_fits (operation_form w m ps ls) f = (tt, (f.0, (f.1, (f.2, tt))))

pub item_begins : (v : Version) (d : ℕ) (a : ItemForm) (u : List Symbol) → ItemFits v d a → starts_item (next (plain (item a) ++ u)) ≡ true
item_begins v d (sort_form w m) u f = refl
item_begins v d (const_form w m s) u f = refl
item_begins v d (relation_form w m ps) u f = refl
item_begins v d (counter_form w m ps) u f = refl
item_begins v d (initially_form w m x) u f = refl
item_begins v d (token_form w m ps) u f = refl
item_begins v d (conflict_form w p q) u f = refl
item_begins v d (invariant_form w m s) u f = refl
item_begins v d (operation_form w m ps ls) u f = refl

pub items_part : (v : Version) (d : ℕ) → Part (AllSame SameItem) (AllByRecursion (ItemFits v d)) (each item) (items_at v d) (list_on starts_item item_on)
unfolding items_at
items_part v d = many_part starts_item (item_part v d) (item_begins v d) first refl
  where
    first : (a b : ItemForm) (u : List Symbol) → ItemFits v d a → ItemFits v d b → item_on a (next (plain (item b) ++ u)) ≡ false
    first a (sort_form w m) u f g = item_off a (kind.Key keys.Sort) refl
    first a (const_form w m s) u f g = item_off a (kind.Key keys.Const) refl
    first a (relation_form w m ps) u f g = item_off a (kind.Key keys.Relation) refl
    first a (counter_form w m ps) u f g = item_off a (kind.Key keys.Counter) refl
    first a (initially_form w m x) u f g = item_off a (kind.Key keys.Initially) refl
    first a (token_form w m ps) u f g = item_off a (kind.Key keys.Token) refl
    first a (conflict_form w p q) u f g = item_off a (kind.Key keys.Conflict) refl
    first a (invariant_form w m s) u f g = item_off a (kind.Key keys.Invariant) refl
    first a (operation_form w m ps ls) u f g = item_off a (kind.Key keys.Operation) refl
