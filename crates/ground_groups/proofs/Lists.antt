-- Lists of formulas up to a limit: one list after another, and lists that are too long.
use Rattle.std.proofs.Common.{◌≡◌, ℕ, zero, suc, ◌+◌, ◌-◌, ◌<◌, ◌≤◌, Bool, true, false, cond, Option, Some, None, List, [], ◌∷◌, ◌++◌, length, map, drop, drop-cons, get_or, slice_index, length-append, append_assoc, refl, sym, ◌∙◌, ap, arith}
use Rattle.std.specs.Prelude.{ltb, Result, Ok, Err}
use Rattle.std.specs.List.{flat_map}
use Rattle.std.specs.Option.{option_and_then}
use Rattle.std.proofs.lemmas.Bool.{ltb-true, ltb-false}
use Rattle.std.proofs.lemmas.Option.{same_Some}
use Rattle.std.proofs.lemmas.List.{length-map, map-append}
use Rattle.spec_core.specs.World.{each_before}
use Rattle.spec_core.specs.declared.spec.Invariant.{Invariant}
use Rattle.ground_atoms.specs.Formulas.{form_of}
use Rattle.ground_problem.specs.Symbols.{Symbolic, negated}
use Rattle.ground_numbers.specs.Numbered.{Numbered}
use Rattle.ground_atoms.specs.Known.{Known}
use Rattle.ground_atoms.specs.Making.{MadeList, make, make_all}
use Rattle.ground_problem.specs.Formulas.{Caller, Readings, formula, instances}
use Rattle.ground_problem.specs.Constants.{Constants, assignments}
use Rattle.ground_problem.specs.Problem.{most_formulas}
use Rattle.ground_groups.specs.Limited.{make_upto, made_in, made_with, Appends, Makes, HasRoomFor, IsWithin}
use Rattle.ground_groups.specs.Lines.{signed}
use Rattle.ground_groups.specs.declared.grounding.Grounding.{Grounding}
use Rattle.ground_groups.specs.declared.refused.GroundRefused.{GroundRefused}
use Rattle.ground_groups.specs.declared.refused.GroundRefused.TheVariants.{TooMany, Memory}

-- one list and then another
pub upto_append : (so_far : List Numbered) (k : Known) (xs ys : List Symbolic) → make_upto so_far k (xs ++ ys) ≡ option_and_then (λ m. make_upto m.forms m.known ys) (make_upto so_far k xs)
upto_append so_far k [] ys = refl
upto_append so_far k (x ∷ xs) ys = by_test (ltb (length so_far) most_formulas) (upto_append (so_far ++ (make k x).form ∷ []) (make k x).known xs ys)
  where
    by_test : (b : Bool) → make_upto (so_far ++ (make k x).form ∷ []) (make k x).known (xs ++ ys) ≡ option_and_then (λ m. make_upto m.forms m.known ys) (make_upto (so_far ++ (make k x).form ∷ []) (make k x).known xs)
        → cond b (make_upto (so_far ++ (make k x).form ∷ []) (make k x).known (xs ++ ys)) None ≡ option_and_then (λ m. make_upto m.forms m.known ys) (cond b (make_upto (so_far ++ (make k x).form ∷ []) (make k x).known xs) None)
    by_test true e = e
    by_test false e = refl

pub upto_then : (so_far more : List Numbered) (k l : Known) (xs ys : List Symbolic) → make_upto so_far k xs ≡ Some (record { known = l; forms = more }) → make_upto so_far k (xs ++ ys) ≡ make_upto more l ys
upto_then so_far more k l xs ys e = upto_append so_far k xs ys ∙ ap (λ (o : Option MadeList). option_and_then (λ m. make_upto m.forms m.known ys) o) e

pub upto_none : (so_far : List Numbered) (k : Known) (xs ys : List Symbolic) → make_upto so_far k xs ≡ None → make_upto so_far k (xs ++ ys) ≡ None
upto_none so_far k xs ys e = upto_append so_far k xs ys ∙ ap (λ (o : Option MadeList). option_and_then (λ m. make_upto m.forms m.known ys) o) e

-- more formulas than there is room for
pub upto_beyond : (so_far : List Numbered) (k : Known) (fs : List Symbolic) → most_formulas - length so_far < length fs → make_upto so_far k fs ≡ None
upto_beyond so_far k [] h = absurd (omega arith)
upto_beyond so_far k (f ∷ fs) h = by_test (ltb (length so_far) most_formulas) refl (λ g. upto_beyond (so_far ++ (make k f).form ∷ []) (make k f).known fs g)
  where
    longer : length (so_far ++ (make k f).form ∷ []) ≡ length so_far + 1
    longer = length-append so_far ((make k f).form ∷ [])

    by_test : (b : Bool) → ltb (length so_far) most_formulas ≡ b → (most_formulas - length (so_far ++ (make k f).form ∷ []) < length fs → make_upto (so_far ++ (make k f).form ∷ []) (make k f).known fs ≡ None)
        → cond b (make_upto (so_far ++ (make k f).form ∷ []) (make k f).known fs) None ≡ None
    by_test true e g = g (omega (arith, longer, h, ltb-true (length so_far) most_formulas e))
    by_test false e g = refl

-- ---- one group of formulas for each member of a list

next_of : {X Y : Type 0} (f : X → List Y) (xs : List X) (i : ℕ) (d : X) → i < length xs → flat_map f (drop i xs) ≡ f (get_or xs i d) ++ flat_map f (drop (i + 1) xs)
next_of f xs i d h =
    let e : suc i ≡ i + 1 = omega arith in
    ap (flat_map f) (drop-cons xs i d h) ∙ ap (λ (n : ℕ). f (get_or xs i d) ++ flat_map f (drop n xs)) e

-- the next member of a loop over them
pub group_next : {X : Type 0} (f : X → List Symbolic) (xs : List X) (i : ℕ) (x : X) → i < length xs → x ≡ get_or xs i x → (so_far more : List Numbered) (k l : Known)
    → make_upto so_far k (f x) ≡ Some (record { known = l; forms = more })
    → make_upto more l (flat_map f (drop (i + 1) xs)) ≡ make_upto so_far k (flat_map f (drop i xs))
group_next f xs i x h q so_far more k l e =
    sym (upto_then so_far more k l (f (get_or xs i x)) (flat_map f (drop (i + 1) xs)) (ap (λ y. make_upto so_far k (f y)) (sym q) ∙ e))
    ∙ ap (make_upto so_far k) (sym (next_of f xs i x h))

any_default : {X : Type 0} (xs : List X) (i : ℕ) (d e : X) → i < length xs → get_or xs i d ≡ get_or xs i e
any_default [] i d e h = absurd (omega arith)
any_default (x ∷ xs) zero d e h = refl
any_default (x ∷ xs) (suc i) d e h = any_default xs i d e (omega arith)

-- the same for a member that is copied
pub group_next_at : {X : Type 0} (f : X → List Symbolic) (xs : List X) (i : ℕ) (d : X) → i < length xs → (so_far more : List Numbered) (k l : Known)
    → make_upto so_far k (f (get_or xs i d)) ≡ Some (record { known = l; forms = more })
    → make_upto more l (flat_map f (drop (i + 1) xs)) ≡ make_upto so_far k (flat_map f (drop i xs))
group_next_at f xs i d h so_far more k l e = group_next f xs i (get_or xs i d) h (any_default xs i d (get_or xs i d) h) so_far more k l e

none_group : {X : Type 0} (f : X → List Symbolic) (xs : List X) (i : ℕ) (x : X) → i < length xs → x ≡ get_or xs i x → (so_far : List Numbered) (k : Known)
    → make_upto so_far k (f x) ≡ None → make_upto so_far k (flat_map f (drop i xs)) ≡ None
none_group f xs i x h q so_far k e = ap (make_upto so_far k) (next_of f xs i x h) ∙ upto_none so_far k (f (get_or xs i x)) (flat_map f (drop (i + 1) xs)) (ap (λ y. make_upto so_far k (f y)) (sym q) ∙ e)

-- a refusal at it is one of all
pub group_refused : {X : Type 0} (f : X → List Symbolic) (xs : List X) (i : ℕ) (x : X) → i < length xs → x ≡ get_or xs i x → (why : GroundRefused) (old first new : Grounding)
    → made_with old (flat_map f (drop i xs)) ≡ made_with first (flat_map f xs)
    → Appends {A = Unit {0}} (Err why) old (f x) new → Appends {A = Unit {0}} (Err why) first (flat_map f xs) new
group_refused f xs i x h q TooMany old first new e g = sym e ∙ none_group f xs i x h q (map form_of old.formulas) old.atoms g
group_refused f xs i x h q Memory old first new e g = tt

pub group_refused_at : {X : Type 0} (f : X → List Symbolic) (xs : List X) (i : ℕ) (d : X) → i < length xs → (why : GroundRefused) (old first new : Grounding)
    → made_with old (flat_map f (drop i xs)) ≡ made_with first (flat_map f xs)
    → Appends {A = Unit {0}} (Err why) old (f (get_or xs i d)) new → Appends {A = Unit {0}} (Err why) first (flat_map f xs) new
group_refused_at f xs i d h = group_refused f xs i (get_or xs i d) h (any_default xs i d (get_or xs i d) h)

-- more of them than there is room for
pub refused_beyond : (why : GroundRefused) (old new : Grounding) (f : List ℕ → Symbolic) (vs : List (List ℕ)) → HasRoomFor (Err why) (most_formulas - length old.formulas) (length vs) → Appends {A = Unit {0}} (Err why) old (map f vs) new
refused_beyond TooMany old new f vs h =
    let e : length (map form_of old.formulas) ≡ length old.formulas = length-map old.formulas form_of in
    let g : length (map f vs) ≡ length vs = length-map vs f in
    upto_beyond (map form_of old.formulas) old.atoms (map f vs) (omega (arith, e, g, h))
refused_beyond Memory old new f vs h = tt

-- ---- how many formulas all invariants give

-- the next member of a loop that counts them
pub count_next : {X Y : Type 0} (f : X → List Y) (xs : List X) (i : ℕ) (x : X) → i < length xs → x ≡ get_or xs i x → (so_far n more all : ℕ)
    → so_far + length (flat_map f (drop i xs)) ≤ all → n ≤ length (f x) → more ≤ so_far + n → more + length (flat_map f (drop (i + 1) xs)) ≤ all
count_next f xs i x h q so_far n more all e g s =
    let a = ap length (next_of f xs i x h) ∙ length-append (f (get_or xs i x)) (flat_map f (drop (i + 1) xs)) in
    let b = ap (λ y. length (f y)) q in
    omega (arith, a, b, e, g, s)

-- as many as they have assignments
invariants-length : (z : Constants) (r : Readings) (c : Caller) (is : List Invariant)
    → length (flat_map (λ i. instances z r c i.line.vars i.line.body) is) ≡ length (flat_map (λ i. assignments z i.line.vars) is)
invariants-length z r c [] = refl
invariants-length z r c (i ∷ is) =
    let a = length-append (instances z r c i.line.vars i.line.body) (flat_map (λ i. instances z r c i.line.vars i.line.body) is) in
    let b = length-append (assignments z i.line.vars) (flat_map (λ i. assignments z i.line.vars) is) in
    let e : length (instances z r c i.line.vars i.line.body) ≡ length (assignments z i.line.vars) = length-map (assignments z i.line.vars) (λ vs. formula r c vs i.line.body) in
    let g = invariants-length z r c is in
    omega (arith, a, b, e, g)

pub invariants_beyond : (why : GroundRefused) (old new : Grounding) (z : Constants) (r : Readings) (c : Caller) (is : List Invariant)
    → HasRoomFor (Err why) (most_formulas - length old.formulas) (length (flat_map (λ i. assignments z i.line.vars) is)) → Appends {A = Unit {0}} (Err why) old (flat_map (λ i. instances z r c i.line.vars i.line.body) is) new
invariants_beyond TooMany old new z r c is h =
    let e : length (map form_of old.formulas) ≡ length old.formulas = length-map old.formulas form_of in
    let g = invariants-length z r c is in
    upto_beyond (map form_of old.formulas) old.atoms (flat_map (λ i. instances z r c i.line.vars i.line.body) is) (omega (arith, e, g, h))
invariants_beyond Memory old new z r c is h = tt

-- ---- one formula for each choice of constants

-- one constant more is chosen, and then each of those that are left
pub chosen_next : (f : List ℕ → Symbolic) (before longer xs : List ℕ) (ts : List (List ℕ)) (i : ℕ) → i < length xs → longer ≡ before ++ slice_index xs i ∷ []
    → map (λ vs. f (before ++ vs)) (each_before (drop i xs) ts) ≡ map (λ vs. f (longer ++ vs)) ts ++ map (λ vs. f (before ++ vs)) (each_before (drop (i + 1) xs) ts)
chosen_next f before longer xs ts i h e =
    let g : List ℕ → Symbolic = λ vs. f (before ++ vs) in
    let x = slice_index xs i in
    let s : suc i ≡ i + 1 = omega arith in
    ap (λ (ys : List ℕ). map g (each_before ys ts)) (drop-cons xs i 0 h)
    ∙ map-append g (map (λ t. x ∷ t) ts) (each_before (drop (suc i) xs) ts)
    ∙ (λ j. firsts ts j ++ map g (each_before (drop (s j) xs) ts))
  where
    firsts : (ts : List (List ℕ)) → map (λ vs. f (before ++ vs)) (map (λ t. slice_index xs i ∷ t) ts) ≡ map (λ vs. f (longer ++ vs)) ts
    firsts [] = refl
    firsts (t ∷ ts) = (let a = sym (append_assoc before (slice_index xs i ∷ []) t) ∙ ap (λ (l : List ℕ). l ++ t) (sym e) in λ j. f (a j) ∷ firsts ts j)

-- each of them is false
pub false_each : (f : List ℕ → Symbolic) (vss : List (List ℕ)) → map (λ vs. signed false (f vs)) vss ≡ map negated (map f vss)
false_each f [] = refl
false_each f (vs ∷ vss) = ap (λ (fs : List Symbolic). negated (f vs) ∷ fs) (false_each f vss)

-- ---- one group of formulas for each two members of two lists, up to the end of the shorter one

pub pair_next : {X Y : Type 0} (z : ℕ → List X → List Y → List Symbolic) (f : ℕ → X → Y → List Symbolic) → ((n : ℕ) (x : X) (y : Y) (xs : List X) (ys : List Y) → z n (x ∷ xs) (y ∷ ys) ≡ f n x y ++ z (n + 1) xs ys)
    → (xs : List X) (ys : List Y) (i : ℕ) (x : X) (y : Y) → i < length xs → i < length ys → x ≡ get_or xs i x → y ≡ get_or ys i y
    → z i (drop i xs) (drop i ys) ≡ f i x y ++ z (i + 1) (drop (i + 1) xs) (drop (i + 1) ys)
pair_next z f cons xs ys i x y h g p q =
    let e : suc i ≡ i + 1 = omega arith in
    let a = drop-cons xs i x h in
    let b = drop-cons ys i y g in
    (λ j. z i (a j) (b j)) ∙ cons i (get_or xs i x) (get_or ys i y) (drop (suc i) xs) (drop (suc i) ys)
    ∙ (λ j. f i (sym p j) (sym q j) ++ z (i + 1) (drop (e j) xs) (drop (e j) ys))

pub pair_step : (fs gs hs : List Symbolic) → hs ≡ fs ++ gs → (so_far more : List Numbered) (k l : Known)
    → make_upto so_far k fs ≡ Some (record { known = l; forms = more }) → make_upto more l gs ≡ make_upto so_far k hs
pair_step fs gs hs s so_far more k l e = sym (upto_then so_far more k l fs gs e) ∙ ap (make_upto so_far k) (sym s)

pub pair_refused : (fs gs hs : List Symbolic) → hs ≡ fs ++ gs → (why : GroundRefused) (old first new : Grounding) (all : List Symbolic)
    → made_with old hs ≡ made_with first all
    → Appends {A = Unit {0}} (Err why) old fs new → Appends {A = Unit {0}} (Err why) first all new
pair_refused fs gs hs s TooMany old first new all e g = sym e ∙ ap (made_with old) s ∙ upto_none (map form_of old.formulas) old.atoms fs gs g
pair_refused fs gs hs s Memory old first new all e g = tt

-- ---- one group after another

pub seq : {A : Type 0} (r : Result A GroundRefused) (old mid new : Grounding) (xs ys : List Symbolic)
    → made_with old xs ≡ Some (made_in mid) → Appends r mid ys new → Appends r old (xs ++ ys) new
seq (Ok v) old mid new xs ys e g = upto_then (map form_of old.formulas) (map form_of mid.formulas) old.atoms mid.atoms xs ys e ∙ g
seq (Err TooMany) old mid new xs ys e g = upto_then (map form_of old.formulas) (map form_of mid.formulas) old.atoms mid.atoms xs ys e ∙ g
seq (Err Memory) old mid new xs ys e g = tt

pub seq_refused : (why : GroundRefused) (old new : Grounding) (xs ys : List Symbolic)
    → Appends {A = Unit {0}} (Err why) old xs new → Appends {A = Unit {0}} (Err why) old (xs ++ ys) new
seq_refused TooMany old new xs ys e = upto_none (map form_of old.formulas) old.atoms xs ys e
seq_refused Memory old new xs ys e = tt

-- the same from the first formula on
pub makes_then : {A : Type 0} (r : Result A GroundRefused) (k : Known) (mid new : Grounding) (xs ys : List Symbolic)
    → make_upto [] k xs ≡ Some (made_in mid) → Appends r mid ys new → Makes r k (xs ++ ys) new
makes_then (Ok v) k mid new xs ys e g = upto_then [] (map form_of mid.formulas) k mid.atoms xs ys e ∙ g
makes_then (Err TooMany) k mid new xs ys e g = upto_then [] (map form_of mid.formulas) k mid.atoms xs ys e ∙ g
makes_then (Err Memory) k mid new xs ys e g = tt

pub makes_refused : (why : GroundRefused) (k : Known) (new : Grounding) (xs ys : List Symbolic)
    → Makes {A = Unit {0}} (Err why) k xs new → Makes {A = Unit {0}} (Err why) k (xs ++ ys) new
makes_refused TooMany k new xs ys e = upto_none [] k xs ys e
makes_refused Memory k new xs ys e = tt

-- what is appended to no formulas
pub makes_first : {A : Type 0} (r : Result A GroundRefused) (old new : Grounding) (k : Known) (fs : List Symbolic)
    → old.formulas ≡ [] → old.atoms ≡ k → Appends r old fs new → Makes r k fs new
makes_first (Ok v) old new k fs a b e = (λ i. make_upto (map form_of (sym a i)) (sym b i) fs) ∙ e
makes_first (Err TooMany) old new k fs a b e = (λ i. make_upto (map form_of (sym a i)) (sym b i) fs) ∙ e
makes_first (Err Memory) old new k fs a b e = tt

-- ---- lists that are made whole, and tested afterwards

all-length : (so_far : List Numbered) (k : Known) (fs : List Symbolic) → length (make_all so_far k fs).forms ≡ length so_far + length fs
all-length so_far k [] = omega arith
all-length so_far k (f ∷ fs) =
    let e = all-length (so_far ++ (make k f).form ∷ []) (make k f).known fs in
    let g : length (so_far ++ (make k f).form ∷ []) ≡ length so_far + 1 = length-append so_far ((make k f).form ∷ []) in
    omega (arith, e, g)

pub upto_is_all : (so_far : List Numbered) (k : Known) (fs : List Symbolic) → length so_far + length fs ≤ most_formulas → make_upto so_far k fs ≡ Some (make_all so_far k fs)
upto_is_all so_far k [] h = refl
upto_is_all so_far k (f ∷ fs) h = by_test (ltb (length so_far) most_formulas) refl (upto_is_all (so_far ++ (make k f).form ∷ []) (make k f).known fs (omega (arith, longer, h)))
  where
    longer : length (so_far ++ (make k f).form ∷ []) ≡ length so_far + 1
    longer = length-append so_far ((make k f).form ∷ [])

    by_test : (b : Bool) → ltb (length so_far) most_formulas ≡ b → make_upto (so_far ++ (make k f).form ∷ []) (make k f).known fs ≡ Some (make_all (so_far ++ (make k f).form ∷ []) (make k f).known fs)
        → cond b (make_upto (so_far ++ (make k f).form ∷ []) (make k f).known fs) None ≡ Some (make_all (so_far ++ (make k f).form ∷ []) (make k f).known fs)
    by_test true e g = g
    by_test false e g = absurd (let n = ltb-false (length so_far) most_formulas e in omega (arith, n, h))

pub limited : (r : Result (Unit {0}) GroundRefused) (old new : Grounding) (fs : List Symbolic) → 0 < length fs
    → make_all (map form_of old.formulas) old.atoms fs ≡ made_in new → IsWithin r (length new.formulas) → Appends r old fs new
limited r old new fs s e w =
    let a : length (map form_of new.formulas) ≡ length (map form_of old.formulas) + length fs = ap (λ (m : MadeList). length m.forms) (sym e) ∙ all-length (map form_of old.formulas) old.atoms fs in
    let b : length (map form_of new.formulas) ≡ length new.formulas = length-map new.formulas form_of in
    by_result r a b w
  where
    by_result : (r : Result (Unit {0}) GroundRefused) → length (map form_of new.formulas) ≡ length (map form_of old.formulas) + length fs → length (map form_of new.formulas) ≡ length new.formulas → IsWithin r (length new.formulas) → Appends r old fs new
    by_result (Ok v) a b w = upto_is_all (map form_of old.formulas) old.atoms fs (omega (arith, a, b, w)) ∙ ap Some e
    by_result (Err TooMany) a b w = upto_beyond (map form_of old.formulas) old.atoms fs (omega (arith, a, b, w, s))
    by_result (Err Memory) a b w = absurd w

-- what was made up to the limit is what is made
pub upto_made : (so_far : List Numbered) (k : Known) (fs : List Symbolic) (m : MadeList) → make_upto so_far k fs ≡ Some m → make_all so_far k fs ≡ m
upto_made so_far k [] m e = same_Some (record { known = k; forms = so_far }) m e
upto_made so_far k (f ∷ fs) m e = by_test (ltb (length so_far) most_formulas) e (upto_made (so_far ++ (make k f).form ∷ []) (make k f).known fs m)
  where
    by_test : (b : Bool) → cond b (make_upto (so_far ++ (make k f).form ∷ []) (make k f).known fs) None ≡ Some m
        → (make_upto (so_far ++ (make k f).form ∷ []) (make k f).known fs ≡ Some m → make_all (so_far ++ (make k f).form ∷ []) (make k f).known fs ≡ m)
        → make_all (so_far ++ (make k f).form ∷ []) (make k f).known fs ≡ m
    by_test true e g = g e
    by_test false e g = absurd cc

-- the length of what was made up to the limit
pub upto_length : (so_far : List Numbered) (k : Known) (fs : List Symbolic) (m : MadeList) → make_upto so_far k fs ≡ Some m → length m.forms ≡ length so_far + length fs
upto_length so_far k fs m e = ap (λ (n : MadeList). length n.forms) (sym (upto_made so_far k fs m e)) ∙ all-length so_far k fs
