-- Where the atoms that name parts have higher numbers, the clauses of formulas are the same but for these numbers.
use Rattle.std.proofs.Common.{◌≡◌, ℕ, ◌+◌, ◌-◌, ◌≤◌, ◌==◌, nat_lt, Bool, true, false, not, cond, ◌&&◌, ◌||◌, Option, None, Some, option_map, List, [], ◌∷◌, ◌++◌, map, take, drop, slice_get, refl, sym, ◌∙◌, ap, subst, arith}
use Rattle.std.specs.List.{list_all}
use Rattle.std.specs.Prelude.{Result, Ok, Err, IfOk, OnOk}
use Rattle.std.proofs.lemmas.Bool.{and_parts}
use Rattle.std.proofs.lemmas.Bool.Decides.{nat_tests}
use Rattle.std.proofs.lemmas.List.{map-append, append-nil, append_assoc}
use Rattle.std.proofs.lemmas.Option.{slice_get-map}
use Rattle.proof_lines.specs.declared.clause.Lit.{Lit}
use Rattle.proof_lines.specs.Problems.{atoms_below}
use Rattle.proof_lines.proofs.Sets.{same_lit-sym, has-append}
use Rattle.proof_lines.specs.Clauses.{same_bool, same_lit, has, insert, join, distinct, lit_of}
use Rattle.ground_numbers.specs.Numbered.{Numbered, is_below}
use Rattle.ground_numbers.specs.Clauses.{Normal, lit, all, any, Folded, settled, unsettled, folded, names, inner_names, new_names, literals, in_front, clause_of, Role, whole, parts, written, names_of, clauses_of, all_names, all_clauses}
use Rattle.clausify.specs.Kept.{AreClausesOf, number_raised, raised, all_raised}
use Rattle.clausify.specs.declared.kept.KeptClauses.{KeptClauses}
use Rattle.clausify.proofs.Appending.{clauses-split, names-split}
use Rattle.clausify.proofs.Below.{normal_below, folded_below, folded-below, all_clauses-below}

-- ---- literals

raised-low : (first more a : ℕ) → nat_lt a first ≡ true → number_raised first more a ≡ a
raised-low first more a h = ap (λ (b : Bool). cond b a (a + more)) h

raised-high : (first more a : ℕ) → first ≤ a → number_raised first more a ≡ a + more
raised-high first more a h = ap (λ (b : Bool). cond b a (a + more)) high
  where
    high : nat_lt a first ≡ false
    high = grind (arith, nat_tests)

same_raised : (first more a b : ℕ) → (number_raised first more a == number_raised first more b) ≡ (a == b)
same_raised first more a b = by_case (nat_lt a first) (nat_lt b first) refl refl
  where
    by_case : (x y : Bool) → nat_lt a first ≡ x → nat_lt b first ≡ y → (cond x a (a + more) == cond y b (b + more)) ≡ (a == b)
    by_case true true p q = refl
    by_case true false p q = grind (arith, nat_tests)
    by_case false true p q = grind (arith, nat_tests)
    by_case false false p q = grind (arith, nat_tests)

has-raised : (first more : ℕ) (c : List Lit) (l : Lit) → has (map (raised first more) c) (raised first more l) ≡ has c l
has-raised first more [] l = refl
has-raised first more (x ∷ c) l =
    let e = same_raised first more x.atom l.atom in
    let k = has-raised first more c l in
    λ i. (e i && same_bool x.positive l.positive) || k i

insert-raised : (first more : ℕ) (c : List Lit) (l : Lit) → insert (map (raised first more) c) (raised first more l) ≡ map (raised first more) (insert c l)
insert-raised first more c l =
    ap (λ (b : Bool). cond b (map (raised first more) c) (map (raised first more) c ++ raised first more l ∷ [])) (has-raised first more c l) ∙ by_case (has c l)
  where
    by_case : (b : Bool) → cond b (map (raised first more) c) (map (raised first more) c ++ raised first more l ∷ []) ≡ map (raised first more) (cond b c (c ++ l ∷ []))
    by_case true = refl
    by_case false = sym (map-append (raised first more) c (l ∷ []))

join-raised : (first more : ℕ) (c d : List Lit) → join (map (raised first more) c) (map (raised first more) d) ≡ map (raised first more) (join c d)
join-raised first more c [] = refl
join-raised first more c (l ∷ d) =
    ap (λ (z : List Lit). join z (map (raised first more) d)) (insert-raised first more c l) ∙ join-raised first more (insert c l) d

-- ---- the clauses of a formula

literals-raised : (first more p : ℕ) (f : Normal) → first ≤ p → normal_below first f ≡ true → literals (p + more) f ≡ map (raised first more) (literals p f)
literals-raised first more p (lit l) k h = ap (λ (a : ℕ). lit_of a l.positive ∷ []) (sym (raised-low first more l.atom h))
literals-raised first more p (all f g) k h = ap (λ (a : ℕ). lit_of a true ∷ []) (sym (raised-high first more p k))
literals-raised first more p (any f g) k h =
    let q = and_parts (normal_below first f) (normal_below first g) h in
    let e : (p + more) + names f ≡ (p + names f) + more = omega arith in
    let a = literals-raised first more p f k q.0 in
    let b = ap (λ (n : ℕ). literals n g) e ∙ literals-raised first more (p + names f) g (omega (arith, k)) q.1 in
    (λ i. a i ++ b i) ∙ sym (map-append (raised first more) (literals p f) (literals (p + names f) g))

-- the literal in front with its atom's number so much higher, where it names a part
abbrev front_raised : (first more : ℕ) → Option Lit → Option Lit
front_raised first more None = None
front_raised first more (Some l) = Some (raised first more l)

front-map : (first more : ℕ) (front : Option Lit) → in_front (front_raised first more front) ≡ map (raised first more) (in_front front)
front-map first more None = refl
front-map first more (Some l) = refl

clause-raised : (first more : ℕ) (front : Option Lit) (p : ℕ) (f : Normal) → first ≤ p → normal_below first f ≡ true → clause_of (front_raised first more front) (p + more) f ≡ map (raised first more) (clause_of front p f)
clause-raised first more front p f k h =
    let a = front-map first more front in
    let b = literals-raised first more p f k h in
    (λ i. join [] (a i ++ b i))
    ∙ ap (join []) (sym (map-append (raised first more) (in_front front) (literals p f)))
    ∙ join-raised first more [] (in_front front ++ literals p f)

abbrev role_raised : (first more : ℕ) → Role → Role
role_raised first more (whole front) = whole (front_raised first more front)
role_raised first more (parts p) = parts (p + more)

abbrev IsHigh : ℕ → Role → Type 0
IsHigh first (whole front) = Unit {0}
IsHigh first (parts p) = first ≤ p

two-raised : (first more : ℕ) (xs ys cs ds : List (List Lit)) → xs ≡ all_raised first more cs → ys ≡ all_raised first more ds → xs ++ ys ≡ all_raised first more (cs ++ ds)
two-raised first more xs ys cs ds a b = (λ i. a i ++ b i) ∙ sym (map-append (map (raised first more)) cs ds)

written-raised : (first more : ℕ) (r : Role) (n : ℕ) (f : Normal) → first ≤ n → IsHigh first r → normal_below first f ≡ true
    → written (role_raised first more r) (n + more) f ≡ all_raised first more (written r n f)
written-raised first more (whole front) n (lit l) k t h = ap (λ (c : List Lit). c ∷ []) (clause-raised first more front n (lit l) k h)
written-raised first more (whole front) n (all f g) k t h =
    let q = and_parts (normal_below first f) (normal_below first g) h in
    let e : (n + more) + new_names f ≡ (n + new_names f) + more = omega arith in
    let r = whole (front_raised first more front) in
    two-raised first more (written r (n + more) f) (written r ((n + more) + new_names f) g) (written (whole front) n f) (written (whole front) (n + new_names f) g)
    (written-raised first more (whole front) n f k tt q.0)
    (ap (λ (m : ℕ). written r m g) e ∙ written-raised first more (whole front) (n + new_names f) g (omega (arith, k)) tt q.1)
written-raised first more (whole front) n (any f g) k t h =
    let q = and_parts (normal_below first f) (normal_below first g) h in
    let from = n + names f + names g in
    let start = (n + more) + names f + names g in
    let e : start ≡ from + more = omega arith in
    let u : (n + more) + names f ≡ (n + names f) + more = omega arith in
    let v : start + inner_names f ≡ (from + inner_names f) + more = omega arith in
    let a = clause-raised first more front n (any f g) k h in
    let b = two-raised first more (written (parts (n + more)) start f) (written (parts ((n + more) + names f)) (start + inner_names f) g)
    (written (parts n) from f) (written (parts (n + names f)) (from + inner_names f) g)
    (ap (λ (m : ℕ). written (parts (n + more)) m f) e ∙ written-raised first more (parts n) from f (omega (arith, k)) k q.0)
    ((λ i. written (parts (u i)) (v i) g) ∙ written-raised first more (parts (n + names f)) (from + inner_names f) g (omega (arith, k)) (omega (arith, k)) q.1) in
    λ i. a i ∷ b i
written-raised first more (parts p) n (lit l) k t h = refl
written-raised first more (parts p) n (all f g) k t h =
    let q = and_parts (normal_below first f) (normal_below first g) h in
    let e : (n + more) + new_names f ≡ (n + new_names f) + more = omega arith in
    let named = whole (Some (lit_of p false)) in
    let high : whole (Some (lit_of (p + more) false)) ≡ role_raised first more named = ap (λ (a : ℕ). whole (Some (lit_of a false))) (sym (raised-high first more p t)) in
    let r = whole (Some (lit_of (p + more) false)) in
    two-raised first more (written r (n + more) f) (written r ((n + more) + new_names f) g) (written named n f) (written named (n + new_names f) g)
    (ap (λ (z : Role). written z (n + more) f) high ∙ written-raised first more named n f k tt q.0)
    ((λ i. written (high i) (e i) g) ∙ written-raised first more named (n + new_names f) g (omega (arith, k)) tt q.1)
written-raised first more (parts p) n (any f g) k t h =
    let q = and_parts (normal_below first f) (normal_below first g) h in
    let u : (p + more) + names f ≡ (p + names f) + more = omega arith in
    let v : (n + more) + inner_names f ≡ (n + inner_names f) + more = omega arith in
    two-raised first more (written (parts (p + more)) (n + more) f) (written (parts ((p + more) + names f)) ((n + more) + inner_names f) g)
    (written (parts p) n f) (written (parts (p + names f)) (n + inner_names f) g)
    (written-raised first more (parts p) n f k t q.0)
    ((λ i. written (parts (u i)) (v i) g) ∙ written-raised first more (parts (p + names f)) (n + inner_names f) g (omega (arith, k)) (omega (arith, t)) q.1)

-- ---- the clauses of formulas

folded-raised : (first more n : ℕ) (f : Folded) → first ≤ n → folded_below first f ≡ true → clauses_of (n + more) f ≡ all_raised first more (clauses_of n f)
folded-raised first more n (settled true) k h = refl
folded-raised first more n (settled false) k h = refl
folded-raised first more n (unsettled f) k h = written-raised first more (whole None) n f k tt h

list-raised : (first more n : ℕ) (fs : List Numbered) → first ≤ n → list_all (is_below first) fs ≡ true → all_clauses (n + more) fs ≡ all_raised first more (all_clauses n fs)
list-raised first more n [] k h = refl
list-raised first more n (f ∷ fs) k h =
    let q = and_parts (is_below first f) (list_all (is_below first) fs) h in
    let g = folded true f in
    let e : (n + more) + names_of g ≡ (n + names_of g) + more = omega arith in
    two-raised first more (clauses_of (n + more) g) (all_clauses ((n + more) + names_of g) fs) (clauses_of n g) (all_clauses (n + names_of g) fs)
    (folded-raised first more n g k (folded-below first true f q.0))
    (ap (λ (m : ℕ). all_clauses m fs) e ∙ list-raised first more (n + names_of g) fs (omega (arith, k)) q.1)

-- The clauses whose first name has a higher number are those of a lower one, with the names' numbers raised.
pub all_clauses-raised : (first name : ℕ) (fs : List Numbered) → first ≤ name → list_all (is_below first) fs ≡ true → all_clauses name fs ≡ all_raised first (name - first) (all_clauses first fs)
all_clauses-raised first name fs k h =
    let e : name ≡ first + (name - first) = omega (arith, k) in
    let z : first ≤ first = omega arith in
    ap (λ (n : ℕ). all_clauses n fs) e ∙ list-raised first (name - first) first fs z h

-- ---- clauses that are copied

-- a literal that stands behind others of a clause isn't one of them
absent : (c d : List Lit) (l : Lit) → distinct (c ++ l ∷ d) ≡ true → has c l ≡ false
absent [] d l h = refl
absent (x ∷ c) d l h =
    let p = and_parts (not (has (c ++ l ∷ d) x)) (distinct (c ++ l ∷ d)) h in
    let a = has-append c (l ∷ d) x in
    let r = absent c d l p.1 in
    let t = same_lit-sym l x in
    apart (has c x) (same_lit l x) (has d x) (same_lit x l) (has c l) (has (c ++ l ∷ d) x) a p.0 t r
  where
    apart : (a b e f g k : Bool) → k ≡ (a || (b || e)) → not k ≡ true → b ≡ f → g ≡ false → (f || g) ≡ false
    apart a b e f g k p q r t = grind arith

join-push : (c d : List Lit) → distinct (c ++ d) ≡ true → join c d ≡ c ++ d
join-push c [] h = sym (append-nil c)
join-push c (l ∷ d) h =
    let e : c ++ (l ∷ d) ≡ (c ++ l ∷ []) ++ d = sym (append_assoc c (l ∷ []) d) in
    let k = subst (λ (z : List Lit). distinct z ≡ true) e h in
    ap (λ (b : Bool). join (cond b c (c ++ l ∷ [])) d) (absent c d l h) ∙ join-push (c ++ l ∷ []) d k ∙ sym e

-- the literals of a clause, raised, are different
pub clause_copied : (first more : ℕ) (c : List Lit) → distinct c ≡ true → join [] (map (raised first more) c) ≡ map (raised first more) c
clause_copied first more c h = join-raised first more [] c ∙ ap (map (raised first more)) (join-push [] c h)

-- literals below the first name stay
pub clause_stays : (first more : ℕ) (c : List Lit) → atoms_below first c ≡ true → c ≡ map (raised first more) c
clause_stays first more [] h = refl
clause_stays first more (l ∷ c) h =
    let p = and_parts (nat_lt l.atom first) (atoms_below first c) h in
    let a = sym (raised-low first more l.atom p.0) in
    let b = clause_stays first more c p.1 in
    λ i. lit_of (a i) l.positive ∷ b i

pub clauses-stay : (first more : ℕ) (cs : List (List Lit)) → list_all (atoms_below first) cs ≡ true → cs ≡ all_raised first more cs
clauses-stay first more [] h = refl
clauses-stay first more (c ∷ cs) h =
    let p = and_parts (atoms_below first c) (list_all (atoms_below first) cs) h in
    let a = clause_stays first more c p.0 in
    let b = clauses-stay first more cs p.1 in
    λ i. a i ∷ b i

pub copied : {E : Type 0} (first more : ℕ) (c : List Lit) (r : Result (List Lit) E) → distinct c ≡ true
    → IfOk r (λ made. made ≡ join [] (map (raised first more) c)) → IfOk r (λ made. made ≡ map (raised first more) c)
copied first more c (Ok made) h e = e ∙ clause_copied first more c h
copied first more c (Err why) h e = tt

-- ---- clauses that were kept

-- Copies of clauses that were kept, raised, are the clauses of the same formulas.
pub kept-raised : (k : KeptClauses) (name : ℕ) (fs : List Numbered) → k.first ≤ name → AreClausesOf fs k → all_clauses name fs ≡ all_raised k.first (name - k.first) k.clauses
kept-raised k name fs h is = all_clauses-raised k.first name fs h is.below ∙ ap (all_raised k.first (name - k.first)) (sym is.clauses)

-- Where no atom names a part, they are the clauses as they stand.
pub kept-unnamed : (k : KeptClauses) (name : ℕ) (fs : List Numbered) → k.first ≤ name → k.names ≡ 0 → AreClausesOf fs k → all_clauses name fs ≡ k.clauses
kept-unnamed k name fs h none is =
    let a = is.names in
    let e : k.first + all_names fs ≡ k.first = omega (arith, none, a) in
    let low : list_all (atoms_below k.first) (all_clauses k.first fs) ≡ true =
    subst (λ (n : ℕ). list_all (atoms_below n) (all_clauses k.first fs) ≡ true) e (all_clauses-below k.first fs is.below) in
    all_clauses-raised k.first name fs h is.below ∙ sym (clauses-stay k.first (name - k.first) (all_clauses k.first fs) low) ∙ sym is.clauses

-- the clause that stands at a place, raised, stands there among the clauses of the same formulas
pub kept_at : (k : KeptClauses) (name place : ℕ) (c r : List Lit) → k.first ≤ name → slice_get k.clauses place ≡ Some c → r ≡ map (raised k.first (name - k.first)) c
    → (fs : List Numbered) → AreClausesOf fs k → slice_get (all_clauses name fs) place ≡ Some r
kept_at k name place c r h there made fs is =
    let up = map (raised k.first (name - k.first)) in
    ap (λ z. slice_get z place) (kept-raised k name fs h is) ∙ slice_get-map up k.clauses place ∙ ap (option_map up) there ∙ ap Some (sym made)

pub copied_raised : {A E : Type 0} (k : KeptClauses) (name : ℕ) (r : Result A E) (cs old new : List (List Lit)) → k.first ≤ name → cs ≡ k.clauses
    → OnOk r (new ≡ old ++ all_raised k.first (name - k.first) cs) → OnOk r ((fs : List Numbered) → AreClausesOf fs k → new ≡ old ++ all_clauses name fs)
copied_raised k name (Ok x) cs old new h e made = λ fs is. made ∙ ap (λ z. old ++ all_raised k.first (name - k.first) z) e ∙ ap (λ z. old ++ z) (sym (kept-raised k name fs h is))
copied_raised k name (Err why) cs old new h e made = tt

pub copied_unnamed : {A E : Type 0} (k : KeptClauses) (name : ℕ) (r : Result A E) (cs old new : List (List Lit)) → k.first ≤ name → k.names ≡ 0 → cs ≡ k.clauses
    → OnOk r (new ≡ old ++ cs) → OnOk r ((fs : List Numbered) → AreClausesOf fs k → new ≡ old ++ all_clauses name fs)
copied_unnamed k name (Ok x) cs old new h none e made = λ fs is. made ∙ ap (λ z. old ++ z) (e ∙ sym (kept-unnamed k name fs h none is))
copied_unnamed k name (Err why) cs old new h none e made = tt

-- Those of the formulas behind are written after them.
pub written_behind : {A E : Type 0} (k : KeptClauses) (name after n : ℕ) (fs gs : List Numbered) (r : Result A E) (old mid new : List (List Lit)) → AreClausesOf (take n fs) k → after ≡ name + k.names → gs ≡ drop n fs
    → mid ≡ old ++ all_clauses name (take n fs) → OnOk r (new ≡ mid ++ all_clauses after gs) → OnOk r (new ≡ old ++ all_clauses name fs)
written_behind k name after n fs gs (Ok x) old mid new is e g first rest =
    let first_ones = all_clauses name (take n fs) in
    let at : after ≡ name + all_names (take n fs) = e ∙ ap (λ (m : ℕ). name + m) is.names in
    rest ∙ (λ i. first i ++ all_clauses (at i) (g i)) ∙ append_assoc old first_ones (all_clauses (name + all_names (take n fs)) (drop n fs))
    ∙ ap (λ z. old ++ z) (sym (clauses-split name n fs))
written_behind k name after n fs gs (Err why) old mid new is e g first rest = tt

pub named_behind : {E : Type 0} (k : KeptClauses) (name after n : ℕ) (fs gs : List Numbered) (r : Result ℕ E) → AreClausesOf (take n fs) k → after ≡ name + k.names → gs ≡ drop n fs
    → IfOk r (λ m. m ≡ after + all_names gs) → IfOk r (λ m. m ≡ name + all_names fs)
named_behind k name after n fs gs (Ok m) is e g rest =
    let a = is.names in
    let b = names-split n fs in
    let c = ap all_names g in
    omega (arith, a, b, c, e, rest)
named_behind k name after n fs gs (Err why) is e g rest = tt
