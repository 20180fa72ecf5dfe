use Rattle.std.proofs.Common.{◌≡◌, ℕ, zero, suc, ◌-◌, ◌<◌, ◌≤◌, Bool, true, false, cond, ◌&&◌, ◌||◌, ◌==◌, inl, inr, List, [], ◌∷◌, ◌++◌, length, map, set, get_or, refl, sym, ◌∙◌, ap, subst, arith, Option, Some, None, take, drop, drop-cons, append-nil}
use Rattle.std.specs.Prelude.{slice_index_or}
use Rattle.std.specs.List.{list_any, list_all}
use Rattle.std.proofs.lemmas.Bool.Decides.{nat_tests}
use Rattle.std.proofs.lemmas.List.Folds.{list_any-append, list_all-append}
use Rattle.std.proofs.lemmas.List.{length-set, length-drop, take-append-drop, get_or_default}
use Rattle.std.proofs.lemmas.Nat.{mod_below}
use Rattle.proof_lines.specs.declared.clause.Lit.{Lit}
use Rattle.log_freshness.specs.declared.freshness.Entry.{Entry}
use Rattle.proof_lines.specs.Clauses.{has, sub, flip, holds_both_ways}
use Rattle.log_freshness.specs.Freshness.{live_of, is_new, each_new}
use Rattle.proof_lines.specs.Numbers.{stands_in}
use Rattle.log_freshness.specs.Index.{spot, spots, HasNoEntry, slot_new, slot_within, entry_within, finds, PutsOne, MarksAre, with_marks, marked, marked_both_ways, marked_slot_within, finds_marked, lits_marked, HasNoMark}
use Rattle.log_freshness.specs.declared.blocks.Blocks.{Blocks}
use Rattle.log_freshness.specs.Blocks.{finds_in_blocks}
use Rattle.log_freshness.specs.declared.freshness.Index.{Index}
use Rattle.log_freshness.specs.Puts.{IsIndex, IsIndexOf, PutsClause, PutsEither}
use Rattle.std.proofs.lemmas.Bool.{and_parts, and_from, or_left, or_right, eqb-true}
use Rattle.proof_lines.proofs.Sets.{has-cases, same_nat-refl}
use Rattle.log_freshness.proofs.Slots.{live_of-next}

zero-suc : (k : ℕ) → (0 == suc k) ≡ false
zero-suc k = grind (arith, nat_tests)

suc-zero : (k : ℕ) → (suc k == 0) ≡ false
suc-zero k = grind (arith, nat_tests)

suc-suc : (j k : ℕ) → (suc j == suc k) ≡ (j == k)
suc-suc j k = grind (arith, nat_tests)

any-or : (a b : ℕ → Bool) (ks : List ℕ) → list_any (λ k. a k || b k) ks ≡ (list_any a ks || list_any b ks)
any-or a b [] = refl
any-or a b (k ∷ ks) = ap (λ z. (a k || b k) || z) (any-or a b ks) ∙ swap (a k) (b k) (list_any a ks) (list_any b ks)
  where
    swap : (p q r s : Bool) → ((p || q) || (r || s)) ≡ ((p || r) || (q || s))
    swap p q r s = grind arith

any-one : (s : ℕ) (b : Bool) (ks : List ℕ) → list_any (λ k. (k == s) && b) ks ≡ (stands_in ks s && b)
any-one s b [] = refl
any-one s b (k ∷ ks) = ap (λ z. ((k == s) && b) || z) (any-one s b ks) ∙ spread (k == s) (stands_in ks s) b
  where
    spread : (p q r : Bool) → ((p && r) || (q && r)) ≡ ((p || q) && r)
    spread p q r = grind arith

-- the spots of a clause that lies within another are spots of that one
has-spot : (m : ℕ) (c : List Lit) (l : Lit) → has c l ≡ true → stands_in (map (spot m) c) (spot m l) ≡ true
has-spot m [] l h = absurd cc
has-spot m (x ∷ c) l h = elim (has-cases x c l h) [
  | inl e ↦ or_left (spot m x == spot m l) (stands_in (map (spot m) c) (spot m l)) (subst (λ (z : Lit). (spot m x == spot m z) ≡ true) e (same_nat-refl (spot m x)))
  | inr e ↦ or_right (spot m x == spot m l) (stands_in (map (spot m) c) (spot m l)) (has-spot m c l e)
]

sub-spots : (m : ℕ) (d c : List Lit) (k : ℕ) → sub d c ≡ true → stands_in (map (spot m) d) k ≡ true → stands_in (map (spot m) c) k ≡ true
sub-spots m [] c k h s = absurd cc
sub-spots m (x ∷ d) c k h s = by_case (sub-spots m d c k (and_parts (has c x) (sub d c) h).1) (spot m x == k) refl s
  where
    by_case : (stands_in (map (spot m) d) k ≡ true → stands_in (map (spot m) c) k ≡ true) → (b : Bool) → (spot m x == k) ≡ b → (b || stands_in (map (spot m) d) k) ≡ true → stands_in (map (spot m) c) k ≡ true
    by_case ih true e s = subst (λ (z : ℕ). stands_in (map (spot m) c) z ≡ true) (eqb-true (spot m x) k e) (has-spot m c x (and_parts (has c x) (sub d c) h).0)
    by_case ih false e s = ih s

pub sub-all_spots : (m : ℕ) (d c : List Lit) (k : ℕ) → sub d c ≡ true → stands_in (spots m d) k ≡ true → stands_in (spots m c) k ≡ true
sub-all_spots m d c k h s = by_case (0 == k) s
  where
    by_case : (b : Bool) → (b || stands_in (map (spot m) d) k) ≡ true → (b || stands_in (map (spot m) c) k) ≡ true
    by_case true s = refl
    by_case false s = sub-spots m d c k h s

or_none : (a b e : Bool) → b ≡ false → a ≡ (a || (b && e))
or_none a b e h = grind arith

-- a list with one entry more finds what it found, or that entry
any-put : (p : Entry → Bool) (lists : List (List Entry)) (at k : ℕ) (e : Entry) → at < length lists
    → list_any p (slice_index_or (set lists at (slice_index_or lists at [] ++ e ∷ [])) k []) ≡ (list_any p (slice_index_or lists k []) || ((k == at) && p e))
any-put p [] at k e lt = absurd (omega arith)
any-put p (x ∷ lists) zero zero e lt = list_any-append p x (e ∷ []) ∙ last_one (list_any p x) (p e)
  where
    last_one : (a b : Bool) → (a || (b || false)) ≡ (a || b)
    last_one a b = grind arith
any-put p (x ∷ lists) zero (suc k) e lt = or_none (list_any p (slice_index_or lists k [])) (suc k == 0) (p e) (suc-zero k)
any-put p (x ∷ lists) (suc at) zero e lt = or_none (list_any p x) (0 == suc at) (p e) (zero-suc at)
any-put p (x ∷ lists) (suc at) (suc k) e lt = any-put p lists at k e (omega arith) ∙ ap (λ b. list_any p (slice_index_or lists k []) || (b && p e)) (sym (suc-suc k at))

-- the lists find what they found, or the clause that was put
pub finds-put : (m : ℕ) (slots : List (Option (List Lit))) (old new : List (List Entry)) (number : ℕ) (d : List Lit)
    → slice_index_or slots number None ≡ Some d → PutsOne m d number old new → (c : List Lit) → finds m slots new c ≡ (finds m slots old c || sub d c)
finds-put m slots old new number d is p c =
    let e : Entry = record { number = number; second = p.second; third = p.third; fourth = p.fourth } in
    let q : Entry → Bool = entry_within m slots c in
    let one : finds m slots new c ≡ list_any (λ k. list_any q (slice_index_or old k []) || ((k == p.at) && q e)) (spots m c) =
    ap (λ (z : List (List Entry)). finds m slots z c) p.lists ∙ (λ i. list_any (λ k. any-put q old p.at k e p.within i) (spots m c)) in
    one ∙ any-or (λ k. list_any q (slice_index_or old k [])) (λ k. (k == p.at) && q e) (spots m c)
    ∙ ap (λ b. finds m slots old c || b) (any-one p.at (q e) (spots m c))
    ∙ ap (λ b. finds m slots old c || b) (last (sub d c) refl)
  where
    within : (o : Option (List Lit)) → o ≡ Some d → slot_within c o ≡ sub d c
    within o e = ap (slot_within c) e

    last : (b : Bool) → sub d c ≡ b → (stands_in (spots m c) p.at && ((stands_in (spots m c) p.second && (stands_in (spots m c) p.third && stands_in (spots m c) p.fourth)) && slot_within c (slice_index_or slots number None))) ≡ sub d c
    last true e =
        let s = sub-all_spots m d c p.at e p.at_spot in
        let t = sub-all_spots m d c p.second e p.second_spot in
        let u = sub-all_spots m d c p.third e p.third_spot in
        let v = sub-all_spots m d c p.fourth e p.fourth_spot in
        let w = within (slice_index_or slots number None) is ∙ e in
        all_true _ _ _ _ _ s t u v w ∙ sym e
      where
        all_true : (a x y z b : Bool) → a ≡ true → x ≡ true → y ≡ true → z ≡ true → b ≡ true → (a && ((x && (y && z)) && b)) ≡ true
        all_true a x y z b s t u v w = grind arith
    last false e = let w = within (slice_index_or slots number None) is ∙ e in one_false _ _ _ w ∙ sym e
      where
        one_false : (x y z : Bool) → z ≡ false → (x && (y && z)) ≡ false
        one_false x y z w = grind arith

-- the index finds exactly what is earlier, with one clause more
either-put : (f e g n : Bool) → (f || g) ≡ e → ((f || n) || g) ≡ (e || n)
either-put f e g n h = grind arith

either-put_block : (f e g n : Bool) → (f || g) ≡ e → (f || (g || n)) ≡ (e || n)
either-put_block f e g n h = grind arith

any-last : (earlier : List (List Lit)) (d c : List Lit) → list_any (λ x. sub x c) (earlier ++ d ∷ []) ≡ (list_any (λ x. sub x c) earlier || sub d c)
any-last earlier d c = list_any-append (λ x. sub x c) earlier (d ∷ []) ∙ ap (λ b. list_any (λ x. sub x c) earlier || b) (or_false (sub d c))
  where
    or_false : (b : Bool) → (b || false) ≡ b
    or_false b = grind arith

pub index-put : (m : ℕ) (slots : List (Option (List Lit))) (old new : List (List Entry)) (old_blocks new_blocks : Blocks) (earlier : List (List Lit)) (number : ℕ) (d : List Lit)
    → IsIndex m slots old old_blocks earlier → slice_index_or slots number None ≡ Some d → PutsEither m d number old new old_blocks new_blocks → IsIndex m slots new new_blocks (earlier ++ d ∷ [])
index-put m slots old new old_blocks new_blocks earlier number d h is puts c = elim puts [
  | inl p ↦
      ap (λ (z : Blocks). finds m slots new c || finds_in_blocks slots z c) p.1
      ∙ ap (λ b. b || finds_in_blocks slots old_blocks c) (finds-put m slots old new number d is p.0 c)
      ∙ either-put (finds m slots old c) (list_any (λ x. sub x c) earlier) (finds_in_blocks slots old_blocks c) (sub d c) (h c)
      ∙ sym (any-last earlier d c)
  | inr p ↦
      ap (λ (z : List (List Entry)). finds m slots z c || finds_in_blocks slots new_blocks c) p.0
      ∙ ap (λ b. finds m slots old c || b) (p.1.found slots c ∙ ap (λ (o : Option (List Lit)). finds_in_blocks slots old_blocks c || slot_within c o) is)
      ∙ either-put_block (finds m slots old c) (list_any (λ x. sub x c) earlier) (finds_in_blocks slots old_blocks c) (sub d c) (h c)
      ∙ sym (any-last earlier d c)
]

-- marks on the spots of some literals
spot-below : (m : ℕ) (l : Lit) → 0 < m → spot m l < m
spot-below m l some = mod_below _ m some

set-at : (marks : List Bool) (at k : ℕ) (b : Bool) → at < length marks → slice_index_or (set marks at b) k false ≡ cond (at == k) b (slice_index_or marks k false)
set-at [] at k b lt = absurd (omega arith)
set-at (x ∷ marks) zero zero b lt = refl
set-at (x ∷ marks) zero (suc k) b lt = ap (λ z. cond z b (slice_index_or marks k false)) (sym (zero-suc k))
set-at (x ∷ marks) (suc at) zero b lt = ap (λ z. cond z b x) (sym (suc-zero at))
set-at (x ∷ marks) (suc at) (suc k) b lt = set-at marks at k b (omega arith) ∙ ap (λ z. cond z b (slice_index_or marks k false)) (sym (suc-suc at k))

merge : (p q b x : Bool) → cond p b (cond q b x) ≡ cond (q || p) b x
merge true true b x = refl
merge true false b x = refl
merge false true b x = refl
merge false false b x = refl

marks-at : (m : ℕ) (c : List Lit) (marks : List Bool) (b : Bool) (k : ℕ) → 0 < m → length marks ≡ m
    → slice_index_or (with_marks m marks c b) k false ≡ cond (stands_in (map (spot m) c) k) b (slice_index_or marks k false)
marks-at m [] marks b k some sized = refl
marks-at m (l ∷ c) marks b k some sized =
    let lt : spot m l < length marks = subst (λ (z : ℕ). spot m l < z) (sym sized) (spot-below m l some) in
    marks-at m c (set marks (spot m l) b) b k some (length-set marks (spot m l) b ∙ sized)
    ∙ ap (cond (stands_in (map (spot m) c) k) b) (set-at marks (spot m l) k b lt)
    ∙ merge (stands_in (map (spot m) c) k) (spot m l == k) b (slice_index_or marks k false)

marks-set : (m : ℕ) (c : List Lit) (marks : List Bool) (k : ℕ) → 0 < m → length marks ≡ m → HasNoMark marks → slice_index_or (with_marks m marks c true) k false ≡ stands_in (map (spot m) c) k
marks-set m c marks k some sized clear = marks-at m c marks true k some sized ∙ ap (cond (stands_in (map (spot m) c) k) true) (clear k) ∙ itself (stands_in (map (spot m) c) k)
  where
    itself : (b : Bool) → cond b true false ≡ b
    itself true = refl
    itself false = refl

-- what lies within a clause has its spots among the clause's, so to ask for that besides changes nothing
sub-among : (m : ℕ) (d c : List Lit) → sub d c ≡ true → list_all (λ l. stands_in (spots m c) (spot m l)) d ≡ true
sub-among m [] c h = refl
sub-among m (x ∷ d) c h =
    let p = and_parts (has c x) (sub d c) h in
    and_from (stands_in (spots m c) (spot m x)) (list_all (λ l. stands_in (spots m c) (spot m l)) d)
    (or_right (0 == spot m x) (stands_in (map (spot m) c) (spot m x)) (has-spot m c x p.0)) (sub-among m d c p.1)

-- what holds of all literals holds of those before a place and of those from it on
pub marked-from : (m : ℕ) (marks : List Bool) (c : List Lit) (s : ℕ) → s ≤ length c
    → lits_marked m marks c ≡ (lits_marked m marks (take s c) && lits_marked m marks (take (length c - s) (drop s c)))
marked-from m marks c s le =
    ap (lits_marked m marks) (sym (take-append-drop s c))
    ∙ list_all-append (λ l. marked marks (spot m l)) (take s c) (drop s c)
    ∙ ap (λ (z : List Lit). lits_marked m marks (take s c) && lits_marked m marks z) (sym (all_rest s c le))
  where
    all_of : (d : List Lit) → take (length d) d ≡ d
    all_of [] = refl
    all_of (x ∷ d) = ap (λ (z : List Lit). x ∷ z) (all_of d)

    all_rest : (s : ℕ) (c : List Lit) → s ≤ length c → take (length c - s) (drop s c) ≡ drop s c
    all_rest s c le = ap (λ (k : ℕ). take k (drop s c)) (sym (length-drop s c)) ∙ all_of (drop s c)

and_given : (a b : Bool) → (b ≡ true → a ≡ true) → (a && b) ≡ b
and_given a true h = ap (λ z. z && true) (h refl)
and_given a false h = none a
  where
    none : (a : Bool) → (a && false) ≡ false
    none true = refl
    none false = refl

-- so with an atom that stands in it both ways
both-among : (m : ℕ) (d c : List Lit) → list_any (λ l. has c (flip l)) d ≡ true → list_any (λ l. stands_in (spots m c) (spot m (flip l))) d ≡ true
both-among m [] c h = absurd cc
both-among m (x ∷ d) c h = by_case (both-among m d c) (has c (flip x)) refl h
  where
    by_case : (list_any (λ l. has c (flip l)) d ≡ true → list_any (λ l. stands_in (spots m c) (spot m (flip l))) d ≡ true) → (b : Bool) → has c (flip x) ≡ b → (b || list_any (λ l. has c (flip l)) d) ≡ true → list_any (λ l. stands_in (spots m c) (spot m (flip l))) (x ∷ d) ≡ true
    by_case ih true e k =
        or_left (stands_in (spots m c) (spot m (flip x))) (list_any (λ l. stands_in (spots m c) (spot m (flip l))) d)
        (or_right (0 == spot m (flip x)) (stands_in (map (spot m) c) (spot m (flip x))) (has-spot m c (flip x) e))
    by_case ih false e k = or_right (stands_in (spots m c) (spot m (flip x))) (list_any (λ l. stands_in (spots m c) (spot m (flip l))) d) (ih k)

-- marks on the spots of a clause are its spots
marked-among : (m : ℕ) (marks : List Bool) (c : List Lit) (k : ℕ) → 0 < m → length marks ≡ m → HasNoMark marks → marked (with_marks m marks c true) k ≡ stands_in (spots m c) k
marked-among m marks c k some sized clear = ap (λ b. (0 == k) || b) (marks-set m c marks k some sized clear)

pub both-marked : (m : ℕ) (marks : List Bool) (c : List Lit) → 0 < m → length marks ≡ m → HasNoMark marks
    → marked_both_ways m (with_marks m marks c true) c ≡ holds_both_ways c
both-marked m marks c some sized clear =
    (λ i. list_any (λ l. marked-among m marks c (spot m (flip l)) some sized clear i) c && holds_both_ways c)
    ∙ and_given (list_any (λ l. stands_in (spots m c) (spot m (flip l))) c) (holds_both_ways c) (both-among m c c)

-- so after they were set the marks are those of the clause
pub marks-are : (m : ℕ) (marks : List Bool) (c : List Lit) → 0 < m → length marks ≡ m → HasNoMark marks → MarksAre m (with_marks m marks c true) c
marks-are m marks c some sized clear k = marked-among m marks c k some sized clear

pub slot-marked : (m : ℕ) (marks : List Bool) (c : List Lit) (o : Option (List Lit)) → MarksAre m marks c → marked_slot_within m marks c o ≡ slot_within c o
slot-marked m marks c (Some d) are = (λ i. list_all (λ l. are (spot m l) i) d && sub d c) ∙ and_given (list_all (λ l. stands_in (spots m c) (spot m l)) d) (sub d c) (sub-among m d c)
slot-marked m marks c None are = refl

pub finds-marked : (m : ℕ) (marks : List Bool) (slots : List (Option (List Lit))) (lists : List (List Entry)) (c : List Lit) → MarksAre m marks c
    → finds_marked m marks slots lists c ≡ finds m slots lists c
finds-marked m marks slots lists c are =
    λ i. list_any (λ k. list_any (λ (e : Entry). (are e.second i && (are e.third i && are e.fourth i)) && slot-marked m marks c (slice_index_or slots e.number None) are i) (slice_index_or lists k [])) (spots m c)

pub marks-taken : (m : ℕ) (marks set_so left : List Bool) (c : List Lit) → 0 < m → length marks ≡ m → HasNoMark marks → set_so ≡ with_marks m marks c true → length set_so ≡ m → left ≡ with_marks m set_so c false → HasNoMark left
marks-taken m marks set_so left c some sized clear is so end k =
    let before : slice_index_or set_so k false ≡ stands_in (map (spot m) c) k = ap (λ (z : List Bool). slice_index_or z k false) is ∙ marks-set m c marks k some sized clear in
    ap (λ (z : List Bool). slice_index_or z k false) end ∙ marks-at m c set_so false k some so ∙ ap (cond (stands_in (map (spot m) c) k) false) before ∙ none (stands_in (map (spot m) c) k)
  where
    none : (b : Bool) → cond b false b ≡ false
    none true = refl
    none false = refl

-- the spot of one of the literals
pub spot-among : (m : ℕ) (c : List Lit) (i : ℕ) (d : Lit) → i < length c → stands_in (spots m c) (spot m (get_or c i d)) ≡ true
spot-among m c i d lt = or_right (0 == spot m (get_or c i d)) (stands_in (map (spot m) c) (spot m (get_or c i d))) (among c i lt)
  where
    among : (c : List Lit) (i : ℕ) → i < length c → stands_in (map (spot m) c) (spot m (get_or c i d)) ≡ true
    among [] i lt = absurd (omega arith)
    among (x ∷ c) zero lt = or_left (spot m x == spot m x) (stands_in (map (spot m) c) (spot m x)) (same_nat-refl (spot m x))
    among (x ∷ c) (suc i) lt = or_right (spot m x == spot m (get_or c i d)) (stands_in (map (spot m) c) (spot m (get_or c i d))) (among c i (omega arith))

-- the index before a number, and before the next one
pub index-none : (m : ℕ) (slots : List (Option (List Lit))) (lists : List (List Entry)) (blocks : Blocks) → HasNoEntry lists
    → ((c : List Lit) → finds_in_blocks slots blocks c ≡ false) → IsIndex m slots lists blocks []
index-none m slots lists blocks empty none c =
    ap (λ b. finds m slots lists c || b) (none c)
    ∙ ap (λ b. b || false) ((λ i. list_any (λ k. list_any (entry_within m slots c) (empty k i)) (spots m c)) ∙ nowhere (spots m c))
  where
    nowhere : (ks : List ℕ) → list_any (λ k. false) ks ≡ false
    nowhere [] = refl
    nowhere (k ∷ ks) = nowhere ks

before-some : (slots : List (Option (List Lit))) (i j : ℕ) (d : Option (List Lit)) (c : List Lit) → j ≡ suc i → i < length slots → get_or slots i d ≡ Some c → live_of (take j slots) ≡ live_of (take i slots) ++ c ∷ []
before-some slots i j d c e lt g = ap (λ (k : ℕ). live_of (take k slots)) e ∙ live_of-next slots i d lt ∙ ap (λ (z : Option (List Lit)). live_of (take i slots) ++ live_of (z ∷ [])) g

before-none : (slots : List (Option (List Lit))) (i j : ℕ) (d : Option (List Lit)) → j ≡ suc i → i < length slots → get_or slots i d ≡ None → live_of (take j slots) ≡ live_of (take i slots)
before-none slots i j d e lt g = ap (λ (k : ℕ). live_of (take k slots)) e ∙ live_of-next slots i d lt ∙ ap (λ (z : Option (List Lit)). live_of (take i slots) ++ live_of (z ∷ [])) g ∙ append-nil (live_of (take i slots))

pub index-some : (slots : List (Option (List Lit))) (old new : Index) (i j : ℕ) (d : Option (List Lit)) (c : List Lit)
    → j ≡ suc i → i < length slots → get_or slots i d ≡ Some c → PutsClause c i old new
    → IsIndexOf slots old (live_of (take i slots)) → IsIndexOf slots new (live_of (take j slots))
index-some slots old new i j d c e lt g p h =
    subst (λ (m : ℕ). IsIndex m slots new.lists.items new.blocks (live_of (take j slots))) (sym p.count)
    (subst (λ (z : List (List Lit)). IsIndex old.count slots new.lists.items new.blocks z) (sym (before-some slots i j d c e lt g))
    (index-put old.count slots old.lists.items new.lists.items old.blocks new.blocks (live_of (take i slots)) i c h (get_or_default slots i None d lt ∙ g) p.either))

pub index-dropped : (m : ℕ) (slots : List (Option (List Lit))) (lists : List (List Entry)) (blocks : Blocks) (i j : ℕ) (d : Option (List Lit)) → j ≡ suc i → i < length slots → get_or slots i d ≡ None
    → IsIndex m slots lists blocks (live_of (take i slots)) → IsIndex m slots lists blocks (live_of (take j slots))
index-dropped m slots lists blocks i j d e lt g h = subst (λ (z : List (List Lit)). IsIndex m slots lists blocks z) (sym (before-none slots i j d e lt g)) h

-- each clause from a number on is new, by the slot of the number
pub each_new-slot : (slots : List (Option (List Lit))) (i j : ℕ) → j ≡ suc i → i < length slots
    → each_new (live_of (take i slots)) (live_of (drop i slots)) ≡ (slot_new (live_of (take i slots)) (slice_index_or slots i None) && each_new (live_of (take j slots)) (live_of (drop j slots)))
each_new-slot slots i j e lt = by_case (slice_index_or slots i None) refl
  where
    here : live_of (drop i slots) ≡ live_of (slice_index_or slots i None ∷ drop j slots)
    here = ap live_of (drop-cons slots i None lt) ∙ (λ t. live_of (slice_index_or slots i None ∷ drop (sym e t) slots))

    by_case : (o : Option (List Lit)) → slice_index_or slots i None ≡ o
        → each_new (live_of (take i slots)) (live_of (drop i slots)) ≡ (slot_new (live_of (take i slots)) o && each_new (live_of (take j slots)) (live_of (drop j slots)))
    by_case (Some c) g =
        ap (each_new (live_of (take i slots))) (here ∙ ap (λ (z : Option (List Lit)). live_of (z ∷ drop j slots)) g)
        ∙ ap (λ (z : List (List Lit)). is_new (live_of (take i slots)) c && each_new z (live_of (drop j slots))) (sym (before-some slots i j None c e lt g))
    by_case None g =
        ap (each_new (live_of (take i slots))) (here ∙ ap (λ (z : Option (List Lit)). live_of (z ∷ drop j slots)) g)
        ∙ ap (λ (z : List (List Lit)). each_new z (live_of (drop j slots))) (sym (before-none slots i j None e lt g))
