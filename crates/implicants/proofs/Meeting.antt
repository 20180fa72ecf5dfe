use Rattle.std.proofs.Common.{◌≡◌, ◌≢◌, ℕ, ◌+◌, ◌<◌, Bool, true, false, cond, ◌&&◌, ◌||◌, ◌⊎◌, inl, inr, List, [], ◌∷◌, length, get_or, refl, sym, ◌∙◌, ap, subst, arith}
use Rattle.std.specs.List.{list_any, list_all}
use Rattle.std.proofs.lemmas.Bool.{or_cases, or_left, or_right, and_from, and_parts, cases_eq}
use Rattle.proof_lines.specs.declared.clause.Lit.{Lit}
use Rattle.proof_lines.specs.declared.problem.AtomKind.{AtomKind}
use Rattle.proof_lines.specs.Clauses.{has, same_lit, same_bool}
use Rattle.line_rows.specs.Steps.{has_row}
use Rattle.proof_lines.proofs.Sets.{same_lit-is}
use Rattle.sat_core.specs.declared.trail.Entry.{Entry}
use Rattle.sat_core.specs.Trails.{in_trail}
use Rattle.implicants.specs.declared.choosing.Chosen.{Chosen}
use Rattle.implicants.specs.Implicants.{plain_value, holds_by, is_met}
use Rattle.implicants.specs.Choosing.{is_marked, is_candidate, AreChosen, Keeps, IsAdded, IsCovered, AreMet}

-- Clauses with a literal that holds.

-- what holds by some literals holds by more
holds-more : (atoms : List AtomKind) (values : List Bool) (p q : Lit → Bool) (l : Lit) → (p l ≡ true → q l ≡ true) → holds_by atoms values p l ≡ true → holds_by atoms values q l ≡ true
holds-more atoms values p q l f h = by_kind (has_row atoms l) h
  where
    by_kind : (b : Bool) → cond b (p l) (same_bool (plain_value values l.atom) l.positive) ≡ true → cond b (q l) (same_bool (plain_value values l.atom) l.positive) ≡ true
    by_kind true h = f h
    by_kind false h = h

pub met-more : (atoms : List AtomKind) (values : List Bool) (p q : Lit → Bool) → ((l : Lit) → p l ≡ true → q l ≡ true) → (c : List Lit) → is_met atoms values p c ≡ true → is_met atoms values q c ≡ true
met-more atoms values p q f [] h = absurd cc
met-more atoms values p q f (x ∷ c) h = elim (or_cases (holds_by atoms values p x) (is_met atoms values p c) h) [
  | inl e ↦ or_left (holds_by atoms values q x) (is_met atoms values q c) (holds-more atoms values p q x (f x) e)
  | inr e ↦ or_right (holds_by atoms values q x) (is_met atoms values q c) (met-more atoms values p q f c e)
]

-- no literal holds by its value, and none is a candidate
pub unmet : (atoms : List AtomKind) (values : List Bool) (p : Lit → Bool) (t : List Entry) (c : List Lit) → is_met atoms values p c ≡ false → list_any (is_candidate atoms t) c ≡ false → is_met atoms values (in_trail t) c ≡ false
unmet atoms values p t [] h n = refl
unmet atoms values p t (x ∷ c) h n =
    let a = neither (holds_by atoms values p x) (is_met atoms values p c) h in
    let b = neither (is_candidate atoms t x) (list_any (is_candidate atoms t) c) n in
    both (holds_by atoms values (in_trail t) x) (is_met atoms values (in_trail t) c) (by_kind (has_row atoms x) a.0 b.0) (unmet atoms values p t c a.1 b.1)
  where
    neither : (a b : Bool) → (a || b) ≡ false → (a ≡ false) × (b ≡ false)
    neither true b h = absurd cc
    neither false b h = (refl, h)

    both : (a b : Bool) → a ≡ false → b ≡ false → (a || b) ≡ false
    both a b p q = grind arith

    by_kind : (b : Bool) → cond b (p x) (same_bool (plain_value values x.atom) x.positive) ≡ false → (b && in_trail t x) ≡ false → cond b (in_trail t x) (same_bool (plain_value values x.atom) x.positive) ≡ false
    by_kind true h n = n
    by_kind false h n = h

there : (p : Lit → Bool) (c : List Lit) (l : Lit) → has c l ≡ true → p l ≡ true → list_any p c ≡ true
there p [] l h k = absurd cc
there p (x ∷ c) l h k = elim (or_cases (same_lit x l) (has c l) h) [
  | inl e ↦ or_left (p x) (list_any p c) (subst (λ (z : Lit). p z ≡ true) (sym (same_lit-is x l e)) k)
  | inr e ↦ or_right (p x) (list_any p c) (there p c l e k)
]

-- a clause that has a literal over an atom with a row that was chosen
pub met-chosen : (atoms : List AtomKind) (values : List Bool) (t : List Entry) (c : List Lit) (l : Lit) (lits : List Lit) → has c l ≡ true → is_candidate atoms t l ≡ true → has lits l ≡ true → is_met atoms values (has lits) c ≡ true
met-chosen atoms values t c l lits h k m = there (holds_by atoms values (has lits)) c l h (by_kind (has_row atoms l) (and_parts (has_row atoms l) (in_trail t l) k).0)
  where
    by_kind : (b : Bool) → b ≡ true → cond b (has lits l) (same_bool (plain_value values l.atom) l.positive) ≡ true
    by_kind true e = m
    by_kind false e = absurd cc

pub covered-so : (atoms : List AtomKind) (values : List Bool) (t : List Entry) (c : List Lit) (l : Lit) (before after : Chosen) → has c l ≡ true → is_candidate atoms t l ≡ true → IsAdded t l before after → IsCovered true atoms values t c before after
covered-so atoms values t c l before after h k a = (a.chosen, a.kept, met-chosen atoms values t c l after.lits h k a.there)

pub covered_parts : (b : Bool) (atoms atoms2 : List AtomKind) (values : List Bool) (t : List Entry) (c d : List Lit) (before after : Chosen) → IsCovered b atoms values t c before after → b ≡ true → c ≡ d → atoms ≡ atoms2 → IsCovered true atoms2 values t d before after
covered_parts b atoms atoms2 values t c d before after h e q r =
    subst (λ (z : List AtomKind). IsCovered true z values t d before after) r
    (subst (λ (z : List Lit). IsCovered true atoms values t z before after) q
    (subst (λ (z : Bool). IsCovered z atoms values t c before after) e h))

pub uncovered_parts : (b : Bool) (atoms atoms2 : List AtomKind) (values : List Bool) (t : List Entry) (c d : List Lit) (before after : Chosen) → IsCovered b atoms values t c before after → b ≡ false → c ≡ d → atoms ≡ atoms2 → is_met atoms2 values (in_trail t) d ≡ false
uncovered_parts b atoms atoms2 values t c d before after h e q r =
    subst (λ (z : List AtomKind). is_met z values (in_trail t) d ≡ false) r
    (subst (λ (z : List Lit). is_met atoms values (in_trail t) z ≡ false) q
    (subst (λ (z : Bool). IsCovered z atoms values t c before after) e h))

-- one clause more
pub more_met : (n : ℕ) (atoms : List AtomKind) (cs : List (List Lit)) (values : List Bool) (before after : Chosen) → AreMet n atoms cs values before → Keeps before after → is_met atoms values (has after.lits) (get_or cs n []) ≡ true → AreMet (n + 1) atoms cs values after
more_met n atoms cs values before after m k h = λ i l. by_number i l (cases_eq i n)
  where
    by_number : (i : ℕ) → i < n + 1 → (i ≡ n) ⊎ (i ≢ n) → is_met atoms values (has after.lits) (get_or cs i []) ≡ true
    by_number i l (inl e) = subst (λ (z : ℕ). is_met atoms values (has after.lits) (get_or cs z []) ≡ true) (sym e) h
    by_number i l (inr e) = met-more atoms values (has before.lits) (has after.lits) k (get_or cs i []) (m i (omega arith))
