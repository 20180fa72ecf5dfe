use Rattle.std.proofs.Common.{◌≡◌, ◌≢◌, ℕ, ◌<◌, Bool, true, false, ◌||◌, ◌⊎◌, inl, inr, List, [], ◌∷◌, ◌++◌, length, set, get_or, refl, sym, ◌∙◌, ap, subst, arith, Option, Some, None}
use Rattle.std.specs.List.{list_all}
use Rattle.std.proofs.lemmas.Bool.{or_left, or_right, and_from, cases_eq}
use Rattle.std.proofs.lemmas.List.{get_or-set_same, get_or-set_other}
use Rattle.std.proofs.lemmas.List.Folds.{list_all-append}
use Rattle.proof_lines.specs.declared.clause.Lit.{Lit}
use Rattle.proof_lines.specs.Clauses.{has, same_lit, same_bool, lit_of}
use Rattle.proof_lines.proofs.Sets.{same_bool-is, same_lit-refl, has-append}
use Rattle.sat_core.specs.declared.trail.Entry.{Entry}
use Rattle.sat_core.specs.Trails.{in_trail}
use Rattle.implicants.specs.declared.choosing.Chosen.{Chosen}
use Rattle.implicants.specs.Choosing.{is_sign, is_marked, AreChosen, Keeps, IsAdded}

-- One literal more.

-- nothing is chosen at first
pub none_chosen : (t : List Entry) (c : Chosen) → c.lits ≡ [] → c.signs.items ≡ [] → AreChosen t c
none_chosen t c e q = record {
  in_it = subst (λ (z : List Lit). list_all (in_trail t) z ≡ true) (sym e) refl;
  marked = λ l h. absurd (let k = subst (λ (z : List (Option Bool)). is_marked z l ≡ true) q h in cc);
}

pub has_last : (lits : List Lit) (l : Lit) → has (lits ++ l ∷ []) l ≡ true
has_last lits l = has-append lits (l ∷ []) l ∙ or_right (has lits l) (has (l ∷ []) l) (or_left (same_lit l l) false (same_lit-refl l))

pub has_still : (lits : List Lit) (l x : Lit) → has lits x ≡ true → has (lits ++ l ∷ []) x ≡ true
has_still lits l x h = has-append lits (l ∷ []) x ∙ or_left (has lits x) (has (l ∷ []) x) h

-- a literal of the trail is added and marked
pub added : (t : List Entry) (l : Lit) (c d : Chosen) (wide : List (Option Bool)) → AreChosen t c → in_trail t l ≡ true → ((a : ℕ) → get_or wide a None ≡ get_or c.signs.items a None) → l.atom < length wide
    → d.lits ≡ c.lits ++ l ∷ [] → d.signs.items ≡ set wide l.atom (Some l.positive) → IsAdded t l c d
added t l c d wide x i w b e q = record {
  chosen = record {
    in_it = subst (λ (z : List Lit). list_all (in_trail t) z ≡ true) (sym e) (list_all-append (in_trail t) c.lits (l ∷ []) ∙ and_from (list_all (in_trail t) c.lits) (list_all (in_trail t) (l ∷ [])) x.in_it (and_from (in_trail t l) true i refl));
    marked = λ k h. subst (λ (z : List Lit). has z k ≡ true) (sym e) (each k (subst (λ (z : List (Option Bool)). is_marked z k ≡ true) q h) (cases_eq k.atom l.atom));
  };
  kept = λ k h. subst (λ (z : List Lit). has z k ≡ true) (sym e) (has_still c.lits l k h);
  there = subst (λ (z : List Lit). has z l ≡ true) (sym e) (has_last c.lits l);
}
  where
    each : (k : Lit) → is_marked (set wide l.atom (Some l.positive)) k ≡ true → (k.atom ≡ l.atom) ⊎ (k.atom ≢ l.atom) → has (c.lits ++ l ∷ []) k ≡ true
    each k h (inl s) =
        let g : get_or (set wide l.atom (Some l.positive)) k.atom None ≡ Some l.positive = subst (λ (a : ℕ). get_or (set wide l.atom (Some l.positive)) a None ≡ Some l.positive) (sym s) (get_or-set_same wide l.atom (Some l.positive) None b) in
        let p : l.positive ≡ k.positive = same_bool-is l.positive k.positive (subst (λ (z : Option Bool). is_sign z k.positive ≡ true) g h) in
        let same : l ≡ k = (λ j. lit_of (sym s j) (p j)) in
        subst (λ (z : Lit). has (c.lits ++ l ∷ []) z ≡ true) same (has_last c.lits l)
    each k h (inr n) =
        let g : get_or (set wide l.atom (Some l.positive)) k.atom None ≡ get_or c.signs.items k.atom None = get_or-set_other wide l.atom k.atom (Some l.positive) None n ∙ w k.atom in
        has_still c.lits l k (x.marked k (subst (λ (z : Option Bool). is_sign z k.positive ≡ true) g h))
