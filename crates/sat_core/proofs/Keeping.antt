use Rattle.std.proofs.Common.{◌≡◌, ℕ, zero, suc, ◌+◌, ◌-◌, ◌^◌, ◌<◌, ◌≤◌, Bool, true, false, ◌&&◌, List, [], ◌∷◌, ◌++◌, length, get_or, refl, ◌∙◌, ap, subst, arith, Ok, length-append, slice_get, nat_lt}
use Rattle.std.specs.List.{list_all}
use Rattle.std.proofs.lemmas.Bool.Decides.{nat_tests}
use Rattle.std.proofs.lemmas.List.Folds.{list_all-append}
use Rattle.lin_rows.specs.Rows.{Row, places_below}
use Rattle.proof_lines.specs.declared.clause.Lit.{Lit}
use Rattle.proof_lines.specs.declared.problem.AtomKind.{AtomKind}
use Rattle.proof_lines.specs.declared.problem.AtomKind.TheVariants.{Row as OfRow}
use Rattle.proof_lines.specs.declared.line.Line.{Line}
use Rattle.proof_lines.specs.Clauses.{has, lit_of}
use Rattle.proof_lines.specs.Problems.{PlainProblem, fits, names_below, atoms_below}
use Rattle.proof_kernel.specs.Rules.{next, start}
use Rattle.std.proofs.lemmas.Bool.{and_parts, and_from, ltb-true}
use Rattle.line_rows.proofs.Names.{all-resolvent}
use Rattle.line_rows.proofs.Certificates.{all_at}
use Rattle.sat_core.specs.Fresh.{IsFresh}
use Rattle.sat_core.specs.Forcing.{are_plain}
use Rattle.sat_core.specs.SearchLogs.{with_clause, with_row, standing, is_split, splits, resolved_on}
use Rattle.sat_core.proofs.Trails.{all_has}
use Rattle.sat_core.proofs.Chain.{longer, grows-refl, grows-push}
use Rattle.sat_core.proofs.Bound.{few_new}
use Rattle.sat_core.proofs.Taken.{run-push}
use Rattle.sat_core.proofs.Shown.{splits-push}
use Rattle.sat_core.specs.Answers.{IsShort}
use Rattle.sat_core.specs.Searching.{Aim, Keeps}

-- What the lines so far keep.

pub fits-clause : (q : PlainProblem) (c : List Lit) → fits q ≡ true → atoms_below (length q.atoms) c ≡ true → fits (with_clause q c) ≡ true
fits-clause q c f b =
    let p = and_parts (list_all (names_below q.ints) q.atoms) (list_all (atoms_below (length q.atoms)) q.clauses) f in
    let cs : list_all (atoms_below (length q.atoms)) (q.clauses ++ c ∷ []) ≡ true =
    rw list_all-append (and_from (list_all (atoms_below (length q.atoms)) q.clauses) (atoms_below (length q.atoms) c && true) p.1 (and_from (atoms_below (length q.atoms) c) true b refl)) in
    and_from (list_all (names_below q.ints) q.atoms) (list_all (atoms_below (length q.atoms)) (q.clauses ++ c ∷ [])) p.0 cs

-- literals below a number are below a greater one
all_weaker : (m n : ℕ) (cs : List (List Lit)) → m ≤ n → list_all (atoms_below m) cs ≡ true → list_all (atoms_below n) cs ≡ true
all_weaker m n [] h a = refl
all_weaker m n (c ∷ cs) h a =
    let q = and_parts (atoms_below m c) (list_all (atoms_below m) cs) a in
    and_from (atoms_below n c) (list_all (atoms_below n) cs) (weaker c q.0) (all_weaker m n cs h q.1)
  where
    lt_more : (a : ℕ) → nat_lt a m ≡ true → nat_lt a n ≡ true
    lt_more a l = grind (arith, nat_tests)

    weaker : (c : List Lit) → atoms_below m c ≡ true → atoms_below n c ≡ true
    weaker [] a = refl
    weaker (l ∷ c) a =
        let q = and_parts (nat_lt l.atom m) (atoms_below m c) a in
        and_from (nat_lt l.atom n) (atoms_below n c) (lt_more l.atom q.0) (weaker c q.1)

pub fits-row : (q : PlainProblem) (r : Row) → fits q ≡ true → places_below q.ints r ≡ true → fits (with_row q r) ≡ true
fits-row q r f b =
    let p = and_parts (list_all (names_below q.ints) q.atoms) (list_all (atoms_below (length q.atoms)) q.clauses) f in
    let l : length (q.atoms ++ OfRow r ∷ []) ≡ length q.atoms + 1 = length-append q.atoms (OfRow r ∷ []) in
    let ks : list_all (names_below q.ints) (q.atoms ++ OfRow r ∷ []) ≡ true =
    rw list_all-append (and_from (list_all (names_below q.ints) q.atoms) (places_below q.ints r && true) p.0 (and_from (places_below q.ints r) true b refl)) in
    and_from (list_all (names_below q.ints) (q.atoms ++ OfRow r ∷ [])) (list_all (atoms_below (length (q.atoms ++ OfRow r ∷ []))) q.clauses) ks (all_weaker (length q.atoms) (length (q.atoms ++ OfRow r ∷ [])) q.clauses (omega (arith, l)) p.1)

pub clause-below : (q : PlainProblem) → fits q ≡ true → (i : ℕ) (l : Lit) → i < length q.clauses → has (get_or q.clauses i []) l ≡ true → l.atom < length q.atoms
clause-below q f i l b h =
    let p = and_parts (list_all (names_below q.ints) q.atoms) (list_all (atoms_below (length q.atoms)) q.clauses) f in
    let c = all_at (atoms_below (length q.atoms)) q.clauses i [] b p.1 in
    ltb-true l.atom (length q.atoms) (all_has (λ k. nat_lt k.atom (length q.atoms)) (get_or q.clauses i []) l c h)

-- a resolvent of two clauses names atoms
pub resolved-below : (q : PlainProblem) → fits q ≡ true → (l : Lit) (r i : ℕ) → r < length q.clauses → i < length q.clauses → atoms_below (length q.atoms) (resolved_on l (get_or q.clauses r []) (get_or q.clauses i [])) ≡ true
resolved-below q f l r i a b =
    let p = and_parts (list_all (names_below q.ints) q.atoms) (list_all (atoms_below (length q.atoms)) q.clauses) f in
    by_sign l.positive (all_at (atoms_below (length q.atoms)) q.clauses r [] a p.1) (all_at (atoms_below (length q.atoms)) q.clauses i [] b p.1)
  where
    by_sign : (s : Bool) → atoms_below (length q.atoms) (get_or q.clauses r []) ≡ true → atoms_below (length q.atoms) (get_or q.clauses i []) ≡ true
        → atoms_below (length q.atoms) (resolved_on (lit_of l.atom s) (get_or q.clauses r []) (get_or q.clauses i [])) ≡ true
    by_sign true x y = all-resolvent (λ k. nat_lt k.atom (length q.atoms)) l.atom (get_or q.clauses r []) (get_or q.clauses i []) x y
    by_sign false x y = all-resolvent (λ k. nat_lt k.atom (length q.atoms)) l.atom (get_or q.clauses i []) (get_or q.clauses r []) y x

pub keeps_first : (a : Aim) (budget : ℕ) → fits a.problem ≡ true → length a.problem.clauses < 2 ^ 32 → length a.problem.atoms < 2 ^ 32 → Keeps a budget a.problem []
keeps_first a budget f cs ks = record {
  room = omega arith;
  runs = refl;
  fresh = record { new = λ k u l j m. absurd (omega arith); one_way = λ k u l q m. absurd (omega arith) };
  first = grows-refl a.problem.clauses;
  atoms = λ i l. refl;
  atom_count = omega arith;
  ints = refl;
  clause_count = omega arith;
  unsplit = λ h. refl;
  plain = λ h. refl;
  fits = f;
  few_clauses = cs;
  few_atoms = ks;
}

-- a line that gives a clause
pub keeps_clause : (a : Aim) (budget : ℕ) (q : PlainProblem) (ls : List Line) (l : Line) (c : List Lit) → Keeps a budget q ls → length ls < budget → is_split l ≡ false
    → next (standing (length a.problem.clauses) q) l ≡ Ok (standing (length a.problem.clauses) (with_clause q c)) → IsFresh (length a.problem.clauses) (q.clauses ++ c ∷ []) → atoms_below (length q.atoms) c ≡ true
    → length q.clauses + 1 < 2 ^ 32 → Keeps a budget (with_clause q c) (ls ++ l ∷ [])
keeps_clause a budget q ls l c k b u t f below few =
    let n : length (ls ++ l ∷ []) ≡ length ls + 1 = length-append ls (l ∷ []) in
    let m = longer q.clauses c in
    let s = splits-push ls l false u in
    let r = k.room in
    let o = k.clause_count in
    let at = k.atom_count in
    record {
      room = omega arith;
      runs = run-push 0 (start a.problem) ls (standing (length a.problem.clauses) q) l (standing (length a.problem.clauses) (with_clause q c)) k.runs t;
      fresh = f;
      first = grows-push a.problem.clauses q.clauses c k.first;
      atoms = k.atoms;
      atom_count = omega (arith, s, at);
      ints = k.ints;
      clause_count = omega (arith, s, o, m, n);
      unsplit = k.unsplit;
      plain = k.plain;
      fits = fits-clause q c k.fits below;
      few_clauses = omega (arith, m);
      few_atoms = k.few_atoms;
    }

get-front : (ks : List AtomKind) (k : AtomKind) (i : ℕ) → i < length ks → slice_get (ks ++ k ∷ []) i ≡ slice_get ks i
get-front [] k i h = absurd (omega arith)
get-front (x ∷ ks) k zero h = refl
get-front (x ∷ ks) k (suc i) h = get-front ks k i (omega arith)

-- a Split line
pub keeps_row : (a : Aim) (budget : ℕ) (q : PlainProblem) (ls : List Line) (l : Line) (r : Row) → Keeps a budget q ls → length ls < budget → is_split l ≡ true
    → next (standing (length a.problem.clauses) q) l ≡ Ok (standing (length a.problem.clauses) (with_row q r)) → (a.split ≡ false → ⊥) → (are_plain a.problem.atoms ≡ true → ⊥) → places_below q.ints r ≡ true
    → length q.atoms + 1 < 2 ^ 32 → Keeps a budget (with_row q r) (ls ++ l ∷ [])
keeps_row a budget q ls l r k b u t no_split no_plain below few =
    let n : length (ls ++ l ∷ []) ≡ length ls + 1 = length-append ls (l ∷ []) in
    let m : length (q.atoms ++ OfRow r ∷ []) ≡ length q.atoms + 1 = length-append q.atoms (OfRow r ∷ []) in
    let s = splits-push ls l true u in
    let rm = k.room in
    let o = k.clause_count in
    let at = k.atom_count in
    record {
      room = omega arith;
      runs = run-push 0 (start a.problem) ls (standing (length a.problem.clauses) q) l (standing (length a.problem.clauses) (with_row q r)) k.runs t;
      fresh = k.fresh;
      first = k.first;
      atoms = λ i h. get-front q.atoms (OfRow r) i (omega (arith, at)) ∙ k.atoms i h;
      atom_count = omega (arith, s, at, m);
      ints = k.ints;
      clause_count = omega (arith, s, o, n);
      unsplit = λ h. absurd (no_split h);
      plain = λ h. absurd (no_plain h);
      fits = fits-row q r k.fits below;
      few_clauses = k.few_clauses;
      few_atoms = omega (arith, m);
    }

-- so the log is short
pub short_of : (a : Aim) (budget : ℕ) (q : PlainProblem) (ls : List Line) → Keeps a budget q ls → IsShort a.split a.problem ls
short_of a budget q ls k = record {
  unsplit = λ h. none (k.unsplit h);
  plain = λ h. none (k.plain h);
  few = many (length q.clauses - length a.problem.clauses) (let g = k.first.long in omega arith);
}
  where
    none : q.atoms ≡ a.problem.atoms → splits ls ≡ 0
    none e = let m : length q.atoms ≡ length a.problem.atoms = ap (λ (ks : List AtomKind). length ks) e in let c = k.atom_count in omega (arith, m, c)

    many : (m : ℕ) → length a.problem.clauses + m ≡ length q.clauses → length ls ≤ 3 ^ (length a.problem.atoms + splits ls) + splits ls
    many m e =
        let f : m ≤ 3 ^ (length q.atoms) = few_new (length q.atoms) (length a.problem.clauses) q.clauses k.fresh (clause-below q k.fits) m (omega (arith, e)) in
        let g : m ≤ 3 ^ (length a.problem.atoms + splits ls) = subst (λ (n : ℕ). m ≤ 3 ^ n) k.atom_count f in
        let c = k.clause_count in omega (arith, g, c, e)
