use Rattle.std.proofs.Common.{◌≡◌, ◌≢◌, ℕ, suc, ◌+◌, ◌^◌, ◌<◌, ◌≤◌, Bool, true, false, cond, ◌||◌, ◌==◌, ◌⊎◌, inl, inr, List, [], ◌∷◌, ◌++◌, length, get_or, refl, sym, ◌∙◌, ap, subst, arith, Option, Some, None, Ok, length-append}
use Rattle.std.specs.Prelude.{is_none, nat_le, nat_lt}
use Rattle.std.proofs.lemmas.Bool.Decides.{nat_tests}
use Rattle.proof_lines.specs.declared.clause.Lit.{Lit}
use Rattle.proof_lines.specs.declared.line.Line.{Line}
use Rattle.proof_lines.specs.Clauses.{has, distinct, flip}
use Rattle.proof_lines.specs.Problems.{PlainProblem, atoms_below}
use Rattle.proof_kernel.specs.Rules.{next}
use Rattle.std.proofs.lemmas.Bool.{and_parts, or_parts, or_left, or_right, lt-ltb, cases_eq}
use Rattle.proof_lines.proofs.Sets.{same_nat-refl}
use Rattle.sat_core.specs.declared.trail.Entry.{Entry}
use Rattle.sat_core.specs.Trails.{after, is_assigned, is_false, open_in, before_last, is_decision, has_decision, IsTrail, older, IsCalm, is_done}
use Rattle.sat_core.specs.Forcing.{AreRefuted}
use Rattle.sat_core.specs.Chains.{Cutting}
use Rattle.sat_core.specs.SearchLogs.{resolve_line, resolved_on, within, between, IsNext, SearchLog, conflict, step, finish, with_clause, is_split, standing}
use Rattle.sat_core.proofs.Trails.{has_all, starts-open, settled-before, is_assigned-before}
use Rattle.sat_core.proofs.Chain.{begin_chain, pop_step, Top, top_of, members, resolve_step, is_next, is_fresh, first_cut, more_cut, last_cut, at_new}
use Rattle.sat_core.proofs.Free.{trail_short}
use Rattle.sat_core.proofs.Forcing.{conflict_free}
use Rattle.sat_core.proofs.Taken.{resolve_taken}
use Rattle.sat_core.specs.Answers.{IsEasy}
use Rattle.sat_core.specs.declared.state.SearchState.{SearchState}
use Rattle.sat_core.specs.Searching.{with_trail, Aim, Keeps, InSearch, InChain, GoesOn, IsBefore, IsBackjump}
use Rattle.sat_core.proofs.Keeping.{clause-below, keeps_clause}
use Rattle.sat_core.proofs.Backjumps.{last-before, before-trans}

-- A chain from a conflict on.

pub same_done : (t0 t : List Entry) (c : List Lit) → has_decision t0 ≡ has_decision t → before_last t0 ≡ before_last t → is_done t0 c ≡ is_done t c
same_done t0 t c h b = λ i. cond (h i) (nat_le (open_in (b i) c) 1) (nat_le (length c) 0)

pub not_done : (cs : List (List Lit)) (t : List Entry) (i : ℕ) → i < length cs → is_false t (get_or cs i []) ≡ true → IsTrail cs t → IsCalm cs t → is_done t (get_or cs i []) ≡ false
not_done cs t i l f w n = by_case (has_decision t) refl
  where
    above : (m : ℕ) → 2 ≤ m → nat_le m 1 ≡ false
    above m h = grind (arith, nat_tests)

    nonempty : (c : List Lit) → is_false (older t) c ≡ false → nat_le (length c) 0 ≡ false
    nonempty [] h = absurd cc
    nonempty (x ∷ c) h = grind (arith, nat_tests)

    by_case : (b : Bool) → has_decision t ≡ b → cond b (nat_le (open_in (before_last t) (get_or cs i [])) 1) (nat_le (length (get_or cs i [])) 0) ≡ false
    by_case true h = above (open_in (before_last t) (get_or cs i [])) (starts-open cs t (get_or cs i []) w f (settled-before cs t w h i l))
    by_case false h = nonempty (get_or cs i []) (n i l)

-- where forced literals satisfy all clauses there is no conflict
pub no_conflict : (a : Aim) (budget : ℕ) (s : SearchState) (i : ℕ) → InSearch a budget s → i < length s.grown.clauses → is_false s.trail (get_or s.grown.clauses i []) ≡ true → IsEasy a.problem → ⊥
no_conflict a budget s i x l f h =
    let y = x.easy h in
    let g = subst (λ (c : List (List Lit)). (i < length c) × (is_false s.trail (get_or c i []) ≡ true)) y.1 (l, f) in
    conflict_free a.problem.clauses s.trail i (subst (λ (c : List (List Lit)). IsTrail c s.trail) y.1 x.trail) h.1 y.2 g.0 g.1

pub chain_begins : (a : Aim) (budget : ℕ) (s : SearchState) (i : ℕ) → InSearch a budget s → i < length s.grown.clauses → is_false s.trail (get_or s.grown.clauses i []) ≡ true → distinct (get_or s.grown.clauses i []) ≡ true
    → InChain a budget (length s.log) s i
chain_begins a budget s i x l f d = record {
  keeps = x.keeps;
  start = s.grown.clauses;
  from = s.trail;
  ex = begin_chain s.grown.clauses s.trail i l f d x.trail x.calm;
  below = x.below;
  search = conflict x.search s.trail x.trail i l f;
  since = omega arith;
  grew = λ h. absurd (let n = not_done s.grown.clauses s.trail i l f x.trail x.calm in cc);
  early = λ r. (let y = x.early r in (y.0, (let short = trail_short (length s.grown.atoms) s.grown.clauses s.trail x.trail x.below in let n : length s.log ≡ 0 = ap (λ (z : List Line). length z) y.1 in let k = none y.1 in omega (arith, short, n, k))));
  uneasy = no_conflict a budget s i x l f;
}
  where
    none : s.log ≡ [] → length s.grown.atoms ≡ length a.problem.atoms
    none e = let k = subst (λ (z : List Line). Keeps a budget s.grown z) e x.keeps in let c = k.atom_count in omega (arith, c)

pub chain_begins-start : (a : Aim) (budget : ℕ) (s : SearchState) (i : ℕ) (x : InSearch a budget s) (l : i < length s.grown.clauses) (f : is_false s.trail (get_or s.grown.clauses i []) ≡ true) (d : distinct (get_or s.grown.clauses i []) ≡ true)
    → (chain_begins a budget s i x l f d).start ≡ s.grown.clauses
unfolding chain_begins
chain_begins-start a budget s i x l f d = refl

pub chain_pops : (a : Aim) (budget before : ℕ) (s : SearchState) (e : Entry) (i : ℕ) (x : InChain a budget before (with_trail s (e ∷ s.trail)) i) → has (get_or s.grown.clauses i []) (flip e.lit) ≡ false
    → (y : InChain a budget before s i) × (y.start ≡ x.start) × (y.from ≡ x.from)
chain_pops a budget before s e i x n = (
  record {
    keeps = x.keeps;
    start = x.start;
    from = x.from;
    ex = pop_step x.start x.from s.grown.clauses e s.trail i x.ex n;
    below = λ k h. x.below k (or_right (e.lit.atom == k) (is_assigned s.trail k) h);
    search = x.search;
    since = x.since;
    grew = x.grew;
    early = λ r. (let y = x.early r in ((or_parts (is_decision e) (has_decision s.trail) y.0).1, (let z = y.1 in omega arith)));
    uneasy = x.uneasy;
  },
  refl,
  refl,
)

module _ (a : Aim) (budget before : ℕ) (s : SearchState) (e : Entry) (i : ℕ) (x : InChain a budget before (with_trail s (e ∷ s.trail)) i) (h : has (get_or s.grown.clauses i []) (flip e.lit) ≡ true) (n : is_done (e ∷ s.trail) (get_or s.grown.clauses i []) ≡ false) where
  pub top : Top x.start e s.trail
  top = top_of x.start x.from s.grown.clauses e s.trail i x.ex n

  pub has_reason : e.reason ≡ None → ⊥
  has_reason p = let r = top.is in absurd cc

  pub the_reason : (r : ℕ) → e.reason ≡ Some r → top.reason ≡ r
  the_reason r p = let k = top.is in cc

  pub reason_there : (r : ℕ) → e.reason ≡ Some r → r < length s.grown.clauses
  reason_there r p = let k = the_reason r p in let u = top.reason_there in let b = x.ex.grows.long in omega arith

  the_clause : (r : ℕ) → e.reason ≡ Some r → get_or s.grown.clauses r [] ≡ get_or x.start top.reason []
  the_clause r p = let k = the_reason r p in ap (λ k. get_or s.grown.clauses k []) (sym k) ∙ x.ex.grows.same top.reason top.reason_there

  pub chain_steps : (r : ℕ) → e.reason ≡ Some r → distinct (get_or s.grown.clauses r []) ≡ true → length s.log < budget → length s.grown.clauses + 1 < 2 ^ 32
      → (y : InChain a budget before (record { grown = with_clause s.grown (resolved_on e.lit (get_or s.grown.clauses r []) (get_or s.grown.clauses i [])); trail = s.trail; log = s.log ++ resolve_line e.lit r i ∷ [] }) (length s.grown.clauses)) × (y.start ≡ x.start) × (y.from ≡ x.from)
  chain_steps r p d b few =
      subst (λ (c : List Lit). (y : InChain a budget before (record { grown = with_clause s.grown (resolved_on e.lit c (get_or s.grown.clauses i [])); trail = s.trail; log = s.log ++ resolve_line e.lit r i ∷ [] }) (length s.grown.clauses)) × (y.start ≡ x.start) × (y.from ≡ x.from)) (sym (the_clause r p)) stepped
    where
      new : List Lit
      new = resolved_on e.lit (get_or x.start top.reason []) (get_or s.grown.clauses i [])

      set : distinct (get_or x.start top.reason []) ≡ true
      set = subst (λ (c : List Lit). distinct c ≡ true) (the_clause r p) d

      unsplit : is_split (resolve_line e.lit r i) ≡ false
      unsplit = by_sign e.lit.positive
        where
          by_sign : (s : Bool) → is_split (resolve_line (record { atom = e.lit.atom; positive = s }) r i) ≡ false
          by_sign true = refl
          by_sign false = refl

      reason_has : has (get_or s.grown.clauses r []) e.lit ≡ true
      reason_has = subst (λ (c : List Lit). has c e.lit ≡ true) (sym (the_clause r p)) (and_parts (has (get_or x.start top.reason []) e.lit) _ top.unit).0

      atom_there : e.lit.atom < length s.grown.atoms
      atom_there = x.below e.lit.atom (or_left (e.lit.atom == e.lit.atom) (is_assigned s.trail e.lit.atom) (same_nat-refl e.lit.atom))

      new_below : atoms_below (length s.grown.atoms) new ≡ true
      new_below = has_all (λ l. nat_lt l.atom (length s.grown.atoms)) new (λ l m. lt-ltb l.atom (length s.grown.atoms) (one l m))
        where
          one : (l : Lit) → has new l ≡ true → l.atom < length s.grown.atoms
          one l m = elim (members e.lit (get_or x.start top.reason []) (get_or s.grown.clauses i []) l m) [
            | inl o ↦ clause-below s.grown x.keeps.fits i l x.ex.there o.0
            | inr o ↦ clause-below s.grown x.keeps.fits r l (reason_there r p) (subst (λ (c : List Lit). has c l ≡ true) (sym (the_clause r p)) o.0)
          ]

      taken : next (standing (length a.problem.clauses) s.grown) (resolve_line e.lit r i) ≡ Ok (standing (length a.problem.clauses) (with_clause s.grown new))
      taken =
          subst (λ (c : List Lit). next (standing (length a.problem.clauses) s.grown) (resolve_line e.lit r i) ≡ Ok (standing (length a.problem.clauses) (with_clause s.grown (resolved_on e.lit c (get_or s.grown.clauses i []))))) (the_clause r p)
          (resolve_taken (length a.problem.clauses) s.grown e.lit r i (reason_there r p) x.ex.there atom_there reason_has h)

      kept : Keeps a budget (with_clause s.grown new) (s.log ++ resolve_line e.lit r i ∷ [])
      kept =
          keeps_clause a budget s.grown s.log (resolve_line e.lit r i) new x.keeps b unsplit
          taken
          (is_fresh x.start x.from s.grown.clauses e s.trail i x.ex h n top set (length a.problem.clauses) x.keeps.fresh) new_below few

      undone : is_done x.from (get_or s.grown.clauses i []) ≡ false
      undone = same_done x.from (e ∷ s.trail) (get_or s.grown.clauses i []) x.ex.same_has x.ex.same_before ∙ n

      next_is : IsNext x.start x.from s.grown.clauses (get_or s.grown.clauses i []) (resolve_line e.lit r i) new
      next_is = subst (λ (z : ℕ). IsNext x.start x.from s.grown.clauses (get_or s.grown.clauses i []) (resolve_line e.lit z i) new) (the_reason r p) (is_next x.start x.from s.grown.clauses e s.trail i x.ex h n top set)

      longer_log : length (s.log ++ resolve_line e.lit r i ∷ []) ≡ length s.log + 1
      longer_log = length-append s.log (resolve_line e.lit r i ∷ [])

      stepped : (y : InChain a budget before (record { grown = with_clause s.grown new; trail = s.trail; log = s.log ++ resolve_line e.lit r i ∷ [] }) (length s.grown.clauses)) × (y.start ≡ x.start) × (y.from ≡ x.from)
      stepped = (
        record {
          keeps = kept;
          start = x.start;
          from = x.from;
          ex = resolve_step x.start x.from s.grown.clauses e s.trail i x.ex h n top set;
          below = λ k m. x.below k (or_right (e.lit.atom == k) (is_assigned s.trail k) m);
          search = subst (λ (c : List Lit). SearchLog a.problem (s.log ++ resolve_line e.lit r i ∷ []) (with_clause s.grown new) (within x.start x.from c)) (sym (at_new s.grown.clauses new)) (step x.search (resolve_line e.lit r i) new undone next_is);
          since = (let l = longer_log in let m = x.since in omega arith);
          grew = λ _. (let l = longer_log in let m = x.since in omega arith);
          early = λ f. (let y = x.early f in ((or_parts (is_decision e) (has_decision s.trail) y.0).1, (let z = y.1 in let l = longer_log in omega arith)));
          uneasy = x.uneasy;
        },
        refl,
        refl,
      )

-- after a chain that began with some clauses, under some trail: it is cut back
pub record InCut (a : Aim) (budget before : ℕ) (start : List (List Lit)) (from : List Entry) (s : SearchState) (i : ℕ) : Type 0 where
  pub keeps : Keeps a budget s.grown s.log
  pub cut : Cutting start s.grown.clauses s.trail i
  pub shorter : IsBefore s.trail from
  pub below : (x : ℕ) → is_assigned s.trail x ≡ true → x < length s.grown.atoms
  pub search : SearchLog a.problem s.log s.grown between
  pub grew : before < length s.log
  pub hard : AreRefuted a.problem.clauses → ⊥
  pub uneasy : IsEasy a.problem → ⊥

pub cut_begins : (a : Aim) (budget before : ℕ) (s : SearchState) (i : ℕ) (x : InChain a budget before s i) → is_done s.trail (get_or s.grown.clauses i []) ≡ true → has_decision s.trail ≡ true → InCut a budget before x.start s.trail (with_trail s (before_last s.trail)) i
cut_begins a budget before s i x d h =
    let e : is_done x.from (get_or s.grown.clauses i []) ≡ true = same_done x.from s.trail (get_or s.grown.clauses i []) x.ex.same_has x.ex.same_before ∙ d in
    record {
      keeps = x.keeps;
      cut = first_cut x.start x.from s.grown.clauses s.trail i x.ex h;
      shorter = last-before (before_last s.trail) s.trail h (inl refl);
      below = λ k m. x.below k (is_assigned-before s.trail k m);
      search = finish x.search e;
      grew = x.grew e;
      hard = λ r. absurd (let y = (x.early r).0 in cc);
      uneasy = x.uneasy;
    }

pub cut_more : (a : Aim) (budget before : ℕ) (start : List (List Lit)) (from : List Entry) (s : SearchState) (i : ℕ) → InCut a budget before start from s i → has_decision s.trail ≡ true → InCut a budget before start from (with_trail s (before_last s.trail)) i
cut_more a budget before start from s i x h = record {
  keeps = x.keeps;
  cut = more_cut start s.grown.clauses s.trail i x.cut h;
  shorter = before-trans (before_last s.trail) s.trail from (last-before (before_last s.trail) s.trail h (inl refl)) x.shorter;
  below = λ k m. x.below k (is_assigned-before s.trail k m);
  search = x.search;
  grew = x.grew;
  hard = x.hard;
  uneasy = x.uneasy;
}

pub cut_ends : (a : Aim) (budget before : ℕ) (start : List (List Lit)) (from : List Entry) (s : SearchState) (i : ℕ) → InCut a budget before start from s i → (has_decision s.trail ≡ true → 2 ≤ open_in (before_last s.trail) (get_or s.grown.clauses i []))
    → InSearch a budget s × (before < length s.log) × IsBackjump start from s.grown.clauses s.trail
cut_ends a budget before start from s i x h =
    let w = last_cut start s.grown.clauses s.trail i x.cut h in (
      record { keeps = x.keeps; trail = w.0; calm = w.1; below = x.below; search = x.search; early = λ r. absurd (x.hard r); easy = λ e. absurd (x.uneasy e) },
      x.grew,
      record { shorter = x.shorter; grows = x.cut.grows; none_false = x.cut.none_false; wide = λ d k a l. wide d k a l (cases_eq k i) },
    )
  where
    wide : has_decision s.trail ≡ true → (k : ℕ) → length start ≤ k → k < length s.grown.clauses → (k ≡ i) ⊎ (k ≢ i) → 2 ≤ open_in (before_last s.trail) (get_or s.grown.clauses k [])
    wide d k b l (inl e) = subst (λ (j : ℕ). 2 ≤ open_in (before_last s.trail) (get_or s.grown.clauses j [])) (sym e) (h d)
    wide d k b l (inr e) = (x.cut.added k b l e).two d

pub before-shorter : (t : List Entry) → has_decision t ≡ true → length (before_last t) < length t
before-shorter [] h = absurd cc
before-shorter (e ∷ t) h = by_case e.reason h (before-shorter t)
  where
    by_case : (r : Option ℕ) → (is_none r || has_decision t) ≡ true → (has_decision t ≡ true → length (before_last t) < length t) → length (after r t (before_last t)) < suc (length t)
    by_case None h f = omega arith
    by_case (Some r) h f = let g = f h in omega arith

-- a state by its parts
pub state-so : (s : SearchState) (q : PlainProblem) (t : List Entry) (ls : List Line) → s.grown ≡ q → s.trail ≡ t → s.log ≡ ls → s ≡ record { grown = q; trail = t; log = ls }
state-so s q t ls e f g = λ i. record { grown = e i; trail = f i; log = g i }

pub moved_on : (budget : ℕ) (s : SearchState) (i : ℕ) (n m : SearchState) (j k : ℕ) → GoesOn budget s i n j → n ≡ m → j ≡ k → GoesOn budget s i m k
moved_on budget s i n m j k x e g = subst (λ (z : SearchState). GoesOn budget s i z k) e (subst (λ (z : ℕ). GoesOn budget s i n z) g x)

-- a chain over some clauses, as its parts are written otherwise
pub moved_start : (a : Aim) (budget before : ℕ) (start : List (List Lit)) (s n : SearchState) (i j : ℕ) → (y : InChain a budget before s i) × (y.start ≡ start) → s ≡ n → i ≡ j → (y : InChain a budget before n j) × (y.start ≡ start)
moved_start a budget before start s n i j x e g = subst (λ (z : SearchState). (y : InChain a budget before z j) × (y.start ≡ start)) e (subst (λ (k : ℕ). (y : InChain a budget before s k) × (y.start ≡ start)) g x)
