-- As many as there are.
use Rattle.std.proofs.Common.{◌≡◌, ℕ, zero, suc, ◌+◌, ◌≤◌, Bool, true, false, ◌||◌, List, [], ◌∷◌, ◌++◌, length, Ok, Err, inl, inr, refl, sym, ap, subst, ◌∙◌, append_assoc, arith}
use Rattle.std.proofs.lemmas.Bool.{or_from, or_parts}
use Rattle.std.specs.List.{AllByRecursion}
use Rattle.std.proofs.lemmas.List.{append-nil, nil_from_length}
use Rattle.parser_combinators.specs.declared.token.Symbol.{Symbol}
use Rattle.parser_combinators.specs.declared.token.Token.{Token}
use Rattle.parser_combinators.specs.declared.token.Kind.{Kind}
use Rattle.parser_combinators.specs.declared.token.Kind.TheVariants as kind
use Rattle.parser_combinators.specs.Words.{next, seen, Spelt, plain, Matches, each, AllSame}
use Rattle.parser_combinators.specs.Read.{Read, ◌>>=◌, times, many}
use Rattle.parser_combinators.proofs.Part.{plain-append, regroup, Matches-append, Matches-seen, next-append, bind_ok, bind_err, done, ok_is, Stuck, Part}
use Rattle.parser_combinators.proofs.Choice.{chosen, clash}

-- how a list may go on: by one more, and by what its last one may go on with
abbrev pub list_on : {A : Type 0} → (Kind → Bool) → (A → Kind → Bool) → List A → Kind → Bool
list_on starts on [] k = starts k
list_on starts on (x ∷ []) k = on x k || starts k
list_on starts on (x ∷ (y ∷ ys)) k = list_on starts on (y ∷ ys) k

pub list_on_tail : {A : Type 0} (starts : Kind → Bool) (on : A → Kind → Bool) (x : A) (xs : List A) (k : Kind) → list_on starts on (x ∷ xs) k ≡ false → list_on starts on xs k ≡ false
list_on_tail starts on x [] k h = (or_parts (on x k) (starts k) h).1
list_on_tail starts on x (y ∷ ys) k h = h

pub list_on_false : {A : Type 0} (starts : Kind → Bool) (on : A → Kind → Bool) (xs : List A) (k : Kind) → starts k ≡ false → ((x : A) → on x k ≡ false) → list_on starts on xs k ≡ false
list_on_false starts on [] k h f = h
list_on_false starts on (x ∷ []) k h f = or_from (on x k) (starts k) (f x) h
list_on_false starts on (x ∷ (y ∷ ys)) k h f = list_on_false starts on (y ∷ ys) k h f

pub Matches-shorter : (xs : List Spelt) (ws rest : List Token) → Matches xs ws rest → length rest + length xs ≡ length ws
Matches-shorter [] ws rest h = omega (arith, ap length h)
Matches-shorter (x ∷ xs) [] rest h = absurd h
Matches-shorter (x ∷ xs) (t ∷ ts) rest h = omega (arith, Matches-shorter xs ts rest h.2)

pub not_empty : (starts : Kind → Bool) (xs : List Spelt) → starts kind.Nothing ≡ false → starts (next (plain xs ++ [])) ≡ true → 1 ≤ length xs
not_empty starts [] off so = let bad : true ≡ false = sym so ∙ off in absurd (cc bad)
not_empty starts (x ∷ xs) off so = omega arith

module _ {A : Type 0} {SA : A → A → Type 0} {FA : A → Type 0} {pA : A → List Spelt} {rA : List Token → Read A} {oA : A → Kind → Bool} (starts : Kind → Bool) (P : Part SA FA pA rA oA)
    (begins : (a : A) (u : List Symbol) → FA a → starts (next (plain (pA a) ++ u)) ≡ true)
    (first : (a b : A) (u : List Symbol) → FA a → FA b → oA a (next (plain (pA b) ++ u)) ≡ false)
    (not_end : starts kind.Nothing ≡ false) where
  head_on : (x : A) (xs : List A) (u : List Symbol) → FA x → AllByRecursion FA xs → list_on starts oA (x ∷ xs) (next u) ≡ false → oA x (next (plain (each pA xs) ++ u)) ≡ false
  head_on x [] u f g h = (or_parts (oA x (next u)) (starts (next u)) h).0
  head_on x (y ∷ ys) u f g h = ap (λ (t : List Symbol). oA x (next t)) (regroup (pA y) (each pA ys) u) ∙ first x y (plain (each pA ys) ++ u) f g.0

  many_ok : (n : ℕ) (ws : List Token) (xs : List A) (rest : List Token) → length ws ≤ n → times starts rA n ws ≡ Ok (xs, rest) → Matches (each pA xs) ws rest × (list_on starts oA xs (next (seen rest)) ≡ false) × AllByRecursion FA xs
  unfolding times
  many_ok zero ws xs rest le e =
      let made : List A × List Token = ([], ws) in
      let empty : ws ≡ [] = nil_from_length ws (omega arith) in
      subst (λ (z : List A × List Token). Matches (each pA z.0) ws z.1 × (list_on starts oA z.0 (next (seen z.1)) ≡ false) × AllByRecursion FA z.0) (ok_is made (xs, rest) e) (refl, ap (λ (t : List Token). starts (next (seen t))) empty ∙ not_end, tt)
  many_ok (suc n) ws xs rest le e =
      elim (chosen (starts (next (seen ws))) (rA ws >>= λ x. times starts rA n x.1 >>= λ y. Ok (x.0 ∷ y.0, y.1)) (Ok ([], ws)) (done (xs, rest)) e) [
        | inl h ↦
            let x = bind_ok (rA ws) (λ x. times starts rA n x.1 >>= λ y. done (x.0 ∷ y.0, y.1)) (xs, rest) h.1 in
            let y = bind_ok (times starts rA n x.0.1) (λ y. done (x.0.0 ∷ y.0, y.1)) (xs, rest) x.2 in
            let a = P.ok ws x.0.0 x.0.1 x.1 in
            let shorter : length x.0.1 ≤ n = omega (arith, Matches-shorter (pA x.0.0) ws x.0.1 a.0, not_empty starts (pA x.0.0) not_end (begins x.0.0 [] a.2)) in
            let b = many_ok n x.0.1 y.0.0 y.0.1 shorter y.1 in
            let made : List A × List Token = (x.0.0 ∷ y.0.0, y.0.1) in
            subst (λ (z : List A × List Token). Matches (each pA z.0) ws z.1 × (list_on starts oA z.0 (next (seen z.1)) ≡ false) × AllByRecursion FA z.0) (ok_is made (xs, rest) y.2)
            (Matches-append (pA x.0.0) (each pA y.0.0) ws x.0.1 y.0.1 a.0 b.0, last x.0.0 y.0.0 x.0.1 y.0.1 a.1 b.0 b.1, (a.2, b.2))
        | inr h ↦
            let made : List A × List Token = ([], ws) in
            subst (λ (z : List A × List Token). Matches (each pA z.0) ws z.1 × (list_on starts oA z.0 (next (seen z.1)) ≡ false) × AllByRecursion FA z.0) (ok_is made (xs, rest) h.1) (refl, h.0, tt)
      ]
    where
      last : (x : A) (xs : List A) (mid rest : List Token) → oA x (next (seen mid)) ≡ false → Matches (each pA xs) mid rest → list_on starts oA xs (next (seen rest)) ≡ false → list_on starts oA (x ∷ xs) (next (seen rest)) ≡ false
      last x [] mid rest h m k = or_from (oA x (next (seen rest))) (starts (next (seen rest))) (ap (λ (t : List Token). oA x (next (seen t))) (sym m) ∙ h) k
      last x (y ∷ ys) mid rest h m k = k

  dead_here : (ws : List Symbol) (n : ℕ) (s : Stuck FA pA oA ws n) → starts (next ws) ≡ true → (a : List A) (t u : List Symbol) → AllByRecursion FA a → next t ≡ next s.rest → list_on starts oA a (next u) ≡ false → s.front ++ t ≡ plain (each pA a) ++ u → ⊥
  dead_here ws n s so (x ∷ xs) t u f nt ou e = s.dead x t (plain (each pA xs) ++ u) f.0 nt (head_on x xs u f.0 f.1 ou) (e ∙ regroup (pA x) (each pA xs) u)
  dead_here ws n s so [] t u f nt ou e = clash (starts (next ws)) (starts (next u)) so ou (ap (λ (x : List Symbol). starts (next x)) s.parts ∙ ap starts (sym (next-append s.front t s.rest nt)) ∙ ap (λ (x : List Symbol). starts (next x)) e)

  dead_later : (x : A) (ws : List Symbol) (n : ℕ) (s : Stuck (AllByRecursion FA) (each pA) (list_on starts oA) ws n) → FA x → oA x (next ws) ≡ false
      → (a : List A) (t u : List Symbol) → AllByRecursion FA a → next t ≡ next s.rest → list_on starts oA a (next u) ≡ false → (plain (pA x) ++ s.front) ++ t ≡ plain (each pA a) ++ u → ⊥
  dead_later x ws n s fx closed (y ∷ ys) t u f nt ou e =
      let same_next : next (s.front ++ t) ≡ next ws = next-append s.front t s.rest nt ∙ ap next (sym s.parts) in
      let q = P.one x y (s.front ++ t) (plain (each pA ys) ++ u) fx f.0 (ap (oA x) same_next ∙ closed) (head_on y ys u f.0 f.1 ou) (sym (append_assoc (plain (pA x)) s.front t) ∙ e ∙ regroup (pA y) (each pA ys) u) in
      s.dead ys t u f.1 nt (list_on_tail starts oA y ys (next u) ou) q.1
  dead_later x ws n s fx closed [] t u f nt ou e = clash (starts (next (plain (pA x) ++ (s.front ++ t)))) (starts (next u)) (begins x (s.front ++ t) fx) ou (ap (λ (z : List Symbol). starts (next z)) (sym (append_assoc (plain (pA x)) s.front t) ∙ e))

  many_err : (n : ℕ) (ws : List Token) (m : ℕ) → times starts rA n ws ≡ Err m → Stuck (AllByRecursion FA) (each pA) (list_on starts oA) (seen ws) m
  unfolding times
  many_err zero ws m e = absurd cc
  many_err (suc n) ws m e =
      elim (chosen (starts (next (seen ws))) (rA ws >>= λ x. times starts rA n x.1 >>= λ y. Ok (x.0 ∷ y.0, y.1)) (Ok ([], ws)) (Err m) e) [
        | inl h ↦ elim (bind_err (rA ws) (λ x. times starts rA n x.1 >>= λ y. done (x.0 ∷ y.0, y.1)) m h.1) [
          | inl k ↦
              let s = P.err ws m k in
              record {
                front = s.front;
                rest = s.rest;
                parts = s.parts;
                left = s.left;
                tree = s.tree ∷ [];
                more = s.more;
                fits = (s.fits, tt);
                viable = plain-append (pA s.tree) [] ∙ append-nil (plain (pA s.tree)) ∙ s.viable;
                proper = s.proper;
                dead = dead_here (seen ws) m s h.0;
              }
          | inr k ↦
              let x = k.0 in
              let a = P.ok ws x.0 x.1 k.1 in
              elim (bind_err (times starts rA n x.1) (λ y. done (x.0 ∷ y.0, y.1)) m k.2) [
                | inl l ↦
                    let s = many_err n x.1 m l in
                    let start = Matches-seen (pA x.0) ws x.1 a.0 in
                    record {
                      front = plain (pA x.0) ++ s.front;
                      rest = s.rest;
                      parts = start ∙ ap (λ (t : List Symbol). plain (pA x.0) ++ t) s.parts ∙ sym (append_assoc (plain (pA x.0)) s.front s.rest);
                      left = s.left;
                      tree = x.0 ∷ s.tree;
                      more = s.more;
                      fits = (a.2, s.fits);
                      proper = s.proper;
                      viable = plain-append (pA x.0) (each pA s.tree) ∙ ap (λ (t : List Symbol). plain (pA x.0) ++ t) s.viable ∙ sym (append_assoc (plain (pA x.0)) s.front s.more);
                      dead = dead_later x.0 (seen x.1) m s a.2 a.1;
                    }
                | inr l ↦ absurd (cc l.2)
              ]
        ]
        | inr h ↦ absurd (cc h.1)
      ]

  many_one : (a b : List A) (u v : List Symbol) → AllByRecursion FA a → AllByRecursion FA b → list_on starts oA a (next u) ≡ false → list_on starts oA b (next v) ≡ false → plain (each pA a) ++ u ≡ plain (each pA b) ++ v → AllSame SA a b × (u ≡ v)
  many_one [] [] u v f g ou ov e = (tt, e)
  many_one (x ∷ xs) (y ∷ ys) u v f g ou ov e =
      let p = P.one x y (plain (each pA xs) ++ u) (plain (each pA ys) ++ v) f.0 g.0 (head_on x xs u f.0 f.1 ou) (head_on y ys v g.0 g.1 ov) (sym (regroup (pA x) (each pA xs) u) ∙ e ∙ regroup (pA y) (each pA ys) v) in
      let q = many_one xs ys u v f.1 g.1 (list_on_tail starts oA x xs (next u) ou) (list_on_tail starts oA y ys (next v) ov) p.1 in
      ((p.0, q.0), q.1)
  many_one (x ∷ xs) [] u v f g ou ov e = clash (starts (next (plain (pA x) ++ (plain (each pA xs) ++ u)))) (starts (next v)) (begins x (plain (each pA xs) ++ u) f.0) ov (ap (λ (z : List Symbol). starts (next z)) (sym (regroup (pA x) (each pA xs) u) ∙ e))
  many_one [] (y ∷ ys) u v f g ou ov e = clash (starts (next (plain (pA y) ++ (plain (each pA ys) ++ v)))) (starts (next u)) (begins y (plain (each pA ys) ++ v) g.0) ou (ap (λ (z : List Symbol). starts (next z)) (sym (regroup (pA y) (each pA ys) v) ∙ sym e))

  pub many_part : Part (AllSame SA) (AllByRecursion FA) (each pA) (many starts rA) (list_on starts oA)
  many_part = record {
    ok = λ ws xs rest e. many_ok (length ws) ws xs rest (omega arith) e;
    err = λ ws n e. many_err (length ws) ws n e;
    one = many_one;
    some = [];
    some_fits = tt;
    some_words = tt;
  }
