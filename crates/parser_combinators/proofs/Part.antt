-- What is known of a part of the grammar, and how parts are put together.
use Rattle.std.proofs.Common.{◌≡◌, ℕ, suc, Bool, false, List, [], ◌∷◌, ◌++◌, length, Result, Ok, Err, ◌⊎◌, inl, inr, refl, sym, ap, subst, ◌∙◌, append_assoc}
use Rattle.parser_combinators.specs.declared.token.Symbol.{Symbol}
use Rattle.parser_combinators.specs.declared.token.Token.{Token}
use Rattle.parser_combinators.specs.declared.token.Kind.{Kind}
use Rattle.parser_combinators.specs.Words.{next, seen, Spelt, plain, Matches, with_place}
use Rattle.parser_combinators.specs.Texts.{AreWords}
use Rattle.parser_combinators.specs.Read.{Read, ◌>>=◌, mapped, both, placed, place_of}

-- ---- lists of words

pub plain-append : (xs ys : List Spelt) → plain (xs ++ ys) ≡ plain xs ++ plain ys
plain-append [] ys = refl
plain-append (x ∷ xs) ys = ap (λ (t : List Symbol). x.symbol ∷ t) (plain-append xs ys)

pub Matches-append : (xs ys : List Spelt) (a b c : List Token) → Matches xs a b → Matches ys b c → Matches (xs ++ ys) a c
Matches-append [] ys a b c h k = subst (λ (t : List Token). Matches ys t c) (sym h) k
Matches-append (x ∷ xs) ys [] b c h k = absurd h
Matches-append (x ∷ xs) ys (t ∷ ts) b c h k = (h.0, h.1, Matches-append xs ys ts b c h.2 k)

pub Matches-seen : (xs : List Spelt) (ts rest : List Token) → Matches xs ts rest → seen ts ≡ plain xs ++ seen rest
Matches-seen [] ts rest h = ap seen h
Matches-seen (x ∷ xs) [] rest h = absurd h
Matches-seen (x ∷ xs) (t ∷ ts) rest h = λ i. h.0 i ∷ Matches-seen xs ts rest h.2 i

pub length-seen : (ts : List Token) → length (seen ts) ≡ length ts
length-seen [] = refl
length-seen (t ∷ ts) = ap suc (length-seen ts)

-- the first word of a list does not depend on what is behind it
pub next-append : (xs t r : List Symbol) → next t ≡ next r → next (xs ++ t) ≡ next (xs ++ r)
next-append [] t r h = h
next-append (x ∷ xs) t r h = refl

-- words of words
pub AreWords-append : (xs ys : List Symbol) → AreWords xs → AreWords ys → AreWords (xs ++ ys)
AreWords-append [] ys h k = k
AreWords-append (x ∷ xs) ys h k = (h.0, AreWords-append xs ys h.1 k)

pub AreWords-plain : (xs ys : List Spelt) → AreWords (plain xs) → AreWords (plain ys) → AreWords (plain (xs ++ ys))
AreWords-plain xs ys h k = subst AreWords (sym (plain-append xs ys)) (AreWords-append (plain xs) (plain ys) h k)

-- ---- results

pub bind_ok : {A B : Type 0} (r : Result A ℕ) (f : A → Result B ℕ) (y : B) → (r >>= f) ≡ Ok y → (x : A) × (r ≡ Ok x) × (f x ≡ Ok y)
bind_ok (Ok x) f y e = (x, refl, e)
bind_ok (Err d) f y e = absurd cc

pub bind_err : {A B : Type 0} (r : Result A ℕ) (f : A → Result B ℕ) (n : ℕ) → (r >>= f) ≡ Err n → (r ≡ Err n) ⊎ ((x : A) × (r ≡ Ok x) × (f x ≡ Err n))
bind_err (Ok x) f n e = inr (x, refl, e)
bind_err (Err d) f n e = inl cc

abbrev pub done : {A : Type 0} → A → Result A ℕ
done x = Ok x

pub ok_is : {A : Type 0} (x y : A) → done x ≡ done y → x ≡ y
ok_is x y e = cc

-- ---- parts

-- Where reading stops: front begins a spelling, and with the word after it none goes on.
pub record Stuck {A : Type 0} (Fits : A → Type 0) (spelled : A → List Spelt) (on : A → Kind → Bool) (ws : List Symbol) (n : ℕ) : Type 0 where
  pub front : List Symbol
  pub rest : List Symbol
  pub parts : ws ≡ front ++ rest
  pub left : n ≡ length rest
  pub tree : A
  pub more : List Symbol
  pub fits : Fits tree
  pub viable : plain (spelled tree) ≡ front ++ more
  pub proper : AreWords more
  pub dead : (a : A) (t u : List Symbol) → Fits a → next t ≡ next rest → on a (next u) ≡ false → front ++ t ≡ plain (spelled a) ++ u → ⊥

-- on: the words by which the spelling of a tree may go on after it is whole
pub record Part {A : Type 0} (Same : A → A → Type 0) (Fits : A → Type 0) (spelled : A → List Spelt) (read : List Token → Read A) (on : A → Kind → Bool) : Type 0 where
  pub ok : (ws : List Token) (a : A) (rest : List Token) → read ws ≡ Ok (a, rest) → Matches (spelled a) ws rest × (on a (next (seen rest)) ≡ false) × Fits a
  pub err : (ws : List Token) (n : ℕ) → read ws ≡ Err n → Stuck Fits spelled on (seen ws) n
  pub one : (a b : A) (u v : List Symbol) → Fits a → Fits b → on a (next u) ≡ false → on b (next v) ≡ false → plain (spelled a) ++ u ≡ plain (spelled b) ++ v → Same a b × (u ≡ v)
  pub some : A
  pub some_fits : Fits some
  pub some_words : AreWords (plain (spelled some))

pub regroup : (xs ys : List Spelt) (u : List Symbol) → plain (xs ++ ys) ++ u ≡ plain xs ++ (plain ys ++ u)
regroup xs ys u = ap (λ (t : List Symbol). t ++ u) (plain-append xs ys) ∙ append_assoc (plain xs) (plain ys) u

-- ---- one after the other

-- what may follow, where the second part may be empty too
pub record Joins {A B : Type 0} (FA : A → Type 0) (oA : A → Kind → Bool) (FB : B → Type 0) (pB : B → List Spelt) (oB : B → Kind → Bool) (on : A × B → Kind → Bool) : Type 0 where
  pub second : (a : A) (b : B) (k : Kind) → on (a, b) k ≡ false → oB b k ≡ false
  pub first : (a : A) (b : B) (u : List Symbol) → FA a → FB b → on (a, b) (next u) ≡ false → oA a (next (plain (pB b) ++ u)) ≡ false
  pub end : (a : A) (b : B) (u : List Symbol) → oA a (next (plain (pB b) ++ u)) ≡ false → oB b (next u) ≡ false → on (a, b) (next u) ≡ false

pub both_part : {A B : Type 0} {SA : A → A → Type 0} {FA : A → Type 0} {pA : A → List Spelt} {rA : List Token → Read A} {oA : A → Kind → Bool} {SB : B → B → Type 0} {FB : B → Type 0} {pB : B → List Spelt} {rB : List Token → Read B} {oB : B → Kind → Bool}
    → (on : A × B → Kind → Bool) → Part SA FA pA rA oA → Part SB FB pB rB oB → Joins FA oA FB pB oB on
    → Part (λ x y. SA x.0 y.0 × SB x.1 y.1) (λ x. FA x.0 × FB x.1) (λ x. pA x.0 ++ pB x.1) (both rA rB) on
both_part {A} {B} {SA} {FA} {pA} {rA} {oA} {SB} {FB} {pB} {rB} {oB} on P Q j = record {
  ok = λ ws p rest e.
      let x = bind_ok (rA ws) (λ x. rB x.1 >>= λ y. Ok ((x.0, y.0), y.1)) (p, rest) e in
      let y = bind_ok (rB x.0.1) (λ y. Ok ((x.0.0, y.0), y.1)) (p, rest) x.2 in
      let a = P.ok ws x.0.0 x.0.1 x.1 in
      let b = Q.ok x.0.1 y.0.0 y.0.1 y.1 in
      let mid = Matches-seen (pB y.0.0) x.0.1 y.0.1 b.0 in
      let closed : oA x.0.0 (next (plain (pB y.0.0) ++ seen y.0.1)) ≡ false = ap (λ (t : List Symbol). oA x.0.0 (next t)) (sym mid) ∙ a.1 in
      let made : (A × B) × List Token = ((x.0.0, y.0.0), y.0.1) in
      subst (λ (z : (A × B) × List Token). Matches (pA z.0.0 ++ pB z.0.1) ws z.1 × (on z.0 (next (seen z.1)) ≡ false) × (FA z.0.0 × FB z.0.1)) (ok_is made (p, rest) y.2)
      (Matches-append (pA x.0.0) (pB y.0.0) ws x.0.1 y.0.1 a.0 b.0, j.end x.0.0 y.0.0 (seen y.0.1) closed b.1, (a.2, b.2));
  err = λ ws n e. elim (bind_err (rA ws) (λ x. rB x.1 >>= λ y. Ok ((x.0, y.0), y.1)) n e) [
    | inl h ↦
        let s = P.err ws n h in
        record {
          front = s.front;
          rest = s.rest;
          parts = s.parts;
          left = s.left;
          tree = (s.tree, Q.some);
          more = s.more ++ plain (pB Q.some);
          fits = (s.fits, Q.some_fits);
          viable = plain-append (pA s.tree) (pB Q.some) ∙ ap (λ (t : List Symbol). t ++ plain (pB Q.some)) s.viable ∙ append_assoc s.front s.more (plain (pB Q.some));
          proper = AreWords-append s.more (plain (pB Q.some)) s.proper Q.some_words;
          dead = λ x t u f nt ou e. s.dead x.0 t (plain (pB x.1) ++ u) f.0 nt (j.first x.0 x.1 u f.0 f.1 ou) (e ∙ regroup (pA x.0) (pB x.1) u);
        }
    | inr h ↦
        let x = h.0 in
        let a = P.ok ws x.0 x.1 h.1 in
        elim (bind_err (rB x.1) (λ y. Ok ((x.0, y.0), y.1)) n h.2) [
          | inl k ↦
              let s = Q.err x.1 n k in
              let start = Matches-seen (pA x.0) ws x.1 a.0 in
              record {
                front = plain (pA x.0) ++ s.front;
                rest = s.rest;
                parts = start ∙ ap (λ (t : List Symbol). plain (pA x.0) ++ t) s.parts ∙ sym (append_assoc (plain (pA x.0)) s.front s.rest);
                left = s.left;
                tree = (x.0, s.tree);
                more = s.more;
                fits = (a.2, s.fits);
                viable = plain-append (pA x.0) (pB s.tree) ∙ ap (λ (t : List Symbol). plain (pA x.0) ++ t) s.viable ∙ sym (append_assoc (plain (pA x.0)) s.front s.more);
                proper = s.proper;
                dead = λ y t u f nt ou e.
                    let same_next : next (s.front ++ t) ≡ next (seen x.1) = next-append s.front t s.rest nt ∙ ap next (sym s.parts) in
                    let closed : oA x.0 (next (s.front ++ t)) ≡ false = ap (oA x.0) same_next ∙ a.1 in
                    let q = P.one x.0 y.0 (s.front ++ t) (plain (pB y.1) ++ u) a.2 f.0 closed (j.first y.0 y.1 u f.0 f.1 ou) (sym (append_assoc (plain (pA x.0)) s.front t) ∙ e ∙ regroup (pA y.0) (pB y.1) u) in
                    s.dead y.1 t u f.1 nt (j.second y.0 y.1 (next u) ou) q.1;
              }
          | inr k ↦ let no : done ((x.0, k.0.0), k.0.1) ≡ Err n = k.2 in absurd (cc no)
        ]
  ];
  one = λ x y u v f g ou ov e.
      let p = P.one x.0 y.0 (plain (pB x.1) ++ u) (plain (pB y.1) ++ v) f.0 g.0 (j.first x.0 x.1 u f.0 f.1 ou) (j.first y.0 y.1 v g.0 g.1 ov) (sym (regroup (pA x.0) (pB x.1) u) ∙ e ∙ regroup (pA y.0) (pB y.1) v) in
      let q = Q.one x.1 y.1 u v f.1 g.1 (j.second x.0 x.1 (next u) ou) (j.second y.0 y.1 (next v) ov) p.1 in
      ((p.0, q.0), q.1);
  some = (P.some, Q.some);
  some_fits = (P.some_fits, Q.some_fits);
  some_words = AreWords-plain (pA P.some) (pB Q.some) P.some_words Q.some_words;
}

-- where the second part is never empty
pub then_part : {A B : Type 0} {SA : A → A → Type 0} {FA : A → Type 0} {pA : A → List Spelt} {rA : List Token → Read A} {oA : A → Kind → Bool} {SB : B → B → Type 0} {FB : B → Type 0} {pB : B → List Spelt} {rB : List Token → Read B} {oB : B → Kind → Bool}
    → Part SA FA pA rA oA → Part SB FB pB rB oB → ((a : A) (b : B) (u : List Symbol) → FA a → FB b → oB b (next u) ≡ false → oA a (next (plain (pB b) ++ u)) ≡ false)
    → Part (λ x y. SA x.0 y.0 × SB x.1 y.1) (λ x. FA x.0 × FB x.1) (λ x. pA x.0 ++ pB x.1) (both rA rB) (λ x. oB x.1)
then_part {oB = oB} P Q first = both_part (λ x. oB x.1) P Q (record { second = λ a b k h. h; first = first; end = λ a b u h k. k })

-- ---- another type of trees

pub record Maps {A B : Type 0} (SA : A → A → Type 0) (FA : A → Type 0) (pA : A → List Spelt) (oA : A → Kind → Bool) (SB : B → B → Type 0) (FB : B → Type 0) (pB : B → List Spelt) (oB : B → Kind → Bool) (to : A → B) (back : B → A) : Type 0 where
  pub moves : (a : A) (ws rest : List Token) → FA a → Matches (pA a) ws rest → Matches (pB (to a)) ws rest
  pub words : (a : A) → FA a → plain (pB (to a)) ≡ plain (pA a)
  pub fits : (a : A) → FA a → FB (to a)
  pub on_to : (a : A) (k : Kind) → FA a → oA a k ≡ false → oB (to a) k ≡ false
  pub back_words : (b : B) → FB b → plain (pA (back b)) ≡ plain (pB b)
  pub back_fits : (b : B) → FB b → FA (back b)
  pub back_on : (b : B) (k : Kind) → FB b → oB b k ≡ false → oA (back b) k ≡ false
  pub same : (b c : B) → FB b → FB c → SA (back b) (back c) → SB b c

pub mapped_part : {A B : Type 0} {SA : A → A → Type 0} {FA : A → Type 0} {pA : A → List Spelt} {rA : List Token → Read A} {oA : A → Kind → Bool} {SB : B → B → Type 0} {FB : B → Type 0} {pB : B → List Spelt} {oB : B → Kind → Bool}
    → (to : A → B) (back : B → A) → Part SA FA pA rA oA → Maps SA FA pA oA SB FB pB oB to back → Part SB FB pB (mapped to rA) oB
mapped_part {A} {B} {SA} {FA} {pA} {rA} {oA} {SB} {FB} {pB} {oB} to back P m = record {
  ok = λ ws b rest e.
      let x = bind_ok (rA ws) (λ x. Ok (to x.0, x.1)) (b, rest) e in
      let a = P.ok ws x.0.0 x.0.1 x.1 in
      let made : B × List Token = (to x.0.0, x.0.1) in
      subst (λ (z : B × List Token). Matches (pB z.0) ws z.1 × (oB z.0 (next (seen z.1)) ≡ false) × FB z.0) (ok_is made (b, rest) x.2)
      (m.moves x.0.0 ws x.0.1 a.2 a.0, m.on_to x.0.0 (next (seen x.0.1)) a.2 a.1, m.fits x.0.0 a.2);
  err = λ ws n e. elim (bind_err (rA ws) (λ x. Ok (to x.0, x.1)) n e) [
    | inl h ↦
        let s = P.err ws n h in
        record {
          front = s.front;
          rest = s.rest;
          parts = s.parts;
          left = s.left;
          tree = to s.tree;
          more = s.more;
          fits = m.fits s.tree s.fits;
          viable = m.words s.tree s.fits ∙ s.viable;
          proper = s.proper;
          dead = λ b t u f nt ou e. s.dead (back b) t u (m.back_fits b f) nt (m.back_on b (next u) f ou) (e ∙ ap (λ (x : List Symbol). x ++ u) (sym (m.back_words b f)));
        }
    | inr h ↦ let no : done (to h.0.0, h.0.1) ≡ Err n = h.2 in absurd (cc no)
  ];
  one = λ b c u v f g ou ov e.
      let q = P.one (back b) (back c) u v (m.back_fits b f) (m.back_fits c g) (m.back_on b (next u) f ou) (m.back_on c (next v) g ov) (ap (λ (x : List Symbol). x ++ u) (m.back_words b f) ∙ e ∙ ap (λ (x : List Symbol). x ++ v) (sym (m.back_words c g))) in
      (m.same b c f g q.0, q.1);
  some = to P.some;
  some_fits = m.fits P.some P.some_fits;
  some_words = subst AreWords (sym (m.words P.some P.some_fits)) P.some_words;
}

-- the same, where the two have the same spelling
pub record Shapes {A B : Type 0} (SA : A → A → Type 0) (FA : A → Type 0) (pA : A → List Spelt) (oA : A → Kind → Bool) (SB : B → B → Type 0) (FB : B → Type 0) (pB : B → List Spelt) (oB : B → Kind → Bool) (to : A → B) (back : B → A) : Type 0 where
  pub spelled : (a : A) → FA a → pA a ≡ pB (to a)
  pub fits : (a : A) → FA a → FB (to a)
  pub on_to : (a : A) (k : Kind) → FA a → oA a k ≡ false → oB (to a) k ≡ false
  pub back_spelled : (b : B) → FB b → pA (back b) ≡ pB b
  pub back_fits : (b : B) → FB b → FA (back b)
  pub back_on : (b : B) (k : Kind) → FB b → oB b k ≡ false → oA (back b) k ≡ false
  pub same : (b c : B) → FB b → FB c → SA (back b) (back c) → SB b c

pub shaped_part : {A B : Type 0} {SA : A → A → Type 0} {FA : A → Type 0} {pA : A → List Spelt} {rA : List Token → Read A} {oA : A → Kind → Bool} {SB : B → B → Type 0} {FB : B → Type 0} {pB : B → List Spelt} {oB : B → Kind → Bool}
    → (to : A → B) (back : B → A) → Part SA FA pA rA oA → Shapes SA FA pA oA SB FB pB oB to back → Part SB FB pB (mapped to rA) oB
shaped_part to back P m = mapped_part to back P (record {
  moves = λ a ws rest f h. subst (λ (x : List Spelt). Matches x ws rest) (m.spelled a f) h;
  words = λ a f. ap plain (sym (m.spelled a f));
  fits = m.fits;
  on_to = m.on_to;
  back_words = λ b f. ap plain (m.back_spelled b f);
  back_fits = m.back_fits;
  back_on = m.back_on;
  same = m.same;
})

-- the same, where each tree comes from one of the first type
pub record Views {A B : Type 0} (SA : A → A → Type 0) (FA : A → Type 0) (pA : A → List Spelt) (oA : A → Kind → Bool) (SB : B → B → Type 0) (FB : B → Type 0) (pB : B → List Spelt) (oB : B → Kind → Bool) (to : A → B) (back : B → A) : Type 0 where
  pub spelled : (a : A) → FA a → pA a ≡ pB (to a)
  pub fits : (a : A) → FA a → FB (to a)
  pub on_to : (a : A) (k : Kind) → FA a → oA a k ≡ oB (to a) k
  pub same : (a b : A) → SA a b → SB (to a) (to b)
  pub to_back : (b : B) → FB b → to (back b) ≡ b
  pub back_fits : (b : B) → FB b → FA (back b)

pub viewed_part : {A B : Type 0} {SA : A → A → Type 0} {FA : A → Type 0} {pA : A → List Spelt} {rA : List Token → Read A} {oA : A → Kind → Bool} {SB : B → B → Type 0} {FB : B → Type 0} {pB : B → List Spelt} {oB : B → Kind → Bool}
    → (to : A → B) (back : B → A) → Part SA FA pA rA oA → Views SA FA pA oA SB FB pB oB to back → Part SB FB pB (mapped to rA) oB
viewed_part {A} {B} {SA} {FA} {pA} {rA} {oA} {SB} {FB} {pB} {oB} to back P m = shaped_part to back P (record {
  spelled = m.spelled;
  fits = m.fits;
  on_to = λ a k f h. sym (m.on_to a k f) ∙ h;
  back_spelled = λ b f. m.spelled (back b) (m.back_fits b f) ∙ ap pB (m.to_back b f);
  back_fits = m.back_fits;
  back_on = λ b k f h. m.on_to (back b) k (m.back_fits b f) ∙ ap (λ (x : B). oB x k) (m.to_back b f) ∙ h;
  same = λ b c f g h. subst (λ (x : B). SB b x) (m.to_back c g) (subst (λ (x : B). SB x (to (back c))) (m.to_back b f) (m.same (back b) (back c) h));
})

-- the same trees, said otherwise
pub fits_part : {A : Type 0} {SA : A → A → Type 0} {FA FB : A → Type 0} {pA : A → List Spelt} {rA : List Token → Read A} {oA : A → Kind → Bool} → Part SA FA pA rA oA → ((a : A) → FA a → FB a) → ((a : A) → FB a → FA a) → Part SA FB pA rA oA
fits_part P there back = record {
  ok = λ ws a rest e. let x = P.ok ws a rest e in (x.0, x.1, there a x.2);
  err = λ ws n e. let s = P.err ws n e in record { front = s.front; rest = s.rest; parts = s.parts; left = s.left; tree = s.tree; more = s.more; fits = there s.tree s.fits; viable = s.viable; proper = s.proper; dead = λ a t u f nt ou e. s.dead a t u (back a f) nt ou e };
  one = λ a b u v f g ou ov e. P.one a b u v (back a f) (back b g) ou ov e;
  some = P.some;
  some_fits = there P.some P.some_fits;
  some_words = P.some_words;
}

-- ---- with the place of the first word

pub plain-with_place : (w : ℕ) (xs : List Spelt) → plain (with_place w xs) ≡ plain xs
plain-with_place w [] = refl
plain-with_place w (x ∷ xs) = refl

Matches-with_place : (xs : List Spelt) (ws rest : List Token) → Matches xs ws rest → Matches (with_place (place_of ws) xs) ws rest
Matches-with_place [] ws rest h = h
Matches-with_place (x ∷ xs) [] rest h = absurd h
Matches-with_place (x ∷ xs) (t ∷ ts) rest h = (h.0, (refl, h.1), h.2)

pub placed_part : {A : Type 0} {SA : A → A → Type 0} {FA : A → Type 0} {pA : A → List Spelt} {rA : List Token → Read A} {oA : A → Kind → Bool} → Part SA FA pA rA oA
    → Part (λ x y. SA x.1 y.1) (λ x. FA x.1) (λ x. with_place x.0 (pA x.1)) (placed rA) (λ x. oA x.1)
placed_part {A} {SA} {FA} {pA} {rA} {oA} P = record {
  ok = λ ws p rest e.
      let x = bind_ok (rA ws) (λ x. Ok ((place_of ws, x.0), x.1)) (p, rest) e in
      let a = P.ok ws x.0.0 x.0.1 x.1 in
      let made : (ℕ × A) × List Token = ((place_of ws, x.0.0), x.0.1) in
      subst (λ (z : (ℕ × A) × List Token). Matches (with_place z.0.0 (pA z.0.1)) ws z.1 × (oA z.0.1 (next (seen z.1)) ≡ false) × FA z.0.1) (ok_is made (p, rest) x.2)
      (Matches-with_place (pA x.0.0) ws x.0.1 a.0, a.1, a.2);
  err = λ ws n e. elim (bind_err (rA ws) (λ x. Ok ((place_of ws, x.0), x.1)) n e) [
    | inl h ↦
        let s = P.err ws n h in
        record {
          front = s.front;
          rest = s.rest;
          parts = s.parts;
          left = s.left;
          tree = (0, s.tree);
          more = s.more;
          fits = s.fits;
          viable = plain-with_place 0 (pA s.tree) ∙ s.viable;
          proper = s.proper;
          dead = λ b t u f nt ou e. s.dead b.1 t u f nt ou (e ∙ ap (λ (x : List Symbol). x ++ u) (plain-with_place b.0 (pA b.1)));
        }
    | inr h ↦ let no : done ((place_of ws, h.0.0), h.0.1) ≡ Err n = h.2 in absurd (cc no)
  ];
  one = λ b c u v f g ou ov e. P.one b.1 c.1 u v f g ou ov (ap (λ (x : List Symbol). x ++ u) (sym (plain-with_place b.0 (pA b.1))) ∙ e ∙ ap (λ (x : List Symbol). x ++ v) (plain-with_place c.0 (pA c.1)));
  some = (0, P.some);
  some_fits = P.some_fits;
  some_words = subst AreWords (sym (plain-with_place 0 (pA P.some))) P.some_words;
}
