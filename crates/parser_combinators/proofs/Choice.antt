-- Words, choices, options and repetitions.
use Rattle.std.proofs.Common.{◌≡◌, ℕ, suc, Bool, true, false, cond, List, [], ◌∷◌, ◌++◌, length, Option, Some, None, Ok, Err, ◌⊎◌, inl, inr, refl, sym, ap, subst, ◌∙◌}
use Rattle.std.specs.List.{AllByRecursion}
use Rattle.std.proofs.lemmas.List.{append-nil}
use Rattle.parser_combinators.specs.declared.token.Symbol.{Symbol}
use Rattle.parser_combinators.specs.declared.token.Token.{Token}
use Rattle.parser_combinators.specs.declared.token.Kind.{Kind}
use Rattle.parser_combinators.specs.declared.token.Kind.TheVariants as kind
use Rattle.parser_combinators.specs.Texts.{IsWord, AreWords}
use Rattle.parser_combinators.specs.Words.{next, seen, kind_of, Spelt, plain, Matches}
use Rattle.parser_combinators.specs.Read.{Read, mapped, either, perhaps, only, word_at}
use Rattle.parser_combinators.proofs.Part.{Matches-seen, length-seen, next-append, bind_ok, bind_err, done, ok_is, Stuck, Part}

pub chosen : {A : Type 0} (b : Bool) (x y z : A) → cond b x y ≡ z → ((b ≡ true) × (x ≡ z)) ⊎ ((b ≡ false) × (y ≡ z))
chosen true x y z e = inl (refl, e)
chosen false x y z e = inr (refl, e)

pub clash : {A : Type 0} (b c : Bool) → b ≡ true → c ≡ false → b ≡ c → A
clash b c h k e = let off : true ≡ false = sym h ∙ e ∙ k in absurd (cc off)

-- ---- one word

pub record Words {A : Type 0} (Same : A → A → Type 0) (Fits : A → Type 0) (spelled : A → List Spelt) (right : Kind → Bool) (make : Token → A) (symbol_of : A → Symbol) (claims_of : A → List ℕ) : Type 0 where
  pub single : (a : A) → Fits a → spelled a ≡ record { symbol = symbol_of a; claims = claims_of a } ∷ []
  pub is_right : (a : A) → Fits a → right (kind_of (symbol_of a)) ≡ true
  pub symbol : (t : Token) → right (kind_of t.symbol) ≡ true → t.symbol ≡ symbol_of (make t)
  pub claims : (t : Token) → AllByRecursion (λ w. w ≡ t.word) (claims_of (make t))
  pub fits : (t : Token) → right (kind_of t.symbol) ≡ true → Fits (make t)
  pub same : (a b : A) → Fits a → Fits b → symbol_of a ≡ symbol_of b → Same a b
  pub not_end : right kind.Nothing ≡ false
  pub some : A
  pub some_fits : Fits some
  pub some_word : IsWord (symbol_of some)

abbrev never : {A : Type 0} → A → Kind → Bool
never a k = false

cons_is : (x y : Symbol) (xs ys : List Symbol) → x ∷ xs ≡ y ∷ ys → (x ≡ y) × (xs ≡ ys)
cons_is x y xs ys e = (cc, cc)

pub word_part : {A : Type 0} {Same : A → A → Type 0} {Fits : A → Type 0} {spelled : A → List Spelt} (right : Kind → Bool) (make : Token → A) (symbol_of : A → Symbol) (claims_of : A → List ℕ)
    → Words Same Fits spelled right make symbol_of claims_of → Part Same Fits spelled (word_at right make) (λ a k. false)
word_part {A} {Same} {Fits} {spelled} right make symbol_of claims_of w = record {
  ok = ok_at;
  err = err_at;
  one = λ a b u v f g ou ov e.
      let c = cons_is (symbol_of a) (symbol_of b) u v (sym (ap (λ (x : List Spelt). plain x ++ u) (w.single a f)) ∙ e ∙ ap (λ (x : List Spelt). plain x ++ v) (w.single b g)) in
      (w.same a b f g c.0, c.1);
  some = w.some;
  some_fits = w.some_fits;
  some_words = some_words;
}
  where
    some_words : AreWords (plain (spelled w.some))
    some_words = subst (λ (x : List Spelt). AreWords (plain x)) (sym (w.single w.some w.some_fits)) (w.some_word, tt)

    ok_at : (ws : List Token) (a : A) (rest : List Token) → word_at right make ws ≡ Ok (a, rest) → Matches (spelled a) ws rest × (false ≡ false) × Fits a
    ok_at [] a rest e = absurd cc
    ok_at (t ∷ ts) a rest e =
        elim (chosen (right (kind_of t.symbol)) (Ok (make t, ts)) (Err (suc (length ts))) (done (a, rest)) e) [
          | inl h ↦
              let made : A × List Token = (make t, ts) in
              subst (λ (z : A × List Token). Matches (spelled z.0) (t ∷ ts) z.1 × (false ≡ false) × Fits z.0) (ok_is made (a, rest) h.1)
              (subst (λ (x : List Spelt). Matches x (t ∷ ts) ts) (sym (w.single (make t) (w.fits t h.0))) (w.symbol t h.0, w.claims t, refl), refl, w.fits t h.0)
          | inr h ↦ absurd (cc h.1)
        ]

    dead_at : (k : Kind) → right k ≡ false → (a : A) (t u : List Symbol) → Fits a → next t ≡ k → t ≡ plain (spelled a) ++ u → ⊥
    dead_at k off a t u f nt e =
        let same_next : next t ≡ kind_of (symbol_of a) = ap next (e ∙ ap (λ (x : List Spelt). plain x ++ u) (w.single a f)) in
        clash (right (kind_of (symbol_of a))) (right k) (w.is_right a f) off (ap right (sym same_next ∙ nt))

    stuck_at : (ws : List Token) → right (next (seen ws)) ≡ false → Stuck Fits spelled (λ a k. false) (seen ws) (length ws)
    stuck_at ws off = record {
      front = [];
      rest = seen ws;
      parts = refl;
      left = sym (length-seen ws);
      tree = w.some;
      more = plain (spelled w.some);
      fits = w.some_fits;
      viable = refl;
      proper = some_words;
      dead = λ a t u f nt ou e. dead_at (next (seen ws)) off a t u f nt e;
    }

    err_at : (ws : List Token) (n : ℕ) → word_at right make ws ≡ Err n → Stuck Fits spelled (λ a k. false) (seen ws) n
    err_at [] n e = let at : 0 ≡ n = cc in subst (λ (m : ℕ). Stuck Fits spelled (λ a k. false) [] m) at (stuck_at [] w.not_end)
    err_at (t ∷ ts) n e =
        elim (chosen (right (kind_of t.symbol)) (Ok (make t, ts)) (Err (suc (length ts))) (Err n) e) [
          | inl h ↦ absurd (cc h.1)
          | inr h ↦ let at : suc (length ts) ≡ n = (cc h.1) in subst (λ (m : ℕ). Stuck Fits spelled (λ a k. false) (seen (t ∷ ts)) m) at (stuck_at (t ∷ ts) h.0)
        ]

-- ---- one or the other

abbrev pub sum_same : {A B : Type 0} → (A → A → Type 0) → (B → B → Type 0) → A ⊎ B → A ⊎ B → Type 0
sum_same SA SB (inl a) (inl b) = SA a b
sum_same SA SB (inl a) (inr b) = ⊥
sum_same SA SB (inr a) (inl b) = ⊥
sum_same SA SB (inr a) (inr b) = SB a b

abbrev pub sum_of {ℓ} : {A B : Type 0} {C : Type ℓ} → (A → C) → (B → C) → A ⊎ B → C
sum_of f g (inl a) = f a
sum_of f g (inr b) = g b

pub either_part : {A B : Type 0} {SA : A → A → Type 0} {FA : A → Type 0} {pA : A → List Spelt} {rA : List Token → Read A} {oA : A → Kind → Bool} {SB : B → B → Type 0} {FB : B → Type 0} {pB : B → List Spelt} {rB : List Token → Read B} {oB : B → Kind → Bool}
    → (starts : Kind → Bool) → Part SA FA pA rA oA → Part SB FB pB rB oB
    → ((a : A) (u : List Symbol) → FA a → starts (next (plain (pA a) ++ u)) ≡ true)
    → ((b : B) (u : List Symbol) → FB b → starts (next (plain (pB b) ++ u)) ≡ false)
    → Part (sum_same SA SB) (sum_of FA FB) (sum_of pA pB) (either starts rA rB) (sum_of oA oB)
either_part {A} {B} {SA} {FA} {pA} {rA} {oA} {SB} {FB} {pB} {rB} {oB} starts P Q begins others = record {
  ok = ok_at;
  err = err_at;
  one = one_at;
  some = inl P.some;
  some_fits = P.some_fits;
  some_words = P.some_words;
}
  where
    ok_at : (ws : List Token) (a : A ⊎ B) (rest : List Token) → either starts rA rB ws ≡ Ok (a, rest) → Matches (sum_of pA pB a) ws rest × (sum_of oA oB a (next (seen rest)) ≡ false) × sum_of FA FB a
    ok_at ws a rest e =
        elim (chosen (starts (next (seen ws))) (mapped inl rA ws) (mapped inr rB ws) (done (a, rest)) e) [
          | inl h ↦
              let x = bind_ok (rA ws) (λ x. done (inl x.0, x.1)) (a, rest) h.1 in
              let made : (A ⊎ B) × List Token = (inl x.0.0, x.0.1) in
              subst (λ (z : (A ⊎ B) × List Token). Matches (sum_of pA pB z.0) ws z.1 × (sum_of oA oB z.0 (next (seen z.1)) ≡ false) × sum_of FA FB z.0) (ok_is made (a, rest) x.2) (P.ok ws x.0.0 x.0.1 x.1)
          | inr h ↦
              let x = bind_ok (rB ws) (λ x. done (inr x.0, x.1)) (a, rest) h.1 in
              let made : (A ⊎ B) × List Token = (inr x.0.0, x.0.1) in
              subst (λ (z : (A ⊎ B) × List Token). Matches (sum_of pA pB z.0) ws z.1 × (sum_of oA oB z.0 (next (seen z.1)) ≡ false) × sum_of FA FB z.0) (ok_is made (a, rest) x.2) (Q.ok ws x.0.0 x.0.1 x.1)
        ]

    dead_left : (ws : List Symbol) (n : ℕ) (s : Stuck FA pA oA ws n) → starts (next ws) ≡ true → (a : A ⊎ B) (t u : List Symbol) → sum_of FA FB a → next t ≡ next s.rest → sum_of oA oB a (next u) ≡ false → s.front ++ t ≡ plain (sum_of pA pB a) ++ u → ⊥
    dead_left ws n s so (inl a) t u f nt ou e = s.dead a t u f nt ou e
    dead_left ws n s so (inr b) t u f nt ou e = clash (starts (next ws)) (starts (next (plain (pB b) ++ u))) so (others b u f) (ap (λ (x : List Symbol). starts (next x)) s.parts ∙ ap starts (sym (next-append s.front t s.rest nt)) ∙ ap (λ (x : List Symbol). starts (next x)) e)

    dead_right : (ws : List Symbol) (n : ℕ) (s : Stuck FB pB oB ws n) → starts (next ws) ≡ false → (a : A ⊎ B) (t u : List Symbol) → sum_of FA FB a → next t ≡ next s.rest → sum_of oA oB a (next u) ≡ false → s.front ++ t ≡ plain (sum_of pA pB a) ++ u → ⊥
    dead_right ws n s off (inr b) t u f nt ou e = s.dead b t u f nt ou e
    dead_right ws n s off (inl a) t u f nt ou e = clash (starts (next (plain (pA a) ++ u))) (starts (next ws)) (begins a u f) off (sym (ap (λ (x : List Symbol). starts (next x)) s.parts ∙ ap starts (sym (next-append s.front t s.rest nt)) ∙ ap (λ (x : List Symbol). starts (next x)) e))

    err_at : (ws : List Token) (n : ℕ) → either starts rA rB ws ≡ Err n → Stuck (sum_of FA FB) (sum_of pA pB) (sum_of oA oB) (seen ws) n
    err_at ws n e =
        elim (chosen (starts (next (seen ws))) (mapped inl rA ws) (mapped inr rB ws) (Err n) e) [
          | inl h ↦ elim (bind_err (rA ws) (λ x. done (inl x.0, x.1)) n h.1) [
            | inl k ↦
                let s = P.err ws n k in
                record { front = s.front; rest = s.rest; parts = s.parts; left = s.left; tree = inl s.tree; more = s.more; fits = s.fits; viable = s.viable; proper = s.proper; dead = dead_left (seen ws) n s h.0 }
            | inr k ↦ absurd (cc k.2)
          ]
          | inr h ↦ elim (bind_err (rB ws) (λ x. done (inr x.0, x.1)) n h.1) [
            | inl k ↦
                let s = Q.err ws n k in
                record { front = s.front; rest = s.rest; parts = s.parts; left = s.left; tree = inr s.tree; more = s.more; fits = s.fits; viable = s.viable; proper = s.proper; dead = dead_right (seen ws) n s h.0 }
            | inr k ↦ absurd (cc k.2)
          ]
        ]

    one_at : (a b : A ⊎ B) (u v : List Symbol) → sum_of FA FB a → sum_of FA FB b → sum_of oA oB a (next u) ≡ false → sum_of oA oB b (next v) ≡ false → plain (sum_of pA pB a) ++ u ≡ plain (sum_of pA pB b) ++ v → sum_same SA SB a b × (u ≡ v)
    one_at (inl a) (inl b) u v f g ou ov e = P.one a b u v f g ou ov e
    one_at (inr a) (inr b) u v f g ou ov e = Q.one a b u v f g ou ov e
    one_at (inl a) (inr b) u v f g ou ov e = clash (starts (next (plain (pA a) ++ u))) (starts (next (plain (pB b) ++ v))) (begins a u f) (others b v g) (ap (λ (x : List Symbol). starts (next x)) e)
    one_at (inr a) (inl b) u v f g ou ov e = clash (starts (next (plain (pA b) ++ v))) (starts (next (plain (pB a) ++ u))) (begins b v g) (others a u f) (ap (λ (x : List Symbol). starts (next x)) (sym e))

-- ---- one or none

abbrev pub option_same : {A : Type 0} → (A → A → Type 0) → Option A → Option A → Type 0
option_same S None None = Unit {0}
option_same S None (Some b) = ⊥
option_same S (Some a) None = ⊥
option_same S (Some a) (Some b) = S a b

abbrev pub option_of {ℓ} : {A : Type 0} {C : Type ℓ} → C → (A → C) → Option A → C
option_of c f None = c
option_of c f (Some a) = f a

pub perhaps_part : {A : Type 0} {SA : A → A → Type 0} {FA : A → Type 0} {pA : A → List Spelt} {rA : List Token → Read A} {oA : A → Kind → Bool}
    → (starts : Kind → Bool) → Part SA FA pA rA oA → ((a : A) (u : List Symbol) → FA a → starts (next (plain (pA a) ++ u)) ≡ true)
    → Part (option_same SA) (option_of (Unit {0}) FA) (option_of [] pA) (perhaps starts rA) (option_of starts oA)
perhaps_part {A} {SA} {FA} {pA} {rA} {oA} starts P begins = record {
  ok = ok_at;
  err = err_at;
  one = one_at;
  some = None;
  some_fits = tt;
  some_words = tt;
}
  where
    ok_at : (ws : List Token) (a : Option A) (rest : List Token) → perhaps starts rA ws ≡ Ok (a, rest) → Matches (option_of [] pA a) ws rest × (option_of starts oA a (next (seen rest)) ≡ false) × option_of (Unit {0}) FA a
    ok_at ws a rest e =
        elim (chosen (starts (next (seen ws))) (mapped Some rA ws) (Ok (None, ws)) (done (a, rest)) e) [
          | inl h ↦
              let x = bind_ok (rA ws) (λ x. done (Some x.0, x.1)) (a, rest) h.1 in
              let made : Option A × List Token = (Some x.0.0, x.0.1) in
              subst (λ (z : Option A × List Token). Matches (option_of [] pA z.0) ws z.1 × (option_of starts oA z.0 (next (seen z.1)) ≡ false) × option_of (Unit {0}) FA z.0) (ok_is made (a, rest) x.2) (P.ok ws x.0.0 x.0.1 x.1)
          | inr h ↦
              let made : Option A × List Token = (None, ws) in
              subst (λ (z : Option A × List Token). Matches (option_of [] pA z.0) ws z.1 × (option_of starts oA z.0 (next (seen z.1)) ≡ false) × option_of (Unit {0}) FA z.0) (ok_is made (a, rest) h.1) (refl, h.0, tt)
        ]

    dead_at : (ws : List Symbol) (n : ℕ) (s : Stuck FA pA oA ws n) → starts (next ws) ≡ true → (a : Option A) (t u : List Symbol) → option_of (Unit {0}) FA a → next t ≡ next s.rest → option_of starts oA a (next u) ≡ false → s.front ++ t ≡ plain (option_of [] pA a) ++ u → ⊥
    dead_at ws n s so (Some a) t u f nt ou e = s.dead a t u f nt ou e
    dead_at ws n s so None t u f nt ou e = clash (starts (next ws)) (starts (next u)) so ou (ap (λ (x : List Symbol). starts (next x)) s.parts ∙ ap starts (sym (next-append s.front t s.rest nt)) ∙ ap (λ (x : List Symbol). starts (next x)) e)

    err_at : (ws : List Token) (n : ℕ) → perhaps starts rA ws ≡ Err n → Stuck (option_of (Unit {0}) FA) (option_of [] pA) (option_of starts oA) (seen ws) n
    err_at ws n e =
        elim (chosen (starts (next (seen ws))) (mapped Some rA ws) (Ok (None, ws)) (Err n) e) [
          | inl h ↦ elim (bind_err (rA ws) (λ x. done (Some x.0, x.1)) n h.1) [
            | inl k ↦
                let s = P.err ws n k in
                record { front = s.front; rest = s.rest; parts = s.parts; left = s.left; tree = Some s.tree; more = s.more; fits = s.fits; viable = s.viable; proper = s.proper; dead = dead_at (seen ws) n s h.0 }
            | inr k ↦ absurd (cc k.2)
          ]
          | inr h ↦ absurd (cc h.1)
        ]

    one_at : (a b : Option A) (u v : List Symbol) → option_of (Unit {0}) FA a → option_of (Unit {0}) FA b → option_of starts oA a (next u) ≡ false → option_of starts oA b (next v) ≡ false → plain (option_of [] pA a) ++ u ≡ plain (option_of [] pA b) ++ v → option_same SA a b × (u ≡ v)
    one_at None None u v f g ou ov e = (tt, e)
    one_at (Some a) (Some b) u v f g ou ov e = P.one a b u v f g ou ov e
    one_at (Some a) None u v f g ou ov e = clash (starts (next (plain (pA a) ++ u))) (starts (next v)) (begins a u f) ov (ap (λ (x : List Symbol). starts (next x)) e)
    one_at None (Some b) u v f g ou ov e = clash (starts (next (plain (pA b) ++ v))) (starts (next u)) (begins b v g) ou (ap (λ (x : List Symbol). starts (next x)) (sym e))

-- ---- one that begins so

pub only_part : {A : Type 0} {SA : A → A → Type 0} {FA : A → Type 0} {pA : A → List Spelt} {rA : List Token → Read A} {oA : A → Kind → Bool}
    → (starts : Kind → Bool) (G : A → Type 0) → Part SA FA pA rA oA
    → ((a : A) (u : List Symbol) → FA a → G a → starts (next (plain (pA a) ++ u)) ≡ true)
    → ((a : A) (u : List Symbol) → FA a → starts (next (plain (pA a) ++ u)) ≡ true → G a)
    → (some : A) → FA some → G some → AreWords (plain (pA some))
    → Part SA (λ a. FA a × G a) pA (only starts rA) oA
only_part {A} {SA} {FA} {pA} {rA} {oA} starts G P begins so_begun some some_fits some_G some_words = record {
  ok = λ ws a rest e. elim (chosen (starts (next (seen ws))) (rA ws) (Err (length ws)) (done (a, rest)) e) [
    | inl h ↦ let x = P.ok ws a rest h.1 in (x.0, x.1, (x.2, so_begun a (seen rest) x.2 (ap (λ (y : List Symbol). starts (next y)) (sym (Matches-seen (pA a) ws rest x.0)) ∙ h.0)))
    | inr h ↦ absurd (cc h.1)
  ];
  err = err_at;
  one = λ a b u v f g ou ov e. P.one a b u v f.0 g.0 ou ov e;
  some = some;
  some_fits = (some_fits, some_G);
  some_words = some_words;
}
  where
    whole : (a : A) (front more : List Symbol) → plain (pA a) ≡ front ++ more → FA a → (k : Kind) → next front ≡ k → starts k ≡ true → AreWords more → front ≡ [] ⊎ ((a : A) × (more : List Symbol) × (FA a × G a) × (plain (pA a) ≡ front ++ more) × AreWords more)
    whole a [] more e f k n so pr = inl refl
    whole a (x ∷ front) more e f k n so pr = inr (a, more, (f, so_begun a [] f (ap (λ (y : List Symbol). starts (next y)) (append-nil (plain (pA a)) ∙ e) ∙ ap starts n ∙ so)), e, pr)

    next_of : (front rest : List Symbol) → front ≡ [] ⊎ (next front ≡ next (front ++ rest))
    next_of [] rest = inl refl
    next_of (x ∷ xs) rest = inr refl

    begun : (ws : List Symbol) (n : ℕ) (s : Stuck FA pA oA ws n) → starts (next ws) ≡ true → (a : A) × (more : List Symbol) × (FA a × G a) × (plain (pA a) ≡ s.front ++ more) × AreWords more
    begun ws n s so =
        let first : s.front ≡ [] → (a : A) × (more : List Symbol) × (FA a × G a) × (plain (pA a) ≡ s.front ++ more) × AreWords more = λ h. (some, plain (pA some), (some_fits, some_G), ap (λ (x : List Symbol). x ++ plain (pA some)) (sym h), some_words) in
        elim (next_of s.front s.rest) [
          | inl h ↦ first h
          | inr h ↦ elim (whole s.tree s.front s.more s.viable s.fits (next ws) (h ∙ ap next (sym s.parts)) so s.proper) [ inl k ↦ first k | inr k ↦ k ]
        ]

    err_at : (ws : List Token) (n : ℕ) → only starts rA ws ≡ Err n → Stuck (λ a. FA a × G a) pA oA (seen ws) n
    err_at ws n e =
        elim (chosen (starts (next (seen ws))) (rA ws) (Err (length ws)) (Err n) e) [
          | inl h ↦
              let s = P.err ws n h.1 in
              let b = begun (seen ws) n s h.0 in
              record { front = s.front; rest = s.rest; parts = s.parts; left = s.left; tree = b.0; more = b.1; fits = b.2; viable = b.3; proper = b.4; dead = λ a t u f nt ou e. s.dead a t u f.0 nt ou e }
          | inr h ↦
              let at : length ws ≡ n = (cc h.1) in
              record {
                front = [];
                rest = seen ws;
                parts = refl;
                left = sym at ∙ sym (length-seen ws);
                tree = some;
                more = plain (pA some);
                fits = (some_fits, some_G);
                viable = refl;
                proper = some_words;
                dead = λ a t u f nt ou e. clash (starts (next (plain (pA a) ++ u))) (starts (next (seen ws))) (begins a u f.0 f.1) h.0 (ap (λ (x : List Symbol). starts (next x)) (sym e) ∙ ap starts nt);
              }
        ]
