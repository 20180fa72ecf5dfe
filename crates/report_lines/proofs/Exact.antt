-- A format reads exactly what it writes: each way of putting formats together keeps this.
use Rattle.std.proofs.Common.{◌≡◌, ℕ, zero, suc, ◌≤◌, Bool, true, false, cond, ◌&&◌, eqb, leb, List, [], ◌∷◌, ◌++◌, length, Option, Some, None, ◌⊎◌, inl, inr, refl, sym, ap, subst, ◌∙◌, append_assoc, unsigned_abs, le-leb, le_trans}
use Rattle.std.proofs.lemmas.Bool.{false≢true, and_parts, and_from, eq-eqb, eqb-true, leb-true}
use Rattle.std.proofs.lemmas.Option.{some_pair_parts, none-some}
use Rattle.std.proofs.lemmas.Slice.Eq.{bytes_eq-Decides}
use Rattle.std.proofs.lemmas.List.{append-nil}
use Rattle.std.specs.List.{list_all, flat_map}
use Rattle.std.specs.Str.{bytes_eq}
use Rattle.std.specs.Fmt.{decimal, signed_decimal}
use Rattle.word_cut.specs.Texts.{is_number}
use Rattle.word_cut.specs.Whole.{number_of, greatest, size_read, read_of}
use Rattle.word_cut.proofs.Spelled.{decimal_of_number, decimal_writes, read_of-spelled}
use Rattle.report_lines.specs.Formats.{◌>>=◌, Read, Format, IsExact, nothing, none, key_at, key, word_at, word, number, whole, chain, behind, these_at, these, seen, only, Case, put_some, fits_some, case, or_at, or_put, or_fits, or_else, times_at, times, counted, list_put, list_at, list_fits, each_of, is_empty, whole_of, read}

-- ---- tools

pub bind_some : {A B : Type 0} (r : Option A) (f : A → Option B) (y : B) → (r >>= f) ≡ Some y → (x : A) × (r ≡ Some x) × (f x ≡ Some y)
bind_some (Some x) f y e = (x, refl, e)
bind_some None f y e = absurd cc

pub guard_some : {A : Type 0} (b : Bool) (x y : A) → cond b (Some x) None ≡ Some y → (b ≡ true) × (x ≡ y)
guard_some true x y e = (refl, cc)
guard_some false x y e = absurd cc

-- a value and the words behind it
abbrev pub got : {A : Type 0} → A → List (List ℕ) → Read A
got a rest = Some (a, rest)

pub got_is : {A : Type 0} (a b : A) (u v : List (List ℕ)) → got a u ≡ got b v → (a ≡ b) × (u ≡ v)
got_is a b u v e = some_pair_parts a b u v e

-- what holds of what was got
pub carried : {A : Type 0} (P : A → List (List ℕ) → Type 0) (a b : A) (u v : List (List ℕ)) → got a u ≡ got b v → P a u → P b v
carried P a b u v e h = let p = got_is a b u v e in subst (λ z. P z v) p.0 (subst (λ t. P a t) p.1 h)

pub same_bytes : (u v : List ℕ) → bytes_eq u v ≡ true → u ≡ v
same_bytes u v e = (bytes_eq-Decides u v).0 e

pub itself : (u : List ℕ) → bytes_eq u u ≡ true
itself u = (bytes_eq-Decides u u).1 refl

-- ---- one word

-- a text that stands for a value, as the reader of one word has it
pub record IsExactWord {A : Type 0} (value : List ℕ → Option A) (text : A → List ℕ) (fits : A → Bool) : Type 0 where
  pub ok : (w : List ℕ) (a : A) → value w ≡ Some a → fits a ≡ true → w ≡ text a
  pub again : (a : A) → fits a ≡ true → value (text a) ≡ Some a

pub key_exact : (k : List ℕ) → IsExact (key k)
key_exact k = record { ok = ok_at; again = λ u rest f. rw (itself k) refl }
  where
    ok_at : (ws : List (List ℕ)) (a : Unit {0}) (rest : List (List ℕ)) → key_at k ws ≡ Some (a, rest) → (ws ≡ k ∷ rest) × (true ≡ true)
    ok_at [] a rest e = absurd cc
    ok_at (w ∷ ws) a rest e =
        let g = guard_some (bytes_eq w k) (tt, ws) (a, rest) e in
        let p = got_is tt a ws rest (ap Some g.1) in
        let s = same_bytes w k g.0 in
        (cc, refl)

pub word_exact : {A : Type 0} (value : List ℕ → Option A) (text : A → List ℕ) (fits : A → Bool) → IsExactWord value text fits → IsExact (word text value fits)
word_exact {A} value text fits x = record { ok = ok_at; again = λ a rest f. let v = x.again a f in rw (v, f) refl }
  where
    ok_at : (ws : List (List ℕ)) (a : A) (rest : List (List ℕ)) → word_at value fits ws ≡ Some (a, rest) → (ws ≡ text a ∷ rest) × (fits a ≡ true)
    ok_at [] a rest e = absurd cc
    ok_at (w ∷ ws) a rest e =
        let b = bind_some (value w) (λ (a : A). cond (fits a) (Some (a, ws)) None) (a, rest) e in
        let g = guard_some (fits b.0) (b.0, ws) (a, rest) b.2 in
        let p = got_is b.0 a ws rest (ap Some g.1) in
        let s = x.ok w b.0 b.1 g.0 in
        let f = g.0 in
        (cc, rw p.0 at f)

-- ---- words behind one another

pub chain_exact : {A B : Type 0} (f : Format A) (g : A → Format B) → IsExact f → ((a : A) → IsExact (g a)) → IsExact (chain f g)
chain_exact {A} {B} f g x y = record {
  ok = λ ws c rest e.
      let b = bind_some (f.get ws) (λ (x : A × List (List ℕ)). (g x.0).get x.1 >>= λ y. Some ((x.0, y.0), y.1)) (c, rest) e in
      let d = bind_some ((g b.0.0).get b.0.1) (λ (y : B × List (List ℕ)). Some ((b.0.0, y.0), y.1)) (c, rest) b.2 in
      let u = x.ok ws b.0.0 b.0.1 b.1 in
      let v = (y b.0.0).ok b.0.1 d.0.0 d.0.1 d.1 in
      let whole : ws ≡ (f.put b.0.0 ++ (g b.0.0).put d.0.0) ++ d.0.1 = u.0 ∙ ap (λ (t : List (List ℕ)). f.put b.0.0 ++ t) v.0 ∙ sym (append_assoc (f.put b.0.0) ((g b.0.0).put d.0.0) d.0.1) in
      carried (λ (z : A × B) (t : List (List ℕ)). (ws ≡ (f.put z.0 ++ (g z.0).put z.1) ++ t) × ((f.fits z.0 && (g z.0).fits z.1) ≡ true)) (b.0.0, d.0.0) c d.0.1 rest d.2
      (whole, and_from _ _ u.1 v.1);
  again = λ c rest fit.
      let p = and_parts (f.fits c.0) ((g c.0).fits c.1) fit in
      let u = x.again c.0 ((g c.0).put c.1 ++ rest) p.0 in
      let v = (y c.0).again c.1 rest p.1 in
      rw (append_assoc, u, v) refl;
}

pub behind_exact : {A : Type 0} (k : List ℕ) (f : Format A) → IsExact f → IsExact (behind k f)
behind_exact {A} k f x = record {
  ok = λ ws a rest e.
      let b = bind_some (key_at k ws) (λ (x : Unit {0} × List (List ℕ)). f.get x.1) (a, rest) e in
      let u = (key_exact k).ok ws b.0.0 b.0.1 b.1 in
      let v = x.ok b.0.1 a rest b.2 in
      (u.0 ∙ ap (λ (t : List (List ℕ)). k ∷ t) v.0, v.1);
  again = λ a rest fit. let v = x.again a rest fit in rw (itself k, v) refl;
}

pub seen_exact : {A B : Type 0} (to : A → B) (from : B → A) (f : Format A) → ((a : A) → from (to a) ≡ a) → ((b : B) → to (from b) ≡ b) → IsExact f → IsExact (seen to from f)
seen_exact {A} {B} to from f back there x = record {
  ok = λ ws b rest e.
      let c = bind_some (f.get ws) (λ (x : A × List (List ℕ)). Some (to x.0, x.1)) (b, rest) e in
      let p = got_is (to c.0.0) b c.0.1 rest c.2 in
      let u = x.ok ws c.0.0 c.0.1 c.1 in
      let same : c.0.0 ≡ from b = sym (back c.0.0) ∙ ap from p.0 in
      subst (λ (z : A). (ws ≡ f.put z ++ rest) × (f.fits z ≡ true)) same (u.0 ∙ ap (λ (t : List (List ℕ)). f.put c.0.0 ++ t) p.1, u.1);
  again = λ b rest fit. let u = x.again (from b) rest fit in rw (u, there b) refl;
}

pub only_exact : {A : Type 0} (test : A → Bool) (f : Format A) → IsExact f → IsExact (only test f)
only_exact {A} test f x = record {
  ok = λ ws a rest e.
      let c = bind_some (f.get ws) (λ (x : A × List (List ℕ)). cond (test x.0) (Some x) None) (a, rest) e in
      let g = guard_some (test c.0.0) c.0 (a, rest) c.2 in
      let u = x.ok ws c.0.0 c.0.1 c.1 in
      carried (λ (z : A) (t : List (List ℕ)). (ws ≡ f.put z ++ t) × ((f.fits z && test z) ≡ true)) c.0.0 a c.0.1 rest (ap Some g.1) (u.0, and_from _ _ u.1 g.0);
  again = λ a rest fit.
      let p = and_parts (f.fits a) (test a) fit in
      let u = x.again a rest p.0 in
      let v = p.1 in
      rw (u, v) refl;
}

-- ---- lists

pub times_ok : {A : Type 0} (f : Format A) → IsExact f → (n : ℕ) (ws : List (List ℕ)) (xs : List A) (rest : List (List ℕ)) → times_at f n ws ≡ Some (xs, rest) → (ws ≡ flat_map f.put xs ++ rest) × (list_all f.fits xs ≡ true) × (length xs ≡ n)
unfolding times_at
times_ok {A} f x zero ws xs rest e =
    let p = got_is [] xs ws rest e in
    subst (λ (z : List A). (ws ≡ flat_map f.put z ++ rest) × (list_all f.fits z ≡ true) × (length z ≡ 0)) p.0 (p.1, refl, refl)
times_ok {A} f x (suc n) ws xs rest e =
    let b = bind_some (f.get ws) (λ (x : A × List (List ℕ)). times_at f n x.1 >>= λ y. Some (x.0 ∷ y.0, y.1)) (xs, rest) e in
    let d = bind_some (times_at f n b.0.1) (λ (y : List A × List (List ℕ)). Some (b.0.0 ∷ y.0, y.1)) (xs, rest) b.2 in
    let u = x.ok ws b.0.0 b.0.1 b.1 in
    let v = times_ok f x n b.0.1 d.0.0 d.0.1 d.1 in
    let whole : ws ≡ (f.put b.0.0 ++ flat_map f.put d.0.0) ++ d.0.1 = u.0 ∙ ap (λ (t : List (List ℕ)). f.put b.0.0 ++ t) v.0 ∙ sym (append_assoc (f.put b.0.0) (flat_map f.put d.0.0) d.0.1) in
    carried (λ (z : List A) (t : List (List ℕ)). (ws ≡ flat_map f.put z ++ t) × (list_all f.fits z ≡ true) × (length z ≡ suc n)) (b.0.0 ∷ d.0.0) xs d.0.1 rest d.2 (whole, and_from _ _ u.1 v.1, ap suc v.2)

pub times_again : {A : Type 0} (f : Format A) → IsExact f → (xs : List A) (rest : List (List ℕ)) → list_all f.fits xs ≡ true → times_at f (length xs) (flat_map f.put xs ++ rest) ≡ Some (xs, rest)
unfolding times_at
times_again f x [] rest fit = refl
times_again f x (a ∷ more) rest fit =
    let p = and_parts (f.fits a) (list_all f.fits more) fit in
    let u = x.again a (flat_map f.put more ++ rest) p.0 in
    let v = times_again f x more rest p.1 in
    rw (append_assoc, u, v) refl

pub times_exact : {A : Type 0} (f : Format A) (n : ℕ) → IsExact f → IsExact (times f n)
times_exact {A} f n x = record {
  ok = λ ws xs rest e.
      let u = times_ok f x n ws xs rest e in
      (u.0, and_from _ _ (eq-eqb (length xs) n u.2) u.1);
  again = λ xs rest fit.
      let p = and_parts (eqb (length xs) n) (list_all f.fits xs) fit in
      subst (λ (m : ℕ). times_at f m (flat_map f.put xs ++ rest) ≡ Some (xs, rest)) (eqb-true (length xs) n p.0) (times_again f x xs rest p.1);
}

-- ---- numbers

pub size_ok : (w : List ℕ) (n : ℕ) → size_read w ≡ Some n → w ≡ decimal n
size_ok w n e =
    let g = guard_some (is_number w && leb (number_of w) greatest) (number_of w) n e in
    let p = and_parts (is_number w) (leb (number_of w) greatest) g.0 in
    sym (decimal_of_number w p.0 (leb-true _ _ p.1)) ∙ ap decimal g.1

pub size_again : (n : ℕ) → n ≤ greatest → size_read (decimal n) ≡ Some n
size_again n small =
    let w = decimal_writes n small in
    let d = w.0 in
    let v = w.1 in
    let fit : leb n greatest ≡ true = le-leb n greatest small in
    rw (d, v, fit) refl

pub number_exact : (most : ℕ) → most ≤ greatest → IsExact (number most)
number_exact most small = word_exact size_read decimal (λ n. leb n most) (record {
  ok = λ w n e f. size_ok w n e;
  again = λ n f. size_again n (le_trans (leb-true n most f) small);
})

pub whole_exact : (most : ℕ) → most ≤ greatest → IsExact (whole most)
whole_exact most small = word_exact read_of signed_decimal (λ z. leb (unsigned_abs z) most) (record {
  ok = λ w z e f. (read_of-spelled w z (le_trans (leb-true _ most f) small)).0 e;
  again = λ z f. (read_of-spelled (signed_decimal z) z (le_trans (leb-true _ most f) small)).1 refl;
})

pub counted_exact : {A : Type 0} (most : ℕ) (f : Format A) → most ≤ greatest → IsExact f → IsExact (counted most f)
counted_exact {A} most f small x = record {
  ok = λ ws xs rest e.
      let b = bind_some ((number most).get ws) (λ (n : ℕ × List (List ℕ)). times_at f n.0 n.1) (xs, rest) e in
      let u = (number_exact most small).ok ws b.0.0 b.0.1 b.1 in
      let v = times_ok f x b.0.0 b.0.1 xs rest b.2 in
      let same = sym v.2 in
      (u.0 ∙ ap (λ (t : List (List ℕ)). decimal b.0.0 ∷ t) v.0 ∙ ap (λ (n : ℕ). decimal n ∷ (flat_map f.put xs ++ rest)) same, and_from _ _ (subst (λ n. leb n most ≡ true) same u.1) v.1);
  again = λ xs rest fit.
      let p = and_parts (leb (length xs) most) (list_all f.fits xs) fit in
      let u = (number_exact most small).again (length xs) (flat_map f.put xs ++ rest) p.0 in
      let v = times_again f x xs rest p.1 in
      rw (u, v) refl;
}

-- ---- one or the other

-- a form reads nothing that begins with this word
pub record Apart {A : Type 0} (k : List ℕ) (g : Format A) : Type 0 where
  pub not : (b : A) (w : List ℕ) (ws rest : List (List ℕ)) → g.fits b ≡ true → g.put b ++ rest ≡ w ∷ ws → bytes_eq w k ≡ false

pub chosen : {A : Type 0} (b : Bool) (x y z : A) → cond b x y ≡ z → ((b ≡ true) × (x ≡ z)) ⊎ ((b ≡ false) × (y ≡ z))
chosen true x y z e = inl (refl, e)
chosen false x y z e = inr (refl, e)

abbrev as_right : {A B : Type 0} → Read B → Read (A ⊎ B)
as_right r = r >>= λ x. Some (inr x.0, x.1)

abbrev as_left : {A B : Type 0} → Read A → Read (A ⊎ B)
as_left r = r >>= λ x. Some (inl x.0, x.1)

abbrev OrFine : {A B : Type 0} → List ℕ → Format A → Format B → List (List ℕ) → A ⊎ B → List (List ℕ) → Type 0
OrFine k f g ws z t = (ws ≡ or_put k f g z ++ t) × (or_fits f g z ≡ true)

pub or_exact : {A B : Type 0} (k : List ℕ) (f : Format A) (g : Format B) → Apart k g → IsExact f → IsExact g → IsExact (or_else k f g)
or_exact {A} {B} k f g apart x y = record { ok = ok_at; again = again_at }
  where
    right_ok : (ws : List (List ℕ)) (c : A ⊎ B) (rest : List (List ℕ)) → as_right {A = A} (g.get ws) ≡ Some (c, rest) → OrFine k f g ws c rest
    right_ok ws c rest e =
        let b = bind_some (g.get ws) (λ (x : B × List (List ℕ)). Some (inr x.0, x.1)) (c, rest) e in
        carried (OrFine k f g ws) (inr b.0.0) c b.0.1 rest b.2 (y.ok ws b.0.0 b.0.1 b.1)

    ok_at : (ws : List (List ℕ)) (c : A ⊎ B) (rest : List (List ℕ)) → or_at k f g ws ≡ Some (c, rest) → OrFine k f g ws c rest
    ok_at [] c rest e = right_ok [] c rest e
    ok_at (w ∷ ws) c rest e =
        elim (chosen (bytes_eq w k) (as_left (f.get ws)) (as_right (g.get (w ∷ ws))) (Some (c, rest)) e) [
          | inl h ↦
              let b = bind_some (f.get ws) (λ (x : A × List (List ℕ)). Some (inl x.0, x.1)) (c, rest) h.1 in
              let u = x.ok ws b.0.0 b.0.1 b.1 in
              let s = same_bytes w k h.0 in
              carried (OrFine k f g (w ∷ ws)) (inl b.0.0) c b.0.1 rest b.2 ((λ i. s i ∷ u.0 i), u.1)
          | inr h ↦ right_ok (w ∷ ws) c rest h.1
        ]

    right_again : (b : B) (rest ws : List (List ℕ)) → g.put b ++ rest ≡ ws → g.fits b ≡ true → or_at k f g ws ≡ Some (inr b, rest)
    right_again b rest [] e fit = let v = y.again b rest fit in let u : g.get [] ≡ Some (b, rest) = rw e at v in rw u refl
    right_again b rest (w ∷ ws) e fit =
        let v = y.again b rest fit in
        let u : g.get (w ∷ ws) ≡ Some (b, rest) = rw e at v in
        let n = apart.not b w ws rest fit e in
        rw (n, u) refl

    again_at : (c : A ⊎ B) (rest : List (List ℕ)) → or_fits f g c ≡ true → or_at k f g (or_put k f g c ++ rest) ≡ Some (c, rest)
    again_at (inl a) rest fit = let v = x.again a rest fit in rw (itself k, v) refl
    again_at (inr b) rest fit = right_again b rest (g.put b ++ rest) refl fit

-- ---- a line

only_empty : (ws : List (List ℕ)) → is_empty ws ≡ true → ws ≡ []
only_empty [] e = refl
only_empty (w ∷ ws) e = absurd (false≢true e)

whole_ok : {A : Type 0} (r : Read A) (a : A) → whole_of r ≡ Some a → r ≡ Some (a, [])
whole_ok {A} r a e =
    let b = bind_some r (λ (x : A × List (List ℕ)). cond (is_empty x.1) (Some x.0) None) a e in
    let g = guard_some (is_empty b.0.1) b.0.0 a b.2 in
    let n = only_empty b.0.1 g.0 in
    b.1 ∙ (λ i. Some (g.1 i, n i))

-- a line reads exactly as it is written
pub read_ok : {A : Type 0} {f : Format A} → IsExact f → (ws : List (List ℕ)) (a : A) → read f ws ≡ Some a → (ws ≡ f.put a) × (f.fits a ≡ true)
unfolding read
read_ok {A} {f} x ws a e = let u = x.ok ws a [] (whole_ok (f.get ws) a e) in (u.0 ∙ append-nil (f.put a), u.1)

pub read_again : {A : Type 0} {f : Format A} → IsExact f → (a : A) → f.fits a ≡ true → read f (f.put a) ≡ Some a
unfolding read
read_again {A} {f} x a fit = let u = x.again a [] fit in let n = append-nil (f.put a) in let v : f.get (f.put a) ≡ Some (a, []) = rw n at u in rw v refl

-- ---- no words, words, cases

pub nothing_exact : IsExact nothing
nothing_exact = record { ok = λ ws u rest e. let p = got_is tt u ws rest e in (p.1, refl); again = λ u rest f. refl }

pub none_exact : {A : Type 0} → IsExact (none {A = A})
none_exact {A} = record { ok = λ ws a rest e. absurd (none-some _ e); again = λ a rest f. absurd (false≢true f) }

these_ok : (ks ws : List (List ℕ)) (u : Unit {0}) (rest : List (List ℕ)) → these_at ks ws ≡ Some (u, rest) → ws ≡ ks ++ rest
these_ok [] ws u rest e = (got_is tt u ws rest e).1
these_ok (k ∷ ks) ws u rest e =
    let b = bind_some (key_at k ws) (λ (x : Unit {0} × List (List ℕ)). these_at ks x.1) (u, rest) e in
    let s = (key_exact k).ok ws b.0.0 b.0.1 b.1 in
    s.0 ∙ ap (λ (t : List (List ℕ)). k ∷ t) (these_ok ks b.0.1 u rest b.2)

these_again : (ks rest : List (List ℕ)) → these_at ks (ks ++ rest) ≡ Some (tt, rest)
these_again [] rest = refl
these_again (k ∷ ks) rest = let v = these_again ks rest in rw (itself k, v) refl

pub these_exact : (ks : List (List ℕ)) → IsExact (these ks)
these_exact ks = record { ok = λ ws u rest e. (these_ok ks ws u rest e, refl); again = λ u rest f. these_again ks rest }

-- one case of a type
pub record IsCase {A B : Type 0} (c : Case B A) : Type 0 where
  pub back : (a : A) → c.from (c.to a) ≡ Some a
  pub there : (b : B) (a : A) → c.from b ≡ Some a → b ≡ c.to a

abbrev as_case : {A B : Type 0} → Case B A → Read A → Read B
as_case c r = r >>= λ x. Some (c.to x.0, x.1)

pub case_exact : {A B : Type 0} (c : Case B A) (f : Format A) → IsCase c → IsExact f → IsExact (case c f)
case_exact {A} {B} c f is x = record { ok = ok_at; again = λ e rest fit. again_at e (c.from e) rest refl fit }
  where
    ok_at : (ws : List (List ℕ)) (e : B) (rest : List (List ℕ)) → (case c f).get ws ≡ Some (e, rest) → (ws ≡ (case c f).put e ++ rest) × ((case c f).fits e ≡ true)
    ok_at ws e rest h =
        let b = bind_some (f.get ws) (λ (x : A × List (List ℕ)). Some (c.to x.0, x.1)) (e, rest) h in
        let u = x.ok ws b.0.0 b.0.1 b.1 in
        let k = is.back b.0.0 in
        carried (λ (e : B) (t : List (List ℕ)). (ws ≡ (case c f).put e ++ t) × ((case c f).fits e ≡ true)) (c.to b.0.0) e b.0.1 rest b.2
        (rw k u.0, rw k u.1)

    again_at : (e : B) (o : Option A) (rest : List (List ℕ)) → c.from e ≡ o → fits_some f o ≡ true → as_case c (f.get (put_some f o ++ rest)) ≡ Some (e, rest)
    again_at e None rest h fit = absurd (false≢true fit)
    again_at e (Some a) rest h fit =
        let u = x.again a rest fit in
        let s = is.there e a h in
        rw (u, s) refl

-- ---- one of each

abbrev EachFine : {K A : Type 0} → (K → Format A) → List K → List (List ℕ) → List A → List (List ℕ) → Type 0
EachFine f ks ws xs rest = (ws ≡ list_put f ks xs ++ rest) × (list_fits f ks xs ≡ true)

each_ok : {K A : Type 0} (f : K → Format A) → ((k : K) → IsExact (f k)) → (ks : List K) (ws : List (List ℕ)) (xs : List A) (rest : List (List ℕ)) → list_at f ks ws ≡ Some (xs, rest) → EachFine f ks ws xs rest
each_ok {K} {A} f x [] ws xs rest e = carried (EachFine f [] ws) [] xs ws rest e (refl, refl)
each_ok {K} {A} f x (k ∷ ks) ws xs rest e =
    let b = bind_some ((f k).get ws) (λ (x : A × List (List ℕ)). list_at f ks x.1 >>= λ y. Some (x.0 ∷ y.0, y.1)) (xs, rest) e in
    let d = bind_some (list_at f ks b.0.1) (λ (y : List A × List (List ℕ)). Some (b.0.0 ∷ y.0, y.1)) (xs, rest) b.2 in
    let u = (x k).ok ws b.0.0 b.0.1 b.1 in
    let v = each_ok f x ks b.0.1 d.0.0 d.0.1 d.1 in
    let whole : ws ≡ ((f k).put b.0.0 ++ list_put f ks d.0.0) ++ d.0.1 = u.0 ∙ ap (λ (t : List (List ℕ)). (f k).put b.0.0 ++ t) v.0 ∙ sym (append_assoc ((f k).put b.0.0) (list_put f ks d.0.0) d.0.1) in
    carried (EachFine f (k ∷ ks) ws) (b.0.0 ∷ d.0.0) xs d.0.1 rest d.2 (whole, and_from _ _ u.1 v.1)

each_again : {K A : Type 0} (f : K → Format A) → ((k : K) → IsExact (f k)) → (ks : List K) (xs : List A) (rest : List (List ℕ)) → list_fits f ks xs ≡ true → list_at f ks (list_put f ks xs ++ rest) ≡ Some (xs, rest)
each_again f x [] [] rest fit = refl
each_again f x [] (a ∷ more) rest fit = absurd (false≢true fit)
each_again f x (k ∷ ks) [] rest fit = absurd (false≢true fit)
each_again f x (k ∷ ks) (a ∷ more) rest fit =
    let p = and_parts ((f k).fits a) (list_fits f ks more) fit in
    let u = (x k).again a (list_put f ks more ++ rest) p.0 in
    let v = each_again f x ks more rest p.1 in
    rw (append_assoc, u, v) refl

pub each_exact : {K A : Type 0} (f : K → Format A) (ks : List K) → ((k : K) → IsExact (f k)) → IsExact (each_of f ks)
each_exact f ks x = record { ok = λ ws xs rest e. each_ok f x ks ws xs rest e; again = λ xs rest fit. each_again f x ks xs rest fit }

-- ---- what begins with another word

pub behind_apart : {A : Type 0} (k j : List ℕ) (f : Format A) → bytes_eq j k ≡ false → Apart k (behind j f)
behind_apart k j f n = record { not = λ b w ws rest fit e. let s : j ≡ w = cc in subst (λ (w : List ℕ). bytes_eq w k ≡ false) s n }

pub key_apart : (k j : List ℕ) → bytes_eq j k ≡ false → Apart k (key j)
key_apart k j n = record { not = λ b w ws rest fit e. let s : j ≡ w = cc in subst (λ (w : List ℕ). bytes_eq w k ≡ false) s n }

pub or_apart : {A B : Type 0} (k j : List ℕ) (f : Format A) (g : Format B) → bytes_eq j k ≡ false → Apart k g → Apart k (or_else j f g)
or_apart {A} {B} k j f g n apart = record { not = at }
  where
    at : (c : A ⊎ B) (w : List ℕ) (ws rest : List (List ℕ)) → (or_else j f g).fits c ≡ true → (or_else j f g).put c ++ rest ≡ w ∷ ws → bytes_eq w k ≡ false
    at (inl a) w ws rest fit e = let s : j ≡ w = cc in subst (λ (w : List ℕ). bytes_eq w k ≡ false) s n
    at (inr b) w ws rest fit e = apart.not b w ws rest fit e
