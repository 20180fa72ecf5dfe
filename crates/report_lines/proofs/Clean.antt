-- What a format writes are words without spaces and line feeds: each way of putting formats together keeps this.
use Rattle.std.proofs.Common.{◌≡◌, ℕ, zero, suc, ◌≤◌, ◌||◌, get_or, unsigned_abs, Bool, true, false, not, cond, ◌&&◌, eqb, leb, List, [], ◌∷◌, length, Option, Some, None, ◌⊎◌, inl, inr, refl, ◌∙◌, arith}
use Rattle.std.proofs.lemmas.Bool.{and_parts, and_from, false≢true, leb-true, eqb-true}
use Rattle.std.proofs.lemmas.Bool.Decides.{nat_tests}
use Rattle.std.proofs.lemmas.List.Folds.{list_all-append}
use Rattle.std.specs.Prelude.{◌==◌, ℤ, codes}
use Rattle.std.specs.Str.{bytes_eq}
use Rattle.std.specs.List.{list_all, flat_map}
use Rattle.std.specs.Fmt.{decimal}
use Rattle.word_cut.specs.Texts.{is_digit, is_number, is_empty}
use Rattle.word_cut.specs.Whole.{greatest, is_whole, whole_of}
use Rattle.word_cut.proofs.Spelled.{decimal_writes, read_of-spelled}
use Rattle.std.specs.Fmt.{signed_decimal}
use Rattle.report_lines.specs.Words.{is_part}
use Rattle.report_lines.specs.Formats.{Format, IsClean, nothing, none, key, word, number, whole, among, chain, behind, these, seen, only, Case, put_some, fits_some, case, or_else, times, counted, list_put, list_fits, each_of}
use Rattle.report_lines.proofs.Exact.{guard_some}

abbrev is_plain : ℕ → Bool
is_plain b = not ((b == 32) || (b == 10))

digit_part : (b : ℕ) → is_digit b ≡ true → is_plain b ≡ true
digit_part b h = grind (arith, nat_tests)

digits_part : (bs : List ℕ) → list_all is_digit bs ≡ true → is_part bs ≡ true
digits_part [] h = refl
digits_part (b ∷ bs) h = let p = and_parts (is_digit b) (list_all is_digit bs) h in and_from _ _ (digit_part b p.0) (digits_part bs p.1)

empty_part : (bs : List ℕ) → is_empty bs ≡ true → is_part bs ≡ true
empty_part [] h = refl
empty_part (b ∷ bs) h = absurd (false≢true h)

number_cases : (b : ℕ) (bs : List ℕ) (z : Bool) → eqb b 48 ≡ z → cond z (is_empty bs) (is_digit b && list_all is_digit bs) ≡ true → is_part (b ∷ bs) ≡ true
number_cases b bs true z h = let s = eqb-true b 48 z in rw s (empty_part bs h)
number_cases b bs false z h = digits_part (b ∷ bs) h

number_part : (ds : List ℕ) → is_number ds ≡ true → is_part ds ≡ true
number_part [] h = absurd (false≢true h)
number_part (b ∷ bs) h = number_cases b bs (eqb b 48) refl h

signed_cases : (b : ℕ) (bs : List ℕ) (z : Bool) → eqb b 45 ≡ z → cond z (is_number bs && not (bytes_eq bs (codes "0"))) (is_number (b ∷ bs)) ≡ true → is_part (b ∷ bs) ≡ true
signed_cases b bs true z h = let s = eqb-true b 45 z in rw s (number_part bs (and_parts (is_number bs) _ h).0)
signed_cases b bs false z h = number_part (b ∷ bs) h

whole_part : (ds : List ℕ) → is_whole ds ≡ true → is_part ds ≡ true
whole_part [] h = absurd (false≢true h)
whole_part (b ∷ bs) h = signed_cases b bs (eqb b 45) refl h

pub decimal_part : (n : ℕ) → n ≤ greatest → is_part (decimal n) ≡ true
decimal_part n small = number_part (decimal n) (decimal_writes n small).0

pub key_clean : (k : List ℕ) → is_part k ≡ true → IsClean (key k)
key_clean k h = record { parts = λ u fit. and_from _ _ h refl }

pub signed_part : (z : ℤ) → unsigned_abs z ≤ greatest → is_part (signed_decimal z) ≡ true
signed_part z small = whole_part (signed_decimal z) (is_read z small)
  where
    is_read : (z : ℤ) → unsigned_abs z ≤ greatest → is_whole (signed_decimal z) ≡ true
    is_read z small =
        let e = (read_of-spelled (signed_decimal z) z small).1 refl in
        let g = guard_some (is_whole (signed_decimal z) && leb (unsigned_abs (whole_of (signed_decimal z))) greatest) (whole_of (signed_decimal z)) z e in
        (and_parts (is_whole (signed_decimal z)) _ g.0).0

pub word_clean : {A : Type 0} (text : A → List ℕ) (value : List ℕ → Option A) (fits : A → Bool) → ((a : A) → fits a ≡ true → is_part (text a) ≡ true) → IsClean (word text value fits)
word_clean text value fits h = record { parts = λ a fit. and_from _ _ (h a fit) refl }

pub number_clean : (most : ℕ) → most ≤ greatest → IsClean (number most)
number_clean most small = record { parts = λ n fit. let le = leb-true n most fit in and_from _ _ (decimal_part n (omega arith)) refl }

pub chain_clean : {A B : Type 0} (f : Format A) (g : A → Format B) → IsClean f → ((a : A) → IsClean (g a)) → IsClean (chain f g)
chain_clean f g x y = record { parts = λ c fit. let p = and_parts (f.fits c.0) ((g c.0).fits c.1) fit in list_all-append is_part (f.put c.0) ((g c.0).put c.1) ∙ and_from _ _ (x.parts c.0 p.0) ((y c.0).parts c.1 p.1) }

pub behind_clean : {A : Type 0} (k : List ℕ) (f : Format A) → is_part k ≡ true → IsClean f → IsClean (behind k f)
behind_clean k f h x = record { parts = λ a fit. and_from _ _ h (x.parts a fit) }

pub seen_clean : {A B : Type 0} (to : A → B) (from : B → A) (f : Format A) → IsClean f → IsClean (seen to from f)
seen_clean to from f x = record { parts = λ b fit. x.parts (from b) fit }

pub only_clean : {A : Type 0} (test : A → Bool) (f : Format A) → IsClean f → IsClean (only test f)
only_clean test f x = record { parts = λ a fit. x.parts a (and_parts (f.fits a) (test a) fit).0 }

pub or_clean : {A B : Type 0} (k : List ℕ) (f : Format A) (g : Format B) → is_part k ≡ true → IsClean f → IsClean g → IsClean (or_else k f g)
or_clean {A} {B} k f g h x y = record { parts = at }
  where
    at : (c : A ⊎ B) → (or_else k f g).fits c ≡ true → list_all is_part ((or_else k f g).put c) ≡ true
    at (inl a) fit = and_from _ _ h (x.parts a fit)
    at (inr b) fit = y.parts b fit

flat_clean : {A : Type 0} (f : Format A) → IsClean f → (xs : List A) → list_all f.fits xs ≡ true → list_all is_part (flat_map f.put xs) ≡ true
flat_clean f x [] fit = refl
flat_clean f x (a ∷ more) fit = let p = and_parts (f.fits a) (list_all f.fits more) fit in list_all-append is_part (f.put a) (flat_map f.put more) ∙ and_from _ _ (x.parts a p.0) (flat_clean f x more p.1)

pub counted_clean : {A : Type 0} (most : ℕ) (f : Format A) → most ≤ greatest → IsClean f → IsClean (counted most f)
counted_clean most f small x = record { parts = λ xs fit. let p = and_parts (leb (length xs) most) (list_all f.fits xs) fit in let le = leb-true (length xs) most p.0 in and_from _ _ (decimal_part (length xs) (omega arith)) (flat_clean f x xs p.1) }

pub whole_clean : (most : ℕ) → most ≤ greatest → IsClean (whole most)
whole_clean most small = record { parts = λ z fit. let le = leb-true (unsigned_abs z) most fit in and_from _ _ (signed_part z (omega arith)) refl }

pub nothing_clean : IsClean nothing
nothing_clean = record { parts = λ u fit. refl }

pub none_clean : {A : Type 0} → IsClean (none {A = A})
none_clean = record { parts = λ a fit. refl }

pub these_clean : (ks : List (List ℕ)) → list_all is_part ks ≡ true → IsClean (these ks)
these_clean ks h = record { parts = λ u fit. h }

pub case_clean : {A B : Type 0} (c : Case B A) (f : Format A) → IsClean f → IsClean (case c f)
case_clean {A} {B} c f x = record { parts = λ e fit. at (c.from e) fit }
  where
    at : (o : Option A) → fits_some f o ≡ true → list_all is_part (put_some f o) ≡ true
    at None fit = absurd (false≢true fit)
    at (Some a) fit = x.parts a fit

pub times_clean : {A : Type 0} (f : Format A) (n : ℕ) → IsClean f → IsClean (times f n)
times_clean f n x = record { parts = λ xs fit. flat_clean f x xs (and_parts (eqb (length xs) n) (list_all f.fits xs) fit).1 }

each_parts : {K A : Type 0} (f : K → Format A) → ((k : K) → IsClean (f k)) → (ks : List K) (xs : List A) → list_fits f ks xs ≡ true → list_all is_part (list_put f ks xs) ≡ true
each_parts f x [] xs fit = refl
each_parts f x (k ∷ ks) [] fit = refl
each_parts f x (k ∷ ks) (a ∷ more) fit =
    let p = and_parts ((f k).fits a) (list_fits f ks more) fit in
    list_all-append is_part ((f k).put a) (list_put f ks more) ∙ and_from _ _ ((x k).parts a p.0) (each_parts f x ks more p.1)

pub each_clean : {K A : Type 0} (f : K → Format A) (ks : List K) → ((k : K) → IsClean (f k)) → IsClean (each_of f ks)
each_clean f ks x = record { parts = λ xs fit. each_parts f x ks xs fit }

part_at : (names : List (List ℕ)) (k : ℕ) → list_all is_part names ≡ true → is_part (get_or names k []) ≡ true
part_at [] k h = refl
part_at (n ∷ names) zero h = (and_parts (is_part n) (list_all is_part names) h).0
part_at (n ∷ names) (suc k) h = part_at names k (and_parts (is_part n) (list_all is_part names) h).1

pub among_clean : (from : ℕ) (names : List (List ℕ)) → list_all is_part names ≡ true → IsClean (among from names)
among_clean from names h = record { parts = λ k fit. and_from _ _ (part_at names k h) refl }
