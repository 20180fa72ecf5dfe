-- Looking for a name, place by place.
use Rattle.std.proofs.Common.{◌≡◌, ℕ, suc, ◌+◌, ◌<◌, ◌≤◌, Bool, true, false, cond, ◌&&◌, List, [], ◌∷◌, map, drop, length, get_or, Option, Some, refl, sym, ap, subst, ◌∙◌, arith}
use Rattle.std.specs.Prelude.{nat_lt, nat_le}
use Rattle.std.specs.Str.{bytes_eq}
use Rattle.std.proofs.lemmas.Option.{none-some, some_pair_parts}
use Rattle.std.proofs.lemmas.Bool.Decides.{nat_tests}
use Rattle.std.proofs.Math.Seq.{drop-cons}
use Rattle.std.proofs.Math.ListN.{get_or-map}
use Rattle.std.proofs.lemmas.List.{length-map}
use Rattle.report_lines.specs.Words.{next_of}
use Rattle.report_lines.specs.Formats.{place_from, word_at}
use Rattle.report_lines.proofs.Among.{place_is}

step : {A : Type 0} (f : A → List ℕ) (things : List A) (place : ℕ) (x : A) (w : List ℕ) (b : Bool) → place < length things → x ≡ get_or things place x → bytes_eq w (f x) ≡ b
    → place_from place (drop place (map f things)) w ≡ cond b (Some place) (place_from (suc place) (drop (suc place) (map f things)) w)
step f things place x w b lt at e =
    let l : place < length (map f things) = subst (λ (n : ℕ). place < n) (sym (length-map things f)) lt in
    let d = drop-cons (map f things) place (f x) l in
    let n : get_or (map f things) place (f x) ≡ f x = get_or-map f things place x ∙ ap f (sym at) in
    rw (d, n, e) refl

pub is_here : {A : Type 0} (f : A → List ℕ) (things : List A) (place : ℕ) (x : A) (w : List ℕ) (total : Option ℕ) → place < length things → x ≡ get_or things place x → bytes_eq w (f x) ≡ true
    → place_from place (drop place (map f things)) w ≡ total → Some place ≡ total
is_here f things place x w total lt at e so_far = sym (step f things place x w true lt at e) ∙ so_far

pub is_behind : {A : Type 0} (f : A → List ℕ) (things : List A) (place : ℕ) (x : A) (w : List ℕ) (total : Option ℕ) → place < length things → x ≡ get_or things place x → bytes_eq w (f x) ≡ false
    → place_from place (drop place (map f things)) w ≡ total → place_from (place + 1) (drop (place + 1) (map f things)) w ≡ total
is_behind f things place x w total lt at e so_far =
    let s : place + 1 ≡ suc place = omega arith in
    rw s (sym (step f things place x w false lt at e) ∙ so_far)

-- ---- what was found

pub found_fits : (from : ℕ) (names : List (List ℕ)) (w : List ℕ) (k : ℕ) → Some k ≡ place_from from (drop from names) w → (nat_le from k && nat_lt k (length names)) ≡ true
found_fits from names w k e = (place_is from names w k (sym e)).1

pub found_small : {A : Type 0} (f : A → List ℕ) (things : List A) (from : ℕ) (w : List ℕ) (k : ℕ) → length things ≤ 255 → Some k ≡ place_from from (drop from (map f things)) w → k < 255
found_small f things from w k few e =
    let l = length-map things f in
    let h = found_fits from (map f things) w k e in
    below_few from k (length (map f things)) (length things) h l few
  where
    below_few : (from k n m : ℕ) → (nat_le from k && nat_lt k n) ≡ true → n ≡ m → m ≤ 255 → k < 255
    below_few from k n m h e few = grind (arith, nat_tests)

pub word_read : {A : Type 0} (value : List ℕ → Option A) (fits : A → Bool) (ws rest : List (List ℕ)) (w : List ℕ) (a : A) → next_of ws ≡ Some (w, rest) → value w ≡ Some a → fits a ≡ true → word_at value fits ws ≡ Some (a, rest)
word_read value fits [] rest w a e v f = absurd (none-some _ e)
word_read {A} value fits (x ∷ ws) rest w a e v f =
    let p = some_pair_parts x w ws rest e in
    let v' : value x ≡ Some a = ap value p.0 ∙ v in
    let s : word_at value fits (x ∷ ws) ≡ Some (a, ws) = rw (v', f) refl in
    s ∙ ap (λ (t : List (List ℕ)). Some (a, t)) p.1
