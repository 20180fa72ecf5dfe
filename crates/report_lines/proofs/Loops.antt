-- Reading so many values one after the other, as a loop does.
use Rattle.std.proofs.Common.{◌≡◌, ℕ, suc, ◌-◌, ◌+◌, ◌≤◌, ◌<◌, List, [], ◌∷◌, ◌++◌, length, drop, get_or, Some, None, refl, sym, ap, ◌∙◌, append_assoc, arith}
use Rattle.std.proofs.Math.Seq.{drop-cons}
use Rattle.std.proofs.Math.ListN.{drop_of_length-le}
use Rattle.std.proofs.lemmas.List.{append-nil}
use Rattle.report_lines.specs.declared.words.ReadError.{ReadError}
use Rattle.report_lines.specs.declared.words.ReadError.TheVariants as errors
use Rattle.report_lines.specs.Formats.{◌>>=◌, Read, Format, times_at, list_at}
use Rattle.report_lines.specs.Words.{Fails}

-- what was read before, and what is still read
abbrev pub with_front : {A : Type 0} → List A → Read (List A) → Read (List A)
with_front front read = read >>= λ x. Some (front ++ x.0, x.1)

abbrev cons_to : {A : Type 0} → A → Read (List A) → Read (List A)
cons_to a z = z >>= λ y. Some (a ∷ y.0, y.1)

regrouped : {A : Type 0} (front : List A) (x : A) (z : Read (List A)) → with_front front (cons_to x z) ≡ with_front (front ++ x ∷ []) z
regrouped front x (Some y) = ap (λ (ns : _). Some (ns, y.1)) (simp append_assoc)
regrouped front x None = refl

pub goes_on : {A : Type 0} (f : Format A) (front : List A) (count i : ℕ) (ws : List (List ℕ)) (x : A) (after : List (List ℕ)) (total : Read (List A)) → i < count → f.get ws ≡ Some (x, after)
    → with_front front (times_at f (count - i) ws) ≡ total → with_front (front ++ x ∷ []) (times_at f (count - (i + 1)) after) ≡ total
unfolding times_at
goes_on {A} f front count i ws x after total lt h so_far =
    let k : count - i ≡ suc (count - (i + 1)) = omega arith in
    let one : with_front front (times_at f (count - i) ws) ≡ with_front (front ++ x ∷ []) (times_at f (count - (i + 1)) after) = rw (k, h) (regrouped front x (times_at f (count - (i + 1)) after)) in
    sym one ∙ so_far

pub ends : {A : Type 0} (f : Format A) (e : ReadError) (front : List A) (count i : ℕ) (ws : List (List ℕ)) (total : Read (List A)) → i < count → Fails e (f.get ws)
    → with_front front (times_at f (count - i) ws) ≡ total → Fails e total
unfolding times_at
ends f errors.Memory front count i ws total lt h so_far = tt
ends f errors.Form front count i ws total lt h so_far =
    let k : count - i ≡ suc (count - (i + 1)) = omega arith in
    let one : with_front front (times_at f (count - i) ws) ≡ None = rw (k, h) refl in
    sym so_far ∙ one

pub is_done : {A : Type 0} (f : Format A) (front : List A) (count i : ℕ) (ws : List (List ℕ)) (total : Read (List A)) → count ≤ i → with_front front (times_at f (count - i) ws) ≡ total → total ≡ Some (front, ws)
unfolding times_at
is_done f front count i ws total le so_far =
    let k : count - i ≡ 0 = omega arith in
    let one : with_front front (times_at f (count - i) ws) ≡ Some (front, ws) = rw k (ap (λ (ns : List _). Some (ns, ws)) (append-nil front)) in
    sym so_far ∙ one

no_front : {A : Type 0} (z : Read (List A)) → with_front [] z ≡ z
no_front (Some y) = refl
no_front None = refl

pub begins : {A : Type 0} (f : Format A) (front : List A) (count : ℕ) (ws : List (List ℕ)) → front ≡ [] → with_front front (times_at f (count - 0) ws) ≡ times_at f count ws
begins f front count ws e =
    let k : count - 0 ≡ count = omega arith in
    rw (e, k) (no_front (times_at f count ws))

-- ---- one of each

each_rest : {K A : Type 0} (f : K → Format A) (ks : List K) (i : ℕ) (k : K) (ws : List (List ℕ)) → i < length ks → k ≡ get_or ks i k → list_at f (drop i ks) ws ≡ list_at f (k ∷ drop (suc i) ks) ws
each_rest f ks i k ws lt at =
    let d : drop i ks ≡ k ∷ drop (suc i) ks = drop-cons ks i k lt ∙ ap (λ (x : _). x ∷ drop (suc i) ks) (sym at) in
    ap (λ (rest : List _). list_at f rest ws) d

pub each_goes_on : {K A : Type 0} (f : K → Format A) (front : List A) (ks : List K) (i : ℕ) (k : K) (ws : List (List ℕ)) (x : A) (after : List (List ℕ)) (total : Read (List A)) → i < length ks → k ≡ get_or ks i k → (f k).get ws ≡ Some (x, after)
    → with_front front (list_at f (drop i ks) ws) ≡ total → with_front (front ++ x ∷ []) (list_at f (drop (i + 1) ks) after) ≡ total
each_goes_on {K} {A} f front ks i k ws x after total lt at h so_far =
    let s : i + 1 ≡ suc i = omega arith in
    let one : list_at f (k ∷ drop (suc i) ks) ws ≡ cons_to x (list_at f (drop (suc i) ks) after) = rw h refl in
    let two : with_front front (list_at f (drop i ks) ws) ≡ with_front (front ++ x ∷ []) (list_at f (drop (suc i) ks) after) =
    ap (with_front front) (each_rest f ks i k ws lt at ∙ one) ∙ regrouped front x (list_at f (drop (suc i) ks) after) in
    rw s (sym two ∙ so_far)

pub each_ends : {K A : Type 0} (f : K → Format A) (e : ReadError) (front : List A) (ks : List K) (i : ℕ) (k : K) (ws : List (List ℕ)) (total : Read (List A)) → i < length ks → k ≡ get_or ks i k → Fails e ((f k).get ws)
    → with_front front (list_at f (drop i ks) ws) ≡ total → Fails e total
each_ends f errors.Memory front ks i k ws total lt at h so_far = tt
each_ends {K} {A} f errors.Form front ks i k ws total lt at h so_far =
    let one : list_at f (k ∷ drop (suc i) ks) ws ≡ None = rw h refl in
    let two : with_front front (list_at f (drop i ks) ws) ≡ None = ap (with_front front) (each_rest f ks i k ws lt at ∙ one) in
    sym so_far ∙ two

pub each_begins : {K A : Type 0} (f : K → Format A) (front : List A) (ks : List K) (ws : List (List ℕ)) → front ≡ [] → with_front front (list_at f (drop 0 ks) ws) ≡ list_at f ks ws
each_begins f front ks ws e = rw e (no_front (list_at f ks ws))

pub each_done : {K A : Type 0} (f : K → Format A) (front : List A) (ks : List K) (i : ℕ) (ws : List (List ℕ)) (total : Read (List A)) → length ks ≤ i → with_front front (list_at f (drop i ks) ws) ≡ total → total ≡ Some (front, ws)
each_done f front ks i ws total le so_far =
    let d = drop_of_length-le ks le in
    let one : with_front front (list_at f (drop i ks) ws) ≡ Some (front, ws) = rw d (ap (λ (ns : List _). Some (ns, ws)) (append-nil front)) in
    sym so_far ∙ one
