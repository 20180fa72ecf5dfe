-- Lists that are checked one by one, with those found so far in front.
use Rattle.std.proofs.Common.{◌≡◌, ℤ, List, [], ◌∷◌, ◌++◌, Option, None, Some, option_map, Ok, Err, refl, ap, append_assoc, sym, append-nil}
use Rattle.schedule_json.specs.Checks.{Checked, with_first}

-- what was found, and then what further checks give
abbrev pub behind : {A : Type 0} → List A → Checked (List A) → Checked (List A)
behind xs (Ok ys) = Ok (xs ++ ys)
behind xs (Err why) = Err why

pub behind-none : {A : Type 0} (r : Checked (List A)) → behind [] r ≡ r
behind-none (Ok ys) = refl
behind-none (Err why) = refl

pub behind-first : {A : Type 0} (xs : List A) (x : A) (r : Checked (List A)) → behind xs (with_first (Ok x) r) ≡ behind (xs ++ x ∷ []) r
behind-first xs x (Ok ys) = ap Ok (sym (append_assoc xs (x ∷ []) ys))
behind-first xs x (Err why) = refl

pub behind-last : {A : Type 0} (xs : List A) → behind xs (Ok []) ≡ Ok xs
behind-last xs = ap Ok (append-nil xs)

-- the numbers that were found, and then the rest
abbrev pub found : List ℤ → Option (List ℤ) → Option (List ℤ)
found ns None = None
found ns (Some ms) = Some (ns ++ ms)

pub found-none : (r : Option (List ℤ)) → found [] r ≡ r
found-none None = refl
found-none (Some ms) = refl

pub found-first : (ns : List ℤ) (n : ℤ) (r : Option (List ℤ)) → found ns (option_map (λ ms. n ∷ ms) r) ≡ found (ns ++ n ∷ []) r
found-first ns n None = refl
found-first ns n (Some ms) = ap Some (sym (append_assoc ns (n ∷ []) ms))
