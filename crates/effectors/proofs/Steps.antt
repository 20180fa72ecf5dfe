-- One step of the loops that write new readings.
use Rattle.std.proofs.Common.{◌≡◌, ℕ, ◌+◌, ◌<◌, ◌≤◌, Bool, true, ◌&&◌, List, [], ◌∷◌, length, get_or, drop, sym, ◌∙◌, ap}
use Rattle.std.proofs.lemmas.Bool.{and_parts}
use Rattle.std.specs.List.{list_all}
use Rattle.std.proofs.lemmas.List.{at_drop_more, at_drop_all}
use Rattle.spec_core.specs.State.{Reads, with_has, with_count}
use Rattle.effectors.specs.Reaching.{with_tuples, with_keys}
use Rattle.effectors.proofs.Reached.{with_tuples-cons, with_keys-cons, with_tuples-nil, with_keys-nil}

-- the next element before the ones that remain
pub next : {X : Type 0} (xs : List X) (i : ℕ) (x : X) → i < length xs → x ≡ get_or xs i x → drop i xs ≡ x ∷ drop (i + 1) xs
next xs i x lt e = at_drop_more (λ l. l) xs i x lt ∙ ap (λ y. y ∷ drop (i + 1) xs) (sym e)

pub none_left : {X : Type 0} (xs : List X) (i : ℕ) → length xs ≤ i → drop i xs ≡ []
none_left xs i le = at_drop_all (λ l. l) xs i le

pub rest_pass : {X : Type 0} (p : X → Bool) (xs : List X) (x : X) (rest : List X) → xs ≡ x ∷ rest → list_all p xs ≡ true → (p x ≡ true) × (list_all p rest ≡ true)
rest_pass p xs x rest e h = and_parts (p x) (list_all p rest) (sym (ap (list_all p) e) ∙ h)

pub tuples_step : (k : ℕ) (ts rest : List (List ℕ)) (t : List ℕ) (n r after goal : Reads) → ts ≡ t ∷ rest → after ≡ with_has r k t (n.has k t) → with_tuples k ts n r ≡ goal → with_tuples k rest n after ≡ goal
tuples_step k ts rest t n r after goal e w h = ap (with_tuples k rest n) w ∙ with_tuples-cons k t rest n r ∙ ap (λ l. with_tuples k l n r) (sym e) ∙ h

pub keys_step : (k : ℕ) (ts rest : List (List ℕ)) (t : List ℕ) (n r after goal : Reads) → ts ≡ t ∷ rest → after ≡ with_count r k t (n.count k t) → with_keys k ts n r ≡ goal → with_keys k rest n after ≡ goal
keys_step k ts rest t n r after goal e w h = ap (with_keys k rest n) w ∙ with_keys-cons k t rest n r ∙ ap (λ l. with_keys k l n r) (sym e) ∙ h

pub tuples_done : (k : ℕ) (ts : List (List ℕ)) (n r goal : Reads) → ts ≡ [] → with_tuples k ts n r ≡ goal → r ≡ goal
tuples_done k ts n r goal e h = sym (with_tuples-nil k n r) ∙ ap (λ l. with_tuples k l n r) (sym e) ∙ h

pub keys_done : (k : ℕ) (ts : List (List ℕ)) (n r goal : Reads) → ts ≡ [] → with_keys k ts n r ≡ goal → r ≡ goal
keys_done k ts n r goal e h = sym (with_keys-nil k n r) ∙ ap (λ l. with_keys k l n r) (sym e) ∙ h

pub passed : (a b g : Bool) → a ≡ true → (a && b) ≡ g → b ≡ g
passed a b g p q = ap (λ c. c && b) (sym p) ∙ q
