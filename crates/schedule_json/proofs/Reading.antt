-- What stands in a JSON value, as the kit's functions find it.
use Rattle.std.proofs.Common.{◌≡◌, ℕ, zero, suc, ◌-◌, ◌<◌, get_or, Bool, true, List, [], ◌∷◌, length, take, drop, map, Some, refl, ap, sym, arith}
use Rattle.std.proofs.Math.Seq.{take-length}
use Rattle.std.proofs.lemmas.Bool.{and_parts}
use Rattle.std.specs.List.{list_all}
use Rattle.std.proofs.lemmas.Str.{IsUtf8-from_is_utf8}
use Rattle.std.specs.Str.{is_utf8, IsUtf8}
use Rattle.serde_json.specs.Data.{Data}
use Rattle.serde_json.specs.Find.{as_object}
use Rattle.serde_json.specs.View.{members_view, items_view}
use Rattle.serde_json.specs.Events.{items_len}
use Rattle.serde_json.proofs.Views.{Entry, members_len-members_view, items_len-items_view}
use Rattle.serde_json.specs.declared.value.Value.{Value}
use Rattle.schedule_json.specs.Parts.{member_count}

-- an object's members are counted by its entries
pub member_count-entries : (v : Data) (es : List Entry) → Some (members_view es) ≡ as_object v → member_count v ≡ Some (length es)
member_count-entries v es e = let h : as_object v ≡ Some (members_view es) = sym e in rw h (ap Some (members_len-members_view es))

pub no_utf8 : (bs : List ℕ) → is_utf8 bs ≡ true → ¬ (IsUtf8 bs) → ⊥
no_utf8 bs e n = n (IsUtf8-from_is_utf8 bs e)

take_all : {X : Type 0} (x : X) (xs : List X) → take (length (x ∷ xs) - 1) xs ≡ xs
take_all x xs = let e : length (x ∷ xs) - 1 ≡ length xs = omega arith in rw e (take-length xs)

-- what all texts pass, those behind the first pass
pub behind_first : {X : Type 0} (p : X → Bool) (xs : List X) → list_all p xs ≡ true → list_all p (take (length xs - 1) (drop 1 xs)) ≡ true
behind_first p [] e = refl
behind_first p (x ∷ xs) e = rw (take_all x xs) ((and_parts (p x) (list_all p xs) e).1)

pub behind_first_of : {X : Type 0} (f : X → List ℕ) (xs : List X) → list_all is_utf8 (map f xs) ≡ true → list_all is_utf8 (map f (take (length xs - 1) (drop 1 xs))) ≡ true
behind_first_of f [] e = refl
behind_first_of f (x ∷ xs) e = rw (take_all x xs) ((and_parts (is_utf8 (f x)) (list_all is_utf8 (map f xs)) e).1)

-- and so does the one at each place
pub text_at : {X : Type 0} (f : X → List ℕ) (xs : List X) (k : ℕ) (x : X) → list_all is_utf8 (map f xs) ≡ true → k < length xs → x ≡ get_or xs k x → is_utf8 (f x) ≡ true
text_at f [] k x e below is = absurd (omega arith)
text_at f (y ∷ ys) zero x e below is = rw is ((and_parts (is_utf8 (f y)) (list_all is_utf8 (map f ys)) e).0)
text_at f (y ∷ ys) (suc k) x e below is = text_at f ys k x ((and_parts (is_utf8 (f y)) (list_all is_utf8 (map f ys)) e).1) (omega arith) is

-- a list's items are counted by its elements
pub items_length : (vs : List Value) → items_len (items_view vs) ≡ length vs
items_length vs = items_len-items_view vs
