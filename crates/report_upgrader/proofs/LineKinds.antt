-- The first word of a line of a log says what it is, and the next two which clauses it resolves.
use Rattle.std.proofs.Common.{◌≡◌, ℕ, ◌≤◌, Bool, true, false, ◌&&◌, List, [], ◌∷◌, Some, refl, sym, ap, ◌∙◌, le-leb}
use Rattle.std.specs.Prelude.{codes, nat_le}
use Rattle.std.specs.Fmt.{decimal}
use Rattle.std.specs.Str.{bytes_eq}
use Rattle.std.proofs.lemmas.Bool.{and_parts, leb-true}
use Rattle.std.proofs.lemmas.Option.{some_pair_parts}
use Rattle.proof_lines.specs.declared.line.Line.{Line}
use Rattle.proof_lines.specs.declared.line.Line.TheVariants.{Resolve, Farkas, Split, Drop}
use Rattle.report_lines.specs.Fields.{most_count, count_format}
use Rattle.report_lines.specs.Logs.{line_format}
use Rattle.report_lines.proofs.NumberFields.{count_exact}
use Rattle.report_verifier.specs.declared.notes.ResolvedPair.{ResolvedPair}
use Rattle.report_verifier.specs.Notes.{IsPair}
use Rattle.report_upgrader.specs.Passing.{IsText}
use Rattle.report_upgrader.specs.declared.log_bytes.LogLine.TheVariants as kinds
use Rattle.report_upgrader.specs.Plans.{IsKind}

head_is : {A : Type 0} (x y : A) (xs ys : List A) → (x ∷ xs) ≡ (y ∷ ys) → x ≡ y
head_is x y xs ys e = cc

tail_is : {A : Type 0} (x y : A) (xs ys : List A) → (x ∷ xs) ≡ (y ∷ ys) → xs ≡ ys
tail_is x y xs ys e = cc

-- a number that is written is the one that is read
pub number_is : (n m : ℕ) (more ws rest : List (List ℕ)) → n ≤ most_count → (decimal n ∷ more) ≡ ws → count_format.get ws ≡ Some (m, rest) → n ≡ m
number_is n m more ws rest few is h = (some_pair_parts n m more rest (sym (count_exact.again n more (le-leb n most_count few)) ∙ ap count_format.get is ∙ h)).0

behind_number : (n m : ℕ) (more ws rest : List (List ℕ)) → (decimal n ∷ more) ≡ ws → count_format.get ws ≡ Some (m, rest) → more ≡ rest
behind_number n m more ws rest is h = tail_is _ _ _ _ (is ∙ (count_exact.ok ws m rest h).0)

-- a line that resolves two clauses names them
resolves : (x y p a b : ℕ) (ws ws2 ws3 : List (List ℕ)) → ws ≡ (decimal x ∷ decimal y ∷ decimal p ∷ []) → line_format.fits (Resolve x y p) ≡ true → count_format.get ws ≡ Some (a, ws2) → count_format.get ws2 ≡ Some (b, ws3) → (x ≡ a) × (y ≡ b)
resolves x y p a b ws ws2 ws3 is f c k =
    let one = and_parts (nat_le x most_count) (nat_le y most_count && nat_le p most_count) f in
    let two = and_parts (nat_le y most_count) (nat_le p most_count) one.1 in
    let left : x ≡ a = number_is x a _ ws ws2 (leb-true x most_count one.0) (sym is) c in
    let behind = behind_number x a _ ws ws2 (sym is) c in
    let right : y ≡ b = number_is y b _ ws2 ws3 (leb-true y most_count two.0) behind k in
    (left, right)

not_first : (w k : List ℕ) → w ≡ k → bytes_eq k (codes "r") ≡ false → bytes_eq w (codes "r") ≡ true → ⊥
not_first w k is other same = let e : false ≡ true = sym other ∙ ap (λ (x : List ℕ). bytes_eq x (codes "r")) (sym is) ∙ same in absurd cc

pub resolve_kind : (l : Line) (w : List ℕ) (ws ws2 ws3 : List (List ℕ)) (a b : ℕ) → (w ∷ ws) ≡ line_format.put l → line_format.fits l ≡ true → bytes_eq w (codes "r") ≡ true → count_format.get ws ≡ Some (a, ws2) → count_format.get ws2 ≡ Some (b, ws3)
    → IsKind (kinds.Resolve a b) l
resolve_kind (Resolve x y p) w ws ws2 ws3 a b is f same c k = let r = resolves x y p a b ws ws2 ws3 (tail_is _ _ _ _ is) f c k in (p, λ i. Resolve (r.0 i) (r.1 i) p)
resolve_kind (Farkas used steps) w ws ws2 ws3 a b is f same c k = absurd (not_first w (codes "f") (head_is _ _ _ _ is) refl same)
resolve_kind (Split place at used steps low high values) w ws ws2 ws3 a b is f same c k = absurd (not_first w (codes "s") (head_is _ _ _ _ is) refl same)
resolve_kind (Drop clauses) w ws ws2 ws3 a b is f same c k = absurd (not_first w (codes "d") (head_is _ _ _ _ is) refl same)

clash : (w k v : List ℕ) (x y : Bool) → w ≡ k → bytes_eq k v ≡ x → bytes_eq w v ≡ y → x ≡ y
clash w k v x y is a b = sym a ∙ ap (λ (u : List ℕ). bytes_eq u v) (sym is) ∙ b

-- a line that drops clauses
pub drop_kind : (l : Line) (words : List (List ℕ)) (w : List ℕ) (ws : List (List ℕ)) → words ≡ line_format.put l → words ≡ (w ∷ ws) → bytes_eq w (codes "d") ≡ true → IsKind kinds.Drop l
drop_kind (Resolve x y p) words w ws is front same = absurd (let e : false ≡ true = clash w (codes "r") (codes "d") false true (head_is _ _ _ _ (sym front ∙ is)) refl same in cc)
drop_kind (Farkas used steps) words w ws is front same = absurd (let e : false ≡ true = clash w (codes "f") (codes "d") false true (head_is _ _ _ _ (sym front ∙ is)) refl same in cc)
drop_kind (Split place at used steps low high values) words w ws is front same = absurd (let e : false ≡ true = clash w (codes "s") (codes "d") false true (head_is _ _ _ _ (sym front ∙ is)) refl same in cc)
drop_kind (Drop clauses) words w ws is front same = (refl, refl)

-- any other line
pub other_kind : (l : Line) (words : List (List ℕ)) (w : List ℕ) (ws : List (List ℕ)) → words ≡ line_format.put l → words ≡ (w ∷ ws) → bytes_eq w (codes "r") ≡ false → bytes_eq w (codes "d") ≡ false → IsKind kinds.Other l
other_kind (Resolve x y p) words w ws is front r d = absurd (let e : true ≡ false = clash w (codes "r") (codes "r") true false (head_is _ _ _ _ (sym front ∙ is)) refl r in cc)
other_kind (Farkas used steps) words w ws is front r d = (refl, refl)
other_kind (Split place at used steps low high values) words w ws is front r d = (refl, refl)
other_kind (Drop clauses) words w ws is front r d = absurd (let e : true ≡ false = clash w (codes "d") (codes "d") true false (head_is _ _ _ _ (sym front ∙ is)) refl d in cc)

-- a line of which it was noted that it resolves two clauses
pub pair_kind : (l : Line) (text : List ℕ) (x : ResolvedPair) → x.left ≤ most_count → x.right ≤ most_count → IsText l text → IsPair (Some x) text → IsKind (kinds.Resolve x.left x.right) l
pair_kind l text x left right (words, fits) (p, is) =
    let ws : List (List ℕ) = decimal p ∷ [] in
    resolve_kind l (codes "r") (decimal x.left ∷ decimal x.right ∷ ws) (decimal x.right ∷ ws) ws x.left x.right (sym is ∙ words) fits refl
    (count_exact.again x.left (decimal x.right ∷ ws) (le-leb x.left most_count left)) (count_exact.again x.right ws (le-leb x.right most_count right))
